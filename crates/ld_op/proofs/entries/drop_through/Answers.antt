use Rattle.std.proofs.Common.{◌∙◌, sym, ap, nat_lt}
use Rattle.ld_table.specs.Table.{keep_keys}
use Rattle.ld_op.proofs.Places.{keep_keys-front, keep_keys-above}
use Rattle.ld_op.proofs.entries.drop_through.Goals as goal

pub taken-preserved : goal.taken-preserved
taken-preserved c = ap (keep_keys (λ s. nat_lt c.args.number s)) c.drop_first.ensures
    ∙ (keep_keys-front c.args.number c.taken.map.entries (sym c.starts_by.ensures.value ∙ c.taken-test.true) ∙ c.taken.invariant)

pub returns : goal.returns
returns c = sym (keep_keys-above c.args.number c.taken.map.entries c.starts_by.ensures.ordered (sym c.starts_by.ensures.value ∙ c.taken-test.false)) ∙ c.taken.invariant
