use Rattle.std.proofs.Common.{◌≡◌, ◌∙◌, ap, subst, nat_lt}
use Rattle.ld_table.specs.Table.{keep_keys}
use Rattle.ld_op.specs.Places.{filled, AreUnderTheirNumbers}
use Rattle.ld_op.proofs.Places.{filled-keep_keys, under_after_keep_keys}
use Rattle.ld_op.proofs.entries.EntryMap.trim.Goals as goal

left : (c : goal.After-drop_through) → filled c.drop_through.new.map.entries ≡ keep_keys (λ s. nat_lt c.args.trim s) (filled c.args.self.now)
left c = ap filled (c.drop_through.ensures ∙ ap (keep_keys (λ s. nat_lt c.args.trim s)) c.self.view_is) ∙ filled-keep_keys (λ s. nat_lt c.args.trim s) c.args.self.now

pub returns : goal.returns
returns c = left c

pub invariant_of-self : goal.invariant_of-self
invariant_of-self c = under_after_keep_keys (λ s. nat_lt c.args.trim s) c.drop_through.new.map.entries c.args.self.now (left c) (subst AreUnderTheirNumbers c.self.view_is c.self.invariant)
