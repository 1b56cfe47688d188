use Rattle.std.proofs.Common.{◌≡◌, ◌∙◌, ap, subst, nat_lt, rules}
use Rattle.ld_table.specs.Table.{keep, keep_keys, Ordered}
use Rattle.ld_op.specs.Plain.{survives_clean}
use Rattle.ld_op.specs.Places.{filled, AreUnderTheirNumbers}
use Rattle.ld_op.proofs.Places.{under_after_keep}
use Rattle.ld_op.proofs.Older.{cleaned_by}
use Rattle.ld_op.proofs.entries.EntryMap.close.Goals as goal

left : (c : goal.After-drop_older) → filled c.drop_older.new.map.entries ≡ keep (λ s e. survives_clean c.args.trim c.args.epoch c.args.summary.now e) (filled c.args.self.now)
left c = cleaned_by c.args.trim c.args.epoch c.value.result c.value-2.result c.args.summary.now c.args.self.now c.drop_through.new.map.entries c.drop_older.new.map.entries
    (subst Ordered c.self.view_is c.len.ensures.ordered) (subst AreUnderTheirNumbers c.self.view_is c.self.invariant) (search rules) (c.value.ensures ∙ c.new-good.ensures) (c.value-2.ensures ∙ c.new-last.ensures)
    (c.drop_through.ensures ∙ ap (keep_keys (λ s. nat_lt c.args.trim s)) c.self.view_is) c.drop_older.ensures

pub returns : goal.returns
returns c = left c

pub invariant_of-self : goal.invariant_of-self
invariant_of-self c = under_after_keep (λ s e. survives_clean c.args.trim c.args.epoch c.args.summary.now e) c.drop_older.new.map.entries c.args.self.now (left c) (subst AreUnderTheirNumbers c.self.view_is c.self.invariant)
