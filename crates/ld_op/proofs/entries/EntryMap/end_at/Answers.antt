use Rattle.std.proofs.Common.{◌≡◌, ◌∙◌, ap, subst}
use Rattle.ld_table.specs.Table.{keep, Ordered}
use Rattle.ld_lsn.specs.Number.{epoch_of, numbered, last_esn}
use Rattle.ld_op.specs.Plain.{survives_bridge}
use Rattle.ld_op.specs.Places.{filled, place_passes, AreUnderTheirNumbers}
use Rattle.ld_op.specs.Older.{stands_between}
use Rattle.ld_op.proofs.Places.{under_after_keep, place_kept}
use Rattle.ld_op.proofs.Older.{ended_by, stands_itself}
use Rattle.ld_op.proofs.entries.EntryMap.end_at.Goals as goal

kept : (c : goal.After-drop_older) → c.drop_older.new.map.entries ≡ keep (place_passes (stands_between c.args.bridge.now.ballot c.args.bridge.now.number c.value-2.result)) c.args.self.now
kept c = c.drop_older.ensures ∙ ap (λ b. keep (place_passes (stands_between b c.value.result c.value-2.result)) c.self.inside.map.entries) c.ballot.ensures ∙ (ap (λ a. keep (place_passes (stands_between c.args.bridge.now.ballot a c.value-2.result)) c.self.inside.map.entries) (c.value.ensures ∙ c.number-number.ensures) ∙ ap (keep (place_passes (stands_between c.args.bridge.now.ballot c.args.bridge.now.number c.value-2.result))) c.self.view_is)

left : (c : goal.After-drop_older) → filled c.drop_older.new.map.entries ≡ keep (λ s e. survives_bridge c.args.bridge.now e) (filled c.args.self.now)
left c = ended_by c.args.bridge.now c.value-2.result c.args.self.now c.drop_older.new.map.entries (subst Ordered c.self.view_is c.len.ensures.ordered) (subst AreUnderTheirNumbers c.self.view_is c.self.invariant)
    (c.value-2.ensures ∙ (c.new-last.ensures ∙ ap (λ e. numbered e last_esn) (c.epoch.ensures ∙ ap epoch_of c.number-number.ensures))) (kept c)

pub returns-clause-value : goal.returns-clause-value
returns-clause-value c = left c

pub returns-clause-place : goal.returns-clause-place
returns-clause-place c = place_kept (stands_between c.args.bridge.now.ballot c.args.bridge.now.number c.value-2.result) c.args.bridge.now.number c.args.self.now c.drop_older.new.map.entries (kept c)
    (stands_itself c.args.bridge.now c.value-2.result c.args.self.now)

pub invariant_of-self : goal.invariant_of-self
invariant_of-self c = under_after_keep (λ s e. survives_bridge c.args.bridge.now e) c.drop_older.new.map.entries c.args.self.now (left c) (subst AreUnderTheirNumbers c.self.view_is c.self.invariant)
