use Rattle.std.proofs.Common.{Some, ◌≡◌, ◌∙◌, subst, sym, true, ap}
use Rattle.ld_table.specs.Table.{put, find}
use Rattle.ld_op.specs.Places.{filled, has_place, AreUnderTheirNumbers}
use Rattle.ld_op.proofs.Places.{put_at_place, filled-put_by, has_place-put_there, under_after_put}
use Rattle.ld_op.proofs.entries.EntryMap.put.Goals as goal

placed : (c : goal.After-insert) → has_place c.value.result c.args.self.now ≡ true
placed c = subst (λ k. has_place k c.args.self.now ≡ true) (sym (c.value.ensures ∙ c.number.ensures)) c.requires

written : (c : goal.After-insert) → c.insert.new.self.entries ≡ put c.value.result (Some c.args.entry) c.args.self.now
unfolding find
written c = put_at_place c.insert.result c.value.result (Some c.args.entry) c.self.inside.map.entries c.insert.new.self.entries c.args.self.now c.insert.ensures.entries c.insert.ensures.absent c.self.view_is (placed c)

shown : (c : goal.After-insert) → filled c.insert.new.self.entries ≡ put c.args.entry.number c.args.entry (filled c.args.self.now)
shown c = filled-put_by c.value.result c.args.entry c.self.inside.map.entries c.insert.new.self.entries c.args.self.now c.insert.ensures.was_ordered c.self.view_is (written c) ∙ ap (λ k. put k c.args.entry (filled c.args.self.now)) (c.value.ensures ∙ c.number.ensures)

pub returns-clause-value : goal.returns-clause-value
returns-clause-value c = shown c

pub returns-clause-places : goal.returns-clause-places
returns-clause-places c = has_place-put_there c.value.result (Some c.args.entry) c.insert.new.self.entries c.args.self.now (placed c) (written c)

pub invariant_of-self : goal.invariant_of-self
invariant_of-self c = under_after_put c.args.entry c.insert.new.self.entries c.args.self.now (shown c) (subst AreUnderTheirNumbers c.self.view_is c.self.invariant)
