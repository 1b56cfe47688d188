use Rattle.std.proofs.Common.{◌≡◌, ◌∙◌, ℕ, cond, eqb, true, subst, ap, sym}
use Rattle.ld_table.specs.Table.{find}
use Rattle.ld_op.specs.Places.{filled, has_place, AreUnderTheirNumbers}
use Rattle.ld_op.proofs.Places.{filled-place_by, has_place-place, place_made, places_stay, under_after, not_there}
use Rattle.ld_op.proofs.entries.EntryMap.reserve.Goals as goal

pub returns-then-contains_key-clause-place : goal.returns-then-contains_key-clause-place
unfolding has_place find
returns-then-contains_key-clause-place c = ap (has_place c.args.number) (sym c.self.view_is) ∙ (sym c.contains_key.ensures ∙ c.if-contains_key.true)

same : (c : goal.In_ok-insert) → filled c.insert.new.self.entries ≡ filled c.args.self.now
unfolding find
same c = filled-place_by c.args.number c.self.inside.map.entries c.insert.new.self.entries c.args.self.now c.insert.ensures.was_ordered c.self.view_is c.in_ok-insert.ensures.entries (not_there c.args.number c.self.inside.map.entries (sym c.contains_key.ensures ∙ c.if-contains_key.false))

places : (c : goal.In_ok-insert) (q : ℕ) → has_place q c.insert.new.self.entries ≡ cond (eqb q c.args.number) true (has_place q c.args.self.now)
places c = has_place-place c.args.number c.self.inside.map.entries c.insert.new.self.entries c.args.self.now c.self.view_is c.in_ok-insert.ensures.entries

pub invariant_of-self-2 : goal.invariant_of-self-2
invariant_of-self-2 c = under_after c.insert.new.self.entries c.args.self.now (same c) (subst AreUnderTheirNumbers c.self.view_is c.self.invariant)

pub returns-clause-same : goal.returns-clause-same
returns-clause-same c = same c

pub returns-clause-place : goal.returns-clause-place
returns-clause-place c = place_made c.args.number c.insert.new.self.entries c.args.self.now (places c)

pub returns-clause-places : goal.returns-clause-places
returns-clause-places c = places_stay c.args.number c.insert.new.self.entries c.args.self.now (places c)
