use Rattle.std.proofs.Common.{◌∙◌, refl, sym}
use Rattle.ld_table.specs.Table.{find}
use Rattle.ld_op.specs.Places.{has_place}
use Rattle.ld_op.proofs.Places.{filled-place_by, has_place-place, place_made, places_stay, none_besides, not_there}
use Rattle.ld_op.proofs.room.reserve.Goals as goal

pub returns-then-contains_key-clause-place : goal.returns-then-contains_key-clause-place
unfolding has_place find
returns-then-contains_key-clause-place g c = sym c.contains_key.ensures ∙ c.if-contains_key.true

pub returns-clause-same : goal.returns-clause-same
unfolding find
returns-clause-same g c = filled-place_by c.args.key c.args.map.now.entries c.insert.new.self.entries c.args.map.now.entries c.insert.ensures.was_ordered refl c.in_ok-insert.ensures.entries (not_there c.args.key c.args.map.now.entries (sym c.contains_key.ensures ∙ c.if-contains_key.false))

pub returns-clause-place : goal.returns-clause-place
returns-clause-place g c = place_made c.args.key c.insert.new.self.entries c.args.map.now.entries (has_place-place c.args.key c.args.map.now.entries c.insert.new.self.entries c.args.map.now.entries refl c.in_ok-insert.ensures.entries)

pub returns-clause-places : goal.returns-clause-places
returns-clause-places g c = places_stay c.args.key c.insert.new.self.entries c.args.map.now.entries (has_place-place c.args.key c.args.map.now.entries c.insert.new.self.entries c.args.map.now.entries refl c.in_ok-insert.ensures.entries)

pub returns-clause-only : goal.returns-clause-only
returns-clause-only g c = none_besides c.args.key c.insert.new.self.entries c.args.map.now.entries (has_place-place c.args.key c.args.map.now.entries c.insert.new.self.entries c.args.map.now.entries refl c.in_ok-insert.ensures.entries)
