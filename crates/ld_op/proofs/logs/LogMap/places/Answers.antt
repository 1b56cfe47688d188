use Rattle.std.proofs.Common.{◌≡◌, ◌∙◌, ap, sym, rules, Some}
use Rattle.ld_table.specs.Table.{find}
use Rattle.ld_op.specs.Room.{there_of, has_room_in}
use Rattle.ld_op.proofs.There.{written_alike, found_written, on_ok_with}
use Rattle.ld_op.proofs.logs.LogMap.places.Goals as goal

found : (c : goal.After-self-2-1) → find c.number.result c.self.inside.map.entries ≡ Some c.in-Some.state.now
unfolding find
found c = search rules

pub returns-clause-same : goal.returns-clause-same
returns-clause-same c = written_alike c.number.result c.in-Some.state.now c.room.new.self c.self.inside.map.entries _ c.get_mut.ensures.ordered (found c) ((c.get_mut.follows.holds c.room.new.self).0) c.room.ensures.there c.room.ensures.log ∙ ap there_of c.self.view_is

pub returns-clause-room : goal.returns-clause-room
returns-clause-room c = on_ok_with c.room.result _ _
    (λ h. ap (has_room_in c.args.op.now) (ap (λ k. find k (c.get_mut.follows.lender c.room.new.self).entries) (sym c.number.ensures.value) ∙ found_written c.number.result c.in-Some.state.now c.room.new.self c.self.inside.map.entries _ c.get_mut.ensures.ordered (found c) ((c.get_mut.follows.holds c.room.new.self).0)) ∙ h)
    c.room.ensures.room
