use Rattle.std.proofs.Common.{◌≡◌, ◌∙◌, ap, sym, rules, Some, None}
use Rattle.ld_table.specs.Table.{find}
use Rattle.ld_op.specs.Room.{has_room_in}
use Rattle.ld_op.specs.Cells.{placed}
use Rattle.ld_op.proofs.There.{log_changed_by}
use Rattle.ld_op.proofs.logs.LogMap.apply.Goals as goal

pub apply-requires-clause-room : goal.apply-requires-clause-room
unfolding find
apply-requires-clause-room c = let f : find c.args.log c.args.self.now ≡ Some c.in-Some.state.now = search rules in sym (ap (has_room_in c.args.op) f) ∙ c.requires.room

pub returns : goal.returns
unfolding find
returns c = let f : find c.number.result c.self.inside.map.entries ≡ Some c.in-Some.state.now = search rules in log_changed_by c.number.result c.args.log c.in-Some.state.now c.apply.new.self (placed c.args.at c.args.op) c.self.inside.map.entries _ c.args.self.now c.number.ensures.value c.self.view_is c.get_mut.ensures.ordered
    f ((c.get_mut.follows.holds c.apply.new.self).0) c.apply.ensures.there c.apply.ensures.log c.apply.ensures.was

pub returns-in_default : goal.returns-in_default
unfolding find
returns-in_default c = let f : find c.args.log c.args.self.now ≡ None = search rules in let h = sym (ap (has_room_in c.args.op) f) ∙ c.requires.room in absurd cc
