use Rattle.std.proofs.Common.{◌∙◌, sym}
use Rattle.ld_table.specs.Table.{find}
use Rattle.ld_op.proofs.There.{room_added, log_not_there}
use Rattle.ld_op.proofs.logs.LogMap.reserve.Goals as goal

pub returns : goal.returns
unfolding find
returns c = room_added c.number-2.result c.new.result c.self.inside.map.entries c.insert.new.self.entries c.args.self.now c.in_ok-insert.ensures.entries c.self.view_is c.insert.ensures.was_ordered
    (log_not_there c.number.result c.number-2.result c.self.inside.map.entries (c.number.ensures.value ∙ sym c.number-2.ensures.value) (sym c.contains_key.ensures ∙ c.if-contains_key.false)) c.new.ensures.there
