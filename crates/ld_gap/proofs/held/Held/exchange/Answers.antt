use Rattle.std.proofs.Common.{◌-◌, arith}
use Rattle.std.proofs.lemmas.Grind.{common_steps}
use Rattle.ld_gap.proofs.SlotTables.{with_slot-filled_from, slot_back}
use Rattle.ld_gap.proofs.held.Held.exchange.Goals as goal

pub returns : goal.returns
returns c =
    let now = with_slot-filled_from c.args.node 1 (c.args.node - 1) c.args.answer c.self.inside.answers (omega arith) (omega arith) in
    let back = slot_back c.args.node 1 (c.args.node - 1) c.args.answer c.index-self-from.result c.self.inside.answers (omega arith) (omega arith) in
    grind (arith, common_steps)
