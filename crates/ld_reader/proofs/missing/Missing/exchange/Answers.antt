use Rattle.std.proofs.Common.{◌-◌, None, arith}
use Rattle.std.proofs.lemmas.Grind.{common_steps}
use Rattle.ld_gap.proofs.SlotTables.{with_slot-filled_from, slot_back}
use Rattle.ld_reader.proofs.missing.Missing.exchange.Goals as goal

pub returns-clause-now : goal.returns-clause-now
returns-clause-now c =
    let now = with_slot-filled_from c.args.node 1 (c.args.node - 1) c.args.epoch c.self.inside.epochs (omega arith) (omega arith) in
    grind (arith, common_steps)

pub returns-clause-back : goal.returns-clause-back
returns-clause-back c =
    let back = slot_back c.args.node 1 (c.args.node - 1) c.args.epoch None c.self.inside.epochs (omega arith) (omega arith) in
    grind (arith, common_steps)
