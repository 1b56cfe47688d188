use Rattle.std.proofs.Common.{◌-◌, arith}
use Rattle.std.proofs.lemmas.Grind.{common_steps}
use Rattle.ld_gap.proofs.SlotTables.{find-filled_from}
use Rattle.ld_reader.proofs.missing.Missing.epoch_of.Goals as goal

pub returns : goal.returns
returns c = let e = find-filled_from c.args.node 1 (c.args.node - 1) c.self.inside.epochs (omega arith) in grind (arith, common_steps)
