use Rattle.std.proofs.Common.{◌≡◌, ◌⊎◌, ℕ, true, Some, ◌<◌, None, false}
use Rattle.ld_config.specs.declared.config.Config.{Config}
use Rattle.ld_config.specs.Bounds.{IsInBounds}
use Rattle.ld_machine.specs.State.{State}
use Rattle.ld_dial.specs.Far.{Far}
use Rattle.ld_rounds.specs.Endings.{IsLater}
use Rattle.ld_ids.specs.Set.{members}
use Rattle.ld_rounds.specs.Acts.{driver}
use Rattle.ld_rounds.specs.Drives.{AreOfConfig, AllTaken, IsBroken, counted, AreLater, Holds, Went}
use Rattle.ld_rounds.specs.Rounds.{AreReadRounds}
use Rattle.ld_rounds.proofs.reads.read.Given as goal

abbrev pub invariant-rounds : goal.invariant-rounds
invariant-rounds g l =
    ((c : Config) (first : ℕ) (s : State) (far : Far) → IsInBounds c → AreOfConfig c (members l.set) → AllTaken (g.N.Nodes.tells l.fn.nodes c) far → Holds (g.R.Actor.stands l.fn.reader) c first s far l.fn.queues
    → (g.N.Nodes.silent l.nodes ≡ true) ⊎ Went (driver l.name (g.R.Actor.own l.fn.reader)) (IsBroken (g.N.Nodes.faults l.fn.nodes) (g.N.Nodes.faults l.nodes) (g.N.Nodes.endings l.fn.nodes) (g.N.Nodes.endings l.nodes)) (AreReadRounds l.is_sparing l.name c first (members l.set) l.number (counted (g.N.Nodes.faults l.fn.nodes) (g.N.Nodes.faults l.nodes) (g.N.Nodes.endings l.fn.nodes) (g.N.Nodes.endings l.nodes))) (g.R.Actor.stands l.reader) (AllTaken (g.N.Nodes.tells l.nodes c)) c first s l.queues (Some (g.O.Sink.written l.fn.out)) (Some (g.O.Sink.written l.out)))
    × IsLater (g.O.Sink.faults l.fn.out) (g.O.Sink.faults l.out) (Some (g.O.Sink.written l.fn.out)) (Some (g.O.Sink.written l.out))
    × AreLater (g.N.Nodes.faults l.fn.nodes) (g.N.Nodes.faults l.nodes) (g.N.Nodes.endings l.fn.nodes) (g.N.Nodes.endings l.nodes)
    × (g.R.Actor.own l.reader ≡ g.R.Actor.own l.fn.reader)
    × g.R.Actor.since l.fn.reader l.reader
    × (g.N.Nodes.off l.fn.nodes ≡ None → g.N.Nodes.off l.nodes ≡ None)
    × (0 < l.number → g.R.Reads.finished l.reader l.name ≡ false)
