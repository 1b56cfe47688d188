use Rattle.std.proofs.Common.{◌≡◌, ◌⊎◌, ◌≤◌, ◌-◌, ℕ, true, length, take, Some, None}
use Rattle.ld_ids.specs.Set.{members}
use Rattle.ld_config.specs.declared.config.Config.{Config}
use Rattle.ld_config.specs.Bounds.{IsInBounds}
use Rattle.ld_machine.specs.State.{State}
use Rattle.ld_dial.specs.Far.{Far}
use Rattle.ld_rounds.specs.Endings.{IsLater}
use Rattle.ld_rounds.specs.Drives.{Driver, AreOfConfig, AllTaken, IsBroken, counted, AreLater, Holds, Went}
use Rattle.ld_rounds.specs.Acts.{IsDriverOf}
use Rattle.ld_rounds.specs.Rounds.{AreVisits}
use Rattle.ld_rounds.proofs.visits.round.Given as goal

abbrev pub invariant-nodes : goal.invariant-nodes
invariant-nodes g l =
    ((who : Driver) → IsDriverOf who (g.A.Actor.own l.fn.actor) → (c : Config) (first : ℕ) (s : State) (far : Far) → IsInBounds c → AreOfConfig c (members l.set) → AllTaken (g.N.Nodes.tells l.fn.nodes c) far → Holds (g.A.Actor.stands l.fn.actor) c first s far l.fn.queues
    → (g.N.Nodes.silent l.nodes ≡ true) ⊎ Went who (IsBroken (g.N.Nodes.faults l.fn.nodes) (g.N.Nodes.faults l.nodes) (g.N.Nodes.endings l.fn.nodes) (g.N.Nodes.endings l.nodes)) (AreVisits c first (take l.place (members l.set)) (counted (g.N.Nodes.faults l.fn.nodes) (g.N.Nodes.faults l.nodes) (g.N.Nodes.endings l.fn.nodes) (g.N.Nodes.endings l.nodes))) (g.A.Actor.stands l.actor) (AllTaken (g.N.Nodes.tells l.nodes c)) c first s l.queues (Some (g.O.Sink.written l.fn.out)) (Some (g.O.Sink.written l.out)))
    × (g.N.Nodes.silent l.fn.nodes ≡ true → g.N.Nodes.silent l.nodes ≡ true)
    × IsLater (g.O.Sink.faults l.fn.out) (g.O.Sink.faults l.out) (Some (g.O.Sink.written l.fn.out)) (Some (g.O.Sink.written l.out))
    × AreLater (g.N.Nodes.faults l.fn.nodes) (g.N.Nodes.faults l.nodes) (g.N.Nodes.endings l.fn.nodes) (g.N.Nodes.endings l.nodes)
    × (l.place ≤ length (members l.set))
    × (g.A.Actor.own l.actor ≡ g.A.Actor.own l.fn.actor)
    × g.A.Actor.since l.fn.actor l.actor
    × (g.N.Nodes.off l.fn.nodes ≡ None → g.N.Nodes.off l.nodes ≡ None)

abbrev pub decreases-nodes : goal.decreases-nodes
decreases-nodes g l = length (members l.set) - l.place
