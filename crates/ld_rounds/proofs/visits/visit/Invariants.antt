use Rattle.std.proofs.Common.{◌≡◌, ◌⊎◌, ℕ, true, Some, None}
use Rattle.ld_config.specs.declared.config.Config.{Config}
use Rattle.ld_config.specs.Bounds.{IsInBounds}
use Rattle.ld_machine.specs.Config.{has_node}
use Rattle.ld_machine.specs.State.{State}
use Rattle.ld_dial.specs.Far.{Far}
use Rattle.ld_rounds.specs.Endings.{IsLater}
use Rattle.ld_rounds.specs.Drives.{Driver, AllTaken, IsBroken, AreLater, Holds, Went, WithNode}
use Rattle.ld_rounds.specs.Acts.{IsDriverOf}
use Rattle.ld_rounds.specs.Rounds.{Visiting}
use Rattle.ld_rounds.proofs.visits.visit.Given as goal

abbrev pub invariant-frames : goal.invariant-frames
invariant-frames g l =
    ((who : Driver) → IsDriverOf who (g.A.Actor.own l.fn.actor) → (c : Config) (first : ℕ) (s : State) (far : Far) → IsInBounds c → has_node c l.node ≡ true → AllTaken (g.N.Nodes.tells l.fn.nodes c) far → Holds (g.A.Actor.stands l.fn.actor) c first s far l.fn.queues
    → (g.N.Nodes.silent l.nodes ≡ true) ⊎ Went who (IsBroken (g.N.Nodes.faults l.fn.nodes) (g.N.Nodes.faults l.nodes) (g.N.Nodes.endings l.fn.nodes) (g.N.Nodes.endings l.nodes)) (Visiting c first l.node) (g.A.Actor.stands l.actor) (WithNode (g.N.Nodes.tells l.nodes) c l.node) c first s l.queues (Some (g.O.Sink.written l.fn.out)) (Some (g.O.Sink.written l.out)))
    × (g.N.Nodes.silent l.fn.nodes ≡ true → g.N.Nodes.silent l.nodes ≡ true)
    × IsLater (g.O.Sink.faults l.fn.out) (g.O.Sink.faults l.out) (Some (g.O.Sink.written l.fn.out)) (Some (g.O.Sink.written l.out))
    × AreLater (g.N.Nodes.faults l.fn.nodes) (g.N.Nodes.faults l.nodes) (g.N.Nodes.endings l.fn.nodes) (g.N.Nodes.endings l.nodes)
    × (g.A.Actor.own l.actor ≡ g.A.Actor.own l.fn.actor)
    × g.A.Actor.since l.fn.actor l.actor
    × (g.N.Nodes.off l.nodes ≡ None)
