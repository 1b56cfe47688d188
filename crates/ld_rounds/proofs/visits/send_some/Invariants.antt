use Rattle.std.proofs.Common.{◌≡◌, ◌⊎◌, ◌≤◌, ℕ, List, Option, true}
use Rattle.ld_config.specs.declared.config.Config.{Config}
use Rattle.ld_config.specs.Bounds.{IsInBounds}
use Rattle.ld_machine.specs.State.{State}
use Rattle.ld_dial.specs.Far.{Far}
use Rattle.ld_rounds.specs.Queued.{TakesUpTo}
use Rattle.ld_rounds.specs.Drives.{Driver, IsBroken, AreLater, Holds, Went, WithNode, Answering}
use Rattle.ld_rounds.specs.Rounds.{Visiting}
use Rattle.ld_rounds.proofs.visits.send_some.Given as goal

abbrev pub invariant-messages : goal.invariant-messages
invariant-messages g l =
    ((who : Driver) (c : Config) (first : ℕ) (s : State) (far : Far) (written : Option (List ℕ)) → IsInBounds c → WithNode (g.N.Nodes.tells l.fn.nodes) c l.node far → Holds (g.A.Actor.stands l.actor) c first s far l.fn.queues
    → (g.N.Nodes.silent l.nodes ≡ true) ⊎ Went who (IsBroken (g.N.Nodes.faults l.fn.nodes) (g.N.Nodes.faults l.nodes) (g.N.Nodes.endings l.fn.nodes) (g.N.Nodes.endings l.nodes)) (Visiting c first l.node) (g.A.Actor.stands l.actor) (Answering (g.N.Nodes.tells l.nodes) c l.node l.due) c first s l.queues written written)
    × (g.N.Nodes.silent l.fn.nodes ≡ true → g.N.Nodes.silent l.nodes ≡ true)
    × AreLater (g.N.Nodes.faults l.fn.nodes) (g.N.Nodes.faults l.nodes) (g.N.Nodes.endings l.fn.nodes) (g.N.Nodes.endings l.nodes)
    × (g.N.Nodes.off l.nodes ≡ g.N.Nodes.off l.fn.nodes)
    × TakesUpTo l.counter l.fn.queues l.node l.queues
    × (l.due ≤ l.counter)
