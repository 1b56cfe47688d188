use Rattle.std.proofs.Common.{◌≡◌, ◌⊎◌, ◌+◌, ℕ, List, Option, true}
use Rattle.ld_config.specs.declared.config.Config.{Config}
use Rattle.ld_config.specs.Bounds.{IsInBounds}
use Rattle.ld_msg.specs.declared.msg.Msg.{Msg}
use Rattle.ld_machine.specs.Config.{has_node}
use Rattle.ld_machine.specs.State.{State}
use Rattle.ld_dial.specs.Far.{Far}
use Rattle.ld_rounds.specs.Acts.{IsDriverOf}
use Rattle.ld_rounds.specs.Drives.{Driver, AreLater, Holds, Went, WithNode}
use Rattle.ld_rounds.specs.Rounds.{IsReminded}
use Rattle.ld_rounds.specs.Telling.{is_of}
use Rattle.ld_rounds.proofs.Reminding.{Open}
use Rattle.ld_rounds.proofs.visits.remind.Given as goal

abbrev pub invariant-epochs : goal.invariant-epochs
invariant-epochs g l =
    ((who : Driver) → IsDriverOf who (g.A.Actor.own l.fn.actor) → (c : Config) (first : ℕ) (s : State) (far : Far) (queues : List (List Msg)) (written : Option (List ℕ)) → IsInBounds c → has_node c l.fn.node ≡ true
    → is_of l.fn.node l.fn.answer.from ≡ true → WithNode (g.N.Nodes.tells l.fn.nodes) c l.fn.node far → Holds (g.A.Actor.stands l.fn.actor) c first s far queues
    → (g.N.Nodes.silent l.nodes ≡ true) ⊎ Went who ⊥ (IsReminded l.fn.node l.fn.answer) (g.A.Actor.stands l.actor) (Open (g.N.Nodes.tells l.nodes) c who.ticks l.fn.node (l.before + 1)) c first s queues written written)
    × (g.N.Nodes.silent l.fn.nodes ≡ true → g.N.Nodes.silent l.nodes ≡ true)
    × AreLater (g.N.Nodes.faults l.fn.nodes) (g.N.Nodes.faults l.nodes) (g.N.Nodes.endings l.fn.nodes) (g.N.Nodes.endings l.nodes)
    × (g.A.Actor.own l.actor ≡ g.A.Actor.own l.fn.actor)
    × g.A.Actor.since l.fn.actor l.actor
    × (g.N.Nodes.off l.nodes ≡ g.N.Nodes.off l.fn.nodes)
