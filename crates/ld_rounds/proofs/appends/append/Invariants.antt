use Rattle.std.proofs.Common.{◌≡◌, ◌≤◌, ◌⊎◌, ℕ, true, Some, None, ◌<◌, ◌&&◌, false}
use Rattle.ld_config.specs.declared.config.Config.{Config}
use Rattle.ld_config.specs.Bounds.{IsInBounds}
use Rattle.ld_machine.specs.State.{State}
use Rattle.ld_dial.specs.Far.{Far}
use Rattle.ld_rounds.specs.Endings.{IsLater}
use Rattle.ld_ids.specs.Set.{members}
use Rattle.ld_rounds.specs.Queued.{are_empty}
use Rattle.ld_rounds.specs.Acts.{driver}
use Rattle.ld_rounds.specs.Drives.{AreOfConfig, AllTaken, IsBroken, counted, AreLater, Holds, Went}
use Rattle.ld_rounds.specs.Rounds.{Both, AreAppendRounds, Feeds}
use Rattle.ld_rounds.specs.Feeding.{upcoming, WasOver, SameBehind}
use Rattle.ld_rounds.proofs.appends.append.Given as goal

abbrev pub invariant-rounds : goal.invariant-rounds
invariant-rounds g l =
    ((c : Config) (first : ℕ) (s : State) (far : Far) → IsInBounds c → AreOfConfig c (members l.set) → AllTaken (g.N.Nodes.tells l.fn.nodes c) far → Holds (g.A.Actor.stands l.fn.sequencer) c first s far l.fn.queues
    → (g.N.Nodes.silent l.nodes ≡ true) ⊎ Went (driver l.name (g.A.Actor.own l.fn.sequencer)) (IsBroken (g.N.Nodes.faults l.fn.nodes) (g.N.Nodes.faults l.nodes) (g.N.Nodes.endings l.fn.nodes) (g.N.Nodes.endings l.nodes)) (Both (AreAppendRounds l.name c first (members l.set) l.number (counted (g.N.Nodes.faults l.fn.nodes) (g.N.Nodes.faults l.nodes) (g.N.Nodes.endings l.fn.nodes) (g.N.Nodes.endings l.nodes))) (Feeds c (g.P.Payloads.coming l.fn.input) (upcoming l.feed.held (g.P.Payloads.coming l.input)))) (g.A.Actor.stands l.sequencer) (AllTaken (g.N.Nodes.tells l.nodes c)) c first s l.queues (Some (g.O.Sink.written l.fn.out)) (Some (g.O.Sink.written l.out)))
    × IsLater (g.O.Sink.faults l.fn.out) (g.O.Sink.faults l.out) (Some (g.O.Sink.written l.fn.out)) (Some (g.O.Sink.written l.out))
    × AreLater (g.N.Nodes.faults l.fn.nodes) (g.N.Nodes.faults l.nodes) (g.N.Nodes.endings l.fn.nodes) (g.N.Nodes.endings l.nodes)
    × (g.P.Payloads.faults l.fn.input ≤ g.P.Payloads.faults l.input)
    × (g.P.Payloads.identity l.input ≡ g.P.Payloads.identity l.fn.input)
    × WasOver (g.P.Payloads.coming l.fn.input) l.feed.is_over (upcoming l.feed.held (g.P.Payloads.coming l.input))
    × SameBehind (g.P.Payloads.coming l.fn.input) (upcoming l.feed.held (g.P.Payloads.coming l.input))
    × (g.A.Actor.own l.sequencer ≡ g.A.Actor.own l.fn.sequencer)
    × g.A.Actor.since l.fn.sequencer l.sequencer
    × (g.N.Nodes.off l.fn.nodes ≡ None → g.N.Nodes.off l.nodes ≡ None)
    × (0 < l.number → (g.A.Appends.settled l.sequencer && (are_empty l.queues && l.feed.is_over)) ≡ false)
    × (0 < l.number → (g.A.Appends.settled l.sequencer && are_empty l.queues) ≡ true → l.feed.held ≡ None → l.feed.is_over ≡ true)
