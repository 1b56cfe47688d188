use Rattle.std.proofs.Common.{◌≡◌, ◌≤◌, ℕ, false, Some, None}
use Rattle.ld_config.specs.declared.config.Config.{Config}
use Rattle.ld_config.specs.Bounds.{IsInBounds}
use Rattle.ld_machine.specs.State.{State}
use Rattle.ld_dial.specs.Far.{Far}
use Rattle.ld_rounds.specs.Endings.{IsLater}
use Rattle.ld_rounds.specs.Acts.{Own, driver}
use Rattle.ld_rounds.specs.Drives.{Holds, Went}
use Rattle.ld_rounds.specs.Rounds.{Adding}
use Rattle.ld_rounds.specs.Feeding.{upcoming, SameBehind}
use Rattle.ld_rounds.proofs.appends.add_all.Given as goal

abbrev pub invariant-requests : goal.invariant-requests
invariant-requests g l =
    ((own : Own) (c : Config) (first : ℕ) (s : State) (far : Far) → IsInBounds c → Holds (g.A.Actor.stands l.fn.sequencer) c first s far l.fn.queues
    → Went (driver l.name own) ⊥ (Adding l.name c (upcoming l.fn.feed.held (g.P.Payloads.coming l.fn.input)) (upcoming l.feed.held (g.P.Payloads.coming l.input))) (g.A.Actor.stands l.sequencer) (λ now. now ≡ far) c first s l.queues (Some (g.O.Sink.written l.fn.out)) (Some (g.O.Sink.written l.out)))
    × IsLater (g.O.Sink.faults l.fn.out) (g.O.Sink.faults l.out) (Some (g.O.Sink.written l.fn.out)) (Some (g.O.Sink.written l.out))
    × (g.P.Payloads.faults l.fn.input ≤ g.P.Payloads.faults l.input)
    × (g.P.Payloads.identity l.input ≡ g.P.Payloads.identity l.fn.input)
    × (l.feed.is_over ≡ false)
    × SameBehind (upcoming l.fn.feed.held (g.P.Payloads.coming l.fn.input)) (upcoming l.feed.held (g.P.Payloads.coming l.input))
    × (g.A.Actor.own l.sequencer ≡ g.A.Actor.own l.fn.sequencer)
    × g.A.Actor.since l.fn.sequencer l.sequencer
    × (l.fn.feed.held ≡ None → g.P.Payloads.ready l.fn.input ≡ Some false → (l.input ≡ l.fn.input) × (l.feed.held ≡ None))
