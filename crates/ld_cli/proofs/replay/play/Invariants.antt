use Rattle.std.proofs.Common.{◌≤◌, ◌+◌, ◌^◌, ◌++◌, ℕ, List, length, drop, Some}
use Rattle.std.specs.Io.KnownBytes.{prepend_known}
use Rattle.ld_io.specs.Input.{left_in}
use Rattle.ld_cluster.specs.Standing.{config_of, IsReached}
use Rattle.ld_cli.specs.Input.{budget}
use Rattle.ld_cli.specs.NextEvent.{TakesConfig}
use Rattle.ld_cli.proofs.PlayLoop.{Playing}
use Rattle.ld_cli.proofs.replay.play.Given as goal

abbrev pub invariant-events : goal.invariant-events
invariant-events g l =
    ((all : List ℕ) → g.I.Source.may_be l.input all
    → g.I.Source.may_be l.fn.input all
    × ((bytes : List ℕ) → TakesConfig (Some bytes) (prepend_known l.fn.buffer (left_in all (g.I.Source.gave l.fn.input))) (config_of l.fn.cluster)
    → Playing bytes (l.buffer ++ drop (length (g.I.Source.gave l.input)) all) (Some (g.O.Sink.written l.fn.out)) (Some (g.O.Sink.written l.out)) l.cluster l.number))
    × (l.number + budget l.buffer (length (g.I.Source.gave l.input)) ≤ 2 ^ 63 + 2)
    × (g.I.Source.faults l.fn.input ≤ g.I.Source.faults l.input)
    × (g.O.Sink.faults l.fn.out ≤ g.O.Sink.faults l.out)
    × IsReached l.cluster

abbrev pub decreases-events : goal.decreases-events
decreases-events g l = budget l.buffer (length (g.I.Source.gave l.input))
