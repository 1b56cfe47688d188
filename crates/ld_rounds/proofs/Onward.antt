-- A drive that begins in a state to which a run leads goes on with that run.
use Rattle.std.proofs.Common.{ℕ, List, ◌++◌, Option, subst}
use Rattle.std.specs.Io.KnownBytes.{Appends}
use Rattle.ld_config.specs.declared.config.Config.{Config}
use Rattle.ld_schedule.specs.declared.event.Event.{Event}
use Rattle.ld_transcript.specs.declared.line.Line.{Line}
use Rattle.ld_transcript.specs.Text.{text}
use Rattle.ld_machine.specs.State.{State, start}
use Rattle.ld_machine.specs.Run.{history}
use Rattle.ld_machine.specs.Safe.{Safe}
use Rattle.ld_dial.specs.Far.{Far}
use Rattle.ld_rounds.specs.Output.{AppendsPart}
use Rattle.ld_rounds.specs.Drives.{Driver, Goes, Stopped}
use Rattle.ld_rounds.specs.Reaching.{Reached}
use Rattle.ld_rounds.specs.Onward.{reached, RunsOn}
use Rattle.ld_rounds.proofs.Steps.{lines-append}

module _ (who : Driver) (broken : Type 0) (c : Config) (before : List Event) (safe : (es : List Event) → Safe c (history c es)) (P : State → List Event → Type 0) where
  runs_on : (wrote : List ℕ → Type 0) (next : State) (ls : List Line) → Goes who broken P c (reached c before) next ls → wrote (text ls) → RunsOn who broken wrote c before
  runs_on wrote next ls g w = record {
    steps = g.steps;
    driven = g.driven;
    lines = lines-append c (start c) before g.steps;
    written = subst (λ l. wrote (text l)) g.lines w;
    safe = safe (before ++ g.steps);
  }

  -- to a state that it represents
  pub reached_on : (tells : Far → Type 0) (old new : Option (List ℕ)) (Q : State → Type 0) → Reached who broken P tells c (reached c before) old new Q → RunsOn who broken (Appends old new) c before
  reached_on tells old new Q r = runs_on (Appends old new) r.state r.lines r.goes r.written

  -- with the last step in part
  pub stopped_on : (old new : Option (List ℕ)) → Stopped who broken P c (reached c before) old new → RunsOn who broken (AppendsPart old new) c before
  stopped_on old new r = runs_on (AppendsPart old new) r.state r.lines r.goes r.written
