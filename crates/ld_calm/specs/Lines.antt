-- A calm in lines: its bound by the appends and trims that the lines so far tell, and what they tell of a sequencer without appends that wait.
use Rattle.std.specs.Prelude.{ℕ, ◌≡◌, ◌+◌, ◌*◌, ◌==◌, ◌≤◌, List, [], ◌∷◌, length, Option, Some, None, Bool, false}
use Rattle.ld_table.specs.Named.{find_named}
use Rattle.ld_table.specs.Words.{how_many}
use Rattle.ld_ids.specs.declared.set.Spec.{Spec}
use Rattle.ld_config.specs.declared.config.Config.{Config}
use Rattle.ld_config.specs.Bounds.{IsInBounds}
use Rattle.ld_schedule.specs.declared.event.Event.{Event}
use Rattle.ld_transcript.specs.declared.line.Line.{Line}
use Rattle.ld_transcript.specs.declared.line.Line.TheVariants as lines
use Rattle.ld_msg.specs.Register.{epochs_of}
use Rattle.ld_msg.specs.Sequencer.{Sequencer}
use Rattle.ld_machine.specs.Config.{all_nodes}
use Rattle.ld_machine.specs.State.{State, start}
use Rattle.ld_machine.specs.Calm.{Move, is_live, is_open_for, calm_moves}
use Rattle.ld_machine.specs.Facts.{Happened, Writes, sequencer_log}
use Rattle.ld_machine.specs.Invariant.{Acked}
use Rattle.ld_machine.specs.World.{begin}
use Rattle.ld_machine.specs.Run.{state_after, history, trace, world_after}
use Rattle.ld_safety.specs.OneRun.{lines_in}

abbrev pub is_log : ℕ → Option ℕ → Bool
is_log l None = false
is_log l (Some k) = k == l

-- the line tells of an append by a sequencer of the log
abbrev pub appends_to : List Happened → ℕ → Line → Bool
appends_to hs l (lines.Appended name n) = is_log l (sequencer_log name hs)
appends_to hs l x = false

-- the line tells of a trim by a sequencer of the log
abbrev pub trims_of : List Happened → ℕ → Line → Bool
trims_of hs l (lines.Trimmed name t) = is_log l (sequencer_log name hs)
trims_of hs l x = false

abbrev pub appended_lines : List Happened → ℕ → ℕ
appended_lines hs l = how_many (appends_to hs l) (lines_in hs)

abbrev pub trimmed_lines : List Happened → ℕ → ℕ
trimmed_lines hs l = how_many (trims_of hs l) (lines_in hs)

-- the nodes, the log's live sequencers, its open readers, the register's epoch, its `appended` and its `trimmed` lines
abbrev pub told_bound : Config → List Happened → State → ℕ → ℕ
told_bound c hs s l = 32 * (length (all_nodes c) * ((how_many (is_live l) s.sequencers + how_many (is_open_for l) s.readers + 1)
    * (((epochs_of s.register l).epoch + 1) * (appended_lines hs l + trimmed_lines hs l + length (all_nodes c) + 4))))

abbrev pub told_bounds : Config → List Happened → State → List Spec → ℕ
told_bounds c hs s [] = 0
told_bounds c hs s (p ∷ ps) = told_bound c hs s p.log + told_bounds c hs s ps

-- a calm has at most so many steps
abbrev pub CalmIsBounded : Type 0
CalmIsBounded = (c : Config) (es : List Event) → IsInBounds c → let s : State = state_after c (start c) es in length (calm_moves c s) ≤ 2 * length s.network.fresh + told_bounds c (history c es) s c.logs

-- and so after any steps
abbrev pub CalmIsBoundedAfter : Type 0
CalmIsBoundedAfter = (c : Config) (ms : List Move) → IsInBounds c → let s : State = (world_after c (begin c) ms).state in length (calm_moves c s) ≤ 2 * length s.network.fresh + told_bounds c (trace c (begin c) ms) s c.logs

-- where no append of a sequencer waits, each number that an `appended` line of it tells was acknowledged
abbrev pub NoneWaitsIsAcked : Type 0
NoneWaitsIsAcked = (c : Config) (es : List Event) → IsInBounds c → let hs : List Happened = history c es in (name : List ℕ) (q : Sequencer) → find_named name (state_after c (start c) es).sequencers ≡ Some q → q.appends ≡ []
    → (n k : ℕ) → Writes hs k (lines.Appended name n) → Acked hs q.log n
