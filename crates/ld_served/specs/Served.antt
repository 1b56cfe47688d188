-- What a calm is for: where every node is well before it, the cluster is whole after it.
use Rattle.std.specs.Prelude.{ℕ, ◌≡◌, ◌≤◌, ◌<◌, ◌+◌, ◌⊎◌, List, [], Option, Some, None, is_some, true, false}
use Rattle.ld_table.specs.Named.{find_named}
use Rattle.ld_schedule.specs.declared.event.Event.{Event}
use Rattle.ld_transcript.specs.declared.line.Line.TheVariants as lines
use Rattle.ld_config.specs.declared.config.Config.{Config}
use Rattle.ld_config.specs.Bounds.{IsInBounds}
use Rattle.ld_msg.specs.Register.{lce_of}
use Rattle.ld_msg.specs.Sequencer.{Sequencer, released_of}
use Rattle.ld_msg.specs.Reader.{Reader, is_finished, last_round}
use Rattle.ld_op.specs.Plain.{log_of, summary_at}
use Rattle.ld_machine.specs.Config.{all_nodes, has_log}
use Rattle.ld_machine.specs.Disk.{is_up}
use Rattle.ld_machine.specs.State.{State, Stepped, start, node_at}
use Rattle.ld_machine.specs.Calm.{Move, last_of, calms}
use Rattle.ld_machine.specs.World.{In, begin}
use Rattle.ld_machine.specs.Run.{state_after, world_after}

-- ---- before ----

-- a node that is up, isn't lost for any log of the configuration, and has no fault armed
pub record IsWell (c : Config) (s : State) (n : ℕ) : Type 0 where
  pub up : is_up (node_at s n).status ≡ true
  pub whole : (l : ℕ) → has_log c l ≡ true → (log_of (node_at s n).plain l).lost ≡ false
  pub sound : (node_at s n).fault ≡ None

-- all nodes are, no change of the register is armed to fail, and no log's last sequencer is dropped or preempted
pub record AllWell (c : Config) (s : State) : Type 0 where
  pub nodes : (n : ℕ) → In n (all_nodes c) → IsWell c s n
  pub register : s.register.armed ≡ None
  pub there : (l : ℕ) (q : List ℕ × Sequencer) → last_of s l ≡ Some q → q.1.gone ≡ false
  pub free : (l : ℕ) (q : List ℕ × Sequencer) → last_of s l ≡ Some q → q.1.preempted ≡ None

-- ---- on the way ----

-- no line says that a journal has reached its limit, a node's or the register's, and afterwards no reader that isn't finished is in its last round; no later step undoes that
pub record NoLimit (r : Stepped) : Type 0 where
  pub journals : (n : ℕ) → In (lines.NodeFull n) r.lines → ⊥
  pub register : (name : List ℕ) → In (lines.RefusedRegister name) r.lines → ⊥
  pub rounds : (name : List ℕ) (d : Reader) → find_named name r.state.readers ≡ Some d → is_finished d ≡ false → d.round < last_round

-- ---- after ----

-- what the log's last sequencer released; 0 where there is none
abbrev pub released_by : Option (List ℕ × Sequencer) → ℕ
released_by None = 0
released_by (Some q) = released_of q.1

-- each append of the sequencer is acknowledged, each epoch below its own is closed, and clean on every node
pub record IsSettled (c : Config) (s : State) (l : ℕ) (q : Sequencer) : Type 0 where
  pub acked : q.appends ≡ []
  pub closed : lce_of s.register l + 1 ≡ q.epoch
  pub clean : (n e : ℕ) → In n (all_nodes c) → 1 ≤ e → e < q.epoch → is_some (summary_at (log_of (node_at s n).plain l) e) ≡ true

-- so it is of the log's last sequencer, and each reader of the log is finished or past what is released
pub record IsServed (c : Config) (s : State) (l : ℕ) : Type 0 where
  pub settled : (q : List ℕ × Sequencer) → last_of s l ≡ Some q → IsSettled c s l q.1
  pub readers : (name : List ℕ) (d : Reader) → find_named name s.readers ≡ Some d → d.log ≡ l → (is_finished d ≡ true) ⊎ (released_by (last_of s l) < d.next)

-- ---- the claims ----

-- where all is well, and no limit is met, all is well after a calm
abbrev pub WellStays : Type 0
WellStays = (c : Config) (es : List Event) → IsInBounds c → let s : State = state_after c (start c) es in let r : Stepped = calms c s in AllWell c s → NoLimit r → AllWell c r.state

-- each epoch that was closed before it is clean on every node of the configuration
abbrev pub ClosedIsClean : Type 0
ClosedIsClean = (c : Config) (es : List Event) → IsInBounds c → let s : State = state_after c (start c) es in let r : Stepped = calms c s in AllWell c s → NoLimit r
    → (l n e : ℕ) → has_log c l ≡ true → In n (all_nodes c) → 1 ≤ e → e ≤ lce_of s.register l → is_some (summary_at (log_of (node_at r.state n).plain l) e) ≡ true

-- no append of a log's last sequencer waits after it, and each epoch before the sequencer's own is closed, and clean on every node of the configuration
abbrev pub CalmSettles : Type 0
CalmSettles = (c : Config) (es : List Event) → IsInBounds c → let s : State = state_after c (start c) es in let r : Stepped = calms c s in AllWell c s → NoLimit r
    → (l : ℕ) (q : List ℕ × Sequencer) → has_log c l ≡ true → last_of r.state l ≡ Some q → IsSettled c r.state l q.1

-- and every log is served: what a calm is for as a whole
abbrev pub CalmServes : Type 0
CalmServes = (c : Config) (es : List Event) → IsInBounds c → let s : State = state_after c (start c) es in let r : Stepped = calms c s in
    AllWell c s → NoLimit r → (l : ℕ) → has_log c l ≡ true → IsServed c r.state l

-- and so it is after any steps
abbrev pub CalmServesAfter : Type 0
CalmServesAfter = (c : Config) (ms : List Move) → IsInBounds c → let s : State = (world_after c (begin c) ms).state in let r : Stepped = calms c s in
    AllWell c s → NoLimit r → (l : ℕ) → has_log c l ≡ true → IsServed c r.state l
