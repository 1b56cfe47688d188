-- What a call of a sequencer does to a state of the machine.
use Rattle.std.specs.Prelude.{ℕ, ◌≡◌, List, ◌++◌, Some, is_some, option_map}
use Rattle.ld_table.specs.Named.{find_named}
use Rattle.ld_transcript.specs.declared.line.Line.{Line}
use Rattle.ld_transcript.specs.declared.line.Line.TheVariants as lines
use Rattle.ld_config.specs.declared.config.Config.{Config}
use Rattle.ld_msg.specs.Register.{Register}
use Rattle.ld_msg.specs.Sequencer.{Sequencer}
use Rattle.ld_sequencer.specs.Own.{listed}
use Rattle.ld_sequencer.specs.declared.report.Report.{Report}
use Rattle.ld_machine.specs.State.{State, Done, with_sequencer}
use Rattle.ld_machine.specs.Step.{numbered_lines, when}
use Rattle.ld_clients.specs.Names.{each_as}
use Rattle.ld_clients.specs.Serving.{sequencers_of, faded, shown, KnowTheirLogs, KnowsIn}
use Rattle.ld_clients.specs.declared.client.Client.{Client}
use Rattle.ld_clients.specs.declared.outcome.Outcome.{Outcome}

-- the state's sequencers are these, of those that are gone what is read of them, and each has what the configuration says of its nodes and its log
pub record AreSequencers (c : Config) (s : State) (ks : List (List ℕ × Client)) : Type 0 where
  pub sequencers : each_as faded s.sequencers ≡ sequencers_of ks
  pub logs : KnowTheirLogs c ks

-- the sequencers are then these, the register is one that is told, all else of the state is as it was, and the lines and the messages are those
pub record IsActed (s : State) (now : List (List ℕ × Client)) (outcome : Outcome) (told : Register → Type 0) (done : Done) : Type 0 where
  pub state : done.state ≡ record s { sequencers = done.state.sequencers; register = done.state.register }
  pub sequencers : each_as faded done.state.sequencers ≡ sequencers_of now
  pub register : told done.state.register
  pub lines : outcome.lines.items ≡ done.lines
  pub sends : outcome.sends ≡ done.sends

-- the register is as it was
abbrev pub Stays : State → Register → Type 0
Stays s r = r ≡ s.register

-- ---- one sequencer ----

-- the state has it under the name, and it has what the configuration says of its nodes and its log
pub record IsNamed (c : Config) (s : State) (name : List ℕ) (k : Client) : Type 0 where
  pub found : option_map faded (find_named name s.sequencers) ≡ Some (shown k)
  pub knows : KnowsIn c k

-- it is then this one, the register is one that is told, all else of the state is as it was, and the lines and the messages are those
pub record HasActed (s : State) (name : List ℕ) (now : Client) (outcome : Outcome) (told : Register → Type 0) (done : Done) : Type 0 where
  pub sequencer : Sequencer
  pub seen : faded sequencer ≡ shown now
  pub state : done.state ≡ record (with_sequencer s name sequencer) { register = done.state.register }
  pub register : told done.state.register
  pub lines : outcome.lines.items ≡ done.lines
  pub sends : outcome.sends ≡ done.sends

-- ---- lines ----

abbrev pub report_lines : List ℕ → Report → List Line
report_lines name r = numbered_lines (lines.RefusedPreempted name) (listed r.preempted) ++ (when (is_some r.register) (lines.RefusedRegister name)
    ++ (numbered_lines (lines.Acked name) (listed r.acked) ++ (numbered_lines (lines.Clean name) (listed r.closed) ++ numbered_lines (lines.Released name) (listed r.released))))
