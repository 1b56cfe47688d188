-- What the parts of a step do to a cluster.
use Rattle.std.specs.Prelude.{ℕ, ◌≡◌, List, [], ◌++◌, Option, Some, None}
use Rattle.ld_transcript.specs.declared.line.Line.{Line}
use Rattle.ld_msg.specs.declared.msg.Msg.{Msg}
use Rattle.ld_machine.specs.State.{State, Done, Stepped, finish, sent_state, message_lines}
use Rattle.ld_cluster.specs.Standing.{config_of, past_of, Parts}
use Rattle.ld_cluster.specs.declared.cluster.Cluster.{Cluster}
use Rattle.ld_clients.specs.declared.outcome.Outcome.{Outcome}

-- neither the configuration nor the list of steps has changed
pub record IsSame (old new : Cluster) : Type 0 where
  pub config : config_of new ≡ config_of old
  pub past : past_of new ≡ past_of old

-- the first ones of these were added: none, some or all
pub record AddsFirst {X : Type 0} (before now all : List X) : Type 0 where
  pub some : List X
  pub more : List X
  pub whole : some ++ more ≡ all
  pub added : now ≡ before ++ some

-- the parts are those of the state, and the lines and the messages are those
pub record IsDone (old new : Cluster) (outcome : Outcome) (done : Done) : Type 0 where
  pub same : IsSame old new
  pub parts : Parts new done.state
  pub lines : outcome.lines.items ≡ done.lines
  pub sends : outcome.sends ≡ done.sends

-- what an outcome ends with: its messages are sent, and its lines written
abbrev pub ended : State → Outcome → Stepped
ended s o = finish (record { state = s; lines = o.lines.items; sends = o.sends })

pub record IsFinished (old new : Cluster) (lines_old lines_new : List Line) (stepped : Stepped) : Type 0 where
  pub same : IsSame old new
  pub parts : Parts new stepped.state
  pub lines : lines_new ≡ lines_old ++ stepped.lines

-- the messages were sent, and their lines written
pub record IsSent (old new : Cluster) (lines_old lines_new : List Line) (s : State) (sent : List Msg) : Type 0 where
  pub same : IsSame old new
  pub parts : Parts new (sent_state s sent)
  pub lines : lines_new ≡ lines_old ++ message_lines s s.network.count sent

-- some of the messages were sent, and their lines written
pub record IsSending (old : Cluster) (lines_old : List Line) (all : List Msg) (now : Cluster) (lines_now : List Line) (sent left : List Msg) : Type 0 where
  pub whole : sent ++ left ≡ all
  pub same : IsSame old now
  pub done : (s : State) → Parts old s → IsSent old now lines_old lines_now s sent

abbrev pub name_or_empty : Option (List ℕ) → List ℕ
name_or_empty None = []
name_or_empty (Some name) = name
