-- What is told of an actor, and which messages it hears.
use Rattle.std.specs.Prelude.{ℕ, ◌≡◌, ◌≤◌, ◌==◌, List, length, Bool, true, false, Option, None, Some}
use Rattle.std.specs.List.{AllByRecursion}
use Rattle.std.specs.Io.KnownBytes.{Appends}
use Rattle.ld_transcript.specs.Text.{text}
use Rattle.ld_msg.specs.declared.msg.Who.{Who}
use Rattle.ld_msg.specs.declared.msg.Who.TheVariants as whos
use Rattle.ld_msg.specs.declared.msg.Msg.{Msg}
use Rattle.ld_msg.specs.declared.msg.Body.{Body}
use Rattle.ld_msg.specs.declared.msg.Body.TheVariants as bodies
use Rattle.std.specs.declared.result.Result.{Result}
use Rattle.std.specs.declared.result.Result.TheVariants.{Ok, Err}
use Rattle.ld_dial.specs.declared.fault.Fault.{Fault}
use Rattle.ld_dial.specs.declared.fault.Fault.TheVariants as faults
use Rattle.ld_rounds.specs.declared.ended.Ended.{Ended}
use Rattle.ld_rounds.specs.declared.ended.Ended.TheVariants as ends
use Rattle.ld_rounds.specs.declared.actor.Heard.{Heard}
use Rattle.ld_rounds.specs.Queued.{put_all}
use Rattle.ld_rounds.specs.Output.{AppendsPart}

-- a node answers such a message
abbrev pub is_answered : Body → Bool
is_answered (bodies.Store n lng w) = true
is_answered (bodies.DigestAsk n) = true
is_answered (bodies.ReadAsk round n) = true
is_answered (bodies.ReadOne round n set excluded) = true
is_answered _ = false

abbrev pub is_of : ℕ → Who → Bool
is_of y (whos.Node n) = n == y
is_of y _ = false

-- so many messages at most, all of this node
abbrev pub AnswersOf : ℕ → ℕ → List Msg → Type 0
AnswersOf y n ms = (length ms ≤ n) × AllByRecursion (λ m. is_of y m.from ≡ true) ms

-- its messages wait for their nodes, its lines are written, and the drive ends by it or not
pub record Told (heard : Heard) (end : Option Ended) (before now : List (List Msg)) (old new : Option (List ℕ)) : Type 0 where
  pub end_is : heard.end ≡ end
  pub queues : now ≡ put_all before heard.sends
  pub written : Appends old new (text heard.lines.items)

abbrev pub HasTold : Heard → List (List Msg) → List (List Msg) → Option (List ℕ) → Option (List ℕ) → Type 0
HasTold heard before now old new = Told heard None before now old new

-- when out of memory and where the output failed a part of the lines may be written
abbrev pub IsTelling : Heard → List (List Msg) → List (List Msg) → Option (List ℕ) → Option (List ℕ) → Ended → Type 0
IsTelling heard before now old new ends.NoMemory = AppendsPart old new (text heard.lines.items)
IsTelling heard before now old new ends.Write = AppendsPart old new (text heard.lines.items)
IsTelling heard before now old new ended = Told heard (Some ended) before now old new

-- where the link failed the drive goes on, and else it ends
abbrev pub missed_by : Fault → Result Bool Ended
missed_by faults.Link = Ok false
missed_by (faults.BadFrame fault) = Err (ends.BadFrame fault)
missed_by faults.NoMemory = Err ends.NoMemory
