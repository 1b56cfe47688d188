-- What a call of a reader does to a state of the machine.
use Rattle.std.specs.Prelude.{ℕ, ◌≡◌, List}
use Rattle.ld_table.specs.Named.{put_named}
use Rattle.ld_config.specs.declared.config.Config.{Config}
use Rattle.ld_schedule.specs.declared.event.Event.{Event}
use Rattle.ld_schedule.specs.declared.event.Event.TheVariants as events
use Rattle.ld_msg.specs.declared.style.Style.{Style}
use Rattle.ld_msg.specs.declared.style.Style.TheVariants as styles
use Rattle.ld_msg.specs.declared.msg.Msg.{Msg}
use Rattle.ld_msg.specs.Reading.{Item}
use Rattle.ld_msg.specs.Reader.{Read}
use Rattle.ld_msg.specs.Register.{Register}
use Rattle.ld_reader.specs.Following.{Following, HasDone}
use Rattle.ld_machine.specs.State.{State, Done}
use Rattle.ld_clients.specs.Followers.{readers_of, KnowTheirLogs}
use Rattle.ld_clients.specs.declared.outcome.Outcome.{Outcome}

-- the state's readers are these, and each has what the configuration says of its log
pub record AreReaders (c : Config) (s : State) (fs : List (List ℕ × Following)) : Type 0 where
  pub readers : s.readers ≡ readers_of fs
  pub logs : KnowTheirLogs c fs

-- the event that opens a reader of a style
abbrev pub opening : Style → List ℕ → ℕ → ℕ → ℕ → Event
opening styles.EachCopy name l from until = events.Open name l from until
opening styles.OneCopy name l from until = events.OpenOne name l from until
opening styles.OfMessages name l from until = events.OpenMessages name l from until

-- the readers are then these, the register is one that is told, all else of the state is as it was, and the lines and the messages are those
pub record IsRead (s : State) (now : List (List ℕ × Following)) (outcome : Outcome) (told : Register → Type 0) (done : Done) : Type 0 where
  pub state : done.state ≡ record s { readers = readers_of now }
  pub register : told done.state.register
  pub lines : outcome.lines.items ≡ done.lines
  pub sends : outcome.sends ≡ done.sends

-- ---- one reader ----

-- the reader of the name has done this, given its items and sent its asks, and all others are as they were
pub record HasRead (name : List ℕ) (f : Following) (before after : List (List ℕ × Following)) (items : List (ℕ × Item)) (old new : List Msg) (a : Read) : Type 0 where
  pub now : Following
  pub readers : after ≡ put_named name now before
  pub done : HasDone f now items old new a
