-- What a node is told of the closed epochs of a log, where it told an actor to wait in one of them.
use Rattle.std.specs.Prelude.{ℕ, nat_le, Option, None, Some, Bool, false, if◌then◌else◌}
use Rattle.ld_lsn.specs.Number.{home_epoch}
use Rattle.ld_msg.specs.declared.msg.Summary.{Summary}
use Rattle.ld_msg.specs.declared.msg.Who.{Who}
use Rattle.ld_msg.specs.declared.msg.Who.TheVariants as whos
use Rattle.ld_msg.specs.declared.msg.Body.{Body}
use Rattle.ld_msg.specs.declared.msg.Body.TheVariants as bodies
use Rattle.ld_msg.specs.declared.msg.Msg.{Msg}
use Rattle.ld_msg.specs.Register.{Register, lce_of, summary_shown}

-- the epoch of the number for which it tells its actor to wait
abbrev pub waited : Body → Option ℕ
waited (bodies.ReadWait round from released) = Some (home_epoch from)
waited _ = None

-- there is one, and it is at most this one
abbrev pub is_within : ℕ → Option ℕ → Bool
is_within lce None = false
is_within lce (Some epoch) = nat_le epoch lce

-- the close of an epoch of a log, from the sequencer that closed it
abbrev pub closing : ℕ → ℕ → Who → Option Summary → Option Msg
closing l epoch to None = None
closing l epoch to (Some y) = Some (record { from = whos.Sequencer y.ballot; to = to; log = l; body = bodies.Clean epoch y })

-- what the register says of an epoch of the log, told the sender of a message that told its actor to wait in a closed epoch
abbrev pub reminder : ℕ → Register → ℕ → Msg → Option Msg
reminder l r epoch m = if is_within (lce_of r l) (waited m.body) then closing l epoch m.from (summary_shown r l epoch) else None

-- the same of the log whose closed epochs an actor tells nodes of, where there is one
abbrev pub reminded : Option ℕ → Register → ℕ → Msg → Option Msg
reminded None r epoch m = None
reminded (Some l) r epoch m = reminder l r epoch m
