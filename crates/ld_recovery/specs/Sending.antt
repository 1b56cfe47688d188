-- The messages of a sequencer to nodes.
use Rattle.std.specs.Prelude.{◌≡◌, ℕ, List, take, length}
use Rattle.ld_msg.specs.declared.msg.Who.TheVariants as whos
use Rattle.ld_msg.specs.declared.msg.Msg.{Msg}
use Rattle.ld_msg.specs.declared.msg.Body.{Body}
use Rattle.ld_msg.specs.declared.msg.Body.TheVariants as bodies
use Rattle.ld_msg.specs.declared.msg.What.{What}
use Rattle.ld_msg.specs.declared.msg.What.TheVariants.{Rec}
use Rattle.ld_msg.specs.Bounds.{IsEpoch, IsSummary}
use Rattle.ld_msg.specs.Network.{posted}
use Rattle.ld_recovery.specs.declared.send.Sender.{Sender}
use Rattle.ld_recovery.specs.declared.send.Notice.{Notice}
use Rattle.ld_recovery.specs.declared.send.Notice.TheVariants as notices
use Rattle.ld_recovery.specs.declared.send.Stored.{Stored}
use Rattle.ld_recovery.specs.declared.send.Stored.TheVariants as stored

abbrev pub sent : Sender → List (ℕ × Body) → List Msg
sent s bs = posted (whos.Sequencer s.epoch) s.log bs

-- the one begins with the other
abbrev pub BeginsWith : {X : Type 0} → List X → List X → Type 0
BeginsWith old new = take (length old) new ≡ old

-- ---- what all nodes of a set are told ----

abbrev pub told : Notice → Body
told (notices.Clean epoch summary) = bodies.Clean epoch summary
told (notices.Release released) = bodies.Release released
told (notices.Trim trim) = bodies.Trim trim

abbrev pub number_told : Notice → ℕ
number_told (notices.Clean epoch summary) = 0
number_told (notices.Release released) = released
number_told (notices.Trim trim) = trim

-- a close is told of an epoch, with a summary of it
abbrev pub IsNotice : Notice → Type 0
IsNotice (notices.Clean epoch summary) = IsEpoch epoch × IsSummary epoch summary
IsNotice (notices.Release released) = Unit {0}
IsNotice (notices.Trim trim) = Unit {0}

-- ---- what a store carries ----

abbrev pub what_of : Stored → What
what_of (stored.Item what) = what.now
what_of (stored.Record payload) = Rec payload.now
