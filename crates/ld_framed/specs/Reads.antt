-- Which reads were made for a frame of the present peer, in their order.
use Rattle.std.specs.Prelude.{◌≡◌, ◌⊎◌, ◌<◌, ℕ, List, [], ◌∷◌, ◌++◌, length, Option, None, Some}
use Rattle.ld_msg.specs.declared.msg.Msg.{Msg}
use Rattle.ld_wire.specs.Frames.{frame_of}
use Rattle.ld_past.specs.Events.{Event}
use Rattle.ld_link.specs.Calls.{read}
use Rattle.ld_wire.specs.Judging.{judge, Waits}

-- one read and no other call, which gave bytes, and they stand behind those that were held
pub record ReadsOnce (old new : List Event) (before now : List ℕ) : Type 0 where
  pub bytes : List ℕ
  pub some : 0 < length bytes
  pub did : new ≡ read bytes ∷ old
  pub fed : now ≡ before ++ bytes

abbrev pub ReadsAtMostOnce : List Event → List Event → List ℕ → Type 0
ReadsAtMostOnce old new before = (new ≡ old) ⊎ ((now : List ℕ) × ReadsOnce old new before now)

-- reads that gave bytes and no other call, each of them while what was held so far is no whole frame
pub data ReadsWaiting (old : List Event) (before : List ℕ) : List Event → List ℕ → Type 0 where
  none : ReadsWaiting old before old before
  more : (mid new : List Event) (held now : List ℕ) → ReadsWaiting old before mid held → judge held ≡ Waits → ReadsOnce mid new held now → ReadsWaiting old before new now

-- then one that gave none, at the peer's end, when what is held is no whole frame
pub record ReadsToEnd (old new : List Event) (before now : List ℕ) : Type 0 where
  pub mid : List Event
  pub reads : ReadsWaiting old before mid now
  pub waits : judge now ≡ Waits
  pub ends : new ≡ read [] ∷ mid

-- what is held at the end, or behind the message's frame
abbrev pub ReadsNext : List Event → List Event → List ℕ → List ℕ → Option Msg → Type 0
ReadsNext old new before now None = ReadsToEnd old new before now
ReadsNext old new before now (Some m) = ReadsWaiting old before new (frame_of m ++ now)

-- reads, and no frame was taken of what is held then
pub record ReadsSome (old new : List Event) (before : List ℕ) (P : List ℕ → Type 0) : Type 0 where
  pub held : List ℕ
  pub reads : ReadsWaiting old before new held
  pub cause : P held
