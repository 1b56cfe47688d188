-- What is read of the present peer, and what is written to it.
use Rattle.std.specs.Prelude.{◌≡◌, ◌≤◌, ◌++◌, ℕ, List, [], length, take, Option, None, Some}
use Rattle.ld_msg.specs.declared.msg.Msg.{Msg}
use Rattle.ld_link.specs.Peers.{Peers, heard, said, on_present, left_of}
use Rattle.ld_wire.specs.Frames.{frame_of}
use Rattle.ld_wire.specs.Judging.{judge, Waits}
use Rattle.ld_wire.specs.Held.{Held}

-- some bytes of the present peer were read, and stand behind those that were held
pub record Hears (old : Peers) (new : Option Peers) (before now : List ℕ) : Type 0 where
  pub n : ℕ
  pub most : n ≤ length (left_of old.present)
  pub peers : new ≡ Some (on_present (heard n) old)
  pub fed : now ≡ before ++ take n (left_of old.present)

-- a message came, and its frame was taken from what was held
pub record HearsFrame (old : Peers) (new : Option Peers) (before : List ℕ) (m : Msg) (now : Held) : Type 0 where
  pub held : List ℕ
  pub hears : Hears old new before held
  pub frame : held ≡ frame_of m ++ now.bytes
  pub fine : now.fault ≡ None

-- nothing is left of the present peer
abbrev pub IsAtEnd : Option Peers → Type 0
IsAtEnd now = (p : Peers) → now ≡ Some p → left_of p.present ≡ []

-- the peer is at its end, and what is held is no whole frame
pub record HearsEnd (old : Peers) (new : Option Peers) (before : List ℕ) (now : Held) : Type 0 where
  pub hears : Hears old new before now.bytes
  pub waits : judge now.bytes ≡ Waits
  pub all : IsAtEnd new
  pub fine : now.fault ≡ None

abbrev pub HearsNext : Peers → Option Peers → List ℕ → Held → Option Msg → Type 0
HearsNext old new before now None = HearsEnd old new before now
HearsNext old new before now (Some m) = HearsFrame old new before m now

-- some bytes were read, and no frame was taken of them
pub record HearsSome (old : Peers) (new : Option Peers) (before : List ℕ) (P : List ℕ → Type 0) : Type 0 where
  pub held : List ℕ
  pub hears : Hears old new before held
  pub cause : P held

-- a part of the bytes was written to the present peer, from the front
pub record SaysPart (old : Peers) (new : Option Peers) (bytes : List ℕ) : Type 0 where
  pub part : List ℕ
  pub missing : List ℕ
  pub whole : bytes ≡ part ++ missing
  pub peers : new ≡ Some (on_present (said part) old)

abbrev pub Says : Peers → Option Peers → List ℕ → Type 0
Says old new bytes = new ≡ Some (on_present (said bytes) old)
