-- When only faults, limits and running out of memory stop a node: its peers speak in frames, and its store can be opened.
use Rattle.std.specs.Prelude.{◌≡◌, ◌⊎◌, ℕ, List, [], ◌∷◌, ◌++◌, Bool, true}
use Rattle.ld_msg.specs.declared.msg.Msg.{Msg}
use Rattle.ld_wire.specs.Streams.{frames_of, AreMessages}
use Rattle.ld_wire.specs.Judging.{judge, Waits}
use Rattle.ld_op.specs.Plain.{Plain}
use Rattle.ld_serve.specs.declared.stop.Stop.{Stop}
use Rattle.ld_serve.specs.declared.stop.Stop.TheVariants.{BadFrame, Damaged, Blank}
use Rattle.ld_serve.specs.Opening.{IsBlank, IsFormatted}

-- the bytes of a peer are the frames of some messages, and then less than one frame
pub record IsSpoken (bytes : List ℕ) : Type 0 where
  pub messages : List Msg
  pub rest : List ℕ
  pub bytes_are : bytes ≡ frames_of messages ++ rest
  pub are : AreMessages messages
  pub waits : judge rest ≡ Waits

-- those of each peer are
abbrev pub AreSpoken : List (List ℕ) → Type 0
AreSpoken [] = Unit {0}
AreSpoken (bytes ∷ more) = IsSpoken bytes × AreSpoken more

-- the disk is blank, a format was asked for, and the register tells what it holds and isn't damaged
pub record MayFormat (Told : Type 0) (damaged : ℕ → Type 0) (format : Bool) (bytes : List ℕ) : Type 0 where
  pub blank : IsBlank bytes
  pub asked : format ≡ true
  pub told : Told
  pub sound : (place : ℕ) → damaged place → ⊥

-- the disk's bytes are those of a formatted store, or it may be formatted
abbrev pub MayOpen : Type 0 → (ℕ → Type 0) → Bool → List ℕ → Type 0
MayOpen Told damaged format bytes = ((p : Plain) × IsFormatted p bytes) ⊎ MayFormat Told damaged format bytes

-- a fault of the disk, the register or the link, a limit, or running out of memory
abbrev pub IsFaultOrLimit : Stop → Type 0
IsFaultOrLimit (BadFrame fault) = ⊥
IsFaultOrLimit (Damaged which place) = ⊥
IsFaultOrLimit Blank = ⊥
IsFaultOrLimit _ = Unit {0}
