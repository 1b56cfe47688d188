-- Records one behind the other: what they add up to, where each stands, and which may.
use Rattle.std.specs.Prelude.{◌≡◌, ◌+◌, ℕ, List, [], ◌∷◌, Option, Some, None, Bool, true, false}
use Rattle.ld_journal.specs.Format.{IsJournal}
use Rattle.ld_msg.specs.Register.{record_length}
use Rattle.ld_op.specs.declared.record.Record.{Record}
use Rattle.ld_op.specs.declared.record.Record.TheVariants.{Now, Before, Mark}
use Rattle.ld_op.specs.declared.version.Version.{Version}
use Rattle.ld_op.specs.declared.version.Version.TheVariants.{Blank}
use Rattle.ld_op.specs.Plain.{Plain, unformatted}
use Rattle.ld_op.specs.Records.{applied, version_after, body_length}
use Rattle.ld_op.specs.Bounds.{IsRecord}
use Rattle.ld_op.specs.Bytes.{record_bytes}
use Rattle.ld_op.specs.Cells.{placed}

abbrev pub bodies_of : List Record → List (List ℕ)
bodies_of [] = []
bodies_of (v ∷ vs) = record_bytes v ∷ bodies_of vs

-- how far behind the first one's gate the gate behind them stands
abbrev pub place_behind : List Record → ℕ
place_behind [] = 0
place_behind (v ∷ vs) = record_length (body_length v) + place_behind vs

-- a mark is no op
abbrev pub op_count : List Record → ℕ
op_count [] = 0
op_count (Now o ∷ vs) = 1 + op_count vs
op_count (Before o ∷ vs) = 1 + op_count vs
op_count (Mark ∷ vs) = op_count vs

-- ---- what they make ----

-- the plain state that records add up to
abbrev pub applied_all : Plain → List Record → Plain
applied_all p [] = p
applied_all p (v ∷ vs) = applied_all (applied p v) vs

abbrev pub state_after : List Record → Plain
state_after vs = applied_all unformatted vs

-- a record whose body stands at an offset, with the places of its payloads' bytes
abbrev pub placed_record : ℕ → Record → Record
placed_record at (Now o) = Now (placed at o)
placed_record at (Before o) = Before (placed at o)
placed_record at Mark = Mark

-- the index once these records stand behind the gate at an offset; a body begins five bytes behind its gate
abbrev pub indexed : ℕ → Plain → List Record → Plain
indexed gate p [] = p
indexed gate p (v ∷ vs) = indexed (gate + record_length (body_length v)) (applied p (placed_record (gate + 5) v)) vs

-- ---- which records may stand there ----

abbrev pub are_none : List Record → Bool
are_none [] = true
are_none (v ∷ vs) = false

abbrev pub AreRecords : List Record → Type 0
AreRecords [] = Unit {0}
AreRecords (v ∷ vs) = IsRecord v × AreRecords vs

abbrev pub next_version : Option Version → Record → Option Version
next_version None v = None
next_version (Some w) v = version_after w v

abbrev pub version_on : Option Version → List Record → Option Version
version_on o [] = o
version_on o (v ∷ vs) = version_on (next_version o v) vs

-- from the version before them on each is in place
pub record ArePlaced (from : Version) (vs : List Record) (to : Version) : Type 0 where
  pub are : AreRecords vs
  pub version_is : version_on (Some from) vs ≡ Some to

-- bytes are a journal of these records, each in place
pub record IsJournalOf (vs : List Record) (bytes : List ℕ) : Type 0 where
  pub journal : IsJournal (bodies_of vs) bytes
  pub version : Version
  pub placed : ArePlaced Blank vs version
