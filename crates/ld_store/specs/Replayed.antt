-- How far the records of a segment were replayed.
use Rattle.std.specs.Prelude.{◌≡◌, ◌<◌, ◌+◌, ◌^◌, ◌==◌, ℕ, List, [], ◌∷◌, length, Option, None, Some, if◌then◌else◌}
use Rattle.ld_journal.specs.Rest.{IsShut, BeginsWith}
use Rattle.ld_msg.specs.Register.{record_length}
use Rattle.ld_op.specs.declared.record.Record.{Record}
use Rattle.ld_op.specs.declared.version.Version.{Version}
use Rattle.ld_op.specs.Plain.{Plain}
use Rattle.ld_op.specs.Records.{applied, version_after}
use Rattle.ld_op.specs.Bounds.{IsRecord}
use Rattle.ld_op.specs.Bytes.{record_bytes}
use Rattle.ld_segment.specs.Slots.{head_bytes}
use Rattle.ld_segment.specs.Ops.{place_behind, op_count, indexed, placed_record}
use Rattle.ld_segment.specs.Lies.{first_length}
use Rattle.ld_store.specs.Ops.{AreThere}
use Rattle.ld_store.specs.declared.replay.Walk.{Walk}

-- with a record more, whose body has so many bytes, and which is so many ops
abbrev pub walked : Walk → Version → ℕ → ℕ → Walk
walked w version size ops = record { version = version; at = w.at + record_length size; ops = w.ops + ops; first = if w.first == 0 then record_length size else w.first }

-- what the record of this body makes of the index, and of how far it goes
pub record IsWithRecord (w : Walk) (body : List ℕ) (index : Plain) (next : Walk) (made : Plain) : Type 0 where
  pub found : Record
  pub body_is : body ≡ record_bytes found
  pub is : IsRecord found
  pub follows : version_after w.version found ≡ Some next.version
  pub next_is : next ≡ walked w next.version (length body) (op_count (found ∷ []))
  pub made_is : made ≡ applied index (placed_record (w.at + 5) found)

-- from an offset on, behind a version and over an index, these bytes have records that lead to this index; more stands behind them
pub record HasReplayed (from : ℕ) (opening : Version) (base : Plain) (bytes : List ℕ) (w : Walk) (index : Plain) : Type 0 where
  pub found : List Record
  pub rest : List ℕ
  pub there : AreThere from opening found w.version rest bytes
  pub at_is : w.at ≡ from + place_behind found
  pub some : 0 < length rest
  pub ops_is : w.ops ≡ op_count found
  pub first_is : w.first ≡ first_length found
  pub index_is : index ≡ indexed from base found

-- the record of a head that names this offset, and more
pub record BeginsWithHead (head : ℕ) (rest : List ℕ) : Type 0 where
  pub begins : BeginsWith (head_bytes head) rest
  pub fits : head < 2 ^ 64

-- they end at a shut gate, or at a head, which names an offset
abbrev pub Stops : Option ℕ → List ℕ → Type 0
Stops None rest = IsShut rest
Stops (Some head) rest = BeginsWithHead head rest

-- all records of the segment were replayed
pub record Replayed (from : ℕ) (opening : Version) (base : Plain) (bytes : List ℕ) (w : Walk) (index : Plain) (head : Option ℕ) : Type 0 where
  pub has : HasReplayed from opening base bytes w index
  pub stops : Stops head has.rest
