-- What an index and areas hold that a Base can carry, so that a Base is read as it was written.
use Rattle.std.specs.Prelude.{◌≡◌, ◌<◌, ◌≤◌, ◌+◌, ◌^◌, ℕ, List, length, Some, false}
use Rattle.ld_msg.specs.declared.msg.What.TheVariants.{Rec}
use Rattle.ld_msg.specs.declared.msg.Entry.{Entry}
use Rattle.ld_msg.specs.declared.msg.Summary.{Summary}
use Rattle.ld_msg.specs.Bounds.{IsEpoch}
use Rattle.ld_msg.specs.Register.{journal_limit}
use Rattle.ld_table.specs.Table.{find, Ordered}
use Rattle.ld_table.specs.Words.{numbers_from}
use Rattle.ld_op.specs.Plain.{Plain, Log}
use Rattle.ld_op.specs.Cells.{IsOrdered}
use Rattle.ld_op.specs.Indexed.{first_place}
use Rattle.ld_node_bounds.specs.States.{last_carried, IsPlain}
use Rattle.ld_layout.specs.Layout.{base_length}

-- summaries and last known good offsets rise, these stand under epochs, and each payload's bytes stand side by side
pub record IsListedLog (g : Log) : Type 0 where
  pub summaries : Ordered g.summaries
  pub lngs : Ordered g.lngs
  pub epochs : (epoch lng : ℕ) → find epoch g.lngs ≡ Some lng → IsEpoch epoch
  pub rows : (n : ℕ) (e : Entry) (q : List ℕ) → find n g.entries ≡ Some e → e.what ≡ Rec q → q ≡ numbers_from (first_place q) (length q)

abbrev pub IsListed : Plain → Type 0
IsListed p = (l : ℕ) (g : Log) → find l p.logs ≡ Some g → IsListedLog g

-- an index that a Base can carry, as far as its offsets and counts fit their fields; ops keep this
pub record IsIndex (p : Plain) : Type 0 where
  pub ordered : IsOrdered p
  pub well : IsPlain last_carried p
  pub listed : IsListed p

-- an index and areas whose numbers and counts fit their fields
pub record IsBase (p : Plain) (areas : List (ℕ × ℕ)) : Type 0 where
  pub index : IsIndex p
  pub places : (l n : ℕ) (g : Log) (e : Entry) (q : List ℕ) → find l p.logs ≡ Some g → find n g.entries ≡ Some e → e.what ≡ Rec q → first_place q + length q < 2 ^ 64
  pub fits : base_length p areas < 2 ^ 32
  pub sorted : Ordered areas
  pub ends : (k v : ℕ) → find k areas ≡ Some v → k + v ≤ journal_limit

-- no epoch was closed with a loss
abbrev pub HasNoLoss : Plain → Type 0
HasNoLoss p = (l epoch : ℕ) (g : Log) (y : Summary) → find l p.logs ≡ Some g → find epoch g.summaries ≡ Some y → y.loss ≡ false
