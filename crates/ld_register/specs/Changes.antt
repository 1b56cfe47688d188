-- The changes of a register: their bytes, which one may come next, and what each makes of the contents.
use Rattle.std.specs.Prelude.{◌≡◌, ◌≢◌, ◌+◌, ℕ, Bool, true, false, not, ◌&&◌, ◌==◌, nat_lt, if◌then◌else◌, List, [], ◌∷◌, ◌++◌}
use Rattle.std.specs.Int.{w16, w32, w64, to_be_bytes}
use Rattle.ld_table.specs.Table.{put}
use Rattle.ld_ids.specs.Id.{IsLog, IsNode}
use Rattle.ld_ids.specs.Set.{set_bits}
use Rattle.ld_ids.specs.declared.set.Spec.{Spec}
use Rattle.ld_msg.specs.declared.msg.Summary.{Summary}
use Rattle.ld_msg.specs.Bounds.{Is32, IsEpoch, IsSummary}
use Rattle.ld_msg.specs.Register.{Register, Epochs, epochs_of, generation_of, lce_of, record_length, with_epochs, next_epoch, closed_epochs, swapped_epochs, swappable, swap_limit, is_crowded}
use Rattle.ld_register.specs.Bounds.{IsSpec}
use Rattle.ld_register.specs.Calls.{activation_length, close_length, draw_length, swap_length}
use Rattle.ld_register.specs.declared.change.Change.{Change}
use Rattle.ld_register.specs.declared.change.Change.TheVariants as changes

-- ---- bytes ----

-- a summary but for whether anything is lost
abbrev pub summary_bytes : Summary → List ℕ
summary_bytes y = to_be_bytes w32 y.ballot ++ (to_be_bytes w32 y.lng ++ (to_be_bytes w64 y.trim ++ to_be_bytes w32 y.end))

-- a log, an epoch of it, and its summary
abbrev pub closing_bytes : ℕ → ℕ → Summary → List ℕ
closing_bytes l e y = to_be_bytes w32 l ++ (to_be_bytes w32 e ++ summary_bytes y)

abbrev pub flag : Bool → ℕ
flag b = if b then 1 else 0

abbrev pub spec_bytes : Spec → List ℕ
spec_bytes s = to_be_bytes w16 (set_bits s.set) ++ s.r ∷ s.extras ∷ []

-- the body of a change's record
unfoldable pub change_bytes : Change → List ℕ
change_bytes (changes.Activate e s) = 19 ∷ (to_be_bytes w32 s.log ++ (to_be_bytes w32 e ++ spec_bytes s))
change_bytes (changes.Unfixed l e) = 16 ∷ (to_be_bytes w32 l ++ to_be_bytes w32 e)
change_bytes (changes.Close l e y) = 20 ∷ (closing_bytes l e y ++ flag y.loss ∷ [])
change_bytes (changes.Lossless l e y) = 17 ∷ closing_bytes l e y
change_bytes (changes.Draw n g) = 18 ∷ (n ∷ to_be_bytes w32 g)
change_bytes (changes.Swap l upto old new) = 21 ∷ (to_be_bytes w32 l ++ (to_be_bytes w32 upto ++ old ∷ new ∷ []))

-- what a record's body may carry
abbrev pub IsChange : Change → Type 0
IsChange (changes.Activate e s) = IsEpoch e × IsSpec s
IsChange (changes.Unfixed l e) = IsLog l × IsEpoch e
IsChange (changes.Close l e y) = IsLog l × IsEpoch e × IsSummary e y
IsChange (changes.Lossless l e y) = IsLog l × IsEpoch e × IsSummary e y × (y.loss ≡ false)
IsChange (changes.Draw n g) = IsNode n × Is32 g
IsChange (changes.Swap l upto old new) = IsLog l × Is32 upto × IsNode old × IsNode new

-- a body is this change's
pub record IsBody (body : List ℕ) (x : Change) : Type 0 where
  pub bytes : body ≡ change_bytes x
  pub is : IsChange x

-- a body is no change's
abbrev pub IsNoBody : List ℕ → Type 0
IsNoBody body = (x : Change) → IsChange x → body ≢ change_bytes x

-- ---- contents ----

-- whether a change is the next one of its log or node; a swap is where it changes an epoch
abbrev pub is_next : Register → Change → Bool
is_next r (changes.Activate e s) = not (is_crowded r s.log) && ((epochs_of r s.log).epoch + 1 == e)
is_next r (changes.Unfixed l e) = not (is_crowded r l) && ((epochs_of r l).epoch + 1 == e)
is_next r (changes.Close l e y) = not (is_crowded r l) && (lce_of r l + 1 == e)
is_next r (changes.Lossless l e y) = not (is_crowded r l) && (lce_of r l + 1 == e)
is_next r (changes.Draw n g) = generation_of r n + 1 == g
is_next r (changes.Swap l upto old new) = nat_lt 0 (swappable r l upto old new) && nat_lt (epochs_of r l).swaps swap_limit

-- the lengths of the bodies of an activation that fixes nothing, and of a close that says nothing of a loss
abbrev pub unfixed_length : ℕ
unfixed_length = 9

abbrev pub lossless_length : ℕ
lossless_length = 29

abbrev pub body_length : Change → ℕ
body_length (changes.Activate e s) = activation_length
body_length (changes.Unfixed l e) = unfixed_length
body_length (changes.Close l e y) = close_length
body_length (changes.Lossless l e y) = lossless_length
body_length (changes.Draw n g) = draw_length
body_length (changes.Swap l upto old new) = swap_length

abbrev pub longer : Register → ℕ → Register
longer r body = record r { length = r.length + record_length body }

-- the next epoch of a log, for which nothing is fixed
abbrev pub unfixed_epoch : Epochs → Epochs
unfixed_epoch e = record e { epoch = e.epoch + 1 }

-- the contents after a change
abbrev pub changed : Register → Change → Register
changed r (changes.Activate e s) = longer (with_epochs r s.log (next_epoch (epochs_of r s.log) s)) activation_length
changed r (changes.Unfixed l e) = longer (with_epochs r l (unfixed_epoch (epochs_of r l))) unfixed_length
changed r (changes.Close l e y) = longer (with_epochs r l (closed_epochs (epochs_of r l) e y)) close_length
changed r (changes.Lossless l e y) = longer (with_epochs r l (closed_epochs (epochs_of r l) e y)) lossless_length
changed r (changes.Draw n g) = longer (record r { generations = put n (generation_of r n + 1) r.generations }) draw_length
changed r (changes.Swap l upto old new) = longer (with_epochs r l (swapped_epochs (epochs_of r l) upto old new)) swap_length

-- a body is the next change of these contents
pub record IsNext (r : Register) (body : List ℕ) (x : Change) : Type 0 where
  pub body_is : IsBody body x
  pub next : is_next r x ≡ true

-- these bodies, one after the other, are the next changes, and lead from one contents to other ones
abbrev pub Leads : Register → List (List ℕ) → Register → Type 0
Leads r [] c = r ≡ c
Leads r (body ∷ bodies) c = (x : Change) × IsNext r body x × Leads (changed r x) bodies c
