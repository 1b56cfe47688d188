-- What is kept in memory of a register's contents: its tables, with room made beforehand.
use Rattle.std.specs.Prelude.{◌≡◌, ◌≤◌, ◌-◌, ◌^◌, ℕ, Bool, ◌&&◌, ◌||◌, nat_lt, nat_le, false, List, [], ◌∷◌, length, filter, Option, Some, None, is_some, IsSome, if◌then◌else◌}
use Rattle.std.specs.Option.{unwrap_or}
use Rattle.ld_table.specs.Table.{find, put, keep_keys, map_values}
use Rattle.ld_table.specs.Words.{how_many}
use Rattle.ld_ids.specs.Id.{IsLog}
use Rattle.ld_ids.specs.declared.set.Spec.{Spec}
use Rattle.ld_msg.specs.declared.msg.Summary.{Summary}
use Rattle.ld_msg.specs.Bounds.{IsSummary}
use Rattle.ld_msg.specs.Register.{Register, Epochs, no_epochs, swaps_in, swapped_spec}
use Rattle.ld_register.specs.Bounds.{IsSpecFor}
use Rattle.ld_register.specs.declared.change.Change.{Change}
use Rattle.ld_register.specs.declared.fixed.Fixed.{Fixed}
use Rattle.ld_register.specs.declared.change.Change.TheVariants as changes

-- ---- a log: what is fixed for an epoch above the greatest one is room for it, and so is a summary above the last closed epoch ----

abbrev pub is_up_to : ℕ → ℕ → Bool
is_up_to last e = nat_le 1 e && nat_le e last

abbrev pub shown_log : Epochs → Epochs
shown_log v = record { epoch = v.epoch; lce = v.lce; specs = keep_keys (is_up_to v.epoch) v.specs; swapped = keep_keys (is_up_to v.epoch) v.swapped; swaps = v.swaps; summaries = keep_keys (is_up_to v.lce) v.summaries }

-- numbers in their bounds, a summary of each closed epoch, and each of its own epoch
pub record IsLogSound (v : Epochs) : Type 0 where
  pub epoch : v.epoch ≤ 2 ^ 32 - 2
  pub lce : v.lce ≤ 2 ^ 32 - 2
  pub are : (e : ℕ) (y : Summary) → find e v.summaries ≡ Some y → IsSummary e y
  pub there : (e : ℕ) → 1 ≤ e → e ≤ v.lce → IsSome (find e v.summaries)

-- ---- what is fixed for epochs: as it was first, and as swaps left it ----

abbrev pub fixed_in : List (ℕ × Fixed) → List (ℕ × Spec)
fixed_in m = map_values (λ x. x.fixed) m

abbrev pub swapped_in : List (ℕ × Fixed) → List (ℕ × Spec)
swapped_in m = map_values (λ x. x.swapped) m

abbrev pub swapped_fixed : ℕ → ℕ → Fixed → Fixed
swapped_fixed old new x = record x { swapped = swapped_spec old new x.swapped }

-- with the new node in the place of the old one in each epoch up to one
abbrev pub swapped_up_to : ℕ → ℕ → ℕ → List (ℕ × Fixed) → List (ℕ × Fixed)
swapped_up_to last old new [] = []
swapped_up_to last old new (e ∷ m) = (e.0, if is_up_to last e.0 then swapped_fixed old new e.1 else e.1) ∷ swapped_up_to last old new m

-- in one epoch
abbrev pub swapped_where : ℕ → ℕ → ℕ → List (ℕ × Fixed) → Option Fixed → List (ℕ × Fixed)
swapped_where e old new m None = m
swapped_where e old new m (Some x) = put e (swapped_fixed old new x) m

abbrev pub swaps_where : ℕ → ℕ → Option Fixed → Bool
swaps_where old new None = false
swaps_where old new (Some x) = swaps_in old new x.swapped.set

-- how many epochs up to one have the old node and lack the new one
abbrev pub swaps_up_to : ℕ → ℕ → ℕ → List (ℕ × Fixed) → ℕ
swaps_up_to last old new m = how_many (λ e. is_up_to last e.0 && swaps_in old new e.1.swapped.set) m

-- ---- tables: a log without an epoch, a close and a swap is room for one, and so is generation 0 ----

pub record Kept : Type 0 where
  pub logs : List (ℕ × Epochs)
  pub generations : List (ℕ × ℕ)

abbrev pub is_held : Epochs → Bool
is_held v = nat_lt 0 v.epoch || (nat_lt 0 v.lce || nat_lt 0 v.swaps)

abbrev pub shown_logs : List (ℕ × Epochs) → List (ℕ × Epochs)
shown_logs m = filter (λ e. is_held e.1) (map_values shown_log m)

abbrev pub shown_generations : List (ℕ × ℕ) → List (ℕ × ℕ)
shown_generations m = filter (λ e. nat_lt 0 e.1) m

-- the contents, with a journal of this length
abbrev pub register_of : Kept → ℕ → Register
register_of k n = record { logs = shown_logs k.logs; generations = shown_generations k.generations; length = n; armed = None }

-- its epoch is one that may be handed out, and what is fixed and what there is room for are the log's
pub record IsLogOf (l : ℕ) (v : Epochs) : Type 0 where
  pub epoch : v.epoch ≤ 2 ^ 32 - 2
  pub specs : (e : ℕ) (s : Spec) → find e v.swapped ≡ Some s → IsSpecFor l s

-- each stands under its log's number
abbrev pub AreLogs : List (ℕ × Epochs) → Type 0
AreLogs m = (l : ℕ) (v : Epochs) → find l m ≡ Some v → IsLog l × IsLogOf l v

-- and at most so many are held
pub record AreFewLogs (m : List (ℕ × Epochs)) : Type 0 where
  pub logs : AreLogs m
  pub few : length (shown_logs m) ≤ 64

abbrev pub log_at : List (ℕ × Epochs) → ℕ → Epochs
log_at m l = unwrap_or (find l m) no_epochs

-- ---- room ----

abbrev pub has_room : Kept → Change → Bool
has_room k (changes.Activate e s) = is_some (find s.log k.logs) && is_some (find e (log_at k.logs s.log).specs)
has_room k (changes.Unfixed l e) = is_some (find l k.logs)
has_room k (changes.Close l e y) = is_some (find l k.logs) && is_some (find e (log_at k.logs l).summaries)
has_room k (changes.Lossless l e y) = is_some (find l k.logs) && is_some (find e (log_at k.logs l).summaries)
has_room k (changes.Draw n g) = is_some (find n k.generations)
has_room k (changes.Swap l upto old new) = is_some (find l k.logs)
