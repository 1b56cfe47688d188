-- What is decided of a digest.
use Rattle.std.specs.Prelude.{◌≡◌, ℕ, zero, suc, ◌+◌, List, [], ◌∷◌, Bool, if◌then◌else◌}
use Rattle.ld_table.specs.Table.{find}
use Rattle.ld_lsn.specs.Number.{numbered}
use Rattle.ld_msg.specs.declared.msg.Entry.{Entry}
use Rattle.ld_ids.specs.declared.set.Spec.{Spec}
use Rattle.ld_msg.specs.Digest.{Told, Item, enough, is_spent, best, content, top_place}
use Rattle.ld_plan.specs.Claims.{Decided}

-- a plan needs enough nodes that told, and one that says what is lost a digest that is spent
abbrev pub lets_plan : Spec → Bool → List Told → Bool
lets_plan s loss d = if loss then is_spent s d else enough s d

-- each number has what the best statement says, and the greatest offset is known
pub record IsDecision (d : List Told) (c : Decided) : Type 0 where
  pub content : (loss : Bool) (s : ℕ) → content loss (find s c.entries) ≡ content loss (best s d)
  pub top : c.top ≡ top_place d d

-- what stands at so many offsets from one on
unfoldable pub record_items_from : ℕ → Bool → List (ℕ × Entry) → ℕ → ℕ → List Item
record_items_from epoch loss entries place zero = []
record_items_from epoch loss entries place (suc k) = record { number = numbered epoch place; what = content loss (find (numbered epoch place) entries) } ∷ record_items_from epoch loss entries (place + 1) k
