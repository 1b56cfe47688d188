-- Tables by node, as one slot for each node: the first slot for node 1.
use Rattle.std.specs.Prelude.{ℕ, ◌+◌, ◌==◌, if◌then◌else◌, List, [], ◌∷◌, Option, Some, None, Bool}
use Rattle.ld_table.specs.Table.{put, take_out}
use Rattle.ld_lsn.specs.Number.{home_epoch}
use Rattle.ld_msg.specs.declared.msg.Body.{Body}
use Rattle.ld_msg.specs.Reading.{Held}
use Rattle.ld_msg.specs.declared.msg.Body.TheVariants as bodies

module _ {X : Type 0} where
  -- the filled slots, the first slot's node being this one
  unfoldable pub filled_from : ℕ → List (Option X) → List (ℕ × X)
  filled_from node [] = []
  filled_from node (None ∷ slots) = filled_from (node + 1) slots
  filled_from node (Some x ∷ slots) = (node, x) ∷ filled_from (node + 1) slots

  -- the filled slots by node
  abbrev pub filled : List (Option X) → List (ℕ × X)
  filled slots = filled_from 1 slots

  -- a table with this for the node, or with nothing
  abbrev pub with_slot : ℕ → Option X → List (ℕ × X) → List (ℕ × X)
  with_slot node None m = take_out node m
  with_slot node (Some x) m = put node x m

-- the generation under which a node is lost for the number's epoch
abbrev pub generation_told : ℕ → Body → Option ℕ
generation_told s (bodies.LostHere number round generation end) = if home_epoch number == home_epoch s then Some generation else None
generation_told s _ = None

abbrev pub generation_held : ℕ → Option Held → Option ℕ
generation_held s None = None
generation_held s (Some h) = generation_told s h.body

-- the same, where the node counts
abbrev pub generation_within : Bool → ℕ → Option Held → Option ℕ
generation_within counts s o = if counts then generation_held s o else None
