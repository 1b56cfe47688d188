-- What nodes say of a log's trim point.
use Rattle.std.specs.Prelude.{ℕ, ◌≡◌, ◌⊎◌, List, ◌++◌, codes, map, Option, None, Some, Bool, true, false, nat_le, nat_lt, if◌then◌else◌}
use Rattle.std.specs.List.{flat_map, list_all}
use Rattle.ld_ids.specs.Set.{members}
use Rattle.ld_config.specs.declared.config.Config.{Config}
use Rattle.ld_op.specs.Plain.{log_of}
use Rattle.ld_machine.specs.Disk.{Node, is_up}
use Rattle.ld_machine.specs.State.{node_at}
use Rattle.ld_machine.specs.Config.{has_log}
use Rattle.ld_dial.specs.Far.{Far, alone}
use Rattle.ld_operate.specs.Shown.{labelled, labelled_lsn}
use Rattle.ld_operate.specs.Asked.{silent_line}
use Rattle.ld_operate.specs.Heard.{Stand}

-- the line of what a node told for its trim point, or that it was silent
unfoldable pub trim_line : ℕ → Option ℕ → List ℕ
trim_line node None = silent_line false node
trim_line node (Some trim) = labelled (codes "node ") node ++ labelled_lsn (codes " trim ") trim ++ codes "\n"

abbrev pub trims_text : List (ℕ × Option ℕ) → List ℕ
trims_text trims = flat_map (λ t. trim_line t.0 t.1) trims

abbrev pub has_told : Option ℕ → Bool
has_told None = false
has_told (Some trim) = true

-- whether it told that all up to a number is trimmed there
abbrev pub has_trimmed : ℕ → Option ℕ → Bool
has_trimmed upto None = false
has_trimmed upto (Some trim) = nat_le upto trim

-- whether it told that not all up to a number is trimmed there
abbrev pub is_behind : ℕ → Option ℕ → Bool
is_behind upto None = false
is_behind upto (Some trim) = nat_lt trim upto

-- what a node of the written machine tells: one that is up its trim point
abbrev pub trim_of : Node → ℕ → Option ℕ
trim_of x log = if is_up x.status then Some (log_of x.plain log).trim else None

abbrev pub trims_of : List (ℕ × Node) → ℕ → List ℕ → List (ℕ × Option ℕ)
trims_of nodes log ys = map (λ y. (y, trim_of (node_at (alone nodes) y) log)) ys

-- ---- what was heard ----

-- of a node
abbrev pub HearsTrim : (Config → Far → Type 0) → (Config → Far → Type 0) → Bool → ℕ → ℕ → Option ℕ → Type 0
HearsTrim tells_old tells_new silent log y trim = (c : Config) (nodes : List (ℕ × Node)) → Stand (tells_old c) nodes → has_log c log ≡ true
    → (silent ≡ true) ⊎ ((trim ≡ trim_of (node_at (alone nodes) y) log) × Stand (tells_new c) nodes)

-- of a node that was heard before, which told this
abbrev pub HearsOn : (Config → Far → Type 0) → (Config → Far → Type 0) → Bool → ℕ → ℕ → Option ℕ → Option ℕ → Type 0
HearsOn tells_old tells_new silent log y told trim = (c : Config) (nodes : List (ℕ × Node)) → Stand (tells_old c) nodes → has_log c log ≡ true → told ≡ trim_of (node_at (alone nodes) y) log
    → (silent ≡ true) ⊎ ((trim ≡ trim_of (node_at (alone nodes) y) log) × Stand (tells_new c) nodes)

-- and its line was written; it was silent only as said
pub record HeardTrim (tells_old tells_new : Config → Far → Type 0) (silent : Bool) (broken : Type 0) (log upto y : ℕ) (old new : List ℕ) (done : Bool) : Type 0 where
  pub trim : Option ℕ
  pub done_is : done ≡ has_trimmed upto trim
  pub written : new ≡ old ++ trim_line y trim
  pub falls_silent : has_told trim ≡ false → broken
  pub told : HearsTrim tells_old tells_new silent log y trim

-- of each node of a list, in order
pub record HeardTrims (tells_old tells_new : Config → Far → Type 0) (silent : Bool) (broken : Type 0) (log upto : ℕ) (ys : List ℕ) (old new : List ℕ) (done : Bool) : Type 0 where
  pub trims : List (ℕ × Option ℕ)
  pub nodes_are : map (λ t. t.0) trims ≡ ys
  pub done_is : done ≡ list_all (λ t. has_trimmed upto t.1) trims
  pub written : new ≡ old ++ trims_text trims
  pub falls_silent : list_all (λ t. has_told t.1) trims ≡ false → broken
  pub told : (c : Config) (nodes : List (ℕ × Node)) → Stand (tells_old c) nodes → has_log c log ≡ true
      → (silent ≡ true) ⊎ ((trims ≡ trims_of nodes log ys) × Stand (tells_new c) nodes)

-- of each node of the configuration, rising
abbrev pub HasTrims : (Config → Far → Type 0) → (Config → Far → Type 0) → Bool → Type 0 → Config → ℕ → ℕ → List ℕ → List ℕ → Bool → Type 0
HasTrims tells_old tells_new silent broken c log upto old new done = HeardTrims tells_old tells_new silent broken log upto (members c.nodes) old new done
