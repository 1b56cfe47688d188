-- What the entries of a digest claim, the greatest ballot first.
use Rattle.std.specs.Prelude.{ℕ, max, List, [], ◌∷◌, ◌++◌, Option, Some, None, is_some, Bool, false, ◌&&◌, ◌||◌, not, nat_lt, if◌then◌else◌}
use Rattle.ld_table.specs.Table.{find, put}
use Rattle.ld_table.specs.Words.{or_else}
use Rattle.ld_lsn.specs.Number.{esn_of}
use Rattle.ld_msg.specs.declared.msg.Entry.{Entry}
use Rattle.ld_msg.specs.Digest.{Told, is_bridge, says}

-- the entries of all nodes, the highest node first
abbrev pub claims_of : List Told → List Entry
claims_of [] = []
claims_of (t ∷ d) = claims_of d ++ t.entries

-- the last one that speaks of the number
unfoldable pub last_for : ℕ → List Entry → Option Entry
last_for s [] = None
last_for s (e ∷ es) = or_else (last_for s es) (says s e)

-- what the claims so far decide: the entry of each number, a bridge above which nothing else counts, and the greatest offset of a record, a hole or a plug
pub record Decided : Type 0 where
  pub entries : List (ℕ × Entry)
  pub bridge : Option ℕ
  pub top : ℕ

abbrev pub nothing_decided : Decided
nothing_decided = record { entries = []; bridge = None; top = 0 }

abbrev pub is_bridged : ℕ → Option ℕ → Bool
is_bridged s None = false
is_bridged s (Some b) = nat_lt b s

abbrev pub is_decided : ℕ → Decided → Bool
is_decided s c = is_some (find s c.entries) || is_bridged s c.bridge

-- a claim counts for its number where that isn't decided; a bridge counts above its number too
abbrev pub claimed : Entry → Decided → Decided
claimed e c = record {
  entries = if is_decided e.number c then c.entries else put e.number e c.entries;
  bridge = if is_bridge e.what && not (is_bridged e.number c.bridge) then Some e.number else c.bridge;
  top = if is_bridge e.what || is_decided e.number c then c.top else max c.top (esn_of e.number);
}

-- the last claim first
unfoldable pub decided_by : List Entry → Decided
decided_by [] = nothing_decided
decided_by (e ∷ es) = claimed e (decided_by es)
