-- A digest with what it is of.
use Rattle.std.specs.Prelude.{◌≡◌, ◌<◌, ℕ, List, [], ◌∷◌, Some, false, map, slice_get}
use Rattle.ld_lsn.specs.Number.{esn_of, last_esn}
use Rattle.ld_msg.specs.declared.msg.Entry.{Entry}
use Rattle.ld_ids.specs.declared.set.Spec.{Spec}
use Rattle.ld_msg.specs.Digest.{Told, is_bridge}

-- what the nodes of an epoch's set have told of the epoch
pub record Gathering : Type 0 where
  pub spec : Spec
  pub epoch : ℕ
  pub told : List Told

abbrev pub with_told : Gathering → List Told → Gathering
with_told g told = record g { told = told }

abbrev pub nodes_told : List Told → List ℕ
nodes_told d = map (λ t. t.node) d

-- what stands at the offset is the node's
abbrev pub IsNodeAt : List Told → ℕ → ℕ → Type 0
IsNodeAt d place node = slice_get (nodes_told d) place ≡ Some node

-- the last offset of the epoch is for a bridge alone
abbrev pub AreInPlace : List Entry → Type 0
AreInPlace [] = Unit {0}
AreInPlace (e ∷ es) = (is_bridge e.what ≡ false → esn_of e.number < last_esn) × AreInPlace es

-- so are the entries of a node, and its last known good offset lies below the last one
abbrev pub IsToldInPlace : Told → Type 0
IsToldInPlace t = AreInPlace t.entries × (t.lng < last_esn)

abbrev pub IsInPlace : List Told → Type 0
IsInPlace [] = Unit {0}
IsInPlace (t ∷ d) = IsToldInPlace t × IsInPlace d
