-- What a node is, as contracts see it.
use Rattle.std.specs.Prelude.{ℕ, List, Option, Bool}
use Rattle.ld_disk.specs.declared.disk.Disk.{Ghosts}
use Rattle.ld_op.specs.Plain.{Plain}
use Rattle.ld_layout.specs.Layout.{Layout}
use Rattle.ld_segment.specs.Lies.{Slots}
use Rattle.ld_store.specs.Open as stores
use Rattle.ld_store.specs.Ahead as ahead
use Rattle.ld_node.specs.Known.{Known}
use Rattle.ld_node.specs.Staged as stages
use Rattle.ld_node.specs.declared.node.Node.{Node}

module _ {D : Type 0} {g : Ghosts D} where
  -- its number
  abbrev pub id_of : Node D g → ℕ
  id_of node = node.id

  -- what it knows of the configuration
  abbrev pub known_of : Node D g → Known
  known_of node = node.known

  -- the released numbers by log, which are kept in memory alone
  abbrev pub released_of : Node D g → List (ℕ × ℕ)
  released_of node = node.released.entries

  abbrev pub disk_of : Node D g → D
  disk_of node = stores.disk_of node.store

  -- how its journal lies on the disk
  abbrev pub layout_of : Node D g → Layout
  layout_of node = stores.layout_of node.store

  -- the slots that tell its later segment, where there is one
  abbrev pub slots_of : Node D g → Slots
  slots_of node = stores.slots_of node.store

  -- an earlier call answered that the disk failed
  abbrev pub must_load : Node D g → Bool
  must_load node = stores.must_load node.store

  -- its store isn't formatted
  abbrev pub is_blank : Node D g → Bool
  is_blank node = stores.is_blank node.store

  -- it was formatted since it was loaded
  abbrev pub is_new : Node D g → Bool
  is_new node = node.is_new

  -- its plain state in memory, with the places of its payloads
  abbrev pub index_of : Node D g → Plain
  index_of node = stores.index_of node.store

  -- the plain state that it represents on its disk
  abbrev pub plain_of : Node D g → Plain
  plain_of node = stores.plain_of node.store

module _ {D : Type 0} {g : Ghosts D} (seen : D → Option (List ℕ)) (may_leave : D → List ℕ → Type 0) where
  -- its store holds what the disk has
  abbrev pub Holds : Node D g → Type 0
  Holds node = stores.Holds seen may_leave node.store

  -- where these bytes represent a plain state, it holds that, with a mark behind a journal of the first version
  abbrev pub IsOpened : Node D g → List ℕ → Type 0
  IsOpened node bytes = stores.IsOpened seen may_leave node.store bytes

  -- its store holds what the disk has, and this is the plain state of that; or ops are staged, and what a crash leaves represents this one
  abbrev pub HoldsOr : Node D g → Plain → Type 0
  HoldsOr node p = ahead.HoldsOr seen may_leave node.store p

  -- what a crash leaves represents one of these two plain states
  abbrev pub HoldsEither : Node D g → Plain → Plain → Type 0
  HoldsEither node p r = stages.HoldsEither seen may_leave node.store p r
