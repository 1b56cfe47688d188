-- A stopped node's store is opened.
use Rattle.std.proofs.Common.{◌≡◌, ◌⊎◌, ℕ, List, true, false, Option, None, Some, refl, inl, inr, ⊎_elim}
use Rattle.std.specs.Prelude.{IfSome, IsErrOf}
use Rattle.std.specs.declared.result.Result.{Result}
use Rattle.std.specs.declared.result.Result.TheVariants.{Err}
use Rattle.ld_io.specs.Causes.{Rose}
use Rattle.ld_disk.specs.declared.disk.Disk.{Ghosts}
use Rattle.ld_store.specs.Ops.{IfStands, IsDamaged, HasNoRoom}
use Rattle.ld_store.specs.Loads.{LeftOrMarked}
use Rattle.ld_store.specs.Open as stores
use Rattle.ld_store.specs.declared.fault.StoreFault.{StoreFault}
use Rattle.ld_store.specs.declared.fault.StoreFault.TheVariants as store_faults
use Rattle.ld_store.specs.declared.store.Store.{Store}
use Rattle.ld_node.specs.declared.fault.NodeFault.{NodeFault}
use Rattle.ld_node.specs.declared.fault.NodeFault.TheVariants as nodes
use Rattle.ld_serve.specs.Opening.{IsBlank, ShowsSame}
use Rattle.ld_serve.proofs.Openings.{blank_shows}
use Rattle.ld_stopped.specs.declared.stop.Stop.{Stop}
use Rattle.ld_stopped.specs.declared.stop.Stop.TheVariants as stops
use Rattle.ld_stopped.specs.Opening.{IsLoadStop, LeavesMarked, ShowsMarked}
use Rattle.ld_stopped.specs.Stops.{stop_of_store, stop_of_load, DiskCounts}

abbrev pub refused_with : {T : Type 0} → Stop → Result T Stop
refused_with stop = Err stop

-- what holds of a node holds of the one that it becomes
pub opened_too : {A B : List ℕ → Type 0} (o : Option (List ℕ)) → ((bytes : List ℕ) → A bytes → B bytes) → IfSome o A → IfSome o B
opened_too None f is = tt
opened_too (Some bytes) f is = f bytes is

-- ---- why it is refused ----

module _ (before now : ℕ) (seen : Option (List ℕ)) where
  pub load_caused : (fault : NodeFault) → (fault ≡ nodes.Disk → Rose before now) → ((place : ℕ) → fault ≡ nodes.Damaged place → IfSome seen (IsDamaged place)) → (fault ≡ nodes.Full → IfSome seen (IfStands HasNoRoom))
      → IsLoadStop before now seen (stop_of_load fault)
  load_caused nodes.Disk disk place full = disk refl
  load_caused (nodes.Damaged at) disk place full = place at refl
  load_caused nodes.Full disk place full = full refl
  load_caused nodes.NeedsLoad disk place full = tt
  load_caused (nodes.Register fault) disk place full = tt
  load_caused nodes.NoMemory disk place full = tt

  pub store_caused : (fault : StoreFault) → (fault ≡ store_faults.Disk → Rose before now) → ((place : ℕ) → fault ≡ store_faults.Damaged place → IfSome seen (IsDamaged place)) → (fault ≡ store_faults.Full → IfSome seen (IfStands HasNoRoom))
      → IsLoadStop before now seen (stop_of_store fault)
  store_caused store_faults.Disk disk place full = disk refl
  store_caused (store_faults.Damaged at) disk place full = place at refl
  store_caused store_faults.Full disk place full = full refl
  store_caused store_faults.NeedsLoad disk place full = tt
  store_caused store_faults.NoMemory disk place full = tt

-- the disk's count of faults then
pub load_counts : (before now : ℕ) (fault : NodeFault) → (fault ≡ nodes.Disk → Rose before now) → (fault ≡ nodes.Disk) ⊎ (now ≡ before) → DiskCounts before now (stop_of_load fault)
load_counts before now nodes.Disk disk either = disk refl
load_counts before now (nodes.Damaged at) disk (inl e) = absurd cc
load_counts before now (nodes.Damaged at) disk (inr same) = same
load_counts before now nodes.Full disk (inl e) = absurd cc
load_counts before now nodes.Full disk (inr same) = same
load_counts before now nodes.NeedsLoad disk (inl e) = absurd cc
load_counts before now nodes.NeedsLoad disk (inr same) = same
load_counts before now (nodes.Register fault) disk (inl e) = absurd cc
load_counts before now (nodes.Register fault) disk (inr same) = same
load_counts before now nodes.NoMemory disk (inl e) = absurd cc
load_counts before now nodes.NoMemory disk (inr same) = same

pub store_counts : (before now : ℕ) (fault : StoreFault) → (fault ≡ store_faults.Disk → Rose before now) → (fault ≡ store_faults.Disk) ⊎ (now ≡ before) → DiskCounts before now (stop_of_store fault)
store_counts before now store_faults.Disk disk either = disk refl
store_counts before now (store_faults.Damaged at) disk (inl e) = absurd cc
store_counts before now (store_faults.Damaged at) disk (inr same) = same
store_counts before now store_faults.Full disk (inl e) = absurd cc
store_counts before now store_faults.Full disk (inr same) = same
store_counts before now store_faults.NeedsLoad disk (inl e) = absurd cc
store_counts before now store_faults.NeedsLoad disk (inr same) = same
store_counts before now store_faults.NoMemory disk (inl e) = absurd cc
store_counts before now store_faults.NoMemory disk (inr same) = same

-- ---- what the disk shows and may leave ----

pub shows_same : (seen seen_now : Option (List ℕ)) → seen_now ≡ seen → ShowsSame seen seen_now
shows_same None seen_now e = tt
shows_same (Some bytes) seen_now e = e

pub load_shows : (fault : NodeFault) (seen seen_now : Option (List ℕ)) → (fault ≡ nodes.Disk) ⊎ (seen_now ≡ seen) → (stop_of_load fault ≡ stops.Disk) ⊎ ShowsSame seen seen_now
load_shows fault seen seen_now either = ⊎_elim (λ e. inl (λ i. stop_of_load (e i))) (λ same. inr (shows_same seen seen_now same)) either

pub store_shows : (fault : StoreFault) (seen seen_now : Option (List ℕ)) → (fault ≡ store_faults.Disk) ⊎ (seen_now ≡ seen) → (stop_of_store fault ≡ stops.Disk) ⊎ ShowsSame seen seen_now
store_shows fault seen seen_now either = ⊎_elim (λ e. inl (λ i. stop_of_store (e i))) (λ same. inr (shows_same seen seen_now same)) either

pub leaves_by : (seen : Option (List ℕ)) (could may : List ℕ → Type 0) (Leaves : List ℕ → Type 0) → ((shown : List ℕ) → Leaves shown → (c : List ℕ) → may c → LeftOrMarked could shown c) → IfSome seen Leaves → LeavesMarked seen could may
leaves_by None could may Leaves each leaves = tt
leaves_by (Some shown) could may Leaves each leaves = each shown leaves

-- ---- where no record stands, and where some does ----

module _ {D : Type 0} {g : Ghosts D} (seen : D → Option (List ℕ)) (may_leave : D → List ℕ → Type 0) where
  pub blank_of : (o : Option (List ℕ)) (store : Store D g) → stores.is_blank store ≡ true → IfSome o (stores.IsOpened seen may_leave store) → IfSome o IsBlank
  blank_of None store blank opened = tt
  blank_of (Some bytes) store blank opened = opened.blank blank

  pub some_of : (o : Option (List ℕ)) (store : Store D g) → stores.is_blank store ≡ false → IfSome o (stores.IsOpened seen may_leave store) → IfSome o (λ bytes. IsBlank bytes → ⊥)
  some_of None store some opened = tt
  some_of (Some bytes) store some opened = opened.some some

  pub blank_shown : (o : Option (List ℕ)) (store : Store D g) (now : Option (List ℕ)) → stores.is_blank store ≡ true → IfSome o (stores.IsOpened seen may_leave store) → ShowsMarked o now → ShowsSame o now
  blank_shown o store now blank opened marked = blank_shows o now marked (blank_of o store blank opened)

-- ---- a store that wasn't opened ----

pub marked_of : (o now : Option (List ℕ)) → ShowsSame o now → ShowsMarked o now
marked_of None now same = inr tt
marked_of (Some bytes) now same = inl same

pub marked_or : {T : Type 0} (stop : Stop) (o now : Option (List ℕ)) → (stop ≡ stops.Disk) ⊎ ShowsSame o now → IsErrOf (refused_with {T = T} stop) stops.Disk ⊎ ShowsMarked o now
marked_or stop o now either = ⊎_elim (λ e. inl (λ i. refused_with (e i))) (λ same. inr (marked_of o now same)) either
