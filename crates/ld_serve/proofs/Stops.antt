-- Reasons to stop, by where it stopped.
use Rattle.std.proofs.Common.{◌≡◌, ℕ, List, refl}
use Rattle.ld_serve.specs.declared.stop.Stop.{Stop}
use Rattle.ld_serve.specs.declared.stop.Stop.TheVariants.{NoMemory, Disk, Register, Link, BadFrame, Damaged, Blank, Full, GenLimit}
use Rattle.ld_serve.specs.declared.stop.Which.TheVariants as journals
use Rattle.ld_serve.specs.Stops.{IsUnread, IsNodeStop, IsUnsent, IsServingStop, DiskCounts, RegisterCounts}

module _ (Held : Type 0) where
  pub unread_serving : (held : List ℕ) (stop : Stop) → IsUnread held stop → IsServingStop Held stop
  unread_serving held NoMemory u = tt
  unread_serving held Disk u = absurd u
  unread_serving held Register u = absurd u
  unread_serving held Link u = tt
  unread_serving held (BadFrame fault) u = tt
  unread_serving held (Damaged which place) u = absurd u
  unread_serving held Blank u = absurd u
  unread_serving held (Full which) u = absurd u
  unread_serving held GenLimit u = absurd u

  pub unsent_serving : (stop : Stop) → IsUnsent stop → IsServingStop Held stop
  unsent_serving NoMemory u = tt
  unsent_serving Disk u = absurd u
  unsent_serving Register u = absurd u
  unsent_serving Link u = tt
  unsent_serving (BadFrame fault) u = absurd u
  unsent_serving (Damaged which place) u = absurd u
  unsent_serving Blank u = absurd u
  unsent_serving (Full which) u = absurd u
  unsent_serving GenLimit u = absurd u

  pub node_serving : (stop : Stop) → IsNodeStop Held stop → IsServingStop Held stop
  node_serving NoMemory u = tt
  node_serving Disk u = tt
  node_serving Register u = absurd u
  node_serving Link u = absurd u
  node_serving (BadFrame fault) u = absurd u
  node_serving (Damaged journals.Store place) u = u
  node_serving (Damaged journals.Register place) u = absurd u
  node_serving Blank u = absurd u
  node_serving (Full journals.Store) u = tt
  node_serving (Full journals.Register) u = absurd u
  node_serving GenLimit u = absurd u

  -- where the store holds what its disk has, no payload is missing
  pub node_held : (stop : Stop) → IsNodeStop ⊥ stop → ((place : ℕ) → stop ≡ Damaged journals.Store place → Held → ⊥) → IsNodeStop Held stop
  node_held NoMemory u never = tt
  node_held Disk u never = tt
  node_held Register u never = absurd u
  node_held Link u never = absurd u
  node_held (BadFrame fault) u never = absurd u
  node_held (Damaged journals.Store place) u never = never place refl
  node_held (Damaged journals.Register place) u never = absurd u
  node_held Blank u never = absurd u
  node_held (Full journals.Store) u never = tt
  node_held (Full journals.Register) u never = absurd u
  node_held GenLimit u never = absurd u

  pub serving_register : (stop : Stop) (before now : ℕ) → IsServingStop Held stop → now ≡ before → RegisterCounts before now stop
  serving_register NoMemory before now u e = e
  serving_register Disk before now u e = e
  serving_register Register before now u e = absurd u
  serving_register Link before now u e = e
  serving_register (BadFrame fault) before now u e = e
  serving_register (Damaged which place) before now u e = e
  serving_register Blank before now u e = e
  serving_register (Full which) before now u e = e
  serving_register GenLimit before now u e = e

-- where more is held
pub serving_where : (Held Told : Type 0) → (Told → Held) → (stop : Stop) → IsServingStop Held stop → IsServingStop Told stop
serving_where Held Told f NoMemory u = tt
serving_where Held Told f Disk u = tt
serving_where Held Told f Register u = absurd u
serving_where Held Told f Link u = tt
serving_where Held Told f (BadFrame fault) u = tt
serving_where Held Told f (Damaged journals.Store place) u = λ told. u (f told)
serving_where Held Told f (Damaged journals.Register place) u = absurd u
serving_where Held Told f Blank u = absurd u
serving_where Held Told f (Full journals.Store) u = tt
serving_where Held Told f (Full journals.Register) u = absurd u
serving_where Held Told f GenLimit u = absurd u

pub unread_counts : (held : List ℕ) (stop : Stop) (before now : ℕ) → IsUnread held stop → now ≡ before → DiskCounts before now stop
unread_counts held NoMemory before now u e = e
unread_counts held Disk before now u e = absurd u
unread_counts held Register before now u e = absurd u
unread_counts held Link before now u e = e
unread_counts held (BadFrame fault) before now u e = e
unread_counts held (Damaged which place) before now u e = absurd u
unread_counts held Blank before now u e = absurd u
unread_counts held (Full which) before now u e = absurd u
unread_counts held GenLimit before now u e = absurd u

pub unsent_counts : (stop : Stop) (before now : ℕ) → IsUnsent stop → now ≡ before → DiskCounts before now stop
unsent_counts NoMemory before now u e = e
unsent_counts Disk before now u e = absurd u
unsent_counts Register before now u e = absurd u
unsent_counts Link before now u e = e
unsent_counts (BadFrame fault) before now u e = absurd u
unsent_counts (Damaged which place) before now u e = absurd u
unsent_counts Blank before now u e = absurd u
unsent_counts (Full which) before now u e = absurd u
unsent_counts GenLimit before now u e = absurd u
