-- Refusals of a store, as a node passes them on.
use Rattle.std.proofs.Common.{◌≡◌, ◌⊎◌, inl, inr, ⊎_elim, Result, Err, refl, ap}
use Rattle.ld_store.specs.declared.fault.StoreFault.{StoreFault}
use Rattle.ld_store.specs.declared.fault.StoreFault.TheVariants as stores
use Rattle.ld_node.specs.declared.fault.NodeFault.{NodeFault}
use Rattle.ld_node.specs.declared.fault.NodeFault.TheVariants as nodes
use Rattle.ld_node.specs.Faults.{of_store}
use Rattle.ld_node.proofs.Draws.{error_is}

abbrev pub failed_by : {T : Type 0} → StoreFault → Result T StoreFault
failed_by fault = Err fault

abbrev pub refused_by : {T : Type 0} → NodeFault → Result T NodeFault
refused_by fault = Err fault

-- the disk failed, or this is so
pub disk_or : {T U : Type 0} (fault : StoreFault) (P : Type 0) → (failed_by {T = T} fault ≡ failed_by stores.Disk) ⊎ P → (refused_by {T = U} (of_store fault) ≡ refused_by nodes.Disk) ⊎ P
disk_or stores.Disk P x = inl refl
disk_or stores.Full P x = ⊎_elim (λ e. absurd (cc e)) (λ y. inr y) x
disk_or stores.NoMemory P x = ⊎_elim (λ e. absurd (cc e)) (λ y. inr y) x
disk_or stores.NeedsLoad P x = ⊎_elim (λ e. absurd (cc e)) (λ y. inr y) x
disk_or (stores.Damaged place) P x = ⊎_elim (λ e. absurd (cc e)) (λ y. inr y) x

-- it was full
pub full_by : {T U : Type 0} (fault : StoreFault) → refused_by {T = U} (of_store fault) ≡ refused_by nodes.Full → failed_by {T = T} fault ≡ failed_by stores.Full
full_by stores.Full e = refl
full_by stores.Disk e = absurd (cc e)
full_by stores.NoMemory e = absurd (cc e)
full_by stores.NeedsLoad e = absurd (cc e)
full_by (stores.Damaged place) e = absurd (cc e)

-- a refusal that is passed on as it is
pub disk_same : {T U : Type 0} (fault : NodeFault) (P : Type 0) → (refused_by {T = T} fault ≡ refused_by nodes.Disk) ⊎ P → (refused_by {T = U} fault ≡ refused_by nodes.Disk) ⊎ P
disk_same {U = U} fault P x = ⊎_elim (λ e. inl (ap (λ (f : NodeFault). refused_by {T = U} f) (error_is fault nodes.Disk e))) (λ y. inr y) x

pub fault_same : {T U : Type 0} (a b : NodeFault) → refused_by {T = T} a ≡ refused_by b → refused_by {T = U} a ≡ refused_by b
fault_same {U = U} a b e = ap (λ (f : NodeFault). refused_by {T = U} f) (error_is a b e)
