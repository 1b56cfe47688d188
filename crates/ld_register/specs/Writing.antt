-- The writing calls that a register's calls make, over a disk whose failures are known beforehand.
use Rattle.std.specs.Prelude.{◌≡◌, ◌⊎◌, ◌+◌, ◌-◌, ◌==◌, ℕ, Bool, true, false, if◌then◌else◌, List, [], ◌∷◌, Option, None, Some, IsOk, IsErrOf, OnErr, is_ok}
use Rattle.std.specs.declared.result.Result.{Result}
use Rattle.ld_disk.specs.Plain.{Plain, Call, after_calls, all_succeed}
use Rattle.ld_disk.specs.declared.disk.Disk.{Ghosts}
use Rattle.ld_ids.specs.declared.set.Spec.{Spec}
use Rattle.ld_journal.specs.Format.{append_calls}
use Rattle.ld_msg.specs.Register.{Register, epochs_of, generation_of, swappable}
use Rattle.ld_register.specs.declared.fault.RegisterFault.{RegisterFault}
use Rattle.ld_register.specs.declared.fault.RegisterFault.TheVariants as faults
use Rattle.ld_register.specs.declared.change.Change.{Change}
use Rattle.ld_register.specs.declared.change.Change.TheVariants as changes
use Rattle.ld_register.specs.declared.disk.DiskRegister.{DiskRegister}
use Rattle.ld_register.specs.Changes.{change_bytes}
use Rattle.ld_register.specs.Held.{owned, is_loaded, Holds}

-- these, behind the sync of the load where the register isn't loaded
abbrev pub with_load : Bool → List Call → List Call
with_load loaded calls = if loaded then calls else None ∷ calls

-- these were made, the last of which may be the one that fails, and the answer is Ok exactly where all succeed
pub record Made {T : Type 0} (calls : List Call) (p : Plain) (result : Result T RegisterFault) (left : Option Plain) : Type 0 where
  pub left_is : left ≡ Some (after_calls calls p)
  pub all : is_ok result ≡ all_succeed calls p

-- at Ok and Failed the load and these were made; another refusal comes behind the load, or before it when out of memory
pub record Writes {T : Type 0} (loaded : Bool) (calls : List Call) (p : Plain) (result : Result T RegisterFault) (left : Option Plain) : Type 0 where
  pub made : IsOk result ⊎ IsErrOf result faults.Failed → Made (with_load loaded calls) p result left
  pub refused : OnErr result (IsErrOf result faults.Failed ⊎ (IsErrOf result faults.NoMemory × (left ≡ Some p))
      ⊎ ((left ≡ Some (after_calls (with_load loaded []) p)) × (all_succeed (with_load loaded []) p ≡ true)))

-- the change that an activation makes, and a draw
abbrev pub activation : Register → Spec → Change
activation c s = changes.Activate ((epochs_of c s.log).epoch + 1) s

abbrev pub drawing : Register → ℕ → Change
drawing c n = changes.Draw n (generation_of c n + 1)

-- a change is appended behind what is held
abbrev pub change_calls : Register → Change → List Call
change_calls c x = append_calls (c.length - 1) (change_bytes x)

-- a swap that changes no epoch writes nothing
abbrev pub swap_calls : Register → ℕ → ℕ → ℕ → ℕ → List Call
swap_calls c l upto old new = if swappable c l upto old new == 0 then [] else change_calls c (changes.Swap l upto old new)

-- a call makes those calls that belong to what is held, and only those of a load of bytes that represent nothing
pub record WritesBy {D : Type 0} {g : Ghosts D} {T : Type 0} (old new : DiskRegister D g) (calls : Register → List Call) (p : Plain) (result : Result T RegisterFault) : Type 0 where
  pub held : (c : Register) → Holds old c → Writes (is_loaded old) (calls c) p result (g.plain (owned new))
  pub unheld : is_loaded old ≡ false → ((c : Register) → Holds old c → ⊥) → Writes false [] p result (g.plain (owned new))

-- a call makes the calls of the change of what is held
abbrev pub WritesOne : {D : Type 0} → {g : Ghosts D} → {T : Type 0} → DiskRegister D g → DiskRegister D g → (Register → Change) → Plain → Result T RegisterFault → Type 0
WritesOne old new change p result = WritesBy old new (λ c. change_calls c (change c)) p result
