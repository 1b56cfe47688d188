-- What a register on a disk tells that has an armed fault, and what its calls do.
use Rattle.std.specs.Prelude.{◌≡◌, ◌⊎◌, ◌≤◌, ◌+◌, ◌-◌, ◌^◌, ℕ, true, false, List, [], ◌∷◌, Option, None, Some, min, if◌then◌else◌, IsErrOf, OnErr}
use Rattle.std.specs.declared.result.Result.{Result}
use Rattle.ld_io.specs.Causes.{Rose}
use Rattle.ld_disk.specs.declared.disk.Disk.{Ghosts}
use Rattle.ld_msg.specs.Register.{Register, Armed, falls, armed_after, is_made}
use Rattle.ld_register.specs.declared.fault.RegisterFault.{RegisterFault}
use Rattle.ld_register.specs.declared.fault.RegisterFault.TheVariants as faults
use Rattle.ld_register.specs.declared.disk.DiskRegister.{DiskRegister}
use Rattle.ld_register.specs.declared.faulty.Armed.{Armed as Order}
use Rattle.ld_register.specs.declared.faulty.FaultyRegister.{FaultyRegister}
use Rattle.ld_register.specs.Calls.{IsFree, Keeps, ChangedOrNot, with_and_without, unarmed}
use Rattle.ld_register.specs.Held.{owned, ReadsAs, Holds, Tells, MayHold, LeavesOneOf, Foretells, IsBroken}

abbrev pub ordered : Option Order → Option Armed
ordered None = None
ordered (Some a) = Some (record { left = a.left; done = a.done })

module _ {D : Type 0} {g : Ghosts D} where
  -- the register whose changes fail
  abbrev pub kept_in : FaultyRegister D g → DiskRegister D g
  kept_in r = r.register

  abbrev pub disk_in : FaultyRegister D g → D
  disk_in r = owned r.register

  abbrev pub armed_of : FaultyRegister D g → Option Armed
  armed_of r = ordered r.armed

  -- how often an armed fault fell
  abbrev pub own_faults : FaultyRegister D g → ℕ
  own_faults r = r.faults

  -- and with the disk's failed calls, up to the greatest 64-bit number
  abbrev pub faults_in : FaultyRegister D g → ℕ
  faults_in r = min (r.faults + g.faults (owned r.register)) (2 ^ 64 - 1)

  -- each call will do just what it does of these contents, with their armed fault
  pub record Foresees (r : FaultyRegister D g) (c : Register) : Type 0 where
    pub foretells : Foretells (kept_in r) (unarmed c)
    pub armed : c.armed ≡ armed_of r

  -- a whole call
  pub record MeetsArmed {T : Type 0} (old new : FaultyRegister D g) (result : Result T RegisterFault) (answer : Register → Result T RegisterFault) (after : Register → Register) : Type 0 where
    pub answers : (c : Register) → Holds (kept_in old) c → IsFree result ⊎ ((result ≡ answer c) × Holds (kept_in new) (after c))
    pub told : Tells (kept_in old) → Tells (kept_in new)
    pub whole : Tells (kept_in old) → IsFree result ⊎ ((c : Register) × Holds (kept_in old) c)
    pub settles : Tells (kept_in old) → IsFree result ⊎ ((c : Register) → MayHold (kept_in new) c → Holds (kept_in new) c)
    pub sure : Tells (kept_in old) → IsFree result ⊎ ((c : Register) × Holds (kept_in new) c × LeavesOneOf (kept_in new) (c ∷ []))
    pub done_or_not : Tells (kept_in old) → ChangedOrNot (MayHold (kept_in old)) (MayHold (kept_in new)) after
    pub survives : Tells (kept_in old) → (cs : List Register) → LeavesOneOf (kept_in old) cs → LeavesOneOf (kept_in new) (with_and_without after cs)
    pub keeps : IsErrOf result faults.Failed ⊎ OnErr result (Keeps (Holds (kept_in old)) (Holds (kept_in new)) (MayHold (kept_in old)) (MayHold (kept_in new)))
    pub exact : (c : Register) → Foresees old c
        → (IsErrOf result faults.NoMemory × Foresees new c) ⊎ ((result ≡ answer c) × Foresees new (after c))
    pub failed : IsErrOf result faults.Failed → Rose (faults_in old) (faults_in new)
    pub cause : IsErrOf result faults.Failed → (falls (armed_of old) ≡ true) ⊎ Rose (g.faults (disk_in old)) (g.faults (disk_in new))
    pub damaged : (place : ℕ) → IsErrOf result (faults.Damaged place) → IsBroken (kept_in old) place
    pub counts : faults_in old ≤ faults_in new

  -- what is armed is as it was, and no armed fault fell
  pub record StaysArmed (old new : FaultyRegister D g) : Type 0 where
    pub armed : armed_of new ≡ armed_of old
    pub faults : own_faults new ≡ own_faults old

  -- a change that is made is counted, and no armed fault fell
  pub record HasCounted (old new : FaultyRegister D g) : Type 0 where
    pub passes : falls (armed_of old) ≡ false
    pub armed : armed_of new ≡ armed_after (armed_of old)
    pub faults : own_faults new ≡ own_faults old

  -- the armed fault fell, and is armed no more; what was held is held with the change or without it, as was told
  pub record HasFallen {T : Type 0} (old new : FaultyRegister D g) (result : Result T RegisterFault) (after : Register → Register) : Type 0 where
    pub due : falls (armed_of old) ≡ true
    pub failed : IsErrOf result faults.Failed
    pub armed : armed_of new ≡ None
    pub faults : own_faults new ≡ min (own_faults old + 1) (2 ^ 64 - 1)
    pub holds : (c : Register) → Holds (kept_in old) c → Holds (kept_in new) (if is_made (armed_of old) then after c else c)

  -- the bytes of its disk are a journal of changes that lead to what it tells
  pub foreseen_stands : (r : FaultyRegister D g) (c : Register) → Foresees r c → ReadsAs (kept_in r) (unarmed c)
  foreseen_stands r c f = f.foretells.holds.reads
