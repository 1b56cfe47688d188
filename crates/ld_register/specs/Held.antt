-- What a register on a disk holds, and what its calls do.
use Rattle.std.specs.Prelude.{◌≡◌, ◌⊎◌, ◌≤◌, ◌<◌, ◌+◌, ◌^◌, ◌==◌, ℕ, Bool, true, false, List, [], ◌∷◌, ◌++◌, Option, None, Some, IfSome, IsSome, Ok, IsErrOf, OnErr, IsErr}
use Rattle.std.proofs.Common.{subst, sym, refl}
use Rattle.std.specs.declared.result.Result.{Result}
use Rattle.ld_io.specs.Causes.{Rose}
use Rattle.ld_disk.specs.Images.{IsHonest}
use Rattle.ld_disk.specs.Moments.{LeavesOnly}
use Rattle.ld_disk.specs.Plain.{Plain}
use Rattle.ld_disk.specs.declared.disk.Disk.{Ghosts}
use Rattle.ld_disk.specs.declared.disk.Fault.{Fault}
use Rattle.ld_disk.specs.declared.disk.Fault.TheVariants as disk_faults
use Rattle.ld_journal.specs.Open.{disk_of, place_of}
use Rattle.ld_msg.specs.Register.{Register}
use Rattle.ld_register.specs.declared.fault.RegisterFault.{RegisterFault}
use Rattle.ld_register.specs.declared.fault.RegisterFault.TheVariants as faults
use Rattle.ld_register.specs.declared.disk.DiskRegister.{DiskRegister}
use Rattle.ld_register.specs.declared.change.Change.{Change}
use Rattle.ld_register.specs.Calls.{IsFree, Keeps, ChangedOrNot, OneOf, with_and_without, unarmed}
use Rattle.ld_register.specs.Changes.{changed, body_length, change_bytes, is_next, IsChange}
use Rattle.ld_register.specs.Kept.{register_of}
use Rattle.ld_register.specs.Stands.{StandsFor, HasRecords, AddsOneAtMost, IsDamaged, IsReplayed}

-- no writing call is told to fail, and the disk stands
abbrev pub never_falls : Option Fault → Bool
never_falls None = true
never_falls (Some (disk_faults.FailAt k)) = k == 0
never_falls (Some (disk_faults.CrashAt k picture)) = k == 0
never_falls (Some (disk_faults.FailReadAt k)) = false

pub record IsQuiet (p : Plain) : Type 0 where
  pub stands : p.crashed ≡ false
  pub told : never_falls p.armed ≡ true

abbrev pub granting : {T : Type 0} → T → Result T RegisterFault
granting given = Ok given

module _ {D : Type 0} {g : Ghosts D} where
  abbrev pub owned : DiskRegister D g → D
  owned r = disk_of r.journal

  abbrev pub is_loaded : DiskRegister D g → Bool
  is_loaded r = r.loaded

  abbrev pub Replays : DiskRegister D g → Register → Type 0
  Replays r c = IsReplayed g.seen g.may_leave r.journal r.contents c

  -- the bytes that are read represent it
  pub record ReadsAs (r : DiskRegister D g) (c : Register) : Type 0 where
    pub bytes : List ℕ
    pub seen_is : g.seen (owned r) ≡ Some bytes
    pub stands : StandsFor bytes c

  abbrev pub IsBroken : DiskRegister D g → ℕ → Type 0
  IsBroken r place = IfSome (g.seen (owned r)) (IsDamaged place)

  -- the bytes represent it and for nothing else, and what is in memory once it is loaded is what they represent
  pub record Holds (r : DiskRegister D g) (c : Register) : Type 0 where
    pub reads : ReadsAs r c
    pub one : (d : Register) → ReadsAs r d → c ≡ d
    pub whole : (place : ℕ) → IsBroken r place → ⊥
    pub loaded : is_loaded r ≡ true → Replays r c

  pub record Tells (r : DiskRegister D g) : Type 0 where
    pub honest : IsHonest (g.seen (owned r))
    pub loaded : is_loaded r ≡ true → (c : Register) × Replays r c

  -- a crash may leave bytes that represent it
  abbrev pub MayHold : DiskRegister D g → Register → Type 0
  MayHold r c = (bytes : List ℕ) × g.may_leave (owned r) bytes × StandsFor bytes c

  -- a crash leaves bytes that represent one of these, and no others; so one of these is held, and nothing else may be
  pub record LeavesOneOf (r : DiskRegister D g) (cs : List Register) : Type 0 where
    pub each : (bytes : List ℕ) → g.may_leave (owned r) bytes → OneOf (StandsFor bytes) cs
    pub held : Tells r → OneOf (Holds r) cs
    pub alone : (c : Register) → MayHold r c → OneOf (λ d. d ≡ c) cs

  -- its disk tells what each call will do, and none will fail
  pub record Foretells (r : DiskRegister D g) (c : Register) : Type 0 where
    pub holds : Holds r c
    pub unarmed : c.armed ≡ None
    pub told : Plain
    pub plain_is : g.plain (owned r) ≡ Some told
    pub quiet : IsQuiet told

  abbrev pub StaysQuiet : DiskRegister D g → DiskRegister D g → Type 0
  StaysQuiet old new = (p : Plain) → g.plain (owned old) ≡ Some p → IsQuiet p → (q : Plain) × (g.plain (owned new) ≡ Some q) × IsQuiet q

  -- ---- the first part of each call: a load, where it isn't loaded ----

  pub record Loads {T : Type 0} (old new : DiskRegister D g) (result : Result T RegisterFault) : Type 0 where
    pub moments : LeavesOnly g.moment g.left_since (owned old) (owned new) (g.may_leave (owned old))
    pub counts : g.faults (owned old) ≤ g.faults (owned new)
    pub honest : IsHonest (g.seen (owned old)) → IsHonest (g.seen (owned new))
    pub quiet : StaysQuiet old new
    pub steady : (p : Plain) → g.plain (owned old) ≡ Some p → IsQuiet p → IsErrOf result faults.Failed → ⊥

  pub record IsReady (old new : DiskRegister D g) : Type 0 where
    pub loaded : is_loaded new ≡ true
    pub whole : Tells old → (c : Register) × Replays new c × Holds old c
    pub same : Tells old → g.seen (owned new) ≡ g.seen (owned old)

  pub record IsNotReady {T : Type 0} (old new : DiskRegister D g) (result : Result T RegisterFault) : Type 0 where
    pub unloaded : is_loaded new ≡ false
    pub free : IsErr result × IsFree result
    pub stays : IsErrOf result faults.Failed ⊎ (g.seen (owned new) ≡ g.seen (owned old)) ⊎ ((c : Register) → ReadsAs old c → ⊥)
    pub failed : IsErrOf result faults.Failed → Rose (g.faults (owned old)) (g.faults (owned new))
    pub damaged : (place : ℕ) → IsErrOf result (faults.Damaged place) → IsBroken old place

  -- ---- the last part: a change is made ----

  pub record Commits {T : Type 0} (old new : DiskRegister D g) (x : Change) (result : Result T RegisterFault) : Type 0 where
    pub moments : (c : Register) → Replays old c → LeavesOnly g.moment g.left_since (owned old) (owned new) (λ bytes. StandsFor bytes c ⊎ StandsFor bytes (changed c x))
    pub counts : g.faults (owned old) ≤ g.faults (owned new)
    pub honest : IsHonest (g.seen (owned old)) → IsHonest (g.seen (owned new))
    pub quiet : StaysQuiet old new
    pub steady : (p : Plain) → g.plain (owned old) ≡ Some p → IsQuiet p → IsErrOf result faults.Failed → ⊥

  pub record IsMade (old new : DiskRegister D g) (x : Change) : Type 0 where
    pub loaded : is_loaded new ≡ true
    pub replays : (c : Register) → Replays old c → Replays new (changed c x)
    pub adds : (c : Register) (bodies : List (List ℕ)) → Replays old c → HasRecords (g.seen (owned old)) bodies → HasRecords (g.seen (owned new)) (bodies ++ change_bytes x ∷ [])
    pub fits : place_of old.journal + body_length x + 6 ≤ 2 ^ 40

  pub record IsRefused {T : Type 0} (old new : DiskRegister D g) (x : Change) (result : Result T RegisterFault) : Type 0 where
    pub cause : (IsErrOf result faults.Failed × (is_loaded new ≡ false) × Rose (g.faults (owned old)) (g.faults (owned new)) × (place_of old.journal + body_length x + 6 ≤ 2 ^ 40))
        ⊎ ((IsErrOf result faults.NoMemory ⊎ (IsErrOf result faults.Full × (2 ^ 40 < place_of old.journal + body_length x + 6)))
        × (is_loaded new ≡ true) × ((c : Register) → Replays old c → Replays new c) × LeavesOnly g.moment g.left_since (owned old) (owned new) (g.may_leave (owned old)) × (g.seen (owned new) ≡ g.seen (owned old)))

  -- ---- a whole call ----

  -- bytes that a crash might have left before the call, or that represent what was held, with the change or without
  abbrev pub LeftBy : DiskRegister D g → (Register → Register) → List ℕ → Type 0
  LeftBy old after bytes = g.may_leave (owned old) bytes ⊎ ((c : Register) × Holds old c × (StandsFor bytes c ⊎ StandsFor bytes (after c)))

  pub record Meets {T : Type 0} (old new : DiskRegister D g) (result : Result T RegisterFault) (answer : Register → Result T RegisterFault) (after : Register → Register) : Type 0 where
    pub answers : (c : Register) → Holds old c → IsFree result ⊎ ((result ≡ answer c) × Holds new (after c))
    pub told : Tells old → Tells new
    pub whole : Tells old → IsFree result ⊎ ((c : Register) × Holds old c)
    pub sure : Tells old → IsFree result ⊎ ((c : Register) × Holds new c × LeavesOneOf new (c ∷ []))
    pub survives : Tells old → (cs : List Register) → LeavesOneOf old cs → LeavesOneOf new (with_and_without after cs)
    pub records : (c : Register) → Holds old c → IsErrOf result faults.Failed ⊎ AddsOneAtMost (g.seen (owned old)) (g.seen (owned new))
    pub moments : Tells old → LeavesOnly g.moment g.left_since (owned old) (owned new) (LeftBy old after)
    pub settles : Tells old → IsFree result ⊎ ((c : Register) → MayHold new c → Holds new c)
    pub done_or_not : Tells old → ChangedOrNot (MayHold old) (MayHold new) after
    pub keeps : IsErrOf result faults.Failed ⊎ OnErr result (Keeps (Holds old) (Holds new) (MayHold old) (MayHold new))
    pub exact : (c : Register) → Foretells old c
        → (IsErrOf result faults.NoMemory × Foretells new c) ⊎ ((result ≡ answer c) × Foretells new (after c))
    pub failed : IsErrOf result faults.Failed → Rose (g.faults (owned old)) (g.faults (owned new))
    pub damaged : (place : ℕ) → IsErrOf result (faults.Damaged place) → IsBroken old place
    pub counts : g.faults (owned old) ≤ g.faults (owned new)

  -- a call has loaded the register, and this change is the one that it is to make, for which its journal has room
  pub record IsDue {T : Type 0} (old mid : DiskRegister D g) (x : Change) (given : T) (answer : Register → Result T RegisterFault) (after : Register → Register) : Type 0 where
    pub loads : Loads old mid (granting given)
    pub ready : IsReady old mid
    pub is : IsChange x
    pub next : is_next (register_of mid.contents 0) x ≡ true
    pub fits : place_of mid.journal + body_length x + 6 ≤ 2 ^ 40
    pub answers : (c : Register) → Replays mid c → (granting given ≡ answer c) × (after c ≡ changed c x)

  -- ---- the laws of a register ----

  pub holds_is_told : (r : DiskRegister D g) (c : Register) → Holds r c → Tells r
  holds_is_told r c h = record { honest = subst (λ o. IsSome o) (sym h.reads.seen_is) refl; loaded = λ l. (c, h.loaded l) }

  pub told_is_held : (r : DiskRegister D g) (c : Register) → Foretells r c → Holds r (unarmed c)
  told_is_held r c t = subst (λ a. Holds r (record c { armed = a })) t.unarmed t.holds
