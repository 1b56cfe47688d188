-- A disk whose failures are known beforehand: what each call does to it, and whether it succeeds.
use Rattle.std.specs.Prelude.{◌≡◌, ◌≤◌, ◌-◌, ℕ, List, [], ◌∷◌, Option, None, Some, Bool, true, false, if◌then◌else◌, ◌==◌}
use Rattle.ld_disk.specs.Record.{State, Write, torn_by, written, synced, start}
use Rattle.ld_disk.specs.declared.disk.Picture.{Picture}
use Rattle.ld_disk.specs.declared.disk.Fault.{Fault}
use Rattle.ld_disk.specs.declared.disk.Fault.TheVariants as faults
use Rattle.ld_disk.specs.declared.fate.Fate.{Fate}
use Rattle.ld_disk.specs.declared.fate.Fate.TheVariants as fates

-- its contents, the fault that is armed, and whether it has crashed
pub record Plain : Type 0 where
  pub state : State
  pub armed : Option Fault
  pub crashed : Bool

-- what happens in the next writing call
abbrev pub fate : Bool → Option Fault → Fate
fate true armed = fates.Fails
fate false None = fates.Made
fate false (Some (faults.FailAt k)) = if k == 1 then fates.Fails else fates.Made
fate false (Some (faults.CrashAt k picture)) = if k == 1 then fates.Crashes picture else fates.Made
fate false (Some (faults.FailReadAt k)) = fates.Made

-- the armed fault after a writing call
abbrev pub armed_after : Bool → Option Fault → Option Fault
armed_after true armed = armed
armed_after false None = None
armed_after false (Some (faults.FailAt k)) = if k == 1 then None else Some (faults.FailAt (k - 1))
armed_after false (Some (faults.CrashAt k picture)) = if k == 1 then None else Some (faults.CrashAt (k - 1) picture)
armed_after false (Some (faults.FailReadAt k)) = Some (faults.FailReadAt k)

abbrev pub is_made : Fate → Bool
is_made fates.Made = true
is_made fates.Fails = false
is_made (fates.Crashes picture) = false

-- whether the disk has crashed after a call
abbrev pub crashed_after : Bool → Fate → Bool
crashed_after crashed fates.Made = crashed
crashed_after crashed fates.Fails = crashed
crashed_after crashed (fates.Crashes picture) = true

-- a writing call: a write, or else a sync
abbrev pub Call : Type 0
Call = Option Write

abbrev pub called : Call → Option Picture → State → State
called (Some w) crash s = torn_by crash (written w s)
called None crash s = synced crash s

abbrev pub done : Call → Fate → State → State
done call fates.Made s = called call None s
done call fates.Fails s = s
done call (fates.Crashes picture) s = called call (Some picture) s

-- the disk after a writing call, and whether the call succeeds
abbrev pub after_call : Call → Plain → Plain
after_call call p = record {
  state = done call (fate p.crashed p.armed) p.state;
  armed = armed_after p.crashed p.armed;
  crashed = crashed_after p.crashed (fate p.crashed p.armed);
}

abbrev pub succeeds : Plain → Bool
succeeds p = is_made (fate p.crashed p.armed)

-- it hasn't crashed
abbrev pub stands : Plain → Bool
stands p = if p.crashed then false else true

abbrev pub armed_with : Fault → Plain → Plain
armed_with fault p = record { state = p.state; armed = Some fault; crashed = p.crashed }

-- the fault of the k-th writing call from now on: it fails, or the disk crashes in it with this picture
abbrev pub fault_of : ℕ → Option Picture → Fault
fault_of k None = faults.FailAt k
fault_of k (Some picture) = faults.CrashAt k picture

-- the disk stands, and is told that the k-th writing call from now on fails, or that it crashes in it
pub record IsTold (k : ℕ) (how : Option Picture) (p : Plain) : Type 0 where
  pub counts : 1 ≤ k
  pub stands : p.crashed ≡ false
  pub told : p.armed ≡ Some (fault_of k how)

-- the disk stands, and no writing call is told to fail
pub record IsSound (p : Plain) : Type 0 where
  pub stands : p.crashed ≡ false
  pub told : p.armed ≡ None

-- the contents after calls that are all made
abbrev pub all_made : List Call → State → State
all_made [] s = s
all_made (call ∷ calls) s = all_made calls (called call None s)

-- the disk after calls that end with the first that doesn't succeed, and whether all do
abbrev pub after_calls : List Call → Plain → Plain
after_calls [] p = p
after_calls (call ∷ calls) p = if succeeds p then after_calls calls (after_call call p) else after_call call p

abbrev pub all_succeed : List Call → Plain → Bool
all_succeed [] p = true
all_succeed (call ∷ calls) p = if succeeds p then all_succeed calls (after_call call p) else false

-- whether the next read succeeds, and what is armed after it
abbrev pub read_succeeds : Bool → Option Fault → Bool
read_succeeds true armed = false
read_succeeds false None = true
read_succeeds false (Some (faults.FailAt k)) = true
read_succeeds false (Some (faults.CrashAt k picture)) = true
read_succeeds false (Some (faults.FailReadAt k)) = if k == 1 then false else true

abbrev pub armed_after_read : Bool → Option Fault → Option Fault
armed_after_read true armed = armed
armed_after_read false None = None
armed_after_read false (Some (faults.FailAt k)) = Some (faults.FailAt k)
armed_after_read false (Some (faults.CrashAt k picture)) = Some (faults.CrashAt k picture)
armed_after_read false (Some (faults.FailReadAt k)) = if k == 1 then None else Some (faults.FailReadAt (k - 1))

abbrev pub after_read : Plain → Plain
after_read p = record { state = p.state; armed = armed_after_read p.crashed p.armed; crashed = p.crashed }

-- no read is told to fail
abbrev pub read_fine : Bool → Option Fault → Bool
read_fine true armed = false
read_fine false None = true
read_fine false (Some (faults.FailAt k)) = true
read_fine false (Some (faults.CrashAt k picture)) = true
read_fine false (Some (faults.FailReadAt k)) = false

abbrev pub reads_fine : Plain → Bool
reads_fine p = read_fine p.crashed p.armed

abbrev pub new_disk : Plain
new_disk = record { state = start; armed = None; crashed = false }

-- after a crash has ended
abbrev pub restarted : Plain → Plain
restarted p = record { state = p.state; armed = p.armed; crashed = false }
