-- What becomes of writing calls in a row, on a disk that is armed as a node.
use Rattle.std.proofs.Common.{◌≡◌, ◌⊎◌, inl, inr, ◌≤◌, ◌-◌, ℕ, List, [], ◌∷◌, length, Bool, true, false, Option, None, Some, is_some, nat_le, if◌then◌else◌, refl, sym, ◌∙◌, ap, subst, arith}
use Rattle.std.proofs.lemmas.Bool.{leb-true, leb-false}
use Rattle.ld_schedule.specs.declared.event.Picture.{Picture as Named}
use Rattle.ld_disk.specs.declared.disk.Picture.{Picture}
use Rattle.ld_disk.specs.Record.{State, synced}
use Rattle.ld_disk.specs.Plain.{Plain as DiskPlain, Call, IsTold, fault_of, all_made, all_succeed, after_calls, after_call, succeeds, reads_fine}
use Rattle.ld_disk.proofs.Told.{fault_comes, fault_passes, sound_stays, told_reads, sound_reads}
use Rattle.ld_machine.specs.Disk.{Fault, Made, fate, fate_by, fault_after}
use Rattle.ld_host.specs.Faults.{crash_of, IsArmed}

-- all are made
pub record AllMade (calls : List Call) (fault : Option Fault) (p : DiskPlain) : Type 0 where
  pub fate_is : fate (length calls) fault ≡ Made
  pub succeed : all_succeed calls p ≡ true
  pub armed : IsArmed (fault_after (length calls) fault) (after_calls calls p)
  pub state : (after_calls calls p).state ≡ all_made calls p.state

-- one fails, or the disk crashes in it
pub record Stops (calls : List Call) (fault : Option Fault) (p : DiskPlain) : Type 0 where
  pub left : ℕ
  pub crash : Option Named
  pub fate_is : fate (length calls) fault ≡ fate_by left crash
  pub told : IsTold left (crash_of crash) p
  pub most : left ≤ length calls
  pub succeed : all_succeed calls p ≡ false
  pub armed : (after_calls calls p).armed ≡ None
  pub crashed : (after_calls calls p).crashed ≡ is_some (crash_of crash)

fates_of_none : (calls : List Call) (p : DiskPlain) → IsArmed None p → AllMade calls None p
fates_of_none calls p armed =
    let stays = sound_stays calls p (record { stands = armed.stands; told = armed.told }) in
    record { fate_is = refl; succeed = stays.0; armed = record { stands = stays.1.stands; told = stays.1.told; counts = tt }; state = stays.2 }

told_of : (f : Fault) (p : DiskPlain) → IsArmed (Some f) p → IsTold f.left (crash_of f.crash) p
told_of f p armed = record { counts = armed.counts; stands = armed.stands; told = armed.told }

fates_of_some : (calls : List Call) (f : Fault) (p : DiskPlain) → IsArmed (Some f) p → (b : Bool) → nat_le f.left (length calls) ≡ b → AllMade calls (Some f) p ⊎ Stops calls (Some f) p
fates_of_some calls f p armed true e =
    let told = told_of f p armed in
    let comes = fault_comes calls f.left (crash_of f.crash) p told (leb-true f.left (length calls) e) in
    inr (record {
      left = f.left;
      crash = f.crash;
      fate_is = ap (λ b. if b then fate_by f.left f.crash else Made) e;
      told = told;
      most = leb-true f.left (length calls) e;
      succeed = comes.0;
      armed = comes.1;
      crashed = comes.2;
    })
fates_of_some calls f p armed false e =
    let passes = fault_passes calls f.left (crash_of f.crash) p (told_of f p armed) (leb-false f.left (length calls) e) in
    inl (record {
      fate_is = ap (λ b. if b then fate_by f.left f.crash else Made) e;
      succeed = passes.0;
      armed = subst (λ b. IsArmed (if b then None else Some (record { left = f.left - length calls; crash = f.crash })) (after_calls calls p)) (sym e)
          (record { stands = passes.1.stands; told = passes.1.told; counts = passes.1.counts });
      state = passes.2;
    })

pub fates : (calls : List Call) (fault : Option Fault) (p : DiskPlain) → IsArmed fault p → AllMade calls fault p ⊎ Stops calls fault p
fates calls None p armed = inl (fates_of_none calls p armed)
fates calls (Some f) p armed = fates_of_some calls f p armed (nat_le f.left (length calls)) refl

-- ---- reads ----

pub fine_reads : (fault : Option Fault) (p : DiskPlain) → IsArmed fault p → reads_fine p ≡ true
fine_reads None p armed = sound_reads p (record { stands = armed.stands; told = armed.told })
fine_reads (Some f) p armed = told_reads f.left (crash_of f.crash) p (told_of f p armed)

-- ---- one call ----

one_after : (b : Bool) (q : DiskPlain) → (if b then q else q) ≡ q
one_after true q = refl
one_after false q = refl

one_succeeds : (b : Bool) → (if b then true else false) ≡ b
one_succeeds true = refl
one_succeeds false = refl

pub after_one : (call : Call) (p : DiskPlain) → after_calls (call ∷ []) p ≡ after_call call p
after_one call p = one_after (succeeds p) (after_call call p)

pub succeeds_one : (call : Call) (p : DiskPlain) → all_succeed (call ∷ []) p ≡ succeeds p
succeeds_one call p = one_succeeds (succeeds p)

-- a sync that fails changes nothing, and one in which the disk crashes shows its picture
abbrev pub stopped_sync : Option Picture → State → State
stopped_sync None s = s
stopped_sync (Some picture) s = synced (Some picture) s

told_here : (how : Option Picture) (s : State) → (after_call None (record { state = s; armed = Some (fault_of 1 how); crashed = false })).state ≡ stopped_sync how s
told_here None s = refl
told_here (Some picture) s = refl

pub sync_stops : (k : ℕ) (how : Option Picture) (p : DiskPlain) → IsTold k how p → k ≤ 1 → (after_call None p).state ≡ stopped_sync how p.state
sync_stops k how p told most =
    let one : k ≡ 1 = omega (arith, told.counts, most) in
    let is : p ≡ record { state = p.state; armed = Some (fault_of 1 how); crashed = false } = λ i. record { state = p.state; armed = (told.told ∙ ap (λ n. Some (fault_of n how)) one) i; crashed = told.stands i } in
    ap (λ q. (after_call None q).state) is ∙ told_here how p.state
