-- Which writing calls a load, a change and a whole call make.
use Rattle.std.proofs.Common.{◌≡◌, ◌⊎◌, ◌↔◌, ◌+◌, ◌-◌, ◌==◌, ◌&&◌, inl, inr, ℕ, Bool, true, false, not, List, [], ◌∷◌, Option, Some, None, IsSome, Result, Ok, Err, OnErr, if◌then◌else◌, refl, ap, sym, ◌∙◌, subst, arith}
use Rattle.std.specs.Result.{IsErrOf}
use Rattle.std.proofs.lemmas.Bool.{eqb-true, eq-eqb}
use Rattle.std.proofs.lemmas.Bool.Decides.{nat_tests}
use Rattle.std.specs.Prelude.{nat_lt}
use Rattle.ld_disk.specs.Plain.{Plain, Call, fate, is_made, armed_after, crashed_after, succeeds, after_call, after_calls, all_succeed, read_fine, reads_fine}
use Rattle.ld_disk.specs.declared.disk.Disk.{Ghosts}
use Rattle.ld_disk.specs.declared.disk.Fault.{Fault}
use Rattle.ld_disk.specs.declared.disk.Fault.TheVariants as disk_faults
use Rattle.ld_disk.specs.declared.disk.Picture.{Picture}
use Rattle.ld_disk.specs.declared.fate.Fate.TheVariants as fates
use Rattle.ld_journal.specs.Format.{append_calls}
use Rattle.ld_journal.specs.Open.{place_of}
use Rattle.ld_journal.specs.declared.fault.JournalFault.{JournalFault}
use Rattle.ld_journal.specs.declared.fault.JournalFault.TheVariants as journals
use Rattle.ld_ids.specs.declared.set.Spec.{Spec}
use Rattle.ld_msg.specs.Register.{Register, epochs_of, is_crowded, generation_of, swappable, swap_limit}
use Rattle.ld_register.specs.declared.fault.RegisterFault.{RegisterFault}
use Rattle.ld_register.specs.declared.fault.RegisterFault.TheVariants as faults
use Rattle.ld_register.specs.declared.change.Change.{Change}
use Rattle.ld_register.specs.declared.change.Change.TheVariants as changes
use Rattle.ld_register.specs.declared.disk.DiskRegister.{DiskRegister}
use Rattle.ld_register.specs.Changes.{change_bytes, is_next}
use Rattle.ld_register.specs.Faults.{passed_on}
use Rattle.ld_register.specs.Held.{owned, is_loaded, Holds, IsRefused, IsDue}
use Rattle.ld_register.specs.Writing.{with_load, Writes, activation, drawing, change_calls, swap_calls, WritesBy}
use Rattle.ld_register.proofs.Committing.{on_err, refusal, refused_as}
use Rattle.ld_register.proofs.Leading.{next_in}
use Rattle.ld_register.proofs.Meeting.{failure, hold_on, tells_unloaded, replays_length}

-- ---- reads after a writing call that succeeded ----

fails_later : (b : Bool) (k : ℕ) → is_made (if b then fates.Fails else fates.Made) ≡ true
    → read_fine (crashed_after false (if b then fates.Fails else fates.Made)) (if b then None else Some (disk_faults.FailAt k)) ≡ true
fails_later true k h = absurd (cc h)
fails_later false k h = refl

crashes_later : (b : Bool) (k : ℕ) (picture : Picture) → is_made (if b then fates.Crashes picture else fates.Made) ≡ true
    → read_fine (crashed_after false (if b then fates.Crashes picture else fates.Made)) (if b then None else Some (disk_faults.CrashAt k picture)) ≡ true
crashes_later true k picture h = absurd (cc h)
crashes_later false k picture h = refl

still_fine : (crashed : Bool) (armed : Option Fault) → read_fine crashed armed ≡ true → is_made (fate crashed armed) ≡ true
    → read_fine (crashed_after crashed (fate crashed armed)) (armed_after crashed armed) ≡ true
still_fine true armed is h = absurd (cc is)
still_fine false None is h = refl
still_fine false (Some (disk_faults.FailAt k)) is h = fails_later (k == 1) (k - 1) h
still_fine false (Some (disk_faults.CrashAt k picture)) is h = crashes_later (k == 1) (k - 1) picture h
still_fine false (Some (disk_faults.FailReadAt k)) is h = absurd (cc is)

pub reads_on : (call : Call) (p : Plain) → reads_fine p ≡ true → succeeds p ≡ true → reads_fine (after_call call p) ≡ true
reads_on call p is h = still_fine p.crashed p.armed is h

-- ---- rows of calls ----

same_both : {T : Type 0} (b : Bool) (v : T) → (if b then v else v) ≡ v
same_both true v = refl
same_both false v = refl

same_flag : (b : Bool) → (if b then true else false) ≡ b
same_flag true = refl
same_flag false = refl

-- the load's call alone
one_left : (p : Plain) → after_calls (None ∷ []) p ≡ after_call None p
one_left p = same_both (succeeds p) (after_call None p)

one_succeeds : (p : Plain) → all_succeed (None ∷ []) p ≡ succeeds p
one_succeeds p = same_flag (succeeds p)

-- a first call that fails is the last
ends_left : (calls : List Call) (p : Plain) → succeeds p ≡ false → after_calls (None ∷ calls) p ≡ after_call None p
ends_left calls p h = ap (λ b. if b then after_calls calls (after_call None p) else after_call None p) h

ends_all : (calls : List Call) (p : Plain) → succeeds p ≡ false → all_succeed (None ∷ calls) p ≡ false
ends_all calls p h = ap (λ b. if b then all_succeed calls (after_call None p) else false) h

-- behind a load that succeeds
behind_left : (loaded : Bool) (calls : List Call) (p : Plain) → all_succeed (with_load loaded []) p ≡ true → after_calls (with_load loaded calls) p ≡ after_calls calls (after_calls (with_load loaded []) p)
behind_left true calls p h = refl
behind_left false calls p h = ap (λ b. if b then after_calls calls (after_call None p) else after_call None p) (sym (one_succeeds p) ∙ h) ∙ ap (λ q. after_calls calls q) (sym (one_left p))

behind_all : (loaded : Bool) (calls : List Call) (p : Plain) → all_succeed (with_load loaded []) p ≡ true → all_succeed (with_load loaded calls) p ≡ all_succeed calls (after_calls (with_load loaded []) p)
behind_all true calls p h = refl
behind_all false calls p h = ap (λ b. if b then all_succeed calls (after_call None p) else false) (sym (one_succeeds p) ∙ h) ∙ ap (λ q. all_succeed calls q) (sym (one_left p))

-- ---- answers ----

failed_is : {T : Type 0} (e : RegisterFault) → IsErrOf (failure T e) faults.Failed → e ≡ faults.Failed
failed_is e is = cc is

-- an answer other than Failed, behind the load
pub writes_behind : {T : Type 0} (loaded : Bool) (p : Plain) (r : Result T RegisterFault) (left : Option Plain) → (IsErrOf r faults.Failed → ⊥) → left ≡ Some (after_calls (with_load loaded []) p) → all_succeed (with_load loaded []) p ≡ true → Writes loaded [] p r left
writes_behind loaded p r left never is all = record {
  made = λ h. elim h [ inl ok ↦ record { left_is = is; all = ok ∙ sym all } | inr f ↦ absurd (never f) ];
  refused = on_err r _ (inr (inr (is, all)));
}

-- the same refusal, of another call
pub writes_as : {T U : Type 0} (loaded : Bool) (calls : List Call) (p : Plain) (r : Result T RegisterFault) (e : RegisterFault) (left : Option Plain) → r ≡ failure T e → Writes loaded calls p (failure U e) left → Writes loaded calls p r left
writes_as {T = T} {U = U} loaded calls p r e left is w = subst (λ r. Writes loaded calls p r left) (sym is) (record {
  made = λ h. elim h [
    | inl ok ↦ absurd (cc ok)
    | inr f ↦ let m = w.made (inr (ap (λ e. failure U e) (failed_is e f))) in record { left_is = m.left_is; all = m.all }
  ];
  refused = elim w.refused [
    | inl f ↦ inl (ap (λ e. failure T e) (failed_is e f))
    | inr (inl n) ↦ inr (inl (ap (λ e. failure T e) (memory_is e n.0), n.1))
    | inr (inr a) ↦ inr (inr a)
  ];
})
  where
    memory_is : (e : RegisterFault) → IsErrOf (failure U e) faults.NoMemory → e ≡ faults.NoMemory
    memory_is e is = cc is

-- the same, where it failed
pub failed_or : {T U : Type 0} (r : Result T RegisterFault) (e : RegisterFault) (A : Type 0) → r ≡ failure T e → IsErrOf (failure U e) faults.Failed ⊎ A → IsErrOf r faults.Failed ⊎ A
failed_or {T = T} r e A is (inl f) = inl (is ∙ ap (λ e. failure T e) (failed_is e f))
failed_or r e A is (inr a) = inr a

-- a load that failed made no further call
stopped : (loaded : Bool) (calls : List Call) (p : Plain) (left : Option Plain) → left ≡ Some (after_calls (with_load loaded []) p) → false ≡ all_succeed (with_load loaded []) p → (left ≡ Some (after_calls (with_load loaded calls) p)) × (false ≡ all_succeed (with_load loaded calls) p)
stopped true calls p left is none = absurd (cc none)
stopped false calls p left is none =
    let f : succeeds p ≡ false = sym (one_succeeds p) ∙ sym none in
    (is ∙ ap (λ q. Some q) (one_left p ∙ sym (ends_left calls p f)), sym (ends_all calls p f))

pub writes_stopped : {T : Type 0} (loaded : Bool) (calls : List Call) (p : Plain) (e : RegisterFault) (left : Option Plain) → Writes loaded [] p (failure T e) left → Writes loaded calls p (failure T e) left
writes_stopped loaded calls p e left w = record {
  made = λ h. let m = w.made h in let s = stopped loaded calls p left m.left_is m.all in record { left_is = s.0; all = s.1 };
  refused = w.refused;
}

-- ---- a load ----

pub writes_nothing : {T : Type 0} (loaded : Bool) (p : Plain) (v : T) (left : Option Plain) → loaded ≡ true → left ≡ Some p → Writes loaded [] p (Ok v) left
writes_nothing loaded p v left is same = subst (λ b. Writes b [] p (Ok v) left) (sym is) (writes_behind true p (Ok v) left (λ f. absurd (cc f)) same refl)

pub writes_load : {T : Type 0} (loaded : Bool) (p : Plain) (r : Result T RegisterFault) (left : Option Plain) → loaded ≡ false → (IsErrOf r faults.Failed → ⊥) → left ≡ Some (after_call None p) → succeeds p ≡ true → Writes loaded [] p r left
writes_load loaded p r left is never there h = subst (λ b. Writes b [] p r left) (sym is) (writes_behind false p r left never (there ∙ ap (λ q. Some q) (sym (one_left p))) (one_succeeds p ∙ h))

true_by : (b : Bool) → (b ≡ false → ⊥) → b ≡ true
true_by true h = refl
true_by false h = absurd (h refl)

-- a load that succeeds
pub load_made : (p : Plain) (left : Option Plain) (r : Result (Unit {0}) JournalFault) → (r ≡ Ok tt)
    → (IsErrOf r journals.NoMemory × (left ≡ Some p)) ⊎ ((left ≡ Some (after_call None p)) × (IsErrOf r journals.Disk ↔ (succeeds p ≡ false))) → (left ≡ Some (after_call None p)) × (succeeds p ≡ true)
load_made p left r is (inl n) = absurd (let e = sym is ∙ n.0 in cc e)
load_made p left r is (inr h) = (h.0, true_by (succeeds p) (λ f. let e = sym is ∙ h.1.1 f in absurd (cc e)))

-- a load that is refused
refused_load : (f : JournalFault) (p : Plain) (left : Option Plain) → (refusal f ≡ refusal journals.Full → ⊥) → (refusal f ≡ refusal journals.NeedsLoad → ⊥)
    → ((refusal f ≡ refusal journals.NoMemory) × (left ≡ Some p)) ⊎ ((left ≡ Some (after_call None p)) × ((refusal f ≡ refusal journals.Disk) ↔ (succeeds p ≡ false))) → Writes false [] p (refused_as (passed_on f)) left
refused_load journals.Disk p left full needs (inl n) = absurd (let e = n.0 in cc e)
refused_load journals.Disk p left full needs (inr h) = record {
  made = λ a. record { left_is = h.0 ∙ ap (λ q. Some q) (sym (one_left p)); all = sym (one_succeeds p ∙ h.1.0 refl) };
  refused = inl refl;
}
refused_load (journals.Damaged place) p left full needs (inl n) = absurd (let e = n.0 in cc e)
refused_load (journals.Damaged place) p left full needs (inr h) = writes_load false p _ left refl (λ f. absurd (cc f)) h.0 (true_by (succeeds p) (λ f. let e = h.1.1 f in absurd (cc e)))
refused_load journals.Full p left full needs h = absurd (full refl)
refused_load journals.NeedsLoad p left full needs h = absurd (needs refl)
refused_load journals.NoMemory p left full needs (inl n) = record { made = λ h. elim h [ inl ok ↦ absurd (cc ok) | inr f ↦ absurd (cc f) ]; refused = inr (inl (refl, n.1)) }
refused_load journals.NoMemory p left full needs (inr h) = writes_load false p _ left refl (λ f. absurd (cc f)) h.0 (true_by (succeeds p) (λ f. let e = h.1.1 f in absurd (cc e)))

pub load_refused : (f : JournalFault) (loaded : Bool) (p : Plain) (left : Option Plain) → loaded ≡ false → (refusal f ≡ refusal journals.Full → ⊥) → (refusal f ≡ refusal journals.NeedsLoad → ⊥)
    → ((refusal f ≡ refusal journals.NoMemory) × (left ≡ Some p)) ⊎ ((left ≡ Some (after_call None p)) × ((refusal f ≡ refusal journals.Disk) ↔ (succeeds p ≡ false))) → Writes loaded [] p (refused_as (passed_on f)) left
load_refused f loaded p left is full needs h = subst (λ b. Writes b [] p (refused_as (passed_on f)) left) (sym is) (refused_load f p left full needs h)

-- an answer after a load that was Ok
pub writes_next : {T U : Type 0} (loaded : Bool) (p : Plain) (v : U) (r : Result T RegisterFault) (left : Option Plain) → Writes loaded [] p (Ok v) left → (IsErrOf r faults.Failed → ⊥) → Writes loaded [] p r left
writes_next loaded p v r left w never = let m = w.made (inl refl) in writes_behind loaded p r left never m.left_is (sym m.all)

-- ---- an append ----

pub append_made : (p : Plain) (place : ℕ) (body bytes : List ℕ) (left : Option Plain) → body ≡ bytes → (left ≡ Some (after_calls (append_calls place body) p)) × (true ≡ all_succeed (append_calls place body) p) → Writes true (append_calls place bytes) p (Ok (tt {0})) left
append_made p place body bytes left is h = subst (λ b. Writes true (append_calls place b) p (Ok (tt {0})) left) is (record { made = λ a. record { left_is = h.0; all = h.1 }; refused = tt })

pub writes_none : (calls : List Call) (p : Plain) (r : Result (Unit {0}) RegisterFault) (left : Option Plain) → r ≡ refused_as faults.NoMemory → left ≡ Some p → Writes true calls p r left
writes_none calls p r left is same = subst (λ r. Writes true calls p r left) (sym is) (record { made = λ h. elim h [ inl ok ↦ absurd (cc ok) | inr f ↦ absurd (cc f) ]; refused = inr (inl (refl, same)) })

unchanged : (f : JournalFault) (e : RegisterFault) (calls : List Call) (p : Plain) (old new : Option Plain) (B : Type 0) → (refused_as e ≡ refused_as faults.Failed → ⊥) → (refusal f ≡ refusal journals.Disk → ⊥) → (B → new ≡ old) → old ≡ Some p
    → (refusal f ≡ refusal journals.Disk) ⊎ B → Writes true calls p (refused_as e) new
unchanged f e calls p old new B never other same is (inl d) = absurd (other d)
unchanged f e calls p old new B never other same is (inr b) = record { made = λ h. elim h [ inl ok ↦ absurd (cc ok) | inr f ↦ absurd (never f) ]; refused = inr (inr (same b ∙ is, refl)) }

refused_calls : (f : JournalFault) (calls : List Call) (p : Plain) (old new : Option Plain) (B : Type 0) → (B → new ≡ old) → old ≡ Some p
    → (refusal f ≡ refusal journals.Disk → (new ≡ Some (after_calls calls p)) × (false ≡ all_succeed calls p)) → (refusal f ≡ refusal journals.NeedsLoad → ⊥)
    → (refusal f ≡ refusal journals.Disk) ⊎ B → Writes true calls p (refused_as (passed_on f)) new
refused_calls journals.Disk calls p old new B same is h needs or = record { made = λ a. record { left_is = (h refl).0; all = (h refl).1 }; refused = inl refl }
refused_calls (journals.Damaged place) calls p old new B same is h needs or = unchanged (journals.Damaged place) _ calls p old new B (λ f. absurd (cc f)) (λ f. absurd (cc f)) same is or
refused_calls journals.Full calls p old new B same is h needs or = unchanged journals.Full _ calls p old new B (λ f. absurd (cc f)) (λ f. absurd (cc f)) same is or
refused_calls journals.NeedsLoad calls p old new B same is h needs or = absurd (needs refl)
refused_calls journals.NoMemory calls p old new B same is h needs or = unchanged journals.NoMemory _ calls p old new B (λ f. absurd (cc f)) (λ f. absurd (cc f)) same is or

pub append_refused : (f : JournalFault) (e : RegisterFault) (place : ℕ) (body bytes : List ℕ) (p : Plain) (old new : Option Plain) (B : Type 0) → e ≡ passed_on f → body ≡ bytes → (B → new ≡ old) → old ≡ Some p
    → (refusal f ≡ refusal journals.Disk → (new ≡ Some (after_calls (append_calls place body) p)) × (false ≡ all_succeed (append_calls place body) p)) → (refusal f ≡ refusal journals.NeedsLoad → ⊥)
    → (refusal f ≡ refusal journals.Disk) ⊎ B → Writes true (append_calls place bytes) p (refused_as e) new
append_refused f e place body bytes p old new B gives is same there h needs or =
    subst (λ e. Writes true (append_calls place bytes) p (refused_as e) new) (sym gives) (subst (λ b. Writes true (append_calls place b) p (refused_as (passed_on f)) new) is (refused_calls f (append_calls place body) p old new B same there h needs or))

-- ---- a whole call ----

pub writes_granted : {T U : Type 0} (calls : List Call) (p : Plain) (v : U) (given : T) (left : Option Plain) → Writes true calls p (Ok v) left → Writes true calls p (Ok given) left
writes_granted calls p v given left w = let m = w.made (inl refl) in record { made = λ h. record { left_is = m.left_is; all = m.all }; refused = tt }

err_map : {T E : Type 0} (r : Result T E) (P Q : Type 0) → (P → Q) → OnErr r P → OnErr r Q
err_map (Ok v) P Q f h = tt
err_map (Err e) P Q f h = f h

-- a load that was Ok, and then these calls
writes_on : {T U : Type 0} (loaded : Bool) (calls : List Call) (p : Plain) (v : U) (r : Result T RegisterFault) (mid left : Option Plain) → Writes loaded [] p (Ok v) mid → ((q : Plain) → mid ≡ Some q → Writes true calls q r left) → Writes loaded calls p r left
writes_on {T = T} loaded calls p v r mid left w rest =
    let m = w.made (inl refl) in
    let n = rest (after_calls (with_load loaded []) p) m.left_is in record {
      made = λ h. let k = n.made h in record {
        left_is = k.left_is ∙ ap (λ q. Some q) (sym (behind_left loaded calls p (sym m.all)));
        all = k.all ∙ sym (behind_all loaded calls p (sym m.all));
      };
      refused = err_map r _ _ (λ f. elim f [
        | inl d ↦ inl d
        | inr (inl k) ↦ inr (inr (k.1, sym m.all))
        | inr (inr k) ↦ inr (inr (k.0, sym m.all))
      ]) n.refused;
    }

module _ {D : Type 0} {g : Ghosts D} where
  -- the load failed, or what is asked for is refused
  pub writes_refused : {T : Type 0} (old new : DiskRegister D g) (calls : Register → List Call) (p : Plain) (r : Result T RegisterFault) (e : RegisterFault) → r ≡ failure T e → Writes (is_loaded old) [] p (failure T e) (g.plain (owned new)) → WritesBy old new calls p r
  writes_refused {T = T} old new calls p r e is w = subst (λ r. WritesBy old new calls p r) (sym is) (record {
    held = λ c h. writes_stopped (is_loaded old) (calls c) p e _ w;
    unheld = λ l n. subst (λ b. Writes b [] p (failure T e) (g.plain (owned new))) l w;
  })

  -- what is asked for changes nothing
  pub writes_idle : {T : Type 0} (old new : DiskRegister D g) (calls : Register → List Call) (p : Plain) (r : Result T RegisterFault) → ((c : Register) → Holds old c → calls c ≡ []) → Writes (is_loaded old) [] p r (g.plain (owned new)) → WritesBy old new calls p r
  writes_idle old new calls p r none w = record {
    held = λ c h. subst (λ cs. Writes (is_loaded old) cs p r (g.plain (owned new))) (sym (none c h)) w;
    unheld = λ l n. subst (λ b. Writes b [] p r (g.plain (owned new))) l w;
  }

  -- a change that failed or was refused
  pub undone_or : {T : Type 0} {old new : DiskRegister D g} {x : Change} {r : Result T RegisterFault} → IsRefused old new x r → IsErrOf r faults.Failed ⊎ (is_loaded new ≡ true)
  undone_or n = elim n.cause [ inl f ↦ inl f.0 | inr s ↦ inr s.1 ]

  -- the calls of a change that is due are those of the change of what is held
  due_calls : {T : Type 0} (old mid : DiskRegister D g) (x : Change) (given : T) (answer : Register → Result T RegisterFault) (after : Register → Register) (calls : Register → List Call) → IsDue old mid x given answer after → ((c : Register) → is_next c x ≡ true → change_calls c x ≡ calls c)
      → (c : Register) → Holds old c → append_calls (place_of mid.journal) (change_bytes x) ≡ calls c
  due_calls old mid x given answer after calls d one c h =
      let m = (hold_on old mid c d.ready h).loaded d.ready.loaded in
      let place : place_of mid.journal ≡ c.length - 1 = (let l = replays_length mid c m in omega arith) in
      ap (λ n. append_calls n (change_bytes x)) place ∙ one c (next_in mid.contents c 0 x m.kept ∙ d.next)

  -- the change that was due is made, or is refused
  pub writes_due : {T U : Type 0} (seen_is : (disk : D) (p : Plain) → g.plain disk ≡ Some p → g.seen disk ≡ Some p.state.bytes) (old mid new : DiskRegister D g) (x : Change) (given : U) (answer : Register → Result U RegisterFault) (after : Register → Register) (calls : Register → List Call) (p : Plain) (r : Result T RegisterFault)
      → IsDue old mid x given answer after → ((c : Register) → is_next c x ≡ true → change_calls c x ≡ calls c) → g.plain (owned old) ≡ Some p
      → Writes (is_loaded old) [] p (Ok given) (g.plain (owned mid))
      → ((q : Plain) → g.plain (owned mid) ≡ Some q → Writes true (append_calls (place_of mid.journal) (change_bytes x)) q r (g.plain (owned new))) → WritesBy old new calls p r
  writes_due seen_is old mid new x given answer after calls p r d one is w rest = record {
    held = λ c h. subst (λ cs. Writes (is_loaded old) cs p r (g.plain (owned new))) (due_calls old mid x given answer after calls d one c h) (writes_on (is_loaded old) _ p given r _ _ w rest);
    unheld = λ l none. let t = d.ready.whole (tells_unloaded old (subst (λ o. IsSome o) (sym (seen_is (owned old) p is)) refl) l) in absurd (none t.0 t.2);
  }

-- ---- the change that is due ----

second_is : (b : Bool) (m n : ℕ) → (b && (m == n)) ≡ true → n ≡ m
second_is true m n h = sym (eqb-true m n h)
second_is false m n h = absurd (cc h)

pub one_activation : (e : ℕ) (s : Spec) (c : Register) → is_next c (changes.Activate e s) ≡ true → change_calls c (changes.Activate e s) ≡ change_calls c (activation c s)
one_activation e s c n = ap (λ n. change_calls c (changes.Activate n s)) (second_is (not (is_crowded c s.log)) ((epochs_of c s.log).epoch + 1) e n)

pub one_drawing : (n k : ℕ) (c : Register) → is_next c (changes.Draw n k) ≡ true → change_calls c (changes.Draw n k) ≡ change_calls c (drawing c n)
one_drawing n k c h = ap (λ k. change_calls c (changes.Draw n k)) (sym (eqb-true (generation_of c n + 1) k h))

first_of : (a b : Bool) → (a && b) ≡ true → a ≡ true
first_of true b h = refl
first_of false b h = absurd (cc h)

some_swaps : (n : ℕ) → nat_lt 0 n ≡ true → (n == 0) ≡ false
some_swaps n h = grind (arith, nat_tests)

pub one_swap : (l t o w : ℕ) (c : Register) → is_next c (changes.Swap l t o w) ≡ true → change_calls c (changes.Swap l t o w) ≡ swap_calls c l t o w
one_swap l t o w c n = sym (ap (λ b. if b then [] else change_calls c (changes.Swap l t o w)) (some_swaps (swappable c l t o w) (first_of (nat_lt 0 (swappable c l t o w)) (nat_lt (epochs_of c l).swaps swap_limit) n)))

pub no_swap_calls : (c : Register) (l t o w : ℕ) → swappable c l t o w ≡ 0 → swap_calls c l t o w ≡ []
no_swap_calls c l t o w h = ap (λ b. if b then [] else change_calls c (changes.Swap l t o w)) (eq-eqb (swappable c l t o w) 0 h)
