-- A change that is committed.
use Rattle.std.proofs.Common.{◌≡◌, ◌≢◌, ◌≤◌, ◌<◌, ◌+◌, ◌-◌, ◌^◌, ◌==◌, ◌⊎◌, ◌↔◌, inl, inr, ℕ, Bool, true, false, not, List, [], ◌∷◌, ◌++◌, Option, Some, None, Result, Ok, Err, OnErr, length, refl, ap, sym, ◌∙◌, subst, arith, if◌then◌else◌}
use Rattle.std.specs.Result.{IsErrOf, IsErrAnd}
use Rattle.ld_journal.specs.declared.journal.Journal.{Journal}
use Rattle.std.proofs.lemmas.Bool.{cases_order}
use Rattle.std.proofs.lemmas.Bool.Decides.{nat_tests}
use Rattle.ld_io.specs.Causes.{Rose}
use Rattle.ld_disk.specs.Moments.{LeavesOnly, Unchanged}
use Rattle.ld_disk.specs.Plain.{Plain, Call, fate, is_made, armed_after, crashed_after, succeeds, after_call, after_calls, all_succeed, read_fine, reads_fine}
use Rattle.ld_disk.specs.declared.disk.Picture.{Picture}
use Rattle.ld_disk.specs.declared.disk.Disk.{Ghosts}
use Rattle.ld_disk.specs.declared.disk.Fault.{Fault}
use Rattle.ld_disk.specs.declared.disk.Fault.TheVariants as disk_faults
use Rattle.ld_disk.specs.declared.fate.Fate.TheVariants as fates
use Rattle.ld_journal.specs.Format.{IsWithOrWithout, records}
use Rattle.ld_journal.specs.Open.{IsSettled, disk_of, place_of, must_load}
use Rattle.ld_journal.proofs.Reading.{one_reading}
use Rattle.ld_journal.specs.declared.fault.JournalFault.{JournalFault}
use Rattle.ld_journal.specs.declared.fault.JournalFault.TheVariants as journals
use Rattle.ld_msg.specs.Register.{Register, empty_register}
use Rattle.ld_register.specs.declared.fault.RegisterFault.{RegisterFault}
use Rattle.ld_register.specs.declared.fault.RegisterFault.TheVariants as faults
use Rattle.ld_register.specs.declared.change.Change.{Change}
use Rattle.ld_register.specs.Faults.{passed_on, is_disk}
use Rattle.ld_register.specs.Changes.{changed, change_bytes, body_length, is_next, IsChange, IsNext}
use Rattle.ld_register.specs.Kept.{Kept, register_of}
use Rattle.ld_register.specs.Stands.{StandsFor, HasRecords, IsReplayed}
use Rattle.ld_register.specs.Held.{IsQuiet, never_falls}
use Rattle.ld_register.proofs.Leading.{leads_push, next_in, made_kept}

-- ---- quiet disks ----

made_or_later : (b : Bool) (k : ℕ) → b ≡ false → is_made (if b then fates.Fails else fates.Made) ≡ true
made_or_later true k h = absurd cc
made_or_later false k h = refl

made_or_crash : (b : Bool) (picture : Picture) → b ≡ false → is_made (if b then fates.Crashes picture else fates.Made) ≡ true
made_or_crash true p h = absurd cc
made_or_crash false p h = refl

not_one : (k : ℕ) → (k == 0) ≡ true → (k == 1) ≡ false
not_one k h = grind (arith, nat_tests)

quiet_made : (crashed : Bool) (armed : Option Fault) → crashed ≡ false → never_falls armed ≡ true → is_made (fate crashed armed) ≡ true
quiet_made true armed c h = absurd cc
quiet_made false None c h = refl
quiet_made false (Some (disk_faults.FailAt k)) c h = made_or_later (k == 1) k (not_one k h)
quiet_made false (Some (disk_faults.CrashAt k picture)) c h = made_or_crash (k == 1) picture (not_one k h)
quiet_made false (Some (disk_faults.FailReadAt k)) c h = absurd cc

armed_later : (b : Bool) (k : ℕ) → b ≡ false → (k == 0) ≡ true → never_falls (if b then None else Some (disk_faults.FailAt (k - 1))) ≡ true
armed_later true k h z = refl
armed_later false k h z = grind (arith, nat_tests)

armed_crash : (b : Bool) (k : ℕ) (picture : Picture) → b ≡ false → (k == 0) ≡ true → never_falls (if b then None else Some (disk_faults.CrashAt (k - 1) picture)) ≡ true
armed_crash true k p h z = refl
armed_crash false k p h z = grind (arith, nat_tests)

quiet_armed : (crashed : Bool) (armed : Option Fault) → crashed ≡ false → never_falls armed ≡ true → never_falls (armed_after crashed armed) ≡ true
quiet_armed true armed c h = absurd cc
quiet_armed false None c h = refl
quiet_armed false (Some (disk_faults.FailAt k)) c h = armed_later (k == 1) k (not_one k h) h
quiet_armed false (Some (disk_faults.CrashAt k picture)) c h = armed_crash (k == 1) k picture (not_one k h) h
quiet_armed false (Some (disk_faults.FailReadAt k)) c h = absurd cc

crashed_not : (b : Bool) → b ≡ false → crashed_after false (if b then fates.Fails else fates.Made) ≡ false
crashed_not true h = refl
crashed_not false h = refl

crashed_none : (b : Bool) (picture : Picture) → b ≡ false → crashed_after false (if b then fates.Crashes picture else fates.Made) ≡ false
crashed_none true p h = absurd cc
crashed_none false p h = refl

quiet_stands : (crashed : Bool) (armed : Option Fault) → crashed ≡ false → never_falls armed ≡ true → crashed_after crashed (fate crashed armed) ≡ false
quiet_stands true armed c h = absurd cc
quiet_stands false None c h = refl
quiet_stands false (Some (disk_faults.FailAt k)) c h = crashed_not (k == 1) (not_one k h)
quiet_stands false (Some (disk_faults.CrashAt k picture)) c h = crashed_none (k == 1) picture (not_one k h)
quiet_stands false (Some (disk_faults.FailReadAt k)) c h = absurd cc

pub quiet_call : (call : Call) (p : Plain) → IsQuiet p → (succeeds p ≡ true) × IsQuiet (after_call call p)
quiet_call call p q = (quiet_made p.crashed p.armed q.stands q.told, record { stands = quiet_stands p.crashed p.armed q.stands q.told; told = quiet_armed p.crashed p.armed q.stands q.told })

quiet_fine : (crashed : Bool) (armed : Option Fault) → crashed ≡ false → never_falls armed ≡ true → read_fine crashed armed ≡ true
quiet_fine true armed c h = absurd cc
quiet_fine false None c h = refl
quiet_fine false (Some (disk_faults.FailAt k)) c h = refl
quiet_fine false (Some (disk_faults.CrashAt k picture)) c h = refl
quiet_fine false (Some (disk_faults.FailReadAt k)) c h = absurd cc

pub quiet_reads : (p : Plain) → IsQuiet p → reads_fine p ≡ true
quiet_reads p q = quiet_fine p.crashed p.armed q.stands q.told

pub quiet_calls : (calls : List Call) (p : Plain) → IsQuiet p → (all_succeed calls p ≡ true) × IsQuiet (after_calls calls p)
quiet_calls [] p q = (refl, q)
quiet_calls (call ∷ calls) p q = let one = quiet_call call p q in let rest = quiet_calls calls (after_call call p) one.1 in (
  ap (λ b. if b then all_succeed calls (after_call call p) else false) one.0 ∙ rest.0,
  subst IsQuiet (sym (ap (λ b. if b then after_calls calls (after_call call p) else after_call call p) one.0)) rest.1,
)

-- ---- moments ----

pub leaves_map : {D : Type 0} (moment : D → ℕ) (left_since : D → ℕ → List ℕ → Type 0) (old new : D) (P Q : List ℕ → Type 0) → ((c : List ℕ) → P c → Q c) → LeavesOnly moment left_since old new P → LeavesOnly moment left_since old new Q
leaves_map moment left_since old new P Q f h = record { later = h.later; each = λ c l. f c (h.each c l); before = λ t c le l. elim (h.before t c le l) [ inl a ↦ inl a | inr b ↦ inr (f c b) ] }

pub on_err : {T E : Type 0} (r : Result T E) (P : Type 0) → P → OnErr r P
on_err (Ok v) P p = tt
on_err (Err e) P p = p

abbrev pub refusal : JournalFault → Result (Unit {0}) JournalFault
refusal f = Err f

abbrev pub done : Result (Unit {0}) JournalFault
done = Ok tt

pub is_not_ok : (f : JournalFault) → done ≡ refusal f → ⊥
is_not_ok f is = absurd (cc is)

same_fault : (e f : JournalFault) → refusal e ≡ refusal f → e ≡ f
same_fault e f is = cc is

stays_settled : (f : JournalFault) (A B : Type 0) → (refusal f ≡ refusal journals.Disk → ⊥) → (refusal f ≡ refusal journals.Disk) ⊎ A → A
stays_settled f A B no_ (inl d) = absurd (no_ d)
stays_settled f A B no_ (inr a) = a

pub leaves_then : {D : Type 0} (seen : D → Option (List ℕ)) (may_leave : D → List ℕ → Type 0) (moment : D → ℕ) (left_since : D → ℕ → List ℕ → Type 0) (old mid new : D) (P : List ℕ → Type 0)
    → LeavesOnly moment left_since old mid P → Unchanged seen may_leave moment left_since mid new → LeavesOnly moment left_since old new P
leaves_then seen may_leave moment left_since old mid new P h same = record { later = let t = same.time in let l = h.later in omega arith; each = λ c l. h.each c (same.past (moment old) c l); before = λ t c le l. h.before t c le (same.past t c l) }

pub leaves_same : {D : Type 0} (g : Ghosts D) (old new : D) → ((disk : D) (c : List ℕ) → g.left_since disk (g.moment disk) c → g.may_leave disk c) → Unchanged g.seen g.may_leave g.moment g.left_since old new
    → LeavesOnly g.moment g.left_since old new (g.may_leave old)
leaves_same g old new only same = record { later = let t = same.time in omega arith; each = λ c l. only old c (same.past (g.moment old) c l); before = λ t c le l. inl (same.past t c l) }

pub leaves_none : {D : Type 0} (g : Ghosts D) (disk : D) → ((disk : D) (c : List ℕ) → g.left_since disk (g.moment disk) c → g.may_leave disk c) → LeavesOnly g.moment g.left_since disk disk (g.may_leave disk)
leaves_none g disk only = record { later = omega arith; each = λ c l. only disk c l; before = λ t c le l. inl l }

-- ---- a load ----

pub err_in : {T : Type 0} (r : Result T RegisterFault) (e f : RegisterFault) → IsErrAnd r (λ x. x ≡ f) → IsErrOf r e → e ≡ f
err_in r e f and is = subst (λ r. IsErrAnd r (λ x. x ≡ f)) is and

pub quiet_load : (f : JournalFault) (p : Plain) (o : Option Plain) → IsQuiet p
    → ((refusal f ≡ refusal journals.NoMemory) × (o ≡ Some p)) ⊎ ((o ≡ Some (after_call None p)) × ((refusal f ≡ refusal journals.Disk) ↔ (succeeds p ≡ false))) → (q : Plain) × (o ≡ Some q) × IsQuiet q
quiet_load f p o q (inl a) = (p, a.1, q)
quiet_load f p o q (inr b) = (after_call None p, b.0, (quiet_call None p q).1)

pub not_both : (b : Bool) → b ≡ true → b ≡ false → ⊥
not_both b h k = let e = sym h ∙ k in absurd cc

pub steady_load : (f : JournalFault) (p : Plain) (o : Option Plain) → IsQuiet p
    → ((refusal f ≡ refusal journals.NoMemory) × (o ≡ Some p)) ⊎ ((o ≡ Some (after_call None p)) × ((refusal f ≡ refusal journals.Disk) ↔ (succeeds p ≡ false))) → refusal f ≢ refusal journals.NeedsLoad → faults.Failed ≡ passed_on f → ⊥
steady_load journals.Disk p o q (inl a) n is = absurd (let e = a.0 in cc e)
steady_load journals.Disk p o q (inr b) n is = not_both (succeeds p) (quiet_call None p q).0 (b.1.0 refl)
steady_load (journals.Damaged place) p o q h n is = absurd (cc is)
steady_load journals.Full p o q h n is = absurd (cc is)
steady_load journals.NeedsLoad p o q h n is = n refl
steady_load journals.NoMemory p o q h n is = absurd (cc is)

pub loaded_plain : (p : Plain) (o : Option Plain)
    → ((done ≡ refusal journals.NoMemory) × (o ≡ Some p)) ⊎ ((o ≡ Some (after_call None p)) × ((done ≡ refusal journals.Disk) ↔ (succeeds p ≡ false))) → o ≡ Some (after_call None p)
loaded_plain p o (inl a) = absurd (is_not_ok journals.NoMemory a.0)
loaded_plain p o (inr b) = b.0

abbrev pub refused_as : RegisterFault → Result (Unit {0}) RegisterFault
refused_as f = Err f

pub steady_append : (f : JournalFault) (p : Plain) (o : Option Plain) (calls : List Call) → IsQuiet p
    → ((refusal f ≡ refusal journals.Disk) → (o ≡ Some (after_calls calls p)) × (false ≡ all_succeed calls p))
    → (refusal f ≡ refusal journals.NeedsLoad → ⊥) → passed_on f ≡ faults.Failed → ⊥
steady_append journals.Disk p o calls q h n is = not_both (all_succeed calls p) (quiet_calls calls p q).0 (sym (h refl).1)
steady_append (journals.Damaged place) p o calls q h n is = absurd (cc is)
steady_append journals.Full p o calls q h n is = absurd (cc is)
steady_append journals.NeedsLoad p o calls q h n is = n refl
steady_append journals.NoMemory p o calls q h n is = absurd (cc is)

pub quiet_refused : (f : JournalFault) (p : Plain) (old new : Option Plain) (B : Type 0) (calls : List Call) → (B → new ≡ old) → old ≡ Some p → IsQuiet p
    → ((refusal f ≡ refusal journals.Disk) → (new ≡ Some (after_calls calls p)) × (false ≡ all_succeed calls p))
    → (refusal f ≡ refusal journals.Disk) ⊎ B → (q : Plain) × (new ≡ Some q) × IsQuiet q
quiet_refused f p old new B calls same is q h (inl d) = (after_calls calls p, (h d).0, (quiet_calls calls p q).1)
quiet_refused f p old new B calls same is q h (inr s) = (p, same s ∙ is, q)

pub err_of : {T : Type 0} (r : Result T RegisterFault) (f : RegisterFault) → IsErrAnd r (λ e. e ≡ f) → IsErrOf r f
err_of (Ok v) f is = absurd is
err_of (Err e) f is = ap (λ e. Err e) is

pub same_refusal : (e f : RegisterFault) → refused_as e ≡ refused_as f → e ≡ f
same_refusal e f is = cc is

pub fits_by : (n m : ℕ) → (m < n → ⊥) → n ≤ m
fits_by n m h = elim (cases_order n m) [
  | inl e ↦ omega arith
  | inr (inl l) ↦ omega arith
  | inr (inr l) ↦ absurd (h l)
]

some_same : (a b : List ℕ) → Some a ≡ Some b → a ≡ b
some_same a b e = cc e

module _ {D : Type 0} (g : Ghosts D) where
  pub next_of : (oj : Journal D) (k : Kept) (x : Change) (c : Register) (body : List ℕ) → body ≡ change_bytes x → IsChange x → is_next (register_of k 0) x ≡ true → IsReplayed g.seen g.may_leave oj k c → IsNext c body x
  next_of oj k x c body e i n h = record { body_is = record { bytes = e; is = i }; next = next_in k c 0 x h.kept ∙ n }

  -- what a crash leaves at any moment
  pub moments_by : (oj nj : Journal D) (k : Kept) (x : Change) (body : List ℕ) → body ≡ change_bytes x → IsChange x → is_next (register_of k 0) x ≡ true
      → ((bodies : List (List ℕ)) → IsSettled g.seen g.may_leave oj bodies → LeavesOnly g.moment g.left_since (disk_of oj) (disk_of nj) (IsWithOrWithout bodies body))
      → (c : Register) → IsReplayed g.seen g.may_leave oj k c → LeavesOnly g.moment g.left_since (disk_of oj) (disk_of nj) (λ bytes. StandsFor bytes c ⊎ StandsFor bytes (changed c x))
  moments_by oj nj k x body e i n any c h = leaves_map g.moment g.left_since (disk_of oj) (disk_of nj) (IsWithOrWithout h.bodies body) (λ bytes. StandsFor bytes c ⊎ StandsFor bytes (changed c x)) (λ bytes s. elim s [
    | inl j ↦ inl (record { bodies = h.bodies; journal = j; leads = h.leads })
    | inr j ↦ inr (record { bodies = h.bodies ++ body ∷ []; journal = j; leads = leads_push empty_register h.bodies body c x h.leads (next_of oj k x c body e i n h) })
  ]) (any h.bodies h.settled)

  pub made_by : (oj nj : Journal D) (k mid j : Kept) (x : Change) (body : List ℕ) → body ≡ change_bytes x → IsChange x → is_next (register_of k 0) x ≡ true
      → ((n : ℕ) → register_of mid n ≡ register_of k n)
      → ((n m : ℕ) → m ≡ n + (5 + body_length x) → register_of j m ≡ changed (register_of mid n) x)
      → ((bodies : List (List ℕ)) → IsSettled g.seen g.may_leave oj bodies → IsSettled g.seen g.may_leave nj (bodies ++ body ∷ []))
      → (c : Register) → IsReplayed g.seen g.may_leave oj k c → IsReplayed g.seen g.may_leave nj j (changed c x)
  made_by oj nj k mid j x body e i n room apply settled c h = record {
    bodies = h.bodies ++ body ∷ [];
    settled = settled h.bodies h.settled;
    leads = leads_push empty_register h.bodies body c x h.leads (next_of oj k x c body e i n h);
    kept = made_kept k j c x h.kept (λ a b m. apply a b m ∙ ap (λ r. changed r x) (room a));
  }

  pub adds_by : (oj nj : Journal D) (k : Kept) (x : Change) (body : List ℕ) → body ≡ change_bytes x
      → ((bodies : List (List ℕ)) → IsSettled g.seen g.may_leave oj bodies → IsSettled g.seen g.may_leave nj (bodies ++ body ∷ []))
      → (c : Register) (bodies : List (List ℕ)) → IsReplayed g.seen g.may_leave oj k c → HasRecords (g.seen (disk_of oj)) bodies → HasRecords (g.seen (disk_of nj)) (bodies ++ change_bytes x ∷ [])
  adds_by oj nj k x body e settled c bodies h r =
      let was = h.settled.rests in
      let now = (settled h.bodies h.settled).rests in
      let same : bodies ≡ h.bodies = one_reading r.bytes bodies h.bodies r.journal (record { gate = was.gate; after = was.after; bytes_are = some_same r.bytes _ (sym r.seen_is ∙ was.bytes); shut = was.shut; fits = was.fits }) in
      subst (HasRecords (g.seen (disk_of nj))) (sym (ap (λ b. b ++ change_bytes x ∷ []) same ∙ ap (λ b. h.bodies ++ b ∷ []) (sym e)))
      (record { bytes = records (h.bodies ++ body ∷ []) ++ now.gate ∷ now.after; seen_is = now.bytes; journal = record { gate = now.gate; after = now.after; bytes_are = refl; shut = now.shut; fits = now.fits } })

  pub kept_by : (oj nj : Journal D) (k j : Kept) → ((n : ℕ) → register_of j n ≡ register_of k n)
      → ((bodies : List (List ℕ)) → IsSettled g.seen g.may_leave oj bodies → IsSettled g.seen g.may_leave nj bodies)
      → (c : Register) → IsReplayed g.seen g.may_leave oj k c → IsReplayed g.seen g.may_leave nj j c
  kept_by oj nj k j room settled c h = record { bodies = h.bodies; settled = settled h.bodies h.settled; leads = h.leads; kept = room c.length ∙ h.kept }

  -- the journal refused
  pub refused_by : (f : JournalFault) (oj nj : Journal D) (k j : Kept) (n : ℕ) (loaded : Bool) (r : Result (Unit {0}) RegisterFault) (body : List ℕ) → length body ≡ n → r ≡ refused_as (passed_on f) → loaded ≡ not (is_disk f)
      → ((n : ℕ) → register_of j n ≡ register_of k n)
      → must_load oj ≡ false
      → (refusal f ≡ refusal journals.Disk → Rose (g.faults (disk_of oj)) (g.faults (disk_of nj)))
      → (refusal f ≡ refusal journals.Full → (must_load oj ≡ false) × (2 ^ 40 < place_of oj + length body + 6))
      → ((must_load oj ≡ false) × (2 ^ 40 < place_of oj + length body + 6) → refusal f ≡ refusal journals.Full)
      → ((disk : D) (c : List ℕ) → g.left_since disk (g.moment disk) c → g.may_leave disk c)
      → (refusal f ≡ refusal journals.NeedsLoad → must_load oj ≡ true)
      → ((place : ℕ) → refusal f ≢ refusal (journals.Damaged place))
      → ((bodies : List (List ℕ)) → IsSettled g.seen g.may_leave oj bodies → (refusal f ≡ refusal journals.Disk) ⊎ IsSettled g.seen g.may_leave nj bodies)
      → (refusal f ≡ refusal journals.Disk) ⊎ Unchanged g.seen g.may_leave g.moment g.left_since (disk_of oj) (disk_of nj)
      → ((r ≡ refused_as faults.Failed) × (loaded ≡ false) × Rose (g.faults (disk_of oj)) (g.faults (disk_of nj)) × (place_of oj + n + 6 ≤ 2 ^ 40))
      ⊎ (((r ≡ refused_as faults.NoMemory) ⊎ ((r ≡ refused_as faults.Full) × (2 ^ 40 < place_of oj + n + 6)))
      × (loaded ≡ true) × ((c : Register) → IsReplayed g.seen g.may_leave oj k c → IsReplayed g.seen g.may_leave nj j c) × LeavesOnly g.moment g.left_since (disk_of oj) (disk_of nj) (g.may_leave (disk_of oj)) × (g.seen (disk_of nj) ≡ g.seen (disk_of oj)))
  refused_by journals.Disk oj nj k j n loaded r body len is l room works rose full back only needs never settled same = inl (is, l, rose refl, fits_by (place_of oj + n + 6) (2 ^ 40) (λ m. absurd (let e = back (works, omega arith) in cc e)))
  refused_by journals.Full oj nj k j n loaded r body len is l room works rose full back only needs never settled same = inr (inr (is, let h = (full refl).1 in omega arith), l, kept_by oj nj k j room (λ b s. stays_settled journals.Full _ ⊥ (λ d. absurd (cc d)) (settled b s)), leaves_same g (disk_of oj) (disk_of nj) only (stays_settled journals.Full _ ⊥ (λ d. absurd (cc d)) same), (stays_settled journals.Full _ ⊥ (λ d. absurd (cc d)) same).bytes)
  refused_by journals.NoMemory oj nj k j n loaded r body len is l room works rose full back only needs never settled same = inr (inl is, l, kept_by oj nj k j room (λ b s. stays_settled journals.NoMemory _ ⊥ (λ d. absurd (cc d)) (settled b s)), leaves_same g (disk_of oj) (disk_of nj) only (stays_settled journals.NoMemory _ ⊥ (λ d. absurd (cc d)) same), (stays_settled journals.NoMemory _ ⊥ (λ d. absurd (cc d)) same).bytes)
  refused_by journals.NeedsLoad oj nj k j n loaded r body len is l room works rose full back only needs never settled same = absurd (let h = sym works ∙ needs refl in cc h)
  refused_by (journals.Damaged place) oj nj k j n loaded r body len is l room works rose full back only needs never settled same = absurd (never place refl)
