-- What a call of a register in memory says of records to which nobody else appends.
use Rattle.std.proofs.Common.{◌≡◌, ◌≢◌, ◌≤◌, ◌<◌, ◌+◌, ◌^◌, ◌⊎◌, inl, inr, ℕ, zero, suc, true, false, List, [], ◌∷◌, ◌++◌, Option, None, Some, Result, Ok, Err, length, take, drop, map, get_or, refl, ap, sym, ◌∙◌, subst, arith, append_assoc, length-append}
use Rattle.std.specs.Result.{IsErrOf, OnErr}
use Rattle.std.proofs.lemmas.List.{map-append, take-append-drop, take-take, length-take-le, length-map}
use Rattle.std.proofs.Math.Seq.{get_or-append_seam}
use Rattle.ld_disk.specs.Plain.{Plain, stands, reads_fine, read_fine}
use Rattle.ld_disk.specs.declared.disk.Disk.{Ghosts}
use Rattle.ld_disk.specs.declared.disk.Fault.{Fault}
use Rattle.ld_disk.specs.declared.disk.Fault.TheVariants as disk_faults
use Rattle.ld_disk.specs.declared.memory.MemDisk.{MemDisk}
use Rattle.ld_journal.specs.Format.{records, Fits, IsCutShort}
use Rattle.ld_journal.specs.Rest.{IsParted}
use Rattle.ld_journal.specs.declared.fault.JournalFault.{JournalFault}
use Rattle.ld_journal.specs.declared.fault.JournalFault.TheVariants as journals
use Rattle.ld_msg.specs.Register.{Register, empty_register}
use Rattle.ld_records.specs.Growth.{Grows, IsAt}
use Rattle.ld_register.specs.Calls.{IsFree}
use Rattle.ld_register.specs.Changes.{Leads, changed}
use Rattle.ld_register.specs.Held.{owned, IsQuiet, never_falls, Holds, Meets, Foretells}
use Rattle.ld_register.specs.Stands.{StandsFor}
use Rattle.ld_register.specs.declared.disk.DiskRegister.{DiskRegister}
use Rattle.ld_register.specs.declared.fault.RegisterFault.{RegisterFault}
use Rattle.ld_register.specs.declared.fault.RegisterFault.TheVariants as faults
use Rattle.ld_register.proofs.Leading.{leads_one, leads_armed, length_is, short}
use Rattle.ld_shared.specs.Bodies.{bodies_of, body_in, IsValueOf}
use Rattle.ld_shared.specs.Fresh.{IsCopyOf}
use Rattle.ld_shared.specs.Holds.{AnswersTried}
use Rattle.ld_shared.specs.Says.{Decided, LeadTo, granting, refusal}
use Rattle.ld_shared.proofs.Growing.{at_below, bodies_more}
use Rattle.ld_shared.proofs.Meeting.{ends_of, journal_is, parted_at, Answered}

-- ---- bodies that are changes are short ----

pub leads_fit : (r : Register) (bodies : List (List ℕ)) (c : Register) → Leads r bodies c → Fits bodies
leads_fit r [] c h k d less = absurd (omega (arith, less))
leads_fit r (b ∷ bodies) c h zero d less = let n : length b ≡ _ = ap length h.1.body_is.bytes ∙ length_is h.0 in omega (arith, n, short h.0)
leads_fit r (b ∷ bodies) c h (suc k) d less = leads_fit (changed r h.0) bodies c h.2 k d (omega (arith, less))

-- the values that are there have short bodies
pub fits_at : (values : List (List ℕ)) (n : ℕ) (v : List ℕ) → Fits (bodies_of values) → IsAt n v values → n < length values → length (body_in v) < 2 ^ 32
fits_at values n v fits at less =
    let front : length (bodies_of (take n values)) ≡ n = length-map (take n values) body_in ∙ length-take-le n values (omega (arith, less)) in
    let parts : bodies_of values ≡ bodies_of (take n values) ++ body_in v ∷ bodies_of (drop (n + 1) values) =
    ap (λ l. bodies_of l) (sym (take-append-drop (n + 1) values)) ∙ map-append body_in (take (n + 1) values) (drop (n + 1) values)
    ∙ ap (λ l. l ++ bodies_of (drop (n + 1) values)) (bodies_more n v values at) ∙ append_assoc (bodies_of (take n values)) (body_in v ∷ []) (bodies_of (drop (n + 1) values)) in
    let there : get_or (bodies_of values) n [] ≡ body_in v =
    ap (λ l. get_or l n []) parts ∙ ap (λ k. get_or (bodies_of (take n values) ++ body_in v ∷ bodies_of (drop (n + 1) values)) k []) (sym front) ∙ get_or-append_seam (bodies_of (take n values)) (body_in v) (bodies_of (drop (n + 1) values)) [] in
    subst (λ (b : List ℕ). length b < 2 ^ 32) there (fits n [] (omega (arith, less, length-map values body_in)))

pub short_at : (values : List (List ℕ)) (n : ℕ) (v : List ℕ) (c : Register) → IsAt n v values → Leads empty_register (bodies_of values) c → length (body_in v) < 2 ^ 32
short_at values n v c at leads = fits_at values n v (leads_fit empty_register (bodies_of values) c leads) at (at_below n v values at)

-- ---- fewer records lead to contents too ----

leads_split : (r : Register) (xs ys : List (List ℕ)) (c : Register) → Leads r (xs ++ ys) c → (b : Register) × Leads r xs b × Leads b ys c
leads_split r [] ys c h = (r, refl, h)
leads_split r (x ∷ xs) ys c (y, n, h) = let s = leads_split (changed r y) xs ys c h in (s.0, (y, n, s.1), s.2)

-- fewer records lead to contents too
pub led_before : (k m : ℕ) (values : List (List ℕ)) (d : Register) → k ≤ m → LeadTo m values d → (e : Register) × LeadTo k values e
led_before k m values d less h =
    let parts : bodies_of (take m values) ≡ bodies_of (take k values) ++ bodies_of (drop k (take m values)) =
    ap (λ l. bodies_of l) (sym (take-append-drop k (take m values))) ∙ map-append body_in (take k (take m values)) (drop k (take m values)) ∙ ap (λ l. bodies_of l ++ bodies_of (drop k (take m values))) (take-take k m values less) in
    let s = leads_split empty_register (bodies_of (take k values)) (bodies_of (drop k (take m values))) d (subst (λ l. Leads empty_register l d) parts h) in
    (s.0, s.1)

-- ---- a disk that no read fails on ----

quiet_reads : (crashed : _) (armed : Option Fault) → crashed ≡ false → never_falls armed ≡ true → read_fine crashed armed ≡ true
quiet_reads true armed stands_ told = absurd cc
quiet_reads false None stands_ told = refl
quiet_reads false (Some (disk_faults.FailAt k)) stands_ told = refl
quiet_reads false (Some (disk_faults.CrashAt k picture)) stands_ told = refl
quiet_reads false (Some (disk_faults.FailReadAt k)) stands_ told = absurd cc

pub reads_quiet : (p : Plain) → IsQuiet p → (stands p ≡ true) × (reads_fine p ≡ true)
reads_quiet p q = (rw q.stands refl, quiet_reads p.crashed p.armed q.stands q.told)

-- ---- a call that refused, and one that answered ----

-- there is no memory left, whatever was asked
pub one_memory : {S T : Type 0} (fault : RegisterFault) → refusal {T = S} fault ≡ refusal {T = S} faults.NoMemory → refusal {T = T} fault ≡ refusal {T = T} faults.NoMemory
one_memory {S = S} fault is = ap (λ f. refusal f) (one fault faults.NoMemory is)
  where
    one : (e f : RegisterFault) → refusal {T = S} e ≡ refusal {T = S} f → e ≡ f
    one e f same = cc

module _ {T : Type 0} {g : Ghosts MemDisk} (values : List (List ℕ)) (old new : DiskRegister MemDisk g) (answer : Register → Result T RegisterFault) (after : Register → Register) (c : Register) where
  same_fault : (e f : RegisterFault) → refusal {T = T} e ≡ refusal {T = T} f → e ≡ f
  same_fault e f is = cc

  foretold : IsCopyOf values old → Leads empty_register (bodies_of values) c → Foretells old c
  foretold copy leads = copy.foretells c (record { bodies = bodies_of values; journal = journal_is (bodies_of values) copy.fits; leads = leads })

  -- a refusal, with the number of a record in place of an offset
  pub refused_exact : (fault given : RegisterFault) → IsCopyOf values old → Meets old new (Err fault) answer after → Leads empty_register (bodies_of values) c → (IsFree (answer c) → ⊥)
      → (given ≡ fault) ⊎ ((place : ℕ) × (fault ≡ faults.Damaged place)) → (given ≡ faults.NoMemory) ⊎ ((refusal given ≡ answer c) × (after c ≡ c))
  refused_exact fault given copy m leads told same = elim (m.exact c (foretold copy leads)) [
    | inl none ↦ (elim same [
      | inl is ↦ inl (is ∙ same_fault fault faults.NoMemory none.0)
      | inr damaged ↦ absurd (let e = same_fault fault faults.NoMemory none.0 in let d = damaged.1 in let f : faults.Damaged damaged.0 ≡ faults.NoMemory = sym d ∙ e in cc f)
    ])
    | inr by ↦ (elim same [
      | inl is ↦ inr (
        ap (λ f. refusal f) is ∙ by.0,
        (elim m.keeps [
          | inl failed ↦ absurd (told (subst (λ r. IsFree r) (sym failed ∙ by.0) tt))
          | inr k ↦ sym ((k.held c (foretold copy leads).holds).one (after c) by.1.holds.reads)
        ]),
      )
      | inr damaged ↦ absurd (told (subst (λ r. IsFree r) (ap (λ f. refusal f) (sym damaged.1) ∙ by.0) tt))
    ])
  ]

  -- a call that answered left a whole journal, of which no read fails
  pub answered_whole : (given : T) → IsCopyOf values old → Meets old new (Ok given) answer after → Leads empty_register (bodies_of values) c → (p : Plain) × (g.plain (owned new) ≡ Some p) × (reads_fine p ≡ true)
  answered_whole given copy m leads = elim (m.exact c (foretold copy leads)) [
    | inl none ↦ quiet none.1.told none.1.plain_is none.1.quiet
    | inr by ↦ quiet by.1.told by.1.plain_is by.1.quiet
  ]
    where
      quiet : (p : Plain) → g.plain (owned new) ≡ Some p → IsQuiet p → (p : Plain) × (g.plain (owned new) ≡ Some p) × (reads_fine p ≡ true)
      quiet p is q = (p, is, (reads_quiet p q).1)

  -- so that its last record is read, or there is no memory for it
  pub unread_exact : (given : T) (fault : RegisterFault) (at : ℕ) (disk : MemDisk) → IsCopyOf values old → Meets old new (Ok given) answer after → at ≡ length (records (bodies_of values)) → disk ≡ owned new → Leads empty_register (bodies_of values) c
      → ((p : Plain) (front rest : List ℕ) → g.plain disk ≡ Some p → reads_fine p ≡ true → IsParted g.seen disk at front rest → (IsCutShort rest → ⊥) → refusal {T = T} fault ≡ refusal {T = T} faults.NoMemory)
      → fault ≡ faults.NoMemory
  unread_exact given fault at disk copy m place is leads memory =
      let a = ends_of values old new given answer after copy m in
      let w = answered_whole given copy m leads in
      same_fault fault faults.NoMemory (memory w.0 (records (bodies_of values)) a.rest (ap (λ d. g.plain d) is ∙ w.1) w.2
      (subst (λ d. IsParted g.seen d at (records (bodies_of values)) a.rest) (sym is) (parted_at values new a.rest at place a.parted a.some)) a.whole)
