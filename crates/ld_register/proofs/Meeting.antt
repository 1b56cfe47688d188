-- What a whole call makes of its parts: a load where it isn't loaded, and then an answer or a change.
use Rattle.std.proofs.Common.{◌≡◌, ◌≤◌, ◌<◌, ◌+◌, ◌^◌, ◌⊎◌, inl, inr, ℕ, Bool, true, false, List, [], ◌∷◌, ◌++◌, Option, Some, None, Result, Ok, Err, OnErr, length, append_assoc, if◌then◌else◌, refl, ap, sym, ◌∙◌, subst, arith, IsSome, IfSome}
use Rattle.std.specs.Result.{IsErrOf}
use Rattle.ld_io.specs.Causes.{Rose}
use Rattle.ld_disk.specs.Images.{IsHonest}
use Rattle.ld_disk.specs.Moments.{LeavesOnly, Unchanged}
use Rattle.ld_disk.specs.Plain.{Plain, new_disk}
use Rattle.ld_disk.specs.declared.disk.Disk.{Ghosts}
use Rattle.ld_journal.specs.Format.{framed, records, IsJournal}
use Rattle.ld_journal.specs.Open.{IsSettled, disk_of, place_of, has_ended, must_load}
use Rattle.ld_journal.specs.declared.journal.Journal.{Journal}
use Rattle.ld_journal.proofs.Reading.{one_reading, behind_them, not_both, unframe}
use Rattle.ld_msg.specs.Register.{Register, empty_register}
use Rattle.ld_register.specs.declared.fault.RegisterFault.{RegisterFault}
use Rattle.ld_register.specs.declared.fault.RegisterFault.TheVariants as faults
use Rattle.ld_register.specs.declared.disk.DiskRegister.{DiskRegister}
use Rattle.ld_register.specs.declared.change.Change.{Change}
use Rattle.ld_register.specs.declared.register.View.{View}
use Rattle.ld_register.specs.Calls.{IsFree, Keeps, ChangedOrNot, OneOf, with_and_without}
use Rattle.ld_register.specs.Changes.{changed, change_bytes, body_length, Leads, IsNext}
use Rattle.ld_register.specs.Kept.{register_of}
use Rattle.ld_register.specs.Stands.{StandsFor, AddsOneAtMost, IsDamaged, IsForeign}
use Rattle.ld_register.specs.Held.{IsQuiet, owned, is_loaded, Replays, ReadsAs, Holds, Tells, MayHold, LeavesOneOf, Foretells, Loads, IsReady, IsNotReady, Commits, IsMade, IsRefused, IsDue, LeftBy, Meets, granting}
use Rattle.ld_register.proofs.Leading.{leads_one, leads_length, leads_armed}
use Rattle.ld_register.proofs.Committing.{leaves_map, on_err}

-- ---- bytes stand for one thing ----

pub stands_one : (bytes : List ℕ) (c d : Register) → StandsFor bytes c → StandsFor bytes d → c ≡ d
stands_one bytes c d s t = leads_one empty_register s.bodies c d s.leads (subst (λ b. Leads empty_register b d) (one_reading bytes t.bodies s.bodies t.journal s.journal) t.leads)

none_after : (bodies : List (List ℕ)) (bytes rest : List ℕ) → bytes ≡ records [] ++ rest → rest ≡ [] → IsJournal bodies bytes → ⊥
none_after [] bytes rest e n j = let l = ap length (sym j.bytes_are ∙ (e ∙ n)) in absurd (omega arith)
none_after (b ∷ bodies) bytes rest e n j = let l = ap length (sym j.bytes_are ∙ (e ∙ n)) in absurd (omega arith)

pub some_bytes : (o : Option (List ℕ)) → IsSome o → (bytes : List ℕ) × (o ≡ Some bytes)
some_bytes None h = absurd (cc h)
some_bytes (Some b) h = (b, refl)

pub given_of : (o : Option (List ℕ)) (bytes : List ℕ) (P : List ℕ → Type 0) → o ≡ Some bytes → IfSome o P → P bytes
given_of o bytes P e h = subst (λ o. IfSome o P) e h

some_is : (o : Option (List ℕ)) (bytes : List ℕ) → o ≡ Some bytes → IsSome o
some_is None bytes e = absurd cc
some_is (Some b) bytes e = refl

-- a journal whose disk is armed
settled_armed : {D : Type 0} (g : Ghosts D) (old new : Journal D) (bodies : List (List ℕ)) → Unchanged g.seen g.may_leave g.moment g.left_since (disk_of old) (disk_of new) → place_of new ≡ place_of old → has_ended new ≡ has_ended old → must_load new ≡ must_load old
    → IsSettled g.seen g.may_leave old bodies → IsSettled g.seen g.may_leave new bodies
settled_armed g old new bodies same place ended works s = let r = s.rests in record {
  rests = record { gate = r.gate; after = r.after; bytes = same.bytes ∙ r.bytes; shut = r.shut; place_is = place ∙ r.place_is; stable = λ c m. r.stable c (same.crash c m); fits = r.fits };
  ended = ended ∙ s.ended;
  works = works ∙ s.works;
}

module _ {D : Type 0} {g : Ghosts D} where
  pub reads_one : (r : DiskRegister D g) (c d : Register) → ReadsAs r c → ReadsAs r d → c ≡ d
  reads_one r c d h k = stands_one k.bytes c d (subst (λ b. StandsFor b c) (same_bytes (sym h.seen_is ∙ k.seen_is)) h.stands) k.stands
    where
      same_bytes : Some h.bytes ≡ Some k.bytes → h.bytes ≡ k.bytes
      same_bytes is = cc

  pub replays_reads : (r : DiskRegister D g) (c : Register) → Replays r c → ReadsAs r c
  replays_reads r c h = let a = h.settled.rests in record {
    bytes = records h.bodies ++ a.gate ∷ a.after;
    seen_is = a.bytes;
    stands = record { bodies = h.bodies; journal = record { gate = a.gate; after = a.after; bytes_are = refl; shut = a.shut; fits = a.fits }; leads = h.leads };
  }

  pub replays_tells : (r : DiskRegister D g) (c : Register) → Replays r c → Tells r
  replays_tells r c h = record { honest = some_is (g.seen (owned r)) _ h.settled.rests.bytes; loaded = λ l. (c, h) }

  pub holds_tells : (r : DiskRegister D g) (c : Register) → Holds r c → Tells r
  holds_tells r c h = record { honest = some_is (g.seen (owned r)) h.reads.bytes h.reads.seen_is; loaded = λ l. (c, h.loaded l) }

  -- what a crash leaves of a loaded register
  pub image_stands : (r : DiskRegister D g) (c : Register) → Replays r c → (bytes : List ℕ) → g.may_leave (owned r) bytes → StandsFor bytes c
  image_stands r c h bytes m = let a = h.settled.rests in record { bodies = h.bodies; journal = record { gate = a.gate; after = a.after; bytes_are = a.stable bytes m; shut = a.shut; fits = a.fits }; leads = h.leads }

abbrev pub failure : (T : Type 0) → RegisterFault → Result T RegisterFault
failure T e = Err e

pub free_as : (S T : Type 0) (e : RegisterFault) → IsFree (failure S e) → IsFree (failure T e)
free_as S T faults.Failed h = h
free_as S T (faults.Damaged place) h = h
free_as S T faults.LogLimit h = h
free_as S T (faults.Behind lce next) h = h
free_as S T (faults.Overtaken epoch) h = h
free_as S T faults.EpochLimit h = h
free_as S T faults.GenLimit h = h
free_as S T faults.SwapLimit h = h
free_as S T faults.Full h = h
free_as S T faults.NoMemory h = h

same_fault : {T : Type 0} (e f : RegisterFault) → failure T e ≡ failure T f → e ≡ f
same_fault e f is = cc is

err_as : {S T : Type 0} (e f : RegisterFault) → failure T e ≡ failure T f → failure S e ≡ failure S f
err_as e f is = ap (λ e. Err e) (same_fault e f is)

leads_split : (r : Register) (some more : List (List ℕ)) (c : Register) → Leads r (some ++ more) c → (m : Register) × Leads r some m × Leads m more c
leads_split r [] more c h = (r, refl, h)
leads_split r (b ∷ some) more c h = let t = leads_split (changed r h.0) some more c h.2 in (t.0, (h.0, h.1, t.1), t.2)

abbrev first : List ℕ → ℕ
first [] = 0
first (x ∷ xs) = x

foreign_more : (more : List (List ℕ)) (m c : Register) (rest : List ℕ) → IsForeign m rest → IsJournal more rest → Leads m more c → ⊥
foreign_more [] m c rest f j l = j.shut (ap first (sym j.bytes_are ∙ f.rest_is))
foreign_more (q ∷ more) m c rest f j l =
    let u = unframe q f.body (records more ++ j.gate ∷ j.after) f.after (j.fits 0 [] (omega arith)) f.fits (sym (append_assoc (framed q) (records more) (j.gate ∷ j.after)) ∙ (sym j.bytes_are ∙ f.rest_is)) in
    f.none l.0 (subst (λ b. IsNext m b l.0) u.0 l.1)

not_foreign : (place : ℕ) (bytes : List ℕ) (c : Register) (s : StandsFor bytes c) (d : IsDamaged place bytes) → IsForeign d.contents d.rest → ⊥
not_foreign place bytes c s d f =
    let b = behind_them d.bodies s.bodies bytes d.rest d.fits d.bytes_are s.journal in
    let t = leads_split empty_register d.bodies b.more c (subst (λ l. Leads empty_register l c) b.all_are s.leads) in
    foreign_more b.more d.contents c d.rest f b.journal (subst (λ m. Leads m b.more c) (leads_one empty_register d.bodies t.0 d.contents t.1 d.leads) t.2)

pub not_damaged : (place : ℕ) (bytes : List ℕ) (c : Register) → StandsFor bytes c → IsDamaged place bytes → ⊥
not_damaged place bytes c s d = elim d.wrong [
  | inl cut ↦ not_both place bytes s.bodies s.journal (record { bodies = d.bodies; rest = d.rest; bytes_are = d.bytes_are; place_is = d.place_is; fits = d.fits; cut = inl cut })
  | inr (inl foreign) ↦ not_foreign place bytes c s d foreign
  | inr (inr none) ↦ not_both place bytes s.bodies s.journal (record { bodies = d.bodies; rest = d.rest; bytes_are = d.bytes_are; place_is = d.place_is; fits = d.fits; cut = inr none })
]

rose_from : (a b c : ℕ) → a ≤ b → Rose b c → Rose a c
rose_from a b c h r = omega arith

is_broken : (o : Option (List ℕ)) (bytes : List ℕ) (place : ℕ) → o ≡ Some bytes → IfSome o (IsDamaged place) → IsDamaged place bytes
is_broken o bytes place e h = subst (λ o. IfSome o (IsDamaged place)) e h

not_true : (b : Bool) → b ≡ true → b ≡ false → ⊥
not_true b h k = let e = sym h ∙ k in absurd cc

leaves_both : {D : Type 0} (moment : D → ℕ) (left_since : D → ℕ → List ℕ → Type 0) (old mid new : D) (P Q R : List ℕ → Type 0) → ((c : List ℕ) → P c → R c) → ((c : List ℕ) → Q c → R c)
    → LeavesOnly moment left_since old mid P → LeavesOnly moment left_since mid new Q → LeavesOnly moment left_since old new R
leaves_both moment left_since old mid new P Q R p q h k = record {
  later = let a = h.later in let b = k.later in omega arith;
  each = λ c l. elim (k.before (moment old) c h.later l) [ inl a ↦ p c (h.each c a) | inr b ↦ q c b ];
  before = λ t c le l. elim (k.before t c (let a = h.later in omega arith) l) [ inl a ↦ elim (h.before t c le a) [ inl x ↦ inl x | inr y ↦ inr (p c y) ] | inr b ↦ inr (q c b) ];
}

-- ---- one of some contents ----

one_as : (P Q : Register → Type 0) → ((c : Register) → P c → Q c) → (cs : List Register) → OneOf P cs → OneOf Q cs
one_as P Q f [] h = absurd h
one_as P Q f (c ∷ cs) h = elim h [ inl p ↦ inl (f c p) | inr more ↦ inr (one_as P Q f cs more) ]

one_with : (P : Register → Type 0) (after : Register → Register) (cs : List Register) → OneOf (λ c. P c ⊎ P (after c)) cs → OneOf P (with_and_without after cs)
one_with P after [] h = absurd h
one_with P after (c ∷ cs) h = elim h [ inl (inl p) ↦ inl p | inl (inr p) ↦ inr (inl p) | inr more ↦ inr (inr (one_with P after cs more)) ]

one_without : (P : Register → Type 0) (cs : List Register) → OneOf P (with_and_without (λ c. c) cs) → OneOf P cs
one_without P [] h = absurd h
one_without P (c ∷ cs) h = elim h [ inl p ↦ inl p | inr (inl p) ↦ inl p | inr (inr more) ↦ inr (one_without P cs more) ]

one_changed : (b : Bool) (P : Register → Type 0) (after : Register → Register) (cs : List Register) → OneOf P (with_and_without (λ c. if b then after c else c) cs) → OneOf P (with_and_without after cs)
one_changed true P after cs h = h
one_changed false P after [] h = absurd h
one_changed false P after (c ∷ cs) h = elim h [ inl p ↦ inl p | inr (inl p) ↦ inl p | inr (inr more) ↦ inr (inr (one_changed false P after cs more)) ]

module _ {D : Type 0} {g : Ghosts D} where
  pub replays_holds : (r : DiskRegister D g) (c : Register) → Replays r c → Holds r c
  replays_holds r c h = let a = replays_reads r c h in record {
    reads = a;
    one = λ d k. reads_one r c d a k;
    whole = λ place b. not_damaged place a.bytes c a.stands (is_broken (g.seen (owned r)) a.bytes place a.seen_is b);
    loaded = λ l. h;
  }

  foretells_by : (r : DiskRegister D g) (c : Register) → Replays r c → (q : Plain) → g.plain (owned r) ≡ Some q → IsQuiet q → Foretells r c
  foretells_by r c h q is quiet = record { holds = replays_holds r c h; unarmed = leads_armed empty_register h.bodies c h.leads; told = q; plain_is = is; quiet = quiet }

  image_from : (counts : (disk : D) (t : ℕ) (c : List ℕ) → t ≤ g.moment disk → g.may_leave disk c → g.left_since disk t c) (old new : DiskRegister D g) (P : List ℕ → Type 0) → LeavesOnly g.moment g.left_since (owned old) (owned new) P
      → (bytes : List ℕ) → g.may_leave (owned new) bytes → P bytes
  image_from counts old new P h bytes m = h.each bytes (counts (owned new) (g.moment (owned old)) bytes h.later m)

  settles_by : (new : DiskRegister D g) (w : Register) → Replays new w → (c : Register) → MayHold new c → Holds new c
  settles_by new w h c m = subst (Holds new) (stands_one m.0 w c (image_stands new w h m.0 m.1) m.2) (replays_holds new w h)

  holds_told : (r : DiskRegister D g) (c : Register) → Tells r → ReadsAs r c → Holds r c
  holds_told r c t a = record {
    reads = a;
    one = λ d k. reads_one r c d a k;
    whole = λ place b. not_damaged place a.bytes c a.stands (is_broken (g.seen (owned r)) a.bytes place a.seen_is b);
    loaded = λ l. let w = t.loaded l in subst (Replays r) (reads_one r w.0 c (replays_reads r w.0 w.1) a) w.1;
  }

  pub leaves_by : (image : (disk : D) (bytes : List ℕ) → g.seen disk ≡ Some bytes → g.may_leave disk bytes) (r : DiskRegister D g) (cs : List Register) → ((bytes : List ℕ) → g.may_leave (owned r) bytes → OneOf (StandsFor bytes) cs) → LeavesOneOf r cs
  leaves_by image r cs each = record {
    each = each;
    held = λ t. let b = some_bytes (g.seen (owned r)) t.honest in one_as (StandsFor b.0) (Holds r) (λ c s. holds_told r c t (record { bytes = b.0; seen_is = b.1; stands = s })) cs (each b.0 (image (owned r) b.0 b.1));
    alone = λ c m. one_as (StandsFor m.0) (λ d. d ≡ c) (λ d s. stands_one m.0 d c s m.2) cs (each m.0 m.1);
  }

  sure_by : (image : (disk : D) (bytes : List ℕ) → g.seen disk ≡ Some bytes → g.may_leave disk bytes) (new : DiskRegister D g) (w : Register) → Replays new w → (c : Register) × Holds new c × LeavesOneOf new (c ∷ [])
  sure_by image new w h = (w, replays_holds new w h, leaves_by image new (w ∷ []) (λ bytes m. inl (image_stands new w h bytes m)))

  survives_by : (counts : (disk : D) (t : ℕ) (c : List ℕ) → t ≤ g.moment disk → g.may_leave disk c → g.left_since disk t c) (image : (disk : D) (bytes : List ℕ) → g.seen disk ≡ Some bytes → g.may_leave disk bytes) (old new : DiskRegister D g) (after : Register → Register)
      → LeavesOnly g.moment g.left_since (owned old) (owned new) (LeftBy old after) → (cs : List Register) → LeavesOneOf old cs → LeavesOneOf new (with_and_without after cs)
  survives_by counts image old new after h cs l = leaves_by image new (with_and_without after cs) (λ bytes m. one_with (StandsFor bytes) after cs (elim (image_from counts old new (LeftBy old after) h bytes m) [
    | inl b ↦ one_as (StandsFor bytes) (λ c. StandsFor bytes c ⊎ StandsFor bytes (after c)) (λ c s. inl s) cs (l.each bytes b)
    | inr w ↦ let r = w.1.reads in one_as (StandsFor r.bytes) (λ c. StandsFor bytes c ⊎ StandsFor bytes (after c)) (λ c s. subst (λ d. StandsFor bytes d ⊎ StandsFor bytes (after d)) (stands_one r.bytes w.0 c r.stands s) w.2) cs
        (l.each r.bytes (image (owned old) r.bytes r.seen_is))
  ]))

  -- the bytes are as they were
  records_same : (old new : DiskRegister D g) → g.seen (owned new) ≡ g.seen (owned old) → AddsOneAtMost (g.seen (owned old)) (g.seen (owned new))
  records_same old new same bodies r = inl (record { bytes = r.bytes; seen_is = same ∙ r.seen_is; journal = r.journal })

  done_by : (counts : (disk : D) (t : ℕ) (c : List ℕ) → t ≤ g.moment disk → g.may_leave disk c → g.left_since disk t c) (image : (disk : D) (bytes : List ℕ) → g.seen disk ≡ Some bytes → g.may_leave disk bytes) (old new : DiskRegister D g) (after : Register → Register)
      → LeavesOnly g.moment g.left_since (owned old) (owned new) (LeftBy old after) → ChangedOrNot (MayHold old) (MayHold new) after
  done_by counts image old new after h c m = elim (image_from counts old new (LeftBy old after) h m.0 m.1) [
    | inl b ↦ (c, (m.0, b, m.2), inl refl)
    | inr w ↦ (w.0, (w.1.reads.bytes, image (owned old) w.1.reads.bytes w.1.reads.seen_is, w.1.reads.stands), elim w.2 [ inl s ↦ inl (stands_one m.0 c w.0 m.2 s) | inr s ↦ inr (stands_one m.0 c (after w.0) m.2 s) ])
  ]

  -- a load was refused
  unready_keeps : {T : Type 0} (counts : (disk : D) (t : ℕ) (c : List ℕ) → t ≤ g.moment disk → g.may_leave disk c → g.left_since disk t c) (old new : DiskRegister D g) (e : RegisterFault) (r : Result T RegisterFault) → r ≡ failure T e
      → Loads old new (failure (Unit {0}) e) → IsNotReady old new (failure (Unit {0}) e) → IsErrOf r faults.Failed ⊎ OnErr r (Keeps (Holds old) (Holds new) (MayHold old) (MayHold new))
  unready_keeps counts old new e r is l n = elim n.stays [
    | inl f ↦ inl (is ∙ err_as e faults.Failed f)
    | inr (inl same) ↦ inr (on_err r _ (record {
      held = λ c h. record { reads = record { bytes = h.reads.bytes; seen_is = same ∙ h.reads.seen_is; stands = h.reads.stands }; one = λ d k. h.one d (record { bytes = k.bytes; seen_is = sym same ∙ k.seen_is; stands = k.stands }); whole = λ place b. h.whole place (subst (λ o. IfSome o (IsDamaged place)) same b); loaded = λ t. absurd (not_true (is_loaded new) t n.unloaded) };
      may = λ c m. (m.0, image_from counts old new _ l.moments m.0 m.1, m.2);
    }))
    | inr (inr none) ↦ inr (on_err r _ (record {
      held = λ c h. absurd (none c h.reads);
      may = λ c m. (m.0, image_from counts old new _ l.moments m.0 m.1, m.2);
    }))
  ]

  unready_exact : {T : Type 0} (old new : DiskRegister D g) (e : RegisterFault) (r : Result T RegisterFault) → r ≡ failure T e → Loads old new (failure (Unit {0}) e) → IsNotReady old new (failure (Unit {0}) e)
      → IsFree (failure T e) → IsErrOf r faults.Failed ⊎ OnErr r (Keeps (Holds old) (Holds new) (MayHold old) (MayHold new)) → (c : Register) → Foretells old c → IsErrOf r faults.NoMemory × Foretells new c
  unready_exact old new faults.Failed r is l n free keeps c f = absurd (l.steady f.told f.plain_is f.quiet refl)
  unready_exact old new (faults.Damaged place) r is l n free keeps c f = absurd (f.holds.whole place (n.damaged place refl))
  unready_exact old new faults.LogLimit r is l n free keeps c f = absurd free
  unready_exact old new (faults.Behind lce next) r is l n free keeps c f = absurd free
  unready_exact old new (faults.Overtaken epoch) r is l n free keeps c f = absurd free
  unready_exact old new faults.EpochLimit r is l n free keeps c f = absurd free
  unready_exact old new faults.GenLimit r is l n free keeps c f = absurd free
  unready_exact old new faults.SwapLimit r is l n free keeps c f = absurd free
  unready_exact old new faults.Full r is l n free keeps c f = absurd free
  unready_exact {T = T} old new faults.NoMemory r is l n free keeps c f =
      let q = l.quiet f.told f.plain_is f.quiet in
      (is, record { holds = (kept_of r is keeps).held c f.holds; unarmed = f.unarmed; told = q.0; plain_is = q.1; quiet = q.2 })
    where
      not_failed : failure T faults.NoMemory ≡ failure T faults.Failed → ⊥
      not_failed h = absurd (cc h)

      kept_of : (r : Result T RegisterFault) → r ≡ failure T faults.NoMemory → IsErrOf r faults.Failed ⊎ OnErr r (Keeps (Holds old) (Holds new) (MayHold old) (MayHold new)) → Keeps (Holds old) (Holds new) (MayHold old) (MayHold new)
      kept_of r is (inl h) = absurd (not_failed (sym is ∙ h))
      kept_of r is (inr k) = subst (λ r. OnErr r (Keeps (Holds old) (Holds new) (MayHold old) (MayHold new))) is k

  pub meets_unready : {T : Type 0} (counts : (disk : D) (t : ℕ) (c : List ℕ) → t ≤ g.moment disk → g.may_leave disk c → g.left_since disk t c) (image : (disk : D) (bytes : List ℕ) → g.seen disk ≡ Some bytes → g.may_leave disk bytes) (old new : DiskRegister D g) (e : RegisterFault) (r : Result T RegisterFault) (answer : Register → Result T RegisterFault) (after : Register → Register)
      → r ≡ failure T e → Loads old new (failure (Unit {0}) e) → IsNotReady old new (failure (Unit {0}) e) → Meets old new r answer after
  meets_unready {T = T} counts image old new e r answer after is l n =
      let free : IsFree r = subst IsFree (sym is) (free_as (Unit {0}) T e n.free.1) in
      let keeps = unready_keeps counts old new e r is l n in
      let moments : Tells old → LeavesOnly g.moment g.left_since (owned old) (owned new) (LeftBy old after) = λ t. leaves_map g.moment g.left_since (owned old) (owned new) _ (LeftBy old after) (λ c m. inl m) l.moments in
      record {
        answers = λ c h. inl free;
        told = λ t. record { honest = l.honest t.honest; loaded = λ y. absurd (not_true (is_loaded new) y n.unloaded) };
        whole = λ t. inl free;
        sure = λ t. inl free;
        moments = moments;
        settles = λ t. inl free;
        done_or_not = λ t. done_by counts image old new after (moments t);
        survives = λ t cs h. survives_by counts image old new after (moments t) cs h;
        records = λ c h. elim n.stays [
          | inl f ↦ inl (is ∙ err_as e faults.Failed f)
          | inr (inl same) ↦ inr (records_same old new same)
          | inr (inr none) ↦ absurd (none c h.reads)
        ];
        keeps = keeps;
        exact = λ c f. inl (unready_exact old new e r is l n (free_as (Unit {0}) T e n.free.1) keeps c f);
        failed = λ f. n.failed (err_as e faults.Failed (sym is ∙ f));
        damaged = λ place f. n.damaged place (err_as e (faults.Damaged place) (sym is ∙ f));
        counts = l.counts;
      }

  held_replays : (old mid : DiskRegister D g) → IsReady old mid → (c : Register) → Holds old c → Replays mid c
  held_replays old mid y c h = let w = y.whole (holds_tells old c h) in subst (Replays mid) (reads_one old w.0 c w.2.reads h.reads) w.1

  -- it is loaded, and the answer changes nothing
  pub meets_answered : {T : Type 0} (counts : (disk : D) (t : ℕ) (c : List ℕ) → t ≤ g.moment disk → g.may_leave disk c → g.left_since disk t c) (image : (disk : D) (bytes : List ℕ) → g.seen disk ≡ Some bytes → g.may_leave disk bytes) (old mid : DiskRegister D g) (done : Result (Unit {0}) RegisterFault) (r : Result T RegisterFault) (answer : Register → Result T RegisterFault) (after : Register → Register)
      → Loads old mid done → IsReady old mid → (IsErrOf r faults.Failed → ⊥) → ((place : ℕ) → IsErrOf r (faults.Damaged place) → ⊥)
      → ((c : Register) → Replays mid c → (r ≡ answer c) × (after c ≡ c)) → Meets old mid r answer after
  meets_answered counts image old mid done r answer after l y steady whole says =
      let moments : Tells old → LeavesOnly g.moment g.left_since (owned old) (owned mid) (LeftBy old after) = λ t. leaves_map g.moment g.left_since (owned old) (owned mid) _ (LeftBy old after) (λ c m. inl m) l.moments in record {
        answers = λ c h. let m = held_replays old mid y c h in let s = says c m in inr (s.0, subst (Holds mid) (sym s.1) (replays_holds mid c m));
        told = λ t. let w = y.whole t in replays_tells mid w.0 w.1;
        whole = λ t. let w = y.whole t in inr (w.0, w.2);
        sure = λ t. let w = y.whole t in inr (sure_by image mid w.0 w.1);
        moments = moments;
        settles = λ t. let w = y.whole t in inr (λ c m. settles_by mid w.0 w.1 c m);
        done_or_not = λ t. done_by counts image old mid after (moments t);
        survives = λ t cs h. survives_by counts image old mid after (moments t) cs h;
        records = λ c h. inr (records_same old mid (y.same (holds_tells old c h)));
        keeps = inr (on_err r _ (record { held = λ c h. replays_holds mid c (held_replays old mid y c h); may = λ c m. (m.0, image_from counts old mid _ l.moments m.0 m.1, m.2) }));
        exact = λ c f. let m = held_replays old mid y c f.holds in let s = says c m in let q = l.quiet f.told f.plain_is f.quiet in
            inr (s.0, subst (Foretells mid) (sym s.1) (foretells_by mid c m q.0 q.1 q.2));
        failed = λ f. absurd (steady f);
        damaged = λ place f. absurd (whole place f);
        counts = l.counts;
      }

  -- the change was made
  pub meets_made : {T : Type 0} (counts : (disk : D) (t : ℕ) (c : List ℕ) → t ≤ g.moment disk → g.may_leave disk c → g.left_since disk t c) (image : (disk : D) (bytes : List ℕ) → g.seen disk ≡ Some bytes → g.may_leave disk bytes) (old mid new : DiskRegister D g) (x : Change) (done made : Result (Unit {0}) RegisterFault) (r : Result T RegisterFault) (answer : Register → Result T RegisterFault) (after : Register → Register)
      → Loads old mid done → IsReady old mid → Commits mid new x made → IsMade mid new x → (IsErrOf r faults.Failed → ⊥) → ((place : ℕ) → IsErrOf r (faults.Damaged place) → ⊥) → ((A : Type 0) → OnErr r A)
      → ((c : Register) → Replays mid c → place_of mid.journal + body_length x + 6 ≤ 2 ^ 40 → (r ≡ answer c) × (after c ≡ changed c x)) → Meets old new r answer after
  meets_made counts image old mid new x done made r answer after l y k a steady whole ok says =
      let moments : Tells old → LeavesOnly g.moment g.left_since (owned old) (owned new) (LeftBy old after) = λ t. let w = y.whole t in let s = says w.0 w.1 a.fits in leaves_both g.moment g.left_since (owned old) (owned mid) (owned new) _ _ (LeftBy old after) (λ c m. inl m)
      (λ c m. inr (w.0, w.2, elim m [ inl b ↦ inl b | inr b ↦ inr (subst (StandsFor c) (sym s.1) b) ])) l.moments (k.moments w.0 w.1) in record {
        answers = λ c h. let m = held_replays old mid y c h in let s = says c m a.fits in inr (s.0, subst (Holds new) (sym s.1) (replays_holds new _ (a.replays c m)));
        told = λ t. let w = y.whole t in replays_tells new _ (a.replays w.0 w.1);
        whole = λ t. let w = y.whole t in inr (w.0, w.2);
        sure = λ t. let w = y.whole t in inr (sure_by image new (changed w.0 x) (a.replays w.0 w.1));
        moments = moments;
        settles = λ t. let w = y.whole t in inr (λ c m. settles_by new _ (a.replays w.0 w.1) c m);
        done_or_not = λ t. done_by counts image old new after (moments t);
        survives = λ t cs h. survives_by counts image old new after (moments t) cs h;
        records = λ c h. let t = y.same (holds_tells old c h) in inr (λ bodies b. inr (change_bytes x, a.adds c bodies (held_replays old mid y c h) (record { bytes = b.bytes; seen_is = t ∙ b.seen_is; journal = b.journal })));
        keeps = inr (ok _);
        exact = λ c f. let m = held_replays old mid y c f.holds in let s = says c m a.fits in let q = l.quiet f.told f.plain_is f.quiet in let p = k.quiet q.0 q.1 q.2 in
            inr (s.0, subst (Foretells new) (sym s.1) (foretells_by new _ (a.replays c m) p.0 p.1 p.2));
        failed = λ f. absurd (steady f);
        damaged = λ place f. absurd (whole place f);
        counts = let b = l.counts in let c = k.counts in omega arith;
      }

  -- the change failed, done or not
  refused_failed : {T : Type 0} (counts : (disk : D) (t : ℕ) (c : List ℕ) → t ≤ g.moment disk → g.may_leave disk c → g.left_since disk t c) (image : (disk : D) (bytes : List ℕ) → g.seen disk ≡ Some bytes → g.may_leave disk bytes) (old mid new : DiskRegister D g) (x : Change) (done : Result (Unit {0}) RegisterFault) (r : Result T RegisterFault) (answer : Register → Result T RegisterFault) (after : Register → Register)
      → r ≡ failure T faults.Failed → Loads old mid done → IsReady old mid → Commits mid new x (failure (Unit {0}) faults.Failed) → is_loaded new ≡ false → Rose (g.faults (owned mid)) (g.faults (owned new)) → place_of mid.journal + body_length x + 6 ≤ 2 ^ 40
      → ((c : Register) → Replays mid c → place_of mid.journal + body_length x + 6 ≤ 2 ^ 40 → after c ≡ changed c x) → Meets old new r answer after
  refused_failed {T = T} counts image old mid new x done r answer after is l y k unloaded rose fit says = let free : IsFree r = subst IsFree (sym is) tt in
      let moments : Tells old → LeavesOnly g.moment g.left_since (owned old) (owned new) (LeftBy old after) = λ t. let w = y.whole t in leaves_both g.moment g.left_since (owned old) (owned mid) (owned new) _ _ (LeftBy old after) (λ c m. inl m)
      (λ c m. inr (w.0, w.2, elim m [ inl b ↦ inl b | inr b ↦ inr (subst (StandsFor c) (sym (says w.0 w.1 fit)) b) ])) l.moments (k.moments w.0 w.1) in record {
        answers = λ c h. inl free;
        told = λ t. record { honest = k.honest (l.honest t.honest); loaded = λ b. absurd (not_true (is_loaded new) b unloaded) };
        whole = λ t. inl free;
        sure = λ t. inl free;
        moments = moments;
        settles = λ t. inl free;
        done_or_not = λ t. done_by counts image old new after (moments t);
        survives = λ t cs h. survives_by counts image old new after (moments t) cs h;
        records = λ c h. inl is;
        keeps = inl is;
        exact = λ c f. let q = l.quiet f.told f.plain_is f.quiet in absurd (k.steady q.0 q.1 q.2 refl);
        failed = λ f. rose_from (g.faults (owned old)) (g.faults (owned mid)) (g.faults (owned new)) l.counts rose;
        damaged = λ place f. absurd (let e = same_fault faults.Failed (faults.Damaged place) (sym is ∙ f) in cc e);
        counts = let b = l.counts in let c = k.counts in omega arith;
      }

  -- it is as it was
  refused_kept : {T : Type 0} (counts : (disk : D) (t : ℕ) (c : List ℕ) → t ≤ g.moment disk → g.may_leave disk c → g.left_since disk t c) (image : (disk : D) (bytes : List ℕ) → g.seen disk ≡ Some bytes → g.may_leave disk bytes) (old mid new : DiskRegister D g) (x : Change) (done made : Result (Unit {0}) RegisterFault) (e : RegisterFault) (r : Result T RegisterFault) (answer : Register → Result T RegisterFault) (after : Register → Register)
      → r ≡ failure T e → Loads old mid done → IsReady old mid → Commits mid new x made → (e ≡ faults.NoMemory) ⊎ ((e ≡ faults.Full) × ((c : Register) → Replays mid c → (failure T faults.Full ≡ answer c) × (after c ≡ c)))
      → ((c : Register) → Replays mid c → Replays new c) → LeavesOnly g.moment g.left_since (owned mid) (owned new) (g.may_leave (owned mid)) → g.seen (owned new) ≡ g.seen (owned mid) → Meets old new r answer after
  refused_kept {T = T} counts image old mid new x done made e r answer after is l y k which stays leaves same =
      let images : (bytes : List ℕ) → g.may_leave (owned mid) bytes → g.may_leave (owned old) bytes = λ bytes m. image_from counts old mid _ l.moments bytes m in
      let moments : Tells old → LeavesOnly g.moment g.left_since (owned old) (owned new) (LeftBy old after) = λ t. leaves_both g.moment g.left_since (owned old) (owned mid) (owned new) _ _ (LeftBy old after) (λ c m. inl m) (λ c m. inl (images c m)) l.moments leaves in
      record {
        answers = λ c h. let m = held_replays old mid y c h in elim which [
          | inl n ↦ inl (subst IsFree (sym (is ∙ ap (λ e. failure T e) n)) tt)
          | inr f ↦ let s = f.1 c m in inr ((is ∙ ap (λ e. failure T e) f.0) ∙ s.0, subst (Holds new) (sym s.1) (replays_holds new c (stays c m)))
        ];
        told = λ t. let w = y.whole t in replays_tells new w.0 (stays w.0 w.1);
        whole = λ t. let w = y.whole t in inr (w.0, w.2);
        sure = λ t. let w = y.whole t in inr (sure_by image new w.0 (stays w.0 w.1));
        moments = moments;
        settles = λ t. let w = y.whole t in inr (λ c m. settles_by new w.0 (stays w.0 w.1) c m);
        done_or_not = λ t. done_by counts image old new after (moments t);
        survives = λ t cs h. survives_by counts image old new after (moments t) cs h;
        records = λ c h. inr (records_same old new (same ∙ y.same (holds_tells old c h)));
        keeps = inr (on_err r _ (record { held = λ c h. replays_holds new c (stays c (held_replays old mid y c h)); may = λ c m. (m.0, images m.0 (image_from counts mid new _ leaves m.0 m.1), m.2) }));
        exact = λ c f. let m = held_replays old mid y c f.holds in let q = l.quiet f.told f.plain_is f.quiet in let p = k.quiet q.0 q.1 q.2 in elim which [
          | inl n ↦ inl (is ∙ ap (λ e. failure T e) n, foretells_by new c (stays c m) p.0 p.1 p.2)
          | inr f ↦ let s = f.1 c m in inr ((is ∙ ap (λ e. failure T e) f.0) ∙ s.0, subst (Foretells new) (sym s.1) (foretells_by new c (stays c m) p.0 p.1 p.2))
        ];
        failed = λ f. absurd (never which (same_fault e faults.Failed (sym is ∙ f)));
        damaged = λ place f. absurd (nowhere place which (same_fault e (faults.Damaged place) (sym is ∙ f)));
        counts = let b = l.counts in let c = k.counts in omega arith;
      }
    where
      never : {A : Type 0} → (e ≡ faults.NoMemory) ⊎ ((e ≡ faults.Full) × A) → e ≡ faults.Failed → ⊥
      never (inl n) f = absurd (let h = sym n ∙ f in cc h)
      never (inr n) f = absurd (let h = sym n.0 ∙ f in cc h)

      nowhere : {A : Type 0} (place : ℕ) → (e ≡ faults.NoMemory) ⊎ ((e ≡ faults.Full) × A) → e ≡ faults.Damaged place → ⊥
      nowhere place (inl n) f = absurd (let h = sym n ∙ f in cc h)
      nowhere place (inr n) f = absurd (let h = sym n.0 ∙ f in cc h)

  pub meets_refused : {T : Type 0} (counts : (disk : D) (t : ℕ) (c : List ℕ) → t ≤ g.moment disk → g.may_leave disk c → g.left_since disk t c) (image : (disk : D) (bytes : List ℕ) → g.seen disk ≡ Some bytes → g.may_leave disk bytes) (old mid new : DiskRegister D g) (x : Change) (done : Result (Unit {0}) RegisterFault) (e : RegisterFault) (r : Result T RegisterFault) (answer : Register → Result T RegisterFault) (after : Register → Register)
      → r ≡ failure T e → Loads old mid done → IsReady old mid → Commits mid new x (failure (Unit {0}) e) → IsRefused mid new x (failure (Unit {0}) e)
      → ((c : Register) → Replays mid c → 2 ^ 40 < place_of mid.journal + body_length x + 6 → (failure T faults.Full ≡ answer c) × (after c ≡ c))
      → ((c : Register) → Replays mid c → place_of mid.journal + body_length x + 6 ≤ 2 ^ 40 → after c ≡ changed c x) → Meets old new r answer after
  meets_refused {T = T} counts image old mid new x done e r answer after is l y k n full fits = elim n.cause [
    | inl f ↦ refused_failed counts image old mid new x done r answer after (is ∙ err_as e faults.Failed f.0) l y (subst (λ m. Commits mid new x m) f.0 k) f.1 f.2 f.3 fits
    | inr s ↦ refused_kept counts image old mid new x done (failure (Unit {0}) e) e r answer after is l y k (elim s.0 [
      | inl m ↦ inl (same_fault e faults.NoMemory m)
      | inr m ↦ inr (same_fault e faults.Full m.0, (λ c h. full c h m.1))
    ]) s.2 s.3 s.4
  ]

  pub holds_unloaded : (r : DiskRegister D g) (c : Register) → ReadsAs r c → is_loaded r ≡ false → Holds r c
  holds_unloaded r c a l = record {
    reads = a;
    one = λ d k. reads_one r c d a k;
    whole = λ place b. not_damaged place a.bytes c a.stands (is_broken (g.seen (owned r)) a.bytes place a.seen_is b);
    loaded = λ t. absurd (not_true (is_loaded r) t l);
  }

  pub tells_unloaded : (r : DiskRegister D g) → IsHonest (g.seen (owned r)) → is_loaded r ≡ false → Tells r
  tells_unloaded r h l = record { honest = h; loaded = λ t. absurd (not_true (is_loaded r) t l) }

  pub foretells_unloaded : (r : DiskRegister D g) (c : Register) (p : Plain) → ReadsAs r c → is_loaded r ≡ false → g.plain (owned r) ≡ Some p → IsQuiet p → Foretells r c
  foretells_unloaded r c p a l is quiet = record { holds = holds_unloaded r c a l; unarmed = leads_armed empty_register a.stands.bodies c a.stands.leads; told = p; plain_is = is; quiet = quiet }

  -- ---- a fault of the disk is armed ----

  replays_armed : (old new : DiskRegister D g) → Unchanged g.seen g.may_leave g.moment g.left_since (owned old) (owned new) → place_of new.journal ≡ place_of old.journal → has_ended new.journal ≡ has_ended old.journal → must_load new.journal ≡ must_load old.journal
      → new.contents ≡ old.contents → (c : Register) → Replays old c → Replays new c
  replays_armed old new same place ended works contents c h = record {
    bodies = h.bodies;
    settled = settled_armed g old.journal new.journal h.bodies same place ended works h.settled;
    leads = h.leads;
    kept = ap (λ k. register_of k c.length) contents ∙ h.kept;
  }

  pub holds_armed : (old new : DiskRegister D g) → Unchanged g.seen g.may_leave g.moment g.left_since (owned old) (owned new) → place_of new.journal ≡ place_of old.journal → has_ended new.journal ≡ has_ended old.journal → must_load new.journal ≡ must_load old.journal
      → new.contents ≡ old.contents → is_loaded new ≡ is_loaded old → (c : Register) → Holds old c → Holds new c
  holds_armed old new same place ended works contents loaded c h =
      let a : ReadsAs new c = record { bytes = h.reads.bytes; seen_is = same.bytes ∙ h.reads.seen_is; stands = h.reads.stands } in record {
        reads = a;
        one = λ d k. reads_one new c d a k;
        whole = λ at b. not_damaged at a.bytes c a.stands (is_broken (g.seen (owned new)) a.bytes at a.seen_is b);
        loaded = λ l. replays_armed old new same place ended works contents c (h.loaded (sym loaded ∙ l));
      }

  pub tells_armed : (old new : DiskRegister D g) → Unchanged g.seen g.may_leave g.moment g.left_since (owned old) (owned new) → place_of new.journal ≡ place_of old.journal → has_ended new.journal ≡ has_ended old.journal → must_load new.journal ≡ must_load old.journal
      → new.contents ≡ old.contents → is_loaded new ≡ is_loaded old → Tells old → Tells new
  tells_armed old new same place ended works contents loaded t = record {
    honest = subst IsHonest (sym same.bytes) t.honest;
    loaded = λ l. let w = t.loaded (sym loaded ∙ l) in (w.0, replays_armed old new same place ended works contents w.0 w.1);
  }

  pub leaves_armed : (image : (disk : D) (bytes : List ℕ) → g.seen disk ≡ Some bytes → g.may_leave disk bytes) (old new : DiskRegister D g) → Unchanged g.seen g.may_leave g.moment g.left_since (owned old) (owned new) → (cs : List Register) → LeavesOneOf old cs → LeavesOneOf new cs
  leaves_armed image old new same cs l = leaves_by image new cs (λ bytes m. l.each bytes (same.crash bytes m))

  leaves_as : (r : DiskRegister D g) (cs ds : List Register) → ((P : Register → Type 0) → OneOf P cs → OneOf P ds) → LeavesOneOf r cs → LeavesOneOf r ds
  leaves_as r cs ds f l = record { each = λ bytes m. f (StandsFor bytes) (l.each bytes m); held = λ t. f (Holds r) (l.held t); alone = λ c m. f (λ d. d ≡ c) (l.alone c m) }

  -- where a call changes nothing, and where it may not have been made
  pub leaves_looked : (new : DiskRegister D g) (cs : List Register) → LeavesOneOf new (with_and_without (λ c. c) cs) → LeavesOneOf new cs
  leaves_looked new cs l = leaves_as new _ cs (λ P h. one_without P cs h) l

  pub leaves_changed : (b : Bool) (new : DiskRegister D g) (after : Register → Register) (cs : List Register) → LeavesOneOf new (with_and_without (λ c. if b then after c else c) cs) → LeavesOneOf new (with_and_without after cs)
  leaves_changed b new after cs l = leaves_as new _ _ (λ P h. one_changed b P after cs h) l

  pub replays_length : (r : DiskRegister D g) (c : Register) → Replays r c → c.length ≡ place_of r.journal + 1
  replays_length r c h = let a = leads_length empty_register h.bodies c h.leads in let b = h.settled.rests.place_is in omega arith

  pub hold_on : (old mid : DiskRegister D g) (c : Register) → IsReady old mid → Holds old c → Holds mid c
  hold_on old mid c y h = replays_holds mid c (held_replays old mid y c h)

  -- it is loaded, and there is no memory
  pub meets_no_memory : {T : Type 0} (counts : (disk : D) (t : ℕ) (c : List ℕ) → t ≤ g.moment disk → g.may_leave disk c → g.left_since disk t c) (image : (disk : D) (bytes : List ℕ) → g.seen disk ≡ Some bytes → g.may_leave disk bytes)
      (old mid : DiskRegister D g) (done : Result (Unit {0}) RegisterFault) (r : Result T RegisterFault) (answer : Register → Result T RegisterFault) (after : Register → Register) → r ≡ failure T faults.NoMemory → Loads old mid done → IsReady old mid → Meets old mid r answer after
  meets_no_memory {T = T} counts image old mid done r answer after is l y =
      let free : IsFree r = subst IsFree (sym is) tt in
      let moments : Tells old → LeavesOnly g.moment g.left_since (owned old) (owned mid) (LeftBy old after) = λ t. leaves_map g.moment g.left_since (owned old) (owned mid) _ (LeftBy old after) (λ c m. inl m) l.moments in record {
        answers = λ c h. inl free;
        told = λ t. let w = y.whole t in replays_tells mid w.0 w.1;
        whole = λ t. inl free;
        sure = λ t. inl free;
        moments = moments;
        settles = λ t. inl free;
        done_or_not = λ t. done_by counts image old mid after (moments t);
        survives = λ t cs h. survives_by counts image old mid after (moments t) cs h;
        records = λ c h. inr (records_same old mid (y.same (holds_tells old c h)));
        keeps = inr (on_err r _ (record { held = λ c h. replays_holds mid c (held_replays old mid y c h); may = λ c m. (m.0, image_from counts old mid _ l.moments m.0 m.1, m.2) }));
        exact = λ c f. let q = l.quiet f.told f.plain_is f.quiet in inl (is, foretells_by mid c (held_replays old mid y c f.holds) q.0 q.1 q.2);
        failed = λ f. absurd (let e = same_fault faults.NoMemory faults.Failed (sym is ∙ f) in cc e);
        damaged = λ place f. absurd (let e = same_fault faults.NoMemory (faults.Damaged place) (sym is ∙ f) in cc e);
        counts = l.counts;
      }

empty_stands : StandsFor (0 ∷ []) empty_register
empty_stands = record { bodies = []; journal = record { gate = 0; after = []; bytes_are = refl; shut = λ e. absurd (cc e); fits = λ n x h. absurd (omega arith) }; leads = refl }

module _ {D : Type 0} {g : Ghosts D} where
  pub meets_as : {T : Type 0} (old new : DiskRegister D g) (e : RegisterFault) (r : Result T RegisterFault) (answer : Register → Result T RegisterFault) (after : Register → Register) → r ≡ failure T e → Meets old new (failure T e) answer after → Meets old new r answer after
  meets_as old new e r answer after is m = subst (λ r. Meets old new r answer after) (sym is) m

  pub loads_granted : {T : Type 0} (old mid : DiskRegister D g) (done : Result (Unit {0}) RegisterFault) (given : T) → Loads old mid done → Loads old mid (granting given)
  loads_granted old mid done given l = record { moments = l.moments; counts = l.counts; honest = l.honest; quiet = l.quiet; steady = λ p is q f. absurd (cc f) }

  as_done : {T : Type 0} {old mid : DiskRegister D g} {given : T} → Loads old mid (granting given) → Loads old mid (granting (tt {0}))
  as_done l = record { moments = l.moments; counts = l.counts; honest = l.honest; quiet = l.quiet; steady = λ p is q f. absurd (cc f) }

  -- the change that was due is made
  pub meets_due : {T : Type 0} (counts : (disk : D) (t : ℕ) (c : List ℕ) → t ≤ g.moment disk → g.may_leave disk c → g.left_since disk t c) (image : (disk : D) (bytes : List ℕ) → g.seen disk ≡ Some bytes → g.may_leave disk bytes) (old mid new : DiskRegister D g) (x : Change) (made : Result (Unit {0}) RegisterFault) (given : T) (answer : Register → Result T RegisterFault) (after : Register → Register)
      → IsDue old mid x given answer after → Commits mid new x made → IsMade mid new x → Meets old new (granting given) answer after
  meets_due {T = T} counts image old mid new x made given answer after d k a = meets_made counts image old mid new x (granting (tt {0})) made (granting given) answer after (as_done d.loads) d.ready k a (λ f. absurd (cc f)) (λ p f. absurd (cc f)) (λ A. tt) (λ c m fit. d.answers c m)

  -- the change that was due failed, or there was no memory for it
  pub meets_undone : {T : Type 0} (counts : (disk : D) (t : ℕ) (c : List ℕ) → t ≤ g.moment disk → g.may_leave disk c → g.left_since disk t c) (image : (disk : D) (bytes : List ℕ) → g.seen disk ≡ Some bytes → g.may_leave disk bytes) (old mid new : DiskRegister D g) (x : Change) (given : T) (e : RegisterFault) (r : Result T RegisterFault) (answer : Register → Result T RegisterFault) (after : Register → Register)
      → r ≡ failure T e → IsDue old mid x given answer after → Commits mid new x (failure (Unit {0}) e) → IsRefused mid new x (failure (Unit {0}) e) → Meets old new r answer after
  meets_undone counts image old mid new x given e r answer after is d k n = meets_refused counts image old mid new x (granting (tt {0})) e r answer after is (as_done d.loads) d.ready k n (λ c m big. absurd (let f = d.fits in omega arith)) (λ c m fit. (d.answers c m).1)

  -- the change that was due is not made
  pub meets_unmade : {T : Type 0} (counts : (disk : D) (t : ℕ) (c : List ℕ) → t ≤ g.moment disk → g.may_leave disk c → g.left_since disk t c) (image : (disk : D) (bytes : List ℕ) → g.seen disk ≡ Some bytes → g.may_leave disk bytes) (old mid : DiskRegister D g) (x : Change) (given : T) (answer : Register → Result T RegisterFault) (after : Register → Register)
      → IsDue old mid x given answer after → Meets old mid (granting given) answer (λ c. c)
  meets_unmade counts image old mid x given answer after d = meets_answered counts image old mid (granting (tt {0})) (granting given) answer (λ c. c) (as_done d.loads) d.ready (λ f. absurd (cc f)) (λ p f. absurd (cc f)) (λ c m. ((d.answers c m).0, refl))

  -- a new disk in memory represents nothing
  pub foretells_empty : (seen_is : (disk : D) (p : Plain) → g.plain disk ≡ Some p → g.seen disk ≡ Some p.state.bytes) (r : DiskRegister D g) → is_loaded r ≡ false → g.plain (owned r) ≡ Some new_disk → Foretells r empty_register
  foretells_empty seen_is r unloaded is = record {
    holds = holds_unloaded r empty_register (record { bytes = 0 ∷ []; seen_is = seen_is (owned r) new_disk is; stands = empty_stands }) unloaded;
    unarmed = refl;
    told = new_disk;
    plain_is = is;
    quiet = record { stands = refl; told = refl };
  }

pub look_keeps : {T : Type 0} (r : Result T RegisterFault) (e : RegisterFault) (K : Type 0) → r ≡ failure T e → IsErrOf r faults.Failed ⊎ OnErr r K → IsErrOf r faults.Failed ⊎ K
look_keeps r e K is (inl f) = inl f
look_keeps r e K is (inr k) = inr (subst (λ r. OnErr r K) is k)

pub look_exact : {T : Type 0} (r : Result T RegisterFault) (v : Result T RegisterFault) (A : Type 0) → (IsErrOf r faults.NoMemory × A) ⊎ ((r ≡ v) × A) → (IsErrOf r faults.NoMemory ⊎ (r ≡ v)) × A
look_exact r v A (inl h) = (inl h.0, h.1)
look_exact r v A (inr h) = (inr h.0, h.1)

abbrev pub ok_view : View → Result View RegisterFault
ok_view v = Ok v
