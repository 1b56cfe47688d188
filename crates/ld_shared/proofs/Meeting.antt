-- What a call of a register in memory with the records' bodies says of the records.
use Rattle.std.proofs.Common.{◌≡◌, ◌≤◌, ◌<◌, ◌^◌, ◌⊎◌, inl, inr, ℕ, List, [], ◌∷◌, ◌++◌, Option, None, Some, Result, Ok, Err, length, take, refl, ap, sym, ◌∙◌, subst, arith, length-append}
use Rattle.std.specs.Option.{option_map}
use Rattle.std.specs.Prelude.{IfSome}
use Rattle.std.specs.Result.{IsErrOf}
use Rattle.std.proofs.lemmas.List.{take_all}
use Rattle.std.proofs.Math.Seq.{get_or-append_seam}
use Rattle.ld_disk.specs.declared.disk.Disk.{Ghosts}
use Rattle.ld_disk.specs.declared.memory.MemDisk.{MemDisk}
use Rattle.ld_journal.specs.Format.{framed, records, Fits, IsJournal, IsCutShort}
use Rattle.ld_journal.specs.Rest.{IsParted, IsShut, BeginsWith}
use Rattle.ld_journal.proofs.Records.{records-push}
use Rattle.ld_journal.proofs.Reading.{one_reading, unframe, not_both}
use Rattle.ld_msg.specs.Register.{Register, empty_register}
use Rattle.ld_records.specs.Growth.{Grows, IsAt}
use Rattle.ld_register.specs.Calls.{IsFree}
use Rattle.ld_register.specs.Changes.{Leads}
use Rattle.ld_register.specs.Held.{owned, Holds, Meets}
use Rattle.ld_register.specs.Stands.{StandsFor, HasRecords}
use Rattle.ld_register.specs.declared.disk.DiskRegister.{DiskRegister}
use Rattle.ld_register.specs.declared.fault.RegisterFault.{RegisterFault}
use Rattle.ld_register.specs.declared.fault.RegisterFault.TheVariants as faults
use Rattle.ld_register.proofs.Leading.{leads_one}
use Rattle.ld_shared.specs.Bodies.{bodies_of, body_in, IsValueOf}
use Rattle.ld_shared.specs.Fresh.{IsCopyOf}
use Rattle.ld_shared.specs.declared.shared.Unsettled.{Unsettled}
use Rattle.ld_shared.specs.Says.{Says, Decided, LeadTo, IsLate, IsFreeFault, Tried, FitsTried, granting, refusal}
use Rattle.ld_shared.proofs.Growing.{grows_front, grows_length, bodies_more}

-- the journal of these bodies
abbrev pub journal_of : List (List ℕ) → List ℕ
journal_of bodies = records bodies ++ 0 ∷ []

pub journal_is : (bodies : List (List ℕ)) → Fits bodies → IsJournal bodies (journal_of bodies)
journal_is bodies fits = record { gate = 0; after = []; bytes_are = refl; shut = omega arith; fits = fits }

pub told_once : {a b : List ℕ} → Some a ≡ Some b → a ≡ b
told_once is = cc

-- bytes that stand for contents are led to by the bodies that they have
stands_led : (bodies : List (List ℕ)) (bytes : List ℕ) (c : Register) → IsJournal bodies bytes → StandsFor bytes c → Leads empty_register bodies c
stands_led bodies bytes c j s = subst (λ b. Leads empty_register b c) (one_reading bytes s.bodies bodies s.journal j) s.leads

-- ---- what is read behind the records that were there ----

record Ends (bodies : List (List ℕ)) (seen : Option (List ℕ)) : Type 0 where
  rest : List ℕ
  seen_is : seen ≡ Some (records bodies ++ rest)
  some : 0 < length rest
  shut : IsShut rest → HasRecords seen bodies
  more : (body : List ℕ) → BeginsWith body rest → HasRecords seen (bodies ++ body ∷ [])
  whole : IsCutShort rest → ⊥

-- what stands behind some records of a journal isn't cut short
rest_whole : (bodies all : List (List ℕ)) (rest : List ℕ) → Fits bodies → IsJournal all (records bodies ++ rest) → IsCutShort rest → ⊥
rest_whole bodies all rest fits journal cut = not_both (length (records bodies)) (records bodies ++ rest) all journal (record { bodies = bodies; rest = rest; bytes_are = refl; place_is = refl; fits = fits; cut = inl cut })

abbrev head : List ℕ → ℕ
head [] = 0
head (x ∷ xs) = x

ends_same : (bodies : List (List ℕ)) (seen : Option (List ℕ)) → Fits bodies → HasRecords seen bodies → Ends bodies seen
ends_same bodies seen fits h = let j = h.journal in record {
  rest = j.gate ∷ j.after;
  seen_is = h.seen_is ∙ ap (λ b. Some b) j.bytes_are;
  some = omega arith;
  shut = λ _. h;
  more = λ body b. absurd (j.shut (ap head b.rest_is));
  whole = rest_whole bodies bodies (j.gate ∷ j.after) fits (subst (λ b. IsJournal bodies b) j.bytes_are j);
}

ends_more : (bodies : List (List ℕ)) (seen : Option (List ℕ)) (body : List ℕ) → Fits bodies → HasRecords seen (bodies ++ body ∷ []) → Ends bodies seen
ends_more bodies seen body fits h = let j = h.journal in record {
  rest = framed body ++ j.gate ∷ j.after;
  seen_is = h.seen_is ∙ ap (λ b. Some b) (j.bytes_are ∙ records-push bodies body (j.gate ∷ j.after));
  some = omega arith;
  shut = λ s. absurd (s.shut (ap head (sym s.rest_is)));
  whole = rest_whole bodies (bodies ++ body ∷ []) (framed body ++ j.gate ∷ j.after) fits (subst (λ b. IsJournal (bodies ++ body ∷ []) b) (j.bytes_are ∙ records-push bodies body (j.gate ∷ j.after)) j);
  more = λ other b. subst (λ o. HasRecords seen (bodies ++ o ∷ [])) (unframe body other (j.gate ∷ j.after) b.after (short j.fits) b.fits b.rest_is).0 h;
}
  where
    short : Fits (bodies ++ body ∷ []) → length body < 2 ^ 32
    short fits = subst (λ (b : List ℕ). length b < 2 ^ 32) (get_or-append_seam bodies body [] []) (fits (length bodies) [] (omega (arith, length-append bodies (body ∷ []))))

-- of all values
led_by_all : (values : List (List ℕ)) (c : Register) → Leads empty_register (bodies_of values) c → LeadTo (length values) values c
led_by_all values c l = subst (λ v. Leads empty_register (bodies_of v) c) (sym (take_all (length values) values (omega arith))) l

-- the journal of these bodies, as what is held now reads it
led_now : {g : Ghosts MemDisk} (bodies : List (List ℕ)) (r : DiskRegister MemDisk g) (c : Register) → Holds r c → HasRecords (g.seen (owned r)) bodies → Leads empty_register bodies c
led_now {g = g} bodies r c h s = stands_led bodies h.reads.bytes c (subst (λ b. IsJournal bodies b) (told_once (sym s.seen_is ∙ h.reads.seen_is)) s.journal) h.reads.stands

pub parted_at : {g : Ghosts MemDisk} (values : List (List ℕ)) (new : DiskRegister MemDisk g) (rest : List ℕ) (at : ℕ) → at ≡ length (records (bodies_of values)) → g.seen (owned new) ≡ Some (records (bodies_of values) ++ rest) → 0 < length rest
    → IsParted g.seen (owned new) at (records (bodies_of values)) rest
parted_at {g = g} values new rest at is seen some = record { bytes = seen; place_is = is; some = some }

free_of_failed : {T : Type 0} (fault : RegisterFault) → refusal {T = T} fault ≡ refusal {T = T} faults.Failed → IsFree (refusal {T = T} fault)
free_of_failed {T = T} fault is = subst (λ r. IsFree r) (sym is) tt

not_failed : {T : Type 0} (given : T) → Ok given ≡ refusal {T = T} faults.Failed → ⊥
not_failed given is = cc

-- ---- what a call of it answers ----

module _ {T : Type 0} {g : Ghosts MemDisk} where
  -- it answered by the contents that the values lead to, and holds what its change makes of them
  record Answers (values : List (List ℕ)) (old new : DiskRegister MemDisk g) (result : Result T RegisterFault) (answer : Register → Result T RegisterFault) (after : Register → Register) : Type 0 where
    contents : Register
    leads : Leads empty_register (bodies_of values) contents
    told : result ≡ answer contents
    held : Holds old contents
    now : Holds new (after contents)

  answers_of : (values : List (List ℕ)) (old new : DiskRegister MemDisk g) (result : Result T RegisterFault) (answer : Register → Result T RegisterFault) (after : Register → Register)
      → IsCopyOf values old → Meets old new result answer after → IsFree result ⊎ Answers values old new result answer after
  answers_of values old new result answer after copy m = elim (m.whole copy.tells) [
    | inl free ↦ inl free
    | inr held ↦ (elim (m.answers held.0 held.1) [
      | inl free ↦ inl free
      | inr told ↦ inr (record {
        contents = held.0;
        leads = stands_led (bodies_of values) (journal_of (bodies_of values)) held.0 (journal_is (bodies_of values) copy.fits)
            (subst (λ b. StandsFor b held.0) (told_once (sym held.1.reads.seen_is ∙ copy.bytes)) held.1.reads.stands);
        told = told.0;
        held = held.1;
        now = told.1;
      })
    ])
  ]

  -- a refusal that belongs to the contents changes nothing
  pub refused_says : (own : List ℕ) (before values : List (List ℕ)) (old new : DiskRegister MemDisk g) (fault : RegisterFault) (answer : Register → Result T RegisterFault) (after : Register → Register)
      → length before ≤ length values → IsCopyOf values old → Meets old new (Err fault) answer after → IsFree (refusal {T = T} fault) ⊎ Says own before values (Err fault) answer after
  refused_says own before values old new fault answer after since copy m = elim (answers_of values old new (Err fault) answer after copy m) [
    | inl free ↦ inl free
    | inr a ↦ (elim m.keeps [
      | inl failed ↦ inl (free_of_failed fault failed)
      | inr keeps ↦ inr (record {
        count = length values;
        since = since;
        there = omega arith;
        contents = a.contents;
        leads = led_by_all values a.contents a.leads;
        told = a.told;
        stands = inl (sym ((keeps.held a.contents a.held).one (after a.contents) a.now.reads));
      })
    ])
  ]

  -- a call that answered: the rest behind the records that were there, and what each way to read it says
  pub record Answered (values : List (List ℕ)) (old new : DiskRegister MemDisk g) (given : T) (answer : Register → Result T RegisterFault) (after : Register → Register) : Type 0 where
    pub contents : Register
    pub leads : Leads empty_register (bodies_of values) contents
    pub told : granting given ≡ answer contents
    pub rest : List ℕ
    pub parted : g.seen (owned new) ≡ Some (records (bodies_of values) ++ rest)
    pub some : 0 < length rest
    pub none : IsShut rest → after contents ≡ contents
    pub whole : IsCutShort rest → ⊥
    pub one : (body : List ℕ) → BeginsWith body rest → Leads empty_register (bodies_of values ++ body ∷ []) (after contents)

  -- what stands behind the records that were there, where the call answered
  pub ends_of : (values : List (List ℕ)) (old new : DiskRegister MemDisk g) (given : T) (answer : Register → Result T RegisterFault) (after : Register → Register)
      → IsCopyOf values old → Meets old new (Ok given) answer after → Answered values old new given answer after
  ends_of values old new given answer after copy m = elim (answers_of values old new (Ok given) answer after copy m) [
    | inl free ↦ absurd free
    | inr a ↦ (elim (m.records a.contents a.held) [
      | inl failed ↦ absurd (not_failed given failed)
      | inr adds ↦ made a (elim (adds (bodies_of values) (record { bytes = journal_of (bodies_of values); seen_is = copy.bytes; journal = journal_is (bodies_of values) copy.fits })) [
        | inl same ↦ ends_same (bodies_of values) (g.seen (owned new)) copy.fits same
        | inr more ↦ ends_more (bodies_of values) (g.seen (owned new)) more.0 copy.fits more.1
      ])
    ])
  ]
    where
      made : Answers values old new (Ok given) answer after → Ends (bodies_of values) (g.seen (owned new)) → Answered values old new given answer after
      made a e = record {
        contents = a.contents;
        leads = a.leads;
        told = a.told;
        rest = e.rest;
        parted = e.seen_is;
        some = e.some;
        whole = e.whole;
        none = λ shut. leads_one empty_register (bodies_of values) (after a.contents) a.contents (led_now (bodies_of values) new (after a.contents) a.now (e.shut shut)) a.leads;
        one = λ body begins. led_now (bodies_of values ++ body ∷ []) new (after a.contents) a.now (e.more body begins);
      }

  -- nothing was appended: the contents are as they were
  pub decided_none : (values : List (List ℕ)) (old new : DiskRegister MemDisk g) (given : T) (answer : Register → Result T RegisterFault) (after : Register → Register) (at : ℕ)
      → IsCopyOf values old → Meets old new (Ok given) answer after → at ≡ length (records (bodies_of values))
      → ((front rest : List ℕ) → IsParted g.seen (owned new) at front rest → IsShut rest) → Decided values given None answer after
  decided_none values old new given answer after at copy m place shut = let a = ends_of values old new given answer after copy m in record {
    contents = a.contents;
    leads = a.leads;
    told = a.told;
    made = a.none (shut (records (bodies_of values)) a.rest (parted_at values new a.rest at place a.parted a.some));
  }

  -- a record was appended
  pub decided_one : (values : List (List ℕ)) (old new : DiskRegister MemDisk g) (given : T) (answer : Register → Result T RegisterFault) (after : Register → Register) (at : ℕ) (body : List ℕ)
      → IsCopyOf values old → Meets old new (Ok given) answer after → at ≡ length (records (bodies_of values))
      → ((front rest : List ℕ) → IsParted g.seen (owned new) at front rest → BeginsWith body rest) → Decided values given (Some body) answer after
  decided_one values old new given answer after at body copy m place begins = let a = ends_of values old new given answer after copy m in record {
    contents = a.contents;
    leads = a.leads;
    told = a.told;
    made = a.one body (begins (records (bodies_of values)) a.rest (parted_at values new a.rest at place a.parted a.some));
  }

module _ {T : Type 0} {g : Ghosts MemDisk} (values : List (List ℕ)) (old new : DiskRegister MemDisk g) (answer : Register → Result T RegisterFault) (after : Register → Register) where
  -- by what was read behind the records on the disk that the register gave back
  pub decided_by : {V : Type 0} (items : V → List ℕ) (given : T) (body : Option V) (at : ℕ) (disk : MemDisk)
      → IsCopyOf values old → Meets old new (Ok given) answer after → at ≡ length (records (bodies_of values)) → disk ≡ owned new
      → IfSome body (λ v. (front rest : List ℕ) → IsParted g.seen disk at front rest → BeginsWith (items v) rest)
      → (granting body ≡ granting None → (front rest : List ℕ) → IsParted g.seen disk at front rest → IsShut rest)
      → Decided values given (option_map items body) answer after
  decided_by items given None at disk copy m place same found ended =
      decided_none values old new given answer after at copy m place (λ front rest p. ended refl front rest (subst (λ d. IsParted g.seen d at front rest) (sym same) p))
  decided_by items given (Some v) at disk copy m place same found ended =
      decided_one values old new given answer after at (items v) copy m place (λ front rest p. found front rest (subst (λ d. IsParted g.seen d at front rest) (sym same) p))

  -- a refusal, or one with a record's number in place of an offset
  pub refused_by : (own : List ℕ) (before : List (List ℕ)) (fault given : RegisterFault) → (given ≡ fault) ⊎ IsFreeFault given → length before ≤ length values → IsCopyOf values old → Meets old new (Err fault) answer after
      → IsFree (refusal {T = T} given) ⊎ Says own before values (Err given) answer after
  refused_by own before fault given same since copy m = elim same [
    | inl is ↦ subst (λ f. IsFree (refusal {T = T} f) ⊎ Says own before values (Err f) answer after) (sym is) (refused_says own before values old new fault answer after since copy m)
    | inr free ↦ inl free
  ]

module _ {T : Type 0} (answer : Register → Result T RegisterFault) (after : Register → Register) where
  -- where no record is to be made, the answer stands
  pub unchanged_says : (own : List ℕ) (before values : List (List ℕ)) (given : T) → length before ≤ length values → Decided values given None answer after → Says own before values (Ok given) answer after
  unchanged_says own before values given since d = record {
    count = length values;
    since = since;
    there = omega arith;
    contents = d.contents;
    leads = led_by_all values d.contents d.leads;
    told = d.told;
    stands = inl d.made;
  }

  -- the first so many values are these
  values_first : (values now : List (List ℕ)) (n : ℕ) → n ≡ length values → Grows values now → take n now ≡ values
  values_first values now n is grows = ap (λ k. take k now) is ∙ grows_front values now grows

  -- and where the record was made
  pub made_says : (own : List ℕ) (before values now : List (List ℕ)) (given : T) (body value : List ℕ) (n : ℕ) → length before ≤ length values → Decided values given (Some body) answer after
      → n ≡ length values → Grows values now → IsAt n value now → IsValueOf own body value → Says own before now (Ok given) answer after
  made_says own before values now given body value n since d is grows there has = let front = values_first values now n is grows in record {
    count = n;
    since = omega (arith, since, is);
    there = omega (arith, is, grows_length values now grows);
    contents = d.contents;
    leads = subst (λ v. Leads empty_register (bodies_of v) d.contents) (sym front) d.leads;
    told = d.told;
    stands = inr (record {
      value = value;
      there = there;
      owned = has.owned;
      leads = subst (λ b. Leads empty_register b (after d.contents))
          (sym (bodies_more n value now there ∙ ap (λ v. bodies_of v ++ body_in value ∷ []) front ∙ ap (λ b. bodies_of values ++ b ∷ []) has.body_is))
          d.made;
    });
  }

  -- and where it isn't known whether the record is made
  pub late : (own : List ℕ) (values now : List (List ℕ)) (given : T) (body : List ℕ) (n : ℕ) (u : Unsettled) → Decided values given (Some body) answer after
      → n ≡ length values → Grows values now → (u.number ≡ n) × IsValueOf own body u.value.items → IsLate own now after u
  late own values now given body n u d is grows has = let front = values_first values now u.number (has.0 ∙ is) grows in record {
    there = omega (arith, has.0, is, grows_length values now grows);
    contents = d.contents;
    leads = subst (λ v. Leads empty_register (bodies_of v) d.contents) (sym front) d.leads;
    body = body;
    value_is = has.1;
    makes = subst (λ v. Leads empty_register (bodies_of v ++ body ∷ []) (after d.contents)) (sym front) d.made;
  }

-- what holds of a refusal, and of each that may come at any point
pub unfit_by : {T : Type 0} (fits : Result T RegisterFault → Type 0) → ((r : Result T RegisterFault) → IsFree r → fits r) → (fault given : RegisterFault) → (given ≡ fault) ⊎ IsFreeFault given → fits (Err fault) → fits (Err given)
unfit_by fits free_fits fault given same h = elim same [
  | inl is ↦ subst (λ f. fits (Err f)) (sym is) h
  | inr free ↦ free_fits (Err given) free
]

-- ---- one try ----

-- a try that refused
pub tried_refused : {T : Type 0} (own : List ℕ) (before now : List (List ℕ)) (r : Result (Option T) RegisterFault) (f : RegisterFault) (answer : Register → Result T RegisterFault) (after : Register → Register)
    → IsErrOf r f → IsFree (refusal {T = T} f) ⊎ Says own before now (Err f) answer after → Tried own before now r answer after
tried_refused own before now r f answer after is h = subst (λ o. Tried own before now o answer after) (sym is) h

pub fits_refused : {T : Type 0} (fits : Result T RegisterFault → Type 0) (r : Result (Option T) RegisterFault) (f : RegisterFault) → IsErrOf r f → fits (Err f) → FitsTried fits r
fits_refused fits r f is h = subst (λ o. FitsTried fits o) (sym is) h

module _ {T V : Type 0} (items : V → List ℕ) (answer : Register → Result T RegisterFault) (after : Register → Register) (own : List ℕ) (before values : List (List ℕ)) (given : T) (body : Option V)
    (since : length before ≤ length values) (d : Decided values given (option_map items body) answer after) where
  pub unchanged_by : body ≡ None → Says own before values (Ok given) answer after
  unchanged_by is = unchanged_says answer after own before values given since (subst (λ o. Decided values given (option_map items o) answer after) is d)

  pub made_by : (v : V) (now : List (List ℕ)) (n : ℕ) → body ≡ Some v → n ≡ length values → Grows values now → ((value : List ℕ) × IsAt n value now × IsValueOf own (items v) value) → Says own before now (Ok given) answer after
  made_by v now n is number grows made = made_says answer after own before values now given (items v) made.0 n since (subst (λ o. Decided values given (option_map items o) answer after) is d) number grows made.1 made.2

  pub late_by : (v : V) (now : List (List ℕ)) (n : ℕ) (u : Option Unsettled) → body ≡ Some v → n ≡ length values → Grows values now → IfSome u (λ u. (u.number ≡ n) × IsValueOf own (items v) u.value.items) → IfSome u (IsLate own now after)
  late_by v now n None is number grows h = tt
  late_by v now n (Some u) is number grows h = late answer after own values now given (items v) n u (subst (λ o. Decided values given (option_map items o) answer after) is d) number grows h

-- a later call of the same list
pub says_since : {T : Type 0} (own : List ℕ) (before mid now : List (List ℕ)) (result : Result T RegisterFault) (answer : Register → Result T RegisterFault) (after : Register → Register) → Grows before mid → Says own mid now result answer after → Says own before now result answer after
says_since {T = T} own before mid now result answer after g s = record {
  count = s.count;
  since = omega (arith, grows_length before mid g, s.since);
  there = s.there;
  contents = s.contents;
  leads = s.leads;
  told = s.told;
  stands = s.stands;
}

-- ---- a whole call, from its first try on ----

module _ {T : Type 0} (own first : List ℕ) (before mid now : List (List ℕ)) (answer : Register → Result T RegisterFault) (after : Register → Register) (is : own ≡ first) (g : Grows before mid) where
  pub call_says : (r : Result T RegisterFault) → IsFree r ⊎ Says own mid now r answer after → IsFree r ⊎ Says first before now r answer after
  call_says r (inl free) = inl free
  call_says r (inr s) = inr (subst (λ o. Says o before now r answer after) is (says_since own before mid now r answer after g s))

  -- what a refused try says, of the refusal that it is passed on as
  pub refusal_says : (r : Result T RegisterFault) (f : RegisterFault) → IsErrOf r f → IsFree (refusal {T = T} f) ⊎ Says own mid now (Err f) answer after → IsFree r ⊎ Says first before now r answer after
  refusal_says r f at h = call_says r (subst (λ o. IsFree o ⊎ Says own mid now o answer after) (sym at) h)

pub late_as : (own first : List ℕ) (now : List (List ℕ)) (after : Register → Register) (u : Option Unsettled) → own ≡ first → IfSome u (IsLate own now after) → IfSome u (IsLate first now after)
late_as own first now after u is h = subst (λ o. IfSome u (IsLate o now after)) is h

-- a refusal that is passed on
pub free_passed : {T : Type 0} (r : Result T RegisterFault) (f : RegisterFault) → IsErrOf r f → IsFree (refusal {T = T} f) → IsFree r
free_passed r f is free = subst (λ o. IsFree o) (sym is) free

pub fits_passed : {T : Type 0} (fits : Result T RegisterFault → Type 0) (r : Result T RegisterFault) (f : RegisterFault) → IsErrOf r f → fits (Err f) → fits r
fits_passed fits r f is h = subst (λ o. fits o) (sym is) h

-- a try that answered
pub tried_some : {T : Type 0} (own : List ℕ) (before now : List (List ℕ)) (o : Option T) (given : T) (answer : Register → Result T RegisterFault) (after : Register → Register)
    → o ≡ Some given → Tried own before now (Ok o) answer after → Says own before now (Ok given) answer after
tried_some own before now o given answer after is h = subst (λ p. Tried own before now (Ok p) answer after) is h

pub fits_some : {T : Type 0} (fits : Result T RegisterFault → Type 0) (o : Option T) (given : T) → o ≡ Some given → FitsTried fits (Ok o) → fits (Ok given)
fits_some fits o given is h = subst (λ p. FitsTried fits (Ok p)) is h
