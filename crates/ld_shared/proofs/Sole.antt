-- Tries and whole calls over records to which nobody else appends.
use Rattle.std.proofs.Common.{◌≡◌, ◌≤◌, ◌⊎◌, inl, inr, ℕ, Bool, true, false, List, [], ◌∷◌, ◌++◌, Option, None, Some, Result, Ok, Err, length, take, refl, ap, sym, ◌∙◌, subst, arith}
use Rattle.std.specs.Option.{option_map}
use Rattle.std.specs.Result.{IsErrOf, IsOk, OnErr}
use Rattle.std.specs.declared.result.Result.TheVariants as results
use Rattle.std.proofs.lemmas.List.{map-append, take_all}
use Rattle.ld_msg.specs.Register.{Register, empty_register}
use Rattle.ld_records.specs.Growth.{Grows}
use Rattle.ld_records.specs.declared.records.Records.{Ghosts}
use Rattle.ld_records.specs.declared.records.Appended.{Appended}
use Rattle.ld_records.specs.declared.records.Appended.TheVariants as appendeds
use Rattle.ld_records.specs.declared.records.RecordsFault.{RecordsFault}
use Rattle.ld_records.specs.declared.records.RecordsFault.TheVariants as causes
use Rattle.ld_register.specs.Calls.{IsFree}
use Rattle.ld_register.specs.Changes.{Leads}
use Rattle.ld_register.specs.declared.fault.RegisterFault.{RegisterFault}
use Rattle.ld_register.specs.declared.fault.RegisterFault.TheVariants as faults
use Rattle.ld_register.proofs.Leading.{leads_one, leads_armed}
use Rattle.ld_shared.specs.Bodies.{bodies_of, body_in}
use Rattle.ld_shared.specs.Holds.{StaysTried, AnswersTried, HasOneMore, AppendsAlone, IsSole, LeadsTo, Holds, IsExact, sole_of}
use Rattle.ld_shared.specs.Says.{Decided, IsMadeBy, Says, LeadTo, granting, refusal, owner_of, values_of, unsettled_of}
use Rattle.ld_shared.specs.declared.shared.SharedRegister.{SharedRegister}
use Rattle.ld_shared.proofs.Exact.{led_before}
use Rattle.ld_shared.proofs.Growing.{grows_front}

pub one_refusal : {T : Type 0} (e f : RegisterFault) → refusal {T = T} e ≡ refusal {T = T} f → e ≡ f
one_refusal e f is = cc

-- ---- one try ----

pub stays_refused : {T : Type 0} (before now : List (List ℕ)) (r : Result (Option T) RegisterFault) (f : RegisterFault) → IsErrOf r f → now ≡ before → StaysTried before now r
stays_refused before now r f is same = subst (λ o. StaysTried before now o) (sym is) same

module _ {T : Type 0} (answer : Register → Result T RegisterFault) (after : Register → Register) (c : Register) where
  pub answers_refused : (now : List (List ℕ)) (r : Result (Option T) RegisterFault) (f : RegisterFault) → IsErrOf r f → (f ≡ faults.NoMemory) ⊎ ((refusal f ≡ answer c) × (after c ≡ c)) → AnswersTried now r c answer after
  answers_refused now r f is h = subst (λ o. AnswersTried now o c answer after) (sym is) h

  -- by the contents that the values lead to
  decided_at : (values : List (List ℕ)) (given : T) (body : Option (List ℕ)) → Decided values given body answer after → Leads empty_register (bodies_of values) c → (granting given ≡ answer c) × IsMadeBy values c (after c) body
  decided_at values given body d leads =
      subst (λ (b : Register). (granting given ≡ answer b) × IsMadeBy values b (after b) body) (leads_one empty_register (bodies_of values) d.contents c d.leads leads) (d.told, d.made)

  module _ {V : Type 0} (items : V → List ℕ) (values now : List (List ℕ)) (given : T) (body : Option V) (d : Decided values given (option_map items body) answer after) (leads : Leads empty_register (bodies_of values) c) where
    -- no record was to be made
    pub unchanged_exact : body ≡ None → now ≡ values → AnswersTried now (Ok (Some given)) c answer after
    unchanged_exact is same =
        let at = decided_at values given None (subst (λ o. Decided values given (option_map items o) answer after) is d) leads in
        (at.0, subst (λ v. Leads empty_register (bodies_of v) (after c)) (sym same) (subst (λ b. Leads empty_register (bodies_of values) b) (sym at.1) leads))

    -- one was made
    pub made_exact : (own : List ℕ) (v : V) → body ≡ Some v → HasOneMore own (items v) values now → AnswersTried now (Ok (Some given)) c answer after
    made_exact own v is more =
        let at = decided_at values given (Some (items v)) (subst (λ o. Decided values given (option_map items o) answer after) is d) leads in
        let bodies : bodies_of now ≡ bodies_of values ++ items v ∷ [] =
        ap (λ l. bodies_of l) more.is ∙ map-append body_in values (more.value ∷ []) ∙ ap (λ b. bodies_of values ++ b ∷ []) more.value_is.body_is in
        (at.0, subst (λ b. Leads empty_register b (after c)) (sym bodies) at.1)

-- ---- an append ----

-- it was made, or there was no memory for it
abbrev Ends : Result Appended RecordsFault → Type 0 → Type 0 → Type 0
Ends r A B = ((r ≡ Ok appendeds.Made) × A) ⊎ ((r ≡ Err causes.NoMemory) × B)

pub made_of : (x : Appended) (A B : Type 0) → Ends (Ok x) A B → A
made_of x A B h = elim h [ inl made ↦ made.1 | inr none ↦ absurd (let e = none.0 in cc e) ]

pub taken_of : (x : Appended) (A B : Type 0) → x ≡ appendeds.Taken → Ends (Ok x) A B → ⊥
taken_of x A B is h = elim h [ inl made ↦ (let e = made.0 in cc (e, is)) | inr none ↦ (let e = none.0 in cc e) ]

pub unmade_of : (f : RecordsFault) (A B : Type 0) → Ends (Err f) A B → (f ≡ causes.NoMemory) × B
unmade_of f A B h = elim h [ inl made ↦ absurd (let e = made.0 in cc e) | inr none ↦ (let e = none.0 in cc e, none.1) ]

module _ {C : Type 0} (g : Ghosts C) (body : List ℕ) (old new : SharedRegister C) where
  pub unmade_alone : (result : Result Bool RegisterFault) → IsErrOf result faults.NoMemory → g.sole new.records → unsettled_of new ≡ None → values_of g new ≡ values_of g old → AppendsAlone g body old new result
  unmade_alone result is sole none same = record { sole = (sole, none); made = inr (is, same) }

  pub append_refused : (f : RegisterFault) → AppendsAlone g body old new (Err f) → (f ≡ faults.NoMemory) × (values_of g new ≡ values_of g old)
  append_refused f a = elim a.made [ inl made ↦ absurd (let e = made.0 in cc e) | inr none ↦ (let e = none.0 in cc e, none.1) ]

  -- it made the record
  pub append_made : (b : Bool) → AppendsAlone g body old new (Ok b) → HasOneMore (owner_of old) body (values_of g old) (values_of g new)
  append_made b a = elim a.made [ inl made ↦ made.1 | inr none ↦ absurd (let e = none.0 in cc e) ]

  -- nobody else was quicker
  pub append_not_beaten : (b : Bool) → b ≡ false → AppendsAlone g body old new (Ok b) → ⊥
  append_not_beaten b is a = elim a.made [ inl made ↦ (let e = made.0 in cc (e, is)) | inr none ↦ (let e = none.0 in cc e) ]

-- ---- a whole call ----

pub not_beaten : {T : Type 0} (before now : List (List ℕ)) (o : Option T) → o ≡ None → StaysTried before now (Ok o) → ⊥
not_beaten before now o is h = subst (λ p. StaysTried before now (Ok p)) is h

pub stays_some : {T : Type 0} (before now : List (List ℕ)) (o : Option T) (given : T) → o ≡ Some given → StaysTried before now (Ok o) → StaysTried before now (Ok (Some given))
stays_some before now o given is h = tt

pub answers_some : {T : Type 0} (now : List (List ℕ)) (o : Option T) (given : T) (c : Register) (answer : Register → Result T RegisterFault) (after : Register → Register) → o ≡ Some given → AnswersTried now (Ok o) c answer after → AnswersTried now (Ok (Some given)) c answer after
answers_some now o given c answer after is h = subst (λ p. AnswersTried now (Ok p) c answer after) is h

-- how the try of an answer ended
abbrev pub try_of : {T : Type 0} → Result T RegisterFault → Result (Option T) RegisterFault
try_of (results.Ok given) = Ok (Some given)
try_of (results.Err fault) = Err fault

stays_same : {T : Type 0} (before now : List (List ℕ)) (result : Result T RegisterFault) → StaysTried before now (try_of result) → OnErr result (now ≡ before)
stays_same before now (results.Ok given) h = tt
stays_same before now (results.Err fault) h = h

on_as : {T : Type 0} (result : Result T RegisterFault) (P Q : Type 0) → (P → Q) → OnErr result P → OnErr result Q
on_as (results.Ok given) P Q f h = tt
on_as (results.Err fault) P Q f h = f h

-- what records lead to, all those lead to that were there before
says_before : {T : Type 0} (own : List ℕ) (before now : List (List ℕ)) (result : Result T RegisterFault) (answer : Register → Result T RegisterFault) (after : Register → Register)
    → Grows before now → Says own before now result answer after → (c : Register) × Leads empty_register (bodies_of before) c
says_before {T = T} own before now result answer after grows s =
    let e = led_before (length before) s.count now s.contents s.since s.leads in
    (e.0, subst (λ v. Leads empty_register (bodies_of v) e.0) (grows_front before now grows) e.1)

damage_is_free : {T : Type 0} (result : Result T RegisterFault) (place : ℕ) → IsErrOf result (faults.Damaged place) → IsFree result
damage_is_free result place is = subst (λ o. IsFree o) (sym is) tt

damage_is_not_memory : {T : Type 0} (result : Result T RegisterFault) (place : ℕ) → IsErrOf result (faults.Damaged place) → IsErrOf result faults.NoMemory → ⊥
damage_is_not_memory {T = T} result place is none = let e : faults.Damaged place ≡ faults.NoMemory = one_refusal {T = T} (faults.Damaged place) faults.NoMemory (sym is ∙ none) in cc e

module _ {C T : Type 0} (g : Ghosts C) (old new : SharedRegister C) (answer : Register → Result T RegisterFault) (after : Register → Register) where
  -- of a register that somebody else may use nothing is said
  pub exact_never : (result : Result T RegisterFault) → (IsSole g old → ⊥) → IsExact g old new result answer after
  exact_never result never = record {
    sole = λ s. absurd (never s);
    same = λ s. absurd (never s);
    whole = λ s. absurd (never s);
    exact = λ c h. absurd (never h.sole);
    damaged = λ place is c h. never h.sole;
  }

  -- it ran out of memory, and nothing has changed
  pub exact_memory : (result : Result T RegisterFault) → IsErrOf result faults.NoMemory → (IsSole g old → IsSole g new × (values_of g new ≡ values_of g old)) → IsExact g old new result answer after
  exact_memory result is stays = record {
    sole = λ s. (stays s).0;
    same = λ s. subst (λ o. OnErr o (values_of g new ≡ values_of g old)) (sym is) (stays s).1;
    whole = λ s. inl (subst (λ o. IsFree o) (sym is) tt);
    exact = λ c h. inl (is, record { sole = (stays h.sole).0; leads = subst (λ v. Leads empty_register (bodies_of v) c) (sym (stays h.sole).1) h.leads });
    damaged = λ place at c h. damage_is_not_memory result place at is;
  }

  -- the last try, behind those before it that have changed nothing
  pub exact_of : (own : List ℕ) (mid : SharedRegister C) (result : Result T RegisterFault) → ((c : Register) → c.armed ≡ None → IsFree (answer c) → ⊥)
      → (IsSole g old → IsSole g mid × (values_of g mid ≡ values_of g old))
      → (IsSole g mid → IsSole g new × StaysTried (values_of g mid) (values_of g new) (try_of result))
      → ((c : Register) → Holds g mid c → AnswersTried (values_of g new) (try_of result) c answer after)
      → Grows (values_of g old) (values_of g new) → IsFree result ⊎ Says own (values_of g old) (values_of g new) result answer after
      → IsExact g old new result answer after
  exact_of own mid result told start stays answers grows says = record {
    sole = λ s. (stays (start s).0).0;
    same = same;
    whole = λ s. elim says [ inl free ↦ inl free | inr says ↦ (let b = says_before own (values_of g old) (values_of g new) result answer after grows says in inr (b.0, record { sole = s; leads = b.1 })) ];
    exact = exact;
    damaged = λ place is c h. elim (exact c h) [
      | inl none ↦ damage_is_not_memory result place is none.0
      | inr by ↦ told c (leads_armed empty_register (bodies_of (values_of g old)) c h.leads) (subst (λ o. IsFree o) by.0 (damage_is_free result place is))
    ];
  }
    where
      same : IsSole g old → OnErr result (values_of g new ≡ values_of g old)
      same s = on_as result (values_of g new ≡ values_of g mid) (values_of g new ≡ values_of g old) (λ e. e ∙ (start s).1) (stays_same (values_of g mid) (values_of g new) result (stays (start s).0).1)

      ends : (c : Register) (r : Result T RegisterFault) → IsSole g new → OnErr r (values_of g new ≡ values_of g old) → LeadsTo g old c → AnswersTried (values_of g new) (try_of r) c answer after
          → (IsErrOf r faults.NoMemory × Holds g new c) ⊎ ((r ≡ answer c) × Holds g new (after c))
      ends c (results.Ok given) s kept leads a = inr (a.0, record { sole = s; leads = a.1 })
      ends c (results.Err fault) s kept leads a = elim a [
        | inl none ↦ inl (ap (λ f. refusal f) none, record { sole = s; leads = subst (λ v. Leads empty_register (bodies_of v) c) (sym kept) leads })
        | inr by ↦ inr (by.0, record { sole = s; leads = subst (λ (b : Register). LeadsTo g new b) (sym by.1) (subst (λ v. Leads empty_register (bodies_of v) c) (sym kept) leads) })
      ]

      exact : (c : Register) → Holds g old c → (IsErrOf result faults.NoMemory × Holds g new c) ⊎ ((result ≡ answer c) × Holds g new (after c))
      exact c h =
          let m = start h.sole in
          ends c result (stays m.0).0 (same h.sole) h.leads (answers c (record { sole = m.0; leads = subst (λ v. Leads empty_register (bodies_of v) c) (sym m.1) h.leads }))

  -- of the refusal that a try's is passed on as
  pub exact_as : (own : List ℕ) (mid : SharedRegister C) (tried result : Result T RegisterFault) → result ≡ tried → ((c : Register) → c.armed ≡ None → IsFree (answer c) → ⊥)
      → (IsSole g old → IsSole g mid × (values_of g mid ≡ values_of g old))
      → (IsSole g mid → IsSole g new × StaysTried (values_of g mid) (values_of g new) (try_of tried))
      → ((c : Register) → Holds g mid c → AnswersTried (values_of g new) (try_of tried) c answer after)
      → Grows (values_of g old) (values_of g new) → IsFree result ⊎ Says own (values_of g old) (values_of g new) result answer after
      → IsExact g old new result answer after
  exact_as own mid tried result is told start stays answers grows says = exact_of own mid result told start
      (λ s. let a = stays s in (a.0, subst (λ r. StaysTried (values_of g mid) (values_of g new) (try_of r)) (sym is) a.1))
      (λ c h. subst (λ r. AnswersTried (values_of g new) (try_of r) c answer after) (sym is) (answers c h)) grows says

  -- a count of failures changes nothing of that
  pub exact_counted : (mid : SharedRegister C) (result : Result T RegisterFault) → IsExact g old mid result answer after → new.records ≡ mid.records → unsettled_of new ≡ unsettled_of mid → IsExact g old new result answer after
  exact_counted mid result x records unsettled = record {
    sole = λ s. sole_on (x.sole s);
    same = λ s. on_as result (values_of g mid ≡ values_of g old) (values_of g new ≡ values_of g old) (λ e. values ∙ e) (x.same s);
    whole = x.whole;
    exact = λ c h. elim (x.exact c h) [ inl none ↦ inl (none.0, holds_on c none.1) | inr by ↦ inr (by.0, holds_on (after c) by.1) ];
    damaged = x.damaged;
  }
    where
      values : values_of g new ≡ values_of g mid
      values = ap (λ r. g.list r) records

      sole_on : IsSole g mid → IsSole g new
      sole_on s = (subst (λ r. g.sole r) (sym records) s.0, unsettled ∙ s.1)

      holds_on : (c : Register) → Holds g mid c → Holds g new c
      holds_on c h = record { sole = sole_on h.sole; leads = subst (λ v. Leads empty_register (bodies_of v) c) (sym values) h.leads }
