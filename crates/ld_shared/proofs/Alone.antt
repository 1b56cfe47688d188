-- A register that nobody else uses, as a register that tells what it holds.
use Rattle.std.proofs.Common.{◌≡◌, ◌≢◌, ◌⊎◌, inl, inr, ℕ, List, [], ◌∷◌, Result, Ok, Err, refl, sym, ◌∙◌, ap, subst}
use Rattle.std.specs.Result.{IsErrOf, OnErr}
use Rattle.std.specs.declared.result.Result.TheVariants as results
use Rattle.ld_msg.specs.Register.{Register, empty_register}
use Rattle.ld_records.specs.declared.records.Records.{Ghosts}
use Rattle.ld_records.specs.Growth.{Grows}
use Rattle.ld_register.specs.Calls.{IsFree, OneOf, ChangedOrNot, Keeps, with_and_without}
use Rattle.ld_register.specs.Changes.{Leads}
use Rattle.ld_register.specs.declared.fault.RegisterFault.{RegisterFault}
use Rattle.ld_register.specs.declared.fault.RegisterFault.TheVariants as faults
use Rattle.ld_register.proofs.Leading.{leads_one}
use Rattle.ld_shared.specs.Bodies.{bodies_of}
use Rattle.ld_shared.specs.Holds.{IsSole, LeadsTo, Holds, MayHold, LeavesOneOf, HoldsNothing, IsExact, MeetsAlone, LooksAlone, holds_one}
use Rattle.ld_shared.specs.Says.{values_of}
use Rattle.ld_shared.specs.declared.shared.SharedRegister.{SharedRegister}

-- a refusal is one
on_free : {T : Type 0} (r : Result T RegisterFault) (P : Type 0) → IsFree r → OnErr r P → P
on_free (results.Ok given) P free h = absurd free
on_free (results.Err fault) P free h = h

free_of : {T : Type 0} (r : Result T RegisterFault) → IsErrOf r faults.NoMemory → IsFree r
free_of r is = subst (λ o. IsFree o) (sym is) tt

module _ {C T : Type 0} (g : Ghosts C) (old new : SharedRegister C) (result : Result T RegisterFault) (answer : Register → Result T RegisterFault) (after : Register → Register) (x : IsExact g old new result answer after) where
  pub sole_answers : (c : Register) → Holds g old c → IsFree result ⊎ ((result ≡ answer c) × Holds g new (after c))
  sole_answers c h = elim (x.exact c h) [ inl none ↦ inl (free_of result none.0) | inr told ↦ inr told ]

  pub sole_settled : IsSole g old → IsFree result ⊎ ((c : Register) → MayHold g new c → Holds g new c)
  sole_settled s = inr (λ c m. record { sole = x.sole s; leads = m (x.sole s) })

  pub sole_sure : IsSole g old → IsFree result ⊎ ((c : Register) × Holds g new c × LeavesOneOf g new (c ∷ []))
  sole_sure s = elim (x.whole s) [
    | inl free ↦ inl free
    | inr held ↦ (elim (sole_answers held.0 held.1) [ inl free ↦ inl free | inr told ↦ inr (after held.0, told.1, inl told.1) ])
  ]

  -- where it refuses, it holds what it held
  kept : IsSole g old → (values_of g new ≡ values_of g old) → (c : Register) → LeadsTo g new c → LeadsTo g old c
  kept s same c leads = subst (λ v. Leads empty_register (bodies_of v) c) same leads

  pub sole_done_or_not : IsSole g old → ChangedOrNot (MayHold g old) (MayHold g new) after
  sole_done_or_not s d m = elim (x.whole s) [
    | inl free ↦ (d, (λ t. kept s (on_free result _ free (x.same s)) d (m (x.sole s))), inl refl)
    | inr held ↦ (
      held.0,
      (λ t. held.1.leads),
      (elim (x.exact held.0 held.1) [
        | inl none ↦ inl (leads_one empty_register (bodies_of (values_of g new)) d held.0 (m none.1.sole) none.1.leads)
        | inr told ↦ inr (leads_one empty_register (bodies_of (values_of g new)) d (after held.0) (m told.1.sole) told.1.leads)
      ]),
    )
  ]

  pub sole_survives : (cs : List Register) → LeavesOneOf g old cs → LeavesOneOf g new (with_and_without after cs)
  sole_survives [] h = h
  sole_survives (c ∷ cs) (inl h) = elim (x.exact c h) [ inl none ↦ inl none.1 | inr told ↦ inr (inl told.1) ]
  sole_survives (c ∷ cs) (inr h) = inr (inr (sole_survives cs h))

-- where it refuses, nothing has changed
keeps_by : {C T : Type 0} (g : Ghosts C) (old new : SharedRegister C) (result : Result T RegisterFault) → (IsSole g old → IsSole g new) → (IsSole g old → OnErr result (values_of g new ≡ values_of g old))
    → OnErr result (Keeps (Holds g old) (Holds g new) (MayHold g old) (MayHold g new))
keeps_by g old new (results.Ok given) sole same = tt
keeps_by g old new (results.Err fault) sole same = record {
  held = λ c h. record { sole = sole h.sole; leads = subst (λ v. Leads empty_register (bodies_of v) c) (sym (same h.sole)) h.leads };
  may = λ c m s. subst (λ v. Leads empty_register (bodies_of v) c) (same s) (m (sole s));
}

pub sole_keeps : {C T : Type 0} (g : Ghosts C) (old new : SharedRegister C) (result : Result T RegisterFault) (answer : Register → Result T RegisterFault) (after : Register → Register) → IsExact g old new result answer after
    → IsErrOf result faults.Failed ⊎ OnErr result (Keeps (Holds g old) (Holds g new) (MayHold g old) (MayHold g new))
sole_keeps g old new result answer after x = inr (keeps_by g old new result x.sole x.same)

-- ---- a look, which changes nothing ----

module _ {C T : Type 0} (g : Ghosts C) (old new : SharedRegister C) (result : Result T RegisterFault) (answer : Register → Result T RegisterFault) (x : IsExact g old new result answer (λ c. c)) where
  pub look_exact : (c : Register) → Holds g old c → (IsErrOf result faults.NoMemory ⊎ (result ≡ answer c)) × Holds g new c
  look_exact c h = elim (x.exact c h) [ inl none ↦ (inl none.0, none.1) | inr told ↦ (inr told.0, told.1) ]

  pub look_same : (c : Register) → MayHold g new c → MayHold g old c
  look_same c m s = elim (x.whole s) [
    | inl free ↦ kept g old new result answer (λ c. c) x s (on_free result _ free (x.same s)) c (m (x.sole s))
    | inr held ↦ (let h = (look_exact held.0 held.1).1 in subst (λ d. LeadsTo g old d) (leads_one empty_register (bodies_of (values_of g new)) held.0 c h.leads (m h.sole)) held.1.leads)
  ]

  pub look_keeps : IsErrOf result faults.Failed ⊎ Keeps (Holds g old) (Holds g new) (MayHold g old) (MayHold g new)
  look_keeps = inr (record { held = λ c h. (look_exact c h).1; may = look_same })

  pub look_survives : (cs : List Register) → LeavesOneOf g old cs → LeavesOneOf g new cs
  look_survives [] h = h
  look_survives (c ∷ cs) (inl h) = inl (look_exact c h).1
  look_survives (c ∷ cs) (inr h) = inr (look_survives cs h)

-- ---- whole calls ----

pub meets_alone : {C T : Type 0} (g : Ghosts C) (old new : SharedRegister C) (result : Result T RegisterFault) (answer : Register → Result T RegisterFault) (after : Register → Register) → IsExact g old new result answer after
    → MeetsAlone g old new result answer after
meets_alone g old new result answer after x = record {
  answers = sole_answers g old new result answer after x;
  told = x.sole;
  whole = x.whole;
  settled = sole_settled g old new result answer after x;
  sure = sole_sure g old new result answer after x;
  done_or_not = sole_done_or_not g old new result answer after x;
  survives = λ cs s l. sole_survives g old new result answer after x cs l;
  keeps = sole_keeps g old new result answer after x;
  exact = x.exact;
  damaged = λ place is s. x.damaged place is;
}

pub looks_alone : {C T : Type 0} (g : Ghosts C) (old new : SharedRegister C) (result : Result T RegisterFault) (answer : Register → Result T RegisterFault) → IsExact g old new result answer (λ c. c)
    → LooksAlone g old new result answer
looks_alone g old new result answer x = record {
  answers = sole_answers g old new result answer (λ c. c) x;
  told = x.sole;
  whole = x.whole;
  settled = sole_settled g old new result answer (λ c. c) x;
  sure = sole_sure g old new result answer (λ c. c) x;
  same = look_same g old new result answer x;
  survives = λ cs s l. look_survives g old new result answer x cs l;
  keeps = look_keeps g old new result answer x;
  exact = look_exact g old new result answer x;
  damaged = λ place is s. x.damaged place is;
}
