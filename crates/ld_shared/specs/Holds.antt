-- What a register over records holds to which nobody else appends.
use Rattle.std.specs.Prelude.{◌≡◌, ◌⊎◌, ℕ, Bool, true, List, [], ◌∷◌, ◌++◌, Option, None, Some, Ok, Err, IsErrOf, IsOk, OnErr}
use Rattle.std.proofs.Common.{sym, subst, ap, inl, inr}
use Rattle.std.specs.declared.result.Result.{Result}
use Rattle.std.specs.declared.result.Result.TheVariants as results
use Rattle.ld_msg.specs.Register.{Register, empty_register}
use Rattle.ld_records.specs.declared.records.Records.{Ghosts}
use Rattle.ld_register.specs.Calls.{IsFree, OneOf, ChangedOrNot, Keeps, unarmed, with_and_without}
use Rattle.ld_register.specs.Changes.{Leads}
use Rattle.ld_register.specs.declared.fault.RegisterFault.{RegisterFault}
use Rattle.ld_register.specs.declared.fault.RegisterFault.TheVariants as faults
use Rattle.ld_register.proofs.Leading.{leads_one, leads_armed}
use Rattle.ld_shared.specs.Bodies.{bodies_of, IsValueOf}
use Rattle.ld_shared.specs.Says.{values_of, unsettled_of, owner_of, granting, refusal}
use Rattle.ld_shared.specs.declared.shared.SharedRegister.{SharedRegister}

-- one try of a call of a register that nobody else uses: it is made or has changed nothing
abbrev pub StaysTried : {T : Type 0} → List (List ℕ) → List (List ℕ) → Result (Option T) RegisterFault → Type 0
StaysTried before now (results.Ok (Some given)) = Unit {0}
StaysTried before now (results.Ok None) = ⊥
StaysTried before now (results.Err fault) = now ≡ before

-- and answers by the contents that the records led to, or runs out of memory
abbrev pub AnswersTried : {T : Type 0} → List (List ℕ) → Result (Option T) RegisterFault → Register → (Register → Result T RegisterFault) → (Register → Register) → Type 0
AnswersTried now (results.Ok (Some given)) c answer after = (granting given ≡ answer c) × Leads empty_register (bodies_of now) (after c)
AnswersTried now (results.Ok None) c answer after = Unit {0}
AnswersTried now (results.Err fault) c answer after = (fault ≡ faults.NoMemory) ⊎ ((refusal fault ≡ answer c) × (after c ≡ c))

-- it doesn't refuse, unless there is no memory left
abbrev pub OnlyMemory : {T : Type 0} → Result T RegisterFault → Type 0
OnlyMemory result = OnErr result (IsErrOf result faults.NoMemory)

-- there is nothing to settle: it answers, and asks nothing of its records
pub record SettlesAlone {C T : Type 0} (old new : SharedRegister C) (result : Result T RegisterFault) : Type 0 where
  pub answers : IsOk result
  pub records : new.records ≡ old.records
  pub unsettled : unsettled_of new ≡ None

-- one value more, of this program and with this body
pub record HasOneMore (own body : List ℕ) (before now : List (List ℕ)) : Type 0 where
  pub value : List ℕ
  pub is : now ≡ before ++ value ∷ []
  pub value_is : IsValueOf own body value

module _ {C : Type 0} (g : Ghosts C) where
  -- nobody else appends to its records
  abbrev pub sole_of : SharedRegister C → Type 0
  sole_of r = g.sole r.records

  -- and no change is unsettled
  abbrev pub IsSole : SharedRegister C → Type 0
  IsSole r = sole_of r × (unsettled_of r ≡ None)

  -- the next record is made, or there is no memory left and it isn't
  pub record AppendsAlone (body : List ℕ) (old new : SharedRegister C) (result : Result Bool RegisterFault) : Type 0 where
    pub sole : IsSole new
    pub made : ((result ≡ Ok true) × HasOneMore (owner_of old) body (values_of g old) (values_of g new)) ⊎ ((result ≡ Err faults.NoMemory) × (values_of g new ≡ values_of g old))

  -- all its records lead to these contents
  abbrev pub LeadsTo : SharedRegister C → Register → Type 0
  LeadsTo r c = Leads empty_register (bodies_of (values_of g r)) c

  pub record Holds (r : SharedRegister C) (c : Register) : Type 0 where
    pub sole : IsSole r
    pub leads : LeadsTo r c

  -- records don't fall back in a crash
  abbrev pub MayHold : SharedRegister C → Register → Type 0
  MayHold r c = IsSole r → LeadsTo r c

  abbrev pub LeavesOneOf : SharedRegister C → List Register → Type 0
  LeavesOneOf r cs = OneOf (Holds r) cs

  abbrev pub HoldsNothing : SharedRegister C → Type 0
  HoldsNothing r = (c : Register) → Holds r c → ⊥

  -- a whole call of a register that nobody else uses: it answers by what it holds and holds what its change makes of that, or
  -- it runs out of memory and has changed nothing
  pub record IsExact {T : Type 0} (old new : SharedRegister C) (result : Result T RegisterFault) (answer : Register → Result T RegisterFault) (after : Register → Register) : Type 0 where
    pub sole : IsSole old → IsSole new
    pub same : IsSole old → OnErr result (values_of g new ≡ values_of g old)
    pub whole : IsSole old → IsFree result ⊎ ((c : Register) × Holds old c)
    pub exact : (c : Register) → Holds old c → (IsErrOf result faults.NoMemory × Holds new c) ⊎ ((result ≡ answer c) × Holds new (after c))
    pub damaged : (place : ℕ) → IsErrOf result (faults.Damaged place) → HoldsNothing old

  -- what the trait says of a call that changes something
  pub record MeetsAlone {T : Type 0} (old new : SharedRegister C) (result : Result T RegisterFault) (answer : Register → Result T RegisterFault) (after : Register → Register) : Type 0 where
    pub answers : (c : Register) → Holds old c → IsFree result ⊎ ((result ≡ answer c) × Holds new (after c))
    pub told : IsSole old → IsSole new
    pub whole : IsSole old → IsFree result ⊎ ((c : Register) × Holds old c)
    pub settled : IsSole old → IsFree result ⊎ ((c : Register) → MayHold new c → Holds new c)
    pub sure : IsSole old → IsFree result ⊎ ((c : Register) × Holds new c × LeavesOneOf new (c ∷ []))
    pub done_or_not : IsSole old → ChangedOrNot (MayHold old) (MayHold new) after
    pub survives : (cs : List Register) → IsSole old → LeavesOneOf old cs → LeavesOneOf new (with_and_without after cs)
    pub keeps : IsErrOf result faults.Failed ⊎ OnErr result (Keeps (Holds old) (Holds new) (MayHold old) (MayHold new))
    pub exact : (c : Register) → Holds old c → (IsErrOf result faults.NoMemory × Holds new c) ⊎ ((result ≡ answer c) × Holds new (after c))
    pub damaged : (place : ℕ) → IsErrOf result (faults.Damaged place) → IsSole old → HoldsNothing old

  -- and of a look
  pub record LooksAlone {T : Type 0} (old new : SharedRegister C) (result : Result T RegisterFault) (answer : Register → Result T RegisterFault) : Type 0 where
    pub answers : (c : Register) → Holds old c → IsFree result ⊎ ((result ≡ answer c) × Holds new c)
    pub told : IsSole old → IsSole new
    pub whole : IsSole old → IsFree result ⊎ ((c : Register) × Holds old c)
    pub settled : IsSole old → IsFree result ⊎ ((c : Register) → MayHold new c → Holds new c)
    pub sure : IsSole old → IsFree result ⊎ ((c : Register) × Holds new c × LeavesOneOf new (c ∷ []))
    pub same : (c : Register) → MayHold new c → MayHold old c
    pub survives : (cs : List Register) → IsSole old → LeavesOneOf old cs → LeavesOneOf new cs
    pub keeps : IsErrOf result faults.Failed ⊎ Keeps (Holds old) (Holds new) (MayHold old) (MayHold new)
    pub exact : (c : Register) → Holds old c → (IsErrOf result faults.NoMemory ⊎ (result ≡ answer c)) × Holds new c
    pub damaged : (place : ℕ) → IsErrOf result (faults.Damaged place) → IsSole old → HoldsNothing old

  -- ---- the laws of a register ----

  pub holds_one : (r : SharedRegister C) (c d : Register) → Holds r c → Holds r d → c ≡ d
  holds_one r c d h k = leads_one empty_register (bodies_of (values_of g r)) c d h.leads k.leads

  pub left_alone : (r : SharedRegister C) (cs : List Register) (c : Register) → LeavesOneOf r cs → MayHold r c → OneOf (λ d. d ≡ c) cs
  left_alone r [] c h m = h
  left_alone r (d ∷ cs) c (inl h) m = inl (leads_one empty_register (bodies_of (values_of g r)) d c h.leads (m h.sole))
  left_alone r (d ∷ cs) c (inr h) m = inr (left_alone r cs c h m)

  pub holds_unarmed : (r : SharedRegister C) (c : Register) → Holds r c → Holds r (unarmed c)
  holds_unarmed r c h = subst (λ a. Holds r (record c { armed = a })) (leads_armed empty_register (bodies_of (values_of g r)) c h.leads) h
