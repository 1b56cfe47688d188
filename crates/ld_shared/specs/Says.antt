-- What a call of a register over records says, and of which records.
use Rattle.std.specs.Prelude.{◌≡◌, ◌≤◌, ◌⊎◌, ◌+◌, ℕ, List, [], ◌∷◌, ◌++◌, Option, None, Some, IfSome, length, take, Ok, Err}
use Rattle.std.specs.declared.result.Result.{Result}
use Rattle.std.specs.declared.result.Result.TheVariants as results
use Rattle.ld_msg.specs.Register.{Register, empty_register}
use Rattle.ld_records.specs.Growth.{Grows, IsAt, IsTaken}
use Rattle.ld_records.specs.declared.records.Records.{Ghosts}
use Rattle.ld_register.specs.Calls.{IsFree}
use Rattle.ld_register.specs.Changes.{Leads}
use Rattle.ld_register.specs.declared.fault.RegisterFault.{RegisterFault}
use Rattle.ld_shared.specs.Bodies.{bodies_of, IsValueOf, owner, owner_length}
use Rattle.ld_shared.specs.declared.shared.Unsettled.{Unsettled}
use Rattle.ld_shared.specs.declared.shared.SharedRegister.{SharedRegister}

abbrev pub granting : {T : Type 0} → T → Result T RegisterFault
granting given = Ok given

abbrev pub refusal : {T : Type 0} → RegisterFault → Result T RegisterFault
refusal fault = Err fault

-- it may come at any point, whatever is asked
abbrev pub IsFreeFault : RegisterFault → Type 0
IsFreeFault fault = IsFree (refusal {T = Unit {0}} fault)

-- the first so many records lead to these contents
abbrev pub LeadTo : ℕ → List (List ℕ) → Register → Type 0
LeadTo n values c = Leads empty_register (bodies_of (take n values)) c

-- the record of this number is this program's, and the contents behind it are these
pub record IsMade (own : List ℕ) (n : ℕ) (values : List (List ℕ)) (d : Register) : Type 0 where
  pub value : List ℕ
  pub there : IsAt n value values
  pub owned : take owner_length value ≡ own
  pub leads : LeadTo (n + 1) values d

-- the answer is the one of the contents that the first so many records lead to, no fewer than were known before; and what the
-- call makes of these is made by the next record, which is this program's, or is nothing
pub record Says {T : Type 0} (own : List ℕ) (before now : List (List ℕ)) (result : Result T RegisterFault) (answer : Register → Result T RegisterFault) (after : Register → Register) : Type 0 where
  pub count : ℕ
  pub since : length before ≤ count
  pub there : count ≤ length now
  pub contents : Register
  pub leads : LeadTo count now contents
  pub told : result ≡ answer contents
  pub stands : (after contents ≡ contents) ⊎ IsMade own count now (after contents)

-- what a call makes of contents is made by the record of this body, or is nothing
abbrev pub IsMadeBy : List (List ℕ) → Register → Register → Option (List ℕ) → Type 0
IsMadeBy values c d None = d ≡ c
IsMadeBy values c d (Some body) = Leads empty_register (bodies_of values ++ body ∷ []) d

-- a call answered by the contents that the values lead to, and its change is to be the next record with this body
pub record Decided {T : Type 0} (values : List (List ℕ)) (given : T) (body : Option (List ℕ)) (answer : Register → Result T RegisterFault) (after : Register → Register) : Type 0 where
  pub contents : Register
  pub leads : Leads empty_register (bodies_of values) contents
  pub told : granting given ≡ answer contents
  pub made : IsMadeBy values contents (after contents) body

-- one try of a call: it answered, or another program was quicker
abbrev pub Tried : {T : Type 0} → List ℕ → List (List ℕ) → List (List ℕ) → Result (Option T) RegisterFault → (Register → Result T RegisterFault) → (Register → Register) → Type 0
Tried own before now (results.Ok (Some given)) answer after = Says own before now (Ok given) answer after
Tried own before now (results.Ok None) answer after = Unit {0}
Tried {T = T} own before now (results.Err fault) answer after = IsFree (refusal {T = T} fault) ⊎ Says own before now (Err fault) answer after

-- what holds of each answer holds of this one, where it answered
abbrev pub FitsTried : {T : Type 0} → (Result T RegisterFault → Type 0) → Result (Option T) RegisterFault → Type 0
FitsTried fits (results.Ok (Some given)) = fits (Ok given)
FitsTried fits (results.Ok None) = Unit {0}
FitsTried fits (results.Err fault) = fits (Err fault)

-- ---- a change whose outcome isn't known ----

-- its number has a value, its own or another one, so that it can't be made any more
abbrev pub IsSettled : List (List ℕ) → Option Unsettled → Type 0
IsSettled values None = Unit {0}
IsSettled values (Some u) = IsAt u.number u.value.items values ⊎ IsTaken u.number u.value.items values

-- where it is made, as the record of its number, it makes what the call makes of the contents before it
pub record IsLate (own : List ℕ) (values : List (List ℕ)) (after : Register → Register) (u : Unsettled) : Type 0 where
  pub there : u.number ≤ length values
  pub contents : Register
  pub leads : LeadTo u.number values contents
  pub body : List ℕ
  pub value_is : IsValueOf own body u.value.items
  pub makes : Leads empty_register (bodies_of (take u.number values) ++ body ∷ []) (after contents)

-- ---- a whole call ----

module _ {C : Type 0} where
  -- what the values of this program begin with
  abbrev pub owner_of : SharedRegister C → List ℕ
  owner_of r = owner r.mark

  abbrev pub unsettled_of : SharedRegister C → Option Unsettled
  unsettled_of r = r.unsettled

module _ {C : Type 0} (g : Ghosts C) where
  -- the records that are known to be there
  abbrev pub values_of : SharedRegister C → List (List ℕ)
  values_of r = g.list r.records

  -- what wasn't settled before the call is settled, and what isn't now is its own change; or it refused, and all is as it was
  abbrev pub Settles : {T : Type 0} → SharedRegister C → SharedRegister C → Result T RegisterFault → (Register → Register) → Type 0
  Settles old new result after = (IsSettled (values_of new) (unsettled_of old) × IfSome (unsettled_of new) (IsLate (owner_of old) (values_of new) after))
      ⊎ (IsFree result × (unsettled_of new ≡ unsettled_of old))

  -- unless its refusal may come at any point, the answer is the one of contents that records lead to; and what wasn't settled
  -- before it is settled, or the call refuses and it still isn't
  pub record Answers {T : Type 0} (old new : SharedRegister C) (result : Result T RegisterFault) (answer : Register → Result T RegisterFault) (after : Register → Register) : Type 0 where
    pub grows : Grows (values_of old) (values_of new)
    pub same_owner : owner_of new ≡ owner_of old
    pub says : IsFree result ⊎ Says (owner_of old) (values_of old) (values_of new) result answer after
    pub settles : Settles old new result after
