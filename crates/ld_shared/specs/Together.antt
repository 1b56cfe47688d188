-- The answered calls of several programs that share records, as one list of calls.
use Rattle.std.specs.Prelude.{◌≡◌, ◌≢◌, ◌≤◌, ◌<◌, ◌⊎◌, ◌+◌, ℕ, Bool, true, false, if◌then◌else◌, List, [], ◌∷◌, ◌++◌, length}
use Rattle.ld_msg.specs.Register.{Register}
use Rattle.ld_register.specs.Histories.{Call, Passes}
use Rattle.ld_shared.specs.Says.{LeadTo, IsMade, values_of, owner_of}
use Rattle.ld_shared.specs.declared.shared.SharedRegister.{SharedRegister}
use Rattle.ld_records.specs.declared.records.Records.{Ghosts}

-- an answered call: whose it is, how many records lead to the contents that it was answered by, whether it made the next record,
-- and the call with its answer
pub record Said : Type 0 where
  pub own : List ℕ
  pub count : ℕ
  pub makes : Bool
  pub call : Call

-- the change of a call is the record of this number, or is nothing
abbrev pub Changes : Bool → List ℕ → ℕ → List (List ℕ) → Register → Register → Type 0
Changes true own n values c d = IsMade own n values d
Changes false own n values c d = d ≡ c

-- it was answered by the contents that those records lead to
pub record Stands (values : List (List ℕ)) (s : Said) : Type 0 where
  pub before : Register
  pub now : Register
  pub leads : LeadTo s.count values before
  pub passes : Passes before s.call now
  pub changes : Changes s.makes s.own s.count values before now

-- how many records there are behind a call
abbrev pub count_behind : Said → ℕ
count_behind s = if s.makes then s.count + 1 else s.count

-- these calls were answered one after the other, between so many records and so many
abbrev pub InOrder : List (List ℕ) → ℕ → List Said → ℕ → Type 0
InOrder values n [] m = n ≤ m
InOrder values n (s ∷ ss) m = (n ≤ s.count) × Stands values s × InOrder values (count_behind s) ss m

-- they are this program's
abbrev pub AreOf : List ℕ → List Said → Type 0
AreOf own [] = Unit {0}
AreOf own (s ∷ ss) = (s.own ≡ own) × AreOf own ss

-- a program, by what its values begin with, and its answered calls in its order
pub record User : Type 0 where
  pub own : List ℕ
  pub calls : List Said

abbrev pub IsNone : List ℕ → List User → Type 0
IsNone own [] = Unit {0}
IsNone own (u ∷ us) = (own ≢ u.own) × IsNone own us

-- each program's calls are its own and in order, and no two programs have the same mark
abbrev pub AreUsers : List (List ℕ) → List User → ℕ → Type 0
AreUsers values [] m = Unit {0}
AreUsers values (u ∷ us) m = AreOf u.own u.calls × InOrder values 0 u.calls m × IsNone u.own us × AreUsers values us m

-- a list has the members of two lists, those of each in its order
abbrev pub IsMerge : List Said → List Said → List Said → Type 0
IsMerge xs ys [] = (xs ≡ []) × (ys ≡ [])
IsMerge xs ys (z ∷ zs) = ((more : List Said) × (xs ≡ z ∷ more) × IsMerge more ys zs) ⊎ ((more : List Said) × (ys ≡ z ∷ more) × IsMerge xs more zs)

-- a list has the calls of these programs, those of each in its order
abbrev pub AreAllOf : List User → List Said → Type 0
AreAllOf [] ss = ss ≡ []
AreAllOf (u ∷ us) ss = (others : List Said) × AreAllOf us others × IsMerge u.calls others ss

-- among these calls are those, in their order
abbrev pub AreAmong : List Said → List Call → Type 0
AreAmong ss [] = ss ≡ []
AreAmong ss (x ∷ xs) = ((s : Said) × (more : List Said) × (ss ≡ s ∷ more) × (s.call ≡ x) × AreAmong more xs) ⊎ AreAmong ss xs

-- each record is the change of a call, answered or not
abbrev pub AreCalls : List (List ℕ) → Type 0
AreCalls values = (n : ℕ) → n < length values → (c d : Register) → LeadTo n values c → LeadTo (n + 1) values d → (x : Call) × Passes c x d

-- the record of this number is the change of a call of the contents before it, answered or not
pub record IsChangeAt (n : ℕ) (values : List (List ℕ)) : Type 0 where
  pub before : Register
  pub now : Register
  pub call : Call
  pub leads : LeadTo n values before
  pub passes : Passes before call now
  pub makes : LeadTo (n + 1) values now

module _ {C : Type 0} (g : Ghosts C) where
  -- a call of a register is one more of its program's answered calls, behind those before
  abbrev pub IsOneMore : SharedRegister C → SharedRegister C → List (List ℕ) → List Said → Call → Type 0
  IsOneMore old new values calls x = AreOf (owner_of old) calls → InOrder values 0 calls (length (values_of g old))
      → (s : Said) × (s.call ≡ x) × AreOf (owner_of new) (calls ++ s ∷ []) × InOrder values 0 (calls ++ s ∷ []) (length (values_of g new))
