-- The whole of an input, of which a part was given.
use Rattle.std.specs.Prelude.{◌≡◌, ℕ, List, [], ◌++◌, length, drop, Option, None, Some, Bool, true}
use Rattle.std.proofs.Common.{refl, sym}
use Rattle.std.proofs.lemmas.List.{append-nil}

-- these bytes begin with those
pub record Front (front all : List ℕ) : Type 0 where
  pub rest : List ℕ
  pub is : all ≡ front ++ rest

-- some bytes are of this kind
pub record IsSome (Of : List ℕ → Type 0) : Type 0 where
  pub all : List ℕ
  pub may : Of all

-- what is left of a whole input of which this much was given
abbrev pub left_in : List ℕ → List ℕ → Option (List ℕ)
left_in all gave = Some (drop (length gave) all)

-- the same where the whole input is known
abbrev pub left_of : Option (List ℕ) → List ℕ → Option (List ℕ)
left_of None gave = None
left_of (Some all) gave = left_in all gave

-- these bytes and then any, or no more once the end was told
pub record Follows (ended : Bool) (gave all : List ℕ) : Type 0 where
  pub front : Front gave all
  pub ends : ended ≡ true → all ≡ gave

-- no more so far
pub itself : (ended : Bool) (gave : List ℕ) → Follows ended gave gave
itself ended gave = record { front = record { rest = []; is = sym (append-nil gave) }; ends = λ _. refl }
