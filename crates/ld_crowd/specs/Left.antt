-- What peers have yet to say, where a crowd tells it: for each by its number, those who are still to come among them.
use Rattle.std.specs.Prelude.{◌≡◌, ◌≤◌, ℕ, zero, suc, List, [], ◌∷◌, length, take, drop, Option, Some}
use Rattle.std.specs.declared.result.Result.{Result}
use Rattle.std.specs.declared.result.Result.TheVariants.{Ok, Err}
use Rattle.ld_crowd.specs.declared.Heard.{Heard}
use Rattle.ld_crowd.specs.declared.Heard.TheVariants as reads

-- of this peer
abbrev pub left_of : ℕ → List (List ℕ) → List ℕ
left_of peer [] = []
left_of zero (bytes ∷ more) = bytes
left_of (suc peer) (bytes ∷ more) = left_of peer more

-- without the first n bytes of this peer
abbrev pub drop_of : ℕ → ℕ → List (List ℕ) → List (List ℕ)
drop_of peer n [] = []
drop_of zero n (bytes ∷ more) = drop n bytes ∷ more
drop_of (suc peer) n (bytes ∷ more) = bytes ∷ drop_of peer n more

-- n bytes of the peer stand in the buffer's front
pub record HearsOf (old : List (List ℕ)) (new : Option (List (List ℕ))) (peer : ℕ) (buf : List ℕ) (n : ℕ) : Type 0 where
  pub left : new ≡ Some (drop_of peer n old)
  pub bytes : take n buf ≡ take n (left_of peer old)
  pub most : n ≤ length (left_of peer old)

-- nothing is left of it
pub record EndsOf (old : List (List ℕ)) (new : Option (List (List ℕ))) (peer : ℕ) : Type 0 where
  pub left : new ≡ Some old
  pub all : left_of peer old ≡ []

-- what a read does, by what it answers
abbrev pub Gives : List (List ℕ) → Option (List (List ℕ)) → ℕ → List ℕ → Heard → Type 0
Gives old new peer buf (reads.Some n) = HearsOf old new peer buf n
Gives old new peer buf reads.Later = new ≡ Some old
Gives old new peer buf reads.End = EndsOf old new peer

abbrev pub Hears : {E : Type 0} → List (List ℕ) → Option (List (List ℕ)) → ℕ → List ℕ → Result Heard E → Type 0
Hears old new peer buf (Ok heard) = Gives old new peer buf heard
Hears old new peer buf (Err e) = new ≡ Some old
