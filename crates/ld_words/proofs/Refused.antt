-- What the exit of a `?` says: an argument that is refused is one of no command's words.
use Rattle.std.proofs.Common.{◌≡◌, ◌∙◌, None, Some, Ok, Err, sym}
use Rattle.std.specs.Prelude.{Option, Result, MatchResult, IsErrAnd}
use Rattle.ld_words.specs.declared.refusal.Refusal.{Refusal}
use Rattle.ld_words.specs.Refuses.{Refuses}

-- the exit's refusal is the argument's
pub refused : {W : Type 0} (r : Result W Refusal) (e : Refusal) (Good : W → Type 0) (A B : Type 0) → IsErrAnd r (λ y. y ≡ e) → Refuses A e → (A → B)
    → MatchResult r Good (Refuses B)
refused (Ok w) e Good A B is none from = absurd is
refused (Err y) e Good A B is none from = λ other. from (none (λ memory. other (is ∙ memory)))

-- the same, where each of the words would have the argument
pub refused_one : {W : Type 0} (r : Result W Refusal) (e : Refusal) (Good : W → Type 0) (A : Type 0) → IsErrAnd r (λ y. y ≡ e) → Refuses A e
    → ((w : W) → Good w → A → ⊥) → MatchResult r Good (Refuses ((w : W) → Good w → ⊥))
refused_one {W} r e Good A is none from = refused r e Good A ((w : W) → Good w → ⊥) is none (λ a w good. from w good a)

-- what is there isn't missing
pub not_none : {X : Type 0} (o : Option X) (x : X) → o ≡ Some x → o ≡ None → ⊥
not_none o x is none = let e : Some x ≡ None = sym is ∙ none in absurd cc
