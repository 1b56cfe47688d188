-- A measure that falls at each step bounds the steps of a calm, and nothing is left after them.
use Rattle.std.proofs.Common.{◌≡◌, ◌≤◌, ℕ, zero, suc, ◌+◌, refl, List, [], ◌∷◌, length, Option, Some, None, arith}
use Rattle.ld_config.specs.declared.config.Config.{Config}
use Rattle.ld_machine.specs.State.{State}
use Rattle.ld_machine.specs.Calm.{Left, Move, Next, next_of, moved, steps_from}
use Rattle.ld_calm.specs.Ends.{AreSteps}

module _ (c : Config) (Holds : State → List Left → ℕ → Type 0)
    (falls : (s : State) (ps : List Left) (n : ℕ) → Holds s ps n → (x : Next) → next_of c s ps ≡ Some x → (m : ℕ) × Holds (moved c s x.move).state x.left m × (m + 1 ≤ n)) where
  ends_by : (k : ℕ) (s : State) (ps : List Left) (o : Option Next) → next_of c s ps ≡ o → ((x : Next) → o ≡ Some x → AreSteps c (moved c s x.move).state x.left (steps_from k c (moved c s x.move).state x.left))
      → AreSteps c s ps (elim o as (λ _. List Move) [ None ↦ [] | Some x ↦ x.move ∷ steps_from k c (moved c s x.move).state x.left ])
  ends_by k s ps None e h = e
  ends_by k s ps (Some x) e h = (x.left, e, h x refl)

  -- with as much fuel as the measure says, the steps are all
  pub fuel_enough : (k n : ℕ) (s : State) (ps : List Left) → Holds s ps n → n ≤ k → AreSteps c s ps (steps_from k c s ps)
  unfolding steps_from
  fuel_enough zero n s ps h l = none_left (next_of c s ps) refl where
    none_left : (o : Option Next) → next_of c s ps ≡ o → next_of c s ps ≡ None
    none_left None e = e
    none_left (Some x) e = absurd (let z = falls s ps n h x e in let w = z.2 in omega arith)
  fuel_enough (suc k) n s ps h l = ends_by k s ps (next_of c s ps) refl (λ x e. let z = falls s ps n h x e in fuel_enough k z.0 (moved c s x.move).state x.left z.1 (let w = z.2 in omega arith))

  few_by : (k n : ℕ) (s : State) (ps : List Left) (o : Option Next) → next_of c s ps ≡ o → Holds s ps n → ((x : Next) → o ≡ Some x → length (steps_from k c (moved c s x.move).state x.left) + 1 ≤ n)
      → length (elim o as (λ _. List Move) [ None ↦ [] | Some x ↦ x.move ∷ steps_from k c (moved c s x.move).state x.left ]) ≤ n
  few_by k n s ps None e h f = omega arith
  few_by k n s ps (Some x) e h f = let l = f x refl in omega arith

  -- and with any fuel there are no more than the measure says
  pub steps_few : (k n : ℕ) (s : State) (ps : List Left) → Holds s ps n → length (steps_from k c s ps) ≤ n
  unfolding steps_from
  steps_few zero n s ps h = omega arith
  steps_few (suc k) n s ps h = few_by k n s ps (next_of c s ps) refl h (λ x e. let z = falls s ps n h x e in let l = steps_few k z.0 (moved c s x.move).state x.left z.1 in let w = z.2 in omega arith)
