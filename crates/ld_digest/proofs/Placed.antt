-- A digest with one node's part changed.
use Rattle.std.proofs.Common.{◌≡◌, ℕ, zero, suc, ◌+◌, ◌<◌, List, [], ◌∷◌, length, map, set, get_or, Bool, true, false, refl, ap, sym, ◌∙◌, arith}
use Rattle.std.specs.Prelude.{◌==◌, ◌&&◌, ◌||◌, not, if◌then◌else◌}
use Rattle.std.proofs.lemmas.Bool.{eq-eqb, ne_eqb}
use Rattle.std.proofs.lemmas.Bool.Decides.{nat_tests}
use Rattle.ld_table.specs.Words.{is_in}
use Rattle.ld_ids.specs.Set.{members, members_from}
use Rattle.ld_msg.specs.declared.msg.Body.{Body}
use Rattle.ld_msg.specs.declared.msg.Body.TheVariants as bodies
use Rattle.ld_msg.specs.Digest.{Told, takes_page}
use Rattle.ld_msg.specs.Sequencer.{takes_any, next_ask}
use Rattle.ld_digest.specs.Gathering.{nodes_told, IsNodeAt}

-- no number stands twice
abbrev pub Apart : List ℕ → Type 0
Apart [] = Unit {0}
Apart (n ∷ ns) = (is_in n ns ≡ false) × Apart ns

below : (n k : ℕ) (flags : List Bool) → n < k → is_in n (members_from k flags) ≡ false
unfolding members_from
below n k [] h = refl
below n k (true ∷ flags) h = grind (arith, nat_tests, below n (k + 1) flags)
below n k (false ∷ flags) h = below n (k + 1) flags (omega arith)

apart_from : (k : ℕ) (flags : List Bool) → Apart (members_from k flags)
unfolding members_from
apart_from k [] = tt
apart_from k (true ∷ flags) = (below k (k + 1) flags (omega arith), apart_from (k + 1) flags)
apart_from k (false ∷ flags) = apart_from (k + 1) flags

pub apart_members : (flags : List Bool) → Apart (members flags)
apart_members flags = apart_from 1 flags

module _ (y : ℕ) where
  is_there : (d : List Told) (i : ℕ) → IsNodeAt d i y → is_in y (nodes_told d) ≡ true
  is_there [] i e = absurd cc
  is_there (t ∷ d) zero e = let same : t.node ≡ y = cc in grind (arith, nat_tests)
  is_there (t ∷ d) (suc i) e = let r = is_there d i e in grind (arith, nat_tests)

  other : (t : Told) (d : List Told) (i : ℕ) → Apart (nodes_told (t ∷ d)) → IsNodeAt d i y → t.node ≡ y → ⊥
  other t d i a e same = let there : is_in t.node (nodes_told d) ≡ true = ap (λ n. is_in n (nodes_told d)) same ∙ is_there d i e in let none : is_in t.node (nodes_told d) ≡ false = a.0 in absurd cc

  pub within : (d : List Told) (i : ℕ) → IsNodeAt d i y → i < length d
  within [] i e = absurd cc
  within (t ∷ d) zero e = omega arith
  within (t ∷ d) (suc i) e = omega (arith, within d i e)

  -- ---- no part of the node's ----

  not_here : (t : Told) (d : List Told) → is_in y (nodes_told (t ∷ d)) ≡ false → t.node ≡ y → ⊥
  not_here t d e same = grind (arith, nat_tests)

  not_later : (t : Told) (d : List Told) → is_in y (nodes_told (t ∷ d)) ≡ false → is_in y (nodes_told d) ≡ false
  not_later t d e = grind (arith, nat_tests)

  pub map_none : (f : Told → Told) (d : List Told) → is_in y (nodes_told d) ≡ false → ((t : Told) → (t.node ≡ y → ⊥) → f t ≡ t) → map f d ≡ d
  map_none f [] e k = refl
  map_none f (t ∷ d) e k = ap (λ r. f t ∷ r) (map_none f d (not_later t d e) k) ∙ ap (λ u. u ∷ d) (k t (not_here t d e))

  takes_other : (from : ℕ) (t : Told) → (t.node ≡ y → ⊥) → takes_page y from t ≡ false
  takes_other from t n = ap (λ b. b && ((t.asked == from) && not t.whole)) (ne_eqb t.node y n)

  pub takes_none : (from : ℕ) (d : List Told) → is_in y (nodes_told d) ≡ false → takes_any y from d ≡ false
  takes_none from [] e = refl
  takes_none from (t ∷ d) e = ap (λ b. b || takes_any y from d) (takes_other from t (not_here t d e)) ∙ takes_none from d (not_later t d e)

  -- ---- the node's part ----

  rest_lacks : (t : Told) (d : List Told) → Apart (nodes_told (t ∷ d)) → t.node ≡ y → is_in y (nodes_told d) ≡ false
  rest_lacks t d a e = ap (λ n. is_in n (nodes_told d)) (sym e) ∙ a.0

  -- a change of this node's part alone
  pub map_at : (f : Told → Told) (d : List Told) (i : ℕ) (u : Told) → Apart (nodes_told d) → IsNodeAt d i y → ((t : Told) → (t.node ≡ y → ⊥) → f t ≡ t) → map f d ≡ set d i (f (get_or d i u))
  map_at f [] i u a e k = absurd cc
  map_at f (t ∷ d) zero u a e k = let same : t.node ≡ y = cc in ap (λ r. f t ∷ r) (map_none f d (rest_lacks t d a same) k)
  map_at f (t ∷ d) (suc i) u a e k = ap (λ v. v ∷ map f d) (k t (other t d i a e)) ∙ ap (λ r. t ∷ r) (map_at f d i u a.1 e k)

  pub nodes_set : (d : List Told) (i : ℕ) (u : Told) → IsNodeAt d i y → u.node ≡ y → nodes_told (set d i u) ≡ nodes_told d
  nodes_set [] i u e n = refl
  nodes_set (t ∷ d) zero u e n = let same : t.node ≡ y = cc in ap (λ m. m ∷ nodes_told d) (n ∙ sym same)
  nodes_set (t ∷ d) (suc i) u e n = ap (λ r. t.node ∷ r) (nodes_set d i u e n)

  pub node_at : (d : List Told) (i : ℕ) (u : Told) → IsNodeAt d i y → (get_or d i u).node ≡ y
  node_at [] i u e = absurd cc
  node_at (t ∷ d) zero u e = cc
  node_at (t ∷ d) (suc i) u e = node_at d i u e

  or_false : (b : Bool) → (b || false) ≡ b
  or_false true = refl
  or_false false = refl

  pub takes_at : (from : ℕ) (d : List Told) (i : ℕ) (u : Told) → Apart (nodes_told d) → IsNodeAt d i y → takes_any y from d ≡ takes_page y from (get_or d i u)
  takes_at from [] i u a e = absurd cc
  takes_at from (t ∷ d) zero u a e = let same : t.node ≡ y = cc in ap (λ b. takes_page y from t || b) (takes_none from d (rest_lacks t d a same)) ∙ or_false (takes_page y from t)
  takes_at from (t ∷ d) (suc i) u a e = ap (λ b. b || takes_any y from d) (takes_other from t (other t d i a e)) ∙ takes_at from d i u a.1 e

  -- what the node is then asked
  abbrev pub one_ask : Told → List (ℕ × Body)
  one_ask u = if u.whole then [] else (y, bodies.DigestAsk u.asked) ∷ []

  pub ask_at : (d : List Told) (i : ℕ) (u : Told) → Apart (nodes_told d) → IsNodeAt d i y → u.node ≡ y → next_ask y (set d i u) ≡ one_ask u
  ask_at [] i u a e n = absurd cc
  ask_at (t ∷ d) zero u a e n = ap (λ b. if b then one_ask u else next_ask y d) (eq-eqb u.node y n)
  ask_at (t ∷ d) (suc i) u a e n = ap (λ b. if b then one_ask t else next_ask y (set d i u)) (ne_eqb t.node y (other t d i a e)) ∙ ask_at d i u a.1 e n
