-- What is found in a run by looking at each step.
use Rattle.std.proofs.Common.{◌≡◌, ◌∙◌, ◌≤◌, ◌<◌, ◌⊎◌, ◌&&◌, ℕ, zero, suc, ◌+◌, inl, inr, refl, ap, sym, Bool, true, false, not, nat_lt, List, [], ◌∷◌, Option, Some, None, slice_get, take, arith}
use Rattle.ld_table.specs.Words.{any_of, all_of, how_many, numbers_from}
use Rattle.ld_transcript.specs.declared.line.Line.{Line}
use Rattle.ld_config.specs.declared.config.Config.{Config}
use Rattle.ld_ids.specs.declared.set.Spec.{Spec}
use Rattle.ld_ids.specs.Choice.{nodes_of}
use Rattle.ld_machine.specs.Logs.{first_spec}
use Rattle.ld_machine.specs.Facts.{Happened, Writes, spec_now, stands_lost}

pub clash : {b : Bool} → b ≡ true → b ≡ false → ⊥
clash t f = cc

pub nowhere : {X : Type 0} (p : X → Bool) (xs : List X) (k : ℕ) (x : X) → any_of p xs ≡ false → slice_get xs k ≡ Some x → p x ≡ false
nowhere p [] k x none there = grind arith
nowhere p (y ∷ ys) zero x none there = grind arith
nowhere p (y ∷ ys) (suc k) x none there = nowhere p ys k x (grind arith) (grind arith)

at_or_above : (a j : ℕ) → a ≤ j → (j ≡ a) ⊎ (a + 1 ≤ j)
at_or_above a j h = grind arith

first_or_later : (p : ℕ → Bool) (a j : ℕ) (rest : Bool) → p a && rest ≡ true → (j ≡ a) ⊎ (a + 1 ≤ j) → (rest ≡ true → a + 1 ≤ j → p j ≡ true) → p j ≡ true
first_or_later p a j rest all (inl is) later = grind arith
first_or_later p a j rest all (inr above) later = later (grind arith) above

pub everywhere : (p : ℕ → Bool) (a m j : ℕ) → all_of p (numbers_from a m) ≡ true → a ≤ j → j < a + m → p j ≡ true
everywhere p a zero j all from to = absurd (omega arith)
everywhere p a (suc m) j all from to = first_or_later p a j (all_of p (numbers_from (a + 1) m)) all (at_or_above a j from) (λ rest above. everywhere p (a + 1) m j rest above (omega arith))

-- ---- lines ----

-- whether a step writes such a line
abbrev in_step : (Line → Bool) → Option Happened → Bool
in_step p None = false
in_step p (Some h) = any_of p h.lines

abbrev pub says : (Line → Bool) → List Happened → ℕ → Bool
says p hs j = in_step p (slice_get hs j)

says_so : (p : Line → Bool) (hs : List Happened) (j : ℕ) (x : Line) → Writes hs j x → p x ≡ true → says p hs j ≡ true
says_so p hs j x w t = ap (in_step p) w.1 ∙ by_lines (any_of p w.0.lines) refl where
  by_lines : (b : Bool) → any_of p w.0.lines ≡ b → any_of p w.0.lines ≡ true
  by_lines true e = e
  by_lines false e = absurd (clash t (nowhere p w.0.lines w.2 x e w.3))

abbrev pub silent : (Line → Bool) → ℕ → List Happened → Bool
silent p k hs = all_of (λ j. not (says p hs j)) (numbers_from 0 k)

-- no step before this one writes such a line
pub never : (p : Line → Bool) (k : ℕ) (hs : List Happened) → silent p k hs ≡ true → (j : ℕ) → j < k → (x : Line) → Writes hs j x → p x ≡ true → ⊥
never p k hs quiet j below x w t = let n = everywhere (λ i. not (says p hs i)) 0 k j quiet (omega arith) (omega arith) in let y : not true ≡ true = ap not (sym (says_so p hs j x w t)) ∙ n in clash y refl

-- ---- lost nodes ----

-- not so many nodes are lost as what was fixed says, as swaps left it, if anything was
abbrev pub too_few : (ℕ → Bool) → Option Spec → Bool
too_few lost None = true
too_few lost (Some s) = nat_lt (how_many lost (nodes_of s)) s.r

abbrev pub few : Config → List Happened → ℕ → Bool
few c hs j = too_few (stands_lost 1 1 (take (j + 1) hs)) (spec_now 1 1 (take (j + 1) hs) (first_spec c 1))

-- at the end of each of the first steps
abbrev pub always_few : Config → ℕ → List Happened → Bool
always_few c k hs = all_of (few c hs) (numbers_from 0 k)

as_many : (n m : ℕ) → m ≤ n → nat_lt n m ≡ false
as_many n m h = grind arith

pub not_few : (lost : ℕ → Bool) (o : Option Spec) (s : Spec) → o ≡ Some s → s.r ≤ how_many lost (nodes_of s) → too_few lost o ≡ false
not_few lost o s is many = rw is (as_many (how_many lost (nodes_of s)) s.r many)
