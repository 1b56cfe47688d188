-- All that a calm has to do, from the last part on.
use Rattle.std.proofs.Common.{◌≡◌, ◌<◌, ℕ, ◌+◌, List, [], ◌∷◌, ◌++◌, length, map, flat_map, drop, get_or, Some, refl, ap, sym, ◌∙◌, subst, append_assoc, arith, slice_get}
use Rattle.std.proofs.lemmas.List.{append-nil, drop_all}
use Rattle.ld_table.proofs.Places.{drop_at_place, drop_item}
use Rattle.ld_ids.specs.declared.set.Spec.{Spec}
use Rattle.ld_config.specs.declared.config.Config.{Config}
use Rattle.ld_machine.specs.Config.{all_nodes}
use Rattle.ld_machine.specs.State.{State}
use Rattle.ld_machine.specs.Calm.{Left, Announces, Settles, Ticks, Reads, left_for, readers_of}

-- ---- the logs ----

abbrev pub for_specs : Config → State → List Spec → List Left
for_specs c s ps = flat_map (λ (p : Spec). left_for c s p.log) ps

pub no_log : (c : Config) (s : State) (ps : List Spec) (place : ℕ) → place ≡ length ps → [] ≡ for_specs c s (drop place ps)
no_log c s ps place e = ap (for_specs c s) (sym (drop_all place ps (omega arith)))

pub one_log : (c : Config) (s : State) (ps qs : List Spec) (place i : ℕ) (p : Spec) (old new : List Left) → qs ≡ ps → i < length qs → p ≡ get_or qs i p → place ≡ i + 1 → old ≡ for_specs c s (drop place ps) → new ≡ left_for c s p.log ++ old
    → new ≡ for_specs c s (drop i ps)
one_log c s ps qs place i p old new q b g n o h =
    let all : drop i ps ≡ p ∷ drop (i + 1) ps = subst (λ (xs : List Spec). drop i xs ≡ p ∷ drop (i + 1) xs) q (drop_item qs i p b g) in
    h ∙ (ap (λ x. left_for c s p.log ++ x) (o ∙ ap (λ x. for_specs c s (drop x ps)) n) ∙ ap (for_specs c s) (sym all))

-- ---- a log's nodes ----

abbrev pub ticks_of : ℕ → List ℕ → List Left
ticks_of l ns = map (λ node. Ticks l node) ns

pub no_node : (l : ℕ) (ns : List ℕ) (place : ℕ) (old : List Left) → place ≡ length ns → old ≡ ticks_of l (drop place ns) ++ old
no_node l ns place old e = ap (λ x. ticks_of l x ++ old) (sym (drop_all place ns (omega arith)))

pub one_node : (l : ℕ) (ns : List ℕ) (place i n : ℕ) (first old new : List Left) → Some n ≡ slice_get ns i → place ≡ i + 1 → old ≡ ticks_of l (drop place ns) ++ first → new ≡ Ticks l n ∷ old → new ≡ ticks_of l (drop i ns) ++ first
one_node l ns place i n first old new e p o h = h ∙ (ap (λ x. Ticks l n ∷ x) (o ∙ ap (λ x. ticks_of l (drop x ns) ++ first) p) ∙ ap (λ x. ticks_of l x ++ first) (sym (drop_at_place ns i n (sym e))))

-- ---- a log's readers ----

abbrev pub reads_of : List (List ℕ) → List Left
reads_of names = map (λ name. Reads name) names

-- so many names are left to be added, and the others were
pub record HasRead (all names : List (List ℕ)) (first left : List Left) : Type 0 where
  pub added : List (List ℕ)
  pub all_are : names ++ added ≡ all
  pub left_are : left ≡ reads_of added ++ first

pub no_reader : (all : List (List ℕ)) (first : List Left) → HasRead all all first first
no_reader all first = record { added = []; all_are = append-nil all; left_are = refl }

pub one_reader : (all names rest : List (List ℕ)) (name : List ℕ) (first old new : List Left) → names ≡ rest ++ name ∷ [] → HasRead all names first old → new ≡ Reads name ∷ old → HasRead all rest first new
one_reader all names rest name first old new e h n = record {
  added = name ∷ h.added;
  all_are = sym (append_assoc rest (name ∷ []) h.added) ∙ (ap (λ x. x ++ h.added) (sym e) ∙ h.all_are);
  left_are = n ∙ ap (λ x. Reads name ∷ x) h.left_are;
}

pub all_read : (all names : List (List ℕ)) (first left : List Left) → names ≡ [] → HasRead all names first left → left ≡ reads_of all ++ first
all_read all names first left e h = h.left_are ∙ ap (λ x. reads_of x ++ first) (ap (λ x. x ++ h.added) (sym e) ∙ h.all_are)

-- ---- one log ----

pub for_one : (c : Config) (s : State) (l : ℕ) (first ns rs a b : List Left) → rs ≡ reads_of (readers_of l s.readers) ++ first → ns ≡ ticks_of l (all_nodes c) ++ rs → a ≡ Settles l ∷ ns → b ≡ Announces l ∷ a → b ≡ left_for c s l ++ first
for_one c s l first ns rs a b r n e f = f ∙ ap (λ x. Announces l ∷ x) (e ∙ ap (λ x. Settles l ∷ x) (n ∙ (ap (λ x. ticks_of l (all_nodes c) ++ x) r ∙ sym (append_assoc (ticks_of l (all_nodes c)) _ first))))
