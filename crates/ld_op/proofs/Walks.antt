-- A walk over places that looks for the first entry.
use Rattle.std.proofs.Common.{◌≡◌, ℕ, List, [], ◌∷◌, ◌++◌, Option, Some, None, refl, ap, sym, ◌∙◌}
use Rattle.std.specs.declared.ops.Bound.TheVariants.{Included, Unbounded}
use Rattle.std.specs.BTreeMap.Range.{entries_between}
use Rattle.std.specs.Ordering.{nat_cmp}
use Rattle.ld_table.specs.Table.{first_from, keep_keys}
use Rattle.ld_table.proofs.Bridge.{head, first_filter, from_start}
use Rattle.ld_op.specs.Places.{filled, filled_one}
use Rattle.ld_op.proofs.Places.{filled-keep_keys}

module _ {X : Type 0} where
  one-append : (k : ℕ) (o : Option X) (m n : List (ℕ × X)) → filled_one k o (m ++ n) ≡ filled_one k o m ++ n
  one-append k None m n = refl
  one-append k (Some v) m n = refl

  pub filled-append : (m n : List (ℕ × Option X)) → filled (m ++ n) ≡ filled m ++ filled n
  unfolding filled
  filled-append [] n = refl
  filled-append (s ∷ m) n = ap (filled_one s.0 s.1) (filled-append m n) ∙ one-append s.0 s.1 (filled m) (filled n)

  pub filled-one_more : (m : List (ℕ × Option X)) (s : ℕ × Option X) → filled m ≡ [] → s.1 ≡ None → filled (m ++ s ∷ []) ≡ []
  unfolding filled
  filled-one_more m s h n = filled-append m (s ∷ []) ∙ (ap (λ r. r ++ filled_one s.0 s.1 []) h ∙ ap (λ o. filled_one s.0 o []) n)

  -- the first one found
  pub first_found : (all ys rest : List (ℕ × Option X)) (s : ℕ × Option X) (v : X) → ys ++ s ∷ rest ≡ all → filled ys ≡ [] → s.1 ≡ Some v → head (filled all) ≡ Some (s.0, v)
  unfolding filled
  first_found all ys rest s v a h f = ap (λ m. head (filled m)) (sym a) ∙ (ap head (filled-append ys (s ∷ rest)) ∙ (ap (λ r. head (r ++ filled_one s.0 s.1 (filled rest))) h ∙ ap (λ o. head (filled_one s.0 o (filled rest))) f))

  pub none_found : (all ys : List (ℕ × Option X)) → ys ≡ all → filled ys ≡ [] → head (filled all) ≡ None
  none_found all ys a h = ap (λ m. head (filled m)) (sym a) ∙ ap head h

  -- a walk from a key on looks for the first entry from it on
  pub head_is : (k : ℕ) (m s r i : List (ℕ × Option X)) → i ≡ r → r ≡ entries_between nat_cmp (Included k) Unbounded m → m ≡ s → head (filled i) ≡ first_from k (filled s)
  unfolding keep_keys
  head_is k m s r i j e v = ap (λ x. head (filled x)) (j ∙ e) ∙ (ap head (filled-keep_keys _ m) ∙ (first_filter k (filled m) _ (λ x. from_start k x) ∙ ap (λ x. first_from k (filled x)) v))
