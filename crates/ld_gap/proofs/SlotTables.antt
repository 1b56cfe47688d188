-- Tables by node, as one slot for each node.
use Rattle.std.proofs.Common.{◌≡◌, ℕ, zero, suc, ◌+◌, ◌<◌, List, [], ◌∷◌, ◌++◌, length, get_or, set, Option, Some, None, refl, ap, sym, ◌∙◌, arith, cond, nat_cmp, Less, Equal, Greater}
use Rattle.std.specs.Cmp.{nat_cmp_is}
use Rattle.std.specs.Ordering.{match_ordering}
use Rattle.std.specs.BTreeMap.{insert_entry}
use Rattle.std.proofs.lemmas.List.{set-get_or, length-set}
use Rattle.std.proofs.lemmas.Bool.{eq-eqb, ne_eqb}
use Rattle.std.specs.Prelude.{◌==◌, Bool, true, false, not, if◌then◌else◌, is_some}
use Rattle.ld_table.specs.Table.{find, put, take_out}
use Rattle.ld_table.proofs.Laws.{tied}
use Rattle.ld_table.specs.Words.{is_in}
use Rattle.ld_msg.specs.declared.msg.Body.{Body}
use Rattle.ld_msg.specs.declared.msg.Body.TheVariants as bodies
use Rattle.ld_msg.specs.Reading.{Held, within, lost_held, lost_generation}
use Rattle.ld_lsn.specs.Number.{home_epoch}
use Rattle.ld_ids.specs.Set.{members_from}
use Rattle.ld_msg.specs.Reader.{keys}
use Rattle.ld_gap.specs.Slots.{filled_from, with_slot, generation_within, generation_told}

module _ {X : Type 0} where
  find_first : (k n : ℕ) (x : X) (m : List (ℕ × X)) → k ≡ n → find k ((n, x) ∷ m) ≡ Some x
  unfolding find
  find_first k n x m e = ap (λ b. cond b (Some x) (find k m)) (tied k n ∙ eq-eqb k n e)

  find_later : (k n : ℕ) (x : X) (m : List (ℕ × X)) → (k ≡ n → ⊥) → find k ((n, x) ∷ m) ≡ find k m
  unfolding find
  find_later k n x m e = ap (λ b. cond b (Some x) (find k m)) (tied k n ∙ ne_eqb k n e)

  find_below : (k n : ℕ) (slots : List (Option X)) → k < n → find k (filled_from n slots) ≡ None
  unfolding filled_from find
  find_below k n [] h = refl
  find_below k n (None ∷ slots) h = find_below k (n + 1) slots (omega arith)
  find_below k n (Some x ∷ slots) h = find_later k n x _ (λ e. omega arith) ∙ find_below k (n + 1) slots (omega arith)

  -- a node's entry is its slot
  pub find-filled_from : (k n i : ℕ) (slots : List (Option X)) → k ≡ n + i → find k (filled_from n slots) ≡ get_or slots i None
  unfolding filled_from find
  find-filled_from k n i [] e = refl
  find-filled_from k n zero (None ∷ slots) e = find_below k (n + 1) slots (omega arith)
  find-filled_from k n zero (Some x ∷ slots) e = find_first k n x _ (omega arith)
  find-filled_from k n (suc i) (None ∷ slots) e = find-filled_from k (n + 1) i slots (omega arith)
  find-filled_from k n (suc i) (Some x ∷ slots) e = find_later k n x _ (λ f. omega arith) ∙ find-filled_from k (n + 1) i slots (omega arith)

  put_same : (k n : ℕ) (v x : X) (m : List (ℕ × X)) → k ≡ n → put k v ((n, x) ∷ m) ≡ (n, v) ∷ m
  unfolding put
  put_same k n v x m e = ap (λ r. match_ordering r ((k, v) ∷ (n, x) ∷ m) ((n, v) ∷ m) ((n, x) ∷ insert_entry nat_cmp m k v)) (sym (nat_cmp_is k n Equal e))

  put_before : (k n : ℕ) (v x : X) (m : List (ℕ × X)) → k < n → put k v ((n, x) ∷ m) ≡ (k, v) ∷ (n, x) ∷ m
  unfolding put
  put_before k n v x m e = ap (λ r. match_ordering r ((k, v) ∷ (n, x) ∷ m) ((n, v) ∷ m) ((n, x) ∷ insert_entry nat_cmp m k v)) (sym (nat_cmp_is k n Less e))

  put_after : (k n : ℕ) (v x : X) (m : List (ℕ × X)) → n < k → put k v ((n, x) ∷ m) ≡ (n, x) ∷ put k v m
  unfolding put
  put_after k n v x m e = ap (λ r. match_ordering r ((k, v) ∷ (n, x) ∷ m) ((n, v) ∷ m) ((n, x) ∷ insert_entry nat_cmp m k v)) (sym (nat_cmp_is k n Greater e))

  put_front : (k n : ℕ) (v : X) (slots : List (Option X)) → k < n → put k v (filled_from n slots) ≡ (k, v) ∷ filled_from n slots
  unfolding filled_from put
  put_front k n v [] h = refl
  put_front k n v (None ∷ slots) h = put_front k (n + 1) v slots (omega arith)
  put_front k n v (Some x ∷ slots) h = put_before k n v x _ h

  -- a changed slot is a changed entry
  pub put-filled_from : (k n i : ℕ) (v : X) (slots : List (Option X)) → k ≡ n + i → i < length slots → put k v (filled_from n slots) ≡ filled_from n (set slots i (Some v))
  unfolding filled_from
  put-filled_from k n i v [] e h = absurd (omega arith)
  put-filled_from k n zero v (None ∷ slots) e h = let same : k ≡ n = omega arith in put_front k (n + 1) v slots (omega arith) ∙ ap (λ j. (j, v) ∷ filled_from (n + 1) slots) same
  put-filled_from k n zero v (Some x ∷ slots) e h = put_same k n v x _ (omega arith)
  put-filled_from k n (suc i) v (None ∷ slots) e h = put-filled_from k (n + 1) i v slots (omega arith) (omega arith)
  put-filled_from k n (suc i) v (Some x ∷ slots) e h = put_after k n v x _ (omega arith) ∙ ap (λ m. (n, x) ∷ m) (put-filled_from k (n + 1) i v slots (omega arith) (omega arith))

  out_first : (k n : ℕ) (x : X) (m : List (ℕ × X)) → k ≡ n → take_out k ((n, x) ∷ m) ≡ take_out k m
  unfolding take_out
  out_first k n x m e = ap (λ b. cond (not b) ((n, x) ∷ take_out k m) (take_out k m)) (tied k n ∙ eq-eqb k n e)

  out_later : (k n : ℕ) (x : X) (m : List (ℕ × X)) → (k ≡ n → ⊥) → take_out k ((n, x) ∷ m) ≡ (n, x) ∷ take_out k m
  unfolding take_out
  out_later k n x m e = ap (λ b. cond (not b) ((n, x) ∷ take_out k m) (take_out k m)) (tied k n ∙ ne_eqb k n e)

  out_below : (k n : ℕ) (slots : List (Option X)) → k < n → take_out k (filled_from n slots) ≡ filled_from n slots
  unfolding filled_from take_out
  out_below k n [] h = refl
  out_below k n (None ∷ slots) h = out_below k (n + 1) slots (omega arith)
  out_below k n (Some x ∷ slots) h = out_later k n x _ (λ e. omega arith) ∙ ap (λ m. (n, x) ∷ m) (out_below k (n + 1) slots (omega arith))

  -- an emptied slot is a missing entry
  out-filled_from : (k n i : ℕ) (slots : List (Option X)) → k ≡ n + i → i < length slots → take_out k (filled_from n slots) ≡ filled_from n (set slots i None)
  unfolding filled_from
  out-filled_from k n i [] e h = absurd (omega arith)
  out-filled_from k n zero (None ∷ slots) e h = out_below k (n + 1) slots (omega arith)
  out-filled_from k n zero (Some x ∷ slots) e h = out_first k n x _ (omega arith) ∙ out_below k (n + 1) slots (omega arith)
  out-filled_from k n (suc i) (None ∷ slots) e h = out-filled_from k (n + 1) i slots (omega arith) (omega arith)
  out-filled_from k n (suc i) (Some x ∷ slots) e h = out_later k n x _ (λ f. omega arith) ∙ ap (λ m. (n, x) ∷ m) (out-filled_from k (n + 1) i slots (omega arith) (omega arith))

  pub with_slot-filled_from : (k n i : ℕ) (o : Option X) (slots : List (Option X)) → k ≡ n + i → i < length slots → with_slot k o (filled_from n slots) ≡ filled_from n (set slots i o)
  with_slot-filled_from k n i None slots e h = out-filled_from k n i slots e h
  with_slot-filled_from k n i (Some x) slots e h = put-filled_from k n i x slots e h

  set_twice : (slots : List (Option X)) (i : ℕ) (o p : Option X) → set (set slots i o) i p ≡ set slots i p
  set_twice [] i o p = refl
  set_twice (x ∷ slots) zero o p = refl
  set_twice (x ∷ slots) (suc i) o p = ap (λ m. x ∷ m) (set_twice slots i o p)

  -- with what stood in the slot it is as it was
  pub slot_back : (k n i : ℕ) (o d : Option X) (slots : List (Option X)) → k ≡ n + i → i < length slots → with_slot k (get_or slots i d) (filled_from n (set slots i o)) ≡ filled_from n slots
  slot_back k n i o d slots e h =
      with_slot-filled_from k n i (get_or slots i d) (set slots i o) e (omega (arith, length-set slots i o)) ∙ ap (λ s. filled_from n s) (set_twice slots i o (get_or slots i d) ∙ set-get_or slots i d)

abbrev told_from : ℕ → Option ℕ → List (ℕ × ℕ)
told_from n None = []
told_from n (Some g) = (n, g) ∷ []

lost_told : (n g : ℕ) (t : Bool) → (if t then (n, g) ∷ [] else []) ≡ told_from n (if t then Some g else None)
lost_told n g true = refl
lost_told n g false = refl

one_told : (s n : ℕ) (b : Body) → lost_generation s n b ≡ told_from n (generation_told s b)
one_told s n (bodies.LostHere number round generation end) = lost_told n generation (home_epoch number == home_epoch s)
one_told s n _ = refl

slot_told : (n : ℕ) (o : Option ℕ) (gens : List (Option ℕ)) → filled_from n (o ∷ gens) ≡ told_from n o ++ filled_from (n + 1) gens
unfolding filled_from
slot_told n None gens = refl
slot_told n (Some g) gens = refl

no_generation : (b : Bool) (s : ℕ) → generation_within b s None ≡ None
no_generation true s = refl
no_generation false s = refl

-- the generations of the slots of a set's nodes are those of the table
module _ (set : List ℕ) (s : ℕ) where
  member_told : (n : ℕ) (x : Held) (hs : List (ℕ × Held)) (b : Bool) → told_from n (if b then generation_told s x.body else None) ++ lost_held s hs ≡ lost_held s (if b then (n, x) ∷ hs else hs)
  member_told n x hs true = ap (λ l. l ++ lost_held s hs) (sym (one_told s n x.body))
  member_told n x hs false = refl

  pub lost-filled_from : (n : ℕ) (gens : List (Option ℕ)) (slots : List (Option Held)) → length gens ≡ length slots
      → ((j : ℕ) → j < length slots → get_or gens j None ≡ generation_within (is_in (n + j) set) s (get_or slots j None)) → filled_from n gens ≡ lost_held s (within set (filled_from n slots))
  unfolding filled_from
  lost-filled_from n [] [] e h = refl
  lost-filled_from n [] (o ∷ slots) e h = absurd (omega arith)
  lost-filled_from n (g ∷ gens) [] e h = absurd (omega arith)
  lost-filled_from n (g ∷ gens) (None ∷ slots) e h =
      let none : g ≡ None = h 0 (omega arith) ∙ no_generation (is_in (n + 0) set) s in
      slot_told n g gens ∙ ap (λ o. told_from n o ++ filled_from (n + 1) gens) none ∙ lost-filled_from (n + 1) gens slots (omega arith) (λ j lt. h (suc j) (omega arith) ∙ ap (λ k. generation_within (is_in k set) s (get_or slots j None)) (omega arith))
  lost-filled_from n (g ∷ gens) (Some x ∷ slots) e h =
      let same : g ≡ (if is_in n set then generation_told s x.body else None) = h 0 (omega arith) ∙ ap (λ k. if is_in k set then generation_told s x.body else None) (omega arith) in
      slot_told n g gens ∙ ap (λ o. told_from n o ++ filled_from (n + 1) gens) same
      ∙ ap (λ m. told_from n (if is_in n set then generation_told s x.body else None) ++ m) (lost-filled_from (n + 1) gens slots (omega arith) (λ j lt. h (suc j) (omega arith) ∙ ap (λ k. generation_within (is_in k set) s (get_or slots j None)) (omega arith)))
      ∙ member_told n x (within set (filled_from (n + 1) slots)) (is_in n set)

-- the set of the filled slots' nodes has those of the table
pub members-filled_from : (n : ℕ) (flags : List Bool) (slots : List (Option ℕ)) → length flags ≡ length slots → ((j : ℕ) → j < length slots → get_or flags j false ≡ is_some (get_or slots j None)) → members_from n flags ≡ keys (filled_from n slots)
unfolding filled_from members_from
members-filled_from n [] [] e h = refl
members-filled_from n [] (o ∷ slots) e h = absurd (omega arith)
members-filled_from n (b ∷ flags) [] e h = absurd (omega arith)
members-filled_from n (true ∷ flags) (None ∷ slots) e h = absurd (let wrong : true ≡ false = h 0 (omega arith) in cc)
members-filled_from n (false ∷ flags) (None ∷ slots) e h = members-filled_from (n + 1) flags slots (omega arith) (λ j lt. h (suc j) (omega arith))
members-filled_from n (true ∷ flags) (Some x ∷ slots) e h = ap (λ ns. n ∷ ns) (members-filled_from (n + 1) flags slots (omega arith) (λ j lt. h (suc j) (omega arith)))
members-filled_from n (false ∷ flags) (Some x ∷ slots) e h = absurd (let wrong : false ≡ true = h 0 (omega arith) in cc)
