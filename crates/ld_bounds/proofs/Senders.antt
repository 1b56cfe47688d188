-- Of the nodes that are asked in a round in which one of them sends each payload, some are left to send.
use Rattle.std.proofs.Common.{◌≡◌, ◌∙◌, ◌<◌, ℕ, suc, ◌-◌, refl, ap, sym, subst, Bool, true, false, not, ◌&&◌, ◌||◌, ◌==◌, nat_lt, cond, List, [], ◌∷◌, length, filter, Option, Some, None, inl, inr, arith}
use Rattle.std.specs.List.{AllByRecursion}
use Rattle.std.proofs.lemmas.Bool.{cond_both, cases_Bool, and_parts, ltb-true, eqb-true, or_cases, or_left, or_right}
use Rattle.ld_table.specs.Words.{is_in, any_of}
use Rattle.ld_ids.specs.Id.{IsNode}
use Rattle.ld_ids.specs.Set.{members, members_from, IsSet, IsSubset}
use Rattle.ld_ids.specs.Choice.{nodes_of}
use Rattle.ld_ids.proofs.Members.{members-with}
use Rattle.ld_lsn.specs.Number.{home_epoch}
use Rattle.ld_msg.specs.Bounds.{share_out}
use Rattle.ld_msg.specs.Register.{View}
use Rattle.ld_msg.specs.Reader.{Reader, Senders, flags_of, missed_by, left_out, senders_of, is_single}
use Rattle.ld_node_bounds.proofs.Alls.{all-filter}
use Rattle.ld_bounds.proofs.SwappedSets.{set_long}

-- ---- flags ----

pub flags_set : (xs : List ℕ) → IsSet (flags_of xs)
flags_set [] = refl
flags_set (x ∷ xs) = set_long (flags_of xs) (x - 1) true ∙ flags_set xs

flagged : (n : ℕ) (xs : List ℕ) → AllByRecursion IsNode xs → is_in n (members (flags_of xs)) ≡ true → is_in n xs ≡ true
unfolding members_from
flagged n [] a h = absurd cc
flagged n (x ∷ xs) a h = elim (or_cases (n == x) (is_in n (members (flags_of xs))) (sym (members-with x (flags_of xs) n a.0 (flags_set xs)) ∙ h)) [
  | inl t ↦ or_left (x == n) (is_in n xs) (let e = eqb-true n x t in grind arith)
  | inr t ↦ or_right (x == n) (is_in n xs) (flagged n xs a.1 t)
]

-- ---- those that pass a test ----

module _ (p : ℕ → Bool) where
  filtered_step : (b : Bool) (n x : ℕ) (xs : List ℕ) → p x ≡ b → (is_in n (filter p xs) ≡ true → (p n ≡ true) × (is_in n xs ≡ true)) → is_in n (cond b (x ∷ filter p xs) (filter p xs)) ≡ true → (p n ≡ true) × (is_in n (x ∷ xs) ≡ true)
  filtered_step false n x xs e ih k = let r = ih k in (r.0, or_right (x == n) (is_in n xs) r.1)
  filtered_step true n x xs e ih k = elim (or_cases (x == n) (is_in n (filter p xs)) k) [
    | inl t ↦ (subst (λ y. p y ≡ true) (eqb-true x n t) e, or_left (x == n) (is_in n xs) t)
    | inr t ↦ (let r = ih t in (r.0, or_right (x == n) (is_in n xs) r.1))
  ]

  filtered : (n : ℕ) (xs : List ℕ) → is_in n (filter p xs) ≡ true → (p n ≡ true) × (is_in n xs ≡ true)
  filtered n [] h = absurd cc
  filtered n (x ∷ xs) h = filtered_step (p x) n x xs refl (filtered n xs) h

  -- where not all pass, there is one that doesn't
  other_step : (b : Bool) (q : ℕ → Bool) (x : ℕ) (xs : List ℕ) → (p x ≡ false → q x ≡ true) → p x ≡ b → (length (filter p xs) < length xs → any_of q xs ≡ true) → length (cond b (x ∷ filter p xs) (filter p xs)) < suc (length xs) → (q x || any_of q xs) ≡ true
  other_step true q x xs f e ih k = or_right (q x) (any_of q xs) (ih (omega arith))
  other_step false q x xs f e ih k = or_left (q x) (any_of q xs) (f e)

  some_other : (q : ℕ → Bool) (xs : List ℕ) → ((n : ℕ) → p n ≡ false → q n ≡ true) → length (filter p xs) < length xs → any_of q xs ≡ true
  some_other q [] f h = absurd (omega arith)
  some_other q (x ∷ xs) f h = other_step (p x) q x xs (f x) refl (some_other q xs f) h

-- ---- senders ----

abbrev pub AreSenders : Option Senders → Type 0
AreSenders None = Unit {0}
AreSenders (Some o) = IsSubset o.excluded o.set × (share_out o.excluded o.set ≡ true) × IsSet o.set × IsSet o.excluded

pub senders_are : (full : Bool) (w : View) (d : Reader) → IsSet w.spec.set → AllByRecursion IsNode (nodes_of w.spec) → AreSenders (senders_of full w d)
senders_are full w d i a = cond_both ((is_single d.style && not full) && nat_lt (length (left_out d w)) (length (nodes_of w.spec))) (Some (record { set = w.spec.set; excluded = flags_of (left_out d w) })) None AreSenders
    (λ t. (λ n h. (was_left n h).1, some_other test (λ n. not (is_in n (members (flags_of (left_out d w))))) (nodes_of w.spec) (λ n e. left n e) (ltb-true (length (left_out d w)) (length (nodes_of w.spec)) (and_parts (is_single d.style && not full) _ t).1), i, flags_set (left_out d w))) (λ t. tt) where
      test : ℕ → Bool
      test = missed_by d.missing (home_epoch d.next)

      was_left : (n : ℕ) → is_in n (members (flags_of (left_out d w))) ≡ true → (test n ≡ true) × (is_in n (nodes_of w.spec) ≡ true)
      was_left n h = filtered test n (nodes_of w.spec) (flagged n (left_out d w) (all-filter IsNode test (nodes_of w.spec) a) h)

      left : (n : ℕ) → test n ≡ false → not (is_in n (members (flags_of (left_out d w)))) ≡ true
      left n e = elim (cases_Bool (is_in n (members (flags_of (left_out d w))))) [
        | inl t ↦ absurd (let z : true ≡ false = sym (was_left n t).0 ∙ e in cc)
        | inr t ↦ ap not t
      ]
