-- In a round in which one node sends each payload, some node sends the next number.
use Rattle.std.proofs.Common.{◌≡◌, ◌∙◌, ◌⊎◌, ◌≤◌, ◌<◌, ℕ, zero, suc, ◌+◌, ◌-◌, ◌%◌, inl, inr, refl, ap, sym, subst, Bool, true, false, not, ◌&&◌, nat_lt, if◌then◌else◌, List, [], ◌∷◌, length, filter, take, drop, set, get_or, Option, Some, None, arith}
use Rattle.std.proofs.lemmas.Bool.{and_parts, ltb-true}
use Rattle.std.proofs.lemmas.List.{get_or-set_other}
use Rattle.ld_table.specs.Words.{is_in, without, first}
use Rattle.ld_lsn.specs.Number.{home_epoch, epoch_of, esn_of}
use Rattle.ld_ids.specs.Set.{members, members_from, with_node}
use Rattle.ld_ids.specs.Choice.{nodes_of, ring, first_left}
use Rattle.ld_ids.proofs.Members.{has-members}
use Rattle.ld_msg.specs.Register.{View}
use Rattle.ld_msg.specs.Choice.{sender}
use Rattle.ld_msg.specs.Reader.{Reader, Senders, is_single, missed_by, flags_of, left_out, senders_of}
use Rattle.ld_machine.specs.World.{In}
use Rattle.ld_safety.proofs.Lists.{Some_inj, not_none, In_left, In_right}
use Rattle.ld_safety.proofs.Members.{In_filter, filter_in}

-- ---- lists ----

-- all are from the first on
members_above : (k y : ℕ) (flags : List Bool) → In y (members_from k flags) → k ≤ y
unfolding members_from
members_above k y [] i = absurd i
members_above k y (true ∷ flags) (inl e) = let z : y ≡ k = e in omega arith
members_above k y (true ∷ flags) (inr i) = let z : k + 1 ≤ y = members_above (k + 1) y flags i in omega arith
members_above k y (false ∷ flags) i = let z : k + 1 ≤ y = members_above (k + 1) y flags i in omega arith

-- a node that isn't one of them isn't in their set
not_flagged : (ys : List ℕ) (z : ℕ) → 1 ≤ z → ((y : ℕ) → In y ys → 1 ≤ y) → (In z ys → ⊥) → is_in z (members (flags_of ys)) ≡ false
unfolding members_from
not_flagged [] z h l n = refl
not_flagged (y ∷ ys) z h l n =
    let p : 1 ≤ y = l y (inl refl) in
    let apart : (z - 1 ≡ y - 1 → ⊥) = λ e. n (inl (let k : z ≡ y = omega arith in k)) in
    let other : get_or (set (flags_of ys) (y - 1) true) (z - 1) false ≡ get_or (flags_of ys) (z - 1) false = get_or-set_other (flags_of ys) (y - 1) (z - 1) true false apart in
    sym (has-members z (with_node y (flags_of ys)) h) ∙ (other ∙ (has-members z (flags_of ys) h ∙ not_flagged ys z h (λ x i. l x (inr i)) (λ i. n (inr i))))

-- one doesn't pass, where fewer pass than there are
one_left : (p : ℕ → Bool) (ys : List ℕ) → length (filter p ys) < length ys → (y : ℕ) × In y ys × (p y ≡ false)
one_left p [] h = absurd (omega arith)
one_left p (y ∷ ys) h = by_test (p y) refl h (one_left p ys) where
  by_test : (b : Bool) → p y ≡ b → length (if b then y ∷ filter p ys else filter p ys) < suc (length ys) → (length (filter p ys) < length ys → (x : ℕ) × In x ys × (p x ≡ false)) → (x : ℕ) × In x (y ∷ ys) × (p x ≡ false)
  by_test true e k ih = let z = ih (omega arith) in (z.0, inr z.1, z.2)
  by_test false e k ih = (y, inl refl, e)

in_ring : (p y : ℕ) (ys : List ℕ) → In y ys → In y (ring p ys)
in_ring p y ys i = elim (cut p ys i) [ inl a ↦ In_left y (drop p ys) (take p ys) a | inr a ↦ In_right y (drop p ys) (take p ys) a ] where
  cut : (n : ℕ) (xs : List ℕ) → In y xs → In y (drop n xs) ⊎ In y (take n xs)
  cut zero xs j = inl j
  cut (suc n) [] j = absurd j
  cut (suc n) (x ∷ xs) (inl e) = inr (inl e)
  cut (suc n) (x ∷ xs) (inr j) = elim (cut n xs j) [ inl a ↦ inl a | inr a ↦ inr (inr a) ]

first_there : (y : ℕ) (ys : List ℕ) → In y ys → (k : ℕ) × (first ys ≡ Some k)
first_there y [] i = absurd i
first_there y (x ∷ xs) i = (x, refl)

-- ---- who sends ----
pub record Sends (w : View) (d : Reader) (o : Senders) : Type 0 where
  pub set : o.set ≡ w.spec.set
  pub node : ℕ
  pub sends : sender o.set o.excluded d.next ≡ Some node

pub some_sends : (full : Bool) (w : View) (d : Reader) (o : Senders) → senders_of full w d ≡ Some o → Sends w d o
unfolding first_left
some_sends full w d o e = by_test ((is_single d.style && not full) && nat_lt (length (left_out d w)) (length (nodes_of w.spec))) refl e where
  some : Senders
  some = record { set = w.spec.set; excluded = flags_of (left_out d w) }

  there : length (left_out d w) < length (nodes_of w.spec) → Sends w d some
  there h =
      let z = one_left (missed_by d.missing (home_epoch d.next)) (nodes_of w.spec) h in
      let at : ℕ = epoch_of d.next + esn_of d.next in
      let out : (In z.0 (left_out d w) → ⊥) = λ i. (let k = (In_filter (missed_by d.missing (home_epoch d.next)) z.0 (nodes_of w.spec) i).1 in let x : true ≡ false = sym k ∙ z.2 in cc) in
      let free = not_flagged (left_out d w) z.0 (members_above 1 z.0 w.spec.set z.1) (λ y i. members_above 1 y w.spec.set (In_filter (missed_by d.missing (home_epoch d.next)) y (nodes_of w.spec) i).0) out in
      let around = in_ring (at % length (nodes_of w.spec)) z.0 (nodes_of w.spec) z.1 in
      let f = first_there z.0 (without (members (flags_of (left_out d w))) (ring (at % length (nodes_of w.spec)) (nodes_of w.spec)))
      (filter_in (λ x. not (is_in x (members (flags_of (left_out d w))))) z.0 (ring (at % length (nodes_of w.spec)) (nodes_of w.spec)) around (ap not free)) in
      record { set = refl; node = f.0; sends = f.1 }

  by_test : (b : Bool) → ((is_single d.style && not full) && nat_lt (length (left_out d w)) (length (nodes_of w.spec))) ≡ b → (if b then Some some else None) ≡ Some o → Sends w d o
  by_test true t k = subst (Sends w d) (Some_inj k) (there (ltb-true (length (left_out d w)) (length (nodes_of w.spec)) (and_parts (is_single d.style && not full) (nat_lt (length (left_out d w)) (length (nodes_of w.spec))) t).1))
  by_test false t k = absurd (not_none k)

-- where all are to send, none of them is the one that does
pub all_send : (w : View) (d : Reader) → senders_of true w d ≡ None
all_send w d = by_style (is_single d.style) where
  some : Option Senders
  some = Some (record { set = w.spec.set; excluded = flags_of (left_out d w) })

  by_style : (b : Bool) → (if (b && false) && nat_lt (length (left_out d w)) (length (nodes_of w.spec)) then some else None) ≡ None
  by_style true = refl
  by_style false = refl
