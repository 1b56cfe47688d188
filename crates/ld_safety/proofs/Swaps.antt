-- What a swap leaves of each epoch of a log: the new node in the place of the old one, in epochs that are closed.
use Rattle.std.proofs.Common.{◌≡◌, ◌∙◌, ◌≤◌, ◌<◌, ◌⊎◌, ◌+◌, ◌-◌, ℕ, suc, zero, inl, inr, refl, ap, sym, subst, Bool, true, false, not, ◌&&◌, cond, if◌then◌else◌, nat_lt, nat_le, List, [], ◌∷◌, length, get_or, set, Option, Some, None, arith}
use Rattle.std.specs.Ordering.{nat_cmp}
use Rattle.std.specs.BTreeMap.{is_at}
use Rattle.std.proofs.lemmas.Bool.{and_parts, leb-true, ltb-true}
use Rattle.ld_table.specs.Table.{find}
use Rattle.ld_table.proofs.Laws.{same_key}
use Rattle.ld_table.specs.Words.{how_many}
use Rattle.ld_ids.specs.Set.{members, members_from, has_node, with_node, without_node}
use Rattle.ld_ids.specs.declared.set.Spec.{Spec}
use Rattle.ld_ids.specs.Choice.{nodes_of}
use Rattle.ld_msg.specs.Register.{swaps_in, swapped_spec, swapped_specs}
use Rattle.ld_machine.specs.World.{In}
use Rattle.ld_safety.proofs.Lists.{cond_both}

-- ---- by epochs ----

-- what a swap makes of what is found
abbrev pub then_swapped : Bool → ℕ → ℕ → Option Spec → Option Spec
then_swapped t old new None = None
then_swapped t old new (Some p) = Some (if t then swapped_spec old new p else p)

pub find-swapped : (upto old new e : ℕ) (ps : List (ℕ × Spec)) → find e (swapped_specs upto old new ps) ≡ then_swapped (nat_le e upto) old new (find e ps)
unfolding find
find-swapped upto old new e [] = refl
find-swapped upto old new e (p ∷ ps) = by_key (find-swapped upto old new e ps) (is_at (nat_cmp e) p.0) refl where
  by_key : find e (swapped_specs upto old new ps) ≡ then_swapped (nat_le e upto) old new (find e ps) → (b : Bool) → is_at (nat_cmp e) p.0 ≡ b → cond b (Some (if nat_le p.0 upto then swapped_spec old new p.1 else p.1)) (find e (swapped_specs upto old new ps)) ≡ then_swapped (nat_le e upto) old new (cond b (Some p.1) (find e ps))
  by_key r true h = ap (λ k. Some (if nat_le k upto then swapped_spec old new p.1 else p.1)) (sym (same_key e p.0 h))
  by_key r false h = r

-- what stays
pub swapped_above : (upto old new e : ℕ) (ps : List (ℕ × Spec)) → upto < e → find e (swapped_specs upto old new ps) ≡ find e ps
swapped_above upto old new e ps h = find-swapped upto old new e ps ∙ (ap (λ t. then_swapped t old new (find e ps)) (above (nat_le e upto) refl) ∙ same (find e ps)) where
  above : (b : Bool) → nat_le e upto ≡ b → nat_le e upto ≡ false
  above true t = absurd (let z = leb-true e upto t in omega arith)
  above false t = t

  same : (o : Option Spec) → then_swapped false old new o ≡ o
  same None = refl
  same (Some p) = refl

-- ---- by nodes ----

-- so many of the nodes whose flags are given, with one flag put anew
without_from : (p : ℕ → Bool) (k i : ℕ) (fs : List Bool) → how_many p (members_from k fs) ≤ how_many p (members_from k (set fs i false)) + 1
unfolding members_from
without_from p k i [] = omega arith
without_from p k zero (true ∷ fs) = cond_both (p k) (suc (how_many p (members_from (k + 1) fs))) (how_many p (members_from (k + 1) fs)) (λ n. n ≤ how_many p (members_from (k + 1) fs) + 1) (λ t. omega arith) (λ t. omega arith)
without_from p k zero (false ∷ fs) = omega arith
without_from p k (suc i) (true ∷ fs) = let h = without_from p (k + 1) i fs in by_first (how_many p (members_from (k + 1) fs)) (how_many p (members_from (k + 1) (set fs i false))) (p k) h where
  by_first : (a b : ℕ) (t : Bool) → a ≤ b + 1 → (if t then suc a else a) ≤ (if t then suc b else b) + 1
  by_first a b true h = omega arith
  by_first a b false h = h
without_from p k (suc i) (false ∷ fs) = without_from p (k + 1) i fs

with_from : (p : ℕ → Bool) (k i : ℕ) (fs : List Bool) → i < length fs → get_or fs i false ≡ false → p (k + i) ≡ true → how_many p (members_from k (set fs i true)) ≡ how_many p (members_from k fs) + 1
unfolding members_from
with_from p k i [] l g h = absurd (omega arith)
with_from p k zero (true ∷ fs) l g h = absurd cc
with_from p k zero (false ∷ fs) l g h = by_first (how_many p (members_from (k + 1) fs)) (p k) (subst (λ n. p n ≡ true) (omega arith) h) where
  by_first : (a : ℕ) (t : Bool) → t ≡ true → (if t then suc a else a) ≡ a + 1
  by_first a true h = omega arith
  by_first a false h = absurd cc
with_from p k (suc i) (true ∷ fs) l g h = by_first (how_many p (members_from (k + 1) (set fs i true))) (how_many p (members_from (k + 1) fs)) (p k) (with_from p (k + 1) i fs (omega arith) g (subst (λ n. p n ≡ true) (omega arith) h)) where
  by_first : (a b : ℕ) (t : Bool) → a ≡ b + 1 → (if t then suc a else a) ≡ (if t then suc b else b) + 1
  by_first a b true h = omega arith
  by_first a b false h = h
with_from p k (suc i) (false ∷ fs) l g h = with_from p (k + 1) i fs (omega arith) g (subst (λ n. p n ≡ true) (omega arith) h)

get_kept : (fs : List Bool) (i j : ℕ) → get_or fs i false ≡ false → get_or (set fs j false) i false ≡ false
get_kept [] i j h = h
get_kept (b ∷ fs) zero zero h = refl
get_kept (b ∷ fs) zero (suc j) h = h
get_kept (b ∷ fs) (suc i) zero h = h
get_kept (b ∷ fs) (suc i) (suc j) h = get_kept fs i j h

set_long : (fs : List Bool) (i : ℕ) (b : Bool) → length (set fs i b) ≡ length fs
set_long [] i b = refl
set_long (x ∷ fs) zero b = refl
set_long (x ∷ fs) (suc i) b = ap suc (set_long fs i b)

-- a swap, where it is one
pub record Swaps (old new : ℕ) (fs : List Bool) : Type 0 where
  pub positive : 0 < new
  pub flagged : new ≤ length fs
  pub fresh : has_node new fs ≡ false

pub swaps_of : (old new : ℕ) (fs : List Bool) → swaps_in old new fs ≡ true → Swaps old new fs
swaps_of old new fs h = let a = and_parts (has_node old fs) _ h in let b = and_parts (nat_lt 0 new && nat_le new (length fs)) (not (has_node new fs)) a.1 in let d = and_parts (nat_lt 0 new) (nat_le new (length fs)) b.0 in
    record { positive = ltb-true 0 new d.0; flagged = leb-true new (length fs) d.1; fresh = not_true (has_node new fs) b.1 } where
      not_true : (b : Bool) → not b ≡ true → b ≡ false
      not_true true q = absurd cc
      not_true false q = refl

-- of the nodes with a property that the new node has there are no fewer
pub swapped_count : (p : ℕ → Bool) (old new : ℕ) (q : Spec) → (swaps_in old new q.set ≡ true → p new ≡ true) → how_many p (nodes_of q) ≤ how_many p (nodes_of (swapped_spec old new q))
swapped_count p old new q h = cond_both (swaps_in old new q.set) (with_node new (without_node old q.set)) q.set (λ fs. how_many p (nodes_of q) ≤ how_many p (members fs)) by_swap (λ t. omega arith) where
  by_swap : swaps_in old new q.set ≡ true → how_many p (nodes_of q) ≤ how_many p (members (with_node new (without_node old q.set)))
  by_swap t = let z = swaps_of old new q.set t in
      let l = set_long q.set (old - 1) false in let a = z.positive in let b = z.flagged in
      let same : 1 + (new - 1) ≡ new = omega arith in
      let u = without_from p 1 (old - 1) q.set in
      let v = with_from p 1 (new - 1) (without_node old q.set) (omega arith) (get_kept q.set (new - 1) (old - 1) z.fresh) (subst (λ n. p n ≡ true) (sym same) (h t)) in omega arith

in_with : (y k i : ℕ) (fs : List Bool) → In y (members_from k (set fs i true)) → In y (members_from k fs) ⊎ (y ≡ k + i)
unfolding members_from
in_with y k i [] h = inl h
in_with y k zero (true ∷ fs) h = inl h
in_with y k zero (false ∷ fs) h = elim h [ inl q ↦ inr (omega arith) | inr j ↦ inl j ]
in_with y k (suc i) (true ∷ fs) h = elim h [ inl q ↦ inl (inl q) | inr j ↦ elim (in_with y (k + 1) i fs j) [ inl a ↦ inl (inr a) | inr a ↦ inr (omega arith) ] ]
in_with y k (suc i) (false ∷ fs) h = elim (in_with y (k + 1) i fs h) [ inl a ↦ inl a | inr a ↦ inr (omega arith) ]

in_without : (y k i : ℕ) (fs : List Bool) → In y (members_from k (set fs i false)) → In y (members_from k fs)
unfolding members_from
in_without y k i [] h = h
in_without y k zero (true ∷ fs) h = inr h
in_without y k zero (false ∷ fs) h = h
in_without y k (suc i) (true ∷ fs) h = elim h [ inl q ↦ inl q | inr j ↦ inr (in_without y (k + 1) i fs j) ]
in_without y k (suc i) (false ∷ fs) h = in_without y (k + 1) i fs h

-- each node was there, or is the new one
pub swapped_members : (old new y : ℕ) (q : Spec) → In y (nodes_of (swapped_spec old new q)) → In y (nodes_of q) ⊎ ((y ≡ new) × (swaps_in old new q.set ≡ true))
swapped_members old new y q = cond_both (swaps_in old new q.set) (with_node new (without_node old q.set)) q.set (λ fs. In y (members fs) → In y (nodes_of q) ⊎ ((y ≡ new) × (swaps_in old new q.set ≡ true)))
    (λ t i. let z = swaps_of old new q.set t in let a = z.positive in elim (in_with y 1 (new - 1) (without_node old q.set) i) [ inl j ↦ inl (in_without y 1 (old - 1) q.set j) | inr j ↦ inr (omega arith, t) ]) (λ t i. inl i)

-- ---- the table of sets ----

-- what was fixed for an epoch, and what swaps left of it: both are there or none, with the same factor, and no fewer nodes
abbrev pub Like : Option Spec → Option Spec → Type 0
Like None None = Unit {0}
Like None (Some q) = ⊥
Like (Some p) None = ⊥
Like (Some p) (Some q) = (q.r ≡ p.r) × (how_many (λ y. true) (nodes_of p) ≤ how_many (λ y. true) (nodes_of q))

pub like_same : (o : Option Spec) → Like o o
like_same None = tt
like_same (Some p) = (refl, omega arith)

pub like_swapped : (t : Bool) (old new : ℕ) (o n : Option Spec) → Like o n → Like o (then_swapped t old new n)
like_swapped t old new None None h = h
like_swapped t old new None (Some q) h = absurd h
like_swapped t old new (Some p) None h = absurd h
like_swapped false old new (Some p) (Some q) h = h
like_swapped true old new (Some p) (Some q) h = (h.0, let u = h.1 in let z = swapped_count (λ y. true) old new q (λ t. refl) in omega arith)

-- ---- counts over two sets ----

members_above : (y k : ℕ) (fs : List Bool) → In y (members_from k fs) → k ≤ y
unfolding members_from
members_above y k [] h = absurd h
members_above y k (true ∷ fs) h = elim h [ inl q ↦ omega arith | inr j ↦ (let z = members_above y (k + 1) fs j in omega arith) ]
members_above y k (false ∷ fs) h = let z = members_above y (k + 1) fs h in omega arith

none_count : (q : ℕ → Bool) (xs : List ℕ) → ((y : ℕ) → In y xs → q y ≡ true → ⊥) → how_many q xs ≤ 0
none_count q [] h = omega arith
none_count q (x ∷ xs) h = cond_both (q x) (suc (how_many q xs)) (how_many q xs) (λ n. n ≤ 0) (λ t. absurd (h x (inl refl) t)) (λ t. none_count q xs (λ y i. h y (inr i)))

sub_from : (q : ℕ → Bool) (k : ℕ) (fs gs : List Bool) → ((y : ℕ) → In y (members_from k fs) → q y ≡ true → In y (members_from k gs)) → how_many q (members_from k fs) ≤ how_many q (members_from k gs)
unfolding members_from
sub_from q k [] gs h = omega arith
sub_from q k (b ∷ fs) [] h = let z = none_count q (members_from k (b ∷ fs)) (λ y i t. h y i t) in omega arith
sub_from q k (false ∷ fs) (false ∷ gs) h = sub_from q (k + 1) fs gs h
sub_from q k (false ∷ fs) (true ∷ gs) h =
    let ih = sub_from q (k + 1) fs gs (λ y i t. elim (h y i t) [ inl e ↦ absurd (let z = members_above y (k + 1) fs i in omega arith) | inr j ↦ j ]) in
    cond_both (q k) (suc (how_many q (members_from (k + 1) gs))) (how_many q (members_from (k + 1) gs)) (λ n. how_many q (members_from (k + 1) fs) ≤ n) (λ t. omega arith) (λ t. ih)
sub_from q k (true ∷ fs) (false ∷ gs) h =
    let ih = sub_from q (k + 1) fs gs (λ y i t. h y (inr i) t) in
    cond_both (q k) (suc (how_many q (members_from (k + 1) fs))) (how_many q (members_from (k + 1) fs)) (λ n. n ≤ how_many q (members_from (k + 1) gs)) (λ t. absurd (let z = members_above k (k + 1) gs (h k (inl refl) t) in omega arith)) (λ t. ih)
sub_from q k (true ∷ fs) (true ∷ gs) h =
    let ih = sub_from q (k + 1) fs gs (λ y i t. elim (h y (inr i) t) [ inl e ↦ absurd (let z = members_above y (k + 1) fs i in omega arith) | inr j ↦ j ]) in by_first (q k) ih where
      by_first : {a b : ℕ} (t : Bool) → a ≤ b → (if t then suc a else a) ≤ (if t then suc b else b)
      by_first true h = omega arith
      by_first false h = h

-- those of one set that pass a test and are all in another one are no more than those of the other one that pass
pub sub_count : (q : ℕ → Bool) (p r : Spec) → ((y : ℕ) → In y (nodes_of p) → q y ≡ true → In y (nodes_of r)) → how_many q (nodes_of p) ≤ how_many q (nodes_of r)
sub_count q p r h = sub_from q 1 p.set r.set h
