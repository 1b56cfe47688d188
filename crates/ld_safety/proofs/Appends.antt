-- A sequencer's pending appends have numbers in a row from the first one that isn't acknowledged on.
use Rattle.std.proofs.Common.{◌≡◌, ◌∙◌, ◌≤◌, ◌<◌, ℕ, suc, ◌+◌, inl, inr, refl, ap, sym, subst, Bool, true, false, cond, List, [], ◌∷◌, ◌++◌, length, Some, arith, Ordering, Less, Equal, Greater, nat_cmp, nat_lt, ◌==◌, if◌then◌else◌}
use Rattle.std.specs.Ordering.{match_ordering, is_eq}
use Rattle.std.specs.BTreeMap.{is_at}
use Rattle.std.proofs.lemmas.Bool.{cases_Bool, ltb-true}
use Rattle.ld_table.specs.Table.{find, put}
use Rattle.ld_table.proofs.Laws.{same_key}
use Rattle.ld_lsn.specs.Number.{epoch_of, numbered, last_esn}
use Rattle.ld_ids.specs.declared.set.Spec.{Spec}
use Rattle.ld_msg.specs.Sequencer.{Sequencer, Append, acked_first, unacked_from, is_acked, with_append, raised, next_esn}
use Rattle.ld_machine.specs.World.{In}
use Rattle.ld_safety.proofs.Lists.{not_none}

-- keys in a row from one on
abbrev pub InRow : ℕ → List (ℕ × Append) → Type 0
InRow n [] = Unit {0}
InRow n (p ∷ ps) = (p.0 ≡ n) × InRow (n + 1) ps

row_first_by : (n k : ℕ) (p : ℕ × Append) (m : List (ℕ × Append)) (x : Append) (b : Bool) → p.0 ≡ n → (find k m ≡ Some x → n + 1 ≤ k) → is_at (nat_cmp k) p.0 ≡ b → cond b (Some p.1) (find k m) ≡ Some x → n ≤ k
row_first_by n k p m x true e ih q f = let s = same_key k p.0 q in omega arith
row_first_by n k p m x false e ih q f = let i = ih f in omega arith

row_first : (n k : ℕ) (m : List (ℕ × Append)) (x : Append) → InRow n m → find k m ≡ Some x → n ≤ k
unfolding find
row_first n k [] x r h = absurd (not_none h)
row_first n k (p ∷ m) x r h = row_first_by n k p m x (is_at (nat_cmp k) p.0) r.0 (row_first (n + 1) k m x r.1) refl h

less_is : (k n : ℕ) → nat_cmp k n ≡ Less → k < n
less_is k n h = elim (cases_Bool (nat_lt k n)) [
  | inl t ↦ ltb-true k n t
  | inr t ↦ absurd (let q : cond (k == n) Equal Greater ≡ Less = sym (ap (λ b. cond b Less (cond (k == n) Equal Greater)) t) ∙ h in elim (cases_Bool (k == n)) [
    | inl u ↦ let z : Equal ≡ Less = sym (ap (λ b. cond b Equal Greater) u) ∙ q in cc
    | inr u ↦ let z : Greater ≡ Less = sym (ap (λ b. cond b Equal Greater) u) ∙ q in cc
  ])
]

-- the keys in a row are those from the first on
pub row_bounds : (n : ℕ) (m : List (ℕ × Append)) (p : ℕ × Append) → InRow n m → In p m → (n ≤ p.0) × (p.0 < n + length m)
row_bounds n [] p r i = absurd i
row_bounds n (x ∷ m) p r (inl e) = let z : p.0 ≡ n = ap (λ (k : ℕ × Append). k.0) e ∙ r.0 in (omega arith, omega arith)
row_bounds n (x ∷ m) p r (inr i) = let z = row_bounds (n + 1) m p r.1 i in let a = z.0 in let b = z.1 in (omega arith, omega arith)

-- a put under a key that is there changes no key
pub record Put (n : ℕ) (m k : List (ℕ × Append)) : Type 0 where
  pub row : InRow n m
  pub same_length : length m ≡ length k

put_step : (o : Ordering) (n k : ℕ) (x y : Append) (p : ℕ × Append) (m : List (ℕ × Append)) → nat_cmp k p.0 ≡ o → InRow n (p ∷ m) → find k (p ∷ m) ≡ Some y → (find k m ≡ Some y → Put (n + 1) (put k x m) m)
    → Put n (match_ordering o ((k, x) ∷ p ∷ m) ((p.0, x) ∷ m) (p ∷ put k x m)) (p ∷ m)
unfolding find
put_step Less n k x y p m q r h ih = absurd (let a = row_first n k (p ∷ m) y r h in let b = less_is k p.0 q in let e = r.0 in omega arith)
put_step Equal n k x y p m q r h ih = record { row = (r.0, r.1); same_length = refl }
put_step Greater n k x y p m q r h ih = let f : find k m ≡ Some y = sym (ap (λ o. cond (is_eq o) (Some p.1) (find k m)) q) ∙ h in let t = ih f in record { row = (r.0, t.row); same_length = ap suc t.same_length }

pub put_in_row : (n k : ℕ) (x y : Append) (m : List (ℕ × Append)) → InRow n m → find k m ≡ Some y → Put n (put k x m) m
unfolding put find
put_in_row n k x y [] r h = absurd (not_none h)
put_in_row n k x y (p ∷ m) r h = put_step (nat_cmp k p.0) n k x y p m refl r h (put_in_row (n + 1) k x y m r.1)

-- those that are acknowledged first go
pub record Unacked (s : Spec) (n : ℕ) (m : List (ℕ × Append)) : Type 0 where
  pub row : InRow (n + acked_first s m) (unacked_from s m)
  pub lengths : acked_first s m + length (unacked_from s m) ≡ length m

unacked_step : (s : Spec) (n : ℕ) (p : ℕ × Append) (m : List (ℕ × Append)) (b : Bool) → InRow n (p ∷ m) → Unacked s (n + 1) m
    → InRow (n + (if b then suc (acked_first s m) else 0)) (if b then unacked_from s m else p ∷ m) × ((if b then suc (acked_first s m) else 0) + length (if b then unacked_from s m else p ∷ m) ≡ suc (length m))
unacked_step s n p m true r u = (subst (λ k. InRow k (unacked_from s m)) (omega arith) u.row, let l = u.lengths in omega arith)
unacked_step s n p m false r u = (subst (λ k. InRow k (p ∷ m)) (omega arith) r, omega arith)

pub unacked : (s : Spec) (n : ℕ) (m : List (ℕ × Append)) → InRow n m → Unacked s n m
unacked s n [] r = record { row = tt; lengths = omega arith }
unacked s n (p ∷ m) r = let t = unacked_step s n p m (is_acked s p.1) r (unacked s (n + 1) m r.1) in record { row = t.0; lengths = t.1 }

pub row_end : (n : ℕ) (m : List (ℕ × Append)) (x : ℕ × Append) → InRow n m → x.0 ≡ n + length m → InRow n (m ++ x ∷ [])
row_end n [] x r e = (omega arith, tt)
row_end n (p ∷ m) x r e = (r.0, row_end (n + 1) m x r.1 (omega arith))

pub raised_row : (s : Spec) (n : ℕ) (m : List (ℕ × Append)) → InRow n m → InRow n (raised s m)
raised_row s n [] r = tt
raised_row s n (p ∷ m) r = (r.0, raised_row s (n + 1) m r.1)

pub raised_length : (s : Spec) (m : List (ℕ × Append)) → length (raised s m) ≡ length m
raised_length s [] = refl
raised_length s (p ∷ m) = ap suc (raised_length s m)

-- ---- a sequencer's numbers ----

-- its pending appends stand in a row above the last number such that it and all below are acknowledged
abbrev pub RowOf : Sequencer → Type 0
RowOf q = InRow (numbered q.epoch (q.lng + 1)) q.appends

-- the numbers that wait are of the sequencer's epoch
pub own_epoch : (q : Sequencer) → RowOf q → next_esn q ≤ last_esn → (p : ℕ × Append) → In p q.appends → epoch_of p.0 ≡ q.epoch
own_epoch q r h p i = let z = row_bounds (numbered q.epoch (q.lng + 1)) q.appends p r i in let a = z.0 in let b = z.1 in omega arith

-- another state of the same sequencer, that has numbered as many appends
pub record Continues (q n : Sequencer) : Type 0 where
  pub log : n.log ≡ q.log
  pub epoch : n.epoch ≡ q.epoch
  pub count : next_esn n ≡ next_esn q
  pub row : RowOf n

pub acks_continue : (s : Spec) (q : Sequencer) (n : ℕ) (p x : Append) → RowOf q → find n q.appends ≡ Some p → Continues q (with_append s q n x)
acks_continue s q n p x r h =
    let t = put_in_row (numbered q.epoch (q.lng + 1)) n x p q.appends r h in
    let u = unacked s (numbered q.epoch (q.lng + 1)) (put n x q.appends) t.row in
    let l = u.lengths in let m = t.same_length in
    record { log = refl; epoch = refl; count = omega arith; row = subst (λ k. InRow k (unacked_from s (put n x q.appends))) (omega arith) u.row }
