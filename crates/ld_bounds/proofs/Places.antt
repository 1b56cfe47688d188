-- Readers under names: each name stands once, and each number is a place.
use Rattle.std.proofs.Common.{◌≡◌, ◌∙◌, ◌≤◌, ℕ, suc, ◌+◌, refl, ap, subst, Bool, true, false, ◌==◌, ◌&&◌, cond, List, [], ◌∷◌, length, Some, None, arith}
use Rattle.std.specs.Map as map
use Rattle.std.specs.List.{AllByRecursion, IsDistinct}
use Rattle.std.proofs.lemmas.Bool.{eqb-true, and_parts}
use Rattle.ld_table.specs.Named.{same, find_named, put_named, Distinct}
use Rattle.ld_table.proofs.NameLaws.{same-flip}
use Rattle.ld_table.proofs.NameOrder.{found}
use Rattle.ld_msg.specs.Sequencer.{Sequencer}
use Rattle.ld_msg.specs.Reader.{Reader}
use Rattle.ld_machine.specs.State.{sequencer_of, reader_of}
use Rattle.ld_bounds.specs.Readers.{AreInPlace}

module _ {X : Type 0} where
  keys_step : (P : List ℕ → Type 0) (b : Bool) (k : List ℕ) (v : X) (e : List ℕ × X) (m : List (List ℕ × X)) → P e.0 → AllByRecursion P (map.keys_of m) → AllByRecursion P (map.keys_of (put_named k v m)) → AllByRecursion P (map.keys_of (cond b ((e.0, v) ∷ m) (e ∷ put_named k v m)))
  keys_step P true k v e m p a ih = (p, a)
  keys_step P false k v e m p a ih = (p, ih)

  keys-put : (P : List ℕ → Type 0) (k : List ℕ) (v : X) (m : List (List ℕ × X)) → P k → AllByRecursion P (map.keys_of m) → AllByRecursion P (map.keys_of (put_named k v m))
  unfolding put_named
  keys-put P k v [] p a = (p, tt)
  keys-put P k v (e ∷ m) p a = keys_step P (same k e.0) k v e m a.0 a.1 (keys-put P k v m p a.1)

  distinct_step : (b : Bool) (k : List ℕ) (v : X) (e : List ℕ × X) (m : List (List ℕ × X)) → same k e.0 ≡ b → AllByRecursion (λ y. same e.0 y ≡ false) (map.keys_of m) → Distinct m → Distinct (put_named k v m) → Distinct (cond b ((e.0, v) ∷ m) (e ∷ put_named k v m))
  unfolding IsDistinct
  distinct_step true k v e m h a d ih = (a, d)
  distinct_step false k v e m h a d ih = (keys-put (λ y. same e.0 y ≡ false) k v m (same-flip e.0 k ∙ h) a, ih)

  pub distinct-put : (k : List ℕ) (v : X) (m : List (List ℕ × X)) → Distinct m → Distinct (put_named k v m)
  unfolding put_named IsDistinct
  distinct-put k v [] d = (tt, tt)
  distinct-put k v (e ∷ m) d = distinct_step (same k e.0) k v e m refl d.0 d.1 (distinct-put k v m d.1)

  length_old : (b : Bool) (k : List ℕ) (v x : X) (e : List ℕ × X) (m : List (List ℕ × X)) → cond b (Some e.1) (find_named k m) ≡ Some x → (find_named k m ≡ Some x → length (put_named k v m) ≡ length m) → length (cond b ((e.0, v) ∷ m) (e ∷ put_named k v m)) ≡ suc (length m)
  length_old true k v x e m f ih = refl
  length_old false k v x e m f ih = ap suc (ih f)

  pub length-there : (k : List ℕ) (v x : X) (m : List (List ℕ × X)) → find_named k m ≡ Some x → length (put_named k v m) ≡ length m
  unfolding put_named find_named
  length-there k v x [] f = absurd cc
  length-there k v x (e ∷ m) f = length_old (same k e.0) k v x e m f (length-there k v x m)

  length_more : (b : Bool) (k : List ℕ) (v : X) (e : List ℕ × X) (m : List (List ℕ × X)) → length (put_named k v m) ≤ length m + 1 → length (cond b ((e.0, v) ∷ m) (e ∷ put_named k v m)) ≤ suc (length m) + 1
  length_more true k v e m ih = omega arith
  length_more false k v e m ih = omega (arith, ih)

  pub length-put : (k : List ℕ) (v : X) (m : List (List ℕ × X)) → length (put_named k v m) ≤ length m + 1
  unfolding put_named
  length-put k v [] = omega arith
  length-put k v (e ∷ m) = length_more (same k e.0) k v e m (length-put k v m)

-- ---- places ----

old_step : (b : Bool) (from : ℕ) (k : List ℕ) (v x : Reader) (e : List ℕ × Reader) (m : List (List ℕ × Reader)) → v.number ≡ x.number → e.1.number ≡ from → AreInPlace (from + 1) m → cond b (Some e.1) (find_named k m) ≡ Some x
    → (find_named k m ≡ Some x → AreInPlace (from + 1) (put_named k v m)) → AreInPlace from (cond b ((e.0, v) ∷ m) (e ∷ put_named k v m))
old_step true from k v x e m q h a f ih = (q ∙ (ap (λ (o : Reader). o.number) (some_same f) ∙ h), a) where
  some_same : Some e.1 ≡ Some x → x ≡ e.1
  some_same f = cc
old_step false from k v x e m q h a f ih = (h, ih f)

-- a reader that is there keeps its number
pub places-there : (from : ℕ) (k : List ℕ) (v x : Reader) (m : List (List ℕ × Reader)) → v.number ≡ x.number → find_named k m ≡ Some x → AreInPlace from m → AreInPlace from (put_named k v m)
unfolding put_named find_named
places-there from k v x [] q f a = absurd cc
places-there from k v x (e ∷ m) q f a = old_step (same k e.0) from k v x e m q a.0 a.1 f (λ g. places-there (from + 1) k v x m q g a.1)

new_step : (b : Bool) (from : ℕ) (k : List ℕ) (v : Reader) (e : List ℕ × Reader) (m : List (List ℕ × Reader)) → e.1.number ≡ from → cond b (Some e.1) (find_named k m) ≡ None → (find_named k m ≡ None → AreInPlace (from + 1) (put_named k v m)) → AreInPlace from (cond b ((e.0, v) ∷ m) (e ∷ put_named k v m))
new_step true from k v e m h f ih = absurd cc
new_step false from k v e m h f ih = (h, ih f)

-- a new one comes last
pub places-new : (from : ℕ) (k : List ℕ) (v : Reader) (m : List (List ℕ × Reader)) → v.number ≡ from + length m → find_named k m ≡ None → AreInPlace from m → AreInPlace from (put_named k v m)
unfolding put_named find_named
places-new from k v [] q f a = (omega arith, tt)
places-new from k v (e ∷ m) q f a = new_step (same k e.0) from k v e m a.0 f (λ g. places-new (from + 1) k v m (omega arith) g a.1)

-- ---- who is found ----

module _ (P : List ℕ × Reader → Type 0) where
  reader_step : (b : Bool) (r : ℕ) (e d : List ℕ × Reader) (m : List (List ℕ × Reader)) → P e → (reader_of r m ≡ Some d → P d) → cond b (Some e) (reader_of r m) ≡ Some d → P d
  reader_step true r e d m p ih f = let q : e ≡ d = cc in subst P q p
  reader_step false r e d m p ih f = ih f

  pub reader_found : (r : ℕ) (m : List (List ℕ × Reader)) (d : List ℕ × Reader) → AllByRecursion P m → reader_of r m ≡ Some d → P d
  reader_found r [] d a f = absurd cc
  reader_found r (e ∷ m) d a f = reader_step (e.1.number == r) r e d m a.0 (reader_found r m d a.1) f

number_step : (b : Bool) (r : ℕ) (e d : List ℕ × Reader) (m : List (List ℕ × Reader)) → (e.1.number == r) ≡ b → (reader_of r m ≡ Some d → d.1.number ≡ r) → cond b (Some e) (reader_of r m) ≡ Some d → d.1.number ≡ r
number_step true r e d m h ih f = let q : e ≡ d = cc in subst (λ (x : List ℕ × Reader). x.1.number ≡ r) q (eqb-true e.1.number r h)
number_step false r e d m h ih f = ih f

pub number_found : (r : ℕ) (m : List (List ℕ × Reader)) (d : List ℕ × Reader) → reader_of r m ≡ Some d → d.1.number ≡ r
number_found r [] d f = absurd cc
number_found r (e ∷ m) d f = number_step (e.1.number == r) r e d m refl (number_found r m d) f

-- its name leads to it
pub reader_named : (r : ℕ) (m : List (List ℕ × Reader)) (d : List ℕ × Reader) → Distinct m → reader_of r m ≡ Some d → find_named d.0 m ≡ Some d.1
reader_named r m d D f = reader_found (λ e. find_named e.0 m ≡ Some e.1) r m d (found m D) f

module _ (P : Sequencer → Type 0) where
  sequencer_step : (b : Bool) (l e : ℕ) (p q : List ℕ × Sequencer) (m : List (List ℕ × Sequencer)) → P p.1 → (sequencer_of l e m ≡ Some q → P q.1) → cond b (Some p) (sequencer_of l e m) ≡ Some q → P q.1
  sequencer_step true l e p q m h ih f = let z : p ≡ q = cc in subst (λ (x : List ℕ × Sequencer). P x.1) z h
  sequencer_step false l e p q m h ih f = ih f

  pub sequencer_found : (l e : ℕ) (m : List (List ℕ × Sequencer)) (q : List ℕ × Sequencer) → AllByRecursion (λ (d : List ℕ × Sequencer). P d.1) m → sequencer_of l e m ≡ Some q → P q.1
  sequencer_found l e [] q a f = absurd cc
  sequencer_found l e (p ∷ m) q a f = sequencer_step ((p.1.log == l) && (p.1.epoch == e)) l e p q m a.0 (sequencer_found l e m q a.1) f

epoch_step : (b : Bool) (l e : ℕ) (p q : List ℕ × Sequencer) (m : List (List ℕ × Sequencer)) → ((p.1.log == l) && (p.1.epoch == e)) ≡ b → (sequencer_of l e m ≡ Some q → q.1.epoch ≡ e) → cond b (Some p) (sequencer_of l e m) ≡ Some q → q.1.epoch ≡ e
epoch_step true l e p q m h ih f = let z : p ≡ q = cc in subst (λ (x : List ℕ × Sequencer). x.1.epoch ≡ e) z (eqb-true p.1.epoch e (and_parts (p.1.log == l) (p.1.epoch == e) h).1)
epoch_step false l e p q m h ih f = ih f

pub epoch_found : (l e : ℕ) (m : List (List ℕ × Sequencer)) (q : List ℕ × Sequencer) → sequencer_of l e m ≡ Some q → q.1.epoch ≡ e
epoch_found l e [] q f = absurd cc
epoch_found l e (p ∷ m) q f = epoch_step ((p.1.log == l) && (p.1.epoch == e)) l e p q m refl (epoch_found l e m q) f
