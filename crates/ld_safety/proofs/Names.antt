-- Tables under names in which each name stands once: what is found, what a change leaves, who has a number.
use Rattle.std.proofs.Common.{◌≡◌, ◌∙◌, ◌⊎◌, ◌&&◌, ◌==◌, ℕ, inl, inr, refl, ap, sym, subst, Bool, true, false, cond, List, [], ◌∷◌, Some}
use Rattle.std.proofs.lemmas.Bool.{cases_Bool, eqb-true, and_parts}
use Rattle.ld_table.specs.Named.{same, find_named, put_named}
use Rattle.ld_table.proofs.NameLaws.{same-true, same-self, same-flip, find_named-put_named}
use Rattle.ld_machine.specs.World.{In}
use Rattle.ld_msg.specs.Sequencer.{Sequencer}
use Rattle.ld_msg.specs.Reader.{Reader}
use Rattle.ld_machine.specs.State.{sequencer_of, reader_of}
use Rattle.ld_safety.proofs.Lists.{Some_inj, not_none, branch}

module _ {X : Type 0} where
  -- each name stands once
  abbrev pub Once : List (List ℕ × X) → Type 0
  Once [] = Unit {0}
  Once (e ∷ m) = ((f : List ℕ × X) → In f m → same e.0 f.0 ≡ false) × Once m

  put_in : (k : List ℕ) (v : X) (m : List (List ℕ × X)) (f : List ℕ × X) → In f (put_named k v m) → (f.0 ≡ k) ⊎ In f m
  unfolding put_named
  put_in k v [] f (inl e) = inl (ap (λ (x : List ℕ × X). x.0) e)
  put_in k v [] f (inr h) = absurd h
  put_in k v (e ∷ m) f h = put_in_by (same k e.0) refl (put_in k v m f) h where
    put_in_by : (b : Bool) → same k e.0 ≡ b → (In f (put_named k v m) → (f.0 ≡ k) ⊎ In f m) → In f (cond b ((e.0, v) ∷ m) (e ∷ put_named k v m)) → (f.0 ≡ k) ⊎ In f (e ∷ m)
    put_in_by true q ih (inl i) = inl (ap (λ (x : List ℕ × X). x.0) i ∙ sym (same-true k e.0 q))
    put_in_by true q ih (inr i) = inr (inr i)
    put_in_by false q ih (inl i) = inr (inl i)
    put_in_by false q ih (inr i) = elim (ih i) [ inl a ↦ inl a | inr a ↦ inr (inr a) ]

  pub Once-put : (k : List ℕ) (v : X) (m : List (List ℕ × X)) → Once m → Once (put_named k v m)
  unfolding put_named
  Once-put k v [] o = ((λ f h. absurd h), tt)
  Once-put k v (e ∷ m) o = once_by (same k e.0) refl (Once-put k v m o.1) where
    once_by : (b : Bool) → same k e.0 ≡ b → Once (put_named k v m) → Once (cond b ((e.0, v) ∷ m) (e ∷ put_named k v m))
    once_by true q ih = (o.0, o.1)
    once_by false q ih = ((λ f h. elim (put_in k v m f h) [ inl a ↦ subst (λ x. same e.0 x ≡ false) (sym a) (same-flip e.0 k ∙ q) | inr a ↦ o.0 f a ]), ih)

  pub found : (m : List (List ℕ × X)) (f : List ℕ × X) → Once m → In f m → find_named f.0 m ≡ Some f.1
  unfolding find_named
  found [] f o h = absurd h
  found (e ∷ m) f o (inl i) = let q : same f.0 e.0 ≡ true = subst (λ x. same f.0 x ≡ true) (ap (λ (x : List ℕ × X). x.0) i) (same-self f.0) in
      ap (λ b. cond b (Some e.1) (find_named f.0 m)) q ∙ ap Some (sym (ap (λ (x : List ℕ × X). x.1) i))
  found (e ∷ m) f o (inr i) = ap (λ b. cond b (Some e.1) (find_named f.0 m)) (same-flip f.0 e.0 ∙ o.0 f i) ∙ found m f o.1 i

  -- either it is the name, or it is as before
  pub named_cases : (q k : List ℕ) (v : X) (m : List (List ℕ × X)) → ((q ≡ k) × (find_named q (put_named k v m) ≡ Some v)) ⊎ ((same q k ≡ false) × (find_named q (put_named k v m) ≡ find_named q m))
  named_cases q k v m = elim (cases_Bool (same q k)) [
    | inl a ↦ inl (same-true q k a, find_named-put_named q k v m ∙ ap (λ b. cond b (Some v) (find_named q m)) a)
    | inr a ↦ inr (a, find_named-put_named q k v m ∙ ap (λ b. cond b (Some v) (find_named q m)) a)
  ]

pub record SequencerOf (m : List (List ℕ × Sequencer)) (l e : ℕ) (q : List ℕ × Sequencer) : Type 0 where
  pub there : In q m
  pub log : q.1.log ≡ l
  pub epoch : q.1.epoch ≡ e

pub sequencer_found : (l e : ℕ) (m : List (List ℕ × Sequencer)) (q : List ℕ × Sequencer) → sequencer_of l e m ≡ Some q → SequencerOf m l e q
sequencer_found l e [] q h = absurd (not_none h)
sequencer_found l e (p ∷ m) q h = elim (branch ((p.1.log == l) && (p.1.epoch == e)) (Some p) (sequencer_of l e m) (Some q) h) [
  | inl a ↦ let b = and_parts (p.1.log == l) (p.1.epoch == e) a.0 in let i : p ≡ q = Some_inj a.1 in
      record { there = inl (sym i); log = subst (λ (x : List ℕ × Sequencer). x.1.log ≡ l) i (eqb-true p.1.log l b.0); epoch = subst (λ (x : List ℕ × Sequencer). x.1.epoch ≡ e) i (eqb-true p.1.epoch e b.1) }
  | inr a ↦ let r = sequencer_found l e m q a.1 in record { there = inr r.there; log = r.log; epoch = r.epoch }
]

pub record ReaderOf (m : List (List ℕ × Reader)) (r : ℕ) (d : List ℕ × Reader) : Type 0 where
  pub there : In d m
  pub number : d.1.number ≡ r

pub reader_found : (r : ℕ) (m : List (List ℕ × Reader)) (d : List ℕ × Reader) → reader_of r m ≡ Some d → ReaderOf m r d
reader_found r [] d h = absurd (not_none h)
reader_found r (p ∷ m) d h = elim (branch (p.1.number == r) (Some p) (reader_of r m) (Some d) h) [
  | inl a ↦ let i : p ≡ d = Some_inj a.1 in record { there = inl (sym i); number = subst (λ (x : List ℕ × Reader). x.1.number ≡ r) i (eqb-true p.1.number r a.0) }
  | inr a ↦ let q = reader_found r m d a.1 in record { there = inr q.there; number = q.number }
]
