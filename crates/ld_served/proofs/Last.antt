-- A log's last sequencer: no other one of the log has a greater epoch.
use Rattle.std.proofs.Common.{◌≡◌, ◌∙◌, ◌⊎◌, ◌≤◌, ℕ, inl, inr, refl, ap, sym, subst, Bool, true, false, ◌==◌, nat_lt, if◌then◌else◌, List, [], ◌∷◌, Option, Some, None, arith, eq-eqb}
use Rattle.std.proofs.lemmas.Bool.{eqb-true, ltb-true, ltb-false}
use Rattle.ld_table.specs.Named.{same, find_named, put_named}
use Rattle.ld_msg.specs.Sequencer.{Sequencer}
use Rattle.ld_machine.specs.State.{State}
use Rattle.ld_machine.specs.World.{In}
use Rattle.ld_machine.specs.Calm.{last_of, last_in, later_of}
use Rattle.ld_safety.proofs.Lists.{Some_inj, not_none}
use Rattle.ld_safety.proofs.Names.{Once, found, named_cases}
use Rattle.ld_served.proofs.Actors.{Here}

pub record LastOf (qs : List (List ℕ × Sequencer)) (l : ℕ) (name : List ℕ) (q : Sequencer) : Type 0 where
  pub named : find_named name qs ≡ Some q
  pub log : q.log ≡ l
  pub most : (t : List ℕ) (r : Sequencer) → find_named t qs ≡ Some r → r.log ≡ l → r.epoch ≤ q.epoch

-- no epoch of a sequencer that is there is greater
pub here_most : (qs : List (List ℕ × Sequencer)) (l : ℕ) (name : List ℕ) (q : Sequencer) (b : ℕ) → LastOf qs l name q → Here qs l b → b ≤ q.epoch
here_most qs l name q b L h = let z = L.most h.name h.sequencer h.named h.log in let e = h.epoch in omega arith

-- where one goes on under its name, the last one is it, or is as before
pub last_put : (qs : List (List ℕ × Sequencer)) (name : List ℕ) (q p : Sequencer) (l : ℕ) (n : List ℕ) (r : Sequencer) → find_named name qs ≡ Some q → p.log ≡ q.log → p.epoch ≡ q.epoch → LastOf (put_named name p qs) l n r
    → ((n ≡ name) × (r ≡ p) × LastOf qs l name q) ⊎ LastOf qs l n r
last_put qs name q p l n r f lg ep L = elim (named_cases n name p qs) [
  | inl e ↦ (let is : r ≡ p = Some_inj (sym L.named ∙ e.1) in let same_log : p.log ≡ l = ap (λ (x : Sequencer). x.log) (sym is) ∙ L.log in inl (e.0, is, record { named = f; log = sym lg ∙ same_log; most = λ t x k j. (let z = all t x k j in let u : r.epoch ≡ p.epoch = ap (λ (x : Sequencer). x.epoch) is in omega arith) }))
  | inr e ↦ inr (record { named = sym e.1 ∙ L.named; log = L.log; most = all })
] where
  all : (t : List ℕ) (x : Sequencer) → find_named t qs ≡ Some x → x.log ≡ l → x.epoch ≤ r.epoch
  all t x k j = elim (named_cases t name p qs) [
    | inl a ↦ (let is : x ≡ q = Some_inj (sym k ∙ (ap (λ y. find_named y qs) a.0 ∙ f)) in
        let m = L.most t p a.1 (lg ∙ (ap (λ (y : Sequencer). y.log) (sym is) ∙ j)) in let u : x.epoch ≡ q.epoch = ap (λ (y : Sequencer). y.epoch) is in omega arith)
    | inr a ↦ L.most t x (a.1 ∙ k) j
  ]

-- ---- as a calm finds it ----

-- the later one of two
record Later (o : Option (List ℕ × Sequencer)) (q : List ℕ × Sequencer) : Type 0 where
  of_both : List ℕ × Sequencer
  is : later_of o q ≡ Some of_both
  new : q.1.epoch ≤ of_both.1.epoch
  old : (z : List ℕ × Sequencer) → o ≡ Some z → z.1.epoch ≤ of_both.1.epoch

later_both : (o : Option (List ℕ × Sequencer)) (q : List ℕ × Sequencer) → Later o q
later_both None q = record { of_both = q; is = refl; new = omega arith; old = λ z e. absurd (not_none e) }
later_both (Some p) q = by_test (nat_lt p.1.epoch q.1.epoch) refl where
  by_test : (b : Bool) → nat_lt p.1.epoch q.1.epoch ≡ b → Later (Some p) q
  by_test true t = record { of_both = q; is = ap (λ b. if b then Some q else Some p) t; new = omega arith; old = λ z e. (let k : p.1.epoch ≡ z.1.epoch = ap (λ (x : List ℕ × Sequencer). x.1.epoch) (Some_inj e) in let u = ltb-true p.1.epoch q.1.epoch t in omega arith) }
  by_test false t = record { of_both = p; is = ap (λ b. if b then Some q else Some p) t; new = ltb-false p.1.epoch q.1.epoch t; old = λ z e. (let k : p.1.epoch ≡ z.1.epoch = ap (λ (x : List ℕ × Sequencer). x.1.epoch) (Some_inj e) in omega arith) }

-- what is found is one of the log, and none is later
record Found (l : ℕ) (o : Option (List ℕ × Sequencer)) (qs : List (List ℕ × Sequencer)) (p : List ℕ × Sequencer) : Type 0 where
  whence : (o ≡ Some p) ⊎ (In p qs × (p.1.log ≡ l))
  before : (z : List ℕ × Sequencer) → o ≡ Some z → z.1.epoch ≤ p.1.epoch
  all : (z : List ℕ × Sequencer) → In z qs → z.1.log ≡ l → z.1.epoch ≤ p.1.epoch

last_found : (l : ℕ) (o : Option (List ℕ × Sequencer)) (qs : List (List ℕ × Sequencer)) (p : List ℕ × Sequencer) → last_in l o qs ≡ Some p → Found l o qs p
last_found l o [] p h = record { whence = inl h; before = λ z e. (let k : z.1.epoch ≡ p.1.epoch = ap (λ (x : List ℕ × Sequencer). x.1.epoch) (Some_inj (sym e ∙ h)) in omega arith); all = λ z i. absurd i }
last_found l o (q ∷ qs) p h = by_log (q.1.log == l) refl (λ z. last_found l z qs p) h where
  by_log : (b : Bool) → (q.1.log == l) ≡ b → ((z : Option (List ℕ × Sequencer)) → last_in l z qs ≡ Some p → Found l z qs p) → last_in l (if b then later_of o q else o) qs ≡ Some p → Found l o (q ∷ qs) p
  by_log true t ih k = let f = ih (later_of o q) k in let w = later_both o q in let up = f.before w.of_both w.is in let new = w.new in record {
    whence = elim f.whence [
      | inl e ↦ by_old o e
      | inr i ↦ inr (inr i.0, i.1)
    ];
    before = λ z e. (let a = w.old z e in omega arith);
    all = λ z i lg. elim i [ inl e ↦ (let k : z.1.epoch ≡ q.1.epoch = ap (λ (x : List ℕ × Sequencer). x.1.epoch) e in omega arith) | inr j ↦ f.all z j lg ];
  } where
    by_old : (o : Option (List ℕ × Sequencer)) → later_of o q ≡ Some p → (o ≡ Some p) ⊎ (In p (q ∷ qs) × (p.1.log ≡ l))
    by_old None e = inr (inl (sym (Some_inj e)), ap (λ (x : List ℕ × Sequencer). x.1.log) (sym (Some_inj e)) ∙ eqb-true q.1.log l t)
    by_old (Some z) e = by_test (nat_lt z.1.epoch q.1.epoch) e where
      by_test : (b : Bool) → (if b then Some q else Some z) ≡ Some p → (Some z ≡ Some p) ⊎ (In p (q ∷ qs) × (p.1.log ≡ l))
      by_test true f = inr (inl (sym (Some_inj f)), ap (λ (x : List ℕ × Sequencer). x.1.log) (sym (Some_inj f)) ∙ eqb-true q.1.log l t)
      by_test false f = inl f
  by_log false t ih k = let f = ih o k in record {
    whence = elim f.whence [ inl e ↦ inl e | inr i ↦ inr (inr i.0, i.1) ];
    before = f.before;
    all = λ z i lg. elim i [ inl e ↦ absurd (let k : (q.1.log == l) ≡ true = eq-eqb q.1.log l (ap (λ (x : List ℕ × Sequencer). x.1.log) (sym e) ∙ lg) in let u : true ≡ false = sym k ∙ t in cc) | inr j ↦ f.all z j lg ];
  }

-- where a name is found, the pair is there
pub named_in : (name : List ℕ) (qs : List (List ℕ × Sequencer)) (q : Sequencer) → find_named name qs ≡ Some q → (p : List ℕ × Sequencer) × In p qs × (p.1 ≡ q)
unfolding find_named
named_in name [] q h = absurd (not_none h)
named_in name (p ∷ qs) q h = by_same (same name p.0) (named_in name qs q) h where
  by_same : (b : Bool) → (find_named name qs ≡ Some q → (x : List ℕ × Sequencer) × In x qs × (x.1 ≡ q)) → (if b then Some p.1 else find_named name qs) ≡ Some q → (x : List ℕ × Sequencer) × In x (p ∷ qs) × (x.1 ≡ q)
  by_same true ih e = (p, inl refl, Some_inj e)
  by_same false ih e = let z = ih e in (z.0, inr z.1, z.2)

pub last_is : (s : State) (l : ℕ) (q : List ℕ × Sequencer) → Once s.sequencers → last_of s l ≡ Some q → LastOf s.sequencers l q.0 q.1
last_is s l q N h = let f = last_found l None s.sequencers q h in elim f.whence [
  | inl e ↦ absurd (not_none e)
  | inr i ↦ record {
    named = found s.sequencers q N i.0;
    log = i.1;
    most = λ t r k lg. (let z = named_in t s.sequencers r k in let u = f.all z.0 z.1 (ap (λ (x : Sequencer). x.log) z.2 ∙ lg) in let v : z.0.1.epoch ≡ r.epoch = ap (λ (x : Sequencer). x.epoch) z.2 in omega arith);
  }
]

-- none is found only where there is none
some_found : (l : ℕ) (w : List ℕ × Sequencer) (qs : List (List ℕ × Sequencer)) → last_in l (Some w) qs ≡ None → ⊥
some_found l w [] h = not_none (sym h)
some_found l w (q ∷ qs) h = by_log (q.1.log == l) (λ z. some_found l z qs) h where
  by_log : (b : Bool) → ((z : List ℕ × Sequencer) → last_in l (Some z) qs ≡ None → ⊥) → last_in l (if b then later_of (Some w) q else Some w) qs ≡ None → ⊥
  by_log true ih k = let z = later_both (Some w) q in ih z.of_both (subst (λ o. last_in l o qs ≡ None) z.is k)
  by_log false ih k = ih w k

none_found : (l : ℕ) (qs : List (List ℕ × Sequencer)) → last_in l None qs ≡ None → (y : List ℕ × Sequencer) → In y qs → y.1.log ≡ l → ⊥
none_found l [] h y i lg = i
none_found l (q ∷ qs) h y i lg = by_log (q.1.log == l) refl (λ k j. none_found l qs k y j lg) h i where
  by_log : (b : Bool) → (q.1.log == l) ≡ b → (last_in l None qs ≡ None → In y qs → ⊥) → last_in l (if b then Some q else None) qs ≡ None → In y (q ∷ qs) → ⊥
  by_log true t ih k j = some_found l q qs k
  by_log false t ih k (inl e) = (let z : (q.1.log == l) ≡ true = eq-eqb q.1.log l (ap (λ (x : List ℕ × Sequencer). x.1.log) (sym e) ∙ lg) in let u : true ≡ false = sym z ∙ t in cc)
  by_log false t ih k (inr j) = ih k j

pub last_none : (s : State) (l : ℕ) (name : List ℕ) (q : Sequencer) → last_of s l ≡ None → LastOf s.sequencers l name q → ⊥
last_none s l name q h L = let z = named_in name s.sequencers q L.named in none_found l s.sequencers h z.0 z.1 (ap (λ (x : Sequencer). x.log) z.2 ∙ L.log)
