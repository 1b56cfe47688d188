-- A digest that is asked on is neither enough nor spent, after each call of a sequencer that isn't preempted.
use Rattle.std.proofs.Common.{◌≡◌, ◌∙◌, ◌≤◌, ◌<◌, ℕ, suc, ◌+◌, inl, inr, refl, ap, sym, subst, Bool, false, not, ◌&&◌, ◌||◌, if◌then◌else◌, nat_lt, List, [], ◌∷◌, length, map, Some, None, arith}
use Rattle.std.proofs.lemmas.Bool.{cases_Bool, ltb-true}
use Rattle.ld_table.specs.Words.{how_many, all_of}
use Rattle.ld_ids.specs.Choice.{nodes_of}
use Rattle.ld_ids.specs.declared.set.Spec.{Spec}
use Rattle.ld_config.specs.declared.config.Config.{Config}
use Rattle.ld_msg.specs.declared.msg.Summary.{Summary}
use Rattle.ld_msg.specs.declared.msg.Body.{Body}
use Rattle.ld_msg.specs.Register.{Register, lce_of, look}
use Rattle.ld_msg.specs.Digest.{Told, told_nothing, no_digest, asked_anew, with_asks, digest_lng, enough, is_spent}
use Rattle.ld_msg.specs.Sequencer.{Sequencer, Recovery, Stage, Seals, Stores, Closes, Acts, Called, recovery_of, recovery_lost, begun, next_try}
use Rattle.ld_machine.specs.Config.{looks_at}
use Rattle.ld_safety.proofs.Lists.{Some_inj, not_none, cond_both}
use Rattle.ld_safety.proofs.Specs.{SpecFine}
use Rattle.ld_safety.proofs.SequencerSteps.{Acting, Retrying, Closing}

-- ---- digests ----

none_whole : (e : ℕ) (ns : List ℕ) → how_many (λ (t : Told). t.whole && not t.lost) (map (told_nothing e) ns) ≡ 0
none_whole e [] = refl
none_whole e (n ∷ ns) = none_whole e ns

-- one that begins isn't enough, as a set has as many nodes as there are copies, and isn't spent, as there is a copy
begins_short : (s : Spec) (e : ℕ) → SpecFine s → enough s (no_digest s e) ≡ false
unfolding enough
begins_short s e F = elim (cases_Bool (nat_lt (length (nodes_of s)) (s.r + how_many (λ (t : Told). t.whole && not t.lost) (no_digest s e)))) [
  | inl t ↦ absurd (let l = ltb-true (length (nodes_of s)) (s.r + how_many (λ (t : Told). t.whole && not t.lost) (no_digest s e)) t in let z = none_whole e (nodes_of s) in let m = F.most in omega arith)
  | inr t ↦ t
]

begins_unspent : (s : Spec) (e : ℕ) → SpecFine s → is_spent s (no_digest s e) ≡ false
unfolding is_spent
begins_unspent s e F = by_nodes (nodes_of s) (let a = F.least in let b = F.most in let z : 1 ≤ length (nodes_of s) = omega arith in z) where
  by_nodes : (ns : List ℕ) → 1 ≤ length ns → (all_of (λ (t : Told). t.whole || t.lost) (map (told_nothing e) ns) && not (enough s (no_digest s e))) ≡ false
  by_nodes [] h = absurd (omega arith)
  by_nodes (n ∷ ns) h = refl

-- to be asked anew changes neither
anew_whole : (e g : ℕ) (d : List Told) → how_many (λ (t : Told). t.whole && not t.lost) (map (asked_anew e g) d) ≡ how_many (λ (t : Told). t.whole && not t.lost) d
anew_whole e g [] = refl
anew_whole e g (t ∷ d) = ap (λ n. if t.whole && not t.lost then suc n else n) (anew_whole e g d)

anew_all : (e g : ℕ) (d : List Told) → all_of (λ (t : Told). t.whole || t.lost) (map (asked_anew e g) d) ≡ all_of (λ (t : Told). t.whole || t.lost) d
anew_all e g [] = refl
anew_all e g (t ∷ d) = ap (λ b. (t.whole || t.lost) && b) (anew_all e g d)

enough_anew : (s : Spec) (e : ℕ) (d : List Told) → enough s (with_asks e d) ≡ enough s d
unfolding enough with_asks
enough_anew s e d = ap (λ n. nat_lt (length (nodes_of s)) (s.r + n)) (anew_whole e (digest_lng d) d)

spent_anew : (s : Spec) (e : ℕ) (d : List Told) → is_spent s (with_asks e d) ≡ is_spent s d
unfolding is_spent with_asks
spent_anew s e d = (λ i. anew_all e (digest_lng d) d i && not (enough_anew s e d i))

-- ---- a call ----

abbrev pub IsAsking : Spec → List Told → Type 0
IsAsking s d = (enough s d ≡ false) × (is_spent s d ≡ false)

abbrev pub IsUnready : Sequencer → Type 0
IsUnready q = q.preempted ≡ None → (v : Recovery) → q.recovery ≡ Some v → (d : List Told) → v.stage ≡ Seals d → IsAsking v.spec d

seals_inj : (d f : List Told) → Seals d ≡ Seals f → d ≡ f
seals_inj d f e = cc

pub begun_asks : (c : Config) (r : Register) (l : ℕ) (a : Sequencer) (fine : (e : ℕ) → 0 < e → e < a.epoch → SpecFine (looks_at c r l e).spec) (lce : ℕ) (v : Recovery) → recovery_of (looks_at c r l) a lce ≡ Some v → (d : List Told) → v.stage ≡ Seals d → IsAsking v.spec d
unfolding look
begun_asks c r l a fine lce v = cond_both (nat_lt (lce + 1) a.epoch) (Some (begun (looks_at c r l (lce + 1)))) None (λ o. o ≡ Some v → (d : List Told) → v.stage ≡ Seals d → IsAsking v.spec d)
    (λ t h d e. let b : begun (looks_at c r l (lce + 1)) ≡ v = Some_inj h in
    let f : (looks_at c r l (lce + 1)).spec ≡ v.spec = ap (λ (x : Recovery). x.spec) b in
    let g : no_digest (looks_at c r l (lce + 1)).spec (lce + 1) ≡ d = seals_inj _ d (ap (λ (x : Recovery). x.stage) b ∙ e) in
    subst (λ p. IsAsking p d) f (subst (IsAsking (looks_at c r l (lce + 1)).spec) g (begins_short (looks_at c r l (lce + 1)).spec (lce + 1) (fine (lce + 1) (omega arith) (ltb-true _ _ t)), begins_unspent (looks_at c r l (lce + 1)).spec (lce + 1) (fine (lce + 1) (omega arith) (ltb-true _ _ t)))))
    (λ t h. absurd (not_none h))

module _ (c : Config) (r : Register) (q : Sequencer) (fine : (e : ℕ) → 0 < e → e < q.epoch → SpecFine (looks_at c r q.log e).spec) (N : IsUnready q) where
  abbrev Unready : Called → Type 0
  Unready k = IsUnready k.acts.sequencer

  stands : (w : Recovery) (s : Stage) (v : Recovery) → Some (record w { stage = s }) ≡ Some v → (d : List Told) → v.stage ≡ Seals d → s ≡ Seals d
  stands w s v e d g = ap (λ (x : Recovery). x.stage) (Some_inj e) ∙ g

  close_unready : (a : Acts) (e : ℕ) (y : Summary) (short : Bool) → a.sequencer.epoch ≡ q.epoch → IsUnready a.sequencer → Closing r (looks_at c r q.log) a e y short (λ k. Unready k)
  close_unready a e y short ep nx = record {
    granted = λ n h o g p v i d j. begun_asks c r q.log a.sequencer (λ x u w. fine x u (omega arith)) e v i d j;
    passed = λ h p. absurd (not_none (sym p));
    behind = λ b h p v i d j. begun_asks c r q.log a.sequencer (λ x u w. fine x u (omega arith)) (lce_of r a.sequencer.log) v i d j;
    overtaken = λ h o p. absurd (not_none (sym p));
    failed = λ n g. nx;
  }

  asks_on : (w : Recovery) (f : List Told) → IsAsking w.spec f → (v : Recovery) → Some (record w { stage = Seals f }) ≡ Some v → (d : List Told) → v.stage ≡ Seals d → IsAsking v.spec d
  asks_on w f h v e d g = subst (λ p. IsAsking p d) (ap (λ (x : Recovery). x.spec) (Some_inj e)) (subst (IsAsking w.spec) (seals_inj f d (stands w (Seals f) v e d g)) h)

  pub acting_unready : (gone : Recovery → List ℕ) (y : ℕ) (b : Body) → Acting c r gone q y b (λ k m. Unready k)
  acting_unready gone y b = record {
    quiet = N;
    sealed = λ n k f i l p. absurd (not_none (sym p));
    cleaned_own = λ n s f i h p. absurd (not_none (sym p));
    acks = λ n p f i g h m. N;
    lost_own = λ n round g end f i h. N;
    cleaned = λ v n s f e i h p w k d j. begun_asks c r q.log q fine v.epoch w k d j;
    asks_more = λ w d asks f H a n u p v k x j. asks_on w d (n, u) v k x j;
    plans = λ w d loss f H g p v k x j. absurd (let z = stands w _ v k x j in cc);
    looks_closed = λ w d s f H u o p v k x j. begun_asks c r q.log q fine w.epoch v k x j;
    looks_later = λ w d f H u o n p. absurd (not_none (sym p));
    stores_on = λ w g f H t p v k x j. absurd (let z = stands w (Stores g) v k x j in cc);
    closes_now = λ w g f H t. close_unready _ w.epoch _ _ refl (λ p v k x j. absurd (let z = stands w _ v k x j in cc));
    lost_closing = λ v s short n round g end f e i h j p w k x m. absurd (let z = stands (recovery_lost y v) (Closes s short) w k x m in cc);
  }

  pub retrying_unready : (gone : Recovery → List ℕ) → Retrying c r gone q (λ k m. Unready k)
  retrying_unready gone = record {
    quiet = N;
    appends = λ f. N;
    seals = λ v d f e h u p w k x j. asks_on v (with_asks v.epoch d) (enough_anew v.spec v.epoch d ∙ (N f v e d h).0, spent_anew v.spec v.epoch d ∙ u) w k x j;
    plans = λ v d f e h g p w k x j. absurd (let z = stands v _ w k x j in cc);
    looks_closed = λ v d s f e h u o p w k x j. begun_asks c r q.log q fine v.epoch w k x j;
    looks_later = λ v d f e h u o n p. absurd (not_none (sym p));
    stores_on = λ v g f e h t p w k x j. absurd (let z = stands v (Stores (next_try g)) w k x j in cc);
    closes_now = λ v g f e h t. close_unready _ v.epoch _ _ refl (λ p w k x j. absurd (let z = stands v _ w k x j in cc));
    closes = λ v y short f e h. close_unready _ v.epoch y short refl N;
  }
