-- What a sequencer keeps and sends carries only what it was given, what it appended and what it planned.
use Rattle.std.proofs.Common.{is_some, ◌≡◌, ◌∙◌, ◌<◌, ℕ, ◌+◌, max, inl, inr, refl, ap, sym, subst, Bool, true, false, if◌then◌else◌, nat_lt, nat_le, ◌&&◌, ◌==◌, List, [], ◌∷◌, ◌++◌, ◌⊎◌, Some, None, arith}
use Rattle.std.proofs.lemmas.Bool.{and_parts, eqb-true, ltb-true, leb-false}
use Rattle.ld_table.specs.Table.{find, put}
use Rattle.ld_table.specs.Words.{without}
use Rattle.ld_lsn.specs.Number.{epoch_of, esn_of, home_epoch, numbered, last_esn}
use Rattle.ld_ids.specs.declared.set.Spec.{Spec}
use Rattle.ld_ids.specs.Choice.{nodes_of}
use Rattle.ld_config.specs.declared.config.Config.{Config}
use Rattle.ld_msg.specs.Choice.{choice}
use Rattle.ld_msg.specs.declared.msg.What.{What}
use Rattle.ld_msg.specs.declared.msg.What.TheVariants.{Rec}
use Rattle.ld_msg.specs.declared.msg.Entry.{Entry}
use Rattle.ld_msg.specs.declared.msg.Summary.{Summary}
use Rattle.ld_msg.specs.declared.msg.Who.TheVariants as whos
use Rattle.ld_msg.specs.declared.msg.Body.{Body}
use Rattle.ld_msg.specs.declared.msg.Body.TheVariants as bodies
use Rattle.ld_msg.specs.Register.{Register, View, Granted, lce_of, close, look}
use Rattle.ld_msg.specs.Digest.{Told, told_nothing, no_digest, told_page, takes_page, with_page, asked_anew, with_asks, told_lost, with_lost, Item, plan, digest_trim, digest_lng}
use Rattle.ld_msg.specs.Sequencer.{Sequencer, Recovery, Stage, Seals, Stores, Closes, Storing, Append, Planned, Acts, does_nothing, to_each, digest_asks, next_ask, begun, recovery_of, recovery_asks, planned, item_stores, settle, summary_of, stored_at, unacked_from, is_acked, raised, append_stores, next_wave, activated, bare, Called, acted_messages, release_messages, released_of, storing_of, item_nodes}
use Rattle.ld_machine.specs.Config.{looks_at}
use Rattle.ld_machine.specs.World.{In, Made}
use Rattle.ld_safety.proofs.Lists.{cond_both, max_both, In-append, In-map}
use Rattle.ld_safety.proofs.Plans.{lng_has, trim_has}
use Rattle.ld_safety.proofs.Members.{find_in, In_put}
use Rattle.ld_safety.proofs.Acks.{raised_in}
use Rattle.ld_safety.proofs.SequencerSteps.{Closing, Acting, Retrying, Hearing, heard_page, heard_lost, Hearing_stored, heard_settled, heard_gone, Ending, ends_again, ends_ready, ending_of, is_short, retry_acts, acts_with}
use Rattle.ld_safety.proofs.Carried as carried
use Rattle.ld_safety.proofs.Events.{announced}

module _ (E : ℕ → ℕ → ℕ → What → Type 0) (T : ℕ → ℕ → Type 0) (Y : ℕ → ℕ → Summary → Type 0) (O : ℕ → ℕ → Type 0) (V : ℕ → Bool → Entry → Type 0) (W : ℕ → ℕ → Type 0) (R : ℕ → ℕ → ℕ → What → Type 0) (G : ℕ → ℕ → ℕ → Type 0) (K : carried.Sound E T Y O V W R G) where
  pub record BodiesOk (l b : ℕ) (bs : List (ℕ × Body)) : Type 0 where
    pub each : (x : ℕ × Body) → In x bs → carried.BodyOk E T Y O V W R G l (whos.Sequencer b) x.1

  -- ---- messages ----
  none_ok : (l b : ℕ) → BodiesOk l b []
  none_ok l b = record { each = λ x i. absurd i }

  both_ok : (l b : ℕ) (xs ys : List (ℕ × Body)) → BodiesOk l b xs → BodiesOk l b ys → BodiesOk l b (xs ++ ys)
  both_ok l b xs ys h g = record { each = λ x i. elim (In-append x xs ys i) [ inl a ↦ h.each x a | inr a ↦ g.each x a ] }

  one_more : (l b : ℕ) (y : ℕ × Body) (ys : List (ℕ × Body)) → carried.BodyOk E T Y O V W R G l (whos.Sequencer b) y.1 → BodiesOk l b ys → BodiesOk l b (y ∷ ys)
  one_more l b y ys h r = record { each = λ x i. more x i } where
    more : (x : ℕ × Body) → In x (y ∷ ys) → carried.BodyOk E T Y O V W R G l (whos.Sequencer b) x.1
    more x (inl e) = subst (λ (z : ℕ × Body). carried.BodyOk E T Y O V W R G l (whos.Sequencer b) z.1) (sym e) h
    more x (inr i) = r.each x i

  pub each_ok : (l b : ℕ) (body : Body) (ys : List ℕ) → carried.BodyOk E T Y O V W R G l (whos.Sequencer b) body → BodiesOk l b (to_each body ys)
  each_ok l b body [] h = none_ok l b
  each_ok l b body (y ∷ ys) h = one_more l b (y, body) (to_each body ys) h (each_ok l b body ys h)

  if_ok : (l b : ℕ) (t : Bool) (xs ys : List (ℕ × Body)) → BodiesOk l b xs → BodiesOk l b ys → BodiesOk l b (if t then xs else ys)
  if_ok l b true xs ys h g = h
  if_ok l b false xs ys h g = g

  abbrev pub DigestOk : ℕ → ℕ → List Told → Type 0
  DigestOk l e d = (t : Told) → In t d → carried.ToldOk E T Y O V W R G l e t

  ask_of : (l b e z : ℕ) (t : Told) (xs ys : List (ℕ × Body)) → O l e → carried.ToldOk E T Y O V W R G l e t → BodiesOk l b xs → BodiesOk l b ys → (k : Bool) → t.whole ≡ k → BodiesOk l b (if k then xs else (z, bodies.DigestAsk t.asked) ∷ ys)
  ask_of l b e z t xs ys o h a c true w = a
  ask_of l b e z t xs ys o h a c false w = let k = h.asks w in one_more l b _ ys (k.0, subst (O l) (sym k.1) o) c

  asks_ok : (l b e : ℕ) (d : List Told) → O l e → DigestOk l e d → BodiesOk l b (digest_asks d)
  asks_ok l b e [] o h = none_ok l b
  asks_ok l b e (t ∷ d) o h = let r = asks_ok l b e d o (λ u i. h u (inr i)) in ask_of l b e t.node t _ _ o (h t (inl refl)) r r t.whole refl

  next_ok : (l b e y : ℕ) (d : List Told) → O l e → DigestOk l e d → BodiesOk l b (next_ask y d)
  next_ok l b e y [] o h = none_ok l b
  next_ok l b e y (t ∷ d) o h = if_ok l b (t.node == y) _ _ (ask_of l b e y t [] [] o (h t (inl refl)) (none_ok l b) (none_ok l b) t.whole refl) (next_ok l b e y d o (λ u i. h u (inr i)))

  -- ---- digests ----
  numbered_place : (e : ℕ) → (0 < esn_of (numbered e 1)) × (epoch_of (numbered e 1) ≡ e)
  numbered_place e = (omega arith, omega arith)

  fresh_digest : (l : ℕ) (s : Spec) (e : ℕ) → DigestOk l e (no_digest s e)
  fresh_digest l s e t i = let m = In-map (told_nothing e) t (nodes_of s) i in subst (carried.ToldOk E T Y O V W R G l e) (sym m.2) (record { entries = λ x j. absurd j; trim = K.zero_trim l; good = K.zero_good l e; asks = λ w. numbered_place e })

  -- an ask goes on past what is known good
  abbrev InEpoch : ℕ → ℕ → Type 0
  InEpoch e n = (0 < esn_of n) × (epoch_of n ≡ e)

  past_good : (e good n : ℕ) → InEpoch e n → good < last_esn → InEpoch e (max n (numbered e (good + 1)))
  past_good e good n h g = max_both (InEpoch e) n (numbered e (good + 1)) h (omega arith, omega arith)

  whole_by : (e upto : ℕ) → nat_le (numbered e last_esn) upto ≡ false → 0 < esn_of upto → epoch_of upto ≡ e → InEpoch e (upto + 1)
  whole_by e upto w p q = let n = leb-false (numbered e last_esn) upto w in (omega arith, omega arith)

  pub digest_good : (l e : ℕ) (d : List Told) → DigestOk l e d → G l e (digest_lng d)
  digest_good l e d h = lng_has (G l e) d (K.zero_good l e) (λ t i. (h t i).good)

  page_told : (l e y good from upto trim lng : ℕ) (es : List Entry) (t : Told) → carried.PageOk E T Y O V W R G l from upto trim lng es → epoch_of from ≡ e → good < last_esn → carried.ToldOk E T Y O V W R G l e t → carried.ToldOk E T Y O V W R G l e (told_page e good upto trim lng es t)
  page_told l e y good from upto trim lng es t p q g h = record {
    entries = λ x i. elim (In-append x t.entries es i) [ inl a ↦ h.entries x a | inr a ↦ p.entries x a ];
    trim = max_both (T l) _ _ h.trim p.trim;
    good = max_both (G l e) _ _ h.good (subst (λ k. G l k lng) q p.good);
    asks = λ w. past_good e good (upto + 1) (whole_by e upto w p.upto_place (p.same_epoch ∙ q)) g;
  }

  with_page_ok : (l e y from upto trim lng : ℕ) (es : List Entry) (d : List Told) → carried.PageOk E T Y O V W R G l from upto trim lng es → epoch_of from ≡ e → DigestOk l e d → DigestOk l e (with_page e y from upto trim lng es d)
  unfolding with_page
  with_page_ok l e y from upto trim lng es d p q h t i =
      let good = max (digest_lng d) lng in
      let g = K.good_below l e good (max_both (G l e) _ _ (digest_good l e d h) (subst (λ k. G l k lng) q p.good)) in
      let m = In-map (λ t. if takes_page y from t then told_page e good upto trim lng es t else t) t d i in
      subst (carried.ToldOk E T Y O V W R G l e) (sym m.2) (cond_both (takes_page y from m.0) (told_page e good upto trim lng es m.0) m.0 (carried.ToldOk E T Y O V W R G l e) (λ u. page_told l e y good from upto trim lng es m.0 p q g (h m.0 m.1)) (λ u. h m.0 m.1))

  with_asks_ok : (l e : ℕ) (d : List Told) → DigestOk l e d → DigestOk l e (with_asks e d)
  unfolding with_asks
  with_asks_ok l e d h t i =
      let good = digest_lng d in let m = In-map (asked_anew e good) t d i in let u = h m.0 m.1 in
      subst (carried.ToldOk E T Y O V W R G l e) (sym m.2) (record {
        entries = u.entries;
        trim = u.trim;
        good = u.good;
        asks = λ w. cond_both (m.0.asked == numbered e 1) m.0.asked (max m.0.asked (numbered e (good + 1))) (InEpoch e) (λ b. u.asks w) (λ b. past_good e good m.0.asked (u.asks w) (K.good_below l e good (digest_good l e d h)));
      })

  with_lost_ok : (l e y : ℕ) (d : List Told) → DigestOk l e d → DigestOk l e (with_lost y d)
  unfolding with_lost
  with_lost_ok l e y d h t i = let m = In-map (told_lost y) t d i in let u = h m.0 m.1 in subst (carried.ToldOk E T Y O V W R G l e) (sym m.2) (record { entries = u.entries; trim = u.trim; good = u.good; asks = u.asks })

  digest_trim_ok : (l e : ℕ) (d : List Told) → DigestOk l e d → T l (digest_trim d)
  digest_trim_ok l e d h = trim_has (T l) d (K.zero_trim l) (λ t i. (h t i).trim)

  -- ---- plans ----
  ItemsOk : ℕ → ℕ → List (ℕ × Planned) → Type 0
  ItemsOk l b is = (i : ℕ × Planned) → In i is → E l b i.0 i.1.what

  planned_ok : (l b : ℕ) (is : List Item) → ((i : Item) → In i is → E l b i.number i.what) → ItemsOk l b (planned is)
  unfolding ItemsOk
  planned_ok l b [] h x i = absurd i
  planned_ok l b (j ∷ is) h x (inl e) = subst (λ (z : ℕ × Planned). E l b z.0 z.1.what) (sym e) (h j (inl refl))
  planned_ok l b (j ∷ is) h x (inr i) = planned_ok l b is (λ y k. h y (inr k)) x i

  -- the items of a plan are of one epoch
  abbrev OfEpoch : ℕ → List (ℕ × Planned) → Type 0
  OfEpoch e is = (i : ℕ × Planned) → In i is → epoch_of i.0 ≡ e

  stores_ok : (l b e : ℕ) (s : Spec) (lost : List ℕ) (k : Bool) (lng wave : ℕ) (is : List (ℕ × Planned)) → G l e lng → OfEpoch e is → ItemsOk l b is → BodiesOk l b (item_stores s lost k lng wave is)
  unfolding ItemsOk
  stores_ok l b e s lost k lng wave [] g o h = none_ok l b
  stores_ok l b e s lost k lng wave (j ∷ is) g o h = both_ok l b _ _ (each_ok l b _ (item_nodes s lost k wave j.0 j.1.settled) (h j (inl refl), subst (λ k. G l k lng) (sym (o j (inl refl))) g)) (stores_ok l b e s lost k lng wave is g (λ y k. o y (inr k)) (λ y k. h y (inr k)))

  settle_ok : (l b : ℕ) (p : ℕ → Bool) (y : ℕ) (is : List (ℕ × Planned)) → ItemsOk l b is → ItemsOk l b (settle p y is)
  unfolding ItemsOk
  settle_ok l b p y [] h x i = absurd i
  settle_ok l b p y (j ∷ is) h x (inl e) = subst (λ (z : ℕ × Planned). E l b z.0 z.1.what) (sym e) (cond_both (p j.0) _ j.1 (λ (z : Planned). E l b j.0 z.what) (λ t. h j (inl refl)) (λ t. h j (inl refl)))
  settle_ok l b p y (j ∷ is) h x (inr i) = settle_ok l b p y is (λ z k. h z (inr k)) x i

  planned_epoch : (e : ℕ) (is : List Item) → ((i : Item) → In i is → epoch_of i.number ≡ e) → OfEpoch e (planned is)
  planned_epoch e [] h x i = absurd i
  planned_epoch e (j ∷ is) h x (inl q) = ap (λ (z : ℕ × Planned). epoch_of z.0) q ∙ h j (inl refl)
  planned_epoch e (j ∷ is) h x (inr i) = planned_epoch e is (λ y k. h y (inr k)) x i

  settle_epoch : (e : ℕ) (p : ℕ → Bool) (y : ℕ) (is : List (ℕ × Planned)) → OfEpoch e is → OfEpoch e (settle p y is)
  settle_epoch e p y [] h x i = absurd i
  settle_epoch e p y (j ∷ is) h x (inl q) = ap (λ (z : ℕ × Planned). epoch_of z.0) q ∙ h j (inl refl)
  settle_epoch e p y (j ∷ is) h x (inr i) = settle_epoch e p y is (λ z k. h z (inr k)) x i

  -- ---- appends ----
  unacked_ok : (l b : ℕ) (s : Spec) (m : List (ℕ × Append)) → carried.AppendsOk E T Y O V W R G l b m → carried.AppendsOk E T Y O V W R G l b (unacked_from s m)
  unacked_ok l b s [] h x i = absurd i
  unacked_ok l b s (p ∷ m) h x i = unacked_by (is_acked s p.1) (unacked_ok l b s m (λ y k. h y (inr k)) x) i where
    unacked_by : (t : Bool) → (In x (unacked_from s m) → E l b x.0 (Rec x.1.payload)) → In x (if t then unacked_from s m else p ∷ m) → E l b x.0 (Rec x.1.payload)
    unacked_by true ih i = ih i
    unacked_by false ih i = h x i

  acks_ok : (s : Spec) (q : Sequencer) (y n : ℕ) (p : Append) → carried.AppendsOk E T Y O V W R G q.log q.epoch q.appends → find n q.appends ≡ Some p → carried.AppendsOk E T Y O V W R G q.log q.epoch (unacked_from s (put n (stored_at p y) q.appends))
  acks_ok s q y n p h f = unacked_ok q.log q.epoch s (put n (stored_at p y) q.appends) (λ x i. elim (In_put n (stored_at p y) q.appends x i) [
    | inl e ↦ subst (λ (z : ℕ × Append). E q.log q.epoch z.0 (Rec z.1.payload)) (sym e) (h (n, p) (find_in n q.appends p f))
    | inr j ↦ h x j
  ])

  raised_ok : (l b : ℕ) (s : Spec) (m : List (ℕ × Append)) → carried.AppendsOk E T Y O V W R G l b m → carried.AppendsOk E T Y O V W R G l b (raised s m)
  raised_ok l b s [] h x i = absurd i
  raised_ok l b s (p ∷ m) h x (inl e) = subst (λ (z : ℕ × Append). E l b z.0 (Rec z.1.payload)) (sym e) (cond_both (is_acked s p.1) p.1 _ (λ (z : Append). E l b p.0 (Rec z.payload)) (λ t. h p (inl refl)) (λ t. h p (inl refl)))
  raised_ok l b s (p ∷ m) h x (inr i) = raised_ok l b s m (λ y k. h y (inr k)) x i

  -- the numbers that wait are of one epoch
  abbrev pub OfOwn : ℕ → List (ℕ × Append) → Type 0
  OfOwn e m = (p : ℕ × Append) → In p m → epoch_of p.0 ≡ e

  raised_own : (e : ℕ) (s : Spec) (m : List (ℕ × Append)) → OfOwn e m → OfOwn e (raised s m)
  raised_own e s m h x i = let z = raised_in s m x i in ap epoch_of z.2 ∙ h z.0 z.1

  append_stores_ok : (l b : ℕ) (s : Spec) (lost : List ℕ) (lng : ℕ) (m : List (ℕ × Append)) → G l b lng → OfOwn b m → carried.AppendsOk E T Y O V W R G l b m → BodiesOk l b (append_stores s lost lng m)
  append_stores_ok l b s lost lng [] g o h = none_ok l b
  append_stores_ok l b s lost lng (p ∷ m) g o h = both_ok l b _ _ (if_ok l b _ _ _ (none_ok l b) (each_ok l b _ (without p.1.stored (choice s lost p.0 p.1.wave)) (h p (inl refl), subst (λ k. G l k lng) (sym (o p (inl refl))) g)))
      (append_stores_ok l b s lost lng m g (λ y k. o y (inr k)) (λ y k. h y (inr k)))

  -- ---- a recovery that begins ----
  begins_ok : (c : Config) (r : Register) (k l : ℕ) (q : Sequencer) (lce : ℕ) → ((e : ℕ) → 0 < e → e < q.epoch → O l e) → carried.RecoveryOk E T Y O V W R G l q.epoch (recovery_of (looks_at c r k) q lce)
  unfolding look
  begins_ok c r k l q lce C = begins_by (nat_lt (lce + 1) q.epoch) refl where
    begins_by : (t : Bool) → nat_lt (lce + 1) q.epoch ≡ t → carried.RecoveryOk E T Y O V W R G l q.epoch (if t then Some (begun (looks_at c r k (lce + 1))) else None)
    begins_by true h = ((omega arith, ltb-true (lce + 1) q.epoch h, C (lce + 1) (omega arith) (ltb-true (lce + 1) q.epoch h)), fresh_digest l (looks_at c r k (lce + 1)).spec (lce + 1))
    begins_by false h = tt

  pub begin_asks_ok : (l b : ℕ) (looks : ℕ → View) (q : Sequencer) (lce : ℕ) → ((e : ℕ) → 0 < e → e < q.epoch → O l e) → BodiesOk l b (recovery_asks looks q lce)
  begin_asks_ok l b looks q lce C = begins_by (nat_lt (lce + 1) q.epoch) refl where
    begins_by : (t : Bool) → nat_lt (lce + 1) q.epoch ≡ t → BodiesOk l b (if t then digest_asks (no_digest (looks (lce + 1)).spec (lce + 1)) else [])
    begins_by true h = asks_ok l b (lce + 1) _ (C (lce + 1) (omega arith) (ltb-true (lce + 1) q.epoch h)) (fresh_digest l (looks (lce + 1)).spec (lce + 1))
    begins_by false h = none_ok l b

  pub activated_ok : (name : List ℕ) (c : Config) (r : Register) (p : Spec) (l e lce : ℕ) → ((k : ℕ) → 0 < k → k < e → O l k) → carried.SequencerOk E T Y O V W R G name (activated (looks_at c r l) p l e lce)
  unfolding activated
  activated_ok name c r p l e lce C = record { appends = λ x i. absurd i; recovery = begins_ok c r l l (bare p l e lce) lce C }

  -- ---- a call ----
  pub record CalledOk (name : List ℕ) (q : Sequencer) (k : Called) : Type 0 where
    pub sequencer : carried.SequencerOk E T Y O V W R G name k.acts.sequencer
    pub cleans : BodiesOk q.log q.epoch k.acts.cleans
    pub asks : BodiesOk q.log q.epoch k.acts.asks
    pub stores : BodiesOk q.log q.epoch k.acts.stores

  release_ok : (l b : ℕ) (old new : Sequencer) → W l (released_of new) → BodiesOk l b (release_messages old new)
  release_ok l b old new h = if_ok l b _ _ _ (each_ok l b _ _ h) (none_ok l b)

  -- and where the released number is told again
  pub again_ok : (name : List ℕ) (q : Sequencer) (again : Bool) (k : Called) → W q.log (released_of k.acts.sequencer) → CalledOk name q k → CalledOk name q (announced again k)
  again_ok name q again k r h = record {
    sequencer = h.sequencer;
    cleans = h.cleans;
    asks = both_ok q.log q.epoch _ _ (if_ok q.log q.epoch again _ _ (if_ok q.log q.epoch (is_some k.acts.sequencer.preempted) _ _ (none_ok q.log q.epoch) (each_ok q.log q.epoch _ _ r)) (none_ok q.log q.epoch)) h.asks;
    stores = h.stores;
  }

  pub messages_ok : (name : List ℕ) (q : Sequencer) (k : Called) → CalledOk name q k → W q.log (released_of k.acts.sequencer) → BodiesOk q.log q.epoch (acted_messages q k.acts)
  messages_ok name q k h r = both_ok q.log q.epoch _ _ h.cleans (both_ok q.log q.epoch _ _ (release_ok q.log q.epoch q k.acts.sequencer r) (both_ok q.log q.epoch _ _ h.asks h.stores))

  -- the call that is made, and the plans that it makes
  module _ (name : List ℕ) (q : Sequencer) (r : Register) (call : Called) (plans_made : List Made) (C : (e : ℕ) → 0 < e → e < q.epoch → O q.log e) (L : G q.log q.epoch q.lng) (own : OfOwn q.epoch q.appends) where
    -- a sequencer with other stages and the like, and no message
    quiet_ok : (a : Acts) → carried.SequencerOk E T Y O V W R G name a.sequencer → BodiesOk q.log q.epoch a.cleans → BodiesOk q.log q.epoch a.asks → BodiesOk q.log q.epoch a.stores → CalledOk name q (acts_with r a)
    quiet_ok a h x y z = record { sequencer = h; cleans = x; asks = y; stores = z }

    ap_register : {n : Register} {a : Acts} → call ≡ record { acts = a; register = n } → call.register ≡ n
    ap_register w = ap (λ (k : Called). k.register) w

    with_plans : (p : Register) (looks : ℕ → View) (a : Acts) (e : ℕ) (y : Summary) (short : Bool) → Closing p looks a e y short (λ k. call ≡ k → CalledOk name q k) → Closing p looks a e y short (λ k. call ≡ k → plans_made ≡ [] → CalledOk name q k)
    with_plans p looks a e y short h = record { granted = λ n i o j w m. h.granted n i o j w; passed = λ i w m. h.passed i w; behind = λ b i w m. h.behind b i w; overtaken = λ i o w m. h.overtaken i o w; failed = λ n j w m. h.failed n j w }

    -- the close: what it closes with is sound
    close_ok : (c : Config) (a : Acts) (e : ℕ) (y : Summary) (short : Bool) → a.sequencer.log ≡ q.log → a.sequencer.epoch ≡ q.epoch → carried.AppendsOk E T Y O V W R G a.sequencer.log a.sequencer.epoch a.sequencer.appends → carried.SequencerOk E T Y O V W R G name a.sequencer → BodiesOk q.log q.epoch a.cleans → BodiesOk q.log q.epoch a.asks → BodiesOk q.log q.epoch a.stores
        → ((n : Register) → lce_of r a.sequencer.log + 1 ≡ e → close r a.sequencer.log e y short ≡ record { register = n; answer = Granted } → call.register ≡ n → Y q.log e y)
        → Closing r (looks_at c r q.log) a e y short (λ k. call ≡ k → CalledOk name q k)
    close_ok c a e y short o oe aps h x m z g = let D : (k : ℕ) → 0 < k → k < a.sequencer.epoch → O a.sequencer.log k = λ k u v. subst (λ l. O l k) (sym o) (C k u (omega arith)) in record {
      granted = λ n i l j w. let v = g n i j (ap_register w) in record {
        sequencer = record { appends = aps; recovery = begins_ok c r q.log a.sequencer.log a.sequencer e D };
        cleans = each_ok q.log q.epoch _ _ v;
        asks = begin_asks_ok q.log q.epoch (looks_at c r q.log) a.sequencer e (λ k u v. C k u (omega arith));
        stores = z;
      };
      passed = λ i w. record { sequencer = record { appends = aps; recovery = h.recovery }; cleans = x; asks = m; stores = z };
      behind = λ b i w. record { sequencer = record { appends = aps; recovery = begins_ok c r q.log a.sequencer.log a.sequencer (lce_of r a.sequencer.log) D }; cleans = x; asks = begin_asks_ok q.log q.epoch (looks_at c r q.log) a.sequencer (lce_of r a.sequencer.log) (λ k u v. C k u (omega arith)); stores = z };
      overtaken = λ i l w. record { sequencer = record { appends = aps; recovery = h.recovery }; cleans = x; asks = m; stores = z };
      failed = λ n j w. record { sequencer = h; cleans = x; asks = m; stores = z };
    }

    module _ (c : Config) (heard : ℕ → Body → Type 0) (gone : Recovery → List ℕ) (P0 : carried.SequencerOk E T Y O V W R G name q)
        (grants : (v : Recovery) (y : Summary) (short : Bool) (n : Register) → q.recovery ≡ Some v → Ending q heard v y short → lce_of r q.log + 1 ≡ v.epoch → close r q.log v.epoch y short ≡ record { register = n; answer = Granted } → call.register ≡ n → Y q.log v.epoch y)
        -- what a look shows of a closed epoch
        (shown : (e : ℕ) (y : Summary) → (looks_at c r q.log e).summary ≡ Some y → Y q.log e y)
        -- what a plan says that is made in the call
        (plans : (v : Recovery) (d : List Told) (loss : Bool) (g : List ℕ) → q.recovery ≡ Some v → DigestOk q.log v.epoch d → plans_made ≡ record { log = q.log; epoch = v.epoch; ballot = q.epoch; loss = loss; digest = d; gone = g } ∷ []
        → (i : Item) → In i (plan v.epoch loss d).items → E q.log q.epoch i.number i.what × (epoch_of i.number ≡ v.epoch)) where
      same_ok : CalledOk name q (acts_with r (does_nothing q))
      same_ok = quiet_ok (does_nothing q) P0 (none_ok q.log q.epoch) (none_ok q.log q.epoch) (none_ok q.log q.epoch)

      stage_of : (v : Recovery) (g : Stage) → q.recovery ≡ Some v → v.stage ≡ g → carried.StageOk E T Y O V W R G q.log q.epoch v.epoch g
      stage_of v g e f = subst (carried.StageOk E T Y O V W R G q.log q.epoch v.epoch) f (subst (carried.RecoveryOk E T Y O V W R G q.log q.epoch) e P0.recovery).1

      Below : Recovery → Type 0
      Below v = (0 < v.epoch) × (v.epoch < q.epoch) × O q.log v.epoch

      below : (v : Recovery) → q.recovery ≡ Some v → Below v
      unfolding Below
      below v e = (subst (carried.RecoveryOk E T Y O V W R G q.log q.epoch) e P0.recovery).0

      -- a plan that is stored from now on
      plan_ok : (v : Recovery) (d : List Told) (loss : Bool) (g : List ℕ) → q.recovery ≡ Some v → DigestOk q.log v.epoch d → plans_made ≡ record { log = q.log; epoch = v.epoch; ballot = q.epoch; loss = loss; digest = d; gone = g } ∷ []
          → carried.StageOk E T Y O V W R G q.log q.epoch v.epoch (Stores (storing_of (plan v.epoch loss d))) × ((s : Spec) (lost : List ℕ) → BodiesOk q.log q.epoch (item_stores s lost loss (plan v.epoch loss d).lng 0 (planned (plan v.epoch loss d).items)))
      unfolding plan ItemsOk
      plan_ok v d loss g e z m =
          let k = plans v d loss g e z m in
          let x = planned_ok q.log q.epoch _ (λ j o. (k j o).0) in let w = planned_epoch v.epoch _ (λ j o. (k j o).1) in let good = digest_good q.log v.epoch _ z in
          (((digest_trim_ok q.log v.epoch _ z, good, w), x), λ s lost. stores_ok q.log q.epoch v.epoch s lost loss _ 0 _ good w x)

      -- a digest after a reply, and the recovery before it
      record Next (v : Recovery) (d : List Told) : Type 0 where
        recovery : Recovery
        there : q.recovery ≡ Some recovery
        epoch : v.epoch ≡ recovery.epoch
        below : (0 < v.epoch) × (v.epoch < q.epoch) × O q.log v.epoch
        digest : DigestOk q.log v.epoch d

      pub acting_ok : (y : ℕ) (b : Body) → heard y b → carried.ReplyOk E T Y O V W R G q.log b → Acting c r gone q y b (λ k m. call ≡ k → plans_made ≡ m → CalledOk name q k)
      unfolding plan ItemsOk Below
      acting_ok y b H B = record {
        quiet = λ w m. same_ok;
        sealed = λ n k f i l w m. quiet_ok _ (record { appends = P0.appends; recovery = P0.recovery }) (none_ok _ _) (none_ok _ _) (none_ok _ _);
        cleaned_own = λ n s f i h w m. quiet_ok _ (record { appends = P0.appends; recovery = P0.recovery }) (none_ok _ _) (none_ok _ _) (none_ok _ _);
        acks = λ n p f i h g o w m. quiet_ok _ (record { appends = acks_ok q.spec q y n p P0.appends g; recovery = P0.recovery }) (none_ok _ _) (none_ok _ _) (none_ok _ _);
        lost_own = λ n round g end f i h w m. quiet_ok _ (record { appends = P0.appends; recovery = P0.recovery }) (none_ok _ _) (none_ok _ _) (none_ok _ _);
        cleaned = λ v n s f e i h w m. let z : carried.ReplyOk E T Y O V W R G q.log (bodies.CleanHere n s) = subst (carried.ReplyOk E T Y O V W R G q.log) i B in
            quiet_ok _ (record { appends = P0.appends; recovery = begins_ok c r q.log q.log q v.epoch C })
            (each_ok q.log q.epoch _ _ (subst (λ k. Y q.log k s) (sym (home_of n z.0) ∙ h) z.1)) (begin_asks_ok q.log q.epoch (looks_at c r q.log) q v.epoch C) (none_ok _ _);
        asks_more = λ v d asks f h a n u w m. let z = digest_next v d h in
            quiet_ok _ (record { appends = P0.appends; recovery = (z.below, z.digest) }) (none_ok _ _) (asks_next v d asks z a) (none_ok _ _);
        plans = λ v d loss f h p w m. let z = digest_next v d h in let k = plan_ok z.recovery d loss (gone v) z.there (subst (λ e. DigestOk q.log e d) z.epoch z.digest) (subst (λ e. plans_made ≡ record { log = q.log; epoch = e; ballot = q.epoch; loss = loss; digest = d; gone = gone v } ∷ []) z.epoch m) in
            quiet_ok _ (record { appends = P0.appends; recovery = (z.below, subst (λ e. carried.StageOk E T Y O V W R G q.log q.epoch e (Stores (storing_of (plan e loss d)))) (sym z.epoch) k.0) }) (none_ok _ _) (none_ok _ _)
            (subst (λ e. BodiesOk q.log q.epoch (item_stores v.spec v.lost loss (plan e loss d).lng 0 (planned (plan e loss d).items))) (sym z.epoch) (k.1 v.spec v.lost));
        looks_closed = λ v d s f h u o w m. quiet_ok _ (record { appends = P0.appends; recovery = begins_ok c r q.log q.log q v.epoch C }) (each_ok q.log q.epoch _ _ (shown v.epoch s o)) (begin_asks_ok q.log q.epoch (looks_at c r q.log) q v.epoch C) (none_ok _ _);
        looks_later = λ v d f h u o n w m. quiet_ok _ (record { appends = P0.appends; recovery = P0.recovery }) (none_ok _ _) (none_ok _ _) (none_ok _ _);
        stores_on = λ v g f h t w m. quiet_ok _ (record { appends = P0.appends; recovery = stored_next v g h }) (none_ok _ _) (none_ok _ _) (none_ok _ _);
        closes_now = λ v g f h t. let z = stored_next v g h in let d = ending_of q heard y b v g H h t in with_plans r _ _ v.epoch _ _ (close_ok c _ v.epoch _ _ refl refl P0.appends (record { appends = P0.appends; recovery = (z.0, (z.1.0.0, z.1.0.1)) }) (none_ok _ _) (none_ok _ _) (none_ok _ _)
            (λ n i j x. subst (λ e. Y q.log e (summary_of q.epoch g)) (sym d.epoch) (grants d.recovery _ _ n d.there d.ending (i ∙ d.epoch) (subst (λ e. close r q.log e (summary_of q.epoch g) (is_short v g) ≡ record { register = n; answer = Granted }) d.epoch j) x)));
        lost_closing = λ v s short n round g end f e i k h w m. quiet_ok _ (record { appends = P0.appends; recovery = (below v e, stage_of v (Closes s short) e i) }) (none_ok _ _) (none_ok _ _) (none_ok _ _);
      } where
        home_of : (n : ℕ) → 0 < esn_of n → home_epoch n ≡ epoch_of n
        home_of n h = cond_both ((esn_of n == 0) && nat_lt 0 (epoch_of n)) _ (epoch_of n) (λ x. x ≡ epoch_of n) (λ t. absurd (let p = and_parts (esn_of n == 0) (nat_lt 0 (epoch_of n)) t in let q = eqb-true (esn_of n) 0 p.0 in omega arith)) (λ t. refl)

        page_next : (v : Recovery) (d : List Told) (from upto trim lng : ℕ) (es : List Entry) → q.recovery ≡ Some v → v.stage ≡ Seals d → b ≡ bodies.DigestPage from upto trim lng es → v.epoch ≡ epoch_of from → DigestOk q.log v.epoch (with_page v.epoch y from upto trim lng es d)
        page_next v d from upto trim lng es e h i g = with_page_ok q.log v.epoch y from upto trim lng es d (subst (carried.ReplyOk E T Y O V W R G q.log) i B) (sym g) (stage_of v (Seals d) e h)

        digest_next : (v : Recovery) (d : List Told) → Hearing q y b v d → Next v d
        digest_next v d (heard_page f from upto trim lng es e h i g t j) = record { recovery = v; there = e; epoch = refl; below = below v e; digest = subst (DigestOk q.log v.epoch) (sym j) (page_next v f from upto trim lng es e h i g) }
        digest_next v d (heard_lost x f n round g end e h i k u j) = let ep : v.epoch ≡ x.epoch = ap (λ (z : Recovery). z.epoch) u in record {
          recovery = x;
          there = e;
          epoch = ep;
          below = subst (λ e. (0 < e) × (e < q.epoch) × O q.log e) (sym ep) (below x e);
          digest = subst (λ e. DigestOk q.log e d) (sym ep) (subst (DigestOk q.log x.epoch) (sym j) (with_lost_ok q.log x.epoch y f (stage_of x (Seals f) e h)));
        }

        asks_next : (v : Recovery) (d : List Told) (asks : List (ℕ × Body)) → Next v d → (asks ≡ next_ask y d) ⊎ (asks ≡ []) → BodiesOk q.log q.epoch asks
        asks_next v d asks z (inl a) = subst (BodiesOk q.log q.epoch) (sym a) (next_ok q.log q.epoch v.epoch y d z.below.2 z.digest)
        asks_next v d asks z (inr a) = subst (BodiesOk q.log q.epoch) (sym a) (none_ok q.log q.epoch)

        stored_next : (v : Recovery) (g : Storing) → Hearing_stored q y b v g → ((0 < v.epoch) × (v.epoch < q.epoch) × O q.log v.epoch) × carried.StageOk E T Y O V W R G q.log q.epoch v.epoch (Stores g)
        stored_next v g (heard_settled f p e h s m j) = let z = stage_of v (Stores f) e h in (below v e, subst (λ x. carried.StageOk E T Y O V W R G q.log q.epoch v.epoch (Stores x)) (sym j) ((z.0.0, z.0.1, settle_epoch v.epoch p y f.items z.0.2), settle_ok q.log q.epoch p y f.items z.1))
        stored_next v g (heard_gone x n round k end e h i u j) = let ep : v.epoch ≡ x.epoch = ap (λ (z : Recovery). z.epoch) j in
            (subst (λ e. (0 < e) × (e < q.epoch) × O q.log e) (sym ep) (below x e), subst (λ e. carried.StageOk E T Y O V W R G q.log q.epoch e (Stores g)) (sym ep) (stage_of x (Stores g) e h))

      pub retrying_ok : Retrying c r gone q (λ k m. call ≡ k → plans_made ≡ m → CalledOk name q k)
      unfolding plan ItemsOk Below
      retrying_ok =
          let s : Spec = q.spec in
          let up = raised_ok q.log q.epoch s q.appends P0.appends in
          let st = append_stores_ok q.log q.epoch s q.lost q.lng (raised s q.appends) L (raised_own q.epoch s q.appends own) up in record {
            quiet = λ w m. same_ok;
            appends = λ f w m. quiet_ok _ (record { appends = up; recovery = P0.recovery }) (none_ok _ _) (none_ok _ _) st;
            seals = λ v d f e h u w m. let z = with_asks_ok q.log v.epoch d (stage_of v (Seals d) e h) in quiet_ok _ (record { appends = up; recovery = (below v e, z) }) (none_ok _ _) (asks_ok q.log q.epoch v.epoch (with_asks v.epoch d) (below v e).2 z) st;
            plans = λ v d f e h p w m. let k = plan_ok v d true (gone v) e (stage_of v (Seals d) e h) m in quiet_ok _ (record { appends = up; recovery = (below v e, k.0) }) (none_ok _ _) (none_ok _ _) (both_ok q.log q.epoch _ _ (k.1 v.spec v.lost) st);
            looks_closed = λ v d z f e h u o w m. quiet_ok _ (record { appends = up; recovery = begins_ok c r q.log q.log (retry_acts q).sequencer v.epoch C }) (each_ok q.log q.epoch _ _ (shown v.epoch z o)) (begin_asks_ok q.log q.epoch (looks_at c r q.log) (retry_acts q).sequencer v.epoch C) st;
            looks_later = λ v d f e h u o n w m. quiet_ok _ (record { appends = up; recovery = P0.recovery }) (none_ok _ _) (none_ok _ _) st;
            stores_on = λ v g f e h t w m. let z = stage_of v (Stores g) e h in quiet_ok _ (record { appends = up; recovery = (below v e, z) }) (none_ok _ _) (none_ok _ _) (both_ok q.log q.epoch _ _ (stores_ok q.log q.epoch v.epoch _ v.lost g.loss g.lng (next_wave g.wave) g.items z.0.1 z.0.2 z.1) st);
            closes_now = λ v g f e h t. let z = stage_of v (Stores g) e h in with_plans r _ _ v.epoch _ _ (close_ok c _ v.epoch _ _ refl refl up (record { appends = up; recovery = (below v e, (z.0.0, z.0.1)) }) (none_ok _ _) (none_ok _ _) (both_ok q.log q.epoch _ _ (stores_ok q.log q.epoch v.epoch _ v.lost g.loss g.lng (next_wave g.wave) g.items z.0.1 z.0.2 z.1) st)
                (λ n i j x. grants v _ _ n e (ends_ready g h t refl refl) i j x));
            closes = λ v y short f e h. with_plans r _ _ v.epoch y short (close_ok c _ v.epoch y short refl refl up (record { appends = up; recovery = P0.recovery }) (none_ok _ _) (none_ok _ _) st (λ n i j x. grants v y short n e (ends_again h) i j x));
          }
