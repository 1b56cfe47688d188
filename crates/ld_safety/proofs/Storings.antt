-- A plan that is being stored: each of its items is settled by nodes that really stored it, or was acknowledged before; so where it is ready, it stands.
use Rattle.std.proofs.Common.{◌≡◌, ◌∙◌, ◌⊎◌, ◌≤◌, ◌<◌, ℕ, inl, inr, refl, ap, sym, subst, Bool, true, nat_le, if◌then◌else◌, List, [], ◌∷◌, length, arith, ◌++◌, not, ◌||◌}
use Rattle.std.proofs.lemmas.Bool.{and_parts, not-true, or_cases, eqb-true, leb-true}
use Rattle.ld_table.specs.Words.{is_in, with_one, how_many, all_of}
use Rattle.ld_lsn.specs.Number.{epoch_of, esn_of, numbered, last_esn}
use Rattle.ld_ids.specs.declared.set.Spec.{Spec}
use Rattle.ld_ids.specs.Choice.{nodes_of}
use Rattle.ld_config.specs.declared.config.Config.{Config}
use Rattle.ld_msg.specs.declared.msg.Summary.{Summary}
use Rattle.ld_msg.specs.declared.msg.Msg.{Msg}
use Rattle.ld_msg.specs.declared.msg.Body.{Body}
use Rattle.ld_msg.specs.declared.msg.Body.TheVariants as bodies
use Rattle.ld_msg.specs.Digest.{Item, plan, plan_end, plan_floor, digest_trim, digest_lng}
use Rattle.ld_msg.specs.Register.{Register}
use Rattle.ld_msg.specs.Sequencer.{Planned, Storing, planned, storing_of, settle, settled_by, is_ready, is_fully_ready, is_ready_short, summary_of}
use Rattle.ld_machine.specs.Config.{fixed_of, fixed_at}
use Rattle.ld_machine.specs.Facts.{Happened}
use Rattle.ld_machine.specs.World.{Made, In, from_node}
use Rattle.ld_safety.proofs.Registers.{Up, Reached, reached_later}
use Rattle.ld_safety.proofs.Lists.{all_in, cond_both, In_right}
use Rattle.ld_safety.proofs.SequencerSteps.{Settling, by_stored_one, by_trimmed_to}
use Rattle.ld_safety.proofs.Plans.{plan_items, plan_has}
use Rattle.ld_safety.proofs.Protocol.{Basis, plan_of, Chosen, tells_stored, tells_settled, trimmed_settles}
use Rattle.ld_safety.proofs.Votes.{Voters, nobody, one_voter, counted_votes, Settlers}
use Rattle.ld_safety.proofs.Settled.{Open, Acknowledged, TrimFine, LngFine, Fixed, LostTold, FullClose, ShortClose, Summarized, Stays, tells_more, chosen_more, copies_more, settles_more}

-- the number is stored, or trimmed away
abbrev pub SettlesBody : ℕ → Body → Type 0
SettlesBody n x = (x ≡ bodies.Stored n) ⊎ ((t : ℕ) × (x ≡ bodies.TrimmedHere n t))

-- who settled a number is a node that was fixed for its epoch
abbrev pub SettlersOf : Config → Register → List Msg → Type 0
SettlersOf c r ms = (l y b n : ℕ) (x : Body) → SettlesBody n x → In (from_node l y b x) ms → Reached r l (epoch_of n) × In y (fixed_at c r l (epoch_of n))

module _ (c : Config) (hs : List Happened) (sent : List Msg) where
  -- an item of an open epoch: acknowledged, or stored by those that settled it
  abbrev pub SettledBy : Register → ℕ → ℕ → ℕ → ℕ → List ℕ → Type 0
  SettledBy r l e n b ys = Acknowledged c hs sent r l n ⊎ Voters (fixed_of c r l e) sent l n b ys

  pub record ItemFine (r : Register) (l e b : ℕ) (i : ℕ × Planned) : Type 0 where
    pub epoch : epoch_of i.0 ≡ e
    pub above : 0 < esn_of i.0
    pub settlers : Settlers (fixed_of c r l e) sent l i.0 b i.1.settled
    pub settled : Open r l e → SettledBy r l e i.0 b i.1.settled

  pub record StoringFine (made : List Made) (r : Register) (l b e : ℕ) (g : Storing) : Type 0 where
    pub basis : Basis
    pub planned_so : In (plan_of l e b basis) made
    pub loss : g.loss ≡ basis.loss
    pub end : g.end ≡ plan_end e basis.digest
    pub trim : g.trim ≡ digest_trim basis.digest
    pub lng : g.lng ≡ digest_lng basis.digest
    pub good : LngFine c hs sent r l e g.lng
    pub items : (i : ℕ × Planned) → In i g.items → ItemFine r l e b i
    pub covers : (n : ℕ) → epoch_of n ≡ e → plan_floor e basis.digest < esn_of n → esn_of n ≤ plan_end e basis.digest → (i : ℕ × Planned) × In i g.items × (i.0 ≡ n)

  -- ---- a plan that was just made ----
  pub planned_in : (is : List Item) (p : ℕ × Planned) → In p (planned is) → (i : Item) × In i is × (p.0 ≡ i.number) × (p.1.settled ≡ [])
  planned_in [] p h = absurd h
  planned_in (i ∷ is) p (inl q) = (i, inl refl, ap (λ (x : ℕ × Planned). x.0) q, ap (λ (x : ℕ × Planned). x.1.settled) q)
  planned_in (i ∷ is) p (inr h) = let r = planned_in is p h in (r.0, inr r.1, r.2, r.3)

  planned_has : (is : List Item) (i : Item) → In i is → (p : ℕ × Planned) × In p (planned is) × (p.0 ≡ i.number)
  planned_has [] i h = absurd h
  planned_has (x ∷ is) i (inl q) = ((x.number, record { what = x.what; settled = [] }), inl refl, ap (λ (k : Item). k.number) (sym q))
  planned_has (x ∷ is) i (inr h) = let r = planned_has is i h in (r.0, inr r.1, r.2)

  pub begins_storing : (made : List Made) (r : Register) (l b e : ℕ) (d : Basis) → In (plan_of l e b d) made → plan_end e d.digest ≤ last_esn → LngFine c hs sent r l e (digest_lng d.digest) → StoringFine made r l b e (storing_of (plan e d.loss d.digest))
  unfolding plan
  begins_storing made r l b e d m most good = record {
    basis = d;
    planned_so = m;
    loss = refl;
    end = refl;
    trim = refl;
    lng = refl;
    good = good;
    items = λ i j. let q = planned_in (plan e d.loss d.digest).items i j in let p = plan_items e d.loss d.digest q.0 q.1 in let n : i.0 ≡ numbered e p.place = q.2 ∙ p.number in let a = p.above in let z = p.below in record {
      epoch = omega arith;
      above = omega arith;
      settlers = subst (Settlers (fixed_of c r l e) sent l i.0 b) (sym q.3) (nobody (fixed_of c r l e) (tells_settled sent l i.0 b));
      settled = λ o. inr (subst (Voters (fixed_of c r l e) sent l i.0 b) (sym q.3) (nobody (fixed_of c r l e) (tells_stored sent l i.0 b)));
    };
    covers = λ n q lo hi. let h = plan_has e d.loss d.digest (esn_of n) lo hi in let p = planned_has (plan e d.loss d.digest).items h.0 h.1 in (p.0, p.1, let z = p.2 in let y = h.2 in omega arith);
  }

  -- ---- a node settles ----
  settle_in : (p : ℕ → Bool) (y : ℕ) (is : List (ℕ × Planned)) (j : ℕ × Planned) → In j (settle p y is) → (i : ℕ × Planned) × In i is × (j.0 ≡ i.0) × (j.1.settled ≡ (if p i.0 then with_one y i.1.settled else i.1.settled))
  settle_in p y [] j h = absurd h
  settle_in p y (i ∷ is) j (inl q) = (i, inl refl, ap (λ (x : ℕ × Planned). x.0) q, ap (λ (x : ℕ × Planned). x.1.settled) q ∙ cond_both (p i.0) _ i.1 (λ (x : Planned). x.settled ≡ (if p i.0 then with_one y i.1.settled else i.1.settled)) (λ t. ap (λ b. if b then with_one y i.1.settled else i.1.settled) (sym t)) (λ t. ap (λ b. if b then with_one y i.1.settled else i.1.settled) (sym t)))
  settle_in p y (i ∷ is) j (inr h) = let r = settle_in p y is j h in (r.0, inr r.1, r.2, r.3)

  settle_has : (p : ℕ → Bool) (y : ℕ) (is : List (ℕ × Planned)) (i : ℕ × Planned) → In i is → (j : ℕ × Planned) × In j (settle p y is) × (j.0 ≡ i.0)
  settle_has p y [] i h = absurd h
  settle_has p y (x ∷ is) i (inl q) = (_, inl refl, ap (λ (k : ℕ × Planned). k.0) (sym q))
  settle_has p y (x ∷ is) i (inr h) = let r = settle_has p y is i h in (r.0, inr r.1, r.2)

  -- what a reply says of its node
  pub record ReplyFine (r : Register) (l b y : ℕ) (x : Body) : Type 0 where
    pub stored : (n : ℕ) → x ≡ bodies.Stored n → (tells_stored sent l n b y ≡ true) × (tells_settled sent l n b y ≡ true)
    pub trimmed : (n t : ℕ) → x ≡ bodies.TrimmedHere n t → TrimFine c hs sent r l t
    pub told_trim : (n t : ℕ) → x ≡ bodies.TrimmedHere n t → In (from_node l y b (bodies.TrimmedHere n t)) sent
    -- who settles a number is a node that was fixed for its epoch
    pub settler : (n : ℕ) → SettlesBody n x → In y (fixed_at c r l (epoch_of n))

  module _ (r : Register) (l b e y : ℕ) (x : Body) (R : ReplyFine r l b y x) where
    one_settled : (p : ℕ → Bool) → Settling x e p → (n : ℕ) (ys : List ℕ) → epoch_of n ≡ e → 0 < esn_of n → Open r l e → p n ≡ true → SettledBy r l e n b ys → SettledBy r l e n b (with_one y ys)
    one_settled p S n ys ep pos o t (inl a) = inl a
    one_settled p S n ys ep pos o t (inr v) = by_settling S where
      by_settling : Settling x e p → SettledBy r l e n b (with_one y ys)
      by_settling (by_stored_one m i k q) = let f = R.stored m i in let z : n ≡ m = eqb-true n m (subst (λ (u : ℕ → Bool). u n ≡ true) q t) in
          inr (one_voter (fixed_of c r l e) (tells_stored sent l n b) y ys (subst (λ j. In y (fixed_at c r l j)) k (R.settler m (inl i))) (subst (λ u. tells_stored sent l u b y ≡ true) (sym z) f.0) v)
      by_settling (by_trimmed_to m k i j q) = inl (R.trimmed m k i n (leb-true n k (subst (λ (u : ℕ → Bool). u n ≡ true) q t)) pos (subst (Open r l) (sym ep) o))

    one_settler : (p : ℕ → Bool) → Settling x e p → (n : ℕ) (ys : List ℕ) → epoch_of n ≡ e → p n ≡ true → Settlers (fixed_of c r l e) sent l n b ys → Settlers (fixed_of c r l e) sent l n b (with_one y ys)
    one_settler p S n ys ep t v = by_settling S where
      by_settling : Settling x e p → Settlers (fixed_of c r l e) sent l n b (with_one y ys)
      by_settling (by_stored_one m i k q) = let f = R.stored m i in let z : n ≡ m = eqb-true n m (subst (λ (u : ℕ → Bool). u n ≡ true) q t) in
          one_voter (fixed_of c r l e) (tells_settled sent l n b) y ys (subst (λ j. In y (fixed_at c r l j)) k (R.settler m (inl i))) (subst (λ u. tells_settled sent l u b y ≡ true) (sym z) f.1) v
      by_settling (by_trimmed_to m k i j q) = let f = R.told_trim m k i in
          one_voter (fixed_of c r l e) (tells_settled sent l n b) y ys (subst (λ v. In y (fixed_at c r l v)) j (R.settler m (inr (k, i)))) (trimmed_settles sent l n b y m k f (j ∙ sym ep) (leb-true n k (subst (λ (u : ℕ → Bool). u n ≡ true) q t))) v

    pub settles_fine : (made : List Made) (p : ℕ → Bool) (g : Storing) → Settling x e p → StoringFine made r l b e g → StoringFine made r l b e (settled_by p y g)
    settles_fine made p g S F = record {
      basis = F.basis;
      planned_so = F.planned_so;
      loss = F.loss;
      end = F.end;
      trim = F.trim;
      lng = F.lng;
      good = F.good;
      items = λ j h. let q = settle_in p y g.items j h in let f = F.items q.0 q.1 in let n = q.2 in record {
        epoch = ap epoch_of n ∙ f.epoch;
        above = let z = f.above in subst (λ k. 0 < esn_of k) (sym n) z;
        settlers = subst (λ k. Settlers (fixed_of c r l e) sent l k b j.1.settled) (sym n) (subst (Settlers (fixed_of c r l e) sent l q.0.0 b) (sym q.3) (cond_both (p q.0.0) (with_one y q.0.1.settled) q.0.1.settled (Settlers (fixed_of c r l e) sent l q.0.0 b)
            (λ t. one_settler p S q.0.0 q.0.1.settled f.epoch t f.settlers) (λ t. f.settlers)));
        settled = λ o. subst (λ k. SettledBy r l e k b j.1.settled) (sym n) (subst (SettledBy r l e q.0.0 b) (sym q.3) (cond_both (p q.0.0) (with_one y q.0.1.settled) q.0.1.settled (SettledBy r l e q.0.0 b)
            (λ t. one_settled p S q.0.0 q.0.1.settled f.epoch f.above o t (f.settled o)) (λ t. f.settled o)));
      };
      covers = λ n q lo hi. let z = F.covers n q lo hi in let h = settle_has p y g.items z.0 z.1 in (h.0, h.1, h.2 ∙ z.2);
    }

  -- ---- a plan that is ready ----
  module _ (made : List Made) (r : Register) (l b e : ℕ) (g : Storing) (reached : Reached r l e) (F : StoringFine made r l b e g) where
    summed : FullClose c hs sent r l e b F.basis ⊎ ShortClose c sent r l e b F.basis → Summarized c hs made sent r l e (summary_of b g)
    summed h = record { reached = reached; basis = F.basis; planned = F.planned_so; loss = F.loss; end = F.end; trim = F.trim; lng = F.lng; good = F.good; how = h }

    -- each number was settled by as many nodes as there are copies
    pub full_close : is_fully_ready (fixed_of c r l e) g ≡ true → Open r l e → FullClose c hs sent r l e b F.basis
    unfolding is_ready
    full_close t o = let h = and_parts (not g.loss) (all_of (λ (i : ℕ × Planned). nat_le (fixed_of c r l e).r (length i.1.settled)) g.items) t in record {
      found = sym F.loss ∙ not-true g.loss h.0;
      copies = λ n q lo hi. let z = F.covers n q lo hi in let f = F.items z.0 z.1 in let k = leb-true _ _ (all_in (λ (i : ℕ × Planned). nat_le (fixed_of c r l e).r (length i.1.settled)) z.0 g.items h.1 z.1) in
          subst (λ x. (fixed_of c r l e).r ≤ how_many (tells_settled sent l x b) (fixed_at c r l e)) z.2 (counted_votes (fixed_of c r l e) (tells_settled sent l z.0.0 b) z.0.1.settled f.settlers k);
      fixed = λ n q lo hi. let z = F.covers n q lo (omega arith) in let f = F.items z.0 z.1 in let k = leb-true _ _ (all_in (λ (i : ℕ × Planned). nat_le (fixed_of c r l e).r (length i.1.settled)) z.0 g.items h.1 z.1) in
          subst (λ x. Fixed c hs sent r l x b) z.2 (by_settled z.0.0 z.0.1.settled f.epoch k (f.settled o));
    } where
      by_settled : (n : ℕ) (ys : List ℕ) → epoch_of n ≡ e → (fixed_of c r l e).r ≤ length ys → SettledBy r l e n b ys → Fixed c hs sent r l n b
      by_settled n ys q k (inl a) = inl a
      by_settled n ys q k (inr v) = inr (subst (λ x. Chosen (fixed_of c r l x) sent l n b) (sym q) (counted_votes (fixed_of c r l e) (tells_stored sent l n b) ys v k))

    pub full_stands : is_fully_ready (fixed_of c r l e) g ≡ true → Open r l e → Summarized c hs made sent r l e (summary_of b g)
    full_stands t o = summed (inl (full_close t o))

    -- each node settled each number, or said that it is lost
    pub short_stands : (lost : List ℕ) → ((y : ℕ) → is_in y lost ≡ true → LostTold sent l e b y) → is_ready_short (fixed_of c r l e) lost g ≡ true → Summarized c hs made sent r l e (summary_of b g)
    unfolding is_ready_short
    short_stands lost said t = summed (inr (record {
      settled = λ n q lo hi y i. let z = F.covers n q lo hi in let f = F.items z.0 z.1 in
          let k = all_in (λ (j : ℕ × Planned). all_of (λ x. is_in x j.1.settled || is_in x lost) (fixed_at c r l e)) z.0 g.items t z.1 in
          let u = all_in (λ x. is_in x z.0.1.settled || is_in x lost) y (fixed_at c r l e) k i in elim (or_cases (is_in y z.0.1.settled) (is_in y lost) u) [
            | inl v ↦ inl (subst (λ x. tells_settled sent l x b y ≡ true) z.2 (f.settlers.stored y v))
            | inr v ↦ inr (said y v)
          ];
    }))

-- while more happens
module _ (c : Config) (hs next : List Happened) (sent after : List Msg) (into : (m : Msg) → In m sent → In m after) (r k : Register) (u : Up r k) (s : Stays c r k) (acks : (l n : ℕ) → Acknowledged c hs sent r l n → Acknowledged c next after k l n) where
  votes_later : (l e n b : ℕ) (ys : List ℕ) → Reached r l e → SettledBy c hs sent r l e n b ys → SettledBy c next after k l e n b ys
  votes_later l e n b ys o (inl a) = inl (acks l n a)
  votes_later l e n b ys o (inr v) = inr (subst (λ p. Voters p after l n b ys) (sym (s.specs l e o)) (record { counted = v.counted; stored = λ y h. tells_more sent after into l n b y (v.stored y h) }))

  pub fixed_later : (l n b : ℕ) → Reached r l (epoch_of n) → Fixed c hs sent r l n b → Fixed c next after k l n b
  fixed_later l n b o (inl a) = inl (acks l n a)
  fixed_later l n b o (inr h) = inr (subst (λ p. Chosen p after l n b) (sym (s.specs l (epoch_of n) o)) (chosen_more (fixed_of c r l (epoch_of n)) sent after into l n b h))

  lost_told_later : (l e b y : ℕ) → LostTold sent l e b y → LostTold after l e b y
  lost_told_later l e b y h = record { number = h.number; round = h.round; generation = h.generation; end = h.end; said = into _ h.said; home = h.home }

  pub full_later : (l e b : ℕ) (d : Basis) → Reached r l e → FullClose c hs sent r l e b d → FullClose c next after k l e b d
  full_later l e b d o h = record {
    found = h.found;
    copies = λ n q lo hi. subst (λ (p : Spec). p.r ≤ how_many (tells_settled after l n b) (nodes_of p)) (sym (s.specs l e o)) (copies_more (fixed_of c r l e) sent after into l n b (h.copies n q lo hi));
    fixed = λ n q lo hi. fixed_later l n b (subst (Reached r l) (sym q) o) (h.fixed n q lo hi);
  }

  how_later : (l e b : ℕ) (d : Basis) → Reached r l e → FullClose c hs sent r l e b d ⊎ ShortClose c sent r l e b d → FullClose c next after k l e b d ⊎ ShortClose c after k l e b d
  how_later l e b d o (inl h) = inl (full_later l e b d o h)
  how_later l e b d o (inr h) = inr (record {
    settled = λ n q lo hi y i. elim (h.settled n q lo hi y (subst (λ (p : Spec). In y (nodes_of p)) (s.specs l e o) i)) [ inl t ↦ inl (settles_more sent after into l n b y t) | inr t ↦ inr (lost_told_later l e b y t) ];
  })

  pub summarized_later : (made more : List Made) (l e : ℕ) (y : Summary) → Summarized c hs made sent r l e y → Summarized c next (more ++ made) after k l e y
  summarized_later made more l e y h = record {
    reached = reached_later r k l e u h.reached;
    basis = h.basis;
    planned = In_right _ more made h.planned;
    loss = h.loss;
    end = h.end;
    trim = h.trim;
    lng = h.lng;
    good = λ n a b o. acks l n (h.good n a b o);
    how = how_later l e y.ballot h.basis h.reached h.how;
  }

  pub storing_later : (made more : List Made) (l b e : ℕ) (g : Storing) → Reached r l e → StoringFine c hs sent made r l b e g → StoringFine c next after (more ++ made) k l b e g
  storing_later made more l b e g o F = record {
    basis = F.basis;
    planned_so = In_right _ more made F.planned_so;
    loss = F.loss;
    end = F.end;
    trim = F.trim;
    lng = F.lng;
    good = λ n a b o. acks l n (F.good n a b o);
    items = λ i h. let f = F.items i h in record {
      epoch = f.epoch;
      above = f.above;
      settlers = subst (λ p. Settlers p after l i.0 b i.1.settled) (sym (s.specs l e o)) (record { counted = f.settlers.counted; stored = λ y h. settles_more sent after into l i.0 b y (f.settlers.stored y h) });
      settled = λ w. votes_later l e i.0 b i.1.settled o (f.settled (let z = (u l).1 in omega arith));
    };
    covers = F.covers;
  }
