-- Items and appends are sent to nodes of their epoch alone, and items with the last known good offset of their plan.
use Rattle.std.proofs.Common.{is_some, ◌≡◌, ◌∙◌, ◌≤◌, ◌⊎◌, ℕ, zero, suc, inl, inr, refl, ap, sym, subst, cond, Bool, true, false, not, ◌<◌, if◌then◌else◌, take, drop, List, [], ◌∷◌, ◌++◌, Option, Some, None, length, nat_lt, ◌==◌, ◌+◌, arith}
use Rattle.std.proofs.lemmas.Bool.{eqb-true, ltb-true}
use Rattle.ld_table.specs.Words.{is_in, without, any_of}
use Rattle.ld_table.specs.Named.{find_named}
use Rattle.ld_lsn.specs.Number.{epoch_of, numbered, last_esn}
use Rattle.ld_ids.specs.declared.set.Spec.{Spec}
use Rattle.ld_ids.specs.Choice.{nodes_of, ring, left_out, choice_at}
use Rattle.ld_config.specs.declared.config.Config.{Config}
use Rattle.ld_msg.specs.declared.msg.What.{What}
use Rattle.ld_msg.specs.declared.msg.What.TheVariants.{Rec}
use Rattle.ld_msg.specs.declared.msg.Who.{Who}
use Rattle.ld_msg.specs.declared.msg.Who.TheVariants as whos
use Rattle.ld_msg.specs.declared.msg.Msg.{Msg}
use Rattle.ld_msg.specs.declared.msg.Summary.{Summary}
use Rattle.ld_msg.specs.declared.msg.Body.{Body}
use Rattle.ld_msg.specs.declared.msg.Body.TheVariants as bodies
use Rattle.ld_msg.specs.Choice.{choice}
use Rattle.ld_msg.specs.Register.{Register, View, Granted, activate, lce_of, epochs_of, epochs_in, generation_of}
use Rattle.ld_msg.specs.Digest.{Told, told_nothing, no_digest, with_asks, plan, plan_end, digest_lng}
use Rattle.ld_msg.specs.Sequencer.{Called, on_reply, activated, Sequencer, Recovery, Storing, Seals, Stores, planned, raised, Acts, Append, Planned, digest_asks, next_ask, acted_messages, rose, to_each, item_nodes, item_stores, append_stores, left_nodes, is_wide, is_acked, first_stores, recovery_asks, released_of, next_esn}
use Rattle.ld_machine.specs.Config.{looks_at, fixed_of, fixed_at}
use Rattle.ld_op.specs.declared.op.Op.{Op}
use Rattle.ld_op.specs.declared.op.Op.TheVariants as ops
use Rattle.ld_op.specs.Handles.{answer_message}
use Rattle.ld_op.specs.Ticks.{Ticked, Cleans, Rebuilt, Asks, Nothing}
use Rattle.ld_machine.specs.Disk.{Node, Kept, Written, keep_end}
use Rattle.ld_machine.specs.State.{State, Done, node_at, with_node, with_register, posted}
use Rattle.ld_machine.specs.Step as Step
use Rattle.ld_safety.proofs.Events.{reply_call, retry_call, announced, Cases, Live, refreshed, loaded}
use Rattle.ld_machine.specs.World.{Made, Joined, In, from_node, made_by, made_retried, joins_there}
use Rattle.ld_safety.proofs.SequencerSteps.{Closing, Acting, Retrying, Hearing, heard_page, heard_lost, gone_of, same_sender, replied, retried}
use Rattle.ld_safety.proofs.Registers.{Reached}
use Rattle.ld_safety.proofs.Protocol.{Basis, plan_of}
use Rattle.ld_safety.proofs.Plans.{plan_items}
use Rattle.ld_safety.proofs.Storings.{planned_in}
use Rattle.ld_safety.proofs.Acks.{raised_in}
use Rattle.ld_safety.proofs.Lists.{cond_both, In-append, In-map}
use Rattle.ld_safety.proofs.Members.{In_filter, In_take}
use Rattle.ld_machine.specs.Calm.{announcements, Move}

In_drop : (n y : ℕ) (xs : List ℕ) → In y (drop n xs) → In y xs
In_drop zero y xs i = i
In_drop (suc n) y [] i = i
In_drop (suc n) y (x ∷ xs) i = inr (In_drop n y xs i)

ring_in : (p y : ℕ) (xs : List ℕ) → In y (ring p xs) → In y xs
ring_in p y xs i = elim (In-append y (drop p xs) (take p xs) i) [ inl a ↦ In_drop p y xs a | inr a ↦ In_take p y xs a ]

left_in : (s : Spec) (ex xs : List ℕ) (y : ℕ) → In y (left_out s ex xs) → In y xs
left_in s ex xs y i = cond_both (nat_lt (length (without ex xs)) s.r) xs (without ex xs) (λ zs. In y zs → In y xs) (λ t j. j) (λ t j. (In_filter (λ x. not (is_in x ex)) y xs j).0) i

pub choice_in : (s : Spec) (ex : List ℕ) (n w y : ℕ) → In y (choice s ex n w) → In y (nodes_of s)
unfolding choice_at
choice_in s ex n w y i = ring_in _ y (nodes_of s) (left_in s ex _ y (In_take _ y _ i))

item_in : (s : Spec) (lost : List ℕ) (loss : Bool) (wave n : ℕ) (settled : List ℕ) (y : ℕ) → In y (item_nodes s lost loss wave n settled) → In y (nodes_of s)
item_in s lost loss wave n settled y = cond_both (is_wide s lost loss) (without settled (left_nodes s lost)) (if nat_lt (length settled) s.r then choice s lost n wave else []) (λ zs. In y zs → In y (nodes_of s))
    (λ t i. (In_filter (λ x. not (is_in x lost)) y (nodes_of s) (In_filter (λ x. not (is_in x settled)) y (left_nodes s lost) i).0).0)
    (λ t. cond_both (nat_lt (length settled) s.r) (choice s lost n wave) [] (λ zs. In y zs → In y (nodes_of s)) (λ u i. choice_in s lost n wave y i) (λ u i. absurd i))

-- ---- what is sent ----
-- a store goes where it may, with a last known good offset as it may, and so does an ask for a digest
abbrev pub MayGo : (ℕ → ℕ → ℕ → Type 0) → (ℕ → ℕ → Type 0) → ℕ → Body → Type 0
MayGo P A y (bodies.Store n lng w) = P y n lng
MayGo P A y (bodies.DigestAsk n) = A y n
MayGo P A y _ = Unit {0}

module _ (P : ℕ → ℕ → ℕ → Type 0) (A : ℕ → ℕ → Type 0) where
  -- each of these goes where it may
  abbrev pub StoresTo : List (ℕ × Body) → Type 0
  StoresTo bs = (x : ℕ × Body) → In x bs → MayGo P A x.0 x.1

  pub nothing : StoresTo []
  nothing x i = absurd i

  pub both : (ds bs : List (ℕ × Body)) → StoresTo ds → StoresTo bs → StoresTo (ds ++ bs)
  both ds bs h k x i = elim (In-append x ds bs i) [ inl a ↦ h x a | inr a ↦ k x a ]

  pub each_to : (b : Body) (ys : List ℕ) → ((y : ℕ) → In y ys → MayGo P A y b) → StoresTo (to_each b ys)
  each_to b [] h x i = absurd i
  each_to b (y ∷ ys) h x (inl e) = subst (λ (z : ℕ × Body). MayGo P A z.0 z.1) (sym e) (h y (inl refl))
  each_to b (y ∷ ys) h x (inr i) = each_to b ys (λ z j. h z (inr j)) x i

  -- asks of a digest
  abbrev pub Asked : List Told → Type 0
  Asked d = (t : Told) → In t d → t.whole ≡ false → A t.node t.asked

  pub asks_to : (d : List Told) → Asked d → StoresTo (digest_asks d)
  asks_to [] h = nothing
  asks_to (t ∷ d) h = by_whole (asks_to d (λ u i. h u (inr i))) t.whole refl where
    by_whole : StoresTo (digest_asks d) → (k : Bool) → t.whole ≡ k → StoresTo (if k then digest_asks d else (t.node, bodies.DigestAsk t.asked) ∷ digest_asks d)
    by_whole r true q x i = r x i
    by_whole r false q x (inl e) = subst (λ (z : ℕ × Body). MayGo P A z.0 z.1) (sym e) (h t (inl refl) q)
    by_whole r false q x (inr i) = r x i

  pub next_to : (y : ℕ) (d : List Told) → Asked d → StoresTo (next_ask y d)
  next_to y [] h = nothing
  next_to y (t ∷ d) h = cond_both (t.node == y) (if t.whole then [] else (y, bodies.DigestAsk t.asked) ∷ []) (next_ask y d) StoresTo
      (λ u. by_whole u t.whole refl) (λ u. next_to y d (λ v i. h v (inr i))) where
        by_whole : (t.node == y) ≡ true → (k : Bool) → t.whole ≡ k → StoresTo (if k then [] else (y, bodies.DigestAsk t.asked) ∷ [])
        by_whole u true q x i = absurd i
        by_whole u false q x (inl e) = subst (λ (z : ℕ × Body). MayGo P A z.0 z.1) (sym e) (subst (λ v. A v t.asked) (eqb-true _ _ u) (h t (inl refl) q))
        by_whole u false q x (inr i) = absurd i

  pub items_to : (s : Spec) (lost : List ℕ) (loss : Bool) (lng wave : ℕ) (is : List (ℕ × Planned)) → ((i : ℕ × Planned) → In i is → (y : ℕ) → In y (nodes_of s) → P y i.0 lng) → StoresTo (item_stores s lost loss lng wave is)
  items_to s lost loss lng wave [] h = nothing
  items_to s lost loss lng wave (i ∷ is) h = both _ _ (each_to (bodies.Store i.0 lng i.1.what) _ (λ y j. h i (inl refl) y (item_in s lost loss wave i.0 i.1.settled y j))) (items_to s lost loss lng wave is (λ k j. h k (inr j)))

  pub appends_to : (s : Spec) (lost : List ℕ) (lng : ℕ) (ps : List (ℕ × Append)) → ((p : ℕ × Append) → In p ps → (y : ℕ) → In y (nodes_of s) → P y p.0 lng) → StoresTo (append_stores s lost lng ps)
  appends_to s lost lng [] h = nothing
  appends_to s lost lng (p ∷ ps) h = both _ _
      (cond_both (is_acked s p.1) [] (to_each (bodies.Store p.0 lng (Rec p.1.payload)) (without p.1.stored (choice s lost p.0 p.1.wave))) StoresTo (λ t. nothing)
      (λ t. each_to (bodies.Store p.0 lng (Rec p.1.payload)) _ (λ y j. h p (inl refl) y (choice_in s lost p.0 p.1.wave y (In_filter (λ x. not (is_in x p.1.stored)) y (choice s lost p.0 p.1.wave) j).0))))
      (appends_to s lost lng ps (λ k j. h k (inr j)))

  -- what a call sends
  pub record ActsTo (a : Acts) : Type 0 where
    pub cleans : StoresTo a.cleans
    pub asks : StoresTo a.asks
    pub stores : StoresTo a.stores

  pub quiet_acts : (a : Acts) → a.cleans ≡ [] → a.asks ≡ [] → a.stores ≡ [] → ActsTo a
  quiet_acts a p q r = record { cleans = subst StoresTo (sym p) nothing; asks = subst StoresTo (sym q) nothing; stores = subst StoresTo (sym r) nothing }

  cleans_to : (e : ℕ) (y : Summary) (ys : List ℕ) → StoresTo (to_each (bodies.Clean e y) ys)
  cleans_to e y ys = each_to (bodies.Clean e y) ys (λ z i. tt)

  -- where the asks of a recovery that begins go
  abbrev pub Begun : (ℕ → View) → ℕ → Type 0
  Begun looks b = (e y : ℕ) → 0 < e → e < b → In y (nodes_of (looks e).spec) → A y (numbered e 1)

  recovers_to : (looks : ℕ → View) (q : Sequencer) (lce : ℕ) → Begun looks q.epoch → StoresTo (recovery_asks looks q lce)
  recovers_to looks q lce B = by_later (nat_lt (lce + 1) q.epoch) refl where
    by_later : (k : Bool) → nat_lt (lce + 1) q.epoch ≡ k → StoresTo (if k then digest_asks (no_digest (looks (lce + 1)).spec (lce + 1)) else [])
    by_later false g = nothing
    by_later true g = asks_to (no_digest (looks (lce + 1)).spec (lce + 1)) (λ t i w. let m = In-map (told_nothing (lce + 1)) t (nodes_of (looks (lce + 1)).spec) i in subst (λ (u : Told). A u.node u.asked) (sym m.2) (B (lce + 1) m.0 (omega arith) (ltb-true _ _ g) m.1))

  -- and where the released number is told again
  pub again_to : (again : Bool) (k : Called) → ActsTo k.acts → ActsTo (announced again k).acts
  again_to again k h = record {
    cleans = h.cleans;
    asks = both (if again then announcements k.acts.sequencer else []) k.acts.asks (cond_both again (announcements k.acts.sequencer) [] StoresTo
        (λ t. cond_both (is_some k.acts.sequencer.preempted) [] (to_each (bodies.Release (released_of k.acts.sequencer)) (nodes_of k.acts.sequencer.spec)) StoresTo (λ u. nothing) (λ u. each_to (bodies.Release (released_of k.acts.sequencer)) _ (λ z i. tt))) (λ t. nothing)) h.asks;
    stores = h.stores;
  }

  pub sends_to : (old : Sequencer) (a : Acts) → ActsTo a → StoresTo (acted_messages old a)
  sends_to old a h = both _ _ h.cleans (both _ _ (cond_both (rose old a.sequencer) (to_each (bodies.Release (released_of a.sequencer)) (nodes_of a.sequencer.spec)) [] StoresTo (λ t. each_to (bodies.Release (released_of a.sequencer)) _ (λ z i. tt)) (λ t. nothing)) (both _ _ h.asks h.stores))

  -- a close adds only what tells of it
  close_to : (c : Config) (r : Register) (a : Acts) (e : ℕ) (y : Summary) (short : Bool) → Begun (looks_at c r a.sequencer.log) a.sequencer.epoch → ActsTo a → Closing r (looks_at c r a.sequencer.log) a e y short (λ k. ActsTo k.acts)
  close_to c r a e y short B h = record {
    granted = λ n i o g. record { cleans = cleans_to e y _; asks = recovers_to (looks_at c r a.sequencer.log) a.sequencer e B; stores = h.stores };
    passed = λ i. record { cleans = h.cleans; asks = h.asks; stores = h.stores };
    behind = λ b i. record { cleans = h.cleans; asks = recovers_to (looks_at c r a.sequencer.log) a.sequencer (lce_of r a.sequencer.log) B; stores = h.stores };
    overtaken = λ i o. record { cleans = h.cleans; asks = h.asks; stores = h.stores };
    failed = λ n g. record { cleans = h.cleans; asks = h.asks; stores = h.stores };
  }

-- the last known good offset in a store of a later ballot is its plan's
abbrev pub StoreLng : List Made → ℕ → ℕ → ℕ → ℕ → Type 0
StoreLng made l b n g = (b ≡ epoch_of n) ⊎ ((d : Basis) × In (plan_of l (epoch_of n) b d) made × (g ≡ digest_lng d.digest))

-- ---- one call ----
-- a node was fixed for the epoch, or took a place in it
abbrev pub InEpoch : Config → Register → List Joined → ℕ → ℕ → ℕ → Type 0
InEpoch c r js l e y = In y (fixed_at c r l e) ⊎ (any_of (joins_there l e y) js ≡ true)

-- so is each node that a look shows, of an epoch that was handed out
abbrev pub LookIn : Config → Register → List Joined → ℕ → ℕ → Spec → Type 0
LookIn c r js l e p = Reached r l e × ((y : ℕ) → In y (nodes_of p) → InEpoch c r js l e y)

-- a digest asks nodes of its recovery, in its epoch
abbrev pub AskFits : Recovery → List Told → Type 0
AskFits v d = (t : Told) → In t d → In t.node (nodes_of v.spec) × (t.whole ≡ false → epoch_of t.asked ≡ v.epoch)

module _ (c : Config) (js : List Joined) (made : List Made) (r : Register) (q : Sequencer) (own : Reached r q.log q.epoch) (spec : q.spec ≡ fixed_of c r q.log q.epoch) (appends : (p : ℕ × Append) → In p q.appends → epoch_of p.0 ≡ q.epoch)
    (reached : (v : Recovery) → q.recovery ≡ Some v → Reached r q.log v.epoch) (specs : (v : Recovery) → q.recovery ≡ Some v → (y : ℕ) → In y (nodes_of v.spec) → InEpoch c r js q.log v.epoch y)
    (looked : (e y : ℕ) → Reached r q.log e → In y (nodes_of (looks_at c r q.log e).spec) → InEpoch c r js q.log e y)
    (digests : (v : Recovery) (d : List Told) → q.recovery ≡ Some v → v.stage ≡ Seals d → AskFits v d)
    (items : (v : Recovery) (g : Storing) → q.recovery ≡ Some v → v.stage ≡ Stores g → (i : ℕ × Planned) → In i g.items → epoch_of i.0 ≡ v.epoch)
    (good : (v : Recovery) (g : Storing) → q.recovery ≡ Some v → v.stage ≡ Stores g → (d : Basis) × In (plan_of q.log v.epoch q.epoch d) made × (g.lng ≡ digest_lng d.digest)) where
  -- a node of the number's epoch; with the plans of the call
  abbrev pub Among : List Made → ℕ → ℕ → ℕ → Type 0
  Among m y n g = Reached r q.log (epoch_of n) × InEpoch c r js q.log (epoch_of n) y × StoreLng (m ++ made) q.log q.epoch n g

  abbrev pub AskAmong : ℕ → ℕ → Type 0
  AskAmong y n = Reached r q.log (epoch_of n) × InEpoch c r js q.log (epoch_of n) y

  -- plans end in their epochs
  abbrev pub EndsIn : List Made → Type 0
  EndsIn m = (l e b : ℕ) (d : Basis) → In (plan_of l e b d) m → plan_end e d.digest ≤ last_esn

  -- who it is of
  record OfEpoch (w : Recovery) : Type 0 where
    reached_so : Reached r q.log w.epoch
    spec_so : (y : ℕ) → In y (nodes_of w.spec) → InEpoch c r js q.log w.epoch y

  of_epoch : (v : Recovery) → q.recovery ≡ Some v → OfEpoch v
  of_epoch v e = record { reached_so = reached v e; spec_so = specs v e }

  heard_of : (y : ℕ) (b : Body) (w : Recovery) (d : List Told) → Hearing q y b w d → OfEpoch w
  heard_of y b w d (heard_page f from upto trim lng es e h i g t j) = of_epoch w e
  heard_of y b w d (heard_lost v f n round generation end e h i g j k) = subst OfEpoch (sym j) (record { reached_so = reached v e; spec_so = specs v e })

  among : (m : List Made) (w : Recovery) → OfEpoch w → (n y g : ℕ) → epoch_of n ≡ w.epoch → In y (nodes_of w.spec) → (d : Basis) → In (plan_of q.log w.epoch q.epoch d) (m ++ made) → g ≡ digest_lng d.digest → Among m y n g
  among m w o n y g h i d j k = (subst (Reached r q.log) (sym h) o.reached_so, subst (λ e. InEpoch c r js q.log e y) (sym h) (o.spec_so y i), inr (d, subst (λ e. In (plan_of q.log e q.epoch d) (m ++ made)) (sym h) j, k))

  asked_fits : (w : Recovery) (d : List Told) → OfEpoch w → AskFits w d → Asked (Among []) AskAmong d
  asked_fits w d o h t i k = let z = h t i in let e = z.1 k in (subst (Reached r q.log) (sym e) o.reached_so, subst (λ x. InEpoch c r js q.log x t.node) (sym e) (o.spec_so t.node z.0))

  begun : (m : List Made) → Begun (Among m) AskAmong (looks_at c r q.log) q.epoch
  begun m e y pos lt i = let o : Reached r q.log e = (pos, let z = own.1 in omega arith) in let k : epoch_of (numbered e 1) ≡ e = omega arith in
      (subst (Reached r q.log) (sym k) o, subst (λ x. InEpoch c r js q.log x y) (sym k) (looked e y o i))

  -- what a plan in the making adds to the book
  abbrev new_plan : Recovery → Bool → List Told → List ℕ → List Made
  new_plan w loss d gone = plan_of q.log w.epoch q.epoch (record { loss = loss; digest = d; gone = gone }) ∷ []

  plan_to : (w : Recovery) (loss : Bool) (d : List Told) (gone : List ℕ) → OfEpoch w → EndsIn (plan_of q.log w.epoch q.epoch (record { loss = loss; digest = d; gone = gone }) ∷ []) → (lost : List ℕ) (wave : ℕ) → StoresTo (Among (new_plan w loss d gone)) AskAmong (item_stores w.spec lost loss (plan w.epoch loss d).lng wave (planned (plan w.epoch loss d).items))
  unfolding plan
  plan_to w loss d gone o en lost wave = items_to (Among (new_plan w loss d gone)) AskAmong w.spec lost loss _ wave _ (λ i j y k.
      let most = en q.log w.epoch q.epoch (record { loss = loss; digest = d; gone = gone }) (inl refl) in
      let z = planned_in c [] [] (plan w.epoch loss d).items i j in
      let p = plan_items w.epoch loss d z.0 z.1 in
      let n : i.0 ≡ numbered w.epoch p.place = z.2 ∙ p.number in
      let a = p.above in let b = p.below in among (new_plan w loss d gone) w o i.0 y _ (omega arith) k (record { loss = loss; digest = d; gone = gone }) (inl refl) refl)

  raised_to : (m : List Made) → StoresTo (Among m) AskAmong (append_stores q.spec q.lost q.lng (raised q.spec q.appends))
  raised_to m = appends_to (Among m) AskAmong q.spec q.lost q.lng (raised q.spec q.appends) (λ p i y j. let z = raised_in q.spec q.appends p i in let h : epoch_of p.0 ≡ q.epoch = ap epoch_of z.2 ∙ appends z.0 z.1 in
      (subst (Reached r q.log) (sym h) own, subst (λ e. InEpoch c r js q.log e y) (sym h) (inl (subst (λ (p : Spec). In y (nodes_of p)) spec j)), inl (sym h)))

  storing_to : (v : Recovery) (g : Storing) → q.recovery ≡ Some v → v.stage ≡ Stores g → (lost : List ℕ) (wave : ℕ) → StoresTo (Among []) AskAmong (item_stores v.spec lost g.loss g.lng wave g.items)
  storing_to v g e h lost wave = items_to (Among []) AskAmong v.spec lost g.loss g.lng wave g.items (λ i j y k. let z = good v g e h in among [] v (of_epoch v e) i.0 y g.lng (items v g e h i j) k z.0 z.1 z.2)

  none_to : (m : List Made) → StoresTo (Among m) AskAmong []
  none_to m = nothing (Among m) AskAmong

  pub acting_to : (gone : Recovery → List ℕ) (y : ℕ) (b : Body) → ((w : Recovery) (d : List Told) → Hearing q y b w d → AskFits w d) → Acting c r gone q y b (λ k m. EndsIn m → ActsTo (Among m) AskAmong k.acts)
  unfolding plan
  acting_to gone y b heard = record {
    quiet = λ z. quiet_acts (Among []) AskAmong _ refl refl refl;
    sealed = λ n k f i l z. quiet_acts (Among []) AskAmong _ refl refl refl;
    cleaned_own = λ n s f i h z. quiet_acts (Among []) AskAmong _ refl refl refl;
    acks = λ n p f i g h m z. quiet_acts (Among []) AskAmong _ refl refl refl;
    lost_own = λ n round g end f i h z. quiet_acts (Among []) AskAmong _ refl refl refl;
    cleaned = λ v n s f e i h z. record { cleans = cleans_to (Among []) AskAmong v.epoch s _; asks = recovers_to (Among []) AskAmong (looks_at c r q.log) q v.epoch (begun []); stores = none_to [] };
    asks_more = λ w d asks f H a n u z. record { cleans = none_to []; asks = elim a [ inl h ↦ subst (StoresTo (Among []) AskAmong) (sym h) (next_to (Among []) AskAmong y d (asked_fits w d (heard_of y b w d H) (heard w d H))) | inr h ↦ subst (StoresTo (Among []) AskAmong) (sym h) (none_to []) ]; stores = none_to [] };
    plans = λ w d loss f H p z. record { cleans = none_to (new_plan w loss d (gone w)); asks = none_to (new_plan w loss d (gone w)); stores = plan_to w loss d (gone w) (heard_of y b w d H) z w.lost 0 };
    looks_closed = λ w d s f H u o z. record { cleans = cleans_to (Among []) AskAmong w.epoch s _; asks = recovers_to (Among []) AskAmong (looks_at c r q.log) q w.epoch (begun []); stores = none_to [] };
    looks_later = λ w d f H u o n z. quiet_acts (Among []) AskAmong _ refl refl refl;
    stores_on = λ w g f H t z. quiet_acts (Among []) AskAmong _ refl refl refl;
    closes_now = λ w g f H t. with_none (close_to (Among []) AskAmong c r _ w.epoch _ _ (begun []) (quiet_acts (Among []) AskAmong _ refl refl refl));
    lost_closing = λ v s short n round g end f e i h j z. quiet_acts (Among []) AskAmong _ refl refl refl;
  } where
    with_none : {a : Acts} {e : ℕ} {s : Summary} {short : Bool} → Closing r (looks_at c r q.log) a e s short (λ k. ActsTo (Among []) AskAmong k.acts) → Closing r (looks_at c r q.log) a e s short (λ k. EndsIn [] → ActsTo (Among []) AskAmong k.acts)
    with_none h = record { granted = λ n i o g z. h.granted n i o g; passed = λ i z. h.passed i; behind = λ b i z. h.behind b i; overtaken = λ i o z. h.overtaken i o; failed = λ n g z. h.failed n g }

  pub retrying_to : (gone : Recovery → List ℕ) → ((v : Recovery) (d : List Told) → q.recovery ≡ Some v → v.stage ≡ Seals d → AskFits v (with_asks v.epoch d)) → Retrying c r gone q (λ k m. EndsIn m → ActsTo (Among m) AskAmong k.acts)
  unfolding plan
  retrying_to gone anew = record {
    quiet = λ z. quiet_acts (Among []) AskAmong _ refl refl refl;
    appends = λ f z. record { cleans = none_to []; asks = none_to []; stores = (raised_to []) };
    seals = λ v d f e h u z. record { cleans = none_to []; asks = asks_to (Among []) AskAmong (with_asks v.epoch d) (asked_fits v (with_asks v.epoch d) (of_epoch v e) (anew v d e h)); stores = (raised_to []) };
    plans = λ v d f e h p z. record { cleans = none_to (new_plan v true d (gone v)); asks = none_to (new_plan v true d (gone v)); stores = both (Among (new_plan v true d (gone v))) AskAmong _ _ (plan_to v true d (gone v) (of_epoch v e) z v.lost 0) (raised_to (new_plan v true d (gone v))) };
    looks_closed = λ v d s f e h u o z. record { cleans = cleans_to (Among []) AskAmong v.epoch s _; asks = recovers_to (Among []) AskAmong (looks_at c r q.log) q v.epoch (begun []); stores = both (Among []) AskAmong [] _ (none_to []) (raised_to []) };
    looks_later = λ v d f e h u o n z. record { cleans = none_to []; asks = none_to []; stores = both (Among []) AskAmong [] _ (none_to []) (raised_to []) };
    stores_on = λ v g f e h t z. record { cleans = none_to []; asks = none_to []; stores = both (Among []) AskAmong _ _ (storing_to v g e h _ _) (raised_to []) };
    closes_now = λ v g f e h t. with_none (close_to (Among []) AskAmong c r _ v.epoch _ _ (begun []) (record { cleans = none_to []; asks = none_to []; stores = both (Among []) AskAmong _ _ (storing_to v g e h _ _) (raised_to []) }));
    closes = λ v y short f e h. with_none (close_to (Among []) AskAmong c r _ v.epoch y short (begun []) (record { cleans = none_to []; asks = none_to []; stores = (raised_to []) }));
  } where
    with_none : {a : Acts} {e : ℕ} {s : Summary} {short : Bool} → Closing r (looks_at c r q.log) a e s short (λ k. ActsTo (Among []) AskAmong k.acts) → Closing r (looks_at c r q.log) a e s short (λ k. EndsIn [] → ActsTo (Among []) AskAmong k.acts)
    with_none h = record { granted = λ n i o g z. h.granted n i o g; passed = λ i z. h.passed i; behind = λ b i z. h.behind b i; overtaken = λ i o z. h.overtaken i o; failed = λ n g z. h.failed n g }

same_node : {x y : ℕ} → whos.Node x ≡ whos.Node y → x ≡ y
same_node z = cc

store_is : (a lng b lngs : ℕ) (x w : What) → bodies.Store a lng x ≡ bodies.Store b lngs w → a ≡ b
store_is a lng b lngs x w h = cc

-- ---- every event ----
-- stores of sequencers are of nodes of the number's epoch, and those of later ballots have the last known good offset of their plan
abbrev pub Goes : Config → Register → List Joined → List Made → ℕ → ℕ → ℕ → ℕ → ℕ → Type 0
Goes c r js made l b y n lng = Reached r l (epoch_of n) × InEpoch c r js l (epoch_of n) y × StoreLng made l b n lng

abbrev pub AskGoes : Config → Register → List Joined → ℕ → ℕ → ℕ → Type 0
AskGoes c r js l y n = Reached r l (epoch_of n) × InEpoch c r js l (epoch_of n) y

abbrev pub InSent : Config → Register → List Joined → List Made → List Msg → Type 0
InSent c r js made ms = (m : Msg) → In m ms → (b y : ℕ) → m.from ≡ whos.Sequencer b → m.to ≡ whos.Node y → MayGo (Goes c r js made m.log b) (AskGoes c r js m.log) y m.body

-- who stored a number is a node of its epoch
abbrev pub StoredOf : Config → Register → List Msg → Type 0
StoredOf c r ms = (l y n b : ℕ) → In (from_node l y b (bodies.Stored n)) ms → Reached r l (epoch_of n) × In y (fixed_at c r l (epoch_of n))

-- a sequencer's own, and that of what it recovers
pub record Known (c : Config) (js : List Joined) (made : List Made) (s : State) (r : Register) (q : Sequencer) : Type 0 where
  pub own : Reached r q.log q.epoch
  pub spec : q.spec ≡ fixed_of c r q.log q.epoch
  pub small : next_esn q ≤ last_esn
  pub appends : (p : ℕ × Append) → In p q.appends → epoch_of p.0 ≡ q.epoch
  pub reached : (v : Recovery) → q.recovery ≡ Some v → Reached r q.log v.epoch
  pub specs : (v : Recovery) → q.recovery ≡ Some v → (y : ℕ) → In y (nodes_of v.spec) → InEpoch c r js q.log v.epoch y
  pub looked : (e y : ℕ) → Reached r q.log e → In y (nodes_of (looks_at c r q.log e).spec) → InEpoch c r js q.log e y
  pub digests : (v : Recovery) (d : List Told) → q.recovery ≡ Some v → v.stage ≡ Seals d → AskFits v d
  pub anew : (v : Recovery) (d : List Told) → q.recovery ≡ Some v → v.stage ≡ Seals d → AskFits v (with_asks v.epoch d)
  pub heard : (m : Msg) → In m s.network.sent → m.to ≡ whos.Sequencer q.epoch → m.log ≡ q.log → q.gone ≡ false → (w : Recovery) (d : List Told) → Hearing q (Step.sender_node m.from) m.body w d → AskFits w d
  pub items : (v : Recovery) (g : Storing) → q.recovery ≡ Some v → v.stage ≡ Stores g → (i : ℕ × Planned) → In i g.items → epoch_of i.0 ≡ v.epoch
  pub good : (v : Recovery) (g : Storing) → q.recovery ≡ Some v → v.stage ≡ Stores g → (d : Basis) × In (plan_of q.log v.epoch q.epoch d) made × (g.lng ≡ digest_lng d.digest)

module _ (c : Config) (js : List Joined) (made : List Made) (s : State) (e : Move) (K : (t : List ℕ) (q : Sequencer) → find_named t s.sequencers ≡ Some q → Known c js made s s.register q)
    (later : (l : ℕ) (r : Register) → activate s.register l (Step.spec_set c s l) ≡ record { register = r; answer = Granted } → (x y : ℕ) → 0 < x → x < (epochs_of r l).epoch → In y (nodes_of (looks_at c r l x).spec) → AskGoes c s.register js l y (numbered x 1)) where
  -- the messages of a step, given that its plans end in their epochs
  abbrev pub Posts : Done → List Made → Type 0
  Posts d m = ((l e b : ℕ) (f : Basis) → In (plan_of l e b f) m → plan_end e f.digest ≤ last_esn) → InSent c s.register js (m ++ made) d.sends

  -- a node of the number's epoch; with the plans of the step
  abbrev May : List Made → ℕ → ℕ → ℕ → ℕ → ℕ → Type 0
  May m l b = Goes c s.register js (m ++ made) l b

  abbrev MayAsk : ℕ → ℕ → ℕ → Type 0
  MayAsk l = AskGoes c s.register js l

  no_posts : InSent c s.register js made []
  no_posts m i = absurd i

  same_sequencer : {x y : ℕ} → whos.Sequencer x ≡ whos.Sequencer y → x ≡ y
  same_sequencer z = cc

  posted_to : (u : List Made) (b l : ℕ) (bs : List (ℕ × Body)) → StoresTo (May u l b) (MayAsk l) bs → InSent c s.register js (u ++ made) (posted (whos.Sequencer b) l bs)
  posted_to u b l [] h m i a y f t = absurd i
  posted_to u b l (x ∷ bs) h m (inl q) a y f t = let to : x.0 ≡ y = same_node (sym (ap (λ (z : Msg). z.to) q) ∙ t) in let by : b ≡ a = same_sequencer (sym (ap (λ (z : Msg). z.from) q) ∙ f) in
      subst (λ (z : Msg). MayGo (May u z.log a) (MayAsk z.log) y z.body) (sym q) (subst (λ j. MayGo (May u l j) (MayAsk l) y x.1) by (subst (λ z. MayGo (May u l b) (MayAsk l) z x.1) to (h x (inl refl))))
  posted_to u b l (x ∷ bs) h m (inr i) a y f t = posted_to u b l bs (λ z j. h z (inr j)) m i a y f t

  -- nobody else sends stores
  others : (ms : List Msg) → ((m : Msg) → In m ms → (b : ℕ) → m.from ≡ whos.Sequencer b → ⊥) → InSent c s.register js made ms
  others ms h m i b y f = absurd (h m i b f)

  posted_by : (who : Who) (l : ℕ) (bs : List (ℕ × Body)) → ((b : ℕ) → who ≡ whos.Sequencer b → ⊥) → (m : Msg) → In m (posted who l bs) → (b : ℕ) → m.from ≡ whos.Sequencer b → ⊥
  posted_by who l [] h m i b f = i
  posted_by who l (x ∷ bs) h m (inl q) b f = h b (sym (ap (λ (z : Msg). z.from) q) ∙ f)
  posted_by who l (x ∷ bs) h m (inr i) b f = posted_by who l bs h m i b f

  answer_by : (n : ℕ) (m : Msg) (b : Option Body) → InSent c s.register js made (answer_message n m b)
  answer_by n m None = no_posts
  answer_by n m (Some x) = others (record { from = whos.Node n; to = m.from; log = m.log; body = x } ∷ []) (λ z i b f. elim i [ inl q ↦ (let v : whos.Node n ≡ whos.Sequencer b = sym (ap (λ (u : Msg). u.from) q) ∙ f in cc) | inr j ↦ j ])

  if_written : (t : Kept) (ms : List Msg) → InSent c s.register js made ms → InSent c s.register js made (cond (Step.is_written t) ms [])
  if_written Written ms h = h
  if_written _ ms h = no_posts

  handled : (f : List ℕ) (x : Node) (n : ℕ) (m : Msg) (o : Option Op) (b : Option Body) → Posts (Step.handles (with_node (refreshed s f) n x) n m o b) []
  handled f x n m None b h = answer_by n m b
  handled f x n m (Some o) b h = if_written (keep_end (node_at (with_node (refreshed s f) n x) n) o) (answer_message n m b) (answer_by n m b)

  ticked : (n l : ℕ) (t : Ticked) → Posts (Step.ticks_as c s n l t) []
  ticked n l (Cleans k y) h = if_written (keep_end (node_at s n) (ops.Clean l k y)) [] no_posts
  ticked n l Rebuilt h = if_written (keep_end (node_at s n) (ops.Refilled l)) [] no_posts
  ticked n l (Asks from) h = others _ (posted_by (whos.Node n) l _ (λ b q. cc))
  ticked n l Nothing h = no_posts

  acted_posts : (again : Bool) (f : List ℕ) (name : List ℕ) (q : Sequencer) (call : Called) (m : List Made) → (k : Known c js made s s.register q) → (((l e b : ℕ) (g : Basis) → In (plan_of l e b g) m → plan_end e g.digest ≤ last_esn) → ActsTo (May m q.log q.epoch) (MayAsk q.log) call.acts) → Posts (Step.told (refreshed s f) name q (announced again call)) m
  acted_posts again f name q call m k g h = posted_to m q.epoch q.log _ (sends_to (May m q.log q.epoch) (MayAsk q.log) q (announced again call).acts (again_to (May m q.log q.epoch) (MayAsk q.log) again call (g h)))

  heard_posts : (f : List ℕ) (name : List ℕ) (q : Sequencer) (m : Msg) → In m s.network.sent → m.to ≡ whos.Sequencer q.epoch → m.log ≡ q.log → Live s name q → Posts (Step.acted c (refreshed s f) name q (on_reply (looks_at c s.register q.log) q (Step.sender_node m.from) m.body)) (made_by c s (Some (name, q)) (Step.sender_node m.from) m.body)
  heard_posts f name q m i t l v = let k = K name q v.named in acted_posts false f name q (reply_call c s q (Step.sender_node m.from) m.body) _ k
      (replied c s name q v.there (Step.sender_node m.from) m.body (λ u n. EndsIn c js made s.register q k.own k.spec k.appends k.reached k.specs k.looked k.digests k.items k.good n → ActsTo (May n q.log q.epoch) (MayAsk q.log) u.acts)
      (acting_to c js made s.register q k.own k.spec k.appends k.reached k.specs k.looked k.digests k.items k.good (gone_of s q) (Step.sender_node m.from) m.body (k.heard m i t l v.there)))

  retry_posts : (again : Bool) (name : List ℕ) (q : Sequencer) → Live s name q → Posts (Step.told s name q (announced again (retry_call c s q))) (made_retried c s (Some q))
  retry_posts again name q v = let k = K name q v.named in acted_posts again s.network.fresh name q (retry_call c s q) _ k
      (retried c s q v.there (λ u n. EndsIn c js made s.register q k.own k.spec k.appends k.reached k.specs k.looked k.digests k.items k.good n → ActsTo (May n q.log q.epoch) (MayAsk q.log) u.acts)
      (retrying_to c js made s.register q k.own k.spec k.appends k.reached k.specs k.looked k.digests k.items k.good (gone_of s q) k.anew))

  first_posts : (name : List ℕ) (q : Sequencer) (payload : List ℕ) → Live s name q → InSent c s.register js made (posted (whos.Sequencer q.epoch) q.log (first_stores q payload))
  first_posts name q payload v = let k = K name q v.named in let sm = k.small in let h : epoch_of (numbered q.epoch (next_esn q)) ≡ q.epoch = omega arith in
      posted_to [] q.epoch q.log (first_stores q payload) (each_to (May [] q.log q.epoch) (MayAsk q.log) (bodies.Store (numbered q.epoch (next_esn q)) q.lng (Rec payload)) _ (λ y i.
      (subst (Reached s.register q.log) (sym h) k.own, subst (λ e. InEpoch c s.register js q.log e y) (sym h) (inl (subst (λ (p : Spec). In y (nodes_of p)) k.spec (choice_in q.spec q.lost (numbered q.epoch (next_esn q)) 0 y i))), inl (sym h))))

  trim_posts : (q : Sequencer) (point : ℕ) (ys : List ℕ) → InSent c s.register js made (posted (whos.Sequencer q.epoch) q.log (to_each (bodies.Trim point) ys))
  trim_posts q point ys = posted_to [] q.epoch q.log (to_each (bodies.Trim point) ys) (each_to (May [] q.log q.epoch) (MayAsk q.log) (bodies.Trim point) ys (λ y i. tt))

  pub posts_cases : Cases c s e Posts
  unfolding activated
  posts_cases = record {
    still = λ f older i h. no_posts;
    says = λ x q h. no_posts;
    node_hears = λ f older n m i t v o. handled f (Step.releases (node_at s n) m.log m.body) n m (Step.node_handles n (node_at s n) m).op (Step.node_handles n (node_at s n) m).answer;
    loads = λ n ls q b o h. no_posts;
    draw_fails = λ n b h. no_posts;
    formats = λ n r g b v i h. if_written (keep_end (node_at (with_register (loaded s n) r) n) (ops.Format (generation_of r n) (epochs_in r.logs))) [] no_posts;
    ticks = λ n l t v i o. ticked n l t;
    stops = λ n b h. no_posts;
    wipes = λ n h. no_posts;
    faults = λ n f o h. no_posts;
    sets = λ l r x set i h. no_posts;
    arms = λ k done o h. no_posts;
    hears = λ f older name q m i t l v o. subst (λ p. Posts (Step.acted c (refreshed s f) name q (on_reply (looks_at c s.register q.log) q (Step.sender_node m.from) m.body)) (made_by c s (Some (name, q)) p m.body)) (sym (same_sender m.from)) (heard_posts f name q m i t l v);
    retries = λ again name q v o. retry_posts again name q v;
    appends = λ name q p v a i h. first_posts name q p v;
    trims = λ name q t v b h. trim_posts q t _;
    drops = λ name q v o h. no_posts;
    activates = λ name l r g n i x h. posted_to [] _ l _ (recovers_to (May [] l _) (MayAsk l) (looks_at c r l) (activated (looks_at c r l) (Step.spec_set c s l) l (epochs_of r l).epoch (lce_of r l)) (lce_of r l) (later l r i));
    swaps = λ n m l x r q i h. no_posts;
    activate_fails = λ name l x g q h. no_posts;
    answers = λ f older name d m i t v o h. others _ (posted_by (whos.Reader _) _ _ (λ b q. cc));
    polls = λ name d v o h. others _ (posted_by (whos.Reader _) _ _ (λ b q. cc));
    opens = λ style name l from until o x h. no_posts;
  }
