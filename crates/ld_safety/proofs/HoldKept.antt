-- Each event leaves nodes that hold what they stored before it.
use Rattle.std.proofs.Common.{◌≡◌, ◌∙◌, ◌≤◌, ◌<◌, ℕ, ◌+◌, inl, inr, refl, ap, sym, subst, Bool, true, false, ◌==◌, nat_lt, cond, if◌then◌else◌, List, [], ◌∷◌, ◌++◌, Option, Some, None, arith}
use Rattle.std.proofs.lemmas.Bool.{eqb-true, eq-eqb, ltb-true, cases_order}
use Rattle.std.specs.Ordering.{nat_cmp}
use Rattle.std.specs.BTreeMap.{is_at}
use Rattle.ld_table.specs.Table.{find}
use Rattle.ld_lsn.specs.Number.{epoch_of}
use Rattle.ld_config.specs.declared.config.Config.{Config}
use Rattle.ld_schedule.specs.declared.event.Picture.{Picture}
use Rattle.ld_msg.specs.declared.msg.Entry.{Entry}
use Rattle.ld_msg.specs.declared.msg.Summary.{Summary}
use Rattle.ld_msg.specs.declared.msg.Who.{Who}
use Rattle.ld_msg.specs.declared.msg.Msg.{Msg}
use Rattle.ld_msg.specs.declared.msg.Body.{Body}
use Rattle.ld_msg.specs.declared.msg.Body.TheVariants as bodies
use Rattle.ld_op.specs.declared.op.Op.{Op}
use Rattle.ld_op.specs.declared.op.Op.TheVariants as ops
use Rattle.ld_op.specs.Plain.{Plain, Log, log_of, apply, summary_at, epoch_zero}
use Rattle.ld_op.specs.Answers.{store_decision, digest_decision, taken, on_store, on_digest_ask, on_clean, clean_op, on_trim}
use Rattle.ld_op.specs.Handles.{handled_by, ballot_of}
use Rattle.ld_op.specs.Ticks.{Rebuilt, Nothing, on_tick, tick_with, refill_tick, lowest_unclean, gap_from, missing, on_page, page_op, refill_op, lacking, as_closed}
use Rattle.ld_msg.specs.Register.{Register, Granted, epochs_of, draw}
use Rattle.ld_machine.specs.Disk.{Node, Cut, Fate, Made, FailsAt, CrashesAt, fate, keep_op, kept_by, is_full_for, load, loaded_by, found, is_found, seen_too, Failed, op_calls}
use Rattle.ld_machine.specs.State.{State, node_at}
use Rattle.ld_machine.specs.World.{In}
use Rattle.ld_machine.specs.World as worlds
use Rattle.ld_machine.specs.Step as Step
use Rattle.ld_table.proofs.Laws.{tied}
use Rattle.ld_safety.proofs.Lists.{Some_inj, not_both, cond_both, In-map, In_right}
use Rattle.ld_safety.proofs.Members.{In_filter}
use Rattle.ld_safety.proofs.NodeSteps.{missing_clean, store_decided, ask_decided}
use Rattle.ld_safety.proofs.Protocol.{Ends}
use Rattle.ld_safety.proofs.Said.{Reached, Said, SaidHere}
use Rattle.ld_safety.proofs.Settled.{TrimFine, CloseFine, ShowFine, ReleaseFine, LngFine}
use Rattle.ld_machine.specs.Facts.{Happened}
use Rattle.ld_safety.proofs.CarriedSteps.{Carries}
use Rattle.ld_safety.proofs.Holdings.{KeptBy, Holding, Known, OpFine, op_holds, blank_holds}
use Rattle.ld_safety.proofs.Serving.{CleanAt}
use Rattle.ld_safety.proofs.HoldSteps.{released_parts}
use Rattle.ld_safety.proofs.NodeCases.{NodeKeeps}
use Rattle.ld_safety.proofs.Carried as carried
use Rattle.ld_machine.specs.Calm.{Move}

module _ (made : List worlds.Made) (sent : List Msg) where
  -- both plain states of a node
  abbrev pub CutHolds : ℕ → Option Cut → Type 0
  CutHolds y None = Unit {0}
  CutHolds y (Some k) = Holding made sent y k.plain

  abbrev pub NodeHolds : ℕ → Node → Type 0
  NodeHolds y x = Holding made sent y x.plain × CutHolds y x.cut

  by_fate : (y : ℕ) (x : Node) (o : Op) (f : Fate) → NodeHolds y x → Holding made sent y (apply x.plain o) → NodeHolds y (kept_by x o f)
  by_fate y x o Made h a = (a, h.1)
  by_fate y x o (FailsAt k) h a = (h.0, a)
  by_fate y x o (CrashesAt k p) h a = (h.0, a)

  unless_full : (y : ℕ) (b : Bool) (x z : Node) → NodeHolds y x → NodeHolds y z → NodeHolds y (cond b (record x { status = Failed }) z)
  unless_full y true x z a h = a
  unless_full y false x z a h = h

  pub op_node : (y : ℕ) (x : Node) (o : Op) → NodeHolds y x → Holding made sent y (apply x.plain o) → NodeHolds y (keep_op x o)
  unfolding keep_op
  op_node y x o h a = unless_full y (is_full_for x o) x (kept_by x o (fate (op_calls x o) x.fault)) h (by_fate y x o (fate (op_calls x o) x.fault) h a)

  one_plain : (y : ℕ) (b : Bool) (p q : Plain) → Holding made sent y p → Holding made sent y q → Holding made sent y (cond b p q)
  one_plain y true p q a h = a
  one_plain y false p q a h = h

  found_holds : (y : ℕ) (x : Node) (k : Option Cut) → Holding made sent y x.plain → CutHolds y k → Holding made sent y (found x k)
  found_holds y x None a h = a
  found_holds y x (Some k) a h = one_plain y (is_found k) k.plain x.plain h a

  seen_holds : (y : ℕ) (p : Picture) (k : Option Cut) → CutHolds y k → CutHolds y (seen_too p k)
  seen_holds y p None h = h
  seen_holds y p (Some k) h = h

  load_by : (y : ℕ) (x : Node) (f : Fate) → NodeHolds y x → NodeHolds y (loaded_by x f)
  load_by y x Made h = (found_holds y x x.cut h.0 h.1, tt)
  load_by y x (FailsAt k) h = h
  load_by y x (CrashesAt k p) h = (h.0, seen_holds y p x.cut h.1)

  pub load_node : (y : ℕ) (x : Node) → NodeHolds y x → NodeHolds y (load x)
  unfolding load
  load_node y x h = load_by y x (fate 1 x.fault) h

  pub release_node : (y : ℕ) (x : Node) (l : ℕ) (b : Body) → NodeHolds y x → NodeHolds y (Step.releases x l b)
  release_node y x l (bodies.Release k) h = h
  release_node y x l _ h = h

-- ---- what holds while more plans are made and more epochs closed ----
module _ (made more : List worlds.Made) (sent : List Msg) where
  pub ends_later : (l lo hi n : ℕ) → Ends made l lo hi n → Ends (more ++ made) l lo hi n
  ends_later l lo hi n e = record { ballot = e.ballot; basis = e.basis; planned = In_right _ more made e.planned; above = e.above; below = e.below; before = e.before }

  pub kept_later : (g : Log) (l n b : ℕ) → KeptBy made g l n b → KeptBy (more ++ made) g l n b
  kept_later g l n b (inl h) = inl h
  kept_later g l n b (inr (inl h)) = inr (inl h)
  kept_later g l n b (inr (inr h)) = inr (inr (ends_later l b (g.sealed + 1) n h))

  pub holding_later : (y : ℕ) (p : Plain) → Holding made sent y p → Holding (more ++ made) sent y p
  holding_later y p H = record {
    fine = H.fine;
    retains = λ l n b i. elim (H.retains l n b i) [ inl a ↦ inl a | inr a ↦ inr (kept_later (log_of p l) l n b a) ];
    seals = H.seals;
  }

  cut_later : (y : ℕ) (x : Option Cut) → CutHolds made sent y x → CutHolds (more ++ made) sent y x
  cut_later y None h = tt
  cut_later y (Some x) h = holding_later y x.plain h

  pub node_later : (y : ℕ) (x : Node) → NodeHolds made sent y x → NodeHolds (more ++ made) sent y x
  node_later y x h = (holding_later y x.plain h.0, cut_later y x.cut h.1)

-- ---- an epoch that a tick passed is clean ----
pub gap_in : (e k : ℕ) (ss : List (ℕ × Summary)) → e ≤ k → k < gap_from e ss → (y : Summary) × In (k, y) ss
gap_in e k [] a b = absurd (omega arith)
gap_in e k (s ∷ ss) a b = by_key (s.0 == e) refl b (gap_in (e + 1) k ss) where
  by_key : (t : Bool) → (s.0 == e) ≡ t → k < (if t then gap_from (e + 1) ss else e) → (e + 1 ≤ k → k < gap_from (e + 1) ss → (y : Summary) × In (k, y) ss) → (y : Summary) × In (k, y) (s ∷ ss)
  by_key false q h ih = absurd (omega arith)
  by_key true q h ih = elim (cases_order e k) [
    | inl z ↦ (s.1, inl (λ i. ((sym z ∙ sym (eqb-true _ _ q)) i, s.1)))
    | inr (inl z) ↦ let r = ih (omega arith) h in (r.0, inr r.1)
    | inr (inr z) ↦ absurd (omega arith)
  ]

-- a summary that is there is found
pub found_there : (k : ℕ) (ss : List (ℕ × Summary)) (y : Summary) → In (k, y) ss → (z : Summary) × (find k ss ≡ Some z)
unfolding find
found_there k [] y i = absurd i
found_there k (s ∷ ss) y i = by_key (is_at (nat_cmp k) s.0) refl i (found_there k ss y) where
  by_key : (t : Bool) → is_at (nat_cmp k) s.0 ≡ t → In (k, y) (s ∷ ss) → (In (k, y) ss → (z : Summary) × (find k ss ≡ Some z)) → (z : Summary) × (cond t (Some s.1) (find k ss) ≡ Some z)
  by_key true q j ih = (s.1, refl)
  by_key false q (inl e) ih = absurd (let z : k ≡ s.0 = ap (λ (x : ℕ × Summary). x.0) e in let v : is_at (nat_cmp k) s.0 ≡ true = tied k s.0 ∙ eq-eqb k s.0 z in not_both _ v q)
  by_key false q (inr j) ih = ih j

pub clean_found : (g : Log) (e : ℕ) (y : Summary) → find e g.summaries ≡ Some y → CleanAt g e
unfolding summary_at
clean_found g e y f = cond_both (e == 0) (Some epoch_zero) (find e g.summaries) (λ o. (z : Summary) × (o ≡ Some z)) (λ t. (epoch_zero, refl)) (λ t. (y, f))

-- ---- every event ----

-- the state before, told in the words of after
module _ (c : Config) (s : State) (e : Move) (hs : List Happened) (made : List worlds.Made) (r : Register) (S : Carries c s e (Said hs made r) (TrimFine c hs s.network.sent r) (CloseFine c hs made s.network.sent r) (Reached r) (ShowFine c hs made s.network.sent r) (ReleaseFine c hs s.network.sent r) (SaidHere hs made r) (LngFine c hs s.network.sent r) s)
    (H : (y : ℕ) → NodeHolds made s.network.sent y (node_at s y)) where
  known : Known made s.network.sent r
  known = record { stored = λ l y n b i. (S.sent _ i).0; pages = λ l y b from upto t lng es i. (S.sent _ i).0.0.reached }

  Fine : Plain → Op → Type 0
  Fine p o = OpFine made s.network.sent p o

  -- stores and asks
  store_fine : (p : Plain) (l lng : ℕ) (x : Entry) (o : Op) → Said hs made r l x.ballot x.number x.what → taken (ops.Accept l lng x) (store_decision (log_of p l) x) ≡ Some o → Fine p o
  unfolding Fine
  store_fine p l lng x o d q = store_decided (log_of p l) x (λ k. taken (ops.Accept l lng x) k ≡ Some o → OpFine made s.network.sent p o) (record {
    lost = λ t z. absurd cc;
    clean = λ y t h z. absurd cc;
    trimmed = λ t h z. absurd cc;
    sealed = λ t a h z. absurd cc;
    same = λ t a b h z. absurd cc;
    takes = λ t a b z. subst (OpFine made s.network.sent p) (Some_inj z) (record { served = t; above = a; sealed = b; says = (hs, d.says) });
  }) q

  ask_fine : (p : Plain) (l ballot from : ℕ) (o : Op) → taken (ops.Seal l ballot) (digest_decision (log_of p l) ballot from) ≡ Some o → Fine p o
  unfolding Fine
  ask_fine p l ballot from o q = ask_decided (log_of p l) ballot from (λ k. taken (ops.Seal l ballot) k ≡ Some o → OpFine made s.network.sent p o) (record {
    lost = λ t z. absurd cc;
    clean = λ y t h z. absurd cc;
    sealed = λ t h z. absurd cc;
    same = λ t h z. absurd cc;
    takes = λ t h z. subst (OpFine made s.network.sent p) (Some_inj z) (omega arith);
  }) q

  clean_fine : (p : Plain) (l k : ℕ) (y : Summary) (z : Option Summary) (o : Op) → clean_op l k y z ≡ Some o → Fine p o
  unfolding Fine
  clean_fine p l k y None o q = subst (OpFine made s.network.sent p) (Some_inj q) tt
  clean_fine p l k y (Some z) o q = absurd cc

  if_fine : (p : Plain) (b : Bool) (z : Option Op) (o : Op) → (z ≡ Some o → Fine p o) → (if b then z else None) ≡ Some o → Fine p o
  if_fine p true z o h q = h q
  if_fine p false z o h q = absurd cc

  lacking_clean : (g : Log) (es : List Entry) (x : Entry) → In x (lacking g es) → CleanAt g (epoch_of x.number)
  lacking_clean g es x i = let m = In-map (as_closed g) x _ i in let f = In_filter _ m.0 es m.1 in let z = missing_clean g m.0.number f.1 in
      subst (λ (z : Entry). CleanAt g (epoch_of z.number)) (sym m.2) (clean_found g (epoch_of m.0.number) z.0 z.1)

  refill_fine : (n l : ℕ) (es xs : List Entry) (o : Op) → ((x : Entry) → In x xs → CleanAt (log_of (node_at s n).plain l) (epoch_of x.number)) → refill_op l xs ≡ Some o → Fine (node_at s n).plain o
  unfolding Fine
  refill_fine n l es [] o h q = absurd cc
  refill_fine n l es (x ∷ xs) o h q = subst (OpFine made s.network.sent (node_at s n).plain) (Some_inj q) h

  page_fine : (n l : ℕ) (b : Body) (o : Op) → page_op (log_of (node_at s n).plain l) l b ≡ Some o → Fine (node_at s n).plain o
  unfolding Fine
  page_fine n l (bodies.ReadPage round from upto clean es) o q = if_fine (node_at s n).plain clean (refill_op l (lacking (log_of (node_at s n).plain l) es)) o (refill_fine n l es (lacking (log_of (node_at s n).plain l) es) o (lacking_clean (log_of (node_at s n).plain l) es)) q
  page_fine n l (bodies.ReadTrim round from t) o q = if_fine (node_at s n).plain (nat_lt (log_of (node_at s n).plain l).trim t) (Some (ops.Trim l t)) o (λ z. subst (OpFine made s.network.sent (node_at s n).plain) (Some_inj z) tt) q
  page_fine n l _ o q = absurd cc

  keep_fine : (n l : ℕ) (b : Body) (o : Op) → (on_page (log_of (node_at s n).plain l) l b).op ≡ Some o → Fine (node_at s n).plain o
  unfolding on_page
  keep_fine n l b o q = if_fine (node_at s n).plain (log_of (node_at s n).plain l).lost (page_op (log_of (node_at s n).plain l) l b) o (page_fine n l b o) q

  message_fine : (n self generation l released : ℕ) (from : Who) (b : Body) (o : Op) → carried.BodyOk (Said hs made r) (TrimFine c hs s.network.sent r) (CloseFine c hs made s.network.sent r) (Reached r) (ShowFine c hs made s.network.sent r) (ReleaseFine c hs s.network.sent r) (SaidHere hs made r) (LngFine c hs s.network.sent r) l from b → (handled_by self generation (log_of (node_at s n).plain l) l (ballot_of from) released b).op ≡ Some o → Fine (node_at s n).plain o
  unfolding on_store on_digest_ask on_clean on_trim Fine
  message_fine n self generation l released from (bodies.Store k lng x) o h q = store_fine (node_at s n).plain l lng (record { number = k; ballot = ballot_of from; what = x }) o h.0 q
  message_fine n self generation l released from (bodies.DigestAsk k) o h q = ask_fine (node_at s n).plain l (ballot_of from) k o q
  message_fine n self generation l released from (bodies.Clean k y) o h q = clean_fine (node_at s n).plain l k y _ o q
  message_fine n self generation l released from (bodies.Trim t) o h q = if_fine (node_at s n).plain (nat_lt (log_of (node_at s n).plain l).trim t) (Some (ops.Trim l t)) o (λ z. subst (OpFine made s.network.sent (node_at s n).plain) (Some_inj z) tt) q
  message_fine n self generation l released from (bodies.ReadAsk round k) o h q = absurd cc
  message_fine n self generation l released from (bodies.ReadOne round k set excluded) o h q = absurd cc
  message_fine n self generation l released from b o h q = keep_fine n l b o q

  -- a tick that ends a refill found all epochs up to the lost one clean
  rebuilt_full : (n l : ℕ) → on_tick (log_of (node_at s n).plain l) (epochs_of s.register l).summaries ≡ Rebuilt → (k : ℕ) → 0 < k → k ≤ (log_of (node_at s n).plain l).lost_to → CleanAt (log_of (node_at s n).plain l) k
  unfolding on_tick
  rebuilt_full n l h = by_found (find (lowest_unclean g0) (epochs_of s.register l).summaries) h where
    g0 : Log
    g0 = log_of (node_at s n).plain l

    below : nat_lt (log_of (node_at s n).plain l).lost_to (lowest_unclean (log_of (node_at s n).plain l)) ≡ true → (k : ℕ) → 0 < k → k ≤ (log_of (node_at s n).plain l).lost_to → CleanAt (log_of (node_at s n).plain l) k
    below t k u v = let w = ltb-true _ _ t in let y = gap_in 1 k (log_of (node_at s n).plain l).summaries (omega arith) (omega arith) in let z = found_there k (log_of (node_at s n).plain l).summaries y.0 y.1 in clean_found (log_of (node_at s n).plain l) k z.0 z.1

    by_lost : (b : Bool) (ns : List ℕ) → refill_tick b ns ≡ Rebuilt → b ≡ true
    by_lost true [] z = refl
    by_lost false [] z = absurd cc
    by_lost b (x ∷ ns) z = absurd cc

    by_found : (o : Option Summary) → tick_with (log_of (node_at s n).plain l) o ≡ Rebuilt → (k : ℕ) → 0 < k → k ≤ (log_of (node_at s n).plain l).lost_to → CleanAt (log_of (node_at s n).plain l) k
    by_found (Some z) q = absurd cc
    by_found None q = below (cond_both (log_of (node_at s n).plain l).lost (refill_tick (nat_lt (log_of (node_at s n).plain l).lost_to (lowest_unclean (log_of (node_at s n).plain l))) (missing (log_of (node_at s n).plain l))) Nothing
        (λ t. t ≡ Rebuilt → nat_lt (log_of (node_at s n).plain l).lost_to (lowest_unclean (log_of (node_at s n).plain l)) ≡ true) (λ u v. by_lost _ _ v) (λ u v. absurd cc) q)

  pub holds_keep : ((n : ℕ) (k : Register) → draw s.register n ≡ record { register = k; answer = Granted } → Known made s.network.sent k) → NodeKeeps c s e (NodeHolds made s.network.sent)
  unfolding Fine
  holds_keep D = record {
    all = H;
    hears = λ n m i t v. release_node made s.network.sent n (node_at s n) m.log m.body (H n);
    keeps = λ n m o i t v q. let p = released_parts (node_at s n) m.log m.body in let h = release_node made s.network.sent n (node_at s n) m.log m.body (H n) in
        op_node made s.network.sent n (Step.releases (node_at s n) m.log m.body) o h (op_holds made s.network.sent n (Step.releases (node_at s n) m.log m.body).plain o h.0
        (subst (λ (x : Plain). OpFine made s.network.sent x o) (sym p.0) (message_fine n _ _ m.log _ m.from m.body o (S.sent m i).0 q)));
    loads = λ n. load_node made s.network.sent n (node_at s n) (H n);
    formats = λ n k b w i. let h = load_node made s.network.sent n (node_at s n) (H n) in op_node made s.network.sent n (load (node_at s n)) _ h (op_holds made s.network.sent n (load (node_at s n)).plain _ h.0 (k, refl, D n k i));
    cleans = λ n l k y v h. op_node made s.network.sent n (node_at s n) _ (H n) (op_holds made s.network.sent n (node_at s n).plain (ops.Clean l k y) (H n).0 tt);
    rebuilds = λ n l v h. op_node made s.network.sent n (node_at s n) _ (H n) (op_holds made s.network.sent n (node_at s n).plain (ops.Refilled l) (H n).0 (rebuilt_full n l h));
    stops = λ n. H n;
    wipes = λ n. (blank_holds made s.network.sent n, tt);
    faults = λ n f. H n;
  }
