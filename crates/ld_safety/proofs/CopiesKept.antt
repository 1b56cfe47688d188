-- Each event leaves nodes that have what they settled.
use Rattle.std.proofs.Common.{◌≡◌, ◌∙◌, ◌⊎◌, ◌≤◌, ◌<◌, ℕ, ◌+◌, ◌-◌, inl, inr, refl, ap, sym, subst, Bool, true, false, ◌&&◌, ◌==◌, nat_lt, nat_le, is_none, cond, if◌then◌else◌, filter, flat_map, List, [], ◌∷◌, ◌++◌, Option, Some, None, arith, ltb-false}
use Rattle.ld_safety.proofs.Steps.{sent_by}
use Rattle.ld_safety.proofs.Sent.{SendsFine}
use Rattle.ld_machine.specs.Facts.{Happened}
use Rattle.std.proofs.lemmas.Bool.{and_parts, ltb-true, leb-true, cases_lt, le-leb, cases_eq}
use Rattle.ld_table.specs.Table.{find}
use Rattle.ld_table.specs.Words.{numbers_from}
use Rattle.ld_lsn.specs.Number.{epoch_of, esn_of, numbered}
use Rattle.ld_config.specs.declared.config.Config.{Config}
use Rattle.ld_msg.specs.declared.msg.What.{What}
use Rattle.ld_msg.specs.declared.msg.Entry.{Entry}
use Rattle.ld_msg.specs.declared.msg.Summary.{Summary}
use Rattle.ld_msg.specs.declared.msg.Who.{Who}
use Rattle.ld_msg.specs.declared.msg.Msg.{Msg}
use Rattle.ld_msg.specs.declared.msg.Body.{Body}
use Rattle.ld_msg.specs.declared.msg.Body.TheVariants as bodies
use Rattle.ld_op.specs.declared.op.Op.{Op}
use Rattle.ld_op.specs.declared.op.Op.TheVariants as ops
use Rattle.ld_op.specs.Plain.{Plain, Log, log_of, is_lost, summary_at}
use Rattle.ld_op.specs.Answers.{store_decision, digest_decision, taken, on_store, on_digest_ask, on_clean, clean_op, on_trim}
use Rattle.ld_op.specs.Handles.{handled_by, ballot_of}
use Rattle.ld_op.specs.Ticks.{Cleans, Rebuilt, Nothing, on_tick, tick_with, refill_tick, lowest_unclean, gap_from, missing, missing_of, numbers_of, first_above, on_page, page_op, refill_op, lacking, is_missing, is_below_end, as_closed}
use Rattle.ld_msg.specs.Register.{Register, Granted, epochs_of, draw}
use Rattle.ld_machine.specs.Disk.{Node, load, new_node, Cut}
use Rattle.ld_machine.specs.State.{State, node_at, Done, finish}
use Rattle.ld_machine.specs.World.{Made, In}
use Rattle.ld_machine.specs.Step as Step
use Rattle.ld_safety.proofs.Lists.{Some_inj, not_none, cond_both, In-map}
use Rattle.ld_safety.proofs.Members.{In_filter, find_in, numbers_in}
use Rattle.ld_safety.proofs.NodeSteps.{store_decided, ask_decided}
use Rattle.ld_safety.proofs.NodeCases.{NodeKeeps}
use Rattle.ld_safety.proofs.HoldSteps.{released_parts}
use Rattle.ld_safety.proofs.HoldKept.{clean_found, gap_in, found_there, kept_later}
use Rattle.ld_safety.proofs.Holdings.{LogFine, KeptBy}
use Rattle.ld_safety.proofs.Protocol.{Says, StoredBy, TrimmedBy}
use Rattle.ld_safety.proofs.Cleans.{LogClean, Keyed}
use Rattle.ld_safety.proofs.CleansKept.{AnyReleased, AnyMessage, AnySequencer, AnyReader, AnyRegister, tick_found}
use Rattle.ld_safety.proofs.Copies.{Elsewhere, Copied, CopiesAt, KnownSettled, OpCopies, op_copies, blank_copies}
use Rattle.ld_safety.proofs.Has as has
use Rattle.ld_machine.specs.Calm.{Move}

-- ---- a refill that ends ----
left_nil : {X : Type 0} (xs ys : List X) → xs ++ ys ≡ [] → xs ≡ []
left_nil [] ys h = refl
left_nil (x ∷ xs) ys h = absurd cc

right_nil : {X : Type 0} (xs ys : List X) → xs ++ ys ≡ [] → ys ≡ []
right_nil [] ys h = h
right_nil (x ∷ xs) ys h = absurd cc

none_missing : (g : Log) (ss : List (ℕ × Summary)) (s : ℕ × Summary) → flat_map (missing_of g) ss ≡ [] → In s ss → missing_of g s ≡ []
none_missing g [] s h i = absurd i
none_missing g (x ∷ ss) s h (inl q) = ap (missing_of g) q ∙ left_nil (missing_of g x) (flat_map (missing_of g) ss) h
none_missing g (x ∷ ss) s h (inr i) = none_missing g ss s (right_nil (missing_of g x) (flat_map (missing_of g) ss) h) i

none_passes : (p : ℕ → Bool) (xs : List ℕ) (x : ℕ) → filter p xs ≡ [] → In x xs → p x ≡ false
none_passes p [] x h i = absurd i
none_passes p (y ∷ xs) x h i = by_test (p y) refl h i (none_passes p xs x) where
  by_test : (b : Bool) → p y ≡ b → cond b (y ∷ filter p xs) (filter p xs) ≡ [] → In x (y ∷ xs) → (filter p xs ≡ [] → In x xs → p x ≡ false) → p x ≡ false
  by_test true q g j ih = absurd cc
  by_test false q g (inl e) ih = ap p e ∙ q
  by_test false q g (inr j) ih = ih g j

some_of : {X : Type 0} (o : Option X) → is_none o ≡ false → (x : X) × (o ≡ Some x)
some_of None h = absurd cc
some_of (Some x) h = (x, refl)

-- each number of a clean epoch that was lost has its entry
full_there : (g : Log) (n : ℕ) (y : Summary) → missing g ≡ [] → find (epoch_of n) g.summaries ≡ Some y → epoch_of n ≤ g.lost_to → g.trim < n → 0 < esn_of n → esn_of n < y.end → (f : Entry) × (find n g.entries ≡ Some f)
unfolding missing
full_there g n y h f le tr pos hi =
    let z = none_missing g g.summaries (epoch_of n, y) h (find_in (epoch_of n) g.summaries y f) in
    let k : filter (λ m. is_none (find m g.entries)) (numbers_of g (epoch_of n) y) ≡ [] = sym (ap (λ b. if b then filter (λ m. is_none (find m g.entries)) (numbers_of g (epoch_of n) y) else []) (le-leb (epoch_of n) g.lost_to le)) ∙ z in
    some_of (find n g.entries) (none_passes (λ m. is_none (find m g.entries)) (numbers_of g (epoch_of n) y) n k there) where
      there : In n (numbers_from (numbered (epoch_of n) (first_above (epoch_of n) g.trim)) (y.end - first_above (epoch_of n) g.trim))
      there = cond_both (nat_lt g.trim (numbered (epoch_of n) 1)) 1 (g.trim + 1 - numbered (epoch_of n) 0) (λ x. In n (numbers_from (numbered (epoch_of n) x) (y.end - x)))
          (λ t. numbers_in n _ _ (omega arith) (omega arith)) (λ t. let v = ltb-false _ _ t in numbers_in n _ _ (omega arith) (omega arith))

rebuilt_parts : (g : Log) (closed : List (ℕ × Summary)) → on_tick g closed ≡ Rebuilt → (nat_lt g.lost_to (lowest_unclean g) ≡ true) × (missing g ≡ [])
unfolding on_tick
rebuilt_parts g closed h = by_found (find (lowest_unclean g) closed) h where
  by_lost : (b : Bool) (ns : List ℕ) → refill_tick b ns ≡ Rebuilt → (b ≡ true) × (ns ≡ [])
  by_lost true [] z = (refl, refl)
  by_lost false [] z = absurd cc
  by_lost b (x ∷ ns) z = absurd cc

  by_found : (o : Option Summary) → tick_with g o ≡ Rebuilt → (nat_lt g.lost_to (lowest_unclean g) ≡ true) × (missing g ≡ [])
  by_found (Some z) q = absurd cc
  by_found None q = cond_both g.lost (refill_tick (nat_lt g.lost_to (lowest_unclean g)) (missing g)) Nothing (λ t. t ≡ Rebuilt → (nat_lt g.lost_to (lowest_unclean g) ≡ true) × (missing g ≡ [])) (λ u v. by_lost _ _ v) (λ u v. absurd cc) q

module _ (made : List Made) where
  pub rebuilt_full : (l : ℕ) (g : Log) (closed : List (ℕ × Summary)) → Keyed g → LogClean g → on_tick g closed ≡ Rebuilt → (n b : ℕ) → 0 < esn_of n → is_lost g (epoch_of n) ≡ true → KeptBy made g l n b ⊎ Elsewhere g n b
  rebuilt_full l g closed K C t n b pos h =
      let r = rebuilt_parts g closed t in
      let p = and_parts g.lost (nat_lt 0 (epoch_of n) && nat_le (epoch_of n) g.lost_to) h in
      let q = and_parts (nat_lt 0 (epoch_of n)) (nat_le (epoch_of n) g.lost_to) p.1 in
      let lo = ltb-true _ _ q.0 in let hi = leb-true _ _ q.1 in let w = ltb-true _ _ r.0 in
      let y = gap_in 1 (epoch_of n) g.summaries (omega arith) (omega arith) in
      let z = found_there (epoch_of n) g.summaries y.0 y.1 in
      by_trim z.0 z.1 r.1 hi (cases_lt g.trim n) where
        -- the copy that counts: above what is known good that of the closing ballot, else that of the epoch's own
        by_entry : (y : Summary) → find (epoch_of n) g.summaries ≡ Some y → (e : Entry) → find n g.entries ≡ Some e → KeptBy made g l n b ⊎ Elsewhere g n b
        by_entry y f e i = elim (cases_lt y.lng (esn_of n)) [
          | inl v ↦ elim (cases_eq b y.ballot) [
            | inl s ↦ inl (inr (inl (record { entry = e; found_at = i; least = elim (C.least (n, e) y (find_in n g.entries e i) f) [ inl x ↦ omega arith | inr x ↦ absurd (omega arith) ] })))
            | inr s ↦ inr (y, f, inr (inl (v, s)))
          ]
          | inr v ↦ elim (cases_eq b (epoch_of n)) [
            | inl s ↦ inl (inr (inl (record { entry = e; found_at = i; least = let x = (K.1 (n, e) (find_in n g.entries e i)).1 in omega arith })))
            | inr s ↦ inr (y, f, inl (v, s))
          ]
        ]

        by_trim : (y : Summary) → find (epoch_of n) g.summaries ≡ Some y → missing g ≡ [] → epoch_of n ≤ g.lost_to → (g.trim < n) ⊎ (n ≤ g.trim) → KeptBy made g l n b ⊎ Elsewhere g n b
        by_trim y f m le (inr u) = inl (inl u)
        by_trim y f m le (inl u) = elim (cases_lt (esn_of n) y.end) [
          | inr v ↦ inr (y, f, inr (inr v))
          | inl v ↦ let e = full_there g n y m f le u pos v in by_entry y f e.0 e.1
        ]

-- ---- a message ----
module _ (made : List Made) (sent : List Msg) (p : Plain) (l : ℕ) where
  store_copies : (hs : List Happened) (lng : ℕ) (x : Entry) (o : Op) → Says hs made l x.ballot x.number x.what → taken (ops.Accept l lng x) (store_decision (log_of p l) x) ≡ Some o → OpCopies made sent p o
  store_copies hs lng x o d q = store_decided (log_of p l) x (λ k. taken (ops.Accept l lng x) k ≡ Some o → OpCopies made sent p o) (record {
    lost = λ t z. absurd cc;
    clean = λ y t h z. absurd cc;
    trimmed = λ t h z. absurd cc;
    sealed = λ t a h z. absurd cc;
    same = λ t a b h z. absurd cc;
    takes = λ t a b z. subst (OpCopies made sent p) (Some_inj z) (record { served = t; above = a; sealed = b; says = (hs, d) });
  }) q

  ask_copies : (ballot from : ℕ) (o : Op) → taken (ops.Seal l ballot) (digest_decision (log_of p l) ballot from) ≡ Some o → OpCopies made sent p o
  ask_copies ballot from o q = ask_decided (log_of p l) ballot from (λ k. taken (ops.Seal l ballot) k ≡ Some o → OpCopies made sent p o) (record {
    lost = λ t z. absurd cc;
    clean = λ y t h z. absurd cc;
    sealed = λ t h z. absurd cc;
    same = λ t h z. absurd cc;
    takes = λ t h z. subst (OpCopies made sent p) (Some_inj z) (omega arith);
  }) q

  clean_copies : (k : ℕ) (y : Summary) (z : Option Summary) (o : Op) → summary_at (log_of p l) k ≡ z → clean_op l k y z ≡ Some o → OpCopies made sent p o
  clean_copies k y None o h q = subst (OpCopies made sent p) (Some_inj q) (λ z f. absurd (let v = clean_found (log_of p l) k z f in not_none (sym h ∙ v.1)))
  clean_copies k y (Some z) o h q = absurd cc

  if_copies : (b : Bool) (z : Option Op) (o : Op) → (z ≡ Some o → OpCopies made sent p o) → (if b then z else None) ≡ Some o → OpCopies made sent p o
  if_copies true z o h q = h q
  if_copies false z o h q = absurd cc

  none_there : (o : Option Entry) → is_none o ≡ true → o ≡ None
  none_there None h = refl
  none_there (Some x) h = absurd cc

  missing_none : (k : ℕ) → is_missing (log_of p l) k ≡ true → find k (log_of p l).entries ≡ None
  unfolding is_missing
  missing_none k h = let a = and_parts ((nat_lt (log_of p l).trim k && nat_le (epoch_of k) (log_of p l).lost_to) && is_below_end k (find (epoch_of k) (log_of p l).summaries)) (is_none (find k (log_of p l).entries)) h in none_there (find k (log_of p l).entries) a.1

  lacking_none : (es : List Entry) (x : Entry) → In x (lacking (log_of p l) es) → find x.number (log_of p l).entries ≡ None
  lacking_none es x i = let m = In-map (as_closed (log_of p l)) x _ i in let f = In_filter _ m.0 es m.1 in subst (λ (z : Entry). find z.number (log_of p l).entries ≡ None) (sym m.2) (missing_none m.0.number f.1)

  refill_copies : (xs : List Entry) (o : Op) → ((x : Entry) → In x xs → find x.number (log_of p l).entries ≡ None) → refill_op l xs ≡ Some o → OpCopies made sent p o
  refill_copies [] o h q = absurd cc
  refill_copies (x ∷ xs) o h q = subst (OpCopies made sent p) (Some_inj q) h

  page_copies : (b : Body) (o : Op) → page_op (log_of p l) l b ≡ Some o → OpCopies made sent p o
  page_copies (bodies.ReadPage round from upto clean es) o q = if_copies clean (refill_op l (lacking (log_of p l) es)) o (refill_copies (lacking (log_of p l) es) o (lacking_none es)) q
  page_copies (bodies.ReadTrim round from t) o q = if_copies (nat_lt (log_of p l).trim t) (Some (ops.Trim l t)) o (λ z. subst (OpCopies made sent p) (Some_inj z) tt) q
  page_copies _ o q = absurd cc

  keep_copies : (b : Body) (o : Op) → (on_page (log_of p l) l b).op ≡ Some o → OpCopies made sent p o
  unfolding on_page
  keep_copies b o q = if_copies (log_of p l).lost (page_op (log_of p l) l b) o (page_copies b o) q

  pub message_copies : (hs : List Happened) (self generation released : ℕ) (from : Who) (b : Body) (o : Op) → ((n lng : ℕ) (x : What) → b ≡ bodies.Store n lng x → Says hs made l (ballot_of from) n x) → (handled_by self generation (log_of p l) l (ballot_of from) released b).op ≡ Some o → OpCopies made sent p o
  unfolding on_store on_digest_ask on_clean on_trim
  message_copies hs self generation released from (bodies.Store k lng x) o h q = store_copies hs lng (record { number = k; ballot = ballot_of from; what = x }) o (h k lng x refl) q
  message_copies hs self generation released from (bodies.DigestAsk k) o h q = ask_copies (ballot_of from) k o q
  message_copies hs self generation released from (bodies.Clean k y) o h q = clean_copies k y _ o refl q
  message_copies hs self generation released from (bodies.Trim t) o h q = if_copies (nat_lt (log_of p l).trim t) (Some (ops.Trim l t)) o (λ z. subst (OpCopies made sent p) (Some_inj z) tt) q
  message_copies hs self generation released from (bodies.ReadAsk round k) o h q = absurd cc
  message_copies hs self generation released from (bodies.ReadOne round k set excluded) o h q = absurd cc
  message_copies hs self generation released from b o h q = keep_copies b o q

-- ---- every event ----
abbrev pub NodeCopies : List Made → List Msg → ℕ → Node → Type 0
NodeCopies made sent y x = has.NodeHas (λ y p. CopiesAt made sent y p) AnyReleased AnyMessage AnySequencer AnyReader AnyRegister y x

gap_low : (e : ℕ) (ss : List (ℕ × Summary)) → e ≤ gap_from e ss
gap_low e [] = omega arith
gap_low e (s ∷ ss) = let ih = gap_low (e + 1) ss in cond_both (s.0 == e) (gap_from (e + 1) ss) e (λ x. e ≤ x) (λ t. omega arith) (λ t. omega arith)

tick_low : (g : Log) (closed : List (ℕ × Summary)) (k : ℕ) (y : Summary) → on_tick g closed ≡ Cleans k y → 0 < k
unfolding on_tick
tick_low g closed k y h = by_found (find (lowest_unclean g) closed) h where
  by_missing : (b : Bool) (ns : List ℕ) → refill_tick b ns ≡ Cleans k y → ⊥
  by_missing true [] z = cc
  by_missing false [] z = cc
  by_missing b (x ∷ ns) z = cc

  by_found : (o : Option Summary) → tick_with g o ≡ Cleans k y → 0 < k
  by_found None q = absurd (cond_both g.lost (refill_tick (nat_lt g.lost_to (lowest_unclean g)) (missing g)) Nothing (λ t. t ≡ Cleans k y → ⊥) (λ u z. by_missing _ _ z) (λ u z. cc) q)
  by_found (Some z) q = let a : lowest_unclean g ≡ k = cc in let b = gap_low 1 g.summaries in omega arith

module _ (c : Config) (s : State) (e : Move) (hs : List Happened) (made : List Made) (H : (y : ℕ) → NodeCopies made s.network.sent y (node_at s y))
    (F : (y l : ℕ) → LogFine (log_of (node_at s y).plain l)) (L : (y l : ℕ) → LogFine (log_of (load (node_at s y)).plain l)) (K : (y l : ℕ) → Keyed (log_of (node_at s y).plain l)) (C : (y l : ℕ) → LogClean (log_of (node_at s y).plain l))
    (says : (m : Msg) (n lng : ℕ) (x : What) → In m s.network.sent → m.body ≡ bodies.Store n lng x → Says hs made m.log (ballot_of m.from) n x)
    (same : (n l k : ℕ) (y z : Summary) → 0 < k → find k (epochs_of s.register l).summaries ≡ Some y → find k (log_of (node_at s n).plain l).summaries ≡ Some z → z ≡ y)
    (known : (n : ℕ) (k : Register) → draw s.register n ≡ record { register = k; answer = Granted } → KnownSettled made s.network.sent k) where
  any : (y l : ℕ) → AnyReleased y l 0
  any y l = tt

  loaded : (n : ℕ) → NodeCopies made s.network.sent n (load (node_at s n))
  loaded n = has.load_has _ _ _ _ _ _ any n (node_at s n) (H n)

  released : (n l : ℕ) (b : Body) → NodeCopies made s.network.sent n (Step.releases (node_at s n) l b)
  released n l b = has.release_has _ _ _ _ _ _ n (node_at s n) l b (H n) (λ r q. tt)

  pub copies_keep : NodeKeeps c s e (NodeCopies made s.network.sent)
  copies_keep = record {
    all = H;
    hears = λ n m i t v. released n m.log m.body;
    keeps = λ n m o i t v q. let p = released_parts (node_at s n) m.log m.body in
        has.op_has _ _ _ _ _ _ n (Step.releases (node_at s n) m.log m.body) o (released n m.log m.body)
        (op_copies made s.network.sent n (Step.releases (node_at s n) m.log m.body).plain o (λ l. subst (λ (x : Plain). LogFine (log_of x l)) (sym p.0) (F n l)) (released n m.log m.body).plain
        (subst (λ (x : Plain). OpCopies made s.network.sent x o) (sym p.0) (message_copies made s.network.sent (node_at s n).plain m.log hs _ _ _ m.from m.body o (λ k lng x h. says m k lng x i h) q)));
    loads = loaded;
    formats = λ n k b w i. has.op_has _ _ _ _ _ _ n (load (node_at s n)) _ (loaded n) (op_copies made s.network.sent n (load (node_at s n)).plain _ (L n) (loaded n).plain (k, refl, known n k i));
    cleans = λ n l k y v h. has.op_has _ _ _ _ _ _ n (node_at s n) _ (H n) (op_copies made s.network.sent n (node_at s n).plain (ops.Clean l k y) (F n) (H n).plain
        (λ z f. same n l k y z (tick_low (log_of (node_at s n).plain l) (epochs_of s.register l).summaries k y h) (tick_found (log_of (node_at s n).plain l) (epochs_of s.register l).summaries k y h) f));
    rebuilds = λ n l v h. has.op_has _ _ _ _ _ _ n (node_at s n) _ (H n) (op_copies made s.network.sent n (node_at s n).plain (ops.Refilled l) (F n) (H n).plain (rebuilt_full made l (log_of (node_at s n).plain l) (epochs_of s.register l).summaries (K n l) (C n l) h));
    stops = λ n. let h = H n in record { plain = h.plain; cut = h.cut; released = h.released };
    wipes = λ n. has.new_has _ _ _ _ _ _ any n (blank_copies made s.network.sent n);
    faults = λ n f. let h = H n in record { plain = h.plain; cut = h.cut; released = h.released };
  }

pub start_copies : (y : ℕ) → NodeCopies [] [] y new_node
start_copies y = has.new_has _ _ _ _ _ _ (λ y l. tt) y (blank_copies [] [] y)

-- ---- while more plans are made and messages sent ----
module _ (made more : List Made) (sent : List Msg) where
  copied_later : (y : ℕ) (p : Plain) → CopiesAt made sent y p → CopiesAt (more ++ made) sent y p
  copied_later y p H l n b pos i = elim (H l n b pos i) [
    | inl z ↦ inl z
    | inr (inl z) ↦ inr (inl z)
    | inr (inr (inl z)) ↦ inr (inr (inl (kept_later made more sent (log_of p l) l n b z)))
    | inr (inr (inr z)) ↦ inr (inr (inr z))
  ]

  cut_copied_later : (y : ℕ) (x : Option Cut) → has.CutHas (λ y p. CopiesAt made sent y p) AnyReleased AnyMessage AnySequencer AnyReader AnyRegister y x → has.CutHas (λ y p. CopiesAt (more ++ made) sent y p) AnyReleased AnyMessage AnySequencer AnyReader AnyRegister y x
  cut_copied_later y None h = tt
  cut_copied_later y (Some k) h = copied_later y k.plain h

  pub copies_later : (y : ℕ) (x : Node) → NodeCopies made sent y x → NodeCopies (more ++ made) sent y x
  copies_later y x h = record { plain = copied_later y x.plain h.plain; cut = cut_copied_later y x.cut h.cut; released = λ l. tt }

module _ (made : List Made) (sent : List Msg) (d : Done) (F : SendsFine d.state d.sends) (Q : d.state.network.sent ≡ sent) (H : (y : ℕ) → NodeCopies made sent y (node_at d.state y)) where
  old_or_new : (m : Msg) → In m (finish d).state.network.sent → In m sent ⊎ In m d.sends
  old_or_new m i = elim (sent_by d m i) [ inl a ↦ inl (subst (λ (z : List Msg). In m z) Q a) | inr a ↦ inr a ]

  -- a node that settles now
  now_or : (l y n b : ℕ) → StoredBy (finish d).state.network.sent l y n b ⊎ TrimmedBy (finish d).state.network.sent l y n b
      → (StoredBy sent l y n b ⊎ TrimmedBy sent l y n b) ⊎ (((node_at d.state y).cut ≡ None) × Copied made l (log_of (node_at d.state y).plain l) n b)
  now_or l y n b (inl i) = elim (old_or_new _ i) [ inl a ↦ inl (inl a) | inr a ↦ let z = F.stored l y n b a in inr (z.0.whole, inr (inl (inr (inl z.1.held)))) ]
  now_or l y n b (inr t) = elim (old_or_new _ t.told_so) [
    | inl a ↦ inl (inr (record { asked = t.asked; trim = t.trim; epoch = t.epoch; covers = t.covers; told_so = a }))
    | inr a ↦ let z = F.trimmed l y t.asked t.trim b a in let u = z.1 in let v = t.covers in inr (z.0.whole, inr (inl (inl (omega arith))))
  ]

  plain_copied : (y : ℕ) → CopiesAt made (finish d).state.network.sent y (node_at d.state y).plain
  plain_copied y l n b pos i = elim (now_or l y n b i) [ inl a ↦ (H y).plain l n b pos a | inr a ↦ inr a.1 ]

  cut_copied : (y : ℕ) (o : Option Cut) → (node_at d.state y).cut ≡ o → has.CutHas (λ y p. CopiesAt made sent y p) AnyReleased AnyMessage AnySequencer AnyReader AnyRegister y o → has.CutHas (λ y p. CopiesAt made (finish d).state.network.sent y p) AnyReleased AnyMessage AnySequencer AnyReader AnyRegister y o
  cut_copied y None q h = tt
  cut_copied y (Some k) q h = λ l n b pos i. elim (now_or l y n b i) [ inl a ↦ h l n b pos a | inr a ↦ absurd (not_none (sym a.0 ∙ q)) ]

  pub copies_sent : (y : ℕ) → NodeCopies made (finish d).state.network.sent y (node_at d.state y)
  copies_sent y = record { plain = plain_copied y; cut = cut_copied y (node_at d.state y).cut refl (H y).cut; released = λ l. tt }
