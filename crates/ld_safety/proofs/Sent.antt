-- After each event the nodes hold what they stored up to then, and pages show what their nodes had stored before.
use Rattle.std.proofs.Common.{◌≡◌, ◌∙◌, ◌⊎◌, ◌≤◌, ◌<◌, ℕ, ◌+◌, inl, inr, refl, ap, sym, subst, cond, List, [], ◌∷◌, Option, Some, None, arith}
use Rattle.std.specs.Option.{unwrap_or}
use Rattle.ld_table.proofs.Laws.{find-put_same}
use Rattle.ld_lsn.specs.Number.{epoch_of}
use Rattle.ld_config.specs.declared.config.Config.{Config}
use Rattle.ld_msg.specs.declared.msg.Entry.{Entry}
use Rattle.ld_msg.specs.declared.msg.Who.{Who}
use Rattle.ld_msg.specs.declared.msg.Who.TheVariants as whos
use Rattle.ld_msg.specs.declared.msg.Msg.{Msg}
use Rattle.ld_msg.specs.declared.msg.Body.{Body}
use Rattle.ld_msg.specs.declared.msg.Body.TheVariants as bodies
use Rattle.ld_op.specs.declared.op.Op.{Op}
use Rattle.ld_op.specs.declared.op.Op.TheVariants as ops
use Rattle.ld_op.specs.Plain.{Plain, log_of, apply}
use Rattle.ld_op.specs.Handles.{answer_message, ballot_of}
use Rattle.ld_op.specs.Ticks.{Ticked, Cleans, Rebuilt, Asks, Nothing}
use Rattle.ld_msg.specs.Register.{Register, epochs_in, generation_of}
use Rattle.ld_machine.specs.Disk.{Node, Cut, keep_op, keep_end, Kept, Written, DiskFailed, Crashed, JournalFull, new_node}
use Rattle.ld_machine.specs.State.{State, Done, finish, node_at, with_node, with_register, posted}
use Rattle.ld_machine.specs.World.{In, from_node}
use Rattle.ld_machine.specs.World as worlds
use Rattle.ld_machine.specs.Facts.{Happened}
use Rattle.ld_machine.specs.Step as Step
use Rattle.ld_safety.proofs.Lists.{not_none}
use Rattle.ld_safety.proofs.Members.{find_in}
use Rattle.ld_safety.proofs.Steps.{sent_by}
use Rattle.ld_safety.proofs.Events.{NamesOnce, Cases, dispatch, Serves, refreshed, loaded}
use Rattle.ld_safety.proofs.HoldSteps.{UpFine, released_parts, same_generation, handled_plain}
use Rattle.ld_safety.proofs.Carried as carried
use Rattle.ld_safety.proofs.Protocol.{StoredBy}
use Rattle.ld_safety.proofs.Protocol as protocol
use Rattle.ld_safety.proofs.Said.{Reached, Said, SaidHere}
use Rattle.ld_safety.proofs.Settled.{TrimFine, CloseFine, ShowFine, ReleaseFine, LngFine}
use Rattle.ld_safety.proofs.Holdings.{Holding}
use Rattle.ld_safety.proofs.Serving.{Unserved, not_served}
use Rattle.ld_safety.proofs.NodeSteps.{Served}
use Rattle.ld_safety.proofs.HoldKept.{NodeHolds, CutHolds}
use Rattle.ld_safety.proofs.CarriedSteps.{Carries}
use Rattle.ld_safety.proofs.Sends.{StoredIn, PageIn, after, Answered, answered_in, written}
use Rattle.ld_machine.specs.Calm as Calm
use Rattle.ld_machine.specs.Calm.{Move}

-- what a message says of the one plain state of its node
pub record Allowed (x : Node) : Type 0 where
  pub whole : x.cut ≡ None
  pub formatted : 0 < x.plain.generation

pub record SendsFine (t : State) (ms : List Msg) : Type 0 where
  pub stored : (l y n b : ℕ) → In (from_node l y b (bodies.Stored n)) ms → Allowed (node_at t y) × StoredIn (node_at t y).plain l n b
  pub pages : (l y b from upto trim lng : ℕ) (es : List Entry) → In (from_node l y b (bodies.DigestPage from upto trim lng es)) ms → Allowed (node_at t y) × PageIn (node_at t y).plain l b from upto trim lng es
  pub trimmed : (l y n trim b : ℕ) → In (from_node l y b (bodies.TrimmedHere n trim)) ms → Allowed (node_at t y) × (trim ≤ (log_of (node_at t y).plain l).trim)
  pub alone : (l y n b m z a from upto trim lng : ℕ) (es : List Entry) → In (from_node l y b (bodies.Stored n)) ms → In (from_node m z a (bodies.DigestPage from upto trim lng es)) ms → ⊥

-- messages to nodes are neither
pub to_nodes : (who : Who) (l : ℕ) (bs : List (ℕ × Body)) (m : Msg) (b : ℕ) → In m (posted who l bs) → m.to ≡ whos.Sequencer b → ⊥
to_nodes who l [] m b i q = i
to_nodes who l (x ∷ bs) m b (inl e) q = let z : whos.Node x.0 ≡ whos.Sequencer b = sym (ap (λ (k : Msg). k.to) e) ∙ q in cc
to_nodes who l (x ∷ bs) m b (inr i) q = to_nodes who l bs m b i q

posted_fine : (t : State) (who : Who) (l : ℕ) (bs : List (ℕ × Body)) → SendsFine t (posted who l bs)
posted_fine t who l bs = record {
  stored = λ k y n b i. absurd (to_nodes who l bs _ b i refl);
  pages = λ k y b from upto trim lng es i. absurd (to_nodes who l bs _ b i refl);
  trimmed = λ k y n trim b i. absurd (to_nodes who l bs _ b i refl);
  alone = λ k y n b m z a from upto trim lng es i j. to_nodes who l bs _ b i refl;
}

none_fine : (t : State) → SendsFine t []
none_fine t = record { stored = λ l y n b i. absurd i; pages = λ l y b from upto trim lng es i. absurd i; trimmed = λ l y n trim b i. absurd i; alone = λ l y n b m z a from upto trim lng es i j. i }

-- one answer of a node
record Answer (n : ℕ) (m : Msg) (x : Body) (l y b : ℕ) (z : Body) : Type 0 where
  node : y ≡ n
  log : l ≡ m.log
  to : whos.Sequencer b ≡ m.from
  body : z ≡ x

answer_is : (n : ℕ) (m : Msg) (x : Body) (l y b : ℕ) (z : Body) → In (from_node l y b z) (record { from = whos.Node n; to = m.from; log = m.log; body = x } ∷ []) → Answer n m x l y b z
answer_is n m x l y b z (inl e) = record { node = (let q : whos.Node y ≡ whos.Node n = ap (λ (k : Msg). k.from) e in cc); log = ap (λ (k : Msg). k.log) e; to = ap (λ (k : Msg). k.to) e; body = ap (λ (k : Msg). k.body) e }
answer_is n m x l y b z (inr i) = absurd i

answer_fine : (t : State) (n : ℕ) (m : Msg) (x : Body) → Allowed (node_at t n) → Answered (node_at t n).plain m.log (ballot_of m.from) x → SendsFine t (record { from = whos.Node n; to = m.from; log = m.log; body = x } ∷ [])
answer_fine t n m x a h = record {
  stored = λ l y k b i. (let q = answer_is n m x l y b (bodies.Stored k) i in
      subst (λ z. Allowed (node_at t z) × StoredIn (node_at t z).plain l k b) (sym q.node) (a, subst (λ z. StoredIn (node_at t n).plain z k b) (sym q.log) (subst (λ z. StoredIn (node_at t n).plain m.log k z) (ap ballot_of (sym q.to)) (h.stored k (sym q.body)))));
  pages = λ l y b from upto trim lng es i. (let q = answer_is n m x l y b (bodies.DigestPage from upto trim lng es) i in
      subst (λ z. Allowed (node_at t z) × PageIn (node_at t z).plain l b from upto trim lng es) (sym q.node) (a, subst (λ z. PageIn (node_at t n).plain z b from upto trim lng es) (sym q.log) (subst (λ z. PageIn (node_at t n).plain m.log z from upto trim lng es) (ap ballot_of (sym q.to)) (h.page from upto trim lng es (sym q.body)))));
  trimmed = λ l y k trim b i. (let q = answer_is n m x l y b (bodies.TrimmedHere k trim) i in subst (λ z. Allowed (node_at t z) × (trim ≤ (log_of (node_at t z).plain l).trim)) (sym q.node) (a, subst (λ z. trim ≤ (log_of (node_at t n).plain z).trim) (sym q.log) (h.trimmed k trim (sym q.body))));
  alone = λ l y k b j z a from upto trim lng es i u. (let q = answer_is n m x l y b (bodies.Stored k) i in let v = answer_is n m x j z a (bodies.DigestPage from upto trim lng es) u in
      let e : bodies.Stored k ≡ bodies.DigestPage from upto trim lng es = q.body ∙ sym v.body in cc);
}

answers_fine : (t : State) (n : ℕ) (m : Msg) (o : Option Body) → Allowed (node_at t n) → ((x : Body) → o ≡ Some x → Answered (node_at t n).plain m.log (ballot_of m.from) x) → SendsFine t (answer_message n m o)
answers_fine t n m None a h = none_fine t
answers_fine t n m (Some x) a h = answer_fine t n m x a (h x refl)

if_written : (t : State) (k : Kept) (ms : List Msg) → (k ≡ Written → SendsFine t ms) → SendsFine t (cond (Step.is_written k) ms [])
if_written t Written ms h = h refl
if_written t DiskFailed ms h = none_fine t
if_written t Crashed ms h = none_fine t
if_written t JournalFull ms h = none_fine t

node_here : (t : State) (n : ℕ) (x : Node) → node_at (with_node t n x) n ≡ x
node_here t n x = ap (λ (o : Option Node). unwrap_or o new_node) (find-put_same n n x t.nodes refl)

module _ (c : Config) (s : State) (e : Move) (hs : List Happened) (made : List worlds.Made) (r : Register) (S : Carries c s e (Said hs made r) (TrimFine c hs s.network.sent r) (CloseFine c hs made s.network.sent r) (Reached r) (ShowFine c hs made s.network.sent r) (ReleaseFine c hs s.network.sent r) (SaidHere hs made r) (LngFine c hs s.network.sent r) s)
    (H : (y : ℕ) → NodeHolds made s.network.sent y (node_at s y)) (U : (y : ℕ) → UpFine (node_at s y)) where
  Result : Done → Type 0
  Result d = SendsFine d.state d.sends

  -- the state after a message and the answer
  heard_by : (f : List ℕ) (n : ℕ) (m : Msg) (x : Node) (o : Option Op) (b : Option Body) → (x.cut ≡ None) × (0 < x.plain.generation) → ((p : Op) → o ≡ Some p → 0 < (apply x.plain p).generation)
      → ((z : Body) → b ≡ Some z → Answered (after x.plain o) m.log (ballot_of m.from) z) → SendsFine (Step.handles (with_node (refreshed s f) n x) n m o b).state (Step.handles (with_node (refreshed s f) n x) n m o b).sends
  heard_by f n m x None b u g h = let q = node_here (refreshed s f) n x in
      answers_fine (with_node (refreshed s f) n x) n m b (subst Allowed (sym q) (record { whole = u.0; formatted = u.1 })) (λ z i. subst (λ (k : Node). Answered k.plain m.log (ballot_of m.from) z) (sym q) (h z i))
  heard_by f n m x (Some o) b u g h =
      let t : State = with_node (refreshed s f) n x in
      let q : node_at t n ≡ x = node_here (refreshed s f) n x in
      let v : State = with_node t n (keep_op (node_at t n) o) in
      let k : node_at v n ≡ keep_op x o = node_here t n (keep_op (node_at t n) o) ∙ ap (λ z. keep_op z o) q in
      if_written v (keep_end (node_at t n) o) (answer_message n m b) (λ w. let j = written x o (ap (λ z. keep_end z o) (sym q) ∙ w) in
      answers_fine v n m b
      (subst Allowed (sym k) (record { whole = j.1 ∙ u.0; formatted = subst (λ (p : Plain). 0 < p.generation) (sym j.0) (g o refl) }))
      (λ z i. subst (λ (y : Node). Answered y.plain m.log (ballot_of m.from) z) (sym k) (subst (λ p. Answered p m.log (ballot_of m.from) z) (sym j.0) (h z i))))

  node_message : (f : List ℕ) (n : ℕ) (m : Msg) → In m s.network.sent → Serves c s n m.log → Result (Step.to_up_node (refreshed s f) n m)
  unfolding Result
  node_message f n m i v =
      let x : Node = node_at s n in
      let k : Node = Step.releases x m.log m.body in
      let p = released_parts x m.log m.body in
      let u = U n v.up in
      let h = Step.node_handles n x m in
      let q : k.plain ≡ x.plain = p.0 in
      heard_by f n m k h.op h.answer (p.1 ∙ u.0, let z = u.1 in let w = ap (λ (y : Plain). y.generation) q in omega arith)
      (λ o j. let z = u.1 in let g = same_generation k.plain o (handled_plain _ _ _ _ _ _ m.body o j) in let w = ap (λ (y : Plain). y.generation) q in omega arith)
      (λ z j. subst (λ y. Answered (after y h.op) m.log (ballot_of m.from) z) (sym q)
      (answered_in x.plain n x.plain.generation m.log (ballot_of m.from) (Step.released_at x m.log) m.body z ((H n).0.fine m.log) (λ from g. (subst (carried.BodyOk (Said hs made r) (TrimFine c hs s.network.sent r) (CloseFine c hs made s.network.sent r) (Reached r) (ShowFine c hs made s.network.sent r) (ReleaseFine c hs s.network.sent r) (SaidHere hs made r) (LngFine c hs s.network.sent r) m.log m.from) g (S.sent m i).0).0) j))

  empty_if : (n : ℕ) (t : State) (k : Kept) → SendsFine t (cond (Step.is_written k) [] [])
  empty_if n t k = if_written t k [] (λ w. none_fine t)

  ticked : (n l : ℕ) (t : Ticked) → Result (Step.ticks_as c s n l t)
  unfolding Result
  ticked n l (Cleans k y) = empty_if n _ (keep_end (node_at s n) (ops.Clean l k y))
  ticked n l Rebuilt = empty_if n _ (keep_end (node_at s n) (ops.Refilled l))
  ticked n l (Asks from) = posted_fine _ (whos.Node n) l _
  ticked n l Nothing = none_fine s

  pub sends_cases : Cases c s e (λ d m. SendsFine d.state d.sends)
  unfolding Result
  sends_cases = record {
    still = λ f older i. none_fine _;
    says = λ x q. none_fine _;
    node_hears = λ f older n m i t v o. node_message f n m i v;
    loads = λ n ls q b o. none_fine _;
    draw_fails = λ n b. none_fine _;
    formats = λ n k g b v i. empty_if n _ (keep_end (node_at (with_register (loaded s n) k) n) (ops.Format (generation_of k n) (epochs_in k.logs)));
    ticks = λ n l t v i o. ticked n l t;
    stops = λ n b. none_fine _;
    wipes = λ n. none_fine _;
    faults = λ n f o. none_fine _;
    sets = λ l r x set h. none_fine _;
    arms = λ k done o. none_fine _;
    hears = λ f older name q m i t l v o. posted_fine _ (whos.Sequencer q.epoch) q.log _;
    retries = λ again name q v o. posted_fine _ (whos.Sequencer q.epoch) q.log _;
    appends = λ name q p v a i. posted_fine _ (whos.Sequencer q.epoch) q.log _;
    trims = λ name q t v b. posted_fine _ (whos.Sequencer q.epoch) q.log _;
    drops = λ name q v o. none_fine _;
    activates = λ name l k g n i x. posted_fine _ (whos.Sequencer _) l _;
    swaps = λ n m l x r q i. none_fine _;
    activate_fails = λ name l x g q. none_fine _;
    answers = λ f older name d m i t v o. posted_fine _ (whos.Reader _) _ _;
    polls = λ name d v o. posted_fine _ (whos.Reader d.number) d.log _;
    opens = λ style name l from until o x. none_fine _;
  }

-- no event takes a message away or puts one in otherwise
network_by : (c : Config) (s : State) (e : Move) → Cases c s e (λ d m. d.state.network.sent ≡ s.network.sent)
network_by c s e = record {
  still = λ f older i. refl;
  says = λ x q. refl;
  node_hears = λ f older n m i t v o. handled f n m (Step.node_handles n (node_at s n) m).op (Step.node_handles n (node_at s n) m).answer;
  loads = λ n ls q b o. refl;
  draw_fails = λ n b. refl;
  formats = λ n r g b v i. refl;
  ticks = λ n l t v i o. ticked n l t;
  stops = λ n b. refl;
  wipes = λ n. refl;
  faults = λ n f o. refl;
  sets = λ l r x set h. refl;
  arms = λ k done o. refl;
  hears = λ f older name q m i t l v o. refl;
  retries = λ again name q v o. refl;
  appends = λ name q p v a i. refl;
  trims = λ name q t v b. refl;
  drops = λ name q v o. refl;
  activates = λ name l r g n i x. refl;
  swaps = λ n m l x r q i. refl;
  activate_fails = λ name l x g q. refl;
  answers = λ f older name d m i t v o. refl;
  polls = λ name d v o. refl;
  opens = λ style name l from until o x. refl;
} where
  handled : (f : List ℕ) (n : ℕ) (m : Msg) (o : Option Op) (b : Option Body) → (Step.handles (with_node (refreshed s f) n (Step.releases (node_at s n) m.log m.body)) n m o b).state.network.sent ≡ s.network.sent
  handled f n m None b = refl
  handled f n m (Some o) b = refl

  ticked : (n l : ℕ) (t : Ticked) → (Step.ticks_as c s n l t).state.network.sent ≡ s.network.sent
  ticked n l (Cleans k y) = refl
  ticked n l Rebuilt = refl
  ticked n l (Asks from) = refl
  ticked n l Nothing = refl

pub network_same : (c : Config) (s : State) (e : Move) → NamesOnce s → (Calm.moves c s e).state.network.sent ≡ s.network.sent
network_same c s e N = dispatch c s e (λ d m. d.state.network.sent ≡ s.network.sent) N (network_by c s e)

-- ---- the messages are sent ----

-- pages show what their nodes had stored before for lesser ballots
abbrev pub ShowsAll : List worlds.Made → List Msg → Type 0
ShowsAll made sent = (l y b from upto t lng : ℕ) (es : List Entry) (n a : ℕ) → In (from_node l y b (bodies.DigestPage from upto t lng es)) sent → StoredBy sent l y n a → epoch_of n ≡ epoch_of from → from ≤ n → n ≤ upto → a < b → protocol.Kept made l (b + 1) t es n a

-- entries of pages are of the page's epoch and at most of its ballot
abbrev pub PagesBounded : List Msg → Type 0
PagesBounded sent = (l y b from upto t lng : ℕ) (es : List Entry) (f : Entry) → In (from_node l y b (bodies.DigestPage from upto t lng es)) sent → In f es → (f.ballot ≤ b) × (epoch_of f.number ≡ epoch_of from)

module _ (made : List worlds.Made) (sent : List Msg) (d : Done) (F : SendsFine d.state d.sends) (Q : d.state.network.sent ≡ sent) (H : (y : ℕ) → NodeHolds made sent y (node_at d.state y)) where
  sent_or : (m : Msg) → In m (finish d).state.network.sent → In m sent ⊎ In m d.sends
  sent_or m i = elim (sent_by d m i) [ inl a ↦ inl (subst (λ (z : List Msg). In m z) Q a) | inr a ↦ inr a ]

  plain_sent : (y : ℕ) → Holding made (finish d).state.network.sent y (node_at d.state y).plain
  plain_sent y = let h = (H y).0 in record {
    fine = h.fine;
    retains = λ l n b i. elim (sent_or _ i) [ inl a ↦ h.retains l n b a | inr a ↦ inr (inr (inl (F.stored l y n b a).1.held)) ];
    seals = λ l b from upto t lng es i. elim (sent_or _ i) [ inl a ↦ h.seals l b from upto t lng es a | inr a ↦ inr (let z = (F.pages l y b from upto t lng es a).1.sealed in omega arith) ];
  }

  cut_sent : (y : ℕ) (o : Option Cut) → (node_at d.state y).cut ≡ o → CutHolds made sent y o → CutHolds made (finish d).state.network.sent y o
  cut_sent y None q h = tt
  cut_sent y (Some k) q h = record {
    fine = h.fine;
    retains = λ l n b i. elim (sent_or _ i) [ inl a ↦ h.retains l n b a | inr a ↦ absurd (not_none (sym (F.stored l y n b a).0.whole ∙ q)) ];
    seals = λ l b from upto t lng es i. elim (sent_or _ i) [ inl a ↦ h.seals l b from upto t lng es a | inr a ↦ absurd (not_none (sym (F.pages l y b from upto t lng es a).0.whole ∙ q)) ];
  }

  pub holds_sent : (y : ℕ) → NodeHolds made (finish d).state.network.sent y (node_at d.state y)
  holds_sent y = (plain_sent y, cut_sent y (node_at d.state y).cut refl (H y).1)

  -- a node that answers has shown no page to a greater ballot
  pub no_page : (l y n a b from upto t lng : ℕ) (es : List Entry) → In (from_node l y b (bodies.DigestPage from upto t lng es)) sent → In (from_node l y a (bodies.Stored n)) d.sends → epoch_of n ≡ epoch_of from → a < b → ⊥
  no_page l y n a b from upto t lng es i j e lt =
      let s = F.stored l y n a j in
      elim ((H y).0.seals l b from upto t lng es i) [
        | inl (inl z) ↦ (let u = s.0.formatted in omega arith)
        | inl (inr z) ↦ not_served (log_of (node_at d.state y).plain l) (epoch_of n) (subst (Unserved (log_of (node_at d.state y).plain l)) (sym e) z) s.1.served
        | inr z ↦ let u = s.1.sealed in omega arith
      ]

  page_now : (l y b from upto t lng : ℕ) (es : List Entry) (n a : ℕ) → In (from_node l y b (bodies.DigestPage from upto t lng es)) d.sends → StoredBy sent l y n a → epoch_of n ≡ epoch_of from → from ≤ n → n ≤ upto → protocol.Kept made l (b + 1) t es n a
  page_now l y b from upto t lng es n a i j e lo hi =
      let p = F.pages l y b from upto t lng es i in
      let g = log_of (node_at d.state y).plain l in
      elim ((H y).0.retains l n a j) [
        | inl (inl z) ↦ absurd (let u = p.0.formatted in omega arith)
        | inl (inr z) ↦ absurd (not_served g (epoch_of from) (subst (Unserved g) e z) p.1.served)
        | inr (inl z) ↦ inl (let u = p.1.trim in omega arith)
        | inr (inr (inl z)) ↦ inr (inl (record { entry = z.entry; there = p.1.has n z.entry z.found_at e lo hi; number = ((H y).0.fine l).numbers (n, z.entry) (find_in n g.entries z.entry z.found_at); least = z.least }))
        | inr (inr (inr z)) ↦ inr (inr (record { ballot = z.ballot; basis = z.basis; planned = z.planned; above = z.above; below = let u = z.below in let v = p.1.sealed in omega arith; before = z.before }))
      ]

  pub shows_sent : ShowsAll made sent → ShowsAll made (finish d).state.network.sent
  shows_sent A l y b from upto t lng es n a i j e lo hi lt = elim (sent_or _ i) [
    | inl p ↦ elim (sent_or _ j) [
      | inl q ↦ A l y b from upto t lng es n a p q e lo hi lt
      | inr q ↦ absurd (no_page l y n a b from upto t lng es p q e lt)
    ]
    | inr p ↦ elim (sent_or _ j) [
      | inl q ↦ page_now l y b from upto t lng es n a p q e lo hi
      | inr q ↦ absurd (F.alone l y n a l y b from upto t lng es q p)
    ]
  ]

  pub bounded_sent : PagesBounded sent → PagesBounded (finish d).state.network.sent
  bounded_sent A l y b from upto t lng es f i j = elim (sent_or _ i) [
    | inl p ↦ A l y b from upto t lng es f p j
    | inr p ↦ (let q = F.pages l y b from upto t lng es p in let k = q.1.only f j in let lo = k.1 in let hi = k.2 in
        let e : epoch_of f.number ≡ epoch_of from = omega arith in
        (let u = ((H y).0.fine l).bounded (f.number, f) k.0 (subst (Served (log_of (node_at d.state y).plain l)) (sym e) q.1.served) in let v = q.1.sealed in omega arith, e))
  ]
