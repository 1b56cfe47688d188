-- Each point that was issued went to the nodes: it is one of the log's points.
use Rattle.std.proofs.Common.{◌≡◌, ◌∙◌, ◌⊎◌, ℕ, inl, inr, refl, ap, sym, subst, true, ◌==◌, if◌then◌else◌, List, [], ◌∷◌, ◌++◌, filter_map, Option, Some, None, eq-eqb}
use Rattle.std.proofs.lemmas.Bool.{and_from}
use Rattle.std.specs.List.{cons_option}
use Rattle.ld_table.specs.Named.{find_named}
use Rattle.ld_config.specs.declared.config.Config.{Config}
use Rattle.ld_transcript.specs.declared.line.Line.{Line}
use Rattle.ld_transcript.specs.declared.line.Line.TheVariants as lines
use Rattle.ld_msg.specs.declared.msg.Who.TheVariants as whos
use Rattle.ld_msg.specs.declared.msg.Msg.{Msg}
use Rattle.ld_msg.specs.declared.msg.Body.{Body}
use Rattle.ld_msg.specs.declared.msg.Body.TheVariants as bodies
use Rattle.ld_msg.specs.Register.{generation_of, epochs_in}
use Rattle.ld_msg.specs.Sequencer.{Sequencer, called, on_reply, on_retry, to_each}
use Rattle.ld_op.specs.declared.op.Op.{Op}
use Rattle.ld_op.specs.declared.op.Op.TheVariants as ops
use Rattle.ld_op.specs.Ticks.{Ticked, Cleans, Rebuilt, Asks, Nothing}
use Rattle.ld_machine.specs.Config.{looks_at, all_nodes}
use Rattle.ld_machine.specs.Disk.{Node, keep_end}
use Rattle.ld_machine.specs.State.{State, Done, finish, node_at, with_node, with_register, posted}
use Rattle.ld_machine.specs.Facts.{Happened, Writes, OfLog}
use Rattle.ld_machine.specs.World.{World, In, to_node_of}
use Rattle.ld_machine.specs.Run.{after_step}
use Rattle.ld_machine.specs.Step as Step
use Rattle.ld_machine.specs.Calm as Calm
use Rattle.ld_machine.specs.Calm.{Move}
use Rattle.ld_safety.proofs.Lists.{Some_inj, not_none}
use Rattle.ld_safety.proofs.Traces.{Keeps, step_happened, beside_kept}
use Rattle.ld_safety.proofs.Steps.{writes_cases, sent_now}
use Rattle.ld_safety.proofs.Lines.{Group, OfNodes, OfNumbers, OfActs, OfTrims, OfSets, OfItems, AllOf, none_of, one_of, kept_of, format_of, acted_of, items_of, line_of}
use Rattle.ld_safety.proofs.Events.{Cases, dispatch, Live, is_quiet, refreshed, loaded}
use Rattle.ld_safety.proofs.Base.{counts_of}
use Rattle.ld_safety.proofs.Given.{of_log_grows, GivenTrim}
use Rattle.ld_safety.proofs.GivenSteps.{BaseGiven}
use Rattle.ld_safety.proofs.Along.{Along}
use Rattle.ld_safety.proofs.AlongSteps.{along_kept, into_after}
use Rattle.ld_calm.proofs.Measure.{point_in, points_of}

-- ---- a point that a node was sent ----

-- a trim up to the point went from a sequencer of the log to the node
pub record PointSent (ms : List Msg) (l n t : ℕ) : Type 0 where
  pub epoch : ℕ
  pub there : In (to_node_of l epoch n (bodies.Trim t)) ms

-- to each of these nodes
abbrev pub SentTo : List Msg → ℕ → ℕ → List ℕ → Type 0
SentTo ms l t ns = (n : ℕ) → In n ns → PointSent ms l n t

posted_each : (l b y : ℕ) (x : Body) (ys : List ℕ) → In y ys → In (to_node_of l b y x) (posted (whos.Sequencer b) l (to_each x ys))
posted_each l b y x [] i = absurd i
posted_each l b y x (z ∷ ys) (inl e) = inl (λ j. to_node_of l b (e j) x)
posted_each l b y x (z ∷ ys) (inr i) = inr (posted_each l b y x ys i)

filtered_in : {X Y : Type 0} (f : X → Option Y) (x : X) (y : Y) (xs : List X) → In x xs → f x ≡ Some y → In y (filter_map f xs)
filtered_in f x y [] i h = absurd i
filtered_in f x y (z ∷ xs) i h = by_head (f z) refl i (λ j. filtered_in f x y xs j h) where
  by_head : (o : Option _) → f z ≡ o → In x (z ∷ xs) → (In x xs → In y (filter_map f xs)) → In y (cons_option o (filter_map f xs))
  by_head None q (inl e) ih = absurd (not_none (sym q ∙ (sym (ap f e) ∙ h)))
  by_head None q (inr j) ih = ih j
  by_head (Some w) q (inl e) ih = inl (sym (Some_inj (sym q ∙ (sym (ap f e) ∙ h))))
  by_head (Some w) q (inr j) ih = inr (ih j)

pub point_there : (ms : List Msg) (l n t : ℕ) (ns : List ℕ) → PointSent ms l n t → In t (points_of (n ∷ ns) l ms)
point_there ms l n t ns h = filtered_in (point_in l n) (to_node_of l h.epoch n (bodies.Trim t)) t ms h.there (ap (λ b. if b then Some t else None) (and_from (l == l) (n == n) (eq-eqb l l refl) (eq-eqb n n refl)))

pub points_there : (ms : List Msg) (l t : ℕ) (ns : List ℕ) → (n : ℕ) × In n ns → SentTo ms l t ns → In t (points_of ns l ms)
points_there ms l t [] s h = absurd s.1
points_there ms l t (n ∷ ns) s h = point_there ms l n t ns (h n (inl refl))

-- ---- what a step issues is sent ----
record PointTold (c : Config) (s : State) (sends : List Msg) (name : List ℕ) (t : ℕ) : Type 0 where
  sequencer : Sequencer
  named : find_named name s.sequencers ≡ Some sequencer
  sent : SentTo sends sequencer.log t (all_nodes c)

module _ (c : Config) (s : State) (e : Move) where
  Told : Done → Type 0
  Told d = (name : List ℕ) (t : ℕ) → In (lines.Trimmed name t) d.lines → PointTold c s d.sends name t

  others : (g : Group) (d : Done) → (g ≡ OfTrims → ⊥) → AllOf g d.lines → Told d
  unfolding Told
  others g d h a name n i = absurd (h (sym (a _ i)))

  quiets : (d : Done) → ((x : Line) → In x d.lines → is_quiet x ≡ true) → Told d
  unfolding Told
  quiets d q name n i = absurd (let z = q _ i in cc)

  quiet_one : (x : Line) → is_quiet x ≡ true → (y : Line) → In y (x ∷ []) → is_quiet y ≡ true
  quiet_one x h y (inl i) = subst (λ z. is_quiet z ≡ true) (sym i) h
  quiet_one x h y (inr i) = absurd i

  handled : (f : List ℕ) (x : Node) (n : ℕ) (m : Msg) (o : Option Op) (a : Option Body) → Told (Step.handles (with_node (refreshed s f) n x) n m o a)
  handled f x n m None a = others OfNodes (Step.handles (with_node (refreshed s f) n x) n m None a) (λ h. cc) (none_of OfNodes)
  handled f x n m (Some o) a = others OfNodes (Step.handles (with_node (refreshed s f) n x) n m (Some o) a) (λ h. cc) (kept_of n [] (keep_end (node_at (with_node (refreshed s f) n x) n) o) (none_of OfNodes))

  ticked : (n l : ℕ) (t : Ticked) → Told (Step.ticks_as c s n l t)
  ticked n l (Cleans k y) = others OfNodes (Step.ticks_as c s n l (Cleans k y)) (λ h. cc) (kept_of n [] (keep_end (node_at s n) (ops.Clean l k y)) (none_of OfNodes))
  ticked n l Rebuilt = others OfNodes (Step.ticks_as c s n l Rebuilt) (λ h. cc) (kept_of n (lines.NodeRebuilt n l ∷ []) (keep_end (node_at s n) (ops.Refilled l)) (one_of (lines.NodeRebuilt n l)))
  ticked n l (Asks from) = others OfNodes (Step.ticks_as c s n l (Asks from)) (λ h. cc) (none_of OfNodes)
  ticked n l Nothing = others OfNodes (Step.ticks_as c s n l Nothing) (λ h. cc) (none_of OfNodes)

  issued : (name : List ℕ) (q : Sequencer) (point : ℕ) → Live s name q → Told (record { state = s; lines = lines.Trimmed name point ∷ []; sends = posted (whos.Sequencer q.epoch) q.log (to_each (bodies.Trim point) (all_nodes c)) })
  unfolding Told
  issued name q point v a t (inr i) = absurd i
  issued name q point v a t (inl i) = let x : a ≡ name = cc in let y : t ≡ point = cc in record {
    sequencer = q;
    named = subst (λ k. find_named k s.sequencers ≡ Some q) (sym x) v.named;
    sent = λ n j. record { epoch = q.epoch; there = subst (λ k. In (to_node_of q.log q.epoch n (bodies.Trim k)) (posted (whos.Sequencer q.epoch) q.log (to_each (bodies.Trim point) (all_nodes c)))) (sym y) (posted_each q.log q.epoch n (bodies.Trim point) (all_nodes c) j) };
  }

  point_cases : Cases c s e (λ d m. Told d)
  point_cases = record {
    still = λ f older i. others OfNodes _ (λ h. cc) (none_of OfNodes);
    says = λ x q. quiets _ (quiet_one x q);
    node_hears = λ f older n m i t v o. handled f (Step.releases (node_at s n) m.log m.body) n m (Step.node_handles n (node_at s n) m).op (Step.node_handles n (node_at s n) m).answer;
    loads = λ n ls q a o. quiets _ q;
    draw_fails = λ n a. others OfNodes _ (λ h. cc) (one_of (lines.NodeRefusedRegister n));
    formats = λ n r g a v i. others OfNodes _ (λ h. cc) (kept_of n (Step.format_lines c n r) (keep_end (node_at (with_register (loaded s n) r) n) (ops.Format (generation_of r n) (epochs_in r.logs))) (format_of c n r));
    ticks = λ n l t v i o. ticked n l t;
    stops = λ n a. others OfNodes _ (λ h. cc) (one_of (lines.NodeDown n));
    wipes = λ n. others OfNodes _ (λ h. cc) (one_of (lines.NodeWiped n));
    faults = λ n f o. others OfNodes _ (λ h. cc) (none_of OfNodes);
    sets = λ l r x set h. others OfSets _ (λ q. cc) (one_of (lines.Set l r x set));
    arms = λ k done o. others OfNodes _ (λ h. cc) (none_of OfNodes);
    hears = λ f older name q m i t l v o. others OfActs _ (λ h. cc) (acted_of name q (called (looks_at c s.register q.log) s.register (on_reply (looks_at c s.register q.log) q (Step.sender_node m.from) m.body) (on_reply (looks_at c s.register q.log) q (Step.sender_node m.from) m.body).tries).acts);
    retries = λ again name q v o. others OfActs _ (λ h. cc) (acted_of name q (called (looks_at c s.register q.log) s.register (on_retry (looks_at c s.register q.log) q) (on_retry (looks_at c s.register q.log) q).tries).acts);
    appends = λ name q p v a i. others OfNumbers _ (λ h. cc) (one_of (lines.Appended name _));
    trims = λ name q t v b. issued name q t v;
    drops = λ name q v o. others OfNodes _ (λ h. cc) (none_of OfNodes);
    activates = λ name l r g n i x. others OfNumbers _ (λ h. cc) (one_of (lines.Active name _));
    swaps = λ n m l x r q i. quiets _ (quiet_one x q);
    activate_fails = λ name l x g q. quiets _ (quiet_one x q);
    answers = λ f older name d m i t v o. others OfItems _ (λ h. cc) (items_of _ name _ _);
    polls = λ name d v o. others OfNodes _ (λ h. cc) (none_of OfNodes);
    opens = λ style name l from until o x. others OfNodes _ (λ h. cc) (none_of OfNodes);
  }

-- ---- along a run ----
abbrev pub AllPoints : Config → List Happened → World → Type 0
AllPoints c hs w = (l t k : ℕ) (name : List ℕ) → Writes hs k (lines.Trimmed name t) → OfLog hs l name → SentTo w.state.network.sent l t (all_nodes c)

points_later : (ms ns : List Msg) (l t : ℕ) (ys : List ℕ) → ((m : Msg) → In m ms → In m ns) → SentTo ms l t ys → SentTo ns l t ys
points_later ms ns l t ys into h n i = let z = h n i in record { epoch = z.epoch; there = into _ z.there }

-- who issued a point has a log
abbrev pub Issuers : List Happened → Type 0
Issuers hs = (name : List ℕ) (t k : ℕ) → Writes hs k (lines.Trimmed name t) → (l : ℕ) × OfLog hs l name

same_log : (hs : List Happened) (l k : ℕ) (name : List ℕ) → OfLog hs l name → OfLog hs k name → l ≡ k
same_log hs l k name a b = Some_inj (sym a ∙ b)

module _ (c : Config) (hs : List Happened) (w : World) (e : Move) (B : BaseGiven c hs w × Along c hs w) where
  now_told : (name : List ℕ) (t : ℕ) → In (lines.Trimmed name t) (step_happened c w.state e).lines → PointTold c w.state (Calm.moves c w.state e).sends name t
  unfolding Told
  now_told name t i = dispatch c w.state e (λ d m. Told c w.state e d) B.0.0.0.0 (point_cases c w.state e) name t (line_of (Calm.moves c w.state e) (lines.Trimmed name t) (λ h. cc) i)

  issuers_step : Issuers hs → Issuers (hs ++ step_happened c w.state e ∷ [])
  issuers_step I name t k x = elim (writes_cases hs (step_happened c w.state e) k _ x) [
    | inl a ↦ let z = I name t k a in (z.0, of_log_grows hs w.state.register e (Calm.moves c w.state e) z.0 name z.1)
    | inr a ↦ let z = now_told name t a.1 in (z.sequencer.log, of_log_grows hs w.state.register e (Calm.moves c w.state e) z.sequencer.log name (counts_of c hs w B.0.0 name z.sequencer z.named).known)
  ]

  points_step : Issuers hs → AllPoints c hs w → AllPoints c (hs ++ step_happened c w.state e ∷ []) (after_step c w e)
  points_step I S l t k name x o = elim (writes_cases hs (step_happened c w.state e) k _ x) [
    | inl a ↦
        let z = I name t k a in
        let q : z.0 ≡ l = same_log (hs ++ step_happened c w.state e ∷ []) z.0 l name (of_log_grows hs w.state.register e (Calm.moves c w.state e) z.0 name z.1) o in
        points_later w.state.network.sent _ l t (all_nodes c) (into_after c hs w e B.0.0 B.0.1 B.1) (S l t k name a (subst (λ y. OfLog hs y name) q z.1))
    | inr a ↦
        let z = now_told name t a.1 in
        let q : z.sequencer.log ≡ l = same_log (hs ++ step_happened c w.state e ∷ []) z.sequencer.log l name (of_log_grows hs w.state.register e (Calm.moves c w.state e) z.sequencer.log name (counts_of c hs w B.0.0 name z.sequencer z.named).known) o in
        subst (λ y. SentTo (finish (Calm.moves c w.state e)).state.network.sent y t (all_nodes c)) q (points_later (Calm.moves c w.state e).sends _ z.sequencer.log t (all_nodes c) (sent_now (Calm.moves c w.state e)) z.sent)
  ]

-- in every run
pub points_kept : (c : Config) → Keeps c (λ hs w. (BaseGiven c hs w × Along c hs w) × (Issuers hs × AllPoints c hs w))
points_kept c = beside_kept c (λ hs w. BaseGiven c hs w × Along c hs w) (λ hs w. Issuers hs × AllPoints c hs w) (along_kept c) ((λ name t k x. absurd (not_none x.1)), (λ l t k name x. absurd (not_none x.1)))
    (λ hs w e B C S. (issuers_step c hs w e B S.0, points_step c hs w e B S.0 S.1))

-- a trim anywhere is none, or one of the log's points
pub point_of_trim : (c : Config) (hs : List Happened) (w : World) → AllPoints c hs w → (n : ℕ) × In n (all_nodes c) → (l t : ℕ) → GivenTrim hs l t → (t ≡ 0) ⊎ In t (points_of (all_nodes c) l w.state.network.sent)
point_of_trim c hs w P s l t (inl e) = inl e
point_of_trim c hs w P s l t (inr h) = inr (subst (λ k. In k (points_of (all_nodes c) l w.state.network.sent)) (sym h.2) (points_there w.state.network.sent l h.1 (all_nodes c) s (P l h.1 h.0 h.3.name h.3.told h.3.of_log)))
