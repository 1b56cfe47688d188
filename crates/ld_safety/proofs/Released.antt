-- What is released, and of an open epoch what a trim covers, was acknowledged in lines.
use Rattle.std.proofs.Common.{◌≡◌, ◌∙◌, ◌≤◌, ◌<◌, ℕ, ◌+◌, ◌-◌, inl, inr, refl, ap, sym, subst, true, ◌==◌, nat_lt, List, [], ◌∷◌, ◌++◌, Option, Some, None, arith}
use Rattle.std.proofs.lemmas.Bool.{cases_order, ltb-false, and_from, eq-eqb, lt-ltb}
use Rattle.std.specs.Option.{unwrap_or}
use Rattle.ld_table.specs.Named.{find_named}
use Rattle.ld_lsn.specs.Number.{epoch_of, esn_of, numbered, epoch_end, home_epoch, is_epoch_end, last_esn}
use Rattle.ld_config.specs.declared.config.Config.{Config}
use Rattle.ld_config.specs.Bounds.{IsInBounds}
use Rattle.ld_schedule.specs.declared.event.Event.TheVariants as events
use Rattle.ld_transcript.specs.declared.line.Line.{Line}
use Rattle.ld_transcript.specs.declared.line.Line.TheVariants as lines
use Rattle.ld_msg.specs.declared.msg.Summary.{Summary}
use Rattle.ld_msg.specs.declared.msg.Msg.{Msg}
use Rattle.ld_msg.specs.declared.msg.Body.{Body}
use Rattle.ld_msg.specs.declared.msg.Body.TheVariants as bodies
use Rattle.ld_msg.specs.Register.{Register, generation_of, epochs_in, lce_of}
use Rattle.ld_msg.specs.Sequencer.{Sequencer, called, on_reply, next_esn, released_of}
use Rattle.ld_op.specs.declared.op.Op.{Op}
use Rattle.ld_op.specs.declared.op.Op.TheVariants as ops
use Rattle.ld_op.specs.Ticks.{Ticked, Cleans, Rebuilt, Asks, Nothing}
use Rattle.ld_machine.specs.Config.{looks_at}
use Rattle.ld_machine.specs.Disk.{Node, keep_end}
use Rattle.ld_machine.specs.State.{State, Done, start, finish, node_at, with_node, with_register}
use Rattle.ld_machine.specs.Facts.{Happened, Writes, OfLog}
use Rattle.ld_machine.specs.World.{World, In, begin}
use Rattle.ld_machine.specs.Invariant.{ReleasesAcked, ReleasedAcked, OpenTrims, Acked, IsOpen, released_in}
use Rattle.ld_machine.specs.Run.{Move, after_step, world_after, trace}
use Rattle.ld_machine.specs.Step as Step
use Rattle.ld_safety.proofs.Lists.{Some_inj, not_none, not_both, only, cond_both}
use Rattle.ld_safety.proofs.Traces.{Keeps, step_happened, later, beside_kept}
use Rattle.ld_safety.proofs.Steps.{writes_cases}
use Rattle.ld_safety.proofs.Lines.{Group, OfNodes, OfNumbers, OfActs, OfTrims, OfSets, OfItems, AllOf, none_of, one_of, kept_of, format_of, acted_of, items_of, line_of}
use Rattle.ld_safety.proofs.Events.{retry_call, announced, Cases, dispatch, Live, is_quiet, refreshed, loaded}
use Rattle.ld_safety.proofs.Base.{Base, counts_of}
use Rattle.ld_safety.proofs.Given.{AnyEpoch, AnyShown, SmallGood, GivenEntry, entry_grows, of_log_grows, plan_given, plan_epoch}
use Rattle.ld_safety.proofs.GivenSteps.{BaseGiven, append_given}
use Rattle.ld_safety.proofs.CarriedSteps.{Carries, Sources, carried_on}
use Rattle.ld_safety.proofs.CarriedGrows.{carries_grow}
use Rattle.ld_safety.proofs.Settled.{ReleaseFine}
use Rattle.ld_safety.proofs.Along.{Along, BodySaidIn}
use Rattle.ld_safety.proofs.AlongSteps.{acks_now, follow, stays}
use Rattle.ld_safety.proofs.Specs.{SetsFine}
use Rattle.ld_safety.proofs.AckedLines.{LinesFine, AllLines, acked_grows, lines_kept}
use Rattle.ld_safety.proofs.Carried as carried
use Rattle.ld_safety.proofs.CarriedNodes as nodes
use Rattle.ld_safety.proofs.CarriedSequencers as sequencers
use Rattle.ld_safety.proofs.Appends.{own_epoch}
use Rattle.ld_safety.proofs.Has as has
use Rattle.ld_safety.proofs.Withheld.{told_in, told_entry}
use Rattle.ld_safety.proofs.Carried.{message_whole}
use Rattle.ld_machine.specs.Calm as Calm
use Rattle.ld_machine.specs.Calm.{Takes}

-- a released number covers numbers of its epoch that were acknowledged in lines
abbrev pub ReleaseLines : List Happened → ℕ → ℕ → Type 0
ReleaseLines hs l r = 0 < esn_of r → (n : ℕ) → numbered (epoch_of r) 1 ≤ n → n ≤ r → Acked hs l n

abbrev AnyTrim : ℕ → ℕ → Type 0
AnyTrim l t = Unit {0}

abbrev AnySummary : ℕ → ℕ → Summary → Type 0
AnySummary l e y = Unit {0}

abbrev pub Releases : Config → List Happened → State → Type 0
Releases c hs s = Carries c s (Takes (events.Flow 0)) (GivenEntry hs) AnyTrim AnySummary AnyEpoch AnyShown (ReleaseLines hs) (GivenEntry hs) SmallGood s

releases_sound : (hs : List Happened) → carried.Sound (GivenEntry hs) AnyTrim AnySummary AnyEpoch AnyShown (ReleaseLines hs) (GivenEntry hs) SmallGood
releases_sound hs = record { zero_trim = λ l. tt; place = λ l b n w g. g.place.above; reached = λ l b n w g. tt; closing_trim = λ l e y h. tt; zero_closed = λ l. tt; zero_released = λ l pos. absurd (omega arith); kept = λ l b n w g. g; zero_good = λ l e. omega arith; good_below = λ l e g h. h; whole = λ l b n w g. g.kept }

released_lines : (hs : List Happened) (q : Sequencer) → LinesFine hs q → next_esn q ≤ last_esn → ReleaseLines hs q.log (released_of q)
released_lines hs q F small = cond_both (nat_lt (q.lce + 1) q.epoch) (epoch_end q.lce) (numbered q.epoch q.lng) (ReleaseLines hs q.log) (λ t pos. absurd (omega arith))
    (λ t pos n lo hi. subst (Acked hs q.log) (let v : numbered q.epoch (esn_of n) ≡ n = omega arith in v) (F.acked (esn_of n) (omega arith) (omega arith)))

module _ (c : Config) (hs : List Happened) (w : World) (e : Move) (B : BaseGiven c hs w × Along c hs w) (C : Base c (hs ++ step_happened c w.state e ∷ []) (after_step c w e)) (L : AllLines (hs ++ step_happened c w.state e ∷ []) (after_step c w e)) (G : Releases c hs w.state) where
  abbrev next : List Happened
  next = hs ++ step_happened c w.state e ∷ []

  now : Carries c w.state e (GivenEntry next) AnyTrim AnySummary AnyEpoch AnyShown (ReleaseLines next) (GivenEntry next) SmallGood w.state
  now = carries_grow (GivenEntry hs) AnyTrim AnySummary AnyEpoch AnyShown (ReleaseLines hs) (GivenEntry hs) SmallGood (GivenEntry next) AnyTrim AnySummary AnyEpoch AnyShown (ReleaseLines next) (GivenEntry next) SmallGood (entry_grows hs w.state.register e (Calm.moves c w.state e)) (λ l t h. tt) (λ l k y h. tt) (λ l k h. tt) (λ l b x h. tt)
      (λ l k h pos n lo hi. acked_grows hs w.state.register e (Calm.moves c w.state e) l n (h pos n lo hi)) (entry_grows hs w.state.register e (Calm.moves c w.state e)) (λ l k g h. h) c w.state e w.state G

  released_now : (name : List ℕ) (q p : Sequencer) → Live w.state name q → find_named name (Calm.moves c w.state e).state.sequencers ≡ Some p → ReleaseLines next q.log (released_of p)
  unfolding finish
  released_now name q p v f = subst (λ l. ReleaseLines next l (released_of p)) ((acks_now c hs w e B.0.0 B.0.1 B.1 refl (follow c hs w e B.0.0 B.0.1 B.1).0 (stays c hs w e B.0.0 B.0.1 B.1) name p f).1 q v.named)
      (released_lines next p (L name p f) (counts_of c next (after_step c w e) C name p f).small)

  release_sources : Sources c w.state e (GivenEntry next) AnyTrim AnySummary AnyEpoch AnyShown (ReleaseLines next) (GivenEntry next) SmallGood
  release_sources = record {
    sound = releases_sound next;
    before = now;
    apart = B.0.0.1.1;
    epochs = λ name q f k u v. tt;
    new_epochs = λ l r i k u v. tt;
    register = λ l k y f. tt;
    append = append_given c hs w e B.0.0 B.0.1;
    trim = λ name q point v b x. tt;
    planned = λ name q v d loss gone l r D m i j. let low = sequencers.digest_good (GivenEntry next) AnyTrim AnySummary AnyEpoch AnyShown (ReleaseLines next) (GivenEntry next) SmallGood (releases_sound next) q.log v.epoch _ D in (plan_given next q.log q.epoch v.epoch _ (λ z o x k. (D z o).entries x k) low loss i j, plan_epoch next q.log q.epoch v.epoch _ (λ z o x k. (D z o).entries x k) low loss i j);
    closed = λ name q v y short l r d k g. tt;
    refill = λ n m round from upto es i t v b u x j k. let z : carried.BodyOk (GivenEntry next) AnyTrim AnySummary AnyEpoch AnyShown (ReleaseLines next) (GivenEntry next) SmallGood m.log m.from m.body = (now.sent m i).0 in
        let y : carried.AllKeptOk (GivenEntry next) AnyTrim AnySummary AnyEpoch AnyShown (ReleaseLines next) (GivenEntry next) SmallGood m.log (told_in es) = (subst (carried.BodyOk (GivenEntry next) AnyTrim AnySummary AnyEpoch AnyShown (ReleaseLines next) (GivenEntry next) SmallGood m.log m.from) b z).0.0 in
        let o = y x (told_entry x es j (message_whole m n round from upto es t b (now.sent m i).1 x j)) in record { place = o.place; appended = o.appended; kept = o.kept };
    shows = λ n l v. record { clean = λ f z k x a h b t i u o n. tt; open_still = λ f k x t i u o. tt };
    good = λ name q f. (let u = (counts_of c hs w B.0.0 name q f).small in omega arith);
    own = λ name q f. let u = counts_of c hs w B.0.0 name q f in own_epoch q u.row u.small;
    small = λ name q f. (counts_of c hs w B.0.0 name q f).small;
    released = released_now;
  }

  releases_step : Releases c (hs ++ step_happened c w.state e ∷ []) (after_step c w e).state
  releases_step = carried_on c w.state e (GivenEntry next) AnyTrim AnySummary AnyEpoch AnyShown (ReleaseLines next) (GivenEntry next) SmallGood B.0.0.0.0 release_sources

start_releases : (c : Config) → Releases c [] (start c)
start_releases c = has.start_has _ _ _ _ _ _ (λ y l pos. absurd (omega arith)) c (λ y. nodes.blank_ok (GivenEntry []) AnyTrim AnySummary AnyEpoch AnyShown (ReleaseLines []) (GivenEntry []) SmallGood (releases_sound [])) (λ l e y h. tt)

-- ---- issued points ----
record TrimTold (s : State) (name : List ℕ) (t : ℕ) : Type 0 where
  sequencer : Sequencer
  named : find_named name s.sequencers ≡ Some sequencer
  released : t ≤ released_of sequencer

module _ (c : Config) (s : State) (e : Move) where
  Trims : Done → Type 0
  Trims d = (name : List ℕ) (t : ℕ) → In (lines.Trimmed name t) d.lines → TrimTold s name t

  others : (g : Group) (d : Done) → (g ≡ OfTrims → ⊥) → AllOf g d.lines → Trims d
  unfolding Trims
  others g d h a name n i = absurd (h (sym (a _ i)))

  quiets : (d : Done) → ((x : Line) → In x d.lines → is_quiet x ≡ true) → Trims d
  unfolding Trims
  quiets d q name n i = absurd (let z = q _ i in cc)

  quiet_one : (x : Line) → is_quiet x ≡ true → (y : Line) → In y (x ∷ []) → is_quiet y ≡ true
  quiet_one x h y (inl i) = subst (λ z. is_quiet z ≡ true) (sym i) h
  quiet_one x h y (inr i) = absurd i

  handled : (f : List ℕ) (x : Node) (n : ℕ) (m : Msg) (o : Option Op) (a : Option Body) → Trims (Step.handles (with_node (refreshed s f) n x) n m o a)
  handled f x n m None a = others OfNodes (Step.handles (with_node (refreshed s f) n x) n m None a) (λ h. cc) (none_of OfNodes)
  handled f x n m (Some o) a = others OfNodes (Step.handles (with_node (refreshed s f) n x) n m (Some o) a) (λ h. cc) (kept_of n [] (keep_end (node_at (with_node (refreshed s f) n x) n) o) (none_of OfNodes))

  ticked : (n l : ℕ) (t : Ticked) → Trims (Step.ticks_as c s n l t)
  ticked n l (Cleans k y) = others OfNodes (Step.ticks_as c s n l (Cleans k y)) (λ h. cc) (kept_of n [] (keep_end (node_at s n) (ops.Clean l k y)) (none_of OfNodes))
  ticked n l Rebuilt = others OfNodes (Step.ticks_as c s n l Rebuilt) (λ h. cc) (kept_of n (lines.NodeRebuilt n l ∷ []) (keep_end (node_at s n) (ops.Refilled l)) (one_of (lines.NodeRebuilt n l)))
  ticked n l (Asks from) = others OfNodes (Step.ticks_as c s n l (Asks from)) (λ h. cc) (none_of OfNodes)
  ticked n l Nothing = others OfNodes (Step.ticks_as c s n l Nothing) (λ h. cc) (none_of OfNodes)

  issues : (d : Done) (name : List ℕ) (q : Sequencer) (point : ℕ) → Live s name q → point ≤ released_of q → d.lines ≡ lines.Trimmed name point ∷ [] → Trims d
  unfolding Trims
  issues d name q point v b h a t i = elim (subst (λ (z : List Line). In (lines.Trimmed a t) z) h i) [
    | inl z ↦ (let x : a ≡ name = cc in let y : t ≡ point = cc in record { sequencer = q; named = subst (λ k. find_named k s.sequencers ≡ Some q) (sym x) v.named; released = omega arith })
    | inr z ↦ absurd z
  ]

  trim_cases : Cases c s e (λ d m. Trims d)
  trim_cases = record {
    still = λ f older i. others OfNodes _ (λ h. cc) (none_of OfNodes);
    says = λ x q. quiets _ (quiet_one x q);
    node_hears = λ f older n m i t v o. handled f (Step.releases (node_at s n) m.log m.body) n m (Step.node_handles n (node_at s n) m).op (Step.node_handles n (node_at s n) m).answer;
    loads = λ n ls q a o. quiets _ q;
    draw_fails = λ n a. others OfNodes _ (λ h. cc) (one_of (lines.NodeRefusedRegister n));
    formats = λ n r g a v i. others OfNodes _ (λ h. cc) (kept_of n (Step.format_lines c n r) (keep_end (node_at (with_register (loaded s n) r) n) (ops.Format (generation_of r n) (epochs_in r.logs))) (format_of c n r));
    ticks = λ n l t v i o. ticked n l t;
    stops = λ n a. others OfNodes _ (λ h. cc) (one_of (lines.NodeDown n));
    wipes = λ n. others OfNodes _ (λ h. cc) (one_of (lines.NodeWiped n));
    faults = λ n f o. others OfNodes _ (λ h. cc) (none_of OfNodes);
    sets = λ l r x set h. others OfSets _ (λ q. cc) (one_of (lines.Set l r x set));
    arms = λ k done o. others OfNodes _ (λ h. cc) (none_of OfNodes);
    hears = λ f older name q m i t l v o. others OfActs _ (λ h. cc) (acted_of name q (called (looks_at c s.register q.log) s.register (on_reply (looks_at c s.register q.log) q (Step.sender_node m.from) m.body) (on_reply (looks_at c s.register q.log) q (Step.sender_node m.from) m.body).tries).acts);
    retries = λ again name q v o. others OfActs _ (λ h. cc) (acted_of name q (announced again (retry_call c s q)).acts);
    appends = λ name q p v a i. others OfNumbers _ (λ h. cc) (one_of (lines.Appended name _));
    trims = λ name q t v b. issues _ name q t v b refl;
    drops = λ name q v o. others OfNodes _ (λ h. cc) (none_of OfNodes);
    activates = λ name l r g n i x. others OfNumbers _ (λ h. cc) (one_of (lines.Active name _));
    swaps = λ n m l x r q i. quiets _ (quiet_one x q);
    activate_fails = λ name l x g q. quiets _ (quiet_one x q);
    answers = λ f older name d m i t v o. others OfItems _ (λ h. cc) (items_of _ name _ _);
    polls = λ name d v o. others OfNodes _ (λ h. cc) (none_of OfNodes);
    opens = λ style name l from until o x. others OfNodes _ (λ h. cc) (none_of OfNodes);
  }

-- ---- the epoch of a point ----
home_most : (t : ℕ) → home_epoch t ≤ epoch_of t
home_most t = cond_both (is_epoch_end t) (epoch_of t - 1) (epoch_of t) (λ x. x ≤ epoch_of t) (λ h. omega arith) (λ h. omega arith)

home_before : (t x : ℕ) → t ≤ epoch_end x → home_epoch t ≤ x
home_before t x h = cond_both (is_epoch_end t) (epoch_of t - 1) (epoch_of t) (λ y. y ≤ x) (λ u. omega arith) (λ u. elim (cases_order (epoch_of t) (x + 1)) [
  | inl q ↦ absurd (not_both (is_epoch_end t) (and_from (esn_of t == 0) (nat_lt 0 (epoch_of t)) (eq-eqb (esn_of t) 0 (omega arith)) (lt-ltb 0 (epoch_of t) (omega arith))) u)
  | inr (inl q) ↦ omega arith
  | inr (inr q) ↦ absurd (omega arith)
])

-- each point that was issued, with its log
abbrev pub IssuedFine : List Happened → World → Type 0
IssuedFine hs w = (name : List ℕ) (t k : ℕ) → Writes hs k (lines.Trimmed name t) → (l : ℕ) × OfLog hs l name × (IsOpen w l (home_epoch t) → (n : ℕ) → numbered (home_epoch t) 1 ≤ n → n ≤ t → Acked hs l n)

module _ (c : Config) (hs : List Happened) (w : World) (e : Move) (B : BaseGiven c hs w × Along c hs w) (D : AllLines hs w) where
  covers : (k : Register) (t : ℕ) (q : Sequencer) → LinesFine hs q → next_esn q ≤ last_esn → q.lce ≤ lce_of k q.log → t ≤ released_of q → lce_of k q.log < home_epoch t → (n : ℕ) → numbered (home_epoch t) 1 ≤ n → n ≤ t → Acked hs q.log n
  covers k t q F small low = cond_both (nat_lt (q.lce + 1) q.epoch) (epoch_end q.lce) (numbered q.epoch q.lng) (λ r. t ≤ r → lce_of k q.log < home_epoch t → (n : ℕ) → numbered (home_epoch t) 1 ≤ n → n ≤ t → Acked hs q.log n)
      (λ u b o n lo hi. absurd (let z = home_before t q.lce b in omega arith))
      (λ u b o n lo hi. let z = ltb-false _ _ u in let y = home_most t in subst (Acked hs q.log) (let v : numbered q.epoch (esn_of n) ≡ n = omega arith in v) (F.acked (esn_of n) (omega arith) (omega arith)))

  issued_step : IssuedFine hs w → IssuedFine (hs ++ step_happened c w.state e ∷ []) (after_step c w e)
  unfolding finish Trims
  issued_step I name t k x = let up = (follow c hs w e B.0.0 B.0.1 B.1).0 in elim (writes_cases hs (step_happened c w.state e) k _ x) [
    | inl a ↦ let z = I name t k a in (z.0, of_log_grows hs w.state.register e (Calm.moves c w.state e) z.0 name z.1, λ o n lo hi. acked_grows hs w.state.register e (Calm.moves c w.state e) z.0 n (z.2 (let u = (up z.0).1 in omega arith) n lo hi))
    | inr a ↦
        let z = dispatch c w.state e (λ d m. Trims c w.state e d) B.0.0.0.0 (trim_cases c w.state e) name t (line_of (Calm.moves c w.state e) (lines.Trimmed name t) (λ h. cc) a.1) in
        let q = z.sequencer in
        let u = counts_of c hs w B.0.0 name q z.named in (
          q.log,
          of_log_grows hs w.state.register e (Calm.moves c w.state e) q.log name u.known,
          λ o n lo hi. acked_grows hs w.state.register e (Calm.moves c w.state e) q.log n
              (covers w.state.register t q (D name q z.named) u.small (B.1.acks name q z.named).closed z.released (let v = (up q.log).1 in omega arith) n lo hi),
        )
  ]

-- ---- along a run ----
abbrev pub Releasing : Config → List Happened → World → Type 0
Releasing c hs w = ((BaseGiven c hs w × Along c hs w) × (AllLines hs w × SetsFine w.state)) × (Releases c hs w.state × IssuedFine hs w)

pub releasing_kept : (c : Config) → IsInBounds c → Keeps c (Releasing c)
releasing_kept c b = beside_kept c (λ hs w. (BaseGiven c hs w × Along c hs w) × (AllLines hs w × SetsFine w.state)) (λ hs w. Releases c hs w.state × IssuedFine hs w) (lines_kept c b) (start_releases c, λ name t k x. absurd (not_none x.1))
    (λ hs w e B C h. (releases_step c hs w e B.0 C.0.0.0 C.1.0 h.0, issued_step c hs w e B.0 B.1.0 h.1))

-- ---- the laws ----
module _ (c : Config) (hs : List Happened) (w : World) (R : Releasing c hs w) where
  released_of_lines : (l r : ℕ) → 0 < esn_of r → ReleaseLines hs l r → ReleaseFine c hs w.state.network.sent w.state.register l r → ReleasedAcked hs w l r
  released_of_lines l r pos h f = record { acked = h pos; closed = f.closed }

  told_release : (r : ℕ) (m : Msg) (b : Body) → carried.BodyOk (GivenEntry hs) AnyTrim AnySummary AnyEpoch AnyShown (ReleaseLines hs) (GivenEntry hs) SmallGood m.log m.from b → BodySaidIn c hs w m.log m.from b → In r (released_in b) → 0 < esn_of r → ReleasedAcked hs w m.log r
  told_release r m (bodies.Release k) h f i pos = let q = only r k i in released_of_lines m.log r pos (subst (ReleaseLines hs m.log) (sym q) h) (subst (ReleaseFine c hs w.state.network.sent w.state.register m.log) (sym q) f)
  told_release r m (bodies.ReadWait round n k) h f i pos = let q = only r k i in released_of_lines m.log r pos (subst (ReleaseLines hs m.log) (sym q) h) (subst (ReleaseFine c hs w.state.network.sent w.state.register m.log) (sym q) f)
  told_release r m _ h f i pos = absurd i

  pub releases_here : ReleasesAcked hs w
  releases_here = record {
    in_messages = λ m r i j pos. told_release r m m.body (R.1.0.sent m i).0 (R.0.0.1.said.sent m i).0 j pos;
    at_nodes = λ y l r f pos. (let q : Step.released_at (node_at w.state y) l ≡ r = ap (λ (o : Option ℕ). unwrap_or o 0) f in
        released_of_lines l r pos (subst (ReleaseLines hs l) q ((R.1.0.nodes y).released l)) (subst (ReleaseFine c hs w.state.network.sent w.state.register l) q ((R.0.0.1.said.nodes y).released l)));
  }

  pub open_trims_here : OpenTrims hs w
  open_trims_here l e t n o i q lo hi =
      let z = R.1.1 i.1.name t i.0 i.1.told in
      let k : z.0 ≡ l = Some_inj (sym z.1 ∙ i.1.of_log) in
      subst (λ x. Acked hs x n) k (z.2 (subst (λ x. IsOpen w x (home_epoch t)) (sym k) (subst (IsOpen w l) (sym q) o)) n (subst (λ x. numbered x 1 ≤ n) (sym q) lo) hi)

pub releases_cover_acknowledged : (c : Config) (es : List Move) → IsInBounds c → ReleasesAcked (trace c (begin c) es) (world_after c (begin c) es)
releases_cover_acknowledged c es b = releases_here c (trace c (begin c) es) (world_after c (begin c) es) (later c (Releasing c) (releasing_kept c b) [] (begin c) es (releasing_kept c b).begins)

pub open_trims_cover_acknowledged : (c : Config) (es : List Move) → IsInBounds c → OpenTrims (trace c (begin c) es) (world_after c (begin c) es)
open_trims_cover_acknowledged c es b = open_trims_here c (trace c (begin c) es) (world_after c (begin c) es) (later c (Releasing c) (releasing_kept c b) [] (begin c) es (releasing_kept c b).begins)
