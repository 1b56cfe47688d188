-- Along a run each sequencer's epoch and each closed epoch has an active line of its log.
use Rattle.std.proofs.Common.{Bool, ◌≡◌, ◌<◌, ℕ, inl, refl, sym, subst, true, ◌==◌, List, [], ◌∷◌, ◌++◌, Option, Some, None, arith}
use Rattle.std.proofs.lemmas.Bool.{and_from, eq-eqb, le-leb}
use Rattle.ld_table.specs.Named.{find_named, put_named}
use Rattle.ld_table.specs.Words.{any_of}
use Rattle.ld_config.specs.declared.config.Config.{Config}
use Rattle.ld_schedule.specs.declared.event.Event.TheVariants as events
use Rattle.ld_transcript.specs.declared.line.Line.TheVariants as lines
use Rattle.ld_msg.specs.declared.msg.Msg.{Msg}
use Rattle.ld_msg.specs.declared.msg.Body.{Body}
use Rattle.ld_op.specs.declared.op.Op.{Op}
use Rattle.ld_op.specs.Ticks.{Ticked, Cleans, Rebuilt, Asks, Nothing}
use Rattle.ld_machine.specs.Config.{looks_at}
use Rattle.ld_machine.specs.Disk.{Node}
use Rattle.ld_table.specs.Table.{find}
use Rattle.ld_msg.specs.Register.{Register, Changed, Granted, epochs_of, activate, lce_of}
use Rattle.ld_msg.specs.Sequencer.{Sequencer, Recovery, appended, activated, on_reply}
use Rattle.ld_machine.specs.State.{State, Done, finish, node_at, with_node}
use Rattle.ld_machine.specs.Facts.{Happened, active_line, activates_log, has_epoch}
use Rattle.ld_machine.specs.World.{World, In, begin}
use Rattle.ld_machine.specs.Run.{after_step}
use Rattle.ld_machine.specs.Step as Step
use Rattle.ld_safety.proofs.Lists.{not_none, any_from, In_right}
use Rattle.ld_safety.proofs.Traces.{Keeps, step_happened, beside_kept}
use Rattle.ld_safety.proofs.Steps.{told, finish_In}
use Rattle.ld_safety.proofs.Events.{retry_call, announced, Cases, dispatch, refreshed, Live}
use Rattle.ld_safety.proofs.SequencerSteps.{gone_of, replied, retried}
use Rattle.ld_safety.proofs.Appends.{Continues}
use Rattle.ld_safety.proofs.Continues.{reply_continues, retry_continues}
use Rattle.ld_safety.proofs.Base.{Base, counts_of}
use Rattle.ld_safety.proofs.Carried as carried
use Rattle.ld_safety.proofs.Given.{AnyEpoch, AnyShown, AnyReleased, SmallGood, GivenEntry, GivenTrim, GivenSummary}
use Rattle.ld_safety.proofs.GivenSteps.{Given, BaseGiven, given_kept}
use Rattle.ld_safety.proofs.LostActive.{ClosedActive, AllActive, epoch_grows, acting_closed, retrying_closed, swap_closed, activate_closed, draw_closed, logs_closed, put_active}
use Rattle.ld_machine.specs.Calm.{event_of, Move, Takes}

-- a sequencer recovers epochs below its own alone
recovers_below : (c : Config) (hs : List Happened) (s : State) → Given c hs s → (name : List ℕ) (q : Sequencer) → find_named name s.sequencers ≡ Some q → (v : Recovery) → q.recovery ≡ Some v → v.epoch < q.epoch
recovers_below c hs s G name q f v e = (subst (carried.RecoveryOk (GivenEntry hs) (GivenTrim hs) (GivenSummary hs) AnyEpoch AnyShown AnyReleased (GivenEntry hs) SmallGood q.log q.epoch) e (G.sequencers name q f).recovery).0.1

module _ (c : Config) (hs : List Happened) (w : World) (e : Move) (B : Base c hs w) (G : Given c hs w.state) (H : ClosedActive c hs w.state.register) (S : AllActive c hs w.state.sequencers) where
  abbrev after : Done → List Happened
  after d = hs ++ told w.state.register e d ∷ []

  abbrev Result : Done → Type 0
  Result d = ClosedActive c (hs ++ told w.state.register e d ∷ []) d.state.register × AllActive c (hs ++ told w.state.register e d ∷ []) d.state.sequencers

  closed : (d : Done) → ClosedActive c (hs ++ told w.state.register e d ∷ []) w.state.register
  closed d l k y f = epoch_grows l k hs (told w.state.register e d ∷ []) (H l k y f)

  active : (d : Done) → AllActive c (hs ++ told w.state.register e d ∷ []) w.state.sequencers
  active d t q f = epoch_grows q.log q.epoch hs (told w.state.register e d ∷ []) (S t q f)

  quietly : (d : Done) → d.state.register ≡ w.state.register → d.state.sequencers ≡ w.state.sequencers → Result d
  quietly d p q = (subst (ClosedActive c (hs ++ told w.state.register e d ∷ [])) (sym p) (closed d), subst (AllActive c (hs ++ told w.state.register e d ∷ [])) (sym q) (active d))

  handled : (f : List ℕ) (x : Node) (n : ℕ) (m : Msg) (o : Option Op) (b : Option Body) → Result (Step.handles (with_node (refreshed w.state f) n x) n m o b)
  handled f x n m None b = quietly (Step.handles (with_node (refreshed w.state f) n x) n m None b) refl refl
  handled f x n m (Some o) b = quietly (Step.handles (with_node (refreshed w.state f) n x) n m (Some o) b) refl refl

  ticked : (n l : ℕ) (t : Ticked) → Result (Step.ticks_as c w.state n l t)
  ticked n l (Cleans k y) = quietly (Step.ticks_as c w.state n l (Cleans k y)) refl refl
  ticked n l Rebuilt = quietly (Step.ticks_as c w.state n l Rebuilt) refl refl
  ticked n l (Asks from) = quietly (Step.ticks_as c w.state n l (Asks from)) refl refl
  ticked n l Nothing = quietly (Step.ticks_as c w.state n l Nothing) refl refl

  goes : (d : Done) (name : List ℕ) (q p : Sequencer) → find_named name w.state.sequencers ≡ Some q → Continues q p → AllActive c (hs ++ told w.state.register e d ∷ []) (put_named name p w.state.sequencers)
  goes d name q p f k = put_active c (hs ++ told w.state.register e d ∷ []) name p w.state.sequencers (subst (λ z. has_epoch z p.epoch (hs ++ told w.state.register e d ∷ []) ≡ true) (sym k.log) (subst (λ z. has_epoch q.log z (hs ++ told w.state.register e d ∷ []) ≡ true) (sym k.epoch) (active d name q f))) (active d)

  hears : (f : List ℕ) (name : List ℕ) (q : Sequencer) (m : Msg) → Live w.state name q → Result (Step.acted c (refreshed w.state f) name q (on_reply (looks_at c w.state.register q.log) q (Step.sender_node m.from) m.body))
  hears f name q m v = let d = Step.acted c (refreshed w.state f) name q (on_reply (looks_at c w.state.register q.log) q (Step.sender_node m.from) m.body) in let next = hs ++ told w.state.register e d ∷ [] in (
    replied c w.state name q v.there (Step.sender_node m.from) m.body (λ k n. ClosedActive c next k.register) (acting_closed c next w.state.register (closed d) q (active d name q v.named) (recovers_below c hs w.state G name q v.named) (gone_of w.state q) (Step.sender_node m.from) m.body),
    goes d name q _ v.named (reply_continues c w.state q (counts_of c hs w B name q v.named).row name (Step.sender_node m.from) m.body v.there),
  )

  retries : (again : Bool) (name : List ℕ) (q : Sequencer) → Live w.state name q → Result (Step.told w.state name q (announced again (retry_call c w.state q)))
  retries again name q v = let d = Step.told w.state name q (announced again (retry_call c w.state q)) in let next = hs ++ told w.state.register e d ∷ [] in (
    retried c w.state q v.there (λ k n. ClosedActive c next k.register) (retrying_closed c next w.state.register (closed d) q (active d name q v.named) (recovers_below c hs w.state G name q v.named) (gone_of w.state q)),
    goes d name q _ v.named (retry_continues c w.state q (counts_of c hs w B name q v.named).row v.there),
  )

  -- an active line
  told_active : (name : List ℕ) (l epoch : ℕ) (d : Done) → e ≡ Takes (events.Activate name l) → In (lines.Active name epoch) d.lines → has_epoch l epoch (hs ++ told w.state.register e d ∷ []) ≡ true
  told_active name l epoch d x i = any_from (λ (h : Happened). activates_log l epoch h.lines h.event) (told w.state.register e d) (hs ++ told w.state.register e d ∷ []) (In_right (told w.state.register e d) hs (told w.state.register e d ∷ []) (inl refl))
      (subst (λ v. activates_log l epoch (finish d).lines (event_of v) ≡ true) (sym x) (and_from (l == l) (any_of (active_line epoch) (finish d).lines) (eq-eqb l l refl) (any_from (active_line epoch) (lines.Active name epoch) (finish d).lines (finish_In d _ i) (le-leb epoch epoch (omega arith)))))

  activates : (name : List ℕ) (l : ℕ) (r : Register) → activate w.state.register l (Step.spec_set c w.state l) ≡ record { register = r; answer = Granted } → e ≡ Takes (events.Activate name l) → Result (Step.activated_as c w.state name l r (epochs_of r l).epoch (lce_of r l))
  unfolding activated
  activates name l r i x = let n = (epochs_of r l).epoch in let d = Step.activated_as c w.state name l r n (lce_of r l) in let next = hs ++ told w.state.register e d ∷ [] in (
    subst (λ (k : Changed). ClosedActive c next k.register) i (activate_closed c next w.state.register l (Step.spec_set c w.state l) (closed d)),
    put_active c next name (activated (looks_at c r l) (Step.spec_set c w.state l) l n (lce_of r l)) w.state.sequencers (told_active name l n d x (inl refl)) (active d),
  )

  register_only : (d : Done) (r : Register) → d.state.register ≡ r → d.state.sequencers ≡ w.state.sequencers → ((gs : List Happened) → ClosedActive c gs w.state.register → ClosedActive c gs r) → Result d
  register_only d r p q h = (subst (ClosedActive c (hs ++ told w.state.register e d ∷ [])) (sym p) (h (hs ++ told w.state.register e d ∷ []) (closed d)), subst (AllActive c (hs ++ told w.state.register e d ∷ [])) (sym q) (active d))

  sequencer_only : (d : Done) (name : List ℕ) (q p : Sequencer) → d.state.register ≡ w.state.register → d.state.sequencers ≡ put_named name p w.state.sequencers → find_named name w.state.sequencers ≡ Some q → p.log ≡ q.log → p.epoch ≡ q.epoch → Result d
  sequencer_only d name q p x y f l k = (
    subst (ClosedActive c (hs ++ told w.state.register e d ∷ [])) (sym x) (closed d),
    subst (AllActive c (hs ++ told w.state.register e d ∷ [])) (sym y)
        (put_active c (hs ++ told w.state.register e d ∷ []) name p w.state.sequencers (subst (λ z. has_epoch z p.epoch (hs ++ told w.state.register e d ∷ []) ≡ true) (sym l) (subst (λ z. has_epoch q.log z (hs ++ told w.state.register e d ∷ []) ≡ true) (sym k) (active d name q f))) (active d)),
  )

  active_cases : Cases c w.state e (λ d m. Result d)
  active_cases = record {
    still = λ f older i. quietly _ refl refl;
    says = λ x q. quietly _ refl refl;
    node_hears = λ f older n m i t v o. handled f (Step.releases (node_at w.state n) m.log m.body) n m (Step.node_handles n (node_at w.state n) m).op (Step.node_handles n (node_at w.state n) m).answer;
    loads = λ n ls q b o. quietly _ refl refl;
    draw_fails = λ n b. register_only _ _ refl refl (λ gs h. draw_closed c gs w.state.register n h);
    formats = λ n r g b v i. register_only _ r refl refl (λ gs h. subst (λ (k : Changed). ClosedActive c gs k.register) i (draw_closed c gs w.state.register n h));
    ticks = λ n l t v i o. ticked n l t;
    stops = λ n b. quietly _ refl refl;
    wipes = λ n. quietly _ refl refl;
    faults = λ n f o. quietly _ refl refl;
    sets = λ l r x set h. quietly _ refl refl;
    arms = λ k done o. register_only _ (Step.armed w.state.register k done) refl refl (λ gs h. logs_closed c gs w.state.register (Step.armed w.state.register k done) refl h);
    hears = λ f older name q m i t l v o. hears f name q m v;
    retries = λ again name q v o. retries again name q v;
    appends = λ name q p v a i. sequencer_only _ name q (appended q p) refl refl v.named refl refl;
    trims = λ name q t v b. quietly _ refl refl;
    drops = λ name q v o. sequencer_only _ name q (Step.dropped q) refl refl v.named refl refl;
    activates = λ name l r g n i x. activates name l r i x;
    swaps = λ n m l x r q i. register_only _ _ refl refl (λ gs h. swap_closed c gs w.state.register l _ m n h);
    activate_fails = λ name l x g q. register_only _ _ refl refl (λ gs h. activate_closed c gs w.state.register l (Step.spec_set c w.state l) h);
    answers = λ f older name d m i t v o. quietly _ refl refl;
    polls = λ name d v o. quietly _ refl refl;
    opens = λ style name l from until o x. quietly _ refl refl;
  }

abbrev pub Active : Config → List Happened → World → Type 0
Active c hs w = ClosedActive c hs w.state.register × AllActive c hs w.state.sequencers

active_step : (c : Config) (hs : List Happened) (w : World) (e : Move) → BaseGiven c hs w → Active c hs w → Active c (hs ++ step_happened c w.state e ∷ []) (after_step c w e)
unfolding finish
active_step c hs w e B h = dispatch c w.state e (λ d m. ClosedActive c (hs ++ told w.state.register e d ∷ []) d.state.register × AllActive c (hs ++ told w.state.register e d ∷ []) d.state.sequencers) B.0.0.0 (active_cases c hs w e B.0 B.1 h.0 h.1)

start_active : (c : Config) → Active c [] (begin c)
unfolding find find_named
start_active c = ((λ l e y f. absurd (not_none f)), (λ t q f. absurd (not_none f)))

pub active_kept : (c : Config) → Keeps c (λ hs w. BaseGiven c hs w × Active c hs w)
active_kept c = beside_kept c (BaseGiven c) (Active c) (given_kept c) (start_active c) (λ hs w e B C h. active_step c hs w e B h)
