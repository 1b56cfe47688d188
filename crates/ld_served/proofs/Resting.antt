-- Where a log's last sequencer has no append that waits, and all epochs before its own are closed, each step of a calm leaves it so.
use Rattle.std.proofs.Common.{◌≡◌, ◌∙◌, ◌≤◌, ◌<◌, ℕ, ◌+◌, inl, inr, refl, ap, sym, subst, Bool, false, List, [], Option, Some, None, arith}
use Rattle.ld_table.specs.Table.{find}
use Rattle.ld_table.specs.Named.{find_named, put_named}
use Rattle.ld_config.specs.declared.config.Config.{Config}
use Rattle.ld_schedule.specs.declared.event.Event.TheVariants as events
use Rattle.ld_msg.specs.declared.msg.Summary.{Summary}
use Rattle.ld_msg.specs.declared.msg.Msg.{Msg}
use Rattle.ld_msg.specs.declared.msg.Body.{Body}
use Rattle.ld_msg.specs.Register.{Register, View, lce_of}
use Rattle.ld_msg.specs.Sequencer.{Sequencer, Append, Recovery, Acts, raised}
use Rattle.ld_op.specs.declared.op.Op.{Op}
use Rattle.ld_op.specs.Ticks.{Ticked, Cleans, Rebuilt, Asks, Nothing}
use Rattle.ld_machine.specs.Config.{looks_at}
use Rattle.ld_machine.specs.State.{State, finish, node_at}
use Rattle.ld_machine.specs.Step as Step
use Rattle.ld_machine.specs.Calm.{Move, Takes, Calms, moved, last_of}
use Rattle.ld_safety.proofs.Lists.{not_none}
use Rattle.ld_safety.proofs.Appends.{RowOf}
use Rattle.ld_safety.proofs.Base.{counts_of}
use Rattle.ld_safety.proofs.Continues.{reply_continues, retry_continues}
use Rattle.ld_safety.proofs.Registers.{follows}
use Rattle.ld_safety.proofs.SequencerSteps.{Acting, Retrying, Closing, gone_of, replied, retried}
use Rattle.ld_served.proofs.Stepping.{delivered, ticking, polling, announcing}
use Rattle.ld_served.proofs.Last.{LastOf, last_put, last_is}
use Rattle.ld_served.proofs.Free.{open_still}
use Rattle.ld_served.proofs.Kept.{Good}
use Rattle.ld_served.proofs.Replying.{names}

-- ---- one call ----
module _ (c : Config) (r : Register) (q : Sequencer) (N : q.appends ≡ []) where
  close_none : (looks : ℕ → View) (a : Acts) (e : ℕ) (y : Summary) (short : Bool) → a.sequencer.appends ≡ [] → Closing r looks a e y short (λ k. k.acts.sequencer.appends ≡ [])
  close_none looks a e y short h = record { granted = λ n i o g. h; passed = λ i. h; behind = λ b i. h; overtaken = λ i o. h; failed = λ n g. h }

  no_append : (n : ℕ) (p : Append) → find n q.appends ≡ Some p → (ps : List (ℕ × Append)) → ps ≡ []
  unfolding find
  no_append n p f ps = absurd (not_none (ap (find n) (sym N) ∙ f))

  acting_none : (gone : Recovery → List ℕ) (y : ℕ) (b : Body) → Acting c r gone q y b (λ k m. k.acts.sequencer.appends ≡ [])
  acting_none gone y b = record {
    quiet = N;
    sealed = λ n k f i l. N;
    cleaned_own = λ n s f i h. N;
    acks = λ n p f i g h m. no_append n p h _;
    lost_own = λ n round g end f i h. N;
    cleaned = λ v n s f e i h. N;
    asks_more = λ w d asks f H a n u. N;
    plans = λ w d loss f H p. N;
    looks_closed = λ w d s f H u o. N;
    looks_later = λ w d f H u o n. N;
    stores_on = λ w g f H t. N;
    closes_now = λ w g f H t. close_none (looks_at c r q.log) _ w.epoch _ _ N;
    lost_closing = λ v s short n round g end f e i h j. N;
  }

  up : raised q.spec q.appends ≡ []
  up = ap (raised q.spec) N

  retrying_none : (gone : Recovery → List ℕ) → Retrying c r gone q (λ k m. k.acts.sequencer.appends ≡ [])
  retrying_none gone = record {
    quiet = N;
    appends = λ f. up;
    seals = λ v d f e h u. up;
    plans = λ v d f e h p. up;
    looks_closed = λ v d s f e h u o. up;
    looks_later = λ v d f e h u o n. up;
    stores_on = λ v g f e h t. up;
    closes_now = λ v g f e h t. close_none (looks_at c r q.log) _ v.epoch _ _ up;
    closes = λ v y short f e h. close_none (looks_at c r q.log) _ v.epoch y short up;
  }

-- ---- a step ----

-- the log's last sequencer was the last one before, and has no more appends
abbrev pub NoMore : ℕ → List (List ℕ × Sequencer) → List (List ℕ × Sequencer) → Type 0
NoMore l qs rs = (name : List ℕ) (p : Sequencer) → LastOf rs l name p → (q : Sequencer) × LastOf qs l name q × (p.epoch ≡ q.epoch) × (q.appends ≡ [] → p.appends ≡ [])

same_last : (l : ℕ) (qs : List (List ℕ × Sequencer)) → NoMore l qs qs
same_last l qs name p L = (p, L, refl, λ h. h)

put_last : (l : ℕ) (qs : List (List ℕ × Sequencer)) (name : List ℕ) (q p : Sequencer) → find_named name qs ≡ Some q → p.log ≡ q.log → p.epoch ≡ q.epoch → (q.appends ≡ [] → p.appends ≡ []) → NoMore l qs (put_named name p qs)
put_last l qs name q p f lg ep h n r L = elim (last_put qs name q p l n r f lg ep L) [
  | inl z ↦ (q, subst (λ k. LastOf qs l k q) (sym z.0) z.2, ap (λ (x : Sequencer). x.epoch) z.1 ∙ ep, λ e. subst (λ (x : Sequencer). x.appends ≡ []) (sym z.1) (h e))
  | inr z ↦ (r, z, refl, λ e. e)
]

-- no append of the log's last sequencer waits, and all epochs before its own are closed
abbrev pub AtRest : State → ℕ → Type 0
AtRest s l = (name : List ℕ) (q : Sequencer) → LastOf s.sequencers l name q → (q.appends ≡ []) × (lce_of s.register q.log + 1 ≡ q.epoch)

module _ (c : Config) (s : State) (A : Good c s) (l : ℕ) where
  rows : (name : List ℕ) (q : Sequencer) → find_named name s.sequencers ≡ Some q → RowOf q
  rows name q f = (counts_of c A.of_run.steps (record { state = s; made = A.of_run.made; joined = A.of_run.joined }) A.of_run.known.lined.0.0.0 name q f).row

  handled_same : (t : State) (n : ℕ) (m : Msg) (o : Option Op) (a : Option Body) → (Step.handles t n m o a).state.sequencers ≡ t.sequencers
  handled_same t n m None a = refl
  handled_same t n m (Some o) a = refl

  ticked_same : (n k : ℕ) (t : Ticked) → (Step.ticks_as c s n k t).state.sequencers ≡ s.sequencers
  ticked_same n k (Cleans e y) = refl
  ticked_same n k Rebuilt = refl
  ticked_same n k (Asks from) = refl
  ticked_same n k Nothing = refl

  pub delivers_no_more : (i : ℕ) → NoMore l s.sequencers (moved c s (Takes (events.Deliver i))).state.sequencers
  unfolding finish
  delivers_no_more i = delivered c s i (λ d. NoMore l s.sequencers d.state.sequencers) (names c s A) (record {
    unheard = λ k. same_last l s.sequencers;
    none = λ k. same_last l s.sequencers;
    to_node = λ n m f t v. subst (NoMore l s.sequencers) (sym (handled_same _ n m (Step.node_handles n (node_at s n) m).op (Step.node_handles n (node_at s n) m).answer)) (same_last l s.sequencers);
    to_sequencer = λ name q m f t g v. (let z = reply_continues c s q (rows name q v.named) name (Step.sender_node m.from) m.body v.there in
        put_last l s.sequencers name q _ v.named z.log z.epoch (λ h. replied c s name q v.there (Step.sender_node m.from) m.body (λ k n. k.acts.sequencer.appends ≡ []) (acting_none c s.register q h (gone_of s q) (Step.sender_node m.from) m.body)));
    to_reader = λ name d m f t v. same_last l s.sequencers;
  })

  pub ticks_no_more : (n k : ℕ) → NoMore l s.sequencers (moved c s (Takes (events.Tick n k))).state.sequencers
  unfolding finish
  ticks_no_more n k = ticking c s n k (λ d. NoMore l s.sequencers d.state.sequencers) (record { still = λ h. same_last l s.sequencers; ticks = λ t g v h. subst (NoMore l s.sequencers) (sym (ticked_same n k t)) (same_last l s.sequencers) })

  pub polls_no_more : (name : List ℕ) → NoMore l s.sequencers (moved c s (Takes (events.Poll name))).state.sequencers
  unfolding finish
  polls_no_more name = polling c s name (λ d. NoMore l s.sequencers d.state.sequencers) (record { still = λ k. same_last l s.sequencers; polls = λ d v. same_last l s.sequencers })

  pub announces_no_more : (k : ℕ) (q : List ℕ × Sequencer) → last_of s k ≡ Some q → q.1.gone ≡ false → NoMore l s.sequencers (moved c s (Calms q.0)).state.sequencers
  unfolding finish
  announces_no_more k q e g = let f = (last_is s k q (names c s A).0 e).named in
      announcing c s q.0 q.1 (λ d. NoMore l s.sequencers d.state.sequencers) f g (let z = retry_continues c s q.1 (rows q.0 q.1 f) g in
      put_last l s.sequencers q.0 q.1 _ f z.log z.epoch (λ h. retried c s q.1 g (λ x n. x.acts.sequencer.appends ≡ []) (retrying_none c s.register q.1 h (gone_of s q.1))))

  -- closed epochs stay closed, and its own stays open
  stays : (m : Move) → NoMore l s.sequencers (moved c s m).state.sequencers → Good c (moved c s m).state → AtRest s l → AtRest (moved c s m).state l
  unfolding finish
  stays m H B R name p L =
      let t : State = (moved c s m).state in
      let z = H name p L in
      let r = R name z.0 z.1 in
      let up = ((follows c s m (names c s A) A.of_run.known.lined.0.0.0.1.0).0 p.log).1 in
      let same : z.0.log ≡ p.log = z.1.log ∙ sym L.log in
      let closed : lce_of s.register p.log + 1 ≡ p.epoch = ap (λ x. lce_of s.register x + 1) (sym same) ∙ (r.1 ∙ sym z.2) in
      let top : lce_of t.register p.log < p.epoch = open_still c B.of_run.steps (record { state = t; made = B.of_run.made; joined = B.of_run.joined }) B.of_run.known B.healthy.nodes l name p L in
      (z.3 r.0, let low : lce_of s.register p.log ≤ lce_of t.register p.log = up in omega arith)

  pub rest_delivers : (i : ℕ) → Good c (moved c s (Takes (events.Deliver i))).state → AtRest s l → AtRest (moved c s (Takes (events.Deliver i))).state l
  rest_delivers i B R = stays (Takes (events.Deliver i)) (delivers_no_more i) B R

  pub rest_ticks : (n k : ℕ) → Good c (moved c s (Takes (events.Tick n k))).state → AtRest s l → AtRest (moved c s (Takes (events.Tick n k))).state l
  rest_ticks n k B R = stays (Takes (events.Tick n k)) (ticks_no_more n k) B R

  pub rest_polls : (name : List ℕ) → Good c (moved c s (Takes (events.Poll name))).state → AtRest s l → AtRest (moved c s (Takes (events.Poll name))).state l
  rest_polls name B R = stays (Takes (events.Poll name)) (polls_no_more name) B R

  pub rest_announces : (k : ℕ) (q : List ℕ × Sequencer) → last_of s k ≡ Some q → q.1.gone ≡ false → Good c (moved c s (Calms q.0)).state → AtRest s l → AtRest (moved c s (Calms q.0)).state l
  rest_announces k q e g B R = stays (Calms q.0) (announces_no_more k q e g) B R
