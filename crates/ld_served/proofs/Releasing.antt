-- A step of a calm lets no released number fall that a node keeps; and it leaves a log's last sequencer its set, and what it released where no append waits and all epochs before its own are closed.
use Rattle.std.proofs.Common.{◌≡◌, ◌∙◌, ◌≤◌, ℕ, ◌+◌, max, inl, inr, refl, ap, sym, subst, Bool, true, false, ◌&&◌, nat_lt, List, [], Option, Some, None, arith}
use Rattle.std.proofs.lemmas.Bool.{and_from, ltb-true}
use Rattle.std.specs.Option.{unwrap_or}
use Rattle.ld_table.specs.Table.{find}
use Rattle.ld_table.specs.Named.{find_named}
use Rattle.ld_table.proofs.Laws.{put_cases, find-put_same}
use Rattle.ld_lsn.specs.Number.{numbered, epoch_end}
use Rattle.ld_config.specs.declared.config.Config.{Config}
use Rattle.ld_schedule.specs.declared.event.Event.TheVariants as events
use Rattle.ld_msg.specs.declared.msg.Summary.{Summary}
use Rattle.ld_msg.specs.declared.msg.Who.TheVariants as whos
use Rattle.ld_msg.specs.declared.msg.Msg.{Msg}
use Rattle.ld_msg.specs.declared.msg.Body.{Body}
use Rattle.ld_msg.specs.declared.msg.Body.TheVariants as bodies
use Rattle.ld_msg.specs.Network.{message}
use Rattle.ld_msg.specs.Register.{Register, lce_of}
use Rattle.ld_msg.specs.Sequencer.{Sequencer, Append, Recovery, Acts, released_of}
use Rattle.ld_op.specs.declared.op.Op.{Op}
use Rattle.ld_op.specs.declared.op.Op.TheVariants as ops
use Rattle.ld_op.specs.Answers.{on_release}
use Rattle.ld_op.specs.Ticks.{Ticked, Cleans, Rebuilt, Asks, Nothing}
use Rattle.ld_machine.specs.Config.{looks_at, has_log}
use Rattle.ld_machine.specs.Disk.{Node, Fate, Made, FailsAt, CrashesAt, fate, new_node, keep_op, kept_by, is_full_for, op_calls, is_up, Failed}
use Rattle.ld_machine.specs.State.{State, finish, node_at, with_node}
use Rattle.ld_machine.specs.World.{to_node_of}
use Rattle.ld_machine.specs.Step as Step
use Rattle.ld_machine.specs.Calm.{Takes, Calms, moved}
use Rattle.ld_safety.proofs.Lists.{Some_inj, not_none, cond_both}
use Rattle.ld_safety.proofs.Events.{NamesOnce, reply_call, retry_call}
use Rattle.ld_safety.proofs.LastClose.{NextOf}
use Rattle.ld_safety.proofs.SequencerSteps.{Acting, Retrying, Closing, heard_epoch, stored_epoch, gone_of, replied, retried}
use Rattle.ld_served.proofs.Stepping.{delivered, ticking, polling, announcing}
use Rattle.ld_served.proofs.Well.{node_here}

-- ---- nodes ----

-- no node's released number is lower
abbrev pub Risen : State → State → Type 0
Risen s t = (y l : ℕ) → Step.released_at (node_at s y) l ≤ Step.released_at (node_at t y) l

-- a record leaves them
kept_released : (x : Node) (o : Op) → (keep_op x o).released ≡ x.released
unfolding keep_op
kept_released x o = cond_both (is_full_for x o) (record x { status = Failed }) (kept_by x o (fate (op_calls x o) x.fault)) (λ z. z.released ≡ x.released) (λ t. refl) (λ t. by_fate (fate (op_calls x o) x.fault)) where
  by_fate : (f : Fate) → (kept_by x o f).released ≡ x.released
  by_fate Made = refl
  by_fate (FailsAt k) = refl
  by_fate (CrashesAt k v) = refl

-- a message only raises them
heard_up : (x : Node) (l : ℕ) (b : Body) (k : ℕ) → Step.released_at x k ≤ Step.released_at (Step.releases x l b) k
unfolding on_release
heard_up x l (bodies.Release y) k = elim (put_cases k l (max (Step.released_at x l) y) x.released) [
  | inl e ↦ subst (λ (o : Option ℕ). Step.released_at x k ≤ unwrap_or o 0) (sym e.1) (subst (λ j. Step.released_at x k ≤ max (Step.released_at x j) y) e.0 (omega arith))
  | inr e ↦ subst (λ (o : Option ℕ). Step.released_at x k ≤ unwrap_or o 0) (sym e.1) (omega arith)
]
heard_up x l _ k = omega arith

-- and one that tells a number raises the log's to it
heard_here : (x : Node) (l y : ℕ) → y ≤ Step.released_at (Step.releases x l (bodies.Release y)) l
unfolding on_release
heard_here x l y = subst (λ (o : Option ℕ). y ≤ unwrap_or o 0) (sym (find-put_same l l (max (Step.released_at x l) y) x.released refl)) (omega arith)

here : (s : State) → Risen s s
here s y l = omega arith

put_up : (s t : State) (n : ℕ) (x : Node) → ((l : ℕ) → Step.released_at (node_at s n) l ≤ Step.released_at x l) → Risen s t → Risen s (with_node t n x)
put_up s t n x h a y l = elim (put_cases y n x t.nodes) [
  | inl e ↦ subst (λ (o : Option Node). Step.released_at (node_at s y) l ≤ Step.released_at (unwrap_or o new_node) l) (sym e.1) (subst (λ k. Step.released_at (node_at s k) l ≤ Step.released_at x l) (sym e.0) (h l))
  | inr e ↦ subst (λ (o : Option Node). Step.released_at (node_at s y) l ≤ Step.released_at (unwrap_or o new_node) l) (sym e.1) (a y l)
]

keeps_up : (s t : State) (n : ℕ) (o : Op) → Risen s t → Risen s (with_node t n (keep_op (node_at t n) o))
keeps_up s t n o a = put_up s t n (keep_op (node_at t n) o) (λ l. subst (λ (r : List (ℕ × ℕ)). Step.released_at (node_at s n) l ≤ unwrap_or (find l r) 0) (sym (kept_released (node_at t n) o)) (a n l)) a

handled_up : (s t : State) (n : ℕ) (m : Msg) (o : Option Op) (b : Option Body) → Risen s t → Risen s (Step.handles t n m o b).state
handled_up s t n m None b a = a
handled_up s t n m (Some o) b a = keeps_up s t n o a

ticked_up : (c : Config) (s : State) (n l : ℕ) (t : Ticked) → Risen s (Step.ticks_as c s n l t).state
ticked_up c s n l (Cleans k y) = keeps_up s s n (ops.Clean l k y) (here s)
ticked_up c s n l Rebuilt = keeps_up s s n (ops.Refilled l) (here s)
ticked_up c s n l (Asks from) = here s
ticked_up c s n l Nothing = here s

module _ (c : Config) (s : State) (N : NamesOnce s) where
  heard : (i n : ℕ) (m : Msg) → Risen s (with_node (Step.marked s i) n (Step.releases (node_at s n) m.log m.body))
  heard i n m = put_up s (Step.marked s i) n (Step.releases (node_at s n) m.log m.body) (heard_up (node_at s n) m.log m.body) (here s)

  pub delivers_risen : (i : ℕ) → Risen s (moved c s (Takes (events.Deliver i))).state
  unfolding finish
  delivers_risen i = delivered c s i (λ d. Risen s d.state) N (record {
    unheard = λ h. here s;
    none = λ h. here s;
    to_node = λ n m f t v. handled_up s (with_node (Step.marked s i) n (Step.releases (node_at s n) m.log m.body)) n m (Step.node_handles n (node_at s n) m).op (Step.node_handles n (node_at s n) m).answer (heard i n m);
    to_sequencer = λ name q m f t l v. here s;
    to_reader = λ name d m f t v. here s;
  })

  pub ticks_risen : (n l : ℕ) → Risen s (moved c s (Takes (events.Tick n l))).state
  unfolding finish
  ticks_risen n l = ticking c s n l (λ d. Risen s d.state) (record { still = λ h. here s; ticks = λ t g v h. ticked_up c s n l t })

  pub polls_risen : (name : List ℕ) → Risen s (moved c s (Takes (events.Poll name))).state
  unfolding finish
  polls_risen name = polling c s name (λ d. Risen s d.state) (record { still = λ h. here s; polls = λ d v. here s })

  pub announces_risen : (name : List ℕ) (q : Sequencer) → find_named name s.sequencers ≡ Some q → q.gone ≡ false → Risen s (moved c s (Calms name)).state
  unfolding finish
  announces_risen name q f g = announcing c s name q (λ d. Risen s d.state) f g (here s)

  -- a node that is up keeps what a message to it tells
  pub release_heard : (i l b y r : ℕ) → message s.network i ≡ Some (to_node_of l b y (bodies.Release r)) → is_up (node_at s y).status ≡ true → has_log c l ≡ true → r ≤ Step.released_at (node_at (moved c s (Takes (events.Deliver i))).state y) l
  unfolding finish
  release_heard i l b y r e up log = delivered c s i (λ d. r ≤ Step.released_at (node_at d.state y) l) N (record {
    unheard = λ h. absurd (let z = (h k e).node y refl in let x : (is_up (node_at s y).status && has_log c l) ≡ true = and_from (is_up (node_at s y).status) (has_log c l) up log in let u : true ≡ false = sym x ∙ z in cc);
    none = λ h. absurd (not_none (sym h ∙ e));
    to_node = λ n m f g v. to_this n m f g;
    to_sequencer = λ name q m f g a v. absurd (let z : whos.Node y ≡ whos.Sequencer q.epoch = ap (λ (x : Msg). x.to) (Some_inj (sym e ∙ f)) ∙ g in cc);
    to_reader = λ name d m f g v. absurd (let z : whos.Node y ≡ whos.Reader d.number = ap (λ (x : Msg). x.to) (Some_inj (sym e ∙ f)) ∙ g in cc);
  }) where
    k : Msg
    k = to_node_of l b y (bodies.Release r)

    x : Node
    x = Step.releases (node_at s y) l (bodies.Release r)

    this : r ≤ Step.released_at (node_at (Step.to_up_node (Step.marked s i) y (to_node_of l b y (bodies.Release r))).state y) l
    this =
        let t : State = with_node (Step.marked s i) y x in
        let a : r ≤ Step.released_at (node_at t y) l = subst (λ (z : Node). r ≤ Step.released_at z l) (sym (node_here (Step.marked s i) y x)) (heard_here (node_at s y) l r) in
        let u = handled_up t t y k (Step.node_handles y (node_at s y) k).op (Step.node_handles y (node_at s y) k).answer (here t) y l in omega arith

    to_this : (n : ℕ) (m : Msg) → message s.network i ≡ Some m → m.to ≡ whos.Node n → r ≤ Step.released_at (node_at (Step.to_up_node (Step.marked s i) n m).state y) l
    to_this n m f g =
        let same : k ≡ m = Some_inj (sym e ∙ f) in
        let z : whos.Node y ≡ whos.Node n = ap (λ (v : Msg). v.to) same ∙ g in
        let node : y ≡ n = cc in
        subst (λ (j : ℕ). r ≤ Step.released_at (node_at (Step.to_up_node (Step.marked s i) j m).state y) l) node
        (subst (λ (v : Msg). r ≤ Step.released_at (node_at (Step.to_up_node (Step.marked s i) y v).state y) l) same this)

-- ---- one call ----

-- the same sequencer after a call: with the set that it had, and where no append of it waits with the last known good number that it had
pub record GoesOn (q p : Sequencer) : Type 0 where
  pub log : p.log ≡ q.log
  pub epoch : p.epoch ≡ q.epoch
  pub spec : p.spec ≡ q.spec
  pub lce : q.lce ≤ p.lce
  pub lng : q.appends ≡ [] → p.lng ≡ q.lng

pub as_before : (q : Sequencer) → GoesOn q q
as_before q = record { log = refl; epoch = refl; spec = refl; lce = omega arith; lng = λ h. refl }

-- all epochs before its own are closed: it released all that it knows good
released_late : (q : Sequencer) → q.epoch ≤ q.lce + 1 → released_of q ≡ numbered q.epoch q.lng
released_late q h = cond_both (nat_lt (q.lce + 1) q.epoch) (epoch_end q.lce) (numbered q.epoch q.lng) (λ r. r ≡ numbered q.epoch q.lng) (λ t. absurd (let z = ltb-true (q.lce + 1) q.epoch t in omega arith)) (λ t. refl)

pub released_rests : (q p : Sequencer) → GoesOn q p → q.appends ≡ [] → q.epoch ≤ q.lce + 1 → (released_of p ≡ released_of q) × (p.epoch ≤ p.lce + 1)
released_rests q p O n h =
    let late : p.epoch ≤ p.lce + 1 = (let a = O.epoch in let b = O.lce in omega arith) in
    (released_late p late ∙ ((λ j. numbered (O.epoch j) (O.lng n j)) ∙ sym (released_late q h)), late)

module _ (c : Config) (r : Register) (q : Sequencer) (low : q.lce ≤ lce_of r q.log) (N : NextOf q) where
  close_onward : (a : Acts) (e : ℕ) (y : Summary) (short : Bool) → GoesOn q a.sequencer → e ≡ q.lce + 1 → Closing r (looks_at c r q.log) a e y short (λ k. GoesOn q k.acts.sequencer)
  close_onward a e y short h f = record {
    granted = λ n i o g. record { log = h.log; epoch = h.epoch; spec = h.spec; lce = omega arith; lng = h.lng };
    passed = λ i. record { log = h.log; epoch = h.epoch; spec = h.spec; lce = h.lce; lng = h.lng };
    behind = λ b i. record { log = h.log; epoch = h.epoch; spec = h.spec; lce = subst (λ l. q.lce ≤ lce_of r l) (sym h.log) low; lng = h.lng };
    overtaken = λ i o. record { log = h.log; epoch = h.epoch; spec = h.spec; lce = h.lce; lng = h.lng };
    failed = λ n g. h;
  }

  next_up : (e : ℕ) → e ≡ q.lce + 1 → q.lce ≤ e
  next_up e h = omega arith

  -- a number is acknowledged only where an append waits
  none_waits : (n k : ℕ) (p : Append) → find n q.appends ≡ Some p → q.appends ≡ [] → k ≡ q.lng
  unfolding find
  none_waits n k p f e = absurd (not_none (ap (find n) (sym e) ∙ f))

  acting_onward : (gone : Recovery → List ℕ) (y : ℕ) (b : Body) → Acting c r gone q y b (λ k m. GoesOn q k.acts.sequencer)
  acting_onward gone y b = record {
    quiet = as_before q;
    sealed = λ n k f i l. record { log = refl; epoch = refl; spec = refl; lce = omega arith; lng = λ h. refl };
    cleaned_own = λ n s f i h. record { log = refl; epoch = refl; spec = refl; lce = omega arith; lng = λ h. refl };
    acks = λ n p f i g h m. record { log = refl; epoch = refl; spec = refl; lce = omega arith; lng = none_waits n _ p h };
    lost_own = λ n round g end f i h. record { log = refl; epoch = refl; spec = refl; lce = omega arith; lng = λ h. refl };
    cleaned = λ v n s f e i h. record { log = refl; epoch = refl; spec = refl; lce = next_up v.epoch (N v e); lng = λ h. refl };
    asks_more = λ w d asks f H a n u. record { log = refl; epoch = refl; spec = refl; lce = omega arith; lng = λ h. refl };
    plans = λ w d loss f H p. record { log = refl; epoch = refl; spec = refl; lce = omega arith; lng = λ h. refl };
    looks_closed = λ w d s f H u o. record { log = refl; epoch = refl; spec = refl; lce = next_up w.epoch (heard_epoch q y b w d (λ x. x ≡ q.lce + 1) N H); lng = λ h. refl };
    looks_later = λ w d f H u o n. record { log = refl; epoch = refl; spec = refl; lce = omega arith; lng = λ h. refl };
    stores_on = λ w g f H t. record { log = refl; epoch = refl; spec = refl; lce = omega arith; lng = λ h. refl };
    closes_now = λ w g f H t. close_onward _ w.epoch _ _ (record { log = refl; epoch = refl; spec = refl; lce = omega arith; lng = λ h. refl }) (stored_epoch q y b w g (λ x. x ≡ q.lce + 1) N H);
    lost_closing = λ v s short n round g end f e i h j. record { log = refl; epoch = refl; spec = refl; lce = omega arith; lng = λ h. refl };
  }

  retrying_onward : (gone : Recovery → List ℕ) → Retrying c r gone q (λ k m. GoesOn q k.acts.sequencer)
  retrying_onward gone = record {
    quiet = as_before q;
    appends = λ f. record { log = refl; epoch = refl; spec = refl; lce = omega arith; lng = λ h. refl };
    seals = λ v d f e h u. record { log = refl; epoch = refl; spec = refl; lce = omega arith; lng = λ h. refl };
    plans = λ v d f e h p. record { log = refl; epoch = refl; spec = refl; lce = omega arith; lng = λ h. refl };
    looks_closed = λ v d s f e h u o. record { log = refl; epoch = refl; spec = refl; lce = next_up v.epoch (N v e); lng = λ h. refl };
    looks_later = λ v d f e h u o n. record { log = refl; epoch = refl; spec = refl; lce = omega arith; lng = λ h. refl };
    stores_on = λ v g f e h t. record { log = refl; epoch = refl; spec = refl; lce = omega arith; lng = λ h. refl };
    closes_now = λ v g f e h t. close_onward _ v.epoch _ _ (record { log = refl; epoch = refl; spec = refl; lce = omega arith; lng = λ h. refl }) (N v e);
    closes = λ v y short f e h. close_onward _ v.epoch y short (record { log = refl; epoch = refl; spec = refl; lce = omega arith; lng = λ h. refl }) (N v e);
  }

-- of a sequencer of a state
module _ (c : Config) (s : State) (name : List ℕ) (q : Sequencer) (low : q.lce ≤ lce_of s.register q.log) (N : NextOf q) (there : q.gone ≡ false) where
  pub reply_onward : (y : ℕ) (b : Body) → GoesOn q (reply_call c s q y b).acts.sequencer
  reply_onward y b = replied c s name q there y b (λ k m. GoesOn q k.acts.sequencer) (acting_onward c s.register q low N (gone_of s q) y b)

  pub retry_onward : GoesOn q (retry_call c s q).acts.sequencer
  retry_onward = retried c s q there (λ k m. GoesOn q k.acts.sequencer) (retrying_onward c s.register q low N (gone_of s q))
