-- Each node of the set of a log's last sequencer is told what this one released, or a message under way tells it; and where nothing is under way, and none of its appends waits, it is told so for the rest of a calm.
use Rattle.std.proofs.Common.{◌≡◌, ◌∙◌, ◌≤◌, ◌<◌, ℕ, ◌+◌, inl, inr, refl, ap, sym, subst, Bool, true, false, nat_lt, if◌then◌else◌, List, [], Option, Some, None, is_some, arith}
use Rattle.std.proofs.lemmas.Bool.{cases_lt, lt-ltb}
use Rattle.ld_table.specs.Named.{same, find_named, put_named}
use Rattle.ld_table.proofs.NameLaws.{same-self}
use Rattle.ld_ids.specs.Choice.{nodes_of}
use Rattle.ld_ids.specs.declared.set.Spec.{Spec}
use Rattle.ld_config.specs.declared.config.Config.{Config}
use Rattle.ld_schedule.specs.declared.event.Event.TheVariants as events
use Rattle.ld_msg.specs.declared.msg.Msg.{Msg}
use Rattle.ld_msg.specs.declared.msg.Body.{Body}
use Rattle.ld_msg.specs.declared.msg.Body.TheVariants as bodies
use Rattle.ld_msg.specs.Network.{message, oldest_new}
use Rattle.ld_msg.specs.Register.{lce_of}
use Rattle.ld_msg.specs.Sequencer.{Sequencer, released_of, release_messages, to_each}
use Rattle.ld_op.specs.declared.op.Op.{Op}
use Rattle.ld_op.specs.Ticks.{Ticked, Cleans, Rebuilt, Asks, Nothing}
use Rattle.ld_machine.specs.State.{State, Done, finish, node_at}
use Rattle.ld_machine.specs.World.{In, to_node_of}
use Rattle.ld_machine.specs.Step as Step
use Rattle.ld_machine.specs.Calm.{Move, Takes, Calms, moves, moved, last_of, announcements}
use Rattle.ld_safety.proofs.Lists.{Some_inj, not_none, In_left, In_right}
use Rattle.ld_safety.proofs.Names.{named_cases}
use Rattle.ld_safety.proofs.Events.{reply_call, retry_call}
use Rattle.ld_safety.proofs.LastClose.{NextOf}
use Rattle.ld_safety.proofs.SequencerSteps.{gone_of, retried}
use Rattle.ld_served.proofs.Stepping.{delivered, ticking, polling, announcing}
use Rattle.ld_served.proofs.Waiting.{each_in}
use Rattle.ld_served.proofs.Last.{LastOf, last_put, last_is}
use Rattle.ld_served.proofs.Free.{IsFree, retrying_free, retries_lead}
use Rattle.ld_served.proofs.Kept.{Good}
use Rattle.ld_served.proofs.UnderWay.{UnderWay, none_new, delivery_takes, delivery_adds, retry_adds}
use Rattle.ld_served.proofs.Replying.{names}
use Rattle.ld_served.proofs.Going.{Goes, no_recovery}
use Rattle.ld_served.proofs.Announced.{in_posted}
use Rattle.ld_served.proofs.Resting.{AtRest}
use Rattle.ld_served.proofs.Releasing.{Risen, delivers_risen, ticks_risen, polls_risen, announces_risen, release_heard, GoesOn, as_before, released_rests, reply_onward, retry_onward}

-- ---- what is under way ----

-- the node was told at least this number, or a message tells it
pub data Hears (N : Msg → Type 0) (s : State) (l b r y : ℕ) : Type 0 where
  is_told : r ≤ Step.released_at (node_at s y) l → Hears N s l b r y
  release_goes : (k : ℕ) → r ≤ k → N (to_node_of l b y (bodies.Release k)) → Hears N s l b r y

-- each node of the sequencer's set hears what it released
abbrev pub Tells : (Msg → Type 0) → State → Sequencer → Type 0
Tells N s q = (y : ℕ) → In y (nodes_of q.spec) → Hears N s q.log q.epoch (released_of q) y

-- so it is of a log's last sequencer
abbrev pub LastTells : State → ℕ → Type 0
LastTells s l = (name : List ℕ) (q : Sequencer) → LastOf s.sequencers l name q → Tells (UnderWay s.network) s q

-- ---- where nothing is ----

-- all epochs before its own are closed, and each node of its set was told what it released
pub record HasTold (s : State) (q : Sequencer) : Type 0 where
  pub over : q.epoch ≤ q.lce + 1
  pub each : (y : ℕ) → In y (nodes_of q.spec) → released_of q ≤ Step.released_at (node_at s y) q.log

abbrev pub LastTold : State → ℕ → Type 0
LastTold s l = (name : List ℕ) (q : Sequencer) → LastOf s.sequencers l name q → HasTold s q

pub told_released : (N : Msg → Type 0) → ((m : Msg) → N m → ⊥) → (s : State) (q : Sequencer) → Tells N s q → (y : ℕ) → In y (nodes_of q.spec) → released_of q ≤ Step.released_at (node_at s y) q.log
told_released N none s q T y i = by_hears (T y i) where
  by_hears : Hears N s q.log q.epoch (released_of q) y → released_of q ≤ Step.released_at (node_at s y) q.log
  by_hears (is_told h) = h
  by_hears (release_goes k h n) = absurd (none _ n)

-- when all messages are delivered
pub all_told : (c : Config) (s : State) (A : Good c s) (l : ℕ) → ((name : List ℕ) (q : Sequencer) → LastOf s.sequencers l name q → Goes (UnderWay s.network) q) → LastTells s l → oldest_new s.network ≡ None → LastTold s l
all_told c s A l G T e name q L =
    let none = λ (m : Msg) (u : UnderWay s.network m). none_new s.network m e u in
    let K = A.of_run.known in record {
      over = K.over name q L.named (no_recovery (UnderWay s.network) none q (G name q L) (K.waiting name q L.named) (A.free l name q L).free);
      each = told_released (UnderWay s.network) none s q (T name q L);
    }

-- ---- the last sequencer over a step ----

-- one that goes on, and what is sent to its nodes where it released more
pub record Since (s : State) (l : ℕ) (sends : List Msg) (name : List ℕ) (p : Sequencer) : Type 0 where
  pub was : Sequencer
  pub last : LastOf s.sequencers l name was
  pub onward : GoesOn was p
  pub sent : (y : ℕ) → In y (nodes_of p.spec) → released_of was < released_of p → In (to_node_of p.log p.epoch y (bodies.Release (released_of p))) sends

abbrev FromLast : State → ℕ → Done → Type 0
FromLast s l d = (name : List ℕ) (p : Sequencer) → LastOf d.state.sequencers l name p → Since s l d.sends name p

same_last : (s : State) (l : ℕ) (sends : List Msg) (name : List ℕ) (p : Sequencer) → LastOf s.sequencers l name p → Since s l sends name p
same_last s l sends name p L = record { was = p; last = L; onward = as_before p; sent = λ y i h. absurd (omega arith) }

-- the log's last sequencer was so before, and has released nothing since
abbrev pub SameReleased : State → State → ℕ → Type 0
SameReleased s t l = (name : List ℕ) (p : Sequencer) → LastOf t.sequencers l name p → (q : Sequencer) × LastOf s.sequencers l name q × (released_of p ≡ released_of q)

module _ (c : Config) (s : State) (A : Good c s) (l : ℕ) where
  low : (name : List ℕ) (q : Sequencer) → find_named name s.sequencers ≡ Some q → q.lce ≤ lce_of s.register q.log
  low name q f = (A.of_run.known.lined.0.1.acks name q f).closed

  next : (name : List ℕ) (q : Sequencer) → find_named name s.sequencers ≡ Some q → NextOf q
  next name q f = A.of_run.known.lined.0.1.next name q f

  put_since : (sends : List Msg) (name : List ℕ) (q p : Sequencer) → find_named name s.sequencers ≡ Some q → GoesOn q p → ((y : ℕ) → In y (nodes_of p.spec) → released_of q < released_of p → In (to_node_of q.log q.epoch y (bodies.Release (released_of p))) sends)
      → (n : List ℕ) (r : Sequencer) → LastOf (put_named name p s.sequencers) l n r → Since s l sends n r
  put_since sends name q p f O g n r L = elim (last_put s.sequencers name q p l n r f O.log O.epoch L) [
    | inl z ↦ subst (Since s l sends n) (sym z.1) (record {
      was = q;
      last = subst (λ k. LastOf s.sequencers l k q) (sym z.0) z.2;
      onward = O;
      sent = λ y i h. subst (λ k. In (to_node_of k p.epoch y (bodies.Release (released_of p))) sends) (sym O.log) (subst (λ k. In (to_node_of q.log k y (bodies.Release (released_of p))) sends) (sym O.epoch) (g y i h));
    })
    | inr z ↦ same_last s l sends n r z
  ]

  -- what a call sends where more is released
  told_in : (o : Bool) (b : Body) (y : ℕ) (ys : List ℕ) → o ≡ true → In y ys → In {X = ℕ × Body} (y, b) (if o then to_each b ys else [])
  told_in true b y ys t i = each_in b y ys i
  told_in false b y ys t i = absurd cc

  releases_in : (q p : Sequencer) (y : ℕ) → In y (nodes_of p.spec) → released_of q < released_of p → In {X = ℕ × Body} (y, bodies.Release (released_of p)) (release_messages q p)
  releases_in q p y i h = told_in (nat_lt (released_of q) (released_of p)) (bodies.Release (released_of p)) y (nodes_of p.spec) (lt-ltb (released_of q) (released_of p) h) i

  handled_same : (t : State) (n : ℕ) (m : Msg) (o : Option Op) (a : Option Body) → (Step.handles t n m o a).state.sequencers ≡ t.sequencers
  handled_same t n m None a = refl
  handled_same t n m (Some o) a = refl

  ticked_same : (n k : ℕ) (t : Ticked) → (Step.ticks_as c s n k t).state.sequencers ≡ s.sequencers
  ticked_same n k (Cleans e y) = refl
  ticked_same n k Rebuilt = refl
  ticked_same n k (Asks from) = refl
  ticked_same n k Nothing = refl

  as_it_was : (sends : List Msg) (qs : List (List ℕ × Sequencer)) → qs ≡ s.sequencers → (name : List ℕ) (p : Sequencer) → LastOf qs l name p → Since s l sends name p
  as_it_was sends qs e name p L = same_last s l sends name p (subst (λ z. LastOf z l name p) e L)

  delivers_since : (i : ℕ) → FromLast s l (moves c s (Takes (events.Deliver i)))
  delivers_since i = delivered c s i (λ d. FromLast s l d) (names c s A) (record {
    unheard = λ h. same_last s l [];
    none = λ h. same_last s l [];
    to_node = λ n m f t v. as_it_was _ _ (handled_same _ n m (Step.node_handles n (node_at s n) m).op (Step.node_handles n (node_at s n) m).answer);
    to_sequencer = λ name q m f t g v. (let k = reply_call c s q (Step.sender_node m.from) m.body in
        put_since _ name q k.acts.sequencer v.named (reply_onward c s name q (low name q v.named) (next name q v.named) v.there (Step.sender_node m.from) m.body)
        (λ y i h. in_posted q.log q.epoch (y, bodies.Release (released_of k.acts.sequencer)) _ (In_right _ k.acts.cleans _ (In_left _ (release_messages q k.acts.sequencer) _ (releases_in q k.acts.sequencer y i h)))));
    to_reader = λ name d m f t v. same_last s l _;
  })

  ticks_since : (n k : ℕ) → FromLast s l (moves c s (Takes (events.Tick n k)))
  ticks_since n k = ticking c s n k (λ d. FromLast s l d) (record { still = λ h. same_last s l []; ticks = λ t g v h. as_it_was _ _ (ticked_same n k t) })

  polls_since : (name : List ℕ) → FromLast s l (moves c s (Takes (events.Poll name)))
  polls_since name = polling c s name (λ d. FromLast s l d) (record { still = λ h. same_last s l []; polls = λ d v. same_last s l _ })

  announces_since : (name : List ℕ) (q : Sequencer) → find_named name s.sequencers ≡ Some q → q.gone ≡ false → FromLast s l (moves c s (Calms name))
  announces_since name q f g = announcing c s name q (λ d. FromLast s l d) f g (let k = retry_call c s q in
      put_since _ name q k.acts.sequencer f (retry_onward c s name q (low name q f) (next name q f) g)
      (λ y i h. in_posted q.log q.epoch (y, bodies.Release (released_of k.acts.sequencer)) _ (In_right _ k.acts.cleans _ (In_left _ (release_messages q k.acts.sequencer) _ (releases_in q k.acts.sequencer y i h)))))

  -- ---- told, for the rest of a calm ----
  told_stays : (m : Move) → FromLast s l (moves c s m) → Risen s (moved c s m).state → AtRest s l → LastTold s l → LastTold (moved c s m).state l
  unfolding finish
  told_stays m F U R T name p L =
      let z = F name p L in
      let before = T name z.was z.last in
      let rests = released_rests z.was p z.onward (R name z.was z.last).0 before.over in record {
        over = rests.1;
        each = λ y i. (let a : released_of z.was ≤ Step.released_at (node_at s y) p.log = subst (λ k. released_of z.was ≤ Step.released_at (node_at s y) k) (sym z.onward.log) (before.each y (subst (λ (x : Spec). In y (nodes_of x)) z.onward.spec i)) in
            let u = U y p.log in let e = rests.0 in omega arith);
      }

  rests_so : (m : Move) → FromLast s l (moves c s m) → AtRest s l → LastTold s l → SameReleased s (moved c s m).state l
  unfolding finish
  rests_so m F R T name p L = let z = F name p L in (z.was, z.last, (released_rests z.was p z.onward (R name z.was z.last).0 (T name z.was z.last).over).0)

  pub same_delivers : (i : ℕ) → AtRest s l → LastTold s l → SameReleased s (moved c s (Takes (events.Deliver i))).state l
  same_delivers i = rests_so (Takes (events.Deliver i)) (delivers_since i)

  pub same_ticks : (n k : ℕ) → AtRest s l → LastTold s l → SameReleased s (moved c s (Takes (events.Tick n k))).state l
  same_ticks n k = rests_so (Takes (events.Tick n k)) (ticks_since n k)

  pub same_polls : (name : List ℕ) → AtRest s l → LastTold s l → SameReleased s (moved c s (Takes (events.Poll name))).state l
  same_polls name = rests_so (Takes (events.Poll name)) (polls_since name)

  pub same_announces : (k : ℕ) (q : List ℕ × Sequencer) → last_of s k ≡ Some q → q.1.gone ≡ false → AtRest s l → LastTold s l → SameReleased s (moved c s (Calms q.0)).state l
  same_announces k q e g = rests_so (Calms q.0) (announces_since q.0 q.1 (last_is s k q (names c s A).0 e).named g)

  pub told_delivers : (i : ℕ) → AtRest s l → LastTold s l → LastTold (moved c s (Takes (events.Deliver i))).state l
  told_delivers i = told_stays (Takes (events.Deliver i)) (delivers_since i) (delivers_risen c s (names c s A) i)

  pub told_ticks : (n k : ℕ) → AtRest s l → LastTold s l → LastTold (moved c s (Takes (events.Tick n k))).state l
  told_ticks n k = told_stays (Takes (events.Tick n k)) (ticks_since n k) (ticks_risen c s (names c s A) n k)

  pub told_polls : (name : List ℕ) → AtRest s l → LastTold s l → LastTold (moved c s (Takes (events.Poll name))).state l
  told_polls name = told_stays (Takes (events.Poll name)) (polls_since name) (polls_risen c s (names c s A) name)

  pub told_announces : (k : ℕ) (q : List ℕ × Sequencer) → last_of s k ≡ Some q → q.1.gone ≡ false → AtRest s l → LastTold s l → LastTold (moved c s (Calms q.0)).state l
  told_announces k q e g = let f = (last_is s k q (names c s A).0 e).named in told_stays (Calms q.0) (announces_since q.0 q.1 f g) (announces_risen c s (names c s A) q.0 q.1 f g)

  -- ---- a delivery ----
  less : (N : Msg → Type 0) (t : State) (k b r w y : ℕ) → w ≤ r → Hears N t k b r y → Hears N t k b w y
  less N t k b r w y h (is_told a) = is_told (omega arith)
  less N t k b r w y h (release_goes j a n) = release_goes j (omega arith) n

  module _ (i : ℕ) (m : Msg) (e : message s.network i ≡ Some m) where
    abbrev after : Msg → Type 0
    after k = UnderWay (moved c s (Takes (events.Deliver i))).state.network k

    hears_on : (name : List ℕ) (q : Sequencer) → LastOf s.sequencers l name q → (r y : ℕ) → In y (nodes_of q.spec) → Hears (UnderWay s.network) s q.log q.epoch r y → Hears after (moved c s (Takes (events.Deliver i))).state q.log q.epoch r y
    hears_on name q L r y j (is_told h) = is_told (let u = delivers_risen c s (names c s A) i y q.log in omega arith)
    hears_on name q L r y j (release_goes k h n) = elim (delivery_takes c s (names c s A) A.of_run.known.places i m (to_node_of q.log q.epoch y (bodies.Release k)) e n) [
      | inl z ↦ is_told (let well = A.healthy.nodes y ((A.of_run.known.setting.1.2 name q L.named).0 y j) in
          let u = release_heard c s (names c s A) i q.log q.epoch y k (e ∙ ap Some (sym z)) well.up (A.of_run.known.setting.0.1.0 name q L.named) in omega arith)
      | inr a ↦ release_goes k h a
    ]

    tells_heard : LastTells s l → LastTells (moved c s (Takes (events.Deliver i))).state l
    unfolding finish
    tells_heard T name p L y j =
        let z = delivers_since i name p L in
        let old : In y (nodes_of z.was.spec) = subst (λ (x : Spec). In y (nodes_of x)) z.onward.spec j in
        elim (cases_lt (released_of z.was) (released_of p)) [
          | inl a ↦ release_goes (released_of p) (omega arith) (delivery_adds c s (names c s A) A.of_run.known.places i m _ e (z.sent y j a))
          | inr a ↦ less after (moved c s (Takes (events.Deliver i))).state p.log p.epoch (released_of z.was) (released_of p) y a
              (subst (λ k. Hears after (moved c s (Takes (events.Deliver i))).state k p.epoch (released_of z.was) y) (sym z.onward.log)
              (subst (λ k. Hears after (moved c s (Takes (events.Deliver i))).state z.was.log k (released_of z.was) y) (sym z.onward.epoch)
              (hears_on name z.was z.last (released_of z.was) y old (T name z.was z.last y old))))
        ]

  pub tells_delivers : (i : ℕ) → LastTells s l → LastTells (moved c s (Takes (events.Deliver i))).state l
  unfolding finish Step.happens Step.delivers
  tells_delivers i T = by_message (message s.network i) refl where
    by_message : (o : Option Msg) → message s.network i ≡ o → LastTells (moved c s (Takes (events.Deliver i))).state l
    by_message None e = subst (λ (o : Option Msg). LastTells (finish (Step.delivers_it c s i o)).state l) (sym e) T
    by_message (Some m) e = tells_heard i m e T

-- ---- the retry that begins a calm ----
module _ (c : Config) (s : State) (A : Good c s) (l : ℕ) (q : List ℕ × Sequencer) (e : last_of s l ≡ Some q) (there : q.1.gone ≡ false) where
  abbrev now : Sequencer
  now = (retry_call c s q.1).acts.sequencer

  L : LastOf s.sequencers l q.0 q.1
  L = last_is s l q (names c s A).0 e

  onward : GoesOn q.1 now
  onward = retry_onward c s q.0 q.1 (low c s A l q.0 q.1 L.named) (next c s A l q.0 q.1 L.named) there

  free : now.preempted ≡ None
  free = (retried c s q.1 there (λ x n. IsFree x.acts.sequencer) (retrying_free c s.register q.1 (gone_of s q.1) (A.free l q.0 q.1 L)
      (retries_lead c A.of_run.steps (record { state = s; made = A.of_run.made; joined = A.of_run.joined }) A.of_run.known A.healthy.nodes l q.0 q.1 L))).free

  told_all : (o : Option ℕ) (b : Body) (y : ℕ) (ys : List ℕ) → o ≡ None → In y ys → In {X = ℕ × Body} (y, b) (if is_some o then [] else to_each b ys)
  told_all None b y ys h i = each_in b y ys i
  told_all (Some k) b y ys h i = absurd (not_none (sym h))

  pub announced_tells : Tells (UnderWay (moved c s (Calms q.0)).state.network) (moved c s (Calms q.0)).state now
  announced_tells y i = release_goes (released_of now) (omega arith)
      (subst (λ k. UnderWay (moved c s (Calms q.0)).state.network (to_node_of k now.epoch y (bodies.Release (released_of now)))) (sym onward.log)
      (subst (λ k. UnderWay (moved c s (Calms q.0)).state.network (to_node_of q.1.log k y (bodies.Release (released_of now)))) (sym onward.epoch)
      (retry_adds c s (names c s A) A.of_run.known.places q.0 q.1 (to_node_of q.1.log q.1.epoch y (bodies.Release (released_of now))) L.named there
      (announcing c s q.0 q.1 (λ d. In (to_node_of q.1.log q.1.epoch y (bodies.Release (released_of now))) d.sends) L.named there
      (in_posted q.1.log q.1.epoch (y, bodies.Release (released_of now)) _ (In_right _ (retry_call c s q.1).acts.cleans _ (In_right _ (release_messages q.1 now) _ (In_left _ (announcements now) _
      (told_all now.preempted (bodies.Release (released_of now)) y (nodes_of now.spec) free i)))))))))

  same_name : (a b : List ℕ) → a ≡ b → same a b ≡ true
  same_name a b h = subst (λ x. same a x ≡ true) h (same-self a)

  -- it is the log's last one then
  last_now : (name : List ℕ) (p : Sequencer) → LastOf (moved c s (Calms q.0)).state.sequencers l name p → p ≡ now
  unfolding finish
  last_now name p M = announcing c s q.0 q.1 (λ d. LastOf d.state.sequencers l name p → p ≡ now) L.named there (λ M. elim (last_put s.sequencers q.0 q.1 now l name p L.named onward.log onward.epoch M) [
    | inl z ↦ z.1
    | inr z ↦ (
        let up : p.epoch ≤ q.1.epoch = L.most name p z.named z.log in
        let down : q.1.epoch ≤ p.epoch = z.most q.0 q.1 L.named L.log in
        let one : name ≡ q.0 = A.of_run.known.lined.0.0.0.0.1.epochs.once name q.0 p q.1 z.named L.named (z.log ∙ sym L.log) (omega arith) in
        elim (named_cases name q.0 now s.sequencers) [
          | inl k ↦ Some_inj (sym M.named ∙ k.1)
          | inr k ↦ absurd (let a = same_name name q.0 one in let u : true ≡ false = sym a ∙ k.0 in cc)
        ])
  ]) M

  pub announced_last : LastTells (moved c s (Calms q.0)).state l
  announced_last name p M = subst (Tells (UnderWay (moved c s (Calms q.0)).state.network) (moved c s (Calms q.0)).state) (sym (last_now name p M)) announced_tells
