-- A delivery to a sequencer makes the measure less.
use Rattle.std.proofs.Common.{◌≡◌, ◌∙◌, ◌≤◌, ℕ, ◌+◌, ◌*◌, refl, ap, sym, subst, Bool, true, false, if◌then◌else◌, List, [], ◌∷◌, length, Option, Some, None, arith}
use Rattle.ld_table.specs.Named.{find_named, put_named}
use Rattle.ld_lsn.specs.Number.{epoch_of}
use Rattle.ld_ids.specs.Choice.{nodes_of}
use Rattle.ld_config.specs.declared.config.Config.{Config}
use Rattle.ld_msg.specs.declared.msg.Who.{Who}
use Rattle.ld_msg.specs.declared.msg.Who.TheVariants as whos
use Rattle.ld_msg.specs.declared.msg.Msg.{Msg}
use Rattle.ld_msg.specs.declared.msg.Entry.{Entry}
use Rattle.ld_msg.specs.declared.msg.Summary.{Summary}
use Rattle.ld_msg.specs.declared.msg.Body.{Body}
use Rattle.ld_msg.specs.declared.msg.Body.TheVariants as bodies
use Rattle.ld_msg.specs.Network.{message, mark, send_all}
use Rattle.ld_msg.specs.Register.{lce_of}
use Rattle.ld_msg.specs.Digest.{Told, plan}
use Rattle.ld_msg.specs.Sequencer.{Sequencer, Recovery, Acts, Called, called, on_reply, by_lost, does_nothing, unless_preempted, by_reply, acted_messages}
use Rattle.ld_machine.specs.Config.{looks_at}
use Rattle.ld_machine.specs.State.{State, finish, posted, sequencer_of, unchanged}
use Rattle.ld_machine.specs.Step as Step
use Rattle.ld_machine.specs.World.{In}
use Rattle.ld_safety.proofs.Appends.{RowOf}
use Rattle.ld_safety.proofs.Continues.{reply_continues}
use Rattle.ld_safety.proofs.Names.{SequencerOf, sequencer_found}
use Rattle.ld_safety.proofs.Names as names
use Rattle.ld_safety.proofs.Events.{NamesOnce}
use Rattle.ld_safety.proofs.SequencerSteps.{Acting, Closing, Hearing, gone_of, replied}
use Rattle.ld_machine.specs.Calm.{Left}
use Rattle.ld_calm.proofs.Sends.{acted_length, release_none}
use Rattle.ld_calm.proofs.Sequencing as sequencing
use Rattle.ld_calm.proofs.Sequencing.{Sizes, may_send}
use Rattle.ld_calm.proofs.Weights.{weight, weight_of, weight_most, weight_least, weights, new_weight, InPlace, mark_in_place, sent_weight, mark_weight}
use Rattle.ld_calm.proofs.Sums.{sum_of, sum_put}
use Rattle.ld_calm.proofs.Measure.{Ground, sequencer_cost, measure}

-- messages weigh two at most
pub posted_most : (who : Who) (l : ℕ) (bs : List (ℕ × Body)) → weights (posted who l bs) ≤ 2 * length bs
posted_most who l [] = omega arith
posted_most who l (b ∷ bs) = let ih : weights (posted who l bs) ≤ 2 * length bs = posted_most who l bs in let w = weight_most b.1 in omega arith

-- what the sizes say of a sequencer: its nodes and those that are looked at are some of all, pages are as many as marks, its recovery is of the epoch after a closed one or before, its appends stand in a row
pub record Fits (c : Config) (s : State) (z : Sizes) (q : Sequencer) : Type 0 where
  pub own_nodes : length (nodes_of q.spec) ≤ z.nodes
  pub looked : (e : ℕ) → length (nodes_of (looks_at c s.register q.log e).spec) ≤ z.nodes
  pub recovered : (v : Recovery) → q.recovery ≡ Some v → length (nodes_of v.spec) ≤ z.nodes
  pub paged : (e : ℕ) → z.nodes * length (z.marks e) ≤ z.pages
  pub next : (v : Recovery) → q.recovery ≡ Some v → v.epoch ≤ lce_of s.register q.log + 1
  pub row : RowOf q

-- and of a message to it: a page ends at a mark, and a plan that comes of it has few items
pub record FitsReply (z : Sizes) (q : Sequencer) (y : ℕ) (b : Body) : Type 0 where
  pub page : (from upto trim lng : ℕ) (es : List Entry) → b ≡ bodies.DigestPage from upto trim lng es → (from ≤ upto) × In upto (z.marks (epoch_of from))
  pub plans : (w : Recovery) (d : List Told) (loss : Bool) → Hearing q y b w d → z.nodes * length (plan w.epoch loss d).items ≤ z.items

-- the call that a reply makes
abbrev pub reply_call : Config → State → Sequencer → ℕ → Body → Called
reply_call c s q y b = called (looks_at c s.register q.log) s.register (on_reply (looks_at c s.register q.log) q y b) (on_reply (looks_at c s.register q.log) q y b).tries

module _ (c : Config) (s : State) (z : Sizes) (name : List ℕ) (q : Sequencer) (there : q.gone ≡ false) (F : Fits c s z q) where
  abbrev Paid : Called → Type 0
  Paid k = length (acted_messages q k.acts) + may_send z k.acts.sequencer ≤ may_send z q

  free_paid : (free : q.preempted ≡ None) (y : ℕ) (b : Body) → FitsReply z q y b → Paid (reply_call c s q y b)
  unfolding on_reply
  free_paid free y (bodies.LostHere n round generation end) R =
      let p = sequencing.lost_paid c s.register q z free F.own_nodes F.looked F.recovered F.paged F.next y n round generation end R.plans in
      let e : by_lost (looks_at c s.register q.log) (does_nothing q) y n ≡ on_reply (looks_at c s.register q.log) q y (bodies.LostHere n round generation end)
      = sym (ap (λ o. unless_preempted o (by_lost (looks_at c s.register q.log) (does_nothing q) y n) (does_nothing q)) free) in
      subst (λ (a : Acts). Paid (called (looks_at c s.register q.log) s.register a a.tries)) e (omega arith)
  free_paid free y b R = let p = replied c s name q there y b (λ k m. sequencing.Paid c s.register q z free F.own_nodes F.looked F.recovered F.paged F.next k)
      (sequencing.acting_paid c s.register q z free F.own_nodes F.looked F.recovered F.paged F.next F.row y b R.page R.plans (gone_of s q) (λ n round generation end i. cc)) in omega arith

  -- a preempted one says nothing
  busy_paid : (k y : ℕ) (b : Body) → q.preempted ≡ Some k → Paid (reply_call c s q y b)
  unfolding on_reply
  busy_paid k y b p = let e : does_nothing q ≡ on_reply (looks_at c s.register q.log) q y b = sym (ap (λ o. unless_preempted o (by_reply (looks_at c s.register q.log) (does_nothing q) y b) (does_nothing q)) p) in
      subst (λ (a : Acts). Paid (called (looks_at c s.register q.log) s.register a a.tries)) e
      (let l = acted_length q (does_nothing q) in let v = release_none q q refl in omega arith)

  pub reply_paid : (y : ℕ) (b : Body) → FitsReply z q y b → Paid (reply_call c s q y b)
  reply_paid y b R = by_preempted q.preempted refl where
    by_preempted : (o : Option ℕ) → q.preempted ≡ o → Paid (reply_call c s q y b)
    by_preempted None p = free_paid p y b R
    by_preempted (Some k) p = busy_paid k y b p

-- ---- a delivery ----

-- a message that nothing comes of
pub quiet_less : (s : State) (g : Ground) (i : ℕ) (m : Msg) → In i s.network.fresh → message s.network i ≡ Some m → (ps : List Left) → measure g (finish (unchanged (Step.marked s i))).state ps + 1 ≤ measure g s ps
unfolding finish
quiet_less s g i m new found ps =
    let gone : new_weight (mark s.network i) + weight_of (message s.network i) ≤ new_weight s.network = mark_weight s.network i new in
    let w : weight_of (message s.network i) ≡ weight m.body = ap weight_of found in let one = weight_least m.body in omega arith

-- a call that is paid, of a message that was new, makes the measure less
module _ (s : State) (g : Ground) (name : List ℕ) (q : Sequencer) (there : q.gone ≡ false) (named : find_named name s.sequencers ≡ Some q) (i : ℕ) (m : Msg) (P : InPlace s.network) (new : In i s.network.fresh) (found : message s.network i ≡ Some m) where
  abbrev marked : State
  marked = Step.marked s i

  told_less : (k : Called) → k.acts.sequencer.log ≡ q.log → k.acts.sequencer.gone ≡ false → length (acted_messages q k.acts) + may_send (g.sizes q.log) k.acts.sequencer ≤ may_send (g.sizes q.log) q → (ps : List Left)
      → measure g (finish (Step.told marked name q k)).state ps + 1 ≤ measure g s ps
  unfolding finish
  told_less k lg gn paid ps =
      let sends : List Msg = posted (whos.Sequencer q.epoch) q.log (acted_messages q k.acts) in
      let sent : new_weight (send_all (mark s.network i) sends) ≡ new_weight (mark s.network i) + weights sends = sent_weight (mark s.network i) sends (mark_in_place s.network i P) in
      let gone : new_weight (mark s.network i) + weight_of (message s.network i) ≤ new_weight s.network = mark_weight s.network i new in
      let w : weight_of (message s.network i) ≡ weight m.body = ap weight_of found in let one = weight_least m.body in
      let most = posted_most (whos.Sequencer q.epoch) q.log (acted_messages q k.acts) in
      let sum : sum_of (sequencer_cost g) (put_named name k.acts.sequencer s.sequencers) + sequencer_cost g q ≡ sum_of (sequencer_cost g) s.sequencers + sequencer_cost g k.acts.sequencer = sum_put (sequencer_cost g) name q k.acts.sequencer s.sequencers named in
      let before : sequencer_cost g q ≡ may_send (g.sizes q.log) q = (λ j. if there j then 0 else may_send (g.sizes q.log) q) in
      let after : sequencer_cost g k.acts.sequencer ≡ may_send (g.sizes q.log) k.acts.sequencer = (λ j. if gn j then 0 else may_send (g.sizes (lg j)) k.acts.sequencer) in
      omega arith

-- a reply doesn't drop a sequencer
module _ (c : Config) (s : State) (name : List ℕ) (q : Sequencer) (there : q.gone ≡ false) where
  abbrev Stays : Called → Type 0
  Stays k = k.acts.sequencer.gone ≡ q.gone

  close_stays : (a : Acts) (e : ℕ) (y : Summary) (short : Bool) → a.sequencer.gone ≡ q.gone → Closing s.register (looks_at c s.register q.log) a e y short Stays
  close_stays a e y short h = record { granted = λ n k o f. h; passed = λ l. h; behind = λ b l. h; overtaken = λ k o. h; failed = λ n f. h }

  stays_acting : (gone : Recovery → List ℕ) (y : ℕ) (b : Body) → Acting c s.register gone q y b (λ k m. Stays k)
  stays_acting gone y b = record {
    quiet = refl;
    sealed = λ n k f i l. refl;
    cleaned_own = λ n z f i h. refl;
    acks = λ n p f i h g m. refl;
    lost_own = λ n round generation end f i h. refl;
    cleaned = λ v n z f e i h. refl;
    asks_more = λ w d asks f H a n u. refl;
    plans = λ w d loss f H p. refl;
    looks_closed = λ w d z f H u o. refl;
    looks_later = λ w d f H u o n. refl;
    stores_on = λ w g f H t. refl;
    closes_now = λ w g f H t. close_stays _ _ _ _ refl;
    lost_closing = λ v z short n round generation end f e h i k. refl;
  }

  pub still_there : (y : ℕ) (b : Body) → (reply_call c s q y b).acts.sequencer.gone ≡ false
  still_there y b = replied c s name q there y b (λ k m. Stays k) (stays_acting (gone_of s q) y b) ∙ there

-- a delivery to a sequencer makes the measure less
pub sequencer_falls : (c : Config) (s : State) (g : Ground) (ps : List Left) (i b : ℕ) (m : Msg) → NamesOnce s → InPlace s.network → In i s.network.fresh → message s.network i ≡ Some m → m.to ≡ whos.Sequencer b
    → ((name : List ℕ) (q : Sequencer) → find_named name s.sequencers ≡ Some q → q.gone ≡ false → q.log ≡ m.log → q.epoch ≡ b → Fits c s (g.sizes q.log) q × FitsReply (g.sizes q.log) q (Step.sender_node m.from) m.body)
    → measure g (finish (Step.delivers c s i)).state ps + 1 ≤ measure g s ps
unfolding Step.delivers
sequencer_falls c s g ps i b m N P new found to fits = subst (λ o. measure g (finish (Step.delivers_it c s i o)).state ps + 1 ≤ measure g s ps) (sym found)
    (subst (λ w. measure g (finish (Step.comes_to c (Step.marked s i) m w)).state ps + 1 ≤ measure g s ps) (sym to) (by_found (sequencer_of m.log b s.sequencers) refl)) where
      by_found : (o : Option (List ℕ × Sequencer)) → sequencer_of m.log b s.sequencers ≡ o → measure g (finish (Step.to_sequencer c (Step.marked s i) m o)).state ps + 1 ≤ measure g s ps
      by_found None e = quiet_less s g i m new found ps
      by_found (Some q) e = by_gone q.1.gone refl where
        at : SequencerOf s.sequencers m.log b q
        at = sequencer_found m.log b s.sequencers q e

        named : find_named q.0 s.sequencers ≡ Some q.1
        named = names.found s.sequencers q N.0 at.there

        by_gone : (t : Bool) → q.1.gone ≡ t → measure g (finish (if t then unchanged (Step.marked s i) else Step.acted c (Step.marked s i) q.0 q.1 (on_reply (looks_at c s.register q.1.log) q.1 (Step.sender_node m.from) m.body))).state ps + 1 ≤ measure g s ps
        by_gone true t = quiet_less s g i m new found ps
        by_gone false t = let f = fits q.0 q.1 named t at.log at.epoch in
            told_less s g q.0 q.1 t named i m P new found (reply_call c s q.1 (Step.sender_node m.from) m.body) (reply_continues c s q.1 f.0.row q.0 (Step.sender_node m.from) m.body t).log (still_there c s q.0 q.1 t (Step.sender_node m.from) m.body)
            (reply_paid c s (g.sizes q.1.log) q.0 q.1 t f.0 (Step.sender_node m.from) m.body f.1) ps
