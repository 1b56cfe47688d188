-- Where all nodes are well, a log's last sequencer isn't preempted by any reply or retry: none of a greater epoch is there, its own epoch is open, and an epoch that some node has said it is lost for is closed.
use Rattle.std.proofs.Common.{◌≡◌, ◌∙◌, ◌≤◌, ◌<◌, ℕ, inl, inr, refl, ap, sym, subst, Bool, true, false, ◌&&◌, not, ◌==◌, nat_lt, List, map, Option, Some, None, is_some, arith}
use Rattle.std.proofs.lemmas.Bool.{and_parts, eqb-true, cases_lt}
use Rattle.ld_table.specs.Table.{find}
use Rattle.ld_table.specs.Words.{is_in, with_one}
use Rattle.ld_lsn.specs.Number.{epoch_of, esn_of, home_epoch}
use Rattle.ld_ids.specs.Choice.{nodes_of}
use Rattle.ld_config.specs.declared.config.Config.{Config}
use Rattle.ld_config.specs.Bounds.{IsInBounds}
use Rattle.ld_msg.specs.declared.msg.Summary.{Summary}
use Rattle.ld_msg.specs.declared.msg.Who.TheVariants as whos
use Rattle.ld_msg.specs.declared.msg.Msg.{Msg}
use Rattle.ld_msg.specs.declared.msg.Body.{Body}
use Rattle.ld_msg.specs.declared.msg.Body.TheVariants as bodies
use Rattle.ld_msg.specs.Digest.{Told, is_spent}
use Rattle.ld_msg.specs.Register.{Register, View, epochs_of, lce_of}
use Rattle.ld_msg.specs.Sequencer.{Sequencer, Recovery, Stage, Seals, Stores, Closes, Storing, Acts, recovery_lost}
use Rattle.ld_op.specs.Plain.{Log, log_of, summary_at, is_lost, epoch_zero}
use Rattle.ld_machine.specs.Config.{all_nodes, has_log, looks_at}
use Rattle.ld_machine.specs.State.{State, node_at}
use Rattle.ld_machine.specs.Facts.{Happened}
use Rattle.ld_machine.specs.World.{World, In}
use Rattle.ld_machine.specs.Step as Step
use Rattle.ld_safety.proofs.Lists.{of_some, cond_both}
use Rattle.ld_safety.proofs.Traces.{Keeps}
use Rattle.ld_safety.proofs.GivenSteps.{BaseGiven}
use Rattle.ld_safety.proofs.Along.{Along, BodySaidIn}
use Rattle.ld_safety.proofs.Protocol.{same_message}
use Rattle.ld_safety.proofs.Settled.{LostTold, ClosedBy, CloseFine}
use Rattle.ld_safety.proofs.LostJoined.{summaries_here}
use Rattle.ld_safety.proofs.LostTrims.{TrimsTold, trims_kept}
use Rattle.ld_safety.proofs.Registers.{look_open}
use Rattle.ld_safety.proofs.Losses.{with_one_in}
use Rattle.ld_safety.proofs.Specs.{SpecFine}
use Rattle.ld_safety.proofs.Digesting as digesting
use Rattle.ld_safety.proofs.SequencerSteps.{Acting, Retrying, Closing, Hearing, heard_page, heard_lost, Hearing_stored, heard_settled, heard_gone, is_closing, is_short}
use Rattle.ld_calm.proofs.Sets.{RecoveryIn, SpecIn, sets_kept}
use Rattle.ld_calm.proofs.Running.{Setting}
use Rattle.ld_calm.proofs.Weights.{InPlace}
use Rattle.ld_calm.proofs.Networks.{places_kept}
use Rattle.ld_served.specs.Served.{IsWell}
use Rattle.ld_served.proofs.Actors.{Here}
use Rattle.ld_served.proofs.Over.{AllOver, over_kept}
use Rattle.ld_served.proofs.Low.{AllLow, low_kept}
use Rattle.ld_served.proofs.Sealed.{Sealing, sealed_kept}
use Rattle.ld_served.proofs.Booked.{AllBooked, booked_kept, summary_here}
use Rattle.ld_served.proofs.Waits.{Lined, AllWaiting, waiting_kept}
use Rattle.ld_served.proofs.Losing.{SomeLost, AllKnow, knows_kept, recovery_fine, digest_nodes, spent_lost, heard, stores_of, short_some, StageLost}
use Rattle.ld_served.proofs.Showing.{AllShow, shows_kept}
use Rattle.ld_served.proofs.Relost.{Relosing, relost_kept}
use Rattle.ld_served.proofs.Last.{LastOf, here_most}

-- ---- one call ----

-- not preempted, and not dropped
pub record IsFree (q : Sequencer) : Type 0 where
  pub free : q.preempted ≡ None
  pub there : q.gone ≡ false

-- a close is neither passed nor overtaken where the sequencer's own epoch is open and no short close is tried of an open one
close_free : (r : Register) (looks : ℕ → View) (a : Acts) (e : ℕ) (y : Summary) (short : Bool) → IsFree a.sequencer → lce_of r a.sequencer.log < a.sequencer.epoch → (short ≡ true → e ≤ lce_of r a.sequencer.log) → Closing r looks a e y short (λ k. IsFree k.acts.sequencer)
close_free r looks a e y short F top low = record {
  granted = λ n h o g. record { free = F.free; there = F.there };
  passed = λ h. absurd (omega arith);
  behind = λ b h. record { free = F.free; there = F.there };
  overtaken = λ h o. absurd (let p = and_parts short (not ((epochs_of r a.sequencer.log).epoch == y.ballot)) o in let z = low p.0 in omega arith);
  failed = λ n g. record { free = F.free; there = F.there };
}

-- what keeps a reply from preempting it
pub record Leads (c : Config) (r : Register) (q : Sequencer) (y : ℕ) (b : Body) : Type 0 where
  pub top : lce_of r q.log < q.epoch
  pub seals : (n k : ℕ) → b ≡ bodies.SealedHere n k → k ≤ q.epoch
  pub own : (n : ℕ) (z : Summary) → b ≡ bodies.CleanHere n z → home_epoch n ≡ q.epoch → ⊥
  pub spent : (w : Recovery) (d : List Told) → Hearing q y b w d → is_spent w.spec d ≡ true → (looks_at c r q.log w.epoch).summary ≡ None → ⊥
  pub short : (w : Recovery) (g : Storing) → Hearing_stored q y b w g → is_closing w g ≡ true → is_short w g ≡ true → w.epoch ≤ lce_of r q.log

pub acting_free : (c : Config) (r : Register) (q : Sequencer) (gone : Recovery → List ℕ) (y : ℕ) (b : Body) → IsFree q → Leads c r q y b → Acting c r gone q y b (λ k m. IsFree k.acts.sequencer)
acting_free c r q gone y b F L = record {
  quiet = F;
  sealed = λ n k f i l. absurd (let z = L.seals n k i in omega arith);
  cleaned_own = λ n s f i h. absurd (L.own n s i h);
  acks = λ n p f i g h m. record { free = F.free; there = F.there };
  lost_own = λ n round g end f i h. record { free = F.free; there = F.there };
  cleaned = λ v n s f e i h. record { free = F.free; there = F.there };
  asks_more = λ w d asks f H a n u. record { free = F.free; there = F.there };
  plans = λ w d loss f H p. record { free = F.free; there = F.there };
  looks_closed = λ w d s f H u o. record { free = F.free; there = F.there };
  looks_later = λ w d f H u o n. absurd (L.spent w d H u o);
  stores_on = λ w g f H t. record { free = F.free; there = F.there };
  closes_now = λ w g f H t. close_free r (looks_at c r q.log) _ w.epoch _ _ (record { free = F.free; there = F.there }) L.top (L.short w g H t);
  lost_closing = λ v s short n round g end f e i h j. record { free = F.free; there = F.there };
}

-- and a retry
pub record Retries (c : Config) (r : Register) (q : Sequencer) : Type 0 where
  pub top : lce_of r q.log < q.epoch
  pub spent : (v : Recovery) (d : List Told) → q.recovery ≡ Some v → v.stage ≡ Seals d → is_spent v.spec d ≡ true → (looks_at c r q.log v.epoch).summary ≡ None → ⊥
  pub short : (v : Recovery) (g : Storing) → q.recovery ≡ Some v → v.stage ≡ Stores g → is_closing v g ≡ true → is_short v g ≡ true → v.epoch ≤ lce_of r q.log
  pub closes : (v : Recovery) (y : Summary) → q.recovery ≡ Some v → v.stage ≡ Closes y true → v.epoch ≤ lce_of r q.log

pub retrying_free : (c : Config) (r : Register) (q : Sequencer) (gone : Recovery → List ℕ) → IsFree q → Retries c r q → Retrying c r gone q (λ k m. IsFree k.acts.sequencer)
retrying_free c r q gone F L = record {
  quiet = F;
  appends = λ f. record { free = F.free; there = F.there };
  seals = λ v d f e h u. record { free = F.free; there = F.there };
  plans = λ v d f e h p. record { free = F.free; there = F.there };
  looks_closed = λ v d s f e h u o. record { free = F.free; there = F.there };
  looks_later = λ v d f e h u o n. absurd (L.spent v d e h u o);
  stores_on = λ v g f e h t. record { free = F.free; there = F.there };
  closes_now = λ v g f e h t. close_free r (looks_at c r q.log) _ v.epoch _ _ (record { free = F.free; there = F.there }) L.top (L.short v g e h t);
  closes = λ v y short f e h. close_free r (looks_at c r q.log) _ v.epoch y short (record { free = F.free; there = F.there }) L.top (λ t. L.closes v y e (h ∙ ap (λ b. Closes y b) t));
}

-- ---- in every run ----

-- all that this stands on
pub record Known (c : Config) (hs : List Happened) (w : World) : Type 0 where
  pub lined : Lined c hs w
  pub sealing : Sealing c hs w
  pub booked : AllBooked w.state.sequencers w.made
  pub waiting : AllWaiting w.state.sequencers
  pub knows : AllKnow w.state.sequencers
  pub shows : AllShow w.state.sequencers
  pub setting : Setting c hs w
  pub places : InPlace w.state.network
  pub over : AllOver w.state.sequencers
  pub low : AllLow c hs w.state.sequencers w.state
  pub relost : Relosing c hs w
  pub trims : TrimsTold w

pub known_kept : (c : Config) → IsInBounds c → Keeps c (Known c)
known_kept c b = record {
  begins = record { lined = (waiting_kept c b).begins.0; sealing = (sealed_kept c).begins; booked = (booked_kept c).begins.1; waiting = (waiting_kept c b).begins.1; knows = (knows_kept c b).begins.1; shows = (shows_kept c).begins.1; setting = (sets_kept c b).begins; places = (places_kept c).begins.1; over = (over_kept c).begins.1; low = (low_kept c).begins.1; relost = (relost_kept c).begins; trims = (trims_kept c).begins.1 };
  goes_on = λ hs w e K. let a = (waiting_kept c b).goes_on hs w e (K.lined, K.waiting) in record {
    lined = a.0;
    sealing = (sealed_kept c).goes_on hs w e K.sealing;
    booked = ((booked_kept c).goes_on hs w e (K.sealing.0.0, K.booked)).1;
    waiting = a.1;
    knows = ((knows_kept c b).goes_on hs w e (K.lined, K.knows)).1;
    shows = ((shows_kept c).goes_on hs w e (K.sealing.0.0, K.shows)).1;
    setting = (sets_kept c b).goes_on hs w e K.setting;
    places = ((places_kept c).goes_on hs w e (K.sealing.0.0, K.places)).1;
    over = ((over_kept c).goes_on hs w e (K.sealing.0.0, K.over)).1;
    low = ((low_kept c).goes_on hs w e (K.lined.0, K.low)).1;
    relost = (relost_kept c).goes_on hs w e K.relost;
    trims = ((trims_kept c).goes_on hs w e (K.lined.0, K.trims)).1;
  };
}

pub home_of : (n : ℕ) → 0 < esn_of n → home_epoch n ≡ epoch_of n
home_of n h = cond_both ((esn_of n == 0) && nat_lt 0 (epoch_of n)) _ (epoch_of n) (λ x. x ≡ epoch_of n) (λ t. absurd (let p = and_parts (esn_of n == 0) (nat_lt 0 (epoch_of n)) t in let q = eqb-true (esn_of n) 0 p.0 in omega arith)) (λ t. refl)

module _ (c : Config) (hs : List Happened) (w : World) (K : Known c hs w) (W : (y : ℕ) → In y (all_nodes c) → IsWell c w.state y) where
  abbrev s : State
  s = w.state

  along : BaseGiven c hs w × Along c hs w
  along = K.lined.0

  -- ---- closed epochs ----

  -- an epoch with a summary is closed
  pub closed_so : (l e : ℕ) (z : Summary) → 0 < e → find e (epochs_of s.register l).summaries ≡ Some z → ClosedBy c hs w.made s.network.sent s.register l e z
  closed_so l e z p f = elim (along.1.said.register l e z f).1 [ inl a ↦ absurd (let u = a.0 in omega arith) | inr a ↦ a ]

  pub no_loss : (g : Log) (e : ℕ) → g.lost ≡ false → is_lost g e ≡ true → ⊥
  no_loss g e n t = let p = and_parts g.lost _ t in let k : true ≡ false = sym p.0 ∙ n in cc

  pub clean_found : (g : Log) (e : ℕ) → 0 < e → is_some (summary_at g e) ≡ true → (z : Summary) × (find e g.summaries ≡ Some z)
  unfolding summary_at
  clean_found g e p h = of_some (find e g.summaries) (cond_both (e == 0) (Some epoch_zero) (find e g.summaries) (λ o. is_some o ≡ true → is_some (find e g.summaries) ≡ true) (λ t. absurd (let q = eqb-true e 0 t in omega arith)) (λ t k. k) h)

  -- an epoch that a node has said it is lost for is clean there now, and so it is closed
  pub lost_closed : (l e b y : ℕ) → has_log c l ≡ true → In y (all_nodes c) → 0 < e → LostTold s.network.sent l e b y → e ≤ lce_of s.register l
  lost_closed l e b y log i pos T =
      let well = W y i in
      let home : 0 < home_epoch T.number = subst (λ k. 0 < k) (sym T.home) pos in
      let z = along.1.lost_said l y b T.number T.round T.generation T.end T.said home in
      elim (z.1 (node_at s y).plain (inl refl)) [
        | inl g ↦ absurd (let u = along.1.ups y well.up in let v = u.1 in omega arith)
        | inr (inl t) ↦ absurd (no_loss (log_of (node_at s y).plain l) (home_epoch T.number) (well.whole l log) t)
        | inr (inr t) ↦ (
            let f = clean_found (log_of (node_at s y).plain l) (home_epoch T.number) home t in
            let k = summaries_here c hs w along y l (home_epoch T.number) (node_at s y).plain f.0 (inl refl) home f.1 in
            let low = (closed_so l (home_epoch T.number) f.0 home k.0).low in let h = T.home in omega arith)
      ]

  -- ---- a log's last sequencer ----
  module _ (l : ℕ) (name : List ℕ) (q : Sequencer) (L : LastOf s.sequencers l name q) where
    positive : 0 < q.epoch
    positive = along.0.0.0.1.epochs.positive name q L.named

    log : has_log c q.log ≡ true
    log = K.setting.0.1.0 name q L.named

    -- its own epoch is open
    pub open_still : lce_of s.register q.log < q.epoch
    open_still = elim (cases_lt (lce_of s.register q.log) q.epoch) [
      | inl a ↦ a
      | inr a ↦ absurd (no_summary (find q.epoch (epochs_of s.register q.log).summaries) refl ((along.1.each q.log).has q.epoch positive a))
    ] where
      no_summary : (o : Option Summary) → find q.epoch (epochs_of s.register q.log).summaries ≡ o → (find q.epoch (epochs_of s.register q.log).summaries ≡ None → ⊥) → ⊥
      no_summary None f n = n f
      no_summary (Some z) f n =
          let k = closed_so q.log q.epoch z positive f in
          let later = (along.1.plans q.log q.epoch z.ballot k.plan.basis k.plan.planned).later in
          let h = summary_here c hs w K.booked along q.log q.epoch z positive f in
          let m = here_most s.sequencers l name q z.ballot L (subst (λ x. Here s.sequencers x z.ballot) L.log h) in omega arith

    recovers : (v : Recovery) → q.recovery ≡ Some v → (0 < v.epoch) × ((y : ℕ) → is_in y v.lost ≡ true → LostTold s.network.sent q.log v.epoch q.epoch y) × SpecIn c v.spec
    recovers v e =
        let r = subst (λ (o : Option Recovery). digesting.RecoveryFine c hs s.network.sent w.made s.register q.log q.epoch o) e (along.1.recoveries name q L.named) in
        (r.reached.0, r.lost, subst (RecoveryIn c) e (K.setting.1.2 name q L.named).1)

    some_closed : (v : Recovery) → q.recovery ≡ Some v → SomeLost v → v.epoch ≤ lce_of s.register q.log
    some_closed v e z = let k = recovers v e in lost_closed q.log v.epoch q.epoch z.0 log (k.2 z.0 z.1) k.0 (k.1 z.0 z.2)

    not_open : (e : ℕ) → 0 < e → e ≤ lce_of s.register q.log → (looks_at c s.register q.log e).summary ≡ None → ⊥
    not_open e p u h = let z = look_open c s.register q.log e along.1.each p h in omega arith

    stage_at : (v : Recovery) (g : Stage) → q.recovery ≡ Some v → v.stage ≡ g → StageLost v g
    stage_at v g e k = subst (StageLost v) k (K.knows name q L.named v e)

    fine : (v : Recovery) → q.recovery ≡ Some v → SpecFine v.spec
    fine v e = recovery_fine c hs w K.lined name q L.named v e

    nodes : (v : Recovery) (d : List Told) → q.recovery ≡ Some v → v.stage ≡ Seals d → map (λ (t : Told). t.node) d ≡ nodes_of v.spec
    nodes v d e k = digest_nodes c hs w K.lined name q L.named v d e k

    -- a retry leaves it free
    pub retries_lead : Retries c s.register q
    retries_lead = record {
      top = open_still;
      spent = λ v d e k u o. not_open v.epoch (recovers v e).0 (some_closed v e (spent_lost v d (fine v e) (nodes v d e k) (stage_at v (Seals d) e k) u)) o;
      short = λ v g e k t u. some_closed v e (short_some v g (fine v e) (stage_at v (Stores g) e k) t u);
      closes = λ v y e k. some_closed v e (stage_at v (Closes y true) e k refl);
    }

    -- and so does a reply
    module _ (m : Msg) (i : In m s.network.sent) (t : m.to ≡ whos.Sequencer q.epoch) (lg : m.log ≡ q.log) where
      abbrev y : ℕ
      y = Step.sender_node m.from

      sender : m.from ≡ whos.Node y
      sender = along.1.stored_from m q.epoch i t

      -- who says so is lost too
      told_lost : (v : Recovery) → q.recovery ≡ Some v → (n round generation end : ℕ) → m.body ≡ bodies.LostHere n round generation end → home_epoch n ≡ v.epoch → (x : ℕ) → is_in x (with_one y v.lost) ≡ true → LostTold s.network.sent q.log v.epoch q.epoch x
      told_lost v e n round generation end k h x j = elim (with_one_in y x v.lost j) [
        | inl a ↦ (recovers v e).1 x a
        | inr a ↦ subst (LostTold s.network.sent q.log v.epoch q.epoch) (sym a) (record {
          number = n;
          round = round;
          generation = generation;
          end = end;
          said = subst (λ (z : Msg). In z s.network.sent) (same_message m q.log y q.epoch (bodies.LostHere n round generation end) sender t lg k) i;
          home = h;
        })
      ]

      lost_more : (v : Recovery) → q.recovery ≡ Some v → (n round generation end : ℕ) → m.body ≡ bodies.LostHere n round generation end → home_epoch n ≡ v.epoch → SomeLost (recovery_lost y v) → v.epoch ≤ lce_of s.register q.log
      lost_more v e n round generation end k h z = let r = recovers v e in lost_closed q.log v.epoch q.epoch z.0 log (r.2 z.0 z.1) r.0 (told_lost v e n round generation end k h z.0 z.2)

      heard_closed : (w : Recovery) (d : List Told) → Hearing q y m.body w d → SomeLost w → (0 < w.epoch) × (w.epoch ≤ lce_of s.register q.log)
      heard_closed w d (heard_page f from upto trim lng es e k b g u j) z = ((recovers w e).0, some_closed w e z)
      heard_closed w d (heard_lost v f n round generation end e k b g x j) z = subst (λ (r : Recovery). SomeLost r → (0 < r.epoch) × (r.epoch ≤ lce_of s.register q.log)) (sym x) (λ u. ((recovers v e).0, lost_more v e n round generation end b g u)) z

      stored_closed : (w : Recovery) (g : Storing) → Hearing_stored q y m.body w g → SomeLost w → w.epoch ≤ lce_of s.register q.log
      stored_closed w g (heard_settled f p e k b u j) z = some_closed w e z
      stored_closed w g (heard_gone v n round generation end e k b h x) z = subst (λ (r : Recovery). SomeLost r → r.epoch ≤ lce_of s.register q.log) (sym x) (λ u. lost_more v e n round generation end b h u) z

      clean_answer : (n : ℕ) (z : Summary) → m.body ≡ bodies.CleanHere n z → (0 < esn_of n) × CloseFine c hs w.made s.network.sent s.register q.log (epoch_of n) z
      clean_answer n z k = subst (λ x. BodySaidIn c hs w x m.from (bodies.CleanHere n z)) lg (subst (BodySaidIn c hs w m.log m.from) k (along.1.said.sent m i).0)

      pub replies_lead : Leads c s.register q y m.body
      replies_lead = record {
        top = open_still;
        seals = λ n k b. here_most s.sequencers l name q k L (subst (λ x. Here s.sequencers x k) (lg ∙ L.log) (K.sealing.1.1 m i y sender n k b));
        own = λ n z b h. (let a = clean_answer n z b in let e : epoch_of n ≡ q.epoch = sym (home_of n a.0) ∙ h in
            let p = positive in let o = open_still in
            elim a.1.1 [ inl u ↦ (let x = u.0 in omega arith) | inr u ↦ (let x = u.low in omega arith) ]);
        spent = λ v d H u o. (let h = heard c s.register q fine nodes (K.knows name q L.named) y m.body v d H in
            let z = heard_closed v d H (spent_lost v d h.set h.all h.lost u) in not_open v.epoch z.0 z.1 o);
        short = λ v g H t u. (let h = stores_of c s.register q fine nodes (K.knows name q L.named) y m.body v g H in stored_closed v g H (short_some v g h.0 h.1 t u));
      }
