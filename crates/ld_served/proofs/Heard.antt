-- After a message is delivered to a log's last sequencer, all that it waits for is under way.
use Rattle.std.proofs.Common.{◌≡◌, ◌∙◌, ℕ, inl, inr, refl, ap, sym, subst, Bool, true, false, ◌&&◌, ◌==◌, if◌then◌else◌, List, [], ◌∷◌, ◌++◌, Option, Some, None, eq-eqb}
use Rattle.std.proofs.lemmas.Bool.{and_from}
use Rattle.ld_table.specs.Named.{find_named}
use Rattle.ld_config.specs.declared.config.Config.{Config}
use Rattle.ld_schedule.specs.declared.event.Event.TheVariants as events
use Rattle.ld_transcript.specs.declared.line.Line.TheVariants as lines
use Rattle.ld_msg.specs.declared.msg.Who.TheVariants as whos
use Rattle.ld_msg.specs.declared.msg.Msg.{Msg}
use Rattle.ld_msg.specs.declared.msg.Body.{Body}
use Rattle.ld_msg.specs.Network.{message}
use Rattle.ld_msg.specs.Sequencer.{Sequencer, Recovery, Stage, Seals, Stores, on_reply, release_messages}
use Rattle.ld_machine.specs.Config.{looks_at}
use Rattle.ld_machine.specs.State.{State, Done, sequencer_of}
use Rattle.ld_machine.specs.World.{World, In, from_node, to_node_of}
use Rattle.ld_machine.specs.Step as Step
use Rattle.ld_machine.specs.Calm.{Takes, moves, moved}
use Rattle.ld_safety.proofs.Lists.{Some_inj, not_none, In_left, In_right}
use Rattle.ld_safety.proofs.Names.{found, sequencer_found}
use Rattle.ld_safety.proofs.Steps.{finish_In}
use Rattle.ld_safety.proofs.Events.{message_sent, reply_call}
use Rattle.ld_safety.proofs.Base.{counts_of}
use Rattle.ld_safety.proofs.Protocol.{same_message}
use Rattle.ld_safety.proofs.Given.{AnyEpoch, AnyShown, SmallGood, GivenEntry}
use Rattle.ld_safety.proofs.Carried as carried
use Rattle.ld_served.proofs.Phases.{Unlimited}
use Rattle.ld_served.proofs.Stepping.{delivered}
use Rattle.ld_served.proofs.Last.{LastOf, named_in}
use Rattle.ld_served.proofs.Low.{LowSummary}
use Rattle.ld_served.proofs.Rises.{Low}
use Rattle.ld_served.proofs.Losing.{recovery_fine, digest_nodes}
use Rattle.ld_served.proofs.Free.{home_of, replies_lead}
use Rattle.ld_served.proofs.Kept.{Good}
use Rattle.ld_served.proofs.UnderWay.{UnderWay, delivery_takes, delivery_adds}
use Rattle.ld_served.proofs.Replying.{names}
use Rattle.ld_served.proofs.Going.{Goes}
use Rattle.ld_served.proofs.Announced.{in_posted, failed_told}
use Rattle.ld_served.proofs.Hearing.{Sure, reply_out}

-- a sequencer that is there is found
sequencer_there : (l e : ℕ) (qs : List (List ℕ × Sequencer)) (p : List ℕ × Sequencer) → In p qs → p.1.log ≡ l → p.1.epoch ≡ e → sequencer_of l e qs ≡ None → ⊥
sequencer_there l e [] p i h g = λ f. i
sequencer_there l e (x ∷ qs) p i h g = by_this ((x.1.log == l) && (x.1.epoch == e)) refl (λ j. sequencer_there l e qs p j h g) i where
  by_this : (b : Bool) → ((x.1.log == l) && (x.1.epoch == e)) ≡ b → (In p qs → sequencer_of l e qs ≡ None → ⊥) → In p (x ∷ qs) → (if b then Some x else sequencer_of l e qs) ≡ None → ⊥
  by_this true t ih j f = not_none (sym f)
  by_this false t ih (inl a) f = (let s : ((x.1.log == l) && (x.1.epoch == e)) ≡ true = and_from (x.1.log == l) (x.1.epoch == e) (eq-eqb x.1.log l (ap (λ (w : List ℕ × Sequencer). w.1.log) (sym a) ∙ h)) (eq-eqb x.1.epoch e (ap (λ (w : List ℕ × Sequencer). w.1.epoch) (sym a) ∙ g)) in let z : true ≡ false = sym s ∙ t in cc)
  by_this false t ih (inr j) f = ih j f

module _ (c : Config) (s : State) (A : Good c s) (l : ℕ) (name : List ℕ) (q : Sequencer) (L : LastOf s.sequencers l name q) where
  world : World
  world = record { state = s; made = A.of_run.made; joined = A.of_run.joined }

  -- ---- what is known of it ----

  recovery_low : (v : Recovery) → q.recovery ≡ Some v → carried.RecoveryOk (GivenEntry A.of_run.steps) (Low s.sequencers) (LowSummary s.sequencers) AnyEpoch AnyShown (Low s.sequencers) (GivenEntry A.of_run.steps) SmallGood q.log q.epoch (Some v)
  recovery_low v e = subst (carried.RecoveryOk (GivenEntry A.of_run.steps) (Low s.sequencers) (LowSummary s.sequencers) AnyEpoch AnyShown (Low s.sequencers) (GivenEntry A.of_run.steps) SmallGood q.log q.epoch) e (A.of_run.known.low.sequencers name q L.named).recovery

  stage_low : (v : Recovery) (g : Stage) → q.recovery ≡ Some v → v.stage ≡ g → carried.StageOk (GivenEntry A.of_run.steps) (Low s.sequencers) (LowSummary s.sequencers) AnyEpoch AnyShown (Low s.sequencers) (GivenEntry A.of_run.steps) SmallGood q.log q.epoch v.epoch g
  stage_low v g e k = subst (carried.StageOk (GivenEntry A.of_run.steps) (Low s.sequencers) (LowSummary s.sequencers) AnyEpoch AnyShown (Low s.sequencers) (GivenEntry A.of_run.steps) SmallGood q.log q.epoch v.epoch) k (recovery_low v e).1

  sure : Sure q
  unfolding world
  sure = record {
    below = λ v e. (recovery_low v e).0.1;
    fine = λ v e. recovery_fine c A.of_run.steps world A.of_run.known.lined name q L.named v e;
    nodes = λ v d e k. digest_nodes c A.of_run.steps world A.of_run.known.lined name q L.named v d e k;
    asks = λ v d e k t i h. ((stage_low v (Seals d) e k t i).asks h).1;
    items = λ v g e k i j. (let z = stage_low v (Stores g) e k in let n = z.0.2 i j in (n, home_of i.0 (z.1 i j).place.above ∙ n));
    knows = A.of_run.known.knows name q L.named;
    shows = A.of_run.known.shows name q L.named;
    row = (counts_of c A.of_run.steps world A.of_run.known.lined.0.0.0 name q L.named).row;
    own = λ p i. ((A.of_run.known.lined.0.1.acks name q L.named).appends p i).epoch;
  }

  -- it is the only one of its epoch
  only_one : (n : List ℕ) (p : Sequencer) → find_named n s.sequencers ≡ Some p → p.log ≡ q.log → p.epoch ≡ q.epoch → (n ≡ name) × (p ≡ q)
  only_one n p f h g =
      let one : n ≡ name = A.of_run.known.lined.0.0.0.0.1.epochs.once n name p q f L.named h g in
      (one, Some_inj (sym f ∙ (ap (λ k. find_named k s.sequencers) one ∙ L.named)))

  -- ---- a delivery to it ----
  module _ (i : ℕ) (m : Msg) (e : message s.network i ≡ Some m) (t : m.to ≡ whos.Sequencer q.epoch) (lg : m.log ≡ q.log) where
    hears : (Q : Done → Type 0) → Q (Step.acted c (Step.marked s i) name q (on_reply (looks_at c s.register q.log) q (Step.sender_node m.from) m.body)) → Q (moves c s (Takes (events.Deliver i)))
    hears Q h = delivered c s i Q (names c s A) (record {
      unheard = λ k. absurd (not_deaf (sequencer_of m.log q.epoch s.sequencers) refl (λ p f. (k m e).sequencer q.epoch t p f));
      none = λ k. absurd (not_none (sym k ∙ e));
      to_node = λ n x f g v. absurd (let z : whos.Node n ≡ whos.Sequencer q.epoch = sym g ∙ (ap (λ (w : Msg). w.to) (same x f) ∙ t) in cc);
      to_sequencer = λ n p x f g k v. (let w : whos.Sequencer p.epoch ≡ whos.Sequencer q.epoch = sym g ∙ (ap (λ (z : Msg). z.to) (same x f) ∙ t) in let ep : p.epoch ≡ q.epoch = cc in
          let o = only_one n p v.named (sym k ∙ (ap (λ (z : Msg). z.log) (same x f) ∙ lg)) ep in
          subst (λ (z : Msg). Q (Step.acted c (Step.marked s i) n p (on_reply (looks_at c s.register p.log) p (Step.sender_node z.from) z.body))) (sym (same x f))
          (subst (λ (z : Sequencer). Q (Step.acted c (Step.marked s i) n z (on_reply (looks_at c s.register z.log) z (Step.sender_node m.from) m.body))) (sym o.1)
          (subst (λ z. Q (Step.acted c (Step.marked s i) z q (on_reply (looks_at c s.register q.log) q (Step.sender_node m.from) m.body))) (sym o.0) h)));
      to_reader = λ n d x f g v. absurd (let z : whos.Reader d.number ≡ whos.Sequencer q.epoch = sym g ∙ (ap (λ (w : Msg). w.to) (same x f) ∙ t) in cc);
    }) where
      same : (x : Msg) → message s.network i ≡ Some x → x ≡ m
      same x f = Some_inj (sym f ∙ e)

      not_deaf : (o : Option (List ℕ × Sequencer)) → sequencer_of m.log q.epoch s.sequencers ≡ o → ((p : List ℕ × Sequencer) → sequencer_of m.log q.epoch s.sequencers ≡ Some p → p.1.gone ≡ true) → ⊥
      not_deaf None f d = let z = named_in name s.sequencers q L.named in sequencer_there m.log q.epoch s.sequencers z.0 z.1 (ap (λ (w : Sequencer). w.log) z.2 ∙ sym lg) (ap (λ (w : Sequencer). w.epoch) z.2) f
      not_deaf (Some p) f d =
          let z = sequencer_found m.log q.epoch s.sequencers p f in
          let o = only_one p.0 p.1 (found s.sequencers p (names c s A).0 z.there) (z.log ∙ lg) z.epoch in
          let k : true ≡ false = sym (d p f) ∙ (ap (λ (w : Sequencer). w.gone) o.1 ∙ (A.free l name q L).there) in cc

    module _ (u : Unlimited (moved c s (Takes (events.Deliver i))).lines) (G : Goes (UnderWay s.network) q) where
      abbrev after : Msg → Type 0
      after k = UnderWay (moved c s (Takes (events.Deliver i))).state.network k

      -- what the call sends is under way
      goes : (x : ℕ × Body) → In x ((reply_call c s q (Step.sender_node m.from) m.body).acts.asks ++ (reply_call c s q (Step.sender_node m.from) m.body).acts.stores) → after (to_node_of q.log q.epoch x.0 x.1)
      goes x j = delivery_adds c s (names c s A) A.of_run.known.places i m (to_node_of q.log q.epoch x.0 x.1) e (hears (λ d. In (to_node_of q.log q.epoch x.0 x.1) d.sends)
          (in_posted q.log q.epoch x _ (In_right x (reply_call c s q (Step.sender_node m.from) m.body).acts.cleans _ (In_right x (release_messages q (reply_call c s q (Step.sender_node m.from) m.body).acts.sequencer) _ j))))

      unfailed : (reply_call c s q (Step.sender_node m.from) m.body).acts.failed ≡ false
      unfailed = failed_told name q (reply_call c s q (Step.sender_node m.from) m.body).acts (λ j. u.register name (finish_In (moves c s (Takes (events.Deliver i))) _ (hears (λ d. In (lines.RefusedRegister name) d.lines) j)))

      pub hears_goes : Goes (UnderWay (moved c s (Takes (events.Deliver i))).state.network) (reply_call c s q (Step.sender_node m.from) m.body).acts.sequencer
      unfolding world
      hears_goes =
          let K = A.of_run.known in
          let sent = message_sent s i m e in
          let from : m.from ≡ whos.Node (Step.sender_node m.from) = K.lined.0.1.stored_from m q.epoch sent t in
          let is : m ≡ from_node q.log (Step.sender_node m.from) q.epoch m.body = same_message m q.log (Step.sender_node m.from) q.epoch m.body from t lg refl in
          reply_out c s.register q (λ k. UnderWay s.network k) (λ k. after k) (Step.sender_node m.from) m.body (λ k n. elim (delivery_takes c s (names c s A) K.places i m k e n) [ inl z ↦ inl (z ∙ is) | inr z ↦ inr z ]) sure
          (replies_lead c A.of_run.steps world K A.healthy.nodes l name q L m sent t lg) G (A.free l name q L).free unfailed
          (λ x j. goes x (In_left x (reply_call c s q (Step.sender_node m.from) m.body).acts.asks (reply_call c s q (Step.sender_node m.from) m.body).acts.stores j)) (λ x j. goes x (In_right x (reply_call c s q (Step.sender_node m.from) m.body).acts.asks (reply_call c s q (Step.sender_node m.from) m.body).acts.stores j))
