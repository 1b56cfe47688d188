-- What a node that is well answers to a log's last sequencer: to an ask a page from the number on, to a store that it stored or trimmed the number, and to either that the epoch is clean.
use Rattle.std.proofs.Common.{◌≡◌, ◌∙◌, ◌≤◌, ℕ, inl, inr, refl, ap, sym, subst, true, false, ◌&&◌, if◌then◌else◌, List, [], Option, Some, None, arith}
use Rattle.std.proofs.lemmas.Bool.{and_parts, and_from}
use Rattle.ld_lsn.specs.Number.{epoch_of}
use Rattle.ld_config.specs.declared.config.Config.{Config}
use Rattle.ld_schedule.specs.declared.event.Event.TheVariants as events
use Rattle.ld_transcript.specs.declared.line.Line.TheVariants as lines
use Rattle.ld_msg.specs.declared.msg.What.{What}
use Rattle.ld_msg.specs.declared.msg.Entry.{Entry}
use Rattle.ld_msg.specs.declared.msg.Summary.{Summary}
use Rattle.ld_msg.specs.declared.msg.Who.TheVariants as whos
use Rattle.ld_msg.specs.declared.msg.Msg.{Msg}
use Rattle.ld_msg.specs.declared.msg.Body.{Body}
use Rattle.ld_msg.specs.declared.msg.Body.TheVariants as bodies
use Rattle.ld_msg.specs.Network.{message}
use Rattle.ld_msg.specs.Sequencer.{Sequencer}
use Rattle.ld_op.specs.declared.op.Op.{Op}
use Rattle.ld_op.specs.Plain.{Log, log_of, is_lost, summary_at}
use Rattle.ld_op.specs.Answers.{store_decision, digest_decision, store_answer, digest_answer, on_store, on_digest_ask}
use Rattle.ld_op.specs.Handles.{answer_message}
use Rattle.ld_machine.specs.Config.{all_nodes, has_log}
use Rattle.ld_machine.specs.Disk.{keep_end, Kept, Written, is_up}
use Rattle.ld_machine.specs.State.{State, node_at, with_node}
use Rattle.ld_machine.specs.World.{In, from_node, to_node_of}
use Rattle.ld_machine.specs.Step as Step
use Rattle.ld_machine.specs.Calm.{Takes, moves, moved}
use Rattle.ld_safety.proofs.Lists.{Some_inj, not_none}
use Rattle.ld_safety.proofs.Steps.{finish_In}
use Rattle.ld_safety.proofs.NodeSteps.{store_decided, ask_decided}
use Rattle.ld_safety.proofs.Events.{NamesOnce}
use Rattle.ld_served.proofs.Phases.{Unlimited}
use Rattle.ld_served.proofs.Stepping.{delivered}
use Rattle.ld_served.proofs.Well.{Sound, sound_written, sound_releases, node_here}
use Rattle.ld_served.proofs.Last.{LastOf, here_most}
use Rattle.ld_served.proofs.Actors.{Here}
use Rattle.ld_served.proofs.Kept.{Good}
use Rattle.ld_served.proofs.UnderWay.{UnderWay, delivery_adds}

-- ---- decisions ----

pub data AskAnswer (from : ℕ) (o : Option Body) : Type 0 where
  page_told : (upto trim lng : ℕ) (es : List Entry) → o ≡ Some (bodies.DigestPage from upto trim lng es) → AskAnswer from o
  clean_told : (z : Summary) → o ≡ Some (bodies.CleanHere from z) → AskAnswer from o

pub data StoreAnswer (g : Log) (n : ℕ) (o : Option Body) : Type 0 where
  stored_told : o ≡ Some (bodies.Stored n) → StoreAnswer g n o
  trimmed_told : n ≤ g.trim → o ≡ Some (bodies.TrimmedHere n g.trim) → StoreAnswer g n o
  closed_told : (z : Summary) → summary_at g (epoch_of n) ≡ Some z → o ≡ Some (bodies.CleanHere n z) → StoreAnswer g n o

not_lost : (g : Log) (e : ℕ) → g.lost ≡ false → is_lost g e ≡ true → ⊥
not_lost g e n t = let p = and_parts g.lost _ t in let k : true ≡ false = sym p.0 ∙ n in cc

-- where the log isn't lost, and its seal isn't above the ballot
ask_answered : (generation ballot from : ℕ) (g : Log) → g.lost ≡ false → g.sealed ≤ ballot → AskAnswer from (digest_answer generation g from (digest_decision g ballot from))
ask_answered generation ballot from g w u = ask_decided g ballot from (λ d. AskAnswer from (digest_answer generation g from d)) (record {
  lost = λ t. absurd (not_lost g (epoch_of from) w t);
  clean = λ y t k. clean_told y refl;
  sealed = λ s k. absurd (omega arith);
  same = λ s k. page_told _ _ _ _ refl;
  takes = λ s k. page_told _ _ _ _ refl;
})

store_answered : (generation ballot n : ℕ) (x : What) (g : Log) → g.lost ≡ false → g.sealed ≤ ballot → StoreAnswer g n (store_answer generation n (store_decision g (record { number = n; ballot = ballot; what = x })))
store_answered generation ballot n x g w u = store_decided g (record { number = n; ballot = ballot; what = x }) (λ d. StoreAnswer g n (store_answer generation n d)) (record {
  lost = λ t. absurd (not_lost g (epoch_of n) w t);
  clean = λ y t k. closed_told y k refl;
  trimmed = λ s h. trimmed_told h refl;
  sealed = λ s a k. absurd (omega arith);
  same = λ s a b k. stored_told refl;
  takes = λ s a b. stored_told refl;
})

-- ---- an answer goes ----

module _ (c : Config) (s : State) (A : Good c s) where
  pub names : NamesOnce s
  names = A.of_run.known.lined.0.0.0.0.0

  -- what a node that is well answers is sent
  answers_go : (i n : ℕ) (m : Msg) (b : Body) → message s.network i ≡ Some m → m.to ≡ whos.Node n → In n (all_nodes c) → has_log c m.log ≡ true → (Step.node_handles n (node_at s n) m).answer ≡ Some b
      → Unlimited (moved c s (Takes (events.Deliver i))).lines → UnderWay (moved c s (Takes (events.Deliver i))).state.network (record { from = whos.Node n; to = m.from; log = m.log; body = b })
  answers_go i n m b e t node log a u = delivery_adds c s names A.of_run.known.places i m _ e (goes (λ k j. u.journals k (finish_In (moves c s (Takes (events.Deliver i))) _ j))) where
    answer : Msg
    answer = record { from = whos.Node n; to = m.from; log = m.log; body = b }

    in_answer : (o : Option Body) → o ≡ Some b → In answer (answer_message n m o)
    in_answer None h = absurd (not_none h)
    in_answer (Some x) h = inl (λ j. record { from = whos.Node n; to = m.from; log = m.log; body = Some_inj (sym h) j })

    sends_so : (o : Option Op) (ms : List Msg) → In answer ms → (k : Kept) → k ≡ Written → In answer (if Step.is_written k then ms else [])
    sends_so o ms j k w = subst (λ x. In answer (if Step.is_written x then ms else [])) (sym w) j

    well : Sound (node_at s n)
    well = let z = A.healthy.nodes n node in record { up = z.up; none = z.sound }

    heard : (o : Option Op) → (answers : Option Body) → answers ≡ Some b → ((k : ℕ) → In (lines.NodeFull k) (Step.handles (with_node (Step.marked s i) n (Step.releases (node_at s n) m.log m.body)) n m o answers).lines → ⊥)
        → In answer (Step.handles (with_node (Step.marked s i) n (Step.releases (node_at s n) m.log m.body)) n m o answers).sends
    heard None answers h v = in_answer answers h
    heard (Some o) answers h v =
        let t : State = with_node (Step.marked s i) n (Step.releases (node_at s n) m.log m.body) in
        let here : node_at t n ≡ Step.releases (node_at s n) m.log m.body = node_here (Step.marked s i) n (Step.releases (node_at s n) m.log m.body) in
        let sound : Sound (node_at t n) = subst Sound (sym here) (sound_releases (node_at s n) m.log m.body well) in
        sends_so (Some o) (answer_message n m answers) (in_answer answers h) (keep_end (node_at t n) o) (sound_written (node_at t n) o sound (λ q. v n (subst (λ r. In (lines.NodeFull n) (Step.kept_lines n [] r)) (sym q) (inl refl))))

    goes : ((k : ℕ) → In (lines.NodeFull k) (moves c s (Takes (events.Deliver i))).lines → ⊥) → In answer (moves c s (Takes (events.Deliver i))).sends
    goes = delivered c s i (λ d. ((k : ℕ) → In (lines.NodeFull k) d.lines → ⊥) → In answer d.sends) names (record {
      unheard = λ h v. absurd (let z = (h m e).node n t in let y : (is_up (node_at s n).status && has_log c m.log) ≡ true = and_from (is_up (node_at s n).status) (has_log c m.log) well.up log in let x : true ≡ false = sym y ∙ z in cc);
      none = λ h v. absurd (not_none (sym h ∙ e));
      to_node = λ k x f g v. to_this k x f g;
      to_sequencer = λ name q x f g l v w. absurd (let z : whos.Node n ≡ whos.Sequencer q.epoch = sym t ∙ (ap (λ (y : Msg). y.to) (Some_inj (sym e ∙ f)) ∙ g) in cc);
      to_reader = λ name d x f g v w. absurd (let z : whos.Node n ≡ whos.Reader d.number = sym t ∙ (ap (λ (y : Msg). y.to) (Some_inj (sym e ∙ f)) ∙ g) in cc);
    }) where
      to_this : (k : ℕ) (x : Msg) → message s.network i ≡ Some x → x.to ≡ whos.Node k → ((j : ℕ) → In (lines.NodeFull j) (Step.to_up_node (Step.marked s i) k x).lines → ⊥) → In answer (Step.to_up_node (Step.marked s i) k x).sends
      to_this k x f g =
          let same : m ≡ x = Some_inj (sym e ∙ f) in
          let z : whos.Node n ≡ whos.Node k = sym t ∙ (ap (λ (y : Msg). y.to) same ∙ g) in
          let node : n ≡ k = cc in
          subst (λ r. ((j : ℕ) → In (lines.NodeFull j) (Step.to_up_node (Step.marked s i) r x).lines → ⊥) → In answer (Step.to_up_node (Step.marked s i) r x).sends) node
          (subst (λ (y : Msg). ((j : ℕ) → In (lines.NodeFull j) (Step.to_up_node (Step.marked s i) n y).lines → ⊥) → In answer (Step.to_up_node (Step.marked s i) n y).sends) same
          (heard (Step.node_handles n (node_at s n) m).op (Step.node_handles n (node_at s n) m).answer a))

  -- ---- to a log's last sequencer ----
  module _ (l : ℕ) (name : List ℕ) (q : Sequencer) (L : LastOf s.sequencers l name q) (n : ℕ) (node : In n (all_nodes c)) where
    log : has_log c q.log ≡ true
    log = A.of_run.known.setting.0.1.0 name q L.named

    g : Log
    g = log_of (node_at s n).plain q.log

    whole : g.lost ≡ false
    unfolding g
    whole = (A.healthy.nodes n node).whole q.log log

    -- no node's seal is above it
    low_seal : g.sealed ≤ q.epoch
    unfolding g
    low_seal = elim (A.of_run.known.sealing.1.0 n (node_at s n).plain (inl refl) q.log) [ inl z ↦ omega arith | inr h ↦ here_most s.sequencers l name q _ L (subst (λ x. Here s.sequencers x (log_of (node_at s n).plain q.log).sealed) L.log h) ]

    pub ask_answer : (from : ℕ) → AskAnswer from (Step.node_handles n (node_at s n) (to_node_of q.log q.epoch n (bodies.DigestAsk from))).answer
    unfolding on_digest_ask g
    ask_answer from = ask_answered (node_at s n).plain.generation q.epoch from g whole low_seal

    pub store_answer_so : (k lng : ℕ) (x : What) → StoreAnswer (log_of (node_at s n).plain q.log) k (Step.node_handles n (node_at s n) (to_node_of q.log q.epoch n (bodies.Store k lng x))).answer
    unfolding on_store g
    store_answer_so k lng x = store_answered (node_at s n).plain.generation q.epoch k x g whole low_seal

    -- where the message is delivered, the answer is under way
    pub answer_goes : (i : ℕ) (x b : Body) → message s.network i ≡ Some (to_node_of q.log q.epoch n x) → (Step.node_handles n (node_at s n) (to_node_of q.log q.epoch n x)).answer ≡ Some b → Unlimited (moved c s (Takes (events.Deliver i))).lines
        → UnderWay (moved c s (Takes (events.Deliver i))).state.network (from_node q.log n q.epoch b)
    answer_goes i x b e a u = answers_go i n (to_node_of q.log q.epoch n x) b e refl node log a u
