-- Every step carries only what was carried before, what was appended, issued, planned or closed in it, and what was refilled.
use Rattle.std.proofs.Common.{◌≡◌, ◌∙◌, ◌≤◌, ℕ, ◌+◌, max, arith, inl, inr, refl, ap, sym, subst, Bool, true, false, List, [], ◌∷◌, length, nat_lt, Option, Some, None, ◌<◌}
use Rattle.std.specs.Option.{unwrap_or}
use Rattle.ld_table.specs.Table.{find, put}
use Rattle.ld_table.specs.Named.{find_named, put_named}
use Rattle.ld_table.proofs.Laws.{find-put_same}
use Rattle.ld_lsn.specs.Number.{epoch_of, numbered, last_esn}
use Rattle.ld_config.specs.declared.config.Config.{Config}
use Rattle.ld_transcript.specs.declared.line.Line.{Line}
use Rattle.ld_transcript.specs.declared.line.Line.TheVariants as lines
use Rattle.ld_msg.specs.declared.msg.What.{What}
use Rattle.ld_msg.specs.declared.msg.What.TheVariants.{Rec}
use Rattle.ld_msg.specs.declared.msg.Entry.{Entry}
use Rattle.ld_msg.specs.declared.msg.Summary.{Summary}
use Rattle.ld_msg.specs.declared.msg.Who.{Who}
use Rattle.ld_msg.specs.declared.msg.Who.TheVariants as whos
use Rattle.ld_msg.specs.declared.msg.Msg.{Msg}
use Rattle.ld_msg.specs.declared.msg.Body.{Body}
use Rattle.ld_msg.specs.declared.msg.Body.TheVariants as bodies
use Rattle.ld_op.specs.declared.op.Op.TheVariants as ops
use Rattle.ld_op.specs.Plain.{Plain, Log, log_of, apply}
use Rattle.ld_op.specs.Ticks.{Ticked, Cleans, Rebuilt, Asks, Nothing, on_tick, lowest_unclean, tick_with, lost_tick, refill_tick, missing, node_asks}
use Rattle.ld_table.specs.Words.{without}
use Rattle.ld_machine.specs.Config.{all_nodes, first_spec, looks_at}
use Rattle.ld_msg.specs.Register.{Register, View, Granted, epochs_of, generation_of, epochs_in, lce_of, close}
use Rattle.ld_machine.specs.Disk.{Node, new_node, load}
use Rattle.ld_msg.specs.Digest.{Told, plan, Item}
use Rattle.ld_msg.specs.Sequencer.{Called, Sequencer, Recovery, Numbered, appending, appended, next_esn, first_stores, released_of, on_reply, on_retry, to_each, activated, recovery_asks, Append, fresh_append, called, acted_messages}
use Rattle.ld_msg.specs.Choice.{choice}
use Rattle.ld_msg.specs.Reading.{Held, lost_held, within}
use Rattle.ld_msg.specs.Reader.{Reader, Read, heard, polled, opened, held_with, is_newer, round_of, on_answer, poll_asks, start_asks, seen_nodes}
use Rattle.ld_machine.specs.State.{State, Done, finish, node_at, with_node, with_register, with_sequencer, with_reader, only_state, posted}
use Rattle.ld_machine.specs.World.{Made, In, made_on, made_by, made_retried, page_from}
use Rattle.ld_machine.specs.Step as Step
use Rattle.ld_safety.proofs.Lists.{only, In-append, cond_both, not_both}
use Rattle.ld_safety.proofs.Names.{named_cases}
use Rattle.ld_table.proofs.NameLaws.{same-self}
use Rattle.ld_op.specs.Answers.{on_release}
use Rattle.std.proofs.lemmas.Bool.{cases_order}
use Rattle.ld_safety.proofs.Members.{In_put}
use Rattle.ld_safety.proofs.Events.{retry_call, announced, NamesOnce, Cases, dispatch, Live, Reading, Serves, refreshed, loaded, with_spec}
use Rattle.ld_safety.proofs.SequencerSteps.{same_sender, Ending, gone_of, replied, retried}
use Rattle.ld_safety.proofs.RegisterSteps.{shown_closed}
use Rattle.ld_safety.proofs.ReaderSteps.{dropped_held, ReadKeeps, answered, IsAskOf, start_are, confirm_are}
use Rattle.ld_safety.proofs.ReaderLogs.{Apart}
use Rattle.ld_safety.proofs.Carried as carried
use Rattle.ld_safety.proofs.CarriedNodes as nodes
use Rattle.ld_safety.proofs.CarriedSequencers as sequencers
use Rattle.ld_safety.proofs.Has as has
use Rattle.ld_machine.specs.Facts.{AsksToAppend}
use Rattle.ld_msg.specs.declared.style.Style.{Style}
use Rattle.ld_machine.specs.Calm as Calm
use Rattle.ld_machine.specs.Calm.{Move, event_of}

-- a message that a sequencer heard
pub record HeardOf (s : State) (q : Sequencer) (y : ℕ) (b : Body) : Type 0 where
  pub message : Msg
  pub sent : In message s.network.sent
  pub to : message.to ≡ whos.Sequencer q.epoch
  pub log : message.log ≡ q.log
  pub from : Step.sender_node message.from ≡ y
  pub body : message.body ≡ b

module _ (c : Config) (s : State) (e : Move) (E : ℕ → ℕ → ℕ → What → Type 0) (T : ℕ → ℕ → Type 0) (Y : ℕ → ℕ → Summary → Type 0) (O : ℕ → ℕ → Type 0) (V : ℕ → Bool → Entry → Type 0) (W : ℕ → ℕ → Type 0) (R : ℕ → ℕ → ℕ → What → Type 0) (G : ℕ → ℕ → ℕ → Type 0) where
  abbrev pub Carries : State → Type 0
  Carries t = has.Has (λ y p. carried.PlainOk E T Y O V W R G p) (λ y l r. W l r) (carried.MsgOk E T Y O V W R G) (carried.SequencerOk E T Y O V W R G) (carried.ReaderOk E T Y O V W R G) (carried.RegisterOk E T Y O V W R G) t

  -- what comes new in the step
  pub record Sources : Type 0 where
    pub sound : carried.Sound E T Y O V W R G
    pub before : Carries s
    pub apart : Apart s.network.sent s.readers
    pub register : carried.RegisterOk E T Y O V W R G (Calm.moves c s e).state.register
    pub epochs : (name : List ℕ) (q : Sequencer) → find_named name s.sequencers ≡ Some q → (k : ℕ) → 0 < k → k < q.epoch → O q.log k
    pub new_epochs : (l : ℕ) (r : Register) → (Calm.moves c s e).state.register ≡ r → (k : ℕ) → 0 < k → k < (epochs_of r l).epoch → O l k
    pub append : (name : List ℕ) (q : Sequencer) (payload : List ℕ) → Live s name q → appending q payload ≡ Numbered → AsksToAppend name payload (event_of e) → In (lines.Appended name (numbered q.epoch (next_esn q))) (Calm.moves c s e).lines → E q.log q.epoch (numbered q.epoch (next_esn q)) (Rec payload)
    pub trim : (name : List ℕ) (q : Sequencer) (point : ℕ) → Live s name q → point ≤ released_of q → In (lines.Trimmed name point) (Calm.moves c s e).lines → T q.log point
    pub planned : (name : List ℕ) (q : Sequencer) (v : Recovery) (d : List Told) (loss : Bool) (gone : List ℕ) → Live s name q → q.recovery ≡ Some v → sequencers.DigestOk E T Y O V W R G sound q.log v.epoch d
        → made_on c s (event_of e) ≡ record { log = q.log; epoch = v.epoch; ballot = q.epoch; loss = loss; digest = d; gone = gone } ∷ []
        → (i : Item) → In i (plan v.epoch loss d).items → E q.log q.epoch i.number i.what × (epoch_of i.number ≡ v.epoch)
    pub closed : (name : List ℕ) (q : Sequencer) (v : Recovery) (y : Summary) (short : Bool) → Live s name q → q.recovery ≡ Some v → Ending q (HeardOf s q) v y short → lce_of s.register q.log + 1 ≡ v.epoch
        → close s.register q.log v.epoch y short ≡ record { register = (Calm.moves c s e).state.register; answer = Granted } → Y q.log v.epoch y
    pub refill : (n : ℕ) (m : Msg) (round from upto : ℕ) (es : List Entry) → In m s.network.sent → m.to ≡ whos.Node n → Serves c s n m.log → m.body ≡ bodies.ReadPage round from upto true es → (log_of (node_at s n).plain m.log).lost ≡ true
        → nodes.RefillOk E T Y O V W R G sound m.log (log_of (node_at s n).plain m.log) es
    pub shows : (n l : ℕ) → Serves c s n l → nodes.Shows E T Y O V W R G sound l (log_of (node_at s n).plain l) (Step.released_at (node_at s n) l)
    pub good : (name : List ℕ) (q : Sequencer) → find_named name s.sequencers ≡ Some q → G q.log q.epoch q.lng
    pub own : (name : List ℕ) (q : Sequencer) → find_named name s.sequencers ≡ Some q → (p : ℕ × Append) → In p q.appends → epoch_of p.0 ≡ q.epoch
    pub small : (name : List ℕ) (q : Sequencer) → find_named name s.sequencers ≡ Some q → next_esn q ≤ last_esn
    pub released : (name : List ℕ) (q p : Sequencer) → Live s name q → find_named name (Calm.moves c s e).state.sequencers ≡ Some p → W q.log (released_of p)

  module _ (N : NamesOnce s) (K : Sources) where
    abbrev Result : Done → List Made → Type 0
    Result d m = Calm.moves c s e ≡ d → made_on c s (event_of e) ≡ m → Carries (finish d).state

    quiet_has : (t : State) (ls : List Line) → Carries t → Carries (finish (record { state = t; lines = ls; sends = [] })).state
    quiet_has t ls h = has.finish_has _ _ _ _ _ _ (record { state = t; lines = ls; sends = [] }) h (λ m i. absurd i)

    to_register : (d : Done) → Calm.moves c s e ≡ d → carried.RegisterOk E T Y O V W R G d.state.register
    to_register d w = subst (λ (x : Done). carried.RegisterOk E T Y O V W R G x.state.register) w K.register

    posted_ok : (who : Who) → (carried.NodeWho E T Y O V W R G who → ⊥) → (l : ℕ) (bs : List (ℕ × Body)) → ((b : ℕ × Body) → In b bs → carried.BodyOk E T Y O V W R G l who b.1) → (m : Msg) → In m (posted who l bs) → carried.MsgOk E T Y O V W R G m
    posted_ok who nw l bs h = has.posted_has (λ y p. carried.PlainOk E T Y O V W R G p) (λ y l r. W l r) (carried.MsgOk E T Y O V W R G) (carried.SequencerOk E T Y O V W R G) (carried.ReaderOk E T Y O V W R G) (carried.RegisterOk E T Y O V W R G) who l bs (λ b i. (h b i, whole_posted b.0 b.1 (h b i))) where
      whole_posted : (n : ℕ) (b : Body) → carried.BodyOk E T Y O V W R G l who b → carried.WholeTo (whos.Node n) b
      whole_posted n (bodies.ReadPage round from upto clean es) k = absurd (nw k.1)
      whole_posted n _ k = tt

    -- ---- nodes ----
    node_here : (t : State) (n : ℕ) (x : Node) → node_at (with_node t n x) n ≡ x
    node_here t n x = ap (λ (o : Option Node). unwrap_or o new_node) (find-put_same n n x t.nodes refl)

    released_same : (x : Node) (l : ℕ) (b : Body) → (Step.releases x l b).plain ≡ x.plain
    released_same x l (bodies.Release y) = refl
    released_same x l _ = refl

    max_released : (l a b : ℕ) → W l a → W l b → W l (on_release a b)
    unfolding on_release
    max_released l a b x y = elim (cases_order a b) [
      | inl z ↦ subst (W l) (let z : b ≡ max a b = omega arith in z) y
      | inr (inl z) ↦ subst (W l) (let z : b ≡ max a b = omega arith in z) y
      | inr (inr z) ↦ subst (W l) (let z : a ≡ max a b = omega arith in z) x
    ]

    hears : (f : List ℕ) (n : ℕ) (m : Msg) → In m s.network.sent → m.to ≡ whos.Node n → Serves c s n m.log → Carries (finish (Step.to_up_node (refreshed s f) n m)).state
    hears f n m i t v =
        let x : Node = node_at s n in
        let h = nodes.message_ok E T Y O V W R G K.sound x.plain n x.plain.generation m.log (Step.released_at x m.log) n m.from m.body ((K.before.nodes n).plain m.log) (K.shows n m.log v) ((K.before.nodes n).released m.log) (K.before.sent m i).0 (λ round from upto es b u. K.refill n m round from upto es i t v b u) in
        let y : Node = Step.releases x m.log m.body in
        let p : (node_at (with_node (refreshed s f) n y) n).plain ≡ x.plain = ap (λ (z : Node). z.plain) (node_here (refreshed s f) n y) ∙ released_same x m.log m.body in
        has.handles_has _ _ _ _ _ _ (with_node (refreshed s f) n y) n m (Step.node_handles n x m).op (Step.node_handles n x m).answer
        (has.node_has _ _ _ _ _ _ (refreshed s f) n y K.before (has.release_has _ _ _ _ _ _ n x m.log m.body (K.before.nodes n) (λ r b. max_released m.log _ r ((K.before.nodes n).released m.log) (subst (carried.BodyOk E T Y O V W R G m.log m.from) b (K.before.sent m i).0))))
        (λ o q. subst (λ (z : Plain). carried.PlainOk E T Y O V W R G (apply z o)) (sym p) (nodes.op_ok E T Y O V W R G K.sound x.plain o (K.before.nodes n).plain (h.keeps o q)))
        (λ b q. (h.answers b q, h.whole b q))

    loaded_has : (n : ℕ) → Carries (loaded s n)
    loaded_has n = has.node_has _ _ _ _ _ _ s n (load (node_at s n)) K.before (has.load_has _ _ _ _ _ _ (λ y l. K.sound.zero_released l) n (node_at s n) (K.before.nodes n))

    formats : (n : ℕ) (r : Register) → carried.RegisterOk E T Y O V W R G r → Carries (finish (Step.keeps_op (with_register (loaded s n) r) n (ops.Format (generation_of r n) (epochs_in r.logs)) (Step.format_lines c n r) [])).state
    formats n r h = let t : Carries (with_register (loaded s n) r) = has.register_has _ _ _ _ _ _ (loaded s n) r (loaded_has n) h in
        has.keeps_has _ _ _ _ _ _ (with_register (loaded s n) r) n (ops.Format (generation_of r n) (epochs_in r.logs)) (Step.format_lines c n r) [] t
        (nodes.op_ok E T Y O V W R G K.sound (node_at (loaded s n) n).plain (ops.Format (generation_of r n) (epochs_in r.logs)) (t.nodes n).plain tt) (λ m i. absurd i)

    cleans_closed : (n l k : ℕ) (y : Summary) → on_tick (log_of (node_at s n).plain l) (epochs_of s.register l).summaries ≡ Cleans k y → Y l k y
    unfolding on_tick
    cleans_closed n l k y h = by_found (find (lowest_unclean (log_of (node_at s n).plain l)) (epochs_of s.register l).summaries) refl h where
      not_lost : (g : Log) → lost_tick g ≡ Cleans k y → ⊥
      not_lost g q = cond_both g.lost (refill_tick (nat_lt g.lost_to (lowest_unclean g)) (missing g)) Nothing (λ t. t ≡ Cleans k y → ⊥) (λ u. by_missing (nat_lt g.lost_to (lowest_unclean g)) (missing g)) (λ u z. cc) q where
        by_missing : (b : Bool) (ns : List ℕ) → refill_tick b ns ≡ Cleans k y → ⊥
        by_missing true [] z = cc
        by_missing false [] z = cc
        by_missing b (x ∷ ns) z = cc

      by_found : (o : Option Summary) → find (lowest_unclean (log_of (node_at s n).plain l)) (epochs_of s.register l).summaries ≡ o → tick_with (log_of (node_at s n).plain l) o ≡ Cleans k y → Y l k y
      by_found None f q = absurd (not_lost (log_of (node_at s n).plain l) q)
      by_found (Some z) f q = let a : lowest_unclean (log_of (node_at s n).plain l) ≡ k = cc in let b : z ≡ y = cc in subst (λ v. Y l v y) a (subst (λ v. Y l (lowest_unclean (log_of (node_at s n).plain l)) v) b (K.before.register l _ z f))

    ticked : (n l : ℕ) (t : Ticked) → on_tick (log_of (node_at s n).plain l) (epochs_of s.register l).summaries ≡ t → Carries (finish (Step.ticks_as c s n l t)).state
    ticked n l (Cleans k y) h = has.keeps_has _ _ _ _ _ _ s n (ops.Clean l k y) [] [] K.before (nodes.op_ok E T Y O V W R G K.sound (node_at s n).plain (ops.Clean l k y) (K.before.nodes n).plain (cleans_closed n l k y h)) (λ m i. absurd i)
    ticked n l Rebuilt h = has.keeps_has _ _ _ _ _ _ s n (ops.Refilled l) (lines.NodeRebuilt n l ∷ []) [] K.before (nodes.op_ok E T Y O V W R G K.sound (node_at s n).plain (ops.Refilled l) (K.before.nodes n).plain tt) (λ m i. absurd i)
    ticked n l (Asks from) h = has.finish_has _ _ _ _ _ _ (Step.ticks_as c s n l (Asks from)) K.before (has.posted_has (λ y p. carried.PlainOk E T Y O V W R G p) (λ y l r. W l r) (carried.MsgOk E T Y O V W R G) (carried.SequencerOk E T Y O V W R G) (carried.ReaderOk E T Y O V W R G) (carried.RegisterOk E T Y O V W R G) (whos.Node n) l (node_asks n (all_nodes c) from) (λ b i. ask_plain b (to_each_is (without (n ∷ []) (all_nodes c)) b i))) where
      to_each_is : (ys : List ℕ) (b : ℕ × Body) → In b (to_each (bodies.ReadAsk 0 from) ys) → b.1 ≡ bodies.ReadAsk 0 from
      to_each_is [] b i = absurd i
      to_each_is (y ∷ ys) b (inl q) = ap (λ (x : ℕ × Body). x.1) q
      to_each_is (y ∷ ys) b (inr i) = to_each_is ys b i

      ask_plain : (b : ℕ × Body) → b.1 ≡ bodies.ReadAsk 0 from → carried.BodyOk E T Y O V W R G l (whos.Node n) b.1 × carried.WholeTo (whos.Node b.0) b.1
      ask_plain b q = subst (λ z. carried.BodyOk E T Y O V W R G l (whos.Node n) z × carried.WholeTo (whos.Node b.0) z) (sym q) (tt, tt)
    ticked n l Nothing h = quiet_has s [] K.before

    -- ---- sequencers ----
    put_here : (name : List ℕ) (p : Sequencer) → find_named name (put_named name p s.sequencers) ≡ Some p
    put_here name p = elim (named_cases name name p s.sequencers) [ inl a ↦ a.1 | inr a ↦ absurd (let z = same-self name in not_both _ z a.0) ]

    acted : (again : Bool) (f : List ℕ) (name : List ℕ) (q : Sequencer) (call : Called) → Live s name q → Calm.moves c s e ≡ Step.told (refreshed s f) name q (announced again call) → sequencers.CalledOk E T Y O V W R G K.sound name q call → Carries (finish (Step.told (refreshed s f) name q (announced again call))).state
    acted again f name q call v w h = has.finish_has _ _ _ _ _ _ (Step.told (refreshed s f) name q (announced again call))
        (has.register_has _ _ _ _ _ _ (with_sequencer (refreshed s f) name call.acts.sequencer) call.register (has.sequencer_has _ _ _ _ _ _ (refreshed s f) name call.acts.sequencer K.before h.sequencer) (to_register (Step.told (refreshed s f) name q (announced again call)) w))
        (posted_ok (whos.Sequencer q.epoch) (λ h. h) q.log (acted_messages q (announced again call).acts) (λ b i. let r = K.released name q call.acts.sequencer v (ap (λ (d : Done). find_named name d.state.sequencers) w ∙ put_here name _) in (sequencers.messages_ok E T Y O V W R G K.sound name q (announced again call) (sequencers.again_ok E T Y O V W R G K.sound name q again call r h) r).each b i))

    closing : (again : Bool) (f : List ℕ) (name : List ℕ) (q : Sequencer) (call : Called) → Live s name q → Calm.moves c s e ≡ Step.told (refreshed s f) name q (announced again call) → (v : Recovery) (y : Summary) (short : Bool) (n : Register) → q.recovery ≡ Some v → Ending q (HeardOf s q) v y short → lce_of s.register q.log + 1 ≡ v.epoch
        → close s.register q.log v.epoch y short ≡ record { register = n; answer = Granted } → call.register ≡ n → Y q.log v.epoch y
    closing again f name q call l w v y short n r d k g z = K.closed name q v y short l r d k (g ∙ ap (λ (x : Register). record { register = x; answer = Granted }) (sym z ∙ sym (ap (λ (x : Done). x.state.register) w)))

    shown_here : (l k : ℕ) (y : Summary) → (looks_at c s.register l k).summary ≡ Some y → Y l k y
    shown_here l k y h = K.before.register l k y (shown_closed (first_spec c l) s.register l k y h)

    replies : (f : List ℕ) (name : List ℕ) (q : Sequencer) (m : Msg) → In m s.network.sent → m.to ≡ whos.Sequencer q.epoch → m.log ≡ q.log → Live s name q
        → Result (Step.acted c (refreshed s f) name q (on_reply (looks_at c s.register q.log) q (Step.sender_node m.from) m.body)) (made_by c s (Some (name, q)) (page_from m.from) m.body)
    replies f name q m i t l v w x =
        let y = Step.sender_node m.from in
        let a = on_reply (looks_at c s.register q.log) q y m.body in
        let call = called (looks_at c s.register q.log) s.register a a.tries in
        let h : HeardOf s q y m.body = record { message = m; sent = i; to = t; log = l; from = refl; body = refl } in
        let ok = sequencers.acting_ok E T Y O V W R G K.sound name q s.register call (made_on c s (event_of e)) (K.epochs name q v.named) (K.good name q v.named) (K.own name q v.named) c (HeardOf s q) (gone_of s q) (K.before.sequencers name q v.named) (closing false f name q call v w) (shown_here q.log)
        (λ r d loss g k D it. K.planned name q r d loss g v k D it) y m.body h (subst (λ k. carried.ReplyOk E T Y O V W R G k m.body) l (carried.reply_of E T Y O V W R G m.log m.from m.body (K.before.sent m i).0)) in
        acted false f name q call v w (replied c s name q v.there y m.body (λ k n. call ≡ k → made_on c s (event_of e) ≡ n → sequencers.CalledOk E T Y O V W R G K.sound name q k) ok refl (x ∙ ap (λ p. made_by c s (Some (name, q)) p m.body) (same_sender m.from)))

    retries : (again : Bool) (name : List ℕ) (q : Sequencer) → Live s name q → Result (Step.told s name q (announced again (retry_call c s q))) (made_retried c s (Some q))
    retries again name q v w x =
        let a = on_retry (looks_at c s.register q.log) q in
        let call = called (looks_at c s.register q.log) s.register a a.tries in
        let ok = sequencers.retrying_ok E T Y O V W R G K.sound name q s.register call (made_on c s (event_of e)) (K.epochs name q v.named) (K.good name q v.named) (K.own name q v.named) c (HeardOf s q) (gone_of s q) (K.before.sequencers name q v.named) (closing again s.network.fresh name q call v w) (shown_here q.log)
        (λ r d loss g k D it. K.planned name q r d loss g v k D it) in
        acted again s.network.fresh name q call v w (retried c s q v.there (λ k n. call ≡ k → made_on c s (event_of e) ≡ n → sequencers.CalledOk E T Y O V W R G K.sound name q k) ok refl x)

    appends : (name : List ℕ) (q : Sequencer) (payload : List ℕ) → Live s name q → appending q payload ≡ Numbered → AsksToAppend name payload (event_of e) → Result (Step.append_done s name q payload Numbered) []
    appends name q payload v a i w x =
        let o = K.before.sequencers name q v.named in let n = K.append name q payload v a i (subst (λ (d : Done). In (lines.Appended name (numbered q.epoch (next_esn q))) d.lines) (sym w) (inl refl)) in
        has.finish_has _ _ _ _ _ _ (Step.append_done s name q payload Numbered)
        (has.sequencer_has _ _ _ _ _ _ s name (appended q payload) K.before (record {
          appends = λ p j. elim (In-append p q.appends _ j) [
            | inl k ↦ o.appends p k
            | inr k ↦ (let z = only p (numbered q.epoch (next_esn q), fresh_append payload) k in subst (λ (y : ℕ × Append). E q.log q.epoch y.0 (Rec y.1.payload)) (sym z) n)
          ];
          recovery = o.recovery;
        }))
        (posted_ok (whos.Sequencer q.epoch) (λ h. h) q.log (first_stores q payload) (λ b j. (sequencers.each_ok E T Y O V W R G K.sound q.log q.epoch _ (choice q.spec q.lost (numbered q.epoch (next_esn q)) 0) (n, subst (λ k. G q.log k q.lng) (let u = K.small name q v.named in let z : q.epoch ≡ epoch_of (numbered q.epoch (next_esn q)) = omega arith in z) (K.good name q v.named))).each b j))

    trims : (name : List ℕ) (q : Sequencer) (point : ℕ) → Live s name q → point ≤ released_of q → Result (record { state = s; lines = lines.Trimmed name point ∷ []; sends = posted (whos.Sequencer q.epoch) q.log (to_each (bodies.Trim point) (all_nodes c)) }) []
    trims name q point v b w x = has.finish_has _ _ _ _ _ _ (record { state = s; lines = lines.Trimmed name point ∷ []; sends = posted (whos.Sequencer q.epoch) q.log (to_each (bodies.Trim point) (all_nodes c)) }) K.before
        (posted_ok (whos.Sequencer q.epoch) (λ h. h) q.log (to_each (bodies.Trim point) (all_nodes c)) (λ y j. (sequencers.each_ok E T Y O V W R G K.sound q.log q.epoch (bodies.Trim point) (all_nodes c) (K.trim name q point v b (subst (λ (d : Done). In (lines.Trimmed name point) d.lines) (sym w) (inl refl)))).each y j))

    drops : (name : List ℕ) (q : Sequencer) → Live s name q → Carries (finish (only_state (with_sequencer s name (Step.dropped q)))).state
    drops name q v = let o = K.before.sequencers name q v.named in quiet_has _ [] (has.sequencer_has _ _ _ _ _ _ s name (Step.dropped q) K.before (record { appends = o.appends; recovery = o.recovery }))

    unactivated : (l n : ℕ) (r : Register) → (Calm.moves c s e).state.register ≡ r → (k : ℕ) → 0 < k → k < (activated (looks_at c r l) (Step.spec_set c s l) l (epochs_of r l).epoch (lce_of r l)).epoch → O l k
    unfolding activated
    unactivated l n r i k u v = K.new_epochs l r i k u v

    activates : (name : List ℕ) (l : ℕ) (r : Register) → (Calm.moves c s e).state.register ≡ r → Result (Step.activated_as c s name l r (epochs_of r l).epoch (lce_of r l)) []
    activates name l r i w x = let n = (epochs_of r l).epoch in let d : Done = Step.activated_as c s name l r n (lce_of r l) in
        has.finish_has _ _ _ _ _ _ d (has.register_has _ _ _ _ _ _ (with_sequencer s name (activated (looks_at c r l) (Step.spec_set c s l) l n (lce_of r l))) r (has.sequencer_has _ _ _ _ _ _ s name (activated (looks_at c r l) (Step.spec_set c s l) l n (lce_of r l)) K.before (sequencers.activated_ok E T Y O V W R G K.sound name c r (Step.spec_set c s l) l n (lce_of r l) (K.new_epochs l r i))) (to_register d w))
        (posted_ok (whos.Sequencer n) (λ h. h) l (recovery_asks (looks_at c r l) (activated (looks_at c r l) (Step.spec_set c s l) l n (lce_of r l)) (lce_of r l)) (λ b j. (sequencers.begin_asks_ok E T Y O V W R G K.sound l n (looks_at c r l) (activated (looks_at c r l) (Step.spec_set c s l) l n (lce_of r l)) (lce_of r l) (unactivated l n r i)).each b j))

    register_only : (t : State) (r : Register) (ls : List Line) → Carries t → Calm.moves c s e ≡ record { state = with_register t r; lines = ls; sends = [] } → Carries (finish (record { state = with_register t r; lines = ls; sends = [] })).state
    register_only t r ls h w = quiet_has (with_register t r) ls (has.register_has _ _ _ _ _ _ t r h (to_register (record { state = with_register t r; lines = ls; sends = [] }) w))

    -- ---- readers ----
    ask_ok : (l r round from : ℕ) (b : Body) → IsAskOf round from b → carried.BodyOk E T Y O V W R G l (whos.Reader r) b
    ask_ok l r round from b (inl q) = subst (carried.BodyOk E T Y O V W R G l (whos.Reader r)) (sym q) tt
    ask_ok l r round from b (inr q) = subst (carried.BodyOk E T Y O V W R G l (whos.Reader r)) (sym q.2) tt

    HeldFine : ℕ → List (ℕ × Held) → Type 0
    HeldFine l hs = (h : ℕ × Held) → In h hs → carried.HeldOk E T Y O V W R G l h.1.body

    -- a reader that reads on, with its asks
    record ReadOk (d : Reader) (a : Read) : Type 0 where
      log : a.reader.log ≡ d.log
      held : HeldFine d.log a.reader.held
      asks : (r : ℕ) (b : ℕ × Body) → In b a.asks → carried.BodyOk E T Y O V W R G d.log (whos.Reader r) b.1

    held_put : (d : Reader) (y : ℕ) (b : Body) → HeldFine d.log d.held → carried.HeldOk E T Y O V W R G d.log b → HeldFine d.log (held_with d.held y b)
    unfolding HeldFine
    held_put d y b h o = cond_both (is_newer (find y d.held) (round_of b)) (put y (record { round = round_of b; body = b }) d.held) d.held (λ x. (k : ℕ × Held) → In k x → carried.HeldOk E T Y O V W R G d.log k.1.body)
        (λ t k i. elim (In_put y (record { round = round_of b; body = b }) d.held k i) [ inl q ↦ subst (λ (x : ℕ × Held). carried.HeldOk E T Y O V W R G d.log x.1.body) (sym q) o | inr j ↦ h k j ]) (λ t. h)

    start_ok : (l r : ℕ) (full : Bool) (looks : ℕ → View) (x : Reader) (b : ℕ × Body) → In b (start_asks full looks x) → carried.BodyOk E T Y O V W R G l (whos.Reader r) b.1
    start_ok l r full looks x b i = ask_ok l r _ _ b.1 (start_are full looks x b i).0

    read_keeps : (looks : ℕ → View) (d : Reader) (y : ℕ) (b : Body) → HeldFine d.log d.held → carried.HeldOk E T Y O V W R G d.log b → ReadKeeps looks d y b (ReadOk d)
    unfolding HeldFine
    read_keeps looks d y b h o = let k = held_put d y b h o in record {
      starts = record { log = refl; held = k; asks = λ r x i. absurd i };
      ignored = λ u. record { log = refl; held = h; asks = λ r x i. absurd i };
      loss = λ u n. record { log = refl; held = k; asks = λ r x i. absurd i };
      swapped = λ u n. record { log = refl; held = dropped_held (HeldFine d.log) (λ z i. absurd i) _ _ k; asks = λ r x i. start_ok d.log r false looks (heard d y b) x i };
      asks_all = λ a g n. record { log = g.log; held = dropped_held (HeldFine d.log) (λ z i. absurd i) _ _ g.held; asks = λ r x i. start_ok d.log r true looks a.reader x i };
      trim = λ a g n t. record { log = g.log; held = g.held; asks = g.asks };
      record_there = λ a p g n t. record { log = g.log; held = g.held; asks = g.asks };
      hole_there = λ a g n t. record { log = g.log; held = g.held; asks = g.asks };
      plug = λ a g n t. record { log = g.log; held = g.held; asks = g.asks };
      bridge = λ a g n t. record { log = g.log; held = g.held; asks = g.asks };
      lossy_end = λ a g n t. record { log = g.log; held = g.held; asks = g.asks };
      confirm = λ a g n m t. record { log = g.log; held = dropped_held (HeldFine d.log) (λ z i. absurd i) _ _ g.held; asks = λ r x i. ask_ok d.log r _ _ x.1 (confirm_are looks a (lost_held a.reader.next (within (seen_nodes a.reader.seen) a.reader.held)) m x i) };
      polls_on = λ a g t. record { log = g.log; held = dropped_held (HeldFine d.log) (λ z i. absurd i) _ _ g.held; asks = λ r x i. elim (In-append x a.asks _ i) [ inl j ↦ g.asks r x j | inr j ↦ start_ok d.log r false looks a.reader x j ] };
    }

    reads : (f : List ℕ) (name : List ℕ) (d : Reader) (m : Msg) → In m s.network.sent → m.to ≡ whos.Reader d.number → Reading s name d → Carries (finish (Step.read (refreshed s f) name (on_answer (looks_at c s.register d.log) d (Step.sender_node m.from) m.body))).state
    unfolding HeldFine
    reads f name d m i t v =
        let lg : d.log ≡ m.log = K.apart.logs m d.number name d i (inl t) v.named refl in
        let y = Step.sender_node m.from in
        let a = on_answer (looks_at c s.register d.log) d y m.body in
        let o : carried.HeldOk E T Y O V W R G d.log m.body = subst (λ k. carried.HeldOk E T Y O V W R G k m.body) (sym lg) (carried.held_of E T Y O V W R G m.log m.from m.body (K.before.sent m i).0) in
        let k = answered (looks_at c s.register d.log) d y m.body (ReadOk d) (read_keeps (looks_at c s.register d.log) d y m.body (K.before.readers name d v.named) o) in
        has.finish_has _ _ _ _ _ _ (Step.read (refreshed s f) name a) (has.reader_has _ _ _ _ _ _ (refreshed s f) name a.reader K.before (subst (λ z. (h : ℕ × Held) → In h a.reader.held → carried.HeldOk E T Y O V W R G z h.1.body) (sym k.log) k.held))
        (posted_ok (whos.Reader a.reader.number) (λ h. h) a.reader.log a.asks (λ b j. subst (λ z. carried.BodyOk E T Y O V W R G z (whos.Reader a.reader.number) b.1) (sym k.log) (k.asks a.reader.number b j)))

    polls : (name : List ℕ) (d : Reader) → Reading s name d → Carries (finish (record { state = with_reader s name (polled (looks_at c s.register d.log) d); lines = []; sends = posted (whos.Reader d.number) d.log (poll_asks (looks_at c s.register d.log) d) })).state
    unfolding HeldFine
    polls name d v = has.finish_has _ _ _ _ _ _ (record { state = with_reader s name (polled (looks_at c s.register d.log) d); lines = []; sends = posted (whos.Reader d.number) d.log (poll_asks (looks_at c s.register d.log) d) })
        (has.reader_has _ _ _ _ _ _ s name (polled (looks_at c s.register d.log) d) K.before (dropped_held (HeldFine d.log) (λ z i. absurd i) _ _ (K.before.readers name d v.named)))
        (posted_ok (whos.Reader d.number) (λ h. h) d.log (poll_asks (looks_at c s.register d.log) d) (λ b j. start_ok d.log d.number _ (looks_at c s.register d.log) d b j))

    opens : (style : Style) (name : List ℕ) (l from until : ℕ) → Carries (finish (only_state (with_reader s name (opened style l (length s.readers) from until)))).state
    opens style name l from until = quiet_has _ [] (has.reader_has _ _ _ _ _ _ s name (opened style l (length s.readers) from until) K.before (λ h i. absurd i))

    node_only : (n : ℕ) (x : Node) (ls : List Line) → has.NodeHas (λ y p. carried.PlainOk E T Y O V W R G p) (λ y l r. W l r) (carried.MsgOk E T Y O V W R G) (carried.SequencerOk E T Y O V W R G) (carried.ReaderOk E T Y O V W R G) (carried.RegisterOk E T Y O V W R G) n x → Carries (finish (record { state = with_node s n x; lines = ls; sends = [] })).state
    node_only n x ls h = quiet_has (with_node s n x) ls (has.node_has _ _ _ _ _ _ s n x K.before h)

    carry_cases : Cases c s e Result
    carry_cases = record {
      still = λ f older i w x. has.quiet_has _ _ _ _ _ _ s f [] K.before;
      says = λ y q w x. quiet_has s (y ∷ []) K.before;
      node_hears = λ f older n m i t v o w x. hears f n m i t v;
      loads = λ n ls q b o w x. quiet_has (loaded s n) ls (loaded_has n);
      draw_fails = λ n b w x. register_only (loaded s n) _ _ (loaded_has n) w;
      formats = λ n r g b v i w x. formats n r (to_register _ w);
      ticks = λ n l t v i o w x. ticked n l t i;
      stops = λ n b w x. let h = K.before.nodes n in node_only n (Step.stopped (node_at s n)) _ (record { plain = h.plain; cut = h.cut; released = h.released });
      wipes = λ n w x. node_only n new_node _ (has.new_has _ _ _ _ _ _ (λ y l. K.sound.zero_released l) n (nodes.blank_ok E T Y O V W R G K.sound));
      faults = λ n f o w x. let h = K.before.nodes n in node_only n (Step.with_fault (node_at s n) f) [] (record { plain = h.plain; cut = h.cut; released = h.released });
      sets = λ l r y set h w x. quiet_has (with_spec s l (record { log = l; set = set; r = r; extras = y })) _ K.before;
      arms = λ k done o w x. register_only s _ [] K.before w;
      hears = λ f older name q m i t l v o w x. replies f name q m i t l v w x;
      retries = λ again name q v o w x. retries again name q v w x;
      appends = λ name q p v a i w x. appends name q p v a i w x;
      trims = λ name q t v b w x. trims name q t v b w x;
      drops = λ name q v o w x. drops name q v;
      activates = λ name l r g n i j w x. activates name l r (ap (λ (d : Done). d.state.register) w) w x;
      swaps = λ n m l y r q i w x. register_only s _ _ K.before w;
      activate_fails = λ name l y g q w x. register_only s _ _ K.before w;
      answers = λ f older name d m i t v o w x. reads f name d m i t v;
      polls = λ name d v o w x. polls name d v;
      opens = λ style name l from until o i w x. opens style name l from until;
    }

    pub carried_on : Carries (finish (Calm.moves c s e)).state
    carried_on = dispatch c s e Result N carry_cases refl refl
