-- Each event leaves sequencers that acknowledged only what was stored by enough nodes.
use Rattle.std.proofs.Common.{false, Bool, ◌≡◌, ◌∙◌, ◌≤◌, ℕ, ◌+◌, inl, inr, refl, ap, sym, subst, true, if◌then◌else◌, List, [], ◌∷◌, Option, Some, None, arith, ◌<◌}
use Rattle.ld_safety.proofs.Protocol.{tells_stored}
use Rattle.ld_ids.specs.Choice.{nodes_of}
use Rattle.ld_table.specs.Table.{find}
use Rattle.ld_table.specs.Named.{find_named, put_named}
use Rattle.ld_lsn.specs.Number.{epoch_of, numbered, home_epoch, last_esn}
use Rattle.ld_config.specs.declared.config.Config.{Config}
use Rattle.ld_transcript.specs.declared.line.Line.TheVariants as lines
use Rattle.ld_msg.specs.declared.msg.Summary.{Summary}
use Rattle.ld_msg.specs.declared.msg.Msg.{Msg}
use Rattle.ld_msg.specs.declared.msg.Body.{Body}
use Rattle.ld_msg.specs.declared.msg.Body.TheVariants as bodies
use Rattle.ld_msg.specs.declared.msg.Who.TheVariants as whos
use Rattle.ld_op.specs.declared.op.Op.{Op}
use Rattle.ld_op.specs.Ticks.{Ticked, Cleans, Rebuilt, Asks, Nothing}
use Rattle.ld_msg.specs.Register.{Register, View, Epochs, Granted, epochs_of, lce_of, close, activate, closed_epochs, with_epochs}
use Rattle.ld_msg.specs.Sequencer.{Sequencer, Recovery, Acts, Append, Called, called, on_reply, on_retry, is_acked, stored_at, raised, activated, appended, appending, Numbered, next_esn, fresh_append}
use Rattle.ld_machine.specs.Config.{looks_at, has_log}
use Rattle.ld_machine.specs.Disk.{Node}
use Rattle.ld_machine.specs.State.{State, Done, node_at, with_node, with_sequencer, only_state}
use Rattle.ld_machine.specs.Facts.{Happened, AsksToAppend}
use Rattle.ld_machine.specs.World.{Made, In}
use Rattle.ld_machine.specs.Step as Step
use Rattle.ld_safety.proofs.Lists.{Some_inj, not_none, In-append, only, cond_both}
use Rattle.ld_safety.proofs.Names.{named_cases}
use Rattle.ld_safety.proofs.Events.{reply_call, retry_call, announced, Cases, Live, refreshed}
use Rattle.ld_safety.proofs.SequencerSteps.{Closing, Acting, Retrying, gone_of, replied, retried}
use Rattle.ld_safety.proofs.RegisterSteps.{activated_epochs, close_granted, epochs_put, epochs_same}
use Rattle.ld_safety.proofs.Registers.{Up, Reached, look_closed, activated_spec}
use Rattle.ld_safety.proofs.Appends.{RowOf}
use Rattle.ld_safety.proofs.Given.{AppendedBy}
use Rattle.ld_safety.proofs.Votes.{nobody, in_of}
use Rattle.ld_safety.proofs.Settled.{Acknowledged, Stays}
use Rattle.ld_safety.proofs.DigestKept.{acked_stays}
use Rattle.ld_safety.proofs.Acks.{AppendFine, AcksFine, acks_fine, acks_now, raised_fine, acks_later}
use Rattle.ld_machine.specs.Calm as Calm
use Rattle.ld_machine.specs.Calm.{Move, event_of}

module _ (c : Config) (hs : List Happened) (sent : List Msg) where
  -- ---- a call ----
  pub record ActsFine (r : Register) (q : Sequencer) (k : Called) : Type 0 where
    pub log : k.acts.sequencer.log ≡ q.log
    pub fine : Up r k.register → Stays c r k.register → AcksFine c hs sent k.register k.acts.sequencer
    pub acked : (n : ℕ) → In n k.acts.acked → Acknowledged c hs sent r q.log n

  weaken : (r k : Register) (q : Sequencer) → AcksFine c hs sent r q → Up r k → Stays c r k → AcksFine c hs sent k q
  weaken r k q A u y = acks_later c hs hs sent sent (λ m i. i) (λ l n p a. a) r k u y (acked_stays c hs sent r k u y) q A

  closed_lce : (r n : Register) (l e : ℕ) (y : Summary) (short : Bool) → lce_of r l + 1 ≡ e → close r l e y short ≡ record { register = n; answer = Granted } → lce_of n l ≡ e
  closed_lce r n l e y short h g = let s = (close_granted r l e y short n h g).0 in elim (epochs_put r l l (closed_epochs (epochs_of r l) e y)) [
    | inl a ↦ ap (λ (x : Epochs). x.lce) (epochs_same (with_epochs r l (closed_epochs (epochs_of r l) e y)) n l s ∙ a.1)
    | inr a ↦ absurd (a.0 refl)
  ]

  module _ (r : Register) (q : Sequencer) where
    close_acks : (looks : ℕ → View) (a : Acts) (e : ℕ) (y : Summary) (short : Bool) → a.sequencer.log ≡ q.log → AcksFine c hs sent r a.sequencer → ((n : ℕ) → In n a.acked → ⊥) → Closing r looks a e y short (ActsFine r q)
    close_acks looks a e y short lg A none = record {
      granted = λ n h o g. record { log = lg; fine = λ u w. let B = weaken r n a.sequencer A u w in record { reached = B.reached; spec = B.spec; kept = B.kept; appends = B.appends; acked = B.acked; closed = let z = closed_lce r n a.sequencer.log e y short h g in omega arith }; acked = λ n i. absurd (none n i) };
      passed = λ h. record { log = lg; fine = λ u w. record { reached = A.reached; spec = A.spec; kept = A.kept; appends = A.appends; acked = A.acked; closed = A.closed }; acked = λ n i. absurd (none n i) };
      behind = λ b h. record { log = lg; fine = λ u w. record { reached = A.reached; spec = A.spec; kept = A.kept; appends = A.appends; acked = A.acked; closed = omega arith }; acked = λ n i. absurd (none n i) };
      overtaken = λ h o. record { log = lg; fine = λ u w. record { reached = A.reached; spec = A.spec; kept = A.kept; appends = A.appends; acked = A.acked; closed = A.closed }; acked = λ n i. absurd (none n i) };
      failed = λ n g. record { log = lg; fine = λ u w. weaken r n a.sequencer A u w; acked = λ n i. absurd (none n i) };
    }

    module _ (A : AcksFine c hs sent r q) where
      -- nothing of these changes
      still : (k : Called) → k.acts.sequencer.log ≡ q.log → (Up r k.register → Stays c r k.register → AcksFine c hs sent k.register k.acts.sequencer) → ((n : ℕ) → In n k.acts.acked → ⊥) → ActsFine r q k
      still k lg f none = record { log = lg; fine = f; acked = λ n i. absurd (none n i) }

      acting_acks : (y : ℕ) (b : Body) → RowOf q → ((n : ℕ) → b ≡ bodies.Stored n → tells_stored sent q.log n q.epoch y ≡ true) → ((n : ℕ) (s : Summary) → b ≡ bodies.CleanHere n s → home_epoch n ≤ lce_of r q.log) → (gone : Recovery → List ℕ) → Acting c r gone q y b (λ k m. ActsFine r q k)
      acting_acks y b R V C gone = record {
        quiet = still _ refl (weaken r r q A) (λ n i. i);
        sealed = λ n k f i l. still _ refl (λ u w. record { reached = A.reached; spec = A.spec; kept = A.kept; appends = A.appends; acked = A.acked; closed = A.closed }) (λ n i. i);
        cleaned_own = λ n s f i h. still _ refl (λ u w. record { reached = A.reached; spec = A.spec; kept = A.kept; appends = A.appends; acked = A.acked; closed = A.closed }) (λ n i. i);
        acks = λ n p f i h g m. record { log = refl; fine = λ u w. acks_fine c hs sent r q A y n p g (in_of y (nodes_of q.spec) m, V n i) R; acked = λ k j. acked_one n p i h g (in_of y (nodes_of q.spec) m) k j };
        lost_own = λ n round g end f i h. still _ refl (λ w x. record { reached = A.reached; spec = A.spec; kept = A.kept; appends = A.appends; acked = A.acked; closed = A.closed }) (λ n i. i);
        cleaned = λ v n s f e i h. still _ refl (λ w x. record { reached = A.reached; spec = A.spec; kept = A.kept; appends = A.appends; acked = A.acked; closed = let z = C n s i in omega arith }) (λ n i. i);
        asks_more = λ v d asks f g a n u. still _ refl (λ w x. record { reached = A.reached; spec = A.spec; kept = A.kept; appends = A.appends; acked = A.acked; closed = A.closed }) (λ n i. i);
        plans = λ v d loss f g p. still _ refl (λ w x. record { reached = A.reached; spec = A.spec; kept = A.kept; appends = A.appends; acked = A.acked; closed = A.closed }) (λ n i. i);
        looks_closed = λ v d z f g u o. still _ refl (λ w x. record { reached = A.reached; spec = A.spec; kept = A.kept; appends = A.appends; acked = A.acked; closed = let k = look_closed c r q.log v.epoch z o in omega arith }) (λ n i. i);
        looks_later = λ v d f g u o n. still _ refl (λ w x. record { reached = A.reached; spec = A.spec; kept = A.kept; appends = A.appends; acked = A.acked; closed = A.closed }) (λ n i. i);
        stores_on = λ v g f k t. still _ refl (λ w x. record { reached = A.reached; spec = A.spec; kept = A.kept; appends = A.appends; acked = A.acked; closed = A.closed }) (λ n i. i);
        closes_now = λ v g f k t. close_acks _ _ v.epoch _ _ refl (record { reached = A.reached; spec = A.spec; kept = A.kept; appends = A.appends; acked = A.acked; closed = A.closed }) (λ n i. i);
        lost_closing = λ v z short n round g end f e i k j. still _ refl (λ w x. record { reached = A.reached; spec = A.spec; kept = A.kept; appends = A.appends; acked = A.acked; closed = A.closed }) (λ n i. i);
      } where
        acked_one : (n : ℕ) (p : Append) → b ≡ bodies.Stored n → epoch_of n ≡ q.epoch → find n q.appends ≡ Some p → In y (nodes_of q.spec) → (k : ℕ) → In k (if is_acked q.spec p then [] else if is_acked q.spec (stored_at p y) then n ∷ [] else []) → Acknowledged c hs sent r q.log k
        acked_one n p i h g m k j = cond_both (is_acked q.spec p) [] (if is_acked q.spec (stored_at p y) then n ∷ [] else []) (λ l. In k l → Acknowledged c hs sent r q.log k) (λ t j. absurd j)
            (λ t. cond_both (is_acked q.spec (stored_at p y)) (n ∷ []) [] (λ l. In k l → Acknowledged c hs sent r q.log k) (λ u j. subst (Acknowledged c hs sent r q.log) (sym (only k n j)) (acks_now c hs sent r q A y n p g (m, V n i) u)) (λ u j. absurd j)) j

      retrying_acks : (gone : Recovery → List ℕ) → Retrying c r gone q (λ k m. ActsFine r q k)
      retrying_acks gone = record {
        quiet = still _ refl (weaken r r q A) (λ n i. i);
        appends = λ f. still _ refl (λ u w. up) (λ n i. i);
        seals = λ v d f e h u. still _ refl (λ u w. record { reached = A.reached; spec = A.spec; kept = A.kept; appends = raised_fine c hs sent r q A; acked = A.acked; closed = A.closed }) (λ n i. i);
        plans = λ v d f e h p. still _ refl (λ u w. record { reached = A.reached; spec = A.spec; kept = A.kept; appends = raised_fine c hs sent r q A; acked = A.acked; closed = A.closed }) (λ n i. i);
        looks_closed = λ v d z f e h u o. still _ refl (λ w x. record { reached = A.reached; spec = A.spec; kept = A.kept; appends = raised_fine c hs sent r q A; acked = A.acked; closed = let k = look_closed c r q.log v.epoch z o in omega arith }) (λ n i. i);
        looks_later = λ v d f e h u o n. still _ refl (λ u w. record { reached = A.reached; spec = A.spec; kept = A.kept; appends = raised_fine c hs sent r q A; acked = A.acked; closed = A.closed }) (λ n i. i);
        stores_on = λ v g f e h t. still _ refl (λ u w. record { reached = A.reached; spec = A.spec; kept = A.kept; appends = raised_fine c hs sent r q A; acked = A.acked; closed = A.closed }) (λ n i. i);
        closes_now = λ v g f e h t. close_acks _ _ v.epoch _ _ refl (record { reached = A.reached; spec = A.spec; kept = A.kept; appends = raised_fine c hs sent r q A; acked = A.acked; closed = A.closed }) (λ n i. i);
        closes = λ v y short f e h. close_acks _ _ v.epoch y short refl up (λ n i. i);
      } where
        up : AcksFine c hs sent r (record q { appends = raised q.spec q.appends })
        up = record { reached = A.reached; spec = A.spec; kept = A.kept; appends = raised_fine c hs sent r q A; acked = A.acked; closed = A.closed }

-- ---- every event ----
module _ (c : Config) (s : State) (e : Move) (hs : List Happened) (D : (t : List ℕ) (v : Sequencer) → find_named t s.sequencers ≡ Some v → AcksFine c hs s.network.sent s.register v)
    (rows : (t : List ℕ) (v : Sequencer) → find_named t s.sequencers ≡ Some v → RowOf v)
    (stored : (name : List ℕ) (q : Sequencer) → Live s name q → (m : Msg) → In m s.network.sent → m.to ≡ whos.Sequencer q.epoch → m.log ≡ q.log → (n : ℕ) → m.body ≡ bodies.Stored n → tells_stored s.network.sent q.log n q.epoch (Step.sender_node m.from) ≡ true)
    (cleaned : (name : List ℕ) (q : Sequencer) → Live s name q → (m : Msg) → In m s.network.sent → m.log ≡ q.log → (n : ℕ) (y : Summary) → m.body ≡ bodies.CleanHere n y → home_epoch n ≤ lce_of s.register q.log)
    (numbers : (name : List ℕ) (q : Sequencer) (payload : List ℕ) → Live s name q → appending q payload ≡ Numbered → AsksToAppend name payload (event_of e) → In (lines.Appended name (numbered q.epoch (next_esn q))) (Calm.moves c s e).lines → (next_esn q < last_esn) × AppendedBy hs q.log (numbered q.epoch (next_esn q)) payload) where
  SameLog : List ℕ → Sequencer → Type 0
  SameLog t v = (q : Sequencer) → find_named t s.sequencers ≡ Some q → v.log ≡ q.log

  abbrev pub Result : Done → List Made → Type 0
  Result d m = Calm.moves c s e ≡ d → Up s.register d.state.register → Stays c s.register d.state.register → (t : List ℕ) (v : Sequencer) → find_named t d.state.sequencers ≡ Some v → AcksFine c hs s.network.sent d.state.register v × ((q : Sequencer) → find_named t s.sequencers ≡ Some q → v.log ≡ q.log)

  same_one : (t : List ℕ) (v : Sequencer) → find_named t s.sequencers ≡ Some v → SameLog t v
  unfolding SameLog
  same_one t v f q g = ap (λ (x : Sequencer). x.log) (Some_inj (sym f ∙ g))

  stays : (d : Done) → d.state.sequencers ≡ s.sequencers → Result d []
  unfolding SameLog
  stays d q w u y t v f = let g : find_named t s.sequencers ≡ Some v = subst (λ (m : List (List ℕ × Sequencer)). find_named t m ≡ Some v) q f in (weaken c hs s.network.sent s.register d.state.register v (D t v g) u y, same_one t v g)

  -- one sequencer changes
  puts : (d : Done) (name : List ℕ) (p : Sequencer) → d.state.sequencers ≡ put_named name p s.sequencers → (Up s.register d.state.register → Stays c s.register d.state.register → AcksFine c hs s.network.sent d.state.register p) → SameLog name p → Result d []
  unfolding SameLog
  puts d name p z A L w u y t v f = elim (named_cases t name p s.sequencers) [
    | inl a ↦ (let x : p ≡ v = Some_inj (sym a.1 ∙ (ap (find_named t) (sym z) ∙ f)) in (subst (AcksFine c hs s.network.sent d.state.register) x (A u y), λ q g. ap (λ (k : Sequencer). k.log) (sym x) ∙ L q (subst (λ k. find_named k s.sequencers ≡ Some q) a.0 g)))
    | inr a ↦ let g : find_named t s.sequencers ≡ Some v = sym a.1 ∙ (ap (find_named t) (sym z) ∙ f) in (weaken c hs s.network.sent s.register d.state.register v (D t v g) u y, same_one t v g)
  ]

  -- the call of a message and of a retry
  pub heard_acts : (name : List ℕ) (q : Sequencer) → Live s name q → (m : Msg) → In m s.network.sent → m.to ≡ whos.Sequencer q.epoch → m.log ≡ q.log → ActsFine c hs s.network.sent s.register q (called (looks_at c s.register q.log) s.register (on_reply (looks_at c s.register q.log) q (Step.sender_node m.from) m.body) (on_reply (looks_at c s.register q.log) q (Step.sender_node m.from) m.body).tries)
  heard_acts name q v m i t l = replied c s name q v.there (Step.sender_node m.from) m.body (λ k n. ActsFine c hs s.network.sent s.register q k)
      (acting_acks c hs s.network.sent s.register q (D name q v.named) (Step.sender_node m.from) m.body (rows name q v.named) (stored name q v m i t l) (cleaned name q v m i l) (gone_of s q))

  pub retry_acts : (name : List ℕ) (q : Sequencer) → Live s name q → ActsFine c hs s.network.sent s.register q (called (looks_at c s.register q.log) s.register (on_retry (looks_at c s.register q.log) q) (on_retry (looks_at c s.register q.log) q).tries)
  retry_acts name q v = retried c s q v.there (λ k m. ActsFine c hs s.network.sent s.register q k) (retrying_acks c hs s.network.sent s.register q (D name q v.named) (gone_of s q))

  called_result : (again : Bool) (f : List ℕ) (name : List ℕ) (q : Sequencer) (call : Called) (m : List Made) → Live s name q → ActsFine c hs s.network.sent s.register q call → Result (Step.told (refreshed s f) name q (announced again call)) m
  unfolding SameLog
  called_result again f name q call m v A = puts (Step.told (refreshed s f) name q (announced again call)) name call.acts.sequencer refl A.fine (λ p g. A.log ∙ ap (λ (x : Sequencer). x.log) (Some_inj (sym v.named ∙ g)))

  append_result : (name : List ℕ) (q : Sequencer) (payload : List ℕ) → Live s name q → appending q payload ≡ Numbered → AsksToAppend name payload (event_of e) → Result (Step.append_done s name q payload Numbered) []
  unfolding SameLog
  append_result name q payload v a i w = puts (Step.append_done s name q payload Numbered) name (appended q payload) refl (λ u w. record { reached = A.reached; spec = A.spec; kept = A.kept; appends = λ p j. elim (In-append p q.appends _ j) [ inl k ↦ A.appends p k | inr k ↦ subst (AppendFine c hs s.network.sent q.spec q.log q.epoch) (sym (only p (numbered q.epoch (next_esn q), fresh_append payload) k)) fresh ]; acked = A.acked; closed = A.closed })
      (λ p g. ap (λ (x : Sequencer). x.log) (Some_inj (sym v.named ∙ g))) w where
        A : AcksFine c hs s.network.sent s.register q
        A = D name q v.named

        told_now : (next_esn q < last_esn) × AppendedBy hs q.log (numbered q.epoch (next_esn q)) payload
        told_now = numbers name q payload v a i (subst (λ (d : Done). In (lines.Appended name (numbered q.epoch (next_esn q))) d.lines) (sym w) (inl refl))

        fresh : AppendFine c hs s.network.sent q.spec q.log q.epoch (numbered q.epoch (next_esn q), fresh_append payload)
        fresh = let b = told_now.0 in record { epoch = omega arith; above = omega arith; below = omega arith; appended = told_now.1; votes = nobody q.spec (tells_stored s.network.sent q.log (numbered q.epoch (next_esn q)) q.epoch) }

  activate_result : (name : List ℕ) (l : ℕ) (k : Register) → has_log c l ≡ true → find_named name s.sequencers ≡ None → activate s.register l (Step.spec_set c s l) ≡ record { register = k; answer = Granted } → Result (Step.activated_as c s name l k (epochs_of k l).epoch (lce_of k l)) []
  unfolding SameLog activated
  activate_result name l k hl n i = puts (Step.activated_as c s name l k (epochs_of k l).epoch (lce_of k l)) name (activated (looks_at c k l) (Step.spec_set c s l) l (epochs_of k l).epoch (lce_of k l)) refl
      (λ u w. record { reached = own; spec = activated_spec c s.register l (Step.spec_set c s l) k i; kept = hl; appends = λ p j. absurd j; acked = λ j a b. absurd (omega arith); closed = omega arith }) (λ p g. absurd (not_none (sym n ∙ g))) where
        own : Reached k l (epochs_of k l).epoch
        own = let w = ap (λ (x : Epochs). x.epoch) (activated_epochs s.register l (Step.spec_set c s l) k i) in (omega arith, omega arith)

  handled : (f : List ℕ) (x : Node) (n : ℕ) (m : Msg) (o : Option Op) (b : Option Body) → Result (Step.handles (with_node (refreshed s f) n x) n m o b) []
  handled f x n m None b = stays (Step.handles (with_node (refreshed s f) n x) n m None b) refl
  handled f x n m (Some o) b = stays (Step.handles (with_node (refreshed s f) n x) n m (Some o) b) refl

  ticked : (n l : ℕ) (t : Ticked) → Result (Step.ticks_as c s n l t) []
  ticked n l (Cleans k y) = stays (Step.ticks_as c s n l (Cleans k y)) refl
  ticked n l Rebuilt = stays (Step.ticks_as c s n l Rebuilt) refl
  ticked n l (Asks from) = stays (Step.ticks_as c s n l (Asks from)) refl
  ticked n l Nothing = stays (Step.ticks_as c s n l Nothing) refl

  pub acks_cases : Cases c s e Result
  unfolding SameLog
  acks_cases = record {
    still = λ f older i. stays _ refl;
    says = λ x q. stays _ refl;
    node_hears = λ f older n m i t v o. handled f (Step.releases (node_at s n) m.log m.body) n m (Step.node_handles n (node_at s n) m).op (Step.node_handles n (node_at s n) m).answer;
    loads = λ n ls q b o. stays _ refl;
    draw_fails = λ n b. stays _ refl;
    formats = λ n k g b v i. stays _ refl;
    ticks = λ n l t v i o. ticked n l t;
    stops = λ n b. stays _ refl;
    wipes = λ n. stays _ refl;
    faults = λ n f o. stays _ refl;
    sets = λ l r x set h. stays _ refl;
    arms = λ k done o. stays _ refl;
    hears = λ f older name q m i t l v o. called_result false f name q (reply_call c s q (Step.sender_node m.from) m.body) [] v (heard_acts name q v m i t l);
    retries = λ again name q v o. called_result again s.network.fresh name q (retry_call c s q) [] v (retry_acts name q v);
    appends = λ name q p v a i. append_result name q p v a i;
    trims = λ name q t v b. stays _ refl;
    drops = λ name q v o. puts (only_state (with_sequencer s name (Step.dropped q))) name (Step.dropped q) refl (λ u w. let A = D name q v.named in record { reached = A.reached; spec = A.spec; kept = A.kept; appends = A.appends; acked = A.acked; closed = A.closed }) (λ p g. ap (λ (x : Sequencer). x.log) (Some_inj (sym v.named ∙ g)));
    activates = λ name l k g n i x. activate_result name l k g n i;
    swaps = λ n m l x r q i. stays _ refl;
    activate_fails = λ name l x g q. stays _ refl;
    answers = λ f older name d m i t v o. stays _ refl;
    polls = λ name d v o. stays _ refl;
    opens = λ style name l from until o x. stays _ refl;
  }
