-- After each event the digests of all recoveries have what their pages showed, and each plan was made from such a digest.
use Rattle.std.proofs.Common.{◌≡◌, ◌∙◌, ◌≤◌, ◌<◌, ℕ, ◌+◌, inl, inr, refl, ap, sym, subst, Bool, true, false, ◌&&◌, ◌==◌, nat_lt, List, [], ◌++◌, Option, Some, None, arith}
use Rattle.ld_safety.proofs.Senders.{AnswersFrom}
use Rattle.ld_safety.proofs.Storings.{SettlersOf, full_later, storing_later, summarized_later, ReplyFine}
use Rattle.std.proofs.lemmas.Bool.{and_parts, eqb-true}
use Rattle.ld_table.specs.Named.{same, find_named, put_named}
use Rattle.ld_table.proofs.NameLaws.{same-self}
use Rattle.ld_lsn.specs.Number.{epoch_of, esn_of, home_epoch}
use Rattle.ld_ids.specs.declared.set.Spec.{Spec}
use Rattle.ld_ids.specs.Choice.{nodes_of}
use Rattle.ld_config.specs.declared.config.Config.{Config}
use Rattle.ld_msg.specs.declared.msg.What.{What}
use Rattle.ld_msg.specs.declared.msg.Entry.{Entry}
use Rattle.ld_msg.specs.declared.msg.Summary.{Summary}
use Rattle.ld_msg.specs.declared.msg.Who.{Who}
use Rattle.ld_msg.specs.declared.msg.Who.TheVariants as whos
use Rattle.ld_msg.specs.declared.msg.Msg.{Msg}
use Rattle.ld_msg.specs.declared.msg.Body.{Body}
use Rattle.ld_msg.specs.declared.msg.Body.TheVariants as bodies
use Rattle.ld_msg.specs.Register.{Changed, Register, Epochs, Granted, activate, draw, epochs_of, lce_of}
use Rattle.ld_msg.specs.Digest.{Told, digest_lng}
use Rattle.ld_msg.specs.Sequencer.{Called, Sequencer, Recovery, Stage, Seals, Stores, Closes, called, on_reply, on_retry, Numbered, appended, activated, bare}
use Rattle.ld_op.specs.declared.op.Op.{Op}
use Rattle.ld_op.specs.Ticks.{Ticked, Cleans, Rebuilt, Asks, Nothing}
use Rattle.ld_machine.specs.Config.{looks_at}
use Rattle.ld_machine.specs.Disk.{Node}
use Rattle.ld_machine.specs.State.{State, Done, node_at, with_node, with_sequencer, only_state}
use Rattle.ld_machine.specs.Facts.{Happened}
use Rattle.ld_machine.specs.World.{Made, In, gone_nodes, made_by, made_retried}
use Rattle.ld_machine.specs.Step as Step
use Rattle.ld_safety.proofs.Lists.{Some_inj, cond_both, In-append, In_right, not_both}
use Rattle.ld_safety.proofs.Names.{named_cases}
use Rattle.ld_safety.proofs.Events.{retry_call, announced, swapped_by, Cases, Live, refreshed}
use Rattle.ld_safety.proofs.RegisterSteps.{activated_epochs}
use Rattle.ld_safety.proofs.SequencerSteps.{Hearing, same_sender, replied, retried}
use Rattle.ld_safety.proofs.Numbers.{Epochs_once}
use Rattle.ld_safety.proofs.Protocol.{Basis, plan_of, Chosen, Says, StoredBy, PlansOnce, same_message, stored_told, stored_settles}
use Rattle.ld_safety.proofs.Said.{Open, Said, SaidHere, AllSaid, good_low}
use Rattle.ld_safety.proofs.Settled.{LostTold, TrimFine, CloseFine, ShowFine, ReleaseFine, LngFine, Stays, close_low, Acknowledged}
use Rattle.ld_safety.proofs.Sent.{ShowsAll, PagesBounded}
use Rattle.ld_safety.proofs.Registers.{Up, Reached, EachClosed, activate_each, reached_later, like_later}
use Rattle.ld_safety.proofs.Carried as carried
use Rattle.ld_safety.proofs.Digests.{Covered, ToldSoFar, DigestSoFar, PageFacts, NoPlan, page_frozen}
use Rattle.ld_safety.proofs.Digesting.{InRecovery, heard_in, PagesGood, StageFine, RecoveryFine, Fine, NewPlan, begins_fine, Both, retrying_fine, acting_fine}
use Rattle.ld_machine.specs.Calm.{Move}

-- ---- while more happens ----
module _ (hs next : List Happened) (made more : List Made) (sent after : List Msg) (into : (m : Msg) → In m sent → In m after)
    (grow : (l b n : ℕ) (x : What) → Says hs made l b n x → Says next (more ++ made) l b n x) where
  covered_later : (l e b : ℕ) (t : Told) (n : ℕ) → Covered sent l e b t n → Covered after l e b t n
  covered_later l e b t n v = record { from = v.from; upto = v.upto; trim = v.trim; lng = v.lng; entries = v.entries; page = into _ v.page; epoch = v.epoch; low = v.low; high = v.high; told = v.told; trims = v.trims; knows = v.knows }

  lost_later : (l e b y : ℕ) → LostTold sent l e b y → LostTold after l e b y
  lost_later l e b y h = record { number = h.number; round = h.round; generation = h.generation; end = h.end; said = into _ h.said; home = h.home }

  told_later : (l e b good : ℕ) (t : Told) → ToldSoFar hs made sent l e b good t → ToldSoFar next (more ++ made) after l e b good t
  told_later l e b good t h = record {
    paged = λ f i. (let z = h.paged f i in record { from = z.from; upto = z.upto; trim = z.trim; lng = z.lng; entries = z.entries; page = into _ z.page; there = z.there });
    trimmed = elim h.trimmed [ inl z ↦ inl z | inr z ↦ inr (record { from = z.from; upto = z.upto; lng = z.lng; entries = z.entries; page = into _ z.page }) ];
    known = elim h.known [ inl z ↦ inl z | inr z ↦ inr (record { from = z.from; upto = z.upto; trim = z.trim; entries = z.entries; page = into _ z.page; epoch = z.epoch }) ];
    frozen = λ f i. (let z = h.frozen f i in record { below = z.below; epoch = z.epoch; place = z.place; says = grow l f.ballot f.number f.what z.says });
    covers = λ n q p g. covered_later l e b t n (h.covers n q p g);
    lost_said = λ q. lost_later l e b t.node (h.lost_said q);
    asks = h.asks;
  }

  pub digest_later : (s : Spec) (l e b : ℕ) (d : List Told) → DigestSoFar hs made sent s l e b d → DigestSoFar next (more ++ made) after s l e b d
  digest_later s l e b d h = record { told = λ t i. told_later l e b (digest_lng d) t (h.told t i); nodes = h.nodes }

  module _ (c : Config) (r k : Register) (u : Up r k) (y : Stays c r k) (acks : (l n : ℕ) → Acknowledged c hs sent r l n → Acknowledged c next after k l n) where
    stage_later : (p : Spec) (l b e : ℕ) (s : Stage) → Reached r l e → StageFine c hs sent made r p l b e s → StageFine c next after (more ++ made) k p l b e s
    stage_later p l b e (Seals d) o h = digest_later p l e b d h
    stage_later p l b e (Stores g) o h = storing_later c hs next sent after into r k u y acks made more l b e g o h
    stage_later p l b e (Closes z short) o h = λ w. (let g = h (let v = (u l).1 in omega arith) in (summarized_later c hs next sent after into r k u y acks made more l e z g.0, λ t. (let f = g.1 t in (f.0, In_right _ more made f.1, full_later c hs next sent after into r k u y acks l e z.ballot f.0 o f.2))))

    pub recovery_later : (l b : ℕ) (o : Option Recovery) → ((e : ℕ) (d : Basis) → In (plan_of l e b d) more → ⊥) → RecoveryFine c hs sent made r l b o → RecoveryFine c next after (more ++ made) k l b o
    recovery_later l b None n h = tt
    recovery_later l b (Some v) n h = record {
      next = (let a = h.next in let z = (u l).1 in omega arith);
      later = h.later;
      reached = reached_later r k l v.epoch u h.reached;
      spec = like_later c r k l v.epoch v.spec u (y.specs l v.epoch h.reached) h.spec;
      stage = stage_later v.spec l b v.epoch v.stage h.reached h.stage;
      before = λ e d i. elim (In-append _ more made i) [ inl a ↦ absurd (n e d a) | inr a ↦ h.before e d a ];
      lost = λ z i. lost_later l v.epoch b z (h.lost z i);
    }

pub up_same : (r : Register) → Up r r
up_same r l = (omega arith, omega arith)

pub stays_same : (c : Config) (r : Register) → Stays c r r
stays_same c r = record { summaries = λ l e y f. f; specs = λ l e o. refl }

-- an acknowledged append stays so while the register goes on
pub acked_stays : (c : Config) (hs : List Happened) (sent : List Msg) (r k : Register) → Up r k → Stays c r k → (l n : ℕ) → Acknowledged c hs sent r l n → Acknowledged c hs sent k l n
acked_stays c hs sent r k u y l n a = record {
  reached = reached_later r k l (epoch_of n) u a.reached;
  above = a.above;
  below = a.below;
  payload = a.payload;
  appended = a.appended;
  chosen = subst (λ p. Chosen p sent l n (epoch_of n)) (sym (y.specs l (epoch_of n) a.reached)) a.chosen;
}

-- all recoveries
abbrev pub AllFine : Config → List Happened → List Msg → List Made → Register → List (List ℕ × Sequencer) → Type 0
AllFine c hs sent made r m = (t : List ℕ) (v : Sequencer) → find_named t m ≡ Some v → Fine c hs sent made r v

abbrev pub MadeBelow : List Made → Register → Type 0
MadeBelow made r = (l e b : ℕ) (f : Basis) → In (plan_of l e b f) made → b ≤ (epochs_of r l).epoch

pub pages_good : (c : Config) (hs : List Happened) (made : List Made) (s : State) → AllSaid c hs made s.register s → PagesGood c hs s.network.sent s.register
pages_good c hs made s S l e b y g p = subst (λ x. LngFine c hs s.network.sent s.register l x g) p.epoch (S.sent _ p.page).0.0.good

home_of : (n : ℕ) → 0 < esn_of n → home_epoch n ≡ epoch_of n
home_of n h = cond_both ((esn_of n == 0) && nat_lt 0 (epoch_of n)) _ (epoch_of n) (λ x. x ≡ epoch_of n) (λ t. absurd (let p = and_parts (esn_of n == 0) (nat_lt 0 (epoch_of n)) t in let q = eqb-true (esn_of n) 0 p.0 in omega arith)) (λ t. refl)

node_from : (E : ℕ → ℕ → ℕ → What → Type 0) (T : ℕ → ℕ → Type 0) (Y : ℕ → ℕ → Summary → Type 0) (O : ℕ → ℕ → Type 0) (V : ℕ → Bool → Entry → Type 0) (W : ℕ → ℕ → Type 0) (R : ℕ → ℕ → ℕ → What → Type 0) (G : ℕ → ℕ → ℕ → Type 0) (w : Who) → carried.NodeWho E T Y O V W R G w → w ≡ whos.Node (Step.sender_node w)
node_from E T Y O V W R G (whos.Node y) h = refl
node_from E T Y O V W R G (whos.Sequencer b) h = absurd h
node_from E T Y O V W R G (whos.Reader n) h = absurd h

-- ---- every event ----
module _ (c : Config) (s : State) (e : Move) (hs : List Happened) (made : List Made) (S : AllSaid c hs made s.register s) (X : Epochs_once s.sequencers s.register)
    (A : ShowsAll made s.network.sent) (B : PagesBounded s.network.sent) (M : MadeBelow made s.register) (D : AllFine c hs s.network.sent made s.register s.sequencers)
    (V : AnswersFrom s.network.sent) (EC : EachClosed s.register) (SO : SettlersOf c s.register s.network.sent) where
  sent : List Msg
  sent = s.network.sent

  abbrev pub Result : Done → List Made → Type 0
  Result d more = Up s.register d.state.register → Stays c s.register d.state.register → AllFine c hs s.network.sent (more ++ made) d.state.register d.state.sequencers
      × ((l x b : ℕ) (f : Basis) → In (plan_of l x b f) more → NewPlan c hs s.network.sent (gone_nodes s) made s.register l x b f × (b ≤ (epochs_of s.register l).epoch)) × PlansOnce more

  none_new : (l x b : ℕ) (f : Basis) → In (plan_of l x b f) [] → NewPlan c hs s.network.sent (gone_nodes s) made s.register l x b f × (b ≤ (epochs_of s.register l).epoch)
  none_new l x b f i = absurd i

  none_once : PlansOnce []
  none_once l x b f g i j = absurd i

  lifted : (k : Register) (more : List Made) → Up s.register k → Stays c s.register k → (l b : ℕ) (o : Option Recovery) → ((x : ℕ) (f : Basis) → In (plan_of l x b f) more → ⊥) → RecoveryFine c hs s.network.sent made s.register l b o → RecoveryFine c hs s.network.sent (more ++ made) k l b o
  lifted k more u y l b o n h = recovery_later hs hs made more s.network.sent s.network.sent (λ m i. i) (λ l b n x z. elim z [ inl a ↦ inl a | inr a ↦ inr (record { later = a.later; basis = a.basis; planned = In_right _ more made a.planned; item = a.item }) ])
      c s.register k u y (acked_stays c hs s.network.sent s.register k u y) l b o n h

  stays : (d : Done) → d.state.sequencers ≡ s.sequencers → Result d []
  stays d q u y = ((λ t v f. lifted d.state.register [] u y v.log v.epoch v.recovery (λ x g i. i) (D t v (subst (λ (m : List (List ℕ × Sequencer)). find_named t m ≡ Some v) q f))), none_new, none_once)

  -- one sequencer changes
  puts : (name : List ℕ) (p : Sequencer) (k : Register) (more : List Made) → Up s.register k → Stays c s.register k → Fine c hs s.network.sent (more ++ made) k p → ((t : List ℕ) (v : Sequencer) → same t name ≡ false → find_named t s.sequencers ≡ Some v → (x : ℕ) (f : Basis) → In (plan_of v.log x v.epoch f) more → ⊥)
      → AllFine c hs s.network.sent (more ++ made) k (put_named name p s.sequencers)
  puts name p k more u y h n t v f = elim (named_cases t name p s.sequencers) [
    | inl a ↦ subst (λ (z : Sequencer). Fine c hs s.network.sent (more ++ made) k z) (Some_inj (sym a.1 ∙ f)) h
    | inr a ↦ let g : find_named t s.sequencers ≡ Some v = sym a.1 ∙ f in lifted k more u y v.log v.epoch v.recovery (n t v a.0 g) (D t v g)
  ]

  goes_on : (d : Done) (name : List ℕ) (q p : Sequencer) → find_named name s.sequencers ≡ Some q → d.state.sequencers ≡ put_named name p s.sequencers → p.log ≡ q.log → p.epoch ≡ q.epoch → p.recovery ≡ q.recovery → Result d []
  goes_on d name q p f z lg ep rc u y = (
    subst (λ (m : List (List ℕ × Sequencer)). AllFine c hs s.network.sent made d.state.register m) (sym z)
        (puts name p d.state.register [] u y (subst (λ l. RecoveryFine c hs s.network.sent made d.state.register l p.epoch p.recovery) (sym lg) (subst (λ b. RecoveryFine c hs s.network.sent made d.state.register q.log b p.recovery) (sym ep)
        (subst (RecoveryFine c hs s.network.sent made d.state.register q.log q.epoch) (sym rc) (lifted d.state.register [] u y q.log q.epoch q.recovery (λ x g i. i) (D name q f))))) (λ t v a g x h i. i)),
    none_new,
    none_once,
  )

  module _ (name : List ℕ) (q : Sequencer) (v : Live s name q) where
    own : q.epoch ≤ (epochs_of s.register q.log).epoch
    own = X.drawn name q v.named

    -- what its call comes to
    by_call : (k : List (List ℕ × Sequencer)) (call : Called) (more : List Made) → k ≡ put_named name call.acts.sequencer s.sequencers → (u : Up s.register call.register) (w : Stays c s.register call.register)
        → Both c hs s.network.sent (gone_nodes s) made s.register q call u w EC own (D name q v.named) (lifted call.register [] u w q.log q.epoch q.recovery (λ x h j. j) (D name q v.named)) call more
        → AllFine c hs s.network.sent (more ++ made) call.register k
        × ((l x b : ℕ) (f : Basis) → In (plan_of l x b f) more → NewPlan c hs s.network.sent (gone_nodes s) made s.register l x b f × (b ≤ (epochs_of s.register l).epoch)) × PlansOnce more
    by_call k call more h u w both = (
      subst (AllFine c hs s.network.sent (more ++ made) call.register) (sym h) (puts name call.acts.sequencer call.register more u w both.0
          (λ k w b h x j n. let z = both.1 w.log x w.epoch j n in let o : k ≡ name = X.once k name w q h v.named z.1 z.2 in not_both _ (subst (λ p. same k p ≡ true) o (same-self k)) b)),
      (λ l x b h n. let z = both.1 l x b h n in let o = X.drawn name q v.named in (z.0, subst (λ p. b ≤ (epochs_of s.register p).epoch) (sym z.1) (let p = z.2 in omega arith))),
      both.2,
    )

    pages_after : (k : Register) → Up s.register k → Stays c s.register k → PagesGood c hs s.network.sent k
    pages_after k u w l x b o h p n q j z = acked_stays c hs s.network.sent s.register k u w l n (pages_good c hs made s S l x b o h p n q j z)

    retry : (again : Bool) → Result (Step.told s name q (announced again (retry_call c s q))) (made_retried c s (Some q))
    retry again u w =
        let a = on_retry (looks_at c s.register q.log) q in
        let call = called (looks_at c s.register q.log) s.register a a.tries in
        let F = lifted call.register [] u w q.log q.epoch q.recovery (λ x h j. j) (D name q v.named) in
        let both = retried c s q v.there (λ x n. call ≡ x → Both c hs s.network.sent (gone_nodes s) made s.register q call u w EC own (D name q v.named) F x n)
        (retrying_fine c hs s.network.sent (gone_nodes s) made s.register q call u w EC own (D name q v.named) F A (pages_after call.register u w)) refl in by_call _ call (made_retried c s (Some q)) refl u w both

    -- what a message says
    pub cleaned_closed : (m : Msg) → In m s.network.sent → m.log ≡ q.log → (n : ℕ) (y : Summary) → m.body ≡ bodies.CleanHere n y → home_epoch n ≤ lce_of s.register q.log
    cleaned_closed m i g n y h = let z : carried.BodyOk (Said hs made s.register) (TrimFine c hs s.network.sent s.register) (CloseFine c hs made s.network.sent s.register) (Reached s.register) (ShowFine c hs made s.network.sent s.register) (ReleaseFine c hs s.network.sent s.register) (SaidHere hs made s.register) (LngFine c hs s.network.sent s.register) m.log m.from (bodies.CleanHere n y) = subst (carried.BodyOk (Said hs made s.register) (TrimFine c hs s.network.sent s.register) (CloseFine c hs made s.network.sent s.register) (Reached s.register) (ShowFine c hs made s.network.sent s.register) (ReleaseFine c hs s.network.sent s.register) (SaidHere hs made s.register) (LngFine c hs s.network.sent s.register) m.log m.from) h (S.sent m i).0 in
        subst (λ l. home_epoch n ≤ lce_of s.register l) g (subst (λ x. x ≤ lce_of s.register m.log) (sym (home_of n z.0)) (close_low c hs made s.network.sent s.register m.log (epoch_of n) y z.1))

    page : (m : Msg) → In m s.network.sent → m.to ≡ whos.Sequencer q.epoch → m.log ≡ q.log → (w : Recovery) (from upto trim lng : ℕ) (es : List Entry) → w.epoch < q.epoch → m.body ≡ bodies.DigestPage from upto trim lng es → w.epoch ≡ epoch_of from → NoPlan hs made s.network.sent q.log w.epoch q.epoch
        → PageFacts hs made s.network.sent q.log w.epoch q.epoch (Step.sender_node m.from) from upto trim lng es
    page m i t g w from upto trim lng es lt h ep n =
        let z : carried.BodyOk (Said hs made s.register) (TrimFine c hs s.network.sent s.register) (CloseFine c hs made s.network.sent s.register) (Reached s.register) (ShowFine c hs made s.network.sent s.register) (ReleaseFine c hs s.network.sent s.register) (SaidHere hs made s.register) (LngFine c hs s.network.sent s.register) m.log m.from (bodies.DigestPage from upto trim lng es) = subst (carried.BodyOk (Said hs made s.register) (TrimFine c hs s.network.sent s.register) (CloseFine c hs made s.network.sent s.register) (Reached s.register) (ShowFine c hs made s.network.sent s.register) (ReleaseFine c hs s.network.sent s.register) (SaidHere hs made s.register) (LngFine c hs s.network.sent s.register) m.log m.from) h (S.sent m i).0 in
        let o = same_message m q.log (Step.sender_node m.from) q.epoch (bodies.DigestPage from upto trim lng es) (node_from (Said hs made s.register) (TrimFine c hs s.network.sent s.register) (CloseFine c hs made s.network.sent s.register) (Reached s.register) (ShowFine c hs made s.network.sent s.register) (ReleaseFine c hs s.network.sent s.register) (SaidHere hs made s.register) (LngFine c hs s.network.sent s.register) m.from z.1) t g h in
        page_frozen hs made s.network.sent q.log w.epoch q.epoch (Step.sender_node m.from) from upto trim lng es (subst (λ x. In x s.network.sent) o i) (sym ep) lt B
        (λ f j. let k = z.0.entries f j in (k.given.place, subst (λ l. Says hs made l f.ballot f.number f.what) g k.says)) n (let u = good_low c hs s.network.sent s.register m.log (epoch_of from) lng z.0.good in omega arith)

    pub reply : (m : Msg) → In m s.network.sent → m.to ≡ whos.Sequencer q.epoch → m.log ≡ q.log → (k : Register) → Up s.register k → Stays c s.register k → ReplyFine c hs s.network.sent k q.log q.epoch (Step.sender_node m.from) m.body
    reply m i t g k u w = record {
      stored = λ n h. (let z = same_message m q.log (Step.sender_node m.from) q.epoch (bodies.Stored n) (V m q.epoch i t) t g h in let j : StoredBy s.network.sent q.log (Step.sender_node m.from) n q.epoch = subst (λ x. In x s.network.sent) z i in
          (stored_told s.network.sent q.log n q.epoch (Step.sender_node m.from) j, stored_settles s.network.sent q.log n q.epoch (Step.sender_node m.from) j));
      told_trim = λ n x h. subst (λ y. In y s.network.sent) (same_message m q.log (Step.sender_node m.from) q.epoch (bodies.TrimmedHere n x) (V m q.epoch i t) t g h) i;
      settler = λ n z. (let a = SO q.log (Step.sender_node m.from) q.epoch n m.body z (subst (λ y. In y s.network.sent) (same_message m q.log (Step.sender_node m.from) q.epoch m.body (V m q.epoch i t) t g refl) i) in subst (λ (p : Spec). In (Step.sender_node m.from) (nodes_of p)) (sym (w.specs q.log (epoch_of n) a.0)) a.1);
      trimmed = λ n x h. (let z : carried.BodyOk (Said hs made s.register) (TrimFine c hs s.network.sent s.register) (CloseFine c hs made s.network.sent s.register) (Reached s.register) (ShowFine c hs made s.network.sent s.register) (ReleaseFine c hs s.network.sent s.register) (SaidHere hs made s.register) (LngFine c hs s.network.sent s.register) m.log m.from (bodies.TrimmedHere n x)
          = subst (carried.BodyOk (Said hs made s.register) (TrimFine c hs s.network.sent s.register) (CloseFine c hs made s.network.sent s.register) (Reached s.register) (ShowFine c hs made s.network.sent s.register) (ReleaseFine c hs s.network.sent s.register) (SaidHere hs made s.register) (LngFine c hs s.network.sent s.register) m.log m.from) h (S.sent m i).0 in
          λ p a b o. let y = (u q.log).1 in acked_stays c hs s.network.sent s.register k u w q.log p (subst (λ l. Acknowledged c hs s.network.sent s.register l p) g (z.0 p a b (subst (λ l. Open s.register l (epoch_of p)) (sym g) (omega arith)))));
    }

    pub lost_said : (m : Msg) → In m s.network.sent → m.to ≡ whos.Sequencer q.epoch → m.log ≡ q.log → (n round generation end : ℕ) → m.body ≡ bodies.LostHere n round generation end → LostTold s.network.sent q.log (home_epoch n) q.epoch (Step.sender_node m.from)
    lost_said m i t g n round generation end h = record {
      number = n;
      round = round;
      generation = generation;
      end = end;
      said = subst (λ x. In x s.network.sent) (same_message m q.log (Step.sender_node m.from) q.epoch (bodies.LostHere n round generation end) (V m q.epoch i t) t g h) i;
      home = refl;
    }

    -- what is heard belongs to the recovery
    pub heard_digest : (m : Msg) → In m s.network.sent → m.to ≡ whos.Sequencer q.epoch → m.log ≡ q.log → (w : Recovery) (d : List Told) → Hearing q (Step.sender_node m.from) m.body w d → InRecovery c hs s.network.sent made s.register q.log q.epoch (record w { stage = Seals d })
    heard_digest m i t g w d H = heard_in c hs s.network.sent (gone_nodes s) made s.register q (called (looks_at c s.register q.log) s.register (on_retry (looks_at c s.register q.log) q) []) (up_same s.register) (stays_same c s.register) EC own (D name q v.named) (D name q v.named)
        (Step.sender_node m.from) m.body A (pages_good c hs made s S) (cleaned_closed m i g) (lost_said m i t g) (reply m i t g s.register (up_same s.register) (stays_same c s.register)) (page m i t g) s.register (λ u e. subst (RecoveryFine c hs s.network.sent made s.register q.log q.epoch) e (D name q v.named)) w d H

    heard : (f : List ℕ) (m : Msg) → In m s.network.sent → m.to ≡ whos.Sequencer q.epoch → m.log ≡ q.log → Result (Step.acted c (refreshed s f) name q (on_reply (looks_at c s.register q.log) q (Step.sender_node m.from) m.body)) (made_by c s (Some (name, q)) (Step.sender_node m.from) m.body)
    heard f m i t g u w =
        let y = Step.sender_node m.from in
        let a = on_reply (looks_at c s.register q.log) q y m.body in
        let call = called (looks_at c s.register q.log) s.register a a.tries in
        let F = lifted call.register [] u w q.log q.epoch q.recovery (λ x h j. j) (D name q v.named) in
        let R = reply m i t g call.register u w in
        let both = replied c s name q v.there y m.body (λ x n. call ≡ x → Both c hs s.network.sent (gone_nodes s) made s.register q call u w EC own (D name q v.named) F x n)
        (acting_fine c hs s.network.sent (gone_nodes s) made s.register q call u w EC own (D name q v.named) F y m.body A (pages_after call.register u w) (cleaned_closed m i g) (lost_said m i t g) R (page m i t g)) refl in by_call _ call (made_by c s (Some (name, q)) y m.body) refl u w both

  activates : (name : List ℕ) (l : ℕ) (k : Register) → activate s.register l (Step.spec_set c s l) ≡ record { register = k; answer = Granted } → Result (Step.activated_as c s name l k (epochs_of k l).epoch (lce_of k l)) []
  unfolding activated
  activates name l k i u y = (
    puts name (activated (looks_at c k l) (Step.spec_set c s l) l (epochs_of k l).epoch (lce_of k l)) k [] u y
        (begins_fine c hs s.network.sent made k k (up_same k) (stays_same c k) (subst (λ (d : Changed). EachClosed d.register) i (activate_each s.register l (Step.spec_set c s l) EC)) l (bare (Step.spec_set c s l) l (epochs_of k l).epoch (lce_of k l)) (lce_of k l) (omega arith) (omega arith) (λ x f j. absurd (let z = M l x (epochs_of k l).epoch f j in let w = new_epoch in omega arith))) (λ t w b g x h j. j),
    none_new,
    none_once,
  ) where
    new_epoch : (epochs_of k l).epoch ≡ (epochs_of s.register l).epoch + 1
    new_epoch = ap (λ (x : Epochs). x.epoch) (activated_epochs s.register l (Step.spec_set c s l) k i)

  handled : (f : List ℕ) (x : Node) (n : ℕ) (m : Msg) (o : Option Op) (b : Option Body) → Result (Step.handles (with_node (refreshed s f) n x) n m o b) []
  handled f x n m None b = stays (Step.handles (with_node (refreshed s f) n x) n m None b) refl
  handled f x n m (Some o) b = stays (Step.handles (with_node (refreshed s f) n x) n m (Some o) b) refl

  ticked : (n l : ℕ) (t : Ticked) → Result (Step.ticks_as c s n l t) []
  ticked n l (Cleans k y) = stays (Step.ticks_as c s n l (Cleans k y)) refl
  ticked n l Rebuilt = stays (Step.ticks_as c s n l Rebuilt) refl
  ticked n l (Asks from) = stays (Step.ticks_as c s n l (Asks from)) refl
  ticked n l Nothing = stays (Step.ticks_as c s n l Nothing) refl

  same_all : (k : Register) → Up s.register k → Stays c s.register k → AllFine c hs s.network.sent made k s.sequencers
  same_all k u y t v f = lifted k [] u y v.log v.epoch v.recovery (λ x g i. i) (D t v f)

  pub digest_cases : Cases c s e Result
  digest_cases = record {
    still = λ f older i u y. (same_all s.register u y, none_new, none_once);
    says = λ x q u y. (same_all s.register u y, none_new, none_once);
    node_hears = λ f older n m i t v o. handled f (Step.releases (node_at s n) m.log m.body) n m (Step.node_handles n (node_at s n) m).op (Step.node_handles n (node_at s n) m).answer;
    loads = λ n ls q b o u y. (same_all s.register u y, none_new, none_once);
    draw_fails = λ n b u y. (same_all (draw s.register n).register u y, none_new, none_once);
    formats = λ n k g b v i u y. (same_all k u y, none_new, none_once);
    ticks = λ n l t v i o. ticked n l t;
    stops = λ n b u y. (same_all s.register u y, none_new, none_once);
    wipes = λ n u y. (same_all s.register u y, none_new, none_once);
    faults = λ n f o u y. (same_all s.register u y, none_new, none_once);
    sets = λ l r x set h u y. (same_all s.register u y, none_new, none_once);
    arms = λ k done o u y. (same_all (Step.armed s.register k done) u y, none_new, none_once);
    hears = λ f older name q m i t l v o. subst (λ p. Result (Step.acted c (refreshed s f) name q (on_reply (looks_at c s.register q.log) q (Step.sender_node m.from) m.body)) (made_by c s (Some (name, q)) p m.body)) (sym (same_sender m.from)) (heard name q v f m i t l);
    retries = λ again name q v o. retry name q v again;
    appends = λ name q p v a i. goes_on (Step.append_done s name q p Numbered) name q (appended q p) v.named refl refl refl refl;
    trims = λ name q t v b u y. (same_all s.register u y, none_new, none_once);
    drops = λ name q v o. goes_on (only_state (with_sequencer s name (Step.dropped q))) name q (Step.dropped q) v.named refl refl refl refl;
    activates = λ name l k g n i x. activates name l k i;
    swaps = λ n m l x r q i u y. (same_all (swapped_by s n m l).register u y, none_new, none_once);
    activate_fails = λ name l x g q u y. (same_all (activate s.register l (Step.spec_set c s l)).register u y, none_new, none_once);
    answers = λ f older name d m i t v o u y. (same_all s.register u y, none_new, none_once);
    polls = λ name d v o u y. (same_all s.register u y, none_new, none_once);
    opens = λ style name l from until o x u y. (same_all s.register u y, none_new, none_once);
  }
