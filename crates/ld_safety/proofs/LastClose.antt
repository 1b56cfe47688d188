-- Where a plan has a greater ballot than the one that closed its epoch, each item of that one was settled by as many nodes as there are copies: an epoch closed otherwise has no later plans.
use Rattle.std.proofs.Common.{false, ◌≡◌, ◌∙◌, ◌⊎◌, ◌≤◌, ℕ, ◌+◌, inl, inr, refl, ap, sym, subst, Bool, true, nat_lt, List, [], ◌∷◌, Option, Some, None, arith}
use Rattle.ld_table.specs.Named.{find_named, put_named}
use Rattle.ld_config.specs.declared.config.Config.{Config}
use Rattle.ld_msg.specs.declared.msg.Summary.{Summary}
use Rattle.ld_msg.specs.declared.msg.Msg.{Msg}
use Rattle.ld_msg.specs.declared.msg.Body.{Body}
use Rattle.ld_op.specs.declared.op.Op.{Op}
use Rattle.ld_op.specs.Ticks.{Ticked, Cleans, Rebuilt, Asks, Nothing}
use Rattle.ld_msg.specs.Register.{Register, epochs_of, lce_of, look}
use Rattle.ld_msg.specs.Digest.{Told}
use Rattle.ld_msg.specs.Sequencer.{Storing, Sequencer, Recovery, Acts, Called, Numbered, appended, activated, bare, on_reply, recovery_of, begun}
use Rattle.ld_machine.specs.Config.{looks_at}
use Rattle.ld_machine.specs.Disk.{Node}
use Rattle.ld_machine.specs.State.{State, Done, node_at, with_node, with_sequencer, only_state}
use Rattle.ld_machine.specs.World.{Made, In, made_by}
use Rattle.ld_machine.specs.Step as Step
use Rattle.ld_safety.proofs.Lists.{Some_inj, only, not_none, cond_both}
use Rattle.ld_safety.proofs.Names.{named_cases}
use Rattle.ld_safety.proofs.Events.{reply_call, retry_call, announced, Cases, Live, refreshed}
use Rattle.ld_safety.proofs.SequencerSteps.{Acting, Retrying, Closing, Hearing, Hearing_stored, heard_epoch, stored_epoch, gone_of, replied, retried, same_sender}
use Rattle.ld_safety.proofs.Protocol.{Basis, plan_of}
use Rattle.ld_machine.specs.Calm.{Move}

-- a sequencer recovers the epoch after the last one that it knows closed
abbrev pub NextOf : Sequencer → Type 0
NextOf q = (v : Recovery) → q.recovery ≡ Some v → v.epoch ≡ q.lce + 1

recovery_next : (c : Config) (r : Register) (l : ℕ) (a : Sequencer) (lce : ℕ) (v : Recovery) → recovery_of (looks_at c r l) a lce ≡ Some v → v.epoch ≡ lce + 1
unfolding look
recovery_next c r l a lce v = cond_both (nat_lt (lce + 1) a.epoch) (Some (begun (looks_at c r l (lce + 1)))) None (λ o. o ≡ Some v → v.epoch ≡ lce + 1) (λ t h. sym (ap (λ (x : Recovery). x.epoch) (Some_inj h))) (λ t h. absurd (not_none h))

-- what a call leaves of a sequencer, and whose plans it makes
pub record Goes (q : Sequencer) (k : Called) (m : List Made) : Type 0 where
  pub log : k.acts.sequencer.log ≡ q.log
  pub epoch : k.acts.sequencer.epoch ≡ q.epoch
  pub lce : q.lce ≤ k.acts.sequencer.lce
  pub next : NextOf k.acts.sequencer
  pub plans : (l e b : ℕ) (d : Basis) → In (plan_of l e b d) m → (l ≡ q.log) × (b ≡ q.epoch) × (e ≡ q.lce + 1)

module _ (c : Config) (r : Register) (q : Sequencer) (low : q.lce ≤ lce_of r q.log) (N : NextOf q) where
  none : (l e b : ℕ) (d : Basis) → In (plan_of l e b d) [] → (l ≡ q.log) × (b ≡ q.epoch) × (e ≡ q.lce + 1)
  none l e b d i = absurd i

  -- the last closed epoch that it knows stays, and so does what it recovers
  kept : (k : Called) → k.acts.sequencer.log ≡ q.log → k.acts.sequencer.epoch ≡ q.epoch → k.acts.sequencer.lce ≡ q.lce → k.acts.sequencer.recovery ≡ q.recovery → Goes q k []
  kept k a b z f = record { log = a; epoch = b; lce = omega arith; next = λ v h. N v (sym f ∙ h) ∙ ap (λ n. n + 1) (sym z); plans = none }

  -- the recovery goes on, of the same epoch
  stays : (k : Called) (w : Recovery) (m : List Made) → k.acts.sequencer.log ≡ q.log → k.acts.sequencer.epoch ≡ q.epoch → k.acts.sequencer.lce ≡ q.lce → k.acts.sequencer.recovery ≡ Some w → w.epoch ≡ q.lce + 1 → ((l e b : ℕ) (d : Basis) → In (plan_of l e b d) m → (l ≡ q.log) × (b ≡ q.epoch) × (e ≡ q.lce + 1)) → Goes q k m
  stays k w m a b z f g p = record { log = a; epoch = b; lce = omega arith; next = λ v h. (let i : w ≡ v = Some_inj (sym f ∙ h) in let y = ap (λ (x : Recovery). x.epoch) i in omega arith); plans = p }

  -- on to the epoch after a closed one
  onward : (k : Called) (l lce : ℕ) → k.acts.sequencer.log ≡ q.log → k.acts.sequencer.epoch ≡ q.epoch → k.acts.sequencer.lce ≡ lce → (a : Sequencer) → k.acts.sequencer.recovery ≡ recovery_of (looks_at c r l) a lce → q.lce ≤ lce → Goes q k []
  onward k l lce a b z x f g = record { log = a; epoch = b; lce = omega arith; next = λ v h. recovery_next c r l x lce v (sym f ∙ h) ∙ ap (λ n. n + 1) (sym z); plans = none }

  close_goes : (a : Acts) (e : ℕ) (y : Summary) (short : Bool) → a.sequencer.log ≡ q.log → a.sequencer.epoch ≡ q.epoch → a.sequencer.lce ≡ q.lce → NextOf a.sequencer → e ≡ q.lce + 1 → Closing r (looks_at c r q.log) a e y short (λ k. Goes q k [])
  close_goes a e y short lg ep lc nx f = record {
    granted = λ n h o g. onward _ q.log e lg ep refl a.sequencer refl (omega arith);
    passed = λ h. record { log = lg; epoch = ep; lce = omega arith; next = nx; plans = none };
    behind = λ b h. onward _ q.log (lce_of r a.sequencer.log) lg ep refl a.sequencer refl (subst (λ l. q.lce ≤ lce_of r l) (sym lg) low);
    overtaken = λ h o. record { log = lg; epoch = ep; lce = omega arith; next = nx; plans = none };
    failed = λ n g. record { log = lg; epoch = ep; lce = omega arith; next = nx; plans = none };
  }

  heard_next : (y : ℕ) (b : Body) (w : Recovery) (d : List Told) → Hearing q y b w d → w.epoch ≡ q.lce + 1
  heard_next y b w d H = heard_epoch q y b w d (λ x. x ≡ q.lce + 1) N H

  stored_next : (y : ℕ) (b : Body) (w : Recovery) (g : Storing) → Hearing_stored q y b w g → w.epoch ≡ q.lce + 1
  stored_next y b w g H = stored_epoch q y b w g (λ x. x ≡ q.lce + 1) N H

  one_plan : (w : Recovery) (d : Basis) → w.epoch ≡ q.lce + 1 → (l e b : ℕ) (f : Basis) → In (plan_of l e b f) (plan_of q.log w.epoch q.epoch d ∷ []) → (l ≡ q.log) × (b ≡ q.epoch) × (e ≡ q.lce + 1)
  one_plan w d h l e b f i = let o = only _ _ i in (ap (λ (m : Made). m.log) o, ap (λ (m : Made). m.ballot) o, ap (λ (m : Made). m.epoch) o ∙ h)

  acting_goes : (gone : Recovery → List ℕ) (y : ℕ) (b : Body) → Acting c r gone q y b (λ k m. Goes q k m)
  acting_goes gone y b = record {
    quiet = kept _ refl refl refl refl;
    sealed = λ n k f i l. kept _ refl refl refl refl;
    cleaned_own = λ n s f i h. kept _ refl refl refl refl;
    acks = λ n p f i g h m. kept _ refl refl refl refl;
    lost_own = λ n round g end f i h. kept _ refl refl refl refl;
    cleaned = λ v n s f e i h. onward _ q.log v.epoch refl refl refl q refl (let z = N v e in omega arith);
    asks_more = λ w d asks f H a n u. stays _ _ [] refl refl refl refl (heard_next y b w d H) none;
    plans = λ w d loss f H p. stays _ _ _ refl refl refl refl (heard_next y b w d H) (one_plan w (record { loss = loss; digest = d; gone = gone w }) (heard_next y b w d H));
    looks_closed = λ w d s f H u o. onward _ q.log w.epoch refl refl refl q refl (let z = heard_next y b w d H in omega arith);
    looks_later = λ w d f H u o n. kept _ refl refl refl refl;
    stores_on = λ w g f H t. stays _ _ [] refl refl refl refl (stored_next y b w g H) none;
    closes_now = λ w g f H t. close_goes _ w.epoch _ _ refl refl refl (λ u i. sym (ap (λ (k : Recovery). k.epoch) (Some_inj i)) ∙ stored_next y b w g H) (stored_next y b w g H);
    lost_closing = λ v s short n round g end f e i h j. stays _ _ [] refl refl refl refl (N v e) none;
  }

  retrying_goes : (gone : Recovery → List ℕ) → Retrying c r gone q (λ k m. Goes q k m)
  retrying_goes gone = record {
    quiet = kept _ refl refl refl refl;
    appends = λ f. kept _ refl refl refl refl;
    seals = λ v d f e h u. stays _ _ [] refl refl refl refl (N v e) none;
    plans = λ v d f e h p. stays _ _ _ refl refl refl refl (N v e) (one_plan v (record { loss = true; digest = d; gone = gone v }) (N v e));
    looks_closed = λ v d s f e h u o. onward _ q.log v.epoch refl refl refl q refl (let z = N v e in omega arith);
    looks_later = λ v d f e h u o n. kept _ refl refl refl refl;
    stores_on = λ v g f e h t. stays _ _ [] refl refl refl refl (N v e) none;
    closes_now = λ v g f e h t. close_goes _ v.epoch _ _ refl refl refl (λ u i. sym (ap (λ (k : Recovery). k.epoch) (Some_inj i)) ∙ N v e) (N v e);
    closes = λ v y short f e h. close_goes _ v.epoch y short refl refl refl (λ u i. N u i) (N v e);
  }

-- ---- every event ----
module _ (c : Config) (s : State) (e : Move) (low : (t : List ℕ) (q : Sequencer) → find_named t s.sequencers ≡ Some q → q.lce ≤ lce_of s.register q.log) (N : (t : List ℕ) (q : Sequencer) → find_named t s.sequencers ≡ Some q → NextOf q) where
  -- where a sequencer comes from: it was there, and knows no less, or is new, and knows the register's last closed epoch
  pub record Follows (d : Done) (t : List ℕ) (p : Sequencer) : Type 0 where
    pub next : NextOf p
    pub whence : ((q : Sequencer) × (find_named t s.sequencers ≡ Some q) × (p.log ≡ q.log) × (p.epoch ≡ q.epoch) × (q.lce ≤ p.lce)) ⊎ (lce_of d.state.register p.log ≤ p.lce)

  pub record Went (d : Done) (m : List Made) : Type 0 where
    pub sequencers : (t : List ℕ) (p : Sequencer) → find_named t d.state.sequencers ≡ Some p → Follows d t p
    pub plans : (l x b : ℕ) (f : Basis) → In (plan_of l x b f) m → (t : List ℕ) × (q : Sequencer) × (find_named t s.sequencers ≡ Some q) × (l ≡ q.log) × (b ≡ q.epoch) × (x ≡ q.lce + 1)

  no_plans : (l x b : ℕ) (f : Basis) → In (plan_of l x b f) [] → (t : List ℕ) × (q : Sequencer) × (find_named t s.sequencers ≡ Some q) × (l ≡ q.log) × (b ≡ q.epoch) × (x ≡ q.lce + 1)
  no_plans l x b f i = absurd i

  was : (d : Done) (t : List ℕ) (p : Sequencer) → find_named t s.sequencers ≡ Some p → Follows d t p
  was d t p f = record { next = N t p f; whence = inl (p, f, refl, refl, omega arith) }

  same_all : (d : Done) → d.state.sequencers ≡ s.sequencers → Went d []
  same_all d q = record { sequencers = λ t p f. was d t p (subst (λ (m : List (List ℕ × Sequencer)). find_named t m ≡ Some p) q f); plans = no_plans }

  puts : (d : Done) (name : List ℕ) (p : Sequencer) (m : List Made) → d.state.sequencers ≡ put_named name p s.sequencers → ((t : List ℕ) → t ≡ name → Follows d t p) → ((l x b : ℕ) (f : Basis) → In (plan_of l x b f) m → (t : List ℕ) × (q : Sequencer) × (find_named t s.sequencers ≡ Some q) × (l ≡ q.log) × (b ≡ q.epoch) × (x ≡ q.lce + 1)) → Went d m
  puts d name p m z h k = record {
    sequencers = λ t v f. elim (named_cases t name p s.sequencers) [
      | inl a ↦ subst (λ (x : Sequencer). Follows d t x) (Some_inj (sym a.1 ∙ (ap (find_named t) (sym z) ∙ f))) (h t a.0)
      | inr a ↦ was d t v (sym a.1 ∙ (ap (find_named t) (sym z) ∙ f))
    ];
    plans = k;
  }

  called_went : (again : Bool) (f : List ℕ) (name : List ℕ) (q : Sequencer) (call : Called) (m : List Made) → Live s name q → Goes q call m → Went (Step.told (refreshed s f) name q (announced again call)) m
  called_went again f name q call m v g = puts (Step.told (refreshed s f) name q (announced again call)) name call.acts.sequencer m refl (λ t o. record { next = g.next; whence = inl (q, subst (λ x. find_named x s.sequencers ≡ Some q) (sym o) v.named, g.log, g.epoch, g.lce) })
      (λ l x b f i. let z = g.plans l x b f i in (name, q, v.named, z.0, z.1, z.2))

  one_goes : (name : List ℕ) (q p : Sequencer) (d : Done) → find_named name s.sequencers ≡ Some q → d.state.sequencers ≡ put_named name p s.sequencers → p.log ≡ q.log → p.epoch ≡ q.epoch → p.lce ≡ q.lce → p.recovery ≡ q.recovery → Went d []
  one_goes name q p d f z a b l r = puts d name p [] z (λ t o. record { next = λ v h. N name q f v (sym r ∙ h) ∙ ap (λ n. n + 1) (sym l); whence = inl (q, subst (λ x. find_named x s.sequencers ≡ Some q) (sym o) f, a, b, omega arith) }) no_plans

  new_one : (name : List ℕ) (l : ℕ) (k : Register) → Went (Step.activated_as c s name l k (epochs_of k l).epoch (lce_of k l)) []
  unfolding activated
  new_one name l k = puts (Step.activated_as c s name l k (epochs_of k l).epoch (lce_of k l)) name (activated (looks_at c k l) (Step.spec_set c s l) l (epochs_of k l).epoch (lce_of k l)) [] refl
      (λ t o. record { next = λ v h. recovery_next c k l (bare (Step.spec_set c s l) l (epochs_of k l).epoch (lce_of k l)) (lce_of k l) v h; whence = inr (omega arith) }) no_plans

  handled : (f : List ℕ) (x : Node) (n : ℕ) (m : Msg) (o : Option Op) (b : Option Body) → Went (Step.handles (with_node (refreshed s f) n x) n m o b) []
  handled f x n m None b = same_all (Step.handles (with_node (refreshed s f) n x) n m None b) refl
  handled f x n m (Some o) b = same_all (Step.handles (with_node (refreshed s f) n x) n m (Some o) b) refl

  ticked : (n l : ℕ) (t : Ticked) → Went (Step.ticks_as c s n l t) []
  ticked n l (Cleans k y) = same_all (Step.ticks_as c s n l (Cleans k y)) refl
  ticked n l Rebuilt = same_all (Step.ticks_as c s n l Rebuilt) refl
  ticked n l (Asks from) = same_all (Step.ticks_as c s n l (Asks from)) refl
  ticked n l Nothing = same_all (Step.ticks_as c s n l Nothing) refl

  heard : (f : List ℕ) (name : List ℕ) (q : Sequencer) (m : Msg) → Live s name q → Went (Step.acted c (refreshed s f) name q (on_reply (looks_at c s.register q.log) q (Step.sender_node m.from) m.body)) (made_by c s (Some (name, q)) (Step.sender_node m.from) m.body)
  heard f name q m v = called_went false f name q (reply_call c s q (Step.sender_node m.from) m.body) _ v
      (replied c s name q v.there (Step.sender_node m.from) m.body (λ k n. Goes q k n) (acting_goes c s.register q (low name q v.named) (N name q v.named) (gone_of s q) (Step.sender_node m.from) m.body))

  pub went_cases : Cases c s e Went
  went_cases = record {
    still = λ f older i. same_all _ refl;
    says = λ x q. same_all _ refl;
    node_hears = λ f older n m i t v o. handled f (Step.releases (node_at s n) m.log m.body) n m (Step.node_handles n (node_at s n) m).op (Step.node_handles n (node_at s n) m).answer;
    loads = λ n ls q b o. same_all _ refl;
    draw_fails = λ n b. same_all _ refl;
    formats = λ n k g b v i. same_all _ refl;
    ticks = λ n l t v i o. ticked n l t;
    stops = λ n b. same_all _ refl;
    wipes = λ n. same_all _ refl;
    faults = λ n f o. same_all _ refl;
    sets = λ l r x set h. same_all _ refl;
    arms = λ k done o. same_all _ refl;
    hears = λ f older name q m i t l v o. subst (λ p. Went (Step.acted c (refreshed s f) name q (on_reply (looks_at c s.register q.log) q (Step.sender_node m.from) m.body)) (made_by c s (Some (name, q)) p m.body)) (sym (same_sender m.from)) (heard f name q m v);
    retries = λ again name q v o. called_went again s.network.fresh name q (retry_call c s q) _ v (retried c s q v.there (λ k n. Goes q k n) (retrying_goes c s.register q (low name q v.named) (N name q v.named) (gone_of s q)));
    appends = λ name q p v a i. one_goes name q (appended q p) (Step.append_done s name q p Numbered) v.named refl refl refl refl refl;
    trims = λ name q t v b. same_all _ refl;
    drops = λ name q v o. one_goes name q (Step.dropped q) (only_state (with_sequencer s name (Step.dropped q))) v.named refl refl refl refl refl;
    activates = λ name l k g n i x. new_one name l k;
    swaps = λ n m l x r q i. same_all _ refl;
    activate_fails = λ name l x g q. same_all _ refl;
    answers = λ f older name d m i t v o. same_all _ refl;
    polls = λ name d v o. same_all _ refl;
    opens = λ style name l from until o x. same_all _ refl;
  }
