-- What a sequencer recovers an epoch with was shown by a look at it: what holds of each look holds of each recovery.
use Rattle.std.proofs.Common.{false, Bool, ◌≡◌, ◌∙◌, ◌<◌, ℕ, ◌+◌, refl, ap, sym, subst, nat_lt, List, [], Option, Some, None, arith, inl, inr}
use Rattle.std.proofs.lemmas.Bool.{ltb-true}
use Rattle.ld_table.specs.Named.{find_named, put_named}
use Rattle.ld_ids.specs.declared.set.Spec.{Spec}
use Rattle.ld_config.specs.declared.config.Config.{Config}
use Rattle.ld_msg.specs.declared.msg.Summary.{Summary}
use Rattle.ld_msg.specs.declared.msg.Msg.{Msg}
use Rattle.ld_msg.specs.declared.msg.Body.{Body}
use Rattle.ld_op.specs.declared.op.Op.{Op}
use Rattle.ld_op.specs.Ticks.{Ticked, Cleans, Rebuilt, Asks, Nothing}
use Rattle.ld_msg.specs.Register.{Register, Granted, activate, epochs_of, lce_of, look}
use Rattle.ld_msg.specs.Digest.{Told}
use Rattle.ld_msg.specs.Sequencer.{Storing, Sequencer, Recovery, Acts, Called, Numbered, appended, activated, bare, on_reply, recovery_of, begun}
use Rattle.ld_machine.specs.Config.{looks_at}
use Rattle.ld_machine.specs.Disk.{Node}
use Rattle.ld_machine.specs.State.{State, Done, node_at, with_node, with_sequencer, only_state}
use Rattle.ld_machine.specs.World.{Made, made_by, made_retried}
use Rattle.ld_machine.specs.Step as Step
use Rattle.ld_safety.proofs.Lists.{Some_inj, not_none, cond_both}
use Rattle.ld_safety.proofs.Names.{named_cases}
use Rattle.ld_safety.proofs.Events.{reply_call, retry_call, announced, Cases, Live, refreshed}
use Rattle.ld_safety.proofs.SequencerSteps.{Acting, Retrying, Closing, Hearing, heard_page, heard_lost, Hearing_stored, heard_settled, heard_gone, gone_of, replied, retried, same_sender}
use Rattle.ld_machine.specs.Calm.{Move}

module _ (P : ℕ → ℕ → Spec → Type 0) where
  abbrev pub OfLook : Sequencer → Type 0
  OfLook q = (v : Recovery) → q.recovery ≡ Some v → P q.log v.epoch v.spec

  looked_at : (c : Config) (r : Register) (l : ℕ) (a : Sequencer) (lce : ℕ) → ((e : ℕ) → 0 < e → e < a.epoch → P l e (looks_at c r l e).spec) → (v : Recovery) → recovery_of (looks_at c r l) a lce ≡ Some v → P l v.epoch v.spec
  unfolding look
  looked_at c r l a lce L v = cond_both (nat_lt (lce + 1) a.epoch) (Some (begun (looks_at c r l (lce + 1)))) None (λ o. o ≡ Some v → P l v.epoch v.spec) (λ t h. subst (λ (x : Recovery). P l x.epoch x.spec) (Some_inj h) (L (lce + 1) (omega arith) (ltb-true _ _ t))) (λ t h. absurd (not_none h))

  -- what a call leaves of a sequencer
  record Goes (q : Sequencer) (k : Called) : Type 0 where
    log : k.acts.sequencer.log ≡ q.log
    looks : OfLook k.acts.sequencer

  module _ (c : Config) (r : Register) (q : Sequencer) (L : (e : ℕ) → 0 < e → e < q.epoch → P q.log e (looks_at c r q.log e).spec) (N : OfLook q) where
    kept : (k : Called) → k.acts.sequencer.log ≡ q.log → k.acts.sequencer.recovery ≡ q.recovery → Goes q k
    kept k a f = record { log = a; looks = λ v h. subst (λ l. P l v.epoch v.spec) (sym a) (N v (sym f ∙ h)) }

    stays : (k : Called) (w : Recovery) → k.acts.sequencer.log ≡ q.log → k.acts.sequencer.recovery ≡ Some w → P q.log w.epoch w.spec → Goes q k
    stays k w a f g = record { log = a; looks = λ v h. (let i : w ≡ v = Some_inj (sym f ∙ h) in subst (λ l. P l v.epoch v.spec) (sym a) (subst (λ (x : Recovery). P q.log x.epoch x.spec) i g)) }

    onward : (k : Called) (l lce : ℕ) (a : Sequencer) → k.acts.sequencer.log ≡ q.log → l ≡ q.log → a.epoch ≡ q.epoch → k.acts.sequencer.recovery ≡ recovery_of (looks_at c r l) a lce → Goes q k
    onward k l lce a lg o ep f = record { log = lg; looks = λ v h. subst (λ x. P x v.epoch v.spec) (sym lg) (subst (λ x. P x v.epoch v.spec) o (looked_at c r l a lce (λ e p u. subst (λ x. P x e (looks_at c r x e).spec) (sym o) (L e p (subst (λ x. e < x) ep u))) v (sym f ∙ h))) }

    close_goes : (a : Acts) (e : ℕ) (y : Summary) (short : Bool) → a.sequencer.log ≡ q.log → a.sequencer.epoch ≡ q.epoch → OfLook a.sequencer → Closing r (looks_at c r q.log) a e y short (λ k. Goes q k)
    close_goes a e y short lg ep nx = record {
      granted = λ n h o g. onward _ q.log e a.sequencer lg refl ep refl;
      passed = λ h. record { log = lg; looks = nx };
      behind = λ b h. onward _ q.log (lce_of r a.sequencer.log) a.sequencer lg refl ep refl;
      overtaken = λ h o. record { log = lg; looks = nx };
      failed = λ n g. record { log = lg; looks = nx };
    }

    heard_so : (y : ℕ) (b : Body) (w : Recovery) (d : List Told) → Hearing q y b w d → P q.log w.epoch w.spec
    heard_so y b w d (heard_page f from upto trim lng es e k i g t j) = N w e
    heard_so y b w d (heard_lost v f n round generation end e k i g j z) = subst (λ (x : Recovery). P q.log x.epoch x.spec) (sym j) (N v e)

    stored_so : (y : ℕ) (b : Body) (w : Recovery) (g : Storing) → Hearing_stored q y b w g → P q.log w.epoch w.spec
    stored_so y b w g (heard_settled f p e k s m j) = N w e
    stored_so y b w g (heard_gone v n round generation end e k i j z) = subst (λ (x : Recovery). P q.log x.epoch x.spec) (sym z) (N v e)

    acting_goes : (gone : Recovery → List ℕ) (y : ℕ) (b : Body) → Acting c r gone q y b (λ k m. Goes q k)
    acting_goes gone y b = record {
      quiet = kept _ refl refl;
      sealed = λ n k f i l. kept _ refl refl;
      cleaned_own = λ n s f i h. kept _ refl refl;
      acks = λ n p f i g h m. kept _ refl refl;
      lost_own = λ n round g end f i h. kept _ refl refl;
      cleaned = λ v n s f e i h. onward _ q.log v.epoch q refl refl refl refl;
      asks_more = λ w d asks f H a n u. stays _ _ refl refl (heard_so y b w d H);
      plans = λ w d loss f H p. stays _ _ refl refl (heard_so y b w d H);
      looks_closed = λ w d s f H u o. onward _ q.log w.epoch q refl refl refl refl;
      looks_later = λ w d f H u o n. kept _ refl refl;
      stores_on = λ w g f H t. stays _ _ refl refl (stored_so y b w g H);
      closes_now = λ w g f H t. close_goes _ w.epoch _ _ refl refl (λ u i. subst (λ (k : Recovery). P q.log k.epoch k.spec) (Some_inj i) (stored_so y b w g H));
      lost_closing = λ v s short n round g end f e i h j. stays _ _ refl refl (N v e);
    }

    retrying_goes : (gone : Recovery → List ℕ) → Retrying c r gone q (λ k m. Goes q k)
    retrying_goes gone = record {
      quiet = kept _ refl refl;
      appends = λ f. kept _ refl refl;
      seals = λ v d f e h u. stays _ _ refl refl (N v e);
      plans = λ v d f e h p. stays _ _ refl refl (N v e);
      looks_closed = λ v d s f e h u o. onward _ q.log v.epoch q refl refl refl refl;
      looks_later = λ v d f e h u o n. kept _ refl refl;
      stores_on = λ v g f e h t. stays _ _ refl refl (N v e);
      closes_now = λ v g f e h t. close_goes _ v.epoch _ _ refl refl (λ u i. subst (λ (k : Recovery). P q.log k.epoch k.spec) (Some_inj i) (N v e));
      closes = λ v y short f e h. close_goes _ v.epoch y short refl refl (λ u i. N u i);
    }

  -- ---- every event ----
  module _ (c : Config) (s : State) (v : Move) (N : (t : List ℕ) (q : Sequencer) → find_named t s.sequencers ≡ Some q → OfLook q)
      (L : (t : List ℕ) (q : Sequencer) → find_named t s.sequencers ≡ Some q → (e : ℕ) → 0 < e → e < q.epoch → P q.log e (looks_at c s.register q.log e).spec)
      (A : (l : ℕ) (k : Register) → activate s.register l (Step.spec_set c s l) ≡ record { register = k; answer = Granted } → (e : ℕ) → 0 < e → e < (epochs_of k l).epoch → P l e (looks_at c k l e).spec) where
    abbrev pub AllLook : Done → List Made → Type 0
    AllLook d m = (t : List ℕ) (p : Sequencer) → find_named t d.state.sequencers ≡ Some p → OfLook p

    same_all : (d : Done) → d.state.sequencers ≡ s.sequencers → AllLook d []
    same_all d q t p f = N t p (subst (λ (m : List (List ℕ × Sequencer)). find_named t m ≡ Some p) q f)

    puts : (d : Done) (name : List ℕ) (p : Sequencer) (m : List Made) → d.state.sequencers ≡ put_named name p s.sequencers → OfLook p → AllLook d m
    puts d name p m z h t v f = elim (named_cases t name p s.sequencers) [
      | inl a ↦ subst OfLook (Some_inj (sym a.1 ∙ (ap (find_named t) (sym z) ∙ f))) h
      | inr a ↦ N t v (sym a.1 ∙ (ap (find_named t) (sym z) ∙ f))
    ]

    called_looks : (again : Bool) (f : List ℕ) (name : List ℕ) (q : Sequencer) (call : Called) (m : List Made) → Live s name q → Goes q call → AllLook (Step.told (refreshed s f) name q (announced again call)) m
    called_looks again f name q call m v g = puts (Step.told (refreshed s f) name q (announced again call)) name call.acts.sequencer m refl g.looks

    new_one : (name : List ℕ) (l : ℕ) (k : Register) → activate s.register l (Step.spec_set c s l) ≡ record { register = k; answer = Granted } → AllLook (Step.activated_as c s name l k (epochs_of k l).epoch (lce_of k l)) []
    unfolding activated
    new_one name l k i = puts (Step.activated_as c s name l k (epochs_of k l).epoch (lce_of k l)) name (activated (looks_at c k l) (Step.spec_set c s l) l (epochs_of k l).epoch (lce_of k l)) [] refl
        (λ v h. looked_at c k l (bare (Step.spec_set c s l) l (epochs_of k l).epoch (lce_of k l)) (lce_of k l) (A l k i) v h)

    handled : (f : List ℕ) (x : Node) (n : ℕ) (m : Msg) (o : Option Op) (b : Option Body) → AllLook (Step.handles (with_node (refreshed s f) n x) n m o b) []
    handled f x n m None b = same_all (Step.handles (with_node (refreshed s f) n x) n m None b) refl
    handled f x n m (Some o) b = same_all (Step.handles (with_node (refreshed s f) n x) n m (Some o) b) refl

    ticked : (n l : ℕ) (t : Ticked) → AllLook (Step.ticks_as c s n l t) []
    ticked n l (Cleans k y) = same_all (Step.ticks_as c s n l (Cleans k y)) refl
    ticked n l Rebuilt = same_all (Step.ticks_as c s n l Rebuilt) refl
    ticked n l (Asks from) = same_all (Step.ticks_as c s n l (Asks from)) refl
    ticked n l Nothing = same_all (Step.ticks_as c s n l Nothing) refl

    heard : (f : List ℕ) (name : List ℕ) (q : Sequencer) (m : Msg) → Live s name q → AllLook (Step.acted c (refreshed s f) name q (on_reply (looks_at c s.register q.log) q (Step.sender_node m.from) m.body)) (made_by c s (Some (name, q)) (Step.sender_node m.from) m.body)
    heard f name q m v = called_looks false f name q (reply_call c s q (Step.sender_node m.from) m.body) (made_by c s (Some (name, q)) (Step.sender_node m.from) m.body) v
        (replied c s name q v.there (Step.sender_node m.from) m.body (λ k n. Goes q k) (acting_goes c s.register q (L name q v.named) (N name q v.named) (gone_of s q) (Step.sender_node m.from) m.body))

    pub look_cases : Cases c s v AllLook
    look_cases = record {
      still = λ f older i. N;
      says = λ x q. N;
      node_hears = λ f older n m i t v o. handled f (Step.releases (node_at s n) m.log m.body) n m (Step.node_handles n (node_at s n) m).op (Step.node_handles n (node_at s n) m).answer;
      loads = λ n ls q b o. N;
      draw_fails = λ n b. N;
      formats = λ n k g b v i. N;
      ticks = λ n l t v i o. ticked n l t;
      stops = λ n b. N;
      wipes = λ n. N;
      faults = λ n f o. N;
      sets = λ l r x set h. N;
      swaps = λ n m l x r q i. N;
      arms = λ k done o. N;
      hears = λ f older name q m i t l v o. subst (λ p. AllLook (Step.acted c (refreshed s f) name q (on_reply (looks_at c s.register q.log) q (Step.sender_node m.from) m.body)) (made_by c s (Some (name, q)) p m.body)) (sym (same_sender m.from)) (heard f name q m v);
      retries = λ again name q v o. called_looks again s.network.fresh name q (retry_call c s q) (made_retried c s (Some q)) v (retried c s q v.there (λ k n. Goes q k) (retrying_goes c s.register q (L name q v.named) (N name q v.named) (gone_of s q)));
      appends = λ name q p v a i. puts (Step.append_done s name q p Numbered) name (appended q p) [] refl (N name q v.named);
      trims = λ name q t v b. N;
      drops = λ name q v o. puts (only_state (with_sequencer s name (Step.dropped q))) name (Step.dropped q) [] refl (N name q v.named);
      activates = λ name l k g n i x. new_one name l k i;
      activate_fails = λ name l x g q. N;
      answers = λ f older name d m i t v o. N;
      polls = λ name d v o. N;
      opens = λ style name l from until o x. N;
    }
