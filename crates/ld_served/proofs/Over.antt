-- A sequencer without a recovery knows all epochs before its own closed.
use Rattle.std.proofs.Common.{◌≡◌, ◌∙◌, ◌≤◌, ℕ, ◌+◌, inl, inr, refl, sym, subst, Bool, nat_lt, List, Option, Some, None}
use Rattle.std.proofs.lemmas.Bool.{ltb-false}
use Rattle.ld_table.specs.Named.{find_named, put_named}
use Rattle.ld_config.specs.declared.config.Config.{Config}
use Rattle.ld_msg.specs.declared.msg.Summary.{Summary}
use Rattle.ld_msg.specs.declared.msg.Msg.{Msg}
use Rattle.ld_msg.specs.declared.msg.Body.{Body}
use Rattle.ld_op.specs.declared.op.Op.{Op}
use Rattle.ld_op.specs.Ticks.{Ticked, Cleans, Rebuilt, Asks, Nothing}
use Rattle.ld_msg.specs.Register.{Register, epochs_of, lce_of, look}
use Rattle.ld_msg.specs.Sequencer.{Sequencer, Recovery, Acts, Called, activated, bare, recovery_of, begun}
use Rattle.ld_machine.specs.Config.{looks_at}
use Rattle.ld_machine.specs.State.{State, Done, finish, node_at, with_node}
use Rattle.ld_machine.specs.Step as Step
use Rattle.ld_machine.specs.Calm.{Move}
use Rattle.ld_safety.proofs.Lists.{Some_inj, not_none, cond_both}
use Rattle.ld_safety.proofs.Names.{named_cases}
use Rattle.ld_safety.proofs.Traces.{Keeps, beside_kept}
use Rattle.ld_safety.proofs.Events.{Cases, dispatch, refreshed}
use Rattle.ld_safety.proofs.Base.{Base, base_kept}
use Rattle.ld_safety.proofs.SequencerSteps.{Acting, Retrying, Closing, gone_of, replied, retried}

abbrev pub IsOver : Sequencer → Type 0
IsOver q = q.recovery ≡ None → q.epoch ≤ q.lce + 1

over_after : (c : Config) (r : Register) (l : ℕ) (a : Sequencer) (lce : ℕ) → recovery_of (looks_at c r l) a lce ≡ None → a.epoch ≤ lce + 1
unfolding look
over_after c r l a lce = cond_both (nat_lt (lce + 1) a.epoch) (Some (begun (looks_at c r l (lce + 1)))) None (λ o. o ≡ None → a.epoch ≤ lce + 1) (λ t h. absurd (not_none (sym h))) (λ t h. ltb-false (lce + 1) a.epoch t)

module _ (c : Config) (r : Register) (q : Sequencer) (N : IsOver q) where
  abbrev Over : Called → Type 0
  Over k = IsOver k.acts.sequencer

  close_over : (a : Acts) (e : ℕ) (y : Summary) (short : Bool) → a.sequencer.log ≡ q.log → IsOver a.sequencer → Closing r (looks_at c r q.log) a e y short (λ k. Over k)
  close_over a e y short lg nx = record {
    granted = λ n h o g k. over_after c r q.log a.sequencer e k;
    passed = λ h. nx;
    behind = λ b h k. over_after c r q.log a.sequencer (lce_of r a.sequencer.log) k;
    overtaken = λ h o. nx;
    failed = λ n g. nx;
  }

  acting_over : (gone : Recovery → List ℕ) (y : ℕ) (b : Body) → Acting c r gone q y b (λ k m. Over k)
  acting_over gone y b = record {
    quiet = N;
    sealed = λ n k f i l. N;
    cleaned_own = λ n s f i h. N;
    acks = λ n p f i g h m. N;
    lost_own = λ n round g end f i h. N;
    cleaned = λ v n s f e i h k. over_after c r q.log q v.epoch k;
    asks_more = λ w d asks f H a n u k. absurd (not_none (sym k));
    plans = λ w d loss f H p k. absurd (not_none (sym k));
    looks_closed = λ w d s f H u o k. over_after c r q.log q w.epoch k;
    looks_later = λ w d f H u o n. N;
    stores_on = λ w g f H t k. absurd (not_none (sym k));
    closes_now = λ w g f H t. close_over _ w.epoch _ _ refl (λ k. absurd (not_none (sym k)));
    lost_closing = λ v s short n round g end f e i h j k. absurd (not_none (sym k));
  }

  retrying_over : (gone : Recovery → List ℕ) → Retrying c r gone q (λ k m. Over k)
  retrying_over gone = record {
    quiet = N;
    appends = λ f. N;
    seals = λ v d f e h u k. absurd (not_none (sym k));
    plans = λ v d f e h p k. absurd (not_none (sym k));
    looks_closed = λ v d s f e h u o k. over_after c r q.log q v.epoch k;
    looks_later = λ v d f e h u o n. N;
    stores_on = λ v g f e h t k. absurd (not_none (sym k));
    closes_now = λ v g f e h t. close_over _ v.epoch _ _ refl (λ k. absurd (not_none (sym k)));
    closes = λ v y short f e h. close_over _ v.epoch y short refl N;
  }

-- ---- every event ----

abbrev pub AllOver : List (List ℕ × Sequencer) → Type 0
AllOver qs = (name : List ℕ) (q : Sequencer) → find_named name qs ≡ Some q → IsOver q

put_over : (s : List ℕ) (x : Sequencer) (qs : List (List ℕ × Sequencer)) → AllOver qs → IsOver x → AllOver (put_named s x qs)
put_over s x qs a h t q f = elim (named_cases t s x qs) [ inl c ↦ subst IsOver (Some_inj (sym c.1 ∙ f)) h | inr c ↦ a t q (sym c.1 ∙ f) ]

module _ (c : Config) (s : State) (e : Move) (H : AllOver s.sequencers) where
  abbrev Result : Done → Type 0
  Result d = AllOver d.state.sequencers

  over_cases : Cases c s e (λ d m. Result d)
  unfolding activated
  over_cases = record {
    still = λ f older i. H;
    says = λ x q. H;
    node_hears = λ f older n m i t v o. handled f n m (Step.node_handles n (node_at s n) m).op (Step.node_handles n (node_at s n) m).answer;
    loads = λ n ls q b o. H;
    draw_fails = λ n b. H;
    formats = λ n r g b v i. H;
    ticks = λ n l t v i o. ticked n l t;
    stops = λ n b. H;
    wipes = λ n. H;
    faults = λ n f o. H;
    sets = λ l r x set g. H;
    swaps = λ n m l x r q i. H;
    arms = λ k done o. H;
    hears = λ f older name q m i t l v o. put_over name _ s.sequencers H (replied c s name q v.there (Step.sender_node m.from) m.body (λ k n. IsOver k.acts.sequencer) (acting_over c s.register q (H name q v.named) (gone_of s q) (Step.sender_node m.from) m.body));
    retries = λ again name q v o. put_over name _ s.sequencers H (retried c s q v.there (λ k n. IsOver k.acts.sequencer) (retrying_over c s.register q (H name q v.named) (gone_of s q)));
    appends = λ name q p v a i. put_over name _ s.sequencers H (H name q v.named);
    trims = λ name q t v b. H;
    drops = λ name q v o. put_over name _ s.sequencers H (H name q v.named);
    activates = λ name l k g n i x. put_over name _ s.sequencers H (λ h. over_after c k l (bare (Step.spec_set c s l) l (epochs_of k l).epoch (lce_of k l)) (lce_of k l) h);
    activate_fails = λ name l x g q. H;
    answers = λ f older name d m i t v o. H;
    polls = λ name d v o. H;
    opens = λ style name l from until o x. H;
  } where
    handled : (f : List ℕ) (n : ℕ) (m : Msg) (o : Option Op) (b : Option Body) → Result (Step.handles (with_node (refreshed s f) n (Step.releases (node_at s n) m.log m.body)) n m o b)
    handled f n m None b = H
    handled f n m (Some o) b = H

    ticked : (n l : ℕ) (t : Ticked) → Result (Step.ticks_as c s n l t)
    ticked n l (Cleans k y) = H
    ticked n l Rebuilt = H
    ticked n l (Asks from) = H
    ticked n l Nothing = H

-- in every run
pub over_kept : (c : Config) → Keeps c (λ hs w. Base c hs w × AllOver w.state.sequencers)
unfolding finish find_named
over_kept c = beside_kept c (Base c) (λ hs w. AllOver w.state.sequencers) (base_kept c) (λ n q f. absurd (not_none f))
    (λ hs w e B n p. dispatch c w.state e (λ d m. AllOver (finish d).state.sequencers) B.0.0 (over_cases c w.state e p))
