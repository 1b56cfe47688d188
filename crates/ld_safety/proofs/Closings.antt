-- Where the summaries of a register come from: they were there before the step, or a recovery closes its epoch in it.
use Rattle.std.proofs.Common.{◌≡◌, ◌∙◌, ℕ, ◌+◌, inl, inr, refl, ap, sym, subst, false, List, Option, Some, None, Bool}
use Rattle.std.specs.Option.{unwrap_or}
use Rattle.ld_table.specs.Table.{find}
use Rattle.ld_table.proofs.Laws.{put_cases}
use Rattle.ld_config.specs.declared.config.Config.{Config}
use Rattle.ld_msg.specs.declared.msg.Summary.{Summary}
use Rattle.ld_msg.specs.declared.msg.Msg.{Msg}
use Rattle.ld_msg.specs.declared.msg.Body.{Body}
use Rattle.ld_ids.specs.declared.set.Spec.{Spec}
use Rattle.ld_op.specs.declared.op.Op.{Op}
use Rattle.ld_op.specs.Ticks.{Ticked, Cleans, Rebuilt, Asks, Nothing}
use Rattle.ld_machine.specs.Disk.{Node}
use Rattle.ld_msg.specs.Register.{swap, swapped_epochs, Register, View, Epochs, Changed, no_epochs, epochs_of, lce_of, with_epochs, next_epoch, closed_epochs, is_overtaken, close, activate, draw}
use Rattle.ld_msg.specs.Sequencer.{Sequencer, Acts, Recovery, summary_of}
use Rattle.ld_machine.specs.State.{State, node_at, with_node}
use Rattle.ld_machine.specs.Step as Step
use Rattle.ld_safety.proofs.Lists.{Some_inj}
use Rattle.ld_safety.proofs.Events.{NamesOnce, Cases, dispatch, Live, refreshed}
use Rattle.ld_safety.proofs.SequencerSteps.{Closing, Acting, Retrying, Ending, ends_again, ends_ready, ending_of, gone_of, replied, retried}
use Rattle.ld_safety.proofs.RegisterSteps.{Same, activate_leaves, close_leaves, draw_leaves, swap_leaves, epochs_put, epochs_same}
use Rattle.ld_safety.proofs.CarriedSteps.{HeardOf}
use Rattle.ld_machine.specs.Calm as Calm
use Rattle.ld_machine.specs.Calm.{Move}

-- what holds of each summary of a register
abbrev pub OfSummaries : (ℕ → ℕ → Summary → Type 0) → Register → Type 0
OfSummaries P r = (l e : ℕ) (y : Summary) → find e (epochs_of r l).summaries ≡ Some y → P l e y

module _ (P : ℕ → ℕ → Summary → Type 0) where
  same_summaries : (r n : Register) → Same r n → OfSummaries P r → OfSummaries P n
  same_summaries r n s h l e y f = h l e y (ap (λ (x : Epochs). find e x.summaries) (sym (epochs_same r n l s)) ∙ f)

  put_summaries : (r n : Register) (l : ℕ) (x : Epochs) → ((e : ℕ) (y : Summary) → find e x.summaries ≡ Some y → P l e y) → Same (with_epochs r l x) n → OfSummaries P r → OfSummaries P n
  put_summaries r n l x g s h k e y f = elim (epochs_put r l k x) [
    | inl a ↦ subst (λ z. P z e y) (sym a.0) (g e y (ap (λ (z : Epochs). find e z.summaries) (sym (epochs_same (with_epochs r l x) n k s ∙ a.1)) ∙ f))
    | inr a ↦ h k e y (ap (λ (z : Epochs). find e z.summaries) (sym (epochs_same (with_epochs r l x) n k s ∙ a.1)) ∙ f)
  ]

  close_summaries : (r : Register) (l e : ℕ) (y : Summary) (b : Bool) → (lce_of r l + 1 ≡ e → is_overtaken (epochs_of r l) y b ≡ false → P l e y) → OfSummaries P r → OfSummaries P (close r l e y b).register
  close_summaries r l e y b t h = elim (close_leaves r l e y b) [
    | inl s ↦ same_summaries r (close r l e y b).register s h
    | inr s ↦ put_summaries r (close r l e y b).register l (closed_epochs (epochs_of r l) e y) (λ k z f. elim (put_cases k e y (epochs_of r l).summaries) [
      | inl a ↦ subst (λ j. P l j z) (sym a.0) (subst (λ (v : Summary). P l e v) (Some_inj (sym a.1 ∙ f)) (t s.0 s.2))
      | inr a ↦ h l k z (sym a.1 ∙ f)
    ]) s.1 h
  ]

  swap_summaries : (r : Register) (l upto old new : ℕ) → OfSummaries P r → OfSummaries P (swap r l upto old new).register
  swap_summaries r l upto old new h = elim (swap_leaves r l upto old new) [ inl s ↦ same_summaries r (swap r l upto old new).register s h | inr s ↦ put_summaries r (swap r l upto old new).register l (swapped_epochs (epochs_of r l) upto old new) (λ e y f. h l e y f) s h ]

  activate_summaries : (r : Register) (l : ℕ) (p : Spec) → OfSummaries P r → OfSummaries P (activate r l p).register
  activate_summaries r l p h = elim (activate_leaves r l p) [ inl s ↦ same_summaries r (activate r l p).register s h | inr s ↦ put_summaries r (activate r l p).register l (next_epoch (epochs_of r l) p) (λ e y f. h l e y f) s.1 h ]

  draw_summaries : (r : Register) (n : ℕ) → OfSummaries P r → OfSummaries P (draw r n).register
  draw_summaries r n h = elim (draw_leaves r n) [ inl s ↦ same_summaries r (draw r n).register s h | inr s ↦ (λ l e y f. h l e y (ap (λ m. find e (unwrap_or (find l m) no_epochs).summaries) (sym s.0) ∙ f)) ]

  close_called : (r : Register) (looks : ℕ → View) (a : Acts) (e : ℕ) (y : Summary) (short : Bool) → (lce_of r a.sequencer.log + 1 ≡ e → is_overtaken (epochs_of r a.sequencer.log) y short ≡ false → P a.sequencer.log e y) → OfSummaries P r → Closing r looks a e y short (λ k. OfSummaries P k.register)
  close_called r looks a e y short t h = let z = close_summaries r a.sequencer.log e y short t h in record {
    granted = λ n i o j. subst (λ (d : Changed). OfSummaries P d.register) j z;
    passed = λ i. h;
    behind = λ b i. h;
    overtaken = λ i o. h;
    failed = λ n j. subst (λ (d : Changed). OfSummaries P d.register) j z;
  }

module _ (c : Config) (s : State) (e : Move) (P : ℕ → ℕ → Summary → Type 0) (h : OfSummaries P s.register)
    (closes : (name : List ℕ) (q : Sequencer) (v : Recovery) (y : Summary) (short : Bool) → Live s name q → q.recovery ≡ Some v → Ending q (HeardOf s q) v y short → lce_of s.register q.log + 1 ≡ v.epoch → is_overtaken (epochs_of s.register q.log) y short ≡ false → P q.log v.epoch y) where
  acting : (name : List ℕ) (q : Sequencer) → Live s name q → (y : ℕ) (b : Body) → HeardOf s q y b → Acting c s.register (gone_of s q) q y b (λ k m. OfSummaries P k.register)
  acting name q live y b H = record {
    quiet = h;
    sealed = λ n k f i l. h;
    cleaned_own = λ n s f i g. h;
    acks = λ n p f i g k m. h;
    lost_own = λ n round g end f i k. h;
    cleaned = λ v n s f e i k. h;
    asks_more = λ v d asks f g a n u. h;
    plans = λ v d loss f g p. h;
    looks_closed = λ v d z f g u o. h;
    looks_later = λ v d f g u o n. h;
    stores_on = λ v g f k t. h;
    closes_now = λ v g f k t. let d = ending_of q (HeardOf s q) y b v g H k t in close_called P s.register _ _ v.epoch _ _ (λ j o. subst (λ e. P q.log e (summary_of q.epoch g)) (sym d.epoch) (closes name q d.recovery _ _ live d.there d.ending (j ∙ d.epoch) o)) h;
    lost_closing = λ v z short n round g end f e i k j. h;
  }

  retrying : (name : List ℕ) (q : Sequencer) → Live s name q → Retrying c s.register (gone_of s q) q (λ k m. OfSummaries P k.register)
  retrying name q live = record {
    quiet = h;
    appends = λ f. h;
    seals = λ v d f e i u. h;
    plans = λ v d f e i p. h;
    looks_closed = λ v d z f e i u o. h;
    looks_later = λ v d f e i u o n. h;
    stores_on = λ v g f e i t. h;
    closes_now = λ v g f e i t. close_called P s.register _ _ v.epoch _ _ (λ j o. closes name q v _ _ live e (ends_ready g i t refl refl) j o) h;
    closes = λ v y short f e i. close_called P s.register _ _ v.epoch y short (λ j o. closes name q v y short live e (ends_again i) j o) h;
  }

  handled : (f : List ℕ) (n : ℕ) (m : Msg) (x : Node) (o : Option Op) (b : Option Body) → OfSummaries P (Step.handles (with_node (refreshed s f) n x) n m o b).state.register
  handled f n m x None b = h
  handled f n m x (Some o) b = h

  ticked : (n l : ℕ) (t : Ticked) → OfSummaries P (Step.ticks_as c s n l t).state.register
  ticked n l (Cleans k y) = h
  ticked n l Rebuilt = h
  ticked n l (Asks from) = h
  ticked n l Nothing = h

  summary_cases : Cases c s e (λ d m. OfSummaries P d.state.register)
  summary_cases = record {
    still = λ f older i. h;
    says = λ x q. h;
    node_hears = λ f older n m i t v o. handled f n m (Step.releases (node_at s n) m.log m.body) (Step.node_handles n (node_at s n) m).op (Step.node_handles n (node_at s n) m).answer;
    loads = λ n ls q b o. h;
    draw_fails = λ n b. draw_summaries P s.register n h;
    formats = λ n r g b v i. subst (λ (d : Changed). OfSummaries P d.register) i (draw_summaries P s.register n h);
    ticks = λ n l t v i o. ticked n l t;
    stops = λ n b. h;
    wipes = λ n. h;
    faults = λ n f o. h;
    sets = λ l r x set i. h;
    arms = λ k done o. h;
    hears = λ f older name q m i t l v o. replied c s name q v.there (Step.sender_node m.from) m.body (λ k n. OfSummaries P k.register) (acting name q v (Step.sender_node m.from) m.body (record { message = m; sent = i; to = t; log = l; from = refl; body = refl }));
    retries = λ again name q v o. retried c s q v.there (λ k n. OfSummaries P k.register) (retrying name q v);
    appends = λ name q p v a i. h;
    trims = λ name q t v b. h;
    drops = λ name q v o. h;
    activates = λ name l r g n i x. subst (λ (d : Changed). OfSummaries P d.register) i (activate_summaries P s.register l (Step.spec_set c s l) h);
    swaps = λ n m l x r q i. swap_summaries P s.register l _ m n h;
    activate_fails = λ name l x g q. activate_summaries P s.register l (Step.spec_set c s l) h;
    answers = λ f older name d m i t v o. h;
    polls = λ name d v o. h;
    opens = λ style name l from until o x. h;
  }

  -- each summary after the step
  pub summaries_after : NamesOnce s → OfSummaries P (Calm.moves c s e).state.register
  summaries_after N = dispatch c s e (λ d m. OfSummaries P d.state.register) N summary_cases
