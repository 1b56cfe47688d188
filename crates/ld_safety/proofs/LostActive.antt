-- An epoch that is closed at the register has an active line of its log with at least this epoch.
use Rattle.std.proofs.Common.{Bool, ◌≡◌, ◌∙◌, ◌≤◌, ◌<◌, ℕ, inl, inr, ap, sym, subst, true, ◌==◌, List, ◌++◌, Some, arith}
use Rattle.std.specs.Option.{unwrap_or}
use Rattle.std.proofs.lemmas.Bool.{and_parts, and_from, leb-true, le-leb}
use Rattle.ld_table.specs.Table.{find}
use Rattle.ld_table.specs.Named.{find_named, put_named}
use Rattle.ld_table.specs.Words.{any_of}
use Rattle.ld_table.proofs.Laws.{put_cases}
use Rattle.ld_config.specs.declared.config.Config.{Config}
use Rattle.ld_schedule.specs.declared.event.Event.{Event}
use Rattle.ld_schedule.specs.declared.event.Event.TheVariants as events
use Rattle.ld_transcript.specs.declared.line.Line.{Line}
use Rattle.ld_transcript.specs.declared.line.Line.TheVariants as lines
use Rattle.ld_ids.specs.declared.set.Spec.{Spec}
use Rattle.ld_msg.specs.declared.msg.Summary.{Summary}
use Rattle.ld_msg.specs.declared.msg.Body.{Body}
use Rattle.ld_msg.specs.Register.{swap, swapped_epochs, Register, View, Epochs, Changed, no_epochs, epochs_of, with_epochs, next_epoch, closed_epochs, activate, close, draw}
use Rattle.ld_msg.specs.Sequencer.{Sequencer, Acts, Recovery}
use Rattle.ld_machine.specs.Facts.{Happened, active_line, activates_log, has_epoch}
use Rattle.ld_safety.proofs.Lists.{any_in, any_from, In_left}
use Rattle.ld_safety.proofs.RegisterSteps.{Same, activate_leaves, close_leaves, draw_leaves, swap_leaves, epochs_put, epochs_same}
use Rattle.ld_safety.proofs.SequencerSteps.{Closing, Acting, Retrying, stored_epoch}
use Rattle.ld_safety.proofs.LostRounds.{found_in}

-- ---- words on lines ----
pub epoch_grows : (l e : ℕ) (hs gs : List Happened) → has_epoch l e hs ≡ true → has_epoch l e (hs ++ gs) ≡ true
epoch_grows l e hs gs h = let k = any_in (λ (x : Happened). activates_log l e x.lines x.event) hs h in any_from (λ (x : Happened). activates_log l e x.lines x.event) k.0 (hs ++ gs) (In_left k.0 hs gs k.1) k.2

lower_line : (k e : ℕ) (x : Line) → k ≤ e → active_line e x ≡ true → active_line k x ≡ true
lower_line k e (lines.Active name epoch) h a = let z = leb-true e epoch a in le-leb k epoch (omega arith)
lower_line k e _ h a = absurd cc

lower_step : (l k e : ℕ) (ls : List Line) (v : Event) → k ≤ e → activates_log l e ls v ≡ true → activates_log l k ls v ≡ true
lower_step l k e ls (events.Activate name j) h a = let p = and_parts (j == l) (any_of (active_line e) ls) a in let x = any_in (active_line e) ls p.1 in and_from (j == l) (any_of (active_line k) ls) p.0 (any_from (active_line k) x.0 ls x.1 (lower_line k e x.0 h x.2))
lower_step l k e ls _ h a = absurd cc

pub epoch_lower : (l k e : ℕ) (hs : List Happened) → k ≤ e → has_epoch l e hs ≡ true → has_epoch l k hs ≡ true
epoch_lower l k e hs h a = let x = any_in (λ (y : Happened). activates_log l e y.lines y.event) hs a in any_from (λ (y : Happened). activates_log l k y.lines y.event) x.0 hs x.1 (lower_step l k e x.0.lines x.0.event h x.2)

-- ---- the register and the sequencers ----
module _ (c : Config) (hs : List Happened) where
  abbrev pub ClosedActive : Register → Type 0
  ClosedActive r = (l e : ℕ) (y : Summary) → find e (epochs_of r l).summaries ≡ Some y → has_epoch l e hs ≡ true

  abbrev pub AllActive : List (List ℕ × Sequencer) → Type 0
  AllActive qs = (t : List ℕ) (q : Sequencer) → find_named t qs ≡ Some q → has_epoch q.log q.epoch hs ≡ true

  same_closed : (r n : Register) → Same r n → ClosedActive r → ClosedActive n
  same_closed r n s h l e y f = h l e y (ap (λ (z : Epochs). find e z.summaries) (sym (epochs_same r n l s)) ∙ f)

  put_closed : (r n : Register) (l : ℕ) (x : Epochs) → ((e : ℕ) (y : Summary) → find e x.summaries ≡ Some y → has_epoch l e hs ≡ true) → Same (with_epochs r l x) n → ClosedActive r → ClosedActive n
  put_closed r n l x a s h k e y f = elim (epochs_put r l k x) [
    | inl p ↦ subst (λ j. has_epoch j e hs ≡ true) (sym p.0) (a e y (ap (λ (z : Epochs). find e z.summaries) (sym (epochs_same (with_epochs r l x) n k s ∙ p.1)) ∙ f))
    | inr p ↦ h k e y (ap (λ (z : Epochs). find e z.summaries) (sym (epochs_same (with_epochs r l x) n k s ∙ p.1)) ∙ f)
  ]

  close_closed : (r : Register) (l e : ℕ) (y : Summary) (b : Bool) → has_epoch l e hs ≡ true → ClosedActive r → ClosedActive (close r l e y b).register
  close_closed r l e y b t h = elim (close_leaves r l e y b) [
    | inl s ↦ same_closed r (close r l e y b).register s h
    | inr s ↦ put_closed r (close r l e y b).register l (closed_epochs (epochs_of r l) e y) (λ k z f. elim (put_cases k e y (epochs_of r l).summaries) [
      | inl a ↦ subst (λ j. has_epoch l j hs ≡ true) (sym a.0) t
      | inr a ↦ h l k z (sym a.1 ∙ f)
    ]) s.1 h
  ]

  pub swap_closed : (r : Register) (l upto old new : ℕ) → ClosedActive r → ClosedActive (swap r l upto old new).register
  swap_closed r l upto old new h = elim (swap_leaves r l upto old new) [ inl s ↦ same_closed r (swap r l upto old new).register s h | inr s ↦ put_closed r (swap r l upto old new).register l (swapped_epochs (epochs_of r l) upto old new) (λ e y f. h l e y f) s h ]

  pub activate_closed : (r : Register) (l : ℕ) (p : Spec) → ClosedActive r → ClosedActive (activate r l p).register
  activate_closed r l p h = elim (activate_leaves r l p) [ inl s ↦ same_closed r (activate r l p).register s h | inr s ↦ put_closed r (activate r l p).register l (next_epoch (epochs_of r l) p) (λ e y f. h l e y f) s.1 h ]

  pub logs_closed : (r n : Register) → n.logs ≡ r.logs → ClosedActive r → ClosedActive n
  logs_closed r n q h l e y f = h l e y (ap (λ m. find e (unwrap_or (find l m) no_epochs).summaries) (sym q) ∙ f)

  pub draw_closed : (r : Register) (n : ℕ) → ClosedActive r → ClosedActive (draw r n).register
  draw_closed r n h = elim (draw_leaves r n) [ inl s ↦ logs_closed r (draw r n).register s.0 h | inr s ↦ logs_closed r (draw r n).register s.0 h ]

  close_called : (r : Register) (looks : ℕ → View) (a : Acts) (e : ℕ) (y : Summary) (short : Bool) → has_epoch a.sequencer.log e hs ≡ true → ClosedActive r → Closing r looks a e y short (λ k. ClosedActive k.register)
  close_called r looks a e y short t h = let z = close_closed r a.sequencer.log e y short t h in record {
    granted = λ n i o j. subst (λ (d : Changed). ClosedActive d.register) j z;
    passed = λ i. h;
    behind = λ b i. h;
    overtaken = λ i o. h;
    failed = λ n j. subst (λ (d : Changed). ClosedActive d.register) j z;
  }

  module _ (r : Register) (h : ClosedActive r) (q : Sequencer) (A : has_epoch q.log q.epoch hs ≡ true) (B : (v : Recovery) → q.recovery ≡ Some v → v.epoch < q.epoch) where
    lower : (v : Recovery) → q.recovery ≡ Some v → has_epoch q.log v.epoch hs ≡ true
    lower v e = epoch_lower q.log v.epoch q.epoch hs (let z = B v e in omega arith) A

    pub acting_closed : (gone : Recovery → List ℕ) (y : ℕ) (b : Body) → Acting c r gone q y b (λ k m. ClosedActive k.register)
    acting_closed gone y b = record {
      quiet = h;
      sealed = λ n k f i l. h;
      cleaned_own = λ n s f i g. h;
      acks = λ n p f i g k m. h;
      lost_own = λ n round g end f i k. h;
      cleaned = λ v n s f e i k. h;
      asks_more = λ w d asks f H g n u. h;
      plans = λ w d loss f H p. h;
      looks_closed = λ w d s f H u o. h;
      looks_later = λ w d f H u o n. h;
      stores_on = λ w g f H t. h;
      closes_now = λ w g f H t. close_called r _ _ w.epoch _ _ (stored_epoch q y b w g (λ k. has_epoch q.log k hs ≡ true) lower H) h;
      lost_closing = λ v s short n round g end f e i j k. h;
    }

    pub retrying_closed : (gone : Recovery → List ℕ) → Retrying c r gone q (λ k m. ClosedActive k.register)
    retrying_closed gone = record {
      quiet = h;
      appends = λ f. h;
      seals = λ v d f e i u. h;
      plans = λ v d f e i p. h;
      looks_closed = λ v d s f e i u o. h;
      looks_later = λ v d f e i u o n. h;
      stores_on = λ v g f e i t. h;
      closes_now = λ v g f e i t. close_called r _ _ v.epoch _ _ (lower v e) h;
      closes = λ v y short f e i. close_called r _ _ v.epoch y short (lower v e) h;
    }

  pub put_active : (name : List ℕ) (q : Sequencer) (qs : List (List ℕ × Sequencer)) → has_epoch q.log q.epoch hs ≡ true → AllActive qs → AllActive (put_named name q qs)
  put_active name q qs a h t z f = elim (found_in t name q z qs f) [ inl p ↦ subst (λ (y : Sequencer). has_epoch y.log y.epoch hs ≡ true) p.1 a | inr p ↦ h t z p.1 ]
