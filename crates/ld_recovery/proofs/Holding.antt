-- A recovery as its fields hold it.
use Rattle.std.proofs.Common.{◌≡◌, ℕ, Bool, true, false, Some, List, [], if◌then◌else◌, refl, ap, sym, ◌∙◌}
use Rattle.ld_table.specs.Words.{with_one}
use Rattle.ld_ids.specs.declared.set.Spec.{Spec}
use Rattle.ld_msg.specs.declared.msg.Body.{Body}
use Rattle.ld_lsn.specs.Number.{epoch_of}
use Rattle.ld_msg.specs.declared.msg.Entry.{Entry}
use Rattle.ld_msg.specs.declared.msg.Body.TheVariants as bodies
use Rattle.ld_msg.specs.declared.msg.Summary.{Summary}
use Rattle.ld_msg.specs.declared.msg.Who.TheVariants as whos
use Rattle.ld_msg.specs.Network.{posted}
use Rattle.ld_recovery.specs.declared.send.Sender.{Sender}
use Rattle.ld_recovery.specs.Sending.{sent}
use Rattle.ld_msg.specs.Digest.{with_lost, with_asks, plan, is_spent}
use Rattle.ld_msg.specs.Sequencer as sequencer
use Rattle.ld_msg.specs.Sequencer.{settled_by, lost_stage, storing_of, planned, item_stores, next_try, next_wave, digest_asks}
use Rattle.ld_recovery.specs.declared.stage.Stage.{Stage}
use Rattle.ld_recovery.specs.declared.stage.Stage.TheVariants.{Seals, Stores, Closes, Stopped}
use Rattle.ld_recovery.specs.declared.recovery.Ending as declared
use Rattle.ld_recovery.specs.declared.state.State.TheVariants as states
use Rattle.ld_recovery.specs.Recovering.{Recovering, Ending, Goes, IsDone, IsGone, IsPreempted, is_going, going, Closing, replied, reply_messages, messages, losing, loss_messages, retried, retry_messages}
use Rattle.ld_digest.specs.Gathering.{Gathering}
use Rattle.ld_recovery.specs.Stages.{shown, IsOf, settled, loss_stage, loss_sends, gathering_of, lossy_stage, lossy_sends, retried_stage, retry_sends, page_stage, page_sends}
use Rattle.ld_recovery.specs.States.{shown_ending, summary_in, state_by, state_of}
use Rattle.ld_recovery.proofs.Replies.{Replied, with_stage, closed_in, gathered_in, gathered_out, settled_in, lost_in, lost_out, lost_too, again, again_sends, retried_is, retry_sent, page_in, page_out, page_here}

abbrev pub held : Spec → ℕ → ℕ → List ℕ → Stage → declared.Ending → Recovering
held spec epoch ballot lost s e = record { ballot = ballot; recovery = record { epoch = epoch; spec = spec; lost = lost; stage = shown s }; ending = shown_ending e }

settled_is : (spec : Spec) (epoch ballot : ℕ) (lost : List ℕ) (p : ℕ → Bool) (y : ℕ) (s : Stage) → IsOf spec epoch ballot s → settled ballot lost p y s ≡ settled_in spec lost ballot p y (shown s)
settled_is spec epoch ballot lost p y (Seals d) h = refl
settled_is spec epoch ballot lost p y (Stores g) h = ap (λ (x : Spec). closed_in x lost ballot (settled_by p y g.storing)) h
settled_is spec epoch ballot lost p y (Closes z short) h = refl
settled_is spec epoch ballot lost p y Stopped h = refl

-- a recovery whose stage is this one now
abbrev held_at : Spec → ℕ → ℕ → List ℕ → sequencer.Stage → Ending → Recovering
held_at spec epoch ballot lost s e = record { ballot = ballot; recovery = record { epoch = epoch; spec = spec; lost = lost; stage = s }; ending = e }

-- what a stage shows is what comes of a call
held_is : (spec : Spec) (epoch ballot : ℕ) (lost : List ℕ) (t : Stage) (e : declared.Ending) (s : sequencer.Stage) (r : Recovering) → shown_ending e ≡ Goes → shown t ≡ s → r ≡ held_at spec epoch ballot lost s Goes → held spec epoch ballot lost t e ≡ r
held_is spec epoch ballot lost t e s r h m i = ap (λ (x : sequencer.Stage). held_at spec epoch ballot lost x (shown_ending e)) m ∙ (ap (λ (x : Ending). held_at spec epoch ballot lost s x) h ∙ sym i)

pub settle_value : (spec : Spec) (epoch ballot : ℕ) (lost : List ℕ) (s t : Stage) (e : declared.Ending) (p : ℕ → Bool) (y : ℕ) (b : Body) → shown_ending e ≡ Goes → IsOf spec epoch ballot s → shown t ≡ settled ballot lost p y s
    → Replied (held spec epoch ballot lost s e) y b (going (held spec epoch ballot lost s e) (with_stage (held spec epoch ballot lost s e).recovery (settled_in spec lost ballot p y (shown s)))) []
    → held spec epoch ballot lost t e ≡ replied (held spec epoch ballot lost s e) y b
settle_value spec epoch ballot lost s t e p y b h o m i = held_is spec epoch ballot lost t e (settled_in spec lost ballot p y (shown s)) (replied (held spec epoch ballot lost s e) y b) h (m ∙ settled_is spec epoch ballot lost p y s o) i.value

pub sent_is : (s : Sender) (r : Recovering) (bs : List (ℕ × Body)) → s.log ≡ r.recovery.spec.log → s.epoch ≡ r.ballot → sent s bs ≡ messages r bs
sent_is s r bs h k = ap (λ (l : ℕ). posted (whos.Sequencer s.epoch) l bs) h ∙ ap (λ (e : ℕ). posted (whos.Sequencer e) r.recovery.spec.log bs) k

pub one_summary : (s y : Summary) (short : Bool) (t : sequencer.Stage) → Some s ≡ summary_in t → t ≡ sequencer.Closes y short → s ≡ y
one_summary s y short t h e = let k : Some s ≡ Some y = h ∙ ap summary_in e in cc

none_asked : (epoch : ℕ) → sequencer.Seals [] ≡ sequencer.Seals (with_asks epoch [])
unfolding with_asks
none_asked epoch = refl

none_again : (epoch : ℕ) (b : Bool) → sequencer.Seals [] ≡ (if b then sequencer.Seals [] else sequencer.Seals (with_asks epoch []))
none_again epoch true = refl
none_again epoch false = none_asked epoch

again_shown : (spec : Spec) (epoch ballot : ℕ) (lost : List ℕ) (s : Stage) → IsOf spec epoch ballot s → retried_stage ballot lost s ≡ again spec epoch lost ballot (shown s)
again_shown spec epoch ballot lost (Seals d) h = ap (λ (x : Spec). again x d.epoch lost ballot (sequencer.Seals d.told)) h.0 ∙ ap (λ (e : ℕ). again spec e lost ballot (sequencer.Seals d.told)) h.1
again_shown spec epoch ballot lost (Stores g) h = ap (λ (x : Spec). closed_in x lost ballot (next_try g.storing)) h
again_shown spec epoch ballot lost (Closes y short) h = refl
again_shown spec epoch ballot lost Stopped h = none_again epoch (is_spent spec [])

none_asks : (epoch : ℕ) → [] ≡ digest_asks (with_asks epoch [])
unfolding with_asks
none_asks epoch = refl

none_again_asks : (epoch : ℕ) (b : Bool) → [] ≡ (if b then [] else digest_asks (with_asks epoch []))
none_again_asks epoch true = refl
none_again_asks epoch false = none_asks epoch

again_told : (spec : Spec) (epoch ballot : ℕ) (lost : List ℕ) (s : Stage) → IsOf spec epoch ballot s → retry_sends lost s ≡ again_sends spec epoch lost (shown s)
again_told spec epoch ballot lost (Seals d) h = ap (λ (x : Spec). again_sends x d.epoch lost (sequencer.Seals d.told)) h.0 ∙ ap (λ (e : ℕ). again_sends spec e lost (sequencer.Seals d.told)) h.1
again_told spec epoch ballot lost (Stores g) h = ap (λ (x : Spec). item_stores x lost g.storing.loss g.storing.lng (next_wave g.storing.wave) g.storing.items) h
again_told spec epoch ballot lost (Closes y short) h = refl
again_told spec epoch ballot lost Stopped h = none_again_asks epoch (is_spent spec [])

pub retry_value : (spec : Spec) (epoch ballot : ℕ) (lost : List ℕ) (s t : Stage) (e : declared.Ending) → shown_ending e ≡ Goes → IsOf spec epoch ballot s → shown t ≡ retried_stage ballot lost s → held spec epoch ballot lost t e ≡ retried (held spec epoch ballot lost s e)
retry_value spec epoch ballot lost s t e h o m = held_is spec epoch ballot lost t e (again spec epoch lost ballot (shown s)) (retried (held spec epoch ballot lost s e)) h (m ∙ again_shown spec epoch ballot lost s o) (retried_is (held spec epoch ballot lost s e) h)

pub retry_sends_are : (spec : Spec) (epoch ballot : ℕ) (lost : List ℕ) (s : Stage) (e : declared.Ending) (x : Sender) → shown_ending e ≡ Goes → IsOf spec epoch ballot s → x.log ≡ spec.log → x.epoch ≡ ballot → sent x (retry_sends lost s) ≡ retry_messages (held spec epoch ballot lost s e)
retry_sends_are spec epoch ballot lost s e x h o l b = ap (sent x) (again_told spec epoch ballot lost s o) ∙ (sent_is x (held spec epoch ballot lost s e) (again_sends spec epoch lost (shown s)) l b ∙ sym (retry_sent (held spec epoch ballot lost s e) h))

pub goes_if : (e : Ending) → true ≡ is_going e → e ≡ Goes
goes_if Goes h = refl
goes_if (IsDone s) h = absurd cc
goes_if (IsGone l) h = absurd cc
goes_if (IsPreempted k) h = absurd cc

page_shown : (spec : Spec) (epoch ballot y from upto trim lng : ℕ) (es : List Entry) (s : Stage) → IsOf spec epoch ballot s → page_stage s y from upto trim lng es ≡ page_in spec epoch y from upto trim lng es (shown s)
page_shown spec epoch ballot y from upto trim lng es (Seals d) h =
    ap (λ (x : Spec). page_in x d.epoch y from upto trim lng es (sequencer.Seals d.told)) h.0 ∙ ap (λ (n : ℕ). page_in spec n y from upto trim lng es (sequencer.Seals d.told)) h.1
page_shown spec epoch ballot y from upto trim lng es (Stores g) h = refl
page_shown spec epoch ballot y from upto trim lng es (Closes z short) h = refl
page_shown spec epoch ballot y from upto trim lng es Stopped h = refl

page_asks : (spec : Spec) (epoch ballot : ℕ) (lost : List ℕ) (y from upto trim lng : ℕ) (es : List Entry) (s : Stage) → IsOf spec epoch ballot s → page_sends lost s y from upto trim lng es ≡ page_out spec epoch lost y from upto trim lng es (shown s)
page_asks spec epoch ballot lost y from upto trim lng es (Seals d) h =
    ap (λ (x : Spec). page_out x d.epoch lost y from upto trim lng es (sequencer.Seals d.told)) h.0 ∙ ap (λ (n : ℕ). page_out spec n lost y from upto trim lng es (sequencer.Seals d.told)) h.1
page_asks spec epoch ballot lost y from upto trim lng es (Stores g) h = refl
page_asks spec epoch ballot lost y from upto trim lng es (Closes z short) h = refl
page_asks spec epoch ballot lost y from upto trim lng es Stopped h = refl

pub page_value : (spec : Spec) (epoch ballot : ℕ) (lost : List ℕ) (s t : Stage) (e : declared.Ending) (y from upto trim lng : ℕ) (es : List Entry) → shown_ending e ≡ Goes → IsOf spec epoch ballot s → epoch_of from ≡ epoch → shown t ≡ page_stage s y from upto trim lng es
    → held spec epoch ballot lost t e ≡ replied (held spec epoch ballot lost s e) y (bodies.DigestPage from upto trim lng es)
page_value spec epoch ballot lost s t e y from upto trim lng es h o n m =
    held_is spec epoch ballot lost t e (page_in spec epoch y from upto trim lng es (shown s)) (replied (held spec epoch ballot lost s e) y (bodies.DigestPage from upto trim lng es)) h (m ∙ page_shown spec epoch ballot y from upto trim lng es s o)
    (page_here (held spec epoch ballot lost s e) y from upto trim lng es h n).value

pub page_sends_are : (spec : Spec) (epoch ballot : ℕ) (lost : List ℕ) (s : Stage) (e : declared.Ending) (x : Sender) (y from upto trim lng : ℕ) (es : List Entry) → shown_ending e ≡ Goes → IsOf spec epoch ballot s → epoch_of from ≡ epoch → x.log ≡ spec.log → x.epoch ≡ ballot
    → sent x (page_sends lost s y from upto trim lng es) ≡ reply_messages (held spec epoch ballot lost s e) y (bodies.DigestPage from upto trim lng es)
page_sends_are spec epoch ballot lost s e x y from upto trim lng es h o n l b =
    ap (sent x) (page_asks spec epoch ballot lost y from upto trim lng es s o)
    ∙ (sent_is x (held spec epoch ballot lost s e) (page_out spec epoch lost y from upto trim lng es (shown s)) l b ∙ sym (page_here (held spec epoch ballot lost s e) y from upto trim lng es h n).sent)

-- ---- a node that is lost ----

loss_shown : (spec : Spec) (epoch ballot : ℕ) (lost : List ℕ) (y : ℕ) (s : Stage) → IsOf spec epoch ballot s → loss_stage spec epoch ballot lost y s ≡ lost_in spec epoch ballot lost y (shown s)
loss_shown spec epoch ballot lost y (Seals d) h = ap (λ (x : Spec). gathered_in x d.epoch (with_lost y d.told)) h.0 ∙ ap (λ (n : ℕ). gathered_in spec n (with_lost y d.told)) h.1
loss_shown spec epoch ballot lost y (Stores g) h = ap (λ (x : Spec). closed_in x lost ballot g.storing) h
loss_shown spec epoch ballot lost y (Closes z short) h = refl
loss_shown spec epoch ballot lost y Stopped h = refl

loss_told : (spec : Spec) (epoch ballot : ℕ) (lost : List ℕ) (y : ℕ) (s : Stage) → IsOf spec epoch ballot s → loss_sends spec epoch lost y s ≡ lost_out spec epoch lost y (shown s)
loss_told spec epoch ballot lost y (Seals d) h = ap (λ (x : Spec). gathered_out x d.epoch lost (with_lost y d.told) []) h.0 ∙ ap (λ (n : ℕ). gathered_out spec n lost (with_lost y d.told) []) h.1
loss_told spec epoch ballot lost y (Stores g) h = refl
loss_told spec epoch ballot lost y (Closes z short) h = refl
loss_told spec epoch ballot lost y Stopped h = refl

module _ (spec : Spec) (epoch ballot : ℕ) (lost more : List ℕ) (s : Stage) (e : declared.Ending) (y n round gen end : ℕ) (h : shown_ending e ≡ Goes) (o : IsOf spec epoch ballot s) (k : more ≡ with_one y lost)
    (i : Replied (held spec epoch ballot lost s e) y (bodies.LostHere n round gen end) (going (held spec epoch ballot lost s e) (with_stage (lost_too (held spec epoch ballot lost s e) y) (lost_in spec epoch ballot (with_one y lost) y (shown s)))) (lost_out spec epoch (with_one y lost) y (shown s))) where
  pub loss_value : (t : Stage) → shown t ≡ loss_stage spec epoch ballot more y s → held spec epoch ballot more t e ≡ replied (held spec epoch ballot lost s e) y (bodies.LostHere n round gen end)
  loss_value t m =
      held_is spec epoch ballot more t e (lost_in spec epoch ballot more y (shown s)) (replied (held spec epoch ballot lost s e) y (bodies.LostHere n round gen end)) h (m ∙ loss_shown spec epoch ballot more y s o)
      (i.value ∙ ap (λ (l : List ℕ). held_at spec epoch ballot l (lost_in spec epoch ballot l y (shown s)) Goes) (sym k))

  pub loss_sends_are : (x : Sender) → x.log ≡ spec.log → x.epoch ≡ ballot → sent x (loss_sends spec epoch more y s) ≡ reply_messages (held spec epoch ballot lost s e) y (bodies.LostHere n round gen end)
  loss_sends_are x l b =
      ap (sent x) (loss_told spec epoch ballot more y s o ∙ ap (λ (l : List ℕ). lost_out spec epoch l y (shown s)) k)
      ∙ (sent_is x (held spec epoch ballot lost s e) (lost_out spec epoch (with_one y lost) y (shown s)) l b ∙ sym i.sent)

-- ---- a plan that says what is lost ----

pub lossy_value : (spec : Spec) (epoch ballot : ℕ) (lost : List ℕ) (s t : Stage) (e : declared.Ending) → shown_ending e ≡ Goes → IsOf spec epoch ballot s → shown t ≡ lossy_stage (gathering_of spec epoch s) → held spec epoch ballot lost t e ≡ losing (held spec epoch ballot lost s e)
lossy_value spec epoch ballot lost (Seals d) t e h o m = held_is spec epoch ballot lost t e (sequencer.Stores (storing_of (plan epoch true d.told))) (losing (held spec epoch ballot lost (Seals d) e)) h (m ∙ ap (λ (n : ℕ). sequencer.Stores (storing_of (plan n true d.told))) o.1) refl
lossy_value spec epoch ballot lost (Stores g) t e h o m = held_is spec epoch ballot lost t e (sequencer.Stores (storing_of (plan epoch true []))) (losing (held spec epoch ballot lost (Stores g) e)) h m refl
lossy_value spec epoch ballot lost (Closes y short) t e h o m = held_is spec epoch ballot lost t e (sequencer.Stores (storing_of (plan epoch true []))) (losing (held spec epoch ballot lost (Closes y short) e)) h m refl
lossy_value spec epoch ballot lost Stopped t e h o m = held_is spec epoch ballot lost t e (sequencer.Stores (storing_of (plan epoch true []))) (losing (held spec epoch ballot lost Stopped e)) h m refl

abbrev lossy_out : Spec → ℕ → List ℕ → Gathering → List (ℕ × Body)
lossy_out spec epoch lost d = item_stores spec lost true (plan epoch true d.told).lng 0 (planned (plan epoch true d.told).items)

lossy_told : (spec : Spec) (epoch ballot : ℕ) (lost : List ℕ) (s : Stage) → IsOf spec epoch ballot s → lossy_sends lost (gathering_of spec epoch s) ≡ lossy_out spec epoch lost (gathering_of spec epoch s)
lossy_told spec epoch ballot lost (Seals d) h = ap (λ (x : Spec). lossy_out x d.epoch lost d) h.0 ∙ ap (λ (n : ℕ). lossy_out spec n lost d) h.1
lossy_told spec epoch ballot lost (Stores g) h = refl
lossy_told spec epoch ballot lost (Closes y short) h = refl
lossy_told spec epoch ballot lost Stopped h = refl

losing_out : (spec : Spec) (epoch ballot : ℕ) (lost : List ℕ) (s : Stage) (e : declared.Ending) → messages (held spec epoch ballot lost s e) (lossy_out spec epoch lost (gathering_of spec epoch s)) ≡ loss_messages (held spec epoch ballot lost s e)
unfolding plan
losing_out spec epoch ballot lost (Seals d) e = refl
losing_out spec epoch ballot lost (Stores g) e = refl
losing_out spec epoch ballot lost (Closes y short) e = refl
losing_out spec epoch ballot lost Stopped e = refl

pub lossy_sends_are : (spec : Spec) (epoch ballot : ℕ) (lost : List ℕ) (s : Stage) (e : declared.Ending) (x : Sender) → IsOf spec epoch ballot s → x.log ≡ spec.log → x.epoch ≡ ballot → sent x (lossy_sends lost (gathering_of spec epoch s)) ≡ loss_messages (held spec epoch ballot lost s e)
lossy_sends_are spec epoch ballot lost s e x o l b =
    ap (sent x) (lossy_told spec epoch ballot lost s o)
    ∙ (sent_is x (held spec epoch ballot lost s e) (lossy_out spec epoch lost (gathering_of spec epoch s)) l b ∙ losing_out spec epoch ballot lost s e)

-- ---- closing ----

closing_if : (e : Ending) (s : sequencer.Stage) (y : Summary) (short : Bool) → state_by e s ≡ states.Closing y short → (e ≡ Goes) × (s ≡ sequencer.Closes y short)
closing_if Goes (sequencer.Seals d) y short h = absurd cc
closing_if Goes (sequencer.Stores g) y short h = absurd cc
closing_if Goes (sequencer.Closes z b) y short h = let k : z ≡ y = cc in let l : b ≡ short = cc in (refl, ap (λ (x : Summary). sequencer.Closes x b) k ∙ ap (sequencer.Closes y) l)
closing_if (IsDone z) s y short h = absurd cc
closing_if (IsGone l) s y short h = absurd cc
closing_if (IsPreempted k) s y short h = absurd cc

-- a state that shows a close is one of a recovery that is closing
pub closing_is : (r : Recovering) (y : Summary) (short : Bool) → state_of r ≡ states.Closing y short → Closing r y short
closing_is r y short h = closing_if r.ending r.recovery.stage y short h
