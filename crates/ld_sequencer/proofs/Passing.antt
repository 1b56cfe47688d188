-- A reply behind a look, where one comes before it.
use Rattle.std.proofs.Common.{◌≡◌, ◌⊎◌, inr, ℕ, true, false, List, [], Option, is_some, Result, Ok, Err, IfOk, IfErr, OnOk, subst}
use Rattle.ld_ids.specs.declared.set.Spec.{Spec}
use Rattle.ld_msg.specs.declared.msg.Msg.{Msg}
use Rattle.ld_msg.specs.declared.msg.Who.{Who}
use Rattle.ld_msg.specs.declared.msg.Body.{Body}
use Rattle.ld_msg.specs.Register.{Register, View, look}
use Rattle.ld_msg.specs.Sequencer.{Attempt, Acts}
use Rattle.ld_register.specs.Calls.{ChangedOrNot}
use Rattle.ld_sequencer.specs.declared.report.Report.{Report}
use Rattle.ld_sequencer.specs.declared.fault.SequencerFault.{SequencerFault}
use Rattle.ld_sequencer.specs.Looks.{shows, IsShown}
use Rattle.ld_sequencer.specs.Register.{after_tries}
use Rattle.ld_sequencer.specs.Whole.{Whole, epoch_begun, spends_by, looks_of, reply_acts, called_by, Acted, IsRefused, Unlooked, Unseen}
use Rattle.ld_sequencer.proofs.Alike.{reply_alike, same_tries, refused_with}

-- ---- what was shown is what the sequencer's register shows ----

shown_as : (w : Whole) (b : Body) (c : Register) (first : Spec) (l : ℕ) (epoch : Option ℕ) (next : Spec) → first ≡ w.origin.first → l ≡ w.sequencer.log → epoch ≡ epoch_begun w b → IsShown (look first c l) epoch next → IsShown (looks_of w c) (epoch_begun w b) next
shown_as w b c first l epoch next f h e s =
    subst (λ (x : Spec). IsShown (look x c w.sequencer.log) (epoch_begun w b) next) f (subst (λ (n : ℕ). IsShown (look first c n) (epoch_begun w b) next) h (subst (λ (o : Option ℕ). IsShown (look first c l) o next) e s))

module _ (w n : Whole) (o on : List Msg) (who : Who) (b : Body) (next : Spec) (u : spends_by w who b ≡ false) where
  module _ (c : Register) (first : Spec) (l : ℕ) (epoch : Option ℕ) (f : first ≡ w.origin.first) (h : l ≡ w.sequencer.log) (e : epoch ≡ epoch_begun w b) (s : IsShown (look first c l) epoch next) where
    same_acts : reply_acts (shows next) w who b ≡ reply_acts (looks_of w c) w who b
    same_acts = reply_alike (looks_of w c) w who b next u (shown_as w b c first l epoch next f h e s)

    pub exact_by : (r : Result Report SequencerFault) (K : Register → Type 0)
        → IfOk r (λ report. Acted w n report o on (called_by w c (reply_acts (shows next) w who b)).acts × K (called_by w c (reply_acts (shows next) w who b)).register)
        → IfOk r (λ report. Acted w n report o on (called_by w c (reply_acts (looks_of w c) w who b)).acts × K (called_by w c (reply_acts (looks_of w c) w who b)).register)
    exact_by r K k = subst (λ (a : Acts). IfOk r (λ report. Acted w n report o on (called_by w c a).acts × K (called_by w c a).register)) same_acts k

    pub held_by_look : (r : Result Report SequencerFault) (K : Register → Type 0)
        → IfOk r (λ report. (is_some report.register ≡ true) ⊎ (Acted w n report o on (called_by w c (reply_acts (shows next) w who b)).acts × K (called_by w c (reply_acts (shows next) w who b)).register))
        → IfOk r (λ report. (is_some report.register ≡ true) ⊎ (Acted w n report o on (called_by w c (reply_acts (looks_of w c) w who b)).acts × K (called_by w c (reply_acts (looks_of w c) w who b)).register))
    held_by_look r K k = subst (λ (a : Acts). IfOk r (λ report. (is_some report.register ≡ true) ⊎ (Acted w n report o on (called_by w c a).acts × K (called_by w c a).register))) same_acts k

  pub passed_refused : (r : Result Report SequencerFault) → IfErr r (λ fault. IsRefused w n fault o on (reply_acts (shows next) w who b))
      → IfErr r (λ fault. Unseen w n fault o on b ⊎ Unlooked w n fault o on w.sequencer [] (λ looks. reply_acts looks w who b) ⊎ ((looks : ℕ → View) → IsRefused w n fault o on (reply_acts looks w who b)))
  passed_refused (Ok x) k = tt
  passed_refused (Err f) k = inr (inr (λ looks. refused_with w n f o on who b next looks u k))

  pub passed_room : (r : Result Report SequencerFault) (looks : ℕ → View) (Z : Type 0) → OnOk r (((reply_acts (shows next) w who b).tries ≡ []) ⊎ Z) → OnOk r (((reply_acts looks w who b).tries ≡ []) ⊎ Z)
  passed_room r looks Z k = subst (λ (ts : List Attempt). OnOk r ((ts ≡ []) ⊎ Z)) (same_tries (shows next) looks w who b u) k

  pub passed_changed : (looks : ℕ → View) (P Q R : Register → Type 0) → ((c : Register) → Q c → P c) → ChangedOrNot Q R (λ c. after_tries c w.sequencer.log (reply_acts (shows next) w who b).tries) → ChangedOrNot P R (λ c. after_tries c w.sequencer.log (reply_acts looks w who b).tries)
  passed_changed looks P Q R g k =
      subst (λ (ts : List Attempt). ChangedOrNot P R (λ c. after_tries c w.sequencer.log ts)) (same_tries (shows next) looks w who b u) (λ c h. let p = k c h in (p.0, g p.0 p.1, p.2))
