-- A call and the register's answer to its close.
use Rattle.std.proofs.Common.{◌≡◌, ◌⊎◌, inl, inr, ℕ, ◌+◌, Bool, true, false, nat_le, List, [], ◌∷◌, ◌++◌, append-nil, Option, Some, None, is_some, Result, Ok, Err, IfOk, if◌then◌else◌, refl, ap, sym, subst, ◌∙◌}
use Rattle.ld_ids.specs.declared.set.Spec.{Spec}
use Rattle.ld_msg.specs.declared.msg.Summary.{Summary}
use Rattle.ld_msg.specs.declared.msg.Msg.{Msg}
use Rattle.ld_msg.specs.declared.msg.Body.{Body}
use Rattle.ld_msg.specs.Register.{Register, View, Answer, Granted, AtLimit, Behind, Overtaken, Fails, Changed, is_crowded}
use Rattle.ld_msg.specs.Sequencer.{Sequencer, Recovery, Attempt, Acts, called, does_nothing, after_close, preempt, goes_on, acted_messages}
use Rattle.ld_sequencer.specs.declared.close.Due.{Due}
use Rattle.ld_sequencer.specs.declared.close.Tried.{Tried}
use Rattle.ld_register.specs.Calls.{ChangedOrNot}
use Rattle.ld_register.specs.Bounds.{IsSpecFor}
use Rattle.ld_sequencer.specs.Looks.{shows}
use Rattle.ld_sequencer.specs.Register.{after_tries, closes_due, left_by_due, answer_of, next_in, IsAnswer}
use Rattle.ld_sequencer.proofs.Alike.{close_alike}
use Rattle.ld_sequencer.specs.declared.report.Report.{Report}
use Rattle.ld_sequencer.specs.declared.fault.SequencerFault.{SequencerFault}
use Rattle.ld_sequencer.specs.Whole.{Whole, as_now, sent_as, with_recovery, attempt, attempts, closing_in, closing_of, due_acts, closed_acts, looks_of, tried, tried_with, called_by, Acted, IsFresh}
use Rattle.ld_sequencer.proofs.Doing.{same_quiet, quiet_acted}

-- ---- what a close doesn't ask for ----

abbrev pub trying : Acts → List Attempt → Acts
trying a ts = record a { tries = ts }

trying_if : (c : Bool) (a d : Acts) (ts : List Attempt) → (if c then trying a ts else trying d ts) ≡ trying (if c then a else d) ts
trying_if true a d ts = refl
trying_if false a d ts = refl

after_trying : (s : ℕ → View) (a : Acts) (ts : List Attempt) (e : ℕ) (y : Summary) (d : Answer) → after_close s (trying a ts) e y d ≡ trying (after_close s a e y d) ts
unfolding after_close
after_trying s a ts e y Granted = refl
after_trying s a ts e y AtLimit = refl
after_trying s a ts e y (Behind lce) = trying_if (nat_le a.sequencer.epoch lce) (preempt a (lce + 1)) (goes_on s a lce) ts
after_trying s a ts e y (Overtaken kept) = refl
after_trying s a ts e y Fails = refl

acted_trying : (w n : Whole) (r : Report) (old new : List Msg) (a : Acts) (ts : List Attempt) → Acted w n r old new a → Acted w n r old new (trying a ts)
acted_trying w n r old new a ts h = record { now = h.now; sent = h.sent; acked = h.acked; closed = h.closed; preempted = h.preempted; failed = h.failed; released = h.released }

-- ---- the close that is due ----

pub tries_due : (w : Whole) (j : Due) → closing_of w ≡ Some j → due_acts w ≡ trying (does_nothing w.sequencer) (attempt j ∷ [])
tries_due w j h = ap (λ (p : Option Due). trying (does_nothing w.sequencer) (attempts p)) h

pub tries_none : (w : Whole) → closing_of w ≡ None → due_acts w ≡ does_nothing w.sequencer
tries_none w h = ap (λ (p : Option Due). trying (does_nothing w.sequencer) (attempts p)) h

tried_trying : (looks : ℕ → View) (w n : Whole) (r : Report) (old new : List Msg) (a : Acts) (j : Due) (d : Answer) → Acted w n r old new (after_close looks a j.epoch j.summary d) → Acted w n r old new (tried looks (trying a (attempt j ∷ [])) d)
tried_trying looks w n r old new a j d h = subst (Acted w n r old new) (sym (after_trying looks a (attempt j ∷ []) j.epoch j.summary d)) (acted_trying w n r old new (after_close looks a j.epoch j.summary d) (attempt j ∷ []) h)

-- ---- a call that only tries a close ----

abbrev pub Into : Whole → Sequencer → Acts → Due → Type 0
Into w q a j = a ≡ trying (does_nothing q) (attempt j ∷ [])

into_tried : (looks : ℕ → View) (w n : Whole) (q : Sequencer) (r : Report) (old new : List Msg) (a : Acts) (j : Due) (d : Answer) → Into w q a j → Acted w n r old new (after_close looks (does_nothing q) j.epoch j.summary d) → Acted w n r old new (tried looks a d)
into_tried looks w n q r old new a j d h k = subst (λ (x : Acts). Acted w n r old new (tried looks x d)) (sym h) (tried_trying looks w n r old new (does_nothing q) j d k)

into_acts : (w n : Whole) (q : Sequencer) (r : Report) (old new : List Msg) (a : Acts) (j : Due) (c : Register) → Into w q a j → Acted w n r old new (after_close (looks_of w c) (does_nothing q) j.epoch j.summary (closes_due c q.log j).answer) → Acted w n r old new (called_by w c a).acts
into_acts w n q r old new a j c h k = subst (λ (x : Acts). Acted w n r old new (called_by w c x).acts) (sym h) (tried_trying (looks_of w c) w n r old new (does_nothing q) j (closes_due c q.log j).answer k)

into_register : (w : Whole) (q : Sequencer) (a : Acts) (j : Due) (c : Register) (K : Register → Type 0) → Into w q a j → K (closes_due c q.log j).register → K (called_by w c a).register
into_register w q a j c K h k = subst (λ (x : Acts). K (called_by w c x).register) (sym h) k

pub into_exact : (w n : Whole) (q : Sequencer) (r : Result Report SequencerFault) (old new : List Msg) (a : Acts) (j : Due) (c : Register) (Z : Type 0) (K : Register → Type 0) → Into w q a j
    → IfOk r (λ report. Acted w n report old new (after_close (looks_of w c) (does_nothing q) j.epoch j.summary (closes_due c q.log j).answer) × Z × K (closes_due c q.log j).register)
    → IfOk r (λ report. Acted w n report old new (called_by w c a).acts × K (called_by w c a).register)
into_exact w n q (Ok x) old new a j c Z K h k = (into_acts w n q x old new a j c h k.0, into_register w q a j c K h k.2)
into_exact w n q (Err f) old new a j c Z K h k = tt

pub into_acted : (w n : Whole) (q : Sequencer) (r : Result Report SequencerFault) (old new : List Msg) (a : Acts) (j : Due) → Into w q a j
    → IfOk r (λ report. (s : Spec) × IsSpecFor w.sequencer.log s × (d : Answer) × Acted w n report old new (after_close (shows s) (does_nothing q) j.epoch j.summary d)) → IfOk r (λ report. (s : Spec) × IsSpecFor w.sequencer.log s × (d : Answer) × Acted w n report old new (tried (shows s) a d))
into_acted w n q (Ok x) old new a j h k = (k.0, k.1, k.2, into_tried (shows k.0) w n q x old new a j k.2 h k.3)
into_acted w n q (Err f) old new a j h k = tt

held_or : (w n : Whole) (q : Sequencer) (r : Report) (old new : List Msg) (a : Acts) (j : Due) (c : Register) (K : Register → Type 0) → Into w q a j
    → (is_some r.register ≡ true) ⊎ (Acted w n r old new (after_close (looks_of w c) (does_nothing q) j.epoch j.summary (closes_due c q.log j).answer) × K (closes_due c q.log j).register)
    → (is_some r.register ≡ true) ⊎ (Acted w n r old new (called_by w c a).acts × K (called_by w c a).register)
held_or w n q r old new a j c K h (inl f) = inl f
held_or w n q r old new a j c K h (inr k) = inr (into_acts w n q r old new a j c h k.0, into_register w q a j c K h k.1)

pub into_held : (w n : Whole) (q : Sequencer) (r : Result Report SequencerFault) (old new : List Msg) (a : Acts) (j : Due) (c : Register) (K : Register → Type 0) → Into w q a j
    → IfOk r (λ report. (is_some report.register ≡ true) ⊎ (Acted w n report old new (after_close (looks_of w c) (does_nothing q) j.epoch j.summary (closes_due c q.log j).answer) × K (closes_due c q.log j).register))
    → IfOk r (λ report. (is_some report.register ≡ true) ⊎ (Acted w n report old new (called_by w c a).acts × K (called_by w c a).register))
into_held w n q (Ok x) old new a j c K h k = held_or w n q x old new a j c K h k
into_held w n q (Err f) old new a j c K h k = tt

-- ---- where none is due ----

pub called_still : (s : ℕ → View) (c : Register) (a : Acts) (ts : List Attempt) → ts ≡ [] → (called s c a ts).acts ≡ a
called_still s c a [] h = refl
called_still s c a (t ∷ ts) h = absurd cc

pub left_still : (s : ℕ → View) (c : Register) (a : Acts) (ts : List Attempt) → ts ≡ [] → (called s c a ts).register ≡ c
left_still s c a [] h = refl
left_still s c a (t ∷ ts) h = absurd cc

pub tried_still : (s : ℕ → View) (a : Acts) (d : Answer) (ts : List Attempt) → ts ≡ [] → tried_with s a d ts ≡ a
tried_still s a d [] h = refl
tried_still s a d (t ∷ ts) h = absurd cc

module _ (w : Whole) (r : Report) (o : List Msg) (h : closing_of w ≡ None) (a : r.acked ≡ None) (c : r.closed ≡ None) (p : r.preempted ≡ None) (f : r.register ≡ None) (e : r.released ≡ None) where
  pub none_exact : (x : Register) (K : Register → Type 0) → K x → Acted w w r o o (called_by w x (due_acts w)).acts × K (called_by w x (due_acts w)).register
  none_exact x K k = subst (λ (z : Acts). Acted w w r o o (called_by w x z).acts × K (called_by w x z).register) (sym (tries_none w h)) (quiet_acted w r o a c p f e, k)

  pub none_acted : (s : Spec) (d : Answer) → Acted w w r o o (tried (shows s) (due_acts w) d)
  none_acted s d = subst (λ (z : Acts). Acted w w r o o (tried (shows s) z d)) (sym (tries_none w h)) (quiet_acted w r o a c p f e)

-- ---- a message that makes a close due ----

pub record IsDue (old mid : Whole) (o om : List Msg) (a : Acts) (j : Due) : Type 0 where
  pub recovery : Option Recovery
  pub acts : Into old (with_recovery recovery old.sequencer) a j
  pub now : mid ≡ as_now old (with_recovery recovery old.sequencer)
  pub sent : om ≡ o

due_by : (old mid : Whole) (r : Report) (o om : List Msg) (a : Acts) (j : Due) (v : Option Recovery) → Acted old mid r o om a → Into old (with_recovery v old.sequencer) a j → IsDue old mid o om a j
due_by old mid r o om a j v h k = record {
  recovery = v;
  acts = k;
  now = h.now ∙ ap (λ (x : Acts). as_now old x.sequencer) k;
  sent = h.sent ∙ (ap (λ (x : Acts). o ++ sent_as old (acted_messages old.sequencer x)) k
      ∙ (ap (λ (ms : List (ℕ × Body)). o ++ sent_as old (ms ++ [])) (same_quiet old.sequencer (with_recovery v old.sequencer) refl) ∙ append-nil o));
}

fresh_due : (p n : Option Due) (j : Due) → is_some p ≡ false → n ≡ Some j → (if is_some p then [] else attempts n) ≡ attempt j ∷ []
fresh_due None n j h k = ap attempts k
fresh_due (Some x) n j h k = absurd cc

due_or : (old mid : Whole) (r : Report) (o om : List Msg) (a : Acts) (j : Due) → Acted old mid r o om a → a.tries ≡ attempt j ∷ [] → (a.tries ≡ []) ⊎ ((v : Option Recovery) × (a ≡ trying (does_nothing (with_recovery v old.sequencer)) a.tries)) → IsDue old mid o om a j
due_or old mid r o om a j h k (inl q) = let f : [] ≡ attempt j ∷ [] = sym q ∙ k in absurd cc
due_or old mid r o om a j h k (inr q) = due_by old mid r o om a j q.0 h (q.1 ∙ ap (trying (does_nothing (with_recovery q.0 old.sequencer))) k)

pub due_of : (old mid : Whole) (r : Report) (o om : List Msg) (a : Acts) (p : Option Due) (f : Bool) (j : Due) → Acted old mid r o om a → IsFresh old a → p ≡ closing_of old → f ≡ is_some p → f ≡ false → closing_of mid ≡ Some j → IsDue old mid o om a j
due_of old mid r o om a p f j h k g t u c =
    due_or old mid r o om a j h (k.due ∙ fresh_due (closing_of old) (closing_in a.sequencer.recovery) j (ap is_some (sym g) ∙ (sym t ∙ u)) (ap closing_of (sym h.now) ∙ c)) k.alone

-- from the moment when it is due
pub from_now : (old n : Whole) (v : Option Recovery) (r : Report) (o on : List Msg) (x : Acts) → Acted (as_now old (with_recovery v old.sequencer)) n r o on x → Acted old n r o on x
from_now old n v r o on x h = record { now = h.now; sent = h.sent; acked = h.acked; closed = h.closed; preempted = h.preempted; failed = h.failed; released = h.released }

from_mid : (looks : ℕ → View) (old mid n : Whole) (v : Option Recovery) (r : Report) (o om on : List Msg) (j : Due) (d : Answer) → mid ≡ as_now old (with_recovery v old.sequencer) → om ≡ o
    → Acted mid n r om on (closed_acts looks mid j.epoch j.summary d) → Acted old n r o on (after_close looks (does_nothing (with_recovery v old.sequencer)) j.epoch j.summary d)
from_mid looks old mid n v r o om on j d h k a =
    from_now old n v r o on (after_close looks (does_nothing (with_recovery v old.sequencer)) j.epoch j.summary d)
    (subst (λ (ms : List Msg). Acted (as_now old (with_recovery v old.sequencer)) n r ms on (closed_acts looks (as_now old (with_recovery v old.sequencer)) j.epoch j.summary d)) k (subst (λ (m : Whole). Acted m n r om on (closed_acts looks m j.epoch j.summary d)) h a))

answer_at : (old mid : Whole) (v : Option Recovery) (c : Register) (j : Due) → mid ≡ as_now old (with_recovery v old.sequencer) → closes_due c mid.sequencer.log j ≡ closes_due c old.sequencer.log j
answer_at old mid v c j h = ap (λ (m : Whole). closes_due c m.sequencer.log j) h

both_at : (old mid n : Whole) (v : Option Recovery) (r : Report) (o om on : List Msg) (j : Due) (c : Register) → mid ≡ as_now old (with_recovery v old.sequencer) → om ≡ o
    → Acted mid n r om on (closed_acts (looks_of mid c) mid j.epoch j.summary (closes_due c mid.sequencer.log j).answer) → Acted old n r o on (after_close (looks_of old c) (does_nothing (with_recovery v old.sequencer)) j.epoch j.summary (closes_due c old.sequencer.log j).answer)
both_at old mid n v r o om on j c h k a =
    let old_looks : Acted mid n r om on (closed_acts (looks_of old c) mid j.epoch j.summary (closes_due c mid.sequencer.log j).answer) = subst (λ (m : Whole). Acted mid n r om on (closed_acts (looks_of m c) mid j.epoch j.summary (closes_due c mid.sequencer.log j).answer)) h a in
    from_mid (looks_of old c) old mid n v r o om on j (closes_due c old.sequencer.log j).answer h k (subst (λ (z : Changed). Acted mid n r om on (closed_acts (looks_of old c) mid j.epoch j.summary z.answer)) (answer_at old mid v c j h) old_looks)

pub due_exact : (old mid n : Whole) (r : Result Report SequencerFault) (o om on : List Msg) (a : Acts) (j : Due) (c : Register) (Z : Type 0) (K : Register → Type 0) → IsDue old mid o om a j
    → IfOk r (λ report. Acted mid n report om on (closed_acts (looks_of mid c) mid j.epoch j.summary (closes_due c mid.sequencer.log j).answer) × Z × K (closes_due c mid.sequencer.log j).register)
    → IfOk r (λ report. Acted old n report o on (called_by old c a).acts × K (called_by old c a).register)
due_exact old mid n (Ok x) o om on a j c Z K d k =
    let q = with_recovery d.recovery old.sequencer in (
      into_acts old n q x o on a j c d.acts (both_at old mid n d.recovery x o om on j c d.now d.sent k.0),
      into_register old q a j c K d.acts (subst (λ (z : Changed). K z.register) (answer_at old mid d.recovery c j d.now) k.2),
    )
due_exact old mid n (Err f) o om on a j c Z K d k = tt

acted_at : (old mid : Whole) (v : Option Recovery) (s : Spec) → mid ≡ as_now old (with_recovery v old.sequencer) → IsSpecFor mid.sequencer.log s → IsSpecFor old.sequencer.log s
acted_at old mid v s h k = subst (λ (m : Whole). IsSpecFor m.sequencer.log s) h k

pub due_acted : (old mid n : Whole) (r : Result Report SequencerFault) (o om on : List Msg) (a : Acts) (j : Due) → IsDue old mid o om a j
    → IfOk r (λ report. (s : Spec) × IsSpecFor mid.sequencer.log s × (d : Answer) × Acted mid n report om on (closed_acts (shows s) mid j.epoch j.summary d)) → IfOk r (λ report. (s : Spec) × IsSpecFor old.sequencer.log s × (d : Answer) × Acted old n report o on (tried (shows s) a d))
due_acted old mid n (Ok x) o om on a j d k = (
  k.0,
  acted_at old mid d.recovery k.0 d.now k.1,
  k.2,
  into_tried (shows k.0) old n (with_recovery d.recovery old.sequencer) x o on a j k.2 d.acts (from_mid (shows k.0) old mid n d.recovery x o om on j k.2 d.now d.sent k.3),
)
due_acted old mid n (Err f) o om on a j d k = tt

due_or_failed : (old mid n : Whole) (r : Report) (o om on : List Msg) (a : Acts) (j : Due) (c : Register) (K : Register → Type 0) → IsDue old mid o om a j
    → (is_some r.register ≡ true) ⊎ (Acted mid n r om on (closed_acts (looks_of mid c) mid j.epoch j.summary (closes_due c mid.sequencer.log j).answer) × K (closes_due c mid.sequencer.log j).register)
    → (is_some r.register ≡ true) ⊎ (Acted old n r o on (called_by old c a).acts × K (called_by old c a).register)
due_or_failed old mid n r o om on a j c K d (inl f) = inl f
due_or_failed old mid n r o om on a j c K d (inr k) =
    let q = with_recovery d.recovery old.sequencer in
    inr (
      into_acts old n q r o on a j c d.acts (both_at old mid n d.recovery r o om on j c d.now d.sent k.0),
      into_register old q a j c K d.acts (subst (λ (z : Changed). K z.register) (answer_at old mid d.recovery c j d.now) k.1),
    )

pub due_held : (old mid n : Whole) (r : Result Report SequencerFault) (o om on : List Msg) (a : Acts) (j : Due) (c : Register) (K : Register → Type 0) → IsDue old mid o om a j
    → IfOk r (λ report. (is_some report.register ≡ true) ⊎ (Acted mid n report om on (closed_acts (looks_of mid c) mid j.epoch j.summary (closes_due c mid.sequencer.log j).answer) × K (closes_due c mid.sequencer.log j).register))
    → IfOk r (λ report. (is_some report.register ≡ true) ⊎ (Acted old n report o on (called_by old c a).acts × K (called_by old c a).register))
due_held old mid n (Ok x) o om on a j c K d k = due_or_failed old mid n x o om on a j c K d k
due_held old mid n (Err f) o om on a j c K d k = tt

-- ---- the register failed ----

failed_shown : (looks : ℕ → View) (w n : Whole) (r : Report) (old new : List Msg) (j : Due) (d : Tried) → answer_of d ≡ Fails → Acted w n r old new (closed_acts looks w j.epoch j.summary (answer_of d)) → is_some r.register ≡ true
unfolding after_close
failed_shown looks w n r old new j d h a = a.failed ∙ ap (λ (x : Answer). (closed_acts looks w j.epoch j.summary x).failed) h

-- an answer that is what the contents answer, and tells what they show, does what they do
answer_acts : (w n : Whole) (r : Report) (old new : List Msg) (j : Due) (d : Tried) (c : Register) → IsAnswer w.origin.first c w.sequencer.log j d
    → Acted w n r old new (closed_acts (shows (next_in w.origin.first d)) w j.epoch j.summary (answer_of d)) → Acted w n r old new (closed_acts (looks_of w c) w j.epoch j.summary (closes_due c w.sequencer.log j).answer)
answer_acts w n r old new j d c h a =
    subst (λ (x : Answer). Acted w n r old new (closed_acts (looks_of w c) w j.epoch j.summary x)) h.answer
    (subst (Acted w n r old new) (close_alike (looks_of w c) (next_in w.origin.first d) (does_nothing w.sequencer) j.epoch j.summary (answer_of d) h.next) a)

-- as it is called with what the sequencer holds
module _ (w n : Whole) (r : Report) (o on : List Msg) (j : Due) (d : Tried) (c : Register) (first : Spec) (l : ℕ) (f : first ≡ w.origin.first) (h : l ≡ w.sequencer.log) (K : Register → Type 0) (a : Acted w n r o on (closed_acts (shows (next_in w.origin.first d)) w j.epoch j.summary (answer_of d))) where
  answer_whole : IsAnswer first c l j d → IsAnswer w.origin.first c w.sequencer.log j d
  answer_whole k = subst (λ (x : Spec). IsAnswer x c w.sequencer.log j d) f (subst (λ (m : ℕ). IsAnswer first c m j d) h k)

  register_whole : K (closes_due c l j).register → K (closes_due c w.sequencer.log j).register
  register_whole k = subst (λ (m : ℕ). K (closes_due c m j).register) h k

  pub closed_exact : IsAnswer first c l j d × (is_crowded c l ≡ false) × K (closes_due c l j).register
      → Acted w n r o on (closed_acts (looks_of w c) w j.epoch j.summary (closes_due c w.sequencer.log j).answer) × (is_crowded c w.sequencer.log ≡ false) × K (closes_due c w.sequencer.log j).register
  closed_exact k = (answer_acts w n r o on j d c (answer_whole k.0) a, subst (λ (m : ℕ). is_crowded c m ≡ false) h k.1, register_whole k.2)

  pub closed_held : (answer_of d ≡ Fails) ⊎ (IsAnswer first c l j d × K (closes_due c l j).register)
      → (is_some r.register ≡ true) ⊎ (Acted w n r o on (closed_acts (looks_of w c) w j.epoch j.summary (closes_due c w.sequencer.log j).answer) × K (closes_due c w.sequencer.log j).register)
  closed_held (inl k) = inl (failed_shown (shows (next_in w.origin.first d)) w n r o on j d k a)
  closed_held (inr k) = inr (answer_acts w n r o on j d c (answer_whole k.0) a, register_whole k.1)

-- ---- what a crash may leave of the register ----

pub into_changed : (w : Whole) (q : Sequencer) (a : Acts) (j : Due) (P Q : Register → Type 0) → Into w q a j → ChangedOrNot P Q (λ c. left_by_due c w.sequencer.log j) → ChangedOrNot P Q (λ c. after_tries c w.sequencer.log a.tries)
into_changed w q a j P Q h k = subst (λ (x : Acts). ChangedOrNot P Q (λ c. after_tries c w.sequencer.log x.tries)) (sym h) k

pub due_changed : (old mid : Whole) (o om : List Msg) (a : Acts) (j : Due) (P Q : Register → Type 0) → IsDue old mid o om a j → ChangedOrNot P Q (λ c. left_by_due c mid.sequencer.log j) → ChangedOrNot P Q (λ c. after_tries c old.sequencer.log a.tries)
due_changed old mid o om a j P Q d k = into_changed old (with_recovery d.recovery old.sequencer) a j P Q d.acts (subst (λ (m : Whole). ChangedOrNot P Q (λ c. left_by_due c m.sequencer.log j)) d.now k)
