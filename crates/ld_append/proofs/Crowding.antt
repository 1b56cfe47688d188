-- A register that holds as many other logs as may be holds as many after a call for the log.
use Rattle.std.proofs.Common.{◌≡◌, ◌⊎◌, inl, inr, ⊎_elim, ℕ, suc, ◌==◌, not, Bool, true, false, List, [], ◌∷◌, Option, Some, None, Ok, Err, IfErr, IsErrOf, Ordering, Less, Equal, Greater, nat_cmp, nat_le, nat_lt, ◌+◌, refl, sym, ap, ◌∙◌, subst, arith, if◌then◌else◌}
use Rattle.std.specs.Prelude.{Result, IsErrAnd}
use Rattle.std.specs.Ordering.{match_ordering}
use Rattle.std.specs.BTreeMap.{insert_entry}
use Rattle.ld_table.specs.Table.{put}
use Rattle.ld_table.specs.Words.{how_many}
use Rattle.ld_ids.specs.declared.set.Spec.{Spec}
use Rattle.ld_msg.specs.declared.msg.Summary.{Summary}
use Rattle.ld_msg.specs.declared.msg.Msg.{Msg}
use Rattle.ld_msg.specs.Register.{Register, View, Answer, Granted, AtLimit, Behind, Overtaken, Fails, Epochs, is_overtaken, is_crowded, Changed, log_limit, journal_limit, epoch_limit, record_length, with_epochs, is_made, made, unmade, change, activate, close, next_epoch, closed_epochs, epochs_of, lce_of}
use Rattle.ld_msg.specs.Sequencer.{Attempt}
use Rattle.ld_register.specs.Calls.{activated, ended, after_activate, after_close, ChangedOrNot}
use Rattle.ld_register.specs.declared.fault.RegisterFault.TheVariants as registers
use Rattle.ld_register.specs.declared.register.Grant.{Grant}
use Rattle.ld_sequencer.specs.Register.{MayCome, after_tries}
use Rattle.ld_sequencer.specs.declared.fault.SequencerFault.{SequencerFault}
use Rattle.ld_sequencer.specs.declared.fault.SequencerFault.TheVariants as faults
use Rattle.ld_sequencer.specs.declared.origin.Origin.{Origin}
use Rattle.ld_sequencer.specs.Whole.{Whole, looks_after, Activates, IsCaused}
use Rattle.ld_register.specs.declared.fault.RegisterFault.{RegisterFault}
use Rattle.ld_sequencer.specs.declared.fault.CloseFault.{CloseFault}
use Rattle.ld_sequencer.specs.declared.fault.CloseFault.TheVariants as unclosed
use Rattle.ld_sequencer.specs.declared.report.Report.{Report}
use Rattle.ld_rounds.specs.declared.ended.Ended.{Ended}
use Rattle.ld_rounds.specs.declared.ended.Ended.TheVariants as ends
use Rattle.ld_append.specs.Refusing.{report_end, register_end, fault_end, end_by}
use Rattle.ld_append.specs.Acting.{MayCrowd, Leaves, IsSince, IsOfLog, leaves_here, leaves_on}

same_number : (n : ℕ) → (n == n) ≡ true
same_number n = grind arith

-- the other logs
abbrev others : (l : ℕ) → List (ℕ × Epochs) → ℕ
others l m = how_many (λ (k : ℕ × Epochs). not (k.0 == l)) m

others_step : (o : Ordering) (e : ℕ × Epochs) (l : ℕ) (v : Epochs) (m : List (ℕ × Epochs)) → others l (insert_entry nat_cmp m l v) ≡ others l m
    → others l (match_ordering o ((l, v) ∷ e ∷ m) ((e.0, v) ∷ m) (e ∷ insert_entry nat_cmp m l v)) ≡ others l (e ∷ m)
others_step Less e l v m ih = ap (λ (b : Bool). if not b then suc (others l (e ∷ m)) else others l (e ∷ m)) (same_number l)
others_step Equal e l v m ih = refl
others_step Greater e l v m ih = ap (λ (n : ℕ). if not (e.0 == l) then suc n else n) ih

others_put : (l : ℕ) (v : Epochs) (m : List (ℕ × Epochs)) → others l (put l v m) ≡ others l m
unfolding put
others_put l v [] = ap (λ (b : Bool). if not b then suc 0 else 0) (same_number l)
others_put l v (e ∷ m) = others_step (nat_cmp l e.0) e l v m (others_put l v m)

if_both : (P : Register → Type 0) (b : Bool) (x y : Register) → P x → P y → P (if b then x else y)
if_both P true x y p q = p
if_both P false x y p q = q

-- as many others are held
abbrev Same : ℕ → Register → Register → Type 0
Same l r d = is_crowded d l ≡ is_crowded r l

same_logs : (l : ℕ) (r d : Register) → others l d.logs ≡ others l r.logs → Same l r d
same_logs l r d e = ap (λ n. nat_le log_limit n) e

same_change : (l : ℕ) (r : Register) (v : Epochs) (body : ℕ) → Same l r (change r (with_epochs r l v) body).register
unfolding change
same_change l r v body =
    let next : Register = with_epochs r l v in
    if_both (Same l r) (nat_lt journal_limit (r.length + record_length body)) r (if is_made r.armed then made r next body else unmade r) refl
    (if_both (Same l r) (is_made r.armed) (made r next body) (unmade r) (same_logs l r (made r next body) (others_put l v r.logs)) refl)

if_changed : (l : ℕ) (r : Register) (b : Bool) (x y : Changed) → Same l r x.register → Same l r y.register → Same l r (if b then x else y).register
if_changed l r true x y p q = p
if_changed l r false x y p q = q

same_activate : (spec : Spec) (r : Register) → Same spec.log r (after_activate r spec)
unfolding activate
same_activate spec r =
    let l : ℕ = spec.log in
    if_both (Same l r) (is_crowded r l) r (activate r l spec).register refl
    (if_changed l r (nat_le epoch_limit (epochs_of r l).epoch) (record { register = r; answer = AtLimit }) (change r (with_epochs r l (next_epoch (epochs_of r l) spec)) 13) refl (same_change l r (next_epoch (epochs_of r l) spec) 13))

same_close : (l e : ℕ) (y : Summary) (short : Bool) (r : Register) → Same l r (after_close r l e y short)
unfolding close
same_close l e y short r =
    let closes : Changed = change r (with_epochs r l (closed_epochs (epochs_of r l) e y)) 30 in
    let late : Changed = record { register = r; answer = Overtaken (epochs_of r l).epoch } in
    if_both (Same l r) (is_crowded r l) r (close r l e y short).register refl
    (if_changed l r (not (lce_of r l + 1 == e)) (record { register = r; answer = Behind (lce_of r l) }) (if is_overtaken (epochs_of r l) y short then late else closes) refl
    (if_changed l r (is_overtaken (epochs_of r l) y short) late closes refl (same_change l r (closed_epochs (epochs_of r l) e y) 30)))

same_tries : (l : ℕ) (ts : List Attempt) (r : Register) → Same l r (after_tries r l ts)
same_tries l [] r = refl
same_tries l (t ∷ ts) r = same_close l t.epoch t.summary t.short r

-- what a call leaves
leaves_by : (l : ℕ) (before now : Register → Type 0) (f : Register → Register) → ((r : Register) → Same l r (f r)) → ChangedOrNot before now f → MayCrowd now l → MayCrowd before l
leaves_by l before now f same changes m =
    let x = changes m.contents m.may_be in
    record { contents = x.0; may_be = x.1; crowded = ⊎_elim (λ e. ap (λ d. is_crowded d l) (sym e) ∙ m.crowded) (λ e. sym (same x.0) ∙ (ap (λ d. is_crowded d l) (sym e) ∙ m.crowded)) x.2 }

pub activation_leaves : (spec : Spec) (told_old told_new : Type 0) (before now : Register → Type 0) → (told_old → told_new) → (told_old → ChangedOrNot before now (λ c. after_activate c spec)) → Leaves spec.log told_old told_new before now
activation_leaves spec told_old told_new before now t d = record { told = t; back = λ is m. leaves_by spec.log before now (λ c. after_activate c spec) (same_activate spec) (d is) m }

pub tries_leave : (l : ℕ) (ts : List Attempt) (told_old told_new : Type 0) (before now : Register → Type 0) → (told_old → told_new) → (told_old → ChangedOrNot before now (λ c. after_tries c l ts)) → Leaves l told_old told_new before now
tries_leave l ts told_old told_new before now t d = record { told = t; back = λ is m. leaves_by l before now (λ c. after_tries c l ts) (same_tries l ts) (d is) m }

-- ---- a refusal ----

-- a close that was refused so
pub refused_close : (told : Type 0) (holds may : Register → Type 0) (damaged : ℕ → Type 0) (l : ℕ) (fault : SequencerFault) → ((c : Register) → holds c → may c) → (told → IsCaused holds damaged l fault) → fault ≡ faults.Register registers.LogLimit → told → MayCrowd may l
refused_close told holds may damaged l fault is caused e t =
    let c = subst (IsCaused holds damaged l) e (caused t) in
    record { contents = c.0; may_be = is c.0 c.1; crowded = c.2 }

limit_ended : (x : Answer) (full : Bool) (g : Grant) (origin : Origin) (spec : Spec) (looks : ℕ → View) (old new : List Msg) (fault : SequencerFault) → fault ≡ faults.Register registers.LogLimit → Activates origin spec looks old new (Err fault) (ended x full registers.EpochLimit g) → ⊥
limit_ended Granted full g origin spec looks old new fault e h = absurd h
limit_ended AtLimit full g origin spec looks old new fault e h = let x : faults.Register registers.LogLimit ≡ faults.Register registers.EpochLimit = sym e ∙ h.0 in absurd cc
limit_ended (Behind lce) full g origin spec looks old new fault e h = let x : faults.Register registers.LogLimit ≡ faults.Register (registers.Behind lce None) = sym e ∙ h.0 in absurd cc
limit_ended (Overtaken kept) full g origin spec looks old new fault e h = let x : faults.Register registers.LogLimit ≡ faults.Register (registers.Overtaken kept) = sym e ∙ h.0 in absurd cc
limit_ended Fails true g origin spec looks old new fault e h = let x : faults.Register registers.LogLimit ≡ faults.Register registers.Full = sym e ∙ h.0 in absurd cc
limit_ended Fails false g origin spec looks old new fault e h = let x : faults.Register registers.LogLimit ≡ faults.Register registers.Failed = sym e ∙ h.0 in absurd cc

crowded_by : (b full : Bool) (x : Answer) (g : Grant) (origin : Origin) (spec : Spec) (looks : ℕ → View) (old new : List Msg) (fault : SequencerFault) → fault ≡ faults.Register registers.LogLimit
    → Activates origin spec looks old new (Err fault) (if b then Err registers.LogLimit else ended x full registers.EpochLimit g) → b ≡ true
crowded_by true full x g origin spec looks old new fault e h = refl
crowded_by false full x g origin spec looks old new fault e h = absurd (limit_ended x full g origin spec looks old new fault e h)

-- an activation that was refused so
pub refused_activation : (told : Type 0) (holds may after : Register → Type 0) (origin : Origin) (spec first : Spec) (old new : List Msg) (fault : SequencerFault) → ((c : Register) → holds c → may c)
    → (told → IsErrOf {T = Whole} (Err fault) faults.NoMemory ⊎ IsErrAnd {T = Whole} (Err fault) MayCome ⊎ ((c : Register) × holds c))
    → ((c : Register) → holds c → IsErrAnd {T = Whole} (Err fault) MayCome ⊎ (IsErrOf {T = Whole} (Err fault) faults.NoMemory × after c) ⊎ (Activates origin spec (looks_after first spec c) old new (Err fault) (activated c spec) × after (after_activate c spec)))
    → fault ≡ faults.Register registers.LogLimit → told → MayCrowd may spec.log
refused_activation told holds may after origin spec first old new fault is whole held e t = elim (whole t) [
  | inl x ↦ (let m : fault ≡ faults.NoMemory = cc in let z : faults.Register registers.LogLimit ≡ faults.NoMemory = sym e ∙ m in absurd cc)
  | inr y ↦ elim y [
    | inl m ↦ absurd (subst MayCome e m)
    | inr c ↦ elim (held c.0 c.1) [
      | inl m ↦ absurd (subst MayCome e m)
      | inr z ↦ elim z [
        | inl x ↦ (let m : fault ≡ faults.NoMemory = cc in let z : faults.Register registers.LogLimit ≡ faults.NoMemory = sym e ∙ m in absurd cc)
        | inr a ↦ record { contents = c.0; may_be = is c.0 c.1; crowded = crowded_by (is_crowded c.0 spec.log) _ _ _ origin spec (looks_after first spec c.0) old new fault e a.0 }
      ]
    ]
  ]
]

-- ---- the sequencer later ----

pub same_since : (w g : Whole) (told : Type 0) (may : Register → Type 0) (shut : Bool) → g.sequencer.log ≡ w.sequencer.log → IsSince (Some w) (Some g) told told may may shut shut
same_since w g told may shut e = (e, record { leaves = leaves_here w.sequencer.log told may; shut = λ s. inl s })

-- it is of no use any more
pub gone_since : (w : Whole) (told told_new : Type 0) (may may_new : Register → Type 0) (shut : Bool) → Leaves w.sequencer.log told told_new may may_new → IsSince (Some w) None told told_new may may_new shut shut
gone_since w told told_new may may_new shut leaves = (tt, record { leaves = leaves; shut = λ s. inl s })

limit_register : (f : RegisterFault) → register_end f ≡ Some ends.LogLimit → f ≡ registers.LogLimit
limit_register registers.Failed e = absurd cc
limit_register (registers.Damaged place) e = absurd cc
limit_register registers.LogLimit e = refl
limit_register (registers.Behind lce next) e = absurd cc
limit_register (registers.Overtaken kept) e = absurd cc
limit_register registers.EpochLimit e = absurd cc
limit_register registers.GenLimit e = absurd cc
limit_register registers.SwapLimit e = absurd cc
limit_register registers.Full e = absurd cc
limit_register registers.NoMemory e = absurd cc

pub limit_by : (f : SequencerFault) → fault_end f ≡ Some ends.LogLimit → f ≡ faults.Register registers.LogLimit
limit_by (faults.PayloadTooLong n) e = absurd cc
limit_by (faults.Preempted by) e = absurd cc
limit_by faults.EpochFull e = absurd cc
limit_by faults.WindowFull e = absurd cc
limit_by (faults.PastReleased released) e = absurd cc
limit_by (faults.Register f) e = ap (λ (x : RegisterFault). faults.Register x) (limit_register f e)
limit_by faults.NoMemory e = absurd cc

no_limit : (p : Option ℕ) (f : Option CloseFault) → report_end p f ≡ Some ends.LogLimit → ⊥
no_limit (Some by) f e = cc
no_limit None None e = cc
no_limit None (Some unclosed.Failed) e = cc
no_limit None (Some unclosed.Full) e = cc

-- or a look has failed
abbrev pub MayFail : (Register → Type 0) → (ℕ → Type 0) → ℕ → SequencerFault → Type 0
MayFail holds damaged log fault = (fault ≡ faults.Register registers.Failed) ⊎ IsCaused holds damaged log fault

module _ (told told_new : Type 0) (holds may may_new : Register → Type 0) (damaged : ℕ → Type 0) (is : (c : Register) → holds c → may c) (w g : Whole) (e : g.sequencer.log ≡ w.sequencer.log) (leaves : Leaves w.sequencer.log told told_new may may_new) where
  -- a failed look is no crowded register
  of_limit : (fault : SequencerFault) → fault ≡ faults.Register registers.LogLimit → (fault ≡ faults.Register registers.Failed) ⊎ IsCaused holds damaged w.sequencer.log fault → IsCaused holds damaged w.sequencer.log fault
  of_limit fault e (inl f) = let x : faults.Register registers.LogLimit ≡ faults.Register registers.Failed = sym e ∙ f in absurd cc
  of_limit fault e (inr h) = h

  crowds : (r : Result Report SequencerFault) → (told → IfErr r (MayFail holds damaged w.sequencer.log)) → end_by r ≡ Some ends.LogLimit → told → MayCrowd may w.sequencer.log
  crowds (Ok report) caused l = absurd (no_limit report.preempted report.register l)
  crowds (Err fault) caused l = refused_close told holds may damaged w.sequencer.log fault is (λ t. of_limit fault (limit_by fault l) (caused t)) (limit_by fault l)

  pub called_since : (r : Result Report SequencerFault) (end : Option Ended) (shut shut_new : Bool) → (told → IfErr r (MayFail holds damaged w.sequencer.log)) → end ≡ end_by r → (shut_new ≡ true → (shut ≡ true) ⊎ (end ≡ Some ends.LogLimit)) → IsSince (Some w) (Some g) told told_new may may_new shut shut_new
  called_since r end shut shut_new caused f s = (e, record { leaves = leaves; shut = λ t. ⊎_elim (λ x. inl x) (λ l. inr (crowds r caused (sym f ∙ l))) (s t) })

pub since_as : (o p q : Option Whole) (told told_new told_now : Type 0) (may may_new may_now : Register → Type 0) (shut shut_new : Bool) → p ≡ q → told_new ≡ told_now → may_new ≡ may_now → IsSince o p told told_new may may_new shut shut_new → IsSince o q told told_now may may_now shut shut_new
since_as o p q told told_new told_now may may_new may_now shut shut_new e f h s =
    subst (λ (m : Register → Type 0). IsSince o q told told_now may m shut shut_new) h (subst (λ (t : Type 0). IsSince o q told t may may_new shut shut_new) f (subst (λ (x : Option Whole). IsSince o x told told_new may may_new shut shut_new) e s))

-- ---- where all rounds were taken ----

pub shut_so : (log : ℕ) (o p : Option Whole) (told_a told_b told_c : Type 0) (may_a may_b may_c : Register → Type 0) (shut_b shut_c : Bool) → IsOfLog log o → shut_b ≡ false → Leaves log told_a told_b may_a may_b → IsSince o p told_b told_c may_b may_c shut_b shut_c
    → shut_c ≡ true → told_a → MayCrowd may_a log
shut_so log None p told_a told_b told_c may_a may_b may_c shut_b shut_c l f a s t is = let x : false ≡ true = sym f ∙ (sym s.1 ∙ t) in absurd cc
shut_so log (Some w) p told_a told_b told_c may_a may_b may_c shut_b shut_c l f a s t is =
    ⊎_elim (λ x. let y : false ≡ true = sym f ∙ x in absurd cc) (λ c. a.back is (subst (MayCrowd may_b) l (c (a.told is)))) (s.1.shut t)

-- ---- at the end ----

pub leaves_so : (log : ℕ) (o p : Option Whole) (told_a told_b told_c : Type 0) (may_a may_b may_c : Register → Type 0) (shut_b shut_c : Bool) → IsOfLog log o → Leaves log told_a told_b may_a may_b → IsSince o p told_b told_c may_b may_c shut_b shut_c → Leaves log told_a told_c may_a may_c
leaves_so log None p told_a told_b told_c may_a may_b may_c shut_b shut_c l a s = leaves_on log told_a told_b told_c may_a may_b may_c a (s.2 log)
leaves_so log (Some w) p told_a told_b told_c may_a may_b may_c shut_b shut_c l a s = leaves_on log told_a told_b told_c may_a may_b may_c a (subst (λ (n : ℕ). Leaves n told_b told_c may_b may_c) l s.1.leaves)
