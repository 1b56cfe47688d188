-- What a message tells a recovery.
use Rattle.std.proofs.Common.{◌≡◌, ℕ, ◌==◌, Bool, true, false, [], Option, Some, None, ◌⊎◌, inl, inr, if◌then◌else◌, refl, ap, sym, subst, ◌∙◌, arith}
use Rattle.std.specs.Prelude.{◌&&◌}
use Rattle.std.proofs.lemmas.Bool.{cases_Bool}
use Rattle.std.proofs.lemmas.Bool.Decides.{nat_tests}
use Rattle.ld_lsn.specs.Number.{home_epoch}
use Rattle.ld_msg.specs.declared.msg.Summary.{Summary}
use Rattle.ld_msg.specs.declared.msg.Who.{Who}
use Rattle.ld_msg.specs.declared.msg.Who.TheVariants as whos
use Rattle.ld_msg.specs.declared.msg.Body.{Body}
use Rattle.ld_msg.specs.declared.msg.Body.TheVariants as bodies
use Rattle.ld_msg.specs.Bounds.{IsNodeHere, Fits}
use Rattle.ld_msg.specs.Sequencer.{Stage, Seals, Stores, Closes, Acts}
use Rattle.ld_recovery.specs.declared.state.State.TheVariants as states
use Rattle.ld_recovery.specs.Recovering.{Recovering, Ending, Goes, IsDone, IsGone, IsPreempted, IsReply, is_going, going, is_spent_stage, counts, told_by, spends, goes_on, ended, ending_by, ending_told, summary_told, is_open, when_going, replied, replied_with, reply_acts}
use Rattle.ld_recovery.specs.States.{state_in, state_by, state_of, IsTold}
use Rattle.ld_recovery.proofs.Replies.{Replied, unspent_value, other_body, clean_own, clean_elsewhere}

-- ---- who sends ----

stands : (w : Who) → ((n : ℕ) → w ≡ whos.Node n → ⊥) → IsNodeHere w → ⊥
stands (whos.Node n) isnt h = isnt n refl
stands (whos.Sequencer e) isnt h = h
stands (whos.Reader r) isnt h = h

-- what isn't a node's does nothing
pub stranger : (r : Recovering) (y : ℕ) (from to : Who) (b : Body) → r.ending ≡ Goes → ((n : ℕ) → from ≡ whos.Node n → ⊥) → Fits from to b → Replied r y b r []
stranger r y from to b h isnt f = other_body r y b h
    (λ n e. stands from isnt (subst (λ (x : Body). Fits from to x) e f).0.0)
    (λ n k e. stands from isnt (subst (λ (x : Body). Fits from to x) e f).0.0)
    (λ n ro g en e. stands from isnt (subst (λ (x : Body). Fits from to x) e f).0)
    (λ n s e. stands from isnt (subst (λ (x : Body). Fits from to x) e f).0.0)
    (λ n t e. stands from isnt (subst (λ (x : Body). Fits from to x) e f).0.0)
    (λ fr u t l es e. stands from isnt (subst (λ (x : Body). Fits from to x) e f).0.0)

pub reply_of : (from to : Who) (b : Body) → Fits from to b → IsReply b
reply_of from to (bodies.CleanHere n y) f = f.2
reply_of from to (bodies.DigestPage n u t l es) f = (f.1, f.4)
reply_of from to _ f = tt

-- ---- which summary it is done with ----

goes_undone : (s : Stage) (y : Summary) → state_in s ≡ states.Done y → ⊥
goes_undone (Seals d) y h = absurd cc
goes_undone (Stores g) y h = absurd cc
goes_undone (Closes z short) y h = absurd cc

open_undone : (p : Option ℕ) (s : Stage) (y : Summary) → state_by (ending_by p) s ≡ states.Done y → ⊥
open_undone None s y h = goes_undone s y h
open_undone (Some k) s y h = absurd cc

one_told : (r : Recovering) (a : Acts) (z y : Summary) (b : Bool) → state_of (if b then goes_on r a else ended r (IsDone z)) ≡ states.Done y → z ≡ y
one_told r a z y true h = absurd (open_undone a.sequencer.preempted (goes_on r a).recovery.stage y h)
one_told r a z y false h = cc

none_told : (r : Recovering) (a : Acts) (y : Summary) (b : Bool) → state_of (if b then goes_on r a else ended r Goes) ≡ states.Done y → ⊥
none_told r a y true h = open_undone a.sequencer.preempted (goes_on r a).recovery.stage y h
none_told r a y false h = goes_undone r.recovery.stage y h

summary_or : (b : Body) → (summary_told b ≡ None) ⊎ ((n : ℕ) × (z : Summary) × (b ≡ bodies.CleanHere n z))
summary_or (bodies.CleanHere n z) = inr (n, z, refl)
summary_or _ = inl refl

equal_or : (x y : ℕ) (b : Bool) → (x == y) ≡ b → (x ≡ y) ⊎ (x ≡ y → ⊥)
equal_or x y true h = inl (grind (arith, nat_tests))
equal_or x y false h = inr (λ e. absurd (grind (arith, nat_tests)))

going_is : (r : Recovering) (x : ℕ) (b : Body) → r.ending ≡ Goes → spends r x b ≡ false → replied r x b ≡ replied_with r b (reply_acts r x b)
going_is r x b h s = unspent_value r x b s ∙ ap (λ (e : Ending). when_going e (replied_with r b (reply_acts r x b)) r) h

clean_told : (r : Recovering) (x n : ℕ) (z y : Summary) → r.ending ≡ Goes → state_of (replied r x (bodies.CleanHere n z)) ≡ states.Done y → IsTold r (bodies.CleanHere n z) y
clean_told r x n z y h d = elim (equal_or (home_epoch n) r.ballot (home_epoch n == r.ballot) refl) [
  | inl own ↦ let p : state_of (replied r x (bodies.CleanHere n z)) ≡ states.Preempted z.ballot = ap state_of (clean_own r x n z h own).value in absurd cc
  | inr other ↦ elim (equal_or (home_epoch n) r.recovery.epoch (home_epoch n == r.recovery.epoch) refl) [
    | inl here ↦
        let k : z ≡ y = one_told r (reply_acts r x (bodies.CleanHere n z)) z y (is_open r (reply_acts r x (bodies.CleanHere n z))) (sym (ap state_of (going_is r x (bodies.CleanHere n z) h refl)) ∙ d) in
        inr (n, ap (bodies.CleanHere n) k, here)
    | inr elsewhere ↦ inl (sym (ap state_of (clean_elsewhere r x n z h other elsewhere).value) ∙ d)
  ]
]

open_told : (r : Recovering) (x : ℕ) (b : Body) (y : Summary) → r.ending ≡ Goes → spends r x b ≡ false → state_of (replied r x b) ≡ states.Done y → IsTold r b y
open_told r x b y h s d = elim (summary_or b) [
  | inl none ↦ absurd (none_told r (reply_acts r x b) y (is_open r (reply_acts r x b))
      (sym (ap (λ (s : Option Summary). state_of (if is_open r (reply_acts r x b) then goes_on r (reply_acts r x b) else ended r (ending_told s))) none) ∙ (sym (ap state_of (going_is r x b h s)) ∙ d)))
  | inr some ↦ subst (λ (c : Body). IsTold r c y) (sym some.2) (clean_told r x some.0 some.1 y h (subst (λ (c : Body). state_of (replied r x c) ≡ states.Done y) some.2 d))
]

-- a message that leaves the digest spent ends nothing
spent_told : (r : Recovering) (x : ℕ) (b : Body) (y : Summary) → spends r x b ≡ true → state_of (replied r x b) ≡ states.Done y → ⊥
spent_told r x b y s d = goes_undone (told_by r.recovery x b).stage y (sym (ap (λ (t : Bool). state_of (if t then going r (told_by r.recovery x b) else when_going r.ending (replied_with r b (reply_acts r x b)) r)) s) ∙ d)

going_told : (r : Recovering) (x : ℕ) (b : Body) (y : Summary) → r.ending ≡ Goes → state_of (replied r x b) ≡ states.Done y → IsTold r b y
going_told r x b y h d = elim (cases_Bool (spends r x b)) [
  | inl s ↦ absurd (spent_told r x b y s d)
  | inr s ↦ open_told r x b y h s d
]

-- a recovery that has ended is spent by nothing
ended_if : (b c g : Bool) → g ≡ false → (b && (c && g)) ≡ false
ended_if true true g h = h
ended_if true false g h = refl
ended_if false c g h = refl

ended_is : (r : Recovering) (x : ℕ) (b : Body) (e : Ending) → r.ending ≡ e → is_going e ≡ false → replied r x b ≡ when_going e (replied_with r b (reply_acts r x b)) r
ended_is r x b e h g =
    unspent_value r x b (ended_if (counts r.recovery x b) (is_spent_stage r.recovery.spec (told_by r.recovery x b).stage) (is_going r.ending) (ap is_going h ∙ g))
    ∙ ap (λ (z : Ending). when_going z (replied_with r b (reply_acts r x b)) r) h

told_if : (r : Recovering) (x : ℕ) (b : Body) (y : Summary) (e : Ending) → r.ending ≡ e → state_of (replied r x b) ≡ states.Done y → IsTold r b y
told_if r x b y Goes h d = going_told r x b y h d
told_if r x b y (IsDone s) h d = inl (sym (ap state_of (ended_is r x b (IsDone s) h refl)) ∙ d)
told_if r x b y (IsGone l) h d = inl (sym (ap state_of (ended_is r x b (IsGone l) h refl)) ∙ d)
told_if r x b y (IsPreempted k) h d = inl (sym (ap state_of (ended_is r x b (IsPreempted k) h refl)) ∙ d)

pub told : (r : Recovering) (x : ℕ) (b : Body) (y : Summary) → state_of (replied r x b) ≡ states.Done y → IsTold r b y
told r x b y d = told_if r x b y r.ending refl d
