-- Why a drive ends.
use Rattle.std.proofs.Common.{ℕ, ◌≤◌, ◌≡◌, List, [], ◌++◌, Option, None, Some, refl, ap, sym, subst, arith, ◌∙◌, append_assoc}
use Rattle.std.specs.Prelude.{IfErr}
use Rattle.std.specs.declared.result.Result.{Result}
use Rattle.std.specs.declared.result.Result.TheVariants.{Ok, Err}
use Rattle.std.specs.Io.KnownBytes.{Appends}
use Rattle.ld_io.specs.Causes.{Rose}
use Rattle.ld_transcript.specs.declared.line.Line.{Line}
use Rattle.ld_transcript.specs.Text.{text}
use Rattle.ld_wire.specs.declared.fault.WireFault.{WireFault}
use Rattle.ld_dial.specs.declared.fault.Fault.{Fault}
use Rattle.ld_dial.specs.declared.fault.Fault.TheVariants as faults
use Rattle.ld_dial.specs.Far.{KeepsFrame}
use Rattle.ld_rounds.specs.Telling.{missed_by}
use Rattle.ld_rounds.specs.declared.ended.Ended.{Ended}
use Rattle.ld_rounds.specs.declared.ended.Ended.TheVariants as ends
use Rattle.ld_rounds.specs.Ends.{IsSaid}
use Rattle.ld_rounds.specs.Endings.{IsLater, SaysWhy, IsEnding, EndsOff, EndedOff}
use Rattle.ld_rounds.proofs.Writing.{Appends-nil, Appends-trans}

-- ---- what is later ----

pub later_here : (n : ℕ) (a : Option (List ℕ)) → IsLater n n a a
later_here n a = record { faults = omega arith; more = []; written = Appends-nil a }

pub later_on : (k n m : ℕ) (a b c : Option (List ℕ)) → IsLater k n a b → IsLater n m b c → IsLater k m a c
later_on k n m a b c p q = record {
  faults = (let x = p.faults in let y = q.faults in omega (arith, x, y));
  more = p.more ++ q.more;
  written = Appends-trans a b c p.more q.more p.written q.written;
}

-- ---- since before ----

rose_since : (k n m : ℕ) → k ≤ n → Rose n m → Rose k m
rose_since k n m l r = omega (arith, l, r)

why_since : (k n : ℕ) (a b c : Option (List ℕ)) (e : Ended) → IsLater k n a b → SaysWhy b c e → SaysWhy a c e
why_since k n a b c e p w = record {
  before = p.more ++ w.before;
  lines = w.lines;
  written = subst (λ l. Appends a c l) (sym (append_assoc p.more w.before (text w.lines))) (Appends-trans a b c p.more (w.before ++ text w.lines) p.written w.written);
  said = w.said;
}

pub ending_since : (k n m : ℕ) (a b c : Option (List ℕ)) (e : Ended) → IsLater k n a b → IsEnding n m b c e → IsEnding k m a c e
ending_since k n m a b c ends.Write p i = rose_since k n m p.faults i
ending_since k n m a b c ends.NoMemory p i = tt
ending_since k n m a b c (ends.BadFrame fault) p i = tt
ending_since k n m a b c ends.Done p i = why_since k n a b c ends.Done p i
ending_since k n m a b c ends.Rounds p i = why_since k n a b c ends.Rounds p i
ending_since k n m a b c (ends.Preempted by) p i = why_since k n a b c (ends.Preempted by) p i
ending_since k n m a b c ends.LogLimit p i = why_since k n a b c ends.LogLimit p i
ending_since k n m a b c ends.EpochLimit p i = why_since k n a b c ends.EpochLimit p i
ending_since k n m a b c ends.EpochFull p i = why_since k n a b c ends.EpochFull p i
ending_since k n m a b c (ends.Register fault) p i = why_since k n a b c (ends.Register fault) p i
ending_since k n m a b c (ends.BadLine line place) p i = why_since k n a b c (ends.BadLine line place) p i
ending_since k n m a b c ends.Read p i = why_since k n a b c ends.Read p i

-- the lines say why
said_here : (before now : ℕ) (a b : Option (List ℕ)) (ls : List Line) (e : Ended) → IsSaid ls e → Appends a b (text ls) → SaysWhy a b e
said_here before now a b ls e i w = record { before = []; lines = ls; written = w; said = i }

pub ending_said : (before now : ℕ) (a b : Option (List ℕ)) (ls : List Line) (e : Ended) → IsSaid ls e → Appends a b (text ls) → IsEnding before now a b e
ending_said before now a b ls ends.Write i w = absurd i
ending_said before now a b ls ends.NoMemory i w = tt
ending_said before now a b ls (ends.BadFrame fault) i w = tt
ending_said before now a b ls ends.Done i w = said_here before now a b ls ends.Done i w
ending_said before now a b ls ends.Rounds i w = said_here before now a b ls ends.Rounds i w
ending_said before now a b ls (ends.Preempted by) i w = said_here before now a b ls (ends.Preempted by) i w
ending_said before now a b ls ends.LogLimit i w = said_here before now a b ls ends.LogLimit i w
ending_said before now a b ls ends.EpochLimit i w = said_here before now a b ls ends.EpochLimit i w
ending_said before now a b ls ends.EpochFull i w = said_here before now a b ls ends.EpochFull i w
ending_said before now a b ls (ends.Register fault) i w = said_here before now a b ls (ends.Register fault) i w
ending_said before now a b ls (ends.BadLine line place) i w = said_here before now a b ls (ends.BadLine line place) i w
ending_said before now a b ls ends.Read i w = said_here before now a b ls ends.Read i w

pub cause_since : {R : Type 0} (k n m : ℕ) (a b c : Option (List ℕ)) (r : Result R Ended) → IsLater k n a b → IfErr r (IsEnding n m b c) → IfErr r (IsEnding k m a c)
cause_since k n m a b c (Ok v) p i = i
cause_since k n m a b c (Err e) p i = ending_since k n m a b c e p i

-- ---- what begins no frame ----

-- where the nodes say of none, it may end so
pub none_off : {R : Type 0} (off : Option WireFault) (r : Result R Ended) → off ≡ None → EndsOff off r
none_off None r h = tt
none_off (Some fault) r h = absurd cc

-- where it goes on they say of none
pub goes_unoff : {R : Type 0} (off : Option WireFault) (v : R) → EndsOff off (Ok v) → off ≡ None
goes_unoff None v h = refl
goes_unoff {R} (Some fault) v h = (let wrong : Ok v ≡ Err (ends.BadFrame fault) = h in absurd cc)

pub err_is : (R : Type 0) (e f : Ended) → ◌≡◌ {A = Result R Ended} (Err e) (Err f) → e ≡ f
err_is R e f h = cc

-- an ending, whatever is given where it goes on
pub ends_as : (Q R : Type 0) (off : Option WireFault) (e : Ended) → EndsOff {T = Q} off (Err e) → EndsOff {T = R} off (Err e)
ends_as Q R None e h = tt
ends_as Q R (Some fault) e h = ap (λ (x : Ended). Err x) (err_is Q e (ends.BadFrame fault) h)

-- an answer that begins no frame ends it
pub missed_off : (before off : Option WireFault) (fault : Fault) → KeepsFrame before off (Err fault) → before ≡ None → EndsOff off (missed_by fault)
missed_off before off faults.Link k h = none_off off (missed_by faults.Link) (k ∙ h)
missed_off before off faults.NoMemory k h = none_off off (missed_by faults.NoMemory) (k ∙ h)
missed_off before off (faults.BadFrame frame) k h = subst (λ (x : Option WireFault). EndsOff x (missed_by (faults.BadFrame frame))) (sym k) refl

-- the same of how it ended
pub none_ended : (off : Option WireFault) (e : Ended) → off ≡ None → EndedOff off e
none_ended None e h = tt
none_ended (Some fault) e h = absurd cc

pub goes_ended : {R : Type 0} (off : Option WireFault) (v : R) (e : Ended) → EndsOff off (Ok v) → EndedOff off e
goes_ended off v e h = none_ended off e (goes_unoff off v h)

pub err_ended : (R : Type 0) (off : Option WireFault) (e : Ended) → EndsOff {T = R} off (Err e) → EndedOff off e
err_ended R None e h = tt
err_ended R (Some fault) e h = err_is R e (ends.BadFrame fault) h
