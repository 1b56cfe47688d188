-- A stream gives the same messages however it is cut.
use Rattle.std.proofs.Common.{◌≡◌, ◌≤◌, ℕ, suc, zero, List, [], ◌∷◌, ◌++◌, refl, ap, sym, ◌∙◌, append_assoc, length, Option, None, Some, arith}
use Rattle.std.proofs.lemmas.List.{append-nil}
use Rattle.ld_msg.specs.declared.msg.Msg.{Msg}
use Rattle.ld_wire.specs.declared.fault.WireFault.{WireFault}
use Rattle.ld_wire.specs.Frames.{frame_of}
use Rattle.ld_wire.specs.Judging.{Reading, Complete, Waits, Refused, judge}
use Rattle.ld_wire.specs.Streams.{Drained, first, onward, drained_by, drained, fed_with, fed, all_fed, joined, AreMessages, frames_of, untouched}
use Rattle.ld_wire.proofs.Judges.{judge_frame, judge_less, complete_extends, refused_extends}

judge_none : judge [] ≡ Waits
unfolding judge
judge_none = refl

onward_same : (r : Reading) (bs : List ℕ) (f g : List ℕ → Drained) → ((m : Msg) (rest : List ℕ) → r ≡ Complete m rest → f rest ≡ g rest) → onward r bs f ≡ onward r bs g
onward_same (Complete m rest) bs f g h = ap (first m) (h m rest refl)
onward_same Waits bs f g h = refl
onward_same (Refused e) bs f g h = refl

empty_by : (n : ℕ) → drained_by n [] ≡ untouched
unfolding drained_by
empty_by zero = refl
empty_by (suc n) = ap (λ r. onward r [] (drained_by n)) judge_none

no_bytes : (bs : List ℕ) → length bs ≤ 0 → bs ≡ []
no_bytes [] h = refl
no_bytes (b ∷ bs) h = absurd (omega arith)

-- so many tries are enough
enough : (n k : ℕ) (bs : List ℕ) → length bs ≤ n → length bs ≤ k → drained_by n bs ≡ drained_by k bs
unfolding drained_by
enough zero k bs h l = let e = no_bytes bs h in ap (drained_by zero) e ∙ (empty_by zero ∙ (sym (empty_by k) ∙ ap (drained_by k) (sym e)))
enough (suc n) zero bs h l = let e = no_bytes bs l in ap (drained_by (suc n)) e ∙ (empty_by (suc n) ∙ (sym (empty_by zero) ∙ ap (drained_by zero) (sym e)))
enough (suc n) (suc k) bs h l = onward_same (judge bs) bs (drained_by n) (drained_by k) (λ m rest e. let s = judge_less bs m rest e in enough n k rest (omega arith) (omega arith))

-- one frame after the other
drained_step : (bs : List ℕ) → drained bs ≡ onward (judge bs) bs drained
unfolding drained drained_by
drained_step [] = sym (ap (λ r. onward r [] drained) judge_none)
drained_step (b ∷ bs) = onward_same (judge (b ∷ bs)) (b ∷ bs) (drained_by (length bs)) drained (λ m rest e. let s = judge_less (b ∷ bs) m rest e in enough (length bs) (length rest) rest (omega arith) (omega arith))

pub drained_complete : (bs : List ℕ) (m : Msg) (rest : List ℕ) → judge bs ≡ Complete m rest → drained bs ≡ first m (drained rest)
drained_complete bs m rest e = drained_step bs ∙ ap (λ r. onward r bs drained) e

pub drained_waits : (bs : List ℕ) → judge bs ≡ Waits → drained bs ≡ record { messages = []; rest = bs; fault = None }
drained_waits bs e = drained_step bs ∙ ap (λ r. onward r bs drained) e

pub drained_refused : (bs : List ℕ) (f : WireFault) → judge bs ≡ Refused f → drained bs ≡ record { messages = []; rest = bs; fault = Some f }
drained_refused bs f e = drained_step bs ∙ ap (λ r. onward r bs drained) e

fed_first_with : (o : Option WireFault) (m : Msg) (d : Drained) (piece : List ℕ) → fed_with o (first m d) piece ≡ first m (fed_with o d piece)
fed_first_with None m d piece = refl
fed_first_with (Some f) m d piece = refl

fed_first : (m : Msg) (d : Drained) (piece : List ℕ) → fed (first m d) piece ≡ first m (fed d piece)
fed_first m d piece = fed_first_with d.fault m d piece

fed_by : (n : ℕ) (xs ys : List ℕ) (r : Reading) → length xs ≤ n → judge xs ≡ r → fed (drained xs) ys ≡ drained (xs ++ ys)
fed_by zero xs ys (Complete m rest) h e = let s = judge_less xs m rest e in absurd (omega arith)
fed_by (suc n) xs ys (Complete m rest) h e = let s = judge_less xs m rest e in
    ap (λ d. fed d ys) (drained_complete xs m rest e) ∙ (fed_first m (drained rest) ys
    ∙ (ap (first m) (fed_by n rest ys (judge rest) (omega arith) refl) ∙ sym (drained_complete (xs ++ ys) m (rest ++ ys) (complete_extends xs ys m rest e))))
fed_by n xs ys Waits h e = ap (λ d. fed d ys) (drained_waits xs e)
fed_by n xs ys (Refused f) h e = ap (λ d. fed d ys) (drained_refused xs f e) ∙ sym (drained_refused (xs ++ ys) f (refused_extends xs ys f e))

pub fed_on : (xs ys : List ℕ) → fed (drained xs) ys ≡ drained (xs ++ ys)
fed_on xs ys = fed_by (length xs) xs ys (judge xs) (omega arith) refl

all_on : (xs : List ℕ) (pieces : List (List ℕ)) → all_fed (drained xs) pieces ≡ drained (xs ++ joined pieces)
all_on xs [] = ap drained (sym (append-nil xs))
all_on xs (piece ∷ pieces) = ap (λ d. all_fed d pieces) (fed_on xs piece) ∙ (all_on (xs ++ piece) pieces ∙ ap drained (append_assoc xs piece (joined pieces)))

none_drained : drained [] ≡ untouched
none_drained = drained_waits [] judge_none

pub any_cutting : (pieces : List (List ℕ)) → all_fed untouched pieces ≡ drained (joined pieces)
any_cutting pieces = ap (λ d. all_fed d pieces) (sym none_drained) ∙ all_on [] pieces

frames_drained : (ms : List Msg) → AreMessages ms → drained (frames_of ms) ≡ record { messages = ms; rest = []; fault = None }
frames_drained [] h = none_drained
frames_drained (m ∷ ms) h = drained_complete (frame_of m ++ frames_of ms) m (frames_of ms) (judge_frame m (frames_of ms) h.0) ∙ ap (first m) (frames_drained ms h.1)

pub all_taken : (ms : List Msg) (pieces : List (List ℕ)) → AreMessages ms → joined pieces ≡ frames_of ms → all_fed untouched pieces ≡ record { messages = ms; rest = []; fault = None }
all_taken ms pieces h e = any_cutting pieces ∙ (ap drained e ∙ frames_drained ms h)
