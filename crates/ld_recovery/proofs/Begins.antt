-- Lists that begin with a list.
use Rattle.std.proofs.Common.{◌≡◌, ℕ, List, ◌++◌, length, take, drop, ap, sym, ◌∙◌, arith}
use Rattle.std.proofs.lemmas.List.{length-take, take-append-le, take-append-drop, take_all}
use Rattle.ld_recovery.specs.Sending.{BeginsWith}

pub begins_itself : {X : Type 0} (xs : List X) → BeginsWith xs xs
begins_itself xs = take_all (length xs) xs (omega arith)

pub begins_on : {X : Type 0} (old out more now : List X) → now ≡ out ++ more → BeginsWith old out → BeginsWith old now
begins_on old out more now e b =
    let c = ap length b in
    let d = length-take (length old) out in
    ap (take (length old)) e ∙ (take-append-le (length old) out more (omega arith) ∙ b)

pub taken_back : {X : Type 0} (old out now : List X) (n : ℕ) → n ≡ length old → now ≡ take n out → BeginsWith old out → now ≡ old
taken_back old out now n e t b = t ∙ (ap (λ k. take k out) e ∙ b)

pub begins_then : {X : Type 0} (old out now : List X) → BeginsWith out now → BeginsWith old out → BeginsWith old now
begins_then {X = X} old out now c b =
    begins_on old out (drop (length out) now) now (sym (ap (λ (l : List X). l ++ drop (length out) now) (sym c) ∙ take-append-drop (length out) now)) b

pub ruleset begin_rules = (begins_itself, begins_on, begins_then)

pub ruleset back_rules = (taken_back)
