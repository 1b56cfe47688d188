-- Lists of writing calls, one after the other.
use Rattle.std.proofs.Common.{◌≡◌, refl, ℕ, List, [], ◌∷◌, ◌++◌, length, take, Option, Some, Bool, true, false, if◌then◌else◌, is_ok, Result, Ok, Err, sym, ap, ◌∙◌}
use Rattle.std.specs.Result.{IsErr}
use Rattle.ld_disk.specs.Plain.{Plain, Call, after_call, after_calls, all_succeed, succeeds}
use Rattle.ld_segment.specs.Lies.{shut_over}

-- behind calls that all succeed the others go on
abbrev GoOn : List Call → List Call → Plain → Type 0
GoOn first second p = (after_calls (first ++ second) p ≡ after_calls second (after_calls first p)) × (all_succeed (first ++ second) p ≡ all_succeed second (after_calls first p))

go_on_by : (call : Call) (first second : List Call) (p : Plain) (b : Bool) → true ≡ (if b then all_succeed first (after_call call p) else false) → (true ≡ all_succeed first (after_call call p) → GoOn first second (after_call call p))
    → ((if b then after_calls (first ++ second) (after_call call p) else after_call call p) ≡ after_calls second (if b then after_calls first (after_call call p) else after_call call p))
    × ((if b then all_succeed (first ++ second) (after_call call p) else false) ≡ all_succeed second (if b then after_calls first (after_call call p) else after_call call p))
go_on_by call first second p true all later = later all
go_on_by call first second p false all later = absurd (cc all)

go_on : (first second : List Call) (p : Plain) → true ≡ all_succeed first p → GoOn first second p
go_on [] second p all = (refl, refl)
go_on (call ∷ first) second p all = go_on_by call first second p (succeeds p) all (λ rest. go_on first second (after_call call p) rest)

pub two_lists : (first second : List Call) (p : Plain) (now : Option Plain) (ok : Bool) → true ≡ all_succeed first p
    → (now ≡ Some (after_calls second (after_calls first p))) × (ok ≡ all_succeed second (after_calls first p))
    → (now ≡ Some (after_calls (first ++ second) p)) × (ok ≡ all_succeed (first ++ second) p)
two_lists first second p now ok all last =
    let on = go_on first second p all in
    (last.0 ∙ ap Some (sym on.0), last.1 ∙ sym on.1)

pub three_lists : (first second third : List Call) (p : Plain) (now : Option Plain) (ok : Bool) → true ≡ all_succeed first p → true ≡ all_succeed second (after_calls first p)
    → (now ≡ Some (after_calls third (after_calls second (after_calls first p)))) × (ok ≡ all_succeed third (after_calls second (after_calls first p)))
    → (now ≡ Some (after_calls (first ++ (second ++ third)) p)) × (ok ≡ all_succeed (first ++ (second ++ third)) p)
three_lists first second third p now ok all_1 all_2 last = two_lists first (second ++ third) p now ok all_1 (two_lists second third (after_calls first p) now ok all_2 last)

-- one byte over a slot's gate, where it is open
pub shut_is : (is_open : Bool) (n : ℕ) → n ≡ length (shut_over is_open) → take n (0 ∷ []) ≡ shut_over is_open
shut_is true n long = ap (λ (k : ℕ). take k (0 ∷ [])) long
shut_is false n long = ap (λ (k : ℕ). take k (0 ∷ [])) long

-- behind calls that don't all succeed the others aren't made
cut_by : (call : Call) (first second : List Call) (p : Plain) (b : Bool) → (if b then all_succeed first (after_call call p) else false) ≡ false
    → (all_succeed first (after_call call p) ≡ false → (after_calls (first ++ second) (after_call call p) ≡ after_calls first (after_call call p)) × (all_succeed (first ++ second) (after_call call p) ≡ false))
    → ((if b then after_calls (first ++ second) (after_call call p) else after_call call p) ≡ (if b then after_calls first (after_call call p) else after_call call p))
    × ((if b then all_succeed (first ++ second) (after_call call p) else false) ≡ false)
cut_by call first second p true none later = later none
cut_by call first second p false none later = (refl, refl)

cut : (first second : List Call) (p : Plain) → all_succeed first p ≡ false → (after_calls (first ++ second) p ≡ after_calls first p) × (all_succeed (first ++ second) p ≡ false)
cut [] second p none = absurd (cc none)
cut (call ∷ first) second p none = cut_by call first second p (succeeds p) none (λ rest. cut first second (after_call call p) rest)

pub cut_list : (first second : List Call) (p : Plain) (now : Option Plain) (ok : Bool) → ok ≡ false → (now ≡ Some (after_calls first p)) × (ok ≡ all_succeed first p)
    → (now ≡ Some (after_calls (first ++ second) p)) × (ok ≡ all_succeed (first ++ second) p)
cut_list first second p now ok failed last =
    let short = cut first second p (sym last.1 ∙ failed) in
    (last.0 ∙ ap Some (sym short.0), failed ∙ sym short.1)

-- one call
one_by : (call : Call) (p : Plain) (b : Bool) → ((if b then after_call call p else after_call call p) ≡ after_call call p) × ((if b then true else false) ≡ b)
one_by call p true = (refl, refl)
one_by call p false = (refl, refl)

pub then_one : (first : List Call) (call : Call) (p : Plain) (now : Option Plain) (ok : Bool) → true ≡ all_succeed first p
    → (now ≡ Some (after_call call (after_calls first p))) × (ok ≡ succeeds (after_calls first p))
    → (now ≡ Some (after_calls (first ++ call ∷ []) p)) × (ok ≡ all_succeed (first ++ call ∷ []) p)
then_one first call p now ok all last =
    let one = one_by call (after_calls first p) (succeeds (after_calls first p)) in
    two_lists first (call ∷ []) p now ok all (last.0 ∙ ap Some (sym one.0), last.1 ∙ sym one.1)

pub not_ok : {T E : Type 0} (r : Result T E) → IsErr r → is_ok r ≡ false
not_ok (Ok v) is = absurd (cc is)
not_ok (Err e) is = refl
