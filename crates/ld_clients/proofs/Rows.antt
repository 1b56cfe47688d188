-- Chosen steps.
use Rattle.std.proofs.Common.{◌≡◌, Bool, true, false, ◌&&◌, Ok, Err, IfOk, OnOk, OnErr, refl, if◌then◌else◌}
use Rattle.std.specs.declared.result.Result.{Result}
use Rattle.ld_machine.specs.State.{Done}

pub if_yes : (b : Bool) (d e : Done) → b ≡ true → (if b then d else e) ≡ d
if_yes true d e h = refl
if_yes false d e h = absurd cc

pub if_not : (b : Bool) (d e : Done) → b ≡ false → (if b then d else e) ≡ e
if_not true d e h = absurd cc
if_not false d e h = refl

pub and_yes : (a b : Bool) → a ≡ true → b ≡ true → (a && b) ≡ true
and_yes true b h k = k
and_yes false b h k = absurd cc

pub no_and : (a b : Bool) → a ≡ false → (a && b) ≡ false
no_and true b h = absurd cc
no_and false b h = refl

pub and_no : (a b : Bool) → b ≡ false → (a && b) ≡ false
and_no true b h = h
and_no false b h = refl

pub on_ok : {T E : Type 0} (P Q : T → Type 0) (r : Result T E) → ((x : T) → P x → Q x) → IfOk r P → IfOk r Q
on_ok P Q (Ok x) f h = f x h
on_ok P Q (Err e) f h = tt

pub on_done : {T E : Type 0} (P Q : Type 0) (r : Result T E) → (P → Q) → OnOk r P → OnOk r Q
on_done P Q (Ok x) f h = f h
on_done P Q (Err e) f h = tt

pub on_err : {T E : Type 0} (P Q : Type 0) (r : Result T E) → (P → Q) → OnErr r P → OnErr r Q
on_err P Q (Ok x) f h = tt
on_err P Q (Err e) f h = f h
