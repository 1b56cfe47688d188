-- Lists of calls of a register, each with its answer, and the contents that they lead to.
use Rattle.std.specs.Prelude.{◌≡◌, ◌⊎◌, ℕ, Bool, Option, List, [], ◌∷◌, Ok}
use Rattle.std.specs.declared.result.Result.{Result}
use Rattle.ld_ids.specs.declared.set.Spec.{Spec}
use Rattle.ld_msg.specs.declared.msg.Summary.{Summary}
use Rattle.ld_msg.specs.Register.{Register}
use Rattle.ld_register.specs.declared.fault.RegisterFault.{RegisterFault}
use Rattle.ld_register.specs.declared.register.Grant.{Grant}
use Rattle.ld_register.specs.declared.register.Drawn.{Drawn}
use Rattle.ld_register.specs.declared.register.View.{View}
use Rattle.ld_register.specs.Calls.{IsFree, activated, after_activate, closed, after_close, drawn, after_draw, swapped, after_swap, looked}

-- a call and its answer
pub data Call : Type 0 where
  Activates : (spec : Spec) → (answer : Result Grant RegisterFault) → Call
  Closes : (log epoch : ℕ) → (summary : Summary) → (short : Bool) → (answer : Result (Option Spec) RegisterFault) → Call
  Draws : (node : ℕ) → (answer : Result Drawn RegisterFault) → Call
  Swaps : (log upto old new : ℕ) → (answer : Result ℕ RegisterFault) → Call
  Looks : (log epoch : ℕ) → (answer : Result View RegisterFault) → Call

-- a call that answers by the contents before it has made its change, and one that fails has made it or not
abbrev pub Ends : {T : Type 0} → Result T RegisterFault → Result T RegisterFault → Register → Register → Register → Type 0
Ends result answer before changed after = (IsFree result × ((after ≡ before) ⊎ (after ≡ changed))) ⊎ ((result ≡ answer) × (after ≡ changed))

abbrev pub Passes : Register → Call → Register → Type 0
Passes c (Activates s result) d = Ends result (activated c s) c (after_activate c s) d
Passes c (Closes l e y short result) d = Ends result (closed c l e y short) c (after_close c l e y short) d
Passes c (Draws n result) d = Ends result (drawn c n) c (after_draw c n) d
Passes c (Swaps l upto old new result) d = Ends result (swapped c l upto old new) c (after_swap c l upto old new) d
Passes c (Looks l e result) d = Ends result (Ok (looked c l e)) c c d

-- the calls, one after the other, lead from these contents to those
abbrev pub Runs : Register → List Call → Register → Type 0
Runs c [] d = c ≡ d
Runs c (x ∷ xs) d = (b : Register) × Passes c x b × Runs b xs d
