-- Refusals that may come at any point fit each call.
use Rattle.std.specs.Prelude.{◌≡◌, ℕ, Bool, Option, Err, IfOk, OnErr}
use Rattle.std.proofs.Common.{subst}
use Rattle.std.specs.declared.result.Result.{Result}
use Rattle.std.specs.declared.result.Result.TheVariants as results
use Rattle.ld_ids.specs.declared.set.Spec.{Spec}
use Rattle.ld_register.specs.Calls.{IsFree}
use Rattle.ld_register.specs.declared.fault.RegisterFault.{RegisterFault}
use Rattle.ld_register.specs.declared.register.Grant.{Grant}
use Rattle.ld_register.specs.declared.register.Drawn.{Drawn}
use Rattle.ld_register.specs.declared.register.View.{View}
use Rattle.ld_shared.specs.Fits.{ActivationFits, CloseFits, DrawFits, SwapFits, LookFits}

no_value : {T : Type 0} (P : T → Type 0) (r : Result T RegisterFault) → IsFree r → IfOk r P
no_value P (results.Ok given) free = absurd free
no_value P (results.Err fault) free = tt

free_error : {T : Type 0} (r : Result T RegisterFault) → IsFree r → OnErr r (IsFree r)
free_error (results.Ok given) free = absurd free
free_error (results.Err fault) free = free

-- what is equal to it may come at any point too
same : {T : Type 0} (r : Result T RegisterFault) → IsFree r → (s : Result T RegisterFault) → r ≡ s → IsFree s
same r free s is = subst (λ o. IsFree o) is free

pub activation_free : (log : ℕ) (r : Result Grant RegisterFault) → IsFree r → ActivationFits log r
activation_free log r free = record {
  bounds = no_value _ r free;
  behind = λ lce next is. same r free _ is;
  overtaken = λ kept is. same r free _ is;
  generations = λ is. same r free _ is;
  swaps = λ is. same r free _ is;
}

pub close_free : (log ballot : ℕ) (short : Bool) (r : Result (Option Spec) RegisterFault) → IsFree r → CloseFits log ballot short r
close_free log ballot short r free = record {
  next = no_value _ r free;
  bounds = λ lce next is. absurd (same r free _ is);
  overtaken = λ kept is. absurd (same r free _ is);
  epochs = λ is. same r free _ is;
  generations = λ is. same r free _ is;
  swaps = λ is. same r free _ is;
}

pub draw_free : (r : Result Drawn RegisterFault) → IsFree r → DrawFits r
draw_free r free = record {
  bounds = no_value _ r free;
  logs = λ is. same r free _ is;
  behind = λ lce next is. same r free _ is;
  overtaken = λ kept is. same r free _ is;
  epochs = λ is. same r free _ is;
  swaps = λ is. same r free _ is;
}

pub swap_free : (r : Result ℕ RegisterFault) → IsFree r → SwapFits r
swap_free r free = record {
  logs = λ is. same r free _ is;
  behind = λ lce next is. same r free _ is;
  overtaken = λ kept is. same r free _ is;
  epochs = λ is. same r free _ is;
  generations = λ is. same r free _ is;
}

pub look_free : (log e : ℕ) (r : Result View RegisterFault) → IsFree r → LookFits log e r
look_free log e r free = record { view = no_value _ r free; free = free_error r free }
