-- What holds of a register's answers whatever it holds: numbers in their bounds, and which refusals never come.
use Rattle.std.specs.Prelude.{◌≡◌, ◌≢◌, ◌≤◌, ◌-◌, ◌^◌, ℕ, Bool, true, Option, Err, IfOk, IfSome, OnErr, IsErrOf}
use Rattle.std.specs.declared.result.Result.{Result}
use Rattle.ld_ids.specs.declared.set.Spec.{Spec}
use Rattle.ld_op.specs.Bounds.{IsOp}
use Rattle.ld_op.specs.declared.op.Op.TheVariants.{Format}
use Rattle.ld_register.specs.Bounds.{IsSpecFor}
use Rattle.ld_register.specs.Calls.{IsGrant, IsView, IsFree}
use Rattle.ld_register.specs.declared.fault.RegisterFault.{RegisterFault}
use Rattle.ld_register.specs.declared.fault.RegisterFault.TheVariants as faults
use Rattle.ld_register.specs.declared.register.Grant.{Grant}
use Rattle.ld_register.specs.declared.register.Drawn.{Drawn}
use Rattle.ld_register.specs.declared.register.View.{View}

pub record ActivationFits (log : ℕ) (result : Result Grant RegisterFault) : Type 0 where
  pub bounds : IfOk result (IsGrant log)
  pub behind : (lce : ℕ) (next : Option Spec) → result ≢ Err (faults.Behind lce next)
  pub overtaken : (kept : ℕ) → result ≢ Err (faults.Overtaken kept)
  pub generations : result ≢ Err faults.GenLimit
  pub swaps : result ≢ Err faults.SwapLimit

pub record CloseFits (log ballot : ℕ) (short : Bool) (result : Result (Option Spec) RegisterFault) : Type 0 where
  pub next : IfOk result (λ next. IfSome next (IsSpecFor log))
  pub bounds : (lce : ℕ) (next : Option Spec) → IsErrOf result (faults.Behind lce next) → (lce ≤ 2 ^ 32 - 2) × IfSome next (IsSpecFor log)
  pub overtaken : (kept : ℕ) → IsErrOf result (faults.Overtaken kept) → (short ≡ true) × (kept ≤ 2 ^ 32 - 2) × (kept ≢ ballot)
  pub epochs : result ≢ Err faults.EpochLimit
  pub generations : result ≢ Err faults.GenLimit
  pub swaps : result ≢ Err faults.SwapLimit

pub record DrawFits (result : Result Drawn RegisterFault) : Type 0 where
  pub bounds : IfOk result (λ drawn. IsOp (Format drawn.gen_ drawn.epochs))
  pub logs : result ≢ Err faults.LogLimit
  pub behind : (lce : ℕ) (next : Option Spec) → result ≢ Err (faults.Behind lce next)
  pub overtaken : (kept : ℕ) → result ≢ Err (faults.Overtaken kept)
  pub epochs : result ≢ Err faults.EpochLimit
  pub swaps : result ≢ Err faults.SwapLimit

pub record SwapFits (result : Result ℕ RegisterFault) : Type 0 where
  pub logs : result ≢ Err faults.LogLimit
  pub behind : (lce : ℕ) (next : Option Spec) → result ≢ Err (faults.Behind lce next)
  pub overtaken : (kept : ℕ) → result ≢ Err (faults.Overtaken kept)
  pub epochs : result ≢ Err faults.EpochLimit
  pub generations : result ≢ Err faults.GenLimit

pub record LookFits (log e : ℕ) (result : Result View RegisterFault) : Type 0 where
  pub view : IfOk result (IsView log e)
  pub free : OnErr result (IsFree result)
