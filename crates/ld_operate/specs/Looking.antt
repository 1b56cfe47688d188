-- How looks at a register end, and what they leave.
use Rattle.std.specs.Prelude.{ℕ, ◌≡◌, ◌≤◌}
use Rattle.ld_io.specs.Causes.{Rose}
use Rattle.ld_msg.specs.Register.{Register}
use Rattle.ld_register.specs.declared.fault.RegisterFault.{RegisterFault}
use Rattle.ld_register.specs.declared.fault.RegisterFault.TheVariants as registers
use Rattle.ld_operate.specs.declared.stop.LookStop.{LookStop}
use Rattle.ld_operate.specs.declared.stop.LookStop.TheVariants as stops

abbrev pub stop_of : RegisterFault → LookStop
stop_of registers.NoMemory = stops.NoMemory
stop_of (registers.Damaged place) = stops.Damaged place
stop_of _ = stops.Register

-- a look failed, as the register's counts of faults before and now say; or the register is damaged from that place on; or there is no memory left
abbrev pub IsLookStop : (ℕ → Type 0) → ℕ → ℕ → LookStop → Type 0
IsLookStop damaged before now stops.Register = Rose before now
IsLookStop damaged before now (stops.Damaged place) = damaged place
IsLookStop damaged before now stops.Write = ⊥
IsLookStop damaged before now stops.NoMemory = Unit {0}

-- that, or a write failed, as the output's counts say
abbrev pub IsStop : (ℕ → Type 0) → ℕ → ℕ → ℕ → ℕ → LookStop → Type 0
IsStop damaged register_before register_now before now stops.Register = Rose register_before register_now
IsStop damaged register_before register_now before now (stops.Damaged place) = damaged place
IsStop damaged register_before register_now before now stops.Write = Rose before now
IsStop damaged register_before register_now before now stops.NoMemory = Unit {0}

-- looks change nothing of a register
pub record OnlyLooks (told_old told_new : Type 0) (may_old may_new tells_old tells_new : Register → Type 0) (faults_old faults_new identity_old identity_new : ℕ) : Type 0 where
  pub told : told_old → told_new
  pub same : (c : Register) → may_new c → may_old c
  pub exact : (c : Register) → tells_old c → tells_new c
  pub counts : faults_old ≤ faults_new
  pub itself : identity_new ≡ identity_old
