use Rattle.std.proofs.Common.{inl, inr, refl}
use Rattle.ld_shared.proofs.Changing.{no_calls, calls_more, stands_change, late_change}
use Rattle.ld_shared.proofs.laws.records_are_calls.Goals as goal
use Rattle.ld_register.specs.declared.fault.RegisterFault.TheVariants as faults
use Rattle.ld_register.specs.Histories.{Activates, Closes, Draws, Swaps}
use Rattle.ld_shared.specs.Says.{refusal}

pub returns-clause-none : goal.returns-clause-none
returns-clause-none c = no_calls

pub returns-clause-one_more : goal.returns-clause-one_more
returns-clause-one_more c values value calls change = calls_more values value calls change

pub returns-clause-answered : goal.returns-clause-answered
returns-clause-answered c values s stands makes = stands_change values s stands makes

pub returns-clause-activated : goal.returns-clause-activated
returns-clause-activated c own values u spec late at = late_change own values _ u (Activates spec (refusal faults.Failed)) late at (λ b. inl (tt, inr refl))

pub returns-clause-closed : goal.returns-clause-closed
returns-clause-closed c own values u l e y short late at = late_change own values _ u (Closes l e y short (refusal faults.Failed)) late at (λ b. inl (tt, inr refl))

pub returns-clause-drawn : goal.returns-clause-drawn
returns-clause-drawn c own values u n late at = late_change own values _ u (Draws n (refusal faults.Failed)) late at (λ b. inl (tt, inr refl))

pub returns-clause-swapped : goal.returns-clause-swapped
returns-clause-swapped c own values u l upto member spare late at = late_change own values _ u (Swaps l upto member spare (refusal faults.Failed)) late at (λ b. inl (tt, inr refl))
