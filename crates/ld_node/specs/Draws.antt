-- A draw that is answered, and one that is refused.
use Rattle.std.specs.Prelude.{Ok, Err}
use Rattle.std.specs.declared.result.Result.{Result}
use Rattle.ld_register.specs.declared.fault.RegisterFault.{RegisterFault}
use Rattle.ld_register.specs.declared.register.Drawn.{Drawn}

abbrev pub answered : Drawn → Result Drawn RegisterFault
answered drawn = Ok drawn

abbrev pub not_drawn : RegisterFault → Result Drawn RegisterFault
not_drawn fault = Err fault
