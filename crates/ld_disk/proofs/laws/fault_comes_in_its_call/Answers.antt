use Rattle.ld_disk.proofs.Told.{fault_comes, fault_passes, sound_stays}
use Rattle.ld_disk.proofs.laws.fault_comes_in_its_call.Goals as goal

pub returns-clause-comes : goal.returns-clause-comes
returns-clause-comes c calls k how p told most = fault_comes calls k how p told most

pub returns-clause-passes : goal.returns-clause-passes
returns-clause-passes c calls k how p told less = fault_passes calls k how p told less

pub returns-clause-sound : goal.returns-clause-sound
returns-clause-sound c calls p is = sound_stays calls p is
