use Rattle.ld_bounds.proofs.Fewness.{room_there, epochs_rise}
use Rattle.ld_bounds.proofs.laws.logs_are_few.Goals as goal

pub returns-clause-room : goal.returns-clause-room
returns-clause-room c = λ k s l b h i. room_there k b s.register l h.register i

pub returns-clause-epochs : goal.returns-clause-epochs
returns-clause-epochs c = λ k s b h. epochs_rise k b s.register h.register
