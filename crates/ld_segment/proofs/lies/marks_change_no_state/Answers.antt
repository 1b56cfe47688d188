use Rattle.ld_segment.proofs.MarkRow.{mark_torn, mark_made, mark_fits, sound_marked}
use Rattle.ld_segment.proofs.lies.marks_change_no_state.Goals as goal

pub returns-clause-torn : goal.returns-clause-torn
returns-clause-torn c y z b after lies sound fits still torn = mark_torn y z b lies sound fits still after torn

pub returns-clause-made : goal.returns-clause-made
returns-clause-made c y z b lies sound fits still = let made = mark_made y z b lies sound fits still in (made.lies, made.plain)

pub returns-clause-sound : goal.returns-clause-sound
returns-clause-sound c y sound fits = sound_marked y sound fits

pub returns-clause-fits : goal.returns-clause-fits
returns-clause-fits c y z b lies sound fits still = mark_fits y z b lies sound fits still
