use Rattle.ld_disk.proofs.Told.{told_reads, sound_reads}
use Rattle.ld_disk.proofs.laws.reads_are_fine.Goals as goal

pub returns-clause-told : goal.returns-clause-told
returns-clause-told c k how p told = told_reads k how p told

pub returns-clause-sound : goal.returns-clause-sound
returns-clause-sound c p is = sound_reads p is
