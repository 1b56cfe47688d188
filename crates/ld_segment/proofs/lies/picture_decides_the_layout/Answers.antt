use Rattle.ld_segment.proofs.OpPictures.{decided}
use Rattle.ld_segment.proofs.lies.picture_decides_the_layout.Goals as goal

pub returns-clause-lies : goal.returns-clause-lies
returns-clause-lies c y z o bytes call how later p lies sound may safe told most = let left = decided y z bytes o lies sound may call how later p safe told most in (left.0, left.1.lies)

pub returns-clause-plain : goal.returns-clause-plain
returns-clause-plain c y z o bytes call how later p lies sound may safe told most = (decided y z bytes o lies sound may call how later p safe told most).1.plain
