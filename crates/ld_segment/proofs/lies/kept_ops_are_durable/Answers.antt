use Rattle.ld_segment.proofs.Sound.{sound_kept}
use Rattle.ld_segment.proofs.OpRow.{kept_made}
use Rattle.ld_segment.proofs.Durable.{all_lie, all_safe, all_read}
use Rattle.ld_segment.proofs.lies.kept_ops_are_durable.Goals as goal

pub returns-clause-lies : goal.returns-clause-lies
returns-clause-lies c y z o bytes s lies sound may safe = (all_lie y z o bytes s safe lies sound may, all_safe y z o bytes s safe)

pub returns-clause-sound : goal.returns-clause-sound
returns-clause-sound c y o sound may = sound_kept y o sound may

pub returns-clause-plain : goal.returns-clause-plain
returns-clause-plain c y z o bytes s lies sound may safe = all_read y z o bytes s safe lies sound may

pub returns-clause-made : goal.returns-clause-made
returns-clause-made c y z o bytes lies sound may = let made = kept_made y z bytes o lies sound may in (made.lies, made.plain)
