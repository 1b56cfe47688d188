use Rattle.ld_segment.proofs.OpRow.{kept_or_not}
use Rattle.ld_segment.proofs.lies.kept_ops_or_not.Goals as goal

pub returns : goal.returns
returns c y z o b after lies sound may torn = kept_or_not y z b o lies sound may after torn
