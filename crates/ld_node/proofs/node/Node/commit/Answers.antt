use Rattle.std.proofs.lemmas.Result.{err_from_is_err_and}
use Rattle.ld_node.proofs.Refusals.{disk_or}
use Rattle.ld_node.proofs.node.Node.commit.Goals as goal

pub returns-in_err-commit-clause-holds : goal.returns-in_err-commit-clause-holds
returns-in_err-commit-clause-holds g c p holds =
    let q = err_from_is_err_and c.from_residual.result c.from_residual.ensures.1 in
    rw (q.1, q.2) (disk_or c.in_err-commit.field-0.0 _ (c.in_err-commit.ensures.holds p holds))
