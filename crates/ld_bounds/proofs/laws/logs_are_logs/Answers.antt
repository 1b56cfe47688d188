use Rattle.ld_bounds.proofs.Configs.{log_is}
use Rattle.ld_bounds.proofs.laws.logs_are_logs.Goals as goal

pub returns : goal.returns
returns c = λ k l b h. log_is k b l h
