use Rattle.ld_clients.proofs.Refusing.{register_line}
use Rattle.ld_clients.proofs.report.register_refusal.Goals as goal

pub returns-in_default : goal.returns-in_default
returns-in_default c = register_line c.args.name c.args.refusal.now c.in_default.not-EpochLimit
