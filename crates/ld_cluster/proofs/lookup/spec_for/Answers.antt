use Rattle.std.proofs.Common.{sym, ap, ◌∙◌}
use Rattle.ld_cluster.proofs.Logs.{no_spec_in}
use Rattle.ld_cluster.proofs.lookup.spec_for.Goals as goal

pub returns-in-None : goal.returns-in-None
returns-in-None c = ap (λ x. record { log = c.args.log; set = x; r = 0; extras = 0 }) c.empty.ensures ∙ sym (no_spec_in c.args.log c.args.config.now.logs c.in-None.ensures.none)
