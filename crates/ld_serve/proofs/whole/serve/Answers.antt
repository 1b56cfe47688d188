use Rattle.std.proofs.Common.{sym, subst}
use Rattle.std.specs.Prelude.{IfErr}
use Rattle.ld_node.specs.Known.{known_in}
use Rattle.ld_serve.specs.Complete.{IsFaultOrLimit}
use Rattle.ld_serve.proofs.Completing.{completes}
use Rattle.ld_serve.proofs.whole.serve.Goals as goal

pub returns-clause-complete : goal.returns-clause-complete
returns-clause-complete g c start bytes told spoken is may =
    subst (λ r. IfErr r IsFaultOrLimit) (sym c.let_go.ensures.served)
    (completes (g.D.Disk.faults c.args.disk.now) _ (g.D.Disk.seen c.args.disk.now) _ (g.D.Disk.may_leave c.args.disk.now) _ (g.G.Register.faults c.args.reg.now) _
    (g.G.Register.told c.args.reg.now) (g.G.Register.holds c.args.reg.now) _ (g.G.Register.damaged c.args.reg.now) c.args.id (known_in c.args.config.now) c.args.format
    _ _ _ start bytes _ spoken is may (c.serve_on-disk.ensures.stopped start told))
