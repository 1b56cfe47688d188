use Rattle.std.proofs.Common.{refl}
use Rattle.ld_node.specs.Known.{known_in}
use Rattle.ld_node.specs.Node.{disk_of}
use Rattle.ld_mend.specs.Standing.{IsThere, at_of, logs_of}
use Rattle.ld_mend.proofs.Causes.{ended_since}
use Rattle.ld_mend.proofs.Logs.{finish_by}
use Rattle.ld_mend.proofs.mending.mend.Goals as goal

pub returns-clause-mended : goal.returns-clause-mended
returns-clause-mended g c r asked far there held told =
    finish_by (g.N.Nodes.silent c.go_round.new.nodes)
    (IsThere g.D.Disk.seen g.D.Disk.may_leave c.args.id (known_in c.args.config.now) c.go_round.new.node × g.G.Register.holds c.go_round.new.reg r)
    (IsThere g.D.Disk.seen g.D.Disk.may_leave c.args.id (known_in c.args.config.now) c.tell.new.node) (g.G.Register.holds c.tell.new.reg r) (g.N.Nodes.tells c.go_round.new.nodes c.args.config.now)
    c.args.id (known_in c.args.config.now) c.args.config.now r (g.D.Disk.may_leave (disk_of c.tell.new.node)) (at_of c.args.node.now asked far) (at_of c.go_round.new.node) (at_of c.tell.new.node) (logs_of c.args.config.now.logs)
    (g.O.Sink.written c.args.out.now) (g.O.Sink.written c.go_round.new.out) (g.O.Sink.written c.tell.new.out) (λ last f. refl) c.tell.result
    (c.in_ok-go_round.ensures.moved r asked far there held told) (λ last f at. c.tell.ensures.moved r last f at.0 at.1)

pub returns-clause-disk_counts : goal.returns-clause-disk_counts
returns-clause-disk_counts g c = ended_since _ _ _ c.tell.result c.in_ok-go_round.ensures.disk_counts c.tell.ensures.disk_counts
