use Rattle.std.proofs.Common.{◌∙◌, refl, inr, arith}
use Rattle.std.proofs.lemmas.Result.{err_from_is_err_and}
use Rattle.ld_node.specs.Known.{known_in}
use Rattle.ld_node.specs.Node.{disk_of}
use Rattle.ld_mend.specs.Standing.{IsThere, at_of}
use Rattle.ld_mend.proofs.Causes.{stop_since, counts_since}
use Rattle.ld_mend.proofs.Going.{moved_here}
use Rattle.ld_mend.proofs.Logs.{log_known, drives_on, halts_on}
use Rattle.ld_mend.proofs.mending.round.Goals as goal

pub logs-init : goal.logs-init
logs-init g c = (
  c.len-place-end.ensures,
  record {
    formatted = c.requires.formatted;
    works = c.requires.works;
    moved = λ r asked far there held told. inr (record {
      asked = asked;
      drove = record { there = (there, held); far = far; told_far = told; hushes = λ silent h. h; moved = moved_here c.args.id (known_in c.args.config.now) c.args.config.now r (at_of c.args.node.now asked far) (g.O.Sink.written c.args.out.now) };
    });
    silent = λ h. h;
    later = record { disk = omega arith; register = omega arith; output = omega arith };
    told = λ h. h;
    itself = refl;
    disk = refl;
    lent = refl;
  },
)

pub returns-in_err-whole-clause-moved : goal.returns-in_err-whole-clause-moved
returns-in_err-whole-clause-moved g c r asked far there held told =
    let p = err_from_is_err_and c.from_residual.result c.from_residual.ensures.1 in
    rw (p.1, p.2) (halts_on (g.N.Nodes.silent c.logs.nodes) (g.N.Nodes.silent c.turn.new.nodes) c.in_err-whole.ensures.silent
    (IsThere g.D.Disk.seen g.D.Disk.may_leave c.args.id (known_in c.args.config.now) c.logs.node × g.G.Register.holds c.logs.reg r) (g.N.Nodes.tells c.logs.nodes c.args.config.now) c.args.id (known_in c.args.config.now) c.args.config.now r (at_of c.args.node.now asked far) (at_of c.logs.node)
    (g.O.Sink.written c.args.out.now) (g.O.Sink.written c.logs.out) (g.O.Sink.written c.turn.new.out) (λ last f. refl) (g.D.Disk.may_leave (disk_of c.turn.new.node)) c.in_err-whole.field-0.0 (c.logs.invariant.1.moved r asked far there held told)
    (λ last f at heard. c.in_err-whole.ensures.moved (known_in c.args.config.now) c.args.config.now r last f at.0 (log_known c.args.config.now.logs c.logs.place c.log_at-log.result c.log_at-log.ensures) at.1 heard))

pub returns-in_err-whole-clause-cause : goal.returns-in_err-whole-clause-cause
returns-in_err-whole-clause-cause g c =
    let p = err_from_is_err_and c.from_residual.result c.from_residual.ensures.1 in
    rw (p.1, p.2) (stop_since _ _ _ _ _ _ c.in_err-whole.field-0.0
    (λ place d. record { register = d.register; same = d.same ∙ c.logs.invariant.1.itself; still = λ tells. d.still (c.logs.invariant.1.told tells); there = d.there })
    c.logs.invariant.1.later c.in_err-whole.ensures.cause)

pub logs-preserved : goal.logs-preserved
logs-preserved g c = (
  c.logs.invariant.0,
  record {
    formatted = c.in_ok-whole.ensures.rest;
    works = c.in_ok-whole.ensures.works;
    moved = λ r asked far there held told. drives_on (g.N.Nodes.silent c.logs.nodes) (g.N.Nodes.silent c.turn.new.nodes) c.in_ok-whole.ensures.silent
        (IsThere g.D.Disk.seen g.D.Disk.may_leave c.args.id (known_in c.args.config.now) c.logs.node × g.G.Register.holds c.logs.reg r) (g.N.Nodes.tells c.logs.nodes c.args.config.now) c.args.id (known_in c.args.config.now) c.args.config.now r (at_of c.args.node.now asked far) (at_of c.logs.node)
        (g.O.Sink.written c.args.out.now) (g.O.Sink.written c.logs.out) (g.O.Sink.written c.turn.new.out) (λ last f. refl) (IsThere g.D.Disk.seen g.D.Disk.may_leave c.args.id (known_in c.args.config.now) c.turn.new.node × g.G.Register.holds c.turn.new.reg r) (g.N.Nodes.tells c.turn.new.nodes c.args.config.now) (at_of c.turn.new.node) (c.logs.invariant.1.moved r asked far there held told)
        (λ last f at heard. c.in_ok-whole.ensures.moved (known_in c.args.config.now) c.args.config.now r last f at.0 (log_known c.args.config.now.logs c.logs.place c.log_at-log.result c.log_at-log.ensures) at.1 heard);
    silent = λ h. c.in_ok-whole.ensures.silent (c.logs.invariant.1.silent h);
    later = record { disk = omega (arith, c.logs.invariant.1.later.disk, c.in_ok-whole.ensures.later.disk); register = omega (arith, c.logs.invariant.1.later.register, c.in_ok-whole.ensures.later.register); output = omega (arith, c.logs.invariant.1.later.output, c.in_ok-whole.ensures.later.output) };
    told = λ h. c.in_ok-whole.ensures.told (c.logs.invariant.1.told h);
    itself = c.in_ok-whole.ensures.itself ∙ c.logs.invariant.1.itself;
    disk = c.in_ok-whole.ensures.disk_counts ∙ c.logs.invariant.1.disk;
    lent = c.in_ok-whole.ensures.lent ∙ c.logs.invariant.1.lent;
  },
)

pub returns-in_err-whole-clause-disk_counts : goal.returns-in_err-whole-clause-disk_counts
returns-in_err-whole-clause-disk_counts g c =
    let p = err_from_is_err_and c.from_residual.result c.from_residual.ensures.1 in
    rw (p.1, p.2) (counts_since _ _ _ _ c.logs.invariant.1.disk c.in_err-whole.ensures.disk_counts)

pub returns-clause-disk_counts : goal.returns-clause-disk_counts
returns-clause-disk_counts g c = c.logs.invariant.1.disk
