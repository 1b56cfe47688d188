use Rattle.std.proofs.Common.{◌∙◌, refl, inr, arith}
use Rattle.std.proofs.lemmas.Result.{err_from_is_err_and}
use Rattle.ld_node.specs.Known.{known_in}
use Rattle.ld_node.specs.Node.{disk_of}
use Rattle.ld_mend.specs.Standing.{IsThere, at_of}
use Rattle.ld_mend.proofs.Causes.{stop_since, counts_since}
use Rattle.ld_mend.proofs.Going.{moved_here}
use Rattle.ld_mend.proofs.Logs.{drives_on, halts_on}
use Rattle.ld_mend.proofs.mending.go_round.Goals as goal

pub rounds-init : goal.rounds-init
rounds-init g c = record {
  formatted = c.requires.formatted;
  works = c.requires.works;
  moved = λ r asked far there held told. inr (record {
    asked = asked;
    drove = record { there = (there, held); far = far; told_far = told; hushes = λ silent h. h; moved = moved_here c.args.id (known_in c.args.config.now) c.args.config.now r (at_of c.args.node.now asked far) (g.O.Sink.written c.args.out.now) };
  });
  silent = λ h. h;
  later = record { disk = omega arith; register = omega arith; output = omega arith };
  told = λ h. h;
  itself = refl;
  disk = refl;
  lent = refl;
}

pub returns-in_err-mended-clause-moved : goal.returns-in_err-mended-clause-moved
returns-in_err-mended-clause-moved g c r asked far there held told =
    let p = err_from_is_err_and c.from_residual.result c.from_residual.ensures.1 in
    rw (p.1, p.2) (halts_on (g.N.Nodes.silent c.rounds.nodes) (g.N.Nodes.silent c.round.new.nodes) c.in_err-mended.ensures.silent
    (IsThere g.D.Disk.seen g.D.Disk.may_leave c.args.id (known_in c.args.config.now) c.rounds.node × g.G.Register.holds c.rounds.reg r) (g.N.Nodes.tells c.rounds.nodes c.args.config.now) c.args.id (known_in c.args.config.now) c.args.config.now r (at_of c.args.node.now asked far) (at_of c.rounds.node)
    (g.O.Sink.written c.args.out.now) (g.O.Sink.written c.rounds.out) (g.O.Sink.written c.round.new.out) (λ last f. refl) (g.D.Disk.may_leave (disk_of c.round.new.node)) c.in_err-mended.field-0.0 (c.rounds.invariant.moved r asked far there held told)
    (λ last f at heard. c.in_err-mended.ensures.moved r last f at.0 at.1 heard))

pub returns-in_err-mended-clause-cause : goal.returns-in_err-mended-clause-cause
returns-in_err-mended-clause-cause g c =
    let p = err_from_is_err_and c.from_residual.result c.from_residual.ensures.1 in
    rw (p.1, p.2) (stop_since _ _ _ _ _ _ c.in_err-mended.field-0.0
    (λ place d. record { register = d.register; same = d.same ∙ c.rounds.invariant.itself; still = λ tells. d.still (c.rounds.invariant.told tells); there = d.there })
    c.rounds.invariant.later c.in_err-mended.ensures.cause)

pub rounds-preserved : goal.rounds-preserved
rounds-preserved g c = record {
  formatted = c.in_ok-mended.ensures.rest;
  works = c.in_ok-mended.ensures.works;
  moved = λ r asked far there held told. drives_on (g.N.Nodes.silent c.rounds.nodes) (g.N.Nodes.silent c.round.new.nodes) c.in_ok-mended.ensures.silent
      (IsThere g.D.Disk.seen g.D.Disk.may_leave c.args.id (known_in c.args.config.now) c.rounds.node × g.G.Register.holds c.rounds.reg r) (g.N.Nodes.tells c.rounds.nodes c.args.config.now) c.args.id (known_in c.args.config.now) c.args.config.now r (at_of c.args.node.now asked far) (at_of c.rounds.node)
      (g.O.Sink.written c.args.out.now) (g.O.Sink.written c.rounds.out) (g.O.Sink.written c.round.new.out) (λ last f. refl) (IsThere g.D.Disk.seen g.D.Disk.may_leave c.args.id (known_in c.args.config.now) c.round.new.node × g.G.Register.holds c.round.new.reg r) (g.N.Nodes.tells c.round.new.nodes c.args.config.now) (at_of c.round.new.node) (c.rounds.invariant.moved r asked far there held told)
      (λ last f at heard. c.in_ok-mended.ensures.moved r last f at.0 at.1 heard);
  silent = λ h. c.in_ok-mended.ensures.silent (c.rounds.invariant.silent h);
  later = record { disk = omega (arith, c.rounds.invariant.later.disk, c.in_ok-mended.ensures.later.disk); register = omega (arith, c.rounds.invariant.later.register, c.in_ok-mended.ensures.later.register); output = omega (arith, c.rounds.invariant.later.output, c.in_ok-mended.ensures.later.output) };
  told = λ h. c.in_ok-mended.ensures.told (c.rounds.invariant.told h);
  itself = c.in_ok-mended.ensures.itself ∙ c.rounds.invariant.itself;
  disk = c.in_ok-mended.ensures.disk_counts ∙ c.rounds.invariant.disk;
  lent = c.in_ok-mended.ensures.lent ∙ c.rounds.invariant.lent;
}

pub returns-then-mended-clause-moved : goal.returns-then-mended-clause-moved
returns-then-mended-clause-moved g c r asked far there held told = drives_on (g.N.Nodes.silent c.rounds.nodes) (g.N.Nodes.silent c.round.new.nodes) c.in_ok-mended.ensures.silent
    (IsThere g.D.Disk.seen g.D.Disk.may_leave c.args.id (known_in c.args.config.now) c.rounds.node × g.G.Register.holds c.rounds.reg r) (g.N.Nodes.tells c.rounds.nodes c.args.config.now) c.args.id (known_in c.args.config.now) c.args.config.now r (at_of c.args.node.now asked far) (at_of c.rounds.node)
    (g.O.Sink.written c.args.out.now) (g.O.Sink.written c.rounds.out) (g.O.Sink.written c.round.new.out) (λ last f. refl) (IsThere g.D.Disk.seen g.D.Disk.may_leave c.args.id (known_in c.args.config.now) c.round.new.node × g.G.Register.holds c.round.new.reg r) (g.N.Nodes.tells c.round.new.nodes c.args.config.now) (at_of c.round.new.node) (c.rounds.invariant.moved r asked far there held told)
    (λ last f at heard. c.in_ok-mended.ensures.moved r last f at.0 at.1 heard)

pub returns-in_err-mended-clause-disk_counts : goal.returns-in_err-mended-clause-disk_counts
returns-in_err-mended-clause-disk_counts g c =
    let p = err_from_is_err_and c.from_residual.result c.from_residual.ensures.1 in
    rw (p.1, p.2) (counts_since _ _ _ _ c.rounds.invariant.disk c.in_err-mended.ensures.disk_counts)

pub returns-then-mended-clause-disk_counts : goal.returns-then-mended-clause-disk_counts
returns-then-mended-clause-disk_counts g c = c.in_ok-mended.ensures.disk_counts ∙ c.rounds.invariant.disk

pub returns-clause-disk_counts : goal.returns-clause-disk_counts
returns-clause-disk_counts g c = c.rounds.invariant.disk
