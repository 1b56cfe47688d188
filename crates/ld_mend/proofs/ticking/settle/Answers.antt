use Rattle.std.proofs.Common.{◌∙◌, ℕ, List, [], refl, sym, arith}
use Rattle.std.proofs.lemmas.Result.{err_from_is_err_and}
use Rattle.ld_node.specs.Looks.{ticked}
use Rattle.ld_node.specs.Node.{plain_of, disk_of}
use Rattle.ld_mend.specs.Course.{asked_by}
use Rattle.ld_mend.specs.Standing.{at_of}
use Rattle.ld_mend.proofs.Causes.{stop_since, counts_since}
use Rattle.ld_mend.proofs.Going.{moved_here, moved_on, halted_here, halted_on}
use Rattle.ld_mend.proofs.Nodes.{stand}
use Rattle.ld_mend.proofs.Ticks.{again, asks_nothing, idles_nothing}
use Rattle.ld_mend.proofs.ticking.settle.Goals as goal

pub ticks-init : goal.ticks-init
ticks-init g c = record {
  formatted = c.requires.formatted;
  works = c.requires.works;
  moved = λ known k r asked far there has held. (there, held, (asked, moved_here c.args.id known k r (at_of c.args.node.now asked far) (g.O.Sink.written c.args.out.now)));
  later = record { disk = omega arith; register = omega arith; output = omega arith };
  told = λ h. h;
  itself = refl;
  disk = refl;
  lent = refl;
}

pub returns-in_err-asks-clause-moved : goal.returns-in_err-asks-clause-moved
returns-in_err-asks-clause-moved g c known k r asked far there has held =
    let p = err_from_is_err_and c.from_residual.result c.from_residual.ensures.1 in
    let prev = c.ticks.invariant.moved known k r asked far there has held in
    rw (p.1, p.2) (halted_on c.args.id known k r (g.D.Disk.may_leave (disk_of c.tick.new.node)) (at_of c.args.node.now asked far) (at_of c.ticks.node prev.2.0 far) [] _ _ _ _ prev.2.1
    (c.in_err-asks.ensures.moved known k r prev.2.0 far prev.0 has prev.1))

pub returns-in_err-asks-clause-cause : goal.returns-in_err-asks-clause-cause
returns-in_err-asks-clause-cause g c =
    let p = err_from_is_err_and c.from_residual.result c.from_residual.ensures.1 in
    rw (p.1, p.2) (stop_since _ _ _ _ _ _ c.in_err-asks.field-0.0
    (λ place d. record { register = d.register; same = d.same ∙ c.ticks.invariant.itself; still = λ tells. d.still (c.ticks.invariant.told tells); there = d.there })
    c.ticks.invariant.later c.in_err-asks.ensures.cause)

pub returns-in-Asked-clause-moved : goal.returns-in-Asked-clause-moved
returns-in-Asked-clause-moved g c known k r asked far there has held =
    let l = c.args.log in
    let prev = c.ticks.invariant.moved known k r asked far there has held in
    let did = rw c.in-Asked.is at (c.in_ok-asks.ensures.moved known k r prev.2.0 far prev.0 has prev.1) in
    let old = at_of c.ticks.node prev.2.0 far in (
      did.0,
      did.1,
      moved_on c.args.id known k r (at_of c.args.node.now asked far) old (at_of c.tick.new.node c.in-Asked.asks far) [] [] _ _ _ prev.2.1 did.2,
      again c.args.id known k r old (at_of c.tick.new.node c.in-Asked.asks far) l _ did.4 (asks_nothing c.args.id l known.nodes (ticked known (plain_of c.ticks.node) l r) c.in-Asked.asks (sym did.3)) did.3,
    )

pub returns-in-Nothing-clause-moved : goal.returns-in-Nothing-clause-moved
returns-in-Nothing-clause-moved g c known k r asked far there has held =
    let l = c.args.log in
    let prev = c.ticks.invariant.moved known k r asked far there has held in
    let did = rw c.in-Nothing.is at (c.in_ok-asks.ensures.moved known k r prev.2.0 far prev.0 has prev.1) in
    let old = at_of c.ticks.node prev.2.0 far in (
      did.0,
      did.1,
      moved_on c.args.id known k r (at_of c.args.node.now asked far) old (at_of c.tick.new.node [] far) [] [] _ _ _ prev.2.1 did.2,
      again c.args.id known k r old (at_of c.tick.new.node [] far) l _ did.4 (idles_nothing c.args.id l known.nodes (ticked known (plain_of c.ticks.node) l r) (sym did.3)) did.3,
    )

pub ticks-preserved : goal.ticks-preserved
ticks-preserved g c = record {
  formatted = c.in_ok-asks.ensures.rest;
  works = c.in_ok-asks.ensures.works;
  moved = λ known k r asked far there has held. let prev = c.ticks.invariant.moved known k r asked far there has held in
      let did = c.in_ok-asks.ensures.moved known k r prev.2.0 far prev.0 has prev.1 in
      (did.0, did.1, (asked_by c.in_ok-asks.field-0, moved_on c.args.id known k r (at_of c.args.node.now asked far) (at_of c.ticks.node prev.2.0 far) (at_of c.tick.new.node (asked_by c.in_ok-asks.field-0) far) [] [] _ _ _ prev.2.1 did.2));
  later = record { disk = omega (arith, c.ticks.invariant.later.disk, c.in_ok-asks.ensures.later.disk); register = omega (arith, c.ticks.invariant.later.register, c.in_ok-asks.ensures.later.register); output = omega (arith, c.ticks.invariant.later.output, c.in_ok-asks.ensures.later.output) };
  told = λ h. c.in_ok-asks.ensures.told (c.ticks.invariant.told h);
  itself = c.in_ok-asks.ensures.itself ∙ c.ticks.invariant.itself;
  disk = c.in_ok-asks.ensures.disk_counts ∙ c.ticks.invariant.disk;
  lent = c.in_ok-asks.ensures.lent ∙ c.ticks.invariant.lent;
}

pub returns-clause-moved : goal.returns-clause-moved
returns-clause-moved g c known k r asked far there has held =
    let prev = c.ticks.invariant.moved known k r asked far there has held in
    let left : List ℕ → Type 0 = g.D.Disk.may_leave (disk_of c.ticks.node) in
    halted_on c.args.id known k r left (at_of c.args.node.now asked far) (at_of c.ticks.node prev.2.0 far) [] _ _ _ _ prev.2.1
    (halted_here c.args.id known k r left (at_of c.ticks.node prev.2.0 far) _ _ (stand g.D.Disk.seen g.D.Disk.may_leave c.ticks.node (plain_of c.ticks.node) refl prev.0.holds))

pub returns-in_err-asks-clause-disk_counts : goal.returns-in_err-asks-clause-disk_counts
returns-in_err-asks-clause-disk_counts g c =
    let p = err_from_is_err_and c.from_residual.result c.from_residual.ensures.1 in
    rw (p.1, p.2) (counts_since _ _ _ _ c.ticks.invariant.disk c.in_err-asks.ensures.disk_counts)

pub returns-in-Asked-clause-disk_counts : goal.returns-in-Asked-clause-disk_counts
returns-in-Asked-clause-disk_counts g c = c.in_ok-asks.ensures.disk_counts ∙ c.ticks.invariant.disk

pub returns-in-Nothing-clause-disk_counts : goal.returns-in-Nothing-clause-disk_counts
returns-in-Nothing-clause-disk_counts g c = c.in_ok-asks.ensures.disk_counts ∙ c.ticks.invariant.disk

pub returns-clause-disk_counts : goal.returns-clause-disk_counts
returns-clause-disk_counts g c = c.ticks.invariant.disk
