use Rattle.std.proofs.Common.{ℕ, List, [], sym, subst, inr, ◌∙◌}
use Rattle.std.proofs.lemmas.Result.{err_from_is_err_and}
use Rattle.ld_msg.specs.declared.msg.Msg.{Msg}
use Rattle.ld_node.specs.Looks.{ticked}
use Rattle.ld_node.specs.Node.{plain_of, disk_of}
use Rattle.ld_mend.specs.Course.{At, Moved}
use Rattle.ld_mend.specs.Standing.{at_of, AreFrom}
use Rattle.ld_mend.proofs.Causes.{counts_since}
use Rattle.ld_mend.proofs.Going.{moved_on, halted_here, halted_on}
use Rattle.ld_mend.proofs.Takings.{on_right}
use Rattle.ld_mend.proofs.Ticks.{asked_of}
use Rattle.ld_mend.proofs.mending.turn.Goals as goal

pub returns-in_err-lacks-clause-moved : goal.returns-in_err-lacks-clause-moved
returns-in_err-lacks-clause-moved g c known k r asked far there has held told =
    let p = err_from_is_err_and c.from_residual-in_err-lacks.result c.from_residual-in_err-lacks.ensures.1 in
    let did = rw c.in_default.is at (c.in_ok-asks.ensures.moved known k r asked far there has held) in
    let left : List ℕ → Type 0 = g.D.Disk.may_leave (disk_of c.open_number.new.node) in
    rw (p.1, p.2) (inr (halted_on c.args.id known k r left (at_of c.args.node.now asked far) (at_of c.settle.new.node [] far) [] _ _ _ _ did.2
    (halted_here c.args.id known k r left (at_of c.settle.new.node [] far) _ _ (c.in_err-lacks.ensures.stands known k r [] far did.0 has did.1))))

pub returns-in_default-clause-moved : goal.returns-in_default-clause-moved
returns-in_default-clause-moved g c known k r asked far there has held told =
    let did = rw c.in_default.is at (c.in_ok-asks.ensures.moved known k r asked far there has held) in
    let opened = c.in_ok-lacks.ensures.stands known k r [] far did.0 has did.1 in
    inr (record {
      asked = [];
      drove = record {
        there = (opened.0, opened.1);
        far = far;
        told_far = told;
        hushes = λ silent h. h;
        moved = subst (λ (x : At). Moved c.args.id known k r (at_of c.args.node.now asked far) x [] (g.O.Sink.written c.args.out.now) (g.O.Sink.written c.settle.new.out)) (sym opened.2) did.2;
      };
    })

pub returns-in_err-carry-clause-moved : goal.returns-in_err-carry-clause-moved
returns-in_err-carry-clause-moved g c known k r asked far there has held told =
    let p = err_from_is_err_and c.from_residual-in_err-carry.result c.from_residual-in_err-carry.ensures.1 in
    let did = rw c.in-Some.is at (c.in_ok-asks.ensures.moved known k r asked far there has held) in
    let asks : List Msg = c.in-Some.asks in
    let left : List ℕ → Type 0 = g.D.Disk.may_leave (disk_of c.carry.new.node) in
    let from : AreFrom c.args.id asks = asked_of c.args.id c.args.log known.nodes (ticked known (plain_of c.settle.new.node) c.args.log r) asks did.3 in
    let carried = c.in_err-carry.ensures.moved known k r far (g.O.Sink.written c.settle.new.out) did.0 (subst (λ ms. AreFrom c.args.id ms) (sym c.as_slice.ensures) from) told in
    rw (p.1, p.2) (on_right (rw c.as_slice.ensures at carried) (λ h. halted_on c.args.id known k r left (at_of c.args.node.now asked far) (at_of c.settle.new.node asks far) [] _ _ _ _ did.2 h))

pub returns-clause-moved : goal.returns-clause-moved
returns-clause-moved g c known k r asked far there has held told =
    let did = rw c.in-Some.is at (c.in_ok-asks.ensures.moved known k r asked far there has held) in
    let asks : List Msg = c.in-Some.asks in
    let from : AreFrom c.args.id asks = asked_of c.args.id c.args.log known.nodes (ticked known (plain_of c.settle.new.node) c.args.log r) asks did.3 in
    let carried = c.in_ok-carry.ensures.moved known k r far (g.O.Sink.written c.settle.new.out) did.0 (subst (λ ms. AreFrom c.args.id ms) (sym c.as_slice.ensures) from) told in
    on_right (rw c.as_slice.ensures at carried) (λ w. record {
      asked = asks;
      drove = record {
        there = (w.there, did.1);
        far = w.far;
        told_far = w.told_far;
        hushes = w.hushes;
        moved = moved_on c.args.id known k r (at_of c.args.node.now asked far) (at_of c.settle.new.node asks far) (at_of c.carry.new.node asks w.far) [] [] _ _ _ did.2 w.moved;
      };
    })

pub returns-in_err-lacks-clause-disk_counts : goal.returns-in_err-lacks-clause-disk_counts
returns-in_err-lacks-clause-disk_counts g c =
    let p = err_from_is_err_and c.from_residual-in_err-lacks.result c.from_residual-in_err-lacks.ensures.1 in
    rw (p.1, p.2) (counts_since _ _ _ _ c.in_ok-asks.ensures.disk_counts c.in_err-lacks.ensures.disk_counts)

pub returns-in_default-clause-disk_counts : goal.returns-in_default-clause-disk_counts
returns-in_default-clause-disk_counts g c = c.in_ok-lacks.ensures.disk_counts ∙ c.in_ok-asks.ensures.disk_counts

pub returns-in_err-carry-clause-disk_counts : goal.returns-in_err-carry-clause-disk_counts
returns-in_err-carry-clause-disk_counts g c =
    let p = err_from_is_err_and c.from_residual-in_err-carry.result c.from_residual-in_err-carry.ensures.1 in
    rw (p.1, p.2) (counts_since _ _ _ _ c.in_ok-asks.ensures.disk_counts c.in_err-carry.ensures.disk_counts)

pub returns-clause-disk_counts : goal.returns-clause-disk_counts
returns-clause-disk_counts g c = c.in_ok-carry.ensures.disk_counts ∙ c.in_ok-asks.ensures.disk_counts
