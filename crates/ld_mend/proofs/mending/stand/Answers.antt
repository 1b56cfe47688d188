use Rattle.std.proofs.Common.{◌∙◌, ℕ, List, [], sym, ap, subst, inl}
use Rattle.std.proofs.lemmas.Result.{err_from_is_err_and}
use Rattle.ld_node.specs.Node.{disk_of}
use Rattle.ld_mend.specs.Course.{At, Moved, Stands, lowest_asked}
use Rattle.ld_mend.specs.Standing.{at_of}
use Rattle.ld_mend.proofs.Causes.{counts_since}
use Rattle.ld_mend.proofs.Going.{halted_here, halted_on}
use Rattle.ld_mend.proofs.Logs.{stands_of}
use Rattle.ld_mend.proofs.mending.stand.Goals as goal

pub returns-in_err-lacks-clause-moved : goal.returns-in_err-lacks-clause-moved
returns-in_err-lacks-clause-moved g c known k r asked far there has held =
    let p = err_from_is_err_and c.from_residual-in_err-lacks.result c.from_residual-in_err-lacks.ensures.1 in
    let did = rw c.in_default.is at (c.in_ok-asks.ensures.moved known k r asked far there has held) in
    let left : List ℕ → Type 0 = g.D.Disk.may_leave (disk_of c.open_number.new.node) in
    rw (p.1, p.2) (halted_on c.args.id known k r left (at_of c.args.node.now asked far) (at_of c.settle.new.node [] far) [] _ _ _ _ did.2
    (halted_here c.args.id known k r left (at_of c.settle.new.node [] far) _ _ (c.in_err-lacks.ensures.stands known k r [] far did.0 has did.1)))

pub returns-in_default-clause-moved : goal.returns-in_default-clause-moved
returns-in_default-clause-moved g c known k r asked far there has held =
    let did = rw c.in_default.is at (c.in_ok-asks.ensures.moved known k r asked far there has held) in
    let opened = c.in_ok-lacks.ensures.stands known k r [] far did.0 has did.1 in (
      opened.0,
      opened.1,
      record {
        asked = [];
        moved = subst (λ (x : At). Moved c.args.id known k r (at_of c.args.node.now asked far) x [] (g.O.Sink.written c.args.out.now) (g.O.Sink.written c.settle.new.out)) (sym opened.2) did.2;
        stands = subst (λ (x : At). Stands c.args.id known k r x c.args.log c.in_ok-lacks.lacks) (sym opened.2) (stands_of c.args.id known k r (at_of c.settle.new.node [] far) c.args.log c.in_ok-lacks.lacks did.3 opened.3);
      },
    )

pub returns-clause-moved : goal.returns-clause-moved
returns-clause-moved g c known k r asked far there has held =
    let did = rw c.in-Some.is at (c.in_ok-asks.ensures.moved known k r asked far there has held) in (
      did.0,
      did.1,
      record { asked = c.in-Some.asks; moved = did.2; stands = inl (c.in-Some.asks, did.3, c.lowest_asked.ensures ∙ ap lowest_asked c.as_slice.ensures) },
    )

pub returns-in_err-lacks-clause-disk_counts : goal.returns-in_err-lacks-clause-disk_counts
returns-in_err-lacks-clause-disk_counts g c =
    let p = err_from_is_err_and c.from_residual-in_err-lacks.result c.from_residual-in_err-lacks.ensures.1 in
    rw (p.1, p.2) (counts_since _ _ _ _ c.in_ok-asks.ensures.disk_counts c.in_err-lacks.ensures.disk_counts)

pub returns-in_default-clause-disk_counts : goal.returns-in_default-clause-disk_counts
returns-in_default-clause-disk_counts g c = c.in_ok-lacks.ensures.disk_counts ∙ c.in_ok-asks.ensures.disk_counts
