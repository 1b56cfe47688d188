use Rattle.std.proofs.Common.{◌∙◌, ℕ, List, [], ◌∷◌, refl}
use Rattle.std.proofs.lemmas.Result.{err_from_is_err_and}
use Rattle.ld_node.specs.Node.{plain_of, disk_of}
use Rattle.ld_mend.specs.Course.{Tells}
use Rattle.ld_mend.specs.Standing.{at_of}
use Rattle.ld_mend.proofs.Causes.{whole_write, write_counts}
use Rattle.ld_mend.proofs.Going.{moved_one, moved_on, halted_in, halted_on, stands_leaves}
use Rattle.ld_mend.proofs.Logs.{and_true}
use Rattle.ld_mend.proofs.Nodes.{stand}
use Rattle.ld_mend.proofs.mending.tell_log.Goals as goal

pub returns-in_err-tell_standing-clause-moved : goal.returns-in_err-tell_standing-clause-moved
returns-in_err-tell_standing-clause-moved g c known k r asked far there has held =
    let p = err_from_is_err_and c.from_residual-in_err-tell_standing.result c.from_residual-in_err-tell_standing.ensures.1 in
    let did = c.in_ok-lacks.ensures.moved known k r asked far there has held in
    let node = c.stand.new.node in
    let t = at_of node did.2.asked far in
    let left : List ℕ → Type 0 = g.D.Disk.may_leave (disk_of node) in
    rw (p.1, p.2) (halted_on c.args.id known k r left (at_of c.args.node.now asked far) t [] _ _ _ _ did.2.moved
    (halted_in c.args.id known k r left t t (Tells c.args.log c.in_ok-lacks.lacks) _ _ _ did.2.stands refl c.in_err-tell_standing.ensures.part
    (stands_leaves c.args.id known k r left t _ (whole_write _ _ _ c.in_err-tell_standing.ensures.cause) (stand g.D.Disk.seen g.D.Disk.may_leave node (plain_of node) refl did.0.holds))))

pub returns-clause-moved : goal.returns-clause-moved
returns-clause-moved g c known k r asked far there has held =
    let did = c.in_ok-lacks.ensures.moved known k r asked far there has held in
    let l = c.args.log in
    let lacks = c.in_ok-lacks.lacks in
    let t = at_of c.stand.new.node did.2.asked far in (
      did.0,
      did.1,
      record {
        asked = did.2.asked;
        told = (l, lacks) ∷ [];
        moved = moved_on c.args.id known k r (at_of c.args.node.now asked far) t t [] ((l, lacks) ∷ []) _ _ _ did.2.moved (moved_one c.args.id known k r t t (Tells l lacks) _ _ did.2.stands refl c.in_ok-tell_standing.ensures.written);
        logs_are = refl;
        mended_is = c.is_none.ensures ∙ and_true _;
      },
    )

pub returns-in_err-tell_standing-clause-disk_counts : goal.returns-in_err-tell_standing-clause-disk_counts
returns-in_err-tell_standing-clause-disk_counts g c =
    let p = err_from_is_err_and c.from_residual-in_err-tell_standing.result c.from_residual-in_err-tell_standing.ensures.1 in
    rw (p.1, p.2) (write_counts _ _ _ _ _ c.in_ok-lacks.ensures.disk_counts c.in_err-tell_standing.ensures.cause)
