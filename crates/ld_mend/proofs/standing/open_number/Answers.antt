use Rattle.std.proofs.Common.{◌≡◌, ◌∙◌, ◌+◌, refl, sym, ap, ⊎_elim}
use Rattle.std.proofs.lemmas.Result.{err_from_is_err_and}
use Rattle.ld_lsn.specs.Number.{numbered, last_esn}
use Rattle.ld_msg.specs.Register.{lce_of}
use Rattle.ld_op.specs.Answers.{read_answer}
use Rattle.ld_op.specs.Plain.{log_of}
use Rattle.ld_register.specs.Calls.{looked}
use Rattle.ld_node.specs.Msgs.{released_in}
use Rattle.ld_node.specs.Node.{plain_of, released_of, disk_of}
use Rattle.ld_mend.specs.Course.{is_open}
use Rattle.ld_mend.specs.Standing.{at_of}
use Rattle.ld_mend.proofs.Causes.{look_counts}
use Rattle.ld_mend.proofs.Going.{looked_leaves}
use Rattle.ld_mend.proofs.Nodes.{stand}
use Rattle.ld_mend.proofs.standing.open_number.Goals as goal

pub returns-in-Err-clause-stands : goal.returns-in-Err-clause-stands
returns-in-Err-clause-stands g c known k r asked far there has held =
    rw c.look_stop.ensures (looked_leaves c.args.id known k r (g.D.Disk.may_leave (disk_of c.args.node.now)) (at_of c.args.node.now asked far) c.in-Err.fault (stand g.D.Disk.seen g.D.Disk.may_leave c.args.node.now (plain_of c.args.node.now) refl there.holds))

pub returns-in_err-ask_self-clause-stands : goal.returns-in_err-ask_self-clause-stands
returns-in_err-ask_self-clause-stands g c known k r asked far there has held =
    let p = err_from_is_err_and c.from_residual.result c.from_residual.ensures.1 in
    rw (p.1, p.2) (c.in_err-ask_self.ensures.answer known k r asked far there has)

pub returns-then-branch-clause-stands : goal.returns-then-branch-clause-stands
returns-then-branch-clause-stands g c known k r asked far there has held =
    let node = c.args.node.now in
    let did = c.in_ok-ask_self.ensures.answer known k r asked far there has in
    let shown = ⊎_elim (λ e. absurd e) (λ h. h) (c.in-Ok.ensures.answers r held) in
    let view : c.in-Ok.view ≡ looked r c.args.log 0 = let e = shown.0 in cc in
    let lce : c.in-Ok.view.lce ≡ lce_of r c.args.log = ap (λ v. v.lce) view in (
      did.0,
      shown.1,
      did.1,
      ap (λ e. is_open (read_answer (plain_of node).generation (log_of (plain_of node) c.args.log) (released_in (released_of node) c.args.log) 1 (numbered (e + 1) last_esn))) (sym lce) ∙ (sym did.2 ∙ c.if-branch.true),
    )

pub returns-clause-stands : goal.returns-clause-stands
returns-clause-stands g c known k r asked far there has held =
    let node = c.args.node.now in
    let did = c.in_ok-ask_self.ensures.answer known k r asked far there has in
    let shown = ⊎_elim (λ e. absurd e) (λ h. h) (c.in-Ok.ensures.answers r held) in
    let view : c.in-Ok.view ≡ looked r c.args.log 0 = let e = shown.0 in cc in
    let lce : c.in-Ok.view.lce ≡ lce_of r c.args.log = ap (λ v. v.lce) view in (
      did.0,
      shown.1,
      did.1,
      (
        ap (λ e. is_open (read_answer (plain_of node).generation (log_of (plain_of node) c.args.log) (released_in (released_of node) c.args.log) 1 (numbered (e + 1) last_esn))) (sym lce) ∙ (sym did.2 ∙ c.if-branch.false),
        c.new.ensures ∙ ap (λ e. numbered (e + 1) 1) lce,
      ),
    )

pub returns-in-Err-clause-disk_counts : goal.returns-in-Err-clause-disk_counts
returns-in-Err-clause-disk_counts g c = rw c.look_stop.ensures (look_counts _ c.in-Err.fault)

pub returns-in_err-ask_self-clause-disk_counts : goal.returns-in_err-ask_self-clause-disk_counts
returns-in_err-ask_self-clause-disk_counts g c =
    let p = err_from_is_err_and c.from_residual.result c.from_residual.ensures.1 in
    rw (p.1, p.2) c.in_err-ask_self.ensures.disk_counts
