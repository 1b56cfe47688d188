use Rattle.std.proofs.Common.{◌+◌, inl, inr, length, List, ℕ, subst}
use Rattle.ld_disk.specs.Images.{overwrite, Torn}
use Rattle.ld_segment.specs.Stays.{Rests}
use Rattle.ld_segment.specs.Left.{staged, IsRecordTorn}
use Rattle.ld_segment.proofs.Steps as steps
use Rattle.ld_segment.proofs.record.append_record.Goals as goal

pub returns-in_err-write_safe-clause-any_moment : goal.returns-in_err-write_safe-clause-any_moment
returns-in_err-write_safe-clause-any_moment g c b rests =
    let D = g.D.Disk in
    steps.said_as D.seen D.may_leave D.moment D.left_since c.args.disk.now c.write_safe.new.disk (Torn (c.args.at + 1) (length c.args.piece.now) b) (IsRecordTorn c.args.at c.args.body.now b) (c.write_safe.ensures.any_moment b rests)
    (λ l torn. inl (subst (λ (p : List ℕ). Torn (c.args.at + 1) (length p) b l) c.requires.piece torn))

pub returns-clause-any_moment : goal.returns-clause-any_moment
returns-clause-any_moment g c b rests =
    let D = g.D.Disk in
    let after = subst (λ (p : List ℕ). Rests D.seen D.may_leave c.write_safe.new.disk (overwrite (c.args.at + 1) p b)) c.requires.piece (c.in_ok-write_safe.ensures.rests b rests) in
    steps.then_on D.seen D.may_leave D.moment D.left_since c.args.disk.now c.write_safe.new.disk c.write_safe-2.new.disk (Torn (c.args.at + 1) (length c.args.piece.now) b) (Torn c.args.at 1 (staged c.args.at c.args.body.now b)) (IsRecordTorn c.args.at c.args.body.now b)
    (c.in_ok-write_safe.ensures.any_moment b rests) (c.write_safe-2.ensures.any_moment (staged c.args.at c.args.body.now b) after)
    (λ l torn. inl (subst (λ (p : List ℕ). Torn (c.args.at + 1) (length p) b l) c.requires.piece torn)) (λ l torn. inr torn)

pub returns-clause-rests : goal.returns-clause-rests
returns-clause-rests g c b rests =
    let D = g.D.Disk in
    let after = subst (λ (p : List ℕ). Rests D.seen D.may_leave c.write_safe.new.disk (overwrite (c.args.at + 1) p b)) c.requires.piece (c.in_ok-write_safe.ensures.rests b rests) in
    c.write_safe-2.ensures.rests (staged c.args.at c.args.body.now b) after
