use Rattle.std.proofs.Common.{◌≡◌, ◌+◌, List, ℕ, length, ◌∙◌, subst}
use Rattle.std.specs.Option.{option_map}
use Rattle.ld_disk.specs.Images.{overwrite, Torn, Follows}
use Rattle.ld_segment.proofs.Steps.{both_ok}
use Rattle.ld_segment.proofs.Tearing as tearing
use Rattle.ld_segment.proofs.group.stage_next.Goals as goal

pub returns-in_err-write_at-clause-any_moment : goal.returns-in_err-write_at-clause-any_moment
returns-in_err-write_at-clause-any_moment g c from n m safe shown tears begin wide end =
    let D = g.D.Disk in
    let piece = c.deref.ensures.value ∙ c.requires.ready.piece in
    let crash = subst (λ (p : List ℕ). Follows (Torn (c.args.plan.now.gate + 1) (length p)) (D.may_leave c.args.disk.now) (D.may_leave c.write_at.new.self)) piece c.write_at.ensures.crash in
    tearing.written_behind D.seen D.may_leave D.moment D.left_since g.met.D.Disk.only_now c.args.disk.now from n m safe shown tears c.args.plan.now.gate c.args.plan.now.body.items begin wide end c.write_at.new.self crash c.write_at.ensures.time

pub returns-clause-any_moment : goal.returns-clause-any_moment
returns-clause-any_moment g c from n m safe shown tears begin wide end =
    let D = g.D.Disk in
    let piece = c.deref.ensures.value ∙ c.requires.ready.piece in
    let crash = subst (λ (p : List ℕ). Follows (Torn (c.args.plan.now.gate + 1) (length p)) (D.may_leave c.args.disk.now) (D.may_leave c.write_at.new.self)) piece c.write_at.ensures.crash in
    tearing.gate_written D.seen D.may_leave D.moment D.left_since g.met.D.Disk.only_now c.args.disk.now from n m safe shown tears c.args.plan.now.gate c.args.plan.now.body.items begin wide end c.write_at.new.self crash c.write_at.ensures.time
    c.write_at-2.new.self c.write_at-2.ensures.crash c.write_at-2.ensures.time

pub returns-clause-staged : goal.returns-clause-staged
returns-clause-staged g c from n m safe shown tears begin wide end =
    let D = g.D.Disk in
    let piece = c.deref.ensures.value ∙ c.requires.ready.piece in
    let crash = subst (λ (p : List ℕ). Follows (Torn (c.args.plan.now.gate + 1) (length p)) (D.may_leave c.args.disk.now) (D.may_leave c.write_at.new.self)) piece c.write_at.ensures.crash in
    let written = subst (λ (p : List ℕ). D.seen c.write_at.new.self ≡ option_map (overwrite (c.args.plan.now.gate + 1) p) (D.seen c.args.disk.now)) piece c.in_ok-write_at.ensures.written in
    both_ok c.write_at-2.result c.write_at-2.ensures.written c.write_at-2.ensures.written (λ last same.
    tearing.staged_more D.seen D.may_leave D.moment D.left_since g.met.D.Disk.only_now c.args.disk.now from n m safe shown tears c.args.plan.now.gate c.args.plan.now.body.items begin wide end c.write_at.new.self crash c.write_at.ensures.time
    c.write_at-2.new.self c.write_at-2.ensures.crash c.write_at-2.ensures.time written last)
