use Rattle.ld_segment.proofs.Steps.{both_ok}
use Rattle.ld_segment.proofs.Tearing as tearing
use Rattle.ld_segment.proofs.group.open_group.Goals as goal

pub returns-in_err-sync-clause-any_moment : goal.returns-in_err-sync-clause-any_moment
returns-in_err-sync-clause-any_moment g c n safe shown tears =
    let D = g.D.Disk in
    tearing.synced D.seen D.may_leave D.moment D.left_since g.met.D.Disk.only_now c.args.disk.now c.args.gate n safe shown tears c.sync.new.self c.sync.ensures.crash c.sync.ensures.time

pub returns-in_err-write_at-clause-any_moment : goal.returns-in_err-write_at-clause-any_moment
returns-in_err-write_at-clause-any_moment g c n safe shown tears =
    let D = g.D.Disk in
    tearing.opening D.seen D.may_leave D.moment D.left_since g.met.D.Disk.only_now c.args.disk.now c.args.gate n safe shown tears c.sync.new.self c.sync.ensures.crash c.sync.ensures.time c.in_ok-sync.ensures.durable
    c.write_at.new.self c.write_at.ensures.crash c.write_at.ensures.time

pub returns-clause-any_moment : goal.returns-clause-any_moment
returns-clause-any_moment g c n safe shown tears =
    let D = g.D.Disk in
    tearing.opened_all D.seen D.may_leave D.moment D.left_since g.met.D.Disk.only_now c.args.disk.now c.args.gate n safe shown tears c.sync.new.self c.sync.ensures.crash c.sync.ensures.time c.in_ok-sync.ensures.durable
    c.write_at.new.self c.write_at.ensures.crash c.write_at.ensures.time c.sync-2.new.self c.sync-2.ensures.crash c.sync-2.ensures.time

pub returns-clause-rests : goal.returns-clause-rests
returns-clause-rests g c n safe shown tears =
    let D = g.D.Disk in
    both_ok c.sync-2.result c.sync-2.ensures.durable c.sync-2.ensures.same (λ durable same.
    tearing.rests_open D.seen D.may_leave D.moment D.left_since g.met.D.Disk.only_now c.args.disk.now c.args.gate n safe shown tears c.sync.new.self c.write_at.new.self c.sync-2.new.self c.in_ok-sync.ensures.same c.in_ok-write_at.ensures.written same durable)
