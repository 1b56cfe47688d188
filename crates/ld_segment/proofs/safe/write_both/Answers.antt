use Rattle.std.proofs.Common.{length}
use Rattle.ld_segment.proofs.Steps as steps
use Rattle.ld_segment.proofs.safe.write_both.Goals as goal

pub returns-in_err-write_at-clause-any_moment : goal.returns-in_err-write_at-clause-any_moment
returns-in_err-write_at-clause-any_moment g c b rests =
    let D = g.D.Disk in
    steps.one_of_both D.seen D.may_leave D.moment D.left_since g.met.D.Disk.only_now c.args.disk.now c.args.at (length c.args.bytes.now) b rests c.write_at.new.self c.write_at.ensures.crash c.write_at.ensures.time c.args.at_2 (length c.args.bytes_2.now)

pub returns-in_err-write_at-2-clause-any_moment : goal.returns-in_err-write_at-2-clause-any_moment
returns-in_err-write_at-2-clause-any_moment g c b rests =
    let D = g.D.Disk in
    steps.written_both D.seen D.may_leave D.moment D.left_since g.met.D.Disk.only_now c.args.disk.now c.args.at (length c.args.bytes.now) b rests c.write_at.new.self c.write_at.ensures.crash c.write_at.ensures.time c.args.at_2 (length c.args.bytes_2.now)
    c.write_at-2.new.self c.write_at-2.ensures.crash c.write_at-2.ensures.time

pub returns-clause-any_moment : goal.returns-clause-any_moment
returns-clause-any_moment g c b rests =
    let D = g.D.Disk in
    steps.synced_both D.seen D.may_leave D.moment D.left_since g.met.D.Disk.only_now c.args.disk.now c.args.at (length c.args.bytes.now) b rests c.write_at.new.self c.write_at.ensures.crash c.write_at.ensures.time c.args.at_2 (length c.args.bytes_2.now)
    c.write_at-2.new.self c.write_at-2.ensures.crash c.write_at-2.ensures.time c.sync.new.self c.sync.ensures.crash c.sync.ensures.time

pub returns-clause-rests : goal.returns-clause-rests
returns-clause-rests g c b rests =
    let D = g.D.Disk in
    steps.both_ok c.sync.result c.sync.ensures.durable c.sync.ensures.same (λ durable same.
    steps.rests_both D.seen D.may_leave D.moment D.left_since c.args.disk.now c.write_at.new.self c.write_at-2.new.self c.sync.new.self c.args.at c.args.bytes.now c.args.at_2 c.args.bytes_2.now b rests
    c.in_ok-write_at.ensures.written c.in_ok-write_at-2.ensures.written same durable)
