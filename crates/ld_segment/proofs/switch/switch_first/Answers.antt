use Rattle.std.proofs.Common.{inl, inr, length}
use Rattle.ld_disk.specs.Images.{overwrite, Torn}
use Rattle.ld_segment.specs.Left.{FirstSwitch, IsRecordTorn, IsFirstSwitchTorn}
use Rattle.ld_journal.specs.Format.{append_calls}
use Rattle.ld_segment.specs.Left.{safe_calls}
use Rattle.ld_segment.proofs.Lists.{two_lists}
use Rattle.ld_segment.proofs.Steps as steps
use Rattle.ld_segment.proofs.switch.switch_first.Goals as goal

pub returns-in_err-write_safe-clause-any_moment : goal.returns-in_err-write_safe-clause-any_moment
returns-in_err-write_safe-clause-any_moment g c b rests =
    let D = g.D.Disk in
    let w : FirstSwitch = record { gate_at = c.args.gate_at; slots_at = c.args.slots_at; slots = c.args.slots.now; head = c.args.head.now } in
    steps.said_as D.seen D.may_leave D.moment D.left_since c.args.disk.now c.write_safe.new.disk (Torn c.args.slots_at (length c.args.slots.now) b) (IsFirstSwitchTorn w b) (c.write_safe.ensures.any_moment b rests) (λ l torn. inl torn)

pub returns-clause-any_moment : goal.returns-clause-any_moment
returns-clause-any_moment g c b rests =
    let D = g.D.Disk in
    let w : FirstSwitch = record { gate_at = c.args.gate_at; slots_at = c.args.slots_at; slots = c.args.slots.now; head = c.args.head.now } in
    let laid = overwrite c.args.slots_at c.args.slots.now b in
    steps.then_on D.seen D.may_leave D.moment D.left_since c.args.disk.now c.write_safe.new.disk c.append_record.new.disk (Torn c.args.slots_at (length c.args.slots.now) b) (IsRecordTorn c.args.gate_at c.args.head.now laid) (IsFirstSwitchTorn w b)
    (c.in_ok-write_safe.ensures.any_moment b rests) (c.append_record.ensures.any_moment laid (c.in_ok-write_safe.ensures.rests b rests)) (λ l torn. inl torn) (λ l torn. inr torn)

pub returns-clause-rests : goal.returns-clause-rests
returns-clause-rests g c b rests = c.append_record.ensures.rests (overwrite c.args.slots_at c.args.slots.now b) (c.in_ok-write_safe.ensures.rests b rests)

pub returns-clause-exact : goal.returns-clause-exact
returns-clause-exact g c p is =
    let first = c.in_ok-write_safe.ensures.exact p is in
    two_lists (safe_calls c.args.slots_at c.args.slots.now) (append_calls c.args.gate_at c.args.head.now) p _ _ first.1 (c.append_record.ensures.exact _ first.0)
