use Rattle.std.proofs.Common.{◌∙◌, sym, ap, subst, OnOk}
use Rattle.ld_disk.specs.Moments.{LeavesOnly}
use Rattle.ld_segment.specs.Stays.{Rests}
use Rattle.ld_segment.specs.Plans.{Before, First, Later, seen_switch, made_before, IsBeforeTorn}
use Rattle.ld_segment.proofs.Lists.{shut_is}
use Rattle.ld_segment.proofs.write.make_switch.Goals as goal

pub returns-in-First-clause-any_moment : goal.returns-in-First-clause-any_moment
returns-in-First-clause-any_moment g c b rests =
    let D = g.D.Disk in
    let before = (λ i. First (record { gate_at = c.in-First.gate_at; slots_at = c.in-First.slots_at; slots = c.deref.ensures.value i; head = c.in-First.head })) ∙ sym (ap seen_switch c.in-First.is) in
    subst (λ (q : Before). LeavesOnly D.moment D.left_since c.args.disk.now c.switch_first.new.disk (IsBeforeTorn q b)) before (c.switch_first.ensures.any_moment b rests)

pub returns-in-Later-clause-any_moment : goal.returns-in-Later-clause-any_moment
returns-in-Later-clause-any_moment g c b rests =
    let D = g.D.Disk in
    let shut = shut_is c.in-Later.is_open c.shut_length.result c.shut_length.ensures.long in
    let before = (λ i. Later (record { base_at = c.in-Later.base_at; base = c.deref-in-Later.ensures.value i; slot_at = c.in-Later.slot_at; shut = shut i; says = c.in-Later.says })) ∙ sym (ap seen_switch c.in-Later.is) in
    subst (λ (q : Before). LeavesOnly D.moment D.left_since c.args.disk.now c.switch_later.new.disk (IsBeforeTorn q b)) before (c.switch_later.ensures.any_moment b rests)

pub returns-in-Later-clause-rests : goal.returns-in-Later-clause-rests
returns-in-Later-clause-rests g c b rests =
    let D = g.D.Disk in
    let shut = shut_is c.in-Later.is_open c.shut_length.result c.shut_length.ensures.long in
    let before = (λ i. Later (record { base_at = c.in-Later.base_at; base = c.deref-in-Later.ensures.value i; slot_at = c.in-Later.slot_at; shut = shut i; says = c.in-Later.says })) ∙ sym (ap seen_switch c.in-Later.is) in
    subst (λ (q : Before). OnOk c.switch_later.result (Rests D.seen D.may_leave c.switch_later.new.disk (made_before q b))) before (c.switch_later.ensures.rests b rests)
