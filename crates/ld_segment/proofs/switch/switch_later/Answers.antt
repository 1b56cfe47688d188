use Rattle.std.proofs.Common.{◌+◌, ◌∷◌, [], inl, inr, length}
use Rattle.ld_disk.specs.Images.{Torn}
use Rattle.ld_segment.specs.Left.{Switching, TornTwice, IsSwitchTorn, based, named}
use Rattle.ld_segment.specs.Left.{both_calls, safe_calls}
use Rattle.ld_segment.proofs.Lists.{three_lists}
use Rattle.ld_segment.proofs.Steps as steps
use Rattle.ld_segment.proofs.switch.switch_later.Goals as goal

pub returns-in_err-write_both-clause-any_moment : goal.returns-in_err-write_both-clause-any_moment
returns-in_err-write_both-clause-any_moment g c b rests =
    let D = g.D.Disk in
    let w : Switching = record { base_at = c.args.base_at; base = c.args.base.now; slot_at = c.args.slot_at; shut = c.args.shut.now; says = c.args.says.now } in
    steps.said_as D.seen D.may_leave D.moment D.left_since c.args.disk.now c.write_both.new.disk (TornTwice w.base_at (length w.base) w.slot_at (length w.shut) b) (IsSwitchTorn w b) (c.write_both.ensures.any_moment b rests) (λ l torn. inl torn)

pub returns-in_err-write_safe-clause-any_moment : goal.returns-in_err-write_safe-clause-any_moment
returns-in_err-write_safe-clause-any_moment g c b rests =
    let D = g.D.Disk in
    let w : Switching = record { base_at = c.args.base_at; base = c.args.base.now; slot_at = c.args.slot_at; shut = c.args.shut.now; says = c.args.says.now } in
    steps.then_on D.seen D.may_leave D.moment D.left_since c.args.disk.now c.write_both.new.disk c.write_safe.new.disk (TornTwice w.base_at (length w.base) w.slot_at (length w.shut) b) (Torn (w.slot_at + 1) (length w.says) (based w b)) (IsSwitchTorn w b)
    (c.in_ok-write_both.ensures.any_moment b rests) (c.write_safe.ensures.any_moment (based w b) (c.in_ok-write_both.ensures.rests b rests)) (λ l torn. inl torn) (λ l torn. inr (inl torn))

pub returns-clause-any_moment : goal.returns-clause-any_moment
returns-clause-any_moment g c b rests =
    let D = g.D.Disk in
    let w : Switching = record { base_at = c.args.base_at; base = c.args.base.now; slot_at = c.args.slot_at; shut = c.args.shut.now; says = c.args.says.now } in
    let at_base = c.in_ok-write_both.ensures.rests b rests in
    let at_name = c.in_ok-write_safe.ensures.rests (based w b) at_base in
    let two = steps.then_on D.seen D.may_leave D.moment D.left_since c.args.disk.now c.write_both.new.disk c.write_safe.new.disk (TornTwice w.base_at (length w.base) w.slot_at (length w.shut) b) (Torn (w.slot_at + 1) (length w.says) (based w b)) (IsSwitchTorn w b)
    (c.in_ok-write_both.ensures.any_moment b rests) (c.in_ok-write_safe.ensures.any_moment (based w b) at_base) (λ l torn. inl torn) (λ l torn. inr (inl torn)) in
    steps.then_on D.seen D.may_leave D.moment D.left_since c.args.disk.now c.write_safe.new.disk c.write_safe-2.new.disk (IsSwitchTorn w b) (Torn w.slot_at 1 (named w b)) (IsSwitchTorn w b)
    two (c.write_safe-2.ensures.any_moment (named w b) at_name) (λ l torn. torn) (λ l torn. inr (inr torn))

pub returns-clause-rests : goal.returns-clause-rests
returns-clause-rests g c b rests =
    let w : Switching = record { base_at = c.args.base_at; base = c.args.base.now; slot_at = c.args.slot_at; shut = c.args.shut.now; says = c.args.says.now } in
    c.write_safe-2.ensures.rests (named w b) (c.in_ok-write_safe.ensures.rests (based w b) (c.in_ok-write_both.ensures.rests b rests))

pub returns-clause-exact : goal.returns-clause-exact
returns-clause-exact g c p is =
    let first = c.in_ok-write_both.ensures.exact p is in
    let second = c.in_ok-write_safe.ensures.exact _ first.0 in
    three_lists (both_calls c.args.base_at c.args.base.now c.args.slot_at c.args.shut.now) (safe_calls (c.args.slot_at + 1) c.args.says.now) (safe_calls c.args.slot_at (1 ∷ [])) p _ _ first.1 second.1 (c.write_safe-2.ensures.exact _ second.0)
