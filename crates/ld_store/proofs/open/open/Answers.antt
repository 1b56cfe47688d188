use Rattle.std.proofs.Common.{◌≡◌, inl, inr, ⊎_elim, refl, Err, true, ap, sym, ◌∙◌, subst}
use Rattle.ld_segment.specs.Lies.{mark_row, mark_passes}
use Rattle.ld_store.specs.Laid.{layout_in, slots_in}
use Rattle.ld_store.specs.Loads.{Marks}
use Rattle.ld_store.specs.Opened.{IsOpen, IsBlank}
use Rattle.ld_store.specs.declared.fault.StoreFault.TheVariants as stores
use Rattle.ld_store.proofs.Faults.{passed, err_is, error_in}
use Rattle.ld_store.proofs.Refused.{not_out}
use Rattle.ld_store.proofs.Blank.{blank_read}
use Rattle.ld_store.proofs.Marking.{some_bytes, rests_on, unchanged_too, open_unmarked, open_marked, leaves_marked, of_first, no_room, was_first, was_layout, was_row, was_passes, was_stands, passes_past}
use Rattle.ld_store.proofs.Loading.{marks_done, marks_refused, marks_unread}
use Rattle.ld_store.proofs.Behind.{no_false}
use Rattle.ld_store.proofs.Turned.{marked_still}
use Rattle.ld_store.proofs.open.open.Goals as goal

pub returns-in_err-laid-clause-marks : goal.returns-in_err-laid-clause-marks
returns-in_err-laid-clause-marks g c p was told fine settled =
    let D = g.D.Disk in
    let e = c.in_err-laid.field-0.0 in
    let exact = c.in_err-laid.ensures.exact p told fine in
    let bytes = p.state.bytes in
    subst (Marks was.layout was.slots p (D.plain c.read.new.disk)) (sym (passed c.from_residual.result e c.from_residual.ensures.0 c.from_residual.ensures.1))
    (marks_unread was.layout was.slots p (D.plain c.read.new.disk) e exact.0 (λ is. exact.1 (ap Err is)) (λ is. c.in_err-laid.ensures.full (ap Err is))
    (λ place is. not_out _ bytes place (was_stands bytes was) (c.in_err-laid.ensures.damaged place (ap Err is) bytes settled.rests.bytes_are settled.long (some_bytes c.args.len bytes settled.long settled.some))) (λ is. c.in_err-laid.ensures.needs_load (ap Err is)))

pub returns-then-not-is_first-clause-opened : goal.returns-then-not-is_first-clause-opened
returns-then-not-is_first-clause-opened g c bytes settled =
    let D = g.D.Disk in
    let read = c.in_ok-laid.ensures.read bytes settled.rests.bytes_are settled.long (some_bytes c.args.len bytes settled.long settled.some) in
    subst (λ b. IsOpen D.seen D.may_leave c.read.new.disk c.in_ok-laid.field-0.laid c.in_ok-laid.field-0.index.state b bytes) (sym c.is_blank.ensures) (open_unmarked D.seen D.may_leave D.moment D.left_since bytes c.in_ok-laid.field-0.laid c.in_ok-laid.field-0.index.state c.in_ok-laid.field-0.version read c.args.disk.now c.read.new.disk c.args.len settled c.in_ok-laid.ensures.same (sym c.is_first.ensures ∙ c.if-not-is_first.true))

pub returns-then-not-is_first-clause-blank : goal.returns-then-not-is_first-clause-blank
returns-then-not-is_first-clause-blank g c bytes settled =
    let D = g.D.Disk in
    let read = c.in_ok-laid.ensures.read bytes settled.rests.bytes_are settled.long (some_bytes c.args.len bytes settled.long settled.some) in
    subst (λ b. IsBlank b bytes) (sym c.is_blank.ensures) (blank_read bytes c.in_ok-laid.field-0.laid c.in_ok-laid.field-0.index.state c.in_ok-laid.field-0.version read)

pub returns-then-not-is_first-clause-marks : goal.returns-then-not-is_first-clause-marks
returns-then-not-is_first-clause-marks g c p was told fine settled =
    let D = g.D.Disk in
    let read = c.in_ok-laid.ensures.read p.state.bytes settled.rests.bytes_are settled.long (some_bytes c.args.len p.state.bytes settled.long settled.some) in
    absurd (no_false (was_first p.state.bytes c.in_ok-laid.field-0.laid c.in_ok-laid.field-0.index.state c.in_ok-laid.field-0.version read was) (sym c.is_first.ensures ∙ c.if-not-is_first.true))

pub returns-then-not-is_first-clause-too_long : goal.returns-then-not-is_first-clause-too_long
returns-then-not-is_first-clause-too_long g c bytes settled room =
    let D = g.D.Disk in
    let read = c.in_ok-laid.ensures.read bytes settled.rests.bytes_are settled.long (some_bytes c.args.len bytes settled.long settled.some) in
    no_false (was_first bytes c.in_ok-laid.field-0.laid c.in_ok-laid.field-0.index.state c.in_ok-laid.field-0.version read room.was) (sym c.is_first.ensures ∙ c.if-not-is_first.true)

pub returns-in_err-mark-clause-any_moment : goal.returns-in_err-mark-clause-any_moment
returns-in_err-mark-clause-any_moment g c bytes settled =
    let D = g.D.Disk in
    let read = c.in_ok-laid.ensures.read bytes settled.rests.bytes_are settled.long (some_bytes c.args.len bytes settled.long settled.some) in
    ⊎_elim
    (λ disk. leaves_marked D.seen D.may_leave D.moment D.left_since bytes c.in_ok-laid.field-0.laid c.in_ok-laid.field-0.index.state c.in_ok-laid.field-0.version read c.args.disk.now c.read.new.disk c.mark.new.disk c.in_ok-laid.ensures.same (sym c.is_first.ensures ∙ c.if-not-is_first.false) (c.in_err-mark.ensures.within (inr disk)) (c.in_err-mark.ensures.any_moment bytes (rests_on D.seen D.may_leave D.moment D.left_since c.args.disk.now c.read.new.disk bytes c.in_ok-laid.ensures.same settled.rests)))
    (λ same. inr (unchanged_too D.seen D.may_leave D.moment D.left_since c.args.disk.now c.read.new.disk c.mark.new.disk c.in_ok-laid.ensures.same same.0))
    c.in_err-mark.ensures.stays

pub returns-in_err-mark-clause-exact : goal.returns-in_err-mark-clause-exact
returns-in_err-mark-clause-exact g c p state told fine settled stands none =
    let D = g.D.Disk in
    let read = c.in_ok-laid.ensures.read p.state.bytes settled.rests.bytes_are settled.long (some_bytes c.args.len p.state.bytes settled.long settled.some) in
    absurd (none (of_first p.state.bytes c.in_ok-laid.field-0.laid c.in_ok-laid.field-0.index.state c.in_ok-laid.field-0.version read (sym c.is_first.ensures ∙ c.if-not-is_first.false) state stands))

pub returns-in_err-mark-clause-marks : goal.returns-in_err-mark-clause-marks
returns-in_err-mark-clause-marks g c p was told fine settled =
    let D = g.D.Disk in
    let read = c.in_ok-laid.ensures.read p.state.bytes settled.rests.bytes_are settled.long (some_bytes c.args.len p.state.bytes settled.long settled.some) in
    let e = c.in_err-mark.field-0.0 in
    let mid = (c.in_ok-laid.ensures.exact p told fine).0 in
    let now = D.plain c.mark.new.disk in
    subst (Marks was.layout was.slots p now) (sym (passed c.from_residual-in_err-mark.result e c.from_residual-in_err-mark.ensures.0 c.from_residual-in_err-mark.ensures.1))
    (marks_refused was.layout was.slots p now (mark_row (layout_in c.in_ok-laid.field-0.laid c.in_ok-laid.field-0.index.state) (slots_in c.in_ok-laid.field-0.laid)) e (sym (was_row p.state.bytes c.in_ok-laid.field-0.laid c.in_ok-laid.field-0.index.state c.in_ok-laid.field-0.version read was)) (λ is. c.in_err-mark.ensures.exact p mid (inr (ap Err is))) (⊎_elim (λ is. inl (error_in e stores.Disk is)) (λ same. inr (same.1 ∙ mid)) c.in_err-mark.ensures.stays)
    (λ is. was_passes p.state.bytes c.in_ok-laid.field-0.laid c.in_ok-laid.field-0.index.state c.in_ok-laid.field-0.version read was (c.in_err-mark.ensures.full (ap Err is))) (λ place is. c.in_err-mark.ensures.damaged place (ap Err is)) (λ is. c.in_err-mark.ensures.needs_load (ap Err is)))

pub returns-in_err-mark-clause-full : goal.returns-in_err-mark-clause-full
returns-in_err-mark-clause-full g c is bytes settled q stands =
    let D = g.D.Disk in
    let read = c.in_ok-laid.ensures.read bytes settled.rests.bytes_are settled.long (some_bytes c.args.len bytes settled.long settled.some) in
    let error = err_is c.from_residual-in_err-mark.result stores.Full (λ e. e ≡ c.in_err-mark.field-0.0) c.from_residual-in_err-mark.ensures.1 is in
    no_room bytes c.in_ok-laid.field-0.laid c.in_ok-laid.field-0.index.state c.in_ok-laid.field-0.version read (sym c.is_first.ensures ∙ c.if-not-is_first.false) q stands (c.in_err-mark.ensures.full (ap Err (sym error)))

pub returns-clause-opened : goal.returns-clause-opened
returns-clause-opened g c bytes settled =
    let D = g.D.Disk in
    let read = c.in_ok-laid.ensures.read bytes settled.rests.bytes_are settled.long (some_bytes c.args.len bytes settled.long settled.some) in
    subst (λ b. IsOpen D.seen D.may_leave c.mark.new.disk c.mark.new.laid c.in_ok-laid.field-0.index.state b bytes) (sym c.is_blank-2.ensures) (open_marked D.seen D.may_leave D.moment D.left_since bytes c.in_ok-laid.field-0.laid c.in_ok-laid.field-0.index.state c.in_ok-laid.field-0.version read c.mark.new.disk c.mark.new.laid (sym c.is_first.ensures ∙ c.if-not-is_first.false) c.in_ok-mark.ensures.layout c.in_ok-mark.ensures.slots (c.in_ok-mark.ensures.rests bytes (rests_on D.seen D.may_leave D.moment D.left_since c.args.disk.now c.read.new.disk bytes c.in_ok-laid.ensures.same settled.rests)) (c.in_ok-mark.ensures.within (inl refl)))

pub returns-clause-blank : goal.returns-clause-blank
returns-clause-blank g c bytes settled =
    let D = g.D.Disk in
    let read = c.in_ok-laid.ensures.read bytes settled.rests.bytes_are settled.long (some_bytes c.args.len bytes settled.long settled.some) in
    subst (λ b. IsBlank b bytes) (sym c.is_blank-2.ensures) (blank_read bytes c.in_ok-laid.field-0.laid c.in_ok-laid.field-0.index.state c.in_ok-laid.field-0.version read)

pub returns-clause-any_moment : goal.returns-clause-any_moment
returns-clause-any_moment g c bytes settled =
    let D = g.D.Disk in
    let read = c.in_ok-laid.ensures.read bytes settled.rests.bytes_are settled.long (some_bytes c.args.len bytes settled.long settled.some) in
    leaves_marked D.seen D.may_leave D.moment D.left_since bytes c.in_ok-laid.field-0.laid c.in_ok-laid.field-0.index.state c.in_ok-laid.field-0.version read c.args.disk.now c.read.new.disk c.mark.new.disk c.in_ok-laid.ensures.same (sym c.is_first.ensures ∙ c.if-not-is_first.false) (c.in_ok-mark.ensures.within (inl refl)) (c.in_ok-mark.ensures.any_moment bytes (rests_on D.seen D.may_leave D.moment D.left_since c.args.disk.now c.read.new.disk bytes c.in_ok-laid.ensures.same settled.rests))

pub returns-clause-exact : goal.returns-clause-exact
returns-clause-exact g c p state told fine settled stands none =
    let D = g.D.Disk in
    let read = c.in_ok-laid.ensures.read p.state.bytes settled.rests.bytes_are settled.long (some_bytes c.args.len p.state.bytes settled.long settled.some) in
    absurd (none (of_first p.state.bytes c.in_ok-laid.field-0.laid c.in_ok-laid.field-0.index.state c.in_ok-laid.field-0.version read (sym c.is_first.ensures ∙ c.if-not-is_first.false) state stands))

pub returns-clause-marks : goal.returns-clause-marks
returns-clause-marks g c p was told fine settled =
    let D = g.D.Disk in
    let read = c.in_ok-laid.ensures.read p.state.bytes settled.rests.bytes_are settled.long (some_bytes c.args.len p.state.bytes settled.long settled.some) in
    let mid = (c.in_ok-laid.ensures.exact p told fine).0 in
    marks_done was.layout was.slots p (D.plain c.mark.new.disk) (mark_row (layout_in c.in_ok-laid.field-0.laid c.in_ok-laid.field-0.index.state) (slots_in c.in_ok-laid.field-0.laid)) (sym (was_row p.state.bytes c.in_ok-laid.field-0.laid c.in_ok-laid.field-0.index.state c.in_ok-laid.field-0.version read was)) (c.in_ok-mark.ensures.exact p mid (inl refl))

pub returns-clause-seen : goal.returns-clause-seen
returns-clause-seen g c bytes settled =
    let D = g.D.Disk in
    let read = c.in_ok-laid.ensures.read bytes settled.rests.bytes_are settled.long (some_bytes c.args.len bytes settled.long settled.some) in
    inr (λ q stands. of_first bytes c.in_ok-laid.field-0.laid c.in_ok-laid.field-0.index.state c.in_ok-laid.field-0.version read (sym c.is_first.ensures ∙ c.if-not-is_first.false) q stands)

pub returns-clause-too_long : goal.returns-clause-too_long
returns-clause-too_long g c bytes settled room =
    let D = g.D.Disk in
    let read = c.in_ok-laid.ensures.read bytes settled.rests.bytes_are settled.long (some_bytes c.args.len bytes settled.long settled.some) in
    c.in_ok-mark.ensures.within (inl refl) (passes_past (layout_in c.in_ok-laid.field-0.laid c.in_ok-laid.field-0.index.state) (slots_in c.in_ok-laid.field-0.laid) (subst (λ x. mark_passes x ≡ true) (was_layout bytes c.in_ok-laid.field-0.laid c.in_ok-laid.field-0.index.state c.in_ok-laid.field-0.version read room.was) room.long))

pub returns-clause-still : goal.returns-clause-still
returns-clause-still g c = ap (λ y. y.grows) c.in_ok-mark.ensures.layout ∙ marked_still (layout_in c.in_ok-laid.field-0.laid c.in_ok-laid.field-0.index.state) ∙ c.in_ok-laid.ensures.still
