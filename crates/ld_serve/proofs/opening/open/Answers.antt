use Rattle.std.proofs.Common.{◌≡◌, ◌≤◌, ◌-◌, ◌^◌, ℕ, List, true, Some, Err, ap, sym, ◌∙◌, subst, inl, inr, ⊎_elim}
use Rattle.std.specs.Prelude.{IfSome}
use Rattle.ld_io.specs.Causes.{Rose}
use Rattle.ld_disk.specs.Moments.{LeavesOnly}
use Rattle.ld_msg.specs.Register.{Register as Contents, generation_of}
use Rattle.ld_store.specs.Loads.{LeftOrMarked}
use Rattle.ld_store.specs.Ops.{IfStands}
use Rattle.ld_register.specs.declared.register.Drawn.{Drawn}
use Rattle.ld_register.specs.Calls.{drawn, after_draw}
use Rattle.ld_node.specs.Changes.{IsPast}
use Rattle.ld_node.specs.Draws.{answered}
use Rattle.ld_node.specs.Formats.{format_of}
use Rattle.ld_node.specs.Formats as formats
use Rattle.ld_node.specs.Node.{plain_of, disk_of, is_blank, layout_of}
use Rattle.ld_serve.specs.Opening.{Draws, IsOpening}
use Rattle.ld_serve.proofs.Serving.{left_now}
use Rattle.ld_serve.proofs.Openings.{blank_shows, load_caused, left_by_load, opens_found, held_found, held_too, opens_formatted, held_formatted, format_caused, blank_opens, blank_full, left_by_format, shows_still, draw_or_not}
use Rattle.ld_serve.proofs.opening.open.Goals as goal

pub returns-in-Err-clause-cause : goal.returns-in-Err-clause-cause
returns-in-Err-clause-cause g c =
    rw c.load_stop.ensures (load_caused _ _ (g.D.Disk.seen c.args.disk) _ _ _ (g.G.Register.holds c.args.reg.now) _ c.args.id c.args.format _
    c.in-Err.ensures.failed c.in-Err.ensures.damaged c.in-Err.ensures.full)

pub returns-in-Err-clause-leaves : goal.returns-in-Err-clause-leaves
returns-in-Err-clause-leaves g c =
    let D = g.D.Disk in
    let old = c.args.disk in
    left_by_load (g.G.Register.holds c.args.reg.now) c.args.id c.args.format (D.seen old) (D.may_leave old) _
    (λ shown. LeavesOnly D.moment D.left_since old _ (LeftOrMarked (D.may_leave old) shown))
    (λ shown leaves. left_now D.may_leave D.moment D.left_since g.met.D.Disk.counts_now old _ _ leaves) c.in-Err.ensures.any_moment

pub returns-then-not-format-clause-leaves : goal.returns-then-not-format-clause-leaves
returns-then-not-format-clause-leaves g c =
    let D = g.D.Disk in
    let old = c.args.disk in
    let new = disk_of c.in-Ok.node in
    rw c.into_disk.ensures (left_by_load (g.G.Register.holds c.args.reg.now) c.args.id c.args.format (D.seen old) (D.may_leave old) (D.may_leave new)
    (λ shown. LeavesOnly D.moment D.left_since old new (LeftOrMarked (D.may_leave old) shown))
    (λ shown leaves. left_now D.may_leave D.moment D.left_since g.met.D.Disk.counts_now old new _ leaves) c.in-Ok.ensures.any_moment)

pub returns-then-not-format-clause-seen : goal.returns-then-not-format-clause-seen
returns-then-not-format-clause-seen g c =
    let D = g.D.Disk in
    let node = c.in-Ok.node in
    let blank : is_blank node ≡ true = sym c.is_blank.ensures ∙ c.if-not-is_blank.false in
    rw c.into_disk.ensures (inr (blank_shows (D.seen c.args.disk) (D.seen (disk_of node)) c.in-Ok.ensures.seen
    (blank_opens D.seen D.may_leave (g.G.Register.holds c.args.reg.now) c.args.id c.args.format (D.seen c.args.disk) node blank c.in-Ok.ensures.opens)))

pub returns-then-not-is_blank-clause-opens : goal.returns-then-not-is_blank-clause-opens
returns-then-not-is_blank-clause-opens g c =
    let holds = g.G.Register.holds c.args.reg.now in
    subst (λ p. IfSome (g.D.Disk.seen c.args.disk) (IfStands (IsOpening holds holds c.args.id c.args.format p))) (sym c.growing.ensures.rest.5)
    (opens_found g.D.Disk.seen g.D.Disk.may_leave holds c.args.id c.args.format holds (g.D.Disk.seen c.args.disk) c.in-Ok.node (sym c.is_blank.ensures ∙ c.if-not-is_blank.true) c.in-Ok.ensures.opens)

pub returns-then-not-is_blank-clause-holds : goal.returns-then-not-is_blank-clause-holds
returns-then-not-is_blank-clause-holds g c =
    held_too (g.D.Disk.seen c.args.disk) c.growing.ensures.holds
    (held_found g.D.Disk.seen g.D.Disk.may_leave (g.G.Register.holds c.args.reg.now) c.args.id c.args.format (g.D.Disk.seen c.args.disk) c.in-Ok.node c.in-Ok.ensures.opens)

pub returns-clause-opens : goal.returns-clause-opens
returns-clause-opens g c =
    let node = c.in-Ok.node in
    let given = c.in_default.field-0 in
    let id_is = c.in-Ok.ensures.node.0 in
    let blank : is_blank node ≡ true = sym c.is_blank.ensures ∙ c.if-not-is_blank.false in
    let holds = g.G.Register.holds c.args.reg.now in
    let holds_now = g.G.Register.holds c.format.new.reg in
    subst (λ p. IfSome (g.D.Disk.seen c.args.disk) (IfStands (IsOpening holds holds_now c.args.id c.args.format p))) (sym c.growing-2.ensures.rest.5)
    (opens_formatted g.D.Disk.seen g.D.Disk.may_leave holds c.args.id c.args.format holds_now (g.D.Disk.seen c.args.disk) node c.format.new.self given
    c.if-not-format.false blank c.in-Ok.ensures.opens c.in_default.ensures.applied
    (λ contents held. subst (λ (i : ℕ). answered given ≡ drawn contents i) id_is (c.in_default.ensures.drawn contents held).0)
    (λ contents held. subst (λ (i : ℕ). holds_now (after_draw contents i)) id_is (c.in_default.ensures.drawn contents held).1))

pub returns-clause-holds : goal.returns-clause-holds
returns-clause-holds g c =
    let D = g.D.Disk in
    held_too (D.seen c.args.disk) c.growing-2.ensures.holds
    (held_formatted D.seen D.may_leave (g.G.Register.holds c.args.reg.now) c.args.id c.args.format (D.seen c.args.disk) c.in-Ok.node c.format.new.self
    (sym c.is_blank.ensures ∙ c.if-not-is_blank.false) c.in-Ok.ensures.opens c.in_default.ensures.acknowledged)

pub returns-in-Err-format-clause-cause : goal.returns-in-Err-format-clause-cause
returns-in-Err-format-clause-cause g c =
    let node = c.in-Ok.node in
    let id_is = c.in-Ok.ensures.node.0 in
    let blank : is_blank node ≡ true = sym c.is_blank.ensures ∙ c.if-not-is_blank.false in
    let opened = c.in-Ok.ensures.opens in
    let holds = g.G.Register.holds c.args.reg.now in
    rw (c.into_disk-in-Err-format.ensures, c.format_stop.ensures) (format_caused _ _ (g.D.Disk.seen c.args.disk) _ _ _ holds _ c.args.id c.args.format _
    (c.if-not-format.false, blank_opens g.D.Disk.seen g.D.Disk.may_leave holds c.args.id c.args.format (g.D.Disk.seen c.args.disk) node blank opened)
    (λ e. subst (λ n. Rose n (g.D.Disk.faults (disk_of c.format.new.self))) c.in-Ok.ensures.steady (c.in-Err-format.ensures.failed (ap Err e)))
    (λ e. c.in-Err-format.ensures.register_failed (ap Err e))
    (λ place e. c.in-Err-format.ensures.register_damaged place (ap Err e))
    (λ e. blank_full g.D.Disk.seen g.D.Disk.may_leave holds c.args.id c.args.format (g.D.Disk.seen c.args.disk) node blank c.in-Ok.ensures.still opened
    (λ stands contents held. subst (λ (i : ℕ). (given : Drawn) × (answered given ≡ drawn contents i) × IsPast (layout_of node) (Some (format_of given))) id_is (c.in-Err-format.ensures.full contents stands held (ap Err e))))
    (λ e told. c.in-Err-format.ensures.register_full (ap Err e) told)
    (λ e told. subst (λ (i : ℕ). (contents : Contents) × holds contents × (2 ^ 32 - 1 ≤ generation_of contents i)) id_is (c.in-Err-format.ensures.generations (ap Err e) told)))

pub returns-in-Err-format-clause-leaves : goal.returns-in-Err-format-clause-leaves
returns-in-Err-format-clause-leaves g c =
    let node = c.in-Ok.node in
    let id_is = c.in-Ok.ensures.node.0 in
    let new = disk_of c.format.new.self in
    let blank : is_blank node ≡ true = sym c.is_blank.ensures ∙ c.if-not-is_blank.false in
    let holds = g.G.Register.holds c.args.reg.now in
    rw c.into_disk-in-Err-format.ensures (left_by_format g.D.Disk.seen g.D.Disk.may_leave holds c.args.id c.args.format (g.D.Disk.seen c.args.disk) node _ (g.D.Disk.may_leave new)
    c.if-not-format.false blank c.in-Ok.ensures.opens
    (λ stands. subst (λ (i : ℕ). (bytes : List ℕ) → g.D.Disk.may_leave new bytes → formats.LeftByFormat (plain_of node) (Draws holds i) bytes) id_is
    (left_now g.D.Disk.may_leave g.D.Disk.moment g.D.Disk.left_since g.met.D.Disk.counts_now (disk_of node) new _ (c.in-Err-format.ensures.any_moment stands))))

pub returns-in-Err-format-clause-seen : goal.returns-in-Err-format-clause-seen
returns-in-Err-format-clause-seen g c =
    let D = g.D.Disk in
    let node = c.in-Ok.node in
    let blank : is_blank node ≡ true = sym c.is_blank.ensures ∙ c.if-not-is_blank.false in
    rw (c.into_disk-in-Err-format.ensures, c.format_stop.ensures) (shows_still _ (D.seen c.args.disk) (D.seen (disk_of node)) _
    (blank_shows (D.seen c.args.disk) (D.seen (disk_of node)) c.in-Ok.ensures.seen
    (blank_opens D.seen D.may_leave (g.G.Register.holds c.args.reg.now) c.args.id c.args.format (D.seen c.args.disk) node blank c.in-Ok.ensures.opens))
    (⊎_elim (λ failed. inl failed) (λ same. inr same.bytes) c.in-Err-format.ensures.stays))

pub returns-in-Err-format-clause-draw : goal.returns-in-Err-format-clause-draw
returns-in-Err-format-clause-draw g c =
    rw c.format_stop.ensures (λ contents held. draw_or_not _ (g.G.Register.holds c.format.new.reg) contents _ _ c.in-Ok.ensures.node.0 (c.in-Err-format.ensures.held contents held))
