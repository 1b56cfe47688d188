use Rattle.std.proofs.Common.{◌≡◌, [], inl, inr, refl, None, Some, Err, ap, sym, ◌∙◌, subst}
use Rattle.ld_disk.specs.Plain.{after_call}
use Rattle.ld_segment.specs.Lies.{StandsFor}
use Rattle.ld_segment.proofs.Steps.{said_as}
use Rattle.ld_store.specs.Ops.{IsOfFirst, IsDamaged, IfStands, HasNoRoom}
use Rattle.ld_store.specs.Loads.{LeftOrMarked, Loads}
use Rattle.ld_store.proofs.Faults.{of_damaged}
use Rattle.ld_store.proofs.FineAfter.{fine_after}
use Rattle.ld_store.proofs.Marking.{leaves_both}
use Rattle.ld_store.proofs.Loading.{loads_on}
use Rattle.ld_store.proofs.Behind.{no_false}
use Rattle.ld_store.proofs.Opening.{if_some, some_of, Settled, settled_is, settled_plain, opened_on, out_damaged, empty_damaged, none_damaged, synced_ok, same_if_ok, unsettled, still_first, not_empty}
use Rattle.ld_store.proofs.store.Store.load.Goals as goal

pub returns-in-Err-clause-any_moment : goal.returns-in-Err-clause-any_moment
returns-in-Err-clause-any_moment g c =
    let D = g.D.Disk in
    some_of (D.seen c.args.disk) _ (λ bytes told. said_as D.seen D.may_leave D.moment D.left_since c.args.disk c.settle.new.disk (D.may_leave c.args.disk) (LeftOrMarked (D.may_leave c.args.disk) bytes) c.in-Err.ensures.any_moment (λ b left. inl left))

pub returns-in-Err-clause-marks : goal.returns-in-Err-clause-marks
returns-in-Err-clause-marks g c p was told fine =
    let D = g.D.Disk in
    subst (λ e. Loads was.layout was.slots p (D.plain c.settle.new.disk) (Some e)) (sym c.from.ensures)
    (unsettled was.layout was.slots p (D.plain c.settle.new.disk) c.in-Err.fault (c.in-Err.ensures.exact p told)
    (λ place is. not_empty (D.seen c.args.disk) p.state.bytes (g.met.D.Disk.plain_is_seen c.args.disk p told) was (c.in-Err.ensures.damaged place (ap Err is)).1) (λ is. c.in-Err.ensures.full (ap Err is)) (λ is. c.in-Err.ensures.needs_load (ap Err is)))

pub returns-in-Err-clause-damaged : goal.returns-in-Err-clause-damaged
returns-in-Err-clause-damaged g c place is =
    let D = g.D.Disk in
    let empty = c.in-Err.ensures.damaged place (ap Err (of_damaged c.in-Err.fault place (sym c.from.ensures ∙ is))) in
    if_some (D.seen c.args.disk) (λ b. b ≡ []) (IsDamaged place) (λ bytes told none. empty_damaged place bytes empty.0 none) empty.1

pub returns-in-Err-clause-honest : goal.returns-in-Err-clause-honest
returns-in-Err-clause-honest g c tells each place is =
    let D = g.D.Disk in
    let empty = c.in-Err.ensures.damaged place (ap Err (of_damaged c.in-Err.fault place (sym c.from.ensures ∙ is))) in
    none_damaged (D.seen c.args.disk) (D.may_leave c.args.disk) place tells (g.met.D.Disk.reads_an_image c.args.disk) each (if_some (D.seen c.args.disk) (λ b. b ≡ []) (IsDamaged place) (λ bytes told none. empty_damaged place bytes empty.0 none) empty.1)

pub returns-in-Ok-open-clause-opens : goal.returns-in-Ok-open-clause-opens
returns-in-Ok-open-clause-opens g c =
    let D = g.D.Disk in
    if_some (D.seen c.args.disk) (Settled D.seen D.may_leave c.settle.new.disk c.in-Ok.len) _ (λ bytes told set. (let s = settled_is D.seen D.may_leave c.settle.new.disk c.in-Ok.len bytes set in opened_on D.may_leave _ bytes refl refl (c.in-Ok-open.ensures.opened bytes s) (c.in-Ok-open.ensures.blank bytes s))) c.in-Ok.ensures.settled

pub returns-in-Ok-open-clause-any_moment : goal.returns-in-Ok-open-clause-any_moment
returns-in-Ok-open-clause-any_moment g c =
    let D = g.D.Disk in
    if_some (D.seen c.args.disk) (Settled D.seen D.may_leave c.settle.new.disk c.in-Ok.len) _ (λ bytes told set. (let s = settled_is D.seen D.may_leave c.settle.new.disk c.in-Ok.len bytes set in leaves_both D.seen D.may_leave D.moment D.left_since c.args.disk c.settle.new.disk c.open.new.disk bytes c.in-Ok.ensures.any_moment (c.in-Ok-open.ensures.any_moment bytes s))) c.in-Ok.ensures.settled

pub returns-in-Ok-open-clause-exact : goal.returns-in-Ok-open-clause-exact
returns-in-Ok-open-clause-exact g c p state told fine stands none =
    let D = g.D.Disk in
    let synced = synced_ok c.in-Ok.len p (D.plain c.settle.new.disk) (c.in-Ok.ensures.exact p told) in
    let q = after_call None p in
    let fine_too = fine_after None p fine synced.1 in
    let s = settled_plain D.seen D.may_leave c.args.disk c.settle.new.disk c.in-Ok.len p q (g.met.D.Disk.plain_is_seen c.args.disk p told) (g.met.D.Disk.plain_is_seen c.settle.new.disk q synced.0) (same_if_ok c.in-Ok.len (D.seen c.settle.new.disk ≡ D.seen c.args.disk) c.in-Ok.ensures.seen) c.in-Ok.ensures.settled in
    ((c.in-Ok-open.ensures.exact q state synced.0 fine_too s.1 (subst (λ l. StandsFor state l) (sym s.0) stands) (λ first. none (subst (λ l. IsOfFirst l) s.0 first))).0, synced.1)

pub returns-in-Ok-open-clause-marks : goal.returns-in-Ok-open-clause-marks
returns-in-Ok-open-clause-marks g c p was told fine =
    let D = g.D.Disk in
    let synced = synced_ok c.in-Ok.len p (D.plain c.settle.new.disk) (c.in-Ok.ensures.exact p told) in
    let q = after_call None p in
    let fine_too = fine_after None p fine synced.1 in
    let s = settled_plain D.seen D.may_leave c.args.disk c.settle.new.disk c.in-Ok.len p q (g.met.D.Disk.plain_is_seen c.args.disk p told) (g.met.D.Disk.plain_is_seen c.settle.new.disk q synced.0) (same_if_ok c.in-Ok.len (D.seen c.settle.new.disk ≡ D.seen c.args.disk) c.in-Ok.ensures.seen) c.in-Ok.ensures.settled in
    loads_on was.layout was.slots p (D.plain c.open.new.disk) synced.1 None (c.in-Ok-open.ensures.marks q (still_first p.state.bytes q.state.bytes s.0 was) synced.0 fine_too s.1)

pub returns-in-Err-open-clause-any_moment : goal.returns-in-Err-open-clause-any_moment
returns-in-Err-open-clause-any_moment g c =
    let D = g.D.Disk in
    if_some (D.seen c.args.disk) (Settled D.seen D.may_leave c.settle.new.disk c.in-Ok.len) _ (λ bytes told set. (let s = settled_is D.seen D.may_leave c.settle.new.disk c.in-Ok.len bytes set in leaves_both D.seen D.may_leave D.moment D.left_since c.args.disk c.settle.new.disk c.open.new.disk bytes c.in-Ok.ensures.any_moment (c.in-Err-open.ensures.any_moment bytes s))) c.in-Ok.ensures.settled

pub returns-in-Err-open-clause-exact : goal.returns-in-Err-open-clause-exact
returns-in-Err-open-clause-exact g c p state told fine stands none =
    let D = g.D.Disk in
    let synced = synced_ok c.in-Ok.len p (D.plain c.settle.new.disk) (c.in-Ok.ensures.exact p told) in
    let q = after_call None p in
    let fine_too = fine_after None p fine synced.1 in
    let s = settled_plain D.seen D.may_leave c.args.disk c.settle.new.disk c.in-Ok.len p q (g.met.D.Disk.plain_is_seen c.args.disk p told) (g.met.D.Disk.plain_is_seen c.settle.new.disk q synced.0) (same_if_ok c.in-Ok.len (D.seen c.settle.new.disk ≡ D.seen c.args.disk) c.in-Ok.ensures.seen) c.in-Ok.ensures.settled in
    let stays = c.in-Err-open.ensures.exact q state synced.0 fine_too s.1 (subst (λ l. StandsFor state l) (sym s.0) stands) (λ first. none (subst (λ l. IsOfFirst l) s.0 first)) in
    inr (stays.0, ((λ failed. absurd (stays.1 (ap Err failed))), (λ fails. absurd (no_false synced.1 fails))))

pub returns-in-Err-open-clause-damaged_exact : goal.returns-in-Err-open-clause-damaged_exact
returns-in-Err-open-clause-damaged_exact g c p place told fine is =
    let D = g.D.Disk in
    let synced = synced_ok c.in-Ok.len p (D.plain c.settle.new.disk) (c.in-Ok.ensures.exact p told) in
    let q = after_call None p in
    let fine_too = fine_after None p fine synced.1 in
    c.in-Err-open.ensures.damaged_exact q place synced.0 fine_too (ap Err is)

pub returns-in-Err-open-clause-marks : goal.returns-in-Err-open-clause-marks
returns-in-Err-open-clause-marks g c p was told fine =
    let D = g.D.Disk in
    let synced = synced_ok c.in-Ok.len p (D.plain c.settle.new.disk) (c.in-Ok.ensures.exact p told) in
    let q = after_call None p in
    let fine_too = fine_after None p fine synced.1 in
    let s = settled_plain D.seen D.may_leave c.args.disk c.settle.new.disk c.in-Ok.len p q (g.met.D.Disk.plain_is_seen c.args.disk p told) (g.met.D.Disk.plain_is_seen c.settle.new.disk q synced.0) (same_if_ok c.in-Ok.len (D.seen c.settle.new.disk ≡ D.seen c.args.disk) c.in-Ok.ensures.seen) c.in-Ok.ensures.settled in
    loads_on was.layout was.slots p (D.plain c.open.new.disk) synced.1 (Some c.in-Err-open.fault) (c.in-Err-open.ensures.marks q (still_first p.state.bytes q.state.bytes s.0 was) synced.0 fine_too s.1)

pub returns-in-Err-open-clause-damaged : goal.returns-in-Err-open-clause-damaged
returns-in-Err-open-clause-damaged g c place is =
    let D = g.D.Disk in
    if_some (D.seen c.args.disk) (Settled D.seen D.may_leave c.settle.new.disk c.in-Ok.len) (IsDamaged place) (λ bytes told set. (let s = settled_is D.seen D.may_leave c.settle.new.disk c.in-Ok.len bytes set in out_damaged place bytes (c.in-Err-open.ensures.damaged place (ap Err is) bytes s))) c.in-Ok.ensures.settled

pub returns-in-Err-open-clause-honest : goal.returns-in-Err-open-clause-honest
returns-in-Err-open-clause-honest g c tells each place is =
    let D = g.D.Disk in
    none_damaged (D.seen c.args.disk) (D.may_leave c.args.disk) place tells (g.met.D.Disk.reads_an_image c.args.disk) each (if_some (D.seen c.args.disk) (Settled D.seen D.may_leave c.settle.new.disk c.in-Ok.len) (IsDamaged place) (λ bytes told set. (let s = settled_is D.seen D.may_leave c.settle.new.disk c.in-Ok.len bytes set in out_damaged place bytes (c.in-Err-open.ensures.damaged place (ap Err is) bytes s))) c.in-Ok.ensures.settled)

pub returns-in-Err-open-clause-full : goal.returns-in-Err-open-clause-full
returns-in-Err-open-clause-full g c is =
    let D = g.D.Disk in
    if_some (D.seen c.args.disk) (Settled D.seen D.may_leave c.settle.new.disk c.in-Ok.len) (IfStands HasNoRoom) (λ bytes told set. (let s = settled_is D.seen D.may_leave c.settle.new.disk c.in-Ok.len bytes set in c.in-Err-open.ensures.full (ap Err is) bytes s)) c.in-Ok.ensures.settled
