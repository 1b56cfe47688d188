use Rattle.std.proofs.Common.{◌+◌, inl, inr, ⊎_elim, length, refl, Err, ap, ◌∙◌, arith}
use Rattle.ld_layout.specs.Layout.{kind_of}
use Rattle.ld_segment.specs.Lies.{StandsForEither, IsRowTorn, slots_with}
use Rattle.ld_segment.proofs.Steps.{said_as}
use Rattle.ld_op.specs.Plain.{apply}
use Rattle.ld_op.specs.Cells.{placed}
use Rattle.ld_store.specs.declared.fault.StoreFault.TheVariants as stores
use Rattle.ld_store.specs.Laid.{layout_in}
use Rattle.ld_store.specs.Open.{disk_of, slots_of, plain_of}
use Rattle.ld_store.proofs.Faults.{error_in, limits_err}
use Rattle.ld_store.proofs.Formats.{op_rises}
use Rattle.ld_store.proofs.Wells.{well_too}
use Rattle.ld_segment.proofs.Listed.{placed_is}
use Rattle.ld_store.proofs.Holding.{images_stand}
use Rattle.ld_store.proofs.Applying.{body_is, body_fits, body_long, never_past, laid_kept, full_is, stand_either, held_now, applied_now, same_leaves}
use Rattle.ld_store.proofs.store.Store.apply.Goals as goal

pub room-requires : goal.room-requires
room-requires g c = op_rises c.args.op c.requires.op

pub keep_op-requires : goal.keep_op-requires
keep_op-requires g c = record { fits = body_fits c.args.op c.encode.new.out.items c.requires.op (body_is c.args.op c.new-body.result.items c.encode.new.out.items c.new-body.ensures.items c.in_ok-encode.ensures.ok) }

pub apply-requires-clause-fits : goal.apply-requires-clause-fits
apply-requires-clause-fits g c =
    let is = body_is c.args.op c.new-body.result.items c.encode.new.out.items c.new-body.ensures.items c.in_ok-encode.ensures.ok in
    omega (arith, c.in-Ok.ensures.low, body_long c.args.op c.encode.new.out.items is)

pub invariant_of-self-in-Ok : goal.invariant_of-self-in-Ok
invariant_of-self-in-Ok g c =
    let at = c.in-Ok.gate + 5 in
    record { well = well_too c.args.self.now.index.state c.apply.new.self.state (placed at c.args.op) c.args.self.now.well (placed_is at c.args.op c.requires.op) (c.apply.ensures ∙ ap (λ s. apply s (placed at c.args.op)) c.in_ok-room.ensures.same); low = c.args.self.now.low }

pub returns-in-Ok-clause-kept : goal.returns-in-Ok-clause-kept
returns-in-Ok-clause-kept g c =
    let same = c.in_ok-room.ensures.same in
    let is = body_is c.args.op c.new-body.result.items c.encode.new.out.items c.new-body.ensures.items c.in_ok-encode.ensures.ok in
    let long = body_long c.args.op c.encode.new.out.items is in
    let old = c.args.self.now in
    let laid = c.in-Ok.ensures.laid in (
      laid_kept old.laid laid.0 c.keep_op.new.laid.layout c.room.new.self.state c.apply.new.self.state old.index.state c.args.op c.in-Ok.gate (length c.encode.new.out.items) same long laid.1 laid.2 laid.3 c.apply.ensures,
      c.in-Ok.ensures.slots ∙ (λ k. slots_with (layout_in old.laid (same k)) (slots_of old) (long k)),
      refl,
    )

pub returns-in-Ok-clause-acknowledged : goal.returns-in-Ok-clause-acknowledged
returns-in-Ok-clause-acknowledged g c holds =
    let is = body_is c.args.op c.new-body.result.items c.encode.new.out.items c.new-body.ensures.items c.in_ok-encode.ensures.ok in
    let kept = returns-in-Ok-clause-kept g c in
    held_now g.D.Disk.may_leave c.args.self.now c.args.op c.room.new.self.state c.encode.new.out.items c.in_ok-room.ensures.same is holds c.requires.op c.requires.format (c.in-Ok.ensures.within (inl refl)) _ kept.0 kept.1 (c.in-Ok.ensures.rests holds.bytes holds.rests) refl c.if-self.false holds.none

pub returns-in-Ok-clause-areas : goal.returns-in-Ok-clause-areas
returns-in-Ok-clause-areas g c holds = (returns-in-Ok-clause-acknowledged g c holds).sound

pub returns-in-Ok-clause-images : goal.returns-in-Ok-clause-images
returns-in-Ok-clause-images g c holds = images_stand g.D.Disk.seen g.D.Disk.may_leave _ (returns-in-Ok-clause-acknowledged g c holds)

pub returns-in-Ok-clause-applied : goal.returns-in-Ok-clause-applied
returns-in-Ok-clause-applied g c holds =
    let is = body_is c.args.op c.new-body.result.items c.encode.new.out.items c.new-body.ensures.items c.in_ok-encode.ensures.ok in
    let kept = returns-in-Ok-clause-kept g c in
    applied_now g.D.Disk.may_leave c.args.self.now c.args.op c.room.new.self.state c.encode.new.out.items c.in_ok-room.ensures.same is holds c.requires.op c.requires.format (c.in-Ok.ensures.within (inl refl)) _ (returns-in-Ok-clause-acknowledged g c holds) kept.0 (c.in-Ok.ensures.rests holds.bytes holds.rests)

pub returns-in-Ok-clause-any_moment : goal.returns-in-Ok-clause-any_moment
returns-in-Ok-clause-any_moment g c holds =
    let D = g.D.Disk in
    let old = c.args.self.now in
    let p = plain_of old in
    let is = body_is c.args.op c.new-body.result.items c.encode.new.out.items c.new-body.ensures.items c.in_ok-encode.ensures.ok in
    ⊎_elim
    (λ leaves. said_as D.seen D.may_leave D.moment D.left_since (disk_of old) c.keep_op.new.disk (IsRowTorn (kind_of (layout_in old.laid c.room.new.self.state)) (layout_in old.laid c.room.new.self.state) (slots_of old) c.encode.new.out.items holds.bytes) (StandsForEither p (apply p c.args.op)) leaves
    (stand_either D.may_leave old c.args.op c.room.new.self.state c.encode.new.out.items c.in_ok-room.ensures.same is holds c.requires.op c.requires.format (c.in-Ok.ensures.within (inl refl))))
    (λ same. same_leaves D.seen D.may_leave D.moment D.left_since g.met.D.Disk.only_now old c.keep_op.new.disk (apply p c.args.op) holds same)
    (c.in-Ok.ensures.any_moment holds.bytes holds.rests)

pub returns-in-Ok-clause-too_long : goal.returns-in-Ok-clause-too_long
returns-in-Ok-clause-too_long g c works past =
    let is = body_is c.args.op c.new-body.result.items c.encode.new.out.items c.new-body.ensures.items c.in_ok-encode.ensures.ok in
    let old = c.args.self.now in
    absurd (never_past old.laid (slots_of old) c.args.op c.room.new.self.state old.index.state c.encode.new.out.items c.in_ok-room.ensures.same is (c.in-Ok.ensures.within (inl refl)) past)

pub returns-in-Err-clause-any_moment : goal.returns-in-Err-clause-any_moment
returns-in-Err-clause-any_moment g c holds =
    let D = g.D.Disk in
    let old = c.args.self.now in
    let p = plain_of old in
    let is = body_is c.args.op c.new-body.result.items c.encode.new.out.items c.new-body.ensures.items c.in_ok-encode.ensures.ok in
    let stays = same_leaves D.seen D.may_leave D.moment D.left_since g.met.D.Disk.only_now old c.keep_op.new.disk (apply p c.args.op) holds in
    ⊎_elim
    (λ failed. ⊎_elim
    (λ leaves. said_as D.seen D.may_leave D.moment D.left_since (disk_of old) c.keep_op.new.disk (IsRowTorn (kind_of (layout_in old.laid c.room.new.self.state)) (layout_in old.laid c.room.new.self.state) (slots_of old) c.encode.new.out.items holds.bytes) (StandsForEither p (apply p c.args.op)) leaves
    (stand_either D.may_leave old c.args.op c.room.new.self.state c.encode.new.out.items c.in_ok-room.ensures.same is holds c.requires.op c.requires.format (c.in-Err.ensures.within (inr failed))))
    stays
    (c.in-Err.ensures.any_moment holds.bytes holds.rests))
    (λ kept. stays kept.0)
    c.in-Err.ensures.stays

pub returns-in-Err-clause-full : goal.returns-in-Err-clause-full
returns-in-Err-clause-full g c full =
    let is = body_is c.args.op c.new-body.result.items c.encode.new.out.items c.new-body.ensures.items c.in_ok-encode.ensures.ok in (
      c.if-self.false,
      λ holds. full_is g.D.Disk.may_leave c.args.self.now c.args.op c.room.new.self.state c.encode.new.out.items c.in_ok-room.ensures.same is holds c.requires.op c.requires.format (c.in-Err.ensures.full (ap Err (error_in c.in-Err.fault stores.Full full))),
    )

pub returns-in-Err-clause-too_long : goal.returns-in-Err-clause-too_long
returns-in-Err-clause-too_long g c works past =
    let is = body_is c.args.op c.new-body.result.items c.encode.new.out.items c.new-body.ensures.items c.in_ok-encode.ensures.ok in
    let old = c.args.self.now in
    limits_err c.in-Err.fault
    (λ failed. never_past old.laid (slots_of old) c.args.op c.room.new.self.state old.index.state c.encode.new.out.items c.in_ok-room.ensures.same is (c.in-Err.ensures.within (inr (ap Err failed))) past)
    (λ place damaged. c.in-Err.ensures.damaged place (ap Err damaged)) (λ needs. c.in-Err.ensures.needs_load (ap Err needs))
