use Rattle.std.proofs.Common.{◌≡◌, ◌+◌, inl, inr, ⊎_elim, length, refl, Err, true, ap, ◌∙◌, arith, rules}
use Rattle.std.specs.Result.{IsErrOf}
use Rattle.ld_segment.specs.Lies.{slots_with}
use Rattle.ld_op.specs.Plain.{apply}
use Rattle.ld_op.specs.Cells.{placed}
use Rattle.ld_segment.proofs.Listed.{placed_is}
use Rattle.ld_store.specs.declared.fault.StoreFault.{StoreFault}
use Rattle.ld_store.specs.declared.fault.StoreFault.TheVariants as stores
use Rattle.ld_store.specs.Laid.{layout_in, slots_in}
use Rattle.ld_store.specs.Open.{slots_of, plain_of, told_plain}
use Rattle.ld_store.proofs.Faults.{error_in, limits_err}
use Rattle.ld_store.proofs.Formats.{op_rises}
use Rattle.ld_store.proofs.Wells.{well_too}
use Rattle.ld_store.proofs.Behind.{error_of}
use Rattle.ld_store.proofs.Applying.{body_is, body_fits, body_long, never_past, laid_kept}
use Rattle.ld_store.proofs.Ahead.{or_holds, ahead_too, still_stands, same_stands, full_then, group_in, may_in, leaves_in, staged_on, applied_on}
use Rattle.ld_store.proofs.store.Store.stage.Goals as goal

pub room-requires : goal.room-requires
room-requires g c = op_rises c.args.op c.requires.op

pub returns-in_err-room-clause-any_moment : goal.returns-in_err-room-clause-any_moment
returns-in_err-room-clause-any_moment g c p h =
    let D = g.D.Disk in
    still_stands D.seen D.may_leave D.moment D.left_since g.met.D.Disk.only_now c.args.self.now p (plain_of c.args.self.now) h

pub returns-in_err-encode-clause-any_moment : goal.returns-in_err-encode-clause-any_moment
returns-in_err-encode-clause-any_moment g c p h =
    let D = g.D.Disk in
    still_stands D.seen D.may_leave D.moment D.left_since g.met.D.Disk.only_now c.args.self.now p (plain_of c.args.self.now) h

pub stage_record-requires-clause-fits : goal.stage_record-requires-clause-fits
stage_record-requires-clause-fits g c = body_fits c.args.op c.encode.new.out.items c.requires.op (body_is c.args.op c.new-body.result.items c.encode.new.out.items c.new-body.ensures.items c.in_ok-encode.ensures.ok)

pub apply-requires-clause-fits : goal.apply-requires-clause-fits
apply-requires-clause-fits g c =
    let is = body_is c.args.op c.new-body.result.items c.encode.new.out.items c.new-body.ensures.items c.in_ok-encode.ensures.ok in
    omega (arith, c.in-Ok.ensures.low, body_long c.args.op c.encode.new.out.items is)

pub invariant_of-self-in-Ok : goal.invariant_of-self-in-Ok
invariant_of-self-in-Ok g c =
    let at = c.in-Ok.gates.0 + 5 in
    record {
      well = well_too c.args.self.now.index.state c.apply.new.self.state (placed at c.args.op) c.args.self.now.well (placed_is at c.args.op c.requires.op) (c.apply.ensures ∙ ap (λ s. apply s (placed at c.args.op)) c.in_ok-room.ensures.same);
      low = c.in-Ok.ensures.first_low;
    }

pub returns-in-Ok-clause-kept : goal.returns-in-Ok-clause-kept
returns-in-Ok-clause-kept g c =
    let same = c.in_ok-room.ensures.same in
    let is = body_is c.args.op c.new-body.result.items c.encode.new.out.items c.new-body.ensures.items c.in_ok-encode.ensures.ok in
    let long = body_long c.args.op c.encode.new.out.items is in
    let old = c.args.self.now in
    let laid = c.in-Ok.ensures.laid in (
      laid_kept old.laid laid.0 c.stage_record.new.laid.layout c.room.new.self.state c.apply.new.self.state old.index.state c.args.op c.in-Ok.gates.0 (length c.encode.new.out.items) same long laid.1 laid.2 laid.3 c.apply.ensures,
      c.in-Ok.ensures.slots ∙ (λ k. slots_with (layout_in old.laid (same k)) (slots_of old) (long k)),
      refl,
    )

pub returns-in-Ok-clause-staged : goal.returns-in-Ok-clause-staged
returns-in-Ok-clause-staged g c p h =
    let D = g.D.Disk in
    let old = c.args.self.now in
    let i = c.room.new.self.state in
    let body = c.encode.new.out.items in
    let same = c.in_ok-room.ensures.same in
    let is = body_is c.args.op c.new-body.result.items body c.new-body.ensures.items c.in_ok-encode.ensures.ok in
    let may = may_in D.may_leave old c.args.op i body same is p h c.requires.op c.requires.format (c.in-Ok.ensures.within (inl refl)) in
    let group = group_in D.may_leave old c.args.op i body same is p h c.requires.op c.requires.format in
    let kept = returns-in-Ok-clause-kept g c in
    staged_on D.may_leave old c.args.op i body same is p h c.requires.op c.requires.format _ c.in-Ok.gates.1 (c.in-Ok.ensures.staged p c.args.op is may group) refl kept.0 kept.1 refl c.if-self.false

pub returns-in-Ok-clause-applied : goal.returns-in-Ok-clause-applied
returns-in-Ok-clause-applied g c p h =
    let D = g.D.Disk in
    let old = c.args.self.now in
    let i = c.room.new.self.state in
    let body = c.encode.new.out.items in
    let same = c.in_ok-room.ensures.same in
    let is = body_is c.args.op c.new-body.result.items body c.new-body.ensures.items c.in_ok-encode.ensures.ok in
    let may = may_in D.may_leave old c.args.op i body same is p h c.requires.op c.requires.format (c.in-Ok.ensures.within (inl refl)) in
    let group = group_in D.may_leave old c.args.op i body same is p h c.requires.op c.requires.format in
    let kept = returns-in-Ok-clause-kept g c in
    applied_on D.may_leave old c.args.op i body same is p h c.requires.op c.requires.format c.stage_record.new.disk c.in-Ok.gates.1 (layout_in c.stage_record.new.laid c.apply.new.self.state) (c.in-Ok.ensures.staged p c.args.op is may group) kept.0

pub returns-in-Ok-clause-any_moment : goal.returns-in-Ok-clause-any_moment
returns-in-Ok-clause-any_moment g c p h =
    let D = g.D.Disk in
    let old = c.args.self.now in
    let i = c.room.new.self.state in
    let body = c.encode.new.out.items in
    let same = c.in_ok-room.ensures.same in
    let is = body_is c.args.op c.new-body.result.items body c.new-body.ensures.items c.in_ok-encode.ensures.ok in
    let may = may_in D.may_leave old c.args.op i body same is p h c.requires.op c.requires.format (c.in-Ok.ensures.within (inl refl)) in
    let group = group_in D.may_leave old c.args.op i body same is p h c.requires.op c.requires.format in
    ⊎_elim
    (λ leaves. leaves_in D.may_leave old c.args.op i body same is p h c.requires.op c.requires.format D.moment D.left_since c.stage_record.new.disk leaves)
    (λ unchanged. same_stands D.seen D.may_leave D.moment D.left_since g.met.D.Disk.only_now old c.stage_record.new.disk p (plain_of old) h unchanged)
    (c.in-Ok.ensures.any_moment p c.args.op is may group)

pub returns-in-Ok-clause-too_long : goal.returns-in-Ok-clause-too_long
returns-in-Ok-clause-too_long g c works past =
    let D = g.D.Disk in
    let old = c.args.self.now in
    let i = c.room.new.self.state in
    let body = c.encode.new.out.items in
    let same = c.in_ok-room.ensures.same in
    let is = body_is c.args.op c.new-body.result.items body c.new-body.ensures.items c.in_ok-encode.ensures.ok in
    absurd (never_past old.laid (slots_of old) c.args.op i old.index.state body same is (c.in-Ok.ensures.within (inl refl)) past)

pub returns-in-Err-clause-any_moment : goal.returns-in-Err-clause-any_moment
returns-in-Err-clause-any_moment g c p h =
    let D = g.D.Disk in
    let old = c.args.self.now in
    let i = c.room.new.self.state in
    let body = c.encode.new.out.items in
    let same = c.in_ok-room.ensures.same in
    let is = body_is c.args.op c.new-body.result.items body c.new-body.ensures.items c.in_ok-encode.ensures.ok in
    let new = c.stage_record.new.disk in
    let group = group_in D.may_leave old c.args.op i body same is p h c.requires.op c.requires.format in
    let stays = same_stands D.seen D.may_leave D.moment D.left_since g.met.D.Disk.only_now old new p (plain_of old) h in
    ⊎_elim
    (λ failed. ⊎_elim (leaves_in D.may_leave old c.args.op i body same is p h c.requires.op c.requires.format D.moment D.left_since new) stays
    (c.in-Err.ensures.any_moment p c.args.op is (may_in D.may_leave old c.args.op i body same is p h c.requires.op c.requires.format (c.in-Err.ensures.within (inr failed))) group))
    stays
    c.in-Err.ensures.stays

pub returns-in-Err-clause-full : goal.returns-in-Err-clause-full
returns-in-Err-clause-full g c full =
    let D = g.D.Disk in
    let old = c.args.self.now in
    let i = c.room.new.self.state in
    let body = c.encode.new.out.items in
    let same = c.in_ok-room.ensures.same in
    let is = body_is c.args.op c.new-body.result.items body c.new-body.ensures.items c.in_ok-encode.ensures.ok in
    (c.if-self.false, λ p h. full_then D.may_leave old c.args.op i body same is p h c.requires.op c.requires.format (c.in-Err.ensures.full (ap Err (error_in c.in-Err.fault stores.Full full))))

pub returns-in-Err-clause-too_long : goal.returns-in-Err-clause-too_long
returns-in-Err-clause-too_long g c works past =
    let D = g.D.Disk in
    let old = c.args.self.now in
    let i = c.room.new.self.state in
    let body = c.encode.new.out.items in
    let same = c.in_ok-room.ensures.same in
    let is = body_is c.args.op c.new-body.result.items body c.new-body.ensures.items c.in_ok-encode.ensures.ok in
    limits_err c.in-Err.fault
    (λ failed. never_past old.laid (slots_of old) c.args.op i old.index.state body same is (c.in-Err.ensures.within (inr (ap Err failed))) past)
    (λ place damaged. c.in-Err.ensures.damaged place (ap Err damaged)) (λ needs. c.in-Err.ensures.needs_load (ap Err needs))

pub returns-in-Err-clause-holds : goal.returns-in-Err-clause-holds
returns-in-Err-clause-holds g c p h =
    let D = g.D.Disk in
    let old = c.args.self.now in
    let i = c.room.new.self.state in
    let body = c.encode.new.out.items in
    let same = c.in_ok-room.ensures.same in
    let is = body_is c.args.op c.new-body.result.items body c.new-body.ensures.items c.in_ok-encode.ensures.ok in
    let failed : c.eq-self.result ≡ true → IsErrOf {T = Unit {0}} {E = StoreFault} (Err c.in-Err.fault) stores.Disk = search rules in
    ⊎_elim
    (λ refused. inl (ap Err (error_of c.in-Err.fault stores.Disk refused)))
    (λ unchanged. or_holds c.eq-self.result failed
    (λ works. ahead_too D.seen D.may_leave old _ p unchanged.bytes unchanged.crash (λ k. layout_in (c.in-Err.ensures.refused k) (same k)) (ap (λ l. slots_in l) c.in-Err.ensures.refused) refl refl works (λ k. told_plain (unchanged.bytes k) (same k)) h))
    c.in-Err.ensures.stays
