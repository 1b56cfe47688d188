use Rattle.std.proofs.Common.{◌+◌, ◌^◌, ◌∙◌, ap, sym, refl, inl, inr, arith, Err, length, not}
use Rattle.ld_journal.specs.Format.{append_calls}
use Rattle.ld_journal.specs.Open.{place_of, must_load}
use Rattle.ld_register.specs.Changes.{is_next, body_length}
use Rattle.ld_register.proofs.Leading.{length_is, short}
use Rattle.ld_register.proofs.Committing.{on_err, leaves_none, moments_by, made_by, adds_by, kept_by, refused_by, quiet_calls, quiet_refused, steady_append, is_not_ok, err_of, same_refusal, fits_by, not_both}
use Rattle.ld_journal.specs.declared.fault.JournalFault.TheVariants as journals
use Rattle.ld_register.specs.declared.fault.RegisterFault.TheVariants as faults
use Rattle.ld_register.proofs.Writing.{append_made, append_refused, writes_none}
use Rattle.ld_register.proofs.disk.DiskRegister.commit.Goals as goal

pub append-requires-clause-fits : goal.append-requires-clause-fits
append-requires-clause-fits g c = let e = ap length (c.deref.ensures.value ∙ c.in_ok-body.ensures) ∙ length_is c.args.change.now in let s = short c.args.change.now in omega arith

pub apply-requires-clause-next : goal.apply-requires-clause-next
apply-requires-clause-next g c = ap (λ r. is_next r c.args.change.now) (c.in_ok-room.ensures.same 0) ∙ c.requires.next

pub returns-in-Ok-clause-commits : goal.returns-in-Ok-clause-commits
returns-in-Ok-clause-commits g c = let calls = append_calls (place_of c.args.self.now.journal) c.deref.result.now in record {
  moments = moments_by g.D.Disk c.args.self.now.journal c.append.new.self c.args.self.now.contents c.args.change.now c.deref.result.now (c.deref.ensures.value ∙ c.in_ok-body.ensures) c.requires.is c.requires.next c.in-Ok.ensures.any_moment;
  counts = c.in-Ok.ensures.counts;
  honest = c.in-Ok.ensures.honest;
  quiet = λ p is q. (_, (c.in-Ok.ensures.exact p is (inl refl)).0, (quiet_calls calls p q).1);
  steady = λ p is q f. absurd (cc f);
}

pub returns-in-Ok-clause-made : goal.returns-in-Ok-clause-made
returns-in-Ok-clause-made g c = record {
  loaded = c.requires.loaded;
  replays = made_by g.D.Disk c.args.self.now.journal c.append.new.self c.args.self.now.contents c.room.new.self c.apply.new.self c.args.change.now c.deref.result.now (c.deref.ensures.value ∙ c.in_ok-body.ensures) c.requires.is c.requires.next c.in_ok-room.ensures.same c.apply.ensures c.in-Ok.ensures.acknowledged;
  adds = adds_by g.D.Disk c.args.self.now.journal c.append.new.self c.args.self.now.contents c.args.change.now c.deref.result.now (c.deref.ensures.value ∙ c.in_ok-body.ensures) c.in-Ok.ensures.acknowledged;
  fits = fits_by (place_of c.args.self.now.journal + body_length c.args.change.now + 6) (2 ^ 40) (λ l. let e = ap length (c.deref.ensures.value ∙ c.in_ok-body.ensures) ∙ length_is c.args.change.now in is_not_ok journals.Full (c.in-Ok.ensures.full.1 (c.args.self.now.works c.requires.loaded, omega arith)));
}

pub returns-clause-commits : goal.returns-clause-commits
returns-clause-commits g c = let calls = append_calls (place_of c.args.self.now.journal) c.deref.result.now in record {
  moments = moments_by g.D.Disk c.args.self.now.journal c.append.new.self c.args.self.now.contents c.args.change.now c.deref.result.now (c.deref.ensures.value ∙ c.in_ok-body.ensures) c.requires.is c.requires.next c.in-Err.ensures.any_moment;
  counts = c.in-Err.ensures.counts;
  honest = c.in-Err.ensures.honest;
  quiet = λ p is q. quiet_refused c.in-Err.fault p _ _ _ calls (λ s. s.0) is q (λ d. c.in-Err.ensures.exact p is (inr d)) c.in-Err.ensures.refused;
  steady = λ p is q f. steady_append c.in-Err.fault p _ calls q (λ d. c.in-Err.ensures.exact p is (inr d)) (λ e. not_both (must_load c.args.self.now.journal) (c.in-Err.ensures.needs_load.0 e) (c.args.self.now.works c.requires.loaded)) (sym c.from.ensures ∙ same_refusal c.from.result faults.Failed f);
}

pub returns-clause-refused : goal.returns-clause-refused
returns-clause-refused g c = record {
  cause = refused_by g.D.Disk c.in-Err.fault c.args.self.now.journal c.append.new.self c.args.self.now.contents c.room.new.self (body_length c.args.change.now) (not c.is_disk.result) (Err c.from.result) c.deref.result.now
      (ap length (c.deref.ensures.value ∙ c.in_ok-body.ensures) ∙ length_is c.args.change.now) (ap Err c.from.ensures) (ap not c.is_disk.ensures) c.in_ok-room.ensures.same (c.args.self.now.works c.requires.loaded) c.in-Err.ensures.failed c.in-Err.ensures.full.0 c.in-Err.ensures.full.1 g.met.D.Disk.only_now c.in-Err.ensures.needs_load.0 c.in-Err.ensures.damaged c.in-Err.ensures.keeps c.in-Err.ensures.stays;
}

pub returns-in_err-room-clause-refused : goal.returns-in_err-room-clause-refused
returns-in_err-room-clause-refused g c = on_err c.from_residual.result _ (record { cause = inr (inl (err_of c.from_residual.result faults.NoMemory c.from_residual.ensures.1), c.requires.loaded, kept_by g.D.Disk c.args.self.now.journal c.args.self.now.journal c.args.self.now.contents c.room.new.self c.in_err-room.ensures.same (λ b s. s), leaves_none g.D.Disk _ g.met.D.Disk.only_now, refl) })

pub returns-in_err-body-clause-refused : goal.returns-in_err-body-clause-refused
returns-in_err-body-clause-refused g c = on_err c.from_residual-in_err-body.result _ (record { cause = inr (inl (err_of c.from_residual-in_err-body.result faults.NoMemory c.from_residual-in_err-body.ensures.1), c.requires.loaded, kept_by g.D.Disk c.args.self.now.journal c.args.self.now.journal c.args.self.now.contents c.room.new.self c.in_ok-room.ensures.same (λ b s. s), leaves_none g.D.Disk _ g.met.D.Disk.only_now, refl) })

pub returns-in-Ok-clause-exact_calls : goal.returns-in-Ok-clause-exact_calls
returns-in-Ok-clause-exact_calls g c p is = append_made p (place_of c.args.self.now.journal) c.deref.result.now _ _ (c.deref.ensures.value ∙ c.in_ok-body.ensures) (c.in-Ok.ensures.exact p is (inl refl))

pub returns-clause-exact_calls : goal.returns-clause-exact_calls
returns-clause-exact_calls g c p is = append_refused c.in-Err.fault c.from.result (place_of c.args.self.now.journal) c.deref.result.now _ p _ _ _ c.from.ensures (c.deref.ensures.value ∙ c.in_ok-body.ensures) (λ s. s.0) is
    (λ d. c.in-Err.ensures.exact p is (inr d)) (λ e. not_both (must_load c.args.self.now.journal) (c.in-Err.ensures.needs_load.0 e) (c.args.self.now.works c.requires.loaded)) c.in-Err.ensures.refused

pub returns-in_err-room-clause-exact_calls : goal.returns-in_err-room-clause-exact_calls
returns-in_err-room-clause-exact_calls g c p is = writes_none _ p c.from_residual.result _ (err_of c.from_residual.result faults.NoMemory c.from_residual.ensures.1) is

pub returns-in_err-body-clause-exact_calls : goal.returns-in_err-body-clause-exact_calls
returns-in_err-body-clause-exact_calls g c p is = writes_none _ p c.from_residual-in_err-body.result _ (err_of c.from_residual-in_err-body.result faults.NoMemory c.from_residual-in_err-body.ensures.1) is
