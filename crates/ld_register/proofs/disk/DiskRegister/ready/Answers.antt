use Rattle.std.proofs.Common.{◌∙◌, refl, ap, sym, subst, arith, Err, None, []}
use Rattle.ld_disk.specs.Plain.{after_call}
use Rattle.ld_disk.specs.Images.{IsHonest}
use Rattle.ld_register.specs.declared.fault.RegisterFault.TheVariants as faults
use Rattle.ld_register.proofs.Committing.{leaves_then, err_in, err_of, quiet_load, steady_load, loaded_plain, quiet_call, quiet_reads}
use Rattle.ld_register.specs.Faults.{passed_on}
use Rattle.ld_register.specs.Held.{owned}
use Rattle.ld_register.proofs.Meeting.{replays_holds, holds_unloaded, some_bytes, given_of}
use Rattle.ld_register.proofs.Writing.{writes_nothing, writes_load, load_made, load_refused, reads_on, writes_as}
use Rattle.ld_register.proofs.disk.DiskRegister.ready.Goals as goal

pub returns-in_err-reload-clause-loads : goal.returns-in_err-reload-clause-loads
returns-in_err-reload-clause-loads g c = record {
  moments = c.in_err-reload.ensures.any_moment;
  counts = c.in_err-reload.ensures.counts;
  honest = c.in_err-reload.ensures.honest;
  quiet = λ p is q. quiet_load c.in_err-reload.field-0.0 p _ q (c.in_err-reload.ensures.exact p is);
  steady = λ p is q f. steady_load c.in_err-reload.field-0.0 p _ q (c.in_err-reload.ensures.exact p is) c.in_err-reload.ensures.needs_load (err_in c.from_residual.result faults.Failed _ c.from_residual.ensures.1 f);
}

pub returns-in_err-replay-clause-loads : goal.returns-in_err-replay-clause-loads
returns-in_err-replay-clause-loads g c = let D = g.D.Disk in record {
  moments = leaves_then D.seen D.may_leave D.moment D.left_since _ _ _ _ c.in_ok-reload.ensures.any_moment c.in_err-replay.ensures.same;
  counts = omega (arith, c.in_ok-reload.ensures.counts, c.in_err-replay.ensures.counts);
  honest = λ h. subst IsHonest (sym c.in_err-replay.ensures.same.bytes) (c.in_ok-reload.ensures.honest h);
  quiet = λ p is q. (_, (c.in_err-replay.ensures.exact (after_call None p) (loaded_plain p _ (c.in_ok-reload.ensures.exact p is)) (quiet_reads _ (quiet_call None p q).1)).0, (quiet_call None p q).1);
  steady = λ p is q f. (c.in_err-replay.ensures.exact (after_call None p) (loaded_plain p _ (c.in_ok-reload.ensures.exact p is)) (quiet_reads _ (quiet_call None p q).1)).1 (ap Err (sym (err_in c.from_residual-in_err-replay.result faults.Failed c.in_err-replay.field-0.0 c.from_residual-in_err-replay.ensures.1 f)));
}

pub returns-clause-loads : goal.returns-clause-loads
returns-clause-loads g c = let D = g.D.Disk in record {
  moments = leaves_then D.seen D.may_leave D.moment D.left_since _ _ _ _ c.in_ok-reload.ensures.any_moment c.in_ok-replay.ensures.same;
  counts = omega (arith, c.in_ok-reload.ensures.counts, c.in_ok-replay.ensures.counts);
  honest = λ h. subst IsHonest (sym c.in_ok-replay.ensures.same.bytes) (c.in_ok-reload.ensures.honest h);
  quiet = λ p is q. (_, (c.in_ok-replay.ensures.exact (after_call None p) (loaded_plain p _ (c.in_ok-reload.ensures.exact p is)) (quiet_reads _ (quiet_call None p q).1)).0, (quiet_call None p q).1);
  steady = λ p is q f. absurd (cc f);
}

pub returns-then-self-clause-ready : goal.returns-then-self-clause-ready
returns-then-self-clause-ready g c = record { loaded = c.if-self.true; whole = λ t. let w = t.loaded c.if-self.true in (w.0, w.1, replays_holds c.args.self.now w.0 w.1); same = λ t. refl }

pub returns-clause-ready : goal.returns-clause-ready
returns-clause-ready g c = record {
  loaded = refl;
  whole = λ t. let b = some_bytes (g.D.Disk.seen (owned c.args.self.now)) t.honest in
      let given = given_of (g.D.Disk.seen (owned c.args.self.now)) b.0 _ b.1 c.in_ok-reload.ensures.opens in
      let w = c.in_ok-replay.ensures.replayed b.0 given in
      let rests = w.1.settled.rests in
      (w.0, w.1, holds_unloaded c.args.self.now w.0 (record { bytes = _; seen_is = b.1 ∙ (sym given.bytes ∙ (sym c.in_ok-replay.ensures.same.bytes ∙ rests.bytes)); stands = record { bodies = w.1.bodies; journal = record { gate = rests.gate; after = rests.after; bytes_are = refl; shut = rests.shut; fits = rests.fits }; leads = w.1.leads } }) c.if-self.false);
  same = λ t. let b = some_bytes (g.D.Disk.seen (owned c.args.self.now)) t.honest in
      let given = given_of (g.D.Disk.seen (owned c.args.self.now)) b.0 _ b.1 c.in_ok-reload.ensures.opens in
      c.in_ok-replay.ensures.same.bytes ∙ (given.bytes ∙ sym b.1);
}

pub returns-then-self-clause-exact_calls : goal.returns-then-self-clause-exact_calls
returns-then-self-clause-exact_calls g c p is fine = writes_nothing _ p tt _ c.if-self.true is

pub returns-in_err-reload-clause-exact_calls : goal.returns-in_err-reload-clause-exact_calls
returns-in_err-reload-clause-exact_calls g c p is fine = writes_as _ [] p c.from_residual.result (passed_on c.in_err-reload.field-0.0) _ (err_of c.from_residual.result _ c.from_residual.ensures.1)
    (load_refused c.in_err-reload.field-0.0 _ p _ c.if-self.false c.in_err-reload.ensures.full c.in_err-reload.ensures.needs_load (c.in_err-reload.ensures.exact p is))

pub returns-in_err-replay-clause-exact_calls : goal.returns-in_err-replay-clause-exact_calls
returns-in_err-replay-clause-exact_calls g c p is fine =
    let m = load_made p _ _ refl (c.in_ok-reload.ensures.exact p is) in
    let r = c.in_err-replay.ensures.exact (after_call None p) m.0 (reads_on None p fine m.1) in
    writes_load _ p _ _ c.if-self.false (λ f. r.1 (ap Err (sym (err_in c.from_residual-in_err-replay.result faults.Failed c.in_err-replay.field-0.0 c.from_residual-in_err-replay.ensures.1 f)))) r.0 m.1

pub returns-clause-exact_calls : goal.returns-clause-exact_calls
returns-clause-exact_calls g c p is fine =
    let m = load_made p _ _ refl (c.in_ok-reload.ensures.exact p is) in
    let r = c.in_ok-replay.ensures.exact (after_call None p) m.0 (reads_on None p fine m.1) in
    writes_load _ p _ _ c.if-self.false (λ f. absurd (cc f)) r.0 m.1
