use Rattle.std.proofs.Common.{◌≡◌, inl, inr, length, Err, sym, ap, subst, arith}
use Rattle.std.specs.Result.{IsErrAnd}
use Rattle.std.proofs.lemmas.Option.{IfSome_then}
use Rattle.ld_journal.specs.declared.fault.JournalFault.TheVariants.{Damaged}
use Rattle.ld_ids.specs.Bytes.{AreBytes}
use Rattle.ld_fields.specs.Fields.{Got}
use Rattle.ld_layout.specs.Base.{judge_base}
use Rattle.ld_layout.specs.LaidOut.{base_of}
use Rattle.ld_segment.proofs.FoundSlots.{both_read}
use Rattle.ld_segment.proofs.ReadLater.{no_base}
use Rattle.ld_segment.proofs.later.read_later.Goals as goal

pub returns-in_err-found-clause-damaged : goal.returns-in_err-found-clause-damaged
returns-in_err-found-clause-damaged g c place is =
    let given = c.in_err-found.field-0.0 in
    let same : Damaged place ≡ given = subst (λ r. IsErrAnd r (λ e. e ≡ given)) is c.from_residual.ensures.1 in
    IfSome_then (g.D.Disk.seen c.args.disk.now) (c.in_err-found.ensures.damaged place (ap (λ e. Err e) (sym same))) (λ bytes none len. inl none)

pub returns-in_err-based-clause-damaged : goal.returns-in_err-based-clause-damaged
returns-in_err-based-clause-damaged g c place is =
    let given = c.in_err-based.field-0.0 in
    let same : Damaged place ≡ given = subst (λ r. IsErrAnd r (λ e. e ≡ given)) is c.from_residual-in_err-based.ensures.1 in
    let none = c.in_err-based.ensures.damaged place (ap (λ e. Err e) (sym same)) in
    both_read (g.D.Disk.seen c.args.disk.now) (g.D.Disk.seen c.read_current.new.disk) _ _ _ c.read_current.ensures.same.bytes
    (λ bytes found body len. inr (
      c.in_ok-found.found,
      found,
      none.0,
      no_base c.args.opening c.in_ok-found.found.place place c.in_ok-body.body.items bytes none.0 (body len)
          (λ b version based. none.1 b version (subst (λ l. judge_base l ≡ Got b (length l)) (sym c.deref.ensures.value) based)),
    )) c.in_ok-found.ensures.found c.in_ok-body.ensures.body

pub returns-clause-later : goal.returns-clause-later
returns-clause-later g c =
    let read = c.in_ok-body.body.items in
    both_read (g.D.Disk.seen c.args.disk.now) (g.D.Disk.seen c.read_current.new.disk) _ _ _ c.read_current.ensures.same.bytes
    (λ bytes found body len. record {
      found = found;
      base = record { body = read; there = body len; based = subst (λ l. judge_base l ≡ Got (base_of c.in_ok-based.based) (length l)) c.deref.ensures.value c.in_ok-based.ensures.based.0; version_is = c.in_ok-based.ensures.based.1 };
      gate_is = omega (arith, c.len.ensures);
    }) c.in_ok-found.ensures.found c.in_ok-body.ensures.body

pub returns-clause-judged : goal.returns-clause-judged
returns-clause-judged g c =
    let read = c.in_ok-body.body.items in
    record {
      body = read;
      bytes = subst AreBytes c.deref.ensures.value c.in_ok-based.ensures.bytes;
      fits = c.in_ok-body.ensures.fits;
      is = subst (λ l. judge_base l ≡ Got (base_of c.in_ok-based.based) (length l)) c.deref.ensures.value c.in_ok-based.ensures.based.0;
      gate_is = omega (arith, c.len.ensures);
    }
