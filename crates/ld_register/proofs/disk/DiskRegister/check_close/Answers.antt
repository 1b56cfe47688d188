use Rattle.std.proofs.Common.{◌≡◌, ◌≢◌, ◌≤◌, ◌-◌, ◌^◌, true, ◌+◌, ◌==◌, ◌∙◌, ◌&&◌, ap, sym, subst, arith, Ok, Err, not, [], inr}
use Rattle.std.proofs.lemmas.Bool.{eq-eqb}
use Rattle.ld_msg.specs.Register.{epochs_of, lce_of, is_crowded}
use Rattle.ld_register.specs.declared.fault.RegisterFault.TheVariants as faults
use Rattle.ld_register.specs.declared.change.Change.TheVariants as changes
use Rattle.ld_register.specs.Changes.{changed}
use Rattle.ld_register.specs.Kept.{register_of}
use Rattle.ld_register.specs.Calls.{spec_told, closed, after_close}
use Rattle.ld_register.proofs.Committing.{err_of, on_err}
use Rattle.ld_register.proofs.Meeting.{meets_unready, meets_answered, replays_length, failure, loads_granted}
use Rattle.ld_register.proofs.Answering.{crowded_close, behind_close, overtaken_close, full_close, made_close}
use Rattle.ld_register.proofs.Refusing.{late_is, same_epoch}
use Rattle.ld_register.proofs.Writing.{writes_as, writes_next}
use Rattle.ld_register.proofs.disk.DiskRegister.check_close.Goals as goal

pub returns-in_err-ready-clause-refused : goal.returns-in_err-ready-clause-refused
returns-in_err-ready-clause-refused g c = on_err c.from_residual.result _ (meets_unready g.met.D.Disk.counts_now g.met.D.Disk.reads_an_image c.args.self.now c.ready.new.self c.in_err-ready.field-0.0 c.from_residual.result _ _ (err_of c.from_residual.result c.in_err-ready.field-0.0 c.from_residual.ensures.1) c.in_err-ready.ensures.loads c.in_err-ready.ensures.refused)

pub returns-then-is_crowded-clause-refused : goal.returns-then-is_crowded-clause-refused
returns-then-is_crowded-clause-refused g c = meets_answered g.met.D.Disk.counts_now g.met.D.Disk.reads_an_image c.args.self.now c.ready.new.self _ _ _ _ c.in_ok-ready.ensures.loads c.in_ok-ready.ensures.ready (λ f. absurd (cc f)) (λ p f. absurd (cc f))
    (λ h m. crowded_close h c.args.log c.args.epoch c.args.summary.now c.args.short (ap (λ r. is_crowded r c.args.log) (sym m.kept) ∙ (sym (c.is_crowded.ensures h.length) ∙ c.if-is_crowded.true)))

pub returns-then-lce-epoch-clause-refused : goal.returns-then-lce-epoch-clause-refused
returns-then-lce-epoch-clause-refused g c = meets_answered g.met.D.Disk.counts_now g.met.D.Disk.reads_an_image c.args.self.now c.ready.new.self _ _ _ _ c.in_ok-ready.ensures.loads c.in_ok-ready.ensures.ready (λ f. absurd (cc f)) (λ p f. absurd (cc f))
    (λ h m. let e = c.lce-lce.ensures.value h.length ∙ ap (λ r. lce_of r c.args.log) m.kept in
    let s = behind_close h c.args.log c.args.epoch c.args.summary.now c.args.short (ap (λ r. is_crowded r c.args.log) (sym m.kept) ∙ (sym (c.is_crowded.ensures h.length) ∙ c.if-is_crowded.false)) (λ q. c.if-lce-epoch.true (ap (λ n. n + 1) e ∙ q)) in
    let n = c.spec-next.ensures.value h.length ∙ (ap (λ r. spec_told r c.args.log (c.lce-lce.result + 1)) m.kept ∙ ap (λ v. spec_told h c.args.log (v + 1)) e) in
    (ap (λ v. Err (faults.Behind v c.spec-next.result)) e ∙ (ap (λ v. Err (faults.Behind (lce_of h c.args.log) v)) n ∙ s.0), s.1))

pub returns-then-is_overtaken-clause-refused : goal.returns-then-is_overtaken-clause-refused
returns-then-is_overtaken-clause-refused g c = meets_answered g.met.D.Disk.counts_now g.met.D.Disk.reads_an_image c.args.self.now c.ready.new.self _ _ _ _ c.in_ok-ready.ensures.loads c.in_ok-ready.ensures.ready (λ f. absurd (cc f)) (λ p f. absurd (cc f))
    (λ h m. let k = c.epoch-kept.ensures.value h.length ∙ ap (λ r. (epochs_of r c.args.log).epoch) m.kept in
    let s = overtaken_close h c.args.log c.args.epoch c.args.summary.now c.args.short (ap (λ r. is_crowded r c.args.log) (sym m.kept) ∙ (sym (c.is_crowded.ensures h.length) ∙ c.if-is_crowded.false))
    (ap (λ n. n + 1) (sym (c.lce-lce.ensures.value h.length ∙ ap (λ r. lce_of r c.args.log) m.kept)) ∙ c.if-lce-epoch.false) (ap (λ k. c.args.short && not (k == c.args.summary.now.ballot)) (sym k) ∙ (sym c.is_overtaken.ensures ∙ c.if-is_overtaken.true)) in
    (ap (λ v. Err (faults.Overtaken v)) k ∙ s.0, s.1))

pub returns-then-is_full-clause-refused : goal.returns-then-is_full-clause-refused
returns-then-is_full-clause-refused g c = meets_answered g.met.D.Disk.counts_now g.met.D.Disk.reads_an_image c.args.self.now c.ready.new.self _ _ _ _ c.in_ok-ready.ensures.loads c.in_ok-ready.ensures.ready (λ f. absurd (cc f)) (λ p f. absurd (cc f))
    (λ h m. subst (λ r. (failure _ faults.Full ≡ closed r c.args.log c.args.epoch c.args.summary.now c.args.short) × (after_close r c.args.log c.args.epoch c.args.summary.now c.args.short ≡ r)) m.kept
    (full_close c.ready.new.self.contents h.length c.args.log c.args.epoch c.args.summary.now c.args.short (sym (c.is_crowded.ensures h.length) ∙ c.if-is_crowded.false) (ap (λ n. n + 1) (sym (c.lce-lce.ensures.value h.length)) ∙ c.if-lce-epoch.false)
    (ap (λ k. c.args.short && not (k == c.args.summary.now.ballot)) (sym (c.epoch-kept.ensures.value h.length)) ∙ (sym c.is_overtaken.ensures ∙ c.if-is_overtaken.false))
    (let l = replays_length c.ready.new.self h m in let big = c.is_full.ensures.full c.if-is_full.true in omega arith)))

pub returns-clause-due : goal.returns-clause-due
returns-clause-due g c = record {
  loads = loads_granted c.args.self.now c.ready.new.self _ _ c.in_ok-ready.ensures.loads;
  ready = c.in_ok-ready.ensures.ready;
  is = let e = c.if-lce-epoch.false in let b = c.requires.ballot in let m = c.requires.ballot_most in (c.number.ensures.bounds, (omega arith, omega arith), c.requires);
  next = ap (λ b. not b && (lce_of (register_of c.ready.new.self.contents 0) c.args.log + 1 == c.args.epoch)) (sym (c.is_crowded.ensures 0) ∙ c.if-is_crowded.false) ∙ eq-eqb _ _ (ap (λ n. n + 1) (sym (c.lce-lce.ensures.value 0)) ∙ c.if-lce-epoch.false);
  fits = c.is_full.ensures.fits c.if-is_full.false;
  answers = λ h m. subst (λ r. (Ok c.spec.result ≡ closed r c.args.log c.args.epoch c.args.summary.now c.args.short) × (after_close r c.args.log c.args.epoch c.args.summary.now c.args.short ≡ changed r (changes.Close c.args.log c.args.epoch c.args.summary.now))) m.kept
      (made_close c.ready.new.self.contents h.length c.args.log c.args.epoch c.args.summary.now c.args.short c.spec.result (sym (c.is_crowded.ensures h.length) ∙ c.if-is_crowded.false) (ap (λ n. n + 1) (sym (c.lce-lce.ensures.value h.length)) ∙ c.if-lce-epoch.false)
      (ap (λ k. c.args.short && not (k == c.args.summary.now.ballot)) (sym (c.epoch-kept.ensures.value h.length)) ∙ (sym c.is_overtaken.ensures ∙ c.if-is_overtaken.false))
      (let l = replays_length c.ready.new.self h m in let fit = c.is_full.ensures.fits c.if-is_full.false in omega arith) (c.spec.ensures.value h.length));
}

pub returns-in_err-ready-clause-exact_calls : goal.returns-in_err-ready-clause-exact_calls
returns-in_err-ready-clause-exact_calls g c p is fine = writes_as _ [] p c.from_residual.result c.in_err-ready.field-0.0 _ (err_of c.from_residual.result c.in_err-ready.field-0.0 c.from_residual.ensures.1) (c.in_err-ready.ensures.exact_calls p is fine)

pub returns-then-is_crowded-clause-exact_calls : goal.returns-then-is_crowded-clause-exact_calls
returns-then-is_crowded-clause-exact_calls g c p is fine = writes_next _ p tt _ _ (c.in_ok-ready.ensures.exact_calls p is fine) (λ f. absurd (cc f))

pub returns-then-lce-epoch-clause-exact_calls : goal.returns-then-lce-epoch-clause-exact_calls
returns-then-lce-epoch-clause-exact_calls g c p is fine = writes_next _ p tt _ _ (c.in_ok-ready.ensures.exact_calls p is fine) (λ f. absurd (cc f))

pub returns-then-is_overtaken-clause-exact_calls : goal.returns-then-is_overtaken-clause-exact_calls
returns-then-is_overtaken-clause-exact_calls g c p is fine = writes_next _ p tt _ _ (c.in_ok-ready.ensures.exact_calls p is fine) (λ f. absurd (cc f))

pub returns-then-is_full-clause-exact_calls : goal.returns-then-is_full-clause-exact_calls
returns-then-is_full-clause-exact_calls g c p is fine = writes_next _ p tt _ _ (c.in_ok-ready.ensures.exact_calls p is fine) (λ f. absurd (cc f))

pub returns-clause-exact_calls : goal.returns-clause-exact_calls
returns-clause-exact_calls g c p is fine = writes_next _ p tt _ _ (c.in_ok-ready.ensures.exact_calls p is fine) (λ f. absurd (cc f))

pub returns-in_err-ready-clause-stays : goal.returns-in_err-ready-clause-stays
returns-in_err-ready-clause-stays g c l = absurd (let a = (c.in_err-ready.ensures.again l).0 in cc a)

pub returns-then-is_crowded-clause-stays : goal.returns-then-is_crowded-clause-stays
returns-then-is_crowded-clause-stays g c l = inr c.in_ok-ready.ensures.ready.loaded

pub returns-then-lce-epoch-clause-stays : goal.returns-then-lce-epoch-clause-stays
returns-then-lce-epoch-clause-stays g c l = inr c.in_ok-ready.ensures.ready.loaded

pub returns-then-is_overtaken-clause-stays : goal.returns-then-is_overtaken-clause-stays
returns-then-is_overtaken-clause-stays g c l = inr c.in_ok-ready.ensures.ready.loaded

pub returns-then-is_full-clause-stays : goal.returns-then-is_full-clause-stays
returns-then-is_full-clause-stays g c l = inr c.in_ok-ready.ensures.ready.loaded

pub returns-clause-stays : goal.returns-clause-stays
returns-clause-stays g c l = inr c.in_ok-ready.ensures.ready.loaded

pub returns-then-is_overtaken-clause-overtaken : goal.returns-then-is_overtaken-clause-overtaken
returns-then-is_overtaken-clause-overtaken g c kept is = let s = late_is c.args.short c.epoch-kept.result c.args.summary.now.ballot (sym c.is_overtaken.ensures ∙ c.if-is_overtaken.true) in
    let e : c.epoch-kept.result ≡ kept = same_epoch c.epoch-kept.result kept (cc is) in
    subst (λ k. (c.args.short ≡ true) × (k ≤ 2 ^ 32 - 2) × (k ≢ c.args.summary.now.ballot)) e (s.0, c.epoch-kept.ensures.bound, s.1)
