use Rattle.std.proofs.Common.{◌≡◌, ◌+◌, ◌==◌, ◌∙◌, ◌&&◌, ap, sym, subst, arith, Ok, not, [], inr}
use Rattle.std.proofs.lemmas.Bool.{eq-eqb}
use Rattle.ld_msg.specs.Register.{epochs_of, lce_of, is_crowded}
use Rattle.ld_register.specs.declared.fault.RegisterFault.TheVariants as faults
use Rattle.ld_register.specs.declared.change.Change.TheVariants as changes
use Rattle.ld_register.specs.Changes.{changed}
use Rattle.ld_register.specs.Kept.{register_of}
use Rattle.ld_register.specs.Calls.{activated, after_activate}
use Rattle.ld_register.proofs.Committing.{err_of, on_err}
use Rattle.ld_register.proofs.Meeting.{meets_unready, meets_answered, replays_length, failure, loads_granted}
use Rattle.ld_register.proofs.Answering.{crowded_activate, limit_activate, full_activate, made_activate}
use Rattle.ld_register.proofs.Writing.{writes_as, writes_next}
use Rattle.ld_register.proofs.disk.DiskRegister.check_activate.Goals as goal

pub returns-in_err-ready-clause-refused : goal.returns-in_err-ready-clause-refused
returns-in_err-ready-clause-refused g c = on_err c.from_residual.result _ (meets_unready g.met.D.Disk.counts_now g.met.D.Disk.reads_an_image c.args.self.now c.ready.new.self c.in_err-ready.field-0.0 c.from_residual.result _ _ (err_of c.from_residual.result c.in_err-ready.field-0.0 c.from_residual.ensures.1) c.in_err-ready.ensures.loads c.in_err-ready.ensures.refused)

pub returns-then-is_crowded-clause-refused : goal.returns-then-is_crowded-clause-refused
returns-then-is_crowded-clause-refused g c = meets_answered g.met.D.Disk.counts_now g.met.D.Disk.reads_an_image c.args.self.now c.ready.new.self _ _ _ _ c.in_ok-ready.ensures.loads c.in_ok-ready.ensures.ready (λ f. absurd (cc f)) (λ p f. absurd (cc f))
    (λ h m. crowded_activate h c.args.spec.now (ap (λ r. is_crowded r c.args.spec.now.log) (sym m.kept) ∙ (sym (c.is_crowded.ensures h.length) ∙ c.if-is_crowded.true)))

pub returns-then-before-ge-GREATEST_EPOCH-clause-refused : goal.returns-then-before-ge-GREATEST_EPOCH-clause-refused
returns-then-before-ge-GREATEST_EPOCH-clause-refused g c = meets_answered g.met.D.Disk.counts_now g.met.D.Disk.reads_an_image c.args.self.now c.ready.new.self _ _ _ _ c.in_ok-ready.ensures.loads c.in_ok-ready.ensures.ready (λ f. absurd (cc f)) (λ p f. absurd (cc f))
    (λ h m. limit_activate h c.args.spec.now (ap (λ r. is_crowded r c.args.spec.now.log) (sym m.kept) ∙ (sym (c.is_crowded.ensures h.length) ∙ c.if-is_crowded.false))
    (let e = c.epoch-before.ensures.value h.length ∙ ap (λ r. (epochs_of r c.args.spec.now.log).epoch) m.kept in let t = c.if-before-ge-GREATEST_EPOCH.true in omega arith))

pub returns-then-is_full-clause-refused : goal.returns-then-is_full-clause-refused
returns-then-is_full-clause-refused g c = meets_answered g.met.D.Disk.counts_now g.met.D.Disk.reads_an_image c.args.self.now c.ready.new.self _ _ _ _ c.in_ok-ready.ensures.loads c.in_ok-ready.ensures.ready (λ f. absurd (cc f)) (λ p f. absurd (cc f))
    (λ h m. subst (λ r. (failure _ faults.Full ≡ activated r c.args.spec.now) × (after_activate r c.args.spec.now ≡ r)) m.kept
    (full_activate c.ready.new.self.contents h.length c.args.spec.now (sym (c.is_crowded.ensures h.length) ∙ c.if-is_crowded.false) (let e = c.epoch-before.ensures.value h.length in let t = c.if-before-ge-GREATEST_EPOCH.false in omega arith)
    (let l = replays_length c.ready.new.self h m in let big = c.is_full.ensures.full c.if-is_full.true in omega arith)))

pub next_with-next-requires-clause-bound : goal.next_with-next-requires-clause-bound
next_with-next-requires-clause-bound g c = let t = c.if-before-ge-GREATEST_EPOCH.false in omega arith

pub returns-clause-bounds : goal.returns-clause-bounds
returns-clause-bounds g c = let t = c.if-before-ge-GREATEST_EPOCH.false in record { epoch = (omega arith, omega arith); lce = c.lce-lce.ensures.bound; next = c.next_with-next.ensures.sound }

pub returns-clause-due : goal.returns-clause-due
returns-clause-due g c = record {
  loads = loads_granted c.args.self.now c.ready.new.self _ _ c.in_ok-ready.ensures.loads;
  ready = c.in_ok-ready.ensures.ready;
  is = let t = c.if-before-ge-GREATEST_EPOCH.false in ((omega arith, omega arith), c.requires);
  next = let e = sym (c.epoch-before.ensures.value 0) in
      ap (λ b. not b && ((epochs_of (register_of c.ready.new.self.contents 0) c.args.spec.now.log).epoch + 1 == c.epoch-before.result + 1)) (sym (c.is_crowded.ensures 0) ∙ c.if-is_crowded.false) ∙ eq-eqb _ _ (ap (λ n. n + 1) e);
  fits = c.is_full.ensures.fits c.if-is_full.false;
  answers = λ h m. let s = subst (λ r. (Ok (record { epoch = c.epoch-before.result + 1; lce = lce_of r c.args.spec.now.log; next = c.next_with-next.result }) ≡ activated r c.args.spec.now) × (after_activate r c.args.spec.now ≡ changed r (changes.Activate (c.epoch-before.result + 1) c.args.spec.now))) m.kept
      (made_activate c.ready.new.self.contents h.length (c.epoch-before.result + 1) c.args.spec.now c.next_with-next.result (sym (c.is_crowded.ensures h.length) ∙ c.if-is_crowded.false) (let e = c.epoch-before.ensures.value h.length in let t = c.if-before-ge-GREATEST_EPOCH.false in omega arith)
      (let l = replays_length c.ready.new.self h m in let fit = c.is_full.ensures.fits c.if-is_full.false in omega arith) (ap (λ n. n + 1) (c.epoch-before.ensures.value h.length)) (c.next_with-next.ensures.value h.length (c.epoch-before.result + 1))) in
      (ap (λ v. Ok (record { epoch = c.epoch-before.result + 1; lce = v; next = c.next_with-next.result })) (c.lce-lce.ensures.value h.length ∙ ap (λ r. lce_of r c.args.spec.now.log) m.kept) ∙ s.0, s.1);
}

pub returns-in_err-ready-clause-exact_calls : goal.returns-in_err-ready-clause-exact_calls
returns-in_err-ready-clause-exact_calls g c p is fine = writes_as _ [] p c.from_residual.result c.in_err-ready.field-0.0 _ (err_of c.from_residual.result c.in_err-ready.field-0.0 c.from_residual.ensures.1) (c.in_err-ready.ensures.exact_calls p is fine)

pub returns-then-is_crowded-clause-exact_calls : goal.returns-then-is_crowded-clause-exact_calls
returns-then-is_crowded-clause-exact_calls g c p is fine = writes_next _ p tt _ _ (c.in_ok-ready.ensures.exact_calls p is fine) (λ f. absurd (cc f))

pub returns-then-before-ge-GREATEST_EPOCH-clause-exact_calls : goal.returns-then-before-ge-GREATEST_EPOCH-clause-exact_calls
returns-then-before-ge-GREATEST_EPOCH-clause-exact_calls g c p is fine = writes_next _ p tt _ _ (c.in_ok-ready.ensures.exact_calls p is fine) (λ f. absurd (cc f))

pub returns-then-is_full-clause-exact_calls : goal.returns-then-is_full-clause-exact_calls
returns-then-is_full-clause-exact_calls g c p is fine = writes_next _ p tt _ _ (c.in_ok-ready.ensures.exact_calls p is fine) (λ f. absurd (cc f))

pub returns-clause-exact_calls : goal.returns-clause-exact_calls
returns-clause-exact_calls g c p is fine = writes_next _ p tt _ _ (c.in_ok-ready.ensures.exact_calls p is fine) (λ f. absurd (cc f))

pub returns-in_err-ready-clause-stays : goal.returns-in_err-ready-clause-stays
returns-in_err-ready-clause-stays g c l = absurd (let a = (c.in_err-ready.ensures.again l).0 in cc a)

pub returns-then-is_crowded-clause-stays : goal.returns-then-is_crowded-clause-stays
returns-then-is_crowded-clause-stays g c l = inr c.in_ok-ready.ensures.ready.loaded

pub returns-then-before-ge-GREATEST_EPOCH-clause-stays : goal.returns-then-before-ge-GREATEST_EPOCH-clause-stays
returns-then-before-ge-GREATEST_EPOCH-clause-stays g c l = inr c.in_ok-ready.ensures.ready.loaded

pub returns-then-is_full-clause-stays : goal.returns-then-is_full-clause-stays
returns-then-is_full-clause-stays g c l = inr c.in_ok-ready.ensures.ready.loaded

pub returns-clause-stays : goal.returns-clause-stays
returns-clause-stays g c l = inr c.in_ok-ready.ensures.ready.loaded
