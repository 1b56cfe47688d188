use Rattle.std.proofs.Common.{◌≡◌, ◌<◌, ◌+◌, ◌-◌, ◌^◌, ◌∙◌, ap, sym, subst, arith, ℕ, Ok, [], inr}
use Rattle.std.proofs.lemmas.Bool.{eq-eqb}
use Rattle.ld_msg.specs.Register.{generation_of}
use Rattle.ld_register.specs.declared.fault.RegisterFault.TheVariants as faults
use Rattle.ld_register.specs.declared.change.Change.TheVariants as changes
use Rattle.ld_register.specs.Changes.{changed}
use Rattle.ld_register.specs.Calls.{drawn, after_draw}
use Rattle.ld_register.proofs.Committing.{err_of, on_err}
use Rattle.ld_register.proofs.Meeting.{meets_unready, meets_answered, meets_no_memory, replays_length, failure, loads_granted}
use Rattle.ld_register.proofs.Answering.{limit_draw, full_draw, made_draw}
use Rattle.ld_register.proofs.Writing.{writes_as, writes_next}
use Rattle.ld_register.proofs.disk.DiskRegister.check_draw.Goals as goal

below : (v : ℕ) → v < 2 ^ 32 → (v ≡ 4294967295 → ⊥) → v < 2 ^ 32 - 1
below v h n = omega arith

pub returns-in_err-ready-clause-refused : goal.returns-in_err-ready-clause-refused
returns-in_err-ready-clause-refused g c = on_err c.from_residual.result _ (meets_unready g.met.D.Disk.counts_now g.met.D.Disk.reads_an_image c.args.self.now c.ready.new.self c.in_err-ready.field-0.0 c.from_residual.result _ _ (err_of c.from_residual.result c.in_err-ready.field-0.0 c.from_residual.ensures.1) c.in_err-ready.ensures.loads c.in_err-ready.ensures.refused)

pub returns-then-before-clause-refused : goal.returns-then-before-clause-refused
returns-then-before-clause-refused g c = meets_answered g.met.D.Disk.counts_now g.met.D.Disk.reads_an_image c.args.self.now c.ready.new.self _ _ _ _ c.in_ok-ready.ensures.loads c.in_ok-ready.ensures.ready (λ f. absurd (cc f)) (λ p f. absurd (cc f))
    (λ h m. limit_draw h c.args.node (let e = c.generation-before.ensures h.length ∙ ap (λ r. generation_of r c.args.node) m.kept in let t = c.if-before.true in omega arith))

pub returns-then-is_full-clause-refused : goal.returns-then-is_full-clause-refused
returns-then-is_full-clause-refused g c = meets_answered g.met.D.Disk.counts_now g.met.D.Disk.reads_an_image c.args.self.now c.ready.new.self _ _ _ _ c.in_ok-ready.ensures.loads c.in_ok-ready.ensures.ready (λ f. absurd (cc f)) (λ p f. absurd (cc f))
    (λ h m. subst (λ r. (failure _ faults.Full ≡ drawn r c.args.node) × (after_draw r c.args.node ≡ r)) m.kept
    (full_draw c.ready.new.self.contents h.length c.args.node (subst (λ n. n < 2 ^ 32 - 1) (c.generation-before.ensures h.length) (below _ c.generation-before.type_inv c.if-before.false))
    (let l = replays_length c.ready.new.self h m in let big = c.is_full.ensures.full c.if-is_full.true in omega arith)))

pub returns-in_err-epochs-clause-refused : goal.returns-in_err-epochs-clause-refused
returns-in_err-epochs-clause-refused g c = on_err c.from_residual-in_err-epochs.result _ (meets_no_memory g.met.D.Disk.counts_now g.met.D.Disk.reads_an_image c.args.self.now c.ready.new.self _ c.from_residual-in_err-epochs.result _ _ (err_of c.from_residual-in_err-epochs.result faults.NoMemory c.from_residual-in_err-epochs.ensures.1) c.in_ok-ready.ensures.loads c.in_ok-ready.ensures.ready)

pub returns-clause-due : goal.returns-clause-due
returns-clause-due g c = record {
  loads = loads_granted c.args.self.now c.ready.new.self _ _ c.in_ok-ready.ensures.loads;
  ready = c.in_ok-ready.ensures.ready;
  is = let b = below _ c.generation-before.type_inv c.if-before.false in (c.number.ensures.bounds, omega arith);
  next = eq-eqb _ _ (ap (λ n. n + 1) (sym (c.generation-before.ensures 0)));
  fits = c.is_full.ensures.fits c.if-is_full.false;
  answers = λ h m. subst (λ r. (Ok (record { gen_ = c.generation-before.result + 1; epochs = c.in_ok-epochs.epochs }) ≡ drawn r c.args.node) × (after_draw r c.args.node ≡ changed r (changes.Draw c.args.node (c.generation-before.result + 1)))) m.kept
      (made_draw c.ready.new.self.contents h.length c.args.node (c.generation-before.result + 1) c.in_ok-epochs.epochs (subst (λ n. n < 2 ^ 32 - 1) (c.generation-before.ensures h.length) (below _ c.generation-before.type_inv c.if-before.false))
      (let l = replays_length c.ready.new.self h m in let fit = c.is_full.ensures.fits c.if-is_full.false in omega arith) (ap (λ n. n + 1) (c.generation-before.ensures h.length)) (c.in_ok-epochs.ensures.epochs h.length));
}

pub returns-in_err-ready-clause-exact_calls : goal.returns-in_err-ready-clause-exact_calls
returns-in_err-ready-clause-exact_calls g c p is fine = writes_as _ [] p c.from_residual.result c.in_err-ready.field-0.0 _ (err_of c.from_residual.result c.in_err-ready.field-0.0 c.from_residual.ensures.1) (c.in_err-ready.ensures.exact_calls p is fine)

pub returns-then-before-clause-exact_calls : goal.returns-then-before-clause-exact_calls
returns-then-before-clause-exact_calls g c p is fine = writes_next _ p tt _ _ (c.in_ok-ready.ensures.exact_calls p is fine) (λ f. absurd (cc f))

pub returns-then-is_full-clause-exact_calls : goal.returns-then-is_full-clause-exact_calls
returns-then-is_full-clause-exact_calls g c p is fine = writes_next _ p tt _ _ (c.in_ok-ready.ensures.exact_calls p is fine) (λ f. absurd (cc f))

pub returns-clause-exact_calls : goal.returns-clause-exact_calls
returns-clause-exact_calls g c p is fine = writes_next _ p tt _ _ (c.in_ok-ready.ensures.exact_calls p is fine) (λ f. absurd (cc f))

pub returns-in_err-epochs-clause-exact_calls : goal.returns-in_err-epochs-clause-exact_calls
returns-in_err-epochs-clause-exact_calls g c p is fine = writes_next _ p tt _ _ (c.in_ok-ready.ensures.exact_calls p is fine) (λ f. let e = sym (err_of c.from_residual-in_err-epochs.result faults.NoMemory c.from_residual-in_err-epochs.ensures.1) ∙ f in absurd (cc e))

pub returns-in_err-ready-clause-stays : goal.returns-in_err-ready-clause-stays
returns-in_err-ready-clause-stays g c l = absurd (let a = (c.in_err-ready.ensures.again l).0 in cc a)

pub returns-then-before-clause-stays : goal.returns-then-before-clause-stays
returns-then-before-clause-stays g c l = inr c.in_ok-ready.ensures.ready.loaded

pub returns-then-is_full-clause-stays : goal.returns-then-is_full-clause-stays
returns-then-is_full-clause-stays g c l = inr c.in_ok-ready.ensures.ready.loaded

pub returns-in_err-epochs-clause-stays : goal.returns-in_err-epochs-clause-stays
returns-in_err-epochs-clause-stays g c l = inr c.in_ok-ready.ensures.ready.loaded

pub returns-clause-stays : goal.returns-clause-stays
returns-clause-stays g c l = inr c.in_ok-ready.ensures.ready.loaded
