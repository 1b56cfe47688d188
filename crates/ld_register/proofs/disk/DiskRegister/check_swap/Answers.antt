use Rattle.std.proofs.Common.{◌≡◌, ◌<◌, ◌-◌, ◌^◌, ◌∙◌, ap, sym, subst, arith, ℕ, Ok}
use Rattle.ld_msg.specs.Register.{epochs_of, swappable}
use Rattle.ld_register.specs.declared.fault.RegisterFault.TheVariants as faults
use Rattle.ld_register.specs.declared.change.Change.TheVariants as changes
use Rattle.ld_register.specs.Changes.{changed}
use Rattle.ld_register.specs.Kept.{register_of}
use Rattle.ld_register.specs.Calls.{swapped, after_swap}
use Rattle.ld_register.proofs.Committing.{err_of, on_err}
use Rattle.ld_register.proofs.Meeting.{meets_unready, meets_answered, replays_length, failure, loads_granted, hold_on}
use Rattle.ld_register.proofs.Answering.{idle_swap, limit_swap, full_swap, made_swap, next_swap}
use Rattle.ld_register.proofs.disk.DiskRegister.check_swap.Goals as goal

below : (v : ℕ) → v < 2 ^ 32 → (v ≡ 4294967295 → ⊥) → v < 2 ^ 32 - 1
below v h n = omega arith

pub returns-in_err-ready-clause-refused : goal.returns-in_err-ready-clause-refused
returns-in_err-ready-clause-refused g c = on_err c.from_residual.result _ (meets_unready g.met.D.Disk.counts_now g.met.D.Disk.reads_an_image c.args.self.now c.ready.new.self c.in_err-ready.field-0.0 c.from_residual.result _ _ (err_of c.from_residual.result c.in_err-ready.field-0.0 c.from_residual.ensures.1) c.in_err-ready.ensures.loads c.in_err-ready.ensures.refused)

pub returns-then-count-eq0-clause-none : goal.returns-then-count-eq0-clause-none
returns-then-count-eq0-clause-none g c zero = meets_answered g.met.D.Disk.counts_now g.met.D.Disk.reads_an_image c.args.self.now c.ready.new.self _ _ _ _ c.in_ok-ready.ensures.loads c.in_ok-ready.ensures.ready (λ f. absurd (cc f)) (λ p f. absurd (cc f))
    (λ h m. idle_swap h c.args.log c.args.upto c.args.member c.args.spare (sym (ap (λ r. swappable r c.args.log c.args.upto c.args.member c.args.spare) m.kept) ∙ (sym (c.swappable-count.ensures h.length) ∙ c.if-count-eq0.true)))

pub returns-then-count-eq0-clause-nowhere : goal.returns-then-count-eq0-clause-nowhere
returns-then-count-eq0-clause-nowhere g c zero h k = let m = (hold_on c.args.self.now c.ready.new.self h c.in_ok-ready.ensures.ready k).loaded c.in_ok-ready.ensures.ready.loaded in
    sym (ap (λ r. swappable r c.args.log c.args.upto c.args.member c.args.spare) m.kept) ∙ (sym (c.swappable-count.ensures h.length) ∙ c.if-count-eq0.true)

pub returns-then-swaps-clause-refused : goal.returns-then-swaps-clause-refused
returns-then-swaps-clause-refused g c = meets_answered g.met.D.Disk.counts_now g.met.D.Disk.reads_an_image c.args.self.now c.ready.new.self _ _ _ _ c.in_ok-ready.ensures.loads c.in_ok-ready.ensures.ready (λ f. absurd (cc f)) (λ p f. absurd (cc f))
    (λ h m. limit_swap h c.args.log c.args.upto c.args.member c.args.spare (λ z. c.if-count-eq0.false (c.swappable-count.ensures h.length ∙ (ap (λ r. swappable r c.args.log c.args.upto c.args.member c.args.spare) m.kept ∙ z)))
    (let e = c.swaps.ensures h.length ∙ ap (λ r. (epochs_of r c.args.log).swaps) m.kept in let t = c.if-swaps.true in omega arith))

pub returns-then-is_full-clause-refused : goal.returns-then-is_full-clause-refused
returns-then-is_full-clause-refused g c = meets_answered g.met.D.Disk.counts_now g.met.D.Disk.reads_an_image c.args.self.now c.ready.new.self _ _ _ _ c.in_ok-ready.ensures.loads c.in_ok-ready.ensures.ready (λ f. absurd (cc f)) (λ p f. absurd (cc f))
    (λ h m. subst (λ r. (failure _ faults.Full ≡ swapped r c.args.log c.args.upto c.args.member c.args.spare) × (after_swap r c.args.log c.args.upto c.args.member c.args.spare ≡ r)) m.kept
    (full_swap c.ready.new.self.contents h.length c.args.log c.args.upto c.args.member c.args.spare (λ z. c.if-count-eq0.false (c.swappable-count.ensures h.length ∙ z)) (subst (λ n. n < 2 ^ 32 - 1) (c.swaps.ensures h.length) (below _ c.swaps.type_inv c.if-swaps.false))
    (let l = replays_length c.ready.new.self h m in let big = c.is_full.ensures.full c.if-is_full.true in omega arith)))

pub returns-clause-due : goal.returns-clause-due
returns-clause-due g c some = record {
  loads = loads_granted c.args.self.now c.ready.new.self _ _ c.in_ok-ready.ensures.loads;
  ready = c.in_ok-ready.ensures.ready;
  is = (c.number.ensures.bounds, c.ranges.upto.fits, c.number-2.ensures.bounds, c.number-3.ensures.bounds);
  next = next_swap (register_of c.ready.new.self.contents 0) c.args.log c.args.upto c.args.member c.args.spare (λ z. c.if-count-eq0.false (c.swappable-count.ensures 0 ∙ z)) (subst (λ n. n < 2 ^ 32 - 1) (c.swaps.ensures 0) (below _ c.swaps.type_inv c.if-swaps.false));
  fits = c.is_full.ensures.fits c.if-is_full.false;
  answers = λ h m. subst (λ r. (Ok c.swappable-count.result ≡ swapped r c.args.log c.args.upto c.args.member c.args.spare) × (after_swap r c.args.log c.args.upto c.args.member c.args.spare ≡ changed r (changes.Swap c.args.log c.args.upto c.args.member c.args.spare))) m.kept
      (made_swap c.ready.new.self.contents h.length c.args.log c.args.upto c.args.member c.args.spare c.swappable-count.result (λ z. c.if-count-eq0.false (c.swappable-count.ensures h.length ∙ z)) (subst (λ n. n < 2 ^ 32 - 1) (c.swaps.ensures h.length) (below _ c.swaps.type_inv c.if-swaps.false))
      (let l = replays_length c.ready.new.self h m in let fit = c.is_full.ensures.fits c.if-is_full.false in omega arith) (c.swappable-count.ensures h.length));
}
