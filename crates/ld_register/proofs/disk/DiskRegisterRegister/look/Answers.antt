use Rattle.std.proofs.Common.{◌≡◌, ◌≤◌, ◌∙◌, ap, sym, refl, subst, inr, IsSome, []}
use Rattle.ld_msg.specs.Register.{epochs_of, summary_shown}
use Rattle.ld_register.specs.Kept.{register_of}
use Rattle.ld_register.specs.Calls.{looked}
use Rattle.ld_register.specs.Held.{Foretells}
use Rattle.ld_register.proofs.Committing.{err_of}
use Rattle.ld_register.proofs.Meeting.{meets_unready, meets_answered, look_keeps, look_exact, leaves_looked, hold_on, ok_view}
use Rattle.ld_register.proofs.Writing.{writes_as, writes_next}
use Rattle.ld_register.proofs.disk.DiskRegisterRegister.look.Goals as goal

pub returns-in_err-ready-clause-meets : goal.returns-in_err-ready-clause-meets
returns-in_err-ready-clause-meets g c = meets_unready g.met.D.Disk.counts_now g.met.D.Disk.reads_an_image c.args.self.now c.ready.new.self c.in_err-ready.field-0.0 c.from_residual.result _ _ (err_of c.from_residual.result c.in_err-ready.field-0.0 c.from_residual.ensures.1) c.in_err-ready.ensures.loads c.in_err-ready.ensures.refused

pub returns-in_err-ready-clause-keeps : goal.returns-in_err-ready-clause-keeps
returns-in_err-ready-clause-keeps g c = look_keeps c.from_residual.result c.in_err-ready.field-0.0 _ (err_of c.from_residual.result c.in_err-ready.field-0.0 c.from_residual.ensures.1) (returns-in_err-ready-clause-meets g c).keeps

pub returns-in_err-ready-clause-exact : goal.returns-in_err-ready-clause-exact
returns-in_err-ready-clause-exact g c h t = look_exact c.from_residual.result (ok_view (looked h c.args.log c.args.e)) (Foretells c.ready.new.self h) ((returns-in_err-ready-clause-meets g c).exact h t)

pub returns-clause-meets : goal.returns-clause-meets
returns-clause-meets g c = meets_answered g.met.D.Disk.counts_now g.met.D.Disk.reads_an_image c.args.self.now c.ready.new.self _ _ _ _ c.in_ok-ready.ensures.loads c.in_ok-ready.ensures.ready (λ f. absurd (cc f)) (λ p f. absurd (cc f))
    (λ h m. (
      subst (λ r. ok_view (record { epoch = c.epoch.result; lce = c.lce.result; swaps = c.swaps.result; summary = c.summary.result; spec = c.spec.result }) ≡ ok_view (looked r c.args.log c.args.e)) m.kept
          (ap (λ v. ok_view (record { epoch = v; lce = c.lce.result; swaps = c.swaps.result; summary = c.summary.result; spec = c.spec.result })) (c.epoch.ensures.value h.length) ∙ (ap (λ v. ok_view (record { epoch = (epochs_of (register_of c.ready.new.self.contents h.length) c.args.log).epoch; lce = v; swaps = c.swaps.result; summary = c.summary.result; spec = c.spec.result })) (c.lce.ensures.value h.length)
          ∙ (ap (λ v. ok_view (record { epoch = (epochs_of (register_of c.ready.new.self.contents h.length) c.args.log).epoch; lce = (epochs_of (register_of c.ready.new.self.contents h.length) c.args.log).lce; swaps = v; summary = c.summary.result; spec = c.spec.result })) (c.swaps.ensures h.length)
          ∙ (ap (λ v. ok_view (record { epoch = (epochs_of (register_of c.ready.new.self.contents h.length) c.args.log).epoch; lce = (epochs_of (register_of c.ready.new.self.contents h.length) c.args.log).lce; swaps = (epochs_of (register_of c.ready.new.self.contents h.length) c.args.log).swaps; summary = v; spec = c.spec.result })) (c.summary.ensures.value h.length)
          ∙ ap (λ v. ok_view (record { epoch = (epochs_of (register_of c.ready.new.self.contents h.length) c.args.log).epoch; lce = (epochs_of (register_of c.ready.new.self.contents h.length) c.args.log).lce; swaps = (epochs_of (register_of c.ready.new.self.contents h.length) c.args.log).swaps; summary = summary_shown (register_of c.ready.new.self.contents h.length) c.args.log c.args.e; spec = v })) (c.spec.ensures.value h.length))))),
      refl,
    ))

pub returns-in_err-ready-clause-survives : goal.returns-in_err-ready-clause-survives
returns-in_err-ready-clause-survives g c cs t l = leaves_looked c.ready.new.self cs ((returns-in_err-ready-clause-meets g c).survives t cs l)

pub returns-clause-survives : goal.returns-clause-survives
returns-clause-survives g c cs t l = leaves_looked c.ready.new.self cs ((returns-clause-meets g c).survives t cs l)

pub returns-clause-keeps : goal.returns-clause-keeps
returns-clause-keeps g c = inr (record { held = λ h k. hold_on c.args.self.now c.ready.new.self h c.in_ok-ready.ensures.ready k; may = λ h m. (m.0, c.in_ok-ready.ensures.loads.moments.each m.0 (g.met.D.Disk.counts_now _ _ m.0 c.in_ok-ready.ensures.loads.moments.later m.1), m.2) })

pub returns-clause-exact : goal.returns-clause-exact
returns-clause-exact g c h t = look_exact (ok_view (record { epoch = c.epoch.result; lce = c.lce.result; swaps = c.swaps.result; summary = c.summary.result; spec = c.spec.result })) (ok_view (looked h c.args.log c.args.e)) (Foretells c.ready.new.self h) ((returns-clause-meets g c).exact h t)

pub returns-clause-view : goal.returns-clause-view
returns-clause-view g c = record { epoch = c.epoch.ensures.bound; lce = c.lce.ensures.bound; shown = let l = sym (c.lce.ensures.value 0) in subst (λ n. (IsSome c.summary.result → (1 ≤ c.args.e) × (c.args.e ≤ n)) × ((1 ≤ c.args.e) × (c.args.e ≤ n) → IsSome c.summary.result)) l (c.summary.ensures.shown 0); summary = c.summary.ensures.sound; spec = c.spec.ensures.sound }

pub returns-in_err-ready-clause-exact_calls : goal.returns-in_err-ready-clause-exact_calls
returns-in_err-ready-clause-exact_calls g c p is fine = writes_as _ [] p c.from_residual.result c.in_err-ready.field-0.0 _ (err_of c.from_residual.result c.in_err-ready.field-0.0 c.from_residual.ensures.1) (c.in_err-ready.ensures.exact_calls p is fine)

pub returns-clause-exact_calls : goal.returns-clause-exact_calls
returns-clause-exact_calls g c p is fine = writes_next _ p tt _ _ (c.in_ok-ready.ensures.exact_calls p is fine) (λ f. absurd (cc f))
