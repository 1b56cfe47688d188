use Rattle.std.proofs.Common.{rules, ◌≡◌, refl, true}
use Rattle.ld_op.specs.Plain.{refilled_with}
use Rattle.ld_op.specs.Shown.{shown_log}
use Rattle.ld_op.specs.Cells.{placed_entries}
use Rattle.ld_op.proofs.Wholes.{whole_as, whole_refilled}
use Rattle.ld_op.proofs.log.LogState.refill.Goals as goal

pub invariant_of-self : goal.invariant_of-self
invariant_of-self c = record {
  empty = λ h. absurd cc;
  whole = whole_as (refilled_with (shown_log c.self.inside) (placed_entries c.args.at c.args.entries.now)) (shown_log (record { there = true; sealed = c.self.inside.sealed; trim = c.self.inside.trim; entries = c.refill.new.self; summaries = c.self.inside.summaries; lngs = c.self.inside.lngs; lost = c.self.inside.lost; lost_to = c.self.inside.lost_to; whole = c.self.inside.whole })) (c.self.inside.whole) (c.self.inside.whole) (let e : refilled_with (shown_log c.self.inside) (placed_entries c.args.at c.args.entries.now) ≡ shown_log (record { there = true; sealed = c.self.inside.sealed; trim = c.self.inside.trim; entries = c.refill.new.self; summaries = c.self.inside.summaries; lngs = c.self.inside.lngs; lost = c.self.inside.lost; lost_to = c.self.inside.lost_to; whole = c.self.inside.whole }) = search rules in e) (refl) (whole_refilled (shown_log c.self.inside) (placed_entries c.args.at c.args.entries.now) c.self.inside.whole c.self.invariant.whole);
}
