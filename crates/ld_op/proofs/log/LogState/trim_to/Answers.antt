use Rattle.std.proofs.Common.{rules, ◌≡◌, refl, true}
use Rattle.ld_op.specs.Plain.{trimmed_to}
use Rattle.ld_op.specs.Shown.{shown_log}
use Rattle.ld_op.proofs.Wholes.{whole_as, whole_trimmed}
use Rattle.ld_op.proofs.log.LogState.trim_to.Goals as goal

pub invariant_of-self : goal.invariant_of-self
invariant_of-self c = record {
  empty = λ h. absurd cc;
  whole = whole_as (trimmed_to (shown_log c.self.inside) c.args.trim) (shown_log (record { there = true; sealed = c.self.inside.sealed; trim = c.later-self-inside.result; entries = c.trim.new.self; summaries = c.self.inside.summaries; lngs = c.self.inside.lngs; lost = c.self.inside.lost; lost_to = c.self.inside.lost_to; whole = c.self.inside.whole })) (c.self.inside.whole) (c.self.inside.whole) (let e : trimmed_to (shown_log c.self.inside) c.args.trim ≡ shown_log (record { there = true; sealed = c.self.inside.sealed; trim = c.later-self-inside.result; entries = c.trim.new.self; summaries = c.self.inside.summaries; lngs = c.self.inside.lngs; lost = c.self.inside.lost; lost_to = c.self.inside.lost_to; whole = c.self.inside.whole }) = search rules in e) (refl) (whole_trimmed (shown_log c.self.inside) c.args.trim c.self.inside.whole c.self.invariant.whole);
}
