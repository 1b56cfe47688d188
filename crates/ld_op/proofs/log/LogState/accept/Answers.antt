use Rattle.std.proofs.Common.{rules, ◌≡◌, ◌∙◌, ap, sym, true, min}
use Rattle.ld_op.specs.Plain.{accepted}
use Rattle.ld_op.specs.Shown.{shown_log}
use Rattle.ld_op.proofs.Wholes.{whole_as, whole_accepted}
use Rattle.ld_op.proofs.log.LogState.accept.Goals as goal

pub invariant_of-self : goal.invariant_of-self
invariant_of-self c = record {
  empty = λ h. absurd cc;
  whole = whole_as (accepted (shown_log c.self.inside) c.args.lng c.args.entry) (shown_log (record { there = true; sealed = c.ballot-self-inside.result; trim = c.self.inside.trim; entries = c.accept.new.self; summaries = c.self.inside.summaries; lngs = c.raise.new.self; lost = c.self.inside.lost; lost_to = c.self.inside.lost_to; whole = c.earlier-self-inside.result })) (min c.self.inside.whole c.args.entry.number) (c.earlier-self-inside.result) (let e : accepted (shown_log c.self.inside) c.args.lng c.args.entry ≡ shown_log (record { there = true; sealed = c.ballot-self-inside.result; trim = c.self.inside.trim; entries = c.accept.new.self; summaries = c.self.inside.summaries; lngs = c.raise.new.self; lost = c.self.inside.lost; lost_to = c.self.inside.lost_to; whole = c.earlier-self-inside.result }) = search rules in e) (ap (min c.self.inside.whole) (sym c.number.ensures) ∙ sym c.earlier-self-inside.ensures) (whole_accepted (shown_log c.self.inside) c.args.lng c.args.entry c.self.inside.whole c.numbers_agree.ensures c.self.invariant.whole);
}
