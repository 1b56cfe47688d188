use Rattle.std.proofs.Common.{rules, ◌≡◌, ◌∙◌, ap, sym, true, min}
use Rattle.ld_lsn.specs.Number.{numbered}
use Rattle.ld_op.specs.Plain.{cleaned}
use Rattle.ld_op.specs.Shown.{shown_log}
use Rattle.ld_op.proofs.Wholes.{whole_as, whole_cleaned}
use Rattle.ld_op.proofs.log.LogState.close.Goals as goal

pub invariant_of-self : goal.invariant_of-self
invariant_of-self c = record {
  empty = λ h. absurd cc;
  whole = whole_as (cleaned (shown_log c.self.inside) c.args.epoch c.args.summary) (shown_log (record { there = true; sealed = c.self.inside.sealed; trim = c.later-self-inside.result; entries = c.close.new.self; summaries = c.put.new.self; lngs = c.forget.new.self; lost = c.self.inside.lost; lost_to = c.self.inside.lost_to; whole = c.earlier-self-inside.result })) (min c.self.inside.whole (numbered c.args.epoch 0)) (c.earlier-self-inside.result) (let e : cleaned (shown_log c.self.inside) c.args.epoch c.args.summary ≡ shown_log (record { there = true; sealed = c.self.inside.sealed; trim = c.later-self-inside.result; entries = c.close.new.self; summaries = c.put.new.self; lngs = c.forget.new.self; lost = c.self.inside.lost; lost_to = c.self.inside.lost_to; whole = c.earlier-self-inside.result }) = search rules in e) (ap (min c.self.inside.whole) (sym c.new.ensures) ∙ sym c.earlier-self-inside.ensures) (whole_cleaned (shown_log c.self.inside) c.args.epoch c.args.summary c.self.inside.whole c.numbers_agree.ensures c.self.invariant.whole);
}
