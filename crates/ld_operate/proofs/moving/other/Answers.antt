use Rattle.std.proofs.Common.{◌∙◌, Some, sym, ap, inr}
use Rattle.ld_operate.proofs.SameSpec.{same_spec, another}
use Rattle.ld_operate.proofs.moving.other.Goals as goal

pub returns-in-Some : goal.returns-in-Some
returns-in-Some c = inr (c.in-Some.is ∙ ap Some (same_spec c.in-Some.from c.args.wanted.now (sym c.eq.ensures ∙ c.if-eq.true)))

pub returns-in_default : goal.returns-in_default
returns-in_default c = another c.args.fixed c.in-Some.from c.args.wanted.now c.in-Some.is (sym c.eq.ensures ∙ c.if-eq.false)
