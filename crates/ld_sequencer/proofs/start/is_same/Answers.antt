use Rattle.std.proofs.Common.{◌≡◌, ◌&&◌, ◌==◌, true, sym, subst, ◌∙◌}
use Rattle.std.specs.Option.{option_eq}
use Rattle.ld_register.specs.declared.register.Grant.{Grant}
use Rattle.ld_sequencer.proofs.Comparing.{grants_are, grant_itself, is_same_spec, specs_are, spec_itself}
use Rattle.ld_sequencer.proofs.start.is_same.Goals as goal

pub returns-clause-yes : goal.returns-clause-yes
returns-clause-yes c = λ h. grants_are is_same_spec specs_are spec_itself c.args.grant c.args.expected (sym c.eq.ensures ∙ h)

pub returns-clause-no : goal.returns-clause-no
returns-clause-no c = λ h. c.eq.ensures ∙ subst (λ (e : Grant). ((c.args.grant.epoch == e.epoch) && ((c.args.grant.lce == e.lce) && option_eq is_same_spec c.args.grant.next e.next)) ≡ true) h (grant_itself is_same_spec specs_are spec_itself c.args.grant)
