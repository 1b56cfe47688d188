use Rattle.std.proofs.Common.{◌≡◌, ◌∙◌, ap, sym, inl, arith, Some, None, option_map, rules}
use Rattle.ld_table.specs.Table.{find}
use Rattle.ld_table.proofs.Laws.{find-map_values}
use Rattle.ld_register.specs.Kept.{shown_log}
use Rattle.ld_register.proofs.Logs.{not_shown, is_shown}
use Rattle.ld_register.proofs.log.LogState.spec.Goals as goal

pub returns-then-shown-eq0-clause-value : goal.returns-then-shown-eq0-clause-value
returns-then-shown-eq0-clause-value c = not_shown c.shown-shown.result c.args.self.now.epoch c.args.self.now.swapped (inl c.if-shown-eq0.true) ∙ ap (λ e. find e (shown_log c.args.self.now).swapped) c.shown-shown.ensures.value

some : (c : goal.After-result-1) → Some c.in-Some.fixed.now.swapped ≡ find c.shown-shown.result c.args.self.now.swapped
unfolding find
some c = let f : find c.shown-shown.result c.self.inside.fixed.entries ≡ Some c.in-Some.fixed.now = search rules in
    sym (sym (ap (λ v. find c.shown-shown.result v.swapped) c.self.view_is) ∙ (find-map_values (λ x. x.swapped) c.shown-shown.result c.self.inside.fixed.entries ∙ ap (option_map (λ x. x.swapped)) f))

none : (c : goal.In-None) → None ≡ find c.shown-shown.result c.args.self.now.swapped
unfolding find
none c = let f : find c.shown-shown.result c.self.inside.fixed.entries ≡ None = search rules in
    sym (sym (ap (λ v. find c.shown-shown.result v.swapped) c.self.view_is) ∙ (find-map_values (λ x. x.swapped) c.shown-shown.result c.self.inside.fixed.entries ∙ ap (option_map (λ x. x.swapped)) f))

pub returns-in-Some-clause-value : goal.returns-in-Some-clause-value
returns-in-Some-clause-value c = some c ∙ (is_shown c.shown-shown.result c.args.self.now.epoch c.args.self.now.swapped (let h = c.if-shown-eq0.false in omega arith) c.shown-shown.ensures.bound ∙ ap (λ e. find e (shown_log c.args.self.now).swapped) c.shown-shown.ensures.value)

pub returns-in-Some-clause-sound : goal.returns-in-Some-clause-sound
returns-in-Some-clause-sound c l h = h.specs c.shown-shown.result c.in-Some.fixed.now.swapped (sym (some c))

pub returns-in-None-clause-value : goal.returns-in-None-clause-value
returns-in-None-clause-value c = none c ∙ (is_shown c.shown-shown.result c.args.self.now.epoch c.args.self.now.swapped (let h = c.if-shown-eq0.false in omega arith) c.shown-shown.ensures.bound ∙ ap (λ e. find e (shown_log c.args.self.now).swapped) c.shown-shown.ensures.value)
