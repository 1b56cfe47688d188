use Rattle.std.proofs.Common.{◌≡◌, inl, inr, ⊎_elim, true, false, refl, sym, ap, ◌∙◌}
use Rattle.std.proofs.lemmas.Result.{err_from_is_err_and}
use Rattle.ld_op.specs.declared.op.Op.TheVariants as ops
use Rattle.ld_store.specs.Open.{layout_of, slots_of}
use Rattle.ld_node.proofs.Keeping.{format_kept, format_refused}
use Rattle.ld_node.proofs.format.format_store.Goals as goal

pub returns-clause-exact : goal.returns-clause-exact
returns-clause-exact g c disk holds told =
    let store = c.args.store.now in
    let kept = c.in_ok-format.ensures in
    inr (format_kept (layout_of store) (slots_of store) disk c.args.drawn _ _ (ap (λ e. ops.Format c.args.drawn.gen_ e) c.in_ok-epochs.ensures)
    (λ past. ⊎_elim (λ e. cc e) (λ e. cc e) (kept.too_long c.requires.works past)) (kept.exact disk told (inl refl)))

pub returns-in_err-format-clause-exact : goal.returns-in_err-format-clause-exact
returns-in_err-format-clause-exact g c disk holds told =
    let store = c.args.store.now in
    let kept = c.in_err-format.ensures in
    let p = err_from_is_err_and c.from_residual-in_err-format.result c.from_residual-in_err-format.ensures.1 in
    rw (p.1, p.2) (format_refused (layout_of store) (slots_of store) disk c.args.drawn _ _ (ap (λ e. ops.Format c.args.drawn.gen_ e) c.in_ok-epochs.ensures) c.in_err-format.field-0.0
    (λ e. (kept.full e).1 holds) (λ past. kept.too_long c.requires.works past) (λ e. kept.exact disk told (inr e)) (⊎_elim (λ e. inl e) (λ same. inr (same.0 ∙ told)) kept.keeps)
    (λ e. let no : true ≡ false = sym (kept.needs_load.0 e) ∙ c.requires.works in cc no) (λ place e. kept.damaged place e))
