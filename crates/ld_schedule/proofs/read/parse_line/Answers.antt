use Rattle.std.proofs.Common.{◌+◌, sym, subst, take}
use Rattle.std.proofs.lemmas.List.{take_more, take_all}
use Rattle.ld_schedule.specs.declared.form.Form.TheVariants as forms
use Rattle.ld_schedule.specs.declared.form.NodeForm.TheVariants as node_forms
use Rattle.ld_schedule.specs.Reading.{furthest}
use Rattle.ld_schedule.proofs.Search.{Searched, searched_none, searched_more, searched_all, all_forms}
use Rattle.ld_schedule.proofs.read.parse_line.Goals as goal

pub loop-form-init : goal.loop-form-init
loop-form-init c = searched_none c.args.line.now

pub loop-form-preserved : goal.loop-form-preserved
loop-form-preserved c =
    let line = c.args.line.now in
    let i = c.loop-form.form-index in
    let more = searched_more (take i all_forms) line c.loop-form.furthest c.in-Err.fault _ c.loop-form.invariant c.in-Err.ensures in
    subst (Searched (take (i + 1) all_forms) line) (sym c.furthest-furthest.ensures)
    (subst (λ xs. Searched xs line (furthest c.loop-form.furthest c.in-Err.fault)) (sym (take_more all_forms i (forms.Node node_forms.Format) c.loop-form-test.true)) more)

pub returns : goal.returns
returns c =
    let all = take_all c.loop-form.form-index all_forms c.loop-form-test.false in
    searched_all c.args.line.now c.loop-form.furthest (subst (λ xs. Searched xs c.args.line.now c.loop-form.furthest) all c.loop-form.invariant)
