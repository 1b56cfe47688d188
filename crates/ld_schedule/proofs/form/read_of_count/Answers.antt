use Rattle.std.proofs.Common.{ap}
use Rattle.ld_schedule.specs.declared.form.Form.TheVariants as forms
use Rattle.ld_schedule.proofs.Forms.{text_form, fault_form, form_deliver, form_lose, form_flow, form_set, form_regfail}
use Rattle.ld_schedule.proofs.form.read_of_count.Goals as goal

pub returns-in-Ok : goal.returns-in-Ok
returns-in-Ok c = text_form form_deliver (forms.Count c.args.form) (ap (λ f. forms.Count f) c.in-Deliver.is) c.args.line.now _ c.in-Ok.ensures

pub returns-in-Err : goal.returns-in-Err
returns-in-Err c = fault_form form_deliver (forms.Count c.args.form) (ap (λ f. forms.Count f) c.in-Deliver.is) c.args.line.now c.in-Err.fault c.in-Err.ensures

pub returns-in-Ok-behind : goal.returns-in-Ok-behind
returns-in-Ok-behind c = text_form form_lose (forms.Count c.args.form) (ap (λ f. forms.Count f) c.in-Lose.is) c.args.line.now _ c.in-Ok-behind.ensures

pub returns-in-Err-behind : goal.returns-in-Err-behind
returns-in-Err-behind c = fault_form form_lose (forms.Count c.args.form) (ap (λ f. forms.Count f) c.in-Lose.is) c.args.line.now c.in-Err-behind.fault c.in-Err-behind.ensures

pub returns-in-Ok-behind-2 : goal.returns-in-Ok-behind-2
returns-in-Ok-behind-2 c = text_form form_flow (forms.Count c.args.form) (ap (λ f. forms.Count f) c.in-Flow.is) c.args.line.now _ c.in-Ok-behind-2.ensures

pub returns-in-Err-behind-2 : goal.returns-in-Err-behind-2
returns-in-Err-behind-2 c = fault_form form_flow (forms.Count c.args.form) (ap (λ f. forms.Count f) c.in-Flow.is) c.args.line.now c.in-Err-behind-2.fault c.in-Err-behind-2.ensures

pub returns-in-Ok-behind-3 : goal.returns-in-Ok-behind-3
returns-in-Ok-behind-3 c = text_form form_set (forms.Count c.args.form) (ap (λ f. forms.Count f) c.in-Set.is) c.args.line.now _ c.in-Ok-behind-3.ensures

pub returns-in-Err-behind-3 : goal.returns-in-Err-behind-3
returns-in-Err-behind-3 c = fault_form form_set (forms.Count c.args.form) (ap (λ f. forms.Count f) c.in-Set.is) c.args.line.now c.in-Err-behind-3.fault c.in-Err-behind-3.ensures

pub returns-in-Ok-behind-4 : goal.returns-in-Ok-behind-4
returns-in-Ok-behind-4 c = text_form form_regfail (forms.Count c.args.form) (ap (λ f. forms.Count f) c.in-RegFail.is) c.args.line.now _ c.in-Ok-behind-4.ensures

pub returns-in-Err-behind-4 : goal.returns-in-Err-behind-4
returns-in-Err-behind-4 c = fault_form form_regfail (forms.Count c.args.form) (ap (λ f. forms.Count f) c.in-RegFail.is) c.args.line.now c.in-Err-behind-4.fault c.in-Err-behind-4.ensures
