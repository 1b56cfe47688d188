use Rattle.std.proofs.Common.{ap}
use Rattle.ld_schedule.specs.declared.form.Form.TheVariants as forms
use Rattle.ld_schedule.proofs.Forms.{text_form, fault_form, form_format, form_tick, form_down, form_up, form_wipe, form_fail, form_tear, form_replace}
use Rattle.ld_schedule.proofs.form.read_of_node.Goals as goal

pub returns-in-Ok : goal.returns-in-Ok
returns-in-Ok c = text_form form_format (forms.Node c.args.form) (ap (λ f. forms.Node f) c.in-Format.is) c.args.line.now _ c.in-Ok.ensures

pub returns-in-Err : goal.returns-in-Err
returns-in-Err c = fault_form form_format (forms.Node c.args.form) (ap (λ f. forms.Node f) c.in-Format.is) c.args.line.now c.in-Err.fault c.in-Err.ensures

pub returns-in-Ok-behind : goal.returns-in-Ok-behind
returns-in-Ok-behind c = text_form form_tick (forms.Node c.args.form) (ap (λ f. forms.Node f) c.in-Tick.is) c.args.line.now _ c.in-Ok-behind.ensures

pub returns-in-Err-behind : goal.returns-in-Err-behind
returns-in-Err-behind c = fault_form form_tick (forms.Node c.args.form) (ap (λ f. forms.Node f) c.in-Tick.is) c.args.line.now c.in-Err-behind.fault c.in-Err-behind.ensures

pub returns-in-Ok-behind-2 : goal.returns-in-Ok-behind-2
returns-in-Ok-behind-2 c = text_form form_down (forms.Node c.args.form) (ap (λ f. forms.Node f) c.in-Down.is) c.args.line.now _ c.in-Ok-behind-2.ensures

pub returns-in-Err-behind-2 : goal.returns-in-Err-behind-2
returns-in-Err-behind-2 c = fault_form form_down (forms.Node c.args.form) (ap (λ f. forms.Node f) c.in-Down.is) c.args.line.now c.in-Err-behind-2.fault c.in-Err-behind-2.ensures

pub returns-in-Ok-behind-3 : goal.returns-in-Ok-behind-3
returns-in-Ok-behind-3 c = text_form form_up (forms.Node c.args.form) (ap (λ f. forms.Node f) c.in-Up.is) c.args.line.now _ c.in-Ok-behind-3.ensures

pub returns-in-Err-behind-3 : goal.returns-in-Err-behind-3
returns-in-Err-behind-3 c = fault_form form_up (forms.Node c.args.form) (ap (λ f. forms.Node f) c.in-Up.is) c.args.line.now c.in-Err-behind-3.fault c.in-Err-behind-3.ensures

pub returns-in-Ok-behind-4 : goal.returns-in-Ok-behind-4
returns-in-Ok-behind-4 c = text_form form_wipe (forms.Node c.args.form) (ap (λ f. forms.Node f) c.in-Wipe.is) c.args.line.now _ c.in-Ok-behind-4.ensures

pub returns-in-Err-behind-4 : goal.returns-in-Err-behind-4
returns-in-Err-behind-4 c = fault_form form_wipe (forms.Node c.args.form) (ap (λ f. forms.Node f) c.in-Wipe.is) c.args.line.now c.in-Err-behind-4.fault c.in-Err-behind-4.ensures

pub returns-in-Ok-behind-5 : goal.returns-in-Ok-behind-5
returns-in-Ok-behind-5 c = text_form form_fail (forms.Node c.args.form) (ap (λ f. forms.Node f) c.in-Fail.is) c.args.line.now _ c.in-Ok-behind-5.ensures

pub returns-in-Err-behind-5 : goal.returns-in-Err-behind-5
returns-in-Err-behind-5 c = fault_form form_fail (forms.Node c.args.form) (ap (λ f. forms.Node f) c.in-Fail.is) c.args.line.now c.in-Err-behind-5.fault c.in-Err-behind-5.ensures

pub returns-in-Ok-behind-6 : goal.returns-in-Ok-behind-6
returns-in-Ok-behind-6 c = text_form form_tear (forms.Node c.args.form) (ap (λ f. forms.Node f) c.in-Tear.is) c.args.line.now _ c.in-Ok-behind-6.ensures

pub returns-in-Err-behind-6 : goal.returns-in-Err-behind-6
returns-in-Err-behind-6 c = fault_form form_tear (forms.Node c.args.form) (ap (λ f. forms.Node f) c.in-Tear.is) c.args.line.now c.in-Err-behind-6.fault c.in-Err-behind-6.ensures

pub returns-in-Ok-behind-7 : goal.returns-in-Ok-behind-7
returns-in-Ok-behind-7 c = text_form form_replace (forms.Node c.args.form) (ap (λ f. forms.Node f) c.in-Replace.is) c.args.line.now _ c.in-Ok-behind-7.ensures

pub returns-in-Err-behind-7 : goal.returns-in-Err-behind-7
returns-in-Err-behind-7 c = fault_form form_replace (forms.Node c.args.form) (ap (λ f. forms.Node f) c.in-Replace.is) c.args.line.now c.in-Err-behind-7.fault c.in-Err-behind-7.ensures
