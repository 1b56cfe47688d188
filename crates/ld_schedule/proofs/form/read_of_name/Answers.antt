use Rattle.std.proofs.Common.{ap}
use Rattle.ld_schedule.specs.declared.form.Form.TheVariants as forms
use Rattle.ld_schedule.proofs.Forms.{text_form, fault_form, form_activate, form_append, form_trim, form_retry, form_drop, form_open, form_poll, form_batch, form_openone, form_openmsgs}
use Rattle.ld_schedule.proofs.form.read_of_name.Goals as goal

pub returns-in-Ok : goal.returns-in-Ok
returns-in-Ok c = text_form form_activate (forms.Name c.args.form) (ap (λ f. forms.Name f) c.in-Activate.is) c.args.line.now _ c.in-Ok.ensures

pub returns-in-Err : goal.returns-in-Err
returns-in-Err c = fault_form form_activate (forms.Name c.args.form) (ap (λ f. forms.Name f) c.in-Activate.is) c.args.line.now c.in-Err.fault c.in-Err.ensures

pub returns-in-Ok-behind : goal.returns-in-Ok-behind
returns-in-Ok-behind c = text_form form_append (forms.Name c.args.form) (ap (λ f. forms.Name f) c.in-Append.is) c.args.line.now _ c.in-Ok-behind.ensures

pub returns-in-Err-behind : goal.returns-in-Err-behind
returns-in-Err-behind c = fault_form form_append (forms.Name c.args.form) (ap (λ f. forms.Name f) c.in-Append.is) c.args.line.now c.in-Err-behind.fault c.in-Err-behind.ensures

pub returns-in-Ok-behind-2 : goal.returns-in-Ok-behind-2
returns-in-Ok-behind-2 c = text_form form_trim (forms.Name c.args.form) (ap (λ f. forms.Name f) c.in-Trim.is) c.args.line.now _ c.in-Ok-behind-2.ensures

pub returns-in-Err-behind-2 : goal.returns-in-Err-behind-2
returns-in-Err-behind-2 c = fault_form form_trim (forms.Name c.args.form) (ap (λ f. forms.Name f) c.in-Trim.is) c.args.line.now c.in-Err-behind-2.fault c.in-Err-behind-2.ensures

pub returns-in-Ok-behind-3 : goal.returns-in-Ok-behind-3
returns-in-Ok-behind-3 c = text_form form_retry (forms.Name c.args.form) (ap (λ f. forms.Name f) c.in-Retry.is) c.args.line.now _ c.in-Ok-behind-3.ensures

pub returns-in-Err-behind-3 : goal.returns-in-Err-behind-3
returns-in-Err-behind-3 c = fault_form form_retry (forms.Name c.args.form) (ap (λ f. forms.Name f) c.in-Retry.is) c.args.line.now c.in-Err-behind-3.fault c.in-Err-behind-3.ensures

pub returns-in-Ok-behind-4 : goal.returns-in-Ok-behind-4
returns-in-Ok-behind-4 c = text_form form_drop (forms.Name c.args.form) (ap (λ f. forms.Name f) c.in-Drop.is) c.args.line.now _ c.in-Ok-behind-4.ensures

pub returns-in-Err-behind-4 : goal.returns-in-Err-behind-4
returns-in-Err-behind-4 c = fault_form form_drop (forms.Name c.args.form) (ap (λ f. forms.Name f) c.in-Drop.is) c.args.line.now c.in-Err-behind-4.fault c.in-Err-behind-4.ensures

pub returns-in-Ok-behind-5 : goal.returns-in-Ok-behind-5
returns-in-Ok-behind-5 c = text_form form_open (forms.Name c.args.form) (ap (λ f. forms.Name f) c.in-Open.is) c.args.line.now _ c.in-Ok-behind-5.ensures

pub returns-in-Err-behind-5 : goal.returns-in-Err-behind-5
returns-in-Err-behind-5 c = fault_form form_open (forms.Name c.args.form) (ap (λ f. forms.Name f) c.in-Open.is) c.args.line.now c.in-Err-behind-5.fault c.in-Err-behind-5.ensures

pub returns-in-Ok-behind-6 : goal.returns-in-Ok-behind-6
returns-in-Ok-behind-6 c = text_form form_poll (forms.Name c.args.form) (ap (λ f. forms.Name f) c.in-Poll.is) c.args.line.now _ c.in-Ok-behind-6.ensures

pub returns-in-Err-behind-6 : goal.returns-in-Err-behind-6
returns-in-Err-behind-6 c = fault_form form_poll (forms.Name c.args.form) (ap (λ f. forms.Name f) c.in-Poll.is) c.args.line.now c.in-Err-behind-6.fault c.in-Err-behind-6.ensures

pub returns-in-Ok-behind-7 : goal.returns-in-Ok-behind-7
returns-in-Ok-behind-7 c = text_form form_batch (forms.Name c.args.form) (ap (λ f. forms.Name f) c.in-Batch.is) c.args.line.now _ c.in-Ok-behind-7.ensures

pub returns-in-Err-behind-7 : goal.returns-in-Err-behind-7
returns-in-Err-behind-7 c = fault_form form_batch (forms.Name c.args.form) (ap (λ f. forms.Name f) c.in-Batch.is) c.args.line.now c.in-Err-behind-7.fault c.in-Err-behind-7.ensures

pub returns-in-Ok-behind-8 : goal.returns-in-Ok-behind-8
returns-in-Ok-behind-8 c = text_form form_openone (forms.Name c.args.form) (ap (λ f. forms.Name f) c.in-OpenOne.is) c.args.line.now _ c.in-Ok-behind-8.ensures

pub returns-in-Err-behind-8 : goal.returns-in-Err-behind-8
returns-in-Err-behind-8 c = fault_form form_openone (forms.Name c.args.form) (ap (λ f. forms.Name f) c.in-OpenOne.is) c.args.line.now c.in-Err-behind-8.fault c.in-Err-behind-8.ensures

pub returns-in-Ok-behind-9 : goal.returns-in-Ok-behind-9
returns-in-Ok-behind-9 c = text_form form_openmsgs (forms.Name c.args.form) (ap (λ f. forms.Name f) c.in-OpenMessages.is) c.args.line.now _ c.in-Ok-behind-9.ensures

pub returns-in-Err-behind-9 : goal.returns-in-Err-behind-9
returns-in-Err-behind-9 c = fault_form form_openmsgs (forms.Name c.args.form) (ap (λ f. forms.Name f) c.in-OpenMessages.is) c.args.line.now c.in-Err-behind-9.fault c.in-Err-behind-9.ensures
