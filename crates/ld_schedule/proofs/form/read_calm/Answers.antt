use Rattle.std.proofs.Common.{refl}
use Rattle.ld_schedule.specs.declared.form.Form.TheVariants as forms
use Rattle.ld_schedule.specs.declared.fault.LineFault.TheVariants.{Bad}
use Rattle.ld_schedule.proofs.Forms.{text_form, fault_form, form_calm}
use Rattle.ld_schedule.proofs.OneOf.{off_only}
use Rattle.ld_schedule.proofs.form.read_calm.Goals as goal

pub returns-then-same : goal.returns-then-same
returns-then-same c = text_form form_calm forms.Calm refl c.args.line.now tt (record { can = tt; is = c.if-same.ensures })

pub returns : goal.returns
returns c =
    let a = c.common.ensures in
    fault_form form_calm forms.Calm refl c.args.line.now (Bad c.common.result) (off_only _ c.args.line.now c.common.result c.if-same.ensures a.in_line a.in_word a.alike a.stops)
