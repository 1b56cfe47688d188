-- The first word of each event's line.
use Rattle.std.specs.Prelude.{◌≡◌}
use Rattle.ld_schedule.specs.declared.event.Event.{Event}
use Rattle.ld_schedule.specs.declared.event.Event.TheVariants as events
use Rattle.ld_schedule.specs.declared.form.Form.{Form}
use Rattle.ld_schedule.specs.declared.form.Form.TheVariants as forms
use Rattle.ld_schedule.specs.declared.form.NodeForm.TheVariants as node_forms
use Rattle.ld_schedule.specs.declared.form.NameForm.TheVariants as name_forms
use Rattle.ld_schedule.specs.declared.form.CountForm.TheVariants as count_forms
use Rattle.ld_schedule.specs.Grammar.{IsNamed}

abbrev pub form_of : Event → Form
form_of (events.Format n) = (forms.Node node_forms.Format)
form_of (events.Activate s l) = (forms.Name name_forms.Activate)
form_of (events.Append s p) = (forms.Name name_forms.Append)
form_of (events.Trim s p) = (forms.Name name_forms.Trim)
form_of (events.Retry s) = (forms.Name name_forms.Retry)
form_of (events.Drop s) = (forms.Name name_forms.Drop)
form_of (events.Deliver i) = (forms.Count count_forms.Deliver)
form_of (events.Lose i) = (forms.Count count_forms.Lose)
form_of (events.Flow k) = (forms.Count count_forms.Flow)
form_of (events.Open s l f u) = (forms.Name name_forms.Open)
form_of (events.Batch s ms) = (forms.Name name_forms.Batch)
form_of (events.OpenOne s l f u) = (forms.Name name_forms.OpenOne)
form_of (events.OpenMessages s l f u) = (forms.Name name_forms.OpenMessages)
form_of (events.Poll s) = (forms.Name name_forms.Poll)
form_of (events.Tick n l) = (forms.Node node_forms.Tick)
form_of (events.Down n) = (forms.Node node_forms.Down)
form_of (events.Up n) = (forms.Node node_forms.Up)
form_of (events.Wipe n) = (forms.Node node_forms.Wipe)
form_of (events.Fail n k) = (forms.Node node_forms.Fail)
form_of (events.Tear n k p) = (forms.Node node_forms.Tear)
form_of (events.Set l r x s) = (forms.Count count_forms.Set)
form_of (events.Replace n m l) = (forms.Node node_forms.Replace)
form_of events.Calm = forms.Calm
form_of (events.RegFail k d) = (forms.Count count_forms.RegFail)

-- the events that can be named, and whose line begins with this word
pub record IsOfForm (form : Form) (event : Event) : Type 0 where
  pub form_is : form_of event ≡ form
  pub can : IsNamed event
