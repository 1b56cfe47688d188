use Rattle.std.proofs.Common.{sym, subst}
use Rattle.ld_schedule.specs.Reading.{IsRead}
use Rattle.ld_schedule.specs.Grammar.{event_text}
use Rattle.ld_schedule.specs.Form.{IsOfForm}
use Rattle.ld_schedule.proofs.form.read.Goals as goal

pub returns-in-Node : goal.returns-in-Node
returns-in-Node c = subst (λ f. IsRead (IsOfForm f) event_text c.args.line.now c.read_of_node.result) (sym c.in-Node.is) c.read_of_node.ensures

pub returns-in-Name : goal.returns-in-Name
returns-in-Name c = subst (λ f. IsRead (IsOfForm f) event_text c.args.line.now c.read_of_name.result) (sym c.in-Name.is) c.read_of_name.ensures

pub returns-in-Count : goal.returns-in-Count
returns-in-Count c = subst (λ f. IsRead (IsOfForm f) event_text c.args.line.now c.read_of_count.result) (sym c.in-Count.is) c.read_of_count.ensures
