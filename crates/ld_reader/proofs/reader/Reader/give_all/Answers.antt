use Rattle.std.proofs.Common.{◌<◌, refl, ap, sym, subst, ◌∙◌}
use Rattle.ld_reader.specs.Course.{on_course}
use Rattle.ld_reader.specs.Given.{rows_left}
use Rattle.ld_reader.specs.Shown.{shown_item, shown_step}
use Rattle.ld_reader.specs.declared.course.Course.{Course}
use Rattle.ld_reader.proofs.Clipping.{steps_on, ends_clipped}
use Rattle.ld_reader.proofs.Rows.{OnTheWay, goes_on, arrives}
use Rattle.ld_reader.proofs.reader.Reader.give_all.Goals as goal

pub rows-init : goal.rows-init
rows-init c = record { until = refl; ends = refl; gives = refl }

pub rows-smaller : goal.rows-smaller
rows-smaller c =
    let d = c.args.self.now.reader in
    let s = steps_on (on_course d c.rows.course) (shown_item c.in-Gives.item) c.step.ensures.next (sym (ap shown_step c.in-Gives.is) ∙ c.in_ok-item.ensures.step) in
    subst (λ (x : Course). rows_left (on_course d x) < rows_left (on_course d c.rows.course)) (sym c.in_ok-give-in-Gives.ensures) s.falls

pub rows-preserved : goal.rows-preserved
rows-preserved c =
    let d = c.args.self.now.reader in
    let s = steps_on (on_course d c.rows.course) (shown_item c.in-Gives.item) c.step.ensures.next (sym (ap shown_step c.in-Gives.is) ∙ c.in_ok-item.ensures.step) in
    subst (λ (x : Course). OnTheWay (on_course d c.args.course.now) c.args.course.now.items (on_course d x) x.items) (sym c.in_ok-give-in-Gives.ensures)
    (goes_on (on_course d c.args.course.now) (on_course d c.rows.course) c.args.course.now.items c.rows.course.items (shown_item c.in-Gives.item) c.rows.invariant s)

pub returns-in-Ends : goal.returns-in-Ends
returns-in-Ends c =
    let d = c.args.self.now.reader in
    let v = ends_clipped c.rows.course.place.until _ c.in-Ends.ending (sym (ap shown_step c.in-Ends.is) ∙ c.in_ok-item.ensures.step) in
    let g = arrives (on_course d c.args.course.now) (on_course d c.rows.course) c.args.course.now.items c.rows.course.items c.in-Ends.ending c.rows.invariant c.step.ensures.next v in
    record { reader = g.there; items = g.all; ending = g.ending }
