use Rattle.ld_reader.specs.Course.{on_course}
use Rattle.ld_reader.specs.Given.{rows_left}
use Rattle.ld_reader.proofs.Rows.{OnTheWay}
use Rattle.ld_reader.proofs.reader.Reader.give_all.Given as goal

abbrev pub invariant-rows : goal.invariant-rows
invariant-rows l = OnTheWay (on_course l.self.reader l.initial.course) l.initial.course.items (on_course l.self.reader l.course) l.course.items

abbrev pub decreases-rows : goal.decreases-rows
decreases-rows l = rows_left (on_course l.self.reader l.course)
