use Rattle.std.proofs.Common.{◌≡◌, true, false}
use Rattle.ld_cli.proofs.FirstLines.{took}
use Rattle.ld_cli.proofs.OffLines.{says_none, first_refused}
use Rattle.ld_cli.proofs.events.begin.Goals as goal

pub returns-in-Ok-clause-taken : goal.returns-in-Ok-clause-taken
returns-in-Ok-clause-taken g c = λ all may.
    let line = rw c.in-Line.is at c.in_ok-next_line.ensures.taken all may in
    took _ _ _ _ _ line.0 line.1 line.2 c.deref.ensures.value c.in-Ok.ensures.text c.in-Ok.ensures.no_text

pub returns-else-eq-clause-taken : goal.returns-else-eq-clause-taken
returns-else-eq-clause-taken g c = λ all may.
    let line = rw c.in-Line.is at c.in_ok-next_line.ensures.taken all may in
    first_refused _ _ _ _ line.0 line.1 line.2 c.deref.ensures.value
    (says_none _ _ c.in-Err.fault c.read.ensures.text c.in-Err.is (λ e. let x : false ≡ true = rw e at c.if-eq.ensures in cc))
