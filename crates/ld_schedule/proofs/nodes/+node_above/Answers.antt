use Rattle.std.proofs.Common.{◌≡◌, ◌∙◌, ◌+◌, decimal, sym, subst, Err}
use Rattle.ld_schedule.specs.Reading.{IsOff, IsRead, Always}
use Rattle.ld_schedule.specs.Rising.{IsAbove}
use Rattle.ld_schedule.proofs.OneOf.{only, off_only}
use Rattle.ld_schedule.proofs.Numbers.{fault_above, off_sixteenth}
use Rattle.ld_schedule.proofs.nodes.+node_above.Goals as goal

pub returns-then-number-eq16 : goal.returns-then-number-eq16
returns-then-number-eq16 t c =
    let line = c.args.line.now in
    let a = c.common.ensures in
    let word : c.as_bytes-word.result.now ≡ decimal (c.args.low + 1) = c.as_bytes-word.ensures.value ∙ c.format.ensures.text in
    let off = off_only c.as_bytes-word.result.now line c.common.result c.if-same.ensures a.in_line a.in_word a.alike a.stops in
    off_sixteenth c.args.low line c.common.result c.if-number-eq16.true (subst (λ w. IsOff Always (only w) line c.common.result) word off)

pub returns-in-Err : goal.returns-in-Err
returns-in-Err t c =
    let line = c.args.line.now in
    let a = c.common.ensures in
    let word : c.as_bytes-word.result.now ≡ decimal (c.args.low + 1) = c.as_bytes-word.ensures.value ∙ c.format.ensures.text in
    let off = off_only c.as_bytes-word.result.now line c.common.result c.if-same.ensures a.in_line a.in_word a.alike a.stops in
    subst (λ f. IsRead (IsAbove c.args.low) decimal line (Err f)) (sym c.furthest.ensures)
    (fault_above c.args.low line c.in-Err.other c.common.result c.requires c.in-Err.ensures (subst (λ w. IsOff Always (only w) line c.common.result) word off))
