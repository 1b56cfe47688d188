use Rattle.std.proofs.Common.{◌≡◌, ◌∙◌, ◌+◌, ◌%◌, refl, sym, ap, subst, arith}
use Rattle.ld_copyset.specs.Copyset.{place_of, AreDistinct}
use Rattle.ld_copyset.proofs.Rings.{left-distinct, first-distinct, two-parts, left-empty}
use Rattle.ld_copyset.proofs.choice.around.Goals as goal

pub returns-then-size-gt0 : goal.returns-then-size-gt0
returns-then-size-gt0 c =
    let size = c.len-size.result in
    let place = place_of c.args.lsn c.args.wave in
    let sum : c.from.result + c.from-then-size-gt0.result + c.from-then-size-gt0-2.result ≡ place = omega arith in
    two-parts c.args.set.now c.args.excluded.now place size _ _ _ _ c.len-size.ensures.count c.if-size-gt0.true (ap (λ n. n % size) sum) c.empty-left.ensures
    c.add_between.ensures c.add_between-then-size-gt0.ensures

pub returns-else-size-gt0 : goal.returns-else-size-gt0
returns-else-size-gt0 c = c.empty-left.ensures ∙ sym (left-empty c.args.set.now c.args.excluded.now (place_of c.args.lsn c.args.wave) (omega arith))

pub add_between-requires-clause-distinct : goal.add_between-requires-clause-distinct
add_between-requires-clause-distinct c =
    first-distinct c.args.set.now c.args.excluded.now c.len-size.result ((c.from.result + c.from-then-size-gt0.result + c.from-then-size-gt0-2.result) % c.len-size.result) _ c.len-size.ensures.count c.empty-left.ensures

pub add_between-requires-then-size-gt0-clause-distinct : goal.add_between-requires-then-size-gt0-clause-distinct
add_between-requires-then-size-gt0-clause-distinct c =
    let size = c.len-size.result in
    let place = place_of c.args.lsn c.args.wave in
    let sum : c.from.result + c.from-then-size-gt0.result + c.from-then-size-gt0-2.result ≡ place = omega arith in
    subst AreDistinct
    (sym (two-parts c.args.set.now c.args.excluded.now place size _ _ _ _ c.len-size.ensures.count c.if-size-gt0.true (ap (λ n. n % size) sum) c.empty-left.ensures c.add_between.ensures refl))
    (left-distinct c.args.set.now c.args.excluded.now place)
