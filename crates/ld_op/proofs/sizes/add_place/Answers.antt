use Rattle.std.proofs.Common.{◌∙◌, ap, sym, ◌++◌, arith}
use Rattle.ld_op.proofs.Tables.{nothing_written, no_start, a_start}
use Rattle.ld_op.proofs.sizes.add_place.Goals as goal

pub returns-then-place-eq0 : goal.returns-then-place-eq0
returns-then-place-eq0 c = nothing_written c.args.out.now.items _ (no_start c.args.place.at c.args.place.len c.if-place-eq0.true)

pub returns : goal.returns
returns c = c.in_ok-push.ensures.items ∙ ap (λ r. c.args.out.now.items ++ r) (sym (a_start c.args.place.at c.args.place.len (let n = c.if-place-eq0.false in omega arith)))
