use Rattle.std.proofs.Common.{arith, map, take, ◌++◌}
use Rattle.ld_words.specs.Grammar.{part_rule}
use Rattle.ld_words.proofs.Commands.{one_part_more, all_parts}
use Rattle.ld_words.proofs.grammar.with_parts.Goals as goal

pub loop-part-preserved : goal.loop-part-preserved
loop-part-preserved c shape has =
    let rules = shape.rules ++ map part_rule (take c.loop-part.part-index c.args.parts.now) in
    one_part_more _ shape c.args.parts.now c.loop-part.part-index _ c.loop-part-test.true
    (c.with-longer.ensures (record shape { rules = rules }) _ (c.loop-part.invariant shape has) c.argument.ensures.rule c.argument.ensures.own)

pub returns : goal.returns
returns c shape has = all_parts _ shape c.args.parts.now c.loop-part.part-index (omega arith) (c.loop-part.invariant shape has)
