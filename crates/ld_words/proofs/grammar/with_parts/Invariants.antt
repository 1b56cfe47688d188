use Rattle.std.proofs.Common.{◌++◌, take, map}
use Rattle.std.specs.Prelude.{IfOk}
use Rattle.clap.specs.Simple.{Shape}
use Rattle.ld_words.specs.Grammar.{IsCommand, part_rule}
use Rattle.ld_words.proofs.grammar.with_parts.Given as goal

abbrev pub invariant-loop-part : goal.invariant-loop-part
invariant-loop-part l = (shape : Shape) → IfOk l.fn.made (IsCommand shape) → IfOk l.longer (IsCommand (record shape { rules = shape.rules ++ map part_rule (take l.part-index l.parts) }))
