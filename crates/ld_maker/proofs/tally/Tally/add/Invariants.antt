use Rattle.std.proofs.Common.{◌≡◌, ◌-◌, length, take}
use Rattle.ld_maker.specs.Tally.{HasRoom, more_lines}
use Rattle.ld_maker.proofs.tally.Tally.add.Given as goal

abbrev pub invariant-loop-line : goal.invariant-loop-line
invariant-loop-line l = (l.self ≡ more_lines l.fn.self (take l.line-index l.lines)) × HasRoom l.self (length l.lines - l.line-index)
