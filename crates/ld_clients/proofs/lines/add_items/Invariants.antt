use Rattle.std.proofs.Common.{◌≡◌, ◌++◌, take}
use Rattle.ld_clients.specs.Items.{given_lines}
use Rattle.ld_clients.proofs.lines.add_items.Given as goal

abbrev pub invariant-loop-given : goal.invariant-loop-given
invariant-loop-given l = l.lines.items ≡ l.fn.lines.items ++ given_lines l.style l.name (take l.given-index l.items)
