use Rattle.std.proofs.Common.{arith, ◌∙◌, ap}
use Rattle.ld_msg.specs.Reader.{keys}
use Rattle.ld_gap.proofs.SlotTables.{members-filled_from}
use Rattle.ld_gap.proofs.lost.Lost.nodes.Goals as goal

pub returns : goal.returns
returns c = members-filled_from 1 c.loop-place.nodes c.self.inside.generations (omega arith) (λ j lt. c.loop-place.invariant.1 j (omega arith)) ∙ ap keys c.self.view_is
