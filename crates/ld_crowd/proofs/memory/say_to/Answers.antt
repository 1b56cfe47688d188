use Rattle.std.proofs.Common.{ap, sym}
use Rattle.ld_crowd.specs.Memory.{told_more}
use Rattle.ld_crowd.proofs.Seats.{set_seat, lefts_same, at_none}
use Rattle.ld_crowd.proofs.memory.say_to.Goals as goal

pub returns-then-peer-seats-clause-seats : goal.returns-then-peer-seats-clause-seats
returns-then-peer-seats-clause-seats c = sym (at_none c.args.seats.now c.args.peer (told_more c.args.bytes.now) c.if-peer-seats.true)

pub returns-clause-seats : goal.returns-clause-seats
returns-clause-seats c = set_seat c.args.seats.now c.args.peer (told_more c.args.bytes.now) c.index-seats-peer.result c.say.new.self c.if-peer-seats.false c.in_ok-say.ensures.ok

pub returns-clause-left : goal.returns-clause-left
returns-clause-left c = lefts_same c.args.seats.now c.args.peer c.index-seats-peer.result c.say.new.self c.if-peer-seats.false (ap (λ s. s.left) c.in_ok-say.ensures.ok)
