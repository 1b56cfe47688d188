use Rattle.std.proofs.Common.{ap}
use Rattle.ld_crowd.specs.Memory.{allowed}
use Rattle.ld_crowd.proofs.Seats.{set_seat, lefts_same}
use Rattle.ld_crowd.proofs.memory.allow.Goals as goal

pub returns-clause-seats : goal.returns-clause-seats
returns-clause-seats c = set_seat c.args.seats.now c.args.peer (allowed c.args.count) c.index-seats-peer.result c.allow.new.self c.requires c.allow.ensures

pub returns-clause-left : goal.returns-clause-left
returns-clause-left c = lefts_same c.args.seats.now c.args.peer c.index-seats-peer.result c.allow.new.self c.requires (ap (λ s. s.left) c.allow.ensures)
