use Rattle.std.proofs.Common.{◌≡◌}
use Rattle.ld_store.specs.Open.{disk_of}
use Rattle.ld_seal.specs.Decided.{payload_of}
use Rattle.ld_node.proofs.Filled.{of_some, of_none, empty_there, payload_there}
use Rattle.ld_node.proofs.ByIndex.{for_empty, for_place}
use Rattle.ld_node.proofs.settled.is_there.Goals as goal

pub returns-in-None-clause-there : goal.returns-in-None-clause-there
returns-in-None-clause-there g c = empty_there (g.D.Disk.seen (disk_of c.args.store.now)) c.args.place (payload_of c.args.body.now) (of_none c.payload_in.result _ c.in-None.is c.payload_in.ensures.none)

pub returns-in_ok-there-in-Some-clause-there : goal.returns-in_ok-there-in-Some-clause-there
returns-in_ok-there-in-Some-clause-there g c = payload_there (g.D.Disk.seen (disk_of c.args.store.now)) c.args.place (payload_of c.args.body.now) c.in-Some.payload.now c.in_ok-there-in-Some.there (of_some c.payload_in.result c.in-Some.payload (λ x. x.now ≡ payload_of c.args.body.now) c.in-Some.is c.payload_in.ensures.some) c.in_ok-there-in-Some.ensures.has

pub returns-in-None-clause-some : goal.returns-in-None-clause-some
returns-in-None-clause-some g c = for_empty c.args.place (payload_of c.args.body.now) (of_none c.payload_in.result _ c.in-None.is c.payload_in.ensures.none)

pub returns-in_ok-there-in-Some-clause-some : goal.returns-in_ok-there-in-Some-clause-some
returns-in_ok-there-in-Some-clause-some g c = for_place c.args.place (payload_of c.args.body.now) c.in-Some.payload.now c.in_ok-there-in-Some.there (of_some c.payload_in.result c.in-Some.payload (λ x. x.now ≡ payload_of c.args.body.now) c.in-Some.is c.payload_in.ensures.some) c.in_ok-there-in-Some.ensures.compared
