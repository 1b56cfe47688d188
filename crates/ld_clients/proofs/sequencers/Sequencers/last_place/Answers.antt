use Rattle.std.proofs.Common.{sym}
use Rattle.ld_table.specs.Named.{same, find_named}
use Rattle.ld_clients.proofs.Latest.{looked_on, looked_start}
use Rattle.ld_clients.proofs.sequencers.Sequencers.last_place.Goals as goal

pub clients-init : goal.clients-init
clients-init c = looked_start c.args.log c.self.inside.map.entries

pub clients-preserved : goal.clients-preserved
clients-preserved c = looked_on c.args.log c.self.inside.map.entries c.clients.place (c.in-Some.field-0-0.now, c.in-Some.client.now) c.clients.last c.later-last.result (sym c.in-Some.ensures.entry) c.later-last.ensures c.clients.invariant

pub later-last-requires : goal.later-last-requires
unfolding find_named same
later-last-requires c = c.self.invariant.whole c.in-Some.field-0-0.now c.in-Some.client.now c.in-Some.ensures.value
