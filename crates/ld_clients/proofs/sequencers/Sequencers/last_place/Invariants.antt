use Rattle.ld_clients.proofs.Latest.{Looked}
use Rattle.ld_clients.proofs.sequencers.Sequencers.last_place.Given as goal

abbrev pub invariant-clients : goal.invariant-clients
invariant-clients l = Looked l.log l.self-inside.map.entries l.place l.last
