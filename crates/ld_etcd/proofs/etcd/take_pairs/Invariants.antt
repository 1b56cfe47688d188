use Rattle.std.proofs.Common.{map}
use Rattle.ld_etcd.specs.Gateway.{TakesAll}
use Rattle.ld_etcd.proofs.Taking.{first_of}
use Rattle.ld_etcd.proofs.etcd.take_pairs.Given as goal

abbrev pub invariant-pairs : goal.invariant-pairs
invariant-pairs l = TakesAll l.prefix (first_of l.at l.pairs) (map (λ v. v.items) l.fn.known.items) (map (λ v. v.items) l.known.items)
