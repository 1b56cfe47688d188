use Rattle.std.proofs.Common.{map, sym, subst}
use Rattle.ld_etcd.specs.Gateway.{Takes, TakesAll}
use Rattle.ld_etcd.proofs.Taking.{first_of, takes_none, takes_more, takes_some, takes_whole}
use Rattle.ld_etcd.proofs.etcd.take_pairs.Goals as goal

pub pairs-init : goal.pairs-init
pairs-init c = takes_none c.args.prefix.now c.pairs_of-pairs.result.now (map (λ v. v.items) c.args.known.now.items)

pub pairs-preserved : goal.pairs-preserved
pairs-preserved c = takes_more c.args.prefix.now c.pairs_of-pairs.result.now c.pairs.at c.index-pairs-at.result (map (λ v. v.items) c.args.known.now.items) (map (λ v. v.items) c.pairs.known.items) (map (λ v. v.items) c.take_pair.new.known.items)
    c.pairs-test.true c.pairs.invariant c.in_ok-take_pair.ensures.taken c.index-pairs-at.is

pub returns-in_err-take_pair-clause-taken : goal.returns-in_err-take_pair-clause-taken
returns-in_err-take_pair-clause-taken c =
    let all = subst (λ l. TakesAll c.args.prefix.now (first_of c.pairs.at c.pairs_of-pairs.result.now) (map (λ v. v.items) c.args.known.now.items) l) (sym c.in_err-take_pair.ensures.same) c.pairs.invariant in
    subst (λ d. Takes c.args.prefix.now d (map (λ v. v.items) c.args.known.now.items) (map (λ v. v.items) c.take_pair.new.known.items)) c.pairs_of-pairs.ensures
    (takes_some c.args.prefix.now c.pairs_of-pairs.result.now c.pairs.at (map (λ v. v.items) c.args.known.now.items) (map (λ v. v.items) c.take_pair.new.known.items) all)

pub returns-clause-taken : goal.returns-clause-taken
returns-clause-taken c = subst (λ d. Takes c.args.prefix.now d (map (λ v. v.items) c.args.known.now.items) (map (λ v. v.items) c.pairs.known.items)) c.pairs_of-pairs.ensures
    (takes_some c.args.prefix.now c.pairs_of-pairs.result.now c.pairs.at (map (λ v. v.items) c.args.known.now.items) (map (λ v. v.items) c.pairs.known.items) c.pairs.invariant)

pub returns-clause-all : goal.returns-clause-all
returns-clause-all c = subst (λ d. TakesAll c.args.prefix.now d (map (λ v. v.items) c.args.known.now.items) (map (λ v. v.items) c.pairs.known.items)) c.pairs_of-pairs.ensures
    (takes_whole c.args.prefix.now c.pairs_of-pairs.result.now c.pairs.at (map (λ v. v.items) c.args.known.now.items) (map (λ v. v.items) c.pairs.known.items) c.pairs-test.false c.pairs.invariant)
