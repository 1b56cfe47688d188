use Rattle.std.proofs.Common.{arith, ap}
use Rattle.std.proofs.lemmas.Grind.{common_steps}
use Rattle.ld_lsn.specs.Number.{home_epoch}
use Rattle.ld_reader.specs.Following.{Following}
use Rattle.std.proofs.lemmas.Bool.Decides.{nat_tests}
use Rattle.ld_reader.specs.Looks.{looks_of}
use Rattle.ld_reader.proofs.Looking.{looked_so, made_so}
use Rattle.ld_reader.proofs.reader.Reader.look.Goals as goal

pub returns-2-clause-exact : goal.returns-2-clause-exact
returns-2-clause-exact g c = λ d t m.
    let k = c.in_ok-view.ensures.exact d t in
    let same = looked_so c.args.self.now d c.self.inside.first c.self.inside.first.log c.epoch-epoch.result (home_epoch c.args.place.now.next) c.new.result c.in_ok-view.view (ap (λ (v : Following). v.first) c.self.view_is) (ap (λ (v : Following). v.reader.log) c.self.view_is) c.epoch-epoch.ensures c.new.ensures in
    grind (arith, common_steps)

pub returns-2-clause-held : goal.returns-2-clause-held
returns-2-clause-held g c = λ d h m.
    let k = c.in_ok-view.ensures.answers d h in
    let same = looked_so c.args.self.now d c.self.inside.first c.self.inside.first.log c.epoch-epoch.result (home_epoch c.args.place.now.next) c.new.result c.in_ok-view.view (ap (λ (v : Following). v.first) c.self.view_is) (ap (λ (v : Following). v.reader.log) c.self.view_is) c.epoch-epoch.ensures c.new.ensures in
    grind (arith, common_steps)

pub returns-clause-exact : goal.returns-clause-exact
returns-clause-exact g c = λ d t m. (made_so (looks_of c.args.self.now d) c.args.made.now c.in-Some.seen (home_epoch c.args.place.now.next) c.in-Some.is (grind (arith, nat_tests, common_steps)) m, t)

pub returns-clause-held : goal.returns-clause-held
returns-clause-held g c = λ d t m. (made_so (looks_of c.args.self.now d) c.args.made.now c.in-Some.seen (home_epoch c.args.place.now.next) c.in-Some.is (grind (arith, nat_tests, common_steps)) m, t)
