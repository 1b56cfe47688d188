use Rattle.std.proofs.Common.{subst}
use Rattle.ld_append.specs.Acting.{Serves}
use Rattle.ld_append.proofs.Serving.{takes_one, takes_none}
use Rattle.ld_append.proofs.acting.ActingActor.is_for.Goals as goal

pub returns-in-Some-clause-taken : goal.returns-in-Some-clause-taken
returns-in-Some-clause-taken g c = λ k s h.
    let T = g.G.Register.tells c.args.self.now.register in
    takes_one k s c.args.self.now.name T c.in-Some.sequencer c.args.message.now c.is_to.result (subst (λ o. Serves c.args.self.now.name o T k s) c.in-Some.is h) c.is_to.ensures.taken

pub returns-in-None-clause-taken : goal.returns-in-None-clause-taken
returns-in-None-clause-taken g c = λ k s h.
    let T = g.G.Register.tells c.args.self.now.register in
    takes_none k s c.args.self.now.name T c.args.message.now (subst (λ o. Serves c.args.self.now.name o T k s) c.in-None.is h)
