use Rattle.ld_clients.specs.Serving.{serving_in}
use Rattle.ld_clients.proofs.Names.{none_found}
use Rattle.ld_clients.proofs.Rows.{on_ok}
use Rattle.ld_clients.proofs.Placing.{reply_nobody, reply_somebody}
use Rattle.ld_clients.proofs.sequencers.Sequencers.on_reply.Goals as goal

pub returns-in_default-clause-done : goal.returns-in_default-clause-done
returns-in_default-clause-done g c = λ d s h t r. reply_nobody d s c.args.self.now h c.args.msg.now c.args.epoch c.nothing.result (g.G.Register.tells c.args.reg.now) (none_found (serving_in c.args.msg.now.log c.args.epoch c.args.self.now) c.in_default.ensures.name) t c.nothing.ensures.lines c.nothing.ensures.sends

pub returns-clause-done : goal.returns-clause-done
returns-clause-done g c = on_ok _ _ c.hear.result (λ o e d s h t r. reply_somebody d s c.args.self.now h c.args.msg.now c.args.epoch c.in-Some.found.now c.in_ok-name.name c.hear.new.self o (g.G.Register.tells c.hear.new.reg)
    c.in-Some.ensures.name c.in_ok-name.ensures c.in-Some.ensures.unique (λ k f. e k f d s h t r)) c.hear.ensures.done
