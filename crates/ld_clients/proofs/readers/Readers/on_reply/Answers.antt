use Rattle.std.proofs.Common.{◌++◌, ◌∙◌, sym, subst, refl}
use Rattle.ld_clients.specs.Items.{given_lines}
use Rattle.ld_clients.specs.Followers.{reader_in, KnowTheirLogs}
use Rattle.ld_clients.proofs.Names.{none_found}
use Rattle.ld_clients.proofs.Followings.{know_read}
use Rattle.ld_clients.proofs.Reading.{reply_nobody, reply_done}
use Rattle.ld_clients.proofs.readers.Readers.on_reply.Goals as goal

pub returns-in_default-clause-done : goal.returns-in_default-clause-done
returns-in_default-clause-done g c = λ d s h t. reply_nobody d s c.args.self.now h c.args.msg.now c.args.number c.nothing.result (g.G.Register.tells c.args.reg.now) (none_found (reader_in c.args.number c.args.self.now) c.in_default.ensures.name) t c.nothing.ensures.lines c.nothing.ensures.sends

pub returns-in_err-items-clause-logs : goal.returns-in_err-items-clause-logs
returns-in_err-items-clause-logs g c = λ d k. subst (KnowTheirLogs d) (sym c.in_err-items.ensures.err) k

pub returns-in_err-add_items-clause-logs : goal.returns-in_err-add_items-clause-logs
returns-in_err-add_items-clause-logs g c = λ d k. know_read d c.args.self.now c.hear.new.self c.args.msg.now c.args.number c.in-Some.found.now c.in_ok-name.name c.in_ok-items.items c.empty-sends.result c.hear.new.sends c.in-Some.ensures.name c.in_ok-name.ensures c.in-Some.ensures.unique c.in_ok-items.ensures.acted k

pub returns-clause-logs : goal.returns-clause-logs
returns-clause-logs g c = λ d k. know_read d c.args.self.now c.hear.new.self c.args.msg.now c.args.number c.in-Some.found.now c.in_ok-name.name c.in_ok-items.items c.empty-sends.result c.hear.new.sends c.in-Some.ensures.name c.in_ok-name.ensures c.in-Some.ensures.unique c.in_ok-items.ensures.acted k

pub returns-clause-done : goal.returns-clause-done
returns-clause-done g c = λ d s h t. reply_done d s c.args.self.now h c.args.msg.now c.args.number c.in-Some.found.now c.in_ok-name.name c.hear.new.self c.in_ok-items.items (record { lines = c.add_items.new.lines; sends = c.hear.new.sends }) (g.G.Register.tells c.hear.new.reg) c.empty-sends.result c.hear.new.sends c.requires.message c.requires.to
    c.in-Some.ensures.name c.in_ok-name.ensures c.in-Some.ensures.unique (λ f e. c.in_ok-items.ensures.exact f e s.register t) c.empty-sends.ensures
    c.style_of-style.result c.style_of-style.ensures (c.in_ok-add_items.ensures ∙ (λ i. c.new-lines.ensures.items i ++ given_lines c.style_of-style.result c.in_ok-name.name (c.as_slice.ensures i))) refl
