use Rattle.std.proofs.Common.{sym, subst}
use Rattle.ld_machine.specs.Step.{happens}
use Rattle.ld_node_bounds.specs.Messages.{AreMessages}
use Rattle.ld_clients.specs.Reads.{AreReaders, opening}
use Rattle.ld_clients.specs.Acting.{Stays}
use Rattle.ld_tail.proofs.Clients.{reader_acted, open_client, opened_messages, told_acted}
use Rattle.ld_tail.proofs.reads.Reading.open.Goals as goal

pub returns-clause-opened : goal.returns-clause-opened
returns-clause-opened g c = λ none s there.
    let k = c.args.config.now in
    let a = c.args.self.now in
    let new = c.open.new.self in
    let o = c.in_ok-outcome.outcome in
    let T = g.G.Register.tells a.register in
    let done = happens k s (opening c.args.style a.name a.log c.args.from c.args.until) in
    let readers : AreReaders k s a.readers = subst (λ fs. AreReaders k s fs) (sym none) there.readers in
    told_acted _ s o.lines.items c.told.result.lines.items o.sends c.told.result.sends done c.told.ensures.lines c.told.ensures.sends
    (reader_acted k s new o (Stays s) T done (c.in_ok-outcome.ensures.done s readers) (λ r e. subst T (sym e) there.register) (open_client k s c.args.style a.name a.log c.args.from c.args.until) (c.in_ok-outcome.ensures.logs readers.logs))

pub returns-clause-messages : goal.returns-clause-messages
returns-clause-messages g c = λ none. subst AreMessages (sym c.told.ensures.sends)
    (opened_messages c.args.config.now c.args.self.now.readers c.open.new.self c.args.style c.args.self.now.name c.args.self.now.log c.args.from c.args.until c.in_ok-outcome.outcome none c.in_ok-outcome.ensures.done)
