use Rattle.std.proofs.Common.{◌++◌, ◌+◌, ap, sym, ◌∙◌, append_assoc}
use Rattle.ld_ids.specs.Set.{members}
use Rattle.ld_reader.specs.Following.{messages_from}
use Rattle.ld_reader.specs.Rounds.{asks_once, asks_twice}
use Rattle.ld_reader.proofs.Asking.{messages-append}
use Rattle.ld_reader.proofs.asks.Ask.add_rounds.Goals as goal

pub returns-in_ok-add_each-2-clause-ok : goal.returns-in_ok-add_each-2-clause-ok
returns-in_ok-add_each-2-clause-ok c =
    let s = c.args.self.now in
    let first = asks_once s.senders c.args.round s.from (members c.args.nodes.now) in
    let next = asks_once s.senders (c.args.round + 1) s.from (members c.args.nodes.now) in
    c.in_ok-add_each-2.ensures.ok ∙ ap (λ l. l ++ messages_from s.reader s.log next) c.in_ok-add_each.ensures.ok
    ∙ append_assoc c.args.list.now.items (messages_from s.reader s.log first) (messages_from s.reader s.log next) ∙ ap (λ l. c.args.list.now.items ++ l) (sym (messages-append s.reader s.log first next))
    ∙ ap (λ b. c.args.list.now.items ++ messages_from s.reader s.log (asks_twice b s.senders c.args.round s.from (members c.args.nodes.now))) (sym c.if-twice.true)
