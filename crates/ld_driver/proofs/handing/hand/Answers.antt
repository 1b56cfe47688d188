use Rattle.std.proofs.Common.{refl, sym, ap, ◌++◌, ◌∙◌}
use Rattle.ld_host.proofs.Messaging.{up_is}
use Rattle.ld_driver.proofs.Handed.{not_known, is_handed}
use Rattle.ld_driver.proofs.handing.hand.Goals as goal

pub returns-then-not-knows : goal.returns-then-not-knows
returns-then-not-knows c nodes bounds are up to =
    not_known c.args.config.now nodes c.args.node c.args.message.now c.args.hosts.now c.args.answers.now c.args.answers.now (sym c.knows.ensures ∙ c.if-not-knows.true) are refl

pub returns : goal.returns
returns c nodes bounds are up to =
    let has = sym c.knows.ensures ∙ c.if-not-knows.false in
    let d = c.in_ok-sends.ensures.up c.args.config.now nodes are (up_is _ up) to has in
    is_handed c.args.config.now nodes c.args.node c.args.message.now c.on_msg.new.self c.args.answers.now _ up has d.0 (c.in_ok-put_behind.ensures.ok ∙ ap (λ l. c.args.answers.now ++ l) d.2)
