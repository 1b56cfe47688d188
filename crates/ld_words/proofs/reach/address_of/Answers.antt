use Rattle.serde_json.specs.View.{view}
use Rattle.ld_words.proofs.OneAddress.{no_address_of, no_port_zero}
use Rattle.ld_words.proofs.reach.address_of.Goals as goal

pub returns-in_default : goal.returns-in_default
returns-in_default c other a is = no_address_of (view c.args.object.now) c.args.node c.in_ok-text.text.now c.in_ok-text.ensures (rw c.in_default.is at c.port_of.ensures) a is

pub returns-then-port-eq0 : goal.returns-then-port-eq0
returns-then-port-eq0 c other a is =
    no_port_zero (view c.args.object.now) c.args.node c.in_ok-text.text.now c.in-Some.port c.in_ok-text.ensures c.in-Some.ensures c.if-port-eq0.true a is
