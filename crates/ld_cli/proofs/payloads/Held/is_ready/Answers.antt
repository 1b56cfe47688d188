use Rattle.ld_cli.proofs.PayloadLines.{ready_held, ready_read}
use Rattle.ld_cli.proofs.payloads.Held.is_ready.Goals as goal

pub returns-then-holds : goal.returns-then-holds
returns-then-holds g c = ready_held c.args.self.now.buffer (g.I.Ready.ready c.args.input.now) c.holds.result c.holds.ensures c.if-holds.true

pub returns : goal.returns
returns g c = ready_read c.args.self.now.buffer (g.I.Ready.ready c.args.input.now) c.holds.result c.is_ready.result c.holds.ensures c.if-holds.false c.is_ready.ensures
