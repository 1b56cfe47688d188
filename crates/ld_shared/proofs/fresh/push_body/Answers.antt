use Rattle.std.proofs.Common.{arith}
use Rattle.ld_shared.proofs.Reading.{read_more}
use Rattle.ld_shared.proofs.fresh.push_body.Goals as goal

pub returns-clause-pushed : goal.returns-clause-pushed
returns-clause-pushed c n values is has at = read_more n values c.args.journal.now.items c.push_record.new.journal.items c.body_of-body.result.now c.args.value.now has at c.body_of-body.ensures (omega (arith, c.if-body.false)) c.in_ok-push_record.ensures
