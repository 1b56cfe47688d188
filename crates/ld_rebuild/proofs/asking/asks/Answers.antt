use Rattle.ld_op.specs.Plain.{log_of}
use Rattle.ld_rebuild.proofs.LowestMissing.{lowest_above}
use Rattle.ld_rebuild.proofs.asking.asks.Goals as goal

pub send_asks-requires : goal.send_asks-requires
send_asks-requires c = lowest_above (log_of c.args.plain.now.state c.args.log) c.in-Some.from c.in-Some.ensures
