use Rattle.std.proofs.Common.{◌∙◌, sym}
use Rattle.ld_store.proofs.PastEnd.{index_stays, index_moves}
use Rattle.ld_store.proofs.read.stands_within.Goals as goal

pub returns-clause-within : goal.returns-clause-within
returns-clause-within c lie = index_stays c.args.len c.args.index.now.state (sym c.lies_within.ensures ∙ lie)

pub returns-clause-past : goal.returns-clause-past
returns-clause-past c past = index_moves c.args.len c.args.index.now.state (sym c.lies_within.ensures ∙ past)
