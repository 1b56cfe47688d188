use Rattle.std.proofs.Common.{rules}
use Rattle.ld_layout.proofs.Segments.{recorded_later, recorded_first, recorded_is}
use Rattle.ld_layout.proofs.segment.Layout.with_record.Goals as goal

pub returns-in-Some-clause-value : goal.returns-in-Some-clause-value
returns-in-Some-clause-value c = recorded_later c.args.self c.in-Some.segment c.args.body c.from-more.result c.args.is_op c.in-Some.is (search rules)

pub returns-in-Some-clause-op : goal.returns-in-Some-clause-op
returns-in-Some-clause-op c t index o e = recorded_is c.args.self _ index o c.args.body c.args.is_op (recorded_later c.args.self c.in-Some.segment c.args.body c.from-more.result c.args.is_op c.in-Some.is (search rules)) t e

pub returns-in-None-clause-value : goal.returns-in-None-clause-value
returns-in-None-clause-value c = recorded_first c.args.self c.args.body c.from-more.result c.args.is_op c.in-None.is (search rules)

pub returns-in-None-clause-op : goal.returns-in-None-clause-op
returns-in-None-clause-op c t index o e = recorded_is c.args.self _ index o c.args.body c.args.is_op (recorded_first c.args.self c.args.body c.from-more.result c.args.is_op c.in-None.is (search rules)) t e
