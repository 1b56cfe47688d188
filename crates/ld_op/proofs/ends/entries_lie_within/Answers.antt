use Rattle.std.proofs.Common.{◌∙◌, sym}
use Rattle.std.specs.Map.Iter.{deref_pair}
use Rattle.ld_op.specs.Places.{filled}
use Rattle.ld_op.specs.Within.{entries_within, entry_within}
use Rattle.ld_op.proofs.Within.{entries_on, no_entries, goes_on, ends_here}
use Rattle.ld_op.proofs.ends.entries_lie_within.Goals as goal

pub returns-then-not-entry_lies_within : goal.returns-then-not-entry_lies_within
returns-then-not-entry_lies_within c =
    ends_here (entry_within c.args.end c.in-Some.place.now) _ (entries_within c.args.end (filled c.next.new.self)) _ (entries_on c.args.end (deref_pair (c.in-Some.field-0-0, c.in-Some.place)) c.entries.place-iterator c.next.new.self c.in-Some.ensures.steps) (sym c.entry_lies_within.ensures ∙ c.if-not-entry_lies_within.true) c.entries.invariant

pub entries-preserved : goal.entries-preserved
entries-preserved c =
    goes_on (entry_within c.args.end c.in-Some.place.now) _ (entries_within c.args.end (filled c.next.new.self)) _ (entries_on c.args.end (deref_pair (c.in-Some.field-0-0, c.in-Some.place)) c.entries.place-iterator c.next.new.self c.in-Some.ensures.steps) (sym c.entry_lies_within.ensures ∙ c.if-not-entry_lies_within.false) c.entries.invariant

pub returns : goal.returns
returns c = sym (no_entries c.args.end c.entries.place-iterator c.in-None.ensures.steps.0) ∙ c.entries.invariant
