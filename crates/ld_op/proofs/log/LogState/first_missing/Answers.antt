use Rattle.std.proofs.Common.{◌∙◌, sym, subst}
use Rattle.ld_op.specs.Whole.{IsLast, HasAll}
use Rattle.ld_op.proofs.Firsts.{none_missing}
use Rattle.ld_op.proofs.Nexts.{first_is, first_whole, none_of, whole_behind, all_there, all_up_to, next_at}
use Rattle.ld_op.proofs.log.LogState.first_missing.Goals as goal

pub returns-then-is_some-clause-value : goal.returns-then-is_some-clause-value
returns-then-is_some-clause-value c = first_is c.args.self.now.log c.epochs.from c.in-Some.epoch c.in-Some.summary c.first_in-number.result c.summaries_rise.ensures.ordered c.summaries_rise.ensures.ends c.epochs.invariant (next_at c.args.self.now.log c.epoch.result c.epochs.from (c.in-Some.epoch, c.in-Some.summary) c.epoch.ensures c.in-Some.ensures.found) c.first_in-number.ensures.found (sym c.is_some.ensures ∙ c.if-is_some.true)

pub returns-then-is_some-clause-lowest : goal.returns-then-is_some-clause-lowest
returns-then-is_some-clause-lowest c = first_whole c.args.self.now.log c.epochs.from c.in-Some.epoch c.in-Some.summary c.first_in-number.result c.summaries_rise.ensures.ends c.epochs.invariant (next_at c.args.self.now.log c.epoch.result c.epochs.from (c.in-Some.epoch, c.in-Some.summary) c.epoch.ensures c.in-Some.ensures.found) c.first_in-number.ensures.found

all_last : (c : goal.Then-epoch-lost_to) → HasAll c.args.self.now.log
all_last c = all_up_to c.args.self.now.log c.in-Some.epoch c.summaries_rise.ensures.ends
    (whole_behind c.args.self.now.log c.epochs.from c.in-Some.epoch c.in-Some.summary c.summaries_rise.ensures.ends c.epochs.invariant (next_at c.args.self.now.log c.epoch.result c.epochs.from (c.in-Some.epoch, c.in-Some.summary) c.epoch.ensures c.in-Some.ensures.found) (none_of c.first_in-number.result c.first_in-number.ensures.none (sym c.is_some.ensures ∙ c.if-is_some.false)))
    (sym (c.if-epoch-lost_to.true ∙ c.lost_to.ensures))

pub returns-then-epoch-lost_to-clause-value : goal.returns-then-epoch-lost_to-clause-value
returns-then-epoch-lost_to-clause-value c = sym (none_missing c.args.self.now.log c.summaries_rise.ensures.ordered (all_last c))

pub returns-then-epoch-lost_to-clause-none : goal.returns-then-epoch-lost_to-clause-none
returns-then-epoch-lost_to-clause-none c = all_last c

all : (c : goal.In_default) → HasAll c.args.self.now.log
all c = all_there c.args.self.now.log c.epochs.from c.summaries_rise.ensures.ends c.epochs.invariant (subst (IsLast c.args.self.now.log) c.epoch.ensures c.in_default.ensures.none)

pub returns-clause-value : goal.returns-clause-value
returns-clause-value c = sym (none_missing c.args.self.now.log c.summaries_rise.ensures.ordered (all c))

pub returns-clause-none : goal.returns-clause-none
returns-clause-none c = all c
