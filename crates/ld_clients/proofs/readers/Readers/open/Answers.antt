use Rattle.std.proofs.Common.{◌∙◌, sym, subst}
use Rattle.ld_clients.specs.Followers.{KnowTheirLogs}
use Rattle.ld_clients.proofs.Followings.{know_opened}
use Rattle.ld_clients.proofs.Reading.{open_taken, open_unknown, open_off, open_full, open_done}
use Rattle.ld_clients.proofs.readers.Readers.open.Goals as goal

pub returns-then-has-clause-done : goal.returns-then-has-clause-done
returns-then-has-clause-done c = λ s h. open_taken c.args.config.now s c.args.self.now h c.args.style c.args.name.now c.args.log c.args.from c.args.until c.nothing.result (sym c.has.ensures ∙ c.if-has.true) c.nothing.ensures.lines c.nothing.ensures.sends

pub returns-in_default-clause-done : goal.returns-in_default-clause-done
returns-in_default-clause-done c = λ s h. open_unknown c.args.config.now s c.args.self.now h c.args.style c.args.name.now c.args.log c.args.from c.args.until c.nothing-in_default.result c.in_default.ensures.none c.nothing-in_default.ensures.lines c.nothing-in_default.ensures.sends

pub returns-then-is_no_range-clause-done : goal.returns-then-is_no_range-clause-done
returns-then-is_no_range-clause-done c = λ s h. open_off c.args.config.now s c.args.self.now h c.args.style c.args.name.now c.args.log c.args.from c.args.until c.in_ok-outcome.outcome c.in-Some.ensures.found.1 (sym c.has.ensures ∙ c.if-has.false)
    c.in_ok-name.name c.in_ok-name.ensures (sym c.is_no_range.ensures ∙ c.if-is_no_range.true) c.in_ok-outcome.ensures.lines c.in_ok-outcome.ensures.sends

pub returns-then-number-ge-READER_LIMIT-clause-done : goal.returns-then-number-ge-READER_LIMIT-clause-done
returns-then-number-ge-READER_LIMIT-clause-done c = λ s h. open_full c.args.config.now s c.args.self.now h c.args.style c.args.name.now c.args.log c.args.from c.args.until c.in_ok-outcome-2.outcome c.in-Some.ensures.found.1 (sym c.has.ensures ∙ c.if-has.false)
    (sym c.is_no_range.ensures ∙ c.if-is_no_range.false) c.len-number.result c.len-number.ensures c.in_ok-name.name c.in_ok-name.ensures c.if-number-ge-READER_LIMIT.true c.in_ok-outcome-2.ensures.lines c.in_ok-outcome-2.ensures.sends

pub returns-clause-done : goal.returns-clause-done
returns-clause-done c = λ s h. open_done c.args.config.now s c.args.self.now h c.args.style c.args.name.now c.args.log c.args.from c.args.until c.nothing-2.result c.in-Some.ensures.found.1 (sym c.has.ensures ∙ c.if-has.false)
    (sym c.is_no_range.ensures ∙ c.if-is_no_range.false) c.len-number.result c.len-number.ensures c.in_ok-name.name c.in-Some.first c.in_ok-reader.reader c.add.new.self c.in_ok-name.ensures c.if-number-ge-READER_LIMIT.false
    c.in-Some.ensures.found.0 c.in_ok-reader.ensures.reader c.in_ok-add.ensures.ok c.nothing-2.ensures.lines c.nothing-2.ensures.sends

pub returns-clause-logs : goal.returns-clause-logs
returns-clause-logs c = λ k. subst (KnowTheirLogs c.args.config.now) (sym c.in_ok-add.ensures.ok)
    (know_opened c.args.config.now c.args.self.now c.in_ok-name.name c.in-Some.first c.in_ok-reader.reader c.args.style c.args.log c.len-number.result c.args.from c.args.until c.in-Some.ensures.found.0 c.in_ok-reader.ensures.first c.in_ok-reader.ensures.reader k)
