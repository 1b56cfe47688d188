use Rattle.ld_journal.proofs.Pictured.{safe_stays, append_safe}
use Rattle.ld_journal.proofs.format.finished_calls_are_safe.Goals as goal

pub returns-clause-append : goal.returns-clause-append
returns-clause-append c place body bytes s safe = append_safe place body bytes s safe

pub returns-clause-crash : goal.returns-clause-crash
returns-clause-crash c bytes later s safe = safe_stays bytes later s safe
