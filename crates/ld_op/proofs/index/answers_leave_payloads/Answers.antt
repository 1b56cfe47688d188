use Rattle.ld_op.proofs.Same.{answer_same, one_same, digest_same, digest_decision_same, store_decision_same, clean_op_same, trim_op_same, on_page_same, tick_same, all_missing_same}
use Rattle.ld_op.proofs.index.answers_leave_payloads.Goals as goal

pub returns-clause-read : goal.returns-clause-read
returns-clause-read c f generation g released round from = answer_same f generation g released round from

pub returns-clause-one : goal.returns-clause-one
returns-clause-one c f n generation g released round from set excluded = one_same f n generation g released round from set excluded

pub returns-clause-digest : goal.returns-clause-digest
returns-clause-digest c f g from bound es = digest_same f g from bound es

pub returns-clause-decided : goal.returns-clause-decided
returns-clause-decided c f g ballot from = digest_decision_same f g ballot from

pub returns-clause-store : goal.returns-clause-store
returns-clause-store c f g e same = store_decision_same f g e same

pub returns-clause-clean : goal.returns-clause-clean
returns-clause-clean c f g l epoch y = clean_op_same f g l epoch y

pub returns-clause-trim : goal.returns-clause-trim
returns-clause-trim c f g l t = trim_op_same f g l t

pub returns-clause-page : goal.returns-clause-page
returns-clause-page c f g l b = on_page_same f g l b

pub returns-clause-tick : goal.returns-clause-tick
returns-clause-tick c f g closed = tick_same f g closed

pub returns-clause-missing : goal.returns-clause-missing
returns-clause-missing c f g = all_missing_same f g
