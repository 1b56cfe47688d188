use Rattle.ld_sequencer_bounds.proofs.Plans.{no_digest_is, with_page_is, with_asks_is, with_lost_is, plan_is, settled_is}
use Rattle.ld_sequencer_bounds.proofs.laws.recoveries_stay_in_bounds.Goals as goal

pub returns-clause-start : goal.returns-clause-start
returns-clause-start c = λ s e n. no_digest_is s e n

pub returns-clause-page : goal.returns-clause-page
returns-clause-page c = λ e y from upto trim lng es d p t l a. with_page_is e y from upto trim lng es p t l d a

pub returns-clause-anew : goal.returns-clause-anew
returns-clause-anew c = λ e d a. with_asks_is e d a

pub returns-clause-lost : goal.returns-clause-lost
returns-clause-lost c = λ e y d a. with_lost_is e y d a

pub returns-clause-plan : goal.returns-clause-plan
returns-clause-plan c = λ e loss d a. plan_is e loss d a

pub returns-clause-settled : goal.returns-clause-settled
returns-clause-settled c = λ e y p g G. settled_is e p y g G
