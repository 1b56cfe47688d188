use Rattle.ld_safety.proofs.Rebuilt as rebuilt
use Rattle.ld_safety.proofs.rebuilt_once.Goals as goal

pub returns-clause-full : goal.returns-clause-full
returns-clause-full c = λ k es b y l p m h. (rebuilt.rebuilt_once k es).full y p m l h

pub returns-clause-stays : goal.returns-clause-stays
returns-clause-stays c = λ k es b. (rebuilt.rebuilt_once k es).stays

pub returns-clause-once : goal.returns-clause-once
returns-clause-once c = λ k es b. (rebuilt.rebuilt_once k es).once

pub returns-clause-hidden : goal.returns-clause-hidden
returns-clause-hidden c = rebuilt.whole_stays
