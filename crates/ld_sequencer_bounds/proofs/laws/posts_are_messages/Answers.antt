use Rattle.std.proofs.Common.{refl, ◌++◌}
use Rattle.ld_msg.specs.declared.msg.Who.TheVariants as whos
use Rattle.ld_msg.specs.Network.{posted}
use Rattle.ld_sequencer_bounds.proofs.Posts.{sent_behind}
use Rattle.ld_sequencer_bounds.proofs.Sends.{asks_are, items_sent, appends_sent}
use Rattle.ld_sequencer_bounds.proofs.laws.posts_are_messages.Goals as goal

pub returns-clause-asks : goal.returns-clause-asks
returns-clause-asks c = λ own e d E one before a. asks_are own E e one before d a

pub returns-clause-items : goal.returns-clause-items
returns-clause-items c = λ own e lng wave s lost loss is E l one before n a. items_sent own E e one before s lost loss lng wave is l n a

pub returns-clause-appends : goal.returns-clause-appends
returns-clause-appends c = λ own lng s lost ps E l n a. appends_sent own E s lost lng ps l n a

pub returns-clause-sent : goal.returns-clause-sent
returns-clause-sent c = λ own l bs ms h p a. sent_behind own l bs ms (ms ++ posted (whos.Sequencer own) l bs) h p refl a
