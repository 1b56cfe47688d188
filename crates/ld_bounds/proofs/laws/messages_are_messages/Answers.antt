use Rattle.ld_machine.specs.State.{start}
use Rattle.ld_machine.specs.Run.{state_after}
use Rattle.ld_bounds.proofs.Steps.{message_in, run_is, start_is}
use Rattle.ld_bounds.proofs.Fair.{all_fair}
use Rattle.ld_bounds.proofs.laws.messages_are_messages.Goals as goal

pub returns-clause-run : goal.returns-clause-run
returns-clause-run c = λ k es i m b a f. message_in (state_after k (start k) es).network i m (run_is k b (start k) es a (start_is k b)).messages f

pub returns-clause-message : goal.returns-clause-message
returns-clause-message c = λ k s i m h f. message_in s.network i m h.messages f

pub returns-clause-fair : goal.returns-clause-fair
returns-clause-fair c = λ k s h. all_fair s.network.sent h.messages
