use Rattle.ld_msg.specs.Register.{empty_register}
use Rattle.ld_register.proofs.Growing as growing
use Rattle.ld_shared.proofs.Together.{two_of, with_calls}
use Rattle.ld_shared.proofs.laws.programs_agree.Goals as goal

pub returns-clause-epochs : goal.returns-clause-epochs
returns-clause-epochs c values m d before between after s t one other first second calls there leads order is at same =
    let r = two_of values m before between after s t d calls there leads order in
    growing.epochs_rise empty_register d r.0 r.1 r.2 one other first second same (with_calls r.0 r.1 r.2 s.call t.call _ _ d is at r.3)

pub returns-clause-generations : goal.returns-clause-generations
returns-clause-generations c values m d before between after s t n first second calls there leads order is at =
    let r = two_of values m before between after s t d calls there leads order in
    growing.generations_rise empty_register d r.0 r.1 r.2 n first second (with_calls r.0 r.1 r.2 s.call t.call _ _ d is at r.3)

pub returns-clause-summaries : goal.returns-clause-summaries
returns-clause-summaries c values m d before between after s t l e y short next view calls there leads order is at =
    let r = two_of values m before between after s t d calls there leads order in
    growing.close_is_shown empty_register d r.0 r.1 r.2 l e y short next view (with_calls r.0 r.1 r.2 s.call t.call _ _ d is at r.3)
