use Rattle.ld_words.proofs.OneAddress.{no_argument}
use Rattle.ld_words.proofs.reach.listen_address.Goals as goal

pub returns-in-None : goal.returns-in-None
returns-in-None c other address is of_it = no_argument _ c.in_ok-text.text.now c.in_ok-text.ensures c.in-None.ensures address is of_it
