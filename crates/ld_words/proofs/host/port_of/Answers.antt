use Rattle.ld_words.proofs.OneAddress.{port_of_other}
use Rattle.ld_words.proofs.host.port_of.Goals as goal

pub returns-in-Err : goal.returns-in-Err
returns-in-Err c = port_of_other c.args.text.now c.port_of_name.result c.in-Err.ensures.value c.port_of_name.ensures
