use Rattle.std.proofs.Common.{◌++◌, refl}
use Rattle.ld_journal.specs.Format.{records}
use Rattle.ld_journal.proofs.Reading.{one_reading, not_both, behind_them}
use Rattle.ld_journal.proofs.format.has_one_reading.Goals as goal

pub returns-clause-one : goal.returns-clause-one
returns-clause-one c bytes here there a b = one_reading bytes here there a b

pub returns-clause-whole : goal.returns-clause-whole
returns-clause-whole c place bytes bodies journal damaged = not_both place bytes bodies journal damaged

pub returns-clause-front : goal.returns-clause-front
returns-clause-front c bodies all rest fits journal =
    let behind = behind_them bodies all (records bodies ++ rest) rest fits refl journal in
    (behind.more, behind.all_are, behind.journal)
