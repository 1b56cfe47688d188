use Rattle.std.proofs.Common.{refl}
use Rattle.ld_layout.proofs.Within.{record_within, switch_within, numbers_within}
use Rattle.ld_layout.proofs.layout.layouts_stay_within.Goals as goal

pub returns-clause-first : goal.returns-clause-first
returns-clause-first c = refl

pub returns-clause-record : goal.returns-clause-record
returns-clause-record c y index body is_op within goes_on fits = record_within y.grows y.ops y.end y.later index body is_op within goes_on fits

pub returns-clause-switch : goal.returns-clause-switch
returns-clause-switch c y g index cause within new fits = switch_within y g index cause within new fits

pub returns-clause-numbers : goal.returns-clause-numbers
returns-clause-numbers c y within = numbers_within y.ops y.end y.later within
