use Rattle.std.proofs.Common.{refl}
use Rattle.ld_msg.specs.Register.{empty_register}
use Rattle.ld_shared.proofs.Together.{together, all_run}
use Rattle.ld_shared.proofs.laws.programs_share_one_register.Goals as goal

pub returns-clause-one : goal.returns-clause-one
returns-clause-one c values users m are = together values users m are

pub returns-clause-runs : goal.returns-clause-runs
returns-clause-runs c values all m d calls there leads order = all_run values 0 m all empty_register d calls there refl leads order
