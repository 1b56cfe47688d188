use Rattle.ld_layout.proofs.Switches.{new_laid, record_laid, switch_laid}
use Rattle.ld_layout.proofs.layout.live_areas_stay_apart.Goals as goal

pub returns-clause-first : goal.returns-clause-first
returns-clause-first c = new_laid

pub returns-clause-record : goal.returns-clause-record
returns-clause-record c y o laid goes_on = record_laid y o laid goes_on

pub returns-clause-switch : goal.returns-clause-switch
returns-clause-switch c y cause room laid less = switch_laid y cause room laid less
