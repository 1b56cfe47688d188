use Rattle.ld_layout.proofs.Held.{switch_held}
use Rattle.ld_layout.proofs.layout.switches_keep_payloads.Goals as goal

pub returns : goal.returns
returns c y cause room laid less held = switch_held y cause room laid less held
