use Rattle.ld_layout.proofs.Payloads.{record_held}
use Rattle.ld_layout.proofs.layout.records_keep_payloads.Goals as goal

pub returns : goal.returns
returns c y o laid held = record_held y o laid held
