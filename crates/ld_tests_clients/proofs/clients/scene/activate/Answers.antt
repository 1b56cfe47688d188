use Rattle.std.proofs.Common.{refl}
use Rattle.ld_tests_clients.proofs.clients.scene.activate.Goals as goal

pub activate-requires-clause-spec : goal.activate-requires-clause-spec
activate-requires-clause-spec g c = λ h. record { is = c.requires.spec; log = refl }
