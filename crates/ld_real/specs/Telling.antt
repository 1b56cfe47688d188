-- What a disk says that tells nothing.
use Rattle.std.specs.Prelude.{◌≡◌, Option, None, Some}
use Rattle.std.proofs.Common.{subst}
use Rattle.ld_disk.specs.Plain.{Plain}

abbrev none_told : Option Plain
none_told = None

abbrev TellsNothing : Option Plain → Type 0
TellsNothing None = Unit {0}
TellsNothing (Some p) = ⊥

-- where nothing is told, whatever is told of the bytes holds
pub nothing_told : (p : Plain) {A : Type 0} → none_told ≡ Some p → A
nothing_told p is = absurd (subst TellsNothing is tt)
