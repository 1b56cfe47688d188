use Rattle.std.proofs.Common.{Some, refl, ap, sym, subst}
use Rattle.ld_disk.specs.Memory.{disk_plain}
use Rattle.ld_register.specs.Stands.{StandsFor}
use Rattle.ld_shared.proofs.Copied.{checked_stands, checked_whole}
use Rattle.ld_shared.proofs.Reading.{sound_quiet}
use Rattle.ld_shared.proofs.copying.check.Goals as goal

pub returns-clause-stands : goal.returns-clause-stands
returns-clause-stands c =
    checked_stands c.args.bytes.now c.in-Ok.disk c.new-register.result c.look-answer.new.self c.look-answer.result _ _ c.looked.result c.new-register.ensures.disk (ap (λ b. Some b) c.in-Ok.ensures.bytes) (c.new-register.ensures.told refl)
    c.look-answer.ensures.meets c.looked.ensures.whole

pub returns-clause-whole : goal.returns-clause-whole
returns-clause-whole c d stands =
    checked_whole c.args.bytes.now c.in-Ok.disk c.new-register.result c.look-answer.new.self c.look-answer.result _ _ c.looked.result d
    (c.new-register.ensures.tells d (disk_plain c.in-Ok.disk) refl (sound_quiet (disk_plain c.in-Ok.disk) c.in-Ok.ensures.sound) (subst (λ b. StandsFor b d) (sym c.in-Ok.ensures.bytes) stands))
    c.look-answer.ensures.meets refl c.looked.ensures.memory c.looked.ensures.fine
