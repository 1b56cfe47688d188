use Rattle.std.proofs.Common.{ap, sym, subst, ◌∙◌}
use Rattle.ld_digest.specs.Gathering.{nodes_told, IsInPlace}
use Rattle.ld_digest.proofs.Changed.{nodes_anew, anew_in_place}
use Rattle.ld_digest.proofs.digest.Digest.ask_anew.Goals as goal

pub invariant_of-self : goal.invariant_of-self
invariant_of-self c =
    let e = c.ask_each_anew.ensures in (
      ap nodes_told e ∙ (nodes_anew c.self.inside.epoch c.lng-good.result c.self.inside.told.items ∙ c.self.invariant.0),
      subst IsInPlace (sym e) (anew_in_place c.self.inside.epoch c.lng-good.result c.self.inside.told.items c.self.invariant.1),
    )
