use Rattle.std.proofs.Common.{◌++◌, ap, ◌∙◌}
use Rattle.std.specs.Int.{w64, to_be_bytes}
use Rattle.ld_shared.specs.Copies.{copy_of}
use Rattle.ld_shared.proofs.Copied.{pushed_as}
use Rattle.ld_shared.proofs.copying.push_copy.Goals as goal

pub returns : goal.returns
returns c = pushed_as c.push_value.result _ _ c.in_ok-value.value.items (copy_of c.args.number c.args.body.now)
    (c.in_ok-value.ensures.value ∙ ap (λ m. to_be_bytes w64 m.high ++ (to_be_bytes w64 m.low ++ (to_be_bytes w64 m.count ++ c.args.body.now))) c.of_copy.ensures) c.push_value.ensures
