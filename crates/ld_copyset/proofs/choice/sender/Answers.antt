use Rattle.std.proofs.Common.{◌≡◌, ◌∙◌, ◌+◌, ap, arith}
use Rattle.std.specs.Prelude.{slice_get}
use Rattle.ld_lsn.specs.Number.{epoch_of, esn_of}
use Rattle.ld_copyset.specs.Copyset.{place_of, left_at}
use Rattle.ld_copyset.proofs.Choices.{first-is}
use Rattle.ld_copyset.proofs.choice.sender.Goals as goal

pub returns : goal.returns
returns c =
    let place : place_of c.args.lsn 0 ≡ epoch_of c.args.lsn + esn_of c.args.lsn = omega arith in
    c.nth.ensures.node ∙ (ap (λ left. slice_get left 0) (c.around-left.ensures ∙ ap (left_at c.args.set.now c.args.excluded.now) place)
    ∙ first-is c.args.set.now c.args.excluded.now (epoch_of c.args.lsn + esn_of c.args.lsn))
