use Rattle.std.proofs.Common.{◌∙◌, ap, arith}
use Rattle.ld_op.specs.Answers.{same_what}
use Rattle.ld_op.specs.Cells.{each_what}
use Rattle.ld_msg.specs.declared.msg.What.TheVariants.{Rec}
use Rattle.ld_seal.proofs.Compares.{same-long}
use Rattle.ld_seal.proofs.decision.compare_record.Goals as goal

pub returns-else-place-len-clause-same : goal.returns-else-place-len-clause-same
returns-else-place-len-clause-same c f =
    ap (λ w. same_what (each_what f w) (Rec c.args.payload.now)) c.in-Some.ensures.record
    ∙ same-long f c.in-Some.place.at c.in-Some.place.len c.args.payload.now (λ same. omega (arith, same))
