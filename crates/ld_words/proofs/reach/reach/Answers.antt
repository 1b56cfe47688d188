use Rattle.clap.specs.Words.{rows_of, found_of}
use Rattle.ld_words.specs.Meaning.{IsReach}
use Rattle.ld_words.proofs.Refused.{refused_one}
use Rattle.ld_words.proofs.OneAddress.{no_reach, nodes_of_at}
use Rattle.ld_words.proofs.reach.reach.Goals as goal

pub returns-in_err-at-in-false-true-clause-says : goal.returns-in_err-at-in-false-true-clause-says
returns-in_err-at-in-false-true-clause-says c =
    refused_one c.from_residual-in_err-at-in-false-true.result c.in_err-at-in-false-true.field-0.0 (IsReach (rows_of (found_of c.args.matches.now)) c.args.nodes.now) _
    c.from_residual-in_err-at-in-false-true.ensures.1 c.in_err-at-in-false-true.ensures
    (λ r is none. no_reach (rows_of (found_of c.args.matches.now)) c.args.nodes.now r c.in-false-true.ensures' none is)

pub returns-in_ok-at-in-false-true-clause-bounds : goal.returns-in_ok-at-in-false-true-clause-bounds
returns-in_ok-at-in-false-true-clause-bounds c =
    nodes_of_at (rows_of (found_of c.args.matches.now)) c.args.nodes.now c.in_ok-at-in-false-true.field-0 c.in_ok-at-in-false-true.ensures
