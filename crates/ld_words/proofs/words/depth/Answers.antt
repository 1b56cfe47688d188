use Rattle.std.proofs.Common.{ℕ}
use Rattle.clap.specs.Words.{rows_of, found_of}
use Rattle.ld_words.specs.Parts.{IsDepth}
use Rattle.ld_words.proofs.Refused.{refused}
use Rattle.ld_words.proofs.words.depth.Goals as goal

pub returns-in_err-limit : goal.returns-in_err-limit
returns-in_err-limit c =
    refused c.from_residual.result c.in_err-limit.field-0.0 (λ r. IsDepth (rows_of (found_of c.args.matches.now)) r.0 r.1) _
    ((most many : ℕ) → IsDepth (rows_of (found_of c.args.matches.now)) most many → ⊥) c.from_residual.ensures.1 c.in_err-limit.ensures
    (λ none most many is. none most is.limit)

pub returns-in_err-epochs : goal.returns-in_err-epochs
returns-in_err-epochs c =
    refused c.from_residual-in_err-epochs.result c.in_err-epochs.field-0.0 (λ r. IsDepth (rows_of (found_of c.args.matches.now)) r.0 r.1) _
    ((most many : ℕ) → IsDepth (rows_of (found_of c.args.matches.now)) most many → ⊥) c.from_residual-in_err-epochs.ensures.1 c.in_err-epochs.ensures
    (λ none most many is. none many is.epochs)

pub returns : goal.returns
returns c = record { limit = c.in_ok-limit.ensures; epochs = c.in_ok-epochs.ensures }
