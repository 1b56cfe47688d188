use Rattle.std.proofs.Common.{ℕ}
use Rattle.clap.specs.Walk.{Text}
use Rattle.clap.specs.Words.{rows_of, found_of}
use Rattle.ld_words.specs.Parts.{IsRegisterFrom}
use Rattle.ld_words.proofs.Refused.{refused, not_none}
use Rattle.ld_words.proofs.words.register_from.Goals as goal

pub returns-in_err-register : goal.returns-in_err-register
returns-in_err-register c =
    refused c.from_residual.result c.in_err-register.field-0.0 (λ r. IsRegisterFrom (rows_of (found_of c.args.matches.now)) r.0 r.1) _
    ((kept : Text) (first : ℕ) → IsRegisterFrom (rows_of (found_of c.args.matches.now)) kept first → ⊥) c.from_residual.ensures.1 c.in_err-register.ensures
    (λ none kept first is. not_none _ _ is.register none)
