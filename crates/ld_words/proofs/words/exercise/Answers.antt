use Rattle.std.proofs.Common.{ℕ}
use Rattle.clap.specs.Words.{rows_of, found_of}
use Rattle.ld_words.specs.Meaning.{IsExercise}
use Rattle.ld_words.proofs.Refused.{refused}
use Rattle.ld_words.proofs.words.exercise.Goals as goal

pub returns-in_err-seed : goal.returns-in_err-seed
returns-in_err-seed c =
    refused c.from_residual.result c.in_err-seed.field-0.0 (λ e. IsExercise (rows_of (found_of c.args.matches.now)) e.0 e.1) _
    ((seed events : ℕ) → IsExercise (rows_of (found_of c.args.matches.now)) seed events → ⊥) c.from_residual.ensures.1 c.in_err-seed.ensures
    (λ none seed events is. none seed is.seed)

pub returns-in_err-events : goal.returns-in_err-events
returns-in_err-events c =
    refused c.from_residual-in_err-events.result c.in_err-events.field-0.0 (λ e. IsExercise (rows_of (found_of c.args.matches.now)) e.0 e.1) _
    ((seed events : ℕ) → IsExercise (rows_of (found_of c.args.matches.now)) seed events → ⊥) c.from_residual-in_err-events.ensures.1 c.in_err-events.ensures
    (λ none seed events is. none events is.events)

pub returns : goal.returns
returns c = record { seed = c.in_ok-seed.ensures; events = c.in_ok-events.ensures }
