use Rattle.std.proofs.Common.{ℕ}
use Rattle.clap.specs.Words.{rows_of, found_of}
use Rattle.ld_config.specs.declared.config.Config.{Config}
use Rattle.ld_words.specs.Meaning.{IsKnownLog}
use Rattle.ld_words.proofs.OneCommand.{no_known_config, no_known_log}
use Rattle.ld_words.proofs.Refused.{refused, not_none}
use Rattle.ld_words.proofs.configured.known_log.Goals as goal

pub returns-in_err-log-clause-says : goal.returns-in_err-log-clause-says
returns-in_err-log-clause-says c =
    refused c.from_residual.result c.in_err-log.field-0.0 (λ r. IsKnownLog (rows_of (found_of c.args.matches.now)) r.0 r.1) _
    ((l : ℕ) (d : Config) → IsKnownLog (rows_of (found_of c.args.matches.now)) l d → ⊥) c.from_residual.ensures.1 c.in_err-log.ensures
    (λ none l d known. none l known.log)

pub returns-in_err-text-clause-says : goal.returns-in_err-text-clause-says
returns-in_err-text-clause-says c =
    refused c.from_residual-in_err-text.result c.in_err-text.field-0.0 (λ r. IsKnownLog (rows_of (found_of c.args.matches.now)) r.0 r.1) _
    ((l : ℕ) (d : Config) → IsKnownLog (rows_of (found_of c.args.matches.now)) l d → ⊥) c.from_residual-in_err-text.ensures.1 c.in_err-text.ensures
    (λ none l d known. not_none _ _ known.config.is none)

pub returns-in_err-config-clause-says : goal.returns-in_err-config-clause-says
returns-in_err-config-clause-says c =
    refused c.from_residual-in_err-config.result c.in_err-config.field-0.0 (λ r. IsKnownLog (rows_of (found_of c.args.matches.now)) r.0 r.1) _
    ((l : ℕ) (d : Config) → IsKnownLog (rows_of (found_of c.args.matches.now)) l d → ⊥) c.from_residual-in_err-config.ensures.1 c.in_err-config.ensures.says
    (λ none l d known. no_known_config (rows_of (found_of c.args.matches.now)) c.in_ok-text.field-0.now c.in_ok-text.ensures l d known none)

pub returns-in-Err-clause-says : goal.returns-in-Err-clause-says
returns-in-Err-clause-says c other l d known =
    no_known_log (rows_of (found_of c.args.matches.now)) c.in_ok-log.log c.in_ok-text.field-0.now c.in_ok-config.config c.in_ok-log.ensures c.in_ok-text.ensures c.in_ok-config.ensures.says l d known (c.in-Err.ensures other)
