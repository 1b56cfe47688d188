use Rattle.std.proofs.Common.{ℕ}
use Rattle.clap.specs.Words.{rows_of, found_of}
use Rattle.ld_config.specs.declared.config.Config.{Config}
use Rattle.ld_words.specs.Meaning.{IsNodeOf}
use Rattle.ld_words.proofs.OneCommand.{no_config_of, no_node_of}
use Rattle.ld_words.proofs.Refused.{refused, not_none}
use Rattle.ld_words.proofs.configured.node_of.Goals as goal

pub returns-in_err-id-clause-says : goal.returns-in_err-id-clause-says
returns-in_err-id-clause-says c =
    refused c.from_residual.result c.in_err-id.field-0.0 (λ r. IsNodeOf (rows_of (found_of c.args.matches.now)) r.0 r.1) _
    ((n : ℕ) (d : Config) → IsNodeOf (rows_of (found_of c.args.matches.now)) n d → ⊥) c.from_residual.ensures.1 c.in_err-id.ensures
    (λ none n d node. none n node.id)

pub returns-in_err-text-clause-says : goal.returns-in_err-text-clause-says
returns-in_err-text-clause-says c =
    refused c.from_residual-in_err-text.result c.in_err-text.field-0.0 (λ r. IsNodeOf (rows_of (found_of c.args.matches.now)) r.0 r.1) _
    ((n : ℕ) (d : Config) → IsNodeOf (rows_of (found_of c.args.matches.now)) n d → ⊥) c.from_residual-in_err-text.ensures.1 c.in_err-text.ensures
    (λ none n d node. not_none _ _ node.config.is none)

pub returns-in_err-config-clause-says : goal.returns-in_err-config-clause-says
returns-in_err-config-clause-says c =
    refused c.from_residual-in_err-config.result c.in_err-config.field-0.0 (λ r. IsNodeOf (rows_of (found_of c.args.matches.now)) r.0 r.1) _
    ((n : ℕ) (d : Config) → IsNodeOf (rows_of (found_of c.args.matches.now)) n d → ⊥) c.from_residual-in_err-config.ensures.1 c.in_err-config.ensures.says
    (λ none n d node. no_config_of (rows_of (found_of c.args.matches.now)) c.in_ok-text.field-0.now c.in_ok-text.ensures n d node none)

pub returns-in-Err-clause-says : goal.returns-in-Err-clause-says
returns-in-Err-clause-says c other n d node =
    no_node_of (rows_of (found_of c.args.matches.now)) c.in_ok-id.id c.in_ok-text.field-0.now c.in_ok-config.config c.in_ok-id.ensures c.in_ok-text.ensures c.in_ok-config.ensures.says n d node (c.in-Err.ensures other)
