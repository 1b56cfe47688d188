use Rattle.std.proofs.Common.{ℕ, sym, ◌∙◌}
use Rattle.std.proofs.lemmas.Bool.{eqb-true}
use Rattle.clap.specs.Words.{rows_of, found_of}
use Rattle.ld_words.specs.Meaning.{IsPlaceFor}
use Rattle.ld_words.proofs.OneCommand.{one_of_place, no_place_node, no_place_log}
use Rattle.ld_words.proofs.Refused.{refused}
use Rattle.ld_words.proofs.stopped.place_for.Goals as goal

pub returns-in_err-of : goal.returns-in_err-of
returns-in_err-of c =
    refused c.from_residual.result c.in_err-of.field-0.0 (λ r. IsPlaceFor (rows_of (found_of c.args.matches.now)) c.args.id c.args.config.now r.0 r.1) _
    ((other log : ℕ) → IsPlaceFor (rows_of (found_of c.args.matches.now)) c.args.id c.args.config.now other log → ⊥) c.from_residual.ensures.1 c.in_err-of.ensures
    (λ none other log place. none other place.of)

pub returns-in_err-of-2 : goal.returns-in_err-of-2
returns-in_err-of-2 c =
    refused c.from_residual-in_err-of-2.result c.in_err-of-2.field-0.0 (λ r. IsPlaceFor (rows_of (found_of c.args.matches.now)) c.args.id c.args.config.now r.0 r.1) _
    ((other log : ℕ) → IsPlaceFor (rows_of (found_of c.args.matches.now)) c.args.id c.args.config.now other log → ⊥) c.from_residual-in_err-of-2.ensures.1 c.in_err-of-2.ensures
    (λ none other log place. no_place_node (rows_of (found_of c.args.matches.now)) c.args.id c.args.config.now c.in_ok-of.of c.in_ok-of.ensures other log place none)

pub returns-in_err-log : goal.returns-in_err-log
returns-in_err-log c =
    refused c.from_residual-in_err-log.result c.in_err-log.field-0.0 (λ r. IsPlaceFor (rows_of (found_of c.args.matches.now)) c.args.id c.args.config.now r.0 r.1) _
    ((other log : ℕ) → IsPlaceFor (rows_of (found_of c.args.matches.now)) c.args.id c.args.config.now other log → ⊥) c.from_residual-in_err-log.ensures.1 c.in_err-log.ensures
    (λ none other log place. none log place.log)

pub returns-in_err-log-2 : goal.returns-in_err-log-2
returns-in_err-log-2 c =
    refused c.from_residual-in_err-log-2.result c.in_err-log-2.field-0.0 (λ r. IsPlaceFor (rows_of (found_of c.args.matches.now)) c.args.id c.args.config.now r.0 r.1) _
    ((other log : ℕ) → IsPlaceFor (rows_of (found_of c.args.matches.now)) c.args.id c.args.config.now other log → ⊥) c.from_residual-in_err-log-2.ensures.1 c.in_err-log-2.ensures
    (λ none other log place. no_place_log (rows_of (found_of c.args.matches.now)) c.args.id c.args.config.now c.in_ok-log.log c.in_ok-log.ensures other log place none)

pub returns-then-eq : goal.returns-then-eq
returns-then-eq c refusal other log place =
    let same = one_of_place (rows_of (found_of c.args.matches.now)) c.args.id c.args.config.now other log c.in_ok-of.of place c.in_ok-of.ensures in
    place.apart (eqb-true c.args.id c.in_ok-of-2.of (sym c.if-eq.ensures) ∙ c.in_ok-of-2.ensures.0 ∙ sym same)
