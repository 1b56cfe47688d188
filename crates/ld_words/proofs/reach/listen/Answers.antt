use Rattle.clap.specs.Words.{rows_of, found_of}
use Rattle.ld_words.specs.Meaning.{IsListen}
use Rattle.ld_words.proofs.Refused.{refused_one}
use Rattle.ld_words.proofs.OneAddress.{no_listen}
use Rattle.ld_words.proofs.reach.listen.Goals as goal

pub returns-in_err-listen_address-in-false-true : goal.returns-in_err-listen_address-in-false-true
returns-in_err-listen_address-in-false-true c =
    refused_one c.from_residual-in_err-listen_address-in-false-true.result c.in_err-listen_address-in-false-true.field-0.0 (IsListen (rows_of (found_of c.args.matches.now))) _
    c.from_residual-in_err-listen_address-in-false-true.ensures.1 c.in_err-listen_address-in-false-true.ensures
    (λ l is none. no_listen (rows_of (found_of c.args.matches.now)) l c.in-false-true.ensures' none is)
