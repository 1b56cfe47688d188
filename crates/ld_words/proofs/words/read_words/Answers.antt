use Rattle.clap.specs.Words.{rows_of, found_of}
use Rattle.ld_words.specs.Parts.{IsReadWords}
use Rattle.ld_words.proofs.Refused.{refused_one, not_none}
use Rattle.ld_words.proofs.words.read_words.Goals as goal

pub returns-in_err-from : goal.returns-in_err-from
returns-in_err-from c =
    refused_one c.from_residual.result c.in_err-from.field-0.0 (IsReadWords (rows_of (found_of c.args.matches.now))) _ c.from_residual.ensures.1 c.in_err-from.ensures
    (λ r words none. none r.from r.until words.range)

pub returns-in_err-style : goal.returns-in_err-style
returns-in_err-style c =
    refused_one c.from_residual-in_err-style.result c.in_err-style.field-0.0 (IsReadWords (rows_of (found_of c.args.matches.now))) _ c.from_residual-in_err-style.ensures.1 c.in_err-style.ensures
    (λ r words none. not_none _ _ words.style none)

pub returns-in_err-pause : goal.returns-in_err-pause
returns-in_err-pause c =
    refused_one c.from_residual-in_err-pause.result c.in_err-pause.field-0.0 (IsReadWords (rows_of (found_of c.args.matches.now))) _ c.from_residual-in_err-pause.ensures.1 c.in_err-pause.ensures
    (λ r words none. none r.pause words.pause)

pub returns-in_err-shown : goal.returns-in_err-shown
returns-in_err-shown c =
    refused_one c.from_residual-in_err-shown.result c.in_err-shown.field-0.0 (IsReadWords (rows_of (found_of c.args.matches.now))) _ c.from_residual-in_err-shown.ensures.1 c.in_err-shown.ensures
    (λ r words none. not_none _ _ words.shown none)

pub returns : goal.returns
returns c = record { range = c.in_ok-from.ensures; style = c.in_ok-style.ensures; pause = c.in_ok-pause.ensures; shown = c.in_ok-shown.ensures }
