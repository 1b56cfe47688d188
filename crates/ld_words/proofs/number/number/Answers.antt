use Rattle.std.proofs.Common.{◌≡◌, ◌∙◌, sym, ap, decimal, Ok}
use Rattle.std.proofs.lemmas.Fmt.{parse-decimal}
use Rattle.ld_words.proofs.number.number.Goals as goal

pub returns-in_default-clause-none : goal.returns-in_default-clause-none
returns-in_default-clause-none c n small is =
    c.in_default.not-Ok n (parse-decimal 64 n c.args.text.now c.parse.result small small is c.parse.ensures.value.0)

pub returns-else-same-clause-none : goal.returns-else-same-clause-none
returns-else-same-clause-none c n small is =
    let parsed : c.parse.result ≡ Ok n = parse-decimal 64 n c.args.text.now c.parse.result small small is c.parse.ensures.value.0 in
    let same : c.in-Ok.number ≡ n = cc in
    c.if-same.ensures (c.as_bytes-again.ensures.value ∙ c.format.ensures.text ∙ ap decimal same ∙ sym is ∙ sym c.as_bytes.ensures.value)
