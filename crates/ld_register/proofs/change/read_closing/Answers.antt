use Rattle.std.proofs.Common.{◌∙◌, ap, refl, arith}
use Rattle.std.specs.Int.{w32, w64, to_be_bytes}
use Rattle.ld_register.proofs.Bytes.{closing_is, no_closing}
use Rattle.ld_register.proofs.change.read_closing.Goals as goal

pub returns-in_default-clause-none : goal.returns-in_default-clause-none
returns-in_default-clause-none c = no_closing c.args.body.now c.word-number.result c.word-epoch.result (record { ballot = c.word.result; lng = c.word-2.result; trim = c.from_u64.result; end = c.word-3.result; loss = c.args.loss }) c.word-number.type_inv c.word-epoch.type_inv c.word.type_inv c.word-2.type_inv c.word-3.type_inv
    c.word-number.ensures c.word-epoch.ensures c.word.ensures c.word-2.ensures c.word-3.ensures (λ i e f g k h. c.in_default.ensures.none i)

pub returns-then-epoch-eq0-clause-none : goal.returns-then-epoch-eq0-clause-none
returns-then-epoch-eq0-clause-none c = no_closing c.args.body.now c.word-number.result c.word-epoch.result (record { ballot = c.word.result; lng = c.word-2.result; trim = c.from_u64.result; end = c.word-3.result; loss = c.args.loss }) c.word-number.type_inv c.word-epoch.type_inv c.word.type_inv c.word-2.type_inv c.word-3.type_inv
    c.word-number.ensures c.word-epoch.ensures c.word.ensures c.word-2.ensures c.word-3.ensures (λ i e f g k h. let o = c.then-epoch-eq0.either in let a = e.0 in omega arith)

pub returns-then-summary-gt-GREATEST_EPOCH-clause-none : goal.returns-then-summary-gt-GREATEST_EPOCH-clause-none
returns-then-summary-gt-GREATEST_EPOCH-clause-none c = no_closing c.args.body.now c.word-number.result c.word-epoch.result (record { ballot = c.word.result; lng = c.word-2.result; trim = c.from_u64.result; end = c.word-3.result; loss = c.args.loss }) c.word-number.type_inv c.word-epoch.type_inv c.word.type_inv c.word-2.type_inv c.word-3.type_inv
    c.word-number.ensures c.word-epoch.ensures c.word.ensures c.word-2.ensures c.word-3.ensures (λ i e f g k h. let o = c.then-summary-gt-GREATEST_EPOCH.either in omega arith)

pub returns-clause-bytes : goal.returns-clause-bytes
returns-clause-bytes c = closing_is c.args.body.now c.in-Some.log c.word-epoch.result (record { ballot = c.word.result; lng = c.word-2.result; trim = c.from_u64.result; end = c.word-3.result; loss = c.args.loss }) c.requires (ap (to_be_bytes w32) c.in-Some.ensures.some ∙ c.word-number.ensures) c.word-epoch.ensures c.word.ensures c.word-2.ensures (ap (to_be_bytes w64) c.from_u64.ensures ∙ c.long_word.ensures) c.word-3.ensures

pub returns-clause-is : goal.returns-clause-is
returns-clause-is c = let b = c.if-summary-epoch.false in let m = c.if-summary-gt-GREATEST_EPOCH.false in let l = c.if-summary-gt-GREATEST_LNG.false in let t = c.long_word.type_inv in let d = c.word-3.type_inv in
    (c.number.ensures.bounds, (omega arith, omega arith), record { ballot = b; ballot_most = m; lng = l; trim = omega (arith, c.from_u64.ensures); end = omega arith; end_most = omega arith }, refl)
