use Rattle.std.proofs.Common.{◌≡◌, ◌∙◌, sym, ap, refl, true, false, Some, None, nat_le, nat_lt, arith, option_map}
use Rattle.std.proofs.lemmas.Bool.Decides.{nat_tests}
use Rattle.ld_lsn.specs.Number.{epoch_of}
use Rattle.ld_msg.specs.declared.msg.Entry.{Entry}
use Rattle.ld_op.specs.Plain.{Log, log_of, is_lost, summary_at}
use Rattle.ld_op.specs.Answers.{is_same}
use Rattle.ld_op.specs.Cells.{each_entry}
use Rattle.ld_seal.specs.Decided.{payload_in, stands_there}
use Rattle.ld_seal.proofs.Compares.{settled, told-if}
use Rattle.ld_seal.proofs.decision.decide_store.Goals as goal

pub returns-then-is_lost_in-clause-compared : goal.returns-then-is_lost_in-clause-compared
returns-then-is_lost_in-clause-compared c f =
    let p = c.args.plain.now.state in
    let g : Log = log_of p c.args.log in
    let e : Entry = record { number = c.args.number; ballot = c.args.ballot; what = c.args.what.now } in
    let lost : is_lost g (epoch_of e.number) ≡ true = cc in
    let is = settled f p.generation g e true _ _ _ _ lost refl refl refl refl in
    cc

pub returns-in-Some-clause-compared : goal.returns-in-Some-clause-compared
returns-in-Some-clause-compared c f =
    let p = c.args.plain.now.state in
    let g : Log = log_of p c.args.log in
    let e : Entry = record { number = c.args.number; ballot = c.args.ballot; what = c.args.what.now } in
    let kept : is_lost g (epoch_of e.number) ≡ false = cc in
    let clean : summary_at g (epoch_of e.number) ≡ Some c.in-Some.summary = cc in
    let is = settled f p.generation g e false _ _ _ _ kept clean refl refl refl in
    is

pub returns-then-value-clause-compared : goal.returns-then-value-clause-compared
returns-then-value-clause-compared c f =
    let p = c.args.plain.now.state in
    let g : Log = log_of p c.args.log in
    let e : Entry = record { number = c.args.number; ballot = c.args.ballot; what = c.args.what.now } in
    let kept : is_lost g (epoch_of e.number) ≡ false = cc in
    let unclean : summary_at g (epoch_of e.number) ≡ None = cc in
    let trimmed : nat_le e.number g.trim ≡ true = grind (arith, nat_tests) in
    let is = settled f p.generation g e false _ true _ _ kept unclean trimmed refl refl in
    cc

pub returns-then-ballot-sealed-clause-compared : goal.returns-then-ballot-sealed-clause-compared
returns-then-ballot-sealed-clause-compared c f =
    let p = c.args.plain.now.state in
    let g : Log = log_of p c.args.log in
    let e : Entry = record { number = c.args.number; ballot = c.args.ballot; what = c.args.what.now } in
    let kept : is_lost g (epoch_of e.number) ≡ false = cc in
    let unclean : summary_at g (epoch_of e.number) ≡ None = cc in
    let above : nat_le e.number g.trim ≡ false = grind (arith, nat_tests) in
    let sealed : nat_lt e.ballot g.sealed ≡ true = grind (arith, nat_tests) in
    let is = settled f p.generation g e false _ false true _ kept unclean above sealed refl in
    cc

pub returns-in-Same-clause-compared : goal.returns-in-Same-clause-compared
returns-in-Same-clause-compared c f =
    let p = c.args.plain.now.state in
    let g : Log = log_of p c.args.log in
    let e : Entry = record { number = c.args.number; ballot = c.args.ballot; what = c.args.what.now } in
    let kept : is_lost g (epoch_of e.number) ≡ false = cc in
    let unclean : summary_at g (epoch_of e.number) ≡ None = cc in
    let above : nat_le e.number g.trim ≡ false = grind (arith, nat_tests) in
    let unsealed : nat_lt e.ballot g.sealed ≡ false = grind (arith, nat_tests) in
    let found = ap (λ o. is_same e (option_map (each_entry f) o)) (sym c.entry.ensures) ∙ c.in-Same.ensures.same f e.number in
    let is = settled f p.generation g e false _ false false _ kept unclean above unsealed found in
    is

pub returns-in-Other-clause-compared : goal.returns-in-Other-clause-compared
returns-in-Other-clause-compared c f =
    let p = c.args.plain.now.state in
    let g : Log = log_of p c.args.log in
    let e : Entry = record { number = c.args.number; ballot = c.args.ballot; what = c.args.what.now } in
    let kept : is_lost g (epoch_of e.number) ≡ false = cc in
    let unclean : summary_at g (epoch_of e.number) ≡ None = cc in
    let above : nat_le e.number g.trim ≡ false = grind (arith, nat_tests) in
    let unsealed : nat_lt e.ballot g.sealed ≡ false = grind (arith, nat_tests) in
    let found = ap (λ o. is_same e (option_map (each_entry f) o)) (sym c.entry.ensures) ∙ c.in-Other.ensures.same f e.number in
    let is = settled f p.generation g e false _ false false _ kept unclean above unsealed found in
    is

pub returns-in-Compare-clause-compared : goal.returns-in-Compare-clause-compared
returns-in-Compare-clause-compared c f =
    let p = c.args.plain.now.state in
    let g : Log = log_of p c.args.log in
    let e : Entry = record { number = c.args.number; ballot = c.args.ballot; what = c.args.what.now } in
    let kept : is_lost g (epoch_of e.number) ≡ false = cc in
    let unclean : summary_at g (epoch_of e.number) ≡ None = cc in
    let above : nat_le e.number g.trim ≡ false = grind (arith, nat_tests) in
    let unsealed : nat_lt e.ballot g.sealed ≡ false = grind (arith, nat_tests) in
    let found = ap (λ o. is_same e (option_map (each_entry f) o)) (sym c.entry.ensures) ∙ c.in-Compare.ensures.same f e.number in
    let is = settled f p.generation g e false _ false false _ kept unclean above unsealed found in
    is ∙ told-if p.generation (stands_there f (payload_in c.args.what.now) c.in-Compare.place)
