use Rattle.std.proofs.Common.{arith}
use Rattle.std.proofs.lemmas.Grind.{common_steps}
use Rattle.std.proofs.lemmas.Bool.Decides.{nat_tests}
use Rattle.ld_lsn.specs.Number.{home_epoch}
use Rattle.ld_reader.proofs.Answering.{unasked_so, last_so, asked_so}
use Rattle.ld_reader.proofs.Looking.{blanks, are_blanks, one_look, at_one, are_one}
use Rattle.ld_reader.proofs.reader.Reader.ask.Goals as goal

pub returns-in_default-clause-acted : goal.returns-in_default-clause-acted
returns-in_default-clause-acted g c =
    let f = c.args.self.now in
    (blanks f, are_blanks f, unasked_so (blanks f) f c.args.out.now (grind (arith, common_steps)))

pub returns-then-self-clause-acted : goal.returns-then-self-clause-acted
returns-then-self-clause-acted g c =
    let f = c.args.self.now in
    (blanks f, are_blanks f, last_so (blanks f) f _ c.args.out.now (grind (arith, common_steps)) (grind (arith, nat_tests, common_steps)) (grind (arith, common_steps)))

pub returns-clause-acted : goal.returns-clause-acted
returns-clause-acted g c =
    let f = c.args.self.now in
    let p = c.copy-place.result in
    let w = c.in_ok-seen.seen in
    let e = home_epoch p.next in
    let l = one_look (blanks f) e w in (
      l,
      are_one f (blanks f) e w (are_blanks f) (c.in_ok-seen.ensures.shown tt),
      asked_so l w f _ p c.args.out.now c.begin_over.new.out (grind (arith, common_steps)) (grind (arith, nat_tests, common_steps)) (at_one (blanks f) e w) (grind (arith, common_steps)) (grind (arith, common_steps)) (grind (arith, common_steps)),
    )
