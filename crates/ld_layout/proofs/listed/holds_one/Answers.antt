use Rattle.std.proofs.Common.{◌<◌, ◌≤◌, length, sym, refl, subst, arith}
use Rattle.ld_layout.proofs.Inside.{none_inside, first_inside}
use Rattle.ld_layout.proofs.listed.holds_one.Goals as goal

pub returns-then-first-starts : goal.returns-then-first-starts
returns-then-first-starts c = sym (none_inside c.args.starts.now c.args.place c.args.length (λ k l. c.first_from-first.ensures.before k (subst (λ n. k < n) (sym c.if-first-starts.true) l)))

pub returns : goal.returns
returns c =
    let m = c.first_from-first.ensures.most in
    let n = c.if-first-starts.false in
    let l : c.first_from-first.result < length c.args.starts.now = omega arith in
    let r : c.first_from-first.result ≤ c.first_from-first.result = omega arith in
    first_inside c.args.starts.now c.first_from-first.result c.args.place c.args.length _ l c.requires c.first_from-first.ensures.before (c.first_from-first.ensures.behind c.first_from-first.result r l) refl
