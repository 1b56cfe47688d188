use Rattle.std.proofs.Common.{◌+◌, drop, ap, subst, sym, ◌∙◌, arith}
use Rattle.ld_layout.specs.Areas.{IsFree, least_place}
use Rattle.ld_layout.proofs.Free.{is_free, walks_on, walk_stops, walk_ends}
use Rattle.ld_layout.proofs.areas.least_place.Goals as goal

pub areas-preserved : goal.areas-preserved
areas-preserved c = record {
  rest = ap (λ m. least_place c.args.size m (drop (c.areas.place-index + 1) c.args.areas.now)) c.max-at.ensures
      ∙ sym (walks_on c.args.size c.areas.at c.areas.place-index c.args.areas.now c.areas-test.true c.if-at-size.false) ∙ c.areas.invariant.rest;
  bound = omega (arith, c.max-at.ensures, c.areas.invariant.bound, c.requires.ends c.areas.place-index (0, 0) c.areas-test.true);
}

pub returns-then-at-size-clause-free : goal.returns-then-at-size-clause-free
returns-then-at-size-clause-free c =
    let is = sym c.areas.invariant.rest ∙ walk_stops c.args.size c.areas.at c.areas.place-index c.args.areas.now c.areas-test.true c.if-at-size.true in
    subst (λ m. IsFree c.args.size m c.args.areas.now) is (is_free c.args.size 0 0 c.args.areas.now c.requires.rise)

pub returns-clause-free : goal.returns-clause-free
returns-clause-free c =
    let is = sym c.areas.invariant.rest ∙ walk_ends c.args.size c.areas.at c.areas.place-index c.args.areas.now c.areas-test.false in
    subst (λ m. IsFree c.args.size m c.args.areas.now) is (is_free c.args.size 0 0 c.args.areas.now c.requires.rise)
