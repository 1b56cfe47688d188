use Rattle.std.proofs.Common.{◌≡◌, ◌<◌, ◌≤◌, ◌∙◌, ◌^◌, true, false, nat_le, ap, sym, inl, inr, subst, arith}
use Rattle.std.proofs.lemmas.Bool.Decides.{nat_tests}
use Rattle.ld_layout.specs.Layout.{base_length, new_segment}
use Rattle.ld_layout.specs.LaidOut.{laid_out}
use Rattle.ld_layout.proofs.Segments.{is_past_by}
use Rattle.ld_layout.proofs.segment.Layout.segment_with.Goals as goal

pub returns-then-is_long-clause-past : goal.returns-then-is_long-clause-past
returns-then-is_long-clause-past c =
    let t : nat_le (2 ^ 32) c.base_length-base.result ≡ true = sym c.is_long.ensures ∙ c.if-is_long.true in
    let l : 2 ^ 32 ≤ c.base_length-base.result = grind (arith, nat_tests) in
    let e = c.base_length-base.ensures in
    is_past_by c.args.index.now.state (new_segment (laid_out c.args.self.now c.args.index.now.state) c.args.cause c.args.cause)
    (inr (inl (subst (λ m. 2 ^ 32 ≤ base_length c.args.index.now.state m) c.requires.areas (omega arith))))

pub first_free-requires : goal.first_free-requires
first_free-requires c =
    let t : nat_le (2 ^ 32) c.base_length-base.result ≡ false = sym c.is_long.ensures ∙ c.if-is_long.false in
    let l : c.base_length-base.result < 2 ^ 32 = grind (arith, nat_tests) in
    let e = c.base_length-base.ensures in
    let b : c.base_length-base.result ≡ base_length c.args.index.now.state c.args.areas = omega arith in record {
      areas = c.requires.areas;
      live = c.requires.live;
      cause = c.requires.cause;
      base = b ∙ ap (base_length c.args.index.now.state) c.requires.areas;
      long = l;
      number = c.in-Some.ensures.some;
    }

pub returns-in-None-clause-past : goal.returns-in-None-clause-past
returns-in-None-clause-past c = is_past_by c.args.index.now.state (new_segment (laid_out c.args.self.now c.args.index.now.state) c.args.cause c.args.cause) (inr (inr c.in-None.ensures.none))
