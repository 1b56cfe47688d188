use Rattle.std.proofs.Common.{◌≡◌, ◌∙◌, sym, arith, subst}
use Rattle.std.proofs.lemmas.List.{length-set}
use Rattle.ld_ids.specs.Set.{set_bits, bits_set}
use Rattle.ld_ids.proofs.Bits.{flag_more, flags_all, number_again}
use Rattle.ld_ids.proofs.set.NodeSet.from_bits.Goals as goal

pub loop-index-preserved : goal.loop-index-preserved
loop-index-preserved c =
    let so_far = c.loop-index.invariant in
    (length-set c.loop-index.has c.loop-index.index _ ∙ so_far.0, flag_more c.loop-index.index c.args.bits c.loop-index.left c.loop-index.has c.loop-index-test.true so_far.0 so_far.1)

pub returns-clause-flags : goal.returns-clause-flags
returns-clause-flags c =
    let so_far = c.loop-index.invariant in
    sym (so_far.1 ∙ flags_all c.loop-index.index c.loop-index.left c.loop-index.has (omega (arith, c.loop-index-test.false)) so_far.0)

pub returns-clause-back : goal.returns-clause-back
returns-clause-back c =
    let so_far = c.loop-index.invariant in
    let whole : bits_set c.args.bits ≡ c.loop-index.has = so_far.1 ∙ flags_all c.loop-index.index c.loop-index.left c.loop-index.has (omega (arith, c.loop-index-test.false)) so_far.0 in
    subst (λ flags. set_bits flags ≡ c.args.bits) whole (number_again c.args.bits (omega (arith, c.ranges.bits.fits)))
