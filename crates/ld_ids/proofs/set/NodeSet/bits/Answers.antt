use Rattle.std.proofs.Common.{◌≡◌, ◌∙◌, ◌-◌, drop, get_or, false, ap, arith}
use Rattle.ld_ids.specs.Set.{set_bits, bits_set}
use Rattle.ld_ids.proofs.Bits.{byte_bit, bits_none, bits_fit, bits_more, set_again}
use Rattle.ld_ids.proofs.set.NodeSet.bits.Goals as goal

pub loop-index-init : goal.loop-index-init
loop-index-init c = bits_none c.self.inside.has c.self.invariant

pub overflow_mul-bits : goal.overflow_mul-bits
overflow_mul-bits c = omega (arith, c.loop-index.invariant, bits_fit c.loop-index.index c.self.inside.has c.self.invariant c.loop-index-test.true)

pub overflow_add-bits : goal.overflow_add-bits
overflow_add-bits c =
    omega (arith, c.loop-index.invariant, c.from.ensures ∙ byte_bit (get_or c.self.inside.has (15 - c.loop-index.index) false), bits_fit c.loop-index.index c.self.inside.has c.self.invariant c.loop-index-test.true)

pub loop-index-preserved : goal.loop-index-preserved
loop-index-preserved c =
    omega (arith, c.loop-index.invariant, c.from.ensures ∙ byte_bit (get_or c.self.inside.has (15 - c.loop-index.index) false), bits_more c.loop-index.index c.self.inside.has c.self.invariant c.loop-index-test.true)

pub returns-clause-back : goal.returns-clause-back
returns-clause-back c =
    let none : 16 - c.loop-index.index ≡ 0 = omega (arith, c.loop-index-test.false) in
    let whole : c.loop-index.bits ≡ set_bits c.self.inside.has = c.loop-index.invariant ∙ ap (λ n. set_bits (drop n c.self.inside.has)) none in
    ap bits_set whole ∙ set_again c.self.inside.has c.self.invariant ∙ c.self.view_is
