use Rattle.std.proofs.Common.{◌≡◌, ◌∙◌, ◌++◌, ap, length, arith}
use Rattle.ld_batch.specs.Batch.{two_bytes}
use Rattle.ld_batch.proofs.Growing.{nothing_in, nothing_packed}
use Rattle.ld_batch.proofs.batch.Batch.new.Goals as goal

pub invariant_of-result : goal.invariant_of-result
invariant_of-result c =
    let bytes : c.add_two_bytes.new.out.items ≡ two_bytes 0 = c.in_ok-add_two_bytes.ensures.ok ∙ ap (λ l. l ++ two_bytes 0) c.new-bytes.ensures.items in
    record {
      is = nothing_packed c.add_two_bytes.new.out.items bytes;
      most = omega (arith, ap length (nothing_in c.add_two_bytes.new.out.items bytes));
      short = omega (arith, ap length bytes);
    }

pub returns : goal.returns
returns c = nothing_in c.add_two_bytes.new.out.items (c.in_ok-add_two_bytes.ensures.ok ∙ ap (λ l. l ++ two_bytes 0) c.new-bytes.ensures.items)
