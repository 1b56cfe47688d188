use Rattle.std.proofs.Common.{sym, ap, length, ◌∙◌, subst}
use Rattle.std.specs.List.{All}
use Rattle.std.proofs.lemmas.List.Elements.{All-nil}
use Rattle.ld_ids.specs.Bytes.{AreBytes}
use Rattle.ld_batch.specs.Batch.{packed}
use Rattle.ld_batch.proofs.Packing.{length-packed-none}
use Rattle.ld_batch.proofs.messages.Messages.empty.Goals as goal

pub invariant_of-result : goal.invariant_of-result
invariant_of-result c = record {
  bytes = subst (All AreBytes) (sym c.new.ensures.items) (All-nil AreBytes);
  packed_len = sym length-packed-none ∙ ap (λ l. length (packed l)) (sym c.new.ensures.items);
}
