use Rattle.std.proofs.Common.{◌≡◌, ◌∷◌, sym, subst, arith}
use Rattle.std.proofs.lemmas.Grind.{common_steps}
use Rattle.std.specs.List.{All}
use Rattle.std.proofs.lemmas.List.Elements.{All-cons}
use Rattle.ld_ids.specs.Bytes.{AreBytes}
use Rattle.ld_batch.proofs.Packing.{length-packed-front}
use Rattle.ld_batch.proofs.messages.Messages.push_front.Goals as goal

pub overflow_add-self : goal.overflow_add-self
overflow_add-self c = grind (arith, common_steps, length-packed-front c.args.one c.self.inside.list.items)

pub invariant_of-self-2 : goal.invariant_of-self-2
invariant_of-self-2 c =
    let items : c.insert.new.self.items ≡ c.args.one ∷ c.self.inside.list.items = grind (arith, common_steps) in
    record {
      bytes = subst (All AreBytes) (sym items) (All-cons AreBytes c.args.one _ c.bytes.ensures.bytes c.self.invariant.bytes);
      packed_len = rw items (grind (arith, common_steps, length-packed-front c.args.one c.self.inside.list.items));
    }
