use Rattle.std.proofs.Common.{◌≡◌, ◌++◌, ◌∷◌, [], sym, subst, arith}
use Rattle.std.proofs.lemmas.Grind.{common_steps}
use Rattle.std.specs.List.{All}
use Rattle.std.proofs.lemmas.List.Elements.{All-push}
use Rattle.ld_ids.specs.Bytes.{AreBytes}
use Rattle.ld_batch.proofs.Packing.{length-packed-push}
use Rattle.ld_batch.proofs.messages.Messages.push.Goals as goal

pub overflow_add-self : goal.overflow_add-self
overflow_add-self c = grind (arith, common_steps, length-packed-push c.self.inside.list.items c.args.one)

pub invariant_of-self-2 : goal.invariant_of-self-2
invariant_of-self-2 c =
    let items : c.push.new.self.items ≡ c.self.inside.list.items ++ c.args.one ∷ [] = grind (arith, common_steps) in
    record {
      bytes = subst (All AreBytes) (sym items) (All-push AreBytes _ c.args.one c.self.invariant.bytes c.bytes.ensures.bytes);
      packed_len = rw items (grind (arith, common_steps, length-packed-push c.self.inside.list.items c.args.one));
    }
