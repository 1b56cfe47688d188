use Rattle.std.proofs.Common.{◌≡◌, ◌<◌, ◌^◌, ◌++◌, ◌∷◌, [], length, sym, ap, subst, arith}
use Rattle.ld_batch.specs.Batch.{packed}
use Rattle.ld_batch.proofs.Packing.{length-packed-none, length-packed-push}
use Rattle.ld_tests_clients.proofs.clients.scene.batches.Goals as goal

pub push-requires : goal.push-requires
push-requires c = subst (λ ms. length (packed (ms ++ c.new.result ∷ [])) < 2 ^ 64) (sym c.empty-messages.ensures)
    (let n = length-packed-none in let l = length-packed-push [] c.new.result in let b = ap length c.new.ensures.value in let k = c.in_ok-from_elem.ensures.len in let m = c.if-bytes-lt100000.true in omega arith)
