-- What a store that holds leaves on its disk.
use Rattle.std.proofs.Common.{ℕ, List, Option, subst, sym}
use Rattle.ld_disk.specs.declared.disk.Disk.{Ghosts}
use Rattle.ld_segment.specs.Lies.{StandsFor, written}
use Rattle.ld_store.specs.Open.{disk_of, layout_of, slots_of, plain_of, Holds}
use Rattle.ld_store.specs.declared.store.Store.{Store}

module _ {D : Type 0} {g : Ghosts D} (seen : D → Option (List ℕ)) (may_leave : D → List ℕ → Type 0) where
  pub images_stand : (store : Store D g) → Holds seen may_leave store → (c : List ℕ) → may_leave (disk_of store) c → StandsFor (plain_of store) c
  images_stand store holds c left = subst (λ b. StandsFor (plain_of store) b) (sym (holds.rests.stable c left)) (record {
    version = written (layout_of store);
    layout = layout_of store;
    slots = slots_of store;
    lies = holds.lies;
    sound = holds.sound;
    plain = holds.plain;
  })
