-- What a node that runs has in memory, and what lies on its disk.
use Rattle.std.proofs.Common.{◌≡◌, ◌==◌, ℕ, false, sym, ◌∙◌, ap, subst}
use Rattle.ld_disk.specs.Memory.{disk_plain}
use Rattle.ld_disk.specs.declared.disk.Disk.{Ghosts}
use Rattle.ld_disk.specs.declared.memory.MemDisk.{MemDisk}
use Rattle.ld_op.specs.Cells.{read_plain}
use Rattle.ld_node.specs.Node.{disk_of, plain_of, is_blank}
use Rattle.ld_node.specs.declared.node.Node.{Node as Running}
use Rattle.ld_config.specs.declared.config.Config.{Config}
use Rattle.ld_machine.specs.Disk.{Node}
use Rattle.ld_host.specs.Lies.{IsWhole, Rests}
use Rattle.ld_host.specs.Stands.{Runs}
use Rattle.ld_host.proofs.Rising.{some_is}

module _ {g : Ghosts MemDisk} (c : Config) (n : ℕ) (node : Running MemDisk g) (x : Node) (runs : Runs c n node x) where
  here : IsWhole x.layout runs.lies.slots x.plain (disk_plain (disk_of node)).state
  here = subst (λ k. Rests x.layout runs.lies.slots x.plain k (disk_plain (disk_of node)).state) runs.cut runs.lies.rests

  -- its plain state is the machine's
  pub plain_here : plain_of node ≡ x.plain
  plain_here =
      let bytes = some_is (disk_plain (disk_of node)).state.bytes runs.holds.bytes runs.holds.rests.bytes_are in
      runs.holds.plain ∙ (λ i. read_plain (sym bytes i) (runs.laid i).index) ∙ sym here.plain

  -- it isn't blank where there are ops
  pub some_here : is_blank node ≡ false → (x.layout.ops == 0) ≡ false
  some_here formatted = ap (λ y. y.ops == 0) (sym runs.laid) ∙ sym runs.holds.blank ∙ formatted
