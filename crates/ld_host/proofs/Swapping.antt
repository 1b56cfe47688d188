-- A node that runs on a host and takes another one's place.
use Rattle.std.proofs.Common.{◌≡◌, ℕ, Bool, true, false, ◌&&◌, not, ◌==◌, nat_lt, Ok, if◌then◌else◌, refl, sym, ◌∙◌, ap}
use Rattle.ld_disk.specs.declared.disk.Disk.{Ghosts}
use Rattle.ld_disk.specs.declared.memory.MemDisk.{MemDisk}
use Rattle.ld_msg.specs.Register.{Register}
use Rattle.ld_op.specs.Plain.{log_of}
use Rattle.ld_register.specs.Calls.{swapped, after_swap}
use Rattle.ld_register.specs.declared.fault.RegisterFault.{RegisterFault}
use Rattle.ld_node.specs.Node.{id_of, known_of, plain_of}
use Rattle.ld_node.specs.Swaps as nodes
use Rattle.ld_node.specs.Swaps.{counted}
use Rattle.ld_node.specs.declared.fault.NodeFault.{NodeFault}
use Rattle.ld_node.specs.declared.fault.NodeFault.TheVariants as faults
use Rattle.ld_node.specs.declared.node.Node.{Node as Running}
use Rattle.ld_config.specs.declared.config.Config.{Config}
use Rattle.ld_machine.specs.Config.{has_log, has_node}
use Rattle.ld_machine.specs.Disk.{Node, new_node, is_up}
use Rattle.ld_host.specs.Stands.{Runs}
use Rattle.ld_host.specs.Done.{can_replace, replaced, after_replace}
use Rattle.ld_host.proofs.Logs.{logs_known}
use Rattle.ld_host.proofs.Running.{plain_here}

pub no_refusal : (fault : NodeFault) (refusal : RegisterFault) → fault ≡ faults.NoMemory → fault ≡ faults.Register refusal → ⊥
no_refusal fault refusal memory named = absurd cc

-- ---- a node that isn't there yet ----

no_and : (b : Bool) → b && false ≡ false
no_and true = refl
no_and false = refl

module _ (c : Config) (n : ℕ) (x : Node) (l other : ℕ) (new : x ≡ new_node) where
  cannot : can_replace c n x other l ≡ false
  cannot = ap (λ y. can_replace c n y other l) new ∙ no_and (has_log c l && (has_node c other && not (n == other)))

  pub none_replaced : (r : Register) → counted 0 ≡ replaced c n x other l r
  none_replaced r = sym (ap (λ b. if b then swapped r l (log_of x.plain l).lost_to other n else Ok 0) cannot)

  pub none_changed : (r : Register) → r ≡ after_replace c n x other l r
  none_changed r = sym (ap (λ b. if b then after_swap r l (log_of x.plain l).lost_to other n else r) cannot)

-- ---- a node that runs ----

module _ {g : Ghosts MemDisk} (c : Config) (n : ℕ) (node : Running MemDisk g) (x : Node) (l other : ℕ) (runs : Runs c n node x) where
  plain_is : plain_of node ≡ x.plain
  plain_is = plain_here c n node x runs

  up_and : (b : Bool) → b ≡ (is_up x.status && b)
  up_and b = ap (λ s. is_up s && b) (sym runs.status)

  can_is : nodes.can_replace (id_of node) (known_of node) (plain_of node) l other ≡ can_replace c n x other l
  can_is =
      let lost = not (log_of x.plain l).lost && nat_lt 0 (log_of x.plain l).lost_to in
      (λ i. nodes.can_replace (runs.id i) (runs.known i) (plain_is i) l other)
      ∙ (λ i. (logs_known l c.logs i && (has_node c other && not (n == other))) && up_and lost i)

  pub replaced_is : (r : Register) → nodes.replaced (id_of node) (known_of node) (plain_of node) l other r ≡ replaced c n x other l r
  replaced_is r = λ i. if can_is i then swapped r l (log_of (plain_is i) l).lost_to other (runs.id i) else Ok 0

  pub after_is : (r : Register) → nodes.after_replace (id_of node) (known_of node) (plain_of node) l other r ≡ after_replace c n x other l r
  after_is r = λ i. if can_is i then after_swap r l (log_of (plain_is i) l).lost_to other (runs.id i) else r
