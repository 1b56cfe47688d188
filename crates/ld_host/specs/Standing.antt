-- Hosts as the machine's nodes.
use Rattle.std.specs.Prelude.{◌≡◌, ◌≤◌, ℕ, List, [], ◌∷◌, length, take}
use Rattle.ld_table.specs.Table.{put}
use Rattle.ld_config.specs.declared.config.Config.{Config}
use Rattle.ld_ids.specs.Set.{members}
use Rattle.ld_machine.specs.Disk.{Node}
use Rattle.ld_machine.specs.State.{new_nodes}
pub use Rattle.ld_host.specs.Done.{node_in}
use Rattle.ld_host.specs.Stands.{Stands}
use Rattle.ld_host.specs.declared.host.Host.{Host}
use Rattle.ld_host.specs.declared.hosts.Hosts.{Hosts}

-- the same numbers in the same order, and each host is the machine's node
abbrev pub AllStand : Config → List (ℕ × Host) → List (ℕ × Node) → Type 0
AllStand c [] [] = Unit {0}
AllStand c [] (x ∷ xs) = ⊥
AllStand c (h ∷ hs) [] = ⊥
AllStand c (h ∷ hs) (x ∷ xs) = (h.0 ≡ x.0) × Stands c h.0 h.1 x.1 × AllStand c hs xs

abbrev pub AreHosts : Config → Hosts → List (ℕ × Node) → Type 0
AreHosts c hosts nodes = AllStand c hosts.map.entries nodes

-- the host of this number was taken out: put back as some node, they are the nodes with that one
abbrev pub IsTaken : Config → ℕ → List (ℕ × Node) → Hosts → Type 0
IsTaken c n nodes hosts = (host : Host) (x : Node) → Stands c n host x → AllStand c (put n host hosts.map.entries) (put n x nodes)

-- hosts of the first nodes so far, on new disks
pub record AreBegun (c : Config) (hosts : List (ℕ × Host)) (place : ℕ) : Type 0 where
  pub within : place ≤ length (members c.nodes)
  pub stand : AllStand c hosts (new_nodes (take place (members c.nodes)))
