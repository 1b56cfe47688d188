-- What lies on the disks of a cluster.
use Rattle.std.specs.Prelude.{ℕ, ◌≡◌, List, Some}
use Rattle.ld_table.specs.Table.{find}
use Rattle.ld_disk.specs.Memory.{disk_plain}
use Rattle.ld_register.specs.Arming as register
use Rattle.ld_machine.specs.Disk.{Node}
use Rattle.ld_host.specs.States.{disk_in}
use Rattle.ld_host.specs.Stands.{HasBytesOf}
use Rattle.ld_host.specs.declared.host.Host.{Host}
use Rattle.ld_cluster.specs.declared.cluster.Cluster.{Cluster}

-- the host of this number, and the bytes on its disk, which represent the node's plain state
pub record HasBytes (k : Cluster) (n : ℕ) (x : Node) : Type 0 where
  pub host : Host
  pub there : find n k.hosts.map.entries ≡ Some host
  pub bytes : HasBytesOf x.plain (disk_in host.state)

-- what is read of the register's disk
abbrev pub register_bytes : Cluster → List ℕ
register_bytes k = (disk_plain (register.disk_in k.register)).state.bytes
