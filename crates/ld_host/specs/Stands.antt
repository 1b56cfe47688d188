-- A host as the machine's node.
use Rattle.std.specs.Prelude.{◌≡◌, ℕ, List, Option, None, Some, true}
use Rattle.ld_disk.specs.Memory.{disk_plain}
use Rattle.ld_disk.specs.Record.{leaves}
use Rattle.ld_disk.specs.declared.disk.Disk.{Ghosts}
use Rattle.ld_disk.specs.declared.memory.MemDisk.{MemDisk}
use Rattle.ld_op.specs.Plain.{Plain, unformatted}
use Rattle.ld_segment.specs.Lies.{StandsFor}
use Rattle.ld_node.specs.Node.{id_of, known_of, released_of, disk_of, layout_of, slots_of, is_blank, Holds}
use Rattle.ld_node.specs.Known.{known_in}
use Rattle.ld_node.specs.declared.node.Node.{Node as Running}
use Rattle.ld_config.specs.declared.config.Config.{Config}
use Rattle.ld_machine.specs.Disk.{Node, Status, Blank, Up, Down, Failed}
use Rattle.ld_host.specs.Lies.{Lies}
use Rattle.ld_host.specs.declared.kept.Status.{Status as HostStatus}
use Rattle.ld_host.specs.declared.kept.Status.TheVariants as statuses
use Rattle.ld_host.specs.declared.state.State.{State}
use Rattle.ld_host.specs.declared.state.State.TheVariants as states
use Rattle.ld_host.specs.declared.host.Host.{Host}

-- what is read of a disk in memory, and what a crash leaves of it
abbrev pub seen_in : MemDisk → Option (List ℕ)
seen_in m = Some (disk_plain m).state.bytes

abbrev pub leaves_of : MemDisk → List ℕ → Type 0
leaves_of m c = leaves (disk_plain m).state c

module _ {g : Ghosts MemDisk} where
  -- a node runs: its store holds what lies on its disk
  pub record Runs (c : Config) (n : ℕ) (node : Running MemDisk g) (x : Node) : Type 0 where
    pub status : x.status ≡ Up
    pub id : id_of node ≡ n
    pub known : known_of node ≡ known_in c
    pub released : released_of node ≡ x.released
    pub cut : x.cut ≡ None
    pub laid : layout_of node ≡ x.layout
    pub lies : Lies (disk_plain (disk_of node)) x
    pub slots : slots_of node ≡ lies.slots
    pub holds : Holds seen_in leaves_of node

-- a new store lies on the disk
pub record IsBlank (m : MemDisk) (x : Node) : Type 0 where
  pub status : x.status ≡ Blank
  pub plain : x.plain ≡ unformatted
  pub cut : x.cut ≡ None
  pub lies : Lies (disk_plain m) x

module _ {g : Ghosts MemDisk} where
  -- a node was loaded whose store isn't formatted: it is the machine's node once that is loaded
  pub record IsFresh (c : Config) (n : ℕ) (node : Running MemDisk g) (y : Node) : Type 0 where
    pub id : id_of node ≡ n
    pub known : known_of node ≡ known_in c
    pub released : released_of node ≡ y.released
    pub blank : is_blank node ≡ true
    pub status : y.status ≡ Blank
    pub plain : y.plain ≡ unformatted
    pub cut : y.cut ≡ None
    pub laid : layout_of node ≡ y.layout
    pub lies : Lies (disk_plain (disk_of node)) y
    pub slots : slots_of node ≡ lies.slots
    pub holds : Holds seen_in leaves_of node

-- no node runs over the disk
pub record IsStopped (status : Status) (m : MemDisk) (x : Node) : Type 0 where
  pub is : x.status ≡ status
  pub lies : Lies (disk_plain m) x

abbrev pub StandsAs : Config → ℕ → State → Node → Type 0
StandsAs c n (states.Blank m) x = IsBlank m x
StandsAs c n (states.Up node) x = Runs c n node x
StandsAs c n (states.Down m) x = IsStopped Down m x
StandsAs c n (states.Failed m) x = IsStopped Failed m x
StandsAs c n states.Gone x = ⊥

-- the host of this number, under this configuration, is the machine's node
pub record Stands (c : Config) (n : ℕ) (host : Host) (x : Node) : Type 0 where
  pub id : host.id ≡ n
  pub state : StandsAs c n host.state x

abbrev pub shown_status : HostStatus → Status
shown_status statuses.Blank = Blank
shown_status statuses.Up = Up
shown_status statuses.Down = Down
shown_status statuses.Failed = Failed

-- there is a disk, and its bytes represent this plain state
abbrev pub HasBytesOf : Plain → Option MemDisk → Type 0
HasBytesOf p None = ⊥
HasBytesOf p (Some m) = StandsFor p (disk_plain m).state.bytes
