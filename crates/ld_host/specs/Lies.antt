-- What lies on a disk while no call of it is made: a node's journal, or one with a record that was cut short behind it. The journal is of the second version, as a host writes no other.
use Rattle.std.specs.Prelude.{◌≡◌, ◌≤◌, ◌+◌, ◌==◌, List, false, Option, None, Some, is_some}
use Rattle.ld_disk.specs.Record.{State}
use Rattle.ld_disk.specs.Plain.{Plain as DiskPlain, IsTold, after_calls}
use Rattle.ld_disk.specs.declared.disk.Picture.{Picture}
use Rattle.ld_journal.specs.Pictures.{IsSafe, crashed_by, seen_by}
use Rattle.ld_op.specs.declared.op.Op.{Op}
use Rattle.ld_op.specs.Plain.{Plain, apply}
use Rattle.ld_op.specs.Cells.{read_plain}
use Rattle.ld_layout.specs.Layout.{Layout, laid_for, kept_in}
use Rattle.ld_segment.specs.Lies.{Slots, LiesAs, IsSound, MayKeep, written, op_row, switching}
use Rattle.ld_machine.specs.Disk.{Node, Cut}
use Rattle.ld_host.specs.Faults.{pictures_of, IsArmed}
use Rattle.ld_layout.specs.declared.segment.Growth.TheVariants.{Still}

-- all that is read is safe, lies as the layout says, with these slots, and represents this plain state
pub record IsWhole (y : Layout) (z : Slots) (p : Plain) (s : State) : Type 0 where
  pub lies : LiesAs (written y) y z s.bytes
  pub sound : IsSound y
  -- a host lets the room of no segment grow
  pub still : y.grows ≡ Still
  pub plain : p ≡ read_plain s.bytes y.index
  pub safe : IsSafe s.bytes s

-- one of the writing calls of a further op's record, or of the switch before it, failed, or the disk crashed in it; and since then it crashed in some syncs
pub record IsCut (y : Layout) (z : Slots) (p : Plain) (k : Cut) (s : State) : Type 0 where
  pub op : Op
  pub next : MayKeep y op
  pub before : DiskPlain
  pub whole : IsWhole y z p before.state
  pub how : Option Picture
  pub later : List Picture
  pub told : IsTold k.call how before
  pub call : k.call ≤ k.switching + 4
  pub state : s ≡ crashed_by later (after_calls (op_row y z op) before).state
  pub plain : k.plain ≡ apply p op
  pub formatted : (k.plain.generation == 0) ≡ false
  pub switched : k.switched ≡ laid_for y op 0
  pub layout : k.layout ≡ kept_in y op
  pub switching_is : k.switching ≡ switching y op
  pub crashed : k.crashed ≡ is_some how
  pub seen : pictures_of k.seen ≡ seen_by how later

abbrev pub Rests : Layout → Slots → Plain → Option Cut → State → Type 0
Rests y z p None s = IsWhole y z p s
Rests y z p (Some k) s = IsCut y z p k s

-- the disk has what the machine's node has
pub record Lies (p : DiskPlain) (x : Node) : Type 0 where
  pub slots : Slots
  pub formatted : (x.plain.generation == 0) ≡ (x.layout.ops == 0)
  pub rests : Rests x.layout slots x.plain x.cut p.state
  pub armed : IsArmed x.fault p
