-- What a format of a node does, by what the register draws.
use Rattle.std.specs.Prelude.{◌≡◌, ◌⊎◌, ℕ, List, Option, Some, Bool, true, false, Ok, Err}
use Rattle.std.specs.declared.result.Result.{Result}
use Rattle.ld_disk.specs.Plain.{after_calls, all_succeed}
use Rattle.ld_disk.specs.Plain as disks
use Rattle.ld_op.specs.declared.op.Op.{Op}
use Rattle.ld_op.specs.declared.op.Op.TheVariants as ops
use Rattle.ld_op.specs.Plain.{Plain, apply}
use Rattle.ld_layout.specs.Layout.{Layout, passes_limit}
use Rattle.ld_segment.specs.Lies.{Slots}
use Rattle.ld_store.specs.Ops.{StandsFor}
use Rattle.ld_register.specs.declared.fault.RegisterFault.{RegisterFault}
use Rattle.ld_register.specs.declared.register.Drawn.{Drawn}
use Rattle.ld_node.specs.declared.fault.NodeFault.{NodeFault}
use Rattle.ld_node.specs.declared.fault.NodeFault.TheVariants as nodes
use Rattle.ld_node.specs.Changes.{calls_of, IsPast}
use Rattle.ld_node.specs.Faults.{of_register}

-- the op of a format under what was drawn
abbrev pub format_of : Drawn → Op
format_of drawn = ops.Format drawn.gen_ drawn.epochs

-- the record of an op is within the journal's limit
abbrev pub IsWithin : Layout → Op → Type 0
IsWithin y o = passes_limit y o ≡ false

-- how a record ends, by whether all its calls succeed
abbrev pub ended : Bool → Drawn → Result Drawn NodeFault
ended true drawn = Ok drawn
ended false drawn = Err nodes.Disk

-- the record of a format is kept where the journal lies so, on a disk that tells what each call will do; the disk as it is then, and the answer
pub record KeepsFormat (y : Layout) (z : Slots) (disk : disks.Plain) (drawn : Drawn) (now : Option disks.Plain) (result : Result Drawn NodeFault) : Type 0 where
  -- past the journal's limit nothing is written
  pub too_long : IsPast y (Some (format_of drawn)) → result ≡ Err nodes.Full
  pub too_long_disk : IsPast y (Some (format_of drawn)) → now ≡ Some disk
  -- else it is the writing calls of the record
  pub answer : IsWithin y (format_of drawn) → result ≡ ended (all_succeed (calls_of y z (Some (format_of drawn))) disk) drawn
  pub written : IsWithin y (format_of drawn) → now ≡ Some (after_calls (calls_of y z (Some (format_of drawn))) disk)

-- a format by what is drawn
pub record FormatsBy (y : Layout) (z : Slots) (disk : disks.Plain) (draw : Result Drawn RegisterFault) (now : Option disks.Plain) (result : Result Drawn NodeFault) : Type 0 where
  -- where the register refuses, so does the node, and its disk stays
  pub refused : (fault : RegisterFault) → draw ≡ Err fault → result ≡ Err (of_register fault)
  pub refused_disk : (fault : RegisterFault) → draw ≡ Err fault → now ≡ Some disk
  pub keeps : (drawn : Drawn) → draw ≡ Ok drawn → KeepsFormat y z disk drawn now result

-- bytes that represent the plain state before, or for that with a format that may have been drawn
abbrev pub LeftByFormat : Plain → (Drawn → Type 0) → List ℕ → Type 0
LeftByFormat p may bytes = StandsFor p bytes ⊎ ((drawn : Drawn) × may drawn × StandsFor (apply p (format_of drawn)) bytes)
