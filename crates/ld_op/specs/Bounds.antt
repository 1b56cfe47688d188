-- What an op and a record may hold: what a journal's body can carry.
use Rattle.std.specs.Prelude.{◌≡◌, ℕ, ◌≤◌, ◌+◌, List, [], ◌∷◌, length, false}
use Rattle.ld_ids.specs.Id.{IsLog}
use Rattle.ld_msg.specs.declared.msg.Entry.{Entry}
use Rattle.ld_msg.specs.Bounds.{Is32, IsLng, Is64, IsEpoch, IsEntry, IsKept, AreKept, IsSummary, AreEntries}
use Rattle.ld_op.specs.declared.op.Op.{Op}
use Rattle.ld_op.specs.declared.op.Op.TheVariants as ops
use Rattle.ld_op.specs.declared.record.Record.{Record}
use Rattle.ld_op.specs.declared.record.Record.TheVariants.{Now, Before, Mark}

-- logs from one on, rising, each with an epoch
abbrev pub AreEpochs : ℕ → List (ℕ × ℕ) → Type 0
AreEpochs from [] = Unit {0}
AreEpochs from (d ∷ ds) = (from ≤ d.0) × IsLog d.0 × (1 ≤ d.1) × Is32 d.1 × AreEpochs (d.0 + 1) ds

-- entries from a number on, their numbers rising
abbrev pub RiseFrom : ℕ → List Entry → Type 0
RiseFrom from [] = Unit {0}
RiseFrom from (e ∷ es) = (from ≤ e.number) × RiseFrom (e.number + 1) es

-- the count of a format's logs is one byte
abbrev pub IsOp : Op → Type 0
IsOp (ops.Format generation epochs) = Is32 generation × (length epochs ≤ 255) × AreEpochs 1 epochs
IsOp (ops.Accept l lng e) = IsLog l × IsLng lng × IsEntry e × IsKept e.what
IsOp (ops.Seal l b) = IsLog l × IsEpoch b
IsOp (ops.Clean l epoch y) = IsLog l × IsEpoch epoch × IsSummary epoch y
IsOp (ops.Trim l t) = IsLog l × Is64 t
IsOp (ops.Refill l es) = IsLog l × (1 ≤ length es) × (length es ≤ 64) × AreEntries es × RiseFrom 0 es × AreKept es
IsOp (ops.Refilled l) = IsLog l

-- an op that the first version of journals spelt in its own way: a format, or a close without a loss
abbrev pub IsOlder : Op → Type 0
IsOlder (ops.Format generation epochs) = Unit {0}
IsOlder (ops.Clean l epoch y) = y.loss ≡ false
IsOlder _ = ⊥

abbrev pub IsRecord : Record → Type 0
IsRecord (Now o) = IsOp o
IsRecord (Before o) = IsOp o × IsOlder o
IsRecord Mark = Unit {0}
