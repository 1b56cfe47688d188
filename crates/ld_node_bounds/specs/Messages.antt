-- What a node keeps and what it answers, within what a journal's body and a frame can carry.
use Rattle.std.specs.Prelude.{ℕ, ◌≤◌, List, Option, Some, None}
use Rattle.std.specs.List.{AllByRecursion}
use Rattle.ld_ids.specs.Id.{IsLog}
use Rattle.ld_msg.specs.declared.msg.Who.{Who}
use Rattle.ld_msg.specs.declared.msg.Who.TheVariants as whos
use Rattle.ld_msg.specs.declared.msg.Msg.{Msg}
use Rattle.ld_msg.specs.declared.msg.Body.{Body}
use Rattle.ld_msg.specs.Bounds as bounds
use Rattle.ld_msg.specs.Bounds.{Is32, IsLng, Is64, IsEpoch, IsEntry, AreKept, IsSummary, AreEntries, Fits, IsMessage}
use Rattle.ld_op.specs.declared.op.Op.{Op}
use Rattle.ld_op.specs.declared.op.Op.TheVariants as ops
use Rattle.ld_op.specs.Answers.{Handled}
use Rattle.ld_node_bounds.specs.States.{last_handed_out}
use Rattle.ld_op.specs.Ticks.{Ticked, Cleans, Rebuilt, Asks, Nothing}

abbrev pub AreMessages : List Msg → Type 0
AreMessages ms = AllByRecursion IsMessage ms

-- ---- what is kept ----

-- an epoch of a log, up to which a node is lost, at most this one
pub record IsLostTo (most : ℕ) (d : ℕ × ℕ) : Type 0 where
  pub log : IsLog d.0
  pub epoch : d.1 ≤ most

-- what an op may hold, its ballot or epochs at most this one
abbrev pub IsKept : ℕ → Op → Type 0
IsKept most (ops.Format generation epochs) = Is32 generation × AllByRecursion (IsLostTo most) epochs
IsKept most (ops.Accept l lng e) = IsLog l × IsLng lng × IsEntry e × bounds.IsKept e.what
IsKept most (ops.Seal l b) = IsLog l × (b ≤ most)
IsKept most (ops.Clean l epoch y) = IsLog l × IsEpoch epoch × IsSummary epoch y
IsKept most (ops.Trim l t) = IsLog l × Is64 t
IsKept most (ops.Refill l es) = IsLog l × AreEntries es × AreKept es
IsKept most (ops.Refilled l) = IsLog l

abbrev pub MayKeep : ℕ → Option Op → Type 0
MayKeep most None = Unit {0}
MayKeep most (Some o) = IsKept most o

-- ---- what is answered ----

-- the answer of a node to an actor
abbrev pub MayAnswer : ℕ → Who → Option Body → Type 0
MayAnswer n to None = Unit {0}
MayAnswer n to (Some b) = Fits (whos.Node n) to b

pub record IsHandled (n : ℕ) (to : Who) (h : Handled) : Type 0 where
  pub op : MayKeep last_handed_out h.op
  pub answer : MayAnswer n to h.answer

-- what a look makes a node do
abbrev pub IsTicked : Ticked → Type 0
IsTicked (Cleans epoch y) = IsEpoch epoch × IsSummary epoch y
IsTicked Rebuilt = Unit {0}
IsTicked (Asks from) = (1 ≤ from) × Is64 from
IsTicked Nothing = Unit {0}
