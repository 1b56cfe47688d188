-- What a sequencer holds and what it sends, within what a frame can carry.
use Rattle.std.specs.Prelude.{ℕ, ◌≡◌, ◌≤◌, ◌-◌, false, List, length}
use Rattle.std.specs.List.{AllByRecursion}
use Rattle.ld_lsn.specs.Number.{epoch_of, esn_of, last_esn}
use Rattle.ld_ids.specs.Id.{IsNode, IsLog}
use Rattle.ld_ids.specs.declared.set.Spec.{Spec}
use Rattle.ld_ids.specs.Choice.{nodes_of}
use Rattle.ld_msg.specs.declared.msg.Who.TheVariants as whos
use Rattle.ld_msg.specs.declared.msg.Body.{Body}
use Rattle.ld_msg.specs.Bounds.{IsLng, Is64, IsSummary, IsShort, IsKept, AreEntries, Fits, last_place}
use Rattle.ld_msg.specs.Digest.{Told}
use Rattle.ld_msg.specs.Sequencer.{Append, Planned, Storing, Stage, Seals, Stores, Closes, payload_limit}

-- an append under a number of the epoch
pub record IsAppend (epoch : ℕ) (p : ℕ × Append) : Type 0 where
  pub epoch_is : epoch_of p.0 ≡ epoch
  pub from_one : 1 ≤ esn_of p.0
  pub place : esn_of p.0 ≤ last_esn - 1
  pub short : length p.1.payload ≤ payload_limit

-- what a node told of the epoch: unless it told all, it is asked on from a number of the epoch
pub record IsTold (epoch : ℕ) (t : Told) : Type 0 where
  pub node : IsNode t.node
  pub asked : t.whole ≡ false → (epoch_of t.asked ≡ epoch) × (1 ≤ esn_of t.asked)
  pub entries : AreEntries t.entries
  pub trim : Is64 t.trim
  pub lng : IsLng t.lng

-- an item of a plan under a number of the epoch
pub record IsPlanned (epoch : ℕ) (i : ℕ × Planned) : Type 0 where
  pub epoch_is : epoch_of i.0 ≡ epoch
  pub from_one : 1 ≤ esn_of i.0
  pub place : esn_of i.0 ≤ last_place i.1.what
  pub short : IsShort i.1.what
  pub kept : IsKept i.1.what

pub record IsStoring (epoch : ℕ) (g : Storing) : Type 0 where
  pub trim : Is64 g.trim
  pub lng : IsLng g.lng
  pub end : 1 ≤ g.end
  pub end_most : g.end ≤ last_esn
  pub items : AllByRecursion (IsPlanned epoch) g.items

abbrev pub IsStage : ℕ → Stage → Type 0
IsStage epoch (Seals d) = AllByRecursion (IsTold epoch) d
IsStage epoch (Stores g) = IsStoring epoch g
IsStage epoch (Closes y short) = IsSummary epoch y

-- what goes to nodes from the sequencer of an epoch
abbrev pub Posts : ℕ → List (ℕ × Body) → Type 0
Posts own bs = AllByRecursion (λ p. Fits (whos.Sequencer own) (whos.Node p.0) p.1) bs

-- a log and its nodes have numbers that a frame can carry
pub record IsNamed (s : Spec) : Type 0 where
  pub log : IsLog s.log
  pub nodes : AllByRecursion IsNode (nodes_of s)
