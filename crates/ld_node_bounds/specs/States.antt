-- What holds of a node's plain state: its numbers are in their bounds, and its entries rise, stand under their numbers and are not withheld.
use Rattle.std.specs.Prelude.{ℕ, ◌≡◌, ◌≤◌, ◌^◌, ◌-◌}
use Rattle.std.specs.List.{AllByRecursion, AllByRecursion-prop}
use Rattle.std.specs.List.Sorted.{IsStrictlySortedBy-prop}
use Rattle.std.specs.Ordering.{nat_cmp}
use Rattle.std.specs.Map as map
use Rattle.std.specs.Coded.{Coded-set, coded_ℕ, Unit-prop, ×_prop, le_prop}
use Rattle.ld_table.specs.Table.{Ordered}
use Rattle.ld_ids.specs.Id.{IsLog}
use Rattle.ld_msg.specs.declared.msg.Entry.{Entry}
use Rattle.ld_msg.specs.declared.msg.Summary.{Summary}
use Rattle.ld_msg.specs.declared.msg.What.{What}
use Rattle.ld_msg.specs.declared.msg.What.TheVariants.{Rec, Hole, Bridge, Plug, Withheld}
use Rattle.ld_msg.specs.Bounds.{Is32, IsLng, Is64, IsEpoch, IsShort, IsEntry, IsKept, IsSummary}
use Rattle.ld_op.specs.Plain.{Log, Plain}

-- the greatest epoch that a register hands out, and the greatest number that a journal's body can carry in its place
abbrev pub last_handed_out : ℕ
last_handed_out = 2 ^ 32 - 2

abbrev pub last_carried : ℕ
last_carried = 2 ^ 32 - 1

-- an entry under its own number, with its payload where it is a record
pub record IsStored (e : ℕ × Entry) : Type 0 where
  pub number : e.1.number ≡ e.0
  pub entry : IsEntry e.1
  pub kept : IsKept e.1.what

-- a summary under the epoch that it closes
pub record IsClosed (y : ℕ × Summary) : Type 0 where
  pub epoch : IsEpoch y.0
  pub summary : IsSummary y.0 y.1

-- a last known good offset that was told of an epoch
abbrev pub IsGood : ℕ × ℕ → Type 0
IsGood m = IsLng m.1

-- the ballot that seals it, and the epoch up to which it is lost, are at most this one
pub record IsLogState (most : ℕ) (g : Log) : Type 0 where
  pub sealed : g.sealed ≤ most
  pub trim : Is64 g.trim
  pub rise : Ordered g.entries
  pub entries : AllByRecursion IsStored g.entries
  pub summaries : AllByRecursion IsClosed g.summaries
  pub lngs : AllByRecursion IsGood g.lngs
  pub lost_to : g.lost_to ≤ most

-- a log's state under its number
pub record IsLogAt (most : ℕ) (g : ℕ × Log) : Type 0 where
  pub log : IsLog g.0
  pub state : IsLogState most g.1

pub record IsPlain (most : ℕ) (p : Plain) : Type 0 where
  pub generation : Is32 p.generation
  pub logs : AllByRecursion (IsLogAt most) p.logs

-- the released number of a log
pub record IsReleased (r : ℕ × ℕ) : Type 0 where
  pub log : IsLog r.0
  pub released : Is64 r.1

-- ---- each is shown in one way at most ----

IsShort-prop : (x : What) → IsProp (IsShort x)
IsShort-prop (Rec p) = le_prop
IsShort-prop Hole = Unit-prop
IsShort-prop Bridge = Unit-prop
IsShort-prop Plug = Unit-prop
IsShort-prop Withheld = Unit-prop

IsKept-prop : (x : What) → IsProp (IsKept x)
IsKept-prop (Rec p) = Unit-prop
IsKept-prop Hole = Unit-prop
IsKept-prop Bridge = Unit-prop
IsKept-prop Plug = Unit-prop
IsKept-prop Withheld = λ a b. absurd a

IsEntry-prop : (e : Entry) → IsProp (IsEntry e)
IsEntry-prop e a b = λ i. record {
  epoch = ×_prop le_prop le_prop a.epoch b.epoch i;
  from_one = le_prop a.from_one b.from_one i;
  place = le_prop a.place b.place i;
  ballot = le_prop a.ballot b.ballot i;
  ballot_most = le_prop a.ballot_most b.ballot_most i;
  short = IsShort-prop e.what a.short b.short i;
}

IsSummary-prop : (e : ℕ) (y : Summary) → IsProp (IsSummary e y)
IsSummary-prop e y a b = λ i. record {
  ballot = le_prop a.ballot b.ballot i;
  ballot_most = le_prop a.ballot_most b.ballot_most i;
  lng = le_prop a.lng b.lng i;
  trim = le_prop a.trim b.trim i;
  end = le_prop a.end b.end i;
  end_most = le_prop a.end_most b.end_most i;
}

IsStored-prop : (e : ℕ × Entry) → IsProp (IsStored e)
IsStored-prop e a b = λ i. record {
  number = Coded-set coded_ℕ e.1.number e.0 a.number b.number i;
  entry = IsEntry-prop e.1 a.entry b.entry i;
  kept = IsKept-prop e.1.what a.kept b.kept i;
}

IsClosed-prop : (y : ℕ × Summary) → IsProp (IsClosed y)
IsClosed-prop y a b = λ i. record {
  epoch = ×_prop le_prop le_prop a.epoch b.epoch i;
  summary = IsSummary-prop y.0 y.1 a.summary b.summary i;
}

IsLogState-prop : (most : ℕ) (g : Log) → IsProp (IsLogState most g)
IsLogState-prop most g a b = λ i. record {
  sealed = le_prop a.sealed b.sealed i;
  trim = le_prop a.trim b.trim i;
  rise = IsStrictlySortedBy-prop nat_cmp (map.keys_of g.entries) a.rise b.rise i;
  entries = AllByRecursion-prop IsStored IsStored-prop g.entries a.entries b.entries i;
  summaries = AllByRecursion-prop IsClosed IsClosed-prop g.summaries a.summaries b.summaries i;
  lngs = AllByRecursion-prop IsGood (λ m. le_prop) g.lngs a.lngs b.lngs i;
  lost_to = le_prop a.lost_to b.lost_to i;
}

IsLogAt-prop : (most : ℕ) (g : ℕ × Log) → IsProp (IsLogAt most g)
IsLogAt-prop most g a b = λ i. record {
  log = ×_prop le_prop le_prop a.log b.log i;
  state = IsLogState-prop most g.1 a.state b.state i;
}

pub IsPlain-prop : (most : ℕ) (p : Plain) → IsProp (IsPlain most p)
IsPlain-prop most p a b = λ i. record {
  generation = le_prop a.generation b.generation i;
  logs = AllByRecursion-prop (IsLogAt most) (IsLogAt-prop most) p.logs a.logs b.logs i;
}
