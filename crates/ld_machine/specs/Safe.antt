-- What holds of every run: over the lines of its steps alone.
use Rattle.std.specs.Prelude.{ℕ, ◌≡◌, ◌≤◌, ◌<◌, ◌+◌, ◌⊎◌, true, false, List, [], ◌∷◌, take, length, filter_map, Some, slice_get}
use Rattle.ld_table.specs.Words.{how_many}
use Rattle.ld_lsn.specs.Number.{epoch_of, numbered, home_epoch}
use Rattle.ld_transcript.specs.declared.line.GapKind.{GapKind}
use Rattle.ld_transcript.specs.declared.line.GapKind.TheVariants as gaps
use Rattle.ld_transcript.specs.declared.line.Line.TheVariants as lines
use Rattle.ld_config.specs.declared.config.Config.{Config}
use Rattle.ld_batch.specs.Batch.{Messages, unpacked}
use Rattle.ld_ids.specs.Choice.{nodes_of}
use Rattle.ld_ids.specs.declared.set.Spec.{Spec}
use Rattle.ld_machine.specs.Logs.{first_spec}
use Rattle.ld_machine.specs.Facts.{Happened, Opening, opening, Writes, Appends, Acks, Issues, GivesRecord, GivesMessage, WritesBatch, GivesGap, Interval, intervals, spec_now, stands_lost, number_appended}

-- intervals that follow one another without a space, none empty and none past the end
abbrev pub TilesFrom : ℕ → ℕ → List Interval → Type 0
TilesFrom until next [] = Unit {0}
TilesFrom until next (i ∷ is) = (i.low ≡ next) × (i.low ≤ i.high) × (i.high ≤ until) × TilesFrom until (i.high + 1) is

-- what each reader got tiles the numbers from its first one on
abbrev pub ItemsTile : Config → List Happened → Type 0
ItemsTile c hs = (r : List ℕ) (o : Opening) → opening c r hs ≡ Some o → TilesFrom o.until o.from (intervals r hs)

-- a record was appended under its number before
abbrev pub RecordsWereAppended : Config → List Happened → Type 0
RecordsWereAppended c hs = (l n k : ℕ) (p : List ℕ) → GivesRecord c hs l n p k → (j : ℕ) × (j < k) × Appends hs l n p j

-- the step that gives a reader a message gives it all messages of the batch that was appended under its number before, one after the other in their order, and no other of that number
abbrev pub BatchesWereAppended : Config → List Happened → Type 0
BatchesWereAppended c hs = (l n k index : ℕ) (m : List ℕ) (g : GivesMessage c hs l n index m k) → (j : ℕ) × (p : List ℕ) × (ms : List (List ℕ)) × (j < k) × (unpacked p ≡ Messages ms) × Appends hs l n p j × WritesBatch hs k g.name n ms

-- a reader of messages gets no record that is a batch, and one of records gets no message
abbrev pub StylesAreKept : Config → List Happened → Type 0
StylesAreKept c hs = (r : List ℕ) (o : Opening) (n k : ℕ) → opening c r hs ≡ Some o →
    (o.messages ≡ true → (p : List ℕ) (ms : List (List ℕ)) → Writes hs k (lines.Record r n p) → unpacked p ≡ Messages ms → ⊥) ×
    (o.messages ≡ false → (index : ℕ) (m : List ℕ) → Writes hs k (lines.BatchMessage r n index m) → ⊥)

-- a hole or a bridge
abbrev pub SaysNone : GapKind → Type 0
SaysNone kind = (kind ≡ gaps.Hole) ⊎ (kind ≡ gaps.Bridge)

-- no hole or bridge holds a number that was acknowledged or read as a record or a message, earlier or later
abbrev pub NothingHidden : Config → List Happened → Type 0
NothingHidden c hs = (l low high n i j : ℕ) (kind : GapKind) → SaysNone kind → GivesGap c hs l kind low high i → low ≤ n → n ≤ high →
    (Acks hs l n j → ⊥) × ((p : List ℕ) → GivesRecord c hs l n p j → ⊥) × ((index : ℕ) (m : List ℕ) → GivesMessage c hs l n index m j → ⊥)

-- a trim gap ends at or below a point that was issued before
abbrev pub TrimsWereIssued : Config → List Happened → Type 0
TrimsWereIssued c hs = (l low high k : ℕ) → GivesGap c hs l gaps.Trim low high k → (j t : ℕ) × (j < k) × (high ≤ t) × Issues hs l t j

-- at the end of step k so many nodes of the epoch, as swaps had left it, stood lost as it has copies
abbrev pub Lacking : Config → List Happened → ℕ → ℕ → ℕ → Type 0
Lacking c hs l e k = (s : Spec) × (spec_now l e (take (k + 1) hs) (first_spec c l) ≡ Some s) × (s.r ≤ how_many (stands_lost l e (take (k + 1) hs)) (nodes_of s))

-- a number that is called lost had such a moment
abbrev pub LossesHappened : Config → List Happened → Type 0
LossesHappened c hs = (l low high n k : ℕ) → GivesGap c hs l gaps.DataLoss low high k → low ≤ n → n ≤ high → (j : ℕ) × (j ≤ k) × Lacking c hs l (home_epoch n) j

-- the numbers of a sequencer's appends rise
abbrev pub NumbersRise : List Happened → Type 0
NumbersRise hs = (s : List ℕ) (n m j k : ℕ) → Writes hs j (lines.Appended s n) → Writes hs k (lines.Appended s m) → j < k → n < m

-- two appends of a log don't share a number
abbrev pub NumbersDiffer : List Happened → Type 0
NumbersDiffer hs = (l n j k : ℕ) (p q : List ℕ) → Appends hs l n p j → Appends hs l n q k → j ≡ k

-- a step appends one number at most
abbrev pub OneNumber : List Happened → Type 0
OneNumber hs = (k : ℕ) (h : Happened) → slice_get hs k ≡ Some h → length (filter_map number_appended h.lines) ≤ 1

-- a number has its sequencer's epoch: the one that was told active before, and no other one was
abbrev pub NumbersHaveEpochs : List Happened → Type 0
NumbersHaveEpochs hs = (s : List ℕ) (n k : ℕ) → Writes hs k (lines.Appended s n) →
    ((j : ℕ) × (j < k) × Writes hs j (lines.Active s (epoch_of n))) × ((e j : ℕ) → Writes hs j (lines.Active s e) → e ≡ epoch_of n)

-- a number that is acknowledged was appended before
abbrev pub AcksWereAppended : List Happened → Type 0
AcksWereAppended hs = (s : List ℕ) (n k : ℕ) → Writes hs k (lines.Acked s n) → (j : ℕ) × (j < k) × Writes hs j (lines.Appended s n)

-- a released number isn't past its sequencer's epoch, which was told active before, and each number of the epoch up to it was acknowledged by then; it may be the end of an epoch before
abbrev pub ReleasesWereAcked : List Happened → Type 0
ReleasesWereAcked hs = (s : List ℕ) (n k : ℕ) → Writes hs k (lines.Released s n) →
    ((e j : ℕ) × (j < k) × Writes hs j (lines.Active s e)) ×
    ((e j : ℕ) → Writes hs j (lines.Active s e) → (epoch_of n ≤ e) × ((m : ℕ) → numbered e 1 ≤ m → m ≤ n → (i : ℕ) × (i ≤ k) × Writes hs i (lines.Acked s m)))

pub record Safe (c : Config) (hs : List Happened) : Type 0 where
  pub tiles : ItemsTile c hs
  pub records : RecordsWereAppended c hs
  pub batches : BatchesWereAppended c hs
  pub styles : StylesAreKept c hs
  pub hidden : NothingHidden c hs
  pub trims : TrimsWereIssued c hs
  pub losses : LossesHappened c hs
  pub rise : NumbersRise hs
  pub differ : NumbersDiffer hs
  pub one : OneNumber hs
  pub epochs : NumbersHaveEpochs hs
  pub acked : AcksWereAppended hs
  pub released : ReleasesWereAcked hs
