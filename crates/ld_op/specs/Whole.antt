-- Up to where nothing is missing.
use Rattle.std.specs.Prelude.{◌≡◌, ◌≤◌, ◌<◌, ◌^◌, ℕ, false, Some, None, is_none}
use Rattle.ld_table.specs.Table.{find}
use Rattle.ld_lsn.specs.Number.{numbered}
use Rattle.ld_msg.specs.declared.msg.Entry.{Entry}
use Rattle.ld_msg.specs.declared.msg.Summary.{Summary}
use Rattle.ld_op.specs.Plain.{Log}

-- the number stands above the trim and below the end of this clean epoch, which was lost, and has no entry
abbrev pub Lacks : Log → ℕ → Summary → ℕ → Type 0
Lacks g epoch y n = (epoch ≤ g.lost_to) × ((numbered epoch 1 ≤ n) × ((g.trim < n) × ((n < numbered epoch y.end) × (find n g.entries ≡ None))))

-- no number below this one is missing
abbrev pub IsWhole : Log → ℕ → Type 0
IsWhole g to = (epoch : ℕ) (y : Summary) (n : ℕ) → find epoch g.summaries ≡ Some y → Lacks g epoch y n → to ≤ n

-- no number is missing
abbrev pub HasAll : Log → Type 0
HasAll g = (epoch : ℕ) (y : Summary) (n : ℕ) → find epoch g.summaries ≡ Some y → Lacks g epoch y n → ⊥

-- the number is missing, and none below it
pub record IsLowest (g : Log) (n : ℕ) : Type 0 where
  pub epoch : ℕ
  pub summary : Summary
  pub clean : find epoch g.summaries ≡ Some summary
  pub lacks : Lacks g epoch summary n
  pub whole : IsWhole g n

-- each entry stands under its own number
abbrev pub AreNumbered : Log → Type 0
AreNumbered g = (n : ℕ) (e : Entry) → find n g.entries ≡ Some e → e.number ≡ n

-- the ends of the summaries are offsets of an epoch
abbrev pub EndInEpochs : Log → Type 0
EndInEpochs g = (epoch : ℕ) (y : Summary) → find epoch g.summaries ≡ Some y → y.end < 2 ^ 32

-- the first clean epoch from one on, where it was lost
pub record IsNext (g : Log) (from : ℕ) (s : ℕ × Summary) : Type 0 where
  pub above : from ≤ s.0
  pub lost : s.0 ≤ g.lost_to
  pub clean : find s.0 g.summaries ≡ Some s.1
  pub none : (epoch : ℕ) → from ≤ epoch → epoch < s.0 → find epoch g.summaries ≡ None

-- no clean epoch from one on was lost
abbrev pub IsLast : Log → ℕ → Type 0
IsLast g from = (epoch : ℕ) → from ≤ epoch → epoch ≤ g.lost_to → find epoch g.summaries ≡ None

-- the numbers of an epoch from one on, above the trim and below another, have entries
abbrev pub HaveEntries : Log → ℕ → ℕ → ℕ → Type 0
HaveEntries g from epoch below = (n : ℕ) → from ≤ n → numbered epoch 1 ≤ n → g.trim < n → n < below → is_none (find n g.entries) ≡ false

-- the first one without an entry
pub record IsFirstIn (g : Log) (start epoch : ℕ) (y : Summary) (n : ℕ) : Type 0 where
  pub from : start ≤ n
  pub first : numbered epoch 1 ≤ n
  pub above : g.trim < n
  pub below : n < numbered epoch y.end
  pub none : find n g.entries ≡ None
  pub entries : HaveEntries g start epoch n
