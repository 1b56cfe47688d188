-- The appends of an epoch from the first one on that isn't acknowledged.
use Rattle.std.specs.Prelude.{ℕ, ◌≡◌, ◌≤◌, ◌+◌, ◌^◌, Bool, true, false, not, set, if◌then◌else◌, ◌-◌, ◌&&◌, List, [], ◌∷◌, ◌++◌, map, drop, length, Option, Some, None}
use Rattle.ld_table.specs.Table.{put}
use Rattle.ld_table.specs.Words.{all_of}
use Rattle.ld_ids.specs.declared.set.Spec.{Spec}
use Rattle.ld_lsn.specs.Number.{numbered}
use Rattle.ld_window.specs.Flags.{leading}
use Rattle.ld_appender.specs.Waiting.{Waiting, is_enough, with_next_wave}
use Rattle.ld_msg.specs.Sequencer.{Append, fresh_append, is_acked, stored_at, acked_first, unacked_from, raised, payload_limit}

-- an epoch with what is fixed for it, the last number such that it and all below are acknowledged, and the appends above it by number
pub record Row : Type 0 where
  pub spec : Spec
  pub epoch : ℕ
  pub lng : ℕ
  pub appends : List (ℕ × Append)

-- the values under numbers from this one on
abbrev pub numbered_from : {X : Type 0} → ℕ → List X → List (ℕ × X)
numbered_from n [] = []
numbered_from n (x ∷ xs) = (n, x) ∷ numbered_from (n + 1) xs

abbrev pub carried : List Waiting → List Append
carried ws = map (λ w. w.append) ws

abbrev pub shown : Spec → ℕ → List Bool → List Waiting → Row
shown spec epoch flags ws = record { spec = spec; epoch = epoch; lng = leading flags; appends = numbered_from (numbered epoch (leading flags + 1)) (carried ws) }

-- an append is to be stored as often as the epoch's factor says, and its payload is one that a message can carry
pub record IsWaiting (r : ℕ) (w : Waiting) : Type 0 where
  pub factor : w.factor ≡ r
  pub short : length w.append.payload ≤ payload_limit

abbrev pub AreWaiting : ℕ → List Waiting → Type 0
AreWaiting r [] = Unit {0}
AreWaiting r (w ∷ ws) = IsWaiting r w × AreWaiting r ws

-- the flags of the window above its last number are those of the appends
pub record IsInStep (r : ℕ) (flags : List Bool) (ws : List Waiting) : Type 0 where
  pub waiting : AreWaiting r ws
  pub marks : drop (leading flags) flags ≡ map is_enough ws
  pub bound : length flags ≤ 2 ^ 32 - 2
  pub copies : 1 ≤ r

-- each is stored as often as the epoch's factor says
abbrev pub all_acked : Spec → List (ℕ × Append) → Bool
all_acked s m = all_of (λ p. is_acked s p.1) m

-- ---- changes ----

abbrev pub empty_row : Spec → ℕ → Row
empty_row spec epoch = record { spec = spec; epoch = epoch; lng = 0; appends = [] }

-- the next append's offset in the epoch
abbrev pub next_place : Row → ℕ
next_place r = r.lng + length r.appends + 1

abbrev pub pushed : Row → List ℕ → Row
pushed r payload = record r { appends = r.appends ++ (numbered r.epoch (next_place r), fresh_append payload) ∷ [] }

abbrev pub with_append : Row → ℕ → Append → Row
with_append r n p = record r { appends = unacked_from r.spec (put n p r.appends); lng = r.lng + acked_first r.spec (put n p r.appends) }

-- a node stored what is under the number, if it waits
abbrev pub stores : Row → ℕ → ℕ → Option Append → Row
stores r y n None = r
stores r y n (Some p) = with_append r n (stored_at p y)

abbrev pub acks : Spec → ℕ → Option Append → Bool
acks s y None = false
acks s y (Some p) = not (is_acked s p) && is_acked s (stored_at p y)

abbrev pub raises : Row → Row
raises r = record r { appends = raised r.spec r.appends }

-- the flags with one more set, where that is so
abbrev pub flags_after : Bool → ℕ → List Bool → List Bool
flags_after b at flags = if b then set flags at true else flags

-- an append that isn't stored often enough goes to its next wave
abbrev pub raised_one : Waiting → Waiting
raised_one w = if is_enough w then w else with_next_wave w
