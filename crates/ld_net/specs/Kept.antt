-- What is kept of the messages, in the order in which they were sent.
use Rattle.std.specs.Prelude.{ℕ, ◌≡◌, ◌≤◌, ◌<◌, ◌+◌, Bool, true, false, List, [], ◌∷◌, map, length, drop, get_or, reverse, if◌then◌else◌}
use Rattle.ld_msg.specs.declared.msg.Msg.{Msg}
use Rattle.ld_msg.specs.Network.{Network}
use Rattle.ld_net.specs.declared.net.Sent.{Sent}

-- the places of the flags that are set, from this place on
abbrev pub places : ℕ → List Bool → List ℕ
places k [] = []
places k (b ∷ flags) = if b then k ∷ places (k + 1) flags else places (k + 1) flags

abbrev pub messages : List Sent → List Msg
messages kept = map (λ s. s.msg) kept

abbrev pub flags : List Sent → List Bool
flags kept = map (λ s. s.is_new) kept

abbrev pub network : List Sent → Network
network kept = record { sent = reverse (messages kept); count = length kept; fresh = places 0 (flags kept) }

-- no message before this place is new
pub record IsBefore (new : List Bool) (first : ℕ) : Type 0 where
  pub within : first ≤ length new
  pub before : places 0 new ≡ places first (drop first new)

-- nor is there one at this place that isn't
pub record IsFirst (new : List Bool) (first : ℕ) : Type 0 where
  pub passed : IsBefore new first
  pub here : first < length new → get_or new first false ≡ true
