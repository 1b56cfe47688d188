-- The messages of a network that a drive has still to do with: those that are new from a first place on.
use Rattle.std.specs.Prelude.{ℕ, ◌≡◌, ◌≤◌, ◌<◌, ◌+◌, ◌&&◌, ◌==◌, not, nat_le, List, [], ◌∷◌, filter, Bool, false, Option, None, Some, if◌then◌else◌}
use Rattle.ld_table.specs.Words.{any_of}
use Rattle.ld_ids.specs.Id.{IsNode}
use Rattle.ld_msg.specs.declared.msg.Who.{Who}
use Rattle.ld_msg.specs.declared.msg.Who.TheVariants as whos
use Rattle.ld_msg.specs.declared.msg.Msg.{Msg}
use Rattle.ld_msg.specs.Network.{Network, message}
use Rattle.ld_bounds.specs.Sound.{is_node}
use Rattle.ld_rounds.specs.Queued.{queue_of}

abbrev pub goes_to : ℕ → Who → Bool
goes_to y (whos.Node n) = n == y
goes_to y _ = false

-- a message of an actor that waits for a node, and an answer of a node
abbrev pub waits_for : ℕ → Msg → Bool
waits_for y m = not (is_node m.from) && goes_to y m.to

abbrev pub is_answer : Msg → Bool
is_answer m = is_node m.from

-- of messages with their places: those that are so, and all but that of a place
abbrev pub chosen : (Msg → Bool) → List (ℕ × Msg) → List Msg
chosen p [] = []
chosen p (e ∷ es) = if p e.1 then e.1 ∷ chosen p es else chosen p es

abbrev pub places_of : List (ℕ × Msg) → List ℕ
places_of [] = []
places_of (e ∷ es) = e.0 ∷ places_of es

abbrev pub without : ℕ → List (ℕ × Msg) → List (ℕ × Msg)
without i [] = []
without i (e ∷ es) = if not (i == e.0) then e ∷ without i es else without i es

-- the places rise from one on, and are below another
abbrev pub RiseBelow : ℕ → ℕ → List (ℕ × Msg) → Type 0
RiseBelow low high [] = Unit {0}
RiseBelow low high (e ∷ es) = (low ≤ e.0) × (e.0 < high) × RiseBelow (e.0 + 1) high es

abbrev pub AreAt : Network → List (ℕ × Msg) → Type 0
AreAt w [] = Unit {0}
AreAt w (e ∷ es) = (message w e.0 ≡ Some e.1) × AreAt w es

-- what is new from the first place on is what waits for each node, and the answers that weren't taken
pub record AreNews (first : ℕ) (w : Network) (queues : List (List Msg)) (answers : List Msg) : Type 0 where
  pub news : List (ℕ × Msg)
  pub from : first ≤ w.count
  pub fresh : filter (λ i. nat_le first i) w.fresh ≡ places_of news
  pub there : AreAt w news
  pub rise : RiseBelow first w.count news
  pub queued : (y : ℕ) → IsNode y → chosen (waits_for y) news ≡ queue_of queues y
  pub answers_are : chosen is_answer news ≡ answers

-- ---- waiting ----

-- such a message stands there
abbrev pub such_in : (Msg → Bool) → Option Msg → Bool
such_in p None = false
such_in p (Some m) = p m

-- whether a message that is new from the first place on waits for the node
abbrev pub one_waits : ℕ → Network → ℕ → Bool
one_waits first w y = any_of (λ i. such_in (waits_for y) (message w i)) (filter (λ i. nat_le first i) w.fresh)

-- whether one waits for any of these nodes
abbrev pub some_wait : ℕ → Network → List ℕ → Bool
some_wait first w ys = any_of (one_waits first w) ys
