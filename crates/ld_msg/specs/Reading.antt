-- What a reader makes of the answers that it holds.
use Rattle.std.specs.Prelude.{ℕ, max, List, [], ◌∷◌, flat_map, filter, Option, Some, None, is_some, Bool, true, false, ◌&&◌, ◌||◌, not, ◌==◌, nat_lt, nat_le, if◌then◌else◌}
use Rattle.ld_table.specs.Table.{find}
use Rattle.ld_table.specs.Words.{is_in, all_of, any_of, or_else}
use Rattle.ld_lsn.specs.Number.{home_epoch, epoch_end}
use Rattle.ld_msg.specs.declared.msg.What.{What}
use Rattle.ld_msg.specs.declared.msg.What.TheVariants.{Rec, Hole, Plug, Withheld}
use Rattle.ld_msg.specs.declared.msg.Entry.{Entry}
use Rattle.ld_msg.specs.declared.msg.Body.{Body}
use Rattle.ld_msg.specs.declared.msg.Body.TheVariants as bodies

-- one node's answer, and the round that it is of
pub record Held : Type 0 where
  pub round : ℕ
  pub body : Body

-- what a reader is given next
pub data Item : Type 0 where
  TrimTo : (last : ℕ) → Item
  RecordHere : (payload : List ℕ) → Item
  HoleHere : Item
  BridgeTo : (last : ℕ) → Item
  LossHere : Item
  LossTo : (last : ℕ) → Item

-- an item, or the lost nodes with their generations that are to be asked once more, or a round in which every node sends payloads, or nothing
pub data Verdict : Type 0 where
  Gives : (item : Item) → Verdict
  Confirms : (lost : List (ℕ × ℕ)) → Verdict
  AsksAll : Verdict
  NotYet : Verdict

-- ---- trims ----
abbrev pub trim_told : Body → ℕ
trim_told (bodies.ReadTrim round from trim) = trim
trim_told _ = 0

abbrev pub trim_held : List (ℕ × Held) → ℕ
trim_held [] = 0
trim_held (h ∷ hs) = max (trim_told h.1.body) (trim_held hs)

-- ---- records, holes and plugs ----
abbrev pub entry_at : ℕ → List Entry → Option What
entry_at s [] = None
entry_at s (e ∷ es) = if e.number == s then Some e.what else entry_at s es

abbrev pub page_at : ℕ → Body → Option What
page_at s (bodies.ReadPage round from upto clean entries) = entry_at s entries
page_at s _ = None

abbrev pub record_of : Option What → Option (List ℕ)
record_of (Some (Rec p)) = Some p
record_of _ = None

abbrev pub is_hole : Option What → Bool
is_hole (Some Hole) = true
is_hole _ = false

abbrev pub is_plug : Option What → Bool
is_plug (Some Plug) = true
is_plug _ = false

-- the lowest node's record
abbrev pub record_held : ℕ → List (ℕ × Held) → Option (List ℕ)
record_held s [] = None
record_held s (h ∷ hs) = or_else (record_of (page_at s h.1.body)) (record_held s hs)

abbrev pub hole_held : ℕ → List (ℕ × Held) → Bool
hole_held s hs = any_of (λ h. is_hole (page_at s h.1.body)) hs

abbrev pub plug_held : ℕ → List (ℕ × Held) → Bool
plug_held s hs = any_of (λ h. is_plug (page_at s h.1.body)) hs

abbrev pub is_withheld : Option What → Bool
is_withheld (Some Withheld) = true
is_withheld _ = false

abbrev pub withheld_held : ℕ → List (ℕ × Held) → Bool
withheld_held s hs = any_of (λ h. is_withheld (page_at s h.1.body)) hs

-- a page, clean or not, covers the number and lacks it; or the node is lost
abbrev pub sends_nothing : ℕ → Body → Bool
sends_nothing s (bodies.ReadPage round from upto clean entries) = (nat_le from s && nat_le s upto) && not (is_some (entry_at s entries))
sends_nothing s (bodies.LostHere number round generation end) = true
sends_nothing s _ = false

abbrev pub sent_nothing : ℕ → ℕ → Option Held → Bool
sent_nothing round s None = false
sent_nothing round s (Some h) = (h.round == round) && sends_nothing s h.body

-- the node that is to send a number, as far as there is one, sent nothing of it in a round
abbrev pub lacks_copy : ℕ → ℕ → Option ℕ → List (ℕ × Held) → Bool
lacks_copy round s None hs = false
lacks_copy round s (Some y) hs = sent_nothing round s (find y hs)

-- ---- bridges ----

-- an end at or below the number, and whether what follows it is lost
abbrev pub end_shown : ℕ → Body → Option Bool
end_shown s (bodies.ReadEnded round from end loss) = if (home_epoch end == home_epoch s) && nat_le end s then Some loss else None
end_shown s _ = None

-- the lowest node's end
abbrev pub end_held : ℕ → List (ℕ × Held) → Option Bool
end_held s [] = None
end_held s (h ∷ hs) = or_else (end_shown s h.1.body) (end_held s hs)

-- the last number of a bridge: the end of the epoch
abbrev pub bridge_to : ℕ → ℕ
bridge_to s = epoch_end (home_epoch s)

-- ---- losses ----

-- a clean page covers the number and lacks it
abbrev pub lacks : ℕ → Body → Bool
lacks s (bodies.ReadPage round from upto clean entries) = clean && ((nat_le from s && nat_le s upto) && not (is_some (entry_at s entries)))
lacks s _ = false

-- the node is lost for the number's epoch
abbrev pub is_lost_for : ℕ → Body → Bool
is_lost_for s (bodies.LostHere number round generation end) = home_epoch number == home_epoch s
is_lost_for s _ = false

-- a lost node knows an end above the number; so does each clean page that covers it
abbrev pub knows_end_above : ℕ → Body → Bool
knows_end_above s (bodies.LostHere number round generation end) = (home_epoch number == home_epoch s) && nat_lt s end
knows_end_above s b = lacks s b

abbrev pub leaves_open : ℕ → Option Held → Bool
leaves_open s None = false
leaves_open s (Some h) = lacks s h.body || is_lost_for s h.body

abbrev pub lost_generation : ℕ → ℕ → Body → List (ℕ × ℕ)
lost_generation s y (bodies.LostHere number round generation end) = if home_epoch number == home_epoch s then (y, generation) ∷ [] else []
lost_generation s y _ = []

-- the answers of the nodes of a set
abbrev pub within : List ℕ → List (ℕ × Held) → List (ℕ × Held)
within set hs = filter (λ h. is_in h.0 set) hs

-- the nodes that are lost for the number, with their generations
abbrev pub lost_held : ℕ → List (ℕ × Held) → List (ℕ × ℕ)
lost_held s hs = flat_map (λ h. lost_generation s h.0 h.1.body) hs

-- each node of the set misses the number or is lost, one of them at least is lost, and one at least knows an end above it
unfoldable pub is_loss : ℕ → List ℕ → List (ℕ × Held) → Bool
is_loss s set hs = (all_of (λ y. leaves_open s (find y hs)) set && any_of (λ h. is_lost_for s h.1.body) (within set hs)) && any_of (λ h. knows_end_above s h.1.body) (within set hs)

-- ---- the table ----
abbrev pub loss_verdict : ℕ → Bool → List ℕ → List (ℕ × Held) → Verdict
loss_verdict s may_confirm set hs = if may_confirm && is_loss s set hs then Confirms (lost_held s (within set hs)) else NotYet

abbrev pub entry_verdict : Option (List ℕ) → Bool → Bool → Verdict → Verdict
entry_verdict (Some p) hole plug other = Gives (RecordHere p)
entry_verdict None true plug other = Gives HoleHere
entry_verdict None false true other = Gives LossHere
entry_verdict None false false other = other

abbrev pub end_verdict : ℕ → Option Bool → Verdict → Verdict
end_verdict s None other = other
end_verdict s (Some loss) other = Gives (if loss then LossTo (bridge_to s) else BridgeTo (bridge_to s))

-- a number that others withhold and its sender lacks is asked of all; misses tells whether the sender lacks it
abbrev pub copy_verdict : Bool → Bool → Verdict → Verdict
copy_verdict withheld misses other = if withheld && misses then AsksAll else other

-- the first that holds: a trim, a record, a hole, a plug, a copy to ask of all, an end, a loss to confirm
unfoldable pub decide : ℕ → Bool → Bool → List ℕ → List (ℕ × Held) → Verdict
decide s misses may_confirm set hs =
    if nat_le s (trim_held hs) then Gives (TrimTo (trim_held hs))
    else entry_verdict (record_held s hs) (hole_held s hs) (plug_held s hs) (copy_verdict (withheld_held s hs) misses (end_verdict s (end_held s hs) (loss_verdict s may_confirm set hs)))
