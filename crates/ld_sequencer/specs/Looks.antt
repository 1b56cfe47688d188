-- What looks of a register show of an epoch whose recovery begins, and of one whose nodes have told all that they can.
use Rattle.std.specs.Prelude.{ℕ, ◌≡◌, ◌≤◌, ◌+◌, ◌-◌, ◌^◌, Bool, true, false, ◌==◌, Option, Some, None, Ok, Err, nat_lt, if◌then◌else◌}
use Rattle.std.specs.declared.result.Result.{Result}
use Rattle.ld_ids.specs.declared.set.Spec.{Spec}
use Rattle.ld_msg.specs.declared.msg.Summary.{Summary}
use Rattle.ld_msg.specs.Bounds.{IsSummary}
use Rattle.ld_msg.specs.Register.{Register, View}
use Rattle.ld_register.specs.declared.register.Grant.{Grant}
use Rattle.ld_register.specs.Bounds.{IsSpecFor}
use Rattle.ld_register.specs.Calls.{activated}
use Rattle.ld_sequencer.specs.declared.fault.SequencerFault.{SequencerFault}
use Rattle.ld_sequencer.specs.declared.look.Seen.{Seen}
use Rattle.ld_sequencer.specs.declared.look.Seen.TheVariants as seen

-- each epoch has these nodes, factor and extras and this summary, and this is the greatest one: of what is shown only these count
abbrev pub sees : ℕ → Option Summary → Spec → ℕ → View
sees kept summary s e = record { at = e; epoch = kept; lce = 0; swaps = 0; summary = summary; spec = s }

-- of what is shown only the nodes, the factor and the extras count
abbrev pub shows : Spec → ℕ → View
shows s = sees 0 None s

-- two looks show the same of an epoch
abbrev pub AreAlike : (ℕ → View) → (ℕ → View) → ℕ → Type 0
AreAlike looks others e = ((looks e).at ≡ (others e).at) × ((looks e).spec ≡ (others e).spec)

-- a grant that is the one that these contents give next, where they give one
abbrev pub IsForeseen : Register → Spec → Grant → Type 0
IsForeseen c s expected = (grant : Grant) → Ok grant ≡ activated c s → grant ≡ expected

-- what looks show of the epoch, where there is one
abbrev pub IsShown : (ℕ → View) → Option ℕ → Spec → Type 0
IsShown looks epoch next = (e : ℕ) → epoch ≡ Some e → AreAlike (shows next) looks e

-- ---- an epoch whose nodes have told all that they can ----

-- the epoch behind it, where that is before the sequencer's own
abbrev pub behind : ℕ → ℕ → Option ℕ
behind epoch own = if nat_lt (epoch + 1) own then Some (epoch + 1) else None

-- what was seen of it, as looks show it
abbrev pub looks_with : Spec → Seen → ℕ → View
looks_with first (seen.Closed y next) = sees 0 (Some y) next
looks_with first (seen.Open kept) = sees kept None first

-- looks show so of it
abbrev pub IsSeen : (ℕ → View) → ℕ → ℕ → Seen → Type 0
IsSeen looks epoch own (seen.Closed y next) = ((looks epoch).summary ≡ Some y) × IsShown looks (behind epoch own) next
IsSeen looks epoch own (seen.Open kept) = ((looks epoch).summary ≡ None) × ((looks epoch).epoch ≡ kept)

-- what may be seen of an epoch of the log
abbrev pub MayBeSeen : ℕ → ℕ → Seen → Type 0
MayBeSeen log epoch (seen.Closed y next) = IsSummary epoch y × IsSpecFor log next
MayBeSeen log epoch (seen.Open kept) = kept ≤ 2 ^ 32 - 2

-- what is to be planned by the sequencer of an epoch, or asked about again, goes into the recovery
abbrev pub is_counted : ℕ → Result Seen SequencerFault → Bool
is_counted own (Ok (seen.Closed y next)) = false
is_counted own (Ok (seen.Open kept)) = kept == own
is_counted own (Err fault) = true
