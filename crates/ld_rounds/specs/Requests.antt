-- What a sequencer that is driven is asked for, and when.
use Rattle.std.specs.Prelude.{ℕ, ◌≡◌, ◌+◌, ◌==◌, ◌&&◌, List, Bool, true, false, not, Option, None, Some}
use Rattle.ld_table.specs.Named.{find_named}
use Rattle.ld_table.specs.Words.{all_of}
use Rattle.ld_schedule.specs.declared.event.Event.{Event}
use Rattle.ld_schedule.specs.declared.event.Event.TheVariants as events
use Rattle.ld_msg.specs.Sequencer.{Sequencer, is_acked}
use Rattle.ld_machine.specs.State.{State}
use Rattle.ld_rounds.specs.declared.request.Request.{Request}
use Rattle.ld_rounds.specs.declared.request.Request.TheVariants as asks

-- what is asked for, as an event of the sequencer of the name
abbrev pub request_event : List ℕ → Request → Event
request_event name (asks.Append payload) = events.Append name payload
request_event name (asks.Trim point) = events.Trim name point

-- ---- when a trim comes ----

-- it has each append acknowledged, and each epoch before its own closed
abbrev pub has_settled : Sequencer → Bool
has_settled q = all_of (λ p. is_acked q.spec p.1) q.appends && (q.lce + 1 == q.epoch)

abbrev pub settled_one : Option Sequencer → Bool
settled_one None = true
settled_one (Some q) = has_settled q

-- so has the sequencer of the name, where there is one
abbrev pub settled_at : List ℕ → State → Bool
settled_at name s = settled_one (find_named name s.sequencers)

-- an append may come at any time; a trim waits until all is settled, as that is or isn't
abbrev pub has_to_wait : Request → Bool → Bool
has_to_wait (asks.Append payload) settled = false
has_to_wait (asks.Trim point) settled = not settled

-- the one that is held has to wait
abbrev pub is_waiting : Option Request → Bool → Bool
is_waiting None settled = false
is_waiting (Some request) settled = has_to_wait request settled

-- in this state the event is a request to the sequencer of the name, and comes when it may
abbrev pub IsRequestBy : List ℕ → State → Event → Type 0
IsRequestBy name s (events.Append n payload) = n ≡ name
IsRequestBy name s (events.Trim n point) = (n ≡ name) × (settled_at name s ≡ true)
IsRequestBy name s _ = ⊥
