-- What passes with the peers of a crowd, and when serving one stops between two frames.
use Rattle.std.specs.Prelude.{◌≡◌, ℕ, List, [], ◌∷◌, true, Option}
use Rattle.std.specs.declared.result.Result.{Result}
use Rattle.std.specs.declared.result.Result.TheVariants.{Ok, Err}
use Rattle.ld_msg.specs.declared.msg.Msg.{Msg}
use Rattle.ld_msg.specs.Bounds.{IsMessage}
use Rattle.ld_past.specs.Events.{Event}
use Rattle.ld_wire.specs.declared.fault.WireFault.{WireFault}
use Rattle.ld_wire.specs.Frames.{frame_of}
use Rattle.ld_wire.specs.Judging.{Waits, Refused, judge}
use Rattle.ld_wire.specs.Streams.{frames_of, AreMessages}
use Rattle.ld_crowd.specs.Calls.{is_over}
use Rattle.ld_crowd.specs.Course.{Taken}
use Rattle.ld_crowd.specs.Serving.{AreWith, GoOn}
use Rattle.ld_serve.specs.declared.look.Seen.{Seen}
use Rattle.ld_serve.specs.declared.look.Seen.TheVariants as seen
use Rattle.ld_serve.specs.declared.stop.Stop.{Stop}
use Rattle.ld_serve.specs.declared.stop.Stop.TheVariants.{NoMemory, Link}

-- a message that was taken, with the answers that were given to it
abbrev pub Given : Type 0
Given = Msg × List Msg

abbrev pub AreGiven : List (Taken Given) → Type 0
AreGiven [] = Unit {0}
AreGiven (t ∷ ts) = (IsMessage t.1.0 × AreMessages t.1.1) × AreGiven ts

-- what is held is less than a frame, or begins none
abbrev pub IsLess : List ℕ → Type 0
IsLess held = judge held ≡ Waits

abbrev pub BeginsNone : List ℕ → Type 0
BeginsNone held = (fault : WireFault) × (judge held ≡ Refused fault)

abbrev pub AreServed : List Event → List (Taken Given) → Type 0
AreServed did ts = AreWith frame_of frames_of IsLess BeginsNone did ts

abbrev pub IsServing : List Event → List (Taken Given) → (ℕ → Option (List ℕ)) → Type 0
IsServing did ts now = GoOn frame_of frames_of IsLess BeginsNone did ts now

-- ---- one call after the other ----

-- how many turns a call took
abbrev pub turns_by : {E : Type 0} → Result ℕ E → ℕ
turns_by (Ok n) = n
turns_by (Err e) = 0

abbrev pub turns_looked : {E : Type 0} → Result Seen E → ℕ
turns_looked (Ok seen.Turn) = 1
turns_looked (Ok seen.More) = 0
turns_looked (Ok seen.Serve) = 0
turns_looked (Ok seen.Over) = 0
turns_looked (Err e) = 0

abbrev pub IsOver : Seen → List Event → Type 0
IsOver seen.Turn did = Unit {0}
IsOver seen.More did = Unit {0}
IsOver seen.Serve did = Unit {0}
IsOver seen.Over did = is_over did ≡ true

-- no turn was taken, and it isn't over
abbrev pub IsNoTurn : Seen → Type 0
IsNoTurn seen.More = Unit {0}
IsNoTurn seen.Serve = Unit {0}
IsNoTurn _ = ⊥

-- a call of the crowd failed, or there is no memory for what is held
abbrev pub IsBetweenStop : Stop → Type 0
IsBetweenStop NoMemory = Unit {0}
IsBetweenStop Link = Unit {0}
IsBetweenStop _ = ⊥
