-- What is fed to a sequencer that is driven, and why its drive ends.
use Rattle.std.specs.Prelude.{ℕ, ◌≡◌, ◌≢◌, List, [], ◌∷◌, ◌++◌, Option, None, Some, Bool, true, false, IfSome}
use Rattle.std.specs.declared.result.Result.{Result}
use Rattle.std.specs.declared.result.Result.TheVariants.{Ok, Err}
use Rattle.ld_io.specs.Causes.{Rose}
use Rattle.ld_rounds.specs.declared.ended.Ended.{Ended}
use Rattle.ld_rounds.specs.declared.ended.Ended.TheVariants as ends
use Rattle.ld_rounds.specs.declared.request.Request.{Request}
use Rattle.ld_rounds.specs.Endings.{IsEnding}
use Rattle.ld_rounds.specs.Input.{Input, all_taken, GivesNext, ComesTo, IsOff}

-- ---- what is still to come ----

-- the request that is held comes first
abbrev pub upcoming : Option Request → Option Input → Option Input
upcoming None coming = coming
upcoming (Some request) None = None
upcoming (Some request) (Some input) = Some (record input { requests = request ∷ input.requests })

-- what the next one is
abbrev pub NextIs : Option Input → Option Input → Result (Option Request) Ended → Type 0
NextIs None new result = Unit {0}
NextIs (Some old) new (Ok (Some request)) = GivesNext old new request
NextIs (Some old) new (Ok None) = (old ≡ all_taken) × (new ≡ Some all_taken)
NextIs (Some old) new (Err (ends.BadLine line place)) = IsOff old line place
NextIs (Some old) new (Err _) = Unit {0}

-- some of the requests are still to come, and behind them the same as before
pub record IsAhead (old : Input) (new : Option Input) : Type 0 where
  pub left : Input
  pub now : new ≡ Some left
  pub front : List Request
  pub requests : old.requests ≡ front ++ left.requests
  pub off : left.off ≡ old.off

abbrev pub SameBehind : Option Input → Option Input → Type 0
SameBehind None new = Unit {0}
SameBehind (Some old) new = IsAhead old new

-- the same is still to come
abbrev pub StaysAs : Option Input → Option Input → Type 0
StaysAs None new = Unit {0}
StaysAs (Some old) new = new ≡ Some old

-- a request came
abbrev pub HasCome : Option Input → Type 0
HasCome None = Unit {0}
HasCome (Some input) = input.requests ≢ []

-- where it is told what came first, nothing more comes
abbrev pub NoneComes : Option Input → Option Input → Type 0
NoneComes None coming = Unit {0}
NoneComes (Some origin) coming = coming ≡ Some all_taken

-- where the input has ended nothing more comes
abbrev pub WasOver : Option Input → Bool → Option Input → Type 0
WasOver origin false coming = Unit {0}
WasOver origin true coming = NoneComes origin coming

-- ---- why the drive ends ----

-- this line is off behind all requests, at this place, where that is told
abbrev pub IsOffBehind : Option Input → ℕ → ℕ → Type 0
IsOffBehind coming line place = IfSome coming (λ input. ComesTo input line place)

-- by its input, whose counts of faults were and are these
abbrev pub IsInputEnding : Option Input → ℕ → ℕ → Ended → Type 0
IsInputEnding coming before now ends.Read = Rose before now
IsInputEnding coming before now (ends.BadLine line place) = IsOffBehind coming line place
IsInputEnding coming before now ends.NoMemory = Unit {0}
IsInputEnding coming before now _ = ⊥

-- by its input, whose counts are the first two, or as a round does
abbrev pub IsAppendEnding : Option Input → ℕ → ℕ → ℕ → ℕ → Option (List ℕ) → Option (List ℕ) → Ended → Type 0
IsAppendEnding coming input_before input_now before now old new ends.Read = Rose input_before input_now
IsAppendEnding coming input_before input_now before now old new (ends.BadLine line place) = IsOffBehind coming line place
IsAppendEnding coming input_before input_now before now old new ended = IsEnding before now old new ended
