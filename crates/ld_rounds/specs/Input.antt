-- Requests that come one after the other.
use Rattle.std.specs.Prelude.{ℕ, ◌≡◌, List, [], ◌∷◌, Option, None, Some, Bool}
use Rattle.std.specs.declared.result.Result.{Result}
use Rattle.std.specs.declared.result.Result.TheVariants.{Ok, Err}
use Rattle.ld_io.specs.Causes.{Rose}
use Rattle.ld_rounds.specs.Lines.{IsOffRequest}
use Rattle.ld_rounds.specs.declared.payloads.InputFault.{InputFault}
use Rattle.ld_rounds.specs.declared.payloads.InputFault.TheVariants as faults
use Rattle.ld_rounds.specs.declared.request.Request.{Request}

-- a line with a syntax error: its number, the bytes from it on, and whether it was to spell the messages of a batch
pub record OffLine : Type 0 where
  pub number : ℕ
  pub bytes : List ℕ
  pub batches : Bool

-- the requests of the lines that are still to come, and behind them the end of the input, or the first line with a syntax
-- error
pub record Input : Type 0 where
  pub requests : List Request
  pub off : Option OffLine

-- nothing is still to come
abbrev pub all_taken : Input
all_taken = record { requests = []; off = None }

-- the next request was taken
pub record GivesNext (old : Input) (new : Option Input) (request : Request) : Type 0 where
  pub rest : List Request
  pub first : old.requests ≡ request ∷ rest
  pub left : new ≡ Some (record { requests = rest; off = old.off })

-- behind all requests comes a line with a syntax error, at this place
pub record ComesTo (old : Input) (line place : ℕ) : Type 0 where
  pub rest : List ℕ
  pub batches : Bool
  pub off : old.off ≡ Some (record { number = line; bytes = rest; batches = batches })
  pub at : IsOffRequest batches rest place

-- it comes next
pub record IsOff (old : Input) (line place : ℕ) : Type 0 where
  pub none : old.requests ≡ []
  pub off : ComesTo old line place

abbrev pub GivesOf : Input → Option Input → Result (Option Request) InputFault → Type 0
GivesOf old new (Ok (Some request)) = GivesNext old new request
GivesOf old new (Ok None) = (old ≡ all_taken) × (new ≡ Some all_taken)
GivesOf old new (Err (faults.BadLine line place)) = IsOff old line place
GivesOf old new (Err _) = Unit {0}

abbrev pub Gives : Option Input → Option Input → Result (Option Request) InputFault → Type 0
Gives None new result = Unit {0}
Gives (Some old) new result = GivesOf old new result

-- a read failed, where that is said
abbrev pub IsReadFault : ℕ → ℕ → InputFault → Type 0
IsReadFault before now faults.Read = Rose before now
IsReadFault before now _ = Unit {0}
