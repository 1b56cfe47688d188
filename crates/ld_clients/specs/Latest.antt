-- A log's sequencer of the greatest epoch.
use Rattle.std.specs.Prelude.{ℕ, ◌==◌, List, [], ◌∷◌, Option, Some, None, nat_lt, if◌then◌else◌, slice_get}
use Rattle.ld_msg.specs.Sequencer.{Sequencer}
use Rattle.ld_clients.specs.declared.client.Client.{Client}
use Rattle.ld_clients.specs.Serving.{log_in, epoch_in}

-- the one of the greater epoch
abbrev pub later_client : Option (List ℕ × Client) → List ℕ × Client → Option (List ℕ × Client)
later_client None k = Some k
later_client (Some p) k = if nat_lt (epoch_in p.1) (epoch_in k.1) then Some k else Some p

-- the log's one of the greatest epoch, dropped or not
abbrev pub last_client : ℕ → Option (List ℕ × Client) → List (List ℕ × Client) → Option (List ℕ × Client)
last_client l found [] = found
last_client l found (k ∷ ks) = last_client l (if log_in k.1 == l then later_client found k else found) ks

-- the name of a sequencer, where it is there and wasn't dropped
abbrev pub live_of : Option (List ℕ × Sequencer) → Option (List ℕ)
live_of None = None
live_of (Some q) = if q.1.gone then None else Some q.0

-- the one of a place
abbrev pub client_at : Option (ℕ × ℕ) → List (List ℕ × Client) → Option (List ℕ × Client)
client_at None ks = None
client_at (Some last) ks = slice_get ks last.0

-- the offset and the epoch of the one of the greater epoch
abbrev pub or_later : Option (ℕ × ℕ) → ℕ → ℕ → Option (ℕ × ℕ)
or_later None place e = Some (place, e)
or_later (Some last) place e = if nat_lt last.1 e then Some (place, e) else Some last

abbrev pub later_at : ℕ → Option (ℕ × ℕ) → ℕ → Client → Option (ℕ × ℕ)
later_at l last place k = if log_in k == l then or_later last place (epoch_in k) else last
