-- Where the sequencers of the epochs of logs stand in the order of activation.
use Rattle.std.specs.Prelude.{ℕ, suc, ◌≡◌, ◌==◌, ◌&&◌, Bool, List, [], ◌∷◌, Option, Some, None, option_map, if◌then◌else◌}
use Rattle.std.specs.Map as map
use Rattle.ld_clients.specs.Serving.{log_in, epoch_in, AreWhole}
use Rattle.ld_clients.specs.declared.client.Client.{Client}

-- it is of that epoch of the log
abbrev pub serves : ℕ → ℕ → Client → Bool
serves l epoch k = (log_in k == l) && (epoch_in k == epoch)

-- the place of the first that is
abbrev pub place_in : ℕ → ℕ → List (List ℕ × Client) → Option ℕ
place_in l epoch [] = None
place_in l epoch (k ∷ ks) = if serves l epoch k.1 then Some 0 else option_map suc (place_in l epoch ks)

-- the place that is kept of the epoch of the log
abbrev pub kept_place : ℕ → ℕ → List ((ℕ × ℕ) × ℕ) → Option ℕ
kept_place l epoch m = map.lookup (λ k. (l == k.0) && (epoch == k.1)) m

-- what is fixed for the epoch of each is its log's, and the places that are kept are those of the first of each epoch of each log
pub record AreServed (ks : List (List ℕ × Client)) (m : List ((ℕ × ℕ) × ℕ)) : Type 0 where
  pub whole : AreWhole ks
  pub places : (l epoch : ℕ) → kept_place l epoch m ≡ place_in l epoch ks
