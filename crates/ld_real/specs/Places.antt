-- Where nodes are dialed.
use Rattle.std.specs.Prelude.{◌==◌, ℕ, List, [], ◌∷◌, Option, None, Some, if◌then◌else◌}
use Rattle.ld_real.specs.declared.places.DialAddress.{DialAddress}

-- the first address that is said of the node
abbrev pub address_of : List DialAddress → ℕ → Option (List ℕ)
address_of [] node = None
address_of (a ∷ others) node = if a.node == node then Some a.address.now else address_of others node
