-- The records in etcd that are known, and what was asked.
use Rattle.std.specs.Prelude.{ℕ, List, map, string_bytes}
use Rattle.ld_past.specs.Events.{Event}
use Rattle.ld_etcd.specs.declared.caller.Caller.{Caller}
use Rattle.ld_etcd.specs.declared.etcd.Etcd.{Etcd}
use Rattle.ld_etcd.specs.declared.members.Members.{Ghosts}

abbrev pub known_in : {M : Type 0} → Etcd M → List (List ℕ)
known_in r = map (λ v. v.items) r.known.items

-- what the keys of its records begin with
abbrev pub prefix_of : {M : Type 0} → Etcd M → List ℕ
prefix_of r = string_bytes r.prefix

module _ {M : Type 0} (g : Ghosts M) where
  -- the calls of its members
  abbrev pub asked_of : Caller M → List Event
  asked_of c = g.did c.members

  abbrev pub asked_in : Etcd M → List Event
  asked_in r = asked_of r.caller
