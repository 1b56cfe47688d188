-- What is said over a link: to one peer after the other.
use Rattle.std.specs.Prelude.{◌≡◌, ◌<◌, ◌≤◌, ℕ, List, [], ◌∷◌, ◌++◌, length, take, drop, Bool, true, false, Option, None, Some}
use Rattle.std.specs.Option.{option_map}
use Rattle.std.specs.declared.result.Result.{Result}
use Rattle.std.specs.declared.result.Result.TheVariants.{Ok, Err}

-- what was read of a peer, what is left of it, and what was written to it
pub record Talk : Type 0 where
  pub got : List ℕ
  pub left : List ℕ
  pub sent : List ℕ

-- the peers that were there, the present one, and the bytes of those that are still to come
pub record Peers : Type 0 where
  pub past : List Talk
  pub present : Option Talk
  pub coming : List (List ℕ)

-- of a peer that has just come
abbrev pub fresh : List ℕ → Talk
fresh bytes = record { got = []; left = bytes; sent = [] }

-- n further bytes were read
abbrev pub heard : ℕ → Talk → Talk
heard n t = record { got = t.got ++ take n t.left; left = drop n t.left; sent = t.sent }

-- these bytes were written
abbrev pub said : List ℕ → Talk → Talk
said bytes t = record { got = t.got; left = t.left; sent = t.sent ++ bytes }

abbrev pub on_present : (Talk → Talk) → Peers → Peers
on_present f p = record { past = p.past; present = option_map f p.present; coming = p.coming }

-- what is left of the present peer, nothing where there is none
abbrev pub left_of : Option Talk → List ℕ
left_of None = []
left_of (Some t) = t.left

-- what there is, as a list of at most one
abbrev pub as_list : {A : Type 0} → Option A → List A
as_list None = []
as_list (Some x) = x ∷ []

-- the peer with these bytes has come, and the present one is past
abbrev pub arrived : List ℕ → List (List ℕ) → Peers → Peers
arrived bytes more p = record { past = p.past ++ as_list p.present; present = Some (fresh bytes); coming = more }

-- ---- what each call does, by what it answers ----

-- there is a next peer, and it is the present one now
pub record Comes (old : Peers) (new : Option Peers) : Type 0 where
  pub bytes : List ℕ
  pub more : List (List ℕ)
  pub first : old.coming ≡ bytes ∷ more
  pub peers : new ≡ Some (arrived bytes more old)

-- there is none
pub record Lacks (old : Peers) (new : Option Peers) : Type 0 where
  pub none : old.coming ≡ []
  pub peers : new ≡ Some old

abbrev pub Turns : {E : Type 0} → Peers → Option Peers → Result Bool E → Type 0
Turns old new (Ok true) = Comes old new
Turns old new (Ok false) = Lacks old new
Turns old new (Err e) = new ≡ Some old

-- n bytes of the present peer stand in the buffer's front; none is its end
pub record Hears (old : Peers) (new : Option Peers) (buf : List ℕ) (n : ℕ) : Type 0 where
  pub peers : new ≡ Some (on_present (heard n) old)
  pub bytes : take n buf ≡ take n (left_of old.present)
  pub most : n ≤ length (left_of old.present)
  pub ends : n ≡ 0 → 0 < length buf → left_of old.present ≡ []

abbrev pub Reads : {E : Type 0} → Peers → Option Peers → List ℕ → Result ℕ E → Type 0
Reads old new buf (Ok n) = Hears old new buf n
Reads old new buf (Err e) = new ≡ Some old

abbrev pub Writes : {E : Type 0} → Peers → Option Peers → List ℕ → Result ℕ E → Type 0
Writes old new piece (Ok n) = new ≡ Some (on_present (said (take n piece)) old)
Writes old new piece (Err e) = new ≡ Some old

-- a peer that wasn't waited for is reached, with some bytes of its own, and the one before is past
pub record Meets (old : Peers) (new : Option Peers) : Type 0 where
  pub bytes : List ℕ
  pub peers : new ≡ Some (arrived bytes old.coming old)

abbrev pub Reaches : {E : Type 0} → Peers → Option Peers → Result (Unit {0}) E → Type 0
Reaches old new (Ok _) = Meets old new
Reaches old new (Err e) = new ≡ Some old
