-- Calls of members, one after the other.
use Rattle.std.proofs.Common.{◌≡◌, ℕ, List, [], ◌∷◌, ◌++◌, refl, ap, sym, ◌∙◌, append_assoc}
use Rattle.ld_past.specs.Events.{Event}
use Rattle.ld_etcd.specs.Request.{AreAsks, Asks, IsRequest, asking, connecting, connects, sends}

pub asks_none : (path body : List ℕ) (did : List Event) → Asks path body did did
asks_none path body did = record { more = []; is = refl; all = tt }

are_on : (path body : List ℕ) (es more : List Event) → AreAsks path body es → AreAsks path body more → AreAsks path body (es ++ more)
are_on path body [] more h g = g
are_on path body (e ∷ es) more h g = (h.0, are_on path body es more h.1 g)

pub asks_on : (path body : List ℕ) (before mid now : List Event) → Asks path body before mid → Asks path body mid now → Asks path body before now
asks_on path body before mid now h g = record {
  more = g.more ++ h.more;
  is = g.is ∙ ap (λ l. g.more ++ l) h.is ∙ sym (append_assoc g.more h.more before);
  all = are_on path body g.more h.more g.all h.all;
}

pub asks_connection : (path body : List ℕ) (member : ℕ) (before now : List Event) → now ≡ connects member ∷ before → Asks path body before now
asks_connection path body member before now is = record { more = connects member ∷ []; is = is; all = (connecting member, tt) }

pub asks_one : (path body bytes : List ℕ) (before now : List Event) → IsRequest path body bytes → now ≡ sends bytes ∷ before → Asks path body before now
asks_one path body bytes before now r is = record { more = sends bytes ∷ []; is = is; all = (asking bytes r, tt) }
