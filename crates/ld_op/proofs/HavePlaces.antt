-- Places for many entries.
use Rattle.std.proofs.Common.{◌≡◌, ℕ, Bool, true, false, ◌&&◌, List, [], ◌∷◌, ◌++◌, Option, refl}
use Rattle.ld_msg.specs.declared.msg.Entry.{Entry}
use Rattle.ld_table.specs.Table.{put}
use Rattle.ld_op.specs.Plain.{refill_entries}
use Rattle.ld_op.specs.Places.{has_place}
use Rattle.ld_op.specs.Room.{have_places}

both : (a b : Bool) → a ≡ true → b ≡ true → a && b ≡ true
both true b p q = q
both false b p q = p

left : (a b : Bool) → a && b ≡ true → a ≡ true
left true b p = refl
left false b p = p

right : (a b : Bool) → a && b ≡ true → b ≡ true
right true b p = p
right false b p = absurd cc

pub have_places_stay : (es : List Entry) (m n : List (ℕ × Option Entry)) → ((q : ℕ) → has_place q m ≡ true → has_place q n ≡ true) → have_places es m ≡ true → have_places es n ≡ true
have_places_stay [] m n s h = refl
have_places_stay (e ∷ es) m n s h = both _ _ (s e.number (left _ _ h)) (have_places_stay es m n s (right (has_place e.number m) _ h))

pub have_places-append : (es : List Entry) (e : Entry) (m : List (ℕ × Option Entry)) → have_places es m ≡ true → has_place e.number m ≡ true → have_places (es ++ e ∷ []) m ≡ true
have_places-append [] e m h p = both _ _ p refl
have_places-append (f ∷ es) e m h p = both _ _ (left _ _ h) (have_places-append es e m (right (has_place f.number m) _ h) p)

pub has_place-within : (es fs : List Entry) (e : Entry) (m : List (ℕ × Option Entry)) → have_places (es ++ e ∷ fs) m ≡ true → has_place e.number m ≡ true
has_place-within [] fs e m h = left _ _ h
has_place-within (f ∷ es) fs e m h = has_place-within es fs e m (right (has_place f.number m) _ h)

pub refill-append : (es : List Entry) (e : Entry) (m : List (ℕ × Entry)) → refill_entries (es ++ e ∷ []) m ≡ put e.number e (refill_entries es m)
refill-append [] e m = refl
refill-append (f ∷ es) e m = refill-append es e (put f.number f m)
