-- An index stays as it is within an end exactly where its payloads lie within it.
use Rattle.std.proofs.Common.{◌≡◌, ◌+◌, ℕ, Bool, true, false, cond, List, [], ◌∷◌, map, drop, get_or, nat_lt, refl, sym, ap, ◌∙◌, arith}
use Rattle.std.specs.Cmp.Derive.{both_true}
use Rattle.std.proofs.lemmas.Bool.{and_parts}
use Rattle.ld_table.specs.Table.{map_values}
use Rattle.ld_msg.specs.declared.msg.What.{What}
use Rattle.ld_msg.specs.declared.msg.What.TheVariants.{Rec, Hole, Bridge, Plug, Withheld}
use Rattle.ld_msg.specs.declared.msg.Entry.{Entry}
use Rattle.ld_op.specs.Plain.{Plain, Log}
use Rattle.ld_op.specs.Cells.{each_what, each_entry, each_log, each_plain}
use Rattle.ld_op.specs.Within.{places_within, what_within, entries_within, logs_within}
use Rattle.ld_store.specs.Ops.{within}

abbrev payload_of : What → List ℕ
payload_of (Rec p) = p
payload_of Hole = []
payload_of Bridge = []
payload_of Plug = []
payload_of Withheld = []

module _ (end : ℕ) where
  -- ---- what lies within stays ----

  places_stay : (p : List ℕ) → places_within end p ≡ true → map (within end) p ≡ p
  places_stay [] lie = refl
  places_stay (k ∷ p) lie = let parts = and_parts (nat_lt k end) (places_within end p) lie in (λ i. ap (λ b. cond b k (k + 1)) parts.0 i ∷ places_stay p parts.1 i)

  what_stays : (w : What) → what_within end w ≡ true → each_what (within end) w ≡ w
  what_stays (Rec p) lie = ap Rec (places_stay p lie)
  what_stays Hole lie = refl
  what_stays Bridge lie = refl
  what_stays Plug lie = refl
  what_stays Withheld lie = refl

  entries_stay : (m : List (ℕ × Entry)) → entries_within end m ≡ true → map_values (each_entry (within end)) m ≡ m
  entries_stay [] lie = refl
  entries_stay (e ∷ m) lie =
      let parts = and_parts (what_within end e.1.what) (entries_within end m) lie in
      (λ i. (e.0, record { number = e.1.number; ballot = e.1.ballot; what = what_stays e.1.what parts.0 i }) ∷ entries_stay m parts.1 i)

  logs_stay : (m : List (ℕ × Log)) → logs_within end m ≡ true → map_values (each_log (within end)) m ≡ m
  logs_stay [] lie = refl
  logs_stay (l ∷ m) lie =
      let parts = and_parts (entries_within end l.1.entries) (logs_within end m) lie in
      (λ i. (l.0, record l.1 { entries = entries_stay l.1.entries parts.0 i }) ∷ logs_stay m parts.1 i)

  pub index_stays : (p : Plain) → logs_within end p.logs ≡ true → each_plain (within end) p ≡ p
  index_stays p lie = ap (λ m. record p { logs = m }) (logs_stay p.logs lie)

  -- ---- what stays lies within ----

  place_lies : (k : ℕ) (b : Bool) → cond b k (k + 1) ≡ k → b ≡ true
  place_lies k true same = refl
  place_lies k false same = absurd (omega (arith, same))

  places_lie : (p : List ℕ) → map (within end) p ≡ p → places_within end p ≡ true
  places_lie [] same = refl
  places_lie (k ∷ p) same = both_true (place_lies k (nat_lt k end) (ap (λ l. get_or l 0 k) same)) (places_lie p (ap (drop 1) same))

  what_lies : (w : What) → each_what (within end) w ≡ w → what_within end w ≡ true
  what_lies (Rec p) same = places_lie p (ap payload_of same)
  what_lies Hole same = refl
  what_lies Bridge same = refl
  what_lies Plug same = refl
  what_lies Withheld same = refl

  entries_lie : (m : List (ℕ × Entry)) → map_values (each_entry (within end)) m ≡ m → entries_within end m ≡ true
  entries_lie [] same = refl
  entries_lie (e ∷ m) same = both_true (what_lies e.1.what (ap (λ l. (get_or l 0 e).1.what) same)) (entries_lie m (ap (drop 1) same))

  logs_lie : (m : List (ℕ × Log)) → map_values (each_log (within end)) m ≡ m → logs_within end m ≡ true
  logs_lie [] same = refl
  logs_lie (g ∷ m) same = both_true (entries_lie g.1.entries (ap (λ l. (get_or l 0 g).1.entries) same)) (logs_lie m (ap (drop 1) same))

  pub index_moves : (p : Plain) → logs_within end p.logs ≡ false → each_plain (within end) p ≡ p → ⊥
  index_moves p past same = let lie : logs_within end p.logs ≡ true = logs_lie p.logs (ap (λ q. q.logs) same) in absurd (let no : false ≡ true = sym past ∙ lie in cc no)
