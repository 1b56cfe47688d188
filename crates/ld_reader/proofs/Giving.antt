-- What a reader gives while a row of its table holds.
use Rattle.std.proofs.Common.{◌≡◌, ℕ, zero, suc, ◌+◌, ◌<◌, ◌≤◌, List, [], ◌∷◌, ◌++◌, length, true, false, refl, ap, sym, ◌∙◌, arith, append_assoc, append-nil}
use Rattle.std.specs.Prelude.{if◌then◌else◌}
use Rattle.std.proofs.lemmas.Bool.Decides.{nat_tests}
use Rattle.ld_msg.specs.declared.msg.Entry.{Entry}
use Rattle.ld_msg.specs.declared.msg.Body.{Body}
use Rattle.ld_msg.specs.declared.msg.Body.TheVariants as bodies
use Rattle.ld_msg.specs.Reading.{Held, Item, Verdict, Gives, Confirms, AsksAll, NotYet, decide}
use Rattle.ld_msg.specs.Register.{View}
use Rattle.ld_msg.specs.Reader.{Reader, Read, is_finished, after_item, verdict, misses, may_confirm, seen_nodes, held_size, body_size, gives_all, gives, confirms, asks_all}
use Rattle.ld_reader.specs.Given.{entries_from, rows_of, rows_from, rows_left, given_by, after_by, given, after}
use Rattle.ld_reader.specs.Rounds.{ended}
use Rattle.ld_reader.specs.declared.round.Ending.{Ending}
use Rattle.ld_reader.specs.declared.round.Ending.TheVariants as endings
use Rattle.ld_reader.proofs.Falling.{table_falls}

-- ---- one item less ----

not_done : (d : Reader) (i : Item) → verdict d ≡ Gives i → is_finished d ≡ false
not_done d i e = elim (is_finished d) as (λ b. (if b then NotYet else decide d.next (misses d d.senders) (may_confirm d) (seen_nodes d.seen) d.held) ≡ Gives i → b ≡ false) [ true ↦ λ f. absurd cc | false ↦ λ f. refl ] e

decided : (d : Reader) (i : Item) → is_finished d ≡ false → verdict d ≡ Gives i → decide d.next (misses d d.senders) (may_confirm d) (seen_nodes d.seen) d.held ≡ Gives i
decided d i unfinished e = rw unfinished at e

pub left_falls : (d : Reader) (i : Item) → 0 < d.next → verdict d ≡ Gives i → rows_left (after_item d i) < rows_left d
left_falls d i p e =
    let unfinished = not_done d i e in
    let falls = table_falls d.next (misses d d.senders) (may_confirm d) (seen_nodes d.seen) d.held i p (decided d i unfinished e) in
    grind (arith, nat_tests)

-- ---- enough steps ----

done : (d : Reader) → rows_left d ≡ 0 → verdict d ≡ NotYet
done d e = elim (is_finished d) as (λ b. (if b then 0 else suc (rows_from d.next d.held)) ≡ 0 → (if b then NotYet else decide d.next (misses d d.senders) (may_confirm d) (seen_nodes d.seen) d.held) ≡ NotYet) [ true ↦ λ f. refl | false ↦ λ f. absurd (omega arith) ] e

abbrev one_given : ℕ → Reader → Verdict → List (ℕ × Item)
one_given k d v = elim v [ Gives i ↦ (d.next, i) ∷ given_by k (after_item d i) | Confirms lost ↦ [] | AsksAll ↦ [] | NotYet ↦ [] ]

abbrev one_after : ℕ → Reader → Verdict → Reader
one_after k d v = elim v [ Gives i ↦ after_by k (after_item d i) | Confirms lost ↦ d | AsksAll ↦ d | NotYet ↦ d ]

given_one : (k : ℕ) (d : Reader) (v : Verdict) → verdict d ≡ v → given_by (suc k) d ≡ one_given k d v
unfolding given_by
given_one k d v e = ap (one_given k d) e

after_one : (k : ℕ) (d : Reader) (v : Verdict) → verdict d ≡ v → after_by (suc k) d ≡ one_after k d v
unfolding after_by
after_one k d v e = ap (one_after k d) e

given_none : (d : Reader) → given_by 0 d ≡ []
unfolding given_by
given_none d = refl

after_none : (d : Reader) → after_by 0 d ≡ d
unfolding after_by
after_none d = refl

abbrev Agree : ℕ → ℕ → Reader → Type 0
Agree k j d = (given_by k d ≡ given_by j d) × (after_by k d ≡ after_by j d)

agree : (k j : ℕ) (d : Reader) → 0 < d.next → rows_left d ≤ k → rows_left d ≤ j → Agree k j d
agree zero zero d p h g = (refl, refl)
agree zero (suc j) d p h g =
    let n = done d (omega arith) in
    (given_none d ∙ sym (given_one j d NotYet n), after_none d ∙ sym (after_one j d NotYet n))
agree (suc k) zero d p h g =
    let n = done d (omega arith) in
    (given_one k d NotYet n ∙ sym (given_none d), after_one k d NotYet n ∙ sym (after_none d))
agree (suc k) (suc j) d p h g = elim (verdict d) as (λ v. verdict d ≡ v → Agree (suc k) (suc j) d) [
  | Gives i ↦ λ e.
      let f = left_falls d i p e in
      let r = agree k j (after_item d i) (omega arith) (omega arith) (omega arith) in
      (given_one k d (Gives i) e ∙ (ap (λ l. (d.next, i) ∷ l) r.0 ∙ sym (given_one j d (Gives i) e)), after_one k d (Gives i) e ∙ (r.1 ∙ sym (after_one j d (Gives i) e)))
  | Confirms lost ↦ λ e. (given_one k d (Confirms lost) e ∙ sym (given_one j d (Confirms lost) e), after_one k d (Confirms lost) e ∙ sym (after_one j d (Confirms lost) e))
  | AsksAll ↦ λ e. (given_one k d AsksAll e ∙ sym (given_one j d AsksAll e), after_one k d AsksAll e ∙ sym (after_one j d AsksAll e))
  | NotYet ↦ λ e. (given_one k d NotYet e ∙ sym (given_one j d NotYet e), after_one k d NotYet e ∙ sym (after_one j d NotYet e))
] refl

-- ---- step by step ----

-- an item comes first
pub item_first : (d : Reader) (i : Item) → 0 < d.next → verdict d ≡ Gives i → (given d ≡ (d.next, i) ∷ given (after_item d i)) × (after d ≡ after (after_item d i))
unfolding given after
item_first d i p e =
    let f = left_falls d i p e in
    let big = agree (rows_left d) (suc (rows_left d)) d p (omega arith) (omega arith) in
    let rest = agree (rows_left d) (rows_left (after_item d i)) (after_item d i) (omega arith) (omega arith) (omega arith) in
    (big.0 ∙ (given_one (rows_left d) d (Gives i) e ∙ ap (λ l. (d.next, i) ∷ l) rest.0), big.1 ∙ (after_one (rows_left d) d (Gives i) e ∙ rest.1))

-- any other verdict ends it
no_more : (d : Reader) (v : Verdict) → 0 < d.next → verdict d ≡ v → ((k : ℕ) → one_given k d v ≡ []) → ((k : ℕ) → one_after k d v ≡ d) → (given d ≡ []) × (after d ≡ d)
unfolding given after
no_more d v p e g a =
    let big = agree (rows_left d) (suc (rows_left d)) d p (omega arith) (omega arith) in
    (big.0 ∙ given_one (rows_left d) d v e ∙ g (rows_left d), big.1 ∙ after_one (rows_left d) d v e ∙ a (rows_left d))

pub nothing_more : (d : Reader) (ending : Ending) → 0 < d.next → verdict d ≡ ended ending → (given d ≡ []) × (after d ≡ d)
nothing_more d (endings.Confirms lost) p e = no_more d (Confirms lost) p e (λ k. refl) (λ k. refl)
nothing_more d endings.AsksAll p e = no_more d AsksAll p e (λ k. refl) (λ k. refl)
nothing_more d endings.NotYet p e = no_more d NotYet p e (λ k. refl) (λ k. refl)

-- ---- the definition's own loop ----

-- how the definition's loop ends
abbrev pub ends : (ℕ → View) → Verdict → Read → Read
ends looks (Gives i) a = a
ends looks (Confirms lost) a = confirms looks a lost
ends looks AsksAll a = asks_all looks a
ends looks NotYet a = a

-- what has been read, with what the reader then gives
abbrev pub all_read : Read → Read
all_read a = record { reader = after a.reader; items = a.items ++ given a.reader; asks = a.asks; anew = a.anew }

abbrev pub whole : (ℕ → View) → Read → Read
whole looks a = ends looks (verdict (after a.reader)) (all_read a)

same_read : (looks : ℕ → View) (a : Read) (v : Verdict) (items : List (ℕ × Item)) (r : Reader) → given a.reader ≡ items → after a.reader ≡ r → verdict r ≡ v
    → whole looks a ≡ ends looks v (record { reader = r; items = a.items ++ items; asks = a.asks; anew = a.anew })
same_read looks a v items r g h e =
    ap (λ x. ends looks (verdict x) (record { reader = x; items = a.items ++ given a.reader; asks = a.asks; anew = a.anew })) h
    ∙ (ap (λ l. ends looks (verdict r) (record { reader = r; items = a.items ++ l; asks = a.asks; anew = a.anew })) g
    ∙ ap (λ u. ends looks u (record { reader = r; items = a.items ++ items; asks = a.asks; anew = a.anew })) e)

abbrev one_step : ℕ → (ℕ → View) → Read → Verdict → Read
one_step k looks a v = elim v [ Gives i ↦ gives_all k looks (gives a i) | Confirms lost ↦ confirms looks a lost | AsksAll ↦ asks_all looks a | NotYet ↦ a ]

-- where there is no item more, it is all read
read_none : (looks : ℕ → View) (a : Read) (ending : Ending) → 0 < a.reader.next → verdict a.reader ≡ ended ending → whole looks a ≡ ends looks (ended ending) a
read_none looks a ending p e =
    let none = nothing_more a.reader ending p e in
    same_read looks a (ended ending) [] a.reader none.0 none.1 e ∙ ap (λ l. ends looks (ended ending) (record { reader = a.reader; items = l; asks = a.asks; anew = a.anew })) (append-nil a.items)

pub all_gives : (k : ℕ) (looks : ℕ → View) (a : Read) → 0 < a.reader.next → rows_left a.reader ≤ k → gives_all k looks a ≡ whole looks a
all_gives zero looks a p h = sym (read_none looks a endings.NotYet p (done a.reader (omega arith)))
all_gives (suc k) looks a p h = elim (verdict a.reader) as (λ v. verdict a.reader ≡ v → gives_all (suc k) looks a ≡ whole looks a) [
  | Gives i ↦ λ e.
      let f = left_falls a.reader i p e in
      let first = item_first a.reader i p e in
      let rest = all_gives k looks (gives a i) (omega arith) (omega arith) in
      ap (one_step k looks a) e ∙ (rest
      ∙ (ap (λ l. ends looks (verdict (after (after_item a.reader i))) (record { reader = after (after_item a.reader i); items = l; asks = a.asks; anew = a.anew })) (append_assoc a.items ((a.reader.next, i) ∷ []) (given (after_item a.reader i)))
      ∙ sym (same_read looks a (verdict (after (after_item a.reader i))) _ _ first.0 first.1 refl)))
  | Confirms lost ↦ λ e. ap (one_step k looks a) e ∙ sym (read_none looks a (endings.Confirms lost) p e)
  | AsksAll ↦ λ e. ap (one_step k looks a) e ∙ sym (read_none looks a endings.AsksAll p e)
  | NotYet ↦ λ e. ap (one_step k looks a) e ∙ sym (read_none looks a endings.NotYet p e)
] refl

-- ---- the bound of the definition ----

entries_few : (s : ℕ) (es : List Entry) → entries_from s es ≤ length es
entries_few s [] = omega arith
entries_few s (e ∷ es) = let ih = entries_few s es in grind (arith, nat_tests)

rows_few : (s : ℕ) (b : Body) → rows_of s b ≤ body_size b
rows_few s (bodies.ReadPage round from upto clean es) = omega (arith, entries_few s es)
rows_few s (bodies.ReadTrim round from trim) = grind (arith, nat_tests)
rows_few s (bodies.ReadEnded round from end loss) = grind (arith, nat_tests)
rows_few s _ = omega arith

held_few : (s : ℕ) (hs : List (ℕ × Held)) → rows_from s hs ≤ held_size hs
held_few s [] = omega arith
held_few s (h ∷ hs) = omega (arith, rows_few s h.1.body, held_few s hs)

pub left_few : (d : Reader) → rows_left d ≤ held_size d.held + 1
left_few d = let few = held_few d.next d.held in grind (arith, nat_tests)
