-- What a reader gives tiles the numbers from its next one on.
use Rattle.std.proofs.Common.{◌≡◌, ℕ, zero, suc, ◌+◌, ◌≤◌, min, List, [], ◌∷◌, ◌++◌, Option, Some, None, Bool, true, false, refl, ap, sym, subst, arith}
use Rattle.std.specs.Prelude.{nat_le, nat_lt, if◌then◌else◌}
use Rattle.std.specs.List.{All}
use Rattle.std.proofs.lemmas.Bool.Decides.{nat_tests}
use Rattle.std.proofs.lemmas.List.Elements.{All-nil, All-cons}
use Rattle.ld_msg.specs.declared.msg.Body.{Body}
use Rattle.ld_msg.specs.Reading.{Held, Item, TrimTo, RecordHere, HoleHere, BridgeTo, LossHere, LossTo, Verdict, Gives, Confirms, AsksAll, NotYet, decide, trim_held, record_held, hole_held, plug_held, withheld_held, end_held, bridge_to, entry_verdict, end_verdict, loss_verdict}
use Rattle.ld_msg.specs.declared.msg.Msg.{Msg}
use Rattle.ld_msg.specs.Register.{View}
use Rattle.ld_msg.specs.Reader.{Reader, Read, is_finished, item_end, gives, confirms, asks_all, verdict, misses, may_confirm, seen_nodes, gives_all, most_items, heard, heard_on, loses, is_confirmed, is_swapped, look_of, next_round, nothing_read, asks_on, starts, start_asks, round_of, on_answer}
use Rattle.ld_reader.specs.Clipped.{clipped, all_clipped}
use Rattle.ld_reader.specs.Following.{Following, with_reader, HasDone}
use Rattle.ld_reader.specs.Tiling.{Tiles, TileByCalls, items_of, StandsWithin}
use Rattle.ld_reader.proofs.Clipping.{clipped-append}
use Rattle.ld_reader.proofs.Falling.{below_end, no_loss, by_copy}

-- ---- lists ----

pub tiles_on : (from mid to : ℕ) (xs ys : List (ℕ × Item)) → Tiles from xs mid → Tiles mid ys to → Tiles from (xs ++ ys) to
tiles_on from mid to [] ys t u = subst (λ n. Tiles n ys to) (sym t) u
tiles_on from mid to (x ∷ xs) ys t u = (t.0, t.1, tiles_on (item_end from x.1 + 1) mid to xs ys t.2 u)

pub calls_tile : (from to : ℕ) (calls : List (List (ℕ × Item))) → TileByCalls from calls to → Tiles from (items_of calls) to
calls_tile from to [] t = t
calls_tile from to (is ∷ calls) t = tiles_on from t.0 to is (items_of calls) t.1 (calls_tile t.0 to calls t.2)

tiles_rise : (from to : ℕ) (is : List (ℕ × Item)) → Tiles from is to → from ≤ to
tiles_rise from to [] t = omega arith
tiles_rise from to (i ∷ is) t = omega (arith, t.1, tiles_rise (item_end from i.1 + 1) to is t.2)

pub stand_within : (first from to until : ℕ) (is : List (ℕ × Item)) → first ≤ from → to ≤ until + 1 → Tiles from is to → All (StandsWithin first until) is
stand_within first from to until [] f l t = All-nil (StandsWithin first until)
stand_within first from to until (i ∷ is) f l t =
    let rest = stand_within first (item_end from i.1 + 1) to until is (omega (arith, t.1)) l t.2 in
    let r = tiles_rise (item_end from i.1 + 1) to is t.2 in
    All-cons (StandsWithin first until) i is (subst (λ n. (first ≤ n) × (n ≤ item_end n i.1) × (item_end n i.1 ≤ until)) (sym t.0) (f, t.1, omega arith)) rest

-- ---- one item ----

-- a clipped item ends where the item does, or at the last number
clipped_end : (s until : ℕ) (i : Item) → s ≤ until → item_end s (clipped until i) ≡ min (item_end s i) until
clipped_end s until (TrimTo last) h = grind (arith, nat_tests)
clipped_end s until (RecordHere p) h = omega arith
clipped_end s until HoleHere h = omega arith
clipped_end s until (BridgeTo last) h = grind (arith, nat_tests)
clipped_end s until LossHere h = omega arith
clipped_end s until (LossTo last) h = grind (arith, nat_tests)

tiles_push : (from until s : ℕ) (is : List (ℕ × Item)) (i : Item) → s ≤ until → s ≤ item_end s i → Tiles from (all_clipped until is) s → Tiles from (all_clipped until (is ++ (s, i) ∷ [])) (min (item_end s i) until + 1)
tiles_push from until s is i h l t =
    let e = clipped_end s until i h in
    subst (λ (ks : List (ℕ × Item)). Tiles from ks (min (item_end s i) until + 1)) (sym (clipped-append until is ((s, i) ∷ [])))
    (tiles_on from s (min (item_end s i) until + 1) (all_clipped until is) ((s, clipped until i) ∷ []) t (refl, omega arith, ap (λ n. n + 1) e))

-- ---- what the table gives ends at the next number or above it ----

by_entries : (s : ℕ) (r : Option (List ℕ)) (h p : Bool) (other : Verdict) (i : Item) → (other ≡ Gives i → s ≤ item_end s i) → entry_verdict r h p other ≡ Gives i → s ≤ item_end s i
by_entries s (Some x) h p other i rest e = let same : RecordHere x ≡ i = cc in subst (λ k. s ≤ item_end s k) same (omega arith)
by_entries s None true p other i rest e = let same : HoleHere ≡ i = cc in subst (λ k. s ≤ item_end s k) same (omega arith)
by_entries s None false true other i rest e = let same : LossHere ≡ i = cc in subst (λ k. s ≤ item_end s k) same (omega arith)
by_entries s None false false other i rest e = rest e

by_end : (s : ℕ) (mc : Bool) (set : List ℕ) (hs : List (ℕ × Held)) (o : Option Bool) (i : Item) → end_verdict s o (loss_verdict s mc set hs) ≡ Gives i → s ≤ item_end s i
by_end s mc set hs (Some true) i e = let same : LossTo (bridge_to s) ≡ i = cc in subst (λ k. s ≤ item_end s k) same (below_end s)
by_end s mc set hs (Some false) i e = let same : BridgeTo (bridge_to s) ≡ i = cc in subst (λ k. s ≤ item_end s k) same (below_end s)
by_end s mc set hs None i e = absurd (no_loss s mc set hs i e)

by_trim : (s t : ℕ) (b : Bool) (i : Item) (rest : Verdict) → nat_le s t ≡ b → (rest ≡ Gives i → s ≤ item_end s i) → (if b then Gives (TrimTo t) else rest) ≡ Gives i → s ≤ item_end s i
by_trim s t true i rest here other e = let same : TrimTo t ≡ i = cc in subst (λ k. s ≤ item_end s k) same (grind (arith, nat_tests))
by_trim s t false i rest here other e = other e

table_goes_on : (s : ℕ) (m mc : Bool) (set : List ℕ) (hs : List (ℕ × Held)) (i : Item) → decide s m mc set hs ≡ Gives i → s ≤ item_end s i
unfolding decide
table_goes_on s m mc set hs i e =
    by_trim s (trim_held hs) (nat_le s (trim_held hs)) i _ refl
    (λ f. by_entries s (record_held s hs) (hole_held s hs) (plug_held s hs) _ i (by_copy _ (withheld_held s hs) m _ i (by_end s mc set hs (end_held s hs) i)) f) e

-- ---- a reader ----

-- these items were given from this number on, and none is past the reader's last number
pub record HasTiled (from last : ℕ) (a : Read) : Type 0 where
  pub until : a.reader.until ≡ last
  pub within : a.reader.next ≤ last + 1
  pub tiles : Tiles from (all_clipped last a.items) a.reader.next

gives_tiled : (from until : ℕ) (a : Read) (i : Item) → HasTiled from until a → a.reader.next ≤ until → a.reader.next ≤ item_end a.reader.next i → HasTiled from until (gives a i)
gives_tiled from until a i t h l = record {
  until = t.until;
  within = omega arith;
  tiles = subst (λ u. Tiles from (all_clipped until (a.items ++ (a.reader.next, i) ∷ [])) (min (item_end a.reader.next i) u + 1)) (sym t.until) (tiles_push from until a.reader.next a.items i h l t.tiles);
}

confirms_tiled : (looks : ℕ → View) (from until : ℕ) (a : Read) (lost : List (ℕ × ℕ)) → HasTiled from until a → HasTiled from until (confirms looks a lost)
confirms_tiled looks from until a lost t = record { until = t.until; within = t.within; tiles = t.tiles }

all_asked_tiled : (looks : ℕ → View) (from until : ℕ) (a : Read) → HasTiled from until a → HasTiled from until (asks_all looks a)
all_asked_tiled looks from until a t = record { until = t.until; within = t.within; tiles = t.tiles }

given_ends : (d : Reader) (b : Bool) (i : Item) → is_finished d ≡ b → (if b then NotYet else decide d.next (misses d d.senders) (may_confirm d) (seen_nodes d.seen) d.held) ≡ Gives i → (d.next ≤ d.until) × (d.next ≤ item_end d.next i)
given_ends d true i f e = absurd cc
given_ends d false i f e = (grind (arith, nat_tests), table_goes_on d.next (misses d d.senders) (may_confirm d) (seen_nodes d.seen) d.held i e)

all_tiled : (k : ℕ) (looks : ℕ → View) (from until : ℕ) (a : Read) → HasTiled from until a → HasTiled from until (gives_all k looks a)
all_tiled zero looks from until a t = t
all_tiled (suc k) looks from until a t = elim (verdict a.reader) as (λ v. verdict a.reader ≡ v → HasTiled from until (elim v [ Gives i ↦ gives_all k looks (gives a i) | Confirms lost ↦ confirms looks a lost | AsksAll ↦ asks_all looks a | NotYet ↦ a ])) [
  | Gives i ↦ λ e. let g = given_ends a.reader (is_finished a.reader) i refl e in
      all_tiled k looks from until (gives a i) (gives_tiled from until a i t (omega (arith, g.0, t.until)) g.1)
  | Confirms lost ↦ λ e. confirms_tiled looks from until a lost t
  | AsksAll ↦ λ e. all_asked_tiled looks from until a t
  | NotYet ↦ λ e. t
] refl

next_tiled : (looks : ℕ → View) (from until : ℕ) (a : Read) (b : Bool) → HasTiled from until a → HasTiled from until (record { reader = if b then starts false looks a.reader else a.reader; items = a.items; asks = (next_round looks a).asks; anew = a.anew })
next_tiled looks from until a true t = record { until = t.until; within = t.within; tiles = t.tiles }
next_tiled looks from until a false t = record { until = t.until; within = t.within; tiles = t.tiles }

loss_tiled : (d : Reader) (o : View) (b : Bool) → d.next ≤ d.until → HasTiled d.next d.until (if b then gives (nothing_read (record d { seen = Some o })) LossHere else nothing_read d)
loss_tiled d o true h = gives_tiled d.next d.until (nothing_read (record d { seen = Some o })) LossHere (record { until = refl; within = omega arith; tiles = refl }) h (omega arith)
loss_tiled d o false h = record { until = refl; within = omega arith; tiles = refl }

nothing_tiled : (d : Reader) → d.next ≤ d.until → HasTiled d.next d.until (nothing_read d)
nothing_tiled d h = record { until = refl; within = omega arith; tiles = refl }

heard_tiled : (looks : ℕ → View) (d : Reader) → d.next ≤ d.until → HasTiled d.next d.until (heard_on looks d)
heard_tiled looks d h =
    let a = gives_all (most_items d) looks (loses looks d) in
    elim (is_swapped looks d) as (λ b. HasTiled d.next d.until (if b then record { reader = starts false looks d; items = []; asks = start_asks false looks d; anew = true } else next_round looks a)) [
      | true ↦ record { until = refl; within = omega arith; tiles = refl }
      | false ↦ next_tiled looks d.next d.until a (asks_on a) (all_tiled (most_items d) looks d.next d.until (loses looks d) (loss_tiled d (look_of looks d) (is_confirmed d.confirming) h))
    ]

pub answer_tiles : (looks : ℕ → View) (d : Reader) (y : ℕ) (b : Body) → is_finished d ≡ false → HasTiled d.next d.until (on_answer looks d y b)
unfolding on_answer
answer_tiles looks d y b f =
    let h : d.next ≤ d.until = grind (arith, nat_tests) in
    elim (nat_lt (round_of b) d.least) as (λ n. HasTiled d.next d.until (if n then nothing_read d else heard_on looks (heard d y b))) [
      | true ↦ nothing_tiled d h
      | false ↦ heard_tiled looks (heard d y b) h
    ]

-- what an answer gives tiles the numbers from the next one before it to the next one after it
pub record GoesOn (old new : Following) (items : List (ℕ × Item)) : Type 0 where
  pub tiles : Tiles old.reader.next items new.reader.next
  pub within : new.reader.next ≤ old.reader.until + 1

pub read_tiles : (looks : ℕ → View) (old new : Following) (y : ℕ) (b : Body) (items : List (ℕ × Item)) (before now : List Msg) → is_finished old.reader ≡ false
    → HasDone old new items before now (on_answer looks old.reader y b) → GoesOn old new items
read_tiles looks old new y b items before now f h =
    let t = answer_tiles looks old.reader y b f in
    let a = on_answer looks old.reader y b in
    subst (λ (w : Following). GoesOn old w items) (sym h.reader) (subst (λ (ks : List (ℕ × Item)). GoesOn old (with_reader old a.reader) ks) (sym h.gave) (record { tiles = t.tiles; within = t.within }))
