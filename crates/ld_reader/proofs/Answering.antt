-- What one answer does, part by part.
use Rattle.std.proofs.Common.{◌≡◌, ℕ, ◌+◌, ◌<◌, ◌≤◌, List, [], ◌∷◌, ◌++◌, length, Option, Some, None, Bool, true, false, not, refl, ap, sym, ◌∙◌, subst, arith, nat_lt, nat_le, append-nil}
use Rattle.std.specs.Prelude.{◌&&◌, ◌==◌, Ok, Err, IfOk, if◌then◌else◌}
use Rattle.std.specs.declared.result.Result.{Result}
use Rattle.std.proofs.lemmas.Bool.Decides.{nat_tests}
use Rattle.ld_table.specs.Words.{any_of}
use Rattle.ld_lsn.specs.Number.{home_epoch}
use Rattle.ld_ids.specs.Choice.{nodes_of}
use Rattle.ld_msg.specs.declared.msg.Body.{Body}
use Rattle.ld_msg.specs.declared.msg.Msg.{Msg}
use Rattle.ld_msg.specs.declared.msg.Who.{Who}
use Rattle.ld_msg.specs.declared.msg.Who.TheVariants as whos
use Rattle.ld_msg.specs.Register.{View}
use Rattle.ld_msg.specs.Reading.{Held, Item, TrimTo, LossHere, Verdict, Gives, Confirms, AsksAll, NotYet, decide, trim_held, record_held, hole_held, plug_held, withheld_held, end_held, entry_verdict, copy_verdict, end_verdict, loss_verdict}
use Rattle.ld_msg.specs.Reader.{Reader, Read, Confirmation, is_finished, verdict, misses, may_confirm, seen_nodes, is_confirming, last_round, on_answer, heard, heard_on, loses, nothing_read, is_swapped, sees_swap, senders_of, most_items, gives_all, keys, held_size, next_round, asks_on, asks_of, gave_item, asks_all, starts, start_asks, is_full_poll, polled, poll_asks, look_of, reaches, round_of, gives, is_confirmed}
use Rattle.ld_reader.specs.Clipped.{all_clipped}
use Rattle.ld_reader.specs.Course.{followed, sets_out, lasting, placed, on_course}
use Rattle.ld_reader.specs.Place.{Place}
use Rattle.ld_reader.specs.Following.{Following, with_reader, asked, answered, replied, confirms_by, confirms_next, going_on, read_so_far, messages_from, HasDone}
use Rattle.ld_reader.specs.Given.{given, after, rows_left}
use Rattle.ld_reader.specs.Rounds.{ended, begins, stayed, round_after, round_on, round_of as last_of, begun, begun_over, begun_again, begun_asks, asks_once, begun_anew, anew_asks}
use Rattle.ld_reader.specs.declared.round.Ending.{Ending}
use Rattle.ld_reader.specs.declared.round.Ending.TheVariants as endings
use Rattle.ld_reader.specs.declared.round.Round.{Round}
use Rattle.ld_reader.specs.declared.round.Round.TheVariants as rounds
use Rattle.ld_reader.specs.declared.course.Course.{Course}
use Rattle.ld_reader.proofs.Giving.{all_gives, ends, left_few}
use Rattle.ld_reader.proofs.Clipping.{clipped-append}

-- ---- a confirmation is begun only where another round is left ----

by_loss : (s : ℕ) (mc : Bool) (set : List ℕ) (hs : List (ℕ × Held)) (lost : List (ℕ × ℕ)) → loss_verdict s mc set hs ≡ Confirms lost → mc ≡ true
by_loss s true set hs lost e = refl
by_loss s false set hs lost e = absurd cc

by_entry : (r : Option (List ℕ)) (h p mc : Bool) (other : Verdict) (lost : List (ℕ × ℕ)) → (other ≡ Confirms lost → mc ≡ true) → entry_verdict r h p other ≡ Confirms lost → mc ≡ true
by_entry (Some x) h p mc other lost rest e = absurd cc
by_entry None true p mc other lost rest e = absurd cc
by_entry None false true mc other lost rest e = absurd cc
by_entry None false false mc other lost rest e = rest e

by_end : (s : ℕ) (o : Option Bool) (mc : Bool) (other : Verdict) (lost : List (ℕ × ℕ)) → (other ≡ Confirms lost → mc ≡ true) → end_verdict s o other ≡ Confirms lost → mc ≡ true
by_end s (Some loss) mc other lost rest e = absurd cc
by_end s None mc other lost rest e = rest e

by_copy : (w m mc : Bool) (other : Verdict) (lost : List (ℕ × ℕ)) → (other ≡ Confirms lost → mc ≡ true) → copy_verdict w m other ≡ Confirms lost → mc ≡ true
by_copy w m mc other lost rest e = elim (w && m) as (λ b. (if b then AsksAll else other) ≡ Confirms lost → mc ≡ true) [
  | true ↦ λ f. absurd cc
  | false ↦ rest
] e

by_test : (b mc : Bool) (i : Item) (other : Verdict) (lost : List (ℕ × ℕ)) → (other ≡ Confirms lost → mc ≡ true) → (if b then Gives i else other) ≡ Confirms lost → mc ≡ true
by_test true mc i other lost rest e = absurd cc
by_test false mc i other lost rest e = rest e

may : (s : ℕ) (m mc : Bool) (set : List ℕ) (hs : List (ℕ × Held)) (lost : List (ℕ × ℕ)) → decide s m mc set hs ≡ Confirms lost → mc ≡ true
unfolding decide
may s m mc set hs lost e =
    by_test (nat_le s (trim_held hs)) mc (TrimTo (trim_held hs)) _ lost
    (λ f. by_entry (record_held s hs) (hole_held s hs) (plug_held s hs) mc _ lost (λ g. by_copy (withheld_held s hs) m mc _ lost (λ k. by_end s (end_held s hs) mc _ lost (λ h. by_loss s mc set hs lost h) k) g) f) e

may_now : (d : Reader) (lost : List (ℕ × ℕ)) → verdict d ≡ Confirms lost → may_confirm d ≡ true
may_now d lost e = elim (is_finished d) as (λ b. (if b then NotYet else decide d.next (misses d d.senders) (may_confirm d) (seen_nodes d.seen) d.held) ≡ Confirms lost → may_confirm d ≡ true) [
  | true ↦ λ f. absurd cc
  | false ↦ λ f. may d.next (misses d d.senders) (may_confirm d) (seen_nodes d.seen) d.held lost f
] e

-- any verdict but one: a number is left there
left_there : (d : Reader) (v : Verdict) → (NotYet ≡ v → ⊥) → verdict d ≡ v → is_finished d ≡ false
left_there d v h e = elim (is_finished d) as (λ b. (if b then NotYet else decide d.next (misses d d.senders) (may_confirm d) (seen_nodes d.seen) d.held) ≡ v → b ≡ false) [
  | true ↦ λ f. absurd (h f)
  | false ↦ λ f. refl
] e

-- a number is left there, and another round
pub record HasRound (d : Reader) : Type 0 where
  pub number : is_finished d ≡ false
  pub round : d.round < last_round

confirms_there : (d : Reader) (lost : List (ℕ × ℕ)) → verdict d ≡ Confirms lost → HasRound d
confirms_there d lost e = let m = may_now d lost e in record { number = left_there d (Confirms lost) (λ f. cc) e; round = grind (arith, nat_tests) }

pub round_there : (d : Reader) (items : List (ℕ × Item)) (ending : Ending) → verdict d ≡ ended ending → begins ending (read_so_far d items) ≡ true → HasRound d
round_there d items (endings.Confirms lost) v e = confirms_there d lost v
round_there d items endings.AsksAll v e = record { number = left_there d AsksAll (λ f. cc) v; round = grind (arith, nat_tests) }
round_there d items endings.NotYet v e = record { number = grind (arith, nat_tests); round = grind (arith, nat_tests) }

-- and two where all are asked twice
twice_left : (d : Reader) (b : Bool) → d.round < last_round → (b ≡ true → d.round + 1 < last_round) → round_on b d.round ≤ last_round
twice_left d true h t = let m = t refl in omega arith
twice_left d false h t = omega arith

asked_twice : (d : Reader) (g : Bool) → (g && nat_lt (d.round + 1) last_round) ≡ true → d.round + 1 < last_round
asked_twice d true e = grind (arith, nat_tests)
asked_twice d false e = absurd cc

pub rounds_left : (d : Reader) (w : View) (gave : Bool) (ending : Ending) → d.round < last_round → last_of (round_after ending w gave d) d.round ≤ last_round
rounds_left d w gave (endings.Confirms lost) h = elim (sees_swap d.seen w) as (λ b. last_of (if b then rounds.Over false (gave && nat_lt (d.round + 1) last_round) else rounds.Again lost) d.round ≤ last_round) [
  | true ↦ twice_left d (gave && nat_lt (d.round + 1) last_round) h (asked_twice d gave)
  | false ↦ omega arith
]
rounds_left d w gave endings.AsksAll h = omega arith
rounds_left d w gave endings.NotYet h = omega arith

-- ---- the end of an answer ----

-- no round follows
not_on : (looks : ℕ → View) (a : Read) → asks_on a ≡ false → next_round looks a ≡ a
not_on looks a e = ap (λ (b : Bool). record {
  reader = if b then starts false looks a.reader else a.reader;
  items = a.items;
  asks = if b then a.asks ++ start_asks false looks a.reader else a.asks;
  anew = a.anew;
}) e

-- one follows
is_on : (looks : ℕ → View) (a : Read) → asks_on a ≡ true → next_round looks a ≡ record { reader = starts false looks a.reader; items = a.items; asks = a.asks ++ start_asks false looks a.reader; anew = a.anew }
is_on looks a e = ap (λ (b : Bool). record {
  reader = if b then starts false looks a.reader else a.reader;
  items = a.items;
  asks = if b then a.asks ++ start_asks false looks a.reader else a.asks;
  anew = a.anew;
}) e

off_anew : (g f r : Bool) → (((g && not true) && f) && r) ≡ false
off_anew true f r = refl
off_anew false f r = refl

ends_on : (looks : ℕ → View) (a : Read) (ending : Ending) → next_round looks (ends looks (ended ending) a) ≡ going_on looks ending a
ends_on looks a (endings.Confirms lost) = refl
ends_on looks a endings.AsksAll = not_on looks (asks_all looks a) (off_anew (gave_item a.items) (not (is_finished (asks_all looks a).reader)) _)
ends_on looks a endings.NotYet = refl

-- ---- the whole ----

abbrev lossy : Reader → Bool → Read
lossy d b = if b then gives (nothing_read d) LossHere else nothing_read d

first_above : (d : Reader) → 0 < d.next → 0 < (sets_out d).reader.next
first_above d p = elim (is_confirmed d.confirming) as (λ b. 0 < (lossy d b).reader.next) [ true ↦ omega arith | false ↦ p ]

same_held : (d : Reader) → (sets_out d).reader.held ≡ d.held
same_held d = elim (is_confirmed d.confirming) as (λ b. (lossy d b).reader.held ≡ d.held) [ true ↦ refl | false ↦ refl ]

same_until : (d : Reader) → (sets_out d).reader.until ≡ d.until
same_until d = elim (is_confirmed d.confirming) as (λ b. (lossy d b).reader.until ≡ d.until) [ true ↦ refl | false ↦ refl ]

no_asks : (d : Reader) → ((sets_out d).asks ≡ []) × ((sets_out d).anew ≡ false)
no_asks d = elim (is_confirmed d.confirming) as (λ b. ((lossy d b).asks ≡ []) × ((lossy d b).anew ≡ false)) [ true ↦ (refl, refl) | false ↦ (refl, refl) ]

-- the items of one answer, and the reader behind them
abbrev pub all_items : Reader → List (ℕ × Item)
all_items d = (sets_out d).items ++ given (sets_out d).reader

abbrev pub reader_then : Reader → Reader
reader_then d = after (sets_out d).reader

pub followed_is : (looks : ℕ → View) (d : Reader) (ending : Ending) → 0 < d.next → verdict (reader_then d) ≡ ended ending
    → followed looks d ≡ going_on looks ending (read_so_far (reader_then d) (all_items d))
unfolding followed
followed_is looks d ending p e =
    let l = sets_out d in
    let few : rows_left l.reader ≤ most_items d = omega (arith, left_few l.reader, ap held_size (same_held d)) in
    ap (next_round looks) (all_gives (most_items d) looks l (first_above d p) few)
    ∙ (ap (λ k. next_round looks (ends looks (verdict (reader_then d)) (record { reader = reader_then d; items = all_items d; asks = k; anew = l.anew }))) (no_asks d).0
    ∙ (ap (λ k. next_round looks (ends looks (verdict (reader_then d)) (record { reader = reader_then d; items = all_items d; asks = []; anew = k }))) (no_asks d).1
    ∙ (ap (λ v. next_round looks (ends looks v (read_so_far (reader_then d) (all_items d)))) e
    ∙ ends_on looks (read_so_far (reader_then d) (all_items d)) ending)))

-- ---- whether a round begins, on the items as they are given ----

gave_clipped : (until : ℕ) (is : List (ℕ × Item)) → gave_item (all_clipped until is) ≡ gave_item is
gave_clipped until [] = refl
gave_clipped until (i ∷ is) = refl

begins_clipped : (until : ℕ) (d : Reader) (is : List (ℕ × Item)) (ending : Ending) → begins ending (read_so_far d (all_clipped until is)) ≡ begins ending (read_so_far d is)
begins_clipped until d is (endings.Confirms lost) = refl
begins_clipped until d is endings.AsksAll = refl
begins_clipped until d is endings.NotYet =
    ap (λ (g : Bool). (((g && not false) && not (is_finished d)) && (not (is_confirming d.confirming) && not (any_of (λ h. reaches d.next h.1.body) d.held))) && nat_lt d.round last_round) (gave_clipped until is)

items_kept : (looks : ℕ → View) (ending : Ending) (a : Read) → (going_on looks ending a).items ≡ a.items
items_kept looks (endings.Confirms lost) a = refl
items_kept looks endings.AsksAll a = refl
items_kept looks endings.NotYet a = refl

-- ---- one round more ----

abbrev starts_if : Bool → Bool → View → Reader → Reader
starts_if n full w d = record d {
  round = if n then d.round + 1 else d.round;
  held = if n && sees_swap d.seen w then [] else d.held;
  confirming = None;
  seen = if n then Some w else d.seen;
  least = if n && sees_swap d.seen w then d.round + 1 else d.least;
  senders = if n then senders_of full w d else d.senders;
}

started : (full : Bool) (looks : ℕ → View) (d : Reader) → nat_lt d.round last_round ≡ true → starts full looks d ≡ begun_over (look_of looks d) full false d
started full looks d e = ap (λ n. starts_if n full (look_of looks d) d) e

started_asks : (full : Bool) (looks : ℕ → View) (d : Reader) → nat_lt d.round last_round ≡ true
    → start_asks full looks d ≡ asks_once (senders_of full (look_of looks d) d) (d.round + 1) d.next (nodes_of (look_of looks d).spec)
started_asks full looks d e = ap (λ (n : Bool). if n then asks_once (senders_of full (look_of looks d) d) (d.round + 1) d.next (nodes_of (look_of looks d).spec) else []) e

started_once : (full : Bool) (looks : ℕ → View) (d : Reader) → nat_lt d.round last_round ≡ true → start_asks full looks d ≡ begun_asks (look_of looks d) (rounds.Over full false) d
started_once full looks d e = started_asks full looks d e ∙ sym (append-nil (asks_once (senders_of full (look_of looks d) d) (d.round + 1) d.next (nodes_of (look_of looks d).spec)))

-- after the last round there is none
unstarted : (full : Bool) (looks : ℕ → View) (d : Reader) → nat_lt d.round last_round ≡ false → starts full looks d ≡ record d { confirming = None }
unstarted full looks d e = ap (λ n. starts_if n full (look_of looks d) d) e

unstarted_asks : (full : Bool) (looks : ℕ → View) (d : Reader) → nat_lt d.round last_round ≡ false → start_asks full looks d ≡ []
unstarted_asks full looks d e = ap (λ (n : Bool). if n then asks_once (senders_of full (look_of looks d) d) (d.round + 1) d.next (nodes_of (look_of looks d).spec) else []) e

pub anew_so : (looks : ℕ → View) (d : Reader) → (starts false looks d ≡ begun_anew (look_of looks d) d) × (start_asks false looks d ≡ anew_asks (look_of looks d) d)
anew_so looks d = elim (nat_lt d.round last_round) as (λ n. nat_lt d.round last_round ≡ n
    → (starts false looks d ≡ (if n then begun_over (look_of looks d) false false d else record d { confirming = None })) × (start_asks false looks d ≡ (if n then begun_asks (look_of looks d) (rounds.Over false false) d else []))) [
      | true ↦ λ e. (started false looks d e, started_once false looks d e)
      | false ↦ λ e. (unstarted false looks d e, unstarted_asks false looks d e)
    ] refl

-- what a call leaves and asks
record Reaches (r : Reader) (k : List (ℕ × Body)) (a : Read) : Type 0 where
  pub reader : a.reader ≡ r
  pub asks : a.asks ≡ k

-- ---- no round begins ----

none_confirming : (o : Option Confirmation) → is_confirming o ≡ false → o ≡ None
none_confirming None e = refl
none_confirming (Some v) e = absurd cc

both : (a b : Bool) → (a && b) ≡ true → (a ≡ true) × (b ≡ true)
both true b e = (refl, e)
both false b e = absurd cc

third : (a b c : Bool) → (a && (not b && c)) ≡ true → b ≡ false
third true false c e = refl
third true true c e = absurd cc
third false b c e = absurd cc

unpolled : (looks : ℕ → View) (d : Reader) (items : List (ℕ × Item)) (n : Bool) → asks_on (read_so_far d items) ≡ n → (n && nat_lt d.round last_round) ≡ false → Reaches d [] (next_round looks (read_so_far d items))
unpolled looks d items false e f = let s = not_on looks (read_so_far d items) e in record { reader = ap (λ (a : Read). a.reader) s; asks = ap (λ (a : Read). a.asks) s }
unpolled looks d items true e f =
    let n = none_confirming d.confirming (third ((gave_item items && not false) && not (is_finished d)) (is_confirming d.confirming) _ e) in
    let s = is_on looks (read_so_far d items) e in
    record {
      reader = ap (λ (a : Read). a.reader) s ∙ unstarted false looks d f ∙ ap (λ (o : Option Confirmation). record d { confirming = o }) (sym n);
      asks = ap (λ (a : Read). a.asks) s ∙ unstarted_asks false looks d f;
    }

unbegun : (looks : ℕ → View) (ending : Ending) (d : Reader) (items : List (ℕ × Item)) → begins ending (read_so_far d items) ≡ false → Reaches (stayed ending d) [] (going_on looks ending (read_so_far d items))
unbegun looks (endings.Confirms lost) d items e = absurd cc
unbegun looks endings.AsksAll d items e = record { reader = unstarted true looks d e; asks = unstarted_asks true looks d e }
unbegun looks endings.NotYet d items e = unpolled looks d items (asks_on (read_so_far d items)) refl e

-- ---- lost nodes are asked once more, or all nodes in their place ----

abbrev over_by : Bool → View → Bool → Bool → Reader → Reader
over_by s w full twice d = record d {
  round = round_on twice d.round;
  held = if s then [] else d.held;
  confirming = None;
  seen = Some w;
  least = if s then d.round + 1 else d.least;
  senders = senders_of full w d;
}

abbrev confirms_if : Bool → (ℕ → View) → Reader → List (ℕ × Item) → List (ℕ × ℕ) → Read
confirms_if s looks d items lost = record {
  reader = record d {
    round = d.round + 1;
    held = if s then [] else d.held;
    confirming = if s then None else Some (record { round = d.round + 1; asked = lost; told = [] });
    seen = Some (look_of looks d);
    least = if s then d.round + 1 else d.least;
    senders = if s then senders_of false (look_of looks d) d else None;
  };
  items = items;
  asks = if s then start_asks false looks d else asks_of (d.round + 1) d.next (keys lost);
  anew = false;
}

off : (a b : Bool) → (a && (not true && b)) ≡ false
off true b = refl
off false b = refl

again_so : (looks : ℕ → View) (d : Reader) (items : List (ℕ × Item)) (lost : List (ℕ × ℕ))
    → Reaches (begun_again (look_of looks d) lost d) (asks_of (d.round + 1) d.next (keys lost)) (next_round looks (confirms_if false looks d items lost))
again_so looks d items lost =
    let s = not_on looks (confirms_if false looks d items lost) (off ((gave_item items && not false) && not (is_finished d)) (not (any_of (λ h. reaches d.next h.1.body) d.held))) in
    record { reader = ap (λ (a : Read). a.reader) s; asks = ap (λ (a : Read). a.asks) s }

same_count : (w : View) → sees_swap (Some w) w ≡ false
same_count w = let e : (w.swaps == w.swaps) ≡ true = grind (arith, nat_tests) in ap (λ b. not b) e

-- all nodes, in place of the lost ones
module _ (looks : ℕ → View) (d : Reader) (items : List (ℕ × Item)) (lost : List (ℕ × ℕ)) (left : nat_lt d.round last_round ≡ true) where
  abbrev there : Reader
  there = over_by true (look_of looks d) false false d

  abbrev first_asks : List (ℕ × Body)
  first_asks = asks_once (senders_of false (look_of looks d) d) (d.round + 1) d.next (nodes_of (look_of looks d).spec)

  abbrev InPlace : Bool → Read → Type 0
  InPlace twice a = Reaches (over_by true (look_of looks d) false twice d) (begun_asks (look_of looks d) (rounds.Over false twice) d) a

  -- a second round follows, where one is left
  second : (n : Bool) → nat_lt (d.round + 1) last_round ≡ n
      → InPlace n (record { reader = starts false looks there; items = items; asks = start_asks false looks d ++ start_asks false looks there; anew = false })
  second true e = record {
    reader = started false looks there e ∙ ap (λ s. over_by s (look_of looks d) false false there) (same_count (look_of looks d));
    asks = ap (λ k. k ++ start_asks false looks there) (started_asks false looks d left) ∙ ap (λ k. first_asks ++ k) (started_asks false looks there e);
  }
  second false e = record {
    reader = unstarted false looks there e;
    asks = ap (λ k. k ++ start_asks false looks there) (started_asks false looks d left) ∙ ap (λ k. first_asks ++ k) (unstarted_asks false looks there e);
  }

  in_place : (g : Bool) → gave_item items ≡ g → is_finished d ≡ false → InPlace (g && nat_lt (d.round + 1) last_round) (next_round looks (confirms_if true looks d items lost))
  in_place false e u =
      let s = not_on looks (confirms_if true looks d items lost) (ap (λ (b : Bool). ((b && not false) && not (is_finished d)) && (not false && not false)) e) in
      record { reader = ap (λ (a : Read). a.reader) s; asks = ap (λ (a : Read). a.asks) s ∙ started_once false looks d left }
  in_place true e u =
      let s = is_on looks (confirms_if true looks d items lost) (ap (λ (b : Bool). ((b && not false) && not (is_finished d)) && (not false && not false)) e ∙ ap (λ (b : Bool). ((true && not false) && not b) && (not false && not false)) u) in
      let t = second (nat_lt (d.round + 1) last_round) refl in
      record { reader = ap (λ (a : Read). a.reader) s ∙ t.reader; asks = ap (λ (a : Read). a.asks) s ∙ t.asks }

-- ---- a round begins ----

confirmed_so : (looks : ℕ → View) (d : Reader) (items : List (ℕ × Item)) (lost : List (ℕ × ℕ)) → nat_lt d.round last_round ≡ true → is_finished d ≡ false
    → Reaches (begun (look_of looks d) (round_after (endings.Confirms lost) (look_of looks d) (gave_item items) d) d) (begun_asks (look_of looks d) (round_after (endings.Confirms lost) (look_of looks d) (gave_item items) d) d) (going_on looks (endings.Confirms lost) (read_so_far d items))
confirmed_so looks d items lost left u =
    let w = look_of looks d in
    let twice = gave_item items && nat_lt (d.round + 1) last_round in
    elim (sees_swap d.seen w) as (λ s. sees_swap d.seen w ≡ s
    → Reaches (begun w (if s then rounds.Over false twice else rounds.Again lost) d) (begun_asks w (if s then rounds.Over false twice else rounds.Again lost) d) (next_round looks (confirms_if (sees_swap d.seen w) looks d items lost))) [
      | true ↦ λ e. subst (λ s. Reaches (over_by s w false twice d) (begun_asks w (rounds.Over false twice) d) (next_round looks (confirms_if s looks d items lost))) (sym e) (in_place looks d items lost left (gave_item items) refl u)
      | false ↦ λ e. subst (λ s. Reaches (begun_again w lost d) (begun_asks w (rounds.Again lost) d) (next_round looks (confirms_if s looks d items lost))) (sym e) (again_so looks d items lost)
    ] refl

begun_with : (looks : ℕ → View) (ending : Ending) (d : Reader) (items : List (ℕ × Item)) → HasRound d → begins ending (read_so_far d items) ≡ true
    → Reaches (begun (look_of looks d) (round_after ending (look_of looks d) (gave_item items) d) d) (begun_asks (look_of looks d) (round_after ending (look_of looks d) (gave_item items) d) d) (going_on looks ending (read_so_far d items))
begun_with looks (endings.Confirms lost) d items r e = confirmed_so looks d items lost (let n = r.round in grind (arith, nat_tests)) r.number
begun_with looks endings.AsksAll d items r e = record { reader = started true looks d e; asks = started_once true looks d e }
begun_with looks endings.NotYet d items r e =
    let b = both (asks_on (read_so_far d items)) (nat_lt d.round last_round) e in
    let s = is_on looks (read_so_far d items) b.0 in
    record { reader = ap (λ (a : Read). a.reader) s ∙ started false looks d b.1; asks = ap (λ (a : Read). a.asks) s ∙ started_once false looks d b.1 }

begun_by : (looks : ℕ → View) (w : View) (ending : Ending) (d : Reader) (items : List (ℕ × Item)) → HasRound d → look_of looks d ≡ w → begins ending (read_so_far d items) ≡ true
    → Reaches (begun w (round_after ending w (gave_item items) d) d) (begun_asks w (round_after ending w (gave_item items) d) d) (going_on looks ending (read_so_far d items))
begun_by looks w ending d items r l e =
    subst (λ (v : View). Reaches (begun v (round_after ending v (gave_item items) d) d) (begun_asks v (round_after ending v (gave_item items) d) d) (going_on looks ending (read_so_far d items))) l (begun_with looks ending d items r e)

-- a confirmation that is ended leaves the same to begin
begun_apart : (w : View) (r : Round) (d : Reader) (p : Place) (lasts : Bool) → (begun w r (placed d p false) ≡ begun w r (placed d p lasts)) × (begun_asks w r (placed d p false) ≡ begun_asks w r (placed d p lasts))
begun_apart w (rounds.Over full twice) d p lasts = (refl, refl)
begun_apart w (rounds.Again lost) d p lasts = (refl, refl)

after_apart : (ending : Ending) (w : View) (gave : Bool) (d : Reader) (p : Place) (lasts : Bool) → round_after ending w gave (placed d p lasts) ≡ round_after ending w gave d
after_apart (endings.Confirms lost) w gave d p lasts = refl
after_apart endings.AsksAll w gave d p lasts = refl
after_apart endings.NotYet w gave d p lasts = refl

pub gave_some : (is : List (ℕ × Item)) → not (length is == 0) ≡ gave_item is
gave_some [] = refl
gave_some (i ∷ is) = let e : (length (i ∷ is) == 0) ≡ false = grind (arith, nat_tests) in ap (λ b. not b) e

-- ---- from the code's parts ----

-- the way ends there
pub record CameTo (d h : Reader) (c : Course) (last : Ending) : Type 0 where
  pub there : on_course d c ≡ reader_then h
  pub items : c.items ≡ all_clipped d.until (all_items h)
  pub ending : verdict (reader_then h) ≡ ended last

pub came_to : (d h : Reader) (first c : Course) (ending : Ending) → h.until ≡ d.until
    → on_course d first ≡ (sets_out h).reader
    → first.items ≡ all_clipped d.until (sets_out h).items
    → on_course d c ≡ after (on_course d first)
    → c.items ≡ first.items ++ all_clipped first.place.until (given (on_course d first))
    → verdict (after (on_course d first)) ≡ ended ending
    → CameTo d h c ending
came_to d h first c ending u f i t j v = record {
  there = t ∙ ap (λ (r : Reader). after r) f;
  items = j ∙ (ap (λ k. k ++ all_clipped first.place.until (given (on_course d first))) i
      ∙ (ap (λ n. all_clipped d.until (sets_out h).items ++ all_clipped n (given (on_course d first))) (ap (λ (r : Reader). r.until) f ∙ (same_until h ∙ u))
      ∙ (ap (λ (r : Reader). all_clipped d.until (sets_out h).items ++ all_clipped d.until (given r)) f
      ∙ sym (clipped-append d.until (sets_out h).items (given (sets_out h).reader)))));
  ending = ap (λ (r : Reader). verdict (after r)) (sym f) ∙ v;
}

module _ (d h : Reader) (c : Course) (ending : Ending) (t : CameTo d h c ending) where
  came_round : begins ending (read_so_far (on_course d c) c.items) ≡ begins ending (read_so_far (on_course d c) (all_items h))
  came_round = ap (λ k. begins ending (read_so_far (on_course d c) k)) t.items ∙ begins_clipped d.until (on_course d c) (all_items h) ending

  came_followed : (looks : ℕ → View) → 0 < h.next → followed looks h ≡ going_on looks ending (read_so_far (on_course d c) (all_items h))
  came_followed looks p = followed_is looks h ending p t.ending ∙ ap (λ (r : Reader). going_on looks ending (read_so_far r (all_items h))) (sym t.there)

  came_items : (looks : ℕ → View) → 0 < h.next → c.items ≡ all_clipped d.until (followed looks h).items
  came_items looks p =
      t.items ∙ ap (all_clipped d.until) (sym (ap (λ (a : Read). a.items) (came_followed looks p) ∙ items_kept looks ending (read_so_far (on_course d c) (all_items h))))

  -- the reader has a number and a round left where a round begins
  pub came_left : begins ending (read_so_far (on_course d c) c.items) ≡ true → HasRound (on_course d c)
  came_left e = round_there (on_course d c) c.items ending (ap (λ (r : Reader). verdict r) t.there ∙ t.ending) e

-- no round begins
pub unbegun_so : (looks : ℕ → View) (f now : Following) (h : Reader) (c : Course) (ending : Ending) (out : List Msg) → 0 < h.next → CameTo f.reader h c ending
    → begins ending (read_so_far (on_course f.reader c) c.items) ≡ false → now ≡ with_reader f (stayed ending (on_course f.reader c)) → HasDone f now c.items out out (followed looks h)
unbegun_so looks f now h c ending out p t b n =
    let same = came_followed f.reader h c ending t looks p in
    let u = unbegun looks ending (on_course f.reader c) (all_items h) (sym (came_round f.reader h c ending t) ∙ b) in
    record {
      reader = n ∙ ap (with_reader f) (sym (ap (λ (a : Read). a.reader) same ∙ u.reader));
      gave = came_items f.reader h c ending t looks p;
      sent = sym (append-nil out) ∙ ap (λ k. out ++ messages_from f.reader.number f.reader.log k) (sym (ap (λ (a : Read). a.asks) same ∙ u.asks));
    }

-- a round begins with this look
pub begun_so : (looks : ℕ → View) (w : View) (f now : Following) (h : Reader) (c : Course) (ending : Ending) (r : Round) (old new : List Msg) → 0 < h.next → CameTo f.reader h c ending
    → begins ending (read_so_far (on_course f.reader c) c.items) ≡ true → looks (home_epoch c.place.next) ≡ w → r ≡ round_after ending w (not (length c.items == 0)) f.reader
    → now ≡ with_reader f (begun w r (placed f.reader c.place false))
    → new ≡ old ++ messages_from f.reader.number f.reader.log (begun_asks w r (placed f.reader c.place false)) → HasDone f now c.items old new (followed looks h)
begun_so looks w f now h c ending r old new p t b l e n s =
    let same = came_followed f.reader h c ending t looks p in
    let d = on_course f.reader c in
    let g = begun_by looks w ending d (all_items h) (came_left f.reader h c ending t b) l (sym (came_round f.reader h c ending t) ∙ b) in
    let gave : not (length c.items == 0) ≡ gave_item (all_items h) = gave_some c.items ∙ ap gave_item t.items ∙ gave_clipped f.reader.until (all_items h) in
    let round : round_after ending w (gave_item (all_items h)) d ≡ r = after_apart ending w (gave_item (all_items h)) f.reader c.place c.confirming ∙ ap (λ k. round_after ending w k f.reader) (sym gave) ∙ sym e in
    let apart = begun_apart w r f.reader c.place c.confirming in
    record {
      reader = n ∙ ap (with_reader f) (apart.0 ∙ sym (ap (λ (a : Read). a.reader) same ∙ (g.reader ∙ ap (λ k. begun w k d) round)));
      gave = came_items f.reader h c ending t looks p;
      sent = s ∙ ap (λ k. old ++ messages_from f.reader.number f.reader.log k) (apart.1 ∙ sym (ap (λ (a : Read). a.asks) same ∙ (g.asks ∙ ap (λ k. begun_asks w k d) round)));
    }

-- that is a later round, whatever looks show
later_on : (twice : Bool) (n : ℕ) → n < round_on twice n
later_on true n = omega arith
later_on false n = omega arith

round_later : (w : View) (r : Round) (d : Reader) → d.round < (begun w r d).round
round_later w (rounds.Over full twice) d = later_on twice d.round
round_later w (rounds.Again lost) d = omega arith

pub begun_later : (looks : ℕ → View) (f : Following) (h : Reader) (c : Course) (ending : Ending) → 0 < h.next → CameTo f.reader h c ending
    → begins ending (read_so_far (on_course f.reader c) c.items) ≡ true → f.reader.round < (followed looks h).reader.round
begun_later looks f h c ending p t b =
    let w = looks (home_epoch c.place.next) in
    let r = round_after ending w (not (length c.items == 0)) f.reader in
    let d = placed f.reader c.place false in
    let done = begun_so looks w f (with_reader f (begun w r d)) h c ending r [] ([] ++ messages_from f.reader.number f.reader.log (begun_asks w r d)) p t b refl refl refl refl in
    subst (λ n. f.reader.round < n) (ap (λ (x : Following). x.reader.round) done.reader) (round_later w r d)

-- ---- before a loss ----

abbrev swapped_read : (ℕ → View) → Reader → Read
swapped_read looks h = record { reader = starts false looks h; items = []; asks = start_asks false looks h; anew = true }

abbrev going : (ℕ → View) → Reader → Read → Read
going looks h a = next_round looks (gives_all (most_items h) looks a)

-- without one
pub quiet_so : (looks : ℕ → View) (h : Reader) → is_confirmed h.confirming ≡ false → heard_on looks h ≡ followed looks h
unfolding followed
quiet_so looks h e =
    let swapped : is_swapped looks h ≡ false = ap (λ (b : Bool). b && sees_swap h.seen (look_of looks h)) e in
    ap (λ (b : Bool). if b then swapped_read looks h else going looks h (loses looks h)) swapped
    ∙ ap (λ (b : Bool). going looks h (if b then gives (nothing_read (record h { seen = Some (look_of looks h) })) LossHere else nothing_read h)) e
    ∙ ap (λ (b : Bool). going looks h (lossy h b)) (sym e)

-- the look shows no change
pub sure_so : (looks : ℕ → View) (h : Reader) → is_confirmed h.confirming ≡ true → sees_swap h.seen (look_of looks h) ≡ false → heard_on looks h ≡ followed looks (record h { seen = Some (look_of looks h) })
unfolding followed
sure_so looks h e s =
    let swapped : is_swapped looks h ≡ false = ap (λ (b : Bool). b && sees_swap h.seen (look_of looks h)) e ∙ s in
    ap (λ (b : Bool). if b then swapped_read looks h else going looks h (loses looks h)) swapped
    ∙ ap (λ (b : Bool). going looks h (if b then gives (nothing_read (record h { seen = Some (look_of looks h) })) LossHere else nothing_read h)) e
    ∙ ap (λ (b : Bool). going looks h (lossy (record h { seen = Some (look_of looks h) }) b)) (sym e)

-- it shows one
pub swapped_so : (looks : ℕ → View) (h : Reader) → is_confirmed h.confirming ≡ true → sees_swap h.seen (look_of looks h) ≡ true → heard_on looks h ≡ swapped_read looks h
swapped_so looks h e s =
    let swapped : is_swapped looks h ≡ true = ap (λ (b : Bool). b && sees_swap h.seen (look_of looks h)) e ∙ s in
    ap (λ (b : Bool). if b then swapped_read looks h else going looks h (loses looks h)) swapped

-- ---- a call that asks ----

asked_by : (looks : ℕ → View) (f now : Following) (k : List (ℕ × Body)) (old new : List Msg) → is_finished f.reader ≡ false → now ≡ with_reader f (polled looks f.reader) → poll_asks looks f.reader ≡ k
    → new ≡ old ++ messages_from f.reader.number f.reader.log k → HasDone f now [] old new (asked looks f.reader)
asked_by looks f now k old new u n a s = record {
  reader = n ∙ ap (λ (b : Bool). with_reader f (if b then f.reader else polled looks f.reader)) (sym u);
  gave = refl;
  sent = s ∙ ap (λ m. old ++ messages_from f.reader.number f.reader.log m) (sym a) ∙ ap (λ (b : Bool). old ++ messages_from f.reader.number f.reader.log (if b then [] else poll_asks looks f.reader)) (sym u);
}

pub unasked_so : (looks : ℕ → View) (f : Following) (out : List Msg) → is_finished f.reader ≡ true → HasDone f f [] out out (asked looks f.reader)
unasked_so looks f out e = record {
  reader = ap (λ (b : Bool). with_reader f (if b then f.reader else polled looks f.reader)) (sym e);
  gave = refl;
  sent = sym (append-nil out) ∙ ap (λ (b : Bool). out ++ messages_from f.reader.number f.reader.log (if b then [] else poll_asks looks f.reader)) (sym e);
}

-- after the last round
pub last_so : (looks : ℕ → View) (f now : Following) (out : List Msg) → is_finished f.reader ≡ false → nat_lt f.reader.round last_round ≡ false
    → now ≡ with_reader f (record f.reader { confirming = None; polled = f.reader.next }) → HasDone f now [] out out (asked looks f.reader)
last_so looks f now out u e n =
    let same : polled looks f.reader ≡ record f.reader { confirming = None; polled = f.reader.next } = ap (λ (r : Reader). record r { polled = f.reader.next }) (unstarted (is_full_poll f.reader) looks f.reader e) in
    asked_by looks f now [] out out u (n ∙ ap (with_reader f) (sym same)) (unstarted_asks (is_full_poll f.reader) looks f.reader e) (sym (append-nil out))

-- a round begins with this look
pub asked_so : (looks : ℕ → View) (w : View) (f now : Following) (p : Place) (old new : List Msg) → is_finished f.reader ≡ false → nat_lt f.reader.round last_round ≡ true → looks (home_epoch p.next) ≡ w
    → p ≡ record { next = f.reader.next; until = f.reader.until } → now ≡ with_reader f (record (begun_over w (is_full_poll f.reader) false (placed f.reader p false)) { polled = f.reader.next })
    → new ≡ old ++ messages_from f.reader.number f.reader.log (begun_asks w (rounds.Over (is_full_poll f.reader) false) (placed f.reader p false)) → HasDone f now [] old new (asked looks f.reader)
asked_so looks w f now p old new u r l p_is n s =
    let d = f.reader in
    let full = is_full_poll d in
    let here : look_of looks d ≡ w = ap (λ (q : Place). looks (home_epoch q.next)) (sym p_is) ∙ l in
    asked_by looks f now (begun_asks w (rounds.Over full false) d) old new u
    (n ∙ ap (λ (q : Place). with_reader f (record (begun_over w full false (placed d q false)) { polled = d.next })) p_is ∙ ap (λ (k : Reader). with_reader f (record k { polled = d.next })) (sym (started full looks d r ∙ ap (λ v. begun_over v full false d) here)))
    (started_once full looks d r ∙ ap (λ v. begun_asks v (rounds.Over full false) d) here)
    (s ∙ ap (λ (q : Place). old ++ messages_from d.number d.log (begun_asks w (rounds.Over full false) (placed d q false))) p_is)

-- ---- from the answer as it came ----

-- what follows from what was heard is what the answer does
pub heard_so : (looks : Following → ℕ → View) (f g now : Following) (y : ℕ) (b : Body) (lasts : Bool) (items : List (ℕ × Item)) (old new : List Msg)
    → nat_lt (round_of b) f.reader.least ≡ false → with_reader g (lasting lasts g.reader) ≡ with_reader f (heard f.reader y b)
    → HasDone g now items old new (heard_on (looks (with_reader g (lasting lasts g.reader))) (lasting lasts g.reader)) → HasDone f now items old new (on_answer (looks (with_reader f (heard f.reader y b))) f.reader y b)
unfolding on_answer
heard_so looks f g now y b lasts items old new taken e h =
    let k : HasDone (with_reader g (lasting lasts g.reader)) now items old new (heard_on (looks (with_reader g (lasting lasts g.reader))) (lasting lasts g.reader)) = record { reader = h.reader; gave = h.gave; sent = h.sent } in
    let t = subst (λ (m : Following). HasDone m now items old new (heard_on (looks m) m.reader)) e k in
    let l = looks (with_reader f (heard f.reader y b)) in
    subst (λ (a : Read). HasDone f now items old new a) (ap (λ (n : Bool). if n then nothing_read f.reader else heard_on l (heard f.reader y b)) (sym taken)) (record { reader = t.reader; gave = t.gave; sent = t.sent })

same_reply : (looks : ℕ → View) (f : Following) (m : Msg) (y : ℕ) (b : Body) → is_finished f.reader ≡ false → m.from ≡ whos.Node y → b ≡ m.body → replied looks f m ≡ on_answer looks f.reader y b
same_reply looks f m y b u w e =
    ap (λ x. answered looks f.reader x m.body) w ∙ ap (λ x. answered looks f.reader (whos.Node y) x) (sym e)
    ∙ ap (λ (n : Bool). if n then nothing_read f.reader else on_answer looks f.reader y b) u

pub replied_so : (looks : ℕ → View) (f now : Following) (m : Msg) (y : ℕ) (b : Body) (items : List (ℕ × Item)) (old new : List Msg) → is_finished f.reader ≡ false → m.from ≡ whos.Node y → b ≡ m.body
    → HasDone f now items old new (on_answer looks f.reader y b) → HasDone f now items old new (replied looks f m)
replied_so looks f now m y b items old new u w e h = subst (λ (a : Read). HasDone f now items old new a) (sym (same_reply looks f m y b u w e)) h

-- so does its round, and so is a loss confirmed
pub replied_later : (looks : ℕ → View) (f g : Following) (m : Msg) (y : ℕ) (b : Body) (lasts : Bool) → is_finished f.reader ≡ false → m.from ≡ whos.Node y → b ≡ m.body
    → nat_lt (round_of b) f.reader.least ≡ false → with_reader g (lasting lasts g.reader) ≡ with_reader f (heard f.reader y b)
    → g.reader.round < (heard_on looks (lasting lasts g.reader)).reader.round → f.reader.round < (replied looks f m).reader.round
unfolding on_answer
replied_later looks f g m y b lasts u w e taken h later =
    let same : replied looks f m ≡ heard_on looks (heard f.reader y b) = same_reply looks f m y b u w e ∙ ap (λ (n : Bool). if n then nothing_read f.reader else heard_on looks (heard f.reader y b)) taken in
    let here : f.reader.round < (heard_on looks (heard f.reader y b)).reader.round = subst (λ (x : Following). x.reader.round < (heard_on looks x.reader).reader.round) h later in
    subst (λ n. f.reader.round < n) (ap (λ (a : Read). a.reader.round) (sym same)) here

pub confirmed_by : (f g : Following) (m : Msg) (y : ℕ) (b : Body) (lasts : Bool) → is_finished f.reader ≡ false → m.from ≡ whos.Node y → b ≡ m.body
    → nat_lt (round_of b) f.reader.least ≡ false → with_reader g (lasting lasts g.reader) ≡ with_reader f (heard f.reader y b)
    → confirms_next f m ≡ is_confirmed (lasting lasts g.reader).confirming
confirmed_by f g m y b lasts u w e taken h =
    ap (λ x. confirms_by f.reader x m.body) w ∙ ap (λ x. confirms_by f.reader (whos.Node y) x) (sym e)
    ∙ ap (λ (n : Bool). (not n && not (nat_lt (round_of b) f.reader.least)) && is_confirmed (heard f.reader y b).confirming) u
    ∙ ap (λ (n : Bool). not n && is_confirmed (heard f.reader y b).confirming) taken
    ∙ ap (λ (x : Following). is_confirmed x.reader.confirming) (sym h)

-- none is confirmed by a message of no node
pub other_confirms : (d : Reader) (w : Who) (b : Body) → ((y : ℕ) → w ≡ whos.Node y → ⊥) → confirms_by d w b ≡ false
other_confirms d (whos.Node y) b h = absurd (h y refl)
other_confirms d _ b h = refl

-- a message that does nothing
past_reply : (looks : ℕ → View) (d : Reader) (w : Who) (b : Body) → is_finished d ≡ true → answered looks d w b ≡ nothing_read d
past_reply looks d (whos.Node y) b e = ap (λ (n : Bool). if n then nothing_read d else on_answer looks d y b) e
past_reply looks d _ b e = refl

other_reply : (looks : ℕ → View) (d : Reader) (w : Who) (b : Body) → ((y : ℕ) → w ≡ whos.Node y → ⊥) → answered looks d w b ≡ nothing_read d
other_reply looks d (whos.Node y) b h = absurd (h y refl)
other_reply looks d _ b h = refl

nothing_so : (f : Following) (a : Read) (items : List (ℕ × Item)) (out : List Msg) → items ≡ [] → a ≡ nothing_read f.reader → HasDone f f items out out a
nothing_so f a items out i e = subst (λ (r : Read). HasDone f f items out out r) (sym e) (record { reader = refl; gave = i; sent = sym (append-nil out) })

pub past_so : (looks : ℕ → View) (f : Following) (m : Msg) (items : List (ℕ × Item)) (out : List Msg) → items ≡ [] → is_finished f.reader ≡ true → HasDone f f items out out (replied looks f m)
past_so looks f m items out i e = nothing_so f (replied looks f m) items out i (past_reply looks f.reader m.from m.body e)

pub other_so : (looks : ℕ → View) (f : Following) (m : Msg) (items : List (ℕ × Item)) (out : List Msg) → items ≡ [] → ((y : ℕ) → m.from ≡ whos.Node y → ⊥) → HasDone f f items out out (replied looks f m)
other_so looks f m items out i h = nothing_so f (replied looks f m) items out i (other_reply looks f.reader m.from m.body h)

-- an answer of a round that isn't taken any more
pub stale_so : (looks : ℕ → View) (f : Following) (m : Msg) (y : ℕ) (items : List (ℕ × Item)) (out : List Msg) → items ≡ [] → is_finished f.reader ≡ false → m.from ≡ whos.Node y
    → nat_lt (round_of m.body) f.reader.least ≡ true → HasDone f f items out out (replied looks f m)
unfolding on_answer
stale_so looks f m y items out i u w e =
    nothing_so f (replied looks f m) items out i (same_reply looks f m y m.body u w refl ∙ ap (λ (n : Bool). if n then nothing_read f.reader else heard_on looks (heard f.reader y m.body)) e)

-- ---- what was heard ----

pub if_ok : {T E : Type 0} (P Q : T → Type 0) (r : Result T E) → ((x : T) → P x → Q x) → IfOk r P → IfOk r Q
if_ok P Q (Ok x) f h = f x h
if_ok P Q (Err e) f h = tt

-- no loss is confirmed
pub quiet_done : (looks : ℕ → View) (lasts : Bool) (f now : Following) (items : List (ℕ × Item)) (old new : List Msg) → is_confirmed (lasting lasts f.reader).confirming ≡ false
    → HasDone f now items old new (followed looks (lasting lasts f.reader)) → HasDone f now items old new (heard_on looks (lasting lasts f.reader))
quiet_done looks lasts f now items old new e h = subst (λ (a : Read). HasDone f now items old new a) (sym (quiet_so looks (lasting lasts f.reader) e)) h

-- the look before a loss shows a change
pub swapped_done : (looks : ℕ → View) (w : View) (lasts : Bool) (f now : Following) (items : List (ℕ × Item)) (old new : List Msg) → is_confirmed (lasting lasts f.reader).confirming ≡ true → look_of looks f.reader ≡ w → sees_swap f.reader.seen w ≡ true
    → items ≡ [] → now ≡ with_reader f (begun_anew w f.reader) → new ≡ old ++ messages_from f.reader.number f.reader.log (anew_asks w f.reader) → HasDone f now items old new (heard_on looks (lasting lasts f.reader))
swapped_done looks w lasts f now items old new e l s i n m =
    let d = f.reader in
    let h = lasting lasts d in
    let same : heard_on looks h ≡ swapped_read looks h = swapped_so looks h e (ap (sees_swap d.seen) l ∙ s) in
    let anew = anew_so looks h in
    subst (λ (a : Read). HasDone f now items old new a) (sym same) (record {
      reader = n ∙ ap (λ v. with_reader f (begun_anew v d)) (sym l) ∙ ap (with_reader f) (sym anew.0);
      gave = i;
      sent = m ∙ ap (λ v. old ++ messages_from d.number d.log (anew_asks v d)) (sym l) ∙ ap (λ q. old ++ messages_from d.number d.log q) (sym anew.1);
    })

-- it shows none
pub sure_done : (looks : ℕ → View) (w : View) (lasts : Bool) (f g now : Following) (items : List (ℕ × Item)) (old new : List Msg) → is_confirmed (lasting lasts f.reader).confirming ≡ true → look_of looks f.reader ≡ w → sees_swap f.reader.seen w ≡ false
    → g ≡ with_reader f (record f.reader { seen = Some w }) → HasDone g now items old new (followed looks (lasting lasts g.reader)) → HasDone f now items old new (heard_on looks (lasting lasts f.reader))
sure_done looks w lasts f g now items old new e l s q there =
    let d = f.reader in
    let h = lasting lasts d in
    let same : heard_on looks h ≡ followed looks (record h { seen = Some w }) = sure_so looks h e (ap (sees_swap d.seen) l ∙ s) ∙ ap (λ v. followed looks (record h { seen = Some v })) l in
    let here = subst (λ (x : Following). HasDone x now items old new (followed looks (lasting lasts x.reader))) q there in
    subst (λ (a : Read). HasDone f now items old new a) (sym same) (record { reader = here.reader; gave = here.gave; sent = here.sent })
