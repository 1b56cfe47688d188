-- What an answer comes to at a reader whose last look is that of its next number: it goes on, or waits, or asks those again that are lost, or asks all.
use Rattle.std.proofs.Common.{◌≡◌, ◌∙◌, ◌≤◌, ◌<◌, ℕ, zero, suc, refl, ap, sym, subst, Bool, true, false, not, ◌&&◌, nat_lt, if◌then◌else◌, List, [], Some, arith, eq-eqb}
use Rattle.ld_msg.specs.declared.msg.Body.{Body}
use Rattle.ld_msg.specs.Register.{View}
use Rattle.ld_msg.specs.Reading.{Held, Item, TrimTo, RecordHere, HoleHere, BridgeTo, LossHere, LossTo, Verdict, Gives, Confirms, AsksAll, NotYet, decide, is_loss, within, lost_held, trim_held, bridge_to}
use Rattle.ld_msg.specs.Reader.{Reader, Read, is_finished, may_confirm, seen_nodes, misses, verdict, item_end, after_item, gives, confirms, asks_all, gives_all, most_items, heard, nothing_read, look_of, sees_swap, is_confirmed, asks_on, starts, start_asks, next_round, goes_through, heard_on, round_of, on_answer}
use Rattle.ld_safety.proofs.Lists.{cond_both}
use Rattle.ld_safety.proofs.LostReads.{not_finished}
use Rattle.ld_safety.proofs.ReaderSteps.{decided, below_end}

-- ---- what a verdict says ----

gives_inj : (i j : Item) → Gives i ≡ Gives j → i ≡ j
gives_inj i j e = cc

confirms_inj : (xs ys : List (ℕ × ℕ)) → Confirms xs ≡ Confirms ys → xs ≡ ys
confirms_inj xs ys e = cc

-- an item ends at the number or above it
item_above : (s : ℕ) (m may : Bool) (set : List ℕ) (hs : List (ℕ × Held)) (i : Item) → decide s m may set hs ≡ Gives i → s ≤ item_end s i
item_above s m may set hs i e = decided s m may set hs (λ v. v ≡ Gives i → s ≤ item_end s i) (record {
  trim = λ h k. by_item (TrimTo (trim_held hs)) k h;
  record_there = λ p h k. by_item (RecordHere p) k (omega arith);
  hole_there = λ h k. by_item HoleHere k (omega arith);
  plug = λ h k. by_item LossHere k (omega arith);
  asks_all = λ h j k. absurd (let z : AsksAll ≡ Gives i = k in cc);
  bridge = λ h k. by_item (BridgeTo (bridge_to s)) k (below_end s);
  lossy_end = λ h k. by_item (LossTo (bridge_to s)) k (below_end s);
  confirm = λ h j k. absurd (let z : Confirms (lost_held s (within set hs)) ≡ Gives i = k in cc);
  not_yet = λ k. absurd (let z : NotYet ≡ Gives i = k in cc);
}) e where
  by_item : (j : Item) → Gives j ≡ Gives i → s ≤ item_end s j → s ≤ item_end s i
  by_item j k h = subst (λ x. s ≤ item_end s x) (gives_inj j i k) h

-- so the next number is greater after it
gives_rise : (d : Reader) (i : Item) → verdict d ≡ Gives i → d.next < (after_item d i).next
gives_rise d i e = by_finished (is_finished d) refl e where
  by_finished : (b : Bool) → is_finished d ≡ b → (if b then NotYet else decide d.next (misses d d.senders) (may_confirm d) (seen_nodes d.seen) d.held) ≡ Gives i → d.next < (after_item d i).next
  by_finished true f k = absurd (let z : NotYet ≡ Gives i = k in cc)
  by_finished false f k = let a = item_above d.next (misses d d.senders) (may_confirm d) (seen_nodes d.seen) d.held i k in let b = not_finished d f in omega arith

record Confirmed (d : Reader) (lost : List (ℕ × ℕ)) : Type 0 where
  is : lost ≡ lost_held d.next (within (seen_nodes d.seen) d.held)
  may : may_confirm d ≡ true
  loss : is_loss d.next (seen_nodes d.seen) d.held ≡ true

confirms_so : (d : Reader) (lost : List (ℕ × ℕ)) → verdict d ≡ Confirms lost → Confirmed d lost
confirms_so d lost e = by_finished (is_finished d) refl e where
  by_finished : (b : Bool) → is_finished d ≡ b → (if b then NotYet else decide d.next (misses d d.senders) (may_confirm d) (seen_nodes d.seen) d.held) ≡ Confirms lost → Confirmed d lost
  by_finished true f k = absurd (let z : NotYet ≡ Confirms lost = k in cc)
  by_finished false f k = decided d.next (misses d d.senders) (may_confirm d) (seen_nodes d.seen) d.held (λ v. v ≡ Confirms lost → Confirmed d lost) (record {
    trim = λ h j. absurd (let z : Gives (TrimTo (trim_held d.held)) ≡ Confirms lost = j in cc);
    record_there = λ p h j. absurd (let z : Gives (RecordHere p) ≡ Confirms lost = j in cc);
    hole_there = λ h j. absurd (let z : Gives HoleHere ≡ Confirms lost = j in cc);
    plug = λ h j. absurd (let z : Gives LossHere ≡ Confirms lost = j in cc);
    asks_all = λ h j k. absurd (let z : AsksAll ≡ Confirms lost = k in cc);
    bridge = λ h j. absurd (let z : Gives (BridgeTo (bridge_to d.next)) ≡ Confirms lost = j in cc);
    lossy_end = λ h j. absurd (let z : Gives (LossTo (bridge_to d.next)) ≡ Confirms lost = j in cc);
    confirm = λ may loss j. record { is = sym (confirms_inj (lost_held d.next (within (seen_nodes d.seen) d.held)) lost j); may = may; loss = loss };
    not_yet = λ j. absurd (let z : NotYet ≡ Confirms lost = j in cc);
  }) k

-- ---- the going-through ----

-- the next number never falls
through_up : (k : ℕ) (looks : ℕ → View) (a : Read) → a.reader.next ≤ (gives_all k looks a).reader.next
through_up zero looks a = omega arith
through_up (suc k) looks a = by_verdict (verdict a.reader) refl (λ b. through_up k looks b) where
  by_verdict : (v : Verdict) → verdict a.reader ≡ v → ((b : Read) → b.reader.next ≤ (gives_all k looks b).reader.next)
      → a.reader.next ≤ (elim v as (λ _. Read) [ Gives i ↦ gives_all k looks (gives a i) | Confirms lost ↦ confirms looks a lost | AsksAll ↦ asks_all looks a | NotYet ↦ a ]).reader.next
  by_verdict (Gives i) e up = let z = gives_rise a.reader i e in let u = up (gives a i) in omega arith
  by_verdict (Confirms lost) e up = omega arith
  by_verdict AsksAll e up = omega arith
  by_verdict NotYet e up = omega arith

-- what comes of an answer
pub data Came (looks : ℕ → View) (d : Reader) (y : ℕ) (b : Body) (r : Read) : Type 0 where
  passes : d.next < r.reader.next → Came looks d y b r
  waits : r ≡ nothing_read (heard d y b) → verdict (heard d y b) ≡ NotYet → Came looks d y b r
  asks_lost : r ≡ confirms looks (nothing_read (heard d y b)) (lost_held d.next (within (seen_nodes d.seen) (heard d y b).held)) → may_confirm (heard d y b) ≡ true → is_loss d.next (seen_nodes d.seen) (heard d y b).held ≡ true → Came looks d y b r
  asks_again : r ≡ asks_all looks (nothing_read (heard d y b)) → Came looks d y b r

module _ (looks : ℕ → View) (d : Reader) (y : ℕ) (b : Body) where
  rounds_up : (a : Read) → a.reader.next ≤ (next_round looks a).reader.next
  rounds_up a = by_asks (asks_on a) where
    by_asks : (t : Bool) → a.reader.next ≤ (if t then starts false looks a.reader else a.reader).next
    by_asks true = omega arith
    by_asks false = omega arith

  goes : (k : ℕ) → 1 ≤ k → Came looks d y b (next_round looks (gives_all k looks (nothing_read (heard d y b))))
  goes zero h = absurd (omega arith)
  goes (suc k) h = by_verdict (verdict (heard d y b)) refl where
    by_verdict : (v : Verdict) → verdict (heard d y b) ≡ v → Came looks d y b (next_round looks (elim v as (λ _. Read) [
      | Gives i ↦ gives_all k looks (gives (nothing_read (heard d y b)) i)
      | Confirms lost ↦ confirms looks (nothing_read (heard d y b)) lost
      | AsksAll ↦ asks_all looks (nothing_read (heard d y b))
      | NotYet ↦ nothing_read (heard d y b)
    ]))
    by_verdict (Gives i) e = passes (let z = gives_rise (heard d y b) i e in let u = through_up k looks (gives (nothing_read (heard d y b)) i) in let w = rounds_up (gives_all k looks (gives (nothing_read (heard d y b)) i)) in omega arith)
    by_verdict (Confirms lost) e = let z = confirms_so (heard d y b) lost e in asks_lost (ap (confirms looks (nothing_read (heard d y b))) z.is) z.may z.loss
    by_verdict AsksAll e = asks_again refl
    by_verdict NotYet e = waits refl e

  -- a confirmed loss is an item
  lost_rise : is_finished d ≡ false → (k : ℕ) → d.next < (next_round looks (gives_all k looks (gives (nothing_read (record (heard d y b) { seen = Some (look_of looks d) })) LossHere))).reader.next
  lost_rise f k = let n = not_finished d f in let a : Read = gives (nothing_read (record (heard d y b) { seen = Some (look_of looks d) })) LossHere in
      let u = through_up k looks a in let w = rounds_up (gives_all k looks a) in omega arith

  same_look : d.seen ≡ Some (look_of looks d) → sees_swap d.seen (look_of looks d) ≡ false
  same_look e = ap (λ o. sees_swap o (look_of looks d)) e ∙ ap not (eq-eqb (look_of looks d).swaps (look_of looks d).swaps refl)

  through : is_finished d ≡ false → (t : Bool) → Came looks d y b (next_round looks (gives_all (most_items (heard d y b)) looks (if t then gives (nothing_read (record (heard d y b) { seen = Some (look_of looks d) })) LossHere else nothing_read (heard d y b))))
  through f true = passes (lost_rise f (most_items (heard d y b)))
  through f false = goes (most_items (heard d y b)) (omega arith)

  by_swap : is_finished d ≡ false → (t s : Bool) → s ≡ false → Came looks d y b (if t && s then record { reader = starts false looks (heard d y b); items = []; asks = start_asks false looks (heard d y b); anew = true } else goes_through looks (heard d y b))
  by_swap f t true e = absurd (let z : true ≡ false = e in cc)
  by_swap f true false e = through f (is_confirmed (heard d y b).confirming)
  by_swap f false false e = through f (is_confirmed (heard d y b).confirming)

  pub came : is_finished d ≡ false → d.seen ≡ Some (look_of looks d) → nat_lt (round_of b) d.least ≡ false → Came looks d y b (on_answer looks d y b)
  unfolding on_answer
  came f e h = cond_both (nat_lt (round_of b) d.least) (nothing_read d) (heard_on looks (heard d y b)) (λ r. Came looks d y b r) (λ t. absurd (let z : true ≡ false = sym t ∙ h in cc)) (λ t. by_swap f (is_confirmed (heard d y b).confirming) (sees_swap d.seen (look_of looks d)) (same_look e))
