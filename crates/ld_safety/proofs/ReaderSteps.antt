-- What an answer makes a reader do, case by case.
use Rattle.std.proofs.Common.{inl, inr, ◌∙◌, ◌∷◌, ◌≡◌, ◌≤◌, ℕ, zero, suc, ◌+◌, ◌-◌, refl, ap, ◌⊎◌, ◌<◌, Bool, true, false, not, cond, ◌&&◌, ◌==◌, nat_lt, nat_le, if◌then◌else◌, List, [], ◌++◌, subst, sym, Option, Some, None, arith}
use Rattle.std.proofs.lemmas.Bool.{and_parts, leb-true, ltb-true, eqb-true}
use Rattle.ld_lsn.specs.Number.{home_epoch, epoch_end, epoch_of, esn_of, is_epoch_end, numbered}
use Rattle.ld_msg.specs.declared.msg.Body.{Body}
use Rattle.ld_msg.specs.declared.msg.Body.TheVariants as bodies
use Rattle.ld_ids.specs.Choice.{nodes_of}
use Rattle.ld_msg.specs.Reading.{Held, TrimTo, RecordHere, HoleHere, BridgeTo, LossHere, LossTo, Verdict, Gives, Confirms, NotYet, decide, trim_held, record_held, hole_held, plug_held, end_held, end_shown, is_loss, within, lost_held, bridge_to, entry_verdict, end_verdict, loss_verdict, copy_verdict, withheld_held, AsksAll}
use Rattle.ld_msg.specs.Register.{View}
use Rattle.ld_msg.specs.Reader as reader
use Rattle.ld_msg.specs.Reader.{Reader, Read, is_finished, may_confirm, seen_nodes, gives, confirms, gives_all, most_items, heard, nothing_read, round_of, look_of, sees_swap, loses, goes_through, heard_on, is_confirmed, asks_on, asks_all, misses, start_asks, round_ask, senders_of, asks_with, asks_of, Senders, last_round, keys, is_confirming, has_seen, on_answer}
use Rattle.ld_table.specs.Words.{or_else}
use Rattle.ld_machine.specs.World.{In}
use Rattle.ld_safety.proofs.Lists.{cond_both, not_none}

pub record Deciding (s : ℕ) (misses may : Bool) (set : List ℕ) (hs : List (ℕ × Held)) (Q : Verdict → Type 0) : Type 0 where
  pub trim : s ≤ trim_held hs → Q (Gives (TrimTo (trim_held hs)))
  pub record_there : (p : List ℕ) → record_held s hs ≡ Some p → Q (Gives (RecordHere p))
  pub hole_there : hole_held s hs ≡ true → Q (Gives HoleHere)
  pub plug : plug_held s hs ≡ true → Q (Gives LossHere)
  pub asks_all : misses ≡ true → withheld_held s hs ≡ true → Q AsksAll
  pub bridge : end_held s hs ≡ Some false → Q (Gives (BridgeTo (bridge_to s)))
  pub lossy_end : end_held s hs ≡ Some true → Q (Gives (LossTo (bridge_to s)))
  pub confirm : may ≡ true → is_loss s set hs ≡ true → Q (Confirms (lost_held s (within set hs)))
  pub not_yet : Q NotYet

module _ (s : ℕ) (misses may : Bool) (set : List ℕ) (hs : List (ℕ × Held)) (Q : Verdict → Type 0) (K : Deciding s misses may set hs Q) where
  no_end : (o : Option Bool) → end_held s hs ≡ o → Q (end_verdict s o (loss_verdict s may set hs))
  no_end (Some true) e = K.lossy_end e
  no_end (Some false) e = K.bridge e
  no_end None e = cond_both (may && is_loss s set hs) _ _ Q (λ u. let p = and_parts may (is_loss s set hs) u in K.confirm p.0 p.1) (λ u. K.not_yet)

  no_copy : (w : Bool) → withheld_held s hs ≡ w → Q (copy_verdict w misses (end_verdict s (end_held s hs) (loss_verdict s may set hs)))
  no_copy true e = cond_both misses AsksAll _ Q (λ t. K.asks_all t e) (λ t. no_end (end_held s hs) refl)
  no_copy false e = no_end (end_held s hs) refl

  no_entry : (o : Option (List ℕ)) (h p : Bool) → record_held s hs ≡ o → hole_held s hs ≡ h → plug_held s hs ≡ p → Q (entry_verdict o h p (copy_verdict (withheld_held s hs) misses (end_verdict s (end_held s hs) (loss_verdict s may set hs))))
  no_entry (Some x) h p e f g = K.record_there x e
  no_entry None true p e f g = K.hole_there f
  no_entry None false true e f g = K.plug g
  no_entry None false false e f g = no_copy (withheld_held s hs) refl

  pub decided : Q (decide s misses may set hs)
  unfolding decide
  decided = cond_both (nat_le s (trim_held hs)) _ _ Q (λ t. K.trim (leb-true s (trim_held hs) t)) (λ t. no_entry (record_held s hs) (hole_held s hs) (plug_held s hs) refl refl refl)

-- what is held after a look: all, or nothing
pub dropped_held : (P : List (ℕ × Held) → Type 0) → P [] → (t : Bool) (hs : List (ℕ × Held)) → P hs → P (if t then [] else hs)
dropped_held P e true hs h = e
dropped_held P e false hs h = h

-- ---- asks ----

-- an ask of a round from a number on: for all that a node has, or for one copy of each payload
abbrev pub IsAskOf : ℕ → ℕ → Body → Type 0
IsAskOf round from b = (b ≡ bodies.ReadAsk round from) ⊎ ((set excluded : List Bool) × (b ≡ bodies.ReadOne round from set excluded))

pub asks_are : (b : Body) (ys : List ℕ) (x : ℕ × Body) → In x (asks_with b ys) → x.1 ≡ b
asks_are b [] x i = absurd i
asks_are b (y ∷ ys) x (inl e) = ap (λ (z : ℕ × Body). z.1) e
asks_are b (y ∷ ys) x (inr i) = asks_are b ys x i

pub asks_for_all : (round next : ℕ) (set : List ℕ) (x : ℕ × Body) → In x (asks_of round next set) → x.1 ≡ bodies.ReadAsk round next
asks_for_all round next set x i = asks_are (bodies.ReadAsk round next) set x i

round_asks : (o : Option Senders) (round next : ℕ) (b : Body) → b ≡ round_ask o round next → IsAskOf round next b
round_asks None round next b e = inl e
round_asks (Some o) round next b e = inr (o.set, o.excluded, e)

-- the asks of a new round are of it, and it is a greater one
pub start_are : (full : Bool) (looks : ℕ → View) (d : Reader) (x : ℕ × Body) → In x (start_asks full looks d) → IsAskOf (reader.starts full looks d).round d.next x.1 × (d.round < (reader.starts full looks d).round)
start_are full looks d x i = by_limit (nat_lt d.round last_round) i where
  by_limit : (t : Bool) → In x (cond t (asks_with (round_ask (senders_of full (look_of looks d) d) (d.round + 1) d.next) (nodes_of (look_of looks d).spec)) []) → IsAskOf (cond t (d.round + 1) d.round) d.next x.1 × (d.round < cond t (d.round + 1) d.round)
  by_limit true j = (round_asks (senders_of full (look_of looks d) d) (d.round + 1) d.next x.1 (asks_are _ (nodes_of (look_of looks d).spec) x j), omega arith)
  by_limit false j = absurd j

-- so are those of a confirmation
pub confirm_are : (looks : ℕ → View) (a : Read) (lost : List (ℕ × ℕ)) → may_confirm a.reader ≡ true → (x : ℕ × Body) → In x (confirms looks a lost).asks → IsAskOf (a.reader.round + 1) a.reader.next x.1
confirm_are looks a lost m x i = cond_both (sees_swap a.reader.seen (look_of looks a.reader)) (start_asks false looks a.reader) (asks_of (a.reader.round + 1) a.reader.next (keys lost)) (λ z. In x z → IsAskOf (a.reader.round + 1) a.reader.next x.1)
    (λ t j. subst (λ (k : Bool). IsAskOf (if k then a.reader.round + 1 else a.reader.round) a.reader.next x.1) lower (start_are false looks a.reader x j).0) (λ t j. inl (asks_for_all _ _ _ x j)) i where
      lower : nat_lt a.reader.round last_round ≡ true
      lower = (and_parts (not (is_confirming a.reader.confirming)) (nat_lt a.reader.round last_round) (and_parts (not (is_confirming a.reader.confirming) && nat_lt a.reader.round last_round) (has_seen (home_epoch a.reader.next) a.reader.seen) m).0).1

pub record ReadKeeps (looks : ℕ → View) (d : Reader) (y : ℕ) (b : Body) (I : Read → Type 0) : Type 0 where
  pub starts : I (nothing_read (heard d y b))
  -- an answer that isn't taken; a confirmed loss, where the last look shows the same sets, and where it doesn't
  pub ignored : nat_lt (round_of b) d.least ≡ true → I (nothing_read d)
  pub loss : is_confirmed (heard d y b).confirming ≡ true → sees_swap d.seen (look_of looks d) ≡ false → I (gives (nothing_read (record (heard d y b) { seen = Some (look_of looks d) })) LossHere)
  pub swapped : is_confirmed (heard d y b).confirming ≡ true → sees_swap d.seen (look_of looks d) ≡ true → I (record { reader = reader.starts false looks (heard d y b); items = []; asks = start_asks false looks (heard d y b); anew = true })
  pub trim : (a : Read) → I a → is_finished a.reader ≡ false → a.reader.next ≤ trim_held a.reader.held → I (gives a (TrimTo (trim_held a.reader.held)))
  pub record_there : (a : Read) (p : List ℕ) → I a → is_finished a.reader ≡ false → record_held a.reader.next a.reader.held ≡ Some p → I (gives a (RecordHere p))
  pub hole_there : (a : Read) → I a → is_finished a.reader ≡ false → hole_held a.reader.next a.reader.held ≡ true → I (gives a HoleHere)
  pub plug : (a : Read) → I a → is_finished a.reader ≡ false → plug_held a.reader.next a.reader.held ≡ true → I (gives a LossHere)
  pub bridge : (a : Read) → I a → is_finished a.reader ≡ false → end_held a.reader.next a.reader.held ≡ Some false → I (gives a (BridgeTo (bridge_to a.reader.next)))
  pub lossy_end : (a : Read) → I a → is_finished a.reader ≡ false → end_held a.reader.next a.reader.held ≡ Some true → I (gives a (LossTo (bridge_to a.reader.next)))
  pub confirm : (a : Read) → I a → is_finished a.reader ≡ false → may_confirm a.reader ≡ true → is_loss a.reader.next (seen_nodes a.reader.seen) a.reader.held ≡ true → I (confirms looks a (lost_held a.reader.next (within (seen_nodes a.reader.seen) a.reader.held)))
  pub asks_all : (a : Read) → I a → is_finished a.reader ≡ false → I (asks_all looks a)
  pub polls_on : (a : Read) → I a → asks_on a ≡ true → I (record { reader = reader.starts false looks a.reader; items = a.items; asks = a.asks ++ start_asks false looks a.reader; anew = a.anew })

module _ (looks : ℕ → View) (d : Reader) (y : ℕ) (b : Body) (I : Read → Type 0) (K : ReadKeeps looks d y b I) where
  going : (k : ℕ) (a : Read) → Verdict → Read
  going k a v = elim v as (λ _. Read) [ Gives i ↦ gives_all k looks (gives a i) | Confirms lost ↦ confirms looks a lost | AsksAll ↦ asks_all looks a | NotYet ↦ a ]

  all_given : (k : ℕ) (a : Read) → I a → I (gives_all k looks a)
  unfolding going
  all_given zero a h = h
  all_given (suc k) a h = cond_both (is_finished a.reader) NotYet (decide a.reader.next (misses a.reader a.reader.senders) (may_confirm a.reader) (seen_nodes a.reader.seen) a.reader.held) (λ v. I (going k a v)) (λ t. h)
      (λ t. decided a.reader.next (misses a.reader a.reader.senders) (may_confirm a.reader) (seen_nodes a.reader.seen) a.reader.held (λ v. I (going k a v)) (record {
        trim = λ u. all_given k _ (K.trim a h t u);
        record_there = λ p u. all_given k _ (K.record_there a p h t u);
        hole_there = λ u. all_given k _ (K.hole_there a h t u);
        plug = λ u. all_given k _ (K.plug a h t u);
        asks_all = λ u v. K.asks_all a h t;
        bridge = λ u. all_given k _ (K.bridge a h t u);
        lossy_end = λ u. all_given k _ (K.lossy_end a h t u);
        confirm = λ u v. K.confirm a h t u v;
        not_yet = h;
      }))

  rounded : (a : Read) → I a → (o : Bool) → asks_on a ≡ o → I (record { reader = if o then reader.starts false looks a.reader else a.reader; items = a.items; asks = if o then a.asks ++ start_asks false looks a.reader else a.asks; anew = a.anew })
  rounded a h true e = K.polls_on a h e
  rounded a h false e = h

  through : I (loses looks (heard d y b)) → I (goes_through looks (heard d y b))
  through h = rounded (gives_all (most_items (heard d y b)) looks (loses looks (heard d y b))) (all_given (most_items (heard d y b)) (loses looks (heard d y b)) h) _ refl

  by_swap : (o s : Bool) → is_confirmed (heard d y b).confirming ≡ o → sees_swap d.seen (look_of looks d) ≡ s → I (if o && s then record { reader = reader.starts false looks (heard d y b); items = []; asks = start_asks false looks (heard d y b); anew = true } else goes_through looks (heard d y b))
  by_swap true true e f = K.swapped e f
  by_swap true false e f = through (subst (λ o. I (if o then gives (nothing_read (record (heard d y b) { seen = Some (look_of looks d) })) LossHere else nothing_read (heard d y b))) (sym e) (K.loss e f))
  by_swap false s e f = through (subst (λ o. I (if o then gives (nothing_read (record (heard d y b) { seen = Some (look_of looks d) })) LossHere else nothing_read (heard d y b))) (sym e) K.starts)

  pub answered : I (on_answer looks d y b)
  unfolding on_answer
  answered = cond_both (nat_lt (round_of b) d.least) (nothing_read d) (heard_on looks (heard d y b)) I (λ t. K.ignored t) (λ t. by_swap (is_confirmed (heard d y b).confirming) (sees_swap d.seen (look_of looks d)) refl refl)

-- an end that is held is one of the answers'
pub end_in : (s : ℕ) (hs : List (ℕ × Held)) (b : Bool) → end_held s hs ≡ Some b → (h : ℕ × Held) × In h hs × (end_shown s h.1.body ≡ Some b)
end_in s [] b e = absurd (not_none e)
end_in s (h ∷ hs) b e = by_shown (end_shown s h.1.body) refl e (end_in s hs b) where
  by_shown : (o : Option Bool) → end_shown s h.1.body ≡ o → or_else o (end_held s hs) ≡ Some b → (end_held s hs ≡ Some b → (k : ℕ × Held) × In k hs × (end_shown s k.1.body ≡ Some b)) → (k : ℕ × Held) × In k (h ∷ hs) × (end_shown s k.1.body ≡ Some b)
  by_shown (Some x) f q ih = (h, inl refl, f ∙ q)
  by_shown None f q ih = let z = ih q in (z.0, inr z.1, z.2)

-- the end of a number's epoch isn't below it
pub below_end : (s : ℕ) → s ≤ epoch_end (home_epoch s)
below_end s = cond_both (is_epoch_end s) (epoch_of s - 1) (epoch_of s) (λ h. s ≤ numbered (h + 1) 0)
    (λ t. let p = and_parts (esn_of s == 0) (nat_lt 0 (epoch_of s)) t in let q = eqb-true (esn_of s) 0 p.0 in let r = ltb-true 0 (epoch_of s) p.1 in omega arith)
    (λ t. omega arith)
