-- What an answer leaves of a reader's rounds and of its confirmation.
use Rattle.std.proofs.Common.{◌≡◌, ◌∙◌, ◌⊎◌, ◌≤◌, ◌<◌, ℕ, ◌+◌, min, inl, inr, refl, ap, sym, subst, Bool, true, false, ◌&&◌, not, ◌==◌, nat_lt, if◌then◌else◌, List, [], ◌++◌, Option, Some, None, arith}
use Rattle.std.proofs.lemmas.Bool.{cases_Bool, and_parts, ltb-false, eqb-true}
use Rattle.ld_table.specs.Table.{find, put}
use Rattle.ld_table.specs.Words.{is_in, with_one}
use Rattle.ld_lsn.specs.Number.{home_epoch}
use Rattle.ld_msg.specs.declared.msg.What.{What}
use Rattle.ld_msg.specs.declared.msg.What.TheVariants.{Rec, Hole, Bridge, Plug, Withheld}
use Rattle.ld_msg.specs.declared.msg.Body.{Body}
use Rattle.ld_msg.specs.declared.msg.Body.TheVariants as bodies
use Rattle.ld_msg.specs.Reading.{Held, Item, TrimTo, RecordHere, HoleHere, BridgeTo, LossHere, LossTo, trim_held, page_at, plug_held, is_plug, end_held, end_shown, is_loss, within, lost_held, bridge_to}
use Rattle.ld_msg.specs.Register.{View}
use Rattle.ld_msg.specs.Reader.{Reader, Read, Confirmation, is_finished, may_confirm, is_confirming, seen_nodes, has_seen, look_of, shown_swaps, sees_swap, nothing_read, heard_on, gives, confirms, heard, is_newer, round_of, confirming_with, confirms_loss, same_generation, is_confirmed, polled, poll_asks, asks_of, last_round, item_end, on_answer, starts, start_asks, is_full_poll, keys}
use Rattle.ld_machine.specs.World.{In}
use Rattle.ld_safety.proofs.Lists.{Some_inj, not_none, not_both, branch, cond_both, In-append, only, any_in}
use Rattle.ld_safety.proofs.Members.{In_put}
use Rattle.ld_safety.proofs.Losses.{with_one_in}
use Rattle.ld_safety.proofs.ReaderSteps.{ReadKeeps, IsAskOf, dropped_held, answered, below_end, end_in, start_are, confirm_are, asks_for_all}

-- an ask of a round, at or below the next number
pub record AskOf (low round next : ℕ) (b : Body) : Type 0 where
  pub at : ℕ
  pub from : ℕ
  pub above : low < at
  pub upto : at ≤ round
  pub is : IsAskOf at from b
  pub below : from ≤ next

-- the node says again that it is lost, under the generation that was held for it
pub record SaysAgain (u : Confirmation) (y : ℕ) (b : Body) : Type 0 where
  pub number : ℕ
  pub generation : ℕ
  pub end : ℕ
  pub is : b ≡ bodies.LostHere number u.round generation end
  pub asked : find y u.asked ≡ Some generation

-- the confirmation that lasted goes on
pub record Lasts (d : Reader) (y : ℕ) (b : Body) (r : Reader) (v : Confirmation) : Type 0 where
  pub before : Confirmation
  pub was : d.confirming ≡ Some before
  pub round : v.round ≡ before.round
  pub asked : v.asked ≡ before.asked
  pub told : (z : ℕ) → is_in z v.told ≡ true → (is_in z before.told ≡ true) ⊎ ((z ≡ y) × SaysAgain before y b)
  pub next : r.next ≡ d.next

-- what a look showed: that of before, or one of these
abbrev pub SeenBy : (ℕ → View) → Reader → Option View → Type 0
SeenBy looks d o = (o ≡ d.seen) ⊎ ((e : ℕ) × (o ≡ Some (looks e)))

-- a new one begins, over the nodes that the last look at the number's epoch showed
pub record Begins (looks : ℕ → View) (d : Reader) (a : Read) (v : Confirmation) : Type 0 where
  pub view : Option View
  pub came : SeenBy looks d view
  pub seen : has_seen (home_epoch a.reader.next) view ≡ true
  pub round : v.round ≡ a.reader.round
  pub higher : d.round < v.round
  pub told : v.told ≡ []
  pub asked : v.asked ≡ lost_held a.reader.next (within (seen_nodes view) a.reader.held)
  pub loss : is_loss a.reader.next (seen_nodes view) a.reader.held ≡ true
  pub same : sees_swap view (looks (home_epoch a.reader.next)) ≡ false
  pub now : a.reader.seen ≡ Some (looks (home_epoch a.reader.next))
  pub asks : (x : ℕ × Body) → In x a.asks → x.1 ≡ bodies.ReadAsk v.round a.reader.next

-- an answer shows a plug at the number
abbrev pub PlugAt : ℕ → List (ℕ × Held) → Type 0
PlugAt s hs = (h : ℕ × Held) × In h hs × (page_at s h.1.body ≡ Some Plug)

-- an answer shows an end at or below the number, past which the epoch's numbers are lost
abbrev pub LossyEnd : ℕ → List (ℕ × Held) → Type 0
LossyEnd s hs = (h : ℕ × Held) × In h hs × (end_shown s h.1.body ≡ Some true)

abbrev pub new_held : ℕ → Body → ℕ × Held
new_held y b = (y, record { round = round_of b; body = b })

-- the same count of swaps was shown as before, or answers of all rounds before aren't taken any more
abbrev pub FreshOf : Reader → Option View → ℕ → Type 0
FreshOf d seen least = ((shown_swaps seen ≡ shown_swaps d.seen) × (d.least ≤ least)) ⊎ (d.round < least)

-- what is held is of a round from one on
abbrev pub AllFrom : ℕ → List (ℕ × Held) → Type 0
AllFrom least hs = (h : ℕ × Held) → In h hs → least ≤ round_of h.1.body

not_swapped : (o : Option View) (w : View) → sees_swap o w ≡ false → w.swaps ≡ shown_swaps o
not_swapped o w h = sym (eqb-true (shown_swaps o) w.swaps (same (shown_swaps o == w.swaps) h)) where
  same : (b : Bool) → not b ≡ false → b ≡ true
  same true q = refl
  same false q = absurd cc

-- after a look
looked_fresh : (d : Reader) (seen : Option View) (least round : ℕ) (w : View) (lt s : Bool) → sees_swap seen w ≡ s → d.round ≤ round → FreshOf d seen least → FreshOf d (if lt then Some w else seen) (if lt && s then round + 1 else least)
looked_fresh d seen least round w false s q le g = g
looked_fresh d seen least round w true true q le g = inr (omega arith)
looked_fresh d seen least round w true false q le g = elim g [ inl z ↦ inl (not_swapped seen w q ∙ z.0, z.1) | inr z ↦ inr z ]

looked_held : (s : Bool) (k m : ℕ) (hs : List (ℕ × Held)) → AllFrom m hs → AllFrom (if s then k else m) (if s then [] else hs)
looked_held true k m hs g h i = absurd i
looked_held false k m hs g h i = g h i

pub record ReadOn (looks : ℕ → View) (d : Reader) (y : ℕ) (b : Body) (a : Read) : Type 0 where
  pub number : a.reader.number ≡ d.number
  pub log : a.reader.log ≡ d.log
  pub until : a.reader.until ≡ d.until
  pub round : d.round ≤ a.reader.round
  pub next : d.next ≤ a.reader.next
  pub asks : (x : ℕ × Body) → In x a.asks → AskOf d.round a.reader.round a.reader.next x.1
  pub confirming : (v : Confirmation) → a.reader.confirming ≡ Some v → Lasts d y b a.reader v ⊎ Begins looks d a v
  pub seen : SeenBy looks d a.reader.seen
  pub held : (h : ℕ × Held) → In h a.reader.held → In h d.held ⊎ (h ≡ new_held y b)
  pub fresh : FreshOf d a.reader.seen a.reader.least
  pub held_least : AllFrom d.least d.held → AllFrom a.reader.least a.reader.held
  pub losses : (i : ℕ × Item) → In i a.items → i.1 ≡ LossHere → ((i.0 ≡ d.next) × (is_confirmed (heard d y b).confirming ≡ true)) ⊎ PlugAt i.0 (heard d y b).held
  pub ends : (i : ℕ × Item) (last : ℕ) → In i a.items → i.1 ≡ LossTo last → (last ≡ bridge_to i.0) × LossyEnd i.0 (heard d y b).held

-- what is held is what was heard, or it was dropped
abbrev pub AsHeard : Reader → ℕ → Body → Read → Type 0
AsHeard d y b a = (a.reader.held ≡ (heard d y b).held) ⊎ (a.reader.held ≡ [])

as_dropped : (t : Bool) (d : Reader) (y : ℕ) (b : Body) (hs : List (ℕ × Held)) → (hs ≡ (heard d y b).held) ⊎ (hs ≡ []) → ((if t then [] else hs) ≡ (heard d y b).held) ⊎ ((if t then [] else hs) ≡ [])
as_dropped true d y b hs h = inr refl
as_dropped false d y b hs h = h

-- ---- asks ----
-- a poll's asks are of its new round
pub poll_are : (looks : ℕ → View) (d : Reader) (x : ℕ × Body) → In x (poll_asks looks d) → IsAskOf (polled looks d).round d.next x.1 × (d.round < (polled looks d).round)
poll_are looks d x i = start_are (is_full_poll d) looks d x i

-- a round
pub starts_up : (full : Bool) (looks : ℕ → View) (d : Reader) → d.round ≤ (starts full looks d).round
starts_up full looks d = cond_both (nat_lt d.round last_round) (d.round + 1) d.round (λ r. d.round ≤ r) (λ t. omega arith) (λ t. omega arith)

pub polled_up : (looks : ℕ → View) (d : Reader) → d.round ≤ (polled looks d).round
polled_up looks d = cond_both (nat_lt d.round last_round) (d.round + 1) d.round (λ r. d.round ≤ r) (λ t. omega arith) (λ t. omega arith)

starts_seen : (full : Bool) (looks : ℕ → View) (d : Reader) → SeenBy looks d (starts full looks d).seen
starts_seen full looks d = cond_both (nat_lt d.round last_round) (Some (look_of looks d)) d.seen (λ o. SeenBy looks d o) (λ t. inr (home_epoch d.next, refl)) (λ t. inl refl)

pub polled_seen : (looks : ℕ → View) (d : Reader) → SeenBy looks d (polled looks d).seen
polled_seen looks d = starts_seen (is_full_poll d) looks d

-- a poll
pub polled_fresh : (looks : ℕ → View) (d : Reader) → FreshOf d (polled looks d).seen (polled looks d).least
polled_fresh looks d = looked_fresh d d.seen d.least d.round (look_of looks d) (nat_lt d.round last_round) (sees_swap d.seen (look_of looks d)) refl (omega arith) (inl (refl, omega arith))

pub polled_held : (looks : ℕ → View) (d : Reader) → AllFrom d.least d.held → AllFrom (polled looks d).least (polled looks d).held
polled_held looks d g = looked_held (nat_lt d.round last_round && sees_swap d.seen (look_of looks d)) _ _ d.held g

pub polled_kept : (looks : ℕ → View) (d : Reader) (h : ℕ × Held) → In h (polled looks d).held → In h d.held
polled_kept looks d h = dropped_held (λ hs. In h hs → In h d.held) (λ i. absurd i) (nat_lt d.round last_round && sees_swap d.seen (look_of looks d)) d.held (λ i. i)

-- ---- what comes of an answer that is heard ----
same_is : (o : Option ℕ) (g : ℕ) → same_generation o g ≡ true → o ≡ Some g
same_is None g h = absurd cc
same_is (Some k) g h = ap Some (eqb-true k g h)

says_again : (u : Confirmation) (y : ℕ) (b : Body) → round_of b ≡ u.round → confirms_loss u.asked y b ≡ true → SaysAgain u y b
says_again u y (bodies.LostHere n round g end) e h = record { number = n; generation = g; end = end; is = ap (λ r. bodies.LostHere n r g end) e; asked = same_is (find y u.asked) g h }
says_again u y _ e h = absurd cc

not_not : (b : Bool) → not b ≡ false → b ≡ true
not_not true h = refl
not_not false h = absurd cc

pub heard_lasts : (d : Reader) (y : ℕ) (b : Body) (v : Confirmation) → (heard d y b).confirming ≡ Some v → Lasts d y b (heard d y b) v
heard_lasts d y b v h = by_confirming d.confirming refl h where
  by_confirming : (o : Option Confirmation) → d.confirming ≡ o → confirming_with o y b ≡ Some v → Lasts d y b (heard d y b) v
  by_confirming None e q = absurd cc
  by_confirming (Some u) e q = cond_both (not (round_of b == u.round)) (Some u) (if confirms_loss u.asked y b then Some (record { round = u.round; asked = u.asked; told = with_one y u.told }) else None) (λ x. x ≡ Some v → Lasts d y b (heard d y b) v)
      (λ t x. let z : u ≡ v = Some_inj x in record { before = u; was = e; round = ap (λ (k : Confirmation). k.round) (sym z); asked = ap (λ (k : Confirmation). k.asked) (sym z); told = λ i j. inl (subst (λ (k : Confirmation). is_in i k.told ≡ true) (sym z) j); next = refl })
      (λ t. cond_both (confirms_loss u.asked y b) (Some (record { round = u.round; asked = u.asked; told = with_one y u.told })) None (λ x. x ≡ Some v → Lasts d y b (heard d y b) v)
      (λ r x. let z : record { round = u.round; asked = u.asked; told = with_one y u.told } ≡ v = Some_inj x in record {
        before = u;
        was = e;
        round = ap (λ (k : Confirmation). k.round) (sym z);
        asked = ap (λ (k : Confirmation). k.asked) (sym z);
        told = λ i j. elim (with_one_in y i u.told (subst (λ (k : Confirmation). is_in i k.told ≡ true) (sym z) j)) [ inl k ↦ inl k | inr k ↦ inr (k, says_again u y b (eqb-true _ _ (not_not _ t)) r) ];
        next = refl;
      })
      (λ r x. absurd cc)) q

pub heard_held : (d : Reader) (y : ℕ) (b : Body) (h : ℕ × Held) → In h (heard d y b).held → In h d.held ⊎ (h ≡ new_held y b)
heard_held d y b h = cond_both (is_newer (find y d.held) (round_of b)) (put y (record { round = round_of b; body = b }) d.held) d.held (λ x. In h x → In h d.held ⊎ (h ≡ new_held y b))
    (λ t i. elim (In_put y (record { round = round_of b; body = b }) d.held h i) [ inl q ↦ inr q | inr j ↦ inl j ]) (λ t i. inl i)

-- ---- items ----
pub not_finished : (d : Reader) → is_finished d ≡ false → d.next ≤ d.until
not_finished d h = ltb-false d.until d.next h

item_up : (n e u : ℕ) → n ≤ e → n ≤ u → n ≤ min e u + 1
item_up n e u a b = omega arith

plug_of : (o : Option What) → is_plug o ≡ true → o ≡ Some Plug
plug_of (Some Plug) h = refl
plug_of (Some (Rec p)) h = absurd cc
plug_of (Some Hole) h = absurd cc
plug_of (Some Bridge) h = absurd cc
plug_of (Some Withheld) h = absurd cc
plug_of None h = absurd cc

last_of : {a b : ℕ} → LossTo a ≡ LossTo b → a ≡ b
last_of q = cc

module _ (looks : ℕ → View) (d : Reader) (y : ℕ) (b : Body) where
  given : (a : Read) (i : Item) → ReadOn looks d y b a → is_finished a.reader ≡ false → a.reader.next ≤ item_end a.reader.next i → (i ≡ LossHere → PlugAt a.reader.next (heard d y b).held) → ((last : ℕ) → i ≡ LossTo last → (last ≡ bridge_to a.reader.next) × LossyEnd a.reader.next (heard d y b).held) → ReadOn looks d y b (gives a i)
  given a i g f up n m =
      let lower = item_up a.reader.next (item_end a.reader.next i) a.reader.until up (not_finished a.reader f) in
      record {
        number = g.number;
        log = g.log;
        until = g.until;
        round = g.round;
        next = let z = g.next in omega arith;
        asks = λ x j. let k = g.asks x j in record { at = k.at; from = k.from; above = k.above; upto = k.upto; is = k.is; below = let z = k.below in omega arith };
        confirming = λ v q. absurd (not_none q);
        seen = g.seen;
        held = g.held;
        fresh = g.fresh;
        held_least = g.held_least;
        losses = λ j k q. elim (In-append j a.items _ k) [
          | inl o ↦ g.losses j o q
          | inr o ↦ (let z = only j (a.reader.next, i) o in inr (subst (λ (x : ℕ × Item). PlugAt x.0 (heard d y b).held) (sym z) (n (sym (ap (λ (x : ℕ × Item). x.1) z) ∙ q))))
        ];
        ends = λ j last k q. elim (In-append j a.items _ k) [
          | inl o ↦ g.ends j last o q
          | inr o ↦ (let z = only j (a.reader.next, i) o in subst (λ (x : ℕ × Item). (last ≡ bridge_to x.0) × LossyEnd x.0 (heard d y b).held) (sym z) (m last (sym (ap (λ (x : ℕ × Item). x.1) z) ∙ q)))
        ];
      }

  -- an answer that isn't taken
  ignored_on : ReadOn looks d y b (nothing_read d)
  ignored_on = record {
    number = refl;
    log = refl;
    until = refl;
    round = omega arith;
    next = omega arith;
    asks = λ x j. absurd j;
    confirming = λ v q. inl (record { before = v; was = q; round = refl; asked = refl; told = λ z i. inl i; next = refl });
    seen = inl refl;
    held = λ h i. inl i;
    fresh = inl (refl, omega arith);
    held_least = λ h. h;
    losses = λ i j q. absurd j;
    ends = λ i last j q. absurd j;
  }

  -- an answer that is taken is of a round from the least on
  heard_least : nat_lt (round_of b) d.least ≡ false → AllFrom d.least d.held → AllFrom d.least (heard d y b).held
  heard_least n g h i = elim (heard_held d y b h i) [ inl o ↦ g h o | inr q ↦ subst (λ (z : ℕ × Held). d.least ≤ round_of z.1.body) (sym q) (ltb-false (round_of b) d.least n) ]

  started : nat_lt (round_of b) d.least ≡ false → ReadOn looks d y b (nothing_read (heard d y b))
  started n = record {
    number = refl;
    log = refl;
    until = refl;
    round = omega arith;
    next = omega arith;
    asks = λ x j. absurd j;
    confirming = λ v q. inl (heard_lasts d y b v q);
    seen = inl refl;
    held = heard_held d y b;
    fresh = inl (refl, omega arith);
    held_least = heard_least n;
    losses = λ i j q. absurd j;
    ends = λ i last j q. absurd j;
  }

  lost_first : nat_lt (round_of b) d.least ≡ false → sees_swap d.seen (look_of looks d) ≡ false → is_finished d ≡ false → is_confirmed (heard d y b).confirming ≡ true → ReadOn looks d y b (gives (nothing_read (record (heard d y b) { seen = Some (look_of looks d) })) LossHere)
  lost_first n s f h = let lower = item_up d.next d.next d.until (omega arith) (not_finished d f) in record {
    number = refl;
    log = refl;
    until = refl;
    round = omega arith;
    next = omega arith;
    asks = λ x j. absurd j;
    confirming = λ v q. absurd (not_none q);
    seen = inr (home_epoch d.next, refl);
    held = heard_held d y b;
    fresh = inl (not_swapped d.seen (look_of looks d) s, omega arith);
    held_least = heard_least n;
    losses = λ i j q. inl (ap (λ (x : ℕ × Item). x.0) (only i (d.next, LossHere) j), h);
    ends = λ i last j q. absurd (let z : LossHere ≡ LossTo last = sym (ap (λ (x : ℕ × Item). x.1) (only i (d.next, LossHere) j)) ∙ q in cc);
  }

  begun : (a : Read) → ReadOn looks d y b a → may_confirm a.reader ≡ true → is_loss a.reader.next (seen_nodes a.reader.seen) a.reader.held ≡ true → ReadOn looks d y b (confirms looks a (lost_held a.reader.next (within (seen_nodes a.reader.seen) a.reader.held)))
  begun a g m l = record {
    number = g.number;
    log = g.log;
    until = g.until;
    round = let z = g.round in omega arith;
    next = g.next;
    asks = λ x j. record { at = a.reader.round + 1; from = a.reader.next; above = (let z = g.round in omega arith); upto = omega arith; is = confirm_are looks a (lost_held a.reader.next (within (seen_nodes a.reader.seen) a.reader.held)) m x j; below = omega arith };
    confirming = λ v q. inr (by_swap v (branch (sees_swap a.reader.seen (look_of looks a.reader)) None (Some (record { round = a.reader.round + 1; asked = lost_held a.reader.next (within (seen_nodes a.reader.seen) a.reader.held); told = [] })) (Some v) q));
    seen = inr (home_epoch a.reader.next, refl);
    held = dropped_held (λ hs. (h : ℕ × Held) → In h hs → In h d.held ⊎ (h ≡ new_held y b)) (λ h i. absurd i) (sees_swap a.reader.seen (look_of looks a.reader)) a.reader.held g.held;
    fresh = looked_fresh d a.reader.seen a.reader.least a.reader.round (look_of looks a.reader) true (sees_swap a.reader.seen (look_of looks a.reader)) refl g.round g.fresh;
    held_least = λ h. looked_held (sees_swap a.reader.seen (look_of looks a.reader)) _ _ a.reader.held (g.held_least h);
    losses = g.losses;
    ends = g.ends;
  } where
    by_swap : (v : Confirmation) → ((sees_swap a.reader.seen (look_of looks a.reader) ≡ true) × (None ≡ Some v)) ⊎ ((sees_swap a.reader.seen (look_of looks a.reader) ≡ false) × (Some (record { round = a.reader.round + 1; asked = lost_held a.reader.next (within (seen_nodes a.reader.seen) a.reader.held); told = [] }) ≡ Some v)) → Begins looks d (confirms looks a (lost_held a.reader.next (within (seen_nodes a.reader.seen) a.reader.held))) v
    by_swap v (inl q) = absurd (not_none q.1)
    by_swap v (inr q) = let z : record { round = a.reader.round + 1; asked = lost_held a.reader.next (within (seen_nodes a.reader.seen) a.reader.held); told = [] } ≡ v = Some_inj q.1 in
        let hold : a.reader.held ≡ (confirms looks a (lost_held a.reader.next (within (seen_nodes a.reader.seen) a.reader.held))).reader.held = sym (ap (λ (k : Bool). if k then [] else a.reader.held) q.0) in record {
          view = a.reader.seen;
          came = g.seen;
          seen = (and_parts (not (is_confirming a.reader.confirming) && nat_lt a.reader.round last_round) (has_seen (home_epoch a.reader.next) a.reader.seen) m).1;
          round = ap (λ (k : Confirmation). k.round) (sym z);
          higher = let e : a.reader.round + 1 ≡ v.round = ap (λ (k : Confirmation). k.round) z in let u = g.round in omega arith;
          told = ap (λ (k : Confirmation). k.told) (sym z);
          asked = ap (λ (k : Confirmation). k.asked) (sym z) ∙ ap (λ (hs : List (ℕ × Held)). lost_held a.reader.next (within (seen_nodes a.reader.seen) hs)) hold;
          loss = subst (λ (hs : List (ℕ × Held)). is_loss a.reader.next (seen_nodes a.reader.seen) hs ≡ true) hold l;
          same = q.0;
          now = refl;
          asks = λ x j. asks_for_all (a.reader.round + 1) a.reader.next _ x (subst (λ (k : Bool). In x (if k then start_asks false looks a.reader else asks_of (a.reader.round + 1) a.reader.next (keys (lost_held a.reader.next (within (seen_nodes a.reader.seen) a.reader.held))))) q.0 j) ∙ ap (λ r. bodies.ReadAsk r a.reader.next) (ap (λ (k : Confirmation). k.round) z);
        }

  -- a round that begins, after these asks
  asked_on : (full : Bool) (bs : List (ℕ × Body)) (anew : Bool) (a : Read) → ReadOn looks d y b a → ((x : ℕ × Body) → In x bs → In x a.asks ⊎ In x (start_asks full looks a.reader)) → ReadOn looks d y b (record { reader = starts full looks a.reader; items = a.items; asks = bs; anew = anew })
  asked_on full bs anew a g w = let up = starts_up full looks a.reader in record {
    number = g.number;
    log = g.log;
    until = g.until;
    round = let z = g.round in omega arith;
    next = g.next;
    asks = λ x j. elim (w x j) [
      | inl o ↦ (let k = g.asks x o in record { at = k.at; from = k.from; above = k.above; upto = (let z = k.upto in let u = up in omega arith); is = k.is; below = k.below })
      | inr o ↦ (let k = start_are full looks a.reader x o in record { at = (starts full looks a.reader).round; from = a.reader.next; above = (let z = g.round in let l = k.1 in omega arith); upto = omega arith; is = k.0; below = omega arith })
    ];
    confirming = λ v q. absurd (not_none q);
    seen = elim (starts_seen full looks a.reader) [ inl q ↦ subst (SeenBy looks d) (sym q) g.seen | inr q ↦ inr q ];
    held = dropped_held (λ hs. (h : ℕ × Held) → In h hs → In h d.held ⊎ (h ≡ new_held y b)) (λ h i. absurd i) _ a.reader.held g.held;
    fresh = looked_fresh d a.reader.seen a.reader.least a.reader.round (look_of looks a.reader) (nat_lt a.reader.round last_round) (sees_swap a.reader.seen (look_of looks a.reader)) refl g.round g.fresh;
    held_least = λ h. looked_held (nat_lt a.reader.round last_round && sees_swap a.reader.seen (look_of looks a.reader)) _ _ a.reader.held (g.held_least h);
    losses = g.losses;
    ends = g.ends;
  }

  -- what is held stays while items are given
  plug_there : (a : Read) → AsHeard d y b a → plug_held a.reader.next a.reader.held ≡ true → PlugAt a.reader.next (heard d y b).held
  plug_there a (inl g) t = let z = any_in (λ (h : ℕ × Held). is_plug (page_at a.reader.next h.1.body)) (heard d y b).held (subst (λ (hs : List (ℕ × Held)). plug_held a.reader.next hs ≡ true) g t) in (z.0, z.1, plug_of _ z.2)
  plug_there a (inr g) t = absurd (let z : plug_held a.reader.next [] ≡ true = subst (λ (hs : List (ℕ × Held)). plug_held a.reader.next hs ≡ true) g t in cc)

  end_there : (a : Read) → AsHeard d y b a → end_held a.reader.next a.reader.held ≡ Some true → LossyEnd a.reader.next (heard d y b).held
  end_there a (inl g) t = end_in a.reader.next (heard d y b).held true (subst (λ (hs : List (ℕ × Held)). end_held a.reader.next hs ≡ Some true) g t)
  end_there a (inr g) t = absurd (let z : end_held a.reader.next [] ≡ Some true = subst (λ (hs : List (ℕ × Held)). end_held a.reader.next hs ≡ Some true) g t in not_none z)

  -- what holds of an answer that is taken
  abbrev Taken : Read → Type 0
  Taken a = nat_lt (round_of b) d.least ≡ false → ReadOn looks d y b a × AsHeard d y b a

  taken_keeps : is_finished d ≡ false → ReadKeeps looks d y b Taken
  taken_keeps f = record {
    starts = λ n. (started n, inl refl);
    ignored = λ t n. absurd (not_both _ t n);
    loss = λ h s n. (lost_first n s f h, inl refl);
    swapped = λ h s n. (asked_on false (start_asks false looks (heard d y b)) true (nothing_read (heard d y b)) (started n) (λ x j. inr j), as_dropped _ d y b (heard d y b).held (inl refl));
    trim = λ a g n t k. (given a (TrimTo (trim_held a.reader.held)) (g k).0 n t (λ q. cc) (λ e q. cc), (g k).1);
    record_there = λ a p g n t k. (given a (RecordHere p) (g k).0 n (omega arith) (λ q. cc) (λ e q. cc), (g k).1);
    hole_there = λ a g n t k. (given a HoleHere (g k).0 n (omega arith) (λ q. cc) (λ e q. cc), (g k).1);
    bridge = λ a g n t k. (given a (BridgeTo (bridge_to a.reader.next)) (g k).0 n (below_end a.reader.next) (λ q. cc) (λ e q. cc), (g k).1);
    plug = λ a g n t k. (given a LossHere (g k).0 n (omega arith) (λ q. plug_there a (g k).1 t) (λ e q. cc), (g k).1);
    lossy_end = λ a g n t k. (given a (LossTo (bridge_to a.reader.next)) (g k).0 n (below_end a.reader.next) (λ q. cc) (λ e q. (sym (last_of q), end_there a (g k).1 t)), (g k).1);
    confirm = λ a g n m t k. (begun a (g k).0 m t, as_dropped _ d y b a.reader.held (g k).1);
    asks_all = λ a g t k. (asked_on true (start_asks true looks a.reader) true a (g k).0 (λ x j. inr j), as_dropped _ d y b a.reader.held (g k).1);
    polls_on = λ a g t k. (asked_on false (a.asks ++ start_asks false looks a.reader) a.anew a (g k).0 (λ x j. In-append x a.asks (start_asks false looks a.reader) j), as_dropped _ d y b a.reader.held (g k).1);
  }

  pub read_on : is_finished d ≡ false → ReadOn looks d y b (on_answer looks d y b)
  unfolding on_answer
  read_on f = elim (cases_Bool (nat_lt (round_of b) d.least)) [
    | inl t ↦ subst (λ (k : Bool). ReadOn looks d y b (if k then nothing_read d else heard_on looks (heard d y b))) (sym t) ignored_on
    | inr n ↦ (answered looks d y b Taken (taken_keeps f) n).0
  ]
