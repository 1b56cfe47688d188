-- A delivery of an answer to a reader in a round: it goes on to another number, or is in its last round, or is in a round still.
use Rattle.std.proofs.Common.{◌≡◌, ◌∙◌, ◌⊎◌, ◌≤◌, ◌<◌, ℕ, ◌+◌, inl, inr, refl, ap, sym, subst, Bool, true, false, nat_lt, not, if◌then◌else◌, List, [], Option, Some, None, arith, eq-eqb, ◌&&◌}
use Rattle.std.proofs.lemmas.Bool.{cases_Bool, ltb-true}
use Rattle.ld_table.specs.Table.{find}
use Rattle.ld_table.specs.Named.{find_named}
use Rattle.ld_lsn.specs.Number.{home_epoch}
use Rattle.ld_ids.specs.Choice.{nodes_of}
use Rattle.ld_config.specs.declared.config.Config.{Config}
use Rattle.ld_msg.specs.declared.msg.Who.TheVariants as whos
use Rattle.ld_msg.specs.declared.msg.Msg.{Msg}
use Rattle.ld_msg.specs.declared.msg.Body.{Body}
use Rattle.ld_msg.specs.declared.msg.Body.TheVariants as bodies
use Rattle.ld_msg.specs.Network.{message, mark}
use Rattle.ld_msg.specs.Register.{View}
use Rattle.ld_msg.specs.Reading.{Held, is_lost_for, is_loss, lost_held, within, NotYet}
use Rattle.ld_msg.specs.Reader.{Reader, Read, Confirmation, Senders, verdict, last_round, asks_with, asks_of, round_ask, keys, look_of, sees_swap, senders_of, start_asks, confirms, asks_all, seen_nodes, round_of, held_with, heard, nothing_read, on_answer}
use Rattle.ld_machine.specs.Config.{all_nodes, looks_at}
use Rattle.ld_machine.specs.State.{State, finish, posted}
use Rattle.ld_machine.specs.World.{In}
use Rattle.ld_machine.specs.Step as Step
use Rattle.ld_safety.proofs.Lists.{not_both}
use Rattle.ld_safety.proofs.ReaderSteps.{asks_are}
use Rattle.ld_safety.proofs.LostReads.{heard_held}
use Rattle.ld_safety.proofs.LostRounds.{posted_to}
use Rattle.ld_calm.proofs.Weights.{mark_in_place}
use Rattle.ld_served.proofs.UnderWay.{UnderWay, marked_way, sent_stays, sent_now}
use Rattle.ld_served.proofs.Kept.{Good}
use Rattle.ld_served.proofs.Readers.{ReadersHere}
use Rattle.ld_served.proofs.Round.{WasLost}
use Rattle.ld_served.proofs.Asked.{answer_at, ask_at, answer_round, answer_sound, marked_was, sent_only}
use Rattle.ld_served.proofs.Sending.{all_send as none_alone}
use Rattle.ld_served.proofs.Polls.{asked_of, asks_in, posted_in, ask_whole}
use Rattle.ld_served.proofs.Coming.{Came, passes, waits, asks_lost, asks_again, came}
use Rattle.ld_served.proofs.AsksLost.{OneLost, one_lost, asked_within, heard_is, held_still}
use Rattle.ld_served.proofs.InRound.{set_now, ask_of, answer_of, Goes, is_asked, answers, is_held, Mine, Surely, all_send, one_sends, lost_sends, InRound}

module _ (c : Config) (s : State) (A : Good c s) (H : ReadersHere c s) (name : List ℕ) (d : Reader) (found : find_named name s.readers ≡ Some d) (R : InRound c s d)
    (was_lost : (h : ℕ × Held) → In h d.held → In h.0 (all_nodes c) → is_lost_for d.next h.1.body ≡ true → WasLost s d.log h.0 d.next)
    (i : ℕ) (k : Msg) (is : message s.network i ≡ Some k) (y round : ℕ) (member : In y (all_nodes c)) (low : R.low ≤ round) (high : round ≤ d.round) (answer : k ≡ answer_of s d R.senders R.mid y round) where
  abbrev b : Body
  b = answer_at s d.log R.senders R.mid d.next y round

  abbrev looks : ℕ → View
  looks = looks_at c s.register d.log

  wave : round_of b ≡ round
  wave = answer_round s d.log R.senders R.mid d.next y round

  -- what it leaves
  abbrev pub after : Read → State
  after r = (finish (Step.read (Step.marked s i) name r)).state

  in_all : (x : ℕ) → In x (set_now c s d) → In x (all_nodes c)
  in_all x j = H.looks name d found (home_epoch d.next) x j

  -- ---- the answer is held, and a round goes on or begins ----
  module _ (rise : ℕ) (up : d.round ≤ rise) (confirming : Option Confirmation) (seen : Option View) (by : Option Senders) (asks : List (ℕ × Body)) where
    abbrev e : Reader
    e = record d { round = rise; held = held_with d.held y b; confirming = confirming; seen = seen; senders = by; missing = (heard d y b).missing }

    abbrev read : Read
    read = record { reader = e; items = []; asks = asks; anew = false }

    abbrev t : State
    t = after read

    stays : (m : Msg) → UnderWay s.network m → (m ≡ k) ⊎ UnderWay t.network m
    unfolding finish
    stays m u = elim (marked_way s.network i k m is u) [ inl z ↦ inl z | inr z ↦ inr (sent_stays (mark s.network i) (posted (whos.Reader d.number) d.log asks) m (mark_in_place s.network i H.places) z) ]

    adds : (x : ℕ × Body) → In x asks → UnderWay t.network (record { from = whos.Reader d.number; to = whos.Node x.0; log = d.log; body = x.1 })
    unfolding finish
    adds x j = sent_now (mark s.network i) (posted (whos.Reader d.number) d.log asks) _ (mark_in_place s.network i H.places) (posted_in d.number d.log asks x j)

    only : (m : Msg) → UnderWay t.network m → UnderWay s.network m ⊎ ((x : ℕ × Body) × In x asks × (m ≡ record { from = whos.Reader d.number; to = whos.Node x.0; log = d.log; body = x.1 }))
    unfolding finish
    only m u = elim (sent_only (mark s.network i) (posted (whos.Reader d.number) d.log asks) m (mark_in_place s.network i H.places) u) [ inl z ↦ inl (marked_was s.network i m z) | inr j ↦ inr (posted_to (whos.Reader d.number) d.log asks m j) ]

    goes : (from x : ℕ) → Goes s d R.senders R.mid from x → Goes t e R.senders R.mid from x
    unfolding finish
    goes from x (is_asked n h u) = elim (stays (ask_of d R.senders R.mid x n) u) [
      | inl z ↦ absurd (let w : whos.Reader d.number ≡ whos.Node y = ap (λ (q : Msg). q.from) (z ∙ answer) in cc)
      | inr z ↦ is_asked n h z
    ]
    goes from x (answers n h u) = elim (stays (answer_of s d R.senders R.mid x n) u) [
      | inl z ↦ (
          let w : whos.Node x ≡ whos.Node y = ap (λ (q : Msg). q.from) (z ∙ answer) in let same : x ≡ y = cc in
          let body : answer_at s d.log R.senders R.mid d.next x n ≡ b = ap (λ (q : Msg). q.body) (z ∙ answer) in
          let p : n ≡ round_of b = sym (answer_round s d.log R.senders R.mid d.next x n) ∙ ap round_of body in
          let v = heard_is d.held y b in let f = v.from in is_held v.held (ap (λ j. find j (held_with d.held y b)) same ∙ v.found) (omega arith))
      | inr z ↦ answers n h z
    ]
    goes from x (is_held h f l) = let v = held_still d.held y x b h f in let u = v.from in is_held v.held v.found (omega arith)

    mine_still : (m : Msg) → Mine c s d R.senders R.low R.mid m → Mine c t e R.senders R.low R.mid m
    unfolding finish
    mine_still m M = record { node = M.node; round = M.round; member = M.member; from = M.from; upto = (let z = M.upto in omega arith); is = M.is }

    held_now : (h : ℕ × Held) → In h (held_with d.held y b) → R.low ≤ h.1.round → (h.1.body ≡ answer_at s d.log R.senders R.mid d.next h.0 h.1.round) × (h.1.round ≤ rise)
    held_now h j l = elim (heard_held d y b h j) [
      | inl o ↦ (let z = R.held h o l in (z.0, let u = z.1 in omega arith))
      | inr q ↦ subst (λ (v : ℕ × Held). (v.1.body ≡ answer_at s d.log R.senders R.mid d.next v.0 v.1.round) × (v.1.round ≤ rise)) (sym q) (ap (answer_at s d.log R.senders R.mid d.next y) (sym wave), let w = wave in omega arith)
    ]

    -- the asks are of a round for all that nodes have
    module _ (whole : (x : ℕ × Body) → In x asks → In x.0 (set_now c s d) × (x.1 ≡ bodies.ReadAsk (d.round + 1) d.next)) (higher : d.round + 1 ≤ rise) where
      is_whole : ask_at R.senders R.mid d.next (d.round + 1) ≡ bodies.ReadAsk (d.round + 1) d.next
      is_whole = ask_whole R.senders R.mid d.next (d.round + 1) R.upper

      new_mine : (m : Msg) (x : ℕ × Body) → In x asks → m ≡ record { from = whos.Reader d.number; to = whos.Node x.0; log = d.log; body = x.1 } → Mine c t e R.senders R.low R.mid m
      new_mine m x j q = let z = whole x j in record {
        node = x.0;
        round = d.round + 1;
        member = in_all x.0 z.0;
        from = let a = R.begun in omega arith;
        upto = higher;
        is = inl (q ∙ ap (λ (v : Body). record { from = whos.Reader d.number; to = whos.Node x.0; log = d.log; body = v }) (z.1 ∙ sym is_whole));
      }

      all_mine : (m : Msg) → UnderWay t.network m → Mine c t e R.senders R.low R.mid m
      all_mine m u = elim (only m u) [ inl v ↦ mine_still m (R.only m v) | inr v ↦ new_mine m v.0 v.1 v.2 ]

      asked_now : (x : ℕ) → In {X = ℕ × Body} (x, bodies.ReadAsk (d.round + 1) d.next) asks → UnderWay t.network (ask_of e R.senders R.mid x (d.round + 1))
      asked_now x j = subst (λ (v : Body). UnderWay t.network (record { from = whos.Reader d.number; to = whos.Node x; log = d.log; body = v })) (sym is_whole) (adds (x, bodies.ReadAsk (d.round + 1) d.next) j)

  -- ---- the three ways ----

  -- it waits
  waits_on : verdict (heard d y b) ≡ NotYet → InRound c (after (nothing_read (heard d y b))) (heard d y b)
  unfolding finish
  waits_on v = let p : d.round ≤ d.round = omega arith in record {
    low = R.low;
    mid = R.mid;
    senders = R.senders;
    unfinished = R.unfinished;
    seen = R.seen;
    lower = R.lower;
    upper = R.upper;
    begun = R.begun;
    least = R.least;
    only = λ m u. elim (only d.round p (heard d y b).confirming d.seen d.senders [] m u) [ inl z ↦ mine_still d.round p (heard d y b).confirming d.seen d.senders [] m (R.only m z) | inr z ↦ absurd z.1 ];
    held = λ h j l. held_now d.round p (heard d y b).confirming d.seen d.senders [] h j l;
    each = λ x j. goes d.round p (heard d y b).confirming d.seen d.senders [] R.low x (R.each x j);
    sure = surely R.sure;
    not_yet = λ x j n. v;
  } where
    surely : Surely c s d R.senders R.low R.mid → Surely c (after (nothing_read (heard d y b))) (heard d y b) R.senders R.low R.mid
    surely (all_send g) = all_send (λ x j. goes d.round (let p : d.round ≤ d.round = omega arith in p) (heard d y b).confirming d.seen d.senders [] R.mid x (g x j))
    surely (one_sends q z w f m l) = one_sends q z w f m l
    surely (lost_sends x j g w) = lost_sends x j (goes d.round (let p : d.round ≤ d.round = omega arith in p) (heard d y b).confirming d.seen d.senders [] R.mid x g) w

  -- nothing was swapped
  no_swap : sees_swap d.seen (look_of looks d) ≡ false
  no_swap = ap (λ o. sees_swap o (look_of looks d)) R.seen ∙ ap not (eq-eqb (look_of looks d).swaps (look_of looks d).swaps refl)

  same_set : (x : ℕ) → In x (seen_nodes d.seen) → In x (set_now c s d)
  same_set x = subst (λ o. In x (seen_nodes o) → In x (set_now c s d)) (sym R.seen) (λ j. j)

  abbrev now_lost : List (ℕ × ℕ)
  now_lost = lost_held d.next (within (seen_nodes d.seen) (heard d y b).held)

  abbrev confirmation : Option Confirmation
  confirmation = Some (record { round = d.round + 1; asked = now_lost; told = [] })

  abbrev lost_asks : List (ℕ × Body)
  lost_asks = asks_of (d.round + 1) d.next (keys now_lost)

  rises : d.round ≤ d.round + 1
  rises = omega arith

  abbrev confirming_now : Read
  confirming_now = read (d.round + 1) rises confirmation (Some (look_of looks d)) None lost_asks

  confirming_is : confirms looks (nothing_read (heard d y b)) now_lost ≡ confirming_now
  confirming_is = ap plain no_swap where
    plain : Bool → Read
    plain q = record {
      reader = record (heard d y b) {
        round = d.round + 1;
        held = if q then [] else (heard d y b).held;
        confirming = if q then None else confirmation;
        seen = Some (look_of looks d);
        least = if q then d.round + 1 else d.least;
        senders = if q then senders_of false (look_of looks (heard d y b)) (heard d y b) else None;
      };
      items = [];
      asks = if q then start_asks false looks (heard d y b) else lost_asks;
      anew = false;
    }

  -- it asks those again that are lost
  confirms_on : is_loss d.next (seen_nodes d.seen) (heard d y b).held ≡ true → InRound c (after confirming_now) confirming_now.reader
  unfolding finish
  confirms_on h = record {
    low = R.low;
    mid = R.mid;
    senders = R.senders;
    unfinished = R.unfinished;
    seen = refl;
    lower = R.lower;
    upper = let z = R.upper in omega arith;
    begun = let z = R.begun in omega arith;
    least = R.least;
    only = all_mine (d.round + 1) rises confirmation (Some (look_of looks d)) None lost_asks of_lost (omega arith);
    held = held_now (d.round + 1) rises confirmation (Some (look_of looks d)) None lost_asks;
    each = λ x j. goes (d.round + 1) rises confirmation (Some (look_of looks d)) None lost_asks R.low x (R.each x j);
    sure = surely R.sure;
    not_yet = λ x j n. absurd (n _ one_asked);
  } where
    one : OneLost d.next (seen_nodes d.seen) (heard d y b).held
    one = one_lost d.next (seen_nodes d.seen) (heard d y b).held h

    of_lost : (x : ℕ × Body) → In x lost_asks → In x.0 (set_now c s d) × (x.1 ≡ bodies.ReadAsk (d.round + 1) d.next)
    of_lost x j = (same_set x.0 (asked_within d.next x.0 (seen_nodes d.seen) (heard d y b).held (asked_of (bodies.ReadAsk (d.round + 1) d.next) (keys now_lost) x j)), asks_are (bodies.ReadAsk (d.round + 1) d.next) (keys now_lost) x j)

    one_asked : UnderWay (after confirming_now).network (ask_of confirming_now.reader R.senders R.mid one.answer.0 (d.round + 1))
    one_asked = asked_now (d.round + 1) rises confirmation (Some (look_of looks d)) None lost_asks of_lost (omega arith) one.answer.0 (asks_in (bodies.ReadAsk (d.round + 1) d.next) (keys now_lost) one.answer.0 one.asked)

    was : WasLost s d.log one.answer.0 d.next
    was = elim (heard_held d y b one.answer one.there) [
      | inl o ↦ was_lost one.answer o (in_all one.answer.0 (same_set one.answer.0 one.member)) one.lost
      | inr q ↦ absurd (not_both (is_lost_for d.next b) (subst (λ (v : ℕ × Held). is_lost_for d.next v.1.body ≡ true) q one.lost) (answer_sound s d.log R.senders R.mid d.next y round ((A.healthy.nodes y member).whole d.log (H.log name d found))))
    ]

    surely : Surely c s d R.senders R.low R.mid → Surely c (after confirming_now) confirming_now.reader R.senders R.low R.mid
    surely (all_send g) = all_send (λ x j. goes (d.round + 1) rises confirmation (Some (look_of looks d)) None lost_asks R.mid x (g x j))
    surely (one_sends q z w f m l) = lost_sends one.answer.0 (same_set one.answer.0 one.member) (is_asked (d.round + 1) R.upper one_asked) was
    surely (lost_sends x j g w) = lost_sends x j (goes (d.round + 1) rises confirmation (Some (look_of looks d)) None lost_asks R.mid x g) w

  -- it asks all
  abbrev all_asks : List (ℕ × Body)
  all_asks = asks_with (bodies.ReadAsk (d.round + 1) d.next) (nodes_of (look_of looks d).spec)

  abbrev asking_now : Read
  asking_now = record { reader = (read (d.round + 1) rises None (Some (look_of looks d)) None all_asks).reader; items = []; asks = all_asks; anew = true }

  asking_is : nat_lt d.round last_round ≡ true → asks_all looks (nothing_read (heard d y b)) ≡ asking_now
  asking_is l = λ j. plain (l j) (no_swap j) (none_alone (look_of looks d) (heard d y b) j) where
    plain : Bool → Bool → Option Senders → Read
    plain t q o = record {
      reader = record (heard d y b) {
        round = if t then d.round + 1 else d.round;
        held = if t && q then [] else (heard d y b).held;
        confirming = None;
        seen = if t then Some (look_of looks d) else d.seen;
        least = if t && q then d.round + 1 else d.least;
        senders = if t then o else d.senders;
      };
      items = [];
      asks = if t then asks_with (round_ask o (d.round + 1) d.next) (nodes_of (look_of looks d).spec) else [];
      anew = true;
    }

  asks_on : InRound c (after asking_now) asking_now.reader
  unfolding finish
  asks_on = record {
    low = R.low;
    mid = R.mid;
    senders = R.senders;
    unfinished = R.unfinished;
    seen = refl;
    lower = R.lower;
    upper = let z = R.upper in omega arith;
    begun = let z = R.begun in omega arith;
    least = R.least;
    only = all_mine (d.round + 1) rises None (Some (look_of looks d)) None all_asks of_all (omega arith);
    held = held_now (d.round + 1) rises None (Some (look_of looks d)) None all_asks;
    each = λ x j. goes (d.round + 1) rises None (Some (look_of looks d)) None all_asks R.low x (R.each x j);
    sure = all_send (λ x j. is_asked (d.round + 1) R.upper (asked x j));
    not_yet = λ x j n. absurd (n _ (asked x j));
  } where
    of_all : (x : ℕ × Body) → In x all_asks → In x.0 (set_now c s d) × (x.1 ≡ bodies.ReadAsk (d.round + 1) d.next)
    of_all x j = (asked_of (bodies.ReadAsk (d.round + 1) d.next) (nodes_of (look_of looks d).spec) x j, asks_are (bodies.ReadAsk (d.round + 1) d.next) (nodes_of (look_of looks d).spec) x j)

    asked : (x : ℕ) → In x (set_now c s d) → UnderWay (after asking_now).network (ask_of asking_now.reader R.senders R.mid x (d.round + 1))
    asked x j = asked_now (d.round + 1) rises None (Some (look_of looks d)) None all_asks of_all (omega arith) x (asks_in (bodies.ReadAsk (d.round + 1) d.next) (nodes_of (look_of looks d).spec) x j)

  -- ---- together ----

  -- it is past the number; or it is at it still, in its last round or in a round as before
  abbrev pub Goes_on : State → Reader → Type 0
  Goes_on u e = (d.next < e.next) ⊎ ((e.next ≡ d.next) × ((nat_lt e.round last_round ≡ false) ⊎ InRound c u e))

  by_came : (r : Read) → Came looks d y b r → Goes_on (after r) r.reader
  by_came r (passes h) = inl h
  by_came r (waits q v) = subst (λ (x : Read). Goes_on (after x) x.reader) (sym q) (inr (refl, inr (waits_on v)))
  by_came r (asks_lost q m h) = subst (λ (x : Read). Goes_on (after x) x.reader) (sym (q ∙ confirming_is)) (inr (refl, inr (confirms_on h)))
  by_came r (asks_again q) = elim (cases_Bool (nat_lt d.round last_round)) [
    | inl l ↦ subst (λ (x : Read). Goes_on (after x) x.reader) (sym (q ∙ asking_is l)) (inr (refl, inr asks_on))
    | inr l ↦ inr (ap (λ (x : Read). x.reader.next) q, inl (ap (λ (x : Read). nat_lt x.reader.round last_round) q ∙ ap (λ (t : Bool). nat_lt (if t then d.round + 1 else d.round) last_round) l ∙ l))
  ]

  taken : nat_lt (round_of b) d.least ≡ false
  taken = let w = wave in let l = R.least in by_test (nat_lt (round_of b) d.least) refl (omega arith) where
    by_test : (t : Bool) → nat_lt (round_of b) d.least ≡ t → d.least ≤ round_of b → t ≡ false
    by_test true q h = absurd (let z = ltb-true (round_of b) d.least q in omega arith)
    by_test false q h = refl

  pub answer_comes : Goes_on (after (on_answer looks d y b)) (on_answer looks d y b).reader
  answer_comes = by_came (on_answer looks d y b) (came looks d y b R.unfinished R.seen taken)
