-- What a reader asks is one that a frame can carry, and each answer leaves it in its bounds.
use Rattle.std.proofs.Common.{◌≡◌, ◌≤◌, ◌<◌, ℕ, zero, suc, ◌+◌, refl, sym, subst, Bool, true, false, ◌==◌, ◌&&◌, not, nat_lt, nat_le, cond, List, [], ◌∷◌, ◌++◌, Option, Some, None, IfSome, arith}
use Rattle.std.specs.List.{AllByRecursion}
use Rattle.std.proofs.lemmas.Bool.{cond_both, and_parts, ltb-true, ltb-false}
use Rattle.ld_table.specs.Table.{find, put}
use Rattle.ld_table.specs.Words.{is_in}
use Rattle.ld_ids.specs.Id.{IsNode}
use Rattle.ld_ids.specs.Choice.{nodes_of}
use Rattle.ld_lsn.specs.Number.{home_epoch}
use Rattle.ld_config.specs.declared.config.Config.{Config}
use Rattle.ld_msg.specs.declared.msg.Who.{Who}
use Rattle.ld_msg.specs.declared.msg.Who.TheVariants as whos
use Rattle.ld_msg.specs.declared.msg.Body.{Body}
use Rattle.ld_msg.specs.declared.msg.Body.TheVariants as bodies
use Rattle.ld_msg.specs.Bounds.{Is32, Is64, IsSummary, IsNodeHere, Fits, last_reader}
use Rattle.ld_msg.specs.Register.{View}
use Rattle.ld_msg.specs.declared.style.Style.{Style}
use Rattle.ld_msg.specs.Reading.{Held, Item, TrimTo, LossHere, Verdict, Gives, Confirms, AsksAll, NotYet, decide, trim_held, record_held, hole_held, plug_held, withheld_held, end_held, is_loss, within, lost_held, lost_generation, entry_verdict, copy_verdict, end_verdict, loss_verdict}
use Rattle.ld_msg.specs.Reader.{Reader, Read, Senders, opened, is_finished, last_round, asks_with, asks_of, keys, look_of, sees_swap, round_ask, senders_of, starts, start_asks, is_full_poll, polled, poll_asks, gives, confirms, asks_all, has_seen, seen_nodes, may_confirm, is_confirming, misses, verdict, gives_all, most_items, round_of, is_newer, held_with, is_confirmed, heard, nothing_read, loses, is_swapped, asks_on, goes_through, heard_on, on_answer}
use Rattle.ld_machine.specs.Config.{has_log}
use Rattle.ld_machine.specs.Step.{sender_node}
use Rattle.ld_bounds.specs.Registers.{IsLook}
use Rattle.ld_bounds.specs.Readers.{IsAnswer, MayHaveSeen, IsReader}
use Rattle.ld_node_bounds.proofs.Alls.{all-append, all-filter, all-put}
use Rattle.ld_node_bounds.proofs.Numbers.{home_at_most, epoch_bound}
use Rattle.ld_node_bounds.proofs.Posts.{IsPost}
use Rattle.ld_bounds.proofs.Configs.{spec_nodes}
use Rattle.ld_bounds.proofs.Senders.{AreSenders, senders_are}

-- ---- who answers a reader ----

pub node_sent : (w : Who) (r : ℕ) (b : Body) → Fits w (whos.Reader r) b → IsNodeHere w
node_sent w r (bodies.Store n lng x) f = absurd f.0.1
node_sent w r (bodies.Stored n) f = f.0.0
node_sent w r (bodies.SealedHere n k) f = f.0.0
node_sent w r (bodies.LostHere n round g end) f = f.0
node_sent w r (bodies.CleanHere n y) f = f.0.0
node_sent w r (bodies.TrimmedHere n t) f = f.0.0
node_sent w r (bodies.DigestAsk n) f = absurd f.0.1
node_sent w r (bodies.DigestPage n upto t lng es) f = f.0.0
node_sent w r (bodies.Clean e y) f = absurd f.0.1
node_sent w r (bodies.Release n) f = absurd f.0.1
node_sent w r (bodies.Trim t) f = absurd f.0.1
node_sent w r (bodies.ReadAsk round n) f = absurd f.1
node_sent w r (bodies.ReadOne round n set excluded) f = absurd f.2
node_sent w r (bodies.ReadPage round n upto c es) f = f.0.0
node_sent w r (bodies.ReadEnded round n end loss) f = f.0.0
node_sent w r (bodies.ReadTrim round n t) f = f.0.0
node_sent w r (bodies.ReadWait round n k) f = f.0.0

-- the answer, as one of its node
pub record IsFromNode (w : Who) (r : ℕ) (b : Body) : Type 0 where
  pub node : IsNode (sender_node w)
  pub fits : Fits (whos.Node (sender_node w)) (whos.Reader r) b

from_here : (w : Who) (r : ℕ) (b : Body) → IsNodeHere w → Fits w (whos.Reader r) b → IsFromNode w r b
from_here (whos.Node n) r b h f = record { node = h; fits = f }
from_here (whos.Sequencer e) r b h f = absurd h
from_here (whos.Reader d) r b h f = absurd h

pub from_node : (w : Who) (r : ℕ) (b : Body) → Fits w (whos.Reader r) b → IsFromNode w r b
from_node w r b f = from_here w r b (node_sent w r b f) f

round_is : (y r : ℕ) (b : Body) → Fits (whos.Node y) (whos.Reader r) b → Is32 (round_of b)
round_is y r (bodies.Store n lng x) f = absurd f.0.1
round_is y r (bodies.Stored n) f = omega arith
round_is y r (bodies.SealedHere n k) f = omega arith
round_is y r (bodies.LostHere n round g end) f = f.4
round_is y r (bodies.CleanHere n s) f = omega arith
round_is y r (bodies.TrimmedHere n t) f = omega arith
round_is y r (bodies.DigestAsk n) f = omega arith
round_is y r (bodies.DigestPage n upto t lng es) f = omega arith
round_is y r (bodies.Clean e s) f = omega arith
round_is y r (bodies.Release n) f = omega arith
round_is y r (bodies.Trim t) f = omega arith
round_is y r (bodies.ReadAsk round n) f = absurd f.1
round_is y r (bodies.ReadOne round n set excluded) f = absurd f.1
round_is y r (bodies.ReadPage round n upto c es) f = f.0.2
round_is y r (bodies.ReadEnded round n end loss) f = f.0.2
round_is y r (bodies.ReadTrim round n t) f = f.0.2
round_is y r (bodies.ReadWait round n k) f = f.0.2

-- ---- asks ----

asks_with_are : (r : ℕ) (b : Body) (ys : List ℕ) → ((y : ℕ) → IsNode y → Fits (whos.Reader r) (whos.Node y) b) → AllByRecursion IsNode ys → AllByRecursion (IsPost (whos.Reader r)) (asks_with b ys)
asks_with_are r b [] f a = tt
asks_with_are r b (y ∷ ys) f a = (f y a.0, asks_with_are r b ys f a.1)

pub asks_are : (r round next : ℕ) (ys : List ℕ) → r ≤ last_reader → Is32 round → 1 ≤ next → Is64 next → AllByRecursion IsNode ys → AllByRecursion (IsPost (whos.Reader r)) (asks_of round next ys)
asks_are r round next ys h i one b a = asks_with_are r (bodies.ReadAsk round next) ys (λ y n. (h, n, i, tt, one, b)) a

round_sent : (r round next : ℕ) (o : Option Senders) (ys : List ℕ) → r ≤ last_reader → Is32 round → 1 ≤ next → Is64 next → AreSenders o → AllByRecursion IsNode ys → AllByRecursion (IsPost (whos.Reader r)) (asks_with (round_ask o round next) ys)
round_sent r round next None ys h i one b s a = asks_are r round next ys h i one b a
round_sent r round next (Some o) ys h i one b s a = asks_with_are r (bodies.ReadOne round next o.set o.excluded) ys (λ y n. (h, tt, n, i, one, b, s.0, s.1, s.2, s.3)) a

-- the node of an answer
abbrev IsHeldBy : ℕ × ℕ → Type 0
IsHeldBy k = IsNode k.0

lost_keys : (s number : ℕ) (h : ℕ × Held) → IsAnswer number h → (b : Body) → AllByRecursion IsHeldBy (lost_generation s h.0 b)
lost_keys s number h a (bodies.LostHere n round g end) = cond_both (home_epoch n == home_epoch s) ((h.0, g) ∷ []) [] (AllByRecursion IsHeldBy) (λ t. (a.node, tt)) (λ t. tt)
lost_keys s number h a (bodies.Store n lng x) = tt
lost_keys s number h a (bodies.Stored n) = tt
lost_keys s number h a (bodies.SealedHere n k) = tt
lost_keys s number h a (bodies.CleanHere n y) = tt
lost_keys s number h a (bodies.TrimmedHere n t) = tt
lost_keys s number h a (bodies.DigestAsk n) = tt
lost_keys s number h a (bodies.DigestPage n upto t lng es) = tt
lost_keys s number h a (bodies.Clean e y) = tt
lost_keys s number h a (bodies.Release n) = tt
lost_keys s number h a (bodies.Trim t) = tt
lost_keys s number h a (bodies.ReadAsk round n) = tt
lost_keys s number h a (bodies.ReadOne round n set excluded) = tt
lost_keys s number h a (bodies.ReadPage round n upto c es) = tt
lost_keys s number h a (bodies.ReadEnded round n end loss) = tt
lost_keys s number h a (bodies.ReadTrim round n t) = tt
lost_keys s number h a (bodies.ReadWait round n k) = tt

lost_nodes : (s number : ℕ) (hs : List (ℕ × Held)) → AllByRecursion (IsAnswer number) hs → AllByRecursion IsHeldBy (lost_held s hs)
lost_nodes s number [] a = tt
lost_nodes s number (h ∷ hs) a = all-append IsHeldBy (lost_generation s h.0 h.1.body) (lost_held s hs) (lost_keys s number h a.0 h.1.body) (lost_nodes s number hs a.1)

keys_nodes : (ks : List (ℕ × ℕ)) → AllByRecursion IsHeldBy ks → AllByRecursion IsNode (keys ks)
keys_nodes [] a = tt
keys_nodes (k ∷ ks) a = (a.0, keys_nodes ks a.1)

-- ---- an answer ----

-- the reader and its asks
pub record IsRead (c : Config) (old : Reader) (a : Read) : Type 0 where
  pub reader : IsReader c a.reader
  pub number : a.reader.number ≡ old.number
  pub log : a.reader.log ≡ old.log
  pub asks : AllByRecursion (IsPost (whos.Reader a.reader.number)) a.asks

-- what a verdict may be
abbrev IsVerdict : Reader → Verdict → Type 0
IsVerdict d (Gives i) = Unit {0}
IsVerdict d (Confirms lost) = AllByRecursion IsNode (keys lost) × (d.round < last_round) × (d.next ≤ d.until)
IsVerdict d AsksAll = d.next ≤ d.until
IsVerdict d NotYet = Unit {0}

module _ (c : Config) (looks : ℕ → View) where
  -- ---- a round ----

  -- what a look at the start of a round shows
  looked_is : (d : Reader) → ((e : ℕ) → IsLook c d.log e (looks e)) → d.next ≤ d.until → IsReader c d → MayHaveSeen c d.log (Some (look_of looks d))
  looked_is d K l D = let k = K (home_epoch d.next) in let e = k.of_epoch in let u = D.until in let h = home_at_most d.next in let b = epoch_bound d.next (omega arith) in
      (omega arith, record { of_epoch = refl; most = k.most; summary = subst (λ n. IfSome (look_of looks d).summary (IsSummary n)) (sym e) k.summary; spec = k.spec })

  starts_is : (full : Bool) (d : Reader) → ((e : ℕ) → IsLook c d.log e (looks e)) → d.next ≤ d.until → IsReader c d → IsReader c (starts full looks d)
  starts_is full d K l D = record {
    log = D.log;
    number = D.number;
    from_one = D.from_one;
    next = D.next;
    until = D.until;
    held = cond_both (nat_lt d.round last_round && sees_swap d.seen (look_of looks d)) [] d.held (AllByRecursion (IsAnswer d.number)) (λ t. tt) (λ t. D.held);
    round = cond_both (nat_lt d.round last_round) (d.round + 1) d.round Is32 (λ t. let z = ltb-true d.round last_round t in omega arith) (λ t. D.round);
    seen = cond_both (nat_lt d.round last_round) (Some (look_of looks d)) d.seen (MayHaveSeen c d.log) (λ t. looked_is d K l D) (λ t. D.seen);
  }

  starts_sent : (full : Bool) (d : Reader) → ((e : ℕ) → IsLook c d.log e (looks e)) → d.next ≤ d.until → IsReader c d → AllByRecursion (IsPost (whos.Reader d.number)) (start_asks full looks d)
  starts_sent full d K l D = let u = D.until in let w : View = look_of looks d in let x = (K (home_epoch d.next)).spec in let ys = spec_nodes c d.log w.spec x in
      cond_both (nat_lt d.round last_round) (asks_with (round_ask (senders_of full w d) (d.round + 1) d.next) (nodes_of w.spec)) [] (AllByRecursion (IsPost (whos.Reader d.number)))
      (λ t. let z = ltb-true d.round last_round t in round_sent d.number (d.round + 1) d.next (senders_of full w d) (nodes_of w.spec) D.number (omega arith) D.from_one (omega arith) (senders_are full w d x.fits.set ys) ys) (λ t. tt)

  pub polled_is : (d : Reader) → ((e : ℕ) → IsLook c d.log e (looks e)) → d.next ≤ d.until → IsReader c d → IsReader c (polled looks d)
  polled_is d K l D = let S = starts_is (is_full_poll d) d K l D in record { log = S.log; number = S.number; from_one = S.from_one; next = S.next; until = S.until; held = S.held; round = S.round; seen = S.seen }

  pub poll_sent : (d : Reader) → ((e : ℕ) → IsLook c d.log e (looks e)) → d.next ≤ d.until → IsReader c d → AllByRecursion (IsPost (whos.Reader d.number)) (poll_asks looks d)
  poll_sent d K l D = starts_sent (is_full_poll d) d K l D

  module _ (old : Reader) (K : (e : ℕ) → IsLook c old.log e (looks e)) where
    looks_of : (d : Reader) → d.log ≡ old.log → (e : ℕ) → IsLook c d.log e (looks e)
    looks_of d h e = subst (λ l. IsLook c l e (looks e)) (sym h) (K e)

    -- ---- verdicts ----
    entry_is : (d : Reader) (o : Option (List ℕ)) (hole plug : Bool) (v : Verdict) → IsVerdict d v → IsVerdict d (entry_verdict o hole plug v)
    entry_is d (Some p) hole plug v h = tt
    entry_is d None true plug v h = tt
    entry_is d None false true v h = tt
    entry_is d None false false v h = h

    end_is : (d : Reader) (o : Option Bool) (v : Verdict) → IsVerdict d v → IsVerdict d (end_verdict d.next o v)
    end_is d None v h = h
    end_is d (Some loss) v h = tt

    loss_is : (d : Reader) (set : List ℕ) → IsReader c d → d.next ≤ d.until → IsVerdict d (loss_verdict d.next (may_confirm d) set d.held)
    loss_is d set D l = cond_both (may_confirm d && is_loss d.next set d.held) (Confirms (lost_held d.next (within set d.held))) NotYet (IsVerdict d)
        (λ t. let p = (and_parts (may_confirm d) (is_loss d.next set d.held) t).0 in
        let q = (and_parts (not (is_confirming d.confirming) && nat_lt d.round last_round) (has_seen (home_epoch d.next) d.seen) p).0 in
        let r = (and_parts (not (is_confirming d.confirming)) (nat_lt d.round last_round) q).1 in
        (keys_nodes (lost_held d.next (within set d.held)) (lost_nodes d.next d.number (within set d.held) (all-filter (IsAnswer d.number) (λ h. is_in h.0 set) d.held D.held)), ltb-true d.round last_round r, l)) (λ t. tt)

    decided : (d : Reader) (misses : Bool) (set : List ℕ) → IsReader c d → d.next ≤ d.until → IsVerdict d (decide d.next misses (may_confirm d) set d.held)
    unfolding decide
    decided d misses set D l = let other : Verdict = end_verdict d.next (end_held d.next d.held) (loss_verdict d.next (may_confirm d) set d.held) in let rest : Verdict = copy_verdict (withheld_held d.next d.held) misses other in
        cond_both (nat_le d.next (trim_held d.held)) (Gives (TrimTo (trim_held d.held))) (entry_verdict (record_held d.next d.held) (hole_held d.next d.held) (plug_held d.next d.held) rest) (IsVerdict d)
        (λ t. tt) (λ t. entry_is d (record_held d.next d.held) (hole_held d.next d.held) (plug_held d.next d.held) rest
        (cond_both (withheld_held d.next d.held && misses) AsksAll other (IsVerdict d) (λ u. l) (λ u. end_is d (end_held d.next d.held) (loss_verdict d.next (may_confirm d) set d.held) (loss_is d set D l))))

    verdict_is : (d : Reader) → IsReader c d → IsVerdict d (verdict d)
    verdict_is d D = cond_both (is_finished d) NotYet (decide d.next (misses d d.senders) (may_confirm d) (seen_nodes d.seen) d.held) (IsVerdict d) (λ t. tt) (λ t. decided d (misses d d.senders) (seen_nodes d.seen) D (ltb-false d.until d.next t))

    -- ---- items ----
    item_is : (a : Read) (i : Item) → IsRead c old a → IsRead c old (gives a i)
    item_is a i A = let D = A.reader in record {
      reader = record { log = D.log; number = D.number; from_one = omega arith; next = omega arith; until = D.until; round = D.round; held = D.held; seen = D.seen };
      number = A.number;
      log = A.log;
      asks = A.asks;
    }

    confirms_is : (a : Read) (lost : List (ℕ × ℕ)) → IsVerdict a.reader (Confirms lost) → IsRead c old a → IsRead c old (confirms looks a lost)
    confirms_is a lost v A = let D = A.reader in let r = v.1 in let l = v.2 in let u = D.until in let swaps : Bool = sees_swap a.reader.seen (look_of looks a.reader) in record {
      reader = record {
        log = D.log;
        number = D.number;
        from_one = D.from_one;
        next = D.next;
        until = D.until;
        round = omega arith;
        held = cond_both swaps [] a.reader.held (AllByRecursion (IsAnswer a.reader.number)) (λ t. tt) (λ t. D.held);
        seen = looked_is a.reader (looks_of a.reader A.log) l D;
      };
      number = A.number;
      log = A.log;
      asks = cond_both swaps (start_asks false looks a.reader) (asks_of (a.reader.round + 1) a.reader.next (keys lost)) (AllByRecursion (IsPost (whos.Reader a.reader.number))) (λ t. starts_sent false a.reader (looks_of a.reader A.log) l D)
          (λ t. asks_are a.reader.number (a.reader.round + 1) a.reader.next (keys lost) D.number (omega arith) D.from_one (omega arith) v.0);
    }

    asks_all_is : (a : Read) → a.reader.next ≤ a.reader.until → IsRead c old a → IsRead c old (asks_all looks a)
    asks_all_is a l A = record { reader = starts_is true a.reader (looks_of a.reader A.log) l A.reader; number = A.number; log = A.log; asks = starts_sent true a.reader (looks_of a.reader A.log) l A.reader }

    going : (k : ℕ) (a : Read) → Verdict → Read
    going k a v = elim v as (λ _. Read) [ Gives i ↦ gives_all k looks (gives a i) | Confirms lost ↦ confirms looks a lost | AsksAll ↦ asks_all looks a | NotYet ↦ a ]

    going_is : (k : ℕ) (a : Read) (v : Verdict) → IsVerdict a.reader v → IsRead c old a → ((b : Read) → IsRead c old b → IsRead c old (gives_all k looks b)) → IsRead c old (going k a v)
    unfolding going
    going_is k a (Gives i) v A f = f (gives a i) (item_is a i A)
    going_is k a (Confirms lost) v A f = confirms_is a lost v A
    going_is k a AsksAll v A f = asks_all_is a v A
    going_is k a NotYet v A f = A

    all_is : (k : ℕ) (a : Read) → IsRead c old a → IsRead c old (gives_all k looks a)
    unfolding going
    all_is zero a A = A
    all_is (suc k) a A = going_is k a (verdict a.reader) (verdict_is a.reader A.reader) A (λ b B. all_is k b B)

    round_on : (a : Read) → IsRead c old a → (b : Bool) → asks_on a ≡ b → IsRead c old (record { reader = cond b (starts false looks a.reader) a.reader; items = a.items; asks = cond b (a.asks ++ start_asks false looks a.reader) a.asks; anew = a.anew })
    round_on a A true h = let p = (and_parts _ _ h).0 in let q = (and_parts _ _ p).1 in let l = ltb-false a.reader.until a.reader.next (finished_not (is_finished a.reader) q) in record {
      reader = starts_is false a.reader (looks_of a.reader A.log) l A.reader;
      number = A.number;
      log = A.log;
      asks = all-append (IsPost (whos.Reader a.reader.number)) a.asks (start_asks false looks a.reader) A.asks (starts_sent false a.reader (looks_of a.reader A.log) l A.reader);
    } where
      finished_not : (b : Bool) → not b ≡ true → b ≡ false
      finished_not true h = absurd cc
      finished_not false h = refl
    round_on a A false h = A

    -- ---- an answer that was heard ----

    silent_is : (d : Reader) → IsReader c d → d.number ≡ old.number → d.log ≡ old.log → IsRead c old (nothing_read d)
    silent_is d D n l = record { reader = D; number = n; log = l; asks = tt }

    looked_again : (d : Reader) → d.log ≡ old.log → d.next ≤ d.until → IsReader c d → IsReader c (record d { seen = Some (look_of looks d) })
    looked_again d q l D = record { log = D.log; number = D.number; from_one = D.from_one; next = D.next; until = D.until; round = D.round; held = D.held; seen = looked_is d (looks_of d q) l D }

    loses_is : (d : Reader) → d.number ≡ old.number → d.log ≡ old.log → d.next ≤ d.until → IsReader c d → IsRead c old (loses looks d)
    loses_is d n q l D = let e : Reader = record d { seen = Some (look_of looks d) } in cond_both (is_confirmed d.confirming) (gives (nothing_read e) LossHere) (nothing_read d) (IsRead c old)
        (λ t. item_is (nothing_read e) LossHere (silent_is e (looked_again d q l D) n q)) (λ t. silent_is d D n q)

    through_is : (d : Reader) → d.number ≡ old.number → d.log ≡ old.log → d.next ≤ d.until → IsReader c d → IsRead c old (goes_through looks d)
    through_is d n q l D = let g : Read = gives_all (most_items d) looks (loses looks d) in round_on g (all_is (most_items d) (loses looks d) (loses_is d n q l D)) (asks_on g) refl

    anew_is : (d : Reader) → d.number ≡ old.number → d.log ≡ old.log → d.next ≤ d.until → IsReader c d → IsRead c old (record { reader = starts false looks d; items = []; asks = start_asks false looks d; anew = true })
    anew_is d n q l D = record { reader = starts_is false d (looks_of d q) l D; number = n; log = q; asks = starts_sent false d (looks_of d q) l D }

    pub heard_is : (d : Reader) → d.number ≡ old.number → d.log ≡ old.log → d.next ≤ d.until → IsReader c d → IsRead c old (heard_on looks d)
    heard_is d n q l D = cond_both (is_swapped looks d) (record { reader = starts false looks d; items = []; asks = start_asks false looks d; anew = true }) (goes_through looks d) (IsRead c old) (λ t. anew_is d n q l D) (λ t. through_is d n q l D)

  -- an answer to a reader that isn't finished
  pub answer_is : (d : Reader) (y : ℕ) (b : Body) → ((e : ℕ) → IsLook c d.log e (looks e)) → d.next ≤ d.until → IsReader c d → IsNode y → Fits (whos.Node y) (whos.Reader d.number) b → IsRead c d (on_answer looks d y b)
  unfolding on_answer
  answer_is d y b K l D n f = cond_both (nat_lt (round_of b) d.least) (nothing_read d) (heard_on looks (heard d y b)) (IsRead c d) (λ t. silent_is d K d D refl refl) (λ t. heard_is d K (heard d y b) refl refl l h) where
    held_is : AllByRecursion (IsAnswer d.number) (held_with d.held y b)
    held_is = cond_both (is_newer (find y d.held) (round_of b)) (put y (record { round = round_of b; body = b }) d.held) d.held (AllByRecursion (IsAnswer d.number))
        (λ t. all-put (IsAnswer d.number) y (record { round = round_of b; body = b }) d.held (record { node = n; round = round_is y d.number b f; fits = f }) D.held) (λ t. D.held)

    h : IsReader c (heard d y b)
    h = record { log = D.log; number = D.number; from_one = D.from_one; next = D.next; until = D.until; round = D.round; held = held_is; seen = D.seen }

pub opened_is : (c : Config) (style : Style) (l number from until : ℕ) → has_log c l ≡ true → number ≤ last_reader → 1 ≤ from → from ≤ until → Is64 until → IsReader c (opened style l number from until)
opened_is c style l number from until h n one o u = record { log = h; number = n; from_one = one; next = omega (arith, o); until = u; round = omega arith; held = tt; seen = tt }
