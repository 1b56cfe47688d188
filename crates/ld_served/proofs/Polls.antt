-- A poll where nothing is under way begins a round, unless the reader is in its last one.
use Rattle.std.proofs.Common.{◌≡◌, ◌∙◌, ◌⊎◌, ◌≤◌, ◌<◌, ℕ, ◌+◌, inl, inr, refl, ap, sym, subst, Bool, true, false, ◌&&◌, nat_lt, if◌then◌else◌, List, [], ◌∷◌, Option, Some, None, cond, arith}
use Rattle.std.proofs.lemmas.Bool.{lt-ltb, ltb-true}
use Rattle.ld_table.specs.Named.{find_named, put_named}
use Rattle.ld_table.proofs.NameLaws.{same-self, find_named-put_named}
use Rattle.ld_lsn.specs.Number.{home_epoch}
use Rattle.ld_ids.specs.Choice.{nodes_of}
use Rattle.ld_config.specs.declared.config.Config.{Config}
use Rattle.ld_schedule.specs.declared.event.Event.TheVariants as events
use Rattle.ld_msg.specs.declared.msg.Who.TheVariants as whos
use Rattle.ld_msg.specs.declared.msg.Msg.{Msg}
use Rattle.ld_msg.specs.declared.msg.Body.{Body}
use Rattle.ld_msg.specs.declared.msg.Body.TheVariants as bodies
use Rattle.ld_msg.specs.Reading.{Held}
use Rattle.ld_msg.specs.Register.{View}
use Rattle.ld_msg.specs.Reader.{Reader, Senders, is_finished, last_round, asks_with, round_ask, look_of, sees_swap, senders_of, is_full_poll, polled, poll_asks}
use Rattle.ld_machine.specs.Config.{looks_at}
use Rattle.ld_machine.specs.State.{State, finish, with_reader, posted}
use Rattle.ld_machine.specs.World.{In}
use Rattle.ld_machine.specs.Calm.{Takes, moved}
use Rattle.ld_safety.proofs.Lists.{Some_inj, not_both}
use Rattle.ld_safety.proofs.ReaderSteps.{asks_are, dropped_held}
use Rattle.ld_safety.proofs.LostRounds.{posted_to}
use Rattle.ld_served.proofs.Stepping.{polling}
use Rattle.ld_served.proofs.UnderWay.{UnderWay, sent_now}
use Rattle.ld_served.proofs.Readers.{ReadersHere}
use Rattle.ld_served.proofs.Asked.{ask_at, sent_only}
use Rattle.ld_served.proofs.Sending.{some_sends}
use Rattle.ld_served.proofs.InRound.{set_now, ask_of, Goes, is_asked, Mine, all_send, one_sends, InRound}

pub asked_of : (b : Body) (ys : List ℕ) (x : ℕ × Body) → In x (asks_with b ys) → In x.0 ys
asked_of b [] x i = absurd i
asked_of b (y ∷ ys) x (inl e) = inl (ap (λ (z : ℕ × Body). z.0) e)
asked_of b (y ∷ ys) x (inr i) = inr (asked_of b ys x i)

pub asks_in : (b : Body) (ys : List ℕ) (y : ℕ) → In y ys → In {X = ℕ × Body} (y, b) (asks_with b ys)
asks_in b (x ∷ ys) y (inl e) = inl (λ i. (e i, b))
asks_in b (x ∷ ys) y (inr i) = inr (asks_in b ys y i)
asks_in b [] y i = absurd i

pub posted_in : (number l : ℕ) (bs : List (ℕ × Body)) (x : ℕ × Body) → In x bs → In (record { from = whos.Reader number; to = whos.Node x.0; log = l; body = x.1 }) (posted (whos.Reader number) l bs)
posted_in number l [] x i = absurd i
posted_in number l (b ∷ bs) x (inl e) = inl (λ j. record { from = whos.Reader number; to = whos.Node (e j).0; log = l; body = (e j).1 })
posted_in number l (b ∷ bs) x (inr i) = inr (posted_in number l bs x i)

-- an ask of a round from mid on is one for all that a node has; one below it is for one copy
pub ask_whole : (o : Senders) (mid n round : ℕ) → mid ≤ round → ask_at o mid n round ≡ bodies.ReadAsk round n
ask_whole o mid n round h = by_test (nat_lt round mid) refl where
  by_test : (b : Bool) → nat_lt round mid ≡ b → (if b then bodies.ReadOne round n o.set o.excluded else bodies.ReadAsk round n) ≡ bodies.ReadAsk round n
  by_test true e = absurd (let z = ltb-true round mid e in omega arith)
  by_test false e = refl

pub ask_one : (o : Senders) (mid n round : ℕ) → round < mid → ask_at o mid n round ≡ bodies.ReadOne round n o.set o.excluded
ask_one o mid n round h = ap (λ (b : Bool). if b then bodies.ReadOne round n o.set o.excluded else bodies.ReadAsk round n) (lt-ltb round mid h)

pub here : (k : List ℕ) (v : Reader) (m : List (List ℕ × Reader)) → find_named k (put_named k v m) ≡ Some v
here k v m = find_named-put_named k k v m ∙ ap (λ b. cond b (Some v) (find_named k m)) (same-self k)

module _ (c : Config) (s : State) (H : ReadersHere c s) (name : List ℕ) (d : Reader) (found : find_named name s.readers ≡ Some d) (unfinished : is_finished d ≡ false) (none : (m : Msg) → UnderWay s.network m → ⊥) where
  abbrev view : View
  view = look_of (looks_at c s.register d.log) d

  -- what a poll leaves, and its asks, where it isn't the last round
  abbrev round_begins : Bool → Option Senders → Reader
  round_begins q o = record d { round = d.round + 1; held = if q then [] else d.held; confirming = None; seen = Some view; least = if q then d.round + 1 else d.least; senders = o; polled = d.next }

  abbrev round_asks : Option Senders → List (ℕ × Body)
  round_asks o = asks_with (round_ask o (d.round + 1) d.next) (nodes_of view.spec)

  abbrev after : Bool → Option Senders → State
  after q o = (finish (record { state = with_reader s name (round_begins q o); lines = []; sends = posted (whos.Reader d.number) d.log (round_asks o) })).state

  -- its asks are those of the round that begins
  module _ (q : Bool) (o : Option Senders) (k : Senders) (mid : ℕ) (is : round_ask o (d.round + 1) d.next ≡ ask_at k mid d.next (d.round + 1)) where
    asks_now : (y : ℕ) → In y (set_now c (after q o) (round_begins q o)) → UnderWay (after q o).network (ask_of (round_begins q o) k mid y (d.round + 1))
    unfolding finish
    asks_now y i = sent_now s.network (posted (whos.Reader d.number) d.log (round_asks o)) _ H.places
        (subst (λ (b : Body). In (record { from = whos.Reader d.number; to = whos.Node y; log = d.log; body = b }) (posted (whos.Reader d.number) d.log (round_asks o))) is
        (posted_in d.number d.log (round_asks o) (y, round_ask o (d.round + 1) d.next) (asks_in (round_ask o (d.round + 1) d.next) (nodes_of view.spec) y i)))

    goes_now : (low : ℕ) → low ≤ d.round + 1 → (y : ℕ) → In y (set_now c (after q o) (round_begins q o)) → Goes (after q o) (round_begins q o) k mid low y
    goes_now low h y i = is_asked (d.round + 1) h (asks_now y i)

    only_these : (m : Msg) → UnderWay (after q o).network m → Mine c (after q o) (round_begins q o) k (d.round + 1) mid m
    unfolding finish
    only_these m u = elim (sent_only s.network (posted (whos.Reader d.number) d.log (round_asks o)) m H.places u) [
      | inl v ↦ absurd (none m v)
      | inr j ↦ (let p = posted_to (whos.Reader d.number) d.log (round_asks o) m j in record {
        node = p.0.0;
        round = d.round + 1;
        member = H.looks name d found (home_epoch d.next) p.0.0 (asked_of (round_ask o (d.round + 1) d.next) (nodes_of view.spec) p.0 p.1);
        from = omega arith;
        upto = omega arith;
        is = inl (p.2 ∙ ap (λ (b : Body). record { from = whos.Reader d.number; to = whos.Node p.0.0; log = d.log; body = b }) (asks_are (round_ask o (d.round + 1) d.next) (nodes_of view.spec) p.0 p.1 ∙ is));
      })
    ]

    none_held : (h : ℕ × Held) → In h (round_begins q o).held → d.round + 1 ≤ h.1.round → ⊥
    none_held h i l = let z = H.held_low name d found h (dropped_held (λ hs. In h hs → In h d.held) (λ j. absurd j) q d.held (λ j. j) i) in omega arith

    low_least : (round_begins q o).least ≤ d.round + 1
    low_least = by_swap q where
      by_swap : (b : Bool) → (if b then d.round + 1 else d.least) ≤ d.round + 1
      by_swap true = omega arith
      by_swap false = let z = H.low name d found in omega arith

  begins : (q : Bool) (o : Option Senders) → senders_of (is_full_poll d) view d ≡ o → InRound c (after q o) (round_begins q o)
  unfolding finish
  begins q None e = let k : Senders = record { set = []; excluded = [] } in let is = sym (ask_whole k (d.round + 1) d.next (d.round + 1) (omega arith)) in record {
    low = d.round + 1;
    mid = d.round + 1;
    senders = k;
    unfinished = unfinished;
    seen = refl;
    lower = omega arith;
    upper = omega arith;
    begun = omega arith;
    least = low_least q None k (d.round + 1) is;
    only = only_these q None k (d.round + 1) is;
    held = λ h i l. absurd (none_held q None k (d.round + 1) is h i l);
    each = goes_now q None k (d.round + 1) is (d.round + 1) (omega arith);
    sure = all_send (goes_now q None k (d.round + 1) is (d.round + 1) (omega arith));
    not_yet = λ y i n. absurd (n _ (asks_now q None k (d.round + 1) is y i));
  }
  begins q (Some k) e = let is = sym (ask_one k (d.round + 1 + 1) d.next (d.round + 1) (omega arith)) in let w = some_sends (is_full_poll d) view d k e in record {
    low = d.round + 1;
    mid = d.round + 1 + 1;
    senders = k;
    unfinished = unfinished;
    seen = refl;
    lower = omega arith;
    upper = omega arith;
    begun = omega arith;
    least = low_least q (Some k) k (d.round + 1 + 1) is;
    only = only_these q (Some k) k (d.round + 1 + 1) is;
    held = λ h i l. absurd (none_held q (Some k) k (d.round + 1 + 1) is h i l);
    each = goes_now q (Some k) k (d.round + 1 + 1) is (d.round + 1) (omega arith);
    sure = one_sends refl w.set w.node w.sends refl refl;
    not_yet = λ y i n. absurd (n _ (asks_now q (Some k) k (d.round + 1 + 1) is y i));
  }

  -- it begins a round, or it is in its last one
  abbrev pub Polled : State → Type 0
  Polled t = (e : Reader) → find_named name t.readers ≡ Some e → (e.next ≡ d.next) × ((nat_lt e.round last_round ≡ false) ⊎ InRound c t e)

  by_limit : (t : Bool) → nat_lt d.round last_round ≡ t → (x : Reader) (asks : List (ℕ × Body))
      → x ≡ record d { round = if t then d.round + 1 else d.round; held = if t && sees_swap d.seen view then [] else d.held; confirming = None; seen = if t then Some view else d.seen; least = if t && sees_swap d.seen view then d.round + 1 else d.least; senders = if t then senders_of (is_full_poll d) view d else d.senders; polled = d.next }
      → asks ≡ (if t then round_asks (senders_of (is_full_poll d) view d) else []) → (x.next ≡ d.next) × ((nat_lt x.round last_round ≡ false) ⊎ InRound c (finish (record { state = with_reader s name x; lines = []; sends = posted (whos.Reader d.number) d.log asks })).state x)
  unfolding finish
  by_limit true t x asks e f = subst (λ (z : Reader). (z.next ≡ d.next) × ((nat_lt z.round last_round ≡ false) ⊎ InRound c (finish (record { state = with_reader s name z; lines = []; sends = posted (whos.Reader d.number) d.log asks })).state z)) (sym e)
      (subst (λ (z : List (ℕ × Body)). (d.next ≡ d.next) × ((nat_lt (d.round + 1) last_round ≡ false) ⊎ InRound c (finish (record { state = with_reader s name (round_begins (sees_swap d.seen view) (senders_of (is_full_poll d) view d)); lines = []; sends = posted (whos.Reader d.number) d.log z })).state (round_begins (sees_swap d.seen view) (senders_of (is_full_poll d) view d)))) (sym f)
      (refl, inr (begins (sees_swap d.seen view) (senders_of (is_full_poll d) view d) refl)))
  by_limit false t x asks e f = (ap (λ (z : Reader). z.next) e, inl (ap (λ (z : Reader). nat_lt z.round last_round) e ∙ t))

  poll_now : (e : Reader) → find_named name (put_named name (polled (looks_at c s.register d.log) d) s.readers) ≡ Some e
      → (e.next ≡ d.next) × ((nat_lt e.round last_round ≡ false) ⊎ InRound c (finish (record { state = with_reader s name (polled (looks_at c s.register d.log) d); lines = []; sends = posted (whos.Reader d.number) d.log (poll_asks (looks_at c s.register d.log) d) })).state e)
  poll_now e g = subst (λ (z : Reader). (z.next ≡ d.next) × ((nat_lt z.round last_round ≡ false) ⊎ InRound c (finish (record { state = with_reader s name (polled (looks_at c s.register d.log) d); lines = []; sends = posted (whos.Reader d.number) d.log (poll_asks (looks_at c s.register d.log) d) })).state z))
      (Some_inj (sym (here name (polled (looks_at c s.register d.log) d) s.readers) ∙ g)) (by_limit (nat_lt d.round last_round) refl (polled (looks_at c s.register d.log) d) (poll_asks (looks_at c s.register d.log) d) refl refl)

  pub poll_begins : Polled (moved c s (Takes (events.Poll name))).state
  unfolding finish
  poll_begins = polling c s name (λ z. Polled (finish z).state) (record {
    still = λ k. absurd (not_both (is_finished d) (k d found) unfinished);
    polls = λ x v. subst (λ (x : Reader). Polled (finish (record { state = with_reader s name (polled (looks_at c s.register x.log) x); lines = []; sends = posted (whos.Reader x.number) x.log (poll_asks (looks_at c s.register x.log) x) })).state) (Some_inj (sym found ∙ v.named)) poll_now;
  })
