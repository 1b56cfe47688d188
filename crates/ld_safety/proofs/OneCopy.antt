-- In a round in which one node sends each payload it alone does: the asks of a round are alike, and a page is an answer to one of them.
use Rattle.std.proofs.Common.{◌≡◌, ◌∙◌, ◌⊎◌, ◌≤◌, ◌<◌, ℕ, ◌+◌, inl, inr, refl, ap, sym, subst, Bool, true, false, map, cond, nat_lt, List, [], ◌∷◌, Option, Some, None, arith}
use Rattle.std.proofs.lemmas.Bool.{eqb-true}
use Rattle.ld_table.specs.Named.{find_named}
use Rattle.ld_config.specs.declared.config.Config.{Config}
use Rattle.ld_ids.specs.Choice.{nodes_of}
use Rattle.ld_msg.specs.declared.msg.What.{What}
use Rattle.ld_msg.specs.declared.msg.What.TheVariants.{Rec, Hole, Bridge, Plug, Withheld}
use Rattle.ld_msg.specs.declared.msg.Who.TheVariants as whos
use Rattle.ld_msg.specs.declared.msg.Msg.{Msg}
use Rattle.ld_msg.specs.declared.msg.Entry.{Entry}
use Rattle.ld_msg.specs.declared.msg.Body.{Body}
use Rattle.ld_msg.specs.declared.msg.Body.TheVariants as bodies
use Rattle.ld_msg.specs.Choice.{sender}
use Rattle.ld_msg.specs.Register.{View}
use Rattle.ld_msg.specs.Reader.{Reader, Read, on_answer, polled, poll_asks, start_asks, starts, confirms, asks_of, asks_with, round_ask, senders_of, look_of, last_round, is_full_poll, keys, sees_swap, nothing_read, heard}
use Rattle.ld_op.specs.Plain.{Plain, log_of}
use Rattle.ld_op.specs.Answers.{withheld, withheld_what, withheld_in, is_node}
use Rattle.ld_op.specs.Handles.{handled_by, ballot_of}
use Rattle.ld_machine.specs.Config.{looks_at}
use Rattle.ld_machine.specs.State.{node_at, posted}
use Rattle.ld_machine.specs.World.{World, In, begin}
use Rattle.ld_machine.specs.Run.{Move, after_step, world_after}
use Rattle.ld_machine.specs.Step as Step
use Rattle.ld_safety.specs.OneCopy.{OneSends}
use Rattle.ld_safety.proofs.Lists.{Some_inj, In-append, In-map, only, cond_both}
use Rattle.ld_safety.proofs.Traces.{Keeps, later, beside_kept}
use Rattle.ld_safety.proofs.Events.{NamesOnce}
use Rattle.ld_safety.proofs.ReaderSteps.{ReadKeeps, answered, asks_are, start_are, confirm_are}
use Rattle.ld_safety.proofs.LostReads.{read_on, starts_up}
use Rattle.ld_safety.proofs.LostTalk.{TalkKeeps, talked, new_or_old, still_sent}
use Rattle.ld_safety.proofs.LostRounds.{wave_of, ask_parts, ask_answer, posted_to}
use Rattle.ld_safety.proofs.LostAlong.{RoundsOf, Asked, asked_kept}
use Rattle.ld_safety.proofs.Withheld.{withheld_one}

-- ---- pages ----

node_is : (n : ℕ) (o : Option ℕ) → is_node n o ≡ true → o ≡ Some n
node_is n None h = absurd cc
node_is n (Some y) h = ap Some (eqb-true y n h)

mine : (b : Bool) (w : What) (p : List ℕ) → withheld_what b w ≡ Rec p → b ≡ true
mine true w p h = refl
mine false (Rec q) p h = absurd cc
mine false Hole p h = absurd cc
mine false Bridge p h = absurd cc
mine false Plug p h = absurd cc
mine false Withheld p h = absurd cc

-- the records of a page are the node's to send
Alone : ℕ → List Bool → List Bool → Body → Type 0
Alone n set excluded b = (u f upto : ℕ) (clean : Bool) (es : List Entry) → b ≡ bodies.ReadPage u f upto clean es → (e : Entry) → In e es → (p : List ℕ) → e.what ≡ Rec p → sender set excluded e.number ≡ Some n

alone : (n : ℕ) (set excluded : List Bool) (b : Body) → Alone n set excluded (withheld_in n set excluded b)
unfolding Alone
alone n set excluded (bodies.ReadPage a g k c fs) = λ u f upto clean es q e i p w.
    let z : map (withheld n set excluded) fs ≡ es = cc in
    let m = In-map (withheld n set excluded) e fs (subst (In e) (sym z) i) in
    node_is n (sender set excluded e.number) (subst (λ (x : Entry). is_node n (sender set excluded x.number) ≡ true) (sym m.2) (mine (is_node n (sender set excluded m.0.number)) m.0.what p (ap (λ (x : Entry). x.what) (sym m.2) ∙ w)))
alone n set excluded _ = λ u f upto clean es q e i p w. absurd cc

-- ---- asks ----

-- asks of one round are alike, and none is of a later round than the reader's
record Alike (a : Read) : Type 0 where
  same : (x y : ℕ × Body) → In x a.asks → In y a.asks → wave_of x.1 ≡ wave_of y.1 → x.1 ≡ y.1
  most : (x : ℕ × Body) → In x a.asks → wave_of x.1 ≤ a.reader.round

start_same : (full : Bool) (looks : ℕ → View) (d : Reader) (x y : ℕ × Body) → In x (start_asks full looks d) → In y (start_asks full looks d) → x.1 ≡ y.1
start_same full looks d x y = by_limit (nat_lt d.round last_round) where
  by_limit : (t : Bool) → In x (cond t (asks_with (round_ask (senders_of full (look_of looks d) d) (d.round + 1) d.next) (nodes_of (look_of looks d).spec)) []) → In y (cond t (asks_with (round_ask (senders_of full (look_of looks d) d) (d.round + 1) d.next) (nodes_of (look_of looks d).spec)) []) → x.1 ≡ y.1
  by_limit true i j = asks_are _ (nodes_of (look_of looks d).spec) x i ∙ sym (asks_are _ (nodes_of (look_of looks d).spec) y j)
  by_limit false i j = absurd i

confirm_same : (looks : ℕ → View) (a : Read) (lost : List (ℕ × ℕ)) (x y : ℕ × Body) → In x (confirms looks a lost).asks → In y (confirms looks a lost).asks → x.1 ≡ y.1
confirm_same looks a lost x y = cond_both (sees_swap a.reader.seen (look_of looks a.reader)) (start_asks false looks a.reader) (asks_of (a.reader.round + 1) a.reader.next (keys lost)) (λ z. In x z → In y z → x.1 ≡ y.1)
    (λ t i j. start_same false looks a.reader x y i j) (λ t i j. asks_are _ (keys lost) x i ∙ sym (asks_are _ (keys lost) y j))

start_wave : (full : Bool) (looks : ℕ → View) (d : Reader) (x : ℕ × Body) → In x (start_asks full looks d) → (wave_of x.1 ≡ (starts full looks d).round) × (d.round < (starts full looks d).round)
start_wave full looks d x i = let s = start_are full looks d x i in ((ask_parts x.1 _ _ s.0).0, s.1)

starts_alike : (full : Bool) (looks : ℕ → View) (d : Reader) (is : Read) → is.reader ≡ starts full looks d → is.asks ≡ start_asks full looks d → Alike is
starts_alike full looks d is r q = record {
  same = λ x y i j w. start_same full looks d x y (subst (λ (z : List (ℕ × Body)). In x z) q i) (subst (λ (z : List (ℕ × Body)). In y z) q j);
  most = λ x i. let w = (start_wave full looks d x (subst (λ (z : List (ℕ × Body)). In x z) q i)).0 in let u = ap (λ (z : Reader). z.round) r in omega arith;
}

alike_keeps : (looks : ℕ → View) (d : Reader) (y : ℕ) (b : Body) → ReadKeeps looks d y b Alike
alike_keeps looks d y b = record {
  starts = no_asks (heard d y b);
  ignored = λ u. no_asks d;
  loss = λ u n. record { same = λ x y i. absurd i; most = λ x i. absurd i };
  swapped = λ u n. starts_alike false looks (heard d y b) _ refl refl;
  trim = λ a g n t. record { same = g.same; most = g.most };
  record_there = λ a p g n t. record { same = g.same; most = g.most };
  hole_there = λ a g n t. record { same = g.same; most = g.most };
  plug = λ a g n t. record { same = g.same; most = g.most };
  bridge = λ a g n t. record { same = g.same; most = g.most };
  lossy_end = λ a g n t. record { same = g.same; most = g.most };
  confirm = λ a g n m t. record { same = λ x y i j w. confirm_same looks a _ x y i j; most = λ x i. let w = (ask_parts x.1 _ _ (confirm_are looks a _ m x i)).0 in omega arith };
  asks_all = λ a g n. starts_alike true looks a.reader _ refl refl;
  polls_on = λ a g t. record {
    same = λ x y i j w. elim (In-append x a.asks _ i) [
      | inl k ↦ elim (In-append y a.asks _ j) [ inl l ↦ g.same x y k l w | inr l ↦ absurd (let u = g.most x k in let v = start_wave false looks a.reader y l in let p = v.0 in let q = v.1 in omega arith) ]
      | inr k ↦ elim (In-append y a.asks _ j) [ inl l ↦ absurd (let u = g.most y l in let v = start_wave false looks a.reader x k in let p = v.0 in let q = v.1 in omega arith) | inr l ↦ start_same false looks a.reader x y k l ]
    ];
    most = λ x i. elim (In-append x a.asks _ i) [ inl k ↦ (let u = g.most x k in let v = starts_up false looks a.reader in omega arith) | inr k ↦ (let u = (start_wave false looks a.reader x k).0 in omega arith) ];
  };
} where
  no_asks : (x : Reader) → Alike (nothing_read x)
  no_asks x = record { same = λ x y i. absurd i; most = λ x i. absurd i }

-- ---- messages ----

AsksSame : List Msg → Type 0
AsksSame ms = (a b : Msg) (r : ℕ) → In a ms → In b ms → a.from ≡ whos.Reader r → b.from ≡ whos.Reader r → wave_of a.body ≡ wave_of b.body → a.body ≡ b.body

-- a page answers an ask of its round
record OfAsk (ms : List Msg) (r y u : ℕ) (b : Body) : Type 0 where
  ask : Msg
  sent : In ask ms
  from : ask.from ≡ whos.Reader r
  wave : wave_of ask.body ≡ u
  alone_there : (v k : ℕ) (set excluded : List Bool) → ask.body ≡ bodies.ReadOne v k set excluded → Alone y set excluded b

PagesOf : List Msg → List Msg → Type 0
PagesOf ms ks = (k : Msg) (r y u f upto : ℕ) (clean : Bool) (es : List Entry) → In k ks → k.to ≡ whos.Reader r → k.from ≡ whos.Node y → k.body ≡ bodies.ReadPage u f upto clean es → OfAsk ms r y u k.body

record OneFine (w : World) : Type 0 where
  asks : AsksSame w.state.network.sent
  pages : PagesOf w.state.network.sent w.state.network.sent

module _ (c : Config) (w : World) (v : Move) (R : RoundsOf w) (O : OneFine w) where
  record NewOnes (ms : List Msg) : Type 0 where
    asks : (a b : Msg) (r : ℕ) → In a ms → In b w.state.network.sent ⊎ In b ms → a.from ≡ whos.Reader r → b.from ≡ whos.Reader r → wave_of a.body ≡ wave_of b.body → a.body ≡ b.body
    pages : PagesOf w.state.network.sent ms

  -- messages to nodes that no reader sends
  none_new : (ms : List Msg) → ((m : Msg) → In m ms → (r : ℕ) → m.from ≡ whos.Reader r → ⊥) → ((m : Msg) → In m ms → (r : ℕ) → m.to ≡ whos.Reader r → ⊥) → NewOnes ms
  unfolding PagesOf
  none_new ms f t = record { asks = λ a b r i o p. absurd (f a i r p); pages = λ k r y u g upto clean es i p. absurd (t k i r p) }

  -- an answer
  answer_new : (n : ℕ) (m : Msg) (x : Body) → In m w.state.network.sent → (Step.node_handles n (node_at w.state n) m).answer ≡ Some x → NewOnes (record { from = whos.Node n; to = m.from; log = m.log; body = x } ∷ [])
  unfolding PagesOf
  answer_new n m x i a = record {
    asks = λ z b r j o p. absurd (let q : whos.Node n ≡ whos.Reader r = sym (ap (λ (u : Msg). u.from) (only z _ j)) ∙ p in cc);
    pages = λ z r y u f upto clean es j t g h. let o = only z _ j in
        let from : m.from ≡ whos.Reader r = sym (ap (λ (k : Msg). k.to) o) ∙ t in
        let node : n ≡ y = same_node (sym (ap (λ (k : Msg). k.from) o) ∙ g) in
        let body : x ≡ z.body = sym (ap (λ (k : Msg). k.body) o) in
        let q = R.asks m r i from in
        let s = ask_answer n (node_at w.state n).plain.generation (log_of (node_at w.state n).plain m.log) m.log _ _ m.body x q a in record {
          ask = m;
          sent = i;
          from = from;
          wave = (ask_parts m.body q.round q.from q.is).0 ∙ (sym s.wave ∙ (ap wave_of body ∙ ap wave_of h));
          alone_there = λ e k set excluded l. subst (λ j. Alone j set excluded z.body) node (subst (Alone n set excluded) body (by_ask m.body e k set excluded l a));
        };
  } where
    same_node : {x y : ℕ} → whos.Node x ≡ whos.Node y → x ≡ y
    same_node z = cc

    p : Plain
    p = (node_at w.state n).plain

    by_ask : (b : Body) (e k : ℕ) (set excluded : List Bool) → b ≡ bodies.ReadOne e k set excluded → (handled_by n p.generation (log_of p m.log) m.log (ballot_of m.from) (Step.released_at (node_at w.state n) m.log) b).answer ≡ Some x → Alone n set excluded x
    by_ask b e k set excluded l h = subst (Alone n set excluded) (Some_inj (subst (λ y. (handled_by n p.generation (log_of p m.log) m.log (ballot_of m.from) (Step.released_at (node_at w.state n) m.log) y).answer ≡ Some x) l h))
        (withheld_one n set excluded (Alone n set excluded) p.generation (log_of p m.log) (Step.released_at (node_at w.state n) m.log) e k (λ y. alone n set excluded y))

  -- the asks of a reader
  asks_new : (name : List ℕ) (d x : Reader) (bs : List (ℕ × Body)) → find_named name w.state.readers ≡ Some d → x.number ≡ d.number → ((b : ℕ × Body) → In b bs → d.round < wave_of b.1) → ((b e : ℕ × Body) → In b bs → In e bs → wave_of b.1 ≡ wave_of e.1 → b.1 ≡ e.1) → NewOnes (posted (whos.Reader x.number) x.log bs)
  unfolding PagesOf
  asks_new name d x bs f number late same = record {
    asks = λ a b r i o p q s.
        let k = posted_to (whos.Reader x.number) x.log bs a i in
        let e : a.body ≡ k.0.1 = ap (λ (z : Msg). z.body) k.2 in
        let r_is : x.number ≡ r = reader_is (sym (ap (λ (z : Msg). z.from) k.2) ∙ p) in elim o [
          | inl j ↦ absurd (let u = (R.waves b r name d j (inr q) f (sym number ∙ r_is)).wave in let y = late k.0 k.1 in let z = ap wave_of e in omega arith)
          | inr j ↦ let l = posted_to (whos.Reader x.number) x.log bs b j in let g : b.body ≡ l.0.1 = ap (λ (z : Msg). z.body) l.2 in e ∙ (same k.0 l.0 k.1 l.1 (sym (ap wave_of e) ∙ (s ∙ ap wave_of g)) ∙ sym g)
        ];
    pages = λ k r y u g upto clean es i p. absurd (let z = posted_to (whos.Reader x.number) x.log bs k i in let q : whos.Node z.0.0 ≡ whos.Reader r = sym (ap (λ (m : Msg). m.to) z.2) ∙ p in cc);
  } where
    reader_is : {a b : ℕ} → whos.Reader a ≡ whos.Reader b → a ≡ b
    reader_is z = cc

  one_talk : TalkKeeps c w.state v (λ ms ds. NewOnes ms)
  one_talk = record {
    quiet = none_new [] (λ m i. absurd i) (λ m i. absurd i);
    elsewhere = λ ms h. none_new ms (λ m i r q. (h m i).whose r q) (λ m i r q. let z : whos.Node (h m i).node ≡ whos.Reader r = sym (h m i).to ∙ q in cc);
    answers = λ n m x i t s a. answer_new n m x i a;
    reads = λ name d m i t s. let looks = looks_at c w.state.register d.log in let y = Step.sender_node m.from in let G = read_on looks d y m.body s.open_still in let a = on_answer looks d y m.body in let A = answered looks d y m.body Alike (alike_keeps looks d y m.body) in
        asks_new name d a.reader a.asks s.named G.number (λ b j. let k = G.asks b j in let u = (ask_parts b.1 k.at k.from k.is).0 in let z = k.above in omega arith) A.same;
    polls = λ name d s. let looks = looks_at c w.state.register d.log in
        asks_new name d (polled looks d) (poll_asks looks d) s.named refl (λ b j. let k = start_wave (is_full_poll d) looks d b j in let p = k.0 in let q = k.1 in omega arith) (λ b e j k q. start_same (is_full_poll d) looks d b e j k);
    opens = λ style name l from until o. none_new [] (λ m i. absurd i) (λ m i. absurd i);
  }

  one_step : NamesOnce w.state → OneFine (after_step c w v)
  unfolding AsksSame PagesOf
  one_step N = let t = talked c w.state v (λ ms ds. NewOnes ms) one_talk N in record {
    asks = λ a b r i j p q s. elim (new_or_old c w.state v a t.same i) [
      | inl k ↦ elim (new_or_old c w.state v b t.same j) [ inl l ↦ O.asks a b r k l p q s | inr l ↦ sym (t.talk.asks b a r l (inl k) q p (sym s)) ]
      | inr k ↦ t.talk.asks a b r k (new_or_old c w.state v b t.same j) p q s
    ];
    pages = λ k r y u f upto clean es i to from h. let o : OfAsk w.state.network.sent r y u k.body = elim (new_or_old c w.state v k t.same i) [ inl j ↦ O.pages k r y u f upto clean es j to from h | inr j ↦ t.talk.pages k r y u f upto clean es j to from h ] in
        record { ask = o.ask; sent = still_sent c w.state v o.ask t.same o.sent; from = o.from; wave = o.wave; alone_there = o.alone_there };
  }

start_one : (c : Config) → OneFine (begin c)
unfolding AsksSame PagesOf
start_one c = record { asks = λ a b r i. absurd i; pages = λ k r y u f upto clean es i. absurd i }

-- ---- along a run ----
one_kept : (c : Config) → Keeps c (λ hs w. Asked c hs w × OneFine w)
one_kept c = beside_kept c (Asked c) (λ hs w. OneFine w) (asked_kept c) (start_one c) (λ hs w v A C O. one_step c w v A.1.1 O A.0.0.0)

sends_here : (w : World) → OneFine w → OneSends w
unfolding AsksSame PagesOf Alone
sends_here w O ask page r y round from start upto set excluded clean es e p i f b j t g h k q =
    let o = O.pages page r y round start upto clean es j t g h in
    let same : o.ask.body ≡ ask.body = O.asks o.ask ask r o.sent i o.from f (o.wave ∙ sym (ap wave_of b)) in
    o.alone_there round from set excluded (same ∙ b) round start upto clean es h e k p q

pub one_node_sends : (c : Config) (ms : List Move) → OneSends (world_after c (begin c) ms)
one_node_sends c ms = sends_here (world_after c (begin c) ms) (later c (λ hs w. Asked c hs w × OneFine w) (one_kept c) [] (begin c) ms (one_kept c).begins).1
