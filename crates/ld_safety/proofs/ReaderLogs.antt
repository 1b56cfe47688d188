-- Readers have numbers of their own, and each message from or to a reader's number is of that reader's log.
use Rattle.std.proofs.Common.{◌≡◌, ◌∙◌, ◌⊎◌, ◌≤◌, ◌<◌, ℕ, ◌+◌, suc, inl, inr, refl, ap, sym, subst, Bool, true, false, cond, List, [], ◌∷◌, length, Option, Some, None, arith}
use Rattle.ld_op.specs.Handles.{answer_message}
use Rattle.ld_table.specs.Named.{same, find_named, put_named}
use Rattle.ld_msg.specs.declared.msg.Msg.{Msg}
use Rattle.ld_msg.specs.declared.msg.Who.{Who}
use Rattle.ld_msg.specs.declared.msg.Who.TheVariants as whos
use Rattle.ld_msg.specs.declared.msg.Body.{Body}
use Rattle.ld_config.specs.declared.config.Config.{Config}
use Rattle.ld_op.specs.declared.op.Op.{Op}
use Rattle.ld_op.specs.declared.op.Op.TheVariants as ops
use Rattle.ld_op.specs.Ticks.{Ticked, Cleans, Rebuilt, Asks, Nothing}
use Rattle.ld_machine.specs.Config.{looks_at}
use Rattle.ld_machine.specs.Disk.{Node, Kept, Written, keep_end}
use Rattle.ld_msg.specs.Sequencer.{Called, Sequencer}
use Rattle.ld_msg.specs.Reader.{Reader, opened, polled, on_answer, poll_asks}
use Rattle.ld_machine.specs.State.{Done, finish, node_at, with_node, with_reader, with_register, only_state, posted}
use Rattle.ld_table.proofs.NameLaws.{same-self, find_named-put_named}
use Rattle.ld_msg.specs.Register.{View, epochs_of, epochs_in, generation_of}
use Rattle.ld_machine.specs.Facts.{Happened}
use Rattle.ld_machine.specs.World.{World, In}
use Rattle.ld_machine.specs.Step as Step
use Rattle.ld_safety.proofs.Lists.{Some_inj, not_none}
use Rattle.ld_safety.proofs.Names.{named_cases}
use Rattle.ld_safety.proofs.Traces.{Keeps}
use Rattle.ld_safety.proofs.Events.{reply_call, retry_call, announced, NamesOnce, Cases, refreshed, loaded}
use Rattle.ld_safety.proofs.Steps.{sent_by}
use Rattle.ld_safety.proofs.NamesKept.{with_names}
use Rattle.ld_safety.proofs.ReaderSteps.{ReadKeeps, answered}
use Rattle.ld_msg.specs.declared.style.Style.{Style}
use Rattle.ld_machine.specs.Calm.{Move}

-- ---- lengths ----
length-put : {X : Type 0} (k : List ℕ) (v : X) (m : List (List ℕ × X)) → length m ≤ length (put_named k v m)
unfolding put_named
length-put k v [] = omega arith
length-put k v (e ∷ m) = by_key (same k e.0) (length-put k v m) where
  by_key : (b : Bool) → length m ≤ length (put_named k v m) → suc (length m) ≤ length (cond b ((e.0, v) ∷ m) (e ∷ put_named k v m))
  by_key true h = omega arith
  by_key false h = omega arith

length-new : {X : Type 0} (k : List ℕ) (v : X) (m : List (List ℕ × X)) → find_named k m ≡ None → length (put_named k v m) ≡ length m + 1
unfolding put_named find_named
length-new k v [] h = refl
length-new k v (e ∷ m) h = by_key (same k e.0) h (length-new k v m) where
  by_key : (b : Bool) → cond b (Some e.1) (find_named k m) ≡ None → (find_named k m ≡ None → length (put_named k v m) ≡ length m + 1) → length (cond b ((e.0, v) ∷ m) (e ∷ put_named k v m)) ≡ suc (length m) + 1
  by_key true q ih = absurd cc
  by_key false q ih = let i = ih q in omega arith

here : (k : List ℕ) (v : Reader) (m : List (List ℕ × Reader)) → find_named k (put_named k v m) ≡ Some v
here k v m = find_named-put_named k k v m ∙ ap (λ b. cond b (Some v) (find_named k m)) (same-self k)

-- ---- the invariant ----

-- a message speaks for a reader's number
abbrev pub Concerns : Msg → ℕ → Type 0
Concerns m r = (m.to ≡ whos.Reader r) ⊎ (m.from ≡ whos.Reader r)

pub record Apart (ms : List Msg) (ds : List (List ℕ × Reader)) : Type 0 where
  pub numbers : (s : List ℕ) (d : Reader) → find_named s ds ≡ Some d → d.number < length ds
  pub once : (s t : List ℕ) (d x : Reader) → find_named s ds ≡ Some d → find_named t ds ≡ Some x → d.number ≡ x.number → s ≡ t
  pub known : (m : Msg) (r : ℕ) → In m ms → Concerns m r → r < length ds
  pub logs : (m : Msg) (r : ℕ) (s : List ℕ) (d : Reader) → In m ms → Concerns m r → find_named s ds ≡ Some d → d.number ≡ r → d.log ≡ m.log

abbrev pub ReadersApart : List Happened → World → Type 0
ReadersApart hs w = Apart w.state.network.sent w.state.readers

-- messages of nodes and sequencers that answer what was sent
abbrev Answering : List Msg → Msg → Type 0
Answering ms m = (r : ℕ) → Concerns m r → (k : Msg) × In k ms × Concerns k r × (k.log ≡ m.log)

more_messages : (ms : List Msg) (ds : List (List ℕ × Reader)) (d : Done) → d.state.network.sent ≡ ms → d.state.readers ≡ ds → ((m : Msg) → In m d.sends → Answering ms m) → Apart ms ds → Apart (finish d).state.network.sent ds
more_messages ms ds d e f h a = record {
  numbers = a.numbers;
  once = a.once;
  known = λ m r i o. elim (sent_by d m i) [
    | inl j ↦ a.known m r (subst (λ (x : List Msg). In m x) e j) o
    | inr j ↦ let k = h m j r o in a.known k.0 r k.1 k.2
  ];
  logs = λ m r s x i o g n. elim (sent_by d m i) [
    | inl j ↦ a.logs m r s x (subst (λ (x : List Msg). In m x) e j) o g n
    | inr j ↦ let k = h m j r o in a.logs k.0 r s x k.1 k.2 g n ∙ k.3
  ];
}

-- a reader goes on
goes_on : (ms : List Msg) (ds : List (List ℕ × Reader)) (s : List ℕ) (d x : Reader) → find_named s ds ≡ Some d → x.number ≡ d.number → x.log ≡ d.log → Apart ms ds → Apart ms (put_named s x ds)
goes_on ms ds s d x f n l a = record {
  numbers = λ t y i. let b = before t y i in let z = a.numbers t b.0 b.1 in let q = b.2 in let p = length-put s x ds in omega arith;
  once = λ t u y z i j e. let b = before t y i in let c = before u z j in a.once t u b.0 c.0 b.1 c.1 (b.2 ∙ (e ∙ sym c.2));
  known = λ m r i o. let z = a.known m r i o in let p = length-put s x ds in omega arith;
  logs = λ m r t y i o j e. let b = before t y j in sym b.3 ∙ a.logs m r t b.0 i o b.1 (b.2 ∙ e);
} where
  before : (t : List ℕ) (y : Reader) → find_named t (put_named s x ds) ≡ Some y → (z : Reader) × (find_named t ds ≡ Some z) × (z.number ≡ y.number) × (z.log ≡ y.log)
  before t y i = elim (named_cases t s x ds) [
    | inl c ↦ let e : x ≡ y = Some_inj (sym c.1 ∙ i) in (d, subst (λ k. find_named k ds ≡ Some d) (sym c.0) f, sym n ∙ ap (λ (z : Reader). z.number) e, sym l ∙ ap (λ (z : Reader). z.log) e)
    | inr c ↦ (y, sym c.1 ∙ i, refl, refl)
  ]

-- a reader is opened
one_opened : (ms : List Msg) (ds : List (List ℕ × Reader)) (s : List ℕ) (x : Reader) → find_named s ds ≡ None → x.number ≡ length ds → Apart ms ds → Apart ms (put_named s x ds)
one_opened ms ds s x f n a = let q = length-new s x ds f in record {
  numbers = λ t y i. elim (found_in t y i) [ inl c ↦ (let e : x.number ≡ y.number = ap (λ (z : Reader). z.number) c.1 in omega arith) | inr c ↦ let z = a.numbers t y c in omega arith ];
  once = λ t u y z i j e. elim (found_in t y i) [
    | inl c ↦ elim (found_in u z j) [
      | inl b ↦ c.0 ∙ sym b.0
      | inr b ↦ absurd (let v = a.numbers u z b in let k : x.number ≡ y.number = ap (λ (z : Reader). z.number) c.1 in omega arith)
    ]
    | inr c ↦ elim (found_in u z j) [
      | inl b ↦ absurd (let v = a.numbers t y c in let k : x.number ≡ z.number = ap (λ (z : Reader). z.number) b.1 in omega arith)
      | inr b ↦ a.once t u y z c b e
    ]
  ];
  known = λ m r i o. let z = a.known m r i o in omega arith;
  logs = λ m r t y i o j e. elim (found_in t y j) [
    | inl c ↦ absurd (let v = a.known m r i o in let k : x.number ≡ y.number = ap (λ (z : Reader). z.number) c.1 in omega arith)
    | inr c ↦ a.logs m r t y i o c e
  ];
} where
  found_in : (t : List ℕ) (y : Reader) → find_named t (put_named s x ds) ≡ Some y → ((t ≡ s) × (x ≡ y)) ⊎ (find_named t ds ≡ Some y)
  found_in t y i = elim (named_cases t s x ds) [ inl c ↦ inl (c.0, Some_inj (sym c.1 ∙ i)) | inr c ↦ inr (sym c.1 ∙ i) ]

-- ---- every event ----

-- messages to nodes, not from readers
abbrev to_nodes_only : Msg → Type 0
to_nodes_only m = (r : ℕ) → Concerns m r → ⊥

posted_apart : (who : Who) (l : ℕ) (bs : List (ℕ × Body)) → ((r : ℕ) → who ≡ whos.Reader r → ⊥) → (m : Msg) → In m (posted who l bs) → to_nodes_only m
posted_apart who l [] h m i = absurd i
posted_apart who l (b ∷ bs) h m (inl e) = λ r o. elim o [
  | inl q ↦ let z : whos.Node b.0 ≡ whos.Reader r = sym (ap (λ (x : Msg). x.to) e) ∙ q in cc
  | inr q ↦ h r (sym (ap (λ (x : Msg). x.from) e) ∙ q)
]
posted_apart who l (b ∷ bs) h m (inr i) = posted_apart who l bs h m i

record PostedBy (n l : ℕ) (m : Msg) : Type 0 where
  log : m.log ≡ l
  whose : (r : ℕ) → Concerns m r → r ≡ n

posted_reader : (n l : ℕ) (bs : List (ℕ × Body)) (m : Msg) → In m (posted (whos.Reader n) l bs) → PostedBy n l m
posted_reader n l [] m i = absurd i
posted_reader n l (b ∷ bs) m (inl e) = record {
  log = ap (λ (x : Msg). x.log) e;
  whose = λ r o. elim o [
    | inl q ↦ absurd (let z : whos.Node b.0 ≡ whos.Reader r = sym (ap (λ (x : Msg). x.to) e) ∙ q in cc)
    | inr q ↦ let z : whos.Reader n ≡ whos.Reader r = sym (ap (λ (x : Msg). x.from) e) ∙ q in cc
  ];
}
posted_reader n l (b ∷ bs) m (inr i) = posted_reader n l bs m i

-- the asks of a reader
more_asks : (ms : List Msg) (ds : List (List ℕ × Reader)) (s : List ℕ) (x : Reader) (bs : List (ℕ × Body)) (d : Done) → d.state.network.sent ≡ ms → d.state.readers ≡ ds → d.sends ≡ posted (whos.Reader x.number) x.log bs → find_named s ds ≡ Some x → Apart ms ds → Apart (finish d).state.network.sent ds
more_asks ms ds s x bs d e f g h a = record {
  numbers = a.numbers;
  once = a.once;
  known = λ m r i o. elim (sent_by d m i) [
    | inl j ↦ a.known m r (subst (λ (y : List Msg). In m y) e j) o
    | inr j ↦ let p = posted_reader x.number x.log bs m (subst (λ (y : List Msg). In m y) g j) in let q = p.whose r o in let z = a.numbers s x h in omega arith
  ];
  logs = λ m r t y i o k n. elim (sent_by d m i) [
    | inl j ↦ a.logs m r t y (subst (λ (y : List Msg). In m y) e j) o k n
    | inr j ↦ let p = posted_reader x.number x.log bs m (subst (λ (y : List Msg). In m y) g j) in
        let q : t ≡ s = a.once t s y x k h (n ∙ p.whose r o) in let v : y ≡ x = Some_inj (sym k ∙ subst (λ z. find_named z ds ≡ Some x) (sym q) h) in ap (λ (z : Reader). z.log) v ∙ sym p.log
  ];
}

pub record SameReader (d x : Reader) : Type 0 where
  pub number : x.number ≡ d.number
  pub log : x.log ≡ d.log

same_keeps : (looks : ℕ → View) (d : Reader) (y : ℕ) (b : Body) → ReadKeeps looks d y b (λ a. SameReader d a.reader)
same_keeps looks d y b = record {
  starts = record { number = refl; log = refl };
  ignored = λ h. record { number = refl; log = refl };
  loss = λ h n. record { number = refl; log = refl };
  swapped = λ h n. record { number = refl; log = refl };
  trim = λ a g n t. record { number = g.number; log = g.log };
  record_there = λ a p g n t. record { number = g.number; log = g.log };
  hole_there = λ a g n t. record { number = g.number; log = g.log };
  plug = λ a g n t. record { number = g.number; log = g.log };
  bridge = λ a g n t. record { number = g.number; log = g.log };
  lossy_end = λ a g n t. record { number = g.number; log = g.log };
  confirm = λ a g n m t. record { number = g.number; log = g.log };
  asks_all = λ a g t. record { number = g.number; log = g.log };
  polls_on = λ a g t. record { number = g.number; log = g.log };
}

pub same_reader : (looks : ℕ → View) (d : Reader) (y : ℕ) (b : Body) → SameReader d (on_answer looks d y b).reader
same_reader looks d y b = answered looks d y b (λ a. SameReader d a.reader) (same_keeps looks d y b)

module _ (c : Config) (w : World) (A : Apart w.state.network.sent w.state.readers) where
  abbrev Result : Done → Type 0
  Result d = Apart (finish d).state.network.sent d.state.readers

  silent : (d : Done) → d.state.network.sent ≡ w.state.network.sent → d.state.readers ≡ w.state.readers → d.sends ≡ [] → Result d
  silent d e f g = subst (λ (x : List (List ℕ × Reader)). Apart (finish d).state.network.sent x) (sym f) (more_messages w.state.network.sent w.state.readers d e f (λ m i. absurd (subst (λ (x : List Msg). In m x) g i)) A)

  to_nodes : (d : Done) → d.state.network.sent ≡ w.state.network.sent → d.state.readers ≡ w.state.readers → ((m : Msg) → In m d.sends → to_nodes_only m) → Result d
  to_nodes d e f g = subst (λ (x : List (List ℕ × Reader)). Apart (finish d).state.network.sent x) (sym f) (more_messages w.state.network.sent w.state.readers d e f (λ m i r o. absurd (g m i r o)) A)

  answers_to : (n : ℕ) (m : Msg) → In m w.state.network.sent → (b : Option Body) (k : Msg) → In k (answer_message n m b) → Answering w.state.network.sent k
  answers_to n m i None k j = absurd j
  answers_to n m i (Some b) k (inl e) = λ r o. elim o [
    | inl q ↦ (m, i, inr (sym (ap (λ (x : Msg). x.to) e) ∙ q), sym (ap (λ (x : Msg). x.log) e))
    | inr q ↦ absurd (let z : whos.Node n ≡ whos.Reader r = sym (ap (λ (x : Msg). x.from) e) ∙ q in cc)
  ]
  answers_to n m i (Some b) k (inr j) = absurd j

  if_written : (k : Kept) (ms : List Msg) (P : Msg → Type 0) → ((m : Msg) → In m ms → P m) → (m : Msg) → In m (cond (Step.is_written k) ms []) → P m
  if_written Written ms P h m i = h m i
  if_written _ ms P h m i = absurd i

  handled : (f : List ℕ) (x : Node) (n : ℕ) (m : Msg) → In m w.state.network.sent → (o : Option Op) (b : Option Body) → Result (Step.handles (with_node (refreshed w.state f) n x) n m o b)
  handled f x n m i None b = more_messages w.state.network.sent w.state.readers (Step.handles (with_node (refreshed w.state f) n x) n m None b) refl refl (λ k j. answers_to n m i b k j) A
  handled f x n m i (Some o) b = more_messages w.state.network.sent w.state.readers (Step.handles (with_node (refreshed w.state f) n x) n m (Some o) b) refl refl
      (if_written (keep_end (node_at (with_node (refreshed w.state f) n x) n) o) (answer_message n m b) (Answering w.state.network.sent) (λ k j. answers_to n m i b k j)) A

  no_messages : (k : Kept) (m : Msg) → In m (cond (Step.is_written k) [] []) → ⊥
  no_messages Written m i = i
  no_messages _ m i = i

  ticked : (n l : ℕ) (t : Ticked) → Result (Step.ticks_as c w.state n l t)
  ticked n l (Cleans k y) = to_nodes (Step.ticks_as c w.state n l (Cleans k y)) refl refl (λ m i. absurd (no_messages (keep_end (node_at w.state n) (ops.Clean l k y)) m i))
  ticked n l Rebuilt = to_nodes (Step.ticks_as c w.state n l Rebuilt) refl refl (λ m i. absurd (no_messages (keep_end (node_at w.state n) (ops.Refilled l)) m i))
  ticked n l (Asks from) = to_nodes (Step.ticks_as c w.state n l (Asks from)) refl refl (posted_apart (whos.Node n) l _ (λ r q. cc))
  ticked n l Nothing = silent (Step.ticks_as c w.state n l Nothing) refl refl refl

  acted : (again : Bool) (f : List ℕ) (name : List ℕ) (q : Sequencer) (call : Called) → Result (Step.told (refreshed w.state f) name q (announced again call))
  acted again f name q call = to_nodes (Step.told (refreshed w.state f) name q (announced again call)) refl refl (posted_apart (whos.Sequencer q.epoch) q.log _ (λ r z. cc))

  reads : (f : List ℕ) (name : List ℕ) (d : Reader) (y : ℕ) (b : Body) → find_named name w.state.readers ≡ Some d → Result (Step.read (refreshed w.state f) name (on_answer (looks_at c w.state.register d.log) d y b))
  reads f name d y b h = let x = (on_answer (looks_at c w.state.register d.log) d y b).reader in let s = same_reader (looks_at c w.state.register d.log) d y b in
      more_asks w.state.network.sent (put_named name x w.state.readers) name x (on_answer (looks_at c w.state.register d.log) d y b).asks (Step.read (refreshed w.state f) name (on_answer (looks_at c w.state.register d.log) d y b)) refl refl refl (here name x w.state.readers) (goes_on w.state.network.sent w.state.readers name d x h s.number s.log A)

  polled_one : (name : List ℕ) (d : Reader) → find_named name w.state.readers ≡ Some d → Result (record { state = with_reader w.state name (polled (looks_at c w.state.register d.log) d); lines = []; sends = posted (whos.Reader d.number) d.log (poll_asks (looks_at c w.state.register d.log) d) })
  polled_one name d h = more_asks w.state.network.sent (put_named name (polled (looks_at c w.state.register d.log) d) w.state.readers) name (polled (looks_at c w.state.register d.log) d) (poll_asks (looks_at c w.state.register d.log) d) _ refl refl refl (here name (polled (looks_at c w.state.register d.log) d) w.state.readers) (goes_on w.state.network.sent w.state.readers name d (polled (looks_at c w.state.register d.log) d) h refl refl A)

  opened_one : (style : Style) (name : List ℕ) (l from until : ℕ) → find_named name w.state.readers ≡ None → Result (only_state (with_reader w.state name (opened style l (length w.state.readers) from until)))
  opened_one style name l from until h = let x = opened style l (length w.state.readers) from until in
      more_messages w.state.network.sent (put_named name x w.state.readers) (only_state (with_reader w.state name x)) refl refl (λ m i. absurd i) (one_opened w.state.network.sent w.state.readers name x h refl A)

  pub apart_cases : (e : Move) → Cases c w.state e (λ d m. Result d)
  apart_cases e = record {
    still = λ f older i. silent _ refl refl refl;
    says = λ x q. silent _ refl refl refl;
    node_hears = λ f older n m i t v o. handled f (Step.releases (node_at w.state n) m.log m.body) n m i (Step.node_handles n (node_at w.state n) m).op (Step.node_handles n (node_at w.state n) m).answer;
    loads = λ n ls q b o. silent _ refl refl refl;
    draw_fails = λ n b. silent _ refl refl refl;
    formats = λ n r g b v i. to_nodes (Step.keeps_op (with_register (loaded w.state n) r) n (ops.Format (generation_of r n) (epochs_in r.logs)) (Step.format_lines c n r) []) refl refl
        (λ m j. absurd (no_messages (keep_end (node_at (with_register (loaded w.state n) r) n) (ops.Format (generation_of r n) (epochs_in r.logs))) m j));
    ticks = λ n l t v i o. ticked n l t;
    stops = λ n b. silent _ refl refl refl;
    wipes = λ n. silent _ refl refl refl;
    faults = λ n f o. silent _ refl refl refl;
    sets = λ l r x set h. silent _ refl refl refl;
    arms = λ k done o. silent _ refl refl refl;
    hears = λ f older name q m i t l v o. acted false f name q (reply_call c w.state q (Step.sender_node m.from) m.body);
    retries = λ again name q v o. acted again w.state.network.fresh name q (retry_call c w.state q);
    appends = λ name q p v a i. to_nodes _ refl refl (posted_apart (whos.Sequencer q.epoch) q.log _ (λ r z. cc));
    trims = λ name q t v b. to_nodes _ refl refl (posted_apart (whos.Sequencer q.epoch) q.log _ (λ r z. cc));
    drops = λ name q v o. silent _ refl refl refl;
    activates = λ name l r g n i x. to_nodes _ refl refl (posted_apart (whos.Sequencer (epochs_of r l).epoch) l _ (λ r z. cc));
    swaps = λ n m l x r q i. silent _ refl refl refl;
    activate_fails = λ name l x g q. silent _ refl refl refl;
    answers = λ f older name d m i t v o. reads f name d (Step.sender_node m.from) m.body v.named;
    polls = λ name d v o. polled_one name d v.named;
    opens = λ style name l from until o x. opened_one style name l from until o.fresh_name;
  }

pub apart_start : Apart [] []
unfolding find_named
apart_start = record { numbers = λ s d h. absurd (not_none h); once = λ s t d x h. absurd (not_none h); known = λ m r i. absurd i; logs = λ m r s d i. absurd i }

finished : (c : Config) (w : World) (e : Move) → Cases c w.state e (λ d m. Apart (finish d).state.network.sent d.state.readers) → Cases c w.state e (λ d m. Apart (finish d).state.network.sent (finish d).state.readers)
unfolding finish
finished c w e h = h

pub apart_kept : (c : Config) → Keeps c (λ hs w. NamesOnce w.state × ReadersApart hs w)
apart_kept c = with_names c ReadersApart apart_start (λ hs w e N A. finished c w e (apart_cases c w A e))
