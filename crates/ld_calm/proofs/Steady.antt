-- What a step of a calm leaves as it is: the numbers that were given, the points, the register's epochs and counts of swaps, and so the sizes and marks.
use Rattle.std.proofs.Common.{◌≡◌, ◌∙◌, ℕ, ◌+◌, ◌*◌, inl, inr, refl, ap, sym, subst, Bool, true, false, ◌&&◌, ◌==◌, cond, if◌then◌else◌, List, [], ◌∷◌, ◌++◌, length, map, filter_map, Option, Some, None, arith}
use Rattle.std.specs.List.{cons_option}
use Rattle.std.specs.Map as maps
use Rattle.ld_table.specs.Named.{same, find_named, put_named}
use Rattle.ld_table.specs.Words.{how_many, numbers_from}
use Rattle.ld_lsn.specs.Number.{numbered, last_esn, epoch_end}
use Rattle.ld_config.specs.declared.config.Config.{Config}
use Rattle.ld_schedule.specs.declared.event.Event.TheVariants as events
use Rattle.ld_msg.specs.declared.msg.Summary.{Summary}
use Rattle.ld_msg.specs.declared.msg.Who.{Who}
use Rattle.ld_msg.specs.declared.msg.Who.TheVariants as whos
use Rattle.ld_msg.specs.declared.msg.Msg.{Msg}
use Rattle.ld_msg.specs.declared.msg.Body.{Body}
use Rattle.ld_msg.specs.declared.msg.Body.TheVariants as bodies
use Rattle.ld_msg.specs.Network.{Network, send, send_all, message, posted}
use Rattle.ld_msg.specs.Register.{Register, View, Epochs, close, closed_epochs, epochs_of, with_epochs}
use Rattle.ld_msg.specs.Sequencer.{Sequencer, Acts, Attempt, called, on_reply, on_retry}
use Rattle.ld_msg.specs.Reader.{Reader, is_finished, on_answer, polled, poll_asks}
use Rattle.ld_op.specs.declared.op.Op.{Op}
use Rattle.ld_op.specs.Plain.{log_of}
use Rattle.ld_op.specs.Handles.{answer_message}
use Rattle.ld_op.specs.Ticks.{Ticked, Cleans, Rebuilt, Asks, Nothing, on_tick, node_asks}
use Rattle.ld_machine.specs.Config.{all_nodes, looks_at, has_log, has_node}
use Rattle.ld_machine.specs.Disk.{Node, Kept, Written, DiskFailed, Crashed, JournalFull, is_up, keep_end}
use Rattle.ld_machine.specs.State.{State, Done, finish, unchanged, node_at, with_node, with_reader, sequencer_of, reader_of}
use Rattle.ld_machine.specs.Step as Step
use Rattle.ld_safety.proofs.Lists.{not_none, Some_inj, how_many-no}
use Rattle.ld_safety.proofs.Events.{NamesOnce, retry_call}
use Rattle.ld_safety.proofs.Names.{SequencerOf, sequencer_found}
use Rattle.ld_safety.proofs.Names as names
use Rattle.ld_safety.proofs.Appends.{RowOf, Continues}
use Rattle.ld_safety.proofs.Continues.{reply_continues, retry_continues}
use Rattle.ld_safety.proofs.RegisterSteps.{close_leaves, epochs_put, epochs_same}
use Rattle.ld_safety.proofs.ReaderSteps.{IsAskOf}
use Rattle.ld_safety.proofs.LostReads.{read_on, poll_are}
use Rattle.ld_machine.specs.Calm.{Move, Takes, Calms, moves, calms_acts, numbers_given, is_trim_to, trims_at, points_issued}
use Rattle.ld_calm.proofs.Measure.{Ground, ground_at, page_marks, item_marks, numbers_marks, given_in, point_in, point_of, points_of}
use Rattle.ld_calm.proofs.Halves.{begin_half}
use Rattle.ld_calm.proofs.Deliveries.{reply_call}
use Rattle.ld_calm.proofs.Trimless.{NotTrim, NoneTrims, FreeOf, none_free, posted_free, answer_free, node_asks_free, handled_free, acted_free, calms_free, reply_free, retry_free}

-- ---- the numbers that sequencers gave ----

pub record Counted : Type 0 where
  pub log : ℕ
  pub epoch : ℕ
  pub count : ℕ

abbrev pub counted : Sequencer → Counted
counted q = record { log = q.log; epoch = q.epoch; count = q.lng + length q.appends }

abbrev pub profile : List (List ℕ × Sequencer) → List Counted
profile [] = []
profile (q ∷ qs) = counted q.1 ∷ profile qs

pub goes_counted : (q n : Sequencer) → Continues q n → counted n ≡ counted q
goes_counted q n h = let c : n.lng + length n.appends ≡ q.lng + length q.appends = (let z = h.count in omega arith) in λ i. record { log = h.log i; epoch = h.epoch i; count = c i }

put_step : (b : Bool) (name : List ℕ) (old new : Sequencer) (e : List ℕ × Sequencer) (m : List (List ℕ × Sequencer)) → counted new ≡ counted old → cond b (Some e.1) (maps.lookup (same name) m) ≡ Some old
    → (maps.lookup (same name) m ≡ Some old → profile (put_named name new m) ≡ profile m) → profile (cond b ((e.0, new) ∷ m) (e ∷ put_named name new m)) ≡ profile (e ∷ m)
put_step true name old new e m h f ih = ap (λ k. k ∷ profile m) (h ∙ ap counted (sym (Some_inj f)))
put_step false name old new e m h f ih = ap (λ ks. counted e.1 ∷ ks) (ih f)

pub profile_put : (name : List ℕ) (old new : Sequencer) (m : List (List ℕ × Sequencer)) → find_named name m ≡ Some old → counted new ≡ counted old → profile (put_named name new m) ≡ profile m
unfolding put_named find_named
profile_put name old new [] f h = absurd (not_none f)
profile_put name old new (e ∷ m) f h = put_step (same name e.0) name old new e m h f (λ g. profile_put name old new m g h)

-- what is read from it
abbrev given_by : ℕ → List Counted → ℕ
given_by l [] = 0
given_by l (p ∷ ps) = (if p.log == l then p.count else 0) + given_by l ps

abbrev in_by : ℕ → ℕ → List Counted → ℕ
in_by l e [] = 0
in_by l e (p ∷ ps) = (if (p.log == l) && (p.epoch == e) then p.count else 0) + in_by l e ps

abbrev marks_by : ℕ → List Counted → List ℕ
marks_by l [] = []
marks_by l (p ∷ ps) = (if p.log == l then numbers_from (numbered p.epoch 1) p.count else []) ++ marks_by l ps

given_is : (l : ℕ) (qs : List (List ℕ × Sequencer)) → numbers_given l qs ≡ given_by l (profile qs)
given_is l [] = refl
given_is l (q ∷ qs) = ap (λ k. (if q.1.log == l then q.1.lng + length q.1.appends else 0) + k) (given_is l qs)

in_is : (l e : ℕ) (qs : List (List ℕ × Sequencer)) → given_in l e qs ≡ in_by l e (profile qs)
in_is l e [] = refl
in_is l e (q ∷ qs) = ap (λ k. (if (q.1.log == l) && (q.1.epoch == e) then q.1.lng + length q.1.appends else 0) + k) (in_is l e qs)

marks_is : (l : ℕ) (qs : List (List ℕ × Sequencer)) → numbers_marks l qs ≡ marks_by l (profile qs)
marks_is l [] = refl
marks_is l (q ∷ qs) = ap (λ ks. (if q.1.log == l then numbers_from (numbered q.1.epoch 1) (q.1.lng + length q.1.appends) else []) ++ ks) (marks_is l qs)

-- ---- the points ----

no_trim_at : (n : ℕ) (w : Who) (b : Body) → NotTrim b → trims_at n w b ≡ false
no_trim_at n (whos.Node y) (bodies.Trim t) h = absurd h
no_trim_at n (whos.Node y) _ h = refl
no_trim_at n (whos.Sequencer e) b h = refl
no_trim_at n (whos.Reader r) b h = refl

and_false : (b : Bool) → (b && false) ≡ false
and_false true = refl
and_false false = refl

pub no_trim_to : (l n : ℕ) (m : Msg) → NotTrim m.body → is_trim_to l n m ≡ false
no_trim_to l n m h = ap (λ b. (m.log == l) && b) (no_trim_at n m.to m.body h) ∙ and_false (m.log == l)

no_point : (l n : ℕ) (m : Msg) → NotTrim m.body → point_in l n m ≡ None
no_point l n m h = ap (λ b. if b then point_of m.body else None) (no_trim_to l n m h)

pub points_same : (l n : ℕ) (w : Network) (ms : List Msg) → FreeOf ms → filter_map (point_in l n) (send_all w ms).sent ≡ filter_map (point_in l n) w.sent
points_same l n w [] h = refl
points_same l n w (m ∷ ms) h = points_same l n (send w m) ms (λ x i. h x (inr i)) ∙ ap (λ o. cons_option o (filter_map (point_in l n) w.sent)) (no_point l n m (h m (inl refl)))

pub issued_same : (l n : ℕ) (w : Network) (ms : List Msg) → FreeOf ms → how_many (is_trim_to l n) (send_all w ms).sent ≡ how_many (is_trim_to l n) w.sent
issued_same l n w [] h = refl
issued_same l n w (m ∷ ms) h = issued_same l n (send w m) ms (λ x i. h x (inr i)) ∙ how_many-no (is_trim_to l n) m w.sent (no_trim_to l n m (h m (inl refl)))

-- ---- the register ----

close_same : (r : Register) (l e : ℕ) (y : Summary) (short : Bool) (k : ℕ) → ((epochs_of (close r l e y short).register k).epoch ≡ (epochs_of r k).epoch) × ((epochs_of (close r l e y short).register k).swaps ≡ (epochs_of r k).swaps)
close_same r l e y short k = elim (close_leaves r l e y short) [
  | inl a ↦ let q = epochs_same r (close r l e y short).register k a in (ap (λ (x : Epochs). x.epoch) q, ap (λ (x : Epochs). x.swaps) q)
  | inr a ↦ let q = epochs_same (with_epochs r l (closed_epochs (epochs_of r l) e y)) (close r l e y short).register k a.1 in elim (epochs_put r l k (closed_epochs (epochs_of r l) e y)) [
    | inl b ↦ let z : epochs_of r l ≡ epochs_of r k = ap (epochs_of r) (sym b.0) in (ap (λ (x : Epochs). x.epoch) (q ∙ b.1) ∙ ap (λ (x : Epochs). x.epoch) z, ap (λ (x : Epochs). x.swaps) (q ∙ b.1) ∙ ap (λ (x : Epochs). x.swaps) z)
    | inr b ↦ (ap (λ (x : Epochs). x.epoch) (q ∙ b.1), ap (λ (x : Epochs). x.swaps) (q ∙ b.1))
  ]
]

called_same : (looks : ℕ → View) (r : Register) (a : Acts) (ts : List Attempt) (k : ℕ) → ((epochs_of (called looks r a ts).register k).epoch ≡ (epochs_of r k).epoch) × ((epochs_of (called looks r a ts).register k).swaps ≡ (epochs_of r k).swaps)
called_same looks r a [] k = (refl, refl)
called_same looks r a (t ∷ ts) k = close_same r a.sequencer.log t.epoch t.summary t.short k

-- ---- what a step does ----

-- it gives no number, changes no epoch and no set, and sends no trim
pub record Leaves (s : State) (d : Done) : Type 0 where
  pub profile_so : profile d.state.sequencers ≡ profile s.sequencers
  pub register : (k : ℕ) → ((epochs_of d.state.register k).epoch ≡ (epochs_of s.register k).epoch) × ((epochs_of d.state.register k).swaps ≡ (epochs_of s.register k).swaps)
  pub sent : d.state.network.sent ≡ s.network.sent
  pub free : FreeOf d.sends

quietly : (s : State) → Leaves s (unchanged s)
quietly s = record { profile_so = refl; register = λ k. (refl, refl); sent = refl; free = none_free }

if_leaves : (s : State) (b : Bool) (d f : Done) → Leaves s d → Leaves s f → Leaves s (cond b d f)
if_leaves s true d f h g = h
if_leaves s false d f h g = g

pub if_written : (k : Kept) (ms : List Msg) → FreeOf ms → FreeOf (cond (Step.is_written k) ms [])
if_written Written ms h = h
if_written DiskFailed ms h = none_free
if_written Crashed ms h = none_free
if_written JournalFull ms h = none_free

handled : (s : State) (x : Node) (n : ℕ) (m : Msg) (o : Option Op) (b : Option Body) → NoneTrims b → Leaves s (Step.handles (with_node s n x) n m o b)
handled s x n m None b h = record { profile_so = refl; register = λ k. (refl, refl); sent = refl; free = answer_free n m b h }
handled s x n m (Some o) b h = record { profile_so = refl; register = λ k. (refl, refl); sent = refl; free = if_written (keep_end (node_at (with_node s n x) n) o) (answer_message n m b) (answer_free n m b h) }

to_node : (c : Config) (s : State) (n : ℕ) (m : Msg) → Leaves s (Step.to_node c s n m)
to_node c s n m = if_leaves s (is_up (node_at s n).status && has_log c m.log) (Step.to_up_node s n m) (unchanged s)
    (handled s (Step.releases (node_at s n) m.log m.body) n m (Step.node_handles n (node_at s n) m).op (Step.node_handles n (node_at s n) m).answer
    (handled_free n (node_at s n).plain.generation (log_of (node_at s n).plain m.log) m.log _ _ m.body)) (quietly s)

ticked : (c : Config) (s : State) (n l : ℕ) (t : Ticked) → Leaves s (Step.ticks_as c s n l t)
ticked c s n l (Cleans k y) = record { profile_so = refl; register = λ k. (refl, refl); sent = refl; free = if_written _ [] none_free }
ticked c s n l Rebuilt = record { profile_so = refl; register = λ k. (refl, refl); sent = refl; free = if_written _ [] none_free }
ticked c s n l (Asks from) = record { profile_so = refl; register = λ k. (refl, refl); sent = refl; free = posted_free (whos.Node n) l (node_asks n (all_nodes c) from) (node_asks_free n from (all_nodes c)) }
ticked c s n l Nothing = quietly s

ticks : (c : Config) (s : State) (n l : ℕ) → Leaves s (Step.where_node c s n true (Step.ticks c s n l))
ticks c s n l = if_leaves s (has_node c n && true) (Step.ticks c s n l) (unchanged s) (if_leaves s (is_up (node_at s n).status && has_log c l) (Step.ticks_as c s n l (on_tick (log_of (node_at s n).plain l) (epochs_of s.register l).summaries)) (unchanged s)
    (ticked c s n l (on_tick (log_of (node_at s n).plain l) (epochs_of s.register l).summaries)) (quietly s)) (quietly s)

-- ---- readers ----
pub ask_free : (round from : ℕ) (b : Body) → IsAskOf round from b → NotTrim b
ask_free round from b (inl e) = subst NotTrim (sym e) tt
ask_free round from b (inr e) = subst NotTrim (sym e.2) tt

to_reader : (c : Config) (s : State) (m : Msg) (o : Option (List ℕ × Reader)) → Leaves s (Step.to_reader c s m o)
to_reader c s m None = quietly s
to_reader c s m (Some d) = by_open (is_finished d.1) refl where
  by_open : (t : Bool) → is_finished d.1 ≡ t → Leaves s (if t then unchanged s else Step.read s d.0 (on_answer (looks_at c s.register d.1.log) d.1 (Step.sender_node m.from) m.body))
  by_open true t = quietly s
  by_open false t = let on = read_on (looks_at c s.register d.1.log) d.1 (Step.sender_node m.from) m.body t in
      record { profile_so = refl; register = λ k. (refl, refl); sent = refl; free = posted_free _ _ _ (λ x i. let a = on.asks x i in ask_free a.at a.from x.1 a.is) }

polls : (c : Config) (s : State) (name : List ℕ) (o : Option Reader) → Leaves s (Step.polls c s name o)
polls c s name None = quietly s
polls c s name (Some d) = if_leaves s (is_finished d) (unchanged s) (record { state = with_reader s name (polled (looks_at c s.register d.log) d); lines = []; sends = posted (whos.Reader d.number) d.log (poll_asks (looks_at c s.register d.log) d) }) (quietly s)
    (record { profile_so = refl; register = λ k. (refl, refl); sent = refl; free = posted_free _ _ _ (λ x i. let a = poll_are (looks_at c s.register d.log) d x i in ask_free _ _ x.1 a.0) })

-- ---- sequencers ----
module _ (c : Config) (s : State) (N : NamesOnce s) (rows : (name : List ℕ) (q : Sequencer) → find_named name s.sequencers ≡ Some q → RowOf q) where
  to_sequencer : (m : Msg) (b : ℕ) (o : Option (List ℕ × Sequencer)) → sequencer_of m.log b s.sequencers ≡ o → Leaves s (Step.to_sequencer c s m o)
  to_sequencer m b None e = quietly s
  to_sequencer m b (Some q) e = by_gone q.1.gone refl where
    named : find_named q.0 s.sequencers ≡ Some q.1
    named = names.found s.sequencers q N.0 (sequencer_found m.log b s.sequencers q e).there

    by_gone : (t : Bool) → q.1.gone ≡ t → Leaves s (if t then unchanged s else Step.acted c s q.0 q.1 (on_reply (looks_at c s.register q.1.log) q.1 (Step.sender_node m.from) m.body))
    by_gone true t = quietly s
    by_gone false t = record {
      profile_so = profile_put q.0 q.1 _ s.sequencers named (goes_counted q.1 _ (reply_continues c s q.1 (rows q.0 q.1 named) q.0 (Step.sender_node m.from) m.body t));
      register = called_same (looks_at c s.register q.1.log) s.register (on_reply (looks_at c s.register q.1.log) q.1 (Step.sender_node m.from) m.body) (on_reply (looks_at c s.register q.1.log) q.1 (Step.sender_node m.from) m.body).tries;
      sent = refl;
      free = posted_free _ _ _ (acted_free q.1 (reply_call c s q.1 (Step.sender_node m.from) m.body).acts (reply_free c s q.0 q.1 t (Step.sender_node m.from) m.body));
    }

  calms : (name : List ℕ) (o : Option Sequencer) → find_named name s.sequencers ≡ o → Leaves s (Step.on_live s o (λ q. calms_acts c s name q (on_retry (looks_at c s.register q.log) q)))
  calms name None e = quietly s
  calms name (Some q) e = by_gone q.gone refl where
    by_gone : (t : Bool) → q.gone ≡ t → Leaves s (if t then unchanged s else calms_acts c s name q (on_retry (looks_at c s.register q.log) q))
    by_gone true t = quietly s
    by_gone false t = record {
      profile_so = profile_put name q _ s.sequencers e (goes_counted q _ (retry_continues c s q (rows name q e) t));
      register = called_same (looks_at c s.register q.log) s.register (on_retry (looks_at c s.register q.log) q) (on_retry (looks_at c s.register q.log) q).tries;
      sent = refl;
      free = posted_free _ _ _ (calms_free q (retry_call c s q).acts (retry_free c s q t));
    }

  comes : (m : Msg) (w : Who) → Leaves s (Step.comes_to c s m w)
  comes m (whos.Node n) = to_node c s n m
  comes m (whos.Sequencer b) = to_sequencer m b (sequencer_of m.log b s.sequencers) refl
  comes m (whos.Reader r) = to_reader c s m (reader_of r s.readers)

-- ---- a step of a calm ----

abbrev pub OfCalm : Move → Type 0
OfCalm (Calms name) = Unit {0}
OfCalm (Takes (events.Deliver i)) = Unit {0}
OfCalm (Takes (events.Tick n l)) = Unit {0}
OfCalm (Takes (events.Poll name)) = Unit {0}
OfCalm (Takes _) = ⊥

pub calm_leaves : (c : Config) (s : State) (m : Move) → NamesOnce s → ((name : List ℕ) (q : Sequencer) → find_named name s.sequencers ≡ Some q → RowOf q) → OfCalm m → Leaves s (moves c s m)
unfolding Step.happens Step.delivers
calm_leaves c s (Calms name) N R h = calms c s N R name (find_named name s.sequencers) refl
calm_leaves c s (Takes (events.Deliver i)) N R h = delivered (message s.network i) where
  delivered : (o : Option Msg) → Leaves s (Step.delivers_it c s i o)
  delivered None = quietly s
  delivered (Some m) = let z = comes c (Step.marked s i) N R m m.to in record { profile_so = z.profile_so; register = z.register; sent = z.sent; free = z.free }
calm_leaves c s (Takes (events.Tick n l)) N R h = ticks c s n l
calm_leaves c s (Takes (events.Poll name)) N R h = polls c s name (find_named name s.readers)
calm_leaves c s (Takes _) N R h = absurd h

-- ---- what stays ----
pub record Steady (c : Config) (g : Ground) (s : State) : Type 0 where
  pub nodes : g.nodes ≡ length (all_nodes c)
  pub all : g.all ≡ all_nodes c
  pub given : (l : ℕ) → g.given l ≡ numbers_given l s.sequencers
  pub epochs : (l : ℕ) → g.epochs l ≡ (epochs_of s.register l).epoch
  pub swaps : (l : ℕ) → g.swaps l ≡ (epochs_of s.register l).swaps
  pub size_nodes : (l : ℕ) → (g.sizes l).nodes ≡ length (all_nodes c)
  pub size_pages : (l : ℕ) → (g.sizes l).pages ≡ length (all_nodes c) * (numbers_given l s.sequencers + points_issued (all_nodes c) l s.network.sent + 2)
  pub size_items : (l : ℕ) → (g.sizes l).items ≡ length (all_nodes c) * (numbers_given l s.sequencers + 1)
  pub pages : (l e : ℕ) → (g.sizes l).marks e ≡ page_marks c s l e
  pub items : (l : ℕ) → g.items l ≡ item_marks c s l

pub steady_at : (c : Config) (s : State) → Steady c (ground_at c s) s
steady_at c s = record { nodes = refl; all = refl; given = λ l. refl; epochs = λ l. refl; swaps = λ l. refl; size_nodes = λ l. refl; size_pages = λ l. refl; size_items = λ l. refl; pages = λ l e. refl; items = λ l. refl }

pub steady_half : (c : Config) (g : Ground) (s : State) (l : ℕ) → Steady c g s → Steady c (begin_half g s l) s
steady_half c g s l h = record { nodes = h.nodes; all = h.all; given = h.given; epochs = h.epochs; swaps = h.swaps; size_nodes = h.size_nodes; size_pages = h.size_pages; size_items = h.size_items; pages = h.pages; items = h.items }

points_by : (c : Config) (ns : List ℕ) (l : ℕ) (s : State) (d : Done) → Leaves s d → points_of ns l (finish d).state.network.sent ≡ points_of ns l s.network.sent
unfolding finish
points_by c [] l s d h = refl
points_by c (n ∷ ns) l s d h = points_same l n d.state.network d.sends h.free ∙ ap (filter_map (point_in l n)) h.sent

issued_by : (c : Config) (ns : List ℕ) (l : ℕ) (s : State) (d : Done) → Leaves s d → points_issued ns l (finish d).state.network.sent ≡ points_issued ns l s.network.sent
unfolding finish
issued_by c [] l s d h = refl
issued_by c (n ∷ ns) l s d h = issued_same l n d.state.network d.sends h.free ∙ ap (how_many (is_trim_to l n)) h.sent

module _ (c : Config) (g : Ground) (s : State) (d : Done) (L : Leaves s d) (H : Steady c g s) where
  after : State
  after = (finish d).state

  seqs : profile after.sequencers ≡ profile s.sequencers
  unfolding after finish
  seqs = L.profile_so

  epochs_so : (l : ℕ) → (epochs_of after.register l).epoch ≡ (epochs_of s.register l).epoch
  unfolding after finish
  epochs_so l = (L.register l).0

  swaps_so : (l : ℕ) → (epochs_of after.register l).swaps ≡ (epochs_of s.register l).swaps
  unfolding after finish
  swaps_so l = (L.register l).1

  given_so : (l : ℕ) → numbers_given l after.sequencers ≡ numbers_given l s.sequencers
  given_so l = given_is l after.sequencers ∙ (ap (given_by l) seqs ∙ sym (given_is l s.sequencers))

  in_so : (l e : ℕ) → given_in l e after.sequencers ≡ given_in l e s.sequencers
  in_so l e = in_is l e after.sequencers ∙ (ap (in_by l e) seqs ∙ sym (in_is l e s.sequencers))

  marks_so : (l : ℕ) → numbers_marks l after.sequencers ≡ numbers_marks l s.sequencers
  marks_so l = marks_is l after.sequencers ∙ (ap (marks_by l) seqs ∙ sym (marks_is l s.sequencers))

  points_so : (l : ℕ) → points_of (all_nodes c) l after.network.sent ≡ points_of (all_nodes c) l s.network.sent
  unfolding after
  points_so l = points_by c (all_nodes c) l s d L

  issued_so : (l : ℕ) → points_issued (all_nodes c) l after.network.sent ≡ points_issued (all_nodes c) l s.network.sent
  unfolding after
  issued_so l = issued_by c (all_nodes c) l s d L

  pub steady_on : Steady c g (finish d).state
  unfolding after
  steady_on = record {
    nodes = H.nodes;
    all = H.all;
    given = λ l. H.given l ∙ sym (given_so l);
    epochs = λ l. H.epochs l ∙ sym (epochs_so l);
    swaps = λ l. H.swaps l ∙ sym (swaps_so l);
    size_nodes = H.size_nodes;
    size_pages = λ l. H.size_pages l ∙ (λ i. length (all_nodes c) * (sym (given_so l) i + sym (issued_so l) i + 2));
    size_items = λ l. H.size_items l ∙ (λ i. length (all_nodes c) * (sym (given_so l) i + 1));
    pages = λ l e. H.pages l e ∙ (λ i. numbers_from (numbered e 1) (sym (in_so l e) i + 1) ++ (map (λ t. t + 1) (sym (points_so l) i) ++ numbered e last_esn ∷ []));
    items = λ l. H.items l ∙ (λ i. sym (marks_so l) i ++ (map epoch_end (numbers_from 0 (sym (epochs_so l) i + 1)) ++ sym (points_so l) i));
  }
