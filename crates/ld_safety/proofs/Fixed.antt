-- What is fixed for each epoch of a log, and what is set for later ones, as the steps of a run say: it is what the register and the state hold.
use Rattle.std.proofs.Common.{◌≡◌, ◌∙◌, ◌≤◌, ◌<◌, ℕ, ◌+◌, inl, inr, refl, ap, sym, subst, Bool, true, false, ◌&&◌, ◌||◌, ◌==◌, nat_lt, nat_le, cond, if◌then◌else◌, List, [], ◌∷◌, ◌++◌, length, Option, Some, None, is_some, not, arith}
use Rattle.std.specs.Option.{unwrap_or}
use Rattle.std.proofs.lemmas.Bool.{cases_Bool, and_parts, and_from, eqb-true, eq-eqb, ltb-true, ltb-false, ne_eqb, cases_lt}
use Rattle.ld_table.specs.Table.{find, put}
use Rattle.ld_table.specs.Named.{find_named}
use Rattle.ld_table.specs.Words.{or_else}
use Rattle.ld_table.proofs.Laws.{put_cases}
use Rattle.ld_ids.specs.Set.{members}
use Rattle.ld_ids.specs.declared.set.Spec.{Spec}
use Rattle.ld_config.specs.declared.config.Config.{Config}
use Rattle.ld_schedule.specs.declared.event.Event.{Event}
use Rattle.ld_schedule.specs.declared.event.Event.TheVariants as events
use Rattle.ld_transcript.specs.declared.line.Line.{Line}
use Rattle.ld_transcript.specs.declared.line.Line.TheVariants as lines
use Rattle.ld_msg.specs.declared.msg.Summary.{Summary}
use Rattle.ld_msg.specs.declared.msg.Who.{Who}
use Rattle.ld_msg.specs.declared.msg.Who.TheVariants as whos
use Rattle.ld_msg.specs.declared.msg.Msg.{Msg}
use Rattle.ld_msg.specs.declared.msg.Body.{Body}
use Rattle.ld_msg.specs.Register.{swap, swapped_epochs, Register, Epochs, Answer, Granted, AtLimit, Behind, Overtaken, Fails, View, no_epochs, epochs_of, with_epochs, next_epoch, closed_epochs, activate, close, draw}
use Rattle.ld_msg.specs.Reader.{Reader, is_finished}
use Rattle.ld_msg.specs.Sequencer.{Sequencer, Acts, Appending, TooLong, Preempted, EpochFull, WindowFull, Numbered, appending, called, on_reply, on_retry, released_of, Attempt}
use Rattle.ld_op.specs.declared.op.Op.{Op}
use Rattle.ld_op.specs.declared.op.Op.TheVariants as ops
use Rattle.ld_op.specs.Plain.{log_of}
use Rattle.ld_op.specs.Ticks.{Ticked, Cleans, Rebuilt, Asks, Nothing, on_tick}
use Rattle.ld_machine.specs.Config.{first_spec, looks_at, fixed_of, has_log, has_node}
use Rattle.ld_machine.specs.Disk.{Node, Kept, Written, DiskFailed, Crashed, JournalFull, keep_end, load_end, is_up, is_blank, is_down, is_failed}
use Rattle.ld_machine.specs.State.{State, Done, finish, node_at, with_node, with_line, or_none, message_lines, sequencer_of, reader_of}
use Rattle.ld_machine.specs.Facts.{Happened, set_by, set_in, set_after, makes, spec_fixed}
use Rattle.ld_machine.specs.World.{World, In, begin}
use Rattle.ld_machine.specs.Run.{after_step, epoch_made}
use Rattle.ld_machine.specs.Step as Step
use Rattle.ld_msg.specs.Network.{message}
use Rattle.ld_safety.proofs.Lists.{cond_both, only, not_none}
use Rattle.ld_safety.proofs.Traces.{Keeps, step_happened}
use Rattle.ld_safety.proofs.NamesKept.{names_step}
use Rattle.ld_safety.proofs.Lines.{Group, group, OfNodes, OfNumbers, OfActs, OfTrims, OfSets, OfItems, AllOf, none_of, one_of, kept_of, format_of, acted_of, items_of, quiet_of}
use Rattle.ld_safety.proofs.Events.{retry_call, announced, NamesOnce, Cases, dispatch, is_quiet, refreshed, loaded}
use Rattle.ld_safety.proofs.Registers.{Reached, register_kept, spec_found}
use Rattle.ld_safety.proofs.RegisterSteps.{Same, activate_leaves, close_leaves, draw_leaves, swap_leaves, epochs_put, epochs_same}
use Rattle.ld_msg.specs.declared.style.Style.{Style}
use Rattle.ld_msg.specs.declared.style.Style.TheVariants as styles
use Rattle.ld_batch.specs.Batch.{packed}
use Rattle.ld_machine.specs.Calm as Calm
use Rattle.ld_machine.specs.Calm.{Move, Takes, Calms, event_of}

-- ---- steps at the end of a history ----
set_in-append : (l : ℕ) (xs ys : List Line) (s : Spec) → set_in l (xs ++ ys) s ≡ set_in l ys (set_in l xs s)
set_in-append l [] ys s = refl
set_in-append l (x ∷ xs) ys s = set_in-append l xs ys (set_by l x s)

set_after_end : (l : ℕ) (hs : List Happened) (h : Happened) (s : Spec) → set_after l (hs ++ h ∷ []) s ≡ set_in l h.lines (set_after l hs s)
set_after_end l [] h s = refl
set_after_end l (g ∷ hs) h s = set_after_end l hs h (set_in l g.lines s)

first_or : (b : Bool) (s : Spec) (o p k : Option Spec) → o ≡ or_else p k → (if b then Some s else o) ≡ or_else (if b then Some s else p) k
first_or true s o p k h = refl
first_or false s o p k h = h

fixed_end : (l e : ℕ) (hs : List Happened) (h : Happened) (s : Spec) → spec_fixed l e (hs ++ h ∷ []) s ≡ or_else (spec_fixed l e hs s) (if makes l e h.made then Some (set_after l hs s) else None)
fixed_end l e [] h s = refl
fixed_end l e (g ∷ hs) h s = first_or (makes l e g.made) s _ _ _ (fixed_end l e hs h (set_in l g.lines s))

-- ---- lines that set nothing ----
abbrev Setless : List Line → Type 0
Setless ls = (x : Line) → In x ls → group x ≡ OfSets → ⊥

sets_not : (l : ℕ) (x : Line) (s : Spec) → (group x ≡ OfSets → ⊥) → set_by l x s ≡ s
sets_not l (lines.Set k r extras set) s h = absurd (h refl)
sets_not l _ s h = refl

setless_same : (l : ℕ) (ls : List Line) (s : Spec) → Setless ls → set_in l ls s ≡ s
setless_same l [] s h = refl
setless_same l (x ∷ ls) s h = ap (set_in l ls) (sets_not l x s (h x (inl refl))) ∙ setless_same l ls s (λ y i. h y (inr i))

of_group : (g : Group) (ls : List Line) → (g ≡ OfSets → ⊥) → AllOf g ls → Setless ls
of_group g ls h a x i q = h (sym (a x i) ∙ q)

of_quiet : (ls : List Line) → ((x : Line) → In x ls → is_quiet x ≡ true) → Setless ls
of_quiet ls h x i q = elim (quiet_of x (h x i)) [ inl a ↦ (let z = sym a ∙ q in cc) | inr a ↦ (let z = sym a ∙ q in cc) ]

quiet_one : (x : Line) → is_quiet x ≡ true → Setless (x ∷ [])
quiet_one x h = of_quiet (x ∷ []) (λ y i. subst (λ z. is_quiet z ≡ true) (sym (only y x i)) h)

-- the lines of a step set what the event's lines do
sets_messages : (l : ℕ) (s : State) (i : ℕ) (ms : List Msg) (t : Spec) → set_in l (message_lines s i ms) t ≡ t
sets_messages l s i [] t = refl
sets_messages l s i (m ∷ ms) t = sets_messages l s (i + 1) ms t

sets_or : (l : ℕ) (ls : List Line) (t : Spec) → set_in l (or_none ls) t ≡ set_in l ls t
sets_or l [] t = refl
sets_or l (x ∷ ls) t = refl

sets_finish : (l : ℕ) (d : Done) (t : Spec) → set_in l (finish d).lines t ≡ set_in l d.lines t
unfolding finish
sets_finish l d t = sets_or l (d.lines ++ message_lines d.state d.state.network.count d.sends) t ∙ (set_in-append l d.lines (message_lines d.state d.state.network.count d.sends) t ∙ sets_messages l d.state d.state.network.count d.sends (set_in l d.lines t))

-- ---- what later activations use ----
module _ (c : Config) (s : State) (e : Move) where
  SetSo : Done → Type 0
  SetSo d = (l : ℕ) → set_in l d.lines (Step.spec_set c s l) ≡ Step.spec_set c d.state l

  keeps : (d : Done) → d.state.specs ≡ s.specs → Setless d.lines → SetSo d
  unfolding SetSo
  keeps d q h l = setless_same l d.lines (Step.spec_set c s l) h ∙ ap (λ m. unwrap_or (find l m) (first_spec c l)) (sym q)

  handled : (f : List ℕ) (n : ℕ) (m : Msg) (x : Node) (o : Option Op) (b : Option Body) → SetSo (Step.handles (with_node (refreshed s f) n x) n m o b)
  handled f n m x None b = keeps (Step.handles (with_node (refreshed s f) n x) n m None b) refl (of_group OfNodes [] (λ q. cc) (none_of OfNodes))
  handled f n m x (Some o) b = keeps (Step.handles (with_node (refreshed s f) n x) n m (Some o) b) refl (of_group OfNodes _ (λ q. cc) (kept_of n [] (keep_end (node_at (with_node (refreshed s f) n x) n) o) (none_of OfNodes)))

  ticked : (n l : ℕ) (t : Ticked) → SetSo (Step.ticks_as c s n l t)
  ticked n l (Cleans k y) = keeps (Step.ticks_as c s n l (Cleans k y)) refl (of_group OfNodes _ (λ q. cc) (kept_of n [] (keep_end (node_at s n) (ops.Clean l k y)) (none_of OfNodes)))
  ticked n l Rebuilt = keeps (Step.ticks_as c s n l Rebuilt) refl (of_group OfNodes _ (λ q. cc) (kept_of n (lines.NodeRebuilt n l ∷ []) (keep_end (node_at s n) (ops.Refilled l)) (one_of (lines.NodeRebuilt n l))))
  ticked n l (Asks from) = keeps (Step.ticks_as c s n l (Asks from)) refl (of_group OfNodes [] (λ q. cc) (none_of OfNodes))
  ticked n l Nothing = keeps (Step.ticks_as c s n l Nothing) refl (of_group OfNodes [] (λ q. cc) (none_of OfNodes))

  abbrev set_spec : ℕ → ℕ → ℕ → List Bool → Spec
  set_spec l r x set = record { log = l; set = set; r = r; extras = x }

  sets : (l r x : ℕ) (set : List Bool) → SetSo (with_line (record s { specs = put l (set_spec l r x set) s.specs }) (lines.Set l r x set))
  unfolding SetSo
  sets l r x set k = elim (put_cases k l (set_spec l r x set) s.specs) [
    | inl a ↦ ap (λ b. if b then set_spec l r x set else Step.spec_set c s k) (eq-eqb l k (sym a.0)) ∙ ap (λ o. unwrap_or o (first_spec c k)) (sym a.1)
    | inr a ↦ ap (λ b. if b then set_spec l r x set else Step.spec_set c s k) (ne_eqb l k (λ q. a.0 (sym q))) ∙ ap (λ o. unwrap_or o (first_spec c k)) (sym a.1)
  ]

  nothing : Setless []
  nothing = of_group OfNodes [] (λ q. cc) (none_of OfNodes)

  others : (g : Group) (d : Done) → (g ≡ OfSets → ⊥) → d.state.specs ≡ s.specs → AllOf g d.lines → SetSo d
  others g d h q a = keeps d q (of_group g d.lines h a)

  set_cases : Cases c s e (λ d m. SetSo d)
  set_cases = record {
    still = λ f older i. keeps _ refl nothing;
    says = λ x q. keeps _ refl (quiet_one x q);
    node_hears = λ f older n m i t v o. handled f n m (Step.releases (node_at s n) m.log m.body) (Step.node_handles n (node_at s n) m).op (Step.node_handles n (node_at s n) m).answer;
    loads = λ n ls q b o. keeps _ refl (of_quiet ls q);
    draw_fails = λ n b. others OfNodes _ (λ q. cc) refl (one_of (lines.NodeRefusedRegister n));
    formats = λ n r g b v i. others OfNodes _ (λ q. cc) refl (kept_of n (Step.format_lines c n r) _ (format_of c n r));
    ticks = λ n l t v i o. ticked n l t;
    stops = λ n b. others OfNodes _ (λ q. cc) refl (one_of (lines.NodeDown n));
    wipes = λ n. others OfNodes _ (λ q. cc) refl (one_of (lines.NodeWiped n));
    faults = λ n f o. keeps _ refl nothing;
    arms = λ k done o. keeps _ refl nothing;
    hears = λ f older name q m i t l v o. others OfActs _ (λ z. cc) refl (acted_of name q (called (looks_at c s.register q.log) s.register (on_reply (looks_at c s.register q.log) q (Step.sender_node m.from) m.body) (on_reply (looks_at c s.register q.log) q (Step.sender_node m.from) m.body).tries).acts);
    retries = λ again name q v o. others OfActs _ (λ z. cc) refl (acted_of name q (announced again (retry_call c s q)).acts);
    appends = λ name q p v a i. others OfNumbers _ (λ q. cc) refl (one_of (lines.Appended name _));
    trims = λ name q t v b. others OfTrims _ (λ q. cc) refl (one_of (lines.Trimmed name t));
    drops = λ name q v o. keeps _ refl nothing;
    activates = λ name l r g n i x. others OfNumbers _ (λ q. cc) refl (one_of (lines.Active name _));
    swaps = λ n m l x r q i. keeps _ refl (quiet_one x q);
    activate_fails = λ name l x g q. keeps _ refl (quiet_one x q);
    answers = λ f older name d m i t v o. others OfItems _ (λ q. cc) refl (items_of _ name _ _);
    polls = λ name d v o. keeps _ refl nothing;
    opens = λ style name l from until o x. keeps _ refl nothing;
    sets = λ l r x set g. sets l r x set;
  }

  set_step : NamesOnce s → (l : ℕ) → set_in l (Calm.moves c s e).lines (Step.spec_set c s l) ≡ Step.spec_set c (Calm.moves c s e).state l
  unfolding SetSo
  set_step N = dispatch c s e (λ d m. SetSo d) N set_cases

-- ---- what the register holds, but for activations ----
module _ (c : Config) (s : State) where
  SameFixed : Done → Type 0
  SameFixed d = (k : ℕ) → (epochs_of d.state.register k).specs ≡ (epochs_of s.register k).specs

  moved : (d : Done) → ((k : ℕ) → (epochs_of d.state.register k).specs ≡ (epochs_of s.register k).specs) → SameFixed d
  unfolding SameFixed
  moved d h = h

  same : (d : Done) → d.state.register ≡ s.register → SameFixed d
  same d q = moved d (λ k. ap (λ (r : Register). (epochs_of r k).specs) q)

  either : (b : Bool) (x y : Done) → SameFixed x → SameFixed y → SameFixed (cond b x y)
  either true x y h g = h
  either false x y h g = g

  by_logs : (r : Register) → r.logs ≡ s.register.logs → (k : ℕ) → (epochs_of r k).specs ≡ (epochs_of s.register k).specs
  by_logs r q k = ap (λ m. (unwrap_or (find k m) no_epochs).specs) q

  drawn : (n k : ℕ) → (epochs_of (draw s.register n).register k).specs ≡ (epochs_of s.register k).specs
  drawn n = elim (draw_leaves s.register n) [ inl a ↦ by_logs (draw s.register n).register a.0 | inr a ↦ by_logs (draw s.register n).register a.0 ]

  closed : (l e : ℕ) (y : Summary) (b : Bool) (k : ℕ) → (epochs_of (close s.register l e y b).register k).specs ≡ (epochs_of s.register k).specs
  closed l e y b k = elim (close_leaves s.register l e y b) [
    | inl a ↦ by_logs (close s.register l e y b).register a.0 k
    | inr a ↦ ap (λ (x : Epochs). x.specs) (epochs_same (with_epochs s.register l (closed_epochs (epochs_of s.register l) e y)) (close s.register l e y b).register k a.1) ∙ elim (epochs_put s.register l k (closed_epochs (epochs_of s.register l) e y)) [
      | inl p ↦ ap (λ (x : Epochs). x.specs) p.1 ∙ ap (λ j. (epochs_of s.register j).specs) (sym p.0)
      | inr p ↦ ap (λ (x : Epochs). x.specs) p.1
    ]
  ]

  called_same : (looks : ℕ → View) (a : Acts) (ts : List Attempt) (k : ℕ) → (epochs_of (called looks s.register a ts).register k).specs ≡ (epochs_of s.register k).specs
  called_same looks a [] k = refl
  called_same looks a (t ∷ ts) k = closed a.sequencer.log t.epoch t.summary t.short k

  acted : (f : List ℕ) (name : List ℕ) (q : Sequencer) (a : Acts) → SameFixed (Step.acted c (refreshed s f) name q a)
  acted f name q a = moved _ (called_same (looks_at c s.register q.log) a a.tries)

  -- ---- deliveries ----
  handles : (f : List ℕ) (n : ℕ) (m : Msg) (x : Node) (o : Option Op) (b : Option Body) → SameFixed (Step.handles (with_node (refreshed s f) n x) n m o b)
  handles f n m x None b = same _ refl
  handles f n m x (Some o) b = same _ refl

  to_sequencer : (f : List ℕ) (m : Msg) (o : Option (List ℕ × Sequencer)) → SameFixed (Step.to_sequencer c (refreshed s f) m o)
  to_sequencer f m None = same _ refl
  to_sequencer f m (Some q) = either q.1.gone _ _ (same _ refl) (acted f q.0 q.1 _)

  to_reader : (f : List ℕ) (m : Msg) (o : Option (List ℕ × Reader)) → SameFixed (Step.to_reader c (refreshed s f) m o)
  to_reader f m None = same _ refl
  to_reader f m (Some d) = either (is_finished d.1) _ _ (same _ refl) (same _ refl)

  comes : (f : List ℕ) (m : Msg) (w : Who) → SameFixed (Step.comes_to c (refreshed s f) m w)
  comes f m (whos.Node n) = either (is_up (node_at s n).status && has_log c m.log) _ _ (handles f n m (Step.releases (node_at s n) m.log m.body) (Step.node_handles n (node_at s n) m).op (Step.node_handles n (node_at s n) m).answer) (same _ refl)
  comes f m (whos.Sequencer b) = to_sequencer f m (sequencer_of m.log b s.sequencers)
  comes f m (whos.Reader r) = to_reader f m (reader_of r s.readers)

  delivered : (i : ℕ) (o : Option Msg) → SameFixed (Step.delivers_it c s i o)
  delivered i None = same _ refl
  delivered i (Some m) = comes _ m m.to

  -- ---- nodes ----
  formats_by : (n : ℕ) (a : Answer) → SameFixed (Step.formats_by c (loaded s n) n (draw s.register n).register a)
  formats_by n Granted = moved _ (drawn n)
  formats_by n AtLimit = same _ refl
  formats_by n (Behind lce) = same _ refl
  formats_by n (Overtaken k) = same _ refl
  formats_by n Fails = moved _ (drawn n)

  formats_loaded : (n : ℕ) (o : Kept) → SameFixed (Step.formats_loaded c (loaded s n) n o)
  formats_loaded n Written = formats_by n (draw s.register n).answer
  formats_loaded n DiskFailed = same _ refl
  formats_loaded n Crashed = same _ refl
  formats_loaded n JournalFull = same _ refl

  ticks_as : (n l : ℕ) (t : Ticked) → SameFixed (Step.ticks_as c s n l t)
  ticks_as n l (Cleans e y) = same _ refl
  ticks_as n l Rebuilt = same _ refl
  ticks_as n l (Asks from) = same _ refl
  ticks_as n l Nothing = same _ refl

  -- ---- actors ----
  on_live : (o : Option Sequencer) (f : Sequencer → Done) → ((q : Sequencer) → SameFixed (f q)) → SameFixed (Step.on_live s o f)
  on_live None f h = same _ refl
  on_live (Some q) f h = either q.gone _ _ (same _ refl) (h q)

  append_done : (name : List ℕ) (q : Sequencer) (p : List ℕ) (o : Appending) → SameFixed (Step.append_done s name q p o)
  append_done name q p TooLong = same _ refl
  append_done name q p (Preempted n) = same _ refl
  append_done name q p EpochFull = same _ refl
  append_done name q p WindowFull = same _ refl
  append_done name q p Numbered = same _ refl

  polls : (name : List ℕ) (o : Option Reader) → SameFixed (Step.polls c s name o)
  polls name None = same _ refl
  polls name (Some d) = either (is_finished d) _ _ (same _ refl) (same _ refl)

  opens : (style : Style) (name : List ℕ) (l from until : ℕ) → SameFixed (Step.opens_new c s style name l from until)
  opens style name l from until = either (has_log c l && not (is_some (find_named name s.readers))) _ _
      (either ((from == 0) || nat_lt until from) _ _ (same _ refl) (either (nat_le Step.reader_limit (length s.readers)) _ _ (same _ refl) (same _ refl))) (same _ refl)

  -- ---- swaps ----
  swapped : (l upto old new : ℕ) (k : ℕ) → (epochs_of (swap s.register l upto old new).register k).specs ≡ (epochs_of s.register k).specs
  swapped l upto old new k = elim (swap_leaves s.register l upto old new) [
    | inl a ↦ by_logs (swap s.register l upto old new).register a.0 k
    | inr a ↦ ap (λ (x : Epochs). x.specs) (epochs_same (with_epochs s.register l (swapped_epochs (epochs_of s.register l) upto old new)) (swap s.register l upto old new).register k a) ∙ elim (epochs_put s.register l k (swapped_epochs (epochs_of s.register l) upto old new)) [
      | inl p ↦ ap (λ (x : Epochs). x.specs) p.1 ∙ ap (λ j. (epochs_of s.register j).specs) (sym p.0)
      | inr p ↦ ap (λ (x : Epochs). x.specs) p.1
    ]
  ]

  replaces : (n other l count : ℕ) (a : Answer) → let r = (swap s.register l (log_of (node_at s n).plain l).lost_to other n).register in SameFixed (Step.replaces_by s n other l count r a)
  replaces n other l count Granted = either (count == 0) _ _ (same _ refl) (moved _ (swapped l _ other n))
  replaces n other l count AtLimit = same _ refl
  replaces n other l count (Behind lce) = same _ refl
  replaces n other l count (Overtaken k) = same _ refl
  replaces n other l count Fails = moved _ (swapped l _ other n)

  -- ---- activations ----
  -- of an epoch that was made what was set is fixed, and nothing else changes
  OnceMore : Option (ℕ × ℕ) → Register → Type 0
  OnceMore m n = (k x : ℕ) → find x (epochs_of n k).specs ≡ or_else (find x (epochs_of s.register k).specs) (if makes k x m then Some (Step.spec_set c s k) else None)

  no_more : (o : Option Spec) → o ≡ or_else o None
  no_more None = refl
  no_more (Some s) = refl

  unmade : (n : Register) → ((k : ℕ) → (epochs_of n k).specs ≡ (epochs_of s.register k).specs) → OnceMore None n
  unfolding OnceMore
  unmade n h k x = ap (find x) (h k) ∙ no_more (find x (epochs_of s.register k).specs)

  idle_step : (d : Done) → SameFixed d → OnceMore None d.state.register
  unfolding SameFixed
  idle_step d h = unmade d.state.register h

  abbrev rose : ℕ → ℕ → ℕ → Option (ℕ × ℕ)
  rose l a b = if nat_lt a b then Some (l, b) else None

  abbrev made_one : ℕ → ℕ → Option (ℕ × ℕ)
  made_one l e = Some (l, e)

  none_made : (l a b : ℕ) → b ≡ a → None ≡ rose l a b
  none_made l a b q = cond_both (nat_lt a b) (made_one l b) None (λ o. None ≡ o) (λ t. absurd (let z = ltb-true a b t in omega arith)) (λ t. refl)

  one_made : (l a b : ℕ) → b ≡ a + 1 → made_one l (a + 1) ≡ rose l a b
  one_made l a b q = cond_both (nat_lt a b) (made_one l b) None (λ o. made_one l (a + 1) ≡ o) (λ t. ap (made_one l) (sym q)) (λ t. absurd (let z = ltb-false a b t in omega arith))

  module _ (low : (l e : ℕ) (t : Spec) → find e (epochs_of s.register l).specs ≡ Some t → e ≤ (epochs_of s.register l).epoch) (l : ℕ) where
    abbrev after : Epochs
    after = next_epoch (epochs_of s.register l) (Step.spec_set c s l)

    abbrev now : ℕ
    now = (epochs_of s.register l).epoch + 1

    not_found : (o : Option Spec) → find now (epochs_of s.register l).specs ≡ o → find now (epochs_of s.register l).specs ≡ None
    not_found None h = h
    not_found (Some t) h = absurd (let z = low l now t h in omega arith)

    made_here : (x : ℕ) → x ≡ now → makes l x (Some (l, now)) ≡ true
    made_here x q = and_from _ _ (eq-eqb l l refl) (eq-eqb now x (sym q))

    made_else : (k x : ℕ) → ((k ≡ l) → (x ≡ now) → ⊥) → makes k x (Some (l, now)) ≡ false
    made_else k x h = elim (cases_Bool (makes k x (Some (l, now)))) [ inl t ↦ absurd (let p = and_parts (l == k) (now == x) t in h (sym (eqb-true l k p.0)) (sym (eqb-true now x p.1))) | inr t ↦ t ]

    at_log : (x : ℕ) → find x after.specs ≡ or_else (find x (epochs_of s.register l).specs) (if makes l x (Some (l, now)) then Some (Step.spec_set c s l) else None)
    at_log x = elim (put_cases x now (Step.spec_set c s l) (epochs_of s.register l).specs) [
      | inl a ↦ a.1 ∙ sym (ap (λ b. or_else (find x (epochs_of s.register l).specs) (if b then Some (Step.spec_set c s l) else None)) (made_here x a.0) ∙ ap (λ o. or_else o (Some (Step.spec_set c s l))) (subst (λ y. find y (epochs_of s.register l).specs ≡ None) (sym a.0) (not_found _ refl)))
      | inr a ↦ a.1 ∙ (no_more _ ∙ sym (ap (λ b. or_else (find x (epochs_of s.register l).specs) (if b then Some (Step.spec_set c s l) else None)) (made_else l x (λ p q. a.0 q))))
    ]

    advanced : (n : Register) → Same (with_epochs s.register l after) n → OnceMore (Some (l, now)) n
    unfolding OnceMore
    advanced n a k x = ap (λ (z : Epochs). find x z.specs) (epochs_same (with_epochs s.register l after) n k a) ∙ elim (epochs_put s.register l k after) [
      | inl p ↦ ap (λ (z : Epochs). find x z.specs) p.1 ∙ subst (λ j. find x after.specs ≡ or_else (find x (epochs_of s.register j).specs) (if makes j x (Some (l, now)) then Some (Step.spec_set c s j) else None)) (sym p.0) (at_log x)
      | inr p ↦ ap (λ (z : Epochs). find x z.specs) p.1 ∙ (no_more _ ∙ sym (ap (λ b. or_else (find x (epochs_of s.register k).specs) (if b then Some (Step.spec_set c s k) else None)) (made_else k x (λ q z. p.0 q))))
    ]

    epoch_after : (n : Register) → Same (with_epochs s.register l after) n → (epochs_of n l).epoch ≡ now
    epoch_after n a = ap (λ (z : Epochs). z.epoch) (epochs_same (with_epochs s.register l after) n l a) ∙ elim (epochs_put s.register l l after) [ inl p ↦ ap (λ (z : Epochs). z.epoch) p.1 | inr p ↦ absurd (p.0 refl) ]

    activated : (name : List ℕ) → OnceMore (epoch_made s.register (activate s.register l (Step.spec_set c s l)).register (events.Activate name l)) (activate s.register l (Step.spec_set c s l)).register
    activated name = let n = (activate s.register l (Step.spec_set c s l)).register in elim (activate_leaves s.register l (Step.spec_set c s l)) [
      | inl a ↦ subst (λ m. OnceMore m n) (none_made l (epochs_of s.register l).epoch (epochs_of n l).epoch (ap (λ m. (unwrap_or (find l m) no_epochs).epoch) a.0)) (unmade n (by_logs n a.0))
      | inr a ↦ subst (λ m. OnceMore m n) (one_made l (epochs_of s.register l).epoch (epochs_of n l).epoch (epoch_after n a.1)) (advanced n a.1)
    ]

    idle : (name : List ℕ) → OnceMore (epoch_made s.register s.register (events.Activate name l)) s.register
    idle name = subst (λ m. OnceMore m s.register) (none_made l (epochs_of s.register l).epoch (epochs_of s.register l).epoch refl) (unmade s.register (λ k. refl))

    answered_by : (name : List ℕ) (a : Answer) → let d : Done = Step.activates_by c s name l (activate s.register l (Step.spec_set c s l)).register a in OnceMore (epoch_made s.register d.state.register (events.Activate name l)) d.state.register
    answered_by name Granted = activated name
    answered_by name AtLimit = activated name
    answered_by name (Behind lce) = idle name
    answered_by name (Overtaken k) = idle name
    answered_by name Fails = activated name

    activation : (name : List ℕ) → let d : Done = Step.happens c s (events.Activate name l) in OnceMore (epoch_made s.register d.state.register (events.Activate name l)) d.state.register
    unfolding Step.happens
    activation name = cond_both (has_log c l && not (is_some (find_named name s.sequencers))) _ _ (λ (d : Done). OnceMore (epoch_made s.register d.state.register (events.Activate name l)) d.state.register)
        (λ t. answered_by name (activate s.register l (Step.spec_set c s l)).answer) (λ t. idle name)

  -- ---- every event ----
  event_register : (e : Event) → ((l e : ℕ) (t : Spec) → find e (epochs_of s.register l).specs ≡ Some t → e ≤ (epochs_of s.register l).epoch) → let d : Done = Step.happens c s e in OnceMore (epoch_made s.register d.state.register e) d.state.register
  unfolding Step.happens Step.delivers
  event_register (events.Activate name l) low = activation low l name
  event_register (events.Format n) low = idle_step (Step.happens c s (events.Format n)) (either (has_node c n && is_blank (node_at s n).status) _ _ (formats_loaded n (load_end (node_at s n))) (same _ refl))
  event_register (events.Append name p) low = idle_step (Step.happens c s (events.Append name p)) (on_live (find_named name s.sequencers) _ (λ q. append_done name q p (appending q p)))
  event_register (events.Batch name ms) low = idle_step (Step.happens c s (events.Batch name ms)) (on_live (find_named name s.sequencers) _ (λ q. append_done name q (packed ms) (appending q (packed ms))))
  event_register (events.Trim name t) low = idle_step (Step.happens c s (events.Trim name t)) (on_live (find_named name s.sequencers) _ (λ q. either (nat_lt (released_of q) t) _ _ (same _ refl) (same _ refl)))
  event_register (events.Retry name) low = idle_step (Step.happens c s (events.Retry name)) (on_live (find_named name s.sequencers) _ (λ q. acted s.network.fresh name q (on_retry (looks_at c s.register q.log) q)))
  event_register (events.Drop name) low = idle_step (Step.happens c s (events.Drop name)) (on_live (find_named name s.sequencers) _ (λ q. same _ refl))
  event_register (events.Deliver i) low = idle_step (Step.happens c s (events.Deliver i)) (delivered i (message s.network i))
  event_register (events.Lose i) low = idle_step (Step.happens c s (events.Lose i)) (same _ refl)
  event_register (events.Flow n) low = idle_step (Step.happens c s (events.Flow n)) (same _ refl)
  event_register (events.Open name l from until) low = idle_step (Step.happens c s (events.Open name l from until)) (opens styles.EachCopy name l from until)
  event_register (events.OpenOne name l from until) low = idle_step (Step.happens c s (events.OpenOne name l from until)) (opens styles.OneCopy name l from until)
  event_register (events.OpenMessages name l from until) low = idle_step (Step.happens c s (events.OpenMessages name l from until)) (opens styles.OfMessages name l from until)
  event_register (events.Poll name) low = idle_step (Step.happens c s (events.Poll name)) (polls name (find_named name s.readers))
  event_register (events.Tick n l) low = idle_step (Step.happens c s (events.Tick n l)) (either (has_node c n && true) _ _ (either (is_up (node_at s n).status && has_log c l) _ _ (ticks_as n l (on_tick (log_of (node_at s n).plain l) (epochs_of s.register l).summaries)) (same _ refl)) (same _ refl))
  event_register (events.Down n) low = idle_step (Step.happens c s (events.Down n)) (either (has_node c n && (is_up (node_at s n).status || is_failed (node_at s n).status)) _ _ (same _ refl) (same _ refl))
  event_register (events.Up n) low = idle_step (Step.happens c s (events.Up n)) (either (has_node c n && is_down (node_at s n).status) _ _ (same _ refl) (same _ refl))
  event_register (events.Wipe n) low = idle_step (Step.happens c s (events.Wipe n)) (either (has_node c n && true) _ _ (same _ refl) (same _ refl))
  event_register (events.Fail n k) low = idle_step (Step.happens c s (events.Fail n k)) (either (has_node c n && true) _ _ (same _ refl) (same _ refl))
  event_register (events.Tear n k picture) low = idle_step (Step.happens c s (events.Tear n k picture)) (either (has_node c n && true) _ _ (same _ refl) (same _ refl))
  event_register (events.Set l r x set) low = idle_step (Step.happens c s (events.Set l r x set)) (either (Step.can_set c l r x (members set)) _ _ (same _ refl) (same _ refl))
  event_register (events.Replace n other l) low = idle_step (Step.happens c s (events.Replace n other l)) (either (has_node c n && Step.can_replace c s n other l) _ _ (replaces n other l _ (swap s.register l (log_of (node_at s n).plain l).lost_to other n).answer) (same _ refl))
  event_register events.Calm low = idle_step (Step.happens c s events.Calm) (same _ refl)
  event_register (events.RegFail k done) low = idle_step (Step.happens c s (events.RegFail k done)) (moved _ (by_logs (Step.armed s.register k done) refl))

  register_step : (e : Move) → ((l e : ℕ) (t : Spec) → find e (epochs_of s.register l).specs ≡ Some t → e ≤ (epochs_of s.register l).epoch) → let d : Done = Calm.moves c s e in OnceMore (epoch_made s.register d.state.register (event_of e)) d.state.register
  unfolding SameFixed
  register_step (Takes e) low = event_register e low
  register_step (Calms name) low = idle_step (Calm.moves c s (Calms name)) (on_live (find_named name s.sequencers) _ (λ q. acted s.network.fresh name q (on_retry (looks_at c s.register q.log) q)))

pub made_step : (c : Config) (s : State) (e : Move) → ((l e : ℕ) (t : Spec) → find e (epochs_of s.register l).specs ≡ Some t → e ≤ (epochs_of s.register l).epoch)
    → (k x : ℕ) → find x (epochs_of (Calm.moves c s e).state.register k).specs ≡ or_else (find x (epochs_of s.register k).specs) (if makes k x (epoch_made s.register (Calm.moves c s e).state.register (event_of e)) then Some (Step.spec_set c s k) else None)
unfolding OnceMore
made_step c s e low = register_step c s e low

-- ---- just the epochs that were handed out have nodes, factor and extras ----
pub record FineAt (g : Epochs) : Type 0 where
  pub low : (e : ℕ) (t : Spec) → find e g.specs ≡ Some t → (0 < e) × (e ≤ g.epoch)
  pub there : (e : ℕ) → 0 < e → e ≤ g.epoch → (t : Spec) × (find e g.specs ≡ Some t)

abbrev pub SpecsAt : Register → Type 0
SpecsAt r = (l : ℕ) → FineAt (epochs_of r l)

next_fine : (g : Epochs) (p : Spec) → FineAt g → FineAt (next_epoch g p)
next_fine g p h = record {
  low = λ e t f. elim (put_cases e (g.epoch + 1) p g.specs) [ inl a ↦ (let q = a.0 in (omega arith, omega arith)) | inr a ↦ let z = h.low e t (sym a.1 ∙ f) in let y = z.1 in (z.0, omega arith) ];
  there = λ e a u. elim (put_cases e (g.epoch + 1) p g.specs) [ inl b ↦ (p, b.1) | inr b ↦ let z = h.there e a (below e u b.0) in (z.0, b.1 ∙ z.1) ];
} where
  below : (e : ℕ) → e ≤ g.epoch + 1 → (e ≡ g.epoch + 1 → ⊥) → e ≤ g.epoch
  below e u n = elim (cases_lt g.epoch e) [ inl k ↦ absurd (n (omega arith)) | inr k ↦ k ]

specs_at_step : (c : Config) (s : State) (e : Move) → NamesOnce s → SpecsAt s.register → SpecsAt (Calm.moves c s e).state.register
specs_at_step c s e N h = register_kept c s e SpecsAt h
    (λ l g. elim (activate_leaves s.register l (Step.spec_set c s l)) [
      | inl a ↦ (λ k. subst FineAt (sym (epochs_same s.register (activate s.register l (Step.spec_set c s l)).register k a)) (h k))
      | inr a ↦ by_put (activate s.register l (Step.spec_set c s l)).register l (next_epoch (epochs_of s.register l) (Step.spec_set c s l)) a.1 (next_fine (epochs_of s.register l) (Step.spec_set c s l) (h l))
    ])
    (λ l x y b. elim (close_leaves s.register l x y b) [
      | inl a ↦ (λ k. subst FineAt (sym (epochs_same s.register (close s.register l x y b).register k a)) (h k))
      | inr a ↦ by_put (close s.register l x y b).register l (closed_epochs (epochs_of s.register l) x y) a.1 (record { low = (h l).low; there = (h l).there })
    ])
    (λ n. elim (draw_leaves s.register n) [ inl a ↦ by_logs_fine (draw s.register n).register a.0 | inr a ↦ by_logs_fine (draw s.register n).register a.0 ])
    (λ l upto old new. elim (swap_leaves s.register l upto old new) [
      | inl a ↦ (λ k. subst FineAt (sym (epochs_same s.register (swap s.register l upto old new).register k a)) (h k))
      | inr a ↦ by_put (swap s.register l upto old new).register l (swapped_epochs (epochs_of s.register l) upto old new) a (record { low = (h l).low; there = (h l).there })
    ])
    (λ n q. by_logs_fine n q) N where
      by_logs_fine : (n : Register) → n.logs ≡ s.register.logs → SpecsAt n
      by_logs_fine n q k = subst FineAt (sym (ap (λ m. unwrap_or (find k m) no_epochs) q)) (h k)

      by_put : (n : Register) (l : ℕ) (x : Epochs) → Same (with_epochs s.register l x) n → FineAt x → SpecsAt n
      by_put n l x a f k = elim (epochs_put s.register l k x) [
        | inl p ↦ subst FineAt (sym (epochs_same (with_epochs s.register l x) n k a ∙ p.1)) f
        | inr p ↦ subst FineAt (sym (epochs_same (with_epochs s.register l x) n k a ∙ p.1)) (h k)
      ]

-- ---- along a run ----
pub record AsFixed (c : Config) (hs : List Happened) (w : World) : Type 0 where
  pub specs : SpecsAt w.state.register
  pub fixed : (l e : ℕ) → spec_fixed l e hs (first_spec c l) ≡ find e (epochs_of w.state.register l).specs
  pub set : (l : ℕ) → set_after l hs (first_spec c l) ≡ Step.spec_set c w.state l

fixed_step : (c : Config) (hs : List Happened) (w : World) (e : Move) → NamesOnce w.state → AsFixed c hs w → AsFixed c (hs ++ step_happened c w.state e ∷ []) (after_step c w e)
unfolding finish OnceMore
fixed_step c hs w e N F = record {
  specs = specs_at_step c w.state e N F.specs;
  fixed = λ l x. fixed_end l x hs (step_happened c w.state e) (first_spec c l)
      ∙ ((λ i. or_else (F.fixed l x i) (if makes l x (step_happened c w.state e).made then Some (F.set l i) else None)) ∙ sym (register_step c w.state e (λ k y t f. ((F.specs k).low y t f).1) l x));
  set = λ l. set_after_end l hs (step_happened c w.state e) (first_spec c l) ∙ (ap (set_in l (step_happened c w.state e).lines) (F.set l) ∙ (sets_finish l (Calm.moves c w.state e) (Step.spec_set c w.state l) ∙ set_step c w.state e N l));
}

start_fixed : (c : Config) → AsFixed c [] (begin c)
unfolding find
start_fixed c = record { specs = λ l. record { low = λ e t f. absurd (not_none f); there = λ e a b. absurd (omega arith) }; fixed = λ l e. refl; set = λ l. refl }

pub fixed_kept : (c : Config) → Keeps c (λ hs w. NamesOnce w.state × AsFixed c hs w)
fixed_kept c = record { begins = ((tt, tt), start_fixed c); goes_on = λ hs w e p. (names_step c w.state e p.0, fixed_step c hs w e p.0 p.1) }

-- of an epoch that was handed out the lines say what the register shows
pub spec_said : (c : Config) (hs : List Happened) (w : World) → AsFixed c hs w → (l e : ℕ) → Reached w.state.register l e → spec_fixed l e hs (first_spec c l) ≡ Some (fixed_of c w.state.register l e)
spec_said c hs w F l e h = let z = (F.specs l).there e h.0 h.1 in F.fixed l e ∙ (z.1 ∙ ap Some (sym (spec_found c w.state.register l e h ∙ ap (λ o. unwrap_or o (first_spec c l)) z.1)))
