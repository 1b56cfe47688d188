-- A delivery and a tick leave no node fewer clean epochs, and a tick makes the measure less: it cleans one epoch more, or it is the node's last one.
use Rattle.std.proofs.Common.{◌≡◌, ◌∙◌, ◌≤◌, ◌<◌, ℕ, ◌+◌, ◌*◌, inl, inr, refl, ap, sym, subst, Bool, true, false, ◌&&◌, if◌then◌else◌, nat_lt, List, [], ◌∷◌, length, Option, Some, None, is_some, arith}
use Rattle.std.proofs.lemmas.Bool.{cases_lt}
use Rattle.std.specs.Option.{unwrap_or}
use Rattle.ld_table.specs.Table.{find, put}
use Rattle.ld_table.proofs.Laws.{put_cases, find-put_same}
use Rattle.ld_config.specs.declared.config.Config.{Config}
use Rattle.ld_schedule.specs.declared.event.Event.TheVariants as events
use Rattle.ld_msg.specs.declared.msg.Summary.{Summary}
use Rattle.ld_msg.specs.declared.msg.Who.TheVariants as whos
use Rattle.ld_msg.specs.Register.{epochs_of}
use Rattle.ld_op.specs.declared.op.Op.{Op}
use Rattle.ld_op.specs.declared.op.Op.TheVariants as ops
use Rattle.ld_op.specs.Plain.{Plain, Log, log_of, empty_log, apply, with_log, cleaned}
use Rattle.ld_op.specs.Ticks.{Ticked, Cleans, Rebuilt, Asks, Nothing, on_tick, tick_with, refill_tick, lowest_unclean, missing, node_asks}
use Rattle.ld_machine.specs.Config.{all_nodes, has_log, has_node}
use Rattle.ld_machine.specs.Disk.{Node, Fate, Made, FailsAt, CrashesAt, fate, new_node, op_calls, is_full_for, kept_by, kept_end, keep_op, keep_end, is_up, JournalFull, Failed}
use Rattle.ld_machine.specs.State.{State, finish, unchanged, sent_state, node_at, with_node, posted}
use Rattle.ld_machine.specs.Step as Step
use Rattle.ld_machine.specs.Calm as Calm
use Rattle.ld_safety.proofs.Lists.{cond_both}
use Rattle.ld_safety.proofs.Events.{NamesOnce}
use Rattle.ld_safety.proofs.LostFull.{FullLog, full_clean, unclean_none}
use Rattle.ld_safety.proofs.LostFullKept.{FullNode, full_step}
use Rattle.ld_machine.specs.Calm.{Move, Takes, moved, Left, Ticks, cleans, cleans_by}
use Rattle.ld_calm.proofs.Weights.{InPlace, weights}
use Rattle.ld_calm.proofs.Measure.{Ground, measure}
use Rattle.ld_calm.proofs.Alike.{heals, AllBy, delivers_by, ticks_by}
use Rattle.ld_calm.proofs.Noded.{Cleaner, gap_low, lowest_up, unclean_missing, last_tick, clean_tick, asks_light}

-- ---- epochs stay clean ----

-- each epoch that is clean stays so
pub record Grows (p q : Plain) : Type 0 where
  pub clean : (l k : ℕ) → is_some (find k (log_of p l).summaries) ≡ true → is_some (find k (log_of q l).summaries) ≡ true

grows_here : (p : Plain) → Grows p p
grows_here p = record { clean = λ l k h. h }

with_log_grows : (p : Plain) (j : ℕ) (h : Log) → ((k : ℕ) → is_some (find k (log_of p j).summaries) ≡ true → is_some (find k h.summaries) ≡ true) → Grows p (with_log p j h)
with_log_grows p j h f = record {
  clean = λ l k t. elim (put_cases l j h p.logs) [
    | inl a ↦ subst (λ (o : Option Log). is_some (find k (unwrap_or o empty_log).summaries) ≡ true) (sym a.1) (f k (subst (λ z. is_some (find k (log_of p z).summaries) ≡ true) a.0 t))
    | inr a ↦ subst (λ (o : Option Log). is_some (find k (unwrap_or o empty_log).summaries) ≡ true) (sym a.1) t
  ];
}

put_some : (k e : ℕ) (y : Summary) (ss : List (ℕ × Summary)) → is_some (find k ss) ≡ true → is_some (find k (put e y ss)) ≡ true
put_some k e y ss h = elim (put_cases k e y ss) [ inl a ↦ subst (λ (o : Option Summary). is_some o ≡ true) (sym a.1) refl | inr a ↦ subst (λ (o : Option Summary). is_some o ≡ true) (sym a.1) h ]

apply_grows : (p : Plain) (o : Op) → heals o ≡ false → Grows p (apply p o)
unfolding apply
apply_grows p (ops.Format g es) h = absurd cc
apply_grows p (ops.Accept l lng e) h = with_log_grows p l _ (λ k t. t)
apply_grows p (ops.Seal l b) h = with_log_grows p l _ (λ k t. t)
apply_grows p (ops.Clean l e y) h = with_log_grows p l _ (λ k t. put_some k e y (log_of p l).summaries t)
apply_grows p (ops.Trim l t) h = with_log_grows p l _ (λ k u. u)
apply_grows p (ops.Refill l es) h = with_log_grows p l _ (λ k t. t)
apply_grows p (ops.Refilled l) h = absurd cc

refilled_grows : (l : ℕ) (p : Plain) → Grows p (apply p (ops.Refilled l))
unfolding apply
refilled_grows l p = with_log_grows p l _ (λ k t. t)

-- ---- a step ----

abbrev pub AllFull : State → Type 0
AllFull s = (y : ℕ) → FullNode (node_at s y)

full_after : (c : Config) (s : State) (e : Move) → NamesOnce s → AllFull s → AllFull (finish (Calm.moves c s e)).state
full_after c s e N F = full_step c (record { state = s; made = []; joined = [] }) e N F

cleaner_by : (s t : State) → AllBy Grows s t → AllFull t → Cleaner s.nodes t.nodes
cleaner_by s t G F y l = lowest_up (log_of (node_at s y).plain l) (log_of (node_at t y).plain l) (F y (node_at t y).plain (inl refl) l) (λ k h. (G y).clean l k h)

-- by a delivery no node has fewer clean epochs
pub delivers_cleaner : (c : Config) (s : State) (i : ℕ) → NamesOnce s → AllFull s → Cleaner s.nodes (Step.delivers c s i).state.nodes
unfolding Step.happens finish
delivers_cleaner c s i N F = cleaner_by s (finish (Step.happens c s (events.Deliver i))).state (delivers_by Grows grows_here apply_grows c s i) (full_after c s (Takes (events.Deliver i)) N F)

ticks_cleaner : (c : Config) (s : State) (n l : ℕ) → NamesOnce s → AllFull s → Cleaner s.nodes (finish (Step.happens c s (events.Tick n l))).state.nodes
ticks_cleaner c s n l N F = cleaner_by s (finish (Step.happens c s (events.Tick n l))).state (ticks_by Grows grows_here apply_grows c s n l (refilled_grows l)) (full_after c s (Takes (events.Tick n l)) N F)

-- ---- a tick that cleans an epoch ----

-- it is the lowest one that isn't clean, as the register has it
cleans_lowest : (g : Log) (closed : List (ℕ × Summary)) (k : ℕ) (y : Summary) → on_tick g closed ≡ Cleans k y → (lowest_unclean g ≡ k) × (find (lowest_unclean g) closed ≡ Some y)
unfolding on_tick
cleans_lowest g closed k y h = by_found (find (lowest_unclean g) closed) refl h where
  no_refill : (b : Bool) (ns : List ℕ) → refill_tick b ns ≡ Cleans k y → ⊥
  no_refill true [] e = absurd cc
  no_refill false [] e = absurd cc
  no_refill b (n ∷ ns) e = absurd cc

  by_found : (o : Option Summary) → find (lowest_unclean g) closed ≡ o → tick_with g o ≡ Cleans k y → (lowest_unclean g ≡ k) × (find (lowest_unclean g) closed ≡ Some y)
  by_found None f e = absurd (cond_both g.lost (refill_tick (nat_lt g.lost_to (lowest_unclean g)) (missing g)) Nothing (λ t. t ≡ Cleans k y → ⊥) (λ t. no_refill (nat_lt g.lost_to (lowest_unclean g)) (missing g)) (λ t q. absurd cc) e)
  by_found (Some z) f e = let a : lowest_unclean g ≡ k = cc in let b : z ≡ y = cc in (a, f ∙ ap Some b)

-- and then the lowest one is greater
lowest_more : (g : Log) (y : Summary) → FullLog g → lowest_unclean g + 1 ≤ lowest_unclean (cleaned g (lowest_unclean g) y)
lowest_more g y F = elim (cases_lt (lowest_unclean g) (lowest_unclean (cleaned g (lowest_unclean g) y))) [
  | inl lt ↦ omega arith
  | inr ge ↦ absurd (let same : lowest_unclean (cleaned g (lowest_unclean g) y) ≡ lowest_unclean g = omega (arith, up) in
      let none : find (lowest_unclean g) (put (lowest_unclean g) y g.summaries) ≡ None = subst (λ k. find k (put (lowest_unclean g) y g.summaries) ≡ None) same (unclean_missing (cleaned g (lowest_unclean g) y) full) in
      let some : find (lowest_unclean g) (put (lowest_unclean g) y g.summaries) ≡ Some y = find-put_same (lowest_unclean g) (lowest_unclean g) y g.summaries refl in
      let z : Some y ≡ None = sym some ∙ none in cc)
] where
  full : FullLog (cleaned g (lowest_unclean g) y)
  full = full_clean g (lowest_unclean g) y (let z = gap_low 1 g.summaries in omega arith) (unclean_none g F) F

  up : lowest_unclean g ≤ lowest_unclean (cleaned g (lowest_unclean g) y)
  up = lowest_up g (cleaned g (lowest_unclean g) y) full (λ k h. put_some k (lowest_unclean g) y g.summaries h)

-- a record that is written
written_plain : (x : Node) (o : Op) → Step.is_written (keep_end x o) ≡ true → (keep_op x o).plain ≡ apply x.plain o
unfolding keep_end keep_op
written_plain x o h = by_full (is_full_for x o) h where
  by_fate : (f : Fate) → Step.is_written (kept_end f) ≡ true → (kept_by x o f).plain ≡ apply x.plain o
  by_fate Made e = refl
  by_fate (FailsAt k) e = absurd cc
  by_fate (CrashesAt k v) e = absurd cc

  by_full : (b : Bool) → Step.is_written (if b then JournalFull else kept_end (fate (op_calls x o) x.fault)) ≡ true → (if b then record x { status = Failed } else kept_by x o (fate (op_calls x o) x.fault)).plain ≡ apply x.plain o
  by_full true e = absurd cc
  by_full false e = by_fate (fate (op_calls x o) x.fault) e

-- ---- a tick of a node of the configuration for a log of it ----

module _ (c : Config) (s : State) (g : Ground) (l n : ℕ) (P : InPlace s.network) (N : NamesOnce s) (F : AllFull s) (log : has_log c l ≡ true) (node : has_node c n ≡ true) (nodes : length (all_nodes c) ≤ g.nodes)
    (closed : (e : ℕ) (y : Summary) → 0 < e → find e (epochs_of s.register l).summaries ≡ Some y → e ≤ g.epochs l) (ps : List Left) where
  h : Log
  h = log_of (node_at s n).plain l

  written_more : (y : Summary) → Step.is_written (keep_end (node_at s n) (ops.Clean l (lowest_unclean h) y)) ≡ true
      → lowest_unclean h + 1 ≤ lowest_unclean (log_of (unwrap_or (find n (put n (keep_op (node_at s n) (ops.Clean l (lowest_unclean h) y)) s.nodes)) new_node).plain l)
  unfolding apply h
  written_more y w =
      let o : Op = ops.Clean l (lowest_unclean h) y in
      let there : find n (put n (keep_op (node_at s n) o) s.nodes) ≡ Some (keep_op (node_at s n) o) = find-put_same n n (keep_op (node_at s n) o) s.nodes refl in
      let plain : (unwrap_or (find n (put n (keep_op (node_at s n) o) s.nodes)) new_node).plain ≡ apply (node_at s n).plain o = ap (λ (v : Option Node). (unwrap_or v new_node).plain) there ∙ written_plain (node_at s n) o w in
      let in_log : log_of (apply (node_at s n).plain o) l ≡ cleaned h (lowest_unclean h) y = ap (λ (v : Option Log). unwrap_or v empty_log) (find-put_same l l (cleaned h (lowest_unclean h) y) (node_at s n).plain.logs refl) in
      let same : log_of (unwrap_or (find n (put n (keep_op (node_at s n) o) s.nodes)) new_node).plain l ≡ cleaned h (lowest_unclean h) y = ap (λ (p : Plain). log_of p l) plain ∙ in_log in
      subst (λ (v : Log). lowest_unclean h + 1 ≤ lowest_unclean v) (sym same) (lowest_more h y (F n (node_at s n).plain (inl refl) l))

  ticked : (t : Ticked) → on_tick (log_of (node_at s n).plain l) (epochs_of s.register l).summaries ≡ t → Cleaner s.nodes (Step.ticks_as c s n l t).state.nodes
      → measure g (finish (Step.ticks_as c s n l t)).state (if cleans_by (node_at s n) l t then Ticks l n ∷ ps else ps) + 1 ≤ measure g s (Ticks l n ∷ ps)
  unfolding finish h
  ticked (Cleans k y) e C = subst (λ j. Cleaner s.nodes (put n (keep_op (node_at s n) (ops.Clean l j y)) s.nodes) → measure g (finish (Step.ticks_as c s n l (Cleans j y))).state (if Step.is_written (keep_end (node_at s n) (ops.Clean l j y)) then Ticks l n ∷ ps else ps) + 1 ≤ measure g s (Ticks l n ∷ ps)) (cleans_lowest (log_of (node_at s n).plain l) (epochs_of s.register l).summaries k y e).0
      (λ D. by_written D (Step.is_written (keep_end (node_at s n) (ops.Clean l (lowest_unclean h) y))) refl) C where
        there : find (lowest_unclean h) (epochs_of s.register l).summaries ≡ Some y
        there = (cleans_lowest (log_of (node_at s n).plain l) (epochs_of s.register l).summaries k y e).1

        by_written : Cleaner s.nodes (put n (keep_op (node_at s n) (ops.Clean l (lowest_unclean h) y)) s.nodes) → (b : Bool) → Step.is_written (keep_end (node_at s n) (ops.Clean l (lowest_unclean h) y)) ≡ b
            → measure g (sent_state (with_node s n (keep_op (node_at s n) (ops.Clean l (lowest_unclean h) y))) (if b then [] else [])) (if b then Ticks l n ∷ ps else ps) + 1 ≤ measure g s (Ticks l n ∷ ps)
        by_written D true w = clean_tick s g l n P (put n (keep_op (node_at s n) (ops.Clean l (lowest_unclean h) y)) s.nodes) ps D (written_more y w) (closed (lowest_unclean h) y (let z = gap_low 1 h.summaries in omega arith) there)
        by_written D false w = last_tick s g l n P (put n (keep_op (node_at s n) (ops.Clean l (lowest_unclean h) y)) s.nodes) [] ps D (omega arith)
  ticked Rebuilt e C = last_tick s g l n P (put n (keep_op (node_at s n) (ops.Refilled l)) s.nodes) (if Step.is_written (keep_end (node_at s n) (ops.Refilled l)) then [] else []) ps C
      (cond_both (Step.is_written (keep_end (node_at s n) (ops.Refilled l))) [] [] (λ ms. weights ms ≤ 2 * g.nodes) (λ t. omega arith) (λ t. omega arith))
  ticked (Asks from) e C = last_tick s g l n P s.nodes (posted (whos.Node n) l (node_asks n (all_nodes c) from)) ps C (asks_light n l from (all_nodes c) g.nodes nodes)
  ticked Nothing e C = last_tick s g l n P s.nodes [] ps C (omega arith)

  abbrev t : Ticked
  t = on_tick (log_of (node_at s n).plain l) (epochs_of s.register l).summaries

  by_up : (u v : Bool) → v ≡ true → Cleaner s.nodes (if u && v then Step.ticks_as c s n l t else unchanged s).state.nodes
      → measure g (finish (if u && v then Step.ticks_as c s n l t else unchanged s)).state (if u && cleans_by (node_at s n) l t then Ticks l n ∷ ps else ps) + 1 ≤ measure g s (Ticks l n ∷ ps)
  unfolding finish
  by_up true true q C = ticked t refl C
  by_up true false q C = absurd cc
  by_up false v q C = last_tick s g l n P s.nodes [] ps C (omega arith)

  by_node : (b : Bool) → b ≡ true → Cleaner s.nodes (if b && true then Step.ticks c s n l else unchanged s).state.nodes
      → measure g (finish (if b && true then Step.ticks c s n l else unchanged s)).state (if cleans s n l then Ticks l n ∷ ps else ps) + 1 ≤ measure g s (Ticks l n ∷ ps)
  by_node true q C = by_up (is_up (node_at s n).status) (has_log c l) log C
  by_node false q C = absurd cc

  -- it makes the measure less
  pub tick_falls : measure g (moved c s (Takes (events.Tick n l))).state (if cleans s n l then Ticks l n ∷ ps else ps) + 1 ≤ measure g s (Ticks l n ∷ ps)
  unfolding Step.happens finish
  tick_falls = by_node (has_node c n) node (ticks_cleaner c s n l N F)
