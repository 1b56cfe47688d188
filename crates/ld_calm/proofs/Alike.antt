-- Where nodes are lost, and under which generations, stays over each step of a calm, but for the tick by which a node is lost no longer.
use Rattle.std.proofs.Common.{◌≡◌, ◌∙◌, ℕ, inl, inr, refl, ap, sym, subst, Bool, true, false, ◌&&◌, if◌then◌else◌, nat_lt, List, [], ◌∷◌, Option, Some, None}
use Rattle.std.specs.Option.{unwrap_or}
use Rattle.ld_table.proofs.Laws.{put_cases, find-put_same}
use Rattle.ld_table.specs.Named.{find_named}
use Rattle.ld_config.specs.declared.config.Config.{Config}
use Rattle.ld_schedule.specs.declared.event.Event.TheVariants as events
use Rattle.ld_msg.specs.declared.msg.Summary.{Summary}
use Rattle.ld_msg.specs.declared.msg.Entry.{Entry}
use Rattle.ld_msg.specs.declared.msg.Who.{Who}
use Rattle.ld_msg.specs.declared.msg.Who.TheVariants as whos
use Rattle.ld_msg.specs.declared.msg.Msg.{Msg}
use Rattle.ld_msg.specs.declared.msg.Body.{Body}
use Rattle.ld_msg.specs.declared.msg.Body.TheVariants as bodies
use Rattle.ld_msg.specs.Network.{message}
use Rattle.ld_msg.specs.Register.{epochs_of}
use Rattle.ld_msg.specs.Sequencer.{Sequencer, on_reply}
use Rattle.ld_msg.specs.Reader.{Reader, is_finished, on_answer}
use Rattle.ld_op.specs.declared.op.Op.{Op}
use Rattle.ld_op.specs.declared.op.Op.TheVariants as ops
use Rattle.ld_op.specs.Plain.{Plain, Log, log_of, empty_log, is_lost, apply, with_log, refilled}
use Rattle.ld_op.specs.Answers.{Decision, Lost, CleanAlready, Trimmed, Sealed, Same, Take, taken, clean_op, on_store, on_digest_ask, on_clean, on_trim, store_decision, digest_decision}
use Rattle.ld_op.specs.Ticks.{Ticked, Cleans, Rebuilt, Asks, Nothing, on_tick, on_page, page_op, refill_op, lacking}
use Rattle.ld_op.specs.Handles.{handled_by}
use Rattle.ld_machine.specs.Config.{looks_at, has_log, has_node}
use Rattle.ld_machine.specs.Disk.{Node, Fate, Made, FailsAt, CrashesAt, fate, new_node, keep_op, kept_by, is_full_for, op_calls, Failed, is_up}
use Rattle.ld_machine.specs.State.{State, finish, unchanged, node_at, with_node, sequencer_of, reader_of}
use Rattle.ld_machine.specs.Step as Step
use Rattle.ld_safety.proofs.Lists.{Some_inj, cond_both}
use Rattle.ld_safety.proofs.HoldSteps.{released_parts}

-- ops that make a node lost, or end that
abbrev pub heals : Op → Bool
heals (ops.Format g es) = true
heals (ops.Refilled l) = true
heals _ = false

-- ---- ops ----

-- as lost in each log but one
pub record AlikeBut (l : ℕ) (p q : Plain) : Type 0 where
  pub generation : q.generation ≡ p.generation
  pub lost : (k e : ℕ) → (k ≡ l → ⊥) → is_lost (log_of q k) e ≡ is_lost (log_of p k) e

pub record Alike (p q : Plain) : Type 0 where
  pub generation : q.generation ≡ p.generation
  pub lost : (k e : ℕ) → is_lost (log_of q k) e ≡ is_lost (log_of p k) e

pub alike_here : (p : Plain) → Alike p p
alike_here p = record { generation = refl; lost = λ k e. refl }

pub alike_but : (l : ℕ) (p q : Plain) → Alike p q → AlikeBut l p q
alike_but l p q h = record { generation = h.generation; lost = λ k e n. h.lost k e }

with_log_alike : (p : Plain) (j : ℕ) (h : Log) → ((e : ℕ) → is_lost h e ≡ is_lost (log_of p j) e) → Alike p (with_log p j h)
with_log_alike p j h f = record {
  generation = refl;
  lost = λ k e. elim (put_cases k j h p.logs) [
    | inl a ↦ ap (λ o. is_lost (unwrap_or o empty_log) e) a.1 ∙ (f e ∙ ap (λ z. is_lost (log_of p z) e) (sym a.0))
    | inr a ↦ ap (λ o. is_lost (unwrap_or o empty_log) e) a.1
  ];
}

pub apply_alike : (p : Plain) (o : Op) → heals o ≡ false → Alike p (apply p o)
unfolding apply
apply_alike p (ops.Format g es) h = absurd cc
apply_alike p (ops.Accept k lng x) h = with_log_alike p k _ (λ e. refl)
apply_alike p (ops.Seal k b) h = with_log_alike p k _ (λ e. refl)
apply_alike p (ops.Clean k epoch y) h = with_log_alike p k _ (λ e. refl)
apply_alike p (ops.Trim k t) h = with_log_alike p k _ (λ e. refl)
apply_alike p (ops.Refill k es) h = with_log_alike p k _ (λ e. refl)
apply_alike p (ops.Refilled k) h = absurd cc

pub refilled_alike : (p : Plain) (l : ℕ) → AlikeBut l p (apply p (ops.Refilled l))
unfolding apply
refilled_alike p l = record {
  generation = refl;
  lost = λ k e n. elim (put_cases k l (refilled (log_of p l)) p.logs) [
    | inl a ↦ absurd (n a.0)
    | inr a ↦ ap (λ o. is_lost (unwrap_or o empty_log) e) a.1
  ];
}

-- ---- records ----

pub kept_all : (x : Node) (o : Op) (P : Plain → Type 0) → P x.plain → P (apply x.plain o) → P (keep_op x o).plain
unfolding keep_op
kept_all x o P a b = cond_both (is_full_for x o) (record x { status = Failed }) (kept_by x o (fate (op_calls x o) x.fault)) (λ z. P z.plain) (λ t. a) (λ t. by_fate (fate (op_calls x o) x.fault)) where
  by_fate : (f : Fate) → P (kept_by x o f).plain
  by_fate Made = b
  by_fate (FailsAt k) = a
  by_fate (CrashesAt k v) = a

-- ---- a node's messages heal nothing ----
taken_plain : (o p : Op) (d : Decision) → heals o ≡ false → taken o d ≡ Some p → heals p ≡ false
taken_plain o p Take h e = subst (λ x. heals x ≡ false) (Some_inj e) h
taken_plain o p (Lost end) h e = absurd cc
taken_plain o p (CleanAlready y) h e = absurd cc
taken_plain o p (Trimmed t) h e = absurd cc
taken_plain o p (Sealed b) h e = absurd cc
taken_plain o p Same h e = absurd cc

clean_plain : (l e : ℕ) (y : Summary) (o : Option Summary) (p : Op) → clean_op l e y o ≡ Some p → heals p ≡ false
clean_plain l e y None p q = subst (λ x. heals x ≡ false) (Some_inj q) refl
clean_plain l e y (Some z) p q = absurd cc

refill_plain : (l : ℕ) (es : List Entry) (p : Op) → refill_op l es ≡ Some p → heals p ≡ false
refill_plain l [] p q = absurd cc
refill_plain l (e ∷ es) p q = subst (λ x. heals x ≡ false) (Some_inj q) refl

if_plain : (b : Bool) (o : Option Op) (p : Op) → (o ≡ Some p → heals p ≡ false) → (if b then o else None) ≡ Some p → heals p ≡ false
if_plain true o p h q = h q
if_plain false o p h q = absurd cc

page_plain : (g : Log) (l : ℕ) (b : Body) (p : Op) → page_op g l b ≡ Some p → heals p ≡ false
page_plain g l (bodies.ReadPage round from upto clean es) p q = if_plain clean (refill_op l (lacking g es)) p (refill_plain l (lacking g es) p) q
page_plain g l (bodies.ReadTrim round from t) p q = if_plain (nat_lt g.trim t) (Some (ops.Trim l t)) p (λ e. subst (λ x. heals x ≡ false) (Some_inj e) refl) q
page_plain g l _ p q = absurd cc

keeps_plain : (g : Log) (l : ℕ) (b : Body) (p : Op) → (on_page g l b).op ≡ Some p → heals p ≡ false
unfolding on_page
keeps_plain g l b p q = if_plain g.lost (page_op g l b) p (page_plain g l b p) q

handled_plain : (self generation : ℕ) (g : Log) (l ballot released : ℕ) (b : Body) (p : Op) → (handled_by self generation g l ballot released b).op ≡ Some p → heals p ≡ false
unfolding on_store on_digest_ask on_clean on_trim
handled_plain self generation g l ballot released (bodies.Store n lng x) p q = taken_plain (ops.Accept l lng (record { number = n; ballot = ballot; what = x })) p (store_decision g (record { number = n; ballot = ballot; what = x })) refl q
handled_plain self generation g l ballot released (bodies.DigestAsk from) p q = taken_plain (ops.Seal l ballot) p (digest_decision g ballot from) refl q
handled_plain self generation g l ballot released (bodies.Clean e s) p q = clean_plain l e s _ p q
handled_plain self generation g l ballot released (bodies.Trim t) p q = if_plain (nat_lt g.trim t) (Some (ops.Trim l t)) p (λ e. subst (λ x. heals x ≡ false) (Some_inj e) refl) q
handled_plain self generation g l ballot released (bodies.ReadAsk round from) p q = absurd cc
handled_plain self generation g l ballot released (bodies.ReadOne round from set excluded) p q = absurd cc
handled_plain self generation g l ballot released b p q = keeps_plain g l b p q

-- ---- a state ----

module _ (P : ℕ → Node → Type 0) where
  put_node : (t : State) (n : ℕ) (x : Node) → P n x → ((y : ℕ) → P y (node_at t y)) → (y : ℕ) → P y (node_at (with_node t n x) y)
  put_node t n x h a y = elim (put_cases y n x t.nodes) [
    | inl e ↦ subst (λ (o : Option Node). P y (unwrap_or o new_node)) (sym e.1) (subst (λ k. P k x) (sym e.0) h)
    | inr e ↦ subst (λ (o : Option Node). P y (unwrap_or o new_node)) (sym e.1) (a y)
  ]

node_here : (t : State) (n : ℕ) (x : Node) → node_at (with_node t n x) n ≡ x
node_here t n x = ap (λ (o : Option Node). unwrap_or o new_node) (find-put_same n n x t.nodes refl)

-- ---- a step, by any relation that holds of a plain state with itself and with what an op that heals nothing makes of it ----
abbrev pub AllBy : (Plain → Plain → Type 0) → State → State → Type 0
AllBy R s t = (y : ℕ) → R (node_at s y).plain (node_at t y).plain

abbrev pub AllAlike : State → State → Type 0
AllAlike = AllBy Alike

abbrev pub AllAlikeBut : ℕ → State → State → Type 0
AllAlikeBut l = AllBy (AlikeBut l)

module _ (R : Plain → Plain → Type 0) (same : (p : Plain) → R p p) (with_op : (p : Plain) (o : Op) → heals o ≡ false → R p (apply p o)) (c : Config) (s : State) where
  here : AllBy R s s
  here y = same (node_at s y).plain

  handled : (i n : ℕ) (m : Msg) (o : Option Op) (b : Option Body) → ((p : Op) → o ≡ Some p → heals p ≡ false) → AllBy R s (Step.handles (with_node (Step.marked s i) n (Step.releases (node_at s n) m.log m.body)) n m o b).state
  handled i n m o b h = by_op o h where
    x : Node
    x = Step.releases (node_at s n) m.log m.body

    released : R (node_at s n).plain x.plain
    released = subst (R (node_at s n).plain) (sym (released_parts (node_at s n) m.log m.body).0) (same (node_at s n).plain)

    by_op : (o : Option Op) → ((p : Op) → o ≡ Some p → heals p ≡ false) → AllBy R s (Step.handles (with_node (Step.marked s i) n x) n m o b).state
    by_op None h = put_node (λ y z. R (node_at s y).plain z.plain) (Step.marked s i) n x released here
    by_op (Some p) h = put_node (λ y z. R (node_at s y).plain z.plain) (with_node (Step.marked s i) n x) n (keep_op (node_at (with_node (Step.marked s i) n x) n) p)
        (subst (λ (z : Node). R (node_at s n).plain (keep_op z p).plain) (sym (node_here (Step.marked s i) n x)) (kept_all x p (R (node_at s n).plain) released
        (subst (λ (q : Plain). R (node_at s n).plain (apply q p)) (sym (released_parts (node_at s n) m.log m.body).0) (with_op (node_at s n).plain p (h p refl)))))
        (put_node (λ y z. R (node_at s y).plain z.plain) (Step.marked s i) n x released here)

  -- a delivery
  pub delivers_by : (i : ℕ) → AllBy R s (finish (Step.happens c s (events.Deliver i))).state
  unfolding Step.happens Step.delivers finish
  delivers_by i = by_message (message s.network i) where
    by_sequencer : (m : Msg) (o : Option (List ℕ × Sequencer)) → AllBy R s (Step.to_sequencer c (Step.marked s i) m o).state
    by_sequencer m None = here
    by_sequencer m (Some q) = cond_both q.1.gone (unchanged (Step.marked s i)) (Step.acted c (Step.marked s i) q.0 q.1 (on_reply (looks_at c s.register q.1.log) q.1 (Step.sender_node m.from) m.body)) (λ d. AllBy R s d.state) (λ t. here) (λ t. here)

    by_reader : (m : Msg) (o : Option (List ℕ × Reader)) → AllBy R s (Step.to_reader c (Step.marked s i) m o).state
    by_reader m None = here
    by_reader m (Some d) = cond_both (is_finished d.1) (unchanged (Step.marked s i)) (Step.read (Step.marked s i) d.0 (on_answer (looks_at c s.register d.1.log) d.1 (Step.sender_node m.from) m.body)) (λ d. AllBy R s d.state) (λ t. here) (λ t. here)

    by_who : (m : Msg) (w : Who) → AllBy R s (Step.comes_to c (Step.marked s i) m w).state
    by_who m (whos.Node n) = cond_both (is_up (node_at s n).status && has_log c m.log) (Step.to_up_node (Step.marked s i) n m) (unchanged (Step.marked s i)) (λ d. AllBy R s d.state)
        (λ t. handled i n m (Step.node_handles n (node_at s n) m).op (Step.node_handles n (node_at s n) m).answer (λ p q. handled_plain _ _ _ _ _ _ m.body p q)) (λ t. here)
    by_who m (whos.Sequencer b) = by_sequencer m (sequencer_of m.log b s.sequencers)
    by_who m (whos.Reader r) = by_reader m (reader_of r s.readers)

    by_message : (o : Option Msg) → AllBy R s (Step.delivers_it c s i o).state
    by_message None = here
    by_message (Some m) = by_who m m.to

  -- a poll
  pub polls_by : (name : List ℕ) → AllBy R s (finish (Step.happens c s (events.Poll name))).state
  unfolding Step.happens finish
  polls_by name = by_reader (find_named name s.readers) where
    by_reader : (o : Option Reader) → AllBy R s (Step.polls c s name o).state
    by_reader None = here
    by_reader (Some d) = cond_both (is_finished d) (unchanged s) _ (λ d. AllBy R s d.state) (λ t. here) (λ t. here)

  -- a tick
  pub ticks_by : (n l : ℕ) → ((p : Plain) → R p (apply p (ops.Refilled l))) → AllBy R s (finish (Step.happens c s (events.Tick n l))).state
  unfolding Step.happens finish
  ticks_by n l healed = cond_both (has_node c n && true) (Step.ticks c s n l) (unchanged s) (λ d. AllBy R s d.state) (λ t.
      cond_both (is_up (node_at s n).status && has_log c l) (Step.ticks_as c s n l (on_tick (log_of (node_at s n).plain l) (epochs_of s.register l).summaries)) (unchanged s) (λ d. AllBy R s d.state)
      (λ u. by_tick (on_tick (log_of (node_at s n).plain l) (epochs_of s.register l).summaries)) (λ u. here)) (λ t. here) where
        by_tick : (t : Ticked) → AllBy R s (Step.ticks_as c s n l t).state
        by_tick (Cleans k y) = put_node (λ y z. R (node_at s y).plain z.plain) s n (keep_op (node_at s n) (ops.Clean l k y))
            (kept_all (node_at s n) (ops.Clean l k y) (R (node_at s n).plain) (here n) (with_op (node_at s n).plain (ops.Clean l k y) refl)) here
        by_tick Rebuilt = put_node (λ y z. R (node_at s y).plain z.plain) s n (keep_op (node_at s n) (ops.Refilled l)) (kept_all (node_at s n) (ops.Refilled l) (R (node_at s n).plain) (here n) (healed (node_at s n).plain)) here
        by_tick (Asks from) = here
        by_tick Nothing = here

-- where nodes are lost stays
pub delivers_alike : (c : Config) (s : State) (i : ℕ) → AllAlike s (finish (Step.happens c s (events.Deliver i))).state
delivers_alike c s i = delivers_by Alike alike_here apply_alike c s i

pub polls_alike : (c : Config) (s : State) (name : List ℕ) → AllAlike s (finish (Step.happens c s (events.Poll name))).state
polls_alike c s name = polls_by Alike alike_here apply_alike c s name

pub ticks_alike : (c : Config) (s : State) (n l : ℕ) → AllAlikeBut l s (finish (Step.happens c s (events.Tick n l))).state
ticks_alike c s n l = ticks_by (AlikeBut l) (λ p. alike_but l p p (alike_here p)) (λ p o h. alike_but l p (apply p o) (apply_alike p o h)) c s n l (λ p. refilled_alike p l)
