-- An epoch that isn't served at a node any more isn't served there later: the node stays blank, lost for it or clean, and is lost for it once it is formatted.
use Rattle.std.proofs.Common.{◌≡◌, ◌∙◌, ◌⊎◌, ◌≤◌, ◌<◌, ℕ, ◌+◌, inl, inr, refl, ap, sym, subst, Bool, true, false, ◌&&◌, ◌==◌, nat_lt, nat_le, cond, if◌then◌else◌, List, [], ◌∷◌, Option, Some, None, is_some, arith}
use Rattle.std.specs.Option.{unwrap_or}
use Rattle.std.specs.Ordering.{nat_cmp}
use Rattle.std.specs.BTreeMap.{is_at}
use Rattle.std.proofs.lemmas.Bool.{and_parts, and_from, eqb-true, lt-ltb, le-leb, leb-true, ltb-true, eq-eqb, cases_order}
use Rattle.ld_table.specs.Table.{find, put}
use Rattle.ld_table.proofs.Laws.{put_cases, tied}
use Rattle.ld_config.specs.declared.config.Config.{Config}
use Rattle.ld_msg.specs.declared.msg.Entry.{Entry}
use Rattle.ld_msg.specs.declared.msg.Summary.{Summary}
use Rattle.ld_msg.specs.declared.msg.Body.{Body}
use Rattle.ld_msg.specs.declared.msg.Body.TheVariants as bodies
use Rattle.ld_op.specs.declared.op.Op.{Op}
use Rattle.ld_op.specs.declared.op.Op.TheVariants as ops
use Rattle.ld_op.specs.Plain.{Plain, Log, log_of, empty_log, is_lost, summary_at, epoch_zero, apply, with_log, cleaned, refilled, lost_log, lost_logs}
use Rattle.ld_op.specs.Answers.{Decision, Lost, CleanAlready, Trimmed, Sealed, Same, Take, store_decision, digest_decision, taken, on_store, on_digest_ask, on_clean, clean_op, on_trim}
use Rattle.ld_op.specs.Handles.{handled_by}
use Rattle.ld_op.specs.Ticks.{Rebuilt, Nothing, on_tick, tick_with, refill_tick, lowest_unclean, gap_from, missing, on_page, page_op, refill_op, lacking}
use Rattle.ld_msg.specs.Register.{Register, Epochs, no_epochs, epochs_of, epochs_in, draw, Granted, generation_of}
use Rattle.ld_machine.specs.Disk.{Node, new_node, keep_op, load}
use Rattle.ld_machine.specs.State.{State, finish, node_at}
use Rattle.ld_machine.specs.World.{World, MayHold, Unserved}
use Rattle.ld_machine.specs.Run.{after_step}
use Rattle.ld_machine.specs.Step as Step
use Rattle.ld_safety.proofs.Lists.{Some_inj, not_none, not_both, cond_both}
use Rattle.ld_safety.proofs.Events.{NamesOnce, dispatch}
use Rattle.ld_safety.proofs.RegisterSteps.{draw_granted}
use Rattle.ld_safety.proofs.HoldSteps.{is_format, same_generation, handled_plain}
use Rattle.ld_safety.proofs.NodeCases.{NodeKeeps, node_cases}
use Rattle.ld_safety.proofs.LostNodes.{kept_from, loaded_from, released_from}
use Rattle.ld_machine.specs.Calm.{Move}

-- ---- ops of messages refill no more than entries ----
abbrev pub is_refilled : Op → Bool
is_refilled (ops.Refilled l) = true
is_refilled _ = false

taken_other : (o p : Op) (d : Decision) → is_refilled o ≡ false → taken o d ≡ Some p → is_refilled p ≡ false
taken_other o p Take h e = subst (λ x. is_refilled x ≡ false) (Some_inj e) h
taken_other o p (Lost end) h e = absurd cc
taken_other o p (CleanAlready y) h e = absurd cc
taken_other o p (Trimmed t) h e = absurd cc
taken_other o p (Sealed b) h e = absurd cc
taken_other o p Same h e = absurd cc

clean_other : (l e : ℕ) (y : Summary) (o : Option Summary) (p : Op) → clean_op l e y o ≡ Some p → is_refilled p ≡ false
clean_other l e y None p q = subst (λ x. is_refilled x ≡ false) (Some_inj q) refl
clean_other l e y (Some z) p q = absurd cc

refill_other : (l : ℕ) (es : List Entry) (p : Op) → refill_op l es ≡ Some p → is_refilled p ≡ false
refill_other l [] p q = absurd cc
refill_other l (e ∷ es) p q = subst (λ x. is_refilled x ≡ false) (Some_inj q) refl

if_other : (b : Bool) (o : Option Op) (p : Op) → (o ≡ Some p → is_refilled p ≡ false) → (if b then o else None) ≡ Some p → is_refilled p ≡ false
if_other true o p h q = h q
if_other false o p h q = absurd cc

page_other : (g : Log) (l : ℕ) (b : Body) (p : Op) → page_op g l b ≡ Some p → is_refilled p ≡ false
page_other g l (bodies.ReadPage round from upto clean es) p q = if_other clean (refill_op l (lacking g es)) p (refill_other l (lacking g es) p) q
page_other g l (bodies.ReadTrim round from t) p q = if_other (nat_lt g.trim t) (Some (ops.Trim l t)) p (λ e. subst (λ x. is_refilled x ≡ false) (Some_inj e) refl) q
page_other g l _ p q = absurd cc

on_page_other : (g : Log) (l : ℕ) (b : Body) (p : Op) → (on_page g l b).op ≡ Some p → is_refilled p ≡ false
unfolding on_page
on_page_other g l b p q = if_other g.lost (page_op g l b) p (page_other g l b p) q

pub handled_other : (self generation : ℕ) (g : Log) (l ballot released : ℕ) (b : Body) (p : Op) → (handled_by self generation g l ballot released b).op ≡ Some p → is_refilled p ≡ false
unfolding on_store on_digest_ask on_clean on_trim
handled_other self generation g l ballot released (bodies.Store n lng x) p q = taken_other (ops.Accept l lng (record { number = n; ballot = ballot; what = x })) p (store_decision g (record { number = n; ballot = ballot; what = x })) refl q
handled_other self generation g l ballot released (bodies.DigestAsk from) p q = taken_other (ops.Seal l ballot) p (digest_decision g ballot from) refl q
handled_other self generation g l ballot released (bodies.Clean e s) p q = clean_other l e s _ p q
handled_other self generation g l ballot released (bodies.Trim t) p q = if_other (nat_lt g.trim t) (Some (ops.Trim l t)) p (λ e. subst (λ x. is_refilled x ≡ false) (Some_inj e) refl) q
handled_other self generation g l ballot released (bodies.ReadAsk round from) p q = absurd cc
handled_other self generation g l ballot released (bodies.ReadOne round from set excluded) p q = absurd cc
handled_other self generation g l ballot released b p q = on_page_other g l b p q

-- ---- one log ----
abbrev pub LogUnserved : Log → ℕ → Type 0
LogUnserved g e = (is_lost g e ≡ true) ⊎ (is_some (summary_at g e) ≡ true)

clean_stays : (g : Log) (k e : ℕ) (y : Summary) → is_some (summary_at g e) ≡ true → is_some (summary_at (cleaned g k y) e) ≡ true
unfolding summary_at
clean_stays g k e y = by_zero (e == 0) where
  by_zero : (b : Bool) → is_some (if b then Some epoch_zero else find e g.summaries) ≡ true → is_some (if b then Some epoch_zero else find e (put k y g.summaries)) ≡ true
  by_zero true h = refl
  by_zero false h = elim (put_cases e k y g.summaries) [ inl a ↦ subst (λ o. is_some o ≡ true) (sym a.1) refl | inr a ↦ subst (λ o. is_some o ≡ true) (sym a.1) h ]

with_log_unserved : (p : Plain) (k : ℕ) (h : Log) (l e : ℕ) → (LogUnserved (log_of p k) e → LogUnserved h e) → LogUnserved (log_of p l) e → LogUnserved (log_of (with_log p k h) l) e
with_log_unserved p k h l e f u = elim (put_cases l k h p.logs) [
  | inl a ↦ subst (λ (o : Option Log). LogUnserved (unwrap_or o empty_log) e) (sym a.1) (f (subst (λ j. LogUnserved (log_of p j) e) a.0 u))
  | inr a ↦ subst (λ (o : Option Log). LogUnserved (unwrap_or o empty_log) e) (sym a.1) u
]

-- the epochs up to the lost one are clean
abbrev pub FullClean : Log → Type 0
FullClean g = (e : ℕ) → 0 < e → e ≤ g.lost_to → is_some (summary_at g e) ≡ true

refilled_unserved : (g : Log) (e : ℕ) → FullClean g → LogUnserved g e → LogUnserved (refilled g) e
unfolding summary_at
refilled_unserved g e f (inr h) = inr h
refilled_unserved g e f (inl h) = let p = and_parts g.lost (nat_lt 0 e && nat_le e g.lost_to) h in let q = and_parts (nat_lt 0 e) (nat_le e g.lost_to) p.1 in inr (f e (ltb-true _ _ q.0) (leb-true _ _ q.1))

log_op : (p : Plain) (o : Op) (l e : ℕ) → is_format o ≡ false → ((k : ℕ) → o ≡ ops.Refilled k → FullClean (log_of p k)) → LogUnserved (log_of p l) e → LogUnserved (log_of (apply p o) l) e
unfolding apply summary_at
log_op p (ops.Format g es) l e n f = absurd cc
log_op p (ops.Accept k lng x) l e n f = with_log_unserved p k _ l e (λ h. h)
log_op p (ops.Seal k b) l e n f = with_log_unserved p k _ l e (λ h. h)
log_op p (ops.Clean k epoch y) l e n f = with_log_unserved p k _ l e (λ h. elim h [ inl a ↦ inl a | inr a ↦ inr (clean_stays (log_of p k) epoch e y a) ])
log_op p (ops.Trim k t) l e n f = with_log_unserved p k _ l e (λ h. h)
log_op p (ops.Refill k es) l e n f = with_log_unserved p k _ l e (λ h. h)
log_op p (ops.Refilled k) l e n f = with_log_unserved p k _ l e (refilled_unserved (log_of p k) e (f k refl))

pub op_unserved : (p : Plain) (o : Op) (l e : ℕ) → is_format o ≡ false → ((k : ℕ) → o ≡ ops.Refilled k → FullClean (log_of p k)) → Unserved p l e → Unserved (apply p o) l e
op_unserved p o l e n f (inl h) = inl (same_generation p o n ∙ h)
op_unserved p o l e n f (inr h) = inr (log_op p o l e n f h)

-- ---- a format ----
lost_found : (l : ℕ) (es : List (ℕ × Epochs)) (x : Epochs) → find l es ≡ Some x → 0 < x.epoch → find l (lost_logs (epochs_in es)) ≡ Some (lost_log x.epoch)
unfolding find
lost_found l [] x h p = absurd (not_none h)
lost_found l (e ∷ es) x h p = by_key (is_at (nat_cmp l) e.0) refl (e.1.epoch == 0) refl h (lost_found l es x) where
  by_key : (b : Bool) → is_at (nat_cmp l) e.0 ≡ b → (z : Bool) → (e.1.epoch == 0) ≡ z → cond b (Some e.1) (find l es) ≡ Some x → (find l es ≡ Some x → 0 < x.epoch → find l (lost_logs (epochs_in es)) ≡ Some (lost_log x.epoch))
      → find l (lost_logs (cond z (epochs_in es) ((e.0, e.1.epoch) ∷ epochs_in es))) ≡ Some (lost_log x.epoch)
  by_key true q true u f ih = absurd (let v = eqb-true _ _ u in let y : e.1 ≡ x = Some_inj f in let w = ap (λ (k : Epochs). k.epoch) y in omega arith)
  by_key true q false u f ih = ap (λ b. cond b (Some (lost_log e.1.epoch)) (find l (lost_logs (epochs_in es)))) q ∙ ap (λ (k : Epochs). Some (lost_log k.epoch)) (Some_inj f)
  by_key false q true u f ih = ih f p
  by_key false q false u f ih = ap (λ b. cond b (Some (lost_log e.1.epoch)) (find l (lost_logs (epochs_in es)))) q ∙ ih f p

lost_is : (n e : ℕ) → 0 < e → e ≤ n → is_lost (lost_log n) e ≡ true
lost_is n e p q = and_from _ _ (lt-ltb 0 n (omega arith)) (and_from _ _ (lt-ltb 0 e p) (le-leb e n q))

pub format_lost : (k : Register) (g l e : ℕ) → 0 < e → e ≤ (epochs_of k l).epoch → is_lost (log_of (record { generation = g; logs = lost_logs (epochs_in k.logs) }) l) e ≡ true
format_lost k g l e a b = by_find (find l k.logs) refl where
  by_find : (o : Option Epochs) → find l k.logs ≡ o → is_lost (unwrap_or (find l (lost_logs (epochs_in k.logs))) empty_log) e ≡ true
  by_find None f = absurd (let z : (epochs_of k l).epoch ≡ 0 = ap (λ o. (unwrap_or o no_epochs).epoch) f in omega arith)
  by_find (Some x) f = let z : (epochs_of k l).epoch ≡ x.epoch = ap (λ o. (unwrap_or o no_epochs).epoch) f in ap (λ o. is_lost (unwrap_or o empty_log) e) (lost_found l k.logs x f (omega arith)) ∙ lost_is x.epoch e a (omega arith)

-- ---- a rebuild ----
gap_clean : (e k : ℕ) (ss : List (ℕ × Summary)) → e ≤ k → k < gap_from e ss → is_some (find k ss) ≡ true
unfolding find
gap_clean e k [] a b = absurd (omega arith)
gap_clean e k (s ∷ ss) a b = by_key (s.0 == e) refl b (gap_clean (e + 1) k ss) where
  by_key : (t : Bool) → (s.0 == e) ≡ t → k < (if t then gap_from (e + 1) ss else e) → (e + 1 ≤ k → k < gap_from (e + 1) ss → is_some (find k ss) ≡ true) → is_some (find k (s ∷ ss)) ≡ true
  by_key false q h ih = absurd (omega arith)
  by_key true q h ih = cond_both (is_at (nat_cmp k) s.0) (Some s.1) (find k ss) (λ o. is_some o ≡ true) (λ t. refl) (λ t. elim (cases_order k e) [
    | inl z ↦ absurd (let w = eqb-true s.0 e q in not_at t (z ∙ sym w))
    | inr (inl z) ↦ absurd (omega arith)
    | inr (inr z) ↦ ih (omega arith) h
  ]) where
    not_at : is_at (nat_cmp k) s.0 ≡ false → k ≡ s.0 → ⊥
    not_at t z = not_both (is_at (nat_cmp k) s.0) (tied k s.0 ∙ eq-eqb k s.0 z) t

full_log : (g : Log) → nat_lt g.lost_to (lowest_unclean g) ≡ true → FullClean g
unfolding summary_at
full_log g h e a b = cond_both (e == 0) (Some epoch_zero) (find e g.summaries) (λ o. is_some o ≡ true) (λ t. refl) (λ t. gap_clean 1 e g.summaries a (let z = ltb-true g.lost_to (lowest_unclean g) h in omega arith))

pub rebuilt_full : (g : Log) (closed : List (ℕ × Summary)) → on_tick g closed ≡ Rebuilt → FullClean g
unfolding on_tick
rebuilt_full g closed h = by_found (find (lowest_unclean g) closed) h where
  by_lost : (b : Bool) (ns : List ℕ) → refill_tick b ns ≡ Rebuilt → b ≡ true
  by_lost true [] z = refl
  by_lost false [] z = absurd cc
  by_lost b (x ∷ ns) z = absurd cc

  by_found : (o : Option Summary) → tick_with g o ≡ Rebuilt → FullClean g
  by_found (Some z) q = absurd cc
  by_found None q = full_log g (cond_both g.lost (refill_tick (nat_lt g.lost_to (lowest_unclean g)) (missing g)) Nothing (λ t. t ≡ Rebuilt → nat_lt g.lost_to (lowest_unclean g) ≡ true) (λ u v. by_lost _ _ v) (λ u v. absurd cc) q)

-- ---- one node over a step ----
abbrev pub AllUnserved : Node → ℕ → ℕ → Type 0
AllUnserved x l e = (p : Plain) → MayHold x p → Unserved p l e

kept_unserved : (x : Node) (o : Op) (l e : ℕ) → is_format o ≡ false → ((k : ℕ) → o ≡ ops.Refilled k → FullClean (log_of x.plain k)) → AllUnserved x l e → AllUnserved (keep_op x o) l e
kept_unserved x o l e n f h p q = elim (kept_from x o p q).from [ inl a ↦ h p a | inr a ↦ subst (λ z. Unserved z l e) (sym a) (op_unserved x.plain o l e n f (h x.plain (inl refl))) ]

pub not_refilled : (o : Op) (k : ℕ) → is_refilled o ≡ false → o ≡ ops.Refilled k → ⊥
not_refilled o k h q = let z : is_refilled (ops.Refilled k) ≡ false = subst (λ x. is_refilled x ≡ false) q h in cc

format_unserved : (x : Node) (r : Register) (k : Register) (n l e : ℕ) → draw r n ≡ record { register = k; answer = Granted } → 0 < e → e ≤ (epochs_of r l).epoch → AllUnserved x l e → AllUnserved (keep_op (load x) (ops.Format (generation_of k n) (epochs_in k.logs))) l e
unfolding apply
format_unserved x r k n l e d a b h p q = elim (kept_from (load x) (ops.Format (generation_of k n) (epochs_in k.logs)) p q).from [
  | inl z ↦ h p (loaded_from x p z)
  | inr z ↦ subst (λ y. Unserved y l e) (sym z) (inr (inl (format_lost k (generation_of k n) l e a (let u = ap (λ m. (unwrap_or (find l m) no_epochs).epoch) (draw_granted r n k d).0 in omega arith))))
]

blank_unserved : (l e : ℕ) → AllUnserved new_node l e
blank_unserved l e p (inl q) = inl (ap (λ (z : Plain). z.generation) q)
blank_unserved l e p (inr q) = absurd (not_none q.1)

unserved_keeps : (c : Config) (s : State) (v : Move) → NodeKeeps c s v (λ y x. (l e : ℕ) → 0 < e → e ≤ (epochs_of s.register l).epoch → AllUnserved (node_at s y) l e → AllUnserved x l e)
unserved_keeps c s v = record {
  all = λ y l e a b h. h;
  hears = λ n m i t u l e a b h p q. h p (released_from (node_at s n) m.log m.body p q);
  keeps = λ n m o i t u q l e a b h. kept_unserved (Step.releases (node_at s n) m.log m.body) o l e (handled_plain _ _ _ _ _ _ m.body o q) (λ k z. absurd (not_refilled o k (handled_other _ _ _ _ _ _ m.body o q) z)) (λ p z. h p (released_from (node_at s n) m.log m.body p z));
  loads = λ n l e a b h p q. h p (loaded_from (node_at s n) p q);
  formats = λ n r k w i l e a b h. format_unserved (node_at s n) s.register r n l e i a b h;
  cleans = λ n j k y u q l e a b h. kept_unserved (node_at s n) (ops.Clean j k y) l e refl (λ i z. absurd (not_refilled (ops.Clean j k y) i refl z)) h;
  rebuilds = λ n j u q l e a b h. kept_unserved (node_at s n) (ops.Refilled j) l e refl (λ k z. subst (λ i. FullClean (log_of (node_at s n).plain i)) (same_log z) (rebuilt_full (log_of (node_at s n).plain j) _ q)) h;
  stops = λ n l e a b h. h;
  wipes = λ n l e a b h. blank_unserved l e;
  faults = λ n f l e a b h. h;
} where
  same_log : {j k : ℕ} → ops.Refilled j ≡ ops.Refilled k → j ≡ k
  same_log z = cc

pub unserved_step : (c : Config) (w : World) (v : Move) → NamesOnce w.state → (y l e : ℕ) → 0 < e → e ≤ (epochs_of w.state.register l).epoch → AllUnserved (node_at w.state y) l e → AllUnserved (node_at (after_step c w v).state y) l e
unfolding finish
unserved_step c w v N y l e a b h = dispatch c w.state v (λ d m. (y : ℕ) → (l e : ℕ) → 0 < e → e ≤ (epochs_of w.state.register l).epoch → AllUnserved (node_at w.state y) l e → AllUnserved (node_at d.state y) l e) N
    (node_cases c w.state v (λ y x. (l e : ℕ) → 0 < e → e ≤ (epochs_of w.state.register l).epoch → AllUnserved (node_at w.state y) l e → AllUnserved x l e) (unserved_keeps c w.state v)) y l e a b h
