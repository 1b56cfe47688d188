-- Along a run each log of a node that isn't lost has the numbers of the clean epochs that were lost.
use Rattle.std.proofs.Common.{◌≡◌, ◌∙◌, ◌≤◌, ◌<◌, ℕ, zero, suc, ◌+◌, inl, inr, refl, sym, ap, subst, Bool, true, false, ◌==◌, nat_lt, cond, if◌then◌else◌, List, [], ◌∷◌, filter, Option, Some, None, is_some, arith}
use Rattle.std.specs.Option.{unwrap_or}
use Rattle.std.specs.Ordering.{nat_cmp}
use Rattle.std.specs.BTreeMap.{is_at}
use Rattle.ld_table.specs.Table.{find}
use Rattle.ld_table.proofs.Laws.{put_cases}
use Rattle.ld_ids.specs.Set.{members}
use Rattle.ld_lsn.specs.Number.{epoch_of}
use Rattle.ld_config.specs.declared.config.Config.{Config}
use Rattle.ld_msg.specs.declared.msg.Entry.{Entry}
use Rattle.ld_msg.specs.declared.msg.Summary.{Summary}
use Rattle.ld_msg.specs.declared.msg.Body.{Body}
use Rattle.ld_msg.specs.declared.msg.Body.TheVariants as bodies
use Rattle.ld_op.specs.declared.op.Op.{Op}
use Rattle.ld_op.specs.declared.op.Op.TheVariants as ops
use Rattle.ld_op.specs.Plain.{Plain, Log, log_of, empty_log, epoch_zero, summary_at, apply, with_log, lost_log, lost_logs}
use Rattle.ld_op.specs.Answers.{Decision, Lost, CleanAlready, Trimmed, Sealed, Same, Take, store_decision, digest_decision, taken, on_store, on_digest_ask, on_clean, clean_op, on_trim}
use Rattle.ld_op.specs.Handles.{handled_by}
use Rattle.ld_op.specs.Ticks.{Ticked, Cleans, Rebuilt, Asks, Nothing, on_tick, tick_with, lost_tick, refill_tick, lowest_unclean, gap_from, missing, is_missing, on_page, page_op, refill_op, as_closed, lacking}
use Rattle.ld_msg.specs.Register.{epochs_of, epochs_in, generation_of}
use Rattle.ld_machine.specs.Disk.{Node, new_node, keep_op, load}
use Rattle.ld_machine.specs.State.{State, new_nodes, finish, node_at}
use Rattle.ld_machine.specs.World.{World, MayHold}
use Rattle.ld_machine.specs.Run.{after_step}
use Rattle.ld_machine.specs.Step as Step
use Rattle.ld_safety.proofs.Lists.{Some_inj, not_none, cond_both, In-map}
use Rattle.ld_safety.proofs.Traces.{Keeps, beside_kept}
use Rattle.ld_safety.proofs.Base.{Base, base_kept}
use Rattle.ld_safety.proofs.Events.{NamesOnce, dispatch}
use Rattle.ld_safety.proofs.NodeSteps.{Served, store_decided, missing_clean}
use Rattle.ld_safety.proofs.Members.{In_filter}
use Rattle.ld_safety.proofs.NodeCases.{NodeKeeps, node_cases}
use Rattle.ld_safety.proofs.LostNodes.{kept_from, loaded_from, released_from}
use Rattle.ld_safety.proofs.LostUnserved.{FullClean, rebuilt_full}
use Rattle.ld_safety.proofs.LostFull.{FullLog, full_empty, full_lost, full_accept, full_seal, full_trim, full_clean, OfClean, full_refill, full_refilled, unclean_none}
use Rattle.ld_machine.specs.Calm.{Move}

-- ---- what an op needs ----
abbrev pub OpFits : Plain → Op → Type 0
OpFits p (ops.Format generation epochs) = Unit {0}
OpFits p (ops.Accept l lng e) = Served (log_of p l) (epoch_of e.number)
OpFits p (ops.Seal l b) = Unit {0}
OpFits p (ops.Clean l epoch y) = (0 < epoch) × (summary_at (log_of p l) epoch ≡ None)
OpFits p (ops.Trim l t) = Unit {0}
OpFits p (ops.Refill l es) = OfClean (log_of p l) es
OpFits p (ops.Refilled l) = FullClean (log_of p l) × (missing (log_of p l) ≡ [])

abbrev pub FullPlain : Plain → Type 0
FullPlain p = (l : ℕ) → FullLog (log_of p l)

with_full : (p : Plain) (l : ℕ) (g : Log) → FullPlain p → FullLog g → FullPlain (with_log p l g)
with_full p l g F h k = elim (put_cases k l g p.logs) [
  | inl a ↦ subst (λ (o : Option Log). FullLog (unwrap_or o empty_log)) (sym a.1) h
  | inr a ↦ subst (λ (o : Option Log). FullLog (unwrap_or o empty_log)) (sym a.1) (F k)
]

lost_full : (ds : List (ℕ × ℕ)) (l : ℕ) → FullLog (unwrap_or (find l (lost_logs ds)) empty_log)
unfolding find
lost_full [] l = full_empty
lost_full (d ∷ ds) l = full_or (is_at (nat_cmp l) d.0) (find l (lost_logs ds)) (lost_full ds l) where
  full_or : (b : Bool) (o : Option Log) → FullLog (unwrap_or o empty_log) → FullLog (unwrap_or (cond b (Some (lost_log d.1)) o) empty_log)
  full_or true o h = full_lost d.1
  full_or false o h = h

pub op_full : (p : Plain) (o : Op) → OpFits p o → FullPlain p → FullPlain (apply p o)
unfolding apply
op_full p (ops.Format generation epochs) h F = λ l. lost_full epochs l
op_full p (ops.Accept l lng e) h F = with_full p l _ F (full_accept (log_of p l) lng e h (F l))
op_full p (ops.Seal l b) h F = with_full p l _ F (full_seal (log_of p l) b (F l))
op_full p (ops.Clean l epoch y) h F = with_full p l _ F (full_clean (log_of p l) epoch y h.0 h.1 (F l))
op_full p (ops.Trim l t) h F = with_full p l _ F (full_trim (log_of p l) t (F l))
op_full p (ops.Refill l es) h F = with_full p l _ F (full_refill (log_of p l) es h (F l))
op_full p (ops.Refilled l) h F = with_full p l _ F (full_refilled (log_of p l) h.0 h.1 (F l))

-- ---- ops of messages ----
taken_fits : (p : Plain) (o q : Op) (d : Decision) → (d ≡ Take → OpFits p o) → taken o d ≡ Some q → OpFits p q
taken_fits p o q Take h e = subst (OpFits p) (Some_inj e) (h refl)
taken_fits p o q (Lost end) h e = absurd cc
taken_fits p o q (CleanAlready y) h e = absurd cc
taken_fits p o q (Trimmed t) h e = absurd cc
taken_fits p o q (Sealed b) h e = absurd cc
taken_fits p o q Same h e = absurd cc

served_take : (g : Log) (e : Entry) → store_decision g e ≡ Take → Served g (epoch_of e.number)
served_take g e = store_decided g e (λ d. d ≡ Take → Served g (epoch_of e.number)) (record { lost = λ t q. absurd cc; clean = λ y t k q. absurd cc; trimmed = λ v k q. absurd cc; sealed = λ v a k q. absurd cc; same = λ v a b k q. absurd cc; takes = λ v a b q. v })

clean_fits : (p : Plain) (l e : ℕ) (y : Summary) (o : Option Summary) (q : Op) → summary_at (log_of p l) e ≡ o → clean_op l e y o ≡ Some q → OpFits p q
unfolding summary_at
clean_fits p l e y None q h k = subst (OpFits p) (Some_inj k) (positive e h, h) where
  positive : (e : ℕ) → summary_at (log_of p l) e ≡ None → 0 < e
  positive zero z = absurd cc
  positive (suc n) z = omega arith
clean_fits p l e y (Some z) q h k = absurd cc

-- what is lacking is of clean epochs
lacking_clean : (g : Log) (es : List Entry) → OfClean g (lacking g es)
unfolding summary_at
lacking_clean g es e i =
    let m = In-map (as_closed g) e (filter (λ x. is_missing g x.number) es) i in
    let f = In_filter (λ (x : Entry). is_missing g x.number) m.0 es m.1 in
    let c = missing_clean g m.0.number f.1 in
    subst (λ k. is_some (if epoch_of k == 0 then Some epoch_zero else find (epoch_of k) g.summaries) ≡ true) (sym (ap (λ (x : Entry). x.number) m.2))
    (cond_both (epoch_of m.0.number == 0) (Some epoch_zero) (find (epoch_of m.0.number) g.summaries) (λ o. is_some o ≡ true) (λ t. refl) (λ t. ap is_some c.1))

refill_fits : (p : Plain) (l : ℕ) (es : List Entry) (q : Op) → OfClean (log_of p l) es → refill_op l es ≡ Some q → OpFits p q
refill_fits p l [] q c h = absurd cc
refill_fits p l (e ∷ es) q c h = subst (OpFits p) (Some_inj h) c

if_fits : (p : Plain) (b : Bool) (o : Option Op) (q : Op) → (o ≡ Some q → OpFits p q) → (if b then o else None) ≡ Some q → OpFits p q
if_fits p true o q h k = h k
if_fits p false o q h k = absurd cc

page_fits : (p : Plain) (l : ℕ) (b : Body) (q : Op) → page_op (log_of p l) l b ≡ Some q → OpFits p q
page_fits p l (bodies.ReadPage round from upto clean es) q h = if_fits p clean (refill_op l (lacking (log_of p l) es)) q (refill_fits p l (lacking (log_of p l) es) q (lacking_clean (log_of p l) es)) h
page_fits p l (bodies.ReadTrim round from t) q h = if_fits p (nat_lt (log_of p l).trim t) (Some (ops.Trim l t)) q (λ e. subst (OpFits p) (Some_inj e) tt) h
page_fits p l _ q h = absurd cc

on_page_fits : (p : Plain) (l : ℕ) (b : Body) (q : Op) → (on_page (log_of p l) l b).op ≡ Some q → OpFits p q
unfolding on_page
on_page_fits p l b q h = if_fits p (log_of p l).lost (page_op (log_of p l) l b) q (page_fits p l b q) h

handled_fits : (p : Plain) (self generation l ballot released : ℕ) (b : Body) (q : Op) → (handled_by self generation (log_of p l) l ballot released b).op ≡ Some q → OpFits p q
unfolding on_store on_digest_ask on_clean on_trim
handled_fits p self generation l ballot released (bodies.Store n lng x) q h = let e : Entry = record { number = n; ballot = ballot; what = x } in taken_fits p (ops.Accept l lng e) q (store_decision (log_of p l) e) (served_take (log_of p l) e) h
handled_fits p self generation l ballot released (bodies.DigestAsk from) q h = taken_fits p (ops.Seal l ballot) q (digest_decision (log_of p l) ballot from) (λ z. tt) h
handled_fits p self generation l ballot released (bodies.Clean e s) q h = clean_fits p l e s (summary_at (log_of p l) e) q refl h
handled_fits p self generation l ballot released (bodies.Trim t) q h = if_fits p (nat_lt (log_of p l).trim t) (Some (ops.Trim l t)) q (λ e. subst (OpFits p) (Some_inj e) tt) h
handled_fits p self generation l ballot released (bodies.ReadAsk round from) q h = absurd cc
handled_fits p self generation l ballot released (bodies.ReadOne round from set excluded) q h = absurd cc
handled_fits p self generation l ballot released b q h = on_page_fits p l b q h

-- ---- ops of ticks ----
lost_cases : (g : Log) (t : Ticked) → lost_tick g ≡ t → ((e : ℕ) (y : Summary) → t ≡ Cleans e y → ⊥) × (t ≡ Rebuilt → missing g ≡ [])
lost_cases g t h = cond_both g.lost (refill_tick (nat_lt g.lost_to (lowest_unclean g)) (missing g)) Nothing (λ v. v ≡ t → ((e : ℕ) (y : Summary) → t ≡ Cleans e y → ⊥) × (t ≡ Rebuilt → missing g ≡ [])) (λ u. by_missing (nat_lt g.lost_to (lowest_unclean g)) (missing g)) (λ u q. ((λ e y z. let v : Nothing ≡ Cleans e y = q ∙ z in cc), (λ z. absurd (let v : Nothing ≡ Rebuilt = q ∙ z in cc)))) h where
  by_missing : (b : Bool) (ns : List ℕ) → refill_tick b ns ≡ t → ((e : ℕ) (y : Summary) → t ≡ Cleans e y → ⊥) × (t ≡ Rebuilt → ns ≡ [])
  by_missing true [] q = ((λ e y z. let v : Rebuilt ≡ Cleans e y = q ∙ z in cc), (λ z. refl))
  by_missing false [] q = ((λ e y z. let v : Nothing ≡ Cleans e y = q ∙ z in cc), (λ z. refl))
  by_missing b (x ∷ ns) q = ((λ e y z. let v : Asks x ≡ Cleans e y = q ∙ z in cc), (λ z. absurd (let v : Asks x ≡ Rebuilt = q ∙ z in cc)))

ticked_clean : (g : Log) (closed : List (ℕ × Summary)) (e : ℕ) (y : Summary) → on_tick g closed ≡ Cleans e y → lowest_unclean g ≡ e
unfolding on_tick
ticked_clean g closed e y h = by_found (find (lowest_unclean g) closed) h where
  by_found : (o : Option Summary) → tick_with g o ≡ Cleans e y → lowest_unclean g ≡ e
  by_found None q = absurd ((lost_cases g (Cleans e y) q).0 e y refl)
  by_found (Some z) q = cc

ticked_full : (g : Log) (closed : List (ℕ × Summary)) → on_tick g closed ≡ Rebuilt → missing g ≡ []
unfolding on_tick
ticked_full g closed h = by_found (find (lowest_unclean g) closed) h where
  by_found : (o : Option Summary) → tick_with g o ≡ Rebuilt → missing g ≡ []
  by_found None q = (lost_cases g Rebuilt q).1 refl
  by_found (Some z) q = absurd cc

gap_positive : (ss : List (ℕ × Summary)) (e : ℕ) → e ≤ gap_from e ss
gap_positive [] e = omega arith
gap_positive (s ∷ ss) e = let z = gap_positive ss (e + 1) in cond_both (s.0 == e) (gap_from (e + 1) ss) e (λ v. e ≤ v) (λ t. omega arith) (λ t. omega arith)

-- ---- nodes ----
abbrev pub FullNode : Node → Type 0
FullNode x = (p : Plain) → MayHold x p → FullPlain p

kept_full : (x : Node) (o : Op) → OpFits x.plain o → FullNode x → FullNode (keep_op x o)
kept_full x o f h p q = elim (kept_from x o p q).from [ inl a ↦ h p a | inr a ↦ subst FullPlain (sym a) (op_full x.plain o f (h x.plain (inl refl))) ]

pub blank_full : FullNode new_node
unfolding find
blank_full p (inl q) = subst FullPlain (sym q) (λ l. full_empty)
blank_full p (inr q) = absurd (not_none q.1)

same_plain : (x : Node) (k : ℕ) (b : Body) → (Step.releases x k b).plain ≡ x.plain
same_plain x k (bodies.Release y) = refl
same_plain x k _ = refl

pub full_keeps : (c : Config) (s : State) (v : Move) → ((y : ℕ) → FullNode (node_at s y)) → NodeKeeps c s v (λ y x. FullNode x)
full_keeps c s v F = record {
  all = F;
  hears = λ n m i t u p q. F n p (released_from (node_at s n) m.log m.body p q);
  keeps = λ n m o i t u q. kept_full (Step.releases (node_at s n) m.log m.body) o (subst (λ z. OpFits z o) (sym (same_plain (node_at s n) m.log m.body)) (handled_fits (node_at s n).plain _ _ m.log _ _ m.body o q)) (λ p z. F n p (released_from (node_at s n) m.log m.body p z));
  loads = λ n p q. F n p (loaded_from (node_at s n) p q);
  formats = λ n r b w i. kept_full (load (node_at s n)) (ops.Format (generation_of r n) (epochs_in r.logs)) tt (λ p q. F n p (loaded_from (node_at s n) p q));
  cleans = λ n l k y u q. let g = log_of (node_at s n).plain l in let e = ticked_clean g (epochs_of s.register l).summaries k y q in let z = gap_positive g.summaries 1 in kept_full (node_at s n) (ops.Clean l k y) (omega arith, subst (λ j. summary_at g j ≡ None) e (unclean_none g (F n (node_at s n).plain (inl refl) l))) (F n);
  rebuilds = λ n l u q. let g = log_of (node_at s n).plain l in kept_full (node_at s n) (ops.Refilled l) (rebuilt_full g (epochs_of s.register l).summaries q, ticked_full g (epochs_of s.register l).summaries q) (F n);
  stops = λ n. F n;
  wipes = λ n. blank_full;
  faults = λ n f. F n;
}

abbrev pub AllFull : World → Type 0
AllFull w = (y : ℕ) → FullNode (node_at w.state y)

pub full_step : (c : Config) (w : World) (v : Move) → NamesOnce w.state → AllFull w → AllFull (after_step c w v)
unfolding finish
full_step c w v N F = dispatch c w.state v (λ d m. (y : ℕ) → FullNode (node_at d.state y)) N (node_cases c w.state v (λ y x. FullNode x) (full_keeps c w.state v F))

starts_full : (ns : List ℕ) (y : ℕ) → FullNode (unwrap_or (find y (new_nodes ns)) new_node)
unfolding find
starts_full [] y = blank_full
starts_full (n ∷ ns) y = start_or _ (find y (new_nodes ns)) (starts_full ns y) where
  start_or : (b : Bool) (o : Option Node) → FullNode (unwrap_or o new_node) → FullNode (unwrap_or (cond b (Some new_node) o) new_node)
  start_or true o i = blank_full
  start_or false o i = i

pub full_kept : (c : Config) → Keeps c (λ hs w. Base c hs w × AllFull w)
full_kept c = beside_kept c (Base c) (λ hs w. AllFull w) (base_kept c) (λ y. starts_full (members c.nodes) y) (λ hs w v B C F. full_step c w v B.0.0 F)
