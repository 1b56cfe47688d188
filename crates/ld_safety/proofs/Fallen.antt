-- A node that is blank, or was lost for an epoch as it was formatted, has no entry of the epoch but refilled ones, for good.
use Rattle.std.proofs.Common.{◌≡◌, ◌∙◌, ◌⊎◌, ◌≤◌, ◌<◌, ℕ, inl, inr, refl, ap, sym, subst, true, false, ◌&&◌, ◌==◌, nat_lt, nat_le, Option, Some, None, is_some, arith}
use Rattle.std.specs.Option.{unwrap_or}
use Rattle.std.proofs.lemmas.Bool.{cases_Bool, and_parts, and_from, or_cases, eqb-true, leb-true, lt-ltb, le-leb}
use Rattle.ld_table.specs.Table.{find}
use Rattle.ld_table.proofs.Laws.{put_cases}
use Rattle.ld_lsn.specs.Number.{epoch_of}
use Rattle.ld_config.specs.declared.config.Config.{Config}
use Rattle.ld_msg.specs.declared.msg.Entry.{Entry}
use Rattle.ld_op.specs.declared.op.Op.{Op}
use Rattle.ld_op.specs.declared.op.Op.TheVariants as ops
use Rattle.ld_op.specs.Plain.{Plain, Log, log_of, empty_log, is_lost, summary_at, apply, with_log}
use Rattle.ld_msg.specs.Register.{Register, no_epochs, epochs_of, epochs_in, draw, Granted, generation_of}
use Rattle.ld_machine.specs.Disk.{Node, new_node, keep_op, load}
use Rattle.ld_machine.specs.State.{State, finish, node_at}
use Rattle.ld_machine.specs.World.{World, MayHold, is_gone, is_cut_gone}
use Rattle.ld_machine.specs.Run.{after_step}
use Rattle.ld_machine.specs.Step as Step
use Rattle.ld_safety.proofs.Lists.{not_none, not_both}
use Rattle.ld_safety.proofs.Events.{NamesOnce, dispatch}
use Rattle.ld_safety.proofs.RegisterSteps.{draw_granted}
use Rattle.ld_safety.proofs.HoldSteps.{is_format, same_generation, handled_plain}
use Rattle.ld_safety.proofs.NodeCases.{NodeKeeps, node_cases}
use Rattle.ld_safety.proofs.LostNodes.{kept_from, loaded_from, released_from}
use Rattle.ld_safety.proofs.LostUnserved.{format_lost}
use Rattle.ld_safety.proofs.LostFull.{FullLog}
use Rattle.ld_machine.specs.Calm.{Move}

-- blank, or lost up to the epoch since its format
abbrev pub Fallen : Plain → ℕ → ℕ → Type 0
Fallen p l e = (p.generation ≡ 0) ⊎ (e ≤ (log_of p l).lost_to)

abbrev pub AllFallen : Node → ℕ → ℕ → Type 0
AllFallen x l e = (p : Plain) → MayHold x p → Fallen p l e

pub lost_fallen : (p : Plain) (l e : ℕ) → is_lost (log_of p l) e ≡ true → e ≤ (log_of p l).lost_to
lost_fallen p l e h = let a = and_parts (log_of p l).lost (nat_lt 0 e && nat_le e (log_of p l).lost_to) h in leb-true e (log_of p l).lost_to (and_parts (nat_lt 0 e) (nat_le e (log_of p l).lost_to) a.1).1

gone_one : (p : Plain) (l e : ℕ) → is_gone l e p ≡ true → Fallen p l e
gone_one p l e h = elim (or_cases (p.generation == 0) (is_lost (log_of p l) e) h) [ inl a ↦ inl (eqb-true p.generation 0 a) | inr a ↦ inr (lost_fallen p l e a) ]

pub gone_fallen : (x : Node) (l e : ℕ) → (is_gone l e x.plain && is_cut_gone l e x.cut) ≡ true → AllFallen x l e
gone_fallen x l e h p (inl q) = let a = and_parts (is_gone l e x.plain) (is_cut_gone l e x.cut) h in gone_one p l e (subst (λ z. is_gone l e z ≡ true) (sym q) a.0)
gone_fallen x l e h p (inr k) = let a = and_parts (is_gone l e x.plain) (is_cut_gone l e x.cut) h in
    gone_one p l e (subst (λ z. is_gone l e z ≡ true) (sym k.2) (subst (λ o. is_cut_gone l e o ≡ true) k.1 a.1))

-- a log that was lost up to the epoch and isn't any more is lost for nothing
pub lost_no_more : (g : Log) (e : ℕ) → 0 < e → e ≤ g.lost_to → is_lost g e ≡ false → g.lost ≡ false
lost_no_more g e p le u = elim (cases_Bool g.lost) [
  | inl t ↦ absurd (not_both (is_lost g e) (and_from g.lost (nat_lt 0 e && nat_le e g.lost_to) t (and_from (nat_lt 0 e) (nat_le e g.lost_to) (lt-ltb 0 e p) (le-leb e g.lost_to le))) u)
  | inr t ↦ t
]

-- ---- ops ----
with_log_fallen : (p : Plain) (k : ℕ) (h : Log) (l e : ℕ) → h.lost_to ≡ (log_of p k).lost_to → e ≤ (log_of p l).lost_to → e ≤ (log_of (with_log p k h) l).lost_to
with_log_fallen p k h l e q u = elim (put_cases l k h p.logs) [
  | inl a ↦ subst (λ (o : Option Log). e ≤ (unwrap_or o empty_log).lost_to) (sym a.1) (subst (λ z. e ≤ z) (sym q) (subst (λ j. e ≤ (log_of p j).lost_to) a.0 u))
  | inr a ↦ subst (λ (o : Option Log). e ≤ (unwrap_or o empty_log).lost_to) (sym a.1) u
]

log_op : (p : Plain) (o : Op) (l e : ℕ) → is_format o ≡ false → e ≤ (log_of p l).lost_to → e ≤ (log_of (apply p o) l).lost_to
unfolding apply
log_op p (ops.Format g es) l e n = absurd cc
log_op p (ops.Accept k lng x) l e n = with_log_fallen p k _ l e refl
log_op p (ops.Seal k b) l e n = with_log_fallen p k _ l e refl
log_op p (ops.Clean k epoch y) l e n = with_log_fallen p k _ l e refl
log_op p (ops.Trim k t) l e n = with_log_fallen p k _ l e refl
log_op p (ops.Refill k es) l e n = with_log_fallen p k _ l e refl
log_op p (ops.Refilled k) l e n = with_log_fallen p k _ l e refl

pub op_fallen : (p : Plain) (o : Op) (l e : ℕ) → is_format o ≡ false → Fallen p l e → Fallen (apply p o) l e
op_fallen p o l e n (inl h) = inl (same_generation p o n ∙ h)
op_fallen p o l e n (inr h) = inr (log_op p o l e n h)

-- ---- one node over a step ----
kept_fallen : (x : Node) (o : Op) (l e : ℕ) → is_format o ≡ false → AllFallen x l e → AllFallen (keep_op x o) l e
kept_fallen x o l e n h p q = elim (kept_from x o p q).from [ inl a ↦ h p a | inr a ↦ subst (λ z. Fallen z l e) (sym a) (op_fallen x.plain o l e n (h x.plain (inl refl))) ]

format_fallen : (x : Node) (r : Register) (k : Register) (n l e : ℕ) → draw r n ≡ record { register = k; answer = Granted } → 0 < e → e ≤ (epochs_of r l).epoch → AllFallen x l e → AllFallen (keep_op (load x) (ops.Format (generation_of k n) (epochs_in k.logs))) l e
unfolding apply
format_fallen x r k n l e d a b h p q = elim (kept_from (load x) (ops.Format (generation_of k n) (epochs_in k.logs)) p q).from [
  | inl z ↦ h p (loaded_from x p z)
  | inr z ↦ subst (λ y. Fallen y l e) (sym z) (inr (lost_fallen (apply (load x).plain (ops.Format (generation_of k n) (epochs_in k.logs))) l e (format_lost k (generation_of k n) l e a (let u = ap (λ m. (unwrap_or (find l m) no_epochs).epoch) (draw_granted r n k d).0 in omega arith))))
]

pub blank_fallen : (l e : ℕ) → AllFallen new_node l e
blank_fallen l e p (inl q) = inl (ap (λ (z : Plain). z.generation) q)
blank_fallen l e p (inr q) = absurd (not_none q.1)

fallen_keeps : (c : Config) (s : State) (v : Move) → NodeKeeps c s v (λ y x. (l e : ℕ) → 0 < e → e ≤ (epochs_of s.register l).epoch → AllFallen (node_at s y) l e → AllFallen x l e)
fallen_keeps c s v = record {
  all = λ y l e a b h. h;
  hears = λ n m i t u l e a b h p q. h p (released_from (node_at s n) m.log m.body p q);
  keeps = λ n m o i t u q l e a b h. kept_fallen (Step.releases (node_at s n) m.log m.body) o l e (handled_plain _ _ _ _ _ _ m.body o q) (λ p z. h p (released_from (node_at s n) m.log m.body p z));
  loads = λ n l e a b h p q. h p (loaded_from (node_at s n) p q);
  formats = λ n r k w i l e a b h. format_fallen (node_at s n) s.register r n l e i a b h;
  cleans = λ n j k y u q l e a b h. kept_fallen (node_at s n) (ops.Clean j k y) l e refl h;
  rebuilds = λ n j u q l e a b h. kept_fallen (node_at s n) (ops.Refilled j) l e refl h;
  stops = λ n l e a b h. h;
  wipes = λ n l e a b h. blank_fallen l e;
  faults = λ n f l e a b h. h;
}

pub fallen_step : (c : Config) (w : World) (v : Move) → NamesOnce w.state → (y l e : ℕ) → 0 < e → e ≤ (epochs_of w.state.register l).epoch → AllFallen (node_at w.state y) l e → AllFallen (node_at (after_step c w v).state y) l e
unfolding finish
fallen_step c w v N y l e a b h = dispatch c w.state v (λ d m. (y : ℕ) → (l e : ℕ) → 0 < e → e ≤ (epochs_of w.state.register l).epoch → AllFallen (node_at w.state y) l e → AllFallen (node_at d.state y) l e) N
    (node_cases c w.state v (λ y x. (l e : ℕ) → 0 < e → e ≤ (epochs_of w.state.register l).epoch → AllFallen (node_at w.state y) l e → AllFallen x l e) (fallen_keeps c w.state v)) y l e a b h

-- ---- what stands at such a node ----

-- nothing is there before the format
abbrev pub EmptyBlank : Plain → Type 0
EmptyBlank p = p.generation ≡ 0 → (l n : ℕ) → find n (log_of p l).entries ≡ None

-- an entry of an epoch that isn't clean there is of a node that never fell for it
pub not_fallen : (p : Plain) (l n : ℕ) (x : Entry) → EmptyBlank p → FullLog (log_of p l) → find n (log_of p l).entries ≡ Some x → 0 < epoch_of n → is_some (summary_at (log_of p l) (epoch_of n)) ≡ false → Fallen p l (epoch_of n) → ⊥
not_fallen p l n x E F f pos u (inl z) = let q : None ≡ Some x = sym (E z l n) ∙ f in not_none q
not_fallen p l n x E F f pos u (inr z) = not_both _ (F.refilled_clean n x f pos z) u
