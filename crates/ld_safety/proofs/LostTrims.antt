-- A node that told a sequencer that it is trimmed at a number is so for good, or fell for the number's epoch since: it is blank, or was formatted after the epoch was handed out.
use Rattle.std.proofs.Common.{◌≡◌, ◌∙◌, ◌⊎◌, ◌≤◌, ◌<◌, ℕ, inl, inr, refl, ap, sym, subst, false, List, Option, Some, None, arith}
use Rattle.std.specs.Option.{unwrap_or}
use Rattle.ld_table.specs.Table.{find}
use Rattle.ld_table.proofs.Laws.{put_cases}
use Rattle.ld_lsn.specs.Number.{epoch_of}
use Rattle.ld_config.specs.declared.config.Config.{Config}
use Rattle.ld_msg.specs.declared.msg.Msg.{Msg}
use Rattle.ld_msg.specs.declared.msg.Body.TheVariants as bodies
use Rattle.ld_op.specs.declared.op.Op.{Op}
use Rattle.ld_op.specs.declared.op.Op.TheVariants as ops
use Rattle.ld_op.specs.Plain.{Plain, Log, log_of, empty_log, apply, with_log}
use Rattle.ld_msg.specs.Register.{Register, no_epochs, epochs_of, epochs_in, draw, Granted, generation_of}
use Rattle.ld_machine.specs.Disk.{Node, keep_op, load}
use Rattle.ld_machine.specs.State.{State, finish, node_at}
use Rattle.ld_machine.specs.Facts.{Happened}
use Rattle.ld_machine.specs.World.{World, In, MayHold, from_node}
use Rattle.ld_machine.specs.Run.{after_step}
use Rattle.ld_machine.specs.Step as Step
use Rattle.ld_safety.proofs.Lists.{not_none}
use Rattle.ld_safety.proofs.Traces.{Keeps, beside_kept}
use Rattle.ld_safety.proofs.Steps.{sent_by}
use Rattle.ld_safety.proofs.Events.{NamesOnce, dispatch}
use Rattle.ld_safety.proofs.RegisterSteps.{draw_granted}
use Rattle.ld_safety.proofs.HoldSteps.{is_format, handled_plain}
use Rattle.ld_safety.proofs.NodeCases.{NodeKeeps, node_cases}
use Rattle.ld_safety.proofs.LostNodes.{kept_from, loaded_from, released_from}
use Rattle.ld_safety.proofs.LostUnserved.{format_lost}
use Rattle.ld_safety.proofs.Fallen.{Fallen, op_fallen, lost_fallen, blank_fallen}
use Rattle.ld_safety.proofs.GivenSteps.{BaseGiven}
use Rattle.ld_safety.proofs.Registers.{Reached}
use Rattle.ld_safety.proofs.Along.{Along}
use Rattle.ld_safety.proofs.AlongSteps.{along_kept, sends_now, same_sent}
use Rattle.ld_machine.specs.Calm as Calm
use Rattle.ld_machine.specs.Calm.{Move}

abbrev pub Trimmed : Plain → ℕ → ℕ → ℕ → Type 0
Trimmed p l e t = Fallen p l e ⊎ (t ≤ (log_of p l).trim)

abbrev AllTrimmed : Node → ℕ → ℕ → ℕ → Type 0
AllTrimmed x l e t = (p : Plain) → MayHold x p → Trimmed p l e t

-- ---- ops ----
with_log_trim : (p : Plain) (k : ℕ) (h : Log) (l : ℕ) → (log_of p k).trim ≤ h.trim → (log_of p l).trim ≤ (log_of (with_log p k h) l).trim
with_log_trim p k h l u = elim (put_cases l k h p.logs) [
  | inl a ↦ subst (λ (o : Option Log). (log_of p l).trim ≤ (unwrap_or o empty_log).trim) (sym a.1) (subst (λ j. (log_of p j).trim ≤ h.trim) (sym a.0) u)
  | inr a ↦ subst (λ (o : Option Log). (log_of p l).trim ≤ (unwrap_or o empty_log).trim) (sym a.1) (omega arith)
]

trim_up : (p : Plain) (o : Op) (l : ℕ) → is_format o ≡ false → (log_of p l).trim ≤ (log_of (apply p o) l).trim
unfolding apply
trim_up p (ops.Format g es) l n = absurd cc
trim_up p (ops.Accept k lng x) l n = with_log_trim p k _ l (omega arith)
trim_up p (ops.Seal k b) l n = with_log_trim p k _ l (omega arith)
trim_up p (ops.Clean k epoch y) l n = with_log_trim p k _ l (omega arith)
trim_up p (ops.Trim k t) l n = with_log_trim p k _ l (omega arith)
trim_up p (ops.Refill k es) l n = with_log_trim p k _ l (omega arith)
trim_up p (ops.Refilled k) l n = with_log_trim p k _ l (omega arith)

op_trimmed : (p : Plain) (o : Op) (l e t : ℕ) → is_format o ≡ false → Trimmed p l e t → Trimmed (apply p o) l e t
op_trimmed p o l e t n (inl h) = inl (op_fallen p o l e n h)
op_trimmed p o l e t n (inr h) = inr (let z = trim_up p o l n in omega arith)

-- ---- one node over a step ----
kept_trimmed : (x : Node) (o : Op) (l e t : ℕ) → is_format o ≡ false → AllTrimmed x l e t → AllTrimmed (keep_op x o) l e t
kept_trimmed x o l e t n h p q = elim (kept_from x o p q).from [ inl a ↦ h p a | inr a ↦ subst (λ z. Trimmed z l e t) (sym a) (op_trimmed x.plain o l e t n (h x.plain (inl refl))) ]

format_trimmed : (x : Node) (r : Register) (k : Register) (n l e t : ℕ) → draw r n ≡ record { register = k; answer = Granted } → 0 < e → e ≤ (epochs_of r l).epoch → AllTrimmed x l e t → AllTrimmed (keep_op (load x) (ops.Format (generation_of k n) (epochs_in k.logs))) l e t
unfolding apply
format_trimmed x r k n l e t d a b h p q = elim (kept_from (load x) (ops.Format (generation_of k n) (epochs_in k.logs)) p q).from [
  | inl z ↦ h p (loaded_from x p z)
  | inr z ↦ subst (λ y. Trimmed y l e t) (sym z) (inl (inr (lost_fallen (apply (load x).plain (ops.Format (generation_of k n) (epochs_in k.logs))) l e (format_lost k (generation_of k n) l e a (let u = ap (λ m. (unwrap_or (find l m) no_epochs).epoch) (draw_granted r n k d).0 in omega arith)))))
]

trims_keep : (c : Config) (s : State) (v : Move) → NodeKeeps c s v (λ y x. (l e t : ℕ) → 0 < e → e ≤ (epochs_of s.register l).epoch → AllTrimmed (node_at s y) l e t → AllTrimmed x l e t)
trims_keep c s v = record {
  all = λ y l e t a b h. h;
  hears = λ n m i z u l e t a b h p q. h p (released_from (node_at s n) m.log m.body p q);
  keeps = λ n m o i z u q l e t a b h. kept_trimmed (Step.releases (node_at s n) m.log m.body) o l e t (handled_plain _ _ _ _ _ _ m.body o q) (λ p k. h p (released_from (node_at s n) m.log m.body p k));
  loads = λ n l e t a b h p q. h p (loaded_from (node_at s n) p q);
  formats = λ n r k w i l e t a b h. format_trimmed (node_at s n) s.register r n l e t i a b h;
  cleans = λ n j k y u q l e t a b h. kept_trimmed (node_at s n) (ops.Clean j k y) l e t refl h;
  rebuilds = λ n j u q l e t a b h. kept_trimmed (node_at s n) (ops.Refilled j) l e t refl h;
  stops = λ n l e t a b h. h;
  wipes = λ n l e t a b h p q. inl (blank_fallen l e p q);
  faults = λ n f l e t a b h. h;
}

trimmed_step : (c : Config) (w : World) (v : Move) → NamesOnce w.state → (y l e t : ℕ) → 0 < e → e ≤ (epochs_of w.state.register l).epoch → AllTrimmed (node_at w.state y) l e t → AllTrimmed (node_at (after_step c w v).state y) l e t
unfolding finish
trimmed_step c w v N = dispatch c w.state v (λ d m. (y : ℕ) → (l e t : ℕ) → 0 < e → e ≤ (epochs_of w.state.register l).epoch → AllTrimmed (node_at w.state y) l e t → AllTrimmed (node_at d.state y) l e t) N
    (node_cases c w.state v (λ y x. (l e t : ℕ) → 0 < e → e ≤ (epochs_of w.state.register l).epoch → AllTrimmed (node_at w.state y) l e t → AllTrimmed x l e t) (trims_keep c w.state v))

-- ---- along a run ----
abbrev pub TrimsTold : World → Type 0
TrimsTold w = (l y b s t : ℕ) → In (from_node l y b (bodies.TrimmedHere s t)) w.state.network.sent → (p : Plain) → MayHold (node_at w.state y) p → Trimmed p l (epoch_of s) t

told_step : (c : Config) (hs : List Happened) (w : World) (v : Move) → BaseGiven c hs w × Along c hs w → TrimsTold w → TrimsTold (after_step c w v)
unfolding finish
told_step c hs w v B T l y b s t i p q = elim (sent_by (Calm.moves c w.state v) _ i) [
  | inl a ↦
      let j = subst (λ (z : List Msg). In (from_node l y b (bodies.TrimmedHere s t)) z) (same_sent c hs w v B.0.0 B.0.1 B.1) a in
      let o : Reached w.state.register l (epoch_of s) = (B.1.said.sent _ j).0.1 in
      trimmed_step c w v B.0.0.0.0 y l (epoch_of s) t o.0 o.1 (T l y b s t j) p q
  | inr a ↦ let z = (sends_now c hs w v B.0.0 B.0.1 B.1).trimmed l y s t b a in inr (subst (λ (k : Plain). t ≤ (log_of k l).trim) (sym (one_state z.0.whole q)) z.1)
] where
  one_state : (node_at (Calm.moves c w.state v).state y).cut ≡ None → MayHold (node_at (Calm.moves c w.state v).state y) p → p ≡ (node_at (Calm.moves c w.state v).state y).plain
  one_state n (inl k) = k
  one_state n (inr k) = absurd (let z : None ≡ Some k.0 = sym n ∙ k.1 in not_none z)

pub trims_kept : (c : Config) → Keeps c (λ hs w. (BaseGiven c hs w × Along c hs w) × TrimsTold w)
trims_kept c = beside_kept c (λ hs w. BaseGiven c hs w × Along c hs w) (λ hs w. TrimsTold w) (along_kept c) (λ l y b s t i. absurd i) (λ hs w v B C T. told_step c hs w v B T)
