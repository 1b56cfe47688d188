-- A node that is lost for a log under a generation has been so since its format: no step makes it lost under a generation that was there before.
use Rattle.std.proofs.Common.{◌≡◌, ◌∙◌, ◌⊎◌, ◌≤◌, ℕ, ◌+◌, inl, inr, refl, ap, sym, subst, true, false, Option, Some, None, arith}
use Rattle.std.specs.Option.{unwrap_or}
use Rattle.ld_table.specs.Table.{find}
use Rattle.ld_table.proofs.Laws.{put_cases, find-put_same}
use Rattle.ld_config.specs.declared.config.Config.{Config}
use Rattle.ld_schedule.specs.declared.event.Picture.{Picture}
use Rattle.ld_msg.specs.declared.msg.Body.{Body}
use Rattle.ld_msg.specs.declared.msg.Body.TheVariants as bodies
use Rattle.ld_op.specs.declared.op.Op.{Op}
use Rattle.ld_op.specs.declared.op.Op.TheVariants as ops
use Rattle.ld_op.specs.Plain.{Plain, Log, log_of, empty_log, is_lost, apply, with_log, unformatted}
use Rattle.ld_msg.specs.Register.{Register, Granted, draw, generation_of, epochs_in}
use Rattle.ld_machine.specs.Disk.{Node, Cut, Fate, Made, FailsAt, CrashesAt, fate, new_node, keep_op, kept_by, is_full_for, load, loaded_by, found, is_found, seen_too, Failed, op_calls}
use Rattle.ld_machine.specs.State.{State, node_at}
use Rattle.ld_machine.specs.World.{MayHold}
use Rattle.ld_machine.specs.Step as Step
use Rattle.ld_safety.proofs.Lists.{Some_inj, not_none, cond_both}
use Rattle.ld_safety.proofs.RegisterSteps.{draw_granted}
use Rattle.ld_safety.proofs.HoldSteps.{is_format, same_generation, handled_plain}
use Rattle.ld_safety.proofs.NodeCases.{NodeKeeps}
use Rattle.ld_machine.specs.Calm.{Move}

-- one plain state that a load may find is lost for the epoch of the log, under the generation
pub record LostIn (x : Node) (l e g : ℕ) : Type 0 where
  pub plain : Plain
  pub held : MayHold x plain
  pub generation : plain.generation ≡ g
  pub lost : is_lost (log_of plain l) e ≡ true

-- ---- ops ----
with_log_lost : (p : Plain) (k : ℕ) (h : Log) (l e : ℕ) → (is_lost h e ≡ true → is_lost (log_of p k) e ≡ true) → is_lost (log_of (with_log p k h) l) e ≡ true → is_lost (log_of p l) e ≡ true
with_log_lost p k h l e f = elim (put_cases l k h p.logs) [
  | inl a ↦ λ t. subst (λ j. is_lost (log_of p j) e ≡ true) (sym a.0) (f (subst (λ (o : Option Log). is_lost (unwrap_or o empty_log) e ≡ true) a.1 t))
  | inr a ↦ λ t. subst (λ (o : Option Log). is_lost (unwrap_or o empty_log) e ≡ true) a.1 t
]

-- no op but a format makes a node lost
pub lost_before : (p : Plain) (o : Op) (l e : ℕ) → is_format o ≡ false → is_lost (log_of (apply p o) l) e ≡ true → is_lost (log_of p l) e ≡ true
unfolding apply
lost_before p (ops.Format g es) l e h = absurd cc
lost_before p (ops.Accept k lng x) l e h = with_log_lost p k _ l e (λ t. t)
lost_before p (ops.Seal k b) l e h = with_log_lost p k _ l e (λ t. t)
lost_before p (ops.Clean k epoch y) l e h = with_log_lost p k _ l e (λ t. t)
lost_before p (ops.Trim k t) l e h = with_log_lost p k _ l e (λ t. t)
lost_before p (ops.Refill k es) l e h = with_log_lost p k _ l e (λ t. t)
lost_before p (ops.Refilled k) l e h = with_log_lost p k _ l e (λ t. absurd cc)

-- ---- records and loads ----

-- what a kept op leaves is the state before it, or the one after it
pub record KeptFrom (x : Node) (o : Op) (p : Plain) : Type 0 where
  pub from : MayHold x p ⊎ (p ≡ apply x.plain o)

kept_by_from : (x : Node) (o : Op) (f : Fate) (p : Plain) → MayHold (kept_by x o f) p → KeptFrom x o p
kept_by_from x o Made p (inl q) = record { from = inr q }
kept_by_from x o Made p (inr q) = record { from = inl (inr q) }
kept_by_from x o (FailsAt k) p (inl q) = record { from = inl (inl q) }
kept_by_from x o (FailsAt k) p (inr q) = record { from = inr (q.2 ∙ sym (ap (λ (z : Cut). z.plain) (Some_inj q.1))) }
kept_by_from x o (CrashesAt k v) p (inl q) = record { from = inl (inl q) }
kept_by_from x o (CrashesAt k v) p (inr q) = record { from = inr (q.2 ∙ sym (ap (λ (z : Cut). z.plain) (Some_inj q.1))) }

pub kept_from : (x : Node) (o : Op) (p : Plain) → MayHold (keep_op x o) p → KeptFrom x o p
unfolding keep_op
kept_from x o p = cond_both (is_full_for x o) (record x { status = Failed }) (kept_by x o (fate (op_calls x o) x.fault)) (λ z. MayHold z p → KeptFrom x o p) (λ t h. record { from = inl h }) (λ t h. kept_by_from x o (fate (op_calls x o) x.fault) p h)

found_from : (x : Node) (p : Plain) (k : Option Cut) → x.cut ≡ k → p ≡ found x k → MayHold x p
found_from x p None e q = inl q
found_from x p (Some k) e q = cond_both (is_found k) k.plain x.plain (λ z. p ≡ z → MayHold x p) (λ t h. inr (k, e, h)) (λ t h. inl h) q

seen_from : (x : Node) (v : Picture) (p : Plain) (o : Option Cut) (k : Cut) → x.cut ≡ o → seen_too v o ≡ Some k → p ≡ k.plain → MayHold x p
seen_from x v p None k e h q = absurd cc
seen_from x v p (Some j) k e h q = inr (j, e, q ∙ sym (ap (λ (z : Cut). z.plain) (Some_inj h)))

loaded_by_from : (x : Node) (f : Fate) (p : Plain) → MayHold (loaded_by x f) p → MayHold x p
loaded_by_from x Made p (inl q) = found_from x p x.cut refl q
loaded_by_from x Made p (inr q) = absurd (not_none q.1)
loaded_by_from x (FailsAt k) p (inl q) = inl q
loaded_by_from x (FailsAt k) p (inr q) = inr q
loaded_by_from x (CrashesAt k v) p (inl q) = inl q
loaded_by_from x (CrashesAt k v) p (inr q) = seen_from x v p x.cut q.0 refl q.1 q.2

-- a load finds a state that it might find
pub loaded_from : (x : Node) (p : Plain) → MayHold (load x) p → MayHold x p
unfolding load
loaded_from x p h = loaded_by_from x (fate 1 x.fault) p h

pub released_from : (x : Node) (k : ℕ) (b : Body) (p : Plain) → MayHold (Step.releases x k b) p → MayHold x p
released_from x k (bodies.Release y) p h = h
released_from x k _ p h = h

-- ---- one node over a step ----
kept_lost : (x : Node) (o : Op) (l e g : ℕ) → is_format o ≡ false → LostIn (keep_op x o) l e g → LostIn x l e g
kept_lost x o l e g n h = elim (kept_from x o h.plain h.held).from [
  | inl a ↦ record { plain = h.plain; held = a; generation = h.generation; lost = h.lost }
  | inr a ↦ record {
    plain = x.plain;
    held = inl refl;
    generation = sym (same_generation x.plain o n) ∙ (ap (λ (p : Plain). p.generation) (sym a) ∙ h.generation);
    lost = lost_before x.plain o l e n (subst (λ p. is_lost (log_of p l) e ≡ true) a h.lost);
  }
]

released_lost : (x : Node) (k : ℕ) (b : Body) (l e g : ℕ) → LostIn (Step.releases x k b) l e g → LostIn x l e g
released_lost x k b l e g h = record { plain = h.plain; held = released_from x k b h.plain h.held; generation = h.generation; lost = h.lost }

loaded_lost : (x : Node) (l e g : ℕ) → LostIn (load x) l e g → LostIn x l e g
loaded_lost x l e g h = record { plain = h.plain; held = loaded_from x h.plain h.held; generation = h.generation; lost = h.lost }

-- a format's generation is above all that were drawn for the node
pub drawn_above : (r : Register) (n : ℕ) (k : Register) → draw r n ≡ record { register = k; answer = Granted } → generation_of k n ≡ generation_of r n + 1
drawn_above r n k h = let d = draw_granted r n k h in ap (λ m. unwrap_or (find n m) 0) d.1 ∙ ap (λ o. unwrap_or o 0) (find-put_same n n (generation_of r n + 1) r.generations refl)

formatted_lost : (x : Node) (r k : Register) (n l e g : ℕ) → draw r n ≡ record { register = k; answer = Granted } → g ≤ generation_of r n → LostIn (keep_op (load x) (ops.Format (generation_of k n) (epochs_in k.logs))) l e g → LostIn x l e g
unfolding apply
formatted_lost x r k n l e g i b h = elim (kept_from (load x) (ops.Format (generation_of k n) (epochs_in k.logs)) h.plain h.held).from [
  | inl a ↦ loaded_lost x l e g (record { plain = h.plain; held = a; generation = h.generation; lost = h.lost })
  | inr a ↦ absurd (let z = drawn_above r n k i in let y = h.generation in let v : h.plain.generation ≡ generation_of k n = ap (λ (p : Plain). p.generation) a in omega arith)
]

no_lost : (l e g : ℕ) → LostIn new_node l e g → ⊥
unfolding find
no_lost l e g h = elim h.held [
  | inl q ↦ (let z : is_lost (log_of unformatted l) e ≡ true = subst (λ p. is_lost (log_of p l) e ≡ true) q h.lost in absurd cc)
  | inr q ↦ not_none q.1
]

-- whoever is lost after a step, under a generation drawn before it, was so before the step
pub lost_keeps : (c : Config) (s : State) (v : Move) → NodeKeeps c s v (λ y x. (l e g : ℕ) → g ≤ generation_of s.register y → LostIn x l e g → LostIn (node_at s y) l e g)
lost_keeps c s v = record {
  all = λ y l e g b h. h;
  hears = λ n m i t u l e g b h. released_lost (node_at s n) m.log m.body l e g h;
  keeps = λ n m o i t u q l e g b h. released_lost (node_at s n) m.log m.body l e g (kept_lost (Step.releases (node_at s n) m.log m.body) o l e g (handled_plain _ _ _ _ _ _ m.body o q) h);
  loads = λ n l e g b h. loaded_lost (node_at s n) l e g h;
  formats = λ n r k w i l e g b h. formatted_lost (node_at s n) s.register r n l e g i b h;
  cleans = λ n j k y u h l e g b z. kept_lost (node_at s n) (ops.Clean j k y) l e g refl z;
  rebuilds = λ n j u h l e g b z. kept_lost (node_at s n) (ops.Refilled j) l e g refl z;
  stops = λ n l e g b h. record { plain = h.plain; held = h.held; generation = h.generation; lost = h.lost };
  wipes = λ n l e g b h. absurd (no_lost l e g h);
  faults = λ n f l e g b h. record { plain = h.plain; held = h.held; generation = h.generation; lost = h.lost };
}
