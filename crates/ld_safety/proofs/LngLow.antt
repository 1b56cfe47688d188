-- The last known good offset that a node was told of an epoch: after a page of it to a ballot it stays at the page's or below, or at that of a plan of that ballot or a greater one or below, while the epoch is served: op by op.
use Rattle.std.proofs.Common.{◌≡◌, ◌⊎◌, ◌≤◌, ◌<◌, ℕ, inl, inr, refl, ap, sym, subst, Bool, true, false, cond, nat_lt, eqb, List, [], ◌∷◌, Option, Some, None, arith}
use Rattle.std.specs.Option.{unwrap_or}
use Rattle.std.specs.Ordering.{nat_cmp}
use Rattle.std.specs.BTreeMap.{is_at}
use Rattle.ld_table.specs.Table.{find, put, take_out}
use Rattle.ld_table.proofs.Laws.{put_cases, find-take_out}
use Rattle.ld_lsn.specs.Number.{epoch_of}
use Rattle.ld_msg.specs.declared.msg.Entry.{Entry}
use Rattle.ld_msg.specs.declared.msg.Msg.{Msg}
use Rattle.ld_msg.specs.declared.msg.Body.TheVariants as bodies
use Rattle.ld_msg.specs.Digest.{Told, digest_lng}
use Rattle.ld_op.specs.declared.op.Op.{Op}
use Rattle.ld_op.specs.declared.op.Op.TheVariants as ops
use Rattle.ld_op.specs.Plain.{Plain, Log, log_of, empty_log, with_log, lost_logs, lost_log, apply, lng_in, lng_at, raised_lng}
use Rattle.ld_machine.specs.World.{Made, In, Unserved, from_node}
use Rattle.ld_safety.proofs.Lists.{cond_both}
use Rattle.ld_safety.proofs.HoldSteps.{is_format}
use Rattle.ld_safety.proofs.Protocol.{Basis, plan_of}
use Rattle.ld_safety.proofs.LostUnserved.{FullClean, op_unserved}

-- ---- what an op makes of a last known good place ----
raised_cases : (k lng e : ℕ) (m : List (ℕ × ℕ)) → (lng_in (raised_lng k lng m) e ≤ lng_in m e) ⊎ ((k ≡ e) × (lng_in (raised_lng k lng m) e ≤ lng))
raised_cases k lng e m = cond_both (nat_lt (lng_in m k) lng) (put k lng m) m (λ x. (lng_in x e ≤ lng_in m e) ⊎ ((k ≡ e) × (lng_in x e ≤ lng)))
    (λ t. elim (put_cases e k lng m) [
      | inl a ↦ inr (sym a.0, let z : lng_in (put k lng m) e ≡ lng = ap (λ (o : Option ℕ). unwrap_or o 0) a.1 in omega arith)
      | inr a ↦ inl (let z : lng_in (put k lng m) e ≡ lng_in m e = ap (λ (o : Option ℕ). unwrap_or o 0) a.1 in omega arith)
    ])
    (λ t. inl (omega arith))

taken_out : (k e : ℕ) (m : List (ℕ × ℕ)) → lng_in (take_out k m) e ≤ lng_in m e
taken_out k e m = subst (λ (o : Option ℕ). unwrap_or o 0 ≤ lng_in m e) (sym (find-take_out e k m)) (cond_both (eqb e k) None (find e m) (λ (o : Option ℕ). unwrap_or o 0 ≤ lng_in m e) (λ t. omega arith) (λ t. omega arith))

-- an op that isn't a format raises it by what a store told of it alone
abbrev pub Raises : Plain → Op → ℕ → ℕ → ℕ → Type 0
Raises p o l e g = (lng : ℕ) × (x : Entry) × (o ≡ ops.Accept l lng x) × (epoch_of x.number ≡ e) × (g ≤ lng)

with_lng : (p : Plain) (j : ℕ) (h : Log) (o : Op) (l e : ℕ) → ((lng_at h e ≤ lng_at (log_of p j) e) ⊎ Raises p o j e (lng_at h e)) → (lng_at (log_of (with_log p j h) l) e ≤ lng_at (log_of p l) e) ⊎ Raises p o l e (lng_at (log_of (with_log p j h) l) e)
with_lng p j h o l e f = elim (put_cases l j h p.logs) [
  | inl a ↦ subst (λ (z : Option Log). (lng_at (unwrap_or z empty_log) e ≤ lng_at (log_of p l) e) ⊎ Raises p o l e (lng_at (unwrap_or z empty_log) e)) (sym a.1) (subst (λ k. (lng_at h e ≤ lng_at (log_of p k) e) ⊎ Raises p o k e (lng_at h e)) (sym a.0) f)
  | inr a ↦ inl (subst (λ (z : Option Log). lng_at (unwrap_or z empty_log) e ≤ lng_at (log_of p l) e) (sym a.1) (omega arith))
]

op_lng : (p : Plain) (o : Op) (l e : ℕ) → is_format o ≡ false → (lng_at (log_of (apply p o) l) e ≤ lng_at (log_of p l) e) ⊎ Raises p o l e (lng_at (log_of (apply p o) l) e)
unfolding apply
op_lng p (ops.Format g es) l e n = absurd cc
op_lng p (ops.Accept j lng x) l e n = with_lng p j _ (ops.Accept j lng x) l e (elim (raised_cases (epoch_of x.number) lng e (log_of p j).lngs) [ inl a ↦ inl a | inr a ↦ inr (lng, x, refl, a.0, a.1) ])
op_lng p (ops.Seal j b) l e n = with_lng p j _ (ops.Seal j b) l e (inl (omega arith))
op_lng p (ops.Clean j k y) l e n = with_lng p j _ (ops.Clean j k y) l e (inl (taken_out k e (log_of p j).lngs))
op_lng p (ops.Trim j t) l e n = with_lng p j _ (ops.Trim j t) l e (inl (omega arith))
op_lng p (ops.Refill j xs) l e n = with_lng p j _ (ops.Refill j xs) l e (inl (omega arith))
op_lng p (ops.Refilled j) l e n = with_lng p j _ (ops.Refilled j) l e (inl (omega arith))

-- nothing was told of it after a format
pub format_lng : (ds : List (ℕ × ℕ)) (l e : ℕ) → lng_at (unwrap_or (find l (lost_logs ds)) empty_log) e ≡ 0
unfolding find
format_lng [] l e = refl
format_lng (d ∷ ds) l e = there_or (is_at (nat_cmp l) d.0) (find l (lost_logs ds)) (format_lng ds l e) where
  there_or : (b : Bool) (o : Option Log) → lng_at (unwrap_or o empty_log) e ≡ 0 → lng_at (unwrap_or (cond b (Some (lost_log d.1)) o) empty_log) e ≡ 0
  there_or true o h = refl
  there_or false o h = h

-- ---- after a page to a ballot ----

-- a plan of the epoch, of at least the ballot, whose last known good offset is at least this one
abbrev pub PlanLow : List Made → ℕ → ℕ → ℕ → ℕ → Type 0
PlanLow made l e b g = (h : ℕ) × (d : Basis) × In (plan_of l e h d) made × (b ≤ h) × (g ≤ digest_lng d.digest)

abbrev pub LowAt : List Made → Plain → ℕ → ℕ → ℕ → ℕ → Type 0
LowAt made p l e b lng = Unserved p l e ⊎ ((lng_at (log_of p l) e ≤ lng) ⊎ PlanLow made l e b (lng_at (log_of p l) e))

plan_less : (made : List Made) (l e b g k : ℕ) → k ≤ g → PlanLow made l e b g → PlanLow made l e b k
plan_less made l e b g k le h = (h.0, h.1, h.2, h.3, let z = h.4 in omega arith)

-- of a loss plan: what a page to a greater ballot says of it, of a node that is whole in its digest, isn't greater than what it says itself
abbrev pub PagesLow : List Made → List Msg → Type 0
PagesLow made sent = (l e b : ℕ) (d : Basis) → In (plan_of l e b d) made → d.loss ≡ true → (t : Told) → In t d.digest → t.whole ≡ true
    → (g from upto trim lng : ℕ) (es : List Entry) → In (from_node l t.node g (bodies.DigestPage from upto trim lng es)) sent → epoch_of from ≡ e → b < g → lng ≤ digest_lng d.digest

pub op_low : (made : List Made) (p : Plain) (o : Op) (l e b lng : ℕ) → is_format o ≡ false → ((k : ℕ) → o ≡ ops.Refilled k → FullClean (log_of p k)) → ((g : ℕ) (x : Entry) → o ≡ ops.Accept l g x → epoch_of x.number ≡ e → PlanLow made l e b g) → LowAt made p l e b lng → LowAt made (apply p o) l e b lng
op_low made p o l e b lng n f a (inl h) = inl (op_unserved p o l e n f h)
op_low made p o l e b lng n f a (inr h) = inr (elim (op_lng p o l e n) [
  | inl z ↦ elim h [ inl y ↦ inl (omega arith) | inr y ↦ inr (plan_less made l e b (lng_at (log_of p l) e) (lng_at (log_of (apply p o) l) e) z y) ]
  | inr z ↦ inr (plan_less made l e b z.0 (lng_at (log_of (apply p o) l) e) z.4 (a z.0 z.1 z.2 z.3))
])
