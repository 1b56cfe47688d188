-- What a node has of a clean epoch is of the closing ballot or a greater one, or was known good, and stands above the closing trim: each op keeps it.
use Rattle.std.proofs.Common.{◌≡◌, ◌∙◌, ◌⊎◌, ◌≤◌, ◌<◌, ℕ, max, inl, inr, ap, sym, subst, Bool, true, false, not, ◌||◌, ◌==◌, nat_lt, nat_le, cond, List, [], ◌∷◌, Option, Some, arith}
use Rattle.std.specs.Option.{unwrap_or}
use Rattle.std.proofs.lemmas.Bool.{or_cases, and_parts, leb-true, ltb-true, eq-eqb}
use Rattle.std.specs.Ordering.{nat_cmp}
use Rattle.std.specs.BTreeMap.{is_at}
use Rattle.ld_table.specs.Table.{find}
use Rattle.ld_table.proofs.Laws.{put_cases}
use Rattle.ld_lsn.specs.Number.{epoch_of, esn_of}
use Rattle.ld_msg.specs.declared.msg.Entry.{Entry}
use Rattle.ld_msg.specs.declared.msg.Summary.{Summary}
use Rattle.ld_op.specs.declared.op.Op.{Op}
use Rattle.ld_op.specs.declared.op.Op.TheVariants as ops
use Rattle.ld_op.specs.Plain.{Plain, Log, log_of, empty_log, unformatted, with_log, lost_logs, lost_log, accepted, sealed_by, trimmed_to, cleaned, survives_clean, refilled_with, refilled, apply}
use Rattle.ld_machine.specs.World.{In}
use Rattle.ld_safety.proofs.Lists.{Some_inj, not_none}
use Rattle.ld_safety.proofs.Members.{In_keep_keys}
use Rattle.ld_safety.proofs.Rising.{Rising, kept_rising}
use Rattle.ld_safety.proofs.NodeSteps.{Served}
use Rattle.ld_safety.proofs.Holdings.{accept_in, refill_in}
use Rattle.ld_safety.proofs.Serving.{not_served}
use Rattle.ld_safety.proofs.HoldKept.{clean_found}

pub record LogClean (g : Log) : Type 0 where
  pub above : (q : ℕ × Entry) → In q g.entries → g.trim < q.0
  pub least : (q : ℕ × Entry) (y : Summary) → In q g.entries → find (epoch_of q.0) g.summaries ≡ Some y → (y.ballot ≤ q.1.ballot) ⊎ (esn_of q.0 ≤ y.lng)
  pub trims : (e : ℕ) (y : Summary) → find e g.summaries ≡ Some y → y.trim ≤ g.trim

abbrev pub PlainClean : Plain → Type 0
PlainClean p = (l : ℕ) → LogClean (log_of p l)

-- entries rise, and a key is the entry's number, of an epoch up to the entry's ballot
abbrev pub Keyed : Log → Type 0
Keyed g = Rising g.entries × ((q : ℕ × Entry) → In q g.entries → (q.1.number ≡ q.0) × (epoch_of q.0 ≤ q.1.ballot))

accepted_clean : (g : Log) (lng : ℕ) (e : Entry) → LogClean g → Served g (epoch_of e.number) → g.trim < e.number → LogClean (accepted g lng e)
accepted_clean g lng e C s t = record {
  above = λ q i. elim (accept_in [] [] e e.what g.entries q i) [ inl a ↦ (let z : q.0 ≡ e.number = ap (λ (x : ℕ × Entry). x.0) a in omega arith) | inr a ↦ C.above q a ];
  least = λ q y i f. elim (accept_in [] [] e e.what g.entries q i) [
    | inl a ↦ absurd (let z : q.0 ≡ e.number = ap (λ (x : ℕ × Entry). x.0) a in not_served g (epoch_of e.number) (inr (clean_found g (epoch_of e.number) y (subst (λ k. find (epoch_of k) g.summaries ≡ Some y) z f))) s)
    | inr a ↦ C.least q y a f
  ];
  trims = C.trims;
}

trimmed_clean : (g : Log) (t : ℕ) → LogClean g → LogClean (trimmed_to g t)
trimmed_clean g t C = record {
  above = λ q i. (let z = In_keep_keys _ g.entries q i in ltb-true _ _ z.1);
  least = λ q y i f. C.least q y (In_keep_keys _ g.entries q i).0 f;
  trims = λ e y f. (let z = C.trims e y f in omega arith);
}

cleaned_clean : (g : Log) (k : ℕ) (y : Summary) → Keyed g → LogClean g → LogClean (cleaned g k y)
cleaned_clean g k y K C = record {
  above = λ q i. (let z = kept_rising (λ s e. survives_clean (max g.trim y.trim) k y e) g.entries q K.0 i in let w = and_parts (nat_lt (max g.trim y.trim) q.1.number) _ z.1 in let u = ltb-true _ _ w.0 in let n = (K.1 q z.0).0 in omega arith);
  least = λ q x i f. (let z = kept_rising (λ s e. survives_clean (max g.trim y.trim) k y e) g.entries q K.0 i in elim (put_cases (epoch_of q.0) k y g.summaries) [
    | inl a ↦ let same : y ≡ x = Some_inj (sym a.1 ∙ f) in subst (λ (v : Summary). (v.ballot ≤ q.1.ballot) ⊎ (esn_of q.0 ≤ v.lng)) same (closing q z.0 z.1 a.0)
    | inr a ↦ C.least q x z.0 (sym a.1 ∙ f)
  ]);
  trims = λ e x f. elim (put_cases e k y g.summaries) [
    | inl a ↦ (let same : y ≡ x = Some_inj (sym a.1 ∙ f) in let w = ap (λ (v : Summary). v.trim) same in omega arith)
    | inr a ↦ let z = C.trims e x (sym a.1 ∙ f) in omega arith
  ];
} where
  closing : (q : ℕ × Entry) → In q g.entries → survives_clean (max g.trim y.trim) k y q.1 ≡ true → epoch_of q.0 ≡ k → (y.ballot ≤ q.1.ballot) ⊎ (esn_of q.0 ≤ y.lng)
  closing q i s e =
      let w = and_parts (nat_lt (max g.trim y.trim) q.1.number) (not (epoch_of q.1.number == k) || (nat_le y.ballot q.1.ballot || nat_le (esn_of q.1.number) y.lng)) s in
      let n = (K.1 q i).0 in
      let same : (epoch_of q.1.number == k) ≡ true = eq-eqb (epoch_of q.1.number) k (ap epoch_of n ∙ e) in
      let r : (not true || (nat_le y.ballot q.1.ballot || nat_le (esn_of q.1.number) y.lng)) ≡ true = subst (λ b. (not b || (nat_le y.ballot q.1.ballot || nat_le (esn_of q.1.number) y.lng)) ≡ true) same w.1 in
      elim (or_cases (nat_le y.ballot q.1.ballot) (nat_le (esn_of q.1.number) y.lng) r) [
        | inl t ↦ inl (leb-true _ _ t)
        | inr t ↦ inr (let u = leb-true (esn_of q.1.number) y.lng t in let d = ap esn_of n in omega arith)
      ]

refilled_clean : (g : Log) (es : List Entry) → LogClean g → ((e : Entry) → In e es → (g.trim < e.number) × ((y : Summary) → find (epoch_of e.number) g.summaries ≡ Some y → y.ballot ≤ e.ballot)) → LogClean (refilled_with g es)
refilled_clean g es C h = record {
  above = λ q i. elim (refill_in [] [] es g.entries q i) [ inl a ↦ C.above q a | inr a ↦ (let z : q.0 ≡ a.0.number = ap (λ (x : ℕ × Entry). x.0) a.2 in let w = (h a.0 a.1).0 in omega arith) ];
  least = λ q y i f. elim (refill_in [] [] es g.entries q i) [
    | inl a ↦ C.least q y a f
    | inr a ↦ (let z : q.0 ≡ a.0.number = ap (λ (x : ℕ × Entry). x.0) a.2 in let v : q.1.ballot ≡ a.0.ballot = ap (λ (x : ℕ × Entry). x.1.ballot) a.2 in let w = (h a.0 a.1).1 y (subst (λ k. find (epoch_of k) g.summaries ≡ Some y) z f) in inl (omega arith))
  ];
  trims = C.trims;
}

-- what an op needs
abbrev pub OpClean : Plain → Op → Type 0
OpClean p (ops.Format generation epochs) = Unit {0}
OpClean p (ops.Accept l lng e) = Served (log_of p l) (epoch_of e.number) × ((log_of p l).trim < e.number)
OpClean p (ops.Seal l b) = Unit {0}
OpClean p (ops.Clean l k y) = Unit {0}
OpClean p (ops.Trim l t) = Unit {0}
OpClean p (ops.Refill l es) = (e : Entry) → In e es → ((log_of p l).trim < e.number) × ((y : Summary) → find (epoch_of e.number) (log_of p l).summaries ≡ Some y → y.ballot ≤ e.ballot)
OpClean p (ops.Refilled l) = Unit {0}

with_log_clean : (p : Plain) (l : ℕ) (g : Log) → PlainClean p → LogClean g → PlainClean (with_log p l g)
with_log_clean p l g a h m = elim (put_cases m l g p.logs) [
  | inl e ↦ subst (λ o. LogClean (unwrap_or o empty_log)) (sym e.1) h
  | inr e ↦ subst (λ o. LogClean (unwrap_or o empty_log)) (sym e.1) (a m)
]

empty_clean : (c : ℕ) → LogClean (lost_log c)
unfolding find
empty_clean c = record { above = λ q i. absurd i; least = λ q y i f. absurd i; trims = λ e y f. absurd (not_none f) }

pub blank_clean : PlainClean unformatted
unfolding find
blank_clean l = record { above = λ q i. absurd i; least = λ q y i f. absurd i; trims = λ e y f. absurd (not_none f) }

formatted_clean : (ds : List (ℕ × ℕ)) (l : ℕ) → LogClean (unwrap_or (find l (lost_logs ds)) empty_log)
unfolding find
formatted_clean [] l = record { above = λ q i. absurd i; least = λ q y i f. absurd i; trims = λ e y f. absurd (not_none f) }
formatted_clean (d ∷ ds) l = formatted_or (is_at (nat_cmp l) d.0) (find l (lost_logs ds)) (formatted_clean ds l) where
  formatted_or : (b : Bool) (o : Option Log) → LogClean (unwrap_or o empty_log) → LogClean (unwrap_or (cond b (Some (lost_log d.1)) o) empty_log)
  formatted_or true o h = empty_clean d.1
  formatted_or false o h = h

pub op_clean : (p : Plain) (o : Op) → ((l : ℕ) → Keyed (log_of p l)) → PlainClean p → OpClean p o → PlainClean (apply p o)
unfolding apply
op_clean p (ops.Format generation epochs) K a h = formatted_clean epochs
op_clean p (ops.Accept l lng e) K a h = with_log_clean p l (accepted (log_of p l) lng e) a (accepted_clean (log_of p l) lng e (a l) h.0 h.1)
op_clean p (ops.Seal l b) K a h = let C = a l in with_log_clean p l (sealed_by (log_of p l) b) a (record { above = C.above; least = C.least; trims = C.trims })
op_clean p (ops.Clean l k y) K a h = with_log_clean p l (cleaned (log_of p l) k y) a (cleaned_clean (log_of p l) k y (K l) (a l))
op_clean p (ops.Trim l t) K a h = with_log_clean p l (trimmed_to (log_of p l) t) a (trimmed_clean (log_of p l) t (a l))
op_clean p (ops.Refill l es) K a h = with_log_clean p l (refilled_with (log_of p l) es) a (refilled_clean (log_of p l) es (a l) h)
op_clean p (ops.Refilled l) K a h = let C = a l in with_log_clean p l (refilled (log_of p l)) a (record { above = C.above; least = C.least; trims = C.trims })
