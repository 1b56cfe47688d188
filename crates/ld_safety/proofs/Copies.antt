-- A node that settled a number for a ballot is blank, lost for its epoch, trimmed at it, has it with at least this ballot, knows of a later plan that cut it off, or is clean there where this ballot's copy isn't the one that counts: each op keeps it.
use Rattle.std.proofs.Common.{◌≡◌, ◌∙◌, ◌⊎◌, ◌≤◌, ◌<◌, ℕ, ◌+◌, max, inl, inr, refl, ap, sym, subst, true, false, not, ◌||◌, ◌==◌, nat_lt, nat_le, cond, List, Some, None, arith}
use Rattle.std.specs.Option.{unwrap_or}
use Rattle.std.proofs.lemmas.Bool.{cases_Bool, and_from, or_left, or_right, or_parts, ltb-false, leb-false, ne_eqb}
use Rattle.ld_table.specs.Table.{find}
use Rattle.ld_table.proofs.Laws.{put_cases, find-keep, find-keep_keys, kept}
use Rattle.ld_lsn.specs.Number.{epoch_of, esn_of}
use Rattle.ld_msg.specs.declared.msg.Entry.{Entry}
use Rattle.ld_msg.specs.declared.msg.Summary.{Summary}
use Rattle.ld_msg.specs.declared.msg.Msg.{Msg}
use Rattle.ld_msg.specs.Register.{Register, epochs_in}
use Rattle.ld_op.specs.declared.op.Op.{Op}
use Rattle.ld_op.specs.declared.op.Op.TheVariants as ops
use Rattle.ld_op.specs.Plain.{Plain, Log, log_of, empty_log, unformatted, with_log, lost_logs, accepted, sealed_by, trimmed_to, cleaned, survives_clean, refilled_with, refilled, apply, is_lost}
use Rattle.ld_op.proofs.Moves.{taken_there}
use Rattle.ld_machine.specs.World.{Made, In}
use Rattle.ld_safety.proofs.Lists.{not_none}
use Rattle.ld_safety.proofs.Members.{find_in}
use Rattle.ld_safety.proofs.NodeSteps.{Served}
use Rattle.ld_safety.proofs.Settled.{Reached}
use Rattle.ld_safety.proofs.Holdings.{HeldAt, KeptBy, LogFine, Taking, entry_stays, cut_off, wider, lost_now, refill_same}
use Rattle.ld_safety.proofs.Protocol.{StoredBy, TrimmedBy}

-- the copy of another ballot counts where the epoch is closed so: its own one up to the last known good offset, the closing one above it; and none from the end on
abbrev pub Another : Summary → ℕ → ℕ → Type 0
Another y n b = ((esn_of n ≤ y.lng) × (b ≡ epoch_of n → ⊥)) ⊎ (((y.lng < esn_of n) × (b ≡ y.ballot → ⊥)) ⊎ (y.end ≤ esn_of n))

-- clean there, where the copy of another ballot counts
abbrev pub Elsewhere : Log → ℕ → ℕ → Type 0
Elsewhere g n b = (y : Summary) × (find (epoch_of n) g.summaries ≡ Some y) × Another y n b

abbrev pub Copied : List Made → ℕ → Log → ℕ → ℕ → Type 0
Copied made l g n b = (is_lost g (epoch_of n) ≡ true) ⊎ (KeptBy made g l n b ⊎ Elsewhere g n b)

module _ (made : List Made) (sent : List Msg) where
  abbrev pub SettledHere : ℕ → ℕ → ℕ → ℕ → Type 0
  SettledHere l y n b = StoredBy sent l y n b ⊎ TrimmedBy sent l y n b

  abbrev pub CopiesAt : ℕ → Plain → Type 0
  CopiesAt y p = (l n b : ℕ) → 0 < esn_of n → SettledHere l y n b → (p.generation ≡ 0) ⊎ Copied made l (log_of p l) n b

  abbrev pub Carries_over : ℕ → Log → Log → Type 0
  Carries_over l g h = (n b : ℕ) → 0 < esn_of n → Copied made l g n b → Copied made l h n b

  carried_over : (y : ℕ) (p : Plain) (l : ℕ) (g : Log) → CopiesAt y p → Carries_over l (log_of p l) g → CopiesAt y (with_log p l g)
  carried_over y p l g H M k n b pos i = elim (H k n b pos i) [
    | inl z ↦ inl z
    | inr z ↦ inr (elim (put_cases k l g p.logs) [
      | inl a ↦ subst (λ o. Copied made k (unwrap_or o empty_log) n b) (sym a.1) (subst (λ j. Copied made j g n b) (sym a.0) (M n b pos (subst (λ j. Copied made j (log_of p j) n b) a.0 z)))
      | inr a ↦ subst (λ o. Copied made k (unwrap_or o empty_log) n b) (sym a.1) z
    ])
  ]

  accept_over : (l : ℕ) (g : Log) (lng : ℕ) (e : Entry) → LogFine g → Taking made sent l g e → Carries_over l g (accepted g lng e)
  accept_over l g lng e F T n b pos (inl h) = inl h
  accept_over l g lng e F T n b pos (inr (inr h)) = inr (inr h)
  accept_over l g lng e F T n b pos (inr (inl (inl h))) = inr (inl (inl h))
  accept_over l g lng e F T n b pos (inr (inl (inr (inr h)))) = inr (inl (inr (inr (wider made sent l b (g.sealed + 1) (e.ballot + 1) n (let u = T.sealed in omega arith) h))))
  accept_over l g lng e F T n b pos (inr (inl (inr (inl h)))) = inr (inl (elim (entry_stays e e.what g.entries n h.entry h.found_at) [
    | inl a ↦ inr (inl (record { entry = h.entry; found_at = a; least = h.least }))
    | inr (inl a) ↦ inr (inl (record { entry = e; found_at = subst (λ z. find z (accepted g lng e).entries ≡ Some e) (sym a) (taken_there g lng e); least = let z = F.bounded (n, h.entry) (find_in n g.entries h.entry h.found_at) (subst (λ k. Served g (epoch_of k)) (sym a) T.served) in let u = T.sealed in let v = h.least in omega arith }))
    | inr (inr a) ↦ inr (inr (cut_off made sent l g e h.entry n b F T h.found_at h.least a.0 a.1))
  ]))

  seal_over : (l : ℕ) (g : Log) (k : ℕ) → g.sealed ≤ k → Carries_over l g (sealed_by g k)
  seal_over l g k u n b pos (inl h) = inl h
  seal_over l g k u n b pos (inr (inr h)) = inr (inr h)
  seal_over l g k u n b pos (inr (inl (inl h))) = inr (inl (inl h))
  seal_over l g k u n b pos (inr (inl (inr (inl a)))) = inr (inl (inr (inl (record { entry = a.entry; found_at = a.found_at; least = a.least }))))
  seal_over l g k u n b pos (inr (inl (inr (inr a)))) = inr (inl (inr (inr (wider made sent l b (g.sealed + 1) (k + 1) n (omega arith) a))))

  trim_over : (l : ℕ) (g : Log) (t : ℕ) → Carries_over l g (trimmed_to g t)
  trim_over l g t n b pos (inl h) = inl h
  trim_over l g t n b pos (inr (inr h)) = inr (inr h)
  trim_over l g t n b pos (inr (inl (inl h))) = inr (inl (inl (omega arith)))
  trim_over l g t n b pos (inr (inl (inr (inr a)))) = inr (inl (inr (inr a)))
  trim_over l g t n b pos (inr (inl (inr (inl a)))) = inr (inl (elim (cases_Bool (nat_lt (max g.trim t) n)) [
    | inl u ↦ inr (inl (record { entry = a.entry; found_at = find-keep_keys n (λ s. nat_lt (max g.trim t) s) g.entries ∙ (ap (λ x. cond x (find n g.entries) None) u ∙ a.found_at); least = a.least }))
    | inr u ↦ inl (ltb-false _ _ u)
  ]))

  -- above what is known good, what was stored for a lesser ballot than the closing one is the closing plan's matter
  clean_over : (l : ℕ) (g : Log) (k : ℕ) (y : Summary) → LogFine g → ((z : Summary) → find k g.summaries ≡ Some z → z ≡ y) → Carries_over l g (cleaned g k y)
  clean_over l g k y F S n b pos (inl h) = inl h
  clean_over l g k y F S n b pos (inr (inr h)) = inr (inr (elim (put_cases (epoch_of n) k y g.summaries) [
    | inl a ↦ (y, a.1, let q : h.0 ≡ y = S h.0 (subst (λ e. find e g.summaries ≡ Some h.0) a.0 h.1) in subst (λ (z : Summary). Another z n b) q h.2)
    | inr a ↦ (h.0, a.1 ∙ h.1, h.2)
  ]))
  clean_over l g k y F S n b pos (inr (inl (inl h))) = inr (inl (inl (omega arith)))
  clean_over l g k y F S n b pos (inr (inl (inr (inr a)))) = inr (inl (inr (inr a)))
  clean_over l g k y F S n b pos (inr (inl (inr (inl a)))) = by_trim (cases_Bool (nat_lt (max g.trim y.trim) n)) where
    num : a.entry.number ≡ n
    num = F.numbers (n, a.entry) (find_in n g.entries a.entry a.found_at)

    stays : nat_lt (max g.trim y.trim) n ≡ true → (not (epoch_of a.entry.number == k) || (nat_le y.ballot a.entry.ballot || nat_le (esn_of a.entry.number) y.lng)) ≡ true → HeldAt (cleaned g k y) n b
    stays u v = record {
      entry = a.entry;
      found_at = find-keep n (λ s e. survives_clean (max g.trim y.trim) k y e) g.entries ∙ (ap (λ x. kept (λ s e. survives_clean (max g.trim y.trim) k y e) n x) a.found_at ∙ ap (λ x. cond x (Some a.entry) None) (and_from _ _ (subst (λ z. nat_lt (max g.trim y.trim) z ≡ true) (sym num) u) v));
      least = a.least;
    }

    by_trim : (nat_lt (max g.trim y.trim) n ≡ true) ⊎ (nat_lt (max g.trim y.trim) n ≡ false) → Copied made l (cleaned g k y) n b
    by_trim (inr u) = inr (inl (inl (ltb-false _ _ u)))
    by_trim (inl u) = elim (put_cases (epoch_of n) k y g.summaries) [
      | inr q ↦ inr (inl (inr (inl (stays u (or_left _ _ (ap not (ne_eqb (epoch_of a.entry.number) k (λ z. q.0 (ap epoch_of (sym num) ∙ z)))))))))
      | inl q ↦ elim (cases_Bool (nat_le y.ballot a.entry.ballot || nat_le (esn_of a.entry.number) y.lng)) [
        | inl t ↦ inr (inl (inr (inl (stays u (or_right (not (epoch_of a.entry.number == k)) _ t)))))
        | inr t ↦ let p = or_parts (nat_le y.ballot a.entry.ballot) (nat_le (esn_of a.entry.number) y.lng) t in
            inr (inr (y, q.1, inr (inl ((let v = leb-false _ _ p.1 in let m = ap esn_of num in omega arith), λ z. (let v = leb-false _ _ p.0 in let w = a.least in omega arith)))))
      ]
    ]

  refill_over : (l : ℕ) (g : Log) (es : List Entry) → ((e : Entry) → In e es → find e.number g.entries ≡ None) → Carries_over l g (refilled_with g es)
  refill_over l g es N n b pos (inl h) = inl h
  refill_over l g es N n b pos (inr (inr h)) = inr (inr h)
  refill_over l g es N n b pos (inr (inl (inl h))) = inr (inl (inl h))
  refill_over l g es N n b pos (inr (inl (inr (inr a)))) = inr (inl (inr (inr a)))
  refill_over l g es N n b pos (inr (inl (inr (inl a)))) = inr (inl (inr (inl (record { entry = a.entry; found_at = refill_same made sent n es g.entries (λ e i q. not_none (sym (N e i) ∙ (ap (λ k. find k g.entries) (sym q) ∙ a.found_at))) ∙ a.found_at; least = a.least }))))

  -- what a refilled node has
  abbrev pub Refilled_full : ℕ → Log → Type 0
  Refilled_full l g = (n b : ℕ) → 0 < esn_of n → is_lost g (epoch_of n) ≡ true → KeptBy made g l n b ⊎ Elsewhere g n b

  refilled_over : (l : ℕ) (g : Log) → Refilled_full l g → Carries_over l g (refilled g)
  refilled_over l g R n b pos (inl h) = inr (as_refilled (R n b pos h)) where
    as_refilled : KeptBy made g l n b ⊎ Elsewhere g n b → KeptBy made (refilled g) l n b ⊎ Elsewhere (refilled g) n b
    as_refilled (inr h) = inr h
    as_refilled (inl (inl h)) = inl (inl h)
    as_refilled (inl (inr (inl a))) = inl (inr (inl (record { entry = a.entry; found_at = a.found_at; least = a.least })))
    as_refilled (inl (inr (inr a))) = inl (inr (inr a))
  refilled_over l g R n b pos (inr (inr h)) = inr (inr h)
  refilled_over l g R n b pos (inr (inl (inl h))) = inr (inl (inl h))
  refilled_over l g R n b pos (inr (inl (inr (inl a)))) = inr (inl (inr (inl (record { entry = a.entry; found_at = a.found_at; least = a.least }))))
  refilled_over l g R n b pos (inr (inl (inr (inr a)))) = inr (inl (inr (inr a)))

  -- ---- every op ----
  pub record KnownSettled (k : Register) : Type 0 where
    pub reached : (l y n b : ℕ) → SettledHere l y n b → Reached k l (epoch_of n)

  abbrev pub OpCopies : Plain → Op → Type 0
  OpCopies p (ops.Format generation epochs) = (k : Register) × (epochs ≡ epochs_in k.logs) × KnownSettled k
  OpCopies p (ops.Accept l lng e) = Taking made sent l (log_of p l) e
  OpCopies p (ops.Seal l b) = (log_of p l).sealed ≤ b
  OpCopies p (ops.Clean l k y) = (z : Summary) → find k (log_of p l).summaries ≡ Some z → z ≡ y
  OpCopies p (ops.Trim l t) = Unit {0}
  OpCopies p (ops.Refill l es) = (e : Entry) → In e es → find e.number (log_of p l).entries ≡ None
  OpCopies p (ops.Refilled l) = Refilled_full l (log_of p l)

  pub blank_copies : (y : ℕ) → CopiesAt y unformatted
  blank_copies y l n b pos i = inl refl

  format_copies : (y g : ℕ) (k : Register) → KnownSettled k → CopiesAt y (record { generation = g; logs = lost_logs (epochs_in k.logs) })
  format_copies y g k K l n b pos i = inr (inl (lost_now made sent k l (epoch_of n) (K.reached l y n b i)))

  pub op_copies : (y : ℕ) (p : Plain) (o : Op) → ((l : ℕ) → LogFine (log_of p l)) → CopiesAt y p → OpCopies p o → CopiesAt y (apply p o)
  unfolding apply
  op_copies y p (ops.Format generation epochs) F H h = subst (λ es. CopiesAt y (record { generation = generation; logs = lost_logs es })) (sym h.1) (format_copies y generation h.0 h.2)
  op_copies y p (ops.Accept l lng e) F H h = carried_over y p l (accepted (log_of p l) lng e) H (accept_over l (log_of p l) lng e (F l) h)
  op_copies y p (ops.Seal l b) F H h = carried_over y p l (sealed_by (log_of p l) b) H (seal_over l (log_of p l) b h)
  op_copies y p (ops.Clean l k s) F H h = carried_over y p l (cleaned (log_of p l) k s) H (clean_over l (log_of p l) k s (F l) h)
  op_copies y p (ops.Trim l t) F H h = carried_over y p l (trimmed_to (log_of p l) t) H (trim_over l (log_of p l) t)
  op_copies y p (ops.Refill l es) F H h = carried_over y p l (refilled_with (log_of p l) es) H (refill_over l (log_of p l) es h)
  op_copies y p (ops.Refilled l) F H h = carried_over y p l (refilled (log_of p l)) H (refilled_over l (log_of p l) h)
