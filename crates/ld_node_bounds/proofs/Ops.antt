-- Each op leaves a plain state in its bounds.
use Rattle.std.proofs.Common.{◌≡◌, ◌≤◌, ℕ, ◌+◌, max, refl, Bool, List, [], ◌∷◌, Option, Some, None, nat_cmp, nat_lt, Less, arith}
use Rattle.std.specs.Map as map
use Rattle.std.specs.Option.{unwrap_or}
use Rattle.std.specs.List.{filter, AllByRecursion}
use Rattle.std.specs.List.Sorted.{IsStrictlySortedBy}
use Rattle.std.proofs.lemmas.Bool.{cond_both}
use Rattle.ld_table.specs.Table.{find, put, keep, keep_keys, passes, Ordered}
use Rattle.ld_table.proofs.Order.{Ordered-put}
use Rattle.ld_lsn.specs.Number.{epoch_of}
use Rattle.ld_ids.specs.Id.{IsLog}
use Rattle.ld_msg.specs.declared.msg.Entry.{Entry}
use Rattle.ld_msg.specs.declared.msg.What.{What}
use Rattle.ld_msg.specs.declared.msg.What.TheVariants.{Rec, Hole, Bridge, Plug, Withheld}
use Rattle.ld_msg.specs.declared.msg.Summary.{Summary}
use Rattle.ld_msg.specs.Bounds as bounds
use Rattle.ld_msg.specs.Bounds.{IsLng, Is64, IsEpoch, IsEntry, AreKept, IsSummary, AreEntries}
use Rattle.ld_op.specs.declared.op.Op.{Op}
use Rattle.ld_op.specs.declared.op.Op.TheVariants as ops
use Rattle.ld_op.specs.Bounds.{IsOp, AreEpochs}
use Rattle.ld_op.specs.Plain.{Log, Plain, unformatted, empty_log, log_of, with_log, accepted, accept_entry, lng_in, raised_lng, survives_bridge, survives_clean, sealed_by, trimmed_to, cleaned, refill_entries, refilled_with, refilled, lost_log, lost_logs, apply}
use Rattle.ld_node_bounds.specs.States.{last_handed_out, last_carried, IsStored, IsClosed, IsGood, IsLogState, IsLogAt, IsPlain}
use Rattle.ld_node_bounds.specs.Messages.{IsLostTo, IsKept}
use Rattle.ld_node_bounds.proofs.Alls.{all-put, all-keep, all-keep_keys, all-take_out, all-find}

-- ---- order ----

module _ {X : Type 0} where
  keys-filter : (P : ℕ → Type 0) (p : ℕ × X → Bool) (m : List (ℕ × X)) → AllByRecursion P (map.keys_of m) → AllByRecursion P (map.keys_of (filter p m))
  keys-filter P p [] a = tt
  keys-filter P p (e ∷ m) a = let rest : AllByRecursion P (map.keys_of (filter p m)) = keys-filter P p m a.1 in
      cond_both (p e) (e ∷ filter p m) (filter p m) (λ n. AllByRecursion P (map.keys_of n)) (λ t. (a.0, rest)) (λ t. rest)

  ordered-filter : (p : ℕ × X → Bool) (m : List (ℕ × X)) → Ordered m → Ordered (filter p m)
  unfolding IsStrictlySortedBy
  ordered-filter p [] o = tt
  ordered-filter p (e ∷ m) o = let rest : Ordered (filter p m) = ordered-filter p m o.1 in
      cond_both (p e) (e ∷ filter p m) (filter p m) Ordered (λ t. (keys-filter (λ y. nat_cmp e.0 y ≡ Less) p m o.0, rest)) (λ t. rest)

  ordered-keep : (p : ℕ → X → Bool) (m : List (ℕ × X)) → Ordered m → Ordered (keep p m)
  unfolding keep
  ordered-keep p m o = ordered-filter (λ e. passes p e.0 (find e.0 m)) m o

  ordered-keep_keys : (p : ℕ → Bool) (m : List (ℕ × X)) → Ordered m → Ordered (keep_keys p m)
  unfolding keep_keys
  ordered-keep_keys p m o = ordered-filter (λ e. p e.0) m o

-- ---- one log ----

-- entries in order, each under its number
record Entries (m : List (ℕ × Entry)) : Type 0 where
  rise : Ordered m
  entries : AllByRecursion IsStored m

entry_put : (e : Entry) (m : List (ℕ × Entry)) → IsEntry e → bounds.IsKept e.what → Entries m → Entries (put e.number e m)
entry_put e m i k s = record { rise = Ordered-put e.number e m s.rise; entries = all-put IsStored e.number e m (record { number = refl; entry = i; kept = k }) s.entries }

entry_accepted : (e : Entry) (x : What) (m : List (ℕ × Entry)) → IsEntry e → bounds.IsKept e.what → Entries m → Entries (accept_entry e x m)
entry_accepted e (Rec p) m i k s = entry_put e m i k s
entry_accepted e Hole m i k s = entry_put e m i k s
entry_accepted e Plug m i k s = entry_put e m i k s
entry_accepted e Withheld m i k s = entry_put e m i k s
entry_accepted e Bridge m i k s = entry_put e (keep (λ k f. survives_bridge e f) m) i k (record { rise = ordered-keep (λ k f. survives_bridge e f) m s.rise; entries = all-keep IsStored (λ k f. survives_bridge e f) m s.entries })

entries_refilled : (es : List Entry) (m : List (ℕ × Entry)) → AreEntries es → AreKept es → Entries m → Entries (refill_entries es m)
entries_refilled [] m a k s = s
entries_refilled (e ∷ es) m a k s = entries_refilled es (put e.number e m) a.1 k.1 (entry_put e m a.0 k.0 s)

greater : (a b : ℕ) → Is64 a → Is64 b → Is64 (max a b)
greater a b h i = omega (arith, h, i)

no_entries : Ordered {X = Entry} []
unfolding IsStrictlySortedBy
no_entries = tt

-- ballots and epochs are at most this one
module _ (most : ℕ) where
  module _ (g : Log) (G : IsLogState most g) where
    has : Entries g.entries
    has = record { rise = G.rise; entries = G.entries }

    raised_is : (epoch lng : ℕ) → IsLng lng → AllByRecursion IsGood (raised_lng epoch lng g.lngs)
    raised_is epoch lng h = cond_both (nat_lt (lng_in g.lngs epoch) lng) (put epoch lng g.lngs) g.lngs (AllByRecursion IsGood) (λ t. all-put IsGood epoch lng g.lngs h G.lngs) (λ t. G.lngs)

    accepted_is : (lng : ℕ) (e : Entry) → last_handed_out ≤ most → IsLng lng → IsEntry e → bounds.IsKept e.what → IsLogState most (accepted g lng e)
    accepted_is lng e enough h i k = let s = entry_accepted e e.what g.entries i k has in
        record { sealed = omega (arith, i.ballot_most, enough); trim = G.trim; rise = s.rise; entries = s.entries; summaries = G.summaries; lngs = raised_is (epoch_of e.number) lng h; lost_to = G.lost_to }

    sealed_is : (b : ℕ) → b ≤ most → IsLogState most (sealed_by g b)
    sealed_is b h = record { sealed = h; trim = G.trim; rise = G.rise; entries = G.entries; summaries = G.summaries; lngs = G.lngs; lost_to = G.lost_to }

    trimmed_is : (t : ℕ) → Is64 t → IsLogState most (trimmed_to g t)
    trimmed_is t h = record {
      sealed = G.sealed;
      trim = greater g.trim t G.trim h;
      rise = ordered-keep_keys (λ s. nat_lt (max g.trim t) s) g.entries G.rise;
      entries = all-keep_keys IsStored (λ s. nat_lt (max g.trim t) s) g.entries G.entries;
      summaries = G.summaries;
      lngs = G.lngs;
      lost_to = G.lost_to;
    }

    cleaned_is : (epoch : ℕ) (y : Summary) → IsEpoch epoch → IsSummary epoch y → IsLogState most (cleaned g epoch y)
    cleaned_is epoch y h i = record {
      sealed = G.sealed;
      trim = greater g.trim y.trim G.trim i.trim;
      rise = ordered-keep (λ s e. survives_clean (max g.trim y.trim) epoch y e) g.entries G.rise;
      entries = all-keep IsStored (λ s e. survives_clean (max g.trim y.trim) epoch y e) g.entries G.entries;
      summaries = all-put IsClosed epoch y g.summaries (record { epoch = h; summary = i }) G.summaries;
      lngs = all-take_out IsGood epoch g.lngs G.lngs;
      lost_to = G.lost_to;
    }

    refilled_with_is : (es : List Entry) → AreEntries es → AreKept es → IsLogState most (refilled_with g es)
    refilled_with_is es a k = let s = entries_refilled es g.entries a k has in record { sealed = G.sealed; trim = G.trim; rise = s.rise; entries = s.entries; summaries = G.summaries; lngs = G.lngs; lost_to = G.lost_to }

    refilled_is : IsLogState most (refilled g)
    refilled_is = record { sealed = G.sealed; trim = G.trim; rise = G.rise; entries = G.entries; summaries = G.summaries; lngs = G.lngs; lost_to = G.lost_to }

  lost_is : (c : ℕ) → c ≤ most → IsLogState most (lost_log c)
  lost_is c h = record { sealed = omega arith; trim = omega arith; rise = no_entries; entries = tt; summaries = tt; lngs = tt; lost_to = h }

  empty_is : IsLogState most empty_log
  empty_is = record { sealed = omega arith; trim = omega arith; rise = no_entries; entries = tt; summaries = tt; lngs = tt; lost_to = omega arith }

  -- ---- a plain state ----

  or_empty : (o : Option Log) → ((g : Log) → o ≡ Some g → IsLogState most g) → IsLogState most (unwrap_or o empty_log)
  or_empty None f = empty_is
  or_empty (Some g) f = f g refl

  pub unformatted_is : IsPlain most unformatted
  unformatted_is = record { generation = omega arith; logs = tt }

  pub log_state : (p : Plain) (l : ℕ) → IsPlain most p → IsLogState most (log_of p l)
  log_state p l P = or_empty (find l p.logs) (λ g h. (all-find (IsLogAt most) l p.logs g P.logs h).state)

  -- each summary is one of the epoch that it stands under
  pub summaries_are : (p : Plain) (l e : ℕ) (y : Summary) → IsPlain most p → find e (log_of p l).summaries ≡ Some y → IsSummary e y
  summaries_are p l e y P h = let g = log_of p l in (all-find IsClosed e g.summaries y (log_state p l P).summaries h).summary

  logs_lost : (ds : List (ℕ × ℕ)) → AllByRecursion (IsLostTo most) ds → AllByRecursion (IsLogAt most) (lost_logs ds)
  logs_lost [] a = tt
  logs_lost (d ∷ ds) a = (record { log = a.0.log; state = lost_is d.1 a.0.epoch }, logs_lost ds a.1)

  with_is : (p : Plain) (l : ℕ) (g : Log) → IsPlain most p → IsLog l → IsLogState most g → IsPlain most (with_log p l g)
  with_is p l g P h G = record { generation = P.generation; logs = all-put (IsLogAt most) l g p.logs (record { log = h; state = G }) P.logs }

  pub apply_is : (p : Plain) (o : Op) → last_handed_out ≤ most → IsPlain most p → IsKept most o → IsPlain most (apply p o)
  unfolding apply
  apply_is p (ops.Format generation epochs) enough P k = record { generation = k.0; logs = logs_lost epochs k.1 }
  apply_is p (ops.Accept l lng e) enough P k = with_is p l (accepted (log_of p l) lng e) P k.0 (accepted_is (log_of p l) (log_state p l P) lng e enough k.1 k.2 k.3)
  apply_is p (ops.Seal l b) enough P k = with_is p l (sealed_by (log_of p l) b) P k.0 (sealed_is (log_of p l) (log_state p l P) b k.1)
  apply_is p (ops.Clean l epoch y) enough P k = with_is p l (cleaned (log_of p l) epoch y) P k.0 (cleaned_is (log_of p l) (log_state p l P) epoch y k.1 k.2)
  apply_is p (ops.Trim l t) enough P k = with_is p l (trimmed_to (log_of p l) t) P k.0 (trimmed_is (log_of p l) (log_state p l P) t k.1)
  apply_is p (ops.Refill l es) enough P k = with_is p l (refilled_with (log_of p l) es) P k.0 (refilled_with_is (log_of p l) (log_state p l P) es k.1 k.2)
  apply_is p (ops.Refilled l) enough P k = with_is p l (refilled (log_of p l)) P k (refilled_is (log_of p l) (log_state p l P))

-- ---- what a journal's body carries ----

epochs_carried : (from : ℕ) (ds : List (ℕ × ℕ)) → AreEpochs from ds → AllByRecursion (IsLostTo last_carried) ds
epochs_carried from [] a = tt
epochs_carried from (d ∷ ds) a = (record { log = a.1; epoch = omega (arith, a.3) }, epochs_carried (d.0 + 1) ds a.4)

pub op_carried : (o : Op) → IsOp o → IsKept last_carried o
op_carried (ops.Format generation epochs) i = (i.0, epochs_carried 1 epochs i.2)
op_carried (ops.Accept l lng e) i = i
op_carried (ops.Seal l b) i = (i.0, omega (arith, i.1.1))
op_carried (ops.Clean l epoch y) i = i
op_carried (ops.Trim l t) i = i
op_carried (ops.Refill l es) i = (i.0, i.3, i.5)
op_carried (ops.Refilled l) i = i
