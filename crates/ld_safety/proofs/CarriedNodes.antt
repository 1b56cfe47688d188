-- What a node keeps and answers carries only what it was given.
use Rattle.std.proofs.Common.{◌-◌, ◌≡◌, ◌∙◌, ◌⊎◌, ◌≤◌, ◌<◌, ℕ, max, inl, inr, refl, ap, sym, subst, Bool, true, false, cond, if◌then◌else◌, suc, nat_lt, nat_le, ◌==◌, List, [], ◌∷◌, length, take, Option, Some, None, arith}
use Rattle.ld_op.specs.Handles.{handled_by, ballot_of}
use Rattle.std.specs.Option.{unwrap_or}
use Rattle.std.proofs.lemmas.Bool.{and_parts, not-true, leb-true, ltb-true, eqb-true, cases_order}
use Rattle.std.specs.Ordering.{nat_cmp}
use Rattle.std.specs.BTreeMap.{is_at}
use Rattle.ld_table.specs.Table.{find, put}
use Rattle.ld_table.specs.Words.{values}
use Rattle.ld_table.proofs.Laws.{put_cases}
use Rattle.ld_lsn.specs.Number.{epoch_of, esn_of, home_epoch, numbered, last_esn, home_esn}
use Rattle.ld_msg.specs.declared.msg.What.{What}
use Rattle.ld_msg.specs.declared.msg.What.TheVariants.{Rec, Hole, Bridge, Plug, Withheld}
use Rattle.ld_msg.specs.declared.msg.Entry.{Entry}
use Rattle.ld_msg.specs.declared.msg.Summary.{Summary}
use Rattle.ld_msg.specs.declared.msg.Who.{Who}
use Rattle.ld_msg.specs.declared.msg.Who.TheVariants as whos
use Rattle.ld_msg.specs.declared.msg.Body.{Body}
use Rattle.ld_msg.specs.declared.msg.Body.TheVariants as bodies
use Rattle.ld_msg.specs.Digest.{is_bridge}
use Rattle.ld_op.specs.declared.op.Op.{Op}
use Rattle.ld_op.specs.declared.op.Op.TheVariants as ops
use Rattle.ld_op.specs.Plain.{Plain, Log, log_of, empty_log, unformatted, with_log, lost_logs, lost_log, accepted, accept_entry, lng_in, lng_at, raised_lng, sealed_by, trimmed_to, cleaned, refill_entries, refilled_with, refilled, apply, epoch_zero, summary_at, is_lost}
use Rattle.ld_op.specs.Answers.{Handled, Decision, Lost, CleanAlready, Trimmed, Sealed, Same, Take, store_decision, digest_decision, refusal, store_answer, digest_answer, digest_page, taken, on_store, on_digest_ask, on_clean, clean_op, on_trim, read_answer, entries_within, page_upto, page_limit, last_number, readable, lets_read, withheld_in}
use Rattle.ld_op.specs.Ticks.{on_page, page_op, refill_op, lacking, as_closed, is_missing}
use Rattle.ld_machine.specs.World.{In}
use Rattle.ld_safety.proofs.Lists.{Some_inj, cond_both, branch, In-map}
use Rattle.ld_safety.proofs.Members.{In_filter, In_take, In_values, find_in, In_put, In_take_out, In_keep, In_keep_keys}
use Rattle.ld_safety.proofs.NodeSteps.{store_decided, ask_decided, read_answered, missing_clean}
use Rattle.ld_safety.proofs.Carried as carried
use Rattle.ld_safety.proofs.Withheld.{told_from, told_withheld, of_one}

cases_le : (a b : ℕ) → (a ≤ b) ⊎ (b ≤ a)
cases_le a b = elim (cases_order a b) [ inl e ↦ inl (omega arith) | inr (inl l) ↦ inl (omega arith) | inr (inr l) ↦ inr (omega arith) ]

-- ---- how far a page reaches ----

pub within : (g : Log) (from last : ℕ) (e : Entry) → In e (entries_within g from last) → (from ≤ e.number) × (e.number ≤ last)
within g from last e i = let f = In_filter _ e (values g.entries) i in let p = and_parts (nat_le from e.number) (nat_le e.number last) f.1 in (leb-true _ _ p.0, leb-true _ _ p.1)

last_in : (e : Entry) (es : List Entry) → (f : Entry) × In f (e ∷ es) × (f.number ≡ last_number (e ∷ es))
last_in e [] = (e, inl refl, refl)
last_in e (x ∷ es) = let r = last_in x es in (r.0, inr r.1, r.2)

last_of_some : (n : ℕ) (es : List Entry) → 0 < length es → (f : Entry) × In f es × (f.number ≡ last_number (take (suc n) es))
last_of_some n [] h = absurd (omega arith)
last_of_some n (e ∷ es) h = let r = last_in e (take n es) in (r.0, In_take (suc n) r.0 (e ∷ es) r.1, r.2)

-- a page reaches an entry of its list, or the bound
pub upto_cases : (es : List Entry) (bound : ℕ) → ((f : Entry) × In f es × (f.number ≡ page_upto es bound)) ⊎ (page_upto es bound ≡ bound)
upto_cases es bound = cond_both (nat_lt page_limit (length es)) (last_number (take page_limit es)) bound (λ u. ((f : Entry) × In f es × (f.number ≡ u)) ⊎ (u ≡ bound))
    (λ t. let l = ltb-true page_limit (length es) t in inl (last_of_some 63 es (omega arith))) (λ t. inr refl)

record DigestUpto (from upto : ℕ) : Type 0 where
  place : 0 < esn_of upto
  same_epoch : epoch_of upto ≡ epoch_of from

same_place : (from n : ℕ) → 0 < esn_of from → from ≤ n → n ≤ numbered (epoch_of from) last_esn → DigestUpto from n
same_place from n p a b = let e : epoch_of n ≡ epoch_of from = omega arith in record { place = omega arith; same_epoch = e }

digest_upto : (g : Log) (from : ℕ) → 0 < esn_of from → DigestUpto from (page_upto (entries_within g from (numbered (epoch_of from) last_esn)) (numbered (epoch_of from) last_esn))
digest_upto g from p = elim (upto_cases (entries_within g from (numbered (epoch_of from) last_esn)) (numbered (epoch_of from) last_esn)) [
  | inl a ↦ let w = within g from (numbered (epoch_of from) last_esn) a.0 a.1 in subst (DigestUpto from) a.2 (same_place from a.0.number p w.0 w.1)
  | inr a ↦ subst (DigestUpto from) (sym a) (same_place from (numbered (epoch_of from) last_esn) p (omega arith) (omega arith))
]

module _ (E : ℕ → ℕ → ℕ → What → Type 0) (T : ℕ → ℕ → Type 0) (Y : ℕ → ℕ → Summary → Type 0) (O : ℕ → ℕ → Type 0) (V : ℕ → Bool → Entry → Type 0) (W : ℕ → ℕ → Type 0) (R : ℕ → ℕ → ℕ → What → Type 0) (G : ℕ → ℕ → ℕ → Type 0) (K : carried.Sound E T Y O V W R G) where
  LogFine : ℕ → Log → Type 0
  LogFine l g = carried.LogOk E T Y O V W R G l g

  -- ---- ops ----
  max_trim : (l a b : ℕ) → T l a → T l b → T l (max a b)
  max_trim l a b x y = elim (cases_le a b) [ inl e ↦ subst (T l) (let z : b ≡ max a b = omega arith in z) y | inr e ↦ subst (T l) (let z : a ≡ max a b = omega arith in z) x ]

  -- what holds of each entry of a table still does after a store of one that it holds of
  accept_all : (P : ℕ × Entry → Type 0) (e : Entry) (w : What) (m : List (ℕ × Entry)) → P (e.number, e) → ((p : ℕ × Entry) → In p m → P p) → (p : ℕ × Entry) → In p (accept_entry e w m) → P p
  accept_all P e (Rec p) m h a q i = elim (In_put e.number e m q i) [ inl x ↦ subst P (sym x) h | inr x ↦ a q x ]
  accept_all P e Hole m h a q i = elim (In_put e.number e m q i) [ inl x ↦ subst P (sym x) h | inr x ↦ a q x ]
  accept_all P e Plug m h a q i = elim (In_put e.number e m q i) [ inl x ↦ subst P (sym x) h | inr x ↦ a q x ]
  accept_all P e Withheld m h a q i = elim (In_put e.number e m q i) [ inl x ↦ subst P (sym x) h | inr x ↦ a q x ]
  accept_all P e Bridge m h a q i = elim (In_put e.number e _ q i) [ inl x ↦ subst P (sym x) h | inr x ↦ a q (In_keep _ m q x) ]

  refill_all : (P : ℕ × Entry → Type 0) (es : List Entry) (m : List (ℕ × Entry)) → ((e : Entry) → In e es → P (e.number, e)) → ((p : ℕ × Entry) → In p m → P p) → (p : ℕ × Entry) → In p (refill_entries es m) → P p
  refill_all P [] m h a = a
  refill_all P (e ∷ es) m h a = refill_all P es (put e.number e m) (λ x i. h x (inr i)) (λ q i. elim (In_put e.number e m q i) [ inl x ↦ subst P (sym x) (h e (inl refl)) | inr x ↦ a q x ])

  IsKept : ℕ → ℕ × Entry → Type 0
  IsKept l p = (p.1.number ≡ p.0) × carried.KeptOk E T Y O V W R G l p.1

  IsUnclean : ℕ → List (ℕ × Summary) → ℕ × Entry → Type 0
  IsUnclean l ys p = find (epoch_of p.1.number) ys ≡ None → carried.EntryOk E T Y O V W R G l p.1

  goods_ok : (l epoch lng : ℕ) (m : List (ℕ × ℕ)) → G l epoch lng → ((p : ℕ × ℕ) → In p m → G l p.0 p.1) → (p : ℕ × ℕ) → In p (raised_lng epoch lng m) → G l p.0 p.1
  goods_ok l epoch lng m h a = cond_both (nat_lt (lng_in m epoch) lng) (put epoch lng m) m (λ z. (p : ℕ × ℕ) → In p z → G l p.0 p.1)
      (λ t p i. elim (In_put epoch lng m p i) [ inl x ↦ subst (λ (z : ℕ × ℕ). G l z.0 z.1) (sym x) h | inr x ↦ a p x ]) (λ t. a)

  -- what an op is given
  abbrev pub OpOk : Plain → Op → Type 0
  OpOk p (ops.Format generation epochs) = Unit {0}
  OpOk p (ops.Accept l lng e) = carried.EntryOk E T Y O V W R G l e × G l (epoch_of e.number) lng
  OpOk p (ops.Seal l b) = Unit {0}
  OpOk p (ops.Clean l epoch y) = Y l epoch y
  OpOk p (ops.Trim l t) = T l t
  OpOk p (ops.Refill l es) = (e : Entry) → In e es → carried.KeptOk E T Y O V W R G l e × (find (epoch_of e.number) (log_of p l).summaries ≡ None → ⊥)
  OpOk p (ops.Refilled l) = Unit {0}

  empty_ok : (l : ℕ) (c : ℕ) → carried.LogOk E T Y O V W R G l (lost_log c)
  empty_ok l c = record { entries = λ p i. absurd i; trim = K.zero_trim l; summaries = λ p i. absurd i; goods = λ p i. absurd i; unclean = λ p i. absurd i }

  with_log_ok : (p : Plain) (l : ℕ) (g : Log) → carried.PlainOk E T Y O V W R G p → carried.LogOk E T Y O V W R G l g → carried.PlainOk E T Y O V W R G (with_log p l g)
  with_log_ok p l g a h m = elim (put_cases m l g p.logs) [
    | inl e ↦ subst (λ o. carried.LogOk E T Y O V W R G m (unwrap_or o empty_log)) (sym e.1) (subst (λ k. carried.LogOk E T Y O V W R G k g) (sym e.0) h)
    | inr e ↦ subst (λ o. carried.LogOk E T Y O V W R G m (unwrap_or o empty_log)) (sym e.1) (a m)
  ]

  pub blank_ok : carried.PlainOk E T Y O V W R G unformatted
  unfolding find
  blank_ok l = record { entries = λ p i. absurd i; trim = K.zero_trim l; summaries = λ p i. absurd i; goods = λ p i. absurd i; unclean = λ p i. absurd i }

  formatted_ok : (ds : List (ℕ × ℕ)) (l : ℕ) → carried.LogOk E T Y O V W R G l (unwrap_or (find l (lost_logs ds)) empty_log)
  unfolding find
  formatted_ok [] l = record { entries = λ p i. absurd i; trim = K.zero_trim l; summaries = λ p i. absurd i; goods = λ p i. absurd i; unclean = λ p i. absurd i }
  formatted_ok (d ∷ ds) l = formatted_or (is_at (nat_cmp l) d.0) (find l (lost_logs ds)) (formatted_ok ds l) where
    formatted_or : (b : Bool) (o : Option Log) → carried.LogOk E T Y O V W R G l (unwrap_or o empty_log) → carried.LogOk E T Y O V W R G l (unwrap_or (cond b (Some (lost_log d.1)) o) empty_log)
    formatted_or true o h = empty_ok l d.1
    formatted_or false o h = h

  pub op_ok : (p : Plain) (o : Op) → carried.PlainOk E T Y O V W R G p → OpOk p o → carried.PlainOk E T Y O V W R G (apply p o)
  unfolding apply IsKept IsUnclean
  op_ok p (ops.Format generation epochs) a h = formatted_ok epochs
  op_ok p (ops.Accept l lng e) a h = let g = a l in with_log_ok p l (accepted (log_of p l) lng e) a (record {
    entries = accept_all (IsKept l) e e.what (log_of p l).entries (refl, K.kept l e.ballot e.number e.what h.0) g.entries;
    trim = g.trim;
    summaries = g.summaries;
    goods = goods_ok l (epoch_of e.number) lng (log_of p l).lngs h.1 g.goods;
    unclean = accept_all (IsUnclean l (log_of p l).summaries) e e.what (log_of p l).entries (λ f. h.0) g.unclean;
  })
  op_ok p (ops.Seal l b) a h = let g = a l in with_log_ok p l (sealed_by (log_of p l) b) a (record { entries = g.entries; trim = g.trim; summaries = g.summaries; goods = g.goods; unclean = g.unclean })
  op_ok p (ops.Clean l epoch y) a h = let g = a l in with_log_ok p l (cleaned (log_of p l) epoch y) a (record {
    entries = λ q i. g.entries q (In_keep _ (log_of p l).entries q i);
    trim = max_trim l _ _ g.trim (K.closing_trim l epoch y h);
    summaries = λ q i. elim (In_put epoch y (log_of p l).summaries q i) [ inl x ↦ subst (λ (z : ℕ × Summary). Y l z.0 z.1) (sym x) h | inr x ↦ g.summaries q x ];
    goods = λ q i. g.goods q (In_take_out epoch (log_of p l).lngs q i);
    unclean = λ q i f. g.unclean q (In_keep _ (log_of p l).entries q i) (elim (put_cases (epoch_of q.1.number) epoch y (log_of p l).summaries) [ inl x ↦ absurd (let z : Some y ≡ None = sym x.1 ∙ f in cc) | inr x ↦ sym x.1 ∙ f ]);
  })
  op_ok p (ops.Trim l t) a h = let g = a l in with_log_ok p l (trimmed_to (log_of p l) t) a (record {
    entries = λ q i. g.entries q (In_keep_keys _ (log_of p l).entries q i).0;
    trim = max_trim l _ _ g.trim h;
    summaries = g.summaries;
    goods = g.goods;
    unclean = λ q i f. g.unclean q (In_keep_keys _ (log_of p l).entries q i).0 f;
  })
  op_ok p (ops.Refill l es) a h = let g = a l in with_log_ok p l (refilled_with (log_of p l) es) a (record {
    entries = refill_all (IsKept l) es (log_of p l).entries (λ e i. (refl, (h e i).0)) g.entries;
    trim = g.trim;
    summaries = g.summaries;
    goods = g.goods;
    unclean = refill_all (IsUnclean l (log_of p l).summaries) es (log_of p l).entries (λ e i f. absurd ((h e i).1 f)) g.unclean;
  })
  op_ok p (ops.Refilled l) a h = let g = a l in with_log_ok p l (refilled (log_of p l)) a (record { entries = g.entries; trim = g.trim; summaries = g.summaries; goods = g.goods; unclean = g.unclean })

  -- ---- answers ----
  summary_ok : (l e : ℕ) (g : Log) (y : Summary) → carried.LogOk E T Y O V W R G l g → summary_at g e ≡ Some y → Y l e y
  unfolding summary_at
  summary_ok l e g y a h = elim (branch (e == 0) (Some epoch_zero) (find e g.summaries) (Some y) h) [
    | inl t ↦ subst (λ k. Y l k y) (sym (eqb-true e 0 t.0)) (subst (λ z. Y l 0 z) (Some_inj t.1) (K.zero_closed l))
    | inr t ↦ a.summaries (e, y) (find_in e g.summaries y t.1)
  ]

  within_ok : (l : ℕ) (g : Log) (from last : ℕ) → carried.LogOk E T Y O V W R G l g → carried.AllKeptOk E T Y O V W R G l (entries_within g from last)
  within_ok l g from last a e i = let f = In_filter _ e (values g.entries) i in let v = In_values e g.entries f.0 in (a.entries (v.0, e) v.1).1

  -- the entries of an epoch that isn't clean here
  unclean_within : (l : ℕ) (g : Log) (from : ℕ) → carried.LogOk E T Y O V W R G l g → 0 < esn_of from → summary_at g (epoch_of from) ≡ None → carried.EntriesOk E T Y O V W R G l (entries_within g from (numbered (epoch_of from) last_esn))
  unfolding summary_at
  unclean_within l g from a p u e i =
      let f = In_filter _ e (values g.entries) i in let v = In_values e g.entries f.0 in let w = within g from (numbered (epoch_of from) last_esn) e i in
      let same : epoch_of e.number ≡ epoch_of from = (same_place from e.number p w.0 w.1).same_epoch in
      a.unclean (v.0, e) v.1 (ap (λ k. find k g.summaries) same ∙ elim (branch (epoch_of from == 0) (Some epoch_zero) (find (epoch_of from) g.summaries) None u) [ inl t ↦ absurd (let z = t.1 in cc) | inr t ↦ t.1 ])

  good_at : (l e : ℕ) (g : Log) → carried.LogOk E T Y O V W R G l g → G l e (lng_at g e)
  good_at l e g a = by_found (find e g.lngs) refl where
    by_found : (o : Option ℕ) → find e g.lngs ≡ o → G l e (unwrap_or o 0)
    by_found None f = K.zero_good l e
    by_found (Some k) f = a.goods (e, k) (find_in e g.lngs k f)

  -- an answer to a refused message
  refused_ok : (l generation s : ℕ) (y : ℕ) (d : Decision) (b : Body) → ((z : Summary) → d ≡ CleanAlready z → (0 < esn_of s) × Y l (epoch_of s) z) → ((t : ℕ) → d ≡ Trimmed t → T l t × O l (epoch_of s)) → refusal generation s d ≡ Some b → carried.BodyOk E T Y O V W R G l (whos.Node y) b
  refused_ok l generation s y (Lost end) b c t h = subst (carried.BodyOk E T Y O V W R G l (whos.Node y)) (Some_inj h) tt
  refused_ok l generation s y (CleanAlready z) b c t h = subst (carried.BodyOk E T Y O V W R G l (whos.Node y)) (Some_inj h) (c z refl)
  refused_ok l generation s y (Trimmed k) b c t h = subst (carried.BodyOk E T Y O V W R G l (whos.Node y)) (Some_inj h) (t k refl)
  refused_ok l generation s y (Sealed k) b c t h = subst (carried.BodyOk E T Y O V W R G l (whos.Node y)) (Some_inj h) tt
  refused_ok l generation s y Same b c t h = absurd cc
  refused_ok l generation s y Take b c t h = absurd cc

  stored_ok : (l generation s y : ℕ) (g : Log) (d : Decision) (b : Body) → carried.LogOk E T Y O V W R G l g → 0 < esn_of s → O l (epoch_of s) → ((z : Summary) → d ≡ CleanAlready z → Y l (epoch_of s) z) → ((t : ℕ) → d ≡ Trimmed t → T l t) → store_answer generation s d ≡ Some b → carried.BodyOk E T Y O V W R G l (whos.Node y) b
  stored_ok l generation s y g (Lost end) b a p o c t h = refused_ok l generation s y (Lost end) b (λ z e. absurd cc) (λ k e. (t k e, o)) h
  stored_ok l generation s y g (CleanAlready z) b a p o c t h = refused_ok l generation s y (CleanAlready z) b (λ z e. (p, c z e)) (λ k e. (t k e, o)) h
  stored_ok l generation s y g (Trimmed k) b a p o c t h = refused_ok l generation s y (Trimmed k) b (λ z e. absurd cc) (λ j e. (t j e, o)) h
  stored_ok l generation s y g (Sealed k) b a p o c t h = refused_ok l generation s y (Sealed k) b (λ z e. absurd cc) (λ j e. (t j e, o)) h
  stored_ok l generation s y g Same b a p o c t h = subst (carried.BodyOk E T Y O V W R G l (whos.Node y)) (Some_inj h) o
  stored_ok l generation s y g Take b a p o c t h = subst (carried.BodyOk E T Y O V W R G l (whos.Node y)) (Some_inj h) o

  page_ok : (l from y : ℕ) (g : Log) → carried.LogOk E T Y O V W R G l g → 0 < esn_of from → O l (epoch_of from) → summary_at g (epoch_of from) ≡ None
      → carried.BodyOk E T Y O V W R G l (whos.Node y) (digest_page g from (entries_within g from (numbered (epoch_of from) last_esn)) (numbered (epoch_of from) last_esn))
  page_ok l from y g a p o c = let u = digest_upto g from p in (
    record {
      entries = λ e i. unclean_within l g from a p c e (In_take page_limit e _ i);
      trim = a.trim;
      good = good_at l (epoch_of from) g a;
      place = p;
      reached = o;
      upto_place = u.place;
      same_epoch = u.same_epoch;
    },
    tt,
  )

  -- an ask is answered by a page
  abbrev IsPage : Decision → Type 0
  IsPage d = (d ≡ Same) ⊎ (d ≡ Take)

  told_ok : (l generation from y : ℕ) (g : Log) (d : Decision) (b : Body) → carried.LogOk E T Y O V W R G l g → 0 < esn_of from → O l (epoch_of from) → ((z : Summary) → d ≡ CleanAlready z → Y l (epoch_of from) z) → ((t : ℕ) → d ≡ Trimmed t → T l t) → (IsPage d → summary_at g (epoch_of from) ≡ None) → digest_answer generation g from d ≡ Some b → carried.BodyOk E T Y O V W R G l (whos.Node y) b
  told_ok l generation from y g (Lost end) b a p o c t u h = refused_ok l generation from y (Lost end) b (λ z e. absurd cc) (λ j e. (t j e, o)) h
  told_ok l generation from y g (CleanAlready z) b a p o c t u h = refused_ok l generation from y (CleanAlready z) b (λ z e. (p, c z e)) (λ j e. (t j e, o)) h
  told_ok l generation from y g (Trimmed k) b a p o c t u h = refused_ok l generation from y (Trimmed k) b (λ z e. absurd cc) (λ j e. (t j e, o)) h
  told_ok l generation from y g (Sealed k) b a p o c t u h = refused_ok l generation from y (Sealed k) b (λ z e. absurd cc) (λ j e. (t j e, o)) h
  told_ok l generation from y g Same b a p o c t u h = subst (carried.BodyOk E T Y O V W R G l (whos.Node y)) (Some_inj h) (page_ok l from y g a p o (u (inl refl)))
  told_ok l generation from y g Take b a p o c t u h = subst (carried.BodyOk E T Y O V W R G l (whos.Node y)) (Some_inj h) (page_ok l from y g a p o (u (inr refl)))

  -- what a decision tells
  Telling : ℕ → ℕ → Decision → Type 0
  Telling l s d = ((z : Summary) → d ≡ CleanAlready z → Y l (epoch_of s) z) × ((t : ℕ) → d ≡ Trimmed t → T l t)

  store_tells : (l : ℕ) (g : Log) (e : Entry) → carried.LogOk E T Y O V W R G l g → Telling l e.number (store_decision g e)
  unfolding Telling
  store_tells l g e a = store_decided g e (Telling l e.number) (record {
    lost = λ t. ((λ z q. absurd cc), (λ k q. absurd cc));
    clean = λ y t h. ((λ z q. summary_ok l (epoch_of e.number) g z a (h ∙ ap Some (let x : y ≡ z = cc in x))), (λ k q. absurd cc));
    trimmed = λ s h. ((λ z q. absurd cc), (λ k q. subst (T l) (let x : g.trim ≡ k = cc in x) a.trim));
    sealed = λ s x h. ((λ z q. absurd cc), (λ k q. absurd cc));
    same = λ s x y h. ((λ z q. absurd cc), (λ k q. absurd cc));
    takes = λ s x y. ((λ z q. absurd cc), (λ k q. absurd cc));
  })

  ask_tells : (l : ℕ) (g : Log) (ballot from : ℕ) → carried.LogOk E T Y O V W R G l g → Telling l from (digest_decision g ballot from)
  unfolding Telling
  ask_tells l g ballot from a = ask_decided g ballot from (Telling l from) (record {
    lost = λ t. ((λ z q. absurd cc), (λ k q. absurd cc));
    clean = λ y t h. ((λ z q. summary_ok l (epoch_of from) g z a (h ∙ ap Some (let x : y ≡ z = cc in x))), (λ k q. absurd cc));
    sealed = λ s x. ((λ z q. absurd cc), (λ k q. absurd cc));
    same = λ s x. ((λ z q. absurd cc), (λ k q. absurd cc));
    takes = λ s x. ((λ z q. absurd cc), (λ k q. absurd cc));
  })

  asks_unclean : (g : Log) (ballot from : ℕ) → IsPage (digest_decision g ballot from) → summary_at g (epoch_of from) ≡ None
  asks_unclean g ballot from = ask_decided g ballot from (λ d. IsPage d → summary_at g (epoch_of from) ≡ None) (record {
    lost = λ t h. absurd (elim h [ inl q ↦ cc | inr q ↦ cc ]);
    clean = λ y t x h. absurd (elim h [ inl q ↦ cc | inr q ↦ cc ]);
    sealed = λ s x h. s.unclean;
    same = λ s x h. s.unclean;
    takes = λ s x h. s.unclean;
  })

  -- what a node's answer to a reader may show
  pub record Shows (l : ℕ) (g : Log) (released : ℕ) : Type 0 where
    pub clean : (from : ℕ) (y : Summary) (k : ℕ) (e : Entry) → g.trim < from → summary_at g (home_epoch from) ≡ Some y → home_esn from < y.end → is_lost g (home_epoch from) ≡ false → In (k, e) g.entries → from ≤ e.number → e.number ≤ numbered (home_epoch from) (y.end - 1) → is_bridge e.what ≡ false → V l true e
    pub open_still : (from : ℕ) (k : ℕ) (e : Entry) → lets_read released from ≡ true → In (k, e) g.entries → from ≤ e.number → e.number ≤ released → V l false e

  shown_of : (l : ℕ) (clean : Bool) (g : Log) (from last : ℕ) → ((k : ℕ) (e : Entry) → In (k, e) g.entries → from ≤ e.number → e.number ≤ last → is_bridge e.what ≡ false → V l clean e) → carried.ShownOk E T Y O V W R G l clean (take page_limit (readable g from last))
  shown_of l clean g from last h e i = let f = In_filter _ e _ (In_take page_limit e _ i) in let w = within g from last e f.0 in let u = In_filter _ e (values g.entries) f.0 in let v = In_values e g.entries u.0 in h v.0 e v.1 w.0 w.1 (not-true _ f.1)

  read_ok : (l generation released round from y : ℕ) (g : Log) → carried.LogOk E T Y O V W R G l g → Shows l g released → W l released → carried.BodyOk E T Y O V W R G l (whos.Node y) (read_answer generation g released round from)
  read_ok l generation released round from y g a S rel = read_answered generation g released round from (carried.BodyOk E T Y O V W R G l (whos.Node y)) (record {
    trimmed = λ h. a.trim;
    ended = λ z x h k. record { summary = z; closed = summary_ok l (home_epoch from) g z a h; past = k; is = refl; lossy = refl };
    lost_clean = λ z x h k t. tt;
    lost = λ x h t. tt;
    clean = λ z x h k t. (((λ e i. within_ok l g _ _ a e (In_filter _ e _ (In_take page_limit e _ (told_from e _ i).0)).0), (λ e i. shown_of l true g from (numbered (home_epoch from) (z.end - 1)) (λ j e u v w o. S.clean from z j e x h k t u v w o) e (told_from e _ i).0)), tt);
    open_page = λ x h t u. (((λ e i. within_ok l g _ _ a e (In_filter _ e _ (In_take page_limit e _ (told_from e _ i).0)).0), (λ e i. shown_of l false g from released (λ j e v w z o. S.open_still from j e u v w z) e (told_from e _ i).0)), tt);
    waits = λ x. rel;
  })

  -- what a node answers to an ask for all says what it holds
  read_whole : (l generation released round from k : ℕ) (g : Log) → carried.LogOk E T Y O V W R G l g → carried.WholeTo (whos.Node k) (read_answer generation g released round from)
  read_whole l generation released round from k g a = read_answered generation g released round from (carried.WholeTo (whos.Node k)) (record {
    trimmed = λ h. tt;
    ended = λ z x h k. tt;
    lost_clean = λ z x h k t. tt;
    lost = λ x h t. tt;
    clean = λ z x h k t e i. K.whole l e.ballot e.number e.what (within_ok l g _ _ a e (In_filter _ e _ (In_take page_limit e _ i)).0);
    open_page = λ x h t u e i. K.whole l e.ballot e.number e.what (within_ok l g _ _ a e (In_filter _ e _ (In_take page_limit e _ i)).0);
    waits = λ x. tt;
  })

  -- what is said stands where records are withheld
  withheld_ok : (l y n : ℕ) (set excluded : List Bool) (b : Body) → carried.BodyOk E T Y O V W R G l (whos.Node y) b → carried.BodyOk E T Y O V W R G l (whos.Node y) (withheld_in n set excluded b)
  withheld_ok l y n set excluded (bodies.ReadPage round from upto clean es) h = (((λ e i. h.0.0 e (told_withheld n set excluded es e i)), (λ e i. h.0.1 e (told_withheld n set excluded es e i))), tt)
  withheld_ok l y n set excluded _ h = h

  -- what a refill is given
  abbrev pub RefillOk : ℕ → Log → List Entry → Type 0
  RefillOk l g es = (e : Entry) → In e es → is_missing g e.number ≡ true → carried.KeptOk E T Y O V W R G l (as_closed g e)

  lacking_ok : (l : ℕ) (g : Log) (es : List Entry) → RefillOk l g es → (x : Entry) → In x (lacking g es) → carried.KeptOk E T Y O V W R G l x × (find (epoch_of x.number) g.summaries ≡ None → ⊥)
  lacking_ok l g es h x i =
      let m = In-map (as_closed g) x _ i in let f = In_filter _ m.0 es m.1 in let y = missing_clean g m.0.number f.1 in
      subst (λ (z : Entry). carried.KeptOk E T Y O V W R G l z × (find (epoch_of z.number) g.summaries ≡ None → ⊥)) (sym m.2) (h m.0 f.0 f.1, λ n. let z : Some y.0 ≡ None = sym y.1 ∙ n in cc)

  -- every message: what is kept
  taken_ok : (x : Plain) (o p : Op) (d : Decision) → OpOk x o → taken o d ≡ Some p → OpOk x p
  taken_ok x o p Take h e = subst (OpOk x) (Some_inj e) h
  taken_ok x o p (Lost end) h e = absurd cc
  taken_ok x o p (CleanAlready y) h e = absurd cc
  taken_ok x o p (Trimmed t) h e = absurd cc
  taken_ok x o p (Sealed b) h e = absurd cc
  taken_ok x o p Same h e = absurd cc

  clean_ok : (x : Plain) (l e : ℕ) (y : Summary) (o : Option Summary) (p : Op) → Y l e y → clean_op l e y o ≡ Some p → OpOk x p
  clean_ok x l e y None p h q = subst (OpOk x) (Some_inj q) h
  clean_ok x l e y (Some z) p h q = absurd cc

  refill_op_ok : (x : Plain) (l : ℕ) (es : List Entry) (p : Op) → OpOk x (ops.Refill l es) → refill_op l es ≡ Some p → OpOk x p
  refill_op_ok x l [] p h q = absurd cc
  refill_op_ok x l (e ∷ es) p h q = subst (OpOk x) (Some_inj q) h

  if_some : (x : Plain) (b : Bool) (o : Option Op) (p : Op) → (b ≡ true → o ≡ Some p → OpOk x p) → (if b then o else None) ≡ Some p → OpOk x p
  if_some x true o p h q = h refl q
  if_some x false o p h q = absurd cc

  page_keeps : (x : Plain) (l : ℕ) (w : Who) (b : Body) (p : Op) → carried.BodyOk E T Y O V W R G l w b → ((round n upto : ℕ) (es : List Entry) → b ≡ bodies.ReadPage round n upto true es → RefillOk l (log_of x l) es) → page_op (log_of x l) l b ≡ Some p → OpOk x p
  page_keeps x l w (bodies.ReadPage round n upto clean es) p h r q = by_clean clean h r q where
    by_clean : (k : Bool) → carried.BodyOk E T Y O V W R G l w (bodies.ReadPage round n upto k es) → ((a b c : ℕ) (fs : List Entry) → bodies.ReadPage round n upto k es ≡ bodies.ReadPage a b c true fs → RefillOk l (log_of x l) fs) → (if k then refill_op l (lacking (log_of x l) es) else None) ≡ Some p → OpOk x p
    by_clean true h r q = refill_op_ok x l (lacking (log_of x l) es) p (lacking_ok l (log_of x l) es (r round n upto es refl)) q
    by_clean false h r q = absurd cc
  page_keeps x l w (bodies.ReadTrim round n t) p h r q = if_some x (nat_lt (log_of x l).trim t) (Some (ops.Trim l t)) p (λ u e. subst (OpOk x) (Some_inj e) h) q
  page_keeps x l w _ p h r q = absurd cc

  keeps_page : (x : Plain) (l : ℕ) (w : Who) (b : Body) (p : Op) → carried.BodyOk E T Y O V W R G l w b → ((round n upto : ℕ) (es : List Entry) → b ≡ bodies.ReadPage round n upto true es → (log_of x l).lost ≡ true → RefillOk l (log_of x l) es) → (on_page (log_of x l) l b).op ≡ Some p → OpOk x p
  unfolding on_page
  keeps_page x l w b p h r q = if_some x (log_of x l).lost (page_op (log_of x l) l b) p (λ u e. page_keeps x l w b p h (λ i n y es k. r i n y es k u) e) q

  no_answer : (g : Log) (l : ℕ) (b x : Body) → (on_page g l b).answer ≡ Some x → ⊥
  unfolding on_page
  no_answer g l b x q = cc

  pub record HandlesOk (x : Plain) (l y : ℕ) (to : Who) (h : Handled) : Type 0 where
    pub keeps : (p : Op) → h.op ≡ Some p → OpOk x p
    pub answers : (b : Body) → h.answer ≡ Some b → carried.BodyOk E T Y O V W R G l (whos.Node y) b
    pub whole : (b : Body) → h.answer ≡ Some b → carried.WholeTo to b

  -- an answer to a node says what it holds
  to_node : (w : Who) (b : Body) → ((k : ℕ) → carried.WholeTo (whos.Node k) b) → carried.WholeTo w b
  to_node (whos.Node k) b h = h k
  to_node (whos.Sequencer k) b h = tt
  to_node (whos.Reader k) b h = tt

  to_reader : (w : Who) (b : Body) → carried.ReaderWho E T Y O V W R G w → carried.WholeTo w b
  to_reader (whos.Node k) b h = absurd h
  to_reader (whos.Sequencer k) b h = absurd h
  to_reader (whos.Reader k) b h = tt

  refused_whole : (generation s k : ℕ) (d : Decision) (b : Body) → refusal generation s d ≡ Some b → carried.WholeTo (whos.Node k) b
  refused_whole generation s k (Lost end) b h = subst (carried.WholeTo (whos.Node k)) (Some_inj h) tt
  refused_whole generation s k (CleanAlready z) b h = subst (carried.WholeTo (whos.Node k)) (Some_inj h) tt
  refused_whole generation s k (Trimmed t) b h = subst (carried.WholeTo (whos.Node k)) (Some_inj h) tt
  refused_whole generation s k (Sealed t) b h = subst (carried.WholeTo (whos.Node k)) (Some_inj h) tt
  refused_whole generation s k Same b h = absurd cc
  refused_whole generation s k Take b h = absurd cc

  stored_whole : (generation s k : ℕ) (d : Decision) (b : Body) → store_answer generation s d ≡ Some b → carried.WholeTo (whos.Node k) b
  stored_whole generation s k Same b h = subst (carried.WholeTo (whos.Node k)) (Some_inj h) tt
  stored_whole generation s k Take b h = subst (carried.WholeTo (whos.Node k)) (Some_inj h) tt
  stored_whole generation s k d b h = refused_whole generation s k d b h

  told_whole : (generation from k : ℕ) (g : Log) (d : Decision) (b : Body) → digest_answer generation g from d ≡ Some b → carried.WholeTo (whos.Node k) b
  told_whole generation from k g Same b h = subst (carried.WholeTo (whos.Node k)) (Some_inj h) tt
  told_whole generation from k g Take b h = subst (carried.WholeTo (whos.Node k)) (Some_inj h) tt
  told_whole generation from k g d b h = refused_whole generation from k d b h

  pub message_ok : (x : Plain) (n generation l released y : ℕ) (w : Who) (b : Body) → carried.LogOk E T Y O V W R G l (log_of x l) → Shows l (log_of x l) released → W l released → carried.BodyOk E T Y O V W R G l w b
      → ((round n upto : ℕ) (es : List Entry) → b ≡ bodies.ReadPage round n upto true es → (log_of x l).lost ≡ true → RefillOk l (log_of x l) es) → HandlesOk x l y w (handled_by n generation (log_of x l) l (ballot_of w) released b)
  unfolding on_store on_digest_ask on_clean on_trim Telling
  message_ok x self generation l released y w (bodies.Store n lng z) a S rel h r =
      let g = log_of x l in let e : Entry = record { number = n; ballot = ballot_of w; what = z } in let t = store_tells l g e a in record {
        keeps = λ p q. taken_ok x (ops.Accept l lng e) p (store_decision g e) h q;
        answers = λ b q. stored_ok l generation n y g (store_decision g e) b a (K.place l (ballot_of w) n z h.0) (K.reached l (ballot_of w) n z h.0) t.0 t.1 q;
        whole = λ b q. to_node w b (λ k. stored_whole generation n k (store_decision g e) b q);
      }
  message_ok x n generation l released y w (bodies.DigestAsk from) a S rel h r = let g = log_of x l in let t = ask_tells l g (ballot_of w) from a in record {
    keeps = λ p q. taken_ok x (ops.Seal l (ballot_of w)) p (digest_decision g (ballot_of w) from) tt q;
    answers = λ b q. told_ok l generation from y g (digest_decision g (ballot_of w) from) b a h.0 h.1 t.0 t.1 (asks_unclean g (ballot_of w) from) q;
    whole = λ b q. to_node w b (λ k. told_whole generation from k g (digest_decision g (ballot_of w) from) b q);
  }
  message_ok x n generation l released y w (bodies.Clean e s) a S rel h r = record { keeps = λ p q. clean_ok x l e s (summary_at (log_of x l) e) p h q; answers = λ b q. absurd cc; whole = λ b q. absurd cc }
  message_ok x n generation l released y w (bodies.Trim t) a S rel h r = record { keeps = λ p q. if_some x (nat_lt (log_of x l).trim t) (Some (ops.Trim l t)) p (λ u e. subst (OpOk x) (Some_inj e) h) q; answers = λ b q. absurd cc; whole = λ b q. absurd cc }
  message_ok x n generation l released y w (bodies.ReadAsk round from) a S rel h r = record { keeps = λ p q. absurd cc; answers = λ b q. subst (carried.BodyOk E T Y O V W R G l (whos.Node y)) (Some_inj q) (read_ok l generation released round from y (log_of x l) a S rel); whole = λ b q. to_node w b (λ k. subst (carried.WholeTo (whos.Node k)) (Some_inj q) (read_whole l generation released round from k (log_of x l) a)) }
  message_ok x n generation l released y w (bodies.ReadOne round from set excluded) a S rel h r = record {
    keeps = λ p q. absurd cc;
    answers = λ b q. subst (carried.BodyOk E T Y O V W R G l (whos.Node y)) (Some_inj q) (of_one n set excluded (carried.BodyOk E T Y O V W R G l (whos.Node y)) generation (log_of x l) released round from (λ z k. withheld_ok l y n set excluded z k) (read_ok l generation released round from y (log_of x l) a S rel));
    whole = λ b q. to_reader w b h;
  }
  message_ok x n generation l released y w b a S rel h r = record { keeps = λ p q. keeps_page x l w b p h r q; answers = λ o q. absurd (no_answer (log_of x l) l b o q); whole = λ o q. absurd (no_answer (log_of x l) l b o q) }
