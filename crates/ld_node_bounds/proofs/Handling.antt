-- What a node answers to a message is one that a frame can carry, and the op that it keeps is in its bounds.
use Rattle.std.proofs.Common.{◌≡◌, ◌∙◌, ◌⊎◌, ◌≤◌, ◌<◌, ℕ, ◌-◌, ◌^◌, inl, inr, refl, ap, sym, subst, Bool, false, ◌==◌, ◌&&◌, nat_lt, nat_le, cond, List, [], ◌∷◌, map, filter, Option, Some, None, arith}
use Rattle.std.proofs.lemmas.Bool.{cond_both, cases_Bool, and_parts, eqb-true, eqb-false, ltb-true, leb-true, leb-false}
use Rattle.std.specs.Option.{unwrap_or}
use Rattle.ld_table.specs.Table.{find}
use Rattle.ld_lsn.specs.Number.{epoch_of, esn_of, numbered, home_epoch, home_esn, last_esn}
use Rattle.ld_ids.specs.Id.{IsNode, IsLog}
use Rattle.ld_msg.specs.declared.msg.Who.{Who}
use Rattle.ld_msg.specs.declared.msg.Who.TheVariants as whos
use Rattle.ld_msg.specs.declared.msg.What.{What}
use Rattle.ld_msg.specs.declared.msg.What.TheVariants.{Rec, Hole, Bridge, Plug, Withheld}
use Rattle.ld_msg.specs.declared.msg.Entry.{Entry}
use Rattle.ld_msg.specs.declared.msg.Summary.{Summary}
use Rattle.ld_msg.specs.declared.msg.Msg.{Msg}
use Rattle.ld_msg.specs.declared.msg.Body.{Body}
use Rattle.ld_msg.specs.declared.msg.Body.TheVariants as bodies
use Rattle.ld_msg.specs.Bounds as bounds
use Rattle.ld_msg.specs.Bounds.{Is32, IsLng, Is64, IsEpoch, IsEntry, AreKept, IsReadable, AreReadable, IsSummary, AreEntries, IsSequencerHere, IsActor, IsAsker, IsReader, AnswersIn, ballot_of, Fits, IsMessage}
use Rattle.ld_op.specs.declared.op.Op.{Op}
use Rattle.ld_op.specs.declared.op.Op.TheVariants as ops
use Rattle.ld_op.specs.Plain.{Plain, Log, log_of, summary_at, epoch_zero, end_here, end_of, is_lost}
use Rattle.ld_op.specs.Answers as answers
use Rattle.ld_op.specs.Answers.{Handled, Decision, or_clean, is_same, store_decision, store_answer, taken, on_store, digest_decision, digest_answer, on_digest_ask, entries_within, page_upto, page_limit, clean_op, on_clean, on_trim, lets_read, readable, read_page, open_answer, clean_page, epoch_answer, read_answer, withheld_in, one_answer}
use Rattle.ld_op.specs.Ticks as ticks
use Rattle.ld_op.specs.Ticks.{as_closed, is_missing, lacking, refill_op, page_op, on_page}
use Rattle.ld_op.specs.Handles.{handled_by, answer_message}
use Rattle.ld_node_bounds.specs.States.{last_handed_out, last_carried, IsClosed, IsGood, IsLogState, IsPlain}
use Rattle.ld_node_bounds.specs.Messages.{AreMessages, IsKept, MayKeep, MayAnswer, IsHandled}
use Rattle.ld_node_bounds.proofs.Alls.{all-find}
use Rattle.ld_node_bounds.proofs.Numbers.{home_is, numbered_bound, number_bound, epoch_bound, number_from_one, epoch_numbered, esn_numbered, home_of_place, home_at_most, home_esn_is}
use Rattle.ld_node_bounds.proofs.Ops.{log_state}
use Rattle.ld_node_bounds.proofs.Pages.{digest_is, digest_kept, read_is, read_readable, entries-filter, kept-filter, withheld_page, all_withheld}

-- ---- who is answered ----

sequencer_actor : (w : Who) → IsSequencerHere w → IsActor w × AnswersIn w 0
sequencer_actor (whos.Node n) s = absurd s
sequencer_actor (whos.Sequencer e) s = (s, refl)
sequencer_actor (whos.Reader r) s = absurd s

asker_actor : (w : Who) (round : ℕ) → IsAsker w → IsActor w × AnswersIn w round
asker_actor (whos.Node n) round a = (a, tt)
asker_actor (whos.Sequencer e) round a = absurd a
asker_actor (whos.Reader r) round a = (a, tt)

ballot_most : (w : Who) → IsSequencerHere w → ballot_of w ≤ 2 ^ 32 - 2
ballot_most (whos.Node n) s = absurd s
ballot_most (whos.Sequencer e) s = s.1
ballot_most (whos.Reader r) s = absurd s

-- ---- what a node is shown, and a reader ----

kept_shown : (n : ℕ) (x : What) → IsReadable (whos.Node n) x → bounds.IsKept x
kept_shown n (Rec p) h = tt
kept_shown n Hole h = tt
kept_shown n Bridge h = absurd h
kept_shown n Plug h = tt
kept_shown n Withheld h = absurd h

-- what a node reads of others is kept
all_kept : (n : ℕ) (es : List Entry) → AreReadable (whos.Node n) es → AreKept es
all_kept n [] h = tt
all_kept n (e ∷ es) h = (kept_shown n e.what h.0, all_kept n es h.1)

-- an answer to a reader may withhold records
withheld_fits : (n : ℕ) (set excluded : List Bool) (w : Who) → IsReader w → (b : Body) → Fits (whos.Node n) w b → Fits (whos.Node n) w (withheld_in n set excluded b)
withheld_fits n set excluded w r (bodies.ReadPage round from upto clean es) f = (f.0, withheld_page n set excluded from upto es f.1, all_withheld n set excluded w es r f.2)
withheld_fits n set excluded w r b f = f

-- ---- decisions ----

-- what a decision on a number may hold
abbrev IsDecision : ℕ → Decision → Type 0
IsDecision s (answers.Lost end) = Is64 end
IsDecision s (answers.CleanAlready y) = IsSummary (epoch_of s) y
IsDecision s (answers.Trimmed t) = Is64 t
IsDecision s (answers.Sealed by) = Is32 by
IsDecision s answers.Same = Unit {0}
IsDecision s answers.Take = Unit {0}

taken_is : (o : Op) (d : Decision) → IsKept last_handed_out o → MayKeep last_handed_out (taken o d)
taken_is o (answers.Lost end) k = tt
taken_is o (answers.CleanAlready y) k = tt
taken_is o (answers.Trimmed t) k = tt
taken_is o (answers.Sealed by) k = tt
taken_is o answers.Same k = tt
taken_is o answers.Take k = k

module _ {most : ℕ} (small : most ≤ last_carried) (g : Log) (G : IsLogState most g) where
  pub summary_is : (e : ℕ) (y : Summary) → summary_at g e ≡ Some y → ((e ≡ 0) × (y ≡ epoch_zero)) ⊎ IsClosed (e, y)
  unfolding summary_at
  summary_is e y h = elim (cases_Bool (e == 0)) [
    | inl t ↦ (let q : Some epoch_zero ≡ Some y = sym (ap (λ b. cond b (Some epoch_zero) (find e g.summaries)) t) ∙ h in inl (eqb-true e 0 t, cc))
    | inr t ↦ inr (all-find IsClosed e g.summaries y G.summaries (sym (ap (λ b. cond b (Some epoch_zero) (find e g.summaries)) t) ∙ h))
  ]

  -- of each epoch but the first
  summary_later : (e : ℕ) (y : Summary) → 1 ≤ e → summary_at g e ≡ Some y → IsSummary e y
  summary_later e y l h = elim (summary_is e y h) [ inl a ↦ absurd (let z = a.0 in omega arith) | inr a ↦ a.summary ]

  summary_end : (e : ℕ) (y : Summary) → summary_at g e ≡ Some y → (1 ≤ y.end) × (y.end ≤ last_esn)
  summary_end e y h = elim (summary_is e y h) [ inl a ↦ subst (λ (z : Summary). (1 ≤ z.end) × (z.end ≤ last_esn)) (sym a.1) (omega arith, omega arith) | inr a ↦ (a.summary.end, a.summary.end_most) ]

  end_bound : (e : ℕ) (o : Option Summary) → e ≤ 2 ^ 32 - 1 → summary_at g e ≡ o → Is64 (end_of e o)
  end_bound e None l h = omega arith
  end_bound e (Some y) l h = let p = (summary_end e y h).1 in numbered_bound e y.end l (omega arith)

  or_clean_is : (s : ℕ) (o : Option Summary) (d : Decision) → 1 ≤ epoch_of s → summary_at g (epoch_of s) ≡ o → IsDecision s d → IsDecision s (or_clean o d)
  or_clean_is s None d l h i = i
  or_clean_is s (Some y) d l h i = summary_later (epoch_of s) y l h

  sealed_is : Is32 g.sealed
  sealed_is = omega (arith, G.sealed, small)

  store_decided : (e : Entry) → 1 ≤ epoch_of e.number → epoch_of e.number ≤ 2 ^ 32 - 2 → IsDecision e.number (store_decision g e)
  unfolding store_decision
  store_decided e l m = cond_both (is_lost g (epoch_of e.number)) (answers.Lost (end_here g (epoch_of e.number)))
      (or_clean (summary_at g (epoch_of e.number)) (cond (nat_le e.number g.trim) (answers.Trimmed g.trim) (cond (nat_lt e.ballot g.sealed) (answers.Sealed g.sealed) (cond (is_same e (find e.number g.entries)) answers.Same answers.Take)))) (IsDecision e.number)
      (λ t. end_bound (epoch_of e.number) (summary_at g (epoch_of e.number)) (omega (arith, m)) refl)
      (λ t. or_clean_is e.number (summary_at g (epoch_of e.number)) _ l refl (cond_both (nat_le e.number g.trim) (answers.Trimmed g.trim) _ (IsDecision e.number) (λ u. G.trim)
      (λ u. cond_both (nat_lt e.ballot g.sealed) (answers.Sealed g.sealed) _ (IsDecision e.number) (λ v. sealed_is) (λ v. cond_both (is_same e (find e.number g.entries)) answers.Same answers.Take (IsDecision e.number) (λ w. tt) (λ w. tt)))))

  digest_decided : (ballot from : ℕ) → 1 ≤ epoch_of from → epoch_of from ≤ 2 ^ 32 - 2 → IsDecision from (digest_decision g ballot from)
  unfolding digest_decision
  digest_decided ballot from l m = cond_both (is_lost g (epoch_of from)) (answers.Lost (end_here g (epoch_of from)))
      (or_clean (summary_at g (epoch_of from)) (cond (nat_lt ballot g.sealed) (answers.Sealed g.sealed) (cond (ballot == g.sealed) answers.Same answers.Take))) (IsDecision from)
      (λ t. end_bound (epoch_of from) (summary_at g (epoch_of from)) (omega (arith, m)) refl)
      (λ t. or_clean_is from (summary_at g (epoch_of from)) _ l refl (cond_both (nat_lt ballot g.sealed) (answers.Sealed g.sealed) _ (IsDecision from) (λ v. sealed_is)
      (λ v. cond_both (ballot == g.sealed) answers.Same answers.Take (IsDecision from) (λ w. tt) (λ w. tt))))

module _ (n : ℕ) (N : IsNode n) (generation : ℕ) (gen_is : Is32 generation) {most : ℕ} (small : most ≤ last_carried) (g : Log) (G : IsLogState most g) (l : ℕ) (L : IsLog l) where
  -- ---- stores and asks of a sequencer ----
  stored_is : (s : ℕ) (w : Who) (d : Decision) → IsSequencerHere w → 1 ≤ s → Is64 s → IsDecision s d → MayAnswer n w (store_answer generation s d)
  stored_is s w (answers.Lost end) q one b i = let a = sequencer_actor w q in (N, a.0, one, b, omega arith, a.1, gen_is, i)
  stored_is s w (answers.CleanAlready y) q one b i = ((N, q), b, i)
  stored_is s w (answers.Trimmed t) q one b i = ((N, q), b, i)
  stored_is s w (answers.Sealed by) q one b i = ((N, q), b, i)
  stored_is s w answers.Same q one b i = ((N, q), b)
  stored_is s w answers.Take q one b i = ((N, q), b)

  pub store_handled : (w : Who) (lng : ℕ) (e : Entry) → IsSequencerHere w → IsLng lng → IsEntry e → bounds.IsKept e.what → IsHandled n w (on_store generation g l lng e)
  unfolding on_store
  store_handled w lng e q h i k = let d = i.epoch in let b : Is64 e.number = number_bound e.number d.1 in let one : 1 ≤ e.number = number_from_one e.number i.from_one in record {
    op = taken_is (ops.Accept l lng e) (store_decision g e) (L, h, i, k);
    answer = stored_is e.number w (store_decision g e) q one b (store_decided small g G e d.0 d.1);
  }

  good_is : (e : ℕ) (o : Option ℕ) → find e g.lngs ≡ o → IsLng (unwrap_or o 0)
  good_is e None h = omega arith
  good_is e (Some m) h = all-find IsGood e g.lngs m G.lngs h

  digest_shown : (from : ℕ) (w : Who) → IsSequencerHere w → 1 ≤ esn_of from → epoch_of from ≤ 2 ^ 32 - 2
      → Fits (whos.Node n) w (answers.digest_page g from (entries_within g from (numbered (epoch_of from) last_esn)) (numbered (epoch_of from) last_esn))
  digest_shown from w q one m =
      let e = epoch_numbered (epoch_of from) last_esn (omega arith) in
      let k = esn_numbered (epoch_of from) last_esn (omega arith) in (
        (N, q),
        digest_is g G from (numbered (epoch_of from) last_esn) (number_from_one from one) (omega arith) (numbered_bound (epoch_of from) last_esn (omega arith) (omega arith))
            (home_of_place from one ∙ sym (home_of_place (numbered (epoch_of from) last_esn) (omega (arith, k)) ∙ e)),
        digest_kept g G from (numbered (epoch_of from) last_esn),
        G.trim,
        good_is (epoch_of from) (find (epoch_of from) g.lngs) refl,
      )

  digest_answered : (from : ℕ) (w : Who) (d : Decision) → IsSequencerHere w → 1 ≤ esn_of from → epoch_of from ≤ 2 ^ 32 - 2 → IsDecision from d → MayAnswer n w (digest_answer generation g from d)
  digest_answered from w (answers.Lost end) q one m i = let a = sequencer_actor w q in (N, a.0, number_from_one from one, number_bound from m, omega arith, a.1, gen_is, i)
  digest_answered from w (answers.CleanAlready y) q one m i = ((N, q), number_bound from m, i)
  digest_answered from w (answers.Trimmed t) q one m i = ((N, q), number_bound from m, i)
  digest_answered from w (answers.Sealed by) q one m i = ((N, q), number_bound from m, i)
  digest_answered from w answers.Same q one m i = digest_shown from w q one m
  digest_answered from w answers.Take q one m i = digest_shown from w q one m

  pub digest_handled : (w : Who) (from : ℕ) → IsSequencerHere w → 1 ≤ epoch_of from → epoch_of from < ballot_of w → 1 ≤ esn_of from → IsHandled n w (on_digest_ask generation g l (ballot_of w) from)
  unfolding on_digest_ask
  digest_handled w from q one below k = let b = ballot_most w q in let m : epoch_of from ≤ 2 ^ 32 - 2 = omega arith in record {
    op = taken_is (ops.Seal l (ballot_of w)) (digest_decision g (ballot_of w) from) (L, b);
    answer = digest_answered from w (digest_decision g (ballot_of w) from) q k m (digest_decided small g G (ballot_of w) from one m);
  }

  -- ---- closes and trims ----
  cleaned_op : (epoch : ℕ) (y : Summary) (o : Option Summary) → IsEpoch epoch → IsSummary epoch y → MayKeep last_handed_out (clean_op l epoch y o)
  cleaned_op epoch y None e s = (L, e, s)
  cleaned_op epoch y (Some z) e s = tt

  pub clean_handled : (w : Who) (epoch : ℕ) (y : Summary) → IsEpoch epoch → IsSummary epoch y → IsHandled n w (on_clean g l epoch y)
  unfolding on_clean
  clean_handled w epoch y e s = record { op = cleaned_op epoch y (summary_at g epoch) e s; answer = tt }

  pub trim_handled : (w : Who) (t : ℕ) → Is64 t → IsHandled n w (on_trim g l t)
  unfolding on_trim
  trim_handled w t b = record { op = cond_both (nat_lt g.trim t) (Some (ops.Trim l t)) None (MayKeep last_handed_out) (λ u. (L, b)) (λ u. tt); answer = tt }

  -- ---- asks of readers ----
  module _ (w : Who) (asks : IsAsker w) (round : ℕ) (round_is : Is32 round) (from : ℕ) (one : 1 ≤ from) (from_is : Is64 from) (released : ℕ) (released_is : Is64 released) where
    lost_is : (end : ℕ) → Is64 end → Fits (whos.Node n) w (bodies.LostHere from round generation end)
    lost_is end b = let a = asker_actor w round asks in (N, a.0, one, from_is, round_is, a.1, gen_is, b)

    open_is : Fits (whos.Node n) w (open_answer g released round from)
    open_is = cond_both (lets_read released from) (read_page round from false released (readable g from released)) (bodies.ReadWait round from released) (Fits (whos.Node n) w)
        (λ t. let p = and_parts (nat_lt 0 (esn_of released) && (epoch_of released == home_epoch from)) (nat_le from released) t in let q = and_parts (nat_lt 0 (esn_of released)) (epoch_of released == home_epoch from) p.0 in
        let k = ltb-true 0 (esn_of released) q.0 in let e = eqb-true (epoch_of released) (home_epoch from) q.1 in
        ((N, asks, round_is, one, from_is), read_is g G from released one (leb-true from released p.1) released_is (sym (home_of_place released (omega (arith, k)) ∙ e)), read_readable g G w from released))
        (λ t. ((N, asks, round_is, one, from_is), released_is))

    clean_is : (y : Summary) → summary_at g (home_epoch from) ≡ Some y → home_esn from < y.end → Fits (whos.Node n) w (clean_page g round from y)
    clean_is y h below =
        let m = summary_end small g G (home_epoch from) y h in
        let top = m.1 in
        let p = home_esn_is from (omega arith) in
        let a = p.0 in let b = p.1 in
        let eb = epoch_bound from from_is in
        let upto : ℕ = numbered (home_epoch from) (y.end - 1) in
        let k : 1 ≤ esn_of from = place_there a b in
        let e1 = epoch_numbered (home_epoch from) (y.end - 1) (omega arith) in
        let e2 = esn_numbered (home_epoch from) (y.end - 1) (omega arith) in
        ((N, asks, round_is, one, from_is), read_is g G from upto one (omega arith) (numbered_bound (home_epoch from) (y.end - 1) (omega arith) (omega arith)) (sym (home_of_place upto (omega arith) ∙ e1)), read_readable g G w from upto) where
          place_there : home_epoch from ≡ epoch_of from → home_esn from ≡ esn_of from → 1 ≤ esn_of from
          place_there a b = elim (cases_Bool (esn_of from == 0)) [
            | inl t ↦ (let z = eqb-true (esn_of from) 0 t in let q = home_is from one in absurd (omega arith))
            | inr t ↦ (let z = eqb-false (esn_of from) 0 t in omega arith)
          ]

    by_summary : (o : Option Summary) → summary_at g (home_epoch from) ≡ o → Fits (whos.Node n) w (epoch_answer generation g released round from o)
    by_summary None h = cond_both (is_lost g (home_epoch from)) (bodies.LostHere from round generation 0) (open_answer g released round from) (Fits (whos.Node n) w) (λ t. lost_is 0 (omega arith)) (λ t. open_is)
    by_summary (Some y) h = let top = (summary_end small g G (home_epoch from) y h).1 in let he = home_at_most from in let eb = epoch_bound from from_is in
        let b : Is64 (numbered (home_epoch from) y.end) = numbered_bound (home_epoch from) y.end (omega arith) (omega arith) in
        cond_both (nat_le y.end (home_esn from)) (bodies.ReadEnded round from (numbered (home_epoch from) y.end) y.loss) _ (Fits (whos.Node n) w)
        (λ t. ((N, asks, round_is, one, from_is), b))
        (λ t. cond_both (is_lost g (home_epoch from)) (bodies.LostHere from round generation (numbered (home_epoch from) y.end)) (clean_page g round from y) (Fits (whos.Node n) w) (λ u. lost_is _ b) (λ u. clean_is y h (leb-false y.end (home_esn from) t)))

    pub read_fits : Fits (whos.Node n) w (read_answer generation g released round from)
    unfolding read_answer
    read_fits = cond_both (nat_le from g.trim) (bodies.ReadTrim round from g.trim) (epoch_answer generation g released round from (summary_at g (home_epoch from))) (Fits (whos.Node n) w)
        (λ t. ((N, asks, round_is, one, from_is), G.trim)) (λ t. by_summary (summary_at g (home_epoch from)) refl)

    -- to a reader that has one node send each payload
    pub one_fits : (set excluded : List Bool) → IsReader w → Fits (whos.Node n) w (one_answer n generation g released round from set excluded)
    unfolding one_answer
    one_fits set excluded r = withheld_fits n set excluded w r (read_answer generation g released round from) read_fits

  -- ---- pages to a lost node ----
  as_closed_is : (e : Entry) (o : Option Summary) → find (epoch_of e.number) g.summaries ≡ o → IsEntry e → IsEntry (record { number = e.number; ballot = ticks.ballot_of e.ballot o; what = e.what })
  as_closed_is e None h i = record { epoch = i.epoch; from_one = i.from_one; place = i.place; ballot = i.ballot; ballot_most = i.ballot_most; short = i.short }
  as_closed_is e (Some y) h i = let s = (all-find IsClosed (epoch_of e.number) g.summaries y G.summaries h).summary in let b = s.ballot in
      record { epoch = i.epoch; from_one = i.from_one; place = i.place; ballot = omega arith; ballot_most = s.ballot_most; short = i.short }

  closed_entries : (es : List Entry) → AreEntries es → AreEntries (map (as_closed g) es)
  closed_entries [] a = tt
  closed_entries (e ∷ es) a = (as_closed_is e (find (epoch_of e.number) g.summaries) refl a.0, closed_entries es a.1)

  closed_kept : (es : List Entry) → AreKept es → AreKept (map (as_closed g) es)
  closed_kept [] k = tt
  closed_kept (e ∷ es) k = (k.0, closed_kept es k.1)

  refill_is : (es : List Entry) → AreEntries es → AreKept es → MayKeep last_handed_out (refill_op l es)
  refill_is [] a k = tt
  refill_is (e ∷ es) a k = (L, a, k)

  paged : (w : Who) (b : Body) → MayKeep last_handed_out (page_op g l b) → IsHandled n w (on_page g l b)
  unfolding on_page
  paged w b k = record { op = cond_both g.lost (page_op g l b) None (MayKeep last_handed_out) (λ t. k) (λ t. tt); answer = tt }

  page_is : (w v : Who) (round from upto : ℕ) (clean : Bool) (es : List Entry) → AreEntries es → AreKept es → IsHandled n w (on_page g l (bodies.ReadPage round from upto clean es))
  page_is w v round from upto clean es a k = paged w (bodies.ReadPage round from upto clean es)
      (cond_both clean (refill_op l (lacking g es)) None (MayKeep last_handed_out) (λ t. refill_is (lacking g es) (closed_entries (filter (λ e. is_missing g e.number) es) (entries-filter (λ e. is_missing g e.number) es a)) (closed_kept (filter (λ e. is_missing g e.number) es) (kept-filter (λ e. is_missing g e.number) es k))) (λ t. tt))

  trim_page_is : (w : Who) (round from t : ℕ) → Is64 t → IsHandled n w (on_page g l (bodies.ReadTrim round from t))
  trim_page_is w round from t b = paged w (bodies.ReadTrim round from t) (cond_both (nat_lt g.trim t) (Some (ops.Trim l t)) None (MayKeep last_handed_out) (λ u. (L, b)) (λ u. tt))

  -- ---- all messages ----
  pub handled_is : (w : Who) (released : ℕ) → Is64 released → (b : Body) → Fits w (whos.Node n) b → IsHandled n w (handled_by n generation g l (ballot_of w) released b)
  handled_is w released r (bodies.Store s lng x) f = store_handled w lng (record { number = s; ballot = ballot_of w; what = x }) f.0.0 f.1 f.2 f.3
  handled_is w released r (bodies.DigestAsk from) f = digest_handled w from f.0.0 f.1 f.2 f.3
  handled_is w released r (bodies.Clean epoch y) f = clean_handled w epoch y f.1 f.2
  handled_is w released r (bodies.Trim t) f = trim_handled w t f.1
  handled_is w released r (bodies.ReadAsk round from) f = record { op = tt; answer = read_fits w f.0 round f.2 from f.4 f.5 released r }
  handled_is w released r (bodies.ReadOne round from set excluded) f = record { op = tt; answer = one_fits w f.0 round f.3 from f.4 f.5 released r set excluded f.1 }
  handled_is w released r (bodies.ReadPage round from upto c es) f = page_is w w round from upto c es f.1.entries (all_kept n es f.2)
  handled_is w released r (bodies.ReadTrim round from t) f = trim_page_is w round from t f.1
  handled_is w released r (bodies.Stored s) f = paged w (bodies.Stored s) tt
  handled_is w released r (bodies.SealedHere s k) f = paged w (bodies.SealedHere s k) tt
  handled_is w released r (bodies.LostHere s round k end) f = paged w (bodies.LostHere s round k end) tt
  handled_is w released r (bodies.CleanHere s y) f = paged w (bodies.CleanHere s y) tt
  handled_is w released r (bodies.TrimmedHere s t) f = paged w (bodies.TrimmedHere s t) tt
  handled_is w released r (bodies.DigestPage from upto t lng es) f = paged w (bodies.DigestPage from upto t lng es) tt
  handled_is w released r (bodies.Release s) f = paged w (bodies.Release s) tt
  handled_is w released r (bodies.ReadEnded round from end loss) f = paged w (bodies.ReadEnded round from end loss) tt
  handled_is w released r (bodies.ReadWait round from k) f = paged w (bodies.ReadWait round from k) tt

pub answers_sent : (n : ℕ) (m : Msg) (o : Option Body) → IsLog m.log → MayAnswer n m.from o → AreMessages (answer_message n m o)
answers_sent n m None l a = tt
answers_sent n m (Some b) l a = (record { log = l; fits = a }, tt)

-- a message to the node
pub message_handled : {most : ℕ} (small : most ≤ last_carried) (p : Plain) (P : IsPlain most p) (n : ℕ) → IsNode n → (released : ℕ) → Is64 released → (m : Msg) → IsMessage m → m.to ≡ whos.Node n
    → IsHandled n m.from (handled_by n p.generation (log_of p m.log) m.log (ballot_of m.from) released m.body)
message_handled {most} small p P n h released r m i to =
    handled_is n h p.generation P.generation small (log_of p m.log) (log_state most p m.log P) m.log i.log m.from released r m.body (subst (λ w. Fits m.from w m.body) to i.fits)
