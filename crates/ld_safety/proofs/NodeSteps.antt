-- What a node decides and answers, case by case.
use Rattle.std.proofs.Common.{inl, inr, ◌≡◌, ◌≤◌, ◌<◌, ℕ, refl, sym, true, false, ◌==◌, nat_lt, nat_le, if◌then◌else◌, Option, Some, None, arith, ◌&&◌, is_none}
use Rattle.ld_op.specs.Ticks.{is_missing, is_below_end}
use Rattle.std.proofs.lemmas.Bool.{leb-true, leb-false, ltb-true, ltb-false, eqb-true, eqb-false, cases_order, and_parts}
use Rattle.ld_table.specs.Table.{find}
use Rattle.ld_lsn.specs.Number.{epoch_of, home_epoch, home_esn, numbered}
use Rattle.ld_msg.specs.declared.msg.Entry.{Entry}
use Rattle.ld_msg.specs.declared.msg.Summary.{Summary}
use Rattle.ld_msg.specs.declared.msg.Body.{Body}
use Rattle.ld_msg.specs.declared.msg.Body.TheVariants as bodies
use Rattle.ld_op.specs.Plain.{Log, is_lost, summary_at, end_here}
use Rattle.ld_op.specs.Answers.{Decision, Lost, CleanAlready, Trimmed, Sealed, Same, Take, or_clean, is_same, store_decision, digest_decision, read_answer, epoch_answer, read_page, clean_page, readable, lets_read}
use Rattle.ld_safety.proofs.Lists.{cond_both}

-- the epoch is served: neither lost nor clean
pub record Served (g : Log) (e : ℕ) : Type 0 where
  pub found_here : is_lost g e ≡ false
  pub unclean : summary_at g e ≡ None

pub record Storing (g : Log) (e : Entry) (Q : Decision → Type 0) : Type 0 where
  pub lost : is_lost g (epoch_of e.number) ≡ true → Q (Lost (end_here g (epoch_of e.number)))
  pub clean : (y : Summary) → is_lost g (epoch_of e.number) ≡ false → summary_at g (epoch_of e.number) ≡ Some y → Q (CleanAlready y)
  pub trimmed : Served g (epoch_of e.number) → e.number ≤ g.trim → Q (Trimmed g.trim)
  pub sealed : Served g (epoch_of e.number) → g.trim < e.number → e.ballot < g.sealed → Q (Sealed g.sealed)
  pub same : Served g (epoch_of e.number) → g.trim < e.number → g.sealed ≤ e.ballot → is_same e (find e.number g.entries) ≡ true → Q Same
  pub takes : Served g (epoch_of e.number) → g.trim < e.number → g.sealed ≤ e.ballot → Q Take

module _ (g : Log) (e : Entry) (Q : Decision → Type 0) (K : Storing g e Q) where
  unclean_store : is_lost g (epoch_of e.number) ≡ false → (o : Option Summary) → summary_at g (epoch_of e.number) ≡ o
      → Q (or_clean o (if nat_le e.number g.trim then Trimmed g.trim else if nat_lt e.ballot g.sealed then Sealed g.sealed else if is_same e (find e.number g.entries) then Same else Take))
  unclean_store l (Some y) h = K.clean y l h
  unclean_store l None h = let s : Served g (epoch_of e.number) = record { found_here = l; unclean = h } in cond_both (nat_le e.number g.trim) _ _ Q (λ t. K.trimmed s (leb-true _ _ t))
      (λ t. let a : g.trim < e.number = leb-false _ _ t in cond_both (nat_lt e.ballot g.sealed) _ _ Q (λ u. K.sealed s a (ltb-true _ _ u))
      (λ u. let b : g.sealed ≤ e.ballot = ltb-false _ _ u in cond_both (is_same e (find e.number g.entries)) _ _ Q (λ v. K.same s a b v) (λ v. K.takes s a b)))

  pub store_decided : Q (store_decision g e)
  unfolding store_decision
  store_decided = cond_both (is_lost g (epoch_of e.number)) _ _ Q (λ t. K.lost t) (λ t. unclean_store t (summary_at g (epoch_of e.number)) refl)

pub record Asking (g : Log) (ballot from : ℕ) (Q : Decision → Type 0) : Type 0 where
  pub lost : is_lost g (epoch_of from) ≡ true → Q (Lost (end_here g (epoch_of from)))
  pub clean : (y : Summary) → is_lost g (epoch_of from) ≡ false → summary_at g (epoch_of from) ≡ Some y → Q (CleanAlready y)
  pub sealed : Served g (epoch_of from) → ballot < g.sealed → Q (Sealed g.sealed)
  pub same : Served g (epoch_of from) → ballot ≡ g.sealed → Q Same
  pub takes : Served g (epoch_of from) → g.sealed < ballot → Q Take

module _ (g : Log) (ballot from : ℕ) (Q : Decision → Type 0) (K : Asking g ballot from Q) where
  above : g.sealed ≤ ballot → (ballot ≡ g.sealed → ⊥) → g.sealed < ballot
  above l n = elim (cases_order g.sealed ballot) [ inl e ↦ absurd (n (sym e)) | inr (inl a) ↦ a | inr (inr a) ↦ absurd (omega arith) ]

  unclean_ask : is_lost g (epoch_of from) ≡ false → (o : Option Summary) → summary_at g (epoch_of from) ≡ o
      → Q (or_clean o (if nat_lt ballot g.sealed then Sealed g.sealed else if ballot == g.sealed then Same else Take))
  unclean_ask l (Some y) h = K.clean y l h
  unclean_ask l None h = let s : Served g (epoch_of from) = record { found_here = l; unclean = h } in cond_both (nat_lt ballot g.sealed) _ _ Q (λ t. K.sealed s (ltb-true _ _ t))
      (λ t. cond_both (ballot == g.sealed) _ _ Q (λ u. K.same s (eqb-true _ _ u)) (λ u. K.takes s (above (ltb-false _ _ t) (eqb-false _ _ u))))

  pub ask_decided : Q (digest_decision g ballot from)
  unfolding digest_decision
  ask_decided = cond_both (is_lost g (epoch_of from)) _ _ Q (λ t. K.lost t) (λ t. unclean_ask t (summary_at g (epoch_of from)) refl)

pub record ReadAnswering (generation : ℕ) (g : Log) (released round from : ℕ) (Q : Body → Type 0) : Type 0 where
  pub trimmed : from ≤ g.trim → Q (bodies.ReadTrim round from g.trim)
  pub ended : (y : Summary) → g.trim < from → summary_at g (home_epoch from) ≡ Some y → y.end ≤ home_esn from → Q (bodies.ReadEnded round from (numbered (home_epoch from) y.end) y.loss)
  pub lost_clean : (y : Summary) → g.trim < from → summary_at g (home_epoch from) ≡ Some y → home_esn from < y.end → is_lost g (home_epoch from) ≡ true → Q (bodies.LostHere from round generation (numbered (home_epoch from) y.end))
  pub lost : g.trim < from → summary_at g (home_epoch from) ≡ None → is_lost g (home_epoch from) ≡ true → Q (bodies.LostHere from round generation 0)
  pub clean : (y : Summary) → g.trim < from → summary_at g (home_epoch from) ≡ Some y → home_esn from < y.end → is_lost g (home_epoch from) ≡ false → Q (clean_page g round from y)
  pub open_page : g.trim < from → summary_at g (home_epoch from) ≡ None → is_lost g (home_epoch from) ≡ false → lets_read released from ≡ true → Q (read_page round from false released (readable g from released))
  pub waits : g.trim < from → Q (bodies.ReadWait round from released)

module _ (generation : ℕ) (g : Log) (released round from : ℕ) (Q : Body → Type 0) (K : ReadAnswering generation g released round from Q) where
  by_summary : g.trim < from → (o : Option Summary) → summary_at g (home_epoch from) ≡ o → Q (epoch_answer generation g released round from o)
  by_summary a None h = cond_both (is_lost g (home_epoch from)) _ _ Q (λ t. K.lost a h t) (λ t. cond_both (lets_read released from) _ _ Q (λ u. K.open_page a h t u) (λ u. K.waits a))
  by_summary a (Some y) h = cond_both (nat_le y.end (home_esn from)) _ _ Q (λ t. K.ended y a h (leb-true _ _ t))
      (λ t. cond_both (is_lost g (home_epoch from)) _ _ Q (λ u. K.lost_clean y a h (leb-false _ _ t) u) (λ u. K.clean y a h (leb-false _ _ t) u))

  pub read_answered : Q (read_answer generation g released round from)
  unfolding read_answer
  read_answered = cond_both (nat_le from g.trim) _ _ Q (λ t. K.trimmed (leb-true _ _ t)) (λ t. by_summary (leb-false _ _ t) (summary_at g (home_epoch from)) refl)

-- ---- refills ----

-- a missing number is of an epoch that is clean there
pub missing_clean : (g : Log) (k : ℕ) → is_missing g k ≡ true → (y : Summary) × (find (epoch_of k) g.summaries ≡ Some y)
unfolding is_missing
missing_clean g k h = let p = and_parts ((nat_lt g.trim k && nat_le (epoch_of k) g.lost_to) && is_below_end k (find (epoch_of k) g.summaries)) (is_none (find k g.entries)) h in
    let q = and_parts (nat_lt g.trim k && nat_le (epoch_of k) g.lost_to) (is_below_end k (find (epoch_of k) g.summaries)) p.0 in by_found (find (epoch_of k) g.summaries) refl q.1 where
      by_found : (o : Option Summary) → find (epoch_of k) g.summaries ≡ o → is_below_end k o ≡ true → (y : Summary) × (find (epoch_of k) g.summaries ≡ Some y)
      by_found None f q = absurd cc
      by_found (Some y) f q = (y, f)
