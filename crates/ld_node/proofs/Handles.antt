-- What a node makes of a message, whatever represents each byte of a payload.
use Rattle.std.proofs.Common.{◌≡◌, ℕ, Bool, true, false, List, map, Some, None, Option, refl, ap, sym, ◌∙◌, subst, if◌then◌else◌}
use Rattle.ld_lsn.specs.Number.{epoch_of, numbered, last_esn}
use Rattle.ld_msg.specs.declared.msg.What.{What}
use Rattle.ld_msg.specs.declared.msg.Entry.{Entry}
use Rattle.ld_msg.specs.declared.msg.Summary.{Summary}
use Rattle.ld_msg.specs.declared.msg.Msg.{Msg}
use Rattle.ld_msg.specs.declared.msg.Body.{Body}
use Rattle.ld_msg.specs.declared.msg.Body.TheVariants as bodies
use Rattle.ld_msg.specs.Bounds.{ballot_of}
use Rattle.ld_op.specs.declared.op.Op.{Op}
use Rattle.ld_op.specs.declared.op.Op.TheVariants as ops
use Rattle.ld_table.specs.Words.{numbers_from}
use Rattle.ld_op.specs.declared.pointed.Place.{Place}
use Rattle.ld_op.specs.Plain.{Plain, Log, log_of}
use Rattle.ld_op.specs.Cells.{each_log, each_plain, each_body}
use Rattle.ld_op.specs.Answers as answers
use Rattle.ld_op.specs.Answers.{on_store, on_digest_ask, on_clean, on_trim, store_decision, digest_decision, digest_page, entries_within, taken, store_answer, digest_answer, read_answer, one_answer, clean_op}
use Rattle.ld_op.specs.Ticks.{on_page}
use Rattle.ld_op.specs.Handles.{handled_by}
use Rattle.ld_op.proofs.Cells.{log_same}
use Rattle.ld_op.proofs.Same.{within_same, digest_same, answer_same, one_same, digest_decision_same, clean_op_same, trim_op_same, on_page_same}
use Rattle.ld_seal.specs.declared.decision.Decision.{Decision}
use Rattle.ld_seal.specs.declared.decision.Decision.TheVariants as decisions
use Rattle.ld_seal.specs.Decided as decided
use Rattle.ld_seal.specs.Decided.{told, store_in, IsStore, payload_of, stands_there, compared}
use Rattle.ld_readnode.specs.Answered.{IsDigestAsk, digest_in, read_in, one_in}
use Rattle.ld_node.specs.declared.handled.Handled as declared
use Rattle.ld_node.specs.declared.handled.Reply.{Reply}
use Rattle.ld_node.specs.declared.handled.Reply.TheVariants as replies
use Rattle.ld_node.specs.Handling.{IsHandledWith, Stays, op_if, accept_of, seal_of, number_of, store_reply, digest_reply, asked_from, op_with, reply_with}

op_if_told : (o : Op) (g : ℕ) (d : answers.Decision) → op_if (Some o) (told g d) ≡ taken o d
op_if_told o g (answers.Lost end) = refl
op_if_told o g (answers.CleanAlready y) = refl
op_if_told o g (answers.Trimmed t) = refl
op_if_told o g (answers.Sealed by) = refl
op_if_told o g answers.Same = refl
op_if_told o g answers.Take = refl

-- ---- a store ----

-- the answer to a store that was decided
abbrev store_body : ℕ → Decision → Body
store_body s (decisions.Lost generation end) = bodies.LostHere s 0 generation end
store_body s (decisions.Clean y) = bodies.CleanHere s y
store_body s (decisions.Trimmed t) = bodies.TrimmedHere s t
store_body s (decisions.Sealed by) = bodies.SealedHere s by
store_body s _ = bodies.Stored s

store_body_told : (g s : ℕ) (d : answers.Decision) → Some (store_body s (told g d)) ≡ store_answer g s d
store_body_told g s (answers.Lost end) = refl
store_body_told g s (answers.CleanAlready y) = refl
store_body_told g s (answers.Trimmed t) = refl
store_body_told g s (answers.Sealed by) = refl
store_body_told g s answers.Same = refl
store_body_told g s answers.Take = refl

op_of_same : (b : Bool) (o : Option Op) → (if b then None else o) ≡ op_if o (if b then decisions.Same else decisions.Take)
op_of_same true o = refl
op_of_same false o = refl

stored_either : (b : Bool) (s : ℕ) → bodies.Stored s ≡ store_body s (if b then decisions.Same else decisions.Take)
stored_either true s = refl
stored_either false s = refl

module _ (f : ℕ → ℕ) (m : Msg) where
  store_op : (d : Decision) → op_with f m (op_if (accept_of m.log (ballot_of m.from) m.body) d) (store_reply (number_of m.body) d) ≡ op_if (accept_of m.log (ballot_of m.from) m.body) (compared f (payload_of m.body) d)
  store_op (decisions.Lost generation end) = refl
  store_op (decisions.Clean y) = refl
  store_op (decisions.Trimmed t) = refl
  store_op (decisions.Sealed by) = refl
  store_op decisions.Same = refl
  store_op decisions.Take = refl
  store_op (decisions.Compare place) = op_of_same (stands_there f (payload_of m.body) place) (accept_of m.log (ballot_of m.from) m.body)

  store_answered : (d : Decision) → reply_with f m (store_reply (number_of m.body) d) ≡ Some (store_body (number_of m.body) (compared f (payload_of m.body) d))
  store_answered (decisions.Lost generation end) = refl
  store_answered (decisions.Clean y) = refl
  store_answered (decisions.Trimmed t) = refl
  store_answered (decisions.Sealed by) = refl
  store_answered decisions.Same = refl
  store_answered decisions.Take = refl
  store_answered (decisions.Compare place) = ap Some (stored_either (stands_there f (payload_of m.body) place) (number_of m.body))

  by_store : (id gen r : ℕ) (g : Log) (b : Body) (o : Option Op) (a : Option Body) → IsStore b → o ≡ op_if (accept_of m.log (ballot_of m.from) b) (told gen (store_in g (ballot_of m.from) b)) → a ≡ Some (store_body (number_of b) (told gen (store_in g (ballot_of m.from) b)))
      → (o ≡ (handled_by id gen g m.log (ballot_of m.from) r b).op) × (a ≡ (handled_by id gen g m.log (ballot_of m.from) r b).answer)
  unfolding on_store
  by_store id gen r g (bodies.Store n lng w) o a is op answer =
      let e : Entry = record { number = n; ballot = ballot_of m.from; what = w } in
      (op ∙ op_if_told (ops.Accept m.log lng e) gen (store_decision g e), answer ∙ store_body_told gen n (store_decision g e))
  by_store id gen r g _ o a is op answer = absurd is

  pub store_handled : (id gen r : ℕ) (g : Log) (d : Decision) (done : declared.Handled) → IsStore m.body → told gen (store_in g (ballot_of m.from) m.body) ≡ compared f (payload_of m.body) d
      → done.op ≡ op_if (accept_of m.log (ballot_of m.from) m.body) d → done.answer ≡ store_reply (number_of m.body) d → IsHandledWith f m done (handled_by id gen g m.log (ballot_of m.from) r m.body)
  store_handled id gen r g d done store is op answer =
      let both = by_store id gen r g m.body (op_with f m done.op done.answer) (reply_with f m done.answer) store
      ((λ i. op_with f m (op i) (answer i)) ∙ (store_op d ∙ ap (op_if (accept_of m.log (ballot_of m.from) m.body)) (sym is)))
      (ap (reply_with f m) answer ∙ (store_answered d ∙ ap (λ x. Some (store_body (number_of m.body) x)) (sym is))) in
      record { op = both.0; answer = both.1 }

-- ---- an ask for a digest ----

-- the answer to an ask for a digest that was decided
abbrev digest_body : ℕ → Body → Decision → Body
digest_body s page (decisions.Lost generation end) = bodies.LostHere s 0 generation end
digest_body s page (decisions.Clean y) = bodies.CleanHere s y
digest_body s page (decisions.Trimmed t) = bodies.TrimmedHere s t
digest_body s page (decisions.Sealed by) = bodies.SealedHere s by
digest_body s page _ = page

digest_body_told : (g : ℕ) (l : Log) (from : ℕ) (d : answers.Decision) → Some (digest_body from (digest_in l (bodies.DigestAsk from)) (told g d)) ≡ digest_answer g l from d
digest_body_told g l from (answers.Lost end) = refl
digest_body_told g l from (answers.CleanAlready y) = refl
digest_body_told g l from (answers.Trimmed t) = refl
digest_body_told g l from (answers.Sealed by) = refl
digest_body_told g l from answers.Same = refl
digest_body_told g l from answers.Take = refl

-- a page of a digest has what stands there
digest_read : (f : ℕ → ℕ) (g : Log) (from : ℕ) → each_body f (digest_in g (bodies.DigestAsk from)) ≡ digest_in (each_log f g) (bodies.DigestAsk from)
digest_read f g from =
    let last = numbered (epoch_of from) last_esn in
    digest_same f g from last (entries_within g from last) ∙ ap (λ es. digest_page (each_log f g) from es last) (sym (within_same f g from last))

module _ (f : ℕ → ℕ) (m : Msg) where
  digest_op : (o : Option Op) (n : ℕ) (page : Msg) (d : Decision) → op_with f m o (digest_reply n page d) ≡ o
  digest_op o n page (decisions.Lost generation end) = refl
  digest_op o n page (decisions.Clean y) = refl
  digest_op o n page (decisions.Trimmed t) = refl
  digest_op o n page (decisions.Sealed by) = refl
  digest_op o n page decisions.Same = refl
  digest_op o n page decisions.Take = refl
  digest_op o n page (decisions.Compare place) = refl

  digest_answered_by : (n : ℕ) (page : Msg) (d : Decision) → reply_with f m (digest_reply n page d) ≡ Some (digest_body n (each_body f page.body) d)
  digest_answered_by n page (decisions.Lost generation end) = refl
  digest_answered_by n page (decisions.Clean y) = refl
  digest_answered_by n page (decisions.Trimmed t) = refl
  digest_answered_by n page (decisions.Sealed by) = refl
  digest_answered_by n page decisions.Same = refl
  digest_answered_by n page decisions.Take = refl
  digest_answered_by n page (decisions.Compare place) = refl

  by_digest : (id gen r : ℕ) (g : Log) (b : Body) (o : Option Op) (a : Option Body) → IsDigestAsk b → o ≡ op_if (seal_of m.log (ballot_of m.from)) (told gen (decided.digest_in g (ballot_of m.from) b))
      → a ≡ Some (digest_body (asked_from b) (each_body f (digest_in g b)) (told gen (decided.digest_in g (ballot_of m.from) b)))
      → (o ≡ (handled_by id gen (each_log f g) m.log (ballot_of m.from) r b).op) × (a ≡ (handled_by id gen (each_log f g) m.log (ballot_of m.from) r b).answer)
  unfolding on_digest_ask
  by_digest id gen r g (bodies.DigestAsk n) o a is op answer =
      let same = digest_decision_same f g (ballot_of m.from) n in (
        op ∙ (op_if_told (ops.Seal m.log (ballot_of m.from)) gen (digest_decision g (ballot_of m.from) n) ∙ ap (taken (ops.Seal m.log (ballot_of m.from))) (sym same)),
        answer ∙ ((λ i. Some (digest_body n (digest_read f g n i) (told gen (sym same i)))) ∙ digest_body_told gen (each_log f g) n (digest_decision (each_log f g) (ballot_of m.from) n)),
      )
  by_digest id gen r g _ o a is op answer = absurd is

  pub digest_handled : (id gen r : ℕ) (g : Log) (d : Decision) (page : Msg) (done : declared.Handled) → IsDigestAsk m.body → page.body ≡ digest_in g m.body → d ≡ told gen (decided.digest_in g (ballot_of m.from) m.body)
      → done.op ≡ op_if (seal_of m.log (ballot_of m.from)) d → done.answer ≡ digest_reply (asked_from m.body) page d → IsHandledWith f m done (handled_by id gen (each_log f g) m.log (ballot_of m.from) r m.body)
  digest_handled id gen r g d page done ask read is op answer =
      let both = by_digest id gen r g m.body (op_with f m done.op done.answer) (reply_with f m done.answer) ask
      ((λ i. op_with f m (op i) (answer i)) ∙ (digest_op (op_if (seal_of m.log (ballot_of m.from)) d) (asked_from m.body) page d ∙ ap (op_if (seal_of m.log (ballot_of m.from))) is))
      (ap (reply_with f m) answer ∙ (digest_answered_by (asked_from m.body) page d ∙ (λ i. Some (digest_body (asked_from m.body) (each_body f (read i)) (is i))))) in
      record { op = both.0; answer = both.1 }

-- ---- all else ----

module _ (f : ℕ → ℕ) (m : Msg) (id gen r : ℕ) (g : Log) (done : declared.Handled) where
  abbrev Goal : Type 0
  Goal = IsHandledWith f m done (handled_by id gen (each_log f g) m.log (ballot_of m.from) r m.body)

  abbrev made : Body → Type 0
  made b = (op_with f m done.op done.answer ≡ (handled_by id gen (each_log f g) m.log (ballot_of m.from) r b).op) × (reply_with f m done.answer ≡ (handled_by id gen (each_log f g) m.log (ballot_of m.from) r b).answer)

  of_made : (b : Body) → m.body ≡ b → made b → Goal
  of_made b is both = let there = subst (λ x. made x) (sym is) both in record { op = there.0; answer = there.1 }

  silent_op : done.answer ≡ replies.Nothing → op_with f m done.op done.answer ≡ done.op
  silent_op none = ap (op_with f m done.op) none

  pub clean_handled : (e : ℕ) (y : Summary) → m.body ≡ bodies.Clean e y → done.op ≡ (on_clean g m.log e y).op → done.answer ≡ replies.Nothing → Goal
  unfolding on_clean
  clean_handled e y is op none = of_made (bodies.Clean e y) is (silent_op none ∙ (op ∙ ap (λ h. h.op) (sym (clean_op_same f g m.log e y))), ap (reply_with f m) none)

  pub trim_handled : (t : ℕ) → m.body ≡ bodies.Trim t → done.op ≡ (on_trim g m.log t).op → done.answer ≡ replies.Nothing → Goal
  unfolding on_trim
  trim_handled t is op none = of_made (bodies.Trim t) is (silent_op none ∙ (op ∙ ap (λ h. h.op) (sym (trim_op_same f g m.log t))), ap (reply_with f m) none)

  page_made : (page : Msg) (x : Body) → done.op ≡ None → done.answer ≡ replies.Page page → each_body f page.body ≡ x → (op_with f m done.op done.answer ≡ None) × (reply_with f m done.answer ≡ Some x)
  page_made page x none is body = ((λ i. op_with f m (none i) (is i)), ap (reply_with f m) is ∙ ap Some body)

  pub read_handled : (round from : ℕ) (page : Msg) → m.body ≡ bodies.ReadAsk round from → done.op ≡ None → done.answer ≡ replies.Page page → page.body ≡ read_in gen g r m.body → Goal
  read_handled round from page is none answer body =
      of_made (bodies.ReadAsk round from) is (page_made page (read_answer gen (each_log f g) r round from) none answer (ap (each_body f) (body ∙ ap (read_in gen g r) is) ∙ answer_same f gen g r round from))

  pub one_handled : (round from : ℕ) (set excluded : List Bool) (page : Msg) → m.body ≡ bodies.ReadOne round from set excluded → done.op ≡ None → done.answer ≡ replies.Page page → page.body ≡ one_in id gen g r m.body → Goal
  one_handled round from set excluded page is none answer body =
      of_made (bodies.ReadOne round from set excluded) is
      (page_made page (one_answer id gen (each_log f g) r round from set excluded) none answer (ap (each_body f) (body ∙ ap (one_in id gen g r) is) ∙ one_same f id gen g r round from set excluded))

-- all other messages are pages, or nothing
page_case : (id gen : ℕ) (g : Log) (l bal r : ℕ) (b : Body) → ((n lng : ℕ) (w : What) → b ≡ bodies.Store n lng w → ⊥) → ((n : ℕ) → b ≡ bodies.DigestAsk n → ⊥) → ((e : ℕ) (y : Summary) → b ≡ bodies.Clean e y → ⊥) → ((t : ℕ) → b ≡ bodies.Trim t → ⊥) → ((ro n : ℕ) → b ≡ bodies.ReadAsk ro n → ⊥) → ((ro n : ℕ) (set excluded : List Bool) → b ≡ bodies.ReadOne ro n set excluded → ⊥)
    → handled_by id gen g l bal r b ≡ on_page g l b
page_case id gen g l bal r (bodies.Store n lng w) h d c t a o = absurd (h n lng w refl)
page_case id gen g l bal r (bodies.Stored n) h d c t a o = refl
page_case id gen g l bal r (bodies.SealedHere n k) h d c t a o = refl
page_case id gen g l bal r (bodies.LostHere n ro x e) h d c t a o = refl
page_case id gen g l bal r (bodies.CleanHere n y) h d c t a o = refl
page_case id gen g l bal r (bodies.TrimmedHere n x) h d c t a o = refl
page_case id gen g l bal r (bodies.DigestAsk n) h d c t a o = absurd (d n refl)
page_case id gen g l bal r (bodies.DigestPage first upto trim lng es) h d c t a o = refl
page_case id gen g l bal r (bodies.Clean e y) h d c t a o = absurd (c e y refl)
page_case id gen g l bal r (bodies.Release n) h d c t a o = refl
page_case id gen g l bal r (bodies.Trim x) h d c t a o = absurd (t x refl)
page_case id gen g l bal r (bodies.ReadAsk ro n) h d c t a o = absurd (a ro n refl)
page_case id gen g l bal r (bodies.ReadPage ro n u x es) h d c t a o = refl
page_case id gen g l bal r (bodies.ReadEnded ro n e lossy) h d c t a o = refl
page_case id gen g l bal r (bodies.ReadTrim ro n x) h d c t a o = refl
page_case id gen g l bal r (bodies.ReadWait ro n x) h d c t a o = refl
page_case id gen g l bal r (bodies.ReadOne ro n set excluded) h d c t a o = absurd (o ro n set excluded refl)

module _ (f : ℕ → ℕ) (m : Msg) (id gen r : ℕ) (g : Log) (done : declared.Handled) where
  by_page : (b : Body) → done.op ≡ (on_page g m.log b).op → done.answer ≡ replies.Nothing
      → (op_with f m done.op done.answer ≡ (on_page (each_log f g) m.log b).op) × (reply_with f m done.answer ≡ (on_page (each_log f g) m.log b).answer)
  unfolding on_page
  by_page b op none = (ap (op_with f m done.op) none ∙ (op ∙ ap (λ h. h.op) (sym (on_page_same f g m.log b))), ap (reply_with f m) none)

  pub page_handled : ((n lng : ℕ) (w : What) → m.body ≡ bodies.Store n lng w → ⊥) → ((n : ℕ) → m.body ≡ bodies.DigestAsk n → ⊥) → ((e : ℕ) (y : Summary) → m.body ≡ bodies.Clean e y → ⊥) → ((t : ℕ) → m.body ≡ bodies.Trim t → ⊥)
      → ((ro n : ℕ) → m.body ≡ bodies.ReadAsk ro n → ⊥) → ((ro n : ℕ) (set excluded : List Bool) → m.body ≡ bodies.ReadOne ro n set excluded → ⊥)
      → done.op ≡ (on_page g m.log m.body).op → done.answer ≡ replies.Nothing → IsHandledWith f m done (handled_by id gen (each_log f g) m.log (ballot_of m.from) r m.body)
  page_handled h d c t a o op none =
      let both = by_page m.body op none in
      subst (λ x. IsHandledWith f m done x) (sym (page_case id gen (each_log f g) m.log (ballot_of m.from) r m.body h d c t a o)) (record { op = both.0; answer = both.1 })

-- ---- where each place of an index stays ----

pub same_log : (f : ℕ → ℕ) (p : Plain) (l : ℕ) → each_plain f p ≡ p → each_log f (log_of p l) ≡ log_of p l
same_log f p l is = sym (log_same f p l) ∙ ap (λ q. log_of q l) is

module _ (f : ℕ → ℕ) where
  store_reply_stays : (d : Decision) (n : ℕ) → ((place : Place) → d ≡ decisions.Compare place → map f (numbers_from place.at place.len) ≡ numbers_from place.at place.len) → Stays f (store_reply n d)
  store_reply_stays (decisions.Lost generation end) n there = tt
  store_reply_stays (decisions.Clean y) n there = tt
  store_reply_stays (decisions.Trimmed t) n there = tt
  store_reply_stays (decisions.Sealed by) n there = tt
  store_reply_stays decisions.Same n there = tt
  store_reply_stays decisions.Take n there = tt
  store_reply_stays (decisions.Compare place) n there = there place refl

  pub store_stays : (d : Decision) (n : ℕ) (a : Reply) → a ≡ store_reply n d → ((place : Place) → d ≡ decisions.Compare place → map f (numbers_from place.at place.len) ≡ numbers_from place.at place.len) → Stays f a
  store_stays d n a is there = subst (λ x. Stays f x) (sym is) (store_reply_stays d n there)

  by_digest_stays : (g : Log) (b : Body) → IsDigestAsk b → each_log f g ≡ g → each_body f (digest_in g b) ≡ digest_in g b
  by_digest_stays g (bodies.DigestAsk n) ask is = digest_read f g n ∙ ap (λ h. digest_in h (bodies.DigestAsk n)) is
  by_digest_stays g _ ask is = absurd ask

  digest_reply_stays : (n : ℕ) (page : Msg) (d : Decision) → each_body f page.body ≡ page.body → Stays f (digest_reply n page d)
  digest_reply_stays n page (decisions.Lost generation end) is = tt
  digest_reply_stays n page (decisions.Clean y) is = tt
  digest_reply_stays n page (decisions.Trimmed t) is = tt
  digest_reply_stays n page (decisions.Sealed by) is = tt
  digest_reply_stays n page decisions.Same is = is
  digest_reply_stays n page decisions.Take is = is
  digest_reply_stays n page (decisions.Compare place) is = is

  pub digest_stays : (g : Log) (m : Msg) (n : ℕ) (page : Msg) (d : Decision) (a : Reply) → IsDigestAsk m.body → a ≡ digest_reply n page d → page.body ≡ digest_in g m.body → each_log f g ≡ g → Stays f a
  digest_stays g m n page d a ask is body same =
      subst (λ x. Stays f x) (sym is) (digest_reply_stays n page d (ap (each_body f) body ∙ (by_digest_stays g m.body ask same ∙ sym body)))

  pub read_stays : (gen r : ℕ) (g : Log) (b : Body) (round from : ℕ) (page : Msg) → b ≡ bodies.ReadAsk round from → page.body ≡ read_in gen g r b → each_log f g ≡ g → each_body f page.body ≡ page.body
  read_stays gen r g b round from page is body same =
      let read = body ∙ ap (read_in gen g r) is in
      ap (each_body f) read ∙ (answer_same f gen g r round from ∙ (ap (λ h. read_answer gen h r round from) same ∙ sym read))

  pub one_stays : (id gen r : ℕ) (g : Log) (b : Body) (round from : ℕ) (set excluded : List Bool) (page : Msg) → b ≡ bodies.ReadOne round from set excluded → page.body ≡ one_in id gen g r b → each_log f g ≡ g → each_body f page.body ≡ page.body
  one_stays id gen r g b round from set excluded page is body same =
      let read = body ∙ ap (one_in id gen g r) is in
      ap (each_body f) read ∙ (one_same f id gen g r round from set excluded ∙ (ap (λ h. one_answer id gen h r round from set excluded) same ∙ sym read))
