-- When a node answers that it stored a number or shows a page, it holds what it says, in its one plain state.
use Rattle.std.proofs.Common.{◌≡◌, ◌∙◌, ◌≤◌, ◌<◌, ℕ, inl, inr, refl, ap, sym, subst, Bool, true, false, ◌&&◌, ◌==◌, nat_le, cond, List, [], ◌∷◌, take, filter, Option, Some, None, arith}
use Rattle.std.specs.Option.{unwrap_or}
use Rattle.std.proofs.lemmas.Bool.{cases_Bool, and_parts, and_from, eqb-true, le-leb, leb-true}
use Rattle.ld_table.specs.Table.{find}
use Rattle.ld_table.specs.Words.{values}
use Rattle.ld_table.proofs.Laws.{find-put_same}
use Rattle.ld_lsn.specs.Number.{epoch_of, esn_of, numbered, last_esn}
use Rattle.ld_msg.specs.declared.msg.Entry.{Entry}
use Rattle.ld_msg.specs.declared.msg.Body.{Body}
use Rattle.ld_msg.specs.declared.msg.Body.TheVariants as bodies
use Rattle.ld_op.specs.declared.op.Op.{Op}
use Rattle.ld_op.specs.declared.op.Op.TheVariants as ops
use Rattle.ld_op.specs.Plain.{Plain, Log, log_of, empty_log, apply, with_log, accepted, sealed_by, summary_at, lng_at}
use Rattle.ld_op.specs.Answers.{Decision, Lost, CleanAlready, Trimmed, Sealed, Same, Take, store_decision, digest_decision, taken, is_same, refusal, store_answer, digest_answer, entries_within, page_upto, page_limit, on_store, on_digest_ask, on_clean, on_trim, read_answer}
use Rattle.ld_op.specs.Handles.{handled_by}
use Rattle.ld_op.specs.Ticks.{on_page}
use Rattle.ld_op.proofs.Moves.{taken_there}
use Rattle.ld_machine.specs.Disk.{Node, Fate, Made, FailsAt, CrashesAt, fate, keep_op, keep_end, kept_by, kept_end, is_full_for, Written, JournalFull, Failed, op_calls}
use Rattle.ld_machine.specs.World.{In}
use Rattle.ld_safety.proofs.Lists.{Some_inj}
use Rattle.ld_safety.proofs.Members.{In_filter, In_take, In_values, find_in}
use Rattle.ld_safety.proofs.NodeSteps.{Served, store_decided, ask_decided, read_answered}
use Rattle.ld_safety.proofs.Rising.{NumbersRising, rising_values, rising_filter, page_has}
use Rattle.ld_safety.proofs.Holdings.{HeldAt, LogFine}
use Rattle.ld_safety.proofs.Withheld.{one_kind}

-- the number is stored in this plain state for the ballot
pub record StoredIn (p : Plain) (l n b : ℕ) : Type 0 where
  pub served : Served (log_of p l) (epoch_of n)
  pub sealed : (log_of p l).sealed ≤ b
  pub held : HeldAt (log_of p l) n b

-- a page shows what stands in this plain state
pub record PageIn (p : Plain) (l b from upto t good : ℕ) (es : List Entry) : Type 0 where
  pub served : Served (log_of p l) (epoch_of from)
  pub sealed : (log_of p l).sealed ≡ b
  pub trim : t ≡ (log_of p l).trim
  pub known : good ≡ lng_at (log_of p l) (epoch_of from)
  pub has : (k : ℕ) (f : Entry) → find k (log_of p l).entries ≡ Some f → epoch_of k ≡ epoch_of from → from ≤ k → k ≤ upto → In f es
  pub only : (f : Entry) → In f es → In (f.number, f) (log_of p l).entries × (from ≤ f.number) × (f.number ≤ numbered (epoch_of from) last_esn)

abbrev pub after : Plain → Option Op → Plain
after p None = p
after p (Some o) = apply p o

log_here : (p : Plain) (l : ℕ) (g : Log) → log_of (with_log p l g) l ≡ g
log_here p l g = ap (λ o. unwrap_or o empty_log) (find-put_same l l g p.logs refl)

-- ---- stores ----
not_stored : (generation s n : ℕ) (d : Decision) → refusal generation s d ≡ Some (bodies.Stored n) → ⊥
not_stored generation s n (Lost end) h = cc
not_stored generation s n (CleanAlready y) h = cc
not_stored generation s n (Trimmed t) h = cc
not_stored generation s n (Sealed b) h = cc
not_stored generation s n Same h = cc
not_stored generation s n Take h = cc

same_held : (g : Log) (e : Entry) → is_same e (find e.number g.entries) ≡ true → HeldAt g e.number e.ballot
same_held g e h = by_find (find e.number g.entries) refl h where
  by_find : (o : Option Entry) → find e.number g.entries ≡ o → is_same e o ≡ true → HeldAt g e.number e.ballot
  by_find None f q = absurd cc
  by_find (Some x) f q = let p = and_parts (x.ballot == e.ballot) _ q in let z = eqb-true _ _ p.0 in record { entry = x; found_at = f; least = omega arith }

taken_in : (p : Plain) (l lng : ℕ) (e : Entry) → Served (log_of p l) (epoch_of e.number) → StoredIn (after p (Some (ops.Accept l lng e))) l e.number e.ballot
unfolding apply summary_at
taken_in p l lng e s = let q = log_here p l (accepted (log_of p l) lng e) in record {
  served = subst (λ g. Served g (epoch_of e.number)) (sym q) (record { found_here = s.found_here; unclean = s.unclean });
  sealed = subst (λ (g : Log). g.sealed ≤ e.ballot) (sym q) (omega arith);
  held = subst (λ g. HeldAt g e.number e.ballot) (sym q) (record { entry = e; found_at = taken_there (log_of p l) lng e; least = omega arith });
}

store_in : (p : Plain) (generation l lng n : ℕ) (e : Entry) → store_answer generation e.number (store_decision (log_of p l) e) ≡ Some (bodies.Stored n) → StoredIn (after p (taken (ops.Accept l lng e) (store_decision (log_of p l) e))) l n e.ballot
store_in p generation l lng n e h = store_decided (log_of p l) e (λ d. store_answer generation e.number d ≡ Some (bodies.Stored n) → StoredIn (after p (taken (ops.Accept l lng e) d)) l n e.ballot) (record {
  lost = λ t q. absurd cc;
  clean = λ y t k q. absurd cc;
  trimmed = λ s k q. absurd cc;
  sealed = λ s a k q. absurd cc;
  same = λ s a b k q. let z : e.number ≡ n = cc in subst (λ x. StoredIn p l x e.ballot) z (record { served = s; sealed = b; held = same_held (log_of p l) e k });
  takes = λ s a b q. let z : e.number ≡ n = cc in subst (λ x. StoredIn (after p (Some (ops.Accept l lng e))) l x e.ballot) z (taken_in p l lng e s);
}) h

-- ---- pages ----
in_values : (k : ℕ) (f : Entry) (m : List (ℕ × Entry)) → In (k, f) m → In f (values m)
in_values k f [] i = absurd i
in_values k f (e ∷ m) (inl q) = inl (ap (λ (x : ℕ × Entry). x.1) q)
in_values k f (e ∷ m) (inr i) = inr (in_values k f m i)

filter_in : {X : Type 0} (p : X → Bool) (x : X) (xs : List X) → In x xs → p x ≡ true → In x (filter p xs)
filter_in p x [] i h = absurd i
filter_in p x (y ∷ xs) i h = by_test (p y) refl i (λ j. filter_in p x xs j h) where
  by_test : (b : Bool) → p y ≡ b → In x (y ∷ xs) → (In x xs → In x (filter p xs)) → In x (cond b (y ∷ filter p xs) (filter p xs))
  by_test true q (inl e) ih = inl e
  by_test true q (inr j) ih = inr (ih j)
  by_test false q (inl e) ih = absurd (let z : p y ≡ true = subst (λ v. p v ≡ true) e h in cc)
  by_test false q (inr j) ih = ih j

page_shows : (g : Log) (l b from : ℕ) → LogFine g → Served g (epoch_of from) → 0 < esn_of from → (p : Plain) → log_of p l ≡ g → g.sealed ≡ b
    → PageIn p l b from (page_upto (entries_within g from (numbered (epoch_of from) last_esn)) (numbered (epoch_of from) last_esn)) g.trim (lng_at g (epoch_of from)) (take page_limit (entries_within g from (numbered (epoch_of from) last_esn)))
page_shows g l b from F s pos p q z =
    let last = numbered (epoch_of from) last_esn in
    let rising = rising_filter (λ (e : Entry). nat_le from e.number && nat_le e.number last) (values g.entries) (rising_values g.entries F.numbers F.rising) in record {
      served = subst (λ h. Served h (epoch_of from)) (sym q) s;
      sealed = subst (λ (h : Log). h.sealed ≡ b) (sym q) z;
      trim = ap (λ (h : Log). h.trim) (sym q);
      known = ap (λ (h : Log). lng_at h (epoch_of from)) (sym q);
      has = λ k f h e lo up. shown f k (subst (λ (x : Log). find k x.entries ≡ Some f) q h) e lo up rising;
      only = λ f i. let j = In_take page_limit f _ i in let u = In_filter _ f (values g.entries) j in let v = In_values f g.entries u.0 in let n = F.numbers (v.0, f) v.1 in let w = and_parts (nat_le from f.number) (nat_le f.number last) u.1 in
          (subst (λ (x : Log). In (f.number, f) x.entries) (sym q) (subst (λ x. In (x, f) g.entries) (sym n) v.1), leb-true _ _ w.0, leb-true _ _ w.1);
    } where
      shown : (f : Entry) (k : ℕ) → find k g.entries ≡ Some f → epoch_of k ≡ epoch_of from → from ≤ k → k ≤ page_upto (entries_within g from (numbered (epoch_of from) last_esn)) (numbered (epoch_of from) last_esn) → NumbersRising (entries_within g from (numbered (epoch_of from) last_esn))
          → In f (take page_limit (entries_within g from (numbered (epoch_of from) last_esn)))
      shown f k h e lo up rising = let i = find_in k g.entries f h in let n = F.numbers (k, f) i in
          page_has (entries_within g from (numbered (epoch_of from) last_esn)) (numbered (epoch_of from) last_esn) f rising
          (filter_in (λ (x : Entry). nat_le from x.number && nat_le x.number (numbered (epoch_of from) last_esn)) f (values g.entries) (in_values k f g.entries i) (and_from _ _ (le-leb from f.number (omega arith)) (le-leb f.number (numbered (epoch_of from) last_esn) (omega arith)))) (omega arith)

-- two pages are the same message
record SamePage (f u t good : ℕ) (es : List Entry) (from upto trim lng : ℕ) (xs : List Entry) : Type 0 where
  from_same : f ≡ from
  upto_same : u ≡ upto
  trim_same : t ≡ trim
  known_same : good ≡ lng
  entries_same : es ≡ xs

same_page : (f u t good from upto trim lng : ℕ) (es xs : List Entry) → Some (bodies.DigestPage f u t good es) ≡ Some (bodies.DigestPage from upto trim lng xs) → SamePage f u t good es from upto trim lng xs
same_page f u t good from upto trim lng es xs h = let q : bodies.DigestPage f u t good es ≡ bodies.DigestPage from upto trim lng xs = Some_inj h in record { from_same = cc; upto_same = cc; trim_same = cc; known_same = cc; entries_same = cc }

as_page : (p : Plain) (l b f u t good from upto trim lng : ℕ) (es xs : List Entry) → SamePage f u t good es from upto trim lng xs → PageIn p l b f u t good es → PageIn p l b from upto trim lng xs
as_page p l b f u t good from upto trim lng es xs q h = subst (λ z. PageIn p l b z upto trim lng xs) q.from_same (subst (λ z. PageIn p l b f z trim lng xs) q.upto_same (subst (λ z. PageIn p l b f u z lng xs) q.trim_same (subst (λ z. PageIn p l b f u t z xs) q.known_same (subst (λ z. PageIn p l b f u t good z) q.entries_same h))))

page_in : (p : Plain) (generation l ballot f from upto t lng : ℕ) (es : List Entry) → LogFine (log_of p l) → 0 < esn_of f → digest_answer generation (log_of p l) f (digest_decision (log_of p l) ballot f) ≡ Some (bodies.DigestPage from upto t lng es)
    → PageIn (after p (taken (ops.Seal l ballot) (digest_decision (log_of p l) ballot f))) l ballot from upto t lng es
unfolding apply summary_at
page_in p generation l ballot f from upto t lng es F pos h = ask_decided (log_of p l) ballot f (λ d. digest_answer generation (log_of p l) f d ≡ Some (bodies.DigestPage from upto t lng es) → PageIn (after p (taken (ops.Seal l ballot) d)) l ballot from upto t lng es) (record {
  lost = λ t q. absurd cc;
  clean = λ y t k q. absurd cc;
  sealed = λ s k q. absurd cc;
  same = λ s k q. as_page p l ballot _ _ _ _ from upto t lng _ es (same_page _ _ _ _ from upto t lng _ es q) (page_shows (log_of p l) l ballot f F s pos p refl (sym k));
  takes = λ s k q. as_page (with_log p l (sealed_by (log_of p l) ballot)) l ballot _ _ _ _ from upto t lng _ es (same_page _ _ _ _ from upto t lng _ es q)
      (page_shows (sealed_by (log_of p l) ballot) l ballot f (record { rising = F.rising; numbers = F.numbers; bounded = λ q i u. (let z = F.bounded q i (record { found_here = u.found_here; unclean = u.unclean }) in omega arith) }) (record { found_here = s.found_here; unclean = s.unclean }) pos (with_log p l (sealed_by (log_of p l) ballot)) (log_here p l (sealed_by (log_of p l) ballot)) refl);
}) h

-- ---- what a node answers ----
abbrev is_told : Body → Bool
is_told (bodies.Stored n) = true
is_told (bodies.DigestPage from upto t lng es) = true
is_told (bodies.TrimmedHere n t) = true
is_told _ = false

read_untold : (generation : ℕ) (g : Log) (released round from : ℕ) → is_told (read_answer generation g released round from) ≡ false
read_untold generation g released round from = read_answered generation g released round from (λ b. is_told b ≡ false) (record { trimmed = λ h. refl; ended = λ y a h k. refl; lost_clean = λ y a h k t. refl; lost = λ a h t. refl; clean = λ y a h k t. refl; open_page = λ a h t u. refl; waits = λ a. refl })

-- what an answer says of the plain state after it
pub record Answered (p : Plain) (l b : ℕ) (x : Body) : Type 0 where
  pub stored : (n : ℕ) → x ≡ bodies.Stored n → StoredIn p l n b
  pub page : (from upto t lng : ℕ) (es : List Entry) → x ≡ bodies.DigestPage from upto t lng es → PageIn p l b from upto t lng es
  pub trimmed : (n t : ℕ) → x ≡ bodies.TrimmedHere n t → t ≤ (log_of p l).trim

untold : (p : Plain) (l b : ℕ) (x : Body) → is_told x ≡ false → Answered p l b x
untold p l b x h = record { stored = λ n q. absurd (let z = ap is_told q in cc); page = λ from upto t lng es q. absurd (let z = ap is_told q in cc); trimmed = λ n t q. absurd (let z = ap is_told q in cc) }

no_page_stored : (generation s : ℕ) (d : Decision) (from upto t lng : ℕ) (es : List Entry) → store_answer generation s d ≡ Some (bodies.DigestPage from upto t lng es) → ⊥
no_page_stored generation s (Lost end) from upto t lng es h = cc
no_page_stored generation s (CleanAlready y) from upto t lng es h = cc
no_page_stored generation s (Trimmed k) from upto t lng es h = cc
no_page_stored generation s (Sealed b) from upto t lng es h = cc
no_page_stored generation s Same from upto t lng es h = cc
no_page_stored generation s Take from upto t lng es h = cc

no_stored_page : (generation : ℕ) (g : Log) (s : ℕ) (d : Decision) (n : ℕ) → digest_answer generation g s d ≡ Some (bodies.Stored n) → ⊥
no_stored_page generation g s (Lost end) n h = cc
no_stored_page generation g s (CleanAlready y) n h = cc
no_stored_page generation g s (Trimmed k) n h = cc
no_stored_page generation g s (Sealed b) n h = cc
no_stored_page generation g s Same n h = cc
no_stored_page generation g s Take n h = cc

no_answer : (g : Log) (l : ℕ) (b x : Body) → (on_page g l b).answer ≡ Some x → ⊥
unfolding on_page
no_answer g l b x q = cc

trim_told : (p : Plain) (generation l lng n t : ℕ) (e : Entry) → store_answer generation e.number (store_decision (log_of p l) e) ≡ Some (bodies.TrimmedHere n t) → t ≤ (log_of (after p (taken (ops.Accept l lng e) (store_decision (log_of p l) e))) l).trim
trim_told p generation l lng n t e h = store_decided (log_of p l) e (λ d. store_answer generation e.number d ≡ Some (bodies.TrimmedHere n t) → t ≤ (log_of (after p (taken (ops.Accept l lng e) d)) l).trim) (record {
  lost = λ t q. absurd cc;
  clean = λ y t k q. absurd cc;
  trimmed = λ s k q. (let z : (log_of p l).trim ≡ t = cc in omega arith);
  sealed = λ s a k q. absurd cc;
  same = λ s a b k q. absurd cc;
  takes = λ s a b q. absurd cc;
}) h

no_trim_page : (generation : ℕ) (g : Log) (ballot s n t : ℕ) → digest_answer generation g s (digest_decision g ballot s) ≡ Some (bodies.TrimmedHere n t) → ⊥
no_trim_page generation g ballot s n t h = ask_decided g ballot s (λ d. digest_answer generation g s d ≡ Some (bodies.TrimmedHere n t) → ⊥) (record { lost = λ t q. cc; clean = λ y t k q. cc; sealed = λ s k q. cc; same = λ s k q. cc; takes = λ s k q. cc }) h

pub answered_in : (p : Plain) (self generation l ballot released : ℕ) (b x : Body) → LogFine (log_of p l) → ((from : ℕ) → b ≡ bodies.DigestAsk from → 0 < esn_of from)
    → (handled_by self generation (log_of p l) l ballot released b).answer ≡ Some x → Answered (after p (handled_by self generation (log_of p l) l ballot released b).op) l ballot x
unfolding on_store on_digest_ask on_clean on_trim
answered_in p self generation l ballot released (bodies.Store n lng w) x F K h = let e : Entry = record { number = n; ballot = ballot; what = w } in record {
  stored = λ k q. store_in p generation l lng k e (h ∙ ap Some q);
  page = λ from upto t k es q. absurd (no_page_stored generation n (store_decision (log_of p l) e) from upto t k es (h ∙ ap Some q));
  trimmed = λ k t q. trim_told p generation l lng k t e (h ∙ ap Some q);
}
answered_in p self generation l ballot released (bodies.DigestAsk from) x F K h = record {
  stored = λ k q. absurd (no_stored_page generation (log_of p l) from (digest_decision (log_of p l) ballot from) k (h ∙ ap Some q));
  page = λ a upto t k es q. page_in p generation l ballot from a upto t k es F (K from refl) (h ∙ ap Some q);
  trimmed = λ k t q. absurd (no_trim_page generation (log_of p l) ballot from k t (h ∙ ap Some q));
}
answered_in p self generation l ballot released (bodies.Clean e y) x F K h = absurd cc
answered_in p self generation l ballot released (bodies.Trim t) x F K h = absurd cc
answered_in p self generation l ballot released (bodies.ReadAsk round from) x F K h = untold _ l ballot x (subst (λ z. is_told z ≡ false) (Some_inj h) (read_untold generation (log_of p l) released round from))
answered_in p self generation l ballot released (bodies.ReadOne round from set excluded) x F K h = untold _ l ballot x (subst (λ z. is_told z ≡ false) (Some_inj h) (one_kind self set excluded is_told false (λ a b z k es fs. refl) generation (log_of p l) released round from (read_untold generation (log_of p l) released round from)))
answered_in p self generation l ballot released b x F K h = absurd (no_answer (log_of p l) l b x h)

-- ---- a record that is written ----
written_by : (x : Node) (o : Op) (f : Fate) → kept_end f ≡ Written → ((kept_by x o f).plain ≡ apply x.plain o) × ((kept_by x o f).cut ≡ x.cut)
written_by x o Made h = (refl, refl)
written_by x o (FailsAt k) h = absurd cc
written_by x o (CrashesAt k p) h = absurd cc

pub written : (x : Node) (o : Op) → keep_end x o ≡ Written → ((keep_op x o).plain ≡ apply x.plain o) × ((keep_op x o).cut ≡ x.cut)
unfolding keep_end keep_op
written x o h = elim (cases_Bool (is_full_for x o)) [
  | inl t ↦ absurd (let z = subst (λ b. cond b JournalFull (kept_end (fate (op_calls x o) x.fault)) ≡ Written) t h in cc)
  | inr t ↦ let z = subst (λ b. cond b JournalFull (kept_end (fate (op_calls x o) x.fault)) ≡ Written) t h in
      subst (λ b. ((cond b (record x { status = Failed }) (kept_by x o (fate (op_calls x o) x.fault))).plain ≡ apply x.plain o) × ((cond b (record x { status = Failed }) (kept_by x o (fate (op_calls x o) x.fault))).cut ≡ x.cut)) (sym t) (written_by x o (fate (op_calls x o) x.fault) z)
]
