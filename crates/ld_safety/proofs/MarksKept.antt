-- What the entries of a node say of it, over each step.
use Rattle.std.proofs.Common.{◌≡◌, ◌∙◌, ◌⊎◌, ◌≤◌, ◌<◌, ℕ, inl, inr, refl, ap, sym, subst, Bool, true, false, ◌&&◌, nat_lt, nat_le, if◌then◌else◌, filter, List, [], ◌∷◌, Option, Some, None, is_none, arith}
use Rattle.std.proofs.lemmas.Bool.{and_parts, leb-true}
use Rattle.ld_table.specs.Table.{find}
use Rattle.ld_lsn.specs.Number.{epoch_of}
use Rattle.ld_config.specs.declared.config.Config.{Config}
use Rattle.ld_msg.specs.declared.msg.Entry.{Entry}
use Rattle.ld_msg.specs.declared.msg.Summary.{Summary}
use Rattle.ld_msg.specs.declared.msg.What.{What}
use Rattle.ld_msg.specs.declared.msg.Who.TheVariants as whos
use Rattle.ld_msg.specs.declared.msg.Msg.{Msg}
use Rattle.ld_msg.specs.declared.msg.Body.{Body}
use Rattle.ld_msg.specs.declared.msg.Body.TheVariants as bodies
use Rattle.ld_op.specs.declared.op.Op.{Op}
use Rattle.ld_op.specs.declared.op.Op.TheVariants as ops
use Rattle.ld_op.specs.Plain.{Plain, Log, log_of, apply}
use Rattle.ld_op.specs.Answers.{Decision, Lost, CleanAlready, Trimmed, Sealed, Same, Take, store_decision, digest_decision, taken, on_store, on_digest_ask, on_clean, clean_op, on_trim}
use Rattle.ld_op.specs.Handles.{handled_by, ballot_of}
use Rattle.ld_op.specs.Ticks.{is_missing, is_below_end, on_page, page_op, refill_op, as_closed, lacking}
use Rattle.ld_msg.specs.Register.{epochs_in, generation_of}
use Rattle.ld_machine.specs.Disk.{Node, keep_op, load}
use Rattle.ld_machine.specs.State.{State, node_at}
use Rattle.ld_machine.specs.World.{Made, In, MayHold, from_node}
use Rattle.ld_machine.specs.Step as Step
use Rattle.ld_safety.proofs.Lists.{Some_inj, not_none, In-map}
use Rattle.ld_safety.proofs.Members.{In_filter}
use Rattle.ld_safety.proofs.NodeSteps.{Served, store_decided}
use Rattle.ld_safety.proofs.NodeCases.{NodeKeeps}
use Rattle.ld_safety.proofs.HoldSteps.{UpFine, is_format, handled_plain}
use Rattle.ld_safety.proofs.Serving.{Gone, not_served}
use Rattle.ld_safety.proofs.LostNodes.{kept_from, loaded_from, released_from}
use Rattle.ld_safety.proofs.LostFullKept.{FullNode}
use Rattle.ld_safety.proofs.LostUnserved.{FullClean, handled_other, not_refilled, rebuilt_full}
use Rattle.ld_safety.proofs.InSet.{StoreLng}
use Rattle.ld_safety.proofs.Marks.{Marked, OpMarks, OfSet, HoleClosed, op_marked, format_marked, blank_marked}
use Rattle.ld_machine.specs.Calm.{Move}

-- what a message makes a node accept or refill
record Handled (p : Plain) (l ballot : ℕ) (b : Body) (o : Op) : Type 0 where
  accept : (k lng : ℕ) (e : Entry) → o ≡ ops.Accept k lng e → (k ≡ l) × (b ≡ bodies.Store e.number lng e.what) × Served (log_of p l) (epoch_of e.number) × ((log_of p l).sealed ≤ e.ballot) × (e.ballot ≡ ballot)
  refill : (k : ℕ) (xs : List Entry) → o ≡ ops.Refill k xs → (k ≡ l) × ((round from upto : ℕ) × (es : List Entry) × (b ≡ bodies.ReadPage round from upto true es) × (xs ≡ lacking (log_of p l) es))

-- neither
abbrev is_other : Op → Bool
is_other (ops.Accept k lng e) = false
is_other (ops.Refill k xs) = false
is_other _ = true

other : (p : Plain) (l ballot : ℕ) (b : Body) (o : Op) → is_other o ≡ true → Handled p l ballot b o
other p l ballot b o h = record {
  accept = λ k lng e q. absurd (let z : is_other (ops.Accept k lng e) ≡ true = subst (λ x. is_other x ≡ true) q h in cc);
  refill = λ k xs q. absurd (let z : is_other (ops.Refill k xs) ≡ true = subst (λ x. is_other x ≡ true) q h in cc);
}

taken_other : (o q : Op) (d : Decision) → is_other o ≡ true → taken o d ≡ Some q → is_other q ≡ true
taken_other o q Take h e = subst (λ x. is_other x ≡ true) (Some_inj e) h
taken_other o q (Lost end) h e = absurd cc
taken_other o q (CleanAlready y) h e = absurd cc
taken_other o q (Trimmed t) h e = absurd cc
taken_other o q (Sealed b) h e = absurd cc
taken_other o q Same h e = absurd cc

if_other : (b : Bool) (o : Option Op) (q : Op) → (o ≡ Some q → is_other q ≡ true) → (if b then o else None) ≡ Some q → is_other q ≡ true
if_other true o q h k = h k
if_other false o q h k = absurd cc

clean_other : (l e : ℕ) (y : Summary) (o : Option Summary) (q : Op) → clean_op l e y o ≡ Some q → is_other q ≡ true
clean_other l e y None q h = subst (λ x. is_other x ≡ true) (Some_inj h) refl
clean_other l e y (Some z) q h = absurd cc

accept_same : (l lng k g : ℕ) (e f : Entry) → ops.Accept l lng e ≡ ops.Accept k g f → (k ≡ l) × (lng ≡ g) × (e ≡ f)
accept_same l lng k g e f h = let a : k ≡ l = cc in let b : lng ≡ g = cc in let d : e ≡ f = cc in (a, b, d)

store_handled : (p : Plain) (l ballot n lng : ℕ) (x : What) (o : Op) → taken (ops.Accept l lng (record { number = n; ballot = ballot; what = x })) (store_decision (log_of p l) (record { number = n; ballot = ballot; what = x })) ≡ Some o → Handled p l ballot (bodies.Store n lng x) o
store_handled p l ballot n lng x o = store_decided (log_of p l) (record { number = n; ballot = ballot; what = x }) (λ d. taken (ops.Accept l lng (record { number = n; ballot = ballot; what = x })) d ≡ Some o → Handled p l ballot (bodies.Store n lng x) o) (record {
  lost = λ t q. absurd cc;
  clean = λ y t k q. absurd cc;
  trimmed = λ s k q. absurd cc;
  sealed = λ s a k q. absurd cc;
  same = λ s a b k q. absurd cc;
  takes = λ s a b q. record {
    accept = λ k g e h. (let z = accept_same l lng k g (record { number = n; ballot = ballot; what = x }) e (Some_inj q ∙ h) in (z.0, (λ i. bodies.Store (z.2 i).number (z.1 i) (z.2 i).what), subst (λ (f : Entry). Served (log_of p l) (epoch_of f.number)) z.2 s, subst (λ (f : Entry). (log_of p l).sealed ≤ f.ballot) z.2 b, sym (ap (λ (f : Entry). f.ballot) z.2)));
    refill = λ k xs h. absurd (let z : ops.Accept l lng (record { number = n; ballot = ballot; what = x }) ≡ ops.Refill k xs = Some_inj q ∙ h in cc);
  };
})

refill_handled : (p : Plain) (l ballot round from upto : ℕ) (es ys : List Entry) (o : Op) → ys ≡ lacking (log_of p l) es → refill_op l ys ≡ Some o → Handled p l ballot (bodies.ReadPage round from upto true es) o
refill_handled p l ballot round from upto es [] o k h = absurd cc
refill_handled p l ballot round from upto es (y ∷ ys) o k h = record {
  accept = λ j g e q. absurd (let z : ops.Refill l (y ∷ ys) ≡ ops.Accept j g e = Some_inj h ∙ q in cc);
  refill = λ j xs q. (let z : ops.Refill l (y ∷ ys) ≡ ops.Refill j xs = Some_inj h ∙ q in let a : j ≡ l = cc in let b : y ∷ ys ≡ xs = cc in (a, (round, from, upto, es, refl, sym b ∙ k)));
}

page_handled : (p : Plain) (l ballot : ℕ) (b : Body) (o : Op) → page_op (log_of p l) l b ≡ Some o → Handled p l ballot b o
page_handled p l ballot (bodies.ReadPage round from upto true es) o h = refill_handled p l ballot round from upto es (lacking (log_of p l) es) o refl h
page_handled p l ballot (bodies.ReadPage round from upto false es) o h = absurd cc
page_handled p l ballot (bodies.ReadTrim round from t) o h = other p l ballot _ o (if_other (nat_lt (log_of p l).trim t) (Some (ops.Trim l t)) o (λ e. subst (λ x. is_other x ≡ true) (Some_inj e) refl) h)
page_handled p l ballot _ o h = absurd cc

if_handled : (p : Plain) (l ballot : ℕ) (b : Body) (t : Bool) (k : Option Op) (o : Op) → (k ≡ Some o → Handled p l ballot b o) → (if t then k else None) ≡ Some o → Handled p l ballot b o
if_handled p l ballot b true k o h q = h q
if_handled p l ballot b false k o h q = absurd cc

on_page_handled : (p : Plain) (l ballot : ℕ) (b : Body) (o : Op) → (on_page (log_of p l) l b).op ≡ Some o → Handled p l ballot b o
unfolding on_page
on_page_handled p l ballot b o h = if_handled p l ballot b (log_of p l).lost (page_op (log_of p l) l b) o (page_handled p l ballot b o) h

handled : (p : Plain) (self generation l ballot released : ℕ) (b : Body) (o : Op) → (handled_by self generation (log_of p l) l ballot released b).op ≡ Some o → Handled p l ballot b o
unfolding on_store on_digest_ask on_clean on_trim
handled p self generation l ballot released (bodies.Store n lng x) o h = store_handled p l ballot n lng x o h
handled p self generation l ballot released (bodies.DigestAsk from) o h = other p l ballot _ o (taken_other (ops.Seal l ballot) o (digest_decision (log_of p l) ballot from) refl h)
handled p self generation l ballot released (bodies.Clean e s) o h = other p l ballot _ o (clean_other l e s _ o h)
handled p self generation l ballot released (bodies.Trim t) o h = other p l ballot _ o (if_other (nat_lt (log_of p l).trim t) (Some (ops.Trim l t)) o (λ e. subst (λ x. is_other x ≡ true) (Some_inj e) refl) h)
handled p self generation l ballot released (bodies.ReadAsk round from) o h = absurd cc
handled p self generation l ballot released (bodies.ReadOne round from set excluded) o h = absurd cc
handled p self generation l ballot released b o h = on_page_handled p l ballot b o h

missing_low : (g : Log) (k : ℕ) → is_missing g k ≡ true → epoch_of k ≤ g.lost_to
unfolding is_missing
missing_low g k h = let p = and_parts ((nat_lt g.trim k && nat_le (epoch_of k) g.lost_to) && is_below_end k (find (epoch_of k) g.summaries)) (is_none (find k g.entries)) h in
    let q = and_parts (nat_lt g.trim k && nat_le (epoch_of k) g.lost_to) (is_below_end k (find (epoch_of k) g.summaries)) p.0 in leb-true _ _ (and_parts (nat_lt g.trim k) (nat_le (epoch_of k) g.lost_to) q.0).1

-- a log whose states are marked
abbrev pub MarkedNode : Config → List Made → State → ℕ → Node → Type 0
MarkedNode c made s y x = (p : Plain) → MayHold x p → Marked c made s.register s.network.sent y p

module _ (c : Config) (made : List Made) (s : State) (v : Move) (M : (y : ℕ) → MarkedNode c made s y (node_at s y)) (F : (y : ℕ) → FullNode (node_at s y)) (ups : (y : ℕ) → UpFine (node_at s y))
    (seals : (y l b from upto t lng : ℕ) (es : List Entry) → In (from_node l y b (bodies.DigestPage from upto t lng es)) s.network.sent → Gone (node_at s y).plain l (epoch_of from) ⊎ (b ≤ (log_of (node_at s y).plain l).sealed))
    (stores : (m : Msg) → In m s.network.sent → (y n lng : ℕ) (x : What) → m.to ≡ whos.Node y → m.body ≡ bodies.Store n lng x → 0 < (node_at s y).plain.generation → Served (log_of (node_at s y).plain m.log) (epoch_of n) → OfSet c made s.register s.network.sent y m.log n × StoreLng made m.log (ballot_of m.from) n lng)
    (pages : (m : Msg) → In m s.network.sent → (n round from upto : ℕ) (es : List Entry) → m.to ≡ whos.Node n → m.body ≡ bodies.ReadPage round from upto true es → (x : Entry) → In x es → HoleClosed c made s.register s.network.sent m.log x) where
  sealed_at : (n : ℕ) → 0 < (node_at s n).plain.generation → (l b from upto t lng : ℕ) (es : List Entry) → In (from_node l n b (bodies.DigestPage from upto t lng es)) s.network.sent → Served (log_of (node_at s n).plain l) (epoch_of from) → b ≤ (log_of (node_at s n).plain l).sealed
  sealed_at n g l b from upto t lng es i sv = elim (seals n l b from upto t lng es i) [ inl z ↦ elim z [ inl a ↦ absurd (omega arith) | inr a ↦ absurd (not_served (log_of (node_at s n).plain l) (epoch_of from) a sv) ] | inr z ↦ z ]

  refill_marks : (m : Msg) → In m s.network.sent → (n round from upto : ℕ) (es : List Entry) → m.to ≡ whos.Node n → m.body ≡ bodies.ReadPage round from upto true es → (e : Entry) → In e (lacking (log_of (node_at s n).plain m.log) es) → (epoch_of e.number ≤ (log_of (node_at s n).plain m.log).lost_to) × HoleClosed c made s.register s.network.sent m.log e
  refill_marks m i n round from upto es t h e j =
      let g = log_of (node_at s n).plain m.log in
      let a = In-map (as_closed g) e (filter (λ x. is_missing g x.number) es) j in
      let f = In_filter (λ (x : Entry). is_missing g x.number) a.0 es a.1 in
      subst (λ (z : Entry). (epoch_of z.number ≤ g.lost_to) × HoleClosed c made s.register s.network.sent m.log z) (sym a.2) (missing_low g a.0.number f.1, pages m i n round from upto es t h a.0 f.0)

  op_marks : (n : ℕ) (m : Msg) (o : Op) → In m s.network.sent → m.to ≡ whos.Node n → 0 < (node_at s n).plain.generation → (Step.node_handles n (node_at s n) m).op ≡ Some o → OpMarks c made s.register s.network.sent n (node_at s n).plain o
  op_marks n m o i t g q = let h = handled (node_at s n).plain _ _ m.log (ballot_of m.from) _ m.body o q in record {
    plain = handled_plain _ _ _ _ _ _ m.body o q;
    formatted = g;
    accept = λ l lng e k. (let z = h.accept l lng e k in let u = stores m i n e.number lng e.what t z.1 g z.2 in
        subst (λ j. Served (log_of (node_at s n).plain j) (epoch_of e.number) × ((log_of (node_at s n).plain j).sealed ≤ e.ballot) × OfSet c made s.register s.network.sent n j e.number × StoreLng made j e.ballot e.number lng) (sym z.0) (z.2, z.3, u.0, subst (λ b. StoreLng made m.log b e.number lng) (sym z.4) u.1));
    refilled = λ k z. absurd (not_refilled o k (handled_other _ _ _ _ _ _ m.body o q) z);
    refill = λ l xs k e j. (let z = h.refill l xs k in subst (λ a. (epoch_of e.number ≤ (log_of (node_at s n).plain a).lost_to) × HoleClosed c made s.register s.network.sent a e) (sym z.0) (refill_marks m i n z.1.0 z.1.1 z.1.2 z.1.3 t z.1.4 e (subst (In e) z.1.5 j)));
    sealed = sealed_at n g;
  }

  -- an op of its own
  own_marks : (n : ℕ) (o : Op) → 0 < (node_at s n).plain.generation → is_format o ≡ false → is_other o ≡ true → ((l : ℕ) → o ≡ ops.Refilled l → FullClean (log_of (node_at s n).plain l)) → OpMarks c made s.register s.network.sent n (node_at s n).plain o
  own_marks n o g f h r = record {
    plain = f;
    formatted = g;
    accept = λ l lng e k. absurd (let z : is_other (ops.Accept l lng e) ≡ true = subst (λ x. is_other x ≡ true) k h in cc);
    refill = λ l xs k. absurd (let z : is_other (ops.Refill l xs) ≡ true = subst (λ x. is_other x ≡ true) k h in cc);
    refilled = r;
    sealed = sealed_at n g;
  }

  same_log : {j k : ℕ} → ops.Refilled j ≡ ops.Refilled k → j ≡ k
  same_log z = cc

  same_plain : (x : Node) (k : ℕ) (b : Body) → (Step.releases x k b).plain ≡ x.plain
  same_plain x k (bodies.Release y) = refl
  same_plain x k _ = refl

  kept_marked : (n : ℕ) (x : Node) (o : Op) → x.plain ≡ (node_at s n).plain → OpMarks c made s.register s.network.sent n (node_at s n).plain o → MarkedNode c made s n x → MarkedNode c made s n (keep_op x o)
  kept_marked n x o q h K p i = elim (kept_from x o p i).from [
    | inl a ↦ K p a
    | inr a ↦ subst (Marked c made s.register s.network.sent n) (sym (a ∙ ap (λ z. apply z o) q)) (op_marked c made s.register s.network.sent n (node_at s n).plain o (F n (node_at s n).plain (inl refl)) h (M n (node_at s n).plain (inl refl)))
  ]

  pub marks_keep : NodeKeeps c s v (MarkedNode c made s)
  marks_keep = record {
    all = M;
    hears = λ n m i t u p q. M n p (released_from (node_at s n) m.log m.body p q);
    keeps = λ n m o i t u q. kept_marked n (Step.releases (node_at s n) m.log m.body) o (same_plain (node_at s n) m.log m.body) (op_marks n m o i t (ups n u.up).1 q) (λ p z. M n p (released_from (node_at s n) m.log m.body p z));
    loads = λ n p q. M n p (loaded_from (node_at s n) p q);
    formats = λ n r b w i p q. elim (kept_from (load (node_at s n)) (ops.Format (generation_of r n) (epochs_in r.logs)) p q).from [
      | inl a ↦ M n p (loaded_from (node_at s n) p a)
      | inr a ↦ subst (Marked c made s.register s.network.sent n) (sym a) (format_marked c made s.register s.network.sent n (load (node_at s n)).plain (generation_of r n) (epochs_in r.logs))
    ];
    cleans = λ n l k y u q. kept_marked n (node_at s n) (ops.Clean l k y) refl (own_marks n (ops.Clean l k y) (ups n u.up).1 refl refl (λ i z. absurd (not_refilled (ops.Clean l k y) i refl z))) (M n);
    rebuilds = λ n l u q. kept_marked n (node_at s n) (ops.Refilled l) refl (own_marks n (ops.Refilled l) (ups n u.up).1 refl refl (λ k z. subst (λ i. FullClean (log_of (node_at s n).plain i)) (same_log z) (rebuilt_full (log_of (node_at s n).plain l) _ q))) (M n);
    stops = λ n. M n;
    wipes = λ n p q. elim q [ inl a ↦ subst (Marked c made s.register s.network.sent n) (sym a) (blank_marked c made s.register s.network.sent n) | inr a ↦ absurd (not_none a.1) ];
    faults = λ n f. M n;
  }
