-- In every state a node that is up is formatted and has no record cut short, and each node holds what it stored.
use Rattle.std.proofs.Common.{◌≡◌, ◌∙◌, ◌<◌, ℕ, ◌+◌, inl, inr, refl, ap, subst, Bool, true, false, ◌==◌, nat_lt, if◌then◌else◌, List, [], ◌∷◌, Option, Some, None, arith}
use Rattle.std.specs.Option.{unwrap_or}
use Rattle.std.proofs.lemmas.Bool.{cases_Bool, eqb-false, cases_order}
use Rattle.ld_table.specs.Table.{find}
use Rattle.ld_table.proofs.Laws.{find-put_same}
use Rattle.ld_config.specs.declared.config.Config.{Config}
use Rattle.ld_msg.specs.declared.msg.Entry.{Entry}
use Rattle.ld_msg.specs.declared.msg.Summary.{Summary}
use Rattle.ld_msg.specs.declared.msg.Body.{Body}
use Rattle.ld_msg.specs.declared.msg.Body.TheVariants as bodies
use Rattle.ld_op.specs.declared.op.Op.{Op}
use Rattle.ld_op.specs.declared.op.Op.TheVariants as ops
use Rattle.ld_op.specs.Plain.{Plain, Log, apply}
use Rattle.ld_op.specs.Answers.{Decision, Lost, CleanAlready, Trimmed, Sealed, Same, Take, store_decision, digest_decision, taken, on_store, on_digest_ask, on_clean, clean_op, on_trim}
use Rattle.ld_op.specs.Handles.{handled_by}
use Rattle.ld_op.specs.Ticks.{on_page, page_op, refill_op, lacking}
use Rattle.ld_msg.specs.Register.{Register, Granted, epochs_in, generation_of, draw}
use Rattle.ld_machine.specs.Disk.{Node, Fate, Made, FailsAt, CrashesAt, fate, keep_op, kept_by, is_full_for, load, loaded_by, load_end, kept_end, found, status_of, Written, is_up, Blank, Up, Failed, op_calls}
use Rattle.ld_machine.specs.State.{State, node_at}
use Rattle.ld_machine.specs.Step as Step
use Rattle.ld_safety.proofs.Lists.{Some_inj, cond_both}
use Rattle.ld_safety.proofs.RegisterSteps.{draw_granted}
use Rattle.ld_safety.proofs.NodeCases.{NodeKeeps}
use Rattle.ld_machine.specs.Calm.{Move}

-- ---- nodes that are up ----
abbrev pub UpFine : Node → Type 0
UpFine x = is_up x.status ≡ true → (x.cut ≡ None) × (0 < x.plain.generation)

abbrev pub is_format : Op → Bool
is_format (ops.Format g es) = true
is_format _ = false

pub same_generation : (p : Plain) (o : Op) → is_format o ≡ false → (apply p o).generation ≡ p.generation
unfolding apply
same_generation p (ops.Format g es) h = absurd cc
same_generation p (ops.Accept l lng e) h = refl
same_generation p (ops.Seal l b) h = refl
same_generation p (ops.Clean l k y) h = refl
same_generation p (ops.Trim l t) h = refl
same_generation p (ops.Refill l es) h = refl
same_generation p (ops.Refilled l) h = refl

up_kept_by : (x : Node) (o : Op) (f : Fate) → (x.cut ≡ None) × (0 < (apply x.plain o).generation) → UpFine (kept_by x o f)
up_kept_by x o Made h u = h
up_kept_by x o (FailsAt k) h u = absurd cc
up_kept_by x o (CrashesAt k p) h u = absurd cc

up_kept : (x : Node) (o : Op) → (x.cut ≡ None) × (0 < (apply x.plain o).generation) → UpFine (keep_op x o)
unfolding keep_op
up_kept x o h = cond_both (is_full_for x o) (record x { status = Failed }) (kept_by x o (fate (op_calls x o) x.fault)) UpFine (λ t u. absurd cc) (λ t. up_kept_by x o (fate (op_calls x o) x.fault) h)

status_up : (p : Plain) → is_up (status_of p) ≡ true → 0 < p.generation
status_up p h = elim (cases_Bool (p.generation == 0)) [
  | inl t ↦ absurd (let z = subst (λ b. is_up (if b then Blank else Up) ≡ true) t h in cc)
  | inr t ↦ let n = eqb-false p.generation 0 t in elim (cases_order p.generation 0) [ inl e ↦ absurd (n e) | inr (inl l) ↦ absurd (omega arith) | inr (inr l) ↦ l ]
]

up_loaded_by : (x : Node) (f : Fate) → UpFine (loaded_by x f)
up_loaded_by x Made u = (refl, status_up (found x x.cut) u)
up_loaded_by x (FailsAt k) u = absurd cc
up_loaded_by x (CrashesAt k p) u = absurd cc

up_loaded : (x : Node) → UpFine (load x)
unfolding load
up_loaded x = up_loaded_by x (fate 1 x.fault)

written_by : (x : Node) (f : Fate) → kept_end f ≡ Written → (loaded_by x f).cut ≡ None
written_by x Made h = refl
written_by x (FailsAt k) h = absurd cc
written_by x (CrashesAt k p) h = absurd cc

written_loaded : (x : Node) → load_end x ≡ Written → (load x).cut ≡ None
unfolding load
written_loaded x h = written_by x (fate 1 x.fault) h

released_up : (x : Node) (l : ℕ) (b : Body) → UpFine x → UpFine (Step.releases x l b)
released_up x l (bodies.Release y) h = h
released_up x l _ h = h

pub released_parts : (x : Node) (l : ℕ) (b : Body) → ((Step.releases x l b).plain ≡ x.plain) × ((Step.releases x l b).cut ≡ x.cut) × ((Step.releases x l b).status ≡ x.status)
released_parts x l (bodies.Release y) = (refl, refl, refl)
released_parts x l _ = (refl, refl, refl)

-- ---- a node's messages format nothing ----
taken_plain : (o p : Op) (d : Decision) → is_format o ≡ false → taken o d ≡ Some p → is_format p ≡ false
taken_plain o p Take h e = subst (λ x. is_format x ≡ false) (Some_inj e) h
taken_plain o p (Lost end) h e = absurd cc
taken_plain o p (CleanAlready y) h e = absurd cc
taken_plain o p (Trimmed t) h e = absurd cc
taken_plain o p (Sealed b) h e = absurd cc
taken_plain o p Same h e = absurd cc

clean_plain : (l e : ℕ) (y : Summary) (o : Option Summary) (p : Op) → clean_op l e y o ≡ Some p → is_format p ≡ false
clean_plain l e y None p q = subst (λ x. is_format x ≡ false) (Some_inj q) refl
clean_plain l e y (Some z) p q = absurd cc

refill_plain : (l : ℕ) (es : List Entry) (p : Op) → refill_op l es ≡ Some p → is_format p ≡ false
refill_plain l [] p q = absurd cc
refill_plain l (e ∷ es) p q = subst (λ x. is_format x ≡ false) (Some_inj q) refl

if_plain : (b : Bool) (o : Option Op) (p : Op) → (o ≡ Some p → is_format p ≡ false) → (if b then o else None) ≡ Some p → is_format p ≡ false
if_plain true o p h q = h q
if_plain false o p h q = absurd cc

page_plain : (g : Log) (l : ℕ) (b : Body) (p : Op) → page_op g l b ≡ Some p → is_format p ≡ false
page_plain g l (bodies.ReadPage round from upto clean es) p q = if_plain clean (refill_op l (lacking g es)) p (refill_plain l (lacking g es) p) q
page_plain g l (bodies.ReadTrim round from t) p q = if_plain (nat_lt g.trim t) (Some (ops.Trim l t)) p (λ e. subst (λ x. is_format x ≡ false) (Some_inj e) refl) q
page_plain g l _ p q = absurd cc

keeps_plain : (g : Log) (l : ℕ) (b : Body) (p : Op) → (on_page g l b).op ≡ Some p → is_format p ≡ false
unfolding on_page
keeps_plain g l b p q = if_plain g.lost (page_op g l b) p (page_plain g l b p) q

pub handled_plain : (self generation : ℕ) (g : Log) (l ballot released : ℕ) (b : Body) (p : Op) → (handled_by self generation g l ballot released b).op ≡ Some p → is_format p ≡ false
unfolding on_store on_digest_ask on_clean on_trim
handled_plain self generation g l ballot released (bodies.Store n lng x) p q = taken_plain (ops.Accept l lng (record { number = n; ballot = ballot; what = x })) p (store_decision g (record { number = n; ballot = ballot; what = x })) refl q
handled_plain self generation g l ballot released (bodies.DigestAsk from) p q = taken_plain (ops.Seal l ballot) p (digest_decision g ballot from) refl q
handled_plain self generation g l ballot released (bodies.Clean e s) p q = clean_plain l e s _ p q
handled_plain self generation g l ballot released (bodies.Trim t) p q = if_plain (nat_lt g.trim t) (Some (ops.Trim l t)) p (λ e. subst (λ x. is_format x ≡ false) (Some_inj e) refl) q
handled_plain self generation g l ballot released (bodies.ReadAsk round from) p q = absurd cc
handled_plain self generation g l ballot released (bodies.ReadOne round from set excluded) p q = absurd cc
handled_plain self generation g l ballot released b p q = keeps_plain g l b p q

drawn_positive : (r : Register) (n : ℕ) (k : Register) → draw r n ≡ record { register = k; answer = Granted } → 0 < generation_of k n
drawn_positive r n k h = let d = draw_granted r n k h in let z : generation_of k n ≡ generation_of r n + 1 = ap (λ m. unwrap_or (find n m) 0) d.1 ∙ ap (λ o. unwrap_or o 0) (find-put_same n n (generation_of r n + 1) r.generations refl) in omega arith

pub ups_keep : (c : Config) (s : State) (e : Move) → ((y : ℕ) → UpFine (node_at s y)) → NodeKeeps c s e (λ y x. UpFine x)
unfolding apply
ups_keep c s e a = record {
  all = a;
  hears = λ n m i t v. released_up (node_at s n) m.log m.body (a n);
  keeps = λ n m o i t v q. let p = released_parts (node_at s n) m.log m.body in let u = a n v.up in
      up_kept (Step.releases (node_at s n) m.log m.body) o (p.1 ∙ u.0, let z = same_generation (Step.releases (node_at s n) m.log m.body).plain o (handled_plain _ _ _ _ _ _ m.body o q) in let w = ap (λ (x : Plain). x.generation) p.0 in let k = u.1 in omega arith);
  loads = λ n. up_loaded (node_at s n);
  formats = λ n r b w i. up_kept (load (node_at s n)) (ops.Format (generation_of r n) (epochs_in r.logs)) (written_loaded (node_at s n) w, drawn_positive s.register n r i);
  cleans = λ n l k y v h. let u = a n v.up in up_kept (node_at s n) (ops.Clean l k y) u;
  rebuilds = λ n l v h. let u = a n v.up in up_kept (node_at s n) (ops.Refilled l) u;
  stops = λ n u. absurd cc;
  wipes = λ n u. absurd cc;
  faults = λ n f. a n;
}
