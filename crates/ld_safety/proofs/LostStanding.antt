-- Whether a node stands lost in the lines, and what its plain states say: node by node and line by line.
use Rattle.std.proofs.Common.{◌≡◌, ◌∙◌, ◌≤◌, ◌<◌, ℕ, inl, inr, refl, ap, sym, subst, Bool, true, false, ◌&&◌, ◌||◌, ◌==◌, nat_lt, nat_le, cond, if◌then◌else◌, List, [], ◌∷◌, ◌++◌, Option, Some, None, arith}
use Rattle.std.specs.Option.{unwrap_or}
use Rattle.std.specs.Ordering.{nat_cmp}
use Rattle.std.specs.BTreeMap.{is_at}
use Rattle.std.proofs.lemmas.Bool.{cases_Bool, and_parts, and_from, eqb-true, eqb-false, eq-eqb, lt-ltb, leb-true, cases_order}
use Rattle.ld_table.specs.Table.{find}
use Rattle.ld_table.specs.Words.{any_of}
use Rattle.ld_table.proofs.Laws.{same_key, find-put_same}
use Rattle.ld_ids.specs.declared.set.Spec.{Spec}
use Rattle.ld_transcript.specs.declared.line.Line.{Line}
use Rattle.ld_transcript.specs.declared.line.Line.TheVariants as lines
use Rattle.ld_op.specs.declared.op.Op.{Op}
use Rattle.ld_op.specs.declared.op.Op.TheVariants as ops
use Rattle.ld_op.specs.Plain.{Plain, Log, log_of, empty_log, is_lost, lost_log, lost_logs, apply, with_log, refilled}
use Rattle.ld_msg.specs.Register.{Register, Epochs, no_epochs, epochs_of, epochs_in}
use Rattle.ld_machine.specs.Disk.{Node, Fate, Made, FailsAt, CrashesAt, fate, new_node, keep_op, kept_by, kept_end, is_full_for, load, loaded_by, load_end, found, status_of, Written, is_up, is_blank, Blank, Up, Failed, op_calls}
use Rattle.ld_machine.specs.Facts.{Happened, Standing, Lost, lost_to, standing_after, standing_in, standing, stands_for}
use Rattle.ld_machine.specs.World.{In, MayHold}
use Rattle.ld_machine.specs.Step as Step
use Rattle.ld_safety.proofs.Lists.{Some_inj, not_both, cond_both}
use Rattle.ld_safety.proofs.Members.{find_in}
use Rattle.ld_safety.proofs.Rising.{Rising}
use Rattle.ld_safety.proofs.HoldSteps.{is_format, same_generation}
use Rattle.ld_safety.proofs.LostNodes.{lost_before, kept_from, loaded_from}

-- ---- lines ----
pub standing_grows : (n l : ℕ) (hs : List Happened) (h : Happened) (st : Standing) → standing n l (hs ++ h ∷ []) st ≡ standing_in n l h.lines (standing n l hs st)
standing_grows n l [] h st = refl
standing_grows n l (g ∷ hs) h st = standing_grows n l hs h (standing_in n l g.lines st)

-- a line that says that a node was wiped, rebuilt or formatted
abbrev pub moves : Line → Bool
moves (lines.NodeWiped m) = true
moves (lines.NodeRebuilt m k) = true
moves (lines.NodeFormatted m g) = true
moves _ = false

stays_after : (n l : ℕ) (x : Line) (after : List Line) (st : Standing) → moves x ≡ false → standing_after n l x after st ≡ st
stays_after n l (lines.NodeWiped m) after st h = absurd cc
stays_after n l (lines.NodeRebuilt m k) after st h = absurd cc
stays_after n l (lines.NodeFormatted m g) after st h = absurd cc
stays_after n l _ after st h = refl

abbrev pub Still : List Line → Type 0
Still ls = (x : Line) → In x ls → moves x ≡ false

pub stays_in : (n l : ℕ) (ls : List Line) (st : Standing) → Still ls → standing_in n l ls st ≡ st
stays_in n l [] st h = refl
stays_in n l (x ∷ ls) st h = ap (standing_in n l ls) (stays_after n l x ls st (h x (inl refl))) ∙ stays_in n l ls st (λ y i. h y (inr i))

-- ---- one node ----
pub record Stands (st : Standing) (l : ℕ) (x : Node) : Type 0 where
  pub blank : (p : Plain) → MayHold x p → p.generation ≡ 0 → st ≡ Lost
  pub lost : (p : Plain) (e : ℕ) → MayHold x p → is_lost (log_of p l) e ≡ true → stands_for e st ≡ true
  pub idle : is_blank x.status ≡ true → (x.plain.generation ≡ 0) × (x.cut ≡ None)
  pub up : is_up x.status ≡ true → (x.cut ≡ None) × (0 < x.plain.generation)

pub new_stands : (l : ℕ) → Stands Lost l new_node
unfolding find
new_stands l = record {
  blank = λ p h z. refl;
  lost = λ p e h z. refl;
  idle = λ h. (refl, refl);
  up = λ h. absurd cc;
}

kept_status : (x : Node) (o : Op) (f : Fate) → is_blank (kept_by x o f).status ≡ false
kept_status x o Made = refl
kept_status x o (FailsAt k) = refl
kept_status x o (CrashesAt k p) = refl

pub keep_status : (x : Node) (o : Op) → is_blank (keep_op x o).status ≡ false
unfolding keep_op
keep_status x o = cond_both (is_full_for x o) (record x { status = Failed }) (kept_by x o (fate (op_calls x o) x.fault)) (λ z. is_blank z.status ≡ false) (λ t. refl) (λ t. kept_status x o (fate (op_calls x o) x.fault))

kept_up : (x : Node) (o : Op) (f : Fate) → (x.cut ≡ None) × (0 < (apply x.plain o).generation) → is_up (kept_by x o f).status ≡ true → ((kept_by x o f).cut ≡ None) × (0 < (kept_by x o f).plain.generation)
kept_up x o Made h u = h
kept_up x o (FailsAt k) h u = absurd cc
kept_up x o (CrashesAt k p) h u = absurd cc

pub keep_up : (x : Node) (o : Op) → (x.cut ≡ None) × (0 < (apply x.plain o).generation) → is_up (keep_op x o).status ≡ true → ((keep_op x o).cut ≡ None) × (0 < (keep_op x o).plain.generation)
unfolding keep_op
keep_up x o h = cond_both (is_full_for x o) (record x { status = Failed }) (kept_by x o (fate (op_calls x o) x.fault)) (λ z. is_up z.status ≡ true → (z.cut ≡ None) × (0 < z.plain.generation)) (λ t u. absurd cc) (λ t. kept_up x o (fate (op_calls x o) x.fault) h)

-- an op of a node that is up makes it lost for nothing
pub op_stands : (st : Standing) (l : ℕ) (x : Node) (o : Op) → is_format o ≡ false → is_up x.status ≡ true → Stands st l x → Stands st l (keep_op x o)
op_stands st l x o n u S = record {
  blank = λ p h z. elim (kept_from x o p h).from [ inl a ↦ S.blank p a z | inr a ↦ S.blank x.plain (inl refl) (sym (same_generation x.plain o n) ∙ (ap (λ (q : Plain). q.generation) (sym a) ∙ z)) ];
  lost = λ p e h z. elim (kept_from x o p h).from [ inl a ↦ S.lost p e a z | inr a ↦ S.lost x.plain e (inl refl) (lost_before x.plain o l e n (subst (λ q. is_lost (log_of q l) e ≡ true) a z)) ];
  idle = λ h. absurd (not_both _ h (keep_status x o));
  up = keep_up x o ((S.up u).0, let g = same_generation x.plain o n in let k = (S.up u).1 in omega arith);
}

-- a node that stands lost for everything may be formatted
pub format_stands : (l : ℕ) (x : Node) (o : Op) → x.cut ≡ None → 0 < (apply x.plain o).generation → Stands Lost l x → Stands Lost l (keep_op x o)
format_stands l x o c g S = record {
  blank = λ p h z. refl;
  lost = λ p e h z. refl;
  idle = λ h. absurd (not_both _ h (keep_status x o));
  up = keep_up x o (c, g);
}

status_blank : (p : Plain) → is_blank (status_of p) ≡ true → p.generation ≡ 0
status_blank p h = elim (cases_Bool (p.generation == 0)) [
  | inl t ↦ eqb-true p.generation 0 t
  | inr t ↦ absurd (let z = subst (λ b. is_blank (if b then Blank else Up) ≡ true) t h in cc)
]

status_up : (p : Plain) → is_up (status_of p) ≡ true → 0 < p.generation
status_up p h = elim (cases_Bool (p.generation == 0)) [
  | inl t ↦ absurd (let z = subst (λ b. is_up (if b then Blank else Up) ≡ true) t h in cc)
  | inr t ↦ let n = eqb-false p.generation 0 t in elim (cases_order p.generation 0) [ inl e ↦ absurd (n e) | inr (inl l) ↦ absurd (omega arith) | inr (inr l) ↦ l ]
]

load_idle : (x : Node) (f : Fate) → is_blank (loaded_by x f).status ≡ true → ((loaded_by x f).plain.generation ≡ 0) × ((loaded_by x f).cut ≡ None)
load_idle x Made h = (status_blank (found x x.cut) h, refl)
load_idle x (FailsAt k) h = absurd cc
load_idle x (CrashesAt k p) h = absurd cc

load_up : (x : Node) (f : Fate) → is_up (loaded_by x f).status ≡ true → ((loaded_by x f).cut ≡ None) × (0 < (loaded_by x f).plain.generation)
load_up x Made h = (refl, status_up (found x x.cut) h)
load_up x (FailsAt k) h = absurd cc
load_up x (CrashesAt k p) h = absurd cc

pub load_stands : (st : Standing) (l : ℕ) (x : Node) → Stands st l x → Stands st l (load x)
unfolding load
load_stands st l x S = record {
  blank = λ p h. S.blank p (loaded_from x p h);
  lost = λ p e h. S.lost p e (loaded_from x p h);
  idle = load_idle x (fate 1 x.fault);
  up = load_up x (fate 1 x.fault);
}

written_by : (x : Node) (f : Fate) → kept_end f ≡ Written → ((loaded_by x f).cut ≡ None) × ((loaded_by x f).plain ≡ found x x.cut)
written_by x Made h = (refl, refl)
written_by x (FailsAt k) h = absurd cc
written_by x (CrashesAt k p) h = absurd cc

pub load_whole : (x : Node) → load_end x ≡ Written → (load x).cut ≡ None
unfolding load
load_whole x h = (written_by x (fate 1 x.fault) h).0

-- ---- a rebuilt node ----
pub not_lost_after : (p : Plain) (l e : ℕ) → is_lost (log_of (apply p (ops.Refilled l)) l) e ≡ true → ⊥
unfolding apply
not_lost_after p l e h = let q : log_of (with_log p l (refilled (log_of p l))) l ≡ refilled (log_of p l) = ap (λ o. unwrap_or o empty_log) (find-put_same l l (refilled (log_of p l)) p.logs refl) in let z : is_lost (refilled (log_of p l)) e ≡ true = subst (λ g. is_lost g e ≡ true) q h in cc

-- ---- a formatted node ----
record LostFrom (m : List (ℕ × Epochs)) (l : ℕ) (g : Log) : Type 0 where
  is : g ≡ lost_log (unwrap_or (find l m) no_epochs).epoch
  positive : 0 < (unwrap_or (find l m) no_epochs).epoch

lost_from : (m : List (ℕ × Epochs)) (l : ℕ) (g : Log) → Rising m → find l (lost_logs (epochs_in m)) ≡ Some g → LostFrom m l g
unfolding find
lost_from [] l g r h = absurd cc
lost_from (x ∷ m) l g r h = by_epoch (λ q. lost_from m l g r.1 q) (x.1.epoch == 0) refl (is_at (nat_cmp l) x.0) refl h where
  later : Rising (x ∷ m) → is_at (nat_cmp l) x.0 ≡ true → LostFrom m l g → ⊥
  later q t k = by_find (find l m) refl where
    by_find : (o : Option Epochs) → find l m ≡ o → ⊥
    by_find None e = let z = subst (λ (v : Option Epochs). 0 < (unwrap_or v no_epochs).epoch) e k.positive in omega arith
    by_find (Some v) e = let a = q.0 (l, v) (find_in l m v e) in let b = same_key l x.0 t in omega arith

  by_epoch : (find l (lost_logs (epochs_in m)) ≡ Some g → LostFrom m l g) → (b : Bool) → (x.1.epoch == 0) ≡ b → (a : Bool) → is_at (nat_cmp l) x.0 ≡ a → find l (lost_logs (cond b (epochs_in m) ((x.0, x.1.epoch) ∷ epochs_in m))) ≡ Some g → LostFrom (x ∷ m) l g
  by_epoch ih true z true t q = absurd (later r t (ih q))
  by_epoch ih true z false t q = let k = ih q in record {
    is = subst (λ a. g ≡ lost_log (unwrap_or (cond a (Some x.1) (find l m)) no_epochs).epoch) (sym t) k.is;
    positive = subst (λ a. 0 < (unwrap_or (cond a (Some x.1) (find l m)) no_epochs).epoch) (sym t) k.positive;
  }
  by_epoch ih false z true t q = let e : Some (lost_log x.1.epoch) ≡ Some g = subst (λ a. cond a (Some (lost_log x.1.epoch)) (find l (lost_logs (epochs_in m))) ≡ Some g) t q in record {
    is = subst (λ a. g ≡ lost_log (unwrap_or (cond a (Some x.1) (find l m)) no_epochs).epoch) (sym t) (sym (Some_inj e));
    positive = subst (λ a. 0 < (unwrap_or (cond a (Some x.1) (find l m)) no_epochs).epoch) (sym t) (let n = eqb-false x.1.epoch 0 z in elim (cases_order x.1.epoch 0) [ inl u ↦ absurd (n u) | inr (inl u) ↦ absurd (omega arith) | inr (inr u) ↦ u ]);
  }
  by_epoch ih false z false t q = let k = ih (subst (λ a. cond a (Some (lost_log x.1.epoch)) (find l (lost_logs (epochs_in m))) ≡ Some g) t q) in record {
    is = subst (λ a. g ≡ lost_log (unwrap_or (cond a (Some x.1) (find l m)) no_epochs).epoch) (sym t) k.is;
    positive = subst (λ a. 0 < (unwrap_or (cond a (Some x.1) (find l m)) no_epochs).epoch) (sym t) k.positive;
  }

-- up to the register's epoch
pub formatted_lost : (r : Register) (g l e : ℕ) → Rising r.logs → is_lost (log_of (record { generation = g; logs = lost_logs (epochs_in r.logs) }) l) e ≡ true → (0 < (epochs_of r l).epoch) × (e ≤ (epochs_of r l).epoch)
formatted_lost r g l e R h = by_find (find l (lost_logs (epochs_in r.logs))) refl h where
  by_find : (o : Option Log) → find l (lost_logs (epochs_in r.logs)) ≡ o → is_lost (unwrap_or o empty_log) e ≡ true → (0 < (epochs_of r l).epoch) × (e ≤ (epochs_of r l).epoch)
  by_find None q z = absurd cc
  by_find (Some k) q z = let f = lost_from r.logs l k R q in let y : is_lost (lost_log (epochs_of r l).epoch) e ≡ true = subst (λ v. is_lost v e ≡ true) f.is z in
      let u = and_parts (nat_lt 0 (epochs_of r l).epoch) (nat_lt 0 e && nat_le e (epochs_of r l).epoch) y in let v = and_parts (nat_lt 0 e) (nat_le e (epochs_of r l).epoch) u.1 in (f.positive, leb-true _ _ v.1)

-- and its lines say so
self : (n : ℕ) → (n == n) ≡ true
self n = eq-eqb n n refl

line_told : (n l k e : ℕ) (ls : List Line) → k ≡ l → lost_to n l (lines.NodeLost n k e ∷ ls) ≡ Some e
line_told n l k e ls q = ap (λ b. cond b (Some e) (lost_to n l ls)) (and_from (n == n) (k == l) (self n) (eq-eqb k l q))

line_skipped : (n l k e : ℕ) (ls : List Line) → (k == l) ≡ false → lost_to n l (lines.NodeLost n k e ∷ ls) ≡ lost_to n l ls
line_skipped n l k e ls q = ap (λ b. cond b (Some e) (lost_to n l ls)) (ap (λ b. b && (k == l)) (self n) ∙ q)

pub lines_told : (n l : ℕ) (r : Register) (ps : List Spec) → any_of (λ p. p.log == l) ps ≡ true → 0 < (epochs_of r l).epoch → lost_to n l (Step.lost_lines n r ps) ≡ Some (epochs_of r l).epoch
lines_told n l r [] i z = absurd cc
lines_told n l r (p ∷ ps) i z = by_log (λ j. lines_told n l r ps j z) (p.log == l) refl i where
  first : p.log ≡ l → lost_to n l (Step.lost_line n (epochs_of r p.log).epoch p ++ Step.lost_lines n r ps) ≡ Some (epochs_of r l).epoch
  first q = let t : nat_lt 0 (epochs_of r p.log).epoch ≡ true = lt-ltb 0 (epochs_of r p.log).epoch (subst (λ k. 0 < (epochs_of r k).epoch) (sym q) z) in
      ap (λ b. lost_to n l (cond b (lines.NodeLost n p.log (epochs_of r p.log).epoch ∷ []) [] ++ Step.lost_lines n r ps)) t ∙ (line_told n l p.log (epochs_of r p.log).epoch (Step.lost_lines n r ps) q ∙ ap (λ k. Some (epochs_of r k).epoch) q)

  other : (b : Bool) → (p.log == l) ≡ false → lost_to n l (cond b (lines.NodeLost n p.log (epochs_of r p.log).epoch ∷ []) [] ++ Step.lost_lines n r ps) ≡ lost_to n l (Step.lost_lines n r ps)
  other true q = line_skipped n l p.log (epochs_of r p.log).epoch (Step.lost_lines n r ps) q
  other false q = refl

  by_log : (any_of (λ k. k.log == l) ps ≡ true → lost_to n l (Step.lost_lines n r ps) ≡ Some (epochs_of r l).epoch) → (b : Bool) → (p.log == l) ≡ b → (b || any_of (λ k. k.log == l) ps) ≡ true → lost_to n l (Step.lost_lines n r (p ∷ ps)) ≡ Some (epochs_of r l).epoch
  by_log ih true q j = first (eqb-true p.log l q)
  by_log ih false q j = other (nat_lt 0 (epochs_of r p.log).epoch) q ∙ ih j
