-- In every state of every run each entry at a node stands under its own number, whatever a load finds.
use Rattle.std.proofs.Common.{◌≡◌, ◌∙◌, ℕ, inl, inr, sym, ap, subst, Bool, true, false, List, [], ◌∷◌, Option, Some, None, cond, arith}
use Rattle.std.specs.Option.{unwrap_or}
use Rattle.std.specs.Ordering.{nat_cmp}
use Rattle.std.specs.BTreeMap.{is_at}
use Rattle.ld_table.specs.Table.{find, put, keep, keep_keys}
use Rattle.ld_table.proofs.Laws.{put_cases, table_rules, find-empty}
use Rattle.ld_msg.specs.declared.msg.Entry.{Entry}
use Rattle.ld_msg.specs.declared.msg.Body.{Body}
use Rattle.ld_msg.specs.declared.msg.Body.TheVariants as bodies
use Rattle.ld_schedule.specs.declared.event.Event.{Event}
use Rattle.ld_schedule.specs.declared.event.Picture.{Picture}
use Rattle.ld_op.specs.declared.op.Op.{Op}
use Rattle.ld_op.specs.declared.op.Op.TheVariants as ops
use Rattle.ld_op.specs.Plain.{Plain, Log, log_of, empty_log, with_log, lost_logs, lost_log, accepted, sealed_by, refill_entries, refilled, apply}
use Rattle.ld_op.proofs.Moves.{taken_from}
use Rattle.ld_config.specs.declared.config.Config.{Config}
use Rattle.ld_machine.specs.Disk.{Node, Cut, Fate, Made, FailsAt, CrashesAt, fate, new_node, keep_op, kept_by, is_full_for, load, loaded_by, found, is_found, seen_too, Failed, op_calls}
use Rattle.ld_machine.specs.State.{node_at, start}
use Rattle.ld_machine.specs.Run.{state_after}
use Rattle.ld_machine.specs.Step as Step
use Rattle.ld_machine.proofs.Nodes.{NodeKeeps, every_run_keeps}

-- each entry stands under its number
abbrev Numbered : List (ℕ × Entry) → Type 0
Numbered m = (q : ℕ) (e : Entry) → find q m ≡ Some e → e.number ≡ q

abbrev PlainNumbered : Plain → Type 0
PlainNumbered p = (l : ℕ) → Numbered (log_of p l).entries

nothing_numbered : Numbered []
nothing_numbered q e h = let n = find-empty {X = Entry} q in absurd (none_some (sym n ∙ h)) where
  none_some : None ≡ Some e → ⊥
  none_some = λ h. cc

with_log_numbered : (p : Plain) (l : ℕ) (g : Log) → Numbered g.entries → PlainNumbered p → PlainNumbered (with_log p l g)
with_log_numbered p l g h a m = elim (put_cases m l g p.logs) [
  | inl e ↦ subst (λ o. Numbered (unwrap_or o empty_log).entries) (sym e.1) h
  | inr e ↦ subst (λ o. Numbered (unwrap_or o empty_log).entries) (sym e.1) (a m)
]

taken_numbered : (g : Log) (lng : ℕ) (e : Entry) → Numbered g.entries → Numbered (accepted g lng e).entries
taken_numbered g lng e a q f h = elim (taken_from g lng e q f h) [
  | inl c ↦ ap (λ (v : Entry). v.number) c.1 ∙ sym c.0
  | inr c ↦ a q f c
]

kept_numbered : (p : ℕ → Entry → Bool) (m : List (ℕ × Entry)) → Numbered m → Numbered (keep p m)
kept_numbered p m a q f h = let i = a q f in grind (arith, table_rules)

trimmed_numbered : (p : ℕ → Bool) (m : List (ℕ × Entry)) → Numbered m → Numbered (keep_keys p m)
trimmed_numbered p m a q f h = let i = a q f in grind (arith, table_rules)

put_numbered : (e : Entry) (m : List (ℕ × Entry)) → Numbered m → Numbered (put e.number e m)
put_numbered e m a q f h = let i = a q f in grind (arith, table_rules)

refill_numbered : (es : List Entry) (m : List (ℕ × Entry)) → Numbered m → Numbered (refill_entries es m)
refill_numbered [] m a = a
refill_numbered (e ∷ es) m a = refill_numbered es (put e.number e m) (put_numbered e m a)

lost_numbered : (ds : List (ℕ × ℕ)) (l : ℕ) → Numbered (unwrap_or (find l (lost_logs ds)) empty_log).entries
unfolding find
lost_numbered [] l = nothing_numbered
lost_numbered (d ∷ ds) l = lost_or (is_at (nat_cmp l) d.0) d.1 (find l (lost_logs ds)) (lost_numbered ds l) where
  lost_or : (b : Bool) (c : ℕ) (o : Option Log) → Numbered (unwrap_or o empty_log).entries → Numbered (unwrap_or (cond b (Some (lost_log c)) o) empty_log).entries
  lost_or true c o h = nothing_numbered
  lost_or false c o h = h

pub op_numbered : (p : Plain) (o : Op) → PlainNumbered p → PlainNumbered (apply p o)
unfolding apply
op_numbered p (ops.Format generation epochs) a = lost_numbered epochs
op_numbered p (ops.Accept l lng e) a = with_log_numbered p l _ (taken_numbered (log_of p l) lng e (a l)) a
op_numbered p (ops.Seal l b) a = with_log_numbered p l (sealed_by (log_of p l) b) (a l) a
op_numbered p (ops.Clean l epoch y) a = with_log_numbered p l _ (kept_numbered _ (log_of p l).entries (a l)) a
op_numbered p (ops.Trim l t) a = with_log_numbered p l _ (trimmed_numbered _ (log_of p l).entries (a l)) a
op_numbered p (ops.Refill l es) a = with_log_numbered p l _ (refill_numbered es (log_of p l).entries (a l)) a
op_numbered p (ops.Refilled l) a = with_log_numbered p l (refilled (log_of p l)) (a l) a

-- both plain states of a node
abbrev CutNumbered : Option Cut → Type 0
CutNumbered None = Unit {0}
CutNumbered (Some k) = PlainNumbered k.plain

abbrev NodeNumbered : Node → Type 0
NodeNumbered x = PlainNumbered x.plain × CutNumbered x.cut

by_fate : (x : Node) (o : Op) (f : Fate) → NodeNumbered x → NodeNumbered (kept_by x o f)
by_fate x o Made a = (op_numbered x.plain o a.0, a.1)
by_fate x o (FailsAt k) a = (a.0, op_numbered x.plain o a.0)
by_fate x o (CrashesAt k p) a = (a.0, op_numbered x.plain o a.0)

unless_full : (b : Bool) (x n : Node) → NodeNumbered x → NodeNumbered n → NodeNumbered (cond b (record x { status = Failed }) n)
unless_full true x n a h = a
unless_full false x n a h = h

op_kept_numbered : (x : Node) (o : Op) → NodeNumbered x → NodeNumbered (keep_op x o)
unfolding keep_op
op_kept_numbered x o a = unless_full (is_full_for x o) x (kept_by x o (fate (op_calls x o) x.fault)) a (by_fate x o (fate (op_calls x o) x.fault) a)

one_of : (b : Bool) (p q : Plain) → PlainNumbered p → PlainNumbered q → PlainNumbered (cond b p q)
one_of true p q a h = a
one_of false p q a h = h

found_numbered : (x : Node) (k : Option Cut) → PlainNumbered x.plain → CutNumbered k → PlainNumbered (found x k)
found_numbered x None a h = a
found_numbered x (Some k) a h = one_of (is_found k) k.plain x.plain h a

seen_numbered : (p : Picture) (k : Option Cut) → CutNumbered k → CutNumbered (seen_too p k)
seen_numbered p None h = h
seen_numbered p (Some k) h = h

by_load : (x : Node) (f : Fate) → NodeNumbered x → NodeNumbered (loaded_by x f)
by_load x Made a = (found_numbered x x.cut a.0 a.1, tt)
by_load x (FailsAt k) a = a
by_load x (CrashesAt k p) a = (a.0, seen_numbered p x.cut a.1)

load_numbered : (x : Node) → NodeNumbered x → NodeNumbered (load x)
unfolding load
load_numbered x a = by_load x (fate 1 x.fault) a

released_numbered : (x : Node) (l : ℕ) (b : Body) → NodeNumbered x → NodeNumbered (Step.releases x l b)
released_numbered x l (bodies.Release y) a = a
released_numbered x l _ a = a

new_numbered : NodeNumbered new_node
unfolding find
new_numbered = (λ l. nothing_numbered, tt)

numbered_keeps : NodeKeeps NodeNumbered
numbered_keeps = record {
  fresh = new_numbered;
  ops = op_kept_numbered;
  loads = load_numbered;
  stops = λ x a. a;
  faults = λ x f a. a;
  releases = released_numbered;
}

-- in every state of every run
pub entries_stand_under_their_numbers : (c : Config) (es : List Event) (y l q : ℕ) (e : Entry) → find q (log_of (node_at (state_after c (start c) es) y).plain l).entries ≡ Some e → e.number ≡ q
entries_stand_under_their_numbers c es y l q e h = (every_run_keeps NodeNumbered numbered_keeps c es y).0 l q e h
