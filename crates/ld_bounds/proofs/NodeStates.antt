-- A node that keeps a record, loads, or is given a fault stays in its bounds.
use Rattle.std.proofs.Common.{◌≡◌, ℕ, refl, List, [], ◌∷◌, Option, Some, None, arith}
use Rattle.std.specs.Option.{unwrap_or}
use Rattle.std.specs.List.{AllByRecursion}
use Rattle.std.specs.List.Sorted.{IsStrictlySortedBy}
use Rattle.std.proofs.lemmas.Bool.{cond_both}
use Rattle.ld_table.specs.Table.{find, Ordered}
use Rattle.ld_table.proofs.Order.{Ordered-put}
use Rattle.ld_ids.specs.Id.{IsLog}
use Rattle.ld_schedule.specs.declared.event.Picture.{Picture}
use Rattle.ld_msg.specs.declared.msg.Summary.{Summary}
use Rattle.ld_msg.specs.declared.msg.Body.{Body}
use Rattle.ld_msg.specs.declared.msg.Body.TheVariants as bodies
use Rattle.ld_msg.specs.declared.msg.Who.{Who}
use Rattle.ld_msg.specs.Bounds.{Is64, Fits}
use Rattle.ld_op.specs.declared.op.Op.{Op}
use Rattle.ld_op.specs.declared.op.Op.TheVariants as ops
use Rattle.ld_op.specs.Plain.{Log, Plain, empty_log, log_of, lost_logs, accepted, sealed_by, cleaned, trimmed_to, refilled_with, refilled, apply}
use Rattle.ld_machine.specs.Disk.{Node, Cut, Fault, Fate, Made, FailsAt, CrashesAt, new_node, Failed, is_full_for, keep_op, kept_by, fate, found, is_found, load, loaded_by, seen_too, op_calls}
use Rattle.ld_machine.specs.Step.{released_at, releases, stopped, with_fault}
use Rattle.ld_node_bounds.specs.States.{last_handed_out, IsPlain}
use Rattle.ld_node_bounds.specs.Messages.{IsKept}
use Rattle.ld_bounds.specs.Nodes.{RiseAt, Rise, IsCut, IsNodeState, IsNodeAt}
use Rattle.ld_node_bounds.proofs.Alls.{all-put, all-find}
use Rattle.ld_node_bounds.proofs.Ops.{unformatted_is, apply_is}
use Rattle.ld_node_bounds.proofs.Released.{released_there, released_with}

-- ---- summaries ----

no_summaries : Ordered {X = Summary} []
unfolding IsStrictlySortedBy
no_summaries = tt

lost_rise : (ds : List (ℕ × ℕ)) → AllByRecursion RiseAt (lost_logs ds)
lost_rise [] = tt
lost_rise (d ∷ ds) = (no_summaries, lost_rise ds)

or_empty : (o : Option Log) → ((g : Log) → o ≡ Some g → Ordered g.summaries) → Ordered (unwrap_or o empty_log).summaries
or_empty None f = no_summaries
or_empty (Some g) f = f g refl

pub log_rises : (p : Plain) (l : ℕ) → Rise p → Ordered (log_of p l).summaries
log_rises p l r = or_empty (find l p.logs) (λ g h. all-find RiseAt l p.logs g r h)

apply_rises : (p : Plain) (o : Op) → Rise p → Rise (apply p o)
unfolding apply
apply_rises p (ops.Format generation epochs) r = lost_rise epochs
apply_rises p (ops.Accept l lng e) r = all-put RiseAt l (accepted (log_of p l) lng e) p.logs (log_rises p l r) r
apply_rises p (ops.Seal l b) r = all-put RiseAt l (sealed_by (log_of p l) b) p.logs (log_rises p l r) r
apply_rises p (ops.Clean l epoch y) r = all-put RiseAt l (cleaned (log_of p l) epoch y) p.logs (Ordered-put epoch y (log_of p l).summaries (log_rises p l r)) r
apply_rises p (ops.Trim l t) r = all-put RiseAt l (trimmed_to (log_of p l) t) p.logs (log_rises p l r) r
apply_rises p (ops.Refill l es) r = all-put RiseAt l (refilled_with (log_of p l) es) p.logs (log_rises p l r) r
apply_rises p (ops.Refilled l) r = all-put RiseAt l (refilled (log_of p l)) p.logs (log_rises p l r) r

-- ---- nodes ----

pub new_is : IsNodeState new_node
new_is = record { plain = unformatted_is last_handed_out; rise = tt; cut = tt; released = tt }

or_new : (o : Option Node) → ((x : Node) → o ≡ Some x → IsNodeState x) → IsNodeState (unwrap_or o new_node)
or_new None f = new_is
or_new (Some x) f = f x refl

pub node_there : (ns : List (ℕ × Node)) (n : ℕ) → AllByRecursion IsNodeAt ns → IsNodeState (unwrap_or (find n ns) new_node)
node_there ns n a = or_new (find n ns) (λ x h. (all-find IsNodeAt n ns x a h).state)

module _ (x : Node) (X : IsNodeState x) where
  -- ---- released numbers ----
  pub released_is : (l : ℕ) → Is64 (released_at x l)
  released_is l = released_there x.released X.released l

  pub releases_is : (l : ℕ) (from to : Who) (b : Body) → IsLog l → Fits from to b → IsNodeState (releases x l b)
  releases_is l from to (bodies.Release y) h f = record { plain = X.plain; rise = X.rise; cut = X.cut; released = released_with x.released X.released l y h f.1 }
  releases_is l from to (bodies.Store n lng w) h f = X
  releases_is l from to (bodies.Stored n) h f = X
  releases_is l from to (bodies.SealedHere n k) h f = X
  releases_is l from to (bodies.LostHere n round g end) h f = X
  releases_is l from to (bodies.CleanHere n y) h f = X
  releases_is l from to (bodies.TrimmedHere n t) h f = X
  releases_is l from to (bodies.DigestAsk n) h f = X
  releases_is l from to (bodies.DigestPage n upto t lng es) h f = X
  releases_is l from to (bodies.Clean e y) h f = X
  releases_is l from to (bodies.Trim t) h f = X
  releases_is l from to (bodies.ReadAsk round n) h f = X
  releases_is l from to (bodies.ReadOne round n set excluded) h f = X
  releases_is l from to (bodies.ReadPage round n upto c es) h f = X
  releases_is l from to (bodies.ReadEnded round n end loss) h f = X
  releases_is l from to (bodies.ReadTrim round n t) h f = X
  releases_is l from to (bodies.ReadWait round n r) h f = X

  -- ---- records ----
  kept_is : (o : Op) (f : Fate) → IsKept last_handed_out o → IsNodeState (kept_by x o f)
  kept_is o Made k = record { plain = apply_is last_handed_out x.plain o (omega arith) X.plain k; rise = apply_rises x.plain o X.rise; cut = X.cut; released = X.released }
  kept_is o (FailsAt call) k = record { plain = X.plain; rise = X.rise; cut = (apply_is last_handed_out x.plain o (omega arith) X.plain k, apply_rises x.plain o X.rise); released = X.released }
  kept_is o (CrashesAt call picture) k = record { plain = X.plain; rise = X.rise; cut = (apply_is last_handed_out x.plain o (omega arith) X.plain k, apply_rises x.plain o X.rise); released = X.released }

  pub keep_is : (o : Op) → IsKept last_handed_out o → IsNodeState (keep_op x o)
  unfolding keep_op
  keep_is o k = cond_both (is_full_for x o) (record x { status = Failed }) (kept_by x o (fate (op_calls x o) x.fault)) IsNodeState
      (λ t. record { plain = X.plain; rise = X.rise; cut = X.cut; released = X.released }) (λ t. kept_is o (fate (op_calls x o) x.fault) k)

  -- ---- loads ----
  found_is : (o : Option Cut) → IsCut o → IsPlain last_handed_out (found x o)
  found_is None c = X.plain
  found_is (Some k) c = cond_both (is_found k) k.plain x.plain (IsPlain last_handed_out) (λ t. c.0) (λ t. X.plain)

  found_rises : (o : Option Cut) → IsCut o → Rise (found x o)
  found_rises None c = X.rise
  found_rises (Some k) c = cond_both (is_found k) k.plain x.plain Rise (λ t. c.1) (λ t. X.rise)

  seen_is : (p : Picture) (o : Option Cut) → IsCut o → IsCut (seen_too p o)
  seen_is p None c = tt
  seen_is p (Some k) c = c

  loaded_is : (f : Fate) → IsNodeState (loaded_by x f)
  loaded_is Made = record { plain = found_is x.cut X.cut; rise = found_rises x.cut X.cut; cut = tt; released = tt }
  loaded_is (FailsAt call) = record { plain = X.plain; rise = X.rise; cut = X.cut; released = X.released }
  loaded_is (CrashesAt call picture) = record { plain = X.plain; rise = X.rise; cut = seen_is picture x.cut X.cut; released = X.released }

  pub load_is : IsNodeState (load x)
  unfolding load
  load_is = loaded_is (fate 1 x.fault)

  pub stopped_is : IsNodeState (stopped x)
  stopped_is = record { plain = X.plain; rise = X.rise; cut = X.cut; released = X.released }

  pub fault_is : (f : Fault) → IsNodeState (with_fault x f)
  fault_is f = record { plain = X.plain; rise = X.rise; cut = X.cut; released = X.released }
