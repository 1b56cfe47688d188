-- What is told of an index is what is told of the plain state that it represents.
use Rattle.std.proofs.Common.{◌≡◌, ℕ, suc, ◌+◌, ◌-◌, ◌^◌, List, [], ◌∷◌, ◌++◌, length, Option, None, Some, Bool, cond, refl, sym, ap, ◌∙◌}
use Rattle.std.specs.Prelude.{min}
use Rattle.ld_ids.specs.declared.set.Spec.{Spec}
use Rattle.ld_table.specs.Table.{map_values}
use Rattle.ld_table.specs.Words.{first}
use Rattle.ld_msg.specs.declared.msg.Entry.{Entry}
use Rattle.ld_op.specs.Plain.{Plain, Log, log_of}
use Rattle.ld_op.specs.Indexed.{entry_count}
use Rattle.ld_op.specs.Ticks.{lowest_unclean}
use Rattle.ld_op.specs.Cells.{each_entry, each_log, each_plain, byte_at}
use Rattle.ld_op.proofs.Cells.{log_same}
use Rattle.ld_op.proofs.Same.{all_missing_same}
use Rattle.ld_store.specs.Open.{told_plain}
use Rattle.ld_stopped.specs.Shown.{Told, told_of, lost_epoch, filled_epoch, node_line, node_object, log_line, log_object, node_text, log_text, logs_text, shown_text}

module _ (f : ℕ → ℕ) where
  entries_same : (m : List (ℕ × Entry)) → length (map_values (each_entry f) m) ≡ length m
  entries_same [] = refl
  entries_same (e ∷ m) = ap (λ n. suc n) (entries_same m)

  counts_same : (ls : List (ℕ × Log)) → entry_count (map_values (each_log f) ls) ≡ entry_count ls
  counts_same [] = refl
  counts_same (l ∷ ls) = λ i. entries_same l.1.entries i + counts_same ls i

  told_same : (g : Log) → told_of (each_log f g) ≡ told_of g
  told_same g = ap (λ ns. record { seal = g.sealed; trim = g.trim; unclean = lowest_unclean g; lost = lost_epoch g; filled = filled_epoch g; lacks = cond g.lost (first ns) None }) (all_missing_same f g)

  told_at : (p : Plain) (l : ℕ) → told_of (log_of (each_plain f p) l) ≡ told_of (log_of p l)
  told_at p l = ap told_of (log_same f p l) ∙ told_same (log_of p l)

  node_same : (json : Bool) (id : ℕ) (p : Plain) → node_text json id (each_plain f p) ≡ node_text json id p
  node_same json id p = ap (λ n. cond json (node_object id p.generation (min n (2 ^ 64 - 1))) (node_line id p.generation (min n (2 ^ 64 - 1)))) (counts_same p.logs)

  line_same : (json : Bool) (p : Plain) (l : ℕ) → log_text json (each_plain f p) l ≡ log_text json p l
  line_same json p l = ap (λ (t : Told). cond json (log_object l t) (log_line l t)) (told_at p l)

  logs_same : (json : Bool) (p : Plain) (ss : List Spec) → logs_text json (each_plain f p) ss ≡ logs_text json p ss
  logs_same json p [] = refl
  logs_same json p (s ∷ ss) = λ i. line_same json p s.log i ++ logs_same json p ss i

  shown_same : (json : Bool) (id : ℕ) (p : Plain) (ss : List Spec) → shown_text json id (each_plain f p) ss ≡ shown_text json id p ss
  shown_same json id p ss = λ i. node_same json id p i ++ logs_same json p ss i

pub shown_told : (told : Option (List ℕ)) (json : Bool) (id : ℕ) (index : Plain) (ss : List Spec) → shown_text json id index ss ≡ shown_text json id (told_plain told index) ss
shown_told None json id index ss = refl
shown_told (Some bytes) json id index ss = sym (shown_same (byte_at bytes) json id index ss)
