-- The text of what a store holds.
use Rattle.std.specs.Prelude.{ℕ, ◌^◌, ◌-◌, min, List, [], ◌∷◌, ◌++◌, codes, Option, None, Some, Bool, if◌then◌else◌}
use Rattle.ld_ids.specs.declared.set.Spec.{Spec}
use Rattle.ld_table.specs.Words.{first}
use Rattle.ld_op.specs.Plain.{Plain, Log, log_of}
use Rattle.ld_op.specs.Indexed.{entry_count}
use Rattle.ld_op.specs.Ticks.{lowest_unclean, missing}
use Rattle.ld_mend.specs.Lines.{labelled, labelled_lsn}

-- ---- what is told ----

-- how many entries all logs have, or the greatest number of 64 bits where there are more
abbrev pub entries_told : Plain → ℕ
entries_told p = min (entry_count p.logs) (2 ^ 64 - 1)

-- of a log: the greatest ballot that it has seen, the trim point, the lowest epoch that isn't clean, the epoch up to which it is lost, the one up to which it was and is filled again, 0 for none, and, where it is lost, the lowest number that is missing
pub record Told : Type 0 where
  pub seal : ℕ
  pub trim : ℕ
  pub unclean : ℕ
  pub lost : ℕ
  pub filled : ℕ
  pub lacks : Option ℕ

abbrev pub lost_epoch : Log → ℕ
lost_epoch g = if g.lost then g.lost_to else 0

abbrev pub filled_epoch : Log → ℕ
filled_epoch g = if g.lost then 0 else g.lost_to

abbrev pub lacking : Log → Option ℕ
lacking g = if g.lost then first (missing g) else None

abbrev pub told_of : Log → Told
told_of g = record { seal = g.sealed; trim = g.trim; unclean = lowest_unclean g; lost = lost_epoch g; filled = filled_epoch g; lacks = lacking g }

-- ---- lines ----

unfoldable pub node_line : ℕ → ℕ → ℕ → List ℕ
node_line id generation entries = labelled (codes "node ") id ++ labelled (codes " generation ") generation ++ labelled (codes " entries ") entries ++ codes "\n"

unfoldable pub lacks_text : Option ℕ → List ℕ
lacks_text None = []
lacks_text (Some n) = labelled_lsn (codes " lacks ") n

unfoldable pub log_line : ℕ → Told → List ℕ
log_line l t = labelled (codes "log ") l ++ labelled (codes " seal ") t.seal ++ labelled_lsn (codes " trim ") t.trim ++ labelled (codes " open ") t.unclean
    ++ labelled (codes " lost ") t.lost ++ labelled (codes " filled ") t.filled ++ lacks_text t.lacks ++ codes "\n"

-- ---- objects ----

unfoldable pub field : List ℕ → ℕ → List ℕ
field name number = codes ",\"" ++ name ++ labelled (codes "\":") number

unfoldable pub lsn_field : List ℕ → ℕ → List ℕ
lsn_field name lsn = codes ",\"" ++ name ++ labelled_lsn (codes "\":\"") lsn ++ codes "\""

unfoldable pub node_object : ℕ → ℕ → ℕ → List ℕ
node_object id generation entries = labelled (codes "{\"node\":") id ++ field (codes "generation") generation ++ field (codes "entries") entries ++ codes "}\n"

unfoldable pub lacks_field : Option ℕ → List ℕ
lacks_field None = []
lacks_field (Some n) = lsn_field (codes "lacks") n

unfoldable pub log_object : ℕ → Told → List ℕ
log_object l t = labelled (codes "{\"log\":") l ++ field (codes "seal") t.seal ++ lsn_field (codes "trim") t.trim ++ field (codes "open") t.unclean ++ field (codes "lost") t.lost ++ field (codes "filled") t.filled
    ++ lacks_field t.lacks ++ codes "}\n"

-- ---- the whole ----

abbrev pub node_text : Bool → ℕ → Plain → List ℕ
node_text json id p = if json then node_object id p.generation (entries_told p) else node_line id p.generation (entries_told p)

abbrev pub log_text : Bool → Plain → ℕ → List ℕ
log_text json p l = if json then log_object l (told_of (log_of p l)) else log_line l (told_of (log_of p l))

-- one for each log of the configuration, in the order of its text
abbrev pub logs_text : Bool → Plain → List Spec → List ℕ
logs_text json p [] = []
logs_text json p (s ∷ ss) = log_text json p s.log ++ logs_text json p ss

abbrev pub shown_text : Bool → ℕ → Plain → List Spec → List ℕ
shown_text json id p logs = node_text json id p ++ logs_text json p logs
