-- What a JSON value says of a configuration, or its first fault.
use Rattle.std.specs.Prelude.{length, ℕ, ◌≡◌, ◌==◌, ◌&&◌, ◌||◌, nat_le, not, Bool, true, false, if◌then◌else◌, List, [], ◌∷◌, ◌++◌, codes, Option, Some, None, is_some, option_and_then, ok_or, Result, Ok, Err, ◌⊎◌}
use Rattle.serde_json.specs.Data.{Data, Items, no_items, item, Members}
use Rattle.serde_json.specs.Find.{get, as_array, as_object, as_number, as_u64}
use Rattle.serde_json.specs.Events.{items_len, members_len}
use Rattle.ld_ids.specs.Set.{no_nodes, with_node, has_node, members}
use Rattle.ld_ids.specs.declared.set.Spec.{Spec}
use Rattle.ld_config.specs.declared.fault.Field.{Field}
use Rattle.ld_config.specs.declared.fault.Field.TheVariants as fields
use Rattle.ld_config.specs.declared.fault.ConfigFault.{ConfigFault}
use Rattle.ld_config.specs.declared.fault.ConfigFault.TheVariants.{NotJson, Shape, Range, Twice, NoMemory}
use Rattle.ld_config.specs.declared.config.Config.{Config}

-- the second step, where the first has no fault
infixl 10 ◌>>=◌
abbrev pub ◌>>=◌ : {A B : Type 0} → Result A ConfigFault → (A → Result B ConfigFault) → Result B ConfigFault
Ok x >>= f = f x
Err e >>= f = Err e

-- a whole number from 0 to 2^64-1
abbrev pub number_of : Field → Data → Result ℕ ConfigFault
number_of field d = ok_or (option_and_then as_u64 (as_number d)) (Shape field)

-- such a number within bounds
abbrev pub bounded : Field → ℕ → ℕ → ℕ → Result ℕ ConfigFault
bounded field least most n = if nat_le least n && nat_le n most then Ok n else Err (Range field n)

abbrev pub bounded_of : Field → ℕ → ℕ → Data → Result ℕ ConfigFault
bounded_of field least most d = do
  n ← number_of field d
  bounded field least most n

-- a node is added that isn't there yet
abbrev pub new_node : ℕ → List Bool → Result (List Bool) ConfigFault
new_node n nodes = if nat_le 1 n && nat_le n 16 && not (has_node n nodes) then Ok (with_node n nodes) else Err (Range fields.Node n)

unfoldable pub add_nodes : Items → List Bool → Result (List Bool) ConfigFault
add_nodes no_items nodes = Ok nodes
add_nodes (item d ds) nodes = do
  n ← number_of fields.Node d
  more ← new_node n nodes
  add_nodes ds more

abbrev pub nodes_of : Data → Result (List Bool) ConfigFault
nodes_of d = do
  ds ← ok_or (as_array d) (Shape fields.Nodes)
  if items_len ds == 0 then Err (Range fields.Nodes 0) else add_nodes ds no_nodes

-- a log's node is one of the nodes, and isn't there yet
abbrev pub new_member : List Bool → ℕ → List Bool → Result (List Bool) ConfigFault
new_member nodes n set = if nat_le 1 n && nat_le n 16 && has_node n nodes && not (has_node n set) then Ok (with_node n set) else Err (Range fields.Member n)

unfoldable pub add_members : List Bool → Items → List Bool → Result (List Bool) ConfigFault
add_members nodes no_items set = Ok set
add_members nodes (item d ds) set = do
  n ← number_of fields.Member d
  more ← new_member nodes n set
  add_members nodes ds more

abbrev pub set_of : List Bool → Data → Result (List Bool) ConfigFault
set_of nodes d = do
  ds ← ok_or (as_array d) (Shape fields.Set)
  if items_len ds == 0 then Err (Range fields.Set 0) else add_members nodes ds no_nodes

-- whether the log was named before
abbrev pub is_used : ℕ → List Spec → Bool
is_used log [] = false
is_used log (spec ∷ specs) = (spec.log == log) || is_used log specs

abbrev pub new_log : ℕ → List Spec → Result ℕ ConfigFault
new_log log specs = if is_used log specs then Err (Twice log) else Ok log

abbrev pub id_of : List Spec → Data → Result ℕ ConfigFault
id_of specs d = do
  n ← bounded_of fields.Id 1 65535 d
  new_log n specs

-- 0 where it is left out
abbrev pub extras_of : Option Data → Result ℕ ConfigFault
extras_of None = Ok 0
extras_of (Some d) = bounded_of fields.Extras 0 3 d

-- the parts of a log, and nothing else
pub record LogParts : Type 0 where
  pub id : Data
  pub set : Data
  pub r : Data
  pub extras : Option Data

-- how many parts a log has
abbrev pub part_count : Bool → ℕ
part_count true = 4
part_count false = 3

abbrev pub log_parts : Option Members → Option Data → Option Data → Option Data → Option Data → Result LogParts ConfigFault
log_parts (Some ms) (Some id) (Some set) (Some r) extras =
    if members_len ms == part_count (is_some extras) then Ok (record { id = id; set = set; r = r; extras = extras }) else Err (Shape fields.Log)
log_parts _ _ _ _ _ = Err (Shape fields.Log)

abbrev pub log_parts_of : Data → Result LogParts ConfigFault
log_parts_of d = log_parts (as_object d) (get (codes "id") d) (get (codes "set") d) (get (codes "r") d) (get (codes "extras") d)

abbrev pub spec_of : List Bool → List Spec → Data → Result Spec ConfigFault
spec_of nodes specs d = do
  parts ← log_parts_of d
  log ← id_of specs parts.id
  set ← set_of nodes parts.set
  r ← bounded_of fields.R 1 (length (members set)) parts.r
  extras ← extras_of parts.extras
  Ok (record { log = log; set = set; r = r; extras = extras })

unfoldable pub add_logs : List Bool → Items → List Spec → Result (List Spec) ConfigFault
add_logs nodes no_items specs = Ok specs
add_logs nodes (item d ds) specs = do
  spec ← spec_of nodes specs d
  add_logs nodes ds (specs ++ spec ∷ [])

abbrev pub logs_of : List Bool → Data → Result (List Spec) ConfigFault
logs_of nodes d = do
  ds ← ok_or (as_array d) (Shape fields.Logs)
  if nat_le 1 (items_len ds) && nat_le (items_len ds) 64 then add_logs nodes ds [] else Err (Range fields.Logs (items_len ds))

-- the two parts of a configuration, and nothing else
abbrev pub top_parts : Option Members → Option Data → Option Data → Result (Data × Data) ConfigFault
top_parts (Some ms) (Some nodes) (Some logs) = if members_len ms == 2 then Ok (nodes, logs) else Err (Shape fields.Top)
top_parts _ _ _ = Err (Shape fields.Top)

abbrev pub top_of : Data → Result (Data × Data) ConfigFault
top_of d = top_parts (as_object d) (get (codes "nodes") d) (get (codes "logs") d)

-- the configuration that the value says, or its first fault
abbrev pub config_of : Data → Result Config ConfigFault
config_of d = do
  top ← top_of d
  nodes ← nodes_of top.0
  logs ← logs_of nodes top.1
  Ok (record { nodes = nodes; logs = logs })

abbrev pub config_of_text : Option Data → Result Config ConfigFault
config_of_text None = Err NotJson
config_of_text (Some d) = config_of d

-- the answer is this one, or there was no memory
abbrev pub OrNoMemory : {A : Type 0} → Result A ConfigFault → Result A ConfigFault → Type 0
OrNoMemory answer result = (result ≡ answer) ⊎ (result ≡ Err NoMemory)
