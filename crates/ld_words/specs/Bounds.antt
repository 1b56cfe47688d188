-- What holds of each command that the arguments ask for.
use Rattle.std.specs.Prelude.{◌≡◌, ◌≤◌, ◌==◌, List, Bool, true, false, map}
use Rattle.ld_ids.specs.Set.{members, has_node}
use Rattle.ld_config.specs.Bounds.{IsInBounds}
use Rattle.ld_words.specs.declared.command.LogWords.{LogWords}
use Rattle.ld_words.specs.declared.command.AppendWords.{AppendWords}
use Rattle.ld_words.specs.declared.command.TailWords.{TailWords}
use Rattle.ld_words.specs.declared.command.RegisterWords.{RegisterWords}
use Rattle.ld_words.specs.declared.command.StatusWords.{StatusWords}
use Rattle.ld_words.specs.declared.command.MendWords.{MendWords}
use Rattle.ld_words.specs.declared.command.ReplaceWords.{ReplaceWords}
use Rattle.ld_words.specs.declared.command.ShowWords.{ShowWords}
use Rattle.ld_words.specs.declared.command.TrimWords.{TrimWords}
use Rattle.ld_words.specs.declared.command.Command.{Command}
use Rattle.ld_words.specs.declared.command.Command.TheVariants.{Replay, Exercise, Node, Crowd, Append, Tail, Register, Status, Mend, Replace, Show, Trim, Copy}
use Rattle.ld_words.specs.declared.address.Reach.{Reach}
use Rattle.ld_words.specs.declared.address.Reach.TheVariants as reaches
use Rattle.ld_words.specs.Meaning.{has_log}

-- where addresses are given, each of the nodes has its own one, and nobody else has
abbrev pub HasEach : List Bool → Reach → Type 0
HasEach nodes (reaches.Above port) = Unit {0}
HasEach nodes (reaches.At addresses) = map (λ a. a.node) addresses ≡ members nodes

-- the configuration is in its bounds, the log is one of its logs, and each of its nodes can be found
pub record IsLogInBounds (w : LogWords) : Type 0 where
  pub config : IsInBounds w.config
  pub log : has_log w.config w.log ≡ true
  pub nodes : HasEach w.config.nodes w.reach

-- the same, and a visit writes 1 to 128 messages before it reads their answers
pub record IsAppendInBounds (w : AppendWords) : Type 0 where
  pub of : IsLogInBounds w.of
  pub some : 1 ≤ w.in_flight
  pub few : w.in_flight ≤ 128

-- the configuration and the log are in their bounds, and there is some number from the first to the last
pub record IsTailInBounds (t : TailWords) : Type 0 where
  pub of : IsLogInBounds t.of
  pub some : 1 ≤ t.from
  pub order : t.from ≤ t.until

-- the configuration is in its bounds, and the log is one of its logs; there is no epoch 0
pub record IsRegisterInBounds (r : RegisterWords) : Type 0 where
  pub config : IsInBounds r.config
  pub log : has_log r.config r.log ≡ true
  pub some : 1 ≤ r.from

-- the configuration is in its bounds, the log is one of its logs, and each of its nodes can be found; there is an epoch to tell
pub record IsStatusInBounds (s : StatusWords) : Type 0 where
  pub config : IsInBounds s.config
  pub log : has_log s.config s.log ≡ true
  pub nodes : HasEach s.config.nodes s.reach
  pub some : 1 ≤ s.epochs

-- the configuration is in its bounds, the node is one of its nodes, and each of them can be found; there is a round to take
pub record IsMendInBounds (m : MendWords) : Type 0 where
  pub config : IsInBounds m.config
  pub node : has_node m.id m.config.nodes ≡ true
  pub nodes : HasEach m.config.nodes m.reach
  pub some : 1 ≤ m.rounds

-- the configuration is in its bounds, both nodes are its nodes, and not the same one, and the log is one of its logs
pub record IsReplaceInBounds (r : ReplaceWords) : Type 0 where
  pub config : IsInBounds r.config
  pub node : has_node r.id r.config.nodes ≡ true
  pub gone : has_node r.of r.config.nodes ≡ true
  pub apart : (r.id == r.of) ≡ false
  pub log : has_log r.config r.log ≡ true

-- the configuration is in its bounds, and the node is one of its nodes
pub record IsShowInBounds (s : ShowWords) : Type 0 where
  pub config : IsInBounds s.config
  pub node : has_node s.id s.config.nodes ≡ true

-- the configuration and the log are in their bounds, and there is some number up to the last
pub record IsTrimInBounds (t : TrimWords) : Type 0 where
  pub of : IsLogInBounds t.of
  pub some : 1 ≤ t.upto

-- a configuration is in its bounds, its log is one of its logs, and numbers are in their order
abbrev pub HasBounds : Command → Type 0
HasBounds Replay = Unit {0}
HasBounds (Exercise seed events) = Unit {0}
HasBounds (Node n) = IsInBounds n.config
HasBounds (Crowd c) = IsInBounds c.node.config
HasBounds (Append w) = IsAppendInBounds w
HasBounds (Tail t) = IsTailInBounds t
HasBounds (Register r) = IsRegisterInBounds r
HasBounds (Status s) = IsStatusInBounds s
HasBounds (Mend m) = IsMendInBounds m
HasBounds (Replace r) = IsReplaceInBounds r
HasBounds (Show s) = IsShowInBounds s
HasBounds (Trim t) = IsTrimInBounds t
HasBounds (Copy c) = Unit {0}
