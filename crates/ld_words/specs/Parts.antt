-- What the functions say that read the arguments of a command in parts.
use Rattle.std.specs.Prelude.{◌≡◌, ◌≤◌, ◌^◌, ◌-◌, ℕ, List, codes, Some, true}
use Rattle.clap.specs.Walk.{Row, Text, first_of}
use Rattle.ld_ids.specs.Set.{has_node}
use Rattle.ld_config.specs.Bounds.{IsInBounds}
use Rattle.ld_words.specs.declared.words.ServeWords.{ServeWords}
use Rattle.ld_words.specs.declared.words.ReachWords.{ReachWords}
use Rattle.ld_words.specs.declared.words.ReadWords.{ReadWords}
use Rattle.ld_words.specs.declared.stopped.AskWords.{AskWords}
use Rattle.ld_words.specs.Bounds.{HasEach}
use Rattle.ld_words.specs.Meaning.{Is, IsNumberOr, AreFiles, IsListen, IsTurns, IsConfig, IsNumber, IsLogOf, IsReach, IsRounds, IsRange, IsPause, IsNodeOf, has_log, is_true, style_of, shown_of}

-- the files of a node, where it listens, and after how many turns it ends
pub record IsServeWords (rows : List Row) (s : ServeWords) : Type 0 where
  pub files : AreFiles rows s.store s.register
  pub listen : IsListen rows s.listen
  pub turns : IsTurns rows s.turns

-- a log of the configuration, its register, and where the configuration's nodes are
pub record IsReachWords (rows : List Row) (r : ReachWords) : Type 0 where
  pub config : IsConfig (codes "config") rows r.config
  pub log : IsNumber (codes "log") rows 1 65535 r.log
  pub known : IsLogOf r.log r.config
  pub register : Is (codes "register") rows r.register
  pub reach : IsReach rows r.config.nodes r.reach

-- the configuration is in its bounds, the log is one of its logs, and each of its nodes can be found
pub record IsReachInBounds (r : ReachWords) : Type 0 where
  pub config : IsInBounds r.config
  pub log : has_log r.config r.log ≡ true
  pub nodes : HasEach r.config.nodes r.reach

-- after how many rounds a command gives up, and how long it waits for a node
pub record IsPace (rows : List Row) (many most : ℕ) : Type 0 where
  pub rounds : IsRounds rows many
  pub limit : IsNumberOr (codes "limit") rows 100 60000 10000 most

-- the numbers that are read, and how
pub record IsReadWords (rows : List Row) (r : ReadWords) : Type 0 where
  pub range : IsRange rows r.from r.until
  pub style : style_of (is_true (first_of (codes "one-copy") rows)) (is_true (first_of (codes "messages") rows)) ≡ Some r.style
  pub pause : IsPause rows r.pause
  pub shown : shown_of (is_true (first_of (codes "text") rows)) (is_true (first_of (codes "json") rows)) ≡ Some r.shown

-- the register that is asked, and the first epoch that is told
pub record IsRegisterFrom (rows : List Row) (kept : Text) (first : ℕ) : Type 0 where
  pub register : Is (codes "register") rows kept
  pub from : IsNumberOr (codes "from") rows 1 (2 ^ 32 - 1) 1 first

-- how long a command waits for a node, and how many epochs it tells
pub record IsDepth (rows : List Row) (most many : ℕ) : Type 0 where
  pub limit : IsNumberOr (codes "limit") rows 100 60000 10000 most
  pub epochs : IsNumberOr (codes "epochs") rows 1 1000000 16 many

-- a node of the configuration, where the others are, and how long it asks them
pub record IsAskWords (rows : List Row) (m : AskWords) : Type 0 where
  pub node : IsNodeOf rows m.id m.config
  pub reach : IsReach rows m.config.nodes m.reach
  pub rounds : IsNumber (codes "rounds") rows 1 1000000 m.rounds
  pub limit : IsNumberOr (codes "limit") rows 100 60000 10000 m.limit

-- the configuration is in its bounds, the node is one of its nodes, and each of them can be found; there is a round to take
pub record IsAskInBounds (m : AskWords) : Type 0 where
  pub config : IsInBounds m.config
  pub node : has_node m.id m.config.nodes ≡ true
  pub nodes : HasEach m.config.nodes m.reach
  pub some : 1 ≤ m.rounds
