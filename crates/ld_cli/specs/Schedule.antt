-- A schedule as bytes: a line for the configuration, and a line for each event; and what a line is that is off.
use Rattle.std.specs.Prelude.{ℕ, ◌≡◌, ◌≤◌, ◌⊎◌, List, [], ◌∷◌, ◌++◌, length, flat_map, Ok}
use Rattle.std.specs.Str.{IsUtf8}
use Rattle.serde_json.specs.Read.{read}
use Rattle.ld_lsn.specs.Text.{Lacks}
use Rattle.ld_schedule.specs.declared.event.Event.{Event}
use Rattle.ld_schedule.specs.Grammar.{IsNamed, event_text}
use Rattle.ld_schedule.specs.Reading.{IsOff}
use Rattle.ld_config.specs.declared.config.Config.{Config}
use Rattle.ld_config.specs.Config.{config_of_text}
pub use Rattle.ld_rounds.specs.Lines.{IsLong, IsCutLine, Begins}
use Rattle.ld_cli.specs.Lines.{longest, ended}

-- the text is this configuration
abbrev pub Says : List ℕ → Config → Type 0
Says line config = IsUtf8 line × (config_of_text (read line) ≡ Ok config)

-- the line is one of a configuration
pub record Configures (line : List ℕ) (config : Config) : Type 0 where
  pub short : length line ≤ longest
  pub one : Lacks 10 line
  pub says : Says line config

-- the line of an event, with the byte that ends it
abbrev pub event_line : Event → List ℕ
event_line event = ended (event_text event)

-- the event can be named, by a line that is short enough
abbrev pub IsSpelt : Event → Type 0
IsSpelt event = IsNamed event × (length (event_text event) ≤ longest)

unfoldable pub AreSpelt : List Event → Type 0
AreSpelt [] = Unit {0}
AreSpelt (e ∷ es) = IsSpelt e × AreSpelt es

-- the configuration's line, and those of the events
unfoldable pub schedule_text : List ℕ → List Event → List ℕ
schedule_text line events = ended line ++ flat_map event_line events

-- ---- lines that are off ----

-- a whole line that spells no event
pub record IsNoEvent (bytes : List ℕ) (place : ℕ) : Type 0 where
  pub line : List ℕ
  pub rest : List ℕ
  pub begins : Begins bytes line rest
  pub off : IsOff IsNamed event_text line place

-- a whole line that says no configuration
pub record IsNoConfiguration (bytes : List ℕ) (place : ℕ) : Type 0 where
  pub line : List ℕ
  pub rest : List ℕ
  pub begins : Begins bytes line rest
  pub off : (config : Config) → Says line config → ⊥
  pub at : place ≡ 0

-- how the first line has a syntax error, and at which offset
abbrev pub IsOffFirst : List ℕ → ℕ → Type 0
IsOffFirst bytes place = IsLong bytes place ⊎ IsCutLine bytes place ⊎ IsNoConfiguration bytes place

-- how a later line is off, and at which offset
pub record IsOffLater (bytes : List ℕ) (place : ℕ) : Type 0 where
  pub some : 1 ≤ length bytes
  pub off : IsLong bytes place ⊎ IsCutLine bytes place ⊎ IsNoEvent bytes place
