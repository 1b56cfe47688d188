-- The next event of the input.
use Rattle.std.specs.Prelude.{ℕ, List, Option, IfSome}
use Rattle.std.specs.Io.KnownBytes.{Consumes, IsAtEnd}
use Rattle.ld_config.specs.declared.config.Config.{Config}
use Rattle.ld_cli.specs.Lines.{ended}
use Rattle.ld_cli.specs.Schedule.{Configures, IsSpelt, event_line, IsOffFirst, IsOffLater}
use Rattle.ld_cli.specs.declared.events.First.{First}
use Rattle.ld_cli.specs.declared.events.First.TheVariants as firsts
use Rattle.ld_cli.specs.declared.events.Next.{Next}
use Rattle.ld_cli.specs.declared.events.Next.TheVariants.{Taken, End, Off}

-- a configuration's line was taken
pub record TakesConfig (old new : Option (List ℕ)) (config : Config) : Type 0 where
  pub line : List ℕ
  pub configures : Configures line config
  pub taken : Consumes old new (ended line)

-- what was left, what is left, and what the first line is
abbrev pub TakesFirst : Option (List ℕ) → Option (List ℕ) → First → Type 0
TakesFirst old new (firsts.Taken config) = TakesConfig old new config
TakesFirst old new (firsts.Off place) = IfSome old (λ bytes. IsOffFirst bytes place)

-- what was left, what is left, and what came
abbrev pub TakesNext : Option (List ℕ) → Option (List ℕ) → Next → Type 0
TakesNext old new (Taken event) = IsSpelt event × Consumes old new (event_line event)
TakesNext old new End = IsAtEnd old × IsAtEnd new
TakesNext old new (Off place) = IfSome old (λ bytes. IsOffLater bytes place)

-- where an event came
abbrev pub OnTaken : Type 0 → Next → Type 0
OnTaken P (Taken event) = P
OnTaken P _ = Unit {0}

-- where a configuration came
abbrev pub OnFirst : Type 0 → First → Type 0
OnFirst P (firsts.Taken config) = P
OnFirst P (firsts.Off place) = Unit {0}

-- where a configuration came, it is one of these
abbrev pub AllowsFirst : (Config → Type 0) → First → Type 0
AllowsFirst P (firsts.Taken config) = P config
AllowsFirst P (firsts.Off place) = Unit {0}
