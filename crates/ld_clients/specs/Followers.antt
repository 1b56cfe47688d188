-- Readers by name, each with the first nodes, factor and extras of its log.
use Rattle.std.specs.Prelude.{ℕ, ◌≡◌, ◌==◌, List, [], ◌∷◌, length, Option, Some, None, if◌then◌else◌}
use Rattle.ld_table.specs.Words.{numbers_from}
use Rattle.ld_config.specs.declared.config.Config.{Config}
use Rattle.ld_msg.specs.Reader.{Reader}
use Rattle.ld_reader.specs.Following.{Following}
use Rattle.ld_machine.specs.Config.{first_spec}
use Rattle.ld_clients.specs.Names.{each_as, AllNamed}

-- the readers alone
abbrev pub readers_of : List (List ℕ × Following) → List (List ℕ × Reader)
readers_of fs = each_as (λ f. f.reader) fs

-- the reader of a place in the order of opening, with its name
abbrev pub reader_in : ℕ → List (List ℕ × Following) → Option (List ℕ × Following)
reader_in number [] = None
reader_in number (f ∷ fs) = if f.1.reader.number == number then Some f else reader_in number fs

abbrev pub numbers_in : List (List ℕ × Following) → List ℕ
numbers_in [] = []
numbers_in (f ∷ fs) = f.1.reader.number ∷ numbers_in fs

-- each has its offset as its number
abbrev pub AreNumbered : List (List ℕ × Following) → Type 0
AreNumbered fs = numbers_in fs ≡ numbers_from 0 (length fs)

-- they are those of the configuration
abbrev pub Knows : Config → Following → Type 0
Knows c f = f.first ≡ first_spec c f.reader.log

abbrev pub KnowTheirLogs : Config → List (List ℕ × Following) → Type 0
KnowTheirLogs c fs = AllNamed (Knows c) fs
