-- Commands over a stopped node's store, trims and copies are no others.
use Rattle.std.proofs.Common.{◌≡◌, ℕ, refl}
use Rattle.ld_words.specs.declared.command.AppendWords.{AppendWords}
use Rattle.ld_words.specs.declared.command.NodeWords.{NodeWords}
use Rattle.ld_words.specs.declared.command.TailWords.{TailWords}
use Rattle.ld_words.specs.declared.command.CrowdWords.{CrowdWords}
use Rattle.ld_words.specs.declared.command.RegisterWords.{RegisterWords}
use Rattle.ld_words.specs.declared.command.StatusWords.{StatusWords}
use Rattle.ld_words.specs.declared.command.Command.{Command}
use Rattle.ld_words.specs.declared.command.Command.TheVariants.{Replay, Exercise, Node, Crowd, Append, Tail, Register, Status, Mend, Replace, Show, Trim, Copy}
use Rattle.ld_words.specs.Meaning.{HasNoPlaces}
use Rattle.ld_cli.specs.Clients.{Drives, Shows, Gathers, Operates}

pub operates_so : (command : Command) → (command ≡ Replay → ⊥) → ((seed events : ℕ) → command ≡ Exercise seed events → ⊥) → ((n : NodeWords) → command ≡ Node n → ⊥) → ((w : CrowdWords) → command ≡ Crowd w → ⊥)
    → ((w : AppendWords) → command ≡ Append w → ⊥) → ((t : TailWords) → command ≡ Tail t → ⊥) → ((r : RegisterWords) → command ≡ Register r → ⊥) → ((s : StatusWords) → command ≡ Status s → ⊥) → Operates command
operates_so Replay replay exercise node crowd append tail register status = replay refl
operates_so (Exercise seed events) replay exercise node crowd append tail register status = exercise seed events refl
operates_so (Node n) replay exercise node crowd append tail register status = node n refl
operates_so (Crowd w) replay exercise node crowd append tail register status = crowd w refl
operates_so (Append w) replay exercise node crowd append tail register status = append w refl
operates_so (Tail t) replay exercise node crowd append tail register status = tail t refl
operates_so (Register r) replay exercise node crowd append tail register status = register r refl
operates_so (Status s) replay exercise node crowd append tail register status = status s refl
operates_so _ replay exercise node crowd append tail register status = tt

pub operates_drives : (command : Command) → Operates command → Drives command → ⊥
operates_drives (Append w) operates drives = operates
operates_drives (Tail t) operates drives = operates
operates_drives _ operates drives = drives

pub operates_shows : (command : Command) → Operates command → Shows command → ⊥
operates_shows (Register r) operates shows = operates
operates_shows (Status s) operates shows = operates
operates_shows _ operates shows = shows

pub operates_places : (command : Command) → Operates command → HasNoPlaces command → ⊥
operates_places Replay operates none = operates
operates_places (Exercise seed events) operates none = operates
operates_places (Node n) operates none = none
operates_places (Crowd w) operates none = none
operates_places (Append w) operates none = none
operates_places (Tail t) operates none = none
operates_places (Register r) operates none = none
operates_places (Status s) operates none = none
operates_places _ operates none = none
