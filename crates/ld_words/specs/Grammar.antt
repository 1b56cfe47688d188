-- The command line, as clap reads it.
use Rattle.std.specs.Prelude.{◌≡◌, List, [], ◌∷◌, codes, true, false, Option, None, Some}
use Rattle.clap.specs.Simple.{App, Shape, new_shape, new_rule, app_of, subcommand_of}
use Rattle.clap.specs.Walk.{Rule, Row, Text}
use Rattle.clap.specs.Kinds.{Kinds}
use Rattle.clap.specs.Faults.{fault_of}
use Rattle.clap.specs.declared.builder.action.ArgAction.TheVariants.{SetTrue}
use Rattle.clap.specs.declared.builder.command.Command.{Command}
use Rattle.ld_words.specs.declared.grammar.Part.{Part}
use Rattle.ld_words.specs.declared.grammar.Part.TheVariants as parts
use Rattle.clap.specs.declared.builder.command.Command.TheViews.{out-Command as fields_of}

-- an option with a value, which has to be given
abbrev pub option_rule : Text → Rule
option_rule name = record (new_rule name) { long = Some name; required = true }

-- an option with a value, which may be left out
abbrev pub choice_rule : Text → Rule
choice_rule name = record (new_rule name) { long = Some name }

-- an option with no value, which may be left out
abbrev pub flag_rule : Text → Rule
flag_rule name = record (new_rule name) { long = Some name; action = Some SetTrue }

-- an argument of a command, by its name
abbrev pub part_rule : Part → Rule
part_rule (parts.Needed name) = option_rule name.now
part_rule (parts.Choice name) = choice_rule name.now
part_rule (parts.Flag name) = flag_rule name.now

abbrev pub exercise_shape : Shape
exercise_shape = record (new_shape (codes "exercise")) {
  rules = option_rule (codes "seed") ∷ option_rule (codes "events") ∷ [];
}

-- a command over a node's files
abbrev pub files_shape : Text → Shape
files_shape name = record (new_shape name) {
  rules = option_rule (codes "id") ∷ option_rule (codes "config") ∷ option_rule (codes "store") ∷ option_rule (codes "register") ∷ [];
}

abbrev pub node_shape : Shape
node_shape = record (new_shape (codes "node")) {
  rules = option_rule (codes "id") ∷ option_rule (codes "config") ∷ option_rule (codes "store") ∷ option_rule (codes "register")
      ∷ choice_rule (codes "port") ∷ choice_rule (codes "listen") ∷ choice_rule (codes "turns") ∷ choice_rule (codes "peers") ∷ choice_rule (codes "idle") ∷ flag_rule (codes "format") ∷ flag_rule (codes "quiet") ∷ [];
}

-- a command over a log
abbrev pub log_shape : Text → Shape
log_shape name = record (new_shape name) {
  rules = option_rule (codes "config") ∷ option_rule (codes "log") ∷ option_rule (codes "register")
      ∷ choice_rule (codes "port") ∷ choice_rule (codes "at") ∷ choice_rule (codes "limit") ∷ [];
}

abbrev pub append_shape : Shape
append_shape = record (new_shape (codes "append")) {
  rules = option_rule (codes "config") ∷ option_rule (codes "log") ∷ option_rule (codes "register")
      ∷ choice_rule (codes "port") ∷ choice_rule (codes "at") ∷ choice_rule (codes "limit") ∷ option_rule (codes "rounds") ∷ choice_rule (codes "in-flight") ∷ flag_rule (codes "batches") ∷ flag_rule (codes "move") ∷ flag_rule (codes "text") ∷ [];
}

abbrev pub tail_shape : Shape
tail_shape = record (new_shape (codes "tail")) {
  rules = option_rule (codes "config") ∷ option_rule (codes "log") ∷ option_rule (codes "register")
      ∷ choice_rule (codes "port") ∷ choice_rule (codes "at") ∷ choice_rule (codes "limit") ∷ choice_rule (codes "rounds") ∷ option_rule (codes "from") ∷ choice_rule (codes "until")
      ∷ choice_rule (codes "pause") ∷ flag_rule (codes "follow") ∷ flag_rule (codes "one-copy") ∷ flag_rule (codes "messages") ∷ flag_rule (codes "text") ∷ flag_rule (codes "json") ∷ [];
}

-- the command that tells what the register says of a log, or that copies it
abbrev pub register_shape : Shape
register_shape = record (new_shape (codes "register")) {
  rules = option_rule (codes "register") ∷ choice_rule (codes "config") ∷ choice_rule (codes "log") ∷ choice_rule (codes "from") ∷ flag_rule (codes "json") ∷ choice_rule (codes "copy") ∷ [];
}

-- the command that tells what the register and each node say of a log
abbrev pub status_shape : Shape
status_shape = record (new_shape (codes "status")) {
  rules = option_rule (codes "config") ∷ option_rule (codes "log") ∷ option_rule (codes "register")
      ∷ choice_rule (codes "port") ∷ choice_rule (codes "at") ∷ choice_rule (codes "limit") ∷ choice_rule (codes "epochs") ∷ flag_rule (codes "json") ∷ [];
}

-- the command by which a stopped node learns what it missed
abbrev pub mend_shape : Shape
mend_shape = record (new_shape (codes "mend")) {
  rules = option_rule (codes "id") ∷ option_rule (codes "config") ∷ option_rule (codes "store") ∷ option_rule (codes "register")
      ∷ choice_rule (codes "port") ∷ choice_rule (codes "at") ∷ option_rule (codes "rounds") ∷ choice_rule (codes "limit") ∷ [];
}

-- the command by which a stopped node takes another one's place
abbrev pub replace_shape : Shape
replace_shape = record (new_shape (codes "replace")) {
  rules = option_rule (codes "id") ∷ option_rule (codes "config") ∷ option_rule (codes "store") ∷ option_rule (codes "register")
      ∷ option_rule (codes "of") ∷ option_rule (codes "log") ∷ [];
}

-- the command that shows the store of a stopped node
abbrev pub show_shape : Shape
show_shape = record (new_shape (codes "show")) {
  rules = option_rule (codes "id") ∷ option_rule (codes "config") ∷ option_rule (codes "store") ∷ flag_rule (codes "json") ∷ [];
}

-- the command that trims a log
abbrev pub trim_shape : Shape
trim_shape = record (new_shape (codes "trim")) {
  rules = option_rule (codes "config") ∷ option_rule (codes "log") ∷ option_rule (codes "register")
      ∷ choice_rule (codes "port") ∷ choice_rule (codes "at") ∷ choice_rule (codes "limit") ∷ option_rule (codes "rounds") ∷ option_rule (codes "upto") ∷ [];
}

-- clap's command has this shape, and nothing in it is for other commands
pub record IsCommand (shape : Shape) (command : Command) : Type 0 where
  pub app : app_of command ≡ record { top = shape; subs = [] }
  pub own : (fields_of command).has_globals ≡ false

-- the commands, with no help and no version
abbrev pub ld_app : App
ld_app = record {
  top = record (new_shape (codes "ld")) {
    is_leaf = false;
    no_binary_name = true;
    disable_help_flag = true;
    disable_help_subcommand = true;
    subcommand_required = true;
  };
  subs = new_shape (codes "replay") ∷ exercise_shape ∷ node_shape ∷ append_shape ∷ tail_shape ∷ register_shape ∷ status_shape
      ∷ mend_shape ∷ replace_shape ∷ show_shape ∷ trim_shape ∷ [];
}

abbrev pub if_fine : {X : Type 0} → Kinds → Option X → Option X
if_fine [] found = found
if_fine (kind ∷ kinds) found = None

-- the command that the arguments name, and the values of its arguments; None where clap finds a fault in the arguments
unfoldable pub found : List Text → Option (Text × List Row)
found words = if_fine (fault_of ld_app words) (subcommand_of ld_app words)
