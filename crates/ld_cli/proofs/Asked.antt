-- What was read of the words is what they ask for.
use Rattle.std.proofs.Common.{◌≡◌, List, Option, None, Some, ap, subst}
use Rattle.std.specs.Prelude.{MatchOption}
use Rattle.clap.specs.Walk.{Text}
use Rattle.ld_words.specs.declared.command.AppendWords.{AppendWords}
use Rattle.ld_words.specs.declared.command.NodeWords.{NodeWords}
use Rattle.ld_words.specs.declared.command.TailWords.{TailWords}
use Rattle.ld_words.specs.declared.command.CrowdWords.{CrowdWords}
use Rattle.ld_words.specs.declared.command.RegisterWords.{RegisterWords}
use Rattle.ld_words.specs.declared.command.StatusWords.{StatusWords}
use Rattle.ld_words.specs.declared.command.TrimWords.{TrimWords}
use Rattle.ld_words.specs.declared.command.Command.{Command}
use Rattle.ld_words.specs.declared.command.Command.TheVariants.{Node, Crowd, Append, Tail, Register, Status, Trim}
use Rattle.ld_words.specs.Meaning.{Asks, IsNoCommand}
use Rattle.ld_words.proofs.OneCommand.{one_command}

pub asked_one : (words : List Text) (read : Option Command) (command other : Command) → read ≡ Some command
    → MatchOption read (IsNoCommand words) (Asks words) → Asks words other → command ≡ other
asked_one words read command other is asks also =
    one_command words command other (subst (λ o. MatchOption o (IsNoCommand words) (Asks words)) is asks) also

pub asked_none : (words : List Text) (read : Option Command) (other : Command) → read ≡ None → MatchOption read (IsNoCommand words) (Asks words) → Asks words other → ⊥
asked_none words read other is none also = subst (λ o. MatchOption o (IsNoCommand words) (Asks words)) is none other also

abbrev node_or : NodeWords → Command → NodeWords
node_or other (Node n) = n
node_or other _ = other

pub one_node : (m n : NodeWords) → Node m ≡ Node n → m ≡ n
one_node m n same = ap (node_or m) same

abbrev append_or : AppendWords → Command → AppendWords
append_or other (Append w) = w
append_or other _ = other

pub one_append : (v w : AppendWords) → Append v ≡ Append w → v ≡ w
one_append v w same = ap (append_or v) same

abbrev tail_or : TailWords → Command → TailWords
tail_or other (Tail t) = t
tail_or other _ = other

pub one_tail : (t u : TailWords) → Tail t ≡ Tail u → t ≡ u
one_tail t u same = ap (tail_or t) same

abbrev crowd_or : CrowdWords → Command → CrowdWords
crowd_or other (Crowd w) = w
crowd_or other _ = other

pub one_crowd : (v w : CrowdWords) → Crowd v ≡ Crowd w → v ≡ w
one_crowd v w same = ap (crowd_or v) same

abbrev register_or : RegisterWords → Command → RegisterWords
register_or other (Register r) = r
register_or other _ = other

pub one_register : (q r : RegisterWords) → Register q ≡ Register r → q ≡ r
one_register q r same = ap (register_or q) same

abbrev status_or : StatusWords → Command → StatusWords
status_or other (Status s) = s
status_or other _ = other

pub one_status : (s t : StatusWords) → Status s ≡ Status t → s ≡ t
one_status s t same = ap (status_or s) same

abbrev trim_or : TrimWords → Command → TrimWords
trim_or other (Trim t) = t
trim_or other _ = other

pub one_trim : (t u : TrimWords) → Trim t ≡ Trim u → t ≡ u
one_trim t u same = ap (trim_or t) same
