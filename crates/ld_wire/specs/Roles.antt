-- Who may send and who may get the messages of a kind.
use Rattle.std.specs.Prelude.{ℕ, Bool, ◌&&◌, ◌||◌, not, ◌==◌, nat_le, if◌then◌else◌}
use Rattle.ld_msg.specs.declared.msg.Who.{Who}
use Rattle.ld_msg.specs.Bounds.{IsNodeHere, IsSequencerHere, IsReader, IsAsker, IsActor}
use Rattle.ld_wire.specs.declared.role.Role.{Role}
use Rattle.ld_wire.specs.declared.role.Role.TheVariants as roles

-- the tag of a node is 0, that of a sequencer 1, that of a reader 2
abbrev pub may_be : Role → ℕ → Bool
may_be roles.Node tag = tag == 0
may_be roles.Sequencer tag = tag == 1
may_be roles.Reader tag = tag == 2
may_be roles.Asker tag = (tag == 0) || (tag == 2)
may_be roles.Anyone tag = nat_le tag 2

abbrev pub IsIn : Role → Who → Type 0
IsIn roles.Node who = IsNodeHere who
IsIn roles.Sequencer who = IsSequencerHere who
IsIn roles.Reader who = IsAsker who × IsReader who
IsIn roles.Asker who = IsAsker who
IsIn roles.Anyone who = IsActor who

-- what a sequencer sends: Store, DigestAsk, Release, Trim, Clean
abbrev pub by_sequencer : ℕ → Bool
by_sequencer kind = (kind == 1) || (kind == 7) || (kind == 10) || (kind == 11) || (kind == 18)

unfoldable pub sender : ℕ → Role
sender kind =
    if by_sequencer kind then roles.Sequencer
    else if kind == 12 then roles.Asker
    else if kind == 20 then roles.Reader
    else roles.Node

unfoldable pub receiver : ℕ → Role
receiver kind =
    if kind == 4 then roles.Anyone
    else if by_sequencer kind || (kind == 12) || (kind == 20) then roles.Node
    else if nat_le 13 kind && not (kind == 17) then roles.Asker
    else roles.Sequencer
