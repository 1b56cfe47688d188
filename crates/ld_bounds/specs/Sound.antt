-- What holds of every state that a run reaches: each message is one that a frame can carry.
use Rattle.std.specs.Prelude.{◌≡◌, ◌≤◌, ◌||◌, Bool, true, false, List, [], ◌∷◌, length}
use Rattle.std.specs.List.{AllByRecursion}
use Rattle.ld_table.specs.Named.{Distinct}
use Rattle.ld_table.specs.Table.{Ordered}
use Rattle.ld_ids.specs.Set.{IsSet}
use Rattle.ld_config.specs.declared.config.Config.{Config}
use Rattle.ld_schedule.specs.declared.event.Event.{Event}
use Rattle.ld_schedule.specs.declared.event.Event.TheVariants as events
use Rattle.ld_msg.specs.declared.msg.Who.{Who}
use Rattle.ld_msg.specs.declared.msg.Who.TheVariants as whos
use Rattle.ld_msg.specs.declared.msg.Msg.{Msg}
use Rattle.ld_msg.specs.Bounds.{Is64}
use Rattle.ld_machine.specs.State.{State, Done}
use Rattle.ld_machine.specs.Step.{reader_limit}
use Rattle.ld_node_bounds.specs.Messages.{AreMessages}
use Rattle.ld_bounds.specs.Specs.{IsSetFor}
use Rattle.ld_bounds.specs.Nodes.{IsNodeAt}
use Rattle.ld_bounds.specs.Registers.{IsRegister}
use Rattle.ld_bounds.specs.Sequencers.{IsNamedSequencer}
use Rattle.ld_bounds.specs.Readers.{IsNamedReader, AreInPlace}

-- what an event is within: the last number of a reader has 64 bits, a set has a flag for each node; all else is tested in the step
abbrev pub IsEvent : Event → Type 0
IsEvent (events.Open name l from until) = Is64 until
IsEvent (events.OpenOne name l from until) = Is64 until
IsEvent (events.OpenMessages name l from until) = Is64 until
IsEvent (events.Set l r x set) = IsSet set
IsEvent _ = Unit {0}

pub record IsSound (c : Config) (s : State) : Type 0 where
  pub messages : AreMessages s.network.sent
  pub nodes : AllByRecursion IsNodeAt s.nodes
  pub nodes_rise : Ordered s.nodes
  pub register : IsRegister c s.register
  pub sequencers : AllByRecursion (IsNamedSequencer c s.register) s.sequencers
  pub readers : AllByRecursion (IsNamedReader c) s.readers
  pub reader_names : Distinct s.readers
  pub reader_places : AreInPlace 0 s.readers
  pub few_readers : length s.readers ≤ reader_limit
  pub specs : AllByRecursion (IsSetFor c) s.specs

-- what an event did: a sound state, and messages that a frame can carry
pub record IsDoneSoundly (c : Config) (d : Done) : Type 0 where
  pub state : IsSound c d.state
  pub sends : AreMessages d.sends

-- ---- messages have a node at one end ----

abbrev pub is_node : Who → Bool
is_node (whos.Node n) = true
is_node _ = false

abbrev pub is_fair : Msg → Bool
is_fair m = is_node m.from || is_node m.to

abbrev pub AreFair : List Msg → Type 0
AreFair [] = Unit {0}
AreFair (m ∷ ms) = (is_fair m ≡ true) × AreFair ms
