-- A number that a reader calls lost as its nodes lost it: the step in which the reader asked the lost nodes once more, and the one that called it lost.
use Rattle.std.specs.Prelude.{ℕ, ◌≡◌, ◌<◌, List, Some, true}
use Rattle.ld_table.specs.Named.{find_named}
use Rattle.ld_transcript.specs.declared.line.Line.TheVariants as lines
use Rattle.ld_transcript.specs.declared.line.GapKind.TheVariants as gaps
use Rattle.ld_schedule.specs.declared.event.Event.TheVariants as events
use Rattle.ld_msg.specs.declared.msg.Msg.{Msg}
use Rattle.ld_msg.specs.declared.msg.Who.TheVariants as whos
use Rattle.ld_msg.specs.Network.{message}
use Rattle.ld_msg.specs.Reader.{Reader, Confirmation, heard, is_confirmed}
use Rattle.ld_config.specs.declared.config.Config.{Config}
use Rattle.ld_machine.specs.World.{World, In, begin}
use Rattle.ld_machine.specs.Step.{sender_node}
use Rattle.ld_machine.specs.Run.{Move, Takes, after_step, world_after, step_happened}

-- the reader confirms in this round that the number is lost
pub record IsConfirming (w : World) (name : List ℕ) (s round : ℕ) : Type 0 where
  pub reader : Reader
  pub there : find_named name w.state.readers ≡ Some reader
  pub next : reader.next ≡ s
  pub confirmation : Confirmation
  pub lasts : reader.confirming ≡ Some confirmation
  pub here : confirmation.round ≡ round

-- the reader's round isn't there yet
pub record IsBefore (w : World) (name : List ℕ) (round : ℕ) : Type 0 where
  pub reader : Reader
  pub there : find_named name w.state.readers ≡ Some reader
  pub lower : reader.round < round

-- a step delivers the answer with which each node that was asked once more has said again that it is lost
pub record Completes (w : World) (d : Reader) (gives : Move) : Type 0 where
  pub index : ℕ
  pub delivers : gives ≡ Takes (events.Deliver index)
  pub answer : Msg
  pub there : message w.state.network index ≡ Some answer
  pub for_reader : answer.to ≡ whos.Reader d.number
  pub complete : is_confirmed (heard d (sender_node answer.from) answer.body).confirming ≡ true

-- after some steps the reader sends the confirming asks for a number in a step, and after some more another step completes the confirmation and calls the number lost
pub record EndsAsLoss (c : Config) (name : List ℕ) (log s round : ℕ) (before : List Move) (asks : Move) (between : List Move) (gives : Move) : Type 0 where
  pub not_yet : IsBefore (world_after c (begin c) before) name round
  pub asked : IsConfirming (after_step c (world_after c (begin c) before) asks) name s round
  pub still : IsConfirming (world_after c (after_step c (world_after c (begin c) before) asks) between) name s round
  pub of_log : still.reader.log ≡ log
  pub completes : Completes (world_after c (after_step c (world_after c (begin c) before) asks) between) still.reader gives
  pub told : In (lines.Gap name gaps.DataLoss s s) (step_happened c (world_after c (after_step c (world_after c (begin c) before) asks) between).state gives).lines
