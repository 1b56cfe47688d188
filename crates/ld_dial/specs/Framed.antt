-- Messages to nodes, and their answers, as frames over a link.
use Rattle.std.specs.Prelude.{◌≡◌, ℕ, List, Option, Some}
use Rattle.std.specs.declared.result.Result.{Result}
use Rattle.std.specs.declared.result.Result.TheVariants.{Ok, Err}
use Rattle.ld_msg.specs.declared.msg.Msg.{Msg}
use Rattle.ld_link.specs.Peers.{Peers}
use Rattle.ld_wire.specs.Frames.{frame_of}
use Rattle.ld_wire.specs.Held.{Held}
use Rattle.ld_wire.specs.Judging.{Refused, judge}
use Rattle.ld_framed.specs.Hearing.{HearsNext, HearsSome, Says, SaysPart}
use Rattle.ld_dial.specs.declared.fault.Fault.{Fault}
use Rattle.ld_dial.specs.declared.fault.Fault.TheVariants as faults

-- the link, what is held of the present node's bytes, and how often a node has ended
pub record Line (L : Type 0) : Type 0 where
  pub link : L
  pub held : Held
  pub endings : ℕ

-- the frame of the message was written to the present peer, or a part from its front, where the link failed; without memory nothing was
abbrev pub SaysFrame : Peers → Option Peers → Msg → Result (Unit {0}) Fault → Type 0
SaysFrame old new m (Ok _) = Says old new (frame_of m)
SaysFrame old new m (Err faults.Link) = SaysPart old new (frame_of m)
SaysFrame old new m (Err faults.NoMemory) = new ≡ Some old
SaysFrame old new m (Err (faults.BadFrame fault)) = ⊥

-- no frame could be taken of the bytes that are held
abbrev pub IsUnheard : List ℕ → Fault → Type 0
IsUnheard held faults.NoMemory = Unit {0}
IsUnheard held faults.Link = Unit {0}
IsUnheard held (faults.BadFrame fault) = judge held ≡ Refused fault

-- the next frame of the present peer was taken, or its end came, or some bytes were read of which none could be taken
abbrev pub HearsAnswer : Peers → Option Peers → List ℕ → Held → Result (Option Msg) Fault → Type 0
HearsAnswer old new before now (Ok next) = HearsNext old new before now next
HearsAnswer old new before now (Err fault) = HearsSome old new before (λ held. IsUnheard held fault)
