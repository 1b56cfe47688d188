-- What a sequencer holds of its own epoch, seen as a sequencer that recovers no other epoch.
use Rattle.std.specs.Prelude.{ℕ, ◌≡◌, List, [], ◌∷◌, Option, Some, None, false, nat_lt, if◌then◌else◌}
use Rattle.ld_ids.specs.declared.set.Spec.{Spec}
use Rattle.ld_ids.specs.Choice.{nodes_of}
use Rattle.ld_msg.specs.declared.msg.Who.{Who}
use Rattle.ld_msg.specs.declared.msg.Who.TheVariants as whos
use Rattle.ld_msg.specs.declared.msg.Msg.{Msg}
use Rattle.ld_msg.specs.declared.msg.Body.{Body}
use Rattle.ld_msg.specs.declared.msg.Body.TheVariants.{Release}
use Rattle.ld_msg.specs.Network.{posted}
use Rattle.ld_msg.specs.Sequencer.{Sequencer, Acts, Appending, TooLong, Preempted, EpochFull, WindowFull, Numbered, released_of, to_each, does_nothing, on_reply, append_stores}
use Rattle.ld_sequencer.specs.Appends.{Row, empty_row, raises}
use Rattle.ld_sequencer.specs.Looks.{shows}
use Rattle.ld_sequencer.specs.declared.origin.Origin.{Origin}
use Rattle.ld_sequencer.specs.declared.own.Learnt.{Learnt}
use Rattle.ld_sequencer.specs.declared.fault.SequencerFault.{SequencerFault}
use Rattle.ld_sequencer.specs.declared.fault.SequencerFault.TheVariants as faults

-- what doesn't change of its log, its appends, up to which epoch all are closed, the nodes that are lost for its epoch, and who preempted it
pub record Own : Type 0 where
  pub origin : Origin
  pub row : Row
  pub lce : ℕ
  pub lost : List ℕ
  pub preempted : Option ℕ

abbrev pub spec_of : Own → Spec
spec_of o = o.row.spec

abbrev pub sequencer_of : Own → Sequencer
sequencer_of o = record {
  log = o.row.spec.log;
  epoch = o.row.epoch;
  spec = o.row.spec;
  lce = o.lce;
  lng = o.row.lng;
  appends = o.row.appends;
  lost = o.lost;
  recovery = None;
  preempted = o.preempted;
  gone = false;
}

-- one that has become what the sequencer is, and is of the same log
pub record IsNow (before after : Own) (q : Sequencer) : Type 0 where
  pub origin : after.origin ≡ before.origin
  pub spec : spec_of after ≡ spec_of before
  pub sequencer : sequencer_of after ≡ q

-- its log, its epoch and its last closed epoch are the same
pub record IsKept (before after : Own) : Type 0 where
  pub origin : after.origin ≡ before.origin
  pub spec : after.row.spec ≡ before.row.spec
  pub epoch : after.row.epoch ≡ before.row.epoch
  pub lce : after.lce ≡ before.lce

abbrev pub new_own : Origin → Spec → ℕ → ℕ → Own
new_own origin spec epoch lce = record { origin = origin; row = empty_row spec epoch; lce = lce; lost = []; preempted = None }

-- its messages to nodes
abbrev pub sent_by : Own → List (ℕ × Body) → List Msg
sent_by o bs = posted (whos.Sequencer o.row.epoch) o.row.spec.log bs

-- why an append is refused, with a payload of so many bytes; when out of memory only where nothing else stands against it
abbrev pub append_fault : ℕ → Appending → SequencerFault
append_fault n TooLong = faults.PayloadTooLong n
append_fault n (Preempted k) = faults.Preempted k
append_fault n EpochFull = faults.EpochFull
append_fault n WindowFull = faults.WindowFull
append_fault n Numbered = faults.NoMemory

-- why a trim up to a number is refused, by the released number
abbrev pub trim_fault : ℕ → ℕ → SequencerFault
trim_fault released point = if nat_lt released point then faults.PastReleased released else faults.NoMemory

-- what a node's answer does: with no recovery, it begins none
abbrev pub answered : Own → ℕ → Body → Acts
answered o y b = on_reply (shows (spec_of o)) (sequencer_of o) y b

-- what a message of somebody does: one that is no node's does nothing
abbrev pub heard : Own → Who → Body → Acts
heard o (whos.Node y) b = answered o y b
heard o _ b = does_nothing (sequencer_of o)

-- the messages that tell the released number, where it rose above this one
abbrev pub released_above : ℕ → Own → List (ℕ × Body)
released_above before o = if nat_lt before (released_of (sequencer_of o)) then to_each (Release (released_of (sequencer_of o))) (nodes_of (spec_of o)) else []

abbrev pub with_lce : Own → ℕ → Own
with_lce o lce = record o { lce = lce }

abbrev pub preempted_as : Own → ℕ → Own
preempted_as o k = record o { preempted = Some k }

-- each append that isn't acknowledged is in its next wave
abbrev pub raised_own : Own → Own
raised_own o = record o { row = raises o.row }

-- the stores of the appends that aren't acknowledged
abbrev pub pending : Own → List (ℕ × Body)
pending o = append_stores o.row.spec o.lost o.row.lng o.row.appends

abbrev pub listed : {X : Type 0} → Option X → List X
listed None = []
listed (Some x) = x ∷ []

-- a call has done this to its own epoch and reports it
pub record Does (before after : Own) (report : Learnt) (a : Acts) : Type 0 where
  pub now : IsNow before after a.sequencer
  pub acked : listed report.acked ≡ a.acked
  pub preempted : listed report.preempted ≡ a.preempts
