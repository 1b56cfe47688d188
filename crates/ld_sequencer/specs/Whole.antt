-- A sequencer with the recovery of earlier epochs, and what becomes of it by its calls.
use Rattle.std.specs.Prelude.{ℕ, IfSome, ◌≡◌, ◌≢◌, ◌⊎◌, ◌≤◌, ◌<◌, ◌+◌, ◌-◌, ◌^◌, List, [], ◌∷◌, ◌++◌, Ok, Err, Option, Some, None, Bool, true, false, not, ◌&&◌, ◌==◌, is_some, nat_lt, if◌then◌else◌}
use Rattle.std.specs.declared.result.Result.{Result}
use Rattle.ld_ids.specs.declared.set.Spec.{Spec}
use Rattle.ld_lsn.specs.Number.{epoch_of, home_epoch}
use Rattle.ld_msg.specs.declared.msg.Summary.{Summary}
use Rattle.ld_msg.specs.declared.msg.Who.{Who}
use Rattle.ld_msg.specs.declared.msg.Who.TheVariants as whos
use Rattle.ld_msg.specs.declared.msg.Msg.{Msg}
use Rattle.ld_msg.specs.declared.msg.Body.{Body}
use Rattle.ld_msg.specs.declared.msg.Body.TheVariants as bodies
use Rattle.ld_msg.specs.Bounds.{IsEpoch, IsSummary}
use Rattle.ld_msg.specs.Digest.{no_digest}
use Rattle.ld_msg.specs.Network.{posted}
use Rattle.ld_msg.specs.Register.{Register, Answer, View, is_crowded, look}
use Rattle.ld_msg.specs.Sequencer.{Sequencer, Recovery, Stage, Seals, Stores, Closes, Attempt, Acts, Called, called, on_reply, on_retry, does_nothing, after_close, looks_now, retries_recovery, with_stores, raised, append_stores, acted_messages, rose, released_of, activated, recovery_asks, digest_asks}
use Rattle.ld_recovery.specs.Recovering.{Recovering, Goes, started, sender_of, digest_in, is_spent_stage, counts, told_by}
use Rattle.ld_sequencer.specs.Appends.{all_acked}
use Rattle.ld_sequencer.specs.Own.{Own, sequencer_of, listed}
use Rattle.ld_sequencer.specs.declared.origin.Origin.{Origin}
use Rattle.ld_sequencer.specs.declared.close.Due.{Due}
use Rattle.ld_sequencer.specs.declared.report.Report.{Report}
use Rattle.ld_sequencer.specs.declared.fault.SequencerFault.{SequencerFault}
use Rattle.ld_sequencer.specs.declared.fault.SequencerFault.TheVariants as faults
use Rattle.ld_register.specs.declared.fault.RegisterFault.{RegisterFault}
use Rattle.ld_register.specs.declared.fault.RegisterFault.TheVariants as registers
use Rattle.ld_register.specs.declared.register.Grant.{Grant}
use Rattle.ld_register.specs.Bounds.{IsSpecFor}
use Rattle.ld_register.specs.Calls.{after_activate}
use Rattle.ld_sequencer.specs.Register.{of_register, MayCome}

-- a log's sequencer, with what doesn't change of the log
pub record Whole : Type 0 where
  pub origin : Origin
  pub sequencer : Sequencer

abbrev pub as_now : Whole → Sequencer → Whole
as_now w q = record { origin = w.origin; sequencer = q }

-- its messages to nodes
abbrev pub sent_as : Whole → List (ℕ × Body) → List Msg
sent_as w bs = posted (whos.Sequencer w.sequencer.epoch) w.sequencer.log bs

-- each append is acknowledged, and all epochs before its own are closed
abbrev pub is_settled : Whole → Bool
is_settled w = all_acked w.sequencer.spec w.sequencer.appends && (w.sequencer.lce + 1 == w.sequencer.epoch)

-- ---- its two parts ----

abbrev pub recovery_in : Option Recovering → Option Recovery
recovery_in None = None
recovery_in (Some r) = Some r.recovery

abbrev pub with_recovery : Option Recovery → Sequencer → Sequencer
with_recovery v q = record q { recovery = v }

abbrev pub joined : Own → Option Recovering → Whole
joined o m = record { origin = o.origin; sequencer = with_recovery (recovery_in m) (sequencer_of o) }

-- the recovery of the first epoch that isn't closed, for the sequencer of a later one
pub record Serves (o : Own) (r : Recovering) : Type 0 where
  pub log : r.recovery.spec.log ≡ o.row.spec.log
  pub ballot : r.ballot ≡ o.row.epoch
  pub epoch : r.recovery.epoch ≡ o.lce + 1
  pub earlier : o.lce + 1 < o.row.epoch
  pub going : r.ending ≡ Goes

abbrev pub Serving : Own → Option Recovering → Type 0
Serving o None = Unit {0}
Serving o (Some r) = Serves o r

pub record AreOne (o : Own) (m : Option Recovering) : Type 0 where
  pub copies : 1 ≤ o.row.spec.r
  pub first : IsSpecFor o.row.spec.log o.origin.first
  pub epoch : IsEpoch o.row.epoch
  pub lce : o.lce ≤ 2 ^ 32 - 2
  pub serving : Serving o m

-- ---- the close that is due ----

abbrev pub closing_stage : ℕ → Stage → Option Due
closing_stage epoch (Seals d) = None
closing_stage epoch (Stores g) = None
closing_stage epoch (Closes y short) = Some (record { epoch = epoch; summary = y; short = short })

-- the close of the epoch, once its plan is stored
abbrev pub closing_in : Option Recovery → Option Due
closing_in None = None
closing_in (Some v) = closing_stage v.epoch v.stage

abbrev pub closing_of : Whole → Option Due
closing_of w = closing_in w.sequencer.recovery

abbrev pub attempt : Due → Attempt
attempt d = record { epoch = d.epoch; summary = d.summary; short = d.short }

-- the close that is tried, where one is due
abbrev pub attempts : Option Due → List Attempt
attempts None = []
attempts (Some d) = attempt d ∷ []

-- whether a message speaks of an earlier epoch, and not of the sequencer's own
abbrev pub is_of_earlier : ℕ → Body → Bool
is_of_earlier epoch (bodies.Stored n) = not (epoch_of n == epoch)
is_of_earlier epoch (bodies.LostHere n round generation end) = not (home_epoch n == epoch)
is_of_earlier epoch (bodies.CleanHere n y) = not (home_epoch n == epoch)
is_of_earlier epoch (bodies.TrimmedHere n t) = true
is_of_earlier epoch (bodies.DigestPage from upto trim lng es) = true
is_of_earlier epoch _ = false

-- the epoch behind the recovered one, where that is the number's and another one is before the sequencer's own
abbrev pub epoch_behind : ℕ → ℕ → Option Recovery → Option ℕ
epoch_behind epoch n None = None
epoch_behind epoch n (Some v) = if (v.epoch == home_epoch n) && nat_lt (v.epoch + 1) epoch then Some (v.epoch + 1) else None

-- the epoch whose recovery begins with word that the recovered one is closed
abbrev pub epoch_begun : Whole → Body → Option ℕ
epoch_begun w (bodies.CleanHere n y) = if is_some w.sequencer.preempted then None else epoch_behind w.sequencer.epoch n w.sequencer.recovery
epoch_begun w _ = None

-- whether a message is for the recovery
abbrev pub is_for_recovery : Whole → Body → Bool
is_for_recovery w b = not (is_some w.sequencer.preempted) && (is_some w.sequencer.recovery && is_of_earlier w.sequencer.epoch b)

-- nothing but the close that is due is tried, where one is
abbrev pub due_acts : Whole → Acts
due_acts w = record (does_nothing w.sequencer) { tries = attempts (closing_of w) }

-- ---- the look that is due ----

-- the digest of the recovered epoch is spent
abbrev pub is_spent_recovery : Option Recovery → Bool
is_spent_recovery None = false
is_spent_recovery (Some v) = is_spent_stage v.spec v.stage

abbrev pub is_spent_now : Whole → Bool
is_spent_now w = is_spent_recovery w.sequencer.recovery

abbrev pub spends_in : ℕ → Body → Option Recovery → Bool
spends_in y b None = false
spends_in y b (Some v) = counts v y b && is_spent_stage v.spec (told_by v y b).stage

-- a message leaves the recovery with a spent digest, by what it tells
abbrev pub spends_by : Whole → Who → Body → Bool
spends_by w who b = is_for_recovery w b && spends_in (sender_of who) b w.sequencer.recovery

abbrev pub told_in : ℕ → Body → Option Recovery → Option Recovery
told_in y b None = None
told_in y b (Some v) = Some (told_by v y b)

-- what it tells is in the recovery
abbrev pub counted : Whole → Who → Body → Whole
counted w who b = as_now w (with_recovery (told_in (sender_of who) b w.sequencer.recovery) w.sequencer)

-- what a look at the recovered epoch does
abbrev pub looked_in : (ℕ → View) → Acts → Option Recovery → Acts
looked_in looks a None = a
looked_in looks a (Some v) = looks_now looks a v (digest_in v.stage)

abbrev pub looked_acts : (ℕ → View) → Whole → Acts
looked_acts looks w = looked_in looks (does_nothing w.sequencer) w.sequencer.recovery

-- ---- what a call does ----

-- what a look at an epoch shows where the register has these contents
abbrev pub looks_of : Whole → Register → ℕ → View
looks_of w c e = look w.origin.first c w.sequencer.log e

-- a message that is no node's does nothing
abbrev pub reply_acts : (ℕ → View) → Whole → Who → Body → Acts
reply_acts looks w who b = on_reply looks w.sequencer (sender_of who) b

abbrev pub retry_acts : (ℕ → View) → Whole → Acts
retry_acts looks w = on_retry looks w.sequencer

-- a retry of the recovery alone
abbrev pub recovery_acts : (ℕ → View) → Whole → Acts
recovery_acts looks w = retries_recovery looks (does_nothing w.sequencer) w.sequencer.recovery

-- each append that isn't acknowledged is in its next wave
abbrev pub raised_whole : Whole → Whole
raised_whole w = as_now w (record w.sequencer { appends = raised w.sequencer.spec w.sequencer.appends })

-- the stores of the own epoch that aren't acknowledged
abbrev pub pending_stores : Whole → List (ℕ × Body)
pending_stores w = append_stores w.sequencer.spec w.sequencer.lost w.sequencer.lng w.sequencer.appends

-- what the register's answer to the close of an epoch does
abbrev pub closed_acts : (ℕ → View) → Whole → ℕ → Summary → Answer → Acts
closed_acts looks w epoch y d = after_close looks (does_nothing w.sequencer) epoch y d

abbrev pub tried_with : (ℕ → View) → Acts → Answer → List Attempt → Acts
tried_with looks a d [] = a
tried_with looks a d (t ∷ ts) = after_close looks a t.epoch t.summary d

-- the call with a register's answer to the close that it tries, where it tries one
abbrev pub tried : (ℕ → View) → Acts → Answer → Acts
tried looks a d = tried_with looks a d a.tries

-- the call by a register with these contents
abbrev pub called_by : Whole → Register → Acts → Called
called_by w c a = called (looks_of w c) c a a.tries

abbrev pub risen : Sequencer → Sequencer → List ℕ
risen old new = if rose old new then released_of new ∷ [] else []

-- a call has done this, sent its messages and reports it
pub record Acted (before after : Whole) (report : Report) (old new : List Msg) (a : Acts) : Type 0 where
  pub now : after ≡ as_now before a.sequencer
  pub sent : new ≡ old ++ sent_as before (acted_messages before.sequencer a)
  pub acked : listed report.acked ≡ a.acked
  pub closed : listed report.closed ≡ a.closed
  pub preempted : listed report.preempted ≡ a.preempts
  pub failed : is_some report.register ≡ a.failed
  pub released : listed report.released ≡ risen before.sequencer a.sequencer

-- looks show what is fixed for epochs of the log, and of the recovered epoch a summary of it, where it is closed
pub record AreShown (w : Whole) (looks : ℕ → View) : Type 0 where
  pub specs : (e : ℕ) → IsSpecFor w.sequencer.log (looks e).spec
  pub summary : (v : Recovery) → w.sequencer.recovery ≡ Some v → IfSome (looks v.epoch).summary (IsSummary v.epoch)

-- a call has done what it does by some looks, and by an answer to the close that it tries, where it tries one
abbrev pub ActedBy : Whole → Whole → Report → List Msg → List Msg → ((ℕ → View) → Acts) → Type 0
ActedBy before after report old new by_looks = (looks : ℕ → View) × AreShown before looks × (d : Answer) × Acted before after report old new (tried looks (by_looks looks) d)

-- a close is tried exactly where it was not due before and is now, and then nothing else is done
pub record IsFresh (w : Whole) (a : Acts) : Type 0 where
  pub due : a.tries ≡ (if is_some (closing_of w) then [] else attempts (closing_in a.sequencer.recovery))
  pub alone : (a.tries ≡ []) ⊎ ((v : Option Recovery) × (a ≡ record (does_nothing (with_recovery v w.sequencer)) { tries = a.tries }))

-- ---- refusals ----

-- when out of memory
abbrev pub lacks_memory : Result Report SequencerFault → Bool
lacks_memory (Err faults.NoMemory) = true
lacks_memory _ = false

-- a close that a register refuses so isn't made, and is tried again by a retry
abbrev pub IsUntimely : SequencerFault → Type 0
IsUntimely (faults.Register registers.LogLimit) = Unit {0}
IsUntimely (faults.Register (registers.Damaged place)) = Unit {0}
IsUntimely _ = ⊥

-- why a register refuses a close, by what it holds and from where on it is damaged: it holds as many other logs as it may, or its bytes are no journal. Want of memory has no cause, and nothing else is refused.
abbrev pub IsCaused : (Register → Type 0) → (ℕ → Type 0) → ℕ → SequencerFault → Type 0
IsCaused holds damaged log (faults.Register registers.LogLimit) = (c : Register) × holds c × (is_crowded c log ≡ true)
IsCaused holds damaged log (faults.Register (registers.Damaged place)) = damaged place
IsCaused holds damaged log faults.NoMemory = Unit {0}
IsCaused holds damaged log _ = ⊥

-- the call has done all but the close that it tried
pub record Unclosed (before after : Whole) (fault : SequencerFault) (old new : List Msg) (a : Acts) : Type 0 where
  pub tries : a.tries ≢ []
  pub untimely : IsUntimely fault
  pub now : after ≡ as_now before a.sequencer
  pub sent : new ≡ old ++ sent_as before (acted_messages before.sequencer a)

-- the register failed to show what is fixed for the epoch whose recovery the message begins: nothing is done
pub record Unseen (before after : Whole) (fault : SequencerFault) (old new : List Msg) (b : Body) : Type 0 where
  pub due : is_some (epoch_begun before b) ≡ true
  pub free : MayCome fault
  pub now : after ≡ before
  pub sent : new ≡ old

-- the register failed to show the recovered epoch, whose digest is spent: the rest of the call is done
pub record Unlooked (before after : Whole) (fault : SequencerFault) (old new : List Msg) (own : Sequencer) (stores : List (ℕ × Body)) (by_looks : (ℕ → View) → Acts) : Type 0 where
  pub recovery : Recovery
  pub spent : is_spent_stage recovery.spec recovery.stage ≡ true
  pub acts : (looks : ℕ → View) → by_looks looks ≡ with_stores stores (looks_now looks (does_nothing own) recovery (digest_in recovery.stage))
  pub free : MayCome fault
  pub now : after ≡ as_now before (with_recovery (Some recovery) own)
  pub sent : new ≡ old ++ sent_as before stores

abbrev pub IsRefused : Whole → Whole → SequencerFault → List Msg → List Msg → Acts → Type 0
IsRefused before after fault old new a = (fault ≡ faults.NoMemory) ⊎ Unclosed before after fault old new a

-- ---- activation ----

abbrev pub origin_of : List Bool → Spec → Origin
origin_of nodes first = record { nodes = nodes; first = first }

abbrev pub active : Origin → Spec → (ℕ → View) → ℕ → ℕ → Whole
active origin spec looks epoch lce = record { origin = origin; sequencer = activated looks spec spec.log epoch lce }

-- the recovery, with what is shown for its epoch, that begins where all epochs up to the last closed one are closed
abbrev pub recovery_behind : Spec → ℕ → ℕ → Option Recovering
recovery_behind next epoch lce = if nat_lt (lce + 1) epoch then Some (started next (lce + 1) epoch) else None

-- what it sends
abbrev pub asks_behind : Spec → ℕ → ℕ → List Msg
asks_behind next epoch lce = posted (whos.Sequencer epoch) next.log (if nat_lt (lce + 1) epoch then digest_asks (no_digest next (lce + 1)) else [])

-- what a new sequencer sends
abbrev pub first_asks : (ℕ → View) → Whole → List Msg
first_asks looks w = sent_as w (recovery_asks looks w.sequencer w.sequencer.lce)

-- an activation ends as the register's: with the sequencer of the epoch that was handed out and its asks, or refused with nothing sent
pub record IsActive (origin : Origin) (spec : Spec) (looks : ℕ → View) (grant : Grant) (w : Whole) (old new : List Msg) : Type 0 where
  pub value : w ≡ active origin spec looks grant.epoch grant.lce
  pub sent : new ≡ old ++ first_asks looks w

abbrev pub Activates : Origin → Spec → (ℕ → View) → List Msg → List Msg → Result Whole SequencerFault → Result Grant RegisterFault → Type 0
Activates origin spec looks old new (Ok w) (Ok grant) = IsActive origin spec looks grant w old new
Activates origin spec looks old new (Err fault) (Err refusal) = (fault ≡ of_register refusal) × (new ≡ old)
Activates origin spec looks old new (Ok w) (Err refusal) = ⊥
Activates origin spec looks old new (Err fault) (Ok grant) = ⊥

-- the looks of a register after an activation
abbrev pub looks_after : Spec → Spec → Register → ℕ → View
looks_after first spec c e = look first (after_activate c spec) spec.log e
