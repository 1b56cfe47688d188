-- The recovery of an epoch on its own, and the sequencer that it is a part of.
use Rattle.std.specs.Prelude.{ℕ, ◌≡◌, ◌≤◌, ◌<◌, ◌-◌, ◌^◌, List, [], ◌++◌, Option, Some, None, Bool, true, false, ◌==◌, ◌&&◌, if◌then◌else◌}
use Rattle.ld_ids.specs.declared.set.Spec.{Spec}
use Rattle.ld_lsn.specs.Number.{epoch_of, home_epoch}
use Rattle.ld_msg.specs.declared.msg.Who.{Who}
use Rattle.ld_msg.specs.declared.msg.Who.TheVariants as whos
use Rattle.ld_msg.specs.declared.msg.Msg.{Msg}
use Rattle.ld_msg.specs.declared.msg.Summary.{Summary}
use Rattle.ld_msg.specs.declared.msg.Entry.{Entry}
use Rattle.ld_msg.specs.declared.msg.Body.{Body}
use Rattle.ld_msg.specs.declared.msg.Body.TheVariants as bodies
use Rattle.ld_ids.specs.Id.{IsNode}
use Rattle.ld_msg.specs.Bounds.{IsLng, IsSummary, IsPage, Fits}
use Rattle.ld_msg.specs.Digest.{Told, no_digest, with_page, is_spent, plan}
use Rattle.ld_msg.specs.Network.{posted}
use Rattle.ld_msg.specs.Register.{Answer, Granted, AtLimit, Behind, Overtaken, Fails, View}
use Rattle.ld_msg.specs.Sequencer.{Sequencer, Recovery, Stage, Seals, Stores, Closes, Acts, does_nothing, takes_any, recovery_lost, stores_plan, on_reply, on_retry, after_close}
use Rattle.ld_sequencer_bounds.specs.Sequencers.{IsStage, IsNamed}
use Rattle.ld_recovery.specs.Planning.{IsClose}

-- how a recovery ended, where it did
pub data Ending : Type 0 where
  Goes : Ending
  IsDone : (summary : Summary) → Ending
  IsGone : (lce : ℕ) → Ending
  IsPreempted : (by : ℕ) → Ending

-- a log's recovery of an epoch by the sequencer of a later one
pub record Recovering : Type 0 where
  pub ballot : ℕ
  pub recovery : Recovery
  pub ending : Ending

-- what was fixed for the epoch as the recovery began
abbrev pub spec_of : Recovering → Spec
spec_of r = r.recovery.spec

-- the sequencer that recovers this epoch, with no appends and no lost nodes of its own
abbrev pub as_sequencer : Recovering → Sequencer
as_sequencer r = record { log = (spec_of r).log; epoch = r.ballot; spec = spec_of r; lce = r.recovery.epoch - 1; lng = 0; appends = []; lost = []; recovery = Some r.recovery; preempted = None; gone = false }

abbrev pub started : Spec → ℕ → ℕ → Recovering
started spec epoch ballot = record { ballot = ballot; recovery = record { epoch = epoch; spec = spec; lost = []; stage = Seals (no_digest spec epoch) }; ending = Goes }

-- ---- what a call makes of a recovery ----

abbrev pub ending_by : Option ℕ → Ending
ending_by None = Goes
ending_by (Some k) = IsPreempted k

abbrev pub recovery_or : Recovery → Option Recovery → Recovery
recovery_or v None = v
recovery_or v (Some w) = w

-- the epoch isn't closed yet: the sequencer's recovery goes on, or the sequencer is preempted
abbrev pub goes_on : Recovering → Acts → Recovering
goes_on r a = record { ballot = r.ballot; recovery = recovery_or r.recovery a.sequencer.recovery; ending = ending_by a.sequencer.preempted }

abbrev pub ended : Recovering → Ending → Recovering
ended r e = record { ballot = r.ballot; recovery = r.recovery; ending = e }

-- the epochs that are closed are those of before
abbrev pub is_open : Recovering → Acts → Bool
is_open r a = a.sequencer.lce == r.recovery.epoch - 1

-- the summary that a reply tells of a clean epoch
abbrev pub summary_told : Body → Option Summary
summary_told (bodies.CleanHere n y) = Some y
summary_told _ = None

abbrev pub ending_told : Option Summary → Ending
ending_told None = Goes
ending_told (Some y) = IsDone y

abbrev pub when_going : {X : Type 0} → Ending → X → X → X
when_going Goes x y = x
when_going (IsDone s) x y = y
when_going (IsGone l) x y = y
when_going (IsPreempted k) x y = y

abbrev pub is_going : Ending → Bool
is_going Goes = true
is_going (IsDone s) = false
is_going (IsGone l) = false
is_going (IsPreempted k) = false

-- a recovery goes on with this
abbrev pub going : Recovering → Recovery → Recovering
going r v = record { ballot = r.ballot; recovery = v; ending = Goes }

-- ---- a digest that is spent ----

abbrev pub digest_in : Stage → List Told
digest_in (Seals d) = d
digest_in (Stores g) = []
digest_in (Closes y short) = []

abbrev pub is_spent_stage : Spec → Stage → Bool
is_spent_stage s (Seals d) = is_spent s d
is_spent_stage s (Stores g) = false
is_spent_stage s (Closes y short) = false

-- its digest is spent: the register is to be looked at
abbrev pub is_spent_in : Recovering → Bool
is_spent_in r = is_going r.ending && is_spent_stage (spec_of r) r.recovery.stage

-- ---- a message that tells of a digest ----

abbrev pub takes_in : ℕ → ℕ → Stage → Bool
takes_in y from (Seals d) = takes_any y from d
takes_in y from (Stores g) = false
takes_in y from (Closes z short) = false

-- it is of the recovered epoch: a page that is taken, or word that a node is lost
abbrev pub counts : Recovery → ℕ → Body → Bool
counts v y (bodies.LostHere n round generation end) = v.epoch == home_epoch n
counts v y (bodies.DigestPage from upto trim lng es) = (v.epoch == epoch_of from) && takes_in y from v.stage
counts v y _ = false

abbrev pub page_told : ℕ → ℕ → ℕ → ℕ → ℕ → ℕ → List Entry → Stage → Stage
page_told epoch y from upto trim lng es (Seals d) = Seals (with_page epoch y from upto trim lng es d)
page_told epoch y from upto trim lng es (Stores g) = Stores g
page_told epoch y from upto trim lng es (Closes z short) = Closes z short

-- the recovery with what the message tells
abbrev pub told_by : Recovery → ℕ → Body → Recovery
told_by v y (bodies.LostHere n round generation end) = recovery_lost y v
told_by v y (bodies.DigestPage from upto trim lng es) = record v { stage = page_told v.epoch y from upto trim lng es v.stage }
told_by v y _ = v

-- such a message leaves the digest spent: what is done then is for a look at the register to say
abbrev pub spends : Recovering → ℕ → Body → Bool
spends r y b = counts r.recovery y b && (is_spent_stage (spec_of r) (told_by r.recovery y b).stage && is_going r.ending)

-- ---- replies ----

-- it ends where a later epoch's would begin: what a look shows of that one doesn't matter
abbrev pub no_looks : Recovering → ℕ → View
no_looks r e = record { at = e; epoch = r.ballot; lce = r.recovery.epoch; swaps = 0; summary = None; spec = spec_of r }

abbrev pub reply_acts : Recovering → ℕ → Body → Acts
reply_acts r y b = on_reply (no_looks r) (as_sequencer r) y b

abbrev pub replied_with : Recovering → Body → Acts → Recovering
replied_with r b a = if is_open r a then goes_on r a else ended r (ending_told (summary_told b))

-- a recovery that has ended ignores all replies; one whose digest is spent by the reply waits
abbrev pub replied : Recovering → ℕ → Body → Recovering
replied r y b = if spends r y b then going r (told_by r.recovery y b) else when_going r.ending (replied_with r b (reply_acts r y b)) r

-- what it sends: the asks of the next epoch are not its own
abbrev pub sent_by : Recovering → Acts → List (ℕ × Body)
sent_by r a = if is_open r a then a.asks ++ a.stores else a.cleans

abbrev pub messages : Recovering → List (ℕ × Body) → List Msg
messages r bs = posted (whos.Sequencer r.ballot) (spec_of r).log bs

abbrev pub reply_messages : Recovering → ℕ → Body → List Msg
reply_messages r y b = if spends r y b then [] else when_going r.ending (messages r (sent_by r (reply_acts r y b))) []

-- ---- a plan that says what is lost ----

-- the digest is spent, and a look has shown that the epoch is open and its sequencer the newest
abbrev pub loss_acts : Recovering → Acts
loss_acts r = stores_plan (does_nothing (as_sequencer r)) r.recovery (plan r.recovery.epoch true (digest_in r.recovery.stage))

abbrev pub losing : Recovering → Recovering
losing r = goes_on r (loss_acts r)

abbrev pub loss_messages : Recovering → List Msg
loss_messages r = messages r (loss_acts r).stores

-- ---- a retry ----

-- a digest that is spent isn't asked again
abbrev pub retried : Recovering → Recovering
retried r = if is_spent_in r then r else when_going r.ending (goes_on r (on_retry (no_looks r) (as_sequencer r))) r

abbrev pub retry_messages : Recovering → List Msg
retry_messages r = if is_spent_in r then [] else when_going r.ending (messages r (sent_by r (on_retry (no_looks r) (as_sequencer r)))) []

-- ---- the close ----

-- the plan is stored, and the epoch is to be closed with this summary
abbrev pub Closing : Recovering → Summary → Bool → Type 0
Closing r y short = (r.ending ≡ Goes) × (r.recovery.stage ≡ Closes y short)

abbrev pub close_acts : Recovering → Summary → Answer → Acts
close_acts r y d = after_close (no_looks r) (does_nothing (as_sequencer r)) r.recovery.epoch y d

abbrev pub ending_behind : ℕ → Option ℕ → Ending
ending_behind lce None = IsGone lce
ending_behind lce (Some k) = IsPreempted k

-- a register that refuses for another cause may be asked again
abbrev pub ending_closed : Recovering → Summary → Answer → Ending
ending_closed r y Granted = IsDone y
ending_closed r y AtLimit = Goes
ending_closed r y (Behind lce) = ending_behind lce (close_acts r y (Behind lce)).sequencer.preempted
ending_closed r y (Overtaken k) = IsPreempted k
ending_closed r y Fails = Goes

abbrev pub closed_by : Recovering → Summary → Answer → Recovering
closed_by r y d = ended r (ending_closed r y d)

abbrev pub close_messages : Recovering → Summary → Answer → List Msg
close_messages r y d = messages r (close_acts r y d).cleans

-- ---- who replies ----

abbrev pub sender_of : Who → ℕ
sender_of (whos.Node n) = n
sender_of _ = 0

-- what holds of the replies that a message may carry
abbrev pub IsReply : Body → Type 0
IsReply (bodies.CleanHere n y) = IsSummary (epoch_of n) y
IsReply (bodies.DigestPage from upto trim lng es) = IsPage from upto es × IsLng lng
IsReply _ = Unit {0}

-- a node's reply to the sequencer of an epoch
abbrev pub IsReplyTo : ℕ → Body → Type 0
IsReplyTo epoch b = (n : ℕ) → IsNode n → Fits (whos.Node n) (whos.Sequencer epoch) b

-- ---- what holds of each recovery ----

pub record IsRecovery (r : Recovering) : Type 0 where
  pub factor : 1 ≤ (spec_of r).r
  pub epoch : 1 ≤ r.recovery.epoch
  pub later : r.recovery.epoch < r.ballot
  pub ballot : r.ballot ≤ 2 ^ 32 - 2
  pub closes : (y : Summary) (short : Bool) → r.recovery.stage ≡ Closes y short → IsClose r.ballot y
  pub done : (y : Summary) → r.ending ≡ IsDone y → IsSummary r.recovery.epoch y
  pub stage : IsStage r.recovery.epoch r.recovery.stage
  pub named : IsNamed (spec_of r)

-- the epoch is to be closed with this summary of it, by the sequencer
pub record IsClosing (r : Recovering) (y : Summary) (short : Bool) : Type 0 where
  pub closing : Closing r y short
  pub summary : IsSummary r.recovery.epoch y
  pub ballot : y.ballot ≡ r.ballot
