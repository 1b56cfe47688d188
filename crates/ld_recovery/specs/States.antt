-- What a recovery's state shows, and what the register answered.
use Rattle.std.specs.Prelude.{ℕ, ◌≡◌, ◌⊎◌, Option, Some, None, Bool, true, nat_le, ◌-◌, ◌^◌}
use Rattle.ld_msg.specs.declared.msg.Summary.{Summary}
use Rattle.ld_msg.specs.declared.msg.Body.{Body}
use Rattle.ld_msg.specs.declared.msg.Body.TheVariants.{CleanHere}
use Rattle.ld_lsn.specs.Number.{home_epoch}
use Rattle.ld_msg.specs.Bounds.{IsSummary}
use Rattle.ld_msg.specs.Register as register
use Rattle.ld_msg.specs.Sequencer as sequencer
use Rattle.ld_recovery.specs.declared.state.State.{State}
use Rattle.ld_recovery.specs.declared.state.State.TheVariants as states
use Rattle.ld_recovery.specs.declared.state.Answer.{Answer}
use Rattle.ld_recovery.specs.declared.state.Answer.TheVariants as answers
use Rattle.ld_recovery.specs.declared.recovery.Ending.{Ending}
use Rattle.ld_recovery.specs.declared.recovery.Ending.TheVariants as declared
use Rattle.ld_recovery.specs.Recovering as recovering
use Rattle.ld_recovery.specs.Recovering.{Recovering}

abbrev pub shown_ending : Ending → recovering.Ending
shown_ending declared.Goes = recovering.Goes
shown_ending (declared.Done y) = recovering.IsDone y
shown_ending (declared.Gone l) = recovering.IsGone l
shown_ending (declared.Preempted k) = recovering.IsPreempted k

-- an epoch that is done has a summary of it
abbrev pub IsEnding : ℕ → Ending → Type 0
IsEnding epoch declared.Goes = Unit {0}
IsEnding epoch (declared.Done y) = IsSummary epoch y
IsEnding epoch (declared.Gone l) = Unit {0}
IsEnding epoch (declared.Preempted k) = Unit {0}

-- the state of a recovery that ended so
abbrev pub ended_state : Ending → Option State
ended_state declared.Goes = None
ended_state (declared.Done y) = Some (states.Done y)
ended_state (declared.Gone l) = Some (states.Gone l)
ended_state (declared.Preempted k) = Some (states.Preempted k)

abbrev pub summary_in : sequencer.Stage → Option Summary
summary_in (sequencer.Seals d) = None
summary_in (sequencer.Stores g) = None
summary_in (sequencer.Closes y short) = Some y

abbrev pub state_in : sequencer.Stage → State
state_in (sequencer.Seals d) = states.Sealing
state_in (sequencer.Stores g) = states.Storing
state_in (sequencer.Closes y short) = states.Closing y short

abbrev pub state_by : recovering.Ending → sequencer.Stage → State
state_by recovering.Goes s = state_in s
state_by (recovering.IsDone y) s = states.Done y
state_by (recovering.IsGone l) s = states.Gone l
state_by (recovering.IsPreempted k) s = states.Preempted k

abbrev pub state_of : Recovering → State
state_of r = state_by r.ending r.recovery.stage

-- a recovery that is done with a summary was so, or the reply tells that its epoch is clean with that summary
abbrev pub IsTold : Recovering → Body → Summary → Type 0
IsTold r b y = (state_of r ≡ states.Done y) ⊎ ((n : ℕ) × (b ≡ CleanHere n y) × (home_epoch n ≡ r.recovery.epoch))

abbrev pub answer_of : Answer → register.Answer
answer_of answers.Taken = register.Granted
answer_of (answers.Behind lce) = register.Behind lce
answer_of (answers.Overtaken k) = register.Overtaken k
answer_of answers.Failed = register.Fails

-- a last closed epoch is at most the greatest epoch
abbrev pub is_epoch_answer : Answer → Bool
is_epoch_answer answers.Taken = true
is_epoch_answer (answers.Behind lce) = nat_le lce (2 ^ 32 - 2)
is_epoch_answer (answers.Overtaken k) = true
is_epoch_answer answers.Failed = true
