-- What the fields of a recovery say of its close.
use Rattle.std.proofs.Common.{◌≡◌, ◌≤◌, ◌<◌, ◌-◌, ◌^◌, ℕ, Bool, List, Some, refl, subst, arith}
use Rattle.std.specs.Option.{unwrap_or}
use Rattle.ld_lsn.specs.Number.{epoch_of, home_epoch}
use Rattle.ld_ids.specs.declared.set.Spec.{Spec}
use Rattle.ld_msg.specs.declared.msg.Summary.{Summary}
use Rattle.ld_msg.specs.Bounds.{IsSummary}
use Rattle.ld_msg.specs.Sequencer as sequencer
use Rattle.ld_recovery.specs.declared.stage.Stage.{Stage}
use Rattle.ld_recovery.specs.declared.stage.Stage.TheVariants.{Seals, Stores, Closes, Stopped}
use Rattle.ld_recovery.specs.declared.recovery.Ending as declared
use Rattle.ld_recovery.specs.declared.recovery.Ending.TheVariants as endings
use Rattle.ld_recovery.specs.declared.state.State.TheVariants as states
use Rattle.ld_sequencer_bounds.specs.Sequencers.{IsStage, IsNamed}
use Rattle.ld_recovery.specs.Planning.{IsClose}
use Rattle.ld_recovery.specs.Recovering.{Recovering, IsDone, Closing, IsRecovery, IsClosing}
use Rattle.ld_recovery.specs.Stages.{shown, IsOf}
use Rattle.ld_recovery.specs.States.{shown_ending, ended_state, IsEnding, state_in, state_by, state_of, summary_in}
use Rattle.ld_recovery.proofs.Numbers.{home_most}
use Rattle.ld_recovery.proofs.Holding.{held, closing_is}

pub state_is : (e : declared.Ending) (s : sequencer.Stage) → unwrap_or (ended_state e) (state_in s) ≡ state_by (shown_ending e) s
state_is endings.Goes s = refl
state_is (endings.Done y) s = refl
state_is (endings.Gone l) s = refl
state_is (endings.Preempted k) s = refl

closes_if : (spec : Spec) (epoch ballot : ℕ) (s : Stage) (y : Summary) (short : Bool) → IsOf spec epoch ballot s → shown s ≡ sequencer.Closes y short → IsClose ballot y
closes_if spec epoch ballot (Seals d) y short o h = absurd cc
closes_if spec epoch ballot (Stores g) y short o h = absurd cc
closes_if spec epoch ballot (Closes z b) y short o h = let k : z ≡ y = cc in subst (λ (x : Summary). IsClose ballot x) k o
closes_if spec epoch ballot Stopped y short o h = absurd cc

done_if : (epoch : ℕ) (e : declared.Ending) (y : Summary) → IsEnding epoch e → shown_ending e ≡ IsDone y → IsSummary epoch y
done_if epoch endings.Goes y o h = absurd cc
done_if epoch (endings.Done z) y o h = let k : z ≡ y = cc in subst (λ (x : Summary). IsSummary epoch x) k o
done_if epoch (endings.Gone l) y o h = absurd cc
done_if epoch (endings.Preempted k) y o h = absurd cc

pub holds : (spec : Spec) (epoch ballot : ℕ) (lost : List ℕ) (s : Stage) (e : declared.Ending) → IsOf spec epoch ballot s × (1 ≤ spec.r) × (1 ≤ epoch) × (epoch < ballot) × (ballot ≤ 2 ^ 32 - 2) × IsEnding epoch e × IsStage epoch (shown s) × IsNamed spec → IsRecovery (held spec epoch ballot lost s e)
holds spec epoch ballot lost s e i = record {
  factor = i.1;
  epoch = i.2;
  later = i.3;
  ballot = i.4;
  closes = λ y short h. closes_if spec epoch ballot s y short i.0 h;
  done = λ y h. done_if epoch e y i.5 h;
  stage = i.6;
  named = i.7;
}

summary_by : (epoch ballot : ℕ) (y : Summary) → epoch < ballot → ballot ≤ 2 ^ 32 - 2 → IsClose ballot y → IsSummary epoch y
summary_by epoch ballot y l m c = record {
  ballot = omega (arith, l, c.ballot);
  ballot_most = omega (arith, m, c.ballot);
  lng = c.lng;
  trim = c.trim;
  end = c.end;
  end_most = c.end_most;
}

-- the stage's summary is one of the epoch
pub closes_well : (spec : Spec) (epoch ballot : ℕ) (s : Stage) (y : Summary) → IsOf spec epoch ballot s → epoch < ballot → ballot ≤ 2 ^ 32 - 2 → Some y ≡ summary_in (shown s) → IsSummary epoch y
closes_well spec epoch ballot (Seals d) y o l m h = absurd cc
closes_well spec epoch ballot (Stores g) y o l m h = absurd cc
closes_well spec epoch ballot (Closes z short) y o l m h = let k : z ≡ y = cc in summary_by epoch ballot y l m (subst (λ (x : Summary). IsClose ballot x) k o)
closes_well spec epoch ballot Stopped y o l m h = absurd cc

-- a summary of a number's epoch is one of its home
pub at_home : (n epoch : ℕ) (y : Summary) → IsSummary (epoch_of n) y → home_epoch n ≡ epoch → IsSummary epoch y
at_home n epoch y i h = record {
  ballot = omega (arith, i.ballot, home_most n, h);
  ballot_most = i.ballot_most;
  lng = i.lng;
  trim = i.trim;
  end = i.end;
  end_most = i.end_most;
}

pub is_closing : (r : Recovering) (y : Summary) (short : Bool) → IsRecovery r → Closing r y short → IsClosing r y short
is_closing r y short i h = let c = i.closes y short h.1 in record { closing = h; summary = summary_by r.recovery.epoch r.ballot y i.later i.ballot c; ballot = c.ballot }

pub shows_closing : (r : Recovering) (y : Summary) (short : Bool) → IsRecovery r → state_of r ≡ states.Closing y short → IsClosing r y short
shows_closing r y short i h = is_closing r y short i (closing_is r y short h)

done_shown : (epoch : ℕ) (e : declared.Ending) (s : sequencer.Stage) (y : Summary) → IsEnding epoch e → state_by (shown_ending e) s ≡ states.Done y → IsSummary epoch y
done_shown epoch endings.Goes (sequencer.Seals d) y o h = absurd cc
done_shown epoch endings.Goes (sequencer.Stores g) y o h = absurd cc
done_shown epoch endings.Goes (sequencer.Closes z short) y o h = absurd cc
done_shown epoch (endings.Done z) s y o h = let k : z ≡ y = cc in subst (λ (x : Summary). IsSummary epoch x) k o
done_shown epoch (endings.Gone l) s y o h = absurd cc
done_shown epoch (endings.Preempted k) s y o h = absurd cc

pub shows_done : (spec : Spec) (epoch ballot : ℕ) (lost : List ℕ) (s : Stage) (e : declared.Ending) (y : Summary) → IsEnding epoch e → state_of (held spec epoch ballot lost s e) ≡ states.Done y → IsSummary epoch y
shows_done spec epoch ballot lost s e y o h = done_shown epoch e (shown s) y o h
