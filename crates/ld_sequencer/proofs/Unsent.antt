-- What is sent is sent behind what was there, whether a call is refused or not.
use Rattle.std.proofs.Common.{◌≡◌, ◌≢◌, ◌⊎◌, ◌++◌, List, [], true, false, Ok, Err, IfOk, IfErr, IsErrOf, refl, sym, ◌∙◌, ap, subst, inl, inr}
use Rattle.std.specs.declared.result.Result.{Result}
use Rattle.ld_ids.specs.declared.set.Spec.{Spec}
use Rattle.ld_msg.specs.declared.msg.Msg.{Msg}
use Rattle.ld_msg.specs.Register.{Answer}
use Rattle.ld_msg.specs.Sequencer.{Acts}
use Rattle.ld_recovery.specs.Sending.{BeginsWith}
use Rattle.ld_recovery.proofs.Begins.{begins_itself}
use Rattle.ld_register.specs.Bounds.{IsSpecFor}
use Rattle.ld_sequencer.specs.declared.report.Report.{Report}
use Rattle.ld_sequencer.specs.declared.fault.SequencerFault.{SequencerFault}
use Rattle.ld_sequencer.specs.declared.fault.SequencerFault.TheVariants as faults
use Rattle.ld_sequencer.specs.Looks.{shows}
use Rattle.ld_sequencer.specs.Whole.{Whole, Acted, ActedBy, IsUntimely, IsRefused, lacks_memory, due_acts, recovery_acts, tried}
use Rattle.ld_sequencer.proofs.Begins.{begins_more}
use Rattle.ld_sequencer.proofs.Retrying.{RecoveryRefused}

pub behind : (old more new : List Msg) → new ≡ old ++ more → BeginsWith old new
behind old more new e = subst (BeginsWith old) (sym e) (begins_more old more)

the_same : (old new : List Msg) → new ≡ old → BeginsWith old new
the_same old new e = subst (BeginsWith old) (sym e) (begins_itself old)

-- of a close that is due
pub due_begins : (w n : Whole) (r : Result Report SequencerFault) (old new : List Msg)
    → IfOk r (λ report. (s : Spec) × IsSpecFor w.sequencer.log s × (d : Answer) × Acted w n report old new (tried (shows s) (due_acts w) d))
    → IfErr r (λ fault. (fault ≡ faults.NoMemory) ⊎ (IsUntimely fault × ((due_acts w).tries ≢ []) × (n ≡ w) × (new ≡ old)))
    → (IsErrOf r faults.NoMemory → new ≡ old) → BeginsWith old new
due_begins w n (Ok report) old new acted refused unsent = behind old _ new acted.3.sent
due_begins w n (Err fault) old new acted (inl e) unsent = the_same old new (unsent (ap Err e))
due_begins w n (Err fault) old new acted (inr k) unsent = the_same old new k.3

-- of a retry of the recovery
refused_begins : (w n : Whole) (fault : SequencerFault) (old new : List Msg) (a : Acts) → IsRefused w n fault old new a → (fault ≡ faults.NoMemory → new ≡ old) → BeginsWith old new
refused_begins w n fault old new a (inl e) unsent = the_same old new (unsent e)
refused_begins w n fault old new a (inr k) unsent = behind old _ new k.sent

pub retry_begins : (w n : Whole) (r : Result Report SequencerFault) (old new : List Msg)
    → IfOk r (λ report. ActedBy w n report old new (λ looks. recovery_acts looks w))
    → IfErr r (λ fault. RecoveryRefused w n fault old new)
    → (IsErrOf r faults.NoMemory → new ≡ old) → BeginsWith old new
retry_begins w n (Ok report) old new acted refused unsent = behind old _ new acted.3.sent
retry_begins w n (Err fault) old new acted (inl u) unsent = behind old _ new u.sent
retry_begins w n (Err fault) old new acted (inr k) unsent = let looks = shows w.origin.first in refused_begins w n fault old new (recovery_acts looks w) (k looks) (λ e. unsent (ap Err e))

-- ---- want of memory ----

pub lacked : (r : Result Report SequencerFault) → lacks_memory r ≡ true → IsErrOf r faults.NoMemory
lacked (Ok report) h = absurd cc
lacked (Err faults.NoMemory) h = refl
lacked (Err fault) h = absurd cc

pub has_memory : (r : Result Report SequencerFault) → lacks_memory r ≡ false → IsErrOf r faults.NoMemory → ⊥
has_memory r h e = let k : true ≡ false = sym (ap lacks_memory e) ∙ h in cc
