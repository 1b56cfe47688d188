-- One epoch of a format more is read.
use Rattle.std.proofs.Common.{◌≡◌, ◌<◌, ◌+◌, ◌-◌, ℕ, List, [], ◌∷◌, ◌++◌, ap, sym, ◌∙◌}
use Rattle.ld_fields.specs.declared.fault.FieldFault.{FieldFault}
use Rattle.ld_fields.specs.declared.fault.FieldFault.TheVariants.{Bad, NoMemory}
use Rattle.ld_fields.specs.Faults.{IsOff}
use Rattle.ld_fields.specs.Fields.{Read, Got, Off, follow}
use Rattle.ld_fields.specs.Resumed.{resumed}
use Rattle.ld_fields.proofs.Parts.{prefixed, done, less, none_left}
use Rattle.ld_op.specs.Bytes.{read_epoch, read_epochs}

pub epochs_on : (bs : List ℕ) (n i least at : ℕ) (acc : List (ℕ × ℕ)) (d : ℕ × ℕ) (next : ℕ) → i < n → read_epoch bs least at ≡ Got d next
    → resumed (acc ++ d ∷ []) (read_epochs bs (n - (i + 1)) (d.0 + 1) next) ≡ resumed acc (read_epochs bs (n - i) least at)
unfolding read_epochs
epochs_on bs n i least at acc d next h r = sym (ap (λ k. resumed acc (read_epochs bs k least at)) (less n i h)
    ∙ (ap (λ x. resumed acc (follow x (λ d next. follow (read_epochs bs (n - (i + 1)) (d.0 + 1) next) (λ ds last. Got (d ∷ ds) last)))) r
    ∙ prefixed acc d (read_epochs bs (n - (i + 1)) (d.0 + 1) next)))

pub epochs_off : (bs : List ℕ) (n i least at : ℕ) (acc : List (ℕ × ℕ)) (place : ℕ) → i < n → read_epoch bs least at ≡ Off place → resumed acc (read_epochs bs (n - i) least at) ≡ Off place
unfolding read_epochs
epochs_off bs n i least at acc place h r = ap (λ k. resumed acc (read_epochs bs k least at)) (less n i h)
    ∙ ap (λ x. resumed acc (follow x (λ d next. follow (read_epochs bs (n - (i + 1)) (d.0 + 1) next) (λ ds last. Got (d ∷ ds) last)))) r

pub epochs_done : (bs : List ℕ) (n i least at : ℕ) (acc : List (ℕ × ℕ)) → i ≡ n → resumed acc (read_epochs bs (n - i) least at) ≡ Got acc at
unfolding read_epochs
epochs_done bs n i least at acc h = ap (λ k. resumed acc (read_epochs bs (n - k) least at)) h ∙ (ap (λ k. resumed acc (read_epochs bs k least at)) (none_left n) ∙ done acc at)

-- a fault names the offset of the part
pub epochs_fault : (bs : List ℕ) (n i least at : ℕ) (acc : List (ℕ × ℕ)) (whole : Read (List (ℕ × ℕ))) (e : FieldFault) → i < n → resumed acc (read_epochs bs (n - i) least at) ≡ whole → IsOff (read_epoch bs least at) e → IsOff whole e
epochs_fault bs n i least at acc whole (Bad place) h w o = sym w ∙ epochs_off bs n i least at acc place h o
epochs_fault bs n i least at acc whole NoMemory h w o = tt
