-- The lines of what looks answer, whatever register they look at.
use Rattle.std.specs.Prelude.{ℕ, ◌≡◌, ◌+◌, ◌-◌, List, ◌++◌, map, Bool, All}
use Rattle.std.specs.List.{flat_map, range_with_len}
use Rattle.ld_register.specs.declared.register.View.{View}
use Rattle.ld_register.specs.Calls.{IsView}
use Rattle.ld_operate.specs.Shown.{log_line, epoch_line}

-- the line of a view of a log, whose epoch is said
pub record ShowsLog (json : Bool) (log : ℕ) (old new : List ℕ) (last : ℕ) : Type 0 where
  pub view : View
  pub is : IsView log 0 view
  pub last_is : last ≡ view.epoch
  pub written : new ≡ old ++ log_line json log view

-- of a view of an epoch
pub record ShowsEpoch (json : Bool) (log epoch : ℕ) (old new : List ℕ) : Type 0 where
  pub view : View
  pub is : IsView log epoch view
  pub written : new ≡ old ++ epoch_line json epoch view

abbrev pub views_text : Bool → List (ℕ × View) → List ℕ
views_text json views = flat_map (λ v. epoch_line json v.0 v.1) views

-- of views of so many epochs from one on, in order
pub record ShowsEpochs (json : Bool) (log from count : ℕ) (old new : List ℕ) : Type 0 where
  pub views : List (ℕ × View)
  pub epochs_are : map (λ v. v.0) views ≡ range_with_len from count
  pub are : All (λ v. IsView log v.0 v.1) views
  pub written : new ≡ old ++ views_text json views

-- of a view of a log, whose epoch is the last one, and of its epochs from one on to that
pub record ShowsRegister (json : Bool) (log from last : ℕ) (old new : List ℕ) : Type 0 where
  pub middle : List ℕ
  pub log_shown : ShowsLog json log old middle last
  pub epochs_shown : ShowsEpochs json log from (last + 1 - from) middle new
