-- What a register and its nodes say of a log.
use Rattle.std.specs.Prelude.{ℕ, ◌≡◌, ◌+◌, ◌-◌, List, ◌++◌, Bool}
use Rattle.ld_ids.specs.Set.{members}
use Rattle.ld_config.specs.declared.config.Config.{Config}
use Rattle.ld_msg.specs.Register.{Register, epochs_of}
use Rattle.ld_dial.specs.Far.{Far}
use Rattle.ld_operate.specs.Shown.{register_text}
use Rattle.ld_operate.specs.Asked.{first_of_last}
use Rattle.ld_operate.specs.Heard.{HeardAll}
use Rattle.ld_operate.specs.Views.{ShowsRegister}

-- the lines of a register's last epochs, which are of views of it, and then what each node of the configuration said of them, in order; as JSON where the first argument says so
pub record HasStatus (json : Bool) (holds : Register → Type 0) (tells_old tells_new : Config → Far → Type 0) (silent : Bool) (c : Config) (log count : ℕ) (old new : List ℕ) (whole : Bool) : Type 0 where
  pub last : ℕ
  pub middle : List ℕ
  pub shown : (r : Register) → holds r → (last ≡ (epochs_of r log).epoch) × (middle ≡ old ++ register_text json r log (first_of_last count last))
  pub views : ShowsRegister json log (first_of_last count last) last old middle
  pub heard : HeardAll json tells_old tells_new silent log (first_of_last count last) (last + 1 - first_of_last count last) (members c.nodes) middle new whole
