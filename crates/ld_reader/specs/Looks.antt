-- What a reader's looks show.
use Rattle.std.specs.Prelude.{◌≡◌, ℕ, Option, Some, None}
use Rattle.ld_ids.specs.declared.set.Spec.{Spec}
use Rattle.ld_msg.specs.Register as registers
use Rattle.ld_register.specs.Calls.{IsView}
use Rattle.ld_register.specs.declared.register.View.{View}
use Rattle.ld_reader.specs.Following.{Following}
use Rattle.ld_reader.specs.Shown.{shown_view}

-- by a register with these contents
abbrev pub looks_of : Following → registers.Register → ℕ → registers.View
looks_of f c e = registers.look f.first c f.reader.log e

-- some register shows this of an epoch of the log
pub record IsLook (first : Spec) (log e : ℕ) (w : registers.View) : Type 0 where
  pub view : View
  pub is : IsView log e view
  pub shown : w ≡ shown_view first e view

-- and of each epoch what the looks tell
abbrev pub AreLooks : Following → (ℕ → registers.View) → Type 0
AreLooks f looks = (e : ℕ) → IsLook f.first f.reader.log e (looks e)

-- a look that was made before is one of these
abbrev pub WasMade : (ℕ → registers.View) → Option registers.View → Type 0
WasMade looks None = Unit {0}
WasMade looks (Some w) = looks w.at ≡ w

-- and a register showed it
abbrev pub WasShown : Following → Option registers.View → Type 0
WasShown f None = Unit {0}
WasShown f (Some w) = IsLook f.first f.reader.log w.at w
