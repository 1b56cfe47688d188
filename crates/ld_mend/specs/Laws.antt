-- What follows from what is told.
use Rattle.std.specs.Prelude.{ℕ, ◌≡◌, ◌≤◌, None, Some, true, false}
use Rattle.ld_table.specs.Table.{find}
use Rattle.ld_table.specs.Words.{is_in}
use Rattle.ld_config.specs.declared.config.Config.{Config}
use Rattle.ld_msg.specs.declared.msg.Summary.{Summary}
use Rattle.ld_msg.specs.Register.{Register, epochs_of, lce_of}
use Rattle.ld_op.specs.Plain.{log_of}
use Rattle.ld_node.specs.Known.{Known}
use Rattle.ld_mend.specs.Course.{At, Stands}

-- the register has a summary of each closed epoch of the log
abbrev pub AllClosed : Register → ℕ → Type 0
AllClosed r l = (e : ℕ) → 1 ≤ e → e ≤ lce_of r l → (y : Summary) × (find e (epochs_of r l).summaries ≡ Some y)

-- where nothing is lacking of a log that the node knows, it isn't lost for it
abbrev pub MendedIsNotLost : Type 0
MendedIsNotLost = (id : ℕ) (known : Known) (c : Config) (r : Register) (s : At) (l : ℕ) → is_in l known.logs ≡ true → AllClosed r l → Stands id known c r s l None → (log_of s.plain l).lost ≡ false
