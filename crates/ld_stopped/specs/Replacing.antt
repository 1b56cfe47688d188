-- A stopped node takes another one's place: what is written, what the register holds then, and how it ends.
use Rattle.std.specs.Prelude.{◌≡◌, ◌⊎◌, ◌≤◌, ◌-◌, ◌^◌, ◌==◌, ◌++◌, ℕ, List, true, false, OnOk, IsErrOf, if◌then◌else◌}
use Rattle.std.specs.declared.result.Result.{Result}
use Rattle.std.specs.declared.result.Result.TheVariants.{Ok, Err}
use Rattle.ld_io.specs.Causes.{Rose}
use Rattle.ld_msg.specs.Register.{Register as Contents, epochs_of}
use Rattle.ld_op.specs.Plain.{Plain}
use Rattle.ld_transcript.specs.declared.line.Line.TheVariants.{NodeReplaced, Nothing}
use Rattle.ld_transcript.specs.Text.{line_text}
use Rattle.ld_register.specs.declared.fault.RegisterFault.{RegisterFault}
use Rattle.ld_register.specs.declared.fault.RegisterFault.TheVariants as registers
use Rattle.ld_register.specs.Calls.{ChangedOrNot, is_full, swap_length}
use Rattle.ld_node.specs.Known.{Known}
use Rattle.ld_node.specs.Swaps.{can_replace, replaced, after_replace, counted, not_swapped}
use Rattle.ld_mend.specs.Output.{WritesPart}
use Rattle.ld_serve.specs.declared.stop.Which.TheVariants.{Store, Register}
use Rattle.ld_stopped.specs.declared.stop.Stop.{Stop}
use Rattle.ld_stopped.specs.declared.stop.Stop.TheVariants as stops

-- in so many closed epochs of the log the node took the other one's place
abbrev pub replaced_text : ℕ → ℕ → ℕ → ℕ → List ℕ
replaced_text id l other count = if count == 0 then line_text Nothing else line_text (NodeReplaced id l other count)

-- ---- why it stops ----

-- of a register, by its counts of faults, whether it tells, what it may hold and where it is damaged, and of an output by its counts: a call of the register failed; its bytes are no journal from that place on; the log's
-- count of swaps is the greatest; the register's journal has no room for the swap; or the output failed
module _ (register register_now : ℕ) (Told : Type 0) (holds : Contents → Type 0) (damaged : ℕ → Type 0) (l output output_now : ℕ) where
  abbrev pub IsSwapStop : Stop → Type 0
  IsSwapStop stops.NoMemory = Unit {0}
  IsSwapStop stops.Write = Rose output output_now
  IsSwapStop stops.Register = Rose register register_now
  IsSwapStop (stops.Damaged Register place) = Told → damaged place
  IsSwapStop stops.SwapLimit = Told → (c : Contents) × holds c × (2 ^ 32 - 1 ≤ (epochs_of c l).swaps)
  IsSwapStop (stops.Full Register) = Told → (c : Contents) × holds c × (is_full c swap_length ≡ true)
  IsSwapStop _ = ⊥

-- the store wasn't opened, and the register wasn't called
pub record IsNotAsked (NotLoaded : Stop → Type 0) {R : Type 0} (reg reg_now : R) (stop : Stop) : Type 0 where
  pub loaded : NotLoaded stop
  pub register : reg_now ≡ reg

-- ---- how it ends ----

-- the register answers so, and holds that behind the swap
pub record HasSwapped (holds_now : Contents → Type 0) (answer : Result ℕ RegisterFault) (after : Contents) (wrote : ℕ → Type 0) : Type 0 where
  pub count : ℕ
  pub swapped : counted count ≡ answer
  pub holds : holds_now after
  pub written : wrote count

-- it refused so
pub record IsRefused (tells : Contents → Type 0) (answer : Result ℕ RegisterFault) (after : Contents) (fault : RegisterFault) : Type 0 where
  pub refused : not_swapped fault ≡ answer
  pub holds : tells after

-- of a register that answers so and holds the first contents, and the second ones behind the swap: what it tells now, and what was written
abbrev pub EndsReplacing : (Contents → Type 0) → Result ℕ RegisterFault → Contents → Contents → (ℕ → List ℕ) → List ℕ → List ℕ → Result Unit Stop → Type 0
EndsReplacing tells answer c after text old new (Ok done) = HasSwapped tells answer after (λ n. new ≡ old ++ text n)
EndsReplacing tells answer c after text old new (Err stops.Write) = HasSwapped tells answer after (λ n. WritesPart old new (text n))
EndsReplacing tells answer c after text old new (Err stops.Register) = IsRefused tells answer after registers.Failed
EndsReplacing tells answer c after text old new (Err (stops.Damaged Register place)) = IsRefused tells answer after (registers.Damaged place)
EndsReplacing tells answer c after text old new (Err stops.SwapLimit) = IsRefused tells answer after registers.SwapLimit
EndsReplacing tells answer c after text old new (Err (stops.Full Register)) = IsRefused tells answer after registers.Full
EndsReplacing tells answer c after text old new (Err stops.NoMemory) = tells c ⊎ tells after
EndsReplacing tells answer c after text old new (Err stops.Disk) = tells c
EndsReplacing tells answer c after text old new (Err (stops.Full Store)) = tells c
EndsReplacing tells answer c after text old new (Err stops.Blank) = tells c
EndsReplacing tells answer c after text old new (Err _) = ⊥

-- of the node of this number, which knows this of the configuration and was in this plain state, and of a register: whether it tells, whether it is the same, what it tells, holds and may hold then and now, and the text of so many epochs
module _ (id : ℕ) (known : Known) (p : Plain) (l other : ℕ) (Told Same : Type 0) (tells tells_now holds holds_now may may_now : Contents → Type 0) (text : ℕ → List ℕ) (old new : List ℕ) where
  pub record Replaces (result : Result Unit Stop) : Type 0 where
    -- so many epochs changed, the register holds that now, and the line of it was written
    pub done : (c : Contents) → holds c → OnOk result (HasSwapped holds_now (replaced id known p l other c) (after_replace id known p l other c) (λ n. new ≡ old ++ text n))
    -- where the register tells what each call will do, it ends just so
    pub exact : (c : Contents) → tells c → EndsReplacing tells_now (replaced id known p l other c) c (after_replace id known p l other c) text old new result
    -- where the node may not take the other one's place, nothing is asked
    pub idle : can_replace id known p l other ≡ false → Same
    -- what the register may hold is what it might hold before, with the swap or without it
    pub done_or_not : Told → ChangedOrNot may may_now (after_replace id known p l other)
    -- what it held it holds so, unless it failed
    pub held : (c : Contents) → holds c → IsErrOf result stops.Register ⊎ holds_now c ⊎ holds_now (after_replace id known p l other c)
