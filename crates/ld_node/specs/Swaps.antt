-- What a node that takes another one's place asks of the register, by what that holds.
use Rattle.std.specs.Prelude.{ℕ, Bool, ◌&&◌, not, ◌==◌, nat_lt, if◌then◌else◌, Ok, Err}
use Rattle.std.specs.declared.result.Result.{Result}
use Rattle.ld_table.specs.Words.{is_in}
use Rattle.ld_msg.specs.Register.{Register}
use Rattle.ld_op.specs.Plain.{Plain, log_of}
use Rattle.ld_register.specs.Calls.{swapped, after_swap}
use Rattle.ld_register.specs.declared.fault.RegisterFault.{RegisterFault}
use Rattle.ld_node.specs.declared.fault.NodeFault.{NodeFault}
use Rattle.ld_node.specs.Faults.{of_register}
use Rattle.ld_node.specs.Known.{Known}

-- the node of this number and the other one are two of the nodes, and it knows the log, was lost for it and is so no more
abbrev pub can_replace : ℕ → Known → Plain → ℕ → ℕ → Bool
can_replace id known p l other = (is_in l known.logs && (is_in other known.nodes && not (id == other))) && (not (log_of p l).lost && nat_lt 0 (log_of p l).lost_to)

-- in how many closed epochs up to the one that it was lost for it takes the other one's place
abbrev pub replaced : ℕ → Known → Plain → ℕ → ℕ → Register → Result ℕ RegisterFault
replaced id known p l other c = if can_replace id known p l other then swapped c l (log_of p l).lost_to other id else Ok 0

abbrev pub after_replace : ℕ → Known → Plain → ℕ → ℕ → Register → Register
after_replace id known p l other c = if can_replace id known p l other then after_swap c l (log_of p l).lost_to other id else c

-- an answer of the register, as the node gives it
abbrev pub passed_on : Result ℕ RegisterFault → Result ℕ NodeFault
passed_on (Ok count) = Ok count
passed_on (Err fault) = Err (of_register fault)

abbrev pub counted : ℕ → Result ℕ RegisterFault
counted count = Ok count

abbrev pub not_swapped : RegisterFault → Result ℕ RegisterFault
not_swapped fault = Err fault
