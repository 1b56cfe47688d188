-- The text of what a register shows of a log. Where the first argument says so each line is a JSON object.
use Rattle.std.specs.Prelude.{ℕ, ◌+◌, ◌-◌, List, ◌++◌, codes, decimal, Option, Some, None, Bool, true, false, if◌then◌else◌}
use Rattle.std.specs.List.{flat_map, range_with_len}
use Rattle.ld_lsn.specs.Number.{numbered, lsn_text}
use Rattle.ld_ids.specs.Set.{members, numbers_text}
use Rattle.ld_ids.specs.declared.set.Spec.{Spec}
use Rattle.ld_msg.specs.declared.msg.Summary.{Summary}
use Rattle.ld_msg.specs.Register.{Register, epochs_of}
use Rattle.ld_register.specs.declared.register.View.{View}
use Rattle.ld_register.specs.Calls.{looked}
use Rattle.ld_operate.specs.Members.{first_member, member, lsn_member, numbers_member, plain_member}

-- a word and a number
abbrev pub labelled : List ℕ → ℕ → List ℕ
labelled word number = word ++ decimal number

-- a word and a log sequence number
abbrev pub labelled_lsn : List ℕ → ℕ → List ℕ
labelled_lsn word lsn = word ++ lsn_text lsn

-- its epoch, its last closed one, and how many swaps there were
unfoldable pub log_line : Bool → ℕ → View → List ℕ
log_line false log v = labelled (codes "log ") log ++ labelled (codes " epoch ") v.epoch ++ labelled (codes " closed ") v.lce ++ labelled (codes " swaps ") v.swaps ++ codes "\n"
log_line true log v = first_member (codes "log") log ++ member (codes "epoch") v.epoch ++ member (codes "closed") v.lce ++ member (codes "swaps") v.swaps ++ codes "}\n"

-- the nodes, factor and extras of an epoch, where they are fixed
unfoldable pub set_text : Bool → Option Spec → List ℕ
set_text false None = codes " set none"
set_text true None = plain_member (codes "set") (codes "null")
set_text false (Some s) = codes " set " ++ numbers_text (members s.set) ++ labelled (codes " r ") s.r ++ labelled (codes " extras ") s.extras
set_text true (Some s) = numbers_member (codes "set") (members s.set) ++ member (codes "r") s.r ++ member (codes "extras") s.extras

abbrev pub yes_or_no : Bool → List ℕ
yes_or_no is = if is then codes "yes" else codes "no"

abbrev pub true_or_false : Bool → List ℕ
true_or_false is = if is then codes "true" else codes "false"

-- the end of an epoch, the sequencer that closed it, the last known good offset, the trim point then, and whether records of it may be lost
unfoldable pub close_text : Bool → ℕ → Option Summary → List ℕ
close_text false epoch None = codes " open"
close_text true epoch None = plain_member (codes "closed") (codes "null")
close_text false epoch (Some y) = labelled_lsn (codes " closed ") (numbered epoch y.end) ++ labelled (codes " by ") y.ballot ++ labelled (codes " good ") y.lng
    ++ labelled_lsn (codes " trim ") y.trim ++ codes " loss " ++ yes_or_no y.loss
close_text true epoch (Some y) = lsn_member (codes "closed") (numbered epoch y.end) ++ member (codes "by") y.ballot ++ member (codes "good") y.lng
    ++ lsn_member (codes "trim") y.trim ++ plain_member (codes "loss") (true_or_false y.loss)

unfoldable pub epoch_line : Bool → ℕ → View → List ℕ
epoch_line false epoch v = labelled (codes "epoch ") epoch ++ set_text false v.spec ++ close_text false epoch v.summary ++ codes "\n"
epoch_line true epoch v = first_member (codes "epoch") epoch ++ set_text true v.spec ++ close_text true epoch v.summary ++ codes "}\n"

-- a line for each of so many epochs from one on
abbrev pub epoch_lines : Bool → Register → ℕ → ℕ → ℕ → List ℕ
epoch_lines json c log from count = flat_map (λ epoch. epoch_line json epoch (looked c log epoch)) (range_with_len from count)

-- a line for the log, and one for each of its epochs from one on
abbrev pub register_text : Bool → Register → ℕ → ℕ → List ℕ
register_text json c log from = log_line json log (looked c log 0) ++ epoch_lines json c log from ((epochs_of c log).epoch + 1 - from)
