-- The register of epochs, closes and generations.
use Rattle.std.specs.Prelude.{ℕ, ◌+◌, ◌-◌, ◌^◌, min, List, [], ◌∷◌, length, Option, Some, None, Bool, true, false, ◌||◌, ◌&&◌, not, ◌==◌, nat_lt, nat_le, if◌then◌else◌}
use Rattle.std.specs.Option.{unwrap_or}
use Rattle.ld_table.specs.Table.{find, put}
use Rattle.ld_table.specs.Words.{how_many}
use Rattle.ld_ids.specs.Set.{has_node, with_node, without_node}
use Rattle.ld_ids.specs.declared.set.Spec.{Spec}
use Rattle.ld_msg.specs.declared.msg.Summary.{Summary}

-- one log's: the greatest epoch handed out, the last closed one, the nodes, factor and extras that were fixed for each epoch handed out, the same as swaps left them, how many swaps there were, and the summaries of the closed ones
pub record Epochs : Type 0 where
  pub epoch : ℕ
  pub lce : ℕ
  pub specs : List (ℕ × Spec)
  pub swapped : List (ℕ × Spec)
  pub swaps : ℕ
  pub summaries : List (ℕ × Summary)

-- the change of this count from now fails, made or not
pub record Armed : Type 0 where
  pub left : ℕ
  pub done : Bool

pub record Register : Type 0 where
  pub logs : List (ℕ × Epochs)
  pub generations : List (ℕ × ℕ)
  pub length : ℕ
  pub armed : Option Armed

abbrev pub empty_register : Register
empty_register = record { logs = []; generations = []; length = 1; armed = None }

abbrev pub no_epochs : Epochs
no_epochs = record { epoch = 0; lce = 0; specs = []; swapped = []; swaps = 0; summaries = [] }

abbrev pub epochs_of : Register → ℕ → Epochs
epochs_of r l = unwrap_or (find l r.logs) no_epochs

abbrev pub generation_of : Register → ℕ → ℕ
generation_of r n = unwrap_or (find n r.generations) 0

abbrev pub lce_of : Register → ℕ → ℕ
lce_of r l = (epochs_of r l).lce

-- ---- a change ----

-- a record of a journal takes five bytes beside its body
abbrev pub record_length : ℕ → ℕ
record_length body = 5 + body

abbrev pub journal_limit : ℕ
journal_limit = 2 ^ 40

-- the greatest epoch and the greatest generation
abbrev pub epoch_limit : ℕ
epoch_limit = 2 ^ 32 - 2

abbrev pub generation_limit : ℕ
generation_limit = 2 ^ 32 - 1

-- how a call ends
pub data Answer : Type 0 where
  Granted : Answer
  AtLimit : Answer
  Behind : (lce : ℕ) → Answer
  Overtaken : (epoch : ℕ) → Answer
  Fails : Answer

pub record Changed : Type 0 where
  pub register : Register
  pub answer : Answer

abbrev pub falls : Option Armed → Bool
falls None = false
falls (Some a) = nat_le a.left 1

abbrev pub armed_after : Option Armed → Option Armed
armed_after None = None
armed_after (Some a) = if nat_le a.left 1 then None else Some (record { left = a.left - 1; done = a.done })

-- whether the change is made
abbrev pub is_made : Option Armed → Bool
is_made None = true
is_made (Some a) = not (nat_le a.left 1) || a.done

-- a change of so many bytes: it may be refused by the journal's limit, and else is made unless an armed fault prevents it
abbrev pub made : Register → Register → ℕ → Register
made r next body = record next { length = if is_made r.armed then r.length + record_length body else r.length; armed = armed_after r.armed }

abbrev pub unmade : Register → Register
unmade r = record r { armed = armed_after r.armed }

unfoldable pub change : Register → Register → ℕ → Changed
change r next body = record {
  register = if nat_lt journal_limit (r.length + record_length body) then r else if is_made r.armed then made r next body else unmade r;
  answer = if nat_lt journal_limit (r.length + record_length body) || falls r.armed then Fails else Granted;
}

abbrev pub with_epochs : Register → ℕ → Epochs → Register
with_epochs r l e = record r { logs = put l e r.logs }

-- the next epoch of a log, and what is fixed for it
abbrev pub next_epoch : Epochs → Spec → Epochs
next_epoch e s = record e { epoch = e.epoch + 1; specs = put (e.epoch + 1) s e.specs; swapped = put (e.epoch + 1) s e.swapped }

unfoldable pub activate : Register → ℕ → Spec → Changed
activate r l s =
    if nat_le epoch_limit (epochs_of r l).epoch then record { register = r; answer = AtLimit }
    else change r (with_epochs r l (next_epoch (epochs_of r l) s)) 13

-- an epoch is closed with a summary, where the one before it is the last closed one
abbrev pub closed_epochs : Epochs → ℕ → Summary → Epochs
closed_epochs e epoch y = record e { lce = epoch; summaries = put epoch y e.summaries }

-- a short close counts only as long as no greater epoch was handed out than its sequencer's
abbrev pub is_overtaken : Epochs → Summary → Bool → Bool
is_overtaken e y short = short && not (e.epoch == y.ballot)

unfoldable pub close : Register → ℕ → ℕ → Summary → Bool → Changed
close r l epoch y short =
    if not (lce_of r l + 1 == epoch) then record { register = r; answer = Behind (lce_of r l) }
    else if is_overtaken (epochs_of r l) y short then record { register = r; answer = Overtaken (epochs_of r l).epoch }
    else change r (with_epochs r l (closed_epochs (epochs_of r l) epoch y)) 30

-- ---- swaps ----

abbrev pub swap_limit : ℕ
swap_limit = 2 ^ 32 - 1

-- a set that has the old node, and has a flag for the new one but lacks it
abbrev pub swaps_in : ℕ → ℕ → List Bool → Bool
swaps_in old new set = has_node old set && ((nat_lt 0 new && nat_le new (length set)) && not (has_node new set))

abbrev pub swapped_set : ℕ → ℕ → List Bool → List Bool
swapped_set old new set = if swaps_in old new set then with_node new (without_node old set) else set

abbrev pub swapped_spec : ℕ → ℕ → Spec → Spec
swapped_spec old new s = record s { set = swapped_set old new s.set }

-- in each closed epoch up to one
abbrev pub swapped_specs : ℕ → ℕ → ℕ → List (ℕ × Spec) → List (ℕ × Spec)
swapped_specs upto old new [] = []
swapped_specs upto old new (e ∷ es) = (e.0, if nat_le e.0 upto then swapped_spec old new e.1 else e.1) ∷ swapped_specs upto old new es

abbrev pub swap_count : ℕ → ℕ → ℕ → List (ℕ × Spec) → ℕ
swap_count upto old new m = how_many (λ e. nat_le e.0 upto && swaps_in old new e.1.set) m

-- of a log's epochs those up to one that are closed
abbrev pub closed_upto : Epochs → ℕ → ℕ
closed_upto e upto = min upto e.lce

abbrev pub swapped_epochs : Epochs → ℕ → ℕ → ℕ → Epochs
swapped_epochs e upto old new = record e { swapped = swapped_specs (closed_upto e upto) old new e.swapped; swaps = e.swaps + 1 }

-- in how many epochs a swap would put the new node in the place of the old one
abbrev pub swappable : Register → ℕ → ℕ → ℕ → ℕ → ℕ
swappable r l upto old new = swap_count (closed_upto (epochs_of r l) upto) old new (epochs_of r l).swapped

-- the new node takes the place of the old one in each closed epoch up to one that has the old one and lacks the new one; where there is none nothing is asked of the register
unfoldable pub swap : Register → ℕ → ℕ → ℕ → ℕ → Changed
swap r l upto old new =
    if swappable r l upto old new == 0 then record { register = r; answer = Granted }
    else if nat_le swap_limit (epochs_of r l).swaps then record { register = r; answer = AtLimit }
    else change r (with_epochs r l (swapped_epochs (epochs_of r l) upto old new)) 11

-- the next generation of a node
unfoldable pub draw : Register → ℕ → Changed
draw r n =
    if nat_le generation_limit (generation_of r n) then record { register = r; answer = AtLimit }
    else change r (record r { generations = put n (generation_of r n + 1) r.generations }) 6

-- the epoch of each log, which a draw tells
abbrev pub epochs_in : List (ℕ × Epochs) → List (ℕ × ℕ)
epochs_in [] = []
epochs_in (e ∷ es) = if e.1.epoch == 0 then epochs_in es else (e.0, e.1.epoch) ∷ epochs_in es

-- a register holds at most so many logs
abbrev pub log_limit : ℕ
log_limit = 64

-- so many other logs are held that there is no room for this one
abbrev pub is_crowded : Register → ℕ → Bool
is_crowded r l = nat_le log_limit (how_many (λ k. not (k.0 == l)) r.logs)

-- the summary that a look at an epoch shows: of a closed one alone
abbrev pub summary_shown : Register → ℕ → ℕ → Option Summary
summary_shown r l e = if nat_le 1 e && nat_le e (lce_of r l) then find e (epochs_of r l).summaries else None

-- ---- a look ----

-- what a look at an epoch shows: the epoch, the greatest one handed out, the last closed one, the count of swaps, the summary of this one where it is closed, and its nodes, factor and extras as swaps left them
pub record View : Type 0 where
  pub at : ℕ
  pub epoch : ℕ
  pub lce : ℕ
  pub swaps : ℕ
  pub summary : Option Summary
  pub spec : Spec

-- for epoch 0 and for one that isn't handed out the greatest one's is shown
abbrev pub epoch_shown : Epochs → ℕ → ℕ
epoch_shown g e = if (e == 0) || nat_lt g.epoch e then g.epoch else e

-- where none was fixed, the first one counts
abbrev pub fixed_shown : Epochs → Spec → ℕ → Spec
fixed_shown g start e = unwrap_or (find (epoch_shown g e) g.specs) start

-- as swaps left it
abbrev pub spec_shown : Epochs → Spec → ℕ → Spec
spec_shown g start e = unwrap_or (find (epoch_shown g e) g.swapped) start

unfoldable pub look : Spec → Register → ℕ → ℕ → View
look start r l e = record { at = e; epoch = (epochs_of r l).epoch; lce = lce_of r l; swaps = (epochs_of r l).swaps; summary = summary_shown r l e; spec = spec_shown (epochs_of r l) start e }
