-- Runs that are told by hand, each of which breaks one rule, aren't safe.
use Rattle.std.proofs.Common.{◌≡◌, ◌≤◌, ℕ, inl, inr, refl, subst, Bool, true, false, not, List, [], ◌∷◌, Option, Some, arith}
use Rattle.ld_table.specs.Named.{same}
use Rattle.ld_table.specs.Table.{find}
use Rattle.ld_table.proofs.NameLaws.{same-true}
use Rattle.ld_lsn.specs.Number.{numbered}
use Rattle.ld_transcript.specs.declared.line.Line.{Line}
use Rattle.ld_transcript.specs.declared.line.Line.TheVariants as lines
use Rattle.ld_transcript.specs.declared.line.GapKind.TheVariants as gaps
use Rattle.ld_batch.specs.Batch.{unpacked}
use Rattle.ld_ids.specs.Set.{members_from}
use Rattle.ld_machine.specs.Facts.{OfLog, intervals, sequencer_log}
use Rattle.ld_machine.specs.Safe.{Safe, TilesFrom}
use Rattle.ld_rows.specs.Schedules.{three_nodes, sequencer_a, sequencer_b, reader_r, reader_q}
use Rattle.ld_rows.specs.ByHand.{two_logs, one, two, batch, one_lost, lost_afterwards, early_hole, bridge_over, other_reader, early_record, early_trim, other_log, past_until, two_lines, message_of_record, record_of_messages, one_number_twice, two_numbers, other_epoch, acked_for_nothing, released_for_nothing, released_past, released_by_nobody}
use Rattle.ld_rows.proofs.Search.{clash, everywhere, few, always_few, never, not_few, silent}

-- ---- losses ----

few_at_first : always_few three_nodes 9 one_lost ≡ true
unfolding same find members_from
few_at_first = refl

pub one_lost_unsafe : Safe three_nodes one_lost → ⊥
unfolding same find members_from
one_lost_unsafe s =
    let found = s.losses 1 one one one 8 (record { name = reader_r; told = (_, refl, 0, refl); of_log = (record { log = 1; from = one; until = one; messages = false }, refl, refl) }) (omega arith) (omega arith) in
    clash (everywhere (few three_nodes one_lost) 0 9 found.0 few_at_first (omega arith) (omega arith)) (not_few _ _ found.2.0 found.2.1 found.2.2)

few_by_then : always_few three_nodes 9 lost_afterwards ≡ true
unfolding same find members_from
few_by_then = refl

pub lost_afterwards_unsafe : Safe three_nodes lost_afterwards → ⊥
unfolding same find members_from
lost_afterwards_unsafe s =
    let found = s.losses 1 one one one 8 (record { name = reader_r; told = (_, refl, 0, refl); of_log = (record { log = 1; from = one; until = one; messages = false }, refl, refl) }) (omega arith) (omega arith) in
    clash (everywhere (few three_nodes lost_afterwards) 0 9 found.0 few_by_then (omega arith) (omega arith)) (not_few _ _ found.2.0 found.2.1 found.2.2)

-- ---- holes and bridges ----

pub early_hole_unsafe : Safe three_nodes early_hole → ⊥
unfolding same find members_from
early_hole_unsafe s =
    (s.hidden 1 one one one 6 7 gaps.Hole (inl refl) (record { name = reader_r; told = (_, refl, 0, refl); of_log = (record { log = 1; from = one; until = one; messages = false }, refl, refl) }) (omega arith) (omega arith)).0
    (record { name = sequencer_a; told = (_, refl, 0, refl); of_log = refl })

pub bridge_over_unsafe : Safe three_nodes bridge_over → ⊥
unfolding same find members_from
bridge_over_unsafe s =
    (s.hidden 1 one one one 7 5 gaps.Bridge (inr refl) (record { name = reader_r; told = (_, refl, 0, refl); of_log = (record { log = 1; from = one; until = one; messages = false }, refl, refl) }) (omega arith) (omega arith)).0
    (record { name = sequencer_a; told = (_, refl, 0, refl); of_log = refl })

pub other_reader_unsafe : Safe three_nodes other_reader → ⊥
unfolding same find members_from
other_reader_unsafe s =
    (s.hidden 1 one one one 8 7 gaps.Hole (inl refl) (record { name = reader_r; told = (_, refl, 0, refl); of_log = (record { log = 1; from = one; until = one; messages = false }, refl, refl) }) (omega arith) (omega arith)).1 (1 ∷ [])
    (record { name = reader_q; told = (_, refl, 0, refl); of_log = (record { log = 1; from = one; until = one; messages = false }, refl, refl) })

pub two_lines_unsafe : Safe three_nodes two_lines → ⊥
unfolding same find members_from
two_lines_unsafe s =
    (s.hidden 1 one one one 7 5 gaps.Hole (inl refl) (record { name = reader_r; told = (_, refl, 0, refl); of_log = (record { log = 1; from = one; until = one; messages = false }, refl, refl) }) (omega arith) (omega arith)).0
    (record { name = sequencer_a; told = (_, refl, 0, refl); of_log = refl })

-- ---- records, trim gaps and items ----

abbrev says_appended : Line → Bool
says_appended (lines.Appended name n) = true
says_appended _ = false

none_appended : silent says_appended 5 early_record ≡ true
none_appended = refl

pub early_record_unsafe : Safe three_nodes early_record → ⊥
unfolding same find members_from
early_record_unsafe s =
    let found = s.records 1 one 5 (1 ∷ []) (record { name = reader_r; told = (_, refl, 0, refl); of_log = (record { log = 1; from = one; until = one; messages = false }, refl, refl) }) in
    never says_appended 5 early_record none_appended found.0 found.1 (lines.Appended found.2.name one) found.2.told refl

abbrev says_trimmed : Line → Bool
says_trimmed (lines.Trimmed name t) = true
says_trimmed _ = false

none_trimmed : silent says_trimmed 7 early_trim ≡ true
none_trimmed = refl

pub early_trim_unsafe : Safe three_nodes early_trim → ⊥
unfolding same find members_from
early_trim_unsafe s =
    let found = s.trims 1 one one 7 (record { name = reader_r; told = (_, refl, 0, refl); of_log = (record { log = 1; from = one; until = one; messages = false }, refl, refl) }) in
    never says_trimmed 7 early_trim none_trimmed found.0 found.2 (lines.Trimmed found.4.name found.1) found.4.told refl

-- a sequencer other than the second one trims
abbrev trims_otherwise : Line → Bool
trims_otherwise (lines.Trimmed name t) = not (same name sequencer_b)
trims_otherwise _ = false

none_otherwise : silent trims_otherwise 7 other_log ≡ true
unfolding same
none_otherwise = refl

-- which is of log 2
not_of_log : (name : List ℕ) (b : Bool) → same name sequencer_b ≡ b → (not b ≡ true → ⊥) → OfLog other_log 1 name → ⊥
unfolding same
not_of_log name true q n o = let e : sequencer_log sequencer_b other_log ≡ Some 1 = subst (λ s. sequencer_log s other_log ≡ Some 1) (same-true name sequencer_b q) o in let z : ◌≡◌ {A = Option ℕ} (Some 2) (Some 1) = e in cc
not_of_log name false q n o = n refl

pub other_log_unsafe : Safe two_logs other_log → ⊥
unfolding same find members_from
other_log_unsafe s =
    let found = s.trims 1 one one 7 (record { name = reader_r; told = (_, refl, 0, refl); of_log = (record { log = 1; from = one; until = one; messages = false }, refl, refl) }) in
    not_of_log found.4.name (same found.4.name sequencer_b) refl (λ h. never trims_otherwise 7 other_log none_otherwise found.0 found.2 (lines.Trimmed found.4.name found.1) found.4.told h) found.4.of_log

pub past_until_unsafe : Safe three_nodes past_until → ⊥
unfolding same find members_from
past_until_unsafe s =
    let tiled : TilesFrom one one (intervals reader_r past_until) = s.tiles reader_r (record { log = 1; from = one; until = one; messages = false }) refl in
    let last : two ≤ one = tiled.3.2 in
    omega (arith, last)

pub message_of_record_unsafe : Safe three_nodes message_of_record → ⊥
unfolding same find members_from
message_of_record_unsafe s = (s.styles reader_r (record { log = 1; from = one; until = one; messages = false }) one 6 refl).1 refl 0 (7 ∷ []) (_, refl, 0, refl)

pub record_of_messages_unsafe : Safe three_nodes record_of_messages → ⊥
unfolding same find members_from unpacked
record_of_messages_unsafe s = (s.styles reader_r (record { log = 1; from = one; until = one; messages = true }) one 6 refl).0 refl batch ((7 ∷ []) ∷ []) (_, refl, 0, refl) refl

-- ---- numbers ----

pub one_number_twice_unsafe : Safe three_nodes one_number_twice → ⊥
unfolding same find members_from
one_number_twice_unsafe s =
    let same_step : 5 ≡ 6 = s.differ 1 one 5 6 (1 ∷ []) (2 ∷ []) (record { name = sequencer_a; here = _; at = refl; asked = inl refl; told = (_, refl, 0, refl); of_log = refl }) (record { name = sequencer_b; here = _; at = refl; asked = inl refl; told = (_, refl, 0, refl); of_log = refl }) in
    omega (arith, same_step)

pub two_numbers_unsafe : Safe three_nodes two_numbers → ⊥
two_numbers_unsafe s = let few_numbers : 2 ≤ 1 = s.one 4 _ refl in omega (arith, few_numbers)

pub other_epoch_unsafe : Safe three_nodes other_epoch → ⊥
unfolding same find members_from
other_epoch_unsafe s = let same_epoch : 1 ≡ 7 = (s.epochs sequencer_a (numbered 7 1) 4 (_, refl, 0, refl)).1 1 3 (_, refl, 0, refl) in omega (arith, same_epoch)

none_before : silent says_appended 4 acked_for_nothing ≡ true
none_before = refl

pub acked_for_nothing_unsafe : Safe three_nodes acked_for_nothing → ⊥
acked_for_nothing_unsafe s =
    let found = s.acked sequencer_a one 4 (_, refl, 0, refl) in
    never says_appended 4 acked_for_nothing none_before found.0 found.1 (lines.Appended sequencer_a one) found.2 refl

abbrev says_acked : Line → Bool
says_acked (lines.Acked name n) = true
says_acked _ = false

none_acked : silent says_acked 5 released_for_nothing ≡ true
none_acked = refl

pub released_for_nothing_unsafe : Safe three_nodes released_for_nothing → ⊥
released_for_nothing_unsafe s =
    let found = ((s.released sequencer_a one 4 (_, refl, 0, refl)).1 1 3 (_, refl, 0, refl)).1 one (omega arith) (omega arith) in
    never says_acked 5 released_for_nothing none_acked found.0 (omega (arith, found.1)) (lines.Acked sequencer_a one) found.2 refl

pub released_past_unsafe : Safe three_nodes released_past → ⊥
released_past_unsafe s = let up : 7 ≤ 1 = ((s.released sequencer_a (numbered 7 0) 4 (_, refl, 0, refl)).1 1 3 (_, refl, 0, refl)).0 in omega (arith, up)

-- another sequencer is active
abbrev says_other : Line → Bool
says_other (lines.Active name epoch) = same name sequencer_b
says_other _ = false

none_active : silent says_other 4 released_by_nobody ≡ true
unfolding same
none_active = refl

pub released_by_nobody_unsafe : Safe three_nodes released_by_nobody → ⊥
unfolding same
released_by_nobody_unsafe s =
    let found = (s.released sequencer_b (numbered 1 0) 4 (_, refl, 0, refl)).0 in
    never says_other 4 released_by_nobody none_active found.1 found.2 (lines.Active sequencer_b found.0) found.3 refl
