-- Runs that were tampered with aren't safe.
use Rattle.std.proofs.Common.{◌≡◌, ◌<◌, ◌&&◌, ℕ, ◌-◌, inl, inr, refl, ap, Bool, true, false, nat_lt, List, [], ◌∷◌, Some, None, slice_get, length, ◌++◌, ◌∙◌, sym, ◌||◌, ◌==◌, arith, subst}
use Rattle.ld_table.specs.Words.{any_of}
use Rattle.ld_lsn.specs.Number.{numbered}
use Rattle.ld_schedule.specs.declared.event.Event.{Event}
use Rattle.ld_schedule.specs.declared.event.Event.TheVariants as events
use Rattle.ld_transcript.specs.declared.line.Line.{Line}
use Rattle.ld_transcript.specs.declared.line.Line.TheVariants as lines
use Rattle.ld_transcript.specs.declared.line.GapKind.{GapKind}
use Rattle.ld_transcript.specs.declared.line.GapKind.TheVariants as gaps
use Rattle.ld_machine.specs.Facts.{Happened, Writes, Acks, Appends, GivesRecord, GivesMessage, GivesGap, AsksToAppend, ReadsLog, Interval, opening, intervals}
use Rattle.ld_machine.specs.Safe.{Safe, TilesFrom}
use Rattle.ld_batch.specs.Batch.{packed, Unpacked, Messages, Bad, unpacked, listed}
use Rattle.ld_ids.specs.Choice.{choice_at}
use Rattle.ld_ids.specs.Set.{members_from}
use Rattle.ld_layout.specs.Layout.{switches, switched_to, with_record, passes_limit}
use Rattle.ld_machine.specs.Disk.{is_found, keep_op, keep_end, load}
use Rattle.ld_machine.specs.State.{finish}
use Rattle.ld_machine.specs.Step.{delivers, happens, message_lines_from}
use Rattle.ld_msg.specs.Digest.{statement, with_page, with_asks, with_lost, digest_lng, enough, is_spent, best, digest_trim, top_place, plan_floor, plan_end, plan}
use Rattle.ld_msg.specs.Network.{message}
use Rattle.ld_msg.specs.Reader.{on_answer}
use Rattle.ld_msg.specs.Reading.{is_loss, decide}
use Rattle.ld_msg.specs.Register.{change, activate, close, draw, look}
use Rattle.ld_msg.specs.Sequencer.{after_close, is_ready, is_ready_short, on_reply, on_retry, appending, activated}
use Rattle.ld_op.specs.Answers.{store_decision, on_store, digest_decision, on_digest_ask, on_clean, on_trim, on_release, read_answer}
use Rattle.ld_op.specs.Plain.{summary_at, apply, op_length}
use Rattle.ld_op.specs.Ticks.{missing, is_missing, on_page, on_tick}
use Rattle.ld_table.specs.Named.{same, find_named, put_named}
use Rattle.ld_table.specs.Table.{find, put, take_out, keep, keep_keys}
use Rattle.ld_machine.specs.Run.{steps_of, history_from}
use Rattle.ld_rows.specs.Schedules.{three_nodes, one_append, two_appends, one_batch, sequencer_a, reader_r}
use Rattle.ld_rows.proofs.Search.{clash, nowhere, everywhere, few, always_few, not_few}
use Rattle.ld_rows.specs.Tampered.{tampered_run, another_payload, a_hole, a_loss, a_trim, a_message, rewritten_run, without_gap, from_the_end, second_first, without_second}

-- ---- the step that gave the record, and the facts of the run ----

abbrev number : ℕ
number = numbered 1 1

abbrev run : (List ℕ → ℕ → Line) → List Happened
run f = tampered_run f three_nodes one_append

abbrev given : Line → Happened
given x = record { event = events.Deliver 16; lines = x ∷ []; made = None; swapped = None }

abbrev Known : (List ℕ → ℕ → Line) → Type 0
Known f = (slice_get (run f) 23 ≡ Some (given (f reader_r number))) × ReadsLog three_nodes (run f) 1 reader_r

known_payload : Known another_payload
unfolding switches switched_to with_record passes_limit choice_at members_from is_found keep_op keep_end load finish delivers happens statement with_page with_asks with_lost digest_lng enough is_spent best digest_trim top_place plan_floor plan_end plan message on_answer is_loss decide change activate close draw look after_close is_ready is_ready_short on_reply on_retry appending activated store_decision on_store digest_decision on_digest_ask on_clean on_trim on_release read_answer summary_at apply op_length missing is_missing on_page on_tick same find_named put_named find put take_out keep keep_keys steps_of history_from
known_payload = (refl, (record { log = 1; from = 1; until = number; messages = false }, refl, refl))

known_hole : Known a_hole
unfolding switches switched_to with_record passes_limit choice_at members_from is_found keep_op keep_end load finish delivers happens statement with_page with_asks with_lost digest_lng enough is_spent best digest_trim top_place plan_floor plan_end plan message on_answer is_loss decide change activate close draw look after_close is_ready is_ready_short on_reply on_retry appending activated store_decision on_store digest_decision on_digest_ask on_clean on_trim on_release read_answer summary_at apply op_length missing is_missing on_page on_tick same find_named put_named find put take_out keep keep_keys steps_of history_from
known_hole = (refl, (record { log = 1; from = 1; until = number; messages = false }, refl, refl))

known_trim : Known a_trim
unfolding switches switched_to with_record passes_limit choice_at members_from is_found keep_op keep_end load finish delivers happens statement with_page with_asks with_lost digest_lng enough is_spent best digest_trim top_place plan_floor plan_end plan message on_answer is_loss decide change activate close draw look after_close is_ready is_ready_short on_reply on_retry appending activated store_decision on_store digest_decision on_digest_ask on_clean on_trim on_release read_answer summary_at apply op_length missing is_missing on_page on_tick same find_named put_named find put take_out keep keep_keys steps_of history_from
known_trim = (refl, (record { log = 1; from = 1; until = number; messages = false }, refl, refl))

known_loss : Known a_loss
unfolding switches switched_to with_record passes_limit choice_at members_from is_found keep_op keep_end load finish delivers happens statement with_page with_asks with_lost digest_lng enough is_spent best digest_trim top_place plan_floor plan_end plan message on_answer is_loss decide change activate close draw look after_close is_ready is_ready_short on_reply on_retry appending activated store_decision on_store digest_decision on_digest_ask on_clean on_trim on_release read_answer summary_at apply op_length missing is_missing on_page on_tick same find_named put_named find put take_out keep keep_keys steps_of history_from
known_loss = (refl, (record { log = 1; from = 1; until = number; messages = false }, refl, refl))

gap_given : (f : List ℕ → ℕ → Line) (kind : GapKind) → f reader_r number ≡ lines.Gap reader_r kind number number → Known f → GivesGap three_nodes (run f) 1 kind number number 23
gap_given f kind is known = record { name = reader_r; told = (given (f reader_r number), known.0, 0, ap (λ x. Some x) is); of_log = known.1 }

-- ---- another payload ----

abbrev appends_zero : Event → Bool
appends_zero (events.Append name p) = same p (0 ∷ [])
appends_zero _ = false

no_zero : any_of (λ h. appends_zero h.event) (run another_payload) ≡ false
unfolding switches switched_to with_record passes_limit choice_at members_from is_found keep_op keep_end load finish delivers happens statement with_page with_asks with_lost digest_lng enough is_spent best digest_trim top_place plan_floor plan_end plan message on_answer is_loss decide change activate close draw look after_close is_ready is_ready_short on_reply on_retry appending activated store_decision on_store digest_decision on_digest_ask on_clean on_trim on_release read_answer summary_at apply op_length missing is_missing on_page on_tick same find_named put_named find put take_out keep keep_keys steps_of history_from
no_zero = refl

-- a batch has two bytes at least
no_batch : (ms : List (List ℕ)) → 0 ∷ [] ≡ packed ms → ⊥
unfolding packed
no_batch ms is = cc

zero_appended : (h : Happened) (name : List ℕ) → AsksToAppend name (0 ∷ []) h.event → appends_zero h.event ≡ true
unfolding same
zero_appended h name (inl is) = ap (λ e. appends_zero e) is
zero_appended h name (inr batch) = absurd (no_batch batch.0 batch.2)

pub payload_unsafe : Safe three_nodes (run another_payload) → ⊥
payload_unsafe s =
    let given_here : GivesRecord three_nodes (run another_payload) 1 number (0 ∷ []) 23 = record { name = reader_r; told = (given (another_payload reader_r number), known_payload.0, 0, refl); of_log = known_payload.1 } in
    let found = s.records 1 number 23 (0 ∷ []) given_here in
    let a : Appends (run another_payload) 1 number (0 ∷ []) found.0 = found.2 in
    clash (zero_appended a.here a.name a.asked) (nowhere (λ h. appends_zero h.event) (run another_payload) found.0 a.here no_zero a.at)

-- ---- a hole ----

acked_here : Acks (run a_hole) 1 number 8
unfolding switches switched_to with_record passes_limit choice_at members_from is_found keep_op keep_end load finish delivers happens statement with_page with_asks with_lost digest_lng enough is_spent best digest_trim top_place plan_floor plan_end plan message on_answer is_loss decide change activate close draw look after_close is_ready is_ready_short on_reply on_retry appending activated store_decision on_store digest_decision on_digest_ask on_clean on_trim on_release read_answer summary_at apply op_length missing is_missing on_page on_tick same find_named put_named find put take_out keep keep_keys steps_of history_from
acked_here = record { name = sequencer_a; told = (_, refl, 0, refl); of_log = refl }

pub hole_unsafe : Safe three_nodes (run a_hole) → ⊥
hole_unsafe s = (s.hidden 1 number number number 23 8 gaps.Hole (inl refl) (gap_given a_hole gaps.Hole refl known_hole) (omega arith) (omega arith)).0 acked_here

-- ---- a trim gap ----

abbrev is_trimmed : Line → Bool
is_trimmed (lines.Trimmed name t) = true
is_trimmed _ = false

none_trimmed : any_of (λ h. any_of is_trimmed h.lines) (run a_trim) ≡ false
unfolding switches switched_to with_record passes_limit choice_at members_from is_found keep_op keep_end load finish delivers happens statement with_page with_asks with_lost digest_lng enough is_spent best digest_trim top_place plan_floor plan_end plan message on_answer is_loss decide change activate close draw look after_close is_ready is_ready_short on_reply on_retry appending activated store_decision on_store digest_decision on_digest_ask on_clean on_trim on_release read_answer summary_at apply op_length missing is_missing on_page on_tick same find_named put_named find put take_out keep keep_keys steps_of history_from
none_trimmed = refl

pub trim_unsafe : Safe three_nodes (run a_trim) → ⊥
trim_unsafe s =
    let found = s.trims 1 number number 23 (gap_given a_trim gaps.Trim refl known_trim) in
    let w : Writes (run a_trim) found.0 (lines.Trimmed found.4.name found.1) = found.4.told in
    clash {b = true} refl (nowhere is_trimmed w.0.lines w.2 (lines.Trimmed found.4.name found.1) (nowhere (λ h. any_of is_trimmed h.lines) (run a_trim) found.0 w.0 none_trimmed w.1) w.3)

-- ---- a loss ----

few_lost : always_few three_nodes 24 (run a_loss) ≡ true
unfolding switches switched_to with_record passes_limit choice_at members_from is_found keep_op keep_end load finish delivers happens statement with_page with_asks with_lost digest_lng enough is_spent best digest_trim top_place plan_floor plan_end plan message on_answer is_loss decide change activate close draw look after_close is_ready is_ready_short on_reply on_retry appending activated store_decision on_store digest_decision on_digest_ask on_clean on_trim on_release read_answer summary_at apply op_length missing is_missing on_page on_tick same find_named put_named find put take_out keep keep_keys steps_of history_from
few_lost = refl

pub loss_unsafe : Safe three_nodes (run a_loss) → ⊥
unfolding members_from
loss_unsafe s =
    let found = s.losses 1 number number number 23 (gap_given a_loss gaps.DataLoss refl known_loss) (omega arith) (omega arith) in
    clash (everywhere (few three_nodes (run a_loss)) 0 24 found.0 few_lost (omega arith) (omega arith)) (not_few _ _ found.2.0 found.2.1 found.2.2)

-- ---- messages ----

-- the event appends a payload that holds this
abbrev appends_such : (Unpacked → Bool) → Event → Bool
appends_such q (events.Append name p) = q (unpacked p)
appends_such q (events.Batch name ms) = q (unpacked (packed ms))
appends_such q _ = false

such_asked : (q : Unpacked → Bool) (e : Event) (name p : List ℕ) → AsksToAppend name p e → appends_such q e ≡ q (unpacked p)
such_asked q e name p (inl is) = ap (λ x. appends_such q x) is
such_asked q e name p (inr batch) = ap (λ x. appends_such q x) batch.1 ∙ ap (λ x. q (unpacked x)) (sym batch.2)

none_such : (q : Unpacked → Bool) (hs : List Happened) (l n j : ℕ) (p : List ℕ) → any_of (λ h. appends_such q h.event) hs ≡ false → Appends hs l n p j → q (unpacked p) ≡ false
none_such q hs l n j p none a = sym (such_asked q a.here.event a.name p a.asked) ∙ nowhere (λ h. appends_such q h.event) hs j a.here none a.at

-- so many messages are fewer than two; none are read of what is no batch
abbrev is_batch : Unpacked → Bool
is_batch (Messages ms) = true
is_batch (Bad place) = false

abbrev is_short : Unpacked → Bool
is_short u = nat_lt (length (listed u)) 2

-- a message of no batch is given, though none was appended
message_known : (any_of (λ h. appends_such is_batch h.event) (run a_message) ≡ false) × GivesMessage three_nodes (run a_message) 1 number 0 (0 ∷ []) 23
unfolding switches switched_to with_record passes_limit choice_at members_from is_found keep_op keep_end load finish delivers happens statement with_page with_asks with_lost digest_lng enough is_spent best digest_trim top_place plan_floor plan_end plan message on_answer is_loss decide change activate close draw look after_close is_ready is_ready_short on_reply on_retry appending activated store_decision on_store digest_decision on_digest_ask on_clean on_trim on_release read_answer summary_at apply op_length missing is_missing on_page on_tick same find_named put_named find put take_out keep keep_keys steps_of history_from unpacked
message_known = (refl, record { name = reader_r; told = (_, refl, 0, refl); of_log = (record { log = 1; from = 1; until = number; messages = false }, refl, refl) })

pub message_unsafe : Safe three_nodes (run a_message) → ⊥
message_unsafe s =
    let found = s.batches 1 number 23 0 (0 ∷ []) message_known.1 in
    clash (ap is_batch found.4) (none_such is_batch (run a_message) 1 number found.0 found.1 message_known.0 found.5)

abbrev begins : ℕ → List Line → Bool
begins i (lines.BatchMessage name n index m ∷ ls) = index == i
begins i _ = false

-- a first message stands right in front of a second one
abbrev has_pair : List Line → Bool
has_pair [] = false
has_pair (x ∷ ls) = (begins 0 (x ∷ ls) && begins 1 ls) || has_pair ls

or_there : (a b : Bool) → b ≡ true → a || b ≡ true
or_there a b is = grind arith

pair_behind : (before : List Line) (ls : List Line) → has_pair ls ≡ true → has_pair (before ++ ls) ≡ true
pair_behind [] ls has = has
pair_behind (x ∷ before) ls has = or_there _ _ (pair_behind before ls has)

batch_pairs : (name : List ℕ) (n : ℕ) (before after : List Line) (ms : List (List ℕ)) → is_short (Messages ms) ≡ false → has_pair (before ++ (message_lines_from name n 0 ms ++ after)) ≡ true
batch_pairs name n before after [] long = absurd (clash refl long)
batch_pairs name n before after (m ∷ []) long = absurd (clash refl long)
batch_pairs name n before after (m ∷ (o ∷ ms)) long = pair_behind before (message_lines_from name n 0 (m ∷ (o ∷ ms)) ++ after) refl

abbrev batch_run : (Line → Line) → List Happened
batch_run g = rewritten_run g three_nodes one_batch

-- the step that gives messages, and none with a pair of them, though all that was appended has two
abbrev Unpaired : (Line → Line) → ℕ → Type 0
Unpaired g index =
    (any_of (λ h. appends_such is_short h.event) (batch_run g) ≡ false) × (any_of (λ h. has_pair h.lines) (batch_run g) ≡ false) × GivesMessage three_nodes (batch_run g) 1 number index (1 ∷ []) 23

unpaired_unsafe : (g : Line → Line) (index : ℕ) → Unpaired g index → Safe three_nodes (batch_run g) → ⊥
unpaired_unsafe g index known s =
    let found = s.batches 1 number 23 index (1 ∷ []) known.2 in
    let long : is_short (Messages found.2) ≡ false = ap is_short (sym found.4) ∙ none_such is_short (batch_run g) 1 number found.0 found.1 known.0 found.5 in
    clash (ap has_pair found.6.run ∙ batch_pairs known.2.name number found.6.before found.6.after found.2 long) (nowhere (λ h. has_pair h.lines) (batch_run g) 23 found.6.here known.1 found.6.at)

order_known : Unpaired second_first 1
unfolding switches switched_to with_record passes_limit choice_at members_from is_found keep_op keep_end load finish delivers happens statement with_page with_asks with_lost digest_lng enough is_spent best digest_trim top_place plan_floor plan_end plan message on_answer is_loss decide change activate close draw look after_close is_ready is_ready_short on_reply on_retry appending activated store_decision on_store digest_decision on_digest_ask on_clean on_trim on_release read_answer summary_at apply op_length missing is_missing on_page on_tick same find_named put_named find put take_out keep keep_keys steps_of history_from unpacked packed
order_known = (refl, refl, record { name = reader_r; told = (_, refl, 0, refl); of_log = (record { log = 1; from = 1; until = number; messages = true }, refl, refl) })

pub order_unsafe : Safe three_nodes (batch_run second_first) → ⊥
order_unsafe = unpaired_unsafe second_first 1 order_known

missing_known : Unpaired without_second 0
unfolding switches switched_to with_record passes_limit choice_at members_from is_found keep_op keep_end load finish delivers happens statement with_page with_asks with_lost digest_lng enough is_spent best digest_trim top_place plan_floor plan_end plan message on_answer is_loss decide change activate close draw look after_close is_ready is_ready_short on_reply on_retry appending activated store_decision on_store digest_decision on_digest_ask on_clean on_trim on_release read_answer summary_at apply op_length missing is_missing on_page on_tick same find_named put_named find put take_out keep keep_keys steps_of history_from unpacked packed
missing_known = (refl, refl, record { name = reader_r; told = (_, refl, 0, refl); of_log = (record { log = 1; from = 1; until = number; messages = true }, refl, refl) })

pub missing_unsafe : Safe three_nodes (batch_run without_second) → ⊥
missing_unsafe = unpaired_unsafe without_second 0 missing_known

-- ---- a space between what a reader got ----

abbrev spaced : List Happened
spaced = rewritten_run without_gap three_nodes one_append

opened_here : opening three_nodes reader_r spaced ≡ Some (record { log = 1; from = 1; until = number; messages = false })
unfolding switches switched_to with_record passes_limit choice_at members_from is_found keep_op keep_end load finish delivers happens statement with_page with_asks with_lost digest_lng enough is_spent best digest_trim top_place plan_floor plan_end plan message on_answer is_loss decide change activate close draw look after_close is_ready is_ready_short on_reply on_retry appending activated store_decision on_store digest_decision on_digest_ask on_clean on_trim on_release read_answer summary_at apply op_length missing is_missing on_page on_tick same find_named put_named find put take_out keep keep_keys steps_of history_from
opened_here = refl

got_here : intervals reader_r spaced ≡ record { low = number; high = number } ∷ []
unfolding switches switched_to with_record passes_limit choice_at members_from is_found keep_op keep_end load finish delivers happens statement with_page with_asks with_lost digest_lng enough is_spent best digest_trim top_place plan_floor plan_end plan message on_answer is_loss decide change activate close draw look after_close is_ready is_ready_short on_reply on_retry appending activated store_decision on_store digest_decision on_digest_ask on_clean on_trim on_release read_answer summary_at apply op_length missing is_missing on_page on_tick same find_named put_named find put take_out keep keep_keys steps_of history_from
got_here = refl

pub space_unsafe : Safe three_nodes spaced → ⊥
space_unsafe s =
    let tiled = subst (λ (is : List Interval). TilesFrom number 1 is) got_here (s.tiles reader_r (record { log = 1; from = 1; until = number; messages = false }) opened_here) in
    let first : number ≡ 1 = tiled.0 in
    omega (arith, first)

-- ---- numbers that fall ----

abbrev falling : List Happened
falling = rewritten_run from_the_end three_nodes two_appends

abbrev taken : ℕ → ℕ
taken esn = numbered 2 0 - numbered 1 esn

first_here : Writes falling 4 (lines.Appended sequencer_a (taken 1))
unfolding switches switched_to with_record passes_limit choice_at members_from is_found keep_op keep_end load finish delivers happens statement with_page with_asks with_lost digest_lng enough is_spent best digest_trim top_place plan_floor plan_end plan message on_answer is_loss decide change activate close draw look after_close is_ready is_ready_short on_reply on_retry appending activated store_decision on_store digest_decision on_digest_ask on_clean on_trim on_release read_answer summary_at apply op_length missing is_missing on_page on_tick same find_named put_named find put take_out keep keep_keys steps_of history_from
first_here = (_, refl, 0, refl)

second_here : Writes falling 5 (lines.Appended sequencer_a (taken 2))
unfolding switches switched_to with_record passes_limit choice_at members_from is_found keep_op keep_end load finish delivers happens statement with_page with_asks with_lost digest_lng enough is_spent best digest_trim top_place plan_floor plan_end plan message on_answer is_loss decide change activate close draw look after_close is_ready is_ready_short on_reply on_retry appending activated store_decision on_store digest_decision on_digest_ask on_clean on_trim on_release read_answer summary_at apply op_length missing is_missing on_page on_tick same find_named put_named find put take_out keep keep_keys steps_of history_from
second_here = (_, refl, 0, refl)

pub fall_unsafe : Safe three_nodes falling → ⊥
fall_unsafe s =
    let risen : taken 1 < taken 2 = s.rise sequencer_a (taken 1) (taken 2) 4 5 first_here second_here (omega arith) in
    omega (arith, risen)
