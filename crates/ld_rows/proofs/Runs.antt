-- The runs, by computation.
use Rattle.std.specs.Prelude.{◌≡◌, refl, codes, [], ◌∷◌, true, false}
use Rattle.ld_schedule.specs.declared.event.Picture.TheVariants as pictures
use Rattle.ld_machine.specs.Run.{transcript}
use Rattle.ld_ids.specs.Bytes.{hex_text}
use Rattle.ld_ids.specs.Choice.{choice_at}
use Rattle.ld_ids.specs.Set.{members_from}
use Rattle.ld_lsn.specs.Number.{pair_text}
use Rattle.ld_layout.specs.Layout.{switches, switched_to, with_record, passes_limit}
use Rattle.ld_machine.specs.Disk.{is_found, is_switched, keep_op, keep_end, load}
use Rattle.ld_machine.specs.Run.{step, lines_of, state_after}
use Rattle.ld_machine.specs.State.{finish}
use Rattle.ld_machine.specs.Step.{delivers, happens}
use Rattle.ld_maker.specs.Event.{event_of}
use Rattle.ld_maker.specs.Made.{made_from}
use Rattle.ld_msg.specs.Digest.{statement, with_page, with_asks, with_lost, digest_lng, enough, is_spent, best, digest_trim, top_place, plan_floor, plan_end, plan}
use Rattle.ld_msg.specs.Network.{message}
use Rattle.ld_msg.specs.Reader.{on_answer}
use Rattle.ld_msg.specs.Reading.{is_loss, decide}
use Rattle.ld_msg.specs.Register.{change, activate, close, draw, look}
use Rattle.ld_msg.specs.Sequencer.{after_close, is_ready, is_ready_short, on_reply, on_retry, appending, activated}
use Rattle.ld_op.specs.Answers.{store_decision, on_store, digest_decision, on_digest_ask, on_clean, on_trim, on_release, read_answer}
use Rattle.ld_op.specs.Plain.{summary_at, apply, op_length}
use Rattle.ld_op.specs.Ticks.{missing, is_missing, on_page, on_tick}
use Rattle.ld_table.specs.Named.{same, find_named, put_named}
use Rattle.ld_table.specs.Table.{find, put, take_out, keep, keep_keys}
use Rattle.ld_transcript.specs.Text.{kind_text, gap_text, actor_text, line_text}
use Rattle.hex.specs.Hex.{encode_with}
use Rattle.std.specs.Fmt.{digits}
use Rattle.ld_rows.specs.Schedules.{three_nodes, five_nodes, four_nodes, one_append, moved, half_stored, cut_off, trimmed, rebuilt, lost, hole_between, two_recoveries, register_fault, torn_rebuild, torn_rebuild_asked, torn_rebuild_heard, torn_later, torn_later_asked}
use Rattle.ld_rows.specs.Texts.{one_append_text, moved_text, half_stored_text, cut_off_text, trimmed_text, rebuilt_text, lost_text, hole_between_text, two_recoveries_text, register_fault_text, torn_rebuild_text}
use Rattle.ld_rows.specs.Told.{told_text, made_summary, has_loss, kept_by_call, lost_states, found_lost, asks_again, has_failed, switched_by}

pub one_append_is : transcript three_nodes one_append ≡ one_append_text
unfolding switches switched_to with_record passes_limit is_switched hex_text choice_at members_from pair_text is_found keep_op keep_end load step lines_of finish delivers happens statement with_page with_asks with_lost digest_lng enough is_spent best digest_trim top_place plan_floor plan_end plan message on_answer is_loss decide change activate close draw look after_close is_ready is_ready_short on_reply on_retry appending activated store_decision on_store digest_decision on_digest_ask on_clean on_trim on_release read_answer summary_at apply op_length missing is_missing on_page on_tick same find_named put_named find put take_out keep keep_keys kind_text gap_text actor_text line_text encode_with digits
one_append_is = refl

pub moved_is : transcript four_nodes moved ≡ moved_text
unfolding switches switched_to with_record passes_limit is_switched hex_text choice_at members_from pair_text is_found keep_op keep_end load step lines_of finish delivers happens statement with_page with_asks with_lost digest_lng enough is_spent best digest_trim top_place plan_floor plan_end plan message on_answer is_loss decide change activate close draw look after_close is_ready is_ready_short on_reply on_retry appending activated store_decision on_store digest_decision on_digest_ask on_clean on_trim on_release read_answer summary_at apply op_length missing is_missing on_page on_tick same find_named put_named find put take_out keep keep_keys kind_text gap_text actor_text line_text encode_with digits
moved_is = refl

pub half_stored_is : told_text three_nodes half_stored ≡ half_stored_text
unfolding switches switched_to with_record passes_limit is_switched hex_text choice_at members_from pair_text is_found keep_op keep_end load step lines_of finish delivers happens statement with_page with_asks with_lost digest_lng enough is_spent best digest_trim top_place plan_floor plan_end plan message on_answer is_loss decide change activate close draw look after_close is_ready is_ready_short on_reply on_retry appending activated store_decision on_store digest_decision on_digest_ask on_clean on_trim on_release read_answer summary_at apply op_length missing is_missing on_page on_tick same find_named put_named find put take_out keep keep_keys kind_text gap_text actor_text line_text encode_with digits
half_stored_is = refl

pub cut_off_is : told_text five_nodes cut_off ≡ cut_off_text
unfolding switches switched_to with_record passes_limit is_switched hex_text choice_at members_from pair_text is_found keep_op keep_end load step lines_of finish delivers happens statement with_page with_asks with_lost digest_lng enough is_spent best digest_trim top_place plan_floor plan_end plan message on_answer is_loss decide change activate close draw look after_close is_ready is_ready_short on_reply on_retry appending activated store_decision on_store digest_decision on_digest_ask on_clean on_trim on_release read_answer summary_at apply op_length missing is_missing on_page on_tick same find_named put_named find put take_out keep keep_keys kind_text gap_text actor_text line_text encode_with digits
cut_off_is = refl

pub trimmed_is : told_text three_nodes trimmed ≡ trimmed_text
unfolding switches switched_to with_record passes_limit is_switched hex_text choice_at members_from pair_text is_found keep_op keep_end load step lines_of finish delivers happens statement with_page with_asks with_lost digest_lng enough is_spent best digest_trim top_place plan_floor plan_end plan message on_answer is_loss decide change activate close draw look after_close is_ready is_ready_short on_reply on_retry appending activated store_decision on_store digest_decision on_digest_ask on_clean on_trim on_release read_answer summary_at apply op_length missing is_missing on_page on_tick same find_named put_named find put take_out keep keep_keys kind_text gap_text actor_text line_text encode_with digits
trimmed_is = refl

pub rebuilt_is : told_text three_nodes rebuilt ≡ rebuilt_text
unfolding switches switched_to with_record passes_limit is_switched hex_text choice_at members_from pair_text is_found keep_op keep_end load step lines_of finish delivers happens statement with_page with_asks with_lost digest_lng enough is_spent best digest_trim top_place plan_floor plan_end plan message on_answer is_loss decide change activate close draw look after_close is_ready is_ready_short on_reply on_retry appending activated store_decision on_store digest_decision on_digest_ask on_clean on_trim on_release read_answer summary_at apply op_length missing is_missing on_page on_tick same find_named put_named find put take_out keep keep_keys kind_text gap_text actor_text line_text encode_with digits
rebuilt_is = refl

pub lost_is : told_text three_nodes lost ≡ lost_text
unfolding switches switched_to with_record passes_limit is_switched hex_text choice_at members_from pair_text is_found keep_op keep_end load step lines_of finish delivers happens statement with_page with_asks with_lost digest_lng enough is_spent best digest_trim top_place plan_floor plan_end plan message on_answer is_loss decide change activate close draw look after_close is_ready is_ready_short on_reply on_retry appending activated store_decision on_store digest_decision on_digest_ask on_clean on_trim on_release read_answer summary_at apply op_length missing is_missing on_page on_tick same find_named put_named find put take_out keep keep_keys kind_text gap_text actor_text line_text encode_with digits
lost_is = refl

pub none_made : made_summary 1 0 ≡ codes "events 7 appended 0 acked 0 record 0 trim 0 hole 0 bridge 0 dataloss 0\n"
unfolding switches switched_to with_record passes_limit is_switched hex_text choice_at members_from pair_text is_found keep_op keep_end load event_of made_from step lines_of finish delivers happens statement with_page with_asks with_lost digest_lng enough is_spent best digest_trim top_place plan_floor plan_end plan message on_answer is_loss decide change activate close draw look after_close is_ready is_ready_short on_reply on_retry appending activated store_decision on_store digest_decision on_digest_ask on_clean on_trim on_release read_answer summary_at apply op_length missing is_missing on_page on_tick same find_named put_named find put take_out keep keep_keys kind_text gap_text actor_text line_text encode_with digits
none_made = refl

pub one_made : made_summary 1 1 ≡ codes "events 8 appended 0 acked 0 record 0 trim 0 hole 0 bridge 0 dataloss 0\n"
unfolding switches switched_to with_record passes_limit is_switched hex_text choice_at members_from pair_text is_found keep_op keep_end load event_of made_from step lines_of finish delivers happens statement with_page with_asks with_lost digest_lng enough is_spent best digest_trim top_place plan_floor plan_end plan message on_answer is_loss decide change activate close draw look after_close is_ready is_ready_short on_reply on_retry appending activated store_decision on_store digest_decision on_digest_ask on_clean on_trim on_release read_answer summary_at apply op_length missing is_missing on_page on_tick same find_named put_named find put take_out keep keep_keys kind_text gap_text actor_text line_text encode_with digits
one_made = refl

pub lost_told : has_loss three_nodes lost ≡ true
unfolding switches switched_to with_record passes_limit is_switched hex_text choice_at members_from pair_text is_found keep_op keep_end load step lines_of finish delivers happens statement with_page with_asks with_lost digest_lng enough is_spent best digest_trim top_place plan_floor plan_end plan message on_answer is_loss decide change activate close draw look after_close is_ready is_ready_short on_reply on_retry appending activated store_decision on_store digest_decision on_digest_ask on_clean on_trim on_release read_answer summary_at apply op_length missing is_missing on_page on_tick same find_named put_named find put take_out keep keep_keys kind_text gap_text actor_text line_text encode_with digits
lost_told = refl

pub none_told : has_loss three_nodes rebuilt ≡ false
unfolding switches switched_to with_record passes_limit is_switched hex_text choice_at members_from pair_text is_found keep_op keep_end load step lines_of finish delivers happens statement with_page with_asks with_lost digest_lng enough is_spent best digest_trim top_place plan_floor plan_end plan message on_answer is_loss decide change activate close draw look after_close is_ready is_ready_short on_reply on_retry appending activated store_decision on_store digest_decision on_digest_ask on_clean on_trim on_release read_answer summary_at apply op_length missing is_missing on_page on_tick same find_named put_named find put take_out keep keep_keys kind_text gap_text actor_text line_text encode_with digits
none_told = refl

pub hole_between_is : told_text five_nodes hole_between ≡ hole_between_text
unfolding switches switched_to with_record passes_limit is_switched hex_text choice_at members_from pair_text is_found keep_op keep_end load step lines_of finish delivers happens statement with_page with_asks with_lost digest_lng enough is_spent best digest_trim top_place plan_floor plan_end plan message on_answer is_loss decide change activate close draw look after_close is_ready is_ready_short on_reply on_retry appending activated store_decision on_store digest_decision on_digest_ask on_clean on_trim on_release read_answer summary_at apply op_length missing is_missing on_page on_tick same find_named put_named find put take_out keep keep_keys kind_text gap_text actor_text line_text encode_with digits
hole_between_is = refl

pub two_recoveries_is : told_text three_nodes two_recoveries ≡ two_recoveries_text
unfolding switches switched_to with_record passes_limit is_switched hex_text choice_at members_from pair_text is_found keep_op keep_end load step lines_of finish delivers happens statement with_page with_asks with_lost digest_lng enough is_spent best digest_trim top_place plan_floor plan_end plan message on_answer is_loss decide change activate close draw look after_close is_ready is_ready_short on_reply on_retry appending activated store_decision on_store digest_decision on_digest_ask on_clean on_trim on_release read_answer summary_at apply op_length missing is_missing on_page on_tick same find_named put_named find put take_out keep keep_keys kind_text gap_text actor_text line_text encode_with digits
two_recoveries_is = refl

pub register_fault_is : told_text three_nodes register_fault ≡ register_fault_text
unfolding switches switched_to with_record passes_limit is_switched hex_text choice_at members_from pair_text is_found keep_op keep_end load step lines_of finish delivers happens statement with_page with_asks with_lost digest_lng enough is_spent best digest_trim top_place plan_floor plan_end plan message on_answer is_loss decide change activate close draw look after_close is_ready is_ready_short on_reply on_retry appending activated store_decision on_store digest_decision on_digest_ask on_clean on_trim on_release read_answer summary_at apply op_length missing is_missing on_page on_tick same find_named put_named find put take_out keep keep_keys kind_text gap_text actor_text line_text encode_with digits
register_fault_is = refl

pub old_kept : kept_by_call pictures.Old ≡ false ∷ false ∷ false ∷ false ∷ []
unfolding switches switched_to with_record passes_limit is_switched hex_text choice_at members_from pair_text is_found keep_op keep_end load step lines_of finish delivers happens statement with_page with_asks with_lost digest_lng enough is_spent best digest_trim top_place plan_floor plan_end plan message on_answer is_loss decide change activate close draw look after_close is_ready is_ready_short on_reply on_retry appending activated store_decision on_store digest_decision on_digest_ask on_clean on_trim on_release read_answer summary_at apply op_length missing is_missing on_page on_tick same find_named put_named find put take_out keep keep_keys kind_text gap_text actor_text line_text encode_with digits state_after
old_kept = refl

pub new_kept : kept_by_call pictures.New ≡ false ∷ false ∷ true ∷ true ∷ []
unfolding switches switched_to with_record passes_limit is_switched hex_text choice_at members_from pair_text is_found keep_op keep_end load step lines_of finish delivers happens statement with_page with_asks with_lost digest_lng enough is_spent best digest_trim top_place plan_floor plan_end plan message on_answer is_loss decide change activate close draw look after_close is_ready is_ready_short on_reply on_retry appending activated store_decision on_store digest_decision on_digest_ask on_clean on_trim on_release read_answer summary_at apply op_length missing is_missing on_page on_tick same find_named put_named find put take_out keep keep_keys kind_text gap_text actor_text line_text encode_with digits state_after
new_kept = refl

pub digits_kept : kept_by_call (pictures.Byte 7) ≡ false ∷ false ∷ false ∷ false ∷ []
unfolding switches switched_to with_record passes_limit is_switched hex_text choice_at members_from pair_text is_found keep_op keep_end load step lines_of finish delivers happens statement with_page with_asks with_lost digest_lng enough is_spent best digest_trim top_place plan_floor plan_end plan message on_answer is_loss decide change activate close draw look after_close is_ready is_ready_short on_reply on_retry appending activated store_decision on_store digest_decision on_digest_ask on_clean on_trim on_release read_answer summary_at apply op_length missing is_missing on_page on_tick same find_named put_named find put take_out keep keep_keys kind_text gap_text actor_text line_text encode_with digits state_after
digits_kept = refl

pub torn_rebuild_is : told_text three_nodes torn_rebuild ≡ torn_rebuild_text
unfolding switches switched_to with_record passes_limit is_switched hex_text choice_at members_from pair_text is_found keep_op keep_end load step lines_of finish delivers happens statement with_page with_asks with_lost digest_lng enough is_spent best digest_trim top_place plan_floor plan_end plan message on_answer is_loss decide change activate close draw look after_close is_ready is_ready_short on_reply on_retry appending activated store_decision on_store digest_decision on_digest_ask on_clean on_trim on_release read_answer summary_at apply op_length missing is_missing on_page on_tick same find_named put_named find put take_out keep keep_keys kind_text gap_text actor_text line_text encode_with digits
torn_rebuild_is = refl

pub lost_at_1 : lost_states 1 1 torn_rebuild_asked ≡ true ∷ []
unfolding switches switched_to with_record passes_limit is_switched hex_text choice_at members_from pair_text is_found keep_op keep_end load step lines_of state_after finish delivers happens statement with_page with_asks with_lost digest_lng enough is_spent best digest_trim top_place plan_floor plan_end plan message on_answer is_loss decide change activate close draw look after_close is_ready is_ready_short on_reply on_retry appending activated store_decision on_store digest_decision on_digest_ask on_clean on_trim on_release read_answer summary_at apply op_length missing is_missing on_page on_tick same find_named put_named find put take_out keep keep_keys kind_text gap_text actor_text line_text encode_with digits
lost_at_1 = refl

pub lost_at_2 : lost_states 1 2 torn_rebuild_asked ≡ false ∷ []
unfolding switches switched_to with_record passes_limit is_switched hex_text choice_at members_from pair_text is_found keep_op keep_end load step lines_of state_after finish delivers happens statement with_page with_asks with_lost digest_lng enough is_spent best digest_trim top_place plan_floor plan_end plan message on_answer is_loss decide change activate close draw look after_close is_ready is_ready_short on_reply on_retry appending activated store_decision on_store digest_decision on_digest_ask on_clean on_trim on_release read_answer summary_at apply op_length missing is_missing on_page on_tick same find_named put_named find put take_out keep keep_keys kind_text gap_text actor_text line_text encode_with digits
lost_at_2 = refl

pub lost_at_3 : lost_states 1 3 torn_rebuild_asked ≡ true ∷ false ∷ []
unfolding switches switched_to with_record passes_limit is_switched hex_text choice_at members_from pair_text is_found keep_op keep_end load step lines_of state_after finish delivers happens statement with_page with_asks with_lost digest_lng enough is_spent best digest_trim top_place plan_floor plan_end plan message on_answer is_loss decide change activate close draw look after_close is_ready is_ready_short on_reply on_retry appending activated store_decision on_store digest_decision on_digest_ask on_clean on_trim on_release read_answer summary_at apply op_length missing is_missing on_page on_tick same find_named put_named find put take_out keep keep_keys kind_text gap_text actor_text line_text encode_with digits
lost_at_3 = refl

pub not_yet_asked : asks_again torn_rebuild_heard ≡ []
unfolding switches switched_to with_record passes_limit is_switched hex_text choice_at members_from pair_text is_found keep_op keep_end load step lines_of state_after finish delivers happens statement with_page with_asks with_lost digest_lng enough is_spent best digest_trim top_place plan_floor plan_end plan message on_answer is_loss decide change activate close draw look after_close is_ready is_ready_short on_reply on_retry appending activated store_decision on_store digest_decision on_digest_ask on_clean on_trim on_release read_answer summary_at apply op_length missing is_missing on_page on_tick same find_named put_named find put take_out keep keep_keys kind_text gap_text actor_text line_text encode_with digits
not_yet_asked = refl

pub asked_again : asks_again torn_rebuild_asked ≡ 2 ∷ []
unfolding switches switched_to with_record passes_limit is_switched hex_text choice_at members_from pair_text is_found keep_op keep_end load step lines_of state_after finish delivers happens statement with_page with_asks with_lost digest_lng enough is_spent best digest_trim top_place plan_floor plan_end plan message on_answer is_loss decide change activate close draw look after_close is_ready is_ready_short on_reply on_retry appending activated store_decision on_store digest_decision on_digest_ask on_clean on_trim on_release read_answer summary_at apply op_length missing is_missing on_page on_tick same find_named put_named find put take_out keep keep_keys kind_text gap_text actor_text line_text encode_with digits
asked_again = refl

pub later_told : has_loss three_nodes torn_later ≡ true
unfolding switches switched_to with_record passes_limit is_switched hex_text choice_at members_from pair_text is_found keep_op keep_end load step lines_of state_after finish delivers happens statement with_page with_asks with_lost digest_lng enough is_spent best digest_trim top_place plan_floor plan_end plan message on_answer is_loss decide change activate close draw look after_close is_ready is_ready_short on_reply on_retry appending activated store_decision on_store digest_decision on_digest_ask on_clean on_trim on_release read_answer summary_at apply op_length missing is_missing on_page on_tick same find_named put_named find put take_out keep keep_keys kind_text gap_text actor_text line_text encode_with digits
later_told = refl

pub later_asked : asks_again torn_later_asked ≡ 2 ∷ []
unfolding switches switched_to with_record passes_limit is_switched hex_text choice_at members_from pair_text is_found keep_op keep_end load step lines_of state_after finish delivers happens statement with_page with_asks with_lost digest_lng enough is_spent best digest_trim top_place plan_floor plan_end plan message on_answer is_loss decide change activate close draw look after_close is_ready is_ready_short on_reply on_retry appending activated store_decision on_store digest_decision on_digest_ask on_clean on_trim on_release read_answer summary_at apply op_length missing is_missing on_page on_tick same find_named put_named find put take_out keep keep_keys kind_text gap_text actor_text line_text encode_with digits
later_asked = refl

pub later_first : found_lost 1 1 torn_later_asked ≡ true
unfolding switches switched_to with_record passes_limit is_switched hex_text choice_at members_from pair_text is_found keep_op keep_end load step lines_of state_after finish delivers happens statement with_page with_asks with_lost digest_lng enough is_spent best digest_trim top_place plan_floor plan_end plan message on_answer is_loss decide change activate close draw look after_close is_ready is_ready_short on_reply on_retry appending activated store_decision on_store digest_decision on_digest_ask on_clean on_trim on_release read_answer summary_at apply op_length missing is_missing on_page on_tick same find_named put_named find put take_out keep keep_keys kind_text gap_text actor_text line_text encode_with digits
later_first = refl

pub later_third : found_lost 1 3 torn_later_asked ≡ false
unfolding switches switched_to with_record passes_limit is_switched hex_text choice_at members_from pair_text is_found keep_op keep_end load step lines_of state_after finish delivers happens statement with_page with_asks with_lost digest_lng enough is_spent best digest_trim top_place plan_floor plan_end plan message on_answer is_loss decide change activate close draw look after_close is_ready is_ready_short on_reply on_retry appending activated store_decision on_store digest_decision on_digest_ask on_clean on_trim on_release read_answer summary_at apply op_length missing is_missing on_page on_tick same find_named put_named find put take_out keep keep_keys kind_text gap_text actor_text line_text encode_with digits
later_third = refl

pub later_states : lost_states 1 3 torn_later_asked ≡ true ∷ false ∷ []
unfolding switches switched_to with_record passes_limit is_switched hex_text choice_at members_from pair_text is_found keep_op keep_end load step lines_of state_after finish delivers happens statement with_page with_asks with_lost digest_lng enough is_spent best digest_trim top_place plan_floor plan_end plan message on_answer is_loss decide change activate close draw look after_close is_ready is_ready_short on_reply on_retry appending activated store_decision on_store digest_decision on_digest_ask on_clean on_trim on_release read_answer summary_at apply op_length missing is_missing on_page on_tick same find_named put_named find put take_out keep keep_keys kind_text gap_text actor_text line_text encode_with digits
later_states = refl

pub tenth_fails : has_failed 10 ≡ true
unfolding switches switched_to with_record passes_limit is_switched hex_text choice_at members_from pair_text is_found keep_op keep_end load step lines_of finish delivers happens statement with_page with_asks with_lost digest_lng enough is_spent best digest_trim top_place plan_floor plan_end plan message on_answer is_loss decide change activate close draw look after_close is_ready is_ready_short on_reply on_retry appending activated store_decision on_store digest_decision on_digest_ask on_clean on_trim on_release read_answer summary_at apply op_length missing is_missing on_page on_tick same find_named put_named find put take_out keep keep_keys kind_text gap_text actor_text line_text encode_with digits state_after
tenth_fails = refl

pub eleventh_passes : has_failed 11 ≡ false
unfolding switches switched_to with_record passes_limit is_switched hex_text choice_at members_from pair_text is_found keep_op keep_end load step lines_of finish delivers happens statement with_page with_asks with_lost digest_lng enough is_spent best digest_trim top_place plan_floor plan_end plan message on_answer is_loss decide change activate close draw look after_close is_ready is_ready_short on_reply on_retry appending activated store_decision on_store digest_decision on_digest_ask on_clean on_trim on_release read_answer summary_at apply op_length missing is_missing on_page on_tick same find_named put_named find put take_out keep keep_keys kind_text gap_text actor_text line_text encode_with digits state_after
eleventh_passes = refl

pub not_switched : switched_by 6 pictures.Old ≡ (false, false)
unfolding switches switched_to with_record passes_limit is_switched hex_text choice_at members_from pair_text is_found keep_op keep_end load step lines_of finish delivers happens statement with_page with_asks with_lost digest_lng enough is_spent best digest_trim top_place plan_floor plan_end plan message on_answer is_loss decide change activate close draw look after_close is_ready is_ready_short on_reply on_retry appending activated store_decision on_store digest_decision on_digest_ask on_clean on_trim on_release read_answer summary_at apply op_length missing is_missing on_page on_tick same find_named put_named find put take_out keep keep_keys kind_text gap_text actor_text line_text encode_with digits state_after
not_switched = refl

pub switched_alone : switched_by 6 pictures.New ≡ (true, false)
unfolding switches switched_to with_record passes_limit is_switched hex_text choice_at members_from pair_text is_found keep_op keep_end load step lines_of finish delivers happens statement with_page with_asks with_lost digest_lng enough is_spent best digest_trim top_place plan_floor plan_end plan message on_answer is_loss decide change activate close draw look after_close is_ready is_ready_short on_reply on_retry appending activated store_decision on_store digest_decision on_digest_ask on_clean on_trim on_release read_answer summary_at apply op_length missing is_missing on_page on_tick same find_named put_named find put take_out keep keep_keys kind_text gap_text actor_text line_text encode_with digits state_after
switched_alone = refl

pub switched_unkept : switched_by 10 pictures.Old ≡ (true, false)
unfolding switches switched_to with_record passes_limit is_switched hex_text choice_at members_from pair_text is_found keep_op keep_end load step lines_of finish delivers happens statement with_page with_asks with_lost digest_lng enough is_spent best digest_trim top_place plan_floor plan_end plan message on_answer is_loss decide change activate close draw look after_close is_ready is_ready_short on_reply on_retry appending activated store_decision on_store digest_decision on_digest_ask on_clean on_trim on_release read_answer summary_at apply op_length missing is_missing on_page on_tick same find_named put_named find put take_out keep keep_keys kind_text gap_text actor_text line_text encode_with digits state_after
switched_unkept = refl

pub switched_kept : switched_by 10 pictures.New ≡ (true, true)
unfolding switches switched_to with_record passes_limit is_switched hex_text choice_at members_from pair_text is_found keep_op keep_end load step lines_of finish delivers happens statement with_page with_asks with_lost digest_lng enough is_spent best digest_trim top_place plan_floor plan_end plan message on_answer is_loss decide change activate close draw look after_close is_ready is_ready_short on_reply on_retry appending activated store_decision on_store digest_decision on_digest_ask on_clean on_trim on_release read_answer summary_at apply op_length missing is_missing on_page on_tick same find_named put_named find put take_out keep keep_keys kind_text gap_text actor_text line_text encode_with digits state_after
switched_kept = refl
