use Rattle.ld_rows.proofs.ByHand.{one_lost_unsafe, lost_afterwards_unsafe, early_hole_unsafe, bridge_over_unsafe, other_reader_unsafe, early_record_unsafe, early_trim_unsafe, other_log_unsafe, past_until_unsafe, two_lines_unsafe, message_of_record_unsafe, record_of_messages_unsafe}
use Rattle.ld_rows.proofs.sanity.a_false_item_is_not_safe.Goals as goal

pub returns-clause-one_lost : goal.returns-clause-one_lost
returns-clause-one_lost c = one_lost_unsafe

pub returns-clause-lost_afterwards : goal.returns-clause-lost_afterwards
returns-clause-lost_afterwards c = lost_afterwards_unsafe

pub returns-clause-early_hole : goal.returns-clause-early_hole
returns-clause-early_hole c = early_hole_unsafe

pub returns-clause-bridge_over : goal.returns-clause-bridge_over
returns-clause-bridge_over c = bridge_over_unsafe

pub returns-clause-other_reader : goal.returns-clause-other_reader
returns-clause-other_reader c = other_reader_unsafe

pub returns-clause-early_record : goal.returns-clause-early_record
returns-clause-early_record c = early_record_unsafe

pub returns-clause-early_trim : goal.returns-clause-early_trim
returns-clause-early_trim c = early_trim_unsafe

pub returns-clause-other_log : goal.returns-clause-other_log
returns-clause-other_log c = other_log_unsafe

pub returns-clause-past_until : goal.returns-clause-past_until
returns-clause-past_until c = past_until_unsafe

pub returns-clause-two_lines : goal.returns-clause-two_lines
returns-clause-two_lines c = two_lines_unsafe

pub returns-clause-message_of_record : goal.returns-clause-message_of_record
returns-clause-message_of_record c = message_of_record_unsafe

pub returns-clause-record_of_messages : goal.returns-clause-record_of_messages
returns-clause-record_of_messages c = record_of_messages_unsafe
