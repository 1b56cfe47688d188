-- A number that is called lost after a confirmation, and ends that aren't of one.
use Rattle.std.proofs.Common.{◌≡◌, ◌∙◌, ℕ, inl, inr, refl, ap, sym, Bool, true, false, ◌||◌, List, [], ◌∷◌, get_or, Option, Some, None, arith}
use Rattle.ld_lsn.specs.Number.{numbered}
use Rattle.ld_table.specs.Words.{any_of}
use Rattle.ld_transcript.specs.declared.line.Line.{Line}
use Rattle.ld_transcript.specs.declared.line.Line.TheVariants as lines
use Rattle.ld_transcript.specs.declared.line.GapKind.TheVariants as gaps
use Rattle.ld_ids.specs.Choice.{choice_at}
use Rattle.ld_ids.specs.Set.{members_from}
use Rattle.ld_layout.specs.Layout.{switches, switched_to, with_record, passes_limit}
use Rattle.ld_machine.specs.Disk.{is_found, keep_op, keep_end, load}
use Rattle.ld_machine.specs.State.{finish}
use Rattle.ld_machine.specs.Step.{delivers, happens}
use Rattle.ld_msg.specs.Digest.{statement, with_page, with_asks, with_lost, digest_lng, enough, is_spent, best, digest_trim, top_place, plan_floor, plan_end, plan}
use Rattle.ld_msg.specs.Network.{message}
use Rattle.ld_msg.specs.Reading.{is_loss, decide}
use Rattle.ld_msg.specs.Register.{change, activate, close, draw, look}
use Rattle.ld_msg.specs.Sequencer.{after_close, is_ready, is_ready_short, on_reply, on_retry, appending, activated}
use Rattle.ld_op.specs.Answers.{store_decision, on_store, digest_decision, on_digest_ask, on_clean, on_trim, on_release, read_answer}
use Rattle.ld_op.specs.Plain.{summary_at, apply, op_length}
use Rattle.ld_op.specs.Ticks.{missing, is_missing, on_page, on_tick}
use Rattle.ld_table.specs.Named.{same, find_named, put_named}
use Rattle.ld_table.specs.Table.{find, put, take_out, keep, keep_keys}
use Rattle.ld_msg.specs.Reader.{Reader, on_answer}
use Rattle.ld_maker.specs.Tally.{is_data_loss}
use Rattle.ld_machine.specs.World.{World, In, begin}
use Rattle.ld_machine.specs.Losses.{IsBefore, IsConfirming, EndsAsLoss}
use Rattle.ld_machine.specs.Run.{after_step, world_after, step_happened}
use Rattle.ld_rows.specs.Confirmed.{one, delivered, before_asks, asks, after_asks, gives}
use Rattle.ld_rows.specs.Schedules.{one_node, reader_r}
use Rattle.ld_rows.specs.Told.{again_in}
use Rattle.ld_rows.proofs.Search.{clash}

pub lost_ends : EndsAsLoss one_node reader_r 1 one 2 before_asks asks after_asks gives
unfolding switches switched_to with_record passes_limit choice_at members_from is_found keep_op keep_end load finish delivers happens statement with_page with_asks with_lost digest_lng enough is_spent best digest_trim top_place plan_floor plan_end plan message on_answer is_loss decide change activate close draw look after_close is_ready is_ready_short on_reply on_retry appending activated store_decision on_store digest_decision on_digest_ask on_clean on_trim on_release read_answer summary_at apply op_length missing is_missing on_page on_tick same find_named put_named find put take_out keep keep_keys world_after
lost_ends = record {
  not_yet = record { reader = _; there = refl; lower = omega arith };
  asked = record { reader = _; there = refl; next = refl; confirmation = _; lasts = refl; here = refl };
  still = record { reader = _; there = refl; next = refl; confirmation = _; lasts = refl; here = refl };
  of_log = refl;
  completes = record { index = 14; delivers = refl; answer = _; there = refl; for_reader = refl; complete = refl };
  told = inl refl;
}

-- ---- ends that aren't of a confirmation ----

-- a reader's round, its next number, its log, and the round in which it asks once more, if it does
abbrev shown : Option Reader → List ℕ
shown None = []
shown (Some d) = d.round ∷ d.next ∷ d.log ∷ again_in d.confirming

abbrev before : World
before = world_after one_node (begin one_node) before_asks

abbrev asking : World
asking = after_step one_node before asks

before_shows : shown (find_named reader_r before.state.readers) ≡ 1 ∷ one ∷ 1 ∷ []
unfolding switches switched_to with_record passes_limit choice_at members_from is_found keep_op keep_end load finish delivers happens statement with_page with_asks with_lost digest_lng enough is_spent best digest_trim top_place plan_floor plan_end plan message on_answer is_loss decide change activate close draw look after_close is_ready is_ready_short on_reply on_retry appending activated store_decision on_store digest_decision on_digest_ask on_clean on_trim on_release read_answer summary_at apply op_length missing is_missing on_page on_tick same find_named put_named find put take_out keep keep_keys world_after
before_shows = refl

asking_shows : shown (find_named reader_r asking.state.readers) ≡ 2 ∷ one ∷ 1 ∷ 2 ∷ []
unfolding switches switched_to with_record passes_limit choice_at members_from is_found keep_op keep_end load finish delivers happens statement with_page with_asks with_lost digest_lng enough is_spent best digest_trim top_place plan_floor plan_end plan message on_answer is_loss decide change activate close draw look after_close is_ready is_ready_short on_reply on_retry appending activated store_decision on_store digest_decision on_digest_ask on_clean on_trim on_release read_answer summary_at apply op_length missing is_missing on_page on_tick same find_named put_named find put take_out keep keep_keys world_after
asking_shows = refl

later_shows : shown (find_named reader_r (world_after one_node asking after_asks).state.readers) ≡ 2 ∷ one ∷ 1 ∷ 2 ∷ []
unfolding switches switched_to with_record passes_limit choice_at members_from is_found keep_op keep_end load finish delivers happens statement with_page with_asks with_lost digest_lng enough is_spent best digest_trim top_place plan_floor plan_end plan message on_answer is_loss decide change activate close draw look after_close is_ready is_ready_short on_reply on_retry appending activated store_decision on_store digest_decision on_digest_ask on_clean on_trim on_release read_answer summary_at apply op_length missing is_missing on_page on_tick same find_named put_named find put take_out keep keep_keys world_after
later_shows = refl

abbrev place : ℕ → List ℕ → ℕ
place k xs = get_or xs k 0

waits : (w : World) (round : ℕ) (k : IsBefore w reader_r round) → k.reader.round ≡ place 0 (shown (find_named reader_r w.state.readers))
waits w round k = sym (ap (λ o. place 0 (shown o)) k.there)

confirms : (w : World) (s round : ℕ) (k : IsConfirming w reader_r s round) → shown (find_named reader_r w.state.readers) ≡ k.reader.round ∷ s ∷ k.reader.log ∷ round ∷ []
confirms w s round k = ap shown k.there ∙ (ap (λ n. k.reader.round ∷ n ∷ k.reader.log ∷ again_in k.reader.confirming) k.next ∙ (ap (λ o. k.reader.round ∷ s ∷ k.reader.log ∷ again_in o) k.lasts ∙ ap (λ n. k.reader.round ∷ s ∷ k.reader.log ∷ n ∷ []) k.here))

pub same_round : EndsAsLoss one_node reader_r 1 one 1 before_asks asks after_asks gives → ⊥
same_round e = let lower = e.not_yet.lower in let here : e.not_yet.reader.round ≡ 1 = waits before 1 e.not_yet ∙ ap (place 0) before_shows in omega (arith, lower, here)

pub other_round : EndsAsLoss one_node reader_r 1 one 3 before_asks asks after_asks gives → ⊥
other_round e = let there : 3 ≡ 2 = sym (ap (place 3) (confirms asking one 3 e.asked)) ∙ ap (place 3) asking_shows in omega (arith, there)

pub other_number : EndsAsLoss one_node reader_r 1 (numbered 1 2) 2 before_asks asks after_asks gives → ⊥
other_number e = let there : numbered 1 2 ≡ one = sym (ap (place 1) (confirms asking (numbered 1 2) 2 e.asked)) ∙ ap (place 1) asking_shows in omega (arith, there)

pub other_log : EndsAsLoss one_node reader_r 2 one 2 before_asks asks after_asks gives → ⊥
other_log e = let there : e.still.reader.log ≡ 1 = sym (ap (place 2) (confirms (world_after one_node asking after_asks) one 2 e.still)) ∙ ap (place 2) later_shows in let log = e.of_log in omega (arith, there, log)

-- the answer before the last one calls nothing lost
nothing_told : any_of is_data_loss (step_happened one_node asking.state (delivered 13)).lines ≡ false
unfolding switches switched_to with_record passes_limit choice_at members_from is_found keep_op keep_end load finish delivers happens statement with_page with_asks with_lost digest_lng enough is_spent best digest_trim top_place plan_floor plan_end plan message on_answer is_loss decide change activate close draw look after_close is_ready is_ready_short on_reply on_retry appending activated store_decision on_store digest_decision on_digest_ask on_clean on_trim on_release read_answer summary_at apply op_length missing is_missing on_page on_tick same find_named put_named find put take_out keep keep_keys world_after
nothing_told = refl

any_there : (x : Line) (ls : List Line) → is_data_loss x ≡ true → In x ls → any_of is_data_loss ls ≡ true
any_there x (y ∷ ls) t (inl e) = ap (λ z. is_data_loss z || any_of is_data_loss ls) (sym e) ∙ ap (λ b. b || any_of is_data_loss ls) t
any_there x (y ∷ ls) t (inr i) = or_true (is_data_loss y) (any_of is_data_loss ls) (any_there x ls t i) where
  or_true : (a b : Bool) → b ≡ true → (a || b) ≡ true
  or_true true b h = refl
  or_true false b h = h
any_there x [] t i = absurd i

pub too_soon : EndsAsLoss one_node reader_r 1 one 2 before_asks asks [] (delivered 13) → ⊥
unfolding world_after
too_soon e = clash (any_there (lines.Gap reader_r gaps.DataLoss one one) _ refl e.told) nothing_told
