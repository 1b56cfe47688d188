use Rattle.std.proofs.Common.{◌≡◌, ◌<◌, ◌≤◌, ◌+◌, ◌∙◌, ℕ, List, length, get_or, ap, sym, take, ◌++◌, ◌∷◌, [], arith}
use Rattle.std.proofs.lemmas.List.{take_more}
use Rattle.ld_table.specs.Table.{put}
use Rattle.ld_msg.specs.declared.msg.Entry.{Entry}
use Rattle.ld_op.specs.Places.{filled, has_place}
use Rattle.ld_op.specs.Plain.{refill_entries, entry_length, entries_length}
use Rattle.ld_op.specs.Cells.{placed_entry, placed_entries}
use Rattle.ld_op.proofs.HavePlaces.{have_places_stay, refill-append}
use Rattle.ld_op.proofs.CellsMore.{placed_push, long_push, one_fits, has_at}
use Rattle.ld_op.proofs.entries.EntryMap.refill.Goals as goal

taken : (es : List Entry) (i : ℕ) (e : Entry) → i < length es → e ≡ get_or es i e → take (i + 1) es ≡ take i es ++ e ∷ []
taken es i e below is = take_more es i e below ∙ ap (λ f. take i es ++ f ∷ []) (sym is)

long : (es : List Entry) (i at here : ℕ) (e : Entry) → i < length es → e ≡ get_or es i e → here ≡ at + entries_length (take i es) → here + entry_length e ≤ at + entries_length es
long es i at here e below is place = omega (arith, one_fits es i e (taken es i e below is), place)

pub at-requires : goal.at-requires
at-requires c = omega (arith, long c.args.entries.now c.loop-entry.entry-index c.args.at c.loop-entry.at c.entry-item.result c.loop-entry-test.true c.entry-item.is c.loop-entry.invariant.at, c.requires.fits)

pub put-requires : goal.put-requires
put-requires c = ap (λ (e : Entry). has_place e.number c.loop-entry.self) c.at.ensures
    ∙ has_at c.args.entries.now c.loop-entry.entry-index c.entry-item.result c.loop-entry.self (taken c.args.entries.now c.loop-entry.entry-index c.entry-item.result c.loop-entry-test.true c.entry-item.is) c.loop-entry.invariant.places

pub entry_length-at-requires : goal.entry_length-at-requires
entry_length-at-requires c = omega (arith, long c.args.entries.now c.loop-entry.entry-index c.args.at c.loop-entry.at c.entry-item.result c.loop-entry-test.true c.entry-item.is c.loop-entry.invariant.at, c.requires.fits)

pub overflow_add-at : goal.overflow_add-at
overflow_add-at c = omega (arith, long c.args.entries.now c.loop-entry.entry-index c.args.at c.loop-entry.at c.entry-item.result c.loop-entry-test.true c.entry-item.is c.loop-entry.invariant.at, c.requires.fits, c.entry_length-at.ensures)

pub loop-entry-preserved : goal.loop-entry-preserved
loop-entry-preserved c =
    let es = c.args.entries.now in
    let i = c.loop-entry.entry-index in
    let e = c.entry-item.result in
    let more = taken es i e c.loop-entry-test.true c.entry-item.is in
    record {
      places = have_places_stay es c.loop-entry.self c.put.new.self (λ q h. c.put.ensures.places q ∙ h) c.loop-entry.invariant.places;
      value = c.put.ensures.value ∙ (ap (λ (f : Entry). put f.number f (filled c.loop-entry.self)) (c.at.ensures ∙ ap (λ k. placed_entry k e) c.loop-entry.invariant.at)
          ∙ (ap (put e.number (placed_entry (c.args.at + entries_length (take i es)) e)) c.loop-entry.invariant.value
          ∙ (sym (refill-append (placed_entries c.args.at (take i es)) (placed_entry (c.args.at + entries_length (take i es)) e) _)
          ∙ ap (λ m. refill_entries m (filled c.args.self.now)) (sym (placed_push c.args.at (take i es) e) ∙ ap (placed_entries c.args.at) (sym more)))));
      at = omega (arith, c.loop-entry.invariant.at, c.entry_length-at.ensures, long_push (take i es) e, ap entries_length more);
    }
