-- The bytes of a record are read as that record.
use Rattle.std.proofs.Common.{◌≡◌, ◌<◌, ◌≤◌, ◌+◌, ◌-◌, ◌^◌, ◌==◌, ℕ, true, false, cond, List, [], ◌∷◌, ◌++◌, refl, ap, sym, ◌∙◌, subst, append_assoc, length, nat_le, arith}
use Rattle.std.proofs.lemmas.Bool.Decides.{nat_tests}
use Rattle.byteorder.specs.Endian.{big_bytes}
use Rattle.ld_ids.specs.Id.{IsLog}
use Rattle.ld_msg.specs.declared.msg.Entry.{Entry}
use Rattle.ld_msg.specs.declared.msg.Summary.{Summary}
use Rattle.ld_msg.specs.Bounds.{Is32, AreEntries, RiseWithin}
use Rattle.ld_fields.specs.declared.beside.Beside.TheVariants as besides
use Rattle.ld_fields.specs.Fields.{Got, Off, follow, check, field, end_at}
use Rattle.ld_fields.specs.Items.{read_entry, read_entries, read_older_summary, read_summary, read_log}
use Rattle.ld_fields.proofs.Spelling.{Stands, stands_as, nothing, at_end, Reads, field_reads, follow_reads, check_reads, got_reads, reads_as, number_fits, lng_passes, kept_stands, entry_reads, all_stand, entries_reads, unlost, older_reads, summary_reads, log_reads}
use Rattle.ld_op.specs.declared.op.Op.{Op}
use Rattle.ld_op.specs.declared.op.Op.TheVariants as ops
use Rattle.ld_op.specs.declared.record.Record.{Record}
use Rattle.ld_op.specs.declared.record.Record.TheVariants.{Now, Before, Mark}
use Rattle.ld_op.specs.Bounds.{IsOp, IsOlder, IsRecord, AreEpochs, RiseFrom}
use Rattle.ld_op.specs.Bytes.{epochs_bytes, format_bytes, op_bytes, older_bytes, record_bytes, read_version, read_epoch, read_epochs, read_format, read_accept, read_seal, read_clean, read_refill, read_fields, read_op, recorded, read_body, is_kind, judge}

-- entries that rise from a number on rise within all numbers
rise_within : (from : ℕ) (es : List Entry) → AreEntries es → RiseFrom from es → RiseWithin from (2 ^ 64 - 1) es
rise_within from [] a r = tt
rise_within from (e ∷ es) a r = (r.0, (let m = number_fits e.number a.0.epoch in omega arith), rise_within (e.number + 1) es a.1 r.1)

-- ---- epochs ----

epoch_reads : (bs : List ℕ) (least at : ℕ) (d : ℕ × ℕ) (ys : List ℕ) → least ≤ d.0 → IsLog d.0 → 1 ≤ d.1 → Is32 d.1 → Stands bs at (big_bytes 4 d.0 ++ (big_bytes 4 d.1 ++ ys)) → Reads bs (read_epoch bs least at) d ys
unfolding read_epoch
epoch_reads bs least at d ys l i o f s = follow_reads bs (field 4 bs at) _ d.0 d _ ys (field_reads 3 d.0 bs at _ (let b = i.1 in omega arith) s) (λ at_epoch t.
    check_reads bs _ at _ d ys (let b = i.1 in grind (arith, nat_tests))
    (follow_reads bs (field 4 bs at_epoch) _ d.1 d _ ys (field_reads 3 d.1 bs at_epoch _ (omega arith) t) (λ next u.
    check_reads bs _ at_epoch _ d ys (grind (arith, nat_tests)) (got_reads bs d next ys u))))

pub epochs_reads : (bs : List ℕ) (ds : List (ℕ × ℕ)) (least at : ℕ) (ys : List ℕ) → AreEpochs least ds → Stands bs at (epochs_bytes ds ++ ys) → Reads bs (read_epochs bs (length ds) least at) ds ys
unfolding read_epochs
epochs_reads bs [] least at ys a s = got_reads bs [] at ys s
epochs_reads bs (d ∷ ds) least at ys a s = follow_reads bs (read_epoch bs least at) _ d (d ∷ ds) _ ys (epoch_reads bs least at d (epochs_bytes ds ++ ys) a.0 a.1 a.2 a.3
    (stands_as bs at _ _ (append_assoc (big_bytes 4 d.0) (big_bytes 4 d.1 ++ epochs_bytes ds) ys ∙ ap (λ r. big_bytes 4 d.0 ++ r) (append_assoc (big_bytes 4 d.1) (epochs_bytes ds) ys)) s)) (λ next t.
    follow_reads bs (read_epochs bs (length ds) (d.0 + 1) next) _ ds (d ∷ ds) _ ys (epochs_reads bs ds (d.0 + 1) next ys a.4 t) (λ last u. got_reads bs (d ∷ ds) last ys u))

-- ---- ops ----

-- the fields of a log's op, behind its first byte
fields_read : (bs : List ℕ) (kind at l : ℕ) (xs : List ℕ) (o : Op) → IsLog l → Stands bs at (big_bytes 4 l ++ xs) → ((next : ℕ) → Stands bs next xs → Reads bs (read_fields bs kind l next) o []) → Reads bs (follow (read_log bs at) (read_fields bs kind)) o []
fields_read bs kind at l xs o i s g = follow_reads bs (read_log bs at) (read_fields bs kind) l o xs [] (log_reads bs at l xs i s) g

version_reads : (bs : List ℕ) (at : ℕ) (ys : List ℕ) → Stands bs at (big_bytes 1 2 ++ ys) → Reads bs (read_version bs at) 2 ys
unfolding read_version
version_reads bs at ys s = follow_reads bs (field 1 bs at) _ 2 2 ys ys (field_reads 0 2 bs at ys (omega arith) s) (λ next t. check_reads bs true at _ 2 ys refl (got_reads bs 2 next ys t))

format_reads : (bs : List ℕ) (at generation : ℕ) (epochs : List (ℕ × ℕ)) → IsOp (ops.Format generation epochs) → Stands bs at (format_bytes generation epochs) → Reads bs (read_format bs at) (ops.Format generation epochs) []
unfolding read_format
format_reads bs at generation epochs i s =
    follow_reads bs (field 4 bs at) _ generation _ _ [] (field_reads 3 generation bs at _ (let g = i.0 in omega arith) s) (λ at_count t.
    follow_reads bs (field 1 bs at_count) _ (length epochs) _ _ [] (field_reads 0 (length epochs) bs at_count _ (let n = i.1 in omega arith) t) (λ at_epochs u.
    follow_reads bs (read_epochs bs (length epochs) 1 at_epochs) _ epochs _ [] [] (epochs_reads bs epochs 1 at_epochs [] i.2 (nothing bs at_epochs _ u)) (λ next v. got_reads bs _ next [] v)))

-- ---- records ----

framed : (bs : List ℕ) (kind : ℕ) (xs : List ℕ) (w : Record) → kind < 256 → is_kind kind ≡ true → bs ≡ big_bytes 1 kind ++ xs → ((at : ℕ) → Stands bs at xs → Reads bs (read_body bs kind at) w []) → judge bs ≡ Got w (length bs)
unfolding judge
framed bs kind xs w f k e g = let r = follow_reads bs (field 1 bs 0) (λ kind at. check (is_kind kind) 0 (follow (read_body bs kind at) (λ v next. end_at bs next v))) kind w xs []
    (field_reads 0 kind bs 0 xs f (record { within = omega arith; there = e }))
    (λ at s. check_reads bs (is_kind kind) 0 _ w [] k (follow_reads bs (read_body bs kind at) (λ v next. end_at bs next v) w w [] [] (g at s)
    (λ next t. record { next = next; is = let b : nat_le (length bs) next ≡ true = (let n = at_end bs next t in grind (arith, nat_tests)) in ap (λ b. cond b (Got w next) (Off next)) b; behind = t }))) in
    r.is ∙ ap (λ n. Got w n) (at_end bs r.next r.behind)

-- an op is read behind its first byte, which isn't a mark's
op_reads : (bs : List ℕ) (kind at : ℕ) (o : Op) → (kind == 11) ≡ false → Reads bs (read_op bs kind at) o [] → Reads bs (read_body bs kind at) (recorded kind o) []
unfolding read_body
op_reads bs kind at o n h = subst (λ b. Reads bs (cond b (follow (read_version bs at) (λ byte next. Got Mark next)) (follow (read_op bs kind at) (λ o next. Got (recorded kind o) next))) (recorded kind o) []) (sym n)
    (follow_reads bs (read_op bs kind at) (λ o next. Got (recorded kind o) next) o (recorded kind o) [] [] h (λ next v. got_reads bs (recorded kind o) next [] v))

op_framed : (bs : List ℕ) (kind : ℕ) (xs : List ℕ) (o : Op) → kind < 256 → is_kind kind ≡ true → (kind == 11) ≡ false → bs ≡ big_bytes 1 kind ++ xs → ((at : ℕ) → Stands bs at xs → Reads bs (read_op bs kind at) o []) → judge bs ≡ Got (recorded kind o) (length bs)
op_framed bs kind xs o f k n e g = framed bs kind xs (recorded kind o) f k e (λ at s. op_reads bs kind at o n (g at s))

-- the bytes of an op are judged to be that op
pub judge-op_bytes : (o : Op) → IsOp o → judge (op_bytes o) ≡ Got (Now o) (length (op_bytes o))
unfolding op_bytes read_op read_fields read_accept read_seal read_clean read_refill
judge-op_bytes (ops.Format generation epochs) i = op_framed _ 10 _ (ops.Format generation epochs) (omega arith) refl refl refl (λ at s.
    follow_reads _ (read_version _ at) _ 2 _ _ [] (version_reads _ at _ s) (λ next t. format_reads _ next generation epochs i t))
judge-op_bytes (ops.Accept l lng e) i = op_framed _ 2 _ (ops.Accept l lng e) (omega arith) refl refl refl (λ at s.
    fields_read _ 2 at l _ _ i.0 s (λ at_lng t.
    follow_reads _ (field 4 _ at_lng) _ lng _ _ [] (field_reads 3 lng _ at_lng _ (let n = i.1 in omega arith) t) (λ at_entry u.
    check_reads _ _ at_lng _ _ [] (lng_passes lng i.1)
    (follow_reads _ (read_entry _ besides.Bridges (2 ^ 64 - 1) 0 at_entry) _ e _ [] [] (entry_reads _ besides.Bridges (2 ^ 64 - 1) 0 at_entry e [] i.2 (kept_stands e.what i.3) (omega arith) (let m = number_fits e.number i.2.epoch in omega arith) (nothing _ at_entry _ u)) (λ next v. got_reads _ _ next [] v)))))
judge-op_bytes (ops.Seal l b) i = op_framed _ 3 _ (ops.Seal l b) (omega arith) refl refl refl (λ at s.
    fields_read _ 3 at l _ _ i.0 s (λ at_b t.
    follow_reads _ (field 4 _ at_b) _ b _ [] [] (field_reads 3 b _ at_b [] (let n = i.1.1 in omega arith) (nothing _ at_b _ t)) (λ next v.
    check_reads _ _ at_b _ _ [] (let a = i.1.0 in let n = i.1.1 in grind (arith, nat_tests)) (got_reads _ _ next [] v))))
judge-op_bytes (ops.Clean l epoch y) i = op_framed _ 12 _ (ops.Clean l epoch y) (omega arith) refl refl refl (λ at s.
    fields_read _ 12 at l _ _ i.0 s (λ at_e t.
    follow_reads _ (field 4 _ at_e) _ epoch _ _ [] (field_reads 3 epoch _ at_e _ (let n = i.1.1 in omega arith) t) (λ at_y u.
    check_reads _ _ at_e _ _ [] (let a = i.1.0 in let b = i.1.1 in grind (arith, nat_tests))
    (follow_reads _ (read_summary _ epoch at_y) _ y _ [] [] (summary_reads _ epoch at_y y [] i.2 (nothing _ at_y _ u)) (λ next v. got_reads _ _ next [] v)))))
judge-op_bytes (ops.Trim l t) i = op_framed _ 5 _ (ops.Trim l t) (omega arith) refl refl refl (λ at s.
    fields_read _ 5 at l _ _ i.0 s (λ at_t u.
    follow_reads _ (field 8 _ at_t) _ t _ [] [] (field_reads 7 t _ at_t [] (let n = i.1 in omega arith) (nothing _ at_t _ u)) (λ next v. got_reads _ _ next [] v)))
judge-op_bytes (ops.Refill l es) i = op_framed _ 6 _ (ops.Refill l es) (omega arith) refl refl refl (λ at s.
    fields_read _ 6 at l _ _ i.0 s (λ at_n t.
    follow_reads _ (field 2 _ at_n) _ (length es) _ _ [] (field_reads 1 (length es) _ at_n _ (let n = i.2 in omega arith) t) (λ at_es u.
    check_reads _ _ at_n _ _ [] (let a = i.1 in let b = i.2 in grind (arith, nat_tests))
    (follow_reads _ (read_entries _ besides.Bridges (2 ^ 64 - 1) (length es) 0 at_es) _ es _ [] [] (entries_reads _ besides.Bridges (2 ^ 64 - 1) es 0 at_es [] i.3 (all_stand es i.5) (rise_within 0 es i.3 i.4) (nothing _ at_es _ u)) (λ next v. got_reads _ _ next [] v)))))
judge-op_bytes (ops.Refilled l) i = op_framed _ 7 _ (ops.Refilled l) (omega arith) refl refl refl (λ at s.
    fields_read _ 7 at l _ _ i (nothing _ at _ s) (λ next t. got_reads _ _ next [] t))

unlost_is : (y : Summary) → y.loss ≡ false → unlost y ≡ y
unlost_is y h = ap (λ b. record y { loss = b }) (sym h)

-- the first version's bytes of an op are judged to be that
pub judge-older_bytes : (o : Op) → IsOp o → IsOlder o → judge (older_bytes o) ≡ Got (Before o) (length (older_bytes o))
unfolding older_bytes read_op read_fields read_clean
judge-older_bytes (ops.Format generation epochs) i n = op_framed _ 1 _ (ops.Format generation epochs) (omega arith) refl refl refl (λ at s. format_reads _ at generation epochs i s)
judge-older_bytes (ops.Clean l epoch y) i n = op_framed _ 4 _ (ops.Clean l epoch y) (omega arith) refl refl refl (λ at s.
    fields_read _ 4 at l _ _ i.0 s (λ at_e t.
    follow_reads _ (field 4 _ at_e) _ epoch _ _ [] (field_reads 3 epoch _ at_e _ (let n = i.1.1 in omega arith) t) (λ at_y u.
    check_reads _ _ at_e _ _ [] (let a = i.1.0 in let b = i.1.1 in grind (arith, nat_tests))
    (follow_reads _ (read_older_summary _ epoch at_y) _ y _ [] [] (reads_as _ _ (unlost y) y [] (unlost_is y n) (older_reads _ epoch at_y y [] i.2 (nothing _ at_y _ u))) (λ next v. got_reads _ _ next [] v)))))
judge-older_bytes (ops.Accept l lng e) i n = absurd n
judge-older_bytes (ops.Seal l b) i n = absurd n
judge-older_bytes (ops.Trim l t) i n = absurd n
judge-older_bytes (ops.Refill l es) i n = absurd n
judge-older_bytes (ops.Refilled l) i n = absurd n

judge-mark : judge (record_bytes Mark) ≡ Got Mark (length (record_bytes Mark))
unfolding read_body
judge-mark = framed _ 11 (big_bytes 1 2) Mark (omega arith) refl refl (λ at s. follow_reads _ (read_version _ at) (λ byte next. Got Mark next) 2 Mark [] [] (version_reads _ at [] (nothing _ at _ s)) (λ next t. got_reads _ Mark next [] t))

-- the bytes of a record are judged to be that record
pub judge-record_bytes : (v : Record) → IsRecord v → judge (record_bytes v) ≡ Got v (length (record_bytes v))
judge-record_bytes (Now o) i = judge-op_bytes o i
judge-record_bytes (Before o) i = judge-older_bytes o i.0 i.1
judge-record_bytes Mark i = judge-mark
