-- What is read as a record is spelled by its bytes.
use Rattle.std.proofs.Common.{◌≡◌, ◌≤◌, ◌+◌, ◌-◌, ◌^◌, ◌==◌, ◌⊎◌, inl, inr, ⊎_elim, ℕ, suc, zero, Bool, true, false, cond, List, [], ◌∷◌, ◌++◌, refl, ap, sym, ◌∙◌, subst, append_assoc, length, nat_le, arith}
use Rattle.std.proofs.lemmas.Bool.Decides.{nat_tests}
use Rattle.std.proofs.lemmas.List.{append-nil}
use Rattle.byteorder.specs.Endian.{big_bytes}
use Rattle.ld_ids.specs.Id.{IsLog}
use Rattle.ld_ids.specs.Bytes.{AreBytes}
use Rattle.ld_msg.specs.declared.msg.Entry.{Entry}
use Rattle.ld_msg.specs.Bounds.{Is32, RiseWithin}
use Rattle.ld_fields.specs.declared.beside.Beside.TheVariants as besides
use Rattle.ld_fields.specs.Fields.{Got, follow, field, within}
use Rattle.ld_fields.specs.Items.{entry_bytes, entries_bytes, older_summary_bytes, summary_bytes, greatest_epoch, greatest_lng, read_entry, read_entries, read_older_summary, read_summary, read_log}
use Rattle.ld_fields.proofs.Unspelling.{ended, gone, Spelled, spelled_on, spelled_none, Spells, field_spells, by_follow, by_check, by_got, entry_spelled, entries_spelled, stands_kept, all_kept, same_is, within_is, older_spelled, summary_spelled, log_spelled}
use Rattle.ld_op.specs.declared.op.Op.{Op}
use Rattle.ld_op.specs.declared.op.Op.TheVariants as ops
use Rattle.ld_op.specs.declared.record.Record.{Record}
use Rattle.ld_op.specs.declared.record.Record.TheVariants.{Now, Before, Mark}
use Rattle.ld_op.specs.Bounds.{IsOp, IsRecord, AreEpochs, RiseFrom}
use Rattle.ld_op.specs.Bytes.{epochs_bytes, format_bytes, op_bytes, older_bytes, record_bytes, read_version, read_epoch, read_epochs, read_format, read_accept, read_seal, read_clean, read_refill, read_fields, read_op, recorded, read_body, is_kind, judge}

-- entries that rise within two numbers rise from the first
rise_from : (from upto : ℕ) (es : List Entry) → RiseWithin from upto es → RiseFrom from es
rise_from from upto [] r = tt
rise_from from upto (e ∷ es) r = (r.0, rise_from (e.number + 1) upto es r.2)

-- ---- epochs ----

pub record EpochsRead (bs : List ℕ) (count least at next : ℕ) (ds : List (ℕ × ℕ)) : Type 0 where
  pub spelled : Spelled bs at next (epochs_bytes ds)
  pub count_is : length ds ≡ count
  pub are : AreEpochs least ds

record EpochRead (bs : List ℕ) (least at next : ℕ) (d : ℕ × ℕ) : Type 0 where
  spelled : Spelled bs at next (big_bytes 4 d.0 ++ big_bytes 4 d.1)
  least_is : least ≤ d.0
  log : IsLog d.0
  one : 1 ≤ d.1
  fits : Is32 d.1

epoch_made : (bs : List ℕ) (least at a next log epoch : ℕ) → 1 ≤ least → Spells bs 4 at log a → within least 65535 log ≡ true → Spells bs 4 a epoch next → nat_le 1 epoch ≡ true → EpochRead bs least at next (log, epoch)
epoch_made bs least at a next log epoch l s m t o = let i = within_is least 65535 log m in let k = t.fits in let j = i.0 in record {
  spelled = spelled_on bs at a next (big_bytes 4 log) (big_bytes 4 epoch) s.spelled t.spelled;
  least_is = j;
  log = (omega arith, i.1);
  one = grind (arith, nat_tests);
  fits = omega arith;
}

epoch_spelled : (bs : List ℕ) (least at : ℕ) (d : ℕ × ℕ) (next : ℕ) → AreBytes bs → 1 ≤ least → read_epoch bs least at ≡ Got d next → EpochRead bs least at next d
unfolding read_epoch
epoch_spelled bs least at d next h l r =
    by_follow (field 4 bs at) _ d next r (λ log a f r. by_check _ at _ d next r (λ ok r.
    by_follow (field 4 bs a) _ d next r (λ epoch last g r. by_check _ a _ d next r (λ ok2 r. by_got _ d last next r (λ is n.
    subst (EpochRead bs least at next) is (subst (λ x. EpochRead bs least at x (log, epoch)) n
    (epoch_made bs least at a last log epoch l (field_spells 4 bs at log a h f) ok (field_spells 4 bs a epoch last h g) ok2)))))))

epochs_more : (bs : List ℕ) (count least at mid next : ℕ) (d : ℕ × ℕ) (ds : List (ℕ × ℕ)) → EpochRead bs least at mid d → EpochsRead bs count (d.0 + 1) mid next ds → EpochsRead bs (suc count) least at next (d ∷ ds)
epochs_more bs count least at mid next d ds h k = record {
  spelled = subst (Spelled bs at next) (append_assoc (big_bytes 4 d.0) (big_bytes 4 d.1) (epochs_bytes ds)) (spelled_on bs at mid next (big_bytes 4 d.0 ++ big_bytes 4 d.1) (epochs_bytes ds) h.spelled k.spelled);
  count_is = ap suc k.count_is;
  are = (h.least_is, h.log, h.one, h.fits, k.are);
}

pub epochs_spelled : (bs : List ℕ) (count least at : ℕ) (ds : List (ℕ × ℕ)) (next : ℕ) → AreBytes bs → at ≤ length bs → 1 ≤ least → read_epochs bs count least at ≡ Got ds next → EpochsRead bs count least at next ds
unfolding read_epochs
epochs_spelled bs zero least at ds next h a l r = by_got [] ds at next r (λ is n. subst (EpochsRead bs zero least at next) is (subst (λ x. EpochsRead bs zero least at x []) n
    (record { spelled = spelled_none bs at a; count_is = refl; are = tt })))
epochs_spelled bs (suc count) least at ds next h a l r =
    by_follow (read_epoch bs least at) _ ds next r (λ d mid f r. by_follow (read_epochs bs count (d.0 + 1) mid) _ ds next r (λ fs last g r. by_got (d ∷ fs) ds last next r (λ is n.
    let u = epoch_spelled bs least at d mid h l f in
    subst (EpochsRead bs (suc count) least at next) is (subst (λ x. EpochsRead bs (suc count) least at x (d ∷ fs)) n
    (epochs_more bs count least at mid last d fs u (epochs_spelled bs count (d.0 + 1) mid fs last h u.spelled.within (omega arith) g))))))

-- ---- ops ----

-- what stands behind the first byte, with which it makes the record's bytes
pub record BodyRead (bs : List ℕ) (kind at next : ℕ) (w : Record) : Type 0 where
  pub rest : List ℕ
  pub spelled : Spelled bs at next rest
  pub bytes_are : big_bytes 1 kind ++ rest ≡ record_bytes w
  pub is : IsRecord w

-- the same behind the log
pub record FieldsRead (bs : List ℕ) (kind l at next : ℕ) (o : Op) : Type 0 where
  pub rest : List ℕ
  pub spelled : Spelled bs at next rest
  pub bytes_are : big_bytes 1 kind ++ (big_bytes 4 l ++ rest) ≡ record_bytes (recorded kind o)
  pub is : IsLog l → IsRecord (recorded kind o)

-- what a format says behind its version
record FormatRead (bs : List ℕ) (at next : ℕ) (o : Op) : Type 0 where
  generation : ℕ
  epochs : List (ℕ × ℕ)
  op_is : ops.Format generation epochs ≡ o
  spelled : Spelled bs at next (format_bytes generation epochs)
  is : IsOp (ops.Format generation epochs)

version_spelled : (bs : List ℕ) (at byte next : ℕ) → AreBytes bs → read_version bs at ≡ Got byte next → Spelled bs at next (big_bytes 1 2)
unfolding read_version
version_spelled bs at byte next h r = by_follow (field 1 bs at) _ byte next r (λ v a f r. by_check (v == 2) at _ byte next r (λ ok r. by_got v byte a next r (λ is n.
    subst (λ m. Spelled bs at m (big_bytes 1 2)) n (subst (λ k. Spelled bs at a (big_bytes 1 k)) (same_is v 2 ok) (field_spells 1 bs at v a h f).spelled))))

format_spelled : (bs : List ℕ) (at next : ℕ) (o : Op) → AreBytes bs → read_format bs at ≡ Got o next → FormatRead bs at next o
unfolding read_format
format_spelled bs at next o h r =
    by_follow (field 4 bs at) _ o next r (λ g a f r. by_follow (field 1 bs a) _ o next r (λ count b k r. by_follow (read_epochs bs count 1 b) _ o next r (λ ds last q r. by_got (ops.Format g ds) o last next r (λ is n.
    let s = field_spells 4 bs at g a h f in let t = field_spells 1 bs a count b h k in let u = epochs_spelled bs count 1 b ds last h t.spelled.within (omega arith) q in let m = t.fits in let e = u.count_is in let z = s.fits in
    record {
      generation = g;
      epochs = ds;
      op_is = is;
      spelled = subst (λ x. Spelled bs at x (format_bytes g ds)) n (subst (λ x. Spelled bs at last (big_bytes 4 g ++ (big_bytes 1 x ++ epochs_bytes ds))) (sym e)
          (spelled_on bs at a last (big_bytes 4 g) _ s.spelled (spelled_on bs a b last (big_bytes 1 count) _ t.spelled u.spelled)));
      is = (omega arith, omega arith, u.are);
    }))))

older_format : (bs : List ℕ) (at next : ℕ) (o : Op) → FormatRead bs at next o → BodyRead bs 1 at next (Before o)
unfolding older_bytes
older_format bs at next o u = subst (λ x. BodyRead bs 1 at next (Before x)) u.op_is (record { rest = format_bytes u.generation u.epochs; spelled = u.spelled; bytes_are = refl; is = (u.is, tt) })

newer_format : (bs : List ℕ) (at mid next : ℕ) (o : Op) → Spelled bs at mid (big_bytes 1 2) → FormatRead bs mid next o → BodyRead bs 10 at next (Now o)
unfolding op_bytes
newer_format bs at mid next o s u = subst (λ x. BodyRead bs 10 at next (Now x)) u.op_is
    (record { rest = big_bytes 1 2 ++ format_bytes u.generation u.epochs; spelled = spelled_on bs at mid next (big_bytes 1 2) _ s u.spelled; bytes_are = refl; is = u.is })

accept_spelled : (bs : List ℕ) (l at next : ℕ) (o : Op) → AreBytes bs → read_accept bs l at ≡ Got o next → FieldsRead bs 2 l at next o
unfolding read_accept op_bytes
accept_spelled bs l at next o h r =
    by_follow (field 4 bs at) _ o next r (λ lng a f r. by_check (nat_le lng greatest_lng) at _ o next r (λ ok r. by_follow (read_entry bs besides.Bridges (2 ^ 64 - 1) 0 a) _ o next r (λ e last q r. by_got (ops.Accept l lng e) o last next r (λ is n.
    let s = field_spells 4 bs at lng a h f in let u = entry_spelled bs besides.Bridges (2 ^ 64 - 1) 0 a e last h q in let z = s.fits in
    subst (FieldsRead bs 2 l at next) is (subst (λ x. FieldsRead bs 2 l at x (ops.Accept l lng e)) n (record {
      rest = big_bytes 4 lng ++ entry_bytes e;
      spelled = spelled_on bs at a last (big_bytes 4 lng) (entry_bytes e) s.spelled u.spelled;
      bytes_are = refl;
      is = λ i. (i, grind (arith, nat_tests), u.is, stands_kept e.what u.stands);
    }))))))

seal_spelled : (bs : List ℕ) (l at next : ℕ) (o : Op) → AreBytes bs → read_seal bs l at ≡ Got o next → FieldsRead bs 3 l at next o
unfolding read_seal op_bytes
seal_spelled bs l at next o h r = by_follow (field 4 bs at) _ o next r (λ b a f r. by_check _ at _ o next r (λ ok r. by_got (ops.Seal l b) o a next r (λ is n. let s = field_spells 4 bs at b a h f in
    subst (FieldsRead bs 3 l at next) is (subst (λ x. FieldsRead bs 3 l at x (ops.Seal l b)) n (record { rest = big_bytes 4 b; spelled = s.spelled; bytes_are = refl; is = λ i. (i, within_is 1 greatest_epoch b ok) })))))

older_clean : (bs : List ℕ) (l at next : ℕ) (o : Op) → AreBytes bs → read_clean true bs l at ≡ Got o next → FieldsRead bs 4 l at next o
unfolding read_clean older_bytes
older_clean bs l at next o h r =
    by_follow (field 4 bs at) _ o next r (λ epoch a f r. by_check _ at _ o next r (λ ok r. by_follow (read_older_summary bs epoch a) _ o next r (λ y last q r. by_got (ops.Clean l epoch y) o last next r (λ is n.
    let s = field_spells 4 bs at epoch a h f in let u = older_spelled bs epoch a y last h q in
    subst (FieldsRead bs 4 l at next) is (subst (λ x. FieldsRead bs 4 l at x (ops.Clean l epoch y)) n (record {
      rest = big_bytes 4 epoch ++ older_summary_bytes y;
      spelled = spelled_on bs at a last (big_bytes 4 epoch) (older_summary_bytes y) s.spelled u.spelled;
      bytes_are = refl;
      is = λ i. ((i, within_is 1 greatest_epoch epoch ok, u.is), u.unlost);
    }))))))

newer_clean : (bs : List ℕ) (l at next : ℕ) (o : Op) → AreBytes bs → read_clean false bs l at ≡ Got o next → FieldsRead bs 12 l at next o
unfolding read_clean op_bytes
newer_clean bs l at next o h r =
    by_follow (field 4 bs at) _ o next r (λ epoch a f r. by_check _ at _ o next r (λ ok r. by_follow (read_summary bs epoch a) _ o next r (λ y last q r. by_got (ops.Clean l epoch y) o last next r (λ is n.
    let s = field_spells 4 bs at epoch a h f in let u = summary_spelled bs epoch a y last h q in
    subst (FieldsRead bs 12 l at next) is (subst (λ x. FieldsRead bs 12 l at x (ops.Clean l epoch y)) n (record {
      rest = big_bytes 4 epoch ++ summary_bytes y;
      spelled = spelled_on bs at a last (big_bytes 4 epoch) (summary_bytes y) s.spelled u.spelled;
      bytes_are = refl;
      is = λ i. (i, within_is 1 greatest_epoch epoch ok, u.is);
    }))))))

trim_spelled : (bs : List ℕ) (l at next : ℕ) (o : Op) → AreBytes bs → follow (field 8 bs at) (λ t next. Got (ops.Trim l t) next) ≡ Got o next → FieldsRead bs 5 l at next o
unfolding op_bytes
trim_spelled bs l at next o h r = by_follow (field 8 bs at) _ o next r (λ t a f r. by_got (ops.Trim l t) o a next r (λ is n. let s = field_spells 8 bs at t a h f in let z = s.fits in
    subst (FieldsRead bs 5 l at next) is (subst (λ x. FieldsRead bs 5 l at x (ops.Trim l t)) n (record { rest = big_bytes 8 t; spelled = s.spelled; bytes_are = refl; is = λ i. (i, omega arith) }))))

refill_spelled : (bs : List ℕ) (l at next : ℕ) (o : Op) → AreBytes bs → read_refill bs l at ≡ Got o next → FieldsRead bs 6 l at next o
unfolding read_refill op_bytes
refill_spelled bs l at next o h r =
    by_follow (field 2 bs at) _ o next r (λ count a f r. by_check _ at _ o next r (λ ok r. by_follow (read_entries bs besides.Bridges (2 ^ 64 - 1) count 0 a) _ o next r (λ es last q r. by_got (ops.Refill l es) o last next r (λ is n.
    let s = field_spells 2 bs at count a h f in let u = entries_spelled bs besides.Bridges (2 ^ 64 - 1) count 0 a es last h s.spelled.within q in let e = u.count_is in let w = within_is 1 64 count ok in let w0 = w.0 in let w1 = w.1 in
    subst (FieldsRead bs 6 l at next) is (subst (λ x. FieldsRead bs 6 l at x (ops.Refill l es)) n (record {
      rest = big_bytes 2 count ++ entries_bytes es;
      spelled = spelled_on bs at a last (big_bytes 2 count) (entries_bytes es) s.spelled u.spelled;
      bytes_are = ap (λ x. big_bytes 1 6 ++ (big_bytes 4 l ++ (big_bytes 2 x ++ entries_bytes es))) (sym e);
      is = λ i. (i, omega arith, omega arith, u.are, rise_from 0 (2 ^ 64 - 1) es u.rise, all_kept es u.stand);
    }))))))

older_fields : (bs : List ℕ) (kind l at next : ℕ) (o : Op) → AreBytes bs → at ≤ length bs → 2 ≤ kind → kind ≤ 7 → read_fields bs kind l at ≡ Got o next → FieldsRead bs kind l at next o
unfolding read_fields op_bytes
older_fields bs zero l at next o h a k m r = absurd (omega arith)
older_fields bs (suc zero) l at next o h a k m r = absurd (omega arith)
older_fields bs (suc (suc zero)) l at next o h a k m r = accept_spelled bs l at next o h r
older_fields bs (suc (suc (suc zero))) l at next o h a k m r = seal_spelled bs l at next o h r
older_fields bs (suc (suc (suc (suc zero)))) l at next o h a k m r = older_clean bs l at next o h r
older_fields bs (suc (suc (suc (suc (suc zero))))) l at next o h a k m r = trim_spelled bs l at next o h r
older_fields bs (suc (suc (suc (suc (suc (suc zero)))))) l at next o h a k m r = refill_spelled bs l at next o h r
older_fields bs (suc (suc (suc (suc (suc (suc (suc zero))))))) l at next o h a k m r = by_got (ops.Refilled l) o at next r (λ is n.
    subst (FieldsRead bs 7 l at next) is (subst (λ x. FieldsRead bs 7 l at x (ops.Refilled l)) n (record { rest = []; spelled = spelled_none bs at a; bytes_are = append-nil (big_bytes 1 7 ++ big_bytes 4 l); is = λ i. i })))
older_fields bs (suc (suc (suc (suc (suc (suc (suc (suc kind)))))))) l at next o h a k m r = absurd (omega arith)

newer_fields : (bs : List ℕ) (l at next : ℕ) (o : Op) → AreBytes bs → read_fields bs 12 l at ≡ Got o next → FieldsRead bs 12 l at next o
unfolding read_fields
newer_fields bs l at next o h r = newer_clean bs l at next o h r

fields_spelled : (bs : List ℕ) (kind l at next : ℕ) (o : Op) → AreBytes bs → at ≤ length bs → 2 ≤ kind → (kind ≤ 7) ⊎ (kind ≡ 12) → read_fields bs kind l at ≡ Got o next → FieldsRead bs kind l at next o
fields_spelled bs kind l at next o h a k m r = ⊎_elim
    (λ few. older_fields bs kind l at next o h a k few r)
    (λ is. subst (λ n. read_fields bs n l at ≡ Got o next → FieldsRead bs n l at next o) (sym is) (newer_fields bs l at next o h) r) m

body_of : (bs : List ℕ) (kind at next : ℕ) (o : Op) → AreBytes bs → 2 ≤ kind → (kind ≤ 7) ⊎ (kind ≡ 12) → follow (read_log bs at) (read_fields bs kind) ≡ Got o next → BodyRead bs kind at next (recorded kind o)
body_of bs kind at next o h k m r = by_follow (read_log bs at) (read_fields bs kind) o next r (λ l a f r.
    let s = log_spelled bs at l a h f in let u = fields_spelled bs kind l a next o h s.spelled.within k m r in
    record { rest = big_bytes 4 l ++ u.rest; spelled = spelled_on bs at a next (big_bytes 4 l) u.rest s.spelled u.spelled; bytes_are = u.bytes_are; is = u.is s.is })

-- the first byte of a log's op
log_kind : (kind : ℕ) → is_kind kind ≡ true → (kind == 1) ≡ false → (kind == 10) ≡ false → (kind == 11) ≡ false → (2 ≤ kind) × ((kind ≤ 7) ⊎ (kind ≡ 12))
log_kind kind k f t m = (
  grind (arith, nat_tests),
  elim (nat_le kind 7) as (λ b. nat_le kind 7 ≡ b → (kind ≤ 7) ⊎ (kind ≡ 12)) [
    | true ↦ λ e. inl (grind (arith, nat_tests))
    | false ↦ λ e. inr (grind (arith, nat_tests))
  ] refl,
)

op_by : (bs : List ℕ) (kind at next : ℕ) (o : Op) (a b : Bool) → (kind == 1) ≡ a → (kind == 10) ≡ b → AreBytes bs → is_kind kind ≡ true → (kind == 11) ≡ false
    → cond a (read_format bs at) (cond b (follow (read_version bs at) (λ byte next. read_format bs next)) (follow (read_log bs at) (read_fields bs kind))) ≡ Got o next → BodyRead bs kind at next (recorded kind o)
op_by bs kind at next o true b e g h k m r = subst (λ n. BodyRead bs n at next (recorded n o)) (sym (same_is kind 1 e)) (older_format bs at next o (format_spelled bs at next o h r))
op_by bs kind at next o false true e g h k m r = by_follow (read_version bs at) _ o next r (λ v a f r.
    subst (λ n. BodyRead bs n at next (recorded n o)) (sym (same_is kind 10 g)) (newer_format bs at a next o (version_spelled bs at v a h f) (format_spelled bs a next o h r)))
op_by bs kind at next o false false e g h k m r = let w = log_kind kind k e g m in body_of bs kind at next o h w.0 w.1 r

op_spelled : (bs : List ℕ) (kind at next : ℕ) (o : Op) → AreBytes bs → is_kind kind ≡ true → (kind == 11) ≡ false → read_op bs kind at ≡ Got o next → BodyRead bs kind at next (recorded kind o)
unfolding read_op
op_spelled bs kind at next o h k m r = op_by bs kind at next o (kind == 1) (kind == 10) refl refl h k m r

-- ---- records ----

body_by : (bs : List ℕ) (kind at next : ℕ) (w : Record) (b : Bool) → (kind == 11) ≡ b → AreBytes bs → is_kind kind ≡ true
    → cond b (follow (read_version bs at) (λ byte next. Got Mark next)) (follow (read_op bs kind at) (λ o next. Got (recorded kind o) next)) ≡ Got w next → BodyRead bs kind at next w
body_by bs kind at next w true e h k r = by_follow (read_version bs at) _ w next r (λ v a f r. by_got Mark w a next r (λ is n.
    subst (λ m. BodyRead bs m at next w) (sym (same_is kind 11 e)) (subst (BodyRead bs 11 at next) is (subst (λ x. BodyRead bs 11 at x Mark) n
    (record { rest = big_bytes 1 2; spelled = version_spelled bs at v a h f; bytes_are = refl; is = tt })))))
body_by bs kind at next w false e h k r = by_follow (read_op bs kind at) _ w next r (λ o a f r. by_got (recorded kind o) w a next r (λ is n.
    subst (BodyRead bs kind at next) is (subst (λ x. BodyRead bs kind at x (recorded kind o)) n (op_spelled bs kind at a o h k e f))))

body_spelled : (bs : List ℕ) (kind at next : ℕ) (w : Record) → AreBytes bs → is_kind kind ≡ true → read_body bs kind at ≡ Got w next → BodyRead bs kind at next w
unfolding read_body
body_spelled bs kind at next w h k r = body_by bs kind at next w (kind == 11) refl h k r

-- bytes that are judged to be a record are its bytes, and the record is one
pub record IsSpelling (bs : List ℕ) (w : Record) : Type 0 where
  pub bytes_are : bs ≡ record_bytes w
  pub is : IsRecord w

pub judge_spelled : (bs : List ℕ) (v : Record) (next : ℕ) → AreBytes bs → judge bs ≡ Got v next → IsSpelling bs v
unfolding judge
judge_spelled bs v next h r =
    by_follow (field 1 bs 0) _ v next r (λ kind a f r. by_check _ 0 _ v next r (λ ok r. by_follow (read_body bs kind a) _ v next r (λ w last q r.
    let e = ended bs last w v next r in
    let s = field_spells 1 bs 0 kind a h f in let u = body_spelled bs kind a last w h ok q in
    subst (IsSpelling bs) e.1 (record {
      bytes_are = (spelled_on bs 0 a last (big_bytes 1 kind) u.rest s.spelled u.spelled).there ∙ (ap (λ x. (big_bytes 1 kind ++ u.rest) ++ x) (gone bs last e.0) ∙ (append-nil (big_bytes 1 kind ++ u.rest) ∙ u.bytes_are));
      is = u.is;
    }))))
