-- What is read as an index is in the bounds of a plain state.
use Rattle.std.proofs.Common.{◌≡◌, refl, ℕ, zero, suc, ◌+◌, ◌-◌, ◌^◌, ◌≤◌, ◌<◌, max, Bool, true, List, [], ◌∷◌, length, sym, subst, nat_le, nat_cmp, Less, arith}
use Rattle.std.specs.Cmp.{nat_cmp_is}
use Rattle.std.specs.List.{AllByRecursion}
use Rattle.std.specs.List.Sorted.{IsStrictlySortedBy}
use Rattle.std.specs.Map.{keys_of}
use Rattle.ld_table.specs.Table.{Ordered}
use Rattle.ld_table.specs.Words.{numbers_from}
use Rattle.ld_lsn.specs.Number.{epoch_of, esn_of}
use Rattle.ld_ids.specs.Bytes.{AreBytes}
use Rattle.ld_msg.specs.declared.msg.What.{What}
use Rattle.ld_msg.specs.declared.msg.What.TheVariants.{Rec, Hole, Bridge, Plug}
use Rattle.ld_msg.specs.Bounds.{Is64, IsShort, IsKept}
use Rattle.ld_fields.specs.Fields.{Read, Got, field, within}
use Rattle.ld_fields.specs.Items.{greatest_epoch, is_number, is_tag, read_summary, read_flag}
use Rattle.ld_fields.proofs.Spelling.{tag_of}
use Rattle.ld_fields.proofs.Unspelling.{field_spells, by_follow, by_check, by_got, within_is, both_true, le_is, lng_is, place_of, summary_spelled}
use Rattle.ld_op.specs.Plain.{Plain, Log}
use Rattle.ld_op.specs.Indexed.{read_held, read_rising, read_table, read_based_entry, read_based_summary, read_based_lng, read_tables, read_based_log, read_index}
use Rattle.ld_node_bounds.specs.States.{last_carried, IsStored, IsClosed, IsGood, IsLogState, IsLogAt, IsPlain}
use Rattle.ld_segment.proofs.Listed.{length-numbers_from}

-- ---- items whose keys rise ----

module _ {X : Type 0} (P : ℕ × X → Type 0) where
  -- all keys are above each number below the least one
  record Risen (least : ℕ) (m : List (ℕ × X)) : Type 0 where
    above : (k : ℕ) → k < least → AllByRecursion (λ y. nat_cmp k y ≡ Less) (keys_of m)
    rise : Ordered m
    each : AllByRecursion P m

  -- where an item is read, its key is the least one or above it, and the item passes
  abbrev Passes : (ℕ → ℕ → Read (ℕ × X)) → Type 0
  Passes item = (least at : ℕ) (e : ℕ × X) (next : ℕ) → item least at ≡ Got e next → (least ≤ e.0) × P e

  risen : (item : ℕ → ℕ → Read (ℕ × X)) → Passes item → (count least at : ℕ) (m : List (ℕ × X)) (next : ℕ) → read_rising item count least at ≡ Got m next → Risen least m
  unfolding read_rising IsStrictlySortedBy
  risen item passes zero least at m next r = by_got [] m at next r (λ is n. subst (Risen least) is (record { above = λ k below. tt; rise = tt; each = tt }))
  risen item passes (suc count) least at m next r =
      by_follow (item least at) _ m next r (λ e mid f r. by_follow (read_rising item count (e.0 + 1) mid) _ m next r (λ es last g r. by_got (e ∷ es) m last next r (λ is n.
      let one = passes least at e mid f in
      let rest = risen item passes count (e.0 + 1) mid es last g in
      subst (Risen least) is (record {
        above = λ k below. (sym (nat_cmp_is k e.0 Less (omega (arith, one.0))), rest.above k (omega (arith, one.0)));
        rise = (rest.above e.0 (omega arith), rest.rise);
        each = (one.1, rest.each);
      }))))

  table_risen : (bs : List ℕ) (item : ℕ → ℕ → Read (ℕ × X)) → Passes item → (at : ℕ) (m : List (ℕ × X)) (next : ℕ) → read_table bs item at ≡ Got m next → Risen 0 m
  table_risen bs item passes at m next r = by_follow (field 4 bs at) _ m next r (λ count mid f r. risen item passes count 0 mid m next r)

from_one : (least most n : ℕ) → within (max 1 least) most n ≡ true → (least ≤ n) × (1 ≤ n) × (n ≤ most)
from_one least most n ok = let i = within_is (max 1 least) most n ok in (omega (arith, i.0), omega (arith, i.0), i.1)

-- what a store keeps under a tag
record Held (tag : ℕ) (w : What) : Type 0 where
  tag_is : tag ≡ tag_of w
  short : IsShort w
  kept : IsKept w

module _ (bs : List ℕ) (bytes : AreBytes bs) where
  -- ---- entries, summaries and last known good places ----

  held : (at tag : ℕ) (w : What) (next : ℕ) → tag ≤ 3 → read_held bs at tag ≡ Got w next → Held tag w
  held at zero w next most r =
      by_follow (field 8 bs at) _ w next r (λ place a f r. by_follow (field 2 bs a) _ w next r (λ count b g r.
      by_check (nat_le (place + count) (2 ^ 64 - 1)) at _ w next r (λ ok r. by_got (Rec (numbers_from place count)) w b next r (λ is n.
      subst (Held 0) is (record { tag_is = refl; short = omega (arith, length-numbers_from place count, (field_spells 2 bs a count b bytes g).fits); kept = tt })))))
  held at (suc zero) w next most r = by_got Hole w at next r (λ is n. subst (Held 1) is (record { tag_is = refl; short = tt; kept = tt }))
  held at (suc (suc zero)) w next most r = by_got Bridge w at next r (λ is n. subst (Held 2) is (record { tag_is = refl; short = tt; kept = tt }))
  held at (suc (suc (suc zero))) w next most r = by_got Plug w at next r (λ is n. subst (Held 3) is (record { tag_is = refl; short = tt; kept = tt }))
  held at (suc (suc (suc (suc tag)))) w next most r = absurd (omega (arith, most))

  entry_passes : Passes IsStored (read_based_entry bs)
  unfolding read_based_entry
  entry_passes least at e next r =
      by_follow (field 8 bs at) _ e next r (λ number a f r. by_check _ at _ e next r (λ ok r.
      by_follow (field 4 bs a) _ e next r (λ ballot b g r. by_check _ a _ e next r (λ ok2 r.
      by_follow (field 1 bs b) _ e next r (λ tag c k r. by_check _ b _ e next r (λ ok3 r.
      by_follow (read_held bs c tag) _ e next r (λ w last q r. by_got _ e last next r (λ is n.
      let i = both_true (is_number number) (nat_le least number) ok in
      let j = both_true (within 1 greatest_epoch (epoch_of number)) (nat_le 1 (esn_of number)) i.0 in
      let l = within_is (epoch_of number) greatest_epoch ballot ok2 in
      let o = both_true (is_tag number tag) (nat_le tag 3) ok3 in
      let h = held c tag w last (le_is tag 3 o.1) q in
      subst (λ x. (least ≤ x.0) × IsStored x) is (
        le_is least number i.1,
        record {
          number = refl;
          entry = record { epoch = within_is 1 greatest_epoch (epoch_of number) j.0; from_one = le_is 1 (esn_of number) j.1; place = place_of number tag w o.0 h.tag_is; ballot = l.0; ballot_most = l.1; short = h.short };
          kept = h.kept;
        },
      )))))))))

  summary_passes : (older : Bool) → Passes IsClosed (read_based_summary bs older)
  unfolding read_based_summary
  summary_passes older least at y next r =
      by_follow (field 4 bs at) _ y next r (λ epoch a f r. by_check _ at _ y next r (λ ok r.
      by_follow (read_summary bs epoch a) _ y next r (λ z b g r. by_check _ _ _ y next r (λ ok2 r. by_got (epoch, z) y b next r (λ is n.
      let i = from_one least greatest_epoch epoch ok in
      subst (λ x. (least ≤ x.0) × IsClosed x) is (i.0, record { epoch = (i.1, i.2); summary = (summary_spelled bs epoch a z b bytes g).is }))))))

  lng_passes : Passes IsGood (read_based_lng bs)
  unfolding read_based_lng
  lng_passes least at m next r =
      by_follow (field 4 bs at) _ m next r (λ epoch a f r. by_check _ at _ m next r (λ ok r.
      by_follow (field 4 bs a) _ m next r (λ lng b g r. by_check _ a _ m next r (λ ok2 r. by_got (epoch, lng) m b next r (λ is n.
      subst (λ x. (least ≤ x.0) × IsGood x) is ((from_one least greatest_epoch epoch ok).0, lng_is lng ok2))))))

  -- ---- logs ----

  module _ (older : Bool) where
    tables_well : (g : Log) (at : ℕ) (h : Log) (next : ℕ) → g.sealed ≤ last_carried → Is64 g.trim → g.lost_to ≤ last_carried → read_tables bs older g at ≡ Got h next → IsLogState last_carried h
    unfolding read_tables
    tables_well g at h next sealed trim lost_to r =
        by_follow (read_table bs (read_based_summary bs older) at) _ h next r (λ summaries a f r.
        by_follow (read_table bs (read_based_lng bs) a) _ h next r (λ lngs b k r.
        by_follow (read_table bs (read_based_entry bs) b) _ h next r (λ entries last q r. by_got _ h last next r (λ is n.
        let stored = table_risen IsStored bs (read_based_entry bs) entry_passes b entries last q in
        subst (IsLogState last_carried) is (record {
          sealed = sealed;
          trim = trim;
          rise = stored.rise;
          entries = stored.each;
          summaries = (table_risen IsClosed bs (read_based_summary bs older) (summary_passes older) at summaries a f).each;
          lngs = (table_risen IsGood bs (read_based_lng bs) lng_passes a lngs b k).each;
          lost_to = lost_to;
        })))))

    log_passes : Passes (IsLogAt last_carried) (read_based_log bs older)
    unfolding read_based_log
    log_passes least at l next r =
        by_follow (field 4 bs at) _ l next r (λ log a f r. by_check _ at _ l next r (λ ok r.
        by_follow (field 4 bs a) _ l next r (λ sealed b g r. by_follow (field 8 bs b) _ l next r (λ trim c h r.
        by_follow (read_flag bs c) _ l next r (λ lost d k r. by_follow (field 4 bs d) _ l next r (λ lost_to e q r.
        by_follow (read_tables bs older _ e) _ l next r (λ s last t r. by_got (log, s) l last next r (λ is n.
        let i = from_one least 65535 log ok in
        let state = tables_well _ e s last (omega (arith, (field_spells 4 bs a sealed b bytes g).fits)) (omega (arith, (field_spells 8 bs b trim c bytes h).fits))
        (omega (arith, (field_spells 4 bs d lost_to e bytes q).fits)) t in
        subst (λ x. (least ≤ x.0) × IsLogAt last_carried x) is (i.0, record { log = (i.1, i.2); state = state })))))))))

-- ---- the index ----

pub judged_well : (bs : List ℕ) (older : Bool) (at : ℕ) (p : Plain) (next : ℕ) → AreBytes bs → at ≤ length bs → read_index bs older at ≡ Got p next → IsPlain last_carried p
unfolding read_index
judged_well bs older at p next bytes there r =
    by_follow (field 4 bs at) _ p next r (λ generation a f r.
    by_follow (field 2 bs a) _ p next r (λ count b g r.
    by_follow (read_rising (read_based_log bs older) count 0 b) _ p next r (λ logs last h r. by_got _ p last next r (λ is n.
    subst (IsPlain last_carried) is (record {
      generation = omega (arith, (field_spells 4 bs at generation a bytes f).fits);
      logs = (risen (IsLogAt last_carried) (read_based_log bs older) (log_passes bs bytes older) count 0 b logs last h).each;
    })))))
