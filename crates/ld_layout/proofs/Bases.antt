-- The bytes of a Base are read as that Base.
use Rattle.std.proofs.Common.{◌≡◌, ◌<◌, ◌≤◌, ◌==◌, ℕ, true, cond, List, [], ◌++◌, refl, ap, sym, ◌∙◌, append_assoc, length, nat_le, arith}
use Rattle.std.proofs.lemmas.Bool.Decides.{nat_tests}
use Rattle.byteorder.specs.Endian.{big_bytes}
use Rattle.ld_fields.specs.Fields.{Got, Off, follow, check, field, end_at}
use Rattle.ld_fields.proofs.Spelling.{Stands, nothing, at_end, Reads, field_reads, follow_reads, check_reads, got_reads}
use Rattle.ld_op.specs.Plain.{Plain}
use Rattle.ld_op.specs.Indexed.{index_bytes, read_index, read_table, IsBased, IsBasedTable}
use Rattle.ld_op.proofs.Basing.{table_reads, index_reads}
use Rattle.ld_layout.specs.Base.{Base, areas_based, base_bytes, read_area, is_base_kind, judge_base, IsBasedArea}

area_reads : (bs : List ℕ) (a : ℕ × ℕ) (least at : ℕ) (ys : List ℕ) → IsBasedArea a → least ≤ a.0 → Stands bs at ((big_bytes 8 a.0 ++ big_bytes 8 a.1) ++ ys) → Reads bs (read_area bs least at) a ys
unfolding read_area
area_reads bs a least at ys i l s =
    follow_reads bs (field 8 bs at) _ a.0 a _ ys (field_reads 7 a.0 bs at (big_bytes 8 a.1 ++ ys) (let b = i.place in omega arith) s) (λ at_length t.
    check_reads bs _ at _ a ys (grind (arith, nat_tests))
    (follow_reads bs (field 8 bs at_length) _ a.1 a _ ys (field_reads 7 a.1 bs at_length ys (let b = i.length in omega arith) t) (λ next u. got_reads bs a next ys u)))

areas_read : (bs : List ℕ) (areas : List (ℕ × ℕ)) (at : ℕ) → IsBasedTable IsBasedArea areas → Stands bs at (big_bytes 4 (length areas) ++ areas_based areas) → Reads bs (read_table bs (read_area bs) at) areas []
areas_read bs areas at i s = table_reads bs (read_area bs) (λ a. big_bytes 8 a.0 ++ big_bytes 8 a.1) areas_based IsBasedArea refl (λ a m. sym (append_assoc (big_bytes 8 a.0) (big_bytes 8 a.1) (areas_based m))) (area_reads bs) areas at [] i (nothing bs at _ s)

module _ (kind : ℕ) (p : Plain) (areas : List (ℕ × ℕ)) where
  abbrev whole : Base
  whole = record { kind = kind; index = p; areas = areas }

  pub base_judged : kind < 256 → is_base_kind kind ≡ true → IsBased (kind == 9) p → IsBasedTable IsBasedArea areas → judge_base (base_bytes kind p areas) ≡ Got whole (length (base_bytes kind p areas))
  unfolding judge_base base_bytes
  base_judged f k i a =
      let bs : List ℕ = big_bytes 1 kind ++ (index_bytes p ++ (big_bytes 4 (length areas) ++ areas_based areas)) in
      let r = follow_reads bs (field 1 bs 0) (λ kind at. check (is_base_kind kind) 0 (
      follow (read_index bs (kind == 9) at) (λ index at_areas. follow (read_table bs (read_area bs) at_areas) (λ areas next. end_at bs next (record { kind = kind; index = index; areas = areas })))))
      kind whole (index_bytes p ++ (big_bytes 4 (length areas) ++ areas_based areas)) []
      (field_reads 0 kind bs 0 (index_bytes p ++ (big_bytes 4 (length areas) ++ areas_based areas)) f (record { within = omega arith; there = refl })) (λ at s.
      check_reads bs (is_base_kind kind) 0 _ whole [] k
      (follow_reads bs (read_index bs (kind == 9) at) _ p whole (big_bytes 4 (length areas) ++ areas_based areas) [] (index_reads bs (kind == 9) p at (big_bytes 4 (length areas) ++ areas_based areas) i s) (λ at_areas t.
      follow_reads bs (read_table bs (read_area bs) at_areas) _ areas whole [] [] (areas_read bs areas at_areas a t) (λ next u.
      record { next = next; is = let b : nat_le (length bs) next ≡ true = (let n = at_end bs next u in grind (arith, nat_tests)) in ap (λ b. cond b (Got whole next) (Off next)) b; behind = u })))) in
      r.is ∙ ap (λ n. Got whole n) (at_end bs r.next r.behind)
