-- Payloads stand before the disk's end.
use Rattle.std.proofs.Common.{◌≡◌, ⊎_elim, ℕ, ◌+◌, ◌-◌, ◌≤◌, ◌<◌, List, [], ◌∷◌, map, length, nat_lt, Option, None, Some, true, cond, refl, sym, ◌∙◌, ap, arith}
use Rattle.std.proofs.lemmas.Bool.Decides.{nat_tests}
use Rattle.ld_table.specs.Table.{find, map_values}
use Rattle.ld_table.specs.Words.{is_in}
use Rattle.ld_table.proofs.Laws.{put_cases}
use Rattle.ld_msg.specs.declared.msg.What.{What}
use Rattle.ld_msg.specs.declared.msg.What.TheVariants.{Rec, Hole, Bridge, Plug, Withheld}
use Rattle.ld_msg.specs.declared.msg.Entry.{Entry}
use Rattle.ld_op.specs.declared.version.Version.{Version}
use Rattle.ld_op.specs.Plain.{Log}
use Rattle.ld_op.specs.Cells.{each_what, each_entry, each_log, each_plain}
use Rattle.ld_op.proofs.Agree.{plain_same}
use Rattle.ld_layout.specs.Areas.{IsHeld}
use Rattle.ld_layout.specs.Layout.{Layout, Segment, closed_areas, IfSegment}
use Rattle.ld_segment.specs.Lies.{Slots, IsIndexed, LiesAs, IsSound, gate_in}
use Rattle.ld_segment.proofs.More.{row_inside}
use Rattle.ld_segment.proofs.Standing.{one_is}
use Rattle.ld_store.specs.Open.{within}

-- ---- each number as it is ----

abbrev same_number : ℕ → ℕ
same_number k = k

numbers_same : (p : List ℕ) → map same_number p ≡ p
numbers_same [] = refl
numbers_same (k ∷ p) = ap (λ l. k ∷ l) (numbers_same p)

what_same : (w : What) → each_what same_number w ≡ w
what_same (Rec p) = ap Rec (numbers_same p)
what_same Hole = refl
what_same Bridge = refl
what_same Plug = refl
what_same Withheld = refl

entries_same : (m : List (ℕ × Entry)) → map_values (each_entry same_number) m ≡ m
entries_same [] = refl
entries_same (e ∷ m) = (λ i. (e.0, record { number = e.1.number; ballot = e.1.ballot; what = what_same e.1.what i }) ∷ entries_same m i)

logs_same : (m : List (ℕ × Log)) → map_values (each_log same_number) m ≡ m
logs_same [] = refl
logs_same (l ∷ m) = (λ i. (l.0, record l.1 { entries = entries_same l.1.entries i }) ∷ logs_same m i)

-- ---- before the end ----

pub number_within : (n k : ℕ) → k < n → within n k ≡ k
number_within n k less = let test : nat_lt k n ≡ true = grind (arith, nat_tests) in ap (λ b. cond b k (k + 1)) test

module _ (version : Version) (y : Layout) (z : Slots) (b : List ℕ) (lies : LiesAs version y z b) (sound : IsSound y) where
  ends : (a : Option Segment) → IfSegment a → (is : IsIndexed lies.first version y z a lies.records b) → gate_in y a + 1 ≤ length b → (k v : ℕ) → find k (closed_areas y a) ≡ Some v → k + v ≤ length b
  ends None segment is gate k v found = let one = one_is 0 (y.end + 1) k v found in omega (arith, one.0, one.1, gate)
  ends (Some g) segment is gate k v found = ⊎_elim
      (λ here. (let long : g.end + 1 - g.place ≡ v = (let same : Some (g.end + 1 - g.place) ≡ Some v = sym here.1 ∙ found in cc same) in omega (arith, here.0, long, segment.begun, gate)))
      (λ there. is.within k v (sym there.1 ∙ found))
      (put_cases k g.place (g.end + 1 - g.place) g.areas)

  before : (k v : ℕ) → find k (closed_areas y y.later) ≡ Some v → k + v ≤ length b
  before = ends y.later sound.laid.segment lies.index_is (row_inside lies.first version y z lies.records b lies.end_is y.later lies.index_is lies.journal)

  held_within : (p : List ℕ) (k : ℕ) → IsHeld p (closed_areas y y.later) → is_in k p ≡ true → k < length b
  held_within [] k held there = absurd (cc there)
  held_within (j ∷ p) k held there = let w = held.within k there in omega (arith, w.1, before held.place held.length held.found)

  pub inside : each_plain (within (length b)) y.index ≡ y.index
  inside =
      plain_same (within (length b)) same_number y.index sound.index.ordered (λ l n h e p k at_l at_n is there. number_within (length b) k (held_within p k (sound.held l n h e p at_l at_n is) there))
      ∙ ap (λ m. record y.index { logs = m }) (logs_same y.index.logs)
