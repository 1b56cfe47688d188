-- A record's payloads stand in its segment's area, and the areas of before stay.
use Rattle.std.proofs.Common.{◌≡◌, refl, ⊎_elim, ℕ, ◌+◌, ◌-◌, ◌≤◌, ◌<◌, List, [], ◌∷◌, Option, None, Some, true, sym, ap, subst, ◌∙◌, arith, if◌then◌else◌}
use Rattle.ld_table.specs.Table.{find, put}
use Rattle.ld_table.proofs.Laws.{put_cases, find-put_same, find-put_other, find-empty}
use Rattle.ld_msg.specs.Register.{record_length}
use Rattle.ld_op.specs.declared.op.Op.{Op}
use Rattle.ld_op.specs.Plain.{op_length}
use Rattle.ld_table.specs.Words.{is_in}
use Rattle.ld_layout.specs.Areas.{IsInside, IsHeld}
use Rattle.ld_layout.specs.Layout.{Layout, Segment, closed_areas, gate_of, is_first, later_with, with_record, IfSegment, IsLaid}

-- the offset behind the ending gate, once a record stands there
abbrev grown : Layout → ℕ → Option Segment → List (ℕ × ℕ)
grown y body None = (0, y.end + record_length body + 1) ∷ []
grown y body (Some g) = put g.place (g.end + record_length body + 1 - g.place) g.areas

one_is : (k v i w : ℕ) → find i ((k, v) ∷ []) ≡ Some w → (i ≡ k) × (w ≡ v)
unfolding put
one_is k v i w found = ⊎_elim
    (λ here. (here.0, (let same : Some v ≡ Some w = sym here.1 ∙ found in sym (cc same))))
    (λ there. absurd (let none : None ≡ Some w = sym (there.1 ∙ find-empty i) ∙ found in cc none))
    (put_cases i k v [])

one_found : (k v : ℕ) → find k ((k, v) ∷ []) ≡ Some v
unfolding put
one_found k v = find-put_same k k v [] refl

-- payloads of before stay inside
pub old_inside : (y : Layout) (body : ℕ) (g : Option Segment) (ks : List ℕ) → IfSegment g → IsInside ks (closed_areas y g) → IsInside ks (grown y body g)
old_inside y body None ks is one =
    let first = one_is 0 (y.end + 1) one.place one.length one.found in
    record {
      place = 0;
      length = y.end + record_length body + 1;
      found = one_found 0 (y.end + record_length body + 1);
      within = λ k there. (omega arith, (let w = one.within k there in omega (arith, w.1, first.0, first.1)));
    }
old_inside y body (Some g) ks is one = ⊎_elim
    (λ here.
    let long : g.end + 1 - g.place ≡ one.length = (let same : Some (g.end + 1 - g.place) ≡ Some one.length = sym here.1 ∙ one.found in cc same) in
    record {
      place = g.place;
      length = g.end + record_length body + 1 - g.place;
      found = find-put_same g.place g.place (g.end + record_length body + 1 - g.place) g.areas refl;
      within = λ k there. (let w = one.within k there in (omega (arith, w.0, here.0), omega (arith, w.1, long, here.0, is.begun)));
    })
    (λ there. record {
      place = one.place;
      length = one.length;
      found = find-put_other one.place g.place (g.end + record_length body + 1 - g.place) g.areas there.0 ∙ (sym there.1 ∙ one.found);
      within = one.within;
    })
    (put_cases one.place g.place (g.end + 1 - g.place) g.areas)

-- offsets of the record
abbrev pub AreOfRecord : Layout → ℕ → Option Segment → List ℕ → Type 0
AreOfRecord y body g ks = (k : ℕ) → is_in k ks ≡ true → (gate_of y g ≤ k) × (k < gate_of y g + record_length body)

-- and so does each payload of the record
pub new_inside : (y : Layout) (body : ℕ) (g : Option Segment) (ks : List ℕ) → IfSegment g → AreOfRecord y body g ks → IsInside ks (grown y body g)
new_inside y body None ks is of = record {
  place = 0;
  length = y.end + record_length body + 1;
  found = one_found 0 (y.end + record_length body + 1);
  within = λ k there. (omega arith, (let w = of k there in omega (arith, w.1)));
}
new_inside y body (Some g) ks is of = record {
  place = g.place;
  length = g.end + record_length body + 1 - g.place;
  found = find-put_same g.place g.place (g.end + record_length body + 1 - g.place) g.areas refl;
  within = λ k there. (let w = of k there in (omega (arith, w.0, is.begun), omega (arith, w.0, w.1, is.begun)));
}

-- these are the areas of the layout with the record
areas_by : (y z : Layout) (body : ℕ) (g : Option Segment) → z.end ≡ (if is_first g then y.end + record_length body else y.end) → closed_areas z (later_with g body) ≡ grown y body g
areas_by y z body None is = ap (λ (k : ℕ). (0, k + 1) ∷ []) is
areas_by y z body (Some g) is = refl

pub grown_is : (y : Layout) (o : Op) → closed_areas (with_record y o) (with_record y o).later ≡ grown y (op_length o) y.later
unfolding with_record
grown_is y o = areas_by y (with_record y o) (op_length o) y.later refl

pub record_keeps : (y : Layout) (o : Op) (p : List ℕ) → IsLaid y → IsHeld p (closed_areas y y.later) → IsHeld p (closed_areas (with_record y o) (with_record y o).later)
record_keeps y o [] laid held = tt
record_keeps y o (k ∷ ks) laid held = subst (λ m. IsInside (k ∷ ks) m) (sym (grown_is y o)) (old_inside y (op_length o) y.later (k ∷ ks) laid.segment held)

pub record_holds : (y : Layout) (o : Op) (p : List ℕ) → IsLaid y → AreOfRecord y (op_length o) y.later p → IsHeld p (closed_areas (with_record y o) (with_record y o).later)
record_holds y o [] laid of = tt
record_holds y o (k ∷ ks) laid of = subst (λ m. IsInside (k ∷ ks) m) (sym (grown_is y o)) (new_inside y (op_length o) y.later (k ∷ ks) laid.segment of)
