-- The segment that a switch begins, by its numbers.
use Rattle.std.proofs.Common.{◌≡◌, ◌⊎◌, ⊎_elim, ◌<◌, ◌≤◌, ◌+◌, ◌*◌, ◌-◌, ◌^◌, ◌||◌, min, ℕ, Bool, true, false, List, [], ◌∷◌, ◌++◌, Option, None, Some, IfSome, IfNone, is_none, cond, ◌&&◌, refl, ap, sym, ◌∙◌, length, length-append, nat_lt, nat_le, arith}
use Rattle.std.proofs.lemmas.Bool.{or_left, or_right, or_from}
use Rattle.std.proofs.lemmas.Bool.Decides.{nat_tests}
use Rattle.byteorder.specs.Endian.{big_bytes}
use Rattle.ld_msg.specs.declared.msg.What.{What}
use Rattle.ld_msg.specs.declared.msg.What.TheVariants.{Rec, Hole, Bridge, Plug, Withheld}
use Rattle.ld_msg.specs.declared.msg.Entry.{Entry}
use Rattle.ld_msg.specs.Register.{journal_limit, record_length}
use Rattle.ld_op.specs.Plain.{Plain, Log}
use Rattle.ld_op.specs.Indexed as indexed
use Rattle.ld_op.specs.Indexed.{index_bytes}
use Rattle.ld_layout.specs.Base.{areas_based, base_bytes}
use Rattle.ld_layout.specs.Layout.{Segment, Layout, segment_at, base_length, based_length, entries_based, logs_based, entry_count, with_record, laid_for, kept_in, new_segment, switches, switched_to, passes_in, passes_limit}
use Rattle.ld_op.specs.declared.op.Op.{Op}
use Rattle.ld_op.specs.Plain.{apply, op_length}
use Rattle.ld_op.specs.Cells.{placed}
use Rattle.ld_layout.specs.declared.segment.Segment.{Segment as Stretch}
use Rattle.ld_layout.specs.declared.segment.Layout.{Layout as Plan}
use Rattle.ld_layout.specs.LaidOut.{is_past, segment_of, passes_first, laid_out, later_of, gate_behind, recorded, recorded_in, more_ops}
use Rattle.ld_layout.proofs.Lengths.{base_long, areas_long}
use Rattle.ld_layout.specs.declared.segment.Growth.{Growth}

-- ---- a Base's length ----

length_by : (p : Plain) (areas : List (ℕ × ℕ)) → length (base_bytes 13 p areas) ≡ 5 + length (index_bytes p) + 16 * length areas
unfolding base_bytes
length_by p areas = let a = areas_long areas in omega (arith, length-append (index_bytes p) (big_bytes 4 (length areas) ++ areas_based areas), a)

pub base_is : (p : Plain) (areas : List (ℕ × ℕ)) → base_length p areas ≡ 5 + length (index_bytes p) + 16 * length areas
base_is p areas = sym (base_long 13 p areas) ∙ length_by p areas

pub base_sum : (p : Plain) (areas : List (ℕ × ℕ)) (i n : ℕ) → i ≡ min (length (index_bytes p)) (2 ^ 64 - 1) → n ≡ length areas
    → min (min (i + min (n * 16) (2 ^ 64 - 1)) (2 ^ 64 - 1) + 5) (2 ^ 64 - 1) ≡ min (base_length p areas) (2 ^ 64 - 1)
base_sum p areas i n a b = let e = base_is p areas in omega arith

-- ---- its entries ----

counts_same : (ls : List (ℕ × Log)) → indexed.entry_count ls ≡ entry_count ls
counts_same [] = refl
counts_same (l ∷ ls) = ap (λ n. length l.1.entries + n) (counts_same ls)

entry_most : (w : What) → 1 ≤ based_length w
entry_most (Rec p) = omega arith
entry_most Hole = omega arith
entry_most Bridge = omega arith
entry_most Plug = omega arith
entry_most Withheld = omega arith

entries_most : (es : List (ℕ × Entry)) → length es ≤ entries_based es
entries_most [] = omega arith
entries_most (e ∷ es) = let a = entry_most e.1.what in let b = entries_most es in omega arith

logs_most : (ls : List (ℕ × Log)) → entry_count ls ≤ logs_based ls
logs_most [] = omega arith
logs_most (l ∷ ls) = let a = entries_most l.1.entries in let b = logs_most ls in omega arith

-- a Base that isn't too long has few entries
pub count_is : (p : Plain) (areas : List (ℕ × ℕ)) (n : ℕ) → n ≡ min (indexed.entry_count p.logs) (2 ^ 64 - 1) → base_length p areas < 2 ^ 32 → n ≡ entry_count p.logs
count_is p areas n h l = let a = counts_same p.logs in let b = logs_most p.logs in omega arith

-- ---- the segment ----

pub segment_is : (place base entries room number : ℕ) (areas : List (ℕ × ℕ)) (grows : Growth) (g : Segment) → g.place ≡ place → g.based ≡ entries → g.ops ≡ 0 → g.end ≡ g.place + 5 + base → g.limit ≡ g.place + 6 + base + room → g.areas ≡ areas → g.number ≡ number → g.grows ≡ grows
    → g ≡ segment_at place base entries room areas number grows
segment_is place base entries room number areas grows g a b o e l s n w =
    let f : g.end ≡ place + 5 + base = e ∙ ap (λ k. k + 5 + base) a in
    let m : g.limit ≡ place + 6 + base + room = l ∙ ap (λ k. k + 6 + base + room) a in
    λ i. record { place = a i; based = b i; ops = o i; end = f i; limit = m i; areas = s i; number = n i; grows = w i }

pub is_past_by : (p : Plain) (g : Segment) → (journal_limit < g.limit) ⊎ ((2 ^ 32 ≤ base_length p g.areas) ⊎ (2 ^ 64 ≤ g.number)) → is_past p g ≡ true
is_past_by p g h = ⊎_elim
    (λ l. or_left (nat_lt journal_limit g.limit) (nat_le (2 ^ 32) (base_length p g.areas) || nat_le (2 ^ 64) g.number) (let t : nat_lt journal_limit g.limit ≡ true = grind (arith, nat_tests) in t))
    (λ r. or_right (nat_lt journal_limit g.limit) (nat_le (2 ^ 32) (base_length p g.areas) || nat_le (2 ^ 64) g.number) (⊎_elim
    (λ b. or_left (nat_le (2 ^ 32) (base_length p g.areas)) (nat_le (2 ^ 64) g.number) (let t : nat_le (2 ^ 32) (base_length p g.areas) ≡ true = grind (arith, nat_tests) in t))
    (λ n. or_right (nat_le (2 ^ 32) (base_length p g.areas)) (nat_le (2 ^ 64) g.number) (let t : nat_le (2 ^ 64) g.number ≡ true = grind (arith, nat_tests) in t)) r)) h

pub not_past : (p : Plain) (g : Segment) → g.limit ≤ journal_limit → base_length p g.areas < 2 ^ 32 → g.number < 2 ^ 64 → is_past p g ≡ false
not_past p g l b n = or_from (nat_lt journal_limit g.limit) _ (grind (arith, nat_tests)) (or_from (nat_le (2 ^ 32) (base_length p g.areas)) (nat_le (2 ^ 64) g.number) (grind (arith, nat_tests)) (grind (arith, nat_tests)))

-- ---- a switch ----

pub switched_is : (y : Plan) (g : Stretch) (index : Plain) (cause room : ℕ) → segment_of g ≡ new_segment (laid_out y index) cause room → laid_out (record y { later = Some g }) index ≡ switched_to (laid_out y index) cause room
unfolding switched_to
switched_is y g index cause room h = λ i. record { ops = y.ops; end = y.end; later = Some (h i); index = index; grows = y.grows }

-- ---- a record more ----

recorded_by : (grows : Growth) (ops end : ℕ) (later : Option Stretch) (index : Plain) (o : Op) → laid_out (recorded_in grows ops end later (op_length o) true) (apply index (placed (gate_behind end later + 5) o)) ≡ with_record (record { ops = ops; end = end; later = later_of later; index = index; grows = grows }) o
unfolding with_record
recorded_by grows ops end None index o = refl
recorded_by grows ops end (Some g) index o = refl

more_is : (is_op : Bool) (ops more : ℕ) → more ≡ cond is_op 1 0 → ops + more ≡ more_ops is_op ops
more_is true ops more h = omega arith
more_is false ops more h = omega arith

pub recorded_later : (y : Plan) (g : Stretch) (body more : ℕ) (is_op : Bool) → y.later ≡ Some g → more ≡ cond is_op 1 0
    → record { ops = y.ops; end = y.end; later = Some (record g { ops = g.ops + more; end = g.end + 5 + body }); grows = y.grows } ≡ recorded y body is_op
recorded_later y g body more is_op h m =
    let o = more_is is_op g.ops more m in
    let e : g.end + 5 + body ≡ g.end + record_length body = omega arith in
    (λ i. record { ops = y.ops; end = y.end; later = Some (record g { ops = o i; end = e i }); grows = y.grows }) ∙ sym (ap (λ l. recorded_in y.grows y.ops y.end l body is_op) h)

pub recorded_first : (y : Plan) (body more : ℕ) (is_op : Bool) → y.later ≡ None → more ≡ cond is_op 1 0 → record { ops = y.ops + more; end = y.end + 5 + body; later = None; grows = y.grows } ≡ recorded y body is_op
recorded_first y body more is_op h m =
    let o = more_is is_op y.ops more m in
    let e : y.end + 5 + body ≡ y.end + record_length body = omega arith in
    (λ i. record { ops = o i; end = e i; later = None; grows = y.grows }) ∙ sym (ap (λ l. recorded_in y.grows y.ops y.end l body is_op) h)

pub recorded_is : (y z : Plan) (index : Plain) (o : Op) (body : ℕ) (is_op : Bool) → z ≡ recorded y body is_op → is_op ≡ true → op_length o ≡ body → laid_out z (apply index (placed (gate_behind y.end y.later + 5) o)) ≡ with_record (laid_out y index) o
recorded_is y z index o body is_op h t e = ap (λ x. laid_out x (apply index (placed (gate_behind y.end y.later + 5) o))) (h ∙ (ap (recorded y body) t ∙ ap (λ n. recorded y n true) (sym e))) ∙ recorded_by y.grows y.ops y.end y.later index o

-- ---- answers ----

at_most : (a c : ℕ) → (a < c → c ≤ a) → c ≤ a
at_most a c h = elim (nat_lt a c) as (λ x. nat_lt a c ≡ x → c ≤ a) [
  | true ↦ λ e. h (grind (arith, nat_tests))
  | false ↦ λ e. grind (arith, nat_tests)
] refl

-- a switch passes the limit where there is no segment for it
pub none_is : (o : Option Stretch) (p : Plain) (g : Segment) → IfSome o (λ h. segment_of h ≡ g) → IfSome o (λ h. is_past p (segment_of h) ≡ false) → IfNone o (is_past p g ≡ true) → is_none o ≡ is_past p g
none_is None p g a b c = sym c
none_is (Some h) p g a b c = sym (ap (is_past p) (sym a) ∙ b)

module _ (y : Layout) (o : Op) where
  abbrev passed_by : Bool → Option Segment → Bool
  passed_by b None = nat_lt journal_limit (y.end + 1 + record_length (op_length o))
  passed_by b (Some g) = b && is_past y.index g

  same_pass : (x : Option Segment) → passes_in y o x ≡ passed_by (switches y (op_length o)) x
  same_pass None = refl
  same_pass (Some g) = refl

  passes_by : (b : Bool) → switches y (op_length o) ≡ b → passes_limit y o ≡ passed_by b (cond b (switched_to y (record_length (op_length o)) (record_length (op_length o))) y).later
  unfolding passes_limit
  passes_by b s = same_pass (cond (switches y (op_length o)) (switched_to y (record_length (op_length o)) (record_length (op_length o))) y).later
      ∙ ap (λ c. passed_by c (cond c (switched_to y (record_length (op_length o)) (record_length (op_length o))) y).later) s

  pub passes_then : (body : ℕ) → op_length o ≡ body → switches y body ≡ true → passes_limit y o ≡ is_past y.index (new_segment y (record_length body) (record_length body))
  unfolding switched_to
  passes_then body e s = passes_by true (ap (switches y) e ∙ s) ∙ ap (λ n. is_past y.index (new_segment y (record_length n) (record_length n))) e

else_by : (grows : Growth) (ops end : ℕ) (later : Option Stretch) (index : Plain) (o : Op) → passed_by (record { ops = ops; end = end; later = later_of later; index = index; grows = grows }) o false (later_of later) ≡ passes_first end (op_length o) later
else_by grows ops end None index o = refl
else_by grows ops end (Some g) index o = refl

pub passes_else : (plan : Plan) (index : Plain) (o : Op) (body : ℕ) → op_length o ≡ body → switches (laid_out plan index) body ≡ false → passes_limit (laid_out plan index) o ≡ passes_first plan.end body plan.later
passes_else plan index o body e s = passes_by (laid_out plan index) o false (ap (switches (laid_out plan index)) e ∙ s) ∙ (else_by plan.grows plan.ops plan.end plan.later index o ∙ ap (λ n. passes_first plan.end n plan.later) e)

pub same_less : (a b c : ℕ) → (a < b → a < c) → (a < c → a < b) → nat_lt a b ≡ nat_lt a c
same_less a b c f g = elim (nat_lt a b) as (λ x. nat_lt a b ≡ x → x ≡ nat_lt a c) [
  | true ↦ λ e. let l : a < b = grind (arith, nat_tests) in let m = f l in sym (let t : nat_lt a c ≡ true = grind (arith, nat_tests) in t)
  | false ↦ λ e. let n : c ≤ a = (let m : b ≤ a = grind (arith, nat_tests) in at_most a c (λ l. (let k = g l in absurd (omega arith)))) in sym (let t : nat_lt a c ≡ false = grind (arith, nat_tests) in t)
] refl

-- ---- whether the next segment is to grow ----

pub laid_growing : (y : Layout) (o : Op) (room : ℕ) → (laid_for y o room).grows ≡ y.grows
unfolding switched_to
laid_growing y o room = by (switches y (op_length o))
  where
    by : (b : Bool) → (cond b (switched_to y (record_length (op_length o)) room) y).grows ≡ y.grows
    by true = refl
    by false = refl

pub kept_growing : (y : Layout) (o : Op) → (kept_in y o).grows ≡ y.grows
unfolding with_record
kept_growing y o = laid_growing y o (record_length (op_length o))
