-- Bytes are a journal of one list of records at most, with a head behind it or without.
use Rattle.std.proofs.Common.{◌≡◌, ◌+◌, ℕ, List, [], ◌∷◌, ◌++◌, Option, Some, None, is_some, refl, sym, ap, arith}
use Rattle.ld_op.specs.declared.op.Op.{Op}
use Rattle.ld_op.specs.declared.op.Op.TheVariants as ops
use Rattle.ld_op.specs.declared.record.Record.{Record}
use Rattle.ld_op.specs.declared.record.Record.TheVariants.{Now, Before, Mark}
use Rattle.ld_op.specs.Bytes.{op_bytes, older_bytes, record_bytes}
use Rattle.ld_layout.specs.Layout.{Layout, Segment}
use Rattle.ld_segment.specs.Slots.{head_bytes}
use Rattle.ld_segment.specs.Ops.{bodies_of, AreRecords}
use Rattle.ld_segment.specs.Lies.{head_of}
use Rattle.ld_segment.proofs.Bodies.{same_record}

abbrev front_of : List (List ℕ) → List ℕ
front_of [] = []
front_of (b ∷ bs) = b

abbrev tail_of : List (List ℕ) → List (List ℕ)
tail_of [] = []
tail_of (b ∷ bs) = bs

abbrev first_byte : List ℕ → ℕ
first_byte [] = 0
first_byte (b ∷ bs) = b

pub same_records : (us vs : List Record) → AreRecords us → AreRecords vs → bodies_of us ≡ bodies_of vs → us ≡ vs
same_records [] [] a b same = refl
same_records [] (v ∷ vs) a b same = absurd (cc same)
same_records (u ∷ us) [] a b same = absurd (cc same)
same_records (u ∷ us) (v ∷ vs) a b same =
    let first = same_record u v a.0 b.0 (ap front_of same) in
    let rest = same_records us vs a.1 b.1 (ap tail_of same) in λ i. first i ∷ rest i

-- ---- no record is a head ----

op_first : (o : Op) (n : ℕ) → op_bytes o ≡ head_bytes n → ⊥
unfolding op_bytes
op_first (ops.Format generation epochs) n same = omega (arith, ap first_byte same)
op_first (ops.Accept l lng e) n same = omega (arith, ap first_byte same)
op_first (ops.Seal l b) n same = omega (arith, ap first_byte same)
op_first (ops.Clean l epoch y) n same = omega (arith, ap first_byte same)
op_first (ops.Trim l t) n same = omega (arith, ap first_byte same)
op_first (ops.Refill l es) n same = omega (arith, ap first_byte same)
op_first (ops.Refilled l) n same = omega (arith, ap first_byte same)

older_first : (o : Op) (n : ℕ) → older_bytes o ≡ head_bytes n → ⊥
unfolding older_bytes
older_first (ops.Format generation epochs) n same = omega (arith, ap first_byte same)
older_first (ops.Accept l lng e) n same = omega (arith, ap first_byte same)
older_first (ops.Seal l b) n same = omega (arith, ap first_byte same)
older_first (ops.Clean l epoch y) n same = omega (arith, ap first_byte same)
older_first (ops.Trim l t) n same = omega (arith, ap first_byte same)
older_first (ops.Refill l es) n same = omega (arith, ap first_byte same)
older_first (ops.Refilled l) n same = omega (arith, ap first_byte same)

pub no_head : (v : Record) (n : ℕ) → record_bytes v ≡ head_bytes n → ⊥
no_head (Now o) n same = op_first o n same
no_head (Before o) n same = older_first o n same
no_head Mark n same = omega (arith, ap first_byte same)

-- what stands behind the records of one list isn't a record of the other
none_there : (y : Layout) (a : Option Segment) (v : Record) (more : List (List ℕ)) → head_of y a ≡ record_bytes v ∷ more → ⊥
none_there y None v more same = absurd (cc same)
none_there y (Some g) v more same = no_head v (y.end + 15) (sym (ap front_of same))

same_kind : (y w : Layout) (a b : Option Segment) → head_of y a ≡ head_of w b → is_some a ≡ is_some b
same_kind y w None None same = refl
same_kind y w None (Some h) same = absurd (cc same)
same_kind y w (Some g) None same = absurd (cc same)
same_kind y w (Some g) (Some h) same = refl

pub same_rows : (y w : Layout) (a b : Option Segment) (us vs : List Record) → AreRecords us → AreRecords vs → bodies_of us ++ head_of y a ≡ bodies_of vs ++ head_of w b → (us ≡ vs) × (is_some a ≡ is_some b)
same_rows y w a b [] [] here there same = (refl, same_kind y w a b same)
same_rows y w a b [] (v ∷ vs) here there same = absurd (none_there y a v (bodies_of vs ++ head_of w b) same)
same_rows y w a b (u ∷ us) [] here there same = absurd (none_there w b u (bodies_of us ++ head_of y a) (sym same))
same_rows y w a b (u ∷ us) (v ∷ vs) here there same =
    let first = same_record u v here.0 there.0 (ap front_of same) in
    let rest = same_rows y w a b us vs here.1 there.1 (ap tail_of same) in (λ i. first i ∷ rest.0 i, rest.1)
