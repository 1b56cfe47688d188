-- Where an op's record, or the segment that it needs, would pass the journal's limit.
use Rattle.std.proofs.Common.{◌≡◌, Bool, true, false, if◌then◌else◌, refl, ap}
use Rattle.ld_op.specs.declared.op.Op.{Op}
use Rattle.ld_machine.specs.Disk.{Node, Failed, Fate, JournalFull, is_full_for, op_calls, kept_by, kept_end, keep_op, keep_end, fate}

false_if : (b : Bool) → (b ≡ true → ⊥) → b ≡ false
false_if true not_so = absurd (not_so refl)
false_if false not_so = refl

pub not_full : (x : Node) (o : Op) → (is_full_for x o ≡ true → ⊥) → is_full_for x o ≡ false
not_full x o within = false_if (is_full_for x o) within

-- ---- keeping an op ----

pub keep_full : (x : Node) (o : Op) → is_full_for x o ≡ true → (keep_op x o ≡ record x { status = Failed }) × (keep_end x o ≡ JournalFull)
unfolding keep_op keep_end
keep_full x o full = (
  ap (λ b. if b then record x { status = Failed } else kept_by x o (fate (op_calls x o) x.fault)) full,
  ap (λ b. if b then JournalFull else kept_end (fate (op_calls x o) x.fault)) full,
)

pub keep_by : (x : Node) (o : Op) (f : Fate) → is_full_for x o ≡ false → fate (op_calls x o) x.fault ≡ f → (keep_op x o ≡ kept_by x o f) × (keep_end x o ≡ kept_end f)
unfolding keep_op keep_end
keep_by x o f within fate_is = (
  (λ i. if within i then record x { status = Failed } else kept_by x o (fate_is i)),
  (λ i. if within i then JournalFull else kept_end (fate_is i)),
)
