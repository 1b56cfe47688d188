-- An index reads the same where the bytes under it are.
use Rattle.std.proofs.Common.{◌≡◌, ℕ, List, [], ◌∷◌, map, Some, true, ◌==◌, refl, ap, ◌∙◌, arith}
use Rattle.std.specs.List.{AllByRecursion}
use Rattle.std.proofs.lemmas.Bool.{or_left, or_right}
use Rattle.std.proofs.lemmas.Bool.Decides.{nat_tests}
use Rattle.ld_table.specs.Table.{find, map_values, Ordered}
use Rattle.ld_table.specs.Words.{is_in}
use Rattle.ld_table.proofs.Order.{found}
use Rattle.ld_msg.specs.declared.msg.What.{What}
use Rattle.ld_msg.specs.declared.msg.What.TheVariants.{Rec, Hole, Bridge, Plug, Withheld}
use Rattle.ld_op.specs.declared.op.Op.{Op}
use Rattle.ld_op.specs.Plain.{Plain, apply}
use Rattle.ld_op.specs.Cells.{each_what, each_entry, each_log, each_plain, each_op, byte_at, read_plain, placed, IsOrdered, AgreeOn}
use Rattle.ld_op.proofs.Cells.{apply_same}

module _ {X Y : Type 0} (f g : X → Y) (m : List (ℕ × X)) (same : (k : ℕ) (x : X) → find k m ≡ Some x → f x ≡ g x) where
  by : (xs : List (ℕ × X)) → AllByRecursion (λ e. find e.0 m ≡ Some e.1) xs → map_values f xs ≡ map_values g xs
  by [] all = refl
  by (e ∷ xs) all = (λ i. (e.0, same e.0 e.1 all.0 i) ∷ by xs all.1 i)

  table_same : Ordered m → map_values f m ≡ map_values g m
  table_same ordered = by m (found m ordered)

first_in : (k : ℕ) (ks : List ℕ) → is_in k (k ∷ ks) ≡ true
first_in k ks = or_left (k == k) (is_in k ks) (let l : (k == k) ≡ true = grind (arith, nat_tests) in l)

module _ (f g : ℕ → ℕ) where
  cells : (p : List ℕ) → ((k : ℕ) → is_in k p ≡ true → f k ≡ g k) → map f p ≡ map g p
  cells [] same = refl
  cells (k ∷ p) same = (λ i. same k (first_in k p) i ∷ cells p (λ j is. same j (or_right (k == j) (is_in j p) is)) i)

  what_same : (w : What) → ((p : List ℕ) (k : ℕ) → w ≡ Rec p → is_in k p ≡ true → f k ≡ g k) → each_what f w ≡ each_what g w
  what_same (Rec p) same = ap Rec (cells p (λ k is. same p k refl is))
  what_same Hole same = refl
  what_same Bridge same = refl
  what_same Plug same = refl
  what_same Withheld same = refl

  pub plain_same : (i : Plain) → IsOrdered i → AgreeOn f g i → each_plain f i ≡ each_plain g i
  plain_same i ordered agree = ap (λ m. record { generation = i.generation; logs = m })
      (table_same (each_log f) (each_log g) i.logs
      (λ l h at_l. ap (λ m. record h { entries = m })
      (table_same (each_entry f) (each_entry g) h.entries
      (λ n e at_n. ap (λ w. record { number = e.number; ballot = e.ballot; what = w }) (what_same e.what (λ p k is there. agree l n h e p k at_l at_n is there)))
      (ordered.entries l h at_l)))
      ordered.logs)

-- once an op's body stands on the disk, and the bytes under the index are as they were, the index with the op represents the state with the op
pub op_reads : (i : Plain) (o : Op) (at : ℕ) (before now : List ℕ) → read_plain now i ≡ read_plain before i → each_op (byte_at now) (placed at o) ≡ o → read_plain now (apply i (placed at o)) ≡ apply (read_plain before i) o
op_reads i o at before now same is = apply_same (byte_at now) i (placed at o) ∙ (λ j. apply (same j) (is j))
