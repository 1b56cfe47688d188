-- One look after the other.
use Rattle.std.proofs.Common.{◌≡◌, ◌≤◌, ℕ, List, ◌++◌, [], refl, sym, ap, ◌∙◌, arith, append_assoc}
use Rattle.std.proofs.lemmas.List.{append-nil}
use Rattle.ld_msg.specs.Register.{Register}
use Rattle.ld_operate.specs.declared.stop.LookStop.{LookStop}
use Rattle.ld_operate.specs.declared.stop.LookStop.TheVariants as stops
use Rattle.ld_operate.specs.Looking.{IsLookStop, IsStop, OnlyLooks}
use Rattle.ld_operate.specs.Output.{WritesPart}

pub looks_here : {t : Type 0} {m x : Register → Type 0} {f i : ℕ} → OnlyLooks t t m m x x f f i i
looks_here = record { told = λ h. h; same = λ c h. h; exact = λ c h. h; counts = omega arith; itself = refl }

pub looks_on : {ta tb tc : Type 0} {ma mb mc xa xb xc : Register → Type 0} {fa fb fc ia ib ic : ℕ}
    → OnlyLooks ta tb ma mb xa xb fa fb ia ib → OnlyLooks tb tc mb mc xb xc fb fc ib ic → OnlyLooks ta tc ma mc xa xc fa fc ia ic
looks_on p q = record {
  told = λ h. q.told (p.told h);
  same = λ c h. p.same c (q.same c h);
  exact = λ c h. q.exact c (p.exact c h);
  counts = (let x = p.counts in let y = q.counts in omega (arith, x, y));
  itself = q.itself ∙ p.itself;
}

-- a look is all that was done
pub by_look : (P : ℕ → Type 0) (k n b m : ℕ) (stop : LookStop) → IsLookStop P k n stop → IsStop P k n b m stop
by_look P k n b m stops.Register h = h
by_look P k n b m (stops.Damaged place) h = h
by_look P k n b m stops.Write h = absurd h
by_look P k n b m stops.NoMemory h = tt

-- it was so from an earlier moment on
pub stop_since : (P Q : ℕ → Type 0) (j k n a b m : ℕ) (stop : LookStop) → j ≤ k → a ≤ b → ((place : ℕ) → P place → Q place) → IsStop P k n b m stop → IsStop Q j n a m stop
stop_since P Q j k n a b m stops.Register l r f h = omega arith
stop_since P Q j k n a b m (stops.Damaged place) l r f h = f place h
stop_since P Q j k n a b m stops.Write l r f h = omega arith
stop_since P Q j k n a b m stops.NoMemory l r f h = tt

-- ---- what is written ----

pub part_here : (a bytes : List ℕ) → WritesPart a a bytes
part_here a bytes = record { part = []; missing = bytes; written = sym (append-nil a); whole = refl }

-- all of the first text, and a part of the next
pub part_on : (a b c xs ys : List ℕ) → b ≡ a ++ xs → WritesPart b c ys → WritesPart a c (xs ++ ys)
part_on a b c xs ys p q = record {
  part = xs ++ q.part;
  missing = q.missing;
  written = q.written ∙ ap (λ l. l ++ q.part) p ∙ append_assoc a xs q.part;
  whole = ap (λ l. xs ++ l) q.whole ∙ sym (append_assoc xs q.part q.missing);
}

-- a part of the first text
pub part_of : (a b xs ys : List ℕ) → WritesPart a b xs → WritesPart a b (xs ++ ys)
part_of a b xs ys p = record {
  part = p.part;
  missing = p.missing ++ ys;
  written = p.written;
  whole = ap (λ l. l ++ ys) p.whole ∙ append_assoc p.part p.missing ys;
}

pub both_on : (a b c xs ys : List ℕ) → b ≡ a ++ xs → c ≡ b ++ ys → c ≡ a ++ (xs ++ ys)
both_on a b c xs ys p q = q ∙ ap (λ l. l ++ ys) p ∙ append_assoc a xs ys
