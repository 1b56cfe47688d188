-- Lines of one epoch after the other.
use Rattle.std.proofs.Common.{◌≡◌, ◌≤◌, ℕ, zero, suc, ◌+◌, ◌-◌, List, ◌++◌, Bool, sym, ap, ◌∙◌, arith, append_assoc, subst}
use Rattle.std.specs.List.{flat_map, range_with_len}
use Rattle.std.proofs.lemmas.List.{append-nil}
use Rattle.std.specs.Prelude.{OnErr}
use Rattle.std.specs.declared.result.Result.{Result}
use Rattle.std.specs.declared.result.Result.TheVariants.{Ok, Err}
use Rattle.ld_msg.specs.Register.{Register, epochs_of}
use Rattle.ld_register.specs.Calls.{looked}
use Rattle.ld_operate.specs.declared.stop.LookStop.{LookStop}
use Rattle.ld_operate.specs.Output.{WritesPart}
use Rattle.ld_operate.specs.Shown.{log_line, epoch_line, epoch_lines, register_text}
use Rattle.ld_operate.proofs.Looks.{part_of, part_on}

pub one_line_more : (f : ℕ → List ℕ) (a n : ℕ) → flat_map f (range_with_len a (suc n)) ≡ flat_map f (range_with_len a n) ++ f (a + n)
one_line_more f a zero = let e : a + 0 ≡ a = omega arith in append-nil (f a) ∙ ap f (sym e)
one_line_more f a (suc n) =
    let e : (a + 1) + n ≡ a + suc n = omega arith in
    ap (λ l. f a ++ l) (one_line_more f (a + 1) n ∙ ap (λ k. flat_map f (range_with_len (a + 1) n) ++ f k) e)
    ∙ sym (append_assoc (f a) (flat_map f (range_with_len (a + 1) n)) (f (a + suc n)))

-- the line of an epoch behind those from one on up to it
pub line_more : (json : Bool) (c : Register) (log from epoch : ℕ) → from ≤ epoch → epoch_lines json c log from (epoch + 1 - from) ≡ epoch_lines json c log from (epoch - from) ++ epoch_line json epoch (looked c log epoch)
line_more json c log from epoch l =
    let n : epoch + 1 - from ≡ suc (epoch - from) = omega arith in
    let at : from + (epoch - from) ≡ epoch = omega arith in
    let f = λ (k : ℕ). epoch_line json k (looked c log k) in
    ap (epoch_lines json c log from) n ∙ one_line_more f from (epoch - from) ∙ ap (λ k. epoch_lines json c log from (epoch - from) ++ f k) at

-- more lines follow
pub lines_split : (f : ℕ → List ℕ) (a n m : ℕ) → flat_map f (range_with_len a (n + m)) ≡ flat_map f (range_with_len a n) ++ flat_map f (range_with_len (a + n) m)
lines_split f a zero m = let e : a + 0 ≡ a = omega arith in let z : 0 + m ≡ m = omega arith in ap (λ k. flat_map f (range_with_len a k)) z ∙ ap (λ k. flat_map f (range_with_len k m)) (sym e)
lines_split f a (suc n) m =
    let e : (a + 1) + n ≡ a + suc n = omega arith in
    let s : suc n + m ≡ suc (n + m) = omega arith in
    ap (λ k. flat_map f (range_with_len a k)) s
    ∙ ap (λ l. f a ++ l) (lines_split f (a + 1) n m ∙ ap (λ k. flat_map f (range_with_len (a + 1) n) ++ flat_map f (range_with_len k m)) e)
    ∙ sym (append_assoc (f a) (flat_map f (range_with_len (a + 1) n)) (flat_map f (range_with_len (a + suc n) m)))

-- the lines before an epoch, a part of its own, and those that would follow
pub lines_cut : (json : Bool) (c : Register) (log from last epoch : ℕ) (a b z : List ℕ) → from ≤ epoch → epoch ≤ last → b ≡ a ++ epoch_lines json c log from (epoch - from)
    → WritesPart b z (epoch_line json epoch (looked c log epoch)) → WritesPart a z (epoch_lines json c log from (last + 1 - from))
lines_cut json c log from last epoch a b z l m p q =
    let f = λ (k : ℕ). epoch_line json k (looked c log k) in
    let n : last + 1 - from ≡ (epoch + 1 - from) + (last - epoch) = omega arith in
    let rest = flat_map f (range_with_len (from + (epoch + 1 - from)) (last - epoch)) in
    let whole : epoch_lines json c log from (last + 1 - from) ≡ (epoch_lines json c log from (epoch - from) ++ epoch_line json epoch (looked c log epoch)) ++ rest =
    ap (epoch_lines json c log from) n ∙ lines_split f from (epoch + 1 - from) (last - epoch) ∙ ap (λ l. l ++ rest) (line_more json c log from epoch l) in
    subst (WritesPart a z) (sym whole) (part_of a z (epoch_lines json c log from (epoch - from) ++ epoch_line json epoch (looked c log epoch)) rest (part_on a b z (epoch_lines json c log from (epoch - from)) (epoch_line json epoch (looked c log epoch)) p q))

-- the line of the log, and a part of those of its epochs
pub register_part : (r : Result (Unit {0}) LookStop) (json : Bool) (c : Register) (log from last : ℕ) (a b z : List ℕ) → last ≡ (epochs_of c log).epoch → b ≡ a ++ log_line json log (looked c log 0)
    → OnErr r (WritesPart b z (epoch_lines json c log from (last + 1 - from))) → OnErr r (WritesPart a z (register_text json c log from))
register_part (Ok none) json c log from last a b z e w h = h
register_part (Err stop) json c log from last a b z e w h =
    part_on a b z (log_line json log (looked c log 0)) (epoch_lines json c log from ((epochs_of c log).epoch + 1 - from)) w (subst (λ k. WritesPart b z (epoch_lines json c log from (k + 1 - from))) e h)
