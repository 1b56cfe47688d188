-- Which epochs are asked for, one after the other.
use Rattle.std.proofs.Common.{◌≡◌, ◌≤◌, ℕ, zero, suc, ◌+◌, ◌-◌, [], ◌∷◌, ◌++◌, Bool, if◌then◌else◌, sym, ap, ◌∙◌, arith}
use Rattle.std.specs.Prelude.{nat_lt, filter}
use Rattle.std.specs.List.{range_with_len}
use Rattle.std.proofs.lemmas.List.Elements.{filter-append}
use Rattle.ld_operate.specs.Asked.{asked, past_epoch}

pub range_split : (a n m : ℕ) → range_with_len a (n + m) ≡ range_with_len a n ++ range_with_len (a + n) m
range_split a zero m = let e : a + 0 ≡ a = omega arith in let z : 0 + m ≡ m = omega arith in ap (λ k. range_with_len a k) z ∙ ap (λ k. range_with_len k m) (sym e)
range_split a (suc n) m =
    let e : (a + 1) + n ≡ a + suc n = omega arith in
    let s : suc n + m ≡ suc (n + m) = omega arith in
    ap (λ k. range_with_len a k) s ∙ ap (λ l. a ∷ l) (range_split (a + 1) n m ∙ ap (λ k. range_with_len (a + 1) n ++ range_with_len k m) e)

pub asked_split : (trim a n m : ℕ) → asked trim a (n + m) ≡ asked trim a n ++ asked trim (a + n) m
asked_split trim a n m = ap (λ l. filter (λ e. nat_lt trim (past_epoch e)) l) (range_split a n m) ∙ filter-append (λ e. nat_lt trim (past_epoch e)) (range_with_len a n) (range_with_len (a + n) m)

one_in : (trim e : ℕ) (b : Bool) → nat_lt trim (past_epoch e) ≡ b → asked trim e 1 ≡ (if b then e ∷ [] else [])
one_in trim e b h = ap (λ x. if x then e ∷ [] else []) h

-- one epoch more, which is asked for or not
pub asked_more : (trim first epoch : ℕ) (b : Bool) → first ≤ epoch → nat_lt trim (past_epoch epoch) ≡ b → asked trim first (epoch + 1 - first) ≡ asked trim first (epoch - first) ++ (if b then epoch ∷ [] else [])
asked_more trim first epoch b l h =
    let n : epoch + 1 - first ≡ (epoch - first) + 1 = omega arith in
    let at : first + (epoch - first) ≡ epoch = omega arith in
    ap (asked trim first) n ∙ asked_split trim first (epoch - first) 1 ∙ ap (λ k. asked trim first (epoch - first) ++ asked trim k 1) at ∙ ap (λ l. asked trim first (epoch - first) ++ l) (one_in trim epoch b h)

-- those that follow
pub asked_on : (trim first epoch last : ℕ) → first ≤ epoch → epoch ≤ last + 1 → asked trim first (last + 1 - first) ≡ asked trim first (epoch - first) ++ asked trim epoch (last + 1 - epoch)
asked_on trim first epoch last l m =
    let n : last + 1 - first ≡ (epoch - first) + (last + 1 - epoch) = omega arith in
    let at : first + (epoch - first) ≡ epoch = omega arith in
    ap (asked trim first) n ∙ asked_split trim first (epoch - first) (last + 1 - epoch) ∙ ap (λ k. asked trim first (epoch - first) ++ asked trim k (last + 1 - epoch)) at
