-- Items that are clipped.
use Rattle.std.proofs.Common.{◌≡◌, ℕ, ◌+◌, ◌<◌, min, List, [], ◌∷◌, ◌++◌, None, refl, ap, sym, ◌∙◌, subst, arith}
use Rattle.std.proofs.lemmas.Bool.Decides.{nat_tests}
use Rattle.ld_msg.specs.Reading.{Item, TrimTo, RecordHere, HoleHere, BridgeTo, LossHere, LossTo, Verdict, Gives, Confirms, AsksAll, NotYet}
use Rattle.ld_msg.specs.Reader.{Reader, after_item, verdict}
use Rattle.ld_reader.specs.Clipped.{clip, clipped, all_clipped, clipped_verdict}
use Rattle.ld_reader.specs.Given.{given, after, rows_left}
use Rattle.ld_reader.specs.Rounds.{ended}
use Rattle.ld_reader.specs.declared.round.Ending.{Ending}
use Rattle.ld_reader.specs.declared.round.Ending.TheVariants as endings
use Rattle.ld_reader.proofs.Giving.{left_falls, item_first}

pub clipped-append : (until : ℕ) (xs ys : List (ℕ × Item)) → all_clipped until (xs ++ ys) ≡ all_clipped until xs ++ all_clipped until ys
clipped-append until [] ys = refl
clipped-append until (x ∷ xs) ys = ap (λ l. (x.0, clipped until x.1) ∷ l) (clipped-append until xs ys)

clip_end : (until last : ℕ) → min (clip until last) until ≡ min last until
clip_end until last = grind (arith, nat_tests)

-- a clipped item leads as far
pub after_clipped : (d : Reader) (i : Item) → after_item d (clipped d.until i) ≡ after_item d i
after_clipped d (TrimTo last) = ap (λ n. record d { next = n + 1; confirming = None }) (clip_end d.until last)
after_clipped d (RecordHere p) = refl
after_clipped d HoleHere = refl
after_clipped d (BridgeTo last) = ap (λ n. record d { next = n + 1; confirming = None }) (clip_end d.until last)
after_clipped d LossHere = refl
after_clipped d (LossTo last) = ap (λ n. record d { next = n + 1; confirming = None }) (clip_end d.until last)

pub gives_clipped : (until : ℕ) (v : Verdict) (x : Item) → Gives x ≡ clipped_verdict until v → (i : Item) × (v ≡ Gives i) × (x ≡ clipped until i)
gives_clipped until (Gives i) x e = (i, refl, cc)
gives_clipped until (Confirms lost) x e = absurd cc
gives_clipped until AsksAll x e = absurd cc
gives_clipped until NotYet x e = absurd cc

-- any other verdict isn't clipped
pub ends_clipped : (until : ℕ) (v : Verdict) (ending : Ending) → ended ending ≡ clipped_verdict until v → v ≡ ended ending
ends_clipped until (Gives i) (endings.Confirms lost) e = absurd cc
ends_clipped until (Gives i) endings.AsksAll e = absurd cc
ends_clipped until (Gives i) endings.NotYet e = absurd cc
ends_clipped until (Confirms l) ending e = sym e
ends_clipped until AsksAll ending e = sym e
ends_clipped until NotYet ending e = sym e

-- what one item more leaves to give
pub record StepsOn (d : Reader) (x : Item) : Type 0 where
  pub falls : rows_left (after_item d x) < rows_left d
  pub after : after (after_item d x) ≡ after d
  pub items : all_clipped d.until (given d) ≡ (d.next, x) ∷ all_clipped d.until (given (after_item d x))

pub steps_on : (d : Reader) (x : Item) → 0 < d.next → Gives x ≡ clipped_verdict d.until (verdict d) → StepsOn d x
steps_on d x p e =
    let g = gives_clipped d.until (verdict d) x e in
    let same : after_item d x ≡ after_item d g.0 = ap (after_item d) g.2 ∙ after_clipped d g.0 in
    let first = item_first d g.0 p g.1 in
    record {
      falls = subst (λ (r : Reader). rows_left r < rows_left d) (sym same) (left_falls d g.0 p g.1);
      after = ap (λ (r : Reader). after r) same ∙ sym first.1;
      items = ap (all_clipped d.until) first.0 ∙ ap (λ y. (d.next, y) ∷ all_clipped d.until (given (after_item d g.0))) (sym g.2) ∙ ap (λ r. (d.next, x) ∷ all_clipped d.until (given r)) (sym same);
    }
