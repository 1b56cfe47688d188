-- What a page shows of the entries that it gives.
use Rattle.std.proofs.Common.{◌≡◌, ℕ, suc, Bool, true, List, [], ◌∷◌, ◌++◌, refl, ap, length, map}
use Rattle.ld_msg.specs.declared.msg.What.{What}
use Rattle.ld_msg.specs.declared.msg.What.TheVariants.{Rec, Hole, Bridge, Plug, Withheld}
use Rattle.ld_msg.specs.declared.msg.Entry.{Entry}
use Rattle.ld_op.specs.Answers.{withheld_what, last_number}
use Rattle.ld_op.specs.Picks.{carried}

whole_what : (w : What) → withheld_what true w ≡ w
whole_what (Rec p) = refl
whole_what Hole = refl
whole_what Bridge = refl
whole_what Plug = refl
whole_what Withheld = refl

whole : (e : Entry) → carried true e ≡ e
whole e = ap (λ w. record { number = e.number; ballot = e.ballot; what = w }) (whole_what e.what)

-- a page that carries all shows what stands there
pub all_carried : (es : List Entry) → map (λ e. carried true e) es ≡ es
all_carried [] = refl
all_carried (e ∷ es) = rw (whole e, all_carried es) refl

module _ (carries : ℕ → Bool) where
  abbrev pub shown : Entry → Entry
  shown e = carried (carries e.number) e

  pub shown_append : (xs ys : List Entry) → map shown (xs ++ ys) ≡ map shown xs ++ map shown ys
  shown_append [] ys = refl
  shown_append (x ∷ xs) ys = ap (λ r. shown x ∷ r) (shown_append xs ys)

  pub shown_length : (es : List Entry) → length (map shown es) ≡ length es
  shown_length [] = refl
  shown_length (e ∷ es) = ap suc (shown_length es)

  pub shown_last : (es : List Entry) → last_number (map shown es) ≡ last_number es
  shown_last [] = refl
  shown_last (e ∷ []) = refl
  shown_last (e ∷ f ∷ es) = shown_last (f ∷ es)
