-- Looks of which nothing is known but that a register showed them.
use Rattle.std.proofs.Common.{◌≡◌, ℕ, Option, Some, None, Bool, true, false, refl, ap, sym, ◌∙◌, subst, arith}
use Rattle.std.specs.Prelude.{◌==◌, if◌then◌else◌}
use Rattle.std.proofs.lemmas.Bool.Decides.{nat_tests}
use Rattle.ld_ids.specs.declared.set.Spec.{Spec}
use Rattle.ld_msg.specs.Register.{Register, View, look}
use Rattle.ld_register.specs.Calls.{IsView, looked}
use Rattle.ld_register.specs.declared.register.View.{View as Told}
use Rattle.ld_reader.specs.Following.{Following}
use Rattle.ld_reader.specs.Looks.{looks_of, IsLook, AreLooks, WasMade, WasShown}
use Rattle.ld_reader.specs.Shown.{shown_view}

shown_look : (first : Spec) (c : Register) (log e : ℕ) → shown_view first e (looked c log e) ≡ look first c log e
unfolding look
shown_look first c log e = refl

-- by what a register holds
pub looked_so : (f : Following) (c : Register) (first : Spec) (log at e : ℕ) (w : View) (t : Told) → first ≡ f.first → log ≡ f.reader.log → at ≡ e → w ≡ shown_view first at t → t ≡ looked c log at → w ≡ looks_of f c e
looked_so f c first log at e w t a b n s k =
    s ∙ ap (shown_view first at) k ∙ shown_look first c log at ∙ ap (λ x. look x c log at) a ∙ ap (λ l. look f.first c l at) b ∙ ap (looks_of f c) n

-- of a log without epochs
abbrev blank : Told
blank = record { epoch = 0; lce = 0; swaps = 0; summary = None; spec = None }

is_blank : (l e : ℕ) → IsView l e blank
is_blank l e = record { epoch = omega arith; lce = omega arith; shown = (λ s. absurd cc, λ h. absurd (omega (arith, h.0, h.1))); summary = tt; spec = tt }

abbrev pub blanks : Following → ℕ → View
blanks f e = shown_view f.first e blank

pub are_blanks : (f : Following) → AreLooks f (blanks f)
are_blanks f e = record { view = blank; is = is_blank f.reader.log e; shown = refl }

-- this at one epoch, and else as others
abbrev pub one_look : (ℕ → View) → ℕ → View → ℕ → View
one_look looks e w at = if at == e then w else looks at

pub at_one : (looks : ℕ → View) (e : ℕ) (w : View) → one_look looks e w e ≡ w
at_one looks e w = let same : (e == e) ≡ true = grind (arith, nat_tests) in ap (λ (b : Bool). if b then w else looks e) same

pub are_one : (f : Following) (looks : ℕ → View) (e : ℕ) (w : View) → AreLooks f looks → IsLook f.first f.reader.log e w → AreLooks f (one_look looks e w)
are_one f looks e w others h at = elim (at == e) as (λ b. (at == e) ≡ b → IsLook f.first f.reader.log at (if b then w else looks at)) [
  | true ↦ λ s. let same : e ≡ at = grind (arith, nat_tests) in subst (λ n. IsLook f.first f.reader.log n w) same h
  | false ↦ λ s. others at
] refl

-- where a look was made before, that is among them
abbrev pub with_made : Following → Option View → ℕ → View
with_made f None = blanks f
with_made f (Some v) = one_look (blanks f) v.at v

pub are_made : (f : Following) (made : Option View) → WasShown f made → AreLooks f (with_made f made)
are_made f None h = are_blanks f
are_made f (Some v) h = are_one f (blanks f) v.at v (are_blanks f) h

pub was_made : (f : Following) (made : Option View) → WasMade (with_made f made) made
was_made f None = tt
was_made f (Some v) = at_one (blanks f) v.at v

-- and so it is behind another look, which shows the same of its epoch
pub made_behind : (f : Following) (made : Option View) (e : ℕ) (w : View) → ((v : View) → made ≡ Some v → v.at ≡ e → w ≡ v) → WasMade (one_look (with_made f made) e w) made
made_behind f None e w h = tt
made_behind f (Some v) e w h = elim (v.at == e) as (λ b. (v.at == e) ≡ b → (if b then w else one_look (blanks f) v.at v v.at) ≡ v) [
  | true ↦ λ s. let same : v.at ≡ e = grind (arith, nat_tests) in h v refl same
  | false ↦ λ s. at_one (blanks f) v.at v
] refl

-- a look shows its own epoch
pub look_at : (first : Spec) (log e : ℕ) (w : View) → IsLook first log e w → w.at ≡ e
look_at first log e w h = ap (λ (v : View). v.at) h.shown

pub made_so : (looks : ℕ → View) (made : Option View) (w : View) (e : ℕ) → made ≡ Some w → w.at ≡ e → WasMade looks made → w ≡ looks e
made_so looks made w e i a m = let k : looks w.at ≡ w = subst (WasMade looks) i m in sym k ∙ ap looks a
