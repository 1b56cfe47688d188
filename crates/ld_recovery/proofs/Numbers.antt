-- The bounds of pages.
use Rattle.std.proofs.Common.{◌≡◌, ◌≤◌, ◌<◌, ◌-◌, ◌/◌, ◌^◌, ℕ, false, List, [], ◌∷◌, arith, inl, inr, nat_lt}
use Rattle.std.specs.Prelude.{◌==◌}
use Rattle.std.proofs.lemmas.Bool.{cases_Bool}
use Rattle.std.proofs.lemmas.Bool.Decides.{nat_tests}
use Rattle.ld_lsn.specs.Number.{epoch_of, esn_of, home_epoch, last_esn}
use Rattle.ld_msg.specs.declared.msg.What.{What}
use Rattle.ld_msg.specs.declared.msg.What.TheVariants.{Rec, Hole, Bridge, Plug, Withheld}
use Rattle.ld_msg.specs.declared.msg.Entry.{Entry}
use Rattle.ld_msg.specs.Bounds.{AreEntries, last_place, IsPage}
use Rattle.ld_msg.specs.Digest.{is_bridge}
use Rattle.ld_digest.specs.Gathering.{AreInPlace}

-- a home epoch by one division
pub home_is : (v : ℕ) → home_epoch v ≡ (v - 1) / 2 ^ 32
home_is v = elim (cases_Bool (esn_of v == 0)) [
  | inl zero_esn ↦ elim (cases_Bool (nat_lt 0 (epoch_of v))) [
    | inl above ↦ grind (arith, nat_tests)
    | inr first ↦ grind (arith, nat_tests)
  ]
  | inr other ↦ grind (arith, nat_tests)
]

pub home_most : (v : ℕ) → home_epoch v ≤ epoch_of v
home_most v = omega (arith, home_is v)

-- a page of an epoch below another one ends before the greatest number
pub ends_below : (from upto epoch ballot : ℕ) (es : List Entry) → IsPage from upto es → epoch_of from ≡ epoch → epoch < ballot → ballot ≤ 2 ^ 32 - 2 → upto < 2 ^ 64 - 1
ends_below from upto epoch ballot es p h l m = let t = p.home in let a = home_is from in let b = home_is upto in omega (arith, t, a, b, h, l, m)

placed : (w : What) (esn : ℕ) → esn ≤ last_place w → is_bridge w ≡ false → esn < last_esn
placed (Rec p) esn h n = omega (arith, h)
placed Hole esn h n = omega (arith, h)
placed Bridge esn h n = absurd cc
placed Plug esn h n = omega (arith, h)
placed Withheld esn h n = omega (arith, h)

-- only a bridge stands at the last offset of an epoch
pub in_place : (es : List Entry) → AreEntries es → AreInPlace es
in_place [] h = tt
in_place (e ∷ es) h = (λ n. placed e.what (esn_of e.number) h.0.place n, in_place es h.1)
