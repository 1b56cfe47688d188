-- The counts of the nodes, one call after the other.
use Rattle.std.proofs.Common.{◌≡◌, ℕ, inl, inr, ap, sym, ◌∙◌, arith}
use Rattle.ld_rounds.specs.Drives.{IsBroken, AreLater, counted}

pub counts_here : (f e : ℕ) → AreLater f f e e
counts_here f e = (omega arith, omega arith)

pub later_since : (f g h e d k : ℕ) → AreLater f g e d → AreLater g h d k → AreLater f h e k
later_since f g h e d k p q = (omega (arith, p.0, q.0), omega (arith, p.1, q.1))

pub broken_since : (f g h e d k : ℕ) → AreLater f g e d → IsBroken g h d k → IsBroken f h e k
broken_since f g h e d k l (inl r) = inl (omega (arith, l.0, r))
broken_since f g h e d k l (inr r) = inr (omega (arith, l.1, r))

pub broken_until : (f g h e d k : ℕ) → AreLater g h d k → IsBroken f g e d → IsBroken f h e k
broken_until f g h e d k l (inl r) = inl (omega (arith, l.0, r))
broken_until f g h e d k l (inr r) = inr (omega (arith, l.1, r))

-- where a call leaves them
pub counted_as : (f g h e d k : ℕ) → f ≡ g → e ≡ d → counted f h e k ≡ counted g h d k
counted_as f g h e d k p q = ap (λ (x : ℕ). counted x h e k) p ∙ ap (λ (x : ℕ). counted g h x k) q

pub counted_until : (f g h e d k : ℕ) → h ≡ g → k ≡ d → counted f g e d ≡ counted f h e k
counted_until f g h e d k p q = ap (λ (x : ℕ). counted f x e d) (sym p) ∙ ap (λ (x : ℕ). counted f h e x) (sym q)
