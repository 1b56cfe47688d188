-- The loop that reads while what is held is no whole frame.
use Rattle.std.proofs.Common.{◌≡◌, ◌≤◌, ◌++◌, ℕ, List, [], ◌∷◌, length, take, None, Some, refl, sym, ◌∙◌, subst, inl, inr, arith}
use Rattle.std.specs.Prelude.{Option, IfSome}
use Rattle.ld_link.specs.Peers.{Peers}
use Rattle.std.proofs.lemmas.List.{length-take}
use Rattle.ld_past.specs.Events.{Event}
use Rattle.ld_link.specs.Calls.{read}
use Rattle.ld_wire.specs.Judging.{judge, Waits}
use Rattle.ld_wire.specs.Held.{Held, answered}
use Rattle.ld_framed.specs.Reads.{ReadsOnce, ReadsAtMostOnce, ReadsWaiting, ReadsToEnd, ReadsSome}
use Rattle.ld_framed.proofs.Hearing.{judged}

-- what one read gave
pub read_some : (old new : List Event) (buf before now : List ℕ) (n : ℕ) → (n ≡ 0 → ⊥) → n ≤ length buf → new ≡ read (take n buf) ∷ old → now ≡ before ++ take n buf → ReadsOnce old new before now
read_some old new buf before now n some most did fed = record { bytes = take n buf; some = (let l = length-take n buf in omega (arith, l, most, some)); did = did; fed = fed }

-- one read more
pub goes_on : (old : List Event) (before : List ℕ) (mid new : List Event) (now : List ℕ) (h k : Held) → h.fault ≡ None → k ≡ h → answered h ≡ Waits
    → ReadsWaiting old before mid h.bytes → ReadsOnce mid new k.bytes now → ReadsWaiting old before new now
goes_on old before mid new now h k fine same waits so once =
    ReadsWaiting.more mid new h.bytes now so (sym (judged h fine) ∙ waits) (subst (λ v. ReadsOnce mid new v.bytes now) same once)

-- the peer's end
pub ends_on : (old : List Event) (before : List ℕ) (mid new : List Event) (h k l : Held) → h.fault ≡ None → k ≡ h → answered h ≡ Waits
    → ReadsWaiting old before mid h.bytes → l ≡ k → new ≡ read [] ∷ mid → ReadsToEnd old new before l.bytes
ends_on old before mid new h k l fine same waits so still ends =
    let is : h ≡ l = sym (still ∙ same) in
    record { mid = mid; reads = subst (λ v. ReadsWaiting old before mid v.bytes) is so; waits = subst (λ v. judge v.bytes ≡ Waits) is (sym (judged h fine) ∙ waits); ends = ends }

-- no further frame
pub fails_in : (old : List Event) (before : List ℕ) (mid new : List Event) (h k : Held) (P : List ℕ → Type 0) → h.fault ≡ None → k ≡ h → answered h ≡ Waits
    → ReadsWaiting old before mid h.bytes → ReadsAtMostOnce mid new k.bytes → ((held : List ℕ) → P held) → ReadsSome old new before P
fails_in old before mid new h k P fine same waits so (inl is) cause = record { held = h.bytes; reads = subst (λ d. ReadsWaiting old before d h.bytes) (sym is) so; cause = cause h.bytes }
fails_in old before mid new h k P fine same waits so (inr once) cause = record { held = once.0; reads = goes_on old before mid new once.0 h k fine same waits so once.1; cause = cause once.0 }

pub itself : (a : Option Peers) → IfSome a (λ p. a ≡ Some p)
itself None = tt
itself (Some p) = refl
