-- Why a register refused an actor that is driven.
use Rattle.std.specs.Prelude.{ℕ}
use Rattle.ld_io.specs.Causes.{Rose}
use Rattle.ld_msg.specs.Register.{Register}
use Rattle.ld_rounds.specs.declared.ended.Refusal.{Refusal}
use Rattle.ld_rounds.specs.declared.ended.Refusal.TheVariants as refusals

-- the register held nothing, so it may be damaged from any place on
abbrev pub HeldNone : (Register → Type 0) → ℕ → Type 0
HeldNone holds place = (c : Register) → holds c → ⊥

-- a call of it failed, as its counts of faults before and now say; or it is damaged from that place on; or its journal has no room
abbrev pub IsRefusal : (ℕ → Type 0) → Type 0 → ℕ → ℕ → Refusal → Type 0
IsRefusal damaged full before now refusals.Failed = Rose before now
IsRefusal damaged full before now (refusals.Damaged place) = damaged place
IsRefusal damaged full before now refusals.Full = full

-- more is told of what was before
pub refusal_as : (P Q : ℕ → Type 0) (F H : Type 0) (k n m p : ℕ) (r : Refusal) → (Rose n m → Rose k p) → ((place : ℕ) → P place → Q place) → (F → H) → IsRefusal P F n m r → IsRefusal Q H k p r
refusal_as P Q F H k n m p refusals.Failed f g h x = f x
refusal_as P Q F H k n m p (refusals.Damaged place) f g h x = g place x
refusal_as P Q F H k n m p refusals.Full f g h x = h x
