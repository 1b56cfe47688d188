-- The loop that reads of the present peer.
use Rattle.std.proofs.Common.{◌≡◌, ◌++◌, ℕ, List, take, None, Some, sym, ap, subst, refl}
use Rattle.std.specs.Prelude.{Option, IfSome}
use Rattle.ld_wire.specs.Judging.{judge}
use Rattle.ld_wire.specs.Held.{Held, answered, answer_with}
use Rattle.ld_link.specs.Peers.{Peers, heard, on_present, left_of}
use Rattle.ld_link.specs.Peers as links
use Rattle.ld_framed.specs.Hearing.{Hears, HearsSome}
use Rattle.ld_framed.proofs.Talks.{hears_nothing, hears_on}

pub untouched_at : (a b : Option Peers) (held : List ℕ) → IfSome a (λ p. b ≡ Some p) → IfSome a (λ p. Hears p b held held)
untouched_at None b held e = tt
untouched_at (Some p) b held e = hears_nothing p b held e

-- what one read gave
pub one_read : (p : Peers) (b : Option Peers) (buf held : List ℕ) (n : ℕ) → links.Hears p b buf n → Hears p b held (held ++ take n buf)
one_read p b buf held n r = record { n = n; most = r.most; peers = r.peers; fed = ap (λ l. held ++ l) r.bytes }

pub went_on : (a b c : Option Peers) (x y z : List ℕ) → IfSome a (λ p. Hears p b x y) → IfSome b (λ q. Hears q c y z) → IfSome a (λ p. Hears p c x z)
went_on None b c x y z h k = tt
went_on (Some p) None c x y z h k = (let e = h.peers in absurd cc)
went_on (Some p) (Some q) c x y z h k = hears_on p q (Some q) c x y z refl h k

pub fails_here : (a b : Option Peers) (x y : List ℕ) (P : List ℕ → Type 0) → IfSome a (λ p. Hears p b x y) → P y → IfSome a (λ p. HearsSome p b x P)
fails_here None b x y P h k = tt
fails_here (Some p) b x y P h k = record { held = y; hears = h; cause = k }

pub read_then : (a b : Option Peers) (buf held : List ℕ) (n : ℕ) → IfSome a (λ p. links.Hears p b buf n) → IfSome a (λ p. Hears p b held (held ++ take n buf))
read_then None b buf held n h = tt
read_then (Some p) b buf held n h = one_read p b buf held n h

pub judged : (h : Held) → h.fault ≡ None → answered h ≡ judge h.bytes
judged h e = ap (λ o. answer_with o h.bytes) e

pub the_first : (b : Option Peers) (P Q : Peers → Type 0) → IfSome b (λ q. P q × Q q) → IfSome b P
the_first None P Q h = tt
the_first (Some q) P Q h = h.0

pub next_on : (a b c : Option Peers) (x : List ℕ) (h k : Held) (z : List ℕ) → k ≡ h → IfSome a (λ p. Hears p b x h.bytes) → IfSome b (λ q. Hears q c k.bytes z) → IfSome a (λ p. Hears p c x z)
next_on a b c x h k z e i r = went_on a b c x k.bytes z (subst (λ v. IfSome a (λ p. Hears p b x v.bytes)) (sym e) i) r

pub fails_on : (a b c : Option Peers) (x : List ℕ) (h k : Held) (P : List ℕ → Type 0) → k ≡ h → IfSome a (λ p. Hears p b x h.bytes) → IfSome b (λ q. HearsSome q c k.bytes P) → IfSome a (λ p. HearsSome p c x P)
fails_on None b c x h k P e i r = tt
fails_on (Some p) None c x h k P e i r = (let f = i.peers in absurd cc)
fails_on (Some p) (Some q) c x h k P e i r =
    record { held = r.held; hears = next_on (Some p) (Some q) c x h k r.held e i r.hears; cause = r.cause }

-- the same cause by another name
pub heard_as : (a b : Option Peers) (x : List ℕ) (P Q : List ℕ → Type 0) → ((held : List ℕ) → P held → Q held) → IfSome a (λ p. HearsSome p b x P) → IfSome a (λ p. HearsSome p b x Q)
heard_as None b x P Q told h = tt
heard_as (Some p) b x P Q told h = record { held = h.held; hears = h.hears; cause = told h.held h.cause }
