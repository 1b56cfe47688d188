-- The loop that writes to the present peer.
use Rattle.std.proofs.Common.{◌≡◌, ◌+◌, ◌-◌, ℕ, List, [], ◌∷◌, take, drop, length, None, Some, sym, ap, ◌∙◌, subst, take-add}
use Rattle.std.specs.Prelude.{Option, IfSome}
use Rattle.std.proofs.lemmas.List.{take_rest, take-append-drop}
use Rattle.ld_link.specs.Peers.{Peers, said, on_present}
use Rattle.ld_past.specs.Events.{Event}
use Rattle.ld_link.specs.Calls.{wrote}
use Rattle.ld_framed.specs.Hearing.{Says, SaysPart}
use Rattle.ld_framed.specs.Writes.{Writes, WritesPart}
use Rattle.ld_framed.proofs.Talks.{said_twice, said_nothing}

pub says_nothing : (a : Option Peers) → IfSome a (λ p. Says p a [])
says_nothing None = tt
says_nothing (Some p) = ap Some (sym (said_nothing p))

pub one_more : (a b c : Option Peers) (bytes : List ℕ) (done n : ℕ) → IfSome a (λ p. Says p b (take done bytes))
    → IfSome b (λ q. c ≡ Some (on_present (said (take n (take (length bytes - done) (drop done bytes)))) q)) → IfSome a (λ p. Says p c (take (done + n) bytes))
one_more None b c bytes done n p q = tt
one_more (Some x) b c bytes done n p q =
    let piece = subst (λ o. IfSome o (λ q. c ≡ Some (on_present (said (take n (take (length bytes - done) (drop done bytes)))) q))) p q in
    let plain = rw take_rest at piece in
    rw take-add (plain ∙ ap Some (said_twice x (take done bytes) (take n (drop done bytes))))

pub part : (a b c : Option Peers) (bytes : List ℕ) (done : ℕ) → IfSome a (λ p. Says p b (take done bytes)) → IfSome b (λ q. c ≡ Some q) → IfSome a (λ p. SaysPart p c bytes)
part None b c bytes done p k = tt
part (Some x) b c bytes done p k =
    record { part = take done bytes; missing = drop done bytes; whole = sym (take-append-drop done bytes); peers = subst (λ o. IfSome o (λ q. c ≡ Some q)) p k }

-- ---- the writes that were made ----

pub writes_more : (old mid new : List Event) (bytes : List ℕ) (done n : ℕ) → Writes old mid (take done bytes)
    → new ≡ wrote (take n (take (length bytes - done) (drop done bytes))) ∷ mid → Writes old new (take (done + n) bytes)
writes_more old mid new bytes done n so did =
    let plain = rw take_rest at did in
    subst (λ d. Writes old d (take (done + n) bytes)) (sym plain) (subst (λ l. Writes old (wrote (take n (drop done bytes)) ∷ mid) l) (sym (take-add done n bytes)) (Writes.more mid (take done bytes) (take n (drop done bytes)) so))

pub writes_part : (old mid new : List Event) (bytes : List ℕ) (done : ℕ) → Writes old mid (take done bytes) → new ≡ mid → WritesPart old new bytes
writes_part old mid new bytes done so same =
    record { part = take done bytes; missing = drop done bytes; whole = sym (take-append-drop done bytes); writes = subst (λ d. Writes old d (take done bytes)) (sym same) so }
