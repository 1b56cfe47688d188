-- Reads and writes of the present peer, one after the other.
use Rattle.std.proofs.Common.{◌≡◌, ◌+◌, ◌++◌, ℕ, zero, suc, List, [], take, drop, Option, None, Some, refl, sym, ap, ◌∙◌, append_assoc, arith}
use Rattle.std.proofs.lemmas.List.{append-nil, drop-drop, length-drop}
use Rattle.std.proofs.Math.Seq.{take-add}
use Rattle.std.specs.Option.{option_map}
use Rattle.ld_link.specs.Peers.{Talk, Peers, heard, said, on_present, left_of}
use Rattle.ld_framed.specs.Hearing.{Hears}

abbrev talk : List ℕ → List ℕ → List ℕ → Talk
talk got left sent = record { got = got; left = left; sent = sent }

abbrev with_present : Peers → Option Talk → Peers
with_present p o = record { past = p.past; present = o; coming = p.coming }

said_talk : (t : Talk) (a b : List ℕ) → said b (said a t) ≡ said (a ++ b) t
said_talk t a b = ap (λ s. talk t.got t.left s) (append_assoc t.sent a b)

said_maybe : (o : Option Talk) (a b : List ℕ) → option_map (said b) (option_map (said a) o) ≡ option_map (said (a ++ b)) o
said_maybe None a b = refl
said_maybe (Some t) a b = ap Some (said_talk t a b)

pub said_twice : (p : Peers) (a b : List ℕ) → on_present (said b) (on_present (said a) p) ≡ on_present (said (a ++ b)) p
said_twice p a b = ap (with_present p) (said_maybe p.present a b)

said_none : (o : Option Talk) → option_map (said []) o ≡ o
said_none None = refl
said_none (Some t) = ap (λ s. Some (talk t.got t.left s)) (append-nil t.sent)

pub said_nothing : (p : Peers) → on_present (said []) p ≡ p
said_nothing p = ap (with_present p) (said_none p.present)

heard_talk : (t : Talk) (n k : ℕ) → heard k (heard n t) ≡ heard (n + k) t
heard_talk t n k =
    ap (λ l. talk ((t.got ++ take n t.left) ++ take k (drop n t.left)) l t.sent) (drop-drop k n t.left)
    ∙ ap (λ g. talk g (drop (n + k) t.left) t.sent) (append_assoc t.got (take n t.left) (take k (drop n t.left)) ∙ ap (λ l. t.got ++ l) (sym (take-add n k t.left)))

heard_maybe : (o : Option Talk) (n k : ℕ) → option_map (heard k) (option_map (heard n) o) ≡ option_map (heard (n + k)) o
heard_maybe None n k = refl
heard_maybe (Some t) n k = ap Some (heard_talk t n k)

pub heard_twice : (p : Peers) (n k : ℕ) → on_present (heard k) (on_present (heard n) p) ≡ on_present (heard (n + k)) p
heard_twice p n k = ap (with_present p) (heard_maybe p.present n k)

heard_none : (o : Option Talk) → option_map (heard 0) o ≡ o
heard_none None = refl
heard_none (Some t) = ap (λ g. Some (talk g t.left t.sent)) (append-nil t.got)

pub heard_nothing : (p : Peers) → on_present (heard 0) p ≡ p
heard_nothing p = ap (with_present p) (heard_none p.present)

left_maybe : (o : Option Talk) (n : ℕ) → left_of (option_map (heard n) o) ≡ drop n (left_of o)
left_maybe None zero = refl
left_maybe None (suc n) = refl
left_maybe (Some t) n = refl

pub left_heard : (p : Peers) (n : ℕ) → left_of (on_present (heard n) p).present ≡ drop n (left_of p.present)
left_heard p n = left_maybe p.present n

-- nothing is read yet
pub hears_nothing : (p : Peers) (new : Option Peers) (held : List ℕ) → new ≡ Some p → Hears p new held held
hears_nothing p new held is = record {
  n = 0;
  most = omega arith;
  peers = is ∙ ap Some (sym (heard_nothing p));
  fed = sym (append-nil held);
}

-- one read after the other
pub hears_on : (p q : Peers) (mid new : Option Peers) (a b c : List ℕ) → mid ≡ Some q → Hears p mid a b → Hears q new b c → Hears p new a c
hears_on p q mid new a b c is first then =
    let same : q ≡ on_present (heard first.n) p = some_is (sym is ∙ first.peers) in
    let left : left_of q.present ≡ drop first.n (left_of p.present) = ap (λ r. left_of r.present) same ∙ left_heard p first.n in
    record {
      n = first.n + then.n;
      most = (let l = rw left at then.most in omega (arith, first.most, l, length-drop first.n (left_of p.present)));
      peers = then.peers ∙ ap Some (ap (on_present (heard then.n)) same ∙ heard_twice p first.n then.n);
      fed = then.fed ∙ ap (λ l. b ++ take then.n l) left ∙ ap (λ l. l ++ take then.n (drop first.n (left_of p.present))) first.fed
          ∙ append_assoc a (take first.n (left_of p.present)) (take then.n (drop first.n (left_of p.present)))
          ∙ ap (λ l. a ++ l) (sym (take-add first.n then.n (left_of p.present)));
    }
  where
    of : Option Peers → Peers → Peers
    of None d = d
    of (Some r) d = r

    some_is : {r s : Peers} → Some r ≡ Some s → r ≡ s
    some_is {r} {s} e = ap (λ o. of o r) e
