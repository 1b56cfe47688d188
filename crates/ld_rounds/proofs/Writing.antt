-- Bytes that are written, one piece after the other.
use Rattle.std.proofs.Common.{◌≡◌, ℕ, ◌+◌, ◌-◌, List, [], ◌++◌, take, drop, length, Option, None, Some, refl, sym, ap, ◌∙◌, take-add, append_assoc}
use Rattle.std.specs.Io.KnownBytes.{Appends, Keeps}
use Rattle.std.proofs.lemmas.List.{append-nil, take_rest, take-append-drop}
use Rattle.std.proofs.lemmas.Grind.{flat_map-append}
use Rattle.ld_transcript.specs.declared.line.Line.{Line}
use Rattle.ld_transcript.specs.Text.{text, line_text}
use Rattle.ld_rounds.specs.Output.{AppendsPart}

pub Appends-nil : (a : Option (List ℕ)) → Appends a a []
Appends-nil None = tt
Appends-nil (Some x) = sym (append-nil x)

pub Appends-trans : (a b c : Option (List ℕ)) (bs cs : List ℕ) → Appends a b bs → Appends b c cs → Appends a c (bs ++ cs)
Appends-trans None b c bs cs p q = tt
Appends-trans (Some x) None c bs cs p q = absurd p
Appends-trans (Some x) (Some y) None bs cs p q = absurd q
Appends-trans (Some x) (Some y) (Some z) bs cs p q = q ∙ ap (λ l. l ++ cs) p ∙ append_assoc x bs cs

pub Appends-kept : (a b c : Option (List ℕ)) (bytes : List ℕ) → Appends a b bytes → Keeps b c → Appends a c bytes
Appends-kept None b c bytes p k = tt
Appends-kept (Some x) None c bytes p k = absurd p
Appends-kept (Some x) (Some y) None bytes p k = absurd k
Appends-kept (Some x) (Some y) (Some z) bytes p k = k ∙ p

pub one_more : (a b c : Option (List ℕ)) (bytes : List ℕ) (done n : ℕ) → Appends a b (take done bytes)
    → Appends b c (take n (take (length bytes - done) (drop done bytes))) → Appends a c (take (done + n) bytes)
one_more a b c bytes done n p q =
    let piece = rw take_rest at q in
    rw take-add (Appends-trans a b c (take done bytes) (take n (drop done bytes)) p piece)

pub part : (a b c : Option (List ℕ)) (bytes : List ℕ) (done : ℕ) → Appends a b (take done bytes) → Keeps b c → AppendsPart a c bytes
part a b c bytes done p k =
    record { part = take done bytes; missing = drop done bytes; written = Appends-kept a b c (take done bytes) p k; whole = sym (take-append-drop done bytes) }

pub all_written : (a b : Option (List ℕ)) (bytes : List ℕ) → Appends a b bytes → AppendsPart a b bytes
all_written a b bytes p = record { part = bytes; missing = []; written = p; whole = sym (append-nil bytes) }

pub none_written : (a : Option (List ℕ)) (bytes : List ℕ) → AppendsPart a a bytes
none_written a bytes = record { part = []; missing = bytes; written = Appends-nil a; whole = refl }

pub text-append : (xs ys : List Line) → text (xs ++ ys) ≡ text xs ++ text ys
text-append xs ys = flat_map-append line_text xs ys

pub lines_on : (a b c : Option (List ℕ)) (xs ys : List Line) → Appends a b (text xs) → Appends b c (text ys) → Appends a c (text (xs ++ ys))
lines_on a b c xs ys p q = rw (text-append xs ys) (Appends-trans a b c (text xs) (text ys) p q)

pub lines_cut : (a b c : Option (List ℕ)) (xs ys : List Line) → Appends a b (text xs) → AppendsPart b c (text ys) → AppendsPart a c (text (xs ++ ys))
lines_cut a b c xs ys p q = record {
  part = text xs ++ q.part;
  missing = q.missing;
  written = Appends-trans a b c (text xs) q.part p q.written;
  whole = text-append xs ys ∙ (ap (λ l. text xs ++ l) q.whole ∙ sym (append_assoc (text xs) q.part q.missing));
}
