-- The names of a log's readers.
use Rattle.std.proofs.Common.{◌≡◌, ◌∙◌, ◌≤◌, ℕ, ◌+◌, ◌==◌, Bool, true, false, List, [], ◌∷◌, ◌++◌, length, drop, Option, Some, None, refl, ap, sym, cond, append_assoc, slice_get, arith}
use Rattle.std.proofs.lemmas.List.{append-nil, drop_all}
use Rattle.ld_table.proofs.Places.{drop_at_place}
use Rattle.ld_msg.specs.Reader.{Reader}
use Rattle.ld_reader.specs.Following.{Following}
use Rattle.ld_machine.specs.Calm.{readers_of as readers_for}
use Rattle.ld_clients.specs.Followers.{readers_of}

-- one reads the log, or doesn't
pub name_added : (l : ℕ) (name copy : List ℕ) (d : Reader) (old new : List (List ℕ)) → copy ≡ name → (d.log == l) ≡ true → new ≡ old ++ copy ∷ [] → new ≡ old ++ readers_for l ((name, d) ∷ [])
name_added l name copy d old new e t n = n ∙ (ap (λ x. old ++ x ∷ []) e ∙ ap (λ b. old ++ cond b (name ∷ []) []) (sym t))

pub name_passed : (l : ℕ) (name : List ℕ) (d : Reader) (old : List (List ℕ)) → (d.log == l) ≡ false → old ≡ old ++ readers_for l ((name, d) ∷ [])
name_passed l name d old t = sym (append-nil old) ∙ ap (λ b. old ++ cond b (name ∷ []) []) (sym t)

pub ruleset name_rules = (name_added, name_passed)

-- one after the other
either : (b : Bool) (name : List ℕ) (rest : List (List ℕ)) → cond b (name ∷ []) [] ++ rest ≡ cond b (name ∷ rest) rest
either true name rest = refl
either false name rest = refl

pub names_on : (l : ℕ) (fs : List (List ℕ × Following)) (place : ℕ) (f : List ℕ × Following) (old new all : List (List ℕ)) → slice_get fs place ≡ Some f → new ≡ old ++ readers_for l ((f.0, f.1.reader) ∷ [])
    → old ++ readers_for l (readers_of (drop place fs)) ≡ all → new ++ readers_for l (readers_of (drop (place + 1) fs)) ≡ all
names_on l fs place f old new all e n h =
    let rest : List (List ℕ) = readers_for l (readers_of (drop (place + 1) fs)) in
    ap (λ x. x ++ rest) n ∙ (append_assoc old (readers_for l ((f.0, f.1.reader) ∷ [])) rest
    ∙ (ap (λ x. old ++ x) (either (f.1.reader.log == l) f.0 rest ∙ ap (λ x. readers_for l (readers_of x)) (sym (drop_at_place fs place f e))) ∙ h))

pub names_all : (l : ℕ) (fs : List (List ℕ × Following)) (place : ℕ) (names all : List (List ℕ)) → length fs ≤ place → names ++ readers_for l (readers_of (drop place fs)) ≡ all → names ≡ all
names_all l fs place names all e h = sym (append-nil names) ∙ (ap (λ x. names ++ readers_for l (readers_of x)) (sym (drop_all place fs e)) ∙ h)
