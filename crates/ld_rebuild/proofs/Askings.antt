-- Asks of one node after another.
use Rattle.std.proofs.Common.{◌≡◌, ℕ, ◌+◌, ◌≤◌, Bool, true, false, not, List, [], ◌∷◌, ◌++◌, length, take, drop, Some, if◌then◌else◌, refl, ap, sym, ◌∙◌, append_assoc}
use Rattle.std.specs.List.{slice_get}
use Rattle.std.proofs.lemmas.List.{take-append-le}
use Rattle.ld_table.specs.Words.{is_in, without}
use Rattle.ld_table.proofs.Places.{drop_at_place}
use Rattle.ld_msg.specs.declared.msg.Msg.{Msg}
use Rattle.ld_msg.specs.declared.msg.Who.TheVariants as whos
use Rattle.ld_msg.specs.declared.msg.Body.TheVariants as bodies
use Rattle.ld_msg.specs.Sequencer.{to_each}
use Rattle.ld_msg.specs.Network.{posted}
use Rattle.ld_rebuild.specs.Lacks.{asks_of}

asks_if : (id log from y : ℕ) (ys : List ℕ) (b : Bool) → posted (whos.Node id) log (to_each (bodies.ReadAsk 0 from) (if not b then y ∷ ys else ys)) ≡ posted (whos.Node id) log (to_each (bodies.ReadAsk 0 from) (if not b then y ∷ [] else [])) ++ posted (whos.Node id) log (to_each (bodies.ReadAsk 0 from) ys)
asks_if id log from y ys true = refl
asks_if id log from y ys false = refl

asks_split : (id log from y : ℕ) (ys : List ℕ) → asks_of id log from (y ∷ ys) ≡ asks_of id log from (y ∷ []) ++ asks_of id log from ys
asks_split id log from y ys = asks_if id log from y (without (id ∷ []) ys) (is_in y (id ∷ []))

-- one node more is asked, and one fewer is left
pub asked_one : (id log from : ℕ) (ys : List ℕ) (i y : ℕ) (sent : List Msg) → slice_get ys i ≡ Some y
    → (sent ++ asks_of id log from (y ∷ [])) ++ asks_of id log from (drop (i + 1) ys) ≡ sent ++ asks_of id log from (drop i ys)
asked_one id log from ys i y sent e =
    append_assoc sent _ _ ∙ ap (λ r. sent ++ r) (sym (ap (asks_of id log from) (drop_at_place ys i y e) ∙ asks_split id log from y (drop (i + 1) ys)))

pub keeps_front : (start sent more : List Msg) → length start ≤ length sent → take (length start) sent ≡ start → take (length start) (sent ++ more) ≡ start
keeps_front start sent more h e = take-append-le (length start) sent more h ∙ e
