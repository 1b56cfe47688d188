-- A reader on the way through its table.
use Rattle.std.proofs.Common.{◌≡◌, ℕ, ◌<◌, List, [], ◌∷◌, ◌++◌, ap, sym, ◌∙◌, append_assoc, append-nil}
use Rattle.ld_msg.specs.Reading.{Item}
use Rattle.ld_msg.specs.Reader.{Reader, after_item, verdict}
use Rattle.ld_reader.specs.Clipped.{all_clipped}
use Rattle.ld_reader.specs.Given.{given, after}
use Rattle.ld_reader.specs.Rounds.{ended}
use Rattle.ld_reader.specs.declared.round.Ending.{Ending}
use Rattle.ld_reader.proofs.Giving.{nothing_more}
use Rattle.ld_reader.proofs.Clipping.{StepsOn}

-- what was given, with what is left to give, is what the first reader gives
pub record OnTheWay (start : Reader) (before : List (ℕ × Item)) (now : Reader) (items : List (ℕ × Item)) : Type 0 where
  pub until : now.until ≡ start.until
  pub ends : after now ≡ after start
  pub gives : items ++ all_clipped now.until (given now) ≡ before ++ all_clipped start.until (given start)

pub goes_on : (start now : Reader) (before items : List (ℕ × Item)) (x : Item) → OnTheWay start before now items → StepsOn now x
    → OnTheWay start before (after_item now x) (items ++ (now.next, x) ∷ [])
goes_on start now before items x way s = record {
  until = way.until;
  ends = s.after ∙ way.ends;
  gives = append_assoc items ((now.next, x) ∷ []) (all_clipped now.until (given (after_item now x))) ∙ (ap (λ l. items ++ l) (sym s.items) ∙ way.gives);
}

-- what the reader gave in all
pub record Arrived (start : Reader) (before : List (ℕ × Item)) (now : Reader) (items : List (ℕ × Item)) (last : Ending) : Type 0 where
  pub there : now ≡ after start
  pub all : items ≡ before ++ all_clipped start.until (given start)
  pub ending : verdict (after start) ≡ ended last

pub arrives : (start now : Reader) (before items : List (ℕ × Item)) (ending : Ending) → OnTheWay start before now items → 0 < now.next
    → verdict now ≡ ended ending → Arrived start before now items ending
arrives start now before items ending way p e =
    let none = nothing_more now ending p e in
    let there : now ≡ after start = sym none.1 ∙ way.ends in
    record {
      there = there;
      all = sym (append-nil items) ∙ (ap (λ l. items ++ all_clipped now.until l) (sym none.0) ∙ way.gives);
      ending = ap (λ (r : Reader). verdict r) (sym there) ∙ e;
    }
