-- A line that some forms refuse.
use Rattle.std.specs.Prelude.{max}
use Rattle.std.proofs.Common.{◌≡◌, ◌≢◌, ◌⊎◌, inl, inr, ℕ, ◌≤◌, ◌<◌, List, [], ◌∷◌, ◌++◌, length, refl, arith, subst, Err}
use Rattle.std.specs.List.{All}
use Rattle.std.proofs.lemmas.List.Elements.{All-nil, All-push, All-weaker}
use Rattle.ld_schedule.specs.declared.fault.LineFault.{LineFault}
use Rattle.ld_schedule.specs.declared.fault.LineFault.TheVariants.{Bad, NoMemory}
use Rattle.ld_schedule.specs.declared.event.Event.{Event}
use Rattle.ld_schedule.specs.declared.event.Event.TheVariants.{Format, Activate, Append, Batch, Trim, Retry, Drop, Deliver, Lose, Flow, Open, OpenOne, OpenMessages, Poll, Tick, Down, Up, Wipe, Fail, Tear, Set, Replace, Calm, RegFail}
use Rattle.ld_schedule.specs.declared.form.Form.{Form}
use Rattle.ld_schedule.specs.declared.form.Form.TheVariants as forms
use Rattle.ld_schedule.specs.declared.form.NodeForm.TheVariants as node_forms
use Rattle.ld_schedule.specs.declared.form.NameForm.TheVariants as name_forms
use Rattle.ld_schedule.specs.declared.form.CountForm.TheVariants as count_forms
use Rattle.ld_schedule.specs.Reading.{Begins, IsOff, IsText, IsRead, furthest}
use Rattle.ld_schedule.specs.Grammar.{IsNamed, event_text}
use Rattle.ld_schedule.specs.Form.{IsOfForm, form_of}
use Rattle.ld_schedule.specs.WordLaws.{some_count}

-- the form spells no such line, and goes no further than the place
pub record Refuses (line : List ℕ) (place : ℕ) (form : Form) : Type 0 where
  pub none : (event : Event) → IsOfForm form event → line ≢ event_text event
  pub longest : (a b : List ℕ) → line ≡ a ++ b → Begins (IsOfForm form) event_text a → length a ≤ place

-- some line of the grammar goes as far as the place
pub record Reaches (line : List ℕ) (place : ℕ) : Type 0 where
  pub front : List ℕ
  pub rest : List ℕ
  pub splits : line ≡ front ++ rest
  pub long : length front ≡ place
  pub begins : Begins IsNamed event_text front

pub record IsSearched (forms : List Form) (line : List ℕ) (place : ℕ) : Type 0 where
  pub reaches : Reaches line place
  pub refuse : All (Refuses line place) forms

-- what is known where these forms refuse the line
abbrev pub Searched : List Form → List ℕ → LineFault → Type 0
Searched forms line (Bad place) = IsSearched forms line place
Searched forms line NoMemory = Unit {0}

pub searched_none : (line : List ℕ) → Searched [] line (Bad 0)
searched_none line = record {
  reaches = record { front = []; rest = line; splits = refl; long = refl; begins = record { value = Flow 1; can = some_count; rest = event_text (Flow 1); is = refl } };
  refuse = All-nil (Refuses line 0);
}

further_on : (line : List ℕ) (j k : ℕ) → j ≤ k → (form : Form) → Refuses line j form → Refuses line k form
further_on line j k less form refuses = record { none = refuses.none; longest = λ a b splits begins. omega (arith, refuses.longest a b splits begins) }

begins_named : (form : Form) (front : List ℕ) → Begins (IsOfForm form) event_text front → Begins IsNamed event_text front
begins_named form front begins = record { value = begins.value; can = begins.can.can; rest = begins.rest; is = begins.is }

refuses_off : (line : List ℕ) (j k : ℕ) → k ≤ j → (form : Form) → IsOff (IsOfForm form) event_text line k → Refuses line j form
refuses_off line j k less form off = record { none = off.none; longest = λ a b splits begins. omega (arith, off.far.longest a b splits begins) }

by_number : (a b : ℕ) → (a ≤ b) ⊎ (b < a)
by_number a b = grind arith

farther : (line : List ℕ) (j k : ℕ) → Reaches line j → Reaches line k → Reaches line (max j k)
farther line j k one other = elim (by_number j k) [
  | inl less ↦ let same : k ≡ max j k = omega arith in subst (Reaches line) same other
  | inr more ↦ let same : j ≡ max j k = omega arith in subst (Reaches line) same one
]

one_more : (xs : List Form) (line : List ℕ) (j k : ℕ) (form : Form) → IsSearched xs line j → IsOff (IsOfForm form) event_text line k → IsSearched (xs ++ form ∷ []) line (max j k)
one_more xs line j k form found off = record {
  reaches = farther line j k found.reaches
      (record { front = off.far.front; rest = off.far.rest; splits = off.far.splits; long = off.far.long; begins = begins_named form off.far.front off.far.begins });
  refuse = All-push (Refuses line (max j k)) xs form
      (All-weaker (Refuses line j) (Refuses line (max j k)) (further_on line j (max j k) (omega arith)) xs found.refuse)
      (refuses_off line (max j k) k (omega arith) form off);
}

pub searched_more : (xs : List Form) (line : List ℕ) (fault other : LineFault) (form : Form) → Searched xs line fault → IsRead (IsOfForm form) event_text line (Err other)
    → Searched (xs ++ form ∷ []) line (furthest fault other)
searched_more xs line (Bad j) (Bad k) form found off = one_more xs line j k form found off
searched_more xs line (Bad j) NoMemory form found off = tt
searched_more xs line NoMemory other form found off = tt

-- the words that a line can begin with
abbrev pub all_forms : List Form
all_forms =
    (forms.Node node_forms.Format) ∷ (forms.Name name_forms.Activate) ∷ (forms.Name name_forms.Append) ∷ (forms.Name name_forms.Trim) ∷ (forms.Name name_forms.Retry) ∷ (forms.Name name_forms.Drop) ∷ (forms.Count count_forms.Deliver) ∷ (forms.Count count_forms.Lose) ∷ (forms.Count count_forms.Flow) ∷ (forms.Name name_forms.Open) ∷ (forms.Name name_forms.Poll) ∷ (forms.Node node_forms.Tick) ∷ (forms.Node node_forms.Down)
    ∷ (forms.Node node_forms.Up) ∷ (forms.Node node_forms.Wipe) ∷ (forms.Node node_forms.Fail) ∷ (forms.Node node_forms.Tear) ∷ (forms.Count count_forms.Set) ∷ (forms.Node node_forms.Replace) ∷ (forms.Count count_forms.RegFail)
    ∷ (forms.Name name_forms.Batch) ∷ (forms.Name name_forms.OpenOne) ∷ (forms.Name name_forms.OpenMessages) ∷ forms.Calm ∷ []

each : (P : Form → Type 0) (event : Event) → All P all_forms → P (form_of event)
each P (Format n) all = all 0 (forms.Node node_forms.Format) (omega arith)
each P (Activate s l) all = all 1 (forms.Node node_forms.Format) (omega arith)
each P (Append s p) all = all 2 (forms.Node node_forms.Format) (omega arith)
each P (Trim s p) all = all 3 (forms.Node node_forms.Format) (omega arith)
each P (Retry s) all = all 4 (forms.Node node_forms.Format) (omega arith)
each P (Drop s) all = all 5 (forms.Node node_forms.Format) (omega arith)
each P (Deliver i) all = all 6 (forms.Node node_forms.Format) (omega arith)
each P (Lose i) all = all 7 (forms.Node node_forms.Format) (omega arith)
each P (Flow k) all = all 8 (forms.Node node_forms.Format) (omega arith)
each P (Open s l f u) all = all 9 (forms.Node node_forms.Format) (omega arith)
each P (Poll s) all = all 10 (forms.Node node_forms.Format) (omega arith)
each P (Tick n l) all = all 11 (forms.Node node_forms.Format) (omega arith)
each P (Down n) all = all 12 (forms.Node node_forms.Format) (omega arith)
each P (Up n) all = all 13 (forms.Node node_forms.Format) (omega arith)
each P (Wipe n) all = all 14 (forms.Node node_forms.Format) (omega arith)
each P (Fail n k) all = all 15 (forms.Node node_forms.Format) (omega arith)
each P (Tear n k p) all = all 16 (forms.Node node_forms.Format) (omega arith)
each P (Set l r x s) all = all 17 (forms.Node node_forms.Format) (omega arith)
each P (Replace n m l) all = all 18 (forms.Node node_forms.Format) (omega arith)
each P (RegFail k d) all = all 19 (forms.Node node_forms.Format) (omega arith)
each P (Batch s ms) all = all 20 (forms.Node node_forms.Format) (omega arith)
each P (OpenOne s l f u) all = all 21 (forms.Node node_forms.Format) (omega arith)
each P (OpenMessages s l f u) all = all 22 (forms.Node node_forms.Format) (omega arith)
each P Calm all = all 23 (forms.Node node_forms.Format) (omega arith)

of_own : (event : Event) → IsNamed event → IsOfForm (form_of event) event
of_own event can = record { form_is = refl; can = can }

begins_own : (front : List ℕ) (begins : Begins IsNamed event_text front) → Begins (IsOfForm (form_of begins.value)) event_text front
begins_own front begins = record { value = begins.value; can = of_own begins.value begins.can; rest = begins.rest; is = begins.is }

off_all : (line : List ℕ) (place : ℕ) → IsSearched all_forms line place → IsOff IsNamed event_text line place
off_all line place found = record {
  none = λ event can. (each (Refuses line place) event found.refuse).none event (of_own event can);
  far = record {
    front = found.reaches.front;
    rest = found.reaches.rest;
    splits = found.reaches.splits;
    long = found.reaches.long;
    begins = found.reaches.begins;
    longest = λ a b splits begins. (each (Refuses line place) begins.value found.refuse).longest a b splits (begins_own a begins);
  };
}

pub searched_all : (line : List ℕ) (fault : LineFault) → Searched all_forms line fault → IsRead IsNamed event_text line (Err fault)
searched_all line (Bad place) found = off_all line place found
searched_all line NoMemory found = tt

pub read_named : (form : Form) (line : List ℕ) (event : Event) → IsText (IsOfForm form) event_text line event → IsText IsNamed event_text line event
read_named form line event read = record { can = read.can.can; is = read.is }
