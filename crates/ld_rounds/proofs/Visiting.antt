-- A node is visited.
use Rattle.std.proofs.Common.{◌≡◌, ◌⊎◌, ◌≤◌, ◌+◌, ◌==◌, ◌||◌, ℕ, zero, suc, Bool, true, false, List, [], ◌∷◌, ◌++◌, set, Option, Some, None, Ok, Err, refl, ap, sym, ◌∙◌, subst, inl, inr, arith}
use Rattle.std.specs.declared.result.Result.{Result}
use Rattle.std.specs.List.{AllByRecursion}
use Rattle.std.proofs.lemmas.Bool.{eq-eqb}
use Rattle.ld_table.specs.Words.{first as first_of, is_in}
use Rattle.ld_ids.specs.Set.{members}
use Rattle.ld_ids.specs.Id.{IsNode}
use Rattle.ld_io.specs.Causes.{Rose}
use Rattle.ld_config.specs.declared.config.Config.{Config}
use Rattle.ld_config.specs.Bounds.{IsInBounds}
use Rattle.ld_msg.specs.declared.msg.Msg.{Msg}
use Rattle.ld_machine.specs.State.{State}
use Rattle.ld_dial.specs.declared.fault.Fault.{Fault}
use Rattle.ld_dial.specs.declared.fault.Fault.TheVariants as faults
use Rattle.ld_dial.specs.Far.{Far, alone, handed, IsHanded, Receives, SendsTo, CountsFault, CountsEnding}
use Rattle.ld_rounds.specs.Queued.{queue_of, behind, waits}
use Rattle.std.proofs.lemmas.List.{set-get_or, length-append}
use Rattle.ld_rounds.specs.Telling.{is_of, is_answered, missed_by, AnswersOf}
use Rattle.ld_rounds.specs.Listening.{unsent_by, due_with}
use Rattle.ld_rounds.specs.Drives.{Driver, AreOfConfig, AreLater, IsApart, Holds, Went, GoesOn, WithNode, Answering}
use Rattle.ld_rounds.specs.Acts.{Own, IsDriverOf}
use Rattle.ld_rounds.proofs.News.{first_waits}
use Rattle.ld_rounds.proofs.Steps.{answers_once, answers_none}
use Rattle.ld_rounds.specs.Rounds.{Visiting, VisitEnd}
use Rattle.ld_rounds.proofs.Joining.{visiting_joins}
use Rattle.ld_rounds.proofs.Driving.{lose_first, lose_answer, lose_queue, turn_to, hand_first, moved_visiting}
use Rattle.ld_rounds.proofs.Going.{went_quietly, went_on, stopped_here}

some_is : {X : Type 0} {a b : X} → Some a ≡ Some b → a ≡ b
some_is {X} {a} {b} e = ap (λ o. of o a) e
  where
    of : Option X → X → X
    of None d = d
    of (Some r) d = r

-- the queue whose first message is taken
pub fronted : (ms : List Msg) (m : Msg) → Some m ≡ first_of ms → ms ≡ m ∷ behind ms
fronted [] m h = absurd cc
fronted (x ∷ xs) m h = ap (λ z. z ∷ xs) (sym (some_is h))

pub not_taken : (qs now : List (List Msg)) (y : ℕ) → None ≡ first_of (queue_of qs y) → now ≡ set qs y (behind (queue_of qs y)) → now ≡ qs
not_taken qs now y h e = e ∙ (ap (set qs y) (none_behind (queue_of qs y) h) ∙ set-get_or qs y [])
  where
    none_behind : (ms : List Msg) → None ≡ first_of ms → behind ms ≡ ms
    none_behind [] f = refl
    none_behind (x ∷ xs) f = absurd cc

pub taken_none : (qs now : List (List Msg)) (y : ℕ) → None ≡ first_of (queue_of qs y) → now ≡ set qs y (behind (queue_of qs y)) → queue_of now y ≡ []
taken_none qs now y h e = ap (λ x. queue_of x y) (not_taken qs now y h e) ∙ none_first (queue_of qs y) h
  where
    none_first : (ms : List Msg) → None ≡ first_of ms → ms ≡ []
    none_first [] f = refl
    none_first (x ∷ xs) f = absurd cc

pub unwaited : (ms : List Msg) (b : Bool) → b ≡ waits ms → b ≡ false → ms ≡ []
unwaited [] b w f = refl
unwaited (m ∷ ms) b w f = absurd cc

-- ---- the counts of the nodes ----

-- a call of the nodes hasn't lowered the count
pub fault_later : {T : Type 0} (before now : ℕ) (r : Result T Fault) → CountsFault before now r → before ≤ now
fault_later before now (Ok v) h = omega (arith, h)
fault_later before now (Err faults.Link) h = h.1
fault_later before now (Err faults.NoMemory) h = omega (arith, h)
fault_later before now (Err (faults.BadFrame fault)) h = omega (arith, h)

pub ending_later : (before now : ℕ) (r : Result (Option Msg) Fault) → CountsEnding before now r → before ≤ now
ending_later before now (Ok None) h = h.1
ending_later before now (Ok (Some m)) h = omega (arith, h)
ending_later before now (Err f) h = omega (arith, h)

-- after a call that finds no ending
pub sent_later : {T : Type 0} (f g e d : ℕ) (r : Result T Fault) → CountsFault f g r → d ≡ e → AreLater f g e d
sent_later f g e d r h same = (fault_later f g r h, omega (arith, same))

-- a queue that is emptied
pub emptied : (qs : List (List Msg)) (y : ℕ) → queue_of (set qs y []) y ≡ []
emptied [] y = refl
emptied (q ∷ qs) zero = refl
emptied (q ∷ qs) (suc y) = emptied qs y

-- ---- the nodes of a configuration ----

in_more : (x : ℕ) (xs ys : List ℕ) → AllByRecursion (λ y. is_in y xs ≡ true) ys → AllByRecursion (λ y. is_in y (x ∷ xs) ≡ true) ys
in_more x xs [] h = tt
in_more x xs (y ∷ ys) h = (or_right (x == y) (is_in y xs) h.0, in_more x xs ys h.1)
  where
    or_right : (a b : Bool) → b ≡ true → (a || b) ≡ true
    or_right true b p = refl
    or_right false b p = p

all_in : (xs : List ℕ) → AllByRecursion (λ y. is_in y xs ≡ true) xs
all_in [] = tt
all_in (x ∷ xs) = (ap (λ b. b || is_in x xs) (eq-eqb x x refl), in_more x xs xs (all_in xs))

-- its nodes are its own
pub all_there : (c : Config) → AreOfConfig c (members c.nodes)
all_there c = all_in (members c.nodes)

-- ---- answers that are due ----

pub answers_more : (y k n : ℕ) (xs ys : List Msg) → AnswersOf y k xs → AnswersOf y n ys → AnswersOf y (k + n) (xs ++ ys)
answers_more y k n xs ys a b = (omega (arith, length-append xs ys, a.0, b.0), each xs a.1)
  where
    each : (zs : List Msg) → AllByRecursion (λ m. is_of y m.from ≡ true) zs → AllByRecursion (λ m. is_of y m.from ≡ true) (zs ++ ys)
    each [] h = b.1
    each (z ∷ zs) h = (h.0, each zs h.1)

pub rest_due : (y n : ℕ) (m : Msg) (rest : List Msg) → AnswersOf y (n + 1) (m ∷ rest) → AnswersOf y n rest
rest_due y n m rest a = (omega (arith, a.0), a.1.1)

pub its_own : (y n : ℕ) (m : Msg) (rest : List Msg) → AnswersOf y n (m ∷ rest) → is_of y m.from ≡ true
its_own y n m rest a = a.1.0

none_left : (y : ℕ) (ms : List Msg) → AnswersOf y 0 ms → ms ≡ []
none_left y [] a = refl
none_left y (m ∷ ms) a = absurd (omega (arith, a.0))

pub none_due : (y n : ℕ) (ms : List Msg) → n ≡ 0 → AnswersOf y n ms → ms ≡ []
none_due y n ms e a = none_left y ms (subst (λ (k : ℕ). AnswersOf y k ms) e a)

pub due_none : (y n : ℕ) (ms : List Msg) → ms ≡ [] → AnswersOf y n ms
due_none y n ms e = subst (λ (l : List Msg). AnswersOf y n l) (sym e) (omega arith, tt)

-- where none is to be taken, any number may be due
pub may_answer : (tells : Config → Far → Type 0) (c : Config) (y n : ℕ) (far : Far) → WithNode tells c y far → Answering tells c y n far
may_answer tells c y n far t = (t.0.0, t.1, due_none y n far.answers t.0.1)

-- where none is due, none is to be taken
pub has_answered : (tells : Config → Far → Type 0) (c : Config) (y n : ℕ) (far : Far) → n ≡ 0 → Answering tells c y n far → WithNode tells c y far
has_answered tells c y n far e t = ((t.0, none_due y n far.answers e t.2), t.1)

-- it drives the same actor
pub drives_on : (who : Driver) (a b : Own) → IsDriverOf who a → b ≡ a → IsDriverOf who b
drives_on who a b is same = (is.0 ∙ ap (λ (x : Own). x.takes) (sym same), is.1 ∙ ap (λ (x : Own). x.ticks) (sym same))

-- whether it takes a message, as the state has it
pub takes_is : (f : State → Msg → Bool) (own : Own) (s : State) (m : Msg) (x y : Bool) → f ≡ own.takes → x ≡ own.takes s m → x ≡ y → f s m ≡ y
takes_is f own s m x y e taken is = ap (λ (g : State → Msg → Bool). g s m) e ∙ (sym taken ∙ is)

module _ (who : Driver) (broken : Type 0) (c : Config) (first : ℕ) (b : IsInBounds c) (A : Config → State → Type 0) (apart : IsApart A) (s : State) where
  -- an answer that the actor doesn't take does nothing
  pub ignored : (y : ℕ) (far : Far) (qs : List (List Msg)) (m : Msg) (rest : List Msg) (w : Option (List ℕ)) → is_of y m.from ≡ true → far.answers ≡ m ∷ rest → who.takes s m ≡ false → Holds A c first s far qs
      → Went who broken (Visiting c first y) A (λ now. now ≡ record far { answers = rest }) c first s qs w w
  ignored y far qs m rest w of e untaken h = went_quietly who broken c first b (Visiting c first y) A (λ now. now ≡ record far { answers = rest }) s (record far { answers = rest }) qs w refl (lose_answer who broken c first b A apart y s far qs m rest of h e untaken)

  module _ (tells : Config → Far → Type 0) (far : Far) (y due : ℕ) (present : far.present ≡ Some y) (of : AnswersOf y due far.answers) (is : IsNode y) (w : Option (List ℕ)) where
    -- what stands there once the node has handled a message
    abbrev handled : Msg → Far
    handled m = record { nodes = (handed c far.nodes y m).state.nodes; present = Some y; answers = far.answers ++ (handed c far.nodes y m).sends }

    told_of : (m : Msg) → IsHanded c far m (tells c) → tells c (handled m)
    told_of m i = subst (λ n. tells c (record { nodes = (handed c far.nodes n m).state.nodes; present = Some n; answers = far.answers ++ (handed c far.nodes n m).sends })) (some_is (sym i.present ∙ present)) i.told

    handed_as : (n : ℕ) (qs : List (List Msg)) (m : Msg) (rest : List Msg) → Holds A c first s far qs → queue_of qs y ≡ m ∷ rest → AnswersOf y n (handed c far.nodes y m).sends → IsHanded c far m (tells c) → Went who broken (Visiting c first y) A (Answering tells c y (due + n)) c first s (set qs y rest) w w
    handed_as n qs m rest h q a i =
        went_quietly who broken c first b (Visiting c first y) A (Answering tells c y (due + n)) s (handled m) (set qs y rest) w (told_of m i, refl, answers_more y due n far.answers (handed c far.nodes y m).sends of a)
        (hand_first who broken c first b A apart s far qs y m rest h is q (first_waits first s.network qs far.answers y m rest h.news is q))

    -- the first message is handled by the node
    pub handed_on : (qs : List (List Msg)) (m : Msg) (rest : List Msg) → Holds A c first s far qs → queue_of qs y ≡ m ∷ rest → IsHanded c far m (tells c) → Went who broken (Visiting c first y) A (Answering tells c y (due + 1)) c first s (set qs y rest) w w
    handed_on qs m rest h q i = handed_as 1 qs m rest h q (answers_once c (alone far.nodes) y m) i

    -- it is of a kind that no node answers
    pub handed_quietly : (qs : List (List Msg)) (m : Msg) (rest : List Msg) → Holds A c first s far qs → queue_of qs y ≡ m ∷ rest → is_answered m.body ≡ false → IsHanded c far m (tells c) → Went who broken (Visiting c first y) A (Answering tells c y (due + 0)) c first s (set qs y rest) w w
    handed_quietly qs m rest h q kind i = handed_as 0 qs m rest h q (due_none y 0 (handed c far.nodes y m).sends (answers_none c (alone far.nodes) y m kind)) i

    -- the first message is lost
    gone_on : broken → (qs : List (List Msg)) (m : Msg) (rest : List Msg) → Holds A c first s far qs → queue_of qs y ≡ m ∷ rest → tells c far → Went who broken (Visiting c first y) A (Answering tells c y due) c first s (set qs y rest) w w
    gone_on why qs m rest h q t = went_quietly who broken c first b (Visiting c first y) A (Answering tells c y due) s far (set qs y rest) w (t, present, of) (lose_first who broken c first b A apart why s far qs y m rest h is q)

    -- it isn't sent
    pub unsent : (quiet : Bool) (m : Msg) (rest : List Msg) (qs : List (List Msg)) (f : Fault) (before count : ℕ) → CountsFault {T = Unit {0}} before count (Err f) → (Rose before count → broken) → Holds A c first s far qs → queue_of qs y ≡ m ∷ rest → SendsTo c far m quiet (tells c) (Err f)
        → (quiet ≡ true) ⊎ GoesOn who broken (Visiting c first y) (VisitEnd c first y) A (Answering tells c y (due_with due (unsent_by f))) c first s (set qs y rest) w w (unsent_by f)
    unsent quiet m rest qs faults.Link before count rose why h q (inl gone) = inr (gone_on (why rose.0) qs m rest h q gone.told)
    unsent quiet m rest qs faults.Link before count rose why h q (inr silent) = inl silent
    unsent quiet m rest qs (faults.BadFrame fault) before count rose why h q sent = absurd sent
    unsent quiet m rest qs faults.NoMemory before count rose why h q sent = inr (stopped_here who broken c first b (Visiting c first y) s w (tt, tt, tt))

  -- nothing is taken
  pub unheard : (y : ℕ) (T U : Far → Type 0) (far : Far) (qs : List (List Msg)) (w : Option (List ℕ)) (f : Fault) → Receives far T (Err f) → GoesOn who broken (Visiting c first y) (VisitEnd c first y) A U c first s qs w w (missed_by f)
  unheard y T U far qs w faults.Link h = absurd h
  unheard y T U far qs w (faults.BadFrame fault) h = absurd h
  unheard y T U far qs w faults.NoMemory h = stopped_here who broken c first b (Visiting c first y) s w (tt, tt, tt)

  -- a node is dialed
  pub dialed : (tells : Config → Far → Type 0) (far : Far) (y : ℕ) (qs : List (List Msg)) (w : Option (List ℕ)) → far.answers ≡ [] → Holds A c first s far qs → tells c (record { nodes = far.nodes; present = Some y; answers = [] }) → Went who broken (Visiting c first y) A (WithNode tells c y) c first s qs w w
  dialed tells far y qs w none h t = went_quietly who broken c first b (Visiting c first y) A (WithNode tells c y) s (record { nodes = far.nodes; present = Some y; answers = [] }) qs w ((t, refl), refl) (turn_to who broken c first b A apart y s far (Some y) qs none h)

  -- a node wasn't reached, and what waits for it is dropped
  pub missed : broken → (T : Far → Type 0) (far : Far) (y : ℕ) (qs : List (List Msg)) (w : Option (List ℕ)) → far.answers ≡ [] → IsNode y → Holds A c first s far qs → T (record { nodes = far.nodes; present = None; answers = [] }) → Went who broken (Visiting c first y) A T c first s (set qs y []) w w
  missed why T far y qs w none is h t =
      let end : Far = record { nodes = far.nodes; present = None; answers = [] } in
      let m = turn_to who broken c first b A apart y s far None qs none h in
      went_quietly who broken c first b (Visiting c first y) A T s end (set qs y []) w t (moved_visiting who broken c first b y A A s end end qs (set qs y []) [] [] m (lose_queue who broken c first b A apart why m.state end qs y m.holds is))

  -- what waits for a node is dropped
  pub dropped : broken → (T : Far → Type 0) (qs : List (List Msg)) (y : ℕ) (old new : Option (List ℕ)) → IsNode y → Went who broken (Visiting c first y) A T c first s qs old new → Went who broken (Visiting c first y) A T c first s (set qs y []) old new
  dropped why T qs y old new is w =
      went_on who broken c first b (Visiting c first y) (Visiting c first y) (Visiting c first y) A A T T s qs (set qs y []) old new new (visiting_joins c first y) w (went_quietly who broken c first b (Visiting c first y) A T w.moved.state w.far (set qs y []) new w.told (lose_queue who broken c first b A apart why w.moved.state w.far qs y w.moved.holds is))
