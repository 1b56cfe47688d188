-- A drive goes on, or ends.
use Rattle.std.proofs.Common.{◌≡◌, ◌⊎◌, ℕ, List, [], ◌++◌, Option, Some, None, Ok, Err, refl, sym, subst, inl, inr}
use Rattle.std.specs.Prelude.{MatchResult, IfErr, IfSome, OnOk}
use Rattle.std.specs.declared.result.Result.{Result}
use Rattle.ld_config.specs.declared.config.Config.{Config}
use Rattle.ld_config.specs.Bounds.{IsInBounds}
use Rattle.ld_schedule.specs.declared.event.Event.{Event}
use Rattle.ld_transcript.specs.declared.line.Line.{Line}
use Rattle.ld_transcript.specs.Text.{text}
use Rattle.ld_msg.specs.declared.msg.Msg.{Msg}
use Rattle.ld_machine.specs.State.{State}
use Rattle.ld_machine.specs.Run.{state_after}
use Rattle.ld_dial.specs.Far.{Far}
use Rattle.ld_rounds.specs.declared.ended.Ended.{Ended}
use Rattle.ld_rounds.specs.declared.ended.Ended.TheVariants as ends
use Rattle.ld_rounds.specs.declared.actor.Heard.{Heard}
use Rattle.ld_rounds.specs.Ends.{IsSaid}
use Rattle.ld_rounds.specs.Queued.{queue_of, put_all}
use Rattle.ld_rounds.specs.News.{AreNews}
use Rattle.ld_rounds.specs.Output.{AppendsPart}
use Rattle.ld_rounds.specs.Telling.{Told, HasTold, IsTelling}
use Rattle.ld_rounds.specs.Rounds.{Visiting, VisitEnd, LoseBy, IsVisiting, IsVisit}
use Rattle.ld_rounds.specs.Drives.{Driver, CallCounts, HasBroken, AllTaken, Holds, Moved, Went, Stopped, CutOr, Stops, GoesOn}
use Rattle.ld_rounds.proofs.Joining.{Joins, visiting_joins, lose_if}
use Rattle.ld_rounds.proofs.Steps.{stays, goes_on, goes_if, goes_few}
use Rattle.ld_rounds.proofs.Driving.{moved_on}
use Rattle.ld_rounds.proofs.Writing.{Appends-nil, none_written, all_written, lines_on, lines_cut}

-- it isn't a frame that is off
abbrev pub NoFrame : Option Ended → Type 0
NoFrame (Some (ends.BadFrame fault)) = ⊥
NoFrame _ = Unit {0}

-- what a line says is none
said_unframed : (ls : List Line) (e : Ended) → IsSaid ls e → NoFrame (Some e)
said_unframed ls (ends.BadFrame fault) s = s
said_unframed ls e s = tt

pub unframed : (ls : List Line) (o : Option Ended) → IfSome o (IsSaid ls) → NoFrame o
unframed ls None s = tt
unframed ls (Some e) s = said_unframed ls e s

-- whatever the answer is
pub whatever : {R : Type 0} {X : Type 0} (r : Result R Ended) → X → OnOk r X
whatever (Ok v) x = x
whatever (Err e) x = tt

-- whatever the end is
pub each_end : {R : Type 0} {X : Ended → Type 0} (r : Result R Ended) → ((e : Ended) → X e) → IfErr r X
each_end (Ok v) f = tt
each_end (Err e) f = f e

pub end_by : {R : Type 0} {X Y : Ended → Type 0} (r : Result R Ended) → ((e : Ended) → X e → Y e) → IfErr r X → IfErr r Y
end_by (Ok v) f h = tt
end_by (Err e) f h = f e h

-- an ending, where both ways go on
pub cut_by : {P Q R S : Type 0} (e : Ended) → (P → R) → (Q → S) → CutOr P Q e → CutOr R S e
cut_by ends.NoMemory f g w = f w
cut_by ends.Write f g w = f w
cut_by ends.Done f g w = g w
cut_by ends.Rounds f g w = g w
cut_by (ends.Preempted by) f g w = g w
cut_by ends.LogLimit f g w = g w
cut_by ends.EpochLimit f g w = g w
cut_by ends.EpochFull f g w = g w
cut_by (ends.Register fault) f g w = g w
cut_by (ends.BadFrame fault) f g w = w
cut_by (ends.BadLine line place) f g w = g w
cut_by ends.Read f g w = g w

module _ (who : Driver) (broken : Type 0) (c : Config) (first : ℕ) (b : IsInBounds c) where
  -- nothing was done
  pub stopped_here : (P : State → List Event → Type 0) (s : State) (a : Option (List ℕ)) → P s [] → Stopped who broken P c s a a
  stopped_here P s a p = record { state = s; lines = []; goes = stays who broken c P s p; written = none_written a [] }

  -- all was done
  pub halted : (P : State → List Event → Type 0) (A : Config → State → Type 0) (T : Far → Type 0) (s : State) (qs : List (List Msg)) (old new : Option (List ℕ)) → Went who broken P A T c first s qs old new → Stopped who broken P c s old new
  halted P A T s qs old new w = record { state = w.moved.state; lines = w.lines; goes = w.moved.goes; written = all_written old new (text w.lines) w.written }

  -- steps without lines
  abbrev pub went_quietly : (P : State → List Event → Type 0) (A : Config → State → Type 0) (T : Far → Type 0) (s : State) (far : Far) (qs : List (List Msg)) (a : Option (List ℕ)) → T far → Moved who broken P A c first s far qs [] → Went who broken P A T c first s qs a a
  went_quietly P A T s far qs a t m = record { far = far; lines = []; told = t; moved = m; written = Appends-nil a }

  abbrev pub went_here : (P : State → List Event → Type 0) (A : Config → State → Type 0) (T : Far → Type 0) (s : State) (far : Far) (qs : List (List Msg)) (a : Option (List ℕ)) → P s [] → T far → Holds A c first s far qs → Went who broken P A T c first s qs a a
  went_here P A T s far qs a p t h = went_quietly P A T s far qs a t (record { state = s; goes = stays who broken c P s p; holds = h })

  abbrev pub went_on : (P Q R : State → List Event → Type 0) (A B : Config → State → Type 0) (T U : Far → Type 0) (s : State) (qs rs : List (List Msg)) (old mid new : Option (List ℕ)) → Joins c P Q R → (w : Went who broken P A T c first s qs old mid) → Went who broken Q B U c first w.moved.state rs mid new
      → Went who broken R B U c first s rs old new
  went_on P Q R A B T U s qs rs old mid new j w v = record {
    far = v.far;
    lines = w.lines ++ v.lines;
    told = v.told;
    moved = moved_on who broken c first b P Q R A B s w.far v.far qs rs w.lines v.lines j w.moved v.moved;
    written = lines_on old mid new w.lines v.lines w.written v.written;
  }

  -- the actor is another one, of the same part of the state
  abbrev pub went_by : (P : State → List Event → Type 0) (A B : Config → State → Type 0) (T : Far → Type 0) (s : State) (qs : List (List Msg)) (old new : Option (List ℕ)) → (w : Went who broken P A T c first s qs old new) → B c w.moved.state → Went who broken P B T c first s qs old new
  went_by P A B T s qs old new w a = record {
    far = w.far;
    lines = w.lines;
    told = w.told;
    moved = record { state = w.moved.state; goes = w.moved.goes; holds = record { sound = w.moved.holds.sound; actor = a; nodes = w.moved.holds.nodes; count = w.moved.holds.count; news = w.moved.holds.news } };
    written = w.written;
  }

  pub went_stops : (P Q R : State → List Event → Type 0) (A : Config → State → Type 0) (T : Far → Type 0) (s : State) (qs : List (List Msg)) (old mid new : Option (List ℕ)) → Joins c P Q R → (w : Went who broken P A T c first s qs old mid) → Stopped who broken Q c w.moved.state mid new
      → Stopped who broken R c s old new
  went_stops P Q R A T s qs old mid new j w v = record {
    state = v.state;
    lines = w.lines ++ v.lines;
    goes = goes_on who broken c P Q R s w.moved.state v.state w.lines v.lines j w.moved.goes v.goes;
    written = lines_cut old mid new w.lines v.lines w.written v.written;
  }

  -- one after the other
  pub goes_further : {R : Type 0} (P N M : State → List Event → Type 0) (E F : Ended → State → List Event → Type 0) (A B : Config → State → Type 0) (T U : Far → Type 0) (s : State) (qs rs : List (List Msg)) (old mid new : Option (List ℕ)) (r : Result R Ended)
      → Joins c P N M → IfErr r (λ e. Joins c P (E e) (F e)) → (w : Went who broken P A T c first s qs old mid)
      → GoesOn who broken N E B U c first w.moved.state rs mid new r → GoesOn who broken M F B U c first s rs old new r
  goes_further P N M E F A B T U s qs rs old mid new (Ok v) j k w g = went_on P N M A B T U s qs rs old mid new j w g
  goes_further P N M E F A B T U s qs rs old mid new (Err e) j k w g = cut_by e (went_stops P (E e) (F e) A T s qs old mid new k w) (went_on P (E e) (F e) A B T U s qs rs old mid new k w) g

  -- where less is said of the nodes and of the steps, and more is broken
  abbrev pub went_such : (less : Type 0) (P Q : State → List Event → Type 0) (A : Config → State → Type 0) (T U : Far → Type 0) (s : State) (qs : List (List Msg)) (old new : Option (List ℕ)) → (less → broken) → ((f : Far) → T f → U f) → (w : Went who less P A T c first s qs old new)
      → ((es : List Event) → w.moved.state ≡ state_after c s es → P s es → Q s es) → Went who broken Q A U c first s qs old new
  went_such less P Q A T U s qs old new l f w p = record {
    far = w.far;
    lines = w.lines;
    told = f w.far w.told;
    moved = record { state = w.moved.state; goes = goes_if who broken c less P Q s w.moved.state w.lines l p w.moved.goes; holds = w.moved.holds };
    written = w.written;
  }

  abbrev pub went_as : (P : State → List Event → Type 0) (less : Type 0) (A : Config → State → Type 0) (T U : Far → Type 0) (s : State) (qs : List (List Msg)) (old new : Option (List ℕ)) → (less → broken) → ((f : Far) → T f → U f) → Went who less P A T c first s qs old new → Went who broken P A U c first s qs old new
  went_as P less A T U s qs old new l f w = went_such less P P A T U s qs old new l f w (λ es e p. p)

  stopped_such : (less : Type 0) (P Q : State → List Event → Type 0) (s : State) (old new : Option (List ℕ)) → (less → broken) → ((es : List Event) → P s es → Q s es) → Stopped who less P c s old new → Stopped who broken Q c s old new
  stopped_such less P Q s old new l p w = record { state = w.state; lines = w.lines; goes = goes_if who broken c less P Q s w.state w.lines l (λ es e x. p es x) w.goes; written = w.written }

  pub goes_such : {R : Type 0} (P Q : State → List Event → Type 0) (E F : Ended → State → List Event → Type 0) (less : Type 0) (A : Config → State → Type 0) (T U : Far → Type 0) (s : State) (qs : List (List Msg)) (old new : Option (List ℕ)) (r : Result R Ended) → (less → broken) → ((f : Far) → T f → U f)
      → ((es : List Event) → P s es → Q s es) → IfErr r (λ e. (es : List Event) → E e s es → F e s es) → GoesOn who less P E A T c first s qs old new r → GoesOn who broken Q F A U c first s qs old new r
  goes_such P Q E F less A T U s qs old new (Ok v) l f p q w = went_such less P Q A T U s qs old new l f w (λ es e x. p es x)
  goes_such P Q E F less A T U s qs old new (Err e) l f p q w = cut_by e (stopped_such less (E e) (F e) s old new l q) (λ x. went_such less (E e) (F e) A T U s qs old new l f x (λ es o y. q es y)) w

  pub goes_as : {R : Type 0} (P : State → List Event → Type 0) (E : Ended → State → List Event → Type 0) (less : Type 0) (A : Config → State → Type 0) (T U : Far → Type 0) (s : State) (qs : List (List Msg)) (old new : Option (List ℕ)) (r : Result R Ended) → (less → broken) → ((f : Far) → T f → U f) → GoesOn who less P E A T c first s qs old new r
      → GoesOn who broken P E A U c first s qs old new r
  goes_as P E less A T U s qs old new (Ok v) l f w = went_as P less A T U s qs old new l f w
  goes_as P E less A T U s qs old new (Err e) l f w = cut_by e (stopped_such less (E e) (E e) s old new l (λ es x. x)) (went_as (E e) less A T U s qs old new l f) w

  -- where it is silent, it stays so
  pub then_on : {R : Type 0} (P N M : State → List Event → Type 0) (E F : Ended → State → List Event → Type 0) (L K : Type 0) (X Y : Type 0) (A B : Config → State → Type 0) (T U : Far → Type 0) (s : State) (qs rs : List (List Msg)) (old mid new : Option (List ℕ)) (r : Result R Ended)
      → Joins c P N M → IfErr r (λ e. Joins c P (E e) (F e)) → (L → broken) → (K → broken) → (X → Y)
      → ((w : Went who L P A T c first s qs old mid) → Y ⊎ GoesOn who K N E B U c first w.moved.state rs mid new r) → X ⊎ Went who L P A T c first s qs old mid → Y ⊎ GoesOn who broken M F B U c first s rs old new r
  then_on P N M E F L K X Y A B T U s qs rs old mid new r j k l o f g (inl x) = inl (f x)
  then_on {R} P N M E F L K X Y A B T U s qs rs old mid new r j k l o f g (inr w) = then_by (g w)
    where
      then_by : Y ⊎ GoesOn who K N E B U c first w.moved.state rs mid new r → Y ⊎ GoesOn who broken M F B U c first s rs old new r
      then_by (inl y) = inl y
      then_by (inr v) = inr (goes_further P N M E F A B T U s qs rs old mid new r j k (went_as P L A T T s qs old mid l (λ f t. t) w) (goes_as N E K B U U w.moved.state rs mid new r o (λ f t. t) v))

  pub visiting_on : {R : Type 0} (y : ℕ) (L K : Type 0) (X Y : Type 0) (A B : Config → State → Type 0) (T U : Far → Type 0) (s : State) (qs rs : List (List Msg)) (old mid new : Option (List ℕ)) (r : Result R Ended) → (L → broken) → (K → broken) → (X → Y)
      → ((w : Went who L (Visiting c first y) A T c first s qs old mid) → Y ⊎ GoesOn who K (Visiting c first y) (VisitEnd c first y) B U c first w.moved.state rs mid new r) → X ⊎ Went who L (Visiting c first y) A T c first s qs old mid → Y ⊎ GoesOn who broken (Visiting c first y) (VisitEnd c first y) B U c first s rs old new r
  visiting_on {R} y L K X Y A B T U s qs rs old mid new r l o f g h = then_on {R = R} (Visiting c first y) (Visiting c first y) (Visiting c first y) (VisitEnd c first y) (VisitEnd c first y) L K X Y A B T U s qs rs old mid new r (visiting_joins c first y) (each_end r (λ e. visiting_joins c first y)) l o f g h

  -- the steps of a visit, with what they lose
  visiting_so : (y : ℕ) (counts : CallCounts) (s : State) (es : List Event) → (broken → HasBroken counts) → LoseBy broken c s es → Visiting c first y s es → IsVisiting c first y counts s es
  visiting_so y counts s es l few q = record { steps = q; few = lose_if c broken (HasBroken counts) s es l few }

  -- such steps that leave nothing that waits for the node
  pub went_visit : (y : ℕ) (counts : CallCounts) (A : Config → State → Type 0) (T : Far → Type 0) (s : State) (qs : List (List Msg)) (old new : Option (List ℕ)) → (broken → HasBroken counts) → queue_of qs y ≡ [] → Went who broken (Visiting c first y) A (AllTaken T) c first s qs old new → Went who broken (IsVisit c first y counts) A (AllTaken T) c first s qs old new
  went_visit y counts A T s qs old new l z w = record {
    far = w.far;
    lines = w.lines;
    told = w.told;
    moved = record {
      state = w.moved.state;
      goes = goes_few who broken c (Visiting c first y) (IsVisit c first y counts) s w.moved.state w.lines
          (λ es e few q. record {
            visiting = visiting_so y counts s es l few q;
            queues = qs;
            news = subst (λ (x : State). AreNews first x.network qs []) e (subst (λ answers. AreNews first w.moved.state.network qs answers) w.told.1 w.moved.holds.news);
            emptied = z;
          }) w.moved.goes;
      holds = w.moved.holds;
    };
    written = w.written;
  }

  -- a visit in part
  visiting_stopped : (y : ℕ) (counts : CallCounts) (s : State) (old new : Option (List ℕ)) → (broken → HasBroken counts) → Stopped who broken (Visiting c first y) c s old new → Stopped who broken (IsVisiting c first y counts) c s old new
  visiting_stopped y counts s old new l w = record {
    state = w.state;
    lines = w.lines;
    goes = goes_few who broken c (Visiting c first y) (IsVisiting c first y counts) s w.state w.lines (λ es e few q. visiting_so y counts s es l few q) w.goes;
    written = w.written;
  }

  visiting_went : (y : ℕ) (counts : CallCounts) (A : Config → State → Type 0) (T : Far → Type 0) (s : State) (qs : List (List Msg)) (old new : Option (List ℕ)) → (broken → HasBroken counts) → Went who broken (Visiting c first y) A T c first s qs old new → Went who broken (IsVisiting c first y counts) A T c first s qs old new
  visiting_went y counts A T s qs old new l w = record {
    far = w.far;
    lines = w.lines;
    told = w.told;
    moved = record {
      state = w.moved.state;
      goes = goes_few who broken c (Visiting c first y) (IsVisiting c first y counts) s w.moved.state w.lines (λ es e few q. visiting_so y counts s es l few q) w.moved.goes;
      holds = w.moved.holds;
    };
    written = w.written;
  }

  pub visit_ends : (y : ℕ) (counts : CallCounts) (A : Config → State → Type 0) (T : Far → Type 0) (s : State) (qs : List (List Msg)) (old new : Option (List ℕ)) (e : Ended) → (broken → HasBroken counts) → Stops who broken (VisitEnd c first y) A T c first s qs old new e → Stops who broken (λ f. IsVisiting c first y counts) A T c first s qs old new e
  visit_ends y counts A T s qs old new e l w = cut_by e (visiting_stopped y counts s old new l) (visiting_went y counts A T s qs old new l) w

  -- ---- what an actor did is told ----
  module _ (P : State → List Event → Type 0) (E : Ended → State → List Event → Type 0) (A : Config → State → Type 0) (s : State) (end : Far) (before now : List (List Msg)) (old new : Option (List ℕ)) (heard : Heard)
      (m : Moved who broken P A c first s end (put_all before heard.sends) heard.lines.items) (q : (e : Ended) (es : List Event) → P s es → E e s es) where
    told_whole : (o : Option Ended) → Told heard o before now old new → Went who broken P A (λ f. f ≡ end) c first s now old new
    told_whole o t = record {
      far = end;
      lines = heard.lines.items;
      told = refl;
      moved = subst (λ (x : List (List Msg)). Moved who broken P A c first s end x heard.lines.items) (sym t.queues) m;
      written = t.written;
    }

    told_end : (e : Ended) → Told heard (Some e) before now old new → Went who broken (E e) A (λ f. f ≡ end) c first s now old new
    told_end e t = went_such broken P (E e) A (λ f. f ≡ end) (λ f. f ≡ end) s now old new (λ l. l) (λ f x. x) (told_whole (Some e) t) (λ es o x. q e es x)

    told_part : (e : Ended) → AppendsPart old new (text heard.lines.items) → Stopped who broken (E e) c s old new
    told_part e p = record { state = m.state; lines = heard.lines.items; goes = goes_if who broken c broken P (E e) s m.state heard.lines.items (λ l. l) (λ es o x. q e es x) m.goes; written = p }

    telling : (e : Ended) → NoFrame heard.end → IsTelling heard before now old new e → Stops who broken E A (λ f. f ≡ end) c first s now old new e
    telling ends.NoMemory n t = told_part ends.NoMemory t
    telling ends.Write n t = told_part ends.Write t
    telling ends.Done n t = told_end ends.Done t
    telling ends.Rounds n t = told_end ends.Rounds t
    telling (ends.Preempted by) n t = told_end (ends.Preempted by) t
    telling ends.LogLimit n t = told_end ends.LogLimit t
    telling ends.EpochLimit n t = told_end ends.EpochLimit t
    telling ends.EpochFull n t = told_end ends.EpochFull t
    telling (ends.Register fault) n t = told_end (ends.Register fault) t
    telling (ends.BadFrame fault) n t = subst NoFrame t.end_is n
    telling (ends.BadLine line place) n t = told_end (ends.BadLine line place) t
    telling ends.Read n t = told_end ends.Read t

    pub goes_told : (r : Result (Unit {0}) Ended) → NoFrame heard.end → MatchResult r (λ u. HasTold heard before now old new) (IsTelling heard before now old new) → GoesOn who broken P E A (λ f. f ≡ end) c first s now old new r
    goes_told (Ok u) n t = told_whole None t
    goes_told (Err e) n t = telling e n t
