-- A sequencer is activated, and driven.
use Rattle.std.proofs.Common.{◌≡◌, ◌⊎◌, ◌<◌, ℕ, Bool, true, false, List, [], Option, Some, None, Ok, Err, refl, ap, sym, subst, inl, inr}
use Rattle.std.specs.Prelude.{MatchResult, IfOk, IfErr}
use Rattle.std.specs.declared.result.Result.{Result}
use Rattle.ld_ids.specs.Set.{members}
use Rattle.ld_config.specs.declared.config.Config.{Config}
use Rattle.ld_config.specs.Bounds.{IsInBounds}
use Rattle.ld_schedule.specs.declared.event.Event.{Event}
use Rattle.ld_schedule.specs.declared.event.Event.TheVariants as events
use Rattle.ld_msg.specs.declared.msg.Msg.{Msg}
use Rattle.ld_msg.specs.Network.{Network}
use Rattle.ld_msg.specs.Register.{Register}
use Rattle.ld_sequencer.specs.Whole.{Whole}
use Rattle.ld_machine.specs.Disk.{Node}
use Rattle.ld_machine.specs.State.{State}
use Rattle.ld_machine.specs.Step.{happens}
use Rattle.ld_machine.specs.Run.{state_after}
use Rattle.ld_dial.specs.Far.{Far}
use Rattle.ld_rounds.specs.declared.ended.Ended.{Ended}
use Rattle.ld_rounds.specs.declared.ended.Ended.TheVariants as ends
use Rattle.ld_rounds.specs.declared.actor.Heard.{Heard}
use Rattle.ld_rounds.specs.Queued.{no_queues, are_empty}
use Rattle.ld_rounds.specs.News.{AreNews}
use Rattle.ld_rounds.specs.Acts.{IsActed}
use Rattle.ld_rounds.specs.Input.{Input}
use Rattle.ld_rounds.specs.Telling.{HasTold, IsTelling}
use Rattle.ld_rounds.specs.Rounds as rounds
use Rattle.ld_rounds.specs.Rounds.{IsOne, IsBegun, AppendsUntil, taken_of}
use Rattle.ld_rounds.specs.Taking.{TookAppends}
use Rattle.ld_rounds.specs.Drives.{Driver, AllTaken, Holds, Went, Stops, GoesOn, CallCounts, HasBroken}
use Rattle.ld_rounds.specs.Reaching.{Begins, Reached}
use Rattle.ld_append.specs.Acting.{Serves, settled_in}
use Rattle.ld_append.specs.Appends.{HasNone, sequencing, IsSettled, AreSteps, EndAt, IsAppended, DroveAppend, taken_end, IsStartEnding, IsDriveEnding}
use Rattle.ld_append.proofs.Ending.{start_partly}
use Rattle.ld_rounds.proofs.News.{no_news}
use Rattle.ld_rounds.proofs.Steps.{activate_is, goes_if}
use Rattle.ld_rounds.proofs.Joining.{splits_join, feeds_none, feeds_until}
use Rattle.ld_rounds.proofs.Driving.{acted_on}
use Rattle.ld_rounds.proofs.Going.{NoFrame, cut_by, goes_told, goes_as, goes_such, went_on, went_stops, went_such}

pub serves_apart : (name : List ℕ) (o : Option Whole) (T : Register → Type 0) (c : Config) (s : State) (nodes : List (ℕ × Node)) (network : Network) → Serves name o T c s → Serves name o T c (record s { nodes = nodes; network = network })
serves_apart name o T c s nodes network h = record { sequencer = h.sequencer; register = h.register }

pub begun : (name : List ℕ) (T : Register → Type 0) (c : Config) (s : State) (far : Far) → Begins (HasNone name T) c s far → Holds (Serves name None T) c s.network.count s far no_queues
begun name T c s far h = record {
  sound = h.sound;
  actor = record { sequencer = h.such.free; register = h.such.register };
  nodes = h.nodes;
  count = refl;
  news = subst (λ answers. AreNews s.network.count s.network no_queues answers) (sym h.answers) (no_news s.network h.sent);
}

module _ (who : Driver) (broken : Type 0) (c : Config) (b : IsInBounds c) (first : ℕ) (name own : List ℕ) (o p : Option Whole) (T U : Register → Type 0) (s : State) (far : Far) (qs now : List (List Msg)) (old new : Option (List ℕ)) (heard : Heard) where
  pub started_on : Holds (Serves name o T) c first s far qs → NoFrame heard.end → (r : Result (Unit {0}) Ended) → MatchResult r (λ u. HasTold heard qs now old new) (IsTelling heard qs now old new) → (l : ℕ)
      → IsActed (Serves own p U c) s heard.lines.items heard.sends (happens c s (events.Activate who.name l))
      → GoesOn who broken (IsOne (events.Activate who.name l)) (λ e. IsBegun (events.Activate who.name l)) (Serves own p U) (λ f. f ≡ far) c first s now old new r
  started_on h n r t l a = goes_told who broken c first b (IsOne (events.Activate who.name l)) (λ e. IsBegun (events.Activate who.name l)) (Serves own p U) s far qs now old new heard
      (acted_on who broken c first b (Serves name o T) (serves_apart name o T) (IsOne (events.Activate who.name l)) (Serves own p U) (serves_apart own p U) s far qs (events.Activate who.name l) heard.lines.items heard.sends refl refl tt (activate_is c s who.name l) h a) (λ e es x. inr x) r n t

-- the same under the name of the drive, where the nodes are told of
pub start_as : (own name : List ℕ) (l : ℕ) (broken : Type 0) (c : Config) (b : IsInBounds c) (first : ℕ) (A : Config → State → Type 0) (far : Far) (T : Far → Type 0) (s : State) (qs : List (List Msg)) (old new : Option (List ℕ)) → own ≡ name → T far → (r : Result (Unit {0}) Ended)
    → GoesOn (sequencing own) ⊥ (IsOne (events.Activate own l)) (λ e. IsBegun (events.Activate own l)) A (λ f. f ≡ far) c first s qs old new r → GoesOn (sequencing name) broken (IsOne (events.Activate name l)) (λ e. IsBegun (events.Activate name l)) A T c first s qs old new r
start_as own name l broken c b first A far T s qs old new n told r g =
    goes_as (sequencing name) broken c first b (IsOne (events.Activate name l)) (λ e. IsBegun (events.Activate name l)) ⊥ A (λ f. f ≡ far) T s qs old new r (λ l. absurd l) (λ f e. subst T (sym e) told)
    (subst (λ (m : List ℕ). GoesOn (sequencing m) ⊥ (IsOne (events.Activate m l)) (λ e. IsBegun (events.Activate m l)) A (λ f. f ≡ far) c first s qs old new r) n g)

-- ---- the end ----

settled_one : (c : Config) (first : ℕ) (own : List ℕ) (o : Option Whole) (T : Register → Type 0) (t : State) (queues : List (List Msg)) → Serves own o T c t → settled_in o ≡ true → AreNews first t.network queues [] → are_empty queues ≡ true → IsSettled own c first t
settled_one c first own None T t queues h f n e = absurd cc
settled_one c first own (Some w) T t queues h f n e = record {
  sequencer = w;
  there = h.sequencer.there;
  known = h.sequencer.knows.first;
  settled = f;
  queues = queues;
  news = n;
  empty = e;
}

-- an activation takes no payload
activate_takes : (c : Config) (name : List ℕ) (l : ℕ) (s : State) (es : List Event) → IsBegun (events.Activate name l) s es → taken_of c s es ≡ []
activate_takes c name l s es (inl h) = ap (taken_of c s) h
activate_takes c name l s es (inr h) = ap (taken_of c s) h

module _ (name : List ℕ) (l : ℕ) (counts : CallCounts) (coming : Option Input) (most : ℕ) (tells : Config → Far → Type 0) (c : Config) (b : IsInBounds c) (s : State) (own : List ℕ) (named : own ≡ name) (o : Option Whole) (U : Register → Type 0) (qs : List (List Msg)) (old new : Option (List ℕ)) where
  abbrev at : Ended → State → List Event → Type 0
  at e = EndAt name l c s.network.count counts coming most e

  reached : (P : State → List Event → Type 0) (Q : State → Type 0) → (w : Went (sequencing name) (HasBroken counts) P (Serves own o U) (AllTaken (tells c)) c s.network.count s qs old new) → Q w.moved.state → Reached (sequencing name) (HasBroken counts) P (tells c) c s old new Q
  reached P Q w q = record { state = w.moved.state; far = w.far; lines = w.lines; told = w.told.0; nodes = w.moved.holds.nodes; goes = w.moved.goes; written = w.written; such = q }

  ended_so : (e : Ended) → Went (sequencing name) (HasBroken counts) (at e) (Serves own o U) (AllTaken (tells c)) c s.network.count s qs old new → Reached (sequencing name) (HasBroken counts) (at e) (tells c) c s old new (λ t. U t.register)
  ended_so e w = reached (at e) (λ t. U t.register) w w.moved.holds.actor.register

  -- it has ended before all rounds were taken
  stopped_by : (crowded : Type 0) (damaged : ℕ → Type 0) (i : Option Input) (e : Ended) (p q k m : ℕ) → IsDriveEnding crowded damaged i p q k m old new e → Stops (sequencing name) (HasBroken counts) at (Serves own o U) (AllTaken (tells c)) c s.network.count s qs old new e → IsAppended name l counts coming most tells U c s old new e
  stopped_by crowded damaged i ends.NoMemory p q k m h g = g
  stopped_by crowded damaged i ends.Write p q k m h g = g
  stopped_by crowded damaged i ends.Done p q k m (inl h) g = absurd h.said
  stopped_by crowded damaged i ends.Done p q k m (inr h) g = absurd h.said
  stopped_by crowded damaged i ends.Rounds p q k m (inl h) g = absurd h.said
  stopped_by crowded damaged i ends.Rounds p q k m (inr h) g = absurd h.said
  stopped_by crowded damaged i (ends.Preempted by) p q k m h g = ended_so (ends.Preempted by) g
  stopped_by crowded damaged i ends.LogLimit p q k m h g =
      reached (λ t es. AreSteps name l c s.network.count counts coming ends.Rounds most t es ⊎ at ends.LogLimit t es) (λ t. U t.register)
      (went_such (sequencing name) (HasBroken counts) c s.network.count b (HasBroken counts) (at ends.LogLimit) (λ t es. AreSteps name l c s.network.count counts coming ends.Rounds most t es ⊎ at ends.LogLimit t es) (Serves own o U) (AllTaken (tells c)) (AllTaken (tells c)) s qs old new (λ x. x) (λ f t. t) g (λ es e x. inr x)) g.moved.holds.actor.register
  stopped_by crowded damaged i ends.EpochLimit p q k m h g = ended_so ends.EpochLimit g
  stopped_by crowded damaged i ends.EpochFull p q k m h g = ended_so ends.EpochFull g
  stopped_by crowded damaged i (ends.Register fault) p q k m h g = ended_so (ends.Register fault) g
  stopped_by crowded damaged i (ends.BadFrame fault) p q k m h g = g
  stopped_by crowded damaged i (ends.BadLine line place) p q k m h g = ended_so (ends.BadLine line place) g
  stopped_by crowded damaged i ends.Read p q k m h g = ended_so ends.Read g

  -- at the activation
  pub stopped_append : (crowded : Type 0) (damaged : ℕ → Type 0) (i : Option Input) (e : Ended) (p q k m : ℕ) → IsStartEnding crowded damaged k m old new e → Stops (sequencing name) (HasBroken counts) (λ f. IsBegun (events.Activate name l)) (Serves own o U) (AllTaken (tells c)) c s.network.count s qs old new e
      → IsAppended name l counts coming most tells U c s old new e
  stopped_append crowded damaged i e p q k m h g = stopped_by crowded damaged i e p q k m (inl h)
      (goes_such (sequencing name) (HasBroken counts) c s.network.count b {R = Unit {0}} (IsBegun (events.Activate name l)) (IsBegun (events.Activate name l)) (λ f. IsBegun (events.Activate name l)) at (HasBroken counts) (Serves own o U) (AllTaken (tells c)) (AllTaken (tells c)) s qs old new (Err e) (λ x. x) (λ f t. t)
      (λ es x. x) (λ es x. inl (x, feeds_until c coming coming e s es (start_partly crowded damaged k m old new e h) (feeds_none c coming s es (activate_takes c name l s es x)))) g)

  module _ (A : Config → State → Type 0) (T : Far → Type 0) (rs : List (List Msg)) (mid : Option (List ℕ)) (crowded : Type 0) (damaged : ℕ → Type 0) (i : Option Input) (p q k m : ℕ) (w : Went (sequencing name) (HasBroken counts) (IsOne (events.Activate name l)) A T c s.network.count s rs old mid) where
    since : (e : Ended) (n : ℕ) → Went (sequencing name) (HasBroken counts) (rounds.Appends name c s.network.count (members c.nodes) counts coming e n) (Serves own o U) (AllTaken (tells c)) c s.network.count w.moved.state qs mid new → Went (sequencing name) (HasBroken counts) (AreSteps name l c s.network.count counts coming e n) (Serves own o U) (AllTaken (tells c)) c s.network.count s qs old new
    since e n g = went_on (sequencing name) (HasBroken counts) c s.network.count b (IsOne (events.Activate name l)) (rounds.Appends name c s.network.count (members c.nodes) counts coming e n) (AreSteps name l c s.network.count counts coming e n) A (Serves own o U) T (AllTaken (tells c)) s rs qs old mid new
        (splits_join c (IsOne (events.Activate name l)) (rounds.Appends name c s.network.count (members c.nodes) counts coming e n)) w g

    stops_since : (e : Ended) (n : ℕ) → n < most → Stops (sequencing name) (HasBroken counts) (λ f. AppendsUntil name c s.network.count (members c.nodes) counts coming f n) (Serves own o U) (AllTaken (tells c)) c s.network.count w.moved.state qs mid new e → Stops (sequencing name) (HasBroken counts) at (Serves own o U) (AllTaken (tells c)) c s.network.count s qs old new e
    stops_since e n f g =
        let P = IsOne (events.Activate name l) in
        let Q = AppendsUntil name c s.network.count (members c.nodes) counts coming e n in
        let j = λ (t : State) (es fs : List Event) (x : P t es) (y : Q (state_after c t es) fs). inr (record { rounds = n; below = f; goes = splits_join c P Q t es fs x y }) in
        cut_by e (went_stops (sequencing name) (HasBroken counts) c s.network.count b P Q (at e) A T s rs old mid new j w) (went_on (sequencing name) (HasBroken counts) c s.network.count b P Q (at e) A (Serves own o U) T (AllTaken (tells c)) s rs qs old mid new j w) g

    -- the sequencer is active, and driven
    drove : (r : Result Bool Ended) → IfOk r (λ done. done ≡ true → (settled_in o ≡ true) × (are_empty qs ≡ true)) → IfErr r (IsDriveEnding crowded damaged i p q k m old new)
        → TookAppends (sequencing name) counts (members c.nodes) coming most (Serves own o U) (AllTaken (tells c)) c s.network.count w.moved.state qs mid new r → DroveAppend name l counts coming most tells U c s old new r
    drove (Ok false) f h g = let v = since ends.Rounds most g in reached (AreSteps name l c s.network.count counts coming ends.Rounds most) (λ t. U t.register) v v.moved.holds.actor.register
    drove (Ok true) f h g =
        let v = since ends.Done g.rounds g.goes in
        let settled = settled_one c s.network.count own o U v.moved.state qs v.moved.holds.actor (f refl).0 (subst (λ answers. AreNews s.network.count v.moved.state.network qs answers) v.told.1 v.moved.holds.news) (f refl).1 in
        record {
          rounds = g.rounds;
          least = g.least;
          below = g.below;
          goes = reached (AreSteps name l c s.network.count counts coming ends.Done g.rounds) (λ t. U t.register × IsSettled name c s.network.count t) v
              (v.moved.holds.actor.register, subst (λ (x : List ℕ). IsSettled x c s.network.count v.moved.state) named settled);
        }
    drove (Err e) f h g = stopped_by crowded damaged i e p q k m h (stops_since e g.rounds g.below g.goes)

    -- where it isn't silent
    pub drove_loud : (Y : Type 0) (r : Result Bool Ended) → IfOk r (λ done. done ≡ true → (settled_in o ≡ true) × (are_empty qs ≡ true)) → IfErr r (IsDriveEnding crowded damaged i p q k m old new)
        → Y ⊎ TookAppends (sequencing name) counts (members c.nodes) coming most (Serves own o U) (AllTaken (tells c)) c s.network.count w.moved.state qs mid new r → Y ⊎ DroveAppend name l counts coming most tells U c s old new r
    drove_loud Y r f h (inl y) = inl y
    drove_loud Y r f h (inr g) = inr (drove r f h g)

-- where all rounds were taken
pub rounds_end : (name : List ℕ) (l : ℕ) (counts : CallCounts) (coming : Option Input) (most : ℕ) (tells : Config → Far → Type 0) (U : Register → Type 0) (c : Config) (b : IsInBounds c) (s : State) (old new : Option (List ℕ)) (shut : Bool)
    → IsAppended name l counts coming most tells U c s old new ends.Rounds → IsAppended name l counts coming most tells U c s old new (taken_end shut)
rounds_end name l counts coming most tells U c b s old new false g = g
rounds_end name l counts coming most tells U c b s old new true g = record {
  state = g.state;
  far = g.far;
  lines = g.lines;
  told = g.told;
  nodes = g.nodes;
  goes = goes_if (sequencing name) (HasBroken counts) c (HasBroken counts) (AreSteps name l c s.network.count counts coming ends.Rounds most) (λ t es. AreSteps name l c s.network.count counts coming ends.Rounds most t es ⊎ EndAt name l c s.network.count counts coming most ends.LogLimit t es) s g.state g.lines (λ x. x) (λ es e x. inl x) g.goes;
  written = g.written;
  such = g.such;
}
