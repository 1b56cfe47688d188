-- A sequencer is driven over payloads and trims.
use Rattle.std.proofs.Common.{◌≡◌, ◌≤◌, ℕ, refl, sym, ap, subst, Bool, true, false, List, ◌∷◌, Option, None, Some, Ok, Err, ◌∙◌, arith, ◌&&◌, [], ◌++◌, append_assoc}
use Rattle.std.specs.Prelude.{IfErr, OnOk, MatchOption}
use Rattle.std.specs.declared.result.Result.{Result}
use Rattle.ld_io.specs.Causes.{Rose}
use Rattle.ld_config.specs.declared.config.Config.{Config}
use Rattle.ld_config.specs.Bounds.{IsInBounds}
use Rattle.ld_schedule.specs.declared.event.Event.{Event}
use Rattle.ld_msg.specs.declared.msg.Msg.{Msg}
use Rattle.ld_machine.specs.State.{State}
use Rattle.ld_machine.specs.Run.{state_after}
use Rattle.ld_wire.specs.declared.fault.WireFault.{WireFault}
use Rattle.ld_dial.specs.Far.{Far}
use Rattle.ld_rounds.specs.declared.ended.Ended.{Ended}
use Rattle.ld_rounds.specs.declared.ended.Ended.TheVariants as ends
use Rattle.ld_rounds.specs.declared.request.Request.{Request}
use Rattle.ld_rounds.specs.Endings.{IsLater, IsEnding, IsOffAs}
use Rattle.ld_rounds.specs.Input.{Input, all_taken, GivesNext, ComesTo}
use Rattle.ld_rounds.specs.Feeding.{upcoming, NextIs, WasOver, IsAhead, SameBehind, StaysAs, HasCome, IsOffBehind, IsInputEnding, IsAppendEnding}
use Rattle.ld_rounds.specs.Rounds.{Feeds, FeedsUntil, IsAppendRound, IsAppendPart, Rounds, RoundsUntil}
use Rattle.ld_rounds.specs.Drives.{Driver, CallCounts, Went, Stops, GoesOn}
use Rattle.ld_rounds.proofs.Joining.{Joins, IsPartly, round_as, round_part, until_end, input_until}
use Rattle.ld_rounds.proofs.Endings.{ending_since}
use Rattle.ld_rounds.proofs.Going.{NoFrame, halted, went_such, went_as, goes_as, goes_further}

rose_since : (k n m : ℕ) → k ≤ n → Rose n m → Rose k m
rose_since k n m l r = omega (arith, l, r)

rose_until : (k n m : ℕ) → n ≤ m → Rose k n → Rose k m
rose_until k n m l r = omega (arith, l, r)

-- an ending of a round
pub of_ending : (i : Option Input) (p q k m : ℕ) (a c : Option (List ℕ)) (e : Ended) → IsEnding k m a c e → IsAppendEnding i p q k m a c e
of_ending o p q k m a c ends.Read i = absurd i.said
of_ending o p q k m a c (ends.BadLine line place) i = absurd i.said
of_ending o p q k m a c ends.Write i = i
of_ending o p q k m a c ends.NoMemory i = tt
of_ending o p q k m a c (ends.BadFrame fault) i = tt
of_ending o p q k m a c ends.Done i = i
of_ending o p q k m a c ends.Rounds i = i
of_ending o p q k m a c (ends.Preempted by) i = i
of_ending o p q k m a c ends.LogLimit i = i
of_ending o p q k m a c ends.EpochLimit i = i
of_ending o p q k m a c ends.EpochFull i = i
of_ending o p q k m a c (ends.Register fault) i = i

-- an ending of the input
pub of_input : (i : Option Input) (p q k m : ℕ) (a c : Option (List ℕ)) (e : Ended) → IsInputEnding i p q e → IsAppendEnding i p q k m a c e
of_input o p q k m a c ends.Read i = i
of_input o p q k m a c (ends.BadLine line place) i = i
of_input o p q k m a c ends.NoMemory i = tt
of_input o p q k m a c ends.Write i = absurd i
of_input o p q k m a c (ends.BadFrame fault) i = tt
of_input o p q k m a c ends.Done i = absurd i
of_input o p q k m a c ends.Rounds i = absurd i
of_input o p q k m a c (ends.Preempted by) i = absurd i
of_input o p q k m a c ends.LogLimit i = absurd i
of_input o p q k m a c ends.EpochLimit i = absurd i
of_input o p q k m a c ends.EpochFull i = absurd i
of_input o p q k m a c (ends.Register fault) i = absurd i

-- ---- what comes behind all requests ----

pub same_here : (i : Option Input) → SameBehind i i
same_here None = tt
same_here (Some i) = record { left = i; now = refl; front = []; requests = refl; off = refl }

pub same_on : (i j k : Option Input) → SameBehind i j → SameBehind j k → SameBehind i k
same_on None j k a b = tt
same_on (Some i) j k a b =
    let h : IsAhead a.left k = subst (λ o. SameBehind o k) a.now b in
    record { left = h.left; now = h.now; front = a.front ++ h.front; requests = a.requests ∙ (ap (λ l. a.front ++ l) h.requests ∙ sym (append_assoc a.front h.front h.left.requests)); off = h.off ∙ a.off }

pub off_since : (i j : Option Input) (line place : ℕ) → SameBehind i j → IsOffBehind j line place → IsOffBehind i line place
off_since None j line place a o = tt
off_since (Some i) j line place a o =
    let h : ComesTo a.left line place = subst (λ x. IsOffBehind x line place) a.now o in
    record { rest = h.rest; batches = h.batches; off = sym a.off ∙ h.off; at = h.at }

pub next_behind : (i j : Option Input) (o : Option Request) → NextIs i j (Ok o) → SameBehind i j
next_behind None j o n = tt
next_behind (Some i) j (Some request) n = record { left = record { requests = n.rest; off = i.off }; now = n.left; front = request ∷ []; requests = n.first; off = refl }
next_behind (Some i) j None n = record { left = all_taken; now = n.1; front = []; requests = ap (λ (x : Input). x.requests) n.0; off = ap (λ (x : Input). x.off) (sym n.0) }

-- the next one is taken, and held
pub held_behind : (i j coming : Option Input) (request : Request) → SameBehind i j → NextIs j coming (Ok (Some request)) → SameBehind i (upcoming (Some request) coming)
held_behind None j coming request h n = tt
held_behind (Some i) j coming request h n =
    let m : GivesNext h.left coming request = subst (λ x. NextIs x coming (Ok (Some request))) h.now n in
    record {
      left = record { requests = request ∷ m.rest; off = h.left.off };
      now = ap (upcoming (Some request)) m.left;
      front = h.front;
      requests = h.requests ∙ ap (λ l. h.front ++ l) m.first;
      off = h.off;
    }

pub held_next : (request : Request) (coming : Option Input) → NextIs (upcoming (Some request) coming) coming (Ok (Some request))
held_next request None = tt
held_next request (Some i) = record { rest = i.requests; first = refl; left = refl }

-- the input has ended just now
pub over_now : (origin i j k : Option Input) (b : Bool) → SameBehind origin i → SameBehind i j → NextIs j k (Ok None) → WasOver origin b k
over_now origin i j k false p q n = tt
over_now None i j k true p q n = tt
over_now (Some o) i j k true p q n =
    let h : IsAhead o j = same_on (Some o) i j p q in
    (subst (λ x. NextIs x k (Ok None)) h.now n).1

pub over_later : (origin coming : Option Input) (b : Bool) → b ≡ false → WasOver origin b coming
over_later origin coming false e = tt
over_later origin coming true e = absurd cc

-- ---- what stays still to come ----

pub stays_behind : (i j : Option Input) → StaysAs i j → SameBehind i j
stays_behind None j h = tt
stays_behind (Some i) j h = record { left = i; now = h; front = []; requests = refl; off = refl }

pub stays_here : (i : Option Input) → StaysAs i i
stays_here None = tt
stays_here (Some i) = refl

-- the next one is taken, and held
pub next_stays : (i coming : Option Input) (o : Option Request) → NextIs i coming (Ok o) → StaysAs i (upcoming o coming)
next_stays None coming o n = tt
next_stays (Some i) coming (Some request) n = ap (upcoming (Some request)) n.left ∙ ap (λ (rs : List Request). Some (record i { requests = rs })) (sym n.first)
next_stays (Some i) coming None n = n.1 ∙ ap (λ (x : Input). Some x) (sym n.0)

-- the input has ended by that, where it has
pub over_next : (origin i coming : Option Input) (o : Option Request) (before now : Bool) → SameBehind origin i → NextIs i coming (Ok o) → before ≡ false → MatchOption o (now ≡ true) (λ request. now ≡ before) → WasOver origin now (upcoming o coming)
over_next origin i coming None before now p n f m = over_now origin i i coming now p (same_here i) n
over_next origin i coming (Some request) before now p n f m = over_later origin (upcoming (Some request) coming) now (m ∙ f)

pub ended_next : (o : Option Request) (before now : Bool) → MatchOption o (now ≡ true) (λ request. now ≡ before) → o ≡ None → now ≡ true
ended_next None before now m h = m
ended_next (Some request) before now m h = absurd cc

module _ (c : Config) where
  pub stays_fed : (i j k : Option Input) (s : State) (es : List Event) → StaysAs i j → Feeds c j k s es → Feeds c i k s es
  stays_fed None j k s es h f = tt
  stays_fed (Some i) j k s es h f = subst (λ o. Feeds c o k s es) h f

  pub fed_stays : (i j k : Option Input) (s : State) (es : List Event) → Feeds c i j s es → StaysAs j k → Feeds c i k s es
  fed_stays None j k s es f h = tt
  fed_stays (Some i) j k s es f h = record { left = f.left; now = subst (λ o. StaysAs o k) f.now h; requests = f.requests; off = f.off }

  pub stays_until : (i j : Option Input) (e : Ended) (s : State) (es : List Event) → StaysAs i j → FeedsUntil c j e s es → FeedsUntil c i e s es
  stays_until None j e s es h f = tt
  stays_until (Some i) j e s es h f = subst (λ o. FeedsUntil c o e s es) h f

-- both can't be
pub never : (b : Bool) → b ≡ true → b ≡ false → ⊥
never b t f = (let wrong : true ≡ false = sym t ∙ f in absurd cc)

-- since before
pub append_since : (x y : Option Input) (o p q k n m : ℕ) (a b c : Option (List ℕ)) (e : Ended) → SameBehind x y → o ≤ p → IsLater k n a b → IsAppendEnding y p q n m b c e → IsAppendEnding x o q k m a c e
append_since x y o p q k n m a b c ends.Read z l t i = rose_since o p q l i
append_since x y o p q k n m a b c (ends.BadLine line place) z l t i = off_since x y line place z i
append_since x y o p q k n m a b c ends.Write z l t i = ending_since k n m a b c ends.Write t i
append_since x y o p q k n m a b c ends.NoMemory z l t i = tt
append_since x y o p q k n m a b c (ends.BadFrame fault) z l t i = tt
append_since x y o p q k n m a b c ends.Done z l t i = ending_since k n m a b c ends.Done t i
append_since x y o p q k n m a b c ends.Rounds z l t i = ending_since k n m a b c ends.Rounds t i
append_since x y o p q k n m a b c (ends.Preempted by) z l t i = ending_since k n m a b c (ends.Preempted by) t i
append_since x y o p q k n m a b c ends.LogLimit z l t i = ending_since k n m a b c ends.LogLimit t i
append_since x y o p q k n m a b c ends.EpochLimit z l t i = ending_since k n m a b c ends.EpochLimit t i
append_since x y o p q k n m a b c ends.EpochFull z l t i = ending_since k n m a b c ends.EpochFull t i
append_since x y o p q k n m a b c (ends.Register fault) z l t i = ending_since k n m a b c (ends.Register fault) t i

pub append_cause_since : {R : Type 0} (x y : Option Input) (o p q k n m : ℕ) (a b c : Option (List ℕ)) (r : Result R Ended) → SameBehind x y → o ≤ p → IsLater k n a b → IfErr r (IsAppendEnding y p q n m b c) → IfErr r (IsAppendEnding x o q k m a c)
append_cause_since x y o p q k n m a b c (Ok v) z l t i = i
append_cause_since x y o p q k n m a b c (Err e) z l t i = append_since x y o p q k n m a b c e z l t i

pub round_cause_since : {R : Type 0} (x : Option Input) (o q k n m : ℕ) (a b c : Option (List ℕ)) (r : Result R Ended) → IsLater k n a b → IfErr r (IsEnding n m b c) → IfErr r (IsAppendEnding x o q k m a c)
round_cause_since x o q k n m a b c (Ok v) t i = i
round_cause_since x o q k n m a b c (Err e) t i = of_ending x o q k m a c e (ending_since k n m a b c e t i)

-- a round's ending is neither where it is done, nor at a line with a syntax error
pub partly : (k m : ℕ) (a c : Option (List ℕ)) (e : Ended) → IsEnding k m a c e → IsPartly e
partly k m a c ends.Done i = i.said
partly k m a c (ends.BadLine line place) i = i.said
partly k m a c ends.Rounds i = tt
partly k m a c (ends.Preempted by) i = tt
partly k m a c ends.LogLimit i = tt
partly k m a c ends.EpochLimit i = tt
partly k m a c ends.EpochFull i = tt
partly k m a c (ends.Register fault) i = tt
partly k m a c (ends.BadFrame fault) i = tt
partly k m a c ends.Read i = tt
partly k m a c ends.Write i = tt
partly k m a c ends.NoMemory i = tt

pub same_given : {R : Type 0} (i j k : Option Input) (r : Result R Ended) → SameBehind i j → OnOk r (SameBehind j k) → OnOk r (SameBehind i k)
same_given i j k (Ok v) a b = same_on i j k a b
same_given i j k (Err e) a b = tt

-- the input has no frames
pub input_unframed : (i : Option Input) (p q : ℕ) (e : Ended) → IsInputEnding i p q e → NoFrame (Some e)
input_unframed i p q (ends.BadFrame fault) h = h
input_unframed i p q e h = tt

-- the input ends the drive
pub input_stops : (who : Driver) (broken : Type 0) (c : Config) (first : ℕ) (b : IsInBounds c) (P : State → List Event → Type 0) (E : Ended → State → List Event → Type 0) (A : Config → State → Type 0) (T : Far → Type 0) (s : State) (qs : List (List Msg)) (old new : Option (List ℕ)) (e : Ended)
    → NoFrame (Some e) → ((es : List Event) → P s es → E e s es) → Went who broken P A T c first s qs old new → Stops who broken E A T c first s qs old new e
input_stops who broken c first b P E A T s qs old new e f q w = ending_as e f (went_such who broken c first b broken P (E e) A T T s qs old new (λ l. l) (λ f t. t) w (λ es o x. q es x))
  where
    ending_as : (e : Ended) → NoFrame (Some e) → Went who broken (E e) A T c first s qs old new → Stops who broken E A T c first s qs old new e
    ending_as ends.NoMemory f w = halted who broken c first b (E ends.NoMemory) A T s qs old new w
    ending_as ends.Write f w = halted who broken c first b (E ends.Write) A T s qs old new w
    ending_as ends.Read f w = w
    ending_as (ends.BadLine line place) f w = w
    ending_as (ends.BadFrame fault) f w = f
    ending_as ends.Done f w = w
    ending_as ends.Rounds f w = w
    ending_as (ends.Preempted by) f w = w
    ending_as ends.LogLimit f w = w
    ending_as ends.EpochLimit f w = w
    ending_as ends.EpochFull f w = w
    ending_as (ends.Register fault) f w = w

-- what is done without the nodes, one after the other
pub apart_on : (who : Driver) (broken : Type 0) (c : Config) (first : ℕ) (b : IsInBounds c) {R : Type 0} (P N M : State → List Event → Type 0) (E F : Ended → State → List Event → Type 0) (A B : Config → State → Type 0) (s : State) (far : Far) (qs rs : List (List Msg)) (old mid new : Option (List ℕ)) (r : Result R Ended)
    → Joins c P N M → IfErr r (λ e. Joins c P (E e) (F e)) → (w : Went who broken P A (λ now. now ≡ far) c first s qs old mid)
    → GoesOn who broken N E B (λ now. now ≡ w.far) c first w.moved.state rs mid new r → GoesOn who broken M F B (λ now. now ≡ far) c first s rs old new r
apart_on who broken c first b P N M E F A B s far qs rs old mid new r j k w v =
    goes_further who broken c first b P N M E F A B (λ now. now ≡ far) (λ now. now ≡ far) s qs rs old mid new r j k w
    (goes_as who broken c first b N E broken B (λ now. now ≡ w.far) (λ now. now ≡ far) w.moved.state rs mid new r (λ l. l) (λ f e. e ∙ w.told) v)

pub all_done : (a b d x : Bool) → x ≡ (a && (b && d)) → x ≡ true → (a ≡ true) × (b ≡ true) × (d ≡ true)
all_done true true true x h t = (refl, refl, refl)
all_done true true false x h t = absurd (never x t h)
all_done true false d x h t = absurd (never x t h)
all_done false b d x h t = absurd (never x t h)

-- the input has no frames
pub input_off : {R : Type 0} (off : Option WireFault) (i : Option Input) (p q : ℕ) (r : Result R Ended) → IfErr r (IsInputEnding i p q) → IfErr r (IsOffAs off)
input_off off i p q (Ok v) h = tt
input_off off i p q (Err e) h = by_end e h
  where
    by_end : (e : Ended) → IsInputEnding i p q e → IsOffAs off e
    by_end (ends.BadFrame fault) h = absurd h
    by_end e h = tt

pub stays_given : {R : Type 0} (i j k : Option Input) (r : Result R Ended) → SameBehind i j → OnOk r (StaysAs j k) → OnOk r (SameBehind i k)
stays_given i j k (Ok v) a b = same_on i j k a (stays_behind j k b)
stays_given i j k (Err e) a b = tt

-- behind a round the next request is waited for
pub waited_so : (who : Driver) (broken : Type 0) (c : Config) (first : ℕ) (b : IsInBounds c) {R : Type 0} (name : List ℕ) (dry : Type 0) (ys : List ℕ) (f : Bool) (here counts : CallCounts) → here ≡ counts → (i j k : Option Input) (p q : ℕ) (less : Type 0) (A : Config → State → Type 0) (T U : Far → Type 0) (s : State) (qs : List (List Msg)) (old new : Option (List ℕ)) (r : Result R Ended)
    → (less → broken) → ((far : Far) → T far → U far) → OnOk r (StaysAs j k) → IfErr r (λ e. NextIs j k (Err e)) → IfErr r (IsInputEnding j p q)
    → Went who less (Rounds name c dry first ys f here i j) A T c first s qs old new → GoesOn who broken (Rounds name c (Unit {0}) first ys f counts i k) (RoundsUntil name c first ys f counts i) A U c first s qs old new r
waited_so who broken c first b name dry ys f here counts same i j k p q less A T U s qs old new (Ok v) l t y n z w =
    went_such who broken c first b less (Rounds name c dry first ys f here i j) (Rounds name c (Unit {0}) first ys f counts i k) A T U s qs old new l t w
    (λ es o x. (subst (λ (m : CallCounts). IsAppendRound name c (Unit {0}) first ys f m s es) same (round_as c name dry (Unit {0}) first ys f here s es (λ d. tt) x.0), fed_stays c i j k s es x.1 y))
waited_so who broken c first b name dry ys f here counts same i j k p q less A T U s qs old new (Err e) l t y n z w =
    input_stops who broken c first b (Rounds name c dry first ys f here i j) (RoundsUntil name c first ys f counts i) A U s qs old new e (input_unframed j p q e z)
    (λ es x. (subst (λ (m : CallCounts). IsAppendPart name c first ys f m s es) same (round_part c name dry first ys f here s es x.0), until_end c i j e s es x.1 (input_until c j k e p q j (state_after c s es) n z)))
    (went_as who broken c first b (Rounds name c dry first ys f here i j) less A T U s qs old new l t w)

-- where it isn't done though all but the input is, a request came
none_there : (front : List Request) (request : Request) (rest : List Request) → front ++ request ∷ rest ≡ [] → ⊥
none_there [] request rest h = absurd cc
none_there (r ∷ front) request rest h = absurd cc

over_or : (a b over : Bool) → (a && (b && over)) ≡ false → over ≡ true → (a && b) ≡ true → ⊥
over_or true true true d o h = never true refl d
over_or true true false d o h = never false o refl
over_or true false over d o h = never false h refl
over_or false b over d o h = never false h refl

pub has_come : (i : Option Input) (held : Option Request) (coming : Option Input) (a b over : Bool) → SameBehind i (upcoming held coming) → (a && (b && over)) ≡ false → ((a && b) ≡ true → held ≡ None → over ≡ true) → (a && b) ≡ true → HasCome i
has_come None held coming a b over s d k h = tt
has_come (Some i) (Some request) None a b over s d k h = (let wrong : None ≡ Some s.left = s.now in absurd cc)
has_come (Some i) (Some request) (Some input) a b over s d k h = λ none.
    let is : Some (record input { requests = request ∷ input.requests }) ≡ Some s.left = s.now in
    let left : record input { requests = request ∷ input.requests } ≡ s.left = cc in
    none_there s.front request input.requests (ap (λ (x : Input). s.front ++ x.requests) left ∙ (sym s.requests ∙ none))
has_come (Some i) None coming a b over s d k h = absurd (over_or a b over d (k h refl) h)
