-- Steps of a drive, one part after the other.
use Rattle.std.proofs.Common.{◌≡◌, ◌⊎◌, ◌≤◌, ◌<◌, ◌+◌, arith, ℕ, suc, ◌==◌, Bool, true, false, List, [], ◌∷◌, ◌++◌, Option, Some, None, Ok, Err, refl, ap, sym, ◌∙◌, subst, inl, inr, append_assoc, if◌then◌else◌}
use Rattle.std.specs.List.{AllByRecursion}
use Rattle.std.proofs.lemmas.List.{append-nil}
use Rattle.ld_config.specs.declared.config.Config.{Config}
use Rattle.ld_schedule.specs.declared.event.Event.{Event}
use Rattle.ld_schedule.specs.declared.event.Event.TheVariants as events
use Rattle.ld_msg.specs.declared.msg.Msg.{Msg}
use Rattle.ld_msg.specs.Network.{message}
use Rattle.ld_machine.specs.State.{State}
use Rattle.ld_transcript.specs.declared.line.Line.{Line}
use Rattle.ld_machine.specs.Step.{happens}
use Rattle.ld_machine.specs.Run.{step, state_after}
use Rattle.ld_rounds.specs.declared.ended.Ended.{Ended}
use Rattle.ld_rounds.specs.declared.ended.Ended.TheVariants as ends
use Rattle.ld_rounds.specs.declared.request.Request.{Request}
use Rattle.ld_rounds.specs.declared.request.Request.TheVariants as asks
use Rattle.ld_rounds.specs.Input.{Input, all_taken}
use Rattle.ld_rounds.specs.Feeding.{upcoming, NoneComes, WasOver, NextIs, IsInputEnding}
use Rattle.ld_rounds.specs.News.{is_answer}
use Rattle.ld_rounds.specs.Telling.{is_of}
use Rattle.ld_rounds.specs.Turns.{IsFirst, IsTurn}
use Rattle.ld_rounds.specs.Drives.{Turned, AreLater, CallCounts, counted, HasBroken}
use Rattle.ld_rounds.proofs.Counting.{counts_here, later_since, broken_since}
use Rattle.ld_rounds.proofs.Turns.{heard_turn, of_node, turns-append, ticks_turn}
use Rattle.ld_rounds.specs.Requests.{request_event, has_to_wait, is_waiting, settled_at, IsRequestBy}
use Rattle.ld_rounds.specs.Rounds.{Splits, Chains, IsDelivered, waiting_by, waiting_in, waiting, IsTickBehind, IsReminded, IsCalm, AreCalm, Calm, Concerns, AreAbout, Visiting, IsLossBy, LosesBy, LoseBy, IsVisiting, IsVisit, AreVisits, ArePartVisits, IsPolled, IsReadRound, IsReadPart, AreReadRounds, IsRetry, MayRetry, IsAppendRound, AreAppendRounds, AreRequests, IsAsking, IsDry, tells_full, taken_by, taken_of, HasFed, Feeds, HasFedSome, FeedsUntil, Both, FindRoom, Fills, finds_full, AreFilling, IsPrepared, IsAppendPart, finds_final}

-- by so many rounds
pub turned : {Y : Type 0} {W : ℕ → Type 0} (low high n : ℕ) → low ≤ n → n < high → Y ⊎ W n → Y ⊎ Turned low high W
turned low high n l h (inl y) = inl y
turned low high n l h (inr w) = inr (record { rounds = n; least = l; below = h; goes = w })

-- where the first steps are such, and those behind them so, they are so together
abbrev pub Joins : Config → (State → List Event → Type 0) → (State → List Event → Type 0) → (State → List Event → Type 0) → Type 0
Joins c P Q R = (s : State) (es fs : List Event) → P s es → Q (state_after c s es) fs → R s (es ++ fs)

pub after-append : (c : Config) (s : State) (es fs : List Event) → state_after c s (es ++ fs) ≡ state_after c (state_after c s es) fs
unfolding state_after
after-append c s [] fs = refl
after-append c s (e ∷ es) fs = after-append c (step c s e).state es fs

pub after_none : (c : Config) (s : State) → state_after c s [] ≡ s
unfolding state_after
after_none c s = refl

-- neither done, nor at a line with a syntax error
abbrev pub IsPartly : Ended → Type 0
IsPartly ends.Done = ⊥
IsPartly (ends.BadLine line place) = ⊥
IsPartly _ = Unit {0}

-- where the input has ended none is still to come
pub none_upcoming : (origin : Option Input) (b : Bool) (coming : Option Input) → b ≡ true → WasOver origin b coming → NoneComes origin coming
none_upcoming origin true coming e w = w
none_upcoming origin false coming e w = absurd cc

-- a request that doesn't have to wait comes when it may
pub comes_so : (name : List ℕ) (request : Request) (s : State) (settled : Bool) → (settled ≡ true → settled_at name s ≡ true) → has_to_wait request settled ≡ false → IsRequestBy name s (request_event name request)
comes_so name (asks.Append payload) s settled f h = refl
comes_so name (asks.Trim point) s true f h = (refl, f refl)
comes_so name (asks.Trim point) s false f h = absurd cc

-- it is told less of the one that has to wait
waits_as : (held : Option Request) (settled : Bool) → is_waiting held settled ≡ true → is_waiting held false ≡ true
waits_as None settled h = absurd cc
waits_as (Some (asks.Append payload)) settled h = absurd cc
waits_as (Some (asks.Trim point)) settled h = refl

pub dry_as : (over : Bool) (ready : Option Bool) (held : Option Request) (settled : Bool) → IsDry over ready held settled → IsDry over ready held false
dry_as over ready held settled (inl h) = inl h
dry_as over ready held settled (inr (inl h)) = inr (inl h)
dry_as over ready held settled (inr (inr h)) = inr (inr (waits_as held settled h))

all-append : (P : Event → Type 0) (es fs : List Event) → AllByRecursion P es → AllByRecursion P fs → AllByRecursion P (es ++ fs)
all-append P [] fs a b = b
all-append P (e ∷ es) fs a b = (a.0, all-append P es fs a.1 b)

module _ (c : Config) where
  -- ---- calm steps ----

  calm_anyhow : (o : Option ℕ) (s : State) (es : List Event) → AreCalm c None s es → AreCalm c o s es
  calm_anyhow o s [] h = h
  calm_anyhow o s (events.Deliver i ∷ es) h = h
  calm_anyhow o s (events.Lose i ∷ es) h = h
  calm_anyhow o s (events.Tick n l ∷ es) h = (let wrong : None ≡ Some n = h.0 in absurd cc)
  calm_anyhow o s (e ∷ es) h = absurd h.0

  calm-append : (o : Option ℕ) (s : State) (es fs : List Event) → AreCalm c o s es → AreCalm c None (state_after c s es) fs → AreCalm c o s (es ++ fs)
  unfolding state_after
  calm-append o s [] fs a b = calm_anyhow o s fs b
  calm-append o s (e ∷ es) fs a b = (a.0, calm-append (waiting s e o) (step c s e).state es fs a.1 b)

  pub calm_joins : Joins c (Calm c) (Calm c) (Calm c)
  calm_joins s es fs a b = calm-append None s es fs a b

  about-append : (y : ℕ) (s : State) (es fs : List Event) → AreAbout y c s es → AreAbout y c (state_after c s es) fs → AreAbout y c s (es ++ fs)
  unfolding state_after
  about-append y s [] fs a b = b
  about-append y s (e ∷ es) fs a b = (a.0, about-append y (step c s e).state es fs a.1 b)

  pub visiting_joins : (first y : ℕ) → Joins c (Visiting c first y) (Visiting c first y) (Visiting c first y)
  visiting_joins first y s es fs a b = (calm_joins s es fs a.0 b.0, about-append y s es fs a.1 b.1, turns-append c first y s es fs a.2 b.2)

  -- the message of a place is lost
  pub lost_visits : (first y i : ℕ) (m : Msg) (s : State) → message s.network i ≡ Some m → Concerns y (Some m) → IsTurn first y s.network i (Some m) → Visiting c first y s (events.Lose i ∷ [])
  lost_visits first y i m s there of turn = ((tt, tt), (subst (λ (o : Option Msg). Concerns y o) (sym there) of, tt), (subst (λ (o : Option Msg). IsTurn first y s.network i o) (sym there) turn, tt))

  -- it is delivered
  pub sent_visits : (first y i : ℕ) (m : Msg) (s : State) → message s.network i ≡ Some m → Concerns y (Some m) → IsTurn first y s.network i (Some m) → Visiting c first y s (events.Deliver i ∷ [])
  sent_visits first y i m s there of turn = ((tt, tt), (subst (λ (o : Option Msg). Concerns y o) (sym there) of, tt), (subst (λ (o : Option Msg). IsTurn first y s.network i o) (sym there) turn, tt))

  -- ticks of the node that waits
  ticks_calm : (y : ℕ) (m : Msg) (s : State) (es : List Event) → IsReminded y m s es → AreCalm c (waiting_by m.from m.body) s es
  ticks_calm y m s [] h = tt
  ticks_calm y m s (events.Tick n l ∷ es) h = (h.0.1 ∙ ap (λ (k : ℕ). Some k) (sym h.0.0), ticks_calm y m (step c s (events.Tick n l)).state es h.1)
  ticks_calm y m s (e ∷ es) h = absurd h.0

  ticks_about : (y : ℕ) (m : Msg) (s : State) (es : List Event) → AllByRecursion (IsTickBehind y m) es → AreAbout y c s es
  ticks_about y m s [] h = tt
  ticks_about y m s (events.Tick n l ∷ es) h = (h.0.0, ticks_about y m (step c s (events.Tick n l)).state es h.1)
  ticks_about y m s (e ∷ es) h = absurd h.0

  delivered_calm : (first y i : ℕ) (m : Msg) (s : State) (fs : List Event) → is_of y m.from ≡ true → message s.network i ≡ Some m → IsFirst is_answer first s.network i → IsReminded y m (step c s (events.Deliver i)).state fs → Visiting c first y s (events.Deliver i ∷ fs)
  delivered_calm first y i m s fs of there foremost h =
      let t : State = (step c s (events.Deliver i)).state in (
        (tt, subst (λ (o : Option Msg). AreCalm c (waiting_in o) t fs) (sym there) (ticks_calm y m t fs h)),
        (subst (λ (o : Option Msg). Concerns y o) (sym there) (inr of), ticks_about y m t fs h),
        (subst (λ (o : Option Msg). IsTurn first y s.network i o) (sym there) (heard_turn first y s.network m (of_node y m.from of) i foremost), ticks_turn c first y m t fs h),
      )

  -- an answer of the node is delivered, and the node is ticked
  pub reminded_joins : (first y : ℕ) (m : Msg) → is_of y m.from ≡ true → Joins c (IsDelivered first m) (IsReminded y m) (Visiting c first y)
  unfolding state_after
  reminded_joins first y m of s es fs d h =
      let here : IsReminded y m (step c s (events.Deliver d.place)).state fs = h in
      subst (λ (l : List Event). Visiting c first y s (l ++ fs)) (sym d.one) (delivered_calm first y d.place m s fs of d.there d.foremost here)

  pub delivered_visits : (first y : ℕ) (m : Msg) → is_of y m.from ≡ true → (s : State) (es : List Event) → IsDelivered first m s es → Visiting c first y s es
  delivered_visits first y m of s es d = subst (λ (l : List Event). Visiting c first y s l) (sym d.one) (delivered_calm first y d.place m s [] of d.there d.foremost tt)

  -- more of them
  pub reminds_join : (y : ℕ) (m : Msg) → Joins c (IsReminded y m) (IsReminded y m) (IsReminded y m)
  reminds_join y m s es fs a b = all-append (IsTickBehind y m) es fs a b

  pub requests_join : (name : List ℕ) → Joins c (AreRequests name c) (AreRequests name c) (AreRequests name c)
  unfolding state_after
  requests_join name s [] fs a b = b
  requests_join name s (e ∷ es) fs a b = (a.0, requests_join name (step c s e).state es fs a.1 b)

  pub splits_join : (P Q : State → List Event → Type 0) → Joins c P Q (Splits P Q c)
  splits_join P Q s es fs p q = record { front = es; rest = fs; whole = refl; came = p; goes = q }

  -- the last part is longer
  pub splits_more : (P Q N M : State → List Event → Type 0) → Joins c Q N M → Joins c (Splits P Q c) N (Splits P M c)
  splits_more P Q N M j s es fs h n = record {
    front = h.front;
    rest = h.rest ++ fs;
    whole = ap (λ l. l ++ fs) h.whole ∙ append_assoc h.front h.rest fs;
    came = h.came;
    goes = j (state_after c s h.front) h.rest fs h.goes (subst (λ (x : State). N x fs) (ap (state_after c s) h.whole ∙ after-append c s h.front h.rest) n);
  }

  -- the last part is none
  pub splits_end : (P Q : State → List Event → Type 0) (s : State) (es : List Event) → P s es → Q (state_after c s es) [] → Splits P Q c s es
  splits_end P Q s es p q = record { front = es; rest = []; whole = sym (append-nil es); came = p; goes = q }

  pub splits_as : (P Q N M : State → List Event → Type 0) (s : State) (es : List Event) → ((t : State) (fs : List Event) → P t fs → N t fs) → ((t : State) (fs : List Event) → Q t fs → M t fs) → Splits P Q c s es → Splits N M c s es
  splits_as P Q N M s es f g h = record { front = h.front; rest = h.rest; whole = h.whole; came = f s h.front h.came; goes = g (state_after c s h.front) h.rest h.goes }

  -- one part of the counts after the other
  pub chains_join : (P Q : CallCounts → State → List Event → Type 0) (f g h e d k : ℕ) → AreLater f g e d → AreLater g h d k → Joins c (P (counted f g e d)) (Q (counted g h d k)) (Chains P Q c (counted f h e k))
  chains_join P Q f g h e d k l m s es fs p q = record { faults = g; endings = d; since = l; until = m; parts = record { front = es; rest = fs; whole = refl; came = p; goes = q } }

  -- ---- visits ----

  -- more was broken
  pub lose_if : (one other : Type 0) (s : State) (es : List Event) → (one → other) → LoseBy one c s es → LoseBy other c s es
  lose_if one other s [] f h = tt
  lose_if one other s (e ∷ es) f h = (event_if e h.0, lose_if one other (step c s e).state es f h.1)
    where
      loss_if : (o : Option Msg) → IsLossBy one o → IsLossBy other o
      loss_if None x = x
      loss_if (Some m) (inl x) = inl x
      loss_if (Some m) (inr x) = inr (f x)

      event_if : (x : Event) → LosesBy one s x → LosesBy other s x
      event_if (events.Lose i) x = loss_if (message s.network i) x
      event_if x y = tt

  pub visiting_since : (first y f g h e d k : ℕ) (s : State) (es : List Event) → AreLater f g e d → IsVisiting c first y (counted g h d k) s es → IsVisiting c first y (counted f h e k) s es
  visiting_since first y f g h e d k s es l v = record { steps = v.steps; few = lose_if (HasBroken (counted g h d k)) (HasBroken (counted f h e k)) s es (broken_since f g h e d k l) v.few }

  visit_since : (first y f g h e d k : ℕ) (s : State) (es : List Event) → AreLater f g e d → IsVisit c first y (counted g h d k) s es → IsVisit c first y (counted f h e k) s es
  visit_since first y f g h e d k s es l v = record { visiting = visiting_since first y f g h e d k s es l v.visiting; queues = v.queues; news = v.news; emptied = v.emptied }

  pub visits_calm : (first : ℕ) (ys : List ℕ) (counts : CallCounts) (s : State) (es : List Event) → AreVisits c first ys counts s es → Calm c s es
  visits_calm first [] counts s es h = subst (λ (l : List Event). Calm c s l) (sym h) tt
  visits_calm first (y ∷ ys) counts s es h =
      let p = h.parts in
      subst (λ (l : List Event). Calm c s l) (sym p.whole) (calm_joins s p.front p.rest p.came.visiting.steps.0 (visits_calm first ys (counted h.faults counts.faults_now h.endings counts.endings_now) (state_after c s p.front) p.rest p.goes))

  pub part_calm : (first : ℕ) (ys : List ℕ) (counts : CallCounts) (s : State) (es : List Event) → ArePartVisits c first ys counts s es → Calm c s es
  part_calm first [] counts s es h = subst (λ (l : List Event). Calm c s l) (sym h) tt
  part_calm first (y ∷ ys) counts s es (inl v) = v.steps.0
  part_calm first (y ∷ ys) counts s es (inr h) =
      let p = h.parts in
      subst (λ (l : List Event). Calm c s l) (sym p.whole) (calm_joins s p.front p.rest p.came.visiting.steps.0 (part_calm first ys (counted h.faults counts.faults_now h.endings counts.endings_now) (state_after c s p.front) p.rest p.goes))

  -- none is visited yet
  pub none_visited : (first : ℕ) (ys : List ℕ) (counts : CallCounts) (s : State) → ArePartVisits c first ys counts s []
  none_visited first [] counts s = refl
  none_visited first (y ∷ ys) counts s = inl (record { steps = (tt, tt, tt); few = tt })

  -- all are
  pub all_visited : (first : ℕ) (ys : List ℕ) (counts : CallCounts) (s : State) (es : List Event) → AreVisits c first ys counts s es → ArePartVisits c first ys counts s es
  all_visited first [] counts s es h = h
  all_visited first (y ∷ ys) counts s es h = inr (record {
    faults = h.faults;
    endings = h.endings;
    since = h.since;
    until = h.until;
    parts = splits_as (IsVisit c first y (counted counts.faults h.faults counts.endings h.endings)) (AreVisits c first ys (counted h.faults counts.faults_now h.endings counts.endings_now)) (IsVisit c first y (counted counts.faults h.faults counts.endings h.endings)) (ArePartVisits c first ys (counted h.faults counts.faults_now h.endings counts.endings_now)) s es
        (λ t fs x. x) (all_visited first ys (counted h.faults counts.faults_now h.endings counts.endings_now)) h.parts;
  })

  -- one more node is visited
  pub visits_push : (first : ℕ) (ys : List ℕ) (y f g h e d k : ℕ) → AreLater f g e d → AreLater g h d k → Joins c (AreVisits c first ys (counted f g e d)) (IsVisit c first y (counted g h d k)) (AreVisits c first (ys ++ y ∷ []) (counted f h e k))
  visits_push first [] y f g h e d k l m s es fs none v =
      let here = subst (λ (x : State). IsVisit c first y (counted g h d k) x fs) (ap (state_after c s) none ∙ after_none c s) v in
      subst (λ (z : List Event). Chains (IsVisit c first y) (AreVisits c first []) c (counted f h e k) s (z ++ fs)) (sym none) (record {
        faults = h;
        endings = k;
        since = later_since f g h e d k l m;
        until = counts_here h k;
        parts = splits_end (IsVisit c first y (counted f h e k)) (AreVisits c first [] (counted h h k k)) s fs (visit_since first y f g h e d k s fs l here) refl;
      })
  visits_push first (z ∷ zs) y f g h e d k l m s es fs p v = record {
    faults = p.faults;
    endings = p.endings;
    since = p.since;
    until = later_since p.faults g h p.endings d k p.until m;
    parts = splits_more (IsVisit c first z (counted f p.faults e p.endings)) (AreVisits c first zs (counted p.faults g p.endings d)) (IsVisit c first y (counted g h d k)) (AreVisits c first (zs ++ y ∷ []) (counted p.faults h p.endings k))
        (visits_push first zs y p.faults g h p.endings d k p.until m) s es fs p.parts v;
  }

  -- and a part of one more
  pub visits_part : (first : ℕ) (ys zs : List ℕ) (y f g h e d k : ℕ) → AreLater f g e d → AreLater g h d k → Joins c (AreVisits c first ys (counted f g e d)) (IsVisiting c first y (counted g h d k)) (ArePartVisits c first (ys ++ y ∷ zs) (counted f h e k))
  visits_part first [] zs y f g h e d k l m s es fs none v =
      let here = subst (λ (x : State). IsVisiting c first y (counted g h d k) x fs) (ap (state_after c s) none ∙ after_none c s) v in
      inl (subst (λ (x : List Event). IsVisiting c first y (counted f h e k) s (x ++ fs)) (sym none) (visiting_since first y f g h e d k s fs l here))
  visits_part first (x ∷ xs) zs y f g h e d k l m s es fs p v = inr (record {
    faults = p.faults;
    endings = p.endings;
    since = p.since;
    until = later_since p.faults g h p.endings d k p.until m;
    parts = splits_more (IsVisit c first x (counted f p.faults e p.endings)) (AreVisits c first xs (counted p.faults g p.endings d)) (IsVisiting c first y (counted g h d k)) (ArePartVisits c first (xs ++ y ∷ zs) (counted p.faults h p.endings k))
        (visits_part first xs zs y p.faults g h p.endings d k p.until m) s es fs p.parts v;
  })

  -- ---- rounds ----

  -- one more of a reader; its rounds are alike
  pub read_more : (sparing : Bool) (name : List ℕ) (first : ℕ) (ys : List ℕ) (n f g h e d k : ℕ) → AreLater f g e d → AreLater g h d k
      → Joins c (AreReadRounds sparing name c first ys n (counted f g e d)) (IsReadRound sparing name c first ys (counted g h d k)) (AreReadRounds sparing name c first ys (n + 1) (counted f h e k))
  read_more sparing name first ys n f g h e d k l m s es fs p r =
      let more : n + 1 ≡ suc n = omega arith in
      subst (λ (i : ℕ). AreReadRounds sparing name c first ys i (counted f h e k) s (es ++ fs)) (sym more) (chains_join (AreReadRounds sparing name c first ys n) (IsReadRound sparing name c first ys) f g h e d k l m s es fs p r)

  -- a part of one that is begun, or isn't
  pub part_begun : (sparing : Bool) (name : List ℕ) (first : ℕ) (ys : List ℕ) (counts : CallCounts) (s : State) (es : List Event) → (es ≡ []) ⊎ IsPolled sparing name first ys s es → IsReadPart sparing name c first ys counts s es
  part_begun sparing name first ys counts s es (inl e) = inl e
  part_begun sparing name first ys counts s es (inr p) = inr (splits_end (IsPolled sparing name first ys) (ArePartVisits c first ys counts) s es p (none_visited first ys counts (state_after c s es)))

  -- one more of a sequencer
  pub append_more : (name : List ℕ) (first : ℕ) (ys : List ℕ) (n f g h e d k : ℕ) → AreLater f g e d → AreLater g h d k
      → Joins c (AreAppendRounds name c first ys n (counted f g e d)) (IsAppendRound name c (Unit {0}) first ys (n == 0) (counted g h d k)) (AreAppendRounds name c first ys (n + 1) (counted f h e k))
  append_more name first ys n f g h e d k l m s es fs p r =
      let more : n + 1 ≡ suc n = omega arith in
      subst (λ (i : ℕ). AreAppendRounds name c first ys i (counted f h e k) s (es ++ fs)) (sym more) (chains_join (AreAppendRounds name c first ys n) (IsAppendRound name c (Unit {0}) first ys (n == 0)) f g h e d k l m s es fs p r)

  -- ---- both ----

  pub both_join : (P Q R L M N : State → List Event → Type 0) → Joins c P Q R → Joins c L M N → Joins c (Both P L) (Both Q M) (Both R N)
  both_join P Q R L M N f g s es fs a b = (f s es fs a.0 b.0, g s es fs a.1 b.1)

  -- ---- requests ----

  taken-append : (s : State) (es fs : List Event) → taken_of c s (es ++ fs) ≡ taken_of c s es ++ taken_of c (state_after c s es) fs
  unfolding state_after
  taken-append s [] fs = refl
  taken-append s (e ∷ es) fs = ap (λ l. taken_by c s e ++ l) (taken-append (step c s e).state es fs) ∙ sym (append_assoc (taken_by c s e) (taken_of c (step c s e).state es) (taken_of c (state_after c (step c s e).state es) fs))

  calm_takes : (o : Option ℕ) (s : State) (e : Event) → IsCalm o e → taken_by c s e ≡ []
  calm_takes o s (events.Append n payload) h = absurd h
  calm_takes o s (events.Deliver i) h = refl
  calm_takes o s (events.Lose i) h = refl
  calm_takes o s (events.Format n) h = refl
  calm_takes o s (events.Activate n l) h = refl
  calm_takes o s (events.Trim n p) h = absurd h
  calm_takes o s (events.Retry n) h = refl
  calm_takes o s (events.Drop n) h = refl
  calm_takes o s (events.Flow k) h = refl
  calm_takes o s (events.Open n l from until) h = refl
  calm_takes o s (events.OpenOne n l from until) h = refl
  calm_takes o s (events.OpenMessages n l from until) h = refl
  calm_takes o s (events.Batch n ms) h = refl
  calm_takes o s (events.Replace n m l) h = refl
  calm_takes o s (events.Poll n) h = refl
  calm_takes o s (events.Tick n l) h = refl
  calm_takes o s (events.Down n) h = refl
  calm_takes o s (events.Up n) h = refl
  calm_takes o s (events.Wipe n) h = refl
  calm_takes o s (events.Fail n k) h = refl
  calm_takes o s (events.Tear n k picture) h = refl
  calm_takes o s events.Calm h = refl
  calm_takes o s (events.RegFail k done) h = refl
  calm_takes o s (events.Set l r x set) h = refl

  none_taken : (o : Option ℕ) (s : State) (es : List Event) → AreCalm c o s es → taken_of c s es ≡ []
  none_taken o s [] h = refl
  none_taken o s (e ∷ es) h = ap (λ l. l ++ taken_of c (step c s e).state es) (calm_takes o s e h.0) ∙ none_taken (waiting s e o) (step c s e).state es h.1

  pub feeds_here : (i : Option Input) (s : State) → Feeds c i i s []
  feeds_here None s = tt
  feeds_here (Some i) s = record { left = i; now = refl; requests = refl; off = refl }

  taken_parts : (s : State) (es fs : List Event) (all left rest : List Request) → all ≡ taken_of c s es ++ left → left ≡ taken_of c (state_after c s es) fs ++ rest → all ≡ taken_of c s (es ++ fs) ++ rest
  taken_parts s es fs all left rest a b =
      a ∙ (ap (λ l. taken_of c s es ++ l) b ∙ (sym (append_assoc (taken_of c s es) (taken_of c (state_after c s es) fs) rest) ∙ ap (λ l. l ++ rest) (sym (taken-append s es fs))))

  pub feeds_join : (i j k : Option Input) → Joins c (Feeds c i j) (Feeds c j k) (Feeds c i k)
  feeds_join None j k s es fs a b = tt
  feeds_join (Some i) j k s es fs a b =
      let h : HasFed c a.left k (state_after c s es) fs = subst (λ o. Feeds c o k (state_after c s es) fs) a.now b in
      record { left = h.left; now = h.now; requests = taken_parts s es fs i.requests a.left.requests h.left.requests a.requests h.requests; off = h.off ∙ a.off }

  fed_all_join : (i left : Input) (s : State) (es fs : List Event) → i.requests ≡ taken_of c s es ++ left.requests → left.requests ≡ taken_of c (state_after c s es) fs → i.requests ≡ taken_of c s (es ++ fs)
  fed_all_join i left s es fs a b = a ∙ (ap (λ l. taken_of c s es ++ l) b ∙ sym (taken-append s es fs))

  fed_some_join : (i left : Input) (s : State) (es fs : List Event) → i.requests ≡ taken_of c s es ++ left.requests → HasFedSome c left (state_after c s es) fs → HasFedSome c i s (es ++ fs)
  fed_some_join i left s es fs a h = record { left = h.left; requests = taken_parts s es fs i.requests left.requests h.left a h.requests }

  until_by : (i left : Input) (e : Ended) (s : State) (es fs : List Event) → i.requests ≡ taken_of c s es ++ left.requests → left.off ≡ i.off → FeedsUntil c (Some left) e (state_after c s es) fs → FeedsUntil c (Some i) e s (es ++ fs)
  until_by i left ends.Done s es fs a o h = (fed_all_join i left s es fs a h.0, sym o ∙ h.1)
  until_by i left (ends.BadLine line place) s es fs a o h = (fed_all_join i left s es fs a h.0, record { rest = h.1.rest; batches = h.1.batches; off = sym o ∙ h.1.off; at = h.1.at })
  until_by i left ends.Rounds s es fs a o h = fed_some_join i left s es fs a h
  until_by i left (ends.Preempted by) s es fs a o h = fed_some_join i left s es fs a h
  until_by i left ends.LogLimit s es fs a o h = fed_some_join i left s es fs a h
  until_by i left ends.EpochLimit s es fs a o h = fed_some_join i left s es fs a h
  until_by i left ends.EpochFull s es fs a o h = fed_some_join i left s es fs a h
  until_by i left (ends.Register fault) s es fs a o h = fed_some_join i left s es fs a h
  until_by i left (ends.BadFrame fault) s es fs a o h = fed_some_join i left s es fs a h
  until_by i left ends.Read s es fs a o h = fed_some_join i left s es fs a h
  until_by i left ends.Write s es fs a o h = fed_some_join i left s es fs a h
  until_by i left ends.NoMemory s es fs a o h = fed_some_join i left s es fs a h

  pub until_join : (i j : Option Input) (e : Ended) → Joins c (Feeds c i j) (FeedsUntil c j e) (FeedsUntil c i e)
  until_join None j e s es fs a b = tt
  until_join (Some i) j e s es fs a b = until_by i a.left e s es fs a.requests a.off (subst (λ o. FeedsUntil c o e (state_after c s es) fs) a.now b)

  pub feeds_calm : (i j : Option Input) → Joins c (Feeds c i j) (Calm c) (Feeds c i j)
  feeds_calm None j s es fs a q = tt
  feeds_calm (Some i) j s es fs a q = record {
    left = a.left;
    now = a.now;
    requests = a.requests ∙ ap (λ l. l ++ a.left.requests) (sym (taken-append s es fs ∙ (ap (λ l. taken_of c s es ++ l) (none_taken None (state_after c s es) fs q) ∙ append-nil (taken_of c s es))));
    off = a.off;
  }

  -- some were taken
  fed_some : (i : Input) (e : Ended) (s : State) (es : List Event) → IsPartly e → HasFedSome c i s es → FeedsUntil c (Some i) e s es
  fed_some i ends.Done s es p h = absurd p
  fed_some i (ends.BadLine line place) s es p h = absurd p
  fed_some i ends.Rounds s es p h = h
  fed_some i (ends.Preempted by) s es p h = h
  fed_some i ends.LogLimit s es p h = h
  fed_some i ends.EpochLimit s es p h = h
  fed_some i ends.EpochFull s es p h = h
  fed_some i (ends.Register fault) s es p h = h
  fed_some i (ends.BadFrame fault) s es p h = h
  fed_some i ends.Read s es p h = h
  fed_some i ends.Write s es p h = h
  fed_some i ends.NoMemory s es p h = h

  pub feeds_until : (i j : Option Input) (e : Ended) (s : State) (es : List Event) → IsPartly e → Feeds c i j s es → FeedsUntil c i e s es
  feeds_until None j e s es p h = tt
  feeds_until (Some i) j e s es p h = fed_some i e s es p (record { left = h.left.requests; requests = h.requests })

  -- where none is still to come all were taken
  pub feeds_done : (i j : Option Input) (s : State) (es : List Event) → NoneComes i j → Feeds c i j s es → FeedsUntil c i ends.Done s es
  feeds_done None j s es n h = tt
  feeds_done (Some i) j s es n h =
      let last : Some h.left ≡ Some all_taken = sym h.now ∙ n in
      let left : h.left ≡ all_taken = cc in
      (h.requests ∙ (ap (λ (x : Input). taken_of c s es ++ x.requests) left ∙ append-nil (taken_of c s es)), sym h.off ∙ ap (λ (x : Input). x.off) left)

  -- no request was made, since the input ends the drive
  pub input_until : (i new : Option Input) (e : Ended) (before now : ℕ) (at : Option Input) (s : State) → NextIs i new (Err e) → IsInputEnding at before now e → FeedsUntil c i e s []
  input_until None new e k n at s x y = tt
  input_until (Some i) new (ends.BadLine line place) k n at s x y = (x.none, x.off)
  input_until (Some i) new ends.Read k n at s x y = record { left = i.requests; requests = refl }
  input_until (Some i) new ends.NoMemory k n at s x y = record { left = i.requests; requests = refl }
  input_until (Some i) new ends.Done k n at s x y = absurd y
  input_until (Some i) new ends.Rounds k n at s x y = absurd y
  input_until (Some i) new (ends.Preempted by) k n at s x y = absurd y
  input_until (Some i) new ends.LogLimit k n at s x y = absurd y
  input_until (Some i) new ends.EpochLimit k n at s x y = absurd y
  input_until (Some i) new ends.EpochFull k n at s x y = absurd y
  input_until (Some i) new (ends.Register fault) k n at s x y = absurd y
  input_until (Some i) new (ends.BadFrame fault) k n at s x y = absurd y
  input_until (Some i) new ends.Write k n at s x y = absurd y

  -- none came
  pub none_fed : (i j : Option Input) (s : State) → NextIs i j (Ok None) → Feeds c i j s []
  none_fed None j s x = tt
  none_fed (Some i) j s x = record { left = i; now = x.1 ∙ ap (λ (y : Input). Some y) (sym x.0); requests = refl; off = refl }

  -- one came, and was taken
  pub one_fed : (i j : Option Input) (request : Request) (s : State) (es : List Event) → NextIs i j (Ok (Some request)) → taken_of c s es ≡ request ∷ [] → Feeds c i j s es
  one_fed None j request s es x t = tt
  one_fed (Some i) j request s es x t = record { left = record { requests = x.rest; off = i.off }; now = x.left; requests = x.first ∙ ap (λ l. l ++ x.rest) (sym t); off = refl }

  -- one came, and is held
  pub held_fed : (i j : Option Input) (request : Request) (s : State) (es : List Event) → NextIs i j (Ok (Some request)) → taken_of c s es ≡ [] → Feeds c i (upcoming (Some request) j) s es
  held_fed None j request s es x t = tt
  held_fed (Some i) j request s es x t = record {
    left = record { requests = request ∷ x.rest; off = i.off };
    now = ap (upcoming (Some request)) x.left;
    requests = x.first ∙ ap (λ l. l ++ request ∷ x.rest) (sym t);
    off = refl;
  }

  -- one came, and the drive ends by it
  begun_until : (i : Input) (request : Request) (rest : List Request) (e : Ended) (s : State) (es : List Event) → i.requests ≡ request ∷ rest → IsPartly e → (taken_of c s es ≡ []) ⊎ (taken_of c s es ≡ request ∷ []) → FeedsUntil c (Some i) e s es
  begun_until i request rest e s es f p (inl t) = fed_some i e s es p (record { left = request ∷ rest; requests = f ∙ ap (λ l. l ++ request ∷ rest) (sym t) })
  begun_until i request rest e s es f p (inr t) = fed_some i e s es p (record { left = rest; requests = f ∙ ap (λ l. l ++ rest) (sym t) })

  taken_or : (b : Bool) (request : Request) → ((if b then [] else request ∷ []) ≡ []) ⊎ ((if b then [] else request ∷ []) ≡ request ∷ [])
  taken_or true request = inl refl
  taken_or false request = inr refl

  request_takes : (name : List ℕ) (request : Request) (s : State) → taken_by c s (request_event name request) ≡ (if finds_full c s (request_event name request) then [] else request ∷ [])
  request_takes name (asks.Append payload) s = refl
  request_takes name (asks.Trim point) s = refl

  one_takes : (name : List ℕ) (request : Request) (s : State) (es : List Event) → es ≡ request_event name request ∷ [] → taken_of c s es ≡ (if finds_full c s (request_event name request) then [] else request ∷ [])
  one_takes name request s es h = ap (taken_of c s) h ∙ (append-nil (taken_by c s (request_event name request)) ∙ request_takes name request s)

  begun_takes : (name : List ℕ) (request : Request) (s : State) (es : List Event) → IsAsking name request s es → (taken_of c s es ≡ []) ⊎ (taken_of c s es ≡ request ∷ [])
  begun_takes name request s es (may, inl h) = inl (ap (taken_of c s) h)
  begun_takes name request s es (may, inr h) =
      let t = one_takes name request s es h in
      elim (taken_or (finds_full c s (request_event name request)) request) [ inl x ↦ inl (t ∙ x) | inr x ↦ inr (t ∙ x) ]

  pub one_until : (i j : Option Input) (name : List ℕ) (request : Request) (e : Ended) (s : State) (es : List Event) → NextIs i j (Ok (Some request)) → IsPartly e → IsAsking name request s es → FeedsUntil c i e s es
  one_until None j name request e s es x p h = tt
  one_until (Some i) j name request e s es x p h = begun_until i request x.rest e s es x.first p (begun_takes name request s es h)

  pub feeds_end : (i j k : Option Input) (s : State) (es : List Event) → Feeds c i j s es → Feeds c j k (state_after c s es) [] → Feeds c i k s es
  feeds_end i j k s es a b = subst (λ (l : List Event). Feeds c i k s l) (append-nil es) (feeds_join i j k s es [] a b)

  pub until_end : (i j : Option Input) (e : Ended) (s : State) (es : List Event) → Feeds c i j s es → FeedsUntil c j e (state_after c s es) [] → FeedsUntil c i e s es
  until_end i j e s es a b = subst (λ (l : List Event). FeedsUntil c i e s l) (append-nil es) (until_join i j e s es [] a b)

  -- a retry takes none
  retry_takes : (name : List ℕ) (b : Bool) (s : State) (es : List Event) → MayRetry name b s es → taken_of c s es ≡ []
  retry_takes name true s es h = ap (taken_of c s) h
  retry_takes name false s es (inl h) = ap (taken_of c s) h
  retry_takes name false s es (inr h) = ap (taken_of c s) h

  -- what takes none
  pub feeds_none : (i : Option Input) (s : State) (es : List Event) → taken_of c s es ≡ [] → Feeds c i i s es
  feeds_none None s es t = tt
  feeds_none (Some i) s es t = record { left = i; now = refl; requests = ap (λ l. l ++ i.requests) (sym t); off = refl }

  pub retry_feeds : (i : Option Input) (name : List ℕ) (b : Bool) (s : State) (es : List Event) → MayRetry name b s es → Feeds c i i s es
  retry_feeds i name b s es h = feeds_none i s es (retry_takes name b s es h)

  pub may_retry : (name : List ℕ) (b : Bool) (s : State) (es : List Event) → IsRetry name b s es → MayRetry name b s es
  may_retry name true s es h = h
  may_retry name false s es h = inr h

  -- what a request takes, by the lines of its step
  pub takes_by : (name : List ℕ) (request : Request) (s : State) (es : List Event) (b : Bool) (ls : List Line) → es ≡ request_event name request ∷ [] → b ≡ tells_full ls → ls ≡ (happens c s (request_event name request)).lines → taken_of c s es ≡ (if b then [] else request ∷ [])
  takes_by name request s es b ls h t l = one_takes name request s es h ∙ ap (λ (x : Bool). if x then [] else request ∷ []) (sym (t ∙ ap tells_full l))

  pub begun_requests : (name : List ℕ) (request : Request) (s : State) (es : List Event) → IsAsking name request s es → AreRequests name c s es
  begun_requests name request s es (may, inl h) = subst (λ (l : List Event). AreRequests name c s l) (sym h) tt
  begun_requests name request s es (may, inr h) = subst (λ (l : List Event). AreRequests name c s l) (sym h) (may, tt)

  -- ---- room in the window ----

  room_on : Joins c (FindRoom c) (FindRoom c) (FindRoom c)
  unfolding state_after
  room_on s [] fs a b = b
  room_on s (e ∷ es) fs a b = (a.0, a.1, room_on (step c s e).state es fs a.2 b)

  -- one more finds room
  pub room_more : (e : Event) (s : State) (es fs : List Event) → FindRoom c s es → fs ≡ e ∷ [] → finds_full c (state_after c s es) e ≡ false → finds_final c (state_after c s es) e ≡ false → FindRoom c s (es ++ fs)
  room_more e s es fs a h f n = room_on s es fs a (subst (λ (l : List Event). FindRoom c (state_after c s es) l) (sym h) (f, n, tt))

  -- one more doesn't
  pub full_last : (dry : Type 0) (e : Event) (s : State) (es fs : List Event) → FindRoom c s es → fs ≡ e ∷ [] → finds_full c (state_after c s es) e ≡ true → Fills c dry s (es ++ fs)
  full_last dry e s es fs a h f = inr (record { front = es; rest = fs; whole = refl; came = a; goes = record { event = e; one = h; full = f } })

  -- less is said of what was to be had
  fills_as : (P Q : Type 0) (s : State) (es : List Event) → (P → Q) → Fills c P s es → Fills c Q s es
  fills_as P Q s es f (inl h) = inl (h.0, f h.1)
  fills_as P Q s es f (inr h) = inr h

  pub prepared_as : (name : List ℕ) (P Q : Type 0) (b : Bool) (s : State) (es : List Event) → (P → Q) → IsPrepared name c P b s es → IsPrepared name c Q b s es
  prepared_as name P Q b s es f h = splits_as (IsRetry name b) (AreFilling name c P) (IsRetry name b) (AreFilling name c Q) s es (λ u l y. y) (λ u l y. (y.0, fills_as P Q u l f y.1)) h

  pub round_as : (name : List ℕ) (P Q : Type 0) (first : ℕ) (ys : List ℕ) (b : Bool) (counts : CallCounts) (s : State) (es : List Event) → (P → Q) → IsAppendRound name c P first ys b counts s es → IsAppendRound name c Q first ys b counts s es
  round_as name P Q first ys b counts s es f h =
      splits_as (IsPrepared name c P b) (AreVisits c first ys counts) (IsPrepared name c Q b) (AreVisits c first ys counts) s es (λ t fs x. prepared_as name P Q b t fs f x) (λ t fs x. x) h

  -- a round is a part of one
  pub round_part : (name : List ℕ) (P : Type 0) (first : ℕ) (ys : List ℕ) (b : Bool) (counts : CallCounts) (s : State) (es : List Event) → IsAppendRound name c P first ys b counts s es → IsAppendPart name c first ys b counts s es
  round_part name P first ys b counts s es h =
      splits_as (IsPrepared name c P b) (AreVisits c first ys counts) (Splits (MayRetry name b) (AreRequests name c) c) (ArePartVisits c first ys counts) s es
      (λ t fs x. splits_as (IsRetry name b) (AreFilling name c P) (MayRetry name b) (AreRequests name c) t fs (may_retry name b) (λ u l y. y.0) x) (all_visited first ys counts) h
