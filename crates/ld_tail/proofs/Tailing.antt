-- A reader is driven.
use Rattle.std.proofs.Common.{◌≡◌, ◌⊎◌, ◌<◌, ℕ, Bool, true, false, List, [], Option, Some, None, Ok, Err, refl, ap, sym, ◌∙◌, subst, inl, inr}
use Rattle.std.specs.Prelude.{MatchResult, IfOk, IfErr}
use Rattle.std.specs.declared.result.Result.{Result}
use Rattle.ld_table.specs.Named.{find_named}
use Rattle.ld_config.specs.declared.config.Config.{Config}
use Rattle.ld_config.specs.Bounds.{IsInBounds}
use Rattle.ld_ids.specs.Set.{members}
use Rattle.ld_schedule.specs.declared.event.Event.{Event}
use Rattle.ld_transcript.specs.declared.line.Line.{Line}
use Rattle.ld_msg.specs.declared.msg.Msg.{Msg}
use Rattle.ld_msg.specs.declared.style.Style.{Style}
use Rattle.ld_msg.specs.declared.style.Style.TheVariants as styles
use Rattle.ld_msg.specs.Network.{Network}
use Rattle.ld_msg.specs.Bounds.{Is64}
use Rattle.ld_msg.specs.Reader.{is_single, is_finished}
use Rattle.ld_msg.specs.Register.{Register}
use Rattle.ld_reader.specs.Following.{Following}
use Rattle.ld_machine.specs.Disk.{Node}
use Rattle.ld_machine.specs.State.{State, finish}
use Rattle.ld_machine.specs.Step.{happens}
use Rattle.ld_machine.specs.Run.{step, state_after}
use Rattle.ld_bounds.specs.Sound.{IsEvent}
use Rattle.ld_dial.specs.Far.{Far}
use Rattle.ld_clients.specs.Finished.{finished_in}
use Rattle.ld_clients.specs.Followers.{readers_of}
use Rattle.ld_clients.specs.Reads as readings
use Rattle.ld_clients.proofs.Names.{find_each_some, find_each_none}
use Rattle.ld_rounds.specs.declared.ended.Ended.{Ended}
use Rattle.ld_rounds.specs.declared.ended.Ended.TheVariants as ends
use Rattle.ld_rounds.specs.declared.actor.Heard.{Heard}
use Rattle.ld_rounds.specs.Queued.{no_queues}
use Rattle.ld_rounds.specs.News.{AreNews}
use Rattle.ld_rounds.specs.Acts.{IsActed}
use Rattle.ld_rounds.specs.Telling.{HasTold, IsTelling}
use Rattle.ld_rounds.specs.Drives.{Driver, IsDriven, AllTaken, Holds, Went, Stopped, Stops, GoesOn, CallCounts, HasBroken}
use Rattle.ld_rounds.specs.Rounds.{IsOne, IsBegun, AreReadRounds, ReadsUntil}
use Rattle.ld_rounds.specs.Taking.{TookReads}
use Rattle.ld_rounds.specs.Reaching.{Begins, Reached}
use Rattle.ld_wire.specs.declared.fault.WireFault.{WireFault}
use Rattle.ld_rounds.specs.Endings.{IsEnding, IsOffAs, EndsOff, EndedOff}
use Rattle.ld_tail.specs.Looking.{IsLookEnd}
use Rattle.ld_tail.specs.Readers.{Follows}
use Rattle.ld_tail.specs.Tails.{HasNone, Wanted, opening, tailing, IsFinished, AreSteps, EndAt, IsTailed, IsTailEnd, DroveTail, end_of}
use Rattle.ld_tail.proofs.Clients.{none_are}
use Rattle.ld_rounds.proofs.News.{no_news}
use Rattle.ld_rounds.proofs.Driving.{acted_on}
use Rattle.ld_rounds.proofs.Joining.{splits_join}
use Rattle.ld_rounds.proofs.Feeding.{never}
use Rattle.ld_rounds.proofs.Going.{NoFrame, halted, cut_by, goes_told, goes_as, goes_such, went_on, went_stops}

pub follows_apart : (fs : List (List ℕ × Following)) (U : Register → Type 0) (c : Config) (s : State) (nodes : List (ℕ × Node)) (network : Network) → Follows fs U c s → Follows fs U c (record s { nodes = nodes; network = network })
follows_apart fs U c s nodes network h = record { readers = record { readers = h.readers.readers; logs = h.readers.logs }; register = h.register }

-- ---- the opening of a reader of any style ----

opening_driven : (who : Driver) (broken : Type 0) (s : State) (style : Style) (log from until : ℕ) → IsDriven who broken s (readings.opening style who.name log from until)
opening_driven who broken s styles.EachCopy log from until = refl
opening_driven who broken s styles.OneCopy log from until = refl
opening_driven who broken s styles.OfMessages log from until = refl

opening_event : (style : Style) (name : List ℕ) (log from until : ℕ) → Is64 until → IsEvent (readings.opening style name log from until)
opening_event styles.EachCopy name log from until h = h
opening_event styles.OneCopy name log from until h = h
opening_event styles.OfMessages name log from until h = h

opening_is : (c : Config) (s : State) (style : Style) (name : List ℕ) (log from until : ℕ) → step c s (readings.opening style name log from until) ≡ finish (happens c s (readings.opening style name log from until))
unfolding step
opening_is c s styles.EachCopy name log from until = refl
opening_is c s styles.OneCopy name log from until = refl
opening_is c s styles.OfMessages name log from until = refl

module _ (who : Driver) (broken : Type 0) (c : Config) (b : IsInBounds c) (U : Register → Type 0) where
  pub begun : (s : State) (far : Far) → Begins (HasNone U) c s far → Holds (Follows [] U) c s.network.count s far no_queues
  begun s far h = record {
    sound = h.sound;
    actor = record { readers = none_are c s h.such.readers; register = h.such.register };
    nodes = h.nodes;
    count = refl;
    news = subst (λ answers. AreNews s.network.count s.network no_queues answers) (sym h.answers) (no_news s.network h.sent);
  }

  module _ (first : ℕ) (fs gs : List (List ℕ × Following)) (V : Register → Type 0) (s : State) (far : Far) (qs now : List (List Msg)) (old new : Option (List ℕ)) (heard : Heard) (h : Holds (Follows fs U) c first s far qs)
      (r : Result (Unit {0}) Ended) (t : MatchResult r (λ u. HasTold heard qs now old new) (IsTelling heard qs now old new)) (n : NoFrame heard.end) (T : Far → Type 0) (told : T far) where
    pub opened_on : (style : Style) (log from until : ℕ) → Is64 until → IsActed (Follows gs V c) s heard.lines.items heard.sends (happens c s (readings.opening style who.name log from until))
        → GoesOn who broken (IsOne (readings.opening style who.name log from until)) (λ e. IsBegun (readings.opening style who.name log from until)) (Follows gs V) T c first s now old new r
    opened_on style log from until is a =
        let one : State → List Event → Type 0 = IsOne (readings.opening style who.name log from until) in
        let begun : Ended → State → List Event → Type 0 = λ e. IsBegun (readings.opening style who.name log from until) in
        let m = acted_on who broken c first b (Follows fs U) (follows_apart fs U) one (Follows gs V) (follows_apart gs V) s far qs (readings.opening style who.name log from until) heard.lines.items heard.sends (opening_driven who broken s style log from until) refl (opening_event style who.name log from until is) (opening_is c s style who.name log from until) h a in
        goes_as who broken c first b one begun broken (Follows gs V) (λ f. f ≡ far) T s now old new r (λ l. l) (λ f e. subst T (sym e) told) (goes_told who broken c first b one begun (Follows gs V) s far qs now old new heard m (λ e es x. inr x) r n t)

-- where the drive goes on
pub unframed_end : (o : Option Ended) → o ≡ None → NoFrame o
unframed_end o e = subst NoFrame (sym e) tt

-- the same under other words for the name and the log
pub renamed : (A : State → Type 0) (c : Config) (s : State) (ls : List Line) (ms : List Msg) (style : Style) (n m : List ℕ) (k l from until : ℕ) → n ≡ m → k ≡ l → IsActed A s ls ms (happens c s (readings.opening style n k from until)) → IsActed A s ls ms (happens c s (readings.opening style m l from until))
renamed A c s ls ms style n m k l from until e f a = subst (λ (x : List ℕ). IsActed A s ls ms (happens c s (readings.opening style x l from until))) e (subst (λ (x : ℕ). IsActed A s ls ms (happens c s (readings.opening style n x from until))) f a)

-- a register that is told of in other words
pub begins_with : (T U : Register → Type 0) (c : Config) (s : State) (far : Far) → (T s.register → U s.register) → Begins (HasNone T) c s far → Begins (HasNone U) c s far
begins_with T U c s far f h = record { sound = h.sound; such = record { readers = h.such.readers; register = f h.such.register }; nodes = h.nodes; answers = h.answers; sent = h.sent }

-- ---- the end ----

finished_reader : (name : List ℕ) (fs : List (List ℕ × Following)) (o : Option Following) → find_named name fs ≡ o → finished_in o ≡ true → (s : State) → s.readers ≡ readers_of fs → IsFinished name s
finished_reader name fs None h f s e = absurd cc
finished_reader name fs (Some x) h f s e = record { reader = x.reader; there = ap (find_named name) e ∙ find_each_some (λ y. y.reader) name x fs h; finished = f }

unfinished_reader : (name : List ℕ) (fs : List (List ℕ × Following)) (o : Option Following) → find_named name fs ≡ o → finished_in o ≡ false → (s : State) → s.readers ≡ readers_of fs → IsFinished name s → ⊥
unfinished_reader name fs None h f s e i =
    let wrong : None ≡ Some i.reader = sym (ap (find_named name) e ∙ find_each_none (λ y. y.reader) name fs h) ∙ i.there in
    absurd cc
unfinished_reader name fs (Some x) h f s e i =
    let same : Some x.reader ≡ Some i.reader = sym (ap (find_named name) e ∙ find_each_some (λ y. y.reader) name x fs h) ∙ i.there in
    let is : x.reader ≡ i.reader = cc in
    never (is_finished x.reader) (ap is_finished is ∙ i.finished) f

module _ (w : Wanted) (counts : CallCounts) (most : ℕ) (tells : Config → Far → Type 0) (c : Config) (b : IsInBounds c) (s : State) (fs : List (List ℕ × Following)) (U : Register → Type 0) (qs : List (List Msg)) (old new : Option (List ℕ)) where
  abbrev at : State → List Event → Type 0
  at = EndAt w c s.network.count most counts

  reached : (P : State → List Event → Type 0) (Q : State → Type 0) → (v : Went (tailing w) (HasBroken counts) P (Follows fs U) (AllTaken (tells c)) c s.network.count s qs old new) → Q v.moved.state → Reached (tailing w) (HasBroken counts) P (tells c) c s old new Q
  reached P Q v q = record { state = v.moved.state; far = v.far; lines = v.lines; told = v.told.0; nodes = v.moved.holds.nodes; goes = v.moved.goes; written = v.written; such = q }

  cut : Went (tailing w) (HasBroken counts) at (Follows fs U) (AllTaken (tells c)) c s.network.count s qs old new → Stopped (tailing w) (HasBroken counts) at c s old new
  cut v = halted (tailing w) (HasBroken counts) c s.network.count b at (Follows fs U) (AllTaken (tells c)) s qs old new v

  -- it has ended before all rounds were taken
  stopped_by : (e : Ended) → Stops (tailing w) (HasBroken counts) (λ f. at) (Follows fs U) (AllTaken (tells c)) c s.network.count s qs old new e → DroveTail w counts most tells U c s old new (Err e)
  stopped_by (ends.BadFrame fault) g = g
  stopped_by ends.NoMemory g = g
  stopped_by ends.Write g = g
  stopped_by ends.Done g = cut g
  stopped_by ends.Rounds g = cut g
  stopped_by (ends.Preempted by) g = cut g
  stopped_by ends.LogLimit g = cut g
  stopped_by ends.EpochLimit g = cut g
  stopped_by ends.EpochFull g = cut g
  stopped_by (ends.Register fault) g = cut g
  stopped_by (ends.BadLine line place) g = cut g
  stopped_by ends.Read g = cut g

  -- at the opening
  pub stopped_tail : (e : Ended) → Stops (tailing w) (HasBroken counts) (λ f. IsBegun (opening w)) (Follows fs U) (AllTaken (tells c)) c s.network.count s qs old new e → DroveTail w counts most tells U c s old new (Err e)
  stopped_tail e g = stopped_by e
      (goes_such (tailing w) (HasBroken counts) c s.network.count b {R = Unit {0}} (IsBegun (opening w)) (IsBegun (opening w)) (λ f. IsBegun (opening w)) (λ f. at) (HasBroken counts) (Follows fs U) (AllTaken (tells c)) (AllTaken (tells c)) s qs old new (Err e) (λ x. x) (λ f t. t) (λ es x. x) (λ es x. inl x) g)

  module _ (A : Config → State → Type 0) (T : Far → Type 0) (rs : List (List Msg)) (mid : Option (List ℕ)) (v : Went (tailing w) (HasBroken counts) (IsOne (opening w)) A T c s.network.count s rs old mid) where
    since : (n : ℕ) → Went (tailing w) (HasBroken counts) (AreReadRounds (is_single w.style) w.name c s.network.count (members c.nodes) n counts) (Follows fs U) (AllTaken (tells c)) c s.network.count v.moved.state qs mid new → Went (tailing w) (HasBroken counts) (AreSteps w c s.network.count n counts) (Follows fs U) (AllTaken (tells c)) c s.network.count s qs old new
    since n g = went_on (tailing w) (HasBroken counts) c s.network.count b (IsOne (opening w)) (AreReadRounds (is_single w.style) w.name c s.network.count (members c.nodes) n counts) (AreSteps w c s.network.count n counts) A (Follows fs U) T (AllTaken (tells c)) s rs qs old mid new
        (splits_join c (IsOne (opening w)) (AreReadRounds (is_single w.style) w.name c s.network.count (members c.nodes) n counts)) v g

    stops_since : (e : Ended) (n : ℕ) → n < most → Stops (tailing w) (HasBroken counts) (λ f. ReadsUntil (is_single w.style) w.name c s.network.count (members c.nodes) n counts) (Follows fs U) (AllTaken (tells c)) c s.network.count v.moved.state qs mid new e → Stops (tailing w) (HasBroken counts) (λ f. at) (Follows fs U) (AllTaken (tells c)) c s.network.count s qs old new e
    stops_since e n f g =
        let P = IsOne (opening w) in
        let Q = ReadsUntil (is_single w.style) w.name c s.network.count (members c.nodes) n counts in
        let j = λ (t : State) (es fs : List Event) (x : P t es) (y : Q (state_after c t es) fs). inr (record { rounds = n; below = f; goes = splits_join c P Q t es fs x y }) in
        cut_by e (went_stops (tailing w) (HasBroken counts) c s.network.count b P Q at A T s rs old mid new j v) (went_on (tailing w) (HasBroken counts) c s.network.count b P Q at A (Follows fs U) T (AllTaken (tells c)) s rs qs old mid new j v) g

    -- the reader is opened, and driven
    drove : (r : Result Bool Ended) → IfOk r (λ done. done ≡ true → finished_in (find_named w.name fs) ≡ true) → IfOk r (λ done. 0 < most → done ≡ false → finished_in (find_named w.name fs) ≡ false)
        → TookReads (is_single w.style) (tailing w) counts (members c.nodes) most (Follows fs U) (AllTaken (tells c)) c s.network.count v.moved.state qs mid new r → DroveTail w counts most tells U c s old new r
    drove (Ok false) f n g =
        let u = since most g in
        reached (AreSteps w c s.network.count most counts) (λ t. U t.register × (0 < most → IsFinished w.name t → ⊥)) u
        (u.moved.holds.actor.register, λ some. unfinished_reader w.name fs (find_named w.name fs) refl (n some refl) u.moved.state u.moved.holds.actor.readers.readers)
    drove (Ok true) f n g =
        let u = since g.rounds g.goes in
        record {
          rounds = g.rounds;
          least = g.least;
          below = g.below;
          goes = reached (AreSteps w c s.network.count g.rounds counts) (λ t. U t.register × IsFinished w.name t) u
              (u.moved.holds.actor.register, finished_reader w.name fs (find_named w.name fs) refl (f refl) u.moved.state u.moved.holds.actor.readers.readers);
        }
    drove (Err e) f n g = stopped_by e (stops_since e g.rounds g.below g.goes)

    -- where it isn't silent
    pub drove_loud : (Y : Type 0) (r : Result Bool Ended) → IfOk r (λ done. done ≡ true → finished_in (find_named w.name fs) ≡ true) → IfOk r (λ done. 0 < most → done ≡ false → finished_in (find_named w.name fs) ≡ false)
        → Y ⊎ TookReads (is_single w.style) (tailing w) counts (members c.nodes) most (Follows fs U) (AllTaken (tells c)) c s.network.count v.moved.state qs mid new r → Y ⊎ DroveTail w counts most tells U c s old new r
    drove_loud Y r f n (inl y) = inl y
    drove_loud Y r f n (inr g) = inr (drove r f n g)

-- ---- how it ends ----

module _ (damaged : ℕ → Type 0) (k n before now : ℕ) where
  -- why the reader can't go on
  why_end : (e : Ended) → IsLookEnd damaged k n e → IsTailEnd damaged k n before now e
  why_end (ends.Register fault) h = h
  why_end ends.NoMemory h = h
  why_end ends.Done h = absurd h
  why_end ends.Rounds h = absurd h
  why_end (ends.Preempted by) h = absurd h
  why_end ends.LogLimit h = absurd h
  why_end ends.EpochLimit h = absurd h
  why_end ends.EpochFull h = absurd h
  why_end (ends.BadFrame fault) h = absurd h
  why_end (ends.BadLine line place) h = absurd h
  why_end ends.Read h = absurd h
  why_end ends.Write h = absurd h

  off_why : (off : Option WireFault) (e : Ended) → IsLookEnd damaged k n e → IsOffAs off e
  off_why off (ends.BadFrame fault) h = absurd h
  off_why off e h = tt

  pub end_off : (off : Option WireFault) (r : Result Bool Ended) (why : Ended) → IsLookEnd damaged k n why → IfErr r (IsOffAs off) → IsOffAs off (end_of r why)
  end_off off (Ok true) why h i = tt
  end_off off (Ok false) why h i = tt
  end_off off (Err (ends.BadFrame fault)) why h i = i
  end_off off (Err ends.Write) why h i = tt
  end_off off (Err e) why h i = off_why off why h

  pub tail_end : (old new : Option (List ℕ)) (r : Result Bool Ended) (why : Ended) → IsLookEnd damaged k n why → IfErr r (IsEnding before now old new) → IsTailEnd damaged k n before now (end_of r why)
  tail_end old new (Ok true) why h i = tt
  tail_end old new (Ok false) why h i = tt
  tail_end old new (Err (ends.BadFrame fault)) why h i = tt
  tail_end old new (Err ends.Write) why h i = i
  tail_end old new (Err ends.NoMemory) why h i = why_end why h
  tail_end old new (Err ends.Done) why h i = why_end why h
  tail_end old new (Err ends.Rounds) why h i = why_end why h
  tail_end old new (Err (ends.Preempted by)) why h i = why_end why h
  tail_end old new (Err ends.LogLimit) why h i = why_end why h
  tail_end old new (Err ends.EpochLimit) why h i = why_end why h
  tail_end old new (Err ends.EpochFull) why h i = why_end why h
  tail_end old new (Err (ends.Register fault)) why h i = why_end why h
  tail_end old new (Err (ends.BadLine line place)) why h i = why_end why h
  tail_end old new (Err ends.Read) why h i = why_end why h

  module _ (w : Wanted) (counts : CallCounts) (most : ℕ) (tells : Config → Far → Type 0) (U : Register → Type 0) (c : Config) (s : State) (old new : Option (List ℕ)) where
    abbrev Cut : Type 0
    Cut = Stopped (tailing w) (HasBroken counts) (EndAt w c s.network.count most counts) c s old new

    why_tailed : (e : Ended) → IsLookEnd damaged k n e → Cut → IsTailed w counts most tells U c s old new e
    why_tailed (ends.Register fault) h g = g
    why_tailed ends.NoMemory h g = g
    why_tailed ends.Done h g = absurd h
    why_tailed ends.Rounds h g = absurd h
    why_tailed (ends.Preempted by) h g = g
    why_tailed ends.LogLimit h g = g
    why_tailed ends.EpochLimit h g = g
    why_tailed ends.EpochFull h g = g
    why_tailed (ends.BadFrame fault) h g = absurd h
    why_tailed (ends.BadLine line place) h g = g
    why_tailed ends.Read h g = g
    why_tailed ends.Write h g = g

    tailed : (r : Result Bool Ended) (why : Ended) → IsLookEnd damaged k n why → DroveTail w counts most tells U c s old new r → IsTailed w counts most tells U c s old new (end_of r why)
    tailed (Ok true) why h g = g
    tailed (Ok false) why h g = g
    tailed (Err (ends.BadFrame fault)) why h g = g
    tailed (Err ends.Write) why h g = g
    tailed (Err ends.NoMemory) why h g = why_tailed why h g
    tailed (Err ends.Done) why h g = why_tailed why h g
    tailed (Err ends.Rounds) why h g = why_tailed why h g
    tailed (Err (ends.Preempted by)) why h g = why_tailed why h g
    tailed (Err ends.LogLimit) why h g = why_tailed why h g
    tailed (Err ends.EpochLimit) why h g = why_tailed why h g
    tailed (Err ends.EpochFull) why h g = why_tailed why h g
    tailed (Err (ends.Register fault)) why h g = why_tailed why h g
    tailed (Err (ends.BadLine line place)) why h g = why_tailed why h g
    tailed (Err ends.Read) why h g = why_tailed why h g

    -- where it isn't silent
    pub tailed_loud : (Y : Type 0) (r : Result Bool Ended) (why : Ended) → IsLookEnd damaged k n why → Y ⊎ DroveTail w counts most tells U c s old new r → Y ⊎ IsTailed w counts most tells U c s old new (end_of r why)
    tailed_loud Y r why h (inl y) = inl y
    tailed_loud Y r why h (inr g) = inr (tailed r why h g)

-- ---- what begins no frame ----

pub end_ended : (off : Option WireFault) (r : Result Bool Ended) (why : Ended) → EndsOff off r → EndedOff off (end_of r why)
end_ended None r why h = tt
end_ended (Some fault) r why h = ap (λ (x : Result Bool Ended). end_of x why) h
