-- The loop over the events of a schedule.
use Rattle.std.proofs.Common.{◌≡◌, ◌≤◌, ◌+◌, inl, inr, ℕ, List, [], ◌∷◌, ◌++◌, length, drop, Some, refl, sym, ap, ◌∙◌, subst, arith}
use Rattle.std.specs.Prelude.{Option, flat_map}
use Rattle.std.specs.Io.KnownBytes.{Appends}
use Rattle.std.proofs.lemmas.List.{append_assoc, append-nil, length-append}
use Rattle.std.proofs.Math.Seq.{drop-append_seam}
use Rattle.std.proofs.lemmas.List.Concat.{flat_map-append}
use Rattle.ld_schedule.specs.declared.event.Event.{Event}
use Rattle.ld_transcript.specs.Text.{line_text, text}
use Rattle.ld_config.specs.declared.config.Config.{Config}
use Rattle.ld_machine.specs.State.{State, start}
use Rattle.ld_machine.specs.Run.{step, state_after, lines_of}
use Rattle.ld_schedule.specs.declared.event.Event.TheVariants as events
use Rattle.ld_cluster.specs.Standing.{config_of, past_of, state_by, state_of, IsReached}
use Rattle.ld_cluster.specs.Steps.{Counts}
use Rattle.ld_cluster.specs.declared.cluster.Cluster.{Cluster}
use Rattle.ld_cli.specs.Lines.{ended}
use Rattle.ld_cli.specs.Schedule.{Configures, IsSpelt, AreSpelt, event_line, schedule_text, IsOffFirst, IsOffLater}
use Rattle.ld_cli.specs.NextEvent.{TakesConfig}
use Rattle.ld_cli.specs.Step.{IsTaken}
use Rattle.ld_rounds.specs.Output.{AppendsPart}
use Rattle.ld_cli.specs.declared.status.Stop.{Stop}
use Rattle.ld_cli.specs.declared.status.Stop.TheVariants as stops
use Rattle.ld_cli.specs.Causes.{IsReadStop, IsWriteStop, IsStop}
use Rattle.ld_cli.specs.Ends.{written_by, IsReplayed, IsStopped, IsCut, StopsBy}
use Rattle.ld_rounds.proofs.Writing.{Appends-trans, Appends-nil}
use Rattle.ld_io.specs.Input.{Front}
use Rattle.ld_cli.proofs.LineLoop.{taken_on}
use Rattle.ld_cli.proofs.Safely.{run_is_safe}

-- the lines of the configuration and of some events were read, and the transcript of the events was written
pub record Playing (input_old input_new : List ℕ) (written_old written_new : Option (List ℕ)) (cluster : Cluster) (number : ℕ) : Type 0 where
  pub first : List ℕ
  pub events : List Event
  pub configures : Configures first (config_of cluster)
  pub spelt : AreSpelt events
  pub read : input_old ≡ schedule_text first events ++ input_new
  pub state : state_of cluster ≡ state_after (config_of cluster) (start (config_of cluster)) events
  pub reached : IsReached cluster
  pub written : Appends written_old written_new (written_by (config_of cluster) events)
  pub count : number ≡ length events + 2

-- ---- one event more ----

schedule_text-push : (first : List ℕ) (es : List Event) (e : Event) → schedule_text first (es ++ e ∷ []) ≡ schedule_text first es ++ event_line e
unfolding schedule_text
schedule_text-push first es e =
    ap (λ l. ended first ++ l) (flat_map-append event_line es (e ∷ []) ∙ ap (λ l. flat_map event_line es ++ l) (append-nil (event_line e)))
    ∙ sym (append_assoc (ended first) (flat_map event_line es) (event_line e))

AreSpelt-push : (es : List Event) (e : Event) → AreSpelt es → IsSpelt e → AreSpelt (es ++ e ∷ [])
unfolding AreSpelt
AreSpelt-push [] e spelt can = (can, tt)
AreSpelt-push (x ∷ es) e spelt can = (spelt.0, AreSpelt-push es e spelt.1 can)

pub state_after-push : (c : Config) (s : State) (es : List Event) (e : Event) → state_after c s (es ++ e ∷ []) ≡ (step c (state_after c s es) e).state
unfolding state_after
state_after-push c s [] e = refl
state_after-push c s (x ∷ es) e = state_after-push c (step c s x).state es e

pub lines_of-push : (c : Config) (s : State) (es : List Event) (e : Event) → lines_of c s (es ++ e ∷ []) ≡ lines_of c s es ++ (step c (state_after c s es) e).lines
unfolding state_after lines_of
lines_of-push c s [] e = append-nil (step c s e).lines
lines_of-push c s (x ∷ es) e =
    ap (λ l. (step c s x).lines ++ l) (lines_of-push c (step c s x).state es e)
    ∙ sym (append_assoc (step c s x).lines (lines_of c (step c s x).state es) (step c (state_after c (step c s x).state es) e).lines)

written_by-push : (c : Config) (s : State) (es : List Event) (e : Event) → s ≡ state_after c (start c) es
    → written_by c (es ++ e ∷ []) ≡ written_by c es ++ text (step c s e).lines
written_by-push c s es e is =
    ap text (lines_of-push c (start c) es e)
    ∙ flat_map-append line_text (lines_of c (start c) es) (step c (state_after c (start c) es) e).lines
    ∙ ap (λ t. written_by c es ++ text (step c t e).lines) (sym is)

-- what a schedule names counts from 1 on
pub spelt_counts : (e : Event) → IsSpelt e → Counts e
spelt_counts (events.Fail node call) h = h.0.1.0
spelt_counts (events.Tear node call picture) h = h.0.1.0
spelt_counts (events.RegFail call done) h = h.0.0
spelt_counts (events.Format n) h = tt
spelt_counts (events.Activate name l) h = tt
spelt_counts (events.Append name p) h = tt
spelt_counts (events.Batch name ms) h = tt
spelt_counts (events.Trim name t) h = tt
spelt_counts (events.Retry name) h = tt
spelt_counts (events.Drop name) h = tt
spelt_counts (events.Deliver i) h = tt
spelt_counts (events.Lose i) h = tt
spelt_counts (events.Flow k) h = tt
spelt_counts (events.Open name l from until) h = tt
spelt_counts (events.OpenOne name l from until) h = tt
spelt_counts (events.OpenMessages name l from until) h = tt
spelt_counts (events.Poll name) h = tt
spelt_counts (events.Tick n l) h = tt
spelt_counts (events.Down n) h = tt
spelt_counts (events.Up n) h = tt
spelt_counts (events.Wipe n) h = tt
spelt_counts (events.Set l r extras nodes) h = tt
spelt_counts (events.Replace n other l) h = tt
spelt_counts events.Calm h = tt

-- ---- the loop ----

first_text : (first : List ℕ) → ended first ≡ schedule_text first []
unfolding schedule_text
first_text first = sym (append-nil (ended first))

pub begun : (left new : List ℕ) (written : Option (List ℕ)) (cluster : Cluster) → past_of cluster ≡ [] → IsReached cluster
    → TakesConfig (Some left) (Some new) (config_of cluster) → Playing left new written written cluster 2
unfolding AreSpelt state_after lines_of
begun left new written cluster past reached taken =
    record {
      first = taken.line;
      events = [];
      configures = taken.configures;
      spelt = tt;
      read = rw (← first_text) taken.taken;
      state = ap (λ ms. state_by (config_of cluster) (start (config_of cluster)) ms) past;
      reached = reached;
      written = Appends-nil written;
      count = refl;
    }

pub played : (left mid new : List ℕ) (old written written' : Option (List ℕ)) (cluster stepped : Cluster) (number : ℕ) (e : Event) → Playing left mid old written cluster number
    → IsSpelt e → mid ≡ event_line e ++ new → IsTaken cluster e stepped → Appends written written' (text (step (config_of cluster) (state_of cluster) e).lines)
    → Playing left new old written' stepped (number + 1)
played left mid new old written written' cluster stepped number e playing can taken took more =
    let c : Config = config_of cluster in
    record {
      first = playing.first;
      events = playing.events ++ e ∷ [];
      configures = rw took.config playing.configures;
      spelt = AreSpelt-push playing.events e playing.spelt can;
      read = rw schedule_text-push (taken_on new (schedule_text playing.first playing.events) (event_line e) playing.read taken);
      state = took.state ∙ ap (λ s. (step c s e).state) playing.state ∙ sym (state_after-push c (start c) playing.events e)
          ∙ ap (λ d. state_after d (start d) (playing.events ++ e ∷ [])) (sym took.config);
      reached = took.reached;
      written = rw (took.config, written_by-push c (state_of cluster) playing.events e playing.state) (Appends-trans _ _ _ _ _ playing.written more);
      count = omega (arith, playing.count, length-append playing.events (e ∷ []));
    }

-- ---- its ends ----

pub silent : (bytes : List ℕ) (written : Option (List ℕ)) → IsCut bytes written written
silent bytes written = inl (Appends-nil written)

pub off_first : (held left : List ℕ) (written : Option (List ℕ)) (place : ℕ) → held ≡ [] → IsOffFirst (held ++ left) place → IsStopped left written written 1 place
off_first held left written place none off = inl (record { off = subst (λ l. IsOffFirst (l ++ left) place) none off; line = refl; written = Appends-nil written })

pub off_later : (left rest : List ℕ) (old written : Option (List ℕ)) (cluster : Cluster) (number place : ℕ) → Playing left rest old written cluster number
    → IsOffLater rest place → IsStopped left old written number place
off_later left rest old written cluster number place playing off =
    inr (record {
      first = playing.first;
      config = config_of cluster;
      events = playing.events;
      rest = rest;
      configures = playing.configures;
      spelt = playing.spelt;
      front = playing.read;
      off = off;
      line = playing.count;
      written = playing.written;
      safe = run_is_safe (config_of cluster) playing.reached.bounds playing.events;
    })

pub replayed : (left rest : List ℕ) (old written : Option (List ℕ)) (cluster : Cluster) (number : ℕ) → Playing left rest old written cluster number
    → rest ≡ [] → IsReplayed left old written
replayed left rest old written cluster number playing ends =
    record {
      line = playing.first;
      config = config_of cluster;
      events = playing.events;
      configures = playing.configures;
      spelt = playing.spelt;
      whole = playing.read ∙ ap (λ l. schedule_text playing.first playing.events ++ l) ends ∙ append-nil (schedule_text playing.first playing.events);
      written = playing.written;
      safe = run_is_safe (config_of cluster) playing.reached.bounds playing.events;
    }

pub cut_here : (left rest : List ℕ) (old written : Option (List ℕ)) (cluster : Cluster) (number : ℕ) → Playing left rest old written cluster number
    → IsCut left old written
cut_here left rest old written cluster number playing =
    inr (record {
      first = playing.first;
      config = config_of cluster;
      events = playing.events;
      rest = rest;
      configures = playing.configures;
      spelt = playing.spelt;
      read = playing.read;
      part = written_by (config_of cluster) playing.events;
      missing = [];
      written = playing.written;
      prefix = sym (append-nil (written_by (config_of cluster) playing.events));
      safe = run_is_safe (config_of cluster) playing.reached.bounds playing.events;
    })

pub cut_in : (left mid rest : List ℕ) (old written written' : Option (List ℕ)) (cluster : Cluster) (number : ℕ) (e : Event) → Playing left mid old written cluster number
    → IsSpelt e → mid ≡ event_line e ++ rest → AppendsPart written written' (text (step (config_of cluster) (state_of cluster) e).lines)
    → IsCut left old written'
cut_in left mid rest old written written' cluster number e playing can taken more =
    let c : Config = config_of cluster in
    let all : left ≡ schedule_text playing.first (playing.events ++ e ∷ []) ++ rest =
    taken_on rest (schedule_text playing.first playing.events) (event_line e) playing.read taken ∙ ap (λ l. l ++ rest) (sym (schedule_text-push playing.first playing.events e)) in
    inr (record {
      first = playing.first;
      config = c;
      events = playing.events ++ e ∷ [];
      rest = rest;
      configures = playing.configures;
      spelt = AreSpelt-push playing.events e playing.spelt can;
      read = all;
      part = written_by c playing.events ++ more.part;
      missing = more.missing;
      written = Appends-trans _ _ _ _ _ playing.written more.written;
      prefix = written_by-push c (state_of cluster) playing.events e playing.state
          ∙ ap (λ l. written_by c playing.events ++ l) more.whole ∙ sym (append_assoc (written_by c playing.events) more.part more.missing);
      safe = run_is_safe (config_of cluster) playing.reached.bounds (playing.events ++ e ∷ []);
    })

none_of : (held left : List ℕ) → held ++ left ≡ [] → left ≡ []
none_of [] left ends = ends
none_of (x ∷ held) left ends = cc

-- where nothing is left behind what was given, all was given
pub all_given : (gave held all : List ℕ) → Front gave all → held ++ drop (length gave) all ≡ [] → all ≡ gave
all_given gave held all front ends =
    let rest : drop (length gave) all ≡ front.rest = ap (drop (length gave)) front.is ∙ drop-append_seam gave front.rest in
    front.is ∙ ap (λ l. gave ++ l) (sym rest ∙ none_of held (drop (length gave) all) ends) ∙ append-nil gave

-- running out of memory, or a failed read or write, cuts the run off
pub read_cuts : (left : List ℕ) (old new : Option (List ℕ)) (before now : ℕ) (stop : Stop) → IsReadStop before now stop
    → IsCut left old new → StopsBy left old new stop
read_cuts left old new before now stops.NoMemory cause cut = cut
read_cuts left old new before now stops.Read cause cut = cut
read_cuts left old new before now stops.Write cause cut = absurd cause
read_cuts left old new before now (stops.BadSchedule line place) cause cut = absurd cause

pub write_cuts : (left : List ℕ) (old new : Option (List ℕ)) (before now : ℕ) (stop : Stop) → IsWriteStop before now stop
    → IsCut left old new → StopsBy left old new stop
write_cuts left old new before now stops.NoMemory cause cut = cut
write_cuts left old new before now stops.Write cause cut = cut
write_cuts left old new before now stops.Read cause cut = absurd cause
write_cuts left old new before now (stops.BadSchedule line place) cause cut = absurd cause

-- what a failed write answers, by the counts since the beginning
pub write_stops : (read_before read_now before between now : ℕ) (stop : Stop) → before ≤ between → IsWriteStop between now stop → IsStop read_before read_now before now stop
write_stops read_before read_now before between now stops.NoMemory later cause = tt
write_stops read_before read_now before between now stops.Write later cause = omega (arith, later, cause)
write_stops read_before read_now before between now stops.Read later cause = absurd cause
write_stops read_before read_now before between now (stops.BadSchedule line place) later cause = tt

-- what a failed read answers, by the counts since the beginning
pub read_stops : (before between now write_before write_now : ℕ) (stop : Stop) → before ≤ between → IsReadStop between now stop → IsStop before now write_before write_now stop
read_stops before between now write_before write_now stops.NoMemory later cause = tt
read_stops before between now write_before write_now stops.Read later cause = omega (arith, later, cause)
read_stops before between now write_before write_now stops.Write later cause = absurd cause
read_stops before between now write_before write_now (stops.BadSchedule line place) later cause = absurd cause
