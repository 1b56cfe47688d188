-- The run of a made schedule.
use Rattle.std.proofs.Common.{◌≡◌, ◌≤◌, ◌<◌, ◌+◌, ◌*◌, ◌-◌, ◌^◌, suc, ℕ, List, [], ◌∷◌, ◌++◌, length, get_or, take, sym, ap, ◌∙◌, subst, arith}
use Rattle.std.specs.Prelude.{Option}
use Rattle.std.specs.List.{All}
use Rattle.std.specs.Io.KnownBytes.{Appends}
use Rattle.std.proofs.lemmas.List.{append_assoc, append-nil, take_more}
use Rattle.std.proofs.lemmas.List.Elements.{All-from_recursion, All-get_or}
use Rattle.ld_schedule.specs.declared.event.Event.{Event}
use Rattle.ld_schedule.specs.declared.event.Event.TheVariants as events
use Rattle.ld_schedule.specs.Grammar.{IsNamed}
use Rattle.ld_config.specs.declared.config.Config.{Config}
use Rattle.ld_machine.specs.State.{State, start}
use Rattle.ld_machine.specs.Run.{step, state_after, lines_of}
use Rattle.ld_cluster.specs.Standing.{config_of, past_of, state_by, state_of, IsReached}
use Rattle.ld_cluster.specs.Steps.{Counts}
use Rattle.ld_cluster.specs.declared.cluster.Cluster.{Cluster}
use Rattle.ld_maker.specs.Made.{made_config, first_events, begin, next_event, next_maker, made_from, made}
use Rattle.ld_maker.specs.Tally.{HasRoom, no_lines, more_lines, tally, summary}
use Rattle.ld_maker.specs.declared.maker.Maker.{Maker}
use Rattle.ld_maker.specs.declared.tally.Tally.{Tally}
use Rattle.ld_maker.proofs.Bounds.{made_in_bounds}
use Rattle.ld_maker.proofs.Counting.{tally-append, less_room}
use Rattle.ld_cli.specs.Step.{IsTaken}
use Rattle.ld_cli.specs.Exercise.{made_lines, HasPlayed, IsExercised}
use Rattle.ld_cli.proofs.PlayLoop.{state_after-push, lines_of-push}
use Rattle.ld_cli.proofs.Safely.{run_is_safe}

-- ---- what a made schedule names ----

-- what can be named counts from 1 on
pub named_counts : (e : Event) → IsNamed e → Counts e
named_counts (events.Fail node call) named = named.1.0
named_counts (events.Tear node call picture) named = named.1.0
named_counts (events.RegFail call done) named = named.0
named_counts events.Calm named = tt
named_counts (events.Set l r extras set) named = tt
named_counts (events.Replace n other l) named = tt
named_counts (events.Format n) named = tt
named_counts (events.Activate name l) named = tt
named_counts (events.Append name p) named = tt
named_counts (events.Batch name ms) named = tt
named_counts (events.Trim name t) named = tt
named_counts (events.Retry name) named = tt
named_counts (events.Drop name) named = tt
named_counts (events.Deliver i) named = tt
named_counts (events.Lose i) named = tt
named_counts (events.Flow k) named = tt
named_counts (events.Open name l from until) named = tt
named_counts (events.OpenOne name l from until) named = tt
named_counts (events.OpenMessages name l from until) named = tt
named_counts (events.Poll name) named = tt
named_counts (events.Tick n l) named = tt
named_counts (events.Down n) named = tt
named_counts (events.Up n) named = tt
named_counts (events.Wipe n) named = tt

first_counts : All Counts first_events
first_counts = All-from_recursion Counts first_events (tt, (tt, (tt, (tt, (tt, (tt, (tt, tt)))))))

pub first_one_counts : (xs : List Event) (i : ℕ) (e : Event) → xs ≡ first_events → i < length xs → e ≡ get_or xs i e → Counts e
first_one_counts xs i e are inside at =
    subst Counts (sym at) (All-get_or Counts xs i e inside (subst (All Counts) (sym are) first_counts))

-- ---- one event more ----

pub unplayed : (k : Cluster) (t : Tally) → config_of k ≡ made_config → past_of k ≡ [] → IsReached k → t ≡ no_lines → HasPlayed k t [] (2 ^ 32 + 7)
unfolding state_after lines_of
unplayed k t same past reached none =
    record {
      config = same;
      state = ap (λ ms. state_by (config_of k) (start (config_of k)) ms) past ∙ ap start same;
      reached = reached;
      counts = none;
      room = rw none (record {
        appended = omega arith;
        acked = omega arith;
        records = omega arith;
        trims = omega arith;
        holes = omega arith;
        bridges = omega arith;
        data_losses = omega arith;
      });
    }

step_same : (c d : Config) (s r : State) (e : Event) → c ≡ d → s ≡ r → step c s e ≡ step d r e
step_same c d s r e p q = ap (λ x. step x s e) p ∙ ap (λ x. step d x e) q

pub played_on : (k next : Cluster) (t more : Tally) (es : List Event) (e : Event) (left : ℕ) → HasPlayed k t es (left + 1) → IsTaken k e next
    → more ≡ more_lines t (step (config_of k) (state_of k) e).lines → ((n : ℕ) → HasRoom t (n + 2 ^ 64) → HasRoom more n)
    → HasPlayed next more (es ++ e ∷ []) left
played_on k next t more es e left played took counted room =
    let c : Config = made_config in
    let now : State = state_after c (start c) es in
    let same : step (config_of k) (state_of k) e ≡ step c now e = step_same (config_of k) c (state_of k) now e played.config played.state in
    let place : (left + 1) * 2 ^ 64 ≡ left * 2 ^ 64 + 2 ^ 64 = omega arith in
    record {
      config = took.config ∙ played.config;
      state = took.state ∙ ap (λ r. r.state) same ∙ sym (state_after-push c (start c) es e);
      reached = took.reached;
      counts = counted ∙ ap (λ r. more_lines t r.lines) same ∙ ap (λ u. more_lines u (step c now e).lines) played.counts
          ∙ sym (tally-append (lines_of c (start c) es) (step c now e).lines) ∙ ap tally (sym (lines_of-push c (start c) es e));
      room = room (left * 2 ^ 64) (subst (HasRoom t) place played.room);
    }

pub played_fewer : (k : Cluster) (t : Tally) (es : List Event) (left more : ℕ) → HasPlayed k t es more → left ≤ more → HasPlayed k t es left
played_fewer k t es left more played few =
    record {
      config = played.config;
      state = played.state;
      reached = played.reached;
      counts = played.counts;
      room = less_room t (left * 2 ^ 64) (more * 2 ^ 64) played.room (omega (arith, few));
    }

-- ---- the first events ----

pub first_on : (k next : Cluster) (t more : Tally) (xs : List Event) (i : ℕ) (e : Event) → xs ≡ first_events → i < length xs → e ≡ get_or xs i e
    → HasPlayed k t (take i xs) (2 ^ 32 + 7 - i) → IsTaken k e next
    → more ≡ more_lines t (step (config_of k) (state_of k) e).lines → ((n : ℕ) → HasRoom t (n + 2 ^ 64) → HasRoom more n)
    → HasPlayed next more (take (i + 1) xs) (2 ^ 32 + 7 - (i + 1))
first_on k next t more xs i e are inside at played took counted room =
    let few : i < 7 = subst (λ n. i < n) (ap length are) inside in
    let front : take i xs ++ e ∷ [] ≡ take (i + 1) xs = ap (λ y. take i xs ++ y ∷ []) at ∙ sym (take_more xs i e inside) in
    let left : 2 ^ 32 + 7 - i ≡ 2 ^ 32 + 7 - (i + 1) + 1 = omega (arith, few) in
    subst (λ es. HasPlayed next more es (2 ^ 32 + 7 - (i + 1))) front
    (played_on k next t more (take i xs) e (2 ^ 32 + 7 - (i + 1)) (subst (HasPlayed k t (take i xs)) left played) took counted room)

few_first : (xs : List Event) (i : ℕ) → xs ≡ first_events → i < length xs → i < 7
few_first xs i are inside = subst (λ n. i < n) (ap length are) inside

pub can_take_first : (k : Cluster) (t : Tally) (xs : List Event) (i : ℕ) → xs ≡ first_events → i < length xs → HasPlayed k t (take i xs) (2 ^ 32 + 7 - i)
    → HasRoom t (2 ^ 64)
can_take_first k t xs i are inside played = less_room t (2 ^ 64) ((2 ^ 32 + 7 - i) * 2 ^ 64) played.room (omega (arith, few_first xs i are inside))

pub first_done : (k : Cluster) (t : Tally) (xs : List Event) (i : ℕ) → xs ≡ first_events → i ≡ length xs → HasPlayed k t (take i xs) (2 ^ 32 + 7 - i)
    → HasPlayed k t first_events (2 ^ 32)
first_done k t xs i are ends played =
    let seven : i ≡ 7 = ends ∙ ap length are in
    subst (λ n. HasPlayed k t (take n first_events) (2 ^ 32 + 7 - n)) seven (subst (λ l. HasPlayed k t (take i l) (2 ^ 32 + 7 - i)) are played)

-- ---- the made events ----

-- some events of the made schedule were played, and the maker makes the others
pub record Making (seed m : ℕ) (maker : Maker) (left : ℕ) (cluster : Cluster) (t : Tally) : Type 0 where
  pub events : List Event
  pub whole : events ++ made_from maker left ≡ made seed m
  pub played : HasPlayed cluster t events left

pub making_begins : (seed m : ℕ) (maker : Maker) (k : Cluster) (t : Tally) → m < 2 ^ 32 → maker ≡ begin seed → HasPlayed k t first_events (2 ^ 32) → Making seed m maker (m - 0) k t
making_begins seed m maker k t few is played =
    let all : m - 0 ≡ m = omega arith in
    subst (λ left. Making seed m maker left k t) (sym all)
    (record { events = first_events; whole = ap (λ x. first_events ++ made_from x m) is; played = played_fewer k t first_events m (2 ^ 32) played (omega (arith, few)) })

made_on : (maker next : Maker) (e : Event) (n : ℕ) → e ≡ next_event maker → next ≡ next_maker maker → made_from maker (suc n) ≡ e ∷ made_from next n
unfolding made_from
made_on maker next e n is goes = ap (λ x. x ∷ made_from (next_maker maker) n) (sym is) ∙ ap (λ x. e ∷ made_from x n) (sym goes)

pub making_on : (seed m : ℕ) (maker further : Maker) (left n : ℕ) (k next : Cluster) (t more : Tally) (e : Event) → Making seed m maker left k t → left ≡ suc n
    → e ≡ next_event maker → further ≡ next_maker maker → IsTaken k e next
    → more ≡ more_lines t (step (config_of k) (state_of k) e).lines → ((i : ℕ) → HasRoom t (i + 2 ^ 64) → HasRoom more i)
    → Making seed m further n next more
making_on seed m maker further left n k next t more e making size is goes took counted room =
    let es : List Event = making.events in
    let one : left ≡ n + 1 = omega (arith, size) in
    record {
      events = es ++ e ∷ [];
      whole = append_assoc es (e ∷ []) (made_from further n) ∙ ap (λ l. es ++ l) (sym (made_on maker further e n is goes))
          ∙ ap (λ i. es ++ made_from maker i) (sym size) ∙ making.whole;
      played = played_on k next t more es e n (subst (HasPlayed k t es) one making.played) took counted room;
    }

pub making_ends : (seed m : ℕ) (maker : Maker) (left : ℕ) (k : Cluster) (t : Tally) → Making seed m maker left k t → left ≡ 0 → t ≡ tally (made_lines seed m)
unfolding made_from
making_ends seed m maker left k t making none =
    let all : making.events ≡ made seed m =
    sym (append-nil making.events) ∙ ap (λ i. making.events ++ made_from maker i) (sym none) ∙ making.whole in
    making.played.counts ∙ ap (λ es. tally (lines_of made_config (start made_config) es)) all

pub exercised : (seed m : ℕ) (old new : Option (List ℕ)) (line bytes : List ℕ) (t : Tally) → t ≡ tally (made_lines seed m) → line ≡ summary (m + 7) t → bytes ≡ line
    → Appends old new bytes → IsExercised seed m old new
exercised seed m old new line bytes t counted is at written =
    record {
      written = subst (Appends old new) (at ∙ is ∙ ap (λ u. summary (m + 7) u) counted) written;
      safe = run_is_safe made_config made_in_bounds (made seed m);
    }
