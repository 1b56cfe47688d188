-- The half's part of what holds in each state of a calm is kept by each of its steps.
use Rattle.std.proofs.Common.{◌≡◌, ℕ, sym, subst, List, Option, Some, None}
use Rattle.ld_table.specs.Named.{find_named}
use Rattle.ld_config.specs.declared.config.Config.{Config}
use Rattle.ld_schedule.specs.declared.event.Event.TheVariants as events
use Rattle.ld_msg.specs.Sequencer.{Sequencer, on_retry}
use Rattle.ld_machine.specs.Config.{looks_at}
use Rattle.ld_machine.specs.State.{State, finish, unchanged}
use Rattle.ld_machine.specs.World.{In}
use Rattle.ld_machine.specs.Step as Step
use Rattle.ld_safety.proofs.Lists.{cond_both}
use Rattle.ld_safety.proofs.Events.{NamesOnce}
use Rattle.ld_safety.proofs.ReaderLogs.{Apart}
use Rattle.ld_safety.proofs.LostRounds.{Rounds}
use Rattle.ld_machine.specs.Calm.{Move, Takes, Calms, moved, moves, calms_acts}
use Rattle.ld_calm.proofs.Measure.{Ground, ground_at}
use Rattle.ld_calm.proofs.Halves.{begin_half}
use Rattle.ld_calm.proofs.Halved.{HalfTalk, NowAs, AllEnds, half_event}
use Rattle.ld_calm.proofs.Alike.{AllAlike, alike_here, delivers_alike, polls_alike, ticks_alike}
use Rattle.ld_calm.proofs.Renewing.{Rests, renew, rounds_most, alike_now, renewed_now, begun_now, renewed_talk, begun_talk, first_talk, first_now}
use Rattle.ld_calm.proofs.Turning.{Quiet, delivery, poll, retry, tick_readers}

-- what is known of such a state in every run
pub record Known (s : State) : Type 0 where
  pub names : NamesOnce s
  pub apart : Apart s.network.sent s.readers
  pub rounds : Rounds s.register (λ m. In m s.network.sent) s.readers
  pub ends : AllEnds s

-- what a half adds to it
pub record InHalf (g : Ground) (s : State) : Type 0 where
  pub now : NowAs g s
  pub talk : HalfTalk g s.network.sent s.readers

-- ---- the retry that tells its released number again ----

-- it changes no node
calms_alike : (c : Config) (s : State) (name : List ℕ) → AllAlike s (finish (moves c s (Calms name))).state
unfolding finish
calms_alike c s name = by_found (find_named name s.sequencers) where
  by_found : (o : Option Sequencer) → AllAlike s (Step.on_live s o (λ q. calms_acts c s name q (on_retry (looks_at c s.register q.log) q))).state
  by_found None = λ y. alike_here _
  by_found (Some q) = cond_both q.gone (unchanged s) (calms_acts c s name q (on_retry (looks_at c s.register q.log) q)) (λ d. AllAlike s d.state) (λ t y. alike_here _) (λ t y. alike_here _)

-- ---- each step ----

pub half_step : (c : Config) (g : Ground) (s : State) (m : Move) → Known s → InHalf g s → Quiet m → InHalf g (moved c s m).state
half_step c g s m K H (delivery i e) = subst (λ (x : Move). InHalf g (moved c s x).state) (sym e) (record {
  now = alike_now g s (finish (Step.happens c s (events.Deliver i))).state (delivers_alike c s i) H.now;
  talk = half_event g c s (Takes (events.Deliver i)) K.apart K.rounds H.now K.ends H.talk K.names;
})
half_step c g s m K H (poll name e) = subst (λ (x : Move). InHalf g (moved c s x).state) (sym e) (record {
  now = alike_now g s (finish (Step.happens c s (events.Poll name))).state (polls_alike c s name) H.now;
  talk = half_event g c s (Takes (events.Poll name)) K.apart K.rounds H.now K.ends H.talk K.names;
})
half_step c g s m K H (retry name e) = subst (λ (x : Move). InHalf g (moved c s x).state) (sym e) (record {
  now = alike_now g s (finish (moves c s (Calms name))).state (calms_alike c s name) H.now;
  talk = half_event g c s (Calms name) K.apart K.rounds H.now K.ends H.talk K.names;
})

pub half_begins : (g : Ground) (s : State) (l : ℕ) → Known s → InHalf g s → InHalf (begin_half g s l) s
half_begins g s l K H = record { now = begun_now g s l H.now; talk = begun_talk g s l (rounds_most s K.rounds) H.talk }

pub half_ticks : (c : Config) (g : Ground) (s : State) (n l : ℕ) → Known s → Known (moved c s (Takes (events.Tick n l))).state → InHalf g s → Rests g s l → InHalf (renew g (moved c s (Takes (events.Tick n l))).state l) (moved c s (Takes (events.Tick n l))).state
half_ticks c g s n l K J H r = let t : State = (moved c s (Takes (events.Tick n l))).state in record {
  now = renewed_now g s t l (ticks_alike c s n l) H.now;
  talk = renewed_talk g t l (rounds_most t J.rounds) (λ name d f. r name d (subst (λ (ds : List (List ℕ × _)). find_named name ds ≡ Some d) (tick_readers c s n l) f))
      (half_event g c s (Takes (events.Tick n l)) K.apart K.rounds H.now K.ends H.talk K.names);
}

-- as a calm begins
pub half_first : (c : Config) (s : State) → Known s → InHalf (ground_at c s) s
half_first c s K = record { now = first_now c s; talk = first_talk c s (rounds_most s K.rounds) }
