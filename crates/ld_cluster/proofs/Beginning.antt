-- The first step of each part of a calm.
use Rattle.std.proofs.Common.{◌≡◌, ℕ, ◌⊎◌, inl, inr, Bool, true, false, List, [], ◌∷◌, Option, Some, None, option_map, refl, ap, sym, ◌∙◌, subst, cond, ◌==◌}
use Rattle.std.proofs.lemmas.Bool.{eq-eqb, ne_eqb}
use Rattle.ld_table.specs.Named.{find_named}
use Rattle.ld_schedule.specs.declared.event.Event.TheVariants as events
use Rattle.ld_transcript.specs.declared.line.Line.{Line}
use Rattle.ld_config.specs.declared.config.Config.{Config}
use Rattle.ld_msg.specs.Network.{oldest_new}
use Rattle.ld_reader.specs.Following.{Following}
use Rattle.ld_machine.specs.State.{State}
use Rattle.ld_machine.specs.Calm.{Move, Takes, Calms, Left, Announces, Settles, Ticks, Reads, Drains, Again, Next, announces, asks_again, cleans, delivers_in, goes, last_in, last_of, moved, next_of, polls_then, reads}
use Rattle.ld_clients.specs.declared.client.Client.{Client}
use Rattle.ld_clients.specs.Acting.{AreSequencers}
use Rattle.ld_clients.specs.Finished.{finished_in}
use Rattle.ld_clients.specs.Followers.{readers_of}
use Rattle.ld_clients.specs.Latest.{live_of}
use Rattle.ld_clients.specs.Serving.{sequencers_of}
use Rattle.ld_clients.proofs.Latest.{announced_last, announces_name}
use Rattle.ld_clients.proofs.Names.{find_each}
use Rattle.ld_cluster.specs.declared.cluster.Cluster.{Cluster}
use Rattle.ld_cluster.specs.Standing.{config_of, state_of}
use Rattle.ld_cluster.specs.Steps.{IsStep, IsStepInPart}
use Rattle.ld_cluster.specs.Outcomes.{IsSame}
use Rattle.ld_cluster.specs.Calming.{AreOf, Begins, IsCut, IsDelivering, IsOf}

-- ---- what comes next ----

next_announces : (c : Config) (s : State) (l : ℕ) (ps : List Left) → next_of c s (Announces l ∷ ps) ≡ announces (last_of s l) ps (next_of c s ps)
unfolding next_of
next_announces c s l ps = refl

next_delivers : (c : Config) (s : State) (p : Left) (ps : List Left) → IsDelivering p → next_of c s (p ∷ ps) ≡ delivers_in (oldest_new s.network) p ps (next_of c s ps)
unfolding next_of
next_delivers c s (Settles l) ps h = refl
next_delivers c s Drains ps h = refl
next_delivers c s (Announces l) ps h = absurd h
next_delivers c s (Ticks l n) ps h = absurd h
next_delivers c s (Reads name) ps h = absurd h
next_delivers c s (Again name next) ps h = absurd h

next_ticks : (c : Config) (s : State) (l n : ℕ) (ps : List Left) → next_of c s (Ticks l n ∷ ps) ≡ goes (Takes (events.Tick n l)) (cond (cleans s n l) (Ticks l n ∷ ps) ps)
unfolding next_of
next_ticks c s l n ps = refl

next_reads : (c : Config) (s : State) (name : List ℕ) (ps : List Left) → next_of c s (Reads name ∷ ps) ≡ reads name (find_named name s.readers) ps (next_of c s ps)
unfolding next_of
next_reads c s name ps = refl

next_again : (c : Config) (s : State) (name : List ℕ) (next : ℕ) (ps : List Left) → next_of c s (Again name next ∷ ps) ≡ asks_again name next (find_named name s.readers) ps (next_of c s ps)
unfolding next_of
next_again c s name next ps = refl

-- ---- a step, and none ----

pub passes : (k : Cluster) (ls : List Line) (left rest : List Left) → next_of (config_of k) (state_of k) left ≡ next_of (config_of k) (state_of k) rest → Begins false k ls left rest k ls rest
passes k ls left rest e = record { next = e; same = refl; lines = refl; rest_is = refl }

pub cut_off : (k new : Cluster) (ls lm : List Line) (left rest : List Left) (m : Move) → next_of (config_of k) (state_of k) left ≡ goes m rest → IsStepInPart k new ls lm (moved (config_of k) (state_of k) m) (m ∷ []) → IsCut k ls left new lm
cut_off k new ls lm left rest m e t = inr (record { move = m; rest = rest; next = e; part = t })

-- the step was taken, and the rest is what is left then
pub took : (k new : Cluster) (ls lm : List Line) (left rest ps now : List Left) (m : Move) → next_of (config_of k) (state_of k) left ≡ goes m rest → now ≡ rest → IsStep k new ls lm (moved (config_of k) (state_of k) m) (m ∷ []) → Begins true k ls left ps new lm now
took k new ls lm left rest ps now m e r t = record { move = m; next = e ∙ ap (goes m) (sym r); step = t }

of_delivering : (c : Config) (p : Left) → IsDelivering p → IsOf c p
of_delivering c (Settles l) h = tt
of_delivering c Drains h = tt
of_delivering c (Announces l) h = absurd h
of_delivering c (Ticks l n) h = absurd h
of_delivering c (Reads name) h = absurd h
of_delivering c (Again name next) h = absurd h

pub of_more : (c : Config) (p : Left) (ps now : List Left) → IsDelivering p → AreOf c ps → now ≡ p ∷ ps → AreOf c now
of_more c p ps now d o e = subst (AreOf c) (sym e) (of_delivering c p d, o)

-- ---- a sequencer ----

module _ (k : Cluster) (ls : List Line) (l : ℕ) (ks : List (List ℕ × Client)) (a : AreSequencers (config_of k) (state_of k) ks) (ps : List Left) where
  announces_as : (o : Option (List ℕ)) → o ≡ live_of (last_in l None (sequencers_of ks)) → next_of (config_of k) (state_of k) (Announces l ∷ ps) ≡ announces_name o ps (next_of (config_of k) (state_of k) ps)
  announces_as o e = next_announces (config_of k) (state_of k) l ps ∙ (announced_last (config_of k) (state_of k) ks l ps (next_of (config_of k) (state_of k) ps) a ∙ ap (λ x. announces_name x ps (next_of (config_of k) (state_of k) ps)) (sym e))

  pub announces_none : None ≡ live_of (last_in l None (sequencers_of ks)) → Begins false k ls (Announces l ∷ ps) ps k ls ps
  announces_none e = passes k ls (Announces l ∷ ps) ps (announces_as None e)

  pub announces_one : (name : List ℕ) → Some name ≡ live_of (last_in l None (sequencers_of ks)) → next_of (config_of k) (state_of k) (Announces l ∷ ps) ≡ goes (Calms name) ps
  announces_one name e = announces_as (Some name) e

-- ---- a delivery ----

module _ (k : Cluster) (ls : List Line) (p : Left) (ps : List Left) (d : IsDelivering p) where
  pub delivers_none : None ≡ oldest_new (state_of k).network → Begins false k ls (p ∷ ps) ps k ls ps
  delivers_none e = passes k ls (p ∷ ps) ps (next_delivers (config_of k) (state_of k) p ps d ∙ ap (λ o. delivers_in o p ps (next_of (config_of k) (state_of k) ps)) (sym e))

  pub delivers_one : (i : ℕ) → Some i ≡ oldest_new (state_of k).network → next_of (config_of k) (state_of k) (p ∷ ps) ≡ goes (Takes (events.Deliver i)) (p ∷ ps)
  delivers_one i e = next_delivers (config_of k) (state_of k) p ps d ∙ ap (λ o. delivers_in o p ps (next_of (config_of k) (state_of k) ps)) (sym e)

-- ---- a tick ----

pub ticks_on : (k : Cluster) (l n : ℕ) (ps rest : List Left) (cleaned : Bool) → cleaned ≡ cleans (state_of k) n l → rest ≡ cond cleaned (Ticks l n ∷ ps) ps → next_of (config_of k) (state_of k) (Ticks l n ∷ ps) ≡ goes (Takes (events.Tick n l)) rest
ticks_on k l n ps rest cleaned e r = next_ticks (config_of k) (state_of k) l n ps ∙ ap (goes (Takes (events.Tick n l))) (ap (λ b. cond b (Ticks l n ∷ ps) ps) (sym e) ∙ sym r)

pub of_ticking : (c : Config) (l n : ℕ) (ps rest : List Left) (cleaned : Bool) → IsOf c (Ticks l n) → AreOf c ps → rest ≡ cond cleaned (Ticks l n ∷ ps) ps → AreOf c rest
of_ticking c l n ps rest true h o e = subst (AreOf c) (sym e) (h, o)
of_ticking c l n ps rest false h o e = subst (AreOf c) (sym e) o

-- ---- a reader ----

module _ (k : Cluster) (ls : List Line) (name : List ℕ) (fs : List (List ℕ × Following)) (a : (state_of k).readers ≡ readers_of fs) (ps : List Left) where
  found : find_named name (state_of k).readers ≡ option_map (λ (f : Following). f.reader) (find_named name fs)
  found = ap (find_named name) a ∙ find_each (λ (f : Following). f.reader) name fs

  abbrev other : Option Next
  other = next_of (config_of k) (state_of k) ps

  reads_as : (o : Option Following) → find_named name fs ≡ o → next_of (config_of k) (state_of k) (Reads name ∷ ps) ≡ reads name (option_map (λ (f : Following). f.reader) o) ps other
  reads_as o e = next_reads (config_of k) (state_of k) name ps ∙ ap (λ d. reads name d ps other) (found ∙ ap (option_map (λ (f : Following). f.reader)) e)

  again_as : (next : ℕ) (o : Option Following) → find_named name fs ≡ o → next_of (config_of k) (state_of k) (Again name next ∷ ps) ≡ asks_again name next (option_map (λ (f : Following). f.reader) o) ps other
  again_as next o e = next_again (config_of k) (state_of k) name next ps ∙ ap (λ d. asks_again name next d ps other) (found ∙ ap (option_map (λ (f : Following). f.reader)) e)

  none_of : (o : Option Following) → None ≡ option_map (λ (f : Following). f.reader.next) o → o ≡ None
  none_of None h = refl
  none_of (Some f) h = absurd cc

  one_of : (o : Option Following) (next : ℕ) → Some next ≡ option_map (λ (f : Following). f.reader.next) o → (f : Following) × (o ≡ Some f) × (f.reader.next ≡ next)
  one_of None next h = absurd cc
  one_of (Some f) next h = (f, refl, (let e : f.reader.next ≡ next = cc in e))

  pub reads_none : None ≡ option_map (λ (f : Following). f.reader.next) (find_named name fs) → Begins false k ls (Reads name ∷ ps) ps k ls ps
  reads_none e = passes k ls (Reads name ∷ ps) ps (reads_as None (none_of (find_named name fs) e))

  pub reads_finished : (next : ℕ) → Some next ≡ option_map (λ (f : Following). f.reader.next) (find_named name fs) → finished_in (find_named name fs) ≡ true → Begins false k ls (Reads name ∷ ps) ps k ls ps
  reads_finished next e h = let f = one_of (find_named name fs) next e in passes k ls (Reads name ∷ ps) ps (reads_as (Some f.0) f.1 ∙ ap (λ b. cond b other (polls_then name f.0.reader.next ps)) (sym (ap finished_in f.1) ∙ h))

  pub reads_on : (next : ℕ) → Some next ≡ option_map (λ (f : Following). f.reader.next) (find_named name fs) → finished_in (find_named name fs) ≡ false → next_of (config_of k) (state_of k) (Reads name ∷ ps) ≡ goes (Takes (events.Poll name)) (Drains ∷ Again name next ∷ ps)
  reads_on next e h = let f = one_of (find_named name fs) next e in
      reads_as (Some f.0) f.1 ∙ (ap (λ b. cond b other (polls_then name f.0.reader.next ps)) (sym (ap finished_in f.1) ∙ h) ∙ ap (λ n. polls_then name n ps) f.2)

  pub again_none : (next : ℕ) → None ≡ option_map (λ (f : Following). f.reader.next) (find_named name fs) → Begins false k ls (Again name next ∷ ps) ps k ls ps
  again_none next e = passes k ls (Again name next ∷ ps) ps (again_as next None (none_of (find_named name fs) e))

  pub again_same : (next now : ℕ) → Some now ≡ option_map (λ (f : Following). f.reader.next) (find_named name fs) → now ≡ next → Begins false k ls (Again name next ∷ ps) ps k ls ps
  again_same next now e h = let f = one_of (find_named name fs) now e in
      passes k ls (Again name next ∷ ps) ps (again_as next (Some f.0) f.1 ∙ ap (λ b. cond b other (polls_then name f.0.reader.next ps)) (ap (λ n. n == next) f.2 ∙ eq-eqb now next h))

  pub again_on : (next now : ℕ) → Some now ≡ option_map (λ (f : Following). f.reader.next) (find_named name fs) → (now ≡ next → ⊥) → next_of (config_of k) (state_of k) (Again name next ∷ ps) ≡ goes (Takes (events.Poll name)) (Drains ∷ Again name now ∷ ps)
  again_on next now e h = let f = one_of (find_named name fs) now e in
      again_as next (Some f.0) f.1 ∙ (ap (λ b. cond b other (polls_then name f.0.reader.next ps)) (ap (λ n. n == next) f.2 ∙ ne_eqb now next h) ∙ ap (λ n. polls_then name n ps) f.2)

-- what a poll leaves, or that there was no memory for it
pub polled_cut : (k new : Cluster) (ls lm : List Line) (left rest : List Left) (m : Move) → next_of (config_of k) (state_of k) left ≡ goes m rest
    → (IsSame k new × (lm ≡ ls)) ⊎ IsStepInPart k new ls lm (moved (config_of k) (state_of k) m) (m ∷ []) → IsCut k ls left new lm
polled_cut k new ls lm left rest m e (inl s) = inl s
polled_cut k new ls lm left rest m e (inr t) = cut_off k new ls lm left rest m e t

-- a poll was taken
pub polled : (k new : Cluster) (ls lm : List Line) (p : Left) (ps now : List Left) (name : List ℕ) (next : ℕ) → next_of (config_of k) (state_of k) (p ∷ ps) ≡ goes (Takes (events.Poll name)) (Drains ∷ Again name next ∷ ps)
    → now ≡ Drains ∷ Again name next ∷ ps → IsStep k new ls lm (moved (config_of k) (state_of k) (Takes (events.Poll name))) (Takes (events.Poll name) ∷ []) → Begins true k ls (p ∷ ps) ps new lm now
polled k new ls lm p ps now name next e r t = took k new ls lm (p ∷ ps) (Drains ∷ Again name next ∷ ps) ps now (Takes (events.Poll name)) e r t

pub of_polling : (c : Config) (ps now : List Left) (name : List ℕ) (next : ℕ) → AreOf c ps → now ≡ Drains ∷ Again name next ∷ ps → AreOf c now
of_polling c ps now name next o e = subst (AreOf c) (sym e) (tt, (tt, o))
