-- The steps of a sequencer.
use Rattle.std.proofs.Common.{◌≡◌, ℕ, Bool, true, false, List, [], ◌∷◌, ◌++◌, Option, Some, None, refl, ap, ◌∙◌, nat_lt}
use Rattle.ld_table.specs.Named.{find_named}
use Rattle.ld_config.specs.declared.config.Config.{Config}
use Rattle.ld_schedule.specs.declared.event.Event.TheVariants as events
use Rattle.ld_transcript.specs.declared.line.Line.{Line}
use Rattle.ld_transcript.specs.declared.line.Line.TheVariants as lines
use Rattle.ld_msg.specs.declared.msg.Who.TheVariants as whos
use Rattle.ld_msg.specs.declared.msg.Msg.{Msg}
use Rattle.ld_msg.specs.Register.{Register, Answer, Granted, AtLimit, Behind, Overtaken, Fails}
use Rattle.ld_msg.specs.Sequencer as sequencer
use Rattle.ld_msg.specs.Sequencer.{Sequencer, Acts, Appending, released_of, rose}
use Rattle.ld_machine.specs.Config.{looks_at}
use Rattle.ld_machine.specs.State.{State, Done, unchanged}
use Rattle.ld_machine.specs.Step.{happens, numbered_lines, when, acted_lines, acted, on_live, append_done, trim_done, activates_by, to_sequencer}
use Rattle.ld_rounds.specs.Drives.{own_lines}
use Rattle.ld_rounds.proofs.Clients.{IsClient, client_if, nothing_client, posted_asks}
use Rattle.ld_rounds.proofs.Steps.{own-append}

-- ---- lines ----

own_both : (xs ys : List Line) → own_lines xs ≡ xs → own_lines ys ≡ ys → own_lines (xs ++ ys) ≡ xs ++ ys
own_both xs ys h k = own-append xs ys ∙ (λ i. h i ++ k i)

own_preempts : (name : List ℕ) (ns : List ℕ) → own_lines (numbered_lines (lines.RefusedPreempted name) ns) ≡ numbered_lines (lines.RefusedPreempted name) ns
own_preempts name [] = refl
own_preempts name (n ∷ ns) = ap (λ l. lines.RefusedPreempted name n ∷ l) (own_preempts name ns)

own_acked : (name : List ℕ) (ns : List ℕ) → own_lines (numbered_lines (lines.Acked name) ns) ≡ numbered_lines (lines.Acked name) ns
own_acked name [] = refl
own_acked name (n ∷ ns) = ap (λ l. lines.Acked name n ∷ l) (own_acked name ns)

own_clean : (name : List ℕ) (ns : List ℕ) → own_lines (numbered_lines (lines.Clean name) ns) ≡ numbered_lines (lines.Clean name) ns
own_clean name [] = refl
own_clean name (n ∷ ns) = ap (λ l. lines.Clean name n ∷ l) (own_clean name ns)

own_refused : (name : List ℕ) (b : Bool) → own_lines (when b (lines.RefusedRegister name)) ≡ when b (lines.RefusedRegister name)
own_refused name true = refl
own_refused name false = refl

own_released : (name : List ℕ) (n : ℕ) (b : Bool) → own_lines (when b (lines.Released name n)) ≡ when b (lines.Released name n)
own_released name n true = refl
own_released name n false = refl

own_acted : (name : List ℕ) (old : Sequencer) (a : Acts) → own_lines (acted_lines name old a) ≡ acted_lines name old a
own_acted name old a =
    own_both _ _ (own_preempts name a.preempts) (own_both _ _ (own_refused name a.failed) (own_both _ _ (own_acked name a.acked)
    (own_both _ _ (own_clean name a.closed) (own_released name (released_of a.sequencer) (rose old a.sequencer)))))

-- ---- steps ----

acted_client : (c : Config) (s : State) (name : List ℕ) (old : Sequencer) (a : Acts) → IsClient s (acted c s name old a)
acted_client c s name old a = record { nodes = refl; network = refl; own = own_acted name old (sequencer.called (looks_at c s.register old.log) s.register a a.tries).acts; asks = posted_asks (whos.Sequencer old.epoch) old.log _ refl }

live_client : (s : State) (o : Option Sequencer) (f : Sequencer → Done) → ((q : Sequencer) → IsClient s (f q)) → IsClient s (on_live s o f)
live_client s None f h = nothing_client s
live_client s (Some q) f h = client_if q.gone s (unchanged s) (f q) (nothing_client s) (h q)

appending_client : (s : State) (name : List ℕ) (q : Sequencer) (p : List ℕ) (a : Appending) → IsClient s (append_done s name q p a)
appending_client s name q p sequencer.TooLong = record { nodes = refl; network = refl; own = refl; asks = tt }
appending_client s name q p (sequencer.Preempted k) = record { nodes = refl; network = refl; own = refl; asks = tt }
appending_client s name q p sequencer.EpochFull = record { nodes = refl; network = refl; own = refl; asks = tt }
appending_client s name q p sequencer.WindowFull = record { nodes = refl; network = refl; own = refl; asks = tt }
appending_client s name q p sequencer.Numbered = record { nodes = refl; network = refl; own = refl; asks = posted_asks (whos.Sequencer q.epoch) q.log _ refl }

pub append_client : (c : Config) (s : State) (name p : List ℕ) → IsClient s (happens c s (events.Append name p))
unfolding happens
append_client c s name p = live_client s (find_named name s.sequencers) _ (λ q. appending_client s name q p _)

trimming_client : (c : Config) (s : State) (name : List ℕ) (q : Sequencer) (point : ℕ) → IsClient s (trim_done c s name q point)
trimming_client c s name q point = client_if (nat_lt (released_of q) point) s _ _ (record { nodes = refl; network = refl; own = refl; asks = tt }) (record { nodes = refl; network = refl; own = refl; asks = posted_asks (whos.Sequencer q.epoch) q.log _ refl })

pub trim_client : (c : Config) (s : State) (name : List ℕ) (point : ℕ) → IsClient s (happens c s (events.Trim name point))
unfolding happens
trim_client c s name point = live_client s (find_named name s.sequencers) _ (λ q. trimming_client c s name q point)

pub retry_client : (c : Config) (s : State) (name : List ℕ) → IsClient s (happens c s (events.Retry name))
unfolding happens
retry_client c s name = live_client s (find_named name s.sequencers) _ (λ q. acted_client c s name q _)

activates_client : (c : Config) (s : State) (name : List ℕ) (l : ℕ) (r : Register) (a : Answer) → IsClient s (activates_by c s name l r a)
activates_client c s name l r Granted = record { nodes = refl; network = refl; own = refl; asks = posted_asks (whos.Sequencer _) l _ refl }
activates_client c s name l r AtLimit = record { nodes = refl; network = refl; own = refl; asks = tt }
activates_client c s name l r (Behind lce) = nothing_client s
activates_client c s name l r (Overtaken k) = nothing_client s
activates_client c s name l r Fails = record { nodes = refl; network = refl; own = refl; asks = tt }

pub activate_client : (c : Config) (s : State) (name : List ℕ) (l : ℕ) → IsClient s (happens c s (events.Activate name l))
unfolding happens
activate_client c s name l = client_if _ s _ _ (activates_client c s name l _ _) (nothing_client s)

pub reply_client : (c : Config) (s : State) (m : Msg) (o : Option (List ℕ × Sequencer)) → IsClient s (to_sequencer c s m o)
reply_client c s m None = nothing_client s
reply_client c s m (Some q) = client_if q.1.gone s (unchanged s) _ (nothing_client s) (acted_client c s q.0 q.1 _)
