-- After the retry of a log's last sequencer that begins a calm, all that it waits for is under way.
use Rattle.std.proofs.Common.{◌≡◌, ℕ, inl, inr, refl, sym, subst, Bool, true, false, List, [], ◌∷◌, ◌++◌, Some}
use Rattle.ld_table.specs.Named.{find_named}
use Rattle.ld_config.specs.declared.config.Config.{Config}
use Rattle.ld_transcript.specs.declared.line.Line.TheVariants as lines
use Rattle.ld_msg.specs.declared.msg.Who.TheVariants as whos
use Rattle.ld_msg.specs.declared.msg.Body.{Body}
use Rattle.ld_msg.specs.Sequencer.{Sequencer, Acts, release_messages}
use Rattle.ld_machine.specs.State.{State, posted}
use Rattle.ld_machine.specs.World.{World, In, to_node_of}
use Rattle.ld_machine.specs.Step as Step
use Rattle.ld_machine.specs.Calm.{Calms, moves, moved, last_of, announcements}
use Rattle.ld_safety.proofs.Lists.{In_left, In_right}
use Rattle.ld_safety.proofs.Steps.{finish_In}
use Rattle.ld_safety.proofs.Events.{retry_call}
use Rattle.ld_served.proofs.Phases.{Unlimited}
use Rattle.ld_served.proofs.Stepping.{announcing}
use Rattle.ld_served.proofs.Last.{last_is}
use Rattle.ld_served.proofs.Waits.{spec_in}
use Rattle.ld_served.proofs.Losing.{recovery_fine}
use Rattle.ld_served.proofs.Free.{retries_lead}
use Rattle.ld_served.proofs.Kept.{Good}
use Rattle.ld_served.proofs.UnderWay.{UnderWay, retry_adds}
use Rattle.ld_served.proofs.Replying.{names}
use Rattle.ld_served.proofs.Going.{Goes}
use Rattle.ld_served.proofs.Retrying.{retry_out}

pub in_posted : (l b : ℕ) (x : ℕ × Body) (bs : List (ℕ × Body)) → In x bs → In (to_node_of l b x.0 x.1) (posted (whos.Sequencer b) l bs)
in_posted l b x [] i = absurd i
in_posted l b x (y ∷ bs) (inl e) = inl (λ j. to_node_of l b (e j).0 (e j).1)
in_posted l b x (y ∷ bs) (inr i) = inr (in_posted l b x bs i)

-- a close that failed is told
pub failed_told : (name : List ℕ) (old : Sequencer) (a : Acts) → (In (lines.RefusedRegister name) (Step.acted_lines name old a) → ⊥) → a.failed ≡ false
failed_told name old a h = by_failed a.failed refl where
  by_failed : (b : Bool) → a.failed ≡ b → b ≡ false
  by_failed false e = refl
  by_failed true e = absurd (h (In_right (lines.RefusedRegister name) (Step.numbered_lines (lines.RefusedPreempted name) a.preempts) _ (In_left (lines.RefusedRegister name) (Step.when a.failed (lines.RefusedRegister name)) _
      (subst (λ b. In (lines.RefusedRegister name) (Step.when b (lines.RefusedRegister name))) (sym e) (inl refl)))))

module _ (c : Config) (s : State) (A : Good c s) (l : ℕ) (q : List ℕ × Sequencer) (e : last_of s l ≡ Some q) (there : q.1.gone ≡ false) (u : Unlimited (moved c s (Calms q.0)).lines) where
  abbrev after : Sequencer
  after = (retry_call c s q.1).acts.sequencer

  named : find_named q.0 s.sequencers ≡ Some q.1
  named = (last_is s l q (names c s A).0 e).named

  -- what it sends is
  goes : (x : ℕ × Body) → In x ((retry_call c s q.1).acts.asks ++ (retry_call c s q.1).acts.stores) → UnderWay (moved c s (Calms q.0)).state.network (to_node_of q.1.log q.1.epoch x.0 x.1)
  goes x i = retry_adds c s (names c s A) A.of_run.known.places q.0 q.1 (to_node_of q.1.log q.1.epoch x.0 x.1) named there (announcing c s q.0 q.1 (λ d. In (to_node_of q.1.log q.1.epoch x.0 x.1) d.sends) named there
      (in_posted q.1.log q.1.epoch x _ (In_right x (retry_call c s q.1).acts.cleans _ (In_right x (release_messages q.1 after) _ (In_right x (announcements after) _ i)))))

  unfailed : (retry_call c s q.1).acts.failed ≡ false
  unfailed = failed_told q.0 q.1 (retry_call c s q.1).acts (λ i. u.register q.0 (finish_In (moves c s (Calms q.0)) _ (announcing c s q.0 q.1 (λ d. In (lines.RefusedRegister q.0) d.lines) named there i)))

  -- it stands under its name, and waits for what is under way
  pub announced_goes : Goes (UnderWay (moved c s (Calms q.0)).state.network) after
  announced_goes =
      let L = last_is s l q (names c s A).0 e in
      let v : World = record { state = s; made = A.of_run.made; joined = A.of_run.joined } in
      let R = retries_lead c A.of_run.steps v A.of_run.known A.healthy.nodes l q.0 q.1 L in
      retry_out c s.register q.1 (λ m. UnderWay (moved c s (Calms q.0)).state.network m) (spec_in c A.of_run.steps v A.of_run.known.lined q.0 q.1 named) R (A.free l q.0 q.1 L).free (λ w f. recovery_fine c A.of_run.steps v A.of_run.known.lined q.0 q.1 named w f)
      unfailed (λ x i. goes x (In_left x (retry_call c s q.1).acts.asks (retry_call c s q.1).acts.stores i)) (λ x i. goes x (In_right x (retry_call c s q.1).acts.asks (retry_call c s q.1).acts.stores i))
