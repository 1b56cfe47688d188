-- What each call by name does to a state whose sequencers these are.
use Rattle.std.proofs.Common.{◌≡◌, ℕ, false, List, [], Option, Some, None, option_map, refl, ap, sym, ◌∙◌, subst}
use Rattle.ld_table.specs.Named.{find_named, put_named}
use Rattle.ld_schedule.specs.declared.event.Event.TheVariants as events
use Rattle.ld_msg.specs.declared.msg.Msg.{Msg}
use Rattle.ld_msg.specs.Register.{Register, is_crowded}
use Rattle.ld_msg.specs.Sequencer.{Sequencer, appending, on_retry}
use Rattle.ld_config.specs.declared.config.Config.{Config}
use Rattle.ld_batch.specs.Batch.{packed}
use Rattle.ld_machine.specs.Config.{looks_at}
use Rattle.ld_machine.specs.State.{State, Done, unchanged, only_state, with_sequencer, sequencer_of}
use Rattle.ld_machine.specs.Step as step
use Rattle.ld_machine.specs.Calm.{Calms, calms_acts, moves}
use Rattle.ld_clients.specs.declared.client.Client.{Client}
use Rattle.ld_clients.specs.declared.outcome.Outcome.{Outcome}
use Rattle.ld_clients.specs.Names.{each_as}
use Rattle.ld_clients.specs.Serving.{faded, shown, log_in, sequencers_of, serving_in, HasRoom}
use Rattle.ld_clients.specs.Acting.{AreSequencers, IsActed, IsNamed, HasActed, Stays}
use Rattle.ld_clients.proofs.Fading.{faded_row, faded_reply, sequencer_of_faded}
use Rattle.ld_clients.proofs.Names.{put_each, find_each, find_each_some, find_each_none, none_seen, found_name}
use Rattle.ld_clients.proofs.Serving.{as_shown, sequencer_of_is, has_known}

module _ (c : Config) (s : State) (ks : List (List ℕ × Client)) (a : AreSequencers c s ks) where
  pub acted_as : (gs : List (List ℕ × Client)) (o : Outcome) (told : Register → Type 0) (d e : Done) → d ≡ e → IsActed s gs o told e → IsActed s gs o told d
  acted_as gs o told d e p r = subst (λ (x : Done). IsActed s gs o told x) (sym p) r

  pub nothing_done : (o : Outcome) (told : Register → Type 0) (d : Done) → d ≡ unchanged s → told s.register → o.lines.items ≡ [] → o.sends ≡ [] → IsActed s ks o told d
  nothing_done o told d p t ls ms = acted_as ks o told d (unchanged s) p record { state = refl; sequencers = a.sequencers; register = t; lines = ls; sends = ms }

  -- the sequencers with one of them written
  pub placed : (name : List ℕ) (g : Client) (gs : List (List ℕ × Client)) (o : Outcome) (told : Register → Type 0) (d : Done) → gs ≡ put_named name g ks → HasActed s name g o told d → IsActed s gs o told d
  placed name g gs o told d e h = record {
    state = h.state ∙ ap (λ x. record s { sequencers = x; register = d.state.register }) (sym (ap (λ (x : State). x.sequencers) h.state));
    sequencers = ap (λ (x : State). each_as faded x.sequencers) h.state
        ∙ (sym (put_each faded name h.sequencer s.sequencers) ∙ ((λ i. put_named name (h.seen i) (a.sequencers i)) ∙ (put_each shown name g ks ∙ ap sequencers_of (sym e))));
    register = h.register;
    lines = h.lines;
    sends = h.sends;
  }

  found_as : (name : List ℕ) (k : Client) → find_named name ks ≡ Some k → option_map faded (find_named name s.sequencers) ≡ Some (shown k)
  found_as name k e = sym (find_each faded name s.sequencers) ∙ (ap (find_named name) a.sequencers ∙ find_each_some shown name k ks e)

  pub none_as : (name : List ℕ) → find_named name ks ≡ None → find_named name s.sequencers ≡ None
  none_as name e = none_seen faded (find_named name s.sequencers) (sym (find_each faded name s.sequencers) ∙ (ap (find_named name) a.sequencers ∙ find_each_none shown name ks e))

  pub named : (name : List ℕ) (k : Client) → find_named name ks ≡ Some k → IsNamed c s name k
  named name k e = record { found = found_as name k e; knows = a.logs name k e }

  -- the register has room for its log
  pub room_for : (name : List ℕ) (k : Client) → find_named name ks ≡ Some k → HasRoom c s.register → is_crowded s.register (log_in k) ≡ false
  room_for name k e r = r (log_in k) (has_known c k (a.logs name k e))

  module _ (name : List ℕ) (f : Sequencer → Done) (o : Outcome) (told : Register → Type 0) where
    nobody : find_named name ks ≡ None → told s.register → o.lines.items ≡ [] → o.sends ≡ [] → IsActed s ks o told (step.live s name f)
    nobody e t ls ms = nothing_done o told _ (ap (λ x. step.on_live s x f) (none_as name e)) t ls ms

    somebody : (k g : Client) (gs : List (List ℕ × Client)) → find_named name ks ≡ Some k → gs ≡ put_named name g ks → HasActed s name g o told (step.on_live s (Some (shown k)) f) → IsActed s gs o told (step.live s name f)
    somebody k g gs e p h = acted_as gs o told _ _ (faded_row s (find_named name s.sequencers) (shown k) f (found_as name k e)) (placed name g gs o told _ p h)

  module _ (name : List ℕ) (o : Outcome) where
    pub append_nobody : (p : List ℕ) → find_named name ks ≡ None → o.lines.items ≡ [] → o.sends ≡ [] → IsActed s ks o (Stays s) (step.happens c s (events.Append name p))
    unfolding step.happens
    append_nobody p e ls ms = nobody name (λ q. step.append_done s name q p (appending q p)) o (Stays s) e refl ls ms

    pub append_somebody : (p : List ℕ) (k g : Client) (gs : List (List ℕ × Client)) → find_named name ks ≡ Some k → gs ≡ put_named name g ks
        → HasActed s name g o (Stays s) (step.on_live s (Some (shown k)) (λ q. step.append_done s name q p (appending q p))) → IsActed s gs o (Stays s) (step.happens c s (events.Append name p))
    unfolding step.happens
    append_somebody p k g gs e q h = somebody name (λ q. step.append_done s name q p (appending q p)) o (Stays s) k g gs e q h

    -- a batch is appended as one payload
    pub batch_as : (ms : List (List ℕ)) (p : List ℕ) (gs : List (List ℕ × Client)) → p ≡ packed ms → IsActed s gs o (Stays s) (step.happens c s (events.Append name p)) → IsActed s gs o (Stays s) (step.happens c s (events.Batch name ms))
    unfolding step.happens
    batch_as ms p gs e h = subst (λ x. IsActed s gs o (Stays s) (step.live s name (λ q. step.append_done s name q x (appending q x)))) e h

    pub trim_nobody : (point : ℕ) → find_named name ks ≡ None → o.lines.items ≡ [] → o.sends ≡ [] → IsActed s ks o (Stays s) (step.happens c s (events.Trim name point))
    unfolding step.happens
    trim_nobody point e ls ms = nobody name (λ q. step.trim_done c s name q point) o (Stays s) e refl ls ms

    pub trim_somebody : (point : ℕ) (k g : Client) (gs : List (List ℕ × Client)) → find_named name ks ≡ Some k → gs ≡ put_named name g ks
        → HasActed s name g o (Stays s) (step.on_live s (Some (shown k)) (λ q. step.trim_done c s name q point)) → IsActed s gs o (Stays s) (step.happens c s (events.Trim name point))
    unfolding step.happens
    trim_somebody point k g gs e q h = somebody name (λ q. step.trim_done c s name q point) o (Stays s) k g gs e q h

    pub retry_nobody : (told : Register → Type 0) → find_named name ks ≡ None → told s.register → o.lines.items ≡ [] → o.sends ≡ [] → IsActed s ks o told (step.happens c s (events.Retry name))
    unfolding step.happens
    retry_nobody told e t ls ms = nobody name (λ q. step.acted c s name q (on_retry (looks_at c s.register q.log) q)) o told e t ls ms

    pub retry_somebody : (told : Register → Type 0) (k g : Client) (gs : List (List ℕ × Client)) → find_named name ks ≡ Some k → gs ≡ put_named name g ks
        → HasActed s name g o told (step.on_live s (Some (shown k)) (λ q. step.acted c s name q (on_retry (looks_at c s.register q.log) q))) → IsActed s gs o told (step.happens c s (events.Retry name))
    unfolding step.happens
    retry_somebody told k g gs e q h = somebody name (λ q. step.acted c s name q (on_retry (looks_at c s.register q.log) q)) o told k g gs e q h

    pub calm_nobody : (told : Register → Type 0) → find_named name ks ≡ None → told s.register → o.lines.items ≡ [] → o.sends ≡ [] → IsActed s ks o told (moves c s (Calms name))
    calm_nobody told e t ls ms = nobody name (λ q. calms_acts c s name q (on_retry (looks_at c s.register q.log) q)) o told e t ls ms

    pub calm_somebody : (told : Register → Type 0) (k g : Client) (gs : List (List ℕ × Client)) → find_named name ks ≡ Some k → gs ≡ put_named name g ks
        → HasActed s name g o told (step.on_live s (Some (shown k)) (λ q. calms_acts c s name q (on_retry (looks_at c s.register q.log) q))) → IsActed s gs o told (moves c s (Calms name))
    calm_somebody told k g gs e q h = somebody name (λ q. calms_acts c s name q (on_retry (looks_at c s.register q.log) q)) o told k g gs e q h

    pub drop_nobody : find_named name ks ≡ None → o.lines.items ≡ [] → o.sends ≡ [] → IsActed s ks o (Stays s) (step.happens c s (events.Drop name))
    unfolding step.happens
    drop_nobody e ls ms = nobody name (λ q. only_state (with_sequencer s name (step.dropped q))) o (Stays s) e refl ls ms

    pub drop_somebody : (k g : Client) (gs : List (List ℕ × Client)) → find_named name ks ≡ Some k → gs ≡ put_named name g ks
        → HasActed s name g o (Stays s) (step.on_live s (Some (shown k)) (λ q. only_state (with_sequencer s name (step.dropped q)))) → IsActed s gs o (Stays s) (step.happens c s (events.Drop name))
    unfolding step.happens
    drop_somebody k g gs e q h = somebody name (λ q. only_state (with_sequencer s name (step.dropped q))) o (Stays s) k g gs e q h

  -- ---- a message ----

  sent_to : (m : Msg) (epoch : ℕ) (x : Option (List ℕ × Client)) → serving_in m.log epoch ks ≡ x → step.to_sequencer c s m (sequencer_of m.log epoch s.sequencers) ≡ step.to_sequencer c s m (option_map as_shown x)
  sent_to m epoch x e = faded_reply c s m (sequencer_of m.log epoch s.sequencers)
      ∙ ap (step.to_sequencer c s m) (sym (sequencer_of_faded m.log epoch s.sequencers) ∙ (ap (sequencer_of m.log epoch) a.sequencers ∙ (sequencer_of_is m.log epoch ks ∙ ap (option_map as_shown) e)))

  pub reply_nobody : (m : Msg) (epoch : ℕ) (o : Outcome) (told : Register → Type 0) → serving_in m.log epoch ks ≡ None → told s.register → o.lines.items ≡ [] → o.sends ≡ []
      → IsActed s ks o told (step.to_sequencer c s m (sequencer_of m.log epoch s.sequencers))
  reply_nobody m epoch o told e t ls ms = nothing_done o told _ (sent_to m epoch None e) t ls ms

  pub reply_somebody : (m : Msg) (epoch : ℕ) (found name : List ℕ) (gs : List (List ℕ × Client)) (o : Outcome) (told : Register → Type 0) → Some found ≡ option_map (λ e. e.0) (serving_in m.log epoch ks) → name ≡ found
      → ((e : List ℕ × Client) → serving_in m.log epoch ks ≡ Some e → find_named e.0 ks ≡ Some e.1)
      → ((k : Client) → find_named name ks ≡ Some k → IsActed s gs o told (step.to_live c s name (shown k) m))
      → IsActed s gs o told (step.to_sequencer c s m (sequencer_of m.log epoch s.sequencers))
  reply_somebody m epoch found name gs o told e n u h =
      let p = found_name found name ks (serving_in m.log epoch ks) e n u in
      let k : Client = p.0 in
      acted_as gs o told _ _ (sent_to m epoch (Some (name, k)) p.1) (h k p.2)
