-- What an activation does to a state whose sequencers these are.
use Rattle.std.proofs.Common.{◌≡◌, ◌≢◌, ◌⊎◌, inl, inr, ℕ, ◌+◌, Bool, true, false, not, ◌&&◌, ◌||◌, List, [], ◌∷◌, ◌++◌, Option, Ok, Err, IsErrOf, is_some, refl, ap, sym, ◌∙◌, subst, nat_lt, nat_le, if◌then◌else◌}
use Rattle.std.specs.declared.result.Result.{Result}
use Rattle.std.specs.Option.{unwrap_or}
use Rattle.ld_table.specs.Named.{find_named, put_named}
use Rattle.ld_table.proofs.Laws.{find-put_same}
use Rattle.ld_schedule.specs.declared.event.Event.TheVariants as events
use Rattle.ld_transcript.specs.declared.line.Line.TheVariants as lines
use Rattle.ld_ids.specs.declared.set.Spec.{Spec}
use Rattle.ld_msg.specs.declared.msg.Who.TheVariants as whos
use Rattle.ld_msg.specs.declared.msg.Msg.{Msg}
use Rattle.ld_msg.specs.Register.{Register, Epochs, Changed, Answer, View, Granted, AtLimit, Behind, Overtaken, Fails, epoch_limit, journal_limit, record_length, no_epochs, epochs_of, next_epoch, with_epochs, lce_of, falls, is_made, made, unmade, change, activate, is_crowded, look}
use Rattle.ld_msg.specs.Sequencer.{activated, recovery_asks}
use Rattle.ld_config.specs.declared.config.Config.{Config}
use Rattle.ld_machine.specs.Config.{first_spec, has_log}
use Rattle.ld_machine.specs.State.{State, Done, with_line, with_register, with_sequencer, posted}
use Rattle.ld_machine.specs.Step as step
use Rattle.ld_register.specs.Calls.{ended, is_full, activation_length, after_activate, next_told, activated as answered}
use Rattle.ld_register.specs.declared.register.Grant.{Grant}
use Rattle.ld_register.specs.declared.fault.RegisterFault.{RegisterFault}
use Rattle.ld_register.specs.declared.fault.RegisterFault.TheVariants as registers
use Rattle.ld_sequencer.specs.declared.origin.Origin.{Origin}
use Rattle.ld_sequencer.specs.declared.fault.SequencerFault.{SequencerFault}
use Rattle.ld_sequencer.specs.declared.fault.SequencerFault.TheVariants as faults
use Rattle.ld_sequencer.specs.Whole.{Whole, origin_of, first_asks, looks_after, IsActive, Activates}
use Rattle.ld_clients.specs.declared.client.Client.{Client}
use Rattle.ld_clients.specs.declared.client.Client.TheVariants.{Live}
use Rattle.ld_clients.specs.declared.outcome.Outcome.{Outcome}
use Rattle.ld_clients.specs.Serving.{faded, shown, IsWhole, KnowsIn, KnowTheirLogs, HasRoom}
use Rattle.ld_clients.specs.Acting.{AreSequencers, IsActed, HasActed}
use Rattle.ld_clients.specs.Refusing.{fault_lines}
use Rattle.ld_clients.proofs.Names.{some_each, all_put}
use Rattle.ld_clients.proofs.Rows.{if_yes, if_not, and_yes, no_and, and_no}
use Rattle.ld_clients.proofs.Placing.{acted_as, nothing_done, placed}

-- ---- the register's change ----

changed_if : (b : Bool) (x y : Changed) (l v : ℕ) → lce_of x.register l ≡ v → lce_of y.register l ≡ v → lce_of (if b then x else y).register l ≡ v
changed_if true x y l v h k = h
changed_if false x y l v h k = k

register_if : (b : Bool) (x y : Register) (l v : ℕ) → lce_of x l ≡ v → lce_of y l ≡ v → lce_of (if b then x else y) l ≡ v
register_if true x y l v h k = h
register_if false x y l v h k = k

made_lce : (r : Register) (l : ℕ) (spec : Spec) → lce_of (made r (with_epochs r l (next_epoch (epochs_of r l) spec)) 13) l ≡ lce_of r l
made_lce r l spec = ap (λ (o : Option Epochs). (unwrap_or o no_epochs).lce) (find-put_same l l (next_epoch (epochs_of r l) spec) r.logs refl)

-- no epoch is closed by an activation
kept_lce : (r : Register) (l : ℕ) (spec : Spec) → lce_of (activate r l spec).register l ≡ lce_of r l
unfolding activate change
kept_lce r l spec = changed_if (nat_le epoch_limit (epochs_of r l).epoch) (record { register = r; answer = AtLimit }) (change r (with_epochs r l (next_epoch (epochs_of r l) spec)) 13) l (lce_of r l) refl
    (register_if (nat_lt journal_limit (r.length + record_length 13)) r (if is_made r.armed then made r (with_epochs r l (next_epoch (epochs_of r l) spec)) 13 else unmade r) l (lce_of r l) refl
    (register_if (is_made r.armed) (made r (with_epochs r l (next_epoch (epochs_of r l) spec)) 13) (unmade r) l (lce_of r l) (made_lce r l spec) refl))

-- it answers a close
abbrev of_close : Answer → Bool
of_close Granted = false
of_close AtLimit = false
of_close (Behind lce) = true
of_close (Overtaken epoch) = true
of_close Fails = false

fails_if : (b : Bool) → of_close (if b then Fails else Granted) ≡ false
fails_if true = refl
fails_if false = refl

answer_if : (b : Bool) (r : Register) (y : Changed) → of_close y.answer ≡ false → of_close (if b then record { register = r; answer = AtLimit } else y).answer ≡ false
answer_if true r y n = refl
answer_if false r y n = n

-- an activation is neither behind nor overtaken
no_close : (r : Register) (l : ℕ) (spec : Spec) → of_close (activate r l spec).answer ≡ false
unfolding activate change
no_close r l spec = answer_if (nat_le epoch_limit (epochs_of r l).epoch) r (change r (with_epochs r l (next_epoch (epochs_of r l) spec)) 13) (fails_if (nat_lt journal_limit (r.length + record_length 13) || falls r.armed))

not_so : (r : Register) (l : ℕ) (spec : Spec) (x : Answer) → (activate r l spec).answer ≡ x → of_close x ≡ true → ⊥
not_so r l spec x e h = let wrong : true ≡ false = sym h ∙ (sym (ap of_close e) ∙ no_close r l spec) in cc

-- ---- what it answers ----

granted_only : (origin : Origin) (spec : Spec) (looks : ℕ → View) (old new : List Msg) (w : Whole) (a : Answer) (full : Bool) (limit : RegisterFault) (g : Grant) → Activates origin spec looks old new (Ok w) (ended a full limit g) → (a ≡ Granted) × IsActive origin spec looks g w old new
granted_only origin spec looks old new w Granted full limit g h = (refl, h)
granted_only origin spec looks old new w AtLimit full limit g h = absurd h
granted_only origin spec looks old new w (Behind lce) full limit g h = absurd h
granted_only origin spec looks old new w (Overtaken epoch) full limit g h = absurd h
granted_only origin spec looks old new w Fails true limit g h = absurd h
granted_only origin spec looks old new w Fails false limit g h = absurd h

pub active_whole : (origin : Origin) (spec : Spec) (looks : ℕ → View) (g : Grant) (w : Whole) (old new : List Msg) → IsActive origin spec looks g w old new → IsWhole w
unfolding activated
active_whole origin spec looks g w old new h = record {
  log = ap (λ (x : Whole). x.sequencer.log) h.value ∙ ap (λ (x : Whole). x.sequencer.spec.log) (sym h.value);
  live = ap (λ (x : Whole). x.sequencer.gone) h.value;
}

active_log : (origin : Origin) (spec : Spec) (looks : ℕ → View) (g : Grant) (w : Whole) (old new : List Msg) → IsActive origin spec looks g w old new → w.sequencer.log ≡ spec.log
unfolding activated
active_log origin spec looks g w old new h = ap (λ (x : Whole). x.sequencer.log) h.value

pub know_active : (c : Config) (ks : List (List ℕ × Client)) (name : List ℕ) (l : ℕ) (spec first : Spec) (looks : ℕ → View) (g : Grant) (w : Whole) (old new : List Msg) → first ≡ first_spec c l → has_log c l ≡ true → spec.log ≡ l
    → IsActive (origin_of c.nodes first) spec looks g w old new → KnowTheirLogs c ks → KnowTheirLogs c (put_named name (Live w) ks)
know_active c ks name l spec first looks g w old new f t m h k =
    let e : w.sequencer.log ≡ l = active_log (origin_of c.nodes first) spec looks g w old new h ∙ m in
    all_put (KnowsIn c) name (Live w) ks
    record {
      nodes = ap (λ (x : Whole). x.origin.nodes) h.value;
      first = ap (λ (x : Whole). x.origin.first) h.value ∙ (f ∙ ap (first_spec c) (sym e));
      there = ap (has_log c) e ∙ t;
    } k

module _ (c : Config) (s : State) (ks : List (List ℕ × Client)) (a : AreSequencers c s ks) (name : List ℕ) (o : Outcome) (told : Register → Type 0) where
  taken_as : is_some (find_named name s.sequencers) ≡ is_some (find_named name ks)
  taken_as = sym (some_each faded name s.sequencers) ∙ (ap (λ x. is_some (find_named name x)) a.sequencers ∙ some_each shown name ks)

  pub taken_done : (l : ℕ) → is_some (find_named name ks) ≡ true → told s.register → o.lines.items ≡ [] → o.sends ≡ [] → IsActed s ks o told (step.happens c s (events.Activate name l))
  unfolding step.happens
  taken_done l e t ls ms = nothing_done c s ks a o told _ (if_not (has_log c l && not (is_some (find_named name s.sequencers))) _ _ (and_no (has_log c l) _ (ap not (taken_as ∙ e)))) t ls ms

  pub unknown_done : (l : ℕ) → has_log c l ≡ false → told s.register → o.lines.items ≡ [] → o.sends ≡ [] → IsActed s ks o told (step.happens c s (events.Activate name l))
  unfolding step.happens
  unknown_done l e t ls ms = nothing_done c s ks a o told _ (if_not (has_log c l && not (is_some (find_named name s.sequencers))) _ _ (no_and (has_log c l) _ e)) t ls ms

  module _ (spec first : Spec) (first_is : first ≡ first_spec c spec.log) (known : has_log c spec.log ≡ true) (set : spec ≡ step.spec_set c s spec.log) (free : is_some (find_named name ks) ≡ false) (room : HasRoom c s.register) where
    abbrev changed : Changed
    changed = activate s.register spec.log spec

    abbrev origin : Origin
    origin = origin_of c.nodes first

    new_row : step.happens c s (events.Activate name spec.log) ≡ step.activates c s name spec.log changed
    unfolding step.happens
    new_row = if_yes (has_log c spec.log && not (is_some (find_named name s.sequencers))) _ _ (and_yes (has_log c spec.log) _ known (ap not (taken_as ∙ free)))
        ∙ ap (λ (x : Spec). step.activates c s name spec.log (activate s.register spec.log x)) (sym set)

    after_if : (b : Bool) → b ≡ false → (if b then s.register else changed.register) ≡ changed.register
    after_if true e = absurd cc
    after_if false e = refl

    answered_if : (b : Bool) (x : Result Grant RegisterFault) → b ≡ false → (if b then Err registers.LogLimit else x) ≡ x
    answered_if true x e = absurd cc
    answered_if false x e = refl

    after_is : after_activate s.register spec ≡ changed.register
    after_is = after_if (is_crowded s.register spec.log) (room spec.log known)

    -- what is granted, and what looks show, where the register is then this one
    abbrev grant_at : Register → Grant
    grant_at r = record { epoch = (epochs_of r spec.log).epoch; lce = lce_of s.register spec.log; next = next_told r spec.log }

    abbrev looks_of : Register → ℕ → View
    looks_of r e = look first r spec.log e

    abbrev full : Bool
    full = is_full s.register activation_length

    abbrev ends_at : Register → Result Grant RegisterFault
    ends_at r = ended changed.answer full registers.EpochLimit (grant_at r)

    answer_is : answered s.register spec ≡ ends_at (after_activate s.register spec)
    answer_is = answered_if (is_crowded s.register spec.log) _ (room spec.log known)

    -- the activation by the register's answer
    by_answer : (old new : List Msg) (r : Result Whole SequencerFault) → Activates origin spec (λ e. looks_after first spec s.register e) old new r (answered s.register spec) → Activates origin spec (λ e. looks_of changed.register e) old new r (ends_at changed.register)
    by_answer old new r h = subst (λ (x : Register). Activates origin spec (λ e. looks_of x e) old new r (ends_at x)) after_is
        (subst (λ (x : Result Grant RegisterFault). Activates origin spec (λ e. looks_after first spec s.register e) old new r x) answer_is h)

    -- ---- granted ----

    abbrev grant : Grant
    grant = grant_at changed.register

    abbrev looks : ℕ → View
    looks e = looks_of changed.register e

    abbrev begun : (ℕ → View) → Spec → ℕ → Done
    begun f p lce = record {
      state = with_register (with_sequencer s name (activated f p spec.log grant.epoch lce)) changed.register;
      lines = lines.Active name grant.epoch ∷ [];
      sends = posted (whos.Sequencer grant.epoch) spec.log (recovery_asks f (activated f p spec.log grant.epoch lce) lce);
    }

    begun_done : (w : Whole) (old new : List Msg) (own : List ℕ) → IsActive origin spec (λ e. looks e) grant w old new → told changed.register → old ≡ [] → own ≡ name → o.lines.items ≡ lines.Active own w.sequencer.epoch ∷ [] → o.sends ≡ new
        → HasActed s name (Live w) o told (begun (λ e. looks e) spec grant.lce)
    unfolding activated
    begun_done w old new own h t b n ls ms = record {
      sequencer = activated (λ e. looks e) spec spec.log grant.epoch grant.lce;
      seen = ap (λ (x : Whole). x.sequencer) (sym h.value);
      state = refl;
      register = t;
      lines = ls ∙ (λ i. lines.Active (n i) (ap (λ (x : Whole). x.sequencer.epoch) h.value i) ∷ []);
      sends = ms ∙ (h.sent ∙ (ap (λ x. x ++ first_asks (λ e. looks e) w) b ∙ ap (first_asks (λ e. looks e)) h.value));
    }

    granted_row : changed.answer ≡ Granted → step.happens c s (events.Activate name spec.log) ≡ begun (λ e. looks e) spec grant.lce
    granted_row e = new_row ∙ (ap (step.activates_by c s name spec.log changed.register) e
        ∙ (λ i. begun (λ e. look (sym first_is i) changed.register spec.log e) (sym set i) (kept_lce s.register spec.log spec i)))

    pub granted_done : (w : Whole) (old new : List Msg) (own : List ℕ) (gs : List (List ℕ × Client)) (before : Type 0)
        → (IsErrOf {E = SequencerFault} (Ok w) faults.NoMemory × before) ⊎ (Activates origin spec (λ e. looks_after first spec s.register e) old new (Ok w) (answered s.register spec) × told (after_activate s.register spec))
        → old ≡ [] → own ≡ name → gs ≡ put_named own (Live w) ks → o.lines.items ≡ lines.Active own w.sequencer.epoch ∷ [] → o.sends ≡ new → IsActed s gs o told (step.happens c s (events.Activate name spec.log))
    granted_done w old new own gs before (inl x) b n g ls ms = let e : Ok w ≡ Err faults.NoMemory = x.0 in absurd cc
    granted_done w old new own gs before (inr x) b n g ls ms =
        let p = granted_only origin spec (λ e. looks e) old new w changed.answer full registers.EpochLimit grant (by_answer old new (Ok w) x.0) in
        acted_as c s ks a gs o told _ _ (granted_row p.0)
        (placed c s ks a name (Live w) gs o told _ (g ∙ ap (λ y. put_named y (Live w) ks) n)
        (begun_done w old new own p.1 (subst told after_is x.1) b n ls ms))

    -- ---- refused ----

    refused_as : (old new : List Msg) (fault : SequencerFault) (x : Answer) (f : Bool) → changed.answer ≡ x → Activates origin spec (λ e. looks e) old new (Err fault) (ended x f registers.EpochLimit grant) → told changed.register
        → old ≡ [] → o.lines.items ≡ fault_lines name fault → o.sends ≡ new → IsActed s ks o told (step.happens c s (events.Activate name spec.log))
    refused_as old new fault Granted f e h t b ls ms = absurd h
    refused_as old new fault AtLimit f e h t b ls ms = acted_as c s ks a ks o told _ (with_line (with_register s changed.register) (lines.RefusedEpochLimit name)) (new_row ∙ ap (step.activates_by c s name spec.log changed.register) e)
        record { state = refl; sequencers = a.sequencers; register = t; lines = ls ∙ ap (fault_lines name) h.0; sends = ms ∙ (h.1 ∙ b) }
    refused_as old new fault (Behind lce) f e h t b ls ms = absurd (not_so s.register spec.log spec (Behind lce) e refl)
    refused_as old new fault (Overtaken epoch) f e h t b ls ms = absurd (not_so s.register spec.log spec (Overtaken epoch) e refl)
    refused_as old new fault Fails true e h t b ls ms = acted_as c s ks a ks o told _ (with_line (with_register s changed.register) (lines.RefusedRegister name)) (new_row ∙ ap (step.activates_by c s name spec.log changed.register) e)
        record { state = refl; sequencers = a.sequencers; register = t; lines = ls ∙ ap (fault_lines name) h.0; sends = ms ∙ (h.1 ∙ b) }
    refused_as old new fault Fails false e h t b ls ms = acted_as c s ks a ks o told _ (with_line (with_register s changed.register) (lines.RefusedRegister name)) (new_row ∙ ap (step.activates_by c s name spec.log changed.register) e)
        record { state = refl; sequencers = a.sequencers; register = t; lines = ls ∙ ap (fault_lines name) h.0; sends = ms ∙ (h.1 ∙ b) }

    err_is : (fault : SequencerFault) → IsErrOf {T = Whole} (Err fault) faults.NoMemory → fault ≡ faults.NoMemory
    err_is fault e = cc

    pub refused_done : (old new : List Msg) (fault : SequencerFault) (before : Type 0) → (fault ≢ faults.NoMemory)
        → (IsErrOf {T = Whole} (Err fault) faults.NoMemory × before) ⊎ (Activates origin spec (λ e. looks_after first spec s.register e) old new (Err fault) (answered s.register spec) × told (after_activate s.register spec))
        → old ≡ [] → o.lines.items ≡ fault_lines name fault → o.sends ≡ new → IsActed s ks o told (step.happens c s (events.Activate name spec.log))
    refused_done old new fault before n (inl x) b ls ms = absurd (n (err_is fault x.0))
    refused_done old new fault before n (inr x) b ls ms =
        refused_as old new fault changed.answer full refl (by_answer old new (Err fault) x.0) (subst told after_is x.1) b ls ms

-- what holds of the log that was fixed holds of the log
pub of_log : (c : Config) (s : State) (l : ℕ) (spec first : Spec) (done : ℕ → Type 0) → spec.log ≡ l → first ≡ first_spec c l → has_log c l ≡ true → spec ≡ step.spec_set c s l
    → (first ≡ first_spec c spec.log → has_log c spec.log ≡ true → spec ≡ step.spec_set c s spec.log → done spec.log) → done l
of_log c s l spec first done e f t m h = subst done e (h (f ∙ ap (first_spec c) (sym e)) (ap (has_log c) e ∙ t) (m ∙ ap (step.spec_set c s) (sym e)))
