-- What each call of one sequencer does to a state that has it under a name.
use Rattle.std.proofs.Common.{◌≡◌, ◌≢◌, ◌⊎◌, inl, inr, ℕ, ◌≤◌, ◌<◌, ◌==◌, Bool, true, false, List, [], ◌∷◌, ◌++◌, length, Some, Ok, Err, IfOk, IfErr, refl, ap, sym, ◌∙◌, subst, nat_lt, nat_le, arith, if◌then◌else◌}
use Rattle.std.specs.declared.result.Result.{Result}
use Rattle.std.proofs.lemmas.Bool.{le-ltb, lt-ltb}
use Rattle.ld_table.specs.Named.{find_named}
use Rattle.ld_transcript.specs.declared.line.Line.{Line}
use Rattle.ld_transcript.specs.declared.line.Line.TheVariants as lines
use Rattle.ld_lsn.specs.Number.{numbered, last_esn}
use Rattle.ld_ids.specs.declared.set.Spec.{Spec}
use Rattle.ld_ids.specs.Set.{members}
use Rattle.ld_msg.specs.declared.msg.Who.{Who}
use Rattle.ld_msg.specs.declared.msg.Who.TheVariants as whos
use Rattle.ld_msg.specs.declared.msg.Msg.{Msg}
use Rattle.ld_msg.specs.declared.msg.Body.{Body}
use Rattle.ld_msg.specs.declared.msg.Body.TheVariants as bodies
use Rattle.ld_msg.specs.Register.{Register, View, is_crowded, look}
use Rattle.ld_msg.specs.Sequencer as sequencer
use Rattle.ld_msg.specs.Sequencer.{Sequencer, Acts, called, Appending, or_preempted, appending, appended, payload_limit, window_limit, first_stores, next_esn, released_of, rose, to_each, acted_messages, on_reply, on_retry}
use Rattle.ld_config.specs.declared.config.Config.{Config}
use Rattle.ld_machine.specs.Config.{looks_at}
use Rattle.ld_machine.specs.State.{State, Done, unchanged, only_state, with_line, with_sequencer, posted}
use Rattle.ld_machine.specs.Step as step
use Rattle.ld_machine.specs.Calm.{calms_acts, calms_with}
use Rattle.ld_recovery.specs.Recovering.{sender_of}
use Rattle.ld_register.specs.declared.fault.RegisterFault.TheVariants as registers
use Rattle.ld_sequencer.specs.declared.fault.SequencerFault.{SequencerFault}
use Rattle.ld_sequencer.specs.declared.fault.SequencerFault.TheVariants as faults
use Rattle.ld_sequencer.specs.declared.report.Report.{Report}
use Rattle.ld_sequencer.specs.Looks.{shows}
use Rattle.ld_sequencer.specs.Own.{append_fault, trim_fault}
use Rattle.ld_sequencer.specs.Whole.{Whole, as_now, with_recovery, sent_as, looks_of, Acted, ActedBy, IsRefused, Unseen, Unlooked, tried, called_by, reply_acts, retry_acts, raised_whole, pending_stores}
use Rattle.ld_clients.specs.declared.client.Client.{Client}
use Rattle.ld_clients.specs.declared.client.Client.TheVariants.{Live, Gone}
use Rattle.ld_clients.specs.declared.outcome.Outcome.{Outcome}
use Rattle.ld_clients.specs.Serving.{faded, shown, log_in, epoch_in, IsWhole, IsWholeIn, GoesOn, Knows, KnowsIn}
use Rattle.ld_clients.specs.Acting.{IsNamed, HasActed, Stays, report_lines}
use Rattle.ld_clients.specs.Refusing.{fault_lines, told_lines}
use Rattle.ld_sequencer.specs.Announcing.{announced}
use Rattle.ld_clients.proofs.Announcing.{announced_is, retried_kinds}
use Rattle.ld_clients.proofs.Fading.{unfaded, found_live, found_some}
use Rattle.ld_clients.proofs.Names.{put_same}
use Rattle.ld_clients.proofs.Rows.{if_not}
use Rattle.ld_clients.proofs.Keeping.{Same, same_after, itself, same_tried, same_on_reply, same_on_retry}

sender_is : (w : Who) → step.sender_node w ≡ sender_of w
sender_is (whos.Node n) = refl
sender_is (whos.Sequencer e) = refl
sender_is (whos.Reader r) = refl

when_is : (b : Bool) (name : List ℕ) (n : ℕ) → step.numbered_lines (lines.Released name) (if b then n ∷ [] else []) ≡ step.when b (lines.Released name n)
when_is true name n = refl
when_is false name n = refl

-- a report tells what was done
told_as : (name : List ℕ) (before after : Whole) (r : Report) (old new : List Msg) (a : Acts) → Acted before after r old new a → report_lines name r ≡ step.acted_lines name before.sequencer a
told_as name before after r old new a h = λ i. step.numbered_lines (lines.RefusedPreempted name) (h.preempted i) ++ (step.when (h.failed i) (lines.RefusedRegister name)
    ++ (step.numbered_lines (lines.Acked name) (h.acked i) ++ (step.numbered_lines (lines.Clean name) (h.closed i)
    ++ (ap (step.numbered_lines (lines.Released name)) h.released ∙ when_is (rose before.sequencer a.sequencer) name (released_of a.sequencer)) i)))

-- ---- refusals ----

unnumbered : (s : State) (name p : List ℕ) (q : Sequencer) (a : Appending) (fault : SequencerFault) → fault ≡ append_fault (length p) a → (fault ≡ faults.NoMemory → ⊥)
    → step.append_done s name q p a ≡ record { state = s; lines = fault_lines name fault; sends = [] }
unnumbered s name p q sequencer.TooLong fault e n = ap (λ f. record { state = s; lines = fault_lines name f; sends = [] }) (sym e)
unnumbered s name p q (sequencer.Preempted by) fault e n = ap (λ f. record { state = s; lines = fault_lines name f; sends = [] }) (sym e)
unnumbered s name p q sequencer.EpochFull fault e n = ap (λ f. record { state = s; lines = fault_lines name f; sends = [] }) (sym e)
unnumbered s name p q sequencer.WindowFull fault e n = ap (λ f. record { state = s; lines = fault_lines name f; sends = [] }) (sym e)
unnumbered s name p q sequencer.Numbered fault e n = absurd (n e)

untrimmed : (b : Bool) (s : State) (name : List ℕ) (released : ℕ) (d : Done) (fault : SequencerFault) → fault ≡ (if b then faults.PastReleased released else faults.NoMemory) → (fault ≡ faults.NoMemory → ⊥)
    → (if b then with_line s (lines.RefusedPast name released) else d) ≡ record { state = s; lines = fault_lines name fault; sends = [] }
untrimmed true s name released d fault e n = ap (λ f. record { state = s; lines = fault_lines name f; sends = [] }) (sym e)
untrimmed false s name released d fault e n = absurd (n e)

-- ---- calls ----

-- one that was dropped does nothing
pub gone_done : (c : Config) (s : State) (name : List ℕ) (k : Client) (l e : ℕ) → IsNamed c s name k → k ≡ Gone l e → (o : Outcome) (told : Register → Type 0) (f : Sequencer → Done) → told s.register → o.lines.items ≡ [] → o.sends ≡ []
    → HasActed s name k o told (step.on_live s (Some (shown k)) f)
gone_done c s name k l e h g o told f t ls ms =
    let p = found_some (find_named name s.sequencers) (shown k) h.found in
    subst (λ (x : Done). HasActed s name k o told x) (sym (ap (λ (x : Client). step.on_live s (Some (shown x)) f) g))
    record {
      sequencer = p.0;
      seen = p.2;
      state = ap (λ x. record s { sequencers = x }) (sym (put_same name p.0 s.sequencers p.1));
      register = t;
      lines = ls;
      sends = ms;
    }

-- ---- a drop ----

drop_at : (c : Config) (s : State) (name : List ℕ) (k : Client) → IsNamed c s name k → IsWholeIn k → (o : Outcome) → o.lines.items ≡ [] → o.sends ≡ []
    → HasActed s name (Gone (log_in k) (epoch_in k)) o (Stays s) (step.on_live s (Some (shown k)) (λ x. only_state (with_sequencer s name (step.dropped x))))
drop_at c s name (Gone l e) h i o ls ms = gone_done c s name (Gone l e) l e h refl o (Stays s) (λ x. only_state (with_sequencer s name (step.dropped x))) refl ls ms
drop_at c s name (Live w) h i o ls ms = subst (λ (x : Done). HasActed s name (Gone w.sequencer.log w.sequencer.epoch) o (Stays s) x) (sym (if_not w.sequencer.gone (unchanged s) _ i.live))
    record { sequencer = step.dropped w.sequencer; seen = refl; state = refl; register = refl; lines = ls; sends = ms }

pub drop_done : (c : Config) (s : State) (name : List ℕ) (k g : Client) → IsNamed c s name k → IsWholeIn k → g ≡ Gone (log_in k) (epoch_in k) → (o : Outcome) → o.lines.items ≡ [] → o.sends ≡ []
    → HasActed s name g o (Stays s) (step.on_live s (Some (shown k)) (λ x. only_state (with_sequencer s name (step.dropped x))))
drop_done c s name k g h i e o ls ms = subst (λ (x : Client). HasActed s name x o (Stays s) (step.on_live s (Some (shown k)) (λ x. only_state (with_sequencer s name (step.dropped x))))) (sym e) (drop_at c s name k h i o ls ms)

-- ---- calls of one that wasn't ----

module _ (c : Config) (s : State) (name : List ℕ) (k : Client) (h : IsNamed c s name k) (i : IsWholeIn k) (w : Whole) (is : k ≡ Live w) where
  abbrev q : Sequencer
  q = w.sequencer

  live : q.gone ≡ false
  live = let t : IsWhole w = subst IsWholeIn is i in t.live

  knows : Knows c w
  knows = subst (KnowsIn c) is h.knows

  acted_as : (v : Whole) (o : Outcome) (told : Register → Type 0) (d e : Done) → d ≡ e → HasActed s name (Live v) o told e → HasActed s name (Live v) o told d
  acted_as v o told d e p r = subst (λ (x : Done). HasActed s name (Live v) o told x) (sym p) r

  -- it stays the same
  quiet : s ≡ record (with_sequencer s name q) { register = s.register }
  quiet = ap (λ x. record s { sequencers = x }) (sym (put_same name q s.sequencers (found_live (find_named name s.sequencers) q live (h.found ∙ ap (λ (x : Client). Some (shown x)) is))))

  lines_done : (v : Whole) (o : Outcome) (d : Done) (xs : List Line) → v ≡ w → d ≡ record { state = s; lines = xs; sends = [] } → o.lines.items ≡ xs → o.sends ≡ [] → HasActed s name (Live v) o (Stays s) d
  lines_done v o d xs e p ls ms = acted_as v o (Stays s) d _ p record { sequencer = q; seen = unfaded q live ∙ ap (λ (x : Whole). x.sequencer) (sym e); state = quiet; register = refl; lines = ls; sends = ms }

  live_row : (f : Sequencer → Done) → step.on_live s (Some (shown k)) f ≡ f q
  live_row f = ap (λ (x : Client). step.on_live s (Some (shown x)) f) is ∙ if_not q.gone (unchanged s) (f q) live

  -- one that isn't gone is then read as it is
  seen_now : (v : Whole) (x : Sequencer) → v.sequencer ≡ x → x.gone ≡ false → faded x ≡ v.sequencer
  seen_now v x e g = unfaded x g ∙ sym e

  -- looks show the same to the machine
  looks_are : (λ e. looks_at c s.register q.log e) ≡ looks_of w s.register
  looks_are = ap (λ (x : Spec). λ e. look x s.register q.log e) (sym knows.first)

  -- ---- an append ----

  pub append_refused : (v : Whole) (p : List ℕ) (fault : SequencerFault) (o : Outcome) → v ≡ w → fault ≡ append_fault (length p) (appending q p) → (fault ≡ faults.NoMemory → ⊥)
      → o.lines.items ≡ fault_lines name fault → o.sends ≡ [] → HasActed s name (Live v) o (Stays s) (step.on_live s (Some (shown k)) (λ x. step.append_done s name x p (appending x p)))
  append_refused v p fault o e f n ls ms = lines_done v o _ (fault_lines name fault) e (live_row (λ x. step.append_done s name x p (appending x p)) ∙ unnumbered s name p q (appending q p) fault f n) ls ms

  pub append_done : (v : Whole) (p own : List ℕ) (number : ℕ) (o : Outcome) → v ≡ as_now w (appended q p) → appending q p ≡ sequencer.Numbered → own ≡ name → number ≡ numbered q.epoch (next_esn q)
      → o.lines.items ≡ lines.Appended own number ∷ [] → o.sends ≡ sent_as w (first_stores q p) → HasActed s name (Live v) o (Stays s) (step.on_live s (Some (shown k)) (λ x. step.append_done s name x p (appending x p)))
  append_done v p own number o e n u m ls ms = acted_as v o (Stays s) _ (step.append_done s name q p sequencer.Numbered)
      (live_row (λ x. step.append_done s name x p (appending x p)) ∙ ap (step.append_done s name q p) n)
      record {
        sequencer = appended q p;
        seen = seen_now v (appended q p) (ap (λ (x : Whole). x.sequencer) e) live;
        state = refl;
        register = refl;
        lines = ls ∙ (λ j. lines.Appended (u j) (m j) ∷ []);
        sends = ms;
      }

  appending_long : (p : List ℕ) → payload_limit < length p → appending q p ≡ sequencer.TooLong
  unfolding appending
  appending_long p l = ap (λ b. if b then sequencer.TooLong else or_preempted q.preempted (if next_esn q == last_esn then sequencer.EpochFull else if nat_le window_limit (length q.appends) then sequencer.WindowFull else sequencer.Numbered)) (lt-ltb payload_limit (length p) l)

  pub append_long : (p own : List ℕ) (bytes : ℕ) (o : Outcome) → length p ≡ bytes → payload_limit < bytes → own ≡ name
      → o.lines.items ≡ lines.RefusedLong own bytes ∷ [] → o.sends ≡ [] → HasActed s name k o (Stays s) (step.on_live s (Some (shown k)) (λ x. step.append_done s name x p (appending x p)))
  append_long p own bytes o b l u ls ms =
      subst (λ (x : Client). HasActed s name x o (Stays s) (step.on_live s (Some (shown k)) (λ x. step.append_done s name x p (appending x p)))) (sym is) (lines_done w o _ (lines.RefusedLong name (length p) ∷ []) refl
      (live_row (λ x. step.append_done s name x p (appending x p)) ∙ ap (step.append_done s name q p) (appending_long p (omega arith)))
      (ls ∙ (λ j. lines.RefusedLong (u j) (sym b j) ∷ [])) ms)

  -- ---- a trim ----

  trim_as : (point : ℕ) (o : Outcome) → HasActed s name (Live w) o (Stays s) (step.on_live s (Some (shown k)) (λ x. step.trim_done c s name x point)) → HasActed s name k o (Stays s) (step.on_live s (Some (shown k)) (λ x. step.trim_done c s name x point))
  trim_as point o r = subst (λ (x : Client). HasActed s name x o (Stays s) (step.on_live s (Some (shown k)) (λ x. step.trim_done c s name x point))) (sym is) r

  pub trim_refused : (point : ℕ) (fault : SequencerFault) (o : Outcome) → fault ≡ trim_fault (released_of q) point → (fault ≡ faults.NoMemory → ⊥)
      → o.lines.items ≡ fault_lines name fault → o.sends ≡ [] → HasActed s name k o (Stays s) (step.on_live s (Some (shown k)) (λ x. step.trim_done c s name x point))
  trim_refused point fault o f n ls ms = trim_as point o (lines_done w o _ (fault_lines name fault) refl (live_row (λ x. step.trim_done c s name x point) ∙ untrimmed (nat_lt (released_of q) point) s name (released_of q) _ fault f n) ls ms)

  pub trim_done : (point : ℕ) (own : List ℕ) (o : Outcome) → point ≤ released_of q → own ≡ name
      → o.lines.items ≡ lines.Trimmed own point ∷ [] → o.sends ≡ sent_as w (to_each (bodies.Trim point) (members w.origin.nodes)) → HasActed s name k o (Stays s) (step.on_live s (Some (shown k)) (λ x. step.trim_done c s name x point))
  trim_done point own o l u ls ms = trim_as point o (acted_as w o (Stays s) _ _ (live_row (λ x. step.trim_done c s name x point) ∙ if_not (nat_lt (released_of q) point) _ _ (le-ltb (released_of q) point l))
      record {
        sequencer = q;
        seen = unfaded q live;
        state = quiet;
        register = refl;
        lines = ls ∙ ap (λ x. lines.Trimmed x point ∷ []) u;
        sends = ms ∙ ap (λ (x : List Bool). posted (whos.Sequencer q.epoch) q.log (to_each (bodies.Trim point) (members x))) knows.nodes;
      })

  -- ---- a reply or a retry ----

  told_done : (v : Whole) → GoesOn k (Live v) → (r : Report) (old new : List Msg) (a : Acts) (o : Outcome) (told : Register → Type 0) (d : Done) → d ≡ step.told s name q (called_by w s.register a)
      → Acted w v r old new (called_by w s.register a).acts → told (called_by w s.register a).register → old ≡ [] → o.lines.items ≡ report_lines name r → o.sends ≡ new → HasActed s name (Live v) o told d
  told_done v g r old new a o told d e t u b ls ms =
      let m : GoesOn (Live w) (Live v) = subst (λ (x : Client). GoesOn x (Live v)) is g in
      let same : v.sequencer ≡ (called_by w s.register a).acts.sequencer = ap (λ (x : Whole). x.sequencer) t.now in
      acted_as v o told d _ e record {
        sequencer = (called_by w s.register a).acts.sequencer;
        seen = seen_now v (called_by w s.register a).acts.sequencer same (ap (λ (x : Sequencer). x.gone) (sym same) ∙ (m.remains.gone ∙ live));
        state = refl;
        register = u;
        lines = ls ∙ told_as name w v r old new (called_by w s.register a).acts t;
        sends = ms ∙ (t.sent ∙ ap (λ x. x ++ sent_as w (acted_messages q (called_by w s.register a).acts)) b);
      }

  crowded : (r : Result Report SequencerFault) (fault : SequencerFault) (T : Type 0) → r ≡ Err fault → (r ≢ Err faults.NoMemory) → is_crowded s.register (log_in k) ≡ false
      → (fault ≡ faults.NoMemory) ⊎ ((fault ≡ faults.Register registers.LogLimit) × (is_crowded s.register q.log ≡ true) × T) → ⊥
  crowded r fault T e n room (inl m) = n (e ∙ ap (λ (f : SequencerFault). Err f) m)
  crowded r fault T e n room (inr x) = let f : false ≡ true = sym room ∙ (ap (λ (y : Client). is_crowded s.register (log_in y)) is ∙ x.1) in absurd cc

  answered_done : (r : Result Report SequencerFault) (v : Whole) → GoesOn k (Live v) → (old new : List Msg) (a : Acts) (o : Outcome) (told : Register → Type 0) (d : Done) → d ≡ step.told s name q (called_by w s.register a)
      → IfOk r (λ report. Acted w v report old new (called_by w s.register a).acts × told (called_by w s.register a).register)
      → IfErr r (λ fault. (fault ≡ faults.NoMemory) ⊎ ((fault ≡ faults.Register registers.LogLimit) × (is_crowded s.register q.log ≡ true) × told s.register))
      → (r ≢ Err faults.NoMemory) → is_crowded s.register (log_in k) ≡ false → old ≡ [] → o.lines.items ≡ told_lines name r → o.sends ≡ new → HasActed s name (Live v) o told d
  answered_done (Ok report) v g old new a o told d e t x m room b ls ms = told_done v g report old new a o told d e t.0 t.1 b ls ms
  answered_done (Err fault) v g old new a o told d e t x m room b ls ms = absurd (crowded (Err fault) fault (told s.register) refl m room x)

  -- what a retry and the message do by the register
  abbrev retried : Acts
  retried = retry_acts (looks_of w s.register) w

  retry_row : step.on_live s (Some (shown k)) (λ x. step.acted c s name x (on_retry (looks_at c s.register x.log) x)) ≡ step.told s name q (called_by w s.register retried)
  retry_row = live_row (λ x. step.acted c s name x (on_retry (looks_at c s.register x.log) x))
      ∙ ap (λ (f : ℕ → View). step.told s name q (called f s.register (on_retry f q) (on_retry f q).tries)) looks_are

  abbrev replied : Msg → Acts
  replied m = reply_acts (looks_of w s.register) w m.from m.body

  reply_row : (m : Msg) → step.to_live c s name (shown k) m ≡ step.told s name q (called_by w s.register (replied m))
  reply_row m = live_row (λ x. step.acted c s name x (on_reply (λ e. looks_at c s.register x.log e) x (step.sender_node m.from) m.body))
      ∙ (λ j. step.told s name q (called (looks_are j) s.register (on_reply (looks_are j) q (sender_is m.from j) m.body) (on_reply (looks_are j) q (sender_is m.from j) m.body).tries))

  pub retry_done : (r : Result Report SequencerFault) (v : Whole) → GoesOn k (Live v) → (old new : List Msg) (o : Outcome) (told : Register → Type 0)
      → IfOk r (λ report. Acted w v report old new (called_by w s.register retried).acts × told (called_by w s.register retried).register)
      → IfErr r (λ fault. (fault ≡ faults.NoMemory) ⊎ ((fault ≡ faults.Register registers.LogLimit) × (is_crowded s.register q.log ≡ true) × told s.register))
      → (r ≢ Err faults.NoMemory) → is_crowded s.register (log_in k) ≡ false → old ≡ [] → o.lines.items ≡ told_lines name r → o.sends ≡ new
      → HasActed s name (Live v) o told (step.on_live s (Some (shown k)) (λ x. step.acted c s name x (on_retry (looks_at c s.register x.log) x)))
  retry_done r v g old new o told t x m room b ls ms = answered_done r v g old new retried o told _ retry_row t x m room b ls ms

  -- a retry that tells the released number again
  calm_row : step.on_live s (Some (shown k)) (λ x. calms_acts c s name x (on_retry (looks_at c s.register x.log) x)) ≡ calms_with s name q (called_by w s.register retried)
  calm_row = live_row (λ x. calms_acts c s name x (on_retry (looks_at c s.register x.log) x))
      ∙ ap (λ (f : ℕ → View). calms_with s name q (called f s.register (on_retry f q) (on_retry f q).tries)) looks_are

  calm_told : (v : Whole) → GoesOn k (Live v) → (r : Report) (old new : List Msg) (o : Outcome) (told : Register → Type 0)
      → Acted w v r old new (called_by w s.register retried).acts → told (called_by w s.register retried).register → old ≡ [] → o.lines.items ≡ report_lines name r → o.sends ≡ announced v new
      → HasActed s name (Live v) o told (calms_with s name q (called_by w s.register retried))
  calm_told v g r old new o told t u b ls ms =
      let m : GoesOn (Live w) (Live v) = subst (λ (x : Client). GoesOn x (Live v)) is g in
      let same : v.sequencer ≡ (called_by w s.register retried).acts.sequencer = ap (λ (x : Whole). x.sequencer) t.now in
      record {
        sequencer = (called_by w s.register retried).acts.sequencer;
        seen = seen_now v (called_by w s.register retried).acts.sequencer same (ap (λ (x : Sequencer). x.gone) (sym same) ∙ (m.remains.gone ∙ live));
        state = refl;
        register = u;
        lines = ls ∙ told_as name w v r old new (called_by w s.register retried).acts t;
        sends = ms ∙ (ap (announced v) (t.sent ∙ ap (λ x. x ++ sent_as w (acted_messages q (called_by w s.register retried).acts)) b)
            ∙ announced_is w v (called_by w s.register retried).acts same m.epoch m.log (retried_kinds (looks_of w s.register) s.register q));
      }

  pub calm_done : (r : Result Report SequencerFault) (v : Whole) → GoesOn k (Live v) → (old new : List Msg) (o : Outcome) (told : Register → Type 0)
      → IfOk r (λ report. Acted w v report old new (called_by w s.register retried).acts × told (called_by w s.register retried).register)
      → IfErr r (λ fault. (fault ≡ faults.NoMemory) ⊎ ((fault ≡ faults.Register registers.LogLimit) × (is_crowded s.register q.log ≡ true) × told s.register))
      → (r ≢ Err faults.NoMemory) → is_crowded s.register (log_in k) ≡ false → old ≡ [] → o.lines.items ≡ told_lines name r → o.sends ≡ announced v new
      → HasActed s name (Live v) o told (step.on_live s (Some (shown k)) (λ x. calms_acts c s name x (on_retry (looks_at c s.register x.log) x)))
  calm_done (Ok report) v g old new o told t x m room b ls ms = acted_as v o told _ _ calm_row (calm_told v g report old new o told t.0 t.1 b ls ms)
  calm_done (Err fault) v g old new o told t x m room b ls ms = absurd (crowded (Err fault) fault (told s.register) refl m room x)

  pub reply_done : (m : Msg) (r : Result Report SequencerFault) (v : Whole) → GoesOn k (Live v) → (old new : List Msg) (o : Outcome) (told : Register → Type 0)
      → IfOk r (λ report. Acted w v report old new (called_by w s.register (replied m)).acts × told (called_by w s.register (replied m)).register)
      → IfErr r (λ fault. (fault ≡ faults.NoMemory) ⊎ ((fault ≡ faults.Register registers.LogLimit) × (is_crowded s.register q.log ≡ true) × told s.register))
      → (r ≢ Err faults.NoMemory) → is_crowded s.register (log_in k) ≡ false → old ≡ [] → o.lines.items ≡ told_lines name r → o.sends ≡ new
      → HasActed s name (Live v) o told (step.to_live c s name (shown k) m)
  reply_done m r v g old new o told t x f room b ls ms = answered_done r v g old new (replied m) o told _ (reply_row m) t x f room b ls ms

-- ---- the same sequencer after a call ----

module _ (k : Client) (w : Whole) (is : k ≡ Live w) (v : Whole) where
  goes_as : (x : Sequencer) → v ≡ as_now w x → Same w.sequencer x → GoesOn k (Live v)
  goes_as x e m = subst (λ (y : Client). GoesOn y (Live v)) (sym is) record {
    log = ap (λ (y : Whole). y.sequencer.log) e ∙ m.log;
    epoch = ap (λ (y : Whole). y.sequencer.epoch) e ∙ m.epoch;
    remains = record {
      origin = ap (λ (y : Whole). y.origin) e;
      spec = ap (λ (y : Whole). y.sequencer.spec) e ∙ m.spec;
      gone = ap (λ (y : Whole). y.sequencer.gone) e ∙ m.gone;
    };
  }

  -- with what looks show and what the register answers to a close
  answered_goes : (report : Report) (old new : List Msg) (f : (ℕ → View) → Acts) → ((looks : ℕ → View) → Same w.sequencer (f looks).sequencer) → ActedBy w v report old new f → GoesOn k (Live v)
  answered_goes report old new f m t = let looks : ℕ → View = t.0 in let a : Acts = f looks in
      goes_as (tried looks a t.2).sequencer t.3.now (same_after w.sequencer a.sequencer (tried looks a t.2).sequencer (m looks) (same_tried looks a t.2 a.tries))

  refused_goes : (fault : SequencerFault) (r : Result Report SequencerFault) (old new : List Msg) (a : Acts) → r ≡ Err fault → (r ≢ Err faults.NoMemory) → Same w.sequencer a.sequencer → IsRefused w v fault old new a → GoesOn k (Live v)
  refused_goes fault r old new a e n m (inl f) = absurd (n (e ∙ ap (λ (x : SequencerFault). Err x) f))
  refused_goes fault r old new a e n m (inr u) = goes_as a.sequencer u.now m

  -- where the register couldn't be looked at, or a close isn't known to be made
  unlooked_goes : (fault : SequencerFault) (r : Result Report SequencerFault) (old new : List Msg) (own : Sequencer) (stores : List (ℕ × Body)) (f : (ℕ → View) → Acts) → r ≡ Err fault → (r ≢ Err faults.NoMemory)
      → Same w.sequencer own → ((looks : ℕ → View) → Same w.sequencer (f looks).sequencer)
      → Unlooked w v fault old new own stores f ⊎ ((looks : ℕ → View) → IsRefused w v fault old new (f looks)) → GoesOn k (Live v)
  unlooked_goes fault r old new own stores f e n o m (inl u) = goes_as (with_recovery (Some u.recovery) own) u.now record { log = o.log; epoch = o.epoch; spec = o.spec; gone = o.gone }
  unlooked_goes fault r old new own stores f e n o m (inr h) = let looks : ℕ → View = shows w.sequencer.spec in refused_goes fault r old new (f looks) e n (m looks) (h looks)

  pub retried_goes : (r : Result Report SequencerFault) (old new : List Msg) → IfOk r (λ report. ActedBy w v report old new (λ looks. retry_acts looks w))
      → IfErr r (λ fault. Unlooked w v fault old new (raised_whole w).sequencer (pending_stores (raised_whole w)) (λ looks. retry_acts looks w)
      ⊎ ((looks : ℕ → View) → IsRefused w v fault old new (retry_acts looks w))) → (r ≢ Err faults.NoMemory) → GoesOn k (Live v)
  retried_goes (Ok report) old new t x n = answered_goes report old new (λ looks. retry_acts looks w) (λ looks. same_on_retry looks w.sequencer) t
  retried_goes (Err fault) old new t x n = unlooked_goes fault (Err fault) old new (raised_whole w).sequencer (pending_stores (raised_whole w)) (λ looks. retry_acts looks w) refl n
      record { log = refl; epoch = refl; spec = refl; gone = refl } (λ looks. same_on_retry looks w.sequencer) x

  unheard_goes : (fault : SequencerFault) (r : Result Report SequencerFault) (old new : List Msg) (y : Who) (b : Body) → r ≡ Err fault → (r ≢ Err faults.NoMemory)
      → Unseen w v fault old new b ⊎ (Unlooked w v fault old new w.sequencer [] (λ looks. reply_acts looks w y b)
      ⊎ ((looks : ℕ → View) → IsRefused w v fault old new (reply_acts looks w y b))) → GoesOn k (Live v)
  unheard_goes fault r old new y b e n (inl u) = goes_as w.sequencer u.now (itself w.sequencer)
  unheard_goes fault r old new y b e n (inr x) = unlooked_goes fault r old new w.sequencer [] (λ looks. reply_acts looks w y b) e n
      (itself w.sequencer) (λ looks. same_on_reply looks w.sequencer (sender_of y) b) x

  pub replied_goes : (r : Result Report SequencerFault) (old new : List Msg) (y : Who) (b : Body) → IfOk r (λ report. ActedBy w v report old new (λ looks. reply_acts looks w y b))
      → IfErr r (λ fault. Unseen w v fault old new b ⊎ (Unlooked w v fault old new w.sequencer [] (λ looks. reply_acts looks w y b)
      ⊎ ((looks : ℕ → View) → IsRefused w v fault old new (reply_acts looks w y b)))) → (r ≢ Err faults.NoMemory) → GoesOn k (Live v)
  replied_goes (Ok report) old new y b t x n = answered_goes report old new (λ looks. reply_acts looks w y b) (λ looks. same_on_reply looks w.sequencer (sender_of y) b) t
  replied_goes (Err fault) old new y b t x n = unheard_goes fault (Err fault) old new y b refl n x

  pub appended_goes : (p : List ℕ) → v ≡ as_now w (appended w.sequencer p) → GoesOn k (Live v)
  appended_goes p e = goes_as (appended w.sequencer p) e record { log = refl; epoch = refl; spec = refl; gone = refl }

  pub unchanged_goes : v ≡ w → GoesOn k (Live v)
  unchanged_goes e = goes_as w.sequencer e (itself w.sequencer)
