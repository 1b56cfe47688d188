-- What each call of a sequencer that is driven does to a state that has it.
use Rattle.std.proofs.Common.{◌==◌, ◌&&◌, ◌+◌, ◌≤◌, ◌<◌, nat_lt, nat_le, arith, option_map, ◌≡◌, ◌≢◌, ◌⊎◌, inl, inr, ℕ, Bool, true, false, cond, List, [], ◌∷◌, Option, Some, None, Ok, Err, IfOk, IfErr, IsErrOf, is_some, length, refl, ap, sym, ◌∙◌, subst, if◌then◌else◌}
use Rattle.std.specs.List.{AllByRecursion}
use Rattle.std.specs.Option.{unwrap_or}
use Rattle.std.specs.declared.result.Result.{Result}
use Rattle.std.proofs.lemmas.Bool.{eq-eqb, eqb-true, and_parts}
use Rattle.ld_table.specs.Table.{find, put}
use Rattle.ld_table.specs.Named.{same, find_named, put_named}
use Rattle.ld_table.proofs.Laws.{find-put_same}
use Rattle.ld_table.proofs.NameLaws.{same-true, same-self, find_named-put_named}
use Rattle.ld_config.specs.declared.config.Config.{Config}
use Rattle.ld_config.specs.Bounds.{IsInBounds}
use Rattle.ld_ids.specs.Set.{members}
use Rattle.ld_ids.specs.declared.set.Spec.{Spec}
use Rattle.ld_lsn.specs.Number.{numbered}
use Rattle.ld_schedule.specs.declared.event.Event.TheVariants as events
use Rattle.ld_transcript.specs.declared.line.Line.{Line}
use Rattle.ld_transcript.specs.declared.line.Line.TheVariants as lines
use Rattle.ld_msg.specs.declared.msg.Body.TheVariants as bodies
use Rattle.ld_msg.specs.declared.msg.Msg.{Msg}
use Rattle.ld_msg.specs.declared.msg.Who.TheVariants as whos
use Rattle.ld_msg.specs.Register.{Register, Epochs, Changed, Answer, View, Granted, AtLimit, Behind, Overtaken, Fails, is_crowded, epoch_limit, epochs_of, no_epochs, next_epoch, with_epochs, activate}
use Rattle.ld_msg.specs.Sequencer as sequencer
use Rattle.ld_msg.specs.Sequencer.{Sequencer, Appending, appending, appended, first_stores, next_esn, released_of, to_each, on_retry}
use Rattle.ld_register.specs.Calls.{ended, is_full, activation_length, after_activate, activated as granted, granted as granted_now}
use Rattle.ld_register.specs.declared.register.Grant.{Grant}
use Rattle.ld_register.specs.declared.fault.RegisterFault.TheVariants as registers
use Rattle.ld_register.proofs.Growing.{by_test, change_granted}
use Rattle.ld_sequencer.specs.declared.origin.Origin.{Origin}
use Rattle.ld_sequencer.specs.declared.fault.SequencerFault.{SequencerFault}
use Rattle.ld_sequencer.specs.declared.fault.SequencerFault.TheVariants as faults
use Rattle.ld_sequencer.specs.declared.report.Report.{Report}
use Rattle.ld_sequencer.specs.Own.{append_fault, trim_fault}
use Rattle.ld_sequencer.specs.Whole.{Whole, as_now, sent_as, Acted, ActedBy, IsActive, Activates, IsRefused, Unlooked, Unseen, origin_of, looks_after, looks_of, called_by, raised_whole, pending_stores, reply_acts, retry_acts}
use Rattle.ld_machine.specs.Config.{looks_at, first_spec, has_log}
use Rattle.ld_machine.specs.State.{State, Done, unchanged, sequencer_of}
use Rattle.ld_machine.specs.Step.{happens, on_live, acted, comes_to, to_live, to_sequencer, append_done as append_row, trim_done as trim_row}
use Rattle.ld_bounds.specs.Sound.{IsSound}
use Rattle.ld_bounds.specs.Sequencers.{IsSequencer, IsNamedSequencer}
use Rattle.ld_bounds.proofs.Alls.{all-find_named}
use Rattle.ld_bounds.proofs.Fewness.{room_there}
use Rattle.ld_clients.specs.declared.client.Client.{Client}
use Rattle.ld_clients.specs.declared.client.Client.TheVariants.{Live, Gone}
use Rattle.ld_clients.specs.declared.outcome.Outcome.{Outcome}
use Rattle.ld_clients.specs.Names.{each_as}
use Rattle.ld_clients.specs.Serving.{IsWhole, KnowsIn, HasRoom, GoesOn, shown, faded, gone_of, sequencers_of}
use Rattle.ld_clients.specs.Acting as acting
use Rattle.ld_clients.specs.Acting.{AreSequencers, IsNamed, HasActed, Stays}
use Rattle.ld_clients.specs.Refusing.{fault_lines, told_lines}
use Rattle.ld_clients.proofs.Names.{all_none, find_each, find_each_none, put_each}
use Rattle.ld_clients.proofs.Acting.{append_done, append_refused, trim_done, trim_refused, retry_done, reply_done, retried_goes, replied_goes, appended_goes, unchanged_goes}
use Rattle.ld_clients.proofs.Fading.{unfaded, found_live, as_faded, sequencer_of_faded}
use Rattle.ld_clients.proofs.Serving.{knows_after, whole_after}
use Rattle.ld_clients.proofs.Placing.{none_as}
use Rattle.ld_clients.proofs.Activating.{granted_done, refused_done, know_active, active_whole}
use Rattle.ld_rounds.specs.News.{is_answer}
use Rattle.ld_rounds.specs.Drives.{own_lines}
use Rattle.ld_rounds.specs.Acts.{IsActed}
use Rattle.ld_rounds.proofs.Clients.{IsClient}
use Rattle.ld_append.specs.Acting.{IsServing, MayServe, is_to, takes_it, takes, Serves, IsSpecOf, IsUnset}
use Rattle.ld_append.specs.Refusing.{lines_by, start_lines}
use Rattle.ld_append.proofs.Clients.{append_client, trim_client, retry_client, activate_client, reply_client}
use Rattle.ld_append.proofs.Saying.{has_lines}

same_some : {X : Type 0} (x y : X) → Some x ≡ Some y → x ≡ y
same_some x y e = cc

abbrev Sequencers : Type 0
Sequencers = List (List ℕ × Sequencer)

-- it is of this log and this epoch
abbrev is_of : ℕ → ℕ → Sequencer → Bool
is_of l e q = (q.log == l) && (q.epoch == e)

is_itself : (l e : ℕ) (q : Sequencer) → q.log ≡ l → q.epoch ≡ e → is_of l e q ≡ true
is_itself l e q m n = rw (m, n, eq-eqb l l refl, eq-eqb e e refl) refl

-- ---- one sequencer of a table, by its name and by its log and epoch ----

module _ (l e : ℕ) (name : List ℕ) (v : Sequencer) (k : is_of l e v ≡ true) where
  -- the first one of its log and epoch is it
  first_of : (x : List ℕ × Sequencer) (qs : Sequencers) → same name x.0 ≡ true → sequencer_of l e ((x.0, v) ∷ qs) ≡ Some (name, v)
  first_of x qs n = ap (λ b. if b then Some (x.0, v) else sequencer_of l e qs) k ∙ ap (λ y. Some (y, v)) (sym (same-true name x.0 n))

  put_step : (q : Sequencer) (x : List ℕ × Sequencer) (qs rest : Sequencers) (b t : Bool) → same name x.0 ≡ b → is_of l e x.1 ≡ t → (if t then Some x else sequencer_of l e qs) ≡ Some (name, q)
      → (sequencer_of l e qs ≡ Some (name, q) → sequencer_of l e rest ≡ Some (name, v)) → sequencer_of l e (if b then (x.0, v) ∷ qs else x ∷ rest) ≡ Some (name, v)
  put_step q x qs rest true t n i h r = first_of x qs n
  put_step q x qs rest false true n i h r = let s : x ≡ (name, q) = cc in let f : true ≡ false = sym (same-self name) ∙ (sym (ap (λ (y : List ℕ × Sequencer). same name y.0) s) ∙ n) in absurd cc
  put_step q x qs rest false false n i h r = ap (λ b. if b then Some x else sequencer_of l e rest) i ∙ r h

  -- one that is written in its place is found still
  found_still : (q : Sequencer) (qs : Sequencers) → sequencer_of l e qs ≡ Some (name, q) → sequencer_of l e (put_named name v qs) ≡ Some (name, v)
  unfolding put_named
  found_still q [] h = absurd cc
  found_still q (x ∷ qs) h = put_step q x qs (put_named name v qs) (same name x.0) (is_of l e x.1) refl refl h (λ r. found_still q qs r)

  new_step : (x : List ℕ × Sequencer) (qs rest : Sequencers) (b t : Bool) → same name x.0 ≡ b → is_of l e x.1 ≡ t → (if t then Some x else sequencer_of l e qs) ≡ None
      → (sequencer_of l e qs ≡ None → sequencer_of l e rest ≡ Some (name, v)) → sequencer_of l e (if b then (x.0, v) ∷ qs else x ∷ rest) ≡ Some (name, v)
  new_step x qs rest true t n i h r = first_of x qs n
  new_step x qs rest false true n i h r = absurd cc
  new_step x qs rest false false n i h r = ap (λ b. if b then Some x else sequencer_of l e rest) i ∙ r h

  -- so is a new one, where none had its log and epoch
  found_new : (qs : Sequencers) → sequencer_of l e qs ≡ None → sequencer_of l e (put_named name v qs) ≡ Some (name, v)
  unfolding put_named
  found_new [] h = ap (λ b. if b then Some (name, v) else None) k
  found_new (x ∷ qs) h = new_step x qs (put_named name v qs) (same name x.0) (is_of l e x.1) refl refl h (λ r. found_new qs r)

none_step : (c : Config) (r : Register) (l e : ℕ) (x : List ℕ × Sequencer) (o : Option (List ℕ × Sequencer)) (t : Bool) → is_of l e x.1 ≡ t → IsSequencer c r x.1 → (epochs_of r l).epoch < e → o ≡ None → (if t then Some x else o) ≡ None
none_step c r l e x o true i h b n =
    let p = and_parts (x.1.log == l) (x.1.epoch == e) i in
    let d : x.1.epoch ≡ e = eqb-true x.1.epoch e p.1 in
    let f : x.1.epoch ≤ (epochs_of r l).epoch = subst (λ (m : ℕ). x.1.epoch ≤ (epochs_of r m).epoch) (eqb-true x.1.log l p.0) h.handed_out in
    absurd (omega (arith, b, d, f))
none_step c r l e x o false i h b n = n

-- the register handed out the epoch of each sequencer
none_above : (c : Config) (r : Register) (l e : ℕ) (qs : Sequencers) → AllByRecursion (IsNamedSequencer c r) qs → (epochs_of r l).epoch < e → sequencer_of l e qs ≡ None
none_above c r l e [] a b = refl
none_above c r l e (x ∷ qs) a b = none_step c r l e x (sequencer_of l e qs) (is_of l e x.1) refl a.0 b (none_above c r l e qs a.1 b)

named_there : {X : Type 0} (name : List ℕ) (v : X) (m : List (List ℕ × X)) → find_named name (put_named name v m) ≡ Some v
named_there name v m = find_named-put_named name name v m ∙ ap (λ b. cond b (Some v) (find_named name m)) (same-self name)

-- the register of a sound state has room
pub has_room : (c : Config) (s : State) → IsInBounds c → IsSound c s → HasRoom c s.register
has_room c s b h l k = room_there c b s.register l h.register k

-- ---- a step ----

-- nothing comes of it
quiet : (stands : State → Type 0) (s : State) (o : Outcome) (d : Done) → d ≡ unchanged s → stands s → o.lines.items ≡ [] → o.sends ≡ [] → IsActed stands s o.lines.items o.sends d
quiet stands s o d e h ls ms = subst (λ (x : Done). IsActed stands s o.lines.items o.sends x) (sym e) record {
  actor = h;
  nodes = refl;
  network = refl;
  lines = ls;
  sends = ms;
  own = ap own_lines ls ∙ sym ls;
  asks = subst (λ xs. AllByRecursion (λ m. is_answer m ≡ false) xs) (sym ms) tt;
}

pub serves_as : {R : Type 0} (tells : R → Register → Type 0) (c : Config) (s : State) (n m : List ℕ) (o p : Option Whole) (x y : R) (ls : List Line) (ms : List Msg) (d : Done) → n ≡ m → o ≡ p → x ≡ y
    → IsActed (Serves m p (tells y) c) s ls ms d → IsActed (Serves n o (tells x) c) s ls ms d
serves_as tells c s n m o p x y ls ms d e f k h =
    subst (λ z. IsActed (Serves z o (tells x) c) s ls ms d) (sym e) (subst (λ z. IsActed (Serves m z (tells x) c) s ls ms d) (sym f) (subst (λ z. IsActed (Serves m p (tells z) c) s ls ms d) (sym k) h))

-- ---- an append ----

-- an append never meets the register
pub append_lines : (name : List ℕ) (n : ℕ) (a : Appending) (fault : SequencerFault) → fault ≡ append_fault n a → lines_by name (Err fault) ≡ fault_lines name fault
append_lines name n sequencer.TooLong fault f = subst (λ x. lines_by name (Err x) ≡ fault_lines name x) (sym f) refl
append_lines name n (sequencer.Preempted k) fault f = subst (λ x. lines_by name (Err x) ≡ fault_lines name x) (sym f) refl
append_lines name n sequencer.EpochFull fault f = subst (λ x. lines_by name (Err x) ≡ fault_lines name x) (sym f) refl
append_lines name n sequencer.WindowFull fault f = subst (λ x. lines_by name (Err x) ≡ fault_lines name x) (sym f) refl
append_lines name n sequencer.Numbered fault f = subst (λ x. lines_by name (Err x) ≡ fault_lines name x) (sym f) refl

-- neither does a trim
pub trim_lines : (name : List ℕ) (released point : ℕ) (fault : SequencerFault) → fault ≡ trim_fault released point → lines_by name (Err fault) ≡ fault_lines name fault
trim_lines name released point fault f = subst (λ x. lines_by name (Err x) ≡ fault_lines name x) (sym f) (lines_if (nat_lt released point))
  where
    lines_if : (b : Bool) → lines_by name (Err (if b then faults.PastReleased released else faults.NoMemory)) ≡ fault_lines name (if b then faults.PastReleased released else faults.NoMemory)
    lines_if true = refl
    lines_if false = refl

-- ---- what it takes ----

pub takes_none : (c : Config) (s : State) (name : List ℕ) (T : Register → Type 0) (m : Msg) → Serves name None T c s → false ≡ takes name s m
takes_none c s name T m h = sym (ap (λ o. takes_it o m) h.sequencer)

pub takes_one : (c : Config) (s : State) (name : List ℕ) (T : Register → Type 0) (w : Whole) (m : Msg) (b : Bool) → Serves name (Some w) T c s → b ≡ (is_to w.sequencer.epoch m.to && (m.log == w.sequencer.spec.log)) → b ≡ takes name s m
takes_one c s name T w m b h e = e ∙ (ap (λ n. is_to w.sequencer.epoch m.to && (m.log == n)) (sym h.sequencer.whole.log) ∙ sym (ap (λ o. takes_it o m) h.sequencer.there))

-- ---- events of a sequencer ----

-- they are of the one that the state has under the name
append_at : (c : Config) (s : State) (name p : List ℕ) (o : Option Sequencer) → find_named name s.sequencers ≡ o → happens c s (events.Append name p) ≡ on_live s o (λ q. append_row s name q p (appending q p))
unfolding happens
append_at c s name p o h = ap (λ (x : Option Sequencer). on_live s x (λ q. append_row s name q p (appending q p))) h

trim_at : (c : Config) (s : State) (name : List ℕ) (n : ℕ) (o : Option Sequencer) → find_named name s.sequencers ≡ o → happens c s (events.Trim name n) ≡ on_live s o (λ q. trim_row c s name q n)
unfolding happens
trim_at c s name n o h = ap (λ (x : Option Sequencer). on_live s x (λ q. trim_row c s name q n)) h

retry_at : (c : Config) (s : State) (name : List ℕ) (o : Option Sequencer) → find_named name s.sequencers ≡ o → happens c s (events.Retry name) ≡ on_live s o (λ q. acted c s name q (on_retry (looks_at c s.register q.log) q))
unfolding happens
retry_at c s name o h = ap (λ (x : Option Sequencer). on_live s x (λ q. acted c s name q (on_retry (looks_at c s.register q.log) q))) h

module _ (c : Config) (s : State) (name : List ℕ) (T : Register → Type 0) where
  pub none_appended : (p : List ℕ) (o : Outcome) → Serves name None T c s → o.lines.items ≡ [] → o.sends ≡ [] → IsActed (Serves name None T c) s o.lines.items o.sends (happens c s (events.Append name p))
  none_appended p o h ls ms = quiet (Serves name None T c) s o _ (append_at c s name p None h.sequencer) h ls ms

  pub none_trimmed : (n : ℕ) (o : Outcome) → Serves name None T c s → o.lines.items ≡ [] → o.sends ≡ [] → IsActed (Serves name None T c) s o.lines.items o.sends (happens c s (events.Trim name n))
  none_trimmed n o h ls ms = quiet (Serves name None T c) s o _ (trim_at c s name n None h.sequencer) h ls ms

  pub none_retried : (o : Outcome) → Serves name None T c s → o.lines.items ≡ [] → o.sends ≡ [] → IsActed (Serves name None T c) s o.lines.items o.sends (happens c s (events.Retry name))
  none_retried o h ls ms = quiet (Serves name None T c) s o _ (retry_at c s name None h.sequencer) h ls ms

  module _ (w : Whole) (h : Serves name (Some w) T c s) where
    is_named : IsNamed c s name (Live w)
    is_named = record { found = ap (option_map faded) h.sequencer.there ∙ ap (λ (q : Sequencer). Some q) (unfaded w.sequencer h.sequencer.whole.live); knows = h.sequencer.knows }

    -- the same one is written in its place
    serving_on : (g : Whole) (o : Outcome) (U : Register → Type 0) (d : Done) → GoesOn (Live w) (Live g) → HasActed s name (Live g) o U d → IsServing name g c d.state.sequencers
    serving_on g o U d e a =
        let whole : IsWhole g = whole_after (Live w) (Live g) e h.sequencer.whole in
        let is : a.sequencer ≡ g.sequencer = same_some a.sequencer g.sequencer (found_live (Some a.sequencer) g.sequencer whole.live (ap (λ (q : Sequencer). Some q) a.seen)) in
        let now : d.state.sequencers ≡ put_named name g.sequencer s.sequencers = ap (λ (x : State). x.sequencers) a.state ∙ ap (λ (q : Sequencer). put_named name q s.sequencers) is in
        subst (IsServing name g c) (sym now) record {
          there = named_there name g.sequencer s.sequencers;
          found = found_still g.sequencer.log g.sequencer.epoch name g.sequencer (is_itself g.sequencer.log g.sequencer.epoch g.sequencer refl refl) w.sequencer s.sequencers ((λ i. sequencer_of (e.log i) (e.epoch i) s.sequencers) ∙ h.sequencer.found);
          knows = knows_after c (Live w) (Live g) e h.sequencer.knows;
          whole = whole;
        }

    -- what a call of it did
    goes_on : (g : Whole) (o : Outcome) (U : Register → Type 0) (d : Done) → GoesOn (Live w) (Live g) → HasActed s name (Live g) o U d → IsClient s d → IsActed (Serves name (Some g) U c) s o.lines.items o.sends d
    goes_on g o U d e a k = record {
      actor = record { sequencer = serving_on g o U d e a; register = a.register };
      nodes = k.nodes;
      network = k.network;
      lines = a.lines;
      sends = a.sends;
      own = ap own_lines a.lines ∙ (k.own ∙ sym a.lines);
      asks = subst (λ ms. AllByRecursion (λ m. is_answer m ≡ false) ms) (sym a.sends) k.asks;
    }

    -- without a call of the register it is told as before
    stays_told : (g : Whole) (o : Outcome) (d : Done) → HasActed s name (Live g) o (Stays s) d → HasActed s name (Live g) o T d
    stays_told g o d a = record { sequencer = a.sequencer; seen = a.seen; state = a.state; register = subst T (sym a.register) h.register; lines = a.lines; sends = a.sends }

    acts_as : (g : Whole) (o : Outcome) (U : Register → Type 0) (d x : Done) → d ≡ x → HasActed s name (Live g) o U x → HasActed s name (Live g) o U d
    acts_as g o U d x e a = subst (λ (y : Done). HasActed s name (Live g) o U y) (sym e) a

    appended_as : (g : Whole) (p : List ℕ) (o : Outcome) → GoesOn (Live w) (Live g)
        → HasActed s name (Live g) o (Stays s) (on_live s (Some (shown (Live w))) (λ q. append_row s name q p (appending q p))) → IsActed (Serves name (Some g) T c) s o.lines.items o.sends (happens c s (events.Append name p))
    appended_as g p o e a = goes_on g o T _ e (acts_as g o T _ _ (append_at c s name p (Some w.sequencer) h.sequencer.there) (stays_told g o _ a)) (append_client c s name p)

    pub is_appended : (g : Whole) (p own : List ℕ) (number : ℕ) (o : Outcome) → g ≡ as_now w (appended w.sequencer p) → appending w.sequencer p ≡ sequencer.Numbered → own ≡ name → number ≡ numbered w.sequencer.epoch (next_esn w.sequencer)
        → o.lines.items ≡ lines.Appended own number ∷ [] → o.sends ≡ sent_as w (first_stores w.sequencer p) → IsActed (Serves name (Some g) T c) s o.lines.items o.sends (happens c s (events.Append name p))
    is_appended g p own number o v n u m ls ms = appended_as g p o (appended_goes (Live w) w refl g p v)
        (append_done c s name (Live w) is_named h.sequencer.whole w refl g p own number o v n u m ls ms)

    pub not_appended : (g : Whole) (p : List ℕ) (fault : SequencerFault) (o : Outcome) → g ≡ w → fault ≡ append_fault (length p) (appending w.sequencer p) → (fault ≢ faults.NoMemory)
        → o.lines.items ≡ fault_lines name fault → o.sends ≡ [] → IsActed (Serves name (Some g) T c) s o.lines.items o.sends (happens c s (events.Append name p))
    not_appended g p fault o e f n ls ms = appended_as g p o (unchanged_goes (Live w) w refl g e)
        (append_refused c s name (Live w) is_named h.sequencer.whole w refl g p fault o e f n ls ms)

    trimmed_as : (n : ℕ) (o : Outcome) → HasActed s name (Live w) o (Stays s) (on_live s (Some (shown (Live w))) (λ q. trim_row c s name q n)) → IsActed (Serves name (Some w) T c) s o.lines.items o.sends (happens c s (events.Trim name n))
    trimmed_as n o a = goes_on w o T _ (unchanged_goes (Live w) w refl w refl) (acts_as w o T _ _ (trim_at c s name n (Some w.sequencer) h.sequencer.there) (stays_told w o _ a)) (trim_client c s name n)

    pub is_trimmed : (n : ℕ) (own : List ℕ) (o : Outcome) → n ≤ released_of w.sequencer → own ≡ name → o.lines.items ≡ lines.Trimmed own n ∷ [] → o.sends ≡ sent_as w (to_each (bodies.Trim n) (members w.origin.nodes))
        → IsActed (Serves name (Some w) T c) s o.lines.items o.sends (happens c s (events.Trim name n))
    is_trimmed n own o l u ls ms = trimmed_as n o (trim_done c s name (Live w) is_named h.sequencer.whole w refl n own o l u ls ms)

    pub not_trimmed : (n : ℕ) (fault : SequencerFault) (o : Outcome) → fault ≡ trim_fault (released_of w.sequencer) n → (fault ≢ faults.NoMemory) → o.lines.items ≡ fault_lines name fault → o.sends ≡ []
        → IsActed (Serves name (Some w) T c) s o.lines.items o.sends (happens c s (events.Trim name n))
    not_trimmed n fault o f x ls ms = trimmed_as n o (trim_refused c s name (Live w) is_named h.sequencer.whole w refl n fault o f x ls ms)

    -- ---- a retry or an answer ----

    not_limit : (X : Type 0) (r : Result Report SequencerFault) → IfErr r (λ fault. (fault ≡ faults.NoMemory) ⊎ ((fault ≡ faults.Register registers.LogLimit) × (is_crowded s.register w.sequencer.log ≡ true) × X))
        → is_crowded s.register w.sequencer.log ≡ false → r ≢ Err (faults.Register registers.LogLimit)
    not_limit X (Ok report) x room e = absurd cc
    not_limit X (Err fault) (inl f) room e = let g : fault ≡ faults.Register registers.LogLimit = cc in let z : faults.NoMemory ≡ faults.Register registers.LogLimit = sym f ∙ g in absurd cc
    not_limit X (Err fault) (inr y) room e = let f = sym room ∙ y.1 in absurd cc

    -- a message of its log and epoch comes to it
    comes_here : (a : Msg) → (a.to ≡ whos.Sequencer w.sequencer.epoch) → (a.log ≡ w.sequencer.spec.log) → comes_to c s a a.to ≡ to_live c s name w.sequencer a
    comes_here a to log = ap (comes_to c s a) to
        ∙ ap (to_sequencer c s a) (ap (λ (l : ℕ). sequencer_of l w.sequencer.epoch s.sequencers) (log ∙ sym h.sequencer.whole.log) ∙ h.sequencer.found)

    module _ (g : Whole) (r : Result Report SequencerFault) (old new : List Msg) (o : Outcome) (U : Register → Type 0) (b : IsInBounds c) (sound : IsSound c s) (m : r ≢ Err faults.NoMemory)
        (x : IfErr r (λ fault. (fault ≡ faults.NoMemory) ⊎ ((fault ≡ faults.Register registers.LogLimit) × (is_crowded s.register w.sequencer.log ≡ true) × U s.register)))
        (empty : old ≡ []) (ls : o.lines.items ≡ lines_by name r) (ms : o.sends ≡ new) where
      room_is : is_crowded s.register w.sequencer.log ≡ false
      room_is = has_room c s b sound w.sequencer.log h.sequencer.knows.there

      lines_are : o.lines.items ≡ told_lines name r
      lines_are = ls ∙ has_lines name r (not_limit (U s.register) r x room_is)

      pub retried : IfOk r (λ report. Acted w g report old new (called_by w s.register (retry_acts (looks_of w s.register) w)).acts × U (called_by w s.register (retry_acts (looks_of w s.register) w)).register)
          → IfOk r (λ report. ActedBy w g report old new (λ looks. retry_acts looks w))
          → IfErr r (λ fault. Unlooked w g fault old new (raised_whole w).sequencer (pending_stores (raised_whole w)) (λ looks. retry_acts looks w) ⊎ ((looks : ℕ → View) → IsRefused w g fault old new (retry_acts looks w)))
          → IsActed (Serves name (Some g) U c) s o.lines.items o.sends (happens c s (events.Retry name))
      retried y a f =
          let done = retry_done c s name (Live w) is_named h.sequencer.whole w refl r g (retried_goes (Live w) w refl g r old new a f m) old new o U y x m room_is empty lines_are ms in
          goes_on g o U _ (retried_goes (Live w) w refl g r old new a f m) (acts_as g o U _ _ (retry_at c s name (Some w.sequencer) h.sequencer.there) done) (retry_client c s name)

      pub answered : (a : Msg) → (a.to ≡ whos.Sequencer w.sequencer.epoch) → (a.log ≡ w.sequencer.spec.log)
          → IfOk r (λ report. Acted w g report old new (called_by w s.register (reply_acts (looks_of w s.register) w a.from a.body)).acts × U (called_by w s.register (reply_acts (looks_of w s.register) w a.from a.body)).register)
          → IfOk r (λ report. ActedBy w g report old new (λ looks. reply_acts looks w a.from a.body))
          → IfErr r (λ fault. Unseen w g fault old new a.body ⊎ (Unlooked w g fault old new w.sequencer [] (λ looks. reply_acts looks w a.from a.body) ⊎ ((looks : ℕ → View) → IsRefused w g fault old new (reply_acts looks w a.from a.body))))
          → IsActed (Serves name (Some g) U c) s o.lines.items o.sends (comes_to c s a a.to)
      answered a to log y t f =
          let e : GoesOn (Live w) (Live g) = replied_goes (Live w) w refl g r old new a.from a.body t f m in
          let done = reply_done c s name (Live w) is_named h.sequencer.whole w refl a r g e old new o U y x m room_is empty lines_are ms in
          subst (λ (d : Done). IsActed (Serves name (Some g) U c) s o.lines.items o.sends d) (sym (comes_here a to log))
          (goes_on g o U _ e done (reply_client c s a (Some (name, w.sequencer))))

-- ---- an activation ----

pub active_log : (origin : Origin) (spec : Spec) (looks : ℕ → View) (g : Grant) (w : Whole) (old new : List Msg) → IsActive origin spec looks g w old new → w.sequencer.log ≡ spec.log
unfolding sequencer.activated
active_log origin spec looks g w old new h = ap (λ (x : Whole). x.sequencer.log) h.value

refused_as : (name : List ℕ) (fault : SequencerFault) (origin : Origin) (spec : Spec) (looks : ℕ → View) (old new : List Msg) (x : Answer) (full : Bool) (g : Grant) → Activates origin spec looks old new (Err fault) (ended x full registers.EpochLimit g) → start_lines name fault ≡ fault_lines name fault
refused_as name fault origin spec looks old new Granted full g h = absurd h
refused_as name fault origin spec looks old new AtLimit full g h = subst (λ x. start_lines name x ≡ fault_lines name x) (sym h.0) refl
refused_as name fault origin spec looks old new (Behind lce) full g h = subst (λ x. start_lines name x ≡ fault_lines name x) (sym h.0) refl
refused_as name fault origin spec looks old new (Overtaken kept) full g h = subst (λ x. start_lines name x ≡ fault_lines name x) (sym h.0) refl
refused_as name fault origin spec looks old new Fails true g h = subst (λ x. start_lines name x ≡ fault_lines name x) (sym h.0) refl
refused_as name fault origin spec looks old new Fails false g h = subst (λ x. start_lines name x ≡ fault_lines name x) (sym h.0) refl

-- neither a crowded nor a damaged register is met
refused_is : (name : List ℕ) (fault : SequencerFault) (origin : Origin) (spec : Spec) (looks : ℕ → View) (old new : List Msg) (b : Bool) (x : Answer) (full : Bool) (g : Grant) → b ≡ false
    → Activates origin spec looks old new (Err fault) (if b then Err registers.LogLimit else ended x full registers.EpochLimit g) → start_lines name fault ≡ fault_lines name fault
refused_is name fault origin spec looks old new true x full g e h = absurd cc
refused_is name fault origin spec looks old new false x full g e h = refused_as name fault origin spec looks old new x full g h

refused_lines : (name : List ℕ) (fault : SequencerFault) (origin : Origin) (spec : Spec) (looks : ℕ → View) (old new : List Msg) (r : Register) (before after : Type 0) → (fault ≢ faults.NoMemory) → is_crowded r spec.log ≡ false
    → (IsErrOf {T = Whole} (Err fault) faults.NoMemory × before) ⊎ (Activates origin spec looks old new (Err fault) (granted r spec) × after) → start_lines name fault ≡ fault_lines name fault
refused_lines name fault origin spec looks old new r before after n room (inl x) = let e : fault ≡ faults.NoMemory = cc in absurd (n e)
refused_lines name fault origin spec looks old new r before after n room (inr x) = refused_is name fault origin spec looks old new (is_crowded r spec.log) _ _ _ room x.0

-- ---- the sequencers of a sound state ----

-- what the configuration says of each of them is known
abbrev client_of : Config → Sequencer → Client
client_of c q = if q.gone then Gone q.log q.epoch else Live (record { origin = origin_of c.nodes (first_spec c q.log); sequencer = q })

shown_if : (b : Bool) (l e : ℕ) (w : Whole) → (if b then gone_of l e else w.sequencer) ≡ shown (if b then Gone l e else Live w)
shown_if true l e w = refl
shown_if false l e w = refl

all_shown : (c : Config) (qs : Sequencers) → each_as faded qs ≡ sequencers_of (each_as (client_of c) qs)
all_shown c [] = refl
all_shown c (x ∷ qs) = λ i. (x.0, shown_if x.1.gone x.1.log x.1.epoch (record { origin = origin_of c.nodes (first_spec c x.1.log); sequencer = x.1 }) i) ∷ all_shown c qs i

knows_if : (c : Config) (b : Bool) (q : Sequencer) → has_log c q.log ≡ true → KnowsIn c (if b then Gone q.log q.epoch else Live (record { origin = origin_of c.nodes (first_spec c q.log); sequencer = q }))
knows_if c true q h = h
knows_if c false q h = record { nodes = refl; first = refl; there = h }

known_by : (c : Config) (r : Register) (o : Option Sequencer) (k : Client) → ((q : Sequencer) → o ≡ Some q → IsSequencer c r q) → option_map (client_of c) o ≡ Some k → KnowsIn c k
known_by c r None k h e = absurd cc
known_by c r (Some q) k h e = let i : client_of c q ≡ k = cc in subst (KnowsIn c) i (knows_if c q.gone q (h q refl).log)

all_clients : (c : Config) (s : State) → IsSound c s → AreSequencers c s (each_as (client_of c) s.sequencers)
all_clients c s h = record {
  sequencers = all_shown c s.sequencers;
  logs = λ name k e. known_by c s.register (find_named name s.sequencers) k (λ q f. all-find_named (IsSequencer c s.register) name s.sequencers q h.sequencers f) (sym (find_each (client_of c) name s.sequencers) ∙ e);
}

-- ---- the epoch that is handed out ----

granted_as : (origin : Origin) (spec : Spec) (looks : ℕ → View) (old new : List Msg) (w : Whole) (b : Bool) (x : Answer) (full : Bool) (g : Grant) → Activates origin spec looks old new (Ok w) (if b then Err registers.LogLimit else ended x full registers.EpochLimit g)
    → (b ≡ false) × (x ≡ Granted) × IsActive origin spec looks g w old new
granted_as origin spec looks old new w true x full g h = absurd h
granted_as origin spec looks old new w false Granted full g h = (refl, refl, h)
granted_as origin spec looks old new w false AtLimit full g h = absurd h
granted_as origin spec looks old new w false (Behind lce) full g h = absurd h
granted_as origin spec looks old new w false (Overtaken kept) full g h = absurd h
granted_as origin spec looks old new w false Fails true g h = absurd h
granted_as origin spec looks old new w false Fails false g h = absurd h

changed_logs : (r : Register) (spec : Spec) → (activate r spec.log spec).answer ≡ Granted → (activate r spec.log spec).register.logs ≡ put spec.log (next_epoch (epochs_of r spec.log) spec) r.logs
unfolding activate
changed_logs r spec = by_test (nat_le epoch_limit (epochs_of r spec.log).epoch) _ _ (λ (d : Changed). d.answer ≡ Granted → d.register.logs ≡ put spec.log (next_epoch (epochs_of r spec.log) spec) r.logs)
    (λ t h. absurd cc) (λ t h. (change_granted r (with_epochs r spec.log (next_epoch (epochs_of r spec.log) spec)) 13 h).0)

after_if : (b : Bool) (x y : Register) → b ≡ false → (if b then x else y) ≡ y
after_if true x y e = absurd cc
after_if false x y e = refl

-- it is the one behind the log's
epoch_next : (r : Register) (spec : Spec) → is_crowded r spec.log ≡ false → (activate r spec.log spec).answer ≡ Granted → (epochs_of (after_activate r spec) spec.log).epoch ≡ (epochs_of r spec.log).epoch + 1
epoch_next r spec room e =
    ap (λ (x : Register). (epochs_of x spec.log).epoch) (after_if (is_crowded r spec.log) r (activate r spec.log spec).register room)
    ∙ (ap (λ m. (unwrap_or (find spec.log m) no_epochs).epoch) (changed_logs r spec e)
    ∙ ap (λ (o : Option Epochs). (unwrap_or o no_epochs).epoch) (find-put_same spec.log spec.log (next_epoch (epochs_of r spec.log) spec) r.logs refl))

active_epoch : (origin : Origin) (spec : Spec) (looks : ℕ → View) (g : Grant) (w : Whole) (old new : List Msg) → IsActive origin spec looks g w old new → w.sequencer.epoch ≡ g.epoch
unfolding sequencer.activated
active_epoch origin spec looks g w old new h = ap (λ (x : Whole). x.sequencer.epoch) h.value

-- no sequencer that is there has it
new_epoch : (c : Config) (s : State) → IsSound c s → (spec : Spec) (old new : List Msg) (w : Whole) (before after : Type 0)
    → (IsErrOf {E = SequencerFault} (Ok w) faults.NoMemory × before) ⊎ (Activates (origin_of c.nodes spec) spec (looks_after spec spec s.register) old new (Ok w) (granted s.register spec) × after)
    → sequencer_of w.sequencer.log w.sequencer.epoch s.sequencers ≡ None
new_epoch c s h spec old new w before after (inl x) = let e : Ok w ≡ Err faults.NoMemory = x.0 in absurd cc
new_epoch c s h spec old new w before after (inr x) =
    let g : Grant = granted_now s.register spec in
    let looks = looks_after spec spec s.register in
    let p = granted_as (origin_of c.nodes spec) spec looks old new w (is_crowded s.register spec.log) (activate s.register spec.log spec).answer (is_full s.register activation_length) g x.0 in
    let l : w.sequencer.log ≡ spec.log = active_log (origin_of c.nodes spec) spec looks g w old new p.2 in
    let e : w.sequencer.epoch ≡ g.epoch = active_epoch (origin_of c.nodes spec) spec looks g w old new p.2 in
    let n : g.epoch ≡ (epochs_of s.register spec.log).epoch + 1 = epoch_next s.register spec p.0 p.1 in
    subst (λ (m : ℕ). sequencer_of m w.sequencer.epoch s.sequencers ≡ None) (sym l) (none_above c s.register spec.log w.sequencer.epoch s.sequencers h.sequencers (omega (arith, e, n)))

-- ---- an activation is done ----

-- a table that reads so has it
module _ (name : List ℕ) (q : Sequencer) (qs ps : Sequencers) (live : q.gone ≡ false) (h : each_as faded qs ≡ put_named name q (each_as faded ps)) where
  named_now : find_named name qs ≡ Some q
  named_now = found_live (find_named name qs) q live (sym (find_each faded name qs) ∙ (ap (find_named name) h ∙ named_there name q (each_as faded ps)))

  found_pair : (o : Option (List ℕ × Sequencer)) → option_map as_faded o ≡ Some (name, q) → o ≡ Some (name, q)
  found_pair None e = absurd cc
  found_pair (Some x) e =
      let t : (x.0, faded x.1) ≡ (name, q) = same_some (x.0, faded x.1) (name, q) e in
      let s : x.1 ≡ q = same_some x.1 q (found_live (Some x.1) q live (ap (λ (y : List ℕ × Sequencer). Some y.1) t)) in
      λ i. Some ((t i).0, s i)

  found_now : sequencer_of q.log q.epoch ps ≡ None → sequencer_of q.log q.epoch qs ≡ Some (name, q)
  found_now n = found_pair (sequencer_of q.log q.epoch qs) (sym (sequencer_of_faded q.log q.epoch qs) ∙ (ap (sequencer_of q.log q.epoch) h
      ∙ found_new q.log q.epoch name q (is_itself q.log q.epoch q refl refl) (each_as faded ps) (sequencer_of_faded q.log q.epoch ps ∙ ap (option_map as_faded) n)))

module _ (c : Config) (s : State) (name : List ℕ) (T : Register → Type 0) (h : Serves name None T c s) (b : IsInBounds c) (sound : IsSound c s) (spec : Spec) (is : IsSpecOf c spec) (unset : IsUnset c s spec) (U : Register → Type 0) (old new : List Msg) (o : Outcome) (before : Type 0) (empty : old ≡ []) (ms : o.sends ≡ new) where
  abbrev ks : List (List ℕ × Client)
  ks = each_as (client_of c) s.sequencers

  none_there : find_named name ks ≡ None
  none_there = find_each_none (client_of c) name s.sequencers h.sequencer

  acts : (p : Option Whole) (d : Done) → MayServe name p c d.state.sequencers → (gs : List (List ℕ × Client)) → acting.IsActed s gs o U d → IsClient s d → IsActed (Serves name p U c) s o.lines.items o.sends d
  acts p d m gs a k = record {
    actor = record { sequencer = m; register = a.register };
    nodes = k.nodes;
    network = k.network;
    lines = a.lines;
    sends = a.sends;
    own = ap own_lines a.lines ∙ (k.own ∙ sym a.lines);
    asks = subst (λ xs. AllByRecursion (λ m. is_answer m ≡ false) xs) (sym a.sends) k.asks;
  }

  pub is_activated : (w : Whole) (own : List ℕ) (g : Grant) (looks : ℕ → View) → IsActive (origin_of c.nodes spec) spec looks g w old new → (IsErrOf {E = SequencerFault} (Ok w) faults.NoMemory × before) ⊎ (Activates (origin_of c.nodes spec) spec (looks_after spec spec s.register) old new (Ok w) (granted s.register spec) × U (after_activate s.register spec))
      → own ≡ name → o.lines.items ≡ lines.Active own w.sequencer.epoch ∷ [] → IsActed (Serves name (Some w) U c) s o.lines.items o.sends (happens c s (events.Activate name spec.log))
  is_activated w own g looks active x n ls =
      let d : Done = happens c s (events.Activate name spec.log) in
      let done : acting.IsActed s (put_named name (Live w) ks) o U d = granted_done c s ks (all_clients c s sound) name o U spec spec is.is is.there (sym unset) (ap is_some none_there) (has_room c s b sound) w old new own (put_named name (Live w) ks) before x empty n (ap (λ m. put_named m (Live w) ks) (sym n)) ls ms in
      let whole : IsWhole w = active_whole (origin_of c.nodes spec) spec looks g w old new active in
      let reads : each_as faded d.state.sequencers ≡ put_named name w.sequencer (each_as faded s.sequencers) = done.sequencers ∙ (sym (put_each shown name (Live w) ks) ∙ ap (put_named name w.sequencer) (sym (all_shown c s.sequencers))) in
      acts (Some w) d record {
        there = named_now name w.sequencer d.state.sequencers s.sequencers whole.live reads;
        found = found_now name w.sequencer d.state.sequencers s.sequencers whole.live reads (new_epoch c s sound spec old new w before (U (after_activate s.register spec)) x);
        knows = know_active c [] name spec.log spec spec looks g w old new is.is is.there refl active (all_none (KnowsIn c)) name (Live w) (named_there name (Live w) []);
        whole = whole;
      } (put_named name (Live w) ks) done (activate_client c s name spec.log)

  pub not_activated : (fault : SequencerFault) → (fault ≢ faults.NoMemory) → (IsErrOf {T = Whole} (Err fault) faults.NoMemory × before) ⊎ (Activates (origin_of c.nodes spec) spec (looks_after spec spec s.register) old new (Err fault) (granted s.register spec) × U (after_activate s.register spec))
      → o.lines.items ≡ start_lines name fault → IsActed (Serves name None U c) s o.lines.items o.sends (happens c s (events.Activate name spec.log))
  not_activated fault n x ls =
      let d : Done = happens c s (events.Activate name spec.log) in
      let done : acting.IsActed s ks o U d = refused_done c s ks (all_clients c s sound) name o U spec spec is.is is.there (sym unset) (ap is_some none_there) (has_room c s b sound) old new fault before n x empty (ls ∙ refused_lines name fault (origin_of c.nodes spec) spec (looks_after spec spec s.register) old new s.register _ _ n (has_room c s b sound spec.log is.there) x) ms in
      acts None d (none_as c d.state ks (record { sequencers = done.sequencers; logs = (all_clients c s sound).logs }) name none_there) ks done (activate_client c s name spec.log)
