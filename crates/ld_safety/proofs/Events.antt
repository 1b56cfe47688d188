-- What a step may come to, case by case: whoever speaks of all steps answers these cases once.
use Rattle.std.proofs.Common.{◌≡◌, ◌∙◌, ◌≤◌, ◌<◌, ℕ, inl, inr, refl, ap, sym, subst, Bool, true, false, not, ◌&&◌, ◌||◌, ◌==◌, List, [], ◌∷◌, ◌++◌, append_assoc, length, Option, Some, None, is_some, cond, if◌then◌else◌, nat_lt, nat_le, arith}
use Rattle.std.proofs.lemmas.Bool.{cases_Bool, and_parts, or_parts, or_left, or_right, ltb-true, ltb-false, eqb-false}
use Rattle.ld_table.specs.Named.{find_named}
use Rattle.ld_table.specs.Table.{put}
use Rattle.ld_ids.specs.Set.{members}
use Rattle.ld_ids.specs.declared.set.Spec.{Spec}
use Rattle.ld_schedule.specs.declared.event.Event.TheVariants as events
use Rattle.ld_transcript.specs.declared.line.Line.{Line}
use Rattle.ld_transcript.specs.declared.line.Line.TheVariants as lines
use Rattle.ld_msg.specs.declared.msg.Who.{Who}
use Rattle.ld_msg.specs.declared.msg.Who.TheVariants as whos
use Rattle.ld_msg.specs.declared.msg.Msg.{Msg}
use Rattle.ld_op.specs.declared.op.Op.TheVariants as ops
use Rattle.ld_op.specs.Plain.{log_of}
use Rattle.ld_op.specs.Ticks.{Ticked, on_tick}
use Rattle.ld_config.specs.declared.config.Config.{Config}
use Rattle.ld_machine.specs.Config.{all_nodes, looks_at, has_log, has_node}
use Rattle.ld_msg.specs.Register.{Register, Changed, Answer, Granted, AtLimit, Behind, Overtaken, Fails, activate, draw, swap, epochs_of, epochs_in, generation_of, lce_of}
use Rattle.ld_machine.specs.Disk.{Fault, new_node, Kept, Written, DiskFailed, Crashed, JournalFull, load, load_end, is_up, is_blank, is_down, is_failed}
use Rattle.ld_msg.specs.Network.{message}
use Rattle.ld_msg.specs.Sequencer.{Sequencer, Acts, Called, called, release_messages, Appending, TooLong, Preempted, EpochFull, WindowFull, Numbered, appending, released_of, on_reply, on_retry, to_each}
use Rattle.ld_msg.specs.declared.msg.Body.{Body}
use Rattle.ld_msg.specs.declared.msg.Body.TheVariants as bodies
use Rattle.ld_msg.specs.Reader.{Reader, opened, is_finished, on_answer, polled, poll_asks}
use Rattle.ld_machine.specs.State.{State, Done, node_at, with_node, with_register, with_sequencer, with_reader, unchanged, only_state, with_line, posted, sequencer_of, reader_of}
use Rattle.ld_machine.specs.Step as Step
use Rattle.ld_machine.specs.Calm as Calm
use Rattle.ld_machine.specs.Calm.{Move, Takes, Calms, event_of, announcements, calms_with, calms_acts}
use Rattle.ld_machine.specs.World.{In, Made, made_by, made_with, made_for, made_at, made_on, made_again, made_retried, page_from}
use Rattle.ld_safety.proofs.Lists.{In-slice_get, not_none, branch, cond_both}
use Rattle.ld_safety.proofs.Members.{In_filter}
use Rattle.ld_safety.proofs.Names.{Once, found, sequencer_found, reader_found}
use Rattle.ld_machine.specs.Facts.{AsksToAppend}
use Rattle.ld_msg.specs.declared.style.Style.{Style}
use Rattle.ld_msg.specs.declared.style.Style.TheVariants as styles
use Rattle.ld_batch.specs.Batch.{packed}

-- a line that no fact of a run is read from
abbrev pub is_quiet : Line → Bool
is_quiet (lines.NodeFormatted n g) = false
is_quiet (lines.NodeLost n l e) = false
is_quiet (lines.NodeWiped n) = false
is_quiet (lines.NodeRebuilt n l) = false
is_quiet (lines.Active s e) = false
is_quiet (lines.Appended s n) = false
is_quiet (lines.Acked s n) = false
is_quiet (lines.Released s n) = false
is_quiet (lines.Trimmed s t) = false
is_quiet (lines.Record r n p) = false
is_quiet (lines.BatchMessage r n i p) = false
is_quiet (lines.Gap r kind low high) = false
is_quiet (lines.Set l r x set) = false
is_quiet lines.Nothing = false
is_quiet (lines.Message i from to kind n) = false
is_quiet _ = true

-- with other messages marked as new
abbrev pub refreshed : State → List ℕ → State
refreshed s f = record s { network = record s.network { fresh = f } }

abbrev pub loaded : State → ℕ → State
loaded s n = with_node s n (load (node_at s n))

-- with other nodes, factor and extras for later activations of a log
abbrev pub with_spec : State → ℕ → Spec → State
with_spec s l p = record s { specs = put l p s.specs }

-- sequencers and readers each have names of their own
abbrev pub NamesOnce : State → Type 0
NamesOnce s = Once s.sequencers × Once s.readers

-- the sequencer of a name that isn't dropped
pub record Live (s : State) (name : List ℕ) (q : Sequencer) : Type 0 where
  pub named : find_named name s.sequencers ≡ Some q
  pub there : q.gone ≡ false

-- the reader of a name that isn't finished
pub record Reading (s : State) (name : List ℕ) (d : Reader) : Type 0 where
  pub named : find_named name s.readers ≡ Some d
  pub open_still : is_finished d ≡ false

pub record Opens (c : Config) (s : State) (name : List ℕ) (l from until : ℕ) : Type 0 where
  pub log : has_log c l ≡ true
  pub fresh_name : find_named name s.readers ≡ None
  pub positive : from ≡ 0 → ⊥
  pub in_order : from ≤ until

pub record Serves (c : Config) (s : State) (n l : ℕ) : Type 0 where
  pub up : is_up (node_at s n).status ≡ true
  pub log : has_log c l ≡ true

-- a node takes the place of another one
pub record Replaces (c : Config) (s : State) (n other l : ℕ) : Type 0 where
  pub node : has_node c n ≡ true
  pub log : has_log c l ≡ true
  pub other_node : has_node c other ≡ true
  pub up : is_up (node_at s n).status ≡ true
  pub whole : (log_of (node_at s n).plain l).lost ≡ false
  pub some : 0 < (log_of (node_at s n).plain l).lost_to

-- the register after the swap that it asks for
abbrev pub swapped_by : State → ℕ → ℕ → ℕ → Changed
swapped_by s n other l = swap s.register l (log_of (node_at s n).plain l).lost_to other n

-- the step that opens a reader in a style
abbrev pub opens_as : Style → List ℕ → ℕ → ℕ → ℕ → Move
opens_as styles.EachCopy name l from until = Takes (events.Open name l from until)
opens_as styles.OneCopy name l from until = Takes (events.OpenOne name l from until)
opens_as styles.OfMessages name l from until = Takes (events.OpenMessages name l from until)

-- the step opens no reader
abbrev pub Idle : Config → State → Move → Type 0
Idle c s (Takes (events.Open name l from until)) = has_log c l ≡ true → is_some (find_named name s.readers) ≡ true
Idle c s (Takes (events.OpenOne name l from until)) = has_log c l ≡ true → is_some (find_named name s.readers) ≡ true
Idle c s (Takes (events.OpenMessages name l from until)) = has_log c l ≡ true → is_some (find_named name s.readers) ≡ true
Idle c s _ = Unit {0}

-- the step delivers the message
abbrev pub Delivers : State → Move → Msg → Type 0
Delivers s (Takes (events.Deliver i)) m = message s.network i ≡ Some m
Delivers s _ m = ⊥

pub delivery : (s : State) (e : Move) (m : Msg) → Delivers s e m → (i : ℕ) × (e ≡ Takes (events.Deliver i)) × (message s.network i ≡ Some m)
delivery s (Takes (events.Deliver i)) m h = (i, refl, h)
delivery s _ m h = absurd h

-- what is marked as new was so before
abbrev pub Older : State → List ℕ → Type 0
Older s f = (i : ℕ) → In i f → In i s.network.fresh

-- what is new where a message is no longer new
pub older_marked : (s : State) (i : ℕ) → Older s (Step.marked s i).network.fresh
older_marked s i j h = (In_filter (λ k. not (i == k)) j s.network.fresh h).0

-- a message that is delivered was sent
pub message_sent : (s : State) (i : ℕ) (m : Msg) → message s.network i ≡ Some m → In m s.network.sent
unfolding message
message_sent s i m h = elim (branch (nat_lt i s.network.count) _ None (Some m) h) [
  | inl a ↦ In-slice_get m s.network.sent _ a.1
  | inr a ↦ absurd (not_none a.1)
]

-- what a sequencer does at a reply
abbrev pub reply_call : Config → State → Sequencer → ℕ → Body → Called
reply_call c s q y b = let a : Acts = on_reply (looks_at c s.register q.log) q y b in called (looks_at c s.register q.log) s.register a a.tries

-- and at a retry
abbrev pub retry_call : Config → State → Sequencer → Called
retry_call c s q = let a : Acts = on_retry (looks_at c s.register q.log) q in called (looks_at c s.register q.log) s.register a a.tries

-- where it tells its released number again: the messages that say so stand in front of its asks, behind its own releases
abbrev pub announced : Bool → Called → Called
announced again k = record k { acts = record k.acts { asks = (if again then announcements k.acts.sequencer else []) ++ k.acts.asks } }

-- what a step comes to: what is done, and the plans that are made
pub record Cases (c : Config) (s : State) (e : Move) (Q : Done → List Made → Type 0) : Type 0 where
  pub still : (f : List ℕ) → Older s f → Idle c s e → Q (unchanged (refreshed s f)) []
  pub says : (x : Line) → is_quiet x ≡ true → Q (with_line s x) []
  -- nodes
  pub node_hears : (f : List ℕ) → Older s f → (n : ℕ) (m : Msg) → In m s.network.sent → m.to ≡ whos.Node n → Serves c s n m.log → Idle c s e → Q (Step.to_up_node (refreshed s f) n m) []
  pub loads : (n : ℕ) (ls : List Line) → ((x : Line) → In x ls → is_quiet x ≡ true) → (is_blank (node_at s n).status || is_down (node_at s n).status) ≡ true → Idle c s e → Q (record { state = loaded s n; lines = ls; sends = [] }) []
  pub draw_fails : (n : ℕ) → is_blank (node_at s n).status ≡ true → Q (with_line (with_register (loaded s n) (draw s.register n).register) (lines.NodeRefusedRegister n)) []
  pub formats : (n : ℕ) (r : Register) → has_node c n ≡ true → is_blank (node_at s n).status ≡ true → load_end (node_at s n) ≡ Written → draw s.register n ≡ record { register = r; answer = Granted } →
      Q (Step.keeps_op (with_register (loaded s n) r) n (ops.Format (generation_of r n) (epochs_in r.logs)) (Step.format_lines c n r) []) []
  pub ticks : (n l : ℕ) (t : Ticked) → Serves c s n l → on_tick (log_of (node_at s n).plain l) (epochs_of s.register l).summaries ≡ t → Idle c s e → Q (Step.ticks_as c s n l t) []
  pub stops : (n : ℕ) → (is_up (node_at s n).status || is_failed (node_at s n).status) ≡ true → Q (with_line (with_node s n (Step.stopped (node_at s n))) (lines.NodeDown n)) []
  pub wipes : (n : ℕ) → Q (with_line (with_node s n new_node) (lines.NodeWiped n)) []
  pub faults : (n : ℕ) (f : Fault) → Idle c s e → Q (only_state (with_node s n (Step.with_fault (node_at s n) f))) []
  pub sets : (l r x : ℕ) (set : List Bool) → Step.can_set c l r x (members set) ≡ true → Q (with_line (with_spec s l (record { log = l; set = set; r = r; extras = x })) (lines.Set l r x set)) []
  pub swaps : (n other l : ℕ) (x : Line) → Replaces c s n other l → is_quiet x ≡ true → e ≡ Takes (events.Replace n other l) → Q (with_line (with_register s (swapped_by s n other l).register) x) []
  pub arms : (k : ℕ) (done : Bool) → Idle c s e → Q (only_state (with_register s (Step.armed s.register k done))) []
  -- sequencers
  pub hears : (f : List ℕ) → Older s f → (name : List ℕ) (q : Sequencer) (m : Msg) → In m s.network.sent → m.to ≡ whos.Sequencer q.epoch → m.log ≡ q.log → Live s name q → Idle c s e →
      Q (Step.acted c (refreshed s f) name q (on_reply (looks_at c s.register q.log) q (Step.sender_node m.from) m.body)) (made_by c s (Some (name, q)) (page_from m.from) m.body)
  pub retries : (again : Bool) (name : List ℕ) (q : Sequencer) → Live s name q → Idle c s e → Q (Step.told s name q (announced again (retry_call c s q))) (made_retried c s (Some q))
  pub appends : (name : List ℕ) (q : Sequencer) (payload : List ℕ) → Live s name q → appending q payload ≡ Numbered → AsksToAppend name payload (event_of e) → Q (Step.append_done s name q payload Numbered) []
  pub trims : (name : List ℕ) (q : Sequencer) (point : ℕ) → Live s name q → point ≤ released_of q →
      Q (record { state = s; lines = lines.Trimmed name point ∷ []; sends = posted (whos.Sequencer q.epoch) q.log (to_each (bodies.Trim point) (all_nodes c)) }) []
  pub drops : (name : List ℕ) (q : Sequencer) → Live s name q → Idle c s e → Q (only_state (with_sequencer s name (Step.dropped q))) []
  pub activates : (name : List ℕ) (l : ℕ) (r : Register) → has_log c l ≡ true → find_named name s.sequencers ≡ None → activate s.register l (Step.spec_set c s l) ≡ record { register = r; answer = Granted } → e ≡ Takes (events.Activate name l) →
      Q (Step.activated_as c s name l r (epochs_of r l).epoch (lce_of r l)) []
  pub activate_fails : (name : List ℕ) (l : ℕ) (x : Line) → has_log c l ≡ true → is_quiet x ≡ true → Q (with_line (with_register s (activate s.register l (Step.spec_set c s l)).register) x) []
  -- readers
  pub answers : (f : List ℕ) → Older s f → (name : List ℕ) (d : Reader) (m : Msg) → In m s.network.sent → m.to ≡ whos.Reader d.number → Reading s name d → Idle c s e × Delivers s e m →
      Q (Step.read (refreshed s f) name (on_answer (looks_at c s.register d.log) d (Step.sender_node m.from) m.body)) []
  pub polls : (name : List ℕ) (d : Reader) → Reading s name d → Idle c s e → Q (record { state = with_reader s name (polled (looks_at c s.register d.log) d); lines = []; sends = posted (whos.Reader d.number) d.log (poll_asks (looks_at c s.register d.log) d) }) []
  pub opens : (style : Style) (name : List ℕ) (l from until : ℕ) → Opens c s name l from until → e ≡ opens_as style name l from until → Q (only_state (with_reader s name (opened style l (length s.readers) from until))) []

module _ (c : Config) (s : State) (e : Move) (Q : Done → List Made → Type 0) (N : NamesOnce s) (K : Cases c s e Q) where
  either : (b : Bool) (d f : Done) (m : List Made) → (b ≡ true → Q d m) → (b ≡ false → Q f m) → Q (cond b d f) m
  either b d f m h g = cond_both b d f (λ x. Q x m) h g

  none_of : {X : Type 0} (o : Option X) → not (is_some o) ≡ true → o ≡ None
  none_of None h = refl
  none_of (Some x) h = absurd cc

  opens_by : (style : Style) (name : List ℕ) (l from until : ℕ) → has_log c l ≡ true → find_named name s.readers ≡ None → e ≡ opens_as style name l from until → Q (Step.opens s style name l from until) []
  opens_by style name l from until g n i = either ((from == 0) || nat_lt until from) _ _ [] (λ t. K.says _ refl) (λ t. either (nat_le Step.reader_limit (length s.readers)) _ _ [] (λ u. K.says _ refl)
      (λ u. let p = or_parts (from == 0) (nat_lt until from) t in K.opens style name l from until (record { log = g; fresh_name = n; positive = eqb-false from 0 p.0; in_order = omega (arith, ltb-false until from p.1) }) i))

  -- a reader that isn't opened
  unopened : (name : List ℕ) (l : ℕ) → (has_log c l && not (is_some (find_named name s.readers))) ≡ false → has_log c l ≡ true → is_some (find_named name s.readers) ≡ true
  unopened name l h g = elim (cases_Bool (is_some (find_named name s.readers))) [
    | inl a ↦ a
    | inr a ↦ absurd (let i : (true && not false) ≡ false = subst (λ x. (true && not x) ≡ false) a (subst (λ x. (x && not (is_some (find_named name s.readers))) ≡ false) g h) in cc)
  ]

  opens_new : (style : Style) (name : List ℕ) (l from until : ℕ) → e ≡ opens_as style name l from until → ((has_log c l ≡ true → is_some (find_named name s.readers) ≡ true) → Idle c s e) → Q (Step.opens_new c s style name l from until) []
  opens_new style name l from until i idle = either (has_log c l && not (is_some (find_named name s.readers))) _ _ []
      (λ t. let p = and_parts (has_log c l) (not (is_some (find_named name s.readers))) t in opens_by style name l from until p.0 (none_of (find_named name s.readers) p.1) i)
      (λ t. K.still s.network.fresh (λ i h. h) (idle (unopened name l t)))

  module _ (idle : Idle c s e) where
    nothing : Q (unchanged s) []
    nothing = K.still s.network.fresh (λ i h. h) idle

    -- ---- deliveries ----
    to_node : (f : List ℕ) → Older s f → (n : ℕ) (m : Msg) → In m s.network.sent → m.to ≡ whos.Node n → Q (Step.to_node c (refreshed s f) n m) []
    to_node f older n m i t = either (is_up (node_at s n).status && has_log c m.log) _ _ []
        (λ u. let p = and_parts (is_up (node_at s n).status) (has_log c m.log) u in K.node_hears f older n m i t (record { up = p.0; log = p.1 }) idle) (λ u. K.still f older idle)

    to_sequencer : (f : List ℕ) → Older s f → (b : ℕ) (m : Msg) (o : Option (List ℕ × Sequencer)) → In m s.network.sent → m.to ≡ whos.Sequencer b → sequencer_of m.log b s.sequencers ≡ o → Q (Step.to_sequencer c (refreshed s f) m o) (made_by c s o (page_from m.from) m.body)
    to_sequencer f older b m None i t h = K.still f older idle
    to_sequencer f older b m (Some q) i t h = let r = sequencer_found m.log b s.sequencers q h in
        either q.1.gone _ _ _
        (λ g. subst (λ x. Q (unchanged (refreshed s f)) (cond (x || is_some q.1.preempted) [] (made_with c s q.1 q.1.recovery (page_from m.from) m.body))) (sym g) (K.still f older idle))
        (λ g. K.hears f older q.0 q.1 m i (t ∙ ap whos.Sequencer (sym r.epoch)) (sym r.log) (record { named = found s.sequencers q N.0 r.there; there = g }) idle)

    to_reader : (f : List ℕ) → Older s f → (r : ℕ) (m : Msg) (o : Option (List ℕ × Reader)) → In m s.network.sent → Delivers s e m → m.to ≡ whos.Reader r → reader_of r s.readers ≡ o → Q (Step.to_reader c (refreshed s f) m o) []
    to_reader f older r m None i v t h = K.still f older idle
    to_reader f older r m (Some d) i v t h = let q = reader_found r s.readers d h in
        either (is_finished d.1) _ _ [] (λ g. K.still f older idle) (λ g. K.answers f older d.0 d.1 m i (t ∙ ap whos.Reader (sym q.number)) (record { named = found s.readers d N.1 q.there; open_still = g }) (idle, v))

    to_who : (f : List ℕ) → Older s f → (m : Msg) (w : Who) → In m s.network.sent → Delivers s e m → m.to ≡ w → Q (Step.comes_to c (refreshed s f) m w) (made_for c s m w)
    to_who f older m (whos.Node n) i v t = to_node f older n m i t
    to_who f older m (whos.Sequencer b) i v t = to_sequencer f older b m (sequencer_of m.log b s.sequencers) i t refl
    to_who f older m (whos.Reader r) i v t = to_reader f older r m (reader_of r s.readers) i v t refl

    delivered : (i : ℕ) (o : Option Msg) → ((m : Msg) → message s.network i ≡ Some m → Delivers s e m) → message s.network i ≡ o → Q (Step.delivers_it c s i o) (made_at c s o)
    delivered i None v h = nothing
    delivered i (Some m) v h = to_who _ (older_marked s i) m m.to (message_sent s i m h) (v m h) refl

    -- ---- sequencers ----
    live_by : (name : List ℕ) (o : Option Sequencer) (f : Sequencer → Done) → find_named name s.sequencers ≡ o → ((q : Sequencer) → Live s name q → Q (f q) []) → Q (Step.on_live s o f) []
    live_by name None f i h = nothing
    live_by name (Some q) f i h = either q.gone _ _ [] (λ g. nothing) (λ g. h q (record { named = i; there = g }))

    live : (name : List ℕ) (f : Sequencer → Done) → ((q : Sequencer) → Live s name q → Q (f q) []) → Q (Step.live s name f) []
    live name f h = live_by name (find_named name s.sequencers) f refl h

    retried_by : (again : Bool) (name : List ℕ) (o : Option Sequencer) → find_named name s.sequencers ≡ o → Q (Step.on_live s o (λ q. Step.told s name q (announced again (retry_call c s q)))) (made_retried c s o)
    retried_by again name None i = nothing
    retried_by again name (Some q) i = either q.gone _ _ _ (λ g. subst (λ x. Q (unchanged s) (cond (x || is_some q.preempted) [] (made_again c s q q.recovery))) (sym g) nothing)
        (λ g. K.retries again name q (record { named = i; there = g }) idle)

    -- where a calm retries, the messages stand so
    told_again : (q : Sequencer) (name : List ℕ) (k : Called) → calms_with s name q k ≡ Step.told s name q (announced true k)
    told_again q name k = ap (λ ms. record {
      state = with_register (with_sequencer s name k.acts.sequencer) k.register;
      lines = Step.acted_lines name q k.acts;
      sends = posted (whos.Sequencer q.epoch) q.log (k.acts.cleans ++ (release_messages q k.acts.sequencer ++ ms));
    }) (sym (append_assoc (announcements k.acts.sequencer) k.acts.asks k.acts.stores))

    calms_by : (name : List ℕ) (o : Option Sequencer) → Q (Step.on_live s o (λ q. Step.told s name q (announced true (retry_call c s q)))) (made_retried c s o) → Q (Step.on_live s o (λ q. calms_acts c s name q (on_retry (looks_at c s.register q.log) q))) (made_retried c s o)
    calms_by name None h = h
    calms_by name (Some q) h = subst (λ d. Q (cond q.gone (unchanged s) d) (made_retried c s (Some q))) (sym (told_again q name (retry_call c s q))) h

    appended_by : (name : List ℕ) (q : Sequencer) (p : List ℕ) (o : Appending) → Live s name q → AsksToAppend name p (event_of e) → appending q p ≡ o → Q (Step.append_done s name q p o) []
    appended_by name q p TooLong a x i = K.says _ refl
    appended_by name q p (Preempted k) a x i = K.says _ refl
    appended_by name q p EpochFull a x i = K.says _ refl
    appended_by name q p WindowFull a x i = K.says _ refl
    appended_by name q p Numbered a x i = K.appends name q p a i x

    trimmed_by : (name : List ℕ) (q : Sequencer) (t : ℕ) → Live s name q → Q (Step.trim_done c s name q t) []
    trimmed_by name q t a = either (nat_lt (released_of q) t) _ _ [] (λ i. K.says _ refl) (λ i. K.trims name q t a (omega (arith, ltb-false (released_of q) t i)))

    activated_by : (name : List ℕ) (l : ℕ) (r : Register) (o : Answer) → has_log c l ≡ true → find_named name s.sequencers ≡ None → e ≡ Takes (events.Activate name l) → activate s.register l (Step.spec_set c s l) ≡ record { register = r; answer = o } → Q (Step.activates_by c s name l r o) []
    activated_by name l r Granted g n x i = K.activates name l r g n i x
    activated_by name l r AtLimit g n x i = subst (λ (d : Changed). Q (with_line (with_register s d.register) (lines.RefusedEpochLimit name)) []) i (K.activate_fails name l (lines.RefusedEpochLimit name) g refl)
    activated_by name l r (Behind lce) g n x i = nothing
    activated_by name l r (Overtaken k) g n x i = nothing
    activated_by name l r Fails g n x i = subst (λ (d : Changed). Q (with_line (with_register s d.register) (lines.RefusedRegister name)) []) i (K.activate_fails name l (lines.RefusedRegister name) g refl)

    activates : (name : List ℕ) (l : ℕ) → e ≡ Takes (events.Activate name l) → Q (Step.happens c s (events.Activate name l)) []
    unfolding Step.happens
    activates name l x = either (has_log c l && not (is_some (find_named name s.sequencers))) _ _ []
        (λ t. let p = and_parts (has_log c l) (not (is_some (find_named name s.sequencers))) t in activated_by name l (activate s.register l (Step.spec_set c s l)).register (activate s.register l (Step.spec_set c s l)).answer p.0 (none_of (find_named name s.sequencers) p.1) x refl) (λ t. nothing)

    -- ---- readers ----
    polls_by : (name : List ℕ) (o : Option Reader) → find_named name s.readers ≡ o → Q (Step.polls c s name o) []
    polls_by name None i = nothing
    polls_by name (Some d) i = either (is_finished d) _ _ [] (λ g. nothing) (λ g. K.polls name d (record { named = i; open_still = g }) idle)

    -- ---- nodes ----
    quiet_one : (x : Line) → is_quiet x ≡ true → (y : Line) → In y (x ∷ []) → is_quiet y ≡ true
    quiet_one x h y (inl i) = subst (λ z. is_quiet z ≡ true) (sym i) h
    quiet_one x h y (inr i) = absurd i

    kept_quiet : (n : ℕ) (k : Kept) (y : Line) → In y (Step.kept_lines n (lines.NodeUp n ∷ []) k) → is_quiet y ≡ true
    kept_quiet n Written y i = quiet_one _ refl y i
    kept_quiet n DiskFailed y i = quiet_one _ refl y i
    kept_quiet n Crashed y i = quiet_one _ refl y i
    kept_quiet n JournalFull y i = quiet_one _ refl y i

    blank_or : (n : ℕ) → is_blank (node_at s n).status ≡ true → (is_blank (node_at s n).status || is_down (node_at s n).status) ≡ true
    blank_or n h = or_left (is_blank (node_at s n).status) (is_down (node_at s n).status) h

    formats_by : (n : ℕ) (r : Register) (o : Answer) → has_node c n ≡ true → is_blank (node_at s n).status ≡ true → load_end (node_at s n) ≡ Written → draw s.register n ≡ record { register = r; answer = o } → Q (Step.formats_by c (loaded s n) n r o) []
    formats_by n r Granted g b w i = K.formats n r g b w i
    formats_by n r AtLimit g b w i = K.loads n _ (quiet_one _ refl) (blank_or n b) idle
    formats_by n r (Behind lce) g b w i = K.loads n [] (λ x j. absurd j) (blank_or n b) idle
    formats_by n r (Overtaken k) g b w i = K.loads n [] (λ x j. absurd j) (blank_or n b) idle
    formats_by n r Fails g b w i = subst (λ (d : Changed). Q (with_line (with_register (loaded s n) d.register) (lines.NodeRefusedRegister n)) []) i (K.draw_fails n b)

    formats_loaded : (n : ℕ) (k : Kept) → has_node c n ≡ true → is_blank (node_at s n).status ≡ true → load_end (node_at s n) ≡ k → Q (Step.formats_loaded c (loaded s n) n k) []
    formats_loaded n Written g b i = formats_by n (draw s.register n).register (draw s.register n).answer g b i refl
    formats_loaded n DiskFailed g b i = K.loads n _ (quiet_one _ refl) (blank_or n b) idle
    formats_loaded n Crashed g b i = K.loads n _ (quiet_one _ refl) (blank_or n b) idle
    formats_loaded n JournalFull g b i = K.loads n [] (λ x j. absurd j) (blank_or n b) idle

    where_node : (n : ℕ) (fits : Bool) (d : Done) → (has_node c n ≡ true → fits ≡ true → Q d []) → Q (Step.where_node c s n fits d) []
    where_node n fits d h = either (has_node c n && fits) _ _ [] (λ t. let p = and_parts (has_node c n) fits t in h p.0 p.1) (λ t. nothing)

    -- ---- swaps ----
    replaces_by : (n other l count : ℕ) (a : Answer) → Replaces c s n other l → e ≡ Takes (events.Replace n other l) → Q (Step.replaces_by s n other l count (swapped_by s n other l).register a) []
    replaces_by n other l count Granted r i = either (count == 0) _ _ [] (λ t. nothing) (λ t. K.swaps n other l (lines.NodeReplaced n l other count) r refl i)
    replaces_by n other l count AtLimit r i = K.says _ refl
    replaces_by n other l count (Behind lce) r i = nothing
    replaces_by n other l count (Overtaken k) r i = nothing
    replaces_by n other l count Fails r i = K.swaps n other l (lines.NodeRefusedRegister n) r refl i

    replacing : (n other l : ℕ) → has_node c n ≡ true → Step.can_replace c s n other l ≡ true → Replaces c s n other l
    replacing n other l g t =
        let p = and_parts (has_log c l && (has_node c other && not (n == other))) _ t in
        let q = and_parts (has_log c l) (has_node c other && not (n == other)) p.0 in
        let o = and_parts (has_node c other) (not (n == other)) q.1 in
        let u = and_parts (is_up (node_at s n).status) (not (log_of (node_at s n).plain l).lost && nat_lt 0 (log_of (node_at s n).plain l).lost_to) p.1 in
        let v = and_parts (not (log_of (node_at s n).plain l).lost) (nat_lt 0 (log_of (node_at s n).plain l).lost_to) u.1 in
        record { node = g; log = q.0; other_node = o.0; up = u.0; whole = not_true _ v.0; some = ltb-true 0 _ v.1 } where
          not_true : (b : Bool) → not b ≡ true → b ≡ false
          not_true true h = absurd cc
          not_true false h = refl

    ticks_by : (n l : ℕ) → Q (Step.ticks c s n l) []
    ticks_by n l = either (is_up (node_at s n).status && has_log c l) _ _ []
        (λ t. let p = and_parts (is_up (node_at s n).status) (has_log c l) t in K.ticks n l _ (record { up = p.0; log = p.1 }) refl idle) (λ t. nothing)

pub dispatch : (c : Config) (s : State) (e : Move) (Q : Done → List Made → Type 0) → NamesOnce s → Cases c s e Q → Q (Calm.moves c s e) (made_on c s (event_of e))
unfolding Step.happens Step.delivers
dispatch c s (Takes (events.Format n)) Q N K = where_node c s (Takes (events.Format n)) Q N K tt n _ _ (λ g b. formats_loaded c s (Takes (events.Format n)) Q N K tt n (load_end (node_at s n)) g b refl)
dispatch c s (Takes (events.Activate name l)) Q N K = activates c s (Takes (events.Activate name l)) Q N K tt name l refl
dispatch c s (Takes (events.Append name p)) Q N K = live c s (Takes (events.Append name p)) Q N K tt name _ (λ q a. appended_by c s (Takes (events.Append name p)) Q N K tt name q p (appending q p) a (inl refl) refl)
dispatch c s (Takes (events.Batch name ms)) Q N K = live c s (Takes (events.Batch name ms)) Q N K tt name _ (λ q a. appended_by c s (Takes (events.Batch name ms)) Q N K tt name q (packed ms) (appending q (packed ms)) a (inr (ms, refl, refl)) refl)
dispatch c s (Takes (events.Trim name t)) Q N K = live c s (Takes (events.Trim name t)) Q N K tt name _ (λ q a. trimmed_by c s (Takes (events.Trim name t)) Q N K tt name q t a)
dispatch c s (Takes (events.Retry name)) Q N K = retried_by c s (Takes (events.Retry name)) Q N K tt false name (find_named name s.sequencers) refl
dispatch c s (Takes (events.Drop name)) Q N K = live c s (Takes (events.Drop name)) Q N K tt name _ (λ q a. K.drops name q a tt)
dispatch c s (Takes (events.Deliver i)) Q N K = delivered c s (Takes (events.Deliver i)) Q N K tt i (message s.network i) (λ m h. h) refl
dispatch c s (Takes (events.Lose i)) Q N K = K.still _ (older_marked s i) tt
dispatch c s (Takes (events.Flow k)) Q N K = nothing c s (Takes (events.Flow k)) Q N K tt
dispatch c s (Takes (events.Open name l from until)) Q N K = opens_new c s (Takes (events.Open name l from until)) Q N K styles.EachCopy name l from until refl (λ h. h)
dispatch c s (Takes (events.OpenOne name l from until)) Q N K = opens_new c s (Takes (events.OpenOne name l from until)) Q N K styles.OneCopy name l from until refl (λ h. h)
dispatch c s (Takes (events.OpenMessages name l from until)) Q N K = opens_new c s (Takes (events.OpenMessages name l from until)) Q N K styles.OfMessages name l from until refl (λ h. h)
dispatch c s (Takes (events.Poll name)) Q N K = polls_by c s (Takes (events.Poll name)) Q N K tt name (find_named name s.readers) refl
dispatch c s (Takes (events.Tick n l)) Q N K = where_node c s (Takes (events.Tick n l)) Q N K tt n true _ (λ g t. ticks_by c s (Takes (events.Tick n l)) Q N K tt n l)
dispatch c s (Takes (events.Down n)) Q N K = where_node c s (Takes (events.Down n)) Q N K tt n _ _ (λ g t. K.stops n t)
dispatch c s (Takes (events.Up n)) Q N K = where_node c s (Takes (events.Up n)) Q N K tt n _ _
    (λ g t. K.loads n _ (kept_quiet c s (Takes (events.Up n)) Q N K tt n (load_end (node_at s n))) (or_right (is_blank (node_at s n).status) (is_down (node_at s n).status) t) tt)
dispatch c s (Takes (events.Wipe n)) Q N K = where_node c s (Takes (events.Wipe n)) Q N K tt n true _ (λ g t. K.wipes n)
dispatch c s (Takes (events.Fail n k)) Q N K = where_node c s (Takes (events.Fail n k)) Q N K tt n true _ (λ g t. K.faults n _ tt)
dispatch c s (Takes (events.Tear n k picture)) Q N K = where_node c s (Takes (events.Tear n k picture)) Q N K tt n true _ (λ g t. K.faults n _ tt)
dispatch c s (Takes (events.Set l r x set)) Q N K = either c s (Takes (events.Set l r x set)) Q N K (Step.can_set c l r x (members set)) _ _ [] (λ t. K.sets l r x set t) (λ t. nothing c s (Takes (events.Set l r x set)) Q N K tt)
dispatch c s (Takes (events.Replace n other l)) Q N K = where_node c s (Takes (events.Replace n other l)) Q N K tt n (Step.can_replace c s n other l) _ (λ g t. replaces_by c s (Takes (events.Replace n other l)) Q N K tt n other l _ (swapped_by s n other l).answer (replacing c s (Takes (events.Replace n other l)) Q N K tt n other l g t) refl)
dispatch c s (Takes events.Calm) Q N K = nothing c s (Takes events.Calm) Q N K tt
dispatch c s (Takes (events.RegFail k done)) Q N K = K.arms k done tt
dispatch c s (Calms name) Q N K = calms_by c s (Calms name) Q N K tt name (find_named name s.sequencers)
    (retried_by c s (Calms name) Q N K tt true name (find_named name s.sequencers) refl)
