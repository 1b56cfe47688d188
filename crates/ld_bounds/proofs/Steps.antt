-- Each event leaves a sound state sound, and sends messages that a frame can carry.
use Rattle.std.proofs.Common.{◌≡◌, ◌≤◌, ◌<◌, ℕ, zero, suc, ◌+◌, ◌-◌, refl, ap, sym, subst, nat_cmp, Bool, true, false, ◌==◌, ◌&&◌, ◌||◌, not, nat_lt, nat_le, cond, List, [], ◌∷◌, ◌++◌, length, Option, Some, None, is_some, slice_get, arith}
use Rattle.std.specs.Map as map
use Rattle.std.specs.List.{AllByRecursion, IsDistinct}
use Rattle.std.specs.List.Sorted.{IsStrictlySortedBy}
use Rattle.std.proofs.lemmas.Map.Keys.{sorted_from_strictly_increasing}
use Rattle.std.proofs.lemmas.Bool.{cond_both, and_parts, or_parts, ltb-false, leb-false, eqb-false}
use Rattle.ld_table.specs.Named.{find_named, Distinct}
use Rattle.ld_table.specs.Table.{Ordered}
use Rattle.ld_table.proofs.Order.{Ordered-put}
use Rattle.ld_ids.specs.Id.{IsNode, IsLog}
use Rattle.ld_ids.specs.Set.{members, IsSet}
use Rattle.ld_ids.proofs.Members.{members_rise}
use Rattle.ld_ids.specs.declared.set.Spec.{Spec}
use Rattle.ld_lsn.specs.Number.{numbered, last_esn}
use Rattle.ld_config.specs.declared.config.Config.{Config}
use Rattle.ld_config.specs.Bounds.{IsInBounds}
use Rattle.ld_batch.specs.Batch.{packed}
use Rattle.ld_schedule.specs.declared.event.Event.{Event}
use Rattle.ld_schedule.specs.declared.event.Event.TheVariants as events
use Rattle.ld_transcript.specs.declared.line.Line.{Line}
use Rattle.ld_msg.specs.declared.msg.Who.{Who}
use Rattle.ld_msg.specs.declared.msg.Who.TheVariants as whos
use Rattle.ld_msg.specs.declared.msg.Msg.{Msg}
use Rattle.ld_msg.specs.declared.msg.Body.{Body}
use Rattle.ld_msg.specs.declared.msg.Body.TheVariants as bodies
use Rattle.ld_msg.specs.Bounds.{Is64, IsEpoch, Fits, IsMessage}
use Rattle.ld_msg.specs.Network.{Network, send, send_all, message, oldest_new, posted}
use Rattle.ld_msg.specs.Choice.{choice}
use Rattle.ld_msg.specs.Register.{Register, Epochs, Answer, Granted, AtLimit, Behind, Overtaken, Fails, epochs_of, epochs_in, generation_of, lce_of, activate, draw, swap, swappable}
use Rattle.ld_msg.specs.Sequencer.{Sequencer, Acts, Called, called, acted_messages, on_reply, on_retry, released_of, to_each, activated, bare, recovery_asks, Appending, TooLong, Preempted, EpochFull, WindowFull, Numbered, or_preempted, appending, appended, fresh_append, first_stores, next_esn, payload_limit, window_limit}
use Rattle.ld_msg.specs.declared.style.Style.{Style}
use Rattle.ld_msg.specs.declared.style.Style.TheVariants as styles
use Rattle.ld_msg.specs.Reader.{Reader, Read, opened, is_finished, polled, poll_asks, on_answer}
use Rattle.ld_op.specs.declared.op.Op.{Op}
use Rattle.ld_op.specs.declared.op.Op.TheVariants as ops
use Rattle.ld_op.specs.Plain.{log_of}
use Rattle.ld_op.specs.Ticks.{Ticked, Cleans, Rebuilt, Asks, Nothing, on_tick, node_asks}
use Rattle.ld_op.specs.Handles.{answer_message}
use Rattle.ld_machine.specs.Config.{all_nodes, looks_at, has_log, has_node}
use Rattle.ld_machine.specs.Disk.{Node, Kept, Written, DiskFailed, Crashed, JournalFull, new_node, is_up, is_blank, is_down, is_failed, keep_op, keep_end, load, load_end}
use Rattle.ld_machine.specs.State.{State, Done, Stepped, sent_state, start, new_nodes, finish, unchanged, only_state, with_line, node_at, with_node, with_register, with_sequencer, with_reader, sequencer_of, reader_of}
use Rattle.ld_machine.specs.Step as Step
use Rattle.ld_machine.specs.Step.{happens, delivers}
use Rattle.ld_machine.specs.Calm.{Move, Takes, Calms, Left, Announces, Settles, Ticks, Reads, Drains, Again, Next, moves, moved, event_of, calms_acts, calm_messages, last_of, goes, announces, delivers_in, reads, asks_again, next_of, all_left, calm_fuel, calmed}
use Rattle.ld_machine.specs.Run.{flows, step, state_after}
use Rattle.ld_sequencer_bounds.specs.Sequencers.{IsAppend}
use Rattle.ld_bounds.specs.Specs.{IsSpecFor, IsSetFor}
use Rattle.ld_bounds.specs.Nodes.{IsNodeState, IsNodeAt}
use Rattle.ld_bounds.specs.Registers.{IsLook}
use Rattle.ld_bounds.specs.Sequencers.{IsInWave, IsSequencer, IsNamedSequencer}
use Rattle.ld_bounds.specs.Readers.{IsReader, IsNamedReader}
use Rattle.ld_node_bounds.specs.States.{last_handed_out}
use Rattle.ld_node_bounds.specs.Messages.{AreMessages, IsKept, MayKeep, MayAnswer, IsTicked}
use Rattle.ld_bounds.specs.Sound.{IsEvent, IsSound, IsDoneSoundly}
use Rattle.ld_node_bounds.proofs.Alls.{all_if, all-append, all-put}
use Rattle.ld_bounds.proofs.Alls.{all-slice_get, all_weaker, all-put_named, all-find_named}
use Rattle.ld_node_bounds.proofs.Numbers.{epoch_numbered, esn_numbered}
use Rattle.ld_node_bounds.proofs.Members.{members_nodes}
use Rattle.ld_bounds.proofs.Configs.{spec_nodes, log_is, all_are, node_is}
use Rattle.ld_bounds.proofs.Looks.{set_is, look_is, taken_is}
use Rattle.ld_node_bounds.proofs.Ops.{log_state}
use Rattle.ld_node_bounds.proofs.Handling.{handled_is, answers_sent}
use Rattle.ld_bounds.proofs.NodeStates.{new_is, node_there, released_is, releases_is, keep_is, load_is, stopped_is, fault_is}
use Rattle.ld_bounds.proofs.RegisterChanges.{Follows, follows_same, follows_self, activate_follows, Handed, activate_hands, generation_is, draw_follows, swap_follows, closed_summary}
use Rattle.ld_node_bounds.proofs.Posts.{posts_sent}
use Rattle.ld_sequencer_bounds.proofs.Posts.{choice_nodes}
use Rattle.ld_bounds.proofs.Rows.{numbered_end, length_end}
use Rattle.ld_sequencer_bounds.proofs.Sends.{append_sent, trims_sent, released_bound}
use Rattle.ld_bounds.proofs.SequencerActs.{IsActs, lng_is, first_recovery, first_asks, reply_is, retry_is, grown, dropped_is, called_is, acted_sent, calms_sent}
use Rattle.ld_bounds.proofs.Asks.{from_node, polled_is, poll_sent, answer_is, opened_is}
use Rattle.ld_bounds.proofs.Places.{distinct-put, length-there, length-put, places-there, places-new, reader_found, number_found, reader_named, sequencer_found, epoch_found}
use Rattle.ld_node_bounds.proofs.Ticking.{ticked_is, asks_sent}
use Rattle.ld_bounds.proofs.Ticking.{epochs_told}
use Rattle.ld_bounds.proofs.Ends.{taker_is}

-- ---- messages are sent ----

all_sent : (w : Network) (ms : List Msg) → AreMessages w.sent → AreMessages ms → AreMessages (send_all w ms).sent
all_sent w [] a b = a
all_sent w (m ∷ ms) a b = all_sent (send w m) ms (b.0, a) b.1

message_by : (b : Bool) (w : Network) (i : ℕ) (m : Msg) → AreMessages w.sent → cond b (slice_get w.sent (w.count - 1 - i)) None ≡ Some m → IsMessage m
message_by true w i m a h = all-slice_get IsMessage w.sent (w.count - 1 - i) m a h
message_by false w i m a h = absurd cc

pub message_in : (w : Network) (i : ℕ) (m : Msg) → AreMessages w.sent → message w i ≡ Some m → IsMessage m
unfolding message
message_in w i m a h = message_by (nat_lt i w.count) w i m a h

-- ---- the steps of a calm ----
moved_goes : (m : Move) (ps : List Left) (x : Next) → IsEvent (event_of m) → goes m ps ≡ Some x → IsEvent (event_of x.move)
moved_goes m ps x i h = let e : record { move = m; left = ps } ≡ x = cc in subst (λ (n : Next). IsEvent (event_of n.move)) e i

either_goes : (b : Bool) (o : Option Next) (m : Move) (ps : List Left) (x : Next) → (o ≡ Some x → IsEvent (event_of x.move)) → IsEvent (event_of m) → cond b o (goes m ps) ≡ Some x → IsEvent (event_of x.move)
either_goes true o m ps x f i h = f h
either_goes false o m ps x f i h = moved_goes m ps x i h

announces_goes : (q : Option (List ℕ × Sequencer)) (ps : List Left) (x : Next) (o : Option Next) → (o ≡ Some x → IsEvent (event_of x.move)) → announces q ps o ≡ Some x → IsEvent (event_of x.move)
announces_goes None ps x o f h = f h
announces_goes (Some q) ps x o f h = either_goes q.1.gone o (Calms q.0) ps x f tt h

reads_goes : (name : List ℕ) (d : Option Reader) (ps : List Left) (x : Next) (o : Option Next) → (o ≡ Some x → IsEvent (event_of x.move)) → reads name d ps o ≡ Some x → IsEvent (event_of x.move)
reads_goes name None ps x o f h = f h
reads_goes name (Some d) ps x o f h = either_goes (is_finished d) o (Takes (events.Poll name)) (Drains ∷ Again name d.next ∷ ps) x f tt h

again_goes : (name : List ℕ) (next : ℕ) (d : Option Reader) (ps : List Left) (x : Next) (o : Option Next) → (o ≡ Some x → IsEvent (event_of x.move)) → asks_again name next d ps o ≡ Some x → IsEvent (event_of x.move)
again_goes name next None ps x o f h = f h
again_goes name next (Some d) ps x o f h = either_goes (d.next == next) o (Takes (events.Poll name)) (Drains ∷ Again name d.next ∷ ps) x f tt h

delivers_goes : (n : Option ℕ) (p : Left) (ps : List Left) (x : Next) (o : Option Next) → (o ≡ Some x → IsEvent (event_of x.move)) → delivers_in n p ps o ≡ Some x → IsEvent (event_of x.move)
delivers_goes None p ps x o f h = f h
delivers_goes (Some i) p ps x o f h = moved_goes (Takes (events.Deliver i)) (p ∷ ps) x tt h

module _ (c : Config) where
  pub sent_is : (s : State) (ms : List Msg) → IsSound c s → AreMessages ms → IsSound c (sent_state s ms)
  sent_is s ms S a = record { messages = all_sent s.network ms S.messages a; nodes = S.nodes; nodes_rise = S.nodes_rise; register = S.register; sequencers = S.sequencers; readers = S.readers; reader_names = S.reader_names; reader_places = S.reader_places; few_readers = S.few_readers; specs = S.specs }

  pub finish_is : (d : Done) → IsDoneSoundly c d → IsSound c (finish d).state
  unfolding finish
  finish_is d D = sent_is d.state d.sends D.state D.sends

  -- ---- parts of a state ----
  module _ (s : State) (S : IsSound c s) where
    quietly : IsDoneSoundly c (unchanged s)
    quietly = record { state = S; sends = tt }

    saying : (x : Line) → IsDoneSoundly c (with_line s x)
    saying x = record { state = S; sends = tt }

    either : (b : Bool) (d e : Done) → (b ≡ true → IsDoneSoundly c d) → (b ≡ false → IsDoneSoundly c e) → IsDoneSoundly c (cond b d e)
    either b d e f g = cond_both b d e (IsDoneSoundly c) f g

    pub node_is_sound : (n : ℕ) → IsNodeState (node_at s n)
    node_is_sound n = node_there s.nodes n S.nodes

    node_put : (n : ℕ) (x : Node) → IsNode n → IsNodeState x → IsSound c (with_node s n x)
    node_put n x h i = record { messages = S.messages; nodes = all-put IsNodeAt n x s.nodes (record { node = h; state = i }) S.nodes; nodes_rise = Ordered-put n x s.nodes S.nodes_rise; register = S.register; sequencers = S.sequencers; readers = S.readers; reader_names = S.reader_names; reader_places = S.reader_places; few_readers = S.few_readers; specs = S.specs }

    pub marked_is : (i : ℕ) → IsSound c (Step.marked s i)
    marked_is i = record { messages = S.messages; nodes = S.nodes; nodes_rise = S.nodes_rise; register = S.register; sequencers = S.sequencers; readers = S.readers; reader_names = S.reader_names; reader_places = S.reader_places; few_readers = S.few_readers; specs = S.specs }

    sequencers_grown : (r : Register) → Follows c s.register r → AllByRecursion (IsNamedSequencer c r) s.sequencers
    sequencers_grown r F = all_weaker (IsNamedSequencer c s.register) (IsNamedSequencer c r) s.sequencers (λ q Q. grown c s.register r q.1 F.up Q) S.sequencers

    register_put : (r : Register) → Follows c s.register r → IsSound c (with_register s r)
    register_put r F = record { messages = S.messages; nodes = S.nodes; nodes_rise = S.nodes_rise; register = F.register; sequencers = sequencers_grown r F; readers = S.readers; reader_names = S.reader_names; reader_places = S.reader_places; few_readers = S.few_readers; specs = S.specs }

    -- a sequencer, and the register with it
    both_put : (name : List ℕ) (q : Sequencer) (r : Register) → Follows c s.register r → IsSequencer c r q → IsSound c (with_register (with_sequencer s name q) r)
    both_put name q r F Q = record { messages = S.messages; nodes = S.nodes; nodes_rise = S.nodes_rise; register = F.register; sequencers = all-put_named (IsSequencer c r) name q s.sequencers Q (sequencers_grown r F); readers = S.readers; reader_names = S.reader_names; reader_places = S.reader_places; few_readers = S.few_readers; specs = S.specs }

    sequencer_put : (name : List ℕ) (q : Sequencer) → IsSequencer c s.register q → IsSound c (with_sequencer s name q)
    sequencer_put name q Q = record { messages = S.messages; nodes = S.nodes; nodes_rise = S.nodes_rise; register = S.register; sequencers = all-put_named (IsSequencer c s.register) name q s.sequencers Q S.sequencers; readers = S.readers; reader_names = S.reader_names; reader_places = S.reader_places; few_readers = S.few_readers; specs = S.specs }

    -- a reader that is there
    reader_put : (name : List ℕ) (d x : Reader) → find_named name s.readers ≡ Some d → x.number ≡ d.number → IsReader c x → IsSound c (with_reader s name x)
    reader_put name d x h q X = let l = length-there name x d s.readers h in let few = S.few_readers in record {
      messages = S.messages;
      nodes = S.nodes;
      nodes_rise = S.nodes_rise;
      register = S.register;
      sequencers = S.sequencers;
      readers = all-put_named (IsReader c) name x s.readers X S.readers;
      reader_names = distinct-put name x s.readers S.reader_names;
      reader_places = places-there 0 name x d s.readers q h S.reader_places;
      few_readers = omega arith;
      specs = S.specs;
    }

    reader_new : (name : List ℕ) (x : Reader) → find_named name s.readers ≡ None → x.number ≡ length s.readers → length s.readers < Step.reader_limit → IsReader c x → IsSound c (with_reader s name x)
    reader_new name x h q l X = let g = length-put name x s.readers in record {
      messages = S.messages;
      nodes = S.nodes;
      nodes_rise = S.nodes_rise;
      register = S.register;
      sequencers = S.sequencers;
      readers = all-put_named (IsReader c) name x s.readers X S.readers;
      reader_names = distinct-put name x s.readers S.reader_names;
      reader_places = places-new 0 name x s.readers (omega arith) h S.reader_places;
      few_readers = omega arith;
      specs = S.specs;
    }

    -- ---- nodes ----
    written_only : (k : Kept) (ms : List Msg) → AreMessages ms → AreMessages (cond (Step.is_written k) ms [])
    written_only k ms a = all_if IsMessage (Step.is_written k) ms a

    keeps_is : (n : ℕ) (o : Op) (ls : List Line) (ms : List Msg) → IsNode n → IsKept last_handed_out o → AreMessages ms → IsDoneSoundly c (Step.keeps_op s n o ls ms)
    keeps_is n o ls ms h k a = record { state = node_put n (keep_op (node_at s n) o) h (keep_is (node_at s n) (node_is_sound n) o k); sends = written_only (keep_end (node_at s n) o) ms a }

    handles_is : (n : ℕ) (m : Msg) (o : Option Op) (b : Option Body) → IsNode n → IsLog m.log → MayKeep last_handed_out o → MayAnswer n m.from b → IsDoneSoundly c (Step.handles s n m o b)
    handles_is n m None b h l k a = record { state = S; sends = answers_sent n m b l a }
    handles_is n m (Some o) b h l k a = keeps_is n o [] (answer_message n m b) h k (answers_sent n m b l a)

  module _ (B : IsInBounds c) where
    up_node : (s : State) → IsSound c s → (n : ℕ) (m : Msg) → IsNode n → IsLog m.log → Fits m.from (whos.Node n) m.body → IsDoneSoundly c (Step.to_up_node s n m)
    up_node s S n m h l f =
        let x : Node = node_at s n in
        let X = node_is_sound s S n in
        let H = handled_is n h x.plain.generation X.plain.generation (omega arith) (log_of x.plain m.log) (log_state last_handed_out x.plain m.log X.plain) m.log l m.from (Step.released_at x m.log) (released_is x X m.log) m.body f in
        handles_is (with_node s n (Step.releases x m.log m.body)) (node_put s S n (Step.releases x m.log m.body) h (releases_is x X m.log m.from (whos.Node n) m.body l f)) n m (Step.node_handles n x m).op (Step.node_handles n x m).answer h l H.op H.answer

    module _ (s : State) (S : IsSound c s) where
      to_node : (n : ℕ) (m : Msg) → IsLog m.log → Fits m.from (whos.Node n) m.body → IsDoneSoundly c (Step.to_node c s n m)
      to_node n m l f = either s S (is_up (node_at s n).status && has_log c m.log) (Step.to_up_node s n m) (unchanged s)
          (λ t. up_node s S n m (taker_is m.from (whos.Node n) m.body f) l f) (λ t. quietly s S)

      -- looks at a log of the configuration
      looks_are : (l : ℕ) → has_log c l ≡ true → (e : ℕ) → IsLook c l e (looks_at c s.register l e)
      looks_are l h = look_is c B s.register l S.register h

      -- ---- sequencers ----
      acted_is : (name : List ℕ) (q : Sequencer) (a : Acts) → IsSequencer c s.register q → IsActs c s.register q a → IsDoneSoundly c (Step.acted c s name q a)
      acted_is name q a Q A = let k = called_is c s.register S.register q (looks_at c s.register q.log) (looks_are q.log Q.log) a a.tries A.tries A in record {
        state = both_put s S name k_acts_sequencer k_register k.register k.acts.sequencer;
        sends = posts_sent (whos.Sequencer q.epoch) q.log (acted_messages q k_acts) (log_is c B q.log Q.log) (acted_sent c k_register q k_acts Q.epoch k.acts);
      } where
        k_acts : Acts
        k_acts = (called (looks_at c s.register q.log) s.register a a.tries).acts

        k_acts_sequencer : Sequencer
        k_acts_sequencer = (called (looks_at c s.register q.log) s.register a a.tries).acts.sequencer

        k_register : Register
        k_register = (called (looks_at c s.register q.log) s.register a a.tries).register

      calms_is : (name : List ℕ) (q : Sequencer) → IsSequencer c s.register q → IsDoneSoundly c (calms_acts c s name q (on_retry (looks_at c s.register q.log) q))
      calms_is name q Q = let L = looks_are q.log Q.log in let A = retry_is c s.register q (looks_at c s.register q.log) L q Q refl refl in let k = called_is c s.register S.register q (looks_at c s.register q.log) L retry retry.tries A.tries A in record {
        state = both_put s S name call.acts.sequencer call.register k.register k.acts.sequencer;
        sends = posts_sent (whos.Sequencer q.epoch) q.log (calm_messages q call.acts) (log_is c B q.log Q.log) (calms_sent c call.register q call.acts Q.epoch k.acts);
      } where
        retry : Acts
        retry = on_retry (looks_at c s.register q.log) q

        call : Called
        call = called (looks_at c s.register q.log) s.register retry retry.tries

      to_live : (name : List ℕ) (q : Sequencer) (m : Msg) → IsSequencer c s.register q → Fits m.from (whos.Sequencer q.epoch) m.body → IsDoneSoundly c (Step.to_live c s name q m)
      to_live name q m Q f = either s S q.gone (unchanged s) (Step.acted c s name q (on_reply (looks_at c s.register q.log) q (Step.sender_node m.from) m.body)) (λ t. quietly s S)
          (λ t. acted_is name q (on_reply (looks_at c s.register q.log) q (Step.sender_node m.from) m.body) Q (reply_is c s.register q (looks_at c s.register q.log) (looks_are q.log Q.log) q Q refl refl m.from (Step.sender_node m.from) m.body f))

      to_sequencer : (m : Msg) (e : ℕ) (o : Option (List ℕ × Sequencer)) → sequencer_of m.log e s.sequencers ≡ o → Fits m.from (whos.Sequencer e) m.body → IsDoneSoundly c (Step.to_sequencer c s m o)
      to_sequencer m e None h f = quietly s S
      to_sequencer m e (Some q) h f = to_live q.0 q.1 m (sequencer_found (IsSequencer c s.register) m.log e s.sequencers q S.sequencers h) (subst (λ k. Fits m.from (whos.Sequencer k) m.body) (sym (epoch_found m.log e s.sequencers q h)) f)

      -- ---- readers ----
      to_open : (name : List ℕ) (d : Reader) (m : Msg) → find_named name s.readers ≡ Some d → IsReader c d → Fits m.from (whos.Reader d.number) m.body → IsDoneSoundly c (Step.to_open c s name d m)
      to_open name d m h D f = either s S (is_finished d) (unchanged s) (Step.read s name (on_answer (looks_at c s.register d.log) d (Step.sender_node m.from) m.body)) (λ t. quietly s S)
          (λ t. let z = from_node m.from d.number m.body f in
          let a = answer_is c (looks_at c s.register d.log) d (Step.sender_node m.from) m.body (looks_are d.log D.log) (ltb-false d.until d.next t) D z.node z.fits in
          let x : Read = on_answer (looks_at c s.register d.log) d (Step.sender_node m.from) m.body in
          record { state = reader_put s S name d x.reader h a.number a.reader; sends = posts_sent (whos.Reader x.reader.number) x.reader.log x.asks (log_is c B x.reader.log a.reader.log) a.asks })

      to_reader : (m : Msg) (r : ℕ) (o : Option (List ℕ × Reader)) → reader_of r s.readers ≡ o → Fits m.from (whos.Reader r) m.body → IsDoneSoundly c (Step.to_reader c s m o)
      to_reader m r None h f = quietly s S
      to_reader m r (Some d) h f = to_open d.0 d.1 m (reader_named r s.readers d S.reader_names h) (reader_found (IsNamedReader c) r s.readers d S.readers h) (subst (λ k. Fits m.from (whos.Reader k) m.body) (sym (number_found r s.readers d h)) f)

      -- ---- deliveries ----
      comes : (m : Msg) (w : Who) → IsLog m.log → Fits m.from w m.body → IsDoneSoundly c (Step.comes_to c s m w)
      comes m (whos.Node n) l f = to_node n m l f
      comes m (whos.Sequencer e) l f = to_sequencer m e (sequencer_of m.log e s.sequencers) refl f
      comes m (whos.Reader r) l f = to_reader m r (reader_of r s.readers) refl f

    message_is : (s : State) → IsSound c s → (i : ℕ) (m : Msg) → message s.network i ≡ Some m → IsMessage m
    message_is s S i m h = message_in s.network i m S.messages h

    delivered : (s : State) → IsSound c s → (i : ℕ) (o : Option Msg) → message s.network i ≡ o → IsDoneSoundly c (Step.delivers_it c s i o)
    delivered s S i None h = quietly s S
    delivered s S i (Some m) h = let M = message_is s S i m h in comes (Step.marked s i) (marked_is s S i) m m.to M.log M.fits

    module _ (s : State) (S : IsSound c s) where
      pub delivers_is : (i : ℕ) → IsDoneSoundly c (delivers c s i)
      unfolding delivers
      delivers_is i = delivered s S i (message s.network i) refl

      -- ---- events of sequencers ----
      live_by : (o : Option Sequencer) (f : Sequencer → Done) → ((q : Sequencer) → o ≡ Some q → IsSequencer c s.register q) → ((q : Sequencer) → IsSequencer c s.register q → IsDoneSoundly c (f q)) → IsDoneSoundly c (Step.on_live s o f)
      live_by None f g h = quietly s S
      live_by (Some q) f g h = either s S q.gone (unchanged s) (f q) (λ t. quietly s S) (λ t. h q (g q refl))

      live : (name : List ℕ) (f : Sequencer → Done) → ((q : Sequencer) → IsSequencer c s.register q → IsDoneSoundly c (f q)) → IsDoneSoundly c (Step.live s name f)
      live name f h = live_by (find_named name s.sequencers) f (λ q e. all-find_named (IsSequencer c s.register) name s.sequencers q S.sequencers e) h

      -- how an append ends
      abbrev IsAppending : Sequencer → List ℕ → Appending → Type 0
      IsAppending q payload Numbered = (length payload ≤ payload_limit) × (next_esn q ≤ last_esn - 1)
      IsAppending q payload _ = Unit {0}

      preempted_or : (q : Sequencer) (payload : List ℕ) (p : Option ℕ) (o : Appending) → IsAppending q payload o → IsAppending q payload (or_preempted p o)
      preempted_or q payload None o h = h
      preempted_or q payload (Some k) o h = tt

      appending_is : (q : Sequencer) (payload : List ℕ) → IsSequencer c s.register q → IsAppending q payload (appending q payload)
      unfolding appending
      appending_is q payload Q = let n = Q.numbers in cond_both (nat_lt payload_limit (length payload)) TooLong (or_preempted q.preempted (cond (next_esn q == last_esn) EpochFull (cond (nat_le window_limit (length q.appends)) WindowFull Numbered))) (IsAppending q payload)
          (λ t. tt) (λ t. preempted_or q payload q.preempted (cond (next_esn q == last_esn) EpochFull (cond (nat_le window_limit (length q.appends)) WindowFull Numbered))
          (cond_both (next_esn q == last_esn) EpochFull (cond (nat_le window_limit (length q.appends)) WindowFull Numbered) (IsAppending q payload) (λ u. tt)
          (λ u. cond_both (nat_le window_limit (length q.appends)) WindowFull Numbered (IsAppending q payload) (λ v. tt) (λ v. (ltb-false payload_limit (length payload) t, (let z = eqb-false (next_esn q) last_esn u in omega arith))))))

      append_now : (q : Sequencer) (payload : List ℕ) → length payload ≤ payload_limit → next_esn q ≤ last_esn - 1 → IsAppend q.epoch (numbered q.epoch (next_esn q), fresh_append payload)
      append_now q payload p n = let z = esn_numbered q.epoch (next_esn q) (omega arith) in record { epoch_is = epoch_numbered q.epoch (next_esn q) (omega arith); from_one = omega arith; place = omega arith; short = p }

      appended_is : (q : Sequencer) (payload : List ℕ) → length payload ≤ payload_limit → next_esn q ≤ last_esn - 1 → IsSequencer c s.register q → IsSequencer c s.register (appended q payload)
      appended_is q payload p n Q = let l = length_end (numbered q.epoch (next_esn q), fresh_append payload) q.appends in record {
        log = Q.log;
        epoch = Q.epoch;
        handed_out = Q.handed_out;
        spec = Q.spec;
        lce = Q.lce;
        numbers = omega arith;
        appends = all-append (IsAppend q.epoch) q.appends ((numbered q.epoch (next_esn q), fresh_append payload) ∷ []) Q.appends (append_now q payload p n, tt);
        waves = all-append IsInWave q.appends ((numbered q.epoch (next_esn q), fresh_append payload) ∷ []) Q.waves (omega arith, tt);
        rows = numbered_end (numbered q.epoch (q.lng + 1)) (numbered q.epoch (next_esn q)) (fresh_append payload) q.appends (omega arith) Q.rows;
        recovery = Q.recovery;
        preempted = Q.preempted;
      }

      append_by : (name : List ℕ) (q : Sequencer) (payload : List ℕ) (o : Appending) → IsSequencer c s.register q → IsAppending q payload o → IsDoneSoundly c (Step.append_done s name q payload o)
      append_by name q payload TooLong Q h = saying s S _
      append_by name q payload (Preempted k) Q h = saying s S _
      append_by name q payload EpochFull Q h = saying s S _
      append_by name q payload WindowFull Q h = saying s S _
      append_by name q payload Numbered Q h = record {
        state = sequencer_put s S name (appended q payload) (appended_is q payload h.0 h.1 Q);
        sends = posts_sent (whos.Sequencer q.epoch) q.log (first_stores q payload) (log_is c B q.log Q.log)
            (append_sent q.epoch Q.epoch q.lng (lng_is c s.register q Q) (numbered q.epoch (next_esn q), fresh_append payload) (choice q.spec q.lost (numbered q.epoch (next_esn q)) 0) (append_now q payload h.0 h.1)
            (choice_nodes q.spec q.lost (numbered q.epoch (next_esn q)) 0 (spec_nodes c q.log q.spec Q.spec)));
      }

      trim_by : (name : List ℕ) (q : Sequencer) (point : ℕ) → IsSequencer c s.register q → IsDoneSoundly c (Step.trim_done c s name q point)
      trim_by name q point Q = let n = Q.numbers in either s S (nat_lt (released_of q) point) _ _ (λ t. saying s S _)
          (λ t. let z = ltb-false (released_of q) point t in let b = released_bound q Q.epoch (omega arith) in
          record { state = S; sends = posts_sent (whos.Sequencer q.epoch) q.log (to_each (bodies.Trim point) (all_nodes c)) (log_is c B q.log Q.log) (trims_sent q.epoch Q.epoch point (all_nodes c) (omega arith) (all_are c B)) })

      retry_by : (name : List ℕ) (q : Sequencer) → IsSequencer c s.register q → IsDoneSoundly c (Step.acted c s name q (on_retry (looks_at c s.register q.log) q))
      retry_by name q Q = acted_is s S name q (on_retry (looks_at c s.register q.log) q) Q (retry_is c s.register q (looks_at c s.register q.log) (looks_are s S q.log Q.log) q Q refl refl)

      -- ---- activations ----
      activated_is : (r : Register) (x : Spec) (l e lce : ℕ) → ((k : ℕ) → IsLook c l k (looks_at c r l k)) → has_log c l ≡ true → IsSpecFor c l x → IsEpoch e → e ≤ (epochs_of r l).epoch → lce < e → IsSequencer c r (activated (looks_at c r l) x l e lce)
      unfolding activated
      activated_is r x l e lce K h X i u b = record { log = h; epoch = i; handed_out = u; spec = X; lce = b; numbers = omega arith; appends = tt; waves = tt; rows = tt; recovery = first_recovery c r (bare x l e lce) (looks_at c r l) K (bare x l e lce) lce; preempted = tt }

      activated_asks : (r : Register) (x : Spec) (l e lce : ℕ) → ((k : ℕ) → IsLook c l k (looks_at c r l k)) → has_log c l ≡ true → IsEpoch e → AreMessages (posted (whos.Sequencer e) l (recovery_asks (looks_at c r l) (activated (looks_at c r l) x l e lce) lce))
      unfolding activated
      activated_asks r x l e lce K h i = posts_sent (whos.Sequencer e) l (recovery_asks (looks_at c r l) (activated (looks_at c r l) x l e lce) lce) (log_is c B l h) (first_asks c r (bare x l e lce) (looks_at c r l) K (activated (looks_at c r l) x l e lce) lce i)

      activated_by : (name : List ℕ) (l : ℕ) (r : Register) (o : Answer) → has_log c l ≡ true → Follows c s.register r → (o ≡ Granted → Handed c r l) → IsDoneSoundly c (Step.activates_by c s name l r o)
      activated_by name l r Granted h F g = let k = g refl in let x : Spec = Step.spec_set c s l in let K = look_is c B r l F.register h in record {
        state = both_put s S name (activated (looks_at c r l) x l (epochs_of r l).epoch (lce_of r l)) r F (activated_is r x l (epochs_of r l).epoch (lce_of r l) K h (set_is c B s l S.specs h) k.epoch (omega arith) k.lce);
        sends = activated_asks r x l (epochs_of r l).epoch (lce_of r l) K h k.epoch;
      }
      activated_by name l r AtLimit h F g = record { state = register_put s S r F; sends = tt }
      activated_by name l r (Behind lce) h F g = quietly s S
      activated_by name l r (Overtaken k) h F g = quietly s S
      activated_by name l r Fails h F g = record { state = register_put s S r F; sends = tt }

      activates_is : (name : List ℕ) (l : ℕ) → has_log c l ≡ true → IsDoneSoundly c (Step.activates c s name l (activate s.register l (Step.spec_set c s l)))
      activates_is name l h = let x : Spec = Step.spec_set c s l in
          activated_by name l (activate s.register l x).register (activate s.register l x).answer h (activate_follows c s.register l x S.register h (set_is c B s l S.specs h)) (λ e. activate_hands c s.register l x S.register e)

      sets_is : (l r x : ℕ) (set : List Bool) → IsSet set → IsDoneSoundly c (Step.sets c s l r x set)
      sets_is l r x set i = either s S (Step.can_set c l r x (members set)) _ _ (λ t. record {
        state = record {
          messages = S.messages;
          nodes = S.nodes;
          nodes_rise = S.nodes_rise;
          register = S.register;
          sequencers = S.sequencers;
          readers = S.readers;
          reader_names = S.reader_names;
          reader_places = S.reader_places;
          few_readers = S.few_readers;
          specs = all-put (IsSetFor c) l (record { log = l; set = set; r = r; extras = x }) s.specs (taken_is c B l r x set i t) S.specs;
        };
        sends = tt;
      }) (λ t. quietly s S)

      -- ---- events of readers ----
      none_of : {X : Type 0} (o : Option X) → not (is_some o) ≡ true → o ≡ None
      none_of None h = refl
      none_of (Some x) h = absurd cc

      opens_is : (style : Style) (name : List ℕ) (l from until : ℕ) → has_log c l ≡ true → find_named name s.readers ≡ None → Is64 until → IsDoneSoundly c (Step.opens s style name l from until)
      opens_is style name l from until h f u = either s S ((from == 0) || nat_lt until from) _ _ (λ t. saying s S _)
          (λ t. either s S (nat_le Step.reader_limit (length s.readers)) _ _ (λ k. saying s S _)
          (λ k. let p = or_parts (from == 0) (nat_lt until from) t in let z = eqb-false from 0 p.0 in let o = ltb-false until from p.1 in let b = leb-false Step.reader_limit (length s.readers) k in
          record { state = reader_new s S name (opened style l (length s.readers) from until) f refl b (opened_is c style l (length s.readers) from until h (omega arith) (omega arith) o u); sends = tt }))

      opens_new_is : (style : Style) (name : List ℕ) (l from until : ℕ) → Is64 until → IsDoneSoundly c (Step.opens_new c s style name l from until)
      opens_new_is style name l from until i = either s S (has_log c l && not (is_some (find_named name s.readers))) _ _
          (λ t. let p = and_parts (has_log c l) (not (is_some (find_named name s.readers))) t in opens_is style name l from until p.0 (none_of (find_named name s.readers) p.1) i) (λ t. quietly s S)

      polls_is : (name : List ℕ) (o : Option Reader) → find_named name s.readers ≡ o → IsDoneSoundly c (Step.polls c s name o)
      polls_is name None h = quietly s S
      polls_is name (Some d) h = let D = all-find_named (IsReader c) name s.readers d S.readers h in either s S (is_finished d) _ _ (λ t. quietly s S)
          (λ t. let K = looks_are s S d.log D.log in let l = ltb-false d.until d.next t in record {
            state = reader_put s S name d (polled (looks_at c s.register d.log) d) h refl (polled_is c (looks_at c s.register d.log) d K l D);
            sends = posts_sent (whos.Reader d.number) d.log (poll_asks (looks_at c s.register d.log) d) (log_is c B d.log D.log) (poll_sent c (looks_at c s.register d.log) d K l D);
          })

      -- ---- events of nodes ----
      where_node : (n : ℕ) (b : Bool) (d : Done) → (IsNode n → IsDoneSoundly c d) → IsDoneSoundly c (Step.where_node c s n b d)
      where_node n b d f = either s S (has_node c n && b) d (unchanged s) (λ t. f (node_is c B n (and_parts (has_node c n) b t).0)) (λ t. quietly s S)

      node_done : (n : ℕ) (x : Node) (ls : List Line) → IsNode n → IsNodeState x → IsDoneSoundly c (record { state = with_node s n x; lines = ls; sends = [] })
      node_done n x ls h i = record { state = node_put s S n x h i; sends = tt }

      formats_by : (n : ℕ) (r : Register) (o : Answer) → IsNode n → Follows c s.register r → IsDoneSoundly c (Step.formats_by c s n r o)
      formats_by n r Granted h F = keeps_is (with_register s r) (register_put s S r F) n (ops.Format (generation_of r n) (epochs_in r.logs)) (Step.format_lines c n r) [] h (generation_is c r n F.register, epochs_told c B r.logs F.register.logs) tt
      formats_by n r AtLimit h F = saying s S _
      formats_by n r (Behind lce) h F = quietly s S
      formats_by n r (Overtaken k) h F = quietly s S
      formats_by n r Fails h F = record { state = register_put s S r F; sends = tt }

      formats_loaded : (n : ℕ) (k : Kept) → IsNode n → IsDoneSoundly c (Step.formats_loaded c s n k)
      formats_loaded n Written h = formats_by n (draw s.register n).register (draw s.register n).answer h (draw_follows c s.register n S.register h)
      formats_loaded n DiskFailed h = saying s S _
      formats_loaded n Crashed h = saying s S _
      formats_loaded n JournalFull h = quietly s S

      replaces_by : (n other l count : ℕ) (r : Register) (o : Answer) → Follows c s.register r → IsDoneSoundly c (Step.replaces_by s n other l count r o)
      replaces_by n other l count r Granted F = either s S (count == 0) _ _ (λ t. quietly s S) (λ t. record { state = register_put s S r F; sends = tt })
      replaces_by n other l count r AtLimit F = saying s S _
      replaces_by n other l count r (Behind lce) F = quietly s S
      replaces_by n other l count r (Overtaken k) F = quietly s S
      replaces_by n other l count r Fails F = record { state = register_put s S r F; sends = tt }

      replaces_is : (n other l : ℕ) → IsDoneSoundly c (Step.where_node c s n (Step.can_replace c s n other l) (Step.replaces s n other l (log_of (node_at s n).plain l).lost_to))
      replaces_is n other l = let upto : ℕ = (log_of (node_at s n).plain l).lost_to in either s S (has_node c n && Step.can_replace c s n other l) _ _
          (λ t. let p = and_parts (has_node c n) (Step.can_replace c s n other l) t in
          let q = and_parts (has_log c l) (has_node c other && not (n == other)) (and_parts (has_log c l && (has_node c other && not (n == other))) _ p.1).0 in
          let o = (and_parts (has_node c other) (not (n == other)) q.1).0 in
          replaces_by n other l (swappable s.register l upto other n) (swap s.register l upto other n).register (swap s.register l upto other n).answer (swap_follows c B s.register l upto other n S.register q.0 o p.0)) (λ t. quietly s S)

      ticks_by : (n l : ℕ) (t : Ticked) → IsNode n → IsLog l → IsTicked t → IsDoneSoundly c (Step.ticks_as c s n l t)
      ticks_by n l (Cleans epoch y) h i k = keeps_is s S n (ops.Clean l epoch y) [] [] h (i, k.0, k.1) tt
      ticks_by n l Rebuilt h i k = keeps_is s S n (ops.Refilled l) _ [] h i tt
      ticks_by n l (Asks from) h i k = record { state = S; sends = posts_sent (whos.Node n) l (node_asks n (all_nodes c) from) i (asks_sent n from (all_nodes c) h k.0 k.1 (all_are c B)) }
      ticks_by n l Nothing h i k = quietly s S

      ticks_is : (n l : ℕ) → IsNode n → IsDoneSoundly c (Step.ticks c s n l)
      ticks_is n l h = let x : Node = node_at s n in either s S (is_up (node_at s n).status && has_log c l) _ _
          (λ t. let p = (and_parts (is_up (node_at s n).status) (has_log c l) t).1 in
          ticks_by n l (on_tick (log_of x.plain l) (epochs_of s.register l).summaries) h (log_is c B l p)
          (ticked_is (log_of x.plain l) (log_state last_handed_out x.plain l (node_is_sound s S n).plain) (epochs_of s.register l).summaries (λ e y f. closed_summary c s.register l e y S.register f)))
          (λ t. quietly s S)

    formats_is : (s : State) → IsSound c s → (n : ℕ) → IsNode n → IsDoneSoundly c (Step.formats c s n)
    formats_is s S n h = formats_loaded (with_node s n (load (node_at s n))) (node_put s S n (load (node_at s n)) h (load_is (node_at s n) (node_is_sound s S n))) n (load_end (node_at s n)) h

    -- ---- all events ----
    pub happens_is : (s : State) (e : Event) → IsEvent e → IsSound c s → IsDoneSoundly c (happens c s e)
    unfolding happens
    happens_is s (events.Format n) i S = where_node s S n (is_blank (node_at s n).status) (Step.formats c s n) (λ h. formats_is s S n h)
    happens_is s (events.Activate name l) i S = either s S (has_log c l && not (is_some (find_named name s.sequencers))) _ _ (λ t. activates_is s S name l (and_parts (has_log c l) _ t).0) (λ t. quietly s S)
    happens_is s (events.Append name payload) i S = live s S name (λ q. Step.append_done s name q payload (appending q payload)) (λ q Q. append_by s S name q payload (appending q payload) Q (appending_is s S q payload Q))
    happens_is s (events.Batch name messages) i S = live s S name (λ q. Step.append_done s name q (packed messages) (appending q (packed messages))) (λ q Q. append_by s S name q (packed messages) (appending q (packed messages)) Q (appending_is s S q (packed messages) Q))
    happens_is s (events.Trim name point) i S = live s S name (λ q. Step.trim_done c s name q point) (λ q Q. trim_by s S name q point Q)
    happens_is s (events.Retry name) i S = live s S name (λ q. Step.acted c s name q (on_retry (looks_at c s.register q.log) q)) (λ q Q. retry_by s S name q Q)
    happens_is s (events.Drop name) i S = live s S name (λ q. only_state (with_sequencer s name (Step.dropped q))) (λ q Q. record { state = sequencer_put s S name (Step.dropped q) (dropped_is c s.register q Q); sends = tt })
    happens_is s (events.Deliver k) i S = delivers_is s S k
    happens_is s (events.Lose k) i S = record { state = marked_is s S k; sends = tt }
    happens_is s (events.Flow k) i S = quietly s S
    happens_is s (events.Open name l from until) i S = opens_new_is s S styles.EachCopy name l from until i
    happens_is s (events.OpenOne name l from until) i S = opens_new_is s S styles.OneCopy name l from until i
    happens_is s (events.OpenMessages name l from until) i S = opens_new_is s S styles.OfMessages name l from until i
    happens_is s (events.Poll name) i S = polls_is s S name (find_named name s.readers) refl
    happens_is s (events.Tick n l) i S = where_node s S n true (Step.ticks c s n l) (λ h. ticks_is s S n l h)
    happens_is s (events.Down n) i S = where_node s S n (is_up (node_at s n).status || is_failed (node_at s n).status) _ (λ h. node_done s S n (Step.stopped (node_at s n)) _ h (stopped_is (node_at s n) (node_is_sound s S n)))
    happens_is s (events.Up n) i S = where_node s S n (is_down (node_at s n).status) (Step.comes_up s n) (λ h. node_done s S n (load (node_at s n)) _ h (load_is (node_at s n) (node_is_sound s S n)))
    happens_is s (events.Wipe n) i S = where_node s S n true _ (λ h. node_done s S n new_node _ h new_is)
    happens_is s (events.Fail n k) i S = where_node s S n true _ (λ h. node_done s S n (Step.with_fault (node_at s n) (record { left = k; crash = None })) [] h (fault_is (node_at s n) (node_is_sound s S n) (record { left = k; crash = None })))
    happens_is s (events.Tear n k picture) i S = where_node s S n true _ (λ h. node_done s S n (Step.with_fault (node_at s n) (record { left = k; crash = Some picture })) [] h (fault_is (node_at s n) (node_is_sound s S n) (record { left = k; crash = Some picture })))
    happens_is s (events.Set l r x set) i S = sets_is s S l r x set i
    happens_is s (events.Replace n other l) i S = replaces_is s S n other l
    happens_is s events.Calm i S = quietly s S
    happens_is s (events.RegFail k done) i S = record { state = register_put s S (Step.armed s.register k done) (follows_same c s.register s.register (Step.armed s.register k done) (refl, refl) (follows_self c s.register S.register)); sends = tt }

    -- ---- each step of a run ----
    pub move_is : (s : State) (m : Move) → IsEvent (event_of m) → IsSound c s → IsDoneSoundly c (moves c s m)
    move_is s (Takes e) i S = happens_is s e i S
    move_is s (Calms name) i S = live s S name (λ q. calms_acts c s name q (on_retry (looks_at c s.register q.log) q)) (λ q Q. calms_is s S name q Q)

    -- ---- steps and runs ----
    pub delivery_is : (s : State) (i : ℕ) → IsSound c s → IsSound c (finish (delivers c s i)).state
    delivery_is s i S = finish_is (delivers c s i) (delivers_is s S i)

    flowing : ℕ → State → Option ℕ → Stepped
    flowing k s o = elim o as (λ _. Stepped) [
      | None ↦ record { state = s; lines = [] }
      | Some i ↦ (let r : Stepped = finish (delivers c s i) in let rest : Stepped = flows k c r.state in record { state = rest.state; lines = r.lines ++ rest.lines })
    ]

    flowing_is : (k : ℕ) (s : State) (o : Option ℕ) → IsSound c s → ((t : State) → IsSound c t → IsSound c (flows k c t).state) → IsSound c (flowing k s o).state
    unfolding flowing
    flowing_is k s None S f = S
    flowing_is k s (Some i) S f = f (finish (delivers c s i)).state (delivery_is s i S)

    flows_is : (k : ℕ) (s : State) → IsSound c s → IsSound c (flows k c s).state
    unfolding flowing
    flows_is zero s S = S
    flows_is (suc k) s S = flowing_is k s (oldest_new s.network) S (λ t T. flows_is k t T)

    -- a calm makes a step that no event makes, deliveries, ticks and polls
    goes_is : (s : State) (ps : List Left) (x : Next) → next_of c s ps ≡ Some x → IsEvent (event_of x.move)
    unfolding next_of
    goes_is s [] x h = absurd cc
    goes_is s (Announces l ∷ ps) x h = announces_goes (last_of s l) ps x (next_of c s ps) (λ j. goes_is s ps x j) h
    goes_is s (Settles l ∷ ps) x h = delivers_goes (oldest_new s.network) (Settles l) ps x (next_of c s ps) (λ j. goes_is s ps x j) h
    goes_is s (Ticks l n ∷ ps) x h = moved_goes (Takes (events.Tick n l)) _ x tt h
    goes_is s (Reads name ∷ ps) x h = reads_goes name (find_named name s.readers) ps x (next_of c s ps) (λ j. goes_is s ps x j) h
    goes_is s (Drains ∷ ps) x h = delivers_goes (oldest_new s.network) Drains ps x (next_of c s ps) (λ j. goes_is s ps x j) h
    goes_is s (Again name next ∷ ps) x h = again_goes name next (find_named name s.readers) ps x (next_of c s ps) (λ j. goes_is s ps x j) h

    calming : ℕ → State → Option Next → Stepped
    calming k s o = elim o as (λ _. Stepped) [
      | None ↦ record { state = s; lines = [] }
      | Some x ↦ (let r : Stepped = moved c s x.move in let rest : Stepped = calmed k c r.state x.left in record { state = rest.state; lines = r.lines ++ rest.lines })
    ]

    calming_is : (k : ℕ) (s : State) (o : Option Next) → ((x : Next) → o ≡ Some x → IsEvent (event_of x.move)) → IsSound c s → ((t : State) (ps : List Left) → IsSound c t → IsSound c (calmed k c t ps).state) → IsSound c (calming k s o).state
    unfolding calming
    calming_is k s None h S f = S
    calming_is k s (Some x) h S f = f (moved c s x.move).state x.left (finish_is (moves c s x.move) (move_is s x.move (h x refl) S))

    calmed_is : (k : ℕ) (s : State) (ps : List Left) → IsSound c s → IsSound c (calmed k c s ps).state
    unfolding calming calmed
    calmed_is zero s ps S = S
    calmed_is (suc k) s ps S = calming_is k s (next_of c s ps) (λ x h. goes_is s ps x h) S (λ t qs T. calmed_is k t qs T)

    one_is : (s : State) (e : Event) → IsEvent e → IsSound c s → IsSound c (finish (happens c s e)).state
    one_is s e i S = finish_is (happens c s e) (happens_is s e i S)

    pub step_is : (s : State) (e : Event) → IsEvent e → IsSound c s → IsSound c (step c s e).state
    unfolding step
    step_is s (events.Flow k) i S = flows_is k s S
    step_is s (events.Format n) i S = one_is s (events.Format n) i S
    step_is s (events.Activate name l) i S = one_is s (events.Activate name l) i S
    step_is s (events.Append name payload) i S = one_is s (events.Append name payload) i S
    step_is s (events.Batch name messages) i S = one_is s (events.Batch name messages) i S
    step_is s (events.Trim name point) i S = one_is s (events.Trim name point) i S
    step_is s (events.Retry name) i S = one_is s (events.Retry name) i S
    step_is s (events.Drop name) i S = one_is s (events.Drop name) i S
    step_is s (events.Deliver k) i S = one_is s (events.Deliver k) i S
    step_is s (events.Lose k) i S = one_is s (events.Lose k) i S
    step_is s (events.Open name l from until) i S = one_is s (events.Open name l from until) i S
    step_is s (events.OpenOne name l from until) i S = one_is s (events.OpenOne name l from until) i S
    step_is s (events.OpenMessages name l from until) i S = one_is s (events.OpenMessages name l from until) i S
    step_is s (events.Poll name) i S = one_is s (events.Poll name) i S
    step_is s (events.Tick n l) i S = one_is s (events.Tick n l) i S
    step_is s (events.Down n) i S = one_is s (events.Down n) i S
    step_is s (events.Up n) i S = one_is s (events.Up n) i S
    step_is s (events.Wipe n) i S = one_is s (events.Wipe n) i S
    step_is s (events.Fail n k) i S = one_is s (events.Fail n k) i S
    step_is s (events.Tear n k picture) i S = one_is s (events.Tear n k picture) i S
    step_is s (events.Set l r x set) i S = one_is s (events.Set l r x set) i S
    step_is s (events.Replace n other l) i S = one_is s (events.Replace n other l) i S
    step_is s events.Calm i S = calmed_is (calm_fuel c s) s (all_left c s) S
    step_is s (events.RegFail k done) i S = one_is s (events.RegFail k done) i S

    -- ---- the start ----
    new_nodes_are : (ns : List ℕ) → AllByRecursion IsNode ns → AllByRecursion IsNodeAt (new_nodes ns)
    new_nodes_are [] a = tt
    new_nodes_are (n ∷ ns) a = (record { node = a.0; state = new_is }, new_nodes_are ns a.1)

    new_keys : (ns : List ℕ) → map.keys_of (new_nodes ns) ≡ ns
    new_keys [] = refl
    new_keys (n ∷ ns) = ap (λ l. n ∷ l) (new_keys ns)

    nothing_ordered : Ordered {X = Epochs} []
    unfolding IsStrictlySortedBy
    nothing_ordered = tt

    nobody_twice : Distinct {X = Reader} []
    unfolding IsDistinct
    nobody_twice = tt

    pub start_is : IsSound c (start c)
    start_is = record {
      messages = tt;
      nodes = new_nodes_are (members c.nodes) (members_nodes c.nodes B.nodes);
      nodes_rise = subst (IsStrictlySortedBy nat_cmp) (sym (new_keys (members c.nodes))) (sorted_from_strictly_increasing (members c.nodes) (members_rise c.nodes));
      register = record { rise = nothing_ordered; logs = tt; generations = tt };
      sequencers = tt;
      readers = tt;
      reader_names = nobody_twice;
      reader_places = tt;
      few_readers = omega arith;
      specs = tt;
    }

    pub run_is : (s : State) (es : List Event) → AllByRecursion IsEvent es → IsSound c s → IsSound c (state_after c s es)
    unfolding state_after
    run_is s [] a S = S
    run_is s (e ∷ es) a S = run_is (step c s e).state es a.1 (step_is s e a.0 S)
