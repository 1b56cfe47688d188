-- What a half adds to what holds in each state of a calm.
use Rattle.std.proofs.Common.{◌≡◌, ◌∙◌, ◌≤◌, ℕ, ◌+◌, ap, sym, true, false, if◌then◌else◌, List, ◌∷◌, length, Some, None}
use Rattle.ld_table.specs.Named.{find_named}
use Rattle.ld_ids.specs.Choice.{nodes_of}
use Rattle.ld_config.specs.declared.config.Config.{Config}
use Rattle.ld_schedule.specs.declared.event.Event.TheVariants as events
use Rattle.ld_msg.specs.declared.msg.Who.TheVariants as whos
use Rattle.ld_msg.specs.declared.msg.Msg.{Msg}
use Rattle.ld_msg.specs.Network.{message}
use Rattle.ld_msg.specs.Sequencer.{Sequencer}
use Rattle.ld_msg.specs.Reader.{Reader, Confirmation, is_finished, heard}
use Rattle.ld_machine.specs.Config.{looks_at, has_log, has_node}
use Rattle.ld_machine.specs.State.{State}
use Rattle.ld_machine.specs.Step as Step
use Rattle.ld_machine.specs.World.{In}
use Rattle.ld_safety.proofs.Events.{message_sent}
use Rattle.ld_machine.specs.Calm.{Move, Takes, Left, Ticks, moved, cleans, calm_bound, calm_moves}
use Rattle.ld_calm.specs.Ends.{IsCalm}
use Rattle.ld_calm.proofs.Weights.{InPlace}
use Rattle.ld_calm.proofs.Measure.{Ground, ground_of, ground_at, measure}
use Rattle.ld_calm.proofs.Deliveries.{FitsReply}
use Rattle.ld_calm.proofs.Noded.{Cleaner}
use Rattle.ld_calm.proofs.Halves.{begin_half}
use Rattle.ld_calm.proofs.Falling.{OfSequencer, OfReader, OfMessage}
use Rattle.ld_calm.proofs.Starting.{Starts}
use Rattle.ld_calm.proofs.Renewing.{renew}
use Rattle.ld_calm.proofs.Turning.{Quiet, Stays, calm_ends_when}
use Rattle.ld_calm.proofs.HalfKept.{InHalf, half_step, half_begins, half_ticks, half_first}
use Rattle.ld_calm.proofs.Answering.{Items}
use Rattle.ld_calm.proofs.Fitting.{ReadersKnown, fits_in_half}

-- where items end
abbrev pub ItemsAt : Config → Ground → State → Type 0
ItemsAt c g s = (all : length g.all ≡ g.nodes) (m : Msg) → In m s.network.sent → (name : List ℕ) (d : Reader) → find_named name s.readers ≡ Some d → is_finished d ≡ false → m.to ≡ whos.Reader d.number
    → (looked : (e : ℕ) → length (nodes_of (looks_at c s.register d.log e).spec) ≤ g.nodes) (swaps : (e : ℕ) → (looks_at c s.register d.log e).swaps ≡ g.swaps d.log)
    (since : g.since name ≤ d.round) (apart : (v : Confirmation) → (heard d (Step.sender_node m.from) m.body).confirming ≡ Some v → d.senders ≡ None)
    → Items (ground_of g name d.log) all (looks_at c s.register d.log) looked swaps d (Step.sender_node m.from) m.body since apart

-- a new message is for a sequencer whose sizes it fits, or for a node that cleans no less by it
pub record Others (c : Config) (s : State) (g : Ground) (i : ℕ) (m : Msg) : Type 0 where
  pub to_sequencer : (b : ℕ) → m.to ≡ whos.Sequencer b → (name : List ℕ) (q : Sequencer) → find_named name s.sequencers ≡ Some q → q.gone ≡ false → q.log ≡ m.log → q.epoch ≡ b → FitsReply (g.sizes q.log) q (Step.sender_node m.from) m.body
  pub to_node : (n : ℕ) → m.to ≡ whos.Node n → Cleaner s.nodes (Step.delivers c s i).state.nodes

-- the rest: invariants of runs, and what a calm leaves as it is
pub record Rest (c : Config) (Q : Ground → State → Type 0) : Type 0 where
  pub known : (g : Ground) (s : State) → Q g s → ReadersKnown g.all s
  pub places : (g : Ground) (s : State) → Q g s → InPlace s.network
  pub all : (g : Ground) (s : State) → Q g s → length g.all ≡ g.nodes
  pub sequencers : (g : Ground) (s : State) → Q g s → (name : List ℕ) (q : Sequencer) → find_named name s.sequencers ≡ Some q → q.gone ≡ false → OfSequencer c s g q
  pub readers : (g : Ground) (s : State) → Q g s → (name : List ℕ) (d : Reader) → find_named name s.readers ≡ Some d → OfReader c s g d
  pub others : (g : Ground) (s : State) → Q g s → (i : ℕ) (m : Msg) → In i s.network.fresh → message s.network i ≡ Some m → Others c s g i m
  pub items : (g : Ground) (s : State) → Q g s → ItemsAt c g s
  pub falls : (g : Ground) (s : State) → Q g s → (l n : ℕ) (ps : List Left) → has_log c l ≡ true → has_node c n ≡ true → measure g (moved c s (Takes (events.Tick n l))).state (if cleans s n l then Ticks l n ∷ ps else ps) + 1 ≤ measure g s (Ticks l n ∷ ps)
  pub step : (g : Ground) (s : State) (m : Move) → Q g s → Quiet m → Q g (moved c s m).state
  pub begins : (g : Ground) (s : State) (l : ℕ) → Q g s → Q (begin_half g s l) s
  pub ticks : (g : Ground) (s : State) (n l : ℕ) → Q g s → Q (renew g (moved c s (Takes (events.Tick n l))).state l) (moved c s (Takes (events.Tick n l))).state

module _ (c : Config) (Q : Ground → State → Type 0) (R : Rest c Q) where
  message_holds : (g : Ground) (s : State) → Q g s → InHalf g s → (i : ℕ) (m : Msg) → In i s.network.fresh → message s.network i ≡ Some m → OfMessage c s g i m
  message_holds g s q h i m new f = record {
    to_sequencer = (R.others g s q i m new f).to_sequencer;
    to_node = (R.others g s q i m new f).to_node;
    to_reader = λ k t name d e o n.
        let there : In m s.network.sent = message_sent s i m f in let to : m.to ≡ whos.Reader d.number = t ∙ ap whos.Reader (sym n) in let r = R.readers g s q name d e in
        fits_in_half c g s (R.known g s q) h (R.all g s q) name d e o m there to r.looked r.swaps (R.items g s q (R.all g s q) m there name d e o to r.looked r.swaps);
  }

  pub stays : Stays c (λ g s. Q g s × InHalf g s)
  stays = record {
    holds = λ g s p. record {
      names = (R.known g s p.0).known.names;
      places = R.places g s p.0;
      all = R.all g s p.0;
      sequencers = R.sequencers g s p.0;
      readers = R.readers g s p.0;
      messages = message_holds g s p.0 p.1;
      ticks = R.falls g s p.0;
    };
    apart = λ g s p. (R.known g s p.0).alone;
    step = λ g s m p k. (R.step g s m p.0 k, half_step c g s m (R.known g s p.0).known p.1 k);
    begins = λ g s l p o. (R.begins g s l p.0, half_begins g s l (R.known g s p.0).known p.1);
    ticks = λ g s n l p r. let t : State = (moved c s (Takes (events.Tick n l))).state in let q : Q (renew g t l) t = R.ticks g s n l p.0 in
        (q, half_ticks c g s n l (R.known g s p.0).known (R.known (renew g t l) t q).known p.1 r);
  }

  -- a calm ends, of a state with the rest
  pub calm_ends_with : (s : State) → Starts c s → Q (ground_at c s) s → IsCalm c s (calm_moves c s) × (length (calm_moves c s) ≤ calm_bound c s)
  calm_ends_with s S q = calm_ends_when c (λ g t. Q g t × InHalf g t) s stays S (q, half_first c s (R.known (ground_at c s) s q).known)
