-- What holds in each state of a calm, for its next step to make the measure less.
use Rattle.std.proofs.Common.{◌≡◌, ◌≤◌, ℕ, ◌+◌, ◌*◌, true, false, if◌then◌else◌, List, ◌∷◌, length, Some}
use Rattle.ld_table.specs.Named.{find_named}
use Rattle.ld_ids.specs.Choice.{nodes_of}
use Rattle.ld_config.specs.declared.config.Config.{Config}
use Rattle.ld_schedule.specs.declared.event.Event.TheVariants as events
use Rattle.ld_msg.specs.declared.msg.Who.TheVariants as whos
use Rattle.ld_msg.specs.declared.msg.Msg.{Msg}
use Rattle.ld_msg.specs.Network.{message}
use Rattle.ld_msg.specs.Sequencer.{Sequencer}
use Rattle.ld_msg.specs.Reader.{Reader, is_finished}
use Rattle.ld_machine.specs.Config.{looks_at, has_log, has_node}
use Rattle.ld_machine.specs.State.{State}
use Rattle.ld_machine.specs.Step as Step
use Rattle.ld_machine.specs.World.{In}
use Rattle.ld_safety.proofs.Events.{NamesOnce}
use Rattle.ld_machine.specs.Calm.{Takes, Left, Ticks, moved, cleans}
use Rattle.ld_calm.proofs.Weights.{InPlace}
use Rattle.ld_calm.proofs.Measure.{Ground, measure}
use Rattle.ld_calm.proofs.Deliveries.{Fits, FitsReply}
use Rattle.ld_calm.proofs.Heard.{FitsAnswer}
use Rattle.ld_calm.proofs.Noded.{Cleaner}
use Rattle.ld_calm.proofs.Others.{FitsRetry}

-- of a sequencer that is there
pub record OfSequencer (c : Config) (s : State) (g : Ground) (q : Sequencer) : Type 0 where
  pub fits : Fits c s (g.sizes q.log) q
  pub retry : FitsRetry (g.sizes q.log) q
  pub nodes : (g.sizes q.log).nodes ≡ g.nodes
  pub items : (g.sizes q.log).items ≤ g.nodes * (g.given q.log + 1)
  pub given : length q.appends ≤ g.given q.log

-- of a reader
pub record OfReader (c : Config) (s : State) (g : Ground) (d : Reader) : Type 0 where
  pub looked : (e : ℕ) → length (nodes_of (looks_at c s.register d.log e).spec) ≤ g.nodes
  pub swaps : (e : ℕ) → (looks_at c s.register d.log e).swaps ≡ g.swaps d.log

-- of a message that is new
pub record OfMessage (c : Config) (s : State) (g : Ground) (i : ℕ) (m : Msg) : Type 0 where
  pub to_sequencer : (b : ℕ) → m.to ≡ whos.Sequencer b → (name : List ℕ) (q : Sequencer) → find_named name s.sequencers ≡ Some q → q.gone ≡ false → q.log ≡ m.log → q.epoch ≡ b → FitsReply (g.sizes q.log) q (Step.sender_node m.from) m.body
  pub to_reader : (k : ℕ) → m.to ≡ whos.Reader k → (name : List ℕ) (d : Reader) → find_named name s.readers ≡ Some d → is_finished d ≡ false → d.number ≡ k → FitsAnswer c s g name d (Step.sender_node m.from) m.body
  pub to_node : (n : ℕ) → m.to ≡ whos.Node n → Cleaner s.nodes (Step.delivers c s i).state.nodes

pub record Holds (c : Config) (g : Ground) (s : State) : Type 0 where
  pub names : NamesOnce s
  pub places : InPlace s.network
  pub all : length g.all ≡ g.nodes
  pub sequencers : (name : List ℕ) (q : Sequencer) → find_named name s.sequencers ≡ Some q → q.gone ≡ false → OfSequencer c s g q
  pub readers : (name : List ℕ) (d : Reader) → find_named name s.readers ≡ Some d → OfReader c s g d
  pub messages : (i : ℕ) (m : Msg) → In i s.network.fresh → message s.network i ≡ Some m → OfMessage c s g i m
  pub ticks : (l n : ℕ) (ps : List Left) → has_log c l ≡ true → has_node c n ≡ true → measure g (moved c s (Takes (events.Tick n l))).state (if cleans s n l then Ticks l n ∷ ps else ps) + 1 ≤ measure g s (Ticks l n ∷ ps)
