-- The ends of a message that a frame can carry are actors within their bounds.
use Rattle.std.proofs.Common.{◌≡◌, true, false}
use Rattle.ld_msg.specs.declared.msg.Who.{Who}
use Rattle.ld_msg.specs.declared.msg.Who.TheVariants as whos
use Rattle.ld_msg.specs.declared.msg.Msg.{Msg}
use Rattle.ld_msg.specs.declared.msg.Body.{Body}
use Rattle.ld_msg.specs.declared.msg.Body.TheVariants as bodies
use Rattle.ld_msg.specs.Bounds.{IsNodeHere, IsSequencerHere, IsAsker, IsActor, Fits, IsMessage}
use Rattle.ld_bounds.specs.Sound.{is_node}

node_actor : (w : Who) → IsNodeHere w → IsActor w
node_actor (whos.Node n) h = h
node_actor (whos.Sequencer e) h = absurd h
node_actor (whos.Reader r) h = absurd h

sequencer_actor : (w : Who) → IsSequencerHere w → IsActor w
sequencer_actor (whos.Node n) h = absurd h
sequencer_actor (whos.Sequencer e) h = h
sequencer_actor (whos.Reader r) h = absurd h

asker_actor : (w : Who) → IsAsker w → IsActor w
asker_actor (whos.Node n) h = h
asker_actor (whos.Sequencer e) h = absurd h
asker_actor (whos.Reader r) h = h

-- the sender is a node, or the taker is
data NodeEnd (from to : Who) : Type 0 where
  Sends : IsNodeHere from → IsActor to → NodeEnd from to
  Takes : IsActor from → IsNodeHere to → NodeEnd from to

node_end : (from to : Who) (b : Body) → Fits from to b → NodeEnd from to
node_end from to (bodies.Store n lng x) f = Takes (sequencer_actor from f.0.0) f.0.1
node_end from to (bodies.Stored n) f = Sends f.0.0 (sequencer_actor to f.0.1)
node_end from to (bodies.SealedHere n k) f = Sends f.0.0 (sequencer_actor to f.0.1)
node_end from to (bodies.LostHere n round g end) f = Sends f.0 f.1
node_end from to (bodies.CleanHere n y) f = Sends f.0.0 (sequencer_actor to f.0.1)
node_end from to (bodies.TrimmedHere n t) f = Sends f.0.0 (sequencer_actor to f.0.1)
node_end from to (bodies.DigestAsk n) f = Takes (sequencer_actor from f.0.0) f.0.1
node_end from to (bodies.DigestPage n upto t lng es) f = Sends f.0.0 (sequencer_actor to f.0.1)
node_end from to (bodies.Clean e y) f = Takes (sequencer_actor from f.0.0) f.0.1
node_end from to (bodies.Release n) f = Takes (sequencer_actor from f.0.0) f.0.1
node_end from to (bodies.Trim t) f = Takes (sequencer_actor from f.0.0) f.0.1
node_end from to (bodies.ReadAsk round n) f = Takes (asker_actor from f.0) f.1
node_end from to (bodies.ReadOne round n set excluded) f = Takes (asker_actor from f.0) f.2
node_end from to (bodies.ReadPage round n upto c es) f = Sends f.0.0 (asker_actor to f.0.1)
node_end from to (bodies.ReadEnded round n end loss) f = Sends f.0.0 (asker_actor to f.0.1)
node_end from to (bodies.ReadTrim round n t) f = Sends f.0.0 (asker_actor to f.0.1)
node_end from to (bodies.ReadWait round n k) f = Sends f.0.0 (asker_actor to f.0.1)

module _ (from to : Who) where
  ends_by : NodeEnd from to → IsActor from × IsActor to
  ends_by (Sends h k) = (node_actor from h, k)
  ends_by (Takes h k) = (h, node_actor to k)

  sent_by : NodeEnd from to → (IsNodeHere to → ⊥) → IsNodeHere from
  sent_by (Sends h k) n = h
  sent_by (Takes h k) n = absurd (n k)

pub taker_is : (from to : Who) (b : Body) → Fits from to b → IsActor to
taker_is from to b f = (ends_by from to (node_end from to b f)).1

pub ends_are : (m : Msg) → IsMessage m → IsActor m.from × IsActor m.to
ends_are m i = ends_by m.from m.to (node_end m.from m.to m.body i.fits)

not_here : (w : Who) → is_node w ≡ false → IsNodeHere w → ⊥
not_here (whos.Node n) h i = let z : true ≡ false = h in absurd cc
not_here (whos.Sequencer e) h i = i
not_here (whos.Reader r) h i = i

-- only a node sends to one that is none
pub node_sends : (m : Msg) → IsMessage m → is_node m.to ≡ false → IsNodeHere m.from
node_sends m i h = sent_by m.from m.to (node_end m.from m.to m.body i.fits) (not_here m.to h)
