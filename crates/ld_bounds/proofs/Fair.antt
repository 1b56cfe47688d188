-- Each message that a frame can carry has a node at one end.
use Rattle.std.proofs.Common.{◌≡◌, refl, true, ◌||◌, List, [], ◌∷◌}
use Rattle.std.proofs.lemmas.Bool.{or_left, or_right}
use Rattle.ld_msg.specs.declared.msg.Who.{Who}
use Rattle.ld_msg.specs.declared.msg.Who.TheVariants as whos
use Rattle.ld_msg.specs.declared.msg.Msg.{Msg}
use Rattle.ld_msg.specs.declared.msg.Body.{Body}
use Rattle.ld_msg.specs.declared.msg.Body.TheVariants as bodies
use Rattle.ld_msg.specs.Bounds.{IsNodeHere, Fits, IsMessage}
use Rattle.ld_node_bounds.specs.Messages.{AreMessages}
use Rattle.ld_bounds.specs.Sound.{is_node, is_fair, AreFair}

node_there : (w : Who) → IsNodeHere w → is_node w ≡ true
node_there (whos.Node n) h = refl
node_there (whos.Sequencer e) h = absurd h
node_there (whos.Reader r) h = absurd h

sender : (from to : Who) → IsNodeHere from → (is_node from || is_node to) ≡ true
sender from to h = or_left (is_node from) (is_node to) (node_there from h)

taker : (from to : Who) → IsNodeHere to → (is_node from || is_node to) ≡ true
taker from to h = or_right (is_node from) (is_node to) (node_there to h)

fair_of : (from to : Who) (b : Body) → Fits from to b → (is_node from || is_node to) ≡ true
fair_of from to (bodies.Store n lng x) f = taker from to f.0.1
fair_of from to (bodies.Stored n) f = sender from to f.0.0
fair_of from to (bodies.SealedHere n k) f = sender from to f.0.0
fair_of from to (bodies.LostHere n round g end) f = sender from to f.0
fair_of from to (bodies.CleanHere n y) f = sender from to f.0.0
fair_of from to (bodies.TrimmedHere n t) f = sender from to f.0.0
fair_of from to (bodies.DigestAsk n) f = taker from to f.0.1
fair_of from to (bodies.DigestPage n upto t lng es) f = sender from to f.0.0
fair_of from to (bodies.Clean e y) f = taker from to f.0.1
fair_of from to (bodies.Release n) f = taker from to f.0.1
fair_of from to (bodies.Trim t) f = taker from to f.0.1
fair_of from to (bodies.ReadAsk round n) f = taker from to f.1
fair_of from to (bodies.ReadOne round n set excluded) f = taker from to f.2
fair_of from to (bodies.ReadPage round n upto c es) f = sender from to f.0.0
fair_of from to (bodies.ReadEnded round n end loss) f = sender from to f.0.0
fair_of from to (bodies.ReadTrim round n t) f = sender from to f.0.0
fair_of from to (bodies.ReadWait round n k) f = sender from to f.0.0

pub fair_message : (m : Msg) → IsMessage m → is_fair m ≡ true
fair_message m i = fair_of m.from m.to m.body i.fits

pub all_fair : (ms : List Msg) → AreMessages ms → AreFair ms
all_fair [] a = tt
all_fair (m ∷ ms) a = (fair_message m a.0, all_fair ms a.1)
