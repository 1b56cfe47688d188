-- What comes to sequencers comes from nodes.
use Rattle.std.proofs.Common.{◌≡◌, ℕ, inl, inr, refl, sym, ap, subst, cond, List, [], Option, Some, None}
use Rattle.ld_config.specs.declared.config.Config.{Config}
use Rattle.ld_msg.specs.declared.msg.Who.{Who}
use Rattle.ld_msg.specs.declared.msg.Who.TheVariants as whos
use Rattle.ld_msg.specs.declared.msg.Msg.{Msg}
use Rattle.ld_msg.specs.declared.msg.Body.{Body}
use Rattle.ld_op.specs.declared.op.Op.{Op}
use Rattle.ld_op.specs.Handles.{answer_message}
use Rattle.ld_op.specs.Ticks.{Ticked, Cleans, Rebuilt, Asks, Nothing}
use Rattle.ld_machine.specs.Disk.{Kept, Written, DiskFailed, Crashed, JournalFull}
use Rattle.ld_machine.specs.State.{State, with_node, posted, node_at}
use Rattle.ld_machine.specs.World.{In}
use Rattle.ld_machine.specs.Step as Step
use Rattle.ld_safety.proofs.Events.{Cases, refreshed}
use Rattle.ld_safety.proofs.Sent.{to_nodes}
use Rattle.ld_machine.specs.Calm.{Move}

abbrev pub AnswersFrom : List Msg → Type 0
AnswersFrom ms = (m : Msg) (b : ℕ) → In m ms → m.to ≡ whos.Sequencer b → m.from ≡ whos.Node (Step.sender_node m.from)

none_from : AnswersFrom []
none_from m b i t = absurd i

posted_from : (who : Who) (l : ℕ) (bs : List (ℕ × Body)) → AnswersFrom (posted who l bs)
posted_from who l bs m b i t = absurd (to_nodes who l bs m b i t)

answer_from : (n : ℕ) (m : Msg) (o : Option Body) → AnswersFrom (answer_message n m o)
answer_from n m None x b i t = absurd i
answer_from n m (Some z) x b (inl e) t = let f : x.from ≡ whos.Node n = ap (λ (y : Msg). y.from) e in subst (λ w. w ≡ whos.Node (Step.sender_node w)) (sym f) refl
answer_from n m (Some z) x b (inr i) t = absurd i

if_written : (k : Kept) (ms : List Msg) → AnswersFrom ms → AnswersFrom (cond (Step.is_written k) ms [])
if_written Written ms h = h
if_written DiskFailed ms h = none_from
if_written Crashed ms h = none_from
if_written JournalFull ms h = none_from

pub sender_cases : (c : Config) (s : State) (e : Move) → Cases c s e (λ d m. AnswersFrom d.sends)
sender_cases c s e = record {
  still = λ f older i. none_from;
  says = λ x q. none_from;
  node_hears = λ f older n m i t v o. handled f n m (Step.node_handles n (node_at s n) m).op (Step.node_handles n (node_at s n) m).answer;
  loads = λ n ls q b o. none_from;
  draw_fails = λ n b. none_from;
  formats = λ n r g b v i. if_written _ [] (none_from);
  ticks = λ n l t v i o. ticked n l t;
  stops = λ n b. none_from;
  wipes = λ n. none_from;
  faults = λ n f o. none_from;
  sets = λ l r x set g. none_from;
  arms = λ k done o. none_from;
  hears = λ f older name q m i t l v o. posted_from (whos.Sequencer q.epoch) q.log _;
  retries = λ again name q v o. posted_from (whos.Sequencer q.epoch) q.log _;
  appends = λ name q p v a i. posted_from (whos.Sequencer q.epoch) q.log _;
  trims = λ name q t v b. posted_from (whos.Sequencer q.epoch) q.log _;
  drops = λ name q v o. none_from;
  activates = λ name l r g n i x. posted_from (whos.Sequencer _) l _;
  swaps = λ n m l x r q i. none_from;
  activate_fails = λ name l x g q. none_from;
  answers = λ f older name d m i t v o. posted_from (whos.Reader _) _ _;
  polls = λ name d v o. posted_from (whos.Reader d.number) d.log _;
  opens = λ style name l from until o x. none_from;
} where
  handled : (f : List ℕ) (n : ℕ) (m : Msg) (o : Option Op) (b : Option Body) → AnswersFrom (Step.handles (with_node (refreshed s f) n (Step.releases (node_at s n) m.log m.body)) n m o b).sends
  handled f n m None b = answer_from n m b
  handled f n m (Some o) b = if_written _ (answer_message n m b) (answer_from n m b)

  ticked : (n l : ℕ) (t : Ticked) → AnswersFrom (Step.ticks_as c s n l t).sends
  ticked n l (Cleans k y) = if_written _ [] (none_from)
  ticked n l Rebuilt = if_written _ [] (none_from)
  ticked n l (Asks from) = posted_from (whos.Node n) l _
  ticked n l Nothing = none_from
