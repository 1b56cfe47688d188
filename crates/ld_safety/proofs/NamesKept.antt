-- Each name stands once, in every state.
use Rattle.std.proofs.Common.{ℕ, List, [], ◌∷◌, ◌++◌, Option, Some, None}
use Rattle.ld_msg.specs.declared.msg.Msg.{Msg}
use Rattle.ld_msg.specs.declared.msg.Body.{Body}
use Rattle.ld_op.specs.declared.op.Op.{Op}
use Rattle.ld_op.specs.Ticks.{Ticked, Cleans, Rebuilt, Asks, Nothing}
use Rattle.ld_machine.specs.Disk.{Node}
use Rattle.ld_msg.specs.Sequencer.{Sequencer}
use Rattle.ld_msg.specs.Reader.{Reader}
use Rattle.ld_machine.specs.Step as Step
use Rattle.ld_config.specs.declared.config.Config.{Config}
use Rattle.ld_machine.specs.State.{State, finish, node_at, with_node, with_sequencer, with_reader}
use Rattle.ld_machine.specs.Facts.{Happened}
use Rattle.ld_machine.specs.World.{World, begin}
use Rattle.ld_safety.proofs.Names.{Once-put}
use Rattle.ld_safety.proofs.Traces.{Keeps}
use Rattle.ld_safety.proofs.Events.{NamesOnce, refreshed, Cases, dispatch}
use Rattle.ld_safety.proofs.Steps.{told, became, step_by}
use Rattle.ld_machine.specs.Calm as Calm
use Rattle.ld_machine.specs.Calm.{Move}

module _ (c : Config) (s : State) (e : Move) (N : NamesOnce s) where
  kept_cases : Cases c s e (λ d m. NamesOnce d.state)
  kept_cases = record {
    still = λ f older i. N;
    says = λ x q. N;
    node_hears = λ f older n m i t v o. handled f (Step.releases (node_at s n) m.log m.body) n m (Step.node_handles n (node_at s n) m).op (Step.node_handles n (node_at s n) m).answer;
    loads = λ n ls q b o. N;
    draw_fails = λ n b. N;
    formats = λ n r g b w i. N;
    ticks = λ n l t v i o. ticked n l t;
    stops = λ n b. N;
    wipes = λ n. N;
    faults = λ n f o. N;
    sets = λ l r x set h. N;
    arms = λ k done o. N;
    hears = λ f older name q m i t l v o. with_sequencer_once name _;
    retries = λ again name q v o. with_sequencer_once name _;
    appends = λ name q p v a i. with_sequencer_once name _;
    trims = λ name q t v b. N;
    drops = λ name q v o. with_sequencer_once name _;
    activates = λ name l r g n i x. with_sequencer_once name _;
    swaps = λ n m l x r q i. N;
    activate_fails = λ name l x g q. N;
    answers = λ f older name d m i t v o. with_reader_once name _;
    polls = λ name d v o. with_reader_once name _;
    opens = λ style name l from until o x. with_reader_once name _;
  } where
    with_sequencer_once : (name : List ℕ) (q : Sequencer) → NamesOnce (with_sequencer s name q)
    with_sequencer_once name q = (Once-put name q s.sequencers N.0, N.1)

    with_reader_once : (name : List ℕ) (d : Reader) → NamesOnce (with_reader s name d)
    with_reader_once name d = (N.0, Once-put name d s.readers N.1)

    handled : (f : List ℕ) (x : Node) (n : ℕ) (m : Msg) (o : Option Op) (b : Option Body) → NamesOnce (Step.handles (with_node (refreshed s f) n x) n m o b).state
    handled f x n m None b = N
    handled f x n m (Some o) b = N

    ticked : (n l : ℕ) (t : Ticked) → NamesOnce (Step.ticks_as c s n l t).state
    ticked n l (Cleans e y) = N
    ticked n l Rebuilt = N
    ticked n l (Asks from) = N
    ticked n l Nothing = N

  pub names_step : NamesOnce (finish (Calm.moves c s e)).state
  unfolding finish
  names_step = dispatch c s e (λ d m. NamesOnce d.state) N kept_cases

-- what is kept beside them
pub with_names : (c : Config) (P : List Happened → World → Type 0) → P [] (begin c)
    → ((hs : List Happened) (w : World) (e : Move) → NamesOnce w.state → P hs w → Cases c w.state e (λ d m. P (hs ++ told w.state.register e d ∷ []) (became w e d m)))
    → Keeps c (λ hs w. NamesOnce w.state × P hs w)
with_names c P b k = record {
  begins = ((tt, tt), b);
  goes_on = λ hs w e p. (names_step c w.state e p.0, step_by c P hs w e p.0 (k hs w e p.0 p.1));
}
