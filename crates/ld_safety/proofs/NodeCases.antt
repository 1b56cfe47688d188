-- What each event may do to a node: whatever these few changes keep holds of every node after it.
use Rattle.std.proofs.Common.{◌≡◌, ℕ, inl, inr, refl, ap, sym, subst, true, List, [], Option, Some, None}
use Rattle.std.specs.Option.{unwrap_or}
use Rattle.ld_table.proofs.Laws.{put_cases, find-put_same}
use Rattle.ld_config.specs.declared.config.Config.{Config}
use Rattle.ld_msg.specs.declared.msg.Who.TheVariants as whos
use Rattle.ld_msg.specs.declared.msg.Summary.{Summary}
use Rattle.ld_msg.specs.declared.msg.Msg.{Msg}
use Rattle.ld_msg.specs.declared.msg.Body.{Body}
use Rattle.ld_op.specs.declared.op.Op.{Op}
use Rattle.ld_op.specs.declared.op.Op.TheVariants as ops
use Rattle.ld_op.specs.Plain.{log_of}
use Rattle.ld_op.specs.Ticks.{Ticked, Cleans, Rebuilt, Asks, Nothing, on_tick}
use Rattle.ld_msg.specs.Register.{Register, Granted, epochs_of, epochs_in, generation_of, draw}
use Rattle.ld_machine.specs.Disk.{Node, Fault, new_node, keep_op, load, load_end, Written, is_blank}
use Rattle.ld_machine.specs.State.{State, node_at, with_node, with_register}
use Rattle.ld_machine.specs.World.{In}
use Rattle.ld_machine.specs.Step as Step
use Rattle.ld_safety.proofs.Events.{Cases, Serves, refreshed, loaded}
use Rattle.ld_machine.specs.Calm.{Move}

module _ (c : Config) (s : State) (e : Move) (P : ℕ → Node → Type 0) where
  pub record NodeKeeps : Type 0 where
    pub all : (y : ℕ) → P y (node_at s y)
    pub hears : (n : ℕ) (m : Msg) → In m s.network.sent → m.to ≡ whos.Node n → Serves c s n m.log → P n (Step.releases (node_at s n) m.log m.body)
    pub keeps : (n : ℕ) (m : Msg) (o : Op) → In m s.network.sent → m.to ≡ whos.Node n → Serves c s n m.log → (Step.node_handles n (node_at s n) m).op ≡ Some o → P n (keep_op (Step.releases (node_at s n) m.log m.body) o)
    pub loads : (n : ℕ) → P n (load (node_at s n))
    pub formats : (n : ℕ) (r : Register) → is_blank (node_at s n).status ≡ true → load_end (node_at s n) ≡ Written → draw s.register n ≡ record { register = r; answer = Granted } → P n (keep_op (load (node_at s n)) (ops.Format (generation_of r n) (epochs_in r.logs)))
    pub cleans : (n l k : ℕ) (y : Summary) → Serves c s n l → on_tick (log_of (node_at s n).plain l) (epochs_of s.register l).summaries ≡ Cleans k y → P n (keep_op (node_at s n) (ops.Clean l k y))
    pub rebuilds : (n l : ℕ) → Serves c s n l → on_tick (log_of (node_at s n).plain l) (epochs_of s.register l).summaries ≡ Rebuilt → P n (keep_op (node_at s n) (ops.Refilled l))
    pub stops : (n : ℕ) → P n (Step.stopped (node_at s n))
    pub wipes : (n : ℕ) → P n new_node
    pub faults : (n : ℕ) (f : Fault) → P n (Step.with_fault (node_at s n) f)

  module _ (K : NodeKeeps) where
    All : State → Type 0
    All t = (y : ℕ) → P y (node_at t y)

    put_node : (t : State) (n : ℕ) (x : Node) → P n x → ((y : ℕ) → P y (node_at t y)) → (y : ℕ) → P y (node_at (with_node t n x) y)
    put_node t n x h a y = elim (put_cases y n x t.nodes) [
      | inl e ↦ subst (λ (o : Option Node). P y (unwrap_or o new_node)) (sym e.1) (subst (λ k. P k x) (sym e.0) h)
      | inr e ↦ subst (λ (o : Option Node). P y (unwrap_or o new_node)) (sym e.1) (a y)
    ]

    pub node_here : (t : State) (n : ℕ) (x : Node) → node_at (with_node t n x) n ≡ x
    node_here t n x = ap (λ (o : Option Node). unwrap_or o new_node) (find-put_same n n x t.nodes refl)

    handled : (f : List ℕ) (n : ℕ) (m : Msg) (o : Option Op) (b : Option Body) → P n (Step.releases (node_at s n) m.log m.body) → ((p : Op) → o ≡ Some p → P n (keep_op (Step.releases (node_at s n) m.log m.body) p))
        → (y : ℕ) → P y (node_at (Step.handles (with_node (refreshed s f) n (Step.releases (node_at s n) m.log m.body)) n m o b).state y)
    handled f n m None b r h = put_node (refreshed s f) n (Step.releases (node_at s n) m.log m.body) r K.all
    handled f n m (Some o) b r h = let x : Node = Step.releases (node_at s n) m.log m.body in let t : State = with_node (refreshed s f) n x in
        put_node t n (keep_op (node_at t n) o) (subst (λ z. P n (keep_op z o)) (sym (node_here (refreshed s f) n x)) (h o refl)) (put_node (refreshed s f) n x r K.all)

    ticked : (n l : ℕ) (t : Ticked) → Serves c s n l → on_tick (log_of (node_at s n).plain l) (epochs_of s.register l).summaries ≡ t → (y : ℕ) → P y (node_at (Step.ticks_as c s n l t).state y)
    ticked n l (Cleans k y) v h = put_node s n (keep_op (node_at s n) (ops.Clean l k y)) (K.cleans n l k y v h) K.all
    ticked n l Rebuilt v h = put_node s n (keep_op (node_at s n) (ops.Refilled l)) (K.rebuilds n l v h) K.all
    ticked n l (Asks from) v h = K.all
    ticked n l Nothing v h = K.all

    formatted : (n : ℕ) (r : Register) → P n (keep_op (load (node_at s n)) (ops.Format (generation_of r n) (epochs_in r.logs))) → (y : ℕ) → P y (node_at (Step.keeps_op (with_register (loaded s n) r) n (ops.Format (generation_of r n) (epochs_in r.logs)) (Step.format_lines c n r) []).state y)
    formatted n r h = put_node (loaded s n) n (keep_op (node_at (loaded s n) n) (ops.Format (generation_of r n) (epochs_in r.logs))) (subst (λ z. P n (keep_op z (ops.Format (generation_of r n) (epochs_in r.logs)))) (sym (node_here s n (load (node_at s n)))) h)
        (put_node s n (load (node_at s n)) (K.loads n) K.all)

    pub node_cases : Cases c s e (λ d m. (y : ℕ) → P y (node_at d.state y))
    node_cases = record {
      still = λ f older i. K.all;
      says = λ x q. K.all;
      node_hears = λ f older n m i t v o. handled f n m (Step.node_handles n (node_at s n) m).op (Step.node_handles n (node_at s n) m).answer (K.hears n m i t v) (λ p q. K.keeps n m p i t v q);
      loads = λ n ls q b o. put_node s n (load (node_at s n)) (K.loads n) K.all;
      draw_fails = λ n b. put_node s n (load (node_at s n)) (K.loads n) K.all;
      formats = λ n r g b v i. formatted n r (K.formats n r b v i);
      ticks = λ n l t v i o. ticked n l t v i;
      stops = λ n b. put_node s n (Step.stopped (node_at s n)) (K.stops n) K.all;
      wipes = λ n. put_node s n new_node (K.wipes n) K.all;
      faults = λ n f o. put_node s n (Step.with_fault (node_at s n) f) (K.faults n f) K.all;
      sets = λ l r x set h. K.all;
      arms = λ k done o. K.all;
      hears = λ f older name q m i t l v o. K.all;
      retries = λ again name q v o. K.all;
      appends = λ name q p v a i. K.all;
      trims = λ name q t v b. K.all;
      drops = λ name q v o. K.all;
      activates = λ name l r g n i x. K.all;
      swaps = λ n m l x r q i. K.all;
      activate_fails = λ name l x g q. K.all;
      answers = λ f older name d m i t v o. K.all;
      polls = λ name d v o. K.all;
      opens = λ style name l from until o x. K.all;
    }
