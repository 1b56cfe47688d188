-- Along a run no node's generation at the register falls, so a node that is lost later under a generation of before was lost all the time between.
use Rattle.std.proofs.Common.{Bool, ◌≡◌, ◌∙◌, ◌≤◌, ℕ, ◌+◌, inl, inr, refl, ap, subst, List, [], ◌∷◌, Option, Some, None, arith}
use Rattle.std.specs.Option.{unwrap_or}
use Rattle.ld_table.specs.Table.{find}
use Rattle.ld_table.proofs.Laws.{put_cases}
use Rattle.ld_config.specs.declared.config.Config.{Config}
use Rattle.ld_ids.specs.declared.set.Spec.{Spec}
use Rattle.ld_msg.specs.declared.msg.Summary.{Summary}
use Rattle.ld_msg.specs.declared.msg.Msg.{Msg}
use Rattle.ld_msg.specs.declared.msg.Body.{Body}
use Rattle.ld_op.specs.declared.op.Op.{Op}
use Rattle.ld_op.specs.Ticks.{Ticked, Cleans, Rebuilt, Asks, Nothing}
use Rattle.ld_machine.specs.Disk.{Node}
use Rattle.ld_msg.specs.Register.{swap, Register, View, Changed, generation_of, close, activate, draw}
use Rattle.ld_msg.specs.Sequencer.{Acts, called, Attempt}
use Rattle.ld_machine.specs.State.{State, finish, node_at, with_node}
use Rattle.ld_machine.specs.World.{World}
use Rattle.ld_machine.specs.Run.{after_step}
use Rattle.ld_machine.specs.Step as Step
use Rattle.ld_safety.proofs.Events.{NamesOnce, Cases, dispatch, refreshed}
use Rattle.ld_safety.proofs.RegisterSteps.{Drawn, activate_leaves, close_leaves, draw_leaves, swap_leaves}
use Rattle.ld_safety.proofs.NodeCases.{node_cases}
use Rattle.ld_safety.proofs.LostNodes.{LostIn, lost_keeps}
use Rattle.ld_machine.specs.Calm.{Move}

-- no generation falls
abbrev pub NoneFalls : Register → Register → Type 0
NoneFalls r k = (n : ℕ) → generation_of r n ≤ generation_of k n

same_generations : (r k : Register) → k.generations ≡ r.generations → NoneFalls r k
same_generations r k e n = let z : generation_of k n ≡ generation_of r n = ap (λ m. unwrap_or (find n m) 0) e in omega arith

drawn_generations : (r : Register) (n : ℕ) (k : Register) → Drawn r n k → NoneFalls r k
drawn_generations r n k d y = elim (put_cases y n (generation_of r n + 1) r.generations) [
  | inl a ↦ (let z : generation_of k y ≡ generation_of r n + 1 = ap (λ m. unwrap_or (find y m) 0) d.1 ∙ ap (λ o. unwrap_or o 0) a.1 in let w : generation_of r y ≡ generation_of r n = ap (generation_of r) a.0 in omega arith)
  | inr a ↦ (let z : generation_of k y ≡ generation_of r y = ap (λ m. unwrap_or (find y m) 0) d.1 ∙ ap (λ o. unwrap_or o 0) a.1 in omega arith)
]

pub swap_generations : (r : Register) (l upto old new : ℕ) → NoneFalls r (swap r l upto old new).register
swap_generations r l upto old new = elim (swap_leaves r l upto old new) [ inl a ↦ same_generations r (swap r l upto old new).register a.1 | inr a ↦ same_generations r (swap r l upto old new).register a.1 ]

pub activate_generations : (r : Register) (l : ℕ) (p : Spec) → NoneFalls r (activate r l p).register
activate_generations r l p = elim (activate_leaves r l p) [ inl a ↦ same_generations r (activate r l p).register a.1 | inr a ↦ same_generations r (activate r l p).register a.1.1 ]

close_generations : (r : Register) (l e : ℕ) (y : Summary) (b : Bool) → NoneFalls r (close r l e y b).register
close_generations r l e y b = elim (close_leaves r l e y b) [ inl a ↦ same_generations r (close r l e y b).register a.1 | inr a ↦ same_generations r (close r l e y b).register a.1.1 ]

pub draw_generations : (r : Register) (n : ℕ) → NoneFalls r (draw r n).register
draw_generations r n = elim (draw_leaves r n) [ inl a ↦ same_generations r (draw r n).register a.1 | inr a ↦ drawn_generations r n (draw r n).register a ]

pub call_generations : (r : Register) (looks : ℕ → View) (a : Acts) (ts : List Attempt) → NoneFalls r (called looks r a ts).register
call_generations r looks a [] = same_generations r r refl
call_generations r looks a (t ∷ ts) = close_generations r a.sequencer.log t.epoch t.summary t.short

module _ (c : Config) (s : State) (e : Move) where
  same : NoneFalls s.register s.register
  same = same_generations s.register s.register refl

  handled : (f : List ℕ) (n : ℕ) (m : Msg) (x : Node) (o : Option Op) (b : Option Body) → NoneFalls s.register (Step.handles (with_node (refreshed s f) n x) n m o b).state.register
  handled f n m x None b = same
  handled f n m x (Some o) b = same

  ticked : (n l : ℕ) (t : Ticked) → NoneFalls s.register (Step.ticks_as c s n l t).state.register
  ticked n l (Cleans k y) = same
  ticked n l Rebuilt = same
  ticked n l (Asks from) = same
  ticked n l Nothing = same

  generation_cases : Cases c s e (λ d m. NoneFalls s.register d.state.register)
  generation_cases = record {
    still = λ f older i. same;
    says = λ x q. same;
    node_hears = λ f older n m i t v o. handled f n m (Step.releases (node_at s n) m.log m.body) (Step.node_handles n (node_at s n) m).op (Step.node_handles n (node_at s n) m).answer;
    loads = λ n ls q b o. same;
    draw_fails = λ n b. draw_generations s.register n;
    formats = λ n r g b v i. subst (λ (d : Changed). NoneFalls s.register d.register) i (draw_generations s.register n);
    ticks = λ n l t v i o. ticked n l t;
    stops = λ n b. same;
    wipes = λ n. same;
    faults = λ n f o. same;
    sets = λ l r x set h. same;
    arms = λ k done o. same_generations s.register (Step.armed s.register k done) refl;
    hears = λ f older name q m i t l v o. call_generations s.register _ _ _;
    retries = λ again name q v o. call_generations s.register _ _ _;
    appends = λ name q p v a i. same;
    trims = λ name q t v b. same;
    drops = λ name q v o. same;
    activates = λ name l r g n i x. subst (λ (d : Changed). NoneFalls s.register d.register) i (activate_generations s.register l (Step.spec_set c s l));
    swaps = λ n m l x r q i. swap_generations s.register l _ m n;
    activate_fails = λ name l x g q. activate_generations s.register l (Step.spec_set c s l);
    answers = λ f older name d m i t v o. same;
    polls = λ name d v o. same;
    opens = λ style name l from until o x. same;
  }

-- a step draws or keeps each generation
pub generations_step : (c : Config) (w : World) (e : Move) → NamesOnce w.state → NoneFalls w.state.register (after_step c w e).state.register
unfolding finish
generations_step c w e N = dispatch c w.state e (λ d m. NoneFalls w.state.register d.state.register) N (generation_cases c w.state e)

-- whoever is lost in the later world under a generation of the earlier one was lost in the earlier one
pub record Back (before after : World) : Type 0 where
  pub generations : NoneFalls before.state.register after.state.register
  pub lost : (y l e g : ℕ) → g ≤ generation_of before.state.register y → LostIn (node_at after.state y) l e g → LostIn (node_at before.state y) l e g

pub back_here : (w : World) → Back w w
back_here w = record { generations = λ n. omega arith; lost = λ y l e g b h. h }

pub back_on : (u v w : World) → Back u v → Back v w → Back u w
back_on u v w a b = record {
  generations = λ n. (let x = a.generations n in let y = b.generations n in omega arith);
  lost = λ y l e g h z. a.lost y l e g h (b.lost y l e g (let x = a.generations y in omega arith) z);
}

pub back_step : (c : Config) (w : World) (e : Move) → NamesOnce w.state → Back w (after_step c w e)
unfolding finish
back_step c w e N = record {
  generations = generations_step c w e N;
  lost = λ y l k g b h. dispatch c w.state e (λ d m. (y : ℕ) → (l e g : ℕ) → g ≤ generation_of w.state.register y → LostIn (node_at d.state y) l e g → LostIn (node_at w.state y) l e g) N
      (node_cases c w.state e (λ y x. (l e g : ℕ) → g ≤ generation_of w.state.register y → LostIn x l e g → LostIn (node_at w.state y) l e g) (lost_keeps c w.state e)) y l k g b h;
}

-- lost at two moments under one generation, and at each one between
pub lost_between : (u v w : World) → Back u v → Back v w → (y l e g : ℕ) → g ≤ generation_of u.state.register y → LostIn (node_at w.state y) l e g → LostIn (node_at v.state y) l e g × LostIn (node_at u.state y) l e g
lost_between u v w a b y l e g h z = let k : LostIn (node_at v.state y) l e g = b.lost y l e g (let x = a.generations y in omega arith) z in (k, a.lost y l e g h k)
