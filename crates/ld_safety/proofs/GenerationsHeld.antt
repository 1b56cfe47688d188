-- Each generation at a node was drawn for it at the register.
use Rattle.std.proofs.Common.{◌≡◌, ◌≤◌, ℕ, inl, inr, refl, ap, sym, subst, Bool, true, false, if◌then◌else◌, List, [], ◌∷◌, Option, Some, None, arith}
use Rattle.std.specs.Option.{unwrap_or}
use Rattle.ld_table.specs.Table.{find}
use Rattle.ld_table.proofs.Laws.{put_cases, find-put_same}
use Rattle.ld_ids.specs.Set.{members}
use Rattle.ld_config.specs.declared.config.Config.{Config}
use Rattle.ld_msg.specs.declared.msg.Msg.{Msg}
use Rattle.ld_msg.specs.declared.msg.Body.{Body}
use Rattle.ld_op.specs.declared.op.Op.{Op}
use Rattle.ld_op.specs.declared.op.Op.TheVariants as ops
use Rattle.ld_op.specs.Plain.{Plain, apply}
use Rattle.ld_op.specs.Ticks.{Ticked, Cleans, Rebuilt, Asks, Nothing}
use Rattle.ld_msg.specs.Register.{Register, Changed, Granted, generation_of, epochs_in, draw, activate}
use Rattle.ld_msg.specs.Sequencer.{called, on_reply, on_retry}
use Rattle.ld_machine.specs.Config.{looks_at}
use Rattle.ld_machine.specs.Disk.{Node, new_node, keep_op, load}
use Rattle.ld_machine.specs.State.{State, start, new_nodes, finish, node_at, with_node, with_register}
use Rattle.ld_machine.specs.World.{World, MayHold}
use Rattle.ld_machine.specs.Run.{after_step}
use Rattle.ld_machine.specs.Step as Step
use Rattle.ld_safety.proofs.Lists.{not_none}
use Rattle.ld_safety.proofs.Events.{swapped_by, NamesOnce, Cases, dispatch, refreshed, loaded}
use Rattle.ld_safety.proofs.HoldSteps.{is_format, same_generation, handled_plain}
use Rattle.ld_safety.proofs.LostNodes.{kept_from, loaded_from, released_from}
use Rattle.ld_safety.proofs.Generations.{NoneFalls, swap_generations, activate_generations, draw_generations, call_generations}
use Rattle.ld_machine.specs.Calm.{Move}

-- each plain state that a load may find at the node
abbrev pub DrawnAt : Register → ℕ → Node → Type 0
DrawnAt r y x = (p : Plain) → MayHold x p → p.generation ≤ generation_of r y

abbrev pub AllDrawn : Register → State → Type 0
AllDrawn r t = (y : ℕ) → DrawnAt r y (node_at t y)

put_drawn : (r : Register) (t : State) (n : ℕ) (x : Node) → DrawnAt r n x → AllDrawn r t → AllDrawn r (with_node t n x)
put_drawn r t n x h a y = elim (put_cases y n x t.nodes) [
  | inl e ↦ subst (λ (o : Option Node). DrawnAt r y (unwrap_or o new_node)) (sym e.1) (subst (λ k. DrawnAt r k x) (sym e.0) h)
  | inr e ↦ subst (λ (o : Option Node). DrawnAt r y (unwrap_or o new_node)) (sym e.1) (a y)
]

node_here : (t : State) (n : ℕ) (x : Node) → node_at (with_node t n x) n ≡ x
node_here t n x = ap (λ (o : Option Node). unwrap_or o new_node) (find-put_same n n x t.nodes refl)

kept_drawn : (r : Register) (y : ℕ) (x : Node) (o : Op) → DrawnAt r y x → (apply x.plain o).generation ≤ generation_of r y → DrawnAt r y (keep_op x o)
kept_drawn r y x o h g p q = elim (kept_from x o p q).from [ inl a ↦ h p a | inr a ↦ subst (λ (z : Plain). z.generation ≤ generation_of r y) (sym a) g ]

plain_drawn : (r : Register) (y : ℕ) (x : Node) (o : Op) → is_format o ≡ false → DrawnAt r y x → DrawnAt r y (keep_op x o)
plain_drawn r y x o n h = kept_drawn r y x o h (let z = same_generation x.plain o n in let k = h x.plain (inl refl) in omega arith)

up_drawn : (r k : Register) (t : State) → NoneFalls r k → AllDrawn r t → AllDrawn k t
up_drawn r k t u a y p h = let z = u y in let v = a y p h in omega arith

blank_drawn : (r : Register) (y : ℕ) → DrawnAt r y new_node
blank_drawn r y p (inl q) = subst (λ (z : Plain). z.generation ≤ generation_of r y) (sym q) (omega arith)
blank_drawn r y p (inr q) = absurd (not_none q.1)

module _ (c : Config) (s : State) (e : Move) (A : AllDrawn s.register s) where
  load_drawn : (n : ℕ) → AllDrawn s.register (loaded s n)
  load_drawn n = put_drawn s.register s n (load (node_at s n)) (λ p h. A n p (loaded_from (node_at s n) p h)) A

  handled : (f : List ℕ) (n : ℕ) (m : Msg) (o : Option Op) (b : Option Body) → (Step.node_handles n (node_at s n) m).op ≡ o → AllDrawn s.register (Step.handles (with_node (refreshed s f) n (Step.releases (node_at s n) m.log m.body)) n m o b).state
  handled f n m None b q = put_drawn s.register (refreshed s f) n (Step.releases (node_at s n) m.log m.body) (λ p h. A n p (released_from (node_at s n) m.log m.body p h)) A
  handled f n m (Some o) b q = let x : Node = Step.releases (node_at s n) m.log m.body in let t : State = with_node (refreshed s f) n x in let h : DrawnAt s.register n x = λ p h. (A n p (released_from (node_at s n) m.log m.body p h)) in
      put_drawn s.register t n (keep_op (node_at t n) o) (subst (λ z. DrawnAt s.register n (keep_op z o)) (sym (node_here (refreshed s f) n x)) (plain_drawn s.register n x o (handled_plain _ _ _ _ _ _ m.body o q) h)) (put_drawn s.register (refreshed s f) n x h A)

  ticked : (n l : ℕ) (t : Ticked) → AllDrawn s.register (Step.ticks_as c s n l t).state
  ticked n l (Cleans k y) = put_drawn s.register s n (keep_op (node_at s n) (ops.Clean l k y)) (plain_drawn s.register n (node_at s n) (ops.Clean l k y) refl (A n)) A
  ticked n l Rebuilt = put_drawn s.register s n (keep_op (node_at s n) (ops.Refilled l)) (plain_drawn s.register n (node_at s n) (ops.Refilled l) refl (A n)) A
  ticked n l (Asks from) = A
  ticked n l Nothing = A

  formatted : (n : ℕ) (r : Register) → draw s.register n ≡ record { register = r; answer = Granted } → AllDrawn r (Step.keeps_op (with_register (loaded s n) r) n (ops.Format (generation_of r n) (epochs_in r.logs)) (Step.format_lines c n r) []).state
  unfolding apply
  formatted n r i = let u : NoneFalls s.register r = subst (λ (d : Changed). NoneFalls s.register d.register) i (draw_generations s.register n) in let h : AllDrawn r (loaded s n) = up_drawn s.register r (loaded s n) u (load_drawn n) in
      put_drawn r (loaded s n) n (keep_op (node_at (loaded s n) n) (ops.Format (generation_of r n) (epochs_in r.logs))) (kept_drawn r n (node_at (loaded s n) n) (ops.Format (generation_of r n) (epochs_in r.logs)) (h n) (omega arith)) h

  ticked_register : (n l : ℕ) (t : Ticked) → (Step.ticks_as c s n l t).state.register ≡ s.register
  ticked_register n l (Cleans k y) = refl
  ticked_register n l Rebuilt = refl
  ticked_register n l (Asks from) = refl
  ticked_register n l Nothing = refl

  handled_register : (f : List ℕ) (n : ℕ) (m : Msg) (x : Node) (o : Option Op) (b : Option Body) → (Step.handles (with_node (refreshed s f) n x) n m o b).state.register ≡ s.register
  handled_register f n m x None b = refl
  handled_register f n m x (Some o) b = refl

  drawn_cases : Cases c s e (λ d m. AllDrawn d.state.register d.state)
  drawn_cases = record {
    still = λ f older i. A;
    says = λ x q. A;
    node_hears = λ f older n m i t v o. subst (λ r. AllDrawn r (Step.to_up_node (refreshed s f) n m).state) (sym (handled_register f n m (Step.releases (node_at s n) m.log m.body) (Step.node_handles n (node_at s n) m).op (Step.node_handles n (node_at s n) m).answer))
        (handled f n m (Step.node_handles n (node_at s n) m).op (Step.node_handles n (node_at s n) m).answer refl);
    loads = λ n ls q b o. load_drawn n;
    draw_fails = λ n b. up_drawn s.register (draw s.register n).register (loaded s n) (draw_generations s.register n) (load_drawn n);
    formats = λ n r g b v i. formatted n r i;
    ticks = λ n l t v i o. subst (λ r. AllDrawn r (Step.ticks_as c s n l t).state) (sym (ticked_register n l t)) (ticked n l t);
    stops = λ n b. put_drawn s.register s n (Step.stopped (node_at s n)) (A n) A;
    wipes = λ n. put_drawn s.register s n new_node (blank_drawn s.register n) A;
    faults = λ n f o. put_drawn s.register s n (Step.with_fault (node_at s n) f) (A n) A;
    sets = λ l r x set h. A;
    arms = λ k done o. A;
    hears = λ f older name q m i t l v o. let a = on_reply (looks_at c s.register q.log) q (Step.sender_node m.from) m.body in up_drawn s.register (called (looks_at c s.register q.log) s.register a a.tries).register s (call_generations s.register (looks_at c s.register q.log) a a.tries) A;
    retries = λ again name q v o. let a = on_retry (looks_at c s.register q.log) q in up_drawn s.register (called (looks_at c s.register q.log) s.register a a.tries).register s (call_generations s.register (looks_at c s.register q.log) a a.tries) A;
    appends = λ name q p v a i. A;
    trims = λ name q t v b. A;
    drops = λ name q v o. A;
    activates = λ name l r g n i x. up_drawn s.register r s (subst (λ (d : Changed). NoneFalls s.register d.register) i (activate_generations s.register l (Step.spec_set c s l))) A;
    swaps = λ n m l x r q i. up_drawn s.register (swapped_by s n m l).register s (swap_generations s.register l _ m n) A;
    activate_fails = λ name l x g q. up_drawn s.register (activate s.register l (Step.spec_set c s l)).register s (activate_generations s.register l (Step.spec_set c s l)) A;
    answers = λ f older name d m i t v o. A;
    polls = λ name d v o. A;
    opens = λ style name l from until o x. A;
  }

pub drawn_step : (c : Config) (w : World) (e : Move) → NamesOnce w.state → AllDrawn w.state.register w.state → AllDrawn (after_step c w e).state.register (after_step c w e).state
unfolding finish
drawn_step c w e N A = dispatch c w.state e (λ d m. AllDrawn d.state.register d.state) N (drawn_cases c w.state e A)

starts_drawn : (r : Register) (ns : List ℕ) (y : ℕ) → DrawnAt r y (unwrap_or (find y (new_nodes ns)) new_node)
unfolding find
starts_drawn r [] y = blank_drawn r y
starts_drawn r (n ∷ ns) y = start_or _ (find y (new_nodes ns)) (starts_drawn r ns y) where
  start_or : (b : Bool) (o : Option Node) → DrawnAt r y (unwrap_or o new_node) → DrawnAt r y (unwrap_or (if b then Some new_node else o) new_node)
  start_or true o i = blank_drawn r y
  start_or false o i = i

pub start_drawn : (c : Config) → AllDrawn (start c).register (start c)
start_drawn c y = starts_drawn (start c).register (members c.nodes) y
