-- A node that was rebuilt isn't lost again, and isn't rebuilt again, before it is wiped.
use Rattle.std.proofs.Common.{◌≡◌, ◌∙◌, ◌⊎◌, ◌<◌, ℕ, zero, suc, inl, inr, refl, ap, sym, subst, Bool, true, false, ◌||◌, nat_lt, cond, if◌then◌else◌, List, [], ◌∷◌, ◌++◌, length, Option, Some, None, arith}
use Rattle.std.specs.Option.{unwrap_or}
use Rattle.ld_table.specs.Table.{find}
use Rattle.ld_table.proofs.Laws.{put_cases, find-put_same}
use Rattle.ld_config.specs.declared.config.Config.{Config}
use Rattle.ld_transcript.specs.declared.line.Line.{Line}
use Rattle.ld_transcript.specs.declared.line.Line.TheVariants as lines
use Rattle.ld_ids.specs.declared.set.Spec.{Spec}
use Rattle.ld_msg.specs.declared.msg.Summary.{Summary}
use Rattle.ld_msg.specs.declared.msg.Msg.{Msg}
use Rattle.ld_msg.specs.declared.msg.Body.{Body}
use Rattle.ld_msg.specs.Register.{Register, generation_of, epochs_of, epochs_in}
use Rattle.ld_msg.specs.Sequencer.{called, on_reply}
use Rattle.ld_op.specs.declared.op.Op.{Op}
use Rattle.ld_op.specs.declared.op.Op.TheVariants as ops
use Rattle.ld_op.specs.Plain.{Plain, Log, log_of, empty_log, is_lost, apply, with_log, refilled}
use Rattle.ld_op.specs.Ticks.{Ticked, Cleans, Rebuilt, Asks, Nothing, on_tick, tick_with, refill_tick, lowest_unclean, missing}
use Rattle.ld_machine.specs.Config.{looks_at}
use Rattle.ld_machine.specs.Disk.{Node, Cut, new_node, keep_op, keep_end, load, Kept, Written, DiskFailed, Crashed, JournalFull, is_blank, is_up}
use Rattle.ld_machine.specs.State.{State, Done, finish, node_at, with_node, with_register, with_line}
use Rattle.ld_machine.specs.Facts.{Happened, Writes, Lost, standing, stands_for}
use Rattle.ld_machine.specs.World.{World, In, begin}
use Rattle.ld_machine.specs.Invariant.{LostOnce}
use Rattle.ld_machine.specs.Run.{Move, after_step, world_after, trace}
use Rattle.ld_machine.specs.Step as Step
use Rattle.std.proofs.lemmas.Bool.{cases_Bool}
use Rattle.ld_safety.specs.Lost.{cut_may, may_be_lost, WholeStays}
use Rattle.ld_safety.specs.Lost.{IsWhole as Whole}
use Rattle.ld_safety.proofs.Lists.{Some_inj, not_none, not_both, In-append, In-slice_get, slice_get_below, slice_get_last, slice_get-In}
use Rattle.ld_safety.proofs.Traces.{Keeps, step_happened, later, beside_kept, both_kept}
use Rattle.ld_safety.proofs.Steps.{writes_cases, writes_before, finish_In}
use Rattle.ld_safety.proofs.Lines.{Group, OfNodes, OfActs, OfItems, AllOf, acted_of, items_of, line_of}
use Rattle.ld_safety.proofs.Events.{retry_call, announced, NamesOnce, Cases, dispatch, is_quiet, refreshed, loaded}
use Rattle.ld_safety.proofs.Base.{Base}
use Rattle.ld_safety.proofs.GivenSteps.{BaseGiven}
use Rattle.ld_safety.proofs.HoldSteps.{UpFine, is_format, same_generation, handled_plain}
use Rattle.ld_safety.proofs.Sends.{written}
use Rattle.ld_safety.proofs.LostNodes.{kept_from, loaded_from, released_from}
use Rattle.ld_safety.proofs.LostKept.{Standings, standings_kept}
use Rattle.ld_safety.proofs.LostFullKept.{AllFull, full_kept}
use Rattle.ld_safety.proofs.Along.{Along}
use Rattle.ld_safety.proofs.AlongSteps.{along_kept}
use Rattle.ld_safety.proofs.Holding.{full_here}
use Rattle.ld_machine.specs.Calm as Calm

-- a node that is blank is unformatted
abbrev pub BlankFine : Node → Type 0
BlankFine x = is_blank x.status ≡ true → x.plain.generation ≡ 0

-- ---- ops ----
with_log_sound : (p : Plain) (k l : ℕ) (g : Log) → ((log_of p k).lost ≡ false → g.lost ≡ false) → (log_of p l).lost ≡ false → (log_of (with_log p k g) l).lost ≡ false
with_log_sound p k l g h z = elim (put_cases l k g p.logs) [
  | inl a ↦ subst (λ (o : Option Log). (unwrap_or o empty_log).lost ≡ false) (sym a.1) (h (subst (λ j. (log_of p j).lost ≡ false) a.0 z))
  | inr a ↦ subst (λ (o : Option Log). (unwrap_or o empty_log).lost ≡ false) (sym a.1) z
]

op_sound : (p : Plain) (o : Op) (l : ℕ) → is_format o ≡ false → (log_of p l).lost ≡ false → (log_of (apply p o) l).lost ≡ false
unfolding apply
op_sound p (ops.Format g es) l n z = absurd cc
op_sound p (ops.Accept k lng e) l n z = with_log_sound p k l _ (λ h. h) z
op_sound p (ops.Seal k b) l n z = with_log_sound p k l _ (λ h. h) z
op_sound p (ops.Clean k e y) l n z = with_log_sound p k l _ (λ h. h) z
op_sound p (ops.Trim k t) l n z = with_log_sound p k l _ (λ h. h) z
op_sound p (ops.Refill k es) l n z = with_log_sound p k l _ (λ h. h) z
op_sound p (ops.Refilled k) l n z = with_log_sound p k l _ (λ h. refl) z

op_whole : (x : Node) (o : Op) (l : ℕ) → is_format o ≡ false → Whole l x → Whole l (keep_op x o)
op_whole x o l n W p h = elim (kept_from x o p h).from [
  | inl a ↦ W p a
  | inr a ↦ subst (λ (v : Plain). (0 < v.generation) × ((log_of v l).lost ≡ false)) (sym a) (let w = W x.plain (inl refl) in let g = same_generation x.plain o n in let k = w.0 in (omega arith, op_sound x.plain o l n w.1))
]

rebuilt_log : (p : Plain) (l : ℕ) → (log_of (apply p (ops.Refilled l)) l).lost ≡ false
unfolding apply
rebuilt_log p l = subst (λ (o : Option Log). (unwrap_or o empty_log).lost ≡ false) (sym (find-put_same l l (refilled (log_of p l)) p.logs refl)) refl

rebuilt_whole : (x : Node) (l : ℕ) → UpFine x → is_up x.status ≡ true → keep_end x (ops.Refilled l) ≡ Written → Whole l (keep_op x (ops.Refilled l))
rebuilt_whole x l U u q p h = let w = written x (ops.Refilled l) q in let z = U u in elim h [
  | inl a ↦ subst (λ (v : Plain). (0 < v.generation) × ((log_of v l).lost ≡ false)) (sym (a ∙ w.0)) (let g = same_generation x.plain (ops.Refilled l) refl in let k = z.1 in omega arith, rebuilt_log x.plain l)
  | inr a ↦ absurd (not_none (sym (w.1 ∙ z.0) ∙ a.1))
]

-- a node is rebuilt where it is lost
was_lost : (g : Log) (closed : List (ℕ × Summary)) → on_tick g closed ≡ Rebuilt → g.lost ≡ true
unfolding on_tick
was_lost g closed h = by_found (find (lowest_unclean g) closed) h where
  by_lost : (b : Bool) → (if b then refill_tick (nat_lt g.lost_to (lowest_unclean g)) (missing g) else Nothing) ≡ Rebuilt → b ≡ true
  by_lost true q = refl
  by_lost false q = absurd cc

  by_found : (o : Option Summary) → tick_with g o ≡ Rebuilt → g.lost ≡ true
  by_found None q = by_lost g.lost q
  by_found (Some z) q = absurd cc

-- ---- what a step leaves ----
module _ (c : Config) (s : State) (e : Move) (U : (y : ℕ) → UpFine (node_at s y)) (K : (y : ℕ) → BlankFine (node_at s y)) where
  -- nodes that were whole are, but those that are wiped
  StillWhole : Done → Type 0
  StillWhole d = (y l : ℕ) → Whole l (node_at s y) → In (lines.NodeWiped y) d.lines ⊎ Whole l (node_at d.state y)

  abbrev AllStill : State → Type 0
  AllStill t = (y l : ℕ) → Whole l (node_at s y) → Whole l (node_at t y)

  same : AllStill s
  same y l W = W

  put_still : (t : State) (n : ℕ) (x : Node) → ((l : ℕ) → Whole l (node_at s n) → Whole l x) → AllStill t → AllStill (with_node t n x)
  put_still t n x h a y l W = elim (put_cases y n x t.nodes) [
    | inl q ↦ subst (λ (o : Option Node). Whole l (unwrap_or o new_node)) (sym q.1) (h l (subst (λ k. Whole l (node_at s k)) q.0 W))
    | inr q ↦ subst (λ (o : Option Node). Whole l (unwrap_or o new_node)) (sym q.1) (a y l W)
  ]

  node_here : (t : State) (n : ℕ) (x : Node) → node_at (with_node t n x) n ≡ x
  node_here t n x = ap (λ (o : Option Node). unwrap_or o new_node) (find-put_same n n x t.nodes refl)

  by_state : (d : Done) → AllStill d.state → StillWhole d
  unfolding StillWhole
  by_state d a y l W = inr (a y l W)

  load_still : (n : ℕ) → AllStill (loaded s n)
  load_still n = put_still s n (load (node_at s n)) (λ l W p h. W p (loaded_from (node_at s n) p h)) same

  handled : (f : List ℕ) (n : ℕ) (m : Msg) (o : Option Op) (b : Option Body) → (Step.node_handles n (node_at s n) m).op ≡ o → AllStill (Step.handles (with_node (refreshed s f) n (Step.releases (node_at s n) m.log m.body)) n m o b).state
  handled f n m None b q = put_still (refreshed s f) n (Step.releases (node_at s n) m.log m.body) (λ l W p h. W p (released_from (node_at s n) m.log m.body p h)) same
  handled f n m (Some o) b q = let x : Node = Step.releases (node_at s n) m.log m.body in let t : State = with_node (refreshed s f) n x in
      put_still t n (keep_op (node_at t n) o) (λ l W. subst (λ z. Whole l (keep_op z o)) (sym (node_here (refreshed s f) n x)) (op_whole x o l (handled_plain _ _ _ _ _ _ m.body o q) (λ p h. W p (released_from (node_at s n) m.log m.body p h))))
      (put_still (refreshed s f) n x (λ l W p h. W p (released_from (node_at s n) m.log m.body p h)) same)

  ticked : (n l : ℕ) (t : Ticked) → AllStill (Step.ticks_as c s n l t).state
  ticked n l (Cleans k y) = put_still s n (keep_op (node_at s n) (ops.Clean l k y)) (λ j W. op_whole (node_at s n) (ops.Clean l k y) j refl W) same
  ticked n l Rebuilt = put_still s n (keep_op (node_at s n) (ops.Refilled l)) (λ j W. op_whole (node_at s n) (ops.Refilled l) j refl W) same
  ticked n l (Asks from) = same
  ticked n l Nothing = same

  formatted : (n : ℕ) (r : Register) → is_blank (node_at s n).status ≡ true → AllStill (Step.keeps_op (with_register (loaded s n) r) n (ops.Format (generation_of r n) (epochs_in r.logs)) (Step.format_lines c n r) []).state
  formatted n r b = put_still (with_register (loaded s n) r) n (keep_op (node_at (loaded s n) n) (ops.Format (generation_of r n) (epochs_in r.logs))) (λ l W. absurd (let z = (W (node_at s n).plain (inl refl)).0 in let k = K n b in omega arith)) (load_still n)

  wiped : (n : ℕ) → StillWhole (with_line (with_node s n new_node) (lines.NodeWiped n))
  unfolding StillWhole
  wiped n y l W = elim (put_cases y n new_node s.nodes) [
    | inl q ↦ inl (inl (ap lines.NodeWiped q.0))
    | inr q ↦ inr (subst (λ (o : Option Node). Whole l (unwrap_or o new_node)) (sym q.1) W)
  ]

  whole_cases : Cases c s e (λ d m. StillWhole d)
  whole_cases = record {
    still = λ f older i. by_state _ same;
    says = λ x q. by_state _ same;
    node_hears = λ f older n m i t v o. by_state _ (handled f n m (Step.node_handles n (node_at s n) m).op (Step.node_handles n (node_at s n) m).answer refl);
    loads = λ n ls q b o. by_state _ (load_still n);
    draw_fails = λ n b. by_state _ (load_still n);
    formats = λ n r g b v i. by_state _ (formatted n r b);
    ticks = λ n l t v i o. by_state _ (ticked n l t);
    stops = λ n b. by_state _ (put_still s n (Step.stopped (node_at s n)) (λ l W p h. W p h) same);
    wipes = λ n. wiped n;
    faults = λ n f o. by_state _ (put_still s n (Step.with_fault (node_at s n) f) (λ l W p h. W p h) same);
    sets = λ l r x set h. by_state _ same;
    arms = λ k done o. by_state _ same;
    hears = λ f older name q m i t l v o. by_state _ same;
    retries = λ again name q v o. by_state _ same;
    appends = λ name q p v a i. by_state _ same;
    trims = λ name q t v b. by_state _ same;
    drops = λ name q v o. by_state _ same;
    activates = λ name l r g n i x. by_state _ same;
    swaps = λ n m l x r q i. by_state _ same;
    activate_fails = λ name l x g q. by_state _ same;
    answers = λ f older name d m i t v o. by_state _ same;
    polls = λ name d v o. by_state _ same;
    opens = λ style name l from until o x. by_state _ same;
  }

  -- who is rebuilt was lost, and is whole
  Rebuilds : Done → Type 0
  Rebuilds d = (n l : ℕ) → In (lines.NodeRebuilt n l) d.lines → ((log_of (node_at s n).plain l).lost ≡ true) × Whole l (node_at d.state n)

  nobody : (d : Done) → ((n l : ℕ) → In (lines.NodeRebuilt n l) d.lines → ⊥) → Rebuilds d
  unfolding Rebuilds
  nobody d h n l i = absurd (h n l i)

  not_one : (x : Line) → ((n l : ℕ) → lines.NodeRebuilt n l ≡ x → ⊥) → (n l : ℕ) → In (lines.NodeRebuilt n l) (x ∷ []) → ⊥
  not_one x h n l (inl q) = h n l q
  not_one x h n l (inr i) = i

  not_quiet : (ls : List Line) → ((x : Line) → In x ls → is_quiet x ≡ true) → (n l : ℕ) → In (lines.NodeRebuilt n l) ls → ⊥
  not_quiet ls q n l i = let z = q _ i in cc

  quiet_one : (x : Line) → is_quiet x ≡ true → (y : Line) → In y (x ∷ []) → is_quiet y ≡ true
  quiet_one x h y (inl i) = subst (λ z. is_quiet z ≡ true) (sym i) h
  quiet_one x h y (inr i) = absurd i

  not_group : (g : Group) (ls : List Line) → (g ≡ OfNodes → ⊥) → AllOf g ls → (n l : ℕ) → In (lines.NodeRebuilt n l) ls → ⊥
  not_group g ls h a n l i = h (sym (a _ i))

  not_kept : (m : ℕ) (ls : List Line) (k : Kept) → ((n l : ℕ) → In (lines.NodeRebuilt n l) ls → ⊥) → (n l : ℕ) → In (lines.NodeRebuilt n l) (Step.kept_lines m ls k) → ⊥
  not_kept m ls Written h n l i = h n l i
  not_kept m ls DiskFailed h n l i = not_one (lines.NodeFailed m) (λ a b q. cc) n l i
  not_kept m ls Crashed h n l i = not_one (lines.NodeDown m) (λ a b q. cc) n l i
  not_kept m ls JournalFull h n l i = not_one (lines.NodeFull m) (λ a b q. cc) n l i

  not_lost_line : (m k epoch : ℕ) (b : Bool) → (n l : ℕ) → In (lines.NodeRebuilt n l) (cond b (lines.NodeLost m k epoch ∷ []) []) → ⊥
  not_lost_line m k epoch true n l i = not_one (lines.NodeLost m k epoch) (λ a b q. cc) n l i
  not_lost_line m k epoch false n l i = i

  not_lost_lines : (m : ℕ) (r : Register) (ps : List Spec) → (n l : ℕ) → In (lines.NodeRebuilt n l) (Step.lost_lines m r ps) → ⊥
  not_lost_lines m r [] n l i = i
  not_lost_lines m r (p ∷ ps) n l i = elim (In-append _ (Step.lost_line m (epochs_of r p.log).epoch p) (Step.lost_lines m r ps) i) [ inl a ↦ not_lost_line m p.log (epochs_of r p.log).epoch _ n l a | inr a ↦ not_lost_lines m r ps n l a ]

  not_format : (m : ℕ) (r : Register) → (n l : ℕ) → In (lines.NodeRebuilt n l) (Step.format_lines c m r) → ⊥
  not_format m r n l (inl q) = cc
  not_format m r n l (inr i) = not_lost_lines m r c.logs n l i

  hears_none : (f : List ℕ) (x : Node) (n : ℕ) (m : Msg) (o : Option Op) (b : Option Body) → Rebuilds (Step.handles (with_node (refreshed s f) n x) n m o b)
  hears_none f x n m None b = nobody (Step.handles (with_node (refreshed s f) n x) n m None b) (λ a l i. i)
  hears_none f x n m (Some o) b = nobody (Step.handles (with_node (refreshed s f) n x) n m (Some o) b) (not_kept n [] (keep_end (node_at (with_node (refreshed s f) n x) n) o) (λ a l i. i))

  rebuilds_at : (n l : ℕ) (k : Kept) → is_up (node_at s n).status ≡ true → on_tick (log_of (node_at s n).plain l) (epochs_of s.register l).summaries ≡ Rebuilt → keep_end (node_at s n) (ops.Refilled l) ≡ k
      → (y j : ℕ) → In (lines.NodeRebuilt y j) (Step.kept_lines n (lines.NodeRebuilt n l ∷ []) k) → ((log_of (node_at s y).plain j).lost ≡ true) × Whole j (node_at (with_node s n (keep_op (node_at s n) (ops.Refilled l))) y)
  rebuilds_at n l Written u t q y j i = elim i [
    | inl z ↦ (let a : y ≡ n = cc in let b : j ≡ l = cc in subst (λ k. ((log_of (node_at s k).plain j).lost ≡ true) × Whole j (node_at (with_node s n (keep_op (node_at s n) (ops.Refilled l))) k)) (sym a)
        (subst (λ k. ((log_of (node_at s n).plain k).lost ≡ true) × Whole k (node_at (with_node s n (keep_op (node_at s n) (ops.Refilled l))) n)) (sym b)
        (was_lost (log_of (node_at s n).plain l) (epochs_of s.register l).summaries t, subst (Whole l) (sym (node_here s n (keep_op (node_at s n) (ops.Refilled l)))) (rebuilt_whole (node_at s n) l (U n) u q))))
    | inr z ↦ absurd z
  ]
  rebuilds_at n l DiskFailed u t q y j i = absurd (not_one (lines.NodeFailed n) (λ a b z. cc) y j i)
  rebuilds_at n l Crashed u t q y j i = absurd (not_one (lines.NodeDown n) (λ a b z. cc) y j i)
  rebuilds_at n l JournalFull u t q y j i = absurd (not_one (lines.NodeFull n) (λ a b z. cc) y j i)

  ticks_rebuild : (n l : ℕ) (t : Ticked) → is_up (node_at s n).status ≡ true → on_tick (log_of (node_at s n).plain l) (epochs_of s.register l).summaries ≡ t → Rebuilds (Step.ticks_as c s n l t)
  unfolding Rebuilds
  ticks_rebuild n l (Cleans k y) u h a b i = absurd (not_kept n [] (keep_end (node_at s n) (ops.Clean l k y)) (λ p q z. z) a b i)
  ticks_rebuild n l Rebuilt u h a b i = rebuilds_at n l (keep_end (node_at s n) (ops.Refilled l)) u h refl a b i
  ticks_rebuild n l (Asks from) u h a b i = absurd i
  ticks_rebuild n l Nothing u h a b i = absurd i

  rebuild_cases : Cases c s e (λ d m. Rebuilds d)
  rebuild_cases = record {
    still = λ f older i. nobody _ (λ a l z. z);
    says = λ x q. nobody _ (not_quiet (x ∷ []) (quiet_one x q));
    node_hears = λ f older n m i t v o. hears_none f (Step.releases (node_at s n) m.log m.body) n m (Step.node_handles n (node_at s n) m).op (Step.node_handles n (node_at s n) m).answer;
    loads = λ n ls q b o. nobody _ (not_quiet ls q);
    draw_fails = λ n b. nobody _ (not_one (lines.NodeRefusedRegister n) (λ a l z. cc));
    formats = λ n r g b v i. nobody _ (not_kept n (Step.format_lines c n r) (keep_end (node_at (with_register (loaded s n) r) n) (ops.Format (generation_of r n) (epochs_in r.logs))) (not_format n r));
    ticks = λ n l t v i o. ticks_rebuild n l t v.up i;
    stops = λ n b. nobody _ (not_one (lines.NodeDown n) (λ a l z. cc));
    wipes = λ n. nobody _ (not_one (lines.NodeWiped n) (λ a l z. cc));
    faults = λ n f o. nobody _ (λ a l z. z);
    sets = λ l r x set h. nobody _ (not_one (lines.Set l r x set) (λ a b z. cc));
    arms = λ k done o. nobody _ (λ a l z. z);
    hears = λ f older name q m i t l v o. nobody _ (not_group OfActs _ (λ h. cc) (acted_of name q (called (looks_at c s.register q.log) s.register (on_reply (looks_at c s.register q.log) q (Step.sender_node m.from) m.body) (on_reply (looks_at c s.register q.log) q (Step.sender_node m.from) m.body).tries).acts));
    retries = λ again name q v o. nobody _ (not_group OfActs _ (λ h. cc) (acted_of name q (announced again (retry_call c s q)).acts));
    appends = λ name q p v a i. nobody _ (not_one (lines.Appended name _) (λ a l z. cc));
    trims = λ name q t v b. nobody _ (not_one (lines.Trimmed name t) (λ a l z. cc));
    drops = λ name q v o. nobody _ (λ a l z. z);
    activates = λ name l r g n i x. nobody _ (not_one (lines.Active name _) (λ a l z. cc));
    swaps = λ n m l x r q i. nobody _ (not_quiet (x ∷ []) (quiet_one x q));
    activate_fails = λ name l x g q. nobody _ (not_quiet (x ∷ []) (quiet_one x q));
    answers = λ f older name d m i t v o. nobody _ (not_group OfItems _ (λ h. cc) (items_of _ name _ _));
    polls = λ name d v o. nobody _ (λ a l z. z);
    opens = λ style name l from until o x. nobody _ (λ a l z. z);
  }

-- ---- along a run ----
pub record RebuiltKept (c : Config) (hs : List Happened) (w : World) : Type 0 where
  -- a node that was rebuilt was wiped since, or is whole
  pub kept : (n l i : ℕ) → Writes hs i (lines.NodeRebuilt n l) → ((k : ℕ) × (i < k) × Writes hs k (lines.NodeWiped n)) ⊎ Whole l (node_at w.state n)
  pub once : (n l i j : ℕ) → Writes hs i (lines.NodeRebuilt n l) → Writes hs j (lines.NodeRebuilt n l) → i < j → (k : ℕ) × (i < k) × (k < j) × Writes hs k (lines.NodeWiped n)

module _ (c : Config) (hs : List Happened) (w : World) (e : Move) (N : NamesOnce w.state) (U : (y : ℕ) → UpFine (node_at w.state y)) (K : (y : ℕ) → BlankFine (node_at w.state y)) (H : RebuiltKept c hs w) where
  abbrev next : List Happened
  next = hs ++ step_happened c w.state e ∷ []

  still_whole : (y l : ℕ) → Whole l (node_at w.state y) → In (lines.NodeWiped y) (Calm.moves c w.state e).lines ⊎ Whole l (node_at (Calm.moves c w.state e).state y)
  unfolding StillWhole
  still_whole = dispatch c w.state e (λ d m. StillWhole c w.state e U K d) N (whole_cases c w.state e U K)

  rebuilds_now : (n l : ℕ) → In (lines.NodeRebuilt n l) (step_happened c w.state e).lines → ((log_of (node_at w.state n).plain l).lost ≡ true) × Whole l (node_at (Calm.moves c w.state e).state n)
  unfolding Rebuilds
  rebuilds_now n l i = (dispatch c w.state e (λ d m. Rebuilds c w.state e U K d) N (rebuild_cases c w.state e U K)) n l (line_of (Calm.moves c w.state e) (lines.NodeRebuilt n l) (λ h. cc) i)

  writes_now : (x : Line) → In x (Calm.moves c w.state e).lines → Writes (hs ++ step_happened c w.state e ∷ []) (length hs) x
  writes_now x i = let y = slice_get-In _ _ (finish_In (Calm.moves c w.state e) x i) in (step_happened c w.state e, slice_get_last (step_happened c w.state e) hs [], y.0, y.1)

  place : (k : ℕ) (x : Line) → Writes hs k x → k < length hs
  place k x v = slice_get_below v.0 hs k v.1

  pub rebuilt_step : RebuiltKept c (hs ++ step_happened c w.state e ∷ []) (after_step c w e)
  unfolding finish
  rebuilt_step = record {
    kept = λ n l i x. elim (writes_cases hs (step_happened c w.state e) i _ x) [
      | inl a ↦ elim (H.kept n l i a) [
        | inl y ↦ inl (y.0, y.1, writes_before hs (step_happened c w.state e ∷ []) y.0 _ y.2)
        | inr y ↦ elim (still_whole n l y) [ inl v ↦ inl (length hs, place i _ a, writes_now (lines.NodeWiped n) v) | inr v ↦ inr v ]
      ]
      | inr a ↦ inr (rebuilds_now n l a.1).1
    ];
    once = λ n l i j x y lt. elim (writes_cases hs (step_happened c w.state e) i _ x) [
      | inl a ↦ elim (writes_cases hs (step_happened c w.state e) j _ y) [
        | inl b ↦ let z = H.once n l i j a b lt in (z.0, z.1, z.2, writes_before hs (step_happened c w.state e ∷ []) z.0 _ z.3)
        | inr b ↦ elim (H.kept n l i a) [
          | inl v ↦ (v.0, v.1, (let u = place v.0 _ v.2 in let q = b.0 in omega arith), writes_before hs (step_happened c w.state e ∷ []) v.0 _ v.2)
          | inr v ↦ absurd (not_both (log_of (node_at w.state n).plain l).lost (rebuilds_now n l b.1).0 (v (node_at w.state n).plain (inl refl)).1)
        ]
      ]
      | inr a ↦ elim (writes_cases hs (step_happened c w.state e) j _ y) [
        | inl b ↦ absurd (let u = place j _ b in let q = a.0 in omega arith)
        | inr b ↦ absurd (let p = a.0 in let q = b.0 in omega arith)
      ]
    ];
  }

abbrev pub Rebuilding : Config → List Happened → World → Type 0
Rebuilding c hs w = (((BaseGiven c hs w × Along c hs w) × (Base c hs w × Standings c hs w)) × (Base c hs w × AllFull w)) × RebuiltKept c hs w

pub rebuilding_kept : (c : Config) → Keeps c (Rebuilding c)
rebuilding_kept c = beside_kept c (λ hs w. ((BaseGiven c hs w × Along c hs w) × (Base c hs w × Standings c hs w)) × (Base c hs w × AllFull w)) (RebuiltKept c)
    (both_kept c (λ hs w. (BaseGiven c hs w × Along c hs w) × (Base c hs w × Standings c hs w)) (λ hs w. Base c hs w × AllFull w) (both_kept c (λ hs w. BaseGiven c hs w × Along c hs w) (λ hs w. Base c hs w × Standings c hs w) (along_kept c) (standings_kept c)) (full_kept c))
    (record { kept = λ n l i x. absurd (not_none x.1); once = λ n l i j x y lt. absurd (not_none x.1) })
    (λ hs w e B C H. rebuilt_step c hs w e B.0.0.0.0.0.0 B.0.0.1.ups (λ y h. ((B.0.1.1.1 y 0).idle h).0) H)

pub lost_once_here : (c : Config) (hs : List Happened) (w : World) → Rebuilding c hs w → LostOnce hs w
lost_once_here c hs w R = record {
  full = λ y p m l h. full_here c hs w R.0.0.0 R.0.1.1 y p m l h;
  stays = λ n l j x wiped p m. elim (R.1.kept n l j x) [
    | inl a ↦ absurd (let z = wiped a.0 a.2 in let y = a.1 in omega arith)
    | inr a ↦ (a p m).1
  ];
  once = R.1.once;
}

pub rebuilt_once : (c : Config) (es : List Move) → LostOnce (trace c (begin c) es) (world_after c (begin c) es)
rebuilt_once c es = lost_once_here c (trace c (begin c) es) (world_after c (begin c) es) (later c (Rebuilding c) (rebuilding_kept c) [] (begin c) es (rebuilding_kept c).begins)

-- ---- whole from a moment on ----
first_line : (h : Happened) (hs : List Happened) (x : Line) → In x h.lines → Writes (h ∷ hs) 0 x
first_line h hs x i = let y = slice_get-In _ _ i in (h, refl, y.0, y.1)

next_line : (h : Happened) (hs : List Happened) (k : ℕ) (x : Line) → Writes hs k x → Writes (h ∷ hs) (suc k) x
next_line h hs k x v = v

whole_on : (c : Config) (hs : List Happened) (w : World) (es : List Move) (y l : ℕ) → Rebuilding c hs w → Whole l (node_at w.state y) → ((k : ℕ) → Writes (trace c w es) k (lines.NodeWiped y) → ⊥)
    → Whole l (node_at (world_after c w es).state y) × ((k : ℕ) → Writes (trace c w es) k (lines.NodeRebuilt y l) → ⊥)
unfolding world_after finish
whole_on c hs w [] y l R W n = (W, λ k x. absurd (not_none x.1))
whole_on c hs w (e ∷ es) y l R W n =
    let N = R.0.0.0.0.0.0.0 in
    let U = R.0.0.0.1.ups in
    let K : (z : ℕ) → BlankFine (node_at w.state z) = λ z h. ((R.0.0.1.1.1 z 0).idle h).0 in
    elim (still_whole c hs w e N U K R.1 y l W) [
      | inl a ↦ absurd (n 0 (first_line (step_happened c w.state e) (trace c (after_step c w e) es) (lines.NodeWiped y) (finish_In (Calm.moves c w.state e) _ a)))
      | inr a ↦ let rest = whole_on c (hs ++ step_happened c w.state e ∷ []) (after_step c w e) es y l ((rebuilding_kept c).goes_on hs w e R) a (λ k x. n (suc k) (next_line (step_happened c w.state e) (trace c (after_step c w e) es) k _ x)) in
          (rest.0, no_line rest.1)
    ] where
      no_line : ((k : ℕ) → Writes (trace c (after_step c w e) es) k (lines.NodeRebuilt y l) → ⊥) → (k : ℕ) → Writes (trace c w (e ∷ es)) k (lines.NodeRebuilt y l) → ⊥
      no_line r zero x = let z = rebuilds_now c hs w e R.0.0.0.0.0.0.0 R.0.0.0.1.ups (λ z h. ((R.0.0.1.1.1 z 0).idle h).0) R.1 y l (subst (λ (h : Happened). In (lines.NodeRebuilt y l) h.lines) (Some_inj (sym x.1)) (In-slice_get _ _ x.2 x.3)) in
          not_both (log_of (node_at w.state y).plain l).lost z.0 (W (node_at w.state y).plain (inl refl)).1
      no_line r (suc k) x = r k x

pub whole_stays : WholeStays
whole_stays c first last y l b W n = whole_on c (trace c (begin c) first) (world_after c (begin c) first) last y l (later c (Rebuilding c) (rebuilding_kept c) [] (begin c) first (rebuilding_kept c).begins) W n

-- ---- lost in the lines ----
lost_cut : (l e : ℕ) (o : Option Cut) → cut_may l e o ≡ true → (k : Cut) × (o ≡ Some k) × (is_lost (log_of k.plain l) e ≡ true)
lost_cut l e None h = absurd cc
lost_cut l e (Some k) h = (k, refl, h)

pub stands_in_lines : (c : Config) (hs : List Happened) (w : World) → Standings c hs w → (y l e : ℕ) → may_be_lost l e (node_at w.state y) ≡ true → stands_for e (standing y l hs Lost) ≡ true
stands_in_lines c hs w S y l e h = let x = node_at w.state y in elim (cases_Bool (is_lost (log_of x.plain l) e)) [
  | inl t ↦ (S.1 y l).lost x.plain e (inl refl) t
  | inr t ↦ let k = lost_cut l e x.cut (subst (λ b. (b || cut_may l e x.cut) ≡ true) t h) in (S.1 y l).lost k.0.plain e (inr (k.0, k.1, refl)) k.2
]

pub lost_stands_in_lines : (c : Config) (es : List Move) (y l e : ℕ) → may_be_lost l e (node_at (world_after c (begin c) es).state y) ≡ true → stands_for e (standing y l (trace c (begin c) es) Lost) ≡ true
lost_stands_in_lines c es = stands_in_lines c (trace c (begin c) es) (world_after c (begin c) es) (later c (λ hs w. Base c hs w × Standings c hs w) (standings_kept c) [] (begin c) es (standings_kept c).begins).1
