-- The generation of each line of a format was drawn in its step, so no two formats of a node have the same.
use Rattle.std.proofs.Common.{◌≡◌, ◌∙◌, ◌≤◌, ◌<◌, ℕ, inl, inr, sym, subst, Bool, true, false, cond, List, [], ◌∷◌, ◌++◌, Option, Some, None, arith}
use Rattle.ld_config.specs.declared.config.Config.{Config}
use Rattle.ld_transcript.specs.declared.line.Line.{Line}
use Rattle.ld_transcript.specs.declared.line.Line.TheVariants as lines
use Rattle.ld_ids.specs.declared.set.Spec.{Spec}
use Rattle.ld_msg.specs.declared.msg.Msg.{Msg}
use Rattle.ld_msg.specs.declared.msg.Body.{Body}
use Rattle.ld_msg.specs.Register.{Register, Granted, generation_of, epochs_of, epochs_in, draw}
use Rattle.ld_msg.specs.Sequencer.{called, on_reply}
use Rattle.ld_op.specs.declared.op.Op.{Op}
use Rattle.ld_op.specs.declared.op.Op.TheVariants as ops
use Rattle.ld_op.specs.Ticks.{Ticked, Cleans, Rebuilt, Asks, Nothing}
use Rattle.ld_machine.specs.Config.{looks_at}
use Rattle.ld_machine.specs.Disk.{Node, Kept, Written, DiskFailed, Crashed, JournalFull, keep_end}
use Rattle.ld_machine.specs.State.{State, Done, finish, node_at, with_node, with_register}
use Rattle.ld_machine.specs.Facts.{Happened, Writes}
use Rattle.ld_machine.specs.World.{World, In}
use Rattle.ld_machine.specs.Run.{after_step}
use Rattle.ld_machine.specs.Step as Step
use Rattle.ld_safety.proofs.Lists.{not_none, In-append}
use Rattle.ld_safety.proofs.Traces.{Keeps, step_happened, beside_kept}
use Rattle.ld_safety.proofs.Steps.{writes_cases}
use Rattle.ld_safety.proofs.Lines.{Group, OfNodes, OfActs, OfItems, AllOf, acted_of, items_of, line_of}
use Rattle.ld_safety.proofs.Events.{retry_call, announced, NamesOnce, Cases, dispatch, is_quiet, refreshed, loaded}
use Rattle.ld_safety.proofs.Base.{Base, base_kept}
use Rattle.ld_safety.proofs.Generations.{generations_step}
use Rattle.ld_safety.proofs.LostNodes.{drawn_above}
use Rattle.ld_machine.specs.Calm as Calm
use Rattle.ld_machine.specs.Calm.{Move}

-- the formats of these lines draw generations above all before
FormatsIn : Register → Register → List Line → Type 0
FormatsIn r k ls = (n g : ℕ) → In (lines.NodeFormatted n g) ls → (generation_of r n < g) × (g ≤ generation_of k n)

module _ (c : Config) (s : State) (e : Move) where
  one_other : (r k : Register) (x : Line) → ((n g : ℕ) → lines.NodeFormatted n g ≡ x → ⊥) → FormatsIn r k (x ∷ [])
  unfolding FormatsIn
  one_other r k x h n g (inl q) = absurd (h n g q)
  one_other r k x h n g (inr i) = absurd i

  quiets : (r k : Register) (ls : List Line) → ((x : Line) → In x ls → is_quiet x ≡ true) → FormatsIn r k ls
  unfolding FormatsIn
  quiets r k ls q n g i = absurd (let z = q _ i in cc)

  quiet_one : (r k : Register) (x : Line) → is_quiet x ≡ true → FormatsIn r k (x ∷ [])
  unfolding FormatsIn
  quiet_one r k x h n g (inl q) = absurd (let z : is_quiet (lines.NodeFormatted n g) ≡ true = subst (λ y. is_quiet y ≡ true) (sym q) h in cc)
  quiet_one r k x h n g (inr i) = absurd i

  others : (r k : Register) (p : Group) (ls : List Line) → (p ≡ OfNodes → ⊥) → AllOf p ls → FormatsIn r k ls
  unfolding FormatsIn
  others r k p ls h a n g i = absurd (h (sym (a _ i)))

  none : (r k : Register) → FormatsIn r k []
  unfolding FormatsIn
  none r k n g i = absurd i

  kept_none : (r k : Register) (n : ℕ) (o : Kept) → FormatsIn r k (Step.kept_lines n [] o)
  kept_none r k n Written = none r k
  kept_none r k n DiskFailed = one_other r k (lines.NodeFailed n) (λ m g q. cc)
  kept_none r k n Crashed = one_other r k (lines.NodeDown n) (λ m g q. cc)
  kept_none r k n JournalFull = one_other r k (lines.NodeFull n) (λ m g q. cc)

  kept_one : (r k : Register) (n : ℕ) (x : Line) (o : Kept) → ((m g : ℕ) → lines.NodeFormatted m g ≡ x → ⊥) → FormatsIn r k (Step.kept_lines n (x ∷ []) o)
  kept_one r k n x Written h = one_other r k x h
  kept_one r k n x DiskFailed h = kept_none r k n DiskFailed
  kept_one r k n x Crashed h = kept_none r k n Crashed
  kept_one r k n x JournalFull h = kept_none r k n JournalFull

  lost_line : (r k : Register) (n l epoch : ℕ) (b : Bool) → FormatsIn r k (cond b (lines.NodeLost n l epoch ∷ []) [])
  lost_line r k n l epoch true = one_other r k (lines.NodeLost n l epoch) (λ m g q. cc)
  lost_line r k n l epoch false = none r k

  lost_none : (r k j : Register) (n : ℕ) (ps : List Spec) → FormatsIn r k (Step.lost_lines n j ps)
  unfolding FormatsIn
  lost_none r k j n [] = none r k
  lost_none r k j n (p ∷ ps) = λ m g i. elim (In-append _ (Step.lost_line n (epochs_of j p.log).epoch p) (Step.lost_lines n j ps) i) [ inl a ↦ lost_line r k n p.log (epochs_of j p.log).epoch _ m g a | inr a ↦ lost_none r k j n ps m g a ]

  -- a format's own line
  format_lines : (n : ℕ) (k : Register) (o : Kept) → draw s.register n ≡ record { register = k; answer = Granted } → FormatsIn s.register k (Step.kept_lines n (Step.format_lines c n k) o)
  unfolding FormatsIn
  format_lines n k Written d = λ m g i. elim i [
    | inl q ↦ (let a : m ≡ n = cc in let b : g ≡ generation_of k n = cc in let z = drawn_above s.register n k d in subst (λ y. (generation_of s.register y < g) × (g ≤ generation_of k y)) (sym a) (omega arith, omega arith))
    | inr j ↦ lost_none s.register k k n c.logs m g j
  ]
  format_lines n k DiskFailed d = kept_none s.register k n DiskFailed
  format_lines n k Crashed d = kept_none s.register k n Crashed
  format_lines n k JournalFull d = kept_none s.register k n JournalFull

  handled : (f : List ℕ) (n : ℕ) (m : Msg) (x : Node) (o : Option Op) (b : Option Body) → let d : Done = Step.handles (with_node (refreshed s f) n x) n m o b in FormatsIn s.register d.state.register d.lines
  handled f n m x None b = none s.register s.register
  handled f n m x (Some o) b = kept_none s.register s.register n (keep_end (node_at (with_node (refreshed s f) n x) n) o)

  ticked : (n l : ℕ) (t : Ticked) → FormatsIn s.register (Step.ticks_as c s n l t).state.register (Step.ticks_as c s n l t).lines
  ticked n l (Cleans k y) = kept_none s.register s.register n (keep_end (node_at s n) (ops.Clean l k y))
  ticked n l Rebuilt = kept_one s.register s.register n (lines.NodeRebuilt n l) (keep_end (node_at s n) (ops.Refilled l)) (λ m g q. cc)
  ticked n l (Asks from) = none s.register s.register
  ticked n l Nothing = none s.register s.register

  format_cases : Cases c s e (λ d m. FormatsIn s.register d.state.register d.lines)
  format_cases = record {
    still = λ f older i. none _ _;
    says = λ x q. quiet_one _ _ x q;
    node_hears = λ f older n m i t v o. handled f n m (Step.releases (node_at s n) m.log m.body) (Step.node_handles n (node_at s n) m).op (Step.node_handles n (node_at s n) m).answer;
    loads = λ n ls q b o. quiets _ _ ls q;
    draw_fails = λ n b. one_other _ _ (lines.NodeRefusedRegister n) (λ m g q. cc);
    formats = λ n r g b v i. format_lines n r (keep_end (node_at (with_register (loaded s n) r) n) (ops.Format (generation_of r n) (epochs_in r.logs))) i;
    ticks = λ n l t v i o. ticked n l t;
    stops = λ n b. one_other _ _ (lines.NodeDown n) (λ m g q. cc);
    wipes = λ n. one_other _ _ (lines.NodeWiped n) (λ m g q. cc);
    faults = λ n f o. none _ _;
    sets = λ l r x set h. one_other _ _ (lines.Set l r x set) (λ m g q. cc);
    arms = λ k done o. none _ _;
    hears = λ f older name q m i t l v o. others _ _ OfActs _ (λ h. cc) (acted_of name q (called (looks_at c s.register q.log) s.register (on_reply (looks_at c s.register q.log) q (Step.sender_node m.from) m.body) (on_reply (looks_at c s.register q.log) q (Step.sender_node m.from) m.body).tries).acts);
    retries = λ again name q v o. others _ _ OfActs _ (λ h. cc) (acted_of name q (announced again (retry_call c s q)).acts);
    appends = λ name q p v a i. one_other _ _ (lines.Appended name _) (λ m g q. cc);
    trims = λ name q t v b. one_other _ _ (lines.Trimmed name t) (λ m g q. cc);
    drops = λ name q v o. none _ _;
    activates = λ name l r g n i x. one_other _ _ (lines.Active name _) (λ m g q. cc);
    swaps = λ n m l x r q i. quiet_one _ _ x q;
    activate_fails = λ name l x g q. quiet_one _ _ x q;
    answers = λ f older name d m i t v o. others _ _ OfItems _ (λ h. cc) (items_of _ name _ _);
    polls = λ name d v o. none _ _;
    opens = λ style name l from until o x. none _ _;
  }

-- ---- along a run ----
pub record FormatsOnce (hs : List Happened) (w : World) : Type 0 where
  pub drawn : (n g k : ℕ) → Writes hs k (lines.NodeFormatted n g) → g ≤ generation_of w.state.register n
  pub once : (n g j k : ℕ) → Writes hs j (lines.NodeFormatted n g) → Writes hs k (lines.NodeFormatted n g) → j ≡ k

formats_step : (c : Config) (hs : List Happened) (w : World) (e : Move) → NamesOnce w.state → FormatsOnce hs w → FormatsOnce (hs ++ step_happened c w.state e ∷ []) (after_step c w e)
unfolding finish FormatsIn
formats_step c hs w e N F = record { drawn = drawn_now; once = once_now } where
  lines_now : FormatsIn w.state.register (Calm.moves c w.state e).state.register (Calm.moves c w.state e).lines
  lines_now = dispatch c w.state e (λ d m. FormatsIn w.state.register d.state.register d.lines) N (format_cases c w.state e)

  new_line : (n g : ℕ) → In (lines.NodeFormatted n g) (step_happened c w.state e).lines → (generation_of w.state.register n < g) × (g ≤ generation_of (after_step c w e).state.register n)
  new_line n g i = lines_now n g (line_of (Calm.moves c w.state e) (lines.NodeFormatted n g) (λ h. cc) i)

  drawn_now : (n g k : ℕ) → Writes (hs ++ step_happened c w.state e ∷ []) k (lines.NodeFormatted n g) → g ≤ generation_of (after_step c w e).state.register n
  drawn_now n g k x = elim (writes_cases hs (step_happened c w.state e) k _ x) [
    | inl a ↦ (let z = F.drawn n g k a in let u = generations_step c w e N n in omega arith)
    | inr a ↦ (new_line n g a.1).1
  ]

  once_now : (n g j k : ℕ) → Writes (hs ++ step_happened c w.state e ∷ []) j (lines.NodeFormatted n g) → Writes (hs ++ step_happened c w.state e ∷ []) k (lines.NodeFormatted n g) → j ≡ k
  once_now n g j k x y = elim (writes_cases hs (step_happened c w.state e) j _ x) [
    | inl a ↦ elim (writes_cases hs (step_happened c w.state e) k _ y) [
      | inl b ↦ F.once n g j k a b
      | inr b ↦ absurd (let z = F.drawn n g j a in let u = (new_line n g b.1).0 in omega arith)
    ]
    | inr a ↦ elim (writes_cases hs (step_happened c w.state e) k _ y) [
      | inl b ↦ absurd (let z = F.drawn n g k b in let u = (new_line n g a.1).0 in omega arith)
      | inr b ↦ a.0 ∙ sym b.0
    ]
  ]

pub formats_kept : (c : Config) → Keeps c (λ hs w. Base c hs w × FormatsOnce hs w)
formats_kept c = beside_kept c (Base c) FormatsOnce (base_kept c) (record { drawn = λ n g k w. absurd (not_none w.1); once = λ n g j k w x. absurd (not_none w.1) }) (λ hs w e B C F. formats_step c hs w e B.0.0 F)
