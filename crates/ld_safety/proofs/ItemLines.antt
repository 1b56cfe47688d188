-- What holds of each step's lines, where it holds of lines that give no item and of what an answer gives.
use Rattle.std.proofs.Common.{◌≡◌, ◌∙◌, ℕ, inl, inr, true, List, [], ◌∷◌, Option, Some, None}
use Rattle.ld_config.specs.declared.config.Config.{Config}
use Rattle.ld_transcript.specs.declared.line.Line.{Line}
use Rattle.ld_transcript.specs.declared.line.Line.TheVariants as lines
use Rattle.ld_msg.specs.declared.msg.Msg.{Msg}
use Rattle.ld_msg.specs.declared.msg.Who.TheVariants as whos
use Rattle.ld_msg.specs.declared.msg.Body.{Body}
use Rattle.ld_op.specs.declared.op.Op.{Op}
use Rattle.ld_op.specs.declared.op.Op.TheVariants as ops
use Rattle.ld_op.specs.Ticks.{Ticked, Cleans, Rebuilt, Asks, Nothing}
use Rattle.ld_machine.specs.Disk.{keep_end}
use Rattle.ld_machine.specs.Config.{looks_at}
use Rattle.ld_msg.specs.Register.{epochs_in, generation_of}
use Rattle.ld_msg.specs.Sequencer.{on_reply, called}
use Rattle.ld_msg.specs.Reader.{Reader, on_answer}
use Rattle.ld_machine.specs.State.{State, node_at, with_node, with_register}
use Rattle.ld_machine.specs.World.{In}
use Rattle.ld_machine.specs.Step as Step
use Rattle.ld_safety.proofs.Events.{retry_call, announced, Cases, Delivers, Reading, refreshed, loaded, is_quiet}
use Rattle.ld_safety.proofs.Lines.{Group, OfNodes, OfNumbers, OfActs, OfTrims, OfSets, OfItems, AllOf, none_of, one_of, kept_of, format_of, acted_of, quiet_of}
use Rattle.ld_machine.specs.Calm.{Move}

module _ (c : Config) (s : State) (e : Move) (P : List Line → Type 0)
    (other : (g : Group) (ls : List Line) → (g ≡ OfItems → ⊥) → AllOf g ls → P ls)
    (reads : (f : List ℕ) (name : List ℕ) (d : Reader) (m : Msg) → In m s.network.sent → m.to ≡ whos.Reader d.number → Reading s name d → Delivers s e m → P (Step.item_lines (on_answer (looks_at c s.register d.log) d (Step.sender_node m.from) m.body).reader.style name (on_answer (looks_at c s.register d.log) d (Step.sender_node m.from) m.body).reader.until (on_answer (looks_at c s.register d.log) d (Step.sender_node m.from) m.body).items)) where
  none : P []
  none = other OfNodes [] (λ h. cc) (none_of OfNodes)

  nodes : (ls : List Line) → AllOf OfNodes ls → P ls
  nodes ls a = other OfNodes ls (λ h. cc) a

  acts : (ls : List Line) → AllOf OfActs ls → P ls
  acts ls a = other OfActs ls (λ h. cc) a

  quiet_one : (x : Line) → is_quiet x ≡ true → P (x ∷ [])
  quiet_one x q = elim (quiet_of x q) [ inl g ↦ nodes (x ∷ []) (λ y i. one_of x y i ∙ g) | inr g ↦ acts (x ∷ []) (λ y i. one_of x y i ∙ g) ]

  handled : (t : State) (n : ℕ) (m : Msg) (o : Option Op) (b : Option Body) → P (Step.handles t n m o b).lines
  handled t n m None b = none
  handled t n m (Some o) b = nodes _ (kept_of n [] (keep_end (node_at t n) o) (none_of OfNodes))

  ticked : (n l : ℕ) (t : Ticked) → P (Step.ticks_as c s n l t).lines
  ticked n l (Cleans k y) = nodes _ (kept_of n [] (keep_end (node_at s n) (ops.Clean l k y)) (none_of OfNodes))
  ticked n l Rebuilt = nodes _ (kept_of n (lines.NodeRebuilt n l ∷ []) (keep_end (node_at s n) (ops.Refilled l)) (one_of (lines.NodeRebuilt n l)))
  ticked n l (Asks from) = none
  ticked n l Nothing = none

  pub line_cases : ((ls : List Line) → ((x : Line) → In x ls → is_quiet x ≡ true) → P ls) → Cases c s e (λ d m. P d.lines)
  line_cases quiet = record {
    still = λ f older i. none;
    says = λ x q. quiet_one x q;
    node_hears = λ f older n m i t v o. handled (with_node (refreshed s f) n (Step.releases (node_at s n) m.log m.body)) n m (Step.node_handles n (node_at s n) m).op (Step.node_handles n (node_at s n) m).answer;
    loads = λ n ls q b o. quiet ls q;
    draw_fails = λ n b. nodes (lines.NodeRefusedRegister n ∷ []) (one_of (lines.NodeRefusedRegister n));
    formats = λ n r g b v i. nodes _ (kept_of n (Step.format_lines c n r) (keep_end (node_at (with_register (loaded s n) r) n) (ops.Format (generation_of r n) (epochs_in r.logs))) (format_of c n r));
    ticks = λ n l t v i o. ticked n l t;
    stops = λ n b. nodes (lines.NodeDown n ∷ []) (one_of (lines.NodeDown n));
    wipes = λ n. nodes (lines.NodeWiped n ∷ []) (one_of (lines.NodeWiped n));
    faults = λ n f o. none;
    sets = λ l r x set h. other OfSets (lines.Set l r x set ∷ []) (λ h. cc) (one_of (lines.Set l r x set));
    arms = λ k done o. none;
    hears = λ f older name q m i t l v o. acts _ (acted_of name q (called (looks_at c s.register q.log) s.register (on_reply (looks_at c s.register q.log) q (Step.sender_node m.from) m.body) (on_reply (looks_at c s.register q.log) q (Step.sender_node m.from) m.body).tries).acts);
    retries = λ again name q v o. acts _ (acted_of name q (announced again (retry_call c s q)).acts);
    appends = λ name q p v a i. other OfNumbers (lines.Appended name _ ∷ []) (λ h. cc) (one_of (lines.Appended name _));
    trims = λ name q t v b. other OfTrims (lines.Trimmed name t ∷ []) (λ h. cc) (one_of (lines.Trimmed name t));
    drops = λ name q v o. none;
    activates = λ name l r g n i x. other OfNumbers (lines.Active name _ ∷ []) (λ h. cc) (one_of (lines.Active name _));
    swaps = λ n m l x r q i. quiet_one x q;
    activate_fails = λ name l x g q. quiet_one x q;
    answers = λ f older name d m i t v o. reads f name d m i t v o.1;
    polls = λ name d v o. none;
    opens = λ style name l from until o x. none;
  }
