-- Each line of the steps so far that acknowledges a number or gives a reader an item is so for good.
use Rattle.std.proofs.Common.{◌≡◌, ◌⊎◌, ℕ, inl, inr, refl, sym, subst, Bool, true, false, List, [], ◌∷◌, ◌++◌, Option, Some, None}
use Rattle.ld_lsn.specs.Number.{epoch_of}
use Rattle.ld_safety.proofs.Said.{Said, SaidHere, Reached}
use Rattle.ld_table.specs.Named.{find_named}
use Rattle.ld_config.specs.declared.config.Config.{Config}
use Rattle.ld_transcript.specs.declared.line.Line.{Line}
use Rattle.ld_transcript.specs.declared.line.Line.TheVariants as lines
use Rattle.ld_transcript.specs.declared.line.GapKind.TheVariants as gaps
use Rattle.ld_msg.specs.declared.msg.What.{What}
use Rattle.ld_msg.specs.declared.msg.What.TheVariants.{Hole}
use Rattle.ld_msg.specs.declared.msg.Msg.{Msg}
use Rattle.ld_msg.specs.declared.msg.Who.TheVariants as whos
use Rattle.ld_msg.specs.declared.msg.Body.{Body}
use Rattle.ld_msg.specs.Register.{Register, generation_of, epochs_in}
use Rattle.ld_msg.specs.Sequencer.{Sequencer, Acts, called, on_reply, on_retry, rose, Called}
use Rattle.ld_msg.specs.Reader.{Reader, on_answer}
use Rattle.ld_op.specs.declared.op.Op.{Op}
use Rattle.ld_op.specs.declared.op.Op.TheVariants as ops
use Rattle.ld_op.specs.Ticks.{Ticked, Cleans, Rebuilt, Asks, Nothing}
use Rattle.ld_machine.specs.Config.{looks_at}
use Rattle.ld_machine.specs.Disk.{keep_end}
use Rattle.ld_machine.specs.State.{State, Done, finish, node_at, with_node, with_register}
use Rattle.ld_machine.specs.Facts.{Happened, Writes, OfLog, ReadsLog, opening_of}
use Rattle.ld_machine.specs.World.{World, Made, In, begin, made_on}
use Rattle.ld_machine.specs.Run.{after_step}
use Rattle.ld_machine.specs.Step as Step
use Rattle.ld_safety.proofs.Lists.{not_none, In-append, first_left}
use Rattle.ld_safety.proofs.Traces.{step_happened}
use Rattle.ld_safety.proofs.Steps.{told, writes_cases}
use Rattle.ld_safety.proofs.Events.{retry_call, Cases, dispatch, Live, Reading, refreshed, loaded, is_quiet}
use Rattle.ld_safety.proofs.Lines.{Group, OfNodes, OfNumbers, OfActs, OfTrims, OfSets, OfItems, OfMessages, group, AllOf, none_of, one_of, kept_of, format_of, items_of, line_of}
use Rattle.ld_safety.proofs.ItemLines.{line_cases}
use Rattle.ld_safety.proofs.ReaderSteps.{answered}
use Rattle.ld_safety.proofs.Tiles.{AllGot, got_of}
use Rattle.ld_safety.proofs.Registers.{Up}
use Rattle.ld_safety.proofs.Base.{Base, counts_of}
use Rattle.ld_safety.proofs.Given.{of_log_grows}
use Rattle.ld_safety.proofs.GivenSteps.{Given}
use Rattle.ld_safety.proofs.Settled.{FreshLosses, hole_grows, Acknowledged, Stays, acked_grows, closed_grows, closed_says_grows, TrimFine, CloseFine, ShowFine, ReleaseFine, LngFine}
use Rattle.ld_safety.proofs.AcksKept.{ActsFine, heard_acts, retry_acts}
use Rattle.ld_safety.proofs.Along.{Along}
use Rattle.ld_safety.proofs.ItemFacts.{ClosedItem, RecordAt, BridgeAt}
use Rattle.ld_safety.proofs.ItemsShown.{ItemsTold, ReadFine, fine_keeps, item_lines_told}
use Rattle.ld_safety.proofs.Carried as carried
use Rattle.ld_safety.proofs.AlongSteps as along
use Rattle.ld_machine.specs.Calm as Calm
use Rattle.ld_machine.specs.Calm.{Move, event_of}

-- ---- what grows ----
module _ (c : Config) (hs : List Happened) (e : Move) (d : Done) (made more : List Made) (sent after : List Msg) (r k : Register) (into : (m : Msg) → In m sent → In m after) (u : Up r k) (s : Stays c r k) (fresh : FreshLosses more r) where
  item_grows : (l n : ℕ) (x : What) → ClosedItem c hs made sent r l n x → ClosedItem c (hs ++ told r e d ∷ []) (more ++ made) after k l n x
  item_grows l n x h = record { summary = h.summary; closed = closed_grows c hs e d made more sent after r k into u s l (epoch_of n) h.summary h.closed; says = closed_says_grows c hs e d made more sent after r k into u s l n h.summary x h.says; hole = hole_grows c hs e d made more sent after r k into u s l n x fresh h.closed.low h.hole; below = h.below }

  record_grows : (l n : ℕ) → RecordAt c hs made sent r l n → RecordAt c (hs ++ told r e d ∷ []) (more ++ made) after k l n
  record_grows l n (inl a) = inl (acked_grows c hs e d made more sent after r k into u s l n a)
  record_grows l n (inr p) = inr (p.0, item_grows l n _ p.1)

  bridge_grows : (l low high : ℕ) → BridgeAt c hs made sent r l low high → BridgeAt c (hs ++ told r e d ∷ []) (more ++ made) after k l low high
  bridge_grows l low high b = record { epoch = b.epoch; upto = b.upto; past = elim b.past [ inl z ↦ inl z | inr z ↦ inr (z.0, closed_grows c hs e d made more sent after r k into u s l b.epoch z.0 z.1, z.2, z.3) ] }

reads_grows : (c : Config) (hs : List Happened) (h : Happened) (l : ℕ) (name : List ℕ) → ReadsLog c hs l name → ReadsLog c (hs ++ h ∷ []) l name
reads_grows c hs h l name o = (o.0, first_left (λ (g : Happened). opening_of c name g.lines g.event) hs (h ∷ []) o.0 o.1, o.2)

-- ---- acknowledgements in lines ----
module _ (c : Config) (hs : List Happened) (s : State) where
  AckedTold : List Line → Type 0
  AckedTold ls = (name : List ℕ) (n : ℕ) → In (lines.Acked name n) ls → (q : Sequencer) × (find_named name s.sequencers ≡ Some q) × Acknowledged c hs s.network.sent s.register q.log n

  others : (g : Group) (ls : List Line) → (g ≡ OfActs → ⊥) → AllOf g ls → AckedTold ls
  unfolding AckedTold
  others g ls n a name m i = absurd (n (sym (a _ i)))

  quiets : (ls : List Line) → ((x : Line) → In x ls → is_quiet x ≡ true) → AckedTold ls
  unfolding AckedTold
  quiets ls q name n i = absurd (let z = q _ i in cc)

  acked_of : (name : List ℕ) (ns : List ℕ) (a : List ℕ) (n : ℕ) → In (lines.Acked a n) (Step.numbered_lines (lines.Acked name) ns) → (a ≡ name) × In n ns
  acked_of name [] a n i = absurd i
  acked_of name (m ∷ ns) a n (inl e) = let x : a ≡ name = cc in let y : n ≡ m = cc in (x, inl y)
  acked_of name (m ∷ ns) a n (inr i) = let z = acked_of name ns a n i in (z.0, inr z.1)

  not_numbered : (f : ℕ → Line) (ns : List ℕ) (a : List ℕ) (n : ℕ) → ((m : ℕ) → lines.Acked a n ≡ f m → ⊥) → In (lines.Acked a n) (Step.numbered_lines f ns) → ⊥
  not_numbered f [] a n h i = i
  not_numbered f (m ∷ ns) a n h (inl e) = h m e
  not_numbered f (m ∷ ns) a n h (inr i) = not_numbered f ns a n h i

  not_when : (b : Bool) (x : Line) (a : List ℕ) (n : ℕ) → (lines.Acked a n ≡ x → ⊥) → In (lines.Acked a n) (Step.when b x) → ⊥
  not_when true x a n h (inl e) = h e
  not_when true x a n h (inr i) = i
  not_when false x a n h i = i

  acted_acked : (name : List ℕ) (old : Sequencer) (a : Acts) (b : List ℕ) (n : ℕ) → In (lines.Acked b n) (Step.acted_lines name old a) → (b ≡ name) × In n a.acked
  acted_acked name old a b n i = elim (In-append _ (Step.numbered_lines (lines.RefusedPreempted name) a.preempts) _ i) [
    | inl j ↦ absurd (not_numbered (lines.RefusedPreempted name) a.preempts b n (λ m e. cc) j)
    | inr j ↦ elim (In-append _ (Step.when a.failed (lines.RefusedRegister name)) _ j) [
      | inl k ↦ absurd (not_when a.failed (lines.RefusedRegister name) b n (λ e. cc) k)
      | inr k ↦ elim (In-append _ (Step.numbered_lines (lines.Acked name) a.acked) _ k) [
        | inl x ↦ acked_of name a.acked b n x
        | inr x ↦ elim (In-append _ (Step.numbered_lines (lines.Clean name) a.closed) _ x) [
          | inl y ↦ absurd (not_numbered (lines.Clean name) a.closed b n (λ m e. cc) y)
          | inr y ↦ absurd (not_when (rose old a.sequencer) _ b n (λ e. cc) y)
        ]
      ]
    ]
  ]

  acts_told : (name : List ℕ) (q : Sequencer) (k : Called) → find_named name s.sequencers ≡ Some q → ActsFine c hs s.network.sent s.register q k → AckedTold (Step.acted_lines name q k.acts)
  unfolding AckedTold
  acts_told name q k f A a n i = let z = acted_acked name q k.acts a n i in (q, subst (λ x. find_named x s.sequencers ≡ Some q) (sym z.0) f, A.acked n z.1)

  acked_cases : (e : Move) → ((name : List ℕ) (q : Sequencer) → Live s name q → (m : Msg) → In m s.network.sent → m.to ≡ whos.Sequencer q.epoch → m.log ≡ q.log → ActsFine c hs s.network.sent s.register q (called (looks_at c s.register q.log) s.register (on_reply (looks_at c s.register q.log) q (Step.sender_node m.from) m.body) (on_reply (looks_at c s.register q.log) q (Step.sender_node m.from) m.body).tries))
      → ((name : List ℕ) (q : Sequencer) → Live s name q → ActsFine c hs s.network.sent s.register q (called (looks_at c s.register q.log) s.register (on_retry (looks_at c s.register q.log) q) (on_retry (looks_at c s.register q.log) q).tries)) → Cases c s e (λ d m. AckedTold d.lines)
  acked_cases e heard retry = record {
    still = λ f older i. none;
    says = λ x q. quiets (x ∷ []) (λ y i. one_quiet x q y i);
    node_hears = λ f older n m i t v o. handled (with_node (refreshed s f) n (Step.releases (node_at s n) m.log m.body)) n m (Step.node_handles n (node_at s n) m).op (Step.node_handles n (node_at s n) m).answer;
    loads = λ n ls q b o. quiets ls q;
    draw_fails = λ n b. nodes (lines.NodeRefusedRegister n ∷ []) (one_of (lines.NodeRefusedRegister n));
    formats = λ n r g b v i. nodes _ (kept_of n (Step.format_lines c n r) (keep_end (node_at (with_register (loaded s n) r) n) (ops.Format (generation_of r n) (epochs_in r.logs))) (format_of c n r));
    ticks = λ n l t v i o. ticked n l t;
    stops = λ n b. nodes (lines.NodeDown n ∷ []) (one_of (lines.NodeDown n));
    wipes = λ n. nodes (lines.NodeWiped n ∷ []) (one_of (lines.NodeWiped n));
    faults = λ n f o. none;
    sets = λ l r x set g. others OfSets (lines.Set l r x set ∷ []) (λ h. cc) (one_of (lines.Set l r x set));
    arms = λ k done o. none;
    hears = λ f older name q m i t l v o. acts_told name q _ v.named (heard name q v m i t l);
    retries = λ again name q v o. acts_told name q (retry_call c s q) v.named (retry name q v);
    appends = λ name q p v a i. others OfNumbers (lines.Appended name _ ∷ []) (λ h. cc) (one_of (lines.Appended name _));
    trims = λ name q t v b. others OfTrims (lines.Trimmed name t ∷ []) (λ h. cc) (one_of (lines.Trimmed name t));
    drops = λ name q v o. none;
    activates = λ name l r g n i x. others OfNumbers (lines.Active name _ ∷ []) (λ h. cc) (one_of (lines.Active name _));
    swaps = λ n m l x r q i. quiets (x ∷ []) (λ y i. one_quiet x q y i);
    activate_fails = λ name l x g q. quiets (x ∷ []) (λ y i. one_quiet x q y i);
    answers = λ f older name d m i t v o. others OfItems _ (λ h. cc) (items_of _ name (on_answer (looks_at c s.register d.log) d (Step.sender_node m.from) m.body).reader.until (on_answer (looks_at c s.register d.log) d (Step.sender_node m.from) m.body).items);
    polls = λ name d v o. none;
    opens = λ style name l from until o x. none;
  } where
    none : AckedTold []
    none = others OfNodes [] (λ h. cc) (none_of OfNodes)

    nodes : (ls : List Line) → AllOf OfNodes ls → AckedTold ls
    nodes ls a = others OfNodes ls (λ h. cc) a

    one_quiet : (x : Line) → is_quiet x ≡ true → (y : Line) → In y (x ∷ []) → is_quiet y ≡ true
    one_quiet x h y (inl i) = subst (λ z. is_quiet z ≡ true) (sym i) h
    one_quiet x h y (inr i) = absurd i

    handled : (t : State) (n : ℕ) (m : Msg) (o : Option Op) (b : Option Body) → AckedTold (Step.handles t n m o b).lines
    handled t n m None b = none
    handled t n m (Some o) b = nodes _ (kept_of n [] (keep_end (node_at t n) o) (none_of OfNodes))

    ticked : (n l : ℕ) (t : Ticked) → AckedTold (Step.ticks_as c s n l t).lines
    ticked n l (Cleans k y) = nodes _ (kept_of n [] (keep_end (node_at s n) (ops.Clean l k y)) (none_of OfNodes))
    ticked n l Rebuilt = nodes _ (kept_of n (lines.NodeRebuilt n l ∷ []) (keep_end (node_at s n) (ops.Refilled l)) (one_of (lines.NodeRebuilt n l)))
    ticked n l (Asks from) = none
    ticked n l Nothing = none

-- ---- the steps so far ----
pub record AllTold (c : Config) (hs : List Happened) (w : World) : Type 0 where
  pub acked : (k : ℕ) (name : List ℕ) (n : ℕ) → Writes hs k (lines.Acked name n) → (l : ℕ) × OfLog hs l name × Acknowledged c hs w.state.network.sent w.state.register l n
  pub records : (k : ℕ) (name : List ℕ) (n : ℕ) (p : List ℕ) → Writes hs k (lines.Record name n p) → (l : ℕ) × ReadsLog c hs l name × RecordAt c hs w.made w.state.network.sent w.state.register l n
  pub batches : (k : ℕ) (name : List ℕ) (n index : ℕ) (m : List ℕ) → Writes hs k (lines.BatchMessage name n index m) → (l : ℕ) × ReadsLog c hs l name × RecordAt c hs w.made w.state.network.sent w.state.register l n
  pub holes : (k : ℕ) (name : List ℕ) (low high : ℕ) → Writes hs k (lines.Gap name gaps.Hole low high) → (l : ℕ) × ReadsLog c hs l name × (low ≡ high) × ClosedItem c hs w.made w.state.network.sent w.state.register l low Hole
  pub bridges : (k : ℕ) (name : List ℕ) (low high : ℕ) → Writes hs k (lines.Gap name gaps.Bridge low high) → (l : ℕ) × ReadsLog c hs l name × BridgeAt c hs w.made w.state.network.sent w.state.register l low high

pub start_told : (c : Config) → AllTold c [] (begin c)
start_told c = record { acked = λ k name n w. absurd (not_none w.1); records = λ k name n p w. absurd (not_none w.1); batches = λ k name n j p w. absurd (not_none w.1); holes = λ k name low high w. absurd (not_none w.1); bridges = λ k name low high w. absurd (not_none w.1) }

module _ (c : Config) (hs : List Happened) (w : World) (e : Move) (B : Base c hs w) (G : Given c hs w.state) (R : Along c hs w) (A : AllGot c hs w) (T : AllTold c hs w) where
  d : Done
  d = Calm.moves c w.state e

  -- a reader that is there reads the log that it was opened for
  reads_log : (name : List ℕ) (x : Reader) → find_named name w.state.readers ≡ Some x → ReadsLog c hs x.log name
  reads_log name x f = let g = got_of c hs w A name x f in (g.open_as, g.is, g.log)

  items_now : ItemsTold c hs w.made w.state.network.sent w.state.register w.state (Calm.moves c w.state e).lines
  items_now = dispatch c w.state e (λ d m. ItemsTold c hs w.made w.state.network.sent w.state.register w.state d.lines) B.0.0 (line_cases c w.state e (ItemsTold c hs w.made w.state.network.sent w.state.register w.state) no_items (λ f name x m i t v o. reads_now f name x m i t v) quiet_items) where
    no_items : (g : Group) (ls : List Line) → (g ≡ OfItems → ⊥) → AllOf g ls → ItemsTold c hs w.made w.state.network.sent w.state.register w.state ls
    no_items g ls n a = record { records = λ name m p i. absurd (n (sym (a _ i))); batches = λ name m j p i. absurd (n (sym (a _ i))); holes = λ name low high i. absurd (n (sym (a _ i))); bridges = λ name low high i. absurd (n (sym (a _ i))) }

    quiet_items : (ls : List Line) → ((x : Line) → In x ls → is_quiet x ≡ true) → ItemsTold c hs w.made w.state.network.sent w.state.register w.state ls
    quiet_items ls q = record { records = λ name m p i. absurd (let z = q _ i in cc); batches = λ name m j p i. absurd (let z = q _ i in cc); holes = λ name low high i. absurd (let z = q _ i in cc); bridges = λ name low high i. absurd (let z = q _ i in cc) }

    reads_now : (f : List ℕ) (name : List ℕ) (x : Reader) (m : Msg) → In m w.state.network.sent → m.to ≡ whos.Reader x.number → Reading w.state name x
        → ItemsTold c hs w.made w.state.network.sent w.state.register w.state (Step.item_lines (on_answer (looks_at c w.state.register x.log) x (Step.sender_node m.from) m.body).reader.style name (on_answer (looks_at c w.state.register x.log) x (Step.sender_node m.from) m.body).reader.until (on_answer (looks_at c w.state.register x.log) x (Step.sender_node m.from) m.body).items)
    reads_now f name x m i t v =
        let lg : x.log ≡ m.log = B.1.1.logs m x.number name x i (inl t) v.named refl in
        let y = Step.sender_node m.from in
        let o = subst (λ k. carried.HeldOk (Said hs w.made w.state.register) (TrimFine c hs w.state.network.sent w.state.register) (CloseFine c hs w.made w.state.network.sent w.state.register) (Reached w.state.register) (ShowFine c hs w.made w.state.network.sent w.state.register) (ReleaseFine c hs w.state.network.sent w.state.register) (SaidHere hs w.made w.state.register) (LngFine c hs w.state.network.sent w.state.register) k m.body) (sym lg)
        (carried.held_of (Said hs w.made w.state.register) (TrimFine c hs w.state.network.sent w.state.register) (CloseFine c hs w.made w.state.network.sent w.state.register) (Reached w.state.register) (ShowFine c hs w.made w.state.network.sent w.state.register) (ReleaseFine c hs w.state.network.sent w.state.register) (SaidHere hs w.made w.state.register) (LngFine c hs w.state.network.sent w.state.register) m.log m.from m.body (R.said.sent m i).0) in
        let k = answered (looks_at c w.state.register x.log) x y m.body (ReadFine c hs w.made w.state.network.sent w.state.register (along.once_before c hs w e B G R) R.once R.plans R.last x.log)
        (fine_keeps c hs w.made w.state.network.sent w.state.register (along.once_before c hs w e B G R) R.once R.plans R.last x.log (looks_at c w.state.register x.log) x y m.body (R.said.readers name x v.named) o) in
        item_lines_told c hs w.made w.state.network.sent w.state.register w.state (along.once_before c hs w e B G R) R.once R.plans R.last _ name x _ (on_answer (looks_at c w.state.register x.log) x y m.body).items v.named k.items

  acked_now : AckedTold c (hs ++ step_happened c w.state e ∷ []) w.state (Calm.moves c w.state e).lines
  acked_now = dispatch c w.state e (λ d m. AckedTold c (hs ++ step_happened c w.state e ∷ []) w.state d.lines) B.0.0 (acked_cases c (hs ++ step_happened c w.state e ∷ []) w.state e
      (heard_acts c w.state e (hs ++ step_happened c w.state e ∷ []) (along.acks_before c hs w e B G R) (along.rows_before c hs w e B G R) (along.stored_told_now c hs w e B G R) (along.cleaned_now c hs w e B G R) (along.numbers_now c hs w e B G R))
      (retry_acts c w.state e (hs ++ step_happened c w.state e ∷ []) (along.acks_before c hs w e B G R) (along.rows_before c hs w e B G R) (along.stored_told_now c hs w e B G R) (along.cleaned_now c hs w e B G R) (along.numbers_now c hs w e B G R)))

  -- a new line, or one of before
  line_by : (k : ℕ) (x : Line) → (group x ≡ OfMessages → ⊥) → Writes (hs ++ step_happened c w.state e ∷ []) k x → Writes hs k x ⊎ In x (Calm.moves c w.state e).lines
  line_by k x n wr = elim (writes_cases hs (step_happened c w.state e) k x wr) [ inl o ↦ inl o | inr o ↦ inr (line_of (Calm.moves c w.state e) x n o.1) ]

  pub told_step : AllTold c (hs ++ step_happened c w.state e ∷ []) (after_step c w e)
  unfolding AckedTold finish
  told_step = record {
    acked = λ k name n wr. elim (line_by k (lines.Acked name n) (λ h. cc) wr) [
      | inl o ↦ (let z = T.acked k name n o in (z.0, of_log_grows hs w.state.register e (Calm.moves c w.state e) z.0 name z.1, along.acks_both c hs w e B G R z.0 n z.2))
      | inr o ↦ (let z = acked_now name n o in (z.0.log, of_log_grows hs w.state.register e (Calm.moves c w.state e) z.0.log name (counts_of c hs w B name z.0 z.1).known, along.acks_after c hs w e B G R z.0.log n z.2))
    ];
    records = λ k name n p wr. elim (line_by k (lines.Record name n p) (λ h. cc) wr) [
      | inl o ↦ (let z = T.records k name n p o in (z.0, reads_grows c hs (step_happened c w.state e) z.0 name z.1, record_next z.0 n z.2))
      | inr o ↦ (let z = items_now.records name n p o in (z.0.log, reads_grows c hs (step_happened c w.state e) z.0.log name (reads_log name z.0 z.1), record_next z.0.log n z.2))
    ];
    batches = λ k name n j p wr. elim (line_by k (lines.BatchMessage name n j p) (λ h. cc) wr) [
      | inl o ↦ (let z = T.batches k name n j p o in (z.0, reads_grows c hs (step_happened c w.state e) z.0 name z.1, record_next z.0 n z.2))
      | inr o ↦ (let z = items_now.batches name n j p o in (z.0.log, reads_grows c hs (step_happened c w.state e) z.0.log name (reads_log name z.0 z.1), record_next z.0.log n z.2))
    ];
    holes = λ k name low high wr. elim (line_by k (lines.Gap name gaps.Hole low high) (λ h. cc) wr) [
      | inl o ↦ (let z = T.holes k name low high o in (z.0, reads_grows c hs (step_happened c w.state e) z.0 name z.1, z.2, item_next z.0 low z.3))
      | inr o ↦ (let z = items_now.holes name low high o in (z.0.log, reads_grows c hs (step_happened c w.state e) z.0.log name (reads_log name z.0 z.1), z.2, item_next z.0.log low z.3))
    ];
    bridges = λ k name low high wr. elim (line_by k (lines.Gap name gaps.Bridge low high) (λ h. cc) wr) [
      | inl o ↦ (let z = T.bridges k name low high o in (z.0, reads_grows c hs (step_happened c w.state e) z.0 name z.1, bridge_next z.0 low high z.2))
      | inr o ↦ (let z = items_now.bridges name low high o in (z.0.log, reads_grows c hs (step_happened c w.state e) z.0.log name (reads_log name z.0 z.1), bridge_next z.0.log low high z.2))
    ];
  } where
    record_next : (l n : ℕ) → RecordAt c hs w.made w.state.network.sent w.state.register l n → RecordAt c (hs ++ step_happened c w.state e ∷ []) (made_on c w.state (event_of e) ++ w.made) (after_step c w e).state.network.sent (after_step c w e).state.register l n
    record_next = record_grows c hs e (Calm.moves c w.state e) w.made (made_on c w.state (event_of e)) w.state.network.sent (finish (Calm.moves c w.state e)).state.network.sent w.state.register (Calm.moves c w.state e).state.register (along.into_after c hs w e B G R) (along.follow c hs w e B G R).0 (along.stays c hs w e B G R) (along.fresh_losses c hs w e B G R)

    item_next : (l n : ℕ) → ClosedItem c hs w.made w.state.network.sent w.state.register l n Hole → ClosedItem c (hs ++ step_happened c w.state e ∷ []) (made_on c w.state (event_of e) ++ w.made) (after_step c w e).state.network.sent (after_step c w e).state.register l n Hole
    item_next l n = item_grows c hs e (Calm.moves c w.state e) w.made (made_on c w.state (event_of e)) w.state.network.sent (finish (Calm.moves c w.state e)).state.network.sent w.state.register (Calm.moves c w.state e).state.register (along.into_after c hs w e B G R) (along.follow c hs w e B G R).0 (along.stays c hs w e B G R) (along.fresh_losses c hs w e B G R) l n Hole

    bridge_next : (l low high : ℕ) → BridgeAt c hs w.made w.state.network.sent w.state.register l low high → BridgeAt c (hs ++ step_happened c w.state e ∷ []) (made_on c w.state (event_of e) ++ w.made) (after_step c w e).state.network.sent (after_step c w e).state.register l low high
    bridge_next = bridge_grows c hs e (Calm.moves c w.state e) w.made (made_on c w.state (event_of e)) w.state.network.sent (finish (Calm.moves c w.state e)).state.network.sent w.state.register (Calm.moves c w.state e).state.register (along.into_after c hs w e B G R) (along.follow c hs w e B G R).0 (along.stays c hs w e B G R) (along.fresh_losses c hs w e B G R)
