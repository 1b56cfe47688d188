-- A state whose parts each have a property: at both plain states of each node, of each message, sequencer and reader, and of the register.
use Rattle.std.proofs.Common.{◌≡◌, ◌∙◌, ℕ, inl, inr, refl, sym, subst, Bool, true, false, cond, List, [], ◌∷◌, Option, Some, None}
use Rattle.ld_op.specs.Handles.{answer_message}
use Rattle.std.specs.Option.{unwrap_or}
use Rattle.ld_table.specs.Table.{find, put}
use Rattle.ld_table.specs.Named.{find_named}
use Rattle.ld_table.proofs.Laws.{put_cases}
use Rattle.std.specs.Ordering.{nat_cmp}
use Rattle.std.specs.BTreeMap.{is_at}
use Rattle.ld_ids.specs.Set.{members}
use Rattle.ld_config.specs.declared.config.Config.{Config}
use Rattle.ld_transcript.specs.declared.line.Line.{Line}
use Rattle.ld_schedule.specs.declared.event.Picture.{Picture}
use Rattle.ld_msg.specs.declared.msg.Msg.{Msg}
use Rattle.ld_msg.specs.declared.msg.Who.{Who}
use Rattle.ld_msg.specs.declared.msg.Who.TheVariants as whos
use Rattle.ld_msg.specs.declared.msg.Body.{Body}
use Rattle.ld_msg.specs.declared.msg.Body.TheVariants as bodies
use Rattle.ld_op.specs.declared.op.Op.{Op}
use Rattle.ld_op.specs.Plain.{Plain, unformatted, apply}
use Rattle.ld_op.specs.Answers.{on_release}
use Rattle.ld_msg.specs.Register.{Register, empty_register}
use Rattle.ld_machine.specs.Disk.{Node, Cut, Fate, Made, FailsAt, CrashesAt, fate, new_node, keep_op, keep_end, kept_by, is_full_for, load, loaded_by, found, is_found, seen_too, Failed, Kept, Written, op_calls}
use Rattle.ld_msg.specs.Sequencer.{Sequencer}
use Rattle.ld_msg.specs.Reader.{Reader}
use Rattle.ld_machine.specs.State.{State, Done, start, new_nodes, finish, node_at, with_node, with_sequencer, with_reader, with_register, posted}
use Rattle.ld_machine.specs.Step as Step
use Rattle.ld_machine.specs.World.{In}
use Rattle.ld_safety.proofs.Lists.{Some_inj, not_none, only}
use Rattle.ld_safety.proofs.Names.{named_cases}
use Rattle.ld_safety.proofs.Steps.{sent_by}
use Rattle.ld_safety.proofs.Events.{refreshed}

module _ (N : ℕ → Plain → Type 0) (R : ℕ → ℕ → ℕ → Type 0) (M : Msg → Type 0) (S : List ℕ → Sequencer → Type 0) (D : List ℕ → Reader → Type 0) (G : Register → Type 0) where
  abbrev pub CutHas : ℕ → Option Cut → Type 0
  CutHas y None = Unit {0}
  CutHas y (Some k) = N y k.plain

  pub record NodeHas (y : ℕ) (x : Node) : Type 0 where
    pub plain : N y x.plain
    pub cut : CutHas y x.cut
    pub released : (l : ℕ) → R y l (Step.released_at x l)

  pub cut_plain : (y : ℕ) (x : Node) (k : Cut) → NodeHas y x → x.cut ≡ Some k → N y k.plain
  cut_plain y x k h q = subst (CutHas y) q h.cut

  pub record Parts (ns : List (ℕ × Node)) (r : Register) (ms : List Msg) (qs : List (List ℕ × Sequencer)) (ds : List (List ℕ × Reader)) : Type 0 where
    pub nodes : (y : ℕ) → NodeHas y (unwrap_or (find y ns) new_node)
    pub sent : (m : Msg) → In m ms → M m
    pub sequencers : (s : List ℕ) (q : Sequencer) → find_named s qs ≡ Some q → S s q
    pub readers : (s : List ℕ) (d : Reader) → find_named s ds ≡ Some d → D s d
    pub register : G r

  abbrev pub Has : State → Type 0
  Has s = Parts s.nodes s.register s.network.sent s.sequencers s.readers

  -- ---- nodes ----

  pub node_put : (y : ℕ) (x : Node) (ns : List (ℕ × Node)) → NodeHas y x → ((z : ℕ) → NodeHas z (unwrap_or (find z ns) new_node)) → (z : ℕ) → NodeHas z (unwrap_or (find z (put y x ns)) new_node)
  node_put y x ns h a z = elim (put_cases z y x ns) [
    | inl e ↦ subst (λ (o : Option Node). NodeHas z (unwrap_or o new_node)) (sym e.1) (subst (λ k. NodeHas k x) (sym e.0) h)
    | inr e ↦ subst (λ (o : Option Node). NodeHas z (unwrap_or o new_node)) (sym e.1) (a z)
  ]

  by_fate : (y : ℕ) (x : Node) (o : Op) (f : Fate) → NodeHas y x → N y (apply x.plain o) → NodeHas y (kept_by x o f)
  by_fate y x o Made h a = record { plain = a; cut = h.cut; released = h.released }
  by_fate y x o (FailsAt k) h a = record { plain = h.plain; cut = a; released = h.released }
  by_fate y x o (CrashesAt k p) h a = record { plain = h.plain; cut = a; released = h.released }

  unless_full : (y : ℕ) (b : Bool) (x z : Node) → NodeHas y x → NodeHas y z → NodeHas y (cond b (record x { status = Failed }) z)
  unless_full y true x z a h = record { plain = a.plain; cut = a.cut; released = a.released }
  unless_full y false x z a h = h

  pub op_has : (y : ℕ) (x : Node) (o : Op) → NodeHas y x → N y (apply x.plain o) → NodeHas y (keep_op x o)
  unfolding keep_op
  op_has y x o h a = unless_full y (is_full_for x o) x (kept_by x o (fate (op_calls x o) x.fault)) h (by_fate y x o (fate (op_calls x o) x.fault) h a)

  one_plain : (y : ℕ) (b : Bool) (p q : Plain) → N y p → N y q → N y (cond b p q)
  one_plain y true p q a h = a
  one_plain y false p q a h = h

  found_has : (y : ℕ) (x : Node) (k : Option Cut) → N y x.plain → CutHas y k → N y (found x k)
  found_has y x None a h = a
  found_has y x (Some k) a h = one_plain y (is_found k) k.plain x.plain h a

  seen_has : (y : ℕ) (p : Picture) (k : Option Cut) → CutHas y k → CutHas y (seen_too p k)
  seen_has y p None h = h
  seen_has y p (Some k) h = h

  module _ (zero_released : (y l : ℕ) → R y l 0) where
    none_released : (y : ℕ) (l : ℕ) → R y l (unwrap_or (find l []) 0)
    unfolding find
    none_released y l = zero_released y l

    load_by : (y : ℕ) (x : Node) (f : Fate) → NodeHas y x → NodeHas y (loaded_by x f)
    load_by y x Made h = record { plain = found_has y x x.cut h.plain h.cut; cut = tt; released = none_released y }
    load_by y x (FailsAt k) h = record { plain = h.plain; cut = h.cut; released = h.released }
    load_by y x (CrashesAt k p) h = record { plain = h.plain; cut = seen_has y p x.cut h.cut; released = h.released }

    pub load_has : (y : ℕ) (x : Node) → NodeHas y x → NodeHas y (load x)
    unfolding load
    load_has y x h = load_by y x (fate 1 x.fault) h

    pub new_has : (y : ℕ) → N y unformatted → NodeHas y new_node
    new_has y h = record { plain = h; cut = tt; released = none_released y }

    -- ---- the start ----
    starts_by : (y : ℕ) (ns : List ℕ) → N y unformatted → NodeHas y (unwrap_or (find y (new_nodes ns)) new_node)
    unfolding find
    starts_by y [] h = new_has y h
    starts_by y (n ∷ ns) h = start_or (is_at (nat_cmp y) n) (find y (new_nodes ns)) (starts_by y ns h) where
      start_or : (b : Bool) (o : Option Node) → NodeHas y (unwrap_or o new_node) → NodeHas y (unwrap_or (cond b (Some new_node) o) new_node)
      start_or true o i = new_has y h
      start_or false o i = i

    pub start_has : (c : Config) → ((y : ℕ) → N y unformatted) → G empty_register → Has (start c)
    unfolding find_named
    start_has c h g = record {
      nodes = λ y. starts_by y (members c.nodes) (h y);
      sent = λ m i. absurd i;
      sequencers = λ s q i. absurd (not_none i);
      readers = λ s d i. absurd (not_none i);
      register = g;
    }

  released_put : (y : ℕ) (x : Node) (l r : ℕ) → NodeHas y x → R y l r → (k : ℕ) → R y k (unwrap_or (find k (put l r x.released)) 0)
  released_put y x l r h a k = elim (put_cases k l r x.released) [
    | inl e ↦ subst (λ (o : Option ℕ). R y k (unwrap_or o 0)) (sym e.1) (subst (λ j. R y j r) (sym e.0) a)
    | inr e ↦ subst (λ (o : Option ℕ). R y k (unwrap_or o 0)) (sym e.1) (h.released k)
  ]

  pub release_has : (y : ℕ) (x : Node) (l : ℕ) (b : Body) → NodeHas y x → ((r : ℕ) → b ≡ bodies.Release r → R y l (on_release (Step.released_at x l) r)) → NodeHas y (Step.releases x l b)
  release_has y x l (bodies.Release r) h a = record { plain = h.plain; cut = h.cut; released = released_put y x l _ h (a r refl) }
  release_has y x l _ h a = h

  -- ---- states ----

  -- messages are sent
  pub finish_has : (d : Done) → Has d.state → ((m : Msg) → In m d.sends → M m) → Has (finish d).state
  unfolding finish
  finish_has d h a = record {
    nodes = h.nodes;
    sent = λ m i. elim (sent_by d m i) [ inl o ↦ h.sent m o | inr n ↦ a m n ];
    sequencers = h.sequencers;
    readers = h.readers;
    register = h.register;
  }

  pub node_has : (s : State) (n : ℕ) (x : Node) → Has s → NodeHas n x → Has (with_node s n x)
  node_has s n x h a = record { nodes = node_put n x s.nodes a h.nodes; sent = h.sent; sequencers = h.sequencers; readers = h.readers; register = h.register }

  pub register_has : (s : State) (r : Register) → Has s → G r → Has (with_register s r)
  register_has s r h a = record { nodes = h.nodes; sent = h.sent; sequencers = h.sequencers; readers = h.readers; register = a }

  pub sequencer_has : (s : State) (name : List ℕ) (q : Sequencer) → Has s → S name q → Has (with_sequencer s name q)
  sequencer_has s name q h a = record {
    nodes = h.nodes;
    sent = h.sent;
    readers = h.readers;
    register = h.register;
    sequencers = λ t p i. elim (named_cases t name q s.sequencers) [
      | inl e ↦ subst (λ k. S k p) (sym e.0) (subst (S name) (Some_inj (sym e.1 ∙ i)) a)
      | inr e ↦ h.sequencers t p (sym e.1 ∙ i)
    ];
  }

  pub reader_has : (s : State) (name : List ℕ) (d : Reader) → Has s → D name d → Has (with_reader s name d)
  reader_has s name d h a = record {
    nodes = h.nodes;
    sent = h.sent;
    sequencers = h.sequencers;
    register = h.register;
    readers = λ t p i. elim (named_cases t name d s.readers) [
      | inl e ↦ subst (λ k. D k p) (sym e.0) (subst (D name) (Some_inj (sym e.1 ∙ i)) a)
      | inr e ↦ h.readers t p (sym e.1 ∙ i)
    ];
  }

  -- a node keeps an op; the messages come only where it is written
  sends_if : (k : Kept) (ms : List Msg) → ((m : Msg) → In m ms → M m) → (m : Msg) → In m (cond (Step.is_written k) ms []) → M m
  sends_if Written ms h m i = h m i
  sends_if _ ms h m i = absurd i

  pub keeps_has : (s : State) (n : ℕ) (o : Op) (ls : List Line) (ms : List Msg) → Has s → N n (apply (node_at s n).plain o) → ((m : Msg) → In m ms → M m) → Has (finish (Step.keeps_op s n o ls ms)).state
  keeps_has s n o ls ms h a b = finish_has (Step.keeps_op s n o ls ms) (node_has s n (keep_op (node_at s n) o) h (op_has n (node_at s n) o (h.nodes n) a)) (sends_if (keep_end (node_at s n) o) ms b)

  answer_has : (n : ℕ) (m : Msg) (b : Option Body) → ((x : Body) → b ≡ Some x → M (record { from = whos.Node n; to = m.from; log = m.log; body = x })) → (k : Msg) → In k (answer_message n m b) → M k
  answer_has n m None h k i = absurd i
  answer_has n m (Some x) h k i = subst M (sym (only k _ i)) (h x refl)

  pub handles_has : (s : State) (n : ℕ) (m : Msg) (o : Option Op) (b : Option Body) → Has s → ((p : Op) → o ≡ Some p → N n (apply (node_at s n).plain p)) → ((x : Body) → b ≡ Some x → M (record { from = whos.Node n; to = m.from; log = m.log; body = x }))
      → Has (finish (Step.handles s n m o b)).state
  handles_has s n m None b h a x = finish_has (Step.handles s n m None b) h (answer_has n m b x)
  handles_has s n m (Some o) b h a x = keeps_has s n o [] (answer_message n m b) h (a o refl) (answer_has n m b x)

  -- messages of an actor
  pub posted_has : (who : Who) (l : ℕ) (bs : List (ℕ × Body)) → ((b : ℕ × Body) → In b bs → M (record { from = who; to = whos.Node b.0; log = l; body = b.1 })) → (m : Msg) → In m (posted who l bs) → M m
  posted_has who l [] h m i = absurd i
  posted_has who l (b ∷ bs) h m (inl e) = subst M (sym e) (h b (inl refl))
  posted_has who l (b ∷ bs) h m (inr i) = posted_has who l bs (λ x j. h x (inr j)) m i

  pub quiet_has : (s : State) (f : List ℕ) (ls : List Line) → Has s → Has (finish (record { state = refreshed s f; lines = ls; sends = [] })).state
  quiet_has s f ls h = finish_has (record { state = refreshed s f; lines = ls; sends = [] }) h (λ m i. absurd i)

-- weaker properties
module _ (N : ℕ → Plain → Type 0) (R : ℕ → ℕ → ℕ → Type 0) (M : Msg → Type 0) (S : List ℕ → Sequencer → Type 0) (D : List ℕ → Reader → Type 0) (G : Register → Type 0)
    (N₂ : ℕ → Plain → Type 0) (R₂ : ℕ → ℕ → ℕ → Type 0) (M₂ : Msg → Type 0) (S₂ : List ℕ → Sequencer → Type 0) (D₂ : List ℕ → Reader → Type 0) (G₂ : Register → Type 0)
    (n : (y : ℕ) (p : Plain) → N y p → N₂ y p) (r : (y l k : ℕ) → R y l k → R₂ y l k) (m : (x : Msg) → M x → M₂ x) (s : (t : List ℕ) (q : Sequencer) → S t q → S₂ t q) (d : (t : List ℕ) (x : Reader) → D t x → D₂ t x) (g : (x : Register) → G x → G₂ x) where
  cut_weaker : (y : ℕ) (k : Option Cut) → CutHas N R M S D G y k → CutHas N₂ R₂ M₂ S₂ D₂ G₂ y k
  cut_weaker y None h = tt
  cut_weaker y (Some k) h = n y k.plain h

  pub weaker : (t : State) → Has N R M S D G t → Has N₂ R₂ M₂ S₂ D₂ G₂ t
  weaker t h = record {
    nodes = λ y. let x = h.nodes y in record { plain = n y _ x.plain; cut = cut_weaker y _ x.cut; released = λ l. r y l _ (x.released l) };
    sent = λ x i. m x (h.sent x i);
    sequencers = λ a q f. s a q (h.sequencers a q f);
    readers = λ a x f. d a x (h.readers a x f);
    register = g t.register h.register;
  }
