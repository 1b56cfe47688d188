-- What was appended was sent to a node; so an entry says what its ballot says, in the words of the invariants.
use Rattle.std.proofs.Common.{◌≡◌, ◌∙◌, ◌⊎◌, ◌≤◌, ◌<◌, ℕ, zero, suc, ◌+◌, ◌%◌, inl, inr, refl, sym, subst, true, nat_lt, List, [], ◌∷◌, ◌++◌, length, take, drop, Option, Some, None, arith}
use Rattle.std.proofs.lemmas.Bool.{ltb-false}
use Rattle.ld_table.specs.Named.{find_named}
use Rattle.ld_table.specs.Words.{without}
use Rattle.ld_lsn.specs.Number.{epoch_of, esn_of, numbered, last_esn}
use Rattle.ld_ids.specs.declared.set.Spec.{Spec}
use Rattle.ld_ids.specs.Choice.{nodes_of, ring, left_out, choice_at}
use Rattle.ld_config.specs.declared.config.Config.{Config}
use Rattle.ld_config.specs.Bounds.{IsInBounds}
use Rattle.ld_transcript.specs.declared.line.Line.{Line}
use Rattle.ld_transcript.specs.declared.line.Line.TheVariants as lines
use Rattle.ld_msg.specs.declared.msg.What.{What}
use Rattle.ld_msg.specs.declared.msg.What.TheVariants.{Rec}
use Rattle.ld_msg.specs.declared.msg.Who.TheVariants as whos
use Rattle.ld_msg.specs.declared.msg.Msg.{Msg}
use Rattle.ld_msg.specs.declared.msg.Body.{Body}
use Rattle.ld_msg.specs.declared.msg.Body.TheVariants as bodies
use Rattle.ld_msg.specs.Choice.{choice}
use Rattle.ld_msg.specs.Register.{Register, generation_of, epochs_in, epochs_of, lce_of}
use Rattle.ld_msg.specs.Sequencer.{Sequencer, Numbered, called, on_reply, to_each, next_esn, first_stores}
use Rattle.ld_op.specs.declared.op.Op.{Op}
use Rattle.ld_op.specs.declared.op.Op.TheVariants as ops
use Rattle.ld_op.specs.Ticks.{Ticked, Cleans, Rebuilt, Asks, Nothing}
use Rattle.ld_machine.specs.Config.{looks_at}
use Rattle.ld_machine.specs.Disk.{Node, keep_end}
use Rattle.ld_machine.specs.State.{State, Done, finish, node_at, with_node, with_register, posted}
use Rattle.ld_machine.specs.Facts.{Happened, Writes, OfLog}
use Rattle.ld_machine.specs.World.{World, In, to_node_of}
use Rattle.ld_machine.specs.Run.{after_step}
use Rattle.ld_machine.specs.Step as Step
use Rattle.ld_safety.proofs.Lists.{Some_inj, not_none, cond_both}
use Rattle.ld_safety.proofs.Traces.{Keeps, step_happened, beside_kept}
use Rattle.ld_safety.proofs.Steps.{writes_cases, sent_now}
use Rattle.ld_safety.proofs.Lines.{Group, OfNodes, OfNumbers, OfActs, OfTrims, OfSets, OfItems, AllOf, none_of, one_of, kept_of, format_of, acted_of, items_of, line_of}
use Rattle.ld_safety.proofs.Events.{retry_call, announced, Cases, dispatch, Live, is_quiet, refreshed, loaded}
use Rattle.ld_safety.proofs.Numbers.{CountedBy}
use Rattle.ld_safety.proofs.Base.{counts_of}
use Rattle.ld_safety.proofs.Given.{of_log_grows}
use Rattle.ld_safety.proofs.GivenSteps.{BaseGiven}
use Rattle.ld_safety.proofs.Specs.{SpecFine, SetsFine, start_fine, fixed_fine, fine_step}
use Rattle.ld_safety.proofs.Along.{Along}
use Rattle.ld_safety.proofs.AlongSteps.{along_kept, into_after}
use Rattle.ld_machine.specs.Calm as Calm
use Rattle.ld_machine.specs.Calm.{Move}

-- ---- a choice has a node ----
abbrev Some_of : List ℕ → Type 0
Some_of xs = (x : ℕ) × In x xs

some_of : (xs : List ℕ) → 1 ≤ length xs → Some_of xs
some_of [] h = absurd (omega arith)
some_of (x ∷ xs) h = (x, inl refl)

take_some : (n : ℕ) (xs : List ℕ) → 0 < n → Some_of xs → Some_of (take n xs)
take_some zero xs h s = absurd (omega arith)
take_some (suc n) [] h s = absurd s.1
take_some (suc n) (x ∷ xs) h s = (x, inl refl)

left_in : (x : ℕ) (xs ys : List ℕ) → In x xs → In x (xs ++ ys)
left_in x [] ys i = absurd i
left_in x (z ∷ xs) ys (inl e) = inl e
left_in x (z ∷ xs) ys (inr i) = inr (left_in x xs ys i)

right_in : (x : ℕ) (xs ys : List ℕ) → In x ys → In x (xs ++ ys)
right_in x [] ys i = i
right_in x (z ∷ xs) ys i = inr (right_in x xs ys i)

split_in : (p x : ℕ) (xs : List ℕ) → In x xs → In x (drop p xs) ⊎ In x (take p xs)
split_in zero x xs i = inl i
split_in (suc p) x [] i = absurd i
split_in (suc p) x (y ∷ xs) (inl e) = inr (inl e)
split_in (suc p) x (y ∷ xs) (inr i) = elim (split_in p x xs i) [ inl a ↦ inl a | inr a ↦ inr (inr a) ]

ring_some : (p : ℕ) (xs : List ℕ) → Some_of xs → Some_of (ring p xs)
ring_some p xs s = (s.0, elim (split_in p s.0 xs s.1) [ inl a ↦ left_in s.0 (drop p xs) (take p xs) a | inr a ↦ right_in s.0 (drop p xs) (take p xs) a ])

left_some : (s : Spec) (excluded around : List ℕ) → 1 ≤ s.r → Some_of around → Some_of (left_out s excluded around)
left_some s excluded around h a = cond_both (nat_lt (length (without excluded around)) s.r) around (without excluded around) Some_of (λ t. a) (λ t. let z = ltb-false _ _ t in some_of (without excluded around) (omega arith))

choice_some : (s : Spec) (excluded : List ℕ) (number wave : ℕ) → 1 ≤ s.r → s.r ≤ length (nodes_of s) → Some_of (choice s excluded number wave)
unfolding choice_at
choice_some s excluded number wave h g = take_some (s.r + s.extras) (left_out s excluded (ring ((epoch_of number + esn_of number + wave) % length (nodes_of s)) (nodes_of s))) (omega arith) (left_some s excluded (ring ((epoch_of number + esn_of number + wave) % length (nodes_of s)) (nodes_of s)) h (ring_some _ (nodes_of s) (some_of (nodes_of s) (omega arith))))

-- ---- what a step appends is sent ----

-- a store of the number by the sequencer of its epoch
pub record StoreSent (ms : List Msg) (l n : ℕ) : Type 0 where
  pub node : ℕ
  pub lng : ℕ
  pub what : What
  pub there : In (to_node_of l (epoch_of n) node (bodies.Store n lng what)) ms

posted_each : (l b y : ℕ) (x : Body) (ys : List ℕ) → In y ys → In (to_node_of l b y x) (posted (whos.Sequencer b) l (to_each x ys))
posted_each l b y x [] i = absurd i
posted_each l b y x (z ∷ ys) (inl e) = inl (λ j. to_node_of l b (e j) x)
posted_each l b y x (z ∷ ys) (inr i) = inr (posted_each l b y x ys i)

record AppendTold (s : State) (sends : List Msg) (name : List ℕ) (n : ℕ) : Type 0 where
  sequencer : Sequencer
  named : find_named name s.sequencers ≡ Some sequencer
  sent : StoreSent sends sequencer.log n

module _ (c : Config) (s : State) (e : Move) (fine : (name : List ℕ) (q : Sequencer) → find_named name s.sequencers ≡ Some q → SpecFine q.spec) (small : (name : List ℕ) (q : Sequencer) → find_named name s.sequencers ≡ Some q → next_esn q ≤ last_esn) where
  Told : Done → Type 0
  Told d = (name : List ℕ) (n : ℕ) → In (lines.Appended name n) d.lines → AppendTold s d.sends name n

  others : (g : Group) (d : Done) → (g ≡ OfNumbers → ⊥) → AllOf g d.lines → Told d
  unfolding Told
  others g d h a name n i = absurd (h (sym (a _ i)))

  quiets : (d : Done) → ((x : Line) → In x d.lines → is_quiet x ≡ true) → Told d
  unfolding Told
  quiets d q name n i = absurd (let z = q _ i in cc)

  quiet_one : (x : Line) → is_quiet x ≡ true → (y : Line) → In y (x ∷ []) → is_quiet y ≡ true
  quiet_one x h y (inl i) = subst (λ z. is_quiet z ≡ true) (sym i) h
  quiet_one x h y (inr i) = absurd i

  handled : (f : List ℕ) (x : Node) (n : ℕ) (m : Msg) (o : Option Op) (a : Option Body) → Told (Step.handles (with_node (refreshed s f) n x) n m o a)
  handled f x n m None a = others OfNodes (Step.handles (with_node (refreshed s f) n x) n m None a) (λ h. cc) (none_of OfNodes)
  handled f x n m (Some o) a = others OfNodes (Step.handles (with_node (refreshed s f) n x) n m (Some o) a) (λ h. cc) (kept_of n [] (keep_end (node_at (with_node (refreshed s f) n x) n) o) (none_of OfNodes))

  ticked : (n l : ℕ) (t : Ticked) → Told (Step.ticks_as c s n l t)
  ticked n l (Cleans k y) = others OfNodes (Step.ticks_as c s n l (Cleans k y)) (λ h. cc) (kept_of n [] (keep_end (node_at s n) (ops.Clean l k y)) (none_of OfNodes))
  ticked n l Rebuilt = others OfNodes (Step.ticks_as c s n l Rebuilt) (λ h. cc) (kept_of n (lines.NodeRebuilt n l ∷ []) (keep_end (node_at s n) (ops.Refilled l)) (one_of (lines.NodeRebuilt n l)))
  ticked n l (Asks from) = others OfNodes (Step.ticks_as c s n l (Asks from)) (λ h. cc) (none_of OfNodes)
  ticked n l Nothing = others OfNodes (Step.ticks_as c s n l Nothing) (λ h. cc) (none_of OfNodes)

  appends : (name : List ℕ) (q : Sequencer) (payload : List ℕ) → Live s name q → Told (Step.append_done s name q payload Numbered)
  unfolding Told
  appends name q payload v t n (inr i) = absurd i
  appends name q payload v t n (inl i) =
      let a : t ≡ name = cc in let k : n ≡ numbered q.epoch (next_esn q) = cc in
      let z = fine name q v.named in
      let y = choice_some q.spec q.lost (numbered q.epoch (next_esn q)) 0 z.least z.most in
      let ep : epoch_of (numbered q.epoch (next_esn q)) ≡ q.epoch = (let u = small name q v.named in omega arith) in
      record {
        sequencer = q;
        named = subst (λ x. find_named x s.sequencers ≡ Some q) (sym a) v.named;
        sent = subst (StoreSent (posted (whos.Sequencer q.epoch) q.log (first_stores q payload)) q.log) (sym k) (record {
          node = y.0;
          lng = q.lng;
          what = Rec payload;
          there = subst (λ x. In (to_node_of q.log x y.0 (bodies.Store (numbered q.epoch (next_esn q)) q.lng (Rec payload))) (posted (whos.Sequencer q.epoch) q.log (first_stores q payload))) (sym ep)
              (posted_each q.log q.epoch y.0 (bodies.Store (numbered q.epoch (next_esn q)) q.lng (Rec payload)) (choice q.spec q.lost (numbered q.epoch (next_esn q)) 0) y.1);
        });
      }

  activated : (name : List ℕ) (l : ℕ) (r : Register) → Told (Step.activated_as c s name l r (epochs_of r l).epoch (lce_of r l))
  unfolding Told
  activated name l r t n (inl i) = absurd cc
  activated name l r t n (inr i) = absurd i

  append_cases : Cases c s e (λ d m. Told d)
  append_cases = record {
    still = λ f older i. others OfNodes _ (λ h. cc) (none_of OfNodes);
    says = λ x q. quiets _ (quiet_one x q);
    node_hears = λ f older n m i t v o. handled f (Step.releases (node_at s n) m.log m.body) n m (Step.node_handles n (node_at s n) m).op (Step.node_handles n (node_at s n) m).answer;
    loads = λ n ls q a o. quiets _ q;
    draw_fails = λ n a. others OfNodes _ (λ h. cc) (one_of (lines.NodeRefusedRegister n));
    formats = λ n r g a v i. others OfNodes _ (λ h. cc) (kept_of n (Step.format_lines c n r) (keep_end (node_at (with_register (loaded s n) r) n) (ops.Format (generation_of r n) (epochs_in r.logs))) (format_of c n r));
    ticks = λ n l t v i o. ticked n l t;
    stops = λ n a. others OfNodes _ (λ h. cc) (one_of (lines.NodeDown n));
    wipes = λ n. others OfNodes _ (λ h. cc) (one_of (lines.NodeWiped n));
    faults = λ n f o. others OfNodes _ (λ h. cc) (none_of OfNodes);
    sets = λ l r x set h. others OfSets _ (λ q. cc) (one_of (lines.Set l r x set));
    arms = λ k done o. others OfNodes _ (λ h. cc) (none_of OfNodes);
    hears = λ f older name q m i t l v o. others OfActs _ (λ h. cc) (acted_of name q (called (looks_at c s.register q.log) s.register (on_reply (looks_at c s.register q.log) q (Step.sender_node m.from) m.body) (on_reply (looks_at c s.register q.log) q (Step.sender_node m.from) m.body).tries).acts);
    retries = λ again name q v o. others OfActs _ (λ h. cc) (acted_of name q (announced again (retry_call c s q)).acts);
    appends = λ name q p v a i. appends name q p v;
    trims = λ name q t v a. others OfTrims _ (λ h. cc) (one_of (lines.Trimmed name t));
    drops = λ name q v o. others OfNodes _ (λ h. cc) (none_of OfNodes);
    activates = λ name l r g n i x. activated name l r;
    swaps = λ n m l x r q i. quiets _ (quiet_one x q);
    activate_fails = λ name l x g q. quiets _ (quiet_one x q);
    answers = λ f older name d m i t v o. others OfItems _ (λ h. cc) (items_of _ name _ _);
    polls = λ name d v o. others OfNodes _ (λ h. cc) (none_of OfNodes);
    opens = λ style name l from until o x. others OfNodes _ (λ h. cc) (none_of OfNodes);
  }

-- ---- along a run ----
abbrev pub AllSent : List Happened → World → Type 0
AllSent hs w = (l n k : ℕ) (name : List ℕ) → Writes hs k (lines.Appended name n) → OfLog hs l name → StoreSent w.state.network.sent l n

sent_later : (ms ns : List Msg) (l n : ℕ) → ((m : Msg) → In m ms → In m ns) → StoreSent ms l n → StoreSent ns l n
sent_later ms ns l n into h = record { node = h.node; lng = h.lng; what = h.what; there = into _ h.there }

-- a name that appended has a log
known_log : (hs : List Happened) (name : List ℕ) (n k : ℕ) (o : Option Sequencer) → CountedBy hs name o → Writes hs k (lines.Appended name n) → (l : ℕ) × OfLog hs l name
known_log hs name n k None h w = absurd (h.silent n k w)
known_log hs name n k (Some q) h w = (q.log, h.known)

same_log : (hs : List Happened) (l k : ℕ) (name : List ℕ) → OfLog hs l name → OfLog hs k name → l ≡ k
same_log hs l k name a b = Some_inj (sym a ∙ b)

sent_step : (c : Config) → IsInBounds c → (hs : List Happened) (w : World) (e : Move) → BaseGiven c hs w × Along c hs w → SetsFine w.state → AllSent hs w → AllSent (hs ++ step_happened c w.state e ∷ []) (after_step c w e)
unfolding Told
sent_step c b hs w e B A S l n k name x o = elim (writes_cases hs (step_happened c w.state e) k _ x) [
  | inl a ↦
      let z = known_log hs name n k (find_named name w.state.sequencers) (B.0.0.0.1.counted name) a in
      let q : z.0 ≡ l = same_log (hs ++ step_happened c w.state e ∷ []) z.0 l name (of_log_grows hs w.state.register e (Calm.moves c w.state e) z.0 name z.1) o in
      sent_later w.state.network.sent _ l n (into_after c hs w e B.0.0 B.0.1 B.1) (S l n k name a (subst (λ y. OfLog hs y name) q z.1))
  | inr a ↦
      let t = dispatch c w.state e (λ d m. Told c w.state e fine small d) B.0.0.0.0 (append_cases c w.state e fine small) name n (line_of (Calm.moves c w.state e) (lines.Appended name n) (λ h. cc) a.1) in
      let z = (counts_of c hs w B.0.0 name t.sequencer t.named).known in
      let q : t.sequencer.log ≡ l = same_log (hs ++ step_happened c w.state e ∷ []) t.sequencer.log l name (of_log_grows hs w.state.register e (Calm.moves c w.state e) t.sequencer.log name z) o in
      subst (λ y. StoreSent (finish (Calm.moves c w.state e)).state.network.sent y n) q (sent_later (Calm.moves c w.state e).sends _ t.sequencer.log n (sent_now (Calm.moves c w.state e)) t.sent)
] where
  fine : (name : List ℕ) (q : Sequencer) → find_named name w.state.sequencers ≡ Some q → SpecFine q.spec
  fine name q f = let k = B.1.acks name q f in subst SpecFine (sym k.spec) (fixed_fine c b w.state.register q.log q.epoch A.1 k.kept k.reached)

  small : (name : List ℕ) (q : Sequencer) → find_named name w.state.sequencers ≡ Some q → next_esn q ≤ last_esn
  small name q f = (counts_of c hs w B.0.0 name q f).small

pub sending_kept : (c : Config) → IsInBounds c → Keeps c (λ hs w. (BaseGiven c hs w × Along c hs w) × (AllSent hs w × SetsFine w.state))
sending_kept c b = beside_kept c (λ hs w. BaseGiven c hs w × Along c hs w) (λ hs w. AllSent hs w × SetsFine w.state) (along_kept c) ((λ l n k name x. absurd (not_none x.1)), start_fine c)
    (λ hs w e B C S. (sent_step c b hs w e B S.1 S.0, fine_step c b w.state e B.0.0.0.0 S.1))
