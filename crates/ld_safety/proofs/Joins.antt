-- The nodes that swaps put into closed epochs: as many nodes with a property that each of them has are in an epoch as were fixed for it, and they don't serve the epoch any more.
use Rattle.std.proofs.Common.{◌≡◌, ◌∙◌, ◌⊎◌, ◌≤◌, ◌<◌, ◌+◌, ℕ, inl, inr, refl, ap, sym, subst, Bool, true, false, ◌&&◌, ◌==◌, nat_lt, nat_le, List, [], ◌∷◌, ◌++◌, Option, Some, None, arith}
use Rattle.std.specs.Option.{unwrap_or}
use Rattle.std.proofs.lemmas.Bool.{and_parts, and_from, or_left, or_right, or_cases, eqb-true, eq-eqb, leb-true, ltb-true, ltb-false}
use Rattle.ld_table.specs.Table.{find}
use Rattle.ld_table.proofs.Laws.{put_cases, find-put_other}
use Rattle.ld_table.specs.Words.{how_many, any_of}
use Rattle.ld_ids.specs.declared.set.Spec.{Spec}
use Rattle.ld_ids.specs.Choice.{nodes_of}
use Rattle.ld_config.specs.declared.config.Config.{Config}
use Rattle.ld_schedule.specs.declared.event.Event.{Event}
use Rattle.ld_schedule.specs.declared.event.Event.TheVariants as events
use Rattle.ld_msg.specs.declared.msg.Msg.{Msg}
use Rattle.ld_msg.specs.declared.msg.Body.{Body}
use Rattle.ld_msg.specs.Register.{Register, Epochs, View, Changed, epochs_of, no_epochs, with_epochs, next_epoch, closed_epochs, swapped_epochs, swaps_in, closed_upto, Granted, activate, close, draw, swappable, Answer, AtLimit, Behind, Overtaken, Fails}
use Rattle.ld_msg.specs.Sequencer.{Acts, Attempt, called, on_reply, on_retry}
use Rattle.ld_op.specs.declared.op.Op.{Op}
use Rattle.ld_op.specs.Plain.{Plain, log_of}
use Rattle.ld_op.specs.Ticks.{Ticked, Cleans, Rebuilt, Asks, Nothing}
use Rattle.ld_machine.specs.Config.{has_node, first_spec, fixed_of, fixed_at, spec_of, set_at, looks_at}
use Rattle.ld_machine.specs.Disk.{Node}
use Rattle.ld_machine.specs.State.{State, Done, node_at, with_node, finish, unchanged}
use Rattle.ld_machine.specs.Step as Step
use Rattle.ld_machine.specs.World.{World, Made, Joined, In, MayHold, begin, joined_on, joins_there, swaps_there}
use Rattle.ld_machine.specs.Run.{after_step}
use Rattle.ld_safety.proofs.Lists.{cond_both, not_none}
use Rattle.ld_safety.proofs.Events.{NamesOnce, Cases, Replaces, dispatch, refreshed, swapped_by}
use Rattle.ld_safety.proofs.RegisterSteps.{Same, Swapped_as, activate_leaves, activated_epochs, close_leaves, draw_leaves, swap_leaves, epochs_put, epochs_same}
use Rattle.ld_safety.proofs.Registers.{Reached, Up, EachClosed, now_found, spec_found, reached_later}
use Rattle.ld_safety.proofs.Swaps.{find-swapped, then_swapped, swapped_count, swapped_members, Like}
use Rattle.ld_safety.proofs.HoldSteps.{UpFine}
use Rattle.ld_safety.proofs.LostUnserved.{AllUnserved, unserved_step}
use Rattle.ld_safety.proofs.LostFullKept.{FullNode}
use Rattle.ld_safety.proofs.Fallen.{AllFallen, fallen_step}
use Rattle.ld_machine.specs.Calm as Calm
use Rattle.ld_machine.specs.Calm.{Move, Takes, event_of}

-- ---- what a step makes of the tables ----

-- what is found is the same, or an epoch was handed out
abbrev pub Pair : Option Spec → Option Spec → Option Spec → Option Spec → Type 0
Pair a b c d = ((c ≡ a) × (d ≡ b)) ⊎ ((p : Spec) × (c ≡ Some p) × (d ≡ Some p))

pub record Kept (x z : Epochs) : Type 0 where
  pub swaps : z.swaps ≡ x.swaps
  pub old : (e : ℕ) → e ≤ x.epoch → find e z.swapped ≡ find e x.swapped
  pub found : (e : ℕ) → Pair (find e x.specs) (find e x.swapped) (find e z.specs) (find e z.swapped)

kept_same : (x : Epochs) → Kept x x
kept_same x = record { swaps = refl; old = λ e u. refl; found = λ e. inl (refl, refl) }

kept_next : (x : Epochs) (p : Spec) → Kept x (next_epoch x p)
kept_next x p = record {
  swaps = refl;
  old = λ e u. find-put_other e (x.epoch + 1) p x.swapped (λ q. omega arith);
  found = λ e. elim (put_cases e (x.epoch + 1) p x.specs) [
    | inl a ↦ elim (put_cases e (x.epoch + 1) p x.swapped) [ inl b ↦ inr (p, a.1, b.1) | inr b ↦ absurd (b.0 a.0) ]
    | inr a ↦ elim (put_cases e (x.epoch + 1) p x.swapped) [ inl b ↦ absurd (a.0 b.0) | inr b ↦ inl (a.1, b.1) ]
  ];
}

abbrev pub AllKept : Register → Register → Type 0
AllKept r n = (l : ℕ) → Kept (epochs_of r l) (epochs_of n l)

kept_logs : (r n : Register) → n.logs ≡ r.logs → AllKept r n
kept_logs r n q l = subst (Kept (epochs_of r l)) (sym (ap (λ m. unwrap_or (find l m) no_epochs) q)) (kept_same (epochs_of r l))

kept_put : (r n : Register) (l : ℕ) (x : Epochs) → Same (with_epochs r l x) n → Kept (epochs_of r l) x → AllKept r n
kept_put r n l x s h k = elim (epochs_put r l k x) [
  | inl a ↦ subst (Kept (epochs_of r k)) (sym (epochs_same (with_epochs r l x) n k s ∙ a.1)) (subst (λ j. Kept (epochs_of r j) x) (sym a.0) h)
  | inr a ↦ subst (Kept (epochs_of r k)) (sym (epochs_same (with_epochs r l x) n k s ∙ a.1)) (kept_same (epochs_of r k))
]

-- a step that swaps nodes
pub record Swapping (c : Config) (s : State) (v : Move) (n : Register) : Type 0 where
  pub node : ℕ
  pub other : ℕ
  pub log : ℕ
  pub may : Replaces c s node other log
  pub event : v ≡ Takes (events.Replace node other log)
  pub made : Swapped_as s.register log (log_of (node_at s node).plain log).lost_to other node n

module _ (c : Config) (s : State) (v : Move) where
  abbrev pub Result : Done → List Made → Type 0
  Result d m = AllKept s.register d.state.register ⊎ Swapping c s v d.state.register

  same : (d : Done) → d.state.register ≡ s.register → AllKept s.register d.state.register ⊎ Swapping c s v d.state.register
  same d q = inl (kept_logs s.register d.state.register (ap (λ (r : Register). r.logs) q))

  by_call : (looks : ℕ → View) (a : Acts) (ts : List Attempt) → AllKept s.register (called looks s.register a ts).register
  by_call looks a [] = kept_logs s.register s.register refl
  by_call looks a (t ∷ ts) = let n = (close s.register a.sequencer.log t.epoch t.summary t.short).register in elim (close_leaves s.register a.sequencer.log t.epoch t.summary t.short) [
    | inl z ↦ kept_logs s.register n z.0
    | inr z ↦ kept_put s.register n a.sequencer.log (closed_epochs (epochs_of s.register a.sequencer.log) t.epoch t.summary) z.1 (record { swaps = refl; old = λ e u. refl; found = λ e. inl (refl, refl) })
  ]

  kept_here : AllKept s.register s.register
  kept_here = kept_logs s.register s.register refl

  drawn : (n : ℕ) → AllKept s.register (draw s.register n).register
  drawn n = elim (draw_leaves s.register n) [ inl a ↦ kept_logs s.register (draw s.register n).register a.0 | inr a ↦ kept_logs s.register (draw s.register n).register a.0 ]

  activated : (l : ℕ) → AllKept s.register (activate s.register l (Step.spec_set c s l)).register
  activated l = elim (activate_leaves s.register l (Step.spec_set c s l)) [
    | inl a ↦ kept_logs s.register (activate s.register l (Step.spec_set c s l)).register a.0
    | inr a ↦ kept_put s.register (activate s.register l (Step.spec_set c s l)).register l (next_epoch (epochs_of s.register l) (Step.spec_set c s l)) a.1 (kept_next (epochs_of s.register l) (Step.spec_set c s l))
  ]

  handled : (f : List ℕ) (n : ℕ) (m : Msg) (x : Node) (o : Option Op) (b : Option Body) → Result (Step.handles (with_node (refreshed s f) n x) n m o b) []
  handled f n m x None b = same (Step.handles (with_node (refreshed s f) n x) n m None b) refl
  handled f n m x (Some o) b = same (Step.handles (with_node (refreshed s f) n x) n m (Some o) b) refl

  ticked : (n l : ℕ) (t : Ticked) → Result (Step.ticks_as c s n l t) []
  ticked n l (Cleans k y) = same (Step.ticks_as c s n l (Cleans k y)) refl
  ticked n l Rebuilt = same (Step.ticks_as c s n l Rebuilt) refl
  ticked n l (Asks from) = same (Step.ticks_as c s n l (Asks from)) refl
  ticked n l Nothing = same (Step.ticks_as c s n l Nothing) refl

  result_cases : Cases c s v Result
  result_cases = record {
    still = λ f older i. inl kept_here;
    says = λ x q. inl kept_here;
    node_hears = λ f older n m i t u o. handled f n m (Step.releases (node_at s n) m.log m.body) (Step.node_handles n (node_at s n) m).op (Step.node_handles n (node_at s n) m).answer;
    loads = λ n ls q b o. inl kept_here;
    draw_fails = λ n b. inl (drawn n);
    formats = λ n r g b u i. inl (subst (λ (d : Changed). AllKept s.register d.register) i (drawn n));
    ticks = λ n l t u i o. ticked n l t;
    stops = λ n b. inl kept_here;
    wipes = λ n. inl kept_here;
    faults = λ n f o. inl kept_here;
    sets = λ l r x set h. inl kept_here;
    swaps = λ n m l x r q i. elim (swap_leaves s.register l (log_of (node_at s n).plain l).lost_to m n) [
      | inl a ↦ inl (kept_logs s.register (swapped_by s n m l).register a.0)
      | inr a ↦ inr (record { node = n; other = m; log = l; may = r; event = i; made = a })
    ];
    arms = λ k done o. inl (kept_logs s.register (Step.armed s.register k done) refl);
    hears = λ f older name q m i t l u o. inl (by_call (looks_at c s.register q.log) (on_reply (looks_at c s.register q.log) q (Step.sender_node m.from) m.body) _);
    retries = λ again name q u o. inl (by_call (looks_at c s.register q.log) (on_retry (looks_at c s.register q.log) q) _);
    appends = λ name q p u a i. inl kept_here;
    trims = λ name q t u b. inl kept_here;
    drops = λ name q u o. inl kept_here;
    activates = λ name l r g n i x. inl (subst (λ (d : Changed). AllKept s.register d.register) i (activated l));
    activate_fails = λ name l x g q. inl (activated l);
    answers = λ f older name d m i t u o. inl kept_here;
    polls = λ name d u o. inl kept_here;
    opens = λ style name l from until o x. inl kept_here;
  }

  pub swap_or_kept : NamesOnce s → AllKept s.register (Calm.moves c s v).state.register ⊎ Swapping c s v (Calm.moves c s v).state.register
  swap_or_kept N = dispatch c s v Result N result_cases

-- the count of swaps doesn't fall, and where it stays the sets stay
pub record CountStep (c : Config) (r n : Register) (l : ℕ) : Type 0 where
  pub rises : (epochs_of r l).swaps ≤ (epochs_of n l).swaps
  pub same : (epochs_of n l).swaps ≡ (epochs_of r l).swaps → (e : ℕ) → Reached r l e → set_at c n l e ≡ set_at c r l e

pub counts_step : (c : Config) (s : State) (v : Move) → NamesOnce s → Up s.register (Calm.moves c s v).state.register → (l : ℕ) → CountStep c s.register (Calm.moves c s v).state.register l
counts_step c s v N U l = elim (swap_or_kept c s v N) [ inl a ↦ by_kept (a l) | inr k ↦ by_swap k (epochs_put s.register k.log l (swapped_epochs (epochs_of s.register k.log) (log_of (node_at s k.node).plain k.log).lost_to k.other k.node)) ] where
  n : Register
  n = (Calm.moves c s v).state.register

  shown : (e : ℕ) → Reached s.register l e → find e (epochs_of n l).swapped ≡ find e (epochs_of s.register l).swapped → set_at c n l e ≡ set_at c s.register l e
  shown e h q = ap (λ (p : Spec). nodes_of p) (now_found c n l e (reached_later s.register n l e U h) ∙ (ap (λ o. unwrap_or o (first_spec c l)) q ∙ sym (now_found c s.register l e h)))

  by_kept : Kept (epochs_of s.register l) (epochs_of n l) → CountStep c s.register n l
  by_kept a = record { rises = let z = a.swaps in omega arith; same = λ q e h. shown e h (a.old e h.1) }

  by_swap : (k : Swapping c s v (Calm.moves c s v).state.register) → let x = swapped_epochs (epochs_of s.register k.log) (log_of (node_at s k.node).plain k.log).lost_to k.other k.node in ((l ≡ k.log) × (epochs_of (with_epochs s.register k.log x) l ≡ x)) ⊎ ((l ≡ k.log → ⊥) × (epochs_of (with_epochs s.register k.log x) l ≡ epochs_of s.register l)) → CountStep c s.register n l
  by_swap k (inl a) = let x = swapped_epochs (epochs_of s.register k.log) (log_of (node_at s k.node).plain k.log).lost_to k.other k.node in
      let z : (epochs_of n l).swaps ≡ (epochs_of s.register k.log).swaps + 1 = ap (λ (y : Epochs). y.swaps) (epochs_same (with_epochs s.register k.log x) n l k.made ∙ a.1) in
      let y : (epochs_of s.register l).swaps ≡ (epochs_of s.register k.log).swaps = ap (λ j. (epochs_of s.register j).swaps) a.0 in
      record { rises = omega arith; same = λ q e h. absurd (omega arith) }
  by_swap k (inr a) = let x = swapped_epochs (epochs_of s.register k.log) (log_of (node_at s k.node).plain k.log).lost_to k.other k.node in
      let z : epochs_of n l ≡ epochs_of s.register l = epochs_same (with_epochs s.register k.log x) n l k.made ∙ a.1 in
      record { rises = let y = ap (λ (w : Epochs). w.swaps) z in omega arith; same = λ q e h. shown e h (ap (λ (w : Epochs). find e w.swapped) z) }

-- a swap leaves readers
pub swap_readers : (c : Config) (s : State) (n other l : ℕ) → (Step.happens c s (events.Replace n other l)).state.readers ≡ s.readers
unfolding Step.happens
swap_readers c s n other l = cond_both (has_node c n && Step.can_replace c s n other l) (Step.replaces s n other l (log_of (node_at s n).plain l).lost_to) (unchanged s) (λ (d : Done). d.state.readers ≡ s.readers) (λ t. by_answer (swapped_by s n other l).answer) (λ t. refl) where
  by_answer : (a : Answer) → (Step.replaces_by s n other l (swappable s.register l (log_of (node_at s n).plain l).lost_to other n) (swapped_by s n other l).register a).state.readers ≡ s.readers
  by_answer Granted = cond_both (swappable s.register l (log_of (node_at s n).plain l).lost_to other n == 0) (unchanged s) _ (λ (d : Done). d.state.readers ≡ s.readers) (λ t. refl) (λ t. refl)
  by_answer AtLimit = refl
  by_answer (Behind lce) = refl
  by_answer (Overtaken k) = refl
  by_answer Fails = refl

-- ---- who joined ----

abbrev pub Joins : List Joined → ℕ → ℕ → ℕ → Type 0
Joins js l e y = any_of (joins_there l e y) js ≡ true

pub joins_more : (ms js : List Joined) (l e y : ℕ) → Joins js l e y → Joins (ms ++ js) l e y
joins_more [] js l e y h = h
joins_more (m ∷ ms) js l e y h = or_right (joins_there l e y m) (any_of (joins_there l e y) (ms ++ js)) (joins_more ms js l e y h)

joins_split : (ms js : List Joined) (l e y : ℕ) → Joins (ms ++ js) l e y → Joins ms l e y ⊎ Joins js l e y
joins_split [] js l e y h = inr h
joins_split (m ∷ ms) js l e y h = elim (or_cases (joins_there l e y m) (any_of (joins_there l e y) (ms ++ js)) h) [
  | inl a ↦ inl (or_left (joins_there l e y m) (any_of (joins_there l e y) ms) a)
  | inr a ↦ elim (joins_split ms js l e y a) [ inl b ↦ inl (or_right (joins_there l e y m) (any_of (joins_there l e y) ms) b) | inr b ↦ inr b ]
]

-- a step that swaps nothing lets nobody join
kept_joined : (s t : State) (v : Event) → AllKept s.register t.register → joined_on s t v ≡ []
kept_joined s t (events.Replace n other l) h = cond_both (nat_lt (epochs_of s.register l).swaps (epochs_of t.register l).swaps) _ [] (λ (z : List Joined). z ≡ []) (λ u. absurd (let a = ltb-true _ _ u in let b = (h l).swaps in omega arith)) (λ u. refl)
kept_joined s t _ h = refl

abbrev one_swap : Register → ℕ → ℕ → ℕ → ℕ → Joined
one_swap r l upto old new = record { log = l; upto = closed_upto (epochs_of r l) upto; old = old; new = new; before = (epochs_of r l).swapped }

swapped_joined : (c : Config) (s t : State) (v : Move) (k : Swapping c s v t.register) → joined_on s t (event_of v) ≡ one_swap s.register k.log (log_of (node_at s k.node).plain k.log).lost_to k.other k.node ∷ []
swapped_joined c s t v k = ap (joined_on s t) (ap event_of k.event) ∙ cond_both (nat_lt (epochs_of s.register k.log).swaps (epochs_of t.register k.log).swaps) _ [] (λ (z : List Joined). z ≡ one_swap s.register k.log (log_of (node_at s k.node).plain k.log).lost_to k.other k.node ∷ []) (λ u. refl)
    (λ u. absurd (let a = ltb-false _ _ u in let b = more in omega arith)) where
      now : epochs_of t.register k.log ≡ swapped_epochs (epochs_of s.register k.log) (log_of (node_at s k.node).plain k.log).lost_to k.other k.node
      now = epochs_same (with_epochs s.register k.log (swapped_epochs (epochs_of s.register k.log) (log_of (node_at s k.node).plain k.log).lost_to k.other k.node)) t.register k.log k.made ∙ elim (epochs_put s.register k.log k.log (swapped_epochs (epochs_of s.register k.log) (log_of (node_at s k.node).plain k.log).lost_to k.other k.node)) [ inl a ↦ a.1 | inr a ↦ absurd (a.0 refl) ]

      more : (epochs_of t.register k.log).swaps ≡ (epochs_of s.register k.log).swaps + 1
      more = ap (λ (x : Epochs). x.swaps) now

-- ---- sets follow ----

abbrev pub nodes_in : Option Spec → List ℕ
nodes_in None = []
nodes_in (Some p) = nodes_of p

-- of the nodes with a property that each node has which joined there are no fewer in an epoch than were fixed, and each node was fixed or joined
pub record FollowAt (js : List Joined) (l e : ℕ) (fixed now : Option Spec) : Type 0 where
  pub count : (p : ℕ → Bool) → ((y : ℕ) → Joins js l e y → p y ≡ true) → how_many p (nodes_in fixed) ≤ how_many p (nodes_in now)
  pub members : (y : ℕ) → In y (nodes_in now) → In y (nodes_in fixed) ⊎ Joins js l e y

abbrev pub SetsFollow : List Joined → Register → Type 0
SetsFollow js r = (l e : ℕ) → FollowAt js l e (find e (epochs_of r l).specs) (find e (epochs_of r l).swapped)

follow_more : (ms js : List Joined) (l e : ℕ) (f n : Option Spec) → FollowAt js l e f n → FollowAt (ms ++ js) l e f n
follow_more ms js l e f n h = record {
  count = λ p k. h.count p (λ y j. k y (joins_more ms js l e y j));
  members = λ y i. elim (h.members y i) [ inl a ↦ inl a | inr a ↦ inr (joins_more ms js l e y a) ];
}

follow_same : (js : List Joined) (l e : ℕ) (o : Option Spec) → FollowAt js l e o o
follow_same js l e o = record { count = λ p k. omega arith; members = λ y i. inl i }

follow_pair : (ms js : List Joined) (l e : ℕ) (a b x z : Option Spec) → Pair a b x z → FollowAt js l e a b → FollowAt (ms ++ js) l e x z
follow_pair ms js l e a b x z (inl q) h = subst (λ o. FollowAt (ms ++ js) l e o z) (sym q.0) (subst (FollowAt (ms ++ js) l e a) (sym q.1) (follow_more ms js l e a b h))
follow_pair ms js l e a b x z (inr q) h = subst (λ o. FollowAt (ms ++ js) l e o z) (sym q.1) (subst (FollowAt (ms ++ js) l e (Some q.0)) (sym q.2) (follow_same (ms ++ js) l e (Some q.0)))

-- an epoch in which a swap may have put a node
follow_swapped : (j : Joined) (js : List Joined) (l e : ℕ) (f n : Option Spec) → (nat_le e j.upto ≡ true → n ≡ find e j.before) → j.log ≡ l → FollowAt js l e f n → FollowAt (j ∷ js) l e f (then_swapped (nat_le e j.upto) j.old j.new n)
follow_swapped j js l e f None b q h = follow_more (j ∷ []) js l e f None h
follow_swapped j js l e f (Some p) b q h = by_low (nat_le e j.upto) refl where
  joined : nat_le e j.upto ≡ true → swaps_in j.old j.new p.set ≡ true → Joins (j ∷ js) l e j.new
  joined t u = or_left (joins_there l e j.new j) (any_of (joins_there l e j.new) js) (and_from _ _ (and_from _ _ (eq-eqb j.log l q) (eq-eqb j.new j.new refl)) (and_from _ _ t (subst (λ o. swaps_there j.old j.new o ≡ true) (b t) u)))

  by_low : (t : Bool) → nat_le e j.upto ≡ t → FollowAt (j ∷ js) l e f (then_swapped t j.old j.new (Some p))
  by_low false t = follow_more (j ∷ []) js l e f (Some p) h
  by_low true t = record {
    count = λ g k. let a = h.count g (λ y i. k y (joins_more (j ∷ []) js l e y i)) in let z = swapped_count g j.old j.new p (λ u. k j.new (joined t u)) in omega arith;
    members = λ y i. elim (swapped_members j.old j.new y p i) [
      | inl a ↦ (follow_more (j ∷ []) js l e f (Some p) h).members y a
      | inr a ↦ inr (subst (Joins (j ∷ js) l e) (sym a.0) (joined t a.1))
    ];
  }

pub follow_step : (c : Config) (w : World) (v : Move) → NamesOnce w.state → SetsFollow w.joined w.state.register → SetsFollow (after_step c w v).joined (after_step c w v).state.register
unfolding finish
follow_step c w v N H = elim (swap_or_kept c w.state v N) [ inl a ↦ kept a | inr a ↦ swapped a ] where
  r : Register
  r = w.state.register

  n : Register
  n = (Calm.moves c w.state v).state.register

  ms : List Joined
  ms = joined_on w.state (finish (Calm.moves c w.state v)).state (event_of v)

  kept : AllKept w.state.register (Calm.moves c w.state v).state.register → SetsFollow (ms ++ w.joined) (Calm.moves c w.state v).state.register
  kept k l e = follow_pair ms w.joined l e _ _ _ _ ((k l).found e) (H l e)

  swapped : Swapping c w.state v (Calm.moves c w.state v).state.register → SetsFollow (ms ++ w.joined) (Calm.moves c w.state v).state.register
  swapped k l e = subst (λ (js : List Joined). FollowAt (js ++ w.joined) l e (find e (epochs_of n l).specs) (find e (epochs_of n l).swapped)) (sym (swapped_joined c w.state (finish (Calm.moves c w.state v)).state v k)) (elim (epochs_put r k.log l x) [
    | inl a ↦ subst (λ (z : Epochs). FollowAt (one ∷ w.joined) l e (find e z.specs) (find e z.swapped)) (sym (epochs_same (with_epochs r k.log x) n l k.made ∙ a.1)) (subst (λ j. FollowAt (one ∷ w.joined) j e (find e x.specs) (find e x.swapped)) (sym a.0)
        (subst (FollowAt (one ∷ w.joined) k.log e (find e x.specs)) (sym (find-swapped one.upto k.other k.node e (epochs_of r k.log).swapped)) (follow_swapped one w.joined k.log e (find e x.specs) (find e (epochs_of r k.log).swapped) (λ t. refl) refl (H k.log e))))
    | inr a ↦ subst (λ (z : Epochs). FollowAt (one ∷ w.joined) l e (find e z.specs) (find e z.swapped)) (sym (epochs_same (with_epochs r k.log x) n l k.made ∙ a.1)) (follow_more (one ∷ []) w.joined l e _ _ (H l e))
  ]) where
    one : Joined
    one = one_swap w.state.register k.log (log_of (node_at w.state k.node).plain k.log).lost_to k.other k.node

    x : Epochs
    x = swapped_epochs (epochs_of w.state.register k.log) (log_of (node_at w.state k.node).plain k.log).lost_to k.other k.node

pub start_follow : (c : Config) → SetsFollow [] (begin c).state.register
unfolding find
start_follow c l e = follow_same [] l e None

-- ---- what holds of a node that joined ----

pub record JoinedAt (r : Register) (x : Node) (l e : ℕ) : Type 0 where
  pub reached : Reached r l e
  pub fallen : AllFallen x l e
  pub unserved : AllUnserved x l e

abbrev pub JoinedFine : List Joined → State → Type 0
JoinedFine js s = (l e y : ℕ) → Joins js l e y → JoinedAt s.register (node_at s y) l e

module _ (c : Config) (w : World) (v : Move) (N : NamesOnce w.state) (U : Up w.state.register (after_step c w v).state.register) (E : EachClosed w.state.register) (ups : (y : ℕ) → UpFine (node_at w.state y)) (full : (y : ℕ) → FullNode (node_at w.state y)) where
  -- one that joins now is up, and has all of the epoch
  new_joined : (k : Swapping c w.state v (Calm.moves c w.state v).state.register) (l e y : ℕ) → Joins (one_swap w.state.register k.log (log_of (node_at w.state k.node).plain k.log).lost_to k.other k.node ∷ []) l e y → JoinedAt w.state.register (node_at w.state y) l e
  new_joined k l e y h = subst (λ z. JoinedAt w.state.register (node_at w.state z) l e) node (subst (λ j. JoinedAt w.state.register (node_at w.state k.node) j e) log here) where
    j : Joined
    j = one_swap w.state.register k.log (log_of (node_at w.state k.node).plain k.log).lost_to k.other k.node

    p : ((k.log == l) && (k.node == y)) ≡ true × ((nat_le e j.upto && swaps_there k.other k.node (find e j.before)) ≡ true)
    p = and_parts _ _ (elim (or_cases (joins_there l e y j) false h) [ inl a ↦ a | inr a ↦ absurd cc ])

    log : k.log ≡ l
    log = eqb-true _ _ (and_parts (k.log == l) (k.node == y) p.0).0

    node : k.node ≡ y
    node = eqb-true _ _ (and_parts (k.log == l) (k.node == y) p.0).1

    low : e ≤ j.upto
    low = leb-true e j.upto (and_parts (nat_le e j.upto) (swaps_there k.other k.node (find e j.before)) p.1).0

    found : (o : Option Spec) → find e (epochs_of w.state.register k.log).swapped ≡ o → swaps_there k.other k.node o ≡ true → (q : Spec) × (find e (epochs_of w.state.register k.log).specs ≡ Some q)
    found None q t = absurd cc
    found (Some s) q t = by_like (find e (epochs_of w.state.register k.log).specs) refl (find e (epochs_of w.state.register k.log).swapped) q ((E k.log).like e) where
      by_like : (o : Option Spec) → find e (epochs_of w.state.register k.log).specs ≡ o → (m : Option Spec) → m ≡ Some s → Like o m → (q : Spec) × (find e (epochs_of w.state.register k.log).specs ≡ Some q)
      by_like None u None z g = absurd (not_none z)
      by_like None u (Some b) z g = absurd g
      by_like (Some a) u m z g = (a, u)

    reached : Reached w.state.register k.log e
    reached = let z = found (find e j.before) refl (and_parts (nat_le e j.upto) (swaps_there k.other k.node (find e j.before)) p.1).1 in (E k.log).low e z.0 z.1

    one_plain : (q : Plain) → MayHold (node_at w.state k.node) q → q ≡ (node_at w.state k.node).plain
    one_plain q (inl i) = i
    one_plain q (inr i) = absurd (let z : None ≡ Some i.0 = sym (ups k.node k.may.up).0 ∙ i.1 in not_none z)

    here : JoinedAt w.state.register (node_at w.state k.node) k.log e
    here = record {
      reached = reached;
      fallen = λ q i. inr (subst (λ z. e ≤ (log_of z k.log).lost_to) (sym (one_plain q i)) (let a = low in omega arith));
      unserved = λ q i. inr (inr ((full k.node q i k.log).clean (subst (λ z. (log_of z k.log).lost ≡ false) (sym (one_plain q i)) k.may.whole) e reached.0 (subst (λ z. e ≤ (log_of z k.log).lost_to) (sym (one_plain q i)) (let a = low in omega arith))));
    }

  later : (l e y : ℕ) → JoinedAt w.state.register (node_at w.state y) l e → JoinedAt (after_step c w v).state.register (node_at (after_step c w v).state y) l e
  later l e y h = record {
    reached = reached_later w.state.register (after_step c w v).state.register l e U h.reached;
    fallen = fallen_step c w v N y l e h.reached.0 h.reached.1 h.fallen;
    unserved = unserved_step c w v N y l e h.reached.0 h.reached.1 h.unserved;
  }

  pub joined_step : JoinedFine w.joined w.state → JoinedFine (after_step c w v).joined (after_step c w v).state
  unfolding finish
  joined_step H l e y h = elim (joins_split (joined_on w.state (finish (Calm.moves c w.state v)).state (event_of v)) w.joined l e y h) [
    | inr a ↦ later l e y (H l e y a)
    | inl a ↦ elim (swap_or_kept c w.state v N) [
      | inl k ↦ absurd (let z : any_of (joins_there l e y) [] ≡ true = subst (λ (js : List Joined). any_of (joins_there l e y) js ≡ true) (kept_joined w.state (finish (Calm.moves c w.state v)).state (event_of v) k) a in cc)
      | inr k ↦ later l e y (new_joined k l e y (subst (λ (js : List Joined). Joins js l e y) (swapped_joined c w.state (finish (Calm.moves c w.state v)).state v k) a))
    ]
  ]

-- who is there joined before, where the log's count of swaps stays
pub joins_back : (c : Config) (w : World) (v : Move) → NamesOnce w.state → (l e y : ℕ) → (epochs_of (after_step c w v).state.register l).swaps ≡ (epochs_of w.state.register l).swaps → Joins (after_step c w v).joined l e y → Joins w.joined l e y
unfolding finish
joins_back c w v N l e y q h = elim (joins_split (joined_on w.state (finish (Calm.moves c w.state v)).state (event_of v)) w.joined l e y h) [
  | inr a ↦ a
  | inl a ↦ elim (swap_or_kept c w.state v N) [
    | inl k ↦ absurd (let z : any_of (joins_there l e y) [] ≡ true = subst (λ (js : List Joined). any_of (joins_there l e y) js ≡ true) (kept_joined w.state (finish (Calm.moves c w.state v)).state (event_of v) k) a in cc)
    | inr k ↦ absurd (by_swap k (subst (λ (js : List Joined). Joins js l e y) (swapped_joined c w.state (finish (Calm.moves c w.state v)).state v k) a))
  ]
] where
  n : Register
  n = (Calm.moves c w.state v).state.register

  by_swap : (k : Swapping c w.state v (Calm.moves c w.state v).state.register) → Joins (one_swap w.state.register k.log (log_of (node_at w.state k.node).plain k.log).lost_to k.other k.node ∷ []) l e y → ⊥
  by_swap k b =
      let x = swapped_epochs (epochs_of w.state.register k.log) (log_of (node_at w.state k.node).plain k.log).lost_to k.other k.node in
      let p : ((k.log == l) && (k.node == y)) ≡ true × _ = and_parts _ _ (elim (or_cases (joins_there l e y (one_swap w.state.register k.log (log_of (node_at w.state k.node).plain k.log).lost_to k.other k.node)) false b) [ inl z ↦ z | inr z ↦ absurd cc ]) in
      let log : k.log ≡ l = eqb-true _ _ (and_parts (k.log == l) (k.node == y) p.0).0 in
      let now : epochs_of n k.log ≡ x = epochs_same (with_epochs w.state.register k.log x) n k.log k.made ∙ elim (epochs_put w.state.register k.log k.log x) [ inl z ↦ z.1 | inr z ↦ absurd (z.0 refl) ] in
      let more : (epochs_of n k.log).swaps ≡ (epochs_of w.state.register k.log).swaps + 1 = ap (λ (z : Epochs). z.swaps) now in
      let same : (epochs_of n k.log).swaps ≡ (epochs_of w.state.register k.log).swaps = subst (λ j. (epochs_of n j).swaps ≡ (epochs_of w.state.register j).swaps) (sym log) q in
      omega arith

-- ---- of a log's epochs ----

-- what a look shows of an epoch that was handed out
pub shown_follows : (c : Config) (js : List Joined) (r : Register) (l e : ℕ) → SetsFollow js r → EachClosed r → Reached r l e → FollowAt js l e (Some (fixed_of c r l e)) (Some (spec_of c r l e))
shown_follows c js r l e H E h = subst (λ (p : Spec). FollowAt js l e (Some (fixed_of c r l e)) (Some p)) (sym (now_found c r l e h)) (subst (λ (p : Spec). FollowAt js l e (Some p) (Some (unwrap_or (find e (epochs_of r l).swapped) (first_spec c l)))) (sym (spec_found c r l e h)) (by_like (find e (epochs_of r l).specs) (find e (epochs_of r l).swapped) ((E l).like e) (H l e))) where
  by_like : (f n : Option Spec) → Like f n → FollowAt js l e f n → FollowAt js l e (Some (unwrap_or f (first_spec c l))) (Some (unwrap_or n (first_spec c l)))
  by_like None None u k = follow_same js l e (Some (first_spec c l))
  by_like None (Some q) u k = absurd u
  by_like (Some p) None u k = absurd u
  by_like (Some p) (Some q) u k = k

pub now_members : (c : Config) (js : List Joined) (r : Register) (l e y : ℕ) → SetsFollow js r → EachClosed r → Reached r l e → In y (set_at c r l e) → In y (fixed_at c r l e) ⊎ Joins js l e y
now_members c js r l e y H E h i = (shown_follows c js r l e H E h).members y i

pub now_count : (c : Config) (js : List Joined) (r : Register) (l e : ℕ) (p : ℕ → Bool) → SetsFollow js r → EachClosed r → Reached r l e → ((y : ℕ) → Joins js l e y → p y ≡ true) → how_many p (fixed_at c r l e) ≤ how_many p (set_at c r l e)
now_count c js r l e p H E h k = (shown_follows c js r l e H E h).count p k

-- of an epoch before the one that is handed out
pub activated_in : (c : Config) (js : List Joined) (r n : Register) (l e : ℕ) (p : Spec) → SetsFollow js r → EachClosed r → activate r l p ≡ record { register = n; answer = Granted } → 0 < e → e < (epochs_of n l).epoch → Reached r l e × ((y : ℕ) → In y (set_at c n l e) → In y (fixed_at c r l e) ⊎ Joins js l e y)
activated_in c js r n l e p H E i pos lt = (reached, λ y k. now_members c js r l e y H E reached (subst (λ (q : Spec). In y (nodes_of q)) same k)) where
  now : epochs_of n l ≡ next_epoch (epochs_of r l) p
  now = activated_epochs r l p n i

  low : e < (epochs_of r l).epoch + 1
  low = let z = ap (λ (x : Epochs). x.epoch) now in omega arith

  reached : Reached r l e
  reached = (pos, let z = low in omega arith)

  later : Reached n l e
  later = (pos, omega arith)

  found : find e (epochs_of n l).swapped ≡ find e (epochs_of r l).swapped
  found = ap (λ (x : Epochs). find e x.swapped) now ∙ find-put_other e ((epochs_of r l).epoch + 1) p (epochs_of r l).swapped (λ q. let z = low in omega arith)

  same : spec_of c n l e ≡ spec_of c r l e
  same = now_found c n l e later ∙ (ap (λ o. unwrap_or o (first_spec c l)) found ∙ sym (now_found c r l e reached))
