-- After a calm each node is clean in each epoch that was closed before it: a node ticks as long as that cleans an epoch, and the one tick that doesn't finds none that is closed and isn't clean.
use Rattle.std.proofs.Common.{◌≡◌, ◌∙◌, ◌⊎◌, ◌≤◌, ◌<◌, ℕ, inl, inr, refl, ap, sym, subst, true, false, ◌&&◌, ◌==◌, List, [], ◌∷◌, map, flat_map, Option, Some, None, is_some, arith}
use Rattle.std.proofs.lemmas.Bool.{cases_lt}
use Rattle.std.specs.Option.{unwrap_or}
use Rattle.ld_table.specs.Table.{find, put}
use Rattle.ld_table.proofs.Laws.{put_cases}
use Rattle.ld_ids.specs.declared.set.Spec.{Spec}
use Rattle.ld_config.specs.declared.config.Config.{Config}
use Rattle.ld_config.specs.Bounds.{IsInBounds}
use Rattle.ld_schedule.specs.declared.event.Event.TheVariants as events
use Rattle.ld_transcript.specs.declared.line.Line.TheVariants as lines
use Rattle.ld_msg.specs.declared.msg.Summary.{Summary}
use Rattle.ld_msg.specs.Register.{epochs_of, lce_of}
use Rattle.ld_msg.specs.Sequencer.{Sequencer}
use Rattle.ld_op.specs.declared.op.Op.{Op}
use Rattle.ld_op.specs.declared.op.Op.TheVariants as ops
use Rattle.ld_op.specs.Plain.{Plain, Log, log_of, empty_log, apply, with_log, summary_at, epoch_zero}
use Rattle.ld_op.specs.Ticks.{Ticked, Cleans, Rebuilt, Asks, Nothing, on_tick, tick_with, lowest_unclean}
use Rattle.ld_machine.specs.Config.{all_nodes, has_log}
use Rattle.ld_machine.specs.Disk.{keep_end, Written, is_up}
use Rattle.ld_machine.specs.State.{State, Done, finish, node_at}
use Rattle.ld_machine.specs.World.{In, begin}
use Rattle.ld_machine.specs.Run.{world_after}
use Rattle.ld_machine.specs.Step as Step
use Rattle.ld_machine.specs.Calm.{Move, Takes, Calms, Left, Announces, Settles, Ticks, Reads, Drains, Again, moves, moved, cleans, cleans_by, last_of, calms, calm_fuel, all_left, left_for}
use Rattle.ld_safety.proofs.Lists.{cond_both, In_left, In_right}
use Rattle.ld_safety.proofs.Members.{in_set}
use Rattle.ld_safety.proofs.Steps.{finish_In}
use Rattle.ld_safety.proofs.Registers.{follows}
use Rattle.ld_calm.proofs.Alike.{AllBy, delivers_by, polls_by, ticks_by, heals}
use Rattle.ld_op.proofs.Gaps.{gap_clean}
use Rattle.ld_calm.proofs.Noded.{gap_low}
use Rattle.ld_calm.proofs.Logs.{log_there}
use Rattle.ld_calm.proofs.InRun.{calm_ends_after}
use Rattle.ld_served.specs.Served.{AllWell, ClosedIsClean, NoLimit}
use Rattle.ld_served.proofs.Phases.{Parts, Unlimited, at_last}
use Rattle.ld_served.proofs.Stepping.{ticking, announcing}
use Rattle.ld_served.proofs.Well.{sound_written}
use Rattle.ld_served.proofs.Last.{last_is}
use Rattle.ld_served.proofs.Kept.{Good, good_delivers, good_ticks, good_polls, good_announces, good_first, after_steps, after_events, unlimited}

-- ---- epochs stay clean ----

-- each epoch that is clean stays so
pub record Grows (p q : Plain) : Type 0 where
  pub clean : (l e : ℕ) → is_some (find e (log_of p l).summaries) ≡ true → is_some (find e (log_of q l).summaries) ≡ true

grows_here : (p : Plain) → Grows p p
grows_here p = record { clean = λ l e h. h }

with_log_grows : (p : Plain) (j : ℕ) (g : Log) → ((e : ℕ) → is_some (find e (log_of p j).summaries) ≡ true → is_some (find e g.summaries) ≡ true) → Grows p (with_log p j g)
with_log_grows p j g f = record {
  clean = λ l e t. elim (put_cases l j g p.logs) [
    | inl a ↦ subst (λ (o : Option Log). is_some (find e (unwrap_or o empty_log).summaries) ≡ true) (sym a.1) (f e (subst (λ z. is_some (find e (log_of p z).summaries) ≡ true) a.0 t))
    | inr a ↦ subst (λ (o : Option Log). is_some (find e (unwrap_or o empty_log).summaries) ≡ true) (sym a.1) t
  ];
}

put_some : (k e : ℕ) (y : Summary) (ss : List (ℕ × Summary)) → is_some (find k ss) ≡ true → is_some (find k (put e y ss)) ≡ true
put_some k e y ss h = elim (put_cases k e y ss) [ inl a ↦ subst (λ (o : Option Summary). is_some o ≡ true) (sym a.1) refl | inr a ↦ subst (λ (o : Option Summary). is_some o ≡ true) (sym a.1) h ]

apply_grows : (p : Plain) (o : Op) → heals o ≡ false → Grows p (apply p o)
unfolding apply
apply_grows p (ops.Format g es) h = absurd cc
apply_grows p (ops.Accept l lng e) h = with_log_grows p l _ (λ e t. t)
apply_grows p (ops.Seal l b) h = with_log_grows p l _ (λ e t. t)
apply_grows p (ops.Clean l k y) h = with_log_grows p l _ (λ e t. put_some e k y (log_of p l).summaries t)
apply_grows p (ops.Trim l k) h = with_log_grows p l _ (λ e t. t)
apply_grows p (ops.Refill l es) h = with_log_grows p l _ (λ e t. t)
apply_grows p (ops.Refilled l) h = absurd cc

refilled_grows : (l : ℕ) (p : Plain) → Grows p (apply p (ops.Refilled l))
unfolding apply
refilled_grows l p = with_log_grows p l _ (λ e t. t)

-- clean in each epoch up to one
abbrev pub CleanTo : Log → ℕ → Type 0
CleanTo g k = (e : ℕ) → 0 < e → e ≤ k → is_some (find e g.summaries) ≡ true

-- ---- the tick that cleans nothing ----

-- a look finds nothing to clean
no_clean : (g : Log) (closed : List (ℕ × Summary)) (t : Ticked) → on_tick g closed ≡ t → ((k : ℕ) (y : Summary) → t ≡ Cleans k y → ⊥) → find (lowest_unclean g) closed ≡ None
unfolding on_tick
no_clean g closed t e n = by_found (find (lowest_unclean g) closed) refl e where
  by_found : (o : Option Summary) → find (lowest_unclean g) closed ≡ o → tick_with g o ≡ t → find (lowest_unclean g) closed ≡ None
  by_found None f h = f
  by_found (Some y) f h = absurd (n (lowest_unclean g) y (sym h))

module _ (c : Config) (s : State) (G : Good c s) (l n : ℕ) (log : has_log c l ≡ true) (node : In n (all_nodes c)) (none : cleans s n l ≡ false) where
  abbrev g : Log
  g = log_of (node_at s n).plain l

  -- so all closed epochs are clean
  all_clean : find (lowest_unclean g) (epochs_of s.register l).summaries ≡ None → CleanTo g (lce_of s.register l)
  all_clean f e p h = gap_clean 1 e g.summaries (omega arith) (elim (cases_lt e (lowest_unclean g)) [
    | inl a ↦ a
    | inr a ↦ absurd (let z = gap_low 1 g.summaries in (G.of_run.known.lined.0.1.each l).has (lowest_unclean g) (omega arith) (omega arith) f)
  ])

  Ends : Done → Type 0
  Ends d = ((m : ℕ) → In (lines.NodeFull m) d.lines → ⊥) → CleanTo g (lce_of s.register l)

  up : is_up (node_at s n).status ≡ true
  up = (G.healthy.nodes n node).up

  -- a tick that would clean does
  cleans_not : (t : Ticked) → on_tick g (epochs_of s.register l).summaries ≡ t → cleans_by (node_at s n) l t ≡ false
  cleans_not t e = ap (λ u. cleans_by (node_at s n) l u) (sym e) ∙ (ap (λ b. b && cleans_by (node_at s n) l (on_tick g (epochs_of s.register l).summaries)) (sym up) ∙ none)

  by_tick : (t : Ticked) → on_tick g (epochs_of s.register l).summaries ≡ t → Ends (Step.ticks_as c s n l t)
  unfolding Ends
  by_tick (Cleans k y) e u = absurd (
      let z = (G.healthy.nodes n node) in
      let w : keep_end (node_at s n) (ops.Clean l k y) ≡ Written = sound_written (node_at s n) (ops.Clean l k y) (record { up = z.up; none = z.sound }) (λ q. u n (subst (λ r. In (lines.NodeFull n) (Step.kept_lines n [] r)) (sym q) (inl refl))) in
      let v : true ≡ false = sym (ap Step.is_written w) ∙ cleans_not (Cleans k y) e in cc)
  by_tick Rebuilt e u = all_clean (no_clean g (epochs_of s.register l).summaries Rebuilt e (λ k y h. cc))
  by_tick (Asks from) e u = all_clean (no_clean g (epochs_of s.register l).summaries (Asks from) e (λ k y h. cc))
  by_tick Nothing e u = all_clean (no_clean g (epochs_of s.register l).summaries Nothing e (λ k y h. cc))

  pub last_tick : Unlimited (moved c s (Takes (events.Tick n l))).lines → CleanTo g (lce_of s.register l)
  unfolding Ends
  last_tick u = ticking c s n l (λ d. Ends d) (record {
    still = λ h. absurd (h (in_set n (all_nodes c) node) (ap (λ b. b && has_log c l) up ∙ log));
    ticks = λ t a v e. by_tick t e;
  }) (λ m i. u.journals m (finish_In (moves c s (Takes (events.Tick n l))) _ i))

-- ---- a step ----

-- each step of a calm leaves all epochs clean that are
module _ (c : Config) (s : State) where
  pub by_delivery : (i : ℕ) → AllBy Grows s (moved c s (Takes (events.Deliver i))).state
  by_delivery i = delivers_by Grows grows_here apply_grows c s i

  pub by_poll : (name : List ℕ) → AllBy Grows s (moved c s (Takes (events.Poll name))).state
  by_poll name = polls_by Grows grows_here apply_grows c s name

  pub by_ticking : (n l : ℕ) → AllBy Grows s (moved c s (Takes (events.Tick n l))).state
  by_ticking n l = ticks_by Grows grows_here apply_grows c s n l (refilled_grows l)

  pub by_retry : (l : ℕ) (q : List ℕ × Sequencer) → Good c s → last_of s l ≡ Some q → q.1.gone ≡ false → AllBy Grows s (moved c s (Calms q.0)).state
  unfolding finish
  by_retry l q G e g = announcing c s q.0 q.1 (λ d. AllBy Grows s d.state) (last_is s l q G.of_run.known.lined.0.0.0.0.0.0 e).named g (λ y. grows_here (node_at s y).plain)

-- ---- a whole calm ----

-- what is left to do has the node's ticks still, or it is clean
pub record Cleaned (c : Config) (k : ℕ → ℕ) (s : State) (ps : List Left) : Type 0 where
  pub good : Good c s
  pub closed : (l : ℕ) → k l ≤ lce_of s.register l
  pub nodes : (l n : ℕ) → has_log c l ≡ true → In n (all_nodes c) → In (Ticks l n) ps ⊎ CleanTo (log_of (node_at s n).plain l) (k l)

module _ (c : Config) (b : IsInBounds c) (k : ℕ → ℕ) where
  rises : (s : State) (m : Move) → Good c s → ((l : ℕ) → k l ≤ lce_of s.register l) → (l : ℕ) → k l ≤ lce_of (moved c s m).state.register l
  unfolding finish
  rises s m G h l = let z = ((follows c s m G.of_run.known.lined.0.0.0.0.0 G.of_run.known.lined.0.0.0.1.0).0 l).1 in let y = h l in omega arith

  -- with other parts, and after a step in which no node loses an epoch
  same_parts : (s : State) (ps qs : List Left) → ((l n : ℕ) → In (Ticks l n) ps → In (Ticks l n) qs) → Cleaned c k s ps → Cleaned c k s qs
  same_parts s ps qs f K = record { good = K.good; closed = K.closed; nodes = λ l n h i. elim (K.nodes l n h i) [ inl a ↦ inl (f l n a) | inr a ↦ inr a ] }

  step_on : (s : State) (m : Move) (ps : List Left) → Good c (moved c s m).state → AllBy Grows s (moved c s m).state → Cleaned c k s ps → Cleaned c k (moved c s m).state ps
  step_on s m ps G A K = record {
    good = G;
    closed = rises s m K.good K.closed;
    nodes = λ l n h i. elim (K.nodes l n h i) [ inl a ↦ inl a | inr a ↦ inr (λ e p u. (A n).clean l e (a e p u)) ];
  }

  behind : (p : Left) (ps : List Left) → ((l n : ℕ) → Ticks l n ≡ p → ⊥) → (l n : ℕ) → In (Ticks l n) (p ∷ ps) → In (Ticks l n) ps
  behind p ps f l n (inl e) = absurd (f l n e)
  behind p ps f l n (inr i) = i

  -- the last tick of a node for a log
  done : (s : State) (l n j m : ℕ) → Good c s → ((x : ℕ) → k x ≤ lce_of s.register x) → cleans s n l ≡ false → Unlimited (moved c s (Takes (events.Tick n l))).lines → Ticks j m ≡ Ticks l n → has_log c j ≡ true → In m (all_nodes c) → CleanTo (log_of (node_at s m).plain j) (k j)
  done s l n j m G C t u e h i =
      let a : j ≡ l = cc in let b : m ≡ n = cc in
      let z = last_tick c s G j m h i (subst (λ x. cleans s m x ≡ false) (sym a) (subst (λ x. cleans s x l ≡ false) (sym b) t)) (subst (λ x. Unlimited (moved c s (Takes (events.Tick m x))).lines) (sym a) (subst (λ x. Unlimited (moved c s (Takes (events.Tick x l))).lines) (sym b) u)) in
      λ x p v. z x p (let y = C j in omega arith)

  cleaned_parts : Parts c (λ s ps. Cleaned c k s ps)
  cleaned_parts = record {
    announced = λ s l ps q K e g u. step_on s (Calms q.0) ps (good_announces c b s K.good l q e g) (by_retry c s l q K.good e g) (same_parts s (Announces l ∷ ps) ps (behind (Announces l) ps (λ x y h. cc)) K);
    silent = λ s l ps K h. same_parts s (Announces l ∷ ps) ps (behind (Announces l) ps (λ x y h. cc)) K;
    settles = λ s l ps i K e u. step_on s (Takes (events.Deliver i)) (Settles l ∷ ps) (good_delivers c b s K.good i u) (by_delivery c s i) K;
    settled = λ s l ps K e. same_parts s (Settles l ∷ ps) ps (behind (Settles l) ps (λ x y h. cc)) K;
    cleaned = λ s l n ps K t u. step_on s (Takes (events.Tick n l)) (Ticks l n ∷ ps) (good_ticks c b s K.good n l u) (by_ticking c s n l) K;
    ticked = λ s l n ps K t u. step_on s (Takes (events.Tick n l)) ps (good_ticks c b s K.good n l u) (by_ticking c s n l) (record {
      good = K.good;
      closed = K.closed;
      nodes = λ j m h i. elim (K.nodes j m h i) [
        | inl (inl e) ↦ inr (done s l n j m K.good K.closed t u e h i)
        | inl (inr a) ↦ inl a
        | inr a ↦ inr a
      ];
    });
    polled = λ s name d ps K e t u. step_on s (Takes (events.Poll name)) (Drains ∷ Again name d.next ∷ ps) (good_polls c b s K.good name) (by_poll c s name) (same_parts s (Reads name ∷ ps) (Drains ∷ Again name d.next ∷ ps) (λ x y i. inr (inr (behind (Reads name) ps (λ x y h. cc) x y i))) K);
    finished = λ s name ps K h. same_parts s (Reads name ∷ ps) ps (behind (Reads name) ps (λ x y h. cc)) K;
    drains = λ s ps i K e u. step_on s (Takes (events.Deliver i)) (Drains ∷ ps) (good_delivers c b s K.good i u) (by_delivery c s i) K;
    drained = λ s ps K e. same_parts s (Drains ∷ ps) ps (behind Drains ps (λ x y h. cc)) K;
    asked = λ s name next d ps K e n u. step_on s (Takes (events.Poll name)) (Drains ∷ Again name d.next ∷ ps) (good_polls c b s K.good name) (by_poll c s name)
        (same_parts s (Again name next ∷ ps) (Drains ∷ Again name d.next ∷ ps) (λ x y i. inr (inr (behind (Again name next) ps (λ x y h. cc) x y i))) K);
    rested = λ s name next ps K h. same_parts s (Again name next ∷ ps) ps (behind (Again name next) ps (λ x y h. cc)) K;
  }

  -- at first each node of the configuration has its ticks for each log of it
  in_map : {X Y : Type 0} (f : X → Y) (x : X) (xs : List X) → In x xs → In (f x) (map f xs)
  in_map f x [] i = absurd i
  in_map f x (y ∷ xs) (inl e) = inl (ap f e)
  in_map f x (y ∷ xs) (inr i) = inr (in_map f x xs i)

  in_each : {X Y : Type 0} (f : X → List Y) (x : X) (y : Y) (xs : List X) → In x xs → In y (f x) → In y (flat_map f xs)
  in_each f x y [] i j = absurd i
  in_each f x y (z ∷ xs) (inl e) j = In_left y (f z) (flat_map f xs) (subst (λ v. In y (f v)) e j)
  in_each f x y (z ∷ xs) (inr i) j = In_right y (f z) (flat_map f xs) (in_each f x y xs i j)

  ticks_there : (s : State) (l n : ℕ) → has_log c l ≡ true → In n (all_nodes c) → In (Ticks l n) (all_left c s)
  ticks_there s l n h i = let z = log_there l c.logs h in
      in_each (λ (p : Spec). left_for c s p.log) z.0 (Ticks l n) c.logs z.1 (subst (λ x. In (Ticks l n) (left_for c s x)) (sym z.2) (inr (inr (In_left (Ticks l n) (map (λ y. Ticks l y) (all_nodes c)) _ (in_map (λ y. Ticks l y) n (all_nodes c) i)))))

pub positive_at : (g : Log) (e : ℕ) → 0 < e → is_some (find e g.summaries) ≡ true → is_some (summary_at g e) ≡ true
unfolding summary_at
positive_at g e p h = cond_both (e == 0) (Some epoch_zero) (find e g.summaries) (λ o. is_some o ≡ true) (λ t. refl) (λ t. h)

-- what a calm that begins in this state does
abbrev CleansAll : Config → State → Type 0
CleansAll c s = AllWell c s → NoLimit (calms c s) → (l n e : ℕ) → has_log c l ≡ true → In n (all_nodes c) → 1 ≤ e → e ≤ lce_of s.register l → is_some (summary_at (log_of (node_at (calms c s).state n).plain l) e) ≡ true

clean_after : (c : Config) → IsInBounds c → (ms : List Move) → CleansAll c (world_after c (begin c) ms).state
clean_after c b ms A U l n e log node p low =
    let s : State = (world_after c (begin c) ms).state in
    let G = good_first c s (after_steps c b ms) A in
    let K = at_last c (λ t ps. Cleaned c (λ j. lce_of s.register j) t ps) (cleaned_parts c b (λ j. lce_of s.register j)) (calm_fuel c s) s (all_left c s)
    (record { good = G; closed = λ j. omega arith; nodes = λ j m h i. inl (ticks_there c b (λ x. lce_of s.register x) s j m h i) }) (calm_ends_after c ms b).0 (unlimited (calms c s) U) in
    elim (K.nodes l n log node) [ inl i ↦ absurd i | inr a ↦ positive_at (log_of (node_at (calms c s).state n).plain l) e p (a e p low) ]

pub closed_is_clean : ClosedIsClean
closed_is_clean c es b = after_events c (CleansAll c) (clean_after c b) es
