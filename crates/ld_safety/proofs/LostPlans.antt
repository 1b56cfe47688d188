-- Each plan that says what is lost had a moment at which as many nodes of its epoch as it has copies stood lost: the end of the step before its own.
use Rattle.std.proofs.Common.{◌≡◌, ◌∙◌, ◌⊎◌, ◌≤◌, ◌<◌, ℕ, zero, suc, ◌+◌, inl, inr, refl, ap, sym, subst, true, ◌==◌, ◌&&◌, take, List, [], ◌∷◌, ◌++◌, length, length-append, Some, arith}
use Rattle.std.proofs.lemmas.Bool.{and_parts, and_from, or_cases, eqb-true}
use Rattle.ld_table.specs.Words.{is_in, how_many}
use Rattle.ld_config.specs.declared.config.Config.{Config}
use Rattle.ld_ids.specs.Choice.{nodes_of}
use Rattle.ld_ids.specs.declared.set.Spec.{Spec}
use Rattle.ld_msg.specs.Register.{lce_of}
use Rattle.ld_op.specs.Plain.{log_of, is_lost}
use Rattle.ld_machine.specs.Config.{first_spec, fixed_of, fixed_at}
use Rattle.ld_machine.specs.Disk.{Node}
use Rattle.ld_machine.specs.State.{node_at}
use Rattle.ld_machine.specs.Facts.{Happened, Standing, Lost, standing, stands_for, stands_lost, spec_now, has_epoch}
use Rattle.ld_machine.specs.Safe.{Lacking}
use Rattle.ld_machine.specs.World.{World, Made, In, begin, made_on, is_gone, is_cut_gone}
use Rattle.ld_machine.specs.Run.{Move, after_step, world_after, trace}
use Rattle.ld_safety.specs.Lost.{MadeOfLost}
use Rattle.ld_safety.proofs.Lists.{In-append, not_both, count_mono}
use Rattle.ld_safety.proofs.Losses.{filter_passes}
use Rattle.ld_safety.proofs.Traces.{Keeps, step_happened, later, both_kept, beside_kept}
use Rattle.ld_safety.proofs.Base.{Base}
use Rattle.ld_safety.proofs.GivenSteps.{BaseGiven}
use Rattle.ld_safety.proofs.FixedNow.{AllNow, now_kept, now_said}
use Rattle.ld_safety.proofs.Registers.{open_spec}
use Rattle.ld_safety.proofs.Protocol.{Basis, plan_of}
use Rattle.ld_safety.proofs.Plannings.{WhyMade, LossMade}
use Rattle.ld_safety.proofs.Along.{Along}
use Rattle.ld_safety.proofs.AlongSteps.{along_kept, new_plan, plan_now, went_now}
use Rattle.ld_safety.proofs.LostStanding.{Stands}
use Rattle.ld_safety.proofs.LostKept.{Standings, standings_kept}
use Rattle.ld_safety.proofs.LostActive.{epoch_lower}
use Rattle.ld_safety.proofs.LostActiveKept.{Active, active_kept}
use Rattle.ld_machine.specs.Calm.{event_of}

-- ---- lists ----
pub take_left : {X : Type 0} (n : ℕ) (xs ys : List X) → n ≤ length xs → take n (xs ++ ys) ≡ take n xs
take_left zero xs ys h = refl
take_left (suc n) [] ys h = absurd (omega arith)
take_left (suc n) (x ∷ xs) ys h = ap (λ z. x ∷ z) (take_left n xs ys (omega arith))

take_whole : {X : Type 0} (xs : List X) → take (length xs) xs ≡ xs
take_whole [] = refl
take_whole (x ∷ xs) = ap (λ z. x ∷ z) (take_whole xs)

-- ---- a moment of some steps ----
abbrev pub Lacked : Config → List Happened → ℕ → ℕ → Type 0
Lacked c hs l e = (j : ℕ) × (j < length hs) × Lacking c hs l e j

-- which steps after it leave
pub lacking_later : (c : Config) (hs gs : List Happened) (l e j : ℕ) → j < length hs → Lacking c hs l e j → Lacking c (hs ++ gs) l e j
lacking_later c hs gs l e j lt k = let q : take (j + 1) (hs ++ gs) ≡ take (j + 1) hs = take_left (j + 1) hs gs (omega arith) in
    subst (λ xs. (s : Spec) × (spec_now l e xs (first_spec c l) ≡ Some s) × (s.r ≤ how_many (stands_lost l e xs) (nodes_of s))) (sym q) k

lacked_later : (c : Config) (hs gs : List Happened) (l e : ℕ) → Lacked c hs l e → Lacked c (hs ++ gs) l e
lacked_later c hs gs l e (j, lt, k) = (j, (let z = length-append hs gs in omega arith), lacking_later c hs gs l e j lt k)

-- the last of them
last_step : (c : Config) (hs : List Happened) (l e : ℕ) → has_epoch l e hs ≡ true → (s : Spec) × (spec_now l e hs (first_spec c l) ≡ Some s) × (s.r ≤ how_many (stands_lost l e hs) (nodes_of s)) → Lacked c hs l e
last_step c [] l e a h = absurd cc
last_step c (x ∷ hs) l e a h = (
  length hs,
  omega arith,
  let q : take (length hs + 1) (x ∷ hs) ≡ x ∷ hs = subst (λ n. take n (x ∷ hs) ≡ x ∷ hs) (let z : suc (length hs) ≡ length hs + 1 = omega arith in z) (take_whole (x ∷ hs)) in
      subst (λ xs. (s : Spec) × (spec_now l e xs (first_spec c l) ≡ Some s) × (s.r ≤ how_many (stands_lost l e xs) (nodes_of s))) (sym q) h,
)

-- ---- the step of a plan ----

-- a node that has nothing to tell stands lost
gone_stands : (st : Standing) (l e : ℕ) (x : Node) → Stands st l x → (is_gone l e x.plain && is_cut_gone l e x.cut) ≡ true → stands_for e st ≡ true
gone_stands st l e x S h = elim (or_cases (x.plain.generation == 0) (is_lost (log_of x.plain l) e) (and_parts (is_gone l e x.plain) (is_cut_gone l e x.cut) h).0) [
  | inl a ↦ subst (λ z. stands_for e z ≡ true) (sym (S.blank x.plain (inl refl) (eqb-true x.plain.generation 0 a))) refl
  | inr a ↦ S.lost x.plain e (inl refl) a
]

-- what is told of the steps so far
abbrev pub Telling : Config → List Happened → World → Type 0
Telling c hs w = (BaseGiven c hs w × Along c hs w) × ((Base c hs w × Standings c hs w) × ((BaseGiven c hs w × Active c hs w) × AllNow c hs w))

pub telling_kept : (c : Config) → Keeps c (Telling c)
telling_kept c = both_kept c (λ hs w. BaseGiven c hs w × Along c hs w) (λ hs w. (Base c hs w × Standings c hs w) × ((BaseGiven c hs w × Active c hs w) × AllNow c hs w)) (along_kept c)
    (both_kept c (λ hs w. Base c hs w × Standings c hs w) (λ hs w. (BaseGiven c hs w × Active c hs w) × AllNow c hs w) (standings_kept c)
    (both_kept c (λ hs w. BaseGiven c hs w × Active c hs w) (λ hs w. AllNow c hs w) (active_kept c) (now_kept c)))

module _ (c : Config) (hs : List Happened) (w : World) (v : Move) (T : Telling c hs w) (l e b : ℕ) (d : Basis) (i : In (plan_of l e b d) (made_on c w.state (event_of v))) (lo : d.loss ≡ true) where
  -- its sequencer has an active line
  active_then : has_epoch l e hs ≡ true
  active_then =
      let z = (went_now c hs w v T.0.0.0 T.0.0.1 T.0.1).plans l e b d i in
      let n = (new_plan c hs w v T.0.0.0 T.0.0.1 T.0.1 l e b d i).0 in
      let late = n.later in let own = z.4 in
      subst (λ k. has_epoch k e hs ≡ true) (sym z.3) (epoch_lower z.1.log e z.1.epoch hs (omega arith) (T.1.1.0.1.1 z.0 z.1 z.2))

  all_stand : (y : ℕ) → is_in y d.gone ≡ true → stands_lost l e hs y ≡ true
  all_stand y h =
      let n = (new_plan c hs w v T.0.0.0 T.0.0.1 T.0.1 l e b d i).0 in
      let test = filter_passes (λ y. is_gone l e (node_at w.state y).plain && is_cut_gone l e (node_at w.state y).cut) y (nodes_of n.spec) (subst (λ g. is_in y g ≡ true) n.gone_now h) in
      and_from (has_epoch l e hs) (stands_for e (standing y l hs Lost)) active_then (gone_stands (standing y l hs Lost) l e (node_at w.state y) (T.1.0.1.1 y l) test)

  made_lost : WhyMade (fixed_of c w.state.register l e) d → LossMade (fixed_of c w.state.register l e) d
  made_lost (inl h) = absurd (not_both d.loss lo h.0)
  made_lost (inr h) = h.1

  -- before it so many stood lost
  pub plan_stood : (fixed_of c w.state.register l e).r ≤ how_many (stands_lost l e hs) (fixed_at c w.state.register l e)
  plan_stood =
      let g = (made_lost (plan_now c hs w v T.0.0.0 T.0.0.1 T.0.1 l e b d i).why).gone in
      let k = count_mono (λ y. is_in y d.gone) (stands_lost l e hs) (fixed_at c w.state.register l e) (λ y j t. all_stand y t) in omega arith

  still_open : lce_of w.state.register l < e
  still_open = elim (new_plan c hs w v T.0.0.0 T.0.0.1 T.0.1 l e b d i).0.why [ inl h ↦ absurd (not_both d.loss lo h.0) | inr h ↦ h.1.open_still ]

  plan_lacked : Lacked c hs l e
  plan_lacked =
      let n = (new_plan c hs w v T.0.0.0 T.0.0.1 T.0.1 l e b d i).0 in
      last_step c hs l e active_then (fixed_of c w.state.register l e, now_said c hs w T.1.1.1 l e n.reached ∙ ap Some (open_spec c w.state.register l e T.0.1.each n.reached still_open), plan_stood)

-- ---- along a run ----
abbrev pub PlansLacked : Config → List Happened → World → Type 0
PlansLacked c hs w = (l e b : ℕ) (d : Basis) → In (plan_of l e b d) w.made → d.loss ≡ true → Lacked c hs l e

lacked_step : (c : Config) (hs : List Happened) (w : World) (v : Move) → Telling c hs w → PlansLacked c hs w → PlansLacked c (hs ++ step_happened c w.state v ∷ []) (after_step c w v)
lacked_step c hs w v T P l e b d i lo = lacked_later c hs (step_happened c w.state v ∷ []) l e (elim (In-append (plan_of l e b d) (made_on c w.state (event_of v)) w.made i) [ inl j ↦ plan_lacked c hs w v T l e b d j lo | inr j ↦ P l e b d j lo ])

pub lacked_kept : (c : Config) → Keeps c (λ hs w. Telling c hs w × PlansLacked c hs w)
lacked_kept c = beside_kept c (Telling c) (PlansLacked c) (telling_kept c) (λ l e b d i. absurd i) (λ hs w v T C P. lacked_step c hs w v T P)

-- ---- the step that made a plan ----

-- a plan was there, or one of the steps makes it
record MadeIn (c : Config) (w : World) (steps : List Move) (m : Made) : Type 0 where
  earlier : List Move
  move : Move
  after : List Move
  split : steps ≡ earlier ++ move ∷ after
  makes : In m (made_on c (world_after c w earlier).state (event_of move))

made_in : (c : Config) (w : World) (steps : List Move) (m : Made) → In m (world_after c w steps).made → In m w.made ⊎ MadeIn c w steps m
unfolding world_after
made_in c w [] m i = inl i
made_in c w (v ∷ steps) m i = elim (made_in c (after_step c w v) steps m i) [
  | inl j ↦ elim (In-append m (made_on c w.state (event_of v)) w.made j) [
    | inl k ↦ inr (record { earlier = []; move = v; after = steps; split = refl; makes = k })
    | inr k ↦ inl k
  ]
  | inr s ↦ inr (record { earlier = v ∷ s.earlier; move = s.move; after = s.after; split = ap (λ (ms : List Move). v ∷ ms) s.split; makes = s.makes })
]

-- before a plan that says what is lost so many stood lost
pub made_of_lost : (c : Config) (steps : List Move) (l e b : ℕ) (d : Basis) → In (plan_of l e b d) (world_after c (begin c) steps).made → d.loss ≡ true → MadeOfLost c steps l e (plan_of l e b d)
made_of_lost c steps l e b d i lo = elim (made_in c (begin c) steps (plan_of l e b d) i) [
  | inl j ↦ absurd j
  | inr s ↦ record {
    earlier = s.earlier;
    move = s.move;
    after = s.after;
    split = s.split;
    makes = s.makes;
    stood = plan_stood c (trace c (begin c) s.earlier) (world_after c (begin c) s.earlier) s.move (later c (Telling c) (telling_kept c) [] (begin c) s.earlier (telling_kept c).begins) l e b d s.makes lo;
  }
]
