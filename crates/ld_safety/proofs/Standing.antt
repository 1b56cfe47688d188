-- What stands is in each plan of a greater ballot, in every state.
use Rattle.std.proofs.Common.{◌≡◌, ◌∙◌, ◌⊎◌, ◌≤◌, ◌<◌, ℕ, ◌-◌, min, inl, inr, refl, sym, subst, Bool, true, false, nat_lt, List, [], ◌∷◌, ◌++◌, Some, arith}
use Rattle.std.proofs.lemmas.Bool.{leb-true, cases_order, ltb-true, ltb-false, cases_Bool}
use Rattle.ld_table.specs.Table.{find}
use Rattle.ld_table.specs.Named.{find_named}
use Rattle.ld_lsn.specs.Number.{epoch_of, esn_of, numbered, last_esn}
use Rattle.ld_config.specs.declared.config.Config.{Config}
use Rattle.ld_msg.specs.declared.msg.What.{What}
use Rattle.ld_msg.specs.declared.msg.What.TheVariants.{Rec, Bridge}
use Rattle.ld_msg.specs.declared.msg.Summary.{Summary}
use Rattle.ld_msg.specs.Digest.{Told, best, content, plan_end, plan_floor, trim_place, digest_trim, digest_lng}
use Rattle.ld_msg.specs.Sequencer.{Sequencer, Recovery, Stage, Stores, Closes}
use Rattle.ld_machine.specs.Config.{fixed_of, fixed_at}
use Rattle.ld_machine.specs.State.{finish}
use Rattle.ld_machine.specs.Facts.{Happened}
use Rattle.ld_machine.specs.World.{World, Made, In, begin, item, settled, HasPlan}
use Rattle.ld_machine.specs.Invariant.{StandsOn, Follows, Closed, IsOpen, Ready}
use Rattle.ld_machine.specs.Run.{Move, after_step, world_after, trace}
use Rattle.ld_safety.proofs.Lists.{not_none, cond_both, count_mono, not_both}
use Rattle.ld_safety.proofs.Traces.{Keeps, step_happened, later, beside_kept, both_kept}
use Rattle.ld_safety.proofs.HandedLaws.{Handing, handing_kept}
use Rattle.ld_safety.proofs.Given.{AppendedBy}
use Rattle.ld_safety.proofs.Closings.{OfSummaries, summaries_after}
use Rattle.ld_safety.proofs.SequencerSteps.{Ending, ended_by}
use Rattle.ld_safety.proofs.CarriedSteps.{HeardOf}
use Rattle.ld_safety.proofs.Plans.{trim_has, plan_shape, plan_between, content_no_bridge, floor_below, floor_cases, end_above_floor}
use Rattle.ld_safety.proofs.Events.{Live}
use Rattle.ld_safety.proofs.GivenSteps.{BaseGiven}
use Rattle.ld_safety.proofs.Protocol.{Basis, plan_of, plan_at, tells_stored, tells_settled, told_settled, stored_told}
use Rattle.ld_safety.proofs.Settled.{Acknowledged, Fixed, FullClose, OfZero, ClosedBy, TrimFine, CloseFine, ShowFine, ReleaseFine, LngFine, Reached}
use Rattle.ld_safety.proofs.Said.{Said, SaidHere}
use Rattle.ld_safety.proofs.Shown.{plan_ends, acked_item, found_item, full_of}
use Rattle.ld_safety.proofs.LossPlans.{plan_says}
use Rattle.ld_safety.proofs.Plannings.{plan_facts}
use Rattle.ld_safety.proofs.Agreement.{agrees}
use Rattle.ld_safety.proofs.Digests.{TrimPaged}
use Rattle.ld_safety.proofs.Digesting.{digest_good}
use Rattle.ld_safety.proofs.DigestKept.{pages_good}
use Rattle.ld_safety.proofs.Along.{Along, closed_last}
use Rattle.ld_safety.proofs.AlongSteps.{along_kept, acks_both}
use Rattle.ld_safety.proofs.Agreed.{basis_of, found_plan}
use Rattle.ld_safety.proofs.CopiesStand.{once}
use Rattle.ld_safety.proofs.Carried as carried

-- ---- what a closing trim covers was acknowledged ----
abbrev pub TrimAcked : Config → List Happened → World → Type 0
TrimAcked c hs w = OfSummaries (λ l e y. (n : ℕ) → epoch_of n ≡ e → 0 < esn_of n → n ≤ y.trim → Acknowledged c hs w.state.network.sent w.state.register l n) w.state.register

module _ (c : Config) (hs : List Happened) (w : World) (B : BaseGiven c hs w × Along c hs w) where
  abbrev Trimmed : ℕ → ℕ → Type 0
  Trimmed l t = TrimFine c hs w.state.network.sent w.state.register l t

  abbrev StageSaid : ℕ → ℕ → ℕ → Stage → Type 0
  StageSaid l b e g = carried.StageOk (Said hs w.made w.state.register) (TrimFine c hs w.state.network.sent w.state.register) (CloseFine c hs w.made w.state.network.sent w.state.register) (Reached w.state.register) (ShowFine c hs w.made w.state.network.sent w.state.register) (ReleaseFine c hs w.state.network.sent w.state.register) (SaidHere hs w.made w.state.register) (LngFine c hs w.state.network.sent w.state.register) l b e g

  closing_stage : (name : List ℕ) (q : Sequencer) (v : Recovery) (g : Stage) → find_named name w.state.sequencers ≡ Some q → q.recovery ≡ Some v → v.stage ≡ g → StageSaid q.log q.epoch v.epoch g
  closing_stage name q v g f r s = subst (StageSaid q.log q.epoch v.epoch) s (subst (carried.RecoveryOk (Said hs w.made w.state.register) (TrimFine c hs w.state.network.sent w.state.register) (CloseFine c hs w.made w.state.network.sent w.state.register) (Reached w.state.register) (ShowFine c hs w.made w.state.network.sent w.state.register) (ReleaseFine c hs w.state.network.sent w.state.register) (SaidHere hs w.made w.state.register) (LngFine c hs w.state.network.sent w.state.register) q.log q.epoch) r (B.1.said.sequencers name q f).recovery).1

  closes_trimmed : (name : List ℕ) (q : Sequencer) (v : Recovery) (y : Summary) (short : Bool) → Live w.state name q → q.recovery ≡ Some v → Ending q (HeardOf w.state q) v y short → Trimmed q.log y.trim
  closes_trimmed name q v y short l r g = elim (ended_by q (HeardOf w.state q) v y short g) [
    | inl k ↦ (closing_stage name q v (Closes y short) l.named r k).0
    | inr k ↦ subst (Trimmed q.log) (sym k.trim) (closing_stage name q v (Stores k.storing) l.named r k.stage).0.0
  ]

trim_acked_step : (c : Config) (hs : List Happened) (w : World) (e : Move) → BaseGiven c hs w × Along c hs w → TrimAcked c hs w → TrimAcked c (hs ++ step_happened c w.state e ∷ []) (after_step c w e)
unfolding finish
trim_acked_step c hs w e B H l k y f n p pos lt = acks_both c hs w e B.0.0 B.0.1 B.1 l n
    (summaries_after c w.state e (λ l k y. (n : ℕ) → epoch_of n ≡ k → 0 < esn_of n → n ≤ y.trim → Acknowledged c hs w.state.network.sent w.state.register l n) H
    (λ name q v y short l r g z o n p pos lt. closes_trimmed c hs w B name q v y short l r g n lt pos (omega arith)) B.0.0.0.0 l k y f n p pos lt)

starts_trim_acked : (c : Config) → TrimAcked c [] (begin c)
unfolding find
starts_trim_acked c l e y f = absurd (not_none f)

pub trim_acked_kept : (c : Config) → Keeps c (λ hs w. (BaseGiven c hs w × Along c hs w) × TrimAcked c hs w)
trim_acked_kept c = beside_kept c (λ hs w. BaseGiven c hs w × Along c hs w) (TrimAcked c) (along_kept c) (starts_trim_acked c) (λ hs w e B C H. trim_acked_step c hs w e B H)

-- ---- trims as places ----
trim_covers : (e t k : ℕ) → 0 < k → k ≤ trim_place e t → k ≤ last_esn → numbered e k ≤ t
trim_covers e t k = cond_both (nat_lt (epoch_of t) e) 0 _ (λ x. 0 < k → k ≤ x → k ≤ last_esn → numbered e k ≤ t) (λ a p q b. absurd (omega arith))
    (λ a. cond_both (nat_lt e (epoch_of t)) (last_esn - 1) (min (esn_of t) (last_esn - 1)) (λ x. 0 < k → k ≤ x → k ≤ last_esn → numbered e k ≤ t) (λ u p q b. (let z = ltb-true _ _ u in omega arith)) (λ u p q b. (let y = ltb-false _ _ a in let z = ltb-false _ _ u in omega arith)))

-- ---- one state ----
module _ (c : Config) (hs : List Happened) (w : World) (B : BaseGiven c hs w × Along c hs w) (H : TrimAcked c hs w) where
  abbrev Ack : ℕ → ℕ → Type 0
  Ack l n = Acknowledged c hs w.state.network.sent w.state.register l n

  paged_trim : (l b y t : ℕ) → TrimPaged w.state.network.sent l b y t → Trimmed c hs w B l t
  paged_trim l b y t p = (B.1.said.sent _ p.page).0.0.trim

  -- in an open epoch a plan's trim covers acknowledged appends alone
  planned_trim : (l e b : ℕ) (d : Basis) → In (plan_of l e b d) w.made → Trimmed c hs w B l (digest_trim d.digest)
  planned_trim l e b d i = trim_has (Trimmed c hs w B l) d.digest (λ n lt pos o. absurd (omega arith)) (λ t j. elim ((B.1.plans l e b d i).digest.told t j).trimmed [
    | inl z ↦ (λ n lt pos o. absurd (let u : n ≤ 0 = subst (λ k. n ≤ k) z lt in omega arith))
    | inr z ↦ paged_trim l b t.node t.trim z
  ])

  -- what a plan says that stands
  record Firm (l e b : ℕ) (d : List Told) : Type 0 where
    fixed : (n : ℕ) → epoch_of n ≡ e → plan_floor e d < esn_of n → esn_of n < plan_end e d → Fixed c hs w.state.network.sent w.state.register l n b
    trims : (n : ℕ) → epoch_of n ≡ e → 0 < esn_of n → n ≤ digest_trim d → Ack l n
    good : LngFine c hs w.state.network.sent w.state.register l e (digest_lng d)

  appends_once : (l n : ℕ) (p q : List ℕ) → AppendedBy hs l n p → AppendedBy hs l n q → p ≡ q
  appends_once = once c hs w B.0.0 B.1

  acked_there : (l n b : ℕ) (d : Basis) (a : Ack l n) → In (plan_of l (epoch_of n) b d) w.made → d.loss ≡ false → (plan_at (epoch_of n) d (esn_of n) ≡ Some (Rec a.payload)) ⊎ (esn_of n ≤ plan_floor (epoch_of n) d.digest)
  acked_there l n b d a i lo = acked_item c hs w.made w.state.network.sent w.state.register appends_once B.1.once B.1.plans B.1.last l n b d a i lo

  -- a record or hole of a plan stands below its end
  below_end : (e : ℕ) (d : Basis) (k : ℕ) (x : What) → (x ≡ Bridge → ⊥) → plan_at e d k ≡ Some x → k < plan_end e d.digest
  below_end e d k x n h = let s = plan_shape e d.loss d.digest k x h in elim s.kind [ inl u ↦ u.0 | inr u ↦ absurd (n u.1) ]

  record SameItem (l n : ℕ) (d f : Basis) : Type 0 where
    what : What
    first : plan_at (epoch_of n) d (esn_of n) ≡ Some what
    second : plan_at (epoch_of n) f (esn_of n) ≡ Some what
    below : esn_of n < plan_end (epoch_of n) f.digest

  same_item : (l n b g : ℕ) (d f : Basis) → In (plan_of l (epoch_of n) b d) w.made → In (plan_of l (epoch_of n) g f) w.made → d.loss ≡ false → f.loss ≡ false → b < g → Fixed c hs w.state.network.sent w.state.register l n b → plan_floor (epoch_of n) d.digest < esn_of n → esn_of n < plan_end (epoch_of n) d.digest
      → (esn_of n ≤ plan_floor (epoch_of n) f.digest) ⊎ SameItem l n d f
  same_item l n b g d f i j fd ff lt (inl a) lo hi = elim (acked_there l n b d a i fd) [
    | inl p ↦ elim (acked_there l n g f a j ff) [
      | inl q ↦ inr (record { what = Rec a.payload; first = p; second = q; below = below_end (epoch_of n) f (esn_of n) (Rec a.payload) (λ z. cc) q })
      | inr q ↦ inl q
    ]
    | inr p ↦ absurd (omega arith)
  ]
  same_item l n b g d f i j fd ff lt (inr h) lo hi =
      let x = content d.loss (best (numbered (epoch_of n) (esn_of n)) d.digest) in
      let p : plan_at (epoch_of n) d (esn_of n) ≡ Some x = plan_between (epoch_of n) d.loss d.digest (esn_of n) lo hi in
      let en = plan_ends c hs w.made w.state.network.sent w.state.register appends_once B.1.once B.1.plans B.1.last l (epoch_of n) b d i in
      elim (agrees hs w.made w.state.network.sent (fixed_of c w.state.register l) appends_once B.1.once l (λ e. Unit {0}) (λ e a g d f i j lt lo. B.1.last l e a g d f i j lt lo) (λ e a u o k lo. plan_facts c hs w.state.network.sent w.made w.state.register l e a u (B.1.plans l e a u k) lo)
      n b g x f tt (omega arith) lt j ff h (inr (record { later = (B.1.plans l (epoch_of n) b d i).later; basis = d; planned = i; item = p })) (content_no_bridge d.loss _) (found_item c hs w.made w.state.network.sent w.state.register appends_once B.1.once B.1.plans B.1.last l n d fd)) [
        | inl q ↦ inr (record { what = x; first = p; second = q; below = below_end (epoch_of n) f (esn_of n) x (content_no_bridge d.loss _) q })
        | inr q ↦ inl q
      ]

  item_follows : (l n b g : ℕ) (d f : Made) → HasPlan w l (epoch_of n) b d → HasPlan w l (epoch_of n) g f → d.loss ≡ false → f.loss ≡ false → epoch_of n < b → b < g → Fixed c hs w.state.network.sent w.state.register l n b → plan_floor (epoch_of n) d.digest < esn_of n → esn_of n < plan_end (epoch_of n) d.digest → plan_floor (epoch_of n) f.digest < esn_of n
      → item w l n g ≡ item w l n b
  item_follows l n b g d f p q fd ff late lt x lo hi lf = elim (same_item l n b g (basis_of d) (basis_of f) (found_plan l (epoch_of n) b w.made d p) (found_plan l (epoch_of n) g w.made f q) fd ff lt x lo hi) [
    | inl z ↦ absurd (omega arith)
    | inr z ↦ plan_says w l n g f z.what (omega arith) q z.second ∙ sym (plan_says w l n b d z.what late p z.first)
  ]

  module _ (l e b g : ℕ) (d f : Made) (P : HasPlan w l e b d) (Q : HasPlan w l e g f) (fd : d.loss ≡ false) (ff : f.loss ≡ false) (late : e < b) (lt : b < g) (F : Firm l e b d.digest) where
    there : In (plan_of l e b (basis_of d)) w.made
    there = found_plan l e b w.made d P

    later_there : In (plan_of l e g (basis_of f)) w.made
    later_there = found_plan l e g w.made f Q

    end_low : plan_end e d.digest ≤ last_esn
    end_low = plan_ends c hs w.made w.state.network.sent w.state.register appends_once B.1.once B.1.plans B.1.last l e b (basis_of d) there

    epoch_is : (n : ℕ) → n ≤ last_esn → epoch_of (numbered e n) ≡ e
    epoch_is n h = omega arith

    place_is : (n : ℕ) → n ≤ last_esn → esn_of (numbered e n) ≡ n
    place_is n h = omega arith

    items_follow : (n : ℕ) → n < plan_end e d.digest → plan_floor e d.digest < n → plan_floor e f.digest < n → item w l (numbered e n) g ≡ item w l (numbered e n) b
    items_follow n hi lo lf =
        let b1 = end_low in let q = epoch_is n (omega arith) in let k = place_is n (omega arith) in
        item_follows l (numbered e n) b g d f (subst (λ x. HasPlan w l x b d) (sym q) P) (subst (λ x. HasPlan w l x g f) (sym q) Q) fd ff (omega arith) lt (F.fixed (numbered e n) q (omega arith) (omega arith))
        (subst (λ x. plan_floor x d.digest < esn_of (numbered e n)) (sym q) (omega arith)) (subst (λ x. esn_of (numbered e n) < plan_end x d.digest) (sym q) (omega arith)) (subst (λ x. plan_floor x f.digest < esn_of (numbered e n)) (sym q) (omega arith))

    -- what lies at or below a plan's floor was acknowledged
    floor_acked : (k : ℕ) → 0 < k → k ≤ plan_floor e d.digest → k ≤ last_esn → Ack l (numbered e k)
    floor_acked k pos lo hi = let q = epoch_is k hi in let p = place_is k hi in elim (floor_cases e d.digest k lo) [
      | inl z ↦ F.trims (numbered e k) q (omega arith) (trim_covers e (digest_trim d.digest) k pos z hi)
      | inr z ↦ F.good (numbered e k) q (omega arith) (omega arith)
    ]

    -- the number below the end is in the later plan, or below its end
    not_before : plan_end e f.digest < plan_end e d.digest → ⊥
    not_before h = elim (cases_order (plan_floor e d.digest) (plan_end e d.digest - 1)) [
      | inr (inr z) ↦ (let u = end_above_floor e d.digest in omega arith)
      | inr (inl z) ↦ above (plan_end e d.digest - 1) z (omega arith) (omega arith)
      | inl z ↦ elim (cases_order (plan_end e d.digest - 1) 0) [
        | inl y ↦ (let u = end_above_floor e f.digest in omega arith)
        | inr (inl y) ↦ (let u = end_above_floor e f.digest in omega arith)
        | inr (inr y) ↦ settled_low (plan_end e d.digest - 1) y (omega arith) (let u = end_low in omega arith) (omega arith)
      ]
    ] where
      above : (k : ℕ) → plan_floor e d.digest < k → k < plan_end e d.digest → plan_end e f.digest ≤ k → ⊥
      above k lo hi le =
          let b1 = end_low in let q = epoch_is k (omega arith) in let p = place_is k (omega arith) in let u = end_above_floor e f.digest in
          elim (same_item l (numbered e k) b g (basis_of d) (basis_of f) (subst (λ x. In (plan_of l x b (basis_of d)) w.made) (sym q) there) (subst (λ x. In (plan_of l x g (basis_of f)) w.made) (sym q) later_there) fd ff lt (F.fixed (numbered e k) q (omega arith) (omega arith))
          (subst (λ x. plan_floor x d.digest < esn_of (numbered e k)) (sym q) (omega arith)) (subst (λ x. esn_of (numbered e k) < plan_end x d.digest) (sym q) (omega arith))) [
            | inl z ↦ (let y = subst (λ x. esn_of (numbered e k) ≤ plan_floor x f.digest) q z in omega arith)
            | inr z ↦ (let y = subst (λ x. esn_of (numbered e k) < plan_end x f.digest) q z.below in omega arith)
          ]

      settled_low : (k : ℕ) → 0 < k → k ≤ plan_floor e d.digest → k ≤ last_esn → plan_end e f.digest ≤ k → ⊥
      settled_low k pos lo hi le =
          let q = epoch_is k hi in let p = place_is k hi in let u = end_above_floor e f.digest in let a = floor_acked k pos lo hi in
          elim (acked_there l (numbered e k) g (basis_of f) a (subst (λ x. In (plan_of l x g (basis_of f)) w.made) (sym q) later_there) ff) [
            | inl z ↦ (let y = subst (λ x. esn_of (numbered e k) < plan_end x f.digest) q (below_end (epoch_of (numbered e k)) (basis_of f) (esn_of (numbered e k)) (Rec a.payload) (λ t. cc) z) in omega arith)
            | inr z ↦ (let y = subst (λ x. esn_of (numbered e k) ≤ plan_floor x f.digest) q z in omega arith)
          ]

    firm_follows : Follows w l e b g d.digest f.digest
    firm_follows = record {
      items = λ n hi lo lf. items_follow n hi (floor_below e d.digest n (omega arith) (omega arith)) (floor_below e f.digest n (omega arith) (omega arith));
      end = elim (cases_order (plan_end e d.digest) (plan_end e f.digest)) [ inl z ↦ omega arith | inr (inl z) ↦ omega arith | inr (inr z) ↦ absurd (not_before z) ];
    }

  -- ---- what stands ----
  closed_firm : (l e b g : ℕ) (d f : Made) (y : Summary) → 0 < e → HasPlan w l e b d → HasPlan w l e g f → b < g → Closed w l e y → y.ballot ≡ b → Firm l e b d.digest
  closed_firm l e b g d f y pos P Q lt z q = by_fine (B.1.said.register l e y z).1 where
    as_plan : (k : ClosedBy c hs w.made w.state.network.sent w.state.register l e y) → FullClose c hs w.state.network.sent w.state.register l e y.ballot k.plan.basis → Firm l e y.ballot k.plan.basis.digest
    as_plan k h = record { fixed = h.fixed; trims = λ n p v le. H l e y z n p v (let t = k.plan.trim in omega arith); good = λ n p v le. k.plan.good n p v (let t = k.plan.lng in omega arith) }

    by_fine : OfZero e y ⊎ ClosedBy c hs w.made w.state.network.sent w.state.register l e y → Firm l e b d.digest
    by_fine (inl a) = absurd (let v = a.0 in omega arith)
    by_fine (inr k) =
        let v : k.plan.basis ≡ basis_of d = B.1.once l e b k.plan.basis (basis_of d) (subst (λ x. In (plan_of l e x k.plan.basis) w.made) q k.plan.planned) (found_plan l e b w.made d P) in
        let h = full_of c hs w.made w.state.network.sent w.state.register appends_once B.1.once B.1.plans B.1.last l e g y (basis_of f) (closed_last c hs w B.1) k (found_plan l e g w.made f Q) (omega arith) in
        subst (λ (x : Basis). Firm l e b x.digest) v (subst (λ x. Firm l e x k.plan.basis.digest) q (as_plan k h))

  all_or_one : (p q : ℕ → Bool) (xs : List ℕ) → ((x : ℕ) × In x xs × (p x ≡ true) × (q x ≡ false)) ⊎ ((x : ℕ) → In x xs → p x ≡ true → q x ≡ true)
  all_or_one p q [] = inr (λ x i. absurd i)
  all_or_one p q (y ∷ xs) = elim (all_or_one p q xs) [
    | inl a ↦ inl (a.0, inr a.1, a.2, a.3)
    | inr a ↦ elim (cases_Bool (p y)) [
      | inl t ↦ elim (cases_Bool (q y)) [
        | inl u ↦ inr (λ x i h. elim i [ inl z ↦ subst (λ k. q k ≡ true) (sym z) u | inr z ↦ a x z h ])
        | inr u ↦ inl (y, inl refl, t, u)
      ]
      | inr t ↦ inr (λ x i h. elim i [ inl z ↦ absurd (not_both (p y) (subst (λ k. p k ≡ true) z h) t) | inr z ↦ a x z h ])
    ]
  ]

  settled_fixed : (l n b : ℕ) → 0 < esn_of n → IsOpen w l (epoch_of n) → settled c w l n b ≡ true → Fixed c hs w.state.network.sent w.state.register l n b
  unfolding settled
  settled_fixed l n b pos o h = elim (all_or_one (tells_settled w.state.network.sent l n b) (tells_stored w.state.network.sent l n b) (fixed_at c w.state.register l (epoch_of n))) [
    | inr a ↦ inr (let z = leb-true _ _ h in let y = count_mono (tells_settled w.state.network.sent l n b) (tells_stored w.state.network.sent l n b) (fixed_at c w.state.register l (epoch_of n)) a in omega arith)
    | inl a ↦ elim (told_settled w.state.network.sent l n b a.0 a.2) [
      | inl s ↦ absurd (not_both (tells_stored w.state.network.sent l n b a.0) (stored_told w.state.network.sent l n b a.0 s) a.3)
      | inr t ↦ inl ((B.1.said.sent _ t.told_so).0.0 n t.covers pos o)
    ]
  ]

  open_firm : (l e b : ℕ) (d : Made) → HasPlan w l e b d → e < b → IsOpen w l e → Ready c w l e b → Firm l e b d.digest
  open_firm l e b d P late o R = record {
    fixed = λ n q lo hi. settled_fixed l n b (omega arith) (subst (IsOpen w l) (sym q) o) (R n _ q (subst_item n q lo hi));
    trims = λ n q pos lt. planned_trim l e b (basis_of d) (found_plan l e b w.made d P) n lt pos (subst (IsOpen w l) (sym q) o);
    good = digest_good c hs w.state.network.sent w.made w.state.register (pages_good c hs w.made w.state B.1.said) (B.1.plans l e b (basis_of d) (found_plan l e b w.made d P)).spec l e b d.digest (B.1.plans l e b (basis_of d) (found_plan l e b w.made d P)).digest;
  } where
    subst_item : (n : ℕ) → epoch_of n ≡ e → plan_floor e d.digest < esn_of n → esn_of n < plan_end e d.digest → item w l n b ≡ Some (content d.loss (best (numbered (epoch_of n) (esn_of n)) d.digest))
    subst_item n q lo hi = plan_says w l n b d (content d.loss (best (numbered (epoch_of n) (esn_of n)) d.digest)) (omega arith) (subst (λ x. HasPlan w l x b d) (sym q) P)
        (plan_between (epoch_of n) d.loss d.digest (esn_of n) (subst (λ x. plan_floor x d.digest < esn_of n) (sym q) lo) (subst (λ x. esn_of n < plan_end x d.digest) (sym q) hi))

  pub stands_here : ((l e : ℕ) (y : Summary) → Closed w l e y → 0 < e) → StandsOn c w
  stands_here pos l e b g d f P Q fd ff late lt (inl s) = firm_follows l e b g d f P Q fd ff late lt (closed_firm l e b g d f s.0 (pos l e s.0 s.1) P Q lt s.1 s.2)
  stands_here pos l e b g d f P Q fd ff late lt (inr s) = firm_follows l e b g d f P Q fd ff late lt (open_firm l e b d P late s.0 s.1)

-- ---- the law ----
abbrev pub StandingOn : Config → List Happened → World → Type 0
StandingOn c hs w = ((BaseGiven c hs w × Along c hs w) × TrimAcked c hs w) × Handing c hs w

pub standing_kept : (c : Config) → Keeps c (StandingOn c)
standing_kept c = both_kept c (λ hs w. (BaseGiven c hs w × Along c hs w) × TrimAcked c hs w) (Handing c) (trim_acked_kept c) (handing_kept c)

pub what_stands_is_followed : (c : Config) (es : List Move) → StandsOn c (world_after c (begin c) es)
what_stands_is_followed c es = let p = later c (StandingOn c) (standing_kept c) [] (begin c) es (standing_kept c).begins in stands_here c (trace c (begin c) es) (world_after c (begin c) es) p.0.0 p.0.1 p.1.1.1
