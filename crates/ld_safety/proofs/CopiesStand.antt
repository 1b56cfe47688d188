-- Copies of a closed epoch stand, but where nodes were lost or trimmed.
use Rattle.std.proofs.Common.{◌≡◌, ◌∙◌, ◌⊎◌, ◌≤◌, ◌<◌, ℕ, inl, inr, refl, ap, sym, subst, Bool, true, false, ◌&&◌, ◌==◌, filter, List, [], ◌∷◌, Option, Some, None, is_some, arith, if◌then◌else◌}
use Rattle.std.proofs.lemmas.Bool.{cases_Bool, cases_lt, and_from, and_parts, or_left, or_right, or_cases, eq-eqb, eqb-true, leb-true, le-leb}
use Rattle.ld_table.specs.Table.{find}
use Rattle.ld_table.specs.Words.{any_of, how_many}
use Rattle.ld_lsn.specs.Number.{epoch_of, esn_of, numbered}
use Rattle.ld_config.specs.declared.config.Config.{Config}
use Rattle.ld_msg.specs.declared.msg.What.{What}
use Rattle.ld_msg.specs.declared.msg.What.TheVariants.{Rec}
use Rattle.ld_msg.specs.declared.msg.Entry.{Entry}
use Rattle.ld_msg.specs.declared.msg.Summary.{Summary}
use Rattle.ld_msg.specs.declared.msg.Msg.{Msg}
use Rattle.ld_msg.specs.Digest.{best, content, plan_end, plan_floor}
use Rattle.ld_msg.specs.Register.{epochs_of}
use Rattle.ld_op.specs.Plain.{Plain, Log, log_of, is_lost, summary_at, epoch_zero}
use Rattle.ld_machine.specs.Config.{fixed_of, fixed_at, spec_of, set_at}
use Rattle.ld_machine.specs.Disk.{Cut}
use Rattle.ld_machine.specs.State.{node_at}
use Rattle.ld_machine.specs.Facts.{Happened}
use Rattle.ld_machine.specs.World.{World, Made, In, MayHold, Stored, is_made, plan_in, item, has_told, has_settled, has_joined, says_settled, settled, upheld}
use Rattle.ld_machine.specs.Invariant.{Closed, CopyAt, CopiesOf, ShortCopies, HoldsItem, HasLoss, Ready}
use Rattle.ld_safety.proofs.Lists.{Some_inj, not_none, not_both, of_some, any_from, any_in, cond_both, count_mono}
use Rattle.ld_safety.proofs.Members.{find_in, In_filter, filter_count, filter_apart, members_apart, in_set}
use Rattle.ld_safety.proofs.Plans.{plan_between, content_no_bridge, floor_lng, end_above_floor}
use Rattle.ld_safety.proofs.Losses.{found_no_plug}
use Rattle.ld_safety.proofs.LossPlans.{not_below, floor_not_below, plan_says}
use Rattle.ld_safety.proofs.Numbers.{one_payload}
use Rattle.ld_safety.proofs.Specs.{SpecFine}
use Rattle.ld_safety.proofs.Base.{Base}
use Rattle.ld_safety.proofs.GivenSteps.{BaseGiven}
use Rattle.ld_safety.proofs.Protocol.{Basis, plan_of, plan_at, OwnSays, PlanSays, PlansOnce, AppendsOnce, Ends, tells_settled, told_settled}
use Rattle.ld_safety.proofs.Agreement.{agrees}
use Rattle.ld_safety.proofs.Settled.{Acknowledged, Fixed, FullClose, ClosedBy, LossSays, LostTold}
use Rattle.ld_safety.proofs.Plannings.{plan_facts}
use Rattle.ld_safety.proofs.Said.{SaidHere}
use Rattle.ld_safety.proofs.Holdings.{KeptBy}
use Rattle.ld_safety.proofs.Cleans.{PlainClean}
use Rattle.ld_safety.proofs.LostFull.{FullLog}
use Rattle.ld_safety.proofs.Fallen.{Fallen, lost_no_more}
use Rattle.ld_safety.proofs.Joins.{now_members, now_count}
use Rattle.ld_safety.proofs.Registers.{look_like}
use Rattle.ld_safety.proofs.Shown.{plan_ends, acked_item, acked_own, kept_says, above_floor, full_of}
use Rattle.ld_safety.proofs.Along.{Along, PlainSaid, closed_last}
use Rattle.ld_safety.proofs.Agreed.{basis_of, found_plan}
use Rattle.ld_safety.proofs.Copies.{CopiesAt, Copied, Another, Elsewhere}

-- ---- the book ----
as_made : (l e b : ℕ) (m : Made) → is_made l e b m ≡ true → m ≡ plan_of l e b (basis_of m)
as_made l e b m h =
    let p = and_parts ((m.log == l) && (m.epoch == e)) (m.ballot == b) h in
    let q = and_parts (m.log == l) (m.epoch == e) p.0 in
    λ i. record { log = eqb-true _ _ q.0 i; epoch = eqb-true _ _ q.1 i; ballot = eqb-true _ _ p.1 i; loss = m.loss; digest = m.digest; gone = m.gone }

in_book : (l e b : ℕ) (ms : List Made) (d : Basis) → In (plan_of l e b d) ms → (f : Basis) × (plan_in l e b ms ≡ Some (plan_of l e b f))
in_book l e b [] d i = absurd i
in_book l e b (m ∷ ms) d i = by_test (is_made l e b m) refl i (in_book l e b ms d) where
  by_test : (t : Bool) → is_made l e b m ≡ t → In (plan_of l e b d) (m ∷ ms) → (In (plan_of l e b d) ms → (f : Basis) × (plan_in l e b ms ≡ Some (plan_of l e b f))) → (f : Basis) × ((if t then Some m else plan_in l e b ms) ≡ Some (plan_of l e b f))
  by_test true q j ih = (basis_of m, ap Some (as_made l e b m q))
  by_test false q (inl z) ih = absurd (let u : is_made l e b m ≡ true = ap (is_made l e b) (sym z) ∙ and_from _ _ (and_from _ _ (eq-eqb l l refl) (eq-eqb e e refl)) (eq-eqb b b refl) in not_both _ u q)
  by_test false q (inr j) ih = ih j

-- a plan that was made is in the book
pub has_plan : (l e b : ℕ) (ms : List Made) (d : Basis) → PlansOnce ms → In (plan_of l e b d) ms → plan_in l e b ms ≡ Some (plan_of l e b d)
has_plan l e b ms d P i =
    let z = in_book l e b ms d i in
    let q : z.0 ≡ d = P l e b z.0 d (found_plan l e b ms (plan_of l e b z.0) z.1) i in
    z.1 ∙ ap (λ (v : Basis). Some (plan_of l e b v)) q

-- each plan of the epoch found what it says
abbrev pub NoLoss : List Made → ℕ → ℕ → Type 0
NoLoss ms l e = (b : ℕ) (d : Basis) → In (plan_of l e b d) ms → d.loss ≡ false

abbrev loss_of : ℕ → ℕ → Made → Bool
loss_of l e m = ((m.log == l) && (m.epoch == e)) && m.loss

pub loss_or_none : (l e : ℕ) (ms : List Made) → ((b : ℕ) × (d : Basis) × In (plan_of l e b d) ms × (d.loss ≡ true)) ⊎ NoLoss ms l e
loss_or_none l e ms = elim (cases_Bool (any_of (loss_of l e) ms)) [
  | inl t ↦ (let a = any_in (loss_of l e) ms t in let p = and_parts ((a.0.log == l) && (a.0.epoch == e)) a.0.loss a.2 in
      inl (a.0.ballot, basis_of a.0, subst (λ v. In v ms) (as_made l e a.0.ballot a.0 (and_from _ _ p.0 (eq-eqb a.0.ballot a.0.ballot refl))) a.1, p.1))
  | inr t ↦ inr (λ b d i. elim (cases_Bool d.loss) [
    | inl k ↦ absurd (not_both (any_of (loss_of l e) ms) (any_from (loss_of l e) (plan_of l e b d) ms i (and_from _ _ (and_from _ _ (eq-eqb l l refl) (eq-eqb e e refl)) k)) t)
    | inr k ↦ k
  ])
]

abbrev CutSaid : Config → List Happened → World → Option Cut → Type 0
CutSaid c hs w None = Unit {0}
CutSaid c hs w (Some k) = PlainSaid c hs w k.plain

abbrev CutCopies : List Made → List Msg → ℕ → Option Cut → Type 0
CutCopies made sent y None = Unit {0}
CutCopies made sent y (Some k) = CopiesAt made sent y k.plain

abbrev CutClean : Option Cut → Type 0
CutClean None = Unit {0}
CutClean (Some k) = PlainClean k.plain

pub summary_there : (g : Log) (e : ℕ) → 0 < e → is_some (summary_at g e) ≡ true → (s : Summary) × (find e g.summaries ≡ Some s)
unfolding summary_at
summary_there g e pos = cond_both (e == 0) (Some epoch_zero) (find e g.summaries) (λ o. is_some o ≡ true → (s : Summary) × (find e g.summaries ≡ Some s)) (λ t h. absurd (let z = eqb-true e 0 t in omega arith)) (λ t h. of_some (find e g.summaries) h)

module _ (c : Config) (hs : List Happened) (w : World) (B : Base c hs w) (R : Along c hs w) where
  pub once : AppendsOnce hs
  once l n p q a b = one_payload hs w.state.sequencers w.state.register B.0.1 l n a.0 b.0 p q a.1 b.1

  -- a plan that has a record or a hole at a number, or vouches for nothing there, doesn't end below it
  no_item : (l n lo hi : ℕ) (x : What) → (en : Ends w.made l lo hi n) → (plan_at (epoch_of n) en.basis (esn_of n) ≡ Some x) ⊎ (esn_of n ≤ plan_floor (epoch_of n) en.basis.digest) → ⊥
  no_item l n lo hi x en (inl q) = let v = en.before in not_below (epoch_of n) (esn_of n) en.basis.loss en.basis.digest x q (omega arith)
  no_item l n lo hi x en (inr q) = let v = en.before in floor_not_below (epoch_of n) (esn_of n) en.basis.digest q (omega arith)

  -- no plan that found what it says ends below an acknowledged number
  pub acked_not_ended : (l n lo hi : ℕ) → Acknowledged c hs w.state.network.sent w.state.register l n → (en : Ends w.made l lo hi n) → en.basis.loss ≡ false → ⊥
  acked_not_ended l n lo hi a en fd = no_item l n lo hi (Rec a.payload) en (acked_item c hs w.made w.state.network.sent w.state.register once R.once R.plans R.last l n en.ballot en.basis a en.planned fd)

  -- no later plan that found what it says ends below a number of the closing plan
  not_ended : (l n hi : ℕ) (y : Summary) → (k : ClosedBy c hs w.made w.state.network.sent w.state.register l (epoch_of n) y) → plan_floor (epoch_of n) k.plan.basis.digest < esn_of n → esn_of n < plan_end (epoch_of n) k.plan.basis.digest → (en : Ends w.made l y.ballot hi n) → en.basis.loss ≡ false → ⊥
  not_ended l n hi y k lo up en fd = by_fixed (full.fixed n refl lo up) where
    full : FullClose c hs w.state.network.sent w.state.register l (epoch_of n) y.ballot k.plan.basis
    full = full_of c hs w.made w.state.network.sent w.state.register once R.once R.plans R.last l (epoch_of n) en.ballot y en.basis (closed_last c hs w R) k en.planned en.above

    by_fixed : Fixed c hs w.state.network.sent w.state.register l n y.ballot → ⊥
    by_fixed (inl a) = acked_not_ended l n y.ballot hi a en fd
    by_fixed (inr h) =
        let s = k.plan in
        let x = content s.basis.loss (best (numbered (epoch_of n) (esn_of n)) s.basis.digest) in
        let p : plan_at (epoch_of n) s.basis (esn_of n) ≡ Some x = plan_between (epoch_of n) s.basis.loss s.basis.digest (esn_of n) lo up in
        let t = plan_ends c hs w.made w.state.network.sent w.state.register once R.once R.plans R.last l (epoch_of n) y.ballot s.basis s.planned in
        let late = (R.plans l (epoch_of n) y.ballot s.basis s.planned).later in
        no_item l n y.ballot hi x en (agrees hs w.made w.state.network.sent (fixed_of c w.state.register l) once R.once l (λ e. Unit {0}) (λ e a g f d i j lt lo. R.last l e a g f d i j lt lo) (λ e a f u j lo. plan_facts c hs w.state.network.sent w.made w.state.register l e a f (R.plans l e a f j) lo)
        n y.ballot en.ballot x en.basis tt (omega arith) en.above en.planned fd h (inr (record { later = late; basis = s.basis; planned = s.planned; item = p })) (content_no_bridge s.basis.loss _) (λ z. found_no_plug _ (ap (λ v. content v (best (numbered (epoch_of n) (esn_of n)) s.basis.digest)) (sym full.found) ∙ z)))

module _ (c : Config) (hs : List Happened) (w : World) (B : BaseGiven c hs w × Along c hs w) where
  -- ---- both plain states of a node ----
  pub said_at : (y : ℕ) (p : Plain) → MayHold (node_at w.state y) p → PlainSaid c hs w p
  said_at y p (inl q) = subst (PlainSaid c hs w) (sym q) (B.1.said.nodes y).plain
  said_at y p (inr h) = subst (PlainSaid c hs w) (sym h.2) (by_cut (node_at w.state y).cut h.1 (B.1.said.nodes y).cut) where
    by_cut : (o : Option Cut) → o ≡ Some h.0 → CutSaid c hs w o → PlainSaid c hs w h.0.plain
    by_cut None q H = absurd (not_none q)
    by_cut (Some x) q H = subst (λ (v : Cut). PlainSaid c hs w v.plain) (Some_inj q) H

  pub copied_at : (y : ℕ) (p : Plain) → MayHold (node_at w.state y) p → CopiesAt w.made w.state.network.sent y p
  copied_at y p (inl q) = subst (CopiesAt w.made w.state.network.sent y) (sym q) (B.1.copies y).plain
  copied_at y p (inr h) = subst (CopiesAt w.made w.state.network.sent y) (sym h.2) (by_cut (node_at w.state y).cut h.1 (B.1.copies y).cut) where
    by_cut : (o : Option Cut) → o ≡ Some h.0 → CutCopies w.made w.state.network.sent y o → CopiesAt w.made w.state.network.sent y h.0.plain
    by_cut None q H = absurd (not_none q)
    by_cut (Some x) q H = subst (λ (v : Cut). CopiesAt w.made w.state.network.sent y v.plain) (Some_inj q) H

  pub clean_at : (y : ℕ) (p : Plain) → MayHold (node_at w.state y) p → PlainClean p
  clean_at y p (inl q) = subst PlainClean (sym q) (B.1.cleans y).plain
  clean_at y p (inr h) = subst PlainClean (sym h.2) (by_cut (node_at w.state y).cut h.1 (B.1.cleans y).cut) where
    by_cut : (o : Option Cut) → o ≡ Some h.0 → CutClean o → PlainClean h.0.plain
    by_cut None q H = absurd (not_none q)
    by_cut (Some x) q H = subst (λ (v : Cut). PlainClean v.plain) (Some_inj q) H

  -- a node's summary is the one that closed its epoch
  pub same_summary : (l e y : ℕ) (p : Plain) (z k : Summary) → MayHold (node_at w.state y) p → 0 < e → find e (log_of p l).summaries ≡ Some z → find e (epochs_of w.state.register l).summaries ≡ Some k → z ≡ k
  same_summary l e y p z k m pos f g = elim ((said_at y p m l).summaries (e, z) (find_in e (log_of p l).summaries z f)).1 [
    | inl a ↦ absurd (let u = a.0 in omega arith)
    | inr a ↦ Some_inj (sym a.found_so ∙ g)
  ]

  -- ---- acknowledged appends of epochs without a loss plan ----
  module _ (l n : ℕ) (nl : NoLoss w.made l (epoch_of n)) (a : Acknowledged c hs w.state.network.sent w.state.register l n) where
    held_what : (f : Entry) → SaidHere hs w.made w.state.register l f.ballot n f.what → f.what ≡ Rec a.payload
    held_what f s = elim s.says [
      | inl o ↦ elim (acked_own c hs w.made w.state.network.sent w.state.register (once c hs w B.0.0 B.1) B.1.once B.1.plans B.1.last l n f.ballot f.what a o) [ inl z ↦ own_what z | inr z ↦ absurd (no_loss z) ]
      | inr (inl o) ↦ own_what o.good.says
      | inr (inr o) ↦ absurd (no_loss o.says.says)
    ] where
      own_what : OwnSays hs l (epoch_of n) n f.what → f.what ≡ Rec a.payload
      own_what o = o.is ∙ ap Rec (once c hs w B.0.0 B.1 l n o.payload a.payload o.appended a.appended)

      no_loss : LossSays w.made l n f.what → ⊥
      no_loss o = not_both o.basis.loss o.loss (nl o.ballot o.basis o.planned)

    -- what is kept of the append is its record
    kept_own : (p : Plain) → PlainSaid c hs w p → KeptBy w.made (log_of p l) l n (epoch_of n) → (n ≤ (log_of p l).trim) ⊎ HoldsItem p l n (epoch_of n) (Rec a.payload)
    kept_own p O (inl h) = inl h
    kept_own p O (inr (inr h)) = absurd (acked_not_ended c hs w B.0.0 B.1 l n (epoch_of n) _ a h (nl h.ballot h.basis h.planned))
    kept_own p O (inr (inl h)) = let z = (O l).entries (n, h.entry) (find_in n (log_of p l).entries h.entry h.found_at) in
        inr (h.entry, h.found_at, h.least, held_what h.entry (subst (λ k. SaidHere hs w.made w.state.register l h.entry.ballot k h.entry.what) z.0 z.1))

  -- ---- numbers that were known good as their epoch was closed ----
  module _ (l n : ℕ) (y : Summary) (nl : NoLoss w.made l (epoch_of n)) (k : ClosedBy c hs w.made w.state.network.sent w.state.register l (epoch_of n) y) (pos : 0 < esn_of n) (low : esn_of n ≤ y.lng) where
    not_elsewhere : (z : ℕ) (p : Plain) → MayHold (node_at w.state z) p → Elsewhere (log_of p l) n (epoch_of n) → ⊥
    not_elsewhere z p m h = let q = same_summary l (epoch_of n) z p h.0 y m k.positive h.1 k.found_so in by_another (subst (λ (v : Summary). Another v n (epoch_of n)) q h.2) where
      by_another : Another y n (epoch_of n) → ⊥
      by_another (inl v) = v.1 refl
      by_another (inr (inl v)) = let u = v.0 in omega arith
      by_another (inr (inr v)) = let u = k.plan.lng in let e = k.plan.end in let f = floor_lng (epoch_of n) k.plan.basis.digest in let g = end_above_floor (epoch_of n) k.plan.basis.digest in omega arith

    -- a node that stored the append is blank, lost, trimmed there, or has its record
    pub good_held : (z : ℕ) → Stored w l z n (epoch_of n) → (p : Plain) → MayHold (node_at w.state z) p → (p.generation ≡ 0) ⊎ ((is_lost (log_of p l) (epoch_of n) ≡ true) ⊎ ((n ≤ (log_of p l).trim) ⊎ HoldsItem p l n (epoch_of n) (Rec (k.plan.good n refl pos low).payload)))
    good_held z i p m = elim (copied_at z p m l n (epoch_of n) pos (inl i)) [
      | inl h ↦ inl h
      | inr (inl h) ↦ inr (inl h)
      | inr (inr (inl h)) ↦ inr (inr (kept_own l n nl (k.plan.good n refl pos low) p (said_at z p m) h))
      | inr (inr (inr h)) ↦ absurd (not_elsewhere z p m h)
    ]

    -- what is kept of a number has at least the ballot of its epoch
    own_ballot : (p : Plain) (f : Entry) → SaidHere hs w.made w.state.register l f.ballot n f.what → epoch_of n ≤ f.ballot
    own_ballot p f s = elim s.says [
      | inl o ↦ elim o [ inl a ↦ (let u = a.own in omega arith) | inr a ↦ (let u = a.later in omega arith) ]
      | inr o ↦ elim o [ inl a ↦ at_close a.summary a.found_so a.ballot | inr a ↦ at_close a.summary a.found_so a.ballot ]
    ] where
      at_close : (v : Summary) → find (epoch_of n) (epochs_of w.state.register l).summaries ≡ Some v → f.ballot ≡ v.ballot → epoch_of n ≤ f.ballot
      at_close v h q = let u : v.ballot ≡ y.ballot = ap (λ (x : Summary). x.ballot) (Some_inj (sym h ∙ k.found_so)) in let g = (B.1.plans l (epoch_of n) y.ballot k.plan.basis k.plan.planned).later in omega arith

    -- so is one that took a place in the epoch
    pub joined_good : (z : ℕ) → has_joined w l (epoch_of n) z ≡ true → (p : Plain) → MayHold (node_at w.state z) p → (p.generation ≡ 0) ⊎ ((is_lost (log_of p l) (epoch_of n) ≡ true) ⊎ ((n ≤ (log_of p l).trim) ⊎ HoldsItem p l n (epoch_of n) (Rec (k.plan.good n refl pos low).payload)))
    joined_good z j p m = elim ((B.1.joined l (epoch_of n) z j).fallen p m) [
      | inl h ↦ inl h
      | inr h ↦ elim (cases_Bool (is_lost (log_of p l) (epoch_of n))) [
        | inl u ↦ inr (inl u)
        | inr u ↦ inr (inr (there_again h u))
      ]
    ] where
      below_end : esn_of n < y.end
      below_end = let u = k.plan.lng in let e = k.plan.end in let f = floor_lng (epoch_of n) k.plan.basis.digest in let g = end_above_floor (epoch_of n) k.plan.basis.digest in omega arith

      full : FullLog (log_of p l)
      full = B.1.full z p m l

      there_again : epoch_of n ≤ (log_of p l).lost_to → is_lost (log_of p l) (epoch_of n) ≡ false → (n ≤ (log_of p l).trim) ⊎ HoldsItem p l n (epoch_of n) (Rec (k.plan.good n refl pos low).payload)
      there_again le u = elim (cases_lt (log_of p l).trim n) [
        | inr a ↦ inl a
        | inl a ↦
            let g = lost_no_more (log_of p l) (epoch_of n) k.positive le u in
            let s = summary_there (log_of p l) (epoch_of n) k.positive (full.clean g (epoch_of n) k.positive le) in
            let q : s.0 ≡ y = same_summary l (epoch_of n) z p s.0 y m k.positive s.1 k.found_so in
            let f = of_some (find n (log_of p l).entries) (full.full g n s.0 s.1 le a pos (subst (λ (v : Summary). esn_of n < v.end) (sym q) below_end)) in
            let o = (said_at z p m l).entries (n, f.0) (find_in n (log_of p l).entries f.0 f.1) in
            let t = subst (λ v. SaidHere hs w.made w.state.register l f.0.ballot v f.0.what) o.0 o.1 in
            inr (f.0, f.1, own_ballot p f.0 t, held_what l n nl (k.plan.good n refl pos low) f.0 t)
      ]

  -- ---- numbers that the closing plan says something of ----
  module _ (l n : ℕ) (y : Summary) (nl : NoLoss w.made l (epoch_of n)) (k : ClosedBy c hs w.made w.state.network.sent w.state.register l (epoch_of n) y) (tr : y.trim < n) (up : y.lng < esn_of n) (hi : esn_of n < y.end) where
    above : plan_floor (epoch_of n) k.plan.basis.digest < esn_of n
    above = above_floor c hs w.made w.state.network.sent w.state.register (once c hs w B.0.0 B.1) B.1.once B.1.plans B.1.last l n y k.plan (omega arith) tr up

    below : esn_of n < plan_end (epoch_of n) k.plan.basis.digest
    below = let e = k.plan.end in omega arith

    as_item : (x : What) → PlanSays w.made l y.ballot n x → item w l n y.ballot ≡ Some x
    as_item x s = plan_says w l n y.ballot (plan_of l (epoch_of n) y.ballot s.basis) x s.later (has_plan l (epoch_of n) y.ballot w.made s.basis B.1.once s.planned) s.item

    elsewhere : (z : ℕ) (p : Plain) → MayHold (node_at w.state z) p → Elsewhere (log_of p l) n y.ballot → ⊥
    elsewhere z p m h = let q = same_summary l (epoch_of n) z p h.0 y m k.positive h.1 k.found_so in by_another (subst (λ (v : Summary). Another v n y.ballot) q h.2) where
      by_another : Another y n y.ballot → ⊥
      by_another (inl v) = let u = v.0 in omega arith
      by_another (inr (inl v)) = v.1 refl
      by_another (inr (inr v)) = omega arith

    -- an entry of at least the closing ballot is what the closing plan says
    held_item : (z : ℕ) (p : Plain) (f : Entry) → MayHold (node_at w.state z) p → find n (log_of p l).entries ≡ Some f → y.ballot ≤ f.ballot → (x : What) × (item w l n y.ballot ≡ Some x) × HoldsItem p l n y.ballot x
    held_item z p f m i le = (f.what, as_item f.what says, (f, i, le, refl)) where
      o : (f.number ≡ n) × SaidHere hs w.made w.state.register l f.ballot f.number f.what
      o = (said_at z p m l).entries (n, f) (find_in n (log_of p l).entries f i)

      says : PlanSays w.made l y.ballot n f.what
      says = let num = o.0 in
          let kf = subst (λ v. ClosedBy c hs w.made w.state.network.sent w.state.register l (epoch_of v) y) (sym num) k in
          let es = ap esn_of num in
          elim (kept_says c hs w.made w.state.network.sent w.state.register (once c hs w B.0.0 B.1) B.1.once B.1.plans B.1.last l f y (closed_last c hs w B.1) kf (inl le) (omega arith) (omega arith) (omega arith) o.1.says) [
            | inl a ↦ subst (λ v. PlanSays w.made l y.ballot v f.what) num a
            | inr (inl a) ↦ absurd (let v = a.low in omega arith)
            | inr (inr a) ↦ absurd (let z = a.says in not_both z.basis.loss z.loss (nl z.ballot z.basis (subst (λ v. In (plan_of l (epoch_of v) z.ballot z.basis) w.made) num z.planned)))
          ]

    closed_copy : (z : ℕ) → has_told w (says_settled n) l y.ballot z ≡ true → CopyAt w l n y.ballot z
    closed_copy z t p m = by_copy (copied_at z p m l n y.ballot (omega arith) (told_settled w.state.network.sent l n y.ballot z t)) where
      by_copy : (p.generation ≡ 0) ⊎ Copied w.made l (log_of p l) n y.ballot → (p.generation ≡ 0) ⊎ ((is_lost (log_of p l) (epoch_of n) ≡ true) ⊎ ((n ≤ (log_of p l).trim) ⊎ ((x : What) × (item w l n y.ballot ≡ Some x) × HoldsItem p l n y.ballot x)))
      by_copy (inl h) = inl h
      by_copy (inr (inl h)) = inr (inl h)
      by_copy (inr (inr (inr h))) = absurd (elsewhere z p m h)
      by_copy (inr (inr (inl (inl h)))) = inr (inr (inl h))
      by_copy (inr (inr (inl (inr (inr h))))) = absurd (not_ended c hs w B.0.0 B.1 l n _ y k above below h (nl h.ballot h.basis h.planned))
      by_copy (inr (inr (inl (inr (inl h))))) = inr (inr (inr (held_item z p h.entry m h.found_at h.least)))

    -- ---- an epoch that was closed short ----

    -- a node that fell, and may have been filled again, is blank, lost, trimmed there, or has what the closing plan says
    back_copy : (z : ℕ) → ((p : Plain) → MayHold (node_at w.state z) p → Fallen p l (epoch_of n)) → CopyAt w l n y.ballot z
    back_copy z t p m = elim (t p m) [
      | inl h ↦ inl h
      | inr h ↦ elim (cases_Bool (is_lost (log_of p l) (epoch_of n))) [
        | inl u ↦ inr (inl u)
        | inr u ↦ inr (inr (refilled_there h u))
      ]
    ] where
      full : FullLog (log_of p l)
      full = B.1.full z p m l

      refilled_there : epoch_of n ≤ (log_of p l).lost_to → is_lost (log_of p l) (epoch_of n) ≡ false → (n ≤ (log_of p l).trim) ⊎ ((x : What) × (item w l n y.ballot ≡ Some x) × HoldsItem p l n y.ballot x)
      refilled_there le u = elim (cases_lt (log_of p l).trim n) [
        | inr a ↦ inl a
        | inl a ↦
            let g = lost_no_more (log_of p l) (epoch_of n) k.positive le u in
            let s = summary_there (log_of p l) (epoch_of n) k.positive (full.clean g (epoch_of n) k.positive le) in
            let q : s.0 ≡ y = same_summary l (epoch_of n) z p s.0 y m k.positive s.1 k.found_so in
            let f = of_some (find n (log_of p l).entries) (full.full g n s.0 s.1 le a (omega arith) (subst (λ (v : Summary). esn_of n < v.end) (sym q) hi)) in
            let ky = subst (λ (v : Summary). find (epoch_of n) (log_of p l).summaries ≡ Some v) q s.1 in
            inr (held_item z p f.0 m f.1 (elim ((clean_at z p m l).least (n, f.0) y (find_in n (log_of p l).entries f.0 f.1) ky) [ inl v ↦ v | inr v ↦ absurd (omega arith) ]))
      ]

    -- so one that told the ballot that it is lost
    fallen_copy : (z : ℕ) → LostTold w.state.network.sent l (epoch_of n) y.ballot z → CopyAt w l n y.ballot z
    fallen_copy z t = back_copy z (λ p m. elim ((B.1.lost_said l z y.ballot t.number t.round t.generation t.end t.said (let h = t.home in let q = k.positive in omega arith)).2 p m) [
      | inl h ↦ inl h
      | inr h ↦ inr (subst (λ e. e ≤ (log_of p l).lost_to) t.home h)
    ])

    -- and one that took a place in the epoch
    joined_copy : (z : ℕ) → has_joined w l (epoch_of n) z ≡ true → CopyAt w l n y.ballot z
    joined_copy z j = back_copy z (B.1.joined l (epoch_of n) z j).fallen

    settled_copy : (z : ℕ) → has_settled w l n y.ballot z ≡ true → CopyAt w l n y.ballot z
    settled_copy z h = elim (or_cases (has_told w (says_settled n) l y.ballot z) (has_joined w l (epoch_of n) z) h) [ inl t ↦ closed_copy z t | inr j ↦ joined_copy z j ]

    -- as many as settled it of the nodes that were fixed are there now
    now_settled : (fixed_of c w.state.register l (epoch_of n)).r ≤ how_many (tells_settled w.state.network.sent l n y.ballot) (fixed_at c w.state.register l (epoch_of n)) → (spec_of c w.state.register l (epoch_of n)).r ≤ how_many (has_settled w l n y.ballot) (set_at c w.state.register l (epoch_of n))
    now_settled h =
        let a = count_mono (tells_settled w.state.network.sent l n y.ballot) (has_settled w l n y.ballot) (fixed_at c w.state.register l (epoch_of n)) (λ z i t. or_left (has_told w (says_settled n) l y.ballot z) (has_joined w l (epoch_of n) z) t) in
        let b = now_count c w.joined w.state.register l (epoch_of n) (has_settled w l n y.ballot) B.1.follow B.1.each k.plan.reached (λ z j. or_right (has_told w (says_settled n) l y.ballot z) (has_joined w l (epoch_of n) z) j) in
        let f = (look_like c w.state.register l (epoch_of n) B.1.each k.plan.reached).factor in omega arith

    -- each item of the closing plan was settled
    closed_copies : Ready c w l (epoch_of n) y.ballot → CopiesOf c w l n y.ballot
    unfolding settled upheld
    closed_copies r =
        let x = content k.plan.basis.loss (best (numbered (epoch_of n) (esn_of n)) k.plan.basis.digest) in
        let late = (B.1.plans l (epoch_of n) y.ballot k.plan.basis k.plan.planned).later in
        record {
          enough = le-leb _ _ (now_settled (leb-true _ _ (r n x refl (as_item x (record { later = late; basis = k.plan.basis; planned = k.plan.planned; item = plan_between (epoch_of n) k.plan.basis.loss k.plan.basis.digest (esn_of n) above below })))));
          kept = settled_copy;
        }

    closed_short : SpecFine (fixed_of c w.state.register l (epoch_of n)) → ShortCopies c w l n y.ballot
    closed_short sf = elim k.plan.how [
      | inl h ↦ record {
        nodes = filter (has_settled w l n y.ballot) (set_at c w.state.register l (epoch_of n));
        apart = filter_apart (has_settled w l n y.ballot) (set_at c w.state.register l (epoch_of n)) (members_apart (spec_of c w.state.register l (epoch_of n)).set);
        of_epoch = λ z i. in_set z (set_at c w.state.register l (epoch_of n)) (In_filter (has_settled w l n y.ballot) z (set_at c w.state.register l (epoch_of n)) i).0;
        enough = let a = now_settled (h.copies n refl above (let v = below in omega arith)) in let b = filter_count (has_settled w l n y.ballot) (set_at c w.state.register l (epoch_of n)) in omega arith;
        kept = λ z i. settled_copy z (In_filter (has_settled w l n y.ballot) z (set_at c w.state.register l (epoch_of n)) i).1;
      }
      | inr h ↦ record {
        nodes = set_at c w.state.register l (epoch_of n);
        apart = members_apart (spec_of c w.state.register l (epoch_of n)).set;
        of_epoch = λ z i. in_set z (set_at c w.state.register l (epoch_of n)) i;
        enough = (let a = look_like c w.state.register l (epoch_of n) B.1.each k.plan.reached in let u = a.factor in let v = a.size in let m = sf.most in omega arith);
        kept = λ z i. elim (now_members c w.joined w.state.register l (epoch_of n) z B.1.follow B.1.each k.plan.reached i) [
          | inl j ↦ elim (h.settled n refl above (let v = below in omega arith) z j) [ inl t ↦ closed_copy z t | inr t ↦ fallen_copy z t ]
          | inr j ↦ joined_copy z j
        ];
      }
    ]

  -- ---- in each closed epoch ----
  pub has_loss : (l e b : ℕ) (d : Basis) → In (plan_of l e b d) w.made → d.loss ≡ true → HasLoss w l e
  has_loss l e b d i lo = (b, plan_of l e b d, has_plan l e b w.made d B.1.once i, lo)

  module _ (l e k : ℕ) (s : Summary) (f : Closed w l e s) (tr : s.trim < numbered e k) (lo : s.lng < k) (hi : k < s.end) where
    by_closed : (P : ℕ → Type 0) → ((n : ℕ) → numbered e k ≡ n → epoch_of n ≡ e → ClosedBy c hs w.made w.state.network.sent w.state.register l (epoch_of n) s → NoLoss w.made l (epoch_of n) → s.trim < n → s.lng < esn_of n → esn_of n < s.end → P n) → P (numbered e k) ⊎ HasLoss w l e
    by_closed P h = elim (B.1.said.register l e s f).1 [
      | inl a ↦ absurd (let z = a.1 in omega arith)
      | inr a ↦ elim (loss_or_none l e w.made) [
        | inl b ↦ inr (has_loss l e b.0 b.1 b.2 b.3)
        | inr b ↦
            let en = plan_ends c hs w.made w.state.network.sent w.state.register (once c hs w B.0.0 B.1) B.1.once B.1.plans B.1.last l e s.ballot a.plan.basis a.plan.planned in let ez = a.plan.end in
            let ep : e ≡ epoch_of (numbered e k) = omega arith in
            inl (h (numbered e k) refl (sym ep) (subst (λ x. ClosedBy c hs w.made w.state.network.sent w.state.register l x s) ep a) (subst (NoLoss w.made l) ep b) tr (omega arith) (omega arith))
      ]
    ]

    pub copies_here : Ready c w l e s.ballot → CopiesOf c w l (numbered e k) s.ballot ⊎ HasLoss w l e
    copies_here r = by_closed (λ n. CopiesOf c w l n s.ballot) (λ n q ep a nl tr lo hi. closed_copies l n s nl a tr lo hi (subst (λ x. Ready c w l x s.ballot) (sym ep) r))

    pub short_here : SpecFine (fixed_of c w.state.register l e) → ShortCopies c w l (numbered e k) s.ballot ⊎ HasLoss w l e
    short_here sf = by_closed (λ n. ShortCopies c w l n s.ballot) (λ n q ep a nl tr lo hi. closed_short l n s nl a tr lo hi (subst (λ x. SpecFine (fixed_of c w.state.register l x)) (sym ep) sf))
