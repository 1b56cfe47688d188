-- Numbers that a reader is told are lost without a confirmation are of an epoch that has a plan that says what is lost.
use Rattle.std.proofs.Common.{◌≡◌, ◌∙◌, ◌⊎◌, ◌≤◌, ◌<◌, ℕ, ◌+◌, ◌-◌, inl, inr, refl, ap, sym, subst, Bool, true, false, ◌==◌, nat_lt, if◌then◌else◌, List, Some, arith}
use Rattle.std.proofs.lemmas.Bool.{cases_Bool, cases_order, and_parts, and_from, eqb-true, ltb-true, lt-ltb, eq-eqb}
use Rattle.ld_table.specs.Named.{find_named}
use Rattle.ld_lsn.specs.Number.{epoch_of, esn_of, numbered, home_epoch, is_epoch_end}
use Rattle.ld_config.specs.declared.config.Config.{Config}
use Rattle.ld_msg.specs.declared.msg.What.TheVariants.{Rec, Bridge, Plug}
use Rattle.ld_msg.specs.declared.msg.Summary.{Summary}
use Rattle.ld_msg.specs.declared.msg.Msg.{Msg}
use Rattle.ld_msg.specs.declared.msg.Who.TheVariants as whos
use Rattle.ld_msg.specs.declared.msg.Body.{Body}
use Rattle.ld_msg.specs.Digest.{best, content}
use Rattle.ld_msg.specs.Reading.{Held, bridge_to}
use Rattle.ld_msg.specs.Reader.{Reader, heard}
use Rattle.ld_machine.specs.Facts.{Happened}
use Rattle.ld_machine.specs.World.{World, Made, In, Sent}
use Rattle.ld_machine.specs.Step as Step
use Rattle.ld_safety.proofs.Lists.{not_both}
use Rattle.ld_safety.proofs.Plans.{plan_shape, end_above_trim}
use Rattle.ld_safety.proofs.Losses.{found_no_plug}
use Rattle.ld_safety.proofs.Base.{Base}
use Rattle.ld_safety.proofs.GivenItems.{page_with, page_told}
use Rattle.ld_safety.proofs.Protocol.{Basis, plan_of, PlanSays}
use Rattle.ld_safety.proofs.Settled.{OfZero, ClosedBy, TrimFine, CloseFine, ShowFine, ReleaseFine, LngFine, Reached}
use Rattle.ld_safety.proofs.Said.{Said, SaidHere}
use Rattle.ld_safety.proofs.Plannings.{ends_in}
use Rattle.ld_safety.proofs.Along.{Along}
use Rattle.ld_safety.proofs.ItemsShown.{ended_at, home_numbered}
use Rattle.ld_safety.proofs.LostReads.{PlugAt, LossyEnd, heard_held}
use Rattle.ld_safety.proofs.LostLines.{ToldLost}
use Rattle.ld_safety.proofs.Carried as carried

-- ---- numbers ----
end_facts : (s : ℕ) → is_epoch_end s ≡ true → (esn_of s ≡ 0) × (0 < epoch_of s)
end_facts s h = let p = and_parts (esn_of s == 0) (nat_lt 0 (epoch_of s)) h in (eqb-true _ _ p.0, ltb-true _ _ p.1)

no_end_facts : (s : ℕ) → is_epoch_end s ≡ false → esn_of s ≡ 0 → 0 < epoch_of s → ⊥
no_end_facts s h a b = not_both (is_epoch_end s) (and_from (esn_of s == 0) (nat_lt 0 (epoch_of s)) (eq-eqb _ _ a) (lt-ltb _ _ b)) h

-- the numbers from one to the end of its epoch are of that epoch
home_between : (s n : ℕ) → s ≤ n → n ≤ bridge_to s → home_epoch n ≡ home_epoch s
home_between s n a b = by_end (is_epoch_end s) (is_epoch_end n) refl refl b where
  by_end : (t u : Bool) → is_epoch_end s ≡ t → is_epoch_end n ≡ u → n ≤ numbered ((if t then epoch_of s - 1 else epoch_of s) + 1) 0 → (if u then epoch_of n - 1 else epoch_of n) ≡ (if t then epoch_of s - 1 else epoch_of s)
  by_end true true h g le = let x = end_facts s h in let y = end_facts n g in omega arith
  by_end true false h g le = absurd (let x = end_facts s h in no_end_facts n g (omega arith) (omega arith))
  by_end false true h g le = let y = end_facts n g in elim (cases_order (esn_of s) 0) [
    | inl e ↦ elim (cases_order (epoch_of s) 0) [
      | inl z ↦ omega arith
      | inr (inl z) ↦ absurd (omega arith)
      | inr (inr z) ↦ absurd (no_end_facts s h e z)
    ]
    | inr (inl z) ↦ absurd (omega arith)
    | inr (inr z) ↦ omega arith
  ]
  by_end false false h g le = elim (cases_order (epoch_of n) (epoch_of s)) [
    | inl z ↦ z
    | inr (inl z) ↦ absurd (omega arith)
    | inr (inr z) ↦ absurd (no_end_facts n g (omega arith) (omega arith))
  ]

home_of : (s : ℕ) → 0 < esn_of s → home_epoch s ≡ epoch_of s
home_of s h = by_end (is_epoch_end s) refl where
  by_end : (t : Bool) → is_epoch_end s ≡ t → (if t then epoch_of s - 1 else epoch_of s) ≡ epoch_of s
  by_end true q = absurd (let x = end_facts s q in omega arith)
  by_end false q = refl

-- ---- what is told ----

-- a plan of the epoch that says what is lost
abbrev pub LossPlan : List Made → ℕ → ℕ → Type 0
LossPlan made l e = (b : ℕ) × (d : Basis) × In (plan_of l e b d) made × (d.loss ≡ true)

module _ (c : Config) (hs : List Happened) (w : World) (B : Base c hs w) (R : Along c hs w) where
  -- only a loss plan has a plug
  plan_lost : (l b n : ℕ) → PlanSays w.made l b n Plug → LossPlan w.made l (epoch_of n)
  plan_lost l b n s = (
    b,
    s.basis,
    s.planned,
    elim (cases_Bool s.basis.loss) [
      | inl t ↦ t
      | inr t ↦ absurd (let k = (plan_shape (epoch_of n) s.basis.loss s.basis.digest (esn_of n) Plug s.item).kind in elim k [
        | inl u ↦ found_no_plug (best (numbered (epoch_of n) (esn_of n)) s.basis.digest) (ap (λ v. content v (best (numbered (epoch_of n) (esn_of n)) s.basis.digest)) (sym t) ∙ sym u.1)
        | inr u ↦ (let z : Plug ≡ Bridge = u.1 in cc)
      ])
    ],
  )

  said_plug : (l b n : ℕ) → SaidHere hs w.made w.state.register l b n Plug → LossPlan w.made l (home_epoch n)
  said_plug l b n s = subst (LossPlan w.made l) (sym (home_of n s.given.place.above)) (elim s.says [
    | inl (inl o) ↦ absurd (let z : Plug ≡ Rec o.payload = o.is in cc)
    | inl (inr o) ↦ plan_lost l b n o
    | inr (inl o) ↦ absurd (let z : Plug ≡ Rec o.good.says.payload = o.good.says.is in cc)
    | inr (inr o) ↦ (let z = o.says.says in (z.ballot, z.basis, z.planned, z.loss))
  ])

  module _ (name : List ℕ) (d : Reader) (f : find_named name w.state.readers ≡ Some d) (m : Msg) (sent : Sent w m) (to : m.to ≡ whos.Reader d.number) where
    abbrev HeldSaid : ℕ → Body → Type 0
    HeldSaid l b = carried.HeldOk (Said hs w.made w.state.register) (TrimFine c hs w.state.network.sent w.state.register) (CloseFine c hs w.made w.state.network.sent w.state.register) (Reached w.state.register) (ShowFine c hs w.made w.state.network.sent w.state.register) (ReleaseFine c hs w.state.network.sent w.state.register) (SaidHere hs w.made w.state.register) (LngFine c hs w.state.network.sent w.state.register) l b

    abbrev after : Reader
    after = heard d (Step.sender_node m.from) m.body

    held_said : (h : ℕ × Held) → In h (heard d (Step.sender_node m.from) m.body).held → HeldSaid d.log h.1.body
    held_said h i = elim (heard_held d (Step.sender_node m.from) m.body h i) [
      | inl j ↦ R.said.readers name d f h j
      | inr q ↦ subst (λ (x : ℕ × Held). HeldSaid d.log x.1.body) (sym q) (subst (λ l. HeldSaid l m.body) (sym (B.1.1.logs m d.number name d sent (inl to) f refl))
          (carried.held_of (Said hs w.made w.state.register) (TrimFine c hs w.state.network.sent w.state.register) (CloseFine c hs w.made w.state.network.sent w.state.register) (Reached w.state.register) (ShowFine c hs w.made w.state.network.sent w.state.register) (ReleaseFine c hs w.state.network.sent w.state.register) (SaidHere hs w.made w.state.register) (LngFine c hs w.state.network.sent w.state.register) m.log m.from m.body (R.said.sent m sent).0))
    ]

    plug_planned : (s : ℕ) → PlugAt s (heard d (Step.sender_node m.from) m.body).held → LossPlan w.made d.log (home_epoch s)
    plug_planned s (h, i, p) =
        let x = page_with s Plug h.1.body p in
        let o = subst (HeldSaid d.log) x.is_page (held_said h i) in
        subst (λ n. LossPlan w.made d.log (home_epoch n)) x.number (said_plug d.log x.entry.ballot x.entry.number (subst (λ z. SaidHere hs w.made w.state.register d.log x.entry.ballot x.entry.number z) x.what (o.0 x.entry (page_told s Plug h.1.body x refl))))

    closed_lost : (s e end : ℕ) (y : Summary) → OfZero e y ⊎ ClosedBy c hs w.made w.state.network.sent w.state.register d.log e y → end ≡ numbered e y.end → home_epoch end ≡ home_epoch s → y.loss ≡ true → LossPlan w.made d.log (home_epoch s)
    closed_lost s e end y (inl z) q h lo = absurd (not_both y.loss lo z.2)
    closed_lost s e end y (inr b) q h lo =
        let k = ends_in c hs w.state.network.sent w.made w.state.register d.log e y.ballot b.plan.basis (R.plans d.log e y.ballot b.plan.basis b.plan.planned) in let m = end_above_trim e b.plan.basis.digest in let ye = b.plan.end in
        let hn = home_numbered e y.end (omega arith) (omega arith) in
        subst (LossPlan w.made d.log) (sym (sym h ∙ (ap home_epoch q ∙ hn))) (y.ballot, b.plan.basis, b.plan.planned, sym b.plan.loss ∙ lo)

    end_planned : (s : ℕ) → LossyEnd s (heard d (Step.sender_node m.from) m.body).held → LossPlan w.made d.log (home_epoch s)
    end_planned s (h, i, p) =
        let x = ended_at s true h.1.body p in
        let o : carried.EndedOk (Said hs w.made w.state.register) (TrimFine c hs w.state.network.sent w.state.register) (CloseFine c hs w.made w.state.network.sent w.state.register) (Reached w.state.register) (ShowFine c hs w.made w.state.network.sent w.state.register) (ReleaseFine c hs w.state.network.sent w.state.register) (SaidHere hs w.made w.state.register) (LngFine c hs w.state.network.sent w.state.register) d.log x.from x.end true = subst (HeldSaid d.log) x.is_end (held_said h i) in
        closed_lost s (home_epoch x.from) x.end o.summary o.closed.1 o.is x.home (sym o.lossy)

    -- what is lost by a plug, or past an end, is of such an epoch
    pub told_planned : (low high n : ℕ) → ToldLost (heard d (Step.sender_node m.from) m.body) low high → low ≤ n → n ≤ high → LossPlan w.made d.log (home_epoch n)
    told_planned low high n (inl t) a b = let q : low ≡ n = (let z = t.last in omega arith) in subst (λ k. LossPlan w.made d.log (home_epoch k)) q (plug_planned low t.plug)
    told_planned low high n (inr t) a b = subst (LossPlan w.made d.log) (sym (home_between low n a (let z = t.last in omega arith))) (end_planned low t.ended)
