-- A plan of a digest that is enough isn't ready to be closed as it begins: it has an item, each item needs a copy, and a node that told all isn't lost.
use Rattle.std.proofs.Common.{◌≡◌, ◌∙◌, ℕ, ◌+◌, inl, inr, refl, ap, sym, subst, true, false, not, ◌&&◌, ◌||◌, nat_le, List, [], ◌∷◌, ◌++◌, length, map, arith}
use Rattle.std.proofs.lemmas.Bool.{cases_Bool, and_parts, or_cases, not-true, leb-true, ltb-true}
use Rattle.ld_table.specs.Words.{is_in, how_many, all_of}
use Rattle.ld_lsn.specs.Number.{numbered}
use Rattle.ld_ids.specs.Choice.{nodes_of}
use Rattle.ld_ids.specs.declared.set.Spec.{Spec}
use Rattle.ld_msg.specs.declared.msg.What.TheVariants.{Bridge}
use Rattle.ld_msg.specs.Digest.{Told, enough, Item, plan, plan_end, plan_floor, record_items, places_between}
use Rattle.ld_msg.specs.Sequencer.{Recovery, Planned, planned, storing_of, is_ready, is_fully_ready, is_ready_short}
use Rattle.ld_machine.specs.World.{In}
use Rattle.ld_safety.proofs.Lists.{some_or_none, all_in}
use Rattle.ld_safety.proofs.Specs.{SpecFine}
use Rattle.ld_safety.proofs.SequencerSteps.{is_closing}
use Rattle.ld_served.proofs.Losing.{in_map}
use Rattle.ld_served.proofs.Showing.{Shows}

-- a plan has an item that no node has settled yet
some_item : (is : List Item) (i : Item) → (p : ℕ × Planned) × In p (planned (is ++ i ∷ [])) × (p.1.settled ≡ [])
some_item [] i = ((i.number, record { what = i.what; settled = [] }), inl refl, refl)
some_item (x ∷ is) i = ((x.number, record { what = x.what; settled = [] }), inl refl, refl)

-- and where enough is told some node told all, and isn't lost
some_told : (s : Spec) (d : List Told) → SpecFine s → enough s d ≡ true → (t : Told) × In t d × ((t.whole && not t.lost) ≡ true)
unfolding enough
some_told s d F h = elim (some_or_none (λ (t : Told). t.whole && not t.lost) d) [
  | inl z ↦ z
  | inr z ↦ absurd (let l = ltb-true (length (nodes_of s)) (s.r + how_many (λ (t : Told). t.whole && not t.lost) d) h in let m = F.most in omega arith)
]

pub begins_unready : (v : Recovery) (d : List Told) → SpecFine v.spec → map (λ (t : Told). t.node) d ≡ nodes_of v.spec → Shows v.lost d → enough v.spec d ≡ true → is_closing v (storing_of (plan v.epoch false d)) ≡ false
unfolding plan is_ready is_ready_short
begins_unready v d F n S h = elim (cases_Bool (is_closing v (storing_of (plan v.epoch false d)))) [
  | inl t ↦ absurd (elim (or_cases (is_fully_ready v.spec (storing_of (plan v.epoch false d))) (is_ready_short v.spec v.lost (storing_of (plan v.epoch false d))) t) [
    | inl a ↦ (
        let b = all_in (λ (i : ℕ × Planned). nat_le v.spec.r (length i.1.settled)) item.0 (planned (plan v.epoch false d).items) a item.1 in
        let e : length item.0.1.settled ≡ 0 = ap length item.2 in
        let k = leb-true v.spec.r (length item.0.1.settled) b in let m = F.least in omega arith)
    | inr a ↦ (
        let told = some_told v.spec d F h in
        let p = and_parts told.0.whole (not told.0.lost) told.2 in
        let here : In told.0.node (nodes_of v.spec) = subst (In told.0.node) n (in_map told.0 d told.1) in
        let b = all_in (λ (i : ℕ × Planned). all_of (λ y. is_in y i.1.settled || is_in y v.lost) (nodes_of v.spec)) item.0 (planned (plan v.epoch false d).items) a item.1 in
        let c = all_in (λ y. is_in y item.0.1.settled || is_in y v.lost) told.0.node (nodes_of v.spec) b here in
        let lost : is_in told.0.node v.lost ≡ true = subst (λ ys. (is_in told.0.node ys || is_in told.0.node v.lost) ≡ true) item.2 c in
        let shown : told.0.lost ≡ true = S told.0 told.1 lost in
        let no : told.0.lost ≡ false = not-true told.0.lost p.1 in
        let z : true ≡ false = sym shown ∙ no in cc)
  ])
  | inr t ↦ t
] where
  item : (p : ℕ × Planned) × In p (planned (plan v.epoch false d).items) × (p.1.settled ≡ [])
  item = some_item (record_items v.epoch false d (places_between (plan_floor v.epoch d) (plan_end v.epoch d))) (record { number = numbered v.epoch (plan_end v.epoch d); what = Bridge })
