-- What a call of a sequencer that waits for something sends: a recovery that begins asks all its nodes, a plan that begins goes to enough nodes, and a retry sends all again that isn't there yet.
use Rattle.std.proofs.Common.{◌≡◌, ◌∙◌, ℕ, ◌+◌, inl, inr, refl, ap, sym, subst, Bool, true, false, not, if◌then◌else◌, nat_lt, List, [], ◌∷◌, Some, None}
use Rattle.std.proofs.lemmas.Bool.{cases_Bool}
use Rattle.ld_table.specs.Words.{is_in, without}
use Rattle.ld_ids.specs.declared.set.Spec.{Spec}
use Rattle.ld_config.specs.declared.config.Config.{Config}
use Rattle.ld_msg.specs.declared.msg.What.TheVariants.{Rec}
use Rattle.ld_msg.specs.declared.msg.Msg.{Msg}
use Rattle.ld_msg.specs.declared.msg.Body.{Body}
use Rattle.ld_msg.specs.declared.msg.Body.TheVariants as bodies
use Rattle.ld_msg.specs.Choice.{choice}
use Rattle.ld_msg.specs.Register.{Register, look}
use Rattle.ld_msg.specs.Digest.{Told, no_digest}
use Rattle.ld_msg.specs.Sequencer.{Sequencer, Append, Recovery, Seals, Stores, Closes, Storing, to_each, digest_asks, begun, recovery_of, recovery_asks, is_acked, append_stores, raised, item_stores}
use Rattle.ld_machine.specs.Config.{looks_at}
use Rattle.ld_machine.specs.World.{In, to_node_of}
use Rattle.ld_safety.proofs.Lists.{Some_inj, not_none, cond_both, In_left, In_right}
use Rattle.ld_safety.proofs.Members.{filter_in}
use Rattle.ld_safety.proofs.Specs.{SpecFine}
use Rattle.ld_safety.proofs.SequencerSteps.{is_closing}
use Rattle.ld_served.proofs.Waiting.{asked_on, AllAsked, Chosen, ItemsGo, choice_enough, items_go, each_in}
use Rattle.ld_served.proofs.Passing.{map_items}
use Rattle.ld_served.proofs.Going.{store_goes, ItemGoes, AppendGoes, is_stored, append_goes, Goes}

module _ (M : Msg → Type 0) (l b : ℕ) where
  -- the messages to nodes are under way
  abbrev pub AllGo : List (ℕ × Body) → Type 0
  AllGo bs = (x : ℕ × Body) → In x bs → M (to_node_of l b x.0 x.1)

-- ---- a recovery that begins ----

asks_all : (d : List Told) (t : Told) → In t d → t.whole ≡ false → In {X = ℕ × Body} (t.node, bodies.DigestAsk t.asked) (digest_asks d)
asks_all [] t i h = absurd i
asks_all (u ∷ d) t (inl e) h = subst (λ k. In {X = ℕ × Body} (t.node, bodies.DigestAsk t.asked) (if k then digest_asks d else (u.node, bodies.DigestAsk u.asked) ∷ digest_asks d)) (sym (ap (λ (x : Told). x.whole) (sym e) ∙ h)) (inl (λ j. ((e j).node, bodies.DigestAsk (e j).asked)))
asks_all (u ∷ d) t (inr i) h = cond_both u.whole (digest_asks d) ((u.node, bodies.DigestAsk u.asked) ∷ digest_asks d) (λ bs. In {X = ℕ × Body} (t.node, bodies.DigestAsk t.asked) bs) (λ k. asks_all d t i h) (λ k. inr (asks_all d t i h))

-- each append that isn't acknowledged goes
abbrev pub AppendsGo : (Msg → Type 0) → Sequencer → Type 0
AppendsGo M q = (p : ℕ × Append) → In p q.appends → is_acked q.spec p.1 ≡ false → Chosen q.spec (AppendGoes M q.log q.epoch p)

module _ (M : Msg → Type 0) (q : Sequencer) where
  pub asked_all : (e : ℕ) (d : List Told) → AllGo M q.log q.epoch (digest_asks d) → AllAsked M q.log q.epoch e d
  asked_all e d h t i w = asked_on (h (t.node, bodies.DigestAsk t.asked) (asks_all d t i w))

  -- with a recovery that begins
  seals_inj : (d f : List Told) → Seals d ≡ Seals f → d ≡ f
  seals_inj d f e = cc

  pub begins_goes : (c : Config) (r : Register) (lce : ℕ) → AllGo M q.log q.epoch (recovery_asks (looks_at c r q.log) q lce) → AppendsGo M q → Goes M (record q { lce = lce; recovery = recovery_of (looks_at c r q.log) q lce })
  unfolding look
  begins_goes c r lce h a = by_test (nat_lt (lce + 1) q.epoch) refl h where
    by_test : (t : Bool) → nat_lt (lce + 1) q.epoch ≡ t → AllGo M q.log q.epoch (if t then digest_asks (no_digest (looks_at c r q.log (lce + 1)).spec (lce + 1)) else []) → Goes M (record q { lce = lce; recovery = if t then Some (begun (looks_at c r q.log (lce + 1))) else None })
    by_test false t k = record {
      seals = λ v d e f. absurd (not_none e);
      stores = λ v g e f. absurd (not_none e);
      closes = λ v y short e f. not_none e;
      appends = a;
    }
    by_test true t k = record {
      seals = λ v d e f. (let z : begun (looks_at c r q.log (lce + 1)) ≡ v = Some_inj e in
          let y : no_digest (looks_at c r q.log (lce + 1)).spec (lce + 1) ≡ d = seals_inj _ d (ap (λ (x : Recovery). x.stage) z ∙ f) in
          asked_all v.epoch d (subst (λ x. AllGo M q.log q.epoch (digest_asks x)) y k));
      stores = λ v g e f. absurd (let z : begun (looks_at c r q.log (lce + 1)) ≡ v = Some_inj e in let y : Seals (no_digest (looks_at c r q.log (lce + 1)).spec (lce + 1)) ≡ Stores g = ap (λ (x : Recovery). x.stage) z ∙ f in cc);
      closes = λ v y short e f. (let z : begun (looks_at c r q.log (lce + 1)) ≡ v = Some_inj e in let x : Seals (no_digest (looks_at c r q.log (lce + 1)).spec (lce + 1)) ≡ Closes y short = ap (λ (x : Recovery). x.stage) z ∙ f in cc);
      appends = a;
    }

  -- one that asks on
  pub seals_goes : (v : Recovery) (d : List Told) → AllAsked M q.log q.epoch v.epoch d → AppendsGo M q → Goes M (record q { recovery = Some (record v { stage = Seals d }) })
  seals_goes v d h a = record {
    seals = λ w f e k. by_digest w f (Some_inj e) k;
    stores = λ w g e k. absurd (let z : Seals d ≡ Stores g = ap (λ (x : Recovery). x.stage) (Some_inj e) ∙ k in cc);
    closes = λ w y short e k. (let z : Seals d ≡ Closes y short = ap (λ (x : Recovery). x.stage) (Some_inj e) ∙ k in cc);
    appends = a;
  } where
    by_digest : (w : Recovery) (f : List Told) → record v { stage = Seals d } ≡ w → w.stage ≡ Seals f → AllAsked M q.log q.epoch w.epoch f
    by_digest w f e k = subst (AllAsked M q.log q.epoch w.epoch) (seals_inj d f (ap (λ (x : Recovery). x.stage) e ∙ k)) (subst (λ (x : Recovery). AllAsked M q.log q.epoch x.epoch d) e h)

-- ---- a plan ----

-- its items go, where it isn't ready
pub plan_goes : (M : Msg → Type 0) (q : Sequencer) (v : Recovery) (g : Storing) (wave : ℕ) → SpecFine v.spec → AllGo M q.log q.epoch (item_stores v.spec v.lost g.loss g.lng wave g.items) → ItemsGo v.spec v.lost g.loss g.items (ItemGoes M q.log q.epoch)
plan_goes M q v g wave F h = map_items v.spec v.lost g.loss g.items (λ i y. In {X = ℕ × Body} (y, bodies.Store i.0 g.lng i.1.what) (item_stores v.spec v.lost g.loss g.lng wave g.items)) (ItemGoes M q.log q.epoch)
    (λ i j y n k. inr (store_goes g.lng (h (y, bodies.Store i.0 g.lng i.1.what) k))) (items_go v.spec v.lost g.loss g.lng wave g.items F.most)

-- a sequencer that stores a plan
pub stores_goes : (M : Msg → Type 0) (q : Sequencer) (v : Recovery) (g : Storing) → is_closing v g ≡ false → ItemsGo v.spec v.lost g.loss g.items (ItemGoes M q.log q.epoch) → AppendsGo M q → Goes M (record q { recovery = Some (record v { stage = Stores g }) })
stores_goes M q v g c h a = record {
  seals = λ w d e f. absurd (let z : Stores g ≡ w.stage = ap (λ (x : Recovery). x.stage) (Some_inj e) in let y : Stores g ≡ Seals d = z ∙ f in cc);
  stores = λ w k e f. by_plan w k (Some_inj e) f;
  closes = λ w y short e f. (let z : Stores g ≡ Closes y short = ap (λ (x : Recovery). x.stage) (Some_inj e) ∙ f in cc);
  appends = a;
} where
  by_plan : (w : Recovery) (k : Storing) → record v { stage = Stores g } ≡ w → w.stage ≡ Stores k → (is_closing w k ≡ false) × ItemsGo w.spec w.lost k.loss k.items (ItemGoes M q.log q.epoch)
  by_plan w k e f = let z : Stores g ≡ Stores k = ap (λ (x : Recovery). x.stage) e ∙ f in let y : g ≡ k = cc in
      subst (λ (x : Storing). (is_closing w x ≡ false) × ItemsGo w.spec w.lost x.loss x.items (ItemGoes M q.log q.epoch)) y (subst (λ (x : Recovery). (is_closing x g ≡ false) × ItemsGo x.spec x.lost g.loss g.items (ItemGoes M q.log q.epoch)) e (c, h))

-- ---- appends ----

append_in : (s : Spec) (lost : List ℕ) (lng : ℕ) (ps : List (ℕ × Append)) (p : ℕ × Append) (y : ℕ) → In p ps → is_acked s p.1 ≡ false → In y (without p.1.stored (choice s lost p.0 p.1.wave)) → In {X = ℕ × Body} (y, bodies.Store p.0 lng (Rec p.1.payload)) (append_stores s lost lng ps)
append_in s lost lng [] p y i f j = absurd i
append_in s lost lng (x ∷ ps) p y (inl e) f j = In_left _ (if is_acked s x.1 then [] else to_each (bodies.Store x.0 lng (Rec x.1.payload)) (without x.1.stored (choice s lost x.0 x.1.wave))) (append_stores s lost lng ps)
    (subst (λ (z : ℕ × Append). In {X = ℕ × Body} (y, bodies.Store p.0 lng (Rec p.1.payload)) (if is_acked s z.1 then [] else to_each (bodies.Store z.0 lng (Rec z.1.payload)) (without z.1.stored (choice s lost z.0 z.1.wave)))) e
    (subst (λ k. In {X = ℕ × Body} (y, bodies.Store p.0 lng (Rec p.1.payload)) (if k then [] else to_each (bodies.Store p.0 lng (Rec p.1.payload)) (without p.1.stored (choice s lost p.0 p.1.wave)))) (sym f)
    (each_in (bodies.Store p.0 lng (Rec p.1.payload)) y (without p.1.stored (choice s lost p.0 p.1.wave)) j)))
append_in s lost lng (x ∷ ps) p y (inr i) f j = In_right _ (if is_acked s x.1 then [] else to_each (bodies.Store x.0 lng (Rec x.1.payload)) (without x.1.stored (choice s lost x.0 x.1.wave))) (append_stores s lost lng ps) (append_in s lost lng ps p y i f j)

-- those that a retry sends again
pub appends_go : (M : Msg → Type 0) (q : Sequencer) → SpecFine q.spec → AllGo M q.log q.epoch (append_stores q.spec q.lost q.lng (raised q.spec q.appends)) → AppendsGo M (record q { appends = raised q.spec q.appends })
appends_go M q F h p i f = let ch = choice_enough q.spec q.lost p.0 p.1.wave F.most in record {
  nodes = ch.nodes;
  apart = ch.apart;
  members = ch.members;
  enough = ch.enough;
  each = λ y j. elim (cases_Bool (is_in y p.1.stored)) [
    | inl t ↦ is_stored t
    | inr t ↦ append_goes q.lng (h (y, bodies.Store p.0 q.lng (Rec p.1.payload)) (append_in q.spec q.lost q.lng (raised q.spec q.appends) p y i f (filter_in (λ x. not (is_in x p.1.stored)) y (choice q.spec q.lost p.0 p.1.wave) (ch.each y j) (ap not t))))
  ];
}
