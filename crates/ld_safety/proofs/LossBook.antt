-- Of each loss plan as many nodes as there are copies don't serve its epoch, for good, and gave pages of it to no greater ballot; so each plan of a greater ballot is a loss plan too.
use Rattle.std.proofs.Common.{◌≡◌, ◌≤◌, ◌<◌, ℕ, inl, inr, refl, sym, subst, true, false, not, ◌&&◌, ◌==◌, List, [], ◌++◌, arith}
use Rattle.std.proofs.lemmas.Bool.{cases_Bool, and_parts, eqb-true}
use Rattle.ld_table.specs.Words.{is_in, how_many}
use Rattle.ld_lsn.specs.Number.{epoch_of, numbered, last_esn}
use Rattle.ld_ids.specs.declared.set.Spec.{Spec}
use Rattle.ld_ids.specs.Choice.{nodes_of}
use Rattle.ld_config.specs.declared.config.Config.{Config}
use Rattle.ld_msg.specs.declared.msg.Entry.{Entry}
use Rattle.ld_msg.specs.declared.msg.Body.TheVariants as bodies
use Rattle.ld_msg.specs.Register.{epochs_of}
use Rattle.ld_machine.specs.Config.{fixed_of, fixed_at}
use Rattle.ld_machine.specs.Facts.{Happened}
use Rattle.ld_machine.specs.State.{State, node_at}
use Rattle.ld_msg.specs.Digest.{Told}
use Rattle.ld_machine.specs.World.{World, Made, In, from_node, gone_nodes, is_gone, is_cut_gone}
use Rattle.ld_machine.specs.Run.{after_step}
use Rattle.ld_safety.proofs.Lists.{In-append, not_both, any_in, count_share}
use Rattle.ld_safety.proofs.Losses.{filter_passes}
use Rattle.ld_safety.proofs.Events.{NamesOnce}
use Rattle.ld_safety.proofs.Registers.{Up, Reached, reached_later}
use Rattle.ld_safety.proofs.Protocol.{Basis, plan_of, whole_in}
use Rattle.ld_safety.proofs.Settled.{Stays}
use Rattle.ld_safety.proofs.HoldSteps.{UpFine}
use Rattle.ld_safety.proofs.LostUnserved.{AllUnserved, unserved_step}
use Rattle.ld_safety.proofs.LostSaid.{LostWithin, gone_unserved, page_before}
use Rattle.ld_safety.proofs.Fallen.{AllFallen, gone_fallen, fallen_step}
use Rattle.ld_safety.proofs.SentDrawn.{Drawn}
use Rattle.ld_safety.proofs.Digesting.{NewPlan}
use Rattle.ld_safety.proofs.Plannings.{PlanMade}
use Rattle.ld_safety.proofs.DigestKept.{MadeBelow}
use Rattle.ld_machine.specs.Calm.{Move}

-- of a loss plan: the nodes that had nothing to tell as it was made
pub record LossKept (c : Config) (s : State) (l e b : ℕ) (d : Basis) : Type 0 where
  pub reached : Reached s.register l e
  pub gone : (fixed_of c s.register l e).r ≤ how_many (λ y. is_in y d.gone) (fixed_at c s.register l e)
  pub unserved : (y : ℕ) → is_in y d.gone ≡ true → AllUnserved (node_at s y) l e
  pub fallen : (y : ℕ) → is_in y d.gone ≡ true → AllFallen (node_at s y) l e
  pub pages : (y g from upto trim lng : ℕ) (es : List Entry) → is_in y d.gone ≡ true → In (from_node l y g (bodies.DigestPage from upto trim lng es)) s.network.sent → epoch_of from ≡ e → g ≤ b

abbrev pub AllLosses : Config → World → Type 0
AllLosses c w = (l e b : ℕ) (d : Basis) → In (plan_of l e b d) w.made → d.loss ≡ true → LossKept c w.state l e b d

-- below a plan that found what it says there is no loss plan
abbrev pub FoundBelow : List Made → Type 0
FoundBelow made = (l e a g : ℕ) (f d : Basis) → In (plan_of l e a f) made → In (plan_of l e g d) made → a < g → d.loss ≡ false → f.loss ≡ false

-- ---- as the plan is made ----
pub loss_made : (c : Config) (hs : List Happened) (made : List Made) (s : State) (l e b : ℕ) (d : Basis) → Drawn s.register s.network.sent → d.loss ≡ true → NewPlan c hs s.network.sent (gone_nodes s) made s.register l e b d → PlanMade c hs s.network.sent made s.register l e b d → LossKept c s l e b d
loss_made c hs made s l e b d D lo n p = record {
  reached = n.reached;
  gone = elim p.why [ inl h ↦ absurd (not_both d.loss lo h.0) | inr h ↦ h.1.gone ];
  unserved = λ y i. gone_unserved (node_at s y) l e (passed y i);
  fallen = λ y i. gone_fallen (node_at s y) l e (passed y i);
  pages = λ y g from upto trim lng es i j q. elim n.why [ inl h ↦ absurd (not_both d.loss lo h.0) | inr h ↦ (let z = D _ j g (inr refl) in let k = h.1.newest in omega arith) ];
} where
  passed : (y : ℕ) → is_in y d.gone ≡ true → (is_gone l e (node_at s y).plain && is_cut_gone l e (node_at s y).cut) ≡ true
  passed y i = filter_passes (λ y. is_gone l e (node_at s y).plain && is_cut_gone l e (node_at s y).cut) y (nodes_of n.spec) (subst (λ g. is_in y g ≡ true) n.gone_now i)

-- ---- a step ----
pub loss_step : (c : Config) (w : World) (v : Move) → NamesOnce w.state → ((y : ℕ) → UpFine (node_at w.state y)) → ((y : ℕ) → LostWithin w.state.register (node_at w.state y)) → Up w.state.register (after_step c w v).state.register → Stays c w.state.register (after_step c w v).state.register
    → (l e b : ℕ) (d : Basis) → LossKept c w.state l e b d → LossKept c (after_step c w v).state l e b d
loss_step c w v N ups within u y l e b d h = record {
  reached = reached_later w.state.register (after_step c w v).state.register l e u h.reached;
  gone = subst (λ (p : Spec). p.r ≤ how_many (λ y. is_in y d.gone) (nodes_of p)) (sym (y.specs l e h.reached)) h.gone;
  unserved = λ z i. unserved_step c w v N z l e h.reached.0 h.reached.1 (h.unserved z i);
  fallen = λ z i. fallen_step c w v N z l e h.reached.0 h.reached.1 (h.fallen z i);
  pages = λ z g from upto trim lng es i j q. h.pages z g from upto trim lng es i (page_before c w v ups within N l z g from upto trim lng es (subst (AllUnserved (node_at w.state z) l) (sym q) (h.unserved z i)) j) q;
}

-- ---- no greater plan finds what it says ----
no_page_after : (c : Config) (hs : List Happened) (made : List Made) (s : State) (l e a g : ℕ) (f d : Basis) → LossKept c s l e a f → PlanMade c hs s.network.sent made s.register l e g d → d.loss ≡ false → g ≤ a
no_page_after c hs made s l e a g f d K p lo = elim p.why [
  | inl h ↦
      let a = p.whole in let b = K.gone in let n = h.1 in
      let x = count_share (λ y. is_in y f.gone) (whole_in d.digest) (fixed_at c s.register l e) (omega arith) in
      let u = any_in (λ (t : Told). (t.node == x.0) && (t.whole && not t.lost)) d.digest x.3 in
      let k = and_parts (u.0.node == x.0) (u.0.whole && not u.0.lost) u.2 in
      let w = and_parts u.0.whole (not u.0.lost) k.1 in
      let good = p.good_most in
      let v = (p.digest.told u.0 u.1).covers (numbered e last_esn) (omega arith) (omega arith) (inr w.0) in
      K.pages u.0.node g v.from v.upto v.trim v.lng v.entries (subst (λ y. is_in y f.gone ≡ true) (sym (eqb-true _ _ k.0)) x.2) v.page v.epoch
  | inr h ↦ absurd (not_both d.loss h.0 lo)
]

-- all plans of a step are of open epochs' newest ballots, or found what they say
pub found_below : (c : Config) (hs : List Happened) (made more : List Made) (s : State) → AllLosses c (record { state = s; made = made; joined = [] }) → FoundBelow made → MadeBelow made s.register
    → ((l x b : ℕ) (f : Basis) → In (plan_of l x b f) more → NewPlan c hs s.network.sent (gone_nodes s) made s.register l x b f × (b ≤ (epochs_of s.register l).epoch)) → ((l x b : ℕ) (f : Basis) → In (plan_of l x b f) more → PlanMade c hs s.network.sent made s.register l x b f) → FoundBelow (more ++ made)
found_below c hs made more s K F M new pm l e a g f d i j lt lo = elim (cases_Bool f.loss) [
  | inr t ↦ t
  | inl t ↦ elim (In-append (plan_of l e a f) more made i) [
    | inl ni ↦ elim (new l e a f ni).0.why [
      | inl h ↦ h.0
      | inr h ↦ absurd (let z = h.1.newest in let k : g ≤ (epochs_of s.register l).epoch = elim (In-append (plan_of l e g d) more made j) [ inl nj ↦ (new l e g d nj).1 | inr oj ↦ M l e g d oj ] in omega arith)
    ]
    | inr oi ↦ elim (In-append (plan_of l e g d) more made j) [
      | inl nj ↦ absurd (let z = no_page_after c hs made s l e a g f d (K l e a f oi t) (pm l e g d nj) lo in omega arith)
      | inr oj ↦ F l e a g f d oi oj lt lo
    ]
  ]
]
