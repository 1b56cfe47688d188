-- What each plan that was made stands on: a digest that showed all, of enough nodes.
use Rattle.std.proofs.Common.{◌≡◌, ◌∙◌, ◌⊎◌, ◌≤◌, ◌<◌, ℕ, ◌+◌, ◌-◌, inl, inr, refl, ap, sym, subst, Bool, true, false, not, ◌&&◌, ◌==◌, List, [], ◌∷◌, ◌++◌, map, filter, length, arith}
use Rattle.std.proofs.lemmas.Bool.{cases_Bool, and_parts, and_from, eqb-true, eq-eqb}
use Rattle.ld_table.specs.Words.{is_in, how_many}
use Rattle.ld_lsn.specs.Number.{epoch_of, esn_of, numbered, last_esn}
use Rattle.ld_ids.specs.declared.set.Spec.{Spec}
use Rattle.ld_ids.specs.Choice.{nodes_of}
use Rattle.ld_config.specs.declared.config.Config.{Config}
use Rattle.ld_msg.specs.declared.msg.What.{What}
use Rattle.ld_msg.specs.declared.msg.Msg.{Msg}
use Rattle.ld_msg.specs.declared.msg.Entry.{Entry}
use Rattle.ld_msg.specs.declared.msg.Body.TheVariants as bodies
use Rattle.ld_msg.specs.Register.{Register}
use Rattle.ld_msg.specs.Digest.{Told, digest_lng, digest_trim, plan_end, is_bridge}
use Rattle.ld_msg.specs.declared.msg.What.TheVariants.{Bridge}
use Rattle.ld_safety.proofs.Plans.{trim_place_most, end_most, top_most}
use Rattle.ld_machine.specs.Config.{fixed_of, fixed_at}
use Rattle.ld_machine.specs.State.{Done, finish, node_at}
use Rattle.ld_machine.specs.Facts.{Happened}
use Rattle.ld_machine.specs.World.{Made, In, from_node}
use Rattle.ld_safety.proofs.Steps.{sent_by, sent_before}
use Rattle.ld_safety.proofs.Protocol.{Basis, Says, StoredBy, Kept, DigestFacts, PlanFacts, whole_in, WholeCount}
use Rattle.ld_safety.proofs.Lists.{not_both, any_in, any_from, count_mono}
use Rattle.ld_safety.proofs.Swaps.{sub_count}
use Rattle.ld_safety.proofs.Losses.{spent_each, spent_gone, in_filter, counted_nodes}
use Rattle.ld_safety.proofs.HoldKept.{NodeHolds, ends_later}
use Rattle.ld_safety.proofs.Sent.{SendsFine, no_page}
use Rattle.ld_safety.proofs.Registers.{Up, Reached, reached_later}
use Rattle.ld_safety.proofs.Settled.{Open, LostTold, Stays}
use Rattle.ld_safety.proofs.Digests.{DigestSoFar}
use Rattle.ld_safety.proofs.Digesting.{NewPlan, WhyNow}
use Rattle.ld_safety.proofs.DigestKept.{digest_later}

-- a loss plan: each node is whole in its digest, or had nothing to tell, and as many of them had as there are copies
pub record LossMade (s : Spec) (d : Basis) : Type 0 where
  pub told : (t : Told) → In t d.digest → ((t.whole ≡ true) × (t.lost ≡ false)) ⊎ (is_in t.node d.gone ≡ true)
  pub gone : s.r ≤ how_many (λ y. is_in y d.gone) (nodes_of s)

-- why a plan was made
abbrev pub WhyMade : Spec → Basis → Type 0
WhyMade s d = ((d.loss ≡ false) × (length (nodes_of s) < s.r + how_many (λ (t : Told). t.whole && not t.lost) d.digest)) ⊎ ((d.loss ≡ true) × LossMade s d)

pub record PlanMade (c : Config) (hs : List Happened) (sent : List Msg) (made : List Made) (r : Register) (l e b : ℕ) (d : Basis) : Type 0 where
  pub reached : Reached r l e
  pub spec : Spec
  pub of_loss : d.loss ≡ true → spec ≡ fixed_of c r l e
  pub digest : DigestSoFar hs made sent spec l e b d.digest
  pub whole : WholeCount d.digest (fixed_at c r l e)
  pub why : WhyMade (fixed_of c r l e) d
  pub later : e < b
  pub seen : (t : Told) → In t d.digest → t.whole ≡ true → (n a : ℕ) → epoch_of n ≡ e → digest_lng d.digest < esn_of n → a < b → StoredBy sent l t.node n a → Kept made l b t.trim t.entries n a
  pub good_most : digest_lng d.digest ≤ last_esn - 1

-- a loss plan has a digest of the nodes that were fixed
pub loss_nodes : (c : Config) (hs : List Happened) (sent : List Msg) (made : List Made) (r : Register) (l e b : ℕ) (d : Basis) → PlanMade c hs sent made r l e b d → d.loss ≡ true → map (λ (t : Told). t.node) d.digest ≡ fixed_at c r l e
loss_nodes c hs sent made r l e b d p lo = p.digest.nodes ∙ ap (λ (s : Spec). nodes_of s) (p.of_loss lo)

-- who gave a page of an epoch for a digest is a node that was fixed for it
abbrev pub PagesOf : Config → Register → List Msg → Type 0
PagesOf c r ms = (l y b from upto t lng : ℕ) (es : List Entry) → In (from_node l y b (bodies.DigestPage from upto t lng es)) ms → Reached r l (epoch_of from) × In y (fixed_at c r l (epoch_of from))

-- nodes that have nothing to tell, among those of a set
abbrev pub Test : Type 0
Test = ℕ → ℕ → ℕ → Bool

abbrev pub passing : Test → ℕ → ℕ → List ℕ → List ℕ
passing p l e set = filter (p l e) set

pub in_nodes : (t : Told) (d : List Told) (ns : List ℕ) → map (λ (t : Told). t.node) d ≡ ns → In t d → In t.node ns
in_nodes t d ns q i = subst (In t.node) q (map_in t d i) where
  map_in : (t : Told) (d : List Told) → In t d → In t.node (map (λ (t : Told). t.node) d)
  map_in t [] i = i
  map_in t (x ∷ d) (inl e) = inl (ap (λ (y : Told). y.node) e)
  map_in t (x ∷ d) (inr i) = inr (map_in t d i)

pub just_made : (c : Config) (hs : List Happened) (sent : List Msg) (made : List Made) (r : Register) (p : Test) (l e b : ℕ) (d : Basis) → ((y : ℕ) → LostTold sent l e b y → Open r l e → p l e y ≡ true) → PagesOf c r sent → NewPlan c hs sent (passing p) made r l e b d → PlanMade c hs sent made r l e b d
just_made c hs sent made r p l e b d said G n = record {
  reached = n.reached;
  spec = n.spec;
  of_loss = λ lo. elim n.why [ inl h ↦ absurd (not_both d.loss lo h.0) | inr h ↦ n.like.fixed h.1.open_still ];
  digest = n.digest;
  whole = let a = counted_nodes (whole_in d.digest) d.digest in let k = ap (how_many (whole_in d.digest)) n.digest.nodes in
      let m = count_mono (λ (t : Told). t.whole && not t.lost) (λ (t : Told). whole_in d.digest t.node) d.digest (λ t i w. any_from (λ (x : Told). (x.node == t.node) && (x.whole && not x.lost)) t d.digest i (and_from _ _ (eq-eqb t.node t.node refl) w)) in
      let s = sub_count (whole_in d.digest) n.spec (fixed_of c r l e) (λ y i w. whole_fixed y w) in omega arith;
  why = by_why n.why;
  later = n.later;
  seen = n.seen;
  good_most = n.good_most;
} where
  whole_fixed : (y : ℕ) → whole_in d.digest y ≡ true → In y (fixed_at c r l e)
  whole_fixed y w =
      let t = any_in (λ (x : Told). (x.node == y) && (x.whole && not x.lost)) d.digest w in
      let k = and_parts (t.0.node == y) (t.0.whole && not t.0.lost) t.2 in
      let h = and_parts t.0.whole (not t.0.lost) k.1 in
      let most = n.good_most in
      let v = (n.digest.told t.0 t.1).covers (numbered e last_esn) (omega arith) (omega arith) (inr h.0) in
      subst (λ z. In z (fixed_at c r l e)) (eqb-true _ _ k.0) (subst (λ x. In t.0.node (fixed_at c r l x)) v.epoch (G l t.0.node b v.from v.upto v.trim v.lng v.entries v.page).1)

  by_why : WhyNow c hs sent r l e b d → WhyMade (fixed_of c r l e) d
  by_why (inl h) = inl h
  by_why (inr h) = let same = n.like.fixed h.1.open_still in let nodes : nodes_of n.spec ≡ fixed_at c r l e = ap (λ (s : Spec). nodes_of s) same in inr (
    h.0,
    record {
      told = λ t i. elim (cases_Bool t.lost) [
        | inl k ↦ inr (subst (λ g. is_in t.node g ≡ true) (sym (n.gone_now ∙ ap (passing p l e) nodes)) (in_filter (p l e) t.node (fixed_at c r l e) (in_nodes t d.digest (fixed_at c r l e) (n.digest.nodes ∙ nodes) i) (said t.node ((n.digest.told t i).lost_said k) h.1.open_still)))
        | inr k ↦ inl (spent_each (fixed_of c r l e) d.digest t h.1.spent i k, k)
      ];
      gone = subst (λ g. (fixed_of c r l e).r ≤ how_many (λ y. is_in y g) (fixed_at c r l e)) (sym (n.gone_now ∙ ap (passing p l e) nodes)) (spent_gone (p l e) (fixed_of c r l e) d.digest (n.digest.nodes ∙ nodes) (λ t i k. said t.node ((n.digest.told t i).lost_said k) h.1.open_still) h.1.spent);
    },
  )

-- while more happens
module _ (c : Config) (hs next : List Happened) (made more : List Made) (sent : List Msg) (r k : Register) (u : Up r k) (y : Stays c r k) (grow : (l b n : ℕ) (x : What) → Says hs made l b n x → Says next (more ++ made) l b n x) where
  pub plan_later : (l e b : ℕ) (d : Basis) → PlanMade c hs sent made r l e b d → PlanMade c next sent (more ++ made) k l e b d
  plan_later l e b d p = record {
    reached = reached_later r k l e u p.reached;
    spec = p.spec;
    of_loss = λ lo. p.of_loss lo ∙ sym (y.specs l e p.reached);
    digest = digest_later hs next made more sent sent (λ m i. i) grow p.spec l e b d.digest p.digest;
    whole = subst (λ (s : Spec). WholeCount d.digest (nodes_of s)) (sym (y.specs l e p.reached)) p.whole;
    why = subst (λ (s : Spec). WhyMade s d) (sym (y.specs l e p.reached)) p.why;
    later = p.later;
    seen = λ t i w n a q pl lt st. (kept_later l b n a t (p.seen t i w n a q pl lt st));
    good_most = p.good_most;
  } where
    kept_later : (l b n a : ℕ) (t : Told) → Kept made l b t.trim t.entries n a → Kept (more ++ made) l b t.trim t.entries n a
    kept_later l b n a t (inl h) = inl h
    kept_later l b n a t (inr (inl h)) = inr (inl h)
    kept_later l b n a t (inr (inr h)) = inr (inr (ends_later made more sent l a b n h))

-- while messages are sent
module _ (c : Config) (hs : List Happened) (made : List Made) (sent : List Msg) (r : Register) (d : Done) (F : SendsFine d.state d.sends) (Q : d.state.network.sent ≡ sent) (H : (y : ℕ) → NodeHolds made sent y (node_at d.state y)) where
  pub into : (m : Msg) → In m sent → In m (finish d).state.network.sent
  into m i = sent_before d m (subst (λ (z : List Msg). In m z) (sym Q) i)

  new_or_old : (m : Msg) → In m (finish d).state.network.sent → In m sent ⊎ In m d.sends
  new_or_old m i = elim (sent_by d m i) [ inl a ↦ inl (subst (λ (z : List Msg). In m z) Q a) | inr a ↦ inr a ]

  pub plan_sent : (l e b : ℕ) (f : Basis) → PlanMade c hs sent made r l e b f → PlanMade c hs (finish d).state.network.sent made r l e b f
  plan_sent l e b f p = record {
    reached = p.reached;
    spec = p.spec;
    of_loss = p.of_loss;
    digest = digest_later hs hs made [] sent (finish d).state.network.sent into (λ l b n x s. s) p.spec l e b f.digest p.digest;
    whole = p.whole;
    why = p.why;
    later = p.later;
    seen = λ t i w n a q pl lt st. elim (new_or_old _ st) [
      | inl j ↦ p.seen t i w n a q pl lt j
      | inr j ↦ absurd (let v = (p.digest.told t i).covers n q pl (inr w) in no_page made sent d F Q H l t.node n a b v.from v.upto v.trim v.lng v.entries v.page j (q ∙ sym v.epoch) lt)
    ];
    good_most = p.good_most;
  }

-- a plan ends in its epoch
pub ends_in : (c : Config) (hs : List Happened) (sent : List Msg) (made : List Made) (r : Register) (l e b : ℕ) (d : Basis) → PlanMade c hs sent made r l e b d → plan_end e d.digest ≤ last_esn
ends_in c hs sent made r l e b d p = let t = trim_place_most e (digest_trim d.digest) in
    let z = end_most e d.digest (last_esn - 1) (top_most (last_esn - 1) d.digest (λ u f j k n. let y = ((p.digest.told u j).frozen f k).place.below (λ q. not_bridge f.what q n) in omega arith)) t p.good_most in omega arith where
      not_bridge : (x : What) → x ≡ Bridge → is_bridge x ≡ false → ⊥
      not_bridge x q n = let z : is_bridge x ≡ true = ap is_bridge q in cc

-- what agreement stands on
digest_facts : (c : Config) (hs : List Happened) (sent : List Msg) (made : List Made) (r : Register) (l e b : ℕ) (d : Basis) → PlanMade c hs sent made r l e b d → DigestFacts hs made sent (fixed_of c r l e) l e b d.digest
digest_facts c hs sent made r l e b d p = record { told = λ t i. record { frozen = (p.digest.told t i).frozen; seen = p.seen t i }; whole = p.whole }

pub plan_facts : (c : Config) (hs : List Happened) (sent : List Msg) (made : List Made) (r : Register) (l e b : ℕ) (d : Basis) → PlanMade c hs sent made r l e b d → d.loss ≡ false → PlanFacts hs made sent (fixed_of c r l e) l e b d.digest
plan_facts c hs sent made r l e b d p f = record {
  digest = digest_facts c hs sent made r l e b d p;
  enough = elim p.why [ inl h ↦ h.1 | inr h ↦ absurd (not_both d.loss h.0 f) ];
  later = p.later;
  good_most = p.good_most;
}
