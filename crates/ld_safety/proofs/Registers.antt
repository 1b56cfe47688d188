-- Along a run the register's epochs and last closed epochs don't fall, only closed epochs have summaries, and what is fixed for an epoch stays.
use Rattle.std.proofs.Common.{Bool, false, nat_le, ◌&&◌, le-leb, leb-true, ◌≡◌, ◌∙◌, ◌≤◌, ◌<◌, ◌+◌, ◌||◌, ◌==◌, nat_lt, ℕ, inl, inr, refl, ap, sym, subst, true, List, [], ◌∷◌, length, suc, Option, Some, None, arith}
use Rattle.std.proofs.lemmas.Bool.{eqb-true, ltb-true, or_cases, cases_order, cases_lt, and_parts, and_from}
use Rattle.std.specs.Option.{unwrap_or}
use Rattle.ld_table.specs.Table.{find, put}
use Rattle.ld_table.proofs.Laws.{put_cases, find-put_same, find-put_other}
use Rattle.ld_ids.specs.declared.set.Spec.{Spec}
use Rattle.ld_ids.specs.Choice.{nodes_of}
use Rattle.ld_table.specs.Words.{how_many}
use Rattle.ld_config.specs.declared.config.Config.{Config}
use Rattle.ld_msg.specs.declared.msg.Summary.{Summary}
use Rattle.ld_msg.specs.declared.msg.Msg.{Msg}
use Rattle.ld_msg.specs.declared.msg.Body.{Body}
use Rattle.ld_op.specs.declared.op.Op.{Op}
use Rattle.ld_op.specs.Ticks.{Ticked, Cleans, Rebuilt, Asks, Nothing}
use Rattle.ld_machine.specs.Disk.{Node}
use Rattle.ld_msg.specs.Register.{Register, View, Epochs, Changed, Granted, no_epochs, epochs_of, lce_of, epoch_shown, look, with_epochs, next_epoch, closed_epochs, close, activate, draw, swap, swapped_epochs, closed_upto, empty_register}
use Rattle.ld_machine.specs.Config.{first_spec, spec_of, fixed_of, looks_at, has_log}
use Rattle.ld_msg.specs.Sequencer.{Acts, called, Attempt}
use Rattle.ld_machine.specs.State.{State, node_at, with_node}
use Rattle.ld_machine.specs.Step as Step
use Rattle.ld_safety.proofs.Lists.{not_none, cond_both}
use Rattle.ld_safety.proofs.Events.{NamesOnce, Cases, dispatch, refreshed}
use Rattle.ld_safety.proofs.Swaps.{swapped_above, find-swapped, Like, like_same, like_swapped}
use Rattle.ld_safety.proofs.RegisterSteps.{Same, activated_epochs, activate_leaves, close_leaves, draw_leaves, swap_leaves, epochs_put, epochs_same}
use Rattle.ld_machine.specs.Calm as Calm
use Rattle.ld_machine.specs.Calm.{Move}

-- what each change of the register keeps holds of the register after each event
module _ (c : Config) (s : State) (e : Move) (P : Register → Type 0) (same : P s.register)
    (acts : (l : ℕ) → has_log c l ≡ true → P (activate s.register l (Step.spec_set c s l)).register) (closes : (l k : ℕ) (y : Summary) (b : Bool) → P (close s.register l k y b).register) (draws : (n : ℕ) → P (draw s.register n).register) (swaps : (l upto old new : ℕ) → P (swap s.register l upto old new).register)
    (arms : (n : Register) → n.logs ≡ s.register.logs → P n) where
  by_call : (looks : ℕ → View) (a : Acts) (ts : List Attempt) → P (called looks s.register a ts).register
  by_call looks a [] = same
  by_call looks a (t ∷ ts) = closes a.sequencer.log t.epoch t.summary t.short

  handled : (f : List ℕ) (n : ℕ) (m : Msg) (x : Node) (o : Option Op) (b : Option Body) → P (Step.handles (with_node (refreshed s f) n x) n m o b).state.register
  handled f n m x None b = same
  handled f n m x (Some o) b = same

  ticked : (n l : ℕ) (t : Ticked) → P (Step.ticks_as c s n l t).state.register
  ticked n l (Cleans k y) = same
  ticked n l Rebuilt = same
  ticked n l (Asks from) = same
  ticked n l Nothing = same

  register_cases : Cases c s e (λ d m. P d.state.register)
  register_cases = record {
    still = λ f older i. same;
    says = λ x q. same;
    node_hears = λ f older n m i t v o. handled f n m (Step.releases (node_at s n) m.log m.body) (Step.node_handles n (node_at s n) m).op (Step.node_handles n (node_at s n) m).answer;
    loads = λ n ls q b o. same;
    draw_fails = λ n b. draws n;
    formats = λ n r g b v i. subst (λ (d : Changed). P d.register) i (draws n);
    ticks = λ n l t v i o. ticked n l t;
    stops = λ n b. same;
    wipes = λ n. same;
    faults = λ n f o. same;
    sets = λ l r x set h. same;
    arms = λ k done o. arms (Step.armed s.register k done) refl;
    hears = λ f older name q m i t l v o. by_call _ _ _;
    retries = λ again name q v o. by_call _ _ _;
    appends = λ name q p v a i. same;
    trims = λ name q t v b. same;
    drops = λ name q v o. same;
    activates = λ name l r g n i x. subst (λ (d : Changed). P d.register) i (acts l g);
    swaps = λ n m l x r q i. swaps l _ m n;
    activate_fails = λ name l x g q. acts l g;
    answers = λ f older name d m i t v o. same;
    polls = λ name d v o. same;
    opens = λ style name l from until o x. same;
  }

  pub register_kept : NamesOnce s → P (Calm.moves c s e).state.register
  register_kept N = dispatch c s e (λ d m. P d.state.register) N register_cases

-- ---- what doesn't fall ----
abbrev pub Up : Register → Register → Type 0
Up r n = (l : ℕ) → ((epochs_of r l).epoch ≤ (epochs_of n l).epoch) × (lce_of r l ≤ lce_of n l)

abbrev pub OnlyClosed : Register → Type 0
OnlyClosed r = (l e : ℕ) (y : Summary) → find e (epochs_of r l).summaries ≡ Some y → e ≤ lce_of r l

-- a register that follows another one
abbrev Follows : Register → Register → Type 0
Follows r n = Up r n × OnlyClosed n

logs_follow : (r n : Register) → n.logs ≡ r.logs → OnlyClosed r → Follows r n
logs_follow r n q h = (
  (λ l. let e : epochs_of n l ≡ epochs_of r l = ap (λ m. unwrap_or (find l m) no_epochs) q in let a = ap (λ (x : Epochs). x.epoch) e in let b = ap (λ (x : Epochs). x.lce) e in (omega arith, omega arith)),
  (λ l e y f. let k : epochs_of n l ≡ epochs_of r l = ap (λ m. unwrap_or (find l m) no_epochs) q in let b = ap (λ (x : Epochs). x.lce) k in let z = h l e y (subst (λ (x : Epochs). find e x.summaries ≡ Some y) k f) in omega arith),
)

put_follow : (r n : Register) (l : ℕ) (x : Epochs) → (epochs_of r l).epoch ≤ x.epoch → (epochs_of r l).lce ≤ x.lce → ((e : ℕ) (y : Summary) → find e x.summaries ≡ Some y → e ≤ x.lce) → Same (with_epochs r l x) n → OnlyClosed r → Follows r n
put_follow r n l x a b c s h = (
  (λ k. elim (epochs_put r l k x) [
    | inl p ↦ (let e = epochs_same (with_epochs r l x) n k s ∙ p.1 in let u = ap (λ (z : Epochs). z.epoch) e in let v = ap (λ (z : Epochs). z.lce) e in subst (λ j. ((epochs_of r j).epoch ≤ (epochs_of n k).epoch) × (lce_of r j ≤ lce_of n k)) (sym p.0) (omega arith, omega arith))
    | inr p ↦ (let e = epochs_same (with_epochs r l x) n k s ∙ p.1 in let u = ap (λ (z : Epochs). z.epoch) e in let v = ap (λ (z : Epochs). z.lce) e in (omega arith, omega arith))
  ]),
  (λ k e y f. elim (epochs_put r l k x) [
    | inl p ↦ (let q = epochs_same (with_epochs r l x) n k s ∙ p.1 in let v = ap (λ (z : Epochs). z.lce) q in let z = c e y (subst (λ (w : Epochs). find e w.summaries ≡ Some y) q f) in omega arith)
    | inr p ↦ (let q = epochs_same (with_epochs r l x) n k s ∙ p.1 in let v = ap (λ (z : Epochs). z.lce) q in let z = h k e y (subst (λ (w : Epochs). find e w.summaries ≡ Some y) q f) in omega arith)
  ]),
)

pub follows : (c : Config) (s : State) (e : Move) → NamesOnce s → OnlyClosed s.register → Up s.register (Calm.moves c s e).state.register × OnlyClosed (Calm.moves c s e).state.register
follows c s e N h = register_kept c s e (λ n. Follows s.register n) (logs_follow s.register s.register refl h)
    (λ l g. elim (activate_leaves s.register l (Step.spec_set c s l)) [ inl a ↦ logs_follow s.register (activate s.register l (Step.spec_set c s l)).register a.0 h | inr a ↦ put_follow s.register (activate s.register l (Step.spec_set c s l)).register l (next_epoch (epochs_of s.register l) (Step.spec_set c s l)) (omega arith) (omega arith) (λ e y f. h l e y f) a.1 h ])
    (λ l k y b. elim (close_leaves s.register l k y b) [
      | inl a ↦ logs_follow s.register (close s.register l k y b).register a.0 h
      | inr a ↦ let z = a.0 in put_follow s.register (close s.register l k y b).register l (closed_epochs (epochs_of s.register l) k y) (omega arith) (omega arith)
          (λ e z f. elim (put_cases e k y (epochs_of s.register l).summaries) [ inl b ↦ (let u = b.0 in omega arith) | inr b ↦ let u = h l e z (sym b.1 ∙ f) in omega arith ]) a.1 h
    ])
    (λ n. elim (draw_leaves s.register n) [ inl a ↦ logs_follow s.register (draw s.register n).register a.0 h | inr a ↦ logs_follow s.register (draw s.register n).register a.0 h ])
    (λ l upto old new. elim (swap_leaves s.register l upto old new) [ inl a ↦ logs_follow s.register (swap s.register l upto old new).register a.0 h | inr a ↦ put_follow s.register (swap s.register l upto old new).register l (swapped_epochs (epochs_of s.register l) upto old new) (omega arith) (omega arith) (λ e y f. h l e y f) a h ])
    (λ n q. logs_follow s.register n q h) N

-- summaries stay
pub summaries_stay : (c : Config) (s : State) (e : Move) → NamesOnce s → OnlyClosed s.register → (l k : ℕ) (y : Summary) → find k (epochs_of s.register l).summaries ≡ Some y → find k (epochs_of (Calm.moves c s e).state.register l).summaries ≡ Some y
summaries_stay c s e N h = register_kept c s e (λ n. (l k : ℕ) (y : Summary) → find k (epochs_of s.register l).summaries ≡ Some y → find k (epochs_of n l).summaries ≡ Some y) (λ l k y f. f)
    (λ l g. elim (activate_leaves s.register l (Step.spec_set c s l)) [ inl a ↦ by_logs (activate s.register l (Step.spec_set c s l)).register a.0 | inr a ↦ by_put (activate s.register l (Step.spec_set c s l)).register l (next_epoch (epochs_of s.register l) (Step.spec_set c s l)) a.1 (λ k y f. f) ])
    (λ l k y b. elim (close_leaves s.register l k y b) [
      | inl a ↦ by_logs (close s.register l k y b).register a.0
      | inr a ↦ by_put (close s.register l k y b).register l (closed_epochs (epochs_of s.register l) k y) a.1 (λ j z f. elim (put_cases j k y (epochs_of s.register l).summaries) [ inl b ↦ absurd (let u = h l j z f in let v = b.0 in let w = a.0 in omega arith) | inr b ↦ b.1 ∙ f ])
    ])
    (λ n. elim (draw_leaves s.register n) [ inl a ↦ by_logs (draw s.register n).register a.0 | inr a ↦ by_logs (draw s.register n).register a.0 ])
    (λ l upto old new. elim (swap_leaves s.register l upto old new) [ inl a ↦ by_logs (swap s.register l upto old new).register a.0 | inr a ↦ by_put (swap s.register l upto old new).register l (swapped_epochs (epochs_of s.register l) upto old new) a (λ k y f. f) ])
    (λ n q. by_logs n q) N where
      by_logs : (n : Register) → n.logs ≡ s.register.logs → (l k : ℕ) (y : Summary) → find k (epochs_of s.register l).summaries ≡ Some y → find k (epochs_of n l).summaries ≡ Some y
      by_logs n q l k y f = ap (λ m. find k (unwrap_or (find l m) no_epochs).summaries) q ∙ f

      by_put : (n : Register) (l : ℕ) (x : Epochs) → Same (with_epochs s.register l x) n → ((k : ℕ) (y : Summary) → find k (epochs_of s.register l).summaries ≡ Some y → find k x.summaries ≡ Some y) → (j k : ℕ) (y : Summary) → find k (epochs_of s.register j).summaries ≡ Some y → find k (epochs_of n j).summaries ≡ Some y
      by_put n l x q g j k y f = elim (epochs_put s.register l j x) [
        | inl p ↦ ap (λ (z : Epochs). find k z.summaries) (epochs_same (with_epochs s.register l x) n j q ∙ p.1) ∙ g k y (subst (λ z. find k (epochs_of s.register z).summaries ≡ Some y) p.0 f)
        | inr p ↦ ap (λ (z : Epochs). find k z.summaries) (epochs_same (with_epochs s.register l x) n j q ∙ p.1) ∙ f
      ]

-- each closed epoch has a summary, open ones are as they were fixed, and swaps leave the factor, and no fewer nodes
pub record EachAt (x : Epochs) : Type 0 where
  pub has : (e : ℕ) → 0 < e → e ≤ x.lce → find e x.summaries ≡ None → ⊥
  pub low : (e : ℕ) (p : Spec) → find e x.specs ≡ Some p → (0 < e) × (e ≤ x.epoch)
  pub same : (e : ℕ) → x.lce < e → find e x.swapped ≡ find e x.specs
  pub like : (e : ℕ) → Like (find e x.specs) (find e x.swapped)

abbrev pub EachClosed : Register → Type 0
EachClosed r = (l : ℕ) → EachAt (epochs_of r l)

each_logs : (r n : Register) → n.logs ≡ r.logs → EachClosed r → EachClosed n
each_logs r n q h l = subst EachAt (sym (ap (λ m. unwrap_or (find l m) no_epochs) q)) (h l)

each_put : (r n : Register) (l : ℕ) (x : Epochs) → Same (with_epochs r l x) n → EachAt x → EachClosed r → EachClosed n
each_put r n l x s g h k = elim (epochs_put r l k x) [
  | inl a ↦ subst EachAt (sym (epochs_same (with_epochs r l x) n k s ∙ a.1)) g
  | inr a ↦ subst EachAt (sym (epochs_same (with_epochs r l x) n k s ∙ a.1)) (h k)
]

same_put : (k x : ℕ) (p : Spec) (ps qs : List (ℕ × Spec)) → find k ps ≡ find k qs → find k (put x p ps) ≡ find k (put x p qs)
same_put k x p ps qs q = elim (put_cases k x p ps) [
  | inl a ↦ a.1 ∙ sym (find-put_same k x p qs a.0)
  | inr a ↦ a.1 ∙ (q ∙ sym (find-put_other k x p qs a.0))
]

like_put : (k x : ℕ) (p : Spec) (ps qs : List (ℕ × Spec)) → Like (find k ps) (find k qs) → Like (find k (put x p ps)) (find k (put x p qs))
like_put k x p ps qs q = elim (put_cases k x p ps) [
  | inl a ↦ subst (λ o. Like o (find k (put x p qs))) (sym a.1) (subst (Like (Some p)) (sym (find-put_same k x p qs a.0)) (like_same (Some p)))
  | inr a ↦ subst (λ o. Like o (find k (put x p qs))) (sym a.1) (subst (Like (find k ps)) (sym (find-put_other k x p qs a.0)) q)
]

next_each : (x : Epochs) (p : Spec) → EachAt x → EachAt (next_epoch x p)
next_each x p h = record {
  has = h.has;
  low = λ e q f. elim (put_cases e (x.epoch + 1) p x.specs) [ inl a ↦ (let k = a.0 in (omega arith, omega arith)) | inr a ↦ (let z = h.low e q (sym a.1 ∙ f) in let u = z.1 in (z.0, omega arith)) ];
  same = λ e u. same_put e (x.epoch + 1) p x.swapped x.specs (h.same e u);
  like = λ e. like_put e (x.epoch + 1) p x.specs x.swapped (h.like e);
}

closed_each : (x : Epochs) (k : ℕ) (y : Summary) → x.lce + 1 ≡ k → EachAt x → EachAt (closed_epochs x k y)
closed_each x k y q h = record {
  has = λ e p b f. elim (put_cases e k y x.summaries) [ inl v ↦ (let z : None ≡ Some y = sym f ∙ v.1 in cc) | inr v ↦ h.has e p (below e b v.0) (sym v.1 ∙ f) ];
  low = h.low;
  same = λ e u. h.same e (omega arith);
  like = h.like;
} where
  below : (j : ℕ) → j ≤ k → (j ≡ k → ⊥) → j ≤ x.lce
  below j b n = elim (cases_order j k) [ inl z ↦ absurd (n z) | inr (inl z) ↦ omega arith | inr (inr z) ↦ absurd (omega arith) ]

swapped_each : (x : Epochs) (upto old new : ℕ) → EachAt x → EachAt (swapped_epochs x upto old new)
swapped_each x upto old new h = record {
  has = h.has;
  low = h.low;
  same = λ e u. swapped_above (closed_upto x upto) old new e x.swapped (omega arith) ∙ h.same e u;
  like = λ e. subst (Like (find e x.specs)) (sym (find-swapped (closed_upto x upto) old new e x.swapped)) (like_swapped (nat_le e (closed_upto x upto)) old new (find e x.specs) (find e x.swapped) (h.like e));
}

pub activate_each : (r : Register) (l : ℕ) (p : Spec) → EachClosed r → EachClosed (activate r l p).register
activate_each r l p h = elim (activate_leaves r l p) [
  | inl a ↦ each_logs r (activate r l p).register a.0 h
  | inr a ↦ each_put r (activate r l p).register l (next_epoch (epochs_of r l) p) a.1 (next_each (epochs_of r l) p (h l)) h
]

pub each_closed : (c : Config) (s : State) (e : Move) → NamesOnce s → EachClosed s.register → EachClosed (Calm.moves c s e).state.register
each_closed c s e N h = register_kept c s e EachClosed h
    (λ l g. activate_each s.register l (Step.spec_set c s l) h)
    (λ l k y b. elim (close_leaves s.register l k y b) [
      | inl a ↦ each_logs s.register (close s.register l k y b).register a.0 h
      | inr a ↦ each_put s.register (close s.register l k y b).register l (closed_epochs (epochs_of s.register l) k y) a.1 (closed_each (epochs_of s.register l) k y a.0 (h l)) h
    ])
    (λ n. elim (draw_leaves s.register n) [ inl a ↦ each_logs s.register (draw s.register n).register a.0 h | inr a ↦ each_logs s.register (draw s.register n).register a.0 h ])
    (λ l upto old new. elim (swap_leaves s.register l upto old new) [
      | inl a ↦ each_logs s.register (swap s.register l upto old new).register a.0 h
      | inr a ↦ each_put s.register (swap s.register l upto old new).register l (swapped_epochs (epochs_of s.register l) upto old new) a (swapped_each (epochs_of s.register l) upto old new (h l)) h
    ])
    (λ n q. each_logs s.register n q h) N

-- a look shows the summary of a closed epoch alone, and of each
pub look_closed : (c : Config) (r : Register) (l e : ℕ) (y : Summary) → (looks_at c r l e).summary ≡ Some y → e ≤ lce_of r l
unfolding look
look_closed c r l e y = cond_both (nat_le 1 e && nat_le e (lce_of r l)) (find e (epochs_of r l).summaries) None (λ o. o ≡ Some y → e ≤ lce_of r l) (λ t h. let p = and_parts (nat_le 1 e) (nat_le e (lce_of r l)) t in leb-true _ _ p.1) (λ t h. cc)

pub look_open : (c : Config) (r : Register) (l e : ℕ) → EachClosed r → 0 < e → (looks_at c r l e).summary ≡ None → lce_of r l < e
unfolding look
look_open c r l e C p = cond_both (nat_le 1 e && nat_le e (lce_of r l)) (find e (epochs_of r l).summaries) None (λ o. o ≡ None → lce_of r l < e) (λ t h. let q = and_parts (nat_le 1 e) (nat_le e (lce_of r l)) t in absurd ((C l).has e p (leb-true _ _ q.1) h))
    (λ t h. elim (cases_lt (lce_of r l) e) [ inl a ↦ a | inr a ↦ absurd (let z : true ≡ false = sym (and_from (nat_le 1 e) (nat_le e (lce_of r l)) (le-leb 1 e (omega arith)) (le-leb e (lce_of r l) a)) ∙ t in cc) ])

pub look_epoch : (c : Config) (r : Register) (l e : ℕ) → (looks_at c r l e).epoch ≡ (epochs_of r l).epoch
unfolding look
look_epoch c r l e = refl

pub start_each : EachClosed empty_register
unfolding find
start_each l = record { has = λ e p b f. omega arith; low = λ e p f. absurd (not_none f); same = λ e h. refl; like = λ e. tt }

-- ---- nodes, factor and extras ----

-- an epoch that was handed out
abbrev pub Reached : Register → ℕ → ℕ → Type 0
Reached r l e = (0 < e) × (e ≤ (epochs_of r l).epoch)

-- what is fixed for an epoch that was handed out stays so
abbrev pub SpecsStay : Register → Register → Type 0
SpecsStay r n = (l e : ℕ) → Reached r l e → find e (epochs_of n l).specs ≡ find e (epochs_of r l).specs

pub specs_stay : (c : Config) (s : State) (e : Move) → NamesOnce s → SpecsStay s.register (Calm.moves c s e).state.register
specs_stay c s e N = register_kept c s e (λ n. SpecsStay s.register n) (λ l k h. refl)
    (λ l g. elim (activate_leaves s.register l (Step.spec_set c s l)) [
      | inl a ↦ by_logs (activate s.register l (Step.spec_set c s l)).register a.0
      | inr a ↦ by_put (activate s.register l (Step.spec_set c s l)).register l (next_epoch (epochs_of s.register l) (Step.spec_set c s l)) a.1
          (λ k h. elim (put_cases k ((epochs_of s.register l).epoch + 1) (Step.spec_set c s l) (epochs_of s.register l).specs) [ inl b ↦ absurd (let u = h.1 in let v = b.0 in omega arith) | inr b ↦ b.1 ])
    ])
    (λ l k y b. elim (close_leaves s.register l k y b) [
      | inl a ↦ by_logs (close s.register l k y b).register a.0
      | inr a ↦ by_put (close s.register l k y b).register l (closed_epochs (epochs_of s.register l) k y) a.1 (λ j h. refl)
    ])
    (λ n. elim (draw_leaves s.register n) [ inl a ↦ by_logs (draw s.register n).register a.0 | inr a ↦ by_logs (draw s.register n).register a.0 ])
    (λ l upto old new. elim (swap_leaves s.register l upto old new) [ inl a ↦ by_logs (swap s.register l upto old new).register a.0 | inr a ↦ by_put (swap s.register l upto old new).register l (swapped_epochs (epochs_of s.register l) upto old new) a (λ k h. refl) ])
    (λ n q. by_logs n q) N where
      by_logs : (n : Register) → n.logs ≡ s.register.logs → SpecsStay s.register n
      by_logs n q l k h = ap (λ m. find k (unwrap_or (find l m) no_epochs).specs) q

      by_put : (n : Register) (l : ℕ) (x : Epochs) → Same (with_epochs s.register l x) n → ((k : ℕ) → Reached s.register l k → find k x.specs ≡ find k (epochs_of s.register l).specs) → SpecsStay s.register n
      by_put n l x q g j k h = elim (epochs_put s.register l j x) [
        | inl p ↦ ap (λ (z : Epochs). find k z.specs) (epochs_same (with_epochs s.register l x) n j q ∙ p.1) ∙ (g k (subst (λ z. Reached s.register z k) p.0 h) ∙ ap (λ z. find k (epochs_of s.register z).specs) (sym p.0))
        | inr p ↦ ap (λ (z : Epochs). find k z.specs) (epochs_same (with_epochs s.register l x) n j q ∙ p.1)
      ]

-- of an epoch that was handed out a look shows what is fixed for it
pub shown_is : (r : Register) (l e : ℕ) → Reached r l e → epoch_shown (epochs_of r l) e ≡ e
shown_is r l e h = cond_both ((e == 0) || nat_lt (epochs_of r l).epoch e) (epochs_of r l).epoch e (λ z. z ≡ e)
    (λ t. absurd (let a = h.0 in let b = h.1 in elim (or_cases (e == 0) (nat_lt (epochs_of r l).epoch e) t) [ inl z ↦ (let y = eqb-true e 0 z in omega arith) | inr z ↦ (let y = ltb-true (epochs_of r l).epoch e z in omega arith) ]))
    (λ t. refl)

pub spec_found : (c : Config) (r : Register) (l e : ℕ) → Reached r l e → fixed_of c r l e ≡ unwrap_or (find e (epochs_of r l).specs) (first_spec c l)
spec_found c r l e h = ap (λ k. unwrap_or (find k (epochs_of r l).specs) (first_spec c l)) (shown_is r l e h)

-- as swaps left it
pub now_found : (c : Config) (r : Register) (l e : ℕ) → Reached r l e → spec_of c r l e ≡ unwrap_or (find e (epochs_of r l).swapped) (first_spec c l)
unfolding look
now_found c r l e h = ap (λ k. unwrap_or (find k (epochs_of r l).swapped) (first_spec c l)) (shown_is r l e h)

-- of an open one that is what was fixed
pub open_spec : (c : Config) (r : Register) (l e : ℕ) → EachClosed r → Reached r l e → lce_of r l < e → spec_of c r l e ≡ fixed_of c r l e
open_spec c r l e O h p = now_found c r l e h ∙ (ap (λ o. unwrap_or o (first_spec c l)) ((O l).same e p) ∙ sym (spec_found c r l e h))

-- what a look shows of an epoch is like what was fixed for it: the same while the epoch is open
pub record SpecLike (c : Config) (r : Register) (l e : ℕ) (p : Spec) : Type 0 where
  pub fixed : lce_of r l < e → p ≡ fixed_of c r l e
  pub factor : p.r ≡ (fixed_of c r l e).r
  pub size : length (nodes_of (fixed_of c r l e)) ≤ length (nodes_of p)

count_all : (ys : List ℕ) → how_many (λ y. true) ys ≡ length ys
count_all [] = refl
count_all (y ∷ ys) = ap (λ n. suc n) (count_all ys)

pub look_like : (c : Config) (r : Register) (l e : ℕ) → EachClosed r → Reached r l e → SpecLike c r l e (spec_of c r l e)
look_like c r l e E h = record {
  fixed = open_spec c r l e E h;
  factor = ap (λ (p : Spec). p.r) (now_found c r l e h) ∙ (by_like (find e (epochs_of r l).specs) (find e (epochs_of r l).swapped) ((E l).like e)).0 ∙ sym (ap (λ (p : Spec). p.r) (spec_found c r l e h));
  size = subst (λ (p : Spec). length (nodes_of p) ≤ length (nodes_of (spec_of c r l e))) (sym (spec_found c r l e h)) (subst (λ (p : Spec). length (nodes_of (unwrap_or (find e (epochs_of r l).specs) (first_spec c l))) ≤ length (nodes_of p)) (sym (now_found c r l e h)) (by_like (find e (epochs_of r l).specs) (find e (epochs_of r l).swapped) ((E l).like e)).1);
} where
  by_like : (o n : Option Spec) → Like o n → ((unwrap_or n (first_spec c l)).r ≡ (unwrap_or o (first_spec c l)).r) × (length (nodes_of (unwrap_or o (first_spec c l))) ≤ length (nodes_of (unwrap_or n (first_spec c l))))
  by_like None None u = (refl, omega arith)
  by_like None (Some q) u = absurd u
  by_like (Some p) None u = absurd u
  by_like (Some p) (Some q) u = (u.0, let z = u.1 in let a = count_all (nodes_of p) in let b = count_all (nodes_of q) in omega arith)

pub like_later : (c : Config) (r n : Register) (l e : ℕ) (p : Spec) → Up r n → fixed_of c n l e ≡ fixed_of c r l e → SpecLike c r l e p → SpecLike c n l e p
like_later c r n l e p u q h = record {
  fixed = λ o. h.fixed (let z = (u l).1 in omega arith) ∙ sym q;
  factor = h.factor ∙ sym (ap (λ (p : Spec). p.r) q);
  size = subst (λ (x : Spec). length (nodes_of x) ≤ length (nodes_of p)) (sym q) h.size;
}

pub reached_later : (r n : Register) (l e : ℕ) → Up r n → Reached r l e → Reached n l e
reached_later r n l e u h = (h.0, let a = h.1 in let b = (u l).0 in omega arith)

pub spec_stays : (c : Config) (r n : Register) → Up r n → SpecsStay r n → (l e : ℕ) → Reached r l e → fixed_of c n l e ≡ fixed_of c r l e
spec_stays c r n u s l e h = spec_found c n l e (reached_later r n l e u h) ∙ (ap (λ o. unwrap_or o (first_spec c l)) (s l e h) ∙ sym (spec_found c r l e h))

-- a new epoch has what was set
pub activated_spec : (c : Config) (r : Register) (l : ℕ) (p : Spec) (n : Register) → activate r l p ≡ record { register = n; answer = Granted } → p ≡ fixed_of c n l (epochs_of n l).epoch
activated_spec c r l p n h =
    let new = activated_epochs r l p n h in
    let e = ap (λ (x : Epochs). x.epoch) new in
    sym (spec_found c n l (epochs_of n l).epoch (omega arith, omega arith)
    ∙ (ap (λ (x : Epochs). unwrap_or (find x.epoch x.specs) (first_spec c l)) new ∙ ap (λ o. unwrap_or o (first_spec c l)) (find-put_same ((epochs_of r l).epoch + 1) ((epochs_of r l).epoch + 1) p (epochs_of r l).specs refl)))

pub start_closed : OnlyClosed empty_register
unfolding find
start_closed l e y h = absurd (not_none h)
