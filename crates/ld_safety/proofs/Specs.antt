-- What is set for later epochs of a log, and what is fixed for those that were handed out, needs at least one copy, and has as many nodes as it needs copies.
use Rattle.std.proofs.Common.{◌≡◌, ◌∙◌, ◌≤◌, ◌<◌, ◌+◌, nat_le, ℕ, arith, inl, inr, refl, ap, sym, subst, Bool, true, false, if◌then◌else◌, ◌||◌, ◌==◌, List, [], ◌∷◌, length, Option, Some, None}
use Rattle.std.proofs.lemmas.Bool.{and_parts, cases_lt, leb-true}
use Rattle.std.specs.Option.{unwrap_or}
use Rattle.ld_table.specs.Table.{find, put}
use Rattle.ld_table.specs.Words.{any_of, all_of}
use Rattle.ld_table.proofs.Laws.{put_cases}
use Rattle.ld_ids.specs.Set.{members}
use Rattle.ld_ids.specs.Choice.{nodes_of}
use Rattle.ld_ids.specs.declared.set.Spec.{Spec}
use Rattle.ld_config.specs.Bounds.{IsInBounds, AreSpecsOf}
use Rattle.ld_config.specs.declared.config.Config.{Config}
use Rattle.ld_msg.specs.declared.msg.Msg.{Msg}
use Rattle.ld_msg.specs.declared.msg.Body.{Body}
use Rattle.ld_msg.specs.Register.{swap, swapped_epochs, Register, Epochs, epochs_of, no_epochs, with_epochs, next_epoch, closed_epochs, activate, close, draw}
use Rattle.ld_op.specs.declared.op.Op.{Op}
use Rattle.ld_op.specs.Ticks.{Ticked, Cleans, Rebuilt, Asks, Nothing}
use Rattle.ld_machine.specs.Config.{first_spec, spec_in, fixed_of, has_log, has_node}
use Rattle.ld_machine.specs.Disk.{Node}
use Rattle.ld_machine.specs.State.{State, finish, node_at, with_node}
use Rattle.ld_machine.specs.Step as Step
use Rattle.ld_machine.specs.World.{begin}
use Rattle.ld_safety.proofs.Lists.{Some_inj, not_none}
use Rattle.ld_safety.proofs.RegisterSteps.{Same, activate_leaves, close_leaves, draw_leaves, swap_leaves, epochs_put, epochs_same}
use Rattle.ld_safety.proofs.Events.{NamesOnce, Cases, dispatch, refreshed}
use Rattle.ld_safety.proofs.Registers.{Reached, spec_found, register_kept}
use Rattle.ld_machine.specs.Calm as Calm
use Rattle.ld_machine.specs.Calm.{Move}

-- at least one copy is needed, and at most as many as there are nodes
pub record SpecFine (p : Spec) : Type 0 where
  pub least : 1 ≤ p.r
  pub most : p.r ≤ length (nodes_of p)

listed_fine : (ns : List Bool) (l : ℕ) (ps : List Spec) → AreSpecsOf ns ps → any_of (λ (p : Spec). p.log == l) ps ≡ true → SpecFine (spec_in l ps)
listed_fine ns l [] a h = absurd cc
listed_fine ns l (p ∷ ps) a h = by_log (λ q. listed_fine ns l ps a.2 q) (p.log == l) h where
  by_log : (any_of (λ (p : Spec). p.log == l) ps ≡ true → SpecFine (spec_in l ps)) → (b : Bool) → (b || any_of (λ (p : Spec). p.log == l) ps) ≡ true → SpecFine (if b then p else spec_in l ps)
  by_log ih true q = record { least = a.0.least; most = a.0.most }
  by_log ih false q = ih q

first_fine : (c : Config) (l : ℕ) → IsInBounds c → has_log c l ≡ true → SpecFine (first_spec c l)
first_fine c l b h = listed_fine c.nodes l c.logs b.specs h

abbrev pub SetFine : List (ℕ × Spec) → Type 0
SetFine ps = (l : ℕ) (p : Spec) → find l ps ≡ Some p → SpecFine p

abbrev pub FixedFine : Register → Type 0
FixedFine r = (l e : ℕ) (p : Spec) → find e (epochs_of r l).specs ≡ Some p → SpecFine p

-- for each epoch that was handed out something is fixed
abbrev pub EachFixed : Register → Type 0
EachFixed r = (l e : ℕ) → Reached r l e → find e (epochs_of r l).specs ≡ None → ⊥

-- what is set, and what is fixed
abbrev pub SetsFine : State → Type 0
SetsFine s = SetFine s.specs × FixedFine s.register × EachFixed s.register

or_first : (c : Config) (l : ℕ) (o : Option Spec) → IsInBounds c → has_log c l ≡ true → ((p : Spec) → o ≡ Some p → SpecFine p) → SpecFine (unwrap_or o (first_spec c l))
or_first c l None b h g = first_fine c l b h
or_first c l (Some p) b h g = g p refl

module _ (c : Config) (b : IsInBounds c) (s : State) (e : Move) (N : NamesOnce s) (A : SetsFine s) where
  set_put : (l r x : ℕ) (set : List Bool) → Step.can_set c l r x (members set) ≡ true → SetFine (put l (record { log = l; set = set; r = r; extras = x }) s.specs)
  set_put l r x set h k p f = elim (put_cases k l (record { log = l; set = set; r = r; extras = x }) s.specs) [
    | inl a ↦ subst SpecFine (Some_inj (sym a.1 ∙ f)) (let z = and_parts (has_log c l) _ h in let y = and_parts (all_of (has_node c) (members set)) _ z.1 in let w = and_parts (nat_le 1 r) _ y.1 in let v = and_parts (nat_le r (length (members set))) (nat_le x 3) w.1 in
        record { least = leb-true 1 r w.0; most = leb-true r (length (members set)) v.0 })
    | inr a ↦ A.0 k p (sym a.1 ∙ f)
  ]

  heard : (f : List ℕ) (n : ℕ) (m : Msg) (x : Node) (o : Option Op) (a : Option Body) → SetFine (Step.handles (with_node (refreshed s f) n x) n m o a).state.specs
  heard f n m x None a = A.0
  heard f n m x (Some o) a = A.0

  tick_fine : (n l : ℕ) (t : Ticked) → SetFine (Step.ticks_as c s n l t).state.specs
  tick_fine n l (Cleans k y) = A.0
  tick_fine n l Rebuilt = A.0
  tick_fine n l (Asks from) = A.0
  tick_fine n l Nothing = A.0

  set_cases : Cases c s e (λ d m. SetFine d.state.specs)
  set_cases = record {
    still = λ f older i. A.0;
    says = λ x q. A.0;
    node_hears = λ f older n m i t v o. heard f n m (Step.releases (node_at s n) m.log m.body) (Step.node_handles n (node_at s n) m).op (Step.node_handles n (node_at s n) m).answer;
    loads = λ n ls q b o. A.0;
    draw_fails = λ n b. A.0;
    formats = λ n r g b v i. A.0;
    ticks = λ n l t v i o. tick_fine n l t;
    stops = λ n b. A.0;
    wipes = λ n. A.0;
    faults = λ n f o. A.0;
    sets = λ l r x set h. set_put l r x set h;
    arms = λ k done o. A.0;
    hears = λ f older name q m i t l v o. A.0;
    retries = λ again name q v o. A.0;
    appends = λ name q p v a i. A.0;
    trims = λ name q t v b. A.0;
    drops = λ name q v o. A.0;
    activates = λ name l r g n i x. A.0;
    swaps = λ n m l x r q i. A.0;
    activate_fails = λ name l x g q. A.0;
    answers = λ f older name d m i t v o. A.0;
    polls = λ name d v o. A.0;
    opens = λ style name l from until o x. A.0;
  }

  by_logs : (n : Register) → n.logs ≡ s.register.logs → FixedFine n
  by_logs n q l k p f = A.1 l k p (ap (λ m. find k (unwrap_or (find l m) no_epochs).specs) (sym q) ∙ f)

  by_put : (n : Register) (l : ℕ) (x : Epochs) → Same (with_epochs s.register l x) n → ((k : ℕ) (p : Spec) → find k x.specs ≡ Some p → SpecFine p) → FixedFine n
  by_put n l x q g j k p f = elim (epochs_put s.register l j x) [
    | inl a ↦ g k p (ap (λ (z : Epochs). find k z.specs) (sym (epochs_same (with_epochs s.register l x) n j q ∙ a.1)) ∙ f)
    | inr a ↦ A.1 j k p (ap (λ (z : Epochs). find k z.specs) (sym (epochs_same (with_epochs s.register l x) n j q ∙ a.1)) ∙ f)
  ]

  fixed_after : FixedFine (Calm.moves c s e).state.register
  fixed_after = register_kept c s e FixedFine A.1
      (λ l g. elim (activate_leaves s.register l (Step.spec_set c s l)) [
        | inl a ↦ by_logs (activate s.register l (Step.spec_set c s l)).register a.0
        | inr a ↦ by_put (activate s.register l (Step.spec_set c s l)).register l (next_epoch (epochs_of s.register l) (Step.spec_set c s l)) a.1
            (λ k p f. elim (put_cases k ((epochs_of s.register l).epoch + 1) (Step.spec_set c s l) (epochs_of s.register l).specs) [
              | inl z ↦ subst SpecFine (Some_inj (sym z.1 ∙ f)) (or_first c l (find l s.specs) b g (A.0 l))
              | inr z ↦ A.1 l k p (sym z.1 ∙ f)
            ])
      ])
      (λ l k y b. elim (close_leaves s.register l k y b) [
        | inl a ↦ by_logs (close s.register l k y b).register a.0
        | inr a ↦ by_put (close s.register l k y b).register l (closed_epochs (epochs_of s.register l) k y) a.1 (A.1 l)
      ])
      (λ n. elim (draw_leaves s.register n) [ inl a ↦ by_logs (draw s.register n).register a.0 | inr a ↦ by_logs (draw s.register n).register a.0 ])
      (λ l upto old new. elim (swap_leaves s.register l upto old new) [
        | inl a ↦ by_logs (swap s.register l upto old new).register a.0
        | inr a ↦ by_put (swap s.register l upto old new).register l (swapped_epochs (epochs_of s.register l) upto old new) a (A.1 l)
      ])
      by_logs N

  each_by_logs : (n : Register) → n.logs ≡ s.register.logs → EachFixed n
  each_by_logs n q l k h f = let z : epochs_of n l ≡ epochs_of s.register l = ap (λ m. unwrap_or (find l m) no_epochs) q in let v = ap (λ (x : Epochs). x.epoch) z in A.2 l k (h.0, let u = h.1 in omega arith) (ap (λ (x : Epochs). find k x.specs) (sym z) ∙ f)

  each_by_put : (n : Register) (l : ℕ) (x : Epochs) → Same (with_epochs s.register l x) n → ((k : ℕ) → 0 < k → k ≤ x.epoch → find k x.specs ≡ None → ⊥) → EachFixed n
  each_by_put n l x q g j k h f = elim (epochs_put s.register l j x) [
    | inl a ↦ (let z = epochs_same (with_epochs s.register l x) n j q ∙ a.1 in let v = ap (λ (w : Epochs). w.epoch) z in g k h.0 (let u = h.1 in omega arith) (ap (λ (w : Epochs). find k w.specs) (sym z) ∙ f))
    | inr a ↦ (let z = epochs_same (with_epochs s.register l x) n j q ∙ a.1 in let v = ap (λ (w : Epochs). w.epoch) z in A.2 j k (h.0, let u = h.1 in omega arith) (ap (λ (w : Epochs). find k w.specs) (sym z) ∙ f))
  ]

  -- a new epoch has what is set
  each_after : EachFixed (Calm.moves c s e).state.register
  each_after = register_kept c s e EachFixed A.2
      (λ l g. elim (activate_leaves s.register l (Step.spec_set c s l)) [
        | inl a ↦ each_by_logs (activate s.register l (Step.spec_set c s l)).register a.0
        | inr a ↦ each_by_put (activate s.register l (Step.spec_set c s l)).register l (next_epoch (epochs_of s.register l) (Step.spec_set c s l)) a.1
            (λ k p b f. elim (put_cases k ((epochs_of s.register l).epoch + 1) (Step.spec_set c s l) (epochs_of s.register l).specs) [
              | inl z ↦ not_none (sym f ∙ z.1)
              | inr z ↦ A.2 l k (p, elim (cases_lt k ((epochs_of s.register l).epoch + 1)) [ inl v ↦ omega arith | inr v ↦ absurd (z.0 (omega arith)) ]) (sym z.1 ∙ f)
            ])
      ])
      (λ l k y b. elim (close_leaves s.register l k y b) [
        | inl a ↦ each_by_logs (close s.register l k y b).register a.0
        | inr a ↦ each_by_put (close s.register l k y b).register l (closed_epochs (epochs_of s.register l) k y) a.1 (λ j p b f. A.2 l j (p, b) f)
      ])
      (λ n. elim (draw_leaves s.register n) [ inl a ↦ each_by_logs (draw s.register n).register a.0 | inr a ↦ each_by_logs (draw s.register n).register a.0 ])
      (λ l upto old new. elim (swap_leaves s.register l upto old new) [
        | inl a ↦ each_by_logs (swap s.register l upto old new).register a.0
        | inr a ↦ each_by_put (swap s.register l upto old new).register l (swapped_epochs (epochs_of s.register l) upto old new) a (λ j p b f. A.2 l j (p, b) f)
      ])
      each_by_logs N

  pub fine_step : SetsFine (finish (Calm.moves c s e)).state
  unfolding finish
  fine_step = (dispatch c s e (λ d m. SetFine d.state.specs) N set_cases, fixed_after, each_after)

pub start_fine : (c : Config) → SetsFine (begin c).state
unfolding find
start_fine c = ((λ l p f. absurd (not_none f)), (λ l e p f. absurd (not_none f)), λ l e h. absurd (let z = h.0 in let y = h.1 in omega arith))

pub each_fine : (c : Config) (r : Register) (l e : ℕ) → FixedFine r → EachFixed r → Reached r l e → SpecFine (fixed_of c r l e)
each_fine c r l e F E h = subst SpecFine (sym (spec_found c r l e h)) (by_found (find e (epochs_of r l).specs) refl) where
  by_found : (o : Option Spec) → find e (epochs_of r l).specs ≡ o → SpecFine (unwrap_or o (first_spec c l))
  by_found None q = absurd (E l e h q)
  by_found (Some p) q = F l e p q

-- so is that of an epoch that was handed out
pub fixed_fine : (c : Config) → IsInBounds c → (r : Register) (l e : ℕ) → FixedFine r → has_log c l ≡ true → Reached r l e → SpecFine (fixed_of c r l e)
fixed_fine c b r l e A h g = subst SpecFine (sym (spec_found c r l e g)) (or_first c l (find e (epochs_of r l).specs) b h (A l e))
