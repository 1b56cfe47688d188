-- The laws on lost nodes over every list of events.
use Rattle.std.proofs.Common.{◌≡◌, ◌∙◌, ◌≤◌, ℕ, inl, inr, refl, ap, sym, subst, true, ◌&&◌, ◌==◌, List, [], ◌∷◌, ◌++◌, Some, arith}
use Rattle.std.proofs.lemmas.Bool.{and_from, or_cases, eqb-true}
use Rattle.ld_table.specs.Words.{is_in}
use Rattle.ld_lsn.specs.Number.{home_epoch}
use Rattle.ld_config.specs.declared.config.Config.{Config}
use Rattle.ld_table.specs.Table.{find}
use Rattle.ld_table.specs.Words.{how_many}
use Rattle.ld_msg.specs.Reading.{Held, is_loss, lacks}
use Rattle.ld_msg.specs.Register.{generation_of, epochs_of}
use Rattle.ld_machine.specs.Config.{spec_of, set_at}
use Rattle.ld_machine.specs.State.{node_at}
use Rattle.ld_machine.specs.Facts.{Happened}
use Rattle.ld_machine.specs.World.{World, In, begin}
use Rattle.ld_machine.specs.Run.{Move, after_step, world_after}
use Rattle.ld_machine.specs.Losses.{EndsAsLoss}
use Rattle.ld_safety.specs.Lost.{LostOnce, LossesWereSeen, CopiesAreLost, is_lost_at, has_copied}
use Rattle.ld_safety.proofs.Lists.{count_mono}
use Rattle.ld_safety.proofs.Traces.{Keeps, step_happened, trace, later, both_kept}
use Rattle.ld_safety.proofs.Generations.{Back, back_here, back_on, back_step, lost_between}
use Rattle.ld_safety.proofs.LostAlong.{Asked, asked_kept}
use Rattle.ld_safety.proofs.LostKept.{standings_kept}
use Rattle.ld_safety.proofs.LostMoments.{Known, open_at}
use Rattle.ld_safety.proofs.LostLaw.{SettledApart, LossesSettled, count_whole}
use Rattle.ld_safety.proofs.LostStood.{at_asks, lost_under, lost_in_state}

-- ---- lost once ----
back_along : (c : Config) (hs : List Happened) (w : World) (es : List Move) → Asked c hs w → Back w (world_after c w es)
unfolding world_after
back_along c hs w [] h = back_here w
back_along c hs w (e ∷ es) h = back_on w (after_step c w e) (world_after c (after_step c w e) es) (back_step c w e h.0.0.0) (back_along c (hs ++ step_happened c w.state e ∷ []) (after_step c w e) es ((asked_kept c).goes_on hs w e h))

pub lost_once : LostOnce
lost_once c first between last y l e g b was will =
    let u = world_after c (begin c) first in
    let v = world_after c u between in
    let hs = trace c (begin c) first in
    let h : Asked c hs u = later c (Asked c) (asked_kept c) [] (begin c) first (asked_kept c).begins in
    let k : Asked c (hs ++ trace c u between) v = later c (Asked c) (asked_kept c) hs u between h in
    let drawn = h.1.0.0 y was.0 was.1 in
    let d : g ≤ generation_of u.state.register y = (let z = was.2 in omega arith) in
    lost_under (node_at v.state y) l e g (lost_between u v (world_after c v last) (back_along c hs u between h) (back_along c (hs ++ trace c u between) v last k) y l e g d (lost_in_state (node_at (world_after c v last).state y) l e g will)).0

-- ---- when the confirming asks are sent ----
is_member : (y : ℕ) (xs : List ℕ) → is_in y xs ≡ true → In y xs
is_member y [] h = absurd cc
is_member y (x ∷ xs) h = elim (or_cases (x == y) (is_in y xs) h) [
  | inl a ↦ inl (sym (eqb-true x y a))
  | inr a ↦ inr (is_member y xs a)
]

pub losses_were_seen : LossesWereSeen
losses_were_seen c name l s round before asks between gives y b E i =
    let w = world_after c (begin c) before in
    let t = after_step c w asks in
    let hs = trace c (begin c) before in
    let set = set_at c t.state.register l (home_epoch s) in
    let a = at_asks c name l s round before asks between gives E in
    let o = open_at s y set a.reader.held a.loss (is_member y set i) in
    let S = (standings_kept c).goes_on hs w asks (later c _ (standings_kept c) [] (begin c) before (standings_kept c).begins) in
    elim o.how [
      | inl q ↦ inr (record { reader = a.reader; there = a.there; answer = o.answer; held = o.held; without = q })
      | inr q ↦ let k = a.lost y o.answer (is_member y set i) o.held q in
          inl (record { state = k; lines = (S.1.1 y l).lost (node_at t.state y).plain (home_epoch s) (inl refl) k })
    ]

-- ---- with what is left to be shown of the nodes ----
module _ (c : Config) (Q : List Happened → World → Type 0) (K : Keeps c Q) (P : LossesSettled c Q) where
  pub copies_are_lost : (name : List ℕ) (l s round : ℕ) (before : List Move) (asks : Move) (between : List Move) (gives : Move) → EndsAsLoss c name l s round before asks between gives → CopiesAreLost c (after_step c (world_after c (begin c) before) asks) l s
  copies_are_lost name l s round before asks between gives E =
      let w = world_after c (begin c) before in
      let t = after_step c w asks in
      let hs = trace c (begin c) before in
      let a = at_asks c name l s round before asks between gives E in
      let B : Keeps c (Known c Q) = both_kept c (Asked c) Q (asked_kept c) K in
      let h : Known c Q (hs ++ step_happened c w.state asks ∷ []) t = B.goes_on hs w asks (later c (Known c Q) B [] (begin c) before B.begins) in
      let r = t.state.register in
      let z : SettledApart c t l s a.reader.held = subst (λ k. SettledApart c t l k a.reader.held) a.next (subst (λ k. SettledApart c t k a.reader.next a.reader.held) a.log
      (P (hs ++ step_happened c w.state asks ∷ []) t h name a.reader a.there (a.equal ∙ ap (λ j. (epochs_of r j).swaps) (sym a.log)) (subst (λ k. is_loss a.reader.next (set_at c r k (home_epoch a.reader.next)) a.reader.held ≡ true) (sym a.log) (subst (λ k. is_loss k (set_at c r l (home_epoch k)) a.reader.held ≡ true) (sym a.next) a.loss)))) in
      let lost : (y : ℕ) → In y (set_at c r l (home_epoch s)) → ((h : Held) → find y a.reader.held ≡ Some h → lacks s h.body ≡ true → ⊥) → is_lost_at l (home_epoch s) (node_at t.state y) ≡ true = λ y i none.
      (let o = open_at s y (set_at c r l (home_epoch s)) a.reader.held a.loss i in elim o.how [ inl v ↦ absurd (none o.answer o.held v) | inr v ↦ a.lost y o.answer i o.held v ]) in
      let any : (spec_of c r l (home_epoch s)).r ≤ how_many (λ n. is_lost_at l (home_epoch s) (node_at t.state n)) (set_at c r l (home_epoch s)) = elim z.copied [
        | inl v ↦ (let m = count_mono (has_copied t l s z.summary) (λ n. is_lost_at l (home_epoch s) (node_at t.state n)) (set_at c r l (home_epoch s)) (λ y i q. lost y i (λ h f k. z.apart y h i f k q)) in omega arith)
        | inr v ↦ (let m = count_whole (λ n. is_lost_at l (home_epoch s) (node_at t.state n)) (set_at c r l (home_epoch s)) (λ y i. lost y i (λ h f k. v y h i f k)) in let u = z.fine in omega arith)
      ] in
      let m = count_mono (has_copied t l s z.summary) (λ n. is_lost_at l (home_epoch s) (node_at t.state n) && has_copied t l s z.summary n) (set_at c r l (home_epoch s))
      (λ y i q. and_from (is_lost_at l (home_epoch s) (node_at t.state y)) (has_copied t l s z.summary y) (lost y i (λ h f k. z.apart y h i f k q)) q) in
      (z.summary, z.closed, any, (λ v. let n = z.enough v in omega arith), z.how)
