-- A node's answer counted, as the code has it.
use Rattle.std.proofs.Common.{◌≡◌, ℕ, ◌+◌, ◌-◌, ◌<◌, ◌≤◌, Bool, true, false, not, ◌&&◌, List, length, drop, set, slice_get, nat_le, Some, refl, ap, sym, subst, ◌∙◌, inl, inr, arith}
use Rattle.std.proofs.lemmas.Option.{slice_get_cases}
use Rattle.std.proofs.lemmas.List.{length-set}
use Rattle.ld_table.specs.Table.{find}
use Rattle.ld_ids.specs.declared.set.Spec.{Spec}
use Rattle.ld_lsn.specs.Number.{numbered}
use Rattle.ld_window.specs.Flags.{leading}
use Rattle.ld_appender.specs.Waiting.{Waiting, is_enough, with_stored}
use Rattle.ld_msg.specs.Sequencer.{is_acked, stored_at}
use Rattle.ld_sequencer.specs.Appends.{Row, IsInStep, shown, flags_after, stores, acks}
use Rattle.ld_sequencer.proofs.Marks as marks

-- what is known of one that waits after a node's answer
abbrev pub IsCounted : List Waiting → ℕ → ℕ → List Waiting → Bool → Bool → Type 0
IsCounted ws i y after was is = (w : Waiting) → slice_get ws i ≡ Some w → (after ≡ set ws i (with_stored w y)) × (was ≡ is_enough w) × (is ≡ is_enough (with_stored w y))

there : (ws : List Waiting) (i : ℕ) → i < length ws → (w : Waiting) × (slice_get ws i ≡ Some w)
there ws i l = elim (slice_get_cases ws i).1 [ inl f ↦ (f.0, f.2) | inr f ↦ absurd (omega (arith, f.0)) ]

swap : (a b : Bool) → (a && not b) ≡ (not b && a)
swap true true = refl
swap true false = refl
swap false true = refl
swap false false = refl

module _ (s : Spec) (flags now : List Bool) (ws after : List Waiting) (i y lng : ℕ) (was is : Bool) (w : Waiting) (g : slice_get ws i ≡ Some w)
    (h : IsInStep s.r flags ws) (l : i < length ws) (c : IsCounted ws i y after was is) (e : lng ≡ leading flags) (m : now ≡ flags_after is (lng + i) flags) where
  abbrev set_flags : List Bool
  set_flags = flags_after (is_enough (with_stored w y)) (leading flags + i) flags

  now_is : now ≡ set_flags
  now_is = let t = c w g in m ∙ (ap (λ b. flags_after b (lng + i) flags) t.2 ∙ ap (λ n. flags_after (is_enough (with_stored w y)) (n + i) flags) e)

  after_is : after ≡ set ws i (with_stored w y)
  after_is = (c w g).0

  abbrev rise : ℕ
  rise = leading now - lng

  rise_is : leading set_flags ≡ leading flags + rise
  rise_is = let a = marks.rises s flags ws i y w h g in let b : leading now ≡ leading set_flags = ap leading now_is in omega arith

  keeps : IsInStep s.r now (drop rise after)
  keeps = subst (λ f. IsInStep s.r f (drop rise after)) (sym now_is) (subst (λ v. IsInStep s.r set_flags (drop rise v)) (sym after_is) (marks.stored_keeps s flags ws i y w h g rise rise_is))

  within : rise ≤ length after
  within =
      let a = marks.leading_within now in
      let b = marks.waits s.r flags ws h in
      let d : length now ≡ length flags = ap length now_is ∙ marks.length_now s flags ws i y w h g in
      let f : length after ≡ length ws = ap length after_is ∙ length-set ws i (with_stored w y) in
      omega arith

  abbrev before : ℕ → Row
  before epoch = shown s epoch flags ws

  row : (epoch number : ℕ) → number ≡ numbered epoch (leading flags + 1) + i → shown s epoch now (drop rise after) ≡ stores (before epoch) y number (find number (before epoch).appends)
  row epoch number n =
      ap (λ f. shown s epoch f (drop rise after)) now_is ∙ (ap (λ v. shown s epoch set_flags (drop rise v)) after_is
      ∙ (marks.stored_shown s flags ws i y w h g epoch number rise n l rise_is ∙ sym (ap (stores (before epoch) y number) (marks.stored_found s flags ws i y w h g epoch number n))))

  acked : (epoch number : ℕ) → number ≡ numbered epoch (leading flags + 1) + i → (is && not was) ≡ acks s y (find number (before epoch).appends)
  acked epoch number n =
      let f : w.factor ≡ s.r = (marks.waiting_get s.r ws i w h.waiting g).factor in
      let a : was ≡ is_acked s w.append = (c w g).1 ∙ ap (λ r. nat_le r (length w.append.stored)) f in
      let b : is ≡ is_acked s (stored_at w.append y) = (c w g).2 ∙ ap (λ r. nat_le r (length (stored_at w.append y).stored)) f in
      ap (λ x. x && not was) b ∙ (ap (λ x. is_acked s (stored_at w.append y) && not x) a ∙ (swap (is_acked s (stored_at w.append y)) (is_acked s w.append) ∙ sym (ap (acks s y) (marks.stored_found s flags ws i y w h g epoch number n))))

module _ (s : Spec) (flags now : List Bool) (ws after : List Waiting) (i y lng : ℕ) (was is : Bool)
    (h : IsInStep s.r flags ws) (l : i < length ws) (c : IsCounted ws i y after was is) (e : lng ≡ leading flags) (m : now ≡ flags_after is (lng + i) flags) where
  pub counted_keeps : IsInStep s.r now (drop (leading now - lng) after)
  counted_keeps = let t = there ws i l in keeps s flags now ws after i y lng was is t.0 t.1 h l c e m

  pub counted_within : leading now - lng ≤ length after
  counted_within = let t = there ws i l in within s flags now ws after i y lng was is t.0 t.1 h l c e m

  pub counted_row : (epoch number : ℕ) → number ≡ numbered epoch (leading flags + 1) + i → shown s epoch now (drop (leading now - lng) after) ≡ stores (shown s epoch flags ws) y number (find number (shown s epoch flags ws).appends)
  counted_row epoch number n = let t = there ws i l in row s flags now ws after i y lng was is t.0 t.1 h l c e m epoch number n

  pub counted_acks : (epoch number : ℕ) → number ≡ numbered epoch (leading flags + 1) + i → (is && not was) ≡ acks s y (find number (shown s epoch flags ws).appends)
  counted_acks epoch number n = let t = there ws i l in acked s flags now ws after i y lng was is t.0 t.1 h l c e m epoch number n
