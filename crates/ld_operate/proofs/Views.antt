-- The lines of views, one after the other.
use Rattle.std.proofs.Common.{◌≡◌, ◌≤◌, ℕ, zero, suc, ◌+◌, ◌-◌, List, [], ◌∷◌, ◌++◌, Bool, sym, ap, ◌∙◌, arith, append_assoc}
use Rattle.std.specs.Prelude.{All}
use Rattle.std.specs.List.{range_with_len}
use Rattle.std.proofs.lemmas.List.{append-nil, map-append}
use Rattle.std.proofs.lemmas.List.Elements.{All-append}
use Rattle.std.proofs.lemmas.Grind.{flat_map-append}
use Rattle.ld_register.specs.declared.register.View.{View}
use Rattle.ld_register.specs.Calls.{IsView}
use Rattle.ld_operate.specs.Shown.{epoch_line}
use Rattle.ld_operate.specs.Views.{views_text, ShowsEpoch, ShowsEpochs}
use Rattle.ld_operate.proofs.Asks.{range_split}

only_one : (P : (ℕ × View) → Type 0) (x : ℕ × View) → P x → All P (x ∷ [])
only_one P x h zero d l = h
only_one P x h (suc k) d l = absurd (omega arith)

range_more : (from epoch : ℕ) → from ≤ epoch → range_with_len from (epoch + 1 - from) ≡ range_with_len from (epoch - from) ++ epoch ∷ []
range_more from epoch l =
    let n : epoch + 1 - from ≡ (epoch - from) + 1 = omega arith in
    let at : from + (epoch - from) ≡ epoch = omega arith in
    ap (range_with_len from) n ∙ range_split from (epoch - from) 1 ∙ ap (λ k. range_with_len from (epoch - from) ++ k ∷ []) at

pub no_views : (json : Bool) (log from : ℕ) (o : List ℕ) → ShowsEpochs json log from (from - from) o o
no_views json log from o =
    let n : 0 ≡ from - from = omega arith in
    record { views = []; epochs_are = ap (range_with_len from) n; are = λ k d l. absurd (omega arith); written = sym (append-nil o) }

pub one_more_view : (json : Bool) (log from epoch : ℕ) (o m n : List ℕ) → from ≤ epoch → ShowsEpochs json log from (epoch - from) o m → ShowsEpoch json log epoch m n → ShowsEpochs json log from (epoch + 1 - from) o n
one_more_view json log from epoch o m n l p q = record {
  views = p.views ++ (epoch, q.view) ∷ [];
  epochs_are = map-append (λ (v : ℕ × View). v.0) p.views ((epoch, q.view) ∷ []) ∙ ap (λ l. l ++ epoch ∷ []) p.epochs_are ∙ sym (range_more from epoch l);
  are = All-append (λ (v : ℕ × View). IsView log v.0 v.1) p.views ((epoch, q.view) ∷ []) p.are (only_one (λ (v : ℕ × View). IsView log v.0 v.1) (epoch, q.view) q.is);
  written = q.written ∙ ap (λ l. l ++ epoch_line json epoch q.view) p.written ∙ append_assoc o (views_text json p.views) (epoch_line json epoch q.view)
      ∙ ap (λ l. o ++ l) (ap (λ l. views_text json p.views ++ l) (sym (append-nil (epoch_line json epoch q.view))) ∙ sym (flat_map-append (λ (v : ℕ × View). epoch_line json v.0 v.1) p.views ((epoch, q.view) ∷ [])));
}
