-- A segment whose Base was just written.
use Rattle.std.proofs.Common.{◌≡◌, refl, ℕ, ◌+◌, ◌<◌, ◌^◌, List, [], ◌∷◌, ◌++◌, length, take, drop, Some, sym, ◌∙◌, ap, arith, length-append, append_assoc, append-nil, take-append-drop, ◌==◌}
use Rattle.std.proofs.lemmas.List.{take_at, drop_at, drop-drop}
use Rattle.std.proofs.lemmas.List.Elements.{All-nil, All-cons}
use Rattle.ld_journal.specs.Format.{framed}
use Rattle.ld_op.specs.declared.version.Version.{Version}
use Rattle.ld_layout.specs.Base.{base_bytes}
use Rattle.ld_layout.specs.Layout.{Layout, Segment, least_for, growth_told, base_length, entry_count, room_for, new_segment}
use Rattle.ld_layout.proofs.Lengths.{base_long}
use Rattle.ld_segment.specs.Stays.{StandsAt}
use Rattle.ld_segment.specs.Bases.{IsBase, HasNoLoss}
use Rattle.ld_segment.specs.Lies.{after_base, behind_base, base_record, IsCurrent}

-- ---- pieces that stand side by side ----

pub stands_whole : (at : ℕ) (piece c : List ℕ) → StandsAt at piece c → drop at c ≡ piece ++ drop (length piece) (drop at c)
stands_whole at piece c stands = sym (take-append-drop (length piece) (drop at c)) ∙ ap (λ l. l ++ drop (length piece) (drop at c)) stands

pub stands_front : (at : ℕ) (p q c : List ℕ) → StandsAt at (p ++ q) c → StandsAt at p c
stands_front at p q c stands =
    ap (λ l. take (length p) l) (stands_whole at (p ++ q) c stands ∙ append_assoc p q (drop (length (p ++ q)) (drop at c)))
    ∙ take_at p (q ++ drop (length (p ++ q)) (drop at c)) (length p) refl

pub stands_back : (at : ℕ) (p q c : List ℕ) → StandsAt at (p ++ q) c → StandsAt (at + length p) q c
stands_back at p q c stands =
    let rest = drop (length (p ++ q)) (drop at c) in
    ap (λ l. take (length q) l) (sym (drop-drop (length p) at c) ∙ ap (λ l. drop (length p) l) (stands_whole at (p ++ q) c stands ∙ append_assoc p q rest) ∙ drop_at p (q ++ rest) (length p) refl)
    ∙ take_at q rest (length q) refl

-- ---- the segment ----

-- a segment with its Base alone
pub record IsNew (y : Layout) (g : Segment) : Type 0 where
  pub based : g.based ≡ entry_count y.index.logs
  pub ops : g.ops ≡ 0
  pub end : g.end ≡ behind_base g y.index
  pub grows : g.grows ≡ y.grows
  pub limit : g.limit ≡ behind_base g y.index + 1 + room_for (least_for g.grows (base_length y.index g.areas)) 0

pub new_is : (y : Layout) (cause : ℕ) → IsNew y (new_segment y cause 0)
new_is y cause = record { based = refl; ops = refl; end = omega arith; grows = refl; limit = omega arith }

pub base_record_long : (kind : ℕ) (y : Layout) (g : Segment) → length (base_record kind y g) ≡ 6 + base_length y.index g.areas
base_record_long kind y g = omega (arith, length-append (framed (base_bytes kind y.index g.areas)) (0 ∷ []), base_long kind y.index g.areas)

pub new_current : (kind : ℕ) (opening from : Version) (y : Layout) (g : Segment) (c : List ℕ) → after_base kind opening ≡ Some from → (kind ≡ 9 → HasNoLoss y.index) → growth_told kind ≡ y.grows → IsBase y.index g.areas → IsNew y g → StandsAt g.place (base_record kind y g) c
    → IsCurrent opening from g y.index c
new_current kind opening from y g c kind_is older room_is is_base new stands =
    let base : List ℕ = base_bytes kind y.index g.areas in
    let rest : List ℕ = drop (length (base_record kind y g)) (drop g.place c) in
    record {
      kind = kind;
      base = y.index;
      from = from;
      kind_is = kind_is;
      older = older;
      is_base = is_base;
      records = [];
      journal = record {
        gate = 0;
        after = rest;
        bytes_are = stands_whole g.place (base_record kind y g) c stands ∙ append_assoc (framed base) (0 ∷ []) rest ∙ ap (λ l. l ++ 0 ∷ rest) (sym (append-nil (framed base)));
        shut = omega arith;
        fits = All-cons (λ body. length body < 2 ^ 32) base [] (omega (arith, base_long kind y.index g.areas, is_base.fits)) (All-nil (λ body. length body < 2 ^ 32));
      };
      placed = record { are = tt; version_is = refl };
      based_is = new.based;
      ops_is = new.ops;
      grows_is = new.grows ∙ sym room_is;
      end_is = omega (arith, new.end);
      limit_is = new.limit;
      index_is = refl;
    }
