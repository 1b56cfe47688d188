-- Where a record goes, and the slots then.
use Rattle.std.proofs.Common.{◌≡◌, ℕ, Option, Some, true, is_some, cond, sym, ◌∙◌, ap, subst}
use Rattle.std.specs.Prelude.{IfSome}
use Rattle.ld_msg.specs.Register.{record_length}
use Rattle.ld_layout.specs.declared.segment.Segment.{Segment as Stretch}
use Rattle.ld_layout.specs.LaidOut.{segment_of}
use Rattle.ld_layout.specs.Layout.{Layout, switches, switched_to}
use Rattle.ld_segment.specs.Lies.{Slots, segment_for, slots_after, slots_with}
use Rattle.ld_store.specs.Laid.{placed_in}

module _ (y : Layout) (o : Option Stretch) (next : Stretch) (size : ℕ) (is : o ≡ Some next) (full : is_some o ≡ switches y size) where
  switching : true ≡ switches y size
  switching = sym (ap is_some is) ∙ full

  pub placed_there : IfSome o (λ g. segment_of g ≡ segment_for y size) → record y { later = Some (segment_of next) } ≡ placed_in y size
  unfolding switched_to
  placed_there same =
      let this : segment_of next ≡ segment_for y size = subst (λ p. IfSome p (λ g. segment_of g ≡ segment_for y size)) is same in
      ap (λ s. record y { later = Some s }) this ∙ ap (λ b. cond b (switched_to y (record_length size) (record_length size)) y) switching

  pub slots_there : (z : Slots) → slots_after y z y.later ≡ slots_with y z size
  slots_there z = ap (λ b. cond b (slots_after y z y.later) z) switching
