-- Journals that are written to: blank, or of the second version.
use Rattle.std.proofs.Common.{◌≡◌, ◌==◌, ℕ, List, Bool, true, false, cond, if◌then◌else◌, refl, arith}
use Rattle.ld_msg.specs.Register.{record_length}
use Rattle.ld_op.specs.declared.op.Op.{Op}
use Rattle.ld_op.specs.declared.version.Version.TheVariants.{Blank, First, Second}
use Rattle.ld_op.specs.Plain.{op_length}
use Rattle.ld_layout.specs.Layout.{Layout, switches, switched_to, laid_for}
use Rattle.ld_segment.specs.Lies.{Slots, LiesAs, IsSound, MayKeep, written}
use Rattle.ld_segment.proofs.OneLayout.{one_way}
use Rattle.ld_segment.proofs.Sound.{sound_laid}
use Rattle.ld_store.specs.Ops.{IsOfFirst}

-- ---- never of the first version ----

never_first : (b : Bool) → cond b Blank Second ≡ First → ⊥
never_first true is = absurd (cc is)
never_first false is = absurd (cc is)

-- bytes that lie so are no journal of the first version
pub not_of_first : (y : Layout) (z : Slots) (bytes : List ℕ) → LiesAs (written y) y z bytes → IsSound y → IsOfFirst bytes → ⊥
not_of_first y z bytes lies sound first = never_first (y.ops == 0) (one_way (written y) First y first.layout z first.slots bytes lies sound first.lies first.sound).0

-- ---- a layout behind a switch alone ----

module _ (y : Layout) (o : Op) where
  abbrev n : ℕ
  n = op_length o

  laid_by : (t : Bool) → ((if t then switched_to y (record_length n) 0 else y).ops == 0) ≡ (y.ops == 0)
  unfolding switched_to
  laid_by true = refl
  laid_by false = refl

  pub laid_ops : ((laid_for y o 0).ops == 0) ≡ (y.ops == 0)
  laid_ops = laid_by (switches y n)

  module _ (sound : IsSound y) (may : MayKeep y o) where
    laid_sound_by : (t : Bool) → switches y n ≡ t → IsSound (if t then switched_to y (record_length n) 0 else y)
    laid_sound_by true is = sound_laid y o 0 sound (omega arith) may.fits is
    laid_sound_by false goes = sound

    pub laid_sound : IsSound (laid_for y o 0)
    laid_sound = laid_sound_by (switches y n) refl
