-- Whether the next segment is to grow no byte tells, so bytes lie as a layout says whichever it is.
use Rattle.std.proofs.Common.{◌≡◌, List, ◌++◌, Option, Some, None, Bool, true, false, cond, refl, ℕ}
use Rattle.ld_journal.specs.Format.{IsJournal}
use Rattle.ld_op.specs.declared.record.Record.{Record}
use Rattle.ld_op.specs.declared.version.Version.{Version}
use Rattle.ld_layout.specs.Areas.{AreLive, IsHeld}
use Rattle.ld_layout.specs.Layout.{Layout, Segment, live_areas, closed_areas, switches, switched_to}
use Rattle.ld_segment.specs.Ops.{bodies_of}
use Rattle.ld_segment.specs.Lies.{Slots, LiesAs, IsSound, IsIndexed, head_of, with_mark, marked_in}
use Rattle.ld_layout.specs.declared.segment.Growth.{Growth}

abbrev pub turned : Layout → Growth → Layout
turned y grows = record y { grows = grows }

module _ (y : Layout) (grows : Growth) where
  head_turned : (rs : List Record) (a : Option Segment) (b : List ℕ) → IsJournal (bodies_of rs ++ head_of y a) b → IsJournal (bodies_of rs ++ head_of (turned y grows) a) b
  head_turned rs None b is = is
  head_turned rs (Some g) b is = is

  index_turned : (first version : Version) (z : Slots) (a : Option Segment) (rs : List Record) (b : List ℕ) → IsIndexed first version y z a rs b → IsIndexed first version (turned y grows) z a rs b
  index_turned first version z None rs b is = is
  index_turned first version z (Some g) rs b is = is

  pub lies_turned : (version : Version) (z : Slots) (b : List ℕ) → LiesAs version y z b → LiesAs version (turned y grows) z b
  lies_turned version z b lies = record {
    records = lies.records;
    journal = head_turned lies.records y.later b lies.journal;
    first = lies.first;
    placed = lies.placed;
    ops_is = lies.ops_is;
    end_is = lies.end_is;
    index_is = index_turned lies.first version z y.later lies.records b lies.index_is;
  }

  live_turned : (a : Option Segment) → AreLive (live_areas y a) → AreLive (live_areas (turned y grows) a)
  live_turned None live = live
  live_turned (Some g) live = live

  held_turned : (a : Option Segment) (p : List ℕ) → IsHeld p (closed_areas y a) → IsHeld p (closed_areas (turned y grows) a)
  held_turned None p held = held
  held_turned (Some g) p held = held

  pub sound_turned : IsSound y → IsSound (turned y grows)
  sound_turned sound = record {
    laid = record { live = live_turned y.later sound.laid.live; segment = sound.laid.segment };
    held = λ l n g e p at_l at_n is. held_turned y.later p (sound.held l n g e p at_l at_n is);
    index = sound.index;
    bounded = sound.bounded;
  }

-- a mark leaves it as it is
pub marked_still : (y : Layout) → (marked_in y).grows ≡ y.grows
unfolding switched_to
marked_still y = by (switches y 2)
  where
    by : (b : Bool) → (cond b (with_mark (switched_to y 7 7)) (with_mark y)).grows ≡ y.grows
    by true = refl
    by false = refl
