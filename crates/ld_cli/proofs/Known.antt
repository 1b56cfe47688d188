-- The next line of an input whose whole may be known.
use Rattle.std.proofs.Common.{◌≡◌, ℕ, List, None, Some, subst}
use Rattle.std.specs.Prelude.{Option, IfSome}
use Rattle.std.specs.Io.KnownBytes.{prepend_known}
use Rattle.ld_io.specs.Input.{IsSome, left_in, left_of}
use Rattle.ld_cli.specs.Lines.{TakesLine}
use Rattle.ld_cli.specs.declared.lines.Ending.{Ending}
use Rattle.ld_cli.specs.declared.lines.Ending.TheVariants.{Line, End, Cut, Long}

-- the line alone
line_alone : (x y line : List ℕ) (ending : Ending) → TakesLine (Some x) (Some y) line ending → TakesLine None None line ending
line_alone x y line Line took = (took.0, took.1, tt)
line_alone x y line End took = (tt, tt, tt)
line_alone x y line Cut took = (took.0, took.1, took.2, tt, tt)
line_alone x y line Long took = (took.0, took.1, tt)

-- what holds of each whole input holds of the one that is known
module _ (May : List ℕ → Type 0) (held left gave given line : List ℕ) (ending : Ending)
    (some : IsSome May) (takes : (all : List ℕ) → May all → TakesLine (prepend_known held (left_in all gave)) (prepend_known left (left_in all given)) line ending) where
  takes_same : (known : Option (List ℕ)) → IfSome known May → TakesLine (prepend_known held (left_of known gave)) (prepend_known left (left_of known given)) line ending
  takes_same None knows = line_alone _ _ line ending (takes some.all some.may)
  takes_same (Some all) knows = takes all knows

  pub takes_known : (before known : Option (List ℕ)) → known ≡ before → IfSome known May
      → TakesLine (prepend_known held (left_of before gave)) (prepend_known left (left_of known given)) line ending
  takes_known before known same knows =
      subst (λ (k : Option (List ℕ)). TakesLine (prepend_known held (left_of k gave)) (prepend_known left (left_of known given)) line ending) same (takes_same known knows)
