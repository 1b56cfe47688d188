-- Bytes lie in one way at most, so they represent one plain state at most.
use Rattle.std.proofs.Common.{◌≡◌, ℕ, List, sym, ◌∙◌, ap}
use Rattle.ld_op.specs.Plain.{Plain}
use Rattle.ld_op.specs.Cells.{read_plain}
use Rattle.ld_segment.specs.Lies.{StandsFor}
use Rattle.ld_segment.proofs.OneLayout.{one_way}

pub one_state : (p q : Plain) (bytes : List ℕ) → StandsFor p bytes → StandsFor q bytes → p ≡ q
one_state p q bytes a b = a.plain ∙ ap (λ y. read_plain bytes y.index) (one_way a.version b.version a.layout b.layout a.slots b.slots bytes a.lies a.sound b.lies b.sound).1 ∙ sym b.plain
