use Rattle.std.proofs.Common.{◌≡◌, ◌∙◌, ◌++◌, List, ℕ, ap}
use Rattle.ld_text.specs.Text.{text_of}
use Rattle.ld_text.proofs.Judging.{differs, found_other}
use Rattle.ld_text.proofs.reading.payload_of.Goals as goal

pub returns : goal.returns
returns c = λ payload bytes is.
    let line : List ℕ = c.args.line.now in
    let text : List ℕ = c.spell.new.out.items in
    let spelled : text ≡ text_of c.in_ok-bytes.bytes.items = c.in-Ok.ensures ∙ ap (λ xs. xs ++ text_of c.deref.result.now) c.new-text.ensures.items ∙ ap text_of c.deref.ensures.value in
    differs line c.in_ok-bytes.bytes.items text payload c.in_ok-bytes.ensures spelled (λ same. found_other line c.as_slice.result.now c.if-eq.ensures (c.as_slice.ensures.value ∙ same)) is
