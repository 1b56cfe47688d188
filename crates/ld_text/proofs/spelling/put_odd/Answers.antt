use Rattle.std.proofs.Common.{◌++◌, ◌+◌, drop, get_or, append_assoc, ap, sym, ◌∙◌}
use Rattle.ld_text.specs.Text.{odd, odd_byte}
use Rattle.ld_text.proofs.Turning.{odd_step, odd_end}
use Rattle.ld_text.proofs.spelling.put_odd.Goals as goal

pub bytes-preserved : goal.bytes-preserved
bytes-preserved c =
    let h = c.in_ok-put_odd_byte.ensures in
    let i = c.bytes.byte-index in
    let bytes = c.args.bytes.now in
    rw h (append_assoc c.bytes.out.items (odd_byte (get_or bytes i 0)) (odd (drop (i + 1) bytes)) ∙ ap (λ xs. c.bytes.out.items ++ xs) (sym (odd_step bytes i c.bytes-test.true)) ∙ c.bytes.invariant)

pub returns : goal.returns
returns c = odd_end c.bytes.out.items c.args.bytes.now c.bytes.byte-index c.bytes-test.false ∙ c.bytes.invariant
