use Rattle.std.proofs.Common.{◌≡◌, ◌≤◌, ◌++◌, ◌-◌, length}
use Rattle.std.specs.Str.Chunks.{utf8_chunks_rest}
use Rattle.ld_text.specs.Text.{text_within}
use Rattle.ld_text.proofs.spelling.spell.Given as goal

abbrev pub invariant-chunks : goal.invariant-chunks
invariant-chunks l =
    (goal.iterator-chunks).can_next l.chunks × (goal.iterator-chunks).is_finite l.chunks
    × (l.out.items ++ text_within (length l.payload - l.counter) (utf8_chunks_rest l.chunks) ≡ l.initial.out.items ++ text_within (length l.payload) l.payload)
    × (length (utf8_chunks_rest l.chunks) ≤ length l.payload - l.counter)
