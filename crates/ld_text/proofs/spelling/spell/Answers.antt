use Rattle.std.proofs.Common.{◌≡◌, ◌++◌, ◌-◌, ◌∙◌, ℕ, List, length, subst, arith}
use Rattle.std.specs.Str.Chunks.{utf8_chunks_rest, utf8_chunk_valid, utf8_chunk_invalid}
use Rattle.ld_text.specs.Text.{odd, plain}
use Rattle.ld_text.proofs.Turning.{spelled_all, spelled_on}
use Rattle.ld_text.proofs.spelling.spell.Goals as goal

pub returns-in_default : goal.returns-in_default
returns-in_default c = spelled_all (length c.args.payload.now - c.chunks.counter) (utf8_chunks_rest c.chunks.chunks) c.chunks.out.items _ c.in_default.ensures.steps.0 c.chunks.invariant.2

pub chunks-preserved : goal.chunks-preserved
chunks-preserved c =
    let h = c.in-Some.ensures.steps in
    let k = c.chunks.invariant in
    let out : List ℕ = c.chunks.out.items in
    let mid : List ℕ = c.put_plain.new.out.items in
    let new : List ℕ = c.put_odd.new.out.items in
    let v : List ℕ = utf8_chunk_valid c.in-Some.chunk in
    let i : List ℕ = utf8_chunk_invalid c.in-Some.chunk in
    let p : mid ≡ out ++ plain v = subst (λ x. mid ≡ out ++ plain x) (c.as_bytes.ensures.value ∙ c.valid.ensures) c.in_ok-put_plain.ensures in
    let o : new ≡ mid ++ odd i = subst (λ x. new ≡ mid ++ odd x) c.invalid.ensures c.in_ok-put_odd.ensures in
    let less = c.chunks-test.true in
    (tt, tt, spelled_on (length c.args.payload.now) c.chunks.counter v i (utf8_chunks_rest c.next.new.self) (utf8_chunks_rest c.chunks.chunks) out mid new _ less h.0 h.3.0 h.3.1 p o k.2, (let a = h.1 in let b = k.3 in omega (arith, a, b, less)))

pub returns : goal.returns
returns c =
    let k = c.chunks.invariant in
    let some = k.3 in
    let most = c.chunks-test.false in
    let none : length (utf8_chunks_rest c.chunks.chunks) ≡ 0 = omega (arith, some, most) in
    spelled_all (length c.args.payload.now - c.chunks.counter) (utf8_chunks_rest c.chunks.chunks) c.chunks.out.items _ none k.2
