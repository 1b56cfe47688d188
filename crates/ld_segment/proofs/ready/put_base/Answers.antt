use Rattle.std.proofs.Common.{◌≡◌, ◌++◌, ◌∷◌, [], List, ℕ, length, ◌∙◌, ap, arith}
use Rattle.std.specs.Int.{w32, to_be_bytes}
use Rattle.ld_layout.specs.Base.{base_bytes}
use Rattle.ld_layout.proofs.Lengths.{base_long}
use Rattle.ld_segment.proofs.Planning.{base_put}
use Rattle.ld_segment.proofs.ready.put_base.Goals as goal

pub returns : goal.returns
returns c =
    let base : List ℕ = base_bytes c.args.kind c.args.index.now.state c.args.areas.now in
    let size : c.base_length-length.result ≡ length base = omega (arith, c.base_length-length.ensures, c.requires, base_long c.args.kind c.args.index.now.state c.args.areas.now) in
    base_put c.args.out.now.items c.push.new.self.items c.extend_from_slice.new.self.items c.encode_base.new.out.items c.push-2.new.self.items (to_be_bytes w32 (length base)) base
    (c.in_ok-push.ensures.items ∙ ap (λ l. l ++ 1 ∷ []) c.in_ok-reserve.ensures.items)
    (c.in_ok-extend_from_slice.ensures.items ∙ ap (λ l. c.push.new.self.items ++ l) (c.to_be_bytes.ensures ∙ ap (to_be_bytes w32) size))
    c.in_ok-encode_base.ensures
    c.in_ok-push-2.ensures.items
