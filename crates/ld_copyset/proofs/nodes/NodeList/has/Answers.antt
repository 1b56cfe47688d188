use Rattle.std.proofs.Common.{◌≡◌, ◌∙◌, ap}
use Rattle.ld_table.specs.Words.{is_in}
use Rattle.ld_copyset.proofs.Rings.{any_is_in}
use Rattle.ld_copyset.proofs.nodes.NodeList.has.Goals as goal

pub returns : goal.returns
returns c =
    let named : is_in c.number.result c.as_slice.result.now ≡ is_in c.args.node c.as_slice.result.now = ap (λ n. is_in n c.as_slice.result.now) c.number.ensures.value in
    c.contains.ensures.value ∙ any_is_in c.number.result c.as_slice.result.now ∙ named
    ∙ ap (is_in c.args.node) (c.as_slice.ensures.value ∙ c.self.view_is)
