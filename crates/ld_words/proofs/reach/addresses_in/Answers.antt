use Rattle.std.proofs.Common.{◌≡◌, ◌∙◌, ◌++◌, ◌∷◌, [], sym, Some, arith}
use Rattle.std.specs.List.{slice_get}
use Rattle.std.proofs.lemmas.Grind.{common_steps}
use Rattle.serde_json.specs.View.{view}
use Rattle.ld_ids.specs.Set.{members}
use Rattle.ld_words.specs.Meaning.{AreAddressesIn}
use Rattle.ld_words.proofs.Refused.{refused_one}
use Rattle.ld_words.proofs.OneAddress.{no_address, one_more}
use Rattle.ld_words.proofs.reach.addresses_in.Goals as goal

pub returns-in_err-address_of : goal.returns-in_err-address_of
returns-in_err-address_of c =
    let at : slice_get (members c.args.nodes.now) c.loop-place.place ≡ Some c.in-Some.node = sym c.nth.ensures.node ∙ c.in-Some.is in
    refused_one c.from_residual.result c.in_err-address_of.field-0.0 (AreAddressesIn (view c.args.object.now) (members c.args.nodes.now)) _ c.from_residual.ensures.1 c.in_err-address_of.ensures
    (λ list are none. no_address (view c.args.object.now) (members c.args.nodes.now) list c.loop-place.place c.in-Some.node at none are)

pub loop-place-preserved : goal.loop-place-preserved
loop-place-preserved c =
    let at : slice_get (members c.args.nodes.now) c.loop-place.place ≡ Some c.in-Some.node = sym c.nth.ensures.node ∙ c.in-Some.is in
    let more : c.push.new.self ≡ c.loop-place.addresses ++ c.in_ok-address_of.field-0 ∷ [] = grind (arith, common_steps, c.push.ensures.ok, c.in_ok-push) in
    (c.loop-place.invariant.0, rw more (one_more (view c.args.object.now) (members c.args.nodes.now) c.loop-place.addresses c.loop-place.place c.in-Some.node c.in_ok-address_of.field-0 at c.loop-place.invariant.1 c.in_ok-address_of.ensures))
