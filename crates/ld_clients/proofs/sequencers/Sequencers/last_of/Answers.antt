use Rattle.std.proofs.Common.{◌≡◌, ◌∙◌, None, Some, sym, ap, slice_get}
use Rattle.ld_table.specs.Named.{same, find_named}
use Rattle.ld_clients.specs.Latest.{last_client}
use Rattle.ld_clients.proofs.Latest.{last_gone, last_live, last_none}
use Rattle.ld_clients.proofs.sequencers.Sequencers.last_of.Goals as goal

pub returns-in_default : goal.returns-in_default
returns-in_default c = last_none c.args.log c.args.self.now c.in_default.ensures

pub returns-in_default-get_index : goal.returns-in_default-get_index
returns-in_default-get_index c = last_none c.args.log c.args.self.now (c.in_default-get_index.ensures.entry ∙ (ap (λ ks. slice_get ks c.in-Some.place) c.self.view_is ∙ c.in-Some.ensures))

pub is_gone-requires : goal.is_gone-requires
unfolding find_named same
is_gone-requires c = c.self.invariant.whole c.in-Some-get_index.name.now c.in-Some-get_index.client.now c.in-Some-get_index.ensures.value

pub returns-then-is_gone : goal.returns-then-is_gone
returns-then-is_gone c = last_gone c.args.log c.args.self.now c.in-Some-get_index.name.now c.in-Some-get_index.client.now (c.in-Some-get_index.ensures.entry ∙ (ap (λ ks. slice_get ks c.in-Some.place) c.self.view_is ∙ c.in-Some.ensures)) (sym c.is_gone.ensures ∙ c.if-is_gone.true)

pub returns : goal.returns
returns c = last_live c.args.log c.args.self.now c.in-Some-get_index.name.now c.in-Some-get_index.client.now (c.in-Some-get_index.ensures.entry ∙ (ap (λ ks. slice_get ks c.in-Some.place) c.self.view_is ∙ c.in-Some.ensures)) (sym c.is_gone.ensures ∙ c.if-is_gone.false)
