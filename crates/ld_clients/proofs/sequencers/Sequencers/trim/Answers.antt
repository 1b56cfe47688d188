use Rattle.std.proofs.Common.{◌∙◌, sym, ap}
use Rattle.ld_table.specs.Named.{same, find_named}
use Rattle.ld_clients.proofs.Names.{put_same}
use Rattle.ld_clients.proofs.Rows.{on_ok}
use Rattle.ld_clients.proofs.Placing.{named, trim_nobody, trim_somebody}
use Rattle.ld_clients.proofs.sequencers.Sequencers.trim.Goals as goal

pub returns-in_default : goal.returns-in_default
unfolding find_named same
returns-in_default c = λ d s h. trim_nobody d s c.args.self.now h c.args.name.now c.nothing.result c.args.point (ap (find_named c.args.name.now) (sym c.self.view_is) ∙ sym c.in_default.ensures.value) c.nothing.ensures.lines c.nothing.ensures.sends

pub trim-requires : goal.trim-requires
unfolding find_named same
trim-requires c = (c.self.invariant.whole c.args.name.now c.in-Some.client.now (sym c.in-Some.ensures.value))

pub returns : goal.returns
unfolding find_named same
returns c = on_ok _ _ c.trim.result (λ o e d s h. trim_somebody d s c.args.self.now h c.args.name.now o c.args.point c.in-Some.client.now c.in-Some.client.now c.args.self.now (ap (find_named c.args.name.now) (sym c.self.view_is) ∙ sym c.in-Some.ensures.value) (sym (put_same c.args.name.now c.in-Some.client.now c.args.self.now (ap (find_named c.args.name.now) (sym c.self.view_is) ∙ sym c.in-Some.ensures.value)))
    (e d s (named d s c.args.self.now h c.args.name.now c.in-Some.client.now (ap (find_named c.args.name.now) (sym c.self.view_is) ∙ sym c.in-Some.ensures.value)))) c.trim.ensures
