use Rattle.std.proofs.Common.{◌∙◌, sym, ap, refl}
use Rattle.ld_table.specs.Named.{same, find_named}
use Rattle.ld_msg.specs.Sequencer.{appending}
use Rattle.ld_machine.specs.Step.{append_done}
use Rattle.ld_clients.specs.Acting.{Stays}
use Rattle.ld_clients.proofs.Acting.{gone_done, append_long}
use Rattle.ld_clients.proofs.Names.{put_same}
use Rattle.ld_clients.proofs.Placing.{named, append_nobody, append_somebody}
use Rattle.ld_clients.proofs.sequencers.Sequencers.refuse_long.Goals as goal

pub returns-in_default : goal.returns-in_default
unfolding find_named same
returns-in_default c = λ d s p h e. append_nobody d s c.args.self.now h c.args.name.now c.nothing.result p (ap (find_named c.args.name.now) (sym c.self.view_is) ∙ sym c.in_default.ensures.value) c.nothing.ensures.lines c.nothing.ensures.sends

pub returns-in_default-client : goal.returns-in_default-client
unfolding find_named same
returns-in_default-client c = λ d s p h e.
    let there = (ap (find_named c.args.name.now) (sym c.self.view_is) ∙ sym c.in-Some.ensures.value) in
    append_somebody d s c.args.self.now h c.args.name.now c.nothing-in_default-client.result p c.in-Some.client.now c.in-Some.client.now c.args.self.now there (sym (put_same c.args.name.now c.in-Some.client.now c.args.self.now there))
    (gone_done d s c.args.name.now c.in-Some.client.now c.in_default-client.field-0 c.in_default-client.field-1 (named d s c.args.self.now h c.args.name.now c.in-Some.client.now there) c.in_default-client.is
    c.nothing-in_default-client.result (Stays s) (λ x. append_done s c.args.name.now x p (appending x p)) refl c.nothing-in_default-client.ensures.lines c.nothing-in_default-client.ensures.sends)

pub returns : goal.returns
unfolding find_named same
returns c = λ d s p h e.
    let there = (ap (find_named c.args.name.now) (sym c.self.view_is) ∙ sym c.in-Some.ensures.value) in
    append_somebody d s c.args.self.now h c.args.name.now c.in_ok-outcome.outcome p c.in-Some.client.now c.in-Some.client.now c.args.self.now there (sym (put_same c.args.name.now c.in-Some.client.now c.args.self.now there))
    (append_long d s c.args.name.now c.in-Some.client.now (named d s c.args.self.now h c.args.name.now c.in-Some.client.now there) (c.self.invariant.whole c.args.name.now c.in-Some.client.now (sym c.in-Some.ensures.value)) c.in-Live.field-0 c.in-Live.is
    p c.in_ok-copy.field-0 c.args.bytes c.in_ok-outcome.outcome e c.requires c.in_ok-copy.ensures c.in_ok-outcome.ensures.lines c.in_ok-outcome.ensures.sends)
