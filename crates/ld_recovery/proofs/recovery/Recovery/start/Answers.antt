use Rattle.std.proofs.Common.{◌∙◌, sym, subst, arith}
use Rattle.std.specs.List.{AllByRecursion}
use Rattle.ld_msg.specs.Digest.{Told, no_digest}
use Rattle.ld_msg.specs.Sequencer.{digest_asks}
use Rattle.ld_node_bounds.proofs.Members.{members_nodes}
use Rattle.ld_sequencer_bounds.specs.Sequencers.{IsTold, Posts}
use Rattle.ld_sequencer_bounds.proofs.Posts.{sent_behind}
use Rattle.ld_sequencer_bounds.proofs.Plans.{no_digest_is}
use Rattle.ld_sequencer_bounds.proofs.Sends.{asks_are}
use Rattle.std.proofs.Common.{List}
use Rattle.ld_recovery.proofs.recovery.Recovery.start.Goals as goal

pub invariant_of-result : goal.invariant_of-result
invariant_of-result c =
    let s = c.args.spec.now in
    let nodes = members_nodes s.set c.len.ensures.set in (
      (c.in_ok-digest.ensures.spec, c.in_ok-digest.ensures.epoch),
      c.requires.factor,
      c.requires.epoch,
      c.requires.later,
      c.requires.ballot,
      tt,
      subst (λ (d : List Told). AllByRecursion (IsTold c.args.epoch) d) (sym c.in_ok-digest.ensures.told) (no_digest_is s c.args.epoch nodes),
      record { log = c.number.ensures.bounds; nodes = nodes },
    )

pub returns-clause-messages : goal.returns-clause-messages
returns-clause-messages c =
    let s = c.args.spec.now in
    let d = no_digest s c.args.epoch in
    sent_behind c.args.ballot s.log (digest_asks c.told.result.now) c.args.out.now c.ask_for_digest.new.out c.number.ensures.bounds
    (subst (λ (d : List Told). Posts c.args.ballot (digest_asks d)) (sym (c.told.ensures.value ∙ c.in_ok-digest.ensures.told))
    (asks_are c.args.ballot (omega (arith, c.requires.epoch, c.requires.later), c.requires.ballot) c.args.epoch c.requires.epoch c.requires.later d (no_digest_is s c.args.epoch (members_nodes s.set c.len.ensures.set)))) c.in_ok-ask_for_digest.ensures.sent
