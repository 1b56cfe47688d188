use Rattle.std.proofs.Common.{◌∙◌, sym, ap, map, cond}
use Rattle.ld_table.specs.Named.{same}
use Rattle.ld_table.specs.Words.{numbers_from}
use Rattle.ld_seal.specs.declared.decision.Decision.TheVariants as decisions
use Rattle.ld_seal.specs.Decided.{compared, payload_in, payload_of}
use Rattle.ld_seal.proofs.Compares.{not_compared, by_index}
use Rattle.ld_seal.proofs.decision.on_store.Goals as goal

pub returns-in-Store-clause-other : goal.returns-in-Store-clause-other
returns-in-Store-clause-other c f whole =
    let by = by_index f c.args.plain.now.state c.args.msg.now _ c.ballot.result c.in-Store.is c.ballot.ensures in
    not_compared f (payload_in c.in-Store.what) c.decide_store.result whole ∙ sym (c.decide_store.ensures.compared f) ∙ sym by

pub returns-in-Store-clause-compare : goal.returns-in-Store-clause-compare
returns-in-Store-clause-compare c place is f =
    let by = by_index f c.args.plain.now.state c.args.msg.now _ c.ballot.result c.in-Store.is c.ballot.ensures in
    by
    ∙ (c.decide_store.ensures.compared f
    ∙ (ap (compared f (payload_in c.in-Store.what)) is ∙ ap (λ q. cond (same (map f (numbers_from place.at place.len)) q) decisions.Same decisions.Take) (sym (ap payload_of c.in-Store.is))))
