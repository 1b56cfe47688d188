use Rattle.std.proofs.Common.{arith, sym, subst}
use Rattle.ld_msg.specs.declared.msg.Body.{Body}
use Rattle.ld_msg.specs.declared.msg.Who.TheVariants as whos
use Rattle.ld_msg.specs.Bounds.{Fits}
use Rattle.ld_reader.proofs.Sharing.{fits_ask}
use Rattle.ld_reader.proofs.asks.Ask.message_to.Goals as goal

pub returns-clause-message : goal.returns-clause-message
returns-clause-message c =
    let s = c.args.self.now in
    record {
      log = c.number-log.ensures.bounds;
      fits = subst (λ (b : Body). Fits (whos.Reader s.reader) (whos.Node c.args.node) b) (sym c.body.ensures.body)
          (fits_ask s.reader c.args.node s.senders c.args.round s.from c.requires.reader c.number-node.ensures.bounds c.requires.round c.requires.from (omega arith) c.body.ensures.shared);
    }
