use Rattle.std.proofs.Common.{◌≡◌, ◌∙◌, refl, sym, subst}
use Rattle.ld_words.specs.declared.command.TrimWords.{TrimWords}
use Rattle.ld_cli.specs.Trims.{IsTrimmed}
use Rattle.ld_cli.proofs.Asked.{one_trim}
use Rattle.ld_cli.proofs.operating.operated.Goals as goal

pub returns-in-Trim-clause-trimmed : goal.returns-in-Trim-clause-trimmed
returns-in-Trim-clause-trimmed g c = λ w is.
    let same : w ≡ c.in-Trim.words = one_trim w c.in-Trim.words (sym is ∙ c.in-Trim.is) in (
      refl,
      subst (λ (u : TrimWords). IsTrimmed g.N.Nodes.faults g.N.Nodes.endings g.N.Nodes.tells g.N.Nodes.silent g.N.Nodes.off
          g.G.Register.faults g.G.Register.told g.G.Register.damaged g.G.Register.holds g.G.Register.may_hold g.G.Register.tells g.O.Sink.faults g.O.Sink.written
          c.args.nodes.now c.trimmed.new.nodes c.args.reg.now c.trimmed.new.reg c.args.out.now c.trimmed.new.out u c.trimmed.result) (sym same) c.trimmed.ensures.trimmed,
    )
