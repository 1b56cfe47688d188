use Rattle.ld_node.proofs.Looks.{none_greatest}
use Rattle.ld_node.proofs.tick.look.Goals as goal

pub lowest_unclean-epoch-requires : goal.lowest_unclean-epoch-requires
lowest_unclean-epoch-requires g c = λ y there. none_greatest c.args.plain.now.state c.args.log c.requires.well y there
