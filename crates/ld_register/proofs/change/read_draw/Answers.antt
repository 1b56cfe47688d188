use Rattle.ld_register.proofs.Bytes.{draw_is, no_draw}
use Rattle.ld_register.proofs.change.read_draw.Goals as goal

pub returns-in_default-clause-none : goal.returns-in_default-clause-none
returns-in_default-clause-none c = no_draw c.args.body.now c.requires.len c.in_default.ensures.none

pub returns-clause-some : goal.returns-clause-some
returns-clause-some c = record {
  bytes = draw_is c.args.body.now c.in-Some.node c.word-generation.result c.requires.len c.requires.kind c.in-Some.ensures.some c.word-generation.ensures;
  is = (c.number.ensures.bounds, c.word-generation.type_inv);
}
