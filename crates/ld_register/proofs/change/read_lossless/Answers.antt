use Rattle.ld_register.proofs.Bytes.{lossless_is, no_lossless}
use Rattle.ld_register.proofs.change.read_lossless.Goals as goal

pub returns-in_default-clause-none : goal.returns-in_default-clause-none
returns-in_default-clause-none c = no_lossless c.args.body.now c.requires.len c.in_default.ensures.none

pub returns-clause-some : goal.returns-clause-some
returns-clause-some c = record {
  bytes = lossless_is c.args.body.now c.in-Some.read.0 c.in-Some.read.1 c.in-Some.read.2 c.requires.len c.requires.kind c.in-Some.ensures.bytes;
  is = c.in-Some.ensures.is;
}
