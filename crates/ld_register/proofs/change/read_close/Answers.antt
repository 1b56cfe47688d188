use Rattle.std.proofs.Common.{arith}
use Rattle.ld_register.proofs.Bytes.{close_is, no_close, no_flag, flag_of}
use Rattle.ld_register.proofs.change.read_close.Goals as goal

pub returns-in_default-clause-none : goal.returns-in_default-clause-none
returns-in_default-clause-none c = no_close c.args.body.now c.requires.len c.in_default.ensures.none

pub returns-then-loss-gt1-clause-none : goal.returns-then-loss-gt1-clause-none
returns-then-loss-gt1-clause-none c = no_flag c.args.body.now c.requires.len c.if-loss-gt1.true

pub returns-clause-some : goal.returns-clause-some
returns-clause-some c = record {
  bytes = close_is c.args.body.now c.in-Some.read.0 c.in-Some.read.1 c.in-Some.read.2 c.requires.len c.requires.kind (flag_of _ _ c.in-Some.ensures.is.3 (omega arith)) c.in-Some.ensures.bytes;
  is = let i = c.in-Some.ensures.is in (i.0, i.1, i.2);
}
