use Rattle.ld_text.proofs.Judging.{refused, read_all}
use Rattle.ld_text.proofs.reading.bytes_of.Goals as goal

pub returns-in-Err : goal.returns-in-Err
returns-in-Err c = refused c.args.line.now c.bytes.bytes.items c.step.new.out.items c.bytes.at c.bytes.byte-index c.in-Err.fault c.bytes-test.true c.bytes.invariant.0 c.in-Err.ensures

pub returns : goal.returns
returns c = read_all c.args.line.now c.bytes.bytes.items c.bytes.at c.bytes.byte-index c.bytes-test.false c.bytes.invariant.0
