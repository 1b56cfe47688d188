use Rattle.std.proofs.Common.{sym, ◌∙◌, ap, arith}
use Rattle.std.proofs.lemmas.List.{take_all}
use Rattle.byteorder.specs.Endian.{big_bytes}
use Rattle.ld_fields.proofs.Unspelling.{bytes_back}
use Rattle.ld_segment.proofs.read.number_in.Goals as goal

pub returns : goal.returns
returns c = sym (ap (big_bytes 8) c.read_u64.ensures ∙ bytes_back 8 c.args.bytes.now (λ i. (c.type_inv.bytes i).fits) (omega (arith, c.requires)) ∙ take_all 8 c.args.bytes.now (omega (arith, c.requires)))
