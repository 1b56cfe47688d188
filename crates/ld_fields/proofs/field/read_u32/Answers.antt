use Rattle.std.proofs.Common.{◌∙◌, ◌+◌, ap, sym, arith}
use Rattle.byteorder.specs.Endian.{big_number}
use Rattle.ld_fields.specs.Fields.{Got}
use Rattle.ld_fields.proofs.There.{field_got}
use Rattle.ld_fields.proofs.field.read_u32.Goals as goal

pub returns-clause-ok : goal.returns-clause-ok
returns-clause-ok c = field_got 4 c.args.bytes.now c.args.at (omega arith) ∙ ap (λ v. Got v (c.args.at + 4)) (sym (c.read_u32.ensures ∙ ap (big_number 4) c.rest.ensures))
