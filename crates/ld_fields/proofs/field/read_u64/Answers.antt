use Rattle.std.proofs.Common.{◌∙◌, ◌+◌, ap, sym, arith}
use Rattle.byteorder.specs.Endian.{big_number}
use Rattle.ld_fields.specs.Fields.{Got}
use Rattle.ld_fields.proofs.There.{field_got}
use Rattle.ld_fields.proofs.field.read_u64.Goals as goal

pub returns-clause-ok : goal.returns-clause-ok
returns-clause-ok c = field_got 8 c.args.bytes.now c.args.at (omega arith) ∙ ap (λ v. Got v (c.args.at + 8)) (sym (c.read_u64.ensures ∙ ap (big_number 8) c.rest.ensures))
