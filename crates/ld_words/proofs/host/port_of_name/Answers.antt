use Rattle.std.proofs.Common.{◌∙◌, sym, subst}
use Rattle.ld_lsn.specs.Text.{Lacks}
use Rattle.ld_words.proofs.OneAddress.{not_without, not_named, port_behind}
use Rattle.ld_words.proofs.host.port_of_name.Goals as goal

pub returns-in_default : goal.returns-in_default
returns-in_default c port is = not_without c.args.text.now port (subst (Lacks 58) c.as_bytes.ensures.value (rw c.in_default.is at c.split_at_byte.ensures.none)) is

pub returns-then-is_host_name : goal.returns-then-is_host_name
returns-then-is_host_name c =
    port_behind c.args.text.now c.in-Some.host.now c.in-Some.digits.now c.port_number.result c.in-Some.ensures.found.0
    (sym c.as_bytes.ensures.value ∙ c.in-Some.ensures.found.1) (sym c.is_host_name.ensures ∙ c.if-is_host_name.true) c.port_number.ensures

pub returns-else-is_host_name : goal.returns-else-is_host_name
returns-else-is_host_name c port is =
    not_named c.args.text.now c.in-Some.host.now c.in-Some.digits.now port c.in-Some.ensures.found.0
    (sym c.as_bytes.ensures.value ∙ c.in-Some.ensures.found.1) (sym c.is_host_name.ensures ∙ c.if-is_host_name.false) is
