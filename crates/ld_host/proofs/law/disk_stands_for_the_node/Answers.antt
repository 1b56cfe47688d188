use Rattle.ld_host.proofs.Bytes.{has_bytes}
use Rattle.ld_host.proofs.law.disk_stands_for_the_node.Goals as goal

pub returns : goal.returns
returns c settings n host x stands up = has_bytes settings n host.state x stands.state up
