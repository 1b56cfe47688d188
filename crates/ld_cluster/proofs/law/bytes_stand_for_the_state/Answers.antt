use Rattle.ld_cluster.specs.Standing.{state_of}
use Rattle.ld_cluster.proofs.Bytes.{node_bytes, register_stands}
use Rattle.ld_cluster.proofs.law.bytes_stand_for_the_state.Goals as goal

pub returns-clause-nodes : goal.returns-clause-nodes
returns-clause-nodes c = λ k n x r f up. node_bytes k n (state_of k).nodes x r.parts.nodes f up

pub returns-clause-register : goal.returns-clause-register
returns-clause-register c = λ k r. register_stands k (state_of k).register r.parts.register
