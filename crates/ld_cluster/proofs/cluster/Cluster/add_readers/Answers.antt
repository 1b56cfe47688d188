use Rattle.std.proofs.Common.{◌∙◌, ◌++◌, arith, ap, sym}
use Rattle.std.proofs.lemmas.List.{nil_from_length}
use Rattle.ld_machine.specs.Calm.{readers_of}
use Rattle.ld_cluster.specs.declared.part.Part.TheVariants as parts
use Rattle.ld_cluster.specs.Calming.{left_in}
use Rattle.ld_cluster.proofs.Calming.{left_last}
use Rattle.ld_cluster.proofs.Listing.{all_read, no_reader, one_reader, reads_of}
use Rattle.ld_cluster.proofs.cluster.Cluster.add_readers.Goals as goal

pub readers-init : goal.readers-init
readers-init c = no_reader c.in_ok-names.names.items (left_in c.args.left.now.items)

pub readers-preserved : goal.readers-preserved
readers-preserved c = one_reader c.in_ok-names.names.items c.readers.names.items c.pop.new.self.items c.in-Some.name (left_in c.args.left.now.items) (left_in c.readers.left.items) (left_in c.push.new.self.items) c.in-Some.ensures.items c.readers.invariant
    (left_last c.readers.left.items c.push.new.self.items (parts.Reads c.in-Some.name) c.in_ok-push.ensures.items)

pub returns : goal.returns
returns c = λ s p. all_read c.in_ok-names.names.items c.readers.names.items (left_in c.args.left.now.items) (left_in c.readers.left.items) (nil_from_length c.readers.names.items (omega (arith, c.in_default.ensures.cases.0))) c.readers.invariant
    ∙ ap (λ names. reads_of names ++ left_in c.args.left.now.items) (c.in_ok-names.ensures ∙ ap (readers_of c.args.log) (sym p.readers.readers))
