use Rattle.std.proofs.Common.{◌∙◌, ◌≡◌, List, [], Some, refl, slice_get, length, arith}
use Rattle.std.proofs.lemmas.Option.{slice_get_read}
use Rattle.std.proofs.lemmas.Result.{err_from_is_err_and}
use Rattle.ld_msg.specs.declared.msg.Msg.{Msg}
use Rattle.ld_msg.specs.declared.msg.Who.TheVariants as whos
use Rattle.ld_node.specs.Node.{disk_of}
use Rattle.ld_mend.specs.Standing.{IsThere, at_of}
use Rattle.ld_mend.proofs.Causes.{counts_since}
use Rattle.ld_mend.proofs.Takings.{drove_on, stopped_on, all-slice_get}
use Rattle.ld_mend.proofs.carrying.carry.Goals as goal

pub returns-in_err-bring-clause-moved : goal.returns-in_err-bring-clause-moved
returns-in_err-bring-clause-moved g c known k r far written there from told =
    let p = err_from_is_err_and c.from_residual.result c.from_residual.ensures.1 in
    let asks : List Msg = c.args.asks.now in
    let ask : Msg = c.index-asks-place.result in
    let at : slice_get asks c.asks.place ≡ Some ask = slice_get_read asks (length asks) c.asks.place ask refl (omega arith) c.index-asks-place.is in
    rw (p.1, p.2) (stopped_on (g.N.Nodes.silent c.asks.nodes) (g.N.Nodes.silent c.bring.new.nodes) c.in_err-bring.ensures.silent (IsThere g.D.Disk.seen g.D.Disk.may_leave c.args.id known c.asks.node) (g.N.Nodes.tells c.asks.nodes k) c.args.id known k r
    (g.D.Disk.may_leave (disk_of c.bring.new.node)) (at_of c.args.node.now asks far) (at_of c.asks.node asks) [] written written written c.in_err-bring.field-0.0
    (c.asks.invariant.moved known k r far written there from told)
    (λ f t heard. c.in_err-bring.ensures.moved known k r asks f c.asks.place written t at (all-slice_get (λ (m : Msg). m.from ≡ whos.Node c.args.id) asks c.asks.place ask from at) heard))

pub asks-preserved : goal.asks-preserved
asks-preserved g c = record {
  formatted = c.in_ok-bring.ensures.rest;
  works = c.in_ok-bring.ensures.works;
  moved = λ known k r far written there from told. let asks : List Msg = c.args.asks.now in
      let ask : Msg = c.index-asks-place.result in
      let at : slice_get asks c.asks.place ≡ Some ask = slice_get_read asks (length asks) c.asks.place ask refl (omega arith) c.index-asks-place.is in
      drove_on (g.N.Nodes.silent c.asks.nodes) (g.N.Nodes.silent c.bring.new.nodes) c.in_ok-bring.ensures.silent (IsThere g.D.Disk.seen g.D.Disk.may_leave c.args.id known c.asks.node) (IsThere g.D.Disk.seen g.D.Disk.may_leave c.args.id known c.bring.new.node) (g.N.Nodes.tells c.asks.nodes k) (g.N.Nodes.tells c.bring.new.nodes k) c.args.id known k r
      (at_of c.args.node.now asks far) (at_of c.asks.node asks) (at_of c.bring.new.node asks) [] [] written written written (λ f. refl)
      (c.asks.invariant.moved known k r far written there from told)
      (λ f t heard. c.in_ok-bring.ensures.moved known k r asks f c.asks.place written t at (all-slice_get (λ (m : Msg). m.from ≡ whos.Node c.args.id) asks c.asks.place ask from at) heard);
  silent = λ h. c.in_ok-bring.ensures.silent (c.asks.invariant.silent h);
  later = omega (arith, c.in_ok-bring.ensures.later, c.asks.invariant.later);
  disk = c.in_ok-bring.ensures.disk_counts ∙ c.asks.invariant.disk;
  lent = c.in_ok-bring.ensures.lent ∙ c.asks.invariant.lent;
}

pub returns-in_err-bring-clause-disk_counts : goal.returns-in_err-bring-clause-disk_counts
returns-in_err-bring-clause-disk_counts g c =
    let p = err_from_is_err_and c.from_residual.result c.from_residual.ensures.1 in
    rw (p.1, p.2) (counts_since _ _ _ _ c.asks.invariant.disk c.in_err-bring.ensures.disk_counts)

pub returns-clause-disk_counts : goal.returns-clause-disk_counts
returns-clause-disk_counts g c = c.asks.invariant.disk
