use Rattle.std.proofs.Common.{Err}
use Rattle.ld_node.specs.Node.{id_of, known_of, plain_of}
use Rattle.ld_stopped.specs.Replacing.{replaced_text}
use Rattle.ld_stopped.proofs.Swapping.{replaces_told, replaces_refused, swap_caused, told_caused}
use Rattle.ld_stopped.proofs.Telling.{unwritten}
use Rattle.ld_stopped.proofs.replacing.take_place.Goals as goal

pub returns-in-Ok-clause-replaces : goal.returns-in-Ok-clause-replaces
returns-in-Ok-clause-replaces g c =
    let G = g.G.Register in
    let node = c.args.node.now in
    let old = c.args.reg.now in
    let new = c.replace.new.reg in
    replaces_told (id_of node) (known_of node) (plain_of node) c.args.log c.args.other (G.told old) _ (G.tells old) (G.tells new) (G.holds old) (G.holds new) (G.may_hold old) (G.may_hold new) (replaced_text c.args.id c.args.log c.args.other) (g.O.Sink.written c.args.out.now) (g.O.Sink.written c.tell_replaced.new.out)
    c.in-Ok.count c.tell_replaced.result c.tell_replaced.ensures.tells c.in-Ok.ensures.count (λ contents foretold. c.in-Ok.ensures.exact contents c.requires.works foretold) (λ e. (c.in-Ok.ensures.idle c.requires.works e).1) c.in-Ok.ensures.done_or_not

pub returns-in-Ok-clause-cause : goal.returns-in-Ok-clause-cause
returns-in-Ok-clause-cause g c = told_caused _ _ _ _ _ _ _ _ (g.O.Sink.written c.args.out.now) (g.O.Sink.written c.tell_replaced.new.out) (replaced_text c.args.id c.args.log c.args.other c.in-Ok.count) c.tell_replaced.result c.tell_replaced.ensures.tells c.tell_replaced.ensures.counts

pub returns-in-Ok-clause-unwritten : goal.returns-in-Ok-clause-unwritten
returns-in-Ok-clause-unwritten g c = unwritten (g.O.Sink.written c.args.out.now) (g.O.Sink.written c.tell_replaced.new.out) (replaced_text c.args.id c.args.log c.args.other c.in-Ok.count) c.tell_replaced.result c.tell_replaced.ensures.tells

pub returns-in-Err-clause-replaces : goal.returns-in-Err-clause-replaces
returns-in-Err-clause-replaces g c =
    let G = g.G.Register in
    let node = c.args.node.now in
    let old = c.args.reg.now in
    let new = c.replace.new.reg in
    rw c.replace_stop.ensures (replaces_refused (id_of node) (known_of node) (plain_of node) c.args.log c.args.other (G.told old) _ (G.tells old) (G.tells new) (G.holds old) (G.holds new) (G.may_hold old) (G.may_hold new) (replaced_text c.args.id c.args.log c.args.other) (g.O.Sink.written c.args.out.now) (g.O.Sink.written c.args.out.now)
    c.in-Err.fault (λ contents foretold. c.in-Err.ensures.exact contents c.requires.works foretold) (λ e. (c.in-Err.ensures.idle c.requires.works e).1) c.in-Err.ensures.done_or_not c.in-Err.ensures.held)

pub returns-in-Err-clause-cause : goal.returns-in-Err-clause-cause
returns-in-Err-clause-cause g c =
    rw c.replace_stop.ensures (swap_caused _ _ _ _ _ _ _ _ c.in-Err.fault (λ e. c.in-Err.ensures.register_failed (λ i. Err (e i))) (λ place e. c.in-Err.ensures.register_damaged place (λ i. Err (e i)))
    (λ e. c.in-Err.ensures.swaps (λ i. Err (e i))) (λ e. c.in-Err.ensures.register_full (λ i. Err (e i))))
