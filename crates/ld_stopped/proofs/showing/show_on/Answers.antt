use Rattle.std.proofs.Common.{◌∙◌, ap, inr, subst, Option, List, ℕ}
use Rattle.std.specs.Prelude.{IfSome}
use Rattle.ld_op.specs.Plain.{Plain}
use Rattle.ld_store.specs.Open.{disk_of, index_of, IsOpened}
use Rattle.ld_stopped.specs.Shown.{shown_text}
use Rattle.ld_stopped.proofs.Openings.{marked_or}
use Rattle.ld_stopped.proofs.Swapping.{on_ok}
use Rattle.ld_stopped.proofs.Telling.{none_written, tells_as, all_or_part, unwritten, disk_same, show_caused, load_shown, load_output}
use Rattle.ld_stopped.proofs.Told.{shown_told}
use Rattle.ld_stopped.proofs.showing.show_on.Goals as goal

pub returns-in-Err-clause-shown : goal.returns-in-Err-clause-shown
returns-in-Err-clause-shown g c bytes p e stands = none_written _ _

pub returns-in-Err-clause-cause : goal.returns-in-Err-clause-cause
returns-in-Err-clause-cause g c = load_shown _ _ _ _ _ _ c.in-Err.ensures.refused.cause

pub returns-in-Err-clause-same : goal.returns-in-Err-clause-same
returns-in-Err-clause-same g c = marked_or _ _ _ c.in-Err.ensures.refused.bytes

pub returns-in-Err-clause-output_counts : goal.returns-in-Err-clause-output_counts
returns-in-Err-clause-output_counts g c = load_output _ _ _ _ _ c.in-Err.ensures.refused.cause

pub returns-clause-shown : goal.returns-clause-shown
returns-clause-shown g c bytes p e stands =
    let store = c.in-Ok.store in
    let ss = c.args.config.now.logs in
    let opened = subst (λ (o : Option (List ℕ)). IfSome o (IsOpened g.D.Disk.seen g.D.Disk.may_leave store)) e c.in-Ok.ensures.opens in
    all_or_part (g.O.Sink.written c.args.out.now) (g.O.Sink.written c.show-shown.new.out) (shown_text c.args.json c.args.id p ss) c.show-shown.result
    (tells_as (g.O.Sink.written c.args.out.now) (g.O.Sink.written c.show-shown.new.out) (shown_text c.args.json c.args.id c.index.result.now.state c.args.config.now.logs) (shown_text c.args.json c.args.id p ss) c.show-shown.result
    (ap (λ (i : Plain). shown_text c.args.json c.args.id i ss) c.index.ensures.state ∙ (shown_told (g.D.Disk.seen (disk_of store)) c.args.json c.args.id (index_of store) ss ∙ ap (λ (q : Plain). shown_text c.args.json c.args.id q ss) (opened.plain p stands)))
    c.show-shown.ensures.tells)

pub returns-clause-formatted : goal.returns-clause-formatted
returns-clause-formatted g c = on_ok _ c.show-shown.result c.in-Ok.ensures.formatted

pub returns-clause-cause : goal.returns-clause-cause
returns-clause-cause g c = show_caused (g.O.Sink.written c.args.out.now) (g.O.Sink.written c.show-shown.new.out) (shown_text c.args.json c.args.id c.index.result.now.state c.args.config.now.logs) _ _ _ _ _ c.show-shown.result c.show-shown.ensures.tells c.show-shown.ensures.counts

pub returns-clause-unwritten : goal.returns-clause-unwritten
returns-clause-unwritten g c = unwritten (g.O.Sink.written c.args.out.now) (g.O.Sink.written c.show-shown.new.out) (shown_text c.args.json c.args.id c.index.result.now.state c.args.config.now.logs) c.show-shown.result c.show-shown.ensures.tells

pub returns-clause-same : goal.returns-clause-same
returns-clause-same g c = rw c.into_disk.ensures (inr c.in-Ok.ensures.same)

pub returns-clause-disk_counts : goal.returns-clause-disk_counts
returns-clause-disk_counts g c = rw c.into_disk.ensures (disk_same (g.O.Sink.written c.args.out.now) (g.O.Sink.written c.show-shown.new.out) (shown_text c.args.json c.args.id c.index.result.now.state c.args.config.now.logs) _ _ c.show-shown.result c.in-Ok.ensures.counts c.show-shown.ensures.tells)
