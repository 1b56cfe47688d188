use Rattle.std.proofs.Common.{sym, subst, None, Some}
use Rattle.ld_sequencer.specs.Looks.{shows}
use Rattle.ld_sequencer.specs.Register.{answer_of, next_in}
use Rattle.ld_sequencer.specs.Whole.{Acted, closed_acts}
use Rattle.ld_sequencer.proofs.Doing.{failed_acted, overtaken_acted, report_of}
use Rattle.ld_sequencer.proofs.whole.Sequencer.after_close.Goals as goal

pub returns-in-Overtaken-clause-acted : goal.returns-in-Overtaken-clause-acted
returns-in-Overtaken-clause-acted c =
    let w = c.args.self.now in let t = c.args.due.now in
    subst (λ a. Acted w c.give_way.new.self c.give_way.result c.args.out.now c.args.out.now (closed_acts (shows (next_in w.origin.first a)) w t.epoch t.summary (answer_of a))) (sym c.in-Overtaken.is)
    (overtaken_acted (shows w.origin.first) w c.give_way.new.self t.epoch c.in-Overtaken.kept t.summary c.give_way.result c.args.out.now (c.give_way.ensures.acted c.args.out.now))

pub returns-in-Unclosed-clause-acted : goal.returns-in-Unclosed-clause-acted
returns-in-Unclosed-clause-acted c =
    let w = c.args.self.now in let t = c.args.due.now in
    subst (λ a. Acted w w (report_of None None None (Some c.in-Unclosed.fault) None) c.args.out.now c.args.out.now (closed_acts (shows (next_in w.origin.first a)) w t.epoch t.summary (answer_of a))) (sym c.in-Unclosed.is) (failed_acted (shows w.origin.first) w t.epoch t.summary c.in-Unclosed.fault c.args.out.now)
