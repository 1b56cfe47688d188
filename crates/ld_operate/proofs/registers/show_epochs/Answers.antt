use Rattle.std.proofs.Common.{◌≡◌, ◌-◌, ◌++◌, ◌∙◌, sym, ap, arith, ⊎_elim}
use Rattle.std.proofs.lemmas.Result.{err_from_is_err_and}
use Rattle.ld_register.specs.Calls.{looked}
use Rattle.ld_operate.specs.Shown.{epoch_line, epoch_lines}
use Rattle.std.proofs.lemmas.List.{append-nil}
use Rattle.ld_operate.proofs.Views.{no_views, one_more_view}
use Rattle.ld_operate.proofs.Looks.{looks_here, looks_on, both_on, stop_since}
use Rattle.ld_operate.proofs.Epochs.{line_more, lines_cut}
use Rattle.ld_operate.proofs.registers.show_epochs.Goals as goal

pub returns-in_err-show_epoch-clause-part : goal.returns-in_err-show_epoch-clause-part
returns-in_err-show_epoch-clause-part g c = let p = err_from_is_err_and c.from_residual.result c.from_residual.ensures.1 in rw p.1
    (λ x h. let before = c.loop-epoch.invariant.text x h in
    lines_cut c.args.json x c.args.log c.args.from c.args.last c.loop-epoch.epoch _ _ _ c.loop-epoch.auto.epoch (omega arith) before.0 (c.in_err-show_epoch.ensures.part x before.1))

pub returns-in_err-show_epoch-clause-cause : goal.returns-in_err-show_epoch-clause-cause
returns-in_err-show_epoch-clause-cause g c = let p = err_from_is_err_and c.from_residual.result c.from_residual.ensures.1 in rw (p.1, p.2)
    (stop_since _ _ _ _ _ _ _ _ c.in_err-show_epoch.field-0.0 c.loop-epoch.invariant.looks.counts c.loop-epoch.invariant.later
    (λ place broken x h. let here = (c.loop-epoch.invariant.text x h).1 in
    g.met.G.Register.held_is_whole c.loop-epoch.reg x place here (broken (g.met.G.Register.held_is_told c.loop-epoch.reg x here)))
    c.in_err-show_epoch.ensures.cause)

pub loop-epoch-init : goal.loop-epoch-init
loop-epoch-init g c = record {
  text = λ x h. (
    sym (append-nil (g.O.Sink.written c.args.out.now)) ∙ ap (λ k. g.O.Sink.written c.args.out.now ++ epoch_lines c.args.json x c.args.log c.args.from k) (let e : 0 ≡ c.args.from - c.args.from = omega arith in e),
    h,
  );
  looks = looks_here;
  views = no_views c.args.json c.args.log c.args.from (g.O.Sink.written c.args.out.now);
  later = omega arith;
  most = omega arith;
}

pub loop-epoch-preserved : goal.loop-epoch-preserved
loop-epoch-preserved g c = record {
  text = λ x h. let before = c.loop-epoch.invariant.text x h in (
    both_on _ _ _ (epoch_lines c.args.json x c.args.log c.args.from (c.loop-epoch.epoch - c.args.from)) (epoch_line c.args.json c.loop-epoch.epoch (looked x c.args.log c.loop-epoch.epoch)) before.0 (c.in_ok-show_epoch.ensures.text x before.1)
        ∙ ap (λ l. g.O.Sink.written c.args.out.now ++ l) (sym (line_more c.args.json x c.args.log c.args.from c.loop-epoch.epoch c.loop-epoch.auto.epoch)),
    ⊎_elim (λ e. absurd cc) (λ k. k) (c.in_ok-show_epoch.ensures.kept x before.1),
  );
  looks = looks_on c.loop-epoch.invariant.looks c.in_ok-show_epoch.ensures.looks;
  views = one_more_view c.args.json c.args.log c.args.from c.loop-epoch.epoch _ _ _ c.loop-epoch.auto.epoch c.loop-epoch.invariant.views c.in_ok-show_epoch.ensures.view;
  later = omega (arith, c.in_ok-show_epoch.ensures.later, c.loop-epoch.invariant.later);
  most = omega arith;
}
