use Rattle.std.proofs.Common.{◌∙◌, ◌++◌, ◌≤◌, ℕ, List, [], ◌∷◌, Bool, take, length, refl, sym, subst, arith}
use Rattle.std.proofs.lemmas.List.{take_all, length-map}
use Rattle.std.proofs.lemmas.Result.{err_from_is_err_and}
use Rattle.ld_ids.specs.declared.set.Spec.{Spec}
use Rattle.ld_node.specs.Known.{known_in}
use Rattle.ld_node.specs.Node.{disk_of}
use Rattle.ld_mend.specs.Standing.{at_of, logs_of, Told}
use Rattle.ld_mend.proofs.Causes.{stop_since, counts_since}
use Rattle.ld_mend.proofs.Going.{moved_here, halted_on}
use Rattle.ld_mend.proofs.Logs.{took, log_known, told_none, told_on}
use Rattle.ld_mend.proofs.mending.tell.Goals as goal

pub logs-init : goal.logs-init
logs-init g c = (
  c.len-place-end.ensures,
  record {
    formatted = c.requires.formatted;
    works = c.requires.works;
    moved = λ r asked far there held. (
      there,
      held,
      told_none c.args.id (known_in c.args.config.now) c.args.config.now r (at_of c.args.node.now asked far) (λ last. at_of c.args.node.now last far) asked (g.O.Sink.written c.args.out.now)
          (moved_here c.args.id (known_in c.args.config.now) c.args.config.now r (at_of c.args.node.now asked far) (g.O.Sink.written c.args.out.now)),
    );
    later = record { disk = omega arith; register = omega arith; output = omega arith };
    told = λ h. h;
    itself = refl;
    disk = refl;
    lent = refl;
  },
)

pub returns-in_err-whole-clause-moved : goal.returns-in_err-whole-clause-moved
returns-in_err-whole-clause-moved g c r asked far there held =
    let p = err_from_is_err_and c.from_residual.result c.from_residual.ensures.1 in
    let prev = c.logs.invariant.1.moved r asked far there held in
    rw (p.1, p.2) (halted_on c.args.id (known_in c.args.config.now) c.args.config.now r (g.D.Disk.may_leave (disk_of c.tell_log.new.node)) (at_of c.args.node.now asked far) (at_of c.logs.node prev.2.asked far) prev.2.told _ _ _ _ prev.2.moved
    (c.in_err-whole.ensures.moved (known_in c.args.config.now) c.args.config.now r prev.2.asked far prev.0 (log_known c.args.config.now.logs c.logs.place c.log_at-log.result c.log_at-log.ensures) prev.1))

pub returns-in_err-whole-clause-cause : goal.returns-in_err-whole-clause-cause
returns-in_err-whole-clause-cause g c =
    let p = err_from_is_err_and c.from_residual.result c.from_residual.ensures.1 in
    rw (p.1, p.2) (stop_since _ _ _ _ _ _ c.in_err-whole.field-0.0
    (λ place d. record { register = d.register; same = d.same ∙ c.logs.invariant.1.itself; still = λ tells. d.still (c.logs.invariant.1.told tells); there = d.there })
    c.logs.invariant.1.later c.in_err-whole.ensures.cause)

pub logs-preserved : goal.logs-preserved
logs-preserved g c = (
  c.logs.invariant.0,
  record {
    formatted = c.in_ok-whole.ensures.rest;
    works = c.in_ok-whole.ensures.works;
    moved = λ r asked far there held. let known = known_in c.args.config.now in
        let logs = logs_of c.args.config.now.logs in
        let l = c.log_at-log.result in
        let prev = c.logs.invariant.1.moved r asked far there held in
        let did = c.in_ok-whole.ensures.moved known c.args.config.now r prev.2.asked far prev.0 (log_known c.args.config.now.logs c.logs.place c.log_at-log.result c.log_at-log.ensures) prev.1 in (
          did.0,
          did.1,
          subst (λ (ls : List ℕ). Told c.args.id known c.args.config.now r (at_of c.args.node.now asked far) (λ last. at_of c.tell_log.new.node last far) ls c.both-mended.result (g.O.Sink.written c.args.out.now) (g.O.Sink.written c.tell_log.new.out))
              (sym (took c.logs.place l logs c.log_at-log.ensures))
              (subst (λ (b : Bool). Told c.args.id known c.args.config.now r (at_of c.args.node.now asked far) (λ last. at_of c.tell_log.new.node last far) (take c.logs.place logs ++ l ∷ []) b (g.O.Sink.written c.args.out.now) (g.O.Sink.written c.tell_log.new.out))
              (sym c.both-mended.ensures)
              (told_on c.args.id known c.args.config.now r (at_of c.args.node.now asked far) (λ last. at_of c.logs.node last far) (λ last. at_of c.tell_log.new.node last far) (take c.logs.place logs) l c.logs.mended c.in_ok-whole.whole _ _ _ prev.2 did.2)),
        );
    later = record { disk = omega (arith, c.logs.invariant.1.later.disk, c.in_ok-whole.ensures.later.disk); register = omega (arith, c.logs.invariant.1.later.register, c.in_ok-whole.ensures.later.register); output = omega (arith, c.logs.invariant.1.later.output, c.in_ok-whole.ensures.later.output) };
    told = λ h. c.in_ok-whole.ensures.told (c.logs.invariant.1.told h);
    itself = c.in_ok-whole.ensures.itself ∙ c.logs.invariant.1.itself;
    disk = c.in_ok-whole.ensures.disk_counts ∙ c.logs.invariant.1.disk;
    lent = c.in_ok-whole.ensures.lent ∙ c.logs.invariant.1.lent;
  },
)

pub returns-clause-moved : goal.returns-clause-moved
returns-clause-moved g c r asked far there held =
    let prev = c.logs.invariant.1.moved r asked far there held in
    let specs : List Spec = c.args.config.now.logs in
    let all : length (logs_of specs) ≤ c.logs.place = omega (arith, length-map specs (λ (s : Spec). s.log), c.logs.invariant.0, c.logs-test.false) in (
      prev.0,
      prev.1,
      subst (λ (ls : List ℕ). Told c.args.id (known_in c.args.config.now) c.args.config.now r (at_of c.args.node.now asked far) (λ last. at_of c.logs.node last far) ls c.logs.mended (g.O.Sink.written c.args.out.now) (g.O.Sink.written c.logs.out)) (take_all c.logs.place (logs_of specs) all) prev.2,
    )

pub returns-in_err-whole-clause-disk_counts : goal.returns-in_err-whole-clause-disk_counts
returns-in_err-whole-clause-disk_counts g c =
    let p = err_from_is_err_and c.from_residual.result c.from_residual.ensures.1 in
    rw (p.1, p.2) (counts_since _ _ _ _ c.logs.invariant.1.disk c.in_err-whole.ensures.disk_counts)

pub returns-clause-disk_counts : goal.returns-clause-disk_counts
returns-clause-disk_counts g c = c.logs.invariant.1.disk
