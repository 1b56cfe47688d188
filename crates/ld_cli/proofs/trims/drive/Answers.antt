use Rattle.std.proofs.Common.{◌≡◌, ◌∙◌, ◌⊎◌, refl, sym, ap, subst, ℕ, List, Option, true, codes, Some}
use Rattle.ld_ids.specs.declared.set.Spec.{Spec}
use Rattle.ld_machine.specs.State.{State}
use Rattle.ld_rounds.specs.Drives.{counted}
use Rattle.ld_append.specs.Acting.{MayCrowd}
use Rattle.ld_append.specs.Appends.{HasNone, IsAppended, IsEndOfAppend}
use Rattle.ld_rounds.specs.Reaching.{Begins}
use Rattle.ld_clients.proofs.Bounds.{first_fits}
use Rattle.ld_clients.proofs.Logs.{spec_log}
use Rattle.ld_cli.specs.Trims.{trim_coming, Goes}
use Rattle.ld_cli.proofs.Drives.{spec_so, unset_so}
use Rattle.ld_cli.proofs.Trimming.{nothing_driven, runs_so}
use Rattle.ld_cli.proofs.trims.drive.Goals as goal

pub returns-in_default : goal.returns-in_default
returns-in_default g c = nothing_driven g.N.Nodes.faults g.N.Nodes.endings g.N.Nodes.tells g.N.Nodes.silent g.N.Nodes.off
    g.G.Register.faults g.G.Register.told g.G.Register.damaged g.G.Register.holds g.G.Register.may_hold g.G.Register.tells g.O.Sink.faults g.O.Sink.written
    c.args.nodes.now c.args.reg.now c.args.out.now c.args.words.now

pub trim_log-requires : goal.trim_log-requires
trim_log-requires g c = (first_fits c.args.words.now.of.config c.args.words.now.of.log c.args.words.now.of.log c.in-Some.spec c.requires.bounds.of.config c.in-Some.ensures.found.0 c.in-Some.ensures.found.1 refl).is

pub returns : goal.returns
returns g c =
    let before = g.N.Nodes.faults c.args.nodes.now in
    let now = g.N.Nodes.faults c.trim_log.new.nodes in
    let broken = counted before now (g.N.Nodes.endings c.args.nodes.now) (g.N.Nodes.endings c.trim_log.new.nodes) in
    let damaged = λ (place : ℕ). (g.G.Register.told c.args.reg.now → g.G.Register.damaged c.args.reg.now place) in
    let found = c.in-Some.ensures.found in
    let log : c.in-Some.spec.log ≡ c.args.words.now.of.log = ap (λ (x : Spec). x.log) found.0 ∙ spec_log c.args.words.now.of.log c.args.words.now.of.config.logs in
    let silent = g.N.Nodes.silent c.trim_log.new.nodes ≡ true in
    let end = λ (l : ℕ) (o : Option ℕ). IsEndOfAppend (g.G.Register.told c.args.reg.now → MayCrowd (g.G.Register.may_hold c.args.reg.now) l) damaged (Some (trim_coming o)) 0 0 (g.O.Sink.faults c.args.out.now) (g.O.Sink.faults c.trim_log.new.out)
    (Some (g.O.Sink.written c.args.out.now)) (Some (g.O.Sink.written c.trim_log.new.out)) c.trim_log.result in
    let went = λ (name : List ℕ) (l : ℕ) (o : Option ℕ) (s : State). IsAppended name l broken (Some (trim_coming o)) c.args.words.now.of.rounds (g.N.Nodes.tells c.trim_log.new.nodes) (g.G.Register.tells c.trim_log.new.reg) c.args.words.now.of.config s (Some (g.O.Sink.written c.args.out.now)) (Some (g.O.Sink.written c.trim_log.new.out)) c.trim_log.result in
    let goes : Goes g.N.Nodes.faults g.N.Nodes.endings g.N.Nodes.tells g.N.Nodes.silent g.N.Nodes.off
    g.G.Register.faults g.G.Register.told g.G.Register.damaged g.G.Register.holds g.G.Register.may_hold g.G.Register.tells g.O.Sink.faults g.O.Sink.written
    c.args.nodes.now c.trim_log.new.nodes c.args.reg.now c.trim_log.new.reg c.args.out.now c.trim_log.new.out c.args.words.now c.trim_log.result = λ s far told begins unset. subst (λ (o : Option ℕ). silent ⊎ went (codes "s") c.args.words.now.of.log o s) c.new-asked.ensures
    (subst (λ (l : ℕ). silent ⊎ went (codes "s") l c.new-asked.result.upto s) log
    (subst (λ (name : List ℕ). silent ⊎ went name c.in-Some.spec.log c.new-asked.result.upto s) c.in-Ok.ensures
    (c.trim_log.ensures.appended s far c.requires.bounds.of.config (spec_so c.args.words.now.of.config c.args.words.now.of.log c.in-Some.spec found) (unset_so c.args.words.now.of.config s c.args.words.now.of.log c.in-Some.spec found.0 unset) told
    (subst (λ (name : List ℕ). Begins (HasNone name (g.G.Register.tells c.args.reg.now)) c.args.words.now.of.config s far) (sym c.in-Ok.ensures) begins)))) in
    record {
      goes = goes;
      runs = runs_so g.N.Nodes.faults g.N.Nodes.endings g.N.Nodes.tells g.N.Nodes.silent g.N.Nodes.off
          g.G.Register.faults g.G.Register.told g.G.Register.damaged g.G.Register.holds g.G.Register.may_hold g.G.Register.tells g.O.Sink.faults g.O.Sink.written
          c.args.nodes.now c.trim_log.new.nodes c.args.reg.now c.trim_log.new.reg c.args.out.now c.trim_log.new.out c.args.words.now c.trim_log.result goes;
      cause = subst (λ (o : Option ℕ). end c.args.words.now.of.log o) c.new-asked.ensures (subst (λ (l : ℕ). end l c.new-asked.result.upto) log c.trim_log.ensures.ends);
      refused = c.trim_log.ensures.refused;
      off_as = c.trim_log.ensures.off;
      ended_off = c.trim_log.ensures.ended;
      later = c.trim_log.ensures.later;
    }
