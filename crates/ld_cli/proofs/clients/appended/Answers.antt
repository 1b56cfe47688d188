use Rattle.std.proofs.Common.{◌≡◌, ◌∙◌, ◌⊎◌, rules, inl, inr, refl, sym, ap, subst, ℕ, List, Option, true, codes, Some}
use Rattle.ld_io.specs.Input.{left_of}
use Rattle.ld_rounds.specs.Drives.{counted}
use Rattle.ld_rounds.proofs.Endings.{none_ended}
use Rattle.ld_append.specs.Acting.{MayCrowd}
use Rattle.ld_append.specs.Appends.{HasNone, IsAppended, IsEndOfAppend}
use Rattle.ld_dial.specs.Far.{Far}
use Rattle.ld_rounds.specs.Reaching.{Begins}
use Rattle.ld_machine.specs.Config.{first_spec}
use Rattle.ld_machine.specs.Step.{spec_set}
use Rattle.ld_cli.specs.Clients.{EndsDrive}
use Rattle.ld_ids.specs.declared.set.Spec.{Spec}
use Rattle.ld_machine.specs.State.{State}
use Rattle.ld_rounds.specs.Input.{Input}
use Rattle.std.specs.Io.KnownBytes.{prepend_known}
use Rattle.ld_cli.specs.Payloads.{input_after, payloads_in}
use Rattle.ld_clients.proofs.Bounds.{first_fits}
use Rattle.ld_clients.proofs.Logs.{spec_log}
use Rattle.ld_cli.proofs.PayloadLines.{nothing_held}
use Rattle.ld_cli.proofs.Drives.{of_same, spec_so, unset_so, nothing_done}
use Rattle.ld_cli.proofs.clients.appended.Goals as goal

pub returns-in_default : goal.returns-in_default
returns-in_default g c = record {
  appended = λ s far told begins unset. inr (nothing_done (codes "s") c.args.words.now.of.log (counted (g.N.Nodes.faults c.args.nodes.now) (g.N.Nodes.faults c.args.nodes.now) (g.N.Nodes.endings c.args.nodes.now) (g.N.Nodes.endings c.args.nodes.now)) (payloads_in c.args.words.now.batches (left_of (g.I.Source.known c.args.input.now) (g.I.Source.gave c.args.input.now))) c.args.words.now.of.rounds c.args.words.now.of.config s (Some (g.O.Sink.written c.args.out.now)));
  ends = inl tt;
  refused = tt;
  off = tt;
  ended = λ none. none_ended _ _ none;
}

pub returns-in_default-new : goal.returns-in_default-new
returns-in_default-new g c = record {
  appended = λ s far told begins unset. inr (nothing_done (codes "s") c.args.words.now.of.log (counted (g.N.Nodes.faults c.args.nodes.now) (g.N.Nodes.faults c.args.nodes.now) (g.N.Nodes.endings c.args.nodes.now) (g.N.Nodes.endings c.args.nodes.now)) (payloads_in c.args.words.now.batches (left_of (g.I.Source.known c.args.input.now) (g.I.Source.gave c.args.input.now))) c.args.words.now.of.rounds c.args.words.now.of.config s (Some (g.O.Sink.written c.args.out.now)));
  ends = inl tt;
  refused = tt;
  off = tt;
  ended = λ none. none_ended _ _ none;
}

pub append_lines-requires : goal.append_lines-requires
append_lines-requires g c = (first_fits c.args.words.now.of.config c.args.words.now.of.log c.args.words.now.of.log c.in-Some.spec c.requires.bounds.of.config c.in-Some.ensures.found.0 c.in-Some.ensures.found.1 refl).is

pub returns : goal.returns
returns g c =
    let before = g.N.Nodes.faults c.args.nodes.now in
    let now = g.N.Nodes.faults c.append_lines.new.nodes in
    let broken = counted before now (g.N.Nodes.endings c.args.nodes.now) (g.N.Nodes.endings c.append_lines.new.nodes) in
    let coming = payloads_in c.args.words.now.batches (left_of (g.I.Source.known c.args.input.now) (g.I.Source.gave c.args.input.now)) in
    let damaged = λ (place : ℕ). (g.G.Register.told c.args.reg.now → g.G.Register.damaged c.args.reg.now place) in
    let reads = g.I.Source.faults c.append_lines.new.lines.input.now in
    let held = input_after c.in-Ok-new.held.batches c.in-Ok-new.held.number (prepend_known c.in-Ok-new.held.buffer (left_of (g.I.Source.known c.args.input.now) (g.I.Source.gave c.args.input.now))) in
    let fresh = nothing_held c.args.words.now.batches c.in-Ok-new.held.batches c.in-Ok-new.held.number c.in-Ok-new.held.buffer (left_of (g.I.Source.known c.args.input.now) (g.I.Source.gave c.args.input.now)) c.in-Ok-new.ensures.batches c.in-Ok-new.ensures.number c.in-Ok-new.ensures.buffer in
    let found = c.in-Some.ensures.found in
    let log : c.in-Some.spec.log ≡ c.args.words.now.of.log = ap (λ (x : Spec). x.log) found.0 ∙ spec_log c.args.words.now.of.log c.args.words.now.of.config.logs in
    let end = λ (l : ℕ) (i : Option Input) (n : ℕ). IsEndOfAppend (g.G.Register.told c.args.reg.now → MayCrowd (g.G.Register.may_hold c.args.reg.now) l) damaged i (g.I.Source.faults c.args.input.now) n (g.O.Sink.faults c.args.out.now) (g.O.Sink.faults c.append_lines.new.out)
    (Some (g.O.Sink.written c.args.out.now)) (Some (g.O.Sink.written c.append_lines.new.out)) in
    let went = λ (name : List ℕ) (l : ℕ) (i : Option Input) (s : State). IsAppended name l broken i c.args.words.now.of.rounds (g.N.Nodes.tells c.append_lines.new.nodes) (g.G.Register.tells c.append_lines.new.reg) c.args.words.now.of.config s (Some (g.O.Sink.written c.args.out.now)) (Some (g.O.Sink.written c.append_lines.new.out)) in
    let silent = g.N.Nodes.silent c.append_lines.new.nodes ≡ true in
    let log_is = c.args.words.now.of.log in
    let drove : (s : State) (far : Far) → g.N.Nodes.tells c.args.nodes.now c.args.words.now.of.config far → Begins (HasNone (codes "s") (g.G.Register.tells c.args.reg.now)) c.args.words.now.of.config s far → spec_set c.args.words.now.of.config s log_is ≡ first_spec c.args.words.now.of.config log_is → silent ⊎ EndsDrive before now (went (codes "s") log_is coming s) c.append_lines.result = λ s far told begins unset. subst (λ (i : Option Input). silent ⊎ EndsDrive before now (went (codes "s") log_is i s) c.append_lines.result) fresh
    (subst (λ (l : ℕ). silent ⊎ EndsDrive before now (went (codes "s") l held s) c.append_lines.result) log
    (subst (λ (name : List ℕ). silent ⊎ EndsDrive before now (went name c.in-Some.spec.log held s) c.append_lines.result)
    c.in-Ok.ensures (c.append_lines.ensures.appended s far c.requires.bounds.of.config (spec_so c.args.words.now.of.config log_is c.in-Some.spec found) (unset_so c.args.words.now.of.config s log_is c.in-Some.spec found.0 unset) told
    (subst (λ (name : List ℕ). Begins (HasNone name (g.G.Register.tells c.args.reg.now)) c.args.words.now.of.config s far) (sym c.in-Ok.ensures) begins)))) in
    record {
      appended = drove;
      ends = of_same (λ (n : ℕ). EndsDrive before now (end c.args.words.now.of.log coming n) c.append_lines.result) reads _
          (subst (λ (l : ℕ). EndsDrive before now (end l coming reads) c.append_lines.result) log (subst (λ (i : Option Input). EndsDrive before now (end c.in-Some.spec.log i reads) c.append_lines.result) fresh c.append_lines.ensures.ends)) (search rules);
      refused = c.append_lines.ensures.refused;
      off = c.append_lines.ensures.off;
      ended = c.append_lines.ensures.ended;
    }
