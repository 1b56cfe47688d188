use Rattle.std.proofs.Common.{◌≡◌, ◌≤◌, ◌-◌, ◌++◌, max}
use Rattle.ld_msg.specs.Register.{Register}
use Rattle.ld_operate.specs.Looking.{OnlyLooks}
use Rattle.ld_operate.specs.Shown.{epoch_lines}
use Rattle.ld_operate.specs.Views.{ShowsEpochs}
use Rattle.ld_operate.proofs.registers.show_epochs.Given as goal

abbrev pub invariant-loop-epoch : goal.invariant-loop-epoch
invariant-loop-epoch g l = record {
  text : (c : Register) → g.G.Register.holds l.fn.reg c → (g.O.Sink.written l.out ≡ g.O.Sink.written l.fn.out ++ epoch_lines l.json c l.log l.from (l.epoch - l.from)) × g.G.Register.holds l.reg c;
  looks : OnlyLooks (g.G.Register.told l.fn.reg) (g.G.Register.told l.reg) (g.G.Register.may_hold l.fn.reg) (g.G.Register.may_hold l.reg) (g.G.Register.tells l.fn.reg) (g.G.Register.tells l.reg) (g.G.Register.faults l.fn.reg) (g.G.Register.faults l.reg) (g.G.Register.identity l.fn.reg) (g.G.Register.identity l.reg);
  views : ShowsEpochs l.json l.log l.from (l.epoch - l.from) (g.O.Sink.written l.fn.out) (g.O.Sink.written l.out);
  later : g.O.Sink.faults l.fn.out ≤ g.O.Sink.faults l.out;
  most : l.epoch ≤ max l.from l.epoch-end;
}
