use Rattle.std.proofs.Common.{◌∙◌, ◌+◌, ap, arith}
use Rattle.ld_register.specs.Kept.{register_of}
use Rattle.ld_register.specs.Calls.{spec_told}
use Rattle.ld_register.proofs.Answering.{tells_new, tells_old}
use Rattle.ld_register.proofs.disk.DiskRegister.next_with.Goals as goal

pub returns-then-before-lce-clause-value : goal.returns-then-before-lce-clause-value
returns-then-before-lce-clause-value g c n m = tells_new (register_of c.args.self.now.contents n) m c.args.spec.now (let e = c.requires.epoch n in let l = c.requires.lce n in let h = c.if-before-lce.true in omega arith)

pub returns-clause-value : goal.returns-clause-value
returns-clause-value g c n m = c.spec.ensures.value n ∙ (ap (λ v. spec_told (register_of c.args.self.now.contents n) c.args.spec.now.log (v + 1)) (c.requires.lce n)
    ∙ tells_old (register_of c.args.self.now.contents n) m c.args.spec.now (let e = c.requires.epoch n in let l = c.requires.lce n in let h = c.if-before-lce.false in omega arith))
