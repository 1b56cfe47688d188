use Rattle.std.proofs.Common.{◌∷◌, ◌++◌, [], Ok, refl, ap, sym, ◌∙◌, subst, take, arith}
use Rattle.ld_msg.specs.Register.{empty_register}
use Rattle.ld_register.specs.Changes.{Leads}
use Rattle.ld_register.proofs.Committing.{err_of}
use Rattle.ld_shared.specs.Bodies.{bodies_of}
use Rattle.ld_shared.proofs.Exact.{short_at}
use Rattle.ld_shared.proofs.Growing.{grows_not, grows_on}
use Rattle.ld_shared.proofs.Reading.{none_read, read_grows, memory_passed, only_memory}
use Rattle.ld_shared.proofs.fresh.read_all.Goals as goal

pub records-init : goal.records-init
records-init g c = record { read = none_read _ _ c.requires; grows = grows_not _; alone = λ s. (s, refl) }

pub returns-in_err-push_body-in-Ok-true-clause-grows : goal.returns-in_err-push_body-in-Ok-true-clause-grows
returns-in_err-push_body-in-Ok-true-clause-grows g c = grows_on _ _ _ c.records.invariant.grows c.in-Ok-true.ensures.grows

pub returns-in-Ok-false-clause-all : goal.returns-in-Ok-false-clause-all
returns-in-Ok-false-clause-all g c =
    let has = read_grows c.records.number _ _ _ c.in-Ok-false.ensures.grows c.records.invariant.read in
    (has, omega (arith, has.there, c.in-Ok-false.ensures.ended (ap (λ b. Ok b) c.in-Ok-false.field-0-test)))

pub returns-in-Ok-false-clause-grows : goal.returns-in-Ok-false-clause-grows
returns-in-Ok-false-clause-grows g c = grows_on _ _ _ c.records.invariant.grows c.in-Ok-false.ensures.grows

pub returns-in-Err-clause-grows : goal.returns-in-Err-clause-grows
returns-in-Err-clause-grows g c = grows_on _ _ _ c.records.invariant.grows c.in-Err.ensures.grows

pub returns-in-Err-clause-free : goal.returns-in-Err-clause-free
returns-in-Err-clause-free g c = c.refused.ensures.free

pub records-preserved : goal.records-preserved
records-preserved g c = record {
  read = c.in_ok-push_body-in-Ok-true.ensures.pushed c.records.number (g.C.Records.list c.read.new.self) refl
      (read_grows c.records.number _ _ _ c.in-Ok-true.ensures.grows c.records.invariant.read)
      (c.in-Ok-true.ensures.found (ap (λ b. Ok b) c.in-Ok-true.field-0-test) ∙ ap (λ v. take c.records.number (g.C.Records.list c.read.new.self) ++ v ∷ []) (sym c.deref.ensures.value));
  grows = grows_on _ _ _ c.records.invariant.grows c.in-Ok-true.ensures.grows;
  alone = λ s. let a = c.records.invariant.alone s in let b = c.in-Ok-true.ensures.alone a.0 in (b.0, b.1 ∙ a.1);
}

pub returns-clause-grows : goal.returns-clause-grows
returns-clause-grows g c = c.records.invariant.grows

pub returns-in_err-push_body-in-Ok-true-clause-alone : goal.returns-in_err-push_body-in-Ok-true-clause-alone
returns-in_err-push_body-in-Ok-true-clause-alone g c s = let a = c.records.invariant.alone s in let b = c.in-Ok-true.ensures.alone a.0 in (b.0, b.1 ∙ a.1)

pub returns-in_err-push_body-in-Ok-true-clause-memory : goal.returns-in_err-push_body-in-Ok-true-clause-memory
returns-in_err-push_body-in-Ok-true-clause-memory g c d s leads =
    let a = c.records.invariant.alone s in
    let b = c.in-Ok-true.ensures.alone a.0 in
    let at = c.in-Ok-true.ensures.found (ap (λ b. Ok b) c.in-Ok-true.field-0-test) ∙ ap (λ v. take c.records.number (g.C.Records.list c.read.new.self) ++ v ∷ []) (sym c.deref.ensures.value) in
    memory_passed _ _ (err_of c.from_residual.result c.in_err-push_body-in-Ok-true.field-0.0 c.from_residual.ensures.1)
    (c.in_err-push_body-in-Ok-true.ensures.memory (short_at (g.C.Records.list c.read.new.self) c.records.number c.deref.result.now d at (subst (λ v. Leads empty_register (bodies_of v) d) (sym (b.1 ∙ a.1)) leads)))

pub returns-in-Ok-false-clause-alone : goal.returns-in-Ok-false-clause-alone
returns-in-Ok-false-clause-alone g c s = let a = c.records.invariant.alone s in let b = c.in-Ok-false.ensures.alone a.0 in (b.0, b.1 ∙ a.1)

pub returns-in-Err-clause-alone : goal.returns-in-Err-clause-alone
returns-in-Err-clause-alone g c s = let a = c.records.invariant.alone s in let b = c.in-Err.ensures.alone a.0 in (b.0, b.1 ∙ a.1)

pub returns-in-Err-clause-memory : goal.returns-in-Err-clause-memory
returns-in-Err-clause-memory g c d s leads = let b = c.in-Err.ensures.alone (c.records.invariant.alone s).0 in only_memory c.in-Err.fault c.refused.result c.refused.ensures.memory b.2

pub returns-clause-alone : goal.returns-clause-alone
returns-clause-alone g c = c.records.invariant.alone
