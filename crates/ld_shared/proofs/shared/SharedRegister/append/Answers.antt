use Rattle.std.proofs.Common.{◌≡◌, inl, inr, refl, ap, sym, ◌∙◌, subst, Ok, ◌∷◌, ◌++◌, []}
use Rattle.ld_records.specs.Growth.{IsAt}
use Rattle.ld_shared.specs.Bodies.{IsValueOf}
use Rattle.ld_register.specs.declared.fault.RegisterFault.TheVariants as faults
use Rattle.ld_shared.specs.Says.{owner_of, refusal}
use Rattle.ld_shared.proofs.Growing.{grows_as}
use Rattle.ld_shared.proofs.Sole.{made_of, taken_of, unmade_of, one_refusal}
use Rattle.ld_shared.proofs.shared.SharedRegister.append.Goals as goal

pub returns-in-Ok-Made-clause-made : goal.returns-in-Ok-Made-clause-made
returns-in-Ok-Made-clause-made g c is = (
  c.in_ok-value.value.items,
  subst (λ v. IsAt c.args.number v (g.C.Records.list c.append.new.self)) c.deref.ensures.value (c.in-Ok-Made.ensures.made (ap (λ a. Ok a) c.in-Ok-Made.field-0-is)),
  c.in_ok-value.ensures.owned,
)

pub returns-in-Ok-Made-clause-alone : goal.returns-in-Ok-Made-clause-alone
returns-in-Ok-Made-clause-alone g c s n =
    let a = c.in-Ok-Made.ensures.alone s n in
    record {
      sole = (a.0, c.requires);
      made = inl (
        refl,
        record {
          value = c.in_ok-value.value.items;
          is = made_of c.in-Ok-Made.field-0 _ _ a.1 ∙ ap (λ v. g.C.Records.list c.args.self.now.records ++ v ∷ []) c.deref.ensures.value;
          value_is = c.in_ok-value.ensures.owned;
        },
      );
    }

pub returns-in-Ok-Taken-clause-alone : goal.returns-in-Ok-Taken-clause-alone
returns-in-Ok-Taken-clause-alone g c s n = absurd (taken_of c.in-Ok-Taken.field-0 _ _ c.in-Ok-Taken.field-0-is (c.in-Ok-Taken.ensures.alone s n).1)

pub returns-clause-alone : goal.returns-clause-alone
returns-clause-alone g c s n =
    let a = c.in-Err.ensures.alone s n in
    let m = unmade_of c.in-Err.fault _ _ a.1 in
    let k = c.leave.ensures.memory m.0 in
    record {
      sole = (subst (λ r. g.C.Records.sole r) (sym c.leave.ensures.records) a.0, k.1);
      made = inr (ap (λ f. refusal f) k.0, ap (λ r. g.C.Records.list r) c.leave.ensures.records ∙ m.1);
    }

pub returns-clause-late : goal.returns-clause-late
returns-clause-late g c = c.leave.ensures.late (owner_of c.args.self.now) c.args.body.now c.in_ok-value.ensures.owned

pub returns-clause-grows : goal.returns-clause-grows
returns-clause-grows g c = grows_as g.C.Records.list (g.C.Records.list c.args.self.now.records) c.append.new.self c.leave.new.self.records c.leave.ensures.records c.in-Err.ensures.grows

pub returns-clause-free : goal.returns-clause-free
returns-clause-free g c = c.leave.ensures.free

pub returns-clause-unsettled : goal.returns-clause-unsettled
returns-clause-unsettled g c is = c.leave.ensures.failed (one_refusal c.leave.result faults.Failed is)
