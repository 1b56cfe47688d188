use Rattle.std.proofs.Common.{◌∙◌, sym, ap, inl, inr, Ok}
use Rattle.ld_shared.proofs.Growing.{none_settled, some_settled}
use Rattle.ld_shared.proofs.shared.SharedRegister.settle.Goals as goal

pub returns-in_default-clause-settled : goal.returns-in_default-clause-settled
returns-in_default-clause-settled g c = (c.take.ensures.after, none_settled c.args.self.now.unsettled (g.C.Records.list c.args.self.now.records) (sym c.take.ensures.value ∙ c.in_default.is))

pub returns-in-Ok-Made-clause-settled : goal.returns-in-Ok-Made-clause-settled
returns-in-Ok-Made-clause-settled g c = (
  c.take.ensures.after,
  some_settled c.args.self.now.unsettled c.in-Some.unsettled c.deref.result.now (g.C.Records.list c.append.new.self) (sym c.take.ensures.value ∙ c.in-Some.is) c.deref.ensures.value
      (inl (c.in-Ok-Made.ensures.made (ap (λ a. Ok a) c.in-Ok-Made.field-0-is))),
)

pub returns-in-Ok-Taken-clause-settled : goal.returns-in-Ok-Taken-clause-settled
returns-in-Ok-Taken-clause-settled g c = (
  c.take.ensures.after,
  some_settled c.args.self.now.unsettled c.in-Some.unsettled c.deref.result.now (g.C.Records.list c.append.new.self) (sym c.take.ensures.value ∙ c.in-Some.is) c.deref.ensures.value
      (inr (c.in-Ok-Taken.ensures.taken (ap (λ a. Ok a) c.in-Ok-Taken.field-0-is))),
)

pub returns-clause-refused : goal.returns-clause-refused
returns-clause-refused g c = (c.refused.ensures.free, sym (sym c.take.ensures.value ∙ c.in-Some.is))
