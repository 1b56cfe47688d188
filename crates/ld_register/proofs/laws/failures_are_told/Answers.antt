use Rattle.std.proofs.Common.{inl, inr, sym, ◌∷◌, []}
use Rattle.ld_register.specs.Calls.{with_and_without}
use Rattle.ld_register.proofs.laws.failures_are_told.Goals as goal

pub returns-clause-holds : goal.returns-clause-holds
returns-clause-holds g c failed d change = λ t l. elim (g.met.R.Register.left_is_held failed (with_and_without change (d ∷ [])) t l) [ inl h ↦ inl h | inr (inl h) ↦ inr h | inr (inr none) ↦ absurd none ]

pub returns-clause-alone : goal.returns-clause-alone
returns-clause-alone g c failed d e = λ change l m. elim (g.met.R.Register.left_alone failed (with_and_without change (d ∷ [])) e l m) [ inl h ↦ inl (sym h) | inr (inl h) ↦ inr (sym h) | inr (inr none) ↦ absurd none ]

pub returns-clause-tells : goal.returns-clause-tells
returns-clause-tells g c failed next d = λ change after result answer t l says. elim (returns-clause-holds g c failed d change t l) [
  | inl h ↦ elim (says d h) [ inl free ↦ inl free | inr told ↦ inr (inl told) ]
  | inr h ↦ elim (says (change d) h) [ inl free ↦ inl free | inr told ↦ inr (inr told) ]
]
