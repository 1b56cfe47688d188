-- A whole call of a register over records, behind which its failures are counted.
use Rattle.std.proofs.Common.{◌≡◌, ◌⊎◌, Result, sym, ◌∙◌, subst}
use Rattle.std.specs.Prelude.{IfSome}
use Rattle.ld_msg.specs.Register.{Register}
use Rattle.ld_records.specs.Growth.{Grows}
use Rattle.ld_records.specs.declared.records.Records.{Ghosts}
use Rattle.ld_register.specs.Calls.{IsFree}
use Rattle.ld_register.specs.declared.fault.RegisterFault.{RegisterFault}
use Rattle.ld_shared.specs.Says.{Says, IsSettled, IsLate, Settles, Answers, values_of, owner_of, unsettled_of}
use Rattle.ld_shared.specs.declared.shared.SharedRegister.{SharedRegister}

pub answers_by : {C T : Type 0} (g : Ghosts C) (old mid new : SharedRegister C) (r : Result T RegisterFault) (answer : Register → Result T RegisterFault) (after : Register → Register)
    → Grows (values_of g old) (values_of g mid) → owner_of mid ≡ owner_of old → IsFree r ⊎ Says (owner_of old) (values_of g old) (values_of g mid) r answer after → Settles g old mid r after
    → (values_of g new ≡ values_of g mid) × (unsettled_of new ≡ unsettled_of mid) × (owner_of new ≡ owner_of mid) → Answers g old new r answer after
answers_by g old mid new r answer after grows owned says settles same = record {
  grows = subst (λ v. Grows (values_of g old) v) (sym same.0) grows;
  same_owner = same.2 ∙ owned;
  says = subst (λ v. IsFree r ⊎ Says (owner_of old) (values_of g old) v r answer after) (sym same.0) says;
  settles = subst (λ v. (IsSettled v (unsettled_of old) × IfSome (unsettled_of new) (IsLate (owner_of old) v after)) ⊎ (IsFree r × (unsettled_of new ≡ unsettled_of old))) (sym same.0)
      (subst (λ u. (IsSettled (values_of g mid) (unsettled_of old) × IfSome u (IsLate (owner_of old) (values_of g mid) after)) ⊎ (IsFree r × (u ≡ unsettled_of old))) (sym same.1) settles);
}
