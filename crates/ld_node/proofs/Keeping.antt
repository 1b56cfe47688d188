-- The record of a format that is kept, and one that isn't.
use Rattle.std.proofs.Common.{◌≡◌, ◌⊎◌, inl, inr, ⊎_elim, ℕ, Bool, true, false, Option, Some, Result, Ok, Err, refl, sym, ap, subst, ◌∙◌}
use Rattle.ld_disk.specs.Plain.{after_calls, all_succeed}
use Rattle.ld_disk.specs.Plain as disks
use Rattle.ld_op.specs.declared.op.Op.{Op}
use Rattle.ld_layout.specs.Layout.{Layout, passes_limit}
use Rattle.ld_segment.specs.Lies.{Slots, op_row}
use Rattle.ld_store.specs.declared.fault.StoreFault.{StoreFault}
use Rattle.ld_store.specs.declared.fault.StoreFault.TheVariants as stores
use Rattle.ld_register.specs.declared.fault.RegisterFault.{RegisterFault}
use Rattle.ld_register.specs.declared.register.Drawn.{Drawn}
use Rattle.ld_node.specs.declared.fault.NodeFault.{NodeFault}
use Rattle.ld_node.specs.declared.fault.NodeFault.TheVariants as nodes
use Rattle.ld_node.specs.Draws.{answered, not_drawn}
use Rattle.ld_node.specs.Faults.{of_store}
use Rattle.ld_node.specs.Formats.{format_of, ended, KeepsFormat, FormatsBy}

abbrev unkept : StoreFault → Result (Unit {0}) StoreFault
unkept fault = Err fault

abbrev given : Drawn → Result Drawn NodeFault
given drawn = Ok drawn

abbrev refused : NodeFault → Result Drawn NodeFault
refused fault = Err fault

module _ (y : Layout) (z : Slots) (p : disks.Plain) (drawn : Drawn) (now : Option disks.Plain) where
  abbrev Passes : Op → Type 0
  Passes o = passes_limit y o ≡ true

  abbrev IsMade : Op → Bool → Type 0
  IsMade o b = (now ≡ Some (after_calls (op_row y z o) p)) × (b ≡ all_succeed (op_row y z o) p)

  made : (b : Bool) (r : Result Drawn NodeFault) → r ≡ ended b drawn → (Passes (format_of drawn) → ⊥) → IsMade (format_of drawn) b → KeepsFormat y z p drawn now r
  made b r is short wrote = record {
    too_long = λ past. absurd (short past);
    too_long_disk = λ past. absurd (short past);
    answer = λ within. is ∙ ap (λ b. ended b drawn) wrote.1;
    written = λ within. wrote.0;
  }

  pub format_kept : (o : Op) → o ≡ format_of drawn → (Passes o → ⊥) → IsMade o true → KeepsFormat y z p drawn now (given drawn)
  format_kept o same short wrote = made true (given drawn) refl (subst (λ x. Passes x → ⊥) same short) (subst (λ x. IsMade x true) same wrote)

  pub format_refused : (o : Op) → o ≡ format_of drawn → (fault : StoreFault) → (unkept fault ≡ unkept stores.Full → Passes o) → (Passes o → (unkept fault ≡ unkept stores.Full) ⊎ (unkept fault ≡ unkept stores.NoMemory))
      → (unkept fault ≡ unkept stores.Disk → IsMade o false) → (unkept fault ≡ unkept stores.Disk) ⊎ (now ≡ Some p) → (unkept fault ≡ unkept stores.NeedsLoad → ⊥) → ((place : ℕ) → unkept fault ≡ unkept (stores.Damaged place) → ⊥)
      → (refused (of_store fault) ≡ refused nodes.NoMemory) ⊎ KeepsFormat y z p drawn now (refused (of_store fault))
  format_refused o same stores.NoMemory full long fails keeps load damaged = inl refl
  format_refused o same stores.Full full long fails keeps load damaged =
      let never : passes_limit y (format_of drawn) ≡ false → ⊥ = λ within. (let e : true ≡ false = sym (subst (λ x. Passes x) same (full refl)) ∙ within in cc e) in
      inr (record {
        too_long = λ past. refl;
        too_long_disk = λ past. ⊎_elim (λ e. absurd (cc e)) (λ still. still) keeps;
        answer = λ within. absurd (never within);
        written = λ within. absurd (never within);
      })
  format_refused o same stores.Disk full long fails keeps load damaged =
      inr (made false (refused nodes.Disk) refl (λ past. ⊎_elim (λ e. cc e) (λ e. cc e) (long (subst (λ x. Passes x) (sym same) past))) (subst (λ x. IsMade x false) same (fails refl)))
  format_refused o same stores.NeedsLoad full long fails keeps load damaged = absurd (load refl)
  format_refused o same (stores.Damaged place) full long fails keeps load damaged = absurd (damaged place refl)

-- a format under what was drawn
pub formats_by : (y : Layout) (z : Slots) (p : disks.Plain) (draw : Result Drawn RegisterFault) (drawn : Drawn) (now : Option disks.Plain) (r : Result Drawn NodeFault) → answered drawn ≡ draw → KeepsFormat y z p drawn now r → FormatsBy y z p draw now r
formats_by y z p draw drawn now r is keeps = record {
  refused = λ fault e. absurd (not_refused fault e);
  refused_disk = λ fault e. absurd (not_refused fault e);
  keeps = λ other e. let both : answered drawn ≡ answered other = is ∙ e in let one : drawn ≡ other = cc both in subst (λ d. KeepsFormat y z p d now r) one keeps;
}
  where
    not_refused : (fault : RegisterFault) → draw ≡ not_drawn fault → ⊥
    not_refused fault e = let no : answered drawn ≡ not_drawn fault = is ∙ e in cc no
