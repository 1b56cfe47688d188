-- An activation for which the register's journal has no room.
use Rattle.std.proofs.Common.{◌≡◌, ◌+◌, ℕ, Bool, true, false, List, None, Err, refl, if◌then◌else◌, nat_le, nat_lt}
use Rattle.ld_ids.specs.declared.set.Spec.{Spec}
use Rattle.ld_msg.specs.declared.msg.Msg.{Msg}
use Rattle.ld_msg.specs.Register.{Register, View, Answer, Granted, AtLimit, Behind, Overtaken, Fails, Changed, is_crowded, journal_limit, epoch_limit, record_length, with_epochs, is_made, made, unmade, change, activate, next_epoch, epochs_of}
use Rattle.ld_register.specs.Calls.{activated, after_activate, ended, granted, is_full, activation_length}
use Rattle.ld_register.specs.declared.register.Grant.{Grant}
use Rattle.ld_register.specs.declared.fault.RegisterFault.TheVariants as registers
use Rattle.ld_sequencer.specs.declared.fault.SequencerFault.TheVariants as faults
use Rattle.ld_sequencer.specs.declared.origin.Origin.{Origin}
use Rattle.ld_sequencer.specs.Whole.{Activates}

if_same : (b : Bool) (r x y : Register) → x ≡ r → y ≡ r → (if b then x else y) ≡ r
if_same true r x y p q = p
if_same false r x y p q = q

if_first : (b : Bool) (x y : Register) → b ≡ true → (if b then x else y) ≡ x
if_first true x y h = refl
if_first false x y h = absurd cc

if_changed : (b : Bool) (r : Register) (x y : Changed) → x.register ≡ r → y.register ≡ r → (if b then x else y).register ≡ r
if_changed true r x y p q = p
if_changed false r x y p q = q

-- it changes nothing
unchanged : (r next : Register) → is_full r activation_length ≡ true → (change r next 13).register ≡ r
unfolding change
unchanged r next full = if_first (nat_lt journal_limit (r.length + record_length 13)) r (if is_made r.armed then made r next 13 else unmade r) full

inactive : (spec : Spec) (r : Register) → is_full r activation_length ≡ true → after_activate r spec ≡ r
unfolding activate
inactive spec r full =
    let next : Register = with_epochs r spec.log (next_epoch (epochs_of r spec.log) spec) in
    if_same (is_crowded r spec.log) r r (activate r spec.log spec).register refl
    (if_changed (nat_le epoch_limit (epochs_of r spec.log).epoch) r (record { register = r; answer = AtLimit }) (change r next 13) refl (unchanged r next full))

full_by : (x : Answer) (full : Bool) (g : Grant) (origin : Origin) (spec : Spec) (looks : ℕ → View) (old new : List Msg) → Activates origin spec looks old new (Err (faults.Register registers.Full)) (ended x full registers.EpochLimit g) → full ≡ true
full_by Granted full g origin spec looks old new h = absurd h
full_by AtLimit full g origin spec looks old new h = let e : faults.Register registers.Full ≡ faults.Register registers.EpochLimit = h.0 in absurd cc
full_by (Behind lce) full g origin spec looks old new h = let e : faults.Register registers.Full ≡ faults.Register (registers.Behind lce None) = h.0 in absurd cc
full_by (Overtaken kept) full g origin spec looks old new h = let e : faults.Register registers.Full ≡ faults.Register (registers.Overtaken kept) = h.0 in absurd cc
full_by Fails true g origin spec looks old new h = refl
full_by Fails false g origin spec looks old new h = let e : faults.Register registers.Full ≡ faults.Register registers.Failed = h.0 in absurd cc

full_if : (b : Bool) (x : Answer) (full : Bool) (g : Grant) (origin : Origin) (spec : Spec) (looks : ℕ → View) (old new : List Msg) → Activates origin spec looks old new (Err (faults.Register registers.Full)) (if b then Err registers.LogLimit else ended x full registers.EpochLimit g) → full ≡ true
full_if true x full g origin spec looks old new h = let e : faults.Register registers.Full ≡ faults.Register registers.LogLimit = h.0 in absurd cc
full_if false x full g origin spec looks old new h = full_by x full g origin spec looks old new h

-- an activation that was refused so
pub full_activation : (origin : Origin) (spec : Spec) (looks : ℕ → View) (old new : List Msg) (c : Register) → Activates origin spec looks old new (Err (faults.Register registers.Full)) (activated c spec) → (is_full c activation_length ≡ true) × (after_activate c spec ≡ c)
full_activation origin spec looks old new c h =
    let full = full_if (is_crowded c spec.log) (activate c spec.log spec).answer (is_full c activation_length) (granted c spec) origin spec looks old new h in
    (full, inactive spec c full)
