-- What contents with no armed fault answer is no refusal that may come at any point.
use Rattle.std.specs.Prelude.{◌≡◌, ◌≤◌, ◌+◌, ◌==◌, ◌||◌, ℕ, Bool, true, false, not, nat_lt, nat_le, Option, None, Ok, Err, if◌then◌else◌}
use Rattle.std.proofs.Common.{refl, ap, subst, sym}
use Rattle.std.specs.declared.result.Result.{Result}
use Rattle.ld_ids.specs.declared.set.Spec.{Spec}
use Rattle.ld_msg.specs.declared.msg.Summary.{Summary}
use Rattle.ld_msg.specs.Register.{Register, Changed, Answer, Granted, AtLimit, Behind, Overtaken, Fails, Armed, falls, change, activate, close, draw, swap, journal_limit, record_length, epoch_limit, generation_limit, swap_limit, epochs_of, generation_of, lce_of, swappable, is_overtaken, is_crowded, with_epochs, next_epoch, closed_epochs, swapped_epochs}
use Rattle.ld_register.specs.Calls.{IsFree, ended, close_ended, is_full, activated, granted, after_activate, closed, next_told, after_close, drawn, handed, swapped, looked}
use Rattle.ld_register.specs.declared.fault.RegisterFault.{RegisterFault}
use Rattle.ld_register.specs.declared.fault.RegisterFault.TheVariants as faults
use Rattle.ld_register.specs.declared.register.Grant.{Grant}
use Rattle.ld_register.specs.declared.register.View.{View}

by_test : {X : Type 0} (b : Bool) (x y : X) (P : X → Type 0) → P x → P y → P (if b then x else y)
by_test true x y P h k = h
by_test false x y P h k = k

-- an answer that fits whether the journal is full
abbrev Fits : Answer → Bool → Type 0
Fits Granted full = Unit {0}
Fits AtLimit full = Unit {0}
Fits (Behind lce) full = Unit {0}
Fits (Overtaken epoch) full = Unit {0}
Fits Fails true = Unit {0}
Fits Fails false = ⊥

fits_by : (full armed : Bool) → armed ≡ false → Fits (if full || armed then Fails else Granted) full
fits_by true armed none = tt
fits_by false true none = absurd cc
fits_by false false none = tt

change_fits : (r next : Register) (n : ℕ) → r.armed ≡ None → Fits (change r next n).answer (is_full r n)
unfolding change
change_fits r next n none = fits_by (nat_lt journal_limit (r.length + record_length n)) (falls r.armed) (ap (λ a. falls a) none)

ended_told : {T : Type 0} (a : Answer) (full : Bool) (limit : RegisterFault) (given : T) → Fits a full → (IsFree {T = T} (Err limit) → ⊥) → IsFree (ended a full limit given) → ⊥
ended_told Granted full limit given fits never free = free
ended_told AtLimit full limit given fits never free = never free
ended_told (Behind lce) full limit given fits never free = free
ended_told (Overtaken epoch) full limit given fits never free = free
ended_told Fails true limit given fits never free = free
ended_told Fails false limit given fits never free = fits

close_ended_told : (a : Answer) (full : Bool) (before after : Option Spec) → Fits a full → IsFree (close_ended a full before after) → ⊥
close_ended_told Granted full before after fits free = free
close_ended_told AtLimit full before after fits free = free
close_ended_told (Behind lce) full before after fits free = free
close_ended_told (Overtaken epoch) full before after fits free = free
close_ended_told Fails true before after fits free = free
close_ended_told Fails false before after fits free = fits

-- whatever is full, what is answered at once fits
activate_fits : (r : Register) (s : Spec) → r.armed ≡ None → Fits (activate r s.log s).answer (is_full r 13)
unfolding activate
activate_fits r s none = by_test (nat_le epoch_limit (epochs_of r s.log).epoch) _ _ (λ (d : Changed). Fits d.answer (is_full r 13)) tt (change_fits r (with_epochs r s.log (next_epoch (epochs_of r s.log) s)) 13 none)

close_fits : (r : Register) (l e : ℕ) (y : Summary) (short : Bool) → r.armed ≡ None → Fits (close r l e y short).answer (is_full r 30)
unfolding close
close_fits r l e y short none = by_test (not (lce_of r l + 1 == e)) _ _ (λ (d : Changed). Fits d.answer (is_full r 30)) tt
    (by_test (is_overtaken (epochs_of r l) y short) _ _ (λ (d : Changed). Fits d.answer (is_full r 30)) tt (change_fits r (with_epochs r l (closed_epochs (epochs_of r l) e y)) 30 none))

draw_fits : (r : Register) (n : ℕ) → r.armed ≡ None → Fits (draw r n).answer (is_full r 6)
unfolding draw
draw_fits r n none = by_test (nat_le generation_limit (generation_of r n)) _ _ (λ (d : Changed). Fits d.answer (is_full r 6)) tt (change_fits r _ 6 none)

swap_fits : (r : Register) (l upto old new : ℕ) → r.armed ≡ None → Fits (swap r l upto old new).answer (is_full r 11)
unfolding swap
swap_fits r l upto old new none = by_test (swappable r l upto old new == 0) _ _ (λ (d : Changed). Fits d.answer (is_full r 11)) tt
    (by_test (nat_le swap_limit (epochs_of r l).swaps) _ _ (λ (d : Changed). Fits d.answer (is_full r 11)) tt (change_fits r (with_epochs r l (swapped_epochs (epochs_of r l) upto old new)) 11 none))

pub activated_told : (r : Register) (s : Spec) → r.armed ≡ None → IsFree (activated r s) → ⊥
activated_told r s none = by_test (is_crowded r s.log) _ _ (λ (o : Result Grant RegisterFault). IsFree o → ⊥) (λ free. free)
    (ended_told (activate r s.log s).answer (is_full r 13) faults.EpochLimit (granted r s) (activate_fits r s none) (λ free. free))

pub closed_told : (r : Register) (l e : ℕ) (y : Summary) (short : Bool) → r.armed ≡ None → IsFree (closed r l e y short) → ⊥
closed_told r l e y short none = by_test (is_crowded r l) _ _ (λ (o : Result (Option Spec) RegisterFault). IsFree o → ⊥) (λ free. free)
    (close_ended_told (close r l e y short).answer (is_full r 30) (next_told r l) (next_told (after_close r l e y short) l) (close_fits r l e y short none))

pub drawn_told : (r : Register) (n : ℕ) → r.armed ≡ None → IsFree (drawn r n) → ⊥
drawn_told r n none = ended_told (draw r n).answer (is_full r 6) faults.GenLimit (handed r n) (draw_fits r n none) (λ free. free)

pub swapped_told : (r : Register) (l upto old new : ℕ) → r.armed ≡ None → IsFree (swapped r l upto old new) → ⊥
swapped_told r l upto old new none = ended_told (swap r l upto old new).answer (is_full r 11) faults.SwapLimit (swappable r l upto old new) (swap_fits r l upto old new none) (λ free. free)
