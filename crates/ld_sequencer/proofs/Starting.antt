-- A sequencer that begins.
use Rattle.std.proofs.Common.{◌≡◌, ℕ, ◌+◌, Bool, true, false, nat_lt, List, [], ◌++◌, Option, Some, None, if◌then◌else◌, refl, ap, sym, ◌∙◌}
use Rattle.ld_ids.specs.declared.set.Spec.{Spec}
use Rattle.ld_msg.specs.declared.msg.Msg.{Msg}
use Rattle.ld_msg.specs.declared.msg.Who.TheVariants as whos
use Rattle.ld_msg.specs.Digest.{no_digest}
use Rattle.ld_msg.specs.Network.{posted}
use Rattle.ld_msg.specs.Sequencer.{Recovery, activated, digest_asks}
use Rattle.ld_register.specs.declared.register.Grant.{Grant}
use Rattle.ld_recovery.specs.Recovering.{Recovering, started}
use Rattle.ld_sequencer.specs.declared.origin.Origin.{Origin}
use Rattle.ld_sequencer.specs.Looks.{shows}
use Rattle.ld_sequencer.specs.Own.{Own, new_own, sequencer_of}
use Rattle.ld_sequencer.specs.Whole.{joined, recovery_in, with_recovery, active, recovery_behind, asks_behind, first_asks, IsActive}

recovery_if : (b : Bool) (r : Recovering) → recovery_in (if b then Some r else None) ≡ (if b then Some r.recovery else None)
recovery_if true r = refl
recovery_if false r = refl

joined_new : (origin : Origin) (spec next : Spec) (epoch lce : ℕ) → joined (new_own origin spec epoch lce) (recovery_behind next epoch lce) ≡ active origin spec (shows next) epoch lce
unfolding activated
joined_new origin spec next epoch lce = ap (λ (v : Option Recovery). record { origin = origin; sequencer = with_recovery v (sequencer_of (new_own origin spec epoch lce)) }) (recovery_if (nat_lt (lce + 1) epoch) (started next (lce + 1) epoch))

asks_new : (origin : Origin) (spec next : Spec) (epoch lce : ℕ) → next.log ≡ spec.log → asks_behind next epoch lce ≡ first_asks (shows next) (active origin spec (shows next) epoch lce)
unfolding activated
asks_new origin spec next epoch lce e = ap (λ (l : ℕ). posted (whos.Sequencer epoch) l (if nat_lt (lce + 1) epoch then digest_asks (no_digest next (lce + 1)) else [])) e

pub started_active : (origin : Origin) (spec next : Spec) (grant : Grant) (o : Own) (m : Option Recovering) (e asks old new : List Msg) → next.log ≡ spec.log → o ≡ new_own origin spec grant.epoch grant.lce → m ≡ recovery_behind next grant.epoch grant.lce → e ≡ []
    → asks ≡ e ++ asks_behind next grant.epoch grant.lce → new ≡ old ++ asks → IsActive origin spec (shows next) grant (joined o m) old new
started_active origin spec next grant o m e asks old new l h k z a s =
    let v = ap (λ (x : Own). joined x m) h ∙ (ap (joined (new_own origin spec grant.epoch grant.lce)) k ∙ joined_new origin spec next grant.epoch grant.lce) in
    record {
      value = v;
      sent = s ∙ ap (λ (x : List Msg). old ++ x) (a ∙ (ap (λ (x : List Msg). x ++ asks_behind next grant.epoch grant.lce) z
          ∙ (asks_new origin spec next grant.epoch grant.lce l ∙ ap (first_asks (shows next)) (sym v))));
    }
