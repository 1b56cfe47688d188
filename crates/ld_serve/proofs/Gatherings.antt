-- A node that is opened and serves a crowd.
use Rattle.std.proofs.Common.{◌≡◌, ◌⊎◌, ℕ, List, [], Bool, Option, None, Some, Ok, Err, OnOk, inr}
use Rattle.std.specs.Prelude.{IfSome, IfErr, OnErr, MatchResult}
use Rattle.std.specs.declared.result.Result.{Result}
use Rattle.ld_msg.specs.Register.{Register as Contents}
use Rattle.ld_op.specs.Plain.{Plain}
use Rattle.ld_past.specs.Events.{Event}
use Rattle.ld_store.specs.Ops.{StandsFor, IfStands}
use Rattle.ld_node.specs.Known.{Known}
use Rattle.ld_serve.specs.declared.stop.Stop.{Stop}
use Rattle.ld_serve.specs.declared.stop.Stop.TheVariants.{NoMemory, Disk, Register, Link, BadFrame, Damaged, Blank, Full, GenLimit}
use Rattle.ld_serve.specs.declared.stop.Which.TheVariants as journals
use Rattle.ld_serve.specs.Opening.{IsOpening}
use Rattle.ld_serve.specs.Serving.{State, after, answers}
use Rattle.ld_serve.specs.Stops.{RegisterCounts}
use Rattle.ld_serve.specs.Whole.{at_first}
use Rattle.ld_serve.specs.Told.{Memory}
use Rattle.ld_serve.specs.Crowd.{IsCrowdStop, IsHeardAll, IsHeardUntil, IsServedAll, IsServedUntil}
use Rattle.ld_serve.specs.Many.{CrowdServedOn, CrowdStoppedOn, HasServedCrowd, HasStoppedCrowd}

module _ (left : List ℕ → Type 0) (holds holds_now : Contents → Type 0) (id : ℕ) (known : Known) (format : Bool) (did : List Event) (turns : ℕ) where
  crowd_served_on : (seen : Option (List ℕ)) (first : Plain) (last : State) (Was : Type 0) → IfSome seen (IfStands (IsOpening holds holds_now id format first)) → IfSome seen (IfStands (λ _. Was))
      → (Was → IsServedAll (after id known) (answers id known) did (at_first first) last turns) → (Was → (bytes : List ℕ) → left bytes → StandsFor last.plain bytes)
      → IfSome seen (IfStands (λ bytes. CrowdServedOn bytes left holds holds_now id known format did turns))
  crowd_served_on None first last Was opened was course stands = tt
  crowd_served_on (Some bytes) first last Was opened was course stands = λ p is. record { first = first; opened = opened p is; last = last; course = course (was p is); stands = stands (was p is) }

  crowd_stopped_on : (seen : Option (List ℕ)) (stop : Stop) (first : Plain) (last : State) (Was : Type 0) → IfSome seen (IfStands (IsOpening holds holds_now id format first)) → IfSome seen (IfStands (λ _. Was))
      → (Was → IsServedUntil id known left stop did (at_first first) last turns)
      → IfSome seen (IfStands (λ bytes. CrowdStoppedOn bytes left holds holds_now id known format did turns stop))
  crowd_stopped_on None stop first last Was opened was course = tt
  crowd_stopped_on (Some bytes) stop first last Was opened was course = λ p is. record { first = first; opened = opened p is; last = last; course = course (was p is) }

module _ (seen : Option (List ℕ)) (left : List ℕ → Type 0) (holds holds_now : Contents → Type 0) (id : ℕ) (known : Known) (format : Bool) (did : List Event) (turns : ℕ) where
  pub has_served_crowd : (r : Result Unit Stop) (first : Plain) (last : State) (memory : Memory) (Was : Type 0) → memory.released ≡ [] → IfSome seen (IfStands (IsOpening holds holds_now id format first)) → IfSome seen (IfStands (λ _. Was))
      → OnOk r (IsHeardAll id known memory did turns) → (Was → OnOk r (IsServedAll (after id known) (answers id known) did (at_first first) last turns))
      → (Was → OnOk r ((bytes : List ℕ) → left bytes → StandsFor last.plain bytes))
      → OnOk r (HasServedCrowd seen left holds holds_now id known format did turns)
  has_served_crowd (Ok x) first last memory Was nothing opened was heard course stands =
      record { first = memory; nothing = nothing; heard = heard; exact = crowd_served_on left holds holds_now id known format did turns seen first last Was opened was course stands }
  has_served_crowd (Err e) first last memory Was nothing opened was heard course stands = tt

  pub has_stopped_crowd : (r : Result Unit Stop) (first : Plain) (last : State) (memory : Memory) (Was : Type 0) (Other : Stop → Type 0) → memory.released ≡ [] → IfSome seen (IfStands (IsOpening holds holds_now id format first)) → IfSome seen (IfStands (λ _. Was))
      → OnErr r (IsHeardUntil id known memory did turns) → (Was → IfErr r (λ stop. IsServedUntil id known left stop did (at_first first) last turns))
      → IfErr r (λ stop. Other stop ⊎ HasStoppedCrowd seen left holds holds_now id known format did turns stop)
  has_stopped_crowd (Ok x) first last memory Was Other nothing opened was heard course = tt
  has_stopped_crowd (Err stop) first last memory Was Other nothing opened was heard course =
      inr (record { first = memory; nothing = nothing; heard = heard; exact = crowd_stopped_on left holds holds_now id known format did turns seen stop first last Was opened was course })

crowd_where : (Held Told : Type 0) → (Told → Held) → (stop : Stop) → IsCrowdStop Held stop → IsCrowdStop Told stop
crowd_where Held Told told NoMemory u = tt
crowd_where Held Told told Disk u = tt
crowd_where Held Told told Register u = absurd u
crowd_where Held Told told Link u = tt
crowd_where Held Told told (BadFrame fault) u = absurd u
crowd_where Held Told told (Damaged journals.Store place) u = λ t. u (told t)
crowd_where Held Told told (Damaged journals.Register place) u = absurd u
crowd_where Held Told told Blank u = absurd u
crowd_where Held Told told (Full journals.Store) u = tt
crowd_where Held Told told (Full journals.Register) u = absurd u
crowd_where Held Told told GenLimit u = absurd u

pub is_crowd_stop : (r : Result Unit Stop) (Other : Stop → Type 0) (Held Told : Type 0) → (Told → Held) → IfErr r (IsCrowdStop Held) → IfErr r (λ stop. Other stop ⊎ IsCrowdStop Told stop)
is_crowd_stop (Ok x) Other Held Told told s = tt
is_crowd_stop (Err stop) Other Held Told told s = inr (crowd_where Held Told told stop s)

crowd_register : (Held : Type 0) (stop : Stop) (before now : ℕ) → IsCrowdStop Held stop → now ≡ before → RegisterCounts before now stop
crowd_register Held NoMemory before now u e = e
crowd_register Held Disk before now u e = e
crowd_register Held Register before now u e = absurd u
crowd_register Held Link before now u e = e
crowd_register Held (BadFrame fault) before now u e = absurd u
crowd_register Held (Damaged which place) before now u e = e
crowd_register Held Blank before now u e = absurd u
crowd_register Held (Full which) before now u e = e
crowd_register Held GenLimit before now u e = absurd u

pub crowd_register_counts : (r : Result Unit Stop) (Held : Type 0) (before now : ℕ) → IfErr r (IsCrowdStop Held) → now ≡ before → MatchResult r (λ _. now ≡ before) (RegisterCounts before now)
crowd_register_counts (Ok x) Held before now s e = e
crowd_register_counts (Err stop) Held before now s e = crowd_register Held stop before now s e
