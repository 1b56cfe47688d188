-- A node that is opened and serves.
use Rattle.std.proofs.Common.{◌≡◌, ◌⊎◌, ℕ, List, Bool, Option, None, Some, Ok, Err, OnOk, inr}
use Rattle.std.specs.Prelude.{IfSome, IfErr, MatchResult}
use Rattle.std.specs.declared.result.Result.{Result}
use Rattle.ld_msg.specs.Register.{Register as Contents}
use Rattle.ld_op.specs.Plain.{Plain}
use Rattle.ld_store.specs.Ops.{StandsFor, IfStands}
use Rattle.ld_link.specs.Peers.{Peers}
use Rattle.ld_node.specs.Known.{Known}
use Rattle.ld_serve.specs.declared.stop.Stop.{Stop}
use Rattle.ld_serve.specs.Course.{IsServed, IsStopped}
use Rattle.ld_serve.specs.Stops.{IsServingStop, RegisterCounts}
use Rattle.ld_serve.specs.Heard.{Heard, HeardUntil}
use Rattle.ld_serve.specs.Opening.{Stands, IsOpening}
use Rattle.ld_serve.specs.Serving.{State, after, answers, IsCut}
use Rattle.ld_serve.specs.Whole.{at_first, ServedOn, StoppedOn, HasServed, HasStopped}
use Rattle.ld_serve.proofs.Stops.{serving_register, serving_where}

pub held_where : (o : Option (List ℕ)) (X : Type 0) → IfSome o (IfStands (λ _. X)) → Stands o → X
held_where None X h s = absurd s
held_where (Some bytes) X h s = h s.0 s.1

module _ (left : List ℕ → Type 0) (holds holds_now : Contents → Type 0) (id : ℕ) (known : Known) (format : Bool) where
  pub served_on : (seen : Option (List ℕ)) (start : Peers) (now : Option Peers) (turns : ℕ) (first : Plain) (last : State) (Was : Type 0) → IfSome seen (IfStands (IsOpening holds holds_now id format first)) → IfSome seen (IfStands (λ _. Was))
      → (Was → IsServed (after id known) (answers id known) start (at_first first) now last turns) → (Was → (bytes : List ℕ) → left bytes → StandsFor last.plain bytes)
      → IfSome seen (IfStands (λ bytes. ServedOn bytes left holds holds_now id known format start now turns))
  served_on None start now turns first last Was opened was course stands = tt
  served_on (Some bytes) start now turns first last Was opened was course stands = λ p is. record { first = first; opened = opened p is; last = last; course = course (was p is); stands = stands (was p is) }

  pub stopped_on : (seen : Option (List ℕ)) (start : Peers) (now : Option Peers) (stop : Stop) (first : Plain) (Was : Type 0) (At : State → Type 0) → IfSome seen (IfStands (IsOpening holds holds_now id format first)) → IfSome seen (IfStands (λ _. Was))
      → (Was → (last : State) × At last × IsStopped (after id known) (answers id known) (IsCut id known left stop) start (at_first first) now last)
      → IfSome seen (IfStands (λ bytes. StoppedOn bytes left holds holds_now id known format start now stop))
  stopped_on None start now stop first Was At opened was course = tt
  stopped_on (Some bytes) start now stop first Was At opened was course = λ p is. record { first = first; opened = opened p is; last = (course (was p is)).0; course = (course (was p is)).2 }

module _ (seen : Option (List ℕ)) (left : List ℕ → Type 0) (holds holds_now : Contents → Type 0) (id : ℕ) (known : Known) (format : Bool) where
  pub has_served : (r : Result Unit Stop) (start : Peers) (now : Option Peers) (turns : ℕ) (first : Plain) (last : State) (Was : Type 0) → IfSome seen (IfStands (IsOpening holds holds_now id format first)) → IfSome seen (IfStands (λ _. Was))
      → OnOk r (Heard start now turns) → (Was → OnOk r (IsServed (after id known) (answers id known) start (at_first first) now last turns))
      → (Was → OnOk r ((bytes : List ℕ) → left bytes → StandsFor last.plain bytes))
      → OnOk r (HasServed seen left holds holds_now id known format start now turns)
  has_served (Ok x) start now turns first last Was opened was heard course stands =
      record { heard = heard; exact = served_on left holds holds_now id known format seen start now turns first last Was opened was course stands }
  has_served (Err e) start now turns first last Was opened was heard course stands = tt

  pub has_stopped : (r : Result Unit Stop) (start : Peers) (now : Option Peers) (first : Plain) (Was : Type 0) (At : State → Stop → Type 0) (Other : Stop → Type 0) → IfSome seen (IfStands (IsOpening holds holds_now id format first)) → IfSome seen (IfStands (λ _. Was))
      → IfErr r (HeardUntil start now) → (Was → IfErr r (λ stop. (last : State) × At last stop × IsStopped (after id known) (answers id known) (IsCut id known left stop) start (at_first first) now last))
      → IfErr r (λ stop. Other stop ⊎ HasStopped seen left holds holds_now id known format start now stop)
  has_stopped (Ok x) start now first Was At Other opened was heard course = tt
  has_stopped (Err stop) start now first Was At Other opened was heard course =
      inr (record { heard = heard; exact = stopped_on left holds holds_now id known format seen start now stop first Was (λ last. At last stop) opened was course })

pub is_serving : (r : Result Unit Stop) (Other : Stop → Type 0) (Held Told : Type 0) → (Told → Held) → IfErr r (IsServingStop Held) → IfErr r (λ stop. Other stop ⊎ IsServingStop Told stop)
is_serving (Ok x) Other Held Told told s = tt
is_serving (Err stop) Other Held Told told s = inr (serving_where Held Told told stop s)

pub register_counts : (r : Result Unit Stop) (Held : Type 0) (before now : ℕ) → IfErr r (IsServingStop Held) → now ≡ before → MatchResult r (λ _. now ≡ before) (RegisterCounts before now)
register_counts (Ok x) Held before now s e = e
register_counts (Err stop) Held before now s e = serving_register Held stop before now s e

pub stands_then : (r : Result Unit Stop) (Now : Type 0) (left P : List ℕ → Type 0) → OnOk r Now → (Now → (bytes : List ℕ) → left bytes → P bytes) → OnOk r ((bytes : List ℕ) → left bytes → P bytes)
stands_then (Ok x) Now left P now stand = stand now
stands_then (Err e) Now left P now stand = tt
