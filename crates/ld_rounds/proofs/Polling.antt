-- Whether a reader polls before a round.
use Rattle.std.proofs.Common.{◌≡◌, ◌∙◌, ℕ, Bool, true, false, ◌&&◌, List, [], ◌∷◌, refl, ap, sym, if◌then◌else◌}
use Rattle.std.specs.List.{AllByRecursion}
use Rattle.ld_table.specs.Words.{any_of}
use Rattle.ld_ids.specs.Id.{IsNode}
use Rattle.ld_config.specs.declared.config.Config.{Config}
use Rattle.ld_config.specs.Bounds.{IsInBounds}
use Rattle.ld_schedule.specs.declared.event.Event.{Event}
use Rattle.ld_schedule.specs.declared.event.Event.TheVariants as events
use Rattle.ld_msg.specs.declared.msg.Msg.{Msg}
use Rattle.ld_machine.specs.State.{State}
use Rattle.ld_bounds.proofs.Configs.{node_is}
use Rattle.ld_dial.specs.Far.{Far}
use Rattle.ld_rounds.specs.Queued.{queue_of, waits}
use Rattle.ld_rounds.specs.News.{some_wait}
use Rattle.ld_rounds.specs.Rounds.{polls}
use Rattle.ld_rounds.specs.Drives.{AreOfConfig, Holds}
use Rattle.ld_rounds.proofs.News.{some_queued}

-- nodes of a configuration are nodes
are_nodes : (c : Config) → IsInBounds c → (ys : List ℕ) → AreOfConfig c ys → AllByRecursion IsNode ys
are_nodes c b [] h = tt
are_nodes c b (y ∷ ys) h = (node_is c b y h.0, are_nodes c b ys h.1)

-- a message waits in the state just where one waits in the queues
pub waits_so : (A : Config → State → Type 0) (c : Config) (b : IsInBounds c) (first : ℕ) (s : State) (far : Far) (qs : List (List Msg)) (ys : List ℕ) (x y : Bool) → AreOfConfig c ys → Holds A c first s far qs → x ≡ any_of (λ n. waits (queue_of qs n)) ys → x ≡ y → some_wait first s.network ys ≡ y
waits_so A c b first s far qs ys x y of h e f = some_queued first s.network qs far.answers ys h.news (are_nodes c b ys of) ∙ (sym e ∙ f)

both : (a b : Bool) → a ≡ true → b ≡ true → (a && b) ≡ true
both true true p q = refl
both true false p q = absurd cc
both false b p q = absurd cc

right : (a b : Bool) → b ≡ false → (a && b) ≡ false
right true b q = q
right false b q = refl

left : (a b : Bool) → a ≡ false → (a && b) ≡ false
left true b p = absurd cc
left false b p = refl

abbrev polled : List ℕ → Bool → List Event
polled name b = if b then [] else events.Poll name ∷ []

pub polls_not : (sparing : Bool) (name : List ℕ) (first : ℕ) (ys : List ℕ) (s : State) → sparing ≡ true → some_wait first s.network ys ≡ true → [] ≡ polls sparing name first ys s
polls_not sparing name first ys s p q = sym (ap (polled name) (both sparing (some_wait first s.network ys) p q))

pub polls_alone : (sparing : Bool) (name : List ℕ) (first : ℕ) (ys : List ℕ) (s : State) → some_wait first s.network ys ≡ false → events.Poll name ∷ [] ≡ polls sparing name first ys s
polls_alone sparing name first ys s q = sym (ap (polled name) (right sparing (some_wait first s.network ys) q))

pub polls_always : (sparing : Bool) (name : List ℕ) (first : ℕ) (ys : List ℕ) (s : State) → sparing ≡ false → events.Poll name ∷ [] ≡ polls sparing name first ys s
polls_always sparing name first ys s p = sym (ap (polled name) (left sparing (some_wait first s.network ys) p))
