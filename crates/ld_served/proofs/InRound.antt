-- A reader in a round: all that is under way is of its asks since its last poll, each node that it asks is asked, answers, or was heard; and where nothing is under way any more, all were heard.
use Rattle.std.proofs.Common.{◌≡◌, ◌∙◌, ◌⊎◌, ◌≤◌, ◌<◌, ℕ, ◌+◌, inl, inr, refl, ap, Bool, true, false, nat_lt, if◌then◌else◌, List, Some, arith}
use Rattle.std.proofs.lemmas.Bool.{cases_lt, lt-ltb, ltb-true}
use Rattle.ld_table.specs.Table.{find}
use Rattle.ld_ids.specs.Choice.{nodes_of}
use Rattle.ld_config.specs.declared.config.Config.{Config}
use Rattle.ld_msg.specs.declared.msg.Msg.{Msg}
use Rattle.ld_msg.specs.Choice.{sender}
use Rattle.ld_msg.specs.Reading.{Held, NotYet}
use Rattle.ld_msg.specs.Reader.{Reader, Senders, is_finished, verdict}
use Rattle.ld_machine.specs.Config.{all_nodes}
use Rattle.ld_machine.specs.State.{State}
use Rattle.ld_machine.specs.World.{In}
use Rattle.ld_safety.proofs.Members.{find_in}
use Rattle.ld_served.proofs.UnderWay.{UnderWay}
use Rattle.ld_served.proofs.Round.{whole_now, one_now, view_now, HoldsWhole, HoldsOne, Holds, in_full, in_part, WasLost, Sure, by_all, by_sender, by_lost, AllHeard}
use Rattle.ld_served.proofs.Asked.{answer_at, ask_message, answer_message}

-- the nodes that it asks
abbrev pub set_now : Config → State → Reader → List ℕ
set_now c s d = nodes_of (view_now c s d).spec

abbrev pub ask_of : Reader → Senders → ℕ → ℕ → ℕ → Msg
ask_of d o mid y round = ask_message d.log d.number o mid d.next y round

abbrev pub answer_of : State → Reader → Senders → ℕ → ℕ → ℕ → Msg
answer_of s d o mid y round = answer_message s d.log d.number o mid d.next y round

-- the node is asked in a round from one on, or it answers, or was heard
pub data Goes (s : State) (d : Reader) (o : Senders) (mid low y : ℕ) : Type 0 where
  is_asked : (round : ℕ) → low ≤ round → UnderWay s.network (ask_of d o mid y round) → Goes s d o mid low y
  answers : (round : ℕ) → low ≤ round → UnderWay s.network (answer_of s d o mid y round) → Goes s d o mid low y
  is_held : (h : Held) → find y d.held ≡ Some h → low ≤ h.round → Goes s d o mid low y

-- an ask of such a round, or its answer
pub record Mine (c : Config) (s : State) (d : Reader) (o : Senders) (low mid : ℕ) (m : Msg) : Type 0 where
  pub node : ℕ
  pub round : ℕ
  pub member : In node (all_nodes c)
  pub from : low ≤ round
  pub upto : round ≤ d.round
  pub is : (m ≡ ask_of d o mid node round) ⊎ (m ≡ answer_of s d o mid node round)

-- why some payload comes: each node sends all; or it is a round in which one node sends each, with no other one; or one that was lost sends all
pub data Surely (c : Config) (s : State) (d : Reader) (o : Senders) (low mid : ℕ) : Type 0 where
  all_send : ((y : ℕ) → In y (set_now c s d) → Goes s d o mid mid y) → Surely c s d o low mid
  one_sends : d.senders ≡ Some o → o.set ≡ (view_now c s d).spec.set → (w : ℕ) → sender o.set o.excluded d.next ≡ Some w → mid ≡ d.round + 1 → low ≡ d.round → Surely c s d o low mid
  lost_sends : (y : ℕ) → In y (set_now c s d) → Goes s d o mid mid y → WasLost s d.log y d.next → Surely c s d o low mid

-- its rounds from one on are since its last poll; those below another one are rounds in which one node sends each payload
pub record InRound (c : Config) (s : State) (d : Reader) : Type 0 where
  pub low : ℕ
  pub mid : ℕ
  pub senders : Senders
  pub unfinished : is_finished d ≡ false
  pub seen : d.seen ≡ Some (view_now c s d)
  pub lower : low ≤ mid
  pub upper : mid ≤ d.round + 1
  pub begun : low ≤ d.round
  pub least : d.least ≤ low
  pub only : (m : Msg) → UnderWay s.network m → Mine c s d senders low mid m
  pub held : (h : ℕ × Held) → In h d.held → low ≤ h.1.round → (h.1.body ≡ answer_at s d.log senders mid d.next h.0 h.1.round) × (h.1.round ≤ d.round)
  pub each : (y : ℕ) → In y (set_now c s d) → Goes s d senders mid low y
  pub sure : Surely c s d senders low mid
  pub not_yet : (y : ℕ) → In y (set_now c s d) → ((m : Msg) → UnderWay s.network m → ⊥) → verdict d ≡ NotYet

-- ---- where nothing is under way ----
module _ (c : Config) (s : State) (d : Reader) (R : InRound c s d) (none : (m : Msg) → UnderWay s.network m → ⊥) where
  record Was (low y : ℕ) : Type 0 where
    held : Held
    found : find y d.held ≡ Some held
    from : low ≤ held.round

  was : (low y : ℕ) → Goes s d R.senders R.mid low y → Was low y
  was low y (is_asked round h u) = absurd (none _ u)
  was low y (answers round h u) = absurd (none _ u)
  was low y (is_held h f k) = record { held = h; found = f; from = k }

  whole : (y : ℕ) → Goes s d R.senders R.mid R.mid y → HoldsWhole s d y
  whole y g = let w = was R.mid y g in let f = w.from in let l = R.lower in record {
    held = w.held;
    found = w.found;
    is = (R.held (y, w.held) (find_in y d.held w.held w.found) (omega arith)).0
        ∙ ap (λ (b : Bool). if b then one_now s d.log y w.held.round d.next R.senders else whole_now s d.log y w.held.round d.next) (above w.held.round R.mid f);
  } where
    above : (a b : ℕ) → b ≤ a → nat_lt a b ≡ false
    above a b h = by_test (nat_lt a b) refl where
      by_test : (t : Bool) → nat_lt a b ≡ t → t ≡ false
      by_test true e = absurd (let z = ltb-true a b e in omega arith)
      by_test false e = refl

  one : (y : ℕ) → (w : Was R.low y) → w.held.round < R.mid → (h : HoldsOne s d y R.senders) × (h.held.round ≡ w.held.round)
  one y w b = (
    record {
      held = w.held;
      found = w.found;
      is = (R.held (y, w.held) (find_in y d.held w.held w.found) w.from).0
          ∙ ap (λ (t : Bool). if t then one_now s d.log y w.held.round d.next R.senders else whole_now s d.log y w.held.round d.next) (lt-ltb w.held.round R.mid b);
    },
    refl,
  )

  holds : (y : ℕ) → In y (set_now c s d) → Holds s d y
  holds y i = let w = was R.low y (R.each y i) in elim (cases_lt w.held.round R.mid) [
    | inl b ↦ in_part R.senders (one y w b).0
    | inr b ↦ in_full (whole y (is_held w.held w.found b))
  ]

  surely : Surely c s d R.senders R.low R.mid → Sure c s d
  surely (all_send g) = by_all (λ y i. whole y (g y i))
  surely (one_sends e z w f m l) = by_sender R.senders e z w f (λ y i. (let k = was R.low y (R.each y i) in let r : k.held.round ≤ d.round = (R.held (y, k.held) (find_in y d.held k.held k.found) k.from).1 in let u = k.from in
      let x = one y k (omega arith) in (x.0, x.1 ∙ (let v : k.held.round ≡ d.round = omega arith in v))))
  surely (lost_sends y i g w) = by_lost y i (whole y g) w

  pub all_heard : AllHeard c s d
  all_heard = record { each = holds; sure = surely R.sure }
