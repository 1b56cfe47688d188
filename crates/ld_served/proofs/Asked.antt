-- What a reader asks in a round and what nodes answer to it; and what is under way after a step was so before, or is sent by it.
use Rattle.std.proofs.Common.{◌≡◌, ◌∙◌, ◌⊎◌, ℕ, inl, inr, refl, ap, sym, subst, Bool, true, false, not, ◌&&◌, ◌==◌, nat_lt, nat_le, if◌then◌else◌, List, [], ◌∷◌, Some}
use Rattle.std.specs.Option.{unwrap_or}
use Rattle.ld_table.specs.Words.{first}
use Rattle.ld_table.proofs.Laws.{put_cases}
use Rattle.ld_lsn.specs.Number.{home_epoch}
use Rattle.ld_config.specs.declared.config.Config.{Config}
use Rattle.ld_schedule.specs.declared.event.Event.TheVariants as events
use Rattle.ld_msg.specs.declared.msg.Who.TheVariants as whos
use Rattle.ld_msg.specs.declared.msg.Msg.{Msg}
use Rattle.ld_msg.specs.declared.msg.Body.{Body}
use Rattle.ld_msg.specs.declared.msg.Body.TheVariants as bodies
use Rattle.ld_msg.specs.Network.{Network, send, send_all, message, mark, oldest_new}
use Rattle.ld_msg.specs.Reading.{is_lost_for}
use Rattle.ld_msg.specs.Reader.{Senders, round_of}
use Rattle.ld_op.specs.Plain.{Log, log_of, is_lost}
use Rattle.ld_op.specs.Answers.{read_answer, one_answer, withheld_in}
use Rattle.ld_machine.specs.Config.{all_nodes, has_log}
use Rattle.ld_machine.specs.Disk.{Node, is_up, new_node}
use Rattle.ld_machine.specs.State.{State, Done, finish, node_at, with_node}
use Rattle.ld_machine.specs.World.{In}
use Rattle.ld_machine.specs.Step as Step
use Rattle.ld_machine.specs.Calm.{Takes, moves, moved}
use Rattle.ld_safety.proofs.Lists.{Some_inj, not_none, In-append}
use Rattle.ld_safety.proofs.Members.{In_filter}
use Rattle.ld_safety.proofs.Events.{NamesOnce}
use Rattle.ld_safety.proofs.NodeSteps.{read_answered}
use Rattle.ld_calm.proofs.Weights.{InPlace, mark_in_place, there}
use Rattle.ld_served.proofs.Stepping.{delivered}
use Rattle.ld_served.proofs.UnderWay.{UnderWay, message_stays, message_new, send_in_place, delivered_network}
use Rattle.ld_served.proofs.Round.{whole_now, one_now}
use Rattle.ld_served.proofs.Kept.{Good}

-- ---- what is under way ----

-- the oldest new message is under way
pub oldest_under_way : (w : Network) (i : ℕ) → InPlace w → oldest_new w ≡ Some i → (m : Msg) × (message w i ≡ Some m) × UnderWay w m
oldest_under_way w i P e = let j = first_in w.fresh e in let z = there w i P j in (z.0, z.1, (i, j, z.1)) where
  first_in : (is : List ℕ) → first is ≡ Some i → In i is
  first_in [] h = absurd (not_none h)
  first_in (j ∷ is) h = inl (sym (Some_inj h))

pub marked_was : (w : Network) (i : ℕ) (m : Msg) → UnderWay (mark w i) m → UnderWay w m
unfolding message
marked_was w i m u = (u.0, (In_filter (λ j. not (i == j)) u.0 w.fresh u.1).0, u.2)

-- it was so before, or is sent
pub sent_only : (w : Network) (ms : List Msg) (m : Msg) → InPlace w → UnderWay (send_all w ms) m → UnderWay w m ⊎ In m ms
sent_only w [] m P u = inl u
sent_only w (x ∷ ms) m P u = elim (sent_only (send w x) ms m (send_in_place w x P) u) [
  | inl v ↦ elim (In-append v.0 w.fresh (w.count ∷ []) v.1) [
    | inl a ↦ inl (v.0, a, sym (message_stays w x v.0 (P.fresh v.0 a)) ∙ v.2)
    | inr (inl e) ↦ inr (inl (sym (Some_inj (sym (message_new w x) ∙ (ap (λ i. message (send w x) i) (sym e) ∙ v.2)))))
    | inr (inr a) ↦ absurd a
  ]
  | inr j ↦ inr (inr j)
]

pub delivery_only : (c : Config) (s : State) → NamesOnce s → InPlace s.network → (i : ℕ) (k m : Msg) → message s.network i ≡ Some k → UnderWay (moved c s (Takes (events.Deliver i))).state.network m → UnderWay s.network m ⊎ In m (moves c s (Takes (events.Deliver i))).sends
unfolding finish
delivery_only c s N P i k m e u = let d : Done = moves c s (Takes (events.Deliver i)) in
    elim (sent_only (mark s.network i) d.sends m (mark_in_place s.network i P) (subst (λ w. UnderWay (send_all w d.sends) m) (delivered_network c s N P i k e) u)) [ inl v ↦ inl (marked_was s.network i m v) | inr j ↦ inr j ]

-- ---- an ask and its answer ----

-- of a round below one, one node sends each payload; from there on, all nodes do
abbrev pub ask_at : Senders → ℕ → ℕ → ℕ → Body
ask_at o mid n round = if nat_lt round mid then bodies.ReadOne round n o.set o.excluded else bodies.ReadAsk round n

abbrev pub answer_at : State → ℕ → Senders → ℕ → ℕ → ℕ → ℕ → Body
answer_at s l o mid n y round = if nat_lt round mid then one_now s l y round n o else whole_now s l y round n

abbrev pub ask_message : ℕ → ℕ → Senders → ℕ → ℕ → ℕ → ℕ → Msg
ask_message l number o mid n y round = record { from = whos.Reader number; to = whos.Node y; log = l; body = ask_at o mid n round }

abbrev pub answer_message : State → ℕ → ℕ → Senders → ℕ → ℕ → ℕ → ℕ → Msg
answer_message s l number o mid n y round = record { from = whos.Node y; to = whos.Reader number; log = l; body = answer_at s l o mid n y round }

-- an answer's round is that of the ask, and a node that isn't lost doesn't say that it is
record Plainly (wave next : ℕ) (lost : Bool) (b : Body) : Type 0 where
  round : round_of b ≡ wave
  sound : lost ≡ false → is_lost_for next b ≡ false

whole_plainly : (generation : ℕ) (g : Log) (released round n : ℕ) → Plainly round n (is_lost g (home_epoch n)) (read_answer generation g released round n)
whole_plainly generation g released round n = read_answered generation g released round n (Plainly round n (is_lost g (home_epoch n))) (record {
  trimmed = λ h. record { round = refl; sound = λ z. refl };
  ended = λ y a h k. record { round = refl; sound = λ z. refl };
  lost_clean = λ y a h k t. record { round = refl; sound = λ z. absurd (let x : true ≡ false = sym t ∙ z in cc) };
  lost = λ a h t. record { round = refl; sound = λ z. absurd (let x : true ≡ false = sym t ∙ z in cc) };
  clean = λ y a h k t. record { round = refl; sound = λ z. refl };
  open_page = λ a h t u. record { round = refl; sound = λ z. refl };
  waits = λ a. record { round = refl; sound = λ z. refl };
})

one_plainly : (round next : ℕ) (lost : Bool) (n : ℕ) (set excluded : List Bool) (b : Body) → Plainly round next lost b → Plainly round next lost (withheld_in n set excluded b)
one_plainly round next lost n set excluded (bodies.ReadPage u f upto clean es) h = record { round = h.round; sound = λ z. refl }
one_plainly round next lost n set excluded _ h = h

at_plainly : (s : State) (l : ℕ) (o : Senders) (mid n y round : ℕ) → Plainly round n (is_lost (log_of (node_at s y).plain l) (home_epoch n)) (answer_at s l o mid n y round)
unfolding one_answer
at_plainly s l o mid n y round = by_round (nat_lt round mid) where
  whole : Plainly round n (is_lost (log_of (node_at s y).plain l) (home_epoch n)) (whole_now s l y round n)
  whole = whole_plainly (node_at s y).plain.generation (log_of (node_at s y).plain l) (Step.released_at (node_at s y) l) round n

  by_round : (b : Bool) → Plainly round n (is_lost (log_of (node_at s y).plain l) (home_epoch n)) (if b then one_now s l y round n o else whole_now s l y round n)
  by_round true = one_plainly round n (is_lost (log_of (node_at s y).plain l) (home_epoch n)) y o.set o.excluded (whole_now s l y round n) whole
  by_round false = whole

pub answer_round : (s : State) (l : ℕ) (o : Senders) (mid n y round : ℕ) → round_of (answer_at s l o mid n y round) ≡ round
answer_round s l o mid n y round = (at_plainly s l o mid n y round).round

pub answer_sound : (s : State) (l : ℕ) (o : Senders) (mid n y round : ℕ) → (log_of (node_at s y).plain l).lost ≡ false → is_lost_for n (answer_at s l o mid n y round) ≡ false
answer_sound s l o mid n y round h = (at_plainly s l o mid n y round).sound (ap (λ b. b && (nat_lt 0 (home_epoch n) && nat_le (home_epoch n) (log_of (node_at s y).plain l).lost_to)) h)

-- nodes that are as they were answer as before
pub same_answer : (s t : State) (l : ℕ) (o : Senders) (mid n y round : ℕ) → node_at t y ≡ node_at s y → answer_at t l o mid n y round ≡ answer_at s l o mid n y round
same_answer s t l o mid n y round e = ap (λ (x : Node). if nat_lt round mid then one_answer y x.plain.generation (log_of x.plain l) (Step.released_at x l) round n o.set o.excluded else read_answer x.plain.generation (log_of x.plain l) (Step.released_at x l) round n) e

-- ---- a delivery of an ask ----

-- the node answers, and nothing else changes
pub record Answered (s : State) (answer : Msg) (d : Done) : Type 0 where
  pub sends : d.sends ≡ answer ∷ []
  pub nodes : (y : ℕ) → node_at d.state y ≡ node_at s y
  pub register : d.state.register ≡ s.register
  pub sequencers : d.state.sequencers ≡ s.sequencers
  pub readers : d.state.readers ≡ s.readers

same_nodes : (s : State) (n y : ℕ) → node_at (with_node s n (node_at s n)) y ≡ node_at s y
same_nodes s n y = elim (put_cases y n (node_at s n) s.nodes) [
  | inl a ↦ ap (λ o. unwrap_or o new_node) a.1 ∙ ap (node_at s) (sym a.0)
  | inr a ↦ ap (λ o. unwrap_or o new_node) a.1
]

module _ (c : Config) (s : State) (A : Good c s) (i : ℕ) (l number : ℕ) (o : Senders) (mid n y round : ℕ) (member : In y (all_nodes c)) (log : has_log c l ≡ true) (found : message s.network i ≡ Some (ask_message l number o mid n y round)) where
  abbrev ask : Msg
  ask = ask_message l number o mid n y round

  abbrev answer : Msg
  answer = answer_message s l number o mid n y round

  here : Answered s answer (Step.to_up_node (Step.marked s i) y ask)
  here = by_round (nat_lt round mid) where
    by_round : (b : Bool) → Answered s (record { from = whos.Node y; to = whos.Reader number; log = l; body = if b then one_now s l y round n o else whole_now s l y round n })
        (Step.to_up_node (Step.marked s i) y (record { from = whos.Reader number; to = whos.Node y; log = l; body = if b then bodies.ReadOne round n o.set o.excluded else bodies.ReadAsk round n }))
    by_round true = record { sends = refl; nodes = λ x. same_nodes s y x; register = refl; sequencers = refl; readers = refl }
    by_round false = record { sends = refl; nodes = λ x. same_nodes s y x; register = refl; sequencers = refl; readers = refl }

  is_ask : (m : Msg) → message s.network i ≡ Some m → m ≡ ask
  is_ask m e = Some_inj (sym e ∙ found)

  pub ask_answered : Answered s answer (moves c s (Takes (events.Deliver i)))
  ask_answered = delivered c s i (Answered s answer) A.of_run.known.lined.0.0.0.0.0 (record {
    unheard = λ h. absurd (let z = (h ask found).node y refl in let w : (is_up (node_at s y).status && has_log c l) ≡ true = (λ j. (A.healthy.nodes y member).up j && log j) in let v : true ≡ false = sym w ∙ z in cc);
    none = λ h. absurd (not_none (sym h ∙ found));
    to_node = λ k m e t v. (let q : m ≡ ask = is_ask m e in let z : whos.Node k ≡ whos.Node y = sym t ∙ ap (λ (x : Msg). x.to) q in let u : k ≡ y = cc in
        subst (λ (x : ℕ). Answered s answer (Step.to_up_node (Step.marked s i) x m)) (sym u) (subst (λ (x : Msg). Answered s answer (Step.to_up_node (Step.marked s i) y x)) (sym q) here));
    to_sequencer = λ name q m e t g v. absurd (let z : whos.Node y ≡ whos.Sequencer q.epoch = ap (λ (x : Msg). x.to) (sym (is_ask m e)) ∙ t in cc);
    to_reader = λ name d m e t v. absurd (let z : whos.Node y ≡ whos.Reader d.number = ap (λ (x : Msg). x.to) (sym (is_ask m e)) ∙ t in cc);
  })
