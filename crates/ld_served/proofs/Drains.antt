-- Each delivery while a reader is in a round: it goes on to another number, or is in its last round, or is in a round still.
use Rattle.std.proofs.Common.{◌≡◌, ◌∙◌, ◌⊎◌, ◌≤◌, ◌<◌, ◌==◌, ℕ, inl, inr, refl, ap, sym, subst, Bool, true, false, if◌then◌else◌, nat_lt, List, [], ◌∷◌, Some}
use Rattle.std.proofs.lemmas.Bool.{eq-eqb}
use Rattle.ld_table.specs.Named.{same, find_named}
use Rattle.ld_config.specs.declared.config.Config.{Config}
use Rattle.ld_schedule.specs.declared.event.Event.TheVariants as events
use Rattle.ld_msg.specs.declared.msg.Who.TheVariants as whos
use Rattle.ld_msg.specs.declared.msg.Msg.{Msg}
use Rattle.ld_msg.specs.Network.{message, oldest_new}
use Rattle.ld_msg.specs.Reading.{Held, is_lost_for}
use Rattle.ld_msg.specs.Reader.{Reader, last_round, is_finished, on_answer}
use Rattle.ld_machine.specs.Config.{all_nodes, looks_at}
use Rattle.ld_machine.specs.State.{State, Done, finish, reader_of}
use Rattle.ld_machine.specs.World.{In}
use Rattle.ld_machine.specs.Step as Step
use Rattle.ld_machine.specs.Calm.{Takes, moved}
use Rattle.ld_safety.proofs.Lists.{Some_inj, not_none, not_both}
use Rattle.ld_safety.proofs.Names.{reader_found, found as found_named}
use Rattle.ld_served.proofs.Stepping.{delivered}
use Rattle.ld_served.proofs.Kept.{Good}
use Rattle.ld_served.proofs.Readers.{ReadersHere}
use Rattle.ld_served.proofs.Round.{WasLost}
use Rattle.ld_served.proofs.Asked.{oldest_under_way}
use Rattle.ld_served.proofs.Polls.{here}
use Rattle.ld_served.proofs.InRound.{ask_of, answer_of, InRound}
use Rattle.ld_served.proofs.AskComes.{ask_comes, same_readers}
use Rattle.ld_served.proofs.AnswerComes.{answer_comes}

-- a reader that is there has its number
number_there : (name : List ℕ) (d : Reader) (ds : List (List ℕ × Reader)) → find_named name ds ≡ Some d → (p : List ℕ × Reader) × (reader_of d.number ds ≡ Some p)
unfolding find_named
number_there name d [] f = absurd (not_none f)
number_there name d (p ∷ ds) f = by_number (p.1.number == d.number) refl (same name p.0) (number_there name d ds) f where
  by_number : (b : Bool) → (p.1.number == d.number) ≡ b → (t : Bool) → (find_named name ds ≡ Some d → (q : List ℕ × Reader) × (reader_of d.number ds ≡ Some q)) → (if t then Some p.1 else find_named name ds) ≡ Some d → (q : List ℕ × Reader) × ((if b then Some p else reader_of d.number ds) ≡ Some q)
  by_number true e t ih g = (p, refl)
  by_number false e true ih g = absurd (let z : (p.1.number == d.number) ≡ true = eq-eqb p.1.number d.number (ap (λ (x : Reader). x.number) (Some_inj g)) in let u : true ≡ false = sym z ∙ e in cc)
  by_number false e false ih g = ih g

-- past the number, or at it still, in the last round or in a round
abbrev pub Onward : Config → Reader → State → Reader → Type 0
Onward c d t e = (d.next < e.next) ⊎ ((e.next ≡ d.next) × ((nat_lt e.round last_round ≡ false) ⊎ InRound c t e))

module _ (c : Config) (s : State) (A : Good c s) (H : ReadersHere c s) (name : List ℕ) (d : Reader) (found : find_named name s.readers ≡ Some d) (R : InRound c s d)
    (was_lost : (h : ℕ × Held) → In h d.held → In h.0 (all_nodes c) → is_lost_for d.next h.1.body ≡ true → WasLost s d.log h.0 d.next) (i : ℕ) where
  abbrev Result : State → Type 0
  Result t = (e : Reader) → find_named name t.readers ≡ Some e → Onward c d t e

  -- the reader of the number is this one
  the_one : (p : List ℕ) (x : Reader) → find_named p s.readers ≡ Some x → x.number ≡ d.number → (p ≡ name) × (x ≡ d)
  the_one p x f n = let q = H.apart.once p name x d f found n in (q, Some_inj (sym f ∙ (ap (λ k. find_named k s.readers) q ∙ found)))

  module _ (k : Msg) (is : message s.network i ≡ Some k) where
    by_ask : (y round : ℕ) → In y (all_nodes c) → R.low ≤ round → round ≤ d.round → k ≡ ask_of d R.senders R.mid y round → Result (moved c s (Takes (events.Deliver i))).state
    by_ask y round m l h q e f =
        let z : d ≡ e = Some_inj (sym found ∙ (ap (find_named name) (sym (same_readers c s A H name d found R i k is y round m l h q)) ∙ f)) in
        subst (λ (x : Reader). Onward c d (moved c s (Takes (events.Deliver i))).state x) z (inr (refl, inr (ask_comes c s A H name d found R i k is y round m l h q)))

    module _ (y round : ℕ) (member : In y (all_nodes c)) (low : R.low ≤ round) (high : round ≤ d.round) (q : k ≡ answer_of s d R.senders R.mid y round) where
      to_it : (m : Msg) → message s.network i ≡ Some m → m ≡ answer_of s d R.senders R.mid y round
      to_it m f = Some_inj (sym f ∙ is) ∙ q

      read_on : Result (finish (Step.read (Step.marked s i) name (on_answer (looks_at c s.register d.log) d y (answer_of s d R.senders R.mid y round).body))).state
      unfolding finish
      read_on e f = subst (λ (x : Reader). Onward c d (finish (Step.read (Step.marked s i) name (on_answer (looks_at c s.register d.log) d y (answer_of s d R.senders R.mid y round).body))).state x)
          (Some_inj (sym (here name (on_answer (looks_at c s.register d.log) d y (answer_of s d R.senders R.mid y round).body).reader s.readers) ∙ f))
          (answer_comes c s A H name d found R was_lost i k is y round member low high q)

      by_answer : Result (moved c s (Takes (events.Deliver i))).state
      by_answer = delivered c s i (λ (z : Done). Result (finish z).state) H.names (record {
        unheard = λ h. (let p = number_there name d s.readers found in let o = reader_found d.number s.readers p.0 p.1 in let z = the_one p.0.0 p.0.1 (found_named s.readers p.0 H.names.1 o.there) o.number in
            absurd (not_both (is_finished d) (subst (λ (x : Reader). is_finished x ≡ true) z.1 ((h k is).reader d.number (ap (λ (x : Msg). x.to) q) p.0 p.1)) R.unfinished));
        none = λ h. absurd (not_none (sym h ∙ is));
        to_node = λ n m f t v. absurd (let z : whos.Reader d.number ≡ whos.Node n = ap (λ (x : Msg). x.to) (sym (to_it m f)) ∙ t in cc);
        to_sequencer = λ p x m f t l v. absurd (let z : whos.Reader d.number ≡ whos.Sequencer x.epoch = ap (λ (x : Msg). x.to) (sym (to_it m f)) ∙ t in cc);
        to_reader = λ p x m f t v. (
            let w : whos.Reader d.number ≡ whos.Reader x.number = ap (λ (x : Msg). x.to) (sym (to_it m f)) ∙ t in let n : x.number ≡ d.number = cc in
            let z = the_one p x v.named n in
            subst (λ (u : List ℕ). Result (finish (Step.read (Step.marked s i) u (on_answer (looks_at c s.register x.log) x (Step.sender_node m.from) m.body))).state) (sym z.0)
            (subst (λ (u : Reader). Result (finish (Step.read (Step.marked s i) name (on_answer (looks_at c s.register u.log) u (Step.sender_node m.from) m.body))).state) (sym z.1)
            (subst (λ (u : Msg). Result (finish (Step.read (Step.marked s i) name (on_answer (looks_at c s.register d.log) d (Step.sender_node u.from) u.body))).state) (sym (to_it m f)) read_on)));
      })

  pub delivery_on : oldest_new s.network ≡ Some i → Result (moved c s (Takes (events.Deliver i))).state
  delivery_on o = let z = oldest_under_way s.network i H.places o in let M = R.only z.0 z.2 in elim M.is [
    | inl q ↦ by_ask z.0 z.1 M.node M.round M.member M.from M.upto q
    | inr q ↦ by_answer z.0 z.1 M.node M.round M.member M.from M.upto q
  ]
