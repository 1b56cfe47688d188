-- From the confirming asks for a number to the step that calls it lost: who was lost at the asks.
use Rattle.std.proofs.Common.{◌≡◌, ◌∙◌, ℕ, inl, inr, refl, ap, sym, subst, true, List, [], ◌∷◌, ◌++◌, append_assoc, append-nil, Some, None, arith}
use Rattle.ld_table.specs.Table.{find}
use Rattle.ld_table.specs.Named.{find_named, put_named}
use Rattle.ld_lsn.specs.Number.{home_epoch}
use Rattle.ld_config.specs.declared.config.Config.{Config}
use Rattle.ld_msg.specs.Reading.{Held, lost_held, is_loss, is_lost_for, within}
use Rattle.ld_msg.specs.Reader.{Reader, polled, seen_nodes, shown_swaps}
use Rattle.ld_msg.specs.Register.{epochs_of}
use Rattle.ld_machine.specs.Config.{looks_at, set_at}
use Rattle.ld_machine.specs.Disk.{Node}
use Rattle.ld_machine.specs.State.{State, node_at}
use Rattle.ld_machine.specs.Facts.{Happened}
use Rattle.ld_machine.specs.World.{World, In, begin}
use Rattle.ld_machine.specs.Run.{Move, after_step, world_after}
use Rattle.ld_machine.specs.Losses.{EndsAsLoss}
use Rattle.ld_machine.specs.Step as Step
use Rattle.ld_safety.specs.Lost.{LostUnder, is_lost_at}
use Rattle.ld_safety.proofs.Lists.{Some_inj, not_none}
use Rattle.ld_safety.proofs.Names.{named_cases}
use Rattle.ld_safety.proofs.Members.{find_in}
use Rattle.ld_safety.proofs.Traces.{step_happened, trace, later}
use Rattle.ld_safety.proofs.Events.{NamesOnce, message_sent}
use Rattle.ld_safety.proofs.LostNodes.{LostIn}
use Rattle.ld_safety.proofs.LostReads.{read_on}
use Rattle.ld_safety.proofs.LostTalk.{TalkKeeps, talked, same_readers}
use Rattle.ld_safety.proofs.LostRounds.{answer_to}
use Rattle.ld_safety.proofs.LostAlong.{Asked, asked_kept}
use Rattle.ld_safety.proofs.LostSince.{Since, SinceConfirming, since_step}
use Rattle.ld_safety.proofs.LostBegins.{NewHere, lost_in, came, new_set, new_equal, since_new}
use Rattle.ld_safety.proofs.LostSpoken.{CutOld, Spoken, Answering, answering_kept, lost_plain}
use Rattle.ld_safety.proofs.LostLines.{among_lost, confirmed_lost}
use Rattle.ld_machine.specs.Calm as Calm

-- ---- words ----
pub lost_under : (x : Node) (l e g : ℕ) → LostIn x l e g → LostUnder x l e g
lost_under x l e g h = (h.plain, h.held, h.generation, h.lost)

pub lost_in_state : (x : Node) (l e g : ℕ) → LostUnder x l e g → LostIn x l e g
lost_in_state x l e g h = record { plain = h.0; held = h.1; generation = h.2; lost = h.3 }

-- ---- a reader keeps its name and its number ----
pub record Named (ds : List (List ℕ × Reader)) (name : List ℕ) (n l : ℕ) : Type 0 where
  pub reader : Reader
  pub there : find_named name ds ≡ Some reader
  pub number : reader.number ≡ n
  pub log : reader.log ≡ l

module _ (c : Config) (s : State) (e : Move) (name : List ℕ) (n l : ℕ) (h : Named s.readers name n l) where
  named_put : (t : List ℕ) (d x : Reader) → find_named t s.readers ≡ Some d → x.number ≡ d.number → x.log ≡ d.log → Named (put_named t x s.readers) name n l
  named_put t d x f p q = elim (named_cases name t x s.readers) [
    | inl a ↦ (let z : d ≡ h.reader = Some_inj (sym f ∙ subst (λ k. find_named k s.readers ≡ Some h.reader) a.0 h.there) in record { reader = x; there = a.1; number = p ∙ (ap (λ (y : Reader). y.number) z ∙ h.number); log = q ∙ (ap (λ (y : Reader). y.log) z ∙ h.log) })
    | inr a ↦ record { reader = h.reader; there = a.1 ∙ h.there; number = h.number; log = h.log }
  ]

  named_new : (t : List ℕ) (x : Reader) → find_named t s.readers ≡ None → Named (put_named t x s.readers) name n l
  named_new t x f = elim (named_cases name t x s.readers) [
    | inl a ↦ absurd (not_none (sym f ∙ subst (λ k. find_named k s.readers ≡ Some h.reader) a.0 h.there))
    | inr a ↦ record { reader = h.reader; there = a.1 ∙ h.there; number = h.number; log = h.log }
  ]

  named_talk : TalkKeeps c s e (λ ms ds. Named ds name n l)
  named_talk = record {
    quiet = h;
    elsewhere = λ ms k. h;
    answers = λ k m x i t v q. h;
    reads = λ t d m i q v. let G = read_on (looks_at c s.register d.log) d (Step.sender_node m.from) m.body v.open_still in named_put t d _ v.named G.number G.log;
    polls = λ t d v. named_put t d (polled (looks_at c s.register d.log) d) v.named refl refl;
    opens = λ style t k from until o. named_new t _ o.fresh_name;
  }

named_step : (c : Config) (w : World) (e : Move) → NamesOnce w.state → (name : List ℕ) (n l : ℕ) → Named w.state.readers name n l → Named (after_step c w e).state.readers name n l
named_step c w e N name n l h = subst (λ ds. Named ds name n l) (sym (same_readers (Calm.moves c w.state e))) (talked c w.state e (λ ms ds. Named ds name n l) (named_talk c w.state e name n l h) N).talk

-- ---- from the asks on ----
pub record Onward (c : Config) (then w : World) (hs : List Happened) (name : List ℕ) (r l s round : ℕ) (asked : List (ℕ × ℕ)) : Type 0 where
  pub known : Asked c hs w
  pub since : Since then r l s round asked w
  pub named : Named w.state.readers name r l

pub onward : (c : Config) (then w : World) (hs : List Happened) (name : List ℕ) (r l s round : ℕ) (asked : List (ℕ × ℕ)) (es : List Move) → Onward c then w hs name r l s round asked → Onward c then (world_after c w es) (hs ++ trace c w es) name r l s round asked
unfolding world_after
onward c then w hs name r l s round asked [] h = subst (λ k. Onward c then w k name r l s round asked) (sym (append-nil hs)) h
onward c then w hs name r l s round asked (e ∷ es) h = subst (λ k. Onward c then (world_after c (after_step c w e) es) k name r l s round asked) (append_assoc hs (step_happened c w.state e ∷ []) (trace c (after_step c w e) es))
    (onward c then (after_step c w e) (hs ++ step_happened c w.state e ∷ []) name r l s round asked es (record {
      known = (asked_kept c).goes_on hs w e h.known;
      since = since_step then r l s round asked c w e h.known.0.1.1 h.known.1.1 h.since h.known.0.0.0;
      named = named_step c w e h.known.0.0.0 name r l h.named;
    }))

-- ---- what was so at the asks ----
pub record AtAsks (c : Config) (then : World) (name : List ℕ) (l s : ℕ) : Type 0 where
  pub reader : Reader
  pub there : find_named name then.state.readers ≡ Some reader
  pub log : reader.log ≡ l
  pub next : reader.next ≡ s
  pub equal : shown_swaps reader.seen ≡ (epochs_of then.state.register l).swaps
  pub loss : is_loss s (set_at c then.state.register l (home_epoch s)) reader.held ≡ true
  pub lost : (y : ℕ) (h : Held) → In y (set_at c then.state.register l (home_epoch s)) → find y reader.held ≡ Some h → is_lost_for s h.body ≡ true → is_lost_at l (home_epoch s) (node_at then.state y) ≡ true

module _ (c : Config) (name : List ℕ) (l s round : ℕ) (before : List Move) (asks : Move) (between : List Move) (gives : Move) (E : EndsAsLoss c name l s round before asks between gives) where
  abbrev first : World
  first = world_after c (begin c) before

  abbrev then : World
  then = after_step c (world_after c (begin c) before) asks

  abbrev last : World
  last = world_after c (after_step c (world_after c (begin c) before) asks) between

  known_first : Asked c (trace c (begin c) before) (world_after c (begin c) before)
  known_first = later c (Asked c) (asked_kept c) [] (begin c) before (asked_kept c).begins

  known_then : Asked c (trace c (begin c) before ++ step_happened c (world_after c (begin c) before).state asks ∷ []) (after_step c (world_after c (begin c) before) asks)
  known_then = (asked_kept c).goes_on (trace c (begin c) before) (world_after c (begin c) before) asks known_first

  -- the confirmation begins in the step of the asks
  begins_there : NewHere c (world_after c (begin c) before).state (Calm.moves c (world_after c (begin c) before).state asks).sends name E.asked.reader E.asked.confirmation
  begins_there = elim (came c (world_after c (begin c) before) asks known_first.0.0.0 name E.asked.reader E.asked.confirmation E.asked.there E.asked.lasts) [
    | inl o ↦ absurd (let q : o.reader ≡ E.not_yet.reader = Some_inj (sym o.named ∙ E.not_yet.there) in let a = known_first.1.1.confirming name o.reader o.before o.named o.was in let b = o.round in let z = E.asked.here in let u = ap (λ (y : Reader). y.round) q in let v = E.not_yet.lower in omega arith)
    | inr n ↦ n
  ]

  abbrev x : Reader
  x = E.asked.reader

  start_onward : Onward c (after_step c (world_after c (begin c) before) asks) (after_step c (world_after c (begin c) before) asks) (trace c (begin c) before ++ step_happened c (world_after c (begin c) before).state asks ∷ []) name E.asked.reader.number E.asked.reader.log E.asked.reader.next E.asked.confirmation.round E.asked.confirmation.asked
  start_onward = record {
    known = known_then;
    since = since_new c (world_after c (begin c) before) asks known_first.0.0.0 known_first.0.1.1 known_first.1.1 known_then.0.1.1 known_then.1.1 name E.asked.reader E.asked.confirmation E.asked.there E.asked.lasts begins_there;
    named = record { reader = E.asked.reader; there = E.asked.there; number = refl; log = refl };
  }

  spoken_then : Spoken (after_step c (world_after c (begin c) before) asks)
  spoken_then = ((answering_kept c).goes_on (trace c (begin c) before) (world_after c (begin c) before) asks (later c (Answering c) (answering_kept c) [] (begin c) before (answering_kept c).begins)).1

  -- a node that is asked once more said under that generation that it is lost
  asked_old : (y g : ℕ) → find y E.asked.confirmation.asked ≡ Some g → CutOld (node_at (after_step c (world_after c (begin c) before) asks).state y) g
  asked_old y g q = let o = lost_in x.next y g (seen_nodes begins_there.view) x.held (find_in y _ g (subst (λ (k : List (ℕ × ℕ)). find y k ≡ Some g) begins_there.asked q)) in
      subst (λ z. CutOld (node_at (after_step c (world_after c (begin c) before) asks).state z) g) o.node
      (spoken_then (answer_to o.answer.0 x o.answer.1.body) (known_then.1.1.held name x o.answer E.asked.there o.there) x.number o.number o.round g o.end refl o.is)

  -- over the nodes of the number's epoch
  epoch_set : seen_nodes begins_there.view ≡ set_at c (after_step c (world_after c (begin c) before) asks).state.register x.log (home_epoch x.next)
  epoch_set = (new_set c (world_after c (begin c) before) asks known_first.0.0.0 known_first.0.1.1 known_first.1.1 known_then.0.1.1 known_then.1.1 name x E.asked.confirmation E.asked.there E.asked.lasts begins_there known_first.0.1.0 known_first.1.0.1).2

  pub at_asks : AtAsks c (after_step c (world_after c (begin c) before) asks) name l s
  at_asks =
      let r = (after_step c (world_after c (begin c) before) asks).state.register in
      let v = E.asked.confirmation in
      let n = begins_there in
      let o = onward c _ _ _ name x.number x.log x.next v.round v.asked between start_onward in
      let d = E.still.reader in
      let u = E.still.confirmation in
      let q : o.named.reader ≡ d = Some_inj (sym o.named.there ∙ E.still.there) in
      let number : d.number ≡ x.number = ap (λ (y : Reader). y.number) (sym q) ∙ o.named.number in
      let log : d.log ≡ x.log = ap (λ (y : Reader). y.log) (sym q) ∙ o.named.log in
      let round : u.round ≡ v.round = E.still.here ∙ sym E.asked.here in
      let C : SinceConfirming _ x.number x.log x.next v.round v.asked d u = (o.since.talk.readers name d E.still.there number).confirming u E.still.lasts round in
      let S : Since _ d.number d.log d.next u.round u.asked _ = subst (λ y. Since _ d.number d.log d.next u.round y _) (sym C.same) (subst (λ y. Since _ d.number d.log d.next y v.asked _) (sym round) (subst (λ y. Since _ d.number d.log y v.round v.asked _) (sym C.next)
      (subst (λ y. Since _ d.number y x.next v.round v.asked _) (sym log) (subst (λ y. Since _ y x.log x.next v.round v.asked _) (sym number) o.since)))) in
      let g = E.completes in
      let lg : x.log ≡ l = sym log ∙ E.of_log in
      record {
        reader = x;
        there = E.asked.there;
        log = lg;
        next = E.asked.next;
        equal = new_equal c (world_after c (begin c) before) asks known_first.0.0.0 known_first.0.1.1 known_first.1.1 known_then.0.1.1 known_then.1.1 name x v E.asked.there E.asked.lasts n ∙ ap (λ j. (epochs_of r j).swaps) lg;
        loss = subst (λ y. is_loss s (set_at c r y (home_epoch s)) x.held ≡ true) lg (subst (λ y. is_loss y (set_at c r x.log (home_epoch y)) x.held ≡ true) E.asked.next (subst (λ (y : List ℕ). is_loss x.next y x.held ≡ true) epoch_set n.loss));
        lost = λ y h m f z.
            let k = among_lost s y h (set_at c r x.log (home_epoch s)) x.held (subst (λ j. In y (set_at c r j (home_epoch s))) (sym lg) m) (find_in y x.held h f) z in
            let j : In {X = ℕ × ℕ} (y, k.generation) (lost_held x.next (within (set_at c r x.log (home_epoch x.next)) x.held)) = subst (λ j. In {X = ℕ × ℕ} (y, k.generation) (lost_held j (within (set_at c r x.log (home_epoch j)) x.held))) (sym E.asked.next) k.there in
            let i : In {X = ℕ × ℕ} (y, k.generation) v.asked = subst (λ (m : List (ℕ × ℕ)). In {X = ℕ × ℕ} (y, k.generation) m) (sym n.asked) (subst (λ (u : List ℕ). In {X = ℕ × ℕ} (y, k.generation) (lost_held x.next (within u x.held))) (sym epoch_set) j) in
            let t = confirmed_lost c _ _ gives o.known.0.1.1 o.known.1.1 name d u S E.still.there E.still.lasts g.answer (message_sent last.state g.index g.answer g.there) g.for_reader g.complete y k.generation (subst (λ (m : List (ℕ × ℕ)). In {X = ℕ × ℕ} (y, k.generation) m) (sym C.same) i) in
            let p : Node = node_at (after_step c (world_after c (begin c) before) asks).state y in
            lost_plain p l (home_epoch s) t.generation (asked_old y t.generation (subst (λ (m : List (ℕ × ℕ)). find y m ≡ Some t.generation) C.same t.held))
            (subst (λ j. LostIn p l (home_epoch j) t.generation) (C.next ∙ E.asked.next) (subst (λ j. LostIn p j (home_epoch d.next) t.generation) E.of_log t.lost));
      }
