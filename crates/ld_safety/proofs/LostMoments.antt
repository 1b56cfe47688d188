-- Each line that calls a number lost after a confirmation had a moment: the end of the step that sent the confirming asks. Each node of the number's epoch was lost then, or the reader held a clean page of it that lacks the number.
use Rattle.std.proofs.Common.{◌≡◌, ◌∙◌, ◌⊎◌, ◌≤◌, ◌<◌, ℕ, ◌+◌, inl, inr, refl, ap, sym, subst, true, List, [], ◌∷◌, ◌++◌, length, Option, Some, None, append_assoc, append-nil, length-append, arith}
use Rattle.std.proofs.lemmas.Bool.{and_parts, or_cases}
use Rattle.ld_table.specs.Table.{find}
use Rattle.ld_table.specs.Named.{find_named}
use Rattle.ld_table.specs.Words.{any_of}
use Rattle.ld_lsn.specs.Number.{home_epoch}
use Rattle.ld_config.specs.declared.config.Config.{Config}
use Rattle.ld_schedule.specs.declared.event.Event.{Event}
use Rattle.ld_transcript.specs.declared.line.Line.TheVariants as lines
use Rattle.ld_transcript.specs.declared.line.GapKind.TheVariants as gaps
use Rattle.ld_msg.specs.Reading.{Held, is_loss, leaves_open, lacks, is_lost_for, lost_held, knows_end_above, within}
use Rattle.ld_msg.specs.Reader.{Reader, Confirmation, heard, is_confirmed, shown_swaps}
use Rattle.ld_msg.specs.declared.msg.Msg.{Msg}
use Rattle.ld_msg.specs.declared.msg.Who.TheVariants as whos
use Rattle.ld_msg.specs.declared.msg.Body.{Body}
use Rattle.ld_msg.specs.Register.{generation_of, epochs_of}
use Rattle.ld_machine.specs.Config.{set_at}
use Rattle.ld_machine.specs.State.{node_at}
use Rattle.ld_machine.specs.Facts.{Happened, Writes}
use Rattle.ld_machine.specs.World.{World, In, Sent, begin}
use Rattle.ld_machine.specs.Run.{after_step, history}
use Rattle.ld_machine.specs.Step as Step
use Rattle.ld_safety.proofs.Lists.{not_none, all_in}
use Rattle.ld_safety.proofs.Members.{find_in}
use Rattle.ld_safety.proofs.Traces.{Keeps, step_happened, both_kept, beside_kept, at_step}
use Rattle.ld_safety.proofs.GivenItems.{line_at}
use Rattle.ld_safety.proofs.Registers.{Reached}
use Rattle.ld_safety.proofs.LostNodes.{LostIn}
use Rattle.ld_safety.proofs.LostReads.{heard_lasts}
use Rattle.ld_safety.proofs.LostRounds.{AtMost, answer_to}
use Rattle.ld_safety.proofs.LostAlong.{Asked, asked_kept}
use Rattle.ld_safety.proofs.LostSince.{Since, since_step}
use Rattle.ld_safety.proofs.LostBegins.{StillThere, NewHere, lost_in, came, new_set, new_equal, since_new}
use Rattle.ld_safety.proofs.LostLines.{LossGiven, ToldLost, losses_given, among_lost, confirmed_lost}
use Rattle.ld_machine.specs.Calm as Calm
use Rattle.ld_machine.specs.Calm.{Move}

-- Q is whatever else is known of each state of the run
module _ (c : Config) (Q : List Happened → World → Type 0) where
  abbrev pub Known : List Happened → World → Type 0
  Known hs w = Asked c hs w × Q hs w

  -- the step that sent the asks of a round of a reader, and what was held then
  pub record Began (hs : List Happened) (w : World) (r l s round : ℕ) (asked : List (ℕ × ℕ)) : Type 0 where
    pub before : List Happened
    pub after : List Happened
    pub split : hs ≡ before ++ after
    pub step : ℕ
    pub place : length before ≡ step + 1
    pub then : World
    pub holds : Known before then
    pub since : Since then r l s round asked w
    pub name : List ℕ
    pub reader : Reader
    pub named : find_named name then.state.readers ≡ Some reader
    pub number : reader.number ≡ r
    pub log : reader.log ≡ l
    pub next : reader.next ≡ s
    pub reached : Reached then.state.register l (home_epoch s)
    pub equal : shown_swaps reader.seen ≡ (epochs_of then.state.register l).swaps
    pub asked_held : asked ≡ lost_held s (within (set_at c then.state.register l (home_epoch s)) reader.held)
    pub loss : is_loss s (set_at c then.state.register l (home_epoch s)) reader.held ≡ true

  abbrev pub AllBegan : List Happened → World → Type 0
  AllBegan hs w = (t : List ℕ) (d : Reader) (v : Confirmation) → find_named t w.state.readers ≡ Some d → d.confirming ≡ Some v → Began hs w d.number d.log d.next v.round v.asked

  began_as : (hs : List Happened) (w : World) (d x : Reader) (u v : Confirmation) → x.number ≡ d.number → x.log ≡ d.log → x.next ≡ d.next → v.round ≡ u.round → v.asked ≡ u.asked
      → Began hs w d.number d.log d.next u.round u.asked → Began hs w x.number x.log x.next v.round v.asked
  began_as hs w d x u v a b g h k z = subst (λ y. Began hs w x.number x.log x.next v.round y) (sym k) (subst (λ y. Began hs w x.number x.log x.next y u.asked) (sym h) (subst (λ y. Began hs w x.number x.log y u.round u.asked) (sym g)
      (subst (λ y. Began hs w x.number y d.next u.round u.asked) (sym b) (subst (λ y. Began hs w y d.log d.next u.round u.asked) (sym a) z))))

  module _ (hs : List Happened) (w : World) (e : Move) (K : Known hs w) (L : Known (hs ++ step_happened c w.state e ∷ []) (after_step c w e)) (B : AllBegan hs w) where
    still_began : (t : List ℕ) (x : Reader) (v : Confirmation) → StillThere c w.state t x v → Began (hs ++ step_happened c w.state e ∷ []) (after_step c w e) x.number x.log x.next v.round v.asked
    still_began t x v o = let b = B t o.reader o.before o.named o.was in began_as _ _ o.reader x o.before v o.number o.log o.next o.round o.asked (record {
      before = b.before;
      after = b.after ++ step_happened c w.state e ∷ [];
      split = ap (λ y. y ++ step_happened c w.state e ∷ []) b.split ∙ append_assoc b.before b.after (step_happened c w.state e ∷ []);
      step = b.step;
      place = b.place;
      then = b.then;
      holds = b.holds;
      since = since_step b.then o.reader.number o.reader.log o.reader.next o.before.round o.before.asked c w e K.0.0.1.1 K.0.1.1 b.since K.0.0.0.0;
      name = b.name;
      reader = b.reader;
      named = b.named;
      number = b.number;
      log = b.log;
      next = b.next;
      reached = b.reached;
      equal = b.equal;
      asked_held = b.asked_held;
      loss = b.loss;
    })

    new_began : (t : List ℕ) (x : Reader) (v : Confirmation) → find_named t (after_step c w e).state.readers ≡ Some x → x.confirming ≡ Some v → NewHere c w.state (Calm.moves c w.state e).sends t x v → Began (hs ++ step_happened c w.state e ∷ []) (after_step c w e) x.number x.log x.next v.round v.asked
    new_began t x v f h n = let z = new_set c w e K.0.0.0.0 K.0.0.1.1 K.0.1.1 L.0.0.1.1 L.0.1.1 t x v f h n K.0.0.1.0 K.0.1.0.1 in record {
      before = hs ++ step_happened c w.state e ∷ [];
      after = [];
      split = sym (append-nil (hs ++ step_happened c w.state e ∷ []));
      step = length hs;
      place = length-append hs (step_happened c w.state e ∷ []);
      then = after_step c w e;
      holds = L;
      since = since_new c w e K.0.0.0.0 K.0.0.1.1 K.0.1.1 L.0.0.1.1 L.0.1.1 t x v f h n;
      name = t;
      reader = x;
      named = f;
      number = refl;
      log = refl;
      next = refl;
      reached = (z.0, z.1);
      equal = new_equal c w e K.0.0.0.0 K.0.0.1.1 K.0.1.1 L.0.0.1.1 L.0.1.1 t x v f h n;
      asked_held = subst (λ (k : List ℕ). v.asked ≡ lost_held x.next (within k x.held)) z.2 n.asked;
      loss = subst (λ (k : List ℕ). is_loss x.next k x.held ≡ true) z.2 n.loss;
    }

    began_step : AllBegan (hs ++ step_happened c w.state e ∷ []) (after_step c w e)
    began_step t x v f h = elim (came c w e K.0.0.0.0 t x v f h) [ inl o ↦ still_began t x v o | inr n ↦ new_began t x v f h n ]

  start_began : AllBegan [] (begin c)
  unfolding find_named
  start_began t d v f h = absurd (not_none f)

  abbrev pub Moments : List Happened → World → Type 0
  Moments hs w = Known hs w × AllBegan hs w

  pub moments_kept : Keeps c Q → Keeps c Moments
  moments_kept K = beside_kept c Known AllBegan (both_kept c (Asked c) Q (asked_kept c) K) start_began (λ hs w e a b g. began_step hs w e a b g)

  -- the nodes that are asked once more said that they are lost, under a generation that was drawn
  pub confirmed_drawn : (hs : List Happened) (w : World) → Moments hs w → (t : List ℕ) (d : Reader) (v : Confirmation) (y g : ℕ) → find_named t w.state.readers ≡ Some d → d.confirming ≡ Some v → In {X = ℕ × ℕ} (y, g) v.asked → g ≤ generation_of w.state.register y
  confirmed_drawn hs w M t d v y g f h i =
      let b = M.1 t d v f h in
      let R = b.holds.0.1.1 in
      let o = lost_in d.next y g (set_at c b.then.state.register d.log (home_epoch d.next)) b.reader.held (subst (λ (k : List (ℕ × ℕ)). In {X = ℕ × ℕ} (y, g) k) b.asked_held i) in
      let then_drawn : g ≤ generation_of b.then.state.register y = subst (λ z. g ≤ generation_of b.then.state.register z) o.node
      (R.generations (answer_to o.answer.0 b.reader o.answer.1.body) b.reader.number o.number o.round g o.end (R.held b.name b.reader o.answer b.named o.there) refl o.is) in
      let later = b.since.back.generations y in
      omega (arith, then_drawn, later)

  -- ---- a number that is called lost ----

  -- the moment of a loss: what was held, and who was lost
  pub record LossMoment (hs : List Happened) (k s : ℕ) (d : Reader) : Type 0 where
    pub before : List Happened
    pub after : List Happened
    pub split : hs ≡ before ++ after
    pub step : ℕ
    pub place : length before ≡ step + 1
    pub earlier : step < k
    pub then : World
    pub holds : Known before then
    pub name : List ℕ
    pub reader : Reader
    pub named : find_named name then.state.readers ≡ Some reader
    pub log : reader.log ≡ d.log
    pub next : reader.next ≡ s
    pub reached : Reached then.state.register d.log (home_epoch s)
    pub equal : shown_swaps reader.seen ≡ (epochs_of then.state.register d.log).swaps
    pub loss : is_loss s (set_at c then.state.register d.log (home_epoch s)) reader.held ≡ true
    pub sent : (h : ℕ × Held) → In h reader.held → Sent then (answer_to h.0 reader h.1.body) × AtMost h.1.body reader
    pub lost : (y : ℕ) (h : Held) → In y (set_at c then.state.register d.log (home_epoch s)) → find y reader.held ≡ Some h → is_lost_for s h.body ≡ true → (g : ℕ) × LostIn (node_at then.state y) d.log (home_epoch s) g

  confirmation_of : (d : Reader) (y : ℕ) (b : Body) (o : Option Confirmation) → (heard d y b).confirming ≡ o → is_confirmed o ≡ true → (u : Confirmation) × (d.confirming ≡ Some u)
  confirmation_of d y b None q h = absurd cc
  confirmation_of d y b (Some v) q h = let o = heard_lasts d y b v q in (o.before, o.was)

  module _ (hs : List Happened) (w : World) (e : Move) (M : Moments hs w) (name : List ℕ) (low high : ℕ) (g : LossGiven w.state e name low high) (by : is_confirmed (heard g.reader (Step.sender_node g.message.from) g.message.body).confirming ≡ true) where
    moment_of : LossMoment hs (length hs) g.reader.next g.reader
    moment_of =
        let u = confirmation_of g.reader (Step.sender_node g.message.from) g.message.body _ refl by in
        let b = M.1 name g.reader u.0 g.named u.1 in
        record {
          before = b.before;
          after = b.after;
          split = b.split;
          step = b.step;
          place = b.place;
          earlier = let x = ap (λ (y : List Happened). length y) b.split ∙ length-append b.before b.after in let z = b.place in omega arith;
          then = b.then;
          holds = b.holds;
          name = b.name;
          reader = b.reader;
          named = b.named;
          log = b.log;
          next = b.next;
          reached = b.reached;
          equal = b.equal;
          loss = b.loss;
          sent = λ h i. (b.holds.0.1.1.held b.name b.reader h b.named i, b.holds.0.1.1.waves (answer_to h.0 b.reader h.1.body) b.reader.number b.name b.reader (b.holds.0.1.1.held b.name b.reader h b.named i) (inl refl) b.named refl);
          lost = λ y h m f l. let z = among_lost g.reader.next y h (set_at c b.then.state.register g.reader.log (home_epoch g.reader.next)) b.reader.held m (find_in y b.reader.held h f) l in
              let t = confirmed_lost c b.then w e M.0.0.0.1.1 M.0.0.1.1 name g.reader u.0 b.since g.named u.1 g.message g.sent g.to by y z.generation (subst (λ (k : List (ℕ × ℕ)). In {X = ℕ × ℕ} (y, z.generation) k) (sym b.asked_held) z.there) in
              (t.generation, t.lost);
        }

  -- a line of a run that calls a number lost
  pub record LossLine (hs : List Happened) (k : ℕ) (name : List ℕ) (low high : ℕ) : Type 0 where
    pub before : List Happened
    pub after : List Happened
    pub split : hs ≡ before ++ after
    pub place : length before ≡ k
    pub world : World
    pub holds : Moments before world
    pub reader : Reader
    pub named : find_named name world.state.readers ≡ Some reader
    pub message : Msg
    pub sent : Sent world message
    pub to : message.to ≡ whos.Reader reader.number
    pub how : ((low ≡ high) × LossMoment before k low reader) ⊎ ToldLost (heard reader (Step.sender_node message.from) message.body) low high

  pub loss_line : Keeps c Q → (es : List Event) (k : ℕ) (name : List ℕ) (low high : ℕ) → Writes (history c es) k (lines.Gap name gaps.DataLoss low high) → LossLine (history c es) k name low high
  loss_line K es k name low high x =
      let a = line_at c Moments es k _ (at_step c Moments (moments_kept K) es) (λ h. cc) x in
      let g = losses_given c a.world.state a.move a.holds.0.0.0.0.0 name low high a.there in
      record {
        before = a.before;
        after = a.after;
        split = a.split;
        place = a.place;
        world = a.world;
        holds = a.holds;
        reader = g.reader;
        named = g.named;
        message = g.message;
        sent = g.sent;
        to = g.to;
        how = elim g.how [
          | inl z ↦ inl (z.first ∙ sym z.last, subst (λ y. LossMoment a.before k y g.reader) (sym z.first) (subst (λ y. LossMoment a.before y g.reader.next g.reader) a.place (moment_of a.before a.world a.move a.holds name low high g z.confirmed)))
          | inr z ↦ inr z
        ];
      }

-- each node of the set lacks the number in a clean page, or is lost for it
pub record OpenAt (s y : ℕ) (hs : List (ℕ × Held)) : Type 0 where
  pub answer : Held
  pub held : find y hs ≡ Some answer
  pub how : (lacks s answer.body ≡ true) ⊎ (is_lost_for s answer.body ≡ true)

pub open_at : (s y : ℕ) (set : List ℕ) (hs : List (ℕ × Held)) → is_loss s set hs ≡ true → In y set → OpenAt s y hs
unfolding is_loss
open_at s y set hs l i = by_held (find y hs) refl (all_in (λ z. leaves_open s (find z hs)) y set (and_parts _ _ (and_parts _ (any_of (λ h. knows_end_above s h.1.body) (within set hs)) l).0).0 i) where
  by_held : (o : Option Held) → find y hs ≡ o → leaves_open s o ≡ true → OpenAt s y hs
  by_held None e h = absurd cc
  by_held (Some a) e h = record { answer = a; held = e; how = or_cases (lacks s a.body) (is_lost_for s a.body) h }
