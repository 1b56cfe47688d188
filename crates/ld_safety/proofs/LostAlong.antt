-- Along a run: names and logs of readers, drawn generations, what readers saw of epochs, and rounds.
use Rattle.std.proofs.Common.{◌≡◌, ◌⊎◌, ◌≤◌, ℕ, inl, inr, refl, sym, subst, List, [], Some, arith}
use Rattle.ld_table.specs.Named.{find_named}
use Rattle.ld_config.specs.declared.config.Config.{Config}
use Rattle.ld_msg.specs.declared.msg.Msg.{Msg}
use Rattle.ld_msg.specs.declared.msg.Who.{Who}
use Rattle.ld_msg.specs.declared.msg.Who.TheVariants as whos
use Rattle.ld_msg.specs.declared.msg.Body.{Body}
use Rattle.ld_msg.specs.Reading.{Held}
use Rattle.ld_msg.specs.Reader.{Reader, Confirmation, polled, on_answer, poll_asks}
use Rattle.ld_msg.specs.Register.{Register, View}
use Rattle.ld_machine.specs.Config.{looks_at}
use Rattle.ld_op.specs.Plain.{log_of}
use Rattle.ld_machine.specs.State.{State, node_at}
use Rattle.ld_machine.specs.Facts.{Happened}
use Rattle.ld_machine.specs.World.{World, In, Sent, begin}
use Rattle.ld_machine.specs.Run.{after_step}
use Rattle.ld_machine.specs.Step as Step
use Rattle.ld_safety.proofs.Lists.{not_none}
use Rattle.ld_safety.proofs.ReaderLogs.{Apart}
use Rattle.ld_safety.proofs.Traces.{Keeps, beside_kept}
use Rattle.ld_safety.proofs.Base.{Base, base_kept}
use Rattle.ld_safety.proofs.Events.{NamesOnce}
use Rattle.ld_safety.proofs.Generations.{NoneFalls, generations_step}
use Rattle.ld_safety.proofs.GenerationsHeld.{AllDrawn, drawn_step, start_drawn}
use Rattle.ld_safety.proofs.LostSeen.{AllShow, shows_step, start_shows}
use Rattle.ld_safety.proofs.LostReads.{ReadOn, new_held, poll_are, polled_up, polled_kept, read_on}
use Rattle.ld_safety.proofs.LostTalk.{TalkKeeps, talked, new_or_old, same_readers}
use Rattle.ld_safety.proofs.LostTalk as talk
use Rattle.ld_safety.proofs.Steps.{sent_now}
use Rattle.ld_safety.proofs.LostRounds.{Rounds, same_rounds, answer_to, ask_answer, rounds_apart, rounds_answer, rounds_on, rounds_opened}
use Rattle.ld_machine.specs.Calm as Calm
use Rattle.ld_machine.specs.Calm.{Move}

abbrev pub RoundsOf : World → Type 0
RoundsOf w = Rounds w.state.register (Sent w) w.state.readers

sent_as : (ms : List Msg) (m : Msg) (a b : Who) (l : ℕ) → In m ms → m.from ≡ a → m.to ≡ b → m.log ≡ l → In (record { from = a; to = b; log = l; body = m.body }) ms
sent_as ms m a b l i p q r = subst (λ z. In (record { from = a; to = b; log = z; body = m.body }) ms) r (subst (λ z. In (record { from = a; to = z; log = m.log; body = m.body }) ms) q (subst (λ z. In (record { from = z; to = m.to; log = m.log; body = m.body }) ms) p i))

module _ (c : Config) (s : State) (e : Move) (k : Register) (U : NoneFalls s.register k) (D : AllDrawn s.register s) (A : Apart s.network.sent s.readers) (R : Rounds s.register (λ m. In m s.network.sent) s.readers) where
  held_sent : (name : List ℕ) (d : Reader) (m : Msg) (x : Reader) → find_named name s.readers ≡ Some d → In m s.network.sent → m.to ≡ whos.Reader d.number → x.number ≡ d.number → x.log ≡ d.log
      → (h : ℕ × Held) → In h d.held ⊎ (h ≡ new_held (Step.sender_node m.from) m.body) → In (answer_to h.0 x h.1.body) s.network.sent
  held_sent name d m x f i t n l h o = subst (λ z. In (record { from = whos.Node h.0; to = whos.Reader x.number; log = z; body = h.1.body }) s.network.sent) (sym l) (subst (λ z. In (record { from = whos.Node h.0; to = whos.Reader z; log = d.log; body = h.1.body }) s.network.sent) (sym n) (elim o [
    | inl j ↦ R.held name d h f j
    | inr j ↦ subst (λ (z : ℕ × Held). In (answer_to z.0 d z.1.body) s.network.sent) (sym j) (sent_as s.network.sent m _ _ d.log i (R.nodes m d.number i t) t (sym (A.logs m d.number name d i (inl t) f refl)))
  ]))

  confirming_most : (looks : ℕ → View) (name : List ℕ) (d : Reader) (y : ℕ) (b : Body) → find_named name s.readers ≡ Some d → ReadOn looks d y b (on_answer looks d y b) → (v : Confirmation) → (on_answer looks d y b).reader.confirming ≡ Some v → v.round ≤ (on_answer looks d y b).reader.round
  confirming_most looks name d y b f G v q = elim (G.confirming v q) [
    | inl o ↦ (let z = R.confirming name d o.before f o.was in let u = o.round in let w = G.round in omega arith)
    | inr n ↦ (let u = n.round in omega arith)
  ]

  rounds_talk : TalkKeeps c s e (λ ms ds. Rounds k (λ m. In m s.network.sent ⊎ In m ms) ds)
  rounds_talk = record {
    quiet = rounds_apart s.register k U s.network.sent s.readers A R [] (λ m i. absurd i);
    elsewhere = λ ms h. rounds_apart s.register k U s.network.sent s.readers A R ms h;
    answers = λ n m x i t v h. let p = (node_at s n).plain in rounds_answer s.register k U s.network.sent s.readers A R n m x i p.generation (log_of p m.log) (D n p (inl refl)) (λ q. ask_answer n p.generation (log_of p m.log) m.log _ _ m.body x q h);
    reads = λ name d m i t v. let looks = looks_at c s.register d.log in let y = Step.sender_node m.from in let G = read_on looks d y m.body v.open_still in let a = on_answer looks d y m.body in
        rounds_on s.register k U s.network.sent s.readers A R name d a.reader a.asks v.named G.number G.log G.round G.next (λ b j. G.asks b j) (λ h j. held_sent name d m a.reader v.named i t G.number G.log h (G.held h j)) (confirming_most looks name d y m.body v.named G);
    polls = λ name d v. rounds_on s.register k U s.network.sent s.readers A R name d (polled (looks_at c s.register d.log) d) (poll_asks (looks_at c s.register d.log) d) v.named refl refl (polled_up (looks_at c s.register d.log) d) (omega arith)
        (λ b j. let z = poll_are (looks_at c s.register d.log) d b j in record { at = (polled (looks_at c s.register d.log) d).round; from = d.next; above = z.1; upto = omega arith; is = z.0; below = omega arith }) (λ h j. R.held name d h v.named (polled_kept (looks_at c s.register d.log) d h j)) (λ v q. absurd (not_none q));
    opens = λ style name l from until o. rounds_opened s.register k U s.network.sent s.readers A R style name l from until;
  }

pub rounds_step : (c : Config) (w : World) (e : Move) → NamesOnce w.state → AllDrawn w.state.register w.state → Apart w.state.network.sent w.state.readers → RoundsOf w → RoundsOf (after_step c w e)
rounds_step c w e N D A R =
    let k = (after_step c w e).state.register in
    let t = talked c w.state e (λ ms ds. Rounds k (λ m. In m w.state.network.sent ⊎ In m ms) ds) (rounds_talk c w.state e k (generations_step c w e N) D A R) N in
    subst (λ (ds : List (List ℕ × Reader)). Rounds k (Sent (after_step c w e)) ds) (sym (same_readers (Calm.moves c w.state e)))
    (same_rounds k _ (Sent (after_step c w e)) (Calm.moves c w.state e).state.readers
    (λ m o. elim o [ inl i ↦ talk.still_sent c w.state e m t.same i | inr i ↦ sent_now (Calm.moves c w.state e) m i ]) (λ m i. new_or_old c w.state e m t.same i) t.talk)

start_rounds : (c : Config) → RoundsOf (begin c)
unfolding find_named
start_rounds c = record {
  nodes = λ m k i. absurd i;
  asks = λ m k i. absurd i;
  waves = λ m k t d i. absurd i;
  generations = λ m k n u g end i. absurd i;
  positive = λ m k n u g end i. absurd i;
  held = λ t d h f. absurd (not_none f);
  confirming = λ t d v f. absurd (not_none f);
}

abbrev pub Asked : Config → List Happened → World → Type 0
Asked c hs w = Base c hs w × ((AllDrawn w.state.register w.state × AllShow c w.state.register w.state.readers) × RoundsOf w)

pub asked_kept : (c : Config) → Keeps c (Asked c)
asked_kept c = beside_kept c (Base c) (λ hs w. (AllDrawn w.state.register w.state × AllShow c w.state.register w.state.readers) × RoundsOf w) (base_kept c) ((start_drawn c, start_shows c), start_rounds c)
    (λ hs w e B C g. ((drawn_step c w e B.0.0 g.0.0, shows_step c w e B.0.0 B.1.0 g.0.1), rounds_step c w e B.0.0 g.0.0 B.1.1 g.1))
