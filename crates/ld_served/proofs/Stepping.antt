-- What a step of a calm comes to, case by case.
use Rattle.std.proofs.Common.{◌≡◌, ◌∙◌, ℕ, refl, ap, sym, subst, Bool, true, false, ◌&&◌, if◌then◌else◌, List, [], Option, Some, None}
use Rattle.std.proofs.lemmas.Bool.{and_parts, and_from}
use Rattle.ld_table.specs.Named.{find_named}
use Rattle.ld_config.specs.declared.config.Config.{Config}
use Rattle.ld_schedule.specs.declared.event.Event.TheVariants as events
use Rattle.ld_msg.specs.declared.msg.Who.{Who}
use Rattle.ld_msg.specs.declared.msg.Who.TheVariants as whos
use Rattle.ld_msg.specs.declared.msg.Msg.{Msg}
use Rattle.ld_msg.specs.Network.{message}
use Rattle.ld_msg.specs.Register.{epochs_of}
use Rattle.ld_msg.specs.Sequencer.{Sequencer, on_reply, on_retry}
use Rattle.ld_msg.specs.Reader.{Reader, is_finished, on_answer, polled, poll_asks}
use Rattle.ld_op.specs.Plain.{log_of}
use Rattle.ld_op.specs.Ticks.{Ticked, on_tick}
use Rattle.ld_machine.specs.Config.{looks_at, has_log, has_node}
use Rattle.ld_machine.specs.Disk.{is_up}
use Rattle.ld_machine.specs.State.{State, Done, unchanged, node_at, with_reader, posted, sequencer_of, reader_of}
use Rattle.ld_machine.specs.Step as Step
use Rattle.ld_machine.specs.Calm.{Takes, Calms, moves, calms_acts, calms_with}
use Rattle.ld_safety.proofs.Names.{found, sequencer_found, reader_found}
use Rattle.ld_safety.proofs.Events.{NamesOnce, Live, Reading, Serves, retry_call}

-- nobody hears a message whose node is down or hasn't the log, whose sequencer is dropped, whose reader is finished, or that is to nobody
pub record Unheard (c : Config) (s : State) (m : Msg) : Type 0 where
  pub node : (n : ℕ) → m.to ≡ whos.Node n → (is_up (node_at s n).status && has_log c m.log) ≡ false
  pub sequencer : (b : ℕ) → m.to ≡ whos.Sequencer b → (q : List ℕ × Sequencer) → sequencer_of m.log b s.sequencers ≡ Some q → q.1.gone ≡ true
  pub reader : (r : ℕ) → m.to ≡ whos.Reader r → (d : List ℕ × Reader) → reader_of r s.readers ≡ Some d → is_finished d.1 ≡ true

-- ---- a delivery ----
pub record Delivered (c : Config) (s : State) (i : ℕ) (Q : Done → Type 0) : Type 0 where
  pub unheard : ((m : Msg) → message s.network i ≡ Some m → Unheard c s m) → Q (unchanged (Step.marked s i))
  pub none : message s.network i ≡ None → Q (unchanged s)
  pub to_node : (n : ℕ) (m : Msg) → message s.network i ≡ Some m → m.to ≡ whos.Node n → Serves c s n m.log → Q (Step.to_up_node (Step.marked s i) n m)
  pub to_sequencer : (name : List ℕ) (q : Sequencer) (m : Msg) → message s.network i ≡ Some m → m.to ≡ whos.Sequencer q.epoch → m.log ≡ q.log → Live s name q → Q (Step.acted c (Step.marked s i) name q (on_reply (looks_at c s.register q.log) q (Step.sender_node m.from) m.body))
  pub to_reader : (name : List ℕ) (d : Reader) (m : Msg) → message s.network i ≡ Some m → m.to ≡ whos.Reader d.number → Reading s name d → Q (Step.read (Step.marked s i) name (on_answer (looks_at c s.register d.log) d (Step.sender_node m.from) m.body))

module _ (c : Config) (s : State) (i : ℕ) (Q : Done → Type 0) (N : NamesOnce s) (K : Delivered c s i Q) where
  -- one message alone is delivered
  same_message : (m k : Msg) → message s.network i ≡ Some m → message s.network i ≡ Some k → m ≡ k
  same_message m k e f = let z : Some m ≡ Some k = sym e ∙ f in cc

  quiet : (m : Msg) → message s.network i ≡ Some m → Unheard c s m → Q (unchanged (Step.marked s i))
  quiet m e u = K.unheard (λ k f. subst (Unheard c s) (same_message m k e f) u)

  by_node : (n : ℕ) (m : Msg) → message s.network i ≡ Some m → m.to ≡ whos.Node n → (b : Bool) → (is_up (node_at s n).status && has_log c m.log) ≡ b → Q (if b then Step.to_up_node (Step.marked s i) n m else unchanged (Step.marked s i))
  by_node n m e t true h = let p = and_parts (is_up (node_at s n).status) (has_log c m.log) h in K.to_node n m e t (record { up = p.0; log = p.1 })
  by_node n m e t false h = quiet m e (record {
    node = λ k u. (let z : whos.Node n ≡ whos.Node k = sym t ∙ u in let y : n ≡ k = cc in subst (λ x. (is_up (node_at s x).status && has_log c m.log) ≡ false) y h);
    sequencer = λ b u q f. absurd (let z : whos.Node n ≡ whos.Sequencer b = sym t ∙ u in cc);
    reader = λ r u d f. absurd (let z : whos.Node n ≡ whos.Reader r = sym t ∙ u in cc);
  })

  by_sequencer : (b : ℕ) (m : Msg) → message s.network i ≡ Some m → m.to ≡ whos.Sequencer b → (o : Option (List ℕ × Sequencer)) → sequencer_of m.log b s.sequencers ≡ o → Q (Step.to_sequencer c (Step.marked s i) m o)
  by_sequencer b m e t o f = by_found o f where
    deaf : ((q : List ℕ × Sequencer) → sequencer_of m.log b s.sequencers ≡ Some q → q.1.gone ≡ true) → Q (unchanged (Step.marked s i))
    deaf g = quiet m e (record {
      node = λ k u. absurd (let z : whos.Sequencer b ≡ whos.Node k = sym t ∙ u in cc);
      sequencer = λ k u q h. (let z : whos.Sequencer b ≡ whos.Sequencer k = sym t ∙ u in let y : b ≡ k = cc in g q (subst (λ x. sequencer_of m.log x s.sequencers ≡ Some q) (sym y) h));
      reader = λ r u d h. absurd (let z : whos.Sequencer b ≡ whos.Reader r = sym t ∙ u in cc);
    })

    by_gone : (q : List ℕ × Sequencer) → sequencer_of m.log b s.sequencers ≡ Some q → (g : Bool) → q.1.gone ≡ g
        → Q (if g then unchanged (Step.marked s i) else Step.acted c (Step.marked s i) q.0 q.1 (on_reply (looks_at c s.register q.1.log) q.1 (Step.sender_node m.from) m.body))
    by_gone q h true g = deaf (λ r k. (let z : Some q ≡ Some r = sym h ∙ k in let y : q ≡ r = cc in subst (λ (x : List ℕ × Sequencer). x.1.gone ≡ true) y g))
    by_gone q h false g = let z = sequencer_found m.log b s.sequencers q h in K.to_sequencer q.0 q.1 m e (t ∙ ap whos.Sequencer (sym z.epoch)) (sym z.log) (record { named = found s.sequencers q N.0 z.there; there = g })

    by_found : (o : Option (List ℕ × Sequencer)) → sequencer_of m.log b s.sequencers ≡ o → Q (Step.to_sequencer c (Step.marked s i) m o)
    by_found None h = deaf (λ q k. absurd (let z : None ≡ Some q = sym h ∙ k in cc))
    by_found (Some q) h = by_gone q h q.1.gone refl

  by_reader : (r : ℕ) (m : Msg) → message s.network i ≡ Some m → m.to ≡ whos.Reader r → (o : Option (List ℕ × Reader)) → reader_of r s.readers ≡ o → Q (Step.to_reader c (Step.marked s i) m o)
  by_reader r m e t o f = by_found o f where
    deaf : ((d : List ℕ × Reader) → reader_of r s.readers ≡ Some d → is_finished d.1 ≡ true) → Q (unchanged (Step.marked s i))
    deaf g = quiet m e (record {
      node = λ k u. absurd (let z : whos.Reader r ≡ whos.Node k = sym t ∙ u in cc);
      sequencer = λ k u q h. absurd (let z : whos.Reader r ≡ whos.Sequencer k = sym t ∙ u in cc);
      reader = λ k u d h. (let z : whos.Reader r ≡ whos.Reader k = sym t ∙ u in let y : r ≡ k = cc in g d (subst (λ x. reader_of x s.readers ≡ Some d) (sym y) h));
    })

    by_open : (d : List ℕ × Reader) → reader_of r s.readers ≡ Some d → (g : Bool) → is_finished d.1 ≡ g
        → Q (if g then unchanged (Step.marked s i) else Step.read (Step.marked s i) d.0 (on_answer (looks_at c s.register d.1.log) d.1 (Step.sender_node m.from) m.body))
    by_open d h true g = deaf (λ x k. (let z : Some d ≡ Some x = sym h ∙ k in let y : d ≡ x = cc in subst (λ (v : List ℕ × Reader). is_finished v.1 ≡ true) y g))
    by_open d h false g = let z = reader_found r s.readers d h in K.to_reader d.0 d.1 m e (t ∙ ap whos.Reader (sym z.number)) (record { named = found s.readers d N.1 z.there; open_still = g })

    by_found : (o : Option (List ℕ × Reader)) → reader_of r s.readers ≡ o → Q (Step.to_reader c (Step.marked s i) m o)
    by_found None h = deaf (λ d k. absurd (let z : None ≡ Some d = sym h ∙ k in cc))
    by_found (Some d) h = by_open d h (is_finished d.1) refl

  by_who : (m : Msg) → message s.network i ≡ Some m → (w : Who) → m.to ≡ w → Q (Step.comes_to c (Step.marked s i) m w)
  by_who m e (whos.Node n) t = by_node n m e t (is_up (node_at s n).status && has_log c m.log) refl
  by_who m e (whos.Sequencer b) t = by_sequencer b m e t (sequencer_of m.log b s.sequencers) refl
  by_who m e (whos.Reader r) t = by_reader r m e t (reader_of r s.readers) refl

  by_message : (o : Option Msg) → message s.network i ≡ o → Q (Step.delivers_it c s i o)
  by_message None e = K.none e
  by_message (Some m) e = by_who m e m.to refl

  pub delivered : Q (moves c s (Takes (events.Deliver i)))
  unfolding Step.happens Step.delivers
  delivered = by_message (message s.network i) refl

-- ---- a tick ----
pub record Ticking (c : Config) (s : State) (n l : ℕ) (Q : Done → Type 0) : Type 0 where
  pub still : (has_node c n ≡ true → (is_up (node_at s n).status && has_log c l) ≡ true → ⊥) → Q (unchanged s)
  pub ticks : (t : Ticked) → has_node c n ≡ true → Serves c s n l → on_tick (log_of (node_at s n).plain l) (epochs_of s.register l).summaries ≡ t → Q (Step.ticks_as c s n l t)

pub ticking : (c : Config) (s : State) (n l : ℕ) (Q : Done → Type 0) → Ticking c s n l Q → Q (moves c s (Takes (events.Tick n l)))
unfolding Step.happens
ticking c s n l Q K = by_node (has_node c n && true) refl where
  by_up : has_node c n ≡ true → (b : Bool) → (is_up (node_at s n).status && has_log c l) ≡ b → Q (if b then Step.ticks_as c s n l (on_tick (log_of (node_at s n).plain l) (epochs_of s.register l).summaries) else unchanged s)
  by_up g true h = let p = and_parts (is_up (node_at s n).status) (has_log c l) h in K.ticks (on_tick (log_of (node_at s n).plain l) (epochs_of s.register l).summaries) g (record { up = p.0; log = p.1 }) refl
  by_up g false h = K.still (λ a b. let z : true ≡ false = sym b ∙ h in cc)

  by_node : (b : Bool) → (has_node c n && true) ≡ b → Q (if b then Step.ticks c s n l else unchanged s)
  by_node true h = by_up (and_parts (has_node c n) true h).0 (is_up (node_at s n).status && has_log c l) refl
  by_node false h = K.still (λ a b. let z : (has_node c n && true) ≡ true = and_from (has_node c n) true a refl in let y : true ≡ false = sym z ∙ h in cc)

-- ---- a poll ----
pub record Polling (c : Config) (s : State) (name : List ℕ) (Q : Done → Type 0) : Type 0 where
  pub still : ((d : Reader) → find_named name s.readers ≡ Some d → is_finished d ≡ true) → Q (unchanged s)
  pub polls : (d : Reader) → Reading s name d → Q (record { state = with_reader s name (polled (looks_at c s.register d.log) d); lines = []; sends = posted (whos.Reader d.number) d.log (poll_asks (looks_at c s.register d.log) d) })

pub polling : (c : Config) (s : State) (name : List ℕ) (Q : Done → Type 0) → Polling c s name Q → Q (moves c s (Takes (events.Poll name)))
unfolding Step.happens
polling c s name Q K = by_found (find_named name s.readers) refl where
  by_open : (d : Reader) → find_named name s.readers ≡ Some d → (b : Bool) → is_finished d ≡ b
      → Q (if b then unchanged s else record { state = with_reader s name (polled (looks_at c s.register d.log) d); lines = []; sends = posted (whos.Reader d.number) d.log (poll_asks (looks_at c s.register d.log) d) })
  by_open d e true t = K.still (λ x f. (let z : Some d ≡ Some x = sym e ∙ f in let y : d ≡ x = cc in subst (λ v. is_finished v ≡ true) y t))
  by_open d e false t = K.polls d (record { named = e; open_still = t })

  by_found : (o : Option Reader) → find_named name s.readers ≡ o → Q (Step.polls c s name o)
  by_found None e = K.still (λ d f. absurd (let z : None ≡ Some d = sym e ∙ f in cc))
  by_found (Some d) e = by_open d e (is_finished d) refl

-- ---- the retry that tells the released number again ----
pub announcing : (c : Config) (s : State) (name : List ℕ) (q : Sequencer) (Q : Done → Type 0) → find_named name s.sequencers ≡ Some q → q.gone ≡ false → Q (calms_with s name q (retry_call c s q)) → Q (moves c s (Calms name))
announcing c s name q Q e g h = subst Q (sym (ap (λ o. Step.on_live s o (λ r. calms_acts c s name r (on_retry (looks_at c s.register r.log) r))) e ∙ ap (λ b. if b then unchanged s else calms_with s name q (retry_call c s q)) g)) h
