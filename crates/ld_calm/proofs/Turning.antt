-- A log's nodes tick only while its readers rest, so that where its nodes are lost may be taken anew by each tick.
use Rattle.std.proofs.Common.{◌≡◌, ◌∙◌, ◌⊎◌, ◌≤◌, ℕ, ◌&&◌, ◌++◌, map, flat_map, ◌+◌, inl, inr, refl, ap, sym, subst, Bool, true, false, ◌==◌, if◌then◌else◌, nat_lt, List, [], ◌∷◌, length, Option, Some, None, arith}
use Rattle.std.proofs.lemmas.Bool.{eqb-true, eq-eqb}
use Rattle.ld_table.specs.Named.{find_named}
use Rattle.ld_config.specs.declared.config.Config.{Config}
use Rattle.ld_schedule.specs.declared.event.Event.TheVariants as events
use Rattle.ld_msg.specs.declared.msg.Who.{Who}
use Rattle.ld_msg.specs.declared.msg.Who.TheVariants as whos
use Rattle.ld_msg.specs.declared.msg.Msg.{Msg}
use Rattle.ld_msg.specs.Network.{message, oldest_new}
use Rattle.ld_msg.specs.Sequencer.{Sequencer, on_retry}
use Rattle.ld_msg.specs.Reader.{Reader, is_finished, polled, poll_asks}
use Rattle.ld_machine.specs.Config.{looks_at}
use Rattle.ld_machine.specs.State.{State, Done, finish, unchanged, posted, with_reader}
use Rattle.ld_machine.specs.Step as Step
use Rattle.ld_machine.specs.World.{In}
use Rattle.ld_safety.proofs.Events.{retry_call}
use Rattle.ld_safety.proofs.Lists.{cond_both, Some_inj, not_none, any_from}
use Rattle.ld_safety.proofs.Members.{in_set}
use Rattle.ld_safety.proofs.Names as names
use Rattle.ld_machine.specs.Calm.{Move, Takes, Calms, Left, Announces, Settles, Ticks, Reads, Drains, Again, Next, next_of, moved, moves, goes, announces, delivers_in, polls_then, reads, asks_again, last_of, last_in, later_of, cleans, calms_acts, calms_with}
use Rattle.ld_calm.proofs.Weights.{oldest_is, there}
use Rattle.ld_calm.proofs.Measure.{Ground, measure}
use Rattle.ld_calm.proofs.Deliveries.{sequencer_falls}
use Rattle.ld_calm.proofs.Heard.{reader_falls}
use Rattle.ld_calm.proofs.Noded.{node_falls}
use Rattle.ld_calm.proofs.Others.{announce_falls, turn_falls, again_falls, idle_again}
use Rattle.ld_calm.proofs.Ending.{fuel_enough, steps_few}
use Rattle.ld_calm.proofs.Halves.{begin_half, begins_less}
use Rattle.ld_calm.proofs.Falling.{Holds}
use Rattle.ld_calm.proofs.Confirming.{AllApart}
use Rattle.ld_ids.specs.declared.set.Spec.{Spec}
use Rattle.ld_msg.specs.Register.{epochs_of}
use Rattle.ld_op.specs.Plain.{log_of}
use Rattle.ld_op.specs.Ticks.{Ticked, Cleans, Rebuilt, Asks, Nothing, on_tick}
use Rattle.ld_machine.specs.Config.{all_nodes, has_log, has_node}
use Rattle.ld_machine.specs.Disk.{is_up}
use Rattle.ld_machine.specs.State.{node_at}
use Rattle.ld_machine.specs.Calm.{all_left, left_for, readers_of, calm_bound, calm_fuel, calm_moves}
use Rattle.ld_calm.specs.Ends.{IsCalm}
use Rattle.ld_calm.proofs.Measure.{ground_at}
use Rattle.ld_calm.proofs.Starting.{Starts, starts_under}
use Rattle.ld_calm.proofs.Renewing.{Rests, renew, begun_rests, renewed_measure}

-- ---- in which order ----

-- a log's nodes tick after its messages were delivered, and nothing else happens between: the log whose readers rest, where there is one. They and the log are the configuration's
abbrev pub InTurn : Config → Option ℕ → List Left → Type 0
InTurn c o [] = Unit {0}
InTurn c o (Announces l ∷ ps) = InTurn c None ps
InTurn c o (Settles l ∷ ps) = InTurn c (Some l) ps
InTurn c o (Ticks l n ∷ ps) = ((o ≡ Some l) × ((has_log c l ≡ true) × (has_node c n ≡ true))) × InTurn c o ps
InTurn c o (Reads name ∷ ps) = InTurn c None ps
InTurn c o (Drains ∷ ps) = InTurn c None ps
InTurn c o (Again name next ∷ ps) = InTurn c None ps

abbrev pub RestsIn : Ground → State → Option ℕ → Type 0
RestsIn g s None = Unit {0}
RestsIn g s (Some l) = Rests g s l

-- what a step of a calm is, but for a tick
pub data Quiet (m : Move) : Type 0 where
  delivery : (i : ℕ) → m ≡ Takes (events.Deliver i) → Quiet m
  poll : (name : List ℕ) → m ≡ Takes (events.Poll name) → Quiet m
  retry : (name : List ℕ) → m ≡ Calms name → Quiet m

pub data Turns (c : Config) (g : Ground) (s : State) (x : Next) : Type 0 where
  quietly : Quiet x.move → InTurn c None x.left → Turns c g s x
  ticking : (l n : ℕ) → x.move ≡ Takes (events.Tick n l) → Rests g s l → InTurn c (Some l) x.left → Turns c g s x

-- ---- a log's last sequencer ----

later_is : (o : Option (List ℕ × Sequencer)) (q p : List ℕ × Sequencer) → later_of o q ≡ Some p → (o ≡ Some p) ⊎ (p ≡ q)
later_is None q p h = inr (sym (Some_inj h))
later_is (Some z) q p h = by_test (nat_lt z.1.epoch q.1.epoch) h where
  by_test : (b : Bool) → (if b then Some q else Some z) ≡ Some p → (Some z ≡ Some p) ⊎ (p ≡ q)
  by_test true e = inr (sym (Some_inj e))
  by_test false e = inl e

last_is : (l : ℕ) (o : Option (List ℕ × Sequencer)) (qs : List (List ℕ × Sequencer)) (p : List ℕ × Sequencer) → last_in l o qs ≡ Some p → (o ≡ Some p) ⊎ (In p qs × (p.1.log ≡ l))
last_is l o [] p h = inl h
last_is l o (q ∷ qs) p h = elim (last_is l (if q.1.log == l then later_of o q else o) qs p h) [
  | inl e ↦ by_log (q.1.log == l) refl e
  | inr i ↦ inr (inr i.0, i.1)
] where
  by_log : (b : Bool) → (q.1.log == l) ≡ b → (if b then later_of o q else o) ≡ Some p → (o ≡ Some p) ⊎ (In p (q ∷ qs) × (p.1.log ≡ l))
  by_log true t e = elim (later_is o q p e) [ inl a ↦ inl a | inr a ↦ inr (inl a, ap (λ (x : List ℕ × Sequencer). x.1.log) a ∙ eqb-true q.1.log l t) ]
  by_log false t e = inl e

-- ---- a step ----

-- a step that leaves the measure less
pub record Less (c : Config) (P : Ground → State → Type 0) (g : Ground) (s : State) (ps : List Left) (x : Next) : Type 0 where
  pub ground : Ground
  pub holds : P ground s
  pub turns : Turns c ground s x
  pub less : measure ground (moved c s x.move).state x.left + 1 ≤ measure g s ps

module _ (c : Config) (P : Ground → State → Type 0) (of : (g : Ground) (s : State) → P g s → Holds c g s) (s : State)
    (begins : (g : Ground) (l : ℕ) → P g s → oldest_new s.network ≡ None → P (begin_half g s l) s) where
  -- a delivery of the oldest new message
  delivered : (g : Ground) (ps : List Left) (i : ℕ) → P g s → oldest_new s.network ≡ Some i → measure g (moved c s (Takes (events.Deliver i))).state ps + 1 ≤ measure g s ps
  unfolding Step.happens
  delivered g ps i H e = let new = oldest_is s.network i e in let f = there s.network i (of g s H).places new in by_to f.0 f.1 f.0.to refl where
    by_to : (m : Msg) → message s.network i ≡ Some m → (w : Who) → m.to ≡ w → measure g (moved c s (Takes (events.Deliver i))).state ps + 1 ≤ measure g s ps
    by_to m f (whos.Node n) t = node_falls c s g ps i n m (of g s H).places (oldest_is s.network i e) f t (((of g s H).messages i m (oldest_is s.network i e) f).to_node n t)
    by_to m f (whos.Sequencer b) t = sequencer_falls c s g ps i b m (of g s H).names (of g s H).places (oldest_is s.network i e) f t (λ name q k a lg ep. (((of g s H).sequencers name q k a).fits, ((of g s H).messages i m (oldest_is s.network i e) f).to_sequencer b t name q k a lg ep))
    by_to m f (whos.Reader k) t = reader_falls c s g ps i k m (of g s H).names (of g s H).places (oldest_is s.network i e) f t (((of g s H).messages i m (oldest_is s.network i e) f).to_reader k t)

  by_oldest : (g : Ground) (p : Left) (ps : List Left) (x : Next) → P g s → InTurn c None (p ∷ ps) → (o : Option ℕ) → oldest_new s.network ≡ o → delivers_in o p ps (next_of c s ps) ≡ Some x → (oldest_new s.network ≡ None → next_of c s ps ≡ Some x → Less c P g s (p ∷ ps) x) → Less c P g s (p ∷ ps) x
  by_oldest g p ps x H O None e h other = other e h
  by_oldest g p ps x H O (Some i) e h other = subst (Less c P g s (p ∷ ps)) (Some_inj h) (record { ground = g; holds = H; turns = quietly (delivery i refl) O; less = delivered g (p ∷ ps) i H e })

  -- what a poll does to a reader that isn't finished, and to one that is
  polls_it : (name : List ℕ) (d : Reader) → find_named name s.readers ≡ Some d → is_finished d ≡ false
      → record { state = with_reader s name (polled (looks_at c s.register d.log) d); lines = []; sends = posted (whos.Reader d.number) d.log (poll_asks (looks_at c s.register d.log) d) } ≡ Step.polls c s name (find_named name s.readers)
  polls_it name d e t = sym (ap (Step.polls c s name) e ∙ ap (λ b. if b then unchanged s else record { state = with_reader s name (polled (looks_at c s.register d.log) d); lines = []; sends = posted (whos.Reader d.number) d.log (poll_asks (looks_at c s.register d.log) d) }) t)

  polls_none : (name : List ℕ) (d : Reader) → find_named name s.readers ≡ Some d → is_finished d ≡ true → unchanged s ≡ Step.polls c s name (find_named name s.readers)
  polls_none name d e t = sym (ap (Step.polls c s name) e ∙ ap (λ b. if b then unchanged s else record { state = with_reader s name (polled (looks_at c s.register d.log) d); lines = []; sends = posted (whos.Reader d.number) d.log (poll_asks (looks_at c s.register d.log) d) }) t)

  -- a poll of a reader that is there
  by_reader : (g : Ground) (name : List ℕ) (ps : List Left) (x : Next) → P g s → InTurn c None ps → (o : Option Reader) → find_named name s.readers ≡ o → reads name o ps (next_of c s ps) ≡ Some x → (next_of c s ps ≡ Some x → Less c P g s (Reads name ∷ ps) x) → Less c P g s (Reads name ∷ ps) x
  unfolding Step.happens
  by_reader g name ps x H O None e h other = other h
  by_reader g name ps x H O (Some d) e h other = by_open (is_finished d) refl h where
    by_open : (b : Bool) → is_finished d ≡ b → (if b then next_of c s ps else polls_then name d.next ps) ≡ Some x → Less c P g s (Reads name ∷ ps) x
    by_open true t k = other k
    by_open false t k = subst (Less c P g s (Reads name ∷ ps)) (Some_inj k) (record {
      ground = g;
      holds = H;
      turns = quietly (poll name refl) O;
      less = subst (λ (z : Done). measure g (finish z).state (Drains ∷ Again name d.next ∷ ps) + 1 ≤ measure g s (Reads name ∷ ps)) (polls_it name d e t)
          (turn_falls c s g name d e t (of g s H).places (of g s H).all ((of g s H).readers name d e).looked ((of g s H).readers name d e).swaps ps);
    })

  -- and again, where its next number isn't the same
  by_again : (g : Ground) (name : List ℕ) (next : ℕ) (ps : List Left) (x : Next) → P g s → InTurn c None ps → (o : Option Reader) → find_named name s.readers ≡ o → asks_again name next o ps (next_of c s ps) ≡ Some x → (next_of c s ps ≡ Some x → Less c P g s (Again name next ∷ ps) x) → Less c P g s (Again name next ∷ ps) x
  unfolding Step.happens
  by_again g name next ps x H O None e h other = other h
  by_again g name next ps x H O (Some d) e h other = by_next (d.next == next) refl h where
    by_finished : (d.next == next) ≡ false → (b : Bool) → is_finished d ≡ b → measure g (moved c s (Takes (events.Poll name))).state (Drains ∷ Again name d.next ∷ ps) + 1 ≤ measure g s (Again name next ∷ ps)
    by_finished n true t = subst (λ (z : Done). measure g (finish z).state (Drains ∷ Again name d.next ∷ ps) + 1 ≤ measure g s (Again name next ∷ ps)) (polls_none name d e t) (idle_again s g name d next ps e n)
    by_finished n false t = subst (λ (z : Done). measure g (finish z).state (Drains ∷ Again name d.next ∷ ps) + 1 ≤ measure g s (Again name next ∷ ps)) (polls_it name d e t)
        (again_falls c s g name d e t (of g s H).places (of g s H).all ((of g s H).readers name d e).looked ((of g s H).readers name d e).swaps next ps n)

    by_next : (b : Bool) → (d.next == next) ≡ b → (if b then next_of c s ps else polls_then name d.next ps) ≡ Some x → Less c P g s (Again name next ∷ ps) x
    by_next true t k = other k
    by_next false t k = subst (Less c P g s (Again name next ∷ ps)) (Some_inj k) (record { ground = g; holds = H; turns = quietly (poll name refl) O; less = by_finished t (is_finished d) refl })

  -- the retry that tells its released number again
  by_last : (g : Ground) (l : ℕ) (ps : List Left) (x : Next) → P g s → InTurn c None ps → (o : Option (List ℕ × Sequencer)) → last_of s l ≡ o → announces o ps (next_of c s ps) ≡ Some x → (next_of c s ps ≡ Some x → Less c P g s (Announces l ∷ ps) x) → Less c P g s (Announces l ∷ ps) x
  by_last g l ps x H O None e h other = other h
  by_last g l ps x H O (Some q) e h other = by_gone q.1.gone refl h where
    at : In q s.sequencers × (q.1.log ≡ l)
    at = elim (last_is l None s.sequencers q e) [ inl a ↦ absurd (not_none a) | inr a ↦ a ]

    named : find_named q.0 s.sequencers ≡ Some q.1
    named = names.found s.sequencers q (of g s H).names.0 at.0

    done : q.1.gone ≡ false → calms_with s q.0 q.1 (retry_call c s q.1) ≡ moves c s (Calms q.0)
    done t = sym (ap (λ o. Step.on_live s o (λ r. calms_acts c s q.0 r (on_retry (looks_at c s.register r.log) r))) named ∙ ap (λ b. if b then unchanged s else calms_acts c s q.0 q.1 (on_retry (looks_at c s.register q.1.log) q.1)) t)

    by_gone : (b : Bool) → q.1.gone ≡ b → (if b then next_of c s ps else goes (Calms q.0) ps) ≡ Some x → Less c P g s (Announces l ∷ ps) x
    by_gone true t k = other k
    by_gone false t k = let o = (of g s H).sequencers q.0 q.1 named t in subst (Less c P g s (Announces l ∷ ps)) (Some_inj k) (record {
      ground = g;
      holds = H;
      turns = quietly (retry q.0 refl) O;
      less =
          subst (λ (z : Done). measure g (finish z).state ps + 1 ≤ measure g s (Announces l ∷ ps)) (done t)
          (subst (λ k. measure g (finish (calms_with s q.0 q.1 (retry_call c s q.1))).state ps + 1 ≤ measure g s (Announces k ∷ ps)) at.1
          (announce_falls c s g q.0 q.1 ps named t (of g s H).places o.fits o.retry o.nodes o.items o.given));
    })

  -- what is passed doesn't raise it
  passes : (g : Ground) (p : Left) (ps : List Left) (x : Next) → Less c P g s ps x → Less c P g s (p ∷ ps) x
  passes g p ps x L = record { ground = L.ground; holds = L.holds; turns = L.turns; less = let z = L.less in omega arith }

  pub next_falls : (g : Ground) (ps : List Left) (x : Next) → P g s → (o : Option ℕ) → RestsIn g s o → InTurn c o ps → next_of c s ps ≡ Some x → Less c P g s ps x
  unfolding next_of
  next_falls g [] x H o R O e = absurd (not_none e)
  next_falls g (Announces l ∷ ps) x H o R O e = by_last g l ps x H O (last_of s l) refl e (λ k. passes g (Announces l) ps x (next_falls g ps x H None tt O k))
  next_falls g (Settles l ∷ ps) x H o R O e = by_oldest g (Settles l) ps x H O (oldest_new s.network) refl e (λ u k. settled (next_falls (begin_half g s l) ps x (begins g l H u) (Some l) (begun_rests g s l) O k)) where
    settled : Less c P (begin_half g s l) s ps x → Less c P g s (Settles l ∷ ps) x
    settled L = record { ground = L.ground; holds = L.holds; turns = L.turns; less = let z = L.less in let w = begins_less g s l (of g s H).all (of g s H).names ps in omega arith }
  next_falls g (Ticks l n ∷ ps) x H o R O e = subst (Less c P g s (Ticks l n ∷ ps)) (Some_inj e) (record {
    ground = g;
    holds = H;
    less = (of g s H).ticks l n ps O.0.1.0 O.0.1.1;
    turns =
        ticking l n refl (subst (RestsIn g s) O.0.0 R) (cond_both (cleans s n l) (Ticks l n ∷ ps) ps (InTurn c (Some l)) (λ t. ((refl, O.0.1), subst (λ z. InTurn c z ps) O.0.0 O.1)) (λ t. subst (λ z. InTurn c z ps) O.0.0 O.1));
  })
  next_falls g (Reads name ∷ ps) x H o R O e = by_reader g name ps x H O (find_named name s.readers) refl e (λ k. passes g (Reads name) ps x (next_falls g ps x H None tt O k))
  next_falls g (Drains ∷ ps) x H o R O e = by_oldest g Drains ps x H O (oldest_new s.network) refl e (λ u k. passes g Drains ps x (next_falls g ps x H None tt O k))
  next_falls g (Again name next ∷ ps) x H o R O e = by_again g name next ps x H O (find_named name s.readers) refl e (λ k. passes g (Again name next) ps x (next_falls g ps x H None tt O k))

-- ---- all steps ----

-- the parts of a calm are in turn
module _ (c : Config) where
  reads_turn : (o : Option ℕ) (names : List (List ℕ)) (ps : List Left) → ((u : Option ℕ) → InTurn c u ps) → InTurn c o (map (λ r. Reads r) names ++ ps)
  reads_turn o [] ps h = h o
  reads_turn o (r ∷ rs) ps h = reads_turn None rs ps h

  ticks_turn : (l : ℕ) (ns : List ℕ) (names : List (List ℕ)) (ps : List Left) → has_log c l ≡ true → ((n : ℕ) → In n ns → has_node c n ≡ true) → ((u : Option ℕ) → InTurn c u ps) → InTurn c (Some l) ((map (λ n. Ticks l n) ns ++ map (λ r. Reads r) names) ++ ps)
  ticks_turn l [] names ps k a h = reads_turn (Some l) names ps h
  ticks_turn l (n ∷ ns) names ps k a h = ((refl, (k, a n (inl refl))), ticks_turn l ns names ps k (λ m i. a m (inr i)) h)

  logs_turn : (s : State) (o : Option ℕ) (ls : List Spec) → ((p : Spec) → In p ls → has_log c p.log ≡ true) → InTurn c o (flat_map (λ (p : Spec). left_for c s p.log) ls)
  logs_turn s o [] a = tt
  logs_turn s o (p ∷ ls) a = ticks_turn p.log (all_nodes c) (readers_of p.log s.readers) (flat_map (λ (p : Spec). left_for c s p.log) ls) (a p (inl refl)) (λ n i. in_set n (all_nodes c) i) (λ u. logs_turn s u ls (λ q i. a q (inr i)))

  pub all_turn : (s : State) → InTurn c None (all_left c s)
  all_turn s = logs_turn s None c.logs (λ p i. any_from (λ (q : Spec). q.log == p.log) p c.logs i (eq-eqb p.log p.log refl))

-- a tick changes no reader
pub tick_readers : (c : Config) (s : State) (n l : ℕ) → (moved c s (Takes (events.Tick n l))).state.readers ≡ s.readers
unfolding Step.happens finish
tick_readers c s n l = cond_both (has_node c n && true) (Step.ticks c s n l) (unchanged s) (λ d. d.state.readers ≡ s.readers) (λ t.
    cond_both (is_up (node_at s n).status && has_log c l) (Step.ticks_as c s n l (on_tick (log_of (node_at s n).plain l) (epochs_of s.register l).summaries)) (unchanged s) (λ d. d.state.readers ≡ s.readers)
    (λ u. by_tick (on_tick (log_of (node_at s n).plain l) (epochs_of s.register l).summaries)) (λ u. refl)) (λ t. refl) where
      by_tick : (t : Ticked) → (Step.ticks_as c s n l t).state.readers ≡ s.readers
      by_tick (Cleans k y) = refl
      by_tick Rebuilt = refl
      by_tick (Asks from) = refl
      by_tick Nothing = refl

-- what holds in each state of a calm: a step leaves it, and so does the beginning of a log's ticks; a tick leaves it where the log's readers rest, with its nodes taken anew
pub record Stays (c : Config) (P : Ground → State → Type 0) : Type 0 where
  pub holds : (g : Ground) (s : State) → P g s → Holds c g s
  pub apart : (g : Ground) (s : State) → P g s → AllApart s.readers
  pub step : (g : Ground) (s : State) (m : Move) → P g s → Quiet m → P g (moved c s m).state
  pub begins : (g : Ground) (s : State) (l : ℕ) → P g s → oldest_new s.network ≡ None → P (begin_half g s l) s
  pub ticks : (g : Ground) (s : State) (n l : ℕ) → P g s → Rests g s l → P (renew g (moved c s (Takes (events.Tick n l))).state l) (moved c s (Takes (events.Tick n l))).state

-- the measure, with what holds
pub record Reached (c : Config) (P : Ground → State → Type 0) (s : State) (ps : List Left) (n : ℕ) : Type 0 where
  pub ground : Ground
  pub holds : P ground s
  pub log : Option ℕ
  pub rests : RestsIn ground s log
  pub turn : InTurn c log ps
  pub size : measure ground s ps ≡ n

pub turned : (c : Config) (P : Ground → State → Type 0) → Stays c P → (s : State) (ps : List Left) (n : ℕ) → Reached c P s ps n → (x : Next) → next_of c s ps ≡ Some x → (m : ℕ) × Reached c P (moved c s x.move).state x.left m × (m + 1 ≤ n)
turned c P K s ps n T x e = by_turn L.turns where
  L : Less c P T.ground s ps x
  L = next_falls c P K.holds s (λ g l H o. K.begins g s l H o) T.ground ps x T.holds T.log T.rests T.turn e

  by_turn : Turns c L.ground s x → (m : ℕ) × Reached c P (moved c s x.move).state x.left m × (m + 1 ≤ n)
  by_turn (quietly q i) = (measure L.ground (moved c s x.move).state x.left, record { ground = L.ground; holds = K.step L.ground s x.move L.holds q; log = None; rests = tt; turn = i; size = refl }, let a = L.less in let b = T.size in omega arith)
  by_turn (ticking l k m r i) =
      let t : State = (moved c s x.move).state in
      let same : t.readers ≡ s.readers = ap (λ z. (moved c s z).state.readers) m ∙ tick_readers c s k l in
      let z : measure (renew L.ground t l) t x.left ≡ measure L.ground t x.left = renewed_measure L.ground s t l (K.apart L.ground s L.holds) r (K.holds L.ground s L.holds).names same x.left in (
        measure (renew L.ground t l) t x.left,
        record {
          ground = renew L.ground t l;
          holds = subst (λ (y : Move). P (renew L.ground (moved c s y).state l) (moved c s y).state) (sym m) (K.ticks L.ground s k l L.holds r);
          log = Some l;
          rests = λ name d f g. r name d (subst (λ (ds : List (List ℕ × Reader)). find_named name ds ≡ Some d) same f) g;
          turn = i;
          size = refl;
        },
        let a = L.less in let b = T.size in omega arith,
      )

under_fuel : (c : Config) (s : State) (n : ℕ) → n ≤ calm_bound c s → n ≤ calm_fuel c s
unfolding calm_fuel
under_fuel c s n h = omega arith

-- a calm ends, but for what holds in each of its states
pub calm_ends_when : (c : Config) (P : Ground → State → Type 0) (s : State) → Stays c P → Starts c s → P (ground_at c s) s → IsCalm c s (calm_moves c s) × (length (calm_moves c s) ≤ calm_bound c s)
calm_ends_when c P s K S H = (
  fuel_enough c (Reached c P) (turned c P K) (calm_fuel c s) (measure (ground_at c s) s (all_left c s)) s (all_left c s) at_start (under_fuel c s _ (starts_under c s S)),
  let l = steps_few c (Reached c P) (turned c P K) (calm_fuel c s) (measure (ground_at c s) s (all_left c s)) s (all_left c s) at_start in let b = starts_under c s S in omega arith,
) where
  at_start : Reached c P s (all_left c s) (measure (ground_at c s) s (all_left c s))
  at_start = record { ground = ground_at c s; holds = H; log = None; rests = tt; turn = all_turn c s; size = refl }
