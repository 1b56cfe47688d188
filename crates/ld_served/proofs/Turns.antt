-- The turns of a log's readers, behind the log's own part: each asks until that gives it nothing; then it is finished, or in its last round, or past what is released.
use Rattle.std.proofs.Common.{◌≡◌, ◌∙◌, ◌⊎◌, ◌≤◌, ◌<◌, ℕ, inl, inr, refl, ap, sym, subst, Bool, true, false, nat_lt, List, [], ◌∷◌, ◌++◌, map, Option, Some, None, arith}
use Rattle.std.proofs.lemmas.Bool.{cases_Bool, cases_lt, ltb-true, lt-ltb, ltb-false, eqb-true}
use Rattle.ld_table.specs.Named.{find_named}
use Rattle.ld_lsn.specs.Number.{home_epoch}
use Rattle.ld_ids.specs.Choice.{nodes_of}
use Rattle.ld_config.specs.declared.config.Config.{Config}
use Rattle.ld_config.specs.Bounds.{IsInBounds}
use Rattle.ld_schedule.specs.declared.event.Event.TheVariants as events
use Rattle.ld_msg.specs.declared.msg.Msg.{Msg}
use Rattle.ld_msg.specs.declared.msg.Body.{Body}
use Rattle.ld_msg.specs.declared.msg.Body.TheVariants as bodies
use Rattle.ld_msg.specs.Network.{oldest_new}
use Rattle.ld_msg.specs.Reading.{Held, is_lost_for, NotYet}
use Rattle.ld_msg.specs.Sequencer.{Sequencer, released_of}
use Rattle.ld_msg.specs.Reader.{Reader, is_finished, last_round, verdict}
use Rattle.ld_op.specs.Plain.{log_of}
use Rattle.ld_machine.specs.Config.{all_nodes, looks_at}
use Rattle.ld_machine.specs.State.{State, node_at}
use Rattle.ld_machine.specs.World.{In}
use Rattle.ld_machine.specs.Calm.{Move, Takes, Calms, Left, Announces, Settles, Ticks, Reads, Drains, Again, moved, last_of}
use Rattle.ld_safety.proofs.Lists.{Some_inj}
use Rattle.ld_safety.proofs.LostRounds.{answer_to}
use Rattle.ld_served.specs.Served.{released_by}
use Rattle.ld_served.proofs.Phases.{Parts, Unlimited}
use Rattle.ld_served.proofs.Last.{LastOf, last_is}
use Rattle.ld_served.proofs.Kept.{Good}
use Rattle.ld_served.proofs.UnderWay.{UnderWay, none_new}
use Rattle.ld_served.proofs.Round.{WasLost, AllHeard}
use Rattle.ld_served.proofs.Once.{answer_lost}
use Rattle.ld_served.proofs.Readers.{InCalm, in_calm_on, ReadersHere, readers_here, some_asked, GoesOn, AllGoOn, all_stay, delivery_goes, tick_goes, poll_goes, announcement_goes}
use Rattle.ld_served.proofs.InRound.{InRound, all_heard}
use Rattle.ld_served.proofs.Polls.{poll_begins}
use Rattle.ld_served.proofs.Drains.{delivery_on}

-- ---- a node that told a reader that it is lost ----

record SaysLost (n : ℕ) (b : Body) : Type 0 where
  number : ℕ
  round : ℕ
  generation : ℕ
  end : ℕ
  is : b ≡ bodies.LostHere number round generation end
  home : home_epoch number ≡ home_epoch n

says_lost : (n : ℕ) (b : Body) → is_lost_for n b ≡ true → SaysLost n b
says_lost n (bodies.LostHere number round generation end) h = record { number = number; round = round; generation = generation; end = end; is = refl; home = eqb-true (home_epoch number) (home_epoch n) h }
says_lost n _ h = absurd cc

was_lost : (c : Config) (s : State) (A : Good c s) (H : ReadersHere c s) (name : List ℕ) (d : Reader) → find_named name s.readers ≡ Some d → (h : ℕ × Held) → In h d.held → In h.0 (all_nodes c) → is_lost_for d.next h.1.body ≡ true → WasLost s d.log h.0 d.next
was_lost c s A H name d f h i m t =
    let z = says_lost d.next h.1.body t in
    let w = (answer_lost c s A name d f (answer_to h.0 d h.1.body) h.0 z.number z.round z.generation z.end (H.rounds.held name d h f i) refl refl z.is m).0 in
    subst (λ e. (0 < e) × (e ≤ (log_of (node_at s h.0).plain d.log).lost_to)) z.home w

-- ---- what is wanted of the log ----

-- a log that is ready stays so, with nothing more released; and a reader of it below that isn't left waiting where all were heard
pub record Lasting (c : Config) (l : ℕ) (R : State → Type 0) : Type 0 where
  pub good : (s : State) → R s → Good c s
  pub delivers : (s : State) (i : ℕ) → R s → Unlimited (moved c s (Takes (events.Deliver i))).lines → R (moved c s (Takes (events.Deliver i))).state × (released_by (last_of (moved c s (Takes (events.Deliver i))).state l) ≤ released_by (last_of s l))
  pub ticks : (s : State) (n k : ℕ) → R s → Unlimited (moved c s (Takes (events.Tick n k))).lines → R (moved c s (Takes (events.Tick n k))).state × (released_by (last_of (moved c s (Takes (events.Tick n k))).state l) ≤ released_by (last_of s l))
  pub polls : (s : State) (name : List ℕ) → R s → R (moved c s (Takes (events.Poll name))).state × (released_by (last_of (moved c s (Takes (events.Poll name))).state l) ≤ released_by (last_of s l))
  pub announces : (s : State) (k : ℕ) (q : List ℕ × Sequencer) → last_of s k ≡ Some q → q.1.gone ≡ false → R s → R (moved c s (Calms q.0)).state × (released_by (last_of (moved c s (Calms q.0)).state l) ≤ released_by (last_of s l))
  pub gives : (s : State) (d : Reader) → R s → d.log ≡ l → (name : List ℕ) (q : Sequencer) → LastOf s.sequencers l name q → d.next ≤ released_of q → is_finished d ≡ false → AllHeard c s d → verdict d ≡ NotYet → ⊥

module _ (c : Config) (b : IsInBounds c) (l : ℕ) (R : State → Type 0) (L : Lasting c l R) (names : List (List ℕ)) (zs : List Left) where
  abbrev pub reads_then : List (List ℕ) → List Left
  reads_then ns = map (λ r. Reads r) ns ++ zs

  -- finished, or in its last round, or past what is released
  pub data Over (s : State) (d : Reader) : Type 0 where
    finished : is_finished d ≡ true → Over s d
    in_last : nat_lt d.round last_round ≡ false → Over s d
    past : released_by (last_of s l) < d.next → Over s d

  abbrev pub OverAt : State → List ℕ → Type 0
  OverAt s t = (d : Reader) → find_named t s.readers ≡ Some d → d.log ≡ l → Over s d

  -- its turn, that began at a number: it is over, or past the number, or at it in a round
  pub data Turn (s : State) (n : ℕ) (d : Reader) : Type 0 where
    is_over : Over s d → Turn s n d
    beyond : n < d.next → Turn s n d
    at_it : d.next ≡ n → InRound c s d → Turn s n d

  abbrev pub Rest : State → List (List ℕ) → Type 0
  Rest s ns = (t : List ℕ) → In t names → In t ns ⊎ OverAt s t

  abbrev pub Others : State → List ℕ → List (List ℕ) → Type 0
  Others s name ns = (t : List ℕ) → In t names → In t ns ⊎ ((t ≡ name) ⊎ OverAt s t)

  pub data Stage (s : State) (ps : List Left) : Type 0 where
    turn : (name : List ℕ) (ns : List (List ℕ)) → ps ≡ Reads name ∷ reads_then ns → oldest_new s.network ≡ None → Rest s (name ∷ ns) → Stage s ps
    draining : (name : List ℕ) (n : ℕ) (ns : List (List ℕ)) → ps ≡ Drains ∷ Again name n ∷ reads_then ns → ((d : Reader) → find_named name s.readers ≡ Some d → d.log ≡ l → Turn s n d) → Others s name ns → Stage s ps
    asking : (name : List ℕ) (n : ℕ) (ns : List (List ℕ)) → ps ≡ Again name n ∷ reads_then ns → oldest_new s.network ≡ None → ((d : Reader) → find_named name s.readers ≡ Some d → d.log ≡ l → d.next ≡ n → Over s d) → Others s name ns → Stage s ps
    all_over : ((t : List ℕ) → In t names → OverAt s t) → Stage s ps

  pub record Turns (s : State) (ps : List Left) : Type 0 where
    pub ready : R s
    pub calm : InCalm c s
    pub stage : Stage s ps

  begins : (s : State) (ns : List (List ℕ)) → oldest_new s.network ≡ None → Rest s ns → Stage s (reads_then ns)
  begins s [] e h = all_over (λ t i. elim (h t i) [ inl a ↦ absurd a | inr a ↦ a ])
  begins s (name ∷ ns) e h = turn name ns refl e h

  -- the turns of all that are named
  pub turns_begin : (s : State) → R s → InCalm c s → oldest_new s.network ≡ None → Turns s (reads_then names)
  turns_begin s r k e = record { ready = r; calm = k; stage = begins s names e (λ t i. inl i) }

  -- ---- a step ----
  module _ (s t : State) (A : AllGoOn s.readers t.readers) (U : released_by (last_of t l) ≤ released_by (last_of s l)) where
    over_on : (d e : Reader) → GoesOn d e → Over s d → Over t e
    over_on d e G (finished h) = finished (let z = ltb-true d.until d.next h in let u = G.until in let n = G.next in lt-ltb e.until e.next (omega arith))
    over_on d e G (in_last h) = in_last (let z = ltb-false d.round last_round h in let u = G.round in by_test (nat_lt e.round last_round) refl (omega arith)) where
      by_test : (v : Bool) → nat_lt e.round last_round ≡ v → last_round ≤ e.round → v ≡ false
      by_test true q k = absurd (let z = ltb-true e.round last_round q in omega arith)
      by_test false q k = refl
    over_on d e G (past h) = past (let n = G.next in omega arith)

    at_on : (x : List ℕ) → OverAt s x → OverAt t x
    at_on x h e f lg = let z = A x e f in over_on z.0 e z.2 (h z.0 z.1 (sym z.2.log ∙ lg))

    others_on : (name : List ℕ) (ns : List (List ℕ)) → Others s name ns → Others t name ns
    others_on name ns h x i = elim (h x i) [ inl a ↦ inl a | inr (inl a) ↦ inr (inl a) | inr (inr a) ↦ inr (inr (at_on x a)) ]

    others_of : (name : List ℕ) (ns : List (List ℕ)) → Rest s (name ∷ ns) → Others t name ns
    others_of name ns h x i = elim (h x i) [ inl (inl a) ↦ inr (inl a) | inl (inr a) ↦ inl a | inr a ↦ inr (inr (at_on x a)) ]

    -- of another part, which leaves the turns over
    elsewhere : (p : Left) (ps rs : List Left) → ((name : List ℕ) → p ≡ Reads name → ⊥) → (p ≡ Drains → ⊥) → ((name : List ℕ) (n : ℕ) → p ≡ Again name n → ⊥) → Stage s (p ∷ ps) → Stage t rs
    elsewhere p ps rs x y z (turn name ns e o h) = absurd (x name cc)
    elsewhere p ps rs x y z (draining name n ns e h k) = absurd (y cc)
    elsewhere p ps rs x y z (asking name n ns e o h k) = absurd (z name n cc)
    elsewhere p ps rs x y z (all_over h) = all_over (λ v i. at_on v (h v i))

  -- ---- each part ----
  abbrev given : State → Move → State
  given s m = (moved c s m).state

  -- what it gives the reader, where all were heard
  drained_turn : (s : State) → R s → ReadersHere c s → oldest_new s.network ≡ None → (name : List ℕ) (n : ℕ) (d : Reader) → find_named name s.readers ≡ Some d → d.log ≡ l → Turn s n d → d.next ≡ n → Over s d
  drained_turn s r H e name n d f lg (is_over h) k = h
  drained_turn s r H e name n d f lg (beyond h) k = absurd (omega arith)
  drained_turn s r H e name n d f lg (at_it g I) k = by_last (last_of s l) refl where
    A : Good c s
    A = L.good s r

    none : (m : Msg) → UnderWay s.network m → ⊥
    none m u = none_new s.network m e u

    by_last : (o : Option (List ℕ × Sequencer)) → last_of s l ≡ o → Over s d
    by_last None q = past (let z : released_by (last_of s l) ≡ 0 = ap released_by q in let p = H.positive name d f in omega arith)
    by_last (Some x) q = elim (cases_lt (released_of x.1) d.next) [
      | inl a ↦ past (let z : released_by (last_of s l) ≡ released_of x.1 = ap released_by q in omega arith)
      | inr a ↦ absurd (
          let M = last_is s l x H.names.0 q in
          let y = some_asked c s A x.0 x.1 M.named (home_epoch d.next) in
          let i : In y.0 (nodes_of (looks_at c s.register d.log (home_epoch d.next)).spec) = subst (λ j. In y.0 (nodes_of (looks_at c s.register j (home_epoch d.next)).spec)) (M.log ∙ sym lg) y.1 in
          L.gives s d r lg x.0 x.1 M a I.unfinished (all_heard c s d I none) (I.not_yet y.0 i none))
    ]

  module _ (s : State) (r : R s) (H : ReadersHere c s) where
    A : Good c s
    A = L.good s r

    -- a poll where nothing is new
    polls_on : (name : List ℕ) → oldest_new s.network ≡ None → (e : Reader) → find_named name (given s (Takes (events.Poll name))).readers ≡ Some e → e.log ≡ l
        → (d : Reader) → find_named name s.readers ≡ Some d → Turn (given s (Takes (events.Poll name))) d.next e
    polls_on name o e f lg d g = elim (cases_Bool (is_finished d)) [
      | inl t ↦ (let z = poll_goes c s H.names name name e f in let same : z.0 ≡ d = Some_inj (sym z.1 ∙ g) in
          is_over (over_on s (given s (Takes (events.Poll name))) (poll_goes c s H.names name) (L.polls s name r).1 d e (subst (λ (x : Reader). GoesOn x e) same z.2) (finished t)))
      | inr t ↦ (let z = poll_begins c s H name d g t (λ m u. none_new s.network m o u) e f in elim z.1 [ inl h ↦ is_over (in_last h) | inr h ↦ at_it z.0 h ])
    ]

    -- a delivery while it is on
    turn_on : (name : List ℕ) (n i : ℕ) → oldest_new s.network ≡ Some i → Unlimited (moved c s (Takes (events.Deliver i))).lines → ((d : Reader) → find_named name s.readers ≡ Some d → d.log ≡ l → Turn s n d)
        → (e : Reader) → find_named name (given s (Takes (events.Deliver i))).readers ≡ Some e → e.log ≡ l → Turn (given s (Takes (events.Deliver i))) n e
    turn_on name n i o u h e f lg = let z = delivery_goes c s H.names i name e f in by_turn z.0 z.1 z.2 (h z.0 z.1 (sym z.2.log ∙ lg)) where
      by_turn : (d : Reader) → find_named name s.readers ≡ Some d → GoesOn d e → Turn s n d → Turn (given s (Takes (events.Deliver i))) n e
      by_turn d g G (is_over k) = is_over (over_on s (given s (Takes (events.Deliver i))) (delivery_goes c s H.names i) (L.delivers s i r u).1 d e G k)
      by_turn d g G (beyond k) = beyond (let v = G.next in omega arith)
      by_turn d g G (at_it q I) = elim (delivery_on c s A H name d g I (was_lost c s A H name d g) i o e f) [
        | inl k ↦ beyond (omega arith)
        | inr k ↦ elim k.1 [ inl w ↦ is_over (in_last w) | inr w ↦ at_it (k.0 ∙ q) w ]
      ]

    stage_polled : (name : List ℕ) (d : Reader) (ps : List Left) → find_named name s.readers ≡ Some d → Stage s (Reads name ∷ ps) → Stage (given s (Takes (events.Poll name))) (Drains ∷ Again name d.next ∷ ps)
    stage_polled name d ps g (turn m ns e o h) = let same : name ≡ m = cc in let rest : ps ≡ reads_then ns = cc in
        draining name d.next ns (ap (λ qs. Drains ∷ Again name d.next ∷ qs) rest) (λ x f lg. polls_on name o x f lg d g)
        (others_of s (given s (Takes (events.Poll name))) (poll_goes c s H.names name) (L.polls s name r).1 name ns (subst (λ k. Rest s (k ∷ ns)) (sym same) h))
    stage_polled name d ps g (draining m n ns e h k) = absurd (let z : Reads name ≡ Drains = cc in cc)
    stage_polled name d ps g (asking m n ns e o h k) = absurd (let z : Reads name ≡ Again m n = cc in cc)
    stage_polled name d ps g (all_over h) = all_over (λ v i. at_on s (given s (Takes (events.Poll name))) (poll_goes c s H.names name) (L.polls s name r).1 v (h v i))

    stage_finished : (name : List ℕ) (ps : List Left) → ((d : Reader) → find_named name s.readers ≡ Some d → is_finished d ≡ true) → Stage s (Reads name ∷ ps) → Stage s ps
    stage_finished name ps k (turn m ns e o h) = let same : name ≡ m = cc in let rest : ps ≡ reads_then ns = cc in
        subst (Stage s) (sym rest) (begins s ns o (λ t i. elim (h t i) [ inl (inl a) ↦ inr (λ d f lg. finished (k d (subst (λ x. find_named x s.readers ≡ Some d) (a ∙ sym same) f))) | inl (inr a) ↦ inl a | inr a ↦ inr a ]))
    stage_finished name ps k (draining m n ns e h o) = absurd (let z : Reads name ≡ Drains = cc in cc)
    stage_finished name ps k (asking m n ns e o h q) = absurd (let z : Reads name ≡ Again m n = cc in cc)
    stage_finished name ps k (all_over h) = all_over h

    stage_drains : (ps : List Left) (i : ℕ) → oldest_new s.network ≡ Some i → Unlimited (moved c s (Takes (events.Deliver i))).lines → Stage s (Drains ∷ ps) → Stage (given s (Takes (events.Deliver i))) (Drains ∷ ps)
    stage_drains ps i o u (turn m ns e q h) = absurd (let z : Drains ≡ Reads m = cc in cc)
    stage_drains ps i o u (draining m n ns e h k) = draining m n ns e (turn_on m n i o u h) (others_on s (given s (Takes (events.Deliver i))) (delivery_goes c s H.names i) (L.delivers s i r u).1 m ns k)
    stage_drains ps i o u (asking m n ns e q h k) = absurd (let z : Drains ≡ Again m n = cc in cc)
    stage_drains ps i o u (all_over h) = all_over (λ v j. at_on s (given s (Takes (events.Deliver i))) (delivery_goes c s H.names i) (L.delivers s i r u).1 v (h v j))

    stage_drained : (ps : List Left) → oldest_new s.network ≡ None → Stage s (Drains ∷ ps) → Stage s ps
    stage_drained ps o (turn m ns e q h) = absurd (let z : Drains ≡ Reads m = cc in cc)
    stage_drained ps o (draining m n ns e h k) = let rest : ps ≡ Again m n ∷ reads_then ns = cc in asking m n ns rest o (λ d f lg. drained_turn s r H o m n d f lg (h d f lg)) k
    stage_drained ps o (asking m n ns e q h k) = absurd (let z : Drains ≡ Again m n = cc in cc)
    stage_drained ps o (all_over h) = all_over h

    stage_asked : (name : List ℕ) (n : ℕ) (d : Reader) (ps : List Left) → find_named name s.readers ≡ Some d → Stage s (Again name n ∷ ps) → Stage (given s (Takes (events.Poll name))) (Drains ∷ Again name d.next ∷ ps)
    stage_asked name n d ps g (turn m ns e q h) = absurd (let z : Again name n ≡ Reads m = cc in cc)
    stage_asked name n d ps g (draining m k ns e h j) = absurd (let z : Again name n ≡ Drains = cc in cc)
    stage_asked name n d ps g (asking m k ns e o h j) = let same : name ≡ m = cc in let rest : ps ≡ reads_then ns = cc in
        draining name d.next ns (ap (λ qs. Drains ∷ Again name d.next ∷ qs) rest) (λ x f lg. polls_on name o x f lg d g)
        (others_on s (given s (Takes (events.Poll name))) (poll_goes c s H.names name) (L.polls s name r).1 name ns (subst (λ k. Others s k ns) (sym same) j))
    stage_asked name n d ps g (all_over h) = all_over (λ v i. at_on s (given s (Takes (events.Poll name))) (poll_goes c s H.names name) (L.polls s name r).1 v (h v i))

    stage_rested : (name : List ℕ) (n : ℕ) (ps : List Left) → ((d : Reader) → find_named name s.readers ≡ Some d → d.next ≡ n) → Stage s (Again name n ∷ ps) → Stage s ps
    stage_rested name n ps u (turn m ns e q h) = absurd (let z : Again name n ≡ Reads m = cc in cc)
    stage_rested name n ps u (draining m k ns e h j) = absurd (let z : Again name n ≡ Drains = cc in cc)
    stage_rested name n ps u (asking m k ns e o h j) = let same : name ≡ m = cc in let at : n ≡ k = cc in let rest : ps ≡ reads_then ns = cc in
        subst (Stage s) (sym rest) (begins s ns o (λ t i. elim (j t i) [
          | inl a ↦ inl a
          | inr (inl a) ↦ inr (λ d f lg. (let g : find_named m s.readers ≡ Some d = subst (λ x. find_named x s.readers ≡ Some d) a f in
              h d g lg (u d (subst (λ x. find_named x s.readers ≡ Some d) (sym same) g) ∙ at)))
          | inr (inr a) ↦ inr a
        ]))
    stage_rested name n ps u (all_over h) = all_over h

  -- and so over the whole calm
  pub turns_parts : Parts c Turns
  turns_parts = record {
    announced = λ s k ps q T e g u. (let x = L.announces s k q e g T.ready in let H = readers_here c b s T.calm in record {
      ready = x.0;
      calm = in_calm_on c b s (Calms q.0) T.calm;
      stage = elsewhere s (given s (Calms q.0)) (announcement_goes c s H.names q.0 q.1 (last_is s k q H.names.0 e).named g) x.1 (Announces k) ps ps (λ name z. cc) (λ z. cc) (λ name n z. cc) T.stage;
    });
    silent = λ s k ps T g. record { ready = T.ready; calm = T.calm; stage = elsewhere s s (all_stay s.readers) (omega arith) (Announces k) ps ps (λ name z. cc) (λ z. cc) (λ name n z. cc) T.stage };
    settles = λ s k ps i T e u. (let x = L.delivers s i T.ready u in let H = readers_here c b s T.calm in record {
      ready = x.0;
      calm = in_calm_on c b s (Takes (events.Deliver i)) T.calm;
      stage = elsewhere s (given s (Takes (events.Deliver i))) (delivery_goes c s H.names i) x.1 (Settles k) ps (Settles k ∷ ps) (λ name z. cc) (λ z. cc) (λ name n z. cc) T.stage;
    });
    settled = λ s k ps T e. record { ready = T.ready; calm = T.calm; stage = elsewhere s s (all_stay s.readers) (omega arith) (Settles k) ps ps (λ name z. cc) (λ z. cc) (λ name n z. cc) T.stage };
    cleaned = λ s k n ps T e u. (let x = L.ticks s n k T.ready u in let H = readers_here c b s T.calm in record {
      ready = x.0;
      calm = in_calm_on c b s (Takes (events.Tick n k)) T.calm;
      stage = elsewhere s (given s (Takes (events.Tick n k))) (tick_goes c s H.names n k) x.1 (Ticks k n) ps (Ticks k n ∷ ps) (λ name z. cc) (λ z. cc) (λ name n z. cc) T.stage;
    });
    ticked = λ s k n ps T e u. (let x = L.ticks s n k T.ready u in let H = readers_here c b s T.calm in record {
      ready = x.0;
      calm = in_calm_on c b s (Takes (events.Tick n k)) T.calm;
      stage = elsewhere s (given s (Takes (events.Tick n k))) (tick_goes c s H.names n k) x.1 (Ticks k n) ps ps (λ name z. cc) (λ z. cc) (λ name n z. cc) T.stage;
    });
    polled = λ s name d ps T f t u. (let x = L.polls s name T.ready in record { ready = x.0; calm = in_calm_on c b s (Takes (events.Poll name)) T.calm; stage = stage_polled s T.ready (readers_here c b s T.calm) name d ps f T.stage });
    finished = λ s name ps T h. record { ready = T.ready; calm = T.calm; stage = stage_finished s T.ready (readers_here c b s T.calm) name ps h T.stage };
    drains = λ s ps i T e u. (let x = L.delivers s i T.ready u in record { ready = x.0; calm = in_calm_on c b s (Takes (events.Deliver i)) T.calm; stage = stage_drains s T.ready (readers_here c b s T.calm) ps i e u T.stage });
    drained = λ s ps T e. record { ready = T.ready; calm = T.calm; stage = stage_drained s T.ready (readers_here c b s T.calm) ps e T.stage };
    asked = λ s name n d ps T f h u. (let x = L.polls s name T.ready in record { ready = x.0; calm = in_calm_on c b s (Takes (events.Poll name)) T.calm; stage = stage_asked s T.ready (readers_here c b s T.calm) name n d ps f T.stage });
    rested = λ s name n ps T h. record { ready = T.ready; calm = T.calm; stage = stage_rested s T.ready (readers_here c b s T.calm) name n ps h T.stage };
  }

  -- where nothing is left, the turns are over
  pub turns_over : (s : State) → Turns s [] → (t : List ℕ) → In t names → OverAt s t
  turns_over s T = by_stage T.stage where
    by_stage : Stage s [] → (t : List ℕ) → In t names → OverAt s t
    by_stage (turn name ns e o h) = absurd (let z : [] ≡ Reads name ∷ reads_then ns = e in cc)
    by_stage (draining name n ns e h k) = absurd (let z : [] ≡ Drains ∷ Again name n ∷ reads_then ns = e in cc)
    by_stage (asking name n ns e o h k) = absurd (let z : [] ≡ Again name n ∷ reads_then ns = e in cc)
    by_stage (all_over h) = h
