-- In every run the digest that a sequencer asks on shows each node as lost that has said so.
use Rattle.std.proofs.Common.{◌≡◌, ◌∙◌, ℕ, ◌+◌, max, inl, inr, refl, ap, sym, subst, Bool, true, false, ◌==◌, if◌then◌else◌, nat_lt, List, [], Option, Some, None, eq-eqb}
use Rattle.ld_table.specs.Named.{find_named, put_named}
use Rattle.ld_table.specs.Words.{is_in, with_one}
use Rattle.ld_config.specs.declared.config.Config.{Config}
use Rattle.ld_msg.specs.declared.msg.Summary.{Summary}
use Rattle.ld_msg.specs.declared.msg.Msg.{Msg}
use Rattle.ld_msg.specs.declared.msg.Body.{Body}
use Rattle.ld_msg.specs.Digest.{Told, takes_page, told_page, with_page, told_lost, with_lost, asked_anew, with_asks, digest_lng}
use Rattle.ld_msg.specs.Register.{Register, View, epochs_of, lce_of}
use Rattle.ld_msg.specs.Sequencer.{Sequencer, Recovery, Stage, Seals, Stores, Closes, Acts, recovery_of, recovery_lost, begun, next_try, activated, bare}
use Rattle.ld_op.specs.declared.op.Op.{Op}
use Rattle.ld_op.specs.Ticks.{Ticked, Cleans, Rebuilt, Asks, Nothing}
use Rattle.ld_machine.specs.Config.{looks_at}
use Rattle.ld_machine.specs.State.{State, Done, finish, node_at, with_node}
use Rattle.ld_machine.specs.World.{In}
use Rattle.ld_machine.specs.Step as Step
use Rattle.ld_machine.specs.Calm.{Move}
use Rattle.ld_safety.proofs.Lists.{Some_inj, not_none, cond_both, In-map}
use Rattle.ld_safety.proofs.Names.{named_cases}
use Rattle.ld_safety.proofs.Losses.{with_one_in}
use Rattle.ld_safety.proofs.Traces.{Keeps, beside_kept}
use Rattle.ld_safety.proofs.Events.{Cases, dispatch, refreshed}
use Rattle.ld_safety.proofs.Base.{Base, base_kept}
use Rattle.ld_safety.proofs.SequencerSteps.{Acting, Retrying, Closing, Hearing, heard_page, heard_lost, gone_of, replied, retried}

-- these are shown as lost
abbrev pub Shows : List ℕ → List Told → Type 0
Shows lost d = (t : Told) → In t d → is_in t.node lost ≡ true → t.lost ≡ true

abbrev pub ShowsLost : Sequencer → Type 0
ShowsLost q = (v : Recovery) → q.recovery ≡ Some v → (d : List Told) → v.stage ≡ Seals d → Shows v.lost d

seals_inj : (d f : List Told) → Seals d ≡ Seals f → d ≡ f
seals_inj d f e = cc

begun_shows : (looks : ℕ → View) (a : Sequencer) (lce : ℕ) (v : Recovery) → recovery_of looks a lce ≡ Some v → (d : List Told) → v.stage ≡ Seals d → Shows v.lost d
begun_shows looks a lce v = cond_both (nat_lt (lce + 1) a.epoch) (Some (begun (looks (lce + 1)))) None (λ o. o ≡ Some v → (d : List Told) → v.stage ≡ Seals d → Shows v.lost d)
    (λ t h d e u i k. absurd (let z : is_in u.node [] ≡ true = ap (λ (x : Recovery). is_in u.node x.lost) (Some_inj h) ∙ k in cc))
    (λ t h. absurd (not_none h))

-- after a reply
pub heard_shows : (q : Sequencer) (y : ℕ) (b : Body) (w : Recovery) (d : List Told) → ShowsLost q → Hearing q y b w d → Shows w.lost d
unfolding with_page with_lost
heard_shows q y b w d N (heard_page f from upto trim lng es e k i g t j) =
    let p : Told → Told = λ u. if takes_page y from u then told_page w.epoch (max (digest_lng f) lng) upto trim lng es u else u in
    subst (Shows w.lost) (sym j) (λ u x h. let z = In-map p u f x in
    subst (λ (m : Told). m.lost ≡ true) (sym z.2)
    (cond_both (takes_page y from z.0) (told_page w.epoch (max (digest_lng f) lng) upto trim lng es z.0) z.0 (λ m. is_in m.node w.lost ≡ true → m.lost ≡ true) (λ r l. N w e f k z.0 z.1 l) (λ r l. N w e f k z.0 z.1 l) (subst (λ (m : Told). is_in m.node w.lost ≡ true) z.2 h)))
heard_shows q y b w d N (heard_lost v f n round generation end e k i g j z) = subst (λ (x : Recovery). Shows x.lost d) (sym j) (subst (Shows (with_one y v.lost)) (sym z) (λ u x h. let a = In-map (told_lost y) u f x in
    subst (λ (m : Told). m.lost ≡ true) (sym a.2)
    (cond_both (a.0.node == y) true a.0.lost (λ c. c ≡ true) (λ t. refl) (λ t. N v e f k a.0 a.1 (elim (with_one_in y a.0.node v.lost (subst (λ (m : Told). is_in m.node (with_one y v.lost) ≡ true) a.2 h)) [
      | inl r ↦ r
      | inr r ↦ absurd (let s : (a.0.node == y) ≡ true = eq-eqb a.0.node y r in let l : true ≡ false = sym s ∙ t in cc)
    ])))))

-- ---- one call ----
module _ (c : Config) (r : Register) (q : Sequencer) (N : ShowsLost q) where
  stands : (w : Recovery) (s : Stage) (v : Recovery) → Some (record w { stage = s }) ≡ Some v → (d : List Told) → v.stage ≡ Seals d → s ≡ Seals d
  stands w s v e d g = ap (λ (x : Recovery). x.stage) (Some_inj e) ∙ g

  asks_on : (w : Recovery) (f : List Told) → Shows w.lost f → (v : Recovery) → Some (record w { stage = Seals f }) ≡ Some v → (d : List Told) → v.stage ≡ Seals d → Shows v.lost d
  asks_on w f h v e d g = subst (λ (x : Recovery). Shows x.lost d) (Some_inj e) (subst (Shows w.lost) (seals_inj f d (stands w (Seals f) v e d g)) h)

  close_shows : (a : Acts) (e : ℕ) (y : Summary) (short : Bool) → ShowsLost a.sequencer → Closing r (looks_at c r q.log) a e y short (λ k. ShowsLost k.acts.sequencer)
  close_shows a e y short nx = record {
    granted = λ n h o g v i d j. begun_shows (looks_at c r q.log) a.sequencer e v i d j;
    passed = λ h. nx;
    behind = λ b h v i d j. begun_shows (looks_at c r q.log) a.sequencer (lce_of r a.sequencer.log) v i d j;
    overtaken = λ h o. nx;
    failed = λ n g. nx;
  }

  acting_shows : (gone : Recovery → List ℕ) (y : ℕ) (b : Body) → Acting c r gone q y b (λ k m. ShowsLost k.acts.sequencer)
  acting_shows gone y b = record {
    quiet = N;
    sealed = λ n k f i l. N;
    cleaned_own = λ n s f i h. N;
    acks = λ n p f i g h m. N;
    lost_own = λ n round g end f i h. N;
    cleaned = λ v n s f e i h w k d j. begun_shows (looks_at c r q.log) q v.epoch w k d j;
    asks_more = λ w d asks f H a n u v k x j. asks_on w d (heard_shows q y b w d N H) v k x j;
    plans = λ w d loss f H g v k x j. absurd (let z = stands w _ v k x j in cc);
    looks_closed = λ w d s f H u o v k x j. begun_shows (looks_at c r q.log) q w.epoch v k x j;
    looks_later = λ w d f H u o n. N;
    stores_on = λ w g f H t v k x j. absurd (let z = stands w (Stores g) v k x j in cc);
    closes_now = λ w g f H t. close_shows _ w.epoch _ _ (λ v k x j. absurd (let z = stands w _ v k x j in cc));
    lost_closing = λ v s short n round g end f e i h j w k x m. absurd (let z = stands (recovery_lost y v) (Closes s short) w k x m in cc);
  }

  anew : (v : Recovery) (d : List Told) → q.recovery ≡ Some v → v.stage ≡ Seals d → Shows v.lost (with_asks v.epoch d)
  unfolding with_asks
  anew v d e k t i h = let z = In-map (asked_anew v.epoch (digest_lng d)) t d i in subst (λ (x : Told). x.lost ≡ true) (sym z.2) (N v e d k z.0 z.1 (subst (λ (x : Told). is_in x.node v.lost ≡ true) z.2 h))

  retrying_shows : (gone : Recovery → List ℕ) → Retrying c r gone q (λ k m. ShowsLost k.acts.sequencer)
  retrying_shows gone = record {
    quiet = N;
    appends = λ f. N;
    seals = λ v d f e h u w k x j. asks_on v (with_asks v.epoch d) (anew v d e h) w k x j;
    plans = λ v d f e h g w k x j. absurd (let z = stands v _ w k x j in cc);
    looks_closed = λ v d s f e h u o w k x j. begun_shows (looks_at c r q.log) q v.epoch w k x j;
    looks_later = λ v d f e h u o n. N;
    stores_on = λ v g f e h t w k x j. absurd (let z = stands v (Stores (next_try g)) w k x j in cc);
    closes_now = λ v g f e h t. close_shows _ v.epoch _ _ (λ w k x j. absurd (let z = stands v _ w k x j in cc));
    closes = λ v y short f e h. close_shows _ v.epoch y short N;
  }

-- ---- every event ----

abbrev pub AllShow : List (List ℕ × Sequencer) → Type 0
AllShow qs = (name : List ℕ) (q : Sequencer) → find_named name qs ≡ Some q → ShowsLost q

put_shows : (name : List ℕ) (p : Sequencer) (qs : List (List ℕ × Sequencer)) → AllShow qs → ShowsLost p → AllShow (put_named name p qs)
put_shows name p qs a h t q f = elim (named_cases t name p qs) [ inl k ↦ subst ShowsLost (Some_inj (sym k.1 ∙ f)) h | inr k ↦ a t q (sym k.1 ∙ f) ]

module _ (c : Config) (s : State) (e : Move) (H : AllShow s.sequencers) where
  abbrev Result : Done → Type 0
  Result d = AllShow d.state.sequencers

  shows_cases : Cases c s e (λ d m. Result d)
  unfolding activated
  shows_cases = record {
    still = λ f older i. H;
    says = λ x q. H;
    node_hears = λ f older n m i t v o. handled f n m (Step.node_handles n (node_at s n) m).op (Step.node_handles n (node_at s n) m).answer;
    loads = λ n ls q b o. H;
    draw_fails = λ n b. H;
    formats = λ n r g b v i. H;
    ticks = λ n l t v i o. ticked n l t;
    stops = λ n b. H;
    wipes = λ n. H;
    faults = λ n f o. H;
    sets = λ l r x set g. H;
    swaps = λ n m l x r q i. H;
    arms = λ k done o. H;
    hears = λ f older name q m i t l v o. put_shows name _ s.sequencers H (replied c s name q v.there (Step.sender_node m.from) m.body (λ k n. ShowsLost k.acts.sequencer) (acting_shows c s.register q (H name q v.named) (gone_of s q) (Step.sender_node m.from) m.body));
    retries = λ again name q v o. put_shows name _ s.sequencers H (retried c s q v.there (λ k n. ShowsLost k.acts.sequencer) (retrying_shows c s.register q (H name q v.named) (gone_of s q)));
    appends = λ name q p v a i. put_shows name _ s.sequencers H (H name q v.named);
    trims = λ name q t v b. H;
    drops = λ name q v o. put_shows name _ s.sequencers H (H name q v.named);
    activates = λ name l r g n i x. put_shows name _ s.sequencers H (λ v k d j. begun_shows (looks_at c r l) (bare (Step.spec_set c s l) l (epochs_of r l).epoch (lce_of r l)) (lce_of r l) v k d j);
    activate_fails = λ name l x g q. H;
    answers = λ f older name d m i t v o. H;
    polls = λ name d v o. H;
    opens = λ style name l from until o x. H;
  } where
    handled : (f : List ℕ) (n : ℕ) (m : Msg) (o : Option Op) (b : Option Body) → Result (Step.handles (with_node (refreshed s f) n (Step.releases (node_at s n) m.log m.body)) n m o b)
    handled f n m None b = H
    handled f n m (Some o) b = H

    ticked : (n l : ℕ) (t : Ticked) → Result (Step.ticks_as c s n l t)
    ticked n l (Cleans k y) = H
    ticked n l Rebuilt = H
    ticked n l (Asks from) = H
    ticked n l Nothing = H

-- in every run
pub shows_kept : (c : Config) → Keeps c (λ hs w. Base c hs w × AllShow w.state.sequencers)
unfolding finish find_named
shows_kept c = beside_kept c (Base c) (λ hs w. AllShow w.state.sequencers) (base_kept c) (λ n q f. absurd (not_none f))
    (λ hs w e B n p. dispatch c w.state e (λ d m. AllShow (finish d).state.sequencers) B.0.0 (shows_cases c w.state e p))
