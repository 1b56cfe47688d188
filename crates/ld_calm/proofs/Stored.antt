-- A plan that is stored has as many items as the plan in the book that it is of.
use Rattle.std.proofs.Common.{◌≡◌, ◌∙◌, ℕ, suc, ◌+◌, inl, inr, refl, ap, sym, subst, Bool, true, nat_lt, List, [], ◌∷◌, ◌++◌, length, Option, Some, None}
use Rattle.ld_table.specs.Named.{find_named, put_named}
use Rattle.ld_config.specs.declared.config.Config.{Config}
use Rattle.ld_msg.specs.declared.msg.Summary.{Summary}
use Rattle.ld_msg.specs.declared.msg.Msg.{Msg}
use Rattle.ld_msg.specs.declared.msg.Body.{Body}
use Rattle.ld_op.specs.declared.op.Op.{Op}
use Rattle.ld_op.specs.Ticks.{Ticked, Cleans, Rebuilt, Asks, Nothing}
use Rattle.ld_msg.specs.Digest.{Item, plan}
use Rattle.ld_msg.specs.Register.{Register, View, epochs_of, lce_of}
use Rattle.ld_msg.specs.Sequencer.{Sequencer, Acts, Recovery, Stage, Seals, Stores, Closes, Storing, Planned, planned, settle, activated, bare, recovery_of, begun}
use Rattle.ld_machine.specs.Config.{looks_at}
use Rattle.ld_machine.specs.State.{State, Done, finish, node_at, with_node}
use Rattle.ld_machine.specs.World.{Made, In}
use Rattle.ld_machine.specs.Step as Step
use Rattle.ld_machine.specs.Calm.{Move}
use Rattle.ld_safety.proofs.Lists.{Some_inj, not_none, cond_both, In_right}
use Rattle.ld_safety.proofs.Names.{named_cases}
use Rattle.ld_safety.proofs.Traces.{Keeps, beside_kept}
use Rattle.ld_safety.proofs.Events.{Cases, dispatch, refreshed}
use Rattle.ld_safety.proofs.Base.{Base, base_kept}
use Rattle.ld_safety.proofs.Protocol.{Basis, plan_of}
use Rattle.ld_safety.proofs.SequencerSteps.{Acting, Retrying, Closing, Hearing_stored, heard_settled, heard_gone, gone_of, replied, retried}

-- ---- what a stage stores ----

-- the items of a plan in the book
abbrev pub StagePlanned : List Made → ℕ → ℕ → ℕ → Stage → Type 0
StagePlanned made l b e (Stores g) = (d : Basis) × In (plan_of l e b d) made × (length g.items ≡ length (plan e d.loss d.digest).items)
StagePlanned made l b e _ = Unit {0}

abbrev pub IsPlanned : List Made → ℕ → ℕ → Option Recovery → Type 0
IsPlanned made l b None = Unit {0}
IsPlanned made l b (Some v) = StagePlanned made l b v.epoch v.stage

abbrev pub IsStored : List Made → Sequencer → Type 0
IsStored made q = IsPlanned made q.log q.epoch q.recovery

planned_length : (is : List Item) → length (planned is) ≡ length is
planned_length [] = refl
planned_length (i ∷ is) = ap suc (planned_length is)

settle_length : (p : ℕ → Bool) (y : ℕ) (is : List (ℕ × Planned)) → length (settle p y is) ≡ length is
settle_length p y [] = refl
settle_length p y (i ∷ is) = ap suc (settle_length p y is)

stage_grows : (more made : List Made) (l b e : ℕ) (s : Stage) → StagePlanned made l b e s → StagePlanned (more ++ made) l b e s
stage_grows more made l b e (Seals d) h = tt
stage_grows more made l b e (Closes y short) h = tt
stage_grows more made l b e (Stores g) h = (h.0, In_right _ more made h.1, h.2)

planned_grows : (more made : List Made) (l b : ℕ) (o : Option Recovery) → IsPlanned made l b o → IsPlanned (more ++ made) l b o
planned_grows more made l b None h = tt
planned_grows more made l b (Some v) h = stage_grows more made l b v.epoch v.stage h

-- a recovery that begins stores nothing
begins : (made : List Made) (l b : ℕ) (looks : ℕ → View) (q : Sequencer) (lce : ℕ) → IsPlanned made l b (recovery_of looks q lce)
begins made l b looks q lce = cond_both (nat_lt (lce + 1) q.epoch) (Some (begun (looks (lce + 1)))) None (IsPlanned made l b) (λ t. tt) (λ t. tt)

-- ---- one call ----
module _ (c : Config) (r : Register) (made : List Made) (q : Sequencer) (N : IsStored made q) where
  close_stored : (a : Acts) (e : ℕ) (y : Summary) (short : Bool) → IsStored made a.sequencer → Closing r (looks_at c r q.log) a e y short (λ k. IsStored made k.acts.sequencer)
  close_stored a e y short h = record {
    granted = λ n i o g. begins made _ _ (looks_at c r q.log) a.sequencer e;
    passed = λ i. h;
    behind = λ b i. begins made _ _ (looks_at c r q.log) a.sequencer (lce_of r a.sequencer.log);
    overtaken = λ i o. h;
    failed = λ n g. h;
  }

  was_stored : (v : Recovery) (g : Storing) → q.recovery ≡ Some v → v.stage ≡ Stores g → StagePlanned made q.log q.epoch v.epoch (Stores g)
  was_stored v g e s = subst (StagePlanned made q.log q.epoch v.epoch) s (subst (IsPlanned made q.log q.epoch) e N)

  heard_planned : (y : ℕ) (b : Body) (w : Recovery) (g : Storing) → Hearing_stored q y b w g → StagePlanned made q.log q.epoch w.epoch (Stores g)
  heard_planned y b w g (heard_settled f p e s m i j) = let z = was_stored w f e s in (z.0, z.1, ap (λ (x : Storing). length x.items) j ∙ (settle_length p y f.items ∙ z.2))
  heard_planned y b w g (heard_gone v n round generation end e s i h j) = subst (λ (x : Recovery). StagePlanned made q.log q.epoch x.epoch (Stores g)) (sym j) (was_stored v g e s)

  acting_stored : (gone : Recovery → List ℕ) (y : ℕ) (b : Body) → Acting c r gone q y b (λ k m. IsStored (m ++ made) k.acts.sequencer)
  acting_stored gone y b = record {
    quiet = N;
    sealed = λ n k f i l. N;
    cleaned_own = λ n s f i h. N;
    acks = λ n p f i g h m. N;
    lost_own = λ n round g end f i h. N;
    cleaned = λ v n s f e i h. begins made _ _ (looks_at c r q.log) q v.epoch;
    asks_more = λ w d asks f H a n u. tt;
    plans = λ w d loss f H p. (record { loss = loss; digest = d; gone = gone w }, inl refl, planned_length (plan w.epoch loss d).items);
    looks_closed = λ w d s f H u o. begins made _ _ (looks_at c r q.log) q w.epoch;
    looks_later = λ w d f H u o n. N;
    stores_on = λ w g f H t. heard_planned y b w g H;
    closes_now = λ w g f H t. close_stored _ w.epoch _ _ tt;
    lost_closing = λ v s short n round g end f e h i j. tt;
  }

  retrying_stored : (gone : Recovery → List ℕ) → Retrying c r gone q (λ k m. IsStored (m ++ made) k.acts.sequencer)
  retrying_stored gone = record {
    quiet = N;
    appends = λ f. N;
    seals = λ v d f e h u. tt;
    plans = λ v d f e h p. (record { loss = true; digest = d; gone = gone v }, inl refl, planned_length (plan v.epoch true d).items);
    looks_closed = λ v d s f e h u o. begins made _ _ (looks_at c r q.log) q v.epoch;
    looks_later = λ v d f e h u o n. N;
    stores_on = λ v g f e h t. was_stored v g e h;
    closes_now = λ v g f e h t. close_stored _ v.epoch _ _ tt;
    closes = λ v y short f e h. close_stored _ v.epoch y short N;
  }

-- ---- every event ----

abbrev pub AllStored : List Made → List (List ℕ × Sequencer) → Type 0
AllStored made qs = (name : List ℕ) (q : Sequencer) → find_named name qs ≡ Some q → IsStored made q

put_stored : (made : List Made) (s : List ℕ) (x : Sequencer) (qs : List (List ℕ × Sequencer)) → AllStored made qs → IsStored made x → AllStored made (put_named s x qs)
put_stored made s x qs a h t q f = elim (named_cases t s x qs) [ inl c ↦ subst (IsStored made) (Some_inj (sym c.1 ∙ f)) h | inr c ↦ a t q (sym c.1 ∙ f) ]

module _ (c : Config) (s : State) (e : Move) (made : List Made) (H : AllStored made s.sequencers) where
  abbrev Result : Done → List Made → Type 0
  Result d m = AllStored (m ++ made) d.state.sequencers

  grown : (m : List Made) → AllStored (m ++ made) s.sequencers
  grown m name q f = planned_grows m made q.log q.epoch q.recovery (H name q f)

  stored_cases : Cases c s e Result
  unfolding activated
  stored_cases = record {
    still = λ f older i. H;
    says = λ x q. H;
    node_hears = λ f older n m i t v o. handled f n m (Step.node_handles n (node_at s n) m).op (Step.node_handles n (node_at s n) m).answer;
    loads = λ n ls q b o. H;
    draw_fails = λ n b. H;
    formats = λ n r g b v i. H;
    ticks = λ n l t v i o. ticked n l t;
    stops = λ n b. H;
    wipes = λ n. H;
    faults = λ n f o. H;
    sets = λ l r x set g. H;
    swaps = λ n m l x r q i. H;
    arms = λ k done o. H;
    hears = λ f older name q m i t l v o. put_stored _ name _ s.sequencers (grown _) (replied c s name q v.there (Step.sender_node m.from) m.body (λ k n. IsStored (n ++ made) k.acts.sequencer) (acting_stored c s.register made q (H name q v.named) (gone_of s q) (Step.sender_node m.from) m.body));
    retries = λ again name q v o. put_stored _ name _ s.sequencers (grown _) (retried c s q v.there (λ k n. IsStored (n ++ made) k.acts.sequencer) (retrying_stored c s.register made q (H name q v.named) (gone_of s q)));
    appends = λ name q p v a i. put_stored made name _ s.sequencers H (H name q v.named);
    trims = λ name q t v b. H;
    drops = λ name q v o. put_stored made name _ s.sequencers H (H name q v.named);
    activates = λ name l k g n i x. put_stored made name _ s.sequencers H (begins made _ _ (looks_at c k l) (bare (Step.spec_set c s l) l (epochs_of k l).epoch (lce_of k l)) (lce_of k l));
    activate_fails = λ name l x g q. H;
    answers = λ f older name d m i t v o. H;
    polls = λ name d v o. H;
    opens = λ style name l from until o x. H;
  } where
    handled : (f : List ℕ) (n : ℕ) (m : Msg) (o : Option Op) (b : Option Body) → Result (Step.handles (with_node (refreshed s f) n (Step.releases (node_at s n) m.log m.body)) n m o b) []
    handled f n m None b = H
    handled f n m (Some o) b = H

    ticked : (n l : ℕ) (t : Ticked) → Result (Step.ticks_as c s n l t) []
    ticked n l (Cleans k y) = H
    ticked n l Rebuilt = H
    ticked n l (Asks from) = H
    ticked n l Nothing = H

-- in every run
pub stored_kept : (c : Config) → Keeps c (λ hs w. Base c hs w × AllStored w.made w.state.sequencers)
unfolding finish find_named
stored_kept c = beside_kept c (Base c) (λ hs w. AllStored w.made w.state.sequencers) (base_kept c) (λ n q f. absurd (not_none f))
    (λ hs w e B n p. dispatch c w.state e (λ d m. AllStored (m ++ w.made) (finish d).state.sequencers) B.0.0 (stored_cases c w.state e w.made p))
