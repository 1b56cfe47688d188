-- What a sequencer released never falls, and neither does any number that is at most what some sequencer of the log released.
use Rattle.std.proofs.Common.{◌≡◌, ◌∙◌, ◌⊎◌, ◌≤◌, ◌<◌, ℕ, ◌+◌, inl, inr, refl, ap, sym, subst, Bool, nat_lt, List, Option, Some, None, arith}
use Rattle.std.proofs.lemmas.Bool.{ltb-true, ltb-false}
use Rattle.ld_table.specs.Named.{find_named, put_named}
use Rattle.ld_lsn.specs.Number.{numbered, epoch_end}
use Rattle.ld_config.specs.declared.config.Config.{Config}
use Rattle.ld_msg.specs.declared.msg.Summary.{Summary}
use Rattle.ld_msg.specs.declared.msg.Msg.{Msg}
use Rattle.ld_msg.specs.declared.msg.Body.{Body}
use Rattle.ld_msg.specs.Digest.{Told}
use Rattle.ld_msg.specs.Register.{Register, lce_of}
use Rattle.ld_msg.specs.Sequencer.{Sequencer, Recovery, Storing, Acts, Called, activated, released_of}
use Rattle.ld_op.specs.declared.op.Op.{Op}
use Rattle.ld_op.specs.Ticks.{Ticked, Cleans, Rebuilt, Asks, Nothing}
use Rattle.ld_machine.specs.Config.{looks_at}
use Rattle.ld_machine.specs.State.{State, Done, node_at, with_node}
use Rattle.ld_machine.specs.Step as Step
use Rattle.ld_machine.specs.Calm.{Move, moves}
use Rattle.ld_safety.proofs.Lists.{Some_inj, not_none, cond_both}
use Rattle.ld_safety.proofs.Names.{named_cases}
use Rattle.ld_safety.proofs.Events.{Cases, NamesOnce, dispatch, refreshed}
use Rattle.ld_safety.proofs.SequencerSteps.{Acting, Retrying, Closing, Hearing, Hearing_stored, heard_epoch, stored_epoch, gone_of, replied, retried}
use Rattle.ld_safety.proofs.LastClose.{NextOf}

-- the same sequencer later
pub record Later (q p : Sequencer) : Type 0 where
  pub log : p.log ≡ q.log
  pub epoch : p.epoch ≡ q.epoch
  pub lce : q.lce ≤ p.lce
  pub lng : q.lng ≤ p.lng

pub released_later : (q p : Sequencer) → Later q p → released_of q ≤ released_of p
released_later q p L = cond_both (nat_lt (q.lce + 1) q.epoch) (epoch_end q.lce) (numbered q.epoch q.lng) (λ r. r ≤ released_of p) (λ t. before (ltb-true (q.lce + 1) q.epoch t)) (λ t. after (ltb-false (q.lce + 1) q.epoch t)) where
  before : q.lce + 1 < q.epoch → epoch_end q.lce ≤ released_of p
  before h = cond_both (nat_lt (p.lce + 1) p.epoch) (epoch_end p.lce) (numbered p.epoch p.lng) (λ r. epoch_end q.lce ≤ r) (λ t. let a = L.lce in omega arith) (λ t. let a = L.epoch in omega arith)

  after : q.epoch ≤ q.lce + 1 → numbered q.epoch q.lng ≤ released_of p
  after h = cond_both (nat_lt (p.lce + 1) p.epoch) (epoch_end p.lce) (numbered p.epoch p.lng) (λ r. numbered q.epoch q.lng ≤ r)
      (λ t. absurd (let z = ltb-true (p.lce + 1) p.epoch t in let a = L.lce in let b = L.epoch in omega arith))
      (λ t. let a = L.epoch in let b = L.lng in omega arith)

-- ---- one call ----
module _ (c : Config) (r : Register) (q : Sequencer) (low : q.lce ≤ lce_of r q.log) (N : NextOf q) where
  abbrev Called_later : Called → Type 0
  Called_later k = Later q k.acts.sequencer

  as_before : Later q q
  as_before = record { log = refl; epoch = refl; lce = omega arith; lng = omega arith }

  onward : (a : Sequencer) (lce : ℕ) → Later q a → q.lce ≤ lce → (v : Option Recovery) → Later q (record a { lce = lce; recovery = v })
  onward a lce h l v = record { log = h.log; epoch = h.epoch; lce = l; lng = h.lng }

  close_later : (a : Acts) (e : ℕ) (y : Summary) (short : Bool) → Later q a.sequencer → e ≡ q.lce + 1 → Closing r (looks_at c r q.log) a e y short (λ k. Called_later k)
  close_later a e y short h f = record {
    granted = λ n i o g. onward a.sequencer e h (omega arith) _;
    passed = λ i. record { log = h.log; epoch = h.epoch; lce = h.lce; lng = h.lng };
    behind = λ b i. onward a.sequencer (lce_of r a.sequencer.log) h (subst (λ l. q.lce ≤ lce_of r l) (sym h.log) low) _;
    overtaken = λ i o. record { log = h.log; epoch = h.epoch; lce = h.lce; lng = h.lng };
    failed = λ n g. h;
  }

  heard_next : (y : ℕ) (b : Body) (w : Recovery) (d : List Told) → Hearing q y b w d → w.epoch ≡ q.lce + 1
  heard_next y b w d H = heard_epoch q y b w d (λ x. x ≡ q.lce + 1) N H

  stored_next : (y : ℕ) (b : Body) (w : Recovery) (g : Storing) → Hearing_stored q y b w g → w.epoch ≡ q.lce + 1
  stored_next y b w g H = stored_epoch q y b w g (λ x. x ≡ q.lce + 1) N H

  with_lce : (w : Recovery) → w.epoch ≡ q.lce + 1 → q.lce ≤ w.epoch
  with_lce w h = omega arith

  acting_later : (gone : Recovery → List ℕ) (y : ℕ) (b : Body) → Acting c r gone q y b (λ k m. Called_later k)
  acting_later gone y b = record {
    quiet = as_before;
    sealed = λ n k f i l. record { log = refl; epoch = refl; lce = omega arith; lng = omega arith };
    cleaned_own = λ n s f i h. record { log = refl; epoch = refl; lce = omega arith; lng = omega arith };
    acks = λ n p f i g h m. record { log = refl; epoch = refl; lce = omega arith; lng = omega arith };
    lost_own = λ n round g end f i h. record { log = refl; epoch = refl; lce = omega arith; lng = omega arith };
    cleaned = λ v n s f e i h. onward q v.epoch as_before (with_lce v (N v e)) _;
    asks_more = λ w d asks f H a n u. record { log = refl; epoch = refl; lce = omega arith; lng = omega arith };
    plans = λ w d loss f H p. record { log = refl; epoch = refl; lce = omega arith; lng = omega arith };
    looks_closed = λ w d s f H u o. onward q w.epoch as_before (with_lce w (heard_next y b w d H)) _;
    looks_later = λ w d f H u o n. record { log = refl; epoch = refl; lce = omega arith; lng = omega arith };
    stores_on = λ w g f H t. record { log = refl; epoch = refl; lce = omega arith; lng = omega arith };
    closes_now = λ w g f H t. close_later _ w.epoch _ _ (record { log = refl; epoch = refl; lce = omega arith; lng = omega arith }) (stored_next y b w g H);
    lost_closing = λ v s short n round g end f e i h j. record { log = refl; epoch = refl; lce = omega arith; lng = omega arith };
  }

  retrying_later : (gone : Recovery → List ℕ) → Retrying c r gone q (λ k m. Called_later k)
  retrying_later gone = record {
    quiet = as_before;
    appends = λ f. record { log = refl; epoch = refl; lce = omega arith; lng = omega arith };
    seals = λ v d f e h u. record { log = refl; epoch = refl; lce = omega arith; lng = omega arith };
    plans = λ v d f e h p. record { log = refl; epoch = refl; lce = omega arith; lng = omega arith };
    looks_closed = λ v d s f e h u o. record { log = refl; epoch = refl; lce = with_lce v (N v e); lng = omega arith };
    looks_later = λ v d f e h u o n. record { log = refl; epoch = refl; lce = omega arith; lng = omega arith };
    stores_on = λ v g f e h t. record { log = refl; epoch = refl; lce = omega arith; lng = omega arith };
    closes_now = λ v g f e h t. close_later _ v.epoch _ _ (record { log = refl; epoch = refl; lce = omega arith; lng = omega arith }) (N v e);
    closes = λ v y short f e h. close_later _ v.epoch y short (record { log = refl; epoch = refl; lce = omega arith; lng = omega arith }) (N v e);
  }

-- ---- what some sequencer released ----

-- some sequencer of the log, dropped or not, released at least the number
pub record Released (qs : List (List ℕ × Sequencer)) (l t : ℕ) : Type 0 where
  pub name : List ℕ
  pub sequencer : Sequencer
  pub named : find_named name qs ≡ Some sequencer
  pub log : sequencer.log ≡ l
  pub most : t ≤ released_of sequencer

-- none, or at most what some sequencer released
abbrev pub Low : List (List ℕ × Sequencer) → ℕ → ℕ → Type 0
Low qs l t = (t ≡ 0) ⊎ Released qs l t

released_put : (qs : List (List ℕ × Sequencer)) (name : List ℕ) (q p : Sequencer) (l t : ℕ) → find_named name qs ≡ Some q → Later q p → Released qs l t → Released (put_named name p qs) l t
released_put qs name q p l t f L h = elim (named_cases h.name name p qs) [
  | inl e ↦ (let z : q ≡ h.sequencer = Some_inj (sym f ∙ (ap (λ k. find_named k qs) (sym e.0) ∙ h.named)) in
      record {
        name = h.name;
        sequencer = p;
        named = e.1;
        log = L.log ∙ (ap (λ (x : Sequencer). x.log) z ∙ h.log);
        most = (let m = released_later q p L in let k : t ≤ released_of q = subst (λ (x : Sequencer). t ≤ released_of x) (sym z) h.most in omega arith);
      })
  | inr e ↦ record { name = h.name; sequencer = h.sequencer; named = e.1 ∙ h.named; log = h.log; most = h.most }
]

released_new : (qs : List (List ℕ × Sequencer)) (name : List ℕ) (p : Sequencer) (l t : ℕ) → find_named name qs ≡ None → Released qs l t → Released (put_named name p qs) l t
released_new qs name p l t f h = elim (named_cases h.name name p qs) [
  | inl e ↦ absurd (not_none (sym f ∙ (ap (λ k. find_named k qs) (sym e.0) ∙ h.named)))
  | inr e ↦ record { name = h.name; sequencer = h.sequencer; named = e.1 ∙ h.named; log = h.log; most = h.most }
]

-- ---- every step ----
module _ (c : Config) (s : State) (e : Move) (low : (t : List ℕ) (q : Sequencer) → find_named t s.sequencers ≡ Some q → q.lce ≤ lce_of s.register q.log) (next : (t : List ℕ) (q : Sequencer) → find_named t s.sequencers ≡ Some q → NextOf q) where
  abbrev Kept : Done → Type 0
  Kept d = (l t : ℕ) → Released s.sequencers l t → Released d.state.sequencers l t

  puts : (name : List ℕ) (q p : Sequencer) → find_named name s.sequencers ≡ Some q → Later q p → (l t : ℕ) → Released s.sequencers l t → Released (put_named name p s.sequencers) l t
  puts name q p f L l t h = released_put s.sequencers name q p l t f L h

  kept_cases : Cases c s e (λ d m. Kept d)
  unfolding activated
  kept_cases = record {
    still = λ f older i l t h. h;
    says = λ x q l t h. h;
    node_hears = λ f older n m i t v o. handled f n m (Step.node_handles n (node_at s n) m).op (Step.node_handles n (node_at s n) m).answer;
    loads = λ n ls q b o l t h. h;
    draw_fails = λ n b l t h. h;
    formats = λ n r g b v i l t h. h;
    ticks = λ n l t v i o. ticked n l t;
    stops = λ n b l t h. h;
    wipes = λ n l t h. h;
    faults = λ n f o l t h. h;
    sets = λ k r x set g l t h. h;
    swaps = λ n m k x r q i l t h. h;
    arms = λ k done o l t h. h;
    hears = λ f older name q m i t l v o. puts name q _ v.named (replied c s name q v.there (Step.sender_node m.from) m.body (λ k n. Later q k.acts.sequencer) (acting_later c s.register q (low name q v.named) (next name q v.named) (gone_of s q) (Step.sender_node m.from) m.body));
    retries = λ again name q v o. puts name q _ v.named (retried c s q v.there (λ k n. Later q k.acts.sequencer) (retrying_later c s.register q (low name q v.named) (next name q v.named) (gone_of s q)));
    appends = λ name q p v a i. puts name q _ v.named (record { log = refl; epoch = refl; lce = omega arith; lng = omega arith });
    trims = λ name q k v b l t h. h;
    drops = λ name q v o. puts name q (Step.dropped q) v.named (record { log = refl; epoch = refl; lce = omega arith; lng = omega arith });
    activates = λ name k r g n i x l t h. released_new s.sequencers name _ l t n h;
    activate_fails = λ name k x g q l t h. h;
    answers = λ f older name d m i t v o l k h. h;
    polls = λ name d v o l t h. h;
    opens = λ style name k from until o x l t h. h;
  } where
    handled : (f : List ℕ) (n : ℕ) (m : Msg) (o : Option Op) (b : Option Body) → Kept (Step.handles (with_node (refreshed s f) n (Step.releases (node_at s n) m.log m.body)) n m o b)
    handled f n m None b l t h = h
    handled f n m (Some o) b l t h = h

    ticked : (n l : ℕ) (t : Ticked) → Kept (Step.ticks_as c s n l t)
    ticked n l (Cleans k y) j t h = h
    ticked n l Rebuilt j t h = h
    ticked n l (Asks from) j t h = h
    ticked n l Nothing j t h = h

  pub released_stays : NamesOnce s → (l t : ℕ) → Released s.sequencers l t → Released (moves c s e).state.sequencers l t
  released_stays N = dispatch c s e (λ d m. Kept d) N kept_cases

  pub low_stays : NamesOnce s → (l t : ℕ) → Low s.sequencers l t → Low (moves c s e).state.sequencers l t
  low_stays N l t (inl z) = inl z
  low_stays N l t (inr h) = inr (released_stays N l t h)
