-- In every run a sequencer that isn't preempted waits: a digest that it asks on is neither enough nor spent, and the first of its appends isn't acknowledged yet.
use Rattle.std.proofs.Common.{◌≡◌, ◌∙◌, ◌≤◌, ◌<◌, ℕ, inl, inr, refl, sym, subst, Bool, true, false, if◌then◌else◌, nat_le, List, [], ◌∷◌, ◌++◌, Option, Some, None, arith}
use Rattle.std.proofs.lemmas.Bool.{cases_Bool, leb-true}
use Rattle.ld_table.specs.Table.{put}
use Rattle.ld_table.specs.Named.{find_named, put_named}
use Rattle.ld_ids.specs.declared.set.Spec.{Spec}
use Rattle.ld_config.specs.declared.config.Config.{Config}
use Rattle.ld_config.specs.Bounds.{IsInBounds}
use Rattle.ld_msg.specs.declared.msg.Summary.{Summary}
use Rattle.ld_msg.specs.declared.msg.Msg.{Msg}
use Rattle.ld_msg.specs.declared.msg.Body.{Body}
use Rattle.ld_msg.specs.Register.{Register, View, epochs_of, lce_of}
use Rattle.ld_msg.specs.Sequencer.{Sequencer, Append, Recovery, Acts, is_acked, unacked_from, raised, next_wave, stored_at, appended, fresh_append, activated, bare}
use Rattle.ld_op.specs.declared.op.Op.{Op}
use Rattle.ld_op.specs.Ticks.{Ticked, Cleans, Rebuilt, Asks, Nothing}
use Rattle.ld_machine.specs.Config.{looks_at}
use Rattle.ld_machine.specs.State.{State, Done, finish, node_at, with_node}
use Rattle.ld_machine.specs.Facts.{Happened}
use Rattle.ld_machine.specs.World.{World}
use Rattle.ld_machine.specs.Step as Step
use Rattle.ld_machine.specs.Calm.{Move, moves}
use Rattle.ld_safety.proofs.Lists.{Some_inj, not_none, cond_both}
use Rattle.ld_safety.proofs.Names.{named_cases}
use Rattle.ld_safety.proofs.Traces.{Keeps, beside_kept}
use Rattle.ld_safety.proofs.Events.{Cases, NamesOnce, dispatch, refreshed}
use Rattle.ld_safety.proofs.GivenSteps.{BaseGiven}
use Rattle.ld_safety.proofs.Along.{Along}
use Rattle.ld_safety.proofs.Registers.{Reached, EachClosed, look_like}
use Rattle.ld_safety.proofs.Specs.{SpecFine, SetsFine, FixedFine, EachFixed, each_fine}
use Rattle.ld_safety.proofs.AckedLines.{AllLines, lines_kept}
use Rattle.ld_safety.proofs.SequencerSteps.{Acting, Retrying, Closing, gone_of, replied, retried}
use Rattle.ld_served.proofs.Unready.{IsUnready, begun_asks, acting_unready, retrying_unready}

-- what a look at an epoch that was handed out shows has a copy at least, and as many nodes as copies
abbrev pub LooksFine : Config → Register → Type 0
LooksFine c r = (l e : ℕ) → Reached r l e → SpecFine (looks_at c r l e).spec

pub looks_fine : (c : Config) (r : Register) → FixedFine r → EachFixed r → EachClosed r → LooksFine c r
looks_fine c r F X C l e h = let f = each_fine c r l e F X h in let k = look_like c r l e C h in record {
  least = subst (λ n. 1 ≤ n) (sym k.factor) f.least;
  most = (let a = f.most in let b = k.size in let z = k.factor in omega arith);
}

-- ---- appends ----

-- the first append isn't acknowledged
abbrev pub FirstWaits : Spec → List (ℕ × Append) → Type 0
FirstWaits s [] = Unit {0}
FirstWaits s (p ∷ ps) = is_acked s p.1 ≡ false

unacked_waits : (s : Spec) (ps : List (ℕ × Append)) → FirstWaits s (unacked_from s ps)
unacked_waits s [] = tt
unacked_waits s (p ∷ ps) = by_acked (is_acked s p.1) refl (unacked_waits s ps) where
  by_acked : (b : Bool) → is_acked s p.1 ≡ b → FirstWaits s (unacked_from s ps) → FirstWaits s (if b then unacked_from s ps else p ∷ ps)
  by_acked true t ih = ih
  by_acked false t ih = t

raised_waits : (s : Spec) (ps : List (ℕ × Append)) → FirstWaits s ps → FirstWaits s (raised s ps)
raised_waits s [] h = tt
raised_waits s (p ∷ ps) h = cond_both (is_acked s p.1) p.1 (record { payload = p.1.payload; wave = next_wave p.1.wave; stored = p.1.stored }) (λ (x : Append). is_acked s x ≡ false) (λ t. h) (λ t. h)

fresh_waits : (s : Spec) (payload : List ℕ) → SpecFine s → is_acked s (fresh_append payload) ≡ false
fresh_waits s payload F = elim (cases_Bool (nat_le s.r 0)) [ inl t ↦ absurd (let z = leb-true s.r 0 t in let y = F.least in omega arith) | inr t ↦ t ]

appended_waits : (s : Spec) (ps : List (ℕ × Append)) (n : ℕ) (payload : List ℕ) → SpecFine s → FirstWaits s ps → FirstWaits s (ps ++ (n, fresh_append payload) ∷ [])
appended_waits s [] n payload F h = fresh_waits s payload F
appended_waits s (p ∷ ps) n payload F h = h

abbrev pub FirstOf : Sequencer → Type 0
FirstOf q = FirstWaits q.spec q.appends

-- ---- one call ----
module _ (c : Config) (r : Register) (q : Sequencer) (N : FirstOf q) where
  close_first : (looks : ℕ → View) (a : Acts) (e : ℕ) (y : Summary) (short : Bool) → FirstOf a.sequencer → Closing r looks a e y short (λ k. FirstOf k.acts.sequencer)
  close_first looks a e y short h = record { granted = λ n i o g. h; passed = λ i. h; behind = λ b i. h; overtaken = λ i o. h; failed = λ n g. h }

  acting_first : (gone : Recovery → List ℕ) (y : ℕ) (b : Body) → Acting c r gone q y b (λ k m. FirstOf k.acts.sequencer)
  acting_first gone y b = record {
    quiet = N;
    sealed = λ n k f i l. N;
    cleaned_own = λ n s f i h. N;
    acks = λ n p f i g h m. unacked_waits q.spec (put n (stored_at p y) q.appends);
    lost_own = λ n round g end f i h. N;
    cleaned = λ v n s f e i h. N;
    asks_more = λ w d asks f H a n u. N;
    plans = λ w d loss f H p. N;
    looks_closed = λ w d s f H u o. N;
    looks_later = λ w d f H u o n. N;
    stores_on = λ w g f H t. N;
    closes_now = λ w g f H t. close_first (looks_at c r q.log) _ w.epoch _ _ N;
    lost_closing = λ v s short n round g end f e i h j. N;
  }

  up : FirstWaits q.spec (raised q.spec q.appends)
  up = raised_waits q.spec q.appends N

  retrying_first : (gone : Recovery → List ℕ) → Retrying c r gone q (λ k m. FirstOf k.acts.sequencer)
  retrying_first gone = record {
    quiet = N;
    appends = λ f. up;
    seals = λ v d f e h u. up;
    plans = λ v d f e h p. up;
    looks_closed = λ v d s f e h u o. up;
    looks_later = λ v d f e h u o n. up;
    stores_on = λ v g f e h t. up;
    closes_now = λ v g f e h t. close_first (looks_at c r q.log) _ v.epoch _ _ up;
    closes = λ v y short f e h. close_first (looks_at c r q.log) _ v.epoch y short up;
  }

-- ---- every step ----

pub record Waiting (q : Sequencer) : Type 0 where
  pub digest : IsUnready q
  pub first : FirstOf q

abbrev pub AllWaiting : List (List ℕ × Sequencer) → Type 0
AllWaiting qs = (name : List ℕ) (q : Sequencer) → find_named name qs ≡ Some q → Waiting q

put_waiting : (name : List ℕ) (p : Sequencer) (qs : List (List ℕ × Sequencer)) → AllWaiting qs → Waiting p → AllWaiting (put_named name p qs)
put_waiting name p qs a h t q f = elim (named_cases t name p qs) [ inl k ↦ subst Waiting (Some_inj (sym k.1 ∙ f)) h | inr k ↦ a t q (sym k.1 ∙ f) ]

module _ (c : Config) (s : State) (e : Move) (L : LooksFine c s.register) (own : (name : List ℕ) (q : Sequencer) → find_named name s.sequencers ≡ Some q → Reached s.register q.log q.epoch)
    (fine : (name : List ℕ) (q : Sequencer) → find_named name s.sequencers ≡ Some q → SpecFine q.spec) (H : AllWaiting s.sequencers) where
  -- the looks after the step are as fine
  Result : Done → Type 0
  Result d = LooksFine c d.state.register → AllWaiting d.state.sequencers

  looks_of : (name : List ℕ) (q : Sequencer) → find_named name s.sequencers ≡ Some q → (k : ℕ) → 0 < k → k < q.epoch → SpecFine (looks_at c s.register q.log k).spec
  looks_of name q f k u v = L q.log k (let o = own name q f in (u, let z = o.1 in omega arith))

  stays : (d : Done) → d.state.sequencers ≡ s.sequencers → Result d
  unfolding Result
  stays d q l = subst AllWaiting (sym q) H

  puts : (d : Done) (name : List ℕ) (p : Sequencer) → d.state.sequencers ≡ put_named name p s.sequencers → (LooksFine c d.state.register → Waiting p) → Result d
  unfolding Result
  puts d name p q h l = subst AllWaiting (sym q) (put_waiting name p s.sequencers H (h l))

  new_waits : (r : Register) (p : Spec) (l : ℕ) → LooksFine c r → Waiting (activated (looks_at c r l) p l (epochs_of r l).epoch (lce_of r l))
  unfolding activated
  new_waits r p l A = record {
    digest = λ f v e d j. begun_asks c r l (bare p l (epochs_of r l).epoch (lce_of r l)) (λ k u w. A l k (u, omega arith)) (lce_of r l) v e d j;
    first = tt;
  }

  waiting_cases : Cases c s e (λ d m. Result d)
  waiting_cases = record {
    still = λ f older i. stays _ refl;
    says = λ x q. stays _ refl;
    node_hears = λ f older n m i t v o. handled f n m (Step.node_handles n (node_at s n) m).op (Step.node_handles n (node_at s n) m).answer;
    loads = λ n ls q b o. stays _ refl;
    draw_fails = λ n b. stays _ refl;
    formats = λ n r g b v i. stays _ refl;
    ticks = λ n l t v i o. ticked n l t;
    stops = λ n b. stays _ refl;
    wipes = λ n. stays _ refl;
    faults = λ n f o. stays _ refl;
    sets = λ l r x set g. stays _ refl;
    swaps = λ n m l x r q i. stays _ refl;
    arms = λ k done o. stays _ refl;
    hears = λ f older name q m i t l v o. puts _ name _ refl (λ a. record {
      digest = replied c s name q v.there (Step.sender_node m.from) m.body (λ k n. IsUnready k.acts.sequencer) (acting_unready c s.register q (looks_of name q v.named) (H name q v.named).digest (gone_of s q) (Step.sender_node m.from) m.body);
      first = replied c s name q v.there (Step.sender_node m.from) m.body (λ k n. FirstOf k.acts.sequencer) (acting_first c s.register q (H name q v.named).first (gone_of s q) (Step.sender_node m.from) m.body);
    });
    retries = λ again name q v o. puts _ name _ refl (λ a. record {
      digest = retried c s q v.there (λ k n. IsUnready k.acts.sequencer) (retrying_unready c s.register q (looks_of name q v.named) (H name q v.named).digest (gone_of s q));
      first = retried c s q v.there (λ k n. FirstOf k.acts.sequencer) (retrying_first c s.register q (H name q v.named).first (gone_of s q));
    });
    appends = λ name q p v a i. puts _ name (appended q p) refl (λ z. record { digest = (H name q v.named).digest; first = appended_waits q.spec q.appends _ p (fine name q v.named) (H name q v.named).first });
    trims = λ name q t v b. stays _ refl;
    drops = λ name q v o. puts _ name (Step.dropped q) refl (λ z. record { digest = (H name q v.named).digest; first = (H name q v.named).first });
    activates = λ name l r g n i x. puts _ name _ refl (λ a. new_waits r (Step.spec_set c s l) l a);
    activate_fails = λ name l x g q. stays _ refl;
    answers = λ f older name d m i t v o. stays _ refl;
    polls = λ name d v o. stays _ refl;
    opens = λ style name l from until o x. stays _ refl;
  } where
    handled : (f : List ℕ) (n : ℕ) (m : Msg) (o : Option Op) (b : Option Body) → Result (Step.handles (with_node (refreshed s f) n (Step.releases (node_at s n) m.log m.body)) n m o b)
    handled f n m None b = stays _ refl
    handled f n m (Some o) b = stays _ refl

    ticked : (n l : ℕ) (t : Ticked) → Result (Step.ticks_as c s n l t)
    ticked n l (Cleans k y) = stays _ refl
    ticked n l Rebuilt = stays _ refl
    ticked n l (Asks from) = stays _ refl
    ticked n l Nothing = stays _ refl

  pub waiting_step : NamesOnce s → LooksFine c (finish (moves c s e)).state.register → AllWaiting (finish (moves c s e)).state.sequencers
  unfolding finish Result
  waiting_step N A = dispatch c s e (λ d m. Result d) N waiting_cases A

abbrev pub Lined : Config → List Happened → World → Type 0
Lined c hs w = (BaseGiven c hs w × Along c hs w) × (AllLines hs w × SetsFine w.state)

-- what looks show in every run
pub looks_in : (c : Config) (hs : List Happened) (w : World) → Lined c hs w → LooksFine c w.state.register
looks_in c hs w B = looks_fine c w.state.register B.1.1.1 B.1.1.2 B.0.1.each

pub spec_in : (c : Config) (hs : List Happened) (w : World) → Lined c hs w → (name : List ℕ) (q : Sequencer) → find_named name w.state.sequencers ≡ Some q → SpecFine q.spec
spec_in c hs w B name q f = let k = B.0.1.acks name q f in subst SpecFine (sym k.spec) (each_fine c w.state.register q.log q.epoch B.1.1.1 B.1.1.2 k.reached)

-- in every run
pub waiting_kept : (c : Config) → IsInBounds c → Keeps c (λ hs w. Lined c hs w × AllWaiting w.state.sequencers)
unfolding find_named
waiting_kept c b = beside_kept c (Lined c) (λ hs w. AllWaiting w.state.sequencers) (lines_kept c b) (λ name q f. absurd (not_none f))
    (λ hs w e B C h. waiting_step c w.state e (looks_in c hs w B) (λ name q f. (B.0.1.acks name q f).reached) (spec_in c hs w B) h B.0.0.0.0.0 (looks_in c _ _ C))
