-- A sequencer's acknowledged numbers were told so in lines: each number up to its last one such that it and all below are acknowledged, and each pending one that has enough copies.
use Rattle.std.proofs.Common.{false, Bool, ◌≡◌, ◌∙◌, ◌≤◌, ◌<◌, ℕ, ◌+◌, inl, inr, refl, ap, sym, subst, true, nat_le, if◌then◌else◌, List, [], ◌∷◌, ◌++◌, length, Option, Some, None, arith}
use Rattle.std.proofs.lemmas.Bool.{cases_Bool, cases_order, leb-true}
use Rattle.ld_table.specs.Table.{find, put}
use Rattle.ld_table.specs.Named.{find_named, put_named}
use Rattle.ld_lsn.specs.Number.{numbered}
use Rattle.ld_config.specs.declared.config.Config.{Config}
use Rattle.ld_config.specs.Bounds.{IsInBounds}
use Rattle.ld_transcript.specs.declared.line.Line.TheVariants as lines
use Rattle.ld_msg.specs.declared.msg.Msg.{Msg}
use Rattle.ld_msg.specs.declared.msg.Body.{Body}
use Rattle.ld_msg.specs.declared.msg.Summary.{Summary}
use Rattle.ld_msg.specs.Register.{Register, View, epochs_of, lce_of}
use Rattle.ld_msg.specs.Sequencer.{Sequencer, Recovery, Append, Acts, Called, Numbered, appended, fresh_append, activated, next_esn, is_acked, acked_first, stored_at, with_append, raised, rose, released_of}
use Rattle.ld_op.specs.declared.op.Op.{Op}
use Rattle.ld_op.specs.Ticks.{Ticked, Cleans, Rebuilt, Asks, Nothing}
use Rattle.ld_machine.specs.Config.{looks_at}
use Rattle.ld_machine.specs.Disk.{Node}
use Rattle.ld_machine.specs.State.{State, Done, finish, node_at, with_node, with_sequencer, only_state}
use Rattle.ld_machine.specs.Facts.{Happened, OfLog}
use Rattle.ld_machine.specs.World.{World, In}
use Rattle.ld_machine.specs.Invariant.{Acked}
use Rattle.ld_machine.specs.Run.{after_step}
use Rattle.ld_machine.specs.Step as Step
use Rattle.ld_safety.proofs.Lists.{Some_inj, not_none, only, In-append, In_left, In_right, slice_get_last, slice_get-In}
use Rattle.ld_safety.proofs.Members.{find_in, In_put}
use Rattle.ld_safety.proofs.Names.{named_cases}
use Rattle.ld_safety.proofs.Traces.{Keeps, step_happened, beside_kept}
use Rattle.ld_safety.proofs.Steps.{told, writes_before, finish_In}
use Rattle.ld_safety.proofs.Events.{reply_call, retry_call, announced, Cases, dispatch, Live, refreshed}
use Rattle.ld_safety.proofs.SequencerSteps.{Acting, Retrying, Closing, gone_of, replied, retried}
use Rattle.ld_safety.proofs.Appends.{RowOf, put_in_row}
use Rattle.ld_safety.proofs.Acks.{acked_in_row, unacked_in, raised_in}
use Rattle.ld_safety.proofs.Base.{counts_of}
use Rattle.ld_safety.proofs.Given.{of_log_grows}
use Rattle.ld_safety.proofs.GivenSteps.{BaseGiven}
use Rattle.ld_safety.proofs.Along.{Along}
use Rattle.ld_safety.proofs.AlongSteps.{along_kept}
use Rattle.ld_safety.proofs.Specs.{SpecFine, SetsFine, start_fine, fixed_fine, fine_step}
use Rattle.ld_machine.specs.Calm.{Move}

pub record LinesFine (hs : List Happened) (q : Sequencer) : Type 0 where
  pub appends : (p : ℕ × Append) → In p q.appends → is_acked q.spec p.1 ≡ true → Acked hs q.log p.0
  pub acked : (k : ℕ) → 0 < k → k ≤ q.lng → Acked hs q.log (numbered q.epoch k)

-- longer runs
pub acked_grows : (hs : List Happened) (old : Register) (e : Move) (d : Done) (l n : ℕ) → Acked hs l n → Acked (hs ++ told old e d ∷ []) l n
acked_grows hs old e d l n a = (a.0, record { name = a.1.name; told = writes_before hs (told old e d ∷ []) a.0 _ a.1.told; of_log = of_log_grows hs old e d l a.1.name a.1.of_log })

lines_grow : (hs : List Happened) (old : Register) (e : Move) (d : Done) (q : Sequencer) → LinesFine hs q → LinesFine (hs ++ told old e d ∷ []) q
lines_grow hs old e d q F = record { appends = λ p i t. acked_grows hs old e d q.log p.0 (F.appends p i t); acked = λ k a b. acked_grows hs old e d q.log (numbered q.epoch k) (F.acked k a b) }

-- ---- a call ----
module _ (c : Config) (hs : List Happened) (q : Sequencer) (F : LinesFine hs q) where
  -- what it leaves, where the lines tell what it acknowledged
  record CallFine (k : Called) : Type 0 where
    fine : ((n : ℕ) → In n k.acts.acked → Acked hs q.log n) → LinesFine hs k.acts.sequencer

  as_before : (k : Called) → k.acts.sequencer.log ≡ q.log → k.acts.sequencer.epoch ≡ q.epoch → k.acts.sequencer.spec ≡ q.spec → k.acts.sequencer.lng ≡ q.lng → k.acts.sequencer.appends ≡ q.appends → CallFine k
  as_before k a b g d e = record {
    fine = λ h. record {
      appends = λ p i t. subst (λ l. Acked hs l p.0) (sym a) (F.appends p (subst (λ (z : List (ℕ × Append)). In p z) e i) (subst (λ x. is_acked x p.1 ≡ true) g t));
      acked = λ j lo hi. subst (λ l. Acked hs l (numbered k.acts.sequencer.epoch j)) (sym a) (subst (λ x. Acked hs q.log (numbered x j)) (sym b) (F.acked j lo (omega arith)));
    };
  }

  -- waves are raised
  raised_lines : (p : ℕ × Append) → In p (raised q.spec q.appends) → is_acked q.spec p.1 ≡ true → Acked hs q.log p.0
  raised_lines p i t = let z = raised_in q.spec q.appends p i in
      subst (Acked hs q.log) (sym z.2) (F.appends z.0 z.1 (subst (λ ys. nat_le q.spec.r (length ys) ≡ true) z.4 t))

  as_raised : (k : Called) → k.acts.sequencer.log ≡ q.log → k.acts.sequencer.epoch ≡ q.epoch → k.acts.sequencer.spec ≡ q.spec → k.acts.sequencer.lng ≡ q.lng → k.acts.sequencer.appends ≡ raised q.spec q.appends → CallFine k
  as_raised k a b g d e = record {
    fine = λ h. record {
      appends = λ p i t. subst (λ l. Acked hs l p.0) (sym a) (raised_lines p (subst (λ (z : List (ℕ × Append)). In p z) e i) (subst (λ x. is_acked x p.1 ≡ true) g t));
      acked = λ j lo hi. subst (λ l. Acked hs l (numbered k.acts.sequencer.epoch j)) (sym a) (subst (λ x. Acked hs q.log (numbered x j)) (sym b) (F.acked j lo (omega arith)));
    };
  }

  -- a node stored an append
  module _ (y n : ℕ) (p : Append) (f : find n q.appends ≡ Some p) (R : RowOf q)
      (h : (k : ℕ) → In k (if is_acked q.spec p then [] else if is_acked q.spec (stored_at p y) then n ∷ [] else []) → Acked hs q.log k) where
    stored_now : is_acked q.spec (stored_at p y) ≡ true → Acked hs q.log n
    stored_now t = elim (cases_Bool (is_acked q.spec p)) [
      | inl u ↦ F.appends (n, p) (find_in n q.appends p f) u
      | inr u ↦ h n (subst (λ b. In n (if b then [] else if is_acked q.spec (stored_at p y) then n ∷ [] else [])) (sym u) (subst (λ b. In n (if b then n ∷ [] else [])) (sym t) (inl refl)))
    ]

    put_now : (x : ℕ × Append) → In x (put n (stored_at p y) q.appends) → is_acked q.spec x.1 ≡ true → Acked hs q.log x.0
    put_now x i t = elim (In_put n (stored_at p y) q.appends x i) [
      | inl e ↦ subst (λ (z : ℕ × Append). Acked hs q.log z.0) (sym e) (stored_now (subst (λ (z : ℕ × Append). is_acked q.spec z.1 ≡ true) e t))
      | inr j ↦ F.appends x j t
    ]

    stored_lines : LinesFine hs (with_append q.spec q n (stored_at p y))
    stored_lines = record {
      appends = λ x i t. put_now x (unacked_in q.spec (put n (stored_at p y) q.appends) x i) t;
      acked = λ k lo hi. elim (cases_order k (q.lng + 1)) [
        | inl e ↦ newly k lo hi (omega arith)
        | inr (inl l) ↦ F.acked k lo (omega arith)
        | inr (inr l) ↦ newly k lo hi (omega arith)
      ];
    } where
      newly : (k : ℕ) → 0 < k → k ≤ q.lng + acked_first q.spec (put n (stored_at p y) q.appends) → q.lng + 1 ≤ k → Acked hs q.log (numbered q.epoch k)
      newly k lo hi l = let t = put_in_row (numbered q.epoch (q.lng + 1)) n (stored_at p y) p q.appends R f in
          let z = acked_in_row q.spec (numbered q.epoch (q.lng + 1)) (put n (stored_at p y) q.appends) (numbered q.epoch k) t.row (omega arith) (omega arith) in
          subst (Acked hs q.log) z.2 (put_now z.0 z.1 z.3)

  close_before : (r : Register) (looks : ℕ → View) (a : Acts) (e : ℕ) (y : Summary) (short : Bool) → a.sequencer.log ≡ q.log → a.sequencer.epoch ≡ q.epoch → a.sequencer.spec ≡ q.spec → a.sequencer.lng ≡ q.lng → a.sequencer.appends ≡ q.appends → Closing r looks a e y short CallFine
  close_before r looks a e y short l b k g x = record { granted = λ n h o i. as_before _ l b k g x; passed = λ h. as_before _ l b k g x; behind = λ u h. as_before _ l b k g x; overtaken = λ h o. as_before _ l b k g x; failed = λ n i. as_before _ l b k g x }

  close_raised : (r : Register) (looks : ℕ → View) (a : Acts) (e : ℕ) (y : Summary) (short : Bool) → a.sequencer.log ≡ q.log → a.sequencer.epoch ≡ q.epoch → a.sequencer.spec ≡ q.spec → a.sequencer.lng ≡ q.lng → a.sequencer.appends ≡ raised q.spec q.appends → Closing r looks a e y short CallFine
  close_raised r looks a e y short l b k g x = record { granted = λ n h o i. as_raised _ l b k g x; passed = λ h. as_raised _ l b k g x; behind = λ u h. as_raised _ l b k g x; overtaken = λ h o. as_raised _ l b k g x; failed = λ n i. as_raised _ l b k g x }

  acting_lines : (r : Register) (gone : Recovery → List ℕ) (y : ℕ) (b : Body) → RowOf q → Acting c r gone q y b (λ k m. CallFine k)
  acting_lines r gone y b R = record {
    quiet = as_before _ refl refl refl refl refl;
    sealed = λ n k f i l. as_before _ refl refl refl refl refl;
    cleaned_own = λ n s f i g. as_before _ refl refl refl refl refl;
    acks = λ n p f i g k m. record { fine = λ h. stored_lines y n p k R h };
    lost_own = λ n round g end f i k. as_before _ refl refl refl refl refl;
    cleaned = λ v n s f e i k. as_before _ refl refl refl refl refl;
    asks_more = λ w d asks f h a n u. as_before _ refl refl refl refl refl;
    plans = λ w d loss f h p. as_before _ refl refl refl refl refl;
    looks_closed = λ w d s f h u o. as_before _ refl refl refl refl refl;
    looks_later = λ w d f h u o n. as_before _ refl refl refl refl refl;
    stores_on = λ w g f h t. as_before _ refl refl refl refl refl;
    closes_now = λ w g f h t. close_before r _ _ w.epoch _ _ refl refl refl refl refl;
    lost_closing = λ v s short n round g end f e i h k. as_before _ refl refl refl refl refl;
  }

  retrying_lines : (r : Register) (gone : Recovery → List ℕ) → Retrying c r gone q (λ k m. CallFine k)
  retrying_lines r gone = record {
    quiet = as_before _ refl refl refl refl refl;
    appends = λ f. as_raised _ refl refl refl refl refl;
    seals = λ v d f e i u. as_raised _ refl refl refl refl refl;
    plans = λ v d f e i p. as_raised _ refl refl refl refl refl;
    looks_closed = λ v d s f e i u o. as_raised _ refl refl refl refl refl;
    looks_later = λ v d f e i u o n. as_raised _ refl refl refl refl refl;
    stores_on = λ v g f e i t. as_raised _ refl refl refl refl refl;
    closes_now = λ v g f e i t. close_raised r _ _ v.epoch _ _ refl refl refl refl refl;
    closes = λ v y short f e i. close_raised r _ _ v.epoch y short refl refl refl refl refl;
  }

-- ---- the lines of a call ----
in_numbered : (name : List ℕ) (n : ℕ) (ns : List ℕ) → In n ns → In (lines.Acked name n) (Step.numbered_lines (lines.Acked name) ns)
in_numbered name n [] i = absurd i
in_numbered name n (m ∷ ns) (inl e) = inl (ap (lines.Acked name) e)
in_numbered name n (m ∷ ns) (inr i) = inr (in_numbered name n ns i)

in_acted : (name : List ℕ) (old : Sequencer) (a : Acts) (n : ℕ) → In n a.acked → In (lines.Acked name n) (Step.acted_lines name old a)
in_acted name old a n i = In_right _ (Step.numbered_lines (lines.RefusedPreempted name) a.preempts) _ (In_right _ (Step.when a.failed (lines.RefusedRegister name)) _
    (In_left _ (Step.numbered_lines (lines.Acked name) a.acked) (Step.numbered_lines (lines.Clean name) a.closed ++ Step.when (rose old a.sequencer) (lines.Released name (released_of a.sequencer))) (in_numbered name n a.acked i)))

module _ (c : Config) (hs : List Happened) (s : State) (e : Move) (D : (t : List ℕ) (q : Sequencer) → find_named t s.sequencers ≡ Some q → LinesFine hs q) (known : (t : List ℕ) (q : Sequencer) → find_named t s.sequencers ≡ Some q → OfLog hs q.log t)
    (rows : (t : List ℕ) (q : Sequencer) → find_named t s.sequencers ≡ Some q → RowOf q) (fine : (t : List ℕ) (q : Sequencer) → find_named t s.sequencers ≡ Some q → SpecFine q.spec) where
  Result : Done → Type 0
  Result d = (t : List ℕ) (v : Sequencer) → find_named t d.state.sequencers ≡ Some v → LinesFine (hs ++ told s.register e d ∷ []) v

  stays : (d : Done) → d.state.sequencers ≡ s.sequencers → Result d
  unfolding Result
  stays d q t v f = lines_grow hs s.register e d v (D t v (subst (λ (m : List (List ℕ × Sequencer)). find_named t m ≡ Some v) q f))

  puts : (d : Done) (name : List ℕ) (p : Sequencer) → d.state.sequencers ≡ put_named name p s.sequencers → LinesFine (hs ++ told s.register e d ∷ []) p → Result d
  unfolding Result
  puts d name p z A t v f = elim (named_cases t name p s.sequencers) [
    | inl a ↦ subst (LinesFine (hs ++ told s.register e d ∷ [])) (Some_inj (sym a.1 ∙ (ap (find_named t) (sym z) ∙ f))) A
    | inr a ↦ lines_grow hs s.register e d v (D t v (sym a.1 ∙ (ap (find_named t) (sym z) ∙ f)))
  ]

  told_acked : (d : Done) (name : List ℕ) (q : Sequencer) (n : ℕ) → find_named name s.sequencers ≡ Some q → In (lines.Acked name n) d.lines → Acked (hs ++ told s.register e d ∷ []) q.log n
  told_acked d name q n f i = let y = slice_get-In _ _ (finish_In d _ i) in (length hs, record { name = name; told = (told s.register e d, slice_get_last (told s.register e d) hs [], y.0, y.1); of_log = of_log_grows hs s.register e d q.log name (known name q f) })

  acted : (again : Bool) (f : List ℕ) (name : List ℕ) (q : Sequencer) (call : Called) → find_named name s.sequencers ≡ Some q → ((gs : List Happened) (F : LinesFine gs q) → CallFine c gs q F call) → Result (Step.told (refreshed s f) name q (announced again call))
  acted again f name q call g h = let d : Done = Step.told (refreshed s f) name q (announced again call) in let k : Called = call in
      puts d name k.acts.sequencer refl ((h (hs ++ told s.register e d ∷ []) (lines_grow hs s.register e d q (D name q g))).fine (λ n i. told_acked d name q n g (in_acted name q k.acts n i)))

  appends_on : (name : List ℕ) (q : Sequencer) (payload : List ℕ) → Live s name q → Result (Step.append_done s name q payload Numbered)
  appends_on name q payload v = let d : Done = Step.append_done s name q payload Numbered in let F = lines_grow hs s.register e d q (D name q v.named) in
      puts d name (appended q payload) refl (record {
        appends = λ p i t. elim (In-append p q.appends ((numbered q.epoch (next_esn q), fresh_append payload) ∷ []) i) [
          | inl j ↦ F.appends p j t
          | inr j ↦ absurd (let z = only p (numbered q.epoch (next_esn q), fresh_append payload) j in let y : is_acked q.spec (fresh_append payload) ≡ true = subst (λ (x : ℕ × Append). is_acked q.spec x.1 ≡ true) z t in let u = leb-true _ _ y in let w = (fine name q v.named).least in omega arith)
        ];
        acked = F.acked;
      })

  activates_on : (name : List ℕ) (l : ℕ) (k : Register) → Result (Step.activated_as c s name l k (epochs_of k l).epoch (lce_of k l))
  unfolding activated
  activates_on name l k = puts (Step.activated_as c s name l k (epochs_of k l).epoch (lce_of k l)) name (activated (looks_at c k l) (Step.spec_set c s l) l (epochs_of k l).epoch (lce_of k l)) refl (record { appends = λ p i t. absurd i; acked = λ j lo hi. absurd (omega arith) })

  handled : (f : List ℕ) (x : Node) (n : ℕ) (m : Msg) (o : Option Op) (a : Option Body) → Result (Step.handles (with_node (refreshed s f) n x) n m o a)
  handled f x n m None a = stays (Step.handles (with_node (refreshed s f) n x) n m None a) refl
  handled f x n m (Some o) a = stays (Step.handles (with_node (refreshed s f) n x) n m (Some o) a) refl

  ticked : (n l : ℕ) (t : Ticked) → Result (Step.ticks_as c s n l t)
  ticked n l (Cleans k y) = stays (Step.ticks_as c s n l (Cleans k y)) refl
  ticked n l Rebuilt = stays (Step.ticks_as c s n l Rebuilt) refl
  ticked n l (Asks from) = stays (Step.ticks_as c s n l (Asks from)) refl
  ticked n l Nothing = stays (Step.ticks_as c s n l Nothing) refl

  line_cases : Cases c s e (λ d m. Result d)
  line_cases = record {
    still = λ f older i. stays _ refl;
    says = λ x q. stays _ refl;
    node_hears = λ f older n m i t v o. handled f (Step.releases (node_at s n) m.log m.body) n m (Step.node_handles n (node_at s n) m).op (Step.node_handles n (node_at s n) m).answer;
    loads = λ n ls q a o. stays _ refl;
    draw_fails = λ n a. stays _ refl;
    formats = λ n k g a v i. stays _ refl;
    ticks = λ n l t v i o. ticked n l t;
    stops = λ n a. stays _ refl;
    wipes = λ n. stays _ refl;
    faults = λ n f o. stays _ refl;
    sets = λ l r x set h. stays _ refl;
    arms = λ k done o. stays _ refl;
    hears = λ f older name q m i t l v o. acted false f name q (reply_call c s q (Step.sender_node m.from) m.body) v.named (λ gs F. replied c s name q v.there (Step.sender_node m.from) m.body (λ k n. CallFine c gs q F k) (acting_lines c gs q F s.register (gone_of s q) (Step.sender_node m.from) m.body (rows name q v.named)));
    retries = λ again name q v o. acted again s.network.fresh name q (retry_call c s q) v.named (λ gs F. retried c s q v.there (λ k n. CallFine c gs q F k) (retrying_lines c gs q F s.register (gone_of s q)));
    appends = λ name q p v a i. appends_on name q p v;
    trims = λ name q t v a. stays _ refl;
    drops = λ name q v o. puts (only_state (with_sequencer s name (Step.dropped q))) name (Step.dropped q) refl (let F = lines_grow hs s.register e (only_state (with_sequencer s name (Step.dropped q))) q (D name q v.named) in record { appends = F.appends; acked = F.acked });
    activates = λ name l k g n i x. activates_on name l k;
    swaps = λ n m l x r q i. stays _ refl;
    activate_fails = λ name l x g q. stays _ refl;
    answers = λ f older name d m i t v o. stays _ refl;
    polls = λ name d v o. stays _ refl;
    opens = λ style name l from until o x. stays _ refl;
  }

-- ---- along a run ----
abbrev pub AllLines : List Happened → World → Type 0
AllLines hs w = (t : List ℕ) (q : Sequencer) → find_named t w.state.sequencers ≡ Some q → LinesFine hs q

pub lines_step : (c : Config) → IsInBounds c → (hs : List Happened) (w : World) (e : Move) → BaseGiven c hs w × Along c hs w → SetsFine w.state → AllLines hs w → AllLines (hs ++ step_happened c w.state e ∷ []) (after_step c w e)
unfolding finish Result
lines_step c b hs w e B A D = dispatch c w.state e (λ d m. Result c hs w.state e D known rows fine d) B.0.0.0.0 (line_cases c hs w.state e D known rows fine) where
  known : (t : List ℕ) (q : Sequencer) → find_named t w.state.sequencers ≡ Some q → OfLog hs q.log t
  known t q f = (counts_of c hs w B.0.0 t q f).known

  rows : (t : List ℕ) (q : Sequencer) → find_named t w.state.sequencers ≡ Some q → RowOf q
  rows t q f = (counts_of c hs w B.0.0 t q f).row

  fine : (t : List ℕ) (q : Sequencer) → find_named t w.state.sequencers ≡ Some q → SpecFine q.spec
  fine t q f = let k = B.1.acks t q f in subst SpecFine (sym k.spec) (fixed_fine c b w.state.register q.log q.epoch A.1 k.kept k.reached)

pub lines_kept : (c : Config) → IsInBounds c → Keeps c (λ hs w. (BaseGiven c hs w × Along c hs w) × (AllLines hs w × SetsFine w.state))
unfolding find_named
lines_kept c b = beside_kept c (λ hs w. BaseGiven c hs w × Along c hs w) (λ hs w. AllLines hs w × SetsFine w.state) (along_kept c) ((λ t q f. absurd (not_none f)), start_fine c)
    (λ hs w e B C D. (lines_step c b hs w e B D.1 D.0, fine_step c b w.state e B.0.0.0.0 D.1))
