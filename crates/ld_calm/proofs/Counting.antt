-- In every run each number that a sequencer gave has its line.
use Rattle.std.proofs.Common.{◌≡◌, ◌∙◌, ◌≤◌, ℕ, suc, ◌+◌, inl, inr, refl, ap, sym, subst, Bool, true, false, ◌&&◌, ◌==◌, if◌then◌else◌, List, [], ◌∷◌, ◌++◌, length, Option, Some, None, append-nil, length-append, arith}
use Rattle.std.proofs.lemmas.Bool.{and_parts}
use Rattle.ld_table.specs.Named.{same, find_named, put_named}
use Rattle.ld_table.specs.Words.{how_many}
use Rattle.ld_table.proofs.NameLaws.{same-self, same-true}
use Rattle.ld_lsn.specs.Number.{numbered}
use Rattle.ld_config.specs.declared.config.Config.{Config}
use Rattle.ld_transcript.specs.declared.line.Line.{Line}
use Rattle.ld_transcript.specs.declared.line.Line.TheVariants as lines
use Rattle.ld_msg.specs.declared.msg.Msg.{Msg}
use Rattle.ld_msg.specs.declared.msg.Body.{Body}
use Rattle.ld_msg.specs.Register.{epochs_of, lce_of}
use Rattle.ld_msg.specs.Sequencer.{Sequencer, activated, appended, fresh_append, next_esn, Numbered, on_reply}
use Rattle.ld_op.specs.declared.op.Op.{Op}
use Rattle.ld_op.specs.Ticks.{Ticked, Cleans, Rebuilt, Asks, Nothing}
use Rattle.ld_machine.specs.Config.{looks_at}
use Rattle.ld_machine.specs.State.{State, Done, finish, or_none, node_at, with_node, only_state, with_sequencer, message_lines}
use Rattle.ld_machine.specs.World.{World, In}
use Rattle.ld_machine.specs.Facts.{Happened, sequencer_log}
use Rattle.ld_machine.specs.Step as Step
use Rattle.ld_machine.specs.Calm as Calm
use Rattle.ld_machine.specs.Calm.{Move, numbers_given, is_trim_to, points_issued, is_live, is_open_for, log_bound, logs_bound, calm_bound}
use Rattle.ld_machine.specs.Run.{step_happened}
use Rattle.ld_safety.specs.OneRun.{lines_in}
use Rattle.ld_safety.proofs.Lists.{cond_both, Some_inj, not_none, not_both, how_many-yes, how_many-no}
use Rattle.ld_safety.proofs.Names.{Once, named_cases, found}
use Rattle.ld_safety.proofs.Traces.{Keeps, beside_kept}
use Rattle.ld_safety.proofs.Appends.{RowOf}
use Rattle.ld_safety.proofs.Continues.{reply_continues, retry_continues}
use Rattle.ld_safety.proofs.Events.{Cases, dispatch, refreshed, announced, retry_call}
use Rattle.ld_safety.proofs.Base.{Base, base_kept, counts_of}
use Rattle.ld_calm.specs.Lines.{is_log, appends_to, appended_lines}
use Rattle.ld_calm.proofs.Deliveries.{reply_call}

-- ---- counts ----

pub how_many_append : {X : Type 0} (p : X → Bool) (xs ys : List X) → how_many p (xs ++ ys) ≡ how_many p xs + how_many p ys
how_many_append p [] ys = omega arith
how_many_append p (x ∷ xs) ys = by_head (p x) (how_many_append p xs ys) where
  by_head : (b : Bool) → how_many p (xs ++ ys) ≡ how_many p xs + how_many p ys → (if b then suc (how_many p (xs ++ ys)) else how_many p (xs ++ ys)) ≡ (if b then suc (how_many p xs) else how_many p xs) + how_many p ys
  by_head true ih = omega arith
  by_head false ih = ih

-- a step's lines come to those before
pub lines_more : (p : Line → Bool) (hs : List Happened) (h : Happened) → how_many p (lines_in (hs ++ h ∷ [])) ≡ how_many p (lines_in hs) + how_many p h.lines
lines_more p [] h = let z : how_many p h.lines ≡ 0 + how_many p h.lines = omega arith in ap (how_many p) (append-nil h.lines) ∙ z
lines_more p (g ∷ hs) h =
    let ih : how_many p (lines_in (hs ++ h ∷ [])) ≡ how_many p (lines_in hs) + how_many p h.lines = lines_more p hs h in
    let a = how_many_append p g.lines (lines_in (hs ++ h ∷ [])) in let b = how_many_append p g.lines (lines_in hs) in omega arith

or_none_more : (p : Line → Bool) (xs : List Line) → how_many p xs ≤ how_many p (or_none xs)
or_none_more p [] = omega arith
or_none_more p (x ∷ xs) = omega arith

-- all of what is told is among its lines
pub finished_more : (p : Line → Bool) (d : Done) → how_many p d.lines ≤ how_many p (finish d).lines
unfolding finish
finished_more p d = let a = how_many_append p d.lines (message_lines d.state d.state.network.count d.sends) in let b = or_none_more p (d.lines ++ message_lines d.state d.state.network.count d.sends) in omega arith

-- ---- numbers ----

abbrev pub says_append : List ℕ → Line → Bool
says_append name (lines.Appended t n) = same name t
says_append name x = false

-- as many lines tell of a sequencer's appends as it gave numbers
abbrev pub AllTold : List Happened → List (List ℕ × Sequencer) → Type 0
AllTold hs qs = (name : List ℕ) (q : Sequencer) → find_named name qs ≡ Some q → q.lng + length q.appends ≤ how_many (says_append name) (lines_in hs)

module _ (c : Config) (s : State) (e : Move) (T : List ℕ → ℕ) (rows : (name : List ℕ) (q : Sequencer) → find_named name s.sequencers ≡ Some q → RowOf q) (H : (name : List ℕ) (q : Sequencer) → find_named name s.sequencers ≡ Some q → q.lng + length q.appends ≤ T name) where
  record Result (d : Done) : Type 0 where
    told : (name : List ℕ) (q : Sequencer) → find_named name d.state.sequencers ≡ Some q → q.lng + length q.appends ≤ T name + how_many (says_append name) d.lines

  same_told : (d : Done) → d.state.sequencers ≡ s.sequencers → Result d
  same_told d k = record { told = λ name q f. let z = H name q (subst (λ qs. find_named name qs ≡ Some q) k f) in omega arith }

  one_told : (name : List ℕ) (p : Sequencer) (d : Done) → d.state.sequencers ≡ put_named name p s.sequencers → p.lng + length p.appends ≤ T name + how_many (says_append name) d.lines → Result d
  one_told name p d k h = record {
    told = λ t q f. elim (named_cases t name p s.sequencers) [
      | inl a ↦ subst (λ (x : Sequencer). x.lng + length x.appends ≤ T t + how_many (says_append t) d.lines) (Some_inj (sym a.1 ∙ subst (λ qs. find_named t qs ≡ Some q) k f)) (subst (λ z. p.lng + length p.appends ≤ T z + how_many (says_append z) d.lines) (sym a.0) h)
      | inr a ↦ (let z = H t q (sym a.1 ∙ subst (λ qs. find_named t qs ≡ Some q) k f) in omega arith)
    ];
  }

  goes_told : (name : List ℕ) (q p : Sequencer) (d : Done) → find_named name s.sequencers ≡ Some q → d.state.sequencers ≡ put_named name p s.sequencers → p.lng + length p.appends ≡ q.lng + length q.appends → Result d
  goes_told name q p d f k g = one_told name p d k (let z = H name q f in omega arith)

  told_cases : Cases c s e (λ d m. Result d)
  unfolding activated
  told_cases = record {
    still = λ f older i. same_told _ refl;
    says = λ x q. same_told _ refl;
    node_hears = λ f older n m i t v o. handled f n m (Step.node_handles n (node_at s n) m).op (Step.node_handles n (node_at s n) m).answer;
    loads = λ n ls q b o. same_told _ refl;
    draw_fails = λ n b. same_told _ refl;
    formats = λ n r g b v i. same_told _ refl;
    ticks = λ n l t v i o. ticked n l t;
    stops = λ n b. same_told _ refl;
    wipes = λ n. same_told _ refl;
    faults = λ n f o. same_told _ refl;
    sets = λ l r x set g. same_told _ refl;
    swaps = λ n m l x r q i. same_told _ refl;
    arms = λ k done o. same_told _ refl;
    hears = λ f older name q m i t l v o. let z = reply_continues c s q (rows name q v.named) name (Step.sender_node m.from) m.body v.there in goes_told name q (reply_call c s q (Step.sender_node m.from) m.body).acts.sequencer (Step.acted c (refreshed s f) name q (on_reply (looks_at c s.register q.log) q (Step.sender_node m.from) m.body)) v.named refl (let u = z.count in omega arith);
    retries = λ again name q v o. let z = retry_continues c s q (rows name q v.named) v.there in goes_told name q (retry_call c s q).acts.sequencer (Step.told s name q (announced again (retry_call c s q))) v.named refl (let u = z.count in omega arith);
    appends = λ name q p v a i. one_told name (appended q p) (Step.append_done s name q p Numbered) refl (appended_told name q p (numbered q.epoch (next_esn q)) (H name q v.named));
    trims = λ name q t v b. same_told _ refl;
    drops = λ name q v o. goes_told name q (Step.dropped q) (only_state (with_sequencer s name (Step.dropped q))) v.named refl refl;
    activates = λ name l r g n i x. one_told name (activated (looks_at c r l) (Step.spec_set c s l) l (epochs_of r l).epoch (lce_of r l)) (Step.activated_as c s name l r (epochs_of r l).epoch (lce_of r l)) refl (omega arith);
    activate_fails = λ name l x g q. same_told _ refl;
    answers = λ f older name d m i t v o. same_told _ refl;
    polls = λ name d v o. same_told _ refl;
    opens = λ style name l from until o x. same_told _ refl;
  } where
    handled : (f : List ℕ) (n : ℕ) (m : Msg) (o : Option Op) (b : Option Body) → Result (Step.handles (with_node (refreshed s f) n (Step.releases (node_at s n) m.log m.body)) n m o b)
    handled f n m None b = same_told (Step.handles (with_node (refreshed s f) n (Step.releases (node_at s n) m.log m.body)) n m None b) refl
    handled f n m (Some o) b = same_told (Step.handles (with_node (refreshed s f) n (Step.releases (node_at s n) m.log m.body)) n m (Some o) b) refl

    ticked : (n l : ℕ) (t : Ticked) → Result (Step.ticks_as c s n l t)
    ticked n l (Cleans k y) = same_told (Step.ticks_as c s n l (Cleans k y)) refl
    ticked n l Rebuilt = same_told (Step.ticks_as c s n l Rebuilt) refl
    ticked n l (Asks from) = same_told (Step.ticks_as c s n l (Asks from)) refl
    ticked n l Nothing = same_told (Step.ticks_as c s n l Nothing) refl

    appended_told : (name : List ℕ) (q : Sequencer) (p : List ℕ) (n : ℕ) → q.lng + length q.appends ≤ T name → (appended q p).lng + length (appended q p).appends ≤ T name + how_many (says_append name) (lines.Appended name n ∷ [])
    appended_told name q p n h = let a = length-append q.appends ((numbered q.epoch (next_esn q), fresh_append p) ∷ []) in let b = how_many-yes (says_append name) (lines.Appended name n) [] (same-self name) in omega arith

still_there : (d : Done) (name : List ℕ) (q : Sequencer) → find_named name (finish d).state.sequencers ≡ Some q → find_named name d.state.sequencers ≡ Some q
unfolding finish
still_there d name q f = f

pub told_kept : (c : Config) → Keeps c (λ hs w. Base c hs w × AllTold hs w.state.sequencers)
unfolding find_named
told_kept c = beside_kept c (Base c) (λ hs w. AllTold hs w.state.sequencers) (base_kept c) (λ name q f. absurd (not_none f)) (λ hs w e B n A name q f.
    let z = (dispatch c w.state e (λ d m. Result c w.state e (λ t. how_many (says_append t) (lines_in hs)) (λ t p g. (counts_of c hs w B t p g).row) A d) B.0.0 (told_cases c w.state e (λ t. how_many (says_append t) (lines_in hs)) (λ t p g. (counts_of c hs w B t p g).row) A)).told name q (still_there (Calm.moves c w.state e) name q f) in
    let u = lines_more (says_append name) hs (step_happened c w.state e) in let v = finished_more (says_append name) (Calm.moves c w.state e) in omega arith)

-- ---- a log's numbers ----

-- of the log's sequencers, how many have this name
abbrev named_for : ℕ → List ℕ → List (List ℕ × Sequencer) → ℕ
named_for l t [] = 0
named_for l t (q ∷ qs) = (if (q.1.log == l) && same q.0 t then 1 else 0) + named_for l t qs

none_named : (l : ℕ) (t : List ℕ) (q : List ℕ × Sequencer) (qs : List (List ℕ × Sequencer)) → ((f : List ℕ × Sequencer) → In f qs → same q.0 f.0 ≡ false) → same q.0 t ≡ true → named_for l t qs ≡ 0
none_named l t q [] h k = refl
none_named l t q (p ∷ qs) h k = by_name ((p.1.log == l) && same p.0 t) refl (none_named l t q qs (λ f i. h f (inr i)) k) where
  by_name : (b : Bool) → ((p.1.log == l) && same p.0 t) ≡ b → named_for l t qs ≡ 0 → (if b then 1 else 0) + named_for l t qs ≡ 0
  by_name true e ih = absurd (let a = and_parts (p.1.log == l) (same p.0 t) e in let x = same-true p.0 t a.1 in let y = same-true q.0 t k in
      let z : same q.0 p.0 ≡ true = subst (λ n. same q.0 n ≡ true) (y ∙ sym x) (same-self q.0) in not_both (same q.0 p.0) z (h p (inl refl)))
  by_name false e ih = omega arith

-- at most one has it, and then the log is that of the name
one_named : (hs : List Happened) (l : ℕ) (t : List ℕ) (qs : List (List ℕ × Sequencer)) → Once qs → ((q : List ℕ × Sequencer) → In q qs → sequencer_log q.0 hs ≡ Some q.1.log) → named_for l t qs ≤ (if is_log l (sequencer_log t hs) then 1 else 0)
one_named hs l t [] o k = omega arith
one_named hs l t (q ∷ qs) o k = by_name ((q.1.log == l) && same q.0 t) refl (one_named hs l t qs o.1 (λ p i. k p (inr i))) where
  by_name : (b : Bool) → ((q.1.log == l) && same q.0 t) ≡ b → named_for l t qs ≤ (if is_log l (sequencer_log t hs) then 1 else 0) → (if b then 1 else 0) + named_for l t qs ≤ (if is_log l (sequencer_log t hs) then 1 else 0)
  by_name true e ih =
      let a = and_parts (q.1.log == l) (same q.0 t) e in
      let none = none_named l t q qs o.0 a.1 in
      let known : sequencer_log t hs ≡ Some q.1.log = subst (λ n. sequencer_log n hs ≡ Some q.1.log) (same-true q.0 t a.1) (k q (inl refl)) in
      let of : is_log l (sequencer_log t hs) ≡ true = ap (is_log l) known ∙ a.0 in
      subst (λ (v : Bool). 1 + named_for l t qs ≤ (if v then 1 else 0)) (sym of) (omega arith)
  by_name false e ih = omega arith

-- the lines of the log's sequencers, by name
abbrev told_in : ℕ → List Line → List (List ℕ × Sequencer) → ℕ
told_in l ls [] = 0
told_in l ls (q ∷ qs) = (if q.1.log == l then how_many (says_append q.0) ls else 0) + told_in l ls qs

told_none : (l : ℕ) (qs : List (List ℕ × Sequencer)) → told_in l [] qs ≡ 0
told_none l [] = refl
told_none l (q ∷ qs) = cond_both (q.1.log == l) 0 0 (λ n. n + told_in l [] qs ≡ 0) (λ t. let z : told_in l [] qs ≡ 0 = told_none l qs in omega arith) (λ t. let z : told_in l [] qs ≡ 0 = told_none l qs in omega arith)

-- a line adds to one of them at most
told_line : (l : ℕ) (x : Line) (ls : List Line) (qs : List (List ℕ × Sequencer)) → told_in l (x ∷ ls) qs ≡ told_in l (x ∷ []) qs + told_in l ls qs
told_line l x ls [] = refl
told_line l x ls (q ∷ qs) = by_log (q.1.log == l) (told_line l x ls qs) where
  by_log : (b : Bool) → told_in l (x ∷ ls) qs ≡ told_in l (x ∷ []) qs + told_in l ls qs
      → (if b then how_many (says_append q.0) (x ∷ ls) else 0) + told_in l (x ∷ ls) qs ≡ ((if b then how_many (says_append q.0) (x ∷ []) else 0) + told_in l (x ∷ []) qs) + ((if b then how_many (says_append q.0) ls else 0) + told_in l ls qs)
  by_log true ih = let a = how_many_append (says_append q.0) (x ∷ []) ls in omega arith
  by_log false ih = omega arith

told_appended : (l : ℕ) (t : List ℕ) (n : ℕ) (qs : List (List ℕ × Sequencer)) → told_in l (lines.Appended t n ∷ []) qs ≡ named_for l t qs
told_appended l t n [] = refl
told_appended l t n (q ∷ qs) = by_both (q.1.log == l) (same q.0 t) (told_appended l t n qs) where
  by_both : (a b : Bool) → told_in l (lines.Appended t n ∷ []) qs ≡ named_for l t qs → (if a then (if b then 1 else 0) else 0) + told_in l (lines.Appended t n ∷ []) qs ≡ (if a && b then 1 else 0) + named_for l t qs
  by_both true true ih = omega arith
  by_both true false ih = omega arith
  by_both false b ih = omega arith

told_other : (l : ℕ) (x : Line) (qs : List (List ℕ × Sequencer)) → ((name : List ℕ) → says_append name x ≡ false) → told_in l (x ∷ []) qs ≡ 0
told_other l x [] h = refl
told_other l x (q ∷ qs) h = let ih : told_in l (x ∷ []) qs ≡ 0 = told_other l x qs h in let a = how_many-no (says_append q.0) x [] (h q.0) in
    cond_both (q.1.log == l) (how_many (says_append q.0) (x ∷ [])) 0 (λ n. n + told_in l (x ∷ []) qs ≡ 0) (λ t. omega arith) (λ t. omega arith)

one_line : (hs : List Happened) (l : ℕ) (x : Line) (qs : List (List ℕ × Sequencer)) → Once qs → ((q : List ℕ × Sequencer) → In q qs → sequencer_log q.0 hs ≡ Some q.1.log) → told_in l (x ∷ []) qs ≤ (if appends_to hs l x then 1 else 0)
one_line hs l (lines.Appended t n) qs o k = let a = told_appended l t n qs in let b = one_named hs l t qs o k in omega arith
one_line hs l x qs o k = let a = told_other l x qs (λ name. refl) in omega arith

told_most : (hs : List Happened) (l : ℕ) (ls : List Line) (qs : List (List ℕ × Sequencer)) → Once qs → ((q : List ℕ × Sequencer) → In q qs → sequencer_log q.0 hs ≡ Some q.1.log) → told_in l ls qs ≤ how_many (appends_to hs l) ls
told_most hs l [] qs o k = let z = told_none l qs in omega arith
told_most hs l (x ∷ ls) qs o k = by_line (appends_to hs l x) (told_line l x ls qs) (told_most hs l ls qs o k) (one_line hs l x qs o k) where
  by_line : (v : Bool) → told_in l (x ∷ ls) qs ≡ told_in l (x ∷ []) qs + told_in l ls qs → told_in l ls qs ≤ how_many (appends_to hs l) ls → told_in l (x ∷ []) qs ≤ (if v then 1 else 0) → told_in l (x ∷ ls) qs ≤ (if v then suc (how_many (appends_to hs l) ls) else how_many (appends_to hs l) ls)
  by_line true a ih b = omega arith
  by_line false a ih b = omega arith

given_told : (hs : List Happened) (l : ℕ) (qs : List (List ℕ × Sequencer)) → ((q : List ℕ × Sequencer) → In q qs → q.1.lng + length q.1.appends ≤ how_many (says_append q.0) (lines_in hs)) → numbers_given l qs ≤ told_in l (lines_in hs) qs
given_told hs l [] h = omega arith
given_told hs l (q ∷ qs) h = by_log (q.1.log == l) (h q (inl refl)) (given_told hs l qs (λ p i. h p (inr i))) where
  by_log : (v : Bool) → q.1.lng + length q.1.appends ≤ how_many (says_append q.0) (lines_in hs) → numbers_given l qs ≤ told_in l (lines_in hs) qs
      → (if v then q.1.lng + length q.1.appends else 0) + numbers_given l qs ≤ (if v then how_many (says_append q.0) (lines_in hs) else 0) + told_in l (lines_in hs) qs
  by_log true a ih = omega arith
  by_log false a ih = omega arith

-- as many lines tell of a log's appends as its sequencers gave numbers
pub numbers_told : (c : Config) (hs : List Happened) (w : World) → Base c hs w → AllTold hs w.state.sequencers → (l : ℕ) → numbers_given l w.state.sequencers ≤ appended_lines hs l
numbers_told c hs w B A l =
    let a = given_told hs l w.state.sequencers (λ q i. A q.0 q.1 (found w.state.sequencers q B.0.0.0 i)) in
    let b = told_most hs l (lines_in hs) w.state.sequencers B.0.0.0 (λ q i. (counts_of c hs w B q.0 q.1 (found w.state.sequencers q B.0.0.0 i)).known) in omega arith
