-- Frames that are taken together, from the first one that is staged to the last one that is answered.
use Rattle.std.proofs.Common.{◌≡◌, ◌≢◌, ◌≤◌, ◌+◌, ◌<◌, ◌⊎◌, ℕ, zero, suc, List, [], ◌∷◌, ◌++◌, length, take, get_or, refl, sym, ap, ◌∙◌, subst, arith, inl, inr, ⊎_elim, append-nil, append_assoc, length-append}
use Rattle.std.proofs.lemmas.Bool.{cases_eq}
use Rattle.std.specs.Prelude.{Bool, true, false, ◌==◌, if◌then◌else◌, Option, None, Some, IfOk}
use Rattle.std.specs.declared.result.Result.{Result}
use Rattle.std.specs.declared.result.Result.TheVariants.{Ok, Err}
use Rattle.std.specs.Option.{unwrap_or}
use Rattle.ld_past.specs.Events.{Event}
use Rattle.ld_msg.specs.declared.msg.Msg.{Msg}
use Rattle.ld_msg.specs.Bounds.{IsMessage}
use Rattle.ld_wire.specs.Frames.{frame_of}
use Rattle.ld_wire.specs.Streams.{frames_of}
use Rattle.ld_crowd.specs.Calls.{said, read_of}
use Rattle.ld_crowd.specs.Course.{Taken, of, frames, after_taken}
use Rattle.ld_crowd.specs.Serving.{GoesOn, put, plain, turns_of, AreSteps}
use Rattle.ld_crowd.proofs.Steps.{take_all_of, leaves, put_same, put_other, steps_more}
use Rattle.ld_crowd.proofs.Talks.{same_self, not_same, after_append}
use Rattle.ld_op.specs.Plain.{Plain}
use Rattle.ld_store.specs.Ops.{StandsFor, StandsForEither}
use Rattle.ld_layout.specs.Layout.{Layout}
use Rattle.ld_node.specs.Known.{Known}
use Rattle.ld_node.specs.Changes.{IsPast}
use Rattle.ld_serve.specs.Serving.{State, after, answers, done}
use Rattle.ld_serve.specs.Talking.{Given, AreGiven, IsServing, IsLess, BeginsNone}
use Rattle.ld_serve.specs.Told.{Memory, IsIndexStep, AreIndexSteps}
use Rattle.ld_serve.specs.Crowd.{AreNextOf, IsBehindSome, givens, AreTaken, AreTakenOn}
use Rattle.ld_serve.specs.declared.stop.Stop.{Stop}
use Rattle.ld_serve.specs.declared.group.Answer.{Answer}
use Rattle.ld_serve.specs.declared.group.Ending.{Ending}
use Rattle.ld_serve.specs.declared.group.Ending.TheVariants as ends
use Rattle.ld_serve.specs.Group.{answers_to, waiting_in, told, before, Stages, IsKeptOut, IsUnanswered, IsUnmoved, IsTaken, IsTakenOnly, Tries, Gathers, IsLost, IsStop, Ends}
use Rattle.ld_serve.proofs.CrowdStops.{less_held}
use Rattle.ld_serve.proofs.Looks.{Held}
use Rattle.ld_serve.proofs.Telling.{index_more}

-- ---- what was held before frames were taken ----

pub before_same : (ts : List (Taken Msg)) (f g : Held) → ((q : ℕ) → f q ≡ g q) → (q : ℕ) → before ts f q ≡ before ts g q
before_same [] f g same q = same q
before_same (t ∷ ts) f g same q =
    ap (λ (o : Option (List ℕ)). put t.0 (Some (frame_of t.1 ++ unwrap_or o [])) (before ts f) q) (before_same ts f g same t.0)
    ∙ ap (λ (o : Option (List ℕ)). if t.0 == q then Some (frame_of t.1 ++ unwrap_or (before ts g t.0) []) else o) (before_same ts f g same q)

-- one more behind the others
pub before_more : (ts more : List (Taken Msg)) (f : Held) → before (ts ++ more) f ≡ before ts (before more f)
before_more [] more f = refl
before_more (t ∷ ts) more f = ap (λ (h : Held). put t.0 (Some (frame_of t.1 ++ unwrap_or (h t.0) [])) h) (before_more ts more f)

put_again : (p : ℕ) (o x : Option (List ℕ)) (f : Held) (q : ℕ) → put p o (put p x f) q ≡ put p o f q
put_again p o x f q = again (p == q) (f q)
  where
    again : (b : Bool) (z : Option (List ℕ)) → (if b then o else (if b then x else z)) ≡ (if b then o else z)
    again true z = refl
    again false z = refl

-- a frame of this message was taken of what was held
pub taken_of : (p : ℕ) (m : Msg) (rest : List ℕ) (f later : Held) → ((q : ℕ) → later q ≡ put p (Some rest) f q) → (q : ℕ) → put p (Some (frame_of m ++ rest)) f q ≡ before ((p, m) ∷ []) later q
taken_of p m rest f later is q =
    sym (put_again p (Some (frame_of m ++ rest)) (Some rest) f q)
    ∙ ap (λ (l : List ℕ). put p (Some (frame_of m ++ l)) (put p (Some rest) f) q) (sym there)
    ∙ sym (before_same ((p, m) ∷ []) later (put p (Some rest) f) is q)
  where
    there : unwrap_or (put p (Some rest) f p) [] ≡ rest
    there = ap (λ (o : Option (List ℕ)). unwrap_or o []) (put_same p (Some rest) f)

-- of each peer its frames, and then what is held
module _ (t : Taken Msg) (ts : List (Taken Msg)) (later : Held) (q : ℕ) (so : unwrap_or (before ts later q) [] ≡ frames frame_of (of q ts) ++ unwrap_or (later q) []) where
  held_of_it : t.0 ≡ q → unwrap_or (before (t ∷ ts) later q) [] ≡ frames frame_of (of q (t ∷ ts)) ++ unwrap_or (later q) []
  held_of_it e =
      let yes : (t.0 == q) ≡ true = subst (λ (k : ℕ). (t.0 == k) ≡ true) e (same_self t.0) in
      ap (λ (b : Bool). unwrap_or (if b then Some (frame_of t.1 ++ unwrap_or (before ts later t.0) []) else before ts later q) []) yes
      ∙ ap (λ (k : ℕ). frame_of t.1 ++ unwrap_or (before ts later k) []) e
      ∙ ap (λ (l : List ℕ). frame_of t.1 ++ l) so
      ∙ sym (append_assoc (frame_of t.1) (frames frame_of (of q ts)) (unwrap_or (later q) []))
      ∙ ap (λ (b : Bool). frames frame_of (if b then t.1 ∷ of q ts else of q ts) ++ unwrap_or (later q) []) (sym yes)

  held_of_other : t.0 ≢ q → unwrap_or (before (t ∷ ts) later q) [] ≡ frames frame_of (of q (t ∷ ts)) ++ unwrap_or (later q) []
  held_of_other ne =
      let no : (t.0 == q) ≡ false = not_same q t.0 (λ e. ne (sym e)) in
      ap (λ (b : Bool). unwrap_or (if b then Some (frame_of t.1 ++ unwrap_or (before ts later t.0) []) else before ts later q) []) no
      ∙ so
      ∙ ap (λ (b : Bool). frames frame_of (if b then t.1 ∷ of q ts else of q ts) ++ unwrap_or (later q) []) (sym no)

pub held_before : (ts : List (Taken Msg)) (later : Held) (q : ℕ) → unwrap_or (before ts later q) [] ≡ frames frame_of (of q ts) ++ unwrap_or (later q) []
held_before [] later q = refl
held_before (t ∷ ts) later q = ⊎_elim (held_of_it t ts later q (held_before ts later q)) (held_of_other t ts later q (held_before ts later q)) (cases_eq t.0 q)

-- ---- lists of frames ----

pub plain_append : (a b : List (Taken Given)) → plain (a ++ b) ≡ plain a ++ plain b
plain_append [] b = refl
plain_append (t ∷ a) b = ap (λ (l : List (Taken Msg)). (t.0, t.1.0) ∷ l) (plain_append a b)

pub answers_append : (a b : List (Taken Given)) → answers_to (a ++ b) ≡ answers_to a ++ answers_to b
answers_append [] b = refl
answers_append (t ∷ a) b = ap (λ (l : List (ℕ × List ℕ)). (t.0, frames_of t.1.1) ∷ l) (answers_append a b)

pub answers_length : (ws : List (Taken Given)) → length (answers_to ws) ≡ length ws
answers_length [] = refl
answers_length (w ∷ ws) = (let e = answers_length ws in omega (arith, e))

pub are_more : (a b : List (Taken Given)) → AreGiven a → AreGiven b → AreGiven (a ++ b)
are_more [] b x y = y
are_more (t ∷ a) b x y = (x.0, are_more a b x.1 y)

pub are_front : (a b : List (Taken Given)) → AreGiven (a ++ b) → AreGiven a
are_front [] b x = tt
are_front (t ∷ a) b x = (x.0, are_front a b x.1)

pub waiting_more : (xs : List Answer) (a : Answer) → waiting_in (xs ++ a ∷ []) ≡ waiting_in xs ++ (a.peer, a.bytes.items) ∷ []
waiting_more [] a = refl
waiting_more (b ∷ xs) a = ap (λ (l : List (ℕ × List ℕ)). (b.peer, b.bytes.items) ∷ l) (waiting_more xs a)

-- ---- saying the answers ----

module _ (did : List Event) (ts : List (Taken Given)) (p : ℕ) (now : Held) where
  kept_as : (o : Option (List ℕ)) → GoesOn frame_of frames_of IsLess BeginsNone did ts p (Some (unwrap_or o [])) → GoesOn frame_of frames_of IsLess BeginsNone did ts p o
  kept_as None x = leaves frame_of frames_of IsLess BeginsNone did ts p (Some []) x
  kept_as (Some h) x = x

  restored : IsServing did ts (put p (Some (unwrap_or (now p) [])) now) → IsServing did ts now
  restored x q = ⊎_elim
      (λ (e : q ≡ p). subst (λ (k : ℕ). GoesOn frame_of frames_of IsLess BeginsNone did ts k (now k)) (sym e)
      (kept_as (now p) (subst (λ (o : Option (List ℕ)). GoesOn frame_of frames_of IsLess BeginsNone did ts p o) (put_same p (Some (unwrap_or (now p) [])) now) (x p))))
      (λ (ne : q ≢ p). subst (λ (o : Option (List ℕ)). GoesOn frame_of frames_of IsLess BeginsNone did ts q o) (put_other q p (Some (unwrap_or (now p) [])) now ne) (x q))
      (cases_eq q p)

-- the answers to the first frames of a group were said
pub front_said : (front : List (Taken Given)) (rest : List (Taken Msg)) (later : Held) (did : List Event) (ts : List (Taken Given))
    → IsServing did ts (before (plain front ++ rest) later) → IsServing (told (answers_to front) did) (ts ++ front) (before rest later)
front_said [] rest later did ts x = subst (λ (l : List (Taken Given)). IsServing did l (before rest later)) (sym (append-nil ts)) x
front_said (w ∷ front) rest later did ts x =
    subst (λ (l : List (Taken Given)). IsServing (told (answers_to front) (said w.0 (frames_of w.1.1) ∷ did)) l (before rest later)) (append_assoc ts (w ∷ []) front)
    (front_said front rest later (said w.0 (frames_of w.1.1) ∷ did) (ts ++ w ∷ [])
    (restored (said w.0 (frames_of w.1.1) ∷ did) (ts ++ w ∷ []) w.0 (before (plain front ++ rest) later)
    (take_all_of frame_of frames_of IsLess BeginsNone did ts w.0 w.1.0 w.1.1 (unwrap_or (before (plain front ++ rest) later w.0) []) (before (plain front ++ rest) later) x)))

pub read_told : (xs : List (ℕ × List ℕ)) (did : List Event) (q : ℕ) → read_of q (told xs did) ≡ read_of q did
read_told [] did q = refl
read_told (a ∷ xs) did q = read_told xs (said a.0 a.1 ∷ did) q

pub turns_told : (xs : List (ℕ × List ℕ)) (did : List Event) (ts : List (Taken Given)) → turns_of (told xs did) ts ≡ turns_of did ts
turns_told [] did ts = refl
turns_told (a ∷ xs) did ts = turns_told xs (said a.0 a.1 ∷ did) ts

pub told_longer : (xs : List (ℕ × List ℕ)) (did : List Event) → length did ≤ length (told xs did)
told_longer [] did = omega arith
told_longer (a ∷ xs) did = (let e = told_longer xs (said a.0 a.1 ∷ did) in omega (arith, e))

told_suc : (xs : List Answer) (i : ℕ) (d : Answer) (did : List Event) → i < length xs
    → told (take (suc i) (waiting_in xs)) did ≡ said (get_or xs i d).peer (get_or xs i d).bytes.items ∷ told (take i (waiting_in xs)) did
told_suc [] i d did less = absurd (omega arith)
told_suc (x ∷ xs) zero d did less = refl
told_suc (x ∷ xs) (suc i) d did less = told_suc xs i d (said x.peer x.bytes.items ∷ did) (omega arith)

pub told_next : (xs : List Answer) (i : ℕ) (d : Answer) (did : List Event) → i < length xs
    → told (take (i + 1) (waiting_in xs)) did ≡ said (get_or xs i d).peer (get_or xs i d).bytes.items ∷ told (take i (waiting_in xs)) did
told_next xs i d did less = (let e : i + 1 ≡ suc i = omega arith in ap (λ (j : ℕ). told (take j (waiting_in xs)) did) e ∙ told_suc xs i d did less)

pub take_waiting : (xs : List Answer) → take (length xs) (waiting_in xs) ≡ waiting_in xs
take_waiting [] = refl
take_waiting (x ∷ xs) = ap (λ (l : List (ℕ × List ℕ)). (x.peer, x.bytes.items) ∷ l) (take_waiting xs)

pub waiting_length : (xs : List Answer) → length (waiting_in xs) ≡ length xs
waiting_length [] = refl
waiting_length (x ∷ xs) = (let e = waiting_length xs in omega (arith, e))

pub turns_more : (did : List Event) (ts more : List (Taken Given)) → turns_of did (ts ++ more) ≡ turns_of did ts + length more
turns_more did ts more = (let e = length-append ts more in omega (arith, e))

-- ---- steps ----

module _ (f : State → Msg → State) (g : State → Msg → List Msg) where
  pub steps_join : (first : State) (ts ws : List (Taken Given)) (s next : State) → AreSteps f g first ts s → AreSteps f g s ws next → AreSteps f g first (ts ++ ws) next
  steps_join first [] ws s next x y = subst (λ (t : State). AreSteps f g t ws next) x y
  steps_join first (t ∷ ts) ws s next x y = (x.0, steps_join (f first t.1.0) ts ws s next x.1 y)

  pub steps_front : (s : State) (front back : List (Taken Given)) (next : State) → AreSteps f g s (front ++ back) next → AreSteps f g s front (after_taken f s (plain front))
  steps_front s [] back next x = refl
  steps_front s (t ∷ front) back next x = (x.0, steps_front (f s t.1.0) front back next x.1)

-- ---- steps over the index ----

pub givens_append : (a b : List (Taken Given)) → givens (a ++ b) ≡ givens a ++ givens b
givens_append [] b = refl
givens_append (t ∷ a) b = ap (λ (l : List Given). t.1 ∷ l) (givens_append a b)

module _ (id : ℕ) (known : Known) where
  index_join : (before : Memory) (xs ys : List Given) (mid now : Memory) → AreIndexSteps id known before xs mid → AreIndexSteps id known mid ys now → AreIndexSteps id known before (xs ++ ys) now
  index_join before [] ys mid now x y = subst (λ (m : Memory). AreIndexSteps id known m ys now) x y
  index_join before (t ∷ xs) ys mid now x y = (x.0, x.1, index_join x.0 xs ys mid now x.2 y)

  index_front : (before : Memory) (xs ys : List Given) (now : Memory) → AreIndexSteps id known before (xs ++ ys) now → (mid : Memory) × AreIndexSteps id known before xs mid
  index_front before [] ys now x = (before, refl)
  index_front before (t ∷ xs) ys now x = (let f = index_front x.0 xs ys now x.2 in (f.0, (x.0, x.1, f.1)))

  pub taken_join : (before : Memory) (ts more : List (Taken Given)) (mid now : Memory) → AreTaken id known before mid ts → AreTaken id known mid now more → AreTaken id known before now (ts ++ more)
  taken_join before ts more mid now x y = subst (λ (l : List Given). AreIndexSteps id known before l now) (sym (givens_append ts more)) (index_join before (givens ts) (givens more) mid now x y)

  pub taken_front : (before : Memory) (front back : List (Taken Given)) (now : Memory) → AreTaken id known before now (front ++ back) → AreTakenOn id known before front
  taken_front before front back now x =
      let f = index_front before (givens front) (givens back) now (subst (λ (l : List Given). AreIndexSteps id known before l now) (givens_append front back) x) in
      record { last = f.0; steps = f.1 }

  taken_more : (before : Memory) (ts : List (Taken Given)) (mid : Memory) (w : Taken Given) (now : Memory) → AreTaken id known before mid ts → IsIndexStep id known mid w.1 now → AreTaken id known before now (ts ++ w ∷ [])
  taken_more before ts mid w now x step =
      subst (λ (l : List Given). AreIndexSteps id known before l now) (sym (givens_append ts (w ∷ []))) (index_more id known before (givens ts) mid w.1 now x step)

-- ---- frames that were not answered ----

none_front : (a b : List ℕ) → [] ≡ a ++ b → a ≡ []
none_front [] b e = refl
none_front (x ∷ a) b e = absurd cc

next_of : (group : List (Taken Msg)) (later : Held) (did : List Event) (ts : List (Taken Given)) (p : ℕ) (o : Option (List ℕ)) → o ≡ before group later p
    → GoesOn frame_of frames_of IsLess BeginsNone did ts p o → AreNextOf did ts group p
next_of group later did ts p None is x =
    let none : frames frame_of (of p group) ≡ [] = none_front _ _ (ap (λ (k : Option (List ℕ)). unwrap_or k []) is ∙ held_before group later p) in
    record {
      rest = x.held;
      got_is = x.stands.passes.got_is ∙ ap (λ (l : List ℕ). frames (λ (e : Given). frame_of e.0) (of p ts) ++ (l ++ x.held)) (sym none);
    }
next_of group later did ts p (Some h) is x = record {
  rest = unwrap_or (later p) [];
  got_is =
      x.stands.passes.got_is
      ∙ ap (λ (l : List ℕ). frames (λ (e : Given). frame_of e.0) (of p ts) ++ l) (sym x.here.0 ∙ (ap (λ (k : Option (List ℕ)). unwrap_or k []) is ∙ held_before group later p));
}

pub are_next : (group : List (Taken Msg)) (later : Held) (did : List Event) (ts : List (Taken Given)) → IsServing did ts (before group later) → (p : ℕ) → AreNextOf did ts group p
are_next group later did ts x p = next_of group later did ts p (before group later p) refl (x p)

-- ---- one frame ----

module _ (id : ℕ) (known : Known) (waiting waiting_now : List (ℕ × List ℕ)) (now first later : Held) (s next : State) (memory memory_now : Memory) (layout : Layout) (Stood Stands : Plain → Type 0) (same : (q : ℕ) → first q ≡ now q) where
  unmoved_as : IsUnmoved id known waiting waiting_now now later s next memory memory_now layout Stood Stands → IsUnmoved id known waiting waiting_now first later s next memory memory_now layout Stood Stands
  unmoved_as u = record { waits = u.waits; stays = u.stays; step = u.step; stands = u.stands }

  taken_as : (held : Held) → IsTaken id known waiting waiting_now now later s next memory memory_now layout Stood Stands held → IsTaken id known waiting waiting_now first later s next memory memory_now layout Stood Stands held
  taken_as held t = record { peer = t.peer; message = t.message; rest = t.rest; others = t.others; is = t.is; now_is = λ q. same q ∙ t.now_is q; stages = t.stages; held_is = t.held_is }

  tries_as : (e : Ending) → Tries id known waiting waiting_now now later s next memory memory_now layout Stood Stands e → Tries id known waiting waiting_now first later s next memory memory_now layout Stood Stands e
  tries_as ends.More (inl t) = inl (taken_as later t)
  tries_as ends.More (inr u) = inr (unmoved_as u.0, (λ q. same q ∙ u.1 q))
  tries_as (ends.Off peer) n = record { bytes = n.bytes; now_is = λ q. same q ∙ n.now_is q; gone = n.gone; none = n.none; unmoved = unmoved_as n.unmoved }
  tries_as (ends.Stops stop) (inl t) = inl (record { peer = t.peer; message = t.message; rest = t.rest; others = t.others; now_is = λ q. same q ∙ t.now_is q; waits = t.waits; why = t.why })
  tries_as (ends.Stops stop) (inr (short, inl t)) = inr (short, inl (t.0, taken_as t.0 t.1))
  tries_as (ends.Stops stop) (inr (short, inr u)) = inr (short, inr (unmoved_as u))

  pub tries_from : (r : Result Ending Stop) → IfOk r (λ e. Tries id known waiting waiting_now now later s next memory memory_now layout Stood Stands e)
      → IfOk r (λ e. Tries id known waiting waiting_now first later s next memory memory_now layout Stood Stands e)
  tries_from (Ok e) t = tries_as e t
  tries_from (Err stop) t = tt

-- ---- a frame more ----

module _ (id : ℕ) (known : Known) (Is : Type 0) where
  abbrev Front : State → List (Taken Msg) → (Plain → Type 0) → Type 0
  Front s group P = IsBehindSome (after id known) s group P

  -- what a crash leaves stands for what it stood for, or for the state with all that was staged
  stands_still : (s next : State) (group more : List (Taken Msg)) (Stood Stands : Plain → Type 0) → next ≡ after_taken (after id known) s group
      → ((p : Plain) → Stood p → (q : Plain) × ((q ≡ p) ⊎ (q ≡ next.plain)) × Stands q) → Front s group Stood → Front s (group ++ more) Stands
  stands_still s next group more Stood Stands is stands x =
      let got = stands _ x.is in
      ⊎_elim
      (λ (e : got.0 ≡ (after_taken (after id known) s x.front).plain). record {
        front = x.front;
        back = x.back ++ more;
        group_is = ap (λ (l : List (Taken Msg)). l ++ more) x.group_is ∙ append_assoc x.front x.back more;
        is = subst (λ (q : Plain). Stands q) e got.2;
      })
      (λ (e : got.0 ≡ next.plain). record {
        front = group;
        back = more;
        group_is = refl;
        is = subst (λ (q : Plain). Stands q) (e ∙ ap (λ (t : State). t.plain) is) got.2;
      })
      got.1

  nothing_more : (group : List (Taken Msg)) (s : State) (P : Plain → Type 0) → Front s (group ++ []) P → Front s group P
  nothing_more group s P x = subst (λ (l : List (Taken Msg)). Front s l P) (append-nil group) x

  either_front : (s mid : State) (group : List (Taken Msg)) (Stood : Plain → Type 0) (bytes : List ℕ) → mid ≡ after_taken (after id known) s group → (x : Front s group Stood)
      → StandsForEither (after_taken (after id known) s x.front).plain mid.plain bytes → Front s group (λ p. StandsFor p bytes)
  either_front s mid group Stood bytes is x (inl e) = record { front = x.front; back = x.back; group_is = x.group_is; is = e }
  either_front s mid group Stood bytes is x (inr e) = record { front = group; back = []; group_is = sym (append-nil group); is = subst (λ (t : State). StandsFor t.plain bytes) is e }

  -- what is held is known by another name
  pub gathers_as : (waiting : List (ℕ × List ℕ)) (now here later : Held) (s next : State) (memory memory_now : Memory) (Stands : Plain → Type 0) (us : List (Taken Msg)) → ((q : ℕ) → here q ≡ later q)
      → Gathers id known Is waiting now here s next memory memory_now Stands us → Gathers id known Is waiting now later s next memory memory_now Stands us
  gathers_as waiting now here later s next memory memory_now Stands us same x = record {
    answered = x.answered;
    are = x.are;
    last = x.last;
    by_index = x.by_index;
    here = x.here;
    waits = x.waits;
    held = λ q. x.held q ∙ before_same (plain x.answered ++ us) here later same q;
    steps = x.steps;
    state = x.state;
    stands = x.stands;
  }

  module _ (waiting : List (ℕ × List ℕ)) (now : Held) (s mid : State) (memory memory_mid memory_now : Memory) (Stood : Plain → Type 0) where
    abbrev Before : Held → Type 0
    Before later = Gathers id known Is waiting now later s mid memory memory_mid Stood []

    -- nothing of it was staged
    pub gathers_still : (later : Held) (next : State) (Stands : Plain → Type 0) → Before later → memory_now ≡ memory_mid → ((p : Plain) → Stood p → next ≡ mid)
        → ((p : Plain) → Stood p → (q : Plain) × ((q ≡ p) ⊎ (q ≡ mid.plain)) × Stands q) → Gathers id known Is waiting now later s next memory memory_now Stands []
    gathers_still later next Stands x stays same stands = record {
      answered = x.answered;
      are = x.are;
      last = x.last;
      by_index = x.by_index;
      here = stays ∙ x.here;
      waits = x.waits;
      held = x.held;
      steps = x.steps;
      state = λ is. same _ (x.stands is).is ∙ x.state is;
      stands = λ is. nothing_more (plain x.answered ++ []) s Stands (stands_still s mid (plain x.answered ++ []) [] Stood Stands (x.state is) stands (x.stands is));
    }

    -- of a frame that was taken
    held_more : (p : ℕ) (m : Msg) (rest : List ℕ) (here later : Held) (x : Before (put p (Some (frame_of m ++ rest)) here)) → ((q : ℕ) → later q ≡ put p (Some rest) here q)
        → (q : ℕ) → now q ≡ before ((plain x.answered ++ []) ++ (p, m) ∷ []) later q
    held_more p m rest here later x kept q =
        x.held q
        ∙ before_same (plain x.answered ++ []) (put p (Some (frame_of m ++ rest)) here) (before ((p, m) ∷ []) later) (taken_of p m rest here later kept) q
        ∙ ap (λ (h : Held). h q) (sym (before_more (plain x.answered ++ []) ((p, m) ∷ []) later))

    state_more : (p : ℕ) (m : Msg) (group : List (Taken Msg)) (next : State) → mid ≡ after_taken (after id known) s group → next ≡ after id known mid m → next ≡ after_taken (after id known) s (group ++ (p, m) ∷ [])
    state_more p m group next is step = step ∙ ap (λ (t : State). after id known t m) is ∙ sym (after_append (after id known) s group ((p, m) ∷ []))

    -- it is staged, and its answers don't wait
    pub gathers_unanswered : (p : ℕ) (m : Msg) (rest : List ℕ) (here : Held) (next : State) (Stands : Plain → Type 0) → Before (put p (Some (frame_of m ++ rest)) here)
        → ((q : Plain) → Stood q → next ≡ after id known mid m) → ((p : Plain) → Stood p → (q : Plain) × ((q ≡ p) ⊎ (q ≡ mid.plain)) × Stands q)
        → Gathers id known Is waiting now (put p (Some rest) here) s next memory memory_now Stands ((p, m) ∷ [])
    gathers_unanswered p m rest here next Stands x step stands =
        let e : (plain x.answered ++ []) ++ (p, m) ∷ [] ≡ plain x.answered ++ (p, m) ∷ [] = ap (λ (l : List (Taken Msg)). l ++ (p, m) ∷ []) (append-nil (plain x.answered)) in
        record {
          answered = x.answered;
          are = x.are;
          last = x.last;
          by_index = x.by_index;
          here = tt;
          waits = x.waits;
          held = λ q. held_more p m rest here (put p (Some rest) here) x (λ _. refl) q ∙ ap (λ (l : List (Taken Msg)). before l (put p (Some rest) here) q) e;
          steps = x.steps;
          state = λ is. state_more p m (plain x.answered ++ []) next (x.state is) (step _ (x.stands is).is) ∙ ap (λ (l : List (Taken Msg)). after_taken (after id known) s l) e;
          stands = λ is. subst (λ (l : List (Taken Msg)). Front s l Stands) e (stands_still s mid (plain x.answered ++ []) ((p, m) ∷ []) Stood Stands (x.state is) stands (x.stands is));
        }

    -- it is staged, and its answers wait
    pub gathers_more : (waiting_now : List (ℕ × List ℕ)) (p : ℕ) (m : Msg) (rest : List ℕ) (here later : Held) (next : State) (Stands : Plain → Type 0) → Before (put p (Some (frame_of m ++ rest)) here)
        → IsMessage m → Stages (after id known) (answers id known) waiting waiting_now p m mid next (λ given. IsIndexStep id known memory_mid (m, given) memory_now) Stood Stands → ((q : ℕ) → later q ≡ put p (Some rest) here q)
        → Gathers id known Is waiting_now now later s next memory memory_now Stands []
    gathers_more waiting_now p m rest here later next Stands x message st kept =
        let w : Taken Given = (p, (m, st.given)) in
        let e : (plain x.answered ++ []) ++ (p, m) ∷ [] ≡ plain (x.answered ++ w ∷ []) ++ [] =
        ap (λ (l : List (Taken Msg)). l ++ (p, m) ∷ []) (append-nil (plain x.answered)) ∙ sym (plain_append x.answered (w ∷ [])) ∙ sym (append-nil (plain (x.answered ++ w ∷ [])))
        in
        let last : mid ≡ after_taken (after id known) s (plain x.answered) → after id known (after_taken (after id known) s (plain x.answered)) m ≡ after_taken (after id known) s (plain (x.answered ++ w ∷ [])) =
        λ _. sym (after_append (after id known) s (plain x.answered) ((p, m) ∷ [])) ∙ ap (λ (l : List (Taken Msg)). after_taken (after id known) s l) (sym (plain_append x.answered (w ∷ [])))
        in
        record {
          answered = x.answered ++ w ∷ [];
          are = are_more x.answered (w ∷ []) x.are ((message, st.are), tt);
          last = memory_now;
          by_index = taken_more id known memory x.answered memory_mid w memory_now (subst (λ (m : Memory). AreTaken id known memory m x.answered) (sym x.here) x.by_index) st.by_index;
          here = refl;
          waits = st.waits ∙ ap (λ (l : List (ℕ × List ℕ)). l ++ (p, frames_of st.given) ∷ []) x.waits ∙ sym (answers_append x.answered (w ∷ []));
          held = λ q. held_more p m rest here later x kept q ∙ ap (λ (l : List (Taken Msg)). before l later q) e;
          steps = λ is.
              let at : mid ≡ after_taken (after id known) s (plain x.answered) = x.state is ∙ ap (λ (l : List (Taken Msg)). after_taken (after id known) s l) (append-nil (plain x.answered)) in
              subst (λ (t : State). AreSteps (after id known) (answers id known) s (x.answered ++ w ∷ []) t) (last at)
              (steps_more (after id known) (answers id known) s x.answered (after_taken (after id known) s (plain x.answered)) p m st.given (x.steps is)
              ((st.step _ (x.stands is).is).0 ∙ ap (λ (t : State). answers id known t m) at));
          state = λ is. state_more p m (plain x.answered ++ []) next (x.state is) (st.step _ (x.stands is).is).1 ∙ ap (λ (l : List (Taken Msg)). after_taken (after id known) s l) e;
          stands = λ is. subst (λ (l : List (Taken Msg)). Front s l Stands) e (stands_still s mid (plain x.answered ++ []) ((p, m) ∷ []) Stood Stands (x.state is) st.stands (x.stands is));
        }

  -- the disk failed, or all that was staged was to be made durable
  pub lost_of : (waiting : List (ℕ × List ℕ)) (now later : Held) (s mid : State) (memory memory_mid : Memory) (Stood : Plain → Type 0) (us : List (Taken Msg)) (left : List ℕ → Type 0) → Gathers id known Is waiting now later s mid memory memory_mid Stood us
      → ((p : Plain) → Stood p → (bytes : List ℕ) → left bytes → StandsForEither p mid.plain bytes) → IsLost id known Is now s left
  lost_of waiting now later s mid memory memory_mid Stood us left x leaves = record {
    group = plain x.answered ++ us;
    later = later;
    held = x.held;
    leaves = λ is bytes l. either_front s mid (plain x.answered ++ us) Stood bytes (x.state is) (x.stands is) (leaves _ (x.stands is).is bytes l);
  }

  -- ---- by how it ended ----

  module _ (waiting waiting_now : List (ℕ × List ℕ)) (first now later : Held) (s mid next : State) (memory memory_mid memory_now : Memory) (layout : Layout) (Stood Stands : Plain → Type 0) (x : Gathers id known Is waiting first now s mid memory memory_mid Stood []) where
    abbrev Now : Held → List (Taken Msg) → Type 0
    Now held us = Gathers id known Is waiting_now first held s next memory memory_now Stands us

    waits_as : (held : Held) (us : List (Taken Msg)) → waiting_now ≡ waiting → Gathers id known Is waiting first held s next memory memory_now Stands us → Now held us
    waits_as held us e y = subst (λ (w : List (ℕ × List ℕ)). Gathers id known Is w first held s next memory memory_now Stands us) (sym e) y

    unmoved : IsUnmoved id known waiting waiting_now now later mid next memory_mid memory_now layout Stood Stands → Now now []
    unmoved u = waits_as now [] u.waits (gathers_still waiting first s mid memory memory_mid memory_now Stood now next Stands x u.stays u.step (λ p is. (p, inl refl, u.stands p is)))

    taken : (held : Held) → IsTaken id known waiting waiting_now now later mid next memory_mid memory_now layout Stood Stands held → Now held []
    taken held t = gathers_more waiting first s mid memory memory_mid memory_now Stood waiting_now t.peer t.message t.rest t.others held next Stands
        (gathers_as waiting first now (put t.peer (Some (frame_of t.message ++ t.rest)) t.others) s mid memory memory_mid Stood [] t.now_is x) t.is t.stages t.held_is

    held_of : Is → (p : Plain) × Stood p
    held_of is = (_, (x.stands is).is)

    only : (stop : Stop) → IsTakenOnly id known waiting waiting_now now later mid next memory_mid memory_now layout Stood Stands stop → IsStop id known Is waiting_now first later s next memory memory_now layout Stands stop
    only stop t =
        let here : Held = put t.peer (Some (frame_of t.message ++ t.rest)) t.others in
        let y = gathers_as waiting first now here s mid memory memory_mid Stood [] t.now_is x in
        ⊎_elim
        (λ (k : IsKeptOut id known layout t.message mid next memory_mid memory_now Stood Stands stop). record {
          later = here;
          unanswered = [];
          gathers = waits_as here [] t.waits (gathers_still waiting first s mid memory memory_mid memory_now Stood here next Stands y k.stays k.step k.stands);
          short = inr (
            refl,
            record {
              peer = t.peer;
              message = t.message;
              rest = t.rest;
              there = put_same t.peer (Some (frame_of t.message ++ t.rest)) t.others;
              cause = less_held ((p : Plain) × Stood p) Is held_of stop k.cause;
              other = k.other;
              past = λ full is. subst (λ (t' : State). IsPast layout (done id known t' t.message).op) (sym (k.step _ (x.stands is).is)) (k.past full _ (x.stands is).is);
            },
          );
        })
        (λ (k : IsUnanswered id known t.message mid next Stood Stands stop). record {
          later = put t.peer (Some t.rest) t.others;
          unanswered = (t.peer, t.message) ∷ [];
          gathers = waits_as (put t.peer (Some t.rest) t.others) ((t.peer, t.message) ∷ []) t.waits
              (gathers_unanswered waiting first s mid memory memory_mid memory_now Stood t.peer t.message t.rest t.others next Stands y k.step k.stands);
          short = inl k.cause;
        })
        t.why

    pub tried : (e : Ending) → Tries id known waiting waiting_now now later mid next memory_mid memory_now layout Stood Stands e → Ends id known Is waiting_now first later s next memory memory_now layout Stands e
    tried ends.More (inl t) = taken later t
    tried ends.More (inr u) = gathers_as waiting_now first now later s next memory memory_now Stands [] u.1 (unmoved u.0)
    tried (ends.Off peer) n = record {
      bytes = n.bytes;
      gathers = gathers_as waiting_now first now (put peer (Some n.bytes) later) s next memory memory_now Stands [] n.now_is (unmoved n.unmoved);
      gone = n.gone;
      none = n.none;
    }
    tried (ends.Stops stop) (inl t) = only stop t
    tried (ends.Stops stop) (inr (short, inl t)) = record { later = t.0; unanswered = []; gathers = taken t.0 t.1; short = inl short }
    tried (ends.Stops stop) (inr (short, inr u)) = record { later = now; unanswered = []; gathers = unmoved u; short = inl short }

  -- of a node that has the number that it had, and knows what it knew
  pub tried_as : (i : ℕ) (k : Known) → i ≡ id → k ≡ known → (waiting waiting_now : List (ℕ × List ℕ)) (first now later : Held) (s mid next : State) (memory memory_mid memory_now : Memory) (layout : Layout) (Stood Stands : Plain → Type 0)
      → Gathers id known Is waiting first now s mid memory memory_mid Stood [] → (e : Ending) → Tries i k waiting waiting_now now later mid next memory_mid memory_now layout Stood Stands e → Ends id known Is waiting_now first later s next memory memory_now layout Stands e
  tried_as i k same knows waiting waiting_now first now later s mid next memory memory_mid memory_now layout Stood Stands x e t =
      tried waiting waiting_now first now later s mid next memory memory_mid memory_now layout Stood Stands x e
      (subst (λ (z : Known). Tries id z waiting waiting_now now later mid next memory_mid memory_now layout Stood Stands e) knows
      (subst (λ (z : ℕ). Tries z k waiting waiting_now now later mid next memory_mid memory_now layout Stood Stands e) same t))

  -- at first
  pub none_gathered : (now : Held) (s : State) (memory : Memory) (Stood : Plain → Type 0) → (Is → Stood s.plain) → Gathers id known Is [] now now s s memory memory Stood []
  none_gathered now s memory Stood first = record {
    answered = [];
    are = tt;
    last = memory;
    by_index = refl;
    here = refl;
    waits = refl;
    held = λ q. refl;
    steps = λ is. refl;
    state = λ is. refl;
    stands = λ is. record { front = []; back = []; group_is = refl; is = first is };
  }
