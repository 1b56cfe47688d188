-- A group of frames once it is settled, or where it couldn't be.
use Rattle.std.proofs.Common.{◌≡◌, ◌≤◌, ◌+◌, ◌⊎◌, ℕ, zero, suc, List, [], ◌∷◌, ◌++◌, length, take, drop, refl, sym, ap, ◌∙◌, subst, arith, inl, inr, ⊎_elim, append-nil, append_assoc}
use Rattle.std.specs.Prelude.{⊤, Option, Some}
use Rattle.ld_past.specs.Events.{Event}
use Rattle.ld_msg.specs.declared.msg.Msg.{Msg}
use Rattle.ld_op.specs.Plain.{Plain}
use Rattle.ld_op.specs.declared.op.Op.{Op}
use Rattle.ld_wire.specs.Frames.{frame_of}
use Rattle.ld_wire.specs.Streams.{frames_of}
use Rattle.ld_crowd.specs.Calls.{dismissed}
use Rattle.ld_crowd.specs.Course.{Taken, of, frames, after_taken}
use Rattle.ld_crowd.specs.Serving.{GoesOn, put, plain, turns_of, AreSteps}
use Rattle.ld_crowd.proofs.Steps.{alike}
use Rattle.ld_crowd.proofs.Talks.{after_append}
use Rattle.ld_layout.specs.Layout.{Layout}
use Rattle.ld_store.specs.Ops.{StandsFor}
use Rattle.ld_node.specs.Known.{Known}
use Rattle.ld_node.specs.Changes.{IsPast}
use Rattle.ld_serve.specs.declared.stop.Stop.{Stop}
use Rattle.ld_serve.specs.declared.stop.Stop.TheVariants.{NoMemory, Disk}
use Rattle.ld_serve.specs.Serving.{State, after, answers, done, PastLimit}
use Rattle.ld_serve.specs.Talking.{Given, AreGiven, IsServing, AreServed, IsLess, BeginsNone}
use Rattle.ld_serve.specs.Told.{Memory}
use Rattle.ld_serve.specs.Crowd.{AreTaken, Advances, Halts, At, Among, IsNext}
use Rattle.ld_serve.specs.declared.group.Ending.{Ending}
use Rattle.ld_serve.specs.declared.group.Ending.TheVariants as ends
use Rattle.ld_serve.specs.Stops.{IsNodeStop}
use Rattle.ld_serve.specs.Group.{answers_to, told, before, Gathers, IsLost, IsRefusal, IsOff, IsStop, IsUnsettled, Ends}
use Rattle.ld_serve.proofs.Looks.{Held, served_so, put_off}
use Rattle.ld_serve.proofs.CrowdStops.{less_held}
use Rattle.ld_serve.proofs.Groups.{plain_append, answers_length, are_front, front_said, lost_of, told_longer, turns_told, turns_more, steps_join, steps_front, taken_front, are_next}

take_all : {X : Type 0} (xs : List X) → take (length xs) xs ≡ xs
take_all [] = refl
take_all (x ∷ xs) = ap (λ (l : List _). x ∷ l) (take_all xs)

take_drop : {X : Type 0} (n : ℕ) (xs : List X) → xs ≡ take n xs ++ drop n xs
take_drop zero xs = refl
take_drop (suc n) [] = refl
take_drop (suc n) (x ∷ xs) = ap (λ (l : List _). x ∷ l) (take_drop n xs)

take_answers : (n : ℕ) (ws : List (Taken Given)) → take n (answers_to ws) ≡ answers_to (take n ws)
take_answers zero ws = refl
take_answers (suc n) [] = refl
take_answers (suc n) (w ∷ ws) = ap (λ (l : List (ℕ × List ℕ)). (w.0, frames_of w.1.1) ∷ l) (take_answers n ws)

take_short : {X : Type 0} (n : ℕ) (xs : List X) → length (take n xs) ≤ length xs
take_short zero xs = omega arith
take_short (suc n) [] = omega arith
take_short (suc n) (x ∷ xs) = (let e = take_short n xs in omega (arith, e))

module _ (id : ℕ) (known : Known) (Is : Type 0) where
  abbrev Step : State → Msg → State
  Step = after id known

  module _ (waiting : List (ℕ × List ℕ)) (did : List Event) (now : Held) (s mid : State) (memory memory_mid : Memory) (Stood : Plain → Type 0) where
    -- ---- it was settled ----

    all_said : (here : Held) (us : List (Taken Msg)) (x : Gathers id known Is waiting now here s mid memory memory_mid Stood us) (new : List Event) → new ≡ told waiting did
        → (ts : List (Taken Given)) → IsServing did ts now → IsServing new (ts ++ x.answered) (before us here)
    all_said here us x new is ts y =
        subst (λ (d : List Event). IsServing d (ts ++ x.answered) (before us here)) (sym (is ∙ ap (λ (l : List (ℕ × List ℕ)). told l did) x.waits))
        (front_said x.answered us here did ts (alike frame_of frames_of IsLess BeginsNone did ts now (before (plain x.answered ++ us) here) (λ q. sym (x.held q)) y))

    all_turns : (here : Held) (us : List (Taken Msg)) (x : Gathers id known Is waiting now here s mid memory memory_mid Stood us) (new : List Event) → new ≡ told waiting did
        → (ts : List (Taken Given)) → turns_of new (ts ++ x.answered) ≡ turns_of did ts + length waiting
    all_turns here us x new is ts =
        ap (λ (d : List Event). turns_of d (ts ++ x.answered)) is ∙ turns_told waiting did (ts ++ x.answered) ∙ turns_more did ts x.answered
        ∙ ap (λ (n : ℕ). turns_of did ts + n) (sym (ap length x.waits ∙ answers_length x.answered))

    at_end : (here : Held) (x : Gathers id known Is waiting now here s mid memory memory_mid Stood []) → Is → mid ≡ after_taken Step s (plain x.answered)
    at_end here x is = x.state is ∙ ap (λ (l : List (Taken Msg)). after_taken Step s l) (append-nil (plain x.answered))

    -- what the node has in memory stays
    ends_so : (here : Held) (fin : Memory) → (x : Gathers id known Is waiting now here s mid memory memory_mid Stood []) → fin ≡ memory_mid → AreTaken id known memory fin x.answered
    ends_so here fin x stays = subst (λ (m : Memory). AreTaken id known memory m x.answered) (sym (stays ∙ x.here)) x.by_index

    pub settled_on : (here : Held) (new : List Event) (fin : State) (memory_fin : Memory) → Gathers id known Is waiting now here s mid memory memory_mid Stood [] → memory_fin ≡ memory_mid → (Is → fin ≡ mid) → new ≡ told waiting did
        → Advances Step (answers id known) Is did new now here s fin (AreTaken id known memory memory_fin) (length waiting)
    settled_on here new fin memory_fin x stays same is = record {
      more = x.answered;
      are = x.are;
      by_index = ends_so here memory_fin x stays;
      serving = λ ts y. all_said here [] x new is ts y;
      turns_are = λ ts. all_turns here [] x new is ts;
      steps = λ held first ts y. steps_join Step (answers id known) first ts x.answered s fin y
          (subst (λ (t : State). AreSteps Step (answers id known) s x.answered t) (sym (same held ∙ at_end here x held)) (x.steps held));
    }

    -- and then a peer was dismissed, whose bytes begin no frame
    pub settled_off : (here : Held) (p : ℕ) (mid_did new : List Event) (fin : State) (memory_fin : Memory) (layout : Layout) → IsOff id known Is waiting now here s mid memory memory_mid layout Stood p → memory_fin ≡ memory_mid → (Is → fin ≡ mid) → mid_did ≡ told waiting did
        → new ≡ dismissed p ∷ mid_did → Advances Step (answers id known) Is did new now here s fin (AreTaken id known memory memory_fin) (length waiting + 1)
    settled_off here p mid_did new fin memory_fin layout off stays same is after_it =
        let x = off.gathers in
        record {
          more = x.answered;
          are = x.are;
          by_index = ends_so (put p (Some off.bytes) here) memory_fin x stays;
          serving = λ ts y. subst (λ (d : List Event). IsServing d (ts ++ x.answered) here) (sym after_it)
              (put_off mid_did (ts ++ x.answered) p off.bytes here off.none off.gone (all_said (put p (Some off.bytes) here) [] x mid_did is ts y));
          turns_are = λ ts. ap (λ (d : List Event). turns_of d (ts ++ x.answered)) after_it
              ∙ (let e = all_turns (put p (Some off.bytes) here) [] x mid_did is ts in omega (arith, e));
          steps = λ held first ts y. steps_join Step (answers id known) first ts x.answered s fin y
              (subst (λ (t : State). AreSteps Step (answers id known) s x.answered t) (sym (same held ∙ at_end (put p (Some off.bytes) here) x held)) (x.steps held));
        }

    -- ---- it wasn't ----

    module _ (left : List ℕ → Type 0) (most : ℕ) (stop : Stop) where
      -- none of it was answered
      pub lost : (new : List Event) (next : State) → IsLost id known Is now s left → (stop ≡ Disk) ⊎ (stop ≡ NoMemory) → new ≡ did → Halts id known Is left did new now s next memory most stop
      lost new next x cause same = record {
        more = [];
        are = tt;
        by_index = record { last = memory; steps = refl };
        served = λ ts y. subst (λ (l : List (Taken Given)). AreServed new l) (sym (append-nil ts)) (subst (λ (d : List Event). AreServed d ts) (sym same) (served_so did ts now y));
        most = λ ts. subst (λ (l : List (Taken Given)). turns_of new l ≤ turns_of did ts + most) (sym (append-nil ts)) (subst (λ (d : List Event). turns_of d ts ≤ turns_of did ts + most) (sym same) (omega arith));
        break = Among x.group;
        at_is = λ ts y. subst (λ (l : List (Taken Given)). IsNext new l (Among x.group)) (sym (append-nil ts))
            (subst (λ (d : List Event). IsNext d ts (Among x.group)) (sym same)
            (λ p. are_next x.group x.later did ts (alike frame_of frames_of IsLess BeginsNone did ts now (before x.group x.later) (λ q. sym (x.held q)) y) p));
        cut = λ held. (s, (λ first ts y. subst (λ (l : List (Taken Given)). AreSteps Step (answers id known) first l s) (sym (append-nil ts)) y), inl (record { cause = cause; leaves = x.leaves held }));
      }

      -- it is durable, and its first frames were answered
      pub unsaid : (here : Held) (us : List (Taken Msg)) (new : List Event) (fin : State) (count : ℕ) → Gathers id known Is waiting now here s mid memory memory_mid Stood us → length waiting ≤ most → stop ≡ NoMemory
          → new ≡ told (take count waiting) did → (Is → fin ≡ mid) → (Is → (bytes : List ℕ) → left bytes → StandsFor mid.plain bytes) → Halts id known Is left did new now s fin memory most stop
      unsaid here us new fin count x few cause is same leaves =
          let front : List (Taken Given) = take count x.answered in
          let back : List (Taken Given) = drop count x.answered in
          let parts : x.answered ≡ front ++ back = take_drop count x.answered in
          let group : List (Taken Msg) = plain back ++ us in
          let said_is : new ≡ told (answers_to front) did = is ∙ ap (λ (l : List (ℕ × List ℕ)). told (take count l) did) x.waits ∙ ap (λ (l : List (ℕ × List ℕ)). told l did) (take_answers count x.answered) in
          let whole : plain x.answered ++ us ≡ plain front ++ group =
          ap (λ (l : List (Taken Given)). plain l ++ us) parts ∙ ap (λ (l : List (Taken Msg)). l ++ us) (plain_append front back) ∙ append_assoc (plain front) (plain back) us
          in
          let last : State = after_taken Step s (plain front) in
          let end : Is → mid ≡ after_taken Step last group = λ held. x.state held ∙ ap (λ (l : List (Taken Msg)). after_taken Step s l) whole ∙ after_append Step s (plain front) group in
          let serving : (ts : List (Taken Given)) → IsServing did ts now → IsServing new (ts ++ front) (before group here) = λ ts y.
          subst (λ (d : List Event). IsServing d (ts ++ front) (before group here)) (sym said_is)
          (front_said front group here did ts
          (alike frame_of frames_of IsLess BeginsNone did ts now (before (plain front ++ group) here) (λ q. sym (x.held q ∙ ap (λ (l : List (Taken Msg)). before l here q) whole)) y))
          in
          record {
            more = front;
            are = are_front front back (subst (λ (l : List (Taken Given)). AreGiven l) parts x.are);
            by_index = taken_front id known memory front back x.last (subst (λ (l : List (Taken Given)). AreTaken id known memory x.last l) parts x.by_index);
            served = λ ts y. served_so new (ts ++ front) (before group here) (serving ts y);
            most = λ ts.
                let t : turns_of new (ts ++ front) ≡ turns_of did ts + length front = ap (λ (d : List Event). turns_of d (ts ++ front)) said_is ∙ turns_told (answers_to front) did (ts ++ front) ∙ turns_more did ts front in
                let l : length front ≤ length x.answered = take_short count x.answered in
                let w : length waiting ≡ length x.answered = ap length x.waits ∙ answers_length x.answered in
                omega (arith, t, l, w, few);
            break = Among group;
            at_is = λ ts y p. are_next group here new (ts ++ front) (serving ts y) p;
            cut = λ held. (
              last,
              (λ first ts y. steps_join Step (answers id known) first ts front s last y
                  (steps_front Step (answers id known) s front back (after_taken Step s (plain x.answered)) (subst (λ (l : List (Taken Given)). AreSteps Step (answers id known) s l (after_taken Step s (plain x.answered))) parts (x.steps held)))),
              inr (record {
                cause = cause;
                at_is = same held ∙ end held;
                leaves = λ bytes l. subst (λ (t : State). StandsFor t.plain bytes) (end held) (leaves held bytes l);
              }),
            );
          }

      -- it is durable and answered, and the node refused a frame behind it
      pub refused : (here : Held) (layout : Layout) (new : List Event) (fin : State) → Gathers id known Is waiting now here s mid memory memory_mid Stood [] → (r : IsRefusal id known Is layout here mid stop) → length waiting ≤ most
          → new ≡ told waiting did → (Is → fin ≡ mid) → (Is → (bytes : List ℕ) → left bytes → StandsFor mid.plain bytes)
          → (Is → IsPast layout (done id known mid r.message).op → PastLimit left mid.plain (done id known mid r.message).op) → Halts id known Is left did new now s fin memory most stop
      refused here layout new fin x r few is same leaves past = record {
        more = x.answered;
        are = x.are;
        by_index = record { last = x.last; steps = x.by_index };
        served = λ ts y. served_so new (ts ++ x.answered) here (all_said here [] x new is ts y);
        most = λ ts. (let t = all_turns here [] x new is ts in omega (arith, t, few));
        break = At r.peer r.message;
        at_is = λ ts y.
            let z = subst (λ (o : Option (List ℕ)). GoesOn frame_of frames_of IsLess BeginsNone new (ts ++ x.answered) r.peer o) r.there (all_said here [] x new is ts y r.peer) in
            record { rest = r.rest; got_is = z.stands.passes.got_is ∙ ap (λ (k : List ℕ). frames (λ (e : Given). frame_of e.0) (of r.peer (ts ++ x.answered)) ++ k) (sym z.here.0) };
        cut = λ held. (
          mid,
          (λ first ts y. steps_join Step (answers id known) first ts x.answered s mid y
              (subst (λ (t : State). AreSteps Step (answers id known) s x.answered t) (sym (at_end here x held)) (x.steps held))),
          inl (record {
            cause = less_held Is ⊤ (λ _. held) stop r.cause;
            at_is = inr (sym (same held));
            leaves = λ bytes l. inl (leaves held bytes l);
            past = λ full. past held (r.past full held);
          }),
        );
      }

      -- it couldn't be settled
      pub unsettled : (later : Held) (us : List (Taken Msg)) (new : List Event) (fin : State) → Gathers id known Is waiting now later s mid memory memory_mid Stood us → length waiting ≤ most
          → IsUnsettled waiting did new mid fin Stood left stop → Halts id known Is left did new now s fin memory most stop
      unsettled later us new fin x few (inl u) = lost new fin (lost_of id known Is waiting now later s mid memory memory_mid Stood us left x u.leaves) u.cause u.did_is
      unsettled later us new fin x few (inr u) = unsaid later us new fin u.count x few u.cause u.did_is (λ is. u.same _ (x.stands is).is) (λ is. u.leaves _ (x.stands is).is)

      -- it was settled, and then the node stops
      pub stopped : (here : Held) (layout : Layout) (new : List Event) (fin : State) → IsStop id known Is waiting now here s mid memory memory_mid layout Stood stop → length waiting ≤ most → new ≡ told waiting did
          → (Is → fin ≡ mid) → (Is → (bytes : List ℕ) → left bytes → StandsFor mid.plain bytes) → ((op : Option Op) → Is → IsPast layout op → PastLimit left mid.plain op)
          → Halts id known Is left did new now s fin memory most stop
      stopped here layout new fin x few is same leaves past = ⊎_elim
          (λ (e : stop ≡ NoMemory). unsaid x.later x.unanswered new fin (length waiting) x.gathers few e (is ∙ ap (λ (l : List (ℕ × List ℕ)). told l did) (sym (take_all waiting))) same leaves)
          (λ (r : (x.unanswered ≡ []) × IsRefusal id known Is layout x.later mid stop).
          refused x.later layout new fin (subst (λ (us : List (Taken Msg)). Gathers id known Is waiting now x.later s mid memory memory_mid Stood us) r.0 x.gathers) r.1 few is same leaves (λ held. past (done id known mid r.1.message).op held))
          x.short

  -- ---- by how it ended ----

  module _ (waiting : List (ℕ × List ℕ)) (now here : Held) (s mid : State) (memory memory_mid : Memory) (layout : Layout) (Stood : Plain → Type 0) where
    pub gathered_in : (e : Ending) → Ends id known Is waiting now here s mid memory memory_mid layout Stood e → (later : Held) × (us : List (Taken Msg)) × Gathers id known Is waiting now later s mid memory memory_mid Stood us
    gathered_in ends.More x = (here, [], x)
    gathered_in (ends.Off peer) x = (put peer (Some x.bytes) here, [], x.gathers)
    gathered_in (ends.Stops stop) x = (x.later, x.unanswered, x.gathers)

    pub stood_in : (e : Ending) → Ends id known Is waiting now here s mid memory memory_mid layout Stood e → Is → (p : Plain) × Stood p
    stood_in e x is = (_, ((gathered_in e x).2.stands is).is)

    pub stop_cause : (stop : Stop) → IsStop id known Is waiting now here s mid memory memory_mid layout Stood stop → IsNodeStop Is stop
    stop_cause stop x = ⊎_elim (λ (e : stop ≡ NoMemory). rw e tt) (λ (r : (x.unanswered ≡ []) × IsRefusal id known Is layout x.later mid stop). r.1.cause) x.short

    pub stop_other : (stop : Stop) → IsStop id known Is waiting now here s mid memory memory_mid layout Stood stop → stop ≡ Disk → ⊥
    stop_other stop x is = ⊎_elim (λ (e : stop ≡ NoMemory). absurd (cc (e, is))) (λ (r : (x.unanswered ≡ []) × IsRefusal id known Is layout x.later mid stop). r.1.other is) x.short

pub unsettled_cause : (Is : Type 0) (waiting : List (ℕ × List ℕ)) (did new : List Event) (s next : State) (Stood : Plain → Type 0) (left : List ℕ → Type 0) (stop : Stop)
    → IsUnsettled waiting did new s next Stood left stop → IsNodeStop Is stop
unsettled_cause Is waiting did new s next Stood left stop (inl u) = ⊎_elim (λ (e : stop ≡ Disk). rw e tt) (λ (e : stop ≡ NoMemory). rw e tt) u.cause
unsettled_cause Is waiting did new s next Stood left stop (inr u) = rw u.cause tt

pub unsettled_longer : (waiting : List (ℕ × List ℕ)) (did new : List Event) (s next : State) (Stood : Plain → Type 0) (left : List ℕ → Type 0) (stop : Stop)
    → IsUnsettled waiting did new s next Stood left stop → length did ≤ length new
unsettled_longer waiting did new s next Stood left stop (inl u) = (let e = ap length u.did_is in omega (arith, e))
unsettled_longer waiting did new s next Stood left stop (inr u) = (let e = ap length u.did_is in let l = told_longer (take u.count waiting) did in omega (arith, e, l))
