-- A node that serves a crowd, call by call.
use Rattle.std.proofs.Common.{◌≡◌, ◌≤◌, ◌+◌, ◌-◌, ◌^◌, ◌⊎◌, ℕ, List, [], ◌∷◌, ◌++◌, length, refl, sym, ap, ◌∙◌, subst, arith, inl, inr, append-nil}
use Rattle.std.specs.Prelude.{true, None, Some, MatchResult, IfOk, IfErr}
use Rattle.std.specs.declared.result.Result.{Result}
use Rattle.std.specs.declared.result.Result.TheVariants.{Ok, Err}
use Rattle.ld_past.specs.Events.{Event}
use Rattle.ld_msg.specs.declared.msg.Msg.{Msg}
use Rattle.ld_wire.specs.Frames.{frame_of}
use Rattle.ld_wire.specs.Streams.{frames_of, AreMessages}
use Rattle.ld_wire.specs.declared.fault.WireFault.{WireFault}
use Rattle.ld_wire.specs.Judging.{judge}
use Rattle.ld_wire.specs.Faults.{IsRefused}
use Rattle.ld_crowd.specs.Calls.{dismissed, is_over, count_of}
use Rattle.ld_crowd.specs.Course.{Taken, messages_of, frames, of}
use Rattle.ld_crowd.specs.Serving.{put, plain, turns_of, AreTurns, AreSteps}
use Rattle.ld_crowd.proofs.Steps.{alike, none_yet, steps_after, frames_plain, talk_of}
use Rattle.ld_store.specs.Ops.{StandsFor}
use Rattle.ld_node.specs.Known.{Known}
use Rattle.ld_serve.specs.declared.stop.Stop.{Stop}
use Rattle.ld_serve.specs.declared.stop.Stop.TheVariants.{NoMemory}
use Rattle.ld_serve.specs.Serving.{State, after, answers}
use Rattle.ld_serve.specs.Talking.{Given, AreGiven, IsServing, AreServed, IsLess, BeginsNone, IsBetweenStop, turns_by}
use Rattle.ld_serve.specs.Told.{Memory}
use Rattle.ld_serve.specs.Crowd.{AreTaken, Advances, Halts, Break, Between, At, Among, IsNext, IsNextTaken, IsBreak, IsHeardAll, IsHeardUntil, IsPeer, IsServedAll, IsServedUntil}
use Rattle.ld_serve.proofs.Looks.{Held, served_so, put_off}
use Rattle.ld_serve.proofs.Groups.{taken_join}

-- ---- one call ----

pub are_append : (a b : List (Taken Given)) → AreGiven a → AreGiven b → AreGiven (a ++ b)
are_append [] b x y = y
are_append (t ∷ a) b x y = (x.0, are_append a b x.1 y)

module _ (f : State → Msg → State) (g : State → Msg → List Msg) (Is : Type 0) (By : List (Taken Given) → Type 0) where
  -- no frame was taken
  pub none_taken : By [] → (did new : List Event) (now then : Held) (s : State) (k : ℕ) → ((ts : List (Taken Given)) → IsServing did ts now → IsServing new ts then)
      → ((ts : List (Taken Given)) → turns_of new ts ≡ turns_of did ts + k) → Advances f g Is did new now then s s By k
  none_taken none did new now then s k serving turns = record {
    more = [];
    are = tt;
    by_index = none;
    serving = λ ts x. subst (λ (l : List (Taken Given)). IsServing new l then) (sym (append-nil ts)) (serving ts x);
    turns_are = λ ts. subst (λ (l : List (Taken Given)). turns_of new l ≡ turns_of did ts + k) (sym (append-nil ts)) (turns ts);
    steps = λ _ first ts x. subst (λ (l : List (Taken Given)). AreSteps f g first l s) (sym (append-nil ts)) x;
  }

  -- what is held is known by another name
  pub advances_as : (did new : List Event) (old now then : Held) (s next : State) (k : ℕ) → ((q : ℕ) → old q ≡ now q) → Advances f g Is did new now then s next By k → Advances f g Is did new old then s next By k
  advances_as did new old now then s next k same a = record {
    more = a.more;
    are = a.are;
    by_index = a.by_index;
    serving = λ ts x. a.serving ts (alike frame_of frames_of IsLess BeginsNone did ts old now (λ q. sym (same q)) x);
    turns_are = a.turns_are;
    steps = a.steps;
  }

  pub advances_from : (did new : List Event) (old now then : Held) (s next : State) (r : Result ℕ Stop) → ((q : ℕ) → old q ≡ now q)
      → IfOk r (λ b. Advances f g Is did new now then s next By b) → IfOk r (λ b. Advances f g Is did new old then s next By b)
  advances_from did new old now then s next (Ok b) same a = advances_as did new old now then s next b same a
  advances_from did new old now then s next (Err stop) same a = tt

  -- after a look in which no turn was taken
  pub advances_after : (did mid new : List Event) (now held then : Held) (s next : State) (k : ℕ) → ((ts : List (Taken Given)) → IsServing did ts now → IsServing mid ts held)
      → ((ts : List (Taken Given)) → turns_of mid ts ≡ turns_of did ts + 0) → Advances f g Is mid new held then s next By k → Advances f g Is did new now then s next By k
  advances_after did mid new now held then s next k serving turns a = record {
    more = a.more;
    are = a.are;
    by_index = a.by_index;
    serving = λ ts x. a.serving ts (serving ts x);
    turns_are = λ ts. (let t = turns ts in let u = a.turns_are ts in omega (arith, t, u));
    steps = a.steps;
  }

  -- a read, in which none was
  pub heard_on : By [] → (did new : List Event) (now then : Held) (s : State) (r : Result ℕ Stop)
      → ((ts : List (Taken Given)) → IsServing did ts now → MatchResult r (λ _. IsServing new ts then) (λ _. AreServed new ts))
      → ((ts : List (Taken Given)) → turns_of new ts ≡ turns_of did ts + turns_by r) → IfOk r (λ b. Advances f g Is did new now then s s By b)
  heard_on none did new now then s (Ok b) serving turns = none_taken none did new now then s b serving turns
  heard_on none did new now then s (Err stop) serving turns = tt

  -- a peer was dismissed
  pub refused_on : By [] → (did new : List Event) (p : ℕ) (h : List ℕ) (now : Held) (s : State) (fault : WireFault) (r : Result ℕ Stop) → now p ≡ None → IsRefused (judge h) fault
      → IfOk r (λ b. (b ≡ 1) × (new ≡ dismissed p ∷ did) × ((bytes : List ℕ) → IsRefused (judge bytes) fault → BeginsNone bytes))
      → IfOk r (λ b. Advances f g Is did new (put p (Some h) now) now s s By b)
  refused_on none did new p h now s fault (Ok b) gone is off =
      subst (λ (b : ℕ). Advances f g Is did new (put p (Some h) now) now s s By b) (sym off.0)
      (subst (λ (d : List Event). Advances f g Is did d (put p (Some h) now) now s s By 1) (sym off.1)
      (none_taken none did (dismissed p ∷ did) (put p (Some h) now) now s 1 (λ ts x. put_off did ts p h now (off.2 h is) gone x) (λ ts. omega arith)))
  refused_on none did new p h now s fault (Err stop) gone is off = tt

  -- what is held of the first one in the line is where it was
  pub aside_on : By [] → (did : List Event) (old mid then : Held) (p : ℕ) (h : List ℕ) (s : State) (r : Result ℕ Stop) → ((q : ℕ) → old q ≡ put p (Some h) mid q)
      → IfOk r (λ b. (b ≡ 0) × ((q : ℕ) → then q ≡ put p (Some h) mid q)) → IfOk r (λ b. Advances f g Is did did old then s s By b)
  aside_on none did old mid then p h s (Ok b) was kept =
      subst (λ (b : ℕ). Advances f g Is did did old then s s By b) (sym kept.0)
      (none_taken none did did old then s 0 (λ ts x. alike frame_of frames_of IsLess BeginsNone did ts old then (λ q. kept.1 q ∙ sym (was q)) x) (λ ts. omega arith))
  aside_on none did old mid then p h s (Err stop) was kept = tt

-- ---- a call that stops ----

module _ (id : ℕ) (known : Known) (Is : Type 0) (left : List ℕ → Type 0) (before : Memory) (most : ℕ) (stop : Stop) where
  abbrev Stops : List Event → List Event → Held → State → State → Type 0
  Stops did new now s next = Halts id known Is left did new now s next before most stop

  pub halts_as : (did new : List Event) (old now : Held) (s next : State) → ((q : ℕ) → old q ≡ now q) → Stops did new now s next → Stops did new old s next
  halts_as did new old now s next same a = record {
    more = a.more;
    are = a.are;
    by_index = a.by_index;
    served = λ ts x. a.served ts (alike frame_of frames_of IsLess BeginsNone did ts old now (λ q. sym (same q)) x);
    most = a.most;
    break = a.break;
    at_is = λ ts x. a.at_is ts (alike frame_of frames_of IsLess BeginsNone did ts old now (λ q. sym (same q)) x);
    cut = a.cut;
  }

  pub halts_after : (did mid new : List Event) (now held : Held) (s next : State) → ((ts : List (Taken Given)) → IsServing did ts now → IsServing mid ts held)
      → ((ts : List (Taken Given)) → turns_of mid ts ≡ turns_of did ts + 0) → Stops mid new held s next → Stops did new now s next
  halts_after did mid new now held s next serving turns a = record {
    more = a.more;
    are = a.are;
    by_index = a.by_index;
    served = λ ts x. a.served ts (serving ts x);
    most = λ ts. (let t = turns ts in let u = a.most ts in omega (arith, t, u));
    break = a.break;
    at_is = λ ts x. a.at_is ts (serving ts x);
    cut = a.cut;
  }

  -- between two frames
  pub between : (did new : List Event) (now : Held) (s : State) → IsBetweenStop stop → ((ts : List (Taken Given)) → IsServing did ts now → AreServed new ts)
      → ((ts : List (Taken Given)) → turns_of new ts ≡ turns_of did ts + 0) → (Is → (bytes : List ℕ) → left bytes → StandsFor s.plain bytes) → Stops did new now s s
  between did new now s cause served turns stands = record {
    more = [];
    are = tt;
    by_index = record { last = before; steps = refl };
    served = λ ts x. subst (λ (l : List (Taken Given)). AreServed new l) (sym (append-nil ts)) (served ts x);
    most = λ ts. subst (λ (l : List (Taken Given)). turns_of new l ≤ turns_of did ts + most) (sym (append-nil ts)) (let t = turns ts in omega (arith, t));
    break = Between;
    at_is = λ ts x. tt;
    cut = λ held. (s, (λ first ts x. subst (λ (l : List (Taken Given)). AreSteps (after id known) (answers id known) first l s) (sym (append-nil ts)) x), (cause, refl, stands held));
  }

module _ (id : ℕ) (known : Known) (Is : Type 0) (left : List ℕ → Type 0) (before : Memory) (most : ℕ) where
  pub halts_from : (did new : List Event) (old now : Held) (s next : State) (r : Result ℕ Stop) → ((q : ℕ) → old q ≡ now q) → IfErr r (Halts id known Is left did new now s next before most)
      → IfErr r (Halts id known Is left did new old s next before most)
  halts_from did new old now s next (Ok b) same h = tt
  halts_from did new old now s next (Err stop) same h = halts_as id known Is left before most stop did new old now s next same h

  -- without memory, or as a call of the crowd failed
  pub heard_off : (did new : List Event) (now : Held) (s : State) (r : Result ℕ Stop) (P : List (Taken Given) → Type 0)
      → ((ts : List (Taken Given)) → IsServing did ts now → MatchResult r (λ _. P ts) (λ _. AreServed new ts))
      → ((ts : List (Taken Given)) → turns_of new ts ≡ turns_of did ts + turns_by r) → IfErr r IsBetweenStop → (Is → (bytes : List ℕ) → left bytes → StandsFor s.plain bytes)
      → IfErr r (Halts id known Is left did new now s s before most)
  heard_off did new now s (Ok b) P serving turns cause stands = tt
  heard_off did new now s (Err stop) P serving turns cause stands = between id known Is left before most stop did new now s cause serving turns stands

  pub no_memory : (did new : List Event) (now : Held) (s : State) (stop : Stop) → stop ≡ NoMemory → new ≡ did → (Is → (bytes : List ℕ) → left bytes → StandsFor s.plain bytes)
      → Halts id known Is left did new now s s before most stop
  no_memory did new now s stop is same stands =
      subst (λ (w : Stop). Halts id known Is left did new now s s before most w) (sym is)
      (subst (λ (d : List Event). Halts id known Is left did d now s s before most NoMemory) (sym same)
      (between id known Is left before most NoMemory did did now s tt (λ ts x. served_so did ts now x) (λ ts. omega arith) stands))

  pub refused_off : (did new : List Event) (now : Held) (s : State) (r : Result ℕ Stop) → IfErr r (λ stop. (stop ≡ NoMemory) × (new ≡ did)) → (Is → (bytes : List ℕ) → left bytes → StandsFor s.plain bytes)
      → IfErr r (Halts id known Is left did new now s s before most)
  refused_off did new now s (Ok b) cause stands = tt
  refused_off did new now s (Err stop) cause stands = no_memory did new now s stop cause.0 cause.1 stands

  pub aside_off : (did : List Event) (now : Held) (s : State) (r : Result ℕ Stop) → IfErr r (λ stop. stop ≡ NoMemory) → (Is → (bytes : List ℕ) → left bytes → StandsFor s.plain bytes)
      → IfErr r (Halts id known Is left did did now s s before most)
  aside_off did now s (Ok b) cause stands = tt
  aside_off did now s (Err stop) cause stands = no_memory did did now s stop cause refl stands

-- ---- which turns were taken ----

pub all_turns : (did : List Event) (ts : List (Taken Given)) (count turns : ℕ) → turns_of did ts ≡ count → count ≡ turns → AreTurns did ts turns
all_turns did ts count turns is same = record { most = omega (arith, is, same); all = inl (is ∙ same) }

pub until_over : (did : List Event) (ts : List (Taken Given)) (count turns : ℕ) → turns_of did ts ≡ count → count ≤ turns → is_over did ≡ true → AreTurns did ts turns
until_over did ts count turns is most over = record { most = omega (arith, is, most); all = inr (inl over) }

pub asked_out : (did : List Event) (ts : List (Taken Given)) (count turns : ℕ) → turns_of did ts ≡ count → count ≤ turns → 2 ^ 64 - 1 ≤ length did → AreTurns did ts turns
asked_out did ts count turns is most many = record { most = omega (arith, is, most); all = inr (inr many) }

-- ---- all calls so far ----

module _ (f : State → Msg → State) (g : State → Msg → List Msg) (Is : Type 0) where
  pub record SoFar (did : List Event) (now : Held) (first s : State) (By : List (Taken Given) → Type 0) (count : ℕ) : Type 0 where
    pub taken : List (Taken Given)
    pub are : AreGiven taken
    pub by_index : By taken
    pub serving : IsServing did taken now
    pub turns_are : turns_of did taken ≡ count
    pub steps : Is → AreSteps f g first taken s

  pub so_first : (did : List Event) (now : Held) (s : State) (By : List (Taken Given) → Type 0) → By [] → did ≡ [] → ((q : ℕ) → now q ≡ None) → SoFar did now s s By 0
  so_first did now s By nothing none nobody = record {
    taken = [];
    are = tt;
    by_index = nothing;
    serving = subst (λ (d : List Event). IsServing d [] now) (sym none) (alike frame_of frames_of IsLess BeginsNone [] [] (λ _. None) now nobody (λ g. none_yet frame_of frames_of IsLess BeginsNone g));
    turns_are = subst (λ (d : List Event). turns_of {E = Given} d [] ≡ 0) (sym none) refl;
    steps = λ _. refl;
  }

  pub so_more : (did new : List Event) (now then : Held) (first s next : State) (By Then Now : List (Taken Given) → Type 0) (count k : ℕ) → ((ts more : List (Taken Given)) → By ts → Then more → Now (ts ++ more)) → SoFar did now first s By count
      → Advances f g Is did new now then s next Then k → SoFar new then first next Now (count + k)
  so_more did new now then first s next By Then Now count k join so a = record {
    taken = so.taken ++ a.more;
    are = are_append so.taken a.more so.are a.are;
    by_index = join so.taken a.more so.by_index a.by_index;
    serving = a.serving so.taken so.serving;
    turns_are = (let t = a.turns_are so.taken in omega (arith, t, so.turns_are));
    steps = λ held. a.steps held first so.taken (so.steps held);
  }

  -- where more is known to be held
  pub advances_where : (Now : Type 0) → (Is → Now) → (did new : List Event) (now then : Held) (s next : State) (By : List (Taken Given) → Type 0) (k : ℕ) → Advances f g Now did new now then s next By k → Advances f g Is did new now then s next By k
  advances_where Now to did new now then s next By k a = record { more = a.more; are = a.are; by_index = a.by_index; serving = a.serving; turns_are = a.turns_are; steps = λ held. a.steps (to held) }

  -- ---- the whole ----

  pub heard_all : (id : ℕ) (known : Known) (before last : Memory) (did : List Event) (now : Held) (first s : State) (count turns : ℕ) (so : SoFar did now first s (AreTaken id known before last) count) → AreTurns did so.taken turns → IsHeardAll id known before did turns
  heard_all id known before last did now first s count turns so t = record { taken = so.taken; are = so.are; by_index = record { last = last; steps = so.by_index }; peers = served_so did so.taken now so.serving; turns_are = t }

-- the node has the number that it had, and knows what it knew
pub so_next : (i j : ℕ) (k l : Known) (Now Is : Type 0) → i ≡ j → k ≡ l → (Is → Now) → (did new : List Event) (now then : Held) (first s next : State) (before mid last : Memory) (count more : ℕ)
    → SoFar (after j l) (answers j l) Is did now first s (AreTaken j l before mid) count → Advances (after i k) (answers i k) Now did new now then s next (AreTaken i k mid last) more
    → SoFar (after j l) (answers j l) Is new then first next (AreTaken j l before last) (count + more)
so_next i j k l Now Is same knows to did new now then first s next before mid last count more so a =
    so_more (after j l) (answers j l) Is did new now then first s next (AreTaken j l before mid) (AreTaken j l mid last) (AreTaken j l before last) count more (λ ts us x y. taken_join j l before ts us mid last x y) so
    (advances_where (after j l) (answers j l) Is Now to did new now then s next (AreTaken j l mid last) more
    (subst (λ (z : ℕ). Advances (after z l) (answers z l) Now did new now then s next (AreTaken z l mid last) more) same
    (subst (λ (z : Known). Advances (after i z) (answers i z) Now did new now then s next (AreTaken i z mid last) more) knows a)))

halts_held : (j : ℕ) (l : Known) (Now Is : Type 0) → (Is → Now) → (left : List ℕ → Type 0) (did new : List Event) (now : Held) (s next : State) (before : Memory) (turns : ℕ) (stop : Stop)
    → Halts j l Now left did new now s next before turns stop → Halts j l Is left did new now s next before turns stop
halts_held j l Now Is to left did new now s next before turns stop h =
    record { more = h.more; are = h.are; by_index = h.by_index; served = h.served; most = h.most; break = h.break; at_is = h.at_is; cut = λ held. h.cut (to held) }

pub halts_where : (i j : ℕ) (k l : Known) (Now Is : Type 0) → i ≡ j → k ≡ l → (Is → Now) → (left : List ℕ → Type 0) (did new : List Event) (now : Held) (s next : State) (before : Memory) (turns : ℕ) (stop : Stop)
    → Halts i k Now left did new now s next before turns stop → Halts j l Is left did new now s next before turns stop
halts_where i j k l Now Is same knows to left did new now s next before turns stop h =
    halts_held j l Now Is to left did new now s next before turns stop
    (subst (λ (z : ℕ). Halts z l Now left did new now s next before turns stop) same (subst (λ (z : Known). Halts i z Now left did new now s next before turns stop) knows h))

length_plain : (ts : List (Taken Given)) → length (plain ts) ≡ length ts
length_plain [] = refl
length_plain (t ∷ ts) = (let e = length_plain ts in omega (arith, e))

turns_plain : (did : List Event) (ts : List (Taken Given)) → turns_of did (plain ts) ≡ turns_of did ts
turns_plain did ts = ap (λ (n : ℕ). n + (count_of 1 did + (count_of 7 did + count_of 8 did))) (length_plain ts)

messages_plain : (ts : List (Taken Given)) → AreGiven ts → AreMessages (messages_of (plain ts))
messages_plain [] x = tt
messages_plain (t ∷ ts) x = (x.0.0, messages_plain ts x.1)

plain_turns : (did : List Event) (ts : List (Taken Given)) (turns : ℕ) → AreTurns did ts turns → AreTurns did (plain ts) turns
plain_turns did ts turns t = record {
  most = subst (λ (n : ℕ). n ≤ turns) (sym (turns_plain did ts)) t.most;
  all = subst (λ (n : ℕ). (n ≡ turns) ⊎ ((is_over did ≡ true) ⊎ (2 ^ 64 - 1 ≤ length did))) (sym (turns_plain did ts)) t.all;
}

module _ (f : State → Msg → State) (g : State → Msg → List Msg) where
  peers_plain : (did : List Event) (first s : State) (ts : List (Taken Given)) → AreSteps f g first ts s → AreServed did ts → (p : ℕ) → (held : List ℕ) × IsPeer f g did first (plain ts) p held
  peers_plain did first s ts steps x p = (
    (x p).0,
    record {
      talk = talk_of f g frame_of frames_of p first ts s _ _ (x p).0 steps (x p).1.passes;
      less = (x p).1.less;
      off = (x p).1.off;
    },
  )

  pub served_all : (Is : Type 0) (did : List Event) (now : Held) (first s : State) (By : List (Taken Given) → Type 0) (count turns : ℕ) (so : SoFar f g Is did now first s By count) → AreTurns did so.taken turns → Is → IsServedAll f g did first s turns
  served_all Is did now first s By count turns so t held = record {
    taken = plain so.taken;
    messages = messages_plain so.taken so.are;
    state_is = steps_after f g first so.taken s (so.steps held);
    peers = peers_plain did first s so.taken (so.steps held) (served_so did so.taken now so.serving);
    turns_are = plain_turns did so.taken turns t;
  }

-- ---- where it stopped ----

module _ (id : ℕ) (known : Known) (Is : Type 0) (left : List ℕ → Type 0) (stop : Stop) where
  pub heard_until : (did new : List Event) (now : Held) (first s next : State) (before mid : Memory) (count most turns : ℕ) → SoFar (after id known) (answers id known) Is did now first s (AreTaken id known before mid) count → count + most ≤ turns
      → Halts id known Is left did new now s next mid most stop → IsHeardUntil id known before new turns
  heard_until did new now first s next before mid count most turns so few h = record {
    taken = so.taken ++ h.more;
    are = are_append so.taken h.more so.are h.are;
    by_index = record { last = h.by_index.last; steps = taken_join id known before so.taken h.more mid h.by_index.last so.by_index h.by_index.steps };
    peers = h.served so.taken so.serving;
    most = (let t = h.most so.taken in omega (arith, t, so.turns_are, few));
  }

  next_plain : (did : List Event) (ts : List (Taken Given)) (b : Break) → IsNext did ts b → IsNextTaken id known left stop did (plain ts) b
  next_plain did ts Between x = tt
  next_plain did ts (Among group) x =
      λ p. ((x p).rest, (x p).got_is ∙ ap (λ (l : List ℕ). l ++ (frames frame_of (of p group) ++ (x p).rest)) (frames_plain (after id known) (answers id known) frame_of frames_of p ts))
  next_plain did ts (At p m) x = (x.rest, x.got_is ∙ ap (λ (l : List ℕ). l ++ (frame_of m ++ x.rest)) (frames_plain (after id known) (answers id known) frame_of frames_of p ts))

  pub served_until : (did new : List Event) (now : Held) (first s next : State) (By : List (Taken Given) → Type 0) (mid : Memory) (count most turns : ℕ) → SoFar (after id known) (answers id known) Is did now first s By count → count + most ≤ turns
      → Halts id known Is left did new now s next mid most stop → Is → IsServedUntil id known left stop new first next turns
  served_until did new now first s next By mid count most turns so few h held =
      let ts : List (Taken Given) = so.taken ++ h.more in
      let c = h.cut held in
      let steps = c.1 first so.taken (so.steps held) in
      record {
        taken = plain ts;
        messages = messages_plain ts (are_append so.taken h.more so.are h.are);
        peers = peers_plain (after id known) (answers id known) new first c.0 ts steps (h.served so.taken so.serving);
        most = subst (λ (n : ℕ). n ≤ turns) (sym (turns_plain new ts)) (let t = h.most so.taken in omega (arith, t, so.turns_are, few));
        break = h.break;
        at_is = next_plain new ts h.break (h.at_is so.taken so.serving);
        cut = subst (λ (t : State). IsBreak id known left stop t next h.break) (steps_after (after id known) (answers id known) first ts c.0 steps) c.2;
      }
