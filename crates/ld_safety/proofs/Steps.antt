-- The lines and the messages of a step, once it is finished.
use Rattle.std.proofs.Common.{◌≡◌, ◌∙◌, ◌⊎◌, ℕ, ◌+◌, inl, inr, refl, ap, sym, subst, Bool, true, false, List, [], ◌∷◌, ◌++◌, Option, None, filter_map, append-nil, length}
use Rattle.std.proofs.lemmas.List.Elements.{filter_map-append}
use Rattle.ld_transcript.specs.declared.line.Line.{Line}
use Rattle.ld_transcript.specs.declared.line.Line.TheVariants as lines
use Rattle.ld_msg.specs.declared.msg.Msg.{Msg}
use Rattle.ld_config.specs.declared.config.Config.{Config}
use Rattle.ld_msg.specs.Network.{Network, send, send_all}
use Rattle.ld_machine.specs.State.{State, Done, finish, or_none, message_lines, message_line}
use Rattle.ld_msg.specs.Register.{Register}
use Rattle.ld_machine.specs.Facts.{Happened, Writes}
use Rattle.ld_machine.specs.World.{World, Made, In, joined_on}
use Rattle.ld_machine.specs.Calm.{Move, event_of}
use Rattle.ld_machine.specs.Run.{after_step, epoch_made, swap_made}
use Rattle.ld_safety.proofs.Lists.{In-append, In_left, In-slice_get, slice_get_end, slice_get_left}
use Rattle.ld_safety.proofs.Traces.{step_happened}
use Rattle.ld_safety.proofs.Events.{NamesOnce, Cases, dispatch}

-- a line that every step may have: of a message, or of nothing
abbrev pub is_plain : Line → Bool
is_plain (lines.Message i from to kind n) = true
is_plain lines.Nothing = true
is_plain _ = false

plain_messages : (s : State) (i : ℕ) (ms : List Msg) (x : Line) → In x (message_lines s i ms) → is_plain x ≡ true
plain_messages s i [] x h = absurd h
plain_messages s i (m ∷ ms) x (inl e) = subst (λ y. is_plain y ≡ true) (sym e) refl
plain_messages s i (m ∷ ms) x (inr h) = plain_messages s (i + 1) ms x h

plain_or : (x : Line) (ls : List Line) → In x (or_none ls) → In x ls ⊎ (is_plain x ≡ true)
plain_or x [] (inl e) = inr (subst (λ y. is_plain y ≡ true) (sym e) refl)
plain_or x [] (inr h) = absurd h
plain_or x (l ∷ ls) h = inl h

-- a line of a step is one of the event's, or is plain
pub In_finish : (d : Done) (x : Line) → In x (finish d).lines → In x d.lines ⊎ (is_plain x ≡ true)
unfolding finish
In_finish d x h = elim (plain_or x (d.lines ++ message_lines d.state d.state.network.count d.sends) h) [
  | inl i ↦ elim (In-append x d.lines (message_lines d.state d.state.network.count d.sends) i) [ inl a ↦ inl a | inr b ↦ inr (plain_messages d.state _ d.sends x b) ]
  | inr p ↦ inr p
]

or_in : (x : Line) (ls : List Line) → In x ls → In x (or_none ls)
or_in x [] h = absurd h
or_in x (l ∷ ls) h = h

pub finish_In : (d : Done) (x : Line) → In x d.lines → In x (finish d).lines
unfolding finish
finish_In d x h = or_in x _ (In_left x d.lines (message_lines d.state d.state.network.count d.sends) h)

or_some : (x : Line) (ls : List Line) → In x ls → or_none ls ≡ ls
or_some x [] h = absurd h
or_some x (l ∷ ls) h = refl

-- behind the lines of an event that has one stand plain ones alone
pub record Ends (ls ms : List Line) : Type 0 where
  pub rest : List Line
  pub is : ms ≡ ls ++ rest
  pub plain : (y : Line) → In y rest → is_plain y ≡ true

pub finish_ends : (d : Done) (x : Line) → In x d.lines → Ends d.lines (finish d).lines
unfolding finish
finish_ends d x h = record { rest = message_lines d.state d.state.network.count d.sends; is = or_some x _ (In_left x d.lines _ h); plain = plain_messages d.state _ d.sends }

module _ {X : Type 0} (f : Line → Option X) (plain : (x : Line) → is_plain x ≡ true → f x ≡ None) where
  none_messages : (s : State) (i : ℕ) (ms : List Msg) → filter_map f (message_lines s i ms) ≡ []
  none_messages s i [] = refl
  none_messages s i (m ∷ ms) = rw (plain (message_line s i m) refl) (none_messages s (i + 1) ms)

  none_or : (ls : List Line) → filter_map f (or_none ls) ≡ filter_map f ls
  none_or [] = rw (plain lines.Nothing refl) refl
  none_or (l ∷ ls) = refl

  -- what is read from a step's lines is read from the event's
  pub filter_finish : (d : Done) → filter_map f (finish d).lines ≡ filter_map f d.lines
  unfolding finish
  filter_finish d = none_or (d.lines ++ message_lines d.state d.state.network.count d.sends) ∙ filter_map-append f d.lines _
      ∙ ap (λ l. filter_map f d.lines ++ l) (none_messages d.state d.state.network.count d.sends) ∙ append-nil (filter_map f d.lines)

-- ---- messages ----

In_send_all : (w : Network) (ms : List Msg) (m : Msg) → In m (send_all w ms).sent → In m w.sent ⊎ In m ms
In_send_all w [] m h = inl h
In_send_all w (n ∷ ms) m h = elim (In_send_all (send w n) ms m h) [
  | inl (inl e) ↦ inr (inl e)
  | inl (inr i) ↦ inl i
  | inr i ↦ inr (inr i)
]

pub kept_sent : (w : Network) (ms : List Msg) (m : Msg) → In m w.sent → In m (send_all w ms).sent
kept_sent w [] m h = h
kept_sent w (n ∷ ms) m h = kept_sent (send w n) ms m (inr h)

pub now_sent : (w : Network) (ms : List Msg) (m : Msg) → In m ms → In m (send_all w ms).sent
now_sent w [] m h = absurd h
now_sent w (n ∷ ms) m (inl e) = kept_sent (send w n) ms m (inl e)
now_sent w (n ∷ ms) m (inr h) = now_sent (send w n) ms m h

-- a message was sent before, or is sent now
pub sent_by : (d : Done) (m : Msg) → In m (finish d).state.network.sent → In m d.state.network.sent ⊎ In m d.sends
unfolding finish
sent_by d m h = In_send_all d.state.network d.sends m h

pub sent_before : (d : Done) (m : Msg) → In m d.state.network.sent → In m (finish d).state.network.sent
unfolding finish
sent_before d m h = kept_sent d.state.network d.sends m h

pub sent_now : (d : Done) (m : Msg) → In m d.sends → In m (finish d).state.network.sent
unfolding finish
sent_now d m h = now_sent d.state.network d.sends m h

-- ---- steps that a run has so far ----

-- a line of a longer run is of the steps before, or of the last one
pub writes_cases : (hs : List Happened) (h : Happened) (k : ℕ) (x : Line) → Writes (hs ++ h ∷ []) k x → Writes hs k x ⊎ ((k ≡ length hs) × In x h.lines)
writes_cases hs h k x w = elim (slice_get_end w.0 h hs k w.1) [
  | inl a ↦ inl (w.0, a, w.2, w.3)
  | inr a ↦ inr (a.0, subst (λ (g : Happened). In x g.lines) a.1 (In-slice_get x w.0.lines w.2 w.3))
]

pub writes_before : (hs gs : List Happened) (k : ℕ) (x : Line) → Writes hs k x → Writes (hs ++ gs) k x
writes_before hs gs k x w = (w.0, slice_get_left w.0 hs gs k w.1, w.2, w.3)

-- ---- from cases of events to what each step keeps ----

abbrev pub became : World → Move → Done → List Made → World
became w e d m = record { state = (finish d).state; made = m ++ w.made; joined = joined_on w.state (finish d).state (event_of e) ++ w.joined }

abbrev pub told : Register → Move → Done → Happened
told r e d = record { event = event_of e; lines = (finish d).lines; made = epoch_made r (finish d).state.register (event_of e); swapped = swap_made r (finish d).state.register (event_of e) }

pub step_by : (c : Config) (P : List Happened → World → Type 0) (hs : List Happened) (w : World) (e : Move) → NamesOnce w.state
    → Cases c w.state e (λ d m. P (hs ++ told w.state.register e d ∷ []) (became w e d m)) → P (hs ++ step_happened c w.state e ∷ []) (after_step c w e)
step_by c P hs w e N K = dispatch c w.state e (λ d m. P (hs ++ told w.state.register e d ∷ []) (became w e d m)) N K
