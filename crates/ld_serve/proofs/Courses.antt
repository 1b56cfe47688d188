-- One turn more.
use Rattle.std.proofs.Common.{◌≡◌, ◌+◌, ◌++◌, ℕ, List, [], ◌∷◌, take, drop, length, map, Some, refl, sym, ap, ◌∙◌, subst, append_assoc, inl, inr, arith}
use Rattle.std.specs.Prelude.{Option, IfSome}
use Rattle.std.specs.Option.{option_map}
use Rattle.std.proofs.lemmas.List.{append-nil, take-append-drop, length-append, map-append}
use Rattle.ld_msg.specs.declared.msg.Msg.{Msg}
use Rattle.ld_msg.specs.Bounds.{IsMessage}
use Rattle.ld_wire.specs.Frames.{frame_of}
use Rattle.ld_wire.specs.Streams.{frames_of, AreMessages}
use Rattle.ld_wire.specs.Judging.{judge, Waits}
use Rattle.ld_wire.specs.Held.{Held}
use Rattle.ld_link.specs.Peers.{Talk, Peers, heard, said, on_present, left_of, as_list, arrived, Comes, Lacks}
use Rattle.ld_framed.specs.Hearing.{Hears, HearsFrame, HearsEnd, HearsSome, Says, SaysPart}
use Rattle.ld_serve.specs.Course.{Cut, Idle, Unread, Refused, Unsent, IsCutOff, IsStopped, Speech, bytes_of, AreSpeeches, turns_of, talks, after_all, answers_all, after_peers, whole_talk, whole_talks, BetweenPeers, WithPeer, InTurn, NoMore}
use Rattle.ld_framed.proofs.Talks.{said_nothing}
use Rattle.ld_serve.proofs.Frames.{frames_of-append}

abbrev talk : List ℕ → List ℕ → List ℕ → Talk
talk got left sent = record { got = got; left = left; sent = sent }

taken-snoc : (ms : List Msg) (m : Msg) → AreMessages ms → IsMessage m → AreMessages (ms ++ m ∷ [])
taken-snoc [] m are is = (is, tt)
taken-snoc (x ∷ xs) m are is = (are.0, taken-snoc xs m are.1 is)

frames-snoc : (ms : List Msg) (m : Msg) → frames_of (ms ++ m ∷ []) ≡ frames_of ms ++ frame_of m
frames-snoc ms m = frames_of-append ms (m ∷ []) ∙ ap (λ l. frames_of ms ++ l) (append-nil (frame_of m))

speeches-snoc : (ps : List Speech) (p : Speech) → AreSpeeches ps → AreMessages p.messages → judge p.rest ≡ Waits → AreSpeeches (ps ++ p ∷ [])
speeches-snoc [] p are ms w = (ms, w, tt)
speeches-snoc (x ∷ xs) p are ms w = (are.0, are.1, speeches-snoc xs p are.2 ms w)

turns-snoc : (ps : List Speech) (p : Speech) → turns_of (ps ++ p ∷ []) ≡ turns_of ps + (length p.messages + 1)
turns-snoc [] p = omega arith
turns-snoc (x ∷ xs) p = (let r = turns-snoc xs p in omega (arith, r))

-- ---- bytes ----

-- what was read of the present peer
got_on : (frames held taken now : List ℕ) → now ≡ held ++ taken → (frames ++ held) ++ taken ≡ frames ++ now
got_on frames held taken now e = append_assoc frames held taken ∙ ap (λ l. frames ++ l) (sym e)

-- what comes of the present peer
still : (frames held left now : List ℕ) (n : ℕ) → now ≡ held ++ take n left → frames ++ (held ++ left) ≡ frames ++ (now ++ drop n left)
still frames held left now n e =
    ap (λ l. frames ++ l) (ap (λ l. held ++ l) (sym (take-append-drop n left)) ∙ sym (append_assoc held (take n left) (drop n left)) ∙ ap (λ l. l ++ drop n left) (sym e))

-- a frame more
framed_on : (frames frame rest : List ℕ) → frames ++ (frame ++ rest) ≡ (frames ++ frame) ++ rest
framed_on frames frame rest = sym (append_assoc frames frame rest)

the_left : (p : Peers) (t : Talk) → p.present ≡ Some t → left_of p.present ≡ t.left
the_left p t e = ap left_of e

now_at : (now new : Option Peers) (p : Peers) (P : Peers → Type 0) → now ≡ Some p → IfSome now P → P p
now_at now new p P e h = subst (λ o. IfSome o P) e h

module _ {S : Type 0} (after : S → Msg → S) (answers : S → Msg → List Msg) where
  after-snoc : (s : S) (ms : List Msg) (m : Msg) → after_all after answers s (ms ++ m ∷ []) ≡ after (after_all after answers s ms) m
  after-snoc s [] m = refl
  after-snoc s (x ∷ xs) m = after-snoc (after s x) xs m

  answers-snoc : (s : S) (ms : List Msg) (m : Msg) → answers_all after answers s (ms ++ m ∷ []) ≡ answers_all after answers s ms ++ frames_of (answers (after_all after answers s ms) m)
  answers-snoc s [] m = append-nil (frames_of (answers s m))
  answers-snoc s (x ∷ xs) m = ap (λ l. frames_of (answers s x) ++ l) (answers-snoc (after s x) xs m)
      ∙ sym (append_assoc (frames_of (answers s x)) (answers_all after answers (after s x) xs) (frames_of (answers (after_all after answers (after s x) xs) m)))

  peers-snoc : (s : S) (ps : List Speech) (p : Speech) → after_peers after answers s (ps ++ p ∷ []) ≡ after_all after answers (after_peers after answers s ps) p.messages
  peers-snoc s [] p = refl
  peers-snoc s (x ∷ xs) p = peers-snoc (after_all after answers s x.messages) xs p

  talks-snoc : (s : S) (ps : List Speech) (p : Speech) → whole_talks after answers s (ps ++ p ∷ []) ≡ whole_talks after answers s ps ++ whole_talk after answers (after_peers after answers s ps) p ∷ []
  talks-snoc s [] p = refl
  talks-snoc s (x ∷ xs) p = ap (λ l. whole_talk after answers s x ∷ l) (talks-snoc (after_all after answers s x.messages) xs p)

  -- the present peer has ended
  pub ended_turn : (start : Peers) (s : S) (now new : Option Peers) (held : List ℕ) (h : Held) (state : S) (turns : ℕ)
      → WithPeer after answers start s now held state turns → IfSome now (λ p. HearsEnd p new held h) → BetweenPeers after answers start s new state (turns + 1)
  ended_turn start s now new held h state turns w heard-it =
      let e : HearsEnd w.peers new held h = now_at now new w.peers (λ p. HearsEnd p new held h) w.told heard-it in
      let n = e.hears.n in
      let s1 = after_peers after answers s w.ended in
      let sent = answers_all after answers s1 w.messages in
      let left_is : left_of w.peers.present ≡ w.left = the_left w.peers _ w.present in
      let present : option_map (heard n) w.peers.present ≡ Some (talk ((frames_of w.messages ++ held) ++ take n w.left) (drop n w.left) sent) = ap (option_map (heard n)) w.present in
      let gone : drop n w.left ≡ [] = sym (ap left_of present) ∙ e.all (on_present (heard n) w.peers) e.hears.peers in
      let fed : h.bytes ≡ held ++ take n w.left = e.hears.fed ∙ ap (λ l. held ++ take n l) left_is in
      let rest : h.bytes ≡ held ++ w.left = fed ∙ ap (λ l. held ++ l) (sym (append-nil (take n w.left)) ∙ ap (λ l. take n w.left ++ l) (sym gone) ∙ take-append-drop n w.left) in
      let got : (frames_of w.messages ++ held) ++ take n w.left ≡ frames_of w.messages ++ h.bytes = got_on (frames_of w.messages) held (take n w.left) h.bytes fed in
      record {
        ended = w.ended ++ record { messages = w.messages; rest = h.bytes } ∷ [];
        peers = on_present (heard n) w.peers;
        told = e.hears.peers;
        past = ap (λ o. w.peers.past ++ as_list o) (present ∙ ap (λ g. Some (talk g (drop n w.left) sent)) got ∙ ap (λ l. Some (talk (frames_of w.messages ++ h.bytes) l sent)) gone)
            ∙ ap (λ l. l ++ talk (frames_of w.messages ++ h.bytes) [] sent ∷ []) w.past
            ∙ append_assoc (talks start) (whole_talks after answers s w.ended) (talk (frames_of w.messages ++ h.bytes) [] sent ∷ [])
            ∙ ap (λ l. talks start ++ l) (sym (talks-snoc s w.ended (record { messages = w.messages; rest = h.bytes })));
        coming = w.coming
            ∙ ap (λ l. map bytes_of w.ended ++ l ∷ w.peers.coming) (ap (λ l. frames_of w.messages ++ l) (sym rest))
            ∙ sym (append_assoc (map bytes_of w.ended) ((frames_of w.messages ++ h.bytes) ∷ []) w.peers.coming)
            ∙ ap (λ l. l ++ w.peers.coming) (sym (map-append bytes_of w.ended (record { messages = w.messages; rest = h.bytes } ∷ [])));
        speeches = speeches-snoc w.ended (record { messages = w.messages; rest = h.bytes }) w.speeches w.taken e.waits;
        state_is = w.state_is ∙ sym (peers-snoc s w.ended (record { messages = w.messages; rest = h.bytes }));
        turns_are = (let t = turns-snoc w.ended (record { messages = w.messages; rest = h.bytes }) in omega (arith, t, w.turns_are));
      }

  -- a frame was taken, and its answers were written
  pub framed_turn : (start : Peers) (s : S) (now mid new : Option Peers) (held : List ℕ) (m : Msg) (h : Held) (rs : List Msg) (state next : S) (turns : ℕ)
      → WithPeer after answers start s now held state turns → IfSome now (λ p. HearsFrame p mid held m h) → IsMessage m
      → IfSome mid (λ q. Says q new (frames_of rs)) → rs ≡ answers state m → next ≡ after state m → WithPeer after answers start s new h.bytes next (turns + 1)
  framed_turn start s now mid new held m h rs state next turns w heard-it is says rs-is next-is =
      let e : HearsFrame w.peers mid held m h = now_at now mid w.peers (λ p. HearsFrame p mid held m h) w.told heard-it in
      let n = e.hears.n in
      let s1 = after_peers after answers s w.ended in
      let sent = answers_all after answers s1 w.messages in
      let says-it : Says (on_present (heard n) w.peers) new (frames_of rs) = now_at mid new (on_present (heard n) w.peers) (λ q. Says q new (frames_of rs)) e.hears.peers says in
      let left_is : left_of w.peers.present ≡ w.left = the_left w.peers _ w.present in
      let fed : e.held ≡ held ++ take n w.left = e.hears.fed ∙ ap (λ l. held ++ take n l) left_is in
      let got : (frames_of w.messages ++ held) ++ take n w.left ≡ frames_of (w.messages ++ m ∷ []) ++ h.bytes =
      got_on (frames_of w.messages) held (take n w.left) e.held fed ∙ ap (λ l. frames_of w.messages ++ l) e.frame
      ∙ framed_on (frames_of w.messages) (frame_of m) h.bytes ∙ ap (λ l. l ++ h.bytes) (sym (frames-snoc w.messages m)) in
      let answered : sent ++ frames_of rs ≡ answers_all after answers s1 (w.messages ++ m ∷ []) =
      ap (λ l. sent ++ frames_of l) (rs-is ∙ ap (λ x. answers x m) w.state_is) ∙ sym (answers-snoc s1 w.messages m) in
      record {
        ended = w.ended;
        messages = w.messages ++ m ∷ [];
        left = drop n w.left;
        peers = on_present (said (frames_of rs)) (on_present (heard n) w.peers);
        told = says-it;
        past = w.past;
        present = ap (λ o. option_map (said (frames_of rs)) (option_map (heard n) o)) w.present
            ∙ ap (λ g. Some (talk g (drop n w.left) (sent ++ frames_of rs))) got ∙ ap (λ a. Some (talk (frames_of (w.messages ++ m ∷ []) ++ h.bytes) (drop n w.left) a)) answered;
        coming = w.coming ∙ ap (λ l. map bytes_of w.ended ++ l ∷ w.peers.coming)
            (still (frames_of w.messages) held w.left e.held n fed ∙ ap (λ l. frames_of w.messages ++ (l ++ drop n w.left)) e.frame
            ∙ ap (λ l. frames_of w.messages ++ l) (append_assoc (frame_of m) h.bytes (drop n w.left))
            ∙ framed_on (frames_of w.messages) (frame_of m) (h.bytes ++ drop n w.left) ∙ ap (λ l. l ++ (h.bytes ++ drop n w.left)) (sym (frames-snoc w.messages m)));
        speeches = w.speeches;
        taken = taken-snoc w.messages m w.taken is;
        state_is = next-is ∙ ap (λ x. after x m) w.state_is ∙ sym (after-snoc s1 w.messages m);
        turns_are = (let l = length-append w.messages (m ∷ []) in omega (arith, l, w.turns_are));
      }

  -- a turn that was cut off
  in_turn : (C : Cut S → Type 0) (start : Peers) (s : S) (now mid new : Option Peers) (held x part : List ℕ) (state end : S) (turns : ℕ) (w : WithPeer after answers start s now held state turns)
      → (e : Hears w.peers mid held x) → new ≡ Some (on_present (said part) (on_present (heard e.n) w.peers))
      → IsCutOff after answers C x part state end
      → InTurn after answers C start s new end
  in_turn C start s now mid new held x part state end turns w e told last =
      let n = e.n in
      let s1 = after_peers after answers s w.ended in
      let sent = answers_all after answers s1 w.messages in
      let fed : x ≡ held ++ take n w.left = e.fed ∙ ap (λ l. held ++ take n l) (the_left w.peers _ w.present) in
      record {
        ended = w.ended;
        messages = w.messages;
        held = x;
        left = drop n w.left;
        part = part;
        peers = on_present (said part) (on_present (heard n) w.peers);
        told = told;
        past = w.past;
        present = ap (λ o. option_map (said part) (option_map (heard n) o)) w.present
            ∙ ap (λ g. Some (talk g (drop n w.left) (sent ++ part))) (got_on (frames_of w.messages) held (take n w.left) x fed);
        coming = w.coming ∙ ap (λ l. map bytes_of w.ended ++ l ∷ w.peers.coming) (still (frames_of w.messages) held w.left x n fed);
        speeches = w.speeches;
        taken = w.taken;
        last = subst (λ (y : S). IsCutOff after answers C x part y end) w.state_is last;
      }

  -- no frame was taken
  pub unheard : (C : Cut S → Type 0) (start : Peers) (s : S) (now new : Option Peers) (held : List ℕ) (P : List ℕ → Type 0) (state end : S) (turns : ℕ)
      → ((x : List ℕ) → P x → C (Unread x state)) → WithPeer after answers start s now held state turns → IfSome now (λ p. HearsSome p new held P) → end ≡ state
      → InTurn after answers C start s new end
  unheard C start s now new held P state end turns cause w heard-it same =
      let e : HearsSome w.peers new held P = now_at now new w.peers (λ p. HearsSome p new held P) w.told heard-it in
      in_turn C start s now new new held e.held [] state end turns w e.hears (e.hears.peers ∙ ap Some (sym (said_nothing (on_present (heard e.hears.n) w.peers))))
      (inl (record { nothing = refl; same = same; cause = cause e.held e.cause }))

  -- a frame was taken, and the node refused it
  pub refused : (C : Cut S → Type 0) (start : Peers) (s : S) (now new : Option Peers) (held : List ℕ) (m : Msg) (h : Held) (state end : S) (turns : ℕ)
      → C (Refused state m) → WithPeer after answers start s now held state turns → IfSome now (λ p. HearsFrame p new held m h) → IsMessage m → end ≡ state
      → InTurn after answers C start s new end
  refused C start s now new held m h state end turns cause w heard-it is same =
      let e : HearsFrame w.peers new held m h = now_at now new w.peers (λ p. HearsFrame p new held m h) w.told heard-it in
      in_turn C start s now new new held e.held [] state end turns w e.hears (e.hears.peers ∙ ap Some (sym (said_nothing (on_present (heard e.hears.n) w.peers))))
      (inr (inl (record { message = m; rest = h.bytes; frame = e.frame; is = is; nothing = refl; same = same; cause = cause })))

  -- a frame was taken, and its answers were written in part
  pub cut_short : (C : Cut S → Type 0) (start : Peers) (s : S) (now mid new : Option Peers) (held : List ℕ) (m : Msg) (h : Held) (rs : List Msg) (state end : S) (turns : ℕ)
      → C (Unsent (after state m)) → WithPeer after answers start s now held state turns → IfSome now (λ p. HearsFrame p mid held m h) → IsMessage m
      → IfSome mid (λ q. SaysPart q new (frames_of rs)) → rs ≡ answers state m → end ≡ after state m → InTurn after answers C start s new end
  cut_short C start s now mid new held m h rs state end turns cause w heard-it is says rs-is end-is =
      let e : HearsFrame w.peers mid held m h = now_at now mid w.peers (λ p. HearsFrame p mid held m h) w.told heard-it in
      let part : SaysPart (on_present (heard e.hears.n) w.peers) new (frames_of rs) = now_at mid new (on_present (heard e.hears.n) w.peers) (λ q. SaysPart q new (frames_of rs)) e.hears.peers says in
      in_turn C start s now mid new held e.held part.part state end turns w e.hears part.peers
      (inr (inr (record { message = m; rest = h.bytes; missing = part.missing; frame = e.frame; is = is; answered = ap frames_of (sym rs-is) ∙ part.whole; next = end-is; cause = cause })))

  -- the next peer has come
  pub peer_came : (start : Peers) (s : S) (now new : Option Peers) (state : S) (turns : ℕ) (b : BetweenPeers after answers start s now state turns) (bytes : List ℕ) (more : List (List ℕ))
      → b.peers.coming ≡ bytes ∷ more → new ≡ Some (arrived bytes more b.peers) → WithPeer after answers start s new [] state turns
  peer_came start s now new state turns b bytes more first told = record {
    ended = b.ended;
    messages = [];
    left = bytes;
    peers = arrived bytes more b.peers;
    told = told;
    past = b.past;
    present = refl;
    coming = b.coming ∙ ap (λ l. map bytes_of b.ended ++ l) first;
    speeches = b.speeches;
    taken = tt;
    state_is = b.state_is;
    turns_are = omega (arith, b.turns_are);
  }

  -- no peer has come yet
  pub begun : (start : Peers) (s : S) (now : Option Peers) → now ≡ Some start → BetweenPeers after answers start s now s 0
  begun start s now e = record { ended = []; peers = start; told = e; past = sym (append-nil (talks start)); coming = refl; speeches = tt; state_is = refl; turns_are = refl }

  -- the same, as no peer came
  unmoved : (start : Peers) (s : S) (now new : Option Peers) (state : S) (turns : ℕ) → (b : BetweenPeers after answers start s now state turns)
      → new ≡ Some b.peers → BetweenPeers after answers start s new state turns
  unmoved start s now new state turns b told =
      record { ended = b.ended; peers = b.peers; told = told; past = b.past; coming = b.coming; speeches = b.speeches; state_is = b.state_is; turns_are = b.turns_are }

  pub none_came : (start : Peers) (s : S) (now new : Option Peers) (state : S) (turns : ℕ) → (b : BetweenPeers after answers start s now state turns)
      → IfSome now (λ p. Lacks p new) → NoMore after answers start s new state turns
  unfolding unmoved
  none_came start s now new state turns b lacks =
      let l = now_at now new b.peers (λ p. Lacks p new) b.told lacks in
      record { between = unmoved start s now new state turns b l.peers; none = l.none }

  pub one_came : (start : Peers) (s : S) (now new : Option Peers) (state : S) (turns : ℕ) → (b : BetweenPeers after answers start s now state turns)
      → IfSome now (λ p. Comes p new) → WithPeer after answers start s new [] state turns
  one_came start s now new state turns b comes =
      let l = now_at now new b.peers (λ p. Comes p new) b.told comes in
      peer_came start s now new state turns b l.bytes l.more l.first l.peers

  -- ---- causes that say less ----

  less_cut_off : (C E : Cut S → Type 0) (held part : List ℕ) (before now : S) → ((x : Cut S) → C x → E x) → IsCutOff after answers C held part before now → IsCutOff after answers E held part before now
  less_cut_off C E held part before now f (inl u) = inl (record { nothing = u.nothing; same = u.same; cause = f (Unread held before) u.cause })
  less_cut_off C E held part before now f (inr (inl u)) = inr (inl (record { message = u.message; rest = u.rest; frame = u.frame; is = u.is; nothing = u.nothing; same = u.same; cause = f (Refused before u.message) u.cause }))
  less_cut_off C E held part before now f (inr (inr u)) =
      inr (inr (record { message = u.message; rest = u.rest; missing = u.missing; frame = u.frame; is = u.is; answered = u.answered; next = u.next; cause = f (Unsent (after before u.message)) u.cause }))

  pub less_in_turn : (C E : Cut S → Type 0) (start : Peers) (s : S) (now : Option Peers) (state : S) → ((x : Cut S) → C x → E x) → InTurn after answers C start s now state → InTurn after answers E start s now state
  less_in_turn C E start s now state f t = record {
    ended = t.ended;
    messages = t.messages;
    held = t.held;
    left = t.left;
    part = t.part;
    peers = t.peers;
    told = t.told;
    past = t.past;
    present = t.present;
    coming = t.coming;
    speeches = t.speeches;
    taken = t.taken;
    last = less_cut_off C E t.held t.part _ state f t.last;
  }

  pub less_stopped : (C E : Cut S → Type 0) (start : Peers) (s : S) (now : Option Peers) (state : S) → ((x : Cut S) → C x → E x) → IsStopped after answers C start s now state → IsStopped after answers E start s now state
  less_stopped C E start s now state f (inl b) = inl (record { turns = b.turns; between = b.between; cause = f (Idle state) b.cause })
  less_stopped C E start s now state f (inr t) = inr (less_in_turn C E start s now state f t)
