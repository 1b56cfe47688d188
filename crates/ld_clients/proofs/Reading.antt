-- What each call of a reader does to a state whose readers these are.
use Rattle.std.proofs.Common.{◌≡◌, ℕ, ◌<◌, ◌≤◌, Bool, true, false, not, ◌&&◌, ◌||◌, ◌==◌, List, [], ◌∷◌, ◌++◌, length, Option, Some, None, is_some, option_map, refl, ap, sym, ◌∙◌, subst, nat_lt, nat_le, if◌then◌else◌}
use Rattle.std.proofs.lemmas.Bool.{le-leb, lt-leb}
use Rattle.ld_table.specs.Named.{find_named, put_named}
use Rattle.ld_schedule.specs.declared.event.Event.TheVariants as events
use Rattle.ld_transcript.specs.declared.line.Line.{Line}
use Rattle.ld_transcript.specs.declared.line.Line.TheVariants as lines
use Rattle.ld_msg.specs.declared.msg.Who.{Who}
use Rattle.ld_msg.specs.declared.msg.Who.TheVariants as whos
use Rattle.ld_msg.specs.declared.msg.Msg.{Msg}
use Rattle.ld_msg.specs.declared.msg.Body.{Body}
use Rattle.ld_msg.specs.declared.msg.Body.TheVariants as bodies
use Rattle.ld_msg.specs.Bounds.{IsMessage, IsNodeHere, Fits}
use Rattle.ld_msg.specs.Register.{Register, View, look}
use Rattle.ld_msg.specs.Reader.{Reader, Read, nothing_read, opened, is_finished, polled, poll_asks, on_answer}
use Rattle.ld_msg.specs.Reading.{Item}
use Rattle.ld_msg.specs.declared.style.Style.{Style}
use Rattle.ld_msg.specs.declared.style.Style.TheVariants as styles
use Rattle.ld_ids.specs.declared.set.Spec.{Spec}
use Rattle.ld_config.specs.declared.config.Config.{Config}
use Rattle.ld_machine.specs.Config.{has_log, first_spec, looks_at}
use Rattle.ld_machine.specs.State.{State, Done, unchanged, only_state, with_line, with_reader, reader_of, posted}
use Rattle.ld_machine.specs.Step
use Rattle.ld_reader.specs.Looks.{looks_of}
use Rattle.ld_reader.specs.Following.{Following, answered, replied, asked, messages_from}
use Rattle.ld_clients.specs.declared.outcome.Outcome.{Outcome}
use Rattle.ld_clients.specs.Followers.{readers_of, reader_in, Knows}
use Rattle.ld_clients.specs.Items.{given_lines}
use Rattle.ld_clients.specs.Acting.{Stays}
use Rattle.ld_clients.specs.Reads.{AreReaders, IsRead, HasRead, opening}
use Rattle.ld_clients.proofs.Names.{put_same, put_each, find_each_some, find_each_none, some_each, length_each, found_name}
use Rattle.ld_clients.proofs.Followings.{Remains, answer_remains, reader_of_is}
use Rattle.ld_clients.proofs.Items.{lines_are, messages_are}
use Rattle.ld_clients.proofs.Logs.{spec_log}
use Rattle.ld_clients.proofs.Rows.{if_yes, if_not, and_yes, no_and, and_no}

abbrev pub is_no_range : ℕ → ℕ → Bool
is_no_range from until = (from == 0) || nat_lt until from

-- ---- who sent it ----

here : (w : Who) → IsNodeHere w → (y : ℕ) × (w ≡ whos.Node y)
here (whos.Node n) h = (n, refl)
here (whos.Sequencer e) h = absurd h
here (whos.Reader r) h = absurd h

fits : (from : Who) (r : ℕ) (b : Body) → Fits from (whos.Reader r) b → (y : ℕ) × (from ≡ whos.Node y)
fits w r (bodies.Store n lng x) h = absurd h.0.1
fits w r (bodies.Stored n) h = here w h.0.0
fits w r (bodies.SealedHere n k) h = here w h.0.0
fits w r (bodies.LostHere n round g end) h = here w h.0
fits w r (bodies.CleanHere n y) h = here w h.0.0
fits w r (bodies.TrimmedHere n t) h = here w h.0.0
fits w r (bodies.DigestAsk n) h = absurd h.0.1
fits w r (bodies.DigestPage n upto t lng es) h = here w h.0.0
fits w r (bodies.Clean e y) h = absurd h.0.1
fits w r (bodies.Release n) h = absurd h.0.1
fits w r (bodies.Trim t) h = absurd h.0.1
fits w r (bodies.ReadAsk round n) h = absurd h.1
fits w r (bodies.ReadOne round n set excluded) h = absurd h.2
fits w r (bodies.ReadPage round n upto c es) h = here w h.0.0
fits w r (bodies.ReadEnded round n end loss) h = here w h.0.0
fits w r (bodies.ReadTrim round n t) h = here w h.0.0
fits w r (bodies.ReadWait round n x) h = here w h.0.0

-- a message to a reader comes from a node
from_node : (m : Msg) (r : ℕ) → IsMessage m → m.to ≡ whos.Reader r → (y : ℕ) × (m.from ≡ whos.Node y)
from_node m r h e = fits m.from r m.body (subst (λ w. Fits m.from w m.body) e h.fits)

-- ---- one reader ----

-- a reader as it is then, its lines and its asks
abbrev heard_by : State → List ℕ → Reader → Read → Done
heard_by s name d a = record { state = with_reader s name a.reader; lines = Step.item_lines d.style name d.until a.items; sends = posted (whos.Reader d.number) d.log a.asks }

unread : (s : State) (name : List ℕ) (d : Reader) → find_named name s.readers ≡ Some d → unchanged s ≡ heard_by s name d (nothing_read d)
unread s name d h = ap (λ m. record { state = record s { readers = m }; lines = []; sends = [] }) (sym (put_same name d s.readers h))

open_or : (b : Bool) (s : State) (name : List ℕ) (d : Reader) (a : Read) → find_named name s.readers ≡ Some d → Remains d a.reader → (if b then unchanged s else Step.read s name a) ≡ heard_by s name d (if b then nothing_read d else a)
open_or true s name d a h k = unread s name d h
open_or false s name d a h k = λ i. record { state = with_reader s name a.reader; lines = Step.item_lines (k.style i) name (k.until i) a.items; sends = posted (whos.Reader (k.number i)) (k.log i) a.asks }

-- looks show the same to the machine
looks_are : (c : Config) (s : State) (f : Following) → Knows c f → (λ e. looks_at c s.register f.reader.log e) ≡ looks_of f s.register
looks_are c s f p = ap (λ (x : Spec). λ e. look x s.register f.reader.log e) (sym p)

-- what an answer of a node does to a reader
to_follower : (c : Config) (s : State) (name : List ℕ) (f : Following) (m : Msg) (y : ℕ) → find_named name s.readers ≡ Some f.reader → m.from ≡ whos.Node y → Knows c f
    → Step.to_open c s name f.reader m ≡ heard_by s name f.reader (replied (λ e. looks_of f s.register e) f m)
to_follower c s name f m y h e p =
    let looks : ℕ → View = λ n. looks_of f s.register n in
    ap (λ w. if is_finished f.reader then unchanged s else Step.read s name (on_answer (λ n. looks_at c s.register f.reader.log n) f.reader (Step.sender_node w) m.body)) e
    ∙ (ap (λ (k : ℕ → View). if is_finished f.reader then unchanged s else Step.read s name (on_answer k f.reader y m.body)) (looks_are c s f p)
    ∙ (open_or (is_finished f.reader) s name f.reader (on_answer looks f.reader y m.body) h (answer_remains looks f.reader y m.body)
    ∙ ap (λ w. heard_by s name f.reader (answered looks f.reader w m.body)) (sym e)))

poll_or : (b : Bool) (s : State) (name : List ℕ) (d e : Reader) (bs : List (ℕ × Body)) → find_named name s.readers ≡ Some d
    → (if b then unchanged s else record { state = with_reader s name e; lines = []; sends = posted (whos.Reader d.number) d.log bs }) ≡ record { state = with_reader s name (if b then d else e); lines = []; sends = posted (whos.Reader d.number) d.log (if b then [] else bs) }
poll_or true s name d e bs h = ap (λ m. record { state = record s { readers = m }; lines = []; sends = [] }) (sym (put_same name d s.readers h))
poll_or false s name d e bs h = refl

polls_follower : (c : Config) (s : State) (name : List ℕ) (f : Following) → find_named name s.readers ≡ Some f.reader → Knows c f
    → Step.polls c s name (Some f.reader) ≡ heard_by s name f.reader (asked (λ e. looks_of f s.register e) f.reader)
polls_follower c s name f h p =
    let looks : ℕ → View = λ n. looks_of f s.register n in
    ap (λ (k : ℕ → View). if is_finished f.reader then unchanged s else record { state = with_reader s name (polled k f.reader); lines = []; sends = posted (whos.Reader f.reader.number) f.reader.log (poll_asks k f.reader) }) (looks_are c s f p)
    ∙ poll_or (is_finished f.reader) s name f.reader (polled looks f.reader) (poll_asks looks f.reader) h

-- ---- calls ----

module _ (c : Config) (s : State) (fs : List (List ℕ × Following)) (h : AreReaders c s fs) where
  read_as : (gs : List (List ℕ × Following)) (o : Outcome) (told : Register → Type 0) (d e : Done) → d ≡ e → IsRead s gs o told e → IsRead s gs o told d
  read_as gs o told d e p r = subst (λ (x : Done). IsRead s gs o told x) (sym p) r

  nothing_done : (o : Outcome) (told : Register → Type 0) (d : Done) → d ≡ unchanged s → told s.register → o.lines.items ≡ [] → o.sends ≡ [] → IsRead s fs o told d
  nothing_done o told d p t ls ms = read_as fs o told d (unchanged s) p record { state = ap (λ x. record s { readers = x }) h.readers; register = t; lines = ls; sends = ms }

  line_done : (o : Outcome) (d : Done) (l : Line) → d ≡ with_line s l → o.lines.items ≡ l ∷ [] → o.sends ≡ [] → IsRead s fs o (Stays s) d
  line_done o d l p ls ms = read_as fs o (Stays s) d (with_line s l) p record { state = ap (λ x. record s { readers = x }) h.readers; register = refl; lines = ls; sends = ms }

  -- the readers with one of them written
  put_is : (name : List ℕ) (f : Following) (gs : List (List ℕ × Following)) → gs ≡ put_named name f fs → with_reader s name f.reader ≡ record s { readers = readers_of gs }
  put_is name f gs g = ap (λ x. record s { readers = x }) (ap (put_named name f.reader) h.readers ∙ (put_each (λ (x : Following). x.reader) name f fs ∙ ap readers_of (sym g)))

  found_as : (name : List ℕ) (f : Following) → find_named name fs ≡ Some f → find_named name s.readers ≡ Some f.reader
  found_as name f e = ap (find_named name) h.readers ∙ find_each_some (λ (x : Following). x.reader) name f fs e

  -- a reader has done this
  reader_done : (name : List ℕ) (f : Following) (gs : List (List ℕ × Following)) (items : List (ℕ × Item)) (o : Outcome) (told : Register → Type 0) (old new : List Msg) (a : Read) (d : Done) → d ≡ heard_by s name f.reader a → HasRead name f fs gs items old new a
      → told s.register → old ≡ [] → o.lines.items ≡ given_lines f.reader.style name items → o.sends ≡ new → IsRead s gs o told d
  reader_done name f gs items o told old new a d p r t b ls ms = read_as gs o told d _ p record {
    state = ap (with_reader s name) (sym (ap (λ (x : Following). x.reader) r.done.reader)) ∙ put_is name r.now gs r.readers;
    register = t;
    lines = ls ∙ (ap (given_lines f.reader.style name) r.done.gave ∙ lines_are f.reader.style name f.reader.until a.items);
    sends = ms ∙ (r.done.sent ∙ (ap (λ x. x ++ messages_from f.reader.number f.reader.log a.asks) b ∙ messages_are f.reader.number f.reader.log a.asks));
  }

  -- ---- an opening ----

  module _ (style : Style) (name : List ℕ) (l from until : ℕ) (o : Outcome) where
    -- its event
    opens_as : (x : Style) → Step.happens c s (opening x name l from until) ≡ Step.opens_new c s x name l from until
    unfolding Step.happens
    opens_as styles.EachCopy = refl
    opens_as styles.OneCopy = refl
    opens_as styles.OfMessages = refl

    taken_as : is_some (find_named name s.readers) ≡ is_some (find_named name fs)
    taken_as = ap (λ x. is_some (find_named name x)) h.readers ∙ some_each (λ (x : Following). x.reader) name fs

    pub open_taken : is_some (find_named name fs) ≡ true → o.lines.items ≡ [] → o.sends ≡ [] → IsRead s fs o (Stays s) (Step.happens c s (opening style name l from until))
    open_taken t ls ms = nothing_done o (Stays s) _ (opens_as style ∙ if_not (has_log c l && not (is_some (find_named name s.readers))) _ _ (and_no (has_log c l) _ (ap not (taken_as ∙ t)))) refl ls ms

    pub open_unknown : has_log c l ≡ false → o.lines.items ≡ [] → o.sends ≡ [] → IsRead s fs o (Stays s) (Step.happens c s (opening style name l from until))
    open_unknown t ls ms = nothing_done o (Stays s) _ (opens_as style ∙ if_not (has_log c l && not (is_some (find_named name s.readers))) _ _ (no_and (has_log c l) _ t)) refl ls ms

    module _ (known : has_log c l ≡ true) (free : is_some (find_named name fs) ≡ false) where
      open_new : Step.happens c s (opening style name l from until) ≡ Step.opens s style name l from until
      open_new = opens_as style ∙ if_yes (has_log c l && not (is_some (find_named name s.readers))) _ _ (and_yes (has_log c l) _ known (ap not (taken_as ∙ free)))

      pub open_off : (own : List ℕ) → own ≡ name → is_no_range from until ≡ true → o.lines.items ≡ lines.RefusedRange own ∷ [] → o.sends ≡ [] → IsRead s fs o (Stays s) (Step.happens c s (opening style name l from until))
      open_off own n r ls ms = line_done o _ (lines.RefusedRange name) (open_new ∙ if_yes (is_no_range from until) _ _ r) (ls ∙ ap (λ x. lines.RefusedRange x ∷ []) n) ms

      module _ (range : is_no_range from until ≡ false) (number : ℕ) (count : number ≡ length fs) where
        count_as : length s.readers ≡ number
        count_as = ap length h.readers ∙ (length_each (λ (x : Following). x.reader) fs ∙ sym count)

        pub open_full : (own : List ℕ) → own ≡ name → Step.reader_limit ≤ number → o.lines.items ≡ lines.RefusedFull own ∷ [] → o.sends ≡ [] → IsRead s fs o (Stays s) (Step.happens c s (opening style name l from until))
        open_full own n m ls ms = line_done o _ (lines.RefusedFull name)
            (open_new ∙ (if_not (is_no_range from until) _ _ range ∙ if_yes (nat_le Step.reader_limit (length s.readers)) _ _ (ap (nat_le Step.reader_limit) count_as ∙ le-leb Step.reader_limit number m)))
            (ls ∙ ap (λ x. lines.RefusedFull x ∷ []) n) ms

        pub open_done : (own : List ℕ) (first : Spec) (f : Following) (gs : List (List ℕ × Following)) → own ≡ name → number < Step.reader_limit → first ≡ first_spec c l → f.reader ≡ opened style first.log number from until → gs ≡ put_named own f fs
            → o.lines.items ≡ [] → o.sends ≡ [] → IsRead s gs o (Stays s) (Step.happens c s (opening style name l from until))
        open_done own first f gs n m e d g ls ms = read_as gs o (Stays s) _ (only_state (with_reader s name (opened style l (length s.readers) from until)))
            (open_new ∙ (if_not (is_no_range from until) _ _ range ∙ if_not (nat_le Step.reader_limit (length s.readers)) _ _ (ap (nat_le Step.reader_limit) count_as ∙ lt-leb Step.reader_limit number m)))
            record {
              state = ap (with_reader s name) (sym (d ∙ (λ i. opened style ((ap (λ (x : Spec). x.log) e ∙ spec_log l c.logs) i) (sym count_as i) from until))) ∙ put_is name f gs (g ∙ ap (λ x. put_named x f fs) n);
              register = refl;
              lines = ls;
              sends = ms;
            }

  -- ---- a poll ----

  poll_row : (name : List ℕ) (d : Option Reader) → find_named name s.readers ≡ d → Step.happens c s (events.Poll name) ≡ Step.polls c s name d
  unfolding Step.happens
  poll_row name d e = ap (Step.polls c s name) e

  pub poll_done : (name : List ℕ) (gs : List (List ℕ × Following)) (o : Outcome) (told : Register → Type 0) (old : List Msg) → o.lines.items ≡ [] → old ≡ []
      → ((f : Following) → find_named name fs ≡ Some f → HasRead name f fs gs [] old o.sends (asked (λ e. looks_of f s.register e) f.reader) × told s.register)
      → (find_named name fs ≡ None → (gs ≡ fs) × (o.sends ≡ old) × told s.register) → IsRead s gs o told (Step.happens c s (events.Poll name))
  poll_done name gs o told old ls b r n = elim (find_named name fs) as (λ x. find_named name fs ≡ x → IsRead s gs o told (Step.happens c s (events.Poll name))) [
    | None ↦ λ e. subst (λ x. IsRead s x o told (Step.happens c s (events.Poll name))) (sym (n e).0)
        (nothing_done o told _ (poll_row name None (ap (find_named name) h.readers ∙ find_each_none (λ (x : Following). x.reader) name fs e)) (n e).2 ls ((n e).1 ∙ b))
    | Some f ↦ λ e. reader_done name f gs [] o told old o.sends (asked (λ n. looks_of f s.register n) f.reader) _ (poll_row name (Some f.reader) (found_as name f e) ∙ polls_follower c s name f (found_as name f e) (h.logs name f e)) (r f e).0 (r f e).1 b ls refl
  ] refl

  -- ---- an answer ----

  pub reply_nobody : (m : Msg) (number : ℕ) (o : Outcome) (told : Register → Type 0) → reader_in number fs ≡ None → told s.register → o.lines.items ≡ [] → o.sends ≡ [] → IsRead s fs o told (Step.to_reader c s m (reader_of number s.readers))
  reply_nobody m number o told e t ls ms = nothing_done o told _ (ap (λ x. Step.to_reader c s m (reader_of number x)) h.readers
      ∙ ap (Step.to_reader c s m) (reader_of_is number fs ∙ ap (option_map (λ (x : List ℕ × Following). (x.0, x.1.reader))) e)) t ls ms

  pub reply_done : (m : Msg) (number : ℕ) (found name : List ℕ) (gs : List (List ℕ × Following)) (items : List (ℕ × Item)) (o : Outcome) (told : Register → Type 0) (old new : List Msg) → IsMessage m → m.to ≡ whos.Reader number
      → Some found ≡ option_map (λ e. e.0) (reader_in number fs) → name ≡ found → ((e : List ℕ × Following) → reader_in number fs ≡ Some e → find_named e.0 fs ≡ Some e.1)
      → ((f : Following) → find_named name fs ≡ Some f → HasRead name f fs gs items old new (replied (λ e. looks_of f s.register e) f m) × told s.register)
      → old ≡ [] → (style : Style) → ((f : Following) → find_named name fs ≡ Some f → style ≡ f.reader.style) → o.lines.items ≡ given_lines style name items → o.sends ≡ new → IsRead s gs o told (Step.to_reader c s m (reader_of number s.readers))
  reply_done m number found name gs items o told old new w t e n u r b style st ls ms =
      let p = found_name found name fs (reader_in number fs) e n u in
      let f : Following = p.0 in
      let y = from_node m number w t in
      reader_done name f gs items o told old new (replied (λ n. looks_of f s.register n) f m) _ (ap (λ x. Step.to_reader c s m (reader_of number x)) h.readers
      ∙ (ap (Step.to_reader c s m) (reader_of_is number fs ∙ ap (option_map (λ (x : List ℕ × Following). (x.0, x.1.reader))) p.1)
      ∙ to_follower c s name f m y.0 (found_as name f p.2) y.1 (h.logs name f p.2)))
      (r f p.2).0 (r f p.2).1 b (ls ∙ ap (λ x. given_lines x name items) (st f p.2)) ms
