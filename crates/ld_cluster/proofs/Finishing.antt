-- How a step ends.
use Rattle.std.proofs.Common.{◌≡◌, ℕ, ◌+◌, ◌==◌, List, [], ◌∷◌, ◌++◌, length, Option, Some, None, option_map, refl, ap, sym, ◌∙◌, subst, arith, append_assoc, length-append, if◌then◌else◌}
use Rattle.std.proofs.lemmas.List.{append-nil}
use Rattle.std.proofs.lemmas.Bool.{eq-eqb, ne_eqb}
use Rattle.ld_transcript.specs.declared.line.Line.{Line}
use Rattle.ld_transcript.specs.declared.line.Line.TheVariants as lines
use Rattle.ld_msg.specs.declared.msg.Who.{Who}
use Rattle.ld_msg.specs.declared.msg.Who.TheVariants as whos
use Rattle.ld_msg.specs.declared.msg.Msg.{Msg}
use Rattle.ld_msg.specs.Network.{Network, send, send_all}
use Rattle.ld_machine.specs.State.{State, finish, or_none, sent_state, actor_of, name_of, message_line, message_lines, kind_of, shown, sequencer_of, reader_of}
use Rattle.ld_clients.specs.declared.outcome.Outcome.{Outcome}
use Rattle.ld_clients.specs.Serving.{serving_in}
use Rattle.ld_clients.specs.Followers.{reader_in}
use Rattle.ld_clients.proofs.Fading.{names_faded}
use Rattle.ld_clients.proofs.Serving.{sequencer_named}
use Rattle.ld_clients.proofs.Followings.{reader_named}
use Rattle.ld_cluster.specs.declared.cluster.Cluster.{Cluster}
use Rattle.ld_cluster.specs.Standing.{Parts}
use Rattle.ld_cluster.specs.Outcomes.{IsSame, AddsFirst, IsSent, IsSending, IsFinished, ended, name_or_empty}

-- ---- the first ones of a list ----

pub adds_none : {X : Type 0} (before all : List X) → AddsFirst before before all
adds_none before all = record { some = []; more = all; whole = refl; added = sym (append-nil before) }

pub adds_all : {X : Type 0} (before now all : List X) → now ≡ before ++ all → AddsFirst before now all
adds_all before now all h = record { some = all; more = []; whole = append-nil all; added = h }

adds_of_more : {X : Type 0} (before now xs ys : List X) → AddsFirst before now xs → AddsFirst before now (xs ++ ys)
adds_of_more before now xs ys a = record { some = a.some; more = a.more ++ ys; whole = sym (append_assoc a.some a.more ys) ∙ ap (λ z. z ++ ys) a.whole; added = a.added }

adds_after : {X : Type 0} (before mid now xs ys : List X) → mid ≡ before ++ xs → AddsFirst mid now ys → AddsFirst before now (xs ++ ys)
adds_after before mid now xs ys e a = record { some = xs ++ a.some; more = a.more; whole = append_assoc xs a.some a.more ∙ ap (λ z. xs ++ z) a.whole; added = a.added ∙ (ap (λ z. z ++ a.some) e ∙ append_assoc before xs a.some) }

-- some were added wholly, and of the next ones the first
pub adds_on : {X : Type 0} (before mid now xs ys rest all : List X) → mid ≡ before ++ xs → AddsFirst mid now ys → xs ++ (ys ++ rest) ≡ all → AddsFirst before now all
adds_on before mid now xs ys rest all e a h = subst (AddsFirst before now) h (adds_after before mid now xs (ys ++ rest) e (adds_of_more mid now ys rest a))

none_first : {X : Type 0} (xs ys : List X) → xs ++ ys ≡ [] → xs ≡ []
none_first [] ys h = refl
none_first (x ∷ xs) ys h = absurd (cc h)

pub adds_or_none : (before now ls : List Line) → AddsFirst before now ls → AddsFirst before now (or_none ls)
adds_or_none before now [] a = record { some = []; more = or_none []; whole = refl; added = a.added ∙ ap (λ z. before ++ z) (none_first a.some a.more a.whole) }
adds_or_none before now (l ∷ ls) a = a

pub name_is : {X : Type 0} (o : Option (List ℕ × X)) → name_or_empty (option_map (λ e. e.0) o) ≡ name_of o
name_is None = refl
name_is (Some e) = refl

message_lines-append : (s : State) (i j : ℕ) (xs ys : List Msg) → j ≡ i + length xs → message_lines s i (xs ++ ys) ≡ message_lines s i xs ++ message_lines s j ys
message_lines-append s i j [] ys h = ap (λ k. message_lines s k ys) (omega arith)
message_lines-append s i j (x ∷ xs) ys h = ap (λ l. message_line s i x ∷ l) (message_lines-append s (i + 1) j xs ys (omega arith))

send_all-append : (w : Network) (xs ys : List Msg) → send_all w (xs ++ ys) ≡ send_all (send_all w xs) ys
send_all-append w [] ys = refl
send_all-append w (x ∷ xs) ys = send_all-append (send w x) xs ys

count-send_all : (w : Network) (xs : List Msg) → (send_all w xs).count ≡ w.count + length xs
count-send_all w [] = omega arith
count-send_all w (x ∷ xs) = count-send_all (send w x) xs ∙ omega arith

actor_same : (s : State) (ms : List Msg) (l : ℕ) (w : Who) → actor_of (sent_state s ms) l w ≡ actor_of s l w
actor_same s ms l (whos.Node n) = refl
actor_same s ms l (whos.Sequencer e) = refl
actor_same s ms l (whos.Reader r) = refl

line_same : (s : State) (ms : List Msg) (i : ℕ) (m : Msg) → message_line (sent_state s ms) i m ≡ message_line s i m
line_same s ms i m = λ j. lines.Message i (actor_same s ms m.log m.from j) (actor_same s ms m.log m.to j) (kind_of m.body) (shown m.body)

lines_same : (s : State) (ms : List Msg) (i : ℕ) (xs : List Msg) → message_lines (sent_state s ms) i xs ≡ message_lines s i xs
lines_same s ms i [] = refl
lines_same s ms i (x ∷ xs) = λ j. line_same s ms i x j ∷ lines_same s ms (i + 1) xs j

pub same_on : (a b c : Cluster) → IsSame a b → IsSame b c → IsSame a c
same_on a b c g h = record { config = h.config ∙ g.config; past = h.past ∙ g.past }

-- messages were sent, and then more
sent_on : (k0 k1 k2 : Cluster) (l0 l1 l2 : List Line) (s : State) (xs ys : List Msg) → IsSent k0 k1 l0 l1 s xs → IsSent k1 k2 l1 l2 (sent_state s xs) ys → IsSent k0 k2 l0 l2 s (xs ++ ys)
sent_on k0 k1 k2 l0 l1 l2 s xs ys g h = record {
  same = same_on k0 k1 k2 g.same h.same;
  parts = subst (λ (w : Network). Parts k2 (record s { network = w })) (sym (send_all-append s.network xs ys)) h.parts;
  lines = h.lines ∙ (ap (λ l. l ++ message_lines (sent_state s xs) (sent_state s xs).network.count ys) g.lines
      ∙ (append_assoc l0 (message_lines s s.network.count xs) (message_lines (sent_state s xs) (sent_state s xs).network.count ys)
      ∙ ap (λ l. l0 ++ l) (ap (λ l. message_lines s s.network.count xs ++ l) (lines_same s xs (send_all s.network xs).count ys)
      ∙ sym (message_lines-append s s.network.count (send_all s.network xs).count xs ys (count-send_all s.network xs)))));
}

sent_none : (k : Cluster) (s : State) → Parts k s → Parts k (sent_state s [])
sent_none k s p = record {
  nodes = p.nodes;
  register = p.register;
  network = p.network;
  sequencers = record { sequencers = p.sequencers.sequencers; logs = p.sequencers.logs };
  readers = record { readers = p.readers.readers; logs = p.readers.logs };
  specs = p.specs;
}

pub sending_start : (k : Cluster) (ls : List Line) (ms : List Msg) → IsSending k ls ms k ls [] ms
sending_start k ls ms = record { whole = refl; same = record { config = refl; past = refl }; done = λ s p. record { same = record { config = refl; past = refl }; parts = sent_none k s p; lines = sym (append-nil ls) } }

-- one message more is sent
pub sending_more : (k now new : Cluster) (ls ln lm : List Line) (all sent left rest : List Msg) (m : Msg) → IsSending k ls all now ln sent left → left ≡ m ∷ rest
    → IsSame now new → ((s : State) → Parts now s → IsSent now new ln lm s (m ∷ [])) → IsSending k ls all new lm (sent ++ m ∷ []) rest
sending_more k now new ls ln lm all sent left rest m h e same one = record {
  same = same_on k now new h.same same;
  whole = append_assoc sent (m ∷ []) rest ∙ (ap (λ x. sent ++ x) (sym e) ∙ h.whole);
  done = λ s p. sent_on k now new ls ln lm s sent (m ∷ []) (h.done s p) (one (sent_state s sent) (h.done s p).parts);
}

-- there was no memory for one of them
pub sending_cut : (k now : Cluster) (ls ln lm : List Line) (all sent left rest : List Msg) (m : Msg) → IsSending k ls all now ln sent left → left ≡ m ∷ rest
    → ((s : State) → Parts now s → AddsFirst ln lm (message_line s s.network.count m ∷ [])) → (s : State) → Parts k s → AddsFirst ls lm (message_lines s s.network.count all)
sending_cut k now ls ln lm all sent left rest m h e one s p =
    let d = h.done s p in
    let n : ℕ = (send_all s.network sent).count in
    let part : AddsFirst ln lm (message_lines s n (m ∷ [])) = subst (AddsFirst ln lm) (lines_same s sent n (m ∷ [])) (one (sent_state s sent) d.parts) in
    adds_on ls ln lm (message_lines s s.network.count sent) (message_lines s n (m ∷ [])) (message_lines s (n + 1) rest) (message_lines s s.network.count all) d.lines part
    (sym (message_lines-append s s.network.count n sent (m ∷ rest) (count-send_all s.network sent)) ∙ ap (message_lines s s.network.count) (ap (λ x. sent ++ x) (sym e) ∙ h.whole))

pub sent_all : (k now : Cluster) (ls ln : List Line) (all sent left : List Msg) (s : State) → Parts k s → IsSending k ls all now ln sent left → left ≡ [] → IsSent k now ls ln s all
sent_all k now ls ln all sent left s p h e =
    let a : sent ≡ all = sym (append-nil sent) ∙ (ap (λ x. sent ++ x) (sym e) ∙ h.whole) in
    subst (λ ms. IsSent k now ls ln s ms) a (h.done s p)

none_if : (before : ℕ) (l0 xs : List Line) → before ≡ length l0 → (if length (l0 ++ xs) == before then (l0 ++ xs) ++ lines.Nothing ∷ [] else l0 ++ xs) ≡ l0 ++ or_none xs
none_if before l0 [] h = rw (eq-eqb (length (l0 ++ [])) before (ap length (append-nil l0) ∙ sym h)) (ap (λ x. x ++ lines.Nothing ∷ []) (append-nil l0))
none_if before l0 (x ∷ xs) h = rw (ne_eqb (length (l0 ++ x ∷ xs)) before (λ e. absurd (omega (arith, length-append l0 (x ∷ xs))))) refl

-- `none` comes where there is no other line
pub none_added : (before : ℕ) (l0 l1 l2 l3 ls ms : List Line) → before ≡ length l0 → l1 ≡ l0 ++ ls → l2 ≡ l1 ++ ms → l3 ≡ (if length l2 == before then l2 ++ lines.Nothing ∷ [] else l2) → l3 ≡ l0 ++ or_none (ls ++ ms)
none_added before l0 l1 l2 l3 ls ms b e f g =
    let h : l2 ≡ l0 ++ (ls ++ ms) = f ∙ (ap (λ x. x ++ ms) e ∙ append_assoc l0 ls ms) in
    g ∙ (ap (λ x. if length x == before then x ++ lines.Nothing ∷ [] else x) h ∙ none_if before l0 (ls ++ ms) b)

-- a step that ends as the machine's
pub finished : (k0 k1 : Cluster) (l0 l1 l2 l3 : List Line) (before : ℕ) (o : Outcome) (s : State) → before ≡ length l0 → l1 ≡ l0 ++ o.lines.items → IsSent k0 k1 l1 l2 s o.sends
    → l3 ≡ (if length l2 == before then l2 ++ lines.Nothing ∷ [] else l2) → IsFinished k0 k1 l0 l3 (ended s o)
unfolding finish
finished k0 k1 l0 l1 l2 l3 before o s b e h g = record {
  same = h.same;
  parts = h.parts;
  lines = none_added before l0 l1 l2 l3 o.lines.items (message_lines s s.network.count o.sends) b e h.lines g;
}

-- a step that had no memory for its lines, for its messages, or for `none`
pub lines_cut : (l0 l1 : List Line) (o : Outcome) (s : State) → AddsFirst l0 l1 o.lines.items → AddsFirst l0 l1 (ended s o).lines
unfolding finish
lines_cut l0 l1 o s a = adds_or_none l0 l1 (o.lines.items ++ message_lines s s.network.count o.sends) (adds_of_more l0 l1 o.lines.items (message_lines s s.network.count o.sends) a)

pub messages_cut : (l0 l1 l2 : List Line) (o : Outcome) (s : State) → l1 ≡ l0 ++ o.lines.items → AddsFirst l1 l2 (message_lines s s.network.count o.sends) → AddsFirst l0 l2 (ended s o).lines
unfolding finish
messages_cut l0 l1 l2 o s e a = adds_or_none l0 l2 (o.lines.items ++ message_lines s s.network.count o.sends) (adds_after l0 l1 l2 o.lines.items (message_lines s s.network.count o.sends) e a)

pub none_cut : (k0 k1 : Cluster) (l0 l1 l2 l3 : List Line) (o : Outcome) (s : State) → l1 ≡ l0 ++ o.lines.items → IsSent k0 k1 l1 l2 s o.sends → l3 ≡ l2 → AddsFirst l0 l3 (ended s o).lines
none_cut k0 k1 l0 l1 l2 l3 o s e h g = messages_cut l0 l1 l3 o s e (adds_all l1 l3 (message_lines s s.network.count o.sends) (g ∙ h.lines))

-- ---- names ----

pub sequencer_name : (k : Cluster) (s : State) → Parts k s → (l epoch : ℕ) → name_or_empty (option_map (λ e. e.0) (serving_in l epoch k.sequencers)) ≡ name_of (sequencer_of l epoch s.sequencers)
sequencer_name k s p l epoch = name_is (serving_in l epoch k.sequencers)
    ∙ (sym (sequencer_named l epoch k.sequencers) ∙ (ap (λ x. name_of (sequencer_of l epoch x)) (sym p.sequencers.sequencers) ∙ names_faded l epoch s.sequencers))

pub reader_name : (k : Cluster) (s : State) → Parts k s → (n : ℕ) → name_or_empty (option_map (λ e. e.0) (reader_in n k.readers)) ≡ name_of (reader_of n s.readers)
reader_name k s p n = name_is (reader_in n k.readers) ∙ (sym (reader_named n k.readers) ∙ ap (λ x. name_of (reader_of n x)) (sym p.readers.readers))
