-- The steps of a reader.
use Rattle.std.proofs.Common.{◌≡◌, ℕ, ◌+◌, ◌++◌, Bool, true, ◌==◌, ◌||◌, nat_lt, nat_le, length, is_some, false, not, ◌&&◌, List, [], ◌∷◌, Option, Some, None, refl, ap, sym, ◌∙◌, subst, if◌then◌else◌}
use Rattle.std.specs.List.{AllByRecursion}
use Rattle.ld_table.specs.Named.{find_named}
use Rattle.ld_batch.specs.Batch.{Unpacked, Messages, Bad, unpacked}
use Rattle.ld_config.specs.declared.config.Config.{Config}
use Rattle.ld_schedule.specs.declared.event.Event.TheVariants as events
use Rattle.ld_transcript.specs.declared.line.Line.{Line}
use Rattle.ld_transcript.specs.declared.line.Line.TheVariants as lines
use Rattle.ld_msg.specs.declared.msg.Who.TheVariants as whos
use Rattle.ld_msg.specs.declared.msg.Msg.{Msg}
use Rattle.ld_msg.specs.declared.style.Style.{Style}
use Rattle.ld_msg.specs.declared.style.Style.TheVariants as styles
use Rattle.ld_msg.specs.Reader.{Reader, Read, is_finished, on_answer, opened}
use Rattle.ld_msg.specs.Register.{Register}
use Rattle.ld_msg.specs.Reading.{Item, TrimTo, RecordHere, HoleHere, BridgeTo, LossHere, LossTo}
use Rattle.ld_reader.specs.Following.{Following}
use Rattle.ld_node_bounds.specs.Messages.{AreMessages}
use Rattle.ld_machine.specs.State.{State, Done, start, unchanged, with_line, with_reader, only_state}
use Rattle.ld_machine.specs.Config.{has_log, looks_at}
use Rattle.ld_machine.specs.Step as machine
use Rattle.ld_machine.specs.Step.{happens, message_lines_from, payload_lines, lines_of_item, item_lines, read, to_reader, polls, opens, opens_new, reader_limit}
use Rattle.ld_clients.specs.declared.outcome.Outcome.{Outcome}
use Rattle.ld_clients.specs.Acting.{Stays}
use Rattle.ld_clients.specs.Followers.{KnowTheirLogs}
use Rattle.ld_clients.specs.Reads.{AreReaders, IsRead, opening}
use Rattle.ld_rounds.specs.News.{is_answer}
use Rattle.ld_rounds.specs.Acts.{IsActed}
use Rattle.ld_rounds.specs.Ends.{tells_by}
use Rattle.ld_rounds.specs.Drives.{own_lines}
use Rattle.ld_tail.specs.Readers.{Follows}
use Rattle.ld_rounds.proofs.Steps.{own-append}
use Rattle.ld_rounds.proofs.Clients.{IsClient, client_if, nothing_client, posted_asks}

own_item : (name : List ℕ) (n until : ℕ) (x : Item) → own_lines (machine.item_line name n until x ∷ []) ≡ machine.item_line name n until x ∷ []
own_item name n until (TrimTo last) = refl
own_item name n until (RecordHere p) = refl
own_item name n until HoleHere = refl
own_item name n until (BridgeTo last) = refl
own_item name n until LossHere = refl
own_item name n until (LossTo last) = refl

own_messages : (name : List ℕ) (n k : ℕ) (ms : List (List ℕ)) → own_lines (message_lines_from name n k ms) ≡ message_lines_from name n k ms
own_messages name n k [] = refl
own_messages name n k (m ∷ ms) = ap (λ l. lines.BatchMessage name n k m ∷ l) (own_messages name n (k + 1) ms)

own_payload : (name : List ℕ) (n : ℕ) (p : List ℕ) (u : Unpacked) → own_lines (payload_lines name n p u) ≡ payload_lines name n p u
own_payload name n p (Messages ms) = own_messages name n 0 ms
own_payload name n p (Bad place) = refl

own_lines_of : (style : Style) (name : List ℕ) (n until : ℕ) (x : Item) → own_lines (lines_of_item style name n until x) ≡ lines_of_item style name n until x
own_lines_of styles.OfMessages name n until (TrimTo last) = refl
own_lines_of styles.OfMessages name n until (RecordHere p) = own_payload name n p (unpacked p)
own_lines_of styles.OfMessages name n until HoleHere = refl
own_lines_of styles.OfMessages name n until (BridgeTo last) = refl
own_lines_of styles.OfMessages name n until LossHere = refl
own_lines_of styles.OfMessages name n until (LossTo last) = refl
own_lines_of styles.EachCopy name n until x = own_item name n until x
own_lines_of styles.OneCopy name n until x = own_item name n until x

own_items : (style : Style) (name : List ℕ) (until : ℕ) (is : List (ℕ × Item)) → own_lines (item_lines style name until is) ≡ item_lines style name until is
own_items style name until [] = refl
own_items style name until (i ∷ is) =
    own-append (lines_of_item style name i.0 until i.1) (item_lines style name until is)
    ∙ (ap (λ l. l ++ own_lines (item_lines style name until is)) (own_lines_of style name i.0 until i.1) ∙ ap (λ l. lines_of_item style name i.0 until i.1 ++ l) (own_items style name until is))

read_client : (s : State) (name : List ℕ) (a : Read) → IsClient s (read s name a)
read_client s name a = record { nodes = refl; network = refl; own = own_items a.reader.style name a.reader.until a.items; asks = posted_asks (whos.Reader a.reader.number) a.reader.log a.asks refl }

pub reader_client : (c : Config) (s : State) (m : Msg) (o : Option (List ℕ × Reader)) → IsClient s (to_reader c s m o)
reader_client c s m None = nothing_client s
reader_client c s m (Some d) = client_if (is_finished d.1) s (unchanged s) _ (nothing_client s) (read_client s d.0 (on_answer (looks_at c s.register d.1.log) d.1 (machine.sender_node m.from) m.body))

polls_client : (c : Config) (s : State) (name : List ℕ) (o : Option Reader) → IsClient s (polls c s name o)
polls_client c s name None = nothing_client s
polls_client c s name (Some d) = client_if (is_finished d) s (unchanged s) _ (nothing_client s) (record { nodes = refl; network = refl; own = refl; asks = posted_asks (whos.Reader d.number) d.log _ refl })

pub poll_client : (c : Config) (s : State) (name : List ℕ) → IsClient s (happens c s (events.Poll name))
unfolding happens
poll_client c s name = polls_client c s name (find_named name s.readers)

line_client : (s : State) (l : Line) → own_lines (l ∷ []) ≡ l ∷ [] → IsClient s (with_line s l)
line_client s l h = record { nodes = refl; network = refl; own = h; asks = tt }

opened_client : (s : State) (name : List ℕ) (d : Reader) → IsClient s (only_state (with_reader s name d))
opened_client s name d = record { nodes = refl; network = refl; own = refl; asks = tt }

opens_client : (s : State) (style : Style) (name : List ℕ) (l from until : ℕ) → IsClient s (opens s style name l from until)
opens_client s style name l from until =
    let range = with_line s (lines.RefusedRange name) in
    let full = with_line s (lines.RefusedFull name) in
    let last = only_state (with_reader s name (opened style l (length s.readers) from until)) in
    let many = nat_le reader_limit (length s.readers) in
    client_if ((from == 0) || nat_lt until from) s range (if many then full else last) (line_client s (lines.RefusedRange name) refl)
    (client_if many s full last (line_client s (lines.RefusedFull name) refl) (opened_client s name (opened style l (length s.readers) from until)))

opens_new_client : (c : Config) (s : State) (style : Style) (name : List ℕ) (l from until : ℕ) → IsClient s (opens_new c s style name l from until)
opens_new_client c s style name l from until = client_if (has_log c l && not (is_some (find_named name s.readers))) s (opens s style name l from until) (unchanged s) (opens_client s style name l from until) (nothing_client s)

pub open_client : (c : Config) (s : State) (style : Style) (name : List ℕ) (l from until : ℕ) → IsClient s (happens c s (opening style name l from until))
unfolding happens
open_client c s styles.EachCopy name l from until = opens_new_client c s styles.EachCopy name l from until
open_client c s styles.OneCopy name l from until = opens_new_client c s styles.OneCopy name l from until
open_client c s styles.OfMessages name l from until = opens_new_client c s styles.OfMessages name l from until

-- the reader's part of the step, with its register
pub reader_acted : (c : Config) (s : State) (new : List (List ℕ × Following)) (o : Outcome) (T U : Register → Type 0) (d : Done) → IsRead s new o T d → ((r : Register) → T r → U r) → IsClient s d → KnowTheirLogs c new → IsActed (Follows new U c) s o.lines.items o.sends d
reader_acted c s new o T U d r f k logs = record {
  actor = record { readers = record { readers = ap (λ t. t.readers) r.state; logs = logs }; register = f d.state.register r.register };
  nodes = k.nodes;
  network = k.network;
  lines = r.lines;
  sends = r.sends;
  own = ap own_lines r.lines ∙ (k.own ∙ sym r.lines);
  asks = subst (λ ms. AllByRecursion (λ m. is_answer m ≡ false) ms) (sym r.sends) k.asks;
}

pub told_acted : (A : State → Type 0) (s : State) (ls now : List Line) (ms sends : List Msg) (d : Done) → now ≡ ls → sends ≡ ms → IsActed A s ls ms d → IsActed A s now sends d
told_acted A s ls now ms sends d l m a = subst (λ x. IsActed A s x sends d) (sym l) (subst (λ x. IsActed A s ls x d) (sym m) a)

-- ---- the opening ----

none_logs : (c : Config) → KnowTheirLogs c []
unfolding find_named
none_logs c = λ name x e. absurd cc

pub none_are : (c : Config) (s : State) → s.readers ≡ [] → AreReaders c s []
none_are c s e = record { readers = e; logs = none_logs c }

sends_none : (b : Bool) (x y : Done) → x.sends ≡ [] → y.sends ≡ [] → (if b then x else y).sends ≡ []
sends_none true x y h k = h
sends_none false x y h k = k

-- it sends nothing
opens_new_sends : (c : Config) (s : State) (style : Style) (name : List ℕ) (l from until : ℕ) → (opens_new c s style name l from until).sends ≡ []
opens_new_sends c s style name l from until =
    let range = with_line s (lines.RefusedRange name) in
    let full = with_line s (lines.RefusedFull name) in
    let last = only_state (with_reader s name (opened style l (length s.readers) from until)) in
    let many = nat_le reader_limit (length s.readers) in
    sends_none (has_log c l && not (is_some (find_named name s.readers))) (opens s style name l from until) (unchanged s)
    (sends_none ((from == 0) || nat_lt until from) range (if many then full else last) refl (sends_none many full last refl refl)) refl

open_sends : (c : Config) (s : State) (style : Style) (name : List ℕ) (l from until : ℕ) → (happens c s (opening style name l from until)).sends ≡ []
unfolding happens
open_sends c s styles.EachCopy name l from until = opens_new_sends c s styles.EachCopy name l from until
open_sends c s styles.OneCopy name l from until = opens_new_sends c s styles.OneCopy name l from until
open_sends c s styles.OfMessages name l from until = opens_new_sends c s styles.OfMessages name l from until

pub opened_messages : (c : Config) (fs new : List (List ℕ × Following)) (style : Style) (name : List ℕ) (l from until : ℕ) (o : Outcome) → fs ≡ [] → ((s : State) → AreReaders c s fs → IsRead s new o (Stays s) (happens c s (opening style name l from until))) → AreMessages o.sends
opened_messages c fs new style name l from until o e done =
    let s : State = start c in
    let r = done s (subst (λ x. AreReaders c s x) (sym e) (none_are c s refl)) in
    subst AreMessages (sym (r.sends ∙ open_sends c s style name l from until)) tt

-- no line of a reader ends its drive
pub none_final : (ls : List Line) → tells_by (λ l. false) ls ≡ false
none_final [] = refl
none_final (l ∷ ls) = none_final ls
