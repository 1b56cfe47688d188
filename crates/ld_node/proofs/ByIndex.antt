-- What is kept and answered over any disk.
use Rattle.std.proofs.Common.{◌≡◌, ℕ, ◌==◌, Bool, List, [], ◌∷◌, ◌++◌, map, length, drop, replicate, append-nil, Option, None, Some, option_map, refl, sym, ap, ◌∙◌}
use Rattle.std.proofs.lemmas.List.{length-replicate}
use Rattle.std.proofs.Math.Seq.{drop-append_seam}
use Rattle.ld_table.specs.Named.{same}
use Rattle.ld_table.specs.Words.{numbers_from}
use Rattle.ld_msg.specs.declared.msg.Who.TheVariants as whos
use Rattle.ld_msg.specs.declared.msg.What.{What}
use Rattle.ld_msg.specs.declared.msg.What.TheVariants.{Rec, Hole, Bridge, Plug, Withheld}
use Rattle.ld_msg.specs.declared.msg.Entry.{Entry}
use Rattle.ld_msg.specs.declared.msg.Msg.{Msg}
use Rattle.ld_msg.specs.declared.msg.Body.{Body}
use Rattle.ld_msg.specs.declared.msg.Body.TheVariants as bodies
use Rattle.ld_op.specs.declared.op.Op.{Op}
use Rattle.ld_op.specs.declared.pointed.Place.{Place}
use Rattle.ld_op.specs.Plain.{Plain}
use Rattle.ld_op.specs.Cells.{each_what, each_entry, each_plain, each_body, byte_at}
use Rattle.ld_op.specs.Handles.{answer_message}
use Rattle.ld_op.proofs.Reading.{payload_read}
use Rattle.ld_layout.specs.Layout.{Layout}
use Rattle.ld_store.specs.Ops.{IsCompared}
use Rattle.ld_node.specs.Known.{Known}
use Rattle.ld_node.specs.Changes.{laid_with}
use Rattle.ld_node.specs.Msgs.{handled}
use Rattle.ld_node.specs.declared.handled.Handled as declared
use Rattle.ld_node.specs.declared.handled.Reply.{Reply}
use Rattle.ld_node.specs.declared.handled.Reply.TheVariants as replies
use Rattle.ld_node.specs.Handling.{IsHandledWith, IsForSome, StandsForSome, op_with, reply_with, reply_in}
use Rattle.ld_node.specs.ByIndex.{without_bytes, IsByIndex, DoesByIndex}
use Rattle.ld_node.proofs.Filled.{empty_from}

-- ---- what stands at a place ----

-- bytes that stand at an offset, zeros before them
behind : (at : ℕ) (bytes : List ℕ) → map (byte_at (replicate at 0 ++ bytes)) (numbers_from at (length bytes)) ≡ bytes
behind at bytes = payload_read at bytes [] (replicate at 0 ++ bytes)
    (ap (λ n. drop n (replicate at 0 ++ bytes)) (sym (length-replicate at 0)) ∙ (drop-append_seam (replicate at 0) bytes ∙ sym (append-nil bytes)))

pub for_place : (place : Place) (p q : List ℕ) (there : Bool) → q ≡ p → IsCompared place.len q there → StandsForSome p place there
for_place place p q there is compared =
    let read : map (byte_at (replicate place.at 0 ++ compared.bytes)) (numbers_from place.at place.len) ≡ compared.bytes = ap (λ n. map (byte_at (replicate place.at 0 ++ compared.bytes)) (numbers_from place.at n)) (sym compared.long) ∙ behind place.at compared.bytes in
    record { byte = byte_at (replicate place.at 0 ++ compared.bytes); is = compared.same ∙ (λ i. same (sym read i) (is i)) }

pub for_empty : (place : Place) (p : List ℕ) → p ≡ [] → StandsForSome p place (place.len == 0)
for_empty place p is = record { byte = λ _. 0; is = empty_from (λ _. 0) place.at place.len ∙ ap (same (map (λ _. 0) (numbers_from place.at place.len))) (sym is) }

-- ---- the op that is kept ----

pub for_nothing : (m : Msg) (o : Option Op) (a : Reply) → a ≡ replies.Nothing → IsForSome m o a o
for_nothing m o a is = record { byte = λ _. 0; is = ap (op_with (λ _. 0) m o) (sym is) }

pub for_whole : (m : Msg) (o : Option Op) (a : Reply) (b : Body) → a ≡ replies.Whole b → IsForSome m o a o
for_whole m o a b is = record { byte = λ _. 0; is = ap (op_with (λ _. 0) m o) (sym is) }

pub for_page : (m : Msg) (o : Option Op) (a : Reply) (page : Msg) → a ≡ replies.Page page → IsForSome m o a o
for_page m o a page is = record { byte = λ _. 0; is = ap (op_with (λ _. 0) m o) (sym is) }

-- ---- answers but for their bytes ----

module _ (f : ℕ → ℕ) where
  zeros_twice : (p : List ℕ) → map {B = ℕ} (λ _. 0) p ≡ map {B = ℕ} (λ _. 0) (map f p)
  zeros_twice [] = refl
  zeros_twice (n ∷ p) = ap (λ (l : List ℕ). 0 ∷ l) (zeros_twice p)

  what_twice : (w : What) → each_what (λ _. 0) w ≡ each_what (λ _. 0) (each_what f w)
  what_twice (Rec p) = ap Rec (zeros_twice p)
  what_twice Hole = refl
  what_twice Bridge = refl
  what_twice Plug = refl
  what_twice Withheld = refl

  entries_twice : (es : List Entry) → map (each_entry (λ _. 0)) es ≡ map (each_entry (λ _. 0)) (map (each_entry f) es)
  entries_twice [] = refl
  entries_twice (e ∷ es) = (λ i. record e { what = what_twice e.what i } ∷ entries_twice es i)

  body_twice : (b : Body) → each_body (λ _. 0) b ≡ each_body (λ _. 0) (each_body f b)
  body_twice (bodies.DigestPage from upto trim lng es) = ap (bodies.DigestPage from upto trim lng) (entries_twice es)
  body_twice (bodies.ReadPage round from upto clean es) = ap (bodies.ReadPage round from upto clean) (entries_twice es)
  body_twice _ = refl

  reply_twice : (m : Msg) (a : Reply) → option_map (each_body (λ _. 0)) (reply_in m a) ≡ option_map (each_body (λ _. 0)) (reply_with f m a)
  reply_twice m replies.Nothing = refl
  reply_twice m (replies.Whole b) = refl
  reply_twice m (replies.Page draft) = ap Some (body_twice draft.body)
  reply_twice m (replies.Compare place) = refl

same_answers : (id : ℕ) (m : Msg) (a b : Option Body) → option_map (each_body (λ _. 0)) a ≡ option_map (each_body (λ _. 0)) b → without_bytes (answer_message id m a) ≡ without_bytes (answer_message id m b)
same_answers id m None None is = refl
same_answers id m None (Some b) is = absurd (cc is)
same_answers id m (Some a) None is = absurd (cc is)
same_answers id m (Some a) (Some b) is = let same : each_body (λ _. 0) a ≡ each_body (λ _. 0) b = cc is in ap (λ (x : Body). record { from = whos.Node id; to = m.from; log = m.log; body = x } ∷ []) same

-- ---- the whole ----

pub by_index : (id : ℕ) (known : Known) (released : List (ℕ × ℕ)) (index q : Plain) (m : Msg) (done : declared.Handled) (op : Option Op) (answer : Option Body) (sends : List Msg) → q ≡ index
    → ((f : ℕ → ℕ) → IsHandledWith f m done (handled id known released (each_plain f q) m)) → IsForSome m done.op done.answer op
    → option_map (each_body (λ _. 0)) answer ≡ option_map (each_body (λ _. 0)) (reply_in m done.answer) → sends ≡ answer_message id m answer → IsByIndex id known released index m op sends
by_index id known released index q m done op answer sends same decided some lengths sent =
    let f = some.byte in
    record {
      byte = f;
      op_is = some.is ∙ ((decided f).op ∙ ap (λ p. (handled id known released (each_plain f p) m).op) same);
      answers_are = ap without_bytes sent ∙ same_answers id m answer (handled id known released (each_plain f index) m).answer
          (lengths ∙ (reply_twice f m done.answer ∙ ap (option_map (each_body (λ _. 0))) ((decided f).answer ∙ ap (λ p. (handled id known released (each_plain f p) m).answer) same)));
    }

pub does_by_index : (id : ℕ) (known : Known) (released : List (ℕ × ℕ)) (m : Msg) (answers : List Msg) (before middle now : Layout) (op : Option Op) → IsByIndex id known released before.index m op answers → middle ≡ before → now ≡ laid_with middle op
    → DoesByIndex id known released m answers before now
does_by_index id known released m answers before middle now op done same laid = record { op = op; done = done; laid = laid ∙ ap (λ y. laid_with y op) same }
