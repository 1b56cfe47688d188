-- Readers by name: their numbers are their places, and each keeps its log.
use Rattle.std.proofs.Common.{◌≡◌, ℕ, zero, suc, ◌+◌, Bool, true, false, ◌==◌, List, [], ◌∷◌, ◌++◌, length, slice_get, Option, Some, None, option_map, Ok, Err, IfOk, OnOk, OnErr, refl, ap, sym, ◌∙◌, subst, arith, cond, if◌then◌else◌, nat_lt}
use Rattle.std.specs.declared.result.Result.{Result}
use Rattle.std.proofs.lemmas.Bool.{eq-eqb, ne_eqb}
use Rattle.ld_table.specs.Named.{same, find_named, put_named}
use Rattle.ld_table.specs.Words.{numbers_from}
use Rattle.ld_msg.specs.declared.msg.Who.{Who}
use Rattle.ld_msg.specs.declared.msg.Who.TheVariants as whos
use Rattle.ld_msg.specs.declared.msg.Msg.{Msg}
use Rattle.ld_msg.specs.declared.msg.Body.{Body}
use Rattle.ld_ids.specs.declared.set.Spec.{Spec}
use Rattle.ld_config.specs.declared.config.Config.{Config}
use Rattle.ld_msg.specs.Register.{View}
use Rattle.ld_msg.specs.declared.style.Style.{Style}
use Rattle.ld_msg.specs.Reading.{Item, Verdict, Gives, Confirms, AsksAll, NotYet}
use Rattle.ld_msg.specs.Reader.{opened, Reader, Read, gives, confirms, asks_all, gives_all, verdict, round_of, heard, heard_on, loses, is_swapped, goes_through, starts, polled, asks_on, most_items, on_answer, is_confirmed, is_finished}
use Rattle.ld_machine.specs.State.{reader_of, name_of}
use Rattle.ld_machine.specs.Config.{first_spec}
use Rattle.ld_reader.specs.Looks.{AreLooks}
use Rattle.ld_reader.specs.Following.{Following, replied, answered, asked, HasDone}
use Rattle.ld_reader.specs.declared.fault.ReaderFault.{ReaderFault}
use Rattle.ld_clients.specs.Reads.{HasRead}
use Rattle.ld_clients.specs.Followers.{readers_of, reader_in, numbers_in, AreNumbered, Knows, KnowTheirLogs}
use Rattle.ld_clients.proofs.Names.{all_put, found_name}
use Rattle.ld_clients.proofs.Logs.{spec_log}

abbrev Followers : Type 0
Followers = List (List ℕ × Following)

-- ---- by number ----

of_step : (b : Bool) (f : List ℕ × Following) (o : Option (List ℕ × Following)) (p : Option (List ℕ × Reader)) → p ≡ option_map (λ (x : List ℕ × Following). (x.0, x.1.reader)) o
    → (if b then Some (f.0, f.1.reader) else p) ≡ option_map (λ (x : List ℕ × Following). (x.0, x.1.reader)) (if b then Some f else o)
of_step true f o p h = refl
of_step false f o p h = h

pub reader_of_is : (n : ℕ) (fs : Followers) → reader_of n (readers_of fs) ≡ option_map (λ (x : List ℕ × Following). (x.0, x.1.reader)) (reader_in n fs)
reader_of_is n [] = refl
reader_of_is n (f ∷ fs) = of_step (f.1.reader.number == n) f _ _ (reader_of_is n fs)

name_map : (o : Option (List ℕ × Following)) → name_of (option_map (λ (x : List ℕ × Following). (x.0, x.1.reader)) o) ≡ name_of o
name_map None = refl
name_map (Some e) = refl

-- the name of a reader of the machine
pub reader_named : (n : ℕ) (fs : Followers) → name_of (reader_of n (readers_of fs)) ≡ name_of (reader_in n fs)
reader_named n fs = ap name_of (reader_of_is n fs) ∙ name_map (reader_in n fs)

names_map : (o : Option (List ℕ × Following)) → option_map (λ (e : List ℕ × Following). e.0) o ≡ option_map (λ (e : List ℕ × Reader). e.0) (option_map (λ (x : List ℕ × Following). (x.0, x.1.reader)) o)
names_map None = refl
names_map (Some f) = refl

pub names_are : (n : ℕ) (fs : Followers) → option_map (λ (e : List ℕ × Following). e.0) (reader_in n fs) ≡ option_map (λ (e : List ℕ × Reader). e.0) (reader_of n (readers_of fs))
names_are n fs = names_map (reader_in n fs) ∙ ap (option_map (λ (x : List ℕ × Reader). x.0)) (sym (reader_of_is n fs))

-- ---- numbers ----

head_is : (a b : ℕ) (xs ys : List ℕ) → a ∷ xs ≡ b ∷ ys → a ≡ b
head_is a b xs ys h = cc

tail_is : (a b : ℕ) (xs ys : List ℕ) → a ∷ xs ≡ b ∷ ys → xs ≡ ys
tail_is a b xs ys h = cc

pub numbered_at : (k n i : ℕ) (fs : Followers) → numbers_in fs ≡ numbers_from k (length fs) → n ≡ k + i → reader_in n fs ≡ slice_get fs i
numbered_at k n i [] h e = refl
numbered_at k n zero (f ∷ fs) h e = let a = head_is _ _ _ _ h in rw (eq-eqb f.1.reader.number n (omega arith)) refl
numbered_at k n (suc i) (f ∷ fs) h e = let a = head_is _ _ _ _ h in rw (ne_eqb f.1.reader.number n (omega arith)) (numbered_at (k + 1) n i fs (tail_is _ _ _ _ h) (omega arith))

numbers_from-push : (k n : ℕ) → numbers_from k (suc n) ≡ numbers_from k n ++ (k + n) ∷ []
numbers_from-push k zero = ap (λ j. j ∷ []) (omega arith)
numbers_from-push k (suc n) = ap (λ l. k ∷ l) (numbers_from-push (k + 1) n ∙ ap (λ j. numbers_from (k + 1) n ++ j ∷ []) (omega arith))

old_step : (b : Bool) (f : List ℕ × Following) (g v : Following) (fs gs : Followers) (o : Option Following) → g.reader.number ≡ v.reader.number → cond b (Some f.1) o ≡ Some v → (o ≡ Some v → numbers_in gs ≡ numbers_in fs)
    → numbers_in (if b then (f.0, g) ∷ fs else f ∷ gs) ≡ f.1.reader.number ∷ numbers_in fs
old_step true f g v fs gs o e h ih = let s : f.1 ≡ v = cc in ap (λ n. n ∷ numbers_in fs) (e ∙ sym (ap (λ (x : Following). x.reader.number) s))
old_step false f g v fs gs o e h ih = ap (λ l. f.1.reader.number ∷ l) (ih h)

numbers_old : (name : List ℕ) (g v : Following) (fs : Followers) → g.reader.number ≡ v.reader.number → find_named name fs ≡ Some v → numbers_in (put_named name g fs) ≡ numbers_in fs
unfolding put_named find_named
numbers_old name g v [] e h = absurd cc
numbers_old name g v (f ∷ fs) e h = old_step (same name f.0) f g v fs _ _ e h (λ k. numbers_old name g v fs e k)

length_step : (b : Bool) (f : List ℕ × Following) (g v : Following) (fs gs : Followers) (o : Option Following) → cond b (Some f.1) o ≡ Some v → (o ≡ Some v → length gs ≡ length fs) → length (if b then (f.0, g) ∷ fs else f ∷ gs) ≡ suc (length fs)
length_step true f g v fs gs o h ih = refl
length_step false f g v fs gs o h ih = ap suc (ih h)

length_old : (name : List ℕ) (g v : Following) (fs : Followers) → find_named name fs ≡ Some v → length (put_named name g fs) ≡ length fs
unfolding put_named find_named
length_old name g v [] h = absurd cc
length_old name g v (f ∷ fs) h = length_step (same name f.0) f g v fs _ _ h (λ k. length_old name g v fs k)

-- a reader that is there keeps its number
pub numbered_old : (name : List ℕ) (g v : Following) (fs : Followers) → g.reader.number ≡ v.reader.number → find_named name fs ≡ Some v → AreNumbered fs → AreNumbered (put_named name g fs)
numbered_old name g v fs e h a = numbers_old name g v fs e h ∙ (a ∙ ap (numbers_from 0) (sym (length_old name g v fs h)))

new_step : (b : Bool) (f h : List ℕ × Following) (g : Following) (fs gs : Followers) (o : Option Following) → cond b (Some f.1) o ≡ None → (o ≡ None → gs ≡ fs ++ h ∷ []) → (if b then (f.0, g) ∷ fs else f ∷ gs) ≡ f ∷ fs ++ h ∷ []
new_step true f h g fs gs o e ih = absurd cc
new_step false f h g fs gs o e ih = ap (λ l. f ∷ l) (ih e)

-- a name that is not there comes last
put_new : (name : List ℕ) (g : Following) (fs : Followers) → find_named name fs ≡ None → put_named name g fs ≡ fs ++ (name, g) ∷ []
unfolding put_named find_named
put_new name g [] h = refl
put_new name g (f ∷ fs) h = new_step (same name f.0) f (name, g) g fs _ _ h (λ k. put_new name g fs k)

numbers_in-push : (fs : Followers) (f : List ℕ × Following) → numbers_in (fs ++ f ∷ []) ≡ numbers_in fs ++ f.1.reader.number ∷ []
numbers_in-push [] f = refl
numbers_in-push (g ∷ fs) f = ap (λ l. g.1.reader.number ∷ l) (numbers_in-push fs f)

length-push : (fs : Followers) (f : List ℕ × Following) → length (fs ++ f ∷ []) ≡ suc (length fs)
length-push [] f = refl
length-push (g ∷ fs) f = ap suc (length-push fs f)

pub numbered_new : (name : List ℕ) (g : Following) (fs : Followers) → g.reader.number ≡ length fs → find_named name fs ≡ None → AreNumbered fs → AreNumbered (put_named name g fs)
numbered_new name g fs e h a = let start : length fs ≡ 0 + length fs = omega arith in subst (λ x. AreNumbered x) (sym (put_new name g fs h))
    (numbers_in-push fs (name, g) ∙ ((λ i. a i ++ e i ∷ []) ∙ (ap (λ n. numbers_from 0 (length fs) ++ n ∷ []) start ∙ (sym (numbers_from-push 0 (length fs)) ∙ ap (numbers_from 0) (sym (length-push fs (name, g)))))))

-- ---- what an answer leaves ----

pub record Remains (d e : Reader) : Type 0 where
  pub log : e.log ≡ d.log
  pub number : e.number ≡ d.number
  pub until : e.until ≡ d.until
  pub style : e.style ≡ d.style

itself : (d : Reader) → Remains d d
itself d = record { log = refl; number = refl; until = refl; style = refl }

remains_if : (b : Bool) (d e f : Reader) → Remains d e → Remains d f → Remains d (if b then e else f)
remains_if true d e f h k = h
remains_if false d e f h k = k

nothing_or : (b : Bool) (d : Reader) (a r : Read) → Remains d a.reader → Remains d r.reader → Remains d (if b then a else r).reader
nothing_or true d a r h k = h
nothing_or false d a r h k = k

remains_on : (k : ℕ) (looks : ℕ → View) (a : Read) (v : Verdict) (d : Reader) → Remains d a.reader → ((b : Read) → Remains d b.reader → Remains d (gives_all k looks b).reader)
    → Remains d (elim v as (λ _. Read) [ Gives i ↦ gives_all k looks (gives a i) | Confirms lost ↦ confirms looks a lost | AsksAll ↦ asks_all looks a | NotYet ↦ a ]).reader
remains_on k looks a (Gives i) d h ih = ih (gives a i) record { log = h.log; number = h.number; until = h.until; style = h.style }
remains_on k looks a (Confirms lost) d h ih = record { log = h.log; number = h.number; until = h.until; style = h.style }
remains_on k looks a AsksAll d h ih = record { log = h.log; number = h.number; until = h.until; style = h.style }
remains_on k looks a NotYet d h ih = h

remains_all : (k : ℕ) (looks : ℕ → View) (a : Read) (d : Reader) → Remains d a.reader → Remains d (gives_all k looks a).reader
remains_all zero looks a d h = h
remains_all (suc k) looks a d h = remains_on k looks a (verdict a.reader) d h (λ b g. remains_all k looks b d g)

loses_remains : (looks : ℕ → View) (d : Reader) → Remains d (loses looks d).reader
loses_remains looks d = nothing_or (is_confirmed d.confirming) d _ _ record { log = refl; number = refl; until = refl; style = refl } (itself d)

through_remains : (looks : ℕ → View) (d : Reader) → Remains d (goes_through looks d).reader
through_remains looks d = let a : Read = gives_all (most_items d) looks (loses looks d) in let h : Remains d a.reader = remains_all (most_items d) looks (loses looks d) d (loses_remains looks d) in
    remains_if (asks_on a) d (starts false looks a.reader) a.reader record { log = h.log; number = h.number; until = h.until; style = h.style } h

heard_remains : (looks : ℕ → View) (d : Reader) → Remains d (heard_on looks d).reader
heard_remains looks d = nothing_or (is_swapped looks d) d _ (goes_through looks d) record { log = refl; number = refl; until = refl; style = refl } (through_remains looks d)

from_heard : (d : Reader) (y : ℕ) (b : Body) (e : Reader) → Remains (heard d y b) e → Remains d e
from_heard d y b e h = record { log = h.log; number = h.number; until = h.until; style = h.style }

pub answer_remains : (looks : ℕ → View) (d : Reader) (y : ℕ) (b : Body) → Remains d (on_answer looks d y b).reader
unfolding on_answer
answer_remains looks d y b = nothing_or (nat_lt (round_of b) d.least) d _ _ (itself d) (from_heard d y b (heard_on looks (heard d y b)).reader (heard_remains looks (heard d y b)))

who_remains : (looks : ℕ → View) (d : Reader) (w : Who) (b : Body) → Remains d (answered looks d w b).reader
who_remains looks d (whos.Node y) b = nothing_or (is_finished d) d _ (on_answer looks d y b) (itself d) (answer_remains looks d y b)
who_remains looks d (whos.Sequencer e) b = itself d
who_remains looks d (whos.Reader r) b = itself d

reply_remains : (looks : ℕ → View) (f : Following) (m : Msg) → Remains f.reader (replied looks f m).reader
reply_remains looks f m = who_remains looks f.reader m.from m.body

ask_remains : (looks : ℕ → View) (f : Following) → Remains f.reader (asked looks f.reader).reader
ask_remains looks f = remains_if (is_finished f.reader) f.reader f.reader (polled looks f.reader) (itself f.reader) record { log = refl; number = refl; until = refl; style = refl }

-- ---- its number, after a call ----

number_after : (f g : Following) (items : List (ℕ × Item)) (old new : List Msg) (a : Read) → Remains f.reader a.reader → HasDone f g items old new a → g.reader.number ≡ f.reader.number
number_after f g items old new a r h = ap (λ (x : Following). x.reader.number) h.reader ∙ r.number

number_same : (f g : Following) → g ≡ f → g.reader.number ≡ f.reader.number
number_same f g e = ap (λ (x : Following). x.reader.number) e

pub ask_number : {T : Type 0} (f g : Following) (r : Result T ReaderFault) (old new : List Msg) → OnOk r ((looks : ℕ → View) × AreLooks f looks × HasDone f g [] old new (asked looks f.reader)) → OnErr r (g ≡ f) → g.reader.number ≡ f.reader.number
ask_number f g (Ok x) old new h e = number_after f g [] old new (asked h.0 f.reader) (ask_remains h.0 f) h.2
ask_number f g (Err x) old new h e = number_same f g e

pub reply_number : (f g : Following) (m : Msg) (r : Result (List (ℕ × Item)) ReaderFault) (old new : List Msg) → IfOk r (λ items. (looks : ℕ → View) × AreLooks f looks × HasDone f g items old new (replied looks f m)) → OnErr r (g ≡ f) → g.reader.number ≡ f.reader.number
reply_number f g m (Ok items) old new h e = number_after f g items old new (replied h.0 f m) (reply_remains h.0 f m) h.2
reply_number f g m (Err x) old new h e = number_same f g e

-- ---- what each has of its log, after a call ----

know_done : (c : Config) (fs gs : Followers) (name : List ℕ) (f : Following) (items : List (ℕ × Item)) (old new : List Msg) (a : Read) → Remains f.reader a.reader → find_named name fs ≡ Some f → HasRead name f fs gs items old new a → KnowTheirLogs c fs → KnowTheirLogs c gs
know_done c fs gs name f items old new a r e h k = subst (KnowTheirLogs c) (sym h.readers) (all_put (Knows c) name h.now fs (subst (Knows c) (sym h.done.reader) (k name f e ∙ ap (first_spec c) (sym r.log))) k)

pub know_polled : (c : Config) (fs gs : Followers) (name : List ℕ) (old new : List Msg) → ((f : Following) → find_named name fs ≡ Some f → (looks : ℕ → View) × HasRead name f fs gs [] old new (asked looks f.reader)) → (find_named name fs ≡ None → gs ≡ fs) → KnowTheirLogs c fs → KnowTheirLogs c gs
know_polled c fs gs name old new s n k = elim (find_named name fs) as (λ o. find_named name fs ≡ o → KnowTheirLogs c gs) [
  | None ↦ λ e. subst (KnowTheirLogs c) (sym (n e)) k
  | Some f ↦ λ e. let t = s f e in know_done c fs gs name f [] old new (asked t.0 f.reader) (ask_remains t.0 f) e t.1 k
] refl

pub know_read : (c : Config) (fs gs : Followers) (m : Msg) (number : ℕ) (found name : List ℕ) (items : List (ℕ × Item)) (old new : List Msg) → Some found ≡ option_map (λ e. e.0) (reader_in number fs) → name ≡ found → ((e : List ℕ × Following) → reader_in number fs ≡ Some e → find_named e.0 fs ≡ Some e.1)
    → ((f : Following) → find_named name fs ≡ Some f → (looks : ℕ → View) × HasRead name f fs gs items old new (replied looks f m)) → KnowTheirLogs c fs → KnowTheirLogs c gs
know_read c fs gs m number found name items old new h n u g k = let p = found_name found name fs (reader_in number fs) h n u in let t = g p.0 p.2 in
    know_done c fs gs name p.0 items old new (replied t.0 p.0 m) (reply_remains t.0 p.0 m) p.2 t.1 k

pub know_opened : (c : Config) (fs : Followers) (name : List ℕ) (first : Spec) (f : Following) (style : Style) (l number from until : ℕ) → first ≡ first_spec c l → f.first ≡ first → f.reader ≡ opened style first.log number from until → KnowTheirLogs c fs → KnowTheirLogs c (put_named name f fs)
know_opened c fs name first f style l number from until s e r k = all_put (Knows c) name f fs
    (e ∙ (s ∙ ap (first_spec c) (sym (ap (λ (d : Reader). d.log) r ∙ (ap (λ (x : Spec). x.log) s ∙ spec_log l c.logs))))) k
