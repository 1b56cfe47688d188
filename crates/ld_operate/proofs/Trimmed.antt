-- What nodes told for their trim points, one after the other.
use Rattle.std.proofs.Common.{◌≡◌, ℕ, List, [], ◌∷◌, ◌++◌, Option, None, Some, Bool, true, false, ◌&&◌, if◌then◌else◌, refl, sym, ap, ◌∙◌, inl, inr, ⊎_elim, arith, append_assoc}
use Rattle.std.specs.Prelude.{nat_le}
use Rattle.std.specs.List.{list_all}
use Rattle.std.proofs.lemmas.Bool.Decides.{nat_tests}
use Rattle.std.proofs.lemmas.List.{append-nil, map-append}
use Rattle.std.proofs.lemmas.List.Folds.{list_all-append}
use Rattle.std.proofs.lemmas.Grind.{flat_map-append}
use Rattle.ld_config.specs.declared.config.Config.{Config}
use Rattle.ld_lsn.specs.Number.{numbered, home_epoch, home_esn}
use Rattle.ld_msg.specs.declared.msg.Body.{Body}
use Rattle.ld_msg.specs.declared.msg.Body.TheVariants as bodies
use Rattle.ld_msg.specs.declared.msg.Summary.{Summary}
use Rattle.ld_msg.specs.Reading.{trim_told}
use Rattle.ld_op.specs.Plain.{Log, log_of, summary_at, is_lost}
use Rattle.ld_op.specs.Answers.{read_answer, epoch_answer, open_answer, clean_page, read_page, readable, lost_or, lets_read}
use Rattle.ld_machine.specs.Disk.{Node}
use Rattle.ld_machine.specs.State.{node_at}
use Rattle.ld_machine.specs.Step.{released_at}
use Rattle.ld_dial.specs.Far.{Far, alone, is_up_in}
use Rattle.ld_operate.specs.Asked.{first_number}
use Rattle.ld_operate.specs.Trims.{trim_line, trims_text, has_told, has_trimmed, trim_of, trims_of, HearsTrim, HearsOn, HeardTrim, HeardTrims}
use Rattle.ld_operate.specs.Heard.{IsBroken, AreLater}
use Rattle.ld_operate.proofs.Groups.{Told, Reached, faces, stands, up_of, heard_some, heard_none, as_and, and_true, broken_on, broken_since}

-- ---- an answer tells the trim point ----

neither : (b : Bool) (x y : Body) → trim_told x ≡ 0 → trim_told y ≡ 0 → trim_told (if b then x else y) ≡ 0
neither true x y p q = p
neither false x y p q = q

open_none : (g : Log) (released round from : ℕ) → trim_told (open_answer g released round from) ≡ 0
open_none g released round from = neither (lets_read released from) (read_page round from false released (readable g from released)) (bodies.ReadWait round from released) refl refl

no_trim : (generation : ℕ) (g : Log) (released round from : ℕ) (o : Option Summary) → trim_told (epoch_answer generation g released round from o) ≡ 0
no_trim generation g released round from None = neither (is_lost g (home_epoch from)) (bodies.LostHere from round generation 0) (open_answer g released round from) refl (open_none g released round from)
no_trim generation g released round from (Some y) =
    neither (nat_le y.end (home_esn from)) (bodies.ReadEnded round from (numbered (home_epoch from) y.end) y.loss) (lost_or (is_lost g (home_epoch from)) generation round from (numbered (home_epoch from) y.end) (clean_page g round from y)) refl
    (neither (is_lost g (home_epoch from)) (bodies.LostHere from round generation (numbered (home_epoch from) y.end)) (clean_page g round from y) refl refl)

by_test : (b : Bool) (round from t : ℕ) (other : Body) → trim_told other ≡ 0 → (b ≡ false → t ≡ 0) → trim_told (if b then bodies.ReadTrim round from t else other) ≡ t
by_test true round from t other p q = refl
by_test false round from t other p q = p ∙ sym (q refl)

below_one : (t : ℕ) → nat_le first_number t ≡ false → t ≡ 0
below_one t h = grind (arith, nat_tests)

pub told_is_trim : (generation : ℕ) (g : Log) (released : ℕ) → trim_told (read_answer generation g released 1 first_number) ≡ g.trim
unfolding read_answer
told_is_trim generation g released =
    by_test (nat_le first_number g.trim) 1 first_number g.trim (epoch_answer generation g released 1 first_number (summary_at g (home_epoch first_number)))
    (no_trim generation g released 1 first_number (summary_at g (home_epoch first_number))) (below_one g.trim)

-- ---- a node ----

down_is : (x : Node) (log : ℕ) (b : Bool) (up : Bool) → up ≡ b → (if up then Some (log_of x.plain log).trim else None) ≡ (if b then Some (log_of x.plain log).trim else None)
down_is x log b up h = ap (λ (v : Bool). if v then Some (log_of x.plain log).trim else None) h

-- it couldn't be dialed
pub hears_down : (T U : Config → Far → Type 0) (s : Bool) (log y : ℕ)
    → ((c : Config) (far : Far) → T c far → (is_up_in far.nodes y ≡ false) × U c (record { nodes = far.nodes; present = None; answers = [] })) → HearsTrim T U s log y None
hears_down T U s log y dials c all f has = let d = dials c f.far f.told in
    inr (
      sym (down_is (node_at (alone all) y) log false (is_up_in all y) (up_of all y f.far f.same false d.0)),
      record { far = record { nodes = f.far.nodes; present = None; answers = [] }; told = d.1; same = f.same },
    )

-- it was dialed, and fell silent
pub hears_none : (T U V : Config → Far → Type 0) (s : Bool) (log y from : ℕ) (o : Option Body) → Reached T U y → o ≡ None → Told U V s log y from o → HearsTrim T V s log y None
hears_none T U V s log y from o dials e p c all f has = let d = faces T U y dials c all f in inl (heard_none (V c) s all y log from o e (p c all d.1 d.0 has))

-- it answered
pub hears_some : (T U V : Config → Far → Type 0) (s : Bool) (log y from trim : ℕ) (o : Option Body) (a : Body) → Reached T U y → from ≡ first_number → o ≡ Some a → trim ≡ trim_told a → Told U V s log y from o
    → HearsTrim T V s log y (Some trim)
hears_some T U V s log y from trim o a dials j e is p c all f has = let d = faces T U y dials c all f in
    ⊎_elim inl (λ h. inr (
      ap Some (is ∙ ap trim_told h.0 ∙ told_is_trim (node_at (alone all) y).plain.generation (log_of (node_at (alone all) y).plain log) (released_at (node_at (alone all) y) log)) ∙ sym (down_is (node_at (alone all) y) log true (is_up_in all y) d.0),
      stands h.1,
    )) (heard_some (V c) s all y log from first_number o a e j (p c all d.1 d.0 has))

-- ---- a node that is asked again ----

pub hears_kept : (T : Config → Far → Type 0) (s : Bool) (log y : ℕ) (told : Option ℕ) → HearsOn T T s log y told told
hears_kept T s log y told c all f has is = inr (is, f)

-- it rested before
pub hears_rested : (T U V : Config → Far → Type 0) (s : Bool) (log y : ℕ) (told trim : Option ℕ) → ((c : Config) (far : Far) → T c far → U c far) → HearsTrim U V s log y trim → HearsOn T V s log y told trim
hears_rested T U V s log y told trim rests p c all f has is = p c all (record { far = f.far; told = rests c f.far f.told; same = f.same }) has

pub hears_on : (T U V : Config → Far → Type 0) (s t : Bool) (log y : ℕ) (a b : Option ℕ) → (s ≡ true → t ≡ true) → HearsTrim T U s log y a → HearsOn U V t log y a b → HearsTrim T V t log y b
hears_on T U V s t log y a b quiet p q c all f has = ⊎_elim (λ x. inl (quiet x)) (λ h. q c all h.1 has h.0) (p c all f has)

-- it fell silent at this ask, or at one before
pub broken_on_ask : (f g h d e k : ℕ) (a b : Option ℕ) → (has_told a ≡ false → IsBroken f g d e) → AreLater f g d e → (has_told a ≡ true → has_told b ≡ false → IsBroken g h e k) → AreLater g h e k
    → has_told b ≡ false → IsBroken f h d k
broken_on_ask f g h d e k None b p l q m n = broken_on f g h d e k m.0 m.1 (p refl)
broken_on_ask f g h d e k (Some x) b p l q m n = broken_since f g h d e k l.0 l.1 (q refl n)

-- ---- all nodes ----

pub no_trims : {T : Config → Far → Type 0} {s : Bool} {B : Type 0} {log upto : ℕ} {o : List ℕ} → HeardTrims T T s B log upto [] o o true
no_trims {T} {s} {B} {log} {upto} {o} = record { trims = []; nodes_are = refl; done_is = refl; written = sym (append-nil o); falls_silent = λ h. absurd cc; told = λ c all f has. inr (refl, f) }

either_false : {D : Type 0} (a b : Bool) → (a ≡ false → D) → (b ≡ false → D) → (a && (b && true)) ≡ false → D
either_false false b p q h = p refl
either_false true false p q h = q refl
either_false true true p q h = absurd cc

pub one_more_trim : {T U V : Config → Far → Type 0} {s t : Bool} {B C D : Type 0} {log upto y : ℕ} {ys : List ℕ} {o m n : List ℕ} {a b : Bool} (done : Bool) → (s ≡ true → t ≡ true) → (B → D) → (C → D)
    → done ≡ (if b then a else false) → HeardTrims T U s B log upto ys o m a → HeardTrim U V t C log upto y m n b → HeardTrims T V t D log upto (ys ++ y ∷ []) o n done
one_more_trim {T} {U} {V} {s} {t} {B} {C} {D} {log} {upto} {y} {ys} {o} {m} {n} {a} {b} done quiet before now is p q = record {
  trims = p.trims ++ (y, q.trim) ∷ [];
  nodes_are = map-append (λ (t : ℕ × Option ℕ). t.0) p.trims ((y, q.trim) ∷ []) ∙ ap (λ l. l ++ y ∷ []) p.nodes_are;
  done_is = is ∙ as_and a b ∙ ap (λ x. x && b) p.done_is ∙ ap (λ x. list_all (λ (t : ℕ × Option ℕ). has_trimmed upto t.1) p.trims && x) (q.done_is ∙ sym (and_true (has_trimmed upto q.trim)))
      ∙ sym (list_all-append (λ (t : ℕ × Option ℕ). has_trimmed upto t.1) p.trims ((y, q.trim) ∷ []));
  written = q.written ∙ ap (λ l. l ++ trim_line y q.trim) p.written ∙ append_assoc o (trims_text p.trims) (trim_line y q.trim)
      ∙ ap (λ l. o ++ l) (ap (λ l. trims_text p.trims ++ l) (sym (append-nil (trim_line y q.trim))) ∙ sym (flat_map-append (λ (t : ℕ × Option ℕ). trim_line t.0 t.1) p.trims ((y, q.trim) ∷ [])));
  falls_silent = λ h. either_false (list_all (λ (t : ℕ × Option ℕ). has_told t.1) p.trims) (has_told q.trim) (λ e. before (p.falls_silent e)) (λ e. now (q.falls_silent e))
      (sym (list_all-append (λ (t : ℕ × Option ℕ). has_told t.1) p.trims ((y, q.trim) ∷ [])) ∙ h);
  told = λ c all f has. ⊎_elim (λ x. inl (quiet x)) (λ h. ⊎_elim inl (λ k. inr (
    ap (λ l. l ++ (y, q.trim) ∷ []) h.0 ∙ ap (λ (x : Option ℕ). trims_of all log ys ++ (y, x) ∷ []) k.0
        ∙ sym (map-append (λ z. (z, trim_of (node_at (alone all) z) log)) ys (y ∷ [])),
    k.1,
  )) (q.told c all h.1 has)) (p.told c all f has);
}
