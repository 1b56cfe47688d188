-- What a node said, one ask after the other.
use Rattle.std.proofs.Common.{◌≡◌, ◌⊎◌, ◌≤◌, ◌<◌, ℕ, zero, suc, ◌+◌, ◌-◌, List, [], ◌∷◌, ◌++◌, Option, None, Some, Bool, true, false, ◌&&◌, if◌then◌else◌, refl, sym, ap, ◌∙◌, subst, inl, inr, ⊎_elim, arith, append_assoc}
use Rattle.std.specs.Prelude.{nat_lt, All, IfOk}
use Rattle.std.specs.declared.result.Result.{Result}
use Rattle.std.proofs.lemmas.Bool.{lt-ltb, ltb-true}
use Rattle.ld_operate.specs.declared.stop.StatusStop.{StatusStop}
use Rattle.ld_operate.specs.Heard.{IsBroken, AreLater}
use Rattle.std.specs.List.{list_all}
use Rattle.std.proofs.lemmas.List.{append-nil, map-append}
use Rattle.std.proofs.lemmas.List.Elements.{All-append}
use Rattle.std.proofs.lemmas.List.Folds.{list_all-append}
use Rattle.std.proofs.lemmas.Grind.{flat_map-append}
use Rattle.std.specs.declared.result.Result.TheVariants.{Ok, Err}
use Rattle.ld_config.specs.declared.config.Config.{Config}
use Rattle.ld_msg.specs.declared.msg.Body.{Body}
use Rattle.ld_msg.specs.Reading.{trim_told}
use Rattle.ld_machine.specs.Disk.{Node, is_up}
use Rattle.ld_machine.specs.State.{node_at}
use Rattle.ld_machine.specs.Config.{has_log}
use Rattle.ld_dial.specs.Far.{Far, alone, is_up_in}
use Rattle.ld_operate.specs.Asked.{Said, Silent, Points, IsSaid, is_whole, said_of, said_text, answers_text, saids_text, saids_of, node_answer, state_lines, epochs_in, states_of, asked, points_line, state_line, silent_line, first_number, past_all, past_epoch}
use Rattle.ld_operate.specs.Heard.{SameNodes, Stand, Faces, IsHeard, Unheard, HeardPoints, HeardState, HeardStates, Heard, HeardAll}
use Rattle.ld_operate.proofs.Asks.{asked_more, asked_on}

-- an answer, or none
pub heard_some : (T : Far → Type 0) (s : Bool) (all : List (ℕ × Node)) (y log from at : ℕ) (o : Option Body) (b : Body) → o ≡ Some b → from ≡ at → IsHeard T s all y log from (Ok o) → (s ≡ true) ⊎ ((b ≡ node_answer (node_at (alone all) y) log at) × Faces T all y)
heard_some T s all y log from at o b e i h = subst (λ f. IsHeard T s all y log f (Ok (Some b))) i (subst (λ x. IsHeard T s all y log from (Ok x)) e h)

pub heard_none : (T : Far → Type 0) (s : Bool) (all : List (ℕ × Node)) (y log from : ℕ) (o : Option Body) → o ≡ None → IsHeard T s all y log from (Ok o) → s ≡ true
heard_none T s all y log from o e h = subst (λ x. IsHeard T s all y log from (Ok x)) e h

-- the first one of the first two asks
pub first_unheard : (T U : Config → Far → Type 0) (s : Bool) (log y from : ℕ) (a : List ℕ) (o : Option Body) → o ≡ None
    → ((c : Config) (all : List (ℕ × Node)) → Faces (T c) all y → is_up_in all y ≡ true → has_log c log ≡ true → IsHeard (U c) s all y log from (Ok o)) → Unheard T s log y a a
first_unheard T U s log y from a o e p = record { written = refl; told = λ c all f up has. heard_none (U c) s all y log from o e (p c all f up has) }

-- what is told of an ask, with what it answered
abbrev pub Told : (Config → Far → Type 0) → (Config → Far → Type 0) → Bool → ℕ → ℕ → ℕ → Option Body → Type 0
Told T U s log y from o = (c : Config) (all : List (ℕ × Node)) → Faces (T c) all y → is_up_in all y ≡ true → has_log c log ≡ true → IsHeard (U c) s all y log from (Ok o)

-- the second one
pub second_unheard : (T U V : Config → Far → Type 0) (s t : Bool) (log y from next : ℕ) (a : List ℕ) (o : Option Body) (b : Body) (q : Option Body) → (s ≡ true → t ≡ true) → o ≡ Some b → q ≡ None
    → Told T U s log y from o → Told U V t log y next q → Unheard T t log y a a
second_unheard T U V s t log y from next a o b q quiet e n p r = record {
  written = refl;
  told = λ c all f up has. ⊎_elim quiet (λ h. heard_none (V c) t all y log next q n (r c all h.1 up has)) (heard_some (U c) s all y log from from o b e refl (p c all f up has));
}

pub points_heard : {json : Bool} (T U V : Config → Far → Type 0) (s t : Bool) (log y from next : ℕ) (m n : List ℕ) (trim : ℕ) (o : Option Body) (a : Body) (q : Option Body) (b : Body) → (s ≡ true → t ≡ true)
    → from ≡ first_number → next ≡ past_all → o ≡ Some a → q ≡ Some b → Told T U s log y from o → Told U V t log y next q → trim ≡ trim_told a → n ≡ m ++ points_line json y a b → HeardPoints json T V t log y m n trim
points_heard T U V s t log y from next m n trim o a q b quiet j k e i p r is w = record {
  first = a;
  second = b;
  is = is;
  written = w;
  told = λ c all f up has. ⊎_elim (λ x. inl (quiet x)) (λ h. ⊎_elim inl (λ g. inr (h.0, g.0, g.1)) (heard_some (V c) t all y log next past_all q b i k (r c all h.1 up has)))
      (heard_some (U c) s all y log from first_number o a e j (p c all f up has));
}

pub state_heard : {json : Bool} (T U : Config → Far → Type 0) (s : Bool) (log y epoch from : ℕ) (m n : List ℕ) (o : Option Body) (a : Body) → from ≡ past_epoch epoch → o ≡ Some a → Told T U s log y from o
    → n ≡ m ++ state_line json y epoch a → HeardState json T U s log y epoch m n
state_heard T U s log y epoch from m n o a j e p w = record { answer = a; written = w; told = λ c all f up has. heard_some (U c) s all y log from (past_epoch epoch) o a e j (p c all f up has) }

-- what is written of a line
pub line_written : (n m line text : List ℕ) → n ≡ m ++ line → line ≡ text → n ≡ m ++ text
line_written n m line text p q = p ∙ ap (λ l. m ++ l) q

not_true : (b : Bool) → (b ≡ true → ⊥) → b ≡ false
not_true true h = absurd (h refl)
not_true false h = refl

pub lt_test : (a b m n : ℕ) → m ≡ a → n ≡ b → m < n → nat_lt a b ≡ true
lt_test a b m n p q l = lt-ltb a b (omega arith)

ge_ltb : (a b : ℕ) → b ≤ a → nat_lt a b ≡ false
ge_ltb a b l = not_true (nat_lt a b) (λ h. let x = ltb-true a b h in absurd (omega arith))

pub ge_test : (a b m n : ℕ) → m ≡ a → n ≡ b → n ≤ m → nat_lt a b ≡ false
ge_test a b m n p q l = ge_ltb a b (omega arith)

pub if_ok_on : {P Q : Bool → Type 0} (r : Result Bool StatusStop) → ((b : Bool) → P b → Q b) → IfOk r P → IfOk r Q
if_ok_on (Ok b) f h = f b h
if_ok_on (Err stop) f h = tt

module _ {json : Bool} {T U V : Config → Far → Type 0} {s t : Bool} {log y : ℕ} (quiet : s ≡ true → t ≡ true) where
  -- ---- epochs ----

  -- it answered for one more
  pub states_more : {trim first epoch : ℕ} {o m n : List ℕ} → first ≤ epoch → nat_lt trim (past_epoch epoch) ≡ true
      → HeardStates json T U s log y trim first (epoch - first) o m true → HeardState json U V t log y epoch m n → HeardStates json T V t log y trim first (epoch + 1 - first) o n true
  states_more {trim} {first} {epoch} {o} {m} {n} l in_it p q = record {
    states = p.states ++ (epoch, q.answer) ∷ [];
    rest = [];
    are = asked_more trim first epoch true l in_it ∙ ap (λ l. l ++ epoch ∷ []) (p.are ∙ ap (λ l. epochs_in p.states ++ l) (p.all refl) ∙ append-nil (epochs_in p.states))
        ∙ sym (append-nil _ ∙ map-append (λ (s : ℕ × Body). s.0) p.states ((epoch, q.answer) ∷ []));
    all = λ e. refl;
    written = q.written ∙ ap (λ l. l ++ state_line json y epoch q.answer) p.written ∙ append_assoc o (state_lines json y p.states) (state_line json y epoch q.answer)
        ∙ ap (λ l. o ++ l) (ap (λ l. state_lines json y p.states ++ l) (sym (append-nil (state_line json y epoch q.answer))) ∙ sym (flat_map-append (λ (s : ℕ × Body). state_line json y s.0 s.1) p.states ((epoch, q.answer) ∷ [])));
    told = λ c all f up has. ⊎_elim (λ x. inl (quiet x)) (λ h. ⊎_elim inl (λ k. inr (
      refl,
      ap (λ l. l ++ (epoch, q.answer) ∷ []) h.1 ∙ ap (λ b. states_of (node_at (alone all) y) log (asked trim first (epoch - first)) ++ (epoch, b) ∷ []) k.0
          ∙ sym (ap (λ l. states_of (node_at (alone all) y) log l) (asked_more trim first epoch true l in_it) ∙ map-append (λ e. (e, node_answer (node_at (alone all) y) log (past_epoch e))) (asked trim first (epoch - first)) (epoch ∷ [])),
      k.1,
    )) (q.told c all h.2 up has)) (p.told c all f up has);
  }

  -- it fell silent
  pub states_cut : (last : ℕ) {trim first epoch : ℕ} {o m n : List ℕ} → first ≤ epoch → epoch ≤ last + 1
      → HeardStates json T U s log y trim first (epoch - first) o m true → Unheard U t log y m n → HeardStates json T V t log y trim first (last + 1 - first) o n false
  states_cut last {trim} {first} {epoch} {o} {m} {n} l k p q = record {
    states = p.states;
    rest = asked trim epoch (last + 1 - epoch);
    are = asked_on trim first epoch last l k ∙ ap (λ l. l ++ asked trim epoch (last + 1 - epoch)) (p.are ∙ ap (λ l. epochs_in p.states ++ l) (p.all refl) ∙ append-nil (epochs_in p.states));
    all = λ e. absurd cc;
    written = q.written ∙ p.written;
    told = λ c all f up has. inl (⊎_elim quiet (λ h. q.told c all h.2 up has) (p.told c all f up has));
  }

-- an epoch that isn't asked for
pub states_past : {json : Bool} {T U : Config → Far → Type 0} {s : Bool} {log y trim first epoch : ℕ} {o m : List ℕ} → first ≤ epoch → nat_lt trim (past_epoch epoch) ≡ false
    → HeardStates json T U s log y trim first (epoch - first) o m true → HeardStates json T U s log y trim first (epoch + 1 - first) o m true
states_past {json} {T} {U} {s} {log} {y} {trim} {first} {epoch} {o} {m} l out p =
    let e : asked trim first (epoch - first) ≡ asked trim first (epoch + 1 - first) = sym (asked_more trim first epoch false l out ∙ append-nil (asked trim first (epoch - first))) in
    record {
      states = p.states;
      rest = p.rest;
      are = sym e ∙ p.are;
      all = p.all;
      written = p.written;
      told = λ c all f up has. ⊎_elim inl (λ h. inr (h.0, h.1 ∙ ap (λ l. states_of (node_at (alone all) y) log l) e, h.2)) (p.told c all f up has);
    }

pub states_none : {json : Bool} {T : Config → Far → Type 0} {s : Bool} {log y trim first : ℕ} {o : List ℕ} → HeardStates json T T s log y trim first (first - first) o o true
states_none {json} {T} {s} {log} {y} {trim} {first} {o} =
    let n : first - first ≡ 0 = omega arith in
    record {
      states = [];
      rest = [];
      are = ap (asked trim first) n;
      all = λ e. refl;
      written = sym (append-nil o);
      told = λ c all f up has. inr (refl, sym (ap (λ k. states_of (node_at (alone all) y) log (asked trim first k)) n), f);
    }

-- ---- a node ----

pub up_of : (all : List (ℕ × Node)) (y : ℕ) (far : Far) → SameNodes all far.nodes → (b : Bool) → is_up_in far.nodes y ≡ b → is_up_in all y ≡ b
up_of all y far same b h = sym (ap (λ x. is_up x.status) (same y)) ∙ h

said_up : (x : Node) (log first count : ℕ) → is_up x.status ≡ true
    → said_of x log first count ≡ Points (node_answer x log first_number) (node_answer x log past_all) (states_of x log (asked (trim_told (node_answer x log first_number)) first count)) true
said_up x log first count h = ap (λ b. if b then Points (node_answer x log first_number) (node_answer x log past_all) (states_of x log (asked (trim_told (node_answer x log first_number)) first count)) true else Silent) h

said_down : (x : Node) (log first count : ℕ) → is_up x.status ≡ false → said_of x log first count ≡ Silent
said_down x log first count h = ap (λ b. if b then Points (node_answer x log first_number) (node_answer x log past_all) (states_of x log (asked (trim_told (node_answer x log first_number)) first count)) true else Silent) h

-- it couldn't be dialed
pub answers_down : (json : Bool) {T U : Config → Far → Type 0} {s : Bool} {log y first count : ℕ} {o : List ℕ}
    → ((c : Config) (far : Far) → T c far → (is_up_in far.nodes y ≡ false) × U c (record { nodes = far.nodes; present = None; answers = [] })) → Heard (answers_text json) T U s log y first count o o false
answers_down json {T} {U} {s} {log} {y} {first} {count} {o} dials = record {
  said = Silent;
  is = tt;
  whole_is = refl;
  written = sym (append-nil o);
  told = λ c all f has. let d = dials c f.far f.told in
      inr (
        sym (said_down (node_at (alone all) y) log first count (up_of all y f.far f.same false d.0)),
        record { far = record { nodes = f.far.nodes; present = None; answers = [] }; told = d.1; same = f.same },
      );
}

-- it was dialed
abbrev pub Reached : (Config → Far → Type 0) → (Config → Far → Type 0) → ℕ → Type 0
Reached T U y = (c : Config) (far : Far) → T c far → (is_up_in far.nodes y ≡ true) × U c (record { nodes = far.nodes; present = Some y; answers = [] })

pub faces : (T U : Config → Far → Type 0) (y : ℕ) → Reached T U y → (c : Config) (all : List (ℕ × Node)) → Stand (T c) all → (is_up_in all y ≡ true) × Faces (U c) all y
faces T U y dials c all f = let d = dials c f.far f.told in
    (up_of all y f.far f.same true d.0, record { far = record { nodes = f.far.nodes; present = Some y; answers = [] }; told = d.1; same = f.same; present = refl; none = refl })

pub stands : {T : Far → Type 0} {all : List (ℕ × Node)} {y : ℕ} → Faces T all y → Stand T all
stands f = record { far = f.far; told = f.told; same = f.same }

-- it was silent before it answered the first two asks
pub answers_none : (json : Bool) (T U V : Config → Far → Type 0) (s : Bool) (log y first count : ℕ) (o n : List ℕ) → Reached T U y → Unheard U s log y o n → Heard (answers_text json) T V s log y first count o n false
answers_none json T U V s log y first count o n dials p = record {
  said = Silent;
  is = tt;
  whole_is = refl;
  written = p.written ∙ sym (append-nil o);
  told = λ c all f has. let d = faces T U y dials c all f in inl (p.told c all d.1 d.0 has);
}

-- and behind it
pub answers_heard : {json : Bool} (T U V W : Config → Far → Type 0) (s t : Bool) (log y first count trim : ℕ) (o m n : List ℕ) (whole : Bool) → Reached T U y → (s ≡ true → t ≡ true)
    → HeardPoints json U V s log y o m trim → HeardStates json V W t log y trim first count m n whole → Heard (answers_text json) T W t log y first count o n whole
answers_heard {json} T U V W s t log y first count trim o m n whole dials quiet p q = record {
  said = Points p.first p.second q.states whole;
  is = (q.rest, ap (λ k. asked k first count) (sym p.is) ∙ q.are, q.all);
  whole_is = refl;
  written = q.written ∙ ap (λ l. l ++ state_lines json y q.states) p.written ∙ append_assoc o (points_line json y p.first p.second) (state_lines json y q.states);
  told = λ c all f has. let d = faces T U y dials c all f in
      ⊎_elim (λ x. inl (quiet x)) (λ h. ⊎_elim inl (λ k. inr (
        ap (λ b. Points p.first p.second q.states b) k.0
            ∙ ap (λ l. Points p.first p.second l true) k.1
            ∙ ap (λ n. Points p.first p.second (states_of (node_at (alone all) y) log (asked n first count)) true) (p.is ∙ ap trim_told h.0)
            ∙ ap (λ b. Points b p.second (states_of (node_at (alone all) y) log (asked (trim_told (node_answer (node_at (alone all) y) log first_number)) first count)) true) h.0
            ∙ ap (λ b. Points (node_answer (node_at (alone all) y) log first_number) b (states_of (node_at (alone all) y) log (asked (trim_told (node_answer (node_at (alone all) y) log first_number)) first count)) true) h.1
            ∙ sym (said_up (node_at (alone all) y) log first count d.0),
        stands k.2,
      )) (q.told c all h.2 d.0 has)) (p.told c all d.1 d.0 has);
}

-- with the line that says that it is silent, where it is
pub said_heard : (json : Bool) {T U : Config → Far → Type 0} {s : Bool} {log y first count : ℕ} {o m : List ℕ} → Heard (answers_text json) T U s log y first count o m true → Heard (said_text json) T U s log y first count o m true
said_heard json {T} {U} {s} {log} {y} {first} {count} {o} {m} p = record {
  said = p.said;
  is = p.is;
  whole_is = p.whole_is;
  written = p.written ∙ ap (λ l. o ++ l) (sym (append-nil (answers_text json y p.said)) ∙ ap (λ (b : Bool). answers_text json y p.said ++ (if b then [] else silent_line json y)) p.whole_is);
  told = p.told;
}

pub said_silent : (json : Bool) {T U : Config → Far → Type 0} {s : Bool} {log y first count : ℕ} {o m n : List ℕ} → Heard (answers_text json) T U s log y first count o m false → n ≡ m ++ silent_line json y → Heard (said_text json) T U s log y first count o n false
said_silent json {T} {U} {s} {log} {y} {first} {count} {o} {m} {n} p w = record {
  said = p.said;
  is = p.is;
  whole_is = p.whole_is;
  written = w ∙ ap (λ l. l ++ silent_line json y) p.written ∙ append_assoc o (answers_text json y p.said) (silent_line json y)
      ∙ ap (λ (b : Bool). o ++ (answers_text json y p.said ++ (if b then [] else silent_line json y))) p.whole_is;
  told = p.told;
}

-- ---- all nodes ----

pub none_heard : {json : Bool} {T : Config → Far → Type 0} {s : Bool} {log first count : ℕ} {o : List ℕ} → HeardAll json T T s log first count [] o o true
none_heard {json} {T} {s} {log} {first} {count} {o} = record { saids = []; nodes_are = refl; are = λ k d l. absurd (omega arith); whole_is = refl; written = sym (append-nil o); told = λ c all f has. inr (refl, f) }

pub as_and : (a b : Bool) → (if b then a else false) ≡ (a && b)
as_and true true = refl
as_and true false = refl
as_and false true = refl
as_and false false = refl

pub and_true : (b : Bool) → (b && true) ≡ b
and_true true = refl
and_true false = refl

only_one : (P : (ℕ × Said) → Type 0) (x : ℕ × Said) → P x → All P (x ∷ [])
only_one P x h zero d l = h
only_one P x h (suc k) d l = absurd (omega arith)

pub one_more_heard : {json : Bool} {T U V : Config → Far → Type 0} {s t : Bool} {log first count y : ℕ} {ys : List ℕ} {o m n : List ℕ} {a b : Bool} (whole : Bool) → (s ≡ true → t ≡ true) → whole ≡ (if b then a else false)
    → HeardAll json T U s log first count ys o m a → Heard (said_text json) U V t log y first count m n b → HeardAll json T V t log first count (ys ++ y ∷ []) o n whole
one_more_heard {json} {T} {U} {V} {s} {t} {log} {first} {count} {y} {ys} {o} {m} {n} {a} {b} whole quiet is p q = record {
  saids = p.saids ++ (y, q.said) ∷ [];
  nodes_are = map-append (λ (s : ℕ × Said). s.0) p.saids ((y, q.said) ∷ []) ∙ ap (λ l. l ++ y ∷ []) p.nodes_are;
  are = All-append (λ (s : ℕ × Said). IsSaid first count s.1) p.saids ((y, q.said) ∷ []) p.are (only_one (λ (s : ℕ × Said). IsSaid first count s.1) (y, q.said) q.is);
  whole_is = is ∙ as_and a b ∙ ap (λ x. x && b) p.whole_is ∙ ap (λ x. list_all (λ (s : ℕ × Said). is_whole s.1) p.saids && x) (q.whole_is ∙ sym (and_true (is_whole q.said)))
      ∙ sym (list_all-append (λ (s : ℕ × Said). is_whole s.1) p.saids ((y, q.said) ∷ []));
  written = q.written ∙ ap (λ l. l ++ said_text json y q.said) p.written ∙ append_assoc o (saids_text json p.saids) (said_text json y q.said)
      ∙ ap (λ l. o ++ l) (ap (λ l. saids_text json p.saids ++ l) (sym (append-nil (said_text json y q.said))) ∙ sym (flat_map-append (λ (s : ℕ × Said). said_text json s.0 s.1) p.saids ((y, q.said) ∷ [])));
  told = λ c all f has. ⊎_elim (λ x. inl (quiet x)) (λ h. ⊎_elim inl (λ k. inr (
    ap (λ l. l ++ (y, q.said) ∷ []) h.0 ∙ ap (λ (x : Said). saids_of all log first count ys ++ (y, x) ∷ []) k.0
        ∙ sym (map-append (λ z. (z, said_of (node_at (alone all) z) log first count)) ys (y ∷ [])),
    k.1,
  )) (q.told c all h.1 has)) (p.told c all f has);
}

pub broken_on : (f g h d e k : ℕ) → g ≤ h → e ≤ k → IsBroken f g d e → IsBroken f h d k
broken_on f g h d e k l m (inl r) = inl (omega arith)
broken_on f g h d e k l m (inr r) = inr (omega arith)

pub broken_since : (f g h d e k : ℕ) → f ≤ g → d ≤ e → IsBroken g h e k → IsBroken f h d k
broken_since f g h d e k l m (inl r) = inl (omega arith)
broken_since f g h d e k l m (inr r) = inr (omega arith)

-- one of the nodes before was silent, or this one is
pub broken_more : (f g h d e k : ℕ) (a b w : Bool) → w ≡ (if b then a else false) → (a ≡ false → IsBroken f g d e) → (b ≡ false → IsBroken g h e k) → AreLater f g d e → AreLater g h e k → w ≡ false → IsBroken f h d k
broken_more f g h d e k a true w i p q l m n = broken_on f g h d e k m.0 m.1 (p (sym i ∙ n))
broken_more f g h d e k a false w i p q l m n = broken_since f g h d e k l.0 l.1 (q refl)
