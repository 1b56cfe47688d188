-- A message that releases a number makes a node keep nothing.
use Rattle.std.proofs.Common.{◌≡◌, ℕ, Bool, true, false, List, Option, Some, None, refl, if◌then◌else◌, Result, Ok, Err, OnOk, OnErr}
use Rattle.ld_msg.specs.declared.msg.Msg.{Msg}
use Rattle.ld_msg.specs.declared.msg.Body.{Body}
use Rattle.ld_msg.specs.declared.msg.Body.TheVariants as bodies
use Rattle.ld_msg.specs.Bounds.{ballot_of}
use Rattle.ld_op.specs.declared.op.Op.{Op}
use Rattle.ld_op.specs.Plain.{Plain, Log, log_of}
use Rattle.ld_op.specs.Answers.{Handled, silent}
use Rattle.ld_op.specs.Ticks.{on_page}
use Rattle.ld_op.specs.Handles.{handled_by}
use Rattle.ld_node.specs.Changes.{IsChange, AreChanges}
use Rattle.ld_node.specs.Known.{Known}
use Rattle.ld_node.specs.Msgs.{is_for, handled, number_in, released_by, released_in, raised}

abbrev no_op : Option Op
no_op = None

none_either : (b : Bool) → (if b then no_op else no_op) ≡ no_op
none_either true = refl
none_either false = refl

release_keeps_none : (g : Log) (l y : ℕ) → (on_page g l (bodies.Release y)).op ≡ None
unfolding on_page
release_keeps_none g l y = none_either g.lost

pub number_keeps_none : (id n : ℕ) (g : Log) (l bal r : ℕ) (b : Body) (y : ℕ) → number_in b ≡ Some y → (handled_by id n g l bal r b).op ≡ None
number_keeps_none id n g l bal r (bodies.Release z) y is = release_keeps_none g l z
number_keeps_none id n g l bal r (bodies.Store s lng w) y is = absurd cc
number_keeps_none id n g l bal r (bodies.Stored s) y is = absurd cc
number_keeps_none id n g l bal r (bodies.SealedHere s k) y is = absurd cc
number_keeps_none id n g l bal r (bodies.LostHere s ro x e) y is = absurd cc
number_keeps_none id n g l bal r (bodies.CleanHere s z) y is = absurd cc
number_keeps_none id n g l bal r (bodies.TrimmedHere s t) y is = absurd cc
number_keeps_none id n g l bal r (bodies.DigestAsk s) y is = absurd cc
number_keeps_none id n g l bal r (bodies.DigestPage from upto trim lng es) y is = absurd cc
number_keeps_none id n g l bal r (bodies.Clean e z) y is = absurd cc
number_keeps_none id n g l bal r (bodies.Trim t) y is = absurd cc
number_keeps_none id n g l bal r (bodies.ReadAsk ro s) y is = absurd cc
number_keeps_none id n g l bal r (bodies.ReadPage ro s u c es) y is = absurd cc
number_keeps_none id n g l bal r (bodies.ReadEnded ro s e lossy) y is = absurd cc
number_keeps_none id n g l bal r (bodies.ReadTrim ro s t) y is = absurd cc
number_keeps_none id n g l bal r (bodies.ReadWait ro s e) y is = absurd cc
number_keeps_none id n g l bal r (bodies.ReadOne ro s set excluded) y is = absurd cc

where_for : (b : Bool) (h : Handled) (o : Option ℕ) (y : ℕ) → (o ≡ Some y → h.op ≡ None) → (if b then o else None) ≡ Some y → (if b then h else silent).op ≡ None
where_for true h o y none is = none is
where_for false h o y none is = absurd cc

told_if : (b : Bool) (o : Option ℕ) (y : ℕ) → (if b then o else None) ≡ Some y → o ≡ Some y
told_if true o y is = is
told_if false o y is = absurd (cc is)

-- a number that is released is one that the message tells
pub told_number : (id : ℕ) (known : Known) (m : Msg) (y : ℕ) → released_by id known m ≡ Some y → number_in m.body ≡ Some y
unfolding released_by
told_number id known m y is = told_if (is_for id known m) (number_in m.body) y is

pub releases_keep_none : (id : ℕ) (known : Known) (released : List (ℕ × ℕ)) (p : Plain) (m : Msg) (y : ℕ) → released_by id known m ≡ Some y → (handled id known released p m).op ≡ None
unfolding handled released_by
releases_keep_none id known released p m y is =
    where_for (is_for id known m) (handled_by id p.generation (log_of p m.log) m.log (ballot_of m.from) (released_in released m.log) m.body) (number_in m.body) y
    (λ number. number_keeps_none id p.generation (log_of p m.log) m.log (ballot_of m.from) (released_in released m.log) m.body y number) is

-- where an op is kept, nothing is released
pub none_raised : (released : List (ℕ × ℕ)) (l : ℕ) (n : Option ℕ) → ((y : ℕ) → n ≡ Some y → ⊥) → raised released l n ≡ released
none_raised released l None none = refl
none_raised released l (Some y) none = absurd (none y refl)

pub on_err : {T E : Type 0} (r : Result T E) (P : Type 0) → P → OnErr r P
on_err (Ok v) P p = tt
on_err (Err e) P p = p

pub on_ok : {T E : Type 0} (r : Result T E) (P : Type 0) → P → OnOk r P
on_ok (Ok v) P p = p
on_ok (Err e) P p = tt

pub changes_of : (op : Option Op) → ((o : Op) → op ≡ Some o → IsChange o) → AreChanges op
changes_of None each = tt
changes_of (Some o) each = each o refl
